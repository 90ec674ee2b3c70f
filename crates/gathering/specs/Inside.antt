-- The fields of a gathering as callers see them, and what they keep.
use Rattle.std.specs.Prelude.{◌≡◌}
use Rattle.run_laws.specs.Stage.{seen_of}
use Rattle.run_laws.specs.StageAfter.{wanted_layers}
use Rattle.version_seal.specs.Entry.{StampOf}
use Rattle.gathering.specs.Courses.{CourseOf}
use Rattle.gathering.specs.Parts.{Shelf, ArePartsOf, helping_layers}
use Rattle.gathering.specs.Kept.{Keeps}
use Rattle.gathering.specs.Made.{IsWithin}
use Rattle.gathering.specs.Gathers.{GatherOf}
use Rattle.gathering.specs.declared.gather.Gather.TheInside.{Inside}

-- what callers see
abbrev pub gather_in : Inside → GatherOf
gather_in a = record { stamp = a.stamp; course = a.course }

-- what every gathering keeps: what has come is of its version's content
pub record IsGather (stamp : StampOf) (c : CourseOf) (parts helpers : Shelf) : Type 0 where
  pub same_version : stamp.version ≡ (seen_of c.aim).version
  pub within : IsWithin c.geometry c.aim
  pub own_parts : ArePartsOf c.geometry stamp.content (wanted_layers c.geometry c.aim) parts
  pub helper_parts : ArePartsOf c.geometry stamp.content (λ server. helping_layers c.geometry c.gone) helpers
  pub kept : Keeps c.geometry c.aim c.gone parts helpers c.stage

-- of its fields
abbrev pub IsGatherIn : Inside → Type 0
IsGatherIn a = IsGather a.stamp a.course a.wanted.items a.helpers.items
