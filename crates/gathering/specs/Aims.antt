-- What a course was made for, how its missing servers were found, and how it ended.
use Rattle.std.specs.Prelude.{◌≡◌, ⊤, ℕ, List, Option, None, Some}
use Rattle.store_core.specs.Told.{Lost, Seen}
use Rattle.store_core.specs.Gathering.{Part}
use Rattle.run_laws.specs.Stage.{Aim, Stage}
use Rattle.gathering.specs.declared.aim.CourseAim.{CourseAim}
use Rattle.gathering.specs.declared.aim.CourseAim.TheVariants as own
use Rattle.gathering.specs.declared.ending.Ending.{Ending}
use Rattle.gathering.specs.declared.ending.Ending.TheVariants as ending

-- of a pinned stripe
abbrev pub aim_of : Seen → CourseAim → Aim
aim_of seen (own.Range start end) = Aim.Range (record { seen = seen; start = start; end = end })
aim_of seen (own.Chunk target) = Aim.Chunk seen target

-- the chunk that is made anew
abbrev pub target_of : Aim → Option ℕ
target_of (Aim.Range part) = None
target_of (Aim.Chunk seen target) = Some target

-- of a part of a stripe's bytes
abbrev pub IfRange : Aim → (Part → Type 0) → Type 0
IfRange (Aim.Range part) holds = holds part
IfRange (Aim.Chunk seen target) holds = ⊤

-- where too many are missing, these are they
abbrev pub IsTooMany : Stage → List Lost → Type 0
IsTooMany (Stage.TooMany missing) lost = lost ≡ missing
IsTooMany stage lost = ⊤

-- how it ended without its bytes, if it did
abbrev pub ending_at : Stage → Option Ending
ending_at (Stage.TooMany missing) = Some ending.TooMany
ending_at Stage.AtTarget = Some ending.AtTarget
ending_at (Stage.TargetAway downs) = Some (ending.TargetAway downs)
ending_at Stage.Short = Some ending.Short
ending_at stage = None
