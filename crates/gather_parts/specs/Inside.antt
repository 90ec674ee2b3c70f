-- The fields of a call's gatherings as callers see them, and what they keep.
use Rattle.std.specs.Prelude.{◌≡◌, ⊤, ℕ, true, List, length, map, replicate, Option, None, Some, is_some, IfSome, All}
use Rattle.std.specs.Vec.Iter.{into_iter_items}
use Rattle.clay_grid.specs.Shape.{Shape, chunk_count}
use Rattle.run_laws.specs.Stage.{Aim, Asking, Stage}
use Rattle.version_seal.specs.Entry.{BookOf}
use Rattle.gathering.specs.Gathers.{GatherOf}
use Rattle.gather_parts.specs.Wanted.{wanted_of, IsPinned}
use Rattle.gather_parts.specs.Gatherings.{GatheringsOf}
use Rattle.gather_parts.specs.declared.gatherings.PartGatherings.TheInside.{Inside}

-- without counts nothing was taken yet
abbrev pub takes_in : Shape → Option (List ℕ) → List ℕ
takes_in g None = replicate (chunk_count g) 0
takes_in g (Some takes) = takes

-- what callers see
abbrev pub gatherings_in : Inside → GatheringsOf
gatherings_in a =
    record {
      book = a.opening;
      current = a.current;
      left = map (wanted_of a.opening.geometry a.start a.end) (into_iter_items a.left);
      bytes = a.bytes.items;
      takes = takes_in a.opening.geometry a.takes;
    }

-- a stage of a part's gathering, which asks no target
abbrev pub IsPartStage : Stage → Type 0
IsPartStage (Stage.Asks (Asking.Target server)) = ⊥
IsPartStage Stage.AtTarget = ⊥
IsPartStage (Stage.TargetAway downs) = ⊥
IsPartStage stage = ⊤

abbrev pub IsOfPart : Aim → Stage → Type 0
IsOfPart (Aim.Range part) stage = IsPartStage stage
IsOfPart (Aim.Chunk seen target) stage = ⊥

-- the gathering at work is of a part of the book
pub record IsAtWork (book : BookOf) (w : GatherOf) : Type 0 where
  pub code : w.course.geometry ≡ book.geometry
  pub home : w.stamp.home ≡ book.home
  pub part : IsOfPart w.course.aim w.course.stage

-- what they keep: all stripes are of the book, and a server is asked only once there are counts
pub record IsKept (a : Inside) : Type 0 where
  pub left : All (IsPinned a.opening) (into_iter_items a.left)
  pub counts : IfSome a.takes (λ takes. length takes ≡ chunk_count a.opening.geometry)
  pub current : IfSome a.current (IsAtWork a.opening)
  pub counted : is_some a.current ≡ true → is_some a.takes ≡ true
