-- The fields of a writing as callers see them, and what they keep.
use Rattle.std.specs.Prelude.{◌≡◌, ⊤, ℕ, ◌+◌, ◌^◌, ◌<◌, ◌≤◌, Bool, true, false, List, length, map, Option, None, Some, IfSome, IsTrue, is_some, All, vec_capacity}
use Rattle.std.specs.List.{slice_get}
use Rattle.clay_grid.specs.Shape.{Shape, chunk_count}
use Rattle.store_map.specs.declared.placement.Placement.{Placement}
use Rattle.store_core.specs.Placements.{IsRow, skipped_count}
use Rattle.version_seal.specs.Entry.{StampOf}
use Rattle.write_course.specs.Chunks.{PlacingOf}
use Rattle.write_course.specs.States.{Prepared, Settled, state_by}
use Rattle.write_course.specs.Writings.{WritingOf, versions_of}
use Rattle.write_course.specs.declared.writing_stage.WritingStage.{WritingStage}
use Rattle.write_course.specs.declared.writing_stage.WritingStage.TheVariants as doing
use Rattle.write_course.specs.declared.writing.Writing.TheInside.{Inside}

-- the rows of placements
abbrev pub prepared_in : Inside → Prepared
prepared_in a = record { rows = map (λ row. row.items) a.rows.items; work = a.work }

abbrev pub settled_in : Inside → Settled
settled_in a = record { point = a.point.0; at = a.at; server = a.server }

-- chunks are to be made of a version at work that has none
abbrev pub due_by : WritingStage → Option PlacingOf → Bool
due_by doing.Preparing None = true
due_by _ work = false

-- what callers see
abbrev pub writing_in : Inside → WritingOf
writing_in a =
    record {
      book = a.opening;
      first = a.first;
      stamps = a.stamps.items;
      state = state_by a.doing a.opening.geometry a.first (versions_of a.stamps.items) (prepared_in a) (settled_in a);
      due = due_by a.doing a.work;
    }

-- the version at work is the one after those that are prepared, a server is left to be asked, not too many were away, and there is room for its row
pub record IsAtWork (g : Shape) (stamps : List StampOf) (rows : List (List Placement)) (room : ℕ) (placing : PlacingOf) : Type 0 where
  pub code : placing.geometry ≡ g
  pub own : slice_get stamps (length rows) ≡ Some placing.stamp
  pub left : length placing.row < chunk_count g
  pub few : skipped_count placing.row ≤ g.parity_count
  pub room_left : length rows < room

-- while chunks are prepared
pub record IsPreparing (g : Shape) (stamps : List StampOf) (room : ℕ) (p : Prepared) : Type 0 where
  pub more : length p.rows < length stamps
  pub working : IfSome p.work (λ placing. IsAtWork g stamps p.rows room placing)

-- while chunks are settled
pub record IsSettling (g : Shape) (stamps : List StampOf) (s : Settled) : Type 0 where
  pub more : s.at < length stamps
  pub there : s.server < chunk_count g

-- too many were away for a version
pub record IsGivenUp (stamps : List StampOf) (p : Prepared) : Type 0 where
  pub more : length p.rows < length stamps
  pub there : IsTrue (is_some p.work)

-- by what is done
abbrev pub Keeps : WritingStage → Shape → List StampOf → ℕ → Prepared → Settled → Type 0
Keeps doing.Preparing g stamps room p s = IsPreparing g stamps room p
Keeps doing.Committing g stamps room p s = length p.rows ≡ length stamps
Keeps doing.Settling g stamps room p s = IsSettling g stamps s
Keeps doing.TooManyAway g stamps room p s = IsGivenUp stamps p
Keeps _ g stamps room p s = ⊤

-- what every writing keeps: servers, stamps of its book whose stripes have numbers, whole rows, and what its next step needs
pub record IsWriting (a : Inside) : Type 0 where
  pub servers : 0 < chunk_count a.opening.geometry
  pub home : All (λ stamp. stamp.home ≡ a.opening.home) a.stamps.items
  pub numbered : a.first + length a.stamps.items ≤ 2 ^ 32
  pub whole : All (IsRow a.opening.geometry) (map (λ row. row.items) a.rows.items)
  pub kept : Keeps a.doing a.opening.geometry a.stamps.items (vec_capacity a.rows) (prepared_in a) (settled_in a)
