-- A snapshot that is taken or dropped: what is seen of the places stays.
use Rattle.std.specs.Prelude.{ℕ, List}
use Rattle.clay_grid.specs.Shape.{Shape}
use Rattle.store_core.specs.Step.{Places}
use Rattle.session_rules.specs.State.{State}
use Rattle.session_rules.specs.Snapshots.{snap, snap_drop}
use Rattle.session_rules.specs.Seen.{IsSeenAs}

-- the places are seen as the state with the snapshot, or without it
pub record SnapsAreSeen : Type 0 where
  pub taken : (g : Shape) (max : ℕ) (stands : List ℕ) (p : Places) (s : State) → IsSeenAs g max stands p s → IsSeenAs g max stands p (snap s.snapshot s).0
  pub dropped : (g : Shape) (max : ℕ) (stands : List ℕ) (p : Places) (s : State) → IsSeenAs g max stands p s → IsSeenAs g max stands p (snap_drop s.snapshot s).0
