-- What the sweeper leaves of one version that it sweeps.
use Rattle.std.specs.Prelude.{◌≡◌, ◌≢◌, ◌<◌, ℕ, false, List, Some, All, IsTrue}
use Rattle.clay_grid.specs.Shape.{Shape, stripe_length}
use Rattle.store_core.specs.Lists.{is_among}
use Rattle.store_core.specs.Lookups.{first_garbage, is_pinned}
use Rattle.store_core.specs.Step.{Places}
use Rattle.store_core.specs.Sweep.{Sweeper}
use Rattle.session_rules.specs.State.{State}
use Rattle.session_rules.specs.Alone.{sweeps}
use Rattle.session_rules.specs.Seen.{version_of, snapshot_numbers, live_numbers, IsSeenAs}

-- a version that stands for no number of which requests may speak
abbrev pub IsUnseen : List ℕ → State → ℕ → Type 0
IsUnseen stands s version = (number : ℕ) → IsTrue (is_among number (live_numbers s)) → version_of stands number ≢ version

-- the sweeper has taken a version and swept it: the places are seen as the same state, and no server holds it
pub record IsSwept (g : Shape) (max : ℕ) (stands : List ℕ) (p : Places) (s : State) (version : ℕ) : Type 0 where
  pub made : ℕ
  pub after : Places
  pub idle : sweeps g made (record { sweeper = Sweeper.Idle; places = p }) ≡ record { sweeper = Sweeper.Idle; places = after }
  pub seen : IsSeenAs g max stands after s
  pub gone : All (λ server. is_among version server.held ≡ false) after.servers

-- the versions that a snapshot keeps are pinned, so the sweeper passes them by
abbrev pub KeepsPinned : List ℕ → Places → State → Type 0
KeepsPinned stands p s = (number : ℕ) → IsTrue (is_among number (snapshot_numbers s.snapshot)) → IsTrue (is_pinned p.directory (version_of stands number))

-- what the sweeper takes stands for no live number
abbrev pub GarbageIsUnseen : Type 0
GarbageIsUnseen =
    (g : Shape) (max : ℕ) (stands : List ℕ) (p : Places) (s : State) (version : ℕ) → IsSeenAs g max stands p s → KeepsPinned stands p s →
    first_garbage p.directory ≡ Some version → IsUnseen stands s version

-- so it does with the first garbage, where that is unseen
abbrev pub SweepsAreUnseen : Type 0
SweepsAreUnseen =
    (g : Shape) (max : ℕ) (stands : List ℕ) (p : Places) (s : State) (version : ℕ) → 0 < stripe_length g → IsSeenAs g max stands p s →
    first_garbage p.directory ≡ Some version → IsUnseen stands s version → IsSwept g max stands p s version
