-- After a call all garbage is swept, and the places are quiet.
use Rattle.std.specs.Prelude.{◌≡◌, ◌<◌, ℕ, List, Bool, true, false, map, All, IsTrue}
use Rattle.std.specs.List.{slice_get}
use Rattle.clay_grid.specs.Shape.{Shape, stripe_length}
use Rattle.store_core.specs.Directory.{Standing, Directory}
use Rattle.store_core.specs.Lookups.{holds_standing}
use Rattle.store_core.specs.Step.{Places}
use Rattle.store_core.specs.Sweep.{Sweeper}
use Rattle.session_rules.specs.State.{State}
use Rattle.session_rules.specs.Alone.{sweeps}
use Rattle.session_rules.specs.Seen.{version_of, snapshot_numbers, IsSeenAs, IsOfSnapshot, IsAtRest, IsQuiet}
use Rattle.session_rules.specs.Sweeps.{KeepsPinned}

-- of a version that an object has, or that the sweeper may still take
abbrev pub is_kept_standing : Standing → Bool
is_kept_standing Standing.Current = true
is_kept_standing Standing.Superseded = true
is_kept_standing _ = false

-- the version is one of those
abbrev pub IsKept : Directory → ℕ → Type 0
IsKept d version = IsTrue (holds_standing is_kept_standing (slice_get d.versions version))

-- no call is in work but a snapshot's looks, no version is drawn or taken, and servers hold no chunk of one that was swept
pub record IsSettled (stands : List ℕ) (p : Places) (s : State) : Type 0 where
  pub passes : All (IsOfSnapshot (map (version_of stands) (snapshot_numbers s.snapshot))) p.directory.passes
  pub held : All (λ server. All (IsKept p.directory) server.held) p.servers
  pub standing : All IsAtRest p.directory.versions

-- the sweeper has swept all garbage: the places are quiet, and seen as the same state
pub record AreSwept (g : Shape) (max : ℕ) (stands : List ℕ) (p : Places) (s : State) : Type 0 where
  pub made : ℕ
  pub after : Places
  pub idle : sweeps g made (record { sweeper = Sweeper.Idle; places = p }) ≡ record { sweeper = Sweeper.Idle; places = after }
  pub seen : IsSeenAs g max stands after s
  pub pinned : KeepsPinned stands after s
  pub quiet : IsQuiet stands after s

-- so it does with any number of garbage versions
abbrev pub AllGarbageIsSwept : Type 0
AllGarbageIsSwept =
    (g : Shape) (max : ℕ) (stands : List ℕ) (p : Places) (s : State) → 0 < stripe_length g → IsSeenAs g max stands p s → KeepsPinned stands p s → IsSettled stands p s →
    AreSwept g max stands p s
