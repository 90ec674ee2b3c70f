-- What stays of a snapshot, whatever steps others make.
use Rattle.std.specs.Prelude.{◌≡◌, ℕ, Bool, false, List, All, IsTrue}
use Rattle.store_map.specs.declared.actor.Actor.{Actor}
use Rattle.store_core.specs.Act.{DirectoryStep}
use Rattle.store_core.specs.Directory.{Directory}
use Rattle.store_core.specs.Lookups.{same_actor, is_pinned}
use Rattle.store_core.specs.AtDirectory.{at_directory}
use Rattle.store_core.specs.Agreement.{ActorToken, Agrees}
use Rattle.store_core.specs.Tokens.{actor_of}
use Rattle.stripe_dir.specs.Installed.{IsLiveIn}
use Rattle.snapshot_view.specs.Tickets.{AgreesWithAll, pins_of}

-- a step of any other actor, a reap and the sweeper's among them, leaves the directory in agreement with the tickets; what a pass pins is pinned
-- there until it is reaped
pub record SnapshotsStay : Type 0 where
  pub others :
      (short : Bool) (who : Actor) (number : ℕ) (step : DirectoryStep) (d : Directory) (tokens : List ActorToken) →
      All (λ token. same_actor who (actor_of token) ≡ false) tokens → AgreesWithAll d tokens →
      AgreesWithAll (at_directory short who number step d).0 tokens
  pub pinned :
      (d : Directory) (token : ActorToken) → Agrees d token → IsLiveIn d (actor_of token) →
      All (λ pin. IsTrue (is_pinned d pin.version)) (pins_of token)
