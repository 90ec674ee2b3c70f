-- The sweeper of a session's places.
use Rattle.std.specs.Prelude.{◌≡◌, ℕ, ◌||◌, Bool, false, is_some}
use Rattle.clay_grid.specs.Shape.{chunk_count}
use Rattle.store_map.specs.declared.actor.Actor.TheVariants as actor
use Rattle.store_core.specs.Agreement.{ActorToken, Agrees}
use Rattle.store_core.specs.Calls.{Calls}
use Rattle.store_core.specs.Directory.{Directory}
use Rattle.store_core.specs.Lookups.{same_actor, first_garbage}
use Rattle.store_core.specs.Sweep.{Sweeper, is_busy}
use Rattle.store_core.specs.Tokens.{actor_of}
use Rattle.session_rules.specs.Alone.{sweep, sweeps}
use Rattle.session_rules.specs.Serving.{AreSweptTo}
use Rattle.stripe_stamps.specs.Sealed.{Sealed}
use Rattle.stripe_stamps.specs.Stamped.{HaveContents}
use Rattle.sweeper.specs.Sweeps.{SweeperOf}
use Rattle.world_laws.specs.SweepsLeft.{sweeps_left}
use Rattle.session_store.specs.declared.places.SessionPlaces.{SessionPlaces}
use Rattle.session_store.specs.Places.{ArePlaces, AreSame, seen_in}

-- the sweeper is busy, or finds garbage
abbrev pub has_sweep : SweeperOf → Sealed → Bool
has_sweep sweeper d = is_busy sweeper.at || is_some (first_garbage d.core)

-- the steps that it has left
abbrev pub sweeps_left_in : SweeperOf → SessionPlaces → ℕ
sweeps_left_in sweeper p = sweeps_left p.book.geometry sweeper.at p.directory.core

-- the sweeper of these places
pub record MaySweep (sweeper : SweeperOf) (p : SessionPlaces) : Type 0 where
  pub places : ArePlaces p
  pub servers : sweeper.servers ≡ chunk_count p.book.geometry

-- the directory agrees with the tickets of all others with which it agreed
abbrev pub StillAgrees : Directory → Directory → Type 0
StillAgrees d now = (token : ActorToken) → same_actor actor.Sweeper (actor_of token) ≡ false → Agrees d token → Agrees now token

-- the places stay of the same book, with the same stamps, which have the contents that they had
pub record KeepsStamps (p now : SessionPlaces) : Type 0 where
  pub same : AreSame p now
  pub stamps : now.directory.stamps ≡ p.directory.stamps
  pub agrees : StillAgrees p.directory.core now.directory.core
  pub contents : (calls : Calls) → HaveContents calls p.directory → HaveContents calls now.directory

-- from these places, in which nothing was begun, it has come to those
pub record Sweeps (before : SessionPlaces) (sweeper : SweeperOf) (now : SessionPlaces) : Type 0 where
  pub may : MaySweep sweeper now
  pub made : ℕ
  pub come :
      sweeps before.book.geometry made (record { sweeper = Sweeper.Idle; places = seen_in before })
      ≡ record { sweeper = sweeper.at; places = seen_in now }
  pub keeps : KeepsStamps before now

-- one step of the sweeper leads from there to here
pub record IsSweptBy (sweeper : SweeperOf) (p : SessionPlaces) (after : SweeperOf) (now : SessionPlaces) : Type 0 where
  pub step :
      sweep p.book.geometry (record { sweeper = sweeper.at; places = seen_in p }) ≡ record { sweeper = after.at; places = seen_in now }
  pub servers : after.servers ≡ sweeper.servers
  pub keeps : KeepsStamps p now

-- the sweeper has come to the end of its work
pub record HasSwept (p now : SessionPlaces) : Type 0 where
  pub swept : AreSweptTo p.book.geometry (seen_in p) (seen_in now)
  pub keeps : KeepsStamps p now
