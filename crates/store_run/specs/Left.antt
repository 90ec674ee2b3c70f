-- What the actors of a run leave that have no step left.
use Rattle.std.specs.Prelude.{◌≡◌, ℕ, ◌+◌, false, List, length, map, Some}
use Rattle.std.specs.List.{slice_get}
use Rattle.clay_grid.specs.Shape.{chunk_count}
use Rattle.call_steps.specs.CallerCalls.{calling_at}
use Rattle.call_steps.specs.declared.caller_calls.CallerCalls.{CallerCalls}
use Rattle.world_laws.specs.Known.{calling_by}
use Rattle.sweeper.specs.Sweeps.{SweeperOf}
use Rattle.actors.specs.Inside.{served_of}
use Rattle.turn_lock.specs.Piles.{items_of}
use Rattle.run_seats.specs.SeatedActors.{IsSeatedActor, actor_has, number_of}
use Rattle.run_seats.specs.declared.seated.Seated.{Seated}
use Rattle.run_seats.specs.declared.seated_actor.SeatedActor.{SeatedActor}
use Rattle.run_seats.specs.declared.seated_actor.SeatedActor.TheVariants as kind
use Rattle.run_seats.specs.declared.seated_sweeper.SeatedSweeper.{SeatedSweeper}
use Rattle.run_seats.specs.declared.store.Store.{Store}
use Rattle.run_seats.specs.declared.seat_turns.Turns.{Turns}
use Rattle.store_run.specs.Dealt.{turns_of}
use Rattle.store_run.specs.declared.left_workers.Left.{Left}

-- its turns
abbrev pub turns_in : SeatedActor → Turns
turns_in (kind.Caller seated) = seated.turns
turns_in (kind.Sweeper sweeper) = sweeper.turns
turns_in (kind.Operator operator) = operator.turns

-- an actor of this number without a step
pub record IsOver (store : Store) (number : ℕ) (actor : SeatedActor) : Type 0 where
  pub seated_is : IsSeatedActor store actor
  pub numbered : number_of actor ≡ number
  pub over : actor_has store.script.now actor ≡ false

-- the calls that the actor of this number leaves
pub record LeavesCalls (actors : List SeatedActor) (number : ℕ) (calls : CallerCalls) : Type 0 where
  pub seated : Seated
  pub there : slice_get actors number ≡ Some (kind.Caller seated)
  pub same : calling_at (chunk_count seated.caller.book.geometry) calls ≡ calling_by (chunk_count seated.caller.book.geometry) seated.caller.actor.ended seated.caller.actor.doing
  pub served : served_of calls.ended.items ≡ seated.caller.served

-- the sweeper that the actor of this number leaves
pub record LeavesSweeper (actors : List SeatedActor) (number : ℕ) (sweeper : SweeperOf) : Type 0 where
  pub seated : SeatedSweeper
  pub there : slice_get actors number ≡ Some (kind.Sweeper seated)
  pub same : sweeper ≡ seated.sweeper

-- all actors of a store are over, in the order of their numbers: their turns at the directory, a row of turns of each for the servers, the calls of clients and of repairers, and the sweeper
pub record HasLeft (store : Store) (left : Left) : Type 0 where
  pub actors : List SeatedActor
  pub count : length actors ≡ turns_of store.script.now
  pub each : (n : ℕ) (actor : SeatedActor) → slice_get actors n ≡ Some actor → IsOver store n actor
  pub directory : left.directory.items ≡ map (λ actor. (turns_in actor).directory) actors
  pub rows : items_of left.rows.items ≡ map (λ actor. (turns_in actor).servers.items) actors
  pub client_count : length left.clients.items ≡ length store.script.now.clients
  pub clients : (i : ℕ) (calls : CallerCalls) → slice_get left.clients.items i ≡ Some calls → LeavesCalls actors i calls
  pub repairer_count : length left.repairers.items ≡ length store.script.now.repairers
  pub repairers : (i : ℕ) (calls : CallerCalls) → slice_get left.repairers.items i ≡ Some calls → LeavesCalls actors (length store.script.now.clients + i) calls
  pub sweeper : LeavesSweeper actors (length store.script.now.clients + length store.script.now.repairers) left.sweeper
