-- What the actors of a run leave, one after the other.
use Rattle.std.specs.Prelude.{◌≡◌, ⊤, ℕ, ◌+◌, ◌-◌, ◌<◌, ◌≤◌, Bool, true, false, List, length, map, min, Some, vec_capacity}
use Rattle.std.specs.List.{slice_get}
use Rattle.clay_grid.specs.Shape.{chunk_count}
use Rattle.store_map.specs.declared.actor.Actor.{Actor}
use Rattle.store_map.specs.declared.actor.Actor.TheVariants as actor
use Rattle.store_map.specs.declared.script.Script.{Script}
use Rattle.call_steps.specs.CallerCalls.{calling_at}
use Rattle.call_steps.specs.declared.caller_calls.CallerCalls.{CallerCalls}
use Rattle.world_laws.specs.Known.{calling_by}
use Rattle.actors.specs.Callers.{CallerOf}
use Rattle.actors.specs.Inside.{served_of}
use Rattle.turn_lock.specs.Piles.{items_of}
use Rattle.run_seats.specs.declared.seated.Seated.{Seated}
use Rattle.run_seats.specs.declared.seated_actor.SeatedActor.{SeatedActor}
use Rattle.run_seats.specs.declared.seated_actor.SeatedActor.TheVariants as kind
use Rattle.run_seats.specs.declared.store.Store.{Store}
use Rattle.store_run.specs.Dealt.{turns_of}
use Rattle.store_run.specs.Left.{IsOver, LeavesCalls, LeavesSweeper, turns_in}
use Rattle.store_run.specs.declared.left_workers.Leaving.{Leaving}
use Rattle.store_run.specs.declared.left_workers.Leaving.TheVariants as leaving
use Rattle.store_run.specs.declared.left_workers.Left.{Left}

-- whether it is a client
abbrev pub is_client : Actor → Bool
is_client (actor.Client place) = true
is_client who = false

-- these are the calls of a caller
pub record AreCallsBy (caller : CallerOf) (calls : CallerCalls) : Type 0 where
  pub same : calling_at (chunk_count caller.book.geometry) calls ≡ calling_by (chunk_count caller.book.geometry) caller.actor.ended caller.actor.doing
  pub served : served_of calls.ended.items ≡ caller.served

-- what a caller leaves: its calls, as a client's or as a repairer's
abbrev pub CallerLeaves : Seated → Leaving → Type 0
CallerLeaves seated (leaving.Client calls) = (is_client seated.actor ≡ true) × AreCallsBy seated.caller calls
CallerLeaves seated (leaving.Repairer calls) = (is_client seated.actor ≡ false) × AreCallsBy seated.caller calls
CallerLeaves seated what = ⊥

-- what any actor leaves; of the sweeper it is the sweeper itself, of the operator nothing
abbrev pub Leaves : SeatedActor → Leaving → Type 0
Leaves (kind.Caller seated) what = CallerLeaves seated what
Leaves (kind.Sweeper seated) (leaving.Sweeper sweeper) = sweeper ≡ seated.sweeper
Leaves (kind.Operator seated) leaving.Operator = ⊤
Leaves who what = ⊥

-- there is room for what all actors of a script leave
pub record HasRoom (script : Script) (left : Left) : Type 0 where
  pub clients : length script.clients ≤ vec_capacity left.clients
  pub repairers : length script.repairers ≤ vec_capacity left.repairers
  pub directory : turns_of script ≤ vec_capacity left.directory
  pub rows : turns_of script ≤ vec_capacity left.rows

-- what the first actors of a script leave; the sweeper's is there once it is one of them
pub record HasLeftOf (script : Script) (actors : List SeatedActor) (left : Left) : Type 0 where
  pub room : HasRoom script left
  pub directory : left.directory.items ≡ map (λ actor. (turns_in actor).directory) actors
  pub rows : items_of left.rows.items ≡ map (λ actor. (turns_in actor).servers.items) actors
  pub client_count : length left.clients.items ≡ min (length actors) (length script.clients)
  pub clients : (i : ℕ) (calls : CallerCalls) → slice_get left.clients.items i ≡ Some calls → LeavesCalls actors i calls
  pub repairer_count : length left.repairers.items ≡ min (length actors - length script.clients) (length script.repairers)
  pub repairers : (i : ℕ) (calls : CallerCalls) → slice_get left.repairers.items i ≡ Some calls → LeavesCalls actors (length script.clients + i) calls
  pub sweeper : length script.clients + length script.repairers < length actors → LeavesSweeper actors (length script.clients + length script.repairers) left.sweeper

-- an actor without a step comes next, after those that have left this
pub record IsNextOf (store : Store) (done : List SeatedActor) (actor : SeatedActor) (left : Left) : Type 0 where
  pub left_is : HasLeftOf store.script.now done left
  pub over : IsOver store (length done) actor

-- all actors of a store, none of which has a step, in the order of their numbers
pub record AreAllOver (store : Store) (actors : List SeatedActor) : Type 0 where
  pub count : length actors ≡ turns_of store.script.now
  pub each : (n : ℕ) (actor : SeatedActor) → slice_get actors n ≡ Some actor → IsOver store n actor
