-- A caller with its turns at all places of a store.
use Rattle.std.specs.Prelude.{◌≡◌, ℕ, ◌+◌, ◌<◌, ◌≤◌, Bool, true}
use Rattle.store_map.specs.Limits.{tries_of}
use Rattle.store_map.specs.declared.actor.Actor.TheVariants as actor
use Rattle.store_map.specs.declared.script.Script.{Script}
use Rattle.store_core.specs.Work.{has_step}
use Rattle.world_laws.specs.Known.{calling_of}
use Rattle.actors.specs.Callers.{Knows, StandsIn, who_of, work_of}
use Rattle.thread_laws.specs.Noted.{made_in}
use Rattle.thread_laws.specs.Numbers.{IsTurnOf}
use Rattle.thread_laws.specs.Callers.{IsCalling}
use Rattle.thread_laws.specs.Logs.{counts_of, own_at}
use Rattle.thread_laws.specs.Measure.{left_at, bound_of}
use Rattle.run_seats.specs.Owing.{OwesBySteps}
use Rattle.run_seats.specs.Places.{IsStore, HasTurns, seen_by}
use Rattle.run_seats.specs.Seen.{seen_there}
use Rattle.run_seats.specs.declared.seated.Seated.{Seated}
use Rattle.run_seats.specs.declared.store.Store.{Store}

-- the steps that it has left
abbrev pub left_by : Store → Seated → ℕ
left_by store seated = left_at store.script.now (work_of seated.caller.part) (own_at seated.turns.number (seen_by seated.turns))

-- it has its calls of the script and its turns, and its own entries at all places are the steps that lead to where it stands; a client's calls are owed what they read by what its turn has seen
pub record IsSeated (store : Store) (seated : Seated) : Type 0 where
  pub turns : HasTurns store seated.turns
  pub part : StandsIn store.script.now seated.place seated.caller.part
  pub book : seated.caller.book ≡ store.book.now
  pub tries : seated.caller.tries ≡ tries_of store.script.now
  pub whose : seated.actor ≡ who_of seated.caller.part seated.place
  pub turn : IsTurnOf (counts_of store.script.now) seated.turns.number seated.actor
  pub calling : IsCalling store.script.now seated.actor (work_of seated.caller.part) (own_at seated.turns.number (seen_by seated.turns)) seated.caller.actor
  pub knows : Knows (seen_there seated.turns.directory.seen seated.caller.book) seated.caller
  pub owes : (i : ℕ) → seated.actor ≡ actor.Client i → OwesBySteps store.script.now (made_in seated.turns.directory.seen) i seated.caller
  pub counted : seated.steps + left_by store seated ≤ bound_of store.script.now (work_of seated.caller.part)

-- whether it has a step
abbrev pub seated_has : Script → Seated → Bool
seated_has script seated = has_step (work_of seated.caller.part) (calling_of script seated.caller.actor)

-- it has a step
pub record MayStep (store : Store) (seated : Seated) : Type 0 where
  pub store_is : IsStore store
  pub seated_is : IsSeated store seated
  pub has : seated_has store.script.now seated ≡ true

-- after a step it has fewer left, and has counted it
pub record StepsOn (store : Store) (before after : Seated) : Type 0 where
  pub seated_is : IsSeated store after
  pub same : after.turns.number ≡ before.turns.number
  pub falls : left_by store after < left_by store before
  pub one_more : after.steps ≡ before.steps + 1
