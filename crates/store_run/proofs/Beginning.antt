-- Actors before their first step.
use Rattle.std.proofs.Common.{◌≡◌, ℕ, ◌+◌, ◌≤◌, drop, List, [], Option, None, Some, slice_get, option_map, unwrap_or, refl, sym, ap, subst, ◌∙◌, arith}
use Rattle.std.proofs.lemmas.Option.{none-some, slice_get-map}
use Rattle.clay_grid.specs.Shape.{chunk_count}
use Rattle.store_map.specs.Limits.{size_of, tries_of}
use Rattle.store_map.specs.declared.actor.Actor.TheVariants as actor
use Rattle.store_map.specs.declared.actor.Token.{Token}
use Rattle.store_map.specs.declared.script.Script.{Script}
use Rattle.store_core.specs.Act.{Outcome}
use Rattle.store_core.specs.ActPlace.{ActPlace}
use Rattle.store_core.specs.Work.{Work, new_calling}
use Rattle.thread_laws.specs.AtPlaces.{after_all}
use Rattle.thread_laws.specs.ByActors.{calling_next}
use Rattle.thread_laws.specs.MadeSteps.{MadeStep}
use Rattle.thread_laws.specs.OwnSteps.{own_steps}
use Rattle.thread_laws.specs.Threaded.{lines_of}
use Rattle.stripe_dir.specs.Seats.{first_seat}
use Rattle.sweeper.specs.Sweeps.{new_sweeper}
use Rattle.actors.specs.Callers.{PartOf, StandsIn, first_caller, who_of, work_of}
use Rattle.turn_lock.specs.History.{entries_of}
use Rattle.turn_lock.specs.TurnState.{TurnState}
use Rattle.thread_laws.specs.Entries.{steps_in}
use Rattle.thread_laws.specs.Noted.{Noted, made_in}
use Rattle.thread_laws.specs.Numbers.{IsTurnOf}
use Rattle.thread_laws.specs.Begin.{ActorsBegin}
use Rattle.thread_laws.specs.Callers.{IsOperating}
use Rattle.thread_laws.specs.Logs.{counts_of, log_of, own_at}
use Rattle.thread_laws.specs.Measure.{bound_of, left_of}
use Rattle.thread_laws.proofs.Falling.{begun_left}
use Rattle.thread_laws.proofs.Lists.{own_empty}
use Rattle.thread_laws.proofs.Plain.{all_begin}
use Rattle.store_run.specs.First.{AreNew}
use Rattle.run_seats.specs.Owing.{OwesBySteps}
use Rattle.run_seats.specs.Places.{seen_by}
use Rattle.run_seats.specs.Seated.{IsSeated}
use Rattle.run_seats.specs.SeatedPlain.{IsOperator, IsSweeper}
use Rattle.run_seats.specs.declared.server_box.ServerIdentity.{ServerIdentity}
use Rattle.run_seats.specs.declared.seated.Seated.{Seated}
use Rattle.run_seats.specs.declared.seated_operator.SeatedOperator.{SeatedOperator}
use Rattle.run_seats.specs.declared.seated_sweeper.SeatedSweeper.{SeatedSweeper}
use Rattle.run_seats.specs.declared.store.Store.{Store}
use Rattle.run_seats.specs.declared.seat_turns.Turns.{Turns}

-- ---- turns that have seen nothing
module _ (store : Store) (turns : Turns) (new : AreNew store turns) where
  none_logged : (j : ℕ) → log_of (seen_by turns) j ≡ []
  none_logged j = ap (λ (o : Option (List (ℕ × MadeStep))). unwrap_or o []) (slice_get-map (λ (t : TurnState ServerIdentity MadeStep). t.seen) turns.servers.items j) ∙ by (slice_get turns.servers.items j) refl
    where
      by : (found : Option (TurnState ServerIdentity MadeStep)) → slice_get turns.servers.items j ≡ found → unwrap_or (option_map (λ (t : TurnState ServerIdentity MadeStep). t.seen) found) [] ≡ []
      by None e = refl
      by (Some turn) e = new.servers j turn e

  pub none_own : (number : ℕ) (place : ActPlace) → own_at number (seen_by turns) place ≡ []
  none_own number ActPlace.Directory = ap (λ (l : List (ℕ × Noted)). made_in (entries_of number l)) new.directory
  none_own number (ActPlace.Server j) = ap (λ (l : List (ℕ × MadeStep)). steps_in (entries_of number l)) (none_logged j)

  pub begins : (script : Script) (number : ℕ) → ActorsBegin script (own_at number (seen_by turns))
  begins script number = all_begin script (own_at number (seen_by turns)) (none_own number)

-- ---- a client or a repairer
from_none : (a b : ℕ) → a ≤ b → 0 + a ≤ b
from_none a b h = omega (arith, h)

module _ (store : Store) (seated : Seated) (new : AreNew store seated.turns) (part : PartOf) (stands : StandsIn store.script.now seated.place part) (whose : seated.actor ≡ who_of part seated.place)
    (turn : IsTurnOf (counts_of store.script.now) seated.turns.number seated.actor) (first : seated.caller ≡ first_caller part store.book.now (tries_of store.script.now) (first_seat seated.actor)) (steps : seated.steps ≡ 0) where
  abbrev script : Script
  script = store.script.now

  abbrev work : Work
  work = work_of part

  abbrev own : ActPlace → List MadeStep
  own = own_at seated.turns.number (seen_by seated.turns)

  abbrev made : Seated
  made = record seated { caller = first_caller part store.book.now (tries_of store.script.now) (first_seat seated.actor); steps = 0 }

  left_first : 0 + left_of script work (after_all (calling_next script work) (own_steps (chunk_count script.geometry) own) (new_calling (chunk_count script.geometry))) ≤ bound_of script work
  left_first =
      subst (λ (l : List MadeStep). 0 + left_of script work (after_all (calling_next script work) l (new_calling (chunk_count script.geometry))) ≤ bound_of script work)
      (sym (own_empty (chunk_count script.geometry) own (none_own store seated.turns new seated.turns.number)))
      (from_none _ _ (begun_left script.geometry (size_of script) (tries_of script) work.jobs))

  none_owed : (i : ℕ) → OwesBySteps script (made_in seated.turns.directory.seen) i made.caller
  none_owed i = record { work = tt; count = refl; ended = λ number place bytes e u. absurd (none-some (Outcome.Served place) e) }

  pub first_seated : IsSeated store seated
  first_seated =
      subst (IsSeated store) (sym (λ i. record seated { caller = first i; steps = steps i }))
      (record {
        turns = new.has;
        part = stands;
        book = refl;
        tries = refl;
        whose = whose;
        turn = turn;
        calling = (begins store seated.turns new script seated.turns.number).acting seated.actor work;
        knows = tt;
        owes = λ i client. none_owed i;
        counted = left_first;
      })

-- ---- the sweeper
pub first_sweeper : (store : Store) (seated : SeatedSweeper) → AreNew store seated.turns → IsTurnOf (counts_of store.script.now) seated.turns.number actor.Sweeper
    → seated.sweeper ≡ new_sweeper (chunk_count store.script.now.geometry) → IsSweeper store seated
first_sweeper store seated new turn first =
    subst (IsSweeper store) (sym (λ i. record seated { sweeper = first i }))
    (record { turns = new.has; turn = turn; servers = refl; sweeping = (begins store seated.turns new store.script.now seated.turns.number).sweeping })

-- ---- the operator
pub first_operator : (store : Store) (seated : SeatedOperator) → AreNew store seated.turns → IsTurnOf (counts_of store.script.now) seated.turns.number actor.Operator
    → seated.lines.items ≡ lines_of store.script.now → seated.made ≡ 0 → IsOperator store seated
first_operator store seated new turn lines made =
    record {
      turns = new.has;
      turn = turn;
      lines = lines;
      operating =
          subst (λ (n : ℕ). IsOperating store.script.now (own_at seated.turns.number (seen_by seated.turns)) (drop n seated.lines.items)) (sym made)
          (subst (λ (xs : List Token). IsOperating store.script.now (own_at seated.turns.number (seen_by seated.turns)) xs) (sym lines)
          (begins store seated.turns new store.script.now seated.turns.number).operating);
    }
