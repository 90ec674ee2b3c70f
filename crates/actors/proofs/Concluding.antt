-- What an actor is after its call's step, where the call goes on and where it is over.
use Rattle.std.proofs.Common.{◌≡◌, ℕ, zero, suc, ◌+◌, Bool, true, false, if◌then◌else◌, List, [], ◌∷◌, ◌++◌, length, map, replicate, nat_lt, Option, None, Some, IfSome, refl, sym, ap, subst, ◌∙◌, true≢false, arith, lt-ltb, ◌||◌}
use Rattle.std.specs.Prelude.{unwrap_or}
use Rattle.std.specs.List.{list_any}
use Rattle.clay_grid.specs.Shape.{chunk_count}
use Rattle.store_core.specs.Act.{Act, Outcome}
use Rattle.store_core.specs.Agreement.{Seat}
use Rattle.store_core.specs.Work.{Ended}
use Rattle.run_laws.specs.State.{State}
use Rattle.run_laws.specs.StateActs.{act_at}
use Rattle.call_steps.specs.CallOf.{CallOf, act_of, taken_of}
use Rattle.call_steps.specs.Steps.{need_by, need_of}
use Rattle.world_laws.specs.World.{DoingOf, ActorOf, steps_of}
use Rattle.world_laws.specs.ActorAfter.{actor_after_by, actor_after}
use Rattle.call_steps.specs.declared.need.Need.{Need}
use Rattle.call_steps.specs.declared.need.Need.TheVariants as need
use Rattle.call_machine.specs.Kinds.{Machine, machine_of}
use Rattle.call_machine.specs.Calls.{MachineOf}
use Rattle.call_steps.specs.CallerCalls.{ended_of}
use Rattle.call_steps.specs.declared.caller_calls.EndedCall.{EndedCall}
use Rattle.call_machine.specs.Going.{GoesOn}
use Rattle.actors.specs.Owing.{AreServed, left_by}
use Rattle.actors.specs.Concluded.{IsConcluded}
use Rattle.actors.specs.Inside.{served_of}

-- a call that has its outcome has ended, and its actor waits
pub over_after : (c : CallOf) (a : ActorOf) (outcome : Outcome) → c.state.at ≡ State.Finished outcome
    → actor_after c a ≡ record { ended = a.ended ++ record { outcome = outcome; takes = c.takes } ∷ []; doing = DoingOf.Between c.token }
over_after c a outcome e = ap (λ (at : State). actor_after_by (act_at c.book.geometry c.tries c.job c.state.pairs at) c a) e

-- so has one whose act is its end
pub ended_after : (c : CallOf) (a : ActorOf) (outcome : Outcome) → act_of c ≡ Act.Finish outcome
    → actor_after c a ≡ record { ended = a.ended ++ record { outcome = outcome; takes = c.takes } ∷ []; doing = DoingOf.Between c.token }
ended_after c a outcome e = ap (λ (act : Act). actor_after_by act c a) e

-- one that goes on has made a step more
goes_on_by : (act : Act) (due : Bool) (c : CallOf) (a : ActorOf) → GoesOn (need_by act due) → actor_after_by act c a ≡ record a { doing = DoingOf.InCall c (steps_of a.doing + 1) }
goes_on_by (Act.AtDirectory step) due c a goes = refl
goes_on_by (Act.AtServer server step) due c a goes = refl
goes_on_by (Act.Finish outcome) due c a goes = absurd goes

pub goes_on_after : (c : CallOf) (a : ActorOf) → GoesOn (need_of c) → actor_after c a ≡ record a { doing = DoingOf.InCall c (steps_of a.doing + 1) }
goes_on_after c a goes = goes_on_by (act_of c) c.due c a goes

-- takes that aren't kept are zeros
none_taken : (takes : List ℕ) → list_any (nat_lt 0) takes ≡ false → takes ≡ replicate (length takes) 0
none_taken [] none = refl
none_taken (zero ∷ takes) none = ap (λ (l : List ℕ). 0 ∷ l) (none_taken takes none)
none_taken (suc n ∷ takes) none =
    let some : nat_lt 0 (suc n) ≡ true = lt-ltb 0 (suc n) (omega arith) in
    absurd (true≢false (sym (ap (λ (b : Bool). b || list_any (nat_lt 0) takes) some) ∙ none))

taken_by : (any : Bool) (takes : List ℕ) (servers : ℕ) → list_any (nat_lt 0) takes ≡ any → length takes ≡ servers
    → unwrap_or (if any then Some takes else None) (replicate servers 0) ≡ takes
taken_by true takes servers is count = refl
taken_by false takes servers is count = ap (λ (n : ℕ). replicate n 0) (sym count) ∙ sym (none_taken takes is)

pub taken_back : (takes : List ℕ) (servers : ℕ) → length takes ≡ servers → unwrap_or (taken_of takes) (replicate servers 0) ≡ takes
taken_back takes servers count = taken_by (list_any (nat_lt 0) takes) takes servers refl count

-- ---- a call that goes on
-- it does where it doesn't need its end
goes_by : (act : Act) (due : Bool) → (need_by act due ≡ need.Finished → ⊥) → GoesOn (need_by act due)
goes_by (Act.AtDirectory step) true other = tt
goes_by (Act.AtDirectory step) false other = tt
goes_by (Act.AtServer server step) true other = tt
goes_by (Act.AtServer server step) false other = tt
goes_by (Act.Finish outcome) due other = other refl

pub not_finished : (c : CallOf) (needs : Need) → needs ≡ need_of c → (needs ≡ need.Finished → ⊥) → GoesOn (need_of c)
not_finished c needs is other = goes_by (act_of c) c.due (λ e. other (is ∙ e))

stays_served : (act : Act) (due : Bool) (m : Machine) (owed : List ℕ) (served : List (Option (List ℕ))) → GoesOn (need_by act due) → AreServed act m owed served served
stays_served (Act.AtDirectory step) due m owed served goes = refl
stays_served (Act.AtServer server step) due m owed served goes = refl
stays_served (Act.Finish outcome) due m owed served goes = absurd goes

pub none_served : (c : CallOf) (m : Machine) (owed : List ℕ) (served : List (Option (List ℕ))) → GoesOn (need_of c) → AreServed (act_of c) m owed served served
none_served c m owed served goes = stays_served (act_of c) c.due m owed served goes

stays_left : (act : Act) (due : Bool) (c : MachineOf) → GoesOn (need_by act due) → Some c ≡ left_by act c
stays_left (Act.AtDirectory step) due c goes = refl
stays_left (Act.AtServer server step) due c goes = refl
stays_left (Act.Finish outcome) due c goes = absurd goes

pub is_left : (c : MachineOf) → GoesOn (need_of c.call) → Some c ≡ left_by (act_of c.call) c
is_left c goes = stays_left (act_of c.call) c.call.due c goes

pub made_step : (c : CallOf) (a : ActorOf) (ended : List Ended) (steps : ℕ) → GoesOn (need_of c) → a.ended ≡ ended → steps_of a.doing ≡ steps
    → record { ended = ended; doing = DoingOf.InCall c (steps + 1) } ≡ actor_after c a
made_step c a ended steps goes is made = (λ i. record { ended = sym is i; doing = DoingOf.InCall c (sym made i + 1) }) ∙ sym (goes_on_after c a goes)

-- so a caller is in the same call, of one step more
pub concluded_on : (c : MachineOf) (steps : ℕ) (ended : List EndedCall) (slot : Option MachineOf) (place : Option Seat) → slot ≡ Some c → place ≡ None → IfSome slot (λ (x : MachineOf). GoesOn (need_of x.call))
    → IsConcluded c steps ended ended slot place (steps + 1)
concluded_on c steps ended slot place is no_seat goes_so =
    let on : GoesOn (need_of c.call) = subst (λ (o : Option MachineOf). IfSome o (λ (x : MachineOf). GoesOn (need_of x.call))) is goes_so in
    subst (λ (o : Option MachineOf). IsConcluded c steps ended ended o place (steps + 1)) (sym is)
    (subst (λ (s : Option Seat). IsConcluded c steps ended ended (Some c) s (steps + 1)) (sym no_seat)
    (record {
      actor = λ a same count. made_step c.call a (map (ended_of (chunk_count c.call.book.geometry)) ended) steps on same count;
      served = none_served c.call (machine_of c.asked) c.owed (served_of ended) on;
      work = is_left c on;
      goes = (refl, on, refl);
      either = tt;
    }))
