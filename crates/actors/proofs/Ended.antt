-- A caller's calls as they end.
use Rattle.std.proofs.Common.{◌≡◌, ℕ, List, [], ◌∷◌, ◌++◌, length, map, replicate, Option, None, Some, IfSome, sym, ap, subst, ◌∙◌}
use Rattle.std.proofs.lemmas.List.{map-append}
use Rattle.std.specs.Prelude.{unwrap_or}
use Rattle.clay_grid.specs.Shape.{chunk_count}
use Rattle.store_core.specs.Act.{Act}
use Rattle.store_core.specs.Agreement.{Seat, ActorToken}
use Rattle.version_seal.specs.Entry.{BookOf}
use Rattle.call_steps.specs.CallOf.{CallOf, act_of, taken_of}
use Rattle.call_steps.specs.CallOutcomes.{call_outcome_of}
use Rattle.call_machine.specs.Calls.{MachineOf}
use Rattle.call_steps.specs.CallerCalls.{ended_of, calling_at}
use Rattle.call_steps.specs.declared.caller_calls.EndedCall.{EndedCall}
use Rattle.call_steps.specs.declared.caller_calls.CallerCalls.{CallerCalls}
use Rattle.world_laws.specs.World.{ActorOf, DoingOf}
use Rattle.world_laws.specs.Known.{calling_by}
use Rattle.world_laws.specs.ActorAfter.{actor_after}
use Rattle.actors.specs.Callers.{PartOf, CallerOf}
use Rattle.actors.specs.Inside.{caller_by, IsInWork}
use Rattle.actors.proofs.Concluding.{ended_after, taken_back}

-- a call that is over
pub caller_after : (c : CallOf) (a : ActorOf) (ended last : List EndedCall) (x : EndedCall) (seat : Seat) (servers : ℕ) → act_of c ≡ Act.Finish (call_outcome_of x.outcome)
    → x.takes ≡ taken_of c.takes → length c.takes ≡ servers → last ≡ ended ++ x ∷ [] → ActorToken.Seated seat ≡ c.token → a.ended ≡ map (ended_of servers) ended
    → record { ended = map (ended_of servers) last; doing = DoingOf.Between (ActorToken.Seated seat) } ≡ actor_after c a
caller_after c a ended last x seat servers over takes count pushed token is =
    let taken : unwrap_or x.takes (replicate servers 0) ≡ c.takes = ap (λ (o : Option (List ℕ)). unwrap_or o (replicate servers 0)) takes ∙ taken_back c.takes servers count in
    let more : map (ended_of servers) last ≡ a.ended ++ record { outcome = call_outcome_of x.outcome; takes = c.takes } ∷ [] =
    ap (map (ended_of servers)) pushed ∙ map-append (ended_of servers) ended (x ∷ []) ∙ (λ i. sym is i ++ record { outcome = call_outcome_of x.outcome; takes = taken i } ∷ []) in
    (λ i. record { ended = more i; doing = DoingOf.Between (token i) }) ∙ sym (ended_after c a (call_outcome_of x.outcome) over)

-- a caller's calls at the end of a run
module _ (part : PartOf) (book : BookOf) (tries : ℕ) (ended : List EndedCall) (seat : Option Seat) where
  abbrev caller_with : Option MachineOf → ℕ → CallerOf
  caller_with slot steps = caller_by part book tries ended seat slot steps

  pub calls_in_work : (a : CallerOf) (slot : Option MachineOf) (steps : ℕ) (call : MachineOf) (calls : CallerCalls) → caller_with slot steps ≡ a → slot ≡ Some call → IfSome slot (IsInWork book part (length ended))
      → calls.ended.items ≡ ended → calls.steps ≡ steps → calls.takes ≡ taken_of call.call.takes
      → calling_at (chunk_count a.book.geometry) calls ≡ calling_by (chunk_count a.book.geometry) a.actor.ended a.actor.doing
  calls_in_work a slot steps call calls view in_work kept same made takes =
      let work : IsInWork book part (length ended) call = subst (λ (o : Option MachineOf). IfSome o (IsInWork book part (length ended))) in_work kept in
      let took : unwrap_or calls.takes (replicate (chunk_count book.geometry) 0) ≡ call.call.takes =
      ap (λ (o : Option (List ℕ)). unwrap_or o (replicate (chunk_count book.geometry) 0)) takes ∙ taken_back call.call.takes (chunk_count book.geometry) work.servers in
      subst (λ (c : CallerOf). calling_at (chunk_count c.book.geometry) calls ≡ calling_by (chunk_count c.book.geometry) c.actor.ended c.actor.doing)
      (ap (λ (o : Option MachineOf). caller_with o steps) (sym in_work) ∙ view)
      (λ i. record { ended = map (ended_of (chunk_count book.geometry)) (same i); told = []; takes = took i; steps = made i })

  pub calls_between : (a : CallerOf) (slot : Option MachineOf) (steps : ℕ) (now : Seat) (calls : CallerCalls) → caller_with slot steps ≡ a → slot ≡ None → seat ≡ Some now
      → calls.ended.items ≡ ended → calls.steps ≡ 0 → calls.takes ≡ None
      → calling_at (chunk_count a.book.geometry) calls ≡ calling_by (chunk_count a.book.geometry) a.actor.ended a.actor.doing
  calls_between a slot steps now calls view none seated same made takes =
      subst (λ (c : CallerOf). calling_at (chunk_count c.book.geometry) calls ≡ calling_by (chunk_count c.book.geometry) c.actor.ended c.actor.doing)
      (sym (λ i. caller_by part book tries ended (seated i) (none i) steps) ∙ view)
      (λ i. record {
        ended = map (ended_of (chunk_count book.geometry)) (same i);
        told = [];
        takes = unwrap_or (takes i) (replicate (chunk_count book.geometry) 0);
        steps = made i;
      })
