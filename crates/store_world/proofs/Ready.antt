-- A client's call as its turn makes it ready for its step.
use Rattle.std.proofs.Common.{◌≡◌, ◌⊎◌, ℕ, Bool, true, false, ◌&&◌, List, length, slice_get, Option, None, Some, IfSome, if◌then◌else◌, option_and_then, option_map, refl, sym, ap, subst, ◌∙◌, inl, inr, true≢false}
use Rattle.store_map.specs.declared.actor.Actor.TheVariants as actor
use Rattle.store_map.specs.declared.script.ClientPart.{ClientPart}
use Rattle.store_map.specs.declared.script.Script.{Script}
use Rattle.store_core.specs.ActPlace.{is_in_pass}
use Rattle.store_core.specs.Agreement.{Agrees}
use Rattle.store_core.specs.Directory.{Directory}
use Rattle.store_core.specs.History.{call_of}
use Rattle.store_core.specs.Tokens.{actor_of}
use Rattle.store_core.specs.Work.{Ended}
use Rattle.run_laws.specs.State.{State}
use Rattle.run_laws.specs.StateActs.{act_at}
use Rattle.call_steps.specs.CallOf.{CallOf, act_of}
use Rattle.call_steps.specs.Steps.{coded, HoldsItsPass, IsDueInPass}
use Rattle.call_steps.specs.Ready.{ready}
use Rattle.store_core.specs.Told.{Told}
use Rattle.call_machine.specs.Kinds.{Asked, asked_job, Machine, machine_of, IfReads}
use Rattle.call_machine.specs.Calls.{MachineOf}
use Rattle.world_laws.specs.World.{DoingOf}
use Rattle.world_laws.specs.ActorAfter.{IsCallBefore}
use Rattle.world_laws.specs.Tokens.{IsUsedBelow, token_of, AreNumbered}
use Rattle.actors.specs.Callers.{PartOf, asked_at, work_of}
use Rattle.actors.proofs.Begins.{job_at}
use Rattle.actors.specs.Owing.{owed_now}
use Rattle.call_machine.specs.Pinned.{pinned_at}
use Rattle.store_world.specs.Looked.{HasLooked}
use Rattle.store_world.specs.Serving.{client_asks, IsReplyAt, OwesAt, OwesItsPins, IsInWork}
use Rattle.call_machine.proofs.Shorts.{short_next}
use Rattle.store_world.proofs.Looked.{next_looked}
use Rattle.call_machine.proofs.Acts.{starts}
use Rattle.store_world.proofs.OwesLists.{client_call, none_some, some_same}
use Rattle.store_world.proofs.Opening.{may_open}
use Rattle.call_machine.proofs.Owing.{if_some}
use Rattle.store_world.proofs.Steps.{Opens, IsReady, if_reads}

-- the call before a coding: it opens without one, or has looked
pub record IsCalled (script : Script) (d : Directory) (i number : ℕ) (call : CallOf) (asked : Asked) (owed : List ℕ) : Type 0 where
  pub job : call.job ≡ asked_job asked
  pub its : client_asks script i number ≡ Some asked
  pub count : call.number ≡ number
  pub whose : actor_of call.token ≡ actor.Client i
  pub due : IsDueInPass call
  pub looked : IfReads (machine_of asked) (HasLooked call.state.at ⊎ (Opens script d i call × (call.due ≡ false)))
  pub owes : IfSome (pinned_at call.state.at) (λ place. (machine_of asked ≡ Machine.Reads) × IsReplyAt script d.points i number place owed)

-- ---- after a coding
module _ (script : Script) (d : Directory) (i number : ℕ) (call : CallOf) (before : MachineOf) (owed : List ℕ) (is : IsCalled script d i number call before.asked owed) where
  owes_before : before.owed ≡ owed → IfSome (pinned_at call.state.at) (OwesAt script d.points i number before)
  owes_before same =
      if_some (λ (place : ℕ). (machine_of before.asked ≡ Machine.Reads) × IsReplyAt script d.points i number place owed) (OwesAt script d.points i number before) (pinned_at call.state.at)
      (λ place h e. record { reads = h.0; owed = subst (λ (bytes : List ℕ). IsReplyAt script d.points i number place bytes) (sym same) h.1 }) is.owes

  has_looked : call.due ≡ true → IfReads (machine_of before.asked) (HasLooked call.state.at)
  has_looked due = if_reads (machine_of before.asked) (HasLooked call.state.at ⊎ (Opens script d i call × (call.due ≡ false))) (HasLooked call.state.at) (λ reads h. by h) is.looked
    where
      by : HasLooked call.state.at ⊎ (Opens script d i call × (call.due ≡ false)) → HasLooked call.state.at
      by (inl h) = h
      by (inr h) = absurd (true≢false (sym due ∙ h.1))

  ready_by : (due : Bool) → call.due ≡ due → (coding : Bool) → ((due && coding) ≡ false → before.owed ≡ owed) → before.call ≡ (if due then coded coding call else call)
      → IsReady script d i number (if due then coded coding call else call) before
  ready_by false e coding same now =
      record {
        is = now;
        job = is.job;
        its = is.its;
        count = is.count;
        whose = is.whose;
        looked = if_reads (machine_of before.asked) (HasLooked call.state.at ⊎ (Opens script d i call × (call.due ≡ false))) (HasLooked call.state.at ⊎ Opens script d i call) (λ reads h. by h) is.looked;
        owes = owes_before (same refl);
      }
    where
      by : HasLooked call.state.at ⊎ (Opens script d i call × (call.due ≡ false)) → HasLooked call.state.at ⊎ Opens script d i call
      by (inl h) = inl h
      by (inr h) = inr h.0
  ready_by true e false same now =
      record {
        is = now;
        job = is.job;
        its = is.its;
        count = is.count;
        whose = is.whose;
        looked = if_reads (machine_of before.asked) (HasLooked call.state.at) (HasLooked call.state.at ⊎ Opens script d i (coded false call)) (λ reads h. inl h) (has_looked e);
        owes = owes_before (same refl);
      }
  ready_by true e true same now =
      record {
        is = now;
        job = is.job;
        its = is.its;
        count = is.count;
        whose = is.whose;
        looked =
            if_reads (machine_of before.asked) (HasLooked call.state.at) (HasLooked (coded true call).state.at ⊎ Opens script d i (coded true call))
            (λ reads h. inl (next_looked call.book.geometry call.job.note.kind call.job call.state.pairs call.state.at Told.Short h)) (has_looked e);
        owes =
            if_some (λ (place : ℕ). None ≡ Some place) (OwesAt script d.points i number before) (pinned_at (coded true call).state.at) (λ place h f. absurd (none_some place h))
            (short_next call.book.geometry call.tries call.job.note.kind call.job call.state.pairs call.state.at (is.due e));
      }

  pub ready_now : (coding : Bool) → ((call.due && coding) ≡ false → before.owed ≡ owed) → before.call ≡ ready coding call → IsReady script d i number (ready coding call) before
  ready_now coding same now = ready_by call.due refl coding same now

-- ---- by what the client does
module _ (script : Script) (d : Directory) (i : ℕ) (part : ClientPart) (ended : List Ended) (call : CallOf) (asked : Asked) (work : Option MachineOf) (there : slice_get script.clients i ≡ Some part)
    (next : asked_at (PartOf.OfClient part) (length ended) ≡ Some asked) (due : IsDueInPass call) (whose : actor_of call.token ≡ actor.Client i) (pass : HoldsItsPass call) where
  its_call : client_asks script i (length ended) ≡ Some asked
  its_call = ap (λ (found : Option ClientPart). option_map Asked.OfClient (option_and_then (λ (p : ClientPart). slice_get p.calls (length ended)) found)) there ∙ next

  pub called_by : (doing : DoingOf) → IsCallBefore script (work_of (PartOf.OfClient part)).jobs ended doing call → Agrees d (token_of doing) → AreNumbered ended doing
      → IsInWork (OwesItsPins script d.points i (length ended)) doing work → IsCalled script d i (length ended) call asked (owed_now work)
  called_by (DoingOf.Between token) begins agrees numbered none =
      record {
        job = job;
        its = its_call;
        count = begins.first.number;
        whose = whose;
        due = due;
        looked = always (machine_of asked);
        owes = subst (λ (at : State). IfSome (pinned_at at) (λ place. (machine_of asked ≡ Machine.Reads) × IsReplyAt script d.points i (length ended) place (owed_now work))) (sym start) tt;
      }
    where
      job : call.job ≡ asked_job asked
      job = begins.first.job ∙ some_same begins.job (asked_job asked) (sym begins.is_next ∙ job_at (PartOf.OfClient part) (length ended) asked next)

      start : call.state.at ≡ State.Start
      start = ap (λ s. s.at) begins.first.state

      no_pass : is_in_pass (act_of call) ≡ false
      no_pass =
          ap (λ (at : State). is_in_pass (act_at call.book.geometry call.tries call.job call.state.pairs at)) start
          ∙ (starts call.book.geometry call.tries call.job call.state.pairs call.job.note.kind).pass

      not_due : (b : Bool) → call.due ≡ b → call.due ≡ false
      not_due false e = e
      not_due true e = absurd (true≢false (sym (due e) ∙ no_pass))

      opens : Opens script d i call
      opens =
          record {
            start = start;
            may =
                may_open call d i (length ended) (client_call (call_of script (actor.Client i) (length ended)) asked its_call).0 begins.first.number whose (subst (Agrees d) (sym begins.held) agrees) (subst (IsUsedBelow (length ended)) (sym begins.held) numbered) pass
                (job ∙ ap asked_job (client_call (call_of script (actor.Client i) (length ended)) asked its_call).2);
            shape = begins.first.shape;
          }

      always : (m : Machine) → IfReads m (HasLooked call.state.at ⊎ (Opens script d i call × (call.due ≡ false)))
      always Machine.Reads = inr (opens, not_due call.due refl)
      always Machine.Puts = tt
      always Machine.Patches = tt
      always Machine.Rebuilds = tt
  called_by (DoingOf.InCall now steps) same agrees numbered works =
      let is : works.c.call ≡ call = works.same ∙ sym same in
      let asked_is : works.c.asked ≡ asked = some_same works.c.asked asked (sym works.held.its ∙ its_call) in
      record {
        job = ap (λ (c : CallOf). c.job) (sym is) ∙ works.held.job ∙ ap asked_job asked_is;
        its = its_call;
        count = ap (λ (c : CallOf). c.number) same ∙ numbered.next;
        whose = whose;
        due = due;
        looked =
            if_reads (machine_of asked) (HasLooked call.state.at) (HasLooked call.state.at ⊎ (Opens script d i call × (call.due ≡ false))) (λ reads h. inl h)
            (subst (λ (a : Asked). IfReads (machine_of a) (HasLooked call.state.at)) asked_is
            (subst (λ (c : CallOf). IfReads (machine_of works.c.asked) (HasLooked c.state.at)) is works.held.looked));
        owes =
            if_some (OwesAt script d.points i (length ended) works.c) (λ place. (machine_of asked ≡ Machine.Reads) × IsReplyAt script d.points i (length ended) place (owed_now work)) (pinned_at call.state.at)
            (λ place h e. (
              ap machine_of (sym asked_is) ∙ h.reads,
              subst (λ (w : Option MachineOf). IsReplyAt script d.points i (length ended) place (owed_now w)) (sym works.is) h.owed,
            ))
            (subst (λ (c : CallOf). IfSome (pinned_at c.state.at) (OwesAt script d.points i (length ended) works.c)) is works.held.owes);
      }
