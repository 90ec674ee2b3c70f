-- A call that is over by the trace has ended in the core, so what is shown has a reply, a refusal or a result of it.
use Rattle.std.proofs.Common.{◌≡◌, ◌⊎◌, inl, inr, ℕ, ◌<◌, ◌≤◌, Bool, true, false, List, [], ◌++◌, length, map, filter, Contains, Option, None, Some, IfSome, option_and_then, refl, sym, ap, subst, ◌∙◌, arith, true≢false}
use Rattle.std.specs.Bool.{⊤}
use Rattle.std.proofs.lemmas.Bool.{cases_order}
use Rattle.std.proofs.lemmas.List.{length-map}
use Rattle.std.proofs.lemmas.List.Elements.{All-contains, Contains-append_cases}
use Rattle.std.proofs.lemmas.Option.{none-some, slice_get_within}
use Rattle.std.specs.List.{slice_get}
use Rattle.clay_grid.specs.Shape.{Shape, chunk_count}
use Rattle.store_map.specs.Limits.{size_of, tries_of}
use Rattle.store_map.specs.declared.actor.Actor.{Actor}
use Rattle.store_map.specs.declared.actor.Actor.TheVariants as actor
use Rattle.store_map.specs.declared.reply.Reply.{Reply}
use Rattle.store_map.specs.declared.script.ClientPart.{ClientPart}
use Rattle.store_map.specs.declared.script.RepairPart.{RepairPart}
use Rattle.store_map.specs.declared.script.Script.{Script}
use Rattle.store_map.specs.declared.call_name.ClientCall.{ClientCall}
use Rattle.store_map.specs.declared.call_name.RepairCall.{RepairCall}
use Rattle.store_map.specs.declared.call_name.CallName.{CallName}
use Rattle.store_map.specs.declared.call_name.CallName.TheVariants as name
use Rattle.store_map.specs.declared.line.HLine.{HLine}
use Rattle.store_map.specs.declared.line.XLine.{XLine}
use Rattle.store_map.specs.declared.line.RLine.{RLine}
use Rattle.store_map.specs.declared.shown.Shown.{Shown}
use Rattle.store_map.specs.declared.shown.Shown.TheVariants as shown_as
use Rattle.store_map.specs.declared.transcript.Transcript.{Transcript}
use Rattle.hist_rules.specs.Calls.{number_of}
use Rattle.hist_rules.specs.Named.{is_reply, answered_calls}
use Rattle.store_core.specs.Act.{Act, Outcome}
use Rattle.store_core.specs.Bounds.{touched_count}
use Rattle.store_core.specs.Core.{Core}
use Rattle.store_core.specs.NextAct.{Job, job_of, rebuild_job, next_act}
use Rattle.store_core.specs.Schedule.{run_core}
use Rattle.store_core.specs.Shown.{shown, client_name, repairer_name}
use Rattle.store_core.specs.Told.{Told}
use Rattle.store_core.specs.Work.{Ended, Work, Calling, client_work, repairer_work}
use Rattle.run_laws.specs.ToldInSteps.{act_after}
use Rattle.run_laws.specs.DrainLaws.{pinned_count, pinned_bound, KeepsPinnedBound, KeepBounds}
use Rattle.run_laws.proofs.ActAnswers.{IsGoing}
use Rattle.run_laws.proofs.ActorSteps.{is_looking}
use Rattle.run_laws.proofs.Drains.{drains_end}
use Rattle.run_laws.proofs.Phases.{Phase, phase_of}
use Rattle.run_laws.proofs.PinnedSteps.{few_pinned, bound_rises, less_most}
use Rattle.run_laws.proofs.Scripts.{can_run}
use Rattle.history_laws.proofs.AtWork.{client_at, repairer_at}
use Rattle.history_laws.proofs.NamedCalls.{inside}
use Rattle.history_laws.proofs.OrderEnds.{EndKnown, client_has, repairer_has, ended_of, ended_count, answered_at, answered_below, ended_answered, all_replied, all_refused, all_results, IsRefused, IsResult}
use Rattle.history_laws.proofs.OrderRuns.{end_known}
use Rattle.run_laws.proofs.SoundLists.{all_by, in_filter}
use Rattle.history_laws.specs.LineCauses.{told_to, job_of_call}
use Rattle.history_laws.specs.Steps.{run_trace}
use Rattle.history_laws.specs.Trace.{Made}
use Rattle.history_laws.proofs.CausedCalls.{CauseThen, ToldSo}
use Rattle.history_laws.proofs.CausedLines.{CausesSoFar, all_causes}
use Rattle.history_laws.specs.Over.{IsOver, MadeAllSteps}
use Rattle.history_laws.specs.Answered.{IsAnswered, IsRefused as WasRefused, HasResult}
use Rattle.history_laws.specs.PlayedLaws.{RunsTellEnds, EnoughStepsEndCalls}
use Rattle.history_laws.proofs.ListsTold.{of_mapped}
use Rattle.history_laws.proofs.StepsCounted.{some_bound, count_of, StepsThen, StepsSoFar, all_steps}

-- ---- a call that is in work, or that has not begun, isn't over
-- whether a phase is the last
abbrev is_finish : Phase → Bool
is_finish Phase.Finished = true
is_finish phase = false

-- no call ends before its first step
not_first : (act : Act) → phase_of act ≡ Phase.Looking → (outcome : Outcome) → act ≡ Act.Finish outcome → ⊥
not_first act looking outcome e = true≢false (ap is_finish (sym (ap phase_of e) ∙ looking))

not_going : (act : Act) → IsGoing act → (outcome : Outcome) → act ≡ Act.Finish outcome → ⊥
not_going act going outcome e = subst IsGoing e going

module _ (g : Shape) (most tries : ℕ) (tried : 1 ≤ tries) (who : Actor) (jobs : List Job) (c : Calling) (trace : List Made) (h : CauseThen g most tries trace who jobs c)
    (going : (job : Job) → slice_get jobs (length c.ended) ≡ Some job → IsGoing (next_act g tries job c.told)) where
  over_ended : (number : ℕ) (job : Job) → slice_get jobs number ≡ Some job → (outcome : Outcome) → act_after g tries job (told_to who number trace) ≡ Act.Finish outcome → number < length c.ended
  over_ended number job is_job outcome e = by (cases_order number (length c.ended))
    where
      by : (number ≡ length c.ended) ⊎ ((number < length c.ended) ⊎ (length c.ended < number)) → number < length c.ended
      by (inl same) =
          let is : slice_get jobs (length c.ended) ≡ Some job = subst (λ n. slice_get jobs n ≡ Some job) same is_job in
          let so : ToldSo g most tries job (told_to who (length c.ended) trace) c.told = h.in_work job is in
          let at_work : act_after g tries job (told_to who (length c.ended) trace) ≡ Act.Finish outcome = subst (λ n. act_after g tries job (told_to who n trace) ≡ Act.Finish outcome) same e in
          absurd (not_going (next_act g tries job c.told) (going job is) outcome (sym (ap (next_act g tries job) so.kept) ∙ at_work))
      by (inr (inl low)) = low
      by (inr (inr high)) =
          absurd (not_first (next_act g tries job []) (is_looking job.note.kind g tries job tried) outcome (sym (ap (act_after g tries job) (h.later number high)) ∙ e))

-- nor has it made all its steps
module _ (script : Script) (who : Actor) (work : Work) (c : Calling) (trace : List Made) (steps : StepsThen trace who c) (bounded : KeepsPinnedBound script work c)
    (h : CauseThen script.geometry (size_of script) (tries_of script) trace who work.jobs c) where
  -- the call in work pinned no more stripes than it was told
  in_work_less : (job : Job) → slice_get work.jobs (length c.ended) ≡ Some job
      → c.steps < pinned_bound script.geometry (tries_of script) job.note (told_to who (length c.ended) trace)
  in_work_less job is =
      let answers : List Told = told_to who (length c.ended) trace in
      let so : ToldSo script.geometry (size_of script) (tries_of script) job answers c.told = h.in_work job is in
      let below : c.steps < pinned_bound script.geometry (tries_of script) job.note c.told =
      subst (λ (o : Option Job). IfSome o (λ j. c.steps < pinned_bound script.geometry (tries_of script) j.note c.told)) is bounded in
      let few : pinned_count c.told ≤ pinned_count answers = subst (λ l. pinned_count l ≤ pinned_count answers) so.kept (few_pinned script.geometry job answers) in
      let most : pinned_bound script.geometry (tries_of script) job.note c.told ≤ pinned_bound script.geometry (tries_of script) job.note answers =
      bound_rises job.note.kind (chunk_count script.geometry) (tries_of script) (touched_count script.geometry job.note) (pinned_count c.told) (pinned_count answers) few in
      less_most c.steps (pinned_bound script.geometry (tries_of script) job.note c.told) (pinned_bound script.geometry (tries_of script) job.note answers) below most

  enough_ended : (number : ℕ) (job : Job) → slice_get work.jobs number ≡ Some job
      → pinned_bound script.geometry (tries_of script) job.note (told_to who number trace) ≤ count_of who number trace → number < length c.ended
  enough_ended number job is_job enough = by (cases_order number (length c.ended))
    where
      by : (number ≡ length c.ended) ⊎ ((number < length c.ended) ⊎ (length c.ended < number)) → number < length c.ended
      by (inl same) =
          let below : c.steps < pinned_bound script.geometry (tries_of script) job.note (told_to who (length c.ended) trace) =
          in_work_less job (subst (λ n. slice_get work.jobs n ≡ Some job) same is_job) in
          let made : count_of who (length c.ended) trace ≡ c.steps = steps.in_work in
          let all : pinned_bound script.geometry (tries_of script) job.note (told_to who (length c.ended) trace) ≤ count_of who (length c.ended) trace =
          subst (λ n. pinned_bound script.geometry (tries_of script) job.note (told_to who n trace) ≤ count_of who n trace) same enough in
          absurd (omega (arith, below, made, all))
      by (inr (inl low)) = low
      by (inr (inr high)) =
          let some : 1 ≤ pinned_bound script.geometry (tries_of script) job.note (told_to who number trace) =
          some_bound job.note.kind (chunk_count script.geometry) (tries_of script) (touched_count script.geometry job.note) (pinned_count (told_to who number trace)) in
          let none : count_of who number trace ≡ 0 = steps.later number high in
          absurd (omega (arith, some, none, enough))

-- what holds of an actor's work and call, where both are there
both_there : (P : Work → Calling → Type 0) (w : Option Work) (c : Option Calling) (work : Work) (calling : Calling) → IfSome w (λ x. IfSome c (P x)) → w ≡ Some work → c ≡ Some calling → P work calling
both_there P w c work calling h is_work is_calling =
    subst (λ (o : Option Calling). IfSome o (P work)) is_calling (subst (λ (o : Option Work). IfSome o (λ x. IfSome c (P x))) is_work h)

-- ---- by actors
-- the job that a name is of
pub job_there : (works : List Work) (i number : ℕ) (job : Job) → option_and_then (λ (w : Work). slice_get w.jobs number) (slice_get works i) ≡ Some job
    → (work : Work) × (slice_get works i ≡ Some work) × (slice_get work.jobs number ≡ Some job)
job_there works i number job e = by (slice_get works i) refl e
  where
    by : (found : Option Work) → slice_get works i ≡ found → option_and_then (λ (w : Work). slice_get w.jobs number) found ≡ Some job
        → (work : Work) × (slice_get works i ≡ Some work) × (slice_get work.jobs number ≡ Some job)
    by None is e = absurd (none-some job e)
    by (Some work) is e = (work, is, e)

-- where a call of a group stands: its actor's work and how far it has come
pub record CallPlace (works : List Work) (callings : List Calling) (i number : ℕ) (job : Job) : Type 0 where
  pub work : Work
  pub is_work : slice_get works i ≡ Some work
  pub is_job : slice_get work.jobs number ≡ Some job
  pub calling : Calling
  pub is_calling : slice_get callings i ≡ Some calling

module _ (script : Script) (core : Core) (known : EndKnown script core) (trace : List Made) (has : CausesSoFar script trace core) where
  abbrev g : Shape
  g = script.geometry

  pub client_place : (i number : ℕ) (job : Job) → job_of_call script (client_name i number) ≡ Some job → CallPlace (client_work script) core.clients i number job
  client_place i number job is =
      let there : (work : Work) × (slice_get (client_work script) i ≡ Some work) × (slice_get work.jobs number ≡ Some job) = job_there (client_work script) i number job is in
      let low : i < length (client_work script) = slice_get_within (client_work script) i there.0 there.1 in
      let size : length (client_work script) ≡ length script.clients = length-map script.clients (λ (part : ClientPart). record { jobs = map job_of part.calls; leave = part.leave }) in
      let same : length core.clients ≡ length script.clients = known.kept.keeps.client_count in
      let calling : (c : Calling) × (slice_get core.clients i ≡ Some c) = inside core.clients i (omega (arith, low, size, same)) in
      record { work = there.0; is_work = there.1; is_job = there.2; calling = calling.0; is_calling = calling.1 }

  pub repairer_place : (i number : ℕ) (job : Job) → job_of_call script (repairer_name i number) ≡ Some job → CallPlace (repairer_work script) core.repairers i number job
  repairer_place i number job is =
      let there : (work : Work) × (slice_get (repairer_work script) i ≡ Some work) × (slice_get work.jobs number ≡ Some job) = job_there (repairer_work script) i number job is in
      let low : i < length (repairer_work script) = slice_get_within (repairer_work script) i there.0 there.1 in
      let size : length (repairer_work script) ≡ length script.repairers = length-map script.repairers (λ (part : RepairPart). record { jobs = map rebuild_job part.calls; leave = part.leave }) in
      let same : length core.repairers ≡ length script.repairers = known.kept.keeps.repairer_count in
      let calling : (c : Calling) × (slice_get core.repairers i ≡ Some c) = inside core.repairers i (omega (arith, low, size, same)) in
      record { work = there.0; is_work = there.1; is_job = there.2; calling = calling.0; is_calling = calling.1 }

  -- the call that a client has in work goes on
  client_going : (i : ℕ) (work : Work) (c : Calling) → slice_get (client_work script) i ≡ Some work → slice_get core.clients i ≡ Some c → (job : Job) → slice_get work.jobs (length c.ended) ≡ Some job
      → IsGoing (next_act script.geometry (tries_of script) job c.told)
  client_going i work c is_work is_c job is = (client_at script known.can core known.kept i work c job is_work is_c is).in_work.stands.going

  repairer_going : (i : ℕ) (work : Work) (c : Calling) → slice_get (repairer_work script) i ≡ Some work → slice_get core.repairers i ≡ Some c → (job : Job) → slice_get work.jobs (length c.ended) ≡ Some job
      → IsGoing (next_act script.geometry (tries_of script) job c.told)
  repairer_going i work c is_work is_c job is = (repairer_at script known.can core known.kept i work c job is_work is_c is).in_work.stands.going

  -- a call that is over has ended
  over_below : (call : CallName) → IsOver script trace call → number_of call < ended_count core call
  over_below (name.Client call) over =
      let p : CallPlace (client_work script) core.clients call.client call.number over.0 = client_place call.client call.number over.0 over.1 in
      subst (λ o. call.number < ended_of o) (sym p.is_calling)
      (over_ended g (size_of script) (tries_of script) known.can.tried (actor.Client call.client) p.work.jobs p.calling trace (has.clients call.client p.calling p.is_calling p.work p.is_work)
      (client_going call.client p.work p.calling p.is_work p.is_calling) call.number over.0 p.is_job over.2.0 over.2.1)
  over_below (name.Repairer call) over =
      let p : CallPlace (repairer_work script) core.repairers call.repairer call.number over.0 = repairer_place call.repairer call.number over.0 over.1 in
      subst (λ o. call.number < ended_of o) (sym p.is_calling)
      (over_ended g (size_of script) (tries_of script) known.can.tried (actor.Repairer call.repairer) p.work.jobs p.calling trace (has.repairers call.repairer p.calling p.is_calling p.work p.is_work)
      (repairer_going call.repairer p.work p.calling p.is_work p.is_calling) call.number over.0 p.is_job over.2.0 over.2.1)

  -- so has one that made all its steps
  module _ (steps : StepsSoFar script trace core) (bounds : KeepBounds script core.clients core.repairers) where
    enough_below : (call : CallName) → MadeAllSteps script trace call → number_of call < ended_count core call
    enough_below (name.Client call) all =
        let p : CallPlace (client_work script) core.clients call.client call.number all.0 = client_place call.client call.number all.0 all.1 in
        subst (λ o. call.number < ended_of o) (sym p.is_calling)
        (enough_ended script (actor.Client call.client) p.work p.calling trace (steps.clients call.client p.calling p.is_calling)
        (both_there (KeepsPinnedBound script) (slice_get (client_work script) call.client) (slice_get core.clients call.client) p.work p.calling (bounds.clients_pinned call.client) p.is_work p.is_calling)
        (has.clients call.client p.calling p.is_calling p.work p.is_work) call.number all.0 p.is_job all.2)
    enough_below (name.Repairer call) all =
        let p : CallPlace (repairer_work script) core.repairers call.repairer call.number all.0 = repairer_place call.repairer call.number all.0 all.1 in
        subst (λ o. call.number < ended_of o) (sym p.is_calling)
        (enough_ended script (actor.Repairer call.repairer) p.work p.calling trace (steps.repairers call.repairer p.calling p.is_calling)
        (both_there (KeepsPinnedBound script) (slice_get (repairer_work script) call.repairer) (slice_get core.repairers call.repairer) p.work p.calling (bounds.repairers_pinned call.repairer) p.is_work p.is_calling)
        (has.repairers call.repairer p.calling p.is_calling p.work p.is_work) call.number all.0 p.is_job all.2)

  -- and a call that has ended is over
  pub below_over : (call : CallName) → number_of call < ended_count core call → IsOver script trace call
  below_over (name.Client call) low = by (slice_get core.clients call.client) refl low
    where
      by : (found : Option Calling) → slice_get core.clients call.client ≡ found → call.number < ended_of found → IsOver script trace (name.Client call)
      by None is low = absurd (omega (arith, low))
      by (Some c) is low =
          let e : (x : Ended) × (slice_get c.ended call.number ≡ Some x) = inside c.ended call.number low in
          let work : (w : Work) × (slice_get (client_work script) call.client ≡ Some w) = client_has script core known call.client c is in
          let most : length c.ended ≤ length work.0.jobs = (known.calls.clients call.client c is work.0 work.1).below in
          let job : (j : Job) × (slice_get work.0.jobs call.number ≡ Some j) = inside work.0.jobs call.number (omega (arith, most, low)) in
          (job.0, ap (option_and_then (λ (w : Work). slice_get w.jobs call.number)) work.1 ∙ job.1, (e.0.outcome, ((has.clients call.client c is work.0 work.1).ended call.number job.0 e.0 job.1 e.1).1))
  below_over (name.Repairer call) low = by (slice_get core.repairers call.repairer) refl low
    where
      by : (found : Option Calling) → slice_get core.repairers call.repairer ≡ found → call.number < ended_of found → IsOver script trace (name.Repairer call)
      by None is low = absurd (omega (arith, low))
      by (Some c) is low =
          let e : (x : Ended) × (slice_get c.ended call.number ≡ Some x) = inside c.ended call.number low in
          let work : (w : Work) × (slice_get (repairer_work script) call.repairer ≡ Some w) = repairer_has script core known call.repairer c is in
          let most : length c.ended ≤ length work.0.jobs = (known.calls.repairers call.repairer c is work.0 work.1).below in
          let job : (j : Job) × (slice_get work.0.jobs call.number ≡ Some j) = inside work.0.jobs call.number (omega (arith, most, low)) in
          (job.0, ap (option_and_then (λ (w : Work). slice_get w.jobs call.number)) work.1 ∙ job.1, (e.0.outcome, ((has.repairers call.repairer c is work.0 work.1).ended call.number job.0 e.0 job.1 e.1).1))

-- ---- by lines
-- a reply that is shown
reply_shown : (says : Shown) → is_reply says ≡ true → (reply : Reply) × (says ≡ shown_as.Reply reply)
reply_shown (shown_as.Reply reply) e = (reply, refl)
reply_shown shown_as.Unfinished e = absurd (true≢false (sym e))

-- the call of a name, and another where that is of the other kind
abbrev client_or : ClientCall → CallName → ClientCall
client_or other (name.Client call) = call
client_or other (name.Repairer call) = other

abbrev repair_or : RepairCall → CallName → RepairCall
repair_or other (name.Client call) = other
repair_or other (name.Repairer call) = call

module _ (script : Script) (core : Core) (known : EndKnown script core) where
  abbrev t : Transcript
  t = shown script core

  abbrev replied_calls : List CallName
  replied_calls = map (λ (line : HLine). name.Client line.call) (filter (λ (line : HLine). is_reply line.reply) t.history)

  abbrev refused_calls : List CallName
  refused_calls = map (λ (line : XLine). name.Client line.call) t.refused

  abbrev repair_calls : List CallName
  repair_calls = map (λ (line : RLine). name.Repairer line.call) t.repairs

  replied : (call : ClientCall) → Contains replied_calls (name.Client call) → IsAnswered t call
  replied call has =
      let of : (line : HLine) × Contains (filter (λ (line : HLine). is_reply line.reply) t.history) line × (name.Client line.call ≡ name.Client call) =
      of_mapped (λ (line : HLine). name.Client line.call) (filter (λ (line : HLine). is_reply line.reply) t.history) (name.Client call) has in
      let there : Contains t.history of.0 × (is_reply of.0.reply ≡ true) = in_filter (λ (line : HLine). is_reply line.reply) t.history of.0 of.1 in
      let says : (reply : Reply) × (of.0.reply ≡ shown_as.Reply reply) = reply_shown of.0.reply there.1 in
      (of.0.point, says.0, subst (Contains t.history) (λ k. record { point = of.0.point; call = client_or call (of.2 k); reply = says.1 k }) there.0)

  refused : (call : ClientCall) → Contains refused_calls (name.Client call) → WasRefused t call
  refused call has =
      let of : (line : XLine) × Contains t.refused line × (name.Client line.call ≡ name.Client call) = of_mapped (λ (line : XLine). name.Client line.call) t.refused (name.Client call) has in
      (of.0.cause, subst (Contains t.refused) (λ k. record { call = client_or call (of.2 k); cause = of.0.cause }) of.1)

  resulted : (call : RepairCall) → Contains repair_calls (name.Repairer call) → HasResult (λ what. ⊤) t call
  resulted call has =
      let of : (line : RLine) × Contains t.repairs line × (name.Repairer line.call ≡ name.Repairer call) = of_mapped (λ (line : RLine). name.Repairer line.call) t.repairs (name.Repairer call) has in
      (of.0.result, tt, subst (Contains t.repairs) (λ k. record { call = repair_or call (of.2 k); result = of.0.result }) of.1)

  client_told : (call : ClientCall) → call.number < ended_count core (name.Client call) → IsAnswered t call ⊎ WasRefused t call
  client_told call low = by (Contains-append_cases (replied_calls ++ refused_calls) repair_calls (name.Client call) (ended_answered script core known (name.Client call) low))
    where
      first : Contains replied_calls (name.Client call) ⊎ Contains refused_calls (name.Client call) → IsAnswered t call ⊎ WasRefused t call
      first (inl has) = inl (replied call has)
      first (inr has) = inr (refused call has)

      by : Contains (replied_calls ++ refused_calls) (name.Client call) ⊎ Contains repair_calls (name.Client call) → IsAnswered t call ⊎ WasRefused t call
      by (inl has) = first (Contains-append_cases replied_calls refused_calls (name.Client call) has)
      by (inr has) = absurd (true≢false (All-contains (IsResult script core known) repair_calls (name.Client call) (all_results script core known) has).0)

  repairer_told : (call : RepairCall) → call.number < ended_count core (name.Repairer call) → HasResult (λ what. ⊤) t call
  repairer_told call low = by (Contains-append_cases (replied_calls ++ refused_calls) repair_calls (name.Repairer call) (ended_answered script core known (name.Repairer call) low))
    where
      first : Contains replied_calls (name.Repairer call) ⊎ Contains refused_calls (name.Repairer call) → HasResult (λ what. ⊤) t call
      first (inl has) = absurd (true≢false (sym (All-contains (λ call. answered_at core call ≡ true) replied_calls (name.Repairer call) (all_replied script core known) has)))
      first (inr has) = absurd (true≢false (sym (All-contains (IsRefused script core known) refused_calls (name.Repairer call) (all_refused script core known) has).1.0))

      by : Contains (replied_calls ++ refused_calls) (name.Repairer call) ⊎ Contains repair_calls (name.Repairer call) → HasResult (λ what. ⊤) t call
      by (inl has) = first (Contains-append_cases replied_calls refused_calls (name.Repairer call) has)
      by (inr has) = resulted call has

  -- a call that has a reply, a refusal or a result has ended
  told_below : (call : CallName) → Contains (answered_calls t) call → number_of call < ended_count core call
  told_below call has = by (Contains-append_cases (replied_calls ++ refused_calls) repair_calls call has)
    where
      first : Contains replied_calls call ⊎ Contains refused_calls call → number_of call < ended_count core call
      first (inl h) = answered_below core call (All-contains (λ c. answered_at core c ≡ true) replied_calls call (all_replied script core known) h)
      first (inr h) = (All-contains (IsRefused script core known) refused_calls call (all_refused script core known) h).1.1

      by : Contains (replied_calls ++ refused_calls) call ⊎ Contains repair_calls call → number_of call < ended_count core call
      by (inl h) = first (Contains-append_cases replied_calls refused_calls call h)
      by (inr h) = (All-contains (IsResult script core known) repair_calls call (all_results script core known) h).1

pub runs_tell_ends : RunsTellEnds
runs_tell_ends script shortages geometry valid tokens =
    let core : Core = run_core script shortages tokens in
    let trace : List Made = run_trace script shortages tokens in
    let known : EndKnown script core = end_known script geometry valid shortages tokens in
    let has : CausesSoFar script trace core = all_causes script (can_run script geometry valid) shortages tokens in
    record {
      clients = λ call over. client_told script core known call (over_below script core known trace has (name.Client call) over);
      repairers = λ call over. repairer_told script core known call (over_below script core known trace has (name.Repairer call) over);
      only = all_by (IsOver script trace) (answered_calls (shown script core)) (λ call h. below_over script core known trace has call (told_below script core known call h));
    }

pub enough_steps_end_calls : EnoughStepsEndCalls
enough_steps_end_calls script shortages geometry valid tokens call all =
    let core : Core = run_core script shortages tokens in
    let trace : List Made = run_trace script shortages tokens in
    let known : EndKnown script core = end_known script geometry valid shortages tokens in
    let has : CausesSoFar script trace core = all_causes script (can_run script geometry valid) shortages tokens in
    let steps : StepsSoFar script trace core = all_steps script (can_run script geometry valid) shortages tokens in
    let bounds : KeepBounds script core.clients core.repairers = (drains_end script shortages geometry valid).bounds tokens in
    below_over script core known trace has call (enough_below script core known trace has steps bounds call all)
