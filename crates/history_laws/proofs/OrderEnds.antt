-- Each call that has ended has its line, and each line of an answer is of a call that has ended.
use Rattle.std.proofs.Common.{◌≡◌, ◌≢◌, ℕ, ◌<◌, ◌≤◌, Bool, true, false, List, [], ◌∷◌, ◌++◌, length, map, filter, Contains, fold, Option, None, Some, option_and_then, All, ◌⊎◌, inl, inr, refl, sym, ap, subst, ◌∙◌, arith, true≢false}
use Rattle.std.proofs.lemmas.List.{length-map}
use Rattle.std.proofs.lemmas.Option.{none-some, same_Some, slice_get_within}
use Rattle.std.proofs.lemmas.List.Elements.{All-nil, All-cons, All-contains, Contains-append_left, Contains-append_right}
use Rattle.std.specs.List.{slice_get}
use Rattle.std.specs.Option.{option_map_or}
use Rattle.store_map.specs.Limits.{size_of, tries_of}
use Rattle.store_map.specs.declared.actor.Actor.TheVariants as actor
use Rattle.store_map.specs.declared.reply.Reply.{Reply}
use Rattle.store_map.specs.declared.script.ClientPart.{ClientPart}
use Rattle.store_map.specs.declared.script.RepairPart.{RepairPart}
use Rattle.store_map.specs.declared.script.Script.{Script}
use Rattle.store_map.specs.declared.call_name.ClientCall.{ClientCall}
use Rattle.store_map.specs.declared.call_name.CallName.{CallName}
use Rattle.store_map.specs.declared.call_name.CallName.TheVariants as name
use Rattle.store_map.specs.declared.cause.Cause.{Cause}
use Rattle.store_map.specs.declared.cause.RepairResult.{RepairResult}
use Rattle.store_map.specs.declared.shown.Shown.{Shown}
use Rattle.store_map.specs.declared.shown.Shown.TheVariants as shown_as
use Rattle.store_map.specs.declared.line.HLine.{HLine}
use Rattle.store_map.specs.declared.line.XLine.{XLine}
use Rattle.store_map.specs.declared.line.RLine.{RLine}
use Rattle.store_map.specs.declared.transcript.Transcript.{Transcript}
use Rattle.hist_rules.specs.Calls.{number_of}
use Rattle.hist_rules.specs.Named.{is_reply, answered_calls}
use Rattle.store_core.specs.Act.{Outcome}
use Rattle.store_core.specs.Core.{Core}
use Rattle.store_core.specs.Directory.{Event, Point}
use Rattle.store_core.specs.History.{is_answered, is_answer, answered_in, shown_at, client_call, call_of, history_of}
use Rattle.store_core.specs.NextAct.{Job, job_of, rebuild_job}
use Rattle.store_core.specs.Note.{Kind}
use Rattle.store_core.specs.Outcomes.{cause_of, result_of}
use Rattle.store_core.specs.RowLines.{client, repair}
use Rattle.store_core.specs.Shown.{shown, refused_line, repair_line, lines_of_ended, client_name, repairer_name}
use Rattle.store_core.specs.Work.{Ended, Work, Calling, client_work, repairer_work}
use Rattle.run_laws.specs.OutcomeLaws.{IsOutcomeOf, MayBeServed}
use Rattle.run_laws.proofs.StepOutcomes.{outcomes_in_steps}
use Rattle.run_laws.specs.ToldLaws.{EndedSo, AllWereTold}
use Rattle.run_laws.proofs.Runs.{CanRun}
use Rattle.run_laws.proofs.RunsSound.{RunKeeps, fit_clients, fit_repairers}
use Rattle.history_laws.specs.HasPoints.{IsReply, IsPin, PointAt, HasItsPoint}
use Rattle.history_laws.proofs.HistoryOrder.{LinesInOrder}
use Rattle.history_laws.proofs.NamedCalls.{AllCalls, inside}
use Rattle.history_laws.proofs.Naming.{named_client}
use Rattle.history_laws.proofs.OrderLists.{map_all, map_contains, all_indexed, in_indexed}
use Rattle.history_laws.proofs.OrderPoints.{EventFits, PointFits}
use Rattle.history_laws.proofs.OrderShown.{ShownPoint, LineOf, Replied, all_shown, line_there}
use Rattle.history_laws.proofs.Points.{IsOfCall, IsOfScript}
use Rattle.run_laws.proofs.SoundLists.{all_by, at_all, contains_at, in_filter, filtered}
use Rattle.store_core.specs.Tell.{tell}

-- ---- how far each actor has come
abbrev pub ended_of : Option Calling → ℕ
ended_of found = option_map_or (λ (c : Calling). length c.ended) found 0

-- how many of this call's actor's calls have ended
abbrev pub ended_count : Core → CallName → ℕ
ended_count core (name.Client call) = ended_of (slice_get core.clients call.client)
ended_count core (name.Repairer call) = ended_of (slice_get core.repairers call.repairer)

-- whether a call was answered
abbrev pub answered_at : Core → CallName → Bool
answered_at core (name.Client call) = answered_in core (actor.Client call.client) call.number
answered_at core (name.Repairer call) = false

abbrev pub is_client : CallName → Bool
is_client (name.Client call) = true
is_client (name.Repairer call) = false

below_by : (found : Option Calling) (number : ℕ) → is_answer (option_and_then (λ (c : Calling). slice_get c.ended number) found) ≡ true → number < ended_of found
below_by None number e = absurd (true≢false (sym e))
below_by (Some c) number e = by (slice_get c.ended number) refl e
  where
    by : (found : Option Ended) → slice_get c.ended number ≡ found → is_answer found ≡ true → number < length c.ended
    by None is e = absurd (true≢false (sym e))
    by (Some ended) is e = slice_get_within c.ended number ended is

-- an answered call has ended
pub answered_below : (core : Core) (call : CallName) → answered_at core call ≡ true → number_of call < ended_count core call
answered_below core (name.Client call) e = below_by (slice_get core.clients call.client) call.number e
answered_below core (name.Repairer call) e = absurd (true≢false (sym e))

-- ---- outcomes
-- a client's outcome without a reply has a cause
record Caused (outcome : Outcome) : Type 0 where
  cause : Cause
  is : cause_of outcome ≡ Some cause

has_cause : (kind : Kind) (outcome : Outcome) → kind ≢ Kind.Rebuild → IsOutcomeOf kind outcome → is_answered outcome ≡ false → Caused outcome
has_cause kind (Outcome.Answered point given) differs h e = absurd (true≢false e)
has_cause kind (Outcome.Served point) differs h e = absurd (true≢false e)
has_cause kind (Outcome.Unavailable stripe missing) differs h e = record { cause = _; is = refl }
has_cause kind (Outcome.Contended pairs) differs h e = record { cause = _; is = refl }
has_cause kind (Outcome.Reaped point) differs h e = record { cause = _; is = refl }
has_cause kind Outcome.NoMemory differs h e = record { cause = _; is = refl }
has_cause kind Outcome.Rebuilt differs h e = absurd (differs h)
has_cause kind Outcome.Here differs h e = absurd (differs h)
has_cause kind (Outcome.Away downs) differs h e = absurd (differs h)
has_cause kind Outcome.NoSuch differs h e = absurd (differs h)
has_cause kind (Outcome.Superseded newer) differs h e = absurd (differs h)

-- one with a cause is no reply
no_reply : (outcome : Outcome) (cause : Cause) → cause_of outcome ≡ Some cause → is_answered outcome ≡ false
no_reply (Outcome.Answered point given) cause e = absurd (none-some cause e)
no_reply (Outcome.Served point) cause e = absurd (none-some cause e)
no_reply outcome cause e = refl

-- a rebuild has a result
record Resulted (outcome : Outcome) : Type 0 where
  result : RepairResult
  is : result_of outcome ≡ Some result

abbrev is_write : Kind → Bool
is_write Kind.Write = true
is_write kind = false

has_result : (kind : Kind) (outcome : Outcome) → kind ≡ Kind.Rebuild → IsOutcomeOf kind outcome → Resulted outcome
has_result kind (Outcome.Answered point given) is h = absurd (h is)
has_result kind (Outcome.Served point) is h = absurd (subst MayBeServed is h)
has_result kind (Outcome.Contended pairs) is h = absurd (true≢false (sym (ap is_write h) ∙ ap is_write is))
has_result kind (Outcome.Unavailable stripe missing) is h = record { result = _; is = refl }
has_result kind (Outcome.Reaped point) is h = record { result = _; is = refl }
has_result kind Outcome.NoMemory is h = record { result = _; is = refl }
has_result kind Outcome.Rebuilt is h = record { result = _; is = refl }
has_result kind Outcome.Here is h = record { result = _; is = refl }
has_result kind (Outcome.Away downs) is h = record { result = _; is = refl }
has_result kind Outcome.NoSuch is h = record { result = _; is = refl }
has_result kind (Outcome.Superseded newer) is h = record { result = _; is = refl }

-- ---- one core
-- what is known of a run's core
pub record EndKnown (script : Script) (core : Core) : Type 0 where
  pub can : CanRun script
  pub kept : RunKeeps script core
  pub fits : (i : ℕ) (c : Calling) → slice_get core.clients i ≡ Some c → All (PointFits script i c) core.directory.points
  pub points : All (IsOfScript script) core.directory.points
  pub has_points : (i : ℕ) (c : Calling) → slice_get core.clients i ≡ Some c → (number : ℕ) (ended : Ended) → slice_get c.ended number ≡ Some ended → HasItsPoint (actor.Client i) number core.directory.points ended.outcome
  pub told : AllWereTold script core
  pub calls : AllCalls script [] core
  pub order : LinesInOrder script (history_of script core)

module _ (script : Script) (core : Core) (known : EndKnown script core) where
  abbrev t : Transcript
  t = shown script core

  abbrev client_calls : ℕ → ℕ → Ended → List XLine
  client_calls i number ended = refused_line (client i number) (cause_of ended.outcome)

  abbrev repairer_calls : ℕ → ℕ → Ended → List RLine
  repairer_calls i number ended = repair_line (repair i number) (result_of ended.outcome)

  -- the work of each actor
  pub client_has : (i : ℕ) (c : Calling) → slice_get core.clients i ≡ Some c → (w : Work) × (slice_get (client_work script) i ≡ Some w)
  client_has i c e =
      inside (client_work script) i
      (let low : i < length core.clients = slice_get_within core.clients i c e in
      let same : length core.clients ≡ length script.clients = known.kept.keeps.client_count in
      let size : length (client_work script) ≡ length script.clients = length-map script.clients (λ (part : ClientPart). record { jobs = map job_of part.calls; leave = part.leave }) in
      omega (arith, low, same, size))

  pub repairer_has : (i : ℕ) (c : Calling) → slice_get core.repairers i ≡ Some c → (w : Work) × (slice_get (repairer_work script) i ≡ Some w)
  repairer_has i c e =
      inside (repairer_work script) i
      (let low : i < length core.repairers = slice_get_within core.repairers i c e in
      let same : length core.repairers ≡ length script.repairers = known.kept.keeps.repairer_count in
      let size : length (repairer_work script) ≡ length script.repairers = length-map script.repairers (λ (part : RepairPart). record { jobs = map rebuild_job part.calls; leave = part.leave }) in
      omega (arith, low, same, size))

  -- ---- lines of answers
  -- a client's point with a reply: what its event says
  event_answered : (i : ℕ) (point : Point) (mapped : Reply) (says : Shown) (c : Calling) → slice_get core.clients i ≡ Some c → (event : Event) → EventFits script i c point.number event
      → shown_at event (is_answer (slice_get c.ended point.number)) mapped ≡ Some says → is_reply says ≡ true → is_answer (slice_get c.ended point.number) ≡ true
  event_answered i point mapped says c is_c (Event.Answer given) fits e replied = fits
  event_answered i point mapped says c is_c Event.Pinned fits e replied = by (is_answer (slice_get c.ended point.number)) e
    where
      by : (b : Bool) → shown_at Event.Pinned b mapped ≡ Some says → b ≡ true
      by true e = refl
      by false e = absurd (none-some says e)
  event_answered i point mapped says c is_c Event.Done fits e replied = by (is_answer (slice_get c.ended point.number)) e
    where
      by : (b : Bool) → shown_at Event.Done b mapped ≡ Some says → b ≡ true
      by true e = refl
      by false e = absurd (true≢false (sym replied ∙ ap is_reply (sym (same_Some shown_as.Unfinished says e))))
  event_answered i point mapped says c is_c Event.Reaped fits e replied = absurd (none-some says e)

  -- the client of a point
  point_client : (point : Point) (i : ℕ) → point.actor ≡ actor.Client i → (at : ℕ) → slice_get core.directory.points at ≡ Some point → (mapped : Reply) (says : Shown)
      → shown_at point.event (answered_in core point.actor point.number) mapped ≡ Some says → is_reply says ≡ true → answered_in core (actor.Client i) point.number ≡ true
  point_client point i mine at found mapped says e replied = by (slice_get core.clients i) refl (subst (λ a. shown_at point.event (answered_in core a point.number) mapped ≡ Some says) mine e)
    where
      -- no such client: then there is no such call
      nobody : (found_client : Option Calling) → slice_get core.clients i ≡ found_client → found_client ≡ None → (point.event ≡ Event.Reaped) ⊎ IsOfCall script point → ⊥
      nobody found_client is none (inl reaped) = none-some says (subst (λ event. shown_at event (answered_in core point.actor point.number) mapped ≡ Some says) reaped e)
      nobody found_client is none (inr of) = low_gone (slice_get script.clients i) refl (subst (λ a. call_of script a point.number ≡ Some of.call) mine of.is_call)
        where
          low_gone : (part : Option ClientPart) → slice_get script.clients i ≡ part → option_and_then (λ (p : ClientPart). slice_get p.calls point.number) part ≡ Some of.call → ⊥
          low_gone None is_part call = none-some of.call call
          low_gone (Some part) is_part call =
              let low : i < length script.clients = slice_get_within script.clients i part is_part in
              let same : length core.clients ≡ length script.clients = known.kept.keeps.client_count in
              let there : (c : Calling) × (slice_get core.clients i ≡ Some c) = inside core.clients i (omega (arith, low, same)) in
              none-some there.0 (sym none ∙ sym is ∙ there.1)

      by : (found_client : Option Calling) → slice_get core.clients i ≡ found_client → shown_at point.event (is_answer (option_and_then (λ (c : Calling). slice_get c.ended point.number) found_client)) mapped ≡ Some says
          → is_answer (option_and_then (λ (c : Calling). slice_get c.ended point.number) found_client) ≡ true
      by None is e = absurd (nobody None is refl (at_all (IsOfScript script) core.directory.points at point known.points found))
      by (Some c) is e = event_answered i point mapped says c is point.event (at_all (PointFits script i c) core.directory.points at point (known.fits i c is) found mine) e replied

  -- a line with a reply is of an answered call
  reply_answered : (line : HLine) → ShownPoint script core core.directory.points line → is_reply line.reply ≡ true → answered_at core (name.Client line.call) ≡ true
  reply_answered line of replied =
      let named : (of.point.actor ≡ actor.Client line.call.client) × (of.point.number ≡ line.call.number) = named_client of.point.actor of.point.number line.call of.named in
      subst (λ n. answered_in core (actor.Client line.call.client) n ≡ true) named.1 (point_client of.point line.call.client named.0 of.at of.found of.mapped line.reply of.says replied)

  abbrev pub replied_calls : List CallName
  replied_calls = map (λ line. name.Client line.call) (filter (λ line. is_reply line.reply) t.history)

  pub all_replied : All (λ call. answered_at core call ≡ true) replied_calls
  all_replied =
      map_all (λ call. answered_at core call ≡ true) (λ (line : HLine). name.Client line.call) (filter (λ line. is_reply line.reply) t.history)
      (all_by (λ (line : HLine). answered_at core (name.Client line.call) ≡ true) (filter (λ line. is_reply line.reply) t.history)
      (λ line has.
      let there : Contains t.history line × (is_reply line.reply ≡ true) = in_filter (λ (l : HLine). is_reply l.reply) t.history line has in
      reply_answered line (All-contains (ShownPoint script core core.directory.points) t.history line (all_shown script core) there.0) there.1))

  -- ---- each call that has ended has its line
  -- the kind of a client's call, and of its outcome
  not_rebuild : (kind : Kind) (offset : ℕ) → (kind ≡ Kind.Write) ⊎ ((kind ≡ Kind.ReadAt) ⊎ ((kind ≡ Kind.Rebuild → ⊥) × (offset ≡ 0))) → kind ≢ Kind.Rebuild
  not_rebuild kind offset (inl is) same = true≢false (ap is_write (sym is ∙ same))
  not_rebuild kind offset (inr (inl is)) same = true≢false (ap is_read (sym is ∙ same))
    where
      is_read : Kind → Bool
      is_read Kind.ReadAt = true
      is_read kind = false
  not_rebuild kind offset (inr (inr h)) same = h.0 same

  kind_of : (job : Job) (outcome : Outcome) → EndedSo script job outcome → IsOutcomeOf job.note.kind outcome
  kind_of job outcome so = (outcomes_in_steps script.geometry (size_of script) (tries_of script) job).kinds (fold (tell script.geometry job) [] so.answers) outcome so.ends

  client_caused : (i : ℕ) (c : Calling) → slice_get core.clients i ≡ Some c → (number : ℕ) (e : Ended) → slice_get c.ended number ≡ Some e → is_answered e.outcome ≡ false → Caused e.outcome
  client_caused i c is_c number e is_e unanswered =
      let work : (w : Work) × (slice_get (client_work script) i ≡ Some w) = client_has i c is_c in
      let most : length c.ended ≤ length work.0.jobs = (known.calls.clients i c is_c work.0 work.1).below in
      let low : number < length c.ended = slice_get_within c.ended number e is_e in
      let job : (j : Job) × (slice_get work.0.jobs number ≡ Some j) = inside work.0.jobs number (omega (arith, most, low)) in
      has_cause job.0.note.kind e.outcome (not_rebuild job.0.note.kind job.0.note.offset (fit_clients script i work.0 work.1 number job.0 job.1))
      (kind_of job.0 e.outcome ((known.told.clients i work.0 c work.1 is_c).ended number job.0 e job.1 is_e)) unanswered

  repairer_resulted : (i : ℕ) (c : Calling) → slice_get core.repairers i ≡ Some c → (number : ℕ) (e : Ended) → slice_get c.ended number ≡ Some e → Resulted e.outcome
  repairer_resulted i c is_c number e is_e =
      let work : (w : Work) × (slice_get (repairer_work script) i ≡ Some w) = repairer_has i c is_c in
      let most : length c.ended ≤ length work.0.jobs = (known.calls.repairers i c is_c work.0 work.1).below in
      let low : number < length c.ended = slice_get_within c.ended number e is_e in
      let job : (j : Job) × (slice_get work.0.jobs number ≡ Some j) = inside work.0.jobs number (omega (arith, most, low)) in
      has_result job.0.note.kind e.outcome (fit_repairers script i work.0 work.1 number job.0 job.1)
      (kind_of job.0 e.outcome ((known.told.repairers i work.0 c work.1 is_c).ended number job.0 e job.1 is_e))

  -- a client's call in the core
  answered_is : (i : ℕ) (c : Calling) → slice_get core.clients i ≡ Some c → (number : ℕ) (e : Ended) → slice_get c.ended number ≡ Some e → answered_in core (actor.Client i) number ≡ is_answered e.outcome
  answered_is i c is_c number e is_e = ap (λ o. is_answer (option_and_then (λ (x : Calling). slice_get x.ended number) o)) is_c ∙ ap is_answer is_e

  client_below : (i : ℕ) (c : Calling) → slice_get core.clients i ≡ Some c → (number : ℕ) (e : Ended) → slice_get c.ended number ≡ Some e → number < ended_count core (client_name i number)
  client_below i c is_c number e is_e = subst (λ o. number < ended_of o) (sym is_c) (slice_get_within c.ended number e is_e)

  repairer_below : (i : ℕ) (c : Calling) → slice_get core.repairers i ≡ Some c → (number : ℕ) (e : Ended) → slice_get c.ended number ≡ Some e → number < ended_count core (repairer_name i number)
  repairer_below i c is_c number e is_e = subst (λ o. number < ended_of o) (sym is_c) (slice_get_within c.ended number e is_e)

  replied_at : (event : Event) → IsReply event ⊎ IsPin event → (mapped : Reply) → Replied script core (shown_at event true mapped)
  replied_at (Event.Answer given) h mapped = refl
  replied_at Event.Pinned h mapped = refl
  replied_at Event.Done h mapped = refl
  replied_at Event.Reaped (inl h) mapped = h
  replied_at Event.Reaped (inr h) mapped = h

  point_line : (i number : ℕ) → answered_in core (actor.Client i) number ≡ true → (Is : Event → Type 0) → ((event : Event) → Is event → IsReply event ⊎ IsPin event) → (place : ℕ) → PointAt (actor.Client i) number Is core.directory.points place
      → LineOf script core t.history (client i number)
  point_line i number is_answered_now Is either place at =
      line_there script core place at.point at.found (client i number) ((λ k. client_call (at.mine k) (at.of_call k)))
      (λ mapped.
      subst (λ b. Replied script core (shown_at at.point.event b mapped)) (sym ((λ k. answered_in core (at.mine k) (at.of_call k)) ∙ is_answered_now)) (replied_at at.point.event (either at.point.event at.is) mapped))

  client_line : (i number : ℕ) (outcome : Outcome) → is_answered outcome ≡ true → answered_in core (actor.Client i) number ≡ true → HasItsPoint (actor.Client i) number core.directory.points outcome → LineOf script core t.history (client i number)
  client_line i number (Outcome.Answered point given) e now_answered at = point_line i number now_answered IsReply (λ event h. inl h) point at
  client_line i number (Outcome.Served point) e now_answered at = point_line i number now_answered IsPin (λ event h. inr h) point at
  client_line i number outcome e now_answered at = absurd (true≢false (sym e))

  abbrev pub refused_calls : List CallName
  refused_calls = map (λ line. name.Client line.call) t.refused

  abbrev pub repair_calls : List CallName
  repair_calls = map (λ line. name.Repairer line.call) t.repairs

  replied_there : (call : ClientCall) → LineOf script core t.history call → Contains replied_calls (name.Client call)
  replied_there call of =
      subst (λ c. Contains replied_calls (name.Client c)) of.of_call
      (map_contains (λ (line : HLine). name.Client line.call) (filter (λ line. is_reply line.reply) t.history) of.line (filtered (λ (line : HLine). is_reply line.reply) t.history of.line of.replied of.stands))

  refused_there : (i : ℕ) (c : Calling) → slice_get core.clients i ≡ Some c → (number : ℕ) (e : Ended) → slice_get c.ended number ≡ Some e → Caused e.outcome → Contains refused_calls (client_name i number)
  refused_there i c is_c number e is_e caused =
      let line : XLine = record { call = client i number; cause = caused.cause } in
      map_contains (λ (l : XLine). name.Client l.call) t.refused line
      (in_indexed (λ j. lines_of_ended (client_calls j)) core.clients i c line is_c
      (in_indexed (client_calls i) c.ended number e line is_e (subst (λ found. Contains (refused_line (client i number) found) line) (sym caused.is) (contains_at (line ∷ []) 0 line refl))))

  repair_there : (i : ℕ) (c : Calling) → slice_get core.repairers i ≡ Some c → (number : ℕ) (e : Ended) → slice_get c.ended number ≡ Some e → Resulted e.outcome → Contains repair_calls (repairer_name i number)
  repair_there i c is_c number e is_e resulted =
      let line : RLine = record { call = repair i number; result = resulted.result } in
      map_contains (λ (l : RLine). name.Repairer l.call) t.repairs line
      (in_indexed (λ j. lines_of_ended (repairer_calls j)) core.repairers i c line is_c
      (in_indexed (repairer_calls i) c.ended number e line is_e (subst (λ found. Contains (repair_line (repair i number) found) line) (sym resulted.is) (contains_at (line ∷ []) 0 line refl))))

  first_part : (call : CallName) → Contains replied_calls call → Contains (answered_calls t) call
  first_part call has = Contains-append_left (replied_calls ++ refused_calls) repair_calls call (Contains-append_left replied_calls refused_calls call has)

  client_ended : (i : ℕ) (c : Calling) → slice_get core.clients i ≡ Some c → (number : ℕ) (e : Ended) → slice_get c.ended number ≡ Some e → Contains (answered_calls t) (client_name i number)
  client_ended i c is_c number e is_e = by (is_answered e.outcome) refl
    where
      by : (b : Bool) → is_answered e.outcome ≡ b → Contains (answered_calls t) (client_name i number)
      by true is = first_part (client_name i number) (replied_there (client i number) (client_line i number e.outcome is (answered_is i c is_c number e is_e ∙ is) (known.has_points i c is_c number e is_e)))
      by false is =
          Contains-append_left (replied_calls ++ refused_calls) repair_calls (client_name i number)
          (Contains-append_right replied_calls refused_calls (client_name i number) (refused_there i c is_c number e is_e (client_caused i c is_c number e is_e is)))

  repairer_ended : (i : ℕ) (c : Calling) → slice_get core.repairers i ≡ Some c → (number : ℕ) (e : Ended) → slice_get c.ended number ≡ Some e → Contains (answered_calls t) (repairer_name i number)
  repairer_ended i c is_c number e is_e =
      Contains-append_right (replied_calls ++ refused_calls) repair_calls (repairer_name i number) (repair_there i c is_c number e is_e (repairer_resulted i c is_c number e is_e))

  -- all calls that have ended are answered
  pub ended_answered : (call : CallName) → number_of call < ended_count core call → Contains (answered_calls t) call
  ended_answered (name.Client call) low = by (slice_get core.clients call.client) refl low
    where
      by : (found : Option Calling) → slice_get core.clients call.client ≡ found → call.number < ended_of found → Contains (answered_calls t) (name.Client call)
      by None is low = absurd (omega (arith, low))
      by (Some c) is low = let e : (x : Ended) × (slice_get c.ended call.number ≡ Some x) = inside c.ended call.number low in client_ended call.client c is call.number e.0 e.1
  ended_answered (name.Repairer call) low = by (slice_get core.repairers call.repairer) refl low
    where
      by : (found : Option Calling) → slice_get core.repairers call.repairer ≡ found → call.number < ended_of found → Contains (answered_calls t) (name.Repairer call)
      by None is low = absurd (omega (arith, low))
      by (Some c) is low = let e : (x : Ended) × (slice_get c.ended call.number ≡ Some x) = inside c.ended call.number low in repairer_ended call.repairer c is call.number e.0 e.1

  -- ---- what the other lines of answers are of
  abbrev pub IsRefused : CallName → Type 0
  IsRefused call = (answered_at core call ≡ false) × ((is_client call ≡ true) × (number_of call < ended_count core call))

  abbrev pub IsResult : CallName → Type 0
  IsResult call = (is_client call ≡ false) × (number_of call < ended_count core call)

  pub all_refused : All IsRefused refused_calls
  all_refused =
      map_all IsRefused (λ (line : XLine). name.Client line.call) t.refused
      (all_indexed (λ j. lines_of_ended (client_calls j)) (λ (line : XLine). IsRefused (name.Client line.call)) core.clients
      (λ i c is_c. all_indexed (client_calls i) (λ (line : XLine). IsRefused (name.Client line.call)) c.ended (λ number e is_e. one i c is_c number e is_e (cause_of e.outcome) refl)))
    where
      one : (i : ℕ) (c : Calling) → slice_get core.clients i ≡ Some c → (number : ℕ) (e : Ended) → slice_get c.ended number ≡ Some e → (found : Option Cause) → cause_of e.outcome ≡ found
          → All (λ (line : XLine). IsRefused (name.Client line.call)) (refused_line (client i number) found)
      one i c is_c number e is_e None is = All-nil (λ (line : XLine). IsRefused (name.Client line.call))
      one i c is_c number e is_e (Some cause) is =
          All-cons (λ (line : XLine). IsRefused (name.Client line.call)) (record { call = client i number; cause = cause }) []
          (answered_is i c is_c number e is_e ∙ no_reply e.outcome cause is, (refl, client_below i c is_c number e is_e)) (All-nil (λ (line : XLine). IsRefused (name.Client line.call)))

  pub all_results : All IsResult repair_calls
  all_results =
      map_all IsResult (λ (line : RLine). name.Repairer line.call) t.repairs
      (all_indexed (λ j. lines_of_ended (repairer_calls j)) (λ (line : RLine). IsResult (name.Repairer line.call)) core.repairers
      (λ i c is_c. all_indexed (repairer_calls i) (λ (line : RLine). IsResult (name.Repairer line.call)) c.ended (λ number e is_e. one i c is_c number e is_e (result_of e.outcome))))
    where
      one : (i : ℕ) (c : Calling) → slice_get core.repairers i ≡ Some c → (number : ℕ) (e : Ended) → slice_get c.ended number ≡ Some e → (found : Option RepairResult)
          → All (λ (line : RLine). IsResult (name.Repairer line.call)) (repair_line (repair i number) found)
      one i c is_c number e is_e None = All-nil (λ (line : RLine). IsResult (name.Repairer line.call))
      one i c is_c number e is_e (Some result) =
          All-cons (λ (line : RLine). IsResult (name.Repairer line.call)) (record { call = repair i number; result = result }) [] (refl, repairer_below i c is_c number e is_e) (All-nil (λ (line : RLine). IsResult (name.Repairer line.call)))
