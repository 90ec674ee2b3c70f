-- In every run a client's reply has its point only where the call was answered, and a commit only where it was or is about to be.
use Rattle.std.proofs.Common.{◌≡◌, ℕ, zero, suc, ◌+◌, ◌<◌, Bool, true, false, List, [], ◌∷◌, ◌++◌, length, filter, Option, None, Some, All, ◌⊎◌, inl, inr, refl, sym, ap, subst, ◌∙◌, arith, true≢false}
use Rattle.std.proofs.lemmas.Option.{same_Some}
use Rattle.std.proofs.lemmas.List.Elements.{All-nil, All-push, All-weaker}
use Rattle.std.specs.List.{slice_get}
use Rattle.clay_grid.specs.Shape.{Shape, chunk_count}
use Rattle.store_map.specs.Limits.{size_of, tries_of}
use Rattle.store_map.specs.declared.actor.Actor.{Actor}
use Rattle.store_map.specs.declared.actor.Actor.TheVariants as actor
use Rattle.store_map.specs.declared.actor.Token.{Token}
use Rattle.store_map.specs.declared.reply.Reply.{Reply}
use Rattle.store_map.specs.declared.script.Script.{Script}
use Rattle.store_core.specs.Act.{Act, DirectoryStep, ServerStep, Outcome}
use Rattle.store_core.specs.ActPlace.{is_in_pass}
use Rattle.store_core.specs.AtDirectory.{at_directory}
use Rattle.store_map.specs.declared.placement.Placement.{Placement}
use Rattle.store_core.specs.Bounds.{touched_count}
use Rattle.store_core.specs.Core.{Core, first_core}
use Rattle.store_core.specs.Directory.{Event, Point}
use Rattle.store_core.specs.History.{is_answered, is_answer}
use Rattle.store_core.specs.Lists.{places_of}
use Rattle.store_core.specs.NextAct.{Job, next_act, next_by}
use Rattle.store_core.specs.Note.{Note, Kind}
use Rattle.store_core.specs.Put.{settling, next_put}
use Rattle.store_core.specs.Write.{trying}
use Rattle.store_core.specs.Run.{places_in}
use Rattle.store_core.specs.Server.{Server}
use Rattle.store_core.specs.Step.{Shortage, Places, at_places, at_server_there, told_first, take_from, ended_by, actor_step}
use Rattle.store_core.specs.Sweep.{next_sweep}
use Rattle.store_core.specs.Tell.{tell, tell_by, is_versions}
use Rattle.store_core.specs.Told.{Told}
use Rattle.store_core.specs.Work.{Ended, Work, Calling, client_work}
use Rattle.run_laws.specs.Answers.{Answers}
use Rattle.run_laws.specs.CallLeft.{pin_bound}
use Rattle.run_laws.proofs.Falls.{AtCommit}
use Rattle.run_laws.proofs.Commits.{Commits, put_commits, trying_commits}
use Rattle.run_laws.proofs.Ends.{answers_end_calls}
use Rattle.run_laws.proofs.CallActs.{ActOfKind}
use Rattle.run_laws.proofs.PlaceMoves.{call_step}
use Rattle.run_laws.proofs.Proper.{IsProper, HasTry, IsWriting}
use Rattle.run_laws.proofs.Runs.{CanRun}
use Rattle.history_laws.proofs.ActorLines.{each_changed}
use Rattle.history_laws.proofs.AtWork.{AtWork, client_at, repairer_at, pass_number, pass_note, first, act, after, proper, answered, of_kind}
use Rattle.history_laws.proofs.Induction.{KeptBySteps}
use Rattle.history_laws.proofs.Points.{others_points}
use Rattle.history_laws.proofs.PointsOfCalls.{sweeps}
use Rattle.history_laws.proofs.ToldPoints.{Adds, PointTold, points_told}

-- ---- a call that has committed
-- its versions and its commit are all that was told, but for its settles
pub record HasDone (told : List Told) : Type 0 where
  pub versions : List ℕ
  pub point : ℕ
  pub since : List Told
  pub is : told ≡ Told.Versions versions ∷ Told.Done point ∷ since

-- it settles, or is answered
abbrev SettlesOrAnswers : Act → Type 0
SettlesOrAnswers (Act.AtServer server (ServerStep.Settle version)) = Unit {0}
SettlesOrAnswers (Act.Finish (Outcome.Answered point given)) = Unit {0}
SettlesOrAnswers _ = ⊥

settling_so : (point : ℕ) (places : List (ℕ × ℕ)) (told : List Told) → SettlesOrAnswers (settling point places told)
settling_so point [] told = tt
settling_so point (place ∷ places) [] = tt
settling_so point (place ∷ places) (answer ∷ told) = settling_so point places told

done_by : (kind : Kind) → IsWriting kind → (g : Shape) (tries : ℕ) (job : Job) (versions : List ℕ) (point : ℕ) (since : List Told)
    → next_by kind g tries job (Told.Versions versions ∷ Told.Done point ∷ since) ≡ settling point (places_of (chunk_count g) versions) since
done_by Kind.Put writes g tries job versions point since = refl
done_by Kind.Write writes g tries job versions point since = refl
done_by kind writes g tries job versions point since = absurd writes

done_acts : (g : Shape) (tries : ℕ) (job : Job) → IsWriting job.note.kind → (told : List Told) → HasDone told → SettlesOrAnswers (next_act g tries job told)
done_acts g tries job writes told done =
    subst SettlesOrAnswers
    (sym (ap (next_act g tries job) done.is ∙ done_by job.note.kind writes g tries job done.versions done.point done.since))
    (settling_so done.point (places_of (chunk_count g) done.versions) done.since)

settled_by : (kind : Kind) (g : Shape) (job : Job) (versions : List ℕ) (point : ℕ) (since : List Told)
    → tell_by kind g job (Told.Versions versions ∷ Told.Done point ∷ since) Told.Settled ≡ Told.Versions versions ∷ Told.Done point ∷ (since ++ Told.Settled ∷ [])
settled_by Kind.Put g job versions point since = refl
settled_by Kind.Write g job versions point since = refl
settled_by Kind.Get g job versions point since = refl
settled_by Kind.ReadAt g job versions point since = refl
settled_by Kind.Stat g job versions point since = refl
settled_by Kind.Delete g job versions point since = refl
settled_by Kind.Rebuild g job versions point since = refl

-- a settle keeps it so
done_settled : (g : Shape) (job : Job) (told : List Told) → HasDone told → HasDone (tell g job told Told.Settled)
done_settled g job told done =
    record {
      versions = done.versions;
      point = done.point;
      since = done.since ++ Told.Settled ∷ [];
      is = ap (λ l. tell g job l Told.Settled) done.is ∙ settled_by job.note.kind g job done.versions done.point done.since;
    }

-- a commit makes it so
commit_versions : (kind : Kind) → IsWriting kind → (g : Shape) (tries : ℕ) (job : Job) (told : List Told) (placed : List (List Placement)) → next_by kind g tries job told ≡ Act.AtDirectory (DirectoryStep.Commit placed)
    → (drawn : List ℕ) × (filter is_versions told ≡ Told.Versions drawn ∷ [])
commit_versions Kind.Put writes g tries job told placed e =
    let facts : Commits told (next_put g job.note told) = put_commits g job.note told (subst AtCommit (sym e) tt) in (facts.drawn, facts.versions)
commit_versions Kind.Write writes g tries job told placed e =
    let facts : Commits told (trying g tries job.note [] told) = trying_commits g tries job.note [] told (subst AtCommit (sym e) tt) in (facts.drawn, facts.versions)
commit_versions kind writes g tries job told placed e = absurd writes

done_committed : (g : Shape) (tries : ℕ) (job : Job) → IsWriting job.note.kind → (told : List Told) (placed : List (List Placement)) (point : ℕ) → next_act g tries job told ≡ Act.AtDirectory (DirectoryStep.Commit placed)
    → HasDone (tell g job told (Told.Done point))
done_committed g tries job writes told placed point e =
    let drawn : (drawn : List ℕ) × (filter is_versions told ≡ Told.Versions drawn ∷ []) = commit_versions job.note.kind writes g tries job told placed e in
    record { versions = drawn.0; point = point; since = []; is = ap (λ l. l ++ Told.Done point ∷ []) drawn.1 }

-- ---- what a point says of its call
-- the call with this number was answered
abbrev pub IsAnsweredAt : Calling → ℕ → Type 0
IsAnsweredAt c number = is_answer (slice_get c.ended number) ≡ true

-- it is in work, after its commit
pub record IsCommitted (script : Script) (i : ℕ) (c : Calling) (number : ℕ) : Type 0 where
  pub is_number : number ≡ length c.ended
  pub begun : 0 < c.steps
  pub writes : (work : Work) → slice_get (client_work script) i ≡ Some work → (job : Job) → slice_get work.jobs (length c.ended) ≡ Some job → IsWriting job.note.kind
  pub done : HasDone c.told

abbrev pub EventFits : Script → ℕ → Calling → ℕ → Event → Type 0
EventFits script i c number (Event.Answer given) = IsAnsweredAt c number
EventFits script i c number Event.Done = IsAnsweredAt c number ⊎ IsCommitted script i c number
EventFits script i c number event = Unit {0}

-- so of all points of a client
abbrev pub PointFits : Script → ℕ → Calling → Point → Type 0
PointFits script i c point = point.actor ≡ actor.Client i → EventFits script i c point.number point.event

answered_push : (es : List Ended) (last : Ended) (number : ℕ) → is_answer (slice_get es number) ≡ true → is_answer (slice_get (es ++ last ∷ []) number) ≡ true
answered_push [] last number e = absurd (true≢false (sym e))
answered_push (x ∷ es) last zero e = e
answered_push (x ∷ es) last (suc number) e = answered_push es last number e

answered_last : (es : List Ended) (last : Ended) → is_answered last.outcome ≡ true → is_answer (slice_get (es ++ last ∷ []) (length es)) ≡ true
answered_last [] last e = e
answered_last (x ∷ es) last e = answered_last es last e

-- ---- a client's step
module _ (script : Script) (i : ℕ) (work : Work) (is_work : slice_get (client_work script) i ≡ Some work) (job : Job) (calling : Calling) (is_job : slice_get work.jobs (length calling.ended) ≡ Some job)
    (places : Places) (at : AtWork script (actor.Client i) job calling places) (shortages : Shortage) where
  abbrev g : Shape
  g = script.geometry

  abbrev tries : ℕ
  tries = tries_of script

  abbrev told : List Told
  told = first script (actor.Client i) job calling places at shortages.coding shortages.step

  abbrev made : Places × Told
  made = after script (actor.Client i) job calling places at shortages.coding shortages.step

  abbrev now : List Told
  now = tell g job told made.1

  abbrev middle : Calling
  middle = record { ended = calling.ended; told = now; takes = take_from (act script (actor.Client i) job calling places at shortages.coding shortages.step) made.1 calling.takes; steps = calling.steps + 1 }

  abbrev next : Calling
  next = ended_by (next_act g tries job now) (chunk_count g) middle

  -- an answered call stays so
  answered_stays : (number : ℕ) → IsAnsweredAt calling number → IsAnsweredAt next number
  answered_stays number h = by (next_act g tries job now)
    where
      by : (a : Act) → IsAnsweredAt (ended_by a (chunk_count g) middle) number
      by (Act.Finish outcome) = answered_push calling.ended _ number h
      by (Act.AtDirectory step) = h
      by (Act.AtServer server step) = h

  -- a call that is answered by this step
  ends_answered : (point : ℕ) (given : Reply) → next_act g tries job now ≡ Act.Finish (Outcome.Answered point given) → IsAnsweredAt next (length calling.ended)
  ends_answered point given e =
      subst (λ a. IsAnsweredAt (ended_by a (chunk_count g) middle) (length calling.ended)) (sym e) (answered_last calling.ended _ refl)

  -- a call that has committed is answered, or goes on so
  goes_on : IsWriting job.note.kind → HasDone now → IsAnsweredAt next (length calling.ended) ⊎ IsCommitted script i next (length calling.ended)
  goes_on writes done = by (next_act g tries job now) (done_acts g tries job writes now done)
    where
      by : (a : Act) → SettlesOrAnswers a → IsAnsweredAt (ended_by a (chunk_count g) middle) (length calling.ended) ⊎ IsCommitted script i (ended_by a (chunk_count g) middle) (length calling.ended)
      by (Act.AtServer server (ServerStep.Settle version)) so =
          inr (record {
            is_number = refl;
            begun = omega arith;
            writes = λ w is j e. subst (λ (k : Job). IsWriting k.note.kind) (same_Some job j (sym is_job ∙ subst (λ (x : Work). slice_get x.jobs (length calling.ended) ≡ Some j) (same_Some w work (sym is ∙ is_work)) e)) writes;
            done = done;
          })
      by (Act.Finish (Outcome.Answered point given)) so = inl (answered_last calling.ended _ refl)
      by a so = absurd so

  -- after its commit a call isn't short of memory
  quiet_first : IsWriting job.note.kind → HasDone calling.told → told ≡ calling.told
  quiet_first writes done = by shortages.coding (is_in_pass (next_act g tries job calling.told)) (no_pass (next_act g tries job calling.told) (done_acts g tries job writes calling.told done))
    where
      no_pass : (a : Act) → SettlesOrAnswers a → is_in_pass a ≡ false
      no_pass (Act.AtServer server (ServerStep.Settle version)) so = refl
      no_pass (Act.Finish (Outcome.Answered point given)) so = refl
      no_pass a so = absurd so

      by : (coding has : Bool) → has ≡ false → told_first coding has g job calling.told ≡ calling.told
      by true true e = absurd (true≢false e)
      by true false e = refl
      by false has e = refl

  settle_answer : (pins touched : ℕ) (a : Act) → SettlesOrAnswers a → (answer : Told) → Answers pins touched a answer → answer ≡ Told.Settled
  settle_answer pins touched (Act.AtServer server (ServerStep.Settle version)) so Told.Settled h = refl
  settle_answer pins touched (Act.AtServer server (ServerStep.Settle version)) so answer h = absurd h
  settle_answer pins touched (Act.Finish (Outcome.Answered point given)) so answer h = absurd h
  settle_answer pins touched a so answer h = absurd so

  stays_committed : (number : ℕ) → IsCommitted script i calling number → IsAnsweredAt next number ⊎ IsCommitted script i next number
  stays_committed number h =
      let writes : IsWriting job.note.kind = h.writes work is_work job is_job in
      let same : told ≡ calling.told = quiet_first writes h.done in
      let so : HasDone told = subst HasDone (sym same) h.done in
      let settled : made.1 ≡ Told.Settled =
      settle_answer (pin_bound g (size_of script) job.note) (touched_count g job.note) (act script (actor.Client i) job calling places at shortages.coding shortages.step) (done_acts g tries job writes told so) made.1
      (answered script (actor.Client i) job calling places at shortages.coding shortages.step).answers in
      subst (λ n. IsAnsweredAt next n ⊎ IsCommitted script i next n) (sym h.is_number)
      (goes_on writes (subst (λ answer. HasDone (tell g job told answer)) (sym settled) (done_settled g job told so)))

  event_stays : (number : ℕ) (event : Event) → EventFits script i calling number event → EventFits script i next number event
  event_stays number (Event.Answer given) h = answered_stays number h
  event_stays number Event.Done (inl h) = inl (answered_stays number h)
  event_stays number Event.Done (inr h) = stays_committed number h
  event_stays number Event.Pinned h = tt
  event_stays number Event.Reaped h = tt

  old_fit : (points : List Point) → All (PointFits script i calling) points → All (PointFits script i next) points
  old_fit points h = All-weaker (PointFits script i calling) (PointFits script i next) (λ point fits mine. event_stays point.number point.event (fits mine)) points h

  -- the point that comes
  added : (event : Event) (place : ℕ) (before after_points : List Point) → Adds (actor.Client i) (length calling.ended) job.note event place before after_points → EventFits script i next (length calling.ended) event
      → All (PointFits script i calling) before → All (PointFits script i next) after_points
  added event place before after_points adds fits old =
      subst (All (PointFits script i next)) (sym adds.added)
      (All-push (PointFits script i next) before (record { actor = actor.Client i; number = length calling.ended; note = job.note; event = event }) (old_fit before old) (λ mine. fits))

  told_fit : (answer : Told) (before after_points : List Point) → PointTold (actor.Client i) (length calling.ended) job.note before after_points answer
      → ((point : ℕ) (given : Reply) → answer ≡ Told.Answer point given → IsAnsweredAt next (length calling.ended))
      → ((point : ℕ) → answer ≡ Told.Done point → IsAnsweredAt next (length calling.ended) ⊎ IsCommitted script i next (length calling.ended))
      → All (PointFits script i calling) before → All (PointFits script i next) after_points
  told_fit (Told.Answer point given) before after_points h replied done old = added (Event.Answer given) point before after_points h (replied point given refl) old
  told_fit (Told.Pinned point length_now stripes) before after_points h replied done old = added Event.Pinned point before after_points h tt old
  told_fit (Told.Done point) before after_points h replied done old = added Event.Done point before after_points h (done point refl) old
  told_fit answer before after_points h replied done old = subst (All (PointFits script i next)) (sym h) (old_fit before old)

  -- a reply ends the call
  reply_ends : (pins touched : ℕ) (a : Act) → next_act g tries job told ≡ a → (answer : Told) → Answers pins touched a answer → (point : ℕ) (given : Reply) → answer ≡ Told.Answer point given
      → next_act g tries job (tell g job told (Told.Answer point given)) ≡ Act.Finish (Outcome.Answered point given)
  reply_ends pins touched (Act.AtDirectory (DirectoryStep.Look note)) e answer h point given is = (answers_end_calls g tries job).answered told note point given e
  reply_ends pins touched (Act.AtDirectory step) e answer h point given is = absurd (subst (Answers pins touched (Act.AtDirectory step)) is h)
  reply_ends pins touched (Act.AtServer server (ServerStep.Prepare version)) e answer h point given is = absurd (subst (Answers pins touched (Act.AtServer server (ServerStep.Prepare version))) is h)
  reply_ends pins touched (Act.AtServer server step) e answer h point given is = absurd (subst (Answers pins touched (Act.AtServer server step)) is h)
  reply_ends pins touched (Act.Finish outcome) e answer h point given is = absurd (subst (Answers pins touched (Act.Finish outcome)) is h)

  -- a commit's answer
  commit_done : (pins touched : ℕ) (a : Act) → next_act g tries job told ≡ a → ActOfKind g job.note.kind a → (answer : Told) → Answers pins touched a answer → (point : ℕ) → answer ≡ Told.Done point
      → IsWriting job.note.kind × HasDone (tell g job told (Told.Done point))
  commit_done pins touched (Act.AtDirectory (DirectoryStep.Commit placed)) e kind answer h point is = (kind.0, done_committed g tries job kind.0 told placed point e)
  commit_done pins touched (Act.AtDirectory step) e kind answer h point is = absurd (subst (Answers pins touched (Act.AtDirectory step)) is h)
  commit_done pins touched (Act.AtServer server (ServerStep.Prepare version)) e kind answer h point is = absurd (subst (Answers pins touched (Act.AtServer server (ServerStep.Prepare version))) is h)
  commit_done pins touched (Act.AtServer server step) e kind answer h point is = absurd (subst (Answers pins touched (Act.AtServer server step)) is h)
  commit_done pins touched (Act.Finish outcome) e kind answer h point is = absurd (subst (Answers pins touched (Act.Finish outcome)) is h)

  replied : (point : ℕ) (given : Reply) → made.1 ≡ Told.Answer point given → IsAnsweredAt next (length calling.ended)
  replied point given is =
      ends_answered point given
      (ap (λ answer. next_act g tries job (tell g job told answer)) is
      ∙ reply_ends (pin_bound g (size_of script) job.note) (touched_count g job.note) (act script (actor.Client i) job calling places at shortages.coding shortages.step) refl made.1
      (answered script (actor.Client i) job calling places at shortages.coding shortages.step).answers point given is)

  done_now : (point : ℕ) → made.1 ≡ Told.Done point → IsAnsweredAt next (length calling.ended) ⊎ IsCommitted script i next (length calling.ended)
  done_now point is =
      let facts : IsWriting job.note.kind × HasDone (tell g job told (Told.Done point)) =
      commit_done (pin_bound g (size_of script) job.note) (touched_count g job.note) (act script (actor.Client i) job calling places at shortages.coding shortages.step) refl
      (of_kind script (actor.Client i) job calling places at shortages.coding shortages.step) made.1 (answered script (actor.Client i) job calling places at shortages.coding shortages.step).answers point is in
      goes_on facts.0 (subst (λ answer. HasDone (tell g job told answer)) (sym is) facts.1)

  -- the client's own points
  own_points : All (PointFits script i calling) places.directory.points → All (PointFits script i (actor_step g tries shortages (actor.Client i) job calling places).1) (actor_step g tries shortages (actor.Client i) job calling places).0.directory.points
  own_points old = by (act script (actor.Client i) job calling places at shortages.coding shortages.step) refl (proper script (actor.Client i) job calling places at shortages.coding shortages.step)
    where
      -- a step at a server has no point
      server : (a : Act) → (at_places shortages.step (actor.Client i) (length calling.ended) a places).0.directory.points ≡ places.directory.points
          → All (PointFits script i next) (at_places shortages.step (actor.Client i) (length calling.ended) a places).0.directory.points
      server a e = subst (All (PointFits script i next)) (sym e) (old_fit places.directory.points old)

      no_point : (n : ℕ) (step : ServerStep) (found : Option Server) → (at_server_there shortages.step n step places found).0.directory.points ≡ places.directory.points
      no_point n step None = refl
      no_point n step (Some s) = refl

      by : (a : Act) → act script (actor.Client i) job calling places at shortages.coding shortages.step ≡ a → IsProper g job (HasTry job.note.kind tries told) a
          → All (PointFits script i next) (at_places shortages.step (actor.Client i) (length calling.ended) a places).0.directory.points
      by (Act.AtDirectory step) e is_proper =
          told_fit (at_directory shortages.step (actor.Client i) (length calling.ended) step places.directory).1 places.directory.points (at_directory shortages.step (actor.Client i) (length calling.ended) step places.directory).0.points
          (points_told (actor.Client i) (length calling.ended) job.note places.directory (λ pass found. (pass_number script (actor.Client i) job calling places at pass found, pass_note script (actor.Client i) job calling places at pass found)) shortages.step step
          (call_step job (HasTry job.note.kind tries told) step is_proper))
          (λ point given is. replied point given (ap (λ a. (at_places shortages.step (actor.Client i) (length calling.ended) a places).1) e ∙ is))
          (λ point is. done_now point (ap (λ a. (at_places shortages.step (actor.Client i) (length calling.ended) a places).1) e ∙ is)) old
      by (Act.AtServer n step) e is_proper = server (Act.AtServer n step) (no_point n step (slice_get places.servers n))
      by (Act.Finish outcome) e is_proper = server (Act.Finish outcome) refl

-- ---- all clients
abbrev pub ClientsFit : Script → List Token → Core → Type 0
ClientsFit script past core = (i : ℕ) (c : Calling) → slice_get core.clients i ≡ Some c → All (PointFits script i c) core.directory.points

module _ (script : Script) where
  -- points of another actor say nothing of a client
  others_fit : (who : Actor) (number : ℕ) (note : Note) (i : ℕ) (c : Calling) → (actor.Client i ≡ who → ⊥) → (before after_points : List Point) (answer : Told) → PointTold who number note before after_points answer
      → All (PointFits script i c) before → All (PointFits script i c) after_points
  others_fit who number note i c differ before after_points answer h old = by answer h
    where
      added_to : (event : Event) (place : ℕ) → Adds who number note event place before after_points → All (PointFits script i c) after_points
      added_to event place adds =
          subst (All (PointFits script i c)) (sym adds.added) (All-push (PointFits script i c) before (record { actor = who; number = number; note = note; event = event }) old (λ mine. absurd (differ (sym mine))))

      by : (answer : Told) → PointTold who number note before after_points answer → All (PointFits script i c) after_points
      by (Told.Answer point given) h = added_to (Event.Answer given) point h
      by (Told.Pinned point length_now stripes) h = added_to Event.Pinned point h
      by (Told.Done point) h = added_to Event.Done point h
      by answer h = subst (All (PointFits script i c)) (sym h) old

  -- so an actor's step leaves other clients' points right
  elsewhere : (who : Actor) (job : Job) (calling : Calling) (places : Places) (at : AtWork script who job calling places) (shortages : Shortage) (i : ℕ) (c : Calling) → (actor.Client i ≡ who → ⊥)
      → All (PointFits script i c) places.directory.points → All (PointFits script i c) (actor_step script.geometry (tries_of script) shortages who job calling places).0.directory.points
  elsewhere who job calling places at shortages i c differ old = by (act script who job calling places at shortages.coding shortages.step) (proper script who job calling places at shortages.coding shortages.step)
    where
      server : (n : ℕ) (step : ServerStep) (found : Option Server) → All (PointFits script i c) (at_server_there shortages.step n step places found).0.directory.points
      server n step None = old
      server n step (Some s) = old

      by : (a : Act) → IsProper script.geometry job (HasTry job.note.kind (tries_of script) (first script who job calling places at shortages.coding shortages.step)) a
          → All (PointFits script i c) (at_places shortages.step who (length calling.ended) a places).0.directory.points
      by (Act.AtDirectory step) is_proper =
          others_fit who (length calling.ended) job.note i c differ places.directory.points (at_directory shortages.step who (length calling.ended) step places.directory).0.points (at_directory shortages.step who (length calling.ended) step places.directory).1
          (points_told who (length calling.ended) job.note places.directory (λ pass found. (pass_number script who job calling places at pass found, pass_note script who job calling places at pass found)) shortages.step step
          (call_step job (HasTry job.note.kind (tries_of script) (first script who job calling places at shortages.coding shortages.step)) step is_proper)) old
      by (Act.AtServer n step) is_proper = server n step (slice_get places.servers n)
      by (Act.Finish outcome) is_proper = old

  reap_fits : (i : ℕ) (c : Calling) (point : Point) → point.event ≡ Event.Reaped → PointFits script i c point
  reap_fits i c point e mine = subst (EventFits script i c point.number) (sym e) tt

  abbrev client_number : Actor → ℕ
  client_number (actor.Client i) = i
  client_number who = 0

  abbrev is_client : Actor → Bool
  is_client (actor.Client i) = true
  is_client who = false

  module _ (can : CanRun script) where
    pub fits_kept : KeptBySteps script can (ClientsFit script)
    fits_kept =
        record {
          quiet = λ past next core is_quiet has. has;
          client = λ past core kept has i work calling job is_work is_calling is_job shortages.
              let at : AtWork script (actor.Client i) job calling (places_in core) = client_at script can core kept i work calling job is_work is_calling is_job in
              each_changed (λ j c. All (PointFits script j c) (actor_step script.geometry (tries_of script) shortages (actor.Client i) job calling (places_in core)).0.directory.points) i calling _ core.clients is_calling
              (own_points script i work is_work job calling is_job (places_in core) at shortages (has i calling is_calling))
              (λ j differ c e. elsewhere (actor.Client i) job calling (places_in core) at shortages j c (λ same. differ (sym (ap client_number same))) (has j c e));
          repairer = λ past core kept has i work calling job is_work is_calling is_job shortages j c e.
              elsewhere (actor.Repairer i) job calling (places_in core) (repairer_at script can core kept i work calling job is_work is_calling is_job) shortages j c (λ same. true≢false (ap is_client same)) (has j c e);
          sweeper = λ past core kept has i c e.
              others_points (PointFits script i c) actor.Sweeper (next_sweep (chunk_count script.geometry) core.sweeper) (places_in core) (sweeps script (chunk_count script.geometry) core.sweeper) (reap_fits i c) (has i c e);
          wipe = λ past core kept has server i c e. others_points (PointFits script i c) actor.Operator (Act.AtServer server ServerStep.Wipe) (places_in core) tt (reap_fits i c) (has i c e);
          down = λ past core kept has server i c e. others_points (PointFits script i c) actor.Operator (Act.AtServer server ServerStep.Down) (places_in core) tt (reap_fits i c) (has i c e);
          up = λ past core kept has server i c e. others_points (PointFits script i c) actor.Operator (Act.AtServer server ServerStep.Up) (places_in core) tt (reap_fits i c) (has i c e);
          reap_client = λ past core kept has k i c e.
              others_points (PointFits script i c) actor.Operator (Act.AtDirectory (DirectoryStep.Reap (actor.Client k))) (places_in core) tt (reap_fits i c) (has i c e);
          reap_repairer = λ past core kept has k i c e.
              others_points (PointFits script i c) actor.Operator (Act.AtDirectory (DirectoryStep.Reap (actor.Repairer k))) (places_in core) tt (reap_fits i c) (has i c e);
        }

    pub fits_first : ClientsFit script [] (first_core script)
    fits_first i c e = All-nil (PointFits script i c)
