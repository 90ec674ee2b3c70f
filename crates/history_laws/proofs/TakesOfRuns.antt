-- In every run rebuilds and reads take no more than they have to, by what is shown.
use Rattle.std.proofs.Common.{◌≡◌, ◌⊎◌, inl, inr, ℕ, ◌<◌, true, false, Bool, List, filter, map, get_or, Contains, Some, option_and_then, refl, sym, ap, subst, ◌∙◌, true≢false}
use Rattle.std.proofs.lemmas.List.Elements.{All-contains}
use Rattle.std.proofs.lemmas.Option.{none-some, same_Some}
use Rattle.std.specs.List.{slice_get}
use Rattle.clay_grid.specs.Limits.{IsGeometry}
use Rattle.clay_grid.specs.Shape.{Shape, chunk_count}
use Rattle.store_map.specs.Limits.{size_of, tries_of}
use Rattle.store_map.specs.declared.actor.Actor.TheVariants as actor
use Rattle.store_map.specs.declared.call.Call.{Call}
use Rattle.store_map.specs.declared.call.Rebuild.{Rebuild}
use Rattle.store_map.specs.declared.reply.Reply.TheVariants as reply
use Rattle.store_map.specs.declared.script.Script.{Script}
use Rattle.store_map.specs.declared.call_name.ClientCall.{ClientCall}
use Rattle.store_map.specs.declared.call_name.RepairCall.{RepairCall}
use Rattle.store_map.specs.declared.call_name.CallName.{CallName}
use Rattle.store_map.specs.declared.call_name.CallName.TheVariants as name
use Rattle.store_map.specs.declared.cause.RepairResult.{RepairResult}
use Rattle.store_map.specs.declared.cause.RepairResult.TheVariants as result
use Rattle.store_map.specs.declared.line.HLine.{HLine}
use Rattle.store_map.specs.declared.line.RLine.{RLine}
use Rattle.store_map.specs.declared.shown.Shown.TheVariants as shown_as
use Rattle.store_map.specs.declared.transcript.Transcript.{Transcript}
use Rattle.hist_rules.specs.Calls.{call_of, rebuild_of}
use Rattle.hist_rules.specs.Named.{is_reply}
use Rattle.store_core.specs.Act.{Act, Outcome}
use Rattle.store_core.specs.Core.{Core}
use Rattle.store_core.specs.History.{is_answer, is_answered}
use Rattle.store_core.specs.NextAct.{Job, rebuild_job}
use Rattle.store_core.specs.Note.{Note, Kind, note_of}
use Rattle.store_core.specs.Outcomes.{result_of}
use Rattle.store_core.specs.RowLines.{client}
use Rattle.store_core.specs.Schedule.{run_core}
use Rattle.store_core.specs.Shown.{shown, client_name}
use Rattle.store_core.specs.Work.{Ended, Calling, client_work, repairer_work}
use Rattle.run_laws.specs.OutcomeLaws.{MayBeServed}
use Rattle.run_laws.specs.ToldInSteps.{AreTold, act_after}
use Rattle.run_laws.proofs.StepOutcomes.{outcomes_in_steps}
use Rattle.run_laws.proofs.Scripts.{can_run}
use Rattle.run_laws.proofs.SoundLists.{filtered}
use Rattle.history_laws.specs.HasPoints.{IsPin, PointAt}
use Rattle.history_laws.proofs.NamedCalls.{inside}
use Rattle.history_laws.proofs.OrderEnds.{EndKnown, ended_of, answered_at, answered_below, all_replied}
use Rattle.history_laws.proofs.OrderLists.{map_contains}
use Rattle.history_laws.proofs.OrderRuns.{end_known}
use Rattle.history_laws.proofs.OrderShown.{ShownPoint, all_shown}
use Rattle.history_laws.proofs.PointsOfCalls.{OfScript, job_call}
use Rattle.history_laws.specs.LineCauses.{job_of_call, WasCaused, LinesAreCaused}
use Rattle.history_laws.specs.Steps.{run_trace}
use Rattle.history_laws.specs.Trace.{Made}
use Rattle.history_laws.proofs.CausedLines.{runs_show_causes}
use Rattle.history_laws.specs.LeastTakes.{TookLeast, TookRange}
use Rattle.history_laws.specs.TakesOfCalls.{Log, taken_by, missing_count}
use Rattle.history_laws.proofs.ReadTakes.{reads_take_least}
use Rattle.history_laws.proofs.Rebuilds.{rebuilds_take_least}
use Rattle.history_laws.specs.Over.{answers_to, IsOver}
use Rattle.history_laws.specs.Takes.{first_takes, takes_shown, RunsTakeLeast}
use Rattle.history_laws.proofs.BytesPinned.{bytes_pinned, was_served}
use Rattle.history_laws.proofs.Overs.{CallPlace, client_place, repairer_place, below_over}
use Rattle.history_laws.proofs.TakesShown.{lines_given, exact_answers, takes_told}
use Rattle.history_laws.proofs.TakesTraced.{TakesSoFar, all_takes}
use Rattle.history_laws.proofs.TargetsAway.{rebuild_is}

-- ---- outcomes
abbrev is_rebuilt : RepairResult → Bool
is_rebuilt result.Rebuilt = true
is_rebuilt other = false

rebuilt : (outcome : Outcome) → result_of outcome ≡ Some result.Rebuilt → outcome ≡ Outcome.Rebuilt
rebuilt Outcome.Rebuilt e = refl
rebuilt Outcome.Here e = absurd (true≢false (sym (ap is_rebuilt (same_Some result.Here result.Rebuilt e))))
rebuilt Outcome.NoSuch e = absurd (true≢false (sym (ap is_rebuilt (same_Some result.NoSuch result.Rebuilt e))))
rebuilt (Outcome.Away downs) e = absurd (true≢false (sym (ap is_rebuilt (same_Some (result.Away downs) result.Rebuilt e))))
rebuilt (Outcome.Superseded newer) e = absurd (true≢false (sym (ap is_rebuilt (same_Some (result.Superseded newer) result.Rebuilt e))))
rebuilt (Outcome.Unavailable stripe missing) e = absurd (true≢false (sym (ap is_rebuilt (same_Some _ result.Rebuilt e))))
rebuilt (Outcome.Reaped point) e = absurd (true≢false (sym (ap is_rebuilt (same_Some (result.Reaped point) result.Rebuilt e))))
rebuilt Outcome.NoMemory e = absurd (true≢false (sym (ap is_rebuilt (same_Some result.NoMemory result.Rebuilt e))))
rebuilt (Outcome.Answered point given) e = absurd (none-some result.Rebuilt e)
rebuilt (Outcome.Served point) e = absurd (none-some result.Rebuilt e)
rebuilt (Outcome.Contended pairs) e = absurd (none-some result.Rebuilt e)

-- only gets and reads are served
get_or_read : (kind : Kind) → MayBeServed kind → (kind ≡ Kind.Get) ⊎ (kind ≡ Kind.ReadAt)
get_or_read Kind.Get h = inl refl
get_or_read Kind.ReadAt h = inr refl
get_or_read Kind.Put h = absurd h
get_or_read Kind.Write h = absurd h
get_or_read Kind.Stat h = absurd h
get_or_read Kind.Delete h = absurd h
get_or_read Kind.Rebuild h = absurd h

-- ---- of one core
module _ (script : Script) (geometry : IsGeometry script.geometry) (core : Core) (known : EndKnown script core) (trace : List Made) (has : TakesSoFar script trace core) where
  abbrev g : Shape
  g = script.geometry

  abbrev tries : ℕ
  tries = tries_of script

  abbrev t : Transcript
  t = shown script core

  abbrev taken : CallName → Job → List ℕ
  taken call job = taken_by script.geometry (tries_of script) job (answers_to call trace)

  -- what is shown was given
  at_server : (call : CallName) (job : Job) → job_of_call script call ≡ Some job → (server : ℕ) → get_or (takes_shown t call) server 0 ≡ get_or (taken call job) server 0
  at_server call job is server = ap (λ l. get_or (first_takes l) server 0) (lines_given script core known trace has call job is) ∙ takes_told call (taken call job) server

  log_of : (call : CallName) (job : Job) → job_of_call script call ≡ Some job → AreTold script.geometry (size_of script) (tries_of script) job (answers_to call trace) → Log script job (answers_to call trace)
  log_of call job is told = record { are_told = told; exact = exact_answers script core known trace has call job is }

  -- ---- rebuilds
  rebuild_least : (causes : LinesAreCaused script trace t) (call : RepairCall) (rebuild : Rebuild) → rebuild_of script call ≡ Some rebuild → Contains t.repairs (record { call = call; result = result.Rebuilt })
      → missing_count (answers_to (name.Repairer call) trace) ≡ 1 → TookLeast script.geometry rebuild.server (takes_shown t (name.Repairer call))
  rebuild_least causes call rebuild is line one =
      let named : CallName = name.Repairer call in
      let w : WasCaused script trace named (λ outcome. result_of outcome ≡ Some result.Rebuilt) =
      All-contains (λ (l : RLine). WasCaused script trace (name.Repairer l.call) (λ outcome. result_of outcome ≡ Some l.result)) t.repairs (record { call = call; result = result.Rebuilt }) causes.repairs line in
      let own : (r : Rebuild) × (rebuild_of script call ≡ Some r) × (rebuild_job r ≡ w.job) = rebuild_is script call w.job w.is_call in
      let job_is : rebuild_job rebuild ≡ w.job = ap rebuild_job (same_Some rebuild own.0 (sym is ∙ own.1)) ∙ own.2 in
      let kind : w.job.note.kind ≡ Kind.Rebuild = sym (ap (λ (j : Job). j.note.kind) job_is) in
      let target : w.job.target ≡ rebuild.server = sym (ap (λ (j : Job). j.target) job_is) in
      let p : CallPlace (repairer_work script) core.repairers call.repairer call.number w.job = repairer_place script core known trace has.causes call.repairer call.number w.job w.is_call in
      let within : w.job.target < chunk_count script.geometry = known.can.repairers.targets call.repairer p.work p.is_work call.number w.job p.is_job kind in
      let ends : act_after script.geometry (tries_of script) w.job (answers_to named trace) ≡ Act.Finish Outcome.Rebuilt = w.ends ∙ ap Act.Finish (rebuilt w.outcome w.shows) in
      let law : TookLeast script.geometry w.job.target (taken named w.job) = rebuilds_take_least script geometry w.job kind within (answers_to named trace) (log_of named w.job w.is_call w.are_told) ends one in
      subst (λ n. TookLeast script.geometry n (takes_shown t named)) target
      (record { none = at_server named w.job w.is_call w.job.target ∙ law.none; others = λ server low differ. at_server named w.job w.is_call server ∙ law.others server low differ })

  -- ---- reads
  replied : (i number : ℕ) (calling : Calling) (ended : Ended) → slice_get core.clients i ≡ Some calling → slice_get calling.ended number ≡ Some ended → answered_at core (client_name i number) ≡ true → is_answered ended.outcome ≡ true
  replied i number calling ended is_calling is_ended answered =
      sym {a = is_answer (option_and_then (λ (c : Calling). slice_get c.ended number) (slice_get core.clients i))} (ap (λ o. is_answer (option_and_then (λ (c : Calling). slice_get c.ended number) o)) is_calling ∙ ap is_answer is_ended) ∙ answered

  noted : (i number : ℕ) (job : Job) → OfScript script i number job → (asked : Call) → call_of script (client i number) ≡ Some asked → job.note ≡ note_of asked
  noted i number job of asked is = sym (ap (λ (j : Job). j.note) of.is_job) ∙ ap note_of (same_Some of.call asked (sym of.is_call ∙ is))

  has_reply : (line : HLine) → is_reply line.reply ≡ true → Contains t.history line → answered_at core (name.Client line.call) ≡ true
  has_reply line is has_line =
      All-contains (λ c. answered_at core c ≡ true) (map (λ (l : HLine). name.Client l.call) (filter (λ (l : HLine). is_reply l.reply) t.history)) (name.Client line.call) (all_replied script core known)
      (map_contains (λ (l : HLine). name.Client l.call) (filter (λ (l : HLine). is_reply l.reply) t.history) line (filtered (λ (l : HLine). is_reply l.reply) t.history line is has_line))

  read_job : (call : CallName) (job : Job) → job_of_call script call ≡ Some job → AreTold script.geometry (size_of script) (tries_of script) job (answers_to call trace) → (outcome : Outcome) (point : ℕ) → outcome ≡ Outcome.Served point
      → act_after script.geometry (tries_of script) job (answers_to call trace) ≡ Act.Finish outcome → missing_count (answers_to call trace) ≡ 0 → TookRange script.geometry job.note (answers_to call trace) (takes_shown t call)
  read_job call job is told outcome point served e none =
      let ends : act_after script.geometry (tries_of script) job (answers_to call trace) ≡ Act.Finish (Outcome.Served point) = e ∙ ap Act.Finish served in
      let kind : (job.note.kind ≡ Kind.Get) ⊎ (job.note.kind ≡ Kind.ReadAt) =
      get_or_read job.note.kind ((outcomes_in_steps script.geometry (size_of script) (tries_of script) job).kinds _ (Outcome.Served point) ends) in
      let law : TookRange script.geometry job.note (answers_to call trace) (taken call job) = reads_take_least script job kind (answers_to call trace) (log_of call job is told) point ends none in
      record { point = law.point; size = law.size; stripes = law.stripes; looked = law.looked; met = λ server low. at_server call job is server ∙ law.met server low }

  read_least : (call : ClientCall) (asked : Call) → call_of script call ≡ Some asked → (point : ℕ) (bytes : List ℕ) → Contains t.history (record { point = point; call = call; reply = shown_as.Reply (reply.Bytes bytes) })
      → missing_count (answers_to (name.Client call) trace) ≡ 0 → TookRange script.geometry (note_of asked) (answers_to (name.Client call) trace) (takes_shown t (name.Client call))
  read_least call asked is point bytes line none =
      let named : CallName = name.Client call in
      let this : HLine = record { point = point; call = call; reply = shown_as.Reply (reply.Bytes bytes) } in
      let answered : answered_at core named ≡ true = has_reply this refl line in
      let over : IsOver script trace named = below_over script core known trace has.causes named (answered_below core named answered) in
      let p : CallPlace (client_work script) core.clients call.client call.number over.0 = client_place script core known trace has.causes call.client call.number over.0 over.1 in
      let low : call.number < ended_of (Some p.calling) = subst (λ o. call.number < ended_of o) p.is_calling (answered_below core named answered) in
      let e : (x : Ended) × (slice_get p.calling.ended call.number ≡ Some x) = inside p.calling.ended call.number low in
      let ended : AreTold script.geometry (size_of script) (tries_of script) over.0 (answers_to named trace) × (act_after script.geometry (tries_of script) over.0 (answers_to named trace) ≡ Act.Finish e.0.outcome) =
      (has.causes.clients call.client p.calling p.is_calling p.work p.is_work).ended call.number over.0 e.0 p.is_job e.1 in
      let pin : (place : ℕ) × PointAt (actor.Client call.client) call.number IsPin core.directory.points place =
      bytes_pinned script core known call point bytes (All-contains (ShownPoint script core core.directory.points) t.history this (all_shown script core) line) in
      let served : (at : ℕ) × (e.0.outcome ≡ Outcome.Served at) =
      was_served core.directory.points known.kept.sound.points (actor.Client call.client) (known.can.clients.self call.client) call.number e.0.outcome (replied call.client call.number p.calling e.0 p.is_calling e.1 answered) (known.has_points call.client p.calling p.is_calling call.number e.0 e.1) pin.0 pin.1 in
      subst (λ (note : Note). TookRange script.geometry note (answers_to named trace) (takes_shown t named)) (noted call.client call.number over.0 (job_call script call.client call.number p.work over.0 p.is_work p.is_job) asked is)
      (read_job named over.0 over.1 ended.0 e.0.outcome served.0 served.1 ended.1 none)

pub runs_take_least : RunsTakeLeast
runs_take_least script shortages geometry valid tokens =
    let core : Core = run_core script shortages tokens in
    let trace : List Made = run_trace script shortages tokens in
    let known : EndKnown script core = end_known script geometry valid shortages tokens in
    let has : TakesSoFar script trace core = all_takes script (can_run script geometry valid) shortages tokens in
    record {
      given = lines_given script core known trace has;
      rebuilds = rebuild_least script geometry core known trace has (runs_show_causes script shortages geometry valid tokens);
      reads = read_least script geometry core known trace has;
    }
