-- What a run shows of lost races names changes that its history has.
use Rattle.std.proofs.Common.{Option, None, Some, ◌≡◌, ℕ, ◌<◌, ◌≤◌, Bool, true, false, List, [], ◌∷◌, length, fold, option_and_then, IfSome, map, All, refl, sym, ap, subst, ◌∙◌, arith, true≢false}
use Rattle.std.proofs.lemmas.Option.{slice_get_within}
use Rattle.std.proofs.lemmas.List.Elements.{All-nil, All-cons}
use Rattle.std.specs.List.{slice_get}
use Rattle.store_map.specs.Limits.{size_of, tries_of}
use Rattle.store_map.specs.declared.actor.Token.{Token}
use Rattle.store_map.specs.declared.call.Call.{Call}
use Rattle.store_map.specs.declared.call.Call.TheVariants as call
use Rattle.store_map.specs.declared.call.Rebuild.{Rebuild}
use Rattle.store_map.specs.declared.script.RepairPart.{RepairPart}
use Rattle.store_map.specs.declared.script.Script.{Script}
use Rattle.store_map.specs.declared.cause.RepairResult.{RepairResult}
use Rattle.store_map.specs.declared.cause.RepairResult.TheVariants as result
use Rattle.store_map.specs.declared.line.XLine.{XLine}
use Rattle.store_map.specs.declared.line.RLine.{RLine}
use Rattle.store_map.specs.declared.transcript.Transcript.{Transcript}
use Rattle.hist_rules.specs.Calls.{call_of as script_call, rebuild_of}
use Rattle.hist_rules.specs.First.{AllAfter}
use Rattle.hist_rules.specs.Named.{is_change_point}
use Rattle.hist_rules.specs.LostRaces.{written_name}
use Rattle.hist_rules.specs.GivenUpOrLost.{IsRace, IsLoser, LostRace}
use Rattle.store_core.specs.Act.{Outcome}
use Rattle.store_core.specs.Core.{Core}
use Rattle.store_core.specs.NextAct.{Job, rebuild_job}
use Rattle.store_core.specs.Note.{Kind, note_of}
use Rattle.store_core.specs.Outcomes.{triple_of, cause_of, result_of}
use Rattle.store_core.specs.RowLines.{client, repair}
use Rattle.store_core.specs.Schedule.{run_core}
use Rattle.store_core.specs.Shown.{shown, refused_line, repair_line, lines_of_ended}
use Rattle.store_core.specs.Tell.{tell}
use Rattle.store_core.specs.Work.{Ended, Work, Calling, client_work, repairer_work}
use Rattle.run_laws.specs.OutcomeLaws.{HasCauseInSteps}
use Rattle.run_laws.proofs.StepOutcomes.{outcomes_in_steps}
use Rattle.run_laws.specs.ToldLaws.{EndedSo}
use Rattle.run_laws.proofs.Scripts.{can_run, Mapped, mapped}
use Rattle.history_laws.specs.HistoryLaws.{scheduled}
use Rattle.history_laws.proofs.NamedCalls.{inside}
use Rattle.history_laws.proofs.OrderEnds.{EndKnown, client_has, repairer_has}
use Rattle.history_laws.proofs.OrderLists.{all_indexed}
use Rattle.history_laws.proofs.OrderRuns.{end_known}
use Rattle.history_laws.proofs.Points.{IsOfScript}
use Rattle.history_laws.proofs.PointsOfCalls.{OfScript, job_call}
use Rattle.run_laws.proofs.SoundLists.{at_all}
use Rattle.history_laws.specs.RaceLaws.{RunsLoseRaces, NamesChange, RunsNameChanges}
use Rattle.history_laws.proofs.ChangeLines.{change_line}
use Rattle.history_laws.proofs.Changes.{IsChange, Race, Races}
use Rattle.history_laws.proofs.RaceRuns.{OutcomeKept, AllRaces, all_races}

abbrev is_write : Kind → Bool
is_write Kind.Write = true
is_write kind = false

module _ (script : Script) (tokens : List Token) (core : Core) (known : EndKnown script core) (races : AllRaces script core) (some : 0 < script.geometry.parity_count) where
  abbrev t : Transcript
  t = shown script core

  -- a change of an object has its line
  pub shown_change : (object : List ℕ) (place : ℕ) → IsChange core.directory.points object place → is_change_point (scheduled script tokens) t object place ≡ true
  shown_change object place is = change_line script core known.kept.sound (λ i point found. at_all (IsOfScript script) core.directory.points i point known.points found) object place is

  shown_races : (object : List ℕ) (past pairs : List (ℕ × ℕ)) → AllAfter (Race core.directory.points object) past pairs → AllAfter (IsRace (scheduled script tokens) t object) past pairs
  shown_races object past [] h = tt
  shown_races object past (pair ∷ pairs) h = (
    record { later = h.0.later; order = h.0.order; looked_at = shown_change object pair.0 h.0.base; newer = shown_change object pair.1 h.0.newer },
    shown_races object (pair ∷ past) pairs h.1,
  )

  -- the call is a write
  loser : (made : Call) (pairs : List (ℕ × ℕ)) → (note_of made).kind ≡ Kind.Write → length pairs ≡ tries_of script → Races core.directory.points (note_of made).name pairs → IsLoser (scheduled script tokens) t pairs (written_name made)
  loser (call.Write object offset content) pairs writes count lost = record { count = count; races = shown_races object [] pairs lost }
  loser (call.Put object content) pairs writes count lost = absurd (true≢false (sym (ap is_write writes)))
  loser (call.Get object) pairs writes count lost = absurd (true≢false (sym (ap is_write writes)))
  loser (call.ReadAt object offset n) pairs writes count lost = absurd (true≢false (sym (ap is_write writes)))
  loser (call.Stat object) pairs writes count lost = absurd (true≢false (sym (ap is_write writes)))
  loser (call.Delete object) pairs writes count lost = absurd (true≢false (sym (ap is_write writes)))

  contended : (i : ℕ) (c : Calling) → slice_get core.clients i ≡ Some c → (number : ℕ) (e : Ended) → slice_get c.ended number ≡ Some e → (pairs : List (ℕ × ℕ)) → e.outcome ≡ Outcome.Contended pairs
      → IsLoser (scheduled script tokens) t pairs (option_and_then written_name (script_call script (client i number)))
  contended i c is_c number e is_e pairs lost =
      let work : (w : Work) × (slice_get (client_work script) i ≡ Some w) = client_has script core known i c is_c in
      let most : length c.ended ≤ length work.0.jobs = (known.calls.clients i c is_c work.0 work.1).below in
      let low : number < length c.ended = slice_get_within c.ended number e is_e in
      let job : (j : Job) × (slice_get work.0.jobs number ≡ Some j) = inside work.0.jobs number (omega (arith, most, low)) in
      let of : OfScript script i number job.0 = job_call script i number work.0 job.0 work.1 job.1 in
      let so : EndedSo script job.0 (Outcome.Contended pairs) = subst (EndedSo script job.0) lost ((known.told.clients i work.0 c work.1 is_c).ended number job.0 e job.1 is_e) in
      let writes : job.0.note.kind ≡ Kind.Write = (outcomes_in_steps script.geometry (size_of script) (tries_of script) job.0).kinds (fold (tell script.geometry job.0) [] so.answers) (Outcome.Contended pairs) so.ends in
      let caused : HasCauseInSteps script.geometry (tries_of script) job.0 (Outcome.Contended pairs) so.answers =
      (outcomes_in_steps script.geometry (size_of script) (tries_of script) job.0).causes so.answers (Outcome.Contended pairs) some so.are_told so.ends in
      let told : OutcomeKept core.directory.points job.0.note (Outcome.Contended pairs) = subst (OutcomeKept core.directory.points job.0.note) lost ((races.clients i c is_c work.0 work.1).ended number job.0 e job.1 is_e) in
      subst (λ o. IsLoser (scheduled script tokens) t pairs (option_and_then written_name o)) (sym of.is_call)
      (loser of.call pairs (ap (λ (j : Job). j.note.kind) of.is_job ∙ writes) caused.1 (subst (λ (j : Job). Races core.directory.points j.note.name pairs) (sym of.is_job) told))

  abbrev Q : XLine → Type 0
  Q line = LostRace (scheduled script tokens) t line.call line.cause

  one_line : (i number : ℕ) (outcome : Outcome) → ((pairs : List (ℕ × ℕ)) → outcome ≡ Outcome.Contended pairs → IsLoser (scheduled script tokens) t pairs (option_and_then written_name (script_call script (client i number))))
      → All Q (refused_line (client i number) (cause_of outcome))
  one_line i number (Outcome.Contended pairs) h = All-cons Q _ [] (h pairs refl) (All-nil Q)
  one_line i number (Outcome.Unavailable stripe missing) h = All-cons Q _ [] tt (All-nil Q)
  one_line i number (Outcome.Reaped point) h = All-cons Q _ [] tt (All-nil Q)
  one_line i number Outcome.NoMemory h = All-cons Q _ [] tt (All-nil Q)
  one_line i number outcome h = All-nil Q

  pub lost_races : All Q t.refused
  lost_races =
      all_indexed (λ j. lines_of_ended (λ number ended. refused_line (client j number) (cause_of ended.outcome))) Q core.clients
      (λ i c is_c.
      all_indexed (λ number ended. refused_line (client i number) (cause_of ended.outcome)) Q c.ended
      (λ number e is_e. one_line i number e.outcome (λ pairs lost. contended i c is_c number e is_e pairs lost)))

-- ---- rebuilds
module _ (script : Script) (tokens : List Token) (core : Core) (known : EndKnown script core) (races : AllRaces script core) (some : 0 < script.geometry.parity_count) where
  -- a repairer's job is its rebuild
  record OfRebuild (i number : ℕ) (job : Job) : Type 0 where
    rebuild : Rebuild
    is_rebuild : rebuild_of script (repair i number) ≡ Some rebuild
    is_job : rebuild_job rebuild ≡ job

  part_work : RepairPart → Work
  part_work part = record { jobs = map rebuild_job part.calls; leave = part.leave }

  job_rebuild : (i number : ℕ) (work : Work) (job : Job) → slice_get (repairer_work script) i ≡ Some work → slice_get work.jobs number ≡ Some job → OfRebuild i number job
  unfolding part_work
  job_rebuild i number work job is_work is_job =
      let part : Mapped part_work script.repairers i work = mapped part_work script.repairers i work is_work in
      let jobs : map rebuild_job part.source.calls ≡ work.jobs = ap (λ (w : Work). w.jobs) part.is_image in
      let one : Mapped rebuild_job part.source.calls number job = mapped rebuild_job part.source.calls number job (ap (λ (js : List Job). slice_get js number) jobs ∙ is_job) in
      record {
        rebuild = one.source;
        is_rebuild = ap (option_and_then (λ (p : RepairPart). slice_get p.calls number)) part.found ∙ one.found;
        is_job = one.is_image;
      }

  superseded : (i : ℕ) (c : Calling) → slice_get core.repairers i ≡ Some c → (number : ℕ) (e : Ended) → slice_get c.ended number ≡ Some e → (newer : ℕ) → e.outcome ≡ Outcome.Superseded newer
      → IfSome (rebuild_of script (repair i number)) (NamesChange (scheduled script tokens) (shown script core) (result.Superseded newer))
  superseded i c is_c number e is_e newer is =
      let work : (w : Work) × (slice_get (repairer_work script) i ≡ Some w) = repairer_has script core known i c is_c in
      let most : length c.ended ≤ length work.0.jobs = (known.calls.repairers i c is_c work.0 work.1).below in
      let low : number < length c.ended = slice_get_within c.ended number e is_e in
      let job : (j : Job) × (slice_get work.0.jobs number ≡ Some j) = inside work.0.jobs number (omega (arith, most, low)) in
      let of : OfRebuild i number job.0 = job_rebuild i number work.0 job.0 work.1 job.1 in
      let told : OutcomeKept core.directory.points job.0.note (Outcome.Superseded newer) = subst (OutcomeKept core.directory.points job.0.note) is ((races.repairers i c is_c work.0 work.1).ended number job.0 e job.1 is_e) in
      subst (λ o. IfSome o (NamesChange (scheduled script tokens) (shown script core) (result.Superseded newer))) (sym of.is_rebuild)
      (shown_change script tokens core known races some of.rebuild.name newer (subst (λ (j : Job). IsChange core.directory.points j.note.name newer) (sym of.is_job) told))

  abbrev Named : RLine → Type 0
  Named line = IfSome (rebuild_of script line.call) (NamesChange (scheduled script tokens) (shown script core) line.result)

  nothing_named : (found : Option Rebuild) (what : RepairResult) → ((rebuild : Rebuild) → NamesChange (scheduled script tokens) (shown script core) what rebuild) → IfSome found (NamesChange (scheduled script tokens) (shown script core) what)
  nothing_named None what h = tt
  nothing_named (Some rebuild) what h = h rebuild

  one_result : (i number : ℕ) (outcome : Outcome) → ((newer : ℕ) → outcome ≡ Outcome.Superseded newer → IfSome (rebuild_of script (repair i number)) (NamesChange (scheduled script tokens) (shown script core) (result.Superseded newer)))
      → All Named (repair_line (repair i number) (result_of outcome))
  one_result i number (Outcome.Superseded newer) h = All-cons Named (record { call = repair i number; result = result.Superseded newer }) [] (h newer refl) (All-nil Named)
  one_result i number Outcome.Rebuilt h = All-cons Named (record { call = repair i number; result = result.Rebuilt }) [] (nothing_named (rebuild_of script (repair i number)) result.Rebuilt (λ _. tt)) (All-nil Named)
  one_result i number Outcome.Here h = All-cons Named (record { call = repair i number; result = result.Here }) [] (nothing_named (rebuild_of script (repair i number)) result.Here (λ _. tt)) (All-nil Named)
  one_result i number Outcome.NoSuch h = All-cons Named (record { call = repair i number; result = result.NoSuch }) [] (nothing_named (rebuild_of script (repair i number)) result.NoSuch (λ _. tt)) (All-nil Named)
  one_result i number (Outcome.Away downs) h = All-cons Named (record { call = repair i number; result = result.Away downs }) [] (nothing_named (rebuild_of script (repair i number)) (result.Away downs) (λ _. tt)) (All-nil Named)
  one_result i number (Outcome.Unavailable stripe missing) h =
      All-cons Named (record { call = repair i number; result = result.Unavailable stripe (map triple_of missing) }) [] (nothing_named (rebuild_of script (repair i number)) (result.Unavailable stripe (map triple_of missing)) (λ _. tt)) (All-nil Named)
  one_result i number (Outcome.Reaped point) h = All-cons Named (record { call = repair i number; result = result.Reaped point }) [] (nothing_named (rebuild_of script (repair i number)) (result.Reaped point) (λ _. tt)) (All-nil Named)
  one_result i number Outcome.NoMemory h = All-cons Named (record { call = repair i number; result = result.NoMemory }) [] (nothing_named (rebuild_of script (repair i number)) result.NoMemory (λ _. tt)) (All-nil Named)
  one_result i number (Outcome.Answered point given) h = All-nil Named
  one_result i number (Outcome.Served point) h = All-nil Named
  one_result i number (Outcome.Contended pairs) h = All-nil Named

  pub named_changes : All Named (shown script core).repairs
  named_changes =
      all_indexed (λ j. lines_of_ended (λ number ended. repair_line (repair j number) (result_of ended.outcome))) Named core.repairers
      (λ i c is_c.
      all_indexed (λ number ended. repair_line (repair i number) (result_of ended.outcome)) Named c.ended
      (λ number e is_e. one_result i number e.outcome (λ newer is. superseded i c is_c number e is_e newer is)))

pub runs_lose_races : RunsLoseRaces
runs_lose_races script shortages geometry valid tokens few =
    let some : 0 < script.geometry.parity_count = (let two : 2 ≤ script.geometry.parity_count = geometry.limits.parity_chunks.0 in omega (arith, two)) in
    lost_races script tokens (run_core script shortages tokens) (end_known script geometry valid shortages tokens) (all_races script (can_run script geometry valid) some shortages tokens) some

pub runs_name_changes : RunsNameChanges
runs_name_changes script shortages geometry valid tokens few =
    let some : 0 < script.geometry.parity_count = (let two : 2 ≤ script.geometry.parity_count = geometry.limits.parity_chunks.0 in omega (arith, two)) in
    named_changes script tokens (run_core script shortages tokens) (end_known script geometry valid shortages tokens) (all_races script (can_run script geometry valid) some shortages tokens) some
