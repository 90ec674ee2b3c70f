-- What a run shows of rebuilds that lacked chunks is their own.
use Rattle.std.proofs.Common.{◌≡◌, ℕ, ◌<◌, ◌≤◌, List, [], length, map, option_and_then, Option, None, Some, IfSome, All, refl, sym, ap, subst, ◌∙◌, arith}
use Rattle.std.proofs.lemmas.List.Elements.{All-nil, All-cons}
use Rattle.std.proofs.lemmas.Option.{slice_get_within}
use Rattle.std.specs.List.{slice_get}
use Rattle.clay_grid.specs.Shape.{chunk_count}
use Rattle.store_map.specs.declared.actor.Token.{Token}
use Rattle.store_map.specs.declared.call.Rebuild.{Rebuild}
use Rattle.store_map.specs.declared.script.RepairPart.{RepairPart}
use Rattle.store_map.specs.declared.script.Script.{Script}
use Rattle.store_map.specs.declared.cause.RepairResult.{RepairResult}
use Rattle.store_map.specs.declared.line.RLine.{RLine}
use Rattle.hist_rules.specs.Calls.{rebuild_of}
use Rattle.store_core.specs.Act.{Outcome}
use Rattle.store_core.specs.Core.{Core}
use Rattle.store_core.specs.NextAct.{Job, rebuild_job}
use Rattle.store_core.specs.Outcomes.{result_of}
use Rattle.store_core.specs.RowLines.{repair}
use Rattle.store_core.specs.Schedule.{run_core}
use Rattle.store_core.specs.Shown.{shown, repair_line, lines_of_ended}
use Rattle.store_core.specs.Work.{Ended, Work, Calling, repairer_work}
use Rattle.run_laws.proofs.Scripts.{can_run, Mapped, mapped}
use Rattle.history_laws.proofs.FewWipes.{few_wipes}
use Rattle.history_laws.proofs.NamedCalls.{inside}
use Rattle.history_laws.proofs.OrderEnds.{EndKnown, repairer_has}
use Rattle.history_laws.proofs.OrderLists.{all_indexed}
use Rattle.history_laws.proofs.OrderRuns.{end_known}
use Rattle.history_laws.specs.OwnResults.{NamesLoss, RunsNameLosses}
use Rattle.history_laws.proofs.FoundOwn.{OwnOutcome}
use Rattle.history_laws.proofs.LossesServers.{wiped, made_away}
use Rattle.history_laws.proofs.OwnRuns.{AllOwn, all_own}

module _ (script : Script) (core : Core) (known : EndKnown script core) (own : AllOwn (wiped script.schedule) (made_away script.schedule) script core) where
  -- a repairer's job is its rebuild
  record OfRebuild (i number : ℕ) (job : Job) : Type 0 where
    rebuild : Rebuild
    is_rebuild : rebuild_of script (repair i number) ≡ Some rebuild
    is_job : rebuild_job rebuild ≡ job

  part_work : RepairPart → Work
  part_work part = record { jobs = map rebuild_job part.calls; leave = part.leave }

  job_rebuild : (i number : ℕ) (work : Work) (job : Job) → slice_get (repairer_work script) i ≡ Some work → slice_get work.jobs number ≡ Some job → OfRebuild i number job
  unfolding part_work
  job_rebuild i number work job is_work is_job =
      let part : Mapped part_work script.repairers i work = mapped part_work script.repairers i work is_work in
      let jobs : map rebuild_job part.source.calls ≡ work.jobs = ap (λ (w : Work). w.jobs) part.is_image in
      let one : Mapped rebuild_job part.source.calls number job = mapped rebuild_job part.source.calls number job (ap (λ (js : List Job). slice_get js number) jobs ∙ is_job) in
      record {
        rebuild = one.source;
        is_rebuild = ap (option_and_then (λ (p : RepairPart). slice_get p.calls number)) part.found ∙ one.found;
        is_job = one.is_image;
      }

  abbrev Own : Job → Outcome → Type 0
  Own job outcome = OwnOutcome (wiped script.schedule) (made_away script.schedule) job outcome

  named_by : (rebuild : Rebuild) (outcome : Outcome) → Own (rebuild_job rebuild) outcome → (what : RepairResult) → result_of outcome ≡ Some what → NamesLoss script what rebuild
  named_by rebuild (Outcome.Unavailable stripe missing) h what e = subst (λ (o : Option RepairResult). IfSome o (λ w. NamesLoss script w rebuild)) e h
  named_by rebuild (Outcome.Away count) h what e = subst (λ (o : Option RepairResult). IfSome o (λ w. NamesLoss script w rebuild)) e h
  named_by rebuild Outcome.Rebuilt h what e = subst (λ (o : Option RepairResult). IfSome o (λ w. NamesLoss script w rebuild)) e tt
  named_by rebuild Outcome.Here h what e = subst (λ (o : Option RepairResult). IfSome o (λ w. NamesLoss script w rebuild)) e tt
  named_by rebuild Outcome.NoSuch h what e = subst (λ (o : Option RepairResult). IfSome o (λ w. NamesLoss script w rebuild)) e tt
  named_by rebuild (Outcome.Superseded newer) h what e = subst (λ (o : Option RepairResult). IfSome o (λ w. NamesLoss script w rebuild)) e tt
  named_by rebuild (Outcome.Reaped point) h what e = subst (λ (o : Option RepairResult). IfSome o (λ w. NamesLoss script w rebuild)) e tt
  named_by rebuild Outcome.NoMemory h what e = subst (λ (o : Option RepairResult). IfSome o (λ w. NamesLoss script w rebuild)) e tt
  named_by rebuild (Outcome.Answered point given) h what e = subst (λ (o : Option RepairResult). IfSome o (λ w. NamesLoss script w rebuild)) e tt
  named_by rebuild (Outcome.Served point) h what e = subst (λ (o : Option RepairResult). IfSome o (λ w. NamesLoss script w rebuild)) e tt
  named_by rebuild (Outcome.Contended pairs) h what e = subst (λ (o : Option RepairResult). IfSome o (λ w. NamesLoss script w rebuild)) e tt

  abbrev pub Named : RLine → Type 0
  Named line = IfSome (rebuild_of script line.call) (NamesLoss script line.result)

  one_line : (i number : ℕ) (outcome : Outcome) → ((what : RepairResult) → result_of outcome ≡ Some what → IfSome (rebuild_of script (repair i number)) (NamesLoss script what))
      → All Named (repair_line (repair i number) (result_of outcome))
  one_line i number outcome h = by (result_of outcome) h
    where
      by : (o : Option RepairResult) → ((what : RepairResult) → o ≡ Some what → IfSome (rebuild_of script (repair i number)) (NamesLoss script what)) → All Named (repair_line (repair i number) o)
      by None k = All-nil Named
      by (Some what) k = All-cons Named (record { call = repair i number; result = what }) [] (k what refl) (All-nil Named)

  own_line : (i : ℕ) (c : Calling) → slice_get core.repairers i ≡ Some c → (number : ℕ) (e : Ended) → slice_get c.ended number ≡ Some e → All Named (repair_line (repair i number) (result_of e.outcome))
  own_line i c is_c number e is_e =
      let work : (w : Work) × (slice_get (repairer_work script) i ≡ Some w) = repairer_has script core known i c is_c in
      let most : length c.ended ≤ length work.0.jobs = (known.calls.repairers i c is_c work.0 work.1).below in
      let low : number < length c.ended = slice_get_within c.ended number e is_e in
      let job : (j : Job) × (slice_get work.0.jobs number ≡ Some j) = inside work.0.jobs number (omega (arith, most, low)) in
      let of : OfRebuild i number job.0 = job_rebuild i number work.0 job.0 work.1 job.1 in
      let so : Own (rebuild_job of.rebuild) e.outcome = subst (λ (j : Job). Own j e.outcome) (sym of.is_job) ((own i c is_c work.0 work.1).ended number job.0 e job.1 is_e) in
      one_line i number e.outcome (λ what is. subst (λ o. IfSome o (NamesLoss script what)) (sym of.is_rebuild) (named_by of.rebuild e.outcome so what is))

  pub named_losses : All Named (shown script core).repairs
  named_losses =
      all_indexed (λ j. lines_of_ended (λ number ended. repair_line (repair j number) (result_of ended.outcome))) Named core.repairers
      (λ i c is_c. all_indexed (λ number ended. repair_line (repair i number) (result_of ended.outcome)) Named c.ended (λ number e is_e. own_line i c is_c number e is_e))

pub runs_name_losses : RunsNameLosses
runs_name_losses script shortages geometry valid =
    let tokens : List Token = script.schedule in
    let chunks : 0 < chunk_count script.geometry = (let two : 2 ≤ script.geometry.data_count = geometry.limits.data_chunks in omega (arith, two)) in
    let parity : 0 < script.geometry.parity_count = (let two : 2 ≤ script.geometry.parity_count = geometry.limits.parity_chunks.0 in omega (arith, two)) in
    named_losses script (run_core script shortages tokens) (end_known script geometry valid shortages tokens) (all_own script (can_run script geometry valid) chunks parity tokens (few_wipes script valid) shortages)
