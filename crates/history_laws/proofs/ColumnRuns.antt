-- What calls took from a server in a run is what it gave, and its epoch is how often the operator emptied it.
use Rattle.std.proofs.Common.{◌≡◌, ℕ, ◌+◌, ◌-◌, ◌^◌, ◌<◌, min, List, count_by, All, refl, sym, ◌∙◌, arith}
use Rattle.std.proofs.lemmas.List.Elements.{All-weaker, All-head, All-tail, All-cons, All-nil}
use Rattle.store_map.specs.declared.script.Script.{Script}
use Rattle.store_map.specs.declared.line.TLine.{TLine}
use Rattle.store_map.specs.declared.transcript.Transcript.{Transcript}
use Rattle.hist_rules.specs.Counts.{is_wipe_of}
use Rattle.hist_rules.specs.IsHistory.{AddsUp}
use Rattle.store_core.specs.Core.{Core}
use Rattle.store_core.specs.Schedule.{run_core}
use Rattle.store_core.specs.Shown.{shown}
use Rattle.run_laws.proofs.Runs.{CanRun}
use Rattle.run_laws.proofs.Scripts.{can_run}
use Rattle.history_laws.specs.HistoryLaws.{scheduled}
use Rattle.history_laws.specs.TakesLaws.{RunsAddUp}
use Rattle.history_laws.proofs.Columns.{columns_fit}
use Rattle.history_laws.proofs.TakesRuns.{TakesMatch, takes_match, column, column_sum, group}
use Rattle.run_laws.proofs.SoundLists.{all_by}
use Rattle.std.proofs.lemmas.List.Elements.{All-contains}

uncapped : (taken sum : ℕ) → taken ≡ min sum (2 ^ 64 - 1) → sum < 2 ^ 64 → taken ≡ sum
uncapped taken sum e low = omega (arith, e, low)

pub runs_add_up : RunsAddUp
runs_add_up script shortages geometry valid tokens few =
    let can : CanRun script = can_run script geometry valid in
    let core : Core = run_core script shortages tokens in
    let t : Transcript = shown script core in
    let matches : TakesMatch tokens t = takes_match script can shortages tokens few in
    all_by (AddsUp (scheduled script tokens) t) t.servers
    (λ line has.
    record {
      taken =
          uncapped line.taken (column line.server t.takes) (All-contains (λ (l : TLine). l.taken ≡ min (column l.server t.takes) (2 ^ 64 - 1)) t.servers line matches.taken has)
          (let fits : group line.server core.clients + group line.server core.repairers < 2 ^ 64 = columns_fit script geometry valid can shortages tokens line.server in
          let same : column line.server t.takes ≡ group line.server core.clients + group line.server core.repairers = column_sum line.server core.clients core.repairers in
          omega (arith, fits, same));
      epoch = All-contains (λ (l : TLine). l.epoch ≡ count_by (is_wipe_of l.server) tokens) t.servers line matches.epochs has;
    })
