-- Every line of a run that names a call names one of the script.
use Rattle.std.proofs.Common.{List, ◌++◌, map, All}
use Rattle.std.proofs.lemmas.List.Elements.{All-append}
use Rattle.store_map.specs.declared.call_name.CallName.{CallName}
use Rattle.store_map.specs.declared.call_name.CallName.TheVariants as name
use Rattle.store_map.specs.declared.line.HLine.{HLine}
use Rattle.store_map.specs.declared.line.XLine.{XLine}
use Rattle.store_map.specs.declared.line.RLine.{RLine}
use Rattle.store_map.specs.declared.line.OLine.{OLine}
use Rattle.store_map.specs.declared.line.GLine.{GLine}
use Rattle.store_map.specs.declared.transcript.Transcript.{Transcript}
use Rattle.store_core.specs.Core.{Core}
use Rattle.store_core.specs.History.{history_of}
use Rattle.store_core.specs.Schedule.{run_core}
use Rattle.store_core.specs.Shown.{shown}
use Rattle.store_core.specs.Step.{Shortage}
use Rattle.store_map.specs.declared.actor.Token.{Token}
use Rattle.store_map.specs.declared.script.Script.{Script}
use Rattle.run_laws.proofs.Runs.{CanRun}
use Rattle.hist_rules.specs.Named.{listed_calls}
use Rattle.history_laws.proofs.OrderLists.{map_all}
use Rattle.history_laws.proofs.HistoryOrder.{LinesInOrder, lines_in_order}
use Rattle.history_laws.proofs.NamedCalls.{OthersNamed, others_named}
use Rattle.history_laws.proofs.Naming.{IsCall}

pub all_named : (script : Script) (can : CanRun script) (shortages : List Shortage) (tokens : List Token)
    → All (IsCall script) (listed_calls (shown script (run_core script shortages tokens)) ++ map (λ line. line.call) (shown script (run_core script shortages tokens)).takes)
all_named script can shortages tokens =
    let core : Core = run_core script shortages tokens in
    let t : Transcript = shown script core in
    let history : LinesInOrder script (history_of script core) = lines_in_order script can shortages tokens in
    let others : OthersNamed script core = others_named script can shortages tokens in
    let P : CallName → Type 0 = IsCall script in
    let a : List CallName = map (λ (line : HLine). name.Client line.call) t.history in
    let b : List CallName = map (λ (line : XLine). name.Client line.call) t.refused in
    let c : List CallName = map (λ (line : RLine). name.Repairer line.call) t.repairs in
    let d : List CallName = map (λ (line : OLine). line.call) t.unanswered in
    All-append P (listed_calls t) (map (λ (line : GLine). line.call) t.takes)
    (All-append P (a ++ b ++ c) d
    (All-append P (a ++ b) c (All-append P a b (map_all P (λ (line : HLine). name.Client line.call) t.history history.calls) (map_all P (λ (line : XLine). name.Client line.call) t.refused others.refused))
    (map_all P (λ (line : RLine). name.Repairer line.call) t.repairs others.repairs))
    (map_all P (λ (line : OLine). line.call) t.unanswered others.unanswered))
    (map_all P (λ (line : GLine). line.call) t.takes others.takes)
