-- Calls that the script doesn't have, kind by kind of the lines that name them.
use Rattle.std.proofs.Common.{◌≡◌, List, [], ◌∷◌, ◌++◌, map, refl, sym, ap, ap₂, ◌∙◌}
use Rattle.std.specs.Prelude.{Option}
use Rattle.std.specs.Option.{option_or}
use Rattle.store_map.specs.declared.call_name.CallName.TheVariants.{Client, Repairer}
use Rattle.store_map.specs.declared.script.Script.{Script}
use Rattle.store_map.specs.declared.call_name.CallName.{CallName}
use Rattle.store_map.specs.declared.line.HLine.{HLine}
use Rattle.store_map.specs.declared.line.XLine.{XLine}
use Rattle.store_map.specs.declared.line.RLine.{RLine}
use Rattle.store_map.specs.declared.line.OLine.{OLine}
use Rattle.store_map.specs.declared.line.GLine.{GLine}
use Rattle.store_map.specs.declared.transcript.Transcript.{Transcript}
use Rattle.hist_rules.specs.First.{first_fault}
use Rattle.hist_rules.specs.CallsExist.{call_exists, calls_exist}
use Rattle.hist_rules.specs.declared.verdict.Verdict.{Verdict}
use Rattle.hist_tables.proofs.Faults.{first_fault-append}

-- a rule on calls, over the lines that name them
over_lines : {Line : Type 0} (rule : CallName → Option Verdict) (call : Line → CallName) (lines : List Line) → first_fault rule (map call lines) ≡ first_fault (λ line. rule (call line)) lines
over_lines rule call [] = refl
over_lines rule call (line ∷ lines) = ap (option_or (rule (call line))) (over_lines rule call lines)

-- one kind of lines more
kind_more : {Line : Type 0} (rule : CallName → Option Verdict) (call : Line → CallName) (calls : List CallName) (lines : List Line)
    → first_fault rule (calls ++ map call lines) ≡ option_or (first_fault rule calls) (first_fault (λ line. rule (call line)) lines)
kind_more rule call calls lines = first_fault-append rule calls (map call lines) ∙ ap (option_or (first_fault rule calls)) (over_lines rule call lines)

pub all_kinds : (script : Script) (t : Transcript)
    → option_or (option_or (option_or (option_or (first_fault (λ (line : HLine). call_exists script (Client line.call)) t.history) (first_fault (λ (line : XLine). call_exists script (Client line.call)) t.refused))
    (first_fault (λ (line : RLine). call_exists script (Repairer line.call)) t.repairs)) (first_fault (λ (line : OLine). call_exists script line.call) t.unanswered)) (first_fault (λ (line : GLine). call_exists script line.call) t.takes)
    ≡ calls_exist script t
all_kinds script t =
    let rule = call_exists script in
    let h = over_lines rule (λ (line : HLine). Client line.call) t.history in
    let x = kind_more rule (λ (line : XLine). Client line.call) (map (λ (line : HLine). Client line.call) t.history) t.refused in
    let r = kind_more rule (λ (line : RLine). Repairer line.call) (map (λ (line : HLine). Client line.call) t.history ++ map (λ (line : XLine). Client line.call) t.refused) t.repairs in
    let o = kind_more rule (λ (line : OLine). line.call) (map (λ (line : HLine). Client line.call) t.history ++ map (λ (line : XLine). Client line.call) t.refused ++ map (λ (line : RLine). Repairer line.call) t.repairs) t.unanswered in
    let g = kind_more rule (λ (line : GLine). line.call)
    (map (λ (line : HLine). Client line.call) t.history ++ map (λ (line : XLine). Client line.call) t.refused ++ map (λ (line : RLine). Repairer line.call) t.repairs ++ map (λ (line : OLine). line.call) t.unanswered) t.takes in
    sym (g ∙ ap (λ (found : Option Verdict). option_or found (first_fault (λ (line : GLine). rule line.call) t.takes))
    (o ∙ ap (λ (found : Option Verdict). option_or found (first_fault (λ (line : OLine). rule line.call) t.unanswered))
    (r ∙ ap (λ (found : Option Verdict). option_or found (first_fault (λ (line : RLine). rule (Repairer line.call)) t.repairs))
    (x ∙ ap (λ (found : Option Verdict). option_or found (first_fault (λ (line : XLine). rule (Client line.call)) t.refused)) h))))
