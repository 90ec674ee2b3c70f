use Rattle.std.proofs.Common.{◌≡◌, sym, ◌∙◌}
use Rattle.std.proofs.lemmas.Result.{IfOk-weaker}
use Rattle.hist_rules.specs.First.{first_of}
use Rattle.hist_rules.specs.Verdict.{fault_of}
use Rattle.hist_check.proofs.Groups.{end_tests, in_end, replays}
use Rattle.hist_check.proofs.judging.find_fault_by.Goals as goal

pub returns : goal.returns
returns c =
    IfOk-weaker c.find_wrong_end.result (λ found. found ≡ first_of (end_tests c.args.script.now c.args.transcript.now)) (λ found. found ≡ fault_of c.args.script.now c.args.transcript.now)
    (λ found is.
    in_end c.args.script.now c.args.transcript.now found (sym c.requires.lines)
    (sym c.in_default.is ∙ c.in_ok-fault.ensures.found
    ∙ replays c.args.script.now c.args.transcript.now c.args.map.now c.as_slice.result.now c.requires.map c.as_slice.ensures)
    (sym c.in_default-2.is ∙ c.in_ok-fault-2.ensures) (sym c.in_default-3.is ∙ c.in_ok-fault-3.ensures) is)
    c.find_wrong_end.ensures
