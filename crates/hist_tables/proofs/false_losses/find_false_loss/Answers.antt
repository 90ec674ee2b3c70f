use Rattle.std.proofs.Common.{sym, ap, ◌∙◌, Option}
use Rattle.std.specs.Option.{option_or}
use Rattle.hist_rules.specs.First.{first_fault}
use Rattle.hist_rules.specs.declared.verdict.Verdict.{Verdict}
use Rattle.hist_tables.specs.Lines.{refusal_for_loss, result_for_loss}
use Rattle.hist_tables.proofs.Ors.{lost_by_lines}
use Rattle.hist_tables.proofs.false_losses.find_false_loss.Goals as goal

pub returns-in-Some : goal.returns-in-Some
returns-in-Some c =
    let script = c.args.script.now in
    let t = c.args.transcript.now in
    sym (lost_by_lines script t
    ∙ ap (λ (found : Option Verdict). option_or found (first_fault (result_for_loss script) t.repairs))
    (sym (c.in-Some.ensures ∙ ap (first_fault (refusal_for_loss script)) c.as_slice.ensures)))

pub returns : goal.returns
returns c =
    let script = c.args.script.now in
    let t = c.args.transcript.now in
    sym (lost_by_lines script t
    ∙ ap (λ (found : Option Verdict). option_or found (first_fault (result_for_loss script) t.repairs))
    (sym (c.in_default.ensures ∙ ap (first_fault (refusal_for_loss script)) c.as_slice.ensures))
    ∙ sym (c.find_false_failure.ensures ∙ ap (first_fault (result_for_loss script)) c.as_slice-2.ensures))
