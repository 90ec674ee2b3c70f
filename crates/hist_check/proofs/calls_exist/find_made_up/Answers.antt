use Rattle.std.proofs.Common.{ap, ap₂, ◌∙◌}
use Rattle.std.specs.Option.{option_or}
use Rattle.store_map.specs.declared.call_name.CallName.TheVariants.{Client, Repairer}
use Rattle.hist_rules.specs.First.{first_fault}
use Rattle.hist_rules.specs.CallsExist.{call_exists}
use Rattle.hist_check.proofs.Made.{all_kinds}
use Rattle.hist_check.proofs.calls_exist.find_made_up.Goals as goal

pub returns : goal.returns
returns c =
    let script = c.args.script.now in
    c.or-4.ensures
    ∙ ap₂ option_or
    (c.or-3.ensures
    ∙ ap₂ option_or
    (c.or-2.ensures
    ∙ ap₂ option_or
    (c.or.ensures
    ∙ ap₂ option_or (c.find_unknown_call.ensures ∙ ap (first_fault (λ line. call_exists script (Client line.call))) c.as_slice.ensures)
    (c.find_unknown_call-2.ensures ∙ ap (first_fault (λ line. call_exists script (Client line.call))) c.as_slice-2.ensures))
    (c.find_unknown_call-3.ensures ∙ ap (first_fault (λ line. call_exists script (Repairer line.call))) c.as_slice-3.ensures))
    (c.find_unknown_call-4.ensures ∙ ap (first_fault (λ line. call_exists script line.call)) c.as_slice-4.ensures))
    (c.find_unknown_call-5.ensures ∙ ap (first_fault (λ line. call_exists script line.call)) c.as_slice-5.ensures)
    ∙ all_kinds script c.args.transcript.now
