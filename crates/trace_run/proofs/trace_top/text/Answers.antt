use Rattle.std.proofs.Common.{◌≡◌, ◌++◌, ◌∙◌}
use Rattle.transcript_text.specs.Text.{text_of}
use Rattle.trace_lines.specs.Lines.{lines_of}
use Rattle.trace_run.proofs.trace_top.text.Goals as goal

pub returns : goal.returns
returns c =
    let steps : c.append_steps.new.out.items ≡ lines_of c.args.run.now.steps.items =
    c.in_ok-append_steps.ensures ∙ (λ k. c.new-text.ensures.items k ++ lines_of (c.deref.ensures.value k)) in
    let transcript : c.deref-2.result.now ≡ text_of c.args.run.now.transcript = c.deref-2.ensures.value ∙ c.in_ok-transcript.ensures in
    c.in_ok-extend_from_slice.ensures.items ∙ (λ k. steps k ++ transcript k)
