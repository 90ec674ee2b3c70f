use Rattle.std.proofs.Common.{ℕ, ◌++◌, ◌∙◌, ap, List}
use Rattle.std.specs.declared.alloc.AllocError.{AllocError}
use Rattle.line_grammar.specs.Line.{ClayLine, line_text}
use Rattle.script_text.proofs.WriteLaws.{head_written, on_ok}
use Rattle.script_text.proofs.script_writing.push_head.Goals as goal

pub returns : goal.returns
returns c =
    on_ok AllocError c.push_tries.result _ _
    (head_written c.args.script.now c.push_numbered.new.text.items c.push_code.new.text.items c.push_size.new.text.items c.push_tries.new.text.items
    (c.in_ok-push_numbered.ensures ∙ ap (λ (l : List ℕ). l ++ line_text (ClayLine c.args.script.now.form)) c.requires) c.in_ok-push_code.ensures c.in_ok-push_size.ensures)
    c.push_tries.ensures
