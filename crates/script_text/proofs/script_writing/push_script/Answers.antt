use Rattle.std.proofs.Common.{◌++◌, ◌∙◌, ◌∷◌, ap, List}
use Rattle.std.specs.Prelude.{map}
use Rattle.std.specs.List.{flat_map}
use Rattle.std.specs.declared.alloc.AllocError.{AllocError}
use Rattle.store_map.specs.declared.actor.Token.{Token}
use Rattle.store_map.specs.declared.script.ClientPart.{ClientPart}
use Rattle.store_map.specs.declared.script.RepairPart.{RepairPart}
use Rattle.line_grammar.specs.Line.{ScheduleLine, StepLine, EndLine, line_text}
use Rattle.script_text.specs.Spelling.{client_lines, repairer_lines}
use Rattle.script_text.proofs.WriteLaws.{script_written, on_ok}
use Rattle.script_text.proofs.script_writing.push_script.Goals as goal

pub returns : goal.returns
returns c =
    on_ok AllocError c.push_tail.result _ _
    (λ tail.
    script_written c.args.script.now c.push_head.new.text.items c.push_clients.new.text.items c.push_repairers.new.text.items c.push_tail.new.text.items c.in_ok-push_head.ensures
    (c.in_ok-push_clients.ensures ∙ ap (λ (ps : List ClientPart). c.push_head.new.text.items ++ flat_map line_text (flat_map client_lines ps)) c.as_slice.ensures)
    (c.in_ok-push_repairers.ensures ∙ ap (λ (ps : List RepairPart). c.push_clients.new.text.items ++ flat_map line_text (flat_map repairer_lines ps)) c.as_slice-2.ensures)
    (tail ∙ ap (λ (ts : List Token). c.push_repairers.new.text.items ++ flat_map line_text (ScheduleLine ∷ map StepLine ts) ++ line_text EndLine) c.as_slice-3.ensures))
    c.push_tail.ensures
