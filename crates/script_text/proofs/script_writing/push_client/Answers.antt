use Rattle.std.proofs.Common.{◌∷◌, [], ap, ◌∙◌, sym}
use Rattle.std.specs.Prelude.{map}
use Rattle.std.specs.declared.alloc.AllocError.{AllocError}
use Rattle.std.proofs.lemmas.List.{map-append}
use Rattle.line_grammar.specs.Line.{ClientLine, CallLine}
use Rattle.script_text.proofs.WriteLaws.{block_written, on_ok}
use Rattle.script_text.proofs.script_writing.push_client.Goals as goal

pub returns-in_ok-push_leave-in-Some : goal.returns-in_ok-push_leave-in-Some
returns-in_ok-push_leave-in-Some c =
    let parted = sym c.as_slice.ensures ∙ c.in-Some.ensures.cases.0 in
    let lines = ap (map CallLine) parted ∙ map-append CallLine c.in-Some.calls.now (c.in-Some.last.now ∷ []) in
    on_ok AllocError c.push_call.result _ _
    (block_written c.args.text.now.items c.extend_from_slice.new.self.items c.push_calls.new.text.items c.push_leave.new.text.items c.push_call.new.text.items
    ClientLine c.args.part.now.leave (map CallLine c.args.part.now.calls) (map CallLine c.in-Some.calls.now) (CallLine c.in-Some.last.now) lines
    c.in_ok-extend_from_slice.ensures.items c.in_ok-push_calls-in-Some.ensures c.in_ok-push_leave-in-Some.ensures)
    c.push_call.ensures
