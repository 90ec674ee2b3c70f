use Rattle.std.proofs.Common.{◌∷◌, [], ap, ◌∙◌, sym}
use Rattle.std.specs.Prelude.{map}
use Rattle.std.specs.declared.alloc.AllocError.{AllocError}
use Rattle.std.proofs.lemmas.List.{map-append}
use Rattle.line_grammar.specs.Line.{RepairerLine, RebuildLine}
use Rattle.script_text.proofs.WriteLaws.{block_written, on_ok}
use Rattle.script_text.proofs.script_writing.push_repairer.Goals as goal

pub returns-in_ok-push_leave-in-Some : goal.returns-in_ok-push_leave-in-Some
returns-in_ok-push_leave-in-Some c =
    let parted = sym c.as_slice.ensures ∙ c.in-Some.ensures.cases.0 in
    let lines = ap (map RebuildLine) parted ∙ map-append RebuildLine c.in-Some.rebuilds.now (c.in-Some.last.now ∷ []) in
    on_ok AllocError c.push_rebuild.result _ _
    (block_written c.args.text.now.items c.extend_from_slice.new.self.items c.push_rebuilds.new.text.items c.push_leave.new.text.items c.push_rebuild.new.text.items
    RepairerLine c.args.part.now.leave (map RebuildLine c.args.part.now.calls) (map RebuildLine c.in-Some.rebuilds.now) (RebuildLine c.in-Some.last.now) lines
    c.in_ok-extend_from_slice.ensures.items c.in_ok-push_rebuilds-in-Some.ensures c.in_ok-push_leave-in-Some.ensures)
    c.push_rebuild.ensures
