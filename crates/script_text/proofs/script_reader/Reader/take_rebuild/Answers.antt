use Rattle.std.proofs.Common.{refl, sym, arith}
use Rattle.line_grammar.specs.Line.{RebuildLine}
use Rattle.script_text.specs.declared.script_reader.Reader.{Reader}
use Rattle.script_text.proofs.ReaderLaws.{rebuild_err, rebuild_push_err, rebuild_no_server, rebuild_taken}
use Rattle.line_grammar.proofs.HandedOn.{handed_on}
use Rattle.script_text.specs.Reader.{Takes}
use Rattle.script_text.proofs.script_reader.Reader.take_rebuild.Goals as goal

pub returns-in_err-rebuild : goal.returns-in_err-rebuild
returns-in_err-rebuild c =
    handed_on (λ r. Takes c.args.self.now c.args.line.now r c.args.self.now) c.from_residual.result c.in_err-rebuild.field-0.0 c.from_residual.ensures.1
    (rebuild_err c.args.self.now c.args.self.now c.args.line.now c.requires.place c.requires.kind c.in_err-rebuild.field-0.0 c.in_err-rebuild.ensures)

pub returns-in_err-push_rebuild : goal.returns-in_err-push_rebuild
returns-in_err-push_rebuild c =
    let new : Reader = record c.args.self.now { repairers = c.push_rebuild.new.repairers } in
    handed_on (λ r. Takes c.args.self.now c.args.line.now r new) c.from_residual-in_err-push_rebuild.result c.in_err-push_rebuild.field-0.0 c.from_residual-in_err-push_rebuild.ensures.1
    (rebuild_push_err c.args.self.now new c.args.line.now c.in_ok-rebuild.rebuild c.pending-leave.result c.requires.place c.in_ok-rebuild.ensures.0 c.in_ok-rebuild.ensures.2
    c.in_err-push_rebuild.field-0.0 c.push_rebuild.new.repairers.items c.in_err-push_rebuild.ensures)

pub returns-then-server-n : goal.returns-then-server-n
returns-then-server-n c =
    rebuild_no_server c.args.self.now c.args.line.now c.in_ok-rebuild.rebuild c.push_rebuild.new.repairers.items c.requires.sound c.requires.place c.in_ok-rebuild.ensures.0 c.in_ok-rebuild.ensures.1 c.in_ok-rebuild.ensures.2
    (rw (← c.pending-leave.ensures) c.in_ok-push_rebuild.ensures) (omega (arith, c.n.ensures.value))

pub returns : goal.returns
returns c =
    let new : Reader = record c.args.self.now { place = c.in-Some.place; repairers = c.push_rebuild.new.repairers } in (
      RebuildLine c.in_ok-rebuild.rebuild,
      rebuild_taken c.args.self.now new c.args.line.now c.in_ok-rebuild.rebuild
          c.requires.sound c.requires.place c.in_ok-rebuild.ensures.0 c.in_ok-rebuild.ensures.1 c.in_ok-rebuild.ensures.2 (omega (arith, c.n.ensures.value))
          (rw (← c.pending-leave.ensures) c.in_ok-push_rebuild.ensures) refl (sym c.in-Some.ensures) refl,
    )
