use Rattle.std.proofs.Common.{refl, sym, ap, ◌∙◌}
use Rattle.std.specs.Prelude.{is_some}
use Rattle.script_text.specs.Front.{Begun}
use Rattle.script_text.specs.Reader.{script_of}
use Rattle.script_text.specs.declared.script_place.LineKind.TheVariants as kind
use Rattle.script_text.proofs.ReaderLaws.{of_kind, no_kind, no_stand}
use Rattle.script_text.proofs.script_reader.Reader.take_line.Goals as goal

pub returns-in_default : goal.returns-in_default
returns-in_default c =
    no_kind (Begun c.args.self.now.place (script_of c.args.self.now)) c.args.line.now c.first_word.result.now c.first_word.ensures c.in_default.ensures

pub returns-then-is_none : goal.returns-then-is_none
returns-then-is_none c =
    no_stand c.args.self.now.place (script_of c.args.self.now) c.args.line.now c.in-Some.kind
    (of_kind c.args.line.now c.first_word.result.now c.in-Some.kind c.in-Some.kind c.first_word.ensures c.in-Some.ensures refl)
    (ap is_some (sym c.next_place.ensures) ∙ c.if-is_none.ensures)

pub take_size-requires-clause-kind : goal.take_size-requires-clause-kind
take_size-requires-clause-kind c = of_kind c.args.line.now c.first_word.result.now c.in-Some.kind kind.Size c.first_word.ensures c.in-Some.ensures c.in-Size.is

pub take_tries-requires-clause-kind : goal.take_tries-requires-clause-kind
take_tries-requires-clause-kind c = of_kind c.args.line.now c.first_word.result.now c.in-Some.kind kind.Tries c.first_word.ensures c.in-Some.ensures c.in-Tries.is

pub take_client-requires-clause-kind : goal.take_client-requires-clause-kind
take_client-requires-clause-kind c = of_kind c.args.line.now c.first_word.result.now c.in-Some.kind kind.Client c.first_word.ensures c.in-Some.ensures c.in-Client.is

pub take_repairer-requires-clause-kind : goal.take_repairer-requires-clause-kind
take_repairer-requires-clause-kind c = of_kind c.args.line.now c.first_word.result.now c.in-Some.kind kind.Repairer c.first_word.ensures c.in-Some.ensures c.in-Repairer.is

pub take_leave-requires-clause-kind : goal.take_leave-requires-clause-kind
take_leave-requires-clause-kind c = of_kind c.args.line.now c.first_word.result.now c.in-Some.kind kind.Leave c.first_word.ensures c.in-Some.ensures c.in-Leave.is

pub take_call-requires-clause-kind : goal.take_call-requires-clause-kind
take_call-requires-clause-kind c = of_kind c.args.line.now c.first_word.result.now c.in-Some.kind kind.Call c.first_word.ensures c.in-Some.ensures c.in-Call.is

pub take_rebuild-requires-clause-kind : goal.take_rebuild-requires-clause-kind
take_rebuild-requires-clause-kind c = of_kind c.args.line.now c.first_word.result.now c.in-Some.kind kind.Rebuild c.first_word.ensures c.in-Some.ensures c.in-Rebuild.is

pub take_schedule-requires-clause-kind : goal.take_schedule-requires-clause-kind
take_schedule-requires-clause-kind c = of_kind c.args.line.now c.first_word.result.now c.in-Some.kind kind.Schedule c.first_word.ensures c.in-Some.ensures c.in-Schedule.is

pub take_step-requires-clause-kind : goal.take_step-requires-clause-kind
take_step-requires-clause-kind c = of_kind c.args.line.now c.first_word.result.now c.in-Some.kind kind.Step c.first_word.ensures c.in-Some.ensures c.in-Step.is

pub take_end-requires-clause-kind : goal.take_end-requires-clause-kind
take_end-requires-clause-kind c = of_kind c.args.line.now c.first_word.result.now c.in-Some.kind kind.End c.first_word.ensures c.in-Some.ensures c.in-End.is
