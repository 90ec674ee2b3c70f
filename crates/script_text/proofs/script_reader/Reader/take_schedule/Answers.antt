use Rattle.line_grammar.specs.Line.{ScheduleLine}
use Rattle.script_text.proofs.ReaderLaws.{schedule_taken}
use Rattle.script_text.proofs.script_reader.Reader.take_schedule.Goals as goal

pub returns : goal.returns
returns c = (ScheduleLine, schedule_taken c.args.self.now c.args.line.now c.requires.sound c.requires.place (c.is_text.ensures.0 c.if-not-is_text.false))
