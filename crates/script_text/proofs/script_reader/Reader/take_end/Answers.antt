use Rattle.line_grammar.specs.Line.{EndLine}
use Rattle.script_text.proofs.ReaderLaws.{end_taken}
use Rattle.script_text.proofs.script_reader.Reader.take_end.Goals as goal

pub returns : goal.returns
returns c = (EndLine, end_taken c.args.self.now c.args.line.now c.requires.sound c.requires.place (c.is_text.ensures.0 c.if-not-is_text.false))
