use Rattle.std.proofs.Common.{sym}
use Rattle.hex.proofs.HexLemmas.{decode_of-ok}
use Rattle.line_grammar.proofs.DigitLaws.{encode-decode_of}
use Rattle.line_grammar.proofs.digits.read_digits.Goals as goal

pub returns-in-Ok : goal.returns-in-Ok
returns-in-Ok c = record {
  bytes = (decode_of-ok c.args.digits.now c.in-Ok.bytes.items c.in-Ok.ensures.ok).3;
  spelled = sym (encode-decode_of c.args.digits.now c.in-Ok.bytes.items c.requires.digits c.in-Ok.ensures.ok);
}
