use Rattle.std.proofs.Common.{refl}
use Rattle.byteorder.specs.Endian.{big_bytes}
use Rattle.frame_bytes.proofs.WriteLemmas.{and_then, and_stop}
use Rattle.frame_bytes.proofs.answer_writing.put_number.Goals as goal

pub returns-in_err-put_byte : goal.returns-in_err-put_byte
returns-in_err-put_byte g c = and_stop _ (big_bytes 8 c.args.number) _ refl _ c.from_residual.ensures.1 c.in_err-put_byte.ensures

pub returns : goal.returns
returns g c = and_then _ c.in_ok-put_byte.ensures c.put_u64.ensures
