use Rattle.std.proofs.Common.{refl}
use Rattle.std.specs.Prelude.{flat_map}
use Rattle.byteorder.specs.Endian.{big_bytes}
use Rattle.frame_bytes.proofs.WriteLemmas.{and_then, and_stop}
use Rattle.frame_bytes.proofs.answer_writing.put_healed.Goals as goal

pub returns-in_err-put_number : goal.returns-in_err-put_number
returns-in_err-put_number g c = and_stop _ (flat_map (big_bytes 8) c.args.taken.now) _ refl _ c.from_residual.ensures.1 c.in_err-put_number.ensures

pub returns : goal.returns
returns g c = and_then _ c.in_ok-put_number.ensures c.put_each_taken.ensures
