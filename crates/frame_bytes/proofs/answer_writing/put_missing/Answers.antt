use Rattle.std.proofs.Common.{◌++◌, refl}
use Rattle.byteorder.specs.Endian.{big_bytes}
use Rattle.frame_bytes.proofs.WriteLemmas.{and_then, and_stop}
use Rattle.frame_bytes.proofs.answer_writing.put_missing.Goals as goal

pub returns-in_err-put_u32 : goal.returns-in_err-put_u32
returns-in_err-put_u32 g c =
    and_stop _ (big_bytes 8 c.args.missing.now.placed ++ big_bytes 8 c.args.missing.now.found) _ refl _ c.from_residual.ensures.1
    c.in_err-put_u32.ensures

pub returns-in_err-put_u64 : goal.returns-in_err-put_u64
returns-in_err-put_u64 g c =
    and_stop _ (big_bytes 8 c.args.missing.now.found) _ refl _ c.from_residual-in_err-put_u64.ensures.1
    (and_then _ c.in_ok-put_u32.ensures c.in_err-put_u64.ensures)

pub returns : goal.returns
returns g c = and_then _ (and_then _ c.in_ok-put_u32.ensures c.in_ok-put_u64.ensures) c.put_u64-2.ensures
