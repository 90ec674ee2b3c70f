use Rattle.std.proofs.Common.{◌∷◌, ◌++◌, length, refl}
use Rattle.std.specs.Prelude.{flat_map}
use Rattle.byteorder.specs.Endian.{big_bytes}
use Rattle.session_rules.specs.Replies.{missing_bytes}
use Rattle.frame_bytes.proofs.WriteLemmas.{and_then, and_stop}
use Rattle.frame_bytes.proofs.answer_writing.put_unavailable.Goals as goal

pub returns-in_err-put_byte : goal.returns-in_err-put_byte
returns-in_err-put_byte g c =
    and_stop _ (big_bytes 4 c.args.stripe ++ length c.args.missing.now ∷ flat_map missing_bytes c.args.missing.now) _ refl _ c.from_residual.ensures.1
    c.in_err-put_byte.ensures

pub returns-in_err-put_u32 : goal.returns-in_err-put_u32
returns-in_err-put_u32 g c =
    and_stop _ (length c.args.missing.now ∷ flat_map missing_bytes c.args.missing.now) _ refl _ c.from_residual-in_err-put_u32.ensures.1
    (and_then _ c.in_ok-put_byte.ensures c.in_err-put_u32.ensures)

pub returns-in_err-put_byte-2 : goal.returns-in_err-put_byte-2
returns-in_err-put_byte-2 g c =
    and_stop _ (flat_map missing_bytes c.args.missing.now) _ refl _ c.from_residual-in_err-put_byte-2.ensures.1
    (and_then _ (and_then _ c.in_ok-put_byte.ensures c.in_ok-put_u32.ensures) c.in_err-put_byte-2.ensures)

pub returns : goal.returns
returns g c =
    and_then _ (and_then _ (and_then _ c.in_ok-put_byte.ensures c.in_ok-put_u32.ensures) c.in_ok-put_byte-2.ensures) c.put_each_missing.ensures
