use Rattle.std.proofs.Common.{◌++◌, length, take, refl, subst}
use Rattle.std.specs.Prelude.{flat_map}
use Rattle.byteorder.specs.Endian.{big_bytes}
use Rattle.session_rules.specs.Replies.{most_listed, lost_bytes}
use Rattle.frame_bytes.specs.Writing.{Puts}
use Rattle.frame_bytes.proofs.WriteLemmas.{and_then, and_stop}
use Rattle.frame_bytes.proofs.answer_writing.put_scrubbed.Goals as goal

pub returns-in_err-put_byte : goal.returns-in_err-put_byte
returns-in_err-put_byte g c =
    and_stop _ (big_bytes 4 (length c.args.lost.now) ++ flat_map lost_bytes (take most_listed c.args.lost.now)) _ refl _ c.from_residual.ensures.1
    c.in_err-put_byte.ensures

pub returns-in_err-put_u32 : goal.returns-in_err-put_u32
returns-in_err-put_u32 g c =
    and_stop _ (flat_map lost_bytes (take most_listed c.args.lost.now)) _ refl _ c.from_residual-in_err-put_u32.ensures.1
    (and_then _ c.in_ok-put_byte.ensures c.in_err-put_u32.ensures)

pub returns : goal.returns
returns g c =
    and_then _ (and_then _ c.in_ok-put_byte.ensures c.in_ok-put_u32.ensures)
    (subst
    (λ l. Puts g.K.Sink.accepted g.K.Sink.written g.K.Sink.faults c.put_u32.new.sink c.put_each_lost.new.sink c.put_u32.new.block.items c.put_each_lost.new.block.items
    (flat_map lost_bytes l) c.put_each_lost.result)
    c.listed.ensures.listed c.put_each_lost.ensures)
