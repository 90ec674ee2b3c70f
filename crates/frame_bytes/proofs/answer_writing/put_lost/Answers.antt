use Rattle.std.proofs.Common.{◌∷◌, ◌++◌, length, sym, ap, subst, ◌∙◌, append_assoc}
use Rattle.byteorder.specs.Endian.{big_bytes}
use Rattle.frame_bytes.specs.Writing.{Puts}
use Rattle.frame_bytes.proofs.WriteLemmas.{and_then, and_stop}
use Rattle.frame_bytes.proofs.answer_writing.put_lost.Goals as goal

pub returns-in_err-put_byte : goal.returns-in_err-put_byte
returns-in_err-put_byte g c =
    let name = c.args.chunk.now.name in
    let stripe = big_bytes 4 c.args.chunk.now.stripe in
    let server = big_bytes 4 c.args.chunk.now.server in
    and_stop _ ((name ++ stripe) ++ server) _ (ap (λ l. length l ∷ ((name ++ stripe) ++ server)) c.as_bytes-name.ensures.bytes) _
    c.from_residual.ensures.1 c.in_err-put_byte.ensures

pub returns-in_err-put : goal.returns-in_err-put
returns-in_err-put g c =
    let name = c.args.chunk.now.name in
    let stripe = big_bytes 4 c.args.chunk.now.stripe in
    let server = big_bytes 4 c.args.chunk.now.server in
    and_stop _ (stripe ++ server) _
    (ap (λ l. length l ∷ (l ++ (stripe ++ server))) c.as_bytes-name.ensures.bytes ∙ ap (λ l. length name ∷ l)
    (sym (append_assoc name stripe server))) _
    c.from_residual-in_err-put.ensures.1 (and_then _ c.in_ok-put_byte.ensures c.in_err-put.ensures)

pub returns-in_err-put_u32 : goal.returns-in_err-put_u32
returns-in_err-put_u32 g c =
    let stripe = big_bytes 4 c.args.chunk.now.stripe in
    let server = big_bytes 4 c.args.chunk.now.server in
    and_stop _ server _ (ap (λ l. length l ∷ ((l ++ stripe) ++ server)) c.as_bytes-name.ensures.bytes) _ c.from_residual-in_err-put_u32.ensures.1
    (and_then _ (and_then _ c.in_ok-put_byte.ensures c.in_ok-put.ensures) c.in_err-put_u32.ensures)

pub returns : goal.returns
returns g c =
    let stripe = big_bytes 4 c.args.chunk.now.stripe in
    let server = big_bytes 4 c.args.chunk.now.server in
    subst
    (λ l. Puts g.K.Sink.accepted g.K.Sink.written g.K.Sink.faults c.args.sink.now c.put_u32-2.new.sink c.args.block.now.items c.put_u32-2.new.block.items
    (length l ∷ ((l ++ stripe) ++ server)) c.put_u32-2.result)
    c.as_bytes-name.ensures.bytes
    (and_then _ (and_then _ (and_then _ c.in_ok-put_byte.ensures c.in_ok-put.ensures) c.in_ok-put_u32.ensures) c.put_u32-2.ensures)
