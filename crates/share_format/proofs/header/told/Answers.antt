use Rattle.std.proofs.Common.{◌++◌, ap, ◌∙◌}
use Rattle.byteorder.specs.Endian.{little_bytes}
use Rattle.clay_aloof.specs.Shape.{aloof_of}
use Rattle.share_format.specs.Header.{magic, version, header_with}
use Rattle.share_format.proofs.HeaderBytes.{told_with, ten_pieces}
use Rattle.share_format.proofs.header.told.Goals as goal

pub returns : goal.returns
returns c =
    let a = c.args in
    let one = c.in_ok-put_u64.ensures ∙ ap (λ l. l ++ little_bytes 8 magic) c.in_ok-bytes.ensures.items in
    let two = c.in_ok-put_u32.ensures ∙ ap (λ l. l ++ little_bytes 4 version) one in
    let three = c.in_ok-put_u32-2.ensures ∙ ap (λ l. l ++ little_bytes 4 c.k.result) two in
    let four = c.in_ok-put_u32-3.ensures ∙ ap (λ l. l ++ little_bytes 4 c.m.result) three in
    let five = c.in_ok-put_u32-4.ensures ∙ ap (λ l. l ++ little_bytes 4 c.d.result) four in
    let six = c.in_ok-put_u32-5.ensures ∙ ap (λ l. l ++ little_bytes 4 c.w.result) five in
    let seven = c.in_ok-put_u32-6.ensures ∙ ap (λ l. l ++ little_bytes 4 a.share) six in
    let eight = c.in_ok-put_u64-2.ensures ∙ ap (λ l. l ++ little_bytes 8 a.size) seven in
    let nine = c.in_ok-put_u64-3.ensures ∙ ap (λ l. l ++ little_bytes 8 c.stripes_of.result) eight in
    let ten = c.in_ok-put_u64-4.ensures ∙ ap (λ l. l ++ little_bytes 8 a.checksum) nine in
    ten
    ∙ ten_pieces (little_bytes 8 magic) (little_bytes 4 version) (little_bytes 4 c.k.result) (little_bytes 4 c.m.result)
    (little_bytes 4 c.d.result) (little_bytes 4 c.w.result) (little_bytes 4 a.share) (little_bytes 8 a.size)
    (little_bytes 8 c.stripes_of.result) (little_bytes 8 a.checksum)
    ∙ (λ i. told_with magic version (c.stripes_of.ensures i)
    (header_with (aloof_of (c.k.ensures.value i) (c.m.ensures.value i) (c.d.ensures.value i) (c.w.ensures.value i)) a.share a.size a.checksum))
