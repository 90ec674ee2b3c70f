use Rattle.std.proofs.Common.{◌≡◌, ◌++◌, ap, ◌∙◌}
use Rattle.byteorder.specs.Endian.{little_bytes}
use Rattle.crc64.specs.Remainder.{checksum_of}
use Rattle.share_format.specs.Header.{told_bytes}
use Rattle.share_format.proofs.header.ShareHeader.bytes.Goals as goal

pub returns : goal.returns
returns c =
    let h = c.args.self.now in
    let told : c.in_ok-bytes.bytes.items ≡ told_bytes h = c.in_ok-bytes.ensures ∙ ap (λ v. told_bytes v) c.self.view_is in
    let sum : c.checksum-checksum.result ≡ checksum_of (told_bytes h) =
    c.checksum-checksum.ensures ∙ ap (λ l. checksum_of l) (c.deref.ensures.value ∙ told) in
    c.in_ok-put_u64.ensures ∙ (λ i. told i ++ little_bytes 8 (sum i))
