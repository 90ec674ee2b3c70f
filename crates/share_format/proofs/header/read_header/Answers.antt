use Rattle.std.proofs.Common.{◌≡◌, ◌≤◌, ◌^◌, sym, ap, ◌∙◌, subst}
use Rattle.clay_aloof.specs.Shape.{all_chunks}
use Rattle.clay_aloof.specs.Limits.{IsAloof}
use Rattle.share_format.specs.Cut.{stripe_count}
use Rattle.share_format.specs.Header.{Header, header_with, header_in}
use Rattle.share_format.proofs.HeaderBytes.{read_is}
use Rattle.share_format.proofs.header.read_header.Goals as goal

pub returns-then-stripes-stripes_of-clause-refused : goal.returns-then-stripes-stripes_of-clause-refused
returns-then-stripes-stripes_of-clause-refused c =
    let is : header_with c.in_ok-geometry.geometry c.u32_at-share.result c.u64_at-size.result c.u64_at-checksum.result ≡ header_in c.args.bytes.now =
    λ i. header_with (c.in_ok-geometry.ensures.code i) (c.u32_at-share.ensures i) (c.u64_at-size.ensures i) (c.u64_at-checksum.ensures i) in (
      c.in_ok-check.ensures.intact,
      subst (λ (h : Header). IsAloof h.shape) is c.in_ok-geometry.ensures.aloof,
      subst (λ (h : Header). h.size ≤ 2 ^ 56) is c.if-size-gt-MAX_SIZE.false,
      λ same. c.if-stripes-stripes_of.true
          (c.u64_at-stripes.ensures ∙ same ∙ sym (c.stripes_of.ensures ∙ ap (λ (h : Header). stripe_count h.shape h.size) is)),
    )

pub returns-then-share-n-clause-refused : goal.returns-then-share-n-clause-refused
returns-then-share-n-clause-refused c =
    let is : header_with c.in_ok-geometry.geometry c.u32_at-share.result c.u64_at-size.result c.u64_at-checksum.result ≡ header_in c.args.bytes.now =
    λ i. header_with (c.in_ok-geometry.ensures.code i) (c.u32_at-share.ensures i) (c.u64_at-size.ensures i) (c.u64_at-checksum.ensures i) in (
      c.in_ok-check.ensures.intact,
      subst (λ (h : Header). IsAloof h.shape) is c.in_ok-geometry.ensures.aloof,
      subst (λ (h : Header). h.size ≤ 2 ^ 56) is c.if-size-gt-MAX_SIZE.false,
      sym c.u64_at-stripes.ensures ∙ c.if-stripes-stripes_of.false ∙ c.stripes_of.ensures ∙ ap (λ (h : Header). stripe_count h.shape h.size) is,
      subst (λ (h : Header). all_chunks h.shape ≤ h.share) is (subst (λ n. n ≤ c.u32_at-share.result) c.n.ensures.value c.if-share-n.true),
    )

pub returns-clause-read : goal.returns-clause-read
returns-clause-read c =
    let is : header_with c.in_ok-geometry.geometry c.u32_at-share.result c.u64_at-size.result c.u64_at-checksum.result ≡ header_in c.args.bytes.now =
    λ i. header_with (c.in_ok-geometry.ensures.code i) (c.u32_at-share.ensures i) (c.u64_at-size.ensures i) (c.u64_at-checksum.ensures i) in
    read_is c.args.bytes.now c.new.result c.u64_at-stripes.result c.requires (λ k. (c.type_inv.bytes k).fits) c.in_ok-check.ensures.intact
    (c.new.ensures ∙ is) (sym c.u64_at-stripes.ensures)
    (c.if-stripes-stripes_of.false ∙ c.stripes_of.ensures ∙ ap (λ (h : Header). stripe_count h.shape h.size) (sym c.new.ensures))
