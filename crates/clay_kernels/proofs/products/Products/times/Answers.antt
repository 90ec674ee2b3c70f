use Rattle.std.proofs.Common.{◌≡◌, ◌%◌, ◌/◌, ◌*◌, get_or, ap, ◌∙◌, arith, bit_and, bit_xor}
use Rattle.std.proofs.lemmas.Nat.{and_mask}
use Rattle.clay_field.specs.Field.{product}
use Rattle.clay_kernels.proofs.NibbleLemmas.{product_halves}
use Rattle.clay_kernels.proofs.products.Products.times.Goals as goal

pub returns : goal.returns
returns c =
    let byte = c.args.byte in
    let p = c.self.inside in
    let low : get_or p.low (bit_and byte 15) 0 ≡ product p.factor (byte % 16) = ap (λ k. get_or p.low k 0) (and_mask byte 4) ∙ c.self.invariant.low_half (byte % 16) (omega arith) in
    let high : get_or p.high (byte / 16) 0 ≡ product p.factor (16 * (byte / 16)) = c.self.invariant.high_half (byte / 16) (omega (arith, c.ranges.byte.fits)) in
    (λ i. bit_xor (low i) (high i)) ∙ product_halves p.factor byte ∙ ap (λ f. product f byte) c.self.view_is
