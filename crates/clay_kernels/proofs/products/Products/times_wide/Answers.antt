use Rattle.std.proofs.Common.{◌*◌, get_or, ◌∙◌, arith, bit_xor}
use Rattle.clay_field.specs.Field.{product}
use Rattle.clay_kernels.proofs.LaneLemmas.{HasLanes-zip2, HasLanes-low, HasLanes-high, high-lt, SwzOk-nibbles, HasLanes-look_up}
use Rattle.clay_kernels.proofs.NibbleLemmas.{product_halves}
use Rattle.clay_kernels.proofs.products.Products.times_wide.Goals as goal

pub swizzle-of_low : goal.swizzle-of_low
swizzle-of_low c = SwzOk-nibbles 2 _ _ (HasLanes-low 32 c.args.lanes c.fits-lanes.0) (λ k l. omega arith)

pub swizzle-of_high : goal.swizzle-of_high
swizzle-of_high c = SwzOk-nibbles 2 _ _ (HasLanes-high 32 c.args.lanes c.fits-lanes.0) (high-lt 32 c.args.lanes c.fits-lanes.0 c.fits-lanes.1)

pub returns : goal.returns
returns c =
    let v = c.args.lanes in
    let f = c.args.self.now in
    let low = HasLanes-look_up 2 _ _ (HasLanes-low 32 v c.fits-lanes.0) (λ k l. omega arith) (product f) c.requires.low in
    let high = HasLanes-look_up 2 _ _ (HasLanes-high 32 v c.fits-lanes.0) (high-lt 32 v c.fits-lanes.0 c.fits-lanes.1) (λ j. product f (16 * j)) c.requires.high in
    let both = HasLanes-zip2 32 bit_xor _ _ low.long high.long in
    record {
      long = both.long;
      each = λ k l. both.each k l ∙ (λ i. bit_xor (low.each k l i) (high.each k l i)) ∙ product_halves f (get_or v k 0);
    }
