-- Where the last block of a share ends.
use Rattle.std.proofs.Common.{◌≡◌, ℕ, zero, suc, ◌+◌, ◌-◌, ◌*◌, ◌/◌, ◌%◌, ◌^◌, ◌<◌, ◌≤◌, refl, sym, ◌∙◌, ap, arith}
use Rattle.std.proofs.lemmas.Nat.{div-add-mod'}
use Rattle.clay_aloof.specs.Shape.{AloofShape, stripe_bytes}
use Rattle.clay_aloof.specs.Limits.{IsAloof}
use Rattle.share_format.specs.Cut.{stripe_count}
use Rattle.share_format.specs.Blocks.{block_length}
use Rattle.share_format.specs.Shares.{block_start}
use Rattle.share_format.proofs.HeaderBack.{stripe_some}
use Rattle.share_files.proofs.CutLemmas.{places_low}

end_at : (a : AloofShape) (size n : ℕ) → IsAloof a → size ≤ 2 ^ 56 → stripe_count a size ≡ n → block_start a n < 2 ^ 60
end_at a size zero aloof bounded is =
    let none : 0 ≡ 0 * stripe_bytes a = omega arith in
    let fits : block_start a 0 + block_length a < 2 ^ 60 = places_low a 0 0 aloof none (omega arith) in
    omega (arith, fits)
end_at a size (suc n) aloof bounded is =
    let some : 1 ≤ stripe_bytes a = stripe_some a aloof in
    let whole : (size + stripe_bytes a - 1) / stripe_bytes a * stripe_bytes a + (size + stripe_bytes a - 1) % stripe_bytes a ≡ size + stripe_bytes a - 1 =
    div-add-mod' (size + stripe_bytes a - 1) (stripe_bytes a) in
    let all : suc n * stripe_bytes a + (size + stripe_bytes a - 1) % stripe_bytes a ≡ size + stripe_bytes a - 1 =
    ap (λ k. k * stripe_bytes a + (size + stripe_bytes a - 1) % stripe_bytes a) (sym is) ∙ whole in
    let product : suc n * stripe_bytes a ≡ n * stripe_bytes a + stripe_bytes a = omega arith in
    let few : n * stripe_bytes a ≤ 2 ^ 56 = omega (arith, all, product, some, bounded) in
    let fits : block_start a n + block_length a < 2 ^ 60 = places_low a n (n * stripe_bytes a) aloof refl few in
    let one : suc n * block_length a ≡ n * block_length a + block_length a = omega arith in
    omega (arith, fits, one)

-- the end of all blocks of a file lies far below 2^64
pub end_low : (a : AloofShape) (size : ℕ) → IsAloof a → size ≤ 2 ^ 56 → block_start a (stripe_count a size) < 2 ^ 60
end_low a size aloof bounded = end_at a size (stripe_count a size) aloof bounded refl

pub end_fits : (a : AloofShape) (size : ℕ) → IsAloof a → size ≤ 2 ^ 56 → block_start a (stripe_count a size) < 2 ^ 64
end_fits a size aloof bounded =
    let low : block_start a (stripe_count a size) < 2 ^ 60 = end_low a size aloof bounded in omega (arith, low)
