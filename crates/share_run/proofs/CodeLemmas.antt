-- The width of subchunks that a file's length asks for.
use Rattle.std.proofs.Common.{◌≡◌, ◌+◌, ◌-◌, ◌*◌, ◌/◌, ◌<◌, ◌≤◌, ◌⊎◌, ℕ, min, max, inl, inr, ap, sym, subst, ◌∙◌, arith, ⊎_elim}
use Rattle.std.specs.Int.{div_ceil}
use Rattle.std.proofs.Math.Nat.{mul_comm, mul_assoc}
use Rattle.std.proofs.lemmas.Nat.{le-div, mul-le, div-add-mod'}
use Rattle.std.proofs.lemmas.Grind.{div_ceil_times}
use Rattle.std.proofs.lemmas.Bool.{cases_lt}
use Rattle.clay_grid.specs.Shape.{layer_count}
use Rattle.clay_aloof.specs.Shape.{grid_of, stripe_bytes}
use Rattle.clay_aloof.specs.Limits.{IsAloof, IsFirstFault}
use Rattle.clay_aloof.specs.declared.aloof_fault.BadAloof.{BadAloof}
use Rattle.clay_aloof.specs.declared.aloof_fault.BadAloof.TheVariants.{DataCount, ParityCount, Helpers, Layers, Width, ChunkSize}
use Rattle.share_run.specs.declared.code.CodeAsked.{CodeAsked}
use Rattle.share_run.specs.Code.{code_with, IsForFile}

-- a width that is within a limit's share of each layer
within : (layers width limit : ℕ) → width ≤ limit / layers → layers * width ≤ limit
within layers width limit h =
    let whole : width * layers ≤ limit / layers * layers = mul-le width layers (limit / layers) layers h (omega arith) in
    omega (arith, whole, mul_comm layers width, div-add-mod' limit layers)

-- a stripe has as many bytes as one with subchunks of one byte, times the bytes of a subchunk
stripe_of : (width k layers : ℕ) → width * (k * (layers * 1)) ≡ k * (layers * width)
stripe_of width k layers =
    let one : layers * 1 ≡ layers = omega arith in
    ap (λ l. width * (k * l)) one ∙ mul_comm width (k * layers) ∙ mul_assoc k layers width

-- the width that is computed
pub is_for_file : (asked : CodeAsked) (size most wanted width : ℕ) → IsAloof (code_with asked 1)
    → most ≡ min 4096 (1048576 / layer_count (grid_of (code_with asked 1))) → wanted ≡ div_ceil size (stripe_bytes (code_with asked 1))
    → width ≡ max (min wanted most) 1 → IsForFile asked size width
is_for_file asked size most wanted width aloof most_is wanted_is width_is =
    let layers = layer_count (grid_of (code_with asked 1)) in
    let stripe = stripe_bytes (code_with asked 1) in
    let some_layers : 0 < layers = (let rows = aloof.grid.limits.parity_chunks in let more = aloof.grid.some_layers in omega (arith, rows.0, more)) in
    let one_layer : layers * 1 ≡ layers = omega arith in
    let some : 0 < stripe = (let all : 2 * 1 ≤ asked.k * (layers * 1) = mul-le 2 1 asked.k (layers * 1) aloof.limits.data_chunks (omega (arith, one_layer, some_layers)) in omega (arith, all)) in
    let room : 1024 ≤ 1048576 / layers = le-div 1024 1048576 layers some_layers (omega (arith, aloof.limits.layers)) in
    let bound : width ≤ 1048576 / layers = omega (arith, room, most_is, width_is) in
    let times = div_ceil_times size stripe some in
    let all : size ≤ wanted * stripe = subst (λ n. size ≤ n * stripe) (sym wanted_is) times.0 in
    let few : wanted * stripe < size + stripe = subst (λ n. n * stripe < size + stripe) (sym wanted_is) times.1 in
    record {
      some = omega (arith, width_is);
      fits = (omega (arith, most_is, width_is, room), within layers width 1048576 bound);
      enough = ⊎_elim
          (λ less. inr (λ wider fits.
          let fit : wider ≤ 1048576 / layers = le-div wider 1048576 layers some_layers (omega (arith, mul_comm wider layers, fits.1)) in
          omega (arith, fits.0, fit, less, most_is, width_is)))
          (λ more.
          let wide : wanted * stripe ≤ width * stripe = mul-le wanted stripe width stripe (omega (arith, more, width_is)) (omega arith) in
          inl (omega (arith, all, wide, stripe_of width asked.k layers)))
          (cases_lt most wanted);
      least = λ narrower h less.
          let next : (narrower + 1) * stripe ≤ wanted * stripe = mul-le (narrower + 1) stripe wanted stripe (omega (arith, h, less, width_is)) (omega arith) in
          let split : (narrower + 1) * stripe ≡ narrower * stripe + stripe = omega arith in
          omega (arith, next, split, few, stripe_of narrower asked.k layers);
    }

-- no limit refuses it
pub no_fault : (asked : CodeAsked) (size width : ℕ) (fault : BadAloof) → IsAloof (code_with asked 1) → IsForFile asked size width → IsFirstFault (code_with asked width) fault → ⊥
no_fault asked size width DataCount aloof for_file h = omega (arith, h, aloof.limits.data_chunks)
no_fault asked size width ParityCount aloof for_file h =
    ⊎_elim (λ (few : asked.m < 2). omega (arith, few, aloof.limits.parity_chunks.0)) (λ (many : 8 < asked.m). omega (arith, many, aloof.limits.parity_chunks.1)) h.1
no_fault asked size width Helpers aloof for_file h = ⊎_elim (λ few. omega (arith, few, aloof.limits.helpers.0)) (λ many. omega (arith, many, aloof.limits.helpers.1)) h.3
no_fault asked size width Layers aloof for_file h = omega (arith, h.1, aloof.limits.layers)
no_fault asked size width Width aloof for_file h = ⊎_elim (λ (none : width < 1). omega (arith, none, for_file.some)) (λ (many : 65536 < width). omega (arith, many, for_file.fits.0)) h.2
no_fault asked size width ChunkSize aloof for_file h = omega (arith, h.4, for_file.fits.1)
