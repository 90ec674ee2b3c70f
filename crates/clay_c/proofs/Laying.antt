-- Chunks that stand one behind another.
use Rattle.std.proofs.Common.{◌≡◌, ℕ, ◌+◌, ◌-◌, ◌*◌, ◌<◌, ◌≤◌, List, [], ◌++◌, length, get_or, drop, slice_range, sym, subst, ap, ◌∙◌, arith}
use Rattle.std.proofs.Math.Seq.{drop-append_seam}
use Rattle.std.proofs.lemmas.List.Edits.{get_or-between}
use Rattle.std.proofs.lemmas.List.FromFn.{get_or-map-range_with_len, length-map-range_with_len}
use Rattle.code_laws.proofs.Pieces.{piece_fits}
use Rattle.clay_parity.specs.Flat.{chunks_in}
use Rattle.clay_c.specs.Pieces.{AreLaid}

-- chunks that are cut from bytes stand there one behind another
pub laid_in : (count len : ℕ) (bytes : List ℕ) → length bytes ≡ count * len → AreLaid len (chunks_in count len bytes) bytes
laid_in count len bytes long =
    let piece : ℕ → List ℕ = λ c. slice_range bytes (c * len) (c * len + len) in
    record {
      at = λ c b hc hb.
          let below : c < count = omega (arith, hc, length-map-range_with_len piece 0 count) in
          let fits = piece_fits c count len below in
          sym (ap (λ l. get_or l b 0) (get_or-map-range_with_len piece 0 count c c [] below (omega arith))
          ∙ get_or-between bytes (c * len) (c * len + len) b 0 (omega arith));
    }

-- the chunks of a stripe and of its parity chunks without those of the stripe
pub parity_laid : (k m len : ℕ) (stripe parity : List ℕ) → length parity ≡ m * len → AreLaid len (drop k (chunks_in k len stripe ++ chunks_in m len parity)) parity
parity_laid k m len stripe parity long =
    let front : List (List ℕ) = chunks_in k len stripe in
    let count : length front ≡ k = length-map-range_with_len (λ c. slice_range stripe (c * len) (c * len + len)) 0 k in
    subst (λ l. AreLaid len l parity)
    (sym (ap (λ n. drop n (front ++ chunks_in m len parity)) (sym count) ∙ drop-append_seam front (chunks_in m len parity)))
    (laid_in m len parity long)
