-- Slices of which one is written, and those that have all bytes of the missing chunks.
use Rattle.std.proofs.Common.{◌≡◌, ◌≢◌, ℕ, zero, suc, subst, ◌+◌, ◌*◌, ◌/◌, ◌%◌, ◌<◌, List, [], ◌∷◌, MutBor, map, length, get_or, set, Option, refl, sym, ap, ◌∙◌, arith}
use Rattle.std.proofs.lemmas.Nat.{mod_below, div_below, div-add-mod'}
use Rattle.std.proofs.lemmas.List.{ext_get_or, get_or-set_same, get_or-set_other, length-map}
use Rattle.std.proofs.lemmas.List as lists
use Rattle.clay_grid.specs.Shape.{Shape, chunk_count, layer_count, chunk_length}
use Rattle.lane_repair.specs.Pieces.{HoldsByte}
use Rattle.clay_lanes.specs.Present.{FitsChunks}
use Rattle.clay_lanes.specs.Recovered.{missing_of}
use Rattle.clay_lanes.proofs.MissingChunks.{missing_below}
use Rattle.lane_slices.specs.Slices.{AreWritten}

-- the bytes of a slice
abbrev pub bytes_of : MutBor (List ℕ) → List ℕ
bytes_of slice = slice.now

set_bytes : (slices : List (MutBor (List ℕ))) (i : ℕ) (slice : MutBor (List ℕ)) → map bytes_of (set slices i slice) ≡ set (map bytes_of slices) i slice.now
set_bytes [] i slice = refl
set_bytes (s ∷ slices) zero slice = refl
set_bytes (s ∷ slices) (suc i) slice = ap (λ l. s.now ∷ l) (set_bytes slices i slice)

pub bytes_at : (slices : List (MutBor (List ℕ))) (i : ℕ) (d : MutBor (List ℕ)) → i < length slices → get_or (map bytes_of slices) i [] ≡ (get_or slices i d).now
bytes_at [] i d h = absurd (omega arith)
bytes_at (s ∷ slices) zero d h = refl
bytes_at (s ∷ slices) (suc i) d h = bytes_at slices i d (omega arith)

pub written_at : (slices : List (MutBor (List ℕ))) (i : ℕ) (slice : MutBor (List ℕ)) → i < length slices → get_or (map bytes_of (set slices i slice)) i [] ≡ slice.now
written_at slices i slice h =
    ap (λ l. get_or l i []) (set_bytes slices i slice) ∙ get_or-set_same (map bytes_of slices) i slice.now [] (subst (λ n. i < n) (sym (length-map slices bytes_of)) h)

pub written_other : (slices : List (MutBor (List ℕ))) (i k : ℕ) (slice : MutBor (List ℕ)) → k ≢ i → get_or (map bytes_of (set slices i slice)) k [] ≡ get_or (map bytes_of slices) k []
written_other slices i k slice other = ap (λ l. get_or l k []) (set_bytes slices i slice) ∙ get_or-set_other (map bytes_of slices) i k slice.now [] other

-- slices that have each byte of the missing chunks
pub found_slices : (g : Shape) (pieces : List (Option (List ℕ))) (slices : List (List ℕ)) → 0 < g.width → length pieces ≡ chunk_count g → length slices ≡ length (missing_of pieces)
    → ((i : ℕ) → i < length slices → length (get_or slices i []) ≡ chunk_length g)
    → ((i z b : ℕ) → i < length (missing_of pieces) → z < layer_count g → b < g.width → HoldsByte (λ word. FitsChunks g pieces word) (get_or (missing_of pieces) i 0) (get_or slices i []) (z * g.width + b))
    → AreWritten g pieces slices
found_slices g pieces slices wide all count long holds = λ word fits.
    let lost : List ℕ = missing_of pieces in
    let value : ℕ → List ℕ = λ c. get_or word c [] in
    ext_get_or [] slices (map value lost) (count ∙ sym (length-map lost value)) (λ i h.
    let there : i < length lost = subst (λ n. i < n) count h in
    let c : ℕ = get_or lost i 0 in
    let within : c < chunk_count g = subst (λ n. c < n) all (missing_below pieces i there) in
    ext_get_or 0 (get_or slices i []) (get_or word c []) (long i h ∙ sym (fits.codeword.lengths c within)) (λ p hp.
    let place : p < chunk_length g = subst (λ n. p < n) (long i h) hp in
    let split : p / g.width * g.width + p % g.width ≡ p = div-add-mod' p g.width in
    let byte : HoldsByte (λ word. FitsChunks g pieces word) c (get_or slices i []) p =
    subst (HoldsByte (λ word. FitsChunks g pieces word) c (get_or slices i [])) split (holds i (p / g.width) (p % g.width) there (div_below p g.width (layer_count g) wide place) (mod_below p g.width wide)) in
    byte.at word fits)
    ∙ sym (lists.get_or-map value lost i 0 [] there))

-- no slices where nothing is missing
pub none_written : (g : Shape) (pieces : List (Option (List ℕ))) (slices : List (List ℕ)) → length slices ≡ 0 → length (missing_of pieces) ≡ 0 → AreWritten g pieces slices
none_written g pieces slices count none = λ word fits. both_empty slices (map (λ c. get_or word c []) (missing_of pieces)) count (length-map (missing_of pieces) (λ c. get_or word c []) ∙ none)
  where
    both_empty : (xs ys : List (List ℕ)) → length xs ≡ 0 → length ys ≡ 0 → xs ≡ ys
    both_empty [] [] h k = refl
    both_empty [] (y ∷ ys) h k = absurd (omega (arith, k))
    both_empty (x ∷ xs) ys h k = absurd (omega (arith, h))
