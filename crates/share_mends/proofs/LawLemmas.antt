-- The places of the ranges that the format lists.
use Rattle.std.proofs.Common.{◌≡◌, ℕ, suc, ◌+◌, ◌*◌, ◌<◌, Bool, true, false, nat_eq, List, [], ◌∷◌, ◌++◌, length, refl, ap, ◌∙◌, arith, append_assoc, length-append}
use Rattle.std.specs.Prelude.{if◌then◌else◌}
use Rattle.std.specs.List.{flat_map, range_with_len}
use Rattle.std.proofs.lemmas.Bool.{eqb-true}
use Rattle.std.proofs.lemmas.List.Concat.{flat_map-append}
use Rattle.std.proofs.lemmas.List.FromFn.{length-range_with_len}
use Rattle.clay_aloof.specs.Shape.{AloofShape, all_chunks}
use Rattle.clay_aloof.specs.Limits.{IsAloof}
use Rattle.clay_aloof.specs.Repair.{part_bytes}
use Rattle.share_format.specs.Blocks.{page_of, rounded, chunk_start}
use Rattle.share_format.specs.Cut.{stripe_count}
use Rattle.share_format.specs.Mend.{Range, range_of, before, joined, block_ranges, mend_ranges}
use Rattle.share_mends.specs.Places.{places_in}
use Rattle.share_mends.proofs.SpanLemmas.{rows_joined}
use Rattle.share_mends.proofs.ReadLemmas.{length_ranges}

touching : (touch : Bool) (range next : Range) (rest : List Range) → (touch ≡ true → range.start + range.size ≡ next.start)
    → places_in (if touch then range_of range.start (range.size + next.size) ∷ rest else range ∷ next ∷ rest) ≡ places_in (range ∷ next ∷ rest)
touching true range next rest ends =
    ap (λ l. l ++ places_in rest) (rows_joined range.start range.size next.size ∙ ap (λ p. range_with_len range.start range.size ++ range_with_len p next.size) (ends refl))
    ∙ append_assoc (range_with_len range.start range.size) (range_with_len next.start next.size) (places_in rest)
touching false range next rest ends = refl

before_same : (range : Range) (ranges : List Range) → places_in (before range ranges) ≡ places_in (range ∷ ranges)
before_same range [] = refl
before_same range (next ∷ rest) =
    touching (nat_eq (range.start + range.size) next.start) range next rest (λ e. eqb-true (range.start + range.size) next.start e)

joined_same : (ranges : List Range) → places_in (joined ranges) ≡ places_in ranges
joined_same [] = refl
joined_same (range ∷ ranges) = before_same range (joined ranges) ∙ ap (λ l. range_with_len range.start range.size ++ l) (joined_same ranges)

pub places_of_mend : (a : AloofShape) (lost size : ℕ) → places_in (mend_ranges a lost size)
    ≡ range_with_len 0 (rounded (page_of a) 64) ++ places_in (flat_map (block_ranges a lost) (range_with_len 0 (stripe_count a size)))
places_of_mend a lost size = joined_same (range_of 0 (rounded (page_of a) 64) ∷ flat_map (block_ranges a lost) (range_with_len 0 (stripe_count a size)))

one_more : (n unit one rest : ℕ) → one ≡ unit → rest ≡ n * unit → one + rest ≡ suc n * unit
one_more n unit one rest first others = omega (arith, first, others)

count_of : (a : AloofShape) (lost : ℕ) (stripes : List ℕ) → IsAloof a → lost < all_chunks a
    → length (places_in (flat_map (block_ranges a lost) stripes)) ≡ length stripes * (chunk_start a + part_bytes a)
count_of a lost [] aloof within = omega arith
count_of a lost (i ∷ stripes) aloof within =
    ap (λ l. length l) (flat_map-append (λ (range : Range). range_with_len range.start range.size) (block_ranges a lost i) (flat_map (block_ranges a lost) stripes))
    ∙ length-append (places_in (block_ranges a lost i)) (places_in (flat_map (block_ranges a lost) stripes))
    ∙ one_more (length stripes) (chunk_start a + part_bytes a) _ _ (length_ranges a lost i aloof within) (count_of a lost stripes aloof within)

pub count_of_mend : (a : AloofShape) (lost count : ℕ) → IsAloof a → lost < all_chunks a
    → length (places_in (flat_map (block_ranges a lost) (range_with_len 0 count))) ≡ count * (chunk_start a + part_bytes a)
count_of_mend a lost count aloof within =
    count_of a lost (range_with_len 0 count) aloof within ∙ ap (λ n. n * (chunk_start a + part_bytes a)) (length-range_with_len 0 count)
