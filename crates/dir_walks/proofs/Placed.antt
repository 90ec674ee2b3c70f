-- Rows of placements.
use Rattle.std.proofs.Common.{◌≡◌, ℕ, zero, suc, ◌+◌, List, [], ◌∷◌, ◌++◌, length, replicate, refl, sym, ap, ◌∙◌, arith}
use Rattle.std.proofs.lemmas.List.{length-replicate}
use Rattle.clay_grid.specs.Shape.{Shape, chunk_count}
use Rattle.store_map.specs.declared.placement.Placement.{Placement}
use Rattle.store_map.specs.declared.placement.Placement.TheVariants as placement
use Rattle.store_core.specs.Placements.{skipped_count, IsRow}
use Rattle.dir_parts.proofs.Growing.{replicate-snoc}

none_skipped : (n epoch : ℕ) → skipped_count (replicate n (placement.At epoch)) ≡ 0
none_skipped zero epoch = refl
none_skipped (suc n) epoch = none_skipped n epoch

-- where each server took its chunk
pub full_row : (g : Shape) (row : List Placement) (n epoch : ℕ) → row ≡ replicate n (placement.At epoch) → n ≡ chunk_count g → IsRow g row
full_row g row n epoch is count =
    record {
      whole = ap length is ∙ length-replicate n (placement.At epoch) ∙ count;
      enough = (let none : skipped_count row ≡ 0 = ap skipped_count is ∙ none_skipped n epoch in omega (arith, none));
    }

-- one place more
pub one_more : (n : ℕ) (row more : List Placement) → row ≡ replicate n (placement.At 0) → more ≡ row ++ placement.At 0 ∷ [] → more ≡ replicate (n + 1) (placement.At 0)
one_more n row more is pushed = pushed ∙ ap (λ l. l ++ placement.At 0 ∷ []) is ∙ sym (replicate-snoc n (placement.At 0))
