-- Positions that some range has.
use Rattle.std.proofs.Common.{◌≡◌, ℕ, ◌+◌, ◌<◌, ◌≤◌, List, [], ◌∷◌, ◌++◌, length, get_or, refl, sym, subst, ap, ◌∙◌, arith}
use Rattle.std.proofs.lemmas.List.{length_push, get_or_push, get_or_append_left, get_or_default}
use Rattle.clay_par.specs.Ranges.{SamePlace, IsCovered}
use Rattle.clay_par.specs.declared.ranges.Range.{Range}

-- what is covered stays so with a range more
pub covered_more : (ranges : List Range) (new : Range) (b : ℕ) → IsCovered ranges b → IsCovered (ranges ++ new ∷ []) b
covered_more ranges new b h =
    let longer = length_push ranges new in
    record {
      index = h.index;
      range = h.range;
      there = omega (arith, longer, h.there);
      is = λ d. get_or_append_left ranges (new ∷ []) d h.index h.there ∙ h.is d;
      low = h.low;
      high = h.high;
    }

-- the new range covers its positions
pub covered_last : (ranges : List Range) (new : Range) (b : ℕ) → new.at ≤ b → b < new.at + length new.values.items → IsCovered (ranges ++ new ∷ []) b
covered_last ranges new b low high =
    let longer = length_push ranges new in
    record {
      index = length ranges;
      range = new;
      there = omega (arith, longer);
      is = λ d. get_or_push ranges new d (length ranges) refl;
      low = low;
      high = high;
    }

-- ranges of the same positions
pub covered_same : (before after : List Range) (b : ℕ) → length after ≡ length before → ((i : ℕ) (d : Range) → i < length before → SamePlace (get_or before i d) (get_or after i d)) → IsCovered before b → IsCovered after b
covered_same before after b long same h =
    let there : h.index < length after = subst (λ n. h.index < n) (sym long) h.there in
    let place = same h.index h.range h.there in
    let was : get_or before h.index h.range ≡ h.range = h.is h.range in
    let at_is : (get_or after h.index h.range).at ≡ h.range.at = place.0 ∙ ap (λ (r : Range). r.at) was in
    let len_is : length (get_or after h.index h.range).values.items ≡ length h.range.values.items = place.1 ∙ ap (λ (r : Range). length r.values.items) was in
    let low = h.low in
    let high = h.high in
    record {
      index = h.index;
      range = get_or after h.index h.range;
      there = there;
      is = λ d. get_or_default after h.index d h.range there;
      low = omega (arith, at_is, low);
      high = omega (arith, at_is, len_is, high);
    }
