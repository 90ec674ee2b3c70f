-- What a view shows of a chunk, and the parts of a repair as a view of them.
use Rattle.std.proofs.Common.{◌≡◌, ℕ, ◌<◌, false, List, map, length, get_or, Option, Some, None, is_none, IfSome, MatchOption, Vec, Global, refl, sym, ap, subst, ◌∙◌}
use Rattle.std.specs.Option.{option_map}
use Rattle.std.proofs.lemmas.List.{length-map}
use Rattle.std.proofs.lemmas.List as lists
use Rattle.std.proofs.Math.ListN.{get_or-map}
use Rattle.clay_grid.specs.Shape.{Shape}
use Rattle.clay_model.specs.Left.{parts}
use Rattle.clay_model.specs.RepairParts.{AreParts, IsRebuilt, part_length}
use Rattle.lane_repair.specs.Views.{ArePieces, IsRebuiltFrom}

abbrev pub items : Option (Vec ℕ Global) → Option (List ℕ)
items o = option_map (λ (v : Vec ℕ Global). v.items) o

none_items : (o : Option (Vec ℕ Global)) → is_none o ≡ false → is_none (items o) ≡ false
none_items None h = h
none_items (Some v) h = refl

long_items : (n : ℕ) (o : Option (Vec ℕ Global)) → IfSome o (λ v. length v.items ≡ n) → IfSome (items o) (λ p. length p ≡ n)
long_items n None h = tt
long_items n (Some v) h = h

-- what is read of an entry is what the entries show
pub shown : {X R : Type 0} (f : Option X → Option (List ℕ)) (entries : List (Option X)) (c : ℕ) (result : Option R) (now : R → List ℕ) → f None ≡ None
    → MatchOption result (get_or entries c None ≡ None) (λ p. f (get_or entries c None) ≡ Some (now p))
    → MatchOption result (get_or (map f entries) c None ≡ None) (λ p. get_or (map f entries) c None ≡ Some (now p))
shown f entries c None now none read = ap (λ d. get_or (map f entries) c d) (sym none) ∙ get_or-map f entries c None ∙ ap f read ∙ none
shown f entries c (Some r) now none read = ap (λ d. get_or (map f entries) c d) (sym none) ∙ get_or-map f entries c None ∙ read

-- parts that are vectors are parts
pub are_pieces : (g : Shape) (lost : ℕ) (have : List (Option (Vec ℕ Global))) → AreParts g lost have → ArePieces g lost (parts have)
are_pieces g lost have are = record {
  chunk = are.chunk;
  count = length-map have items ∙ are.count;
  others = λ c below other. ap is_none (get_or-map items have c None) ∙ none_items (get_or have c None) (are.others c below other);
  lengths = λ c d h.
      let inside : c < length have = subst (λ n. c < n) (length-map have items) h in
      subst (λ o. IfSome o (λ p. length p ≡ part_length g)) (sym (lists.get_or-map items have c None d inside))
      (long_items (part_length g) (get_or have c None) (are.lengths c None inside));
}

-- and what is rebuilt from them is the lost chunk
pub is_rebuilt : (g : Shape) (lost : ℕ) (have : List (Option (Vec ℕ Global))) (chunk : List ℕ) → IsRebuiltFrom g lost (parts have) chunk → IsRebuilt g lost have chunk
is_rebuilt g lost have chunk is = record {
  len = is.len;
  value = λ word fits. is.value word (record { codeword = fits.codeword; agrees = fits.agrees });
}
