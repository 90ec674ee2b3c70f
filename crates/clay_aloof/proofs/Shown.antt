-- Parts that are vectors, as a view shows them.
use Rattle.std.proofs.Common.{◌≡◌, ℕ, ◌^◌, ◌<◌, List, length, get_or, Option, Some, None, is_none, is_some, IfSome, Vec, Global, refl, sym, ap, subst, ◌∙◌}
use Rattle.std.specs.Option.{option_map}
use Rattle.std.proofs.lemmas.List.{length-map}
use Rattle.std.proofs.lemmas.List as lists
use Rattle.std.proofs.Math.ListN.{get_or-map}
use Rattle.clay_grid.proofs.Counting.{count_below_same}
use Rattle.clay_model.specs.Left.{parts}
use Rattle.clay_aloof.specs.Shape.{AloofShape, all_chunks}
use Rattle.clay_aloof.specs.Repair.{part_bytes, HelpersFit, AreParts, IsRebuilt}
use Rattle.clay_aloof.specs.Coded.{AreBytes}
use Rattle.clay_aloof.specs.Pieces.{PiecesFit, ArePieces, HaveBytes, IsRebuiltFrom}

abbrev items : Option (Vec ℕ Global) → Option (List ℕ)
items o = option_map (λ (v : Vec ℕ Global). v.items) o

none_items : (o : Option (Vec ℕ Global)) → is_none (items o) ≡ is_none o
none_items None = refl
none_items (Some v) = refl

some_items : (o : Option (Vec ℕ Global)) → is_some (items o) ≡ is_some o
some_items None = refl
some_items (Some v) = refl

long_items : (n : ℕ) (o : Option (Vec ℕ Global)) → IfSome o (λ v. length v.items ≡ n) → IfSome (items o) (λ p. length p ≡ n)
long_items n None h = tt
long_items n (Some v) h = h

byte_items : (o : Option (Vec ℕ Global)) → ((v : Vec ℕ Global) → o ≡ Some v → (i : ℕ) → get_or v.items i 0 < 2 ^ 8) → (piece : List ℕ) → items o ≡ Some piece → (i : ℕ) → get_or piece i 0 < 2 ^ 8
byte_items None each piece is i = absurd (let none : None ≡ Some piece = is in cc)
byte_items (Some v) each piece is i = let same : v.items ≡ piece = cc in subst (λ l. get_or l i 0 < 2 ^ 8) same (each v refl i)

helpers_shown : (a : AloofShape) (lost : ℕ) (have : List (Option (Vec ℕ Global))) → HelpersFit a lost have → PiecesFit a lost (parts have)
helpers_shown a lost have fit = record {
  count = length-map have items ∙ fit.count;
  none = get_or-map items have lost None ∙ ap items fit.none;
  helpers =
      count_below_same (all_chunks a) (λ c. is_some (get_or (parts have) c None)) (λ c. is_some (get_or have c None)) (λ c h. ap is_some (get_or-map items have c None) ∙ some_items (get_or have c None))
      ∙ fit.helpers;
  column = λ c below other same. ap is_none (get_or-map items have c None) ∙ none_items (get_or have c None) ∙ fit.column c below other same;
}

pub shown_parts : (a : AloofShape) (lost : ℕ) (have : List (Option (Vec ℕ Global))) → AreParts a lost have → ArePieces a lost (parts have)
shown_parts a lost have are = record {
  chunk = are.chunk;
  fit = helpers_shown a lost have are.fit;
  lengths = λ c d h.
      let inside : c < length have = subst (λ n. c < n) (length-map have items) h in
      subst (λ o. IfSome o (λ p. length p ≡ part_bytes a)) (sym (lists.get_or-map items have c None d inside)) (long_items (part_bytes a) (get_or have c None) (are.lengths c None inside));
}

pub shown_bytes : (have : List (Option (Vec ℕ Global))) → AreBytes have → HaveBytes (parts have)
shown_bytes have are c piece there i = byte_items (get_or have c None) (are c) piece (sym (get_or-map items have c None) ∙ there) i

-- what is rebuilt from what they show is the lost chunk
pub is_rebuilt : (a : AloofShape) (lost : ℕ) (have : List (Option (Vec ℕ Global))) (chunk : List ℕ) → IsRebuiltFrom a lost (parts have) chunk → IsRebuilt a lost have chunk
is_rebuilt a lost have chunk is = record {
  word = is.word;
  has_parts = record { codeword = is.has_parts.codeword; agrees = is.has_parts.agrees };
  value = is.value;
  only = λ other fits. is.only other (record { codeword = fits.codeword; agrees = fits.agrees });
}
