-- The parts of a stripe, gathered share by share.
use Rattle.std.proofs.Common.{◌≡◌, ℕ, ◌+◌, ◌<◌, Bool, true, false, List, [], ◌∷◌, ◌++◌, length, get_or, Option, Some, None, is_none, Vec, Global, refl, sym, subst, ◌∙◌, ap, arith, inl, inr, below_more}
use Rattle.std.specs.Prelude.{is_some, IfSome}
use Rattle.std.specs.Option.{option_map}
use Rattle.std.proofs.lemmas.Bool.{cases_lt, true≢false}
use Rattle.std.proofs.lemmas.List as lists
use Rattle.std.proofs.lemmas.List.{length_push, get_or_push, get_or_append_left, get_or_past, length-map}
use Rattle.std.proofs.lemmas.List.Elements.{All-push}
use Rattle.clay_grid.proofs.Counting.{count_below_same}
use Rattle.clay_model.specs.Left.{parts}
use Rattle.clay_model.specs.RepairParts.{subchunks_at}
use Rattle.clay_aloof.specs.Shape.{AloofShape, all_chunks}
use Rattle.clay_aloof.specs.Code.{IsCodeword}
use Rattle.clay_aloof.specs.Repair.{aloof_layers_of, part_bytes, HasParts, IsRebuilt}
use Rattle.clay_aloof.specs.Repair.{AreParts as AreHelpersParts}
use Rattle.share_files.specs.Seen.{Seen, Show}
use Rattle.share_mends.specs.Parts.{piece_in, IsGoodPiece}
use Rattle.share_mends.specs.Asked.{helps, AreHelpers}
use Rattle.share_mends.specs.Mended.{HasGood, AreOfWord, IsMended}
use Rattle.share_mends.specs.Gathered.{HasPart, NamesPart, AreParts, ArePartsOf, NamesFirstOf}
use Rattle.share_mends.specs.declared.mend_fault.MendFault.{MendFault}
use Rattle.share_mends.specs.declared.mend_fault.MendFault.TheVariants.{Rotten, ReadFault, WriteFault, OutOfMemory}

-- ---- one part more

pub parts_none : (a : AloofShape) (marks : List Bool) → AreParts a marks 0 []
parts_none a marks = record { long = refl; there = λ c less. absurd (omega (arith, less)); lengths = λ k d less. absurd (omega (arith, less)) }

pub parts_more : (a : AloofShape) (marks : List Bool) (i : ℕ) (have : List (Option (Vec ℕ Global))) (part : Option (Vec ℕ Global)) → AreParts a marks i have
    → is_some part ≡ helps marks i → IfSome part (λ v. length v.items ≡ part_bytes a) → AreParts a marks (i + 1) (have ++ part ∷ [])
parts_more a marks i have part so help long = record {
  long = length_push have part ∙ ap (λ n. n + 1) so.long;
  there =
      below_more (λ c. is_some (get_or (have ++ part ∷ []) c None) ≡ helps marks c) i
      (λ c less.
      let within : c < length have = omega (arith, so.long, less) in
      ap is_some (get_or_append_left have (part ∷ []) None c within) ∙ so.there c less)
      (ap is_some (get_or_push have part None i so.long) ∙ help);
  lengths = All-push (λ o. IfSome o (λ v. length v.items ≡ part_bytes a)) have part so.lengths long;
}

pub of_more : (a : AloofShape) (lost : ℕ) (files : List (List ℕ)) (stripe i : ℕ) (have : List (Option (Vec ℕ Global))) (part : Option (Vec ℕ Global)) → length have ≡ i
    → ArePartsOf a lost files stripe i have → HasPart a lost (piece_in a lost stripe (get_or files i [])) part → ArePartsOf a lost files stripe (i + 1) (have ++ part ∷ [])
of_more a lost files stripe i have part long so one =
    below_more (λ c. HasPart a lost (piece_in a lost stripe (get_or files c [])) (get_or (have ++ part ∷ []) c None)) i
    (λ c less.
    let within : c < length have = omega (arith, long, less) in
    subst (λ o. HasPart a lost (piece_in a lost stripe (get_or files c [])) o) (sym (get_or_append_left have (part ∷ []) None c within)) (so c less))
    (subst (λ o. HasPart a lost (piece_in a lost stripe (get_or files i [])) o) (sym (get_or_push have part None i long)) one)

some_good : (a : AloofShape) (lost : ℕ) (piece : List ℕ) (o : Option (Vec ℕ Global)) → is_some o ≡ true → HasPart a lost piece o → IsGoodPiece a lost piece
some_good a lost piece None is has = absurd (true≢false (sym is))
some_good a lost piece (Some v) is has = has.1

pub good_of : (a : AloofShape) (lost : ℕ) (marks : List Bool) (files : List (List ℕ)) (stripe count : ℕ) (have : List (Option (Vec ℕ Global))) → AreParts a marks count have
    → ArePartsOf a lost files stripe count have → (c : ℕ) → c < count → helps marks c ≡ true → HasGood a lost files stripe c
good_of a lost marks files stripe count have so of c less help =
    some_good a lost (piece_in a lost stripe (get_or files c [])) (get_or have c None) (so.there c less ∙ help) (of c less)

-- a rotten part is the first where those of the shares before are good
pub names_first : (a : AloofShape) (lost : ℕ) (marks : List Bool) (files : List (List ℕ)) (stripe share : ℕ) (fault : MendFault)
    → NamesPart a lost (helps marks share) share stripe (piece_in a lost stripe (get_or files share [])) fault
    → ((c : ℕ) → c < share → helps marks c ≡ true → HasGood a lost files stripe c) → NamesFirstOf a lost marks files stripe fault
names_first a lost marks files stripe share (Rotten part) names before =
    let same : share ≡ part.share = sym names.1 in (
      names.2,
      subst (λ s. helps marks s ≡ true) same names.0,
      subst (λ s. ¬ HasGood a lost files stripe s) same names.3,
      subst (λ s. (c : ℕ) → c < s → helps marks c ≡ true → HasGood a lost files stripe c) same before,
    )
names_first a lost marks files stripe share ReadFault names before = tt
names_first a lost marks files stripe share WriteFault names before = tt
names_first a lost marks files stripe share OutOfMemory names before = tt

-- ---- the parts of helpers

none_is : (o : Option (Vec ℕ Global)) → is_some o ≡ false → o ≡ None
none_is None is = refl
none_is (Some v) is = absurd (true≢false is)

not_none : (o : Option (Vec ℕ Global)) → is_some o ≡ true → is_none o ≡ false
not_none None is = absurd (true≢false (sym is))
not_none (Some v) is = refl

pub helpers_parts : (a : AloofShape) (lost : ℕ) (marks : List Bool) (have : List (Option (Vec ℕ Global))) → lost < all_chunks a → AreHelpers a lost marks
    → AreParts a marks (all_chunks a) have → AreHelpersParts a lost have
helpers_parts a lost marks have within helpers so = record {
  chunk = within;
  fit = record {
    count = so.long;
    none = none_is (get_or have lost None) (so.there lost within ∙ helpers.none);
    helpers = count_below_same (all_chunks a) (λ c. is_some (get_or have c None)) (helps marks) so.there ∙ helpers.helpers;
    column = λ c less other same. not_none (get_or have c None) (so.there c less ∙ helpers.column c less other same);
  };
  lengths = so.lengths;
}

module _ (a : AloofShape) (lost : ℕ) (marks : List Bool) (files : List (List ℕ)) (stripe : ℕ) (word : List (List ℕ)) (of_word : AreOfWord a lost marks files stripe word) where
  part_at : (c : ℕ) (chunk : List ℕ) (o : Option (Vec ℕ Global)) → c < all_chunks a → is_some o ≡ helps marks c → HasPart a lost (piece_in a lost stripe (get_or files c [])) o
      → option_map (λ v. v.items) o ≡ Some chunk → subchunks_at a.width (get_or word c []) (aloof_layers_of a lost) ≡ chunk
  part_at c chunk None less help has is = absurd (cc)
  part_at c chunk (Some v) less help has is =
      let same : v.items ≡ chunk = cc in
      sym (of_word c less (sym help) has.1) ∙ sym has.0 ∙ same

  -- a codeword with these parts
  pub word_has : (have : List (Option (Vec ℕ Global))) → IsCodeword a word → AreParts a marks (all_chunks a) have → ArePartsOf a lost files stripe (all_chunks a) have → HasParts a lost have word
  word_has have codeword so of = record {
    codeword = codeword;
    agrees = λ c chunk is.
        elim (cases_lt c (length have)) [
          | inl less ↦
              let within : c < all_chunks a = omega (arith, so.long, less) in
              let found : option_map (λ v. v.items) (get_or have c None) ≡ Some chunk = sym (lists.get_or-map (option_map (λ (v : Vec ℕ Global). v.items)) have c None None less) ∙ is in
              lists.get_or-map (λ ch. subchunks_at a.width ch (aloof_layers_of a lost)) word c [] [] (omega (arith, codeword.count, within))
              ∙ part_at c chunk (get_or have c None) within (so.there c within) (of c within) found
          | inr more ↦
              let long : length (parts have) ≡ length have = length-map have (option_map (λ (v : Vec ℕ Global). v.items)) in
              let past : get_or (parts have) c None ≡ None = get_or_past (parts have) c None (omega (arith, long, more)) in
              absurd (cc)
        ];
  }

pub is_mended : (a : AloofShape) (lost : ℕ) (marks : List Bool) (sources : List Seen) (stripe : ℕ) (have : List (Option (Vec ℕ Global))) (chunk : List ℕ) → lost < all_chunks a
    → AreParts a marks (all_chunks a) have → ((files : List (List ℕ)) → Show sources files → ArePartsOf a lost files stripe (all_chunks a) have) → IsRebuilt a lost have chunk
    → IsMended a lost marks sources stripe chunk
is_mended a lost marks sources stripe have chunk within so of rebuilt = record {
  long = ap (λ l. length l) rebuilt.value ∙ rebuilt.has_parts.codeword.lengths lost within;
  only = λ files word shows codeword of_word. rebuilt.only word (word_has a lost marks files stripe word of_word have codeword so (of files shows));
}
