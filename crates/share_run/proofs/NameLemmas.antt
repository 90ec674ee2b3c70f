-- The names of shares that are listed.
use Rattle.std.proofs.Common.{◌≡◌, ◌≢◌, ◌+◌, ◌*◌, ◌/◌, ◌%◌, ◌≤◌, ◌<◌, ◌++◌, ℕ, zero, suc, List, [], ◌∷◌, length, Option, Some, None, Bool, true, false, MatchOption, decimal, slice_index_or, string_bytes, ap, sym, subst, refl, ◌∙◌, arith, set, Decides, MatchBool, ⊎_elim}
use Rattle.std.specs.Prelude.{String}
use Rattle.std.specs.Global.{Global}
use Rattle.std.specs.Vec.{with_item}
use Rattle.std.proofs.lemmas.Fmt.{decimal_digit}
use Rattle.std.proofs.lemmas.List.{length-set, get_or-set_same, get_or-set_other}
use Rattle.std.proofs.lemmas.Option.{same_Some}
use Rattle.std.proofs.lemmas.Bool.{cases_eq, true≢false}
use Rattle.share_run.specs.Names.{IsShareName, name_at, AreListed, IsOwn}
use Rattle.share_run.specs.declared.share_names.ShareNames.{ShareNames}

-- two digits are those of their number
pub two_digits_are : (ds : List ℕ) (t o : ℕ) → length ds ≡ 2 → t ≤ 9 → o ≤ 9 → slice_index_or ds 0 0 ≡ 48 + t → slice_index_or ds 1 0 ≡ 48 + o
    → ds ≡ decimal ((t * 10 + o) / 10) ++ decimal ((t * 10 + o) % 10)
two_digits_are [] t o long ht ho first second = absurd (omega (arith, long))
two_digits_are (x ∷ []) t o long ht ho first second = absurd (omega (arith, long))
two_digits_are (x ∷ y ∷ []) t o long ht ho first second =
    let tens : x ≡ 48 + (t * 10 + o) / 10 = omega (arith, first) in
    let ones : y ≡ 48 + (t * 10 + o) % 10 = omega (arith, second) in
    ap (λ z. z ∷ y ∷ []) tens ∙ ap (λ z. (48 + (t * 10 + o) / 10) ∷ z ∷ []) ones
    ∙ sym (ap (λ l. l ++ decimal ((t * 10 + o) % 10)) (decimal_digit ((t * 10 + o) / 10) (omega arith))
    ∙ ap (λ l. (48 + (t * 10 + o) / 10) ∷ l) (decimal_digit ((t * 10 + o) % 10) (omega arith)))
two_digits_are (x ∷ y ∷ z ∷ ds) t o long ht ho first second = absurd (omega (arith, long))

-- where no place holds a name, one more place without a name changes nothing
pub none_more : {A : Type 0} (xs : List (Option A)) → ((i : ℕ) → slice_index_or xs i None ≡ None) → (i : ℕ) → slice_index_or (xs ++ None ∷ []) i None ≡ None
none_more [] none zero = refl
none_more [] none (suc i) = refl
none_more (x ∷ xs) none zero = none zero
none_more (x ∷ xs) none (suc i) = none_more xs (λ j. none (suc j)) i

-- what a test decides
pub decided : (b : Bool) (P : Type 0) → Decides b P → MatchBool b P (P → ⊥)
decided true P test = test.0 refl
decided false P test = λ holds. true≢false (sym (test.1 holds))

-- once the cut is known, the shares that are listed are those of it
pub own_listed : (old new : ShareNames) (cut : List ℕ) (is : Bool) → AreListed old → IsOwn old new cut is → AreListed new
own_listed old new cut is listed own =
    let kept : (s : String Global) → old.cut ≡ Some s → new.cut ≡ Some s =
    λ s there. ap (λ n. n.cut) own.new_is ∙ ap (λ (x : String Global). Some x) (sym (subst (λ o. MatchOption o (string_bytes own.own ≡ cut) (λ before. before ≡ own.own)) there own.kept)) in
    record {
      places = ap (λ n. length n.names.items) own.new_is ∙ listed.places;
      of_one_cut = λ number name there.
          let (s, cut_is, named) = listed.of_one_cut number name (sym (ap (λ n. name_at n number) own.new_is) ∙ there) in
          (s, kept s cut_is, named);
      of_another = λ name there.
          let (s, cut_is, other, number, named, apart) = listed.of_another name (sym (ap (λ n. n.other) own.new_is) ∙ there) in
          (s, kept s cut_is, other, number, named, apart);
    }

-- the name of one more share of the cut
pub name_put : (l : ShareNames) (own : String Global) (number : ℕ) (name : String Global) → AreListed l → l.cut ≡ Some own
    → IsShareName (string_bytes name) (string_bytes own) number → AreListed record { cut = l.cut; names = with_item l.names number (Some name); other = l.other }
name_put l own number name listed cut_is named =
    let within : number < length l.names.items = omega (arith, named.0, listed.places) in
    record {
      places = length-set l.names.items number (Some name) ∙ listed.places;
      of_one_cut = λ i held there. ⊎_elim
          (λ same.
          let is : held ≡ name = same_Some held name (sym there ∙ ap (λ j. slice_index_or (set l.names.items number (Some name)) j None) same ∙ get_or-set_same l.names.items number (Some name) None within) in
          (own, cut_is, subst (λ n. IsShareName (string_bytes held) (string_bytes own) n) (sym same) (subst (λ h. IsShareName (string_bytes h) (string_bytes own) number) (sym is) named)))
          (λ apart. listed.of_one_cut i held (sym (get_or-set_other l.names.items number i (Some name) None apart) ∙ there))
          (cases_eq i number);
      of_another = listed.of_another;
    }

-- the name of a share of another cut
pub other_put : (l : ShareNames) (own : String Global) (cut : List ℕ) (number : ℕ) (name : String Global) → AreListed l → l.cut ≡ Some own
    → IsShareName (string_bytes name) cut number → cut ≢ string_bytes own → AreListed record { cut = l.cut; names = l.names; other = Some name }
other_put l own cut number name listed cut_is named apart = record {
  places = listed.places;
  of_one_cut = listed.of_one_cut;
  of_another = λ held there. (own, cut_is, cut, number, subst (λ h. IsShareName (string_bytes h) cut number) (same_Some name held there) named, apart);
}
