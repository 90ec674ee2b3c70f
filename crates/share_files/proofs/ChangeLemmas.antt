-- One file more that has changed, of those in a row.
use Rattle.std.proofs.Common.{◌≡◌, ◌≢◌, ℕ, zero, suc, ◌+◌, ◌<◌, List, [], ◌∷◌, length, get_or, map, refl, sym, subst, ◌∙◌, ap, arith, get_or-set_other, get_or-set_same, below_more}
use Rattle.std.proofs.Math.ListN.{set}
use Rattle.std.proofs.lemmas.List as lists
use Rattle.std.proofs.lemmas.List.{map-set, length-map}
use Rattle.std.specs.Prelude.{All}
use Rattle.std.proofs.lemmas.List.Elements.{All-head, All-tail}
use Rattle.clay_bytes.specs.Stream.{Rises}
use Rattle.file_bytes.specs.Places.{Placed}
use Rattle.file_bytes.specs.Laid.{laid}
use Rattle.share_files.specs.Written.{AreChanged, OneRises}

-- none has changed
pub change_none : (Change : ℕ → List ℕ → List ℕ → Type 0) (files : List (List ℕ)) → AreChanged Change 0 files files
change_none Change files = record { changed = λ c less. absurd (omega (arith, less)); others = λ c more. refl }

set_change : (Change : ℕ → List ℕ → List ℕ → Type 0) (i : ℕ) (olds news : List (List ℕ)) (after : List ℕ) → i < length news →
    Change i (get_or news i []) after → AreChanged Change i olds news → AreChanged Change (i + 1) olds (set news i after)
set_change Change i olds news after within here so = record {
  changed =
      below_more (λ c. Change c (get_or olds c []) (get_or (set news i after) c [])) i
      (λ c less.
      let other : c ≢ i = omega (arith, less) in
      let P : List ℕ → Type 0 = λ l. Change c (get_or olds c []) l in
      subst P (sym (get_or-set_other news i c after [] other)) (so.changed c less))
      (let P : List ℕ → Type 0 = λ l. Change i l after in
      let Q : List ℕ → Type 0 = λ l. Change i (get_or olds i []) l in
      subst Q (sym (get_or-set_same news i after [] within)) (subst P (so.others i (omega arith)) here));
  others = λ c more.
      let other : c ≢ i = omega (arith, more) in
      get_or-set_other news i c after [] other ∙ so.others c (omega (arith, more));
}

-- the values of which they are the files
module _ {X : Type 0} (f : X → List ℕ) (xs : List X) (i : ℕ) (old new : X) (within : i < length xs) (here : old ≡ get_or xs i old) where
  pub change_more : (Change : ℕ → List ℕ → List ℕ → Type 0) (olds : List (List ℕ)) → Change i (f old) (f new) → AreChanged Change i olds (map f xs) →
      AreChanged Change (i + 1) olds (map f (set xs i new))
  change_more Change olds change so =
      let P : List (List ℕ) → Type 0 = λ l. AreChanged Change (i + 1) olds l in
      let Q : List ℕ → Type 0 = λ l. Change i l (f new) in
      let long : length (map f xs) ≡ length xs = length-map xs f in
      subst P (sym (map-set f xs i new))
      (set_change Change i olds (map f xs) (f new) (omega (arith, long, within))
      (subst Q (ap f here ∙ sym (lists.get_or-map f xs i old [] within)) change) so)

-- and of which they are the counts
module _ {X : Type 0} (f : X → ℕ) (xs : List X) (i : ℕ) (old new : X) (within : i < length xs) (here : old ≡ get_or xs i old) where
  count_at : get_or (map f xs) i 0 ≡ f old
  count_at = lists.get_or-map f xs i old 0 within ∙ sym (ap f here)

  pub counts_stay : (olds : List ℕ) → f new ≡ f old → map f xs ≡ olds → map f (set xs i new) ≡ olds
  counts_stay olds same so =
      map-set f xs i new ∙ ap (λ n. set (map f xs) i n) (same ∙ sym count_at) ∙ set_back (map f xs) i ∙ so
    where
      set_back : (ns : List ℕ) (k : ℕ) → set ns k (get_or ns k 0) ≡ ns
      set_back [] zero = refl
      set_back [] (suc k) = refl
      set_back (n ∷ ns) zero = refl
      set_back (n ∷ ns) (suc k) = ap (λ l. n ∷ l) (set_back ns k)

  pub count_rises : (olds : List ℕ) → Rises (f old) (f new) → map f xs ≡ olds → OneRises olds (map f (set xs i new))
  count_rises olds rises so = record {
    place = i;
    rises =
        let long : length (map f xs) ≡ length xs = length-map xs f in
        let within' : i < length (map f xs) = omega (arith, long, within) in
        let P : ℕ → Type 0 = λ n. Rises n (get_or (map f (set xs i new)) i 0) in
        let Q : ℕ → Type 0 = λ n. Rises (f old) n in
        subst P (sym count_at ∙ ap (λ l. get_or l i 0) so)
        (subst Q (sym (ap (λ l. get_or l i 0) (map-set f xs i new) ∙ get_or-set_same (map f xs) i (f new) 0 within')) rises);
  }

-- nothing was put into any of them
pub none_put : {X : Type 0} (put : X → List Placed) (xs : List X) → All (λ x. put x ≡ []) xs → (c : ℕ) → get_or (map (λ x. laid (put x)) xs) c [] ≡ []
none_put put [] none c = refl
none_put put (x ∷ xs) none zero = ap laid (All-head (λ y. put y ≡ []) x xs none)
none_put put (x ∷ xs) none (suc c) = none_put put xs (All-tail (λ y. put y ≡ []) x xs none) c
