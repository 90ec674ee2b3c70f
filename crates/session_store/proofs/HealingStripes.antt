-- The chunks that a heal makes anew are those that the session heals.
use Rattle.std.proofs.Common.{◌≡◌, ℕ, zero, suc, ◌+◌, ◌-◌, ◌<◌, ◌≤◌, Bool, true, false, not, cond, ◌&&◌, nat_eq, nat_le, nat_lt, List, [], ◌∷◌, ◌++◌, length, get_or, map, filter, flat_map, bytes_eq, Some, unwrap_or, refl, sym, ap, subst, ◌∙◌, arith}
use Rattle.std.specs.List.{AllByRecursion, IsDistinct, enumerate_from}
use Rattle.std.proofs.lemmas.Bool.{eq-eqb, ne_eqb, leb-true, leb-false, le-ltb, lt-ltb}
use Rattle.std.proofs.lemmas.Cmp.{nat_list_eq_equiv}
use Rattle.std.proofs.lemmas.Option.{none-some, same_Some}
use Rattle.clay_grid.specs.Shape.{Shape}
use Rattle.store_map.specs.Laws.{names_of}
use Rattle.store_map.specs.PlainMap.{bytes_of}
use Rattle.session_rules.specs.State.{State}
use Rattle.session_rules.specs.Gathered.{lacking, is_beyond_repair}
use Rattle.session_rules.specs.Heals.{servers, lost_chunks, number_of, to_heal}
use Rattle.session_rules.specs.declared.session_answer.LostChunk.{LostChunk}
use Rattle.session_rules.proofs.LostChunks.{IsLost, lost_all}
use Rattle.session_rules.proofs.Pairs.{every_weaker}
use Rattle.run_laws.proofs.SoundHistory.{same_name}
use Rattle.session_store.specs.LostStripes.{is_beside, beside, healable}

-- ---- how many of a list pass a test
module _ {X : Type 0} (P : X → Bool) where
  abbrev pub count : List X → ℕ
  count xs = length (filter P xs)

  pub count_append : (xs ys : List X) → count (xs ++ ys) ≡ count xs + count ys
  count_append [] ys = omega arith
  count_append (x ∷ xs) ys = by (P x) (count_append xs ys)
    where
      by : (b : Bool) → count (xs ++ ys) ≡ count xs + count ys → length (cond b (x ∷ filter P (xs ++ ys)) (filter P (xs ++ ys))) ≡ length (cond b (x ∷ filter P xs) (filter P xs)) + count ys
      by true rest = omega (arith, rest)
      by false rest = rest

module _ (g : Shape) (s : State) (chunk : LostChunk) where
  abbrev pub of_stripe : List ℕ → ℕ × ℕ → List LostChunk
  of_stripe name numbered = map (λ server. record { name = name; stripe = numbered.0; server = server }) (lacking (get_or s.stripes numbered.1 []) (servers g))

  abbrev counted : List LostChunk → ℕ
  counted = count (is_beside chunk)

  -- a stripe's are all of them, or none
  stripe_by : (name : List ℕ) (stripe : ℕ) (b : Bool) → (nat_eq stripe chunk.stripe && bytes_eq name chunk.name) ≡ b → (xs : List ℕ) →
      counted (map (λ server. record { name = name; stripe = stripe; server = server }) xs) ≡ cond b (length xs) 0
  stripe_by name stripe true is [] = refl
  stripe_by name stripe false is [] = refl
  stripe_by name stripe true is (x ∷ xs) =
      ap (λ b. length (cond b (record { name = name; stripe = stripe; server = x } ∷ filter (is_beside chunk) (map (λ server. record { name = name; stripe = stripe; server = server }) xs)) (filter (is_beside chunk) (map (λ server. record { name = name; stripe = stripe; server = server }) xs)))) is
      ∙ ap suc (stripe_by name stripe true is xs)
  stripe_by name stripe false is (x ∷ xs) =
      ap (λ b. length (cond b (record { name = name; stripe = stripe; server = x } ∷ filter (is_beside chunk) (map (λ server. record { name = name; stripe = stripe; server = server }) xs)) (filter (is_beside chunk) (map (λ server. record { name = name; stripe = stripe; server = server }) xs)))) is
      ∙ stripe_by name stripe false is xs

  abbrev is_here : List ℕ → ℕ → Bool
  is_here name stripe = nat_eq stripe chunk.stripe && bytes_eq name chunk.name

  no_and : (a b : Bool) → b ≡ false → (a && b) ≡ false
  no_and true b e = e
  no_and false b e = refl

  -- ---- an object's by their stripes
  -- of another object
  others_none : (name : List ℕ) → bytes_eq name chunk.name ≡ false → (entries : List (ℕ × ℕ)) → counted (flat_map (of_stripe name) entries) ≡ 0
  others_none name other [] = refl
  others_none name other (entry ∷ entries) =
      let here : counted (of_stripe name entry) ≡ 0 = stripe_by name entry.0 false (no_and (nat_eq entry.0 chunk.stripe) (bytes_eq name chunk.name) other) (lacking (get_or s.stripes entry.1 []) (servers g)) in
      let rest : counted (flat_map (of_stripe name) entries) ≡ 0 = others_none name other entries in
      let both : counted (of_stripe name entry ++ flat_map (of_stripe name) entries) ≡ counted (of_stripe name entry) + counted (flat_map (of_stripe name) entries) = count_append (is_beside chunk) (of_stripe name entry) (flat_map (of_stripe name) entries) in
      both ∙ (λ i. here i + rest i)

  not_here : (name : List ℕ) (stripe : ℕ) → (stripe ≡ chunk.stripe → ⊥) → is_here name stripe ≡ false
  not_here name stripe other = ap (λ b. b && bytes_eq name chunk.name) (ne_eqb stripe chunk.stripe other)

  pub later_none : (name : List ℕ) (numbers : List ℕ) (k : ℕ) → chunk.stripe < k → counted (flat_map (of_stripe name) (enumerate_from k numbers)) ≡ 0
  later_none name [] k later = refl
  later_none name (n ∷ numbers) k later =
      let here : counted (of_stripe name (k, n)) ≡ 0 = stripe_by name k false (not_here name k (λ same. omega (arith, same, later))) (lacking (get_or s.stripes n []) (servers g)) in
      let rest : counted (flat_map (of_stripe name) (enumerate_from (k + 1) numbers)) ≡ 0 = later_none name numbers (k + 1) (omega (arith, later)) in
      count_append (is_beside chunk) (of_stripe name (k, n)) (flat_map (of_stripe name) (enumerate_from (k + 1) numbers)) ∙ (λ i. here i + rest i)

  abbrev lacked : ℕ → ℕ
  lacked number = length (lacking (get_or s.stripes number []) (servers g))

  its_own : (name : List ℕ) → bytes_eq name chunk.name ≡ true → (numbers : List ℕ) (k i : ℕ) → chunk.stripe ≡ k + i → i < length numbers → counted (flat_map (of_stripe name) (enumerate_from k numbers)) ≡ lacked (get_or numbers i 0)
  its_own name same [] k i at less = absurd (omega (arith, less))
  its_own name same (n ∷ numbers) k zero at less =
      let is : is_here name k ≡ true = (λ j. eq-eqb k chunk.stripe (omega (arith, at)) j && same j) in
      let here : counted (of_stripe name (k, n)) ≡ lacked n = stripe_by name k true is (lacking (get_or s.stripes n []) (servers g)) in
      let rest : counted (flat_map (of_stripe name) (enumerate_from (k + 1) numbers)) ≡ 0 = later_none name numbers (k + 1) (omega (arith, at)) in
      let all : lacked n + 0 ≡ lacked n = omega arith in
      count_append (is_beside chunk) (of_stripe name (k, n)) (flat_map (of_stripe name) (enumerate_from (k + 1) numbers)) ∙ (λ i. here i + rest i) ∙ all
  its_own name same (n ∷ numbers) k (suc i) at less =
      let here : counted (of_stripe name (k, n)) ≡ 0 = stripe_by name k false (not_here name k (λ it. omega (arith, it, at))) (lacking (get_or s.stripes n []) (servers g)) in
      let rest : counted (flat_map (of_stripe name) (enumerate_from (k + 1) numbers)) ≡ lacked (get_or numbers i 0) = its_own name same numbers (k + 1) i (omega (arith, at)) (omega (arith, less)) in
      let all : 0 + lacked (get_or numbers i 0) ≡ lacked (get_or numbers i 0) = omega arith in
      count_append (is_beside chunk) (of_stripe name (k, n)) (flat_map (of_stripe name) (enumerate_from (k + 1) numbers)) ∙ (λ j. here j + rest j) ∙ all

  -- ---- all objects'
  abbrev of_object : List ℕ × List ℕ → List LostChunk
  of_object object = flat_map (of_stripe object.0) (enumerate_from 0 object.1)

  pub none_named : (objects : List (List ℕ × List ℕ)) → AllByRecursion (λ name. bytes_eq chunk.name name ≡ false) (names_of objects) → counted (flat_map of_object objects) ≡ 0
  none_named [] all = refl
  none_named (object ∷ objects) all =
      let here : counted (of_object object) ≡ 0 = others_none object.0 (nat_list_eq_equiv.symm object.0 chunk.name ∙ all.0) (enumerate_from 0 object.1) in
      let rest : counted (flat_map of_object objects) ≡ 0 = none_named objects all.1 in
      count_append (is_beside chunk) (of_object object) (flat_map of_object objects) ∙ (λ i. here i + rest i)

  pub beside_lacked : (numbers : List ℕ) (objects : List (List ℕ × List ℕ)) → IsDistinct bytes_eq (names_of objects) → bytes_of chunk.name objects ≡ Some numbers → chunk.stripe < length numbers → counted (flat_map of_object objects) ≡ lacked (get_or numbers chunk.stripe 0)
  unfolding IsDistinct
  beside_lacked numbers [] distinct found less = absurd (none-some numbers found)
  beside_lacked numbers (object ∷ objects) distinct found less = by (bytes_eq chunk.name object.0) refl found (λ is. beside_lacked numbers objects distinct.1 is less)
    where
      by : (b : Bool) → bytes_eq chunk.name object.0 ≡ b → cond b (Some object.1) (bytes_of chunk.name objects) ≡ Some numbers → (bytes_of chunk.name objects ≡ Some numbers → counted (flat_map of_object objects) ≡ lacked (get_or numbers chunk.stripe 0)) →
          counted (of_object object ++ flat_map of_object objects) ≡ lacked (get_or numbers chunk.stripe 0)
      by true is found rest =
          let its : object.1 ≡ numbers = same_Some object.1 numbers found in
          let here : counted (of_object object) ≡ lacked (get_or numbers chunk.stripe 0) =
          ap (λ l. counted (flat_map (of_stripe object.0) (enumerate_from 0 l))) its ∙ its_own object.0 (nat_list_eq_equiv.symm object.0 chunk.name ∙ is) numbers 0 chunk.stripe (omega arith) less in
          let none : counted (flat_map of_object objects) ≡ 0 =
          none_named objects (subst (λ name. AllByRecursion (λ other. bytes_eq name other ≡ false) (names_of objects)) (sym (same_name chunk.name object.0 is)) distinct.0) in
          let all : lacked (get_or numbers chunk.stripe 0) + 0 ≡ lacked (get_or numbers chunk.stripe 0) = omega arith in
          count_append (is_beside chunk) (of_object object) (flat_map of_object objects) ∙ (λ i. here i + none i) ∙ all
      by false is found rest =
          let here : counted (of_object object) ≡ 0 = others_none object.0 (nat_list_eq_equiv.symm object.0 chunk.name ∙ is) (enumerate_from 0 object.1) in
          let later : counted (flat_map of_object objects) ≡ lacked (get_or numbers chunk.stripe 0) = rest found in
          let all : 0 + lacked (get_or numbers chunk.stripe 0) ≡ lacked (get_or numbers chunk.stripe 0) = omega arith in
          count_append (is_beside chunk) (of_object object) (flat_map of_object objects) ∙ (λ i. here i + later i) ∙ all

-- ---- the tests are the same
not_more : (parity n : ℕ) → not (nat_lt parity n) ≡ nat_le n parity
not_more parity n = by (nat_le n parity) refl
  where
    by : (b : Bool) → nat_le n parity ≡ b → not (nat_lt parity n) ≡ b
    by true is = let less = leb-true n parity is in ap not (le-ltb parity n less)
    by false is = let more = leb-false n parity is in ap not (lt-ltb parity n more)

same_chosen : {X : Type 0} (P Q : X → Bool) (xs : List X) → AllByRecursion (λ x. P x ≡ Q x) xs → filter P xs ≡ filter Q xs
same_chosen P Q [] all = refl
same_chosen P Q (x ∷ xs) all = (λ i. cond (all.0 i) (x ∷ same_chosen P Q xs all.1 i) (same_chosen P Q xs all.1 i))

module _ (g : Shape) (s : State) (names : IsDistinct bytes_eq (names_of s.numbers)) where
  one_chosen : (chunk : LostChunk) → IsLost g s names chunk → not (is_beyond_repair g (get_or s.stripes (number_of g s chunk) [])) ≡ nat_le (beside (lost_chunks g s) chunk) g.parity_count
  one_chosen chunk is =
      let number : number_of g s chunk ≡ get_or is.numbers chunk.stripe 0 = ap (λ found. get_or (unwrap_or found []) chunk.stripe 0) is.of_name in
      let counts : beside (lost_chunks g s) chunk ≡ length (lacking (get_or s.stripes (get_or is.numbers chunk.stripe 0) []) (servers g)) = beside_lacked g s chunk is.numbers s.numbers names is.of_name is.within in
      ap (λ n. not (is_beyond_repair g (get_or s.stripes n []))) number ∙ not_more g.parity_count (length (lacking (get_or s.stripes (get_or is.numbers chunk.stripe 0) []) (servers g))) ∙ ap (λ n. nat_le n g.parity_count) (sym counts)

  pub heals_the_same : to_heal g s ≡ healable g.parity_count (lost_chunks g s)
  heals_the_same =
      same_chosen (λ chunk. not (is_beyond_repair g (get_or s.stripes (number_of g s chunk) []))) (λ chunk. nat_le (beside (lost_chunks g s) chunk) g.parity_count) (lost_chunks g s)
      (every_weaker (IsLost g s names) (λ chunk. not (is_beyond_repair g (get_or s.stripes (number_of g s chunk) [])) ≡ nat_le (beside (lost_chunks g s) chunk) g.parity_count) one_chosen (lost_chunks g s) (lost_all g s names))
