-- The chunks that a scrub lists: each is one of an object's, its server lacks it, and none is listed twice.
use Rattle.std.proofs.Common.{◌≡◌, ℕ, ◌+◌, ◌-◌, ◌<◌, ◌≤◌, Bool, true, false, not, cond, List, [], ◌∷◌, length, get_or, map, flat_map, bytes_eq, Some, refl, sym, ap, ◌∙◌, arith}
use Rattle.std.specs.List.{AllByRecursion, IsDistinct, enumerate_from}
use Rattle.std.proofs.lemmas.Bool.{true≢false}
use Rattle.std.proofs.lemmas.Cmp.{nat_list_eq_equiv}
use Rattle.clay_grid.specs.Shape.{Shape, chunk_count}
use Rattle.store_map.specs.Laws.{names_of}
use Rattle.store_map.specs.PlainMap.{bytes_of}
use Rattle.session_rules.specs.State.{State as Session}
use Rattle.session_rules.specs.declared.session_answer.LostChunk.{LostChunk}
use Rattle.session_rules.specs.Gathered.{holds, lacking}
use Rattle.session_rules.specs.Heals.{servers, lost_chunks}
use Rattle.session_rules.proofs.Pairs.{Pairs, every_weaker, every_both, every_map, every_unmap, every_filter, every_kept, every_flat, pairs_weaker, pairs_map, pairs_filter, pairs_flat, across_by, row_less, row_apart, numbered_in, numbered_apart, names_apart, same_bytes}

-- where each name stands once, an object is found by its name
pub own_numbers : (objects : List (List ℕ × List ℕ)) → IsDistinct bytes_eq (names_of objects) → AllByRecursion (λ (object : List ℕ × List ℕ). bytes_of object.0 objects ≡ Some object.1) objects
unfolding IsDistinct
own_numbers [] distinct = tt
own_numbers (object ∷ objects) distinct = (
  ap (λ b. cond b (Some object.1) (bytes_of object.0 objects)) (same_bytes object.0),
  every_weaker (λ (other : List ℕ × List ℕ). (bytes_of other.0 objects ≡ Some other.1) × (bytes_eq object.0 other.0 ≡ false)) (λ (other : List ℕ × List ℕ). bytes_of other.0 (object ∷ objects) ≡ Some other.1) later objects
      (every_both (λ (other : List ℕ × List ℕ). bytes_of other.0 objects ≡ Some other.1) (λ (other : List ℕ × List ℕ). bytes_eq object.0 other.0 ≡ false) objects (own_numbers objects distinct.1)
      (every_unmap (λ name. bytes_eq object.0 name ≡ false) (λ (other : List ℕ × List ℕ). other.0) objects distinct.0)),
)
  where
    later : (other : List ℕ × List ℕ) → (bytes_of other.0 objects ≡ Some other.1) × (bytes_eq object.0 other.0 ≡ false) → bytes_of other.0 (object ∷ objects) ≡ Some other.1
    later other h = ap (λ b. cond b (Some object.1) (bytes_of other.0 objects)) (nat_list_eq_equiv.symm other.0 object.0 ∙ h.1) ∙ h.0

module _ (g : Shape) (s : Session) (names : IsDistinct bytes_eq (names_of s.numbers)) where
  -- a chunk of an object's stripe, which its server lacks
  pub record IsLost (chunk : LostChunk) : Type 0 where
    pub numbers : List ℕ
    pub of_name : bytes_of chunk.name s.numbers ≡ Some numbers
    pub within : chunk.stripe < length numbers
    pub server : chunk.server < chunk_count g
    pub lacks : holds (get_or s.stripes (get_or numbers chunk.stripe 0) []) chunk.server ≡ false

  abbrev chunk_of : List ℕ → ℕ → ℕ → LostChunk
  chunk_of name stripe server = record { name = name; stripe = stripe; server = server }

  -- those of a stripe and of an object
  abbrev of_stripe : List ℕ → ℕ × ℕ → List LostChunk
  of_stripe name numbered = map (λ server. chunk_of name numbered.0 server) (lacking (get_or s.stripes numbered.1 []) (servers g))

  abbrev of_object : List ℕ × List ℕ → List LostChunk
  of_object object = flat_map (λ numbered. of_stripe object.0 numbered) (enumerate_from 0 object.1)

  not_held : (b : Bool) → not b ≡ true → b ≡ false
  not_held true e = absurd (true≢false (sym e))
  not_held false e = refl

  stripe_lost : (object : List ℕ × List ℕ) → bytes_of object.0 s.numbers ≡ Some object.1 → (numbered : ℕ × ℕ) →
      (0 ≤ numbered.0) × (numbered.0 < 0 + length object.1) × (get_or object.1 (numbered.0 - 0) 0 ≡ numbered.1) → AllByRecursion IsLost (of_stripe object.0 numbered)
  stripe_lost object found numbered h =
      every_map IsLost (λ server. chunk_of object.0 numbered.0 server) (lacking (get_or s.stripes numbered.1 []) (servers g))
      (every_weaker (λ server. (server < chunk_count g) × (not (holds (get_or s.stripes numbered.1 []) server) ≡ true)) (λ server. IsLost (chunk_of object.0 numbered.0 server)) is
      (lacking (get_or s.stripes numbered.1 []) (servers g))
      (every_both (λ server. server < chunk_count g) (λ server. not (holds (get_or s.stripes numbered.1 []) server) ≡ true) (lacking (get_or s.stripes numbered.1 []) (servers g))
      (every_filter (λ server. server < chunk_count g) (λ server. not (holds (get_or s.stripes numbered.1 []) server)) (servers g) (row_less 0 (chunk_count g) (chunk_count g) (omega arith)))
      (every_kept (λ server. not (holds (get_or s.stripes numbered.1 []) server)) (servers g))))
    where
      low : numbered.0 < length object.1
      low = let less : numbered.0 < 0 + length object.1 = h.1 in omega (arith, less)

      at : get_or object.1 numbered.0 0 ≡ numbered.1
      at = let same : numbered.0 - 0 ≡ numbered.0 = omega arith in sym (ap (λ n. get_or object.1 n 0) same) ∙ h.2

      is : (server : ℕ) → (server < chunk_count g) × (not (holds (get_or s.stripes numbered.1 []) server) ≡ true) → IsLost (chunk_of object.0 numbered.0 server)
      is server e = record {
        numbers = object.1;
        of_name = found;
        within = low;
        server = e.0;
        lacks = ap (λ n. holds (get_or s.stripes n []) server) at ∙ not_held (holds (get_or s.stripes numbered.1 []) server) e.1;
      }

  pub lost_all : AllByRecursion IsLost (lost_chunks g s)
  lost_all =
      every_flat IsLost of_object s.numbers
      (every_weaker (λ (object : List ℕ × List ℕ). bytes_of object.0 s.numbers ≡ Some object.1) (λ object. AllByRecursion IsLost (of_object object)) object_lost s.numbers (own_numbers s.numbers names))
    where
      object_lost : (object : List ℕ × List ℕ) → bytes_of object.0 s.numbers ≡ Some object.1 → AllByRecursion IsLost (of_object object)
      object_lost object found =
          every_flat IsLost (λ numbered. of_stripe object.0 numbered) (enumerate_from 0 object.1)
          (every_weaker (λ (numbered : ℕ × ℕ). (0 ≤ numbered.0) × (numbered.0 < 0 + length object.1) × (get_or object.1 (numbered.0 - 0) 0 ≡ numbered.1)) (λ numbered. AllByRecursion IsLost (of_stripe object.0 numbered))
          (stripe_lost object found) (enumerate_from 0 object.1) (numbered_in 0 object.1))

  -- two chunks that differ
  abbrev pub AreApart : LostChunk → LostChunk → Type 0
  AreApart c e = c.name ≡ e.name → c.stripe ≡ e.stripe → c.server ≡ e.server → ⊥

  same_stripe : (name : List ℕ) (numbered : ℕ × ℕ) → AllByRecursion (λ (c : LostChunk). c.stripe ≡ numbered.0) (of_stripe name numbered)
  same_stripe name numbered = every_map (λ (c : LostChunk). c.stripe ≡ numbered.0) (λ server. chunk_of name numbered.0 server) (lacking (get_or s.stripes numbered.1 []) (servers g)) (always (lacking (get_or s.stripes numbered.1 []) (servers g)))
    where
      always : (xs : List ℕ) → AllByRecursion (λ (x : ℕ). numbered.0 ≡ numbered.0) xs
      always [] = tt
      always (x ∷ xs) = (refl, always xs)

  same_name : (object : List ℕ × List ℕ) → AllByRecursion (λ (c : LostChunk). c.name ≡ object.0) (of_object object)
  same_name object = every_flat (λ (c : LostChunk). c.name ≡ object.0) (λ numbered. of_stripe object.0 numbered) (enumerate_from 0 object.1) (each (enumerate_from 0 object.1))
    where
      always : (xs : List ℕ) → AllByRecursion (λ (x : ℕ). object.0 ≡ object.0) xs
      always [] = tt
      always (x ∷ xs) = (refl, always xs)

      each : (entries : List (ℕ × ℕ)) → AllByRecursion (λ numbered. AllByRecursion (λ (c : LostChunk). c.name ≡ object.0) (of_stripe object.0 numbered)) entries
      each [] = tt
      each (numbered ∷ entries) = (
        every_map (λ (c : LostChunk). c.name ≡ object.0) (λ server. chunk_of object.0 numbered.0 server) (lacking (get_or s.stripes numbered.1 []) (servers g)) (always (lacking (get_or s.stripes numbered.1 []) (servers g))),
        each entries,
      )

  in_stripe : (name : List ℕ) (numbered : ℕ × ℕ) → Pairs AreApart (of_stripe name numbered)
  in_stripe name numbered =
      pairs_map AreApart (λ server. chunk_of name numbered.0 server) (lacking (get_or s.stripes numbered.1 []) (servers g))
      (pairs_weaker (λ a b. a ≡ b → ⊥) (λ a b. AreApart (chunk_of name numbered.0 a) (chunk_of name numbered.0 b)) (λ a b other n i same. other same) (lacking (get_or s.stripes numbered.1 []) (servers g))
      (pairs_filter (λ a b. a ≡ b → ⊥) (λ server. not (holds (get_or s.stripes numbered.1 []) server)) (servers g) (row_apart 0 (chunk_count g))))

  in_object : (object : List ℕ × List ℕ) → Pairs AreApart (of_object object)
  in_object object =
      pairs_flat AreApart (λ numbered. of_stripe object.0 numbered) (enumerate_from 0 object.1) (each (enumerate_from 0 object.1))
      (pairs_weaker (λ (a b : ℕ × ℕ). a.0 ≡ b.0 → ⊥) (λ a b. AllByRecursion (λ c. AllByRecursion (AreApart c) (of_stripe object.0 b)) (of_stripe object.0 a)) across (enumerate_from 0 object.1) (numbered_apart 0 object.1))
    where
      each : (entries : List (ℕ × ℕ)) → AllByRecursion (λ numbered. Pairs AreApart (of_stripe object.0 numbered)) entries
      each [] = tt
      each (numbered ∷ entries) = (in_stripe object.0 numbered, each entries)

      across : (a b : ℕ × ℕ) → (a.0 ≡ b.0 → ⊥) → AllByRecursion (λ c. AllByRecursion (AreApart c) (of_stripe object.0 b)) (of_stripe object.0 a)
      across a b other =
          across_by (λ (c : LostChunk). c.stripe ≡ a.0) (λ (c : LostChunk). c.stripe ≡ b.0) AreApart (λ c e is also n i same. other (sym is ∙ i ∙ also)) (of_stripe object.0 a) (of_stripe object.0 b)
          (same_stripe object.0 a) (same_stripe object.0 b)

  pub lost_apart : Pairs AreApart (lost_chunks g s)
  lost_apart =
      pairs_flat AreApart of_object s.numbers (each s.numbers)
      (pairs_weaker (λ (a b : List ℕ × List ℕ). a.0 ≡ b.0 → ⊥) (λ a b. AllByRecursion (λ c. AllByRecursion (AreApart c) (of_object b)) (of_object a)) across s.numbers (names_apart s.numbers names))
    where
      each : (objects : List (List ℕ × List ℕ)) → AllByRecursion (λ object. Pairs AreApart (of_object object)) objects
      each [] = tt
      each (object ∷ objects) = (in_object object, each objects)

      across : (a b : List ℕ × List ℕ) → (a.0 ≡ b.0 → ⊥) → AllByRecursion (λ c. AllByRecursion (AreApart c) (of_object b)) (of_object a)
      across a b other =
          across_by (λ (c : LostChunk). c.name ≡ a.0) (λ (c : LostChunk). c.name ≡ b.0) AreApart (λ c e is also n i same. other (sym is ∙ n ∙ also)) (of_object a) (of_object b) (same_name a) (same_name b)
