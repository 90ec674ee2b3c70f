-- A session's lost chunks of one stripe stand together.
use Rattle.std.proofs.Common.{◌≡◌, ℕ, ◌+◌, List, [], ◌∷◌, get_or, map, flat_map, bytes_eq, arith}
use Rattle.std.specs.List.{AllByRecursion, IsDistinct, enumerate_from}
use Rattle.clay_grid.specs.Shape.{Shape}
use Rattle.store_map.specs.Laws.{names_of}
use Rattle.session_rules.specs.State.{State}
use Rattle.session_rules.specs.Gathered.{lacking}
use Rattle.session_rules.specs.Heals.{servers, lost_chunks}
use Rattle.session_rules.specs.declared.session_answer.LostChunk.{LostChunk}
use Rattle.session_rules.proofs.Pairs.{every_map, every_flat}
use Rattle.session_store.specs.LostStripes.{beside, StandTogether}
use Rattle.session_store.proofs.HealingStripes.{later_none, none_named}
use Rattle.session_store.proofs.Together.{together_append, together_stripe}

each_of : {X : Type 0} (P : X → Type 0) → ((x : X) → P x) → (xs : List X) → AllByRecursion P xs
each_of P so [] = tt
each_of P so (x ∷ xs) = (so x, each_of P so xs)

module _ (g : Shape) (s : State) where
  -- those of a stripe and of an object
  abbrev chunk_of : List ℕ → ℕ → ℕ → LostChunk
  chunk_of name stripe server = record { name = name; stripe = stripe; server = server }

  abbrev of_stripe : List ℕ → ℕ × ℕ → List LostChunk
  of_stripe name numbered = map (chunk_of name numbered.0) (lacking (get_or s.stripes numbered.1 []) (servers g))

  abbrev of_object : List ℕ × List ℕ → List LostChunk
  of_object object = flat_map (of_stripe object.0) (enumerate_from 0 object.1)

  in_object : (name : List ℕ) (numbers : List ℕ) (k : ℕ) → StandTogether (flat_map (of_stripe name) (enumerate_from k numbers))
  in_object name [] k = tt
  in_object name (number ∷ numbers) k =
      together_append (of_stripe name (k, number)) (flat_map (of_stripe name) (enumerate_from (k + 1) numbers)) (together_stripe name k (lacking (get_or s.stripes number []) (servers g))) (in_object name numbers (k + 1))
      (every_map (λ chunk. beside (flat_map (of_stripe name) (enumerate_from (k + 1) numbers)) chunk ≡ 0) (chunk_of name k) (lacking (get_or s.stripes number []) (servers g))
      (each_of (λ server. beside (flat_map (of_stripe name) (enumerate_from (k + 1) numbers)) (chunk_of name k server) ≡ 0) (λ server. later_none g s (chunk_of name k server) name numbers (k + 1) (omega arith)) (lacking (get_or s.stripes number []) (servers g))))

  in_objects : (objects : List (List ℕ × List ℕ)) → IsDistinct bytes_eq (names_of objects) → StandTogether (flat_map of_object objects)
  unfolding IsDistinct
  in_objects [] distinct = tt
  in_objects (object ∷ objects) distinct =
      together_append (of_object object) (flat_map of_object objects) (in_object object.0 object.1 0) (in_objects objects distinct.1)
      (every_flat (λ chunk. beside (flat_map of_object objects) chunk ≡ 0) (of_stripe object.0) (enumerate_from 0 object.1)
      (each_of (λ numbered. AllByRecursion (λ chunk. beside (flat_map of_object objects) chunk ≡ 0) (of_stripe object.0 numbered))
      (λ numbered. every_map (λ chunk. beside (flat_map of_object objects) chunk ≡ 0) (chunk_of object.0 numbered.0) (lacking (get_or s.stripes numbered.1 []) (servers g))
      (each_of (λ server. beside (flat_map of_object objects) (chunk_of object.0 numbered.0 server) ≡ 0) (λ server. none_named g s (chunk_of object.0 numbered.0 server) objects distinct.0) (lacking (get_or s.stripes numbered.1 []) (servers g))))
      (enumerate_from 0 object.1)))

  pub all_together : IsDistinct bytes_eq (names_of s.numbers) → StandTogether (lost_chunks g s)
  all_together distinct = in_objects s.numbers distinct
