-- A heal that has made each chunk anew answers what the session answers.
use Rattle.std.proofs.Common.{◌≡◌, ℕ, zero, suc, ◌+◌, ◌-◌, ◌≤◌, ◌^◌, true, List, [], ◌∷◌, length, map, replicate, if◌then◌else◌, refl, sym, ap, subst, ◌∙◌, arith}
use Rattle.std.proofs.lemmas.Bool.{le-leb}
use Rattle.std.proofs.lemmas.List.{length-replicate}
use Rattle.clay_grid.specs.Shape.{Shape, chunk_count}
use Rattle.store_map.specs.declared.actor.Actor.TheVariants as actor
use Rattle.session_rules.specs.State.{State}
use Rattle.session_rules.specs.Heals.{lost_chunks, to_heal, numbers_last}
use Rattle.session_rules.specs.declared.session_answer.LostChunk.{LostChunk}
use Rattle.session_rules.specs.AloneHeals.{rebuild_of}
use Rattle.session_rules.specs.Scrubs.{lost_at}
use Rattle.session_rules.specs.Answering.{AreMadeAnew, AreTakenAnew}
use Rattle.call_steps.specs.CallOf.{tries_by}
use Rattle.session_store.specs.declared.session_parts.Parts.{Parts}
use Rattle.session_store.specs.Inside.{store_of}
use Rattle.session_store.specs.Kept.{IsStore}
use Rattle.session_store.specs.Places.{seen_in}
use Rattle.session_store.specs.Standing.{StandsAt}
use Rattle.session_store.specs.Stored.{places_in}
use Rattle.session_store.specs.LostStripes.{healable}
use Rattle.session_store.specs.Healing.{low, AreMade, HasMade}
use Rattle.session_store.proofs.HealingServed.{lost_of_state}
use Rattle.session_store.proofs.HealingStripes.{heals_the_same}
use Rattle.session_store.proofs.HealingTakes.{made_anew, taken_anew}

low_zeros : (n : ℕ) → replicate n 0 ≡ map low (replicate n 0)
low_zeros zero = refl
low_zeros (suc n) = ap (λ l. 0 ∷ l) (low_zeros n)

module _ (parts : Parts) (is : IsStore (store_of parts)) (lost : List LostChunk) (are : lost ≡ lost_at (places_in (store_of parts))) (s : State) (at : StandsAt (store_of parts) s) where
  abbrev g : Shape
  g = parts.places.book.geometry

  abbrev tries : ℕ
  tries = tries_by parts.places.book.script

  pub chunks_are : healable g.parity_count lost ≡ to_heal g s
  chunks_are = ap (healable g.parity_count) (lost_of_state (store_of parts) is lost are s at) ∙ sym (heals_the_same g s at.between.seen.names)

  pub numbers_last_so : parts.next + length lost ≤ 2 ^ 32 - 1 → numbers_last g s ≡ true
  numbers_last_so few =
      let next : s.next ≡ parts.next = at.next in
      let count : length lost ≡ length (lost_chunks g s) = ap (λ (l : List LostChunk). length l) (lost_of_state (store_of parts) is lost are s at) in
      le-leb (s.next + length (lost_chunks g s)) (2 ^ 32 - 1) (omega (arith, few, next, count))

  module _ (now : Parts) (total : List ℕ) (m : HasMade (record parts { served = parts.served + 1 }) (map rebuild_of (healable g.parity_count lost)) (replicate (chunk_count g) 0) now total) where
    made_so : AreMade g tries (actor.Repairer 1) s.next (map rebuild_of (to_heal g s)) (seen_in parts.places) (replicate (chunk_count g) 0) (seen_in now.places) total
    made_so =
        subst (λ (l : List LostChunk). AreMade g tries (actor.Repairer 1) s.next (map rebuild_of l) (seen_in parts.places) (replicate (chunk_count g) 0) (seen_in now.places) total) chunks_are
        (subst (λ n. AreMade g tries (actor.Repairer 1) n (map rebuild_of (healable g.parity_count lost)) (seen_in parts.places) (replicate (chunk_count g) 0) (seen_in now.places) total) (sym at.next) m.made)

    pub all_made : AreMadeAnew g tries (actor.Repairer 1) s.next (to_heal g s) (seen_in parts.places) (seen_in now.places)
    all_made = made_anew g tries (actor.Repairer 1) (to_heal g s) s.next (seen_in parts.places) (replicate (chunk_count g) 0) (seen_in now.places) total made_so

    pub all_taken : (sums : List ℕ) × AreTakenAnew g tries (actor.Repairer 1) s.next (to_heal g s) (seen_in parts.places) (replicate (chunk_count g) 0) sums × (total ≡ map low sums)
    all_taken =
        taken_anew g tries (actor.Repairer 1) (to_heal g s) s.next (seen_in parts.places) (replicate (chunk_count g) 0) (replicate (chunk_count g) 0) (seen_in now.places) total (length-replicate (chunk_count g) 0)
        (low_zeros (chunk_count g)) made_so
