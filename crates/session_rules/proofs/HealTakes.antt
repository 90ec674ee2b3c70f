-- What a heal takes from each server: what its rebuilds take, added up.
use Rattle.std.proofs.Common.{◌≡◌, ℕ, ◌+◌, ◌<◌, ◌≤◌, List, [], ◌∷◌, take, fold, replicate, refl, sym, ap, subst, arith}
use Rattle.std.specs.List.{AllByRecursion}
use Rattle.clay_grid.specs.Shape.{Shape, chunk_count, stripe_length}
use Rattle.clay_grid.specs.Limits.{IsGeometry}
use Rattle.store_map.specs.declared.actor.Actor.{Actor}
use Rattle.store_map.specs.declared.actor.Actor.TheVariants as actor
use Rattle.store_core.specs.Act.{Outcome}
use Rattle.store_core.specs.NextAct.{rebuild_job}
use Rattle.store_core.specs.Conditions.{MayBegin}
use Rattle.store_core.specs.Step.{Places}
use Rattle.run_laws.specs.State.{first_state}
use Rattle.session_rules.specs.State.{State as Session, numbers_of, stripe_at}
use Rattle.session_rules.specs.declared.session_answer.LostChunk.{LostChunk}
use Rattle.session_rules.specs.declared.session_answer.Answer.{Answer}
use Rattle.session_rules.specs.Rebuilds.{place_anew, rebuild}
use Rattle.session_rules.specs.Heals.{number_of, to_heal, heal_one, takes_of}
use Rattle.session_rules.specs.Seen.{IsSeenAs}
use Rattle.session_rules.specs.AloneRebuilds.{IsRebuiltAs}
use Rattle.session_rules.specs.AloneHeals.{rebuild_of}
use Rattle.session_rules.specs.Takes.{takes_in, added, AreTaken, HealsAreTaken}
use Rattle.session_rules.proofs.Pairs.{Pairs, every_weaker, every_both, every_take, pairs_take}
use Rattle.session_rules.proofs.RebuildAlone.{rebuilds_are_served}
use Rattle.session_rules.proofs.RebuildTakes.{rebuilds_are_taken}
use Rattle.session_rules.proofs.HealAlone.{Ready, AreTwo, still_ready, rebuilds, all_ready, all_two}

module _ (g : Shape) (max tries : ℕ) (stands : List ℕ) (seat : ℕ) (some : 0 < stripe_length g) (parity : 0 < g.parity_count) (geometry : IsGeometry g) where
  abbrev who : Actor
  who = actor.Repairer seat

  abbrev IsReady : Session → LostChunk → Type 0
  IsReady s c = Ready g max tries stands seat some parity s c

  abbrev AreApart : Session → LostChunk → LostChunk → Type 0
  AreApart s c e = AreTwo g max tries stands seat some parity s c e

  abbrev state_with : Session → LostChunk → Session
  state_with s c = place_anew (number_of g s c) c.server s

  run : (chunks : List LostChunk) (number : ℕ) (p : Places) (s : Session) (so_far : List ℕ) → IsSeenAs g max stands p s → MayBegin p.directory who number → AllByRecursion (IsReady s) chunks → Pairs (AreApart s) chunks →
      AreTaken g tries who number chunks p so_far (fold (heal_one g) (s, so_far) chunks).1
  run [] number p s so_far h begin ready two = refl
  run (c ∷ chunks) number p s so_far h begin ready two = by (run chunks)
    where
      made : rebuild g c.stripe c.server s (numbers_of c.name s.numbers) ≡ (place_anew (number_of g s c) c.server s, Answer.Rebuilt)
      made = rebuilds g max tries stands seat some parity s c ready.0

      did : IsRebuiltAs g max tries (actor.Repairer seat) number (rebuild_of c) stands p s (place_anew (number_of g s c) c.server s, Answer.Rebuilt)
      did =
          subst (IsRebuiltAs g max tries (actor.Repairer seat) number (rebuild_of c) stands p s) made
          (rebuilds_are_served g max tries stands p s (actor.Repairer seat) number (rebuild_of c) some parity ready.0.server h begin refl)

      others : AllByRecursion (IsReady (state_with s c)) chunks
      others =
          every_weaker (λ e. IsReady s e × AreApart s c e) (IsReady (state_with s c)) (still_ready g max tries stands seat some parity s c) chunks
          (every_both (IsReady s) (AreApart s c) chunks ready.1 two.0)

      took : takes_in g tries (actor.Repairer seat) number (rebuild_job (rebuild_of c)) did.ends.made (record { call = first_state; places = p }) (replicate (chunk_count g) 0)
          ≡ takes_of g (stripe_at s.stripes (numbers_of c.name s.numbers) c.stripe) c.server
      took =
          rebuilds_are_taken g max tries stands p s (actor.Repairer seat) number (rebuild_of c) did.ends.made Outcome.Rebuilt some geometry h begin refl ready.0.server
          (ap (λ (r : Session × Answer). r.1) made) did.ends.over

      by : ((number : ℕ) (p : Places) (s : Session) (so_far : List ℕ) → IsSeenAs g max stands p s → MayBegin p.directory who number → AllByRecursion (IsReady s) chunks → Pairs (AreApart s) chunks →
          AreTaken g tries who number chunks p so_far (fold (heal_one g) (s, so_far) chunks).1) →
          AreTaken g tries who number (c ∷ chunks) p so_far (fold (heal_one g) (s, so_far) (c ∷ chunks)).1
      by go = (
        did.after,
        did.ends,
        subst (λ so. AreTaken g tries who (number + 1) chunks did.after so (fold (heal_one g) (s, so_far) (c ∷ chunks)).1) (ap (added so_far) (sym took))
            (go (number + 1) did.after (state_with s c) (heal_one g (s, so_far) c).1 did.seen did.next others two.1),
      )

pub heals_are_taken : HealsAreTaken
heals_are_taken g max tries seat count stands p s some geometry h begin =
    let two : 2 ≤ g.parity_count = geometry.limits.parity_chunks.0 in
    let parity : 0 < g.parity_count = omega (arith, two) in
    run g max tries stands seat some parity geometry (take count (to_heal g s)) s.next p s (replicate (chunk_count g) 0) h begin
    (every_take (Ready g max tries stands seat some parity s) count (to_heal g s) (all_ready g max tries stands seat some parity p s h))
    (pairs_take (AreTwo g max tries stands seat some parity s) count (to_heal g s) (all_two g max tries stands seat some parity p s h))
