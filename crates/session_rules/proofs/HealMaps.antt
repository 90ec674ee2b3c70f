-- A heal leaves the map: each of its rebuilds does, and a call that runs alone has one end.
use Rattle.std.proofs.Common.{◌≡◌, ℕ, zero, suc, ◌+◌, ◌<◌, List, [], ◌∷◌, take, fold, replicate, refl, sym, ap, subst, ◌∙◌}
use Rattle.std.specs.List.{AllByRecursion}
use Rattle.clay_grid.specs.Shape.{Shape, chunk_count, stripe_length}
use Rattle.store_map.specs.declared.actor.Actor.{Actor}
use Rattle.store_map.specs.declared.actor.Actor.TheVariants as actor
use Rattle.store_core.specs.Act.{Act, Outcome}
use Rattle.store_core.specs.Calls.{Calls}
use Rattle.store_core.specs.NextAct.{Job, rebuild_job}
use Rattle.store_core.specs.Conditions.{MayBegin}
use Rattle.store_core.specs.Step.{Places}
use Rattle.run_laws.specs.State.{first_state}
use Rattle.run_laws.specs.StateActs.{act_of_state}
use Rattle.session_rules.specs.State.{State as Session, numbers_of}
use Rattle.session_rules.specs.declared.session_answer.LostChunk.{LostChunk}
use Rattle.session_rules.specs.declared.session_answer.Answer.{Answer}
use Rattle.session_rules.specs.Rebuilds.{place_anew, rebuild}
use Rattle.session_rules.specs.Heals.{number_of, to_heal, heal_one, heal_all}
use Rattle.session_rules.specs.Alone.{AtWork, step, step_by, steps, EndsAs}
use Rattle.session_rules.specs.Seen.{IsSeenAs}
use Rattle.session_rules.specs.AloneRebuilds.{IsRebuiltAs}
use Rattle.session_rules.specs.AloneHeals.{rebuild_of, AreRebuilt}
use Rattle.session_rules.proofs.Pairs.{Pairs, every_weaker, every_both, every_take, pairs_take}
use Rattle.session_rules.proofs.RebuildAlone.{rebuilds_are_served}
use Rattle.session_rules.proofs.HealAlone.{Ready, AreTwo, still_ready, rebuilds, all_ready, all_two}
use Rattle.session_rules.specs.Maps.{IsMapOf}
use Rattle.session_rules.specs.Going.{HealsLeaveMaps}
use Rattle.session_rules.proofs.CallLeft.{rebuilds_leave_maps}

-- ---- a call that runs alone has one end
module _ (g : Shape) (tries : ℕ) (who : Actor) (number : ℕ) (job : Job) where
  stays : (n : ℕ) (w : AtWork) (outcome : Outcome) → act_of_state g tries job w.call ≡ Act.Finish outcome → steps g tries who number job n w ≡ w
  stays zero w outcome e = refl
  stays (suc n) w outcome e = ap (steps g tries who number job n) (ap (λ act. step_by g tries who number job act w) e) ∙ stays n w outcome e

  pub one_end : (n m : ℕ) (w : AtWork) (first second : Outcome) → act_of_state g tries job (steps g tries who number job n w).call ≡ Act.Finish first →
      act_of_state g tries job (steps g tries who number job m w).call ≡ Act.Finish second → steps g tries who number job n w ≡ steps g tries who number job m w
  one_end zero m w first second e also = sym (stays m w first e)
  one_end (suc n) zero w first second e also = stays (suc n) w second also
  one_end (suc n) (suc m) w first second e also = one_end n m (step g tries who number job w) first second e also

  pub same_end : (before after other : Places) (first second : Outcome) → EndsAs g tries who number job before first after → EndsAs g tries who number job before second other → after ≡ other
  same_end before after other first second ends also =
      sym ends.leaves ∙ ap (λ (w : AtWork). w.places) (one_end ends.made also.made (record { call = first_state; places = before }) first second ends.over also.over) ∙ also.leaves

module _ (calls : Calls) (g : Shape) (max tries : ℕ) (stands : List ℕ) (seat : ℕ) (some : 0 < stripe_length g) (parity : 0 < g.parity_count) where
  abbrev who : Actor
  who = actor.Repairer seat

  abbrev IsReady : Session → LostChunk → Type 0
  IsReady s c = Ready g max tries stands seat some parity s c

  abbrev AreApart : Session → LostChunk → LostChunk → Type 0
  AreApart s c e = AreTwo g max tries stands seat some parity s c e

  abbrev state_with : Session → LostChunk → Session
  state_with s c = place_anew (number_of g s c) c.server s

  run : (chunks : List LostChunk) (number : ℕ) (p after : Places) (s : Session) (so_far : List ℕ) → IsSeenAs g max stands p s → IsMapOf calls p s → MayBegin p.directory who number →
      AllByRecursion (IsReady s) chunks → Pairs (AreApart s) chunks → AreRebuilt g tries who number chunks p after → IsMapOf calls after (fold (heal_one g) (s, so_far) chunks).0
  run [] number p after s so_far h m begin ready two same = subst (λ q. IsMapOf calls q s) same m
  run (c ∷ chunks) number p after s so_far h m begin ready two (between, ends, rest) = by (run chunks)
    where
      made : rebuild g c.stripe c.server s (numbers_of c.name s.numbers) ≡ (place_anew (number_of g s c) c.server s, Answer.Rebuilt)
      made = rebuilds g max tries stands seat some parity s c ready.0

      did : IsRebuiltAs g max tries (actor.Repairer seat) number (rebuild_of c) stands p s (place_anew (number_of g s c) c.server s, Answer.Rebuilt)
      did =
          subst (IsRebuiltAs g max tries (actor.Repairer seat) number (rebuild_of c) stands p s) made
          (rebuilds_are_served g max tries stands p s (actor.Repairer seat) number (rebuild_of c) some parity ready.0.server h begin refl)

      others : AllByRecursion (IsReady (state_with s c)) chunks
      others =
          every_weaker (λ e. IsReady s e × AreApart s c e) (IsReady (state_with s c)) (still_ready g max tries stands seat some parity s c) chunks
          (every_both (IsReady s) (AreApart s c) chunks ready.1 two.0)

      then_map : IsMapOf calls did.after (place_anew (number_of g s c) c.server s)
      then_map =
          subst (λ (r : Session × Answer). IsMapOf calls did.after r.0) made
          (rebuilds_leave_maps.served calls g max tries stands p did.after s (actor.Repairer seat) number (rebuild_of c) Outcome.Rebuilt some h m begin refl ready.0.server did.ends)

      here : between ≡ did.after
      here = same_end g tries (actor.Repairer seat) number (rebuild_job (rebuild_of c)) p between did.after Outcome.Rebuilt Outcome.Rebuilt ends did.ends

      by : ((number : ℕ) (p after : Places) (s : Session) (so_far : List ℕ) → IsSeenAs g max stands p s → IsMapOf calls p s → MayBegin p.directory who number →
          AllByRecursion (IsReady s) chunks → Pairs (AreApart s) chunks → AreRebuilt g tries who number chunks p after → IsMapOf calls after (fold (heal_one g) (s, so_far) chunks).0) →
          IsMapOf calls after (fold (heal_one g) (s, so_far) (c ∷ chunks)).0
      by go =
          go (number + 1) did.after after (state_with s c) (heal_one g (s, so_far) c).1 did.seen then_map did.next others two.1
          (subst (λ q. AreRebuilt g tries who (number + 1) chunks q after) here rest)

pub heals_leave_maps : HealsLeaveMaps
heals_leave_maps calls g max tries seat count stands p after s some parity h m begin rebuilt =
    let there : IsMapOf calls after (heal_all g (take count (to_heal g s)) s).0 =
    run calls g max tries stands seat some parity (take count (to_heal g s)) s.next p after s (replicate (chunk_count g) 0) h m begin
    (every_take (Ready g max tries stands seat some parity s) count (to_heal g s) (all_ready g max tries stands seat some parity p s h))
    (pairs_take (AreTwo g max tries stands seat some parity s) count (to_heal g s) (all_two g max tries stands seat some parity p s h)) rebuilt in
    record { objects = there.objects; bytes = there.bytes; drawn = there.drawn }
