-- Actors of a world beside those of the core for which they stand.
use Rattle.std.proofs.Common.{◌≡◌, ℕ, zero, suc, ◌-◌, Bool, ◌&&◌, not, nat_lt, List, [], ◌∷◌, length, None, Some, refl, sym, subst}
use Rattle.std.proofs.lemmas.Option.{none-some, same_Some}
use Rattle.std.specs.List.{slice_get}
use Rattle.clay_grid.specs.Shape.{chunk_count}
use Rattle.store_map.specs.declared.script.Script.{Script}
use Rattle.store_core.specs.Lists.{change_at}
use Rattle.store_core.specs.Work.{Ended, Work, Calling, is_abandoned, has_step}
use Rattle.world_laws.specs.World.{DoingOf, ActorOf}
use Rattle.world_laws.specs.Known.{calling_by, calling_of}
use Rattle.world_laws.specs.StandsFor.{DoingStands, ActorStands, AllStand}

-- what is found of an actor
pub record Found (script : Script) (work : Work) (callings : List Calling) (a : ActorOf) (i : ℕ) : Type 0 where
  pub calling : Calling
  pub is_calling : slice_get callings i ≡ Some calling
  pub stands : ActorStands script work.jobs calling a

module _ (script : Script) where
  -- the core's actor for which actor i stands
  pub found : (works : List Work) (callings : List Calling) (actors : List ActorOf) (i : ℕ) (work : Work) (a : ActorOf) → AllStand script works callings actors
      → slice_get works i ≡ Some work → slice_get actors i ≡ Some a → Found script work callings a i
  found [] [] [] i work a all is_work is_a = absurd (none-some work is_work)
  found (first ∷ works) (calling ∷ callings) (b ∷ actors) zero work a all is_work is_a =
      record {
        calling = calling;
        is_calling = refl;
        stands =
            subst (λ (c : ActorOf). ActorStands script work.jobs calling c) (same_Some b a is_a)
            (subst (λ (v : Work). ActorStands script v.jobs calling b) (same_Some first work is_work) all.0);
      }
  found (first ∷ works) (calling ∷ callings) (b ∷ actors) (suc i) work a all is_work is_a =
      let one : Found script work callings a i = found works callings actors i work a all.1 is_work is_a in
      record { calling = one.calling; is_calling = one.is_calling; stands = one.stands }
  found works callings actors i work a all is_work is_a = absurd all

  -- where there is no such actor the core has none either
  pub none_found : (works : List Work) (callings : List Calling) (actors : List ActorOf) (i : ℕ) → AllStand script works callings actors
      → slice_get actors i ≡ None → slice_get callings i ≡ None
  none_found [] [] [] i all none = refl
  none_found (first ∷ works) (calling ∷ callings) (b ∷ actors) zero all none = absurd (none-some b (sym none))
  none_found (first ∷ works) (calling ∷ callings) (b ∷ actors) (suc i) all none = none_found works callings actors i all.1 none
  none_found works callings actors i all none = absurd all

  -- one of them is changed on both sides
  pub all_changed : (works : List Work) (callings : List Calling) (actors : List ActorOf) (i : ℕ) (work : Work) (calling : Calling) (a : ActorOf) → AllStand script works callings actors
      → slice_get works i ≡ Some work → ActorStands script work.jobs calling a → AllStand script works (change_at i (λ _. calling) callings) (change_at i (λ _. a) actors)
  all_changed [] [] [] i work calling a all is_work stands = tt
  all_changed (first ∷ works) (old ∷ callings) (b ∷ actors) zero work calling a all is_work stands =
      (subst (λ (v : Work). ActorStands script v.jobs calling a) (sym (same_Some first work is_work)) stands, all.1)
  all_changed (first ∷ works) (old ∷ callings) (b ∷ actors) (suc i) work calling a all is_work stands =
      (all.0, all_changed works callings actors i work calling a all.1 is_work stands)
  all_changed works callings actors i work calling a all is_work stands = absurd all

  -- whether an actor has a step is known of the world's
  has_by : Work → List Ended → ℕ → Bool
  has_by work ended steps =
      let left : ℕ = length work.jobs - length ended in
      nat_lt 0 left && not (is_abandoned work.leave left steps)

  turn_by : (work : Work) (calling : Calling) (ended : List Ended) (doing : DoingOf) → calling.ended ≡ ended → DoingStands script work.jobs calling doing
      → has_step work calling ≡ has_step work (calling_by (chunk_count script.geometry) ended doing)
  unfolding has_by
  turn_by work calling ended (DoingOf.Between token) e stands = λ k. has_by work (e k) (stands.none k)
  turn_by work calling ended (DoingOf.InCall call steps) e stands = λ k. has_by work (e k) (stands.made k)

  pub same_turn : (work : Work) (calling : Calling) (a : ActorOf) → ActorStands script work.jobs calling a → has_step work calling ≡ has_step work (calling_of script a)
  same_turn work calling a stands = turn_by work calling a.ended a.doing stands.ended stands.doing
