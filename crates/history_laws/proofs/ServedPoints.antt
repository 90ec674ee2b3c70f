-- In a sound directory a call has one point that is no reap; so a pinned one is the one that the call was told.
-- Soundness says that a call has at most one point that is no reap, and an answered call was told a point; so the pinned point of an
-- answered call is that one, and its event says that it was served. No line of the history is looked at.
use Rattle.std.proofs.Common.{◌≡◌, ◌≢◌, ◌⊎◌, inl, inr, ℕ, ◌<◌, true, true≢false, List, get_or, Some, AllPairs, IsTrue, sym, ap, subst, ◌∙◌}
use Rattle.std.proofs.lemmas.Bool.{cases_order}
use Rattle.std.proofs.lemmas.Option.{same_Some, slice_get_within, get_or_from_slice_get}
use Rattle.std.specs.List.{slice_get}
use Rattle.store_map.specs.declared.actor.Actor.{Actor}
use Rattle.store_map.specs.declared.actor.Actor.TheVariants as actor
use Rattle.store_core.specs.Act.{Outcome}
use Rattle.store_core.specs.Core.{Core}
use Rattle.store_core.specs.Directory.{Event, Point}
use Rattle.store_core.specs.History.{is_answered}
use Rattle.store_core.specs.Lookups.{same_actor}
use Rattle.store_core.specs.Schedule.{run_core}
use Rattle.store_core.specs.Sound.{AreInOrder}
use Rattle.run_laws.proofs.Beside.{self_actor}
use Rattle.run_laws.proofs.Drains.{runs_stay_sound}
use Rattle.history_laws.specs.HasPoints.{IsReply, IsPin, PointAt, HasItsPoint}
use Rattle.history_laws.proofs.AnsweredPoints.{answers_have_points}
use Rattle.history_laws.specs.ServedPoints.{RunsServeAtPins}

-- ---- two points of one call
pair_at : {X : Type 0} (R : X → X → Type 0) (xs : List X) (i j : ℕ) (x y : X) → AllPairs R xs → i < j → slice_get xs i ≡ Some x → slice_get xs j ≡ Some y → R x y
pair_at R xs i j x y pairs less is_x is_y =
    subst (λ a. R a y) (get_or_from_slice_get xs i x x is_x)
    (subst (R (get_or xs i x)) (get_or_from_slice_get xs j y x is_y) (pairs i j x less (slice_get_within xs j y is_y)))

same : (a b : Actor) → a ≡ b → IsTrue (same_actor a b)
same a b e = subst (λ x. same_actor a x ≡ true) e (self_actor a)

module _ (points : List Point) (pairs : AllPairs AreInOrder points) where
  -- of two points of one call the later one is a reap
  later_reaped : (a b : ℕ) (p q : Point) → a < b → slice_get points a ≡ Some p → slice_get points b ≡ Some q → p.actor ≡ q.actor → p.number ≡ q.number → p.event ≢ Event.Reaped → q.event ≡ Event.Reaped
  later_reaped a b p q less is_p is_q of_actor of_call unreaped = (pair_at AreInOrder points a b p q pairs less is_p is_q).once (same p.actor q.actor of_actor) of_call unreaped

  -- so two that are no reaps are one
  one_place : (a b : ℕ) (p q : Point) → slice_get points a ≡ Some p → slice_get points b ≡ Some q → p.actor ≡ q.actor → p.number ≡ q.number → p.event ≢ Event.Reaped → q.event ≢ Event.Reaped → a ≡ b
  one_place a b p q is_p is_q of_actor of_call p_unreaped q_unreaped = by (cases_order a b)
    where
      apart : (a < b) ⊎ (b < a) → a ≡ b
      apart (inl less) = absurd (q_unreaped (later_reaped a b p q less is_p is_q of_actor of_call p_unreaped))
      apart (inr less) = absurd (p_unreaped (later_reaped b a q p less is_q is_p (sym of_actor) (sym of_call) q_unreaped))

      by : (a ≡ b) ⊎ ((a < b) ⊎ (b < a)) → a ≡ b
      by (inl e) = e
      by (inr h) = apart h

  -- ---- a pinned point, and the one that the call was told
  module _ (who : Actor) (place : ℕ) (point : Point) (is_point : slice_get points place ≡ Some point) (mine : point.actor ≡ who) (pinned : point.event ≡ Event.Pinned) where
    is_pin : IsPin point.event
    is_pin = subst IsPin (sym pinned) tt

    told_there : (Is : Event → Type 0) → ((event : Event) → Is event → event ≢ Event.Reaped) → (told : ℕ) → PointAt who point.number Is points told → place ≡ told
    told_there Is unreaped told h =
        one_place place told point h.point is_point h.found (mine ∙ sym h.mine) (sym h.of_call) (λ e. subst IsPin e is_pin) (unreaped h.point.event h.is)

    pub served_there : (outcome : Outcome) → HasItsPoint who point.number points outcome → is_answered outcome ≡ true → outcome ≡ Outcome.Served place
    served_there (Outcome.Answered told reply) h answered =
        let here : place ≡ told = told_there IsReply (λ event is e. subst IsReply e is) told h in
        let one : point ≡ h.point = same_Some point h.point (sym is_point ∙ ap (slice_get points) here ∙ h.found) in
        absurd (subst IsReply (sym (ap (λ (p : Point). p.event) one) ∙ pinned) h.is)
    served_there (Outcome.Served told) h answered = ap Outcome.Served (sym (told_there IsPin (λ event is e. subst IsPin e is) told h))
    served_there outcome h answered = absurd (true≢false (sym answered))

pub runs_serve_at_pins : RunsServeAtPins
runs_serve_at_pins script shortages geometry valid tokens place i point calling ended is_point mine pinned is_calling is_ended answered =
    let core : Core = run_core script shortages tokens in
    served_there core.directory.points (runs_stay_sound script shortages geometry valid tokens).points (actor.Client i) place point is_point mine pinned ended.outcome
    (answers_have_points script shortages geometry valid tokens i calling is_calling point.number ended is_ended) answered
