-- A call with bytes as its reply was served them: its one point is that of a look that pinned stripes.
use Rattle.std.proofs.Common.{◌≡◌, ◌≢◌, ◌⊎◌, inl, inr, ℕ, zero, suc, ◌<◌, Bool, true, false, List, [], ◌∷◌, get_or, AllPairs, Some, sym, ap, subst, ◌∙◌, true≢false}
use Rattle.std.proofs.lemmas.Bool.{cases_order}
use Rattle.std.proofs.lemmas.Option.{none-some, same_Some, slice_get_within}
use Rattle.std.specs.List.{slice_get}
use Rattle.store_map.specs.declared.actor.Actor.{Actor}
use Rattle.store_map.specs.declared.actor.Actor.TheVariants as actor
use Rattle.store_map.specs.declared.reply.Reply.{Reply}
use Rattle.store_map.specs.declared.reply.Reply.TheVariants as reply
use Rattle.store_map.specs.declared.script.Script.{Script}
use Rattle.store_map.specs.declared.call_name.ClientCall.{ClientCall}
use Rattle.store_map.specs.declared.shown.Shown.{Shown}
use Rattle.store_map.specs.declared.shown.Shown.TheVariants as shown_as
use Rattle.store_core.specs.Act.{Outcome}
use Rattle.store_core.specs.Core.{Core}
use Rattle.store_core.specs.Directory.{Event, Point}
use Rattle.store_core.specs.History.{is_answered, shown_at, answered_in}
use Rattle.store_core.specs.Lookups.{same_actor}
use Rattle.store_core.specs.Sound.{AreInOrder}
use Rattle.history_laws.specs.HasPoints.{IsReply, IsPin, PointAt, HasItsPoint}
use Rattle.history_laws.proofs.Naming.{named_client}
use Rattle.history_laws.proofs.OrderEnds.{EndKnown}
use Rattle.history_laws.proofs.OrderShown.{ShownPoint}
use Rattle.history_laws.proofs.Points.{IsPlain, IsOfScript}
use Rattle.run_laws.proofs.SoundLists.{at_all}

-- ---- the event of a point that shows bytes
abbrev is_reaped : Event → Bool
is_reaped Event.Reaped = true
is_reaped event = false

abbrev reply_in : Shown → Reply
reply_in (shown_as.Reply given) = given
reply_in shown_as.Unfinished = reply.Done

abbrev is_bytes : Reply → Bool
is_bytes (reply.Bytes bytes) = true
is_bytes given = false

pin_shown : (event : Event) (answered : Bool) (mapped : Reply) (bytes : List ℕ) → (event ≡ Event.Reaped) ⊎ IsPlain event → shown_at event answered mapped ≡ Some (shown_as.Reply (reply.Bytes bytes)) → IsPin event
pin_shown (Event.Answer given) answered mapped bytes (inl reaped) e = absurd (true≢false (sym (ap is_reaped reaped)))
pin_shown (Event.Answer given) answered mapped bytes (inr plain) e =
    absurd (subst (λ r. IsPlain (Event.Answer r)) (ap reply_in (same_Some (shown_as.Reply given) (shown_as.Reply (reply.Bytes bytes)) e)) plain)
pin_shown Event.Pinned answered mapped bytes of e = tt
pin_shown Event.Done true mapped bytes of e =
    absurd (true≢false (sym (ap (λ s. is_bytes (reply_in s)) (same_Some (shown_as.Reply reply.Done) (shown_as.Reply (reply.Bytes bytes)) e))))
pin_shown Event.Done false mapped bytes of e =
    absurd (true≢false (sym (ap (λ s. is_bytes (reply_in s)) (same_Some shown_as.Unfinished (shown_as.Reply (reply.Bytes bytes)) e))))
pin_shown Event.Reaped answered mapped bytes of e = absurd (none-some (shown_as.Reply (reply.Bytes bytes)) e)

module _ (script : Script) (core : Core) (known : EndKnown script core) (call : ClientCall) where
  plain_of : (point : Point) → IsOfScript script point → (point.event ≡ Event.Reaped) ⊎ IsPlain point.event
  plain_of point (inl reaped) = inl reaped
  plain_of point (inr of) = inr of.plain

  pub bytes_pinned : (point : ℕ) (bytes : List ℕ) → ShownPoint script core core.directory.points (record { point = point; call = call; reply = shown_as.Reply (reply.Bytes bytes) })
      → (place : ℕ) × PointAt (actor.Client call.client) call.number IsPin core.directory.points place
  bytes_pinned point bytes of =
      let mine : (of.point.actor ≡ actor.Client call.client) × (of.point.number ≡ call.number) = named_client of.point.actor of.point.number call of.named in (
        of.at,
        record {
          point = of.point;
          found = of.found;
          mine = mine.0;
          of_call = mine.1;
          is =
              pin_shown of.point.event (answered_in core of.point.actor of.point.number) of.mapped bytes
              (plain_of of.point (at_all (IsOfScript script) core.directory.points of.at of.point known.points of.found)) of.says;
        },
      )

-- ---- a call has one point
element : {X : Type 0} (xs : List X) (i : ℕ) (d x : X) → slice_get xs i ≡ Some x → get_or xs i d ≡ x
element [] i d x e = absurd (none-some x e)
element (y ∷ xs) zero d x e = same_Some y x e
element (y ∷ xs) (suc i) d x e = element xs i d x e

pair_at : {X : Type 0} (R : X → X → Type 0) (xs : List X) (i j : ℕ) (x y : X) → AllPairs R xs → i < j → slice_get xs i ≡ Some x → slice_get xs j ≡ Some y → R x y
pair_at R xs i j x y pairs less e k =
    subst (λ a. R a y) (element xs i x x e) (subst (R (get_or xs i x)) (element xs j x y k) (pairs i j x less (slice_get_within xs j y k)))

module _ (points : List Point) (order : AllPairs AreInOrder points) (who : Actor) (self : same_actor who who ≡ true) (number : ℕ) where
  second_reaped : (Is Other : Event → Type 0) (a b : ℕ) → a < b → (one : PointAt who number Is points a) (other : PointAt who number Other points b) → one.point.event ≢ Event.Reaped → other.point.event ≡ Event.Reaped
  second_reaped Is Other a b less one other unreaped =
      (pair_at AreInOrder points a b one.point other.point order less one.found other.found).once
      (subst (λ x. same_actor x other.point.actor ≡ true) (sym one.mine) (subst (λ y. same_actor who y ≡ true) (sym other.mine) self))
      (one.of_call ∙ sym other.of_call) unreaped

  not_both : (a b : ℕ) → PointAt who number IsPin points a → PointAt who number IsReply points b → ⊥
  not_both a b pin answer = by (cases_order a b)
    where
      by : (a ≡ b) ⊎ ((a < b) ⊎ (b < a)) → ⊥
      by (inl same) =
          let is : pin.point ≡ answer.point = same_Some pin.point answer.point (sym pin.found ∙ ap (slice_get points) same ∙ answer.found) in
          pin_no_reply answer.point.event (subst (λ (p : Point). IsPin p.event) is pin.is) answer.is
        where
          pin_no_reply : (event : Event) → IsPin event → IsReply event → ⊥
          pin_no_reply (Event.Answer given) pinned replied = pinned
          pin_no_reply Event.Done pinned replied = pinned
          pin_no_reply Event.Pinned pinned replied = replied
          pin_no_reply Event.Reaped pinned replied = replied
      by (inr (inl less)) = subst IsReply (second_reaped IsPin IsReply a b less pin answer (λ reaped. subst IsPin reaped pin.is)) answer.is
      by (inr (inr less)) = subst IsPin (second_reaped IsReply IsPin b a less answer pin (λ reaped. subst IsReply reaped answer.is)) pin.is

  pub was_served : (outcome : Outcome) → is_answered outcome ≡ true → HasItsPoint who number points outcome → (place : ℕ) → PointAt who number IsPin points place → (point : ℕ) × (outcome ≡ Outcome.Served point)
  was_served (Outcome.Answered point given) answered has place pin = absurd (not_both place point pin has)
  was_served (Outcome.Served point) answered has place pin = (point, λ k. Outcome.Served point)
  was_served Outcome.Rebuilt answered has place pin = absurd (true≢false (sym answered))
  was_served Outcome.Here answered has place pin = absurd (true≢false (sym answered))
  was_served (Outcome.Away downs) answered has place pin = absurd (true≢false (sym answered))
  was_served Outcome.NoSuch answered has place pin = absurd (true≢false (sym answered))
  was_served (Outcome.Superseded newer) answered has place pin = absurd (true≢false (sym answered))
  was_served (Outcome.Unavailable stripe missing) answered has place pin = absurd (true≢false (sym answered))
  was_served (Outcome.Contended pairs) answered has place pin = absurd (true≢false (sym answered))
  was_served (Outcome.Reaped point) answered has place pin = absurd (true≢false (sym answered))
  was_served Outcome.NoMemory answered has place pin = absurd (true≢false (sym answered))
