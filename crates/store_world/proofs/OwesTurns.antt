-- A client's turn keeps it that its calls serve what their looks have pinned.
use Rattle.std.proofs.Common.{◌≡◌, ◌⊎◌, ℕ, ◌+◌, List, [], ◌∷◌, ◌++◌, length, slice_get, Option, None, Some, IfSome, option_map, refl, sym, ap, subst, ◌∙◌, inl, inr, arith}
use Rattle.std.proofs.lemmas.List.{length_push}
use Rattle.store_map.specs.declared.actor.Actor.TheVariants as actor
use Rattle.store_map.specs.declared.script.ClientPart.{ClientPart}
use Rattle.store_map.specs.declared.script.Script.{Script}
use Rattle.store_core.specs.Act.{Act, Outcome}
use Rattle.store_core.specs.Directory.{Point}
use Rattle.store_core.specs.Tokens.{actor_of}
use Rattle.store_core.specs.Work.{Ended}
use Rattle.chunk_server.specs.State.{ServerState}
use Rattle.stripe_stamps.specs.Sealed.{Sealed}
use Rattle.call_steps.specs.CallOf.{CallOf, act_of}
use Rattle.call_steps.specs.Steps.{need_of}
use Rattle.call_steps.specs.Ready.{ready}
use Rattle.call_machine.specs.Kinds.{Machine, machine_of, IfReads}
use Rattle.call_machine.specs.Calls.{MachineOf}
use Rattle.world_laws.specs.World.{ActorOf, DoingOf, steps_of}
use Rattle.world_laws.specs.ActorAfter.{IsCallBefore, actor_after_by}
use Rattle.world_laws.specs.Tokens.{KeepsToken}
use Rattle.actors.specs.Callers.{PartOf, CallerOf, asked_at, who_of, work_of}
use Rattle.actors.specs.Owing.{AreServed, left_by, owed_now}
use Rattle.actors.specs.CallerTurns.{MakesCallerTurn}
use Rattle.actors.specs.Turns.{places_of}
use Rattle.call_machine.specs.Pinned.{point_served, pinned_at}
use Rattle.store_world.specs.OfMap.{IsOfMap}
use Rattle.store_world.specs.Serving.{IsReplyAt, OwesAt, OwesItsPins, IsInWork, ServesItsPins}
use Rattle.store_world.specs.ServeLaws.{HasMorePoints, TurnsKeepServing}
use Rattle.call_machine.proofs.Acts.{point_ended, ends_at}
use Rattle.store_world.proofs.Grow.{made_grows}
use Rattle.store_world.proofs.OwesLists.{none_some, some_same, both_pushed}
use Rattle.store_world.proofs.Steps.{IsReady, reply_stays}
use Rattle.store_world.proofs.Made.{made_owes}
use Rattle.store_world.proofs.Ready.{IsCalled, called_by, ready_now}

-- what an ended call was served
record HasServed (script : Script) (points : List Point) (i number : ℕ) (outcome : Outcome) (served after : List (Option (List ℕ))) : Type 0 where
  pub entry : Option (List ℕ)
  pub more : after ≡ served ++ entry ∷ []
  pub owed : (place : ℕ) (bytes : List ℕ) → outcome ≡ Outcome.Served place → entry ≡ Some bytes → IsReplyAt script points i number place bytes

-- ---- after the step
module _ (script : Script) (points now : List Point) (i : ℕ) (a after : CallerOf) (grown : HasMorePoints points now) (was : ServesItsPins script points i a) (next : CallOf) (last : MachineOf) (is_last : last.call ≡ next)
    (owes : OwesItsPins script now i (length a.actor.ended) last) where
  -- the point that the call ends with is that of its pins
  serves : (point : ℕ) → act_of next ≡ Act.Finish (Outcome.Served point) → OwesAt script now i (length a.actor.ended) last point
  serves point over =
      let pinned : pinned_at next.state.at ≡ Some point =
      subst (λ (act : Act). IfSome (point_ended act) (λ (p : ℕ). pinned_at next.state.at ≡ Some p)) over (ends_at next.book.geometry next.tries next.job next.state.pairs next.state.at) in
      subst (λ (o : Option ℕ). IfSome o (OwesAt script now i (length a.actor.ended) last)) (ap (λ (c : CallOf). pinned_at c.state.at) is_last ∙ pinned) owes.owes

  has_served : (outcome : Outcome) → act_of next ≡ Act.Finish outcome → AreServed (Act.Finish outcome) (machine_of last.asked) last.owed a.served after.served
      → HasServed script now i (length a.actor.ended) outcome a.served after.served
  has_served (Outcome.Served point) over s =
      let of : OwesAt script now i (length a.actor.ended) last point = serves point over in
      let read : s.bytes ≡ last.owed = subst (λ (m : Machine). IfReads m (s.bytes ≡ last.owed)) of.reads s.reads in
      record {
        entry = Some s.bytes;
        more = s.more;
        owed = λ place bytes is e.
            subst (λ (p : ℕ). IsReplyAt script now i (length a.actor.ended) p bytes) (some_same point place (ap point_served is))
            (subst (λ (b : List ℕ). IsReplyAt script now i (length a.actor.ended) point b) (sym read ∙ some_same s.bytes bytes e) of.owed);
      }
  has_served outcome over s = record { entry = None; more = s; owed = λ place bytes is e. absurd (none_some bytes e) }

  old : (number place : ℕ) (bytes : List ℕ) → option_map (λ (e : Ended). e.outcome) (slice_get a.actor.ended number) ≡ Some (Outcome.Served place) → slice_get a.served number ≡ Some (Some bytes)
      → IsReplyAt script now i number place bytes
  old number place bytes e u = reply_stays script points now i number place bytes grown (was.ended number place bytes e u)

  -- the call goes on
  goes_on : after.actor ≡ record (a.actor) { doing = DoingOf.InCall next (steps_of a.actor.doing + 1) } → after.work ≡ Some last → after.served ≡ a.served → ServesItsPins script now i after
  goes_on actor work served =
      record {
        work =
            subst (λ (x : ActorOf). IsInWork (OwesItsPins script now i (length x.ended)) x.doing after.work) (sym actor)
            (record { c = last; is = work; same = is_last; held = owes });
        count = ap length served ∙ was.count ∙ ap (λ (x : ActorOf). length x.ended) (sym actor);
        ended = λ number place bytes e u.
            old number place bytes (ap (λ (x : ActorOf). option_map (λ (y : Ended). y.outcome) (slice_get x.ended number)) (sym actor) ∙ e)
            (ap (λ (xs : List (Option (List ℕ))). slice_get xs number) (sym served) ∙ u);
      }

  -- it has ended
  ends : (outcome : Outcome) → act_of next ≡ Act.Finish outcome → after.actor ≡ actor_after_by (Act.Finish outcome) next a.actor → after.work ≡ None
      → AreServed (Act.Finish outcome) (machine_of last.asked) last.owed a.served after.served → ServesItsPins script now i after
  ends outcome over actor work s =
      record {
        work = subst (λ (x : ActorOf). IsInWork (OwesItsPins script now i (length x.ended)) x.doing after.work) (sym actor) work;
        count =
            let long : length (a.served ++ h.entry ∷ []) ≡ length a.served + 1 = length_push a.served h.entry in
            let many : length (a.actor.ended ++ entry ∷ []) ≡ length a.actor.ended + 1 = length_push a.actor.ended entry in
            let same : length a.served ≡ length a.actor.ended = was.count in
            let both : length (a.served ++ h.entry ∷ []) ≡ length (a.actor.ended ++ entry ∷ []) = omega (arith, long, many, same) in
            ap length h.more ∙ both ∙ ap (λ (x : ActorOf). length x.ended) (sym actor);
        ended = λ number place bytes e u.
            by number place bytes
            (both_pushed (λ (y : Ended). y.outcome) entry h.entry (Outcome.Served place) (Some bytes) a.actor.ended a.served number was.count
            (ap (λ (x : ActorOf). option_map (λ (y : Ended). y.outcome) (slice_get x.ended number)) (sym actor) ∙ e)
            (ap (λ (xs : List (Option (List ℕ))). slice_get xs number) (sym h.more) ∙ u));
      }
    where
      entry : Ended
      entry = record { outcome = outcome; takes = next.takes }

      h : HasServed script now i (length a.actor.ended) outcome a.served after.served
      h = has_served outcome over s

      by : (number place : ℕ) (bytes : List ℕ)
          → ((option_map (λ (y : Ended). y.outcome) (slice_get a.actor.ended number) ≡ Some (Outcome.Served place)) × (slice_get a.served number ≡ Some (Some bytes)))
          ⊎ ((number ≡ length a.actor.ended) × (outcome ≡ Outcome.Served place) × (h.entry ≡ Some bytes))
          → IsReplyAt script now i number place bytes
      by number place bytes (inl k) = old number place bytes k.0 k.1
      by number place bytes (inr k) = subst (λ (n : ℕ). IsReplyAt script now i n place bytes) (sym k.0) (h.owed place bytes k.1 k.2)

  pub by_act : (act : Act) → act_of next ≡ act → after.actor ≡ actor_after_by act next a.actor → after.work ≡ left_by act last
      → AreServed act (machine_of last.asked) last.owed a.served after.served → ServesItsPins script now i after
  by_act (Act.Finish outcome) e actor work s = ends outcome e actor work s
  by_act (Act.AtDirectory step) e actor work s = goes_on actor work s
  by_act (Act.AtServer server step) e actor work s = goes_on actor work s

-- ---- a whole turn
module _ (script : Script) (i : ℕ) (a after : CallerOf) (d now : Sealed) (servers others : List ServerState) (of : IsOfMap script d) (part : ClientPart) (is : a.part ≡ PartOf.OfClient part)
    (there : slice_get script.clients i ≡ Some part) (keeps : KeepsToken d.core (actor.Client i) a.actor) (turns : MakesCallerTurn script i a d servers after now others) (was : ServesItsPins script d.core.points i a) where
  called : IsCalled script d.core i (length a.actor.ended) turns.makes.call turns.owes.before.asked (owed_now a.work)
  called =
      called_by script d.core i part a.actor.ended turns.makes.call turns.owes.before.asked a.work there
      (subst (λ (p : PartOf). asked_at p (length a.actor.ended) ≡ Some turns.owes.before.asked) is turns.owes.its) turns.makes.has.due
      (subst (λ (p : PartOf). actor_of turns.makes.call.token ≡ who_of p i) is turns.makes.has.whose) turns.makes.pass a.actor.doing
      (subst (λ (p : PartOf). IsCallBefore script (work_of p).jobs a.actor.ended a.actor.doing turns.makes.call) is turns.makes.has.call) keeps.agrees keeps.numbered was.work

  is_ready : IsReady script d.core i (length a.actor.ended) (ready turns.makes.turn.coding turns.makes.call) turns.owes.before
  is_ready = ready_now script d.core i (length a.actor.ended) turns.makes.call turns.owes.before (owed_now a.work) called turns.makes.turn.coding turns.owes.owed turns.owes.is_ready

  grown : HasMorePoints d.core.points now.core.points
  grown =
      made_grows (need_of (ready turns.makes.turn.coding turns.makes.call)) turns.makes.turn.short turns.makes.turn.due (ready turns.makes.turn.coding turns.makes.call) (places_of d servers) turns.makes.next (places_of now others)
      turns.makes.turn.made

  last_owes : OwesItsPins script now.core.points i (length a.actor.ended) turns.owes.last
  last_owes =
      made_owes script d now of i (length a.actor.ended) (ready turns.makes.turn.coding turns.makes.call) turns.owes.before turns.owes.last is_ready grown turns.makes.next servers others turns.makes.turn.short turns.makes.turn.due
      turns.owes.is_last turns.owes.asked turns.owes.goes (need_of (ready turns.makes.turn.coding turns.makes.call)) refl turns.makes.turn.made

  turn_serves : ServesItsPins script now.core.points i after
  turn_serves =
      by_act script d.core.points now.core.points i a after grown was turns.makes.next turns.owes.last turns.owes.is_last last_owes (act_of turns.makes.next) refl turns.makes.actor turns.owes.work turns.owes.served

pub turns_serve : TurnsKeepServing
turns_serve script i a after d now servers others of part is there keeps turns was = turn_serves script i a after d now servers others of part is there keeps turns was
