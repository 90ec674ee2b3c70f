-- A call that begins may look, under its number.
use Rattle.std.proofs.Common.{◌≡◌, ℕ, ◌<◌, ◌≤◌, IsTrue, arith, sym, ap, subst, inl, inr, refl}
use Rattle.std.proofs.lemmas.List.Elements.{All-weaker}
use Rattle.store_map.specs.declared.actor.Actor.{Actor}
use Rattle.store_map.specs.declared.actor.Actor.TheVariants as actor
use Rattle.store_map.specs.declared.call.Call.{Call}
use Rattle.store_map.specs.declared.call.Call.TheVariants as call
use Rattle.store_core.specs.Act.{DirectoryStep}
use Rattle.store_core.specs.Agreement.{Seat, ActorToken, AgreesWithSeat, Agrees}
use Rattle.store_core.specs.Conditions.{MayBegin, IsOfClient, MayStep}
use Rattle.store_core.specs.Directory.{Point, Event, Directory}
use Rattle.store_core.specs.Lookups.{same_actor}
use Rattle.store_core.specs.NextAct.{job_of}
use Rattle.store_core.specs.Note.{Note}
use Rattle.store_core.specs.Tokens.{actor_of}
use Rattle.run_laws.proofs.CallActs.{IsOfClients}
use Rattle.call_steps.specs.CallOf.{CallOf}
use Rattle.call_steps.specs.TokenAfter.{IfInCall}
use Rattle.call_steps.specs.Steps.{HoldsItsPass}
use Rattle.world_laws.specs.Tokens.{IsUsedBelow}

may_begin : (d : Directory) (seat : Seat) (number : ℕ) → AgreesWithSeat d seat → seat.unused ≤ number → MayBegin d seat.actor number
may_begin d seat number agrees unused =
    record {
      no_pass = agrees.no_pass;
      numbers =
          All-weaker (λ (p : Point). IsTrue (same_actor p.actor seat.actor) → p.number < seat.unused)
          (λ (p : Point). IsTrue (same_actor p.actor seat.actor) → (p.number ≤ number) × (p.number ≡ number → p.event ≡ Event.Reaped))
          (λ p below own. let less : p.number < seat.unused = below own in (omega (arith, less, unused), λ same. absurd (omega (arith, less, unused, same)))) d.points agrees.numbers;
    }

by_token : (token : ActorToken) (d : Directory) (who : Actor) (number count : ℕ) (note its : Note) → number ≡ count → actor_of token ≡ who → Agrees d token → IsUsedBelow count token
    → IfInCall token (λ held. (held.pass.note ≡ its) × (held.pass.number ≡ number)) → MayBegin d who number
by_token (ActorToken.Seated seat) d who number count note its is whose agrees used held =
    subst (λ (w : Actor). MayBegin d w number) whose (may_begin d seat number agrees (omega (arith, used, is)))
by_token (ActorToken.InCall h) d who number count note its is whose agrees used held =
    let same : h.pass.number ≡ number = held.1 in
    let less : h.pass.number < count = used in
    absurd (omega (arith, same, less, is))

-- a client's call is no rebuild
of_client : (i : ℕ) (of : Call) → IsOfClient (actor.Client i) (job_of of).note
of_client i (call.Put name content) = inr (inr ((λ e. subst IsOfClients e tt), refl))
of_client i (call.Write name offset content) = inl refl
of_client i (call.Get name) = inr (inr ((λ e. subst IsOfClients e tt), refl))
of_client i (call.ReadAt name offset count) = inr (inl refl)
of_client i (call.Stat name) = inr (inr ((λ e. subst IsOfClients e tt), refl))
of_client i (call.Delete name) = inr (inr ((λ e. subst IsOfClients e tt), refl))

-- the look of a client's call
pub may_open : (c : CallOf) (d : Directory) (i count : ℕ) (written : Call) → c.number ≡ count → actor_of c.token ≡ actor.Client i → Agrees d c.token → IsUsedBelow count c.token → HoldsItsPass c
    → c.job ≡ job_of written → MayStep d (actor.Client i) c.number (DirectoryStep.Look c.job.note)
may_open c d i count written is whose agrees used pass job = (
  by_token c.token d (actor.Client i) c.number count c.job.note c.job.note is whose agrees used pass.its,
  subst (IsOfClient (actor.Client i)) (ap (λ j. j.note) (sym job)) (of_client i written),
)
