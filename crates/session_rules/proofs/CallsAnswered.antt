-- A call of the map in which memory may be wanting.
use Rattle.std.proofs.Common.{◌≡◌, ◌⊎◌, ℕ, ◌<◌, List, length, Some, refl, sym, ap, subst, ◌∙◌, inl, inr}
use Rattle.clay_grid.specs.Shape.{Shape, stripe_length}
use Rattle.store_map.specs.declared.actor.Actor.TheVariants as actor
use Rattle.store_map.specs.declared.call.Call.{Call}
use Rattle.store_core.specs.Act.{Act, Outcome}
use Rattle.store_core.specs.NextAct.{job_of}
use Rattle.store_core.specs.Calls.{Calls}
use Rattle.store_core.specs.Conditions.{MayBegin}
use Rattle.store_core.specs.Step.{Places}
use Rattle.run_laws.specs.State.{first_state}
use Rattle.run_laws.specs.StateActs.{act_of_state}
use Rattle.session_rules.specs.State.{State}
use Rattle.session_rules.specs.declared.session_answer.Answer.{Answer}
use Rattle.session_rules.specs.declared.request.Request.{Request}
use Rattle.session_rules.specs.Calls.{serve_call}
use Rattle.session_rules.specs.Alone.{AtWork, steps, EndsAs}
use Rattle.session_rules.specs.Outcomes.{outcome_at}
use Rattle.session_rules.specs.Quiet.{AreSwept}
use Rattle.session_rules.specs.Wants.{wanting_steps}
use Rattle.session_rules.proofs.Wants.{wants_are_unseen}
use Rattle.session_rules.proofs.WantsSettled.{wants_are_swept}
use Rattle.session_rules.proofs.CallLeft.{calls_leave_maps}
use Rattle.session_rules.specs.Seats.{MayBeginFrom}
use Rattle.session_rules.specs.Between.{Seats, seats_after, IsBetween}
use Rattle.session_rules.specs.Serving.{AreSweptTo, IsServedAlone}
use Rattle.session_rules.specs.Answering.{RunsTo, IsAnswered, CallsAreAnswered}
use Rattle.session_rules.proofs.CallSeats.{call_seated}
use Rattle.session_rules.proofs.Doomed.{call_ends_either}
use Rattle.session_rules.proofs.RunKept.{begins, steps_leave}
use Rattle.session_rules.proofs.Leaving.{steps_leave as steps_keep}
use Rattle.session_rules.proofs.Readers.{client_apart, holds_after}
use Rattle.session_rules.proofs.Ends.{same_ends, same_swept}
use Rattle.session_rules.proofs.Rests.{Rests, swept_to, between_swept}
use Rattle.session_rules.proofs.Clients.{of_client, call_served}

module _ (calls : Calls) (g : Shape) (max tries : ℕ) (seats : Seats) (stands : List ℕ) (p after : Places) (s : State) (c : Call) (outcome : Outcome) (some : 0 < stripe_length g) (tried : 0 < tries)
    (h : IsBetween calls g max seats stands p s) (is : calls (actor.Client seats.client) seats.calls ≡ Some c) (run : RunsTo g tries (actor.Client seats.client) seats.calls (job_of c) p outcome after) where
  abbrev start : AtWork
  start = record { call = first_state; places = p }

  abbrev end : AtWork
  end = wanting_steps g tries (actor.Client seats.client) seats.calls (job_of c) run.shortages start

  abbrev next_seats : Seats
  next_seats = seats_after (Request.OfMap c) seats

  abbrev Answered : Type 0
  Answered = (answered : IsAnswered calls g max seats s (Request.OfMap c) after) × (outcome ≡ outcome_at (length p.directory.points) answered.served.1)

  begin : MayBegin p.directory (actor.Client seats.client) seats.calls
  begin = begins p.directory (actor.Client seats.client) seats.calls h.client

  -- the call did what it does with ample memory
  amply : end ≡ steps g tries (actor.Client seats.client) seats.calls (job_of c) (length run.shortages) start → Answered
  amply same =
      let alone : IsServedAlone calls g max tries seats s (Request.OfMap c) p = call_served calls g max tries seats stands p s some tried h c is in
      let ends : EndsAs g tries (actor.Client seats.client) seats.calls (job_of c) p outcome end.places =
      record {
        made = length run.shortages;
        over = ap (λ (w : AtWork). act_of_state g tries (job_of c) w.call) (sym same) ∙ run.over;
        leaves = ap (λ (w : AtWork). w.places) (sym same);
      } in
      let one : (outcome ≡ outcome_at (length p.directory.points) (serve_call g max c s).1) × (end.places ≡ alone.served.left) =
      same_ends g tries (actor.Client seats.client) seats.calls (job_of c) p end.places alone.served.left outcome (outcome_at (length p.directory.points) (serve_call g max c s).1) ends alone.served.ends in
      let there : alone.after ≡ after = same_swept g alone.served.left alone.after after alone.served.swept (subst (λ (q : Places). AreSweptTo g q after) one.1 run.swept) in (
        record {
          served = serve_call g max c s;
          allowed = inl refl;
          stands = alone.stands;
          between = subst (λ (q : Places). IsBetween calls g max (seats_after (Request.OfMap c) seats) alone.stands q (serve_call g max c s).0) there alone.between;
        },
        one.0,
      )

  -- it ended for want of memory
  pub wanting_between : outcome ≡ Outcome.NoMemory → IsBetween calls g max (seats_after (Request.OfMap c) seats) stands after s
  wanting_between want =
      subst (λ (q : Places). IsBetween calls g max (seats_after (Request.OfMap c) seats) stands q s) there (between_swept calls g max next_seats stands end.places s some rests clean)
    where
      over : act_of_state g tries (job_of c) (wanting_steps g tries (actor.Client seats.client) seats.calls (job_of c) run.shortages (record { call = first_state; places = p })).call ≡ Act.Finish Outcome.NoMemory
      over = run.over ∙ ap (λ outcome. Act.Finish outcome) want

      clean : AreSwept g max stands (wanting_steps g tries (actor.Client seats.client) seats.calls (job_of c) run.shortages (record { call = first_state; places = p })).places s
      clean = wants_are_swept.calls g max tries stands p s (actor.Client seats.client) seats.calls c run.shortages some h.seen h.pinned h.quiet begin (of_client seats.client c) over

      other : (repairer unused : ℕ) → MayBeginFrom p.directory (actor.Repairer repairer) unused →
          MayBeginFrom (wanting_steps g tries (actor.Client seats.client) seats.calls (job_of c) run.shortages (record { call = first_state; places = p })).places.directory (actor.Repairer repairer) unused
      other repairer unused seat = steps_leave (actor.Repairer repairer) unused g tries (actor.Client seats.client) seats.calls (job_of c) refl run.shortages (record { call = first_state; places = p }) seat

      rests : Rests calls g max (seats_after (Request.OfMap c) seats) stands
          (wanting_steps g tries (actor.Client seats.client) seats.calls (job_of c) run.shortages (record { call = first_state; places = p })).places s
      rests = record {
        seen = wants_are_unseen.calls g max tries stands p s (actor.Client seats.client) seats.calls c run.shortages some h.seen begin (of_client seats.client c) over;
        its_map = calls_leave_maps.ended calls g max tries stands p s (actor.Client seats.client) seats.calls c run.shortages Outcome.NoMemory some h.seen h.its_map begin (of_client seats.client c) is over;
        client = call_seated g tries (actor.Client seats.client) seats.calls c p run.shortages Outcome.NoMemory h.client over;
        repairer = other seats.repairer seats.rebuilds h.repairer;
        healer = other seats.healer s.next h.healer;
        apart = h.apart;
        readers = h.readers;
        snapshot =
            holds_after calls g max seats.readers seats.looks stands stands p s some h.seen h.snapshot (actor.Client seats.client) (client_apart seats.client seats.readers h.readers)
            (wanting_steps g tries (actor.Client seats.client) seats.calls (job_of c) run.shortages (record { call = first_state; places = p })).places.directory
            (λ P keeps its. steps_keep P (actor.Client seats.client) keeps g tries seats.calls (job_of c) run.shortages (record { call = first_state; places = p }) its)
            (call_seated g tries (actor.Client seats.client) seats.calls c p run.shortages Outcome.NoMemory h.client over).no_pass (λ n e. refl);
      }

      there : clean.after ≡ after
      there =
          same_swept g (wanting_steps g tries (actor.Client seats.client) seats.calls (job_of c) run.shortages (record { call = first_state; places = p })).places clean.after after
          (swept_to calls g max next_seats stands end.places s some rests clean) run.swept

  pub answered : Answered
  answered = by (call_ends_either g tries (actor.Client seats.client) seats.calls c run.shortages p outcome h.client run.over)
    where
      by : (outcome ≡ Outcome.NoMemory) ⊎ (end ≡ steps g tries (actor.Client seats.client) seats.calls (job_of c) (length run.shortages) start) → Answered
      by (inl want) = (record { served = (s, Answer.NoMemory); allowed = inr (refl, refl); stands = stands; between = wanting_between want }, want)
      by (inr same) = amply same

pub calls_are_answered : CallsAreAnswered
calls_are_answered calls g max tries seats stands p after s c outcome some tried h is run = answered calls g max tries seats stands p after s c outcome some tried h is run
