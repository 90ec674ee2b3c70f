-- A rebuild in which memory may be wanting.
use Rattle.std.proofs.Common.{◌≡◌, ◌⊎◌, ℕ, ◌+◌, ◌<◌, false, List, length, refl, sym, ap, subst, ◌∙◌, inl, inr, ne_eqb}
use Rattle.clay_grid.specs.Shape.{Shape, chunk_count, stripe_length}
use Rattle.store_map.specs.declared.actor.Actor.{Actor}
use Rattle.store_map.specs.declared.actor.Actor.TheVariants as actor
use Rattle.store_map.specs.declared.call.Rebuild.{Rebuild as RebuildCall}
use Rattle.store_core.specs.Act.{Act, Outcome}
use Rattle.store_core.specs.NextAct.{rebuild_job}
use Rattle.store_core.specs.Calls.{Calls}
use Rattle.store_core.specs.Lookups.{same_actor}
use Rattle.store_core.specs.Step.{Places}
use Rattle.run_laws.specs.State.{first_state}
use Rattle.run_laws.specs.StateActs.{act_of_state}
use Rattle.session_rules.specs.State.{State, numbers_of}
use Rattle.session_rules.specs.declared.session_answer.Answer.{Answer}
use Rattle.session_rules.specs.declared.request.Request.{Request}
use Rattle.session_rules.specs.Rebuilds.{rebuild}
use Rattle.session_rules.specs.Alone.{AtWork, steps, EndsAs}
use Rattle.session_rules.specs.AloneRebuilds.{rebuilt_as}
use Rattle.session_rules.specs.Quiet.{AreSwept}
use Rattle.session_rules.specs.Wants.{wanting_steps}
use Rattle.session_rules.specs.Seats.{MayBeginFrom}
use Rattle.session_rules.specs.Between.{Seats, IsBetween}
use Rattle.session_rules.specs.Serving.{AreSweptTo, IsServedAlone}
use Rattle.session_rules.specs.Answering.{RunsTo, IsAnswered, RebuildsAreAnswered}
use Rattle.session_rules.proofs.Doomed.{rebuild_ends_either}
use Rattle.session_rules.proofs.Ends.{same_ends, same_swept}
use Rattle.session_rules.proofs.Rests.{Rests, swept_to, between_swept}
use Rattle.session_rules.proofs.Repairs.{rebuild_served}
use Rattle.session_rules.proofs.WantingRebuild.{clean, seen_left, map_left, own, other, readers_left}

module _ (calls : Calls) (g : Shape) (max tries : ℕ) (seats : Seats) (stands : List ℕ) (p after : Places) (s : State) (name : List ℕ) (stripe server : ℕ) (outcome : Outcome) (some : 0 < stripe_length g)
    (parity : 0 < g.parity_count) (less : server < chunk_count g) (h : IsBetween calls g max seats stands p s)
    (run : RunsTo g tries (actor.Repairer seats.repairer) seats.rebuilds (rebuild_job (record { name = name; stripe = stripe; server = server })) p outcome after) where
  abbrev it : RebuildCall
  it = record { name = name; stripe = stripe; server = server }

  abbrev start : AtWork
  start = record { call = first_state; places = p }

  abbrev end : AtWork
  end = wanting_steps g tries (actor.Repairer seats.repairer) seats.rebuilds (rebuild_job it) run.shortages start

  abbrev next_seats : Seats
  next_seats = record seats { rebuilds = seats.rebuilds + 1 }

  abbrev served : State × Answer
  served = rebuild g stripe server s (numbers_of name s.numbers)

  abbrev Answered : Type 0
  Answered = (answered : IsAnswered calls g max seats s (Request.Rebuild name stripe server) after) × (outcome ≡ rebuilt_as answered.served.1)

  amply : end ≡ steps g tries (actor.Repairer seats.repairer) seats.rebuilds (rebuild_job it) (length run.shortages) start → Answered
  amply same =
      let alone : IsServedAlone calls g max tries seats s (Request.Rebuild name stripe server) p = rebuild_served calls g max tries seats stands p s some parity h name stripe server less in
      let ends : EndsAs g tries (actor.Repairer seats.repairer) seats.rebuilds (rebuild_job it) p outcome end.places =
      record {
        made = length run.shortages;
        over = ap (λ (w : AtWork). act_of_state g tries (rebuild_job it) w.call) (sym same) ∙ run.over;
        leaves = ap (λ (w : AtWork). w.places) (sym same);
      } in
      let one : (outcome ≡ rebuilt_as served.1) × (end.places ≡ alone.after) =
      same_ends g tries (actor.Repairer seats.repairer) seats.rebuilds (rebuild_job it) p end.places alone.after outcome (rebuilt_as served.1) ends alone.served in
      let there : alone.after ≡ after =
      same_swept g alone.after alone.after after (record { made = 0; idle = refl; clean = alone.between.quiet.clean }) (subst (λ (q : Places). AreSweptTo g q after) one.1 run.swept) in (
        record {
          served = served;
          allowed = inl refl;
          stands = alone.stands;
          between = subst (λ (q : Places). IsBetween calls g max next_seats alone.stands q served.0) there alone.between;
        },
        one.0,
      )

  module _ (want : outcome ≡ Outcome.NoMemory) where
    over : act_of_state g tries (rebuild_job it) end.call ≡ Act.Finish Outcome.NoMemory
    over = run.over ∙ ap (λ outcome. Act.Finish outcome) want

    swept : AreSwept g max stands end.places s
    swept = clean calls g max tries seats stands p s some h seats.repairer seats.rebuilds h.repairer it less run.shortages over

    beside : (who : Actor) (unused : ℕ) → same_actor (actor.Repairer seats.repairer) who ≡ false → MayBeginFrom p.directory who unused → MayBeginFrom end.places.directory who unused
    beside = other calls g max tries seats stands p s some h seats.repairer seats.rebuilds h.repairer it less run.shortages over

    rests : Rests calls g max next_seats stands end.places s
    rests = record {
      seen = seen_left calls g max tries seats stands p s some h seats.repairer seats.rebuilds h.repairer it less run.shortages over;
      its_map = map_left calls g max tries seats stands p s some h seats.repairer seats.rebuilds h.repairer it less run.shortages over;
      client = beside (actor.Client seats.client) seats.calls refl h.client;
      repairer = own calls g max tries seats stands p s some h seats.repairer seats.rebuilds h.repairer it less run.shortages over;
      healer = beside (actor.Repairer seats.healer) s.next (ne_eqb seats.repairer seats.healer h.apart) h.healer;
      apart = h.apart;
      readers = h.readers;
      snapshot = readers_left calls g max tries seats stands p s some h seats.repairer seats.rebuilds h.repairer it less run.shortages over;
    }

    there : swept.after ≡ after
    there = same_swept g end.places swept.after after (swept_to calls g max next_seats stands end.places s some rests swept) run.swept

    pub wanting_between : IsBetween calls g max next_seats stands after s
    wanting_between = subst (λ (q : Places). IsBetween calls g max next_seats stands q s) there (between_swept calls g max next_seats stands end.places s some rests swept)

  pub rebuild_answered : Answered
  rebuild_answered = by (rebuild_ends_either g tries (actor.Repairer seats.repairer) seats.rebuilds it run.shortages p outcome h.repairer run.over)
    where
      by : (outcome ≡ Outcome.NoMemory) ⊎ (end ≡ steps g tries (actor.Repairer seats.repairer) seats.rebuilds (rebuild_job it) (length run.shortages) start) → Answered
      by (inl want) = (record { served = (s, Answer.NoMemory); allowed = inr (refl, refl); stands = stands; between = wanting_between want }, want)
      by (inr same) = amply same

pub rebuilds_are_answered : RebuildsAreAnswered
rebuilds_are_answered calls g max tries seats stands p after s name stripe server outcome some parity less h run =
    rebuild_answered calls g max tries seats stands p after s name stripe server outcome some parity less h run
