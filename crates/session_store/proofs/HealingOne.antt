-- A rebuild of the healer runs alone.
use Rattle.std.proofs.Common.{◌≡◌, ℕ, ◌+◌, ◌<◌, ◌≤◌, ◌^◌, Bool, true, false, List, [], ◌∷◌, length, replicate, Option, None, Some, IfSome, refl, sym, ap, subst, ◌∙◌, nat_lt, if◌then◌else◌}
use Rattle.std.specs.List.{list_any}
use Rattle.std.proofs.lemmas.List.{length-replicate}
use Rattle.std.proofs.lemmas.Option.{same_Some}
use Rattle.clay_grid.specs.Shape.{Shape, chunk_count}
use Rattle.clay_grid.specs.Limits.{IsGeometry}
use Rattle.store_map.specs.declared.actor.Actor.{Actor}
use Rattle.store_map.specs.declared.actor.Actor.TheVariants as actor
use Rattle.store_map.specs.declared.call.Rebuild.{Rebuild as RebuildCall}
use Rattle.store_core.specs.Act.{Act}
use Rattle.store_core.specs.Agreement.{Seat, ActorToken, Agrees, AgreesWithSeat}
use Rattle.store_core.specs.Calls.{Calls}
use Rattle.store_core.specs.Lookups.{same_actor}
use Rattle.store_core.specs.NextAct.{Job, rebuild_job}
use Rattle.store_core.specs.Server.{raised_by}
use Rattle.store_core.specs.Step.{Shortage, at_places, take_from}
use Rattle.store_core.specs.Told.{Told}
use Rattle.store_core.specs.Tokens.{actor_of}
use Rattle.run_laws.specs.State.{CallState}
use Rattle.run_laws.specs.StateActs.{act_of_state}
use Rattle.version_seal.specs.Entry.{BookOf}
use Rattle.version_table.proofs.TableSteps.{length-change_at}
use Rattle.session_rules.specs.Alone.{AtWork}
use Rattle.session_rules.specs.Wants.{after_coding, wanting_step}
use Rattle.session_rules.specs.Seats.{ran, HasEnded}
use Rattle.session_rules.specs.Answering.{took}
use Rattle.call_steps.specs.CallOf.{tries_by, act_of, taken_of}
use Rattle.call_machine.specs.Calls.{MachineOf, first_call, tries_in}
use Rattle.call_machine.specs.Kinds.{Asked, Machine}
use Rattle.session_store.specs.AtWork.{HasRun, first_at}
use Rattle.session_store.proofs.AloneRunning.{calls_run_alone}
use Rattle.call_steps.specs.CallOutcomes.{call_outcome_of}
use Rattle.call_steps.specs.declared.outcome.CallOutcome.{CallOutcome}
use Rattle.session_store.specs.declared.session_parts.Parts.{Parts}
use Rattle.session_store.specs.declared.places.SessionPlaces.{SessionPlaces}
use Rattle.session_store.specs.Places.{seen_in}
use Rattle.session_store.specs.CallBytes.{IsKnownBy, KnowsBytes}
use Rattle.session_store.specs.Running.{IsLow, MayRun, HasRunTo, left_of}
use Rattle.session_store.specs.Healing.{HoldsBytes, MayHeal, KeepsOthers, is_rebuilt, added_if, HasHealedOne}
use Rattle.session_store.proofs.Bounds.{rebuild_steps_few}

-- ---- counts of servers stay counts of servers
took_step : (act : Act) (answer : Told) (takes : List ℕ) → length (take_from act answer takes) ≡ length takes
took_step (Act.AtServer server step) (Told.Given layers) takes = length-change_at server (raised_by layers) takes
took_step act answer takes = refl

pub took_length : (g : Shape) (tries : ℕ) (who : Actor) (number : ℕ) (job : Job) (shortages : List Shortage) (w : AtWork) (takes : List ℕ) → length (took g tries who number job shortages w takes) ≡ length takes
took_length g tries who number job [] w takes = refl
took_length g tries who number job (shortage ∷ shortages) w takes =
    let call : CallState = after_coding g tries who number job shortage.coding w.call in
    let act : Act = act_of_state g tries job call in
    let answer : Told = (at_places shortage.step who number act w.places).1 in
    took_length g tries who number job shortages (wanting_step g tries who number job shortage w) (take_from act answer takes) ∙ took_step act answer takes

taken_length : (takes : List ℕ) (n : ℕ) → length takes ≡ n → IfSome (taken_of takes) (λ counts. length counts ≡ n)
taken_length takes n same = by (list_any (nat_lt 0) takes)
  where
    by : (b : Bool) → IfSome (if b then Some takes else None) (λ (counts : List ℕ). length counts ≡ n)
    by true = same
    by false = tt

-- ---- one rebuild
module _ (old : Parts) (heals : MayHeal old) (it : RebuildCall) (below : it.server < chunk_count old.places.book.geometry) (seat : Seat) (seat_is : old.healer ≡ Some seat) (first : MachineOf) (opening : BookOf)
    (opening_is : opening ≡ old.places.book) (first_is : first ≡ first_call opening 1 seat old.next (Asked.OfRepairer it)) where
  its_seat : heals.healer.seat ≡ seat
  its_seat = same_Some heals.healer.seat seat (sym heals.healer.there ∙ seat_is)

  first_here : first ≡ first_call old.places.book 1 seat old.next (Asked.OfRepairer it)
  first_here = first_is ∙ ap (λ (b : BookOf). first_call b 1 seat old.next (Asked.OfRepairer it)) opening_is

  seat_who : seat.actor ≡ actor.Repairer 1
  seat_who = ap (λ (x : Seat). x.actor) (sym its_seat) ∙ heals.healer.actor

  number_is : first.call.number ≡ old.next
  number_is = ap (λ (x : MachineOf). x.call.number) first_here

  asked_is : first.asked ≡ Asked.OfRepairer it
  asked_is = ap (λ (x : MachineOf). x.asked) first_here

  who_is : actor_of first.call.token ≡ actor.Repairer 1
  who_is = ap (λ (x : MachineOf). actor_of x.call.token) first_here ∙ seat_who

  known_bytes : (calls : Calls) → HoldsBytes calls old.places.directory → KnowsBytes calls first old.places
  known_bytes calls holds = record { bytes = holds.bytes; drawn = holds.drawn; contents = holds.contents; known = subst (IsKnownBy calls first) (sym asked_is) tt }

  pub may_heal_one : MayRun first old.places
  may_heal_one = record {
    places = heals.places;
    seat = seat;
    tries = 1;
    first = first_here ∙ (λ i. first_call old.places.book 1 seat (sym number_is i) (sym asked_is i));
    unused = subst (λ n. seat.unused ≤ n) (sym number_is) (subst (λ (x : Seat). x.unused ≤ old.next) its_seat heals.healer.unused);
    agrees = subst (λ x. AgreesWithSeat old.places.directory.core x) its_seat heals.healer.agrees;
    calls = heals.calls;
    bytes = known_bytes heals.calls heals.holds;
    target = λ e. subst (λ (x : MachineOf). x.call.job.target < chunk_count old.places.book.geometry) (sym first_here) below;
    few =
        subst (λ (x : MachineOf). left_of old.places.directory.core.max x [] < 2 ^ 64) (sym first_here)
        (rebuild_steps_few old.places.book.geometry old.places.directory.core.max (tries_in Machine.Rebuilds 1 old.places.book) (rebuild_job it) heals.code refl);
  }

  -- ---- after it
  module _ (c : MachineOf) (left : SessionPlaces) (run : HasRunTo first old.places c left) (outcome : CallOutcome) (over : act_of c.call ≡ Act.Finish (call_outcome_of outcome)) (takes : Option (List ℕ)) (takes_are : takes ≡ taken_of c.call.takes) where
    abbrev g : Shape
    g = old.places.book.geometry

    abbrev tries : ℕ
    tries = tries_by old.places.book.script

    abbrev counts : List ℕ
    counts = took g tries (actor.Repairer 1) old.next (rebuild_job it) run.shortages (first_at (seen_in old.places)) (replicate (chunk_count g) 0)

    run_first : HasRun g tries (actor.Repairer 1) old.next (rebuild_job it) run.shortages (seen_in old.places) c.call (seen_in left)
    run_first =
        subst (λ (a : Actor). HasRun g tries a old.next (rebuild_job it) run.shortages (seen_in old.places) c.call (seen_in left)) seat_who
        (subst (λ (x : MachineOf). HasRun g x.call.tries (actor_of x.call.token) x.call.number x.call.job run.shortages (seen_in old.places) c.call (seen_in left)) first_here run.run)

    counts_are : c.call.takes ≡ counts
    counts_are =
        subst (λ (a : Actor). c.call.takes ≡ took g tries a old.next (rebuild_job it) run.shortages (first_at (seen_in old.places)) (replicate (chunk_count g) 0)) seat_who
        (subst (λ (x : MachineOf). c.call.takes ≡ took g x.call.tries (actor_of x.call.token) x.call.number x.call.job run.shortages (first_at (seen_in old.places)) (replicate (chunk_count g) 0)) first_here run.takes)

    has_ended : HasEnded g tries (actor.Repairer 1) old.next (rebuild_job it) run.shortages (seen_in old.places) (call_outcome_of outcome)
        × ((ran g tries (actor.Repairer 1) old.next (rebuild_job it) run.shortages (seen_in old.places)).places ≡ seen_in left)
    has_ended = (calls_run_alone.ends g tries (actor.Repairer 1) old.next (rebuild_job it)).run run.shortages (seen_in old.places) (seen_in left) c.call (call_outcome_of outcome) over run.uncoded run_first

    pub takes_of_servers : (taken : List ℕ) → length taken ≡ chunk_count g → IfSome takes (λ counts. length counts ≡ length taken)
    takes_of_servers taken count =
        subst (λ (found : Option (List ℕ)). IfSome found (λ counts. length counts ≡ length taken)) (sym takes_are)
        (taken_length c.call.takes (length taken)
        (ap length counts_are ∙ took_length g tries (actor.Repairer 1) old.next (rebuild_job it) run.shortages (first_at (seen_in old.places)) (replicate (chunk_count g) 0) ∙ length-replicate (chunk_count g) 0 ∙ sym count))

    module _ (seat_now : Seat) (seat_after : ActorToken.Seated seat_now ≡ c.call.token) where
      abbrev now : Parts
      now = record old { places = left; healer = Some seat_now; next = old.next + 1 }

      holds_after : (calls : Calls) → HoldsBytes calls old.places.directory → HoldsBytes calls left.directory
      holds_after calls holds = let known : KnowsBytes calls c left = run.bytes calls (known_bytes calls holds) in record { bytes = known.bytes; drawn = known.drawn; contents = known.contents }

      keeps : KeepsOthers old now
      keeps = record {
        may = record {
          code = subst (λ (b : BookOf). IsGeometry b.geometry) (sym run.same.book) heals.code;
          places = run.same.places;
          healer = record {
            seat = seat_now;
            there = refl;
            actor = ap actor_of seat_after ∙ run.run.its.its_actor ∙ who_is;
            unused = subst (λ n. seat_now.unused ≤ n + 1) number_is (subst (IsLow first.call.number) (sym seat_after) run.low);
            agrees = subst (Agrees left.directory.core) (sym seat_after) run.agrees;
          };
          calls = heals.calls;
          holds = holds_after heals.calls heals.holds;
        };
        same = run.same;
        most = run.most;
        others = λ token apart agrees. run.others token (ap (λ a. same_actor a (actor_of token)) who_is ∙ apart) agrees;
        holds = holds_after;
        rest = refl;
      }

      healed_so : (taken : List ℕ) → HasHealedOne old it taken (is_rebuilt (call_outcome_of outcome)) now (added_if takes taken)
      healed_so taken = record {
        keeps = keeps;
        next = refl;
        shortages = run.shortages;
        outcome = call_outcome_of outcome;
        over = has_ended.0;
        leaves = has_ended.1;
        told = refl;
        takes = ap (λ found. added_if found taken) (takes_are ∙ ap taken_of counts_are);
      }

      pub healed_one : (taken total : List ℕ) (told : Bool) (healer : Option Seat) → healer ≡ Some seat_now → total ≡ added_if takes taken → told ≡ is_rebuilt (call_outcome_of outcome) →
          HasHealedOne old it taken told (record old { places = left; healer = healer; next = old.next + 1 }) total
      healed_one taken total told healer there all tells =
          subst (λ (place : Option Seat). HasHealedOne old it taken told (record old { places = left; healer = place; next = old.next + 1 }) total) (sym there)
          (subst (λ (l : List ℕ). HasHealedOne old it taken told now l) (sym all) (subst (λ (b : Bool). HasHealedOne old it taken b now (added_if takes taken)) (sym tells) (healed_so taken)))
