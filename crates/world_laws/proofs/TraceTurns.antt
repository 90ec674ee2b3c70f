-- An actor's turn in a trace.
use Rattle.std.proofs.Common.{◌≡◌, ℕ, Bool, true, false, ◌&&◌, List, [], ◌∷◌, ◌++◌, length, Option, None, Some, IsTrue, refl, sym, ap, ◌∙◌}
use Rattle.std.specs.List.{slice_get}
use Rattle.store_map.specs.Limits.{tries_of}
use Rattle.store_map.specs.declared.actor.Actor.{Actor}
use Rattle.store_map.specs.declared.actor.Actor.TheVariants as actor
use Rattle.store_map.specs.declared.script.Script.{Script}
use Rattle.store_core.specs.Act.{Act}
use Rattle.store_core.specs.ActPlace.{is_in_pass}
use Rattle.store_core.specs.Core.{Core}
use Rattle.store_core.specs.NextAct.{Job, next_act}
use Rattle.store_core.specs.Run.{places_in}
use Rattle.store_core.specs.Step.{Shortage, Places, at_places, told_first}
use Rattle.store_core.specs.Work.{Work, Calling, client_work, repairer_work, has_step}
use Rattle.run_laws.specs.ShortageLaws.{may_turn}
use Rattle.history_laws.specs.Trace.{Made, call_made, job_made, made_if, made_by}
use Rattle.call_steps.specs.CallOf.{CallOf, act_of}
use Rattle.call_steps.specs.Steps.{IsDueInPass}
use Rattle.call_steps.specs.Stands.{Stands}
use Rattle.call_steps.specs.Ready.{ready, shortage_of}
use Rattle.call_steps.proofs.Codings.{acts_stand}
use Rattle.world_laws.specs.World.{ActorOf, WorldOf}
use Rattle.world_laws.specs.Known.{calling_of}
use Rattle.world_laws.specs.StandsFor.{AllStand, StandsFor}
use Rattle.world_laws.specs.ActorAfter.{HasTurn}
use Rattle.world_laws.proofs.Actors.{Found, found, none_found, same_turn}
use Rattle.world_laws.proofs.Made.{none_turns}
use Rattle.world_laws.proofs.Turns.{Ready, ready_for}
use Rattle.world_laws.specs.TurnMade.{turn_made, places_of}
use Rattle.world_laws.specs.TurnTells.{ClientsTell, RepairersTell}

-- the core's places are the world's
pub same_places : (script : Script) (w : WorldOf) (core : Core) → StandsFor script w core → places_in core ≡ places_of w
same_places script w core stands = λ k. record { directory = stands.directory k; servers = stands.servers k }

-- want of memory in a coding that is due counts, since the call has a pass then
short_counts : (due coding in_pass : Bool) → (due ≡ true → IsTrue in_pass) → ((due && coding) && in_pass) ≡ (due && coding)
short_counts false coding in_pass h = refl
short_counts true false in_pass h = refl
short_counts true true in_pass h = h refl

-- the step of a call whose machine stands for its actor
call_turn : (script : Script) (who : Actor) (job : Job) (calling : Calling) (c : CallOf) (coding short : Bool) (before places : Places) → Stands script.geometry (tries_of script) job calling c
    → IsDueInPass c → before ≡ places → call_made script (shortage_of coding short c) who calling before job ≡ turn_made who coding short c places
call_turn script who job calling c coding short before places stands in_pass same =
    let now : next_act script.geometry (tries_of script) job calling.told ≡ act_of c = acts_stand.now script.geometry (tries_of script) job calling c stands in
    let act : next_act script.geometry (tries_of script) job
    (told_first (c.due && coding) (is_in_pass (next_act script.geometry (tries_of script) job calling.told)) script.geometry job calling.told) ≡ act_of (ready coding c) =
    (λ k. next_act script.geometry (tries_of script) job (told_first (c.due && coding) (is_in_pass (now k)) script.geometry job calling.told))
    ∙ acts_stand.next script.geometry (tries_of script) job calling c coding stands in_pass in
    let counts : ((c.due && coding) && is_in_pass (next_act script.geometry (tries_of script) job calling.told)) ≡ (c.due && coding) =
    ap (λ (made : Act). (c.due && coding) && is_in_pass made) now ∙ short_counts c.due coding (is_in_pass (act_of c)) in_pass in
    let number : length calling.ended ≡ c.number = sym stands.number in
    λ k. record { who = who; number = number k; short = counts k; act = act k; answer = (at_places short who (number k) (act k) (same k)).1 }

-- the step that an actor makes
step_told : (script : Script) (shortage : Shortage) (who : Actor) (places : Places) (works : Option Work) (callings : Option Calling) (work : Work) (calling : Calling) (job : Job) → works ≡ Some work
    → callings ≡ Some calling → has_step work calling ≡ true → slice_get work.jobs (length calling.ended) ≡ Some job
    → made_by script shortage who works callings places ≡ call_made script shortage who calling places job ∷ []
step_told script shortage who places works callings work calling job is_work is_calling has is_job =
    (λ k. made_by script shortage who (is_work k) (is_calling k) places)
    ∙ ap (λ b. made_if b script shortage who work calling places) has
    ∙ ap (job_made script shortage who calling places) is_job

-- an actor without a turn makes none
pub none_told : (script : Script) (shortage : Shortage) (who : Actor) (places : Places) (works : Option Work) (callings : Option Calling) → may_turn works callings ≡ false
    → made_by script shortage who works callings places ≡ []
none_told script shortage who places (Some work) (Some calling) none = ap (λ b. made_if b script shortage who work calling places) none
none_told script shortage who places (Some work) None none = refl
none_told script shortage who places None callings none = refl

-- an actor that isn't there has no turn
absent_turns : (works : Option Work) (callings : Option Calling) → callings ≡ None → may_turn works callings ≡ false
absent_turns (Some work) callings none = ap (may_turn (Some work)) none
absent_turns None callings none = refl

module _ (script : Script) (who : Actor) (w : WorldOf) (core : Core) (stands : StandsFor script w core)
    (works : List Work) (callings : List Calling) (actors : List ActorOf) (all : AllStand script works callings actors) (i : ℕ) where
  turn_told : (work : Work) (a : ActorOf) → slice_get works i ≡ Some work → slice_get actors i ≡ Some a → (c : CallOf) (coding short : Bool) → HasTurn script who work a c
      → made_by script (shortage_of coding short c) who (slice_get works i) (slice_get callings i) (places_in core) ++ [] ≡ turn_made who coding short c (places_of w) ∷ []
  turn_told work a is_work is_a c coding short turn =
      let one : Found script work callings a i = found script works callings actors i work a all is_work is_a in
      let its_call : Ready script work.jobs one.calling c = ready_for script work.jobs one.calling a c one.stands turn.call in
      ap (λ l. l ++ [])
      (step_told script (shortage_of coding short c) who (places_in core) (slice_get works i) (slice_get callings i) work one.calling its_call.job is_work one.is_calling
      (same_turn script work one.calling a one.stands ∙ turn.may) its_call.is_next)
      ∙ ap (λ (made : Made). made ∷ [])
      (call_turn script who its_call.job one.calling c coding short (places_in core) (places_of w) its_call.stands turn.due (same_places script w core stands))

  module _ (shortage : Shortage) where
    no_turn_told : (work : Work) (a : ActorOf) → slice_get works i ≡ Some work → slice_get actors i ≡ Some a → has_step work (calling_of script a) ≡ false
        → made_by script shortage who (slice_get works i) (slice_get callings i) (places_in core) ++ [] ≡ []
    no_turn_told work a is_work is_a none =
        ap (λ l. l ++ [])
        (none_told script shortage who (places_in core) (slice_get works i) (slice_get callings i)
        (none_turns script who core w.directory w.servers stands.directory stands.servers works callings actors all i work a is_work is_a none))

    absent_told : slice_get actors i ≡ None → made_by script shortage who (slice_get works i) (slice_get callings i) (places_in core) ++ [] ≡ []
    absent_told none =
        ap (λ l. l ++ [])
        (none_told script shortage who (places_in core) (slice_get works i) (slice_get callings i)
        (absent_turns (slice_get works i) (slice_get callings i) (none_found script works callings actors i all none)))

pub clients_tell : (script : Script) (i : ℕ) (w : WorldOf) → ClientsTell script i w
clients_tell script i w =
    record {
      turns = λ work a is_work is_a. record {
        turn = λ c coding short turn core more stands.
            turn_told script (actor.Client i) w core stands (client_work script) core.clients w.clients stands.clients i work a is_work is_a c coding short turn;
        none = λ none core more stands.
            no_turn_told script (actor.Client i) w core stands (client_work script) core.clients w.clients stands.clients i _ work a is_work is_a none;
      };
      absent = λ none core more stands. absent_told script (actor.Client i) w core stands (client_work script) core.clients w.clients stands.clients i _ none;
    }

pub repairers_tell : (script : Script) (i : ℕ) (w : WorldOf) → RepairersTell script i w
repairers_tell script i w =
    record {
      turns = λ work a is_work is_a. record {
        turn = λ c coding short turn core more stands.
            turn_told script (actor.Repairer i) w core stands (repairer_work script) core.repairers w.repairers stands.repairers i work a is_work is_a c coding short turn;
        none = λ none core more stands.
            no_turn_told script (actor.Repairer i) w core stands (repairer_work script) core.repairers w.repairers stands.repairers i _ work a is_work is_a none;
      };
      absent = λ none core more stands. absent_told script (actor.Repairer i) w core stands (repairer_work script) core.repairers w.repairers stands.repairers i _ none;
    }
