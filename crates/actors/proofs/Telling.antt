-- That a caller's turn tells the step that it makes.
use Rattle.std.proofs.Common.{◌≡◌, ℕ, ◌<◌, Bool, true, false, List, length, map, get_or, set, Option, Some, IfSome, sym, ap, subst, ◌∙◌, ◌&&◌, slice_get}
use Rattle.store_map.specs.declared.script.Script.{Script}
use Rattle.store_map.specs.declared.actor.Actor.{Actor}
use Rattle.store_core.specs.Act.{Act, DirectoryStep, ServerStep}
use Rattle.store_core.specs.Agreement.{Agrees}
use Rattle.store_core.specs.AtDirectory.{at_directory}
use Rattle.store_core.specs.NextAct.{Job}
use Rattle.store_core.specs.Server.{Server}
use Rattle.store_core.specs.Step.{Places, at_places, at_server_there}
use Rattle.store_core.specs.Tokens.{actor_of}
use Rattle.store_core.specs.Work.{Ended, has_step}
use Rattle.chunk_server.specs.State.{ServerState}
use Rattle.chunk_server.specs.Core.{core_of}
use Rattle.dir_parts.proofs.Entries.{slice_get-map}
use Rattle.stripe_stamps.specs.Sealed.{Sealed}
use Rattle.call_steps.specs.declared.answer.DirectoryAnswer.{DirectoryAnswer}
use Rattle.call_steps.specs.declared.answer.ServerAnswer.{ServerAnswer}
use Rattle.call_steps.specs.declared.need.Need.TheVariants as need
use Rattle.call_steps.specs.Acts.{act_by, act_now}
use Rattle.call_steps.specs.Answers.{directory_answer}
use Rattle.call_steps.specs.CallOf.{CallOf, act_of}
use Rattle.call_steps.specs.Hearing.{IsToldHere, IsToldThere, told_here, told_here_by, told_there, told_there_by}
use Rattle.call_steps.specs.Steps.{need_of}
use Rattle.call_steps.specs.Ready.{ready}
use Rattle.call_steps.proofs.Needs.{needs_tell_acts}
use Rattle.call_machine.specs.Calls.{MachineOf}
use Rattle.call_steps.specs.declared.step_made.StepAnswer.TheVariants as answer
use Rattle.call_steps.specs.declared.step_made.Step.{Step}
use Rattle.world_laws.specs.StepsTold.{IsAnswer, IsStep}
use Rattle.world_laws.specs.TurnMade.{turn_made}
use Rattle.world_laws.specs.World.{DoingOf}
use Rattle.world_laws.specs.Known.{calling_of}
use Rattle.world_laws.specs.ActorAfter.{IsCallBefore}
use Rattle.world_laws.specs.Tokens.{AreNumbered, token_of}
use Rattle.actors.specs.Turns.{places_of}
use Rattle.actors.specs.Callers.{CallerOf, IsOfScript, work_of, who_of}
use Rattle.actors.specs.Steps.{IsReadyIn, MadeAtDirectory, MadeAtServer, MakesStep}
use Rattle.actors.specs.CallerTurns.{TellsCallerTurn}
use Rattle.actors.proofs.Turning.{got, ready_same}
use Rattle.actors.proofs.Stepping.{ready_token, turned_there, turned_here}

-- ---- what a call is told is what the places answer
told_at_directory : (step : DirectoryStep) (short : Bool) (who : Actor) (number : ℕ) (c : CallOf) (p : Places) → act_of c ≡ Act.AtDirectory step → actor_of c.token ≡ who → c.number ≡ number
    → told_there short c p.directory ≡ (at_places short who number (act_of c) p).1
told_at_directory step short who number c p is whose numbered =
    ap (λ (act : Act). told_there_by act short c p.directory) is
    ∙ (λ i. (at_directory short (whose i) (numbered i) step p.directory).1)
    ∙ ap (λ (act : Act). (at_places short who number act p).1) (sym is)

told_at_server : (server : ℕ) (step : ServerStep) (short : Bool) (who : Actor) (number : ℕ) (c : CallOf) (p : Places) (s : Server) → act_of c ≡ Act.AtServer server step → slice_get p.servers server ≡ Some s
    → told_here short c s ≡ (at_places short who number (act_of c) p).1
told_at_server server step short who number c p s is there =
    ap (λ (act : Act). told_here_by act short s) is
    ∙ ap (λ (o : Option Server). (at_server_there short server step p o).1) (sym there)
    ∙ ap (λ (act : Act). (at_places short who number act p).1) (sym is)

-- ---- a step of a call that is ready
pub tells_step : (who : Actor) (coding short : Bool) (c now : CallOf) (p : Places) (step : Step) → now ≡ ready coding c → step.who ≡ who → step.number ≡ c.number → step.short ≡ (c.due && coding)
    → step.act ≡ act_by (act_of now) false → IsAnswer step.answer (at_places short who c.number (act_of now) p).1 → IsStep step (turn_made who coding short c p)
tells_step who coding short c now p step is who_is number_is short_is act_is answer_is =
    record {
      who = who_is;
      number = number_is;
      short = short_is;
      act = act_is ∙ ap (λ (x : CallOf). act_by (act_of x) false) is;
      answer = subst (λ (x : CallOf). IsAnswer step.answer (at_places short who c.number (act_of x) p).1) is answer_is;
    }

-- a caller's call has the number of its calls that have ended
number_before : (script : Script) (jobs : List Job) (ended : List Ended) (doing : DoingOf) (c : CallOf) → IsCallBefore script jobs ended doing c → AreNumbered ended doing → c.number ≡ length ended
number_before script jobs ended (DoingOf.Between token) c before numbered = before.first.number
number_before script jobs ended (DoingOf.InCall call steps) c before numbered = ap (λ (x : CallOf). x.number) before ∙ numbered.next

-- ---- a caller's turn at the directory, and at a server
module _ (script : Script) (place : ℕ) (a mid after : CallerOf) (step : Step) (r : IsReadyIn step.short a mid) (whose : actor_of (token_of a.actor.doing) ≡ who_of a.part place)
    (numbered : AreNumbered a.actor.ended a.actor.doing) (of : IsOfScript script a) (may : has_step (work_of a.part) (calling_of script a.actor) ≡ true)
    (who_is : step.who ≡ who_of a.part place) (number_is : step.number ≡ length a.actor.ended) (act_is : IfSome mid.work (λ (c : MachineOf). step.act ≡ act_now c.call)) where
  abbrev was : CallOf
  was = r.ready.call.call

  abbrev now : CallOf
  now = r.ready.now.call

  -- the caller's call is the one that is ready
  of_now : (P : CallOf → Type 0) → IfSome mid.work (λ (c : MachineOf). P c.call) → P now
  of_now P holds = subst (λ (c : CallerOf). IfSome c.work (λ (x : MachineOf). P x.call)) r.ready.leaves holds

  number_now : now.number ≡ was.number
  number_now = (ready_same was now now.coding r.ready.coded.is_ready).number

  whose_now : actor_of now.token ≡ who_of a.part place
  whose_now = ap (λ (c : CallOf). actor_of c.token) r.ready.coded.is_ready ∙ ap actor_of (ready_token now.coding was.due was ∙ sym r.ready.its.token) ∙ whose

  tells : (short : Bool) (p : Places) → now.due ≡ false → IsAnswer step.answer (at_places short (who_of a.part place) was.number (act_of now) p).1
      → IsStep step (turn_made (who_of a.part place) now.coding short was p)
  tells short p undue answer_is =
      tells_step (who_of a.part place) now.coding short was now p step r.ready.coded.is_ready who_is
      (number_is ∙ sym (number_before script _ a.actor.ended a.actor.doing was (r.ready.its.before script of) numbered)) r.short_is
      (of_now (λ (c : CallOf). step.act ≡ act_now c) act_is ∙ ap (act_by (act_of now)) undue) answer_is

  pub tells_there : (d changed : Sealed) (servers : List ServerState) (last : MachineOf) (told : DirectoryAnswer) (m : MakesStep (λ (c last : MachineOf). MadeAtDirectory c last d changed) last mid after)
      → IfSome mid.work (λ (c : MachineOf). need.Directory ≡ need_of c.call) → step.answer ≡ answer.Directory told → IfSome mid.work (λ (c : MachineOf). IsToldThere told c.call d.core last.call)
      → TellsCallerTurn script place a d servers after changed servers step
  tells_there d changed servers last told m is answer_is hears =
      let found : (next : DirectoryStep) × (act_of now ≡ Act.AtDirectory next) × (now.due ≡ false) = needs_tell_acts.directory now (sym (of_now (λ (c : CallOf). need.Directory ≡ need_of c) is)) in
      let same : _ = told_at_directory found.0 last.call.step (who_of a.part place) was.number now (places_of d servers) found.1 whose_now number_now in
      turned_there script place a mid after r.ready whose of may d changed servers last m is step
      (tells last.call.step (places_of d servers) found.2
      (subst (λ x. IsAnswer x (at_places last.call.step (who_of a.part place) was.number (act_of now) (places_of d servers)).1) (sym answer_is)
      (ap directory_answer (sym same) ∙ of_now (λ (c : CallOf). IsToldThere told c d.core last.call) hears)))

  pub tells_here : (d : Sealed) (servers : List ServerState) (i : ℕ) (s changed : ServerState) (last : MachineOf) (told : ServerAnswer) (m : MakesStep (λ (c last : MachineOf). MadeAtServer c last s changed) last mid after)
      → IfSome mid.work (λ (c : MachineOf). need.Server i ≡ need_of c.call) → i < length servers → s ≡ get_or servers i s → Agrees d.core (token_of a.actor.doing)
      → step.answer ≡ answer.Server told → IfSome mid.work (λ (c : MachineOf). IsToldHere told c.call (core_of s) last.call)
      → TellsCallerTurn script place a d servers after d (set servers i changed) step
  tells_here d servers i s changed last told m is less read agrees answer_is hears =
      let found : (next : ServerStep) × (act_of now ≡ Act.AtServer i next) × (now.due ≡ false) = needs_tell_acts.server now i (sym (of_now (λ (c : CallOf). need.Server i ≡ need_of c) is)) in
      let same : _ =
      told_at_server i found.0 last.call.step (who_of a.part place) was.number now (places_of d servers) (core_of s) found.1 (slice_get-map core_of servers i s (got servers i s less read)) in
      turned_here script place a mid after r.ready whose of may d servers i s changed last m is less read agrees step
      (tells last.call.step (places_of d servers) found.2
      (subst (λ x. IsAnswer x (at_places last.call.step (who_of a.part place) was.number (act_of now) (places_of d servers)).1) (sym answer_is)
      (of_now (λ (c : CallOf). IsToldHere told c (core_of s) last.call) hears ∙ same)))
