-- What a place answers to a call's step is what such an act may have.
use Rattle.std.proofs.Common.{◌≡◌, ℕ, ◌<◌, Bool, replicate, Some, option_map, sym, ap, subst, ◌∙◌}
use Rattle.std.proofs.lemmas.List.{length-replicate}
use Rattle.clay_grid.specs.Shape.{Shape, chunk_count, stripe_length}
use Rattle.store_map.specs.declared.actor.Actor.{Actor}
use Rattle.store_core.specs.Note.{Note}
use Rattle.store_core.specs.Act.{Act, DirectoryStep}
use Rattle.store_core.specs.Agreement.{ActorToken, Agrees}
use Rattle.store_core.specs.Bounds.{touched_count}
use Rattle.store_core.specs.Directory.{Directory}
use Rattle.store_core.specs.NextAct.{Job}
use Rattle.store_core.specs.Server.{Server, new_server}
use Rattle.store_core.specs.Sound.{IsSound}
use Rattle.store_core.specs.Step.{Places}
use Rattle.store_core.specs.Tokens.{actor_of}
use Rattle.run_laws.specs.Answers.{Answers}
use Rattle.run_laws.specs.CallLeft.{pin_bound}
use Rattle.run_laws.specs.StepLaws.{HasTarget}
use Rattle.run_laws.proofs.PlaceAnswers.{places_answer}
use Rattle.run_laws.proofs.Passes.{held}
use Rattle.run_laws.proofs.ActAnswers.{note_if, FitPlaces, act_answered}
use Rattle.run_laws.proofs.Phases.{directory_phase, has_pass}
use Rattle.run_laws.proofs.Proper.{IsProper, HasTry, acts_proper}
use Rattle.run_laws.proofs.ShortObjects.{sound_short}
use Rattle.call_steps.specs.declared.need.Need.TheVariants as need
use Rattle.call_steps.specs.TokenAfter.{MayMake, IfInCall}
use Rattle.call_steps.specs.CallOf.{CallOf, act_of}
use Rattle.call_steps.specs.Steps.{need_of, HoldsItsPass, MayMakeNext}
use Rattle.call_steps.specs.Stands.{Stands}
use Rattle.call_steps.proofs.Acts.{acts_now}
use Rattle.call_steps.proofs.Needs.{needs_tell_acts}
use Rattle.thread_laws.specs.CallEntries.{server_tells, directory_tells}
use Rattle.thread_laws.specs.HasMade.{AnswersAsActor}

-- the act of a call that stands for an actor is one of its job's
proper : (g : Shape) (tries : ℕ) (job : Job) (actor : _) (c : CallOf) (act : Act) → Stands g tries job actor c → HasTarget g job → act_of c ≡ act → IsProper g job (HasTry job.note.kind tries actor.told) act
proper g tries job actor c act stands target is =
    subst (IsProper g job (HasTry job.note.kind tries actor.told)) (acts_now g tries job actor c stands ∙ is) (acts_proper g tries job target actor.told)

pub fits_server : (before : CallOf) (server : ℕ) (s : Server) (short : Bool) → need_of before ≡ need.Server server → (max : ℕ) → AnswersAsActor max before (server_tells short (act_of before) s)
fits_server before server s short needed max g tries job actor stands target =
    let told = needs_tell_acts.server before server needed in
    let well : IsProper g job (HasTry job.note.kind tries actor.told) (Act.AtServer server told.0) = proper g tries job actor before (Act.AtServer server told.0) stands target told.1 in
    subst (λ (act : Act). Answers (pin_bound g max job.note) (touched_count g job.note) act (server_tells short act s)) (sym told.1) (places_answer.server short told.0 s well.1)

-- the pass that an actor holds is there where its step wants it
pass_there : (d : Directory) (token : ActorToken) (number : ℕ) (step : DirectoryStep) (note : Note) → Agrees d token → MayMake d token number step → IfInCall token (λ h. (h.pass.note ≡ note) × (h.pass.number ≡ number))
    → held (actor_of token) d ≡ note_if (has_pass (directory_phase step)) note
pass_there d (ActorToken.Seated seat) number (DirectoryStep.Look n) note agrees may its = ap (option_map (λ pass. pass.note)) agrees.no_pass
pass_there d (ActorToken.Seated seat) number (DirectoryStep.LookRepair n) note agrees may its = ap (option_map (λ pass. pass.note)) agrees.no_pass
pass_there d (ActorToken.Seated seat) number step note agrees may its = absurd may
pass_there d (ActorToken.InCall h) number DirectoryStep.Draw note agrees may its = ap (option_map (λ pass. pass.note)) agrees.is_pass ∙ ap Some its.0
pass_there d (ActorToken.InCall h) number (DirectoryStep.Commit placed) note agrees may its = ap (option_map (λ pass. pass.note)) agrees.is_pass ∙ ap Some its.0
pass_there d (ActorToken.InCall h) number DirectoryStep.End note agrees may its = ap (option_map (λ pass. pass.note)) agrees.is_pass ∙ ap Some its.0
pass_there d (ActorToken.InCall h) number DirectoryStep.Confirm note agrees may its = ap (option_map (λ pass. pass.note)) agrees.is_pass ∙ ap Some its.0
pass_there d (ActorToken.InCall h) number (DirectoryStep.Repaired server epoch) note agrees may its = ap (option_map (λ pass. pass.note)) agrees.is_pass ∙ ap Some its.0
pass_there d (ActorToken.InCall h) number step note agrees may its = absurd may.1

pub fits_directory : (before : CallOf) (d : Directory) (short : Bool) (max : ℕ) → need_of before ≡ need.Directory → 0 < stripe_length d.shape → IsSound d → d.shape ≡ before.book.geometry → d.max ≡ max
    → Agrees d before.token → HoldsItsPass before → MayMakeNext before → AnswersAsActor max before (directory_tells short (actor_of before.token) before.number (act_of before) d)
fits_directory before d short max needed wide sound shape most agrees pass may g tries job actor stands target =
    let told = needs_tell_acts.directory before needed in
    let step : DirectoryStep = told.0 in
    let act : Act = Act.AtDirectory step in
    let who : Actor = actor_of before.token in
    let of_shape : d.shape ≡ g = shape ∙ stands.shape in
    let places : Places = record { directory = d; servers = replicate (chunk_count g) new_server } in
    let fit : FitPlaces g max places = record { shape = of_shape; max = most; servers = length-replicate (chunk_count g) new_server; short = sound_short d sound } in
    let there : held who d ≡ note_if (has_pass (directory_phase step)) job.note =
    pass_there d before.token before.number step before.job.note agrees (may step d told.1 shape) pass.its ∙ ap (λ (j : Job). note_if (has_pass (directory_phase step)) j.note) stands.job in
    let answered = act_answered g max (subst (λ (s : Shape). 0 < stripe_length s) of_shape wide) job (HasTry job.note.kind tries actor.told) short who before.number places fit act
    (proper g tries job actor before act stands target told.1) tt there in
    subst (λ (a : Act). Answers (pin_bound g max job.note) (touched_count g job.note) a (directory_tells short who before.number a d)) (sym told.1) answered.answers
