-- A call that hears an answer goes on standing for its actor.
use Rattle.std.proofs.Common.{◌≡◌, ℕ, IfSome, sym, ap, subst, ◌∙◌}
use Rattle.store_core.specs.Told.{Told}
use Rattle.store_core.specs.Act.{Act, DirectoryStep}
use Rattle.store_core.specs.NextAct.{Job, next_act}
use Rattle.store_core.specs.Agreement.{Agrees}
use Rattle.store_core.specs.Directory.{Directory}
use Rattle.store_core.specs.Lookups.{pass_of}
use Rattle.store_core.specs.AtDirectory.{at_directory}
use Rattle.store_core.specs.Server.{Server, at_server}
use Rattle.store_core.specs.Step.{after_answer}
use Rattle.store_core.specs.Tokens.{actor_of}
use Rattle.run_laws.specs.FitLaws.{Fits}
use Rattle.call_steps.specs.declared.need.Need.TheVariants as need
use Rattle.call_steps.specs.TokenAfter.{token_after}
use Rattle.call_steps.specs.CallOf.{CallOf, act_of, heard}
use Rattle.call_steps.specs.Steps.{need_of, at_directory_by, stepped_at_directory, at_server_by, stepped_at_server, HoldsItsPass}
use Rattle.call_steps.specs.After.{StandsAfter}
use Rattle.call_steps.specs.StandLaws.{HasPassOfItsKind}
use Rattle.call_steps.proofs.Acts.{acts_now}
use Rattle.call_steps.proofs.Fitting.{leading_fits, server_leads, directory_fits}
use Rattle.call_steps.proofs.Hears.{hears}
use Rattle.call_steps.proofs.Needs.{needs_tell_acts}
use Rattle.call_steps.proofs.Tokens.{passes_are_of_calls}
use Rattle.thread_laws.specs.CallEntries.{server_tells, directory_tells}
use Rattle.thread_laws.specs.HasMade.{HearsAsActor}

pub hears_server : (before after : CallOf) (server : ℕ) (s now : Server) → need_of before ≡ need.Server server → (now, after) ≡ stepped_at_server after.step after.due before s
    → HearsAsActor before (server_tells after.step (act_of before) s) after
hears_server before after server s now needed stepped g tries job actor stands =
    let told = needs_tell_acts.server before server needed in
    let act : Act = Act.AtServer server told.0 in
    let answer : Told = (at_server after.step told.0 s).1 in
    let led = hears g tries job actor actor.told before stands act answer after.step after.due before.token (leading_fits job.note.kind (next_act g tries job actor.told) answer (server_leads after.step told.0 s)) in
    let is : after ≡ heard before act answer after.step after.due = ap (λ (p : Server × CallOf). p.1) (subst (λ (a : Act). (now, after) ≡ at_server_by a after.step after.due before s) told.1 stepped) in
    subst (λ (a : Act). StandsAfter g tries job actor (after_answer g tries job actor.told a (server_tells after.step a s) actor) after) (sym told.1)
    (subst (StandsAfter g tries job actor (after_answer g tries job actor.told act answer actor)) (sym is) led)

pub hears_directory : (before after : CallOf) (d now : Directory) → need_of before ≡ need.Directory → (now, after) ≡ stepped_at_directory after.step after.due before d → Agrees d before.token → HoldsItsPass before
    → HearsAsActor before (directory_tells after.step (actor_of before.token) before.number (act_of before) d) after
hears_directory before after d now needed stepped agrees pass g tries job actor stands =
    let told = needs_tell_acts.directory before needed in
    let step : DirectoryStep = told.0 in
    let act : Act = Act.AtDirectory step in
    let answer : Told = (at_directory after.step (actor_of before.token) before.number step d).1 in
    let its : HasPassOfItsKind d before = passes_are_of_calls d before agrees pass in
    let next : next_act g tries job actor.told ≡ act = acts_now g tries job actor before stands ∙ told.1 in
    let of_job : IfSome (pass_of (actor_of before.token) d) (λ p. p.note.kind ≡ job.note.kind) =
    subst (λ (j : Job). IfSome (pass_of (actor_of before.token) d) (λ p. p.note.kind ≡ j.note.kind)) stands.job its in
    let fits : Fits job.note.kind (next_act g tries job actor.told) answer =
    subst (λ (a : Act). Fits job.note.kind a answer) (sym next) (directory_fits g tries job actor.told after.step (actor_of before.token) before.number step d next of_job) in
    let led = hears g tries job actor actor.told before stands act answer after.step after.due (token_after before.token before.number step answer) fits in
    let is : after ≡ record (heard before act answer after.step after.due) { token = token_after before.token before.number step answer } =
    ap (λ (p : Directory × CallOf). p.1) (subst (λ (a : Act). (now, after) ≡ at_directory_by a after.step after.due before d) told.1 stepped) in
    subst (λ (a : Act). StandsAfter g tries job actor (after_answer g tries job actor.told a (directory_tells after.step (actor_of before.token) before.number a d) actor) after) (sym told.1)
    (subst (StandsAfter g tries job actor (after_answer g tries job actor.told act answer actor)) (sym is) led)
