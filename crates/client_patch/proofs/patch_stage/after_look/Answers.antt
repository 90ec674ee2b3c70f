use Rattle.std.proofs.Common.{List, map, Ok, Some, ap, sym, subst, ◌∙◌}
use Rattle.std.specs.Prelude.{⊤}
use Rattle.store_core.specs.Note.{note_of}
use Rattle.store_core.specs.NextAct.{job_of}
use Rattle.store_core.specs.Told.{Told, Seen}
use Rattle.run_laws.specs.State.{Sequel}
use Rattle.run_laws.specs.States.{open_state}
use Rattle.run_laws.specs.LookAfter.{start_after}
use Rattle.stripe_dir.specs.Answers.{told_or_short, told_look}
use Rattle.stripe_stamps.specs.SeenStripes.{seen_in}
use Rattle.stripe_dir.specs.declared.directory_answers.Look.TheVariants as look
use Rattle.call_steps.specs.declared.answer.DirectoryAnswer.TheVariants as there
use Rattle.call_steps.specs.Answers.{directory_answer}
use Rattle.client_patch.specs.Stages.{state_by}
use Rattle.client_patch.specs.LookAfter.{IsPatchLook}
use Rattle.client_patch.proofs.Beginning.{to_draw_gathers, ready_state, points_back}
use Rattle.client_patch.proofs.patch_stage.after_look.Goals as goal

pub returns-in-Ok-Ready-clause-state : goal.returns-in-Ok-Ready-clause-state
returns-in-Ok-Ready-clause-state c = λ w.
    let g = c.args.gatherings.now.book.geometry in
    let call = c.args.call.now in
    let seens : List Seen = map seen_in c.in-Ok-Ready.stripes.items in
    let is = c.in-Ok-Ready.is ∙ ap Ok c.in-Ok-Ready.field-0-is in
    let told : Told = told_look {S = ⊤} {P = ⊤} (look.Ready c.in-Ok-Ready.field-0-0 c.in-Ok-Ready.looked_at c.in-Ok-Ready.length c.in-Ok-Ready.stripes) in
    let fits : IsPatchLook call told = subst (λ a. IsPatchLook call (told_or_short told_look a)) is c.requires.fits in
    ap (λ s. state_by s c.begin.new.self w _) c.to_draw.ensures
    ∙ to_draw_gathers call c.begin.new.self w _
    ∙ c.begin.ensures.state Sequel.Draw
    ∙ ready_state g call _ c.in-Ok-Ready.length seens fits
    ∙ ap (λ a. open_state g (start_after g (note_of call).kind (job_of call) (told_or_short told_look a))) (sym is)

pub returns-in-Ok-Ready-clause-told : goal.returns-in-Ok-Ready-clause-told
returns-in-Ok-Ready-clause-told c =
    ap (λ answer. directory_answer (told_or_short told_look answer)) (c.in-Ok-Ready.is ∙ ap Ok c.in-Ok-Ready.field-0-is)
    ∙ ap (λ looked_at. Some (there.Ready looked_at c.in-Ok-Ready.length)) (points_back c.in-Ok-Ready.looked_at)
