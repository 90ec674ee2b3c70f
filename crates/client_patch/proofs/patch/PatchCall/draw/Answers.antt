use Rattle.std.proofs.Common.{◌≡◌, ◌+◌, ◌-◌, ◌/◌, ◌^◌, ◌<◌, ◌≤◌, false, [], ◌++◌, length, Ok, Some, IfOk, refl, ap, subst, sym, ◌∙◌, arith}
use Rattle.clay_grid.specs.Shape.{stripe_length}
use Rattle.clay_grid.specs.Limits.{IsGeometry}
use Rattle.store_core.specs.Told.{Told}
use Rattle.store_core.specs.Act.{DirectoryStep}
use Rattle.store_core.specs.AtDirectory.{at_directory}
use Rattle.store_core.specs.Tokens.{actor_of}
use Rattle.run_laws.specs.States.{prepare_all_state}
use Rattle.stripe_dir.specs.Answers.{told_or_short, told_drawn}
use Rattle.call_steps.specs.declared.answer.DirectoryAnswer.TheVariants as there
use Rattle.call_steps.specs.Answers.{directory_answer}
use Rattle.call_steps.specs.TokenAfter.{token_after}
use Rattle.stripe_dir.specs.AnswerStamps.{IfDrawn, AreDrawnFor, stamps_given}
use Rattle.stripe_dir.specs.declared.directory_answers.Drawn.TheVariants as draw
use Rattle.write_course.specs.Writings.{versions_of}
use Rattle.write_course.specs.Draws.{request_of}
use Rattle.client_patch.specs.Patches.{PatchOf, is_write}
use Rattle.client_patch.specs.Inside.{patch_in}
use Rattle.write_course.proofs.Tokens.{token_stays}
use Rattle.client_patch.proofs.Drawing.{holding, draw_tells, draw_stamps, draw_kept, draw_count}
use Rattle.client_patch.proofs.patch.PatchCall.draw.Goals as goal
use Rattle.client_patch.proofs.patch.PatchCall.draw.Goals.{After-copy}

-- what was answered
answered : (c : After-copy) → c.draw-answer.result ≡ Ok (draw.Versions tt c.in-Ok-Versions.stamps)
answered c = c.in-Ok-Versions.is ∙ ap Ok c.in-Ok-Versions.field-0-is

-- the stamps are those of the draw
drawn : (c : After-copy) → AreDrawnFor c.args.directory.now (holding c.self.inside c.self.invariant c.args.self.now c.self.view_is c.requires.drawing c.requires.need).held (Some c.request-request.result) c.in-Ok-Versions.stamps.items
drawn c =
    let held = holding c.self.inside c.self.invariant c.args.self.now c.self.view_is c.requires.drawing c.requires.need in
    subst (λ result. IfOk result (IfDrawn c.args.directory.now held.held (Some c.request-request.result))) (answered c) (c.draw-answer.ensures.drawn held.held held.is)

-- they are of the call's book
its : (c : After-copy) → c.args.directory.now.book ≡ c.self.inside.opening
its c = c.requires.its ∙ sym (ap (λ (p : PatchOf). p.call.book) c.self.view_is)

-- the request is the call's
asked : (c : After-copy) → c.request-request.result ≡ request_of (patch_in c.self.inside).call c.self.inside.call.now
asked c = c.request-request.ensures ∙ (λ i. record { home = (book i).home; actor = sym c.self.invariant.actor_is i; number = c.self.inside.number; call = c.self.inside.call.now })
  where
    book : c.args.book.now ≡ c.self.inside.opening
    book = c.requires.book ∙ sym (ap (λ (p : PatchOf). p.call.book) c.self.view_is)

-- what that tells
told : (c : After-copy) → told_or_short told_drawn c.draw-answer.result ≡ Told.Versions (versions_of c.in-Ok-Versions.stamps.items)
told c = ap (told_or_short told_drawn) (answered c)

-- the step
made : (c : After-copy)
    → (c.draw-answer.new.directory.core, Told.Versions (versions_of c.in-Ok-Versions.stamps.items))
    ≡ at_directory c.is_err-self-inside.result (actor_of c.self.inside.ticket) c.self.inside.number DirectoryStep.Draw c.args.directory.now.core
made c =
    (λ i. (c.draw-answer.new.directory.core, sym (told c) i))
    ∙ c.draw-answer.ensures.step
    ∙ ap (λ short. at_directory short (actor_of c.self.inside.ticket) c.self.inside.number DirectoryStep.Draw c.args.directory.now.core) (sym c.is_err-self-inside.ensures.value)

-- the ticket then
token : (c : After-copy) → c.draw-answer.new.self ≡ token_after c.self.inside.ticket c.self.inside.number DirectoryStep.Draw (Told.Versions (versions_of c.in-Ok-Versions.stamps.items))
token c = c.draw-answer.ensures.token ∙ ap (token_after c.self.inside.ticket c.self.inside.number DirectoryStep.Draw) (told c)

pub new-requires-clause-numbered : goal.new-requires-clause-numbered
new-requires-clause-numbered c =
    let geometry : c.geometry.result ≡ c.self.inside.opening.geometry = c.geometry.ensures in
    let few = draw_count c.self.inside c.self.invariant c.args.self.now c.self.view_is c.requires.drawing c.requires.need c.args.directory.now c.in-Ok-Versions.stamps.items c.request-request.result (its c) c.keeps.ensures.stamps.code (drawn c)
    (subst IsGeometry geometry c.stripe_len.ensures.geometry)
    (subst (λ n. n < 2 ^ 33 - 1) (λ i. c.bytes_of-offset.ensures.offset i + (c.length-length.ensures.number ∙ c.bytes_of-offset.ensures.length) i) (omega (arith, c.bytes_of-offset.type_inv, c.length-length.type_inv))) in
    subst (λ n. n + length c.in-Ok-Versions.stamps.items ≤ 2 ^ 32) (sym (λ i. c.bytes_of-offset.ensures.offset i / (c.stripe_len.ensures.value ∙ ap stripe_length geometry) i)) few

pub invariant_of-self : goal.invariant_of-self
invariant_of-self c =
    let d = (goal.at.invariant_of-self c).After-copy in
    let a = c.self.inside in
    let kept = c.self.invariant in
    let first = c.new.ensures.first ∙ (λ i. c.bytes_of-offset.ensures.offset i / (c.stripe_len.ensures.value ∙ ap stripe_length c.geometry.ensures) i) in
    record {
      change = kept.change;
      client = kept.client;
      actor_is = ap actor_of (token d) ∙ token_stays a.ticket a.number DirectoryStep.Draw (Told.Versions (versions_of c.in-Ok-Versions.stamps.items)) ∙ kept.actor_is;
      script = kept.script;
      book = kept.book;
      tries = kept.tries;
      untaken = kept.untaken;
      kept =
          draw_kept a kept c.args.self.now c.self.view_is c.requires.drawing c.requires.need c.args.directory.now c.in-Ok-Versions.stamps.items c.request-request.result c.draw-answer.new.self c.new.result
          false c.is_err-self-inside.result
          (its d) c.keeps.ensures.stamps.code (asked d) (drawn d)
          (λ write. c.requires.knows (ap is_write (sym (ap (λ (p : PatchOf). p.written) c.self.view_is)) ∙ write)) c.new.ensures.stamps (c.new.ensures.book ∙ c.copy.ensures) first
          (c.new.ensures.state ∙ (λ i. prepare_all_state ((c.copy.ensures i).geometry) (versions_of (sym c.new.ensures.stamps i)) (sym c.new.ensures.first i) (versions_of (sym c.new.ensures.stamps i)) []))
          (token d ∙ (λ i. token_after a.ticket a.number DirectoryStep.Draw (Told.Versions (versions_of (sym c.new.ensures.stamps i)))));
    }

pub returns-in-Ok-Versions-clause-stamps : goal.returns-in-Ok-Versions-clause-stamps
returns-in-Ok-Versions-clause-stamps c =
    let d = (goal.at.returns-in-Ok-Versions-clause-stamps c).After-copy in
    c.draw-answer.ensures.stamps
    ∙ ap (λ result. c.args.directory.now.stamps ++ stamps_given result) (answered d)
    ∙ ap (λ stamps. c.args.directory.now.stamps ++ stamps)
    (draw_stamps c.self.inside c.self.invariant c.args.self.now c.self.view_is c.requires.drawing c.requires.need c.args.directory.now c.is_err-self-inside.result c.draw-answer.new.directory.core
    (versions_of c.in-Ok-Versions.stamps.items) c.in-Ok-Versions.stamps.items c.request-request.result (made d) (asked d) (drawn d))

pub returns-in-Ok-Versions-clause-told : goal.returns-in-Ok-Versions-clause-told
returns-in-Ok-Versions-clause-told c =
    let d = (goal.at.returns-in-Ok-Versions-clause-told c).After-copy in
    draw_tells c.self.inside c.self.invariant c.args.self.now c.self.view_is c.requires.drawing c.requires.need c.args.directory.now.core c.draw-answer.new.directory.core
    c.is_err-self-inside.result (Told.Versions (versions_of c.in-Ok-Versions.stamps.items)) there.Versions (made d) refl

pub returns-in-Ok-Reaped-clause-told : goal.returns-in-Ok-Reaped-clause-told
returns-in-Ok-Reaped-clause-told c =
    draw_tells c.self.inside c.self.invariant c.args.self.now c.self.view_is c.requires.drawing c.requires.need c.args.directory.now.core c.draw-answer.new.directory.core
    c.is_err-self-inside.result (told_or_short told_drawn c.draw-answer.result) (there.Reaped c.in-Ok-Reaped.at)
    (c.draw-answer.ensures.step
    ∙ ap (λ short. at_directory short (actor_of c.self.inside.ticket) c.self.inside.number DirectoryStep.Draw c.args.directory.now.core) (sym c.is_err-self-inside.ensures.value))
    (ap (λ result. directory_answer (told_or_short told_drawn result)) (c.in-Ok-Reaped.is ∙ ap Ok c.in-Ok-Reaped.field-0-is))

pub returns-clause-told : goal.returns-clause-told
returns-clause-told c =
    draw_tells c.self.inside c.self.invariant c.args.self.now c.self.view_is c.requires.drawing c.requires.need c.args.directory.now.core c.draw-answer.new.directory.core
    c.is_err-self-inside.result (told_or_short told_drawn c.draw-answer.result) there.Short
    (c.draw-answer.ensures.step
    ∙ ap (λ short. at_directory short (actor_of c.self.inside.ticket) c.self.inside.number DirectoryStep.Draw c.args.directory.now.core) (sym c.is_err-self-inside.ensures.value))
    (ap (λ result. directory_answer (told_or_short told_drawn result)) c.in-Err.is)
