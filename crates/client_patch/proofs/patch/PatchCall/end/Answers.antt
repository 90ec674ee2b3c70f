use Rattle.std.proofs.Common.{false, ap, subst, sym, ◌∙◌}
use Rattle.store_core.specs.Told.{Told}
use Rattle.store_core.specs.Act.{DirectoryStep}
use Rattle.store_core.specs.Tokens.{actor_of}
use Rattle.stripe_dir.specs.Answers.{told_ended}
use Rattle.call_steps.specs.declared.answer.DirectoryAnswer.TheVariants as there
use Rattle.call_steps.specs.Answers.{directory_answer}
use Rattle.call_steps.proofs.Telling.{end_tells}
use Rattle.client_patch.specs.Patches.{PatchOf}
use Rattle.client_patch.specs.Inside.{Keeps, patch_in}
use Rattle.write_course.proofs.Tokens.{token_stays, seated_by}
use Rattle.write_course.proofs.AtDirectory.{end_draws}
use Rattle.client_patch.proofs.Ends.{end_holding, end_kept, end_step}
use Rattle.client_patch.proofs.patch.PatchCall.end.Goals as goal

pub invariant_of-self : goal.invariant_of-self
invariant_of-self c =
    let a = c.self.inside in
    let kept = c.self.invariant in
    let held = (end_holding a kept c.args.self.now c.self.view_is c.requires.need c.requires.ending).holding in
    let seated = seated_by a.ticket c.end-answer.new.self a.number DirectoryStep.End held.held Told.Ended held.is c.in-Ended.ensures.token tt in
    record {
      change = kept.change;
      client = kept.client;
      actor_is = ap actor_of c.in-Ended.ensures.token ∙ token_stays a.ticket a.number DirectoryStep.End Told.Ended ∙ kept.actor_is;
      script = kept.script;
      book = kept.book;
      tries = kept.tries;
      untaken = kept.untaken;
      kept = subst (λ s. Keeps s (record a { stage = c.after_end-self-inside.result; ticket = c.end-answer.new.self; coding = false; step = false })) (sym c.after_end-self-inside.ensures)
          (end_kept a kept c.args.self.now c.self.view_is c.requires.need c.requires.ending c.after_end-self-inside.result c.end-answer.new.self false false seated);
    }

pub returns-in-Ended-clause-step : goal.returns-in-Ended-clause-step
returns-in-Ended-clause-step c =
    end_step c.self.inside c.self.invariant c.args.self.now c.self.view_is c.requires.need c.requires.ending c.after_end-self-inside.result c.after_end-self-inside.ensures
    c.end-answer.new.self c.args.directory.now.core c.end-answer.new.directory.core c.in-Ended.ensures.step c.in-Ended.ensures.token

pub returns-in-Ended-clause-stamps : goal.returns-in-Ended-clause-stamps
returns-in-Ended-clause-stamps c = end_draws c.args.directory.now c.end-answer.new.directory c.args.self.now.call c.args.self.now.written false c.requires.ending c.end-answer.ensures.stamps

pub returns-in-Reaped-clause-stamps : goal.returns-in-Reaped-clause-stamps
returns-in-Reaped-clause-stamps c = end_draws c.args.directory.now c.end-answer.new.directory c.args.self.now.call c.args.self.now.written false c.requires.ending c.end-answer.ensures.stamps

pub returns-in-Ended-clause-told : goal.returns-in-Ended-clause-told
returns-in-Ended-clause-told c =
    end_tells (patch_in c.self.inside).call c.args.self.now.call c.args.directory.now.core c.end-answer.new.directory.core (told_ended c.end-answer.result) there.Ended
    (ap (λ (p : PatchOf). p.call) c.self.view_is) c.requires.ending c.end-answer.ensures.step (ap (λ answer. directory_answer (told_ended answer)) c.in-Ended.is)

pub returns-in-Reaped-clause-told : goal.returns-in-Reaped-clause-told
returns-in-Reaped-clause-told c =
    end_tells (patch_in c.self.inside).call c.args.self.now.call c.args.directory.now.core c.end-answer.new.directory.core (told_ended c.end-answer.result) (there.Reaped c.in-Reaped.at)
    (ap (λ (p : PatchOf). p.call) c.self.view_is) c.requires.ending c.end-answer.ensures.step (ap (λ answer. directory_answer (told_ended answer)) c.in-Reaped.is)
