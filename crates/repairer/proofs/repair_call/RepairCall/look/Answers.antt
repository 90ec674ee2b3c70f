use Rattle.std.specs.Prelude.{⊤}
use Rattle.std.proofs.Common.{◌≡◌, Ok, Result, All, refl, sym, ap, subst, ◌∙◌, ◌∷◌, [], arith}
use Rattle.std.specs.declared.alloc.AllocError.{AllocError}
use Rattle.clay_grid.specs.Shape.{chunk_count}
use Rattle.store_core.specs.Note.{note_of_rebuild}
use Rattle.store_core.specs.Act.{DirectoryStep}
use Rattle.version_seal.specs.Entry.{BookOf}
use Rattle.stripe_dir.specs.declared.directory_answers.RepairLook.{RepairLook}
use Rattle.stripe_dir.specs.declared.directory_answers.RepairLook.TheVariants as repair
use Rattle.stripe_dir.specs.Answers.{told_or_short, told_repair_look}
use Rattle.stripe_stamps.specs.SeenStripes.{seen_in}
use Rattle.call_steps.specs.declared.answer.DirectoryAnswer.TheVariants as there
use Rattle.call_steps.specs.CallOf.{CallOf}
use Rattle.call_steps.specs.TokenAfter.{token_after}
use Rattle.stripe_dir.specs.Shown.{IsShown, AreShown, stripe_seen}
use Rattle.repairer.specs.declared.stage.RepairStage.TheVariants as stage
use Rattle.repairer.specs.Moments.{IsNew}
use Rattle.repairer.proofs.Stages.{is_at, keeps}
use Rattle.repairer.proofs.Steps.{begun}
use Rattle.repairer.proofs.Hearing.{look_tells}
use Rattle.repairer.proofs.repair_call.RepairCall.look.Goals as goal

pub invariant_of-self : goal.invariant_of-self
invariant_of-self c =
    let a = c.self.inside in
    let d = c.args.d.now in
    let seen = c.in-Ok-Pinned.seen in
    let new : IsNew a.ticket a.number a.rebuild.now a.gather a.takes a.due =
    keeps a stage.Start c.self.invariant (is_at a c.args.self.now stage.Start c.self.invariant c.self.view_is c.requires.stage)
    in
    let is : c.look_repair-look.result ≡ Ok (repair.Pinned tt seen) = c.in-Ok-Pinned.is ∙ ap Ok c.in-Ok-Pinned.field-0-is in
    let all : All (IsShown d) (seen ∷ []) = subst (λ (r : Result (RepairLook ⊤ ⊤) AllocError). AreShown d stripe_seen r) is c.look_repair-look.ensures.seen in
    let shown : IsShown d seen = all 0 seen (omega arith) in
    let book : d.book ≡ a.opening = c.requires.book ∙ sym (ap (λ (call : CallOf). call.book) c.self.view_is) in
    record {
      below = c.self.invariant.below;
      kept = (
        begun a.ticket c.look_repair-look.new.self a.number (note_of_rebuild a.rebuild.now) (seen_in seen) new.may
            (c.look_repair-look.ensures.token
            ∙ ap (λ (r : Result (RepairLook ⊤ ⊤) AllocError). token_after a.ticket a.number (DirectoryStep.LookRepair (note_of_rebuild a.rebuild.now)) (told_or_short told_repair_look r)) is),
        record {
          seen = seen;
          is_seen = c.of.ensures;
          is_held = refl;
          pinned = record {
            home = shown.home ∙ ap (λ (b : BookOf). b.home) book;
            whole = shown.row.whole ∙ ap chunk_count (sym c.keeps.ensures.stamps.code ∙ ap (λ (b : BookOf). b.geometry) book);
          };
          none = new.none;
          nothing = new.nothing;
        },
      );
    }

pub returns-in-Ok-Pinned-clause-told : goal.returns-in-Ok-Pinned-clause-told
returns-in-Ok-Pinned-clause-told c =
    look_tells c.self.inside c.args.self.now c.self.invariant c.self.view_is c.requires.stage c.args.d.now.core c.look_repair-look.new.directory.core c.look_repair-look.result
    (Ok (repair.Pinned tt c.in-Ok-Pinned.seen)) there.PinnedStripe c.look_repair-look.ensures.step (c.in-Ok-Pinned.is ∙ ap Ok c.in-Ok-Pinned.field-0-is) refl

pub returns-in-Ok-NoSuch-clause-told : goal.returns-in-Ok-NoSuch-clause-told
returns-in-Ok-NoSuch-clause-told c =
    look_tells c.self.inside c.args.self.now c.self.invariant c.self.view_is c.requires.stage c.args.d.now.core c.look_repair-look.new.directory.core c.look_repair-look.result
    (Ok (repair.NoSuch tt)) there.NoSuch c.look_repair-look.ensures.step (c.in-Ok-NoSuch.is ∙ ap Ok c.in-Ok-NoSuch.field-0-is) refl

pub returns-in-Err-clause-told : goal.returns-in-Err-clause-told
returns-in-Err-clause-told c =
    look_tells c.self.inside c.args.self.now c.self.invariant c.self.view_is c.requires.stage c.args.d.now.core c.look_repair-look.new.directory.core c.look_repair-look.result
    _ there.Short c.look_repair-look.ensures.step c.in-Err.is refl
