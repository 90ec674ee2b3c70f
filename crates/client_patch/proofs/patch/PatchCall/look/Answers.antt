use Rattle.std.proofs.Common.{◌≡◌, ◌<◌, Bool, map, refl, ap, subst, sym, ◌∙◌}
use Rattle.store_core.specs.Note.{note_of}
use Rattle.store_core.specs.Act.{DirectoryStep}
use Rattle.store_core.specs.AtDirectory.{at_directory}
use Rattle.store_core.specs.Told.{Told}
use Rattle.store_core.specs.Directory.{Directory}
use Rattle.store_core.specs.Tokens.{actor_of}
use Rattle.client_patch.specs.Patches.{PatchOf, is_write}
use Rattle.client_patch.specs.Stages.{state_by, due_by}
use Rattle.client_patch.specs.LookAfter.{looked_stripes, IsPatchLook}
use Rattle.client_patch.specs.Inside.{patch_in}
use Rattle.call_steps.proofs.Telling.{there, by_act_there}
use Rattle.write_course.proofs.Tokens.{token_stays}
use Rattle.client_patch.proofs.Looks.{looked, looks_here, patch_looks, nothing_wanted, if_ready, waits, look_kept, look_step}
use Rattle.client_patch.proofs.Learning.{look_knows}
use Rattle.client_patch.proofs.Drawing.{some_bytes}
use Rattle.clay_grid.specs.Shape.{Shape, stripe_length}
use Rattle.version_seal.specs.Entry.{BookOf}
use Rattle.gather_parts.specs.Wanted.{wanted_of, bytes_of}
use Rattle.gather_parts.specs.Gatherings.{owed}
use Rattle.client_patch.proofs.patch.PatchCall.look.Goals as goal

pub invariant_of-self : goal.invariant_of-self
invariant_of-self c =
    let a = c.self.inside in
    let kept = c.self.invariant in
    let told = looked c.look-answer.result in
    let fits = subst (IsPatchLook a.call.now) (ap (λ (made : Directory × Told). made.1) (sym c.look-answer.ensures.step)) (patch_looks _ (actor_of a.ticket) a.number a.call.now c.args.directory.now.core kept.change) in
    let next = c.after_look-stage in
    record {
      change = kept.change;
      client = kept.client;
      actor_is = ap actor_of c.look-answer.ensures.token ∙ token_stays a.ticket a.number (DirectoryStep.Look (note_of a.call.now)) told ∙ kept.actor_is;
      script = kept.script;
      book = next.ensures.book ∙ kept.book;
      tries = kept.tries;
      untaken = λ put. next.ensures.takes ∙ kept.untaken put;
      kept =
          look_kept told a _ (map (wanted_of a.gatherings.book.geometry 0 next.result.size) (looked_stripes c.look-answer.result)) fits next.ensures.looked
          (waits a kept c.args.self.now c.self.view_is c.requires.first c.requires.seated) c.look-answer.ensures.token refl refl next.ensures.begun
          (nothing_wanted a.call.now c.look-answer.result fits a.gatherings.book.geometry next.result.size);
    }

pub returns-clause-step : goal.returns-clause-step
returns-clause-step c =
    let a = c.self.inside in
    let kept = c.self.invariant in
    let d = c.args.directory.now.core in
    let told = looked c.look-answer.result in
    let fits = subst (IsPatchLook a.call.now) (ap (λ (made : Directory × Told). made.1) (sym c.look-answer.ensures.step)) (patch_looks _ (actor_of a.ticket) a.number a.call.now c.args.directory.now.core kept.change) in
    let next = c.after_look-stage in
    let short : Bool = c.is_err-self-inside.result in
    look_step a kept c.args.self.now c.self.view_is c.requires.first c.requires.need told fits short (due_by next.result.stage next.new.gatherings a.writing) d c.look-answer.new.directory.core
    (c.look-answer.ensures.step ∙ ap (λ s. at_directory s (actor_of a.ticket) a.number (DirectoryStep.Look (note_of a.call.now)) d) (sym c.is_err-self-inside.ensures.value))
    c.look-answer.new.self c.look-answer.ensures.token (state_by next.result.stage next.new.gatherings a.writing next.result.outcome) (next.ensures.state a.writing)
    next.new.gatherings.takes next.ensures.takes

pub returns-clause-knows : goal.returns-clause-knows
returns-clause-knows c =
    let a = c.self.inside in
    let kept = c.self.invariant in
    let d = c.args.directory.now in
    let told = looked c.look-answer.result in
    let fits = subst (IsPatchLook a.call.now) (ap (λ (made : Directory × Told). made.1) (sym c.look-answer.ensures.step)) (patch_looks _ (actor_of a.ticket) a.number a.call.now d.core kept.change) in
    let next = c.after_look-stage in
    let its = c.requires.its ∙ sym (ap (λ (p : PatchOf). p.call.book) c.self.view_is) in
    let code : c.self.inside.opening.geometry ≡ c.args.directory.now.core.shape = ap (λ (book : BookOf). book.geometry) (sym its) ∙ c.keeps.ensures.stamps.code in
    let bytes : 0 < stripe_length c.args.directory.now.core.shape = subst (λ (g : Shape). 0 < stripe_length g) (c.geometry.ensures ∙ code) (some_bytes c.geometry.result c.stripe_len-long.ensures.geometry) in
    look_knows d c.look-answer.new.directory.stamps c.look-answer.ensures.stamps bytes c.keeps.ensures.whole.sound c.keeps.ensures.stamps a.call.now
    (λ write. c.requires.padded (ap is_write (sym (ap (λ (p : PatchOf). p.written) c.self.view_is)) ∙ write)) a.opening code a.number
    a.ticket c.look-answer.new.self c.look-answer.result _ c.look-answer.new.directory.core next.result.size (owed next.new.gatherings)
    (state_by next.result.stage next.new.gatherings a.writing next.result.outcome) (waits a kept c.args.self.now c.self.view_is c.requires.first c.requires.seated) fits c.look-answer.ensures.step c.look-answer.ensures.seen
    next.ensures.size
    (if_ready told (λ begun. ap owed begun ∙ ap (λ (book : BookOf). bytes_of (map (wanted_of book.geometry 0 next.result.size) (looked_stripes c.look-answer.result))) kept.book) next.ensures.begun)
    c.look-answer.ensures.token

pub returns-clause-told : goal.returns-clause-told
returns-clause-told c =
    let a = c.self.inside in
    let d = c.args.directory.now.core in
    let short : Bool = c.is_err-self-inside.result in
    let told = looked c.look-answer.result in
    there (patch_in a).call c.args.self.now.call d short told c.after_look-stage.result.told (ap (λ (p : PatchOf). p.call) c.self.view_is)
    (by_act_there (patch_in a).call d c.look-answer.new.directory.core short (DirectoryStep.Look (note_of a.call.now)) told
    (looks_here a c.self.invariant c.args.self.now c.self.view_is c.requires.first c.requires.need)
    (c.look-answer.ensures.step ∙ ap (λ s. at_directory s (actor_of a.ticket) a.number (DirectoryStep.Look (note_of a.call.now)) d) (sym c.is_err-self-inside.ensures.value)))
    c.after_look-stage.ensures.told
