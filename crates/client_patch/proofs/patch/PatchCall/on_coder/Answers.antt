use Rattle.std.proofs.Common.{◌≡◌, true, false, is_err, refl, ap, subst, sym, ◌∙◌}
use Rattle.store_core.specs.Act.{Outcome as CoreOutcome}
use Rattle.run_laws.specs.State.{Sequel, State}
use Rattle.write_course.specs.Writings.{WritingOf, begins_version}
use Rattle.call_steps.specs.Steps.{coded}
use Rattle.gather_parts.specs.States.{StandsIn, after_coding}
use Rattle.client_patch.specs.Patches.{PatchOf}
use Rattle.client_patch.specs.Stages.{state_by}
use Rattle.client_patch.specs.Inside.{patch_in}
use Rattle.client_patch.proofs.Codings.{short_coded, coding_due, encoded_keeps, wanting_keeps, wanting_knows, wanting_coded, on_err, on_ok}
use Rattle.client_patch.proofs.patch.PatchCall.on_coder.Goals as goal

pub invariant_of-self-then-self : goal.invariant_of-self-then-self
invariant_of-self-then-self g c =
    let a = c.self.inside in
    let kept = c.self.invariant in
    let due = coding_due a kept c.args.self.now c.self.view_is c.requires c.in_default.not-Looked c.in_default.not-Gathering in
    let begins : begins_version c.self.inside.writing.state ≡ true = c.due-due.ensures.begins (c.due-due.ensures.due ∙ due) in
    let same = on_err c.encode-encoded.result _ c.encode-encoded.ensures.err (sym c.is_err-self-inside.ensures.value ∙ c.if-self.true) in
    record {
      change = kept.change;
      client = kept.client;
      actor_is = kept.actor_is;
      script = kept.script;
      book = kept.book;
      tries = kept.tries;
      untaken = kept.untaken;
      kept =
          wanting_keeps a kept c.args.self.now c.self.view_is c.requires c.in_default.not-Looked c.in_default.not-Gathering begins c.hear_short.new.self c.is_err-self-inside.result
          (c.hear_short.ensures ∙ ap (λ (w : WritingOf). record w { state = State.Ending CoreOutcome.NoMemory; due = false }) same);
    }

pub invariant_of-self-else-self : goal.invariant_of-self-else-self
invariant_of-self-else-self g c =
    let a = c.self.inside in
    let kept = c.self.invariant in
    let same = on_ok c.encode-encoded.result _ c.encode-encoded.ensures.ok (sym c.is_err-self-inside.ensures.value ∙ c.if-self.false) in
    record {
      change = kept.change;
      client = kept.client;
      actor_is = kept.actor_is;
      script = kept.script;
      book = kept.book;
      tries = kept.tries;
      untaken = kept.untaken;
      kept = encoded_keeps a kept c.args.self.now c.self.view_is c.requires c.in_default.not-Looked c.in_default.not-Gathering c.encode-encoded.new.writing c.is_err-self-inside.result same;
    }

pub returns-in-Err-clause-coded : goal.returns-in-Err-clause-coded
returns-in-Err-clause-coded g c =
    short_coded c.self.inside c.self.invariant c.in-Looked.is c.begin_gathering.new.changes.items c.begin_gathering.new.gatherings
    c.begin_gathering.ensures.changes c.begin_gathering.ensures.takes
    ∙ ap (λ (p : PatchOf). coded true p.call) c.self.view_is

pub returns-in-Err-on_coder-clause-coded : goal.returns-in-Err-on_coder-clause-coded
returns-in-Err-on_coder-clause-coded g c =
    let a = c.self.inside in
    let stands : StandsIn (patch_in a).call a.gatherings Sequel.Draw = record {
      book = sym c.self.invariant.book;
      state = ap (λ s. state_by s a.gatherings a.writing a.outcome) c.in-Gathering.is;
      takes = refl;
    } in
    subst (λ short. after_coding short (patch_in a).call c.on_coder.new.self Sequel.Draw ≡ coded short (patch_in a).call) (ap is_err c.in-Err-on_coder.is)
    (c.on_coder.ensures.call (patch_in a).call Sequel.Draw stands)
    ∙ ap (λ (p : PatchOf). coded true p.call) c.self.view_is

pub returns-then-self : goal.returns-then-self
returns-then-self g c =
    let a = c.self.inside in
    let kept = c.self.invariant in
    let due = coding_due a kept c.args.self.now c.self.view_is c.requires c.in_default.not-Looked c.in_default.not-Gathering in
    let begins : begins_version c.self.inside.writing.state ≡ true = c.due-due.ensures.begins (c.due-due.ensures.due ∙ due) in
    let same = on_err c.encode-encoded.result _ c.encode-encoded.ensures.err (sym c.is_err-self-inside.ensures.value ∙ c.if-self.true) in
    let now = c.hear_short.ensures ∙ ap (λ (w : WritingOf). record w { state = State.Ending CoreOutcome.NoMemory; due = false }) same in
    record {
      coded =
          wanting_coded a kept c.args.self.now c.self.view_is c.requires c.in_default.not-Looked c.in_default.not-Gathering begins c.hear_short.new.self c.is_err-self-inside.result now c.if-self.true;
      written = ap (λ (p : PatchOf). p.written) c.self.view_is;
      knows = λ d _. wanting_knows a kept c.args.self.now c.self.view_is c.requires c.in_default.not-Looked c.in_default.not-Gathering begins c.hear_short.new.self c.is_err-self-inside.result now d;
    }
