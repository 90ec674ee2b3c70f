use Rattle.std.proofs.Common.{Bool, false, ap, sym, ◌∙◌}
use Rattle.run_laws.specs.State.{Sequel}
use Rattle.call_steps.specs.Hearing.{told_here}
use Rattle.client_patch.specs.Stages.{state_by}
use Rattle.client_patch.specs.Inside.{patch_in}
use Rattle.client_patch.proofs.Standings.{gathers}
use Rattle.client_patch.specs.Patches.{PatchOf}
use Rattle.chunk_server.specs.Core.{core_of}
use Rattle.write_course.specs.WritingSteps.{stepped}
use Rattle.client_patch.proofs.Serving.{gathering_knows, served_kept, served_step, served_knows, served_tells}
use Rattle.client_patch.proofs.patch.PatchCall.on_server.Goals as goal

pub invariant_of-self-in_default : goal.invariant_of-self-in_default
invariant_of-self-in_default c =
    let a = c.self.inside in
    let kept = c.self.invariant in
    let step =
    c.on_server-answer-in_default.ensures.step
    ∙ ap (λ short. stepped a.writing.book.geometry short (core_of c.args.s.now) a.writing.state) (sym c.is_err-self-inside-in_default.ensures.value) in
    record {
      change = kept.change;
      client = kept.client;
      actor_is = kept.actor_is;
      script = kept.script;
      book = kept.book;
      tries = kept.tries;
      untaken = kept.untaken;
      kept =
          served_kept a kept c.args.self.now c.self.view_is c.args.s.now.number c.requires.need c.in_default.not-Gathering
          c.on_server-answer-in_default.new.self c.is_err-self-inside-in_default.result _ _ step c.on_server-answer-in_default.ensures.same false c.is_err-self-inside-in_default.result;
    }

pub returns-in-Gathering-clause-knows : goal.returns-in-Gathering-clause-knows
returns-in-Gathering-clause-knows c =
    gathering_knows c.self.inside c.self.invariant c.args.self.now c.self.view_is c.args.s.now.number c.requires.need c.in-Gathering.is
    c.on_server-answer.new.self c.on_server-answer.ensures.owed false c.is_err-self-inside.result

pub returns-in_default : goal.returns-in_default
returns-in_default c =
    let a = c.self.inside in
    let kept = c.self.invariant in
    let step =
    c.on_server-answer-in_default.ensures.step
    ∙ ap (λ short. stepped a.writing.book.geometry short (core_of c.args.s.now) a.writing.state) (sym c.is_err-self-inside-in_default.ensures.value) in
    record {
      step =
          served_step a kept c.args.self.now c.self.view_is c.args.s.now.number c.requires.need c.in_default.not-Gathering
          c.on_server-answer-in_default.new.self c.is_err-self-inside-in_default.result _ _ step c.on_server-answer-in_default.ensures.same;
      told = c.or_short-in_default.ensures
          ∙ c.on_server-answer-in_default.ensures.told
          ∙ served_tells a kept c.args.self.now c.self.view_is c.args.s.now.number c.requires.need c.in_default.not-Gathering
          c.is_err-self-inside-in_default.result (core_of c.args.s.now) c.is_err-self-inside-in_default.ensures.value;
      written = ap (λ (p : PatchOf). p.written) c.self.view_is;
      knows = λ d _.
          served_knows a kept c.args.self.now c.self.view_is c.args.s.now.number c.requires.need c.in_default.not-Gathering
          c.on_server-answer-in_default.new.self c.is_err-self-inside-in_default.result _ _ step c.on_server-answer-in_default.ensures.same false c.is_err-self-inside-in_default.result d;
      number = c.on_server-answer-in_default.ensures.number;
      book = c.on_server-answer-in_default.ensures.book;
    }

pub returns-in-Gathering-clause-told : goal.returns-in-Gathering-clause-told
returns-in-Gathering-clause-told c =
    let a = c.self.inside in
    let s = core_of c.args.s.now in
    let short : Bool = c.is_err-self-inside.result in
    let stands = gathers a c.self.invariant (ap (λ s. state_by s a.gatherings a.writing a.outcome) c.in-Gathering.is) in
    c.or_short.ensures
    ∙ c.on_server-answer.ensures.told (patch_in a).call Sequel.Draw stands
    ∙ ap (λ b. told_here b (patch_in a).call s) (sym c.is_err-self-inside.ensures.value)
    ∙ ap (λ (p : PatchOf). told_here short p.call s) c.self.view_is
