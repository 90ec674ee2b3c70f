use Rattle.std.proofs.Common.{sym, subst, ◌∙◌, true≢false}
use Rattle.call_steps.specs.CallOf.{CallOf}
use Rattle.call_steps.specs.Steps.{need_of}
use Rattle.call_machine.specs.Going.{HasPlace}
use Rattle.call_machine.proofs.Coding.{coded_place, owed_coded}
use Rattle.call_machine.proofs.call_machine.CallMachine.ready.Goals.{in-Coder, in_default}
use Rattle.call_machine.proofs.call_machine.CallMachine.ready.Goals as goal

pub returns-then-matches-clause-place : goal.returns-then-matches-clause-place
returns-then-matches-clause-place g c =
    elim c.match-matches.branch [
      | in-Coder w ↦
          subst (λ (now : CallOf). HasPlace (need_of now)) (sym c.on_coder.ensures.coded)
          (coded_place c.args.self.now.call c.on_coder.new.self.call.coding c.need.ensures.in_pass (sym c.need.ensures.need ∙ w.in-Coder.is))
      | in_default w ↦ absurd (true≢false (sym c.if-matches.true ∙ w.matches-is))
    ]

pub returns-then-matches-clause-owed : goal.returns-then-matches-clause-owed
returns-then-matches-clause-owed g c =
    elim c.match-matches.branch [
      | in-Coder w ↦ owed_coded c.args.self.now.call c.on_coder.new.self.call.coding (sym c.need.ensures.need ∙ w.in-Coder.is) c.on_coder.ensures.owed
      | in_default w ↦ absurd (true≢false (sym c.if-matches.true ∙ w.matches-is))
    ]
