use Rattle.std.proofs.Common.{true, false, ap, ◌∙◌}
use Rattle.gather_parts.specs.Gatherings.{owed}
use Rattle.gather_parts.specs.Steps.{given_up}
use Rattle.gather_parts.specs.Progress.{is_due}
use Rattle.gather_parts.specs.States.{state_in}
use Rattle.gather_parts.proofs.Handing.{handed_state, handed_owed, call_after_coding}
use Rattle.gather_parts.proofs.gatherings.PartGatherings.on_coder.Goals as goal

pub returns-in-Ok-clause-state : goal.returns-in-Ok-clause-state
returns-in-Ok-clause-state g c = λ after. ap (λ p. state_in p after) c.in-Ok.ensures.on ∙ handed_state c.args.self.now after c.requires

pub returns-in-Ok-clause-owed : goal.returns-in-Ok-clause-owed
returns-in-Ok-clause-owed g c = ap owed c.in-Ok.ensures.on ∙ handed_owed c.args.self.now

pub returns-in-Ok-clause-call : goal.returns-in-Ok-clause-call
returns-in-Ok-clause-call g c = λ call after stands.
    call_after_coding call c.args.self.now c.go_on.new.self after false c.in-Ok.ensures.on c.in-Ok.ensures.settled c.requires stands

pub returns-in-Err-clause-coded : goal.returns-in-Err-clause-coded
returns-in-Err-clause-coded g c =
    let old = c.args.self.now in
    c.give_up.ensures ∙ (λ i. given_up (record old { book = c.go_on.ensures.book i; takes = c.go_on.ensures.takes i }))

pub returns-in-Err-clause-call : goal.returns-in-Err-clause-call
returns-in-Err-clause-call g c = λ call after stands.
    call_after_coding call c.args.self.now c.give_up.new.self after true (returns-in-Err-clause-coded g c) (ap is_due c.give_up.ensures) c.requires stands
