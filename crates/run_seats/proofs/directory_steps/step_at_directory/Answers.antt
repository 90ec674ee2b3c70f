use Rattle.std.proofs.Common.{◌≡◌, ◌∷◌, ◌++◌, [], ℕ, sym, ap, subst, ◌∙◌}
use Rattle.store_core.specs.Agreement.{Agrees}
use Rattle.store_core.specs.ActPlace.{ActPlace}
use Rattle.call_machine.specs.Calls.{MachineOf}
use Rattle.actors.specs.Callers.{CallerOf}
use Rattle.actors.specs.Steps.{MadeAtDirectory}
use Rattle.actors.proofs.Stepping.{padded_for}
use Rattle.turn_lock.specs.TurnState.{TurnState}
use Rattle.version_seal.specs.Entry.{BookOf}
use Rattle.thread_laws.specs.Noted.{Noted, made_in}
use Rattle.thread_laws.specs.Numbers.{Counts}
use Rattle.thread_laws.specs.AtDirectory.{StandsAtDirectory}
use Rattle.thread_laws.specs.Operated.{IsOperated}
use Rattle.thread_laws.proofs.Operated.{others_at_directory}
use Rattle.run_seats.specs.Fixed.{directory_identity, max_in}
use Rattle.run_seats.specs.Stepped.{entry_at_directory, HasSteppedAtDirectory}
use Rattle.run_seats.proofs.Fits.{call_is, fits_there, needs_there, work_is}
use Rattle.run_seats.proofs.Holding.{holding}
use Rattle.run_seats.proofs.Operated.{call_at_directory}
use Rattle.run_seats.proofs.Knowing.{knows_now, is_padded}
use Rattle.run_seats.proofs.DirectorySteps.{agrees_there, caller_stands, caller_stepped, is_there, number_is, token_is}
use Rattle.run_seats.specs.declared.directory_box.DirectoryBox.{DirectoryBox}
use Rattle.run_seats.specs.declared.directory_box.DirectoryIdentity.{DirectoryIdentity}
use Rattle.run_seats.proofs.directory_steps.step_at_directory.Goals as goal

pub on_directory-left-requires-clause-need : goal.on_directory-left-requires-clause-need
on_directory-left-requires-clause-need g c = needs_there c.args.turn.now.fixed c.args.stepper.number c.args.turn.now.seen c.args.caller.now c.requires.1.1.1.0

pub on_directory-left-requires-clause-steps : goal.on_directory-left-requires-clause-steps
on_directory-left-requires-clause-steps g c = c.requires.1.1.1.0.work.few

pub on_directory-left-requires-clause-agrees : goal.on_directory-left-requires-clause-agrees
on_directory-left-requires-clause-agrees g c =
    let before = c.requires.1.1.1.0 in
    let held = c.take-held.result in
    let of : Counts = record { clients = held.clients; repairers = held.repairers } in
    let there =
    is_there held.clients held.repairers held.max c.args.stepper.number c.args.turn.now.fixed c.args.turn.now.numbers c.args.turn.now.seen c.take-held.new.turn.seen held.directory c.args.caller.now before
    c.take-held.ensures.fixed c.take-held.ensures.stands.0 c.keeps.ensures.bytes c.keeps.ensures.whole.sound c.keeps.ensures.stamps c.requires.1.1.0.number c.take-held.ensures.seen in
    subst (Agrees held.directory.core) (sym (token_is before.call c.args.caller.now before.work))
    (agrees_there of c.args.stepper.number held.max c.args.turn.now.numbers c.args.turn.now.seen c.take-held.new.turn.seen held.directory before.call there)

pub on_directory-left-requires-clause-its : goal.on_directory-left-requires-clause-its
on_directory-left-requires-clause-its g c =
    (fits_there _ c.args.turn.now.fixed c.args.stepper.number c.args.turn.now.seen c.args.caller.now c.take-held.ensures.fixed c.requires.1.1.1.0).book

pub on_directory-left-requires-clause-padded : goal.on_directory-left-requires-clause-padded
on_directory-left-requires-clause-padded g c =
    let before = c.requires.1.1.1.0 in
    let f = fits_there _ c.args.turn.now.fixed c.args.stepper.number c.args.turn.now.seen c.args.caller.now c.take-held.ensures.fixed before in
    padded_for c.args.caller.now c.take-held.result.directory
    (is_padded before.script c.take-held.result.directory f.written c.keeps.ensures.whole.sound c.take-held.ensures.stands.0.bytes c.keeps.ensures.stamps)

pub on_directory-left-requires-clause-knows : goal.on_directory-left-requires-clause-knows
on_directory-left-requires-clause-knows g c =
    knows_now c.args.turn.now.seen c.take-held.new.turn.seen c.args.caller.now.book c.take-held.result.directory c.args.caller.now c.take-held.ensures.seen.0 c.take-held.ensures.stands.0.stamps c.requires.1.1.1.0.knows

pub give_step-requires : goal.give_step-requires
give_step-requires g c =
    let before = c.requires.1.1.1.0 in
    let held = c.take-held.result in
    let of : Counts = record { clients = held.clients; repairers = held.repairers } in
    let log = c.take-held.new.turn.seen in
    let n = c.args.stepper.number in
    let a = c.args.caller.now in
    let left = c.on_directory-left.result.0.value in
    let now = c.on_directory-left.new.directory in
    let there =
    is_there held.clients held.repairers held.max n c.args.turn.now.fixed c.args.turn.now.numbers c.args.turn.now.seen log held.directory a before c.take-held.ensures.fixed c.take-held.ensures.stands.0 c.keeps.ensures.bytes
    c.keeps.ensures.whole.sound c.keeps.ensures.stamps c.requires.1.1.0.number c.take-held.ensures.seen in
    let m = c.on_directory-left.ensures.step in
    let made : MadeAtDirectory before.call left held.directory now = subst (λ (x : MachineOf). MadeAtDirectory x left held.directory now) (call_is before.call m.call a before.work m.was) m.step in
    let number : (entry_at_directory c.args.stepper.number c.of-stood.result.value.work c.on_directory-left.result.0.value c.of-before.result.value.directory c.take-held.new.turn.seen g.last).0 ≡ c.args.stepper.number =
    number_is c.args.stepper.number c.of-stood.result.value.work c.on_directory-left.result.0.value c.of-before.result.value.directory c.take-held.new.turn.seen g.last in (
      holding c.args.lock.now c.args.stepper.number _ (directory_identity c.take-held.result) _ c.args.turn.now c.take-held.new.turn c.requires.1.1.0 c.take-held.ensures.turn c.take-held.ensures.fixed
          (λ i. record { opening = c.on_directory-left.ensures.book i; max = c.take-held.result.max; clients = c.take-held.result.clients; repairers = c.take-held.result.repairers }) number,
      (
        subst (λ (b : DirectoryBox). StandsAtDirectory of held.max now (log ++ entry_at_directory n c.of-stood.result.value.work left b.directory log g.last ∷ []))
            (sym c.of-before.ensures)
            (subst (λ (x : CallerOf). StandsAtDirectory of held.max now (log ++ entry_at_directory n x.work left held.directory log g.last ∷ []))
            (sym c.of-stood.ensures)
            (caller_stands of n held.max c.args.turn.now.numbers c.args.turn.now.seen log held.directory before.call there g.last a left (work_is before.call a before.work) now made c.on_directory-left.ensures.book)),
        subst
            (λ (b : BookOf). IsOperated b.script ActPlace.Directory (made_in (log ++ entry_at_directory n c.of-stood.result.value.work left c.of-before.result.value.directory log g.last ∷ [])))
            (sym c.on_directory-left.ensures.book)
            (others_at_directory held.directory.book.script ActPlace.Directory log (entry_at_directory n c.of-stood.result.value.work left c.of-before.result.value.directory log g.last)
            (call_at_directory n c.of-stood.result.value.work before.call left c.of-before.result.value.directory log g.last
            (ap (λ (x : CallerOf). x.work) c.of-stood.ensures ∙ work_is before.call a before.work) before.calls)
            c.take-held.ensures.stands.1),
      ),
    )

pub returns-clause-step : goal.returns-clause-step
returns-clause-step g c =
    let before = c.requires.1.1.1.0 in
    let held = c.take-held.result in
    let of : Counts = record { clients = held.clients; repairers = held.repairers } in
    let log = c.take-held.new.turn.seen in
    let n = c.args.stepper.number in
    let a = c.args.caller.now in
    let left = c.on_directory-left.result.0.value in
    let now = c.on_directory-left.new.directory in
    let there =
    is_there held.clients held.repairers held.max n c.args.turn.now.fixed c.args.turn.now.numbers c.args.turn.now.seen log held.directory a before c.take-held.ensures.fixed c.take-held.ensures.stands.0 c.keeps.ensures.bytes
    c.keeps.ensures.whole.sound c.keeps.ensures.stamps c.requires.1.1.0.number c.take-held.ensures.seen in
    let m = c.on_directory-left.ensures.step in
    let made : MadeAtDirectory before.call left held.directory now = subst (λ (x : MachineOf). MadeAtDirectory x left held.directory now) (call_is before.call m.call a before.work m.was) m.step in
    subst (λ (max : ℕ). HasSteppedAtDirectory n g.last max c.args.turn.now.seen c.give_step.new.turn.seen a c.on_directory-left.new.self) (ap max_in c.take-held.ensures.fixed)
    (caller_stepped of n held.max c.args.turn.now.numbers c.args.turn.now.seen log held.directory before.call there g.last a left (work_is before.call a before.work) now made c.give_step.new.turn.seen
    c.on_directory-left.new.self
    (ap (λ (t : TurnState DirectoryIdentity Noted). t.seen) c.give_step.ensures
    ∙ (λ i. log ++ entry_at_directory n (c.of-stood.ensures i).work left (c.of-before.ensures i).directory log g.last ∷ []))
    m c.on_directory-left.ensures.knows)
