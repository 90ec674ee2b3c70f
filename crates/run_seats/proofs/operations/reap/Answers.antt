use Rattle.std.proofs.Common.{◌∷◌, ◌++◌, [], refl, sym, ap, subst, ◌∙◌}
use Rattle.store_map.specs.declared.actor.Actor.TheVariants as actor
use Rattle.store_core.specs.Act.{Act, DirectoryStep}
use Rattle.store_core.specs.ActPlace.{ActPlace}
use Rattle.store_core.specs.Directory.{Directory}
use Rattle.store_core.specs.Told.{Told}
use Rattle.version_seal.specs.Entry.{BookOf}
use Rattle.turn_lock.specs.TurnState.{TurnState}
use Rattle.thread_laws.specs.AtDirectory.{StandsAtDirectory}
use Rattle.thread_laws.specs.Noted.{Noted, made_in}
use Rattle.thread_laws.specs.Numbers.{Counts}
use Rattle.thread_laws.specs.Operated.{IsOperated}
use Rattle.thread_laws.proofs.Operated.{line_at_directory}
use Rattle.run_seats.specs.Fixed.{directory_identity}
use Rattle.run_seats.specs.Plain.{plain_at_directory}
use Rattle.run_seats.proofs.Holding.{holding}
use Rattle.run_seats.proofs.Operating.{reap_fits}
use Rattle.run_seats.proofs.PlainSteps.{plain_stands_there, plain_added_there}
use Rattle.run_seats.specs.declared.directory_box.DirectoryBox.{DirectoryBox}
use Rattle.run_seats.specs.declared.directory_box.DirectoryIdentity.{DirectoryIdentity}
use Rattle.run_seats.proofs.operations.reap.Goals as goal

pub give_directory-requires : goal.give_directory-requires
give_directory-requires g c =
    let held = c.take-held.result in
    let of : Counts = record { clients = held.clients; repairers = held.repairers } in
    let log = c.take-held.new.turn.seen in
    let n = c.args.stepper.number in
    let step = DirectoryStep.Reap c.args.reaped in
    let now = c.reap.new.self in
    let f = reap_fits _ c.args.turn.now.fixed n c.args.turn.now.seen c.args.reaped c.take-held.ensures.fixed c.requires.1.1.1 in (
      holding c.args.lock.now c.args.stepper.number _ (directory_identity c.take-held.result) _ c.args.turn.now c.take-held.new.turn c.requires.1.1.0 c.take-held.ensures.turn c.take-held.ensures.fixed
          (λ i. record { opening = c.reap.ensures.book i; max = c.take-held.result.max; clients = c.take-held.result.clients; repairers = c.take-held.result.repairers }) refl,
      (
        subst (λ (b : DirectoryBox). StandsAtDirectory of held.max now (log ++ plain_at_directory n actor.Operator (Act.AtDirectory step) b.directory log g.last ∷ []))
            (sym c.of-before.ensures)
            (plain_stands_there n g.last actor.Operator (λ no. no) step tt held.directory now (ap (λ (p : Directory × Told). p.0) (c.reap.ensures.step actor.Operator 0)) log of held.max c.keeps.ensures.bytes
            c.keeps.ensures.whole.sound c.reap.ensures.book c.reap.ensures.stamps c.take-held.ensures.stands.0 f.turn),
        subst
            (λ (b : BookOf). IsOperated b.script ActPlace.Directory (made_in (log ++ plain_at_directory n actor.Operator (Act.AtDirectory step) c.of-before.result.value.directory log g.last ∷ [])))
            (sym c.reap.ensures.book)
            (subst (λ (b : DirectoryBox). IsOperated held.directory.book.script ActPlace.Directory (made_in (log ++ plain_at_directory n actor.Operator (Act.AtDirectory step) b.directory log g.last ∷ [])))
            (sym c.of-before.ensures)
            (line_at_directory of held.directory.book.script ActPlace.Directory n f.turn c.args.turn.now.numbers c.requires.1.1.0.number c.args.turn.now.seen log
            (plain_at_directory n actor.Operator (Act.AtDirectory step) held.directory log g.last).1 c.take-held.ensures.stands.0.turns c.take-held.ensures.seen refl refl f.next c.take-held.ensures.stands.1)),
      ),
    )

pub returns-clause-step : goal.returns-clause-step
returns-clause-step g c =
    let held = c.take-held.result in
    let log = c.take-held.new.turn.seen in
    let n = c.args.stepper.number in
    let step = DirectoryStep.Reap c.args.reaped in
    plain_added_there n g.last actor.Operator (λ no. no) step tt held.directory c.reap.new.self (ap (λ (p : Directory × Told). p.0) (c.reap.ensures.step actor.Operator 0)) log c.args.turn.now.numbers c.args.turn.now.seen
    c.give_directory.new.turn.seen c.requires.1.1.0.number c.take-held.ensures.seen
    (ap (λ (t : TurnState DirectoryIdentity Noted). t.seen) c.give_directory.ensures
    ∙ (λ i. log ++ plain_at_directory n actor.Operator (Act.AtDirectory step) (c.of-before.ensures i).directory log g.last ∷ []))
