use Rattle.std.proofs.Common.{◌∷◌, ◌++◌, [], refl, sym, ap, subst, ◌∙◌}
use Rattle.store_map.specs.declared.actor.Actor.TheVariants as actor
use Rattle.store_core.specs.ActPlace.{ActPlace}
use Rattle.version_seal.specs.Entry.{BookOf}
use Rattle.sweeper.specs.Sweeps.{SweeperOf, act_of}
use Rattle.turn_lock.specs.TurnState.{TurnState}
use Rattle.thread_laws.specs.AtDirectory.{StandsAtDirectory}
use Rattle.thread_laws.specs.Noted.{Noted, made_in}
use Rattle.thread_laws.specs.Numbers.{Counts}
use Rattle.thread_laws.specs.Operated.{IsOperated}
use Rattle.thread_laws.proofs.Operated.{others_at_directory, sweeps_plain}
use Rattle.run_seats.specs.Fixed.{directory_identity}
use Rattle.run_seats.specs.Plain.{plain_at_directory}
use Rattle.run_seats.proofs.Holding.{holding}
use Rattle.run_seats.proofs.Sweeping.{sweep_stands_there, sweep_stepped_there, sweep_turn}
use Rattle.run_seats.specs.declared.directory_box.DirectoryBox.{DirectoryBox}
use Rattle.run_seats.specs.declared.directory_box.DirectoryIdentity.{DirectoryIdentity}
use Rattle.run_seats.proofs.sweeps.sweep_directory.Goals as goal

pub on_directory-requires : goal.on_directory-requires
on_directory-requires g c = c.requires.1.1.1.needs

pub give_directory-requires : goal.give_directory-requires
give_directory-requires g c =
    let held = c.take-held.result in
    let of : Counts = record { clients = held.clients; repairers = held.repairers } in
    let log = c.take-held.new.turn.seen in
    let n = c.args.stepper.number in
    let s = c.args.sweeper.now in
    let now = c.on_directory.new.d in
    let turn = sweep_turn _ c.args.turn.now.fixed n s c.take-held.ensures.fixed c.requires.1.1.1 in (
      holding c.args.lock.now c.args.stepper.number _ (directory_identity c.take-held.result) _ c.args.turn.now c.take-held.new.turn c.requires.1.1.0 c.take-held.ensures.turn c.take-held.ensures.fixed
          (λ i. record { opening = c.on_directory.ensures.book i; max = c.take-held.result.max; clients = c.take-held.result.clients; repairers = c.take-held.result.repairers }) refl,
      (
        subst (λ (b : DirectoryBox). StandsAtDirectory of held.max now (log ++ plain_at_directory n actor.Sweeper (act_of c.of-stood.result.value) b.directory log g.last ∷ []))
            (sym c.of-before.ensures)
            (subst (λ (x : SweeperOf). StandsAtDirectory of held.max now (log ++ plain_at_directory n actor.Sweeper (act_of x) held.directory log g.last ∷ []))
            (sym c.of-stood.ensures)
            (sweep_stands_there n g.last s c.on_directory.new.self c.requires.1.1.1.needs held.directory now (c.on_directory.ensures.step actor.Sweeper 0) log of held.max c.keeps.ensures.bytes c.keeps.ensures.whole.sound
            c.on_directory.ensures.book c.on_directory.ensures.stamps c.take-held.ensures.stands.0 turn)),
        subst
            (λ (b : BookOf). IsOperated b.script ActPlace.Directory (made_in (log ++ plain_at_directory n actor.Sweeper (act_of c.of-stood.result.value) c.of-before.result.value.directory log g.last ∷ [])))
            (sym c.on_directory.ensures.book)
            (others_at_directory held.directory.book.script ActPlace.Directory log (plain_at_directory n actor.Sweeper (act_of c.of-stood.result.value) c.of-before.result.value.directory log g.last)
            (sweeps_plain c.of-stood.result.value.servers c.of-stood.result.value.at, refl) c.take-held.ensures.stands.1),
      ),
    )

pub returns-clause-step : goal.returns-clause-step
returns-clause-step g c =
    let held = c.take-held.result in
    let log = c.take-held.new.turn.seen in
    let n = c.args.stepper.number in
    let s = c.args.sweeper.now in
    sweep_stepped_there n g.last s c.on_directory.new.self c.requires.1.1.1.needs held.directory c.on_directory.new.d (c.on_directory.ensures.step actor.Sweeper 0) log c.args.turn.now.numbers c.args.turn.now.seen
    c.give_directory.new.turn.seen c.requires.1.1.0.number c.take-held.ensures.seen
    (ap (λ (t : TurnState DirectoryIdentity Noted). t.seen) c.give_directory.ensures
    ∙ (λ i. log ++ plain_at_directory n actor.Sweeper (act_of (c.of-stood.ensures i)) (c.of-before.ensures i).directory log g.last ∷ []))
