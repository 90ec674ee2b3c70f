use Rattle.std.proofs.Common.{◌<◌, length, refl, sym, subst, ◌∙◌}
use Rattle.store_map.specs.declared.actor.Actor.TheVariants as actor
use Rattle.session_store.proofs.SweepSteps.{swept_there, falls_there, swept_here}
use Rattle.session_store.proofs.session_sweeps.sweep_step.Goals as goal

pub returns-in-Directory-clause-swept : goal.returns-in-Directory-clause-swept
returns-in-Directory-clause-swept c =
    swept_there c.args.places.now _ c.args.sweeper.now c.on_directory.new.self c.requires c.keeps.ensures.whole.sound (sym c.in-Directory.ensures.need) refl refl c.on_directory.ensures.book c.on_directory.ensures.stamps
    (c.on_directory.ensures.step actor.Sweeper 0)

pub returns-in-Directory-clause-falls : goal.returns-in-Directory-clause-falls
returns-in-Directory-clause-falls c =
    falls_there c.args.places.now _ c.args.sweeper.now c.on_directory.new.self c.requires c.keeps.ensures.whole.sound (sym c.in-Directory.ensures.need) refl refl c.on_directory.ensures.book c.on_directory.ensures.stamps
    (c.on_directory.ensures.step actor.Sweeper 0)

pub returns-in-Server-clause-swept : goal.returns-in-Server-clause-swept
returns-in-Server-clause-swept c =
    let less : c.in-Server.server < length c.args.places.now.servers.items =
    subst (λ n. c.in-Server.server < n) (c.requires.servers ∙ sym c.requires.places.servers.count) c.in-Server.ensures.below
    in
    swept_here c.args.places.now _ c.args.sweeper.now c.on_server.new.self c.requires c.keeps.ensures.whole.sound c.in-Server.server c.index_mut.result.now c.on_server.new.s less c.index_mut.ensures.value refl
    (sym c.in-Server.ensures.need) refl refl c.on_server.ensures.step c.on_server.ensures.same.number c.on_server.ensures.same.book
