use Rattle.std.proofs.Common.{◌<◌, length, refl, sym}
use Rattle.store_map.specs.declared.actor.Actor.TheVariants as actor
use Rattle.store_run.proofs.LastSweep.{ended_at_directory, ended_at_server, falls_at_directory, server_there}
use Rattle.store_run.proofs.ended.Ended.sweep_step.Goals as goal

pub returns-in-Directory-clause-ended : goal.returns-in-Directory-clause-ended
returns-in-Directory-clause-ended g c =
    ended_at_directory g.script c.args.self.now c.requires c.on_directory.new.d c.on_directory.new.self (sym c.in-Directory.ensures.need) (c.on_directory.ensures.step actor.Sweeper 0) c.keeps.ensures.whole.sound c.keeps.ensures.bytes
    c.on_directory.ensures.book c.on_directory.ensures.stamps

pub returns-in-Directory-clause-falls : goal.returns-in-Directory-clause-falls
returns-in-Directory-clause-falls g c =
    falls_at_directory g.script c.args.self.now c.requires c.on_directory.new.d c.on_directory.new.self (sym c.in-Directory.ensures.need) (c.on_directory.ensures.step actor.Sweeper 0) c.keeps.ensures.whole.sound

pub returns-in-Server-clause-ended : goal.returns-in-Server-clause-ended
returns-in-Server-clause-ended g c =
    let ended = c.args.self.now in
    let less : c.in-Server.server < length ended.servers.items = server_there g.script ended c.requires c.in-Server.server c.in-Server.ensures.below in
    ended_at_server g.script ended c.requires c.in-Server.server c.index_mut.result.now c.on_server.new.s _ c.on_server.new.self refl less c.index_mut.ensures.value (sym c.in-Server.ensures.need) c.on_server.ensures.step
    c.on_server.ensures.same.number
