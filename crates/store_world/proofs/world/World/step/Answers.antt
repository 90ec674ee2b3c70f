use Rattle.std.proofs.Common.{[], ◌∷◌, sym, subst}
use Rattle.std.specs.Prelude.{OnOk}
use Rattle.store_map.specs.declared.actor.Token.{Token}
use Rattle.store_map.specs.declared.actor.Token.TheVariants as token
use Rattle.world_laws.specs.Traced.{GoesTelling}
use Rattle.store_world.specs.Stored.{world_of}
use Rattle.store_world.specs.Telling.{steps_in}
use Rattle.store_world.specs.Watched.{Watched}
use Rattle.store_world.proofs.Watching.{watched_step}
use Rattle.store_world.proofs.world.World.step.Goals as goal

pub returns-in-Drain-clause-told : goal.returns-in-Drain-clause-told
returns-in-Drain-clause-told g c =
    subst (λ (t : Token). OnOk c.drain.result (Watched (g.W.Watch.heard c.args.watch.now c.drain.new.watch) (GoesTelling c.args.self.now.script (t ∷ []) (world_of c.args.self.now) (world_of c.drain.new.self))))
    (sym c.in-Drain.is) c.drain.ensures.told

pub returns-in-Client-clause-told : goal.returns-in-Client-clause-told
returns-in-Client-clause-told g c =
    watched_step (g.W.Watch.heard c.args.watch.now c.turn_made.new.watch) c.args.token (token.Client c.in-Client.i) c.args.self.now c.client_turn.new.self (steps_in c.client_turn.result) c.turn_made.result
    c.in-Client.is c.client_turn.ensures.told c.turn_made.ensures

pub returns-in-Repairer-clause-told : goal.returns-in-Repairer-clause-told
returns-in-Repairer-clause-told g c =
    watched_step (g.W.Watch.heard c.args.watch.now c.turn_made-in-Repairer.new.watch) c.args.token (token.Repairer c.in-Repairer.i) c.args.self.now c.repairer_turn.new.self (steps_in c.repairer_turn.result) c.turn_made-in-Repairer.result
    c.in-Repairer.is c.repairer_turn.ensures.told c.turn_made-in-Repairer.ensures

pub returns-in-Sweep-clause-told : goal.returns-in-Sweep-clause-told
returns-in-Sweep-clause-told g c =
    watched_step (g.W.Watch.heard c.args.watch.now c.made.new.self) c.args.token token.Sweep c.args.self.now c.sweeper_turn.new.self (c.sweeper_turn.result ∷ []) c.made.result
    c.in-Sweep.is c.sweeper_turn.ensures.told c.made.ensures

pub returns-in-Wipe-clause-told : goal.returns-in-Wipe-clause-told
returns-in-Wipe-clause-told g c =
    watched_step (g.W.Watch.heard c.args.watch.now c.made-in-Wipe.new.self) c.args.token (token.Wipe c.in-Wipe.server) c.args.self.now c.wipe.new.self (c.wipe.result ∷ []) c.made-in-Wipe.result
    c.in-Wipe.is c.wipe.ensures.told c.made-in-Wipe.ensures

pub returns-in-Down-clause-told : goal.returns-in-Down-clause-told
returns-in-Down-clause-told g c =
    watched_step (g.W.Watch.heard c.args.watch.now c.made-in-Down.new.self) c.args.token (token.Down c.in-Down.server) c.args.self.now c.down.new.self (c.down.result ∷ []) c.made-in-Down.result
    c.in-Down.is c.down.ensures.told c.made-in-Down.ensures

pub returns-in-Up-clause-told : goal.returns-in-Up-clause-told
returns-in-Up-clause-told g c =
    watched_step (g.W.Watch.heard c.args.watch.now c.made-in-Up.new.self) c.args.token (token.Up c.in-Up.server) c.args.self.now c.up.new.self (c.up.result ∷ []) c.made-in-Up.result
    c.in-Up.is c.up.ensures.told c.made-in-Up.ensures

pub returns-in-ReapClient-clause-told : goal.returns-in-ReapClient-clause-told
returns-in-ReapClient-clause-told g c =
    watched_step (g.W.Watch.heard c.args.watch.now c.made-in-ReapClient.new.self) c.args.token (token.ReapClient c.in-ReapClient.i) c.args.self.now c.reap_client.new.self (c.reap_client.result ∷ []) c.made-in-ReapClient.result
    c.in-ReapClient.is c.reap_client.ensures.told c.made-in-ReapClient.ensures

pub returns-in-ReapRepairer-clause-told : goal.returns-in-ReapRepairer-clause-told
returns-in-ReapRepairer-clause-told g c =
    watched_step (g.W.Watch.heard c.args.watch.now c.made-in-ReapRepairer.new.self) c.args.token (token.ReapRepairer c.in-ReapRepairer.i) c.args.self.now c.reap_repairer.new.self (c.reap_repairer.result ∷ []) c.made-in-ReapRepairer.result
    c.in-ReapRepairer.is c.reap_repairer.ensures.told c.made-in-ReapRepairer.ensures
