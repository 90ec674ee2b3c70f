use Rattle.std.proofs.Common.{subst}
use Rattle.store_map.specs.declared.actor.Actor.TheVariants as actor
use Rattle.store_map.specs.declared.actor.Token.TheVariants as token
use Rattle.client_patch.proofs.Padding.{bytes_are_padded}
use Rattle.store_world.specs.Inside.{stored_in}
use Rattle.store_world.specs.Stored.{StoredWorld}
use Rattle.store_world.specs.Telling.{LeadsTold, steps_in}
use Rattle.store_world.proofs.Padding.{are_padded, have_contents}
use Rattle.store_world.proofs.Told.{leads_of}
use Rattle.store_world.proofs.Turning.{ready_at, turned, with_list}
use Rattle.store_world.proofs.world.World.repairer_turn.Goals as goal

pub turn_in-requires-clause-ready : goal.turn_in-requires-clause-ready
turn_in-requires-clause-ready g c κs within = ready_at (stored_in c.self.inside) c.self.invariant (actor.Repairer c.args.i)

pub turn_in-requires-clause-padded : goal.turn_in-requires-clause-padded
turn_in-requires-clause-padded g c κs within = are_padded (stored_in c.self.inside) c.self.invariant bytes_are_padded c.keeps.ensures.whole.sound c.keeps.ensures.stamps

pub invariant_of-self : goal.invariant_of-self
invariant_of-self g c =
    (turned (stored_in c.self.inside) c.self.invariant (have_contents (stored_in c.self.inside) c.self.invariant c.keeps.ensures.stamps) (actor.Repairer c.args.i) tt c.turn_in.result
    c.turn_in.new.callers.items c.turn_in.new.directory c.turn_in.new.servers.items c.turn_in.ensures).kept

pub returns-clause-told : goal.returns-clause-told
returns-clause-told g c =
    subst (λ (v : StoredWorld). LeadsTold (token.Repairer c.args.i) v (with_list (actor.Repairer c.args.i) c.turn_in.new.callers.items c.turn_in.new.directory c.turn_in.new.servers.items (stored_in c.self.inside)) (steps_in c.turn_in.result)) c.self.view_is
    (turned (stored_in c.self.inside) c.self.invariant (have_contents (stored_in c.self.inside) c.self.invariant c.keeps.ensures.stamps) (actor.Repairer c.args.i) tt c.turn_in.result
    c.turn_in.new.callers.items c.turn_in.new.directory c.turn_in.new.servers.items c.turn_in.ensures).told

pub returns-clause-leads : goal.returns-clause-leads
returns-clause-leads g c =
    leads_of (token.Repairer c.args.i) c.args.self.now (with_list (actor.Repairer c.args.i) c.turn_in.new.callers.items c.turn_in.new.directory c.turn_in.new.servers.items (stored_in c.self.inside)) (steps_in c.turn_in.result)
    (subst (λ (v : StoredWorld). LeadsTold (token.Repairer c.args.i) v (with_list (actor.Repairer c.args.i) c.turn_in.new.callers.items c.turn_in.new.directory c.turn_in.new.servers.items (stored_in c.self.inside)) (steps_in c.turn_in.result)) c.self.view_is
    (turned (stored_in c.self.inside) c.self.invariant (have_contents (stored_in c.self.inside) c.self.invariant c.keeps.ensures.stamps) (actor.Repairer c.args.i) tt c.turn_in.result
    c.turn_in.new.callers.items c.turn_in.new.directory c.turn_in.new.servers.items c.turn_in.ensures).told)
