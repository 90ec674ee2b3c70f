use Rattle.std.proofs.Common.{[], ◌∷◌, refl, sym, subst}
use Rattle.store_map.specs.declared.actor.Actor.TheVariants as actor
use Rattle.store_map.specs.declared.actor.Token.TheVariants as token
use Rattle.store_core.specs.Schedule.{step_core}
use Rattle.world_laws.proofs.PlaceLaws.{operator_makes_actions}
use Rattle.world_laws.specs.Goes.{Leads}
use Rattle.world_laws.proofs.Places.{operator_tells}
use Rattle.call_steps.specs.declared.step_made.Step.{Step}
use Rattle.store_world.specs.Stored.{StoredWorld, world_of}
use Rattle.store_world.specs.Telling.{LeadsTold}
use Rattle.store_world.specs.Inside.{stored_in}
use Rattle.store_world.proofs.Keeping.{changed}
use Rattle.store_world.proofs.Places.{ample, reap_leads, reap_told_of, reap_kept}
use Rattle.store_world.proofs.world.World.reap_repairer.Goals as goal

pub invariant_of-self : goal.invariant_of-self
invariant_of-self c = reap_kept (stored_in c.self.inside) c.self.invariant c.reap-at.new.self (actor.Repairer c.args.i) (token.ReapRepairer c.args.i) _ ((operator_makes_actions c.self.inside.script.now (world_of (stored_in c.self.inside)) ample).reap_repairer c.args.i) (c.reap-at.ensures.step actor.Operator 0) c.reap-at.ensures.book c.reap-at.ensures.stamps

pub returns-clause-leads : goal.returns-clause-leads
returns-clause-leads c =
    let leads : _ = reap_leads (stored_in c.self.inside) c.self.invariant c.reap-at.new.self (actor.Repairer c.args.i) (token.ReapRepairer c.args.i) _ ((operator_makes_actions c.self.inside.script.now (world_of (stored_in c.self.inside)) ample).reap_repairer c.args.i) (c.reap-at.ensures.step actor.Operator 0) in
    subst
    (λ (v : StoredWorld). Leads v.script (step_core v.script (token.ReapRepairer c.args.i)) (world_of v)
    (world_of (changed (stored_in c.self.inside) c.reap-at.new.self c.self.inside.servers.items c.self.inside.clients.items c.self.inside.repairers.items c.self.inside.sweeper)))
    c.self.view_is leads

pub returns-clause-told : goal.returns-clause-told
returns-clause-told c =
    let told : _ = reap_told_of (stored_in c.self.inside) c.self.invariant c.reap-at.new.self (actor.Repairer c.args.i) (token.ReapRepairer c.args.i) _
    ((operator_makes_actions c.self.inside.script.now (world_of (stored_in c.self.inside)) ample).reap_repairer c.args.i) (c.reap-at.ensures.step actor.Operator 0)
    c.reap-at.result refl ((operator_tells c.self.inside.script.now (world_of (stored_in c.self.inside))).reap_repairer c.args.i) in
    subst
    (λ (v : StoredWorld). LeadsTold (token.ReapRepairer c.args.i) v
    (changed (stored_in c.self.inside) c.reap-at.new.self c.self.inside.servers.items c.self.inside.clients.items c.self.inside.repairers.items c.self.inside.sweeper)
    (c.step_of_reap.result ∷ []))
    c.self.view_is
    (subst (λ (step : Step). LeadsTold (token.ReapRepairer c.args.i) (stored_in c.self.inside)
    (changed (stored_in c.self.inside) c.reap-at.new.self c.self.inside.servers.items c.self.inside.clients.items c.self.inside.repairers.items c.self.inside.sweeper)
    (step ∷ [])) (sym c.step_of_reap.ensures) told)
