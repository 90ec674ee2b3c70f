use Rattle.std.proofs.Common.{◌≡◌, ◌<◌, set, slice_get, Some, ap, subst, sym, [], ◌∷◌, refl}
use Rattle.clay_grid.specs.Shape.{chunk_count}
use Rattle.store_map.specs.declared.actor.Token.TheVariants as token
use Rattle.store_core.specs.Act.{ServerStep}
use Rattle.store_core.specs.Schedule.{step_core}
use Rattle.store_core.specs.Told.{Told}
use Rattle.chunk_server.specs.State.{ServerState}
use Rattle.world_laws.proofs.PlaceLaws.{operator_makes_actions}
use Rattle.world_laws.specs.Goes.{Leads}
use Rattle.world_laws.proofs.Places.{operator_tells}
use Rattle.call_steps.specs.declared.step_made.Step.{Step}
use Rattle.store_world.specs.Stored.{StoredWorld, world_of}
use Rattle.store_world.specs.Telling.{LeadsTold}
use Rattle.store_world.specs.Inside.{stored_in}
use Rattle.store_world.proofs.Keeping.{changed}
use Rattle.store_world.proofs.Lists.{got}
use Rattle.store_world.proofs.Places.{ample, server_there, action_leads, action_told, action_kept}
use Rattle.store_world.proofs.world.World.up.Goals as goal

pub invariant_of-self : goal.invariant_of-self
invariant_of-self c =
    let there : slice_get c.self.inside.servers.items c.args.server ≡ Some c.index_mut.result.now =
    got c.self.inside.servers.items c.args.server c.index_mut.result.now (server_there (stored_in c.self.inside) c.self.invariant c.args.server (subst (λ (v : StoredWorld). c.args.server < chunk_count v.script.geometry) (sym c.self.view_is) c.requires)) c.index_mut.ensures.value in
    action_kept (stored_in c.self.inside) c.self.invariant c.args.server c.index_mut.result.now c.up.new.self there token.Up ServerStep.Up Told.Made ((operator_makes_actions c.self.inside.script.now (world_of (stored_in c.self.inside)) ample).up) c.up.ensures.core
    (ap (λ (x : ServerState). x.number) c.up.ensures.present) (ap (λ (x : ServerState). x.book) c.up.ensures.present)

pub returns-clause-leads : goal.returns-clause-leads
returns-clause-leads c =
    let there : slice_get c.self.inside.servers.items c.args.server ≡ Some c.index_mut.result.now =
    got c.self.inside.servers.items c.args.server c.index_mut.result.now (server_there (stored_in c.self.inside) c.self.invariant c.args.server (subst (λ (v : StoredWorld). c.args.server < chunk_count v.script.geometry) (sym c.self.view_is) c.requires)) c.index_mut.ensures.value in
    let leads : _ = action_leads (stored_in c.self.inside) c.self.invariant c.args.server c.index_mut.result.now c.up.new.self there token.Up ServerStep.Up Told.Made ((operator_makes_actions c.self.inside.script.now (world_of (stored_in c.self.inside)) ample).up) c.up.ensures.core in
    subst
    (λ (v : StoredWorld). Leads v.script (step_core v.script (token.Up c.args.server)) (world_of v)
    (world_of (changed (stored_in c.self.inside) c.self.inside.directory (set c.self.inside.servers.items c.args.server c.up.new.self) c.self.inside.clients.items c.self.inside.repairers.items c.self.inside.sweeper)))
    c.self.view_is leads

pub returns-clause-told : goal.returns-clause-told
returns-clause-told c =
    let there : slice_get c.self.inside.servers.items c.args.server ≡ Some c.index_mut.result.now =
    got c.self.inside.servers.items c.args.server c.index_mut.result.now (server_there (stored_in c.self.inside) c.self.invariant c.args.server (subst (λ (v : StoredWorld). c.args.server < chunk_count v.script.geometry) (sym c.self.view_is) c.requires)) c.index_mut.ensures.value in
    let told : _ = action_told (stored_in c.self.inside) c.self.invariant c.args.server c.index_mut.result.now c.up.new.self there token.Up ServerStep.Up Told.Made
    ((operator_makes_actions c.self.inside.script.now (world_of (stored_in c.self.inside)) ample).up) c.up.ensures.core
    refl ((operator_tells c.self.inside.script.now (world_of (stored_in c.self.inside))).up c.args.server) in
    subst
    (λ (v : StoredWorld). LeadsTold (token.Up c.args.server) v
    (changed (stored_in c.self.inside) c.self.inside.directory (set c.self.inside.servers.items c.args.server c.up.new.self) c.self.inside.clients.items c.self.inside.repairers.items c.self.inside.sweeper)
    (c.step_of_server_act.result ∷ []))
    c.self.view_is
    (subst (λ (step : Step). LeadsTold (token.Up c.args.server) (stored_in c.self.inside)
    (changed (stored_in c.self.inside) c.self.inside.directory (set c.self.inside.servers.items c.args.server c.up.new.self) c.self.inside.clients.items c.self.inside.repairers.items c.self.inside.sweeper)
    (step ∷ [])) (sym c.step_of_server_act.ensures) told)
