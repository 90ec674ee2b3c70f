use Rattle.std.proofs.Common.{◌≡◌, ℕ, [], ◌∷◌, ◌<◌, length, set, slice_get, Some, ap, sym, subst, ◌∙◌}
use Rattle.call_steps.specs.declared.need.Need.TheVariants as need
use Rattle.store_map.specs.declared.actor.Actor.TheVariants as actor
use Rattle.store_map.specs.declared.actor.Token.TheVariants as token
use Rattle.store_core.specs.Run.{sweeper_step}
use Rattle.world_laws.specs.Goes.{Leads}
use Rattle.call_steps.specs.declared.step_made.Step.{Step}
use Rattle.store_world.specs.Stored.{StoredWorld, world_of}
use Rattle.store_world.specs.Telling.{LeadsTold}
use Rattle.store_world.specs.Inside.{stored_in}
use Rattle.store_world.proofs.Keeping.{changed}
use Rattle.store_world.proofs.Lists.{got}
use Rattle.store_world.proofs.Places.{server_there, width, sweep_leads, sweep_told, sweep_kept, discard_leads, discard_told, discard_kept}
use Rattle.store_world.proofs.world.World.sweeper_turn.Goals as goal

pub invariant_of-self : goal.invariant_of-self
invariant_of-self c = sweep_kept (stored_in c.self.inside) c.self.invariant c.on_directory-answer.new.d c.on_directory-answer.new.self (sym c.in-Directory.ensures.need) (c.on_directory-answer.ensures.step actor.Sweeper 0) c.on_directory-answer.ensures.book c.on_directory-answer.ensures.stamps

pub index_mut-requires : goal.index_mut-requires
index_mut-requires c =
    let less : c.in-Server.server < length c.self.inside.servers.items =
    server_there (stored_in c.self.inside) c.self.invariant c.in-Server.server (subst (λ (n : ℕ). c.in-Server.server < n) (width (stored_in c.self.inside) c.self.invariant) c.in-Server.ensures.below) in
    subst (λ (n : ℕ). c.in-Server.server < n) (sym c.self.inside.servers.ok.0) less

pub on_server-answer-requires : goal.on_server-answer-requires
on_server-answer-requires c =
    let less : c.in-Server.server < length c.self.inside.servers.items =
    server_there (stored_in c.self.inside) c.self.invariant c.in-Server.server (subst (λ (n : ℕ). c.in-Server.server < n) (width (stored_in c.self.inside) c.self.invariant) c.in-Server.ensures.below) in
    let there : slice_get c.self.inside.servers.items c.in-Server.server ≡ Some c.index_mut.result.now =
    got c.self.inside.servers.items c.in-Server.server c.index_mut.result.now less c.index_mut.ensures.value in
    sym c.in-Server.ensures.need ∙ ap need.Server (sym (c.self.invariant.servers.each c.in-Server.server c.index_mut.result.now there).0)

pub invariant_of-self-in-Server : goal.invariant_of-self-in-Server
invariant_of-self-in-Server c =
    let less : c.in-Server.server < length c.self.inside.servers.items =
    server_there (stored_in c.self.inside) c.self.invariant c.in-Server.server (subst (λ (n : ℕ). c.in-Server.server < n) (width (stored_in c.self.inside) c.self.invariant) c.in-Server.ensures.below) in
    let there : slice_get c.self.inside.servers.items c.in-Server.server ≡ Some c.index_mut.result.now =
    got c.self.inside.servers.items c.in-Server.server c.index_mut.result.now less c.index_mut.ensures.value in
    discard_kept (stored_in c.self.inside) c.self.invariant c.in-Server.server c.index_mut.result.now c.on_server-answer.new.s c.on_server-answer.new.self there (sym c.in-Server.ensures.need) c.on_server-answer.ensures.step c.on_server-answer.ensures.same.number c.on_server-answer.ensures.same.book

pub returns-in-Directory-clause-leads : goal.returns-in-Directory-clause-leads
returns-in-Directory-clause-leads c =
    let leads : _ = sweep_leads (stored_in c.self.inside) c.self.invariant c.on_directory-answer.new.d c.on_directory-answer.new.self (sym c.in-Directory.ensures.need) (c.on_directory-answer.ensures.step actor.Sweeper 0) in
    subst
    (λ (v : StoredWorld). Leads v.script (sweeper_step v.script) (world_of v)
    (world_of (changed (stored_in c.self.inside) c.on_directory-answer.new.d c.self.inside.servers.items c.self.inside.clients.items c.self.inside.repairers.items c.on_directory-answer.new.self)))
    c.self.view_is leads

pub returns-in-Server-clause-leads : goal.returns-in-Server-clause-leads
returns-in-Server-clause-leads c =
    let less : c.in-Server.server < length c.self.inside.servers.items =
    server_there (stored_in c.self.inside) c.self.invariant c.in-Server.server (subst (λ (n : ℕ). c.in-Server.server < n) (width (stored_in c.self.inside) c.self.invariant) c.in-Server.ensures.below) in
    let there : slice_get c.self.inside.servers.items c.in-Server.server ≡ Some c.index_mut.result.now =
    got c.self.inside.servers.items c.in-Server.server c.index_mut.result.now less c.index_mut.ensures.value in
    let leads : _ = discard_leads (stored_in c.self.inside) c.self.invariant c.in-Server.server c.index_mut.result.now c.on_server-answer.new.s c.on_server-answer.new.self there (sym c.in-Server.ensures.need) c.on_server-answer.ensures.step in
    subst
    (λ (v : StoredWorld). Leads v.script (sweeper_step v.script) (world_of v)
    (world_of (changed (stored_in c.self.inside) c.self.inside.directory (set c.self.inside.servers.items c.in-Server.server c.on_server-answer.new.s) c.self.inside.clients.items c.self.inside.repairers.items c.on_server-answer.new.self)))
    c.self.view_is leads

pub returns-in-Directory-clause-told : goal.returns-in-Directory-clause-told
returns-in-Directory-clause-told c =
    let told : _ = sweep_told (stored_in c.self.inside) c.self.invariant c.on_directory-answer.new.d c.on_directory-answer.new.self (sym c.in-Directory.ensures.need) (c.on_directory-answer.ensures.step actor.Sweeper 0)
    c.act-act.result c.on_directory-answer.result c.act-act.ensures (c.on_directory-answer.ensures.told actor.Sweeper 0) in
    subst
    (λ (v : StoredWorld). LeadsTold token.Sweep v
    (changed (stored_in c.self.inside) c.on_directory-answer.new.d c.self.inside.servers.items c.self.inside.clients.items c.self.inside.repairers.items c.on_directory-answer.new.self)
    (c.step_of.result ∷ []))
    c.self.view_is
    (subst (λ (step : Step). LeadsTold token.Sweep (stored_in c.self.inside)
    (changed (stored_in c.self.inside) c.on_directory-answer.new.d c.self.inside.servers.items c.self.inside.clients.items c.self.inside.repairers.items c.on_directory-answer.new.self)
    (step ∷ [])) (sym c.step_of.ensures) told)

pub returns-in-Server-clause-told : goal.returns-in-Server-clause-told
returns-in-Server-clause-told c =
    let less : c.in-Server.server < length c.self.inside.servers.items =
    server_there (stored_in c.self.inside) c.self.invariant c.in-Server.server (subst (λ (n : ℕ). c.in-Server.server < n) (width (stored_in c.self.inside) c.self.invariant) c.in-Server.ensures.below) in
    let there : slice_get c.self.inside.servers.items c.in-Server.server ≡ Some c.index_mut.result.now =
    got c.self.inside.servers.items c.in-Server.server c.index_mut.result.now less c.index_mut.ensures.value in
    let told : _ = discard_told (stored_in c.self.inside) c.self.invariant c.in-Server.server c.index_mut.result.now c.on_server-answer.new.s c.on_server-answer.new.self there (sym c.in-Server.ensures.need) c.on_server-answer.ensures.step
    c.act-act.result c.on_server-answer.result c.act-act.ensures c.on_server-answer.ensures.told in
    subst
    (λ (v : StoredWorld). LeadsTold token.Sweep v
    (changed (stored_in c.self.inside) c.self.inside.directory (set c.self.inside.servers.items c.in-Server.server c.on_server-answer.new.s) c.self.inside.clients.items c.self.inside.repairers.items c.on_server-answer.new.self)
    (c.step_of-in-Server.result ∷ []))
    c.self.view_is
    (subst (λ (step : Step). LeadsTold token.Sweep (stored_in c.self.inside)
    (changed (stored_in c.self.inside) c.self.inside.directory (set c.self.inside.servers.items c.in-Server.server c.on_server-answer.new.s) c.self.inside.clients.items c.self.inside.repairers.items c.on_server-answer.new.self)
    (step ∷ [])) (sym c.step_of-in-Server.ensures) told)
