use Rattle.std.proofs.Common.{◌≡◌, true, List, subst}
use Rattle.store_core.specs.Core.{sweeper_has_step}
use Rattle.store_core.specs.Schedule.{is_unfinished}
use Rattle.world_laws.specs.Known.{core_of}
use Rattle.actors.specs.Callers.{CallerOf}
use Rattle.store_world.specs.Stored.{StoredWorld, world_of}
use Rattle.store_world.specs.Inside.{stored_in}
use Rattle.store_world.specs.Having.{some_caller_has, AreOfCode}
use Rattle.store_world.proofs.Having.{clients_of_code, repairers_of_code, by_client, by_repairers, by_sweeper}
use Rattle.store_world.proofs.world.World.is_unfinished.Goals as goal

pub returns-then-sweeper_has_step : goal.returns-then-sweeper_has_step
returns-then-sweeper_has_step c =
    by_sweeper c.args.self.now c.sweeper_has_step.result c.sweeper_has_step.ensures c.if-sweeper_has_step.true

pub returns-then-some_has_step : goal.returns-then-some_has_step
returns-then-some_has_step c =
    let one : c.some_has_step.result ≡ some_caller_has c.self.inside.script.now c.self.inside.clients.items =
    subst (λ (l : List CallerOf). AreOfCode c.self.inside.script.now l → c.some_has_step.result ≡ some_caller_has c.self.inside.script.now l) c.deref.ensures.value
    (c.some_has_step.ensures c.self.inside.script.now) (clients_of_code (stored_in c.self.inside) c.self.invariant) in
    subst (λ (s : StoredWorld). true ≡ is_unfinished s.script (core_of s.script (world_of s))) c.self.view_is
    (by_client (stored_in c.self.inside) c.self.invariant c.some_has_step.result one c.if-some_has_step.true)

pub returns : goal.returns
returns c =
    let one : c.some_has_step.result ≡ some_caller_has c.self.inside.script.now c.self.inside.clients.items =
    subst (λ (l : List CallerOf). AreOfCode c.self.inside.script.now l → c.some_has_step.result ≡ some_caller_has c.self.inside.script.now l) c.deref.ensures.value
    (c.some_has_step.ensures c.self.inside.script.now) (clients_of_code (stored_in c.self.inside) c.self.invariant) in
    let two : c.some_has_step-2.result ≡ some_caller_has c.self.inside.script.now c.self.inside.repairers.items =
    subst (λ (l : List CallerOf). AreOfCode c.self.inside.script.now l → c.some_has_step-2.result ≡ some_caller_has c.self.inside.script.now l) c.deref-2.ensures.value
    (c.some_has_step-2.ensures c.self.inside.script.now) (repairers_of_code (stored_in c.self.inside) c.self.invariant) in
    subst
    (λ (s : StoredWorld). c.sweeper_has_step.result ≡ sweeper_has_step (core_of s.script (world_of s)) → c.some_has_step-2.result ≡ is_unfinished s.script (core_of s.script (world_of s)))
    c.self.view_is
    (λ sweeps. by_repairers (stored_in c.self.inside) c.self.invariant c.some_has_step.result c.some_has_step-2.result c.sweeper_has_step.result one c.if-some_has_step.false two sweeps c.if-sweeper_has_step.false)
    c.sweeper_has_step.ensures
