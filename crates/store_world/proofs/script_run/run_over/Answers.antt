use Rattle.std.proofs.Common.{◌≡◌, subst, ◌∙◌}
use Rattle.store_map.specs.declared.script.Script.{Script}
use Rattle.store_core.specs.Shown.{shown}
use Rattle.world_laws.specs.Known.{core_of}
use Rattle.store_world.specs.Stored.{StoredWorld, world_of}
use Rattle.store_world.specs.Watched.{Watched, ComesBy}
use Rattle.store_world.proofs.Playing.{run_is_traced}
use Rattle.store_world.proofs.Results.{on_ok}
use Rattle.store_world.proofs.script_run.run_over.Goals as goal

pub returns : goal.returns
returns g c =
    let script : Script = c.args.script.now in
    let end : StoredWorld = c.follow-followed.new.world in
    let same : end.script ≡ script = c.follow-followed.ensures.same ∙ c.in_ok-world.ensures.script in
    let told : Watched (g.W.Watch.heard c.args.watch.now c.follow-followed.new.watch) (ComesBy script script.schedule (world_of end)) = c.in-Ok.ensures.told in
    on_ok c.finish-transcript.result
    (λ transcript shows. (
      told.steps,
      told.heard,
      run_is_traced script (world_of end) told.steps told.made transcript c.in_ok-world.ensures.geometry c.requires.valid told.tells told.are
          (subst (λ (s : Script). transcript ≡ shown s (core_of s (world_of end))) same shows),
    ))
    c.finish-transcript.ensures
