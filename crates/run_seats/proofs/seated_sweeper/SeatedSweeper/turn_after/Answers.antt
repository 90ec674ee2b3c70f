use Rattle.std.proofs.Common.{◌≡◌, ℕ, ◌<◌, Some, refl, sym, subst}
use Rattle.std.specs.List.{slice_get}
use Rattle.clay_grid.specs.Shape.{chunk_count}
use Rattle.run_seats.specs.Places.{directory_of, server_of}
use Rattle.run_seats.specs.Fixed.{server_in}
use Rattle.run_seats.specs.declared.gate.Place.TheVariants as place
use Rattle.run_seats.proofs.Placing.{free_of, got}
use Rattle.run_seats.proofs.SweepingOn.{may_sweep_directory, may_sweep_server, swept_on_directory, swept_on_server}
use Rattle.run_seats.proofs.seated_sweeper.SeatedSweeper.turn_after.Goals as goal

pub sweep_directory-requires : goal.sweep_directory-requires
sweep_directory-requires g c κs within =
    let may = c.requires.1.1.1 in
    let store = c.args.store.now in
    let seated = c.args.self.now in (
      search,
      (
        search,
        (
          free_of store.directory (directory_of store) seated.turns.number seated.turns.number seated.turns.directory may.seated_is.turns.directory refl,
          may_sweep_directory store seated may.seated_is g.last c.requires.1.1.0 (sym c.in-Directory.ensures.need),
        ),
      ),
    )

pub sweep_server-requires : goal.sweep_server-requires
sweep_server-requires g c κs within =
    let may = c.requires.1.1.1 in
    let store = c.args.store.now in
    let seated = c.args.self.now in
    let j = c.in-Server.server in
    let below : j < chunk_count store.script.now.geometry = subst (λ (n : ℕ). j < n) may.seated_is.servers c.in-Server.ensures.below in
    let lock : slice_get store.servers.items j ≡ Some c.index.result.now = got store.servers.items j c.index.result.now (subst (λ (n : ℕ). j < n) (sym may.store_is.count) below) c.index.ensures in
    let turn : slice_get seated.turns.servers.items j ≡ Some c.index_mut.result.now =
    got seated.turns.servers.items j c.index_mut.result.now (subst (λ (n : ℕ). j < n) (sym may.seated_is.turns.count) below) c.index_mut.ensures.value in
    let at = may.seated_is.turns.servers j c.index.result.now c.index_mut.result.now lock turn in (
      search,
      (
        search,
        (
          free_of c.index.result.now (server_of store j) seated.turns.number seated.turns.number c.index_mut.result.now at refl,
          may_sweep_server store seated may.seated_is g.last c.requires.1.1.0 j c.index_mut.result.now at.fixed (sym c.in-Server.ensures.need),
        ),
      ),
    )

pub returns-in-Directory-clause-steps : goal.returns-in-Directory-clause-steps
returns-in-Directory-clause-steps g c =
    let may = c.requires.1.1.1 in
    swept_on_directory c.args.store.now c.args.self.now may.seated_is g.last c.requires.1.1.0 c.sweep_directory.new.turn c.sweep_directory.new.sweeper _ c.saturating_add-steps.ensures c.sweep_directory.ensures.turn c.sweep_directory.ensures.step

pub returns-in-Server-clause-steps : goal.returns-in-Server-clause-steps
returns-in-Server-clause-steps g c =
    let may = c.requires.1.1.1 in
    let seated = c.args.self.now in
    let j = c.in-Server.server in
    let below : j < chunk_count c.args.store.now.script.now.geometry = subst (λ (n : ℕ). j < n) may.seated_is.servers c.in-Server.ensures.below in
    swept_on_server c.args.store.now seated may.seated_is g.last c.requires.1.1.0 j c.sweep_server.new.turn c.index_mut.result.now _ refl refl
    (subst (λ (n : ℕ). j < n) (sym may.seated_is.turns.count) below) c.index_mut.ensures.value c.sweep_server.ensures.turn c.sweep_server.ensures.step (sym c.in-Server.ensures.need)
    c.saturating_add-steps.ensures

pub returns-in-Directory-clause-told : goal.returns-in-Directory-clause-told
returns-in-Directory-clause-told g c = record { at = place.Directory; told = c.sweep_directory.ensures.told }

pub returns-in-Server-clause-told : goal.returns-in-Server-clause-told
returns-in-Server-clause-told g c = record { at = place.Server (server_in c.index_mut.result.now.fixed); told = c.sweep_server.ensures.told }
