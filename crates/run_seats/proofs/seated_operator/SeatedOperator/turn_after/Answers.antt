use Rattle.std.proofs.Common.{◌≡◌, ℕ, ◌<◌, Some, refl, sym, subst, ◌∙◌}
use Rattle.std.specs.List.{slice_get}
use Rattle.clay_grid.specs.Shape.{chunk_count}
use Rattle.run_seats.specs.Places.{directory_of, server_of}
use Rattle.run_seats.specs.Fixed.{server_in}
use Rattle.run_seats.specs.declared.gate.Place.TheVariants as place
use Rattle.run_seats.proofs.OperatingOn.{line_below, line_is, may_operate_server, may_reap, operated_on_directory, operated_on_server}
use Rattle.run_seats.proofs.Placing.{free_of, got}
use Rattle.run_seats.proofs.seated_operator.SeatedOperator.turn_after.Goals as goal

pub target_of-requires : goal.target_of-requires
target_of-requires g c = line_is c.args.store.now c.args.self.now c.requires.1.1.1 c.index-line.result.now c.index-line.ensures

pub index-requires : goal.index-requires
index-requires g c =
    let may = c.requires.1.1.1 in
    subst (λ (n : ℕ). c.in-Server.server < n) (sym (c.args.store.now.servers.ok.0 ∙ may.store_is.count))
    (line_below c.args.store.now c.args.self.now may c.index-line.result.now c.index-line.ensures c.in-Server.server c.in-Server.ensures)

pub index_mut-requires : goal.index_mut-requires
index_mut-requires g c =
    let may = c.requires.1.1.1 in
    subst (λ (n : ℕ). c.in-Server.server < n) (sym (c.args.self.now.turns.servers.ok.0 ∙ may.seated_is.turns.count))
    (line_below c.args.store.now c.args.self.now may c.index-line.result.now c.index-line.ensures c.in-Server.server c.in-Server.ensures)

pub reap-requires : goal.reap-requires
reap-requires g c κs within =
    let may = c.requires.1.1.1 in
    let store = c.args.store.now in
    let seated = c.args.self.now in (
      search,
      (
        search,
        (
          free_of store.directory (directory_of store) seated.turns.number seated.turns.number seated.turns.directory may.seated_is.turns.directory refl,
          may_reap store seated may c.index-line.result.now c.index-line.ensures c.in-Pass.actor c.in-Pass.ensures,
        ),
      ),
    )

pub operate_server-requires : goal.operate_server-requires
operate_server-requires g c κs within =
    let may = c.requires.1.1.1 in
    let store = c.args.store.now in
    let seated = c.args.self.now in
    let j = c.in-Server.server in
    let below : j < chunk_count store.script.now.geometry = line_below store seated may c.index-line.result.now c.index-line.ensures j c.in-Server.ensures in
    let lock : slice_get store.servers.items j ≡ Some c.index.result.now = got store.servers.items j c.index.result.now (subst (λ (n : ℕ). j < n) (sym may.store_is.count) below) c.index.ensures in
    let turn : slice_get seated.turns.servers.items j ≡ Some c.index_mut.result.now =
    got seated.turns.servers.items j c.index_mut.result.now (subst (λ (n : ℕ). j < n) (sym may.seated_is.turns.count) below) c.index_mut.ensures.value in
    let at = may.seated_is.turns.servers j c.index.result.now c.index_mut.result.now lock turn in (
      search,
      (
        search,
        (
          free_of c.index.result.now (server_of store j) seated.turns.number seated.turns.number c.index_mut.result.now at refl,
          may_operate_server store seated may c.index-line.result.now c.index-line.ensures j c.index_mut.result.now turn at.fixed c.in-Server.ensures,
        ),
      ),
    )

pub returns-in-Pass-clause-steps : goal.returns-in-Pass-clause-steps
returns-in-Pass-clause-steps g c =
    let may = c.requires.1.1.1 in
    operated_on_directory c.args.store.now c.args.self.now may c.index-line.result.now c.index-line.ensures g.last c.requires.1.1.0 c.in-Pass.actor c.reap.new.turn c.in-Pass.ensures c.reap.ensures.turn c.reap.ensures.step

pub returns-in-Server-clause-steps : goal.returns-in-Server-clause-steps
returns-in-Server-clause-steps g c =
    let may = c.requires.1.1.1 in
    let store = c.args.store.now in
    let seated = c.args.self.now in
    let j = c.in-Server.server in
    let below : j < chunk_count store.script.now.geometry = line_below store seated may c.index-line.result.now c.index-line.ensures j c.in-Server.ensures in
    operated_on_server store seated may c.index-line.result.now c.index-line.ensures g.last c.requires.1.1.0 j c.operate_server.new.turn c.index_mut.result.now _ refl refl
    (subst (λ (n : ℕ). j < n) (sym may.seated_is.turns.count) below) c.index_mut.ensures.value c.operate_server.ensures.turn c.operate_server.ensures.step c.in-Server.ensures.1 refl refl

pub returns-in-Pass-clause-told : goal.returns-in-Pass-clause-told
returns-in-Pass-clause-told g c = record { at = place.Directory; told = c.reap.ensures.told }

pub returns-in-Server-clause-told : goal.returns-in-Server-clause-told
returns-in-Server-clause-told g c = record { at = place.Server (server_in c.index_mut.result.now.fixed); told = c.operate_server.ensures.told }
