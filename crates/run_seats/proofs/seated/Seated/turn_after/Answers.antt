use Rattle.std.proofs.Common.{◌≡◌, ℕ, ◌<◌, Some, refl, sym, ap, subst, ◌∙◌, arith}
use Rattle.std.specs.List.{slice_get}
use Rattle.clay_grid.specs.Shape.{chunk_count}
use Rattle.run_seats.specs.Before.{IsBeforeServer, IsBeforeDirectory}
use Rattle.run_seats.specs.Fixed.{max_in, server_in}
use Rattle.run_seats.specs.Places.{directory_of, server_of}
use Rattle.run_seats.specs.Stepped.{HasSteppedAtServer, HasSteppedAtDirectory}
use Rattle.run_seats.specs.declared.gate.Place.TheVariants as place
use Rattle.run_seats.specs.declared.stepper.Stepper.{Stepper}
use Rattle.run_seats.proofs.Going.{below_all, count_fits, directory_stepped, server_stepped}
use Rattle.run_seats.proofs.Placing.{free_of, got}
use Rattle.run_seats.proofs.Seating.{before_directory, before_server, may_go_on}
use Rattle.run_seats.proofs.seated.Seated.turn_after.Goals as goal

pub ready-requires-clause-may : goal.ready-requires-clause-may
ready-requires-clause-may g c κs within = may_go_on c.args.store.now c.args.self.now c.requires.1.1.1.1.1

pub overflow_add-self : goal.overflow_add-self
overflow_add-self g c = let few = count_fits c.args.store.now c.args.self.now c.requires.1.1.1.1.1 in omega (arith, few)

pub step_at_directory-requires : goal.step_at_directory-requires
step_at_directory-requires g c κs within =
    let may = c.requires.1.1.1.1.1 in
    let number : c.stepper-stepper.result.number ≡ c.args.self.now.turns.number = ap (λ (s : _). s.number) c.stepper-stepper.ensures in (
      search,
      (
        search,
        (
          free_of c.args.store.now.directory (directory_of c.args.store.now) c.args.self.now.turns.number c.stepper-stepper.result.number c.args.self.now.turns.directory may.seated_is.turns.directory number,
          (
            subst (λ (n : ℕ). IsBeforeDirectory c.args.self.now.turns.directory.fixed n c.args.self.now.turns.directory.seen c.ready.new.self) (sym number)
                (before_directory c.args.store.now c.args.self.now may c.ready.new.self c.ready.ensures.ready.ready c.need.ensures.its c.in-Directory.ensures.need c.need.ensures.may c.need.ensures.pass c.ready.ensures.knows),
            sym may.seated_is.book ∙ sym (ap (λ (x : _). x.book) c.ready.ensures.ready.ready.leaves),
          ),
        ),
      ),
    )

pub step_at_server-requires : goal.step_at_server-requires
step_at_server-requires g c κs within =
    let may = c.requires.1.1.1.1.1 in
    let store = c.args.store.now in
    let seated = c.args.self.now in
    let j = c.in-Server.server in
    let number : c.stepper-stepper.result.number ≡ seated.turns.number = ap (λ (s : _). s.number) c.stepper-stepper.ensures in
    let below : j < chunk_count store.script.now.geometry = below_all store seated may c.ready.new.self c.ready.ensures.ready.ready j c.in-Server.ensures.below in
    let lock : slice_get store.servers.items j ≡ Some c.index.result.now = got store.servers.items j c.index.result.now (subst (λ (n : ℕ). j < n) (sym may.store_is.count) below) c.index.ensures in
    let turn : slice_get seated.turns.servers.items j ≡ Some c.index_mut.result.now =
    got seated.turns.servers.items j c.index_mut.result.now (subst (λ (n : ℕ). j < n) (sym may.seated_is.turns.count) below) c.index_mut.ensures.value in
    let at = may.seated_is.turns.servers j c.index.result.now c.index_mut.result.now lock turn in (
      search,
      (
        search,
        (
          free_of c.index.result.now (server_of store j) seated.turns.number c.stepper-stepper.result.number c.index_mut.result.now at number,
          subst (λ (n : ℕ). IsBeforeServer c.index_mut.result.now.fixed n c.ready.new.self) (sym number)
              (before_server store seated may c.ready.new.self c.ready.ensures.ready.ready c.need.ensures.its j c.index_mut.result.now at.fixed c.in-Server.ensures.need),
        ),
      ),
    )

pub returns-in-Directory-clause-steps : goal.returns-in-Directory-clause-steps
returns-in-Directory-clause-steps g c =
    let may = c.requires.1.1.1.1.1 in
    let seated = c.args.self.now in
    let after = c.step_at_directory.new.caller in
    let turn = c.step_at_directory.new.turn in
    let number : c.stepper-stepper.result.number ≡ seated.turns.number = ap (λ (s : _). s.number) c.stepper-stepper.ensures in
    directory_stepped c.args.store.now seated may c.ready.new.self after c.ready.ensures.ready.ready g.last c.requires.1.1.1.1.0 turn c.step_at_directory.ensures.turn
    (subst (λ (n : ℕ). HasSteppedAtDirectory n g.last (max_in seated.turns.directory.fixed) seated.turns.directory.seen turn.seen c.ready.new.self after) number c.step_at_directory.ensures.step) c.in-Directory.ensures.need c.need.ensures.its

pub returns-in-Server-clause-steps : goal.returns-in-Server-clause-steps
returns-in-Server-clause-steps g c =
    let may = c.requires.1.1.1.1.1 in
    let store = c.args.store.now in
    let seated = c.args.self.now in
    let j = c.in-Server.server in
    let after = c.step_at_server.new.caller in
    let before = c.index_mut.result.now in
    let turn = c.step_at_server.new.turn in
    let number : c.stepper-stepper.result.number ≡ seated.turns.number = ap (λ (s : _). s.number) c.stepper-stepper.ensures in
    let below : j < chunk_count store.script.now.geometry = below_all store seated may c.ready.new.self c.ready.ensures.ready.ready j c.in-Server.ensures.below in
    server_stepped store seated may c.ready.new.self after c.ready.ensures.ready.ready g.last c.requires.1.1.1.1.0 j turn before _ refl refl refl
    (subst (λ (n : ℕ). j < n) (sym may.seated_is.turns.count) below) c.index_mut.ensures.value c.step_at_server.ensures.turn
    (subst (λ (n : ℕ). HasSteppedAtServer n g.last before.seen turn.seen c.ready.new.self after) number c.step_at_server.ensures.step) c.in-Server.ensures.need c.ready.ensures.knows

pub returns-in-Directory-clause-told : goal.returns-in-Directory-clause-told
returns-in-Directory-clause-told g c =
    let P : Stepper → Type 0 = λ s. g.G.Gate.was_told c.args.gate.now s.actor s.steps place.Directory in
    record { at = place.Directory; told = subst P c.stepper-stepper.ensures c.step_at_directory.ensures.told }

pub returns-in-Server-clause-told : goal.returns-in-Server-clause-told
returns-in-Server-clause-told g c =
    let at = place.Server (server_in c.index_mut.result.now.fixed) in
    let P : Stepper → Type 0 = λ s. g.G.Gate.was_told c.args.gate.now s.actor s.steps at in
    record { at = at; told = subst P c.stepper-stepper.ensures c.step_at_server.ensures.told }
