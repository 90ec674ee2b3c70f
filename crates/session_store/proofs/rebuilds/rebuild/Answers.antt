use Rattle.std.proofs.Common.{◌+◌, sym, subst}
use Rattle.session_rules.specs.declared.request.Request.{Request}
use Rattle.session_store.specs.Inside.{store_of}
use Rattle.session_store.specs.Kept.{ServesRequest}
use Rattle.session_store.proofs.Rebuilding.{may_rebuild, ends_so, ends_well, rebuild_is_served}
use Rattle.session_store.proofs.rebuilds.rebuild.Goals as goal

pub run_call-seat-requires-after_bounds : goal.run_call-seat-requires-after_bounds
run_call-seat-requires-after_bounds g c κs within =
    may_rebuild c.args.parts.now c.requires.may.0 c.args.rebuild.now c.requires.there c.take-seat.result c.take-seat.ensures.taken c.rebuild-machine.result c.opening-opening.result c.opening-opening.ensures (c.rebuild-machine.ensures 1)

pub repair_outcome-requires : goal.repair_outcome-requires
repair_outcome-requires g c =
    ends_so c.args.parts.now c.requires.may.0 c.args.rebuild.now c.requires.there c.take-seat.result c.take-seat.ensures.taken c.rebuild-machine.result c.opening-opening.result c.opening-opening.ensures (c.rebuild-machine.ensures 1)
    c.run_call-seat.ensures.last c.run_call-seat.new.places c.run_call-seat.ensures.ran c.run_call-seat.result.1 c.run_call-seat.ensures.kind

pub of_rebuild-requires : goal.of_rebuild-requires
of_rebuild-requires g c =
    ends_well c.args.parts.now c.requires.may.0 c.args.rebuild.now c.requires.there c.take-seat.result c.take-seat.ensures.taken c.rebuild-machine.result c.opening-opening.result c.opening-opening.ensures (c.rebuild-machine.ensures 1)
    c.run_call-seat.ensures.last c.run_call-seat.new.places c.sweep_all.new.places c.run_call-seat.ensures.ran c.run_call-seat.result.1 c.run_call-seat.ensures.over c.repair_outcome.result c.repair_outcome.ensures c.sweep_all.ensures

pub returns : goal.returns
returns g c =
    subst
    (λ place. ServesRequest (Request.Rebuild c.args.rebuild.now.name c.args.rebuild.now.stripe c.args.rebuild.now.server) (store_of c.args.parts.now) c.of_rebuild.result
    (store_of (record (c.args.parts.now) { places = c.sweep_all.new.places; served = c.args.parts.now.served + 1; repairer = place })))
    (sym c.put.ensures)
    (rebuild_is_served c.args.parts.now c.requires.may.0 c.args.rebuild.now c.requires.there c.take-seat.result c.take-seat.ensures.taken c.rebuild-machine.result c.opening-opening.result c.opening-opening.ensures (c.rebuild-machine.ensures 1)
    c.run_call-seat.ensures.last c.run_call-seat.new.places c.sweep_all.new.places c.run_call-seat.ensures.ran c.run_call-seat.result.1 c.run_call-seat.ensures.over c.repair_outcome.result c.repair_outcome.ensures c.sweep_all.ensures
    c.run_call-seat.result.0 c.run_call-seat.ensures.token c.of_rebuild.result c.of_rebuild.ensures)
