use Rattle.std.proofs.Common.{◌+◌, sym, subst}
use Rattle.session_rules.specs.declared.request.Request.{Request}
use Rattle.session_store.specs.Inside.{store_of}
use Rattle.session_store.specs.Kept.{ServesRequest}
use Rattle.session_store.proofs.Calling.{may_run, ends_so, ends_well, call_is_served}
use Rattle.session_store.proofs.served_calls.serve_call.Goals as goal

pub run_call-seat-requires-after_bounds : goal.run_call-seat-requires-after_bounds
run_call-seat-requires-after_bounds g c κs within =
    may_run c.args.parts.now c.requires.0 c.args.call.now c.take-seat.result c.take-seat.ensures.taken c.client-machine.result c.opening-opening.result c.opening-opening.ensures c.client-machine.ensures c.reach-reach.ensures.few

pub client_outcome-requires : goal.client_outcome-requires
client_outcome-requires g c =
    ends_so c.args.parts.now c.requires.0 c.args.call.now c.take-seat.result c.take-seat.ensures.taken c.client-machine.result c.opening-opening.result c.opening-opening.ensures c.client-machine.ensures c.reach-reach.ensures.few
    c.run_call-seat.ensures.last c.run_call-seat.new.places c.run_call-seat.ensures.ran c.run_call-seat.result.1 c.run_call-seat.ensures.kind

pub of_call-requires : goal.of_call-requires
of_call-requires g c =
    ends_well c.args.parts.now c.requires.0 c.args.call.now c.take-seat.result c.take-seat.ensures.taken c.client-machine.result c.opening-opening.result c.opening-opening.ensures c.client-machine.ensures c.reach-reach.ensures.few
    c.run_call-seat.ensures.last c.run_call-seat.new.places c.sweep_all.new.places c.run_call-seat.ensures.ran c.run_call-seat.result.1 c.run_call-seat.ensures.over c.client_outcome.result c.client_outcome.ensures c.sweep_all.ensures

pub returns : goal.returns
returns g c =
    subst (λ place. ServesRequest (Request.OfMap c.args.call.now) (store_of c.args.parts.now) c.of_call.result (store_of (record (c.args.parts.now) { places = c.sweep_all.new.places; served = c.args.parts.now.served + 1; client = place }))) (sym c.put.ensures)
    (call_is_served c.args.parts.now c.requires.0 c.args.call.now c.take-seat.result c.take-seat.ensures.taken c.client-machine.result c.opening-opening.result c.opening-opening.ensures c.client-machine.ensures c.reach-reach.ensures.few
    c.run_call-seat.ensures.last c.run_call-seat.new.places c.sweep_all.new.places c.run_call-seat.ensures.ran c.run_call-seat.result.1 c.run_call-seat.ensures.over c.client_outcome.result c.client_outcome.ensures c.sweep_all.ensures
    c.run_call-seat.result.0 c.run_call-seat.ensures.token c.run_call-seat.ensures.served c.of_call.result c.of_call.ensures)
