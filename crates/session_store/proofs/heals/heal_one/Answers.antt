use Rattle.session_store.proofs.HealingOne.{may_heal_one, takes_of_servers, healed_one}
use Rattle.session_store.proofs.heals.heal_one.Goals as goal

pub run_call-seat-requires-after_bounds : goal.run_call-seat-requires-after_bounds
run_call-seat-requires-after_bounds g c κs within =
    may_heal_one c.args.parts.now c.requires.may c.args.chunk.now c.requires.there c.take-seat.result c.take-seat.ensures.taken c.rebuild-machine.result c.opening-opening.result c.opening-opening.ensures (c.rebuild-machine.ensures 1)

pub add_takes-requires : goal.add_takes-requires
add_takes-requires g c =
    takes_of_servers c.args.parts.now c.requires.may c.args.chunk.now c.requires.there c.take-seat.result c.take-seat.ensures.taken c.rebuild-machine.result c.opening-opening.result c.opening-opening.ensures (c.rebuild-machine.ensures 1)
    c.run_call-seat.ensures.last c.run_call-seat.new.places c.run_call-seat.ensures.ran c.run_call-seat.result.1 c.run_call-seat.ensures.over c.run_call-seat.result.2 c.run_call-seat.ensures.taken c.args.taken.now c.requires.count

pub returns : goal.returns
returns g c =
    healed_one c.args.parts.now c.requires.may c.args.chunk.now c.requires.there c.take-seat.result c.take-seat.ensures.taken c.rebuild-machine.result c.opening-opening.result c.opening-opening.ensures (c.rebuild-machine.ensures 1)
    c.run_call-seat.ensures.last c.run_call-seat.new.places c.run_call-seat.ensures.ran c.run_call-seat.result.1 c.run_call-seat.ensures.over c.run_call-seat.result.2 c.run_call-seat.ensures.taken c.run_call-seat.result.0 c.run_call-seat.ensures.token
    c.args.taken.now c.add_takes.new.taken c.has_rebuilt.result c.put.new.place c.put.ensures c.add_takes.ensures c.has_rebuilt.ensures
