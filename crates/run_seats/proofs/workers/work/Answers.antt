use Rattle.std.proofs.Common.{◌≡◌, true, false, List, subst}
use Rattle.run_seats.specs.SeatedActors.{AreOfCode, some_has}
use Rattle.run_seats.specs.declared.seated_actor.SeatedActor.{SeatedActor}
use Rattle.run_seats.proofs.Acting.{are_of_code}
use Rattle.run_seats.proofs.workers.work.Goals as goal

pub returns-then-may_end : goal.returns-then-may_end
returns-then-may_end g c =
    let store = c.args.store.now in
    let script = store.script.now in
    let actors = c.loop.worker.actors.items in
    let code : AreOfCode script actors = are_of_code store actors c.requires.store_is c.loop.invariant.0 in
    let over : c.may_end.result ≡ true → some_has script actors ≡ false =
    subst (λ (xs : List SeatedActor). AreOfCode script xs → c.may_end.result ≡ true → some_has script xs ≡ false) c.deref.ensures.value (c.may_end.ensures script) code in
    record {
      seated = c.loop.invariant.0;
      same = c.loop.invariant.1;
      over = over c.if-may_end.true;
    }
