use Rattle.store_run.specs.Dealt.{turns_of}
use Rattle.store_run.proofs.Crews.{crew_begins}
use Rattle.store_run.proofs.seating.new_workers.Goals as goal

pub returns-clause-none : goal.returns-clause-none
returns-clause-none c store = crew_begins store (turns_of store.script.now) c.loop-made.workers.items c.loop-made.invariant.none
