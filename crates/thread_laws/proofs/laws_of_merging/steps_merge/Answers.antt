use Rattle.thread_laws.specs.InOrder.{in_order}
use Rattle.thread_laws.proofs.Merged.{merges}
use Rattle.thread_laws.proofs.Sorting.{sorted}
use Rattle.thread_laws.proofs.laws_of_merging.steps_merge.Goals as goal

pub returns-clause-any : goal.returns-clause-any
returns-clause-any c = merges

pub returns-clause-sorted : goal.returns-clause-sorted
returns-clause-sorted c = λ script lines h twice go.
    let order = sorted script h twice lines go in
    (order, merges script lines h (in_order script h) twice go order)
