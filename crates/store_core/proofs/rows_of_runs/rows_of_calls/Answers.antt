use Rattle.std.proofs.Common.{refl}
use Rattle.clay_grid.specs.Layers.{digits_of}
use Rattle.store_core.proofs.rows_of_runs.rows_of_calls.Goals as goal

pub returns-clause-put_then_get : goal.returns-clause-put_then_get
unfolding digits_of
returns-clause-put_then_get c = refl

pub returns-clause-empty_object : goal.returns-clause-empty_object
unfolding digits_of
returns-clause-empty_object c = refl

pub returns-clause-each_refusal : goal.returns-clause-each_refusal
unfolding digits_of
returns-clause-each_refusal c = refl
