use Rattle.run_laws.proofs.StepOutcomes.{memory_was_wanting}
use Rattle.run_laws.proofs.laws_of_calls.memory_is_blamed_only_where_it_was_wanting.Goals as goal

pub returns : goal.returns
returns c = memory_was_wanting
