use Rattle.std.proofs.Common.{refl}
use Rattle.clay_grid.specs.Layers.{digits_of}
use Rattle.store_core.proofs.rows_of_runs.rows_of_losses_at_every_place_of_a_write_and_a_rebuild.Goals as goal

pub returns-clause-write : goal.returns-clause-write
unfolding digits_of
returns-clause-write c = record { old_bytes = refl; between = refl; new_bytes = refl }

pub returns-clause-rebuild : goal.returns-clause-rebuild
unfolding digits_of
returns-clause-rebuild c = record { whole = refl; repair = refl }
