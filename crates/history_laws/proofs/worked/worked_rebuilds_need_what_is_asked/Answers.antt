use Rattle.std.proofs.Common.{refl}
use Rattle.clay_grid.specs.Layers.{digits_of}
use Rattle.store_core.specs.RowLines.{repair}
use Rattle.store_core.specs.RowsCalls.{each_refusal}
use Rattle.store_core.specs.RowsRebuilds.{superseded_rebuild}
use Rattle.store_core.specs.RowsAwayReads.{rebuild_of_an_away_server}
use Rattle.history_laws.proofs.FirstLines.{result_first}
use Rattle.history_laws.proofs.worked.worked_rebuilds_need_what_is_asked.Goals as goal

pub returns-clause-no_object : goal.returns-clause-no_object
unfolding digits_of
returns-clause-no_object c = record { known = refl; shows = refl; told = result_first each_refusal.transcript (repair 0 0) refl (λ done. done) }

pub returns-clause-superseded : goal.returns-clause-superseded
unfolding digits_of
returns-clause-superseded c = record { known = refl; shows = refl; told = result_first superseded_rebuild.transcript (repair 0 0) refl (λ done. done) }

pub returns-clause-target_away : goal.returns-clause-target_away
unfolding digits_of
returns-clause-target_away c = record { known = refl; shows = refl; told = result_first rebuild_of_an_away_server.transcript (repair 0 0) refl (λ done. done) }
