use Rattle.std.proofs.Common.{refl}
use Rattle.clay_grid.specs.Layers.{digits_of}
use Rattle.store_map.specs.declared.call_name.CallName.{CallName}
use Rattle.store_core.specs.Shown.{repairer_name}
use Rattle.store_core.specs.RowsRebuilds.{rebuilt_then_here}
use Rattle.history_laws.specs.Facts.{facts_of}
use Rattle.history_laws.specs.FactsLaw.{AreFactsOf}
use Rattle.history_laws.specs.Worked.{row_trace}
use Rattle.history_laws.proofs.FactsExact.{facts_exact}
use Rattle.history_laws.proofs.worked.worked_rebuilds_are_answerable.Goals as goal

exact : (call : CallName) → AreFactsOf rebuilt_then_here.script (row_trace rebuilt_then_here) call (facts_of rebuilt_then_here.script (row_trace rebuilt_then_here) call)
exact call = facts_exact rebuilt_then_here.script (row_trace rebuilt_then_here) call

pub returns-clause-lost : goal.returns-clause-lost
unfolding digits_of
returns-clause-lost c = record { over = (exact (repairer_name 0 0)).over.0 refl; free = (exact (repairer_name 0 0)).free.0 refl; place = (exact (repairer_name 0 0)).place.0 refl }

pub returns-clause-there : goal.returns-clause-there
unfolding digits_of
returns-clause-there c = record { over = (exact (repairer_name 0 1)).over.0 refl; free = (exact (repairer_name 0 1)).free.0 refl; place = (exact (repairer_name 0 1)).place.0 refl }
