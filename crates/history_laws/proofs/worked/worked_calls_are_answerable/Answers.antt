use Rattle.std.proofs.Common.{refl}
use Rattle.clay_grid.specs.Layers.{digits_of}
use Rattle.store_map.specs.declared.call_name.CallName.{CallName}
use Rattle.store_core.specs.Rows.{Row}
use Rattle.store_core.specs.Shown.{client_name}
use Rattle.store_core.specs.RowsCalls.{put_then_get}
use Rattle.store_core.specs.RowsManyLosses.{read_after_two_losses}
use Rattle.history_laws.specs.Facts.{facts_of}
use Rattle.history_laws.specs.FactsLaw.{AreFactsOf}
use Rattle.history_laws.specs.Worked.{row_trace}
use Rattle.history_laws.proofs.FactsExact.{facts_exact}
use Rattle.history_laws.proofs.worked.worked_calls_are_answerable.Goals as goal

exact : (row : Row) (call : CallName) → AreFactsOf row.script (row_trace row) call (facts_of row.script (row_trace row) call)
exact row call = facts_exact row.script (row_trace row) call

pub returns-clause-put : goal.returns-clause-put
unfolding digits_of
returns-clause-put c = record { over = (exact put_then_get (client_name 0 0)).over.0 refl; free = (exact put_then_get (client_name 0 0)).free.0 refl; writes = (exact put_then_get (client_name 0 0)).writes.0 refl }

pub returns-clause-get : goal.returns-clause-get
unfolding digits_of
returns-clause-get c = record { over = (exact put_then_get (client_name 0 1)).over.0 refl; free = (exact put_then_get (client_name 0 1)).free.0 refl; writes = (exact put_then_get (client_name 0 1)).writes.0 refl }

pub returns-clause-lossy : goal.returns-clause-lossy
unfolding digits_of
returns-clause-lossy c = record { over = (exact read_after_two_losses (client_name 0 1)).over.0 refl; free = (exact read_after_two_losses (client_name 0 1)).free.0 refl; writes = (exact read_after_two_losses (client_name 0 1)).writes.0 refl }
