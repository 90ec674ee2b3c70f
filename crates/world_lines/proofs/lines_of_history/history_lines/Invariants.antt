use Rattle.std.proofs.Common.{ℕ}
use Rattle.store_core.specs.Calls.{Calls}
use Rattle.world_laws.specs.Served.{ServedAre}
use Rattle.world_lines.proofs.SoFar.{SoFar}
use Rattle.world_lines.proofs.lines_of_history.history_lines.Given as goal

abbrev pub invariant-loop-place : goal.invariant-loop-place
invariant-loop-place l =
    (max servers : ℕ) (calls : Calls) → ServedAre max calls l.directory.core.points l.fn.clients.items
    → SoFar max calls servers l.directory.core.points l.fn.clients.items l.clients.items l.place l.lines
