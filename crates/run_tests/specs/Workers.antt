-- Workers that add to a list.
use Rattle.std.specs.Prelude.{◌≡◌, ℕ, false, length}
use Rattle.atomic_table.specs.Seated.{TableId}
use Rattle.turn_lock.specs.History.{Among, entries_of}
use Rattle.run_tests.specs.declared.worker_tests.Worker.{Worker}

-- the worker's turn is of this lock, holds nothing, and has the worker's number
pub record IsReady (lock : TableId) (worker : Worker) : Type 0 where
  pub own : worker.turn.lock ≡ lock
  pub free : worker.turn.holds ≡ false
  pub number : Among worker.number worker.turn.numbers

-- how many lines it has added
abbrev pub line_count : Worker → ℕ
line_count worker = length (entries_of worker.number worker.turn.seen)
