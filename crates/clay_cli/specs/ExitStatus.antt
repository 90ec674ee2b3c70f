-- The exit status of the program.
use Rattle.std.specs.Prelude.{ℕ}
use Rattle.clay_cli.specs.declared.status.Status.{Status}
use Rattle.clay_cli.specs.declared.status.Status.TheVariants.{Done, Usage, ScriptRefused, InputTooLong, ReadFault, WriteFault, OutOfMemory, NotLegal, DataRefused}

-- 7 has no status
abbrev pub status_number : Status → ℕ
status_number Done = 0
status_number Usage = 1
status_number ScriptRefused = 2
status_number InputTooLong = 3
status_number ReadFault = 4
status_number WriteFault = 5
status_number OutOfMemory = 6
status_number NotLegal = 8
status_number DataRefused = 9
