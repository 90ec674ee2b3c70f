-- The exit status of a command.
use Rattle.std.specs.Prelude.{ℕ}
use Rattle.share_run.specs.declared.share_status.ShareStatus.{ShareStatus}
use Rattle.share_run.specs.declared.share_status.ShareStatus.TheVariants.{Done, Usage, TooFew, BadShare, ReadFault, WriteFault, OutOfMemory}

abbrev pub status_number : ShareStatus → ℕ
status_number Done = 0
status_number Usage = 1
status_number TooFew = 2
status_number BadShare = 3
status_number ReadFault = 4
status_number WriteFault = 5
status_number OutOfMemory = 6
