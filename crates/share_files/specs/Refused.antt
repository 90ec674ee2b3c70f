-- Why a file's header is refused.
use Rattle.std.specs.Prelude.{ℕ, ◌<◌, ◌≤◌, List, length, take}
use Rattle.share_format.specs.Faults.{IsFirstFault}
use Rattle.share_files.specs.declared.share_reading.HeaderRefusal.{HeaderRefusal}
use Rattle.share_files.specs.declared.share_reading.HeaderRefusal.TheVariants.{ReadFault, Short, Bad}

-- a read that failed says nothing of the file; else it is shorter than a header, or it is at least as long, and its first
-- 64 bytes are none
abbrev pub IsRefusal : List ℕ → HeaderRefusal → Type 0
IsRefusal file ReadFault = Unit {0}
IsRefusal file Short = length file < 64
IsRefusal file (Bad fault) = (64 ≤ length file) × IsFirstFault (take 64 file) fault
