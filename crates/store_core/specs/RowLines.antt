-- The lines of a transcript, in short.
use Rattle.std.specs.Prelude.{ℕ, List}
use Rattle.store_map.specs.declared.placement.Found.TheVariants as found
use Rattle.store_map.specs.declared.placement.Placement.{Placement}
use Rattle.store_map.specs.declared.placement.Placement.TheVariants as placement
use Rattle.store_map.specs.declared.reply.Reply.{Reply}
use Rattle.store_map.specs.declared.call_name.ClientCall.{ClientCall}
use Rattle.store_map.specs.declared.call_name.RepairCall.{RepairCall}
use Rattle.store_map.specs.declared.call_name.CallName.{CallName}
use Rattle.store_map.specs.declared.shown.Shown.TheVariants as shown
use Rattle.store_map.specs.declared.cause.Triple.{Triple}
use Rattle.store_map.specs.declared.cause.Cause.{Cause}
use Rattle.store_map.specs.declared.cause.RepairResult.{RepairResult}
use Rattle.store_map.specs.declared.line.HLine.{HLine}
use Rattle.store_map.specs.declared.line.XLine.{XLine}
use Rattle.store_map.specs.declared.line.RLine.{RLine}
use Rattle.store_map.specs.declared.line.OLine.{OLine}
use Rattle.store_map.specs.declared.line.LLine.{LLine}
use Rattle.store_map.specs.declared.line.GLine.{GLine}
use Rattle.store_map.specs.declared.line.TLine.{TLine}

-- a client's call, and a repairer's
abbrev pub client : ℕ → ℕ → ClientCall
client i number = record { client = i; number = number }

abbrev pub repair : ℕ → ℕ → RepairCall
repair i number = record { repairer = i; number = number }

-- a call that was answered
abbrev pub replied : ℕ → ClientCall → Reply → HLine
replied point call reply = record { point = point; call = call; reply = shown.Reply reply }

-- a call that has taken effect and has no reply
abbrev pub unfinished : ℕ → ClientCall → HLine
unfinished point call = record { point = point; call = call; reply = shown.Unfinished }

-- a call that was refused
abbrev pub refused : ClientCall → Cause → XLine
refused call cause = record { call = call; cause = cause }

-- a rebuild and its result
abbrev pub repaired : RepairCall → RepairResult → RLine
repaired call result = record { call = call; result = result }

-- a call without a reply
abbrev pub unanswered : CallName → OLine
unanswered call = record { call = call }

-- an object at the end
abbrev pub listed : List ℕ → ℕ → LLine
listed name length = record { name = name; length = length }

-- what a call took from each server
abbrev pub took : CallName → List ℕ → GLine
took call takes = record { call = call; takes = takes }

-- a server at the end
abbrev pub server : ℕ → ℕ → ℕ → ℕ → TLine
server number taken held epoch = record { server = number; taken = taken; held = held; epoch = epoch }

-- a server that lacked its chunk, which was placed
abbrev pub triple : ℕ → ℕ → ℕ → Triple
triple server placed epoch = record { server = server; placed = placement.At placed; found = found.Absent epoch }

-- a server that is away, and how it took its chunk
abbrev pub away : ℕ → Placement → ℕ → Triple
away server placed downs = record { server = server; placed = placed; found = found.Away downs }
