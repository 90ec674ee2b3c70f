-- What is asked of the store, and the machine that makes it.
use Rattle.std.specs.Prelude.{⊤}
use Rattle.store_map.specs.declared.call.Call.{Call}
use Rattle.store_map.specs.declared.call.Call.TheVariants as call
use Rattle.store_map.specs.declared.call.Rebuild.{Rebuild}
use Rattle.store_core.specs.NextAct.{Job, job_of, rebuild_job}

-- a client's call, or a repairer's rebuild
pub data Asked : Type 0 where
  OfClient : (call : Call) → Asked
  OfRepairer : (rebuild : Rebuild) → Asked

-- its job
abbrev pub asked_job : Asked → Job
asked_job (Asked.OfClient written) = job_of written
asked_job (Asked.OfRepairer rebuild) = rebuild_job rebuild

-- a call reads, or puts, or it writes or deletes, or it is a rebuild
pub data Machine : Type 0 where
  Reads : Machine
  Puts : Machine
  Patches : Machine
  Rebuilds : Machine

-- which of them makes a client's call
abbrev pub client_machine : Call → Machine
client_machine (call.Get name) = Machine.Reads
client_machine (call.ReadAt name offset count) = Machine.Reads
client_machine (call.Stat name) = Machine.Reads
client_machine (call.Put name content) = Machine.Puts
client_machine (call.Write name offset content) = Machine.Patches
client_machine (call.Delete name) = Machine.Patches

-- and which makes what is asked
abbrev pub machine_of : Asked → Machine
machine_of (Asked.OfClient written) = client_machine written
machine_of (Asked.OfRepairer rebuild) = Machine.Rebuilds

-- asked of calls that write or delete
abbrev pub IfPatches : Machine → Type 0 → Type 0
IfPatches Machine.Patches holds = holds
IfPatches machine holds = ⊤

-- of all others
abbrev pub UnlessPatches : Machine → Type 0 → Type 0
UnlessPatches Machine.Patches holds = ⊤
UnlessPatches machine holds = holds

-- of calls that read
abbrev pub IfReads : Machine → Type 0 → Type 0
IfReads Machine.Reads holds = holds
IfReads machine holds = ⊤

-- of calls that put
abbrev pub IfPuts : Machine → Type 0 → Type 0
IfPuts Machine.Puts holds = holds
IfPuts machine holds = ⊤

-- of calls that may draw versions: those that put, write or delete
abbrev pub IfDraws : Machine → Type 0 → Type 0
IfDraws Machine.Puts holds = holds
IfDraws Machine.Patches holds = holds
IfDraws machine holds = ⊤

-- of rebuilds
abbrev pub IfRebuilds : Machine → Type 0 → Type 0
IfRebuilds Machine.Rebuilds holds = holds
IfRebuilds machine holds = ⊤
