-- The fields of a call of any kind as callers see them, and what they keep.
use Rattle.std.specs.Prelude.{◌≡◌, []}
use Rattle.call_machine.specs.Kinds.{Asked, Machine, machine_of}
use Rattle.call_machine.specs.Calls.{MachineOf}
use Rattle.call_machine.specs.declared.call_machine.Task.{Task}
use Rattle.call_machine.specs.declared.call_machine.Task.TheVariants as task
use Rattle.call_machine.specs.declared.call_machine.MachineKind.{MachineKind}
use Rattle.call_machine.specs.declared.call_machine.MachineKind.TheVariants as kind
use Rattle.call_machine.specs.declared.call_machine.CallMachine.TheInside.{Inside}

-- what is asked
abbrev pub asked_by : Task → Asked
asked_by (task.Call call) = Asked.OfClient call.now
asked_by (task.Rebuild rebuild) = Asked.OfRepairer rebuild.now

-- by its kind
abbrev pub call_by : MachineKind → Asked → MachineOf
call_by (kind.Read read) asked = record { call = read.call; asked = asked; owed = read.owed; size = 0; kept = [] }
call_by (kind.Put put) asked = record { call = put.call; asked = asked; owed = []; size = 0; kept = [] }
call_by (kind.Patch patch) asked = record { call = patch.call; asked = asked; owed = []; size = patch.size; kept = patch.kept }
call_by (kind.Rebuild rebuild) asked = record { call = rebuild; asked = asked; owed = []; size = 0; kept = [] }

-- what callers see
abbrev pub call_in : Inside → MachineOf
call_in a = call_by a.kind (asked_by a.task)

-- a machine is of what is asked
abbrev pub IsOfKind : MachineKind → Asked → Type 0
IsOfKind (kind.Read read) asked = machine_of asked ≡ Machine.Reads
IsOfKind (kind.Put put) asked = (machine_of asked ≡ Machine.Puts) × (Asked.OfClient put.written ≡ asked)
IsOfKind (kind.Patch patch) asked = (machine_of asked ≡ Machine.Patches) × (Asked.OfClient patch.written ≡ asked)
IsOfKind (kind.Rebuild rebuild) asked = machine_of asked ≡ Machine.Rebuilds

abbrev pub IsCallMachine : Inside → Type 0
IsCallMachine a = IsOfKind a.kind (asked_by a.task)
