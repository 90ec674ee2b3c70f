-- A call that reads stands after its look at its gatherings or at its end.
use Rattle.std.proofs.Common.{ℕ, List, [], ◌∷◌}
use Rattle.std.specs.Prelude.{⊤}
use Rattle.clay_grid.specs.Shape.{Shape}
use Rattle.store_map.specs.declared.call.Call.{Call}
use Rattle.store_map.specs.declared.call.Call.TheVariants as call
use Rattle.store_core.specs.Act.{Outcome}
use Rattle.store_core.specs.Gathering.{Part}
use Rattle.store_core.specs.NextAct.{Job}
use Rattle.store_core.specs.Note.{Note, Kind, note_of}
use Rattle.store_core.specs.Read.{parts_of}
use Rattle.store_core.specs.Told.{Told}
use Rattle.run_laws.specs.Stage.{Aim, Stage, seen_of}
use Rattle.run_laws.specs.Stages.{first_stage}
use Rattle.run_laws.specs.StageAfter.{stage_after}
use Rattle.run_laws.specs.State.{Sequel, State}
use Rattle.run_laws.specs.States.{sequel_state, parts_state, stage_state, open_parts, open_state}
use Rattle.run_laws.specs.GatherAfter.{ending_after, first_after, parts_after}
use Rattle.run_laws.specs.LookAfter.{start_after}
use Rattle.run_laws.specs.CallLaws.{next_call_from}
use Rattle.call_machine.specs.Kinds.{Asked, asked_job, machine_of, IfReads, client_machine}
use Rattle.store_world.specs.Looked.{IsServing, HasLooked}

-- ---- a call that reads
sequel : (after : Sequel) → IsServing after → HasLooked (sequel_state after)
sequel (Sequel.Serve point) h = tt
sequel Sequel.Draw h = absurd h
sequel (Sequel.Confirm seen target) h = absurd h

stage_looked : (bytes : State) (aim : Aim) (parts : List Part) (after : Sequel) (s : Stage) → HasLooked bytes → IsServing after → HasLooked (stage_state bytes aim parts after s)
stage_looked bytes aim parts after (Stage.Asks asking) b h = h
stage_looked bytes aim parts after Stage.HasBytes b h = b
stage_looked bytes aim parts after (Stage.TooMany missing) b h = tt
stage_looked bytes aim parts after Stage.AtTarget b h = tt
stage_looked bytes aim parts after (Stage.TargetAway downs) b h = tt
stage_looked bytes aim parts after Stage.Short b h = tt

opened : (g : Shape) (parts : List Part) (after : Sequel) → IsServing after → HasLooked (open_parts g parts after)
opened g [] after h = sequel after h
opened g (part ∷ parts) after h = stage_looked (open_parts g parts after) (Aim.Range part) parts after (first_stage g (Aim.Range part)) (opened g parts after h) h

parts_looked : (parts : List Part) (after : Sequel) → IsServing after → HasLooked (parts_state parts after)
parts_looked [] after h = sequel after h
parts_looked (part ∷ parts) after h = h

open_looked : (g : Shape) (at : State) → HasLooked at → HasLooked (open_state g at)
open_looked g (State.Parts part parts after) h = opened g (part ∷ parts) after h
open_looked g (State.Chunk seen target) h = absurd h
open_looked g at h = h

ending_looked : (outcome : Outcome) (answer : Told) → HasLooked (ending_after outcome answer)
ending_looked outcome Told.Ended = tt
ending_looked outcome (Told.Reaped point) = tt
ending_looked outcome answer = tt

first_looked : (g : Shape) (bytes : State) (aim : Aim) (parts : List Part) (after : Sequel) (s : Stage) (answer : Told) → HasLooked bytes → IsServing after
    → HasLooked (first_after g bytes aim parts after s answer)
first_looked g bytes aim parts after (Stage.Asks asking) answer b h = stage_looked (parts_state parts after) aim parts after (stage_after g aim asking answer) (parts_looked parts after h) h
first_looked g bytes aim parts after Stage.HasBytes answer b h = b
first_looked g bytes aim parts after (Stage.TooMany missing) answer b h = ending_looked (Outcome.Unavailable (seen_of aim).stripe missing) answer
first_looked g bytes aim parts after Stage.AtTarget answer b h = ending_looked Outcome.Here answer
first_looked g bytes aim parts after (Stage.TargetAway downs) answer b h = ending_looked (Outcome.Away downs) answer
first_looked g bytes aim parts after Stage.Short answer b h = ending_looked Outcome.NoMemory answer

told_looked : (g : Shape) (note : Note) (parts : List Part) (after : Sequel) (answer : Told) → IsServing after → HasLooked (parts_after g note parts after answer)
told_looked g note [] (Sequel.Serve point) answer h = ending_looked (Outcome.Served point) answer
told_looked g note [] Sequel.Draw answer h = absurd h
told_looked g note [] (Sequel.Confirm seen target) answer h = absurd h
told_looked g note (part ∷ parts) after Told.Gathered h = parts_looked parts after h
told_looked g note (part ∷ parts) after answer h =
    first_looked g (parts_after g note parts after answer) (Aim.Range part) parts after (first_stage g (Aim.Range part)) answer (told_looked g note parts after answer h) h

-- after any answer it stands at one of them again
pub next_looked : (g : Shape) (kind : Kind) (job : Job) (pairs : List (ℕ × ℕ)) (at : State) (answer : Told) → HasLooked at → HasLooked (next_call_from g kind job pairs at answer).at
next_looked g kind job pairs (State.Parts part parts after) answer h = open_looked g (parts_after g job.note (part ∷ parts) after answer) (told_looked g job.note (part ∷ parts) after answer h)
next_looked g kind job pairs (State.Gather aim asking parts after) answer h =
    open_looked g (stage_state (parts_state parts after) aim parts after (stage_after g aim asking answer))
    (stage_looked (parts_state parts after) aim parts after (stage_after g aim asking answer) (parts_looked parts after h) h)
next_looked g kind job pairs (State.Ending outcome) answer h = open_looked g (ending_after outcome answer) (ending_looked outcome answer)
next_looked g kind job pairs (State.Finished outcome) answer h = tt
next_looked g kind job pairs State.Start answer h = absurd h
next_looked g kind job pairs (State.Chunk seen target) answer h = absurd h
next_looked g kind job pairs State.Drawing answer h = absurd h
next_looked g kind job pairs (State.Preparing stripe version server servers row later placed versions) answer h = absurd h
next_looked g kind job pairs (State.Committing versions placed) answer h = absurd h
next_looked g kind job pairs (State.Committed versions) answer h = absurd h
next_looked g kind job pairs (State.Settling point place places) answer h = absurd h
next_looked g kind job pairs (State.Confirming seen target) answer h = absurd h
next_looked g kind job pairs (State.Installing seen target) answer h = absurd h
next_looked g kind job pairs (State.Placing target epoch) answer h = absurd h

-- ---- its look
read_looked : (g : Shape) (job : Job) (answer : Told) → HasLooked (start_after g Kind.ReadAt job answer)
read_looked g job (Told.Answer point reply) = tt
read_looked g job (Told.Pinned point length stripes) = parts_looked (parts_of g job.note length stripes) (Sequel.Serve point) tt
read_looked g job answer = tt

single_looked : (g : Shape) (job : Job) (answer : Told) → HasLooked (start_after g Kind.Stat job answer)
single_looked g job (Told.Answer point reply) = tt
single_looked g job answer = tt

-- of a call that reads
abbrev pub IsRead : Kind → Type 0
IsRead Kind.Get = ⊤
IsRead Kind.ReadAt = ⊤
IsRead Kind.Stat = ⊤
IsRead kind = ⊥

pub start_looked : (g : Shape) (kind : Kind) (job : Job) (pairs : List (ℕ × ℕ)) (answer : Told) → IsRead kind → HasLooked (next_call_from g kind job pairs State.Start answer).at
start_looked g Kind.Get job pairs answer h = open_looked g (start_after g Kind.Get job answer) (read_looked g job answer)
start_looked g Kind.ReadAt job pairs answer h = open_looked g (start_after g Kind.ReadAt job answer) (read_looked g job answer)
start_looked g Kind.Stat job pairs answer h = open_looked g (start_after g Kind.Stat job answer) (single_looked g job answer)
start_looked g Kind.Put job pairs answer h = absurd h
start_looked g Kind.Write job pairs answer h = absurd h
start_looked g Kind.Delete job pairs answer h = absurd h
start_looked g Kind.Rebuild job pairs answer h = absurd h

client_kinds : (c : Call) → IfReads (client_machine c) (IsRead (note_of c).kind)
client_kinds (call.Get name) = tt
client_kinds (call.ReadAt name offset count) = tt
client_kinds (call.Stat name) = tt
client_kinds (call.Put name content) = tt
client_kinds (call.Write name offset content) = tt
client_kinds (call.Delete name) = tt

pub kinds_read : (asked : Asked) → IfReads (machine_of asked) (IsRead (asked_job asked).note.kind)
kinds_read (Asked.OfClient c) = client_kinds c
kinds_read (Asked.OfRepairer rebuild) = tt
