-- What an actor does next: a step at the directory, a step at a server, or the end of its call.
use Rattle.std.specs.Prelude.{ℕ, Bool, true, false, List}
use Rattle.store_map.specs.declared.placement.Placement.{Placement}
use Rattle.store_map.specs.declared.reply.Reply.{Reply}
use Rattle.store_map.specs.declared.actor.Actor.{Actor}
use Rattle.store_core.specs.Told.{Lost}
use Rattle.store_core.specs.Note.{Note}

-- how a call ends
pub data Outcome : Type 0 where
  -- a reply of the map at a point; Served stands for the bytes that the map has at that point
  Answered : (point : ℕ) (reply : Reply) → Outcome
  Served : (point : ℕ) → Outcome
  -- of a rebuild
  Rebuilt : Outcome
  Here : Outcome
  Away : (downs : ℕ) → Outcome
  NoSuch : Outcome
  Superseded : (newer : ℕ) → Outcome
  -- without a reply
  Unavailable : (stripe : ℕ) (missing : List Lost) → Outcome
  Contended : (pairs : List (ℕ × ℕ)) → Outcome
  Reaped : (point : ℕ) → Outcome
  NoMemory : Outcome

-- the kinds of step at the directory; those of the sweeper and the operator come last
pub data DirectoryStep : Type 0 where
  Look : (note : Note) → DirectoryStep
  LookRepair : (note : Note) → DirectoryStep
  Draw : DirectoryStep
  Commit : (placed : List (List Placement)) → DirectoryStep
  End : DirectoryStep
  Confirm : DirectoryStep
  Repaired : (server epoch : ℕ) → DirectoryStep
  NextGarbage : DirectoryStep
  Swept : (version : ℕ) → DirectoryStep
  Reap : (actor : Actor) → DirectoryStep

-- the kinds of step at a server; first those of a version, of which the last is the sweeper's, then those of the operator
pub data ServerStep : Type 0 where
  Prepare : (version : ℕ) → ServerStep
  Settle : (version : ℕ) → ServerStep
  Has : (version : ℕ) → ServerStep
  Fetch : (version : ℕ) (layers : List ℕ) → ServerStep
  Install : (version : ℕ) → ServerStep
  Discard : (version : ℕ) → ServerStep
  Wipe : ServerStep
  Down : ServerStep
  Up : ServerStep

-- what an actor does next
pub data Act : Type 0 where
  AtDirectory : (step : DirectoryStep) → Act
  AtServer : (server : ℕ) (step : ServerStep) → Act
  Finish : (outcome : Outcome) → Act

-- whether memory may be wanting in the step
abbrev pub takes_memory : DirectoryStep → Bool
takes_memory (DirectoryStep.Look note) = true
takes_memory (DirectoryStep.LookRepair note) = true
takes_memory DirectoryStep.Draw = true
takes_memory _ = false

-- the same of a step at a server
abbrev pub server_takes_memory : ServerStep → Bool
server_takes_memory (ServerStep.Prepare version) = true
server_takes_memory (ServerStep.Fetch version layers) = true
server_takes_memory (ServerStep.Install version) = true
server_takes_memory _ = false
