-- The world as its callers see it: plain data.
use Rattle.std.specs.Prelude.{ℕ, List}
use Rattle.store_core.specs.Lists.{change_at}
use Rattle.store_core.specs.Directory.{Directory}
use Rattle.store_core.specs.Server.{Server}
use Rattle.store_core.specs.Agreement.{ActorToken}
use Rattle.store_core.specs.Work.{Ended}
use Rattle.call_steps.specs.CallOf.{CallOf}
use Rattle.sweeper.specs.Sweeps.{SweeperOf}

-- what an actor does: it waits between two calls with its ticket, or it is in a call that has made so many steps
pub data DoingOf : Type 0 where
  Between : (token : ActorToken) → DoingOf
  InCall : (call : CallOf) (steps : ℕ) → DoingOf

-- the calls of an actor that have ended, in order, and what it does
pub record ActorOf : Type 0 where
  pub ended : List Ended
  pub doing : DoingOf

-- directory, servers, actors and sweeper
pub record WorldOf : Type 0 where
  pub directory : Directory
  pub servers : List Server
  pub clients : List ActorOf
  pub repairers : List ActorOf
  pub sweeper : SweeperOf

-- the steps that the call in work has made
abbrev pub steps_of : DoingOf → ℕ
steps_of (DoingOf.Between token) = 0
steps_of (DoingOf.InCall call steps) = steps

-- a world with another directory
abbrev pub with_directory : Directory → WorldOf → WorldOf
with_directory d w = record w { directory = d }

-- a world with another server of this number
abbrev pub with_server : ℕ → Server → WorldOf → WorldOf
with_server server s w = record w { servers = change_at server (λ _. s) w.servers }

-- a world with another client of this number
abbrev pub with_client : ℕ → ActorOf → WorldOf → WorldOf
with_client i a w = record w { clients = change_at i (λ _. a) w.clients }

-- a world with another repairer of this number
abbrev pub with_repairer : ℕ → ActorOf → WorldOf → WorldOf
with_repairer i a w = record w { repairers = change_at i (λ _. a) w.repairers }

-- a world with another sweeper
abbrev pub with_sweeper : SweeperOf → WorldOf → WorldOf
with_sweeper s w = record w { sweeper = s }
