-- What never changes about a place, as its turns tell it, and what its box stands for.
use Rattle.std.specs.Prelude.{ℕ, List, Option, None, Some}
use Rattle.store_core.specs.ActPlace.{ActPlace}
use Rattle.thread_laws.specs.MadeSteps.{MadeStep}
use Rattle.chunk_server.specs.Core.{core_of}
use Rattle.thread_laws.specs.AtDirectory.{StandsAtDirectory}
use Rattle.thread_laws.specs.AtServer.{StandsAtServer}
use Rattle.thread_laws.specs.Entries.{steps_in}
use Rattle.thread_laws.specs.Noted.{Noted, made_in}
use Rattle.thread_laws.specs.Numbers.{Counts}
use Rattle.thread_laws.specs.Operated.{IsOperated}
use Rattle.run_seats.specs.declared.server_box.ServerBox.{ServerBox}
use Rattle.run_seats.specs.declared.server_box.ServerIdentity.{ServerIdentity}
use Rattle.run_seats.specs.declared.directory_box.DirectoryBox.{DirectoryBox}
use Rattle.run_seats.specs.declared.directory_box.DirectoryIdentity.{DirectoryIdentity}

-- how many turns clients and repairers have at a server, and at the directory
abbrev pub counts_of : ServerIdentity → Counts
counts_of identity = record { clients = identity.clients; repairers = identity.repairers }

abbrev pub counts_there : DirectoryIdentity → Counts
counts_there identity = record { clients = identity.clients; repairers = identity.repairers }

-- the most bytes of an object
abbrev pub max_in : Option DirectoryIdentity → ℕ
max_in None = 0
max_in (Some identity) = identity.max

-- the number of the server with this fixed part
abbrev pub server_in : Option ServerIdentity → ℕ
server_in None = 0
server_in (Some identity) = identity.number

-- what never changes about a server in its box
abbrev pub server_identity : ServerBox → ServerIdentity
server_identity held = record { number = held.server.number; opening = held.server.book; clients = held.clients; repairers = held.repairers }

-- and about the directory
abbrev pub directory_identity : DirectoryBox → DirectoryIdentity
directory_identity held = record { opening = held.directory.book; max = held.max; clients = held.clients; repairers = held.repairers }

-- a server in its box stands for the steps of a history, of which the operator's are the first of the script's lines there
abbrev pub ServerStands : ServerBox → List (ℕ × MadeStep) → Type 0
ServerStands held log =
    StandsAtServer (counts_of (server_identity held)) held.server.number (core_of held.server) log
    × IsOperated held.server.book.script (ActPlace.Server held.server.number) (steps_in log)

-- so does the directory
abbrev pub DirectoryStands : DirectoryBox → List (ℕ × Noted) → Type 0
DirectoryStands held log =
    StandsAtDirectory (counts_there (directory_identity held)) held.max held.directory log × IsOperated held.directory.book.script ActPlace.Directory (made_in log)
