-- A chunk server as the store's definitions see it: its versions and counts, and what each call was told.
use Rattle.std.specs.Prelude.{ℕ, Result, Ok, Err}
use Rattle.store_map.specs.declared.placement.Placement.{Placement}
use Rattle.store_core.specs.Told.{Told}
use Rattle.store_core.specs.Server.{Server}
use Rattle.chunk_server.specs.State.{ServerState, versions_of}
use Rattle.chunk_server.specs.declared.server_answers.Presence.{Presence}
use Rattle.chunk_server.specs.declared.server_answers.Presence.TheVariants as presence
use Rattle.chunk_server.specs.declared.server_answers.Fetched.{Fetched}
use Rattle.chunk_server.specs.declared.server_answers.Fetched.TheVariants as fetched
use Rattle.chunk_server.specs.declared.server_answers.Installed.{Installed}
use Rattle.chunk_server.specs.declared.server_answers.Installed.TheVariants as installed

-- the server without its number, its book, its marks and its chunks' contents
abbrev pub core_of : ServerState → Server
core_of s = record { held = versions_of s.held; epoch = s.epoch; taken = s.taken; downs = s.downs; away = s.away }

-- what a prepare tells; an error is want of memory, here and below
abbrev pub told_prepared : {E : Type 0} → Result Placement E → Told
told_prepared (Ok placement) = Told.Prepared placement
told_prepared (Err e) = Told.Short

-- what a look for a version tells
abbrev pub told_presence : Presence → Told
told_presence presence.Here = Told.Here
told_presence (presence.Missing found) = Told.Missing found

-- what a fetch of so many layers tells that had its memory
abbrev pub told_given : ℕ → Fetched → Told
told_given count (fetched.Part part) = Told.Given count
told_given count (fetched.Missing found) = Told.Missing found

-- what a fetch of so many layers tells
abbrev pub told_fetched : {E : Type 0} → ℕ → Result Fetched E → Told
told_fetched count (Ok answer) = told_given count answer
told_fetched count (Err e) = Told.Short

-- what an install tells that had its memory
abbrev pub told_added : Installed → Told
told_added (installed.Placed epoch) = Told.Placed epoch
told_added installed.AlreadyThere = Told.AlreadyThere
told_added (installed.Away downs) = Told.Away downs

-- what an install tells
abbrev pub told_installed : {E : Type 0} → Result Installed E → Told
told_installed (Ok answer) = told_added answer
told_installed (Err e) = Told.Short
