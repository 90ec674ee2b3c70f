-- A server's epoch beside the script's wipes of it.
use Rattle.std.specs.Prelude.{ℕ, ◌≤◌, List, Some}
use Rattle.store_map.specs.declared.script.Script.{Script}
use Rattle.hist_rules.specs.Counts.{wipes}
use Rattle.store_core.specs.ActPlace.{ActPlace}
use Rattle.store_core.specs.Server.{Server}
use Rattle.thread_laws.specs.MadeSteps.{MadeStep}
use Rattle.thread_laws.specs.AtServer.{StandsAtServer}
use Rattle.thread_laws.specs.Entries.{steps_in}
use Rattle.thread_laws.specs.Numbers.{Counts}
use Rattle.thread_laws.specs.Operated.{IsOperated}

-- a server that stands for a history, of which the operator's steps are the first of the script's lines there, was emptied at most as often as the script says
abbrev pub EpochsAreWipes : Type 0
EpochsAreWipes =
    (of : Counts) (script : Script) (server : ℕ) (s : Server) (log : List (ℕ × MadeStep)) → StandsAtServer of server s log →
    IsOperated (Some script) (ActPlace.Server server) (steps_in log) → s.epoch ≤ wipes script server
