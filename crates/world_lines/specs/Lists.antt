-- The lists of a transcript, each by what it is made of.
use Rattle.std.specs.Prelude.{ℕ, Bool, false, List, ◌++◌, length, map, option_and_then}
use Rattle.std.specs.List.{slice_get, enumerate_from}
use Rattle.store_map.specs.declared.actor.Actor.{Actor}
use Rattle.store_map.specs.declared.actor.Actor.TheVariants as actor
use Rattle.store_map.specs.declared.line.XLine.{XLine}
use Rattle.store_map.specs.declared.line.RLine.{RLine}
use Rattle.store_map.specs.declared.line.OLine.{OLine}
use Rattle.store_map.specs.declared.line.GLine.{GLine}
use Rattle.store_map.specs.declared.line.LLine.{LLine}
use Rattle.store_map.specs.declared.line.TLine.{TLine}
use Rattle.store_core.specs.Directory.{Object}
use Rattle.store_core.specs.Server.{Server}
use Rattle.store_core.specs.Work.{Calling}
use Rattle.store_core.specs.Outcomes.{cause_of, result_of}
use Rattle.store_core.specs.History.{is_answer}
use Rattle.store_core.specs.Shown.{client_name, repairer_name, lines_of_ended, lines_of_actors, refused_line, repair_line, unanswered_line, take_lines}

-- the clients' calls that were refused
abbrev pub refused_lines : List Calling → List XLine
refused_lines clients = lines_of_actors (λ i. lines_of_ended (λ number ended. refused_line (record { client = i; number = number }) (cause_of ended.outcome))) clients

-- what the rebuilds came to
abbrev pub repair_lines : List Calling → List RLine
repair_lines repairers = lines_of_actors (λ i. lines_of_ended (λ number ended. repair_line (record { repairer = i; number = number }) (result_of ended.outcome))) repairers

-- the calls that have begun and have no outcome, the clients' first
abbrev pub unanswered_lines : List Calling → List Calling → List OLine
unanswered_lines clients repairers =
    lines_of_actors (λ i. unanswered_line (client_name i)) clients ++ lines_of_actors (λ i. unanswered_line (repairer_name i)) repairers

-- the objects in order of creation
abbrev pub object_lines : List Object → List LLine
object_lines objects = map (λ object. record { name = object.name; length = object.length }) objects

-- what the calls took, the clients' first
abbrev pub all_take_lines : List Calling → List Calling → List GLine
all_take_lines clients repairers =
    lines_of_actors (λ i. take_lines (client_name i)) clients ++ lines_of_actors (λ i. take_lines (repairer_name i)) repairers

-- the servers in their order
abbrev pub server_lines : List Server → List TLine
server_lines servers = map (λ entry. record { server = entry.0; taken = entry.1.taken; held = length entry.1.held; epoch = entry.1.epoch }) (enumerate_from 0 servers)

-- whether a client's call was answered
abbrev pub answered_by : List Calling → Actor → ℕ → Bool
answered_by clients (actor.Client i) number = is_answer (option_and_then (λ calling. slice_get calling.ended number) (slice_get clients i))
answered_by clients who number = false
