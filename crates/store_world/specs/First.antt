-- A world before its first step.
use Rattle.std.specs.Prelude.{◌≡◌, ◌<◌, ℕ, List, [], ◌++◌, length, map, Some}
use Rattle.std.specs.List.{slice_get, range_with_len}
use Rattle.clay_grid.specs.Shape.{chunk_count}
use Rattle.store_map.specs.Limits.{size_of, tries_of}
use Rattle.store_map.specs.declared.script.ClientPart.{ClientPart}
use Rattle.store_map.specs.declared.script.RepairPart.{RepairPart}
use Rattle.store_map.specs.declared.script.Script.{Script}
use Rattle.store_core.specs.Agreement.{Seat}
use Rattle.store_core.specs.Directory.{new_directory}
use Rattle.version_seal.specs.Entry.{BookOf}
use Rattle.chunk_server.specs.State.{ServerState, empty_server}
use Rattle.stripe_stamps.specs.Sealed.{Sealed}
use Rattle.stripe_dir.specs.Seats.{client_seat, repairer_seat}
use Rattle.actors.specs.Callers.{PartOf, CallerOf, first_caller}

-- a client at its place of the script that has made no call
pub record IsFirstClient (script : Script) (book : BookOf) (place : ℕ) (client : CallerOf) : Type 0 where
  pub part : ClientPart
  pub its : slice_get script.clients place ≡ Some part
  pub first : client ≡ first_caller (PartOf.OfClient part) book (tries_of script) (client_seat place)

-- the script's clients
pub record AreFirstClients (script : Script) (book : BookOf) (clients : List CallerOf) : Type 0 where
  pub count : length clients ≡ length script.clients
  pub each : (i : ℕ) (client : CallerOf) → slice_get clients i ≡ Some client → IsFirstClient script book i client

-- a repairer at its place that has made no call
pub record IsFirstRepairer (script : Script) (book : BookOf) (place : ℕ) (repairer : CallerOf) : Type 0 where
  pub part : RepairPart
  pub its : slice_get script.repairers place ≡ Some part
  pub first : repairer ≡ first_caller (PartOf.OfRepairer part) book (tries_of script) (repairer_seat place)

-- the script's repairers
pub record AreFirstRepairers (script : Script) (book : BookOf) (repairers : List CallerOf) : Type 0 where
  pub count : length repairers ≡ length script.repairers
  pub each : (i : ℕ) (repairer : CallerOf) → slice_get repairers i ≡ Some repairer → IsFirstRepairer script book i repairer

-- these seats are the first of some
abbrev pub BeginWith : (ℕ → Seat) → ℕ → List Seat → Type 0
BeginWith seat count seats = (i : ℕ) → i < count → slice_get seats i ≡ Some (seat i)

-- the seats of so many clients, and then of so many repairers
abbrev pub seats_of : ℕ → ℕ → List Seat
seats_of clients repairers = map client_seat (range_with_len 0 clients) ++ map repairer_seat (range_with_len 0 repairers)

-- an empty directory
abbrev pub first_directory : Script → BookOf → Sealed
first_directory script book = record { core = new_directory book.geometry (size_of script); book = book; stamps = [] }

-- a server for each chunk of a stripe, all of them empty
abbrev pub first_servers : Script → BookOf → List ServerState
first_servers script book = map (λ number. empty_server number book) (range_with_len 0 (chunk_count script.geometry))
