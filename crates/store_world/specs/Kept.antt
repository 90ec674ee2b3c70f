-- What every world of a script keeps.
use Rattle.std.specs.Prelude.{◌≡◌, ℕ, List, length, Some}
use Rattle.std.specs.List.{slice_get}
use Rattle.clay_grid.specs.Limits.{IsGeometry}
use Rattle.store_map.specs.Limits.{tries_of}
use Rattle.store_map.specs.Naming.{IsValid}
use Rattle.store_map.specs.declared.script.ClientPart.{ClientPart}
use Rattle.store_map.specs.declared.script.RepairPart.{RepairPart}
use Rattle.store_map.specs.declared.script.Script.{Script}
use Rattle.version_seal.specs.Entry.{BookOf}
use Rattle.stripe_stamps.specs.Sealed.{Sealed}
use Rattle.world_laws.specs.Tokens.{TokensAgree}
use Rattle.world_laws.specs.Goes.{IsReached}
use Rattle.actors.specs.Turns.{AreServers}
use Rattle.actors.specs.Callers.{PartOf, CallerOf, StandsIn, Knows}
use Rattle.store_world.specs.Serving.{ServesItsPins}
use Rattle.store_world.specs.Stored.{StoredWorld, world_of}

-- a caller at its place of the script, of the book, which knows by the directory's stamps what it keeps
pub record IsCallerAt (script : Script) (book : BookOf) (d : Sealed) (place : ℕ) (caller : CallerOf) : Type 0 where
  pub its : StandsIn script place caller.part
  pub same_book : caller.book ≡ book
  pub often : caller.tries ≡ tries_of script
  pub knows : Knows d caller

-- a client, whose calls read what the map has at the points of their looks
pub record IsClientAt (script : Script) (book : BookOf) (d : Sealed) (place : ℕ) (client : CallerOf) : Type 0 where
  pub part : ClientPart
  pub is_part : client.part ≡ PartOf.OfClient part
  pub at : IsCallerAt script book d place client
  pub serves : ServesItsPins script d.core.points place client

-- as many clients as the script has, each at its place
pub record AreClients (script : Script) (book : BookOf) (d : Sealed) (clients : List CallerOf) : Type 0 where
  pub count : length clients ≡ length script.clients
  pub each : (i : ℕ) (client : CallerOf) → slice_get clients i ≡ Some client → IsClientAt script book d i client

-- a repairer
pub record IsRepairerAt (script : Script) (book : BookOf) (d : Sealed) (place : ℕ) (repairer : CallerOf) : Type 0 where
  pub part : RepairPart
  pub is_part : repairer.part ≡ PartOf.OfRepairer part
  pub at : IsCallerAt script book d place repairer

-- as many repairers as the script has
pub record AreRepairers (script : Script) (book : BookOf) (d : Sealed) (repairers : List CallerOf) : Type 0 where
  pub count : length repairers ≡ length script.repairers
  pub each : (i : ℕ) (repairer : CallerOf) → slice_get repairers i ≡ Some repairer → IsRepairerAt script book d i repairer

-- the book is the script's, all parts are of it, the directory agrees with the tickets of all actors, and some tokens of the script reach the world
pub record IsWorld (s : StoredWorld) : Type 0 where
  pub geometry : IsGeometry s.script.geometry
  pub valid : IsValid s.script
  pub written : s.book.script ≡ Some s.script
  pub code : s.book.geometry ≡ s.script.geometry
  pub directory_book : s.directory.book ≡ s.book
  pub servers : AreServers s.book s.servers
  pub clients : AreClients s.script s.book s.directory s.clients
  pub repairers : AreRepairers s.script s.book s.directory s.repairers
  pub agree : TokensAgree (world_of s)
  pub reached : IsReached s.script (world_of s)
