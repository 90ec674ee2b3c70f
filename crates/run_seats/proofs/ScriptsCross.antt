-- Threads may share a script.
use denote.RattleType.{RattleType}
use denote.Param.Send.{IsSync, sendable, view_sync}
use denote.Param.SendFields.{declared_sync}
use Rattle.std.proofs.Crossing.{crosses, Vec-sync}
use Rattle.store_map.specs.contracts.actor.Token as token
use Rattle.store_map.specs.contracts.call.Call as call
use Rattle.store_map.specs.contracts.list_of.ListOf.TheInside as list_inside
use Rattle.store_map.specs.contracts.list_of.ListOf as list
use Rattle.store_map.specs.contracts.script.ClientPart as client_part
use Rattle.store_map.specs.contracts.script.RepairPart as repair_part
use Rattle.store_map.specs.contracts.script.Script as script
use Rattle.run_seats.proofs.CallsCross.{call_sync}

list_sync : (T : RattleType) → IsSync T → IsSync (list.the_row T)
list_sync T s = view_sync (list_inside.the_row T) _ _ _ _ (declared_sync (list_inside.the_type T) (Vec-sync T s, tt))

pub client_part_sync : IsSync client_part.the_row
client_part_sync = declared_sync client_part.the_type (list_sync call.the_row call_sync, (search sendable depth 20, tt))

pub repair_part_sync : IsSync repair_part.the_row
repair_part_sync = search (sendable, crosses) depth 40

token_sync : IsSync token.the_row
token_sync = search sendable depth 20

pub script_sync : IsSync script.the_row
script_sync = declared_sync script.the_type (
  search sendable,
  (
    search sendable depth 20,
    (
      search sendable depth 20,
      (
        search sendable depth 20,
        (list_sync client_part.the_row client_part_sync, (list_sync repair_part.the_row repair_part_sync, (list_sync token.the_row token_sync, tt))),
      ),
    ),
  ),
)
