use Rattle.store_run.proofs.FirstPlaces.{server_begins}
use Rattle.store_run.proofs.locked_places.lock_server.Goals as goal

pub new-requires : goal.new-requires
new-requires c = record { empty = server_begins _ _ _ c.new-server.result c.new-server.ensures }
