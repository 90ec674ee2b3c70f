use Rattle.std.proofs.Common.{◌≡◌, length, map, ap}
use Rattle.std.proofs.lemmas.Result.{IfOk-weaker}
use Rattle.turn_lock.specs.Piles.{items_of}
use Rattle.run_seats.specs.declared.server_box.ServerBox.{ServerBox}
use Rattle.store_run.specs.Closed.{AreServersOut}
use Rattle.store_run.proofs.Closing.{servers_out}
use Rattle.store_run.proofs.ended.close_servers.Goals as goal

pub returns : goal.returns
returns g c =
    let store = c.args.store.now in
    let rows = items_of c.args.rows.items in
    let boxes = c.in_ok-boxes.boxes.items in
    IfOk-weaker c.unbox.result (λ servers. servers.items ≡ map (λ (held : ServerBox). held.server) boxes) (λ servers. AreServersOut store rows servers.items)
    (λ servers is. servers_out store g.identity rows c.requires.1.0 boxes servers.items (length c.as_slice.result.now) (ap length c.as_slice.ensures.value) c.in_ok-boxes.ensures is)
    c.unbox.ensures
