use Rattle.std.proofs.lemmas.Result.{IfOk-weaker}
use Rattle.turn_lock.specs.Piles.{items_of}
use Rattle.turn_lock.proofs.RowDealing.{piles_left, piles_some, row_new}
use Rattle.turn_lock.proofs.turn_rows.deal_row.Goals as goal

pub take_tops-requires : goal.take_tops-requires
take_tops-requires g c = let deal = c.requires.0 in piles_some deal.identity deal.locks deal.number (items_of c.args.piles.now.items) c.requires.1

pub returns : goal.returns
returns g c deal are =
    let old = items_of c.args.piles.now.items in
    let now = items_of c.take_tops.new.piles.items in
    IfOk-weaker c.take_tops.result _ _
    (λ row taken. (row_new deal.identity deal.locks deal.number old are now row.items taken, piles_left deal.identity deal.locks deal.number old are now row.items taken)) c.take_tops.ensures
