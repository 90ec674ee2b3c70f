use Rattle.std.proofs.Common.{arith, ◌≡◌, length}
use Rattle.hist_tables.specs.Numbers.{row_of}
use Rattle.hist_tables.proofs.Rows.{inserted}
use Rattle.hist_tables.proofs.number_set.NumberSet.insert.Goals as goal

pub returns : goal.returns
returns c =
    let long : length c.row_at-row.result ≡ 64 = omega (arith, c.row_at-row.type_inv) in
    inserted (λ key. row_of c.args.self.now key.0 key.1) (λ key. row_of (record { rows = c.insert.new.self }) key.0 key.1) c.args.actor c.args.number c.row_at-row.result
    long c.row_at-row.ensures.row c.in_ok-insert.ensures.updates.0
