use Rattle.std.proofs.Common.{◌<◌, length, slice_set, ap, sym, ◌∙◌, arith}
use Rattle.store_core.specs.Placements.{placed_anew}
use Rattle.version_table.proofs.Changes.{change_at-set, change_at-past}
use Rattle.version_table.proofs.version_rows.raise.Goals as goal

pub returns-then-server-len : goal.returns-then-server-len
returns-then-server-len c = sym (change_at-past c.args.server (placed_anew c.args.epoch) c.args.row.now.items (omega (arith, c.if-server-len.true, c.len.ensures, c.args.row.now.ok.0)))

pub returns : goal.returns
returns c =
    let within : c.args.server < length c.args.row.now.items = omega (arith, c.if-server-len.false, c.len.ensures, c.args.row.now.ok.0) in
    ap (slice_set c.args.row.now.items c.args.server) c.anew.ensures
    ∙ change_at-set (placed_anew c.args.epoch) c.args.row.now.items c.args.server c.index.result.now within c.index.ensures
