use Rattle.clay_parity.proofs.BlockPlaces.{Appends-piece}
use Rattle.clay_parity.proofs.parity_layers.add_pieces.Goals as goal

pub loop-digit-preserved : goal.loop-digit-preserved
loop-digit-preserved c =
    Appends-piece c.args.g.parity_count c.args.g.width c.args.group.now c.args.x c.loop-digit.digit c.args.chunk.now.items c.loop-digit.chunk.items c.add_piece.new.chunk.items c.loop-digit.invariant c.in_ok-add_piece.ensures
