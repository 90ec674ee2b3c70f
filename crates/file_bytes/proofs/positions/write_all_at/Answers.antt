use Rattle.std.proofs.Common.{◌∙◌, arith, length-drop}
use Rattle.file_bytes.proofs.PlaceLemmas.{more_put, full_row}
use Rattle.file_bytes.proofs.LaidLemmas.{laid_row}
use Rattle.file_bytes.proofs.positions.write_all_at.Goals as goal

pub pieces-preserved : goal.pieces-preserved
pieces-preserved g c = record {
  within = grind (arith, length-drop);
  put = more_put c.pieces.done c.in-Ok.n c.args.bytes.now c.pieces.invariant.within c.args.at _ _ _ c.pieces.invariant.put c.in-Ok.ensures.takes;
  steady = c.in-Ok.ensures.steady ∙ c.pieces.invariant.steady;
}

pub returns-clause-laid : goal.returns-clause-laid
returns-clause-laid g c = λ some.
    laid_row _ _ c.args.at c.args.bytes.now some (full_row _ _ c.args.at c.pieces.done c.args.bytes.now (omega arith) c.pieces.invariant.put)
