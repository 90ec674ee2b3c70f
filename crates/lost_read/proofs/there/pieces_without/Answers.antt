use Rattle.std.proofs.Common.{◌≡◌, IfOk, subst}
use Rattle.lost_layers.specs.Without.{missing_pieces_of}
use Rattle.lost_read.specs.There.{pieces_with}
use Rattle.lost_read.proofs.there.pieces_without.Goals as goal

pub returns-clause-listed : goal.returns-clause-listed
unfolding pieces_with
returns-clause-listed c = subst (λ l. IfOk c.missing_pieces.result (λ pieces. pieces.items ≡ missing_pieces_of c.args.g c.args.run l)) c.mark_there.ensures c.missing_pieces.ensures.listed
