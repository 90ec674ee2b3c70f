use Rattle.std.proofs.Common.{◌≡◌, IfOk, length, subst}
use Rattle.lost_layers.specs.Without.{missing_pieces_of}
use Rattle.lost_read.specs.There.{pieces_with}
use Rattle.lost_read.proofs.there.count_without.Goals as goal

pub returns : goal.returns
unfolding pieces_with
returns c = subst (λ l. IfOk c.missing_count.result (λ count. count ≡ length (missing_pieces_of c.args.g c.args.run l))) c.mark_there.ensures c.missing_count.ensures.count
