use Rattle.std.proofs.Common.{ℕ, List, [], Bor, sym}
use Rattle.std.proofs.lemmas.List.{get_or-map}
use Rattle.lost_read.proofs.read_places.bytes_at.Goals as goal

pub returns : goal.returns
returns c = sym (get_or-map (λ (piece : Bor (List ℕ)). piece.now) c.args.pieces.now c.args.place _ [] c.requires)
