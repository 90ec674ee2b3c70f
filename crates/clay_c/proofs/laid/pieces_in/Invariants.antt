use Rattle.std.proofs.Common.{◌≡◌, ℕ, List, Bor, map}
use Rattle.clay_c.specs.Lost.{pieces_cut}
use Rattle.clay_c.proofs.laid.pieces_in.Given as goal

abbrev pub invariant-loop-place : goal.invariant-loop-place
invariant-loop-place l = map (λ (piece : Bor (List ℕ)). piece.now) l.pieces.items ≡ pieces_cut l.len l.bytes l.place
