use Rattle.clay_aloof.specs.Shape.{grid_of}
use Rattle.clay_aloof.specs.Encoded.{HoldsParity}
use Rattle.clay_aloof.specs.Known.{node_bytes}
use Rattle.clay_aloof.proofs.aloof_chunks.couple_chunks.Given as goal

abbrev pub invariant-loop-place : goal.invariant-loop-place
invariant-loop-place l = HoldsParity l.g l.plan (node_bytes (grid_of l.g) l.known) l.place l.parity
