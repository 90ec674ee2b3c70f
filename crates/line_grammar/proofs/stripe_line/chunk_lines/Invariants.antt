use Rattle.std.proofs.Common.{◌≡◌, map, take}
use Rattle.line_grammar.specs.StripeLines.{chunk_lines}
use Rattle.line_grammar.proofs.stripe_line.chunk_lines.Given as goal

abbrev pub invariant-loop-chunk : goal.invariant-loop-chunk
invariant-loop-chunk l = l.lines.items ≡ chunk_lines (map (λ chunk. chunk.items) (take l.chunk-index l.chunks))
