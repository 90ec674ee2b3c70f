use Rattle.std.proofs.Common.{◌≡◌, ◌≤◌, ◌-◌, ◌++◌, length, map, drop}
use Rattle.line_grammar.specs.StripeLines.{line_of}
use Rattle.line_grammar.specs.ChunkEntries.{lines_of, pieces_of}
use Rattle.line_grammar.proofs.chunk_entries.lines_of.Given as goal

abbrev pub invariant-loop-at : goal.invariant-loop-at
invariant-loop-at l = (l.at ≤ length l.text) × (map (λ line. line.now) l.lines.items ++ map line_of (pieces_of (drop l.at l.text)) ≡ lines_of l.text)

abbrev pub decreases-loop-at : goal.decreases-loop-at
decreases-loop-at l = length l.text - l.at
