use Rattle.std.proofs.Common.{map, take}
use Rattle.line_grammar.specs.ChunkEntries.{AreEntries, parts_of}
use Rattle.line_grammar.proofs.chunk_entries.entries_of.Given as goal

abbrev pub invariant-loop-line : goal.invariant-loop-line
invariant-loop-line l = AreEntries (map (λ line. line.now) (take l.line-index l.lines)) (parts_of l.entries.items)
