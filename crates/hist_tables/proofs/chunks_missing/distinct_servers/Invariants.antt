use Rattle.std.proofs.Common.{◌≡◌, ◌+◌, ◌≤◌, drop}
use Rattle.hist_rules.specs.MissingChunk.{distinct_servers}
use Rattle.hist_tables.proofs.chunks_missing.distinct_servers.Given as goal

abbrev pub invariant-loop-place : goal.invariant-loop-place
invariant-loop-place l = record {
  few : l.count ≤ l.place;
  so_far : l.count + distinct_servers (drop l.place l.triples) ≡ distinct_servers l.triples;
}
