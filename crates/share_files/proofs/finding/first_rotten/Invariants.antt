use Rattle.std.proofs.Common.{◌≡◌, ℕ, ◌<◌, List, length}
use Rattle.file_bytes.specs.Places.{Shows}
use Rattle.share_format.specs.Blocks.{block_length, IsBlock}
use Rattle.share_files.specs.Found.{block_in}
use Rattle.share_files.proofs.finding.first_rotten.Given as goal

abbrev pub invariant-loop-stripe : goal.invariant-loop-stripe
invariant-loop-stripe g l = record {
  whole : (file : List ℕ) → Shows file (g.S.SourceAt.given l.source) (g.S.SourceAt.ends l.source) → (i : ℕ) → i < l.stripe → IsBlock l.geometry (block_in l.geometry i file);
  shown : (file : List ℕ) → Shows file (g.S.SourceAt.given l.source) (g.S.SourceAt.ends l.source) → Shows file (g.S.SourceAt.given l.fn.source) (g.S.SourceAt.ends l.fn.source);
  room : length l.room.items ≡ block_length l.geometry;
  steady : g.S.SourceAt.failed l.source ≡ g.S.SourceAt.failed l.fn.source;
}
