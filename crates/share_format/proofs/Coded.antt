-- The blocks of a stripe's chunks, pushed one by one.
use Rattle.std.proofs.Common.{◌≡◌, ℕ, ◌+◌, ◌*◌, List, [], ◌∷◌, ◌++◌, map, slice_range, sym, ap, ◌∙◌, arith}
use Rattle.std.proofs.lemmas.List.{map-append}
use Rattle.std.proofs.lemmas.List.FromFn.{map-range_with_len_more}
use Rattle.std.specs.List.{range_with_len}
use Rattle.clay_grid.specs.Shape.{chunk_length}
use Rattle.clay_aloof.specs.Shape.{AloofShape, grid_of}
use Rattle.clay_aloof.specs.Code.{Codes}
use Rattle.clay_aloof.specs.Encoded.{chunks_in, chunks_of}
use Rattle.share_format.specs.Blocks.{block_of}
use Rattle.share_format.specs.CutBlocks.{AreBlocks}

-- the blocks of the first count of some chunks that stand one behind another
abbrev pub blocks_in : AloofShape → ℕ → List ℕ → List (List ℕ)
blocks_in a count bytes = map (block_of a) (chunks_in count (chunk_length (grid_of a)) bytes)

pub next_block : (a : AloofShape) (bytes : List ℕ) (c : ℕ)
    → blocks_in a c bytes ++ block_of a (slice_range bytes (c * chunk_length (grid_of a)) (c * chunk_length (grid_of a) + chunk_length (grid_of a))) ∷ [] ≡ blocks_in a (c + 1) bytes
next_block a bytes c =
    let len : ℕ = chunk_length (grid_of a) in
    let piece : ℕ → List ℕ = λ k. slice_range bytes (k * len) (k * len + len) in
    sym (ap (map (block_of a)) (map-range_with_len_more piece 0 c c (omega arith)) ∙ map-append (block_of a) (map piece (range_with_len 0 c)) (piece c ∷ []))

-- the blocks of the data chunks and of the parity chunks
pub all_blocks : (a : AloofShape) (stripe parity : List ℕ) (blocks : List (List ℕ)) → Codes a stripe (chunks_of a stripe parity)
    → blocks ≡ blocks_in a a.data_count stripe ++ blocks_in a a.parity_count parity → AreBlocks a stripe blocks
all_blocks a stripe parity blocks codes is = record {
  word = chunks_of a stripe parity;
  codes = codes;
  value = is ∙ sym (map-append (block_of a) (chunks_in a.data_count (chunk_length (grid_of a)) stripe) (chunks_in a.parity_count (chunk_length (grid_of a)) parity));
}
