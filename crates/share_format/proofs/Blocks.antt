-- The blocks in a share file.
use Rattle.std.proofs.Common.{◌≡◌, ℕ, ◌+◌, ◌*◌, ◌^◌, ◌<◌, ◌≤◌, List, [], length, get_or, take, drop, sym, ap, subst, ◌∙◌, arith, length-append}
use Rattle.std.proofs.lemmas.List as lists
use Rattle.std.proofs.lemmas.List.{length-map}
use Rattle.std.specs.List.{flat_map}
use Rattle.byteorder.specs.Endian.{little_number}
use Rattle.byteorder.specs.Numbers.{little_number-reads_back}
use Rattle.clay_grid.specs.Shape.{chunk_length}
use Rattle.clay_aloof.specs.Shape.{AloofShape, all_chunks, grid_of}
use Rattle.share_format.specs.Cut.{stripe_count, AreCodewords}
use Rattle.share_format.specs.Blocks.{page_of, rounded, aligned, block_of, block_length, chunk_start}
use Rattle.share_format.specs.Header.{header_bytes}
use Rattle.share_format.specs.Shares.{header_of, share_with, chunks_at, IsShare, block_start, share_length}
use Rattle.share_format.proofs.Rows.{drop_front, length_flat, flat_at}
use Rattle.share_format.proofs.Lengths.{length_aligned, length_header, length_block, chunk_in_block}

abbrev pub AreChunks : AloofShape → List (List ℕ) → Type 0
AreChunks a chunks = (i : ℕ) → i < length chunks → length (get_or chunks i []) ≡ chunk_length (grid_of a)

module _ (a : AloofShape) (file : List ℕ) (number : ℕ) (chunks : List (List ℕ)) where
  pub length_padded : length (aligned a (header_bytes (header_of a file number))) ≡ rounded (page_of a) 64
  length_padded =
      length_aligned a (header_bytes (header_of a file number)) ∙ ap (rounded (page_of a)) (length_header (header_of a file number))

  pub length_share : AreChunks a chunks → length (share_with a file number chunks) ≡ block_start a (length chunks)
  length_share long =
      length-append (aligned a (header_bytes (header_of a file number))) (flat_map (block_of a) chunks)
      ∙ (λ i. length_padded i + length_flat (block_of a) (block_length a) [] chunks (λ k less. length_block a (get_or chunks k []) (long k less)) i)

  pub block_in_share : AreChunks a chunks → (i : ℕ) → i < length chunks
      → take (block_length a) (drop (block_start a i) (share_with a file number chunks)) ≡ block_of a (get_or chunks i [])
  block_in_share long i less =
      let header : length (aligned a (header_bytes (header_of a file number))) ≡ rounded (page_of a) 64 = length_padded in
      let place : block_start a i ≡ length (aligned a (header_bytes (header_of a file number))) + i * block_length a =
      ap (λ n. n + i * block_length a) (sym header) in
      ap (take (block_length a)) (drop_front (block_start a i) (i * block_length a) (aligned a (header_bytes (header_of a file number))) (flat_map (block_of a) chunks) place)
      ∙ flat_at (block_of a) (block_length a) [] chunks i less (λ k h. length_block a (get_or chunks k []) (long k h))

  -- the chunk of stripe i, found in the share
  pub chunk_in_share : AreChunks a chunks → (i : ℕ) → i < length chunks
      → drop (chunk_start a) (take (block_length a) (drop (block_start a i) (share_with a file number chunks))) ≡ get_or chunks i []
  chunk_in_share long i less = ap (drop (chunk_start a)) (block_in_share long i less) ∙ chunk_in_block a (get_or chunks i [])

  -- the file's length, found in the share
  pub size_in_share : length file ≤ 2 ^ 56 → little_number 8 (drop 32 (share_with a file number chunks)) ≡ length file
  size_in_share bounded = little_number-reads_back 8 (length file) (drop 40 (share_with a file number chunks)) (omega (arith, bounded))

module _ (a : AloofShape) (file : List ℕ) (number : ℕ) (words : List (List (List ℕ))) (coded : AreCodewords a file words) (numbered : number < all_chunks a) where
  pub count_chunks : length (chunks_at number words) ≡ stripe_count a (length file)
  count_chunks = length-map words (λ word. get_or word number []) ∙ coded.count

  pub chunk_of_word : (i : ℕ) → i < length words → get_or (chunks_at number words) i [] ≡ get_or (get_or words i []) number []
  chunk_of_word i less = lists.get_or-map (λ word. get_or word number []) words i [] [] less

  pub are_chunks : AreChunks a (chunks_at number words)
  are_chunks i less =
      let within : i < length words = subst (λ n. i < n) (length-map words (λ word. get_or word number [])) less in
      ap length (chunk_of_word i within) ∙ (coded.codes i within).codeword.lengths number numbered

  pub chunk_of_share : (i : ℕ) → i < length words
      → drop (chunk_start a) (take (block_length a) (drop (block_start a i) (share_with a file number (chunks_at number words)))) ≡ get_or (chunks_at number words) i []
  chunk_of_share i less =
      chunk_in_share a file number (chunks_at number words) are_chunks i
      (subst (λ n. i < n) (sym (length-map words (λ word. get_or word number []))) less)

-- a share file's length
pub share_has_length : (a : AloofShape) (file : List ℕ) (number : ℕ) (bytes : List ℕ) → IsShare a file number bytes
    → length bytes ≡ share_length a (length file)
share_has_length a file number bytes is =
    ap length is.value
    ∙ length_share a file number (chunks_at number is.words) (are_chunks a file number is.words is.coded is.numbered)
    ∙ ap (block_start a) (count_chunks a file number is.words is.coded is.numbered)
