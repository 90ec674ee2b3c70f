-- The parts of a share that is written.
use Rattle.std.proofs.Common.{◌≡◌, ◌<◌, ◌≤◌, ℕ, ◌+◌, ◌-◌, ◌*◌, List, [], ◌∷◌, ◌++◌, length, take, drop, replicate, slice_range, refl, sym, subst, ◌∙◌, ap, arith, append-nil, length-append}
use Rattle.std.specs.Prelude.{min}
use Rattle.std.specs.List.{flat_map}
use Rattle.std.proofs.lemmas.List.{length-take}
use Rattle.std.proofs.lemmas.List.Concat.{flat_map-append}
use Rattle.clay_grid.specs.Shape.{chunk_length}
use Rattle.clay_model.specs.Code.{padded}
use Rattle.clay_aloof.specs.Shape.{AloofShape, grid_of}
use Rattle.file_bytes.specs.Laid.{laid_at}
use Rattle.file_bytes.proofs.LaidLemmas.{laid_behind, laid_before}
use Rattle.share_format.specs.declared.format_fault.BadHeader.{BadHeader}
use Rattle.share_format.specs.Faults.{IsFirstFault}
use Rattle.share_format.specs.Blocks.{page_of, rounded, aligned, block_of, block_length}
use Rattle.share_format.specs.Shares.{block_start, header_of, share_with}
use Rattle.share_format.specs.Header.{Header, header_with, header_bytes}
use Rattle.share_format.proofs.Lengths.{length_aligned, length_header, length_block}
use Rattle.share_files.specs.Written.{HasBlocks, GainsHeader}

-- one more block behind those of some chunks
module _ (a : AloofShape) (chunks : List (List ℕ)) (chunk block : List ℕ) (is : block ≡ block_of a chunk) (long : length chunk ≡ chunk_length (grid_of a)) where
  both : flat_map (block_of a) (chunks ++ chunk ∷ []) ≡ flat_map (block_of a) chunks ++ block
  both =
      flat_map-append (block_of a) chunks (chunk ∷ [])
      ∙ ap (λ l. flat_map (block_of a) chunks ++ l) (append-nil (block_of a chunk) ∙ sym is)

  pub block_behind : (place : ℕ) (old new : List ℕ) → length chunks ≡ place → new ≡ laid_at (block_start a place) block old → HasBlocks a chunks old →
      HasBlocks a (chunks ++ chunk ∷ []) new
  block_behind place old new count laid has =
      let one : length (chunks ++ chunk ∷ []) ≡ length chunks + 1 = length-append chunks (chunk ∷ []) in
      let sum : length chunks * block_length a + block_length a ≡ (length chunks + 1) * block_length a = omega arith in
      let size : length block ≡ block_length a = ap (λ l. length l) is ∙ length_block a chunk long in
      let here : block_start a place ≡ rounded (page_of a) 64 + length (flat_map (block_of a) chunks) =
      ap (λ n. rounded (page_of a) 64 + n * block_length a) (sym count) ∙ ap (λ n. rounded (page_of a) 64 + n) (sym has.size) in record {
        size =
            ap (λ l. length l) both ∙ length-append (flat_map (block_of a) chunks) block ∙ (λ i. has.size i + size i) ∙ sum
            ∙ ap (λ n. n * block_length a) (sym one);
        blocks =
            ap (λ l. drop (rounded (page_of a) 64) l) (laid ∙ ap (λ n. laid_at n block old) here)
            ∙ laid_behind (rounded (page_of a) 64) (flat_map (block_of a) chunks) block old has.blocks
            ∙ sym both;
      }

-- a header filled up to whole units
pub aligned_header : (a : AloofShape) (h : Header) → padded (rounded (page_of a) 64) (header_bytes h) ≡ aligned a (header_bytes h)
aligned_header a h = ap (λ n. padded (rounded (page_of a) n) (header_bytes h)) (sym (length_header h))

-- the header before the blocks
header_before : (a : AloofShape) (file : List ℕ) (number : ℕ) (chunks : List (List ℕ)) (bytes old new : List ℕ) →
    bytes ≡ aligned a (header_bytes (header_of a file number)) → new ≡ laid_at 0 bytes old → HasBlocks a chunks old → new ≡ share_with a file number chunks
header_before a file number chunks bytes old new is laid has =
    let long : length bytes ≡ rounded (page_of a) 64 =
    ap (λ l. length l) is ∙ length_aligned a (header_bytes (header_of a file number)) ∙ ap (λ n. rounded (page_of a) n) (length_header (header_of a file number)) in
    laid ∙ laid_before bytes old ∙ ap (λ n. bytes ++ drop n old) long ∙ ap (λ l. bytes ++ l) has.blocks ∙ ap (λ l. l ++ flat_map (block_of a) chunks) is

-- the same of the header's bytes as they were written
pub header_written : (h : Header) (items bytes old new : List ℕ) → bytes ≡ items → items ≡ aligned h.shape (header_bytes h) →
    (0 < length bytes → new ≡ laid_at 0 bytes old) → GainsHeader h.shape h.size h.checksum h.share old new
header_written h items bytes old new same is laid =
    let zeros : List ℕ = replicate {A = ℕ} (rounded (page_of h.shape) (length (header_bytes h)) - length (header_bytes h)) 0 in
    let sum : length bytes ≡ length (header_bytes h) + length zeros = ap (λ l. length l) (same ∙ is) ∙ length-append (header_bytes h) zeros in
    let some : 0 < length bytes = omega (arith, sum, length_header h) in record {
      whole = λ file chunks size checksum has.
          header_before h.shape file h.share chunks bytes old new
          (same ∙ is ∙ (λ i. aligned h.shape (header_bytes (header_with h.shape h.share (sym size i) (sym checksum i))))) (laid some) has;
    }

-- the bytes in a row that a file has at a place
pub slice_is : (file buf : List ℕ) (at place size : ℕ) → at ≡ place → length buf ≡ size → slice_range file at (at + length buf) ≡ take size (drop place file)
slice_is file buf at place size e f =
    let count : at + length buf - at ≡ size = omega (arith, f) in
    ap (λ n. take n (drop at file)) count ∙ ap (λ p. take size (drop p file)) e

-- the first bytes of a file, as they were read
first_is : (file buf : List ℕ) → buf ≡ slice_range file 0 (0 + length buf) → length buf ≡ 64 → buf ≡ take 64 file
first_is file buf e long = e ∙ slice_is file buf 0 0 64 refl long

pub header_first : (file buf head : List ℕ) → head ≡ buf → buf ≡ slice_range file 0 (0 + length buf) → length buf ≡ 64 → take 64 file ≡ head
header_first file buf head same e long = sym (same ∙ first_is file buf e long)

pub first_refused : (file buf : List ℕ) (fault : BadHeader) → IsFirstFault buf fault → buf ≡ slice_range file 0 (0 + length buf) → length buf ≡ 64 →
    (64 ≤ length file) × IsFirstFault (take 64 file) fault
first_refused file buf fault bad e long =
    let P : List ℕ → Type 0 = λ l. IsFirstFault l fault in
    let size : length (take 64 file) ≡ min 64 (length file) = length-take 64 file in
    let same : length buf ≡ length (take 64 file) = ap (λ (l : List ℕ). length l) (first_is file buf e long) in
    (omega (arith, size, same, long), subst P (first_is file buf e long) bad)
