-- The share files of a file.
use Rattle.std.specs.Prelude.{◌≡◌, ℕ, ◌+◌, ◌*◌, ◌<◌, List, [], ◌++◌, map, length, get_or}
use Rattle.std.specs.List.{flat_map}
use Rattle.crc64.specs.Remainder.{checksum_of}
use Rattle.clay_aloof.specs.Shape.{AloofShape, all_chunks}
use Rattle.share_format.specs.Cut.{stripe_count, AreCodewords}
use Rattle.share_format.specs.Blocks.{page_of, rounded, aligned, block_of, block_length}
use Rattle.share_format.specs.Header.{Header, header_bytes}

-- what the header of a file's share tells
abbrev pub header_of : AloofShape → List ℕ → ℕ → Header
header_of a file number = record { shape = a; share = number; size = length file; checksum = checksum_of file }

-- a share file: the header, and the block of each of the share's chunks
abbrev pub share_with : AloofShape → List ℕ → ℕ → List (List ℕ) → List ℕ
share_with a file number chunks = aligned a (header_bytes (header_of a file number)) ++ flat_map (block_of a) chunks

-- the share's chunk of each stripe's codeword
abbrev pub chunks_at : ℕ → List (List (List ℕ)) → List (List ℕ)
chunks_at number words = map (λ word. get_or word number []) words

-- the bytes are the share file of this number. A stripe has one codeword, so a file has one such share
pub record IsShare (a : AloofShape) (file : List ℕ) (number : ℕ) (bytes : List ℕ) : Type 0 where
  pub words : List (List (List ℕ))
  pub coded : AreCodewords a file words
  pub numbered : number < all_chunks a
  pub value : bytes ≡ share_with a file number (chunks_at number words)

-- two files have one share file of this number
pub record HaveEqualShare (a : AloofShape) (file other : List ℕ) (number : ℕ) : Type 0 where
  pub bytes : List ℕ
  pub one : IsShare a file number bytes
  pub two : IsShare a other number bytes

-- where stripe i's block begins
abbrev pub block_start : AloofShape → ℕ → ℕ
block_start a i = rounded (page_of a) 64 + i * block_length a

-- the bytes of a share file of a file of so many bytes
abbrev pub share_length : AloofShape → ℕ → ℕ
share_length a size = block_start a (stripe_count a size)
