-- What a mend makes of the helpers' parts.
use Rattle.std.specs.Prelude.{◌≡◌, ℕ, ◌<◌, Bool, true, List, [], length, get_or, drop}
use Rattle.clay_grid.specs.Shape.{chunk_length}
use Rattle.clay_model.specs.RepairParts.{subchunks_at}
use Rattle.clay_aloof.specs.Shape.{AloofShape, all_chunks, grid_of}
use Rattle.clay_aloof.specs.Code.{IsCodeword}
use Rattle.clay_aloof.specs.Repair.{aloof_layers_of}
use Rattle.share_format.specs.Blocks.{chunk_start, block_of}
use Rattle.share_files.specs.Seen.{Seen, Show}
use Rattle.share_mends.specs.Parts.{piece_in, IsGoodPiece}
use Rattle.share_mends.specs.Asked.{helps}
use Rattle.share_mends.specs.declared.mend_fault.RottenPart.{RottenPart}
use Rattle.share_mends.specs.declared.mend_fault.MendFault.{MendFault}
use Rattle.share_mends.specs.declared.mend_fault.MendFault.TheVariants.{Rotten}

-- share c's file has a good piece of stripe i
abbrev pub HasGood : AloofShape → ℕ → List (List ℕ) → ℕ → ℕ → Type 0
HasGood a lost files i c = IsGoodPiece a lost (piece_in a lost i (get_or files c []))

-- each helper's file has a good piece of each of the first so many stripes
abbrev pub HaveGood : AloofShape → ℕ → List Bool → List (List ℕ) → ℕ → Type 0
HaveGood a lost marks files count = (i c : ℕ) → i < count → c < all_chunks a → helps marks c ≡ true → HasGood a lost files i c

-- of the first so many stripes and of each stripe's helpers in the order of their numbers it is the first whose file has no good piece
pub record IsFirstRotten (a : AloofShape) (lost : ℕ) (marks : List Bool) (files : List (List ℕ)) (count : ℕ) (part : RottenPart) : Type 0 where
  pub within : part.stripe < count
  pub helper : helps marks part.share ≡ true
  pub rotten : ¬ HasGood a lost files part.stripe part.share
  pub stripes : HaveGood a lost marks files part.stripe
  pub shares : (c : ℕ) → c < part.share → helps marks c ≡ true → HasGood a lost files part.stripe c

-- a fault names the first rotten part, or is of another kind
abbrev pub NamesFirst : AloofShape → ℕ → List Bool → List (List ℕ) → ℕ → MendFault → Type 0
NamesFirst a lost marks files count (Rotten part) = IsFirstRotten a lost marks files count part
NamesFirst a lost marks files count _ = Unit {0}

-- the good pieces of a stripe that the helpers' files have hold the parts of the word's chunks
abbrev pub AreOfWord : AloofShape → ℕ → List Bool → List (List ℕ) → ℕ → List (List ℕ) → Type 0
AreOfWord a lost marks files i word =
    (c : ℕ) → c < all_chunks a → helps marks c ≡ true → HasGood a lost files i c
    → drop (chunk_start a) (piece_in a lost i (get_or files c [])) ≡ subchunks_at a.width (get_or word c []) (aloof_layers_of a lost)

-- and so do those of each stripe
abbrev pub AreOfWords : AloofShape → ℕ → List Bool → List (List ℕ) → List (List (List ℕ)) → Type 0
AreOfWords a lost marks files words = (i : ℕ) → i < length words → AreOfWord a lost marks files i (get_or words i [])

-- a chunk is the lost one of each codeword whose parts the shown files have in a stripe
pub record IsMended (a : AloofShape) (lost : ℕ) (marks : List Bool) (sources : List Seen) (i : ℕ) (chunk : List ℕ) : Type 0 where
  pub long : length chunk ≡ chunk_length (grid_of a)
  pub only : (files word : List (List ℕ)) → Show sources files → IsCodeword a word → AreOfWord a lost marks files i word → chunk ≡ get_or word lost []

-- the block of such a chunk
pub record IsMendedBlock (a : AloofShape) (lost : ℕ) (marks : List Bool) (sources : List Seen) (i : ℕ) (block : List ℕ) : Type 0 where
  pub chunk : List ℕ
  pub mended : IsMended a lost marks sources i chunk
  pub value : block ≡ block_of a chunk
