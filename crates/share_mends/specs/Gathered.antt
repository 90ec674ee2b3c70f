-- The parts of a stripe that were read from the helpers' shares.
use Rattle.std.specs.Prelude.{◌≡◌, ℕ, ◌<◌, Bool, true, List, [], length, get_or, drop, Option, Some, None, is_some, Vec}
use Rattle.std.specs.declared.alloc.Global.{Global}
use Rattle.clay_model.specs.Left.{AreLong}
use Rattle.clay_aloof.specs.Shape.{AloofShape}
use Rattle.clay_aloof.specs.Repair.{part_bytes}
use Rattle.share_format.specs.Blocks.{chunk_start}
use Rattle.share_mends.specs.Parts.{piece_in, IsGoodPiece}
use Rattle.share_mends.specs.Asked.{helps}
use Rattle.share_mends.specs.Mended.{HasGood}
use Rattle.share_mends.specs.declared.mend_fault.MendFault.{MendFault}
use Rattle.share_mends.specs.declared.mend_fault.MendFault.TheVariants.{Rotten}

-- a part that is there is that of a good piece
abbrev pub HasPart : AloofShape → ℕ → List ℕ → Option (Vec ℕ Global) → Type 0
HasPart a lost piece None = Unit {0}
HasPart a lost piece (Some part) = (part.items ≡ drop (chunk_start a) piece) × IsGoodPiece a lost piece

-- a rotten part is that of a helping share and a stripe, whose piece isn't good
abbrev pub NamesPart : AloofShape → ℕ → Bool → ℕ → ℕ → List ℕ → MendFault → Type 0
NamesPart a lost help share stripe piece (Rotten part) = (help ≡ true) × (part.share ≡ share) × (part.stripe ≡ stripe) × ¬ IsGoodPiece a lost piece
NamesPart a lost help share stripe piece _ = Unit {0}

-- parts of the first so many shares, one of each that helps
pub record AreParts (a : AloofShape) (marks : List Bool) (count : ℕ) (parts : List (Option (Vec ℕ Global))) : Type 0 where
  pub long : length parts ≡ count
  pub there : (c : ℕ) → c < count → is_some (get_or parts c None) ≡ helps marks c
  pub lengths : AreLong (part_bytes a) parts

-- they are those of the files' pieces, which are good
abbrev pub ArePartsOf : AloofShape → ℕ → List (List ℕ) → ℕ → ℕ → List (Option (Vec ℕ Global)) → Type 0
ArePartsOf a lost files i count parts = (c : ℕ) → c < count → HasPart a lost (piece_in a lost i (get_or files c [])) (get_or parts c None)

-- a rotten part is the first of a stripe
abbrev pub NamesFirstOf : AloofShape → ℕ → List Bool → List (List ℕ) → ℕ → MendFault → Type 0
NamesFirstOf a lost marks files i (Rotten part) =
    (part.stripe ≡ i) × (helps marks part.share ≡ true) × ¬ HasGood a lost files i part.share
    × ((c : ℕ) → c < part.share → helps marks c ≡ true → HasGood a lost files i c)
NamesFirstOf a lost marks files i _ = Unit {0}
