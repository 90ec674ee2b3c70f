-- Helpers of a mend that are chosen among the good shares.
use Rattle.std.specs.Prelude.{◌≡◌, ℕ, ◌+◌, ◌-◌, ◌/◌, ◌<◌, ◌≤◌, ◌⊎◌, Bool, true, false, List, length, Option, Some, None, Vec}
use Rattle.std.specs.declared.alloc.Global.{Global}
use Rattle.clay_grid.specs.Score.{count_below}
use Rattle.clay_aloof.specs.Shape.{AloofShape, rows_of, node_of}
use Rattle.share_mends.specs.Asked.{helps, AreHelpers}

-- all marked shares are good
abbrev pub AreAmong : List Bool → List Bool → Type 0
AreAmong marks good = (c : ℕ) → helps marks c ≡ true → helps good c ≡ true

-- helpers among the good shares, or none, where there are none
abbrev pub IsChoice : AloofShape → ℕ → List Bool → Option (Vec Bool Global) → Type 0
IsChoice a lost good (Some marks) = AreHelpers a lost marks.items × AreAmong marks.items good
IsChoice a lost good None = (marks : List Bool) → AreHelpers a lost marks → AreAmong marks good → ⊥

-- a share's node stands in the lost one's column
abbrev pub IsBeside : AloofShape → ℕ → ℕ → Type 0
IsBeside a lost c = node_of a c / rows_of a ≡ node_of a lost / rows_of a

-- whether a share that can help, or not, is marked, and how many may be left out before it and after it: such a share is left out as long as
-- some may be, unless it stands in the lost one's column
abbrev pub IsNext : Bool → Bool → ℕ → Bool → ℕ → Type 0
IsNext can beside left mark rest =
    ((can ≡ false) × (mark ≡ false) × (rest ≡ left))
    ⊎ ((can ≡ true) × (mark ≡ true) × (rest ≡ left) × ((beside ≡ true) ⊎ (left ≡ 0)))
    ⊎ ((can ≡ true) × (beside ≡ false) × (mark ≡ false) × (left ≡ rest + 1))

-- of the first so many shares these are marked, of those that can help: each in the lost one's column, and all others but as many as were left
-- out. Where more may be left out, none of the others is marked
pub record AreMarked (a : AloofShape) (lost : ℕ) (others : List Bool) (spare count left : ℕ) (marks : List Bool) : Type 0 where
  pub size : length marks ≡ count
  pub only : (c : ℕ) → helps marks c ≡ true → helps others c ≡ true
  pub column : (c : ℕ) → c < count → helps others c ≡ true → IsBeside a lost c → helps marks c ≡ true
  pub most : left ≤ spare
  pub sum : count_below count (helps marks) + (spare - left) ≡ count_below count (helps others)
  pub rest : (c : ℕ) → 0 < left → helps marks c ≡ true → IsBeside a lost c
