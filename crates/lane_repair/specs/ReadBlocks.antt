-- What holds in a block of byte positions of a layer that is read, for each codeword whose other chunks have the parts that are there.
use Rattle.std.specs.Prelude.{ℕ, ◌+◌, ◌*◌, ◌<◌, ◌≤◌, List}
use Rattle.clay_grid.specs.Shape.{row_count}
use Rattle.code_laws.specs.Rebuilt.{IsReadFor, with_digit}
use Rattle.lane_repair.specs.Pieces.{IsCoupled, IsUncoupled, IsPresent, HoldsColumn, HoldsNodes, HoldsRows, HoldsByte}
use Rattle.lane_repair.specs.Views.{pieces_of, HasRoom, ArePieces, FitsPieces}
use Rattle.lane_repair.specs.Repaired.{IsRepairPlan, column_nodes}
use Rattle.lane_repair.specs.declared.read_block.ReadBlock.{ReadBlock}

-- a block of positions of a subchunk in a layer that is read, with the plan of the lost chunk and the parts of the others
pub record IsReadBlock (block : ReadBlock) : Type 0 where
  pub planned : IsRepairPlan block.g block.plan.now
  pub parts : ArePieces block.g block.plan.now.lost (pieces_of block.parts)
  pub room : HasRoom block.parts
  pub read : IsReadFor block.g block.plan.now.lost block.z
  pub within : block.at + block.len ≤ block.g.width

-- the block's bytes of node i's subchunk n
abbrev pub IsCoupledIn : ReadBlock → ℕ → ℕ → List ℕ → Type 0
IsCoupledIn block i n piece = IsCoupled block.g (λ word. FitsPieces block.g block.plan.now.lost (pieces_of block.parts) word) block.at block.len i n piece

-- node i's uncoupled value in the block's layer
abbrev pub IsUncoupledIn : ReadBlock → ℕ → List ℕ → Type 0
IsUncoupledIn block i piece = IsUncoupled block.g (λ word. FitsPieces block.g block.plan.now.lost (pieces_of block.parts) word) block.at block.len i block.z piece

-- the same, or zeros for a node of the lost node's column
abbrev pub IsPresentIn : ReadBlock → ℕ → List ℕ → Type 0
IsPresentIn block i piece = IsPresent block.g (λ word. FitsPieces block.g block.plan.now.lost (pieces_of block.parts) word) block.at block.len block.plan.now.erased.items i block.z piece

-- a row of those values for each of the four nodes of column y
abbrev pub HoldsColumnIn : ReadBlock → ℕ → List ℕ → Type 0
HoldsColumnIn block y values = HoldsColumn block.g (λ word. FitsPieces block.g block.plan.now.lost (pieces_of block.parts) word) block.at block.len block.plan.now.erased.items y block.z 4 values

-- the same for as many nodes as a column has, from first on
abbrev pub HoldsNodesIn : ReadBlock → ℕ → List ℕ → Type 0
HoldsNodesIn block first values =
    HoldsNodes block.g (λ word. FitsPieces block.g block.plan.now.lost (pieces_of block.parts) word) block.at block.len block.plan.now.erased.items first block.z (row_count block.g) values

-- a row for each node of the lost node's column: its uncoupled value
abbrev pub HoldsRowsIn : ReadBlock → List ℕ → Type 0
HoldsRowsIn block rows = HoldsRows block.g (λ word. FitsPieces block.g block.plan.now.lost (pieces_of block.parts) word) block.at block.len (column_nodes block.g block.plan.now.column) block.z rows

-- byte p is that of the lost chunk
abbrev pub HoldsByteIn : ReadBlock → List ℕ → ℕ → Type 0
HoldsByteIn block chunk p = HoldsByte (λ word. FitsPieces block.g block.plan.now.lost (pieces_of block.parts) word) block.plan.now.lost chunk p

-- a chunk has the block's bytes of the lost chunk's subchunks in the layers that differ from the block's at most in the digit of its column
abbrev pub HoldsSubchunksIn : ReadBlock → List ℕ → Type 0
HoldsSubchunksIn block chunk =
    (x b : ℕ) → x < row_count block.g → b < block.len
    → HoldsByteIn block chunk (with_digit block.g block.plan.now.lost block.z x * block.g.width + (block.at + b))

-- each byte that was right is right
abbrev pub KeepsBytesIn : ReadBlock → List ℕ → List ℕ → Type 0
KeepsBytesIn block old new = (p : ℕ) → HoldsByteIn block old p → HoldsByteIn block new p
