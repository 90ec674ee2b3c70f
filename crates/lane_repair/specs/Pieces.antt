-- What a block of bytes has of nodes and chunks, for each codeword that fits what is there.
use Rattle.std.specs.Prelude.{◌≡◌, ℕ, ◌+◌, ◌*◌, ◌<◌, Bool, List, [], length, get_or}
use Rattle.clay_grid.specs.Shape.{Shape}
use Rattle.clay_model.specs.Erased.{present}
use Rattle.code_laws.specs.Solved.{coupled_byte, uncoupled_byte}

-- a piece has the bytes from `at` on of node i's subchunk n, as many as len
pub record IsCoupled (g : Shape) (fits : List (List ℕ) → Type 0) (at len i n : ℕ) (piece : List ℕ) : Type 0 where
  pub bytes : (word : List (List ℕ)) → fits word → (b : ℕ) → b < len → get_or piece b 0 ≡ coupled_byte g word (at + b) i n

-- the same of the uncoupled value
pub record IsUncoupled (g : Shape) (fits : List (List ℕ) → Type 0) (at len i n : ℕ) (piece : List ℕ) : Type 0 where
  pub bytes : (word : List (List ℕ)) → fits word → (b : ℕ) → b < len → get_or piece b 0 ≡ uncoupled_byte g word (at + b) i n

-- the same, or zeros for an erased node
pub record IsPresent (g : Shape) (fits : List (List ℕ) → Type 0) (at len : ℕ) (erased : List Bool) (i n : ℕ) (piece : List ℕ) : Type 0 where
  pub bytes : (word : List (List ℕ)) → fits word → (b : ℕ) → b < len → get_or piece b 0 ≡ present erased (λ i. uncoupled_byte g word (at + b) i n) i

-- a row of those values for each of the nodes from 4 y on below 4 y + count
pub record HoldsColumn (g : Shape) (fits : List (List ℕ) → Type 0) (at len : ℕ) (erased : List Bool) (y n count : ℕ) (values : List ℕ) : Type 0 where
  pub bytes : (word : List (List ℕ)) → fits word → (x b : ℕ) → x < count → b < len
      → get_or values (x * len + b) 0 ≡ present erased (λ i. uncoupled_byte g word (at + b) i n) (y * 4 + x)

-- a row of those values for each of count nodes from first on
pub record HoldsNodes (g : Shape) (fits : List (List ℕ) → Type 0) (at len : ℕ) (erased : List Bool) (first n count : ℕ) (values : List ℕ) : Type 0 where
  pub bytes : (word : List (List ℕ)) → fits word → (x b : ℕ) → x < count → b < len
      → get_or values (x * len + b) 0 ≡ present erased (λ i. uncoupled_byte g word (at + b) i n) (first + x)

-- a row for each of the nodes: the bytes from `at` on of their uncoupled values in layer n
pub record HoldsRows (g : Shape) (fits : List (List ℕ) → Type 0) (at len : ℕ) (points : List ℕ) (n : ℕ) (rows : List ℕ) : Type 0 where
  pub bytes : (word : List (List ℕ)) → fits word → (e b : ℕ) → e < length points → b < len
      → get_or rows (e * len + b) 0 ≡ uncoupled_byte g word (at + b) (get_or points e 0) n

-- byte p of a chunk is that of chunk c
pub record HoldsByte (fits : List (List ℕ) → Type 0) (c : ℕ) (chunk : List ℕ) (p : ℕ) : Type 0 where
  pub at : (word : List (List ℕ)) → fits word → get_or chunk p 0 ≡ get_or (get_or word c []) p 0
