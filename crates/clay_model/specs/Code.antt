-- The codewords of a shape.
use Rattle.std.specs.Prelude.{◌≡◌, ℕ, zero, suc, ◌+◌, ◌-◌, ◌*◌, ◌/◌, ◌^◌, ◌<◌, ◌≤◌, Bool, false, cond, nat_lt, not, ◌&&◌, List, [], ◌∷◌, ◌++◌, length, get_or, take, drop, replicate, Option, Some, None}
use Rattle.std.specs.List.{concat}
use Rattle.clay_grid.specs.Shape.{Shape, chunk_count, row_count, column_count, node_count, virtual_count, chunk_length, stripe_length}
use Rattle.clay_grid.specs.Layers.{index_of}
use Rattle.clay_grid.specs.Score.{count_below}
use Rattle.clay_model.specs.Coupling.{HasZeroSums}

-- a virtual node stands between the data nodes and the parity nodes
abbrev pub is_virtual : Shape → ℕ → Bool
is_virtual g i = not (nat_lt i g.data_count) && nat_lt i (g.data_count + virtual_count g)

-- the chunk of a node that is not virtual
abbrev pub chunk_of_node : Shape → ℕ → ℕ
chunk_of_node g i = cond (nat_lt i g.data_count) i (i - virtual_count g)

-- byte b of subchunk z of node i, which is 0 at a virtual node
abbrev pub coupled_value : Shape → List (List ℕ) → ℕ → ℕ → List ℕ → ℕ
coupled_value g chunks b i z =
    cond (is_virtual g i) 0 (get_or (get_or chunks (chunk_of_node g i) []) (index_of (row_count g) z * g.width + b) 0)

-- chunks are a codeword if in each layer, at each byte, the first parity_count weighted sums of the uncoupled values are zero
pub record IsCodeword (g : Shape) (chunks : List (List ℕ)) : Type 0 where
  pub count : length chunks ≡ chunk_count g
  pub lengths : (c : ℕ) → c < chunk_count g → length (get_or chunks c []) ≡ chunk_length g
  pub bytes : (c p : ℕ) → get_or (get_or chunks c []) p 0 < 2 ^ 8
  pub sums : (b : ℕ) → b < g.width → HasZeroSums (row_count g) (column_count g) g.parity_count (coupled_value g chunks b)

-- a codeword and the stripe that its data chunks are
pub record Codes (g : Shape) (stripe : List ℕ) (chunks : List (List ℕ)) : Type 0 where
  pub codeword : IsCodeword g chunks
  pub joined : concat (take g.data_count chunks) ≡ stripe

-- chunks agree with what is there of others
abbrev pub AgreesWith : List (Option (List ℕ)) → List (List ℕ) → Type 0
AgreesWith present chunks = (c : ℕ) (chunk : List ℕ) → get_or present c None ≡ Some chunk → get_or chunks c [] ≡ chunk

-- two lists of chunks are equal at each chunk that is not erased, and no more are erased than there are parity chunks
pub record AgreesBut (g : Shape) (erased : ℕ → Bool) (a b : List (List ℕ)) : Type 0 where
  pub few : count_below (chunk_count g) erased ≤ g.parity_count
  pub same : (c : ℕ) → c < chunk_count g → erased c ≡ false → get_or a c [] ≡ get_or b c []

-- a shape with parity chunks and a byte in each subchunk, of which the node numbers are distinct elements of the field
pub record HasDistinctNodes (g : Shape) : Type 0 where
  pub parity : 0 < g.parity_count
  pub subchunk : 0 < g.width
  pub nodes : node_count g ≤ 2 ^ 8

-- a stripe of s bytes is the next s bytes, filled up with zeros
abbrev pub padded : ℕ → List ℕ → List ℕ
padded s bytes = bytes ++ replicate (s - length bytes) 0

-- the first n stripes of s bytes
abbrev pub stripes_below : ℕ → ℕ → List ℕ → List (List ℕ)
stripes_below s zero bytes = []
stripes_below s (suc n) bytes = padded s (take s bytes) ∷ stripes_below s n (drop s bytes)

-- the stripes of some bytes: cut at the stripe length, the last filled up with zeros, and none for no bytes
abbrev pub stripes_of : Shape → List ℕ → List (List ℕ)
stripes_of g bytes = stripes_below (stripe_length g) ((length bytes + stripe_length g - 1) / stripe_length g) bytes
