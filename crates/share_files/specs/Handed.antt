-- A stripe of a file that stands in the blocks of its data shares, or that was joined.
use Rattle.std.specs.Prelude.{◌≡◌, ℕ, ◌<◌, List, length, take, get_or, Option, Some, None, Vec}
use Rattle.std.specs.List.{flat_map}
use Rattle.std.specs.declared.alloc.Global.{Global}
use Rattle.clay_aloof.specs.Shape.{AloofShape, stripe_bytes}
use Rattle.share_format.specs.Blocks.{IsBlock}
use Rattle.share_format.specs.Joined.{chunk_or_zeros}

-- a block is there
abbrev pub HasBlock : AloofShape → Option (Vec ℕ Global) → Type 0
HasBlock a None = ⊥
HasBlock a (Some block) = IsBlock a block.items

-- that of each data share is
abbrev pub HaveBlocks : AloofShape → List (Option (Vec ℕ Global)) → Type 0
HaveBlocks a blocks = (c : ℕ) → c < a.data_count → HasBlock a (get_or blocks c None)

-- the chunks in the data shares' blocks, one behind another
abbrev pub data_in : AloofShape → List (Option (Vec ℕ Global)) → List ℕ
data_in a blocks = flat_map (chunk_or_zeros a) (take a.data_count blocks)

-- the bytes of a stripe: as it was joined, or else those chunks
abbrev pub bytes_in : AloofShape → List (Option (Vec ℕ Global)) → Option (Vec ℕ Global) → List ℕ
bytes_in a blocks None = data_in a blocks
bytes_in a blocks (Some stripe) = stripe.items

-- they are there
abbrev pub IsReady : AloofShape → List (Option (Vec ℕ Global)) → Option (Vec ℕ Global) → Type 0
IsReady a blocks None = HaveBlocks a blocks
IsReady a blocks (Some stripe) = length stripe.items ≡ stripe_bytes a
