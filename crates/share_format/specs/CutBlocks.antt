-- The blocks of a stripe, one for each share.
use Rattle.std.specs.Prelude.{◌≡◌, ℕ, List, map}
use Rattle.clay_aloof.specs.Shape.{AloofShape}
use Rattle.clay_aloof.specs.Code.{Codes}
use Rattle.share_format.specs.Blocks.{block_of}

-- the blocks of the chunks of the stripe's codeword
pub record AreBlocks (a : AloofShape) (stripe : List ℕ) (blocks : List (List ℕ)) : Type 0 where
  pub word : List (List ℕ)
  pub codes : Codes a stripe word
  pub value : blocks ≡ map (block_of a) word
