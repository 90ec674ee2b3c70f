-- A stripe as it is read from the sources of the shares: of the data shares alone where all their blocks are there.
use Rattle.std.specs.Prelude.{◌≡◌, ℕ, ◌<◌, ◌⊎◌, Bool, true, false, List, length, get_or, Option, None, Vec}
use Rattle.std.specs.declared.alloc.Global.{Global}
use Rattle.clay_model.specs.Left.{AreLong}
use Rattle.clay_aloof.specs.Shape.{AloofShape, all_chunks}
use Rattle.share_format.specs.Blocks.{block_length}
use Rattle.share_format.specs.Joined.{is_lost, IsJoined, AreTooFew}
use Rattle.share_files.specs.Seen.{Seen}
use Rattle.share_files.specs.Missed.{missed_after}
use Rattle.share_files.specs.Gathered.{AreRead}
use Rattle.share_files.specs.Handed.{HaveBlocks, data_in}
use Rattle.share_files.specs.declared.joining.JoinFault.{JoinFault}
use Rattle.share_files.specs.declared.joining.JoinFault.TheVariants.{TooFew, Mismatch, WriteFault, OutOfMemory}

-- a data share's block is missing
abbrev pub LacksData : AloofShape → List (Option (Vec ℕ Global)) → Type 0
LacksData a blocks = (d : ℕ) × (d < a.data_count) × (is_lost blocks d ≡ true)

-- the data shares' blocks of stripe i were read and are there, and no other was read: none was missed
pub record IsDataRead (a : AloofShape) (i : ℕ) (olds news : List Seen) (before after : List (Option ℕ)) (blocks : List (Option (Vec ℕ Global))) : Type 0 where
  pub read : AreRead a i a.data_count olds news blocks
  pub there : HaveBlocks a blocks
  pub same : after ≡ before

-- one of these is missing, the block of each share was read, and it is noted for each whether it was missed
pub record IsAllRead (a : AloofShape) (i : ℕ) (olds news : List Seen) (before after : List (Option ℕ)) (blocks : List (Option (Vec ℕ Global))) : Type 0 where
  pub lack : LacksData a blocks
  pub read : AreRead a i (all_chunks a) olds news blocks
  pub missed : (c : ℕ) → c < all_chunks a → get_or after c None ≡ missed_after (get_or before c None) i (is_lost blocks c)

-- the one, where it is told that the data shares' blocks are all there, or else the other
abbrev pub IsStripeRead : AloofShape → ℕ → List Seen → List Seen → List (Option ℕ) → List (Option ℕ) → List (Option (Vec ℕ Global)) → Bool → Type 0
IsStripeRead a i olds news before after blocks true = IsDataRead a i olds news before after blocks
IsStripeRead a i olds news before after blocks false = IsAllRead a i olds news before after blocks

-- bytes are the chunks in the data shares' blocks
pub record JoinsData (a : AloofShape) (i : ℕ) (olds news : List Seen) (before after : List (Option ℕ)) (bytes : List ℕ) : Type 0 where
  pub blocks : List (Option (Vec ℕ Global))
  pub count : length blocks ≡ all_chunks a
  pub long : AreLong (block_length a) blocks
  pub is : IsDataRead a i olds news before after blocks
  pub chunks : bytes ≡ data_in a blocks

-- or enough of all blocks are there, and bytes are the stripe of these
pub record JoinsAll (a : AloofShape) (i : ℕ) (olds news : List Seen) (before after : List (Option ℕ)) (bytes : List ℕ) : Type 0 where
  pub blocks : List (Option (Vec ℕ Global))
  pub count : length blocks ≡ all_chunks a
  pub is : IsAllRead a i olds news before after blocks
  pub few : ¬ AreTooFew a blocks
  pub joined : IsJoined a blocks bytes

abbrev pub JoinsStripe : AloofShape → ℕ → List Seen → List Seen → List (Option ℕ) → List (Option ℕ) → List ℕ → Type 0
JoinsStripe a i olds news before after bytes = JoinsData a i olds news before after bytes ⊎ JoinsAll a i olds news before after bytes

-- or too few are there
pub record LacksStripe (a : AloofShape) (i : ℕ) (olds news : List Seen) (before after : List (Option ℕ)) : Type 0 where
  pub blocks : List (Option (Vec ℕ Global))
  pub count : length blocks ≡ all_chunks a
  pub is : IsAllRead a i olds news before after blocks
  pub few : AreTooFew a blocks

-- why a stripe can't be joined: too few blocks are there, or memory is short
abbrev pub IsStripeFault : AloofShape → ℕ → List Seen → List Seen → List (Option ℕ) → List (Option ℕ) → JoinFault → Type 0
IsStripeFault a i olds news before after (TooFew stripe) = (stripe ≡ i) × LacksStripe a i olds news before after
IsStripeFault a i olds news before after Mismatch = ⊥
IsStripeFault a i olds news before after WriteFault = ⊥
IsStripeFault a i olds news before after OutOfMemory = Unit {0}
