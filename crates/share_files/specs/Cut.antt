-- Share files that are cut from what a source gives.
use Rattle.std.specs.Prelude.{◌≡◌, ℕ, ◌+◌, ◌^◌, ◌<◌, ◌≤◌, Bool, true, Option, List, [], ◌++◌, length, get_or}
use Rattle.crc64.specs.Remainder.{checksum_of}
use Rattle.clay_bytes.specs.Stream.{HandsOut, IsSpent}
use Rattle.clay_aloof.specs.Shape.{AloofShape, all_chunks}
use Rattle.share_format.specs.Cut.{AreCodewords}
use Rattle.share_format.specs.Shares.{chunks_at, IsShare}
use Rattle.share_files.specs.Written.{HasBlocks}

-- the files have the blocks of these bytes, as of a whole file
pub record AreBegun (a : AloofShape) (done : List ℕ) (files : List (List ℕ)) : Type 0 where
  pub words : List (List (List ℕ))
  pub coded : AreCodewords a done words
  pub blocks : (c : ℕ) → c < all_chunks a → HasBlocks a (chunks_at c words) (get_or files c [])

-- files that have the blocks of so many bytes have those of this piece too afterwards
pub record GoOn (a : AloofShape) (piece : List ℕ) (size : ℕ) (olds news : List (List ℕ)) : Type 0 where
  pub on : (done : List ℕ) → length done ≡ size → AreBegun a done olds → AreBegun a (done ++ piece) news

-- a source handed out so many bytes with this checksum, and the files have their blocks: what it had given and had left, both after it,
-- and the files
pub record AreCutSoFar (a : AloofShape) (given : List ℕ) (left : Option (List ℕ)) (now : List ℕ) (rest : Option (List ℕ))
    (size checksum : ℕ) (files : List (List ℕ)) : Type 0 where
  pub done : List ℕ
  pub handed : HandsOut given left done now rest
  pub counted : length done ≡ size
  pub summed : checksum ≡ checksum_of done
  pub begun : AreBegun a done files

-- a source handed out a file that isn't too long and told its end, and the files are its shares
pub record AreCut (a : AloofShape) (given : List ℕ) (left : Option (List ℕ)) (now : List ℕ) (rest : Option (List ℕ)) (ended : Bool)
    (files : List (List ℕ)) : Type 0 where
  pub file : List ℕ
  pub bounded : length file ≤ 2 ^ 56
  pub handed : HandsOut given left file now rest
  pub end : ended ≡ true
  pub spent : IsSpent rest
  pub shares : (c : ℕ) → c < all_chunks a → IsShare a file c (get_or files c [])

-- a source handed out so many bytes that the file is longer than a share can be of
pub record HandsOutTooMuch (given : List ℕ) (left : Option (List ℕ)) (before : ℕ) (now : List ℕ) (rest : Option (List ℕ)) : Type 0 where
  pub got : List ℕ
  pub handed : HandsOut given left got now rest
  pub long : 2 ^ 56 < before + length got
