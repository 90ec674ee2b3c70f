-- Files that are whole shares of a header, as far as their own bytes tell.
use Rattle.std.specs.Prelude.{◌≡◌, ◌≢◌, ℕ, ◌<◌, List, ◌++◌, [], ◌∷◌, length, take, Some, None}
use Rattle.share_format.specs.Cut.{stripe_count}
use Rattle.share_format.specs.Blocks.{page_of, rounded, aligned}
use Rattle.share_format.specs.Header.{Header, IsHeader, header_bytes}
use Rattle.share_format.specs.Shares.{share_length}
use Rattle.share_files.specs.Found.{IsFirstRotten}
use Rattle.share_files.specs.Refused.{IsRefusal}
use Rattle.share_files.specs.declared.share_reading.HeaderRefusal.TheVariants.{Short as ShortFile, Bad}
use Rattle.share_files.specs.declared.share_fault.ShareFault.{ShareFault}
use Rattle.share_files.specs.declared.share_fault.ShareFault.TheVariants.{Short, Header as HeaderFault, Foreign, Padding, Block, Longer, ReadFault, OutOfMemory}

-- a file begins with a header and the zeros behind it
abbrev pub BeginsWith : Header → List ℕ → Type 0
BeginsWith h file = take (rounded (page_of h.shape) 64) file ≡ aligned h.shape (header_bytes h)

-- a file begins with the header, has a block for each stripe that it tells, and no more
pub record IsWhole (h : Header) (file : List ℕ) : Type 0 where
  pub begins : BeginsWith h file
  pub blocks : IsFirstRotten h.shape (stripe_count h.shape h.size) file None
  pub size : length file ≡ share_length h.shape h.size

-- another header is there
pub record IsForeign (h : Header) (file : List ℕ) : Type 0 where
  pub header : Header
  pub bounded : IsHeader header
  pub first : take 64 file ≡ header_bytes header
  pub other : header ≢ h

-- the header is there, and not the zeros behind it
pub record IsUnfilled (h : Header) (file : List ℕ) : Type 0 where
  pub first : take 64 file ≡ header_bytes h
  pub differs : ¬ BeginsWith h file

-- the header and the zeros are there, and this is the first block that isn't
pub record IsRottenAt (h : Header) (file : List ℕ) (stripe : ℕ) : Type 0 where
  pub begins : BeginsWith h file
  pub rotten : IsFirstRotten h.shape (stripe_count h.shape h.size) file (Some stripe)

-- all of it is there, and more
pub record IsLonger (h : Header) (file : List ℕ) : Type 0 where
  pub begins : BeginsWith h file
  pub blocks : IsFirstRotten h.shape (stripe_count h.shape h.size) file None
  pub longer : share_length h.shape h.size < length file

-- a fault is the first that a file has, where it should be a share of the header; a read that failed and an allocation failure say nothing
abbrev pub IsFirstFault : Header → List ℕ → ShareFault → Type 0
IsFirstFault h file Short = IsRefusal file ShortFile
IsFirstFault h file (HeaderFault fault) = IsRefusal file (Bad fault)
IsFirstFault h file Foreign = IsForeign h file
IsFirstFault h file Padding = IsUnfilled h file
IsFirstFault h file (Block stripe) = IsRottenAt h file stripe
IsFirstFault h file Longer = IsLonger h file
IsFirstFault h file ReadFault = Unit {0}
IsFirstFault h file OutOfMemory = Unit {0}

-- one more read failed
pub record OneFails (failed now : List ℕ) : Type 0 where
  pub place : ℕ
  pub fails : now ≡ failed ++ (place ∷ [])
