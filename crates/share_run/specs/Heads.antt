-- The headers of shares, by their numbers, and the cut that most of these shares are of.
use Rattle.std.specs.Prelude.{◌≡◌, ◌<◌, ◌≤◌, ℕ, nat_eq, Bool, false, ◌&&◌, List, length, take, get_or, Option, None, Some, Result, Ok, Err}
use Rattle.clay_grid.specs.Score.{count_below}
use Rattle.clay_aloof.specs.Shape.{AloofShape}
use Rattle.file_bytes.specs.Places.{Shows, FailsIn}
use Rattle.share_format.specs.Header.{Header, IsHeader, header_with, header_bytes}
use Rattle.share_files.specs.Seen.{Seen, seen_of}
use Rattle.share_files.specs.Refused.{IsRefusal}
use Rattle.share_files.specs.declared.share_reading.HeaderRefusal.{HeaderRefusal}
use Rattle.share_files.specs.declared.share_reading.HeaderRefusal.TheVariants.{ReadFault, Short}

-- a header that was read, or why there is none
abbrev pub Head : Type 0
Head = Result Header HeaderRefusal

-- what stands first in a share's file is that header, which is within its limits, or none for that reason
abbrev pub IsHead : List ℕ → Head → Type 0
IsHead file (Ok header) = (take 64 file ≡ header_bytes header) × IsHeader header
IsHead file (Err refusal) = IsRefusal file refusal

-- a read of it failed where that is the reason, and none elsewhere: where reads had failed, and where they have then
abbrev pub FailsFor : List ℕ → List ℕ → Head → Type 0
FailsFor failed now (Err ReadFault) = FailsIn 0 64 failed now
FailsFor failed now head = now ≡ failed

-- so it is of whatever file a source shows, by what was known of it before and after
pub record IsHeadOf (old new : Seen) (head : Head) : Type 0 where
  pub is : (file : List ℕ) → Shows file new.given new.ends → IsHead file head
  pub fails : FailsFor old.failed new.failed head

-- the one of a number
abbrev pub head_of : List Head → ℕ → Head
head_of heads c = get_or heads c (Err Short)

-- so it is of each source
abbrev pub AreHeads : List Seen → List Seen → List Head → Type 0
AreHeads olds news heads = (c : ℕ) → c < length heads → IsHeadOf (seen_of olds c) (seen_of news c) (head_of heads c)

-- the header of the share of a number, of the same cut
abbrev pub numbered : Header → ℕ → Header
numbered h c = header_with h.shape c h.size h.checksum

-- whether two codes are the same, with their helpers and widths
abbrev pub is_code : AloofShape → AloofShape → Bool
is_code a b = nat_eq a.data_count b.data_count && (nat_eq a.parity_count b.parity_count && (nat_eq a.helper_count b.helper_count && nat_eq a.width b.width))

-- whether a share has the header of its number, of the cut that a header is of
abbrev pub is_of : Header → ℕ → Head → Bool
is_of h c (Ok header) = nat_eq header.share c && (is_code header.shape h.shape && (nat_eq header.size h.size && nat_eq header.checksum h.checksum))
is_of h c (Err refusal) = false

-- how many shares have one
abbrev pub share_count : List Head → Header → ℕ
share_count heads h = count_below (length heads) (λ c. is_of h c (head_of heads c))

abbrev pub HasNone : Head → Type 0
HasNone (Ok header) = ⊥
HasNone (Err refusal) = Unit {0}

-- a header of one of the first so many shares: by the header of no other of them more shares are of its cut, and by none before it as many
pub record IsMostShared (heads : List Head) (count : ℕ) (h : Header) : Type 0 where
  pub share : ℕ
  pub within : share < count
  pub there : head_of heads share ≡ Ok h
  pub most : (c : ℕ) (other : Header) → c < count → head_of heads c ≡ Ok other → share_count heads other ≤ share_count heads h
  pub first : (c : ℕ) (other : Header) → c < share → head_of heads c ≡ Ok other → share_count heads other < share_count heads h

-- what the first so many shares' headers tell: nothing, where there is none; or the cut that most shares are of
abbrev pub Tell : List Head → ℕ → Option Header → Type 0
Tell heads count None = (c : ℕ) → c < count → HasNone (head_of heads c)
Tell heads count (Some h) = IsMostShared heads count h
