-- The header of a share, in 64 bytes. Each number stands with its lowest byte first.
use Rattle.std.specs.Prelude.{◌≡◌, ℕ, ◌≤◌, ◌<◌, ◌^◌, List, ◌++◌, take, drop}
use Rattle.byteorder.specs.Endian.{little_bytes, little_number}
use Rattle.crc64.specs.Remainder.{checksum_of}
use Rattle.clay_aloof.specs.Shape.{AloofShape, aloof_of, all_chunks}
use Rattle.clay_aloof.specs.Limits.{IsAloof}
use Rattle.share_format.specs.Cut.{stripe_count}

-- the bytes 89 'C' 'L' 'A' 'Y' 0d 0a 1a as a number
abbrev pub magic : ℕ
magic = 0x1A0A0D59414C4389

-- the version of the format
abbrev pub version : ℕ
version = 1

-- what a header tells: the code, the share's number, and the file's length and checksum
pub record Header : Type 0 where
  pub shape : AloofShape
  pub share : ℕ
  pub size : ℕ
  pub checksum : ℕ

abbrev pub header_with : AloofShape → ℕ → ℕ → ℕ → Header
header_with shape share size checksum = record { shape = shape; share = share; size = size; checksum = checksum }

-- a code within the limits, one of its shares, a file of at most 2^56 bytes, and a checksum of 64 bits
pub record IsHeader (h : Header) : Type 0 where
  pub code : IsAloof h.shape
  pub numbered : h.share < all_chunks h.shape
  pub bounded : h.size ≤ 2 ^ 56
  pub fits : h.checksum < 2 ^ 64

-- the first 56 bytes
abbrev pub told_bytes : Header → List ℕ
told_bytes h =
    little_bytes 8 magic ++ (little_bytes 4 version ++ (little_bytes 4 h.shape.data_count ++ (little_bytes 4 h.shape.parity_count
    ++ (little_bytes 4 h.shape.helper_count ++ (little_bytes 4 h.shape.width ++ (little_bytes 4 h.share
    ++ (little_bytes 8 h.size ++ (little_bytes 8 (stripe_count h.shape h.size) ++ little_bytes 8 h.checksum))))))))

-- and their checksum
abbrev pub header_bytes : Header → List ℕ
header_bytes h = told_bytes h ++ little_bytes 8 (checksum_of (told_bytes h))

-- the header that the numbers in some bytes tell
abbrev pub header_in : List ℕ → Header
header_in bytes = record {
  shape = aloof_of (little_number 4 (drop 12 bytes)) (little_number 4 (drop 16 bytes)) (little_number 4 (drop 20 bytes)) (little_number 4 (drop 24 bytes));
  share = little_number 4 (drop 28 bytes);
  size = little_number 8 (drop 32 bytes);
  checksum = little_number 8 (drop 48 bytes);
}

-- the number of stripes in some bytes
abbrev pub stripes_in : List ℕ → ℕ
stripes_in bytes = little_number 8 (drop 40 bytes)

-- bytes that begin as a header of this version and end with the checksum of those before
pub record IsIntact (bytes : List ℕ) : Type 0 where
  pub magic_is : little_number 8 bytes ≡ magic
  pub version_is : little_number 4 (drop 8 bytes) ≡ version
  pub checksum_is : little_number 8 (drop 56 bytes) ≡ checksum_of (take 56 bytes)
