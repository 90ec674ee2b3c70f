-- Why 64 bytes are no header, in the order in which they are tried.
use Rattle.std.specs.Prelude.{◌≡◌, ◌≢◌, ℕ, ◌≤◌, ◌<◌, ◌^◌, List, take, drop}
use Rattle.byteorder.specs.Endian.{little_number}
use Rattle.crc64.specs.Remainder.{checksum_of}
use Rattle.clay_aloof.specs.Shape.{all_chunks}
use Rattle.clay_aloof.specs.Limits.{IsAloof, IsFirstFault as IsCodeFault}
use Rattle.share_format.specs.Cut.{stripe_count}
use Rattle.share_format.specs.Header.{magic, version, header_in, stripes_in, IsIntact}
use Rattle.share_format.specs.declared.format_fault.BadHeader.{BadHeader}
use Rattle.share_format.specs.declared.format_fault.BadHeader.TheVariants.{Magic, Version, Checksum, Code, Size, Stripes, Share}

-- the fault is the first that the bytes have
abbrev pub IsFirstFault : List ℕ → BadHeader → Type 0
IsFirstFault bytes Magic = little_number 8 bytes ≢ magic
IsFirstFault bytes Version = (little_number 8 bytes ≡ magic) × (little_number 4 (drop 8 bytes) ≢ version)
IsFirstFault bytes Checksum =
    (little_number 8 bytes ≡ magic) × (little_number 4 (drop 8 bytes) ≡ version) × (little_number 8 (drop 56 bytes) ≢ checksum_of (take 56 bytes))
IsFirstFault bytes (Code fault) = IsIntact bytes × IsCodeFault (header_in bytes).shape fault
IsFirstFault bytes Size = IsIntact bytes × IsAloof (header_in bytes).shape × (2 ^ 56 < (header_in bytes).size)
IsFirstFault bytes Stripes =
    IsIntact bytes × IsAloof (header_in bytes).shape × ((header_in bytes).size ≤ 2 ^ 56)
    × (stripes_in bytes ≢ stripe_count (header_in bytes).shape (header_in bytes).size)
IsFirstFault bytes Share =
    IsIntact bytes × IsAloof (header_in bytes).shape × ((header_in bytes).size ≤ 2 ^ 56)
    × (stripes_in bytes ≡ stripe_count (header_in bytes).shape (header_in bytes).size)
    × (all_chunks (header_in bytes).shape ≤ (header_in bytes).share)
