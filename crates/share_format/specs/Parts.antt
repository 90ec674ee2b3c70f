-- The part of a helper's chunk, checked by the table in front of it.
use Rattle.std.specs.Prelude.{ℕ, ◌<◌, List, length, get_or}
use Rattle.clay_aloof.specs.Shape.{AloofShape}
use Rattle.share_format.specs.Blocks.{subchunk, HasChecksum}

-- each subchunk of the part has the checksum of its layer
abbrev pub IsIntactPart : AloofShape → List ℕ → List ℕ → List ℕ → Type 0
IsIntactPart a layers front part = (i : ℕ) → i < length layers → HasChecksum front (get_or layers i 0) (subchunk a part i)
