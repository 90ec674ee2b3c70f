-- A worked codeword of two data chunks, three parity chunks and three helpers, with a virtual node, and a repair's parts.
use Rattle.std.specs.Prelude.{ℕ, List, [], ◌∷◌, map}
use Rattle.clay_model.specs.RepairParts.{subchunks_at}
use Rattle.clay_aloof.specs.Shape.{AloofShape}
use Rattle.clay_aloof.specs.Repair.{aloof_layers_of}

abbrev pub three_helpers : AloofShape
three_helpers = record { data_count = 2; parity_count = 3; helper_count = 3; width = 1 }

abbrev pub worked_stripe : List ℕ
worked_stripe = 0x01 ∷ 0 ∷ 0 ∷ 0 ∷ 0x53 ∷ 0 ∷ 0 ∷ 0 ∷ 0xa7 ∷ 0 ∷ 0 ∷ 0 ∷ 0 ∷ 0 ∷ 0 ∷ 0 ∷ []

abbrev pub worked_chunks : List (List ℕ)
worked_chunks =
    (0x01 ∷ 0 ∷ 0 ∷ 0 ∷ 0x53 ∷ 0 ∷ 0 ∷ 0 ∷ [])
    ∷ (0xa7 ∷ 0 ∷ 0 ∷ 0 ∷ 0 ∷ 0 ∷ 0 ∷ 0 ∷ [])
    ∷ (0 ∷ 0 ∷ 0 ∷ 0 ∷ 0 ∷ 0 ∷ 0 ∷ 0 ∷ [])
    ∷ (0x01 ∷ 0x53 ∷ 0 ∷ 0 ∷ 0 ∷ 0 ∷ 0 ∷ 0 ∷ [])
    ∷ (0xa7 ∷ 0 ∷ 0 ∷ 0 ∷ 0 ∷ 0 ∷ 0 ∷ 0 ∷ [])
    ∷ []

-- of each chunk what a repair of chunk 0 reads
abbrev pub worked_parts : List (List ℕ)
worked_parts = map (λ chunk. subchunks_at 1 chunk (aloof_layers_of three_helpers 0)) worked_chunks
