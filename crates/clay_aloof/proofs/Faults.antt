-- A shape is within the limits or has a first fault.
use Rattle.std.proofs.Common.{◌⊎◌, inl, inr, arith}
use Rattle.std.proofs.lemmas.Bool.{cases_lt}
use Rattle.clay_grid.specs.Shape.{layer_count, chunk_length}
use Rattle.clay_aloof.specs.Shape.{AloofShape, all_chunks, grid_of}
use Rattle.clay_aloof.specs.Limits.{IsWithinLimits, HasCounts, IsFirstFault}
use Rattle.clay_aloof.specs.declared.aloof_fault.BadAloof.{BadAloof}
use Rattle.clay_aloof.specs.declared.aloof_fault.BadAloof.TheVariants.{DataCount, ParityCount, Helpers, Layers, Width, ChunkSize}

-- the limits past the counts
counted : (a : AloofShape) → HasCounts a → IsWithinLimits a ⊎ ((f : BadAloof) × IsFirstFault a f)
counted a counts =
    elim (cases_lt 1024 (layer_count (grid_of a))) [
      | inl many ↦ inr (Layers, (counts, many))
      | inr layers ↦ elim (cases_lt a.width 1) [
        | inl none ↦ inr (Width, (counts, layers, inl none))
        | inr some ↦ elim (cases_lt 65536 a.width) [
          | inl wide ↦ inr (Width, (counts, layers, inr wide))
          | inr narrow ↦ elim (cases_lt 1048576 (chunk_length (grid_of a))) [
            | inl long ↦ inr (ChunkSize, (counts, layers, some, narrow, long))
            | inr short ↦ inl (record { data_chunks = counts.0; parity_chunks = (counts.1, counts.2); helpers = (counts.3, counts.4); layers = layers; width = (some, narrow); chunk = short })
          ]
        ]
      ]
    ]

pub within_or_fault : (a : AloofShape) → IsWithinLimits a ⊎ ((f : BadAloof) × IsFirstFault a f)
within_or_fault a =
    elim (cases_lt a.data_count 2) [
      | inl few ↦ inr (DataCount, few)
      | inr two ↦ elim (cases_lt a.parity_count 2) [
        | inl few_rows ↦ inr (ParityCount, (two, inl few_rows))
        | inr rows ↦ elim (cases_lt 8 a.parity_count) [
          | inl many_rows ↦ inr (ParityCount, (two, inr many_rows))
          | inr eight ↦ elim (cases_lt a.data_count a.helper_count) [
            | inl some ↦ elim (cases_lt a.helper_count (all_chunks a)) [
              | inl fit ↦ counted a (two, rows, eight, some, fit)
              | inr all ↦ inr (Helpers, (two, rows, eight, inr all))
            ]
            | inr few_helpers ↦ inr (Helpers, (two, rows, eight, inl few_helpers))
          ]
        ]
      ]
    ]

pub fault_outside : (a : AloofShape) (f : BadAloof) → IsFirstFault a f → ¬ IsWithinLimits a
fault_outside a DataCount h = λ l. omega (arith, h, l.data_chunks)
fault_outside a ParityCount h = λ l. elim h.1 [ inl few ↦ omega (arith, few, l.parity_chunks.0) | inr many ↦ omega (arith, many, l.parity_chunks.1) ]
fault_outside a Helpers h = λ l. elim h.3 [ inl few ↦ omega (arith, few, l.helpers.0) | inr many ↦ omega (arith, many, l.helpers.1) ]
fault_outside a Layers h = λ l. omega (arith, h.1, l.layers)
fault_outside a Width h = λ l. elim h.2 [ inl none ↦ omega (arith, none, l.width.0) | inr wide ↦ omega (arith, wide, l.width.1) ]
fault_outside a ChunkSize h = λ l. omega (arith, h.4, l.chunk)
