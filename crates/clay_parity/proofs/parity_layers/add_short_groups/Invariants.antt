use Rattle.std.proofs.Common.{ℕ, ◌*◌, ◌/◌, ◌%◌, ◌<◌, [], get_or}
use Rattle.clay_model.specs.Chunks.{contents}
use Rattle.clay_parity.specs.Blocks.{Appends, coupled_of}
use Rattle.clay_parity.specs.Solved.{layer_value}
use Rattle.clay_parity.proofs.parity_layers.add_short_groups.Given as goal

abbrev pub invariant-loop-number : goal.invariant-loop-number
invariant-loop-number l =
    (x : ℕ) → x < l.fn.g.parity_count → Appends (l.number * (l.fn.g.parity_count * l.fn.g.width))
    (λ o. coupled_of l.fn.g.parity_count (layer_value l.fn.g l.generator.each l.stripe) x (o / l.fn.g.width) (o % l.fn.g.width))
    (get_or (contents l.fn.chunks) x []) (get_or (contents l.chunks) x [])
