-- Which layers are solved for a run of a lost chunk's layers, while other chunks are missing too.
use Rattle.std.specs.Prelude.{ℕ, ◌+◌, ◌-◌, Bool, not, ◌&&◌, ◌||◌, nat_eq, get_or}
use Rattle.clay_grid.specs.Shape.{column_count}
use Rattle.clay_grid.specs.Layers.{layer_of}
use Rattle.clay_grid.specs.Score.{count_below}
use Rattle.lost_layers.specs.LostLayers.{unpaired_node, partner_node, partner_layer, lost_node}
use Rattle.lost_layers.specs.Erased.{Erased, is_missing, is_unknown}

-- digit y of layer n serves layer z: it is z's digit; or of the two nodes that they name, z's alone is unknown
abbrev pub digit_serves : Erased → ℕ → ℕ → ℕ → Bool
digit_serves e z n y =
    nat_eq (get_or (layer_of e.g n) y 0) (get_or (layer_of e.g z) y 0)
    || (is_unknown e (unpaired_node e.g y z) && not (is_unknown e (unpaired_node e.g y n)))

-- layer n serves layer z: each of its digits does
abbrev pub serves : Erased → ℕ → ℕ → Bool
serves e z n = nat_eq (count_below (column_count e.g) (λ y. not (digit_serves e z n y))) 0

-- the node of the lost subchunk z's partner
abbrev pub mate : Erased → ℕ → ℕ
mate e z = partner_node e.g (lost_node e.g e.run) z

-- a wanted subchunk z takes its own value, but where its partner's value and its partner's subchunk tell it
abbrev pub takes_own : Erased → ℕ → Bool
takes_own e z = is_missing e (mate e z) || not (is_unknown e (mate e z))

-- layer n is solved for the wanted subchunk z: it serves its layer, or its partner's where that one's value is unknown
abbrev pub is_solved_for : Erased → ℕ → ℕ → Bool
is_solved_for e z n =
    (takes_own e z && serves e z n) || (is_unknown e (mate e z) && serves e (partner_layer e.g (lost_node e.g e.run) z) n)

-- the uncoupled values of layer n are solved for: for one of the run's layers
abbrev pub is_solved : Erased → ℕ → Bool
is_solved e n = not (nat_eq (count_below (e.run.to - e.run.from) (λ d. is_solved_for e (e.run.from + d) n)) 0)
