-- The pieces: the subchunks of the other chunks that are read.
use Rattle.std.specs.Prelude.{ℕ, Bool, not, ◌&&◌, ◌||◌, nat_eq, List, map, filter, flat_map}
use Rattle.std.specs.List.{range_with_len}
use Rattle.clay_grid.specs.Shape.{Shape, chunk_count, node_of_chunk}
use Rattle.clay_grid.specs.Repair.{all_layers}
use Rattle.lost_layers.specs.LostLayers.{is_wanted, partner_node, partner_layer, lost_node, is_solved, is_unknown}
use Rattle.lost_layers.specs.declared.run.LostRun.{LostRun}
use Rattle.lost_layers.specs.declared.run.LostPiece.{LostPiece}

-- node i's value in layer n is made of its subchunk there and that one's partner
abbrev pub is_made : Shape → LostRun → ℕ → ℕ → Bool
is_made g run i n = is_solved g run n && not (is_unknown g run n i)

-- node i's subchunk n is read: its node's value in its layer is made of it, or its partner's is, or its partner is wanted
abbrev pub is_piece : Shape → LostRun → ℕ → ℕ → Bool
is_piece g run i n =
    not (nat_eq i (lost_node g run))
    && (is_made g run i n || is_made g run (partner_node g i n) (partner_layer g i n)
    || (nat_eq (partner_node g i n) (lost_node g run) && is_wanted run (partner_layer g i n)))

-- the layers that are read of a chunk, rising
abbrev pub lost_layers_of : Shape → LostRun → ℕ → List ℕ
lost_layers_of g run chunk = filter (is_piece g run (node_of_chunk g chunk)) (all_layers g)

abbrev pub piece_at : ℕ → ℕ → LostPiece
piece_at chunk layer = record { chunk = chunk; layer = layer }

abbrev pub pieces_of_chunk : Shape → LostRun → ℕ → List LostPiece
pieces_of_chunk g run chunk = map (piece_at chunk) (lost_layers_of g run chunk)

-- the pieces: all that is read, chunk by chunk
abbrev pub lost_pieces_of : Shape → LostRun → List LostPiece
lost_pieces_of g run = flat_map (pieces_of_chunk g run) (range_with_len 0 (chunk_count g))
