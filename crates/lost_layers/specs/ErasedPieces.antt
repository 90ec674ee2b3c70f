-- The pieces: the subchunks of chunks that are there which are read for a run of a lost chunk's layers.
use Rattle.std.specs.Prelude.{◌≡◌, ℕ, ◌*◌, Bool, not, ◌&&◌, ◌||◌, nat_eq, List, [], map, filter, flat_map, All, get_or, take, drop}
use Rattle.std.specs.List.{range_with_len}
use Rattle.clay_grid.specs.Shape.{Shape, chunk_count, node_of_chunk}
use Rattle.clay_grid.specs.Repair.{all_layers}
use Rattle.clay_model.specs.Code.{IsCodeword}
use Rattle.lost_layers.specs.LostLayers.{is_wanted, partner_node, partner_layer, lost_node}
use Rattle.lost_layers.specs.LostPieces.{piece_at}
use Rattle.lost_layers.specs.Determined.{bytes_of_run}
use Rattle.lost_layers.specs.declared.run.LostPiece.{LostPiece}
use Rattle.lost_layers.specs.Erased.{Erased, is_missing, is_unknown}
use Rattle.lost_layers.specs.ErasedLayers.{is_solved}

-- node i's value in layer n isn't unknown, and is used
abbrev pub is_used : Erased → ℕ → ℕ → Bool
is_used e i n = not (is_unknown e i) && is_solved e n

-- node i's subchunk n is read: its node isn't unknown, and its value or its partner's is used; or its chunk is there, and its partner is wanted
abbrev pub is_piece : Erased → ℕ → ℕ → Bool
is_piece e i n =
    (not (is_unknown e i) && (is_used e i n || is_used e (partner_node e.g i n) (partner_layer e.g i n)))
    || (not (is_missing e i) && nat_eq (partner_node e.g i n) (lost_node e.g e.run) && is_wanted e.run (partner_layer e.g i n))

-- the layers that are read of a chunk, rising
abbrev pub layers_read : Erased → ℕ → List ℕ
layers_read e chunk = filter (is_piece e (node_of_chunk e.g chunk)) (all_layers e.g)

abbrev pub pieces_of_chunk : Erased → ℕ → List LostPiece
pieces_of_chunk e chunk = map (piece_at chunk) (layers_read e chunk)

-- all that is read, chunk by chunk
abbrev pub pieces_of : Erased → List LostPiece
pieces_of e = flat_map (pieces_of_chunk e) (range_with_len 0 (chunk_count e.g))

-- two words have the same bytes of a subchunk
abbrev pub HaveSame : Shape → List (List ℕ) → List (List ℕ) → LostPiece → Type 0
HaveSame g a b piece =
    take g.width (drop (piece.layer * g.width) (get_or a piece.chunk [])) ≡ take g.width (drop (piece.layer * g.width) (get_or b piece.chunk []))

-- two codewords with the same bytes of each piece have the same bytes of the run
abbrev pub PiecesDetermine : Erased → Type 0
PiecesDetermine e =
    (a b : List (List ℕ)) → IsCodeword e.g a → IsCodeword e.g b → All (HaveSame e.g a b) (pieces_of e) → bytes_of_run e.g a e.run ≡ bytes_of_run e.g b e.run
