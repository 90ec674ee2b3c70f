-- Pieces that are cut from bytes, one behind another.
use Rattle.std.proofs.Common.{◌≡◌, ℕ, ◌+◌, ◌-◌, ◌*◌, ◌<◌, ◌≤◌, List, [], ◌∷◌, ◌++◌, Bor, map, length, sym, subst, ◌∙◌, arith}
use Rattle.std.proofs.lemmas.List.{map_push}
use Rattle.std.proofs.lemmas.List.Edits.{length-between}
use Rattle.std.proofs.lemmas.List.FromFn.{length-map-range_with_len, get_or-map-range_with_len, map-range_with_len_more}
use Rattle.code_laws.proofs.Pieces.{piece_fits}
use Rattle.clay_grid.specs.Shape.{Shape}
use Rattle.lost_layers.specs.LostLayers.{IsLostRun}
use Rattle.lost_layers.specs.declared.run.LostRun.{LostRun}
use Rattle.lost_read.specs.Read.{AreLong, IsReadable}
use Rattle.clay_c.specs.Pieces.{piece_at}
use Rattle.clay_c.specs.Lost.{piece_count, pieces_cut, LostBytesFit}

-- one more piece
pub cut_more : (len : ℕ) (bytes : List ℕ) (place : ℕ) (pieces : List (Bor (List ℕ))) (piece : Bor (List ℕ)) → map (λ (p : Bor (List ℕ)). p.now) pieces ≡ pieces_cut len bytes place
    → piece.now ≡ piece_at len bytes place → map (λ (p : Bor (List ℕ)). p.now) (pieces ++ piece ∷ []) ≡ pieces_cut len bytes (place + 1)
cut_more len bytes place pieces piece before is =
    map_push (λ (p : Bor (List ℕ)). p.now) pieces piece ∙ (λ i. before i ++ is i ∷ []) ∙ sym (map-range_with_len_more (piece_at len bytes) 0 place place (omega arith))

pub cut_long : (len : ℕ) (bytes : List ℕ) (count : ℕ) → count * len ≤ length bytes → AreLong len (pieces_cut len bytes count)
cut_long len bytes count room = λ c d h.
    let below : c < count = subst (λ n. c < n) (length-map-range_with_len (piece_at len bytes) 0 count) h in
    let fits = piece_fits c count len below in
    let whole : c * len + len - c * len ≡ len = omega arith in
    subst (λ (l : List ℕ). length l ≡ len) (sym (get_or-map-range_with_len (piece_at len bytes) 0 count c c d below (omega arith)))
    (length-between bytes (c * len) (c * len + len) (omega (arith, fits, room)) ∙ whole)

-- as many bytes as a run's pieces have, and room for its subchunks
pub cut_readable : (g : Shape) (run : LostRun) (pieces subchunks : List ℕ) → IsLostRun g run → LostBytesFit g run pieces subchunks
    → IsReadable g run (pieces_cut g.width pieces (piece_count g run)) (length subchunks)
cut_readable g run pieces subchunks fits lengths =
    let count : ℕ = piece_count g run in
    let size : length pieces ≡ count * g.width = lengths.0 in
    record {
      fits = fits;
      are_pieces = record {
        count = length-map-range_with_len (piece_at g.width pieces) 0 count;
        lengths = cut_long g.width pieces count (omega (arith, size));
      };
      room_is = lengths.1;
    }
