-- The steps of the loops that list and count pieces.
use Rattle.std.proofs.Common.{◌≡◌, ◌≢◌, ℕ, suc, ◌+◌, ◌<◌, Bool, true, false, cond, not, ◌&&◌, ◌||◌, eqb, List, [], ◌∷◌, ◌++◌, length, map, filter, flat_map, sym, ap, ◌∙◌, arith, append_assoc, length-append}
use Rattle.std.specs.List.{range_with_len}
use Rattle.std.proofs.lemmas.Bool.{ne_eqb}
use Rattle.std.proofs.lemmas.List.{map_push, append-nil, flat_map_more}
use Rattle.clay_grid.specs.Shape.{Shape, row_count, column_count, layer_count, node_of_chunk}
use Rattle.clay_grid.specs.Layers.{index_of}
use Rattle.clay_grid.specs.Score.{count_below}
use Rattle.clay_grid.proofs.LayerLaws.{index_of-digits_of}
use Rattle.clay_grid.proofs.Rising.{filter_more, range_with_len_more, length-filter_range}
use Rattle.clay_model.specs.Partners.{ArePartners}
use Rattle.lost_layers.specs.LostLayers.{is_wanted, lost_node, partner_node, partner_layer}
use Rattle.lost_layers.specs.LostPieces.{is_made, is_piece, piece_at, lost_layers_of}
use Rattle.lost_layers.specs.declared.run.LostRun.{LostRun}
use Rattle.lost_layers.specs.declared.run.LostPiece.{LostPiece}

-- ---- the pieces of a chunk

pub piece_pushed : (test : ℕ → Bool) (c n : ℕ) (base before after : List LostPiece) → after ≡ before ++ piece_at c n ∷ [] → before ≡ base ++ map (piece_at c) (filter test (range_with_len 0 n)) → test n ≡ true
    → after ≡ base ++ map (piece_at c) (filter test (range_with_len 0 (n + 1)))
piece_pushed test c n base before after pushed kept passed =
    let front : List ℕ = filter test (range_with_len 0 n) in
    pushed
    ∙ ap (λ l. l ++ piece_at c n ∷ []) kept
    ∙ append_assoc base (map (piece_at c) front) (piece_at c n ∷ [])
    ∙ ap (λ l. base ++ l) (sym (map_push (piece_at c) front n))
    ∙ ap (λ b. base ++ map (piece_at c) (front ++ cond b (n ∷ []) [])) (sym passed)
    ∙ ap (λ l. base ++ map (piece_at c) l) (sym (filter_more test n))

pub piece_skipped : (test : ℕ → Bool) (c n : ℕ) (base before : List LostPiece) → before ≡ base ++ map (piece_at c) (filter test (range_with_len 0 n)) → test n ≡ false
    → before ≡ base ++ map (piece_at c) (filter test (range_with_len 0 (n + 1)))
piece_skipped test c n base before kept failed =
    let front : List ℕ = filter test (range_with_len 0 n) in
    kept
    ∙ ap (λ l. base ++ map (piece_at c) l) (sym (append-nil front))
    ∙ ap (λ b. base ++ map (piece_at c) (front ++ cond b (n ∷ []) [])) (sym failed)
    ∙ ap (λ l. base ++ map (piece_at c) l) (sym (filter_more test n))

-- ---- the pieces of all chunks

pub chunk_more : (f : ℕ → List LostPiece) (n : ℕ) → flat_map f (range_with_len 0 (n + 1)) ≡ flat_map f (range_with_len 0 n) ++ f n
chunk_more f n =
    let last : 0 + n ≡ n = omega arith in
    ap (flat_map f) (range_with_len_more 0 n ∙ ap (λ v. range_with_len 0 n ++ v ∷ []) last) ∙ sym (flat_map_more f [] (range_with_len 0 n) n)

pub length-chunk_more : (f : ℕ → List LostPiece) (n : ℕ) → length (flat_map f (range_with_len 0 (n + 1))) ≡ length (flat_map f (range_with_len 0 n)) + length (f n)
length-chunk_more f n = ap length (chunk_more f n) ∙ length-append (flat_map f (range_with_len 0 n)) (f n)

pub length-lost_layers : (g : Shape) (run : LostRun) (c node : ℕ) → node ≡ node_of_chunk g c → length (lost_layers_of g run c) ≡ count_below (layer_count g) (is_piece g run node)
length-lost_layers g run c node same =
    length-filter_range (is_piece g run (node_of_chunk g c)) (layer_count g) ∙ ap (λ v. count_below (layer_count g) (is_piece g run v)) (sym same)

pub counted_step : (test : ℕ → Bool) (n count one : ℕ) → count ≡ count_below n test → one ≡ cond (test n) 1 0 → count + one ≡ count_below (n + 1) test
counted_step test n count one before last =
    let more : suc n ≡ n + 1 = omega arith in
    (λ k. before k + last k) ∙ ap (λ v. count_below v test) more

-- a node that isn't the lost one, and whose value isn't made of its own subchunk
pub partner_serves : (g : Shape) (run : LostRun) (i n j p : ℕ) (result : Bool) → i ≢ lost_node g run → is_made g run i n ≡ false → j ≡ partner_node g i n → p ≡ partner_layer g i n
    → result ≡ (is_made g run j p || (eqb j (lost_node g run) && is_wanted run p)) → result ≡ is_piece g run i n
partner_serves g run i n j p result other unmade node_is layer_is serves =
    serves
    ∙ (λ k. is_made g run (node_is k) (layer_is k) || (eqb (node_is k) (lost_node g run) && is_wanted run (layer_is k)))
    ∙ sym (λ k. not (ne_eqb i (lost_node g run) other k)
    && (unmade k || is_made g run (partner_node g i n) (partner_layer g i n) || (eqb (partner_node g i n) (lost_node g run) && is_wanted run (partner_layer g i n))))

-- ---- the partner's layer by its number

pub partner_layer_is : (g : Shape) (i n other p : ℕ) → ArePartners g i n other p → p < layer_count g → p ≡ partner_layer g i n
partner_layer_is g i n other p pair below =
    sym (index_of-digits_of (row_count g) (column_count g) p pair.rows below) ∙ ap (index_of (row_count g)) pair.layer_is
