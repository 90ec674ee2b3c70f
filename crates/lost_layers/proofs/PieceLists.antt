-- The list of the pieces, and a word's bytes of them.
use Rattle.std.proofs.Common.{◌≡◌, ℕ, subst, ◌+◌, ◌-◌, ◌*◌, ◌<◌, ◌≤◌, true, false, not, ◌&&◌, nat_lt, List, [], ◌∷◌, ◌++◌, length, get_or, take, drop, map, flat_map, sym, ap, ◌∙◌, inl, inr, arith, length-append, length-drop, zero, suc}
use Rattle.std.specs.List.{range_with_len}
use Rattle.std.proofs.lemmas.Bool.{cases_lt, lt-ltb, le-ltb, cond-true, cond-false, true≢false}
use Rattle.std.proofs.lemmas.List.{get_or-map, length-map, get_or_append_left, get_or-append-add, get_or-take, get_or-drop, length-take-le}
use Rattle.std.proofs.lemmas.List.Concat.{get_or-flat_map}
use Rattle.std.proofs.lemmas.List.Folds.{length-flat_map-take}
use Rattle.std.proofs.lemmas.List.FromFn.{length-range_with_len, get_or-range_with_len}
use Rattle.clay_grid.specs.Shape.{Shape, chunk_count, node_count, virtual_count, layer_count, node_of_chunk}
use Rattle.clay_grid.specs.Limits.{IsGeometry}
use Rattle.clay_grid.proofs.Rising.{Lists-filter}
use Rattle.clay_model.specs.Code.{IsCodeword, is_virtual, chunk_of_node}
use Rattle.code_laws.proofs.Pieces.{piece_fits}
use Rattle.lost_layers.specs.LostPieces.{is_piece, piece_at, lost_layers_of, lost_pieces_of}
use Rattle.lost_layers.specs.Determined.{bytes_of_pieces}
use Rattle.lost_layers.specs.declared.run.LostRun.{LostRun}
use Rattle.lost_layers.specs.declared.run.LostPiece.{LostPiece}

-- ---- what is in the list

-- a list has an element at a place
pub record StandsAt (pieces : List LostPiece) (p c n : ℕ) : Type 0 where
  pub within : p < length pieces
  pub is : get_or pieces p (piece_at 0 0) ≡ piece_at c n

-- a subchunk that is read
pub record IsRead (g : Shape) (run : LostRun) (piece : LostPiece) : Type 0 where
  pub chunk : piece.chunk < chunk_count g
  pub layer : piece.layer < layer_count g
  pub read : is_piece g run (node_of_chunk g piece.chunk) piece.layer ≡ true

flat_map_only : (P : LostPiece → Type 0) (f : ℕ → List LostPiece) (xs : List ℕ) (d : LostPiece) → ((i r : ℕ) → i < length xs → r < length (f (get_or xs i 0)) → P (get_or (f (get_or xs i 0)) r d))
    → (s : ℕ) → s < length (flat_map f xs) → P (get_or (flat_map f xs) s d)
flat_map_only P f [] d each s h = absurd (omega arith)
flat_map_only P f (x ∷ xs) d each s h =
    let whole : length (f x ++ flat_map f xs) ≡ length (f x) + length (flat_map f xs) = length-append (f x) (flat_map f xs) in
    elim (cases_lt s (length (f x))) [
      | inl early ↦ subst P (sym (get_or_append_left (f x) (flat_map f xs) d s early)) (each 0 s (omega arith) early)
      | inr late ↦
          let place : length (f x) + (s - length (f x)) ≡ s = omega arith in
          subst P (sym (get_or-append-add (f x) (flat_map f xs) (s - length (f x)) d) ∙ ap (λ v. get_or (f x ++ flat_map f xs) v d) place)
          (flat_map_only P f xs d (λ i r hi hr. each (suc i) r (omega arith) hr) (s - length (f x)) (omega (arith, whole)))
    ]

pub only_read : (g : Shape) (run : LostRun) (p : ℕ) → p < length (lost_pieces_of g run) → IsRead g run (get_or (lost_pieces_of g run) p (piece_at 0 0))
only_read g run p h =
    flat_map_only (IsRead g run) (λ c. map (piece_at c) (lost_layers_of g run c)) (range_with_len 0 (chunk_count g)) (piece_at 0 0)
    (λ i r hi hr.
    let within : i < chunk_count g = subst (λ v. i < v) (length-range_with_len 0 (chunk_count g)) hi in
    let first : get_or (range_with_len 0 (chunk_count g)) i 0 ≡ 0 + i = get_or-range_with_len 0 (chunk_count g) i 0 within in
    let none : 0 + i ≡ i = omega arith in
    one (get_or (range_with_len 0 (chunk_count g)) i 0) i r (first ∙ none) within hr)
    p h
  where
    one : (c i r : ℕ) → c ≡ i → i < chunk_count g → r < length (map (piece_at c) (lost_layers_of g run c)) → IsRead g run (get_or (map (piece_at c) (lost_layers_of g run c)) r (piece_at 0 0))
    one c i r same within hr =
        let layers : List ℕ = lost_layers_of g run c in
        let inside : r < length layers = subst (λ v. r < v) (length-map layers (piece_at c)) hr in
        let found = (Lists-filter (is_piece g run (node_of_chunk g c)) (layer_count g)).only r inside in
        subst (IsRead g run) (sym (get_or-map (piece_at c) layers r 0 (piece_at 0 0) inside)) (record {
          chunk = subst (λ v. v < chunk_count g) (sym same) within;
          layer = found.0;
          read = found.1;
        })

pub each_read : (g : Shape) (run : LostRun) (c n : ℕ) → c < chunk_count g → n < layer_count g → is_piece g run (node_of_chunk g c) n ≡ true → (p : ℕ) × StandsAt (lost_pieces_of g run) p c n
each_read g run c n hc hn read =
    let f : ℕ → List LostPiece = λ c. map (piece_at c) (lost_layers_of g run c) in
    let chunks : List ℕ = range_with_len 0 (chunk_count g) in
    let within : c < length chunks = subst (λ v. c < v) (sym (length-range_with_len 0 (chunk_count g))) hc in
    let first : get_or chunks c 0 ≡ 0 + c = get_or-range_with_len 0 (chunk_count g) c 0 hc in
    let none : 0 + c ≡ c = omega arith in
    let at : get_or chunks c 0 ≡ c = first ∙ none in
    let found = (Lists-filter (is_piece g run (node_of_chunk g c)) (layer_count g)).each n (hn, read) in
    let j : ℕ = found.0 in
    let here : j < length (lost_layers_of g run c) = found.1 in
    let is : get_or (lost_layers_of g run c) j 0 ≡ n = found.2 in
    let mapped : j < length (f c) = subst (λ v. j < v) (sym (length-map (lost_layers_of g run c) (piece_at c))) here in
    let there : j < length (f (get_or chunks c 0)) = subst (λ v. j < length (f v)) (sym at) mapped in
    let room = length-flat_map-take f chunks c 0 within in (
      length (flat_map f (take c chunks)) + j,
      record {
        within = omega (arith, room, there);
        is =
            get_or-flat_map f chunks c j 0 (piece_at 0 0) within there
            ∙ ap (λ v. get_or (f v) j (piece_at 0 0)) at
            ∙ get_or-map (piece_at c) (lost_layers_of g run c) j 0 (piece_at 0 0) here
            ∙ ap (piece_at c) is;
      },
    )

-- ---- the bytes of the pieces

flat_map_at : (w : ℕ) (f : LostPiece → List ℕ) (ps : List LostPiece) (r b : ℕ) (d : LostPiece) → ((i : ℕ) → i < length ps → length (f (get_or ps i d)) ≡ w) → r < length ps → b < w
    → get_or (flat_map f ps) (r * w + b) 0 ≡ get_or (f (get_or ps r d)) b 0
flat_map_at w f [] r b d fit hr hb = absurd (omega arith)
flat_map_at w f (p ∷ ps) zero b d fit hr hb =
    let long : length (f p) ≡ w = fit 0 hr in
    let place : 0 * w + b ≡ b = omega arith in
    ap (λ v. get_or (f p ++ flat_map f ps) v 0) place
    ∙ get_or_append_left (f p) (flat_map f ps) 0 b (omega arith)
flat_map_at w f (p ∷ ps) (suc r) b d fit hr hb =
    let long : length (f p) ≡ w = fit 0 (omega arith) in
    let place : suc r * w + b ≡ length (f p) + (r * w + b) = omega arith in
    ap (λ v. get_or (f p ++ flat_map f ps) v 0) place
    ∙ get_or-append-add (f p) (flat_map f ps) (r * w + b) 0
    ∙ flat_map_at w f ps r b d (λ i h. fit (suc i) (omega arith)) (omega arith) hb

pub piece_byte : (g : Shape) (run : LostRun) (word : List (List ℕ)) → IsCodeword g word → (p c n b : ℕ) → StandsAt (lost_pieces_of g run) p c n → b < g.width
    → get_or (bytes_of_pieces g word (lost_pieces_of g run)) (p * g.width + b) 0 ≡ get_or (get_or word c []) (n * g.width + b) 0
piece_byte g run word w p c n b stands hb =
    let f : LostPiece → List ℕ = λ p. take g.width (drop (p.layer * g.width) (get_or word p.chunk [])) in
    flat_map_at g.width f (lost_pieces_of g run) p b (piece_at 0 0) (λ i h. long (get_or (lost_pieces_of g run) i (piece_at 0 0)) (only_read g run i h)) stands.within hb
    ∙ ap (λ q. get_or (f q) b 0) stands.is
    ∙ get_or-take g.width (drop (n * g.width) (get_or word c [])) b 0 hb
    ∙ get_or-drop (n * g.width) (get_or word c []) b 0
  where
    long : (q : LostPiece) → IsRead g run q → length (take g.width (drop (q.layer * g.width) (get_or word q.chunk []))) ≡ g.width
    long q read =
        let chunk : List ℕ = get_or word q.chunk [] in
        let whole : length chunk ≡ layer_count g * g.width = w.lengths q.chunk read.chunk in
        let room : q.layer * g.width + g.width ≤ layer_count g * g.width = piece_fits q.layer (layer_count g) g.width read.layer in
        let rest : length (drop (q.layer * g.width) chunk) ≡ length chunk - q.layer * g.width = length-drop (q.layer * g.width) chunk in
        length-take-le g.width (drop (q.layer * g.width) chunk) (omega (arith, whole, room, rest))

-- ---- the chunk of a node

pub record HasChunk (g : Shape) (i : ℕ) : Type 0 where
  pub within : chunk_of_node g i < chunk_count g
  pub back : node_of_chunk g (chunk_of_node g i) ≡ i

pub chunk_of_real : (g : Shape) (i : ℕ) → IsGeometry g → i < node_count g → is_virtual g i ≡ false → HasChunk g i
chunk_of_real g i geometry inside real =
    let few = geometry.chunks in
    elim (cases_lt i g.data_count) [
      | inl early ↦
          let chunk : chunk_of_node g i ≡ i = cond-true (nat_lt i g.data_count) i (i - virtual_count g) (lt-ltb i g.data_count early) in
          record {
            within = omega (arith, chunk, early);
            back = ap (node_of_chunk g) chunk ∙ cond-true (nat_lt i g.data_count) i (i + virtual_count g) (lt-ltb i g.data_count early);
          }
      | inr late ↦ elim (cases_lt i (g.data_count + virtual_count g)) [
        | inl hole ↦
            let gone : is_virtual g i ≡ true = λ k. not (le-ltb i g.data_count late k) && lt-ltb i (g.data_count + virtual_count g) hole k in
            absurd (true≢false (sym gone ∙ real))
        | inr past ↦
            let chunk : chunk_of_node g i ≡ i - virtual_count g = cond-false (nat_lt i g.data_count) i (i - virtual_count g) (le-ltb i g.data_count late) in
            let c : ℕ = i - virtual_count g in
            let parity : g.data_count ≤ c = omega arith in
            let whole : c + virtual_count g ≡ i = omega arith in
            let nodes : virtual_count g + chunk_count g ≡ node_count g = omega (arith, few) in
            record {
              within = subst (λ v. v < chunk_count g) (sym chunk) (omega (arith, inside, nodes, whole));
              back = ap (node_of_chunk g) chunk ∙ cond-false (nat_lt c g.data_count) c (c + virtual_count g) (le-ltb c g.data_count parity) ∙ whole;
            }
      ]
    ]
