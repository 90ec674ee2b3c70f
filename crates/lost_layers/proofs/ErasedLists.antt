-- What is in the list of the pieces.
use Rattle.std.proofs.Common.{◌≡◌, ℕ, suc, subst, ◌+◌, ◌-◌, ◌*◌, ◌<◌, true, List, [], ◌∷◌, ◌++◌, length, get_or, take, drop, flat_map, All, sym, ap, ◌∙◌, inl, inr, arith, length-append}
use Rattle.std.specs.List.{range_with_len}
use Rattle.std.proofs.lemmas.Bool.{cases_lt}
use Rattle.std.proofs.lemmas.List.{get_or-map, length-map, get_or_append_left, get_or-append-add, get_or-take, get_or-drop}
use Rattle.std.proofs.lemmas.List.Concat.{get_or-flat_map}
use Rattle.std.proofs.lemmas.List.Folds.{length-flat_map-take}
use Rattle.std.proofs.lemmas.List.FromFn.{length-range_with_len, get_or-range_with_len}
use Rattle.clay_grid.specs.Shape.{chunk_count, layer_count, node_of_chunk}
use Rattle.clay_grid.proofs.Rising.{Lists-filter}
use Rattle.lost_layers.specs.LostPieces.{piece_at}
use Rattle.lost_layers.specs.declared.run.LostPiece.{LostPiece}
use Rattle.lost_layers.proofs.PieceLists.{StandsAt}
use Rattle.lost_layers.specs.Erased.{Erased}
use Rattle.lost_layers.specs.ErasedPieces.{is_piece, layers_read, pieces_of_chunk, pieces_of, HaveSame}

-- a subchunk that is read
pub record IsRead (e : Erased) (piece : LostPiece) : Type 0 where
  pub chunk : piece.chunk < chunk_count e.g
  pub layer : piece.layer < layer_count e.g
  pub read : is_piece e (node_of_chunk e.g piece.chunk) piece.layer ≡ true

flat_map_only : (P : LostPiece → Type 0) (f : ℕ → List LostPiece) (xs : List ℕ) (d : LostPiece) → ((i r : ℕ) → i < length xs → r < length (f (get_or xs i 0)) → P (get_or (f (get_or xs i 0)) r d))
    → (s : ℕ) → s < length (flat_map f xs) → P (get_or (flat_map f xs) s d)
flat_map_only P f [] d each s h = absurd (omega arith)
flat_map_only P f (x ∷ xs) d each s h =
    let whole : length (f x ++ flat_map f xs) ≡ length (f x) + length (flat_map f xs) = length-append (f x) (flat_map f xs) in
    elim (cases_lt s (length (f x))) [
      | inl early ↦ subst P (sym (get_or_append_left (f x) (flat_map f xs) d s early)) (each 0 s (omega arith) early)
      | inr late ↦
          let place : length (f x) + (s - length (f x)) ≡ s = omega arith in
          subst P (sym (get_or-append-add (f x) (flat_map f xs) (s - length (f x)) d) ∙ ap (λ v. get_or (f x ++ flat_map f xs) v d) place)
          (flat_map_only P f xs d (λ i r hi hr. each (suc i) r (omega arith) hr) (s - length (f x)) (omega (arith, whole)))
    ]

pub only_read : (e : Erased) (d : LostPiece) (p : ℕ) → p < length (pieces_of e) → IsRead e (get_or (pieces_of e) p d)
only_read e d p h =
    flat_map_only (IsRead e) (pieces_of_chunk e) (range_with_len 0 (chunk_count e.g)) d
    (λ i r hi hr.
    let within : i < chunk_count e.g = subst (λ v. i < v) (length-range_with_len 0 (chunk_count e.g)) hi in
    let first : get_or (range_with_len 0 (chunk_count e.g)) i 0 ≡ 0 + i = get_or-range_with_len 0 (chunk_count e.g) i 0 within in
    let none : 0 + i ≡ i = omega arith in
    one (get_or (range_with_len 0 (chunk_count e.g)) i 0) i r (first ∙ none) within hr)
    p h
  where
    one : (c i r : ℕ) → c ≡ i → i < chunk_count e.g → r < length (pieces_of_chunk e c) → IsRead e (get_or (pieces_of_chunk e c) r d)
    one c i r same within hr =
        let layers : List ℕ = layers_read e c in
        let inside : r < length layers = subst (λ v. r < v) (length-map layers (piece_at c)) hr in
        let found = (Lists-filter (is_piece e (node_of_chunk e.g c)) (layer_count e.g)).only r inside in
        subst (IsRead e) (sym (get_or-map (piece_at c) layers r 0 d inside)) (record {
          chunk = subst (λ v. v < chunk_count e.g) (sym same) within;
          layer = found.0;
          read = found.1;
        })

pub each_read : (e : Erased) (c n : ℕ) → c < chunk_count e.g → n < layer_count e.g → is_piece e (node_of_chunk e.g c) n ≡ true → (p : ℕ) × StandsAt (pieces_of e) p c n
each_read e c n hc hn read =
    let f : ℕ → List LostPiece = pieces_of_chunk e in
    let chunks : List ℕ = range_with_len 0 (chunk_count e.g) in
    let within : c < length chunks = subst (λ v. c < v) (sym (length-range_with_len 0 (chunk_count e.g))) hc in
    let first : get_or chunks c 0 ≡ 0 + c = get_or-range_with_len 0 (chunk_count e.g) c 0 hc in
    let none : 0 + c ≡ c = omega arith in
    let at : get_or chunks c 0 ≡ c = first ∙ none in
    let found = (Lists-filter (is_piece e (node_of_chunk e.g c)) (layer_count e.g)).each n (hn, read) in
    let j : ℕ = found.0 in
    let here : j < length (layers_read e c) = found.1 in
    let is : get_or (layers_read e c) j 0 ≡ n = found.2 in
    let mapped : j < length (f c) = subst (λ v. j < v) (sym (length-map (layers_read e c) (piece_at c))) here in
    let there : j < length (f (get_or chunks c 0)) = subst (λ v. j < length (f v)) (sym at) mapped in
    let room = length-flat_map-take f chunks c 0 within in (
      length (flat_map f (take c chunks)) + j,
      record {
        within = omega (arith, room, there);
        is =
            get_or-flat_map f chunks c j 0 (piece_at 0 0) within there
            ∙ ap (λ v. get_or (f v) j (piece_at 0 0)) at
            ∙ get_or-map (piece_at c) (layers_read e c) j 0 (piece_at 0 0) here
            ∙ ap (piece_at c) is;
      },
    )

-- a byte of a piece, in words that have the same bytes of each
pub same_byte : (e : Erased) (a b : List (List ℕ)) → All (HaveSame e.g a b) (pieces_of e) → (p c n v : ℕ) → StandsAt (pieces_of e) p c n → v < e.g.width
    → get_or (get_or a c []) (n * e.g.width + v) 0 ≡ get_or (get_or b c []) (n * e.g.width + v) 0
same_byte e a b each p c n v stands hv =
    let w : ℕ = e.g.width in
    let same : take w (drop (n * w) (get_or a c [])) ≡ take w (drop (n * w) (get_or b c [])) = subst (HaveSame e.g a b) stands.is (each p (piece_at 0 0) stands.within) in
    sym (get_or-take w (drop (n * w) (get_or a c [])) v 0 hv ∙ get_or-drop (n * w) (get_or a c []) v 0)
    ∙ ap (λ l. get_or l v 0) same
    ∙ get_or-take w (drop (n * w) (get_or b c [])) v 0 hv
    ∙ get_or-drop (n * w) (get_or b c []) v 0
