-- What is left of a caller's chunks.
use Rattle.std.proofs.Common.{◌≡◌, ◌≢◌, ℕ, ◌<◌, Bool, true, false, cond, eqb, List, map, get_or, Option, Some, None, is_none, refl, sym, subst, ap, ◌∙◌, arith}
use Rattle.std.specs.List.{range_with_len}
use Rattle.std.proofs.lemmas.Bool.{ne_eqb}
use Rattle.std.proofs.lemmas.List.{ext_get_or}
use Rattle.std.proofs.lemmas.List.FromFn.{length-map-range_with_len, get_or-map-range_with_len}
use Rattle.clay_grid.specs.Shape.{Shape, chunk_count, chunk_length}
use Rattle.clay_lanes.specs.Present.{chunks_left}
use Rattle.clay_c.specs.Pieces.{piece_at}
use Rattle.clay_c.specs.Calls.{left_of}

none_cond : (b : Bool) (l : List ℕ) → is_none (cond b None (Some l)) ≡ b
none_cond true l = refl
none_cond false l = refl

-- which chunks are gone of what is left
pub gone_left : (g : Shape) (present chunks : List ℕ) (c : ℕ) → c < chunk_count g → is_none (get_or (left_of g present chunks) c None) ≡ eqb (get_or present c 0) 0
gone_left g present chunks c h =
    let f : ℕ → Option (List ℕ) = λ k. cond (eqb (get_or present k 0) 0) None (Some (piece_at (chunk_length g) chunks k)) in
    ap is_none (get_or-map-range_with_len f 0 (chunk_count g) c c None h (omega arith)) ∙ none_cond (eqb (get_or present c 0) 0) (piece_at (chunk_length g) chunks c)

-- the same by other marks
pub same_left : (g : Shape) (present : List ℕ) (missing : List Bool) (chunks : List ℕ) → ((c : ℕ) → c < chunk_count g → get_or missing c false ≡ eqb (get_or present c 0) 0)
    → chunks_left g missing chunks ≡ left_of g present chunks
same_left g present missing chunks same =
    let n : ℕ = chunk_count g in
    let f : ℕ → Option (List ℕ) = λ k. cond (get_or missing k false) None (Some (piece_at (chunk_length g) chunks k)) in
    let h : ℕ → Option (List ℕ) = λ k. cond (eqb (get_or present k 0) 0) None (Some (piece_at (chunk_length g) chunks k)) in
    ext_get_or None (map f (range_with_len 0 n)) (map h (range_with_len 0 n)) (length-map-range_with_len f 0 n ∙ sym (length-map-range_with_len h 0 n)) (λ c within.
    let below : c < n = subst (λ m. c < m) (length-map-range_with_len f 0 n) within in
    get_or-map-range_with_len f 0 n c c None below (omega arith)
    ∙ ap (λ b. cond b None (Some (piece_at (chunk_length g) chunks c))) (same c below)
    ∙ sym (get_or-map-range_with_len h 0 n c c None below (omega arith)))

-- what is left of the chunks
pub left_at : (g : Shape) (present chunks : List ℕ) (c : ℕ) → c < chunk_count g → get_or present c 0 ≢ 0 → get_or (left_of g present chunks) c None ≡ Some (piece_at (chunk_length g) chunks c)
left_at g present chunks c h there =
    let f : ℕ → Option (List ℕ) = λ k. cond (eqb (get_or present k 0) 0) None (Some (piece_at (chunk_length g) chunks k)) in
    get_or-map-range_with_len f 0 (chunk_count g) c c None h (omega arith)
    ∙ ap (λ b. cond b None (Some (piece_at (chunk_length g) chunks c))) (ne_eqb (get_or present c 0) 0 there)
