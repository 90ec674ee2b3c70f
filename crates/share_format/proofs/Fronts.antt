-- What stands in front of a chunk: an entry for each layer, and zeros behind them.
use Rattle.std.proofs.Common.{◌≡◌, inl, inr, ℕ, zero, suc, ◌+◌, ◌-◌, ◌*◌, ◌<◌, ◌↔◌, List, ◌++◌, length, take, drop, replicate, refl, sym, ap, ◌∙◌, subst, arith}
use Rattle.std.proofs.lemmas.Bool.{cases_eq}
use Rattle.std.proofs.lemmas.List.{length-drop, take-append-drop}
use Rattle.std.proofs.Math.Seq.{take-add}
use Rattle.clay_grid.specs.Shape.{layer_count}
use Rattle.clay_aloof.specs.Shape.{AloofShape, grid_of}
use Rattle.share_format.specs.Blocks.{page_of, rounded, aligned, subchunk, table_of, chunk_start, HasChecksum}
use Rattle.share_format.proofs.Rows.{drop_front}
use Rattle.share_format.proofs.Lengths.{length_table}
use Rattle.share_format.proofs.Laid.{entries_below, one_more, rest_of}
use Rattle.share_format.proofs.Found.{own_checksum}
use Rattle.share_format.proofs.Intact.{entry_in_front}

entries_first : (a : AloofShape) (chunk front : List ℕ) (n : ℕ) → ((k : ℕ) → k < n → HasChecksum front k (subchunk a chunk k))
    → take (8 * n) front ≡ entries_below a chunk n
entries_first a chunk front zero has = refl
entries_first a chunk front (suc n) has =
    let more : 8 * suc n ≡ 8 * n + 8 = omega arith in
    let next : n + 1 ≡ suc n = omega arith in
    ap (λ k. take k front) more ∙ take-add (8 * n) 8 front
    ∙ (λ i. entries_first a chunk front n (λ k less. has k (omega (arith, less))) i ++ has n (omega arith) i)
    ∙ one_more a chunk n ∙ ap (entries_below a chunk) next

module _ (a : AloofShape) (chunk front : List ℕ) where
  filled : aligned a (table_of a chunk) ≡ table_of a chunk ++ replicate {A = ℕ} (chunk_start a - 8 * layer_count (grid_of a)) 0
  filled = ap (λ n. table_of a chunk ++ replicate {A = ℕ} (rounded (page_of a) n - n) 0) (length_table a chunk)

  pub front_made : ((k : ℕ) → k < layer_count (grid_of a) → HasChecksum front k (subchunk a chunk k))
      → drop (8 * layer_count (grid_of a)) front ≡ replicate {A = ℕ} (chunk_start a - 8 * layer_count (grid_of a)) 0 → front ≡ aligned a (table_of a chunk)
  front_made has none =
      sym (take-append-drop (8 * layer_count (grid_of a)) front)
      ∙ (λ i. entries_first a chunk front (layer_count (grid_of a)) has i ++ none i) ∙ sym filled

  pub entry_kept : front ≡ aligned a (table_of a chunk) → (k : ℕ) → k < layer_count (grid_of a) → HasChecksum front k (subchunk a chunk k)
  entry_kept is k less = ap (λ l. take 8 (drop (8 * k) l)) is ∙ entry_in_front a chunk k less ∙ own_checksum a chunk k less

  pub zeros_kept : front ≡ aligned a (table_of a chunk)
      → drop (8 * layer_count (grid_of a)) front ≡ replicate {A = ℕ} (chunk_start a - 8 * layer_count (grid_of a)) 0
  zeros_kept is =
      ap (drop (8 * layer_count (grid_of a))) (is ∙ filled)
      ∙ drop_front (8 * layer_count (grid_of a)) 0 (table_of a chunk) (replicate {A = ℕ} (chunk_start a - 8 * layer_count (grid_of a)) 0)
      (sym (length_table a chunk) ∙ omega arith)

-- what stands behind the entries is zeros
pub zeros_behind : (a : AloofShape) (front : List ℕ) (at : ℕ) → at ≡ 8 * layer_count (grid_of a) → length front ≡ chunk_start a
    → (take (length front - at) (drop at front) ≡ replicate {A = ℕ} (length (take (length front - at) (drop at front))) 0)
    ↔ (drop (8 * layer_count (grid_of a)) front ≡ replicate {A = ℕ} (chunk_start a - 8 * layer_count (grid_of a)) 0)
zeros_behind a front at is long =
    let rest : List ℕ = take (length front - at) (drop at front) in
    let same : rest ≡ drop (8 * layer_count (grid_of a)) front = rest_of at front ∙ ap (λ n. drop n front) is in
    let count : length rest ≡ chunk_start a - 8 * layer_count (grid_of a) =
    ap length same ∙ length-drop (8 * layer_count (grid_of a)) front ∙ ap (λ n. n - 8 * layer_count (grid_of a)) long in (
      (λ none. sym same ∙ none ∙ ap (λ n. replicate {A = ℕ} n 0) count),
      (λ none. same ∙ none ∙ ap (λ n. replicate {A = ℕ} n 0) (sym count)),
    )

-- the entries of the first n layers are right
abbrev pub HasEach : AloofShape → List ℕ → List ℕ → ℕ → Type 0
HasEach a chunk front n = (k : ℕ) → k < n → HasChecksum front k (subchunk a chunk k)

pub each_more : (a : AloofShape) (chunk front : List ℕ) (n m : ℕ) → HasEach a chunk front n → HasChecksum front n (subchunk a chunk n)
    → m ≡ n + 1 → HasEach a chunk front m
each_more a chunk front n m have last next = λ k less.
    elim (cases_eq k n) [
      | inl same ↦ subst (λ j. HasChecksum front j (subchunk a chunk j)) (sym same) last
      | inr differs ↦ have k (omega (arith, less, next, differs))
    ]
