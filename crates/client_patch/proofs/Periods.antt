-- A ramp written block by block, each a copy of its period.
use Rattle.std.proofs.Common.{◌≡◌, ℕ, ◌+◌, ◌-◌, ◌*◌, ◌%◌, ◌<◌, ◌≤◌, List, length, get_or, take, map, inl, inr, sym, ap, subst, ◌∙◌, arith}
use Rattle.std.proofs.lemmas.Bool.{cases_lt}
use Rattle.std.proofs.lemmas.List.{get_or-take, length-take-le}
use Rattle.std.proofs.lemmas.List.FromFn.{get_or-map-range_with_len, length-map-range_with_len}
use Rattle.std.specs.List.{range_with_len}
use Rattle.code_laws.proofs.Pieces.{put_mid_before, put_mid_within}
use borrow.Rule.Slice.PartMut.{put_mid}

-- the byte that a period has at a place is the ramp's at this place of any block
module _ (first skipped : ℕ) where
  abbrev pub ramp_at : ℕ → ℕ
  ramp_at i = (first + (skipped + i)) % 256

  pub period_at : (block b : ℕ) → ((first + skipped % 256) % 256 + b) % 256 ≡ (first + (skipped + (block * 256 + b))) % 256
  period_at block b = omega arith

  -- of the first block
  pub counted_at : (b : ℕ) → ((first + skipped % 256) % 256 + b) % 256 ≡ (first + (skipped + b)) % 256
  counted_at b = omega arith

  pub next_block : (block k len : ℕ) (piece period copied : List ℕ) → period ≡ map (λ i. ((first + skipped % 256) % 256 + i) % 256) (range_with_len 0 256)
      → len ≤ 256 → copied ≡ take len period → block * 256 ≤ length piece
      → ((i : ℕ) → i < block * 256 → get_or piece i 0 ≡ ramp_at i)
      → (i : ℕ) → i < block * 256 + len → get_or (put_mid (block * 256) k piece copied) i 0 ≡ ramp_at i
  next_block block k len piece period copied is few copies fits before i below =
      elim (cases_lt i (block * 256)) [
        | inl h ↦ put_mid_before (block * 256) k piece copied i fits h ∙ before i h
        | inr past ↦
            let b : ℕ = i - block * 256 in
            let place : block * 256 + b ≡ i = omega (arith, past) in
            let inside : b < len = omega (arith, past, below) in
            let long : length copied ≡ len = ap length copies ∙ length-take-le len period (subst (λ n. len ≤ n) (sym (ap length is ∙ length-map-range_with_len (λ i. ((first + skipped % 256) % 256 + i) % 256) 0 256)) few) in
            (λ j. get_or (put_mid (block * 256) k piece copied) (sym place j) 0)
            ∙ put_mid_within (block * 256) k piece copied b fits (subst (λ n. b < n) (sym long) inside)
            ∙ ap (λ l. get_or l b 0) copies
            ∙ get_or-take len period b 0 inside
            ∙ ap (λ l. get_or l b 0) is
            ∙ get_or-map-range_with_len (λ i. ((first + skipped % 256) % 256 + i) % 256) 0 256 b b 0 (omega (arith, inside, few)) (omega arith)
            ∙ period_at block b
            ∙ (λ j. ramp_at (place j))
      ]
