-- A row of 64 numbers in which one more is there.
use Rattle.std.proofs.Common.{◌≡◌, ℕ, ◌<◌, ◌/◌, ◌%◌, Bool, true, false, nat_eq, ◌&&◌, cond, List, length, get_or, Option, Some, refl, sym, ap, ap₂, ◌∙◌, arith, true≢false}
use Rattle.std.specs.Prelude.{slice_set}
use Rattle.std.proofs.lemmas.Bool.{eqb-true, eqb-false, eq-eqb}
use Rattle.std.proofs.lemmas.List.{get_or-set_other}
use Rattle.std.proofs.lemmas.Grind.{get_or-set_at}
use Rattle.hist_tables.specs.Numbers.{row_has}

-- rows by their actor and their place
abbrev pub Rows : Type 0
Rows = ℕ × ℕ → Option (List Bool)

other_place : (a b : ℕ) → nat_eq (a / 64) (b / 64) ≡ true → nat_eq a b ≡ false → b % 64 ≡ a % 64 → ⊥
other_place a b block other place =
    let same = eqb-true (a / 64) (b / 64) block in
    eqb-false a b other (omega (arith, same, place))

module _ (old new : Rows) (actor number : ℕ) (row : List Bool) (long : length row ≡ 64)
    (same : (place : ℕ) → place < 64 → get_or row place false ≡ row_has (old (actor, number / 64)) place) where
  core : (i n : ℕ) (a b c : Bool) → nat_eq actor i ≡ a → nat_eq (number / 64) (n / 64) ≡ b → nat_eq number n ≡ c
      → row_has (cond (a && b) (Some (slice_set row (number % 64) true)) (old (i, n / 64))) (n % 64) ≡ cond (a && c) true (row_has (old (i, n / 64)) (n % 64))
  core i n false b c ea eb ec = refl
  core i n true false false ea eb ec = refl
  core i n true false true ea eb ec =
      let block = eq-eqb (number / 64) (n / 64) (ap (λ k. k / 64) (eqb-true number n ec)) in absurd (true≢false (sym block ∙ eb))
  core i n true true true ea eb ec =
      get_or-set_at row (number % 64) (n % 64) true false (ap (λ k. k % 64) (sym (eqb-true number n ec))) (omega (arith, long))
  core i n true true false ea eb ec =
      get_or-set_other row (number % 64) (n % 64) true false (other_place number n eb ec)
      ∙ same (n % 64) (omega arith)
      ∙ ap₂ (λ x y. row_has (old (x, y)) (n % 64)) (eqb-true actor i ea) (eqb-true (number / 64) (n / 64) eb)

  pub inserted : ((key : ℕ × ℕ) → new key ≡ cond (nat_eq actor key.0 && nat_eq (number / 64) key.1) (Some (slice_set row (number % 64) true)) (old key))
      → (i n : ℕ) → row_has (new (i, n / 64)) (n % 64) ≡ cond (nat_eq actor i && nat_eq number n) true (row_has (old (i, n / 64)) (n % 64))
  inserted updated i n =
      ap (λ o. row_has o (n % 64)) (updated (i, n / 64))
      ∙ core i n (nat_eq actor i) (nat_eq (number / 64) (n / 64)) (nat_eq number n) refl refl refl
