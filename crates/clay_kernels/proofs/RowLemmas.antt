-- Rows that are added to, one after another.
-- AddsRows speaks of functions, not of lists, so that a kernel's clause becomes a node's by AddsRows-as. The invariant over nodes is a
-- partial sum of the matrix product, with 0 at unknown nodes (HoldsSums).
use Rattle.std.proofs.Common.{◌≡◌, ℕ, zero, suc, subst, ◌+◌, ◌-◌, ◌*◌, ◌<◌, ◌≤◌, List, ◌++◌, length, get_or, take, drop, inl, inr, sym, ap, ◌∙◌, arith, rules, bit_xor}
use Rattle.std.proofs.lemmas.Bool.{cases_lt}
use Rattle.std.proofs.lemmas.Nat.{mul-le}
use Rattle.std.proofs.lemmas.List.{get_or_append_left, get_or-append_right, get_or-take, get_or-drop, places}
use borrow.Rule.Slice.PartMut.{put_mid}
use Rattle.clay_field.specs.Field.{product}
use Rattle.clay_field.proofs.FieldLaws.{product_zero}
use Rattle.clay_kernels.specs.Lanes.{AddsRows}
use lib.Bits.{xor_zero_r}
use Rattle.code_laws.proofs.Pieces.{put_mid_before, put_mid_within, place_below}

-- one row
pub AddsRows-last : (len : ℕ) (factor value : ℕ → ℕ) (a b : List ℕ) → ((k : ℕ) → k < len → get_or b k 0 ≡ bit_xor (get_or a k 0) (product (factor 0) (value k)))
    → AddsRows 1 len factor value a b
AddsRows-last len factor value a b each = record {
  at = λ r k hr hk.
      let first : 0 ≡ r = omega arith in
      let here : k ≡ 0 * len + k = omega arith in
      let place : k ≡ r * len + k = here ∙ ap (λ n. n * len + k) first in
      subst (λ p. get_or b p 0 ≡ bit_xor (get_or a p 0) (product (factor r) (value k))) place
      (subst (λ n. get_or b k 0 ≡ bit_xor (get_or a k 0) (product (factor n) (value k))) first (each k hk));
}

-- a row before others
cons_at : (n len : ℕ) (factor value : ℕ → ℕ) (a rest b after : List ℕ) → length a ≡ len → length b ≡ len
    → ((k : ℕ) → k < len → get_or b k 0 ≡ bit_xor (get_or a k 0) (product (factor 0) (value k)))
    → AddsRows n len (λ r. factor (suc r)) value rest after
    → (r k : ℕ) → r < suc n → k < len → get_or (b ++ after) (r * len + k) 0 ≡ bit_xor (get_or (a ++ rest) (r * len + k) 0) (product (factor r) (value k))
cons_at n len factor value a rest b after la lb each others zero k hr hk =
    let here : 0 * len + k ≡ k = omega arith in
    ap (λ p. get_or (b ++ after) p 0) here
    ∙ get_or_append_left b after 0 k (omega arith)
    ∙ each k hk
    ∙ ap (λ x. bit_xor x (product (factor 0) (value k))) (sym (ap (λ p. get_or (a ++ rest) p 0) here ∙ get_or_append_left a rest 0 k (omega arith)))
cons_at n len factor value a rest b after la lb each others (suc r) k hr hk =
    let back : suc r * len + k - len ≡ r * len + k = omega arith in
    get_or-append_right b after len (suc r * len + k) 0 lb (omega arith)
    ∙ ap (λ p. get_or after p 0) back
    ∙ others.at r k (omega arith) hk
    ∙ ap (λ x. bit_xor x (product (factor (suc r)) (value k))) (sym (get_or-append_right a rest len (suc r * len + k) 0 la (omega arith) ∙ ap (λ p. get_or rest p 0) back))

pub AddsRows-cons : (n len : ℕ) (factor value : ℕ → ℕ) (a rest b after : List ℕ) → length a ≡ len → length b ≡ len
    → ((k : ℕ) → k < len → get_or b k 0 ≡ bit_xor (get_or a k 0) (product (factor 0) (value k)))
    → AddsRows n len (λ r. factor (suc r)) value rest after
    → AddsRows (suc n) len factor value (a ++ rest) (b ++ after)
AddsRows-cons n len factor value a rest b after la lb each others = record { at = cons_at n len factor value a rest b after la lb each others }

-- the rows below row are added to, and the bytes from there on are as before
pub record RowsDone (row count len : ℕ) (factor value : ℕ → ℕ) (before now : List ℕ) : Type 0 where
  pub within : row ≤ count
  pub done : (r b : ℕ) → r < row → b < len → get_or now (r * len + b) 0 ≡ bit_xor (get_or before (r * len + b) 0) (product (factor r) (value b))
  pub left : (k : ℕ) → row * len ≤ k → get_or now k 0 ≡ get_or before k 0

put_mid_past : (a k : ℕ) (xs ys : List ℕ) (p : ℕ) → length ys ≡ k → a + k ≤ length xs → a + k ≤ p → get_or (put_mid a k xs ys) p 0 ≡ get_or xs p 0
put_mid_past a k xs ys p long fits h = search (rules, places)

-- n rows more
pub RowsDone-more : (n row count len : ℕ) (factor value own : ℕ → ℕ) (before now part : List ℕ) → row + n ≤ count → length now ≡ count * len
    → length part ≡ (row + n) * len - row * len
    → ((r : ℕ) → r < n → own r ≡ factor (row + r))
    → AddsRows n len own value (take ((row + n) * len - row * len) (drop (row * len) now)) part
    → RowsDone row count len factor value before now
    → RowsDone (row + n) count len factor value before (put_mid (row * len) ((row + n) * len - row * len) now part)
RowsDone-more n row count len factor value own before now part room long part_long owns adds h =
    let new : List ℕ = put_mid (row * len) ((row + n) * len - row * len) now part in
    let some : row * len + n * len ≡ (row + n) * len = omega arith in
    let all : (row + n) * len ≤ count * len = mul-le (row + n) len count len room (omega arith) in
    let fits : row * len ≤ length now = omega arith in
    record {
      within = room;
      done = λ r b hr hb. elim (cases_lt r row) [
        | inl early ↦
            put_mid_before (row * len) ((row + n) * len - row * len) now part (r * len + b) fits (place_below r row len b early hb) ∙ h.done r b early hb
        | inr late ↦
            let i : ℕ = r - row in
            let r_is : row + i ≡ r = omega arith in
            let hi : i < n = omega arith in
            let inside : i * len + b < n * len = place_below i n len b hi hb in
            let grouped : row * len + (i * len + b) ≡ (row + i) * len + b = omega arith in
            let place : row * len + (i * len + b) ≡ r * len + b = grouped ∙ ap (λ v. v * len + b) r_is in
            ap (λ p. get_or new p 0) (sym place)
            ∙ put_mid_within (row * len) ((row + n) * len - row * len) now part (i * len + b) fits (omega arith)
            ∙ adds.at i b hi hb
            ∙ (λ t. bit_xor
            ((get_or-take ((row + n) * len - row * len) (drop (row * len) now) (i * len + b) 0 (omega arith)
            ∙ get_or-drop (row * len) now (i * len + b) 0
            ∙ h.left (row * len + (i * len + b)) (omega arith)
            ∙ ap (λ p. get_or before p 0) place) t)
            (product ((owns i hi ∙ ap factor r_is) t) (value b)))
      ];
      left = λ k le.
          put_mid_past (row * len) ((row + n) * len - row * len) now part k part_long (omega arith) (omega arith) ∙ h.left k (omega arith);
    }

-- no value adds nothing
pub AddsRows-zeros : (n len : ℕ) (factor value : ℕ → ℕ) (rows : List ℕ) → ((b : ℕ) → b < len → value b ≡ 0) → AddsRows n len factor value rows rows
AddsRows-zeros n len factor value rows none = record {
  at = λ r b hr hb. sym (ap (bit_xor (get_or rows (r * len + b) 0)) (ap (product (factor r)) (none b hb) ∙ product_zero (factor r)) ∙ xor_zero_r (get_or rows (r * len + b) 0));
}

-- the same by equal factors and values
pub AddsRows-as : (n len : ℕ) (factor value factor' value' : ℕ → ℕ) (before after : List ℕ) → ((r : ℕ) → r < n → factor r ≡ factor' r) → ((b : ℕ) → b < len → value b ≡ value' b)
    → AddsRows n len factor value before after → AddsRows n len factor' value' before after
AddsRows-as n len factor value factor' value' before after fs vs adds = record {
  at = λ r b hr hb. adds.at r b hr hb ∙ (λ i. bit_xor (get_or before (r * len + b) 0) (product (fs r hr i) (vs b hb i)));
}
