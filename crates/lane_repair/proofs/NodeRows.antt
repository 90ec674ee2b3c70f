-- The sums of the nodes of whole columns, for each codeword that fits what is there.
use Rattle.std.proofs.Common.{◌≡◌, ℕ, ◌+◌, ◌*◌, ◌<◌, ◌≤◌, Bool, true, false, List, length, get_or, inl, inr, subst, sym, ap, ◌∙◌, arith, bit_xor}
use Rattle.std.proofs.lemmas.Bool.{cases_eq, cond-true}
use borrow.Rule.Slice.PartMut.{put_mid}
use lib.Bits.{xor_zero_r}
use Rattle.clay_field.specs.Field.{product}
use Rattle.clay_field.proofs.FieldLaws.{product_zero}
use Rattle.clay_grid.specs.Shape.{Shape}
use Rattle.clay_model.specs.Sums.{sum_below}
use Rattle.clay_model.specs.Erased.{present}
use Rattle.clay_model.proofs.SumLaws.{sum_below_same, sum_below-zero}
use Rattle.code_laws.proofs.Filled.{sum_below-add}
use Rattle.code_laws.proofs.Pieces.{put_mid_before, put_mid_within, place_below}
use Rattle.code_laws.specs.Solved.{uncoupled_byte}
use Rattle.generator_matrix.specs.Generated.{factor_at}
use Rattle.generator_matrix.specs.SmallColumns.{AddsNodes}
use Rattle.lane_repair.specs.Pieces.{IsPresent, HoldsNodes}
use Rattle.lane_repair.proofs.RowLemmas.{HoldsSums}

pub no_nodes : (g : Shape) (fits : List (List ℕ) → Type 0) (at len : ℕ) (erased : List Bool) (first n : ℕ) (values : List ℕ) → HoldsNodes g fits at len erased first n 0 values
no_nodes g fits at len erased first n values = record { bytes = λ word fit x b hx hb. absurd (omega arith) }

pub one_more_node : (g : Shape) (fits : List (List ℕ) → Type 0) (at len : ℕ) (erased : List Bool) (first n x k : ℕ) (values out : List ℕ) → x * len ≤ length values → length out ≡ len
    → HoldsNodes g fits at len erased first n x values → IsPresent g fits at len erased (first + x) n out
    → HoldsNodes g fits at len erased first n (x + 1) (put_mid (x * len) k values out)
one_more_node g fits at len erased first n x k values out room long holds new = record {
  bytes = λ word fit v b hv hb. elim (cases_eq v x) [
    | inl same ↦
        ap (λ e. get_or (put_mid (x * len) k values out) (e * len + b) 0) same
        ∙ put_mid_within (x * len) k values out b room (subst (λ l. b < l) (sym long) hb)
        ∙ new.bytes word fit b hb
        ∙ ap (λ e. present erased (λ i. uncoupled_byte g word (at + b) i n) (first + e)) (sym same)
    | inr other ↦
        let below : v < x = omega (arith, other) in
        put_mid_before (x * len) k values out (v * len + b) room (place_below v x len b below hb) ∙ holds.bytes word fit v b below hb
  ];
}

module _ (g : Shape) (fits : List (List ℕ) → Type 0) (at len : ℕ) (erased : List Bool) (points factors : List ℕ) (n : ℕ) where
  -- as many nodes more as there are rows
  pub nodes_added : (m first from u q : ℕ) (values before after : List ℕ) → u ≡ length points → q ≡ length points → from ≡ first
      → HoldsNodes g fits at len erased first n q values
      → AddsNodes u len (λ x e. factor_at factors u (from + x) e) (λ x b. get_or values (x * len + b) 0) before after
      → HoldsSums g fits at len erased points factors n first before → first + q ≡ m → HoldsSums g fits at len erased points factors n m after
  nodes_added m first from u q values before after units rows start held adds sums next = record {
    bytes = λ word fit e b he hb.
        let p : ℕ = length points in
        let f : ℕ → ℕ = present erased (λ i. uncoupled_byte g word (at + b) i n) in
        let term : ℕ → ℕ = λ i. product (factor_at factors p i e) (f i) in
        let here : AddsNodes p len (λ x e. factor_at factors p (first + x) e) (λ x b. get_or values (x * len + b) 0) before after =
        subst (λ s. AddsNodes p len (λ x e. factor_at factors p (s + x) e) (λ x b. get_or values (x * len + b) 0) before after) start
        (subst (λ c. AddsNodes c len (λ x e. factor_at factors c (from + x) e) (λ x b. get_or values (x * len + b) 0) before after) units adds) in
        here.at e b he hb
        ∙ (λ i. bit_xor (sums.bytes word fit e b he hb i)
        (sum_below_same p (λ x. product (factor_at factors p (first + x) e) (get_or values (x * len + b) 0)) (λ x. term (first + x))
        (λ x hx. ap (product (factor_at factors p (first + x) e)) (held.bytes word fit x b (subst (λ c. x < c) (sym rows) hx) hb)) i))
        ∙ sym (sum_below-add first p term)
        ∙ ap (λ c. sum_below c term) (ap (λ c. first + c) (sym rows) ∙ next);
  }

  -- nodes that are all erased add nothing
  pub nodes_skipped : (m first q : ℕ) (rows : List ℕ) → ((x : ℕ) → x < q → get_or erased (first + x) false ≡ true)
      → HoldsSums g fits at len erased points factors n first rows → first + q ≡ m → HoldsSums g fits at len erased points factors n m rows
  nodes_skipped m first q rows gone sums next = record {
    bytes = λ word fit e b he hb.
        let p : ℕ = length points in
        let f : ℕ → ℕ = λ i. uncoupled_byte g word (at + b) i n in
        let term : ℕ → ℕ = λ i. product (factor_at factors p i e) (present erased f i) in
        let nothing : sum_below q (λ x. term (first + x)) ≡ 0 =
        sum_below-zero q (λ x. term (first + x))
        (λ x h. ap (product (factor_at factors p (first + x) e)) (cond-true (get_or erased (first + x) false) 0 (f (first + x)) (gone x h)) ∙ product_zero (factor_at factors p (first + x) e)) in
        sums.bytes word fit e b he hb
        ∙ sym (xor_zero_r (sum_below first term))
        ∙ ap (bit_xor (sum_below first term)) (sym nothing)
        ∙ sym (sum_below-add first q term)
        ∙ ap (λ c. sum_below c term) next;
  }
