-- The groups' values make the parity chunks.
-- "For whatever values the groups hold, the chunk has their coupled bytes" (IsRow, a quantifier inside ensures) saves arguments that no
-- code needs.
use Rattle.std.proofs.Common.{◌≡◌, ℕ, ◌+◌, ◌*◌, ◌/◌, ◌^◌, ◌<◌, ◌≤◌, List, [], ◌∷◌, ◌++◌, length, get_or, drop, subst, sym, ap, inl, inr, ◌∙◌, arith}
use Rattle.std.specs.Fork.{slice_chunk}
use Rattle.std.proofs.lemmas.Bool.{cases_lt}
use Rattle.std.proofs.lemmas.Nat.{mul-le}
use Rattle.std.proofs.lemmas.List.{get_or-take, get_or-drop, get_or_append_left, get_or_push}
use Rattle.clay_grid.specs.Shape.{Shape, row_count, layer_count, chunk_length, stripe_length}
use Rattle.clay_grid.specs.Limits.{IsGeometry}
use Rattle.clay_parity.specs.Blocks.{HoldsGroup}
use Rattle.clay_parity.specs.Flat.{HoldsGroups}
use Rattle.generator_matrix.specs.Generated.{IsLastGenerator}
use Rattle.clay_parity.specs.Solved.{layer_value}
use Rattle.clay_parity.specs.Parity.{AreParity}
use Rattle.clay_parity.proofs.ParityLemmas.{groups, parity_codes}
use Rattle.clay_par.specs.Groups.{HoldGroups, HoldsRow, AreRows}
use Rattle.clay_par.specs.declared.parity.Group.{Group}

-- groups by number hold what each group of that number holds
pub held : (g : Shape) (value : ℕ → ℕ → ℕ → ℕ) (before after : List Group) → length after ≡ length before
    → ((i : ℕ) (d : Group) → i < length before → (get_or before i d).number ≡ i)
    → ((i : ℕ) (d : Group) → i < length before → HoldsGroup g.parity_count g.width (get_or before i d).number g.parity_count value (get_or after i d).solved.items)
    → HoldGroups g value after
held g value before after long numbers holds = λ i d h.
    let there : i < length before = subst (λ n. i < n) long h in
    subst (λ n. HoldsGroup g.parity_count g.width n g.parity_count value (get_or after i d).solved.items) (numbers i d there) (holds i d there)

-- rows of all groups are the parity chunks
pub rows_are_parity : (g : Shape) → IsGeometry g → (factors stripe : List ℕ) (unknown : ℕ) → IsLastGenerator g unknown factors → (held_groups : List Group) (chunks : List (List ℕ))
    → length stripe ≡ stripe_length g → ((i : ℕ) → get_or stripe i 0 < 2 ^ 8) → length chunks ≡ g.parity_count
    → HoldGroups g (layer_value g factors stripe) held_groups → AreRows g held_groups chunks → AreParity g stripe chunks
rows_are_parity g geometry factors stripe unknown gen held_groups chunks whole bytes count holds rows =
    parity_codes g geometry factors stripe unknown gen chunks whole bytes count
    (λ x h.
    let row = rows x h in
    let all = groups g geometry in
    let none_before : chunk_length g ≡ 0 + layer_count g / row_count g * (g.parity_count * g.width) = omega (arith, all) in
    record {
      long = row.long ∙ none_before;
      before = λ p hp. absurd (omega arith);
      at = λ b hb.
          let from_none : 0 + b ≡ b = omega arith in
          ap (λ p. get_or (get_or chunks x []) p 0) from_none
          ∙ row.holds (layer_value g factors stripe) holds b (omega (arith, all, hb));
    })

-- the parity chunks of all groups, one behind another
pub rows_behind : (g : Shape) → IsGeometry g → (held_groups : List Group) (bytes : List ℕ)
    → ((x : ℕ) → x < g.parity_count → HoldsRow g held_groups x (slice_chunk bytes (chunk_length g) x))
    → (value : ℕ → ℕ → ℕ → ℕ) → HoldGroups g value held_groups → HoldsGroups g value (layer_count g / row_count g) bytes
rows_behind g geometry held_groups bytes rows value holds =
    let len : ℕ = chunk_length g in
    let all = groups g geometry in
    record {
      at = λ x o hx ho.
          let inside : o < len = omega (arith, all, ho) in
          sym (get_or-take len (drop (x * len) bytes) o 0 inside ∙ get_or-drop (x * len) bytes o 0)
          ∙ rows x hx value holds o inside;
    }

-- one group more with its number
pub numbered_more : (groups : List Group) (new : Group) (n : ℕ) → length groups ≡ n → new.number ≡ n
    → ((i : ℕ) (d : Group) → i < n → (get_or groups i d).number ≡ i)
    → (i : ℕ) (d : Group) → i < n + 1 → (get_or (groups ++ new ∷ []) i d).number ≡ i
numbered_more groups new n long number before i d h = elim (cases_lt i n) [
  | inl early ↦ ap (λ (g : Group). g.number) (get_or_append_left groups (new ∷ []) d i (omega (arith, early, long))) ∙ before i d early
  | inr late ↦
      let here : i ≡ n = omega (arith, late, h) in
      ap (λ (g : Group). g.number) (get_or_push groups new d i (long ∙ sym here)) ∙ number ∙ sym here
]

-- a group below as many as all layers make is of theirs
pub in_layers : (number q all : ℕ) → 0 < q → number < all / q → number * q + q ≤ all
in_layers number q all some h =
    let more = mul-le (number + 1) q (all / q) q (omega arith) (omega arith) in
    omega (arith, more, some)
