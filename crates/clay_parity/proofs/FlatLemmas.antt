-- Chunks one behind another, each written piece by piece.
use Rattle.std.proofs.Common.{◌≡◌, ℕ, subst, ◌+◌, ◌-◌, ◌*◌, ◌/◌, ◌%◌, ◌^◌, ◌<◌, ◌≤◌, List, [], length, get_or, slice_range, inl, inr, sym, ap, ◌∙◌, arith}
use Rattle.std.proofs.lemmas.Bool.{cases_eq, cases_lt}
use Rattle.std.proofs.lemmas.Nat.{mul-le}
use Rattle.std.proofs.lemmas.List.Edits.{get_or-between, length-between}
use Rattle.std.proofs.lemmas.List.FromFn.{get_or-map-range_with_len, length-map-range_with_len}
use borrow.Rule.Slice.PartMut.{put_mid}
use Rattle.clay_grid.specs.Shape.{Shape, row_count, layer_count, chunk_length, stripe_length}
use Rattle.clay_grid.specs.Limits.{IsGeometry}
use Rattle.code_laws.proofs.Pieces.{piece_fits, place_below, put_mid_before, put_mid_past, put_mid_within}
use Rattle.generator_matrix.specs.Generated.{IsLastGenerator}
use Rattle.clay_parity.specs.Solved.{layer_value}
use Rattle.clay_parity.specs.Blocks.{coupled_of}
use Rattle.clay_parity.specs.Parity.{AreParity}
use Rattle.clay_parity.specs.Flat.{chunks_in, WritesRows, HoldsGroups}
use Rattle.clay_parity.proofs.ParityLemmas.{groups, parity_codes}

-- with the bytes that are written behind
pub one_more_part : (at len k : ℕ) (value : ℕ → ℕ) (xs ys : List ℕ) → at ≤ length xs → length ys ≡ len
    → ((b : ℕ) → b < at → get_or xs b 0 ≡ value b) → ((b : ℕ) → b < len → get_or ys b 0 ≡ value (at + b))
    → (b : ℕ) → b < at + len → get_or (put_mid at k xs ys) b 0 ≡ value b
one_more_part at len k value xs ys fits long done new b h = elim (cases_lt b at) [
  | inl early ↦ put_mid_before at k xs ys b fits early ∙ done b early
  | inr late ↦
      let back : at + (b - at) ≡ b = omega arith in
      let inside : b - at < len = omega arith in
      ap (λ p. get_or (put_mid at k xs ys) p 0) (sym back)
      ∙ put_mid_within at k xs ys (b - at) fits (subst (λ n. b - at < n) (sym long) inside)
      ∙ new (b - at) inside
      ∙ ap value back
]

-- a group of layers lies in each chunk
pub group_inside : (q w number layers : ℕ) → number * q + q ≤ layers → number * (q * w) + q * w ≤ layers * w
group_inside q w number layers h =
    let all : (number * q + q) * w ≤ layers * w = mul-le (number * q + q) w layers w h (omega arith) in
    let grouped : (number * q + q) * w ≡ number * (q * w) + q * w = omega arith in
    omega arith

-- where the bytes of a row end
pub row_inside : (x count len start part : ℕ) → x < count → start + part ≤ len → x * len + start + part ≤ count * len
row_inside x count len start part hx h = let all = piece_fits x count len hx in omega arith

-- with the next row
pub rows_more : (x len start part k : ℕ) (value : ℕ → ℕ → ℕ) (old xs ys : List ℕ) → start + part ≤ len → x * len + start + part ≤ length xs → k ≡ part
    → length ys ≡ part → ((o : ℕ) → o < part → get_or ys o 0 ≡ value x o)
    → WritesRows x len start part value old xs → WritesRows (x + 1) len start part value old (put_mid (x * len + start) k xs ys)
rows_more x len start part k value old xs ys within fits size long new done =
    let from : ℕ = x * len + start in
    let here : from ≤ length xs = omega arith in
    record {
      at = λ i o hi ho. elim (cases_eq i x) [
        | inl same ↦
            let grouped : x * len + (start + o) ≡ from + o = omega arith in
            ap (λ n. get_or (put_mid from k xs ys) (n * len + (start + o)) 0) same
            ∙ ap (λ p. get_or (put_mid from k xs ys) p 0) grouped
            ∙ put_mid_within from k xs ys o here (subst (λ n. o < n) (sym long) ho)
            ∙ new o ho
            ∙ ap (λ n. value n o) (sym same)
        | inr other ↦
            let below : i < x = omega (arith, other) in
            let place = place_below i x len (start + o) below (omega arith) in
            put_mid_before from k xs ys (i * len + (start + o)) here (omega arith) ∙ done.at i o below ho
      ];
      before = λ i p hp. elim (cases_lt x i) [
        | inl later ↦
            let all = piece_fits x i len later in
            put_mid_past from k xs ys (i * len + p) (omega arith) (long ∙ sym size) (omega arith) ∙ done.before i p hp
        | inr early ↦
            let all : i * len ≤ x * len = mul-le i len x len early (omega arith) in
            put_mid_before from k xs ys (i * len + p) here (omega arith) ∙ done.before i p hp
      ];
    }

-- with the next group
pub groups_more : (g : Shape) (value : ℕ → ℕ → ℕ → ℕ) (number : ℕ) (piece : ℕ → ℕ → ℕ) (old new : List ℕ)
    → ((x o : ℕ) → x < g.parity_count → o < g.parity_count * g.width
    → piece x o ≡ coupled_of g.parity_count value x ((number * (g.parity_count * g.width) + o) / g.width) ((number * (g.parity_count * g.width) + o) % g.width))
    → HoldsGroups g value number old
    → WritesRows g.parity_count (chunk_length g) (number * (g.parity_count * g.width)) (g.parity_count * g.width) piece old new
    → HoldsGroups g value (number + 1) new
groups_more g value number piece old new same holds writes =
    let part : ℕ = g.parity_count * g.width in
    let start : ℕ = number * part in
    let next : (number + 1) * part ≡ start + part = omega arith in
    record {
      at = λ x o hx ho. elim (cases_lt o start) [
        | inl early ↦ writes.before x o early ∙ holds.at x o hx early
        | inr late ↦
            let back : start + (o - start) ≡ o = omega arith in
            let inside : o - start < part = omega arith in
            ap (λ v. get_or new (x * chunk_length g + v) 0) (sym back)
            ∙ writes.at x (o - start) hx inside
            ∙ same x (o - start) hx inside
            ∙ ap (λ v. coupled_of g.parity_count value x (v / g.width) (v % g.width)) back
      ];
    }

-- all groups are the parity chunks
pub flat_codes : (g : Shape) (geometry : IsGeometry g) (factors stripe : List ℕ) (unknown : ℕ) (gen : IsLastGenerator g unknown factors) (bytes : List ℕ)
    → length stripe ≡ stripe_length g → ((i : ℕ) → get_or stripe i 0 < 2 ^ 8) → length bytes ≡ g.parity_count * chunk_length g
    → HoldsGroups g (layer_value g factors stripe) (layer_count g / row_count g) bytes
    → AreParity g stripe (chunks_in g.parity_count (chunk_length g) bytes)
flat_codes g geometry factors stripe unknown gen bytes whole stripe_bytes long holds =
    let len : ℕ = chunk_length g in
    let piece : ℕ → List ℕ = λ c. slice_range bytes (c * len) (c * len + len) in
    let chunks : List (List ℕ) = chunks_in g.parity_count len bytes in
    let all = groups g geometry in
    let chunk_is : (x : ℕ) → x < g.parity_count → get_or chunks x [] ≡ piece x = λ x h. get_or-map-range_with_len piece 0 g.parity_count x x [] h (omega arith) in
    parity_codes g geometry factors stripe unknown gen chunks whole stripe_bytes (length-map-range_with_len piece 0 g.parity_count)
    (λ x h.
    let fits = piece_fits x g.parity_count len h in
    let width : x * len + len - x * len ≡ len = omega arith in
    let none_before : len ≡ 0 + layer_count g / row_count g * (g.parity_count * g.width) = omega (arith, all) in
    record {
      long = ap length (chunk_is x h) ∙ length-between bytes (x * len) (x * len + len) (omega arith) ∙ width ∙ none_before;
      before = λ p hp. absurd (omega arith);
      at = λ b hb.
          let from_none : 0 + b ≡ b = omega arith in
          ap (λ p. get_or (get_or chunks x []) p 0) from_none
          ∙ ap (λ l. get_or l b 0) (chunk_is x h)
          ∙ get_or-between bytes (x * len) (x * len + len) b 0 (omega (arith, all))
          ∙ holds.at x b h hb;
    })
