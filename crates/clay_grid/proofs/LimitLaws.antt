-- What follows from the limits of a shape.
use Rattle.std.proofs.Common.{◌≡◌, ℕ, zero, suc, ◌+◌, ◌-◌, ◌*◌, ◌/◌, ◌%◌, ◌^◌, ◌<◌, ◌≤◌, ◌⊎◌, inl, inr, Bool, true, ◌&&◌, ◌||◌, ltb, leb, min, cond, nat_lt, false, refl, sym, ap, ◌∙◌, arith, lit<}
use Rattle.std.proofs.lemmas.Bool.{cases_eq, cases_lt, and_parts, or_cases, ltb-true, leb-true}
use Rattle.std.proofs.lemmas.Nat.{mod_below, le-div, div-mul-add, mod-mul-add, div-add-mod'}
use Rattle.std.proofs.Math.Nat.{mul_comm, mul-le-mul, mul-le-mul_right, pow-le-pow_left, pow-le-pow_right, pow-zero, pow-suc}
use Rattle.std.specs.Int.{div_ceil}
use Rattle.clay_grid.specs.Shape.{Shape, chunk_count, row_count, column_count, node_count, virtual_count, layer_count, chunk_length, node_of_chunk}
use Rattle.clay_grid.specs.Limits.{IsWithinLimits, IsFirstFault, IsGeometry}
use Rattle.clay_grid.specs.declared.geometry_fault.BadGeometry.{BadGeometry}
use Rattle.clay_grid.specs.declared.geometry_fault.BadGeometry.TheVariants.{DataCount, ParityCount, Layers, Width, ChunkSize}

-- the columns of the data chunks, rounded up, and one more
pub column_count-is : (k m : ℕ) → 0 < m → k / m + min 1 (k % m) + 1 ≡ (k + m + m - 1) / m
column_count-is k m rows =
    let whole : k / m * m + k % m ≡ k = div-add-mod' k m in
    let below : k % m < m = mod_below k m rows in
    elim (cases_eq (k % m) 0) [
      | inl none ↦
          let split : (k / m + 1) * m + (m - 1) ≡ k + m + m - 1 = omega arith in
          let count : k / m + min 1 (k % m) + 1 ≡ k / m + 1 = omega arith in
          count ∙ sym (div-mul-add (k / m + 1) m (m - 1) (omega arith)) ∙ ap (λ n. n / m) split
      | inr some ↦
          let split : (k / m + 2) * m + (k % m - 1) ≡ k + m + m - 1 = omega (arith, some) in
          let count : k / m + min 1 (k % m) + 1 ≡ k / m + 2 = omega (arith, some) in
          count ∙ sym (div-mul-add (k / m + 2) m (k % m - 1) (omega arith)) ∙ ap (λ n. n / m) split
    ]

pub many_layers : (m t : ℕ) → 2 ≤ m → 10 < t → 1024 < m ^ t
many_layers m t two many =
    let base : 2 ^ 11 ≤ m ^ 11 = pow-le-pow_left two 11 in
    let power : m ^ 11 ≤ m ^ t = pow-le-pow_right (omega arith) (omega arith) in
    omega arith

pub layers_fit : (m t : ℕ) → 2 ≤ m → m ≤ 8 → t ≤ 10 → m ^ t < 2 ^ 32
layers_fit m t two eight few =
    let base : m ^ t ≤ 8 ^ t = pow-le-pow_left eight t in
    let power : 8 ^ t ≤ 8 ^ 10 = pow-le-pow_right (lit< tt) few in
    omega arith

pub stride_fits : (m t y : ℕ) → 2 ≤ m → m ≤ 8 → t ≤ 10 → m ^ (t - 1 - y) < 2 ^ 32
stride_fits m t y two eight few = layers_fit m (t - 1 - y) two eight (omega arith)

-- ---- each case of rows and columns

abbrev all_below : ℕ → (ℕ → Bool) → Bool
all_below zero test = true
all_below (suc n) test = test n && all_below n test

all_below_at : (n : ℕ) (test : ℕ → Bool) → all_below n test ≡ true → (i : ℕ) → i < n → test i ≡ true
all_below_at zero test e i h = absurd (omega arith)
all_below_at (suc n) test e i h =
    let p = and_parts (test n) (all_below n test) e in
    elim (cases_eq i n) [
      | inl same ↦ ap test same ∙ p.0
      | inr other ↦ all_below_at n test p.1 i (omega (arith, other))
    ]

-- with so few layers there are at most 24 nodes, and at most 18 but those of one column
is_small : ℕ → ℕ → Bool
is_small m t = ltb m 2 || (ltb 1024 (m ^ t) || (leb (m * t) 24 && leb (m * t) (m + 18)))

all_small : all_below 9 (λ m. all_below 11 (is_small m)) ≡ true
unfolding is_small
all_small = refl

few_nodes : (m t : ℕ) → 2 ≤ m → m ≤ 8 → t ≤ 10 → m ^ t ≤ 1024 → (m * t ≤ 24) × (m * t ≤ m + 18)
unfolding is_small
few_nodes m t two eight ten few =
    let entry : is_small m t ≡ true = all_below_at 11 (is_small m) (all_below_at 9 (λ x. all_below 11 (is_small x)) all_small m (omega arith)) t (omega arith) in
    elim (or_cases (ltb m 2) _ entry) [
      | inl one_row ↦ absurd (omega (arith, ltb-true m 2 one_row))
      | inr rows ↦ elim (or_cases (ltb 1024 (m ^ t)) _ rows) [
        | inl many ↦ absurd (omega (arith, ltb-true 1024 (m ^ t) many))
        | inr small ↦
            let both = and_parts (leb (m * t) 24) _ small in
            (leb-true _ _ both.0, leb-true _ _ both.1)
      ]
    ]

pub IsGeometry-limits : (g : Shape) → IsWithinLimits g → IsGeometry g
IsGeometry-limits g l =
    let m : ℕ = g.parity_count in
    let t : ℕ = column_count g in
    let rows : 0 < m = omega arith in
    let two : 2 ≤ m = l.parity_chunks.0 in
    let whole : t * m + (chunk_count g + m - 1) % m ≡ chunk_count g + m - 1 = div-add-mod' (chunk_count g + m - 1) m in
    let below : (chunk_count g + m - 1) % m < m = mod_below (chunk_count g + m - 1) m rows in
    let turned : m * t ≡ t * m = mul_comm m t in
    let wide : 2 ≤ t = le-div 2 (chunk_count g + m - 1) m rows (omega (arith, l.data_chunks)) in
    let ten : t ≤ 10 = elim (cases_lt 10 t) [
      | inl many ↦ absurd (omega (arith, many_layers m t two many, l.layers))
      | inr few ↦ few
    ] in
    let small = few_nodes m t two l.parity_chunks.1 ten l.layers in
    let one_column : m ^ 1 ≡ m = pow-suc m 0 ∙ ap (λ n. n * m) (pow-zero m) ∙ omega arith in
    let few_data : g.data_count ≤ 18 = omega (arith, small.1) in
    let power : m ^ 1 ≤ m ^ t = pow-le-pow_right rows (omega arith) in
    record {
      limits = l;
      data_chunks = few_data;
      nodes = small.0;
      chunks = omega arith;
      virtual_nodes = omega arith;
      columns = (wide, ten);
      some_layers = omega arith;
      stripe = mul-le-mul few_data l.chunk;
    }

-- ---- what a new geometry keeps

pub columns_made : (k m w r : ℕ) → 2 ≤ m → r ≡ div_ceil k m → column_count (record { data_count = k; parity_count = m; width = w }) ≡ r + 1
columns_made k m w r two e = sym (ap (λ n. n + 1) e ∙ column_count-is k m (omega arith))

pub layers_made : (k m w r p : ℕ) → 2 ≤ m → r ≡ div_ceil k m → p ≡ m ^ (r + 1) → layer_count (record { data_count = k; parity_count = m; width = w }) ≡ p
layers_made k m w r p two e power = ap (λ t. m ^ t) (columns_made k m w r two e) ∙ sym power

-- ---- the virtual nodes

pub virtual_count_fills : (g : Shape) → IsGeometry g → (chunk_count g + virtual_count g) % row_count g ≡ 0
virtual_count_fills g h =
    let all : column_count g * row_count g + 0 ≡ chunk_count g + virtual_count g = omega (arith, h.chunks, mul_comm (row_count g) (column_count g)) in
    ap (λ n. n % row_count g) (sym all) ∙ mod-mul-add (column_count g) (row_count g) 0 (omega (arith, h.limits.parity_chunks.0))

pub virtual_count_fewest : (g : Shape) → IsGeometry g → (i : ℕ) → (chunk_count g + i) % row_count g ≡ 0 → virtual_count g ≤ i
virtual_count_fewest g h i fills =
    let m : ℕ = row_count g in
    let t : ℕ = column_count g in
    let p : ℕ = (chunk_count g + i) / m in
    let whole : p * m + (chunk_count g + i) % m ≡ chunk_count g + i = div-add-mod' (chunk_count g + i) m in
    let turned : m * t ≡ t * m = mul_comm m t in
    let few : virtual_count g < m = h.virtual_nodes in
    elim (cases_lt p t) [
      | inl less ↦
          let under : (p + 1) * m ≤ t * m = mul-le-mul_right m (omega arith) in
          absurd (omega (arith, fills))
      | inr enough ↦
          let over : t * m ≤ p * m = mul-le-mul_right m enough in
          omega (arith, fills)
    ]

pub node_of_chunk-lt : (g : Shape) (chunk : ℕ) → IsGeometry g → chunk < chunk_count g → node_of_chunk g chunk < node_count g
node_of_chunk-lt g chunk h below =
    elim (nat_lt chunk g.data_count) as (λ b. cond b chunk (chunk + virtual_count g) < node_count g) [
      | true ↦ omega (arith, h.chunks)
      | false ↦ omega (arith, h.chunks)
    ]

-- ---- the first fault

pub within_or_fault : (g : Shape) → IsWithinLimits g ⊎ ((f : BadGeometry) × IsFirstFault g f)
within_or_fault g =
    elim (cases_lt g.data_count 2) [
      | inl few ↦ inr (DataCount, few)
      | inr two ↦ elim (cases_lt g.parity_count 2) [
        | inl few_rows ↦ inr (ParityCount, (two, inl few_rows))
        | inr rows ↦ elim (cases_lt 8 g.parity_count) [
          | inl many_rows ↦ inr (ParityCount, (two, inr many_rows))
          | inr eight ↦ elim (cases_lt 1024 (layer_count g)) [
            | inl many ↦ inr (Layers, (two, rows, eight, many))
            | inr layers ↦ elim (cases_lt g.width 1) [
              | inl none ↦ inr (Width, (two, rows, eight, layers, inl none))
              | inr some ↦ elim (cases_lt 65536 g.width) [
                | inl wide ↦ inr (Width, (two, rows, eight, layers, inr wide))
                | inr narrow ↦ elim (cases_lt 1048576 (chunk_length g)) [
                  | inl long ↦ inr (ChunkSize, (two, rows, eight, layers, some, narrow, long))
                  | inr short ↦ inl (record { data_chunks = two; parity_chunks = (rows, eight); layers = layers; width = (some, narrow); chunk = short })
                ]
              ]
            ]
          ]
        ]
      ]
    ]

pub fault_outside : (g : Shape) (f : BadGeometry) → IsFirstFault g f → ¬ IsWithinLimits g
fault_outside g DataCount h = λ l. omega (arith, h, l.data_chunks)
fault_outside g ParityCount h = λ l. elim h.1 [ inl few ↦ omega (arith, few, l.parity_chunks.0) | inr many ↦ omega (arith, many, l.parity_chunks.1) ]
fault_outside g Layers h = λ l. omega (arith, h.3, l.layers)
fault_outside g Width h = λ l. elim h.4 [ inl none ↦ omega (arith, none, l.width.0) | inr wide ↦ omega (arith, wide, l.width.1) ]
fault_outside g ChunkSize h = λ l. omega (arith, h.6, l.chunk)
