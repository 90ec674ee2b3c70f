-- A range of positions of a codeword's subchunks is a codeword.
use Rattle.std.proofs.Common.{◌≡◌, ℕ, subst, ◌+◌, ◌*◌, ◌/◌, ◌%◌, ◌^◌, ◌<◌, ◌≤◌, cond, List, [], length, get_or, map, sym, ap, ◌∙◌, inl, inr, arith}
use Rattle.std.proofs.lemmas.Bool.{cases_lt}
use Rattle.std.proofs.lemmas.Nat.{mul-le, div-mul-add, mod-mul-add}
use Rattle.std.proofs.lemmas.List.{get_or-map, length-map, get_or_past}
use Rattle.std.proofs.lemmas.List.FromFn.{length-map-range_with_len, get_or-map-range_with_len}
use Rattle.clay_grid.specs.Shape.{Shape, chunk_count, row_count, column_count, layer_count}
use Rattle.clay_grid.specs.Layers.{index_of}
use Rattle.clay_model.specs.Code.{IsCodeword, is_virtual, chunk_of_node, coupled_value}
use Rattle.clay_model.specs.Coupling.{HasZeroSums}
use Rattle.code_laws.proofs.Pieces.{place_below}
use Rattle.lost_layers.specs.Ranges.{of_width, range_of_chunk, RangesAreCoded}

scaled : (a b w r : ℕ) → a ≤ b → a * w ≤ b * w + r
scaled a b w r h = let all : a * w ≤ b * w = mul-le a w b w h (omega arith) in omega arith

module _ (g : Shape) (p w : ℕ) (word : List (List ℕ)) (fits : p + w ≤ g.width) (coded : IsCodeword g word) where
  long : (chunk : List ℕ) → length (range_of_chunk g p w chunk) ≡ layer_count g * w
  long chunk = length-map-range_with_len (λ i. get_or chunk (i / w * g.width + (p + i % w)) 0) 0 (layer_count g * w)

  at : (chunk : List ℕ) (i : ℕ) → i < layer_count g * w → get_or (range_of_chunk g p w chunk) i 0 ≡ get_or chunk (i / w * g.width + (p + i % w)) 0
  at chunk i h = get_or-map-range_with_len (λ i. get_or chunk (i / w * g.width + (p + i % w)) 0) 0 (layer_count g * w) i i 0 h (omega arith)

  there : (c : ℕ) → c < chunk_count g → get_or (map (range_of_chunk g p w) word) c [] ≡ range_of_chunk g p w (get_or word c [])
  there c h = get_or-map (range_of_chunk g p w) word c [] [] (subst (λ n. c < n) (sym coded.count) h)

  beyond : (c : ℕ) → chunk_count g ≤ c → get_or (map (range_of_chunk g p w) word) c [] ≡ []
  beyond c h = get_or_past (map (range_of_chunk g p w) word) c [] (subst (λ n. n ≤ c) (sym (length-map word (range_of_chunk g p w) ∙ coded.count)) h)

  small : (c q : ℕ) → get_or (get_or (map (range_of_chunk g p w) word) c []) q 0 < 2 ^ 8
  small c q =
      elim (cases_lt c (chunk_count g)) [
        | inr past ↦ subst (λ l. get_or l q 0 < 2 ^ 8) (sym (beyond c past)) (omega arith)
        | inl inside ↦
            subst (λ l. get_or l q 0 < 2 ^ 8) (sym (there c inside))
            (elim (cases_lt q (layer_count g * w)) [
              | inl low ↦ subst (λ b. b < 2 ^ 8) (sym (at (get_or word c []) q low)) (coded.bytes c (q / w * g.width + (p + q % w)))
              | inr high ↦
                  subst (λ b. b < 2 ^ 8) (sym (get_or_past (range_of_chunk g p w (get_or word c [])) q 0 (subst (λ n. n ≤ q) (sym (long (get_or word c []))) high))) (omega arith)
            ])
      ]

  -- byte b of subchunk n
  byte : (c n b : ℕ) → b < w → get_or (get_or (map (range_of_chunk g p w) word) c []) (n * w + b) 0 ≡ get_or (get_or word c []) (n * g.width + (p + b)) 0
  byte c n b hb =
      elim (cases_lt c (chunk_count g)) [
        | inr past ↦
            ap (λ l. get_or l (n * w + b) 0) (beyond c past)
            ∙ sym (ap (λ l. get_or l (n * g.width + (p + b)) 0) (get_or_past word c [] (subst (λ k. k ≤ c) (sym coded.count) past)))
        | inl inside ↦
            ap (λ l. get_or l (n * w + b) 0) (there c inside)
            ∙ elim (cases_lt n (layer_count g)) [
              | inl low ↦
                  at (get_or word c []) (n * w + b) (place_below n (layer_count g) w b low hb)
                  ∙ (λ k. get_or (get_or word c []) (div-mul-add n w b hb k * g.width + (p + mod-mul-add n w b hb k)) 0)
              | inr high ↦
                  get_or_past (range_of_chunk g p w (get_or word c [])) (n * w + b) 0 (subst (λ k. k ≤ n * w + b) (sym (long (get_or word c []))) (scaled (layer_count g) n w b high))
                  ∙ sym (get_or_past (get_or word c []) (n * g.width + (p + b)) 0 (subst (λ k. k ≤ n * g.width + (p + b)) (sym (coded.lengths c inside)) (scaled (layer_count g) n g.width (p + b) high)))
            ]
      ]

  value : (b : ℕ) → b < w → (i : ℕ) (z : List ℕ) → coupled_value g word (p + b) i z ≡ coupled_value (of_width g w) (map (range_of_chunk g p w) word) b i z
  value b hb i z = ap (cond (is_virtual g i) 0) (sym (byte (chunk_of_node g i) (index_of (row_count g) z) b hb))

  pub range_coded : IsCodeword (of_width g w) (map (range_of_chunk g p w) word)
  range_coded = record {
    count = length-map word (range_of_chunk g p w) ∙ coded.count;
    lengths = λ c h. ap length (there c h) ∙ long (get_or word c []);
    bytes = small;
    sums = λ b hb.
        let within : p + b < g.width = omega (arith, hb, fits) in
        subst (λ (f : ℕ → List ℕ → ℕ). HasZeroSums (row_count g) (column_count g) g.parity_count f) (λ k i z. value b hb i z k) (coded.sums (p + b) within);
  }

pub ranges_are_coded : (g : Shape) → RangesAreCoded g
ranges_are_coded g p w word fits coded = range_coded g p w word fits coded
