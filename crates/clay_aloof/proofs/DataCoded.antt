-- Any data chunks are those of a codeword: at each byte the code that fills them up at the parity nodes, as chunks.
use Rattle.std.proofs.Common.{◌≡◌, ℕ, subst, ◌+◌, ◌*◌, ◌/◌, ◌%◌, ◌^◌, ◌<◌, ◌≤◌, Bool, false, not, nat_lt, cond, List, [], map, length, get_or, refl, sym, ap, ◌∙◌, inl, inr, arith, lit<}
use Rattle.std.specs.List.{range_with_len}
use Rattle.std.proofs.lemmas.Bool.{cases_lt, cases_Bool, cond-true, cond-false, cond_both, lt-ltb, le-ltb}
use Rattle.std.proofs.lemmas.Nat.{mod_below, div_below, div-mul-add, mod-mul-add, div-add-mod'}
use Rattle.std.proofs.lemmas.List.{ext_get_or, get_or_past}
use Rattle.std.proofs.lemmas.List.FromFn.{get_or-map-range_with_len, length-map-range_with_len}
use Rattle.clay_grid.specs.Shape.{Shape, column_count, node_count, virtual_count, layer_count, chunk_length}
use Rattle.clay_grid.specs.Layers.{layer_of, index_of, IsLayer}
use Rattle.clay_grid.proofs.LayerLaws.{index_of-lt, index_of-digits_of, digits_of-index_of}
use Rattle.code_laws.proofs.Pieces.{place_below, bytes_everywhere}
use Rattle.clay_aloof.specs.Shape.{AloofShape, all_chunks, rows_of, grid_of, node_of, is_virtual_node, chunk_at}
use Rattle.clay_aloof.specs.Limits.{IsAloof}
use Rattle.clay_aloof.specs.Code.{coupled_value, IsCodeword}
use Rattle.clay_aloof.specs.Filled.{Fills}
use Rattle.clay_aloof.proofs.Filled.{codes_filled}
use Rattle.clay_aloof.proofs.Layer.{some_rows}
use Rattle.clay_aloof.proofs.Nodes.{nodes_are, node_back, node_early, node_late, virtual_place, coupled_real, coupled_virtual}
use Rattle.clay_aloof.proofs.Parity.{parity_counted}
use Rattle.clay_aloof.proofs.Word.{same_sums}

module _ (a : AloofShape) (given : List (List ℕ)) (aloof : IsAloof a) (bytes : (c p : ℕ) → get_or (get_or given c []) p 0 < 2 ^ 8) where
  abbrev q : ℕ
  q = rows_of a

  abbrev g : Shape
  g = grid_of a

  abbrev t : ℕ
  t = column_count (grid_of a)

  abbrev w : ℕ
  w = a.width

  rows : 0 < q
  rows = some_rows g aloof.grid

  wide : 0 < w
  wide = let some = aloof.limits.width.0 in omega arith

  -- what is known: the data, and zeros elsewhere
  known : ℕ → ℕ → List ℕ → ℕ
  known b i z = cond (nat_lt i a.data_count) (get_or (get_or given i []) (index_of q z * w + b) 0) 0

  known_byte : (b i : ℕ) (z : List ℕ) → known b i z < 2 ^ 8
  unfolding known
  known_byte b i z = cond_both (nat_lt i a.data_count) _ 0 (λ v. v < 2 ^ 8) (λ e. bytes i (index_of q z * w + b)) (λ e. lit< tt)

  erased : List Bool
  erased = map (λ i. not (nat_lt i (node_of a a.data_count))) (range_with_len 0 (node_count g))

  erased_at : (i : ℕ) → i < node_count g → get_or erased i false ≡ not (nat_lt i (node_of a a.data_count))
  unfolding erased
  erased_at i h = get_or-map-range_with_len (λ i. not (nat_lt i (node_of a a.data_count))) 0 (node_count g) i i false h (omega arith)

  found : (b : ℕ) → (c : ℕ → List ℕ → ℕ) × Fills q t a.parity_count erased (known b) c
  found b = codes_filled q t a.parity_count erased (known b) rows (let few = aloof.grid.nodes in omega arith) (parity_counted a erased aloof erased_at) (known_byte b)

  code : ℕ → ℕ → List ℕ → ℕ
  code b = (found b).0

  fills : (b : ℕ) → Fills q t a.parity_count erased (known b) (code b)
  unfolding code
  fills b = (found b).1

  -- a node before the parity nodes has what is known
  code_known : (b i : ℕ) (z : List ℕ) → i < a.data_count + virtual_count g → code b i z ≡ known b i z
  code_known b i z h =
      let first : node_of a a.data_count ≡ a.data_count + virtual_count g = node_late a a.data_count (omega arith) in
      let low : i < node_of a a.data_count = subst (λ n. i < n) (sym first) h in
      let inside : i < node_count g = subst (λ n. i < n) (sym (nodes_are a aloof)) (more i a.data_count a.parity_count (virtual_count g) h) in
      (fills b).agrees i z (erased_at i inside ∙ ap not (lt-ltb i (node_of a a.data_count) low))
    where
      more : (i k m v : ℕ) → i < k + v → i < k + m + v
      more i k m v h = omega arith

  -- ---- its chunks

  chunk : ℕ → List ℕ
  chunk c = map (λ p. code (p % w) (node_of a c) (layer_of g (p / w))) (range_with_len 0 (chunk_length g))

  word : List (List ℕ)
  word = map chunk (range_with_len 0 (all_chunks a))

  word_count : length word ≡ all_chunks a
  unfolding word
  word_count = length-map-range_with_len chunk 0 (all_chunks a)

  word_at : (c : ℕ) → c < all_chunks a → get_or word c [] ≡ chunk c
  unfolding word
  word_at c h = get_or-map-range_with_len chunk 0 (all_chunks a) c c [] h (omega arith)

  chunk_long : (c : ℕ) → c < all_chunks a → length (get_or word c []) ≡ chunk_length g
  unfolding chunk
  chunk_long c h = ap length (word_at c h) ∙ length-map-range_with_len (λ p. code (p % w) (node_of a c) (layer_of g (p / w))) 0 (chunk_length g)

  chunk_at_place : (c p : ℕ) → c < all_chunks a → p < chunk_length g → get_or (get_or word c []) p 0 ≡ code (p % w) (node_of a c) (layer_of g (p / w))
  unfolding chunk
  chunk_at_place c p h l =
      ap (λ xs. get_or xs p 0) (word_at c h)
      ∙ get_or-map-range_with_len (λ p. code (p % w) (node_of a c) (layer_of g (p / w))) 0 (chunk_length g) p p 0 l (omega arith)

  chunk_is : (c n b : ℕ) → c < all_chunks a → n < layer_count g → b < w → get_or (get_or word c []) (n * w + b) 0 ≡ code b (node_of a c) (layer_of g n)
  chunk_is c n b h l hb =
      chunk_at_place c (n * w + b) h (place_below n (layer_count g) w b l hb)
      ∙ (λ k. code (mod-mul-add n w b hb k) (node_of a c) (layer_of g (div-mul-add n w b hb k)))

  word_bytes : (c p : ℕ) → get_or (get_or word c []) p 0 < 2 ^ 8
  word_bytes c p =
      elim (cases_lt c (all_chunks a)) [
        | inl there ↦ bytes_everywhere (get_or word c []) (λ i h.
            subst (λ v. v < 2 ^ 8) (sym (chunk_at_place c i there (subst (λ n. i < n) (chunk_long c there) h)))
            ((fills (i % w)).bytes (node_of a c) (layer_of g (i / w)))) p
        | inr past ↦ subst (λ xs. get_or xs p 0 < 2 ^ 8) (sym (get_or_past word c [] (subst (λ n. n ≤ c) (sym word_count) past))) (lit< tt)
      ]

  values : (b i : ℕ) (z : List ℕ) → b < w → i < q * t → IsLayer q t z → coupled_value a word b i z ≡ code b i z
  unfolding known
  values b i z hb hi layer =
      let n : ℕ = index_of q z in
      let below : n < layer_count g = index_of-lt q t z layer in
      let back : layer_of g n ≡ z = digits_of-index_of q t z rows layer in
      let numbered : coupled_value a word b i (layer_of g n) ≡ code b i (layer_of g n) =
      elim (cases_Bool (is_virtual_node a i)) [
        | inl virtual ↦
            let place = virtual_place a i virtual in
            coupled_virtual a word b i (layer_of g n) virtual
            ∙ sym (code_known b i (layer_of g n) place.1 ∙ cond-false (nat_lt i a.data_count) _ 0 (le-ltb i a.data_count place.0))
        | inr real ↦
            let c = node_back a i aloof hi real in
            coupled_real a word (chunk_at a i) i n b rows below (record { real = real; chunk = refl })
            ∙ chunk_is (chunk_at a i) n b c.0 below hb
            ∙ ap (λ v. code b v (layer_of g n)) c.1
      ] in
      subst (λ y. coupled_value a word b i y ≡ code b i y) back numbered

  is_codeword : IsCodeword a word
  is_codeword = record {
    count = word_count;
    lengths = chunk_long;
    bytes = word_bytes;
    sums = λ b hb. same_sums q t a.parity_count (coupled_value a word b) (code b) rows (λ i z h layer. values b i z hb h layer) (fills b).sums;
  }

  -- ---- its data

  data_is : (c : ℕ) → c < a.data_count → length (get_or given c []) ≡ chunk_length g → get_or word c [] ≡ get_or given c []
  unfolding known
  data_is c h long =
      let inside : c < all_chunks a = omega arith in
      let early : c < a.data_count + virtual_count g = omega arith in
      ext_get_or 0 (get_or word c []) (get_or given c []) (chunk_long c inside ∙ sym long) (λ p hp.
      let place : p < chunk_length g = subst (λ n. p < n) (chunk_long c inside) hp in
      let n : ℕ = p / w in
      let b : ℕ = p % w in
      let below : n < layer_count g = div_below p w (layer_count g) wide place in
      let split : n * w + b ≡ p = div-add-mod' p w in
      ap (λ u. get_or (get_or word c []) u 0) (sym split)
      ∙ chunk_is c n b inside below (mod_below p w wide)
      ∙ ap (λ i. code b i (layer_of g n)) (node_early a c h)
      ∙ code_known b c (layer_of g n) early
      ∙ cond-true (nat_lt c a.data_count) _ 0 (lt-ltb c a.data_count h)
      ∙ ap (λ v. get_or (get_or given c []) (v * w + b) 0) (index_of-digits_of q t n rows below)
      ∙ ap (λ u. get_or (get_or given c []) u 0) split)

-- a codeword that has these data chunks
pub record HasData (a : AloofShape) (given word : List (List ℕ)) : Type 0 where
  pub codeword : IsCodeword a word
  pub same : (c : ℕ) → c < a.data_count → length (get_or given c []) ≡ chunk_length (grid_of a) → get_or word c [] ≡ get_or given c []

pub data_coded : (a : AloofShape) (given : List (List ℕ)) → IsAloof a → ((c p : ℕ) → get_or (get_or given c []) p 0 < 2 ^ 8) → (word : List (List ℕ)) × HasData a given word
data_coded a given aloof bytes = (word a given aloof bytes, record { codeword = is_codeword a given aloof bytes; same = data_is a given aloof bytes })
