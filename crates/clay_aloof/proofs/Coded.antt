-- Any parts of helpers that fit are those of a codeword: at each byte the code that extends them, as chunks.
use Rattle.std.proofs.Common.{◌≡◌, ◌≢◌, ℕ, subst, ◌+◌, ◌*◌, ◌/◌, ◌%◌, ◌^◌, ◌<◌, ◌≤◌, Bool, true, false, cond, ◌||◌, List, [], map, length, get_or, Option, Some, None, IfSome, is_none, refl, sym, ap, ◌∙◌, inl, inr, arith, lit<}
use Rattle.std.specs.List.{range_with_len}
use Rattle.std.proofs.lemmas.Bool.{cases_eq, cases_lt, cases_Bool, cond-true, cond-false, cond_both, ne_eqb, true≢false}
use Rattle.std.proofs.lemmas.Nat.{mod_below, div_below, div-mul-add, mod-mul-add, div-add-mod'}
use Rattle.std.proofs.lemmas.List.{ext_get_or, get_or_past}
use Rattle.std.proofs.lemmas.List as lists
use Rattle.std.proofs.lemmas.List.FromFn.{get_or-map-range_with_len, length-map-range_with_len}
use Rattle.clay_grid.specs.Shape.{Shape, column_count, node_count, layer_count, chunk_length}
use Rattle.clay_grid.specs.Layers.{layer_of, index_of, IsLayer}
use Rattle.clay_grid.proofs.LayerLaws.{IsLayer-digits_of, index_of-lt, index_of-digits_of, digits_of-index_of}
use Rattle.clay_model.specs.Coupling.{node_at}
use Rattle.clay_model.specs.Code.{AgreesWith}
use Rattle.clay_model.proofs.Unique.{row_of, node_below}
use Rattle.clay_model.specs.Points.{AreDistinct}
use Rattle.code_laws.proofs.Pieces.{piece_fits, place_below, bytes_everywhere}
use Rattle.clay_model.specs.Left.{parts}
use Rattle.clay_model.specs.RepairParts.{subchunks_at}
use Rattle.code_laws.proofs.Places.{subchunk_at, length-subchunks}
use Rattle.clay_aloof.specs.Shape.{AloofShape, all_chunks, rows_of, grid_of, node_of, is_virtual_node, chunk_at}
use Rattle.clay_aloof.specs.Limits.{IsAloof}
use Rattle.clay_aloof.specs.Code.{coupled_value, IsCodeword}
use Rattle.clay_aloof.specs.Repair.{aloof_layers_of, part_bytes}
use Rattle.clay_aloof.specs.Pieces.{ArePieces, HaveBytes, FitsPieces}
use Rattle.clay_aloof.specs.Rebuilt.{is_unknown}
use Rattle.clay_aloof.specs.Coded.{PartsAreCoded}
use Rattle.clay_aloof.proofs.Filled.{place_in, place_in-at}
use Rattle.clay_aloof.proofs.Layer.{some_rows}
use Rattle.clay_aloof.proofs.Nodes.{node_back, node_real, node_inside, coupled_real, coupled_virtual}
use Rattle.clay_aloof.proofs.Word.{same_sums}
use Rattle.clay_aloof.proofs.Parts.{given_at, given_rising}
use Rattle.clay_aloof.proofs.Put.{length-part}
use Rattle.clay_aloof.proofs.Unknown.{missing_real, unknown_counted}
use Rattle.clay_aloof.proofs.Chosen.{AreFilled, filled_nodes}
use Rattle.clay_aloof.proofs.Extended.{Extends, extended}
use Rattle.clay_aloof.proofs.Shown.{shown_parts, shown_bytes}

-- a part's bytes, and none where there is no part
abbrev bytes_of : Option (List ℕ) → List ℕ
bytes_of None = []
bytes_of (Some v) = v

part_byte : (o : Option (List ℕ)) → ((v : List ℕ) → o ≡ Some v → (i : ℕ) → get_or v i 0 < 2 ^ 8) → (i : ℕ) → get_or (bytes_of o) i 0 < 2 ^ 8
part_byte None each i = lit< tt
part_byte (Some v) each i = each v refl i

module _ (a : AloofShape) (lost : ℕ) (have : List (Option (List ℕ))) (aloof : IsAloof a) (are : ArePieces a lost have) (bytes : HaveBytes have) where
  abbrev q : ℕ
  q = rows_of a

  abbrev g : Shape
  g = grid_of a

  abbrev t : ℕ
  t = column_count (grid_of a)

  abbrev w : ℕ
  w = a.width

  abbrev node : ℕ
  node = node_of a lost

  abbrev layers : List ℕ
  layers = aloof_layers_of a lost

  rows : 0 < q
  rows = some_rows g aloof.grid

  wide : 0 < w
  wide = let some = aloof.limits.width.0 in omega arith

  -- ---- what is known

  -- byte b of what the parts have of a node, at the layers that they have
  known : ℕ → ℕ → List ℕ → ℕ
  known b i z = cond (is_virtual_node a i) 0 (get_or (bytes_of (get_or have (chunk_at a i) None)) (place_in layers (index_of q z) * w + b) 0)

  known_byte : (b i : ℕ) (z : List ℕ) → known b i z < 2 ^ 8
  unfolding known
  known_byte b i z =
      cond_both (is_virtual_node a i) 0 _ (λ v. v < 2 ^ 8) (λ e. lit< tt)
      (λ e. part_byte (get_or have (chunk_at a i) None) (bytes (chunk_at a i)) (place_in layers (index_of q z) * w + b))

  known_virtual : (b i : ℕ) (z : List ℕ) → is_virtual_node a i ≡ true → known b i z ≡ 0
  unfolding known
  known_virtual b i z virtual = cond-true (is_virtual_node a i) 0 _ virtual

  apart : AreDistinct layers
  apart d e h l same = let less = given_rising a lost d e h l in omega (arith, same)

  -- in the layer at place r
  known_part : (b c r : ℕ) (v : List ℕ) → get_or have c None ≡ Some v → r < length layers → known b (node_of a c) (layer_of g (get_or layers r 0)) ≡ get_or v (r * w + b) 0
  unfolding known
  known_part b c r v there h =
      let at = node_real a c (node_of a c) refl in
      let n : ℕ = get_or layers r 0 in
      let number : index_of q (layer_of g n) ≡ n = index_of-digits_of q t n rows (given_at a lost r h).0 in
      cond-false (is_virtual_node a (node_of a c)) 0 _ at.real
      ∙ (λ k. get_or (bytes_of (get_or have (at.chunk k) None)) (place_in layers (number k) * w + b) 0)
      ∙ (λ k. get_or (bytes_of (there k)) (place_in-at layers r apart h k * w + b) 0)

  solved : List Bool
  solved = map (is_unknown a lost have) (range_with_len 0 (node_count g))

  solved_at : (i : ℕ) → i < node_count g → get_or solved i false ≡ is_unknown a lost have i
  unfolding solved
  solved_at i h = get_or-map-range_with_len (is_unknown a lost have) 0 (node_count g) i i false h (omega arith)

  made : (filled : List Bool) × AreFilled a lost have filled
  made = filled_nodes a lost have aloof are.chunk are.fit

  filled : List Bool
  filled = made.0

  is_filled : AreFilled a lost have filled
  unfolding filled
  is_filled = made.1

  node_is : node_at q (node % q) (node / q) ≡ node
  node_is = div-add-mod' node q

  -- a node of another column that isn't filled up has a part, or is virtual
  known_apart : (x y : ℕ) → x < q → y < t → y ≢ node / q → get_or filled (node_at q x y) false ≡ false → get_or solved (node_at q x y) false ≡ false
  known_apart x y hx hy other kept =
      let i : ℕ = node_at q x y in
      let inside : i < node_count g = node_below q t x y hx hy in
      let column : i / q ≡ y = div-mul-add y q x hx in
      let differs : i ≢ node = λ same. other (sym column ∙ ap (λ v. v / q) same) in
      solved_at i inside
      ∙ (λ k. ne_eqb (i / q) (node / q) (λ e. other (sym column ∙ e)) k || is_filled.missing i inside differs kept k)

  found : (b : ℕ) → (c : ℕ → List ℕ → ℕ) × Extends q t a.parity_count (node % q) (node / q) solved filled (known b) c
  found b = extended q t a.parity_count (node % q) (node / q) solved filled (known b) (record {
    rows = rows;
    small = let few = aloof.grid.nodes in omega arith;
    row = mod_below node q rows;
    column = row_of q t node rows (node_inside a lost aloof are.chunk);
    bytes = known_byte b;
    solved_count = unknown_counted a lost have solved aloof are.chunk are.fit solved_at;
    filled_count = is_filled.counted;
    lost_kept = ap (λ i. get_or filled i false) node_is ∙ is_filled.lost_kept;
    known = known_apart;
  })

  code : ℕ → ℕ → List ℕ → ℕ
  code b = (found b).0

  extends : (b : ℕ) → Extends q t a.parity_count (node % q) (node / q) solved filled (known b) (code b)
  unfolding code
  extends b = (found b).1

  -- ---- its chunks

  chunk : ℕ → List ℕ
  chunk c = map (λ p. code (p % w) (node_of a c) (layer_of g (p / w))) (range_with_len 0 (chunk_length g))

  word : List (List ℕ)
  word = map chunk (range_with_len 0 (all_chunks a))

  word_count : length word ≡ all_chunks a
  unfolding word
  word_count = length-map-range_with_len chunk 0 (all_chunks a)

  word_at : (c : ℕ) → c < all_chunks a → get_or word c [] ≡ chunk c
  unfolding word
  word_at c h = get_or-map-range_with_len chunk 0 (all_chunks a) c c [] h (omega arith)

  chunk_long : (c : ℕ) → c < all_chunks a → length (get_or word c []) ≡ chunk_length g
  unfolding chunk
  chunk_long c h = ap length (word_at c h) ∙ length-map-range_with_len (λ p. code (p % w) (node_of a c) (layer_of g (p / w))) 0 (chunk_length g)

  chunk_at_place : (c p : ℕ) → c < all_chunks a → p < chunk_length g → get_or (get_or word c []) p 0 ≡ code (p % w) (node_of a c) (layer_of g (p / w))
  unfolding chunk
  chunk_at_place c p h l =
      ap (λ xs. get_or xs p 0) (word_at c h)
      ∙ get_or-map-range_with_len (λ p. code (p % w) (node_of a c) (layer_of g (p / w))) 0 (chunk_length g) p p 0 l (omega arith)

  chunk_is : (c n b : ℕ) → c < all_chunks a → n < layer_count g → b < w → get_or (get_or word c []) (n * w + b) 0 ≡ code b (node_of a c) (layer_of g n)
  chunk_is c n b h l hb =
      chunk_at_place c (n * w + b) h (place_below n (layer_count g) w b l hb)
      ∙ (λ k. code (mod-mul-add n w b hb k) (node_of a c) (layer_of g (div-mul-add n w b hb k)))

  word_bytes : (c p : ℕ) → get_or (get_or word c []) p 0 < 2 ^ 8
  word_bytes c p =
      elim (cases_lt c (all_chunks a)) [
        | inl there ↦ bytes_everywhere (get_or word c []) (λ i h.
            subst (λ v. v < 2 ^ 8) (sym (chunk_at_place c i there (subst (λ n. i < n) (chunk_long c there) h)))
            ((extends (i % w)).bytes (node_of a c) (layer_of g (i / w)))) p
        | inr past ↦ subst (λ xs. get_or xs p 0 < 2 ^ 8) (sym (get_or_past word c [] (subst (λ n. n ≤ c) (sym word_count) past))) (lit< tt)
      ]

  values : (b i : ℕ) (z : List ℕ) → b < w → i < q * t → IsLayer q t z → coupled_value a word b i z ≡ code b i z
  values b i z hb hi layer =
      let n : ℕ = index_of q z in
      let below : n < layer_count g = index_of-lt q t z layer in
      let back : layer_of g n ≡ z = digits_of-index_of q t z rows layer in
      let numbered : coupled_value a word b i (layer_of g n) ≡ code b i (layer_of g n) =
      elim (cases_Bool (is_virtual_node a i)) [
        | inl virtual ↦
            let differs : i ≢ node_at q (node % q) (node / q) = λ same.
            true≢false (sym virtual ∙ ap (is_virtual_node a) (same ∙ node_is) ∙ (node_real a lost node refl).real) in
            coupled_virtual a word b i (layer_of g n) virtual
            ∙ sym ((extends b).kept i (layer_of g n) (is_filled.virtual_kept i virtual) differs ∙ known_virtual b i (layer_of g n) virtual)
        | inr real ↦
            let c = node_back a i aloof hi real in
            coupled_real a word (chunk_at a i) i n b rows below (record { real = real; chunk = refl })
            ∙ chunk_is (chunk_at a i) n b c.0 below hb
            ∙ ap (λ v. code b v (layer_of g n)) c.1
      ] in
      subst (λ y. coupled_value a word b i y ≡ code b i y) back numbered

  is_codeword : IsCodeword a word
  is_codeword = record {
    count = word_count;
    lengths = chunk_long;
    bytes = word_bytes;
    sums = λ b hb. same_sums q t a.parity_count (coupled_value a word b) (code b) rows (λ i z h layer. values b i z hb h layer) (extends b).sums;
  }

  -- ---- its parts

  layer_is : (r : ℕ) → r < length layers → IsLayer q t (layer_of g (get_or layers r 0))
  layer_is r h = IsLayer-digits_of q t (get_or layers r 0) rows

  code_known : (b c r : ℕ) (v : List ℕ) → c < all_chunks a → get_or have c None ≡ Some v → r < length layers
      → code b (node_of a c) (layer_of g (get_or layers r 0)) ≡ known b (node_of a c) (layer_of g (get_or layers r 0))
  code_known b c r v hc there h =
      let i : ℕ = node_of a c in
      let z : List ℕ = layer_of g (get_or layers r 0) in
      let inside : i < node_count g = node_inside a c aloof hc in
      let hx : i % q < q = mod_below i q rows in
      let hy : i / q < t = row_of q t i rows inside in
      let own : node_at q (i % q) (i / q) ≡ i = div-add-mod' i q in
      let given : get_or z (node / q) 0 ≡ node % q = (given_at a lost r h).1 in
      elim (cases_eq (i / q) (node / q)) [
        | inl column ↦
            let own_row : node_at q (i % q) (node / q) ≡ i = ap (node_at q (i % q)) (sym column) ∙ own in
            let differs : i % q ≢ node % q = λ same.
            let lost_is : c ≡ lost =
            sym (node_real a c i refl).chunk ∙ ap (chunk_at a) (sym own_row ∙ ap (λ x. node_at q x (node / q)) same ∙ node_is) ∙ (node_real a lost node refl).chunk in
            absurd (let both : None ≡ Some v = sym are.fit.none ∙ ap (λ k. get_or have k None) (sym lost_is) ∙ there in cc) in
            subst (λ j. code b j z ≡ known b j z) own_row ((extends b).in_column (i % q) z hx differs (layer_is r h) given)
        | inr other ↦
            let present : get_or solved (node_at q (i % q) (i / q)) false ≡ false =
            ap (λ j. get_or solved j false) own
            ∙ solved_at i inside
            ∙ (λ k. ne_eqb (i / q) (node / q) other k || (missing_real a have c i (node_real a c i refl) ∙ ap is_none there) k) in
            subst (λ j. code b j z ≡ known b j z) own ((extends b).elsewhere (i % q) (i / q) z hx hy other present (layer_is r h) given)
      ]

  part_is : (c : ℕ) (v : List ℕ) → c < all_chunks a → get_or have c None ≡ Some v → subchunks_at w (get_or word c []) layers ≡ v
  part_is c v hc there =
      let xs : List ℕ = get_or word c [] in
      let fit : (r : ℕ) → r < length layers → get_or layers r 0 * w + w ≤ length xs =
      λ r h. subst (λ l. get_or layers r 0 * w + w ≤ l) (sym (chunk_long c hc)) (piece_fits (get_or layers r 0) (layer_count g) w (given_at a lost r h).0) in
      let long : length (subchunks_at w xs layers) ≡ length layers * w = length-subchunks w xs layers fit in
      let size : length v ≡ part_bytes a = subst (λ o. IfSome o (λ p. length p ≡ part_bytes a)) there (are.lengths c None (subst (λ n. c < n) (sym are.fit.count) hc)) in
      ext_get_or 0 (subchunks_at w xs layers) v (long ∙ length-part a lost aloof are.chunk ∙ sym size) (λ p hp.
      let place : p < length layers * w = subst (λ n. p < n) long hp in
      let r : ℕ = p / w in
      let b : ℕ = p % w in
      let hr : r < length layers = div_below p w (length layers) wide place in
      let hb : b < w = mod_below p w wide in
      let is : r * w + b ≡ p = div-add-mod' p w in
      ap (λ k. get_or (subchunks_at w xs layers) k 0) (sym is)
      ∙ subchunk_at w xs layers r b fit hr hb
      ∙ chunk_is c (get_or layers r 0) b hc (given_at a lost r hr).0 hb
      ∙ code_known b c r v hc there hr
      ∙ known_part b c r v there hr
      ∙ ap (λ k. get_or v k 0) is)

  agrees : AgreesWith have (map (λ xs. subchunks_at w xs layers) word)
  agrees c v there = elim (cases_lt c (length have)) [
    | inl within ↦
        let hc : c < all_chunks a = subst (λ n. c < n) are.fit.count within in
        lists.get_or-map (λ xs. subchunks_at w xs layers) word c [] [] (subst (λ n. c < n) (sym word_count) hc) ∙ part_is c v hc there
    | inr past ↦ absurd (let none : None ≡ Some v = sym (get_or_past have c None past) ∙ there in cc)
  ]

pub pieces_are_coded : (a : AloofShape) (lost : ℕ) (have : List (Option (List ℕ))) → IsAloof a → ArePieces a lost have → HaveBytes have → (word : List (List ℕ)) × FitsPieces a lost have word
pieces_are_coded a lost have aloof are bytes = (
  word a lost have aloof are bytes,
  record { codeword = is_codeword a lost have aloof are bytes; agrees = agrees a lost have aloof are bytes },
)

pub parts_are_coded : PartsAreCoded
parts_are_coded a lost have aloof are bytes =
    let found = pieces_are_coded a lost (parts have) aloof (shown_parts a lost have are) (shown_bytes have bytes) in
    (found.0, record { codeword = found.1.codeword; agrees = found.1.agrees })
