-- The bytes of the nodes' chunks, from where they stand.
use Rattle.std.proofs.Common.{◌≡◌, ◌≢◌, ℕ, subst, ◌+◌, ◌*◌, ◌/◌, ◌%◌, ◌<◌, ◌≤◌, true, cond, nat_lt, map, length, get_or, set, replicate, Option, Some, None, IfSome, refl, sym, ap, ◌∙◌, inl, inr, arith, take, drop, mul-le-mul_right, List, [], ◌∷◌, ◌++◌}
use Rattle.std.specs.List.{range_with_len}
use Rattle.std.proofs.lemmas.Bool.{cases_eq, cases_lt, cond-true, cond-false, lt-ltb, le-ltb, true≢false}
use Rattle.std.proofs.lemmas.Nat.{mod_below, div_below, div-mul-add, mod-mul-add, div-add-mod'}
use Rattle.std.proofs.lemmas.List.{get_or_past, get_or-set_same, get_or-set_other, get_or-take, get_or-drop, get_or-replicate, get_or_push, get_or_append_left}
use Rattle.std.proofs.lemmas.List.FromFn.{get_or-map-range_with_len, length-map-range_with_len}
use Rattle.clay_grid.specs.Shape.{Shape, node_count, virtual_count, layer_count, chunk_length}
use Rattle.code_laws.proofs.Pieces.{place_below, piece_fits}
use Rattle.clay_aloof.specs.Shape.{AloofShape, all_chunks, grid_of, stripe_bytes, node_of, is_virtual_node}
use Rattle.clay_aloof.specs.Limits.{IsAloof}
use Rattle.clay_aloof.specs.Repair.{aloof_layers_of, part_bytes}
use Rattle.clay_aloof.specs.Pieces.{ArePieces}
use Rattle.clay_aloof.specs.Encoded.{IsSpread}
use Rattle.clay_aloof.specs.Rebuilt.{IsEntry, ArePut}
use Rattle.clay_aloof.specs.Solved.{HasPlaces}
use Rattle.clay_aloof.specs.Known.{part_byte, source_byte, entry_byte, node_byte, byte_at, node_bytes, shown_byte, shown_bytes}
use Rattle.clay_aloof.specs.declared.known.Known.{Known}
use Rattle.clay_aloof.specs.declared.known.Tables.{Tables}
use Rattle.clay_aloof.proofs.Layer.{some_rows}
use Rattle.clay_aloof.proofs.Nodes.{nodes_are, node_real, node_inside, middle_node, virtual_place}
use Rattle.clay_aloof.proofs.Parity.{stripe_fits}
use Rattle.clay_aloof.proofs.Parts.{given_at}
use Rattle.clay_aloof.proofs.Put.{length-part}

flat_place : (i l n w b : ℕ) → (i * l + n) * w + b ≡ i * (l * w) + (n * w + b)
flat_place i l n w b = omega arith

pub length-node_bytes : (g : Shape) (known : Known) → length (node_bytes g known) ≡ node_count g * chunk_length g
length-node_bytes g known = length-map-range_with_len (byte_at g known) 0 (node_count g * chunk_length g)

place_byte : (g : Shape) (known : Known) (p : ℕ) → p < node_count g * chunk_length g → get_or (node_bytes g known) p 0 ≡ byte_at g known p
place_byte g known p h = get_or-map-range_with_len (byte_at g known) 0 (node_count g * chunk_length g) p p 0 h (omega arith)

-- a list of the bytes of each node's chunk has byte b of subchunk n of node i at its place
bytes_at : (g : Shape) (F : ℕ → ℕ → ℕ → ℕ) (i n b : ℕ) → i < node_count g → n < layer_count g → b < g.width
    → get_or (map (λ p. F (p / chunk_length g) (p % chunk_length g / g.width) (p % chunk_length g % g.width)) (range_with_len 0 (node_count g * chunk_length g))) ((i * layer_count g + n) * g.width + b) 0
    ≡ F i n b
bytes_at g F i n b hi hn hb =
    let len : ℕ = chunk_length g in
    let r : ℕ = n * g.width + b in
    let at : ℕ → ℕ = λ p. F (p / chunk_length g) (p % chunk_length g / g.width) (p % chunk_length g % g.width) in
    let inside : r < len = place_below n (layer_count g) g.width b hn hb in
    let below : i * len + r < node_count g * len = place_below i (node_count g) len r hi inside in
    let node : (i * len + r) / len ≡ i = div-mul-add i len r inside in
    let rest : (i * len + r) % len ≡ r = mod-mul-add i len r inside in
    let layer : (i * len + r) % len / g.width ≡ n = ap (λ v. v / g.width) rest ∙ div-mul-add n g.width b hb in
    let byte : (i * len + r) % len % g.width ≡ b = ap (λ v. v % g.width) rest ∙ mod-mul-add n g.width b hb in
    ap (λ p. get_or (map at (range_with_len 0 (node_count g * chunk_length g))) p 0) (flat_place i (layer_count g) n g.width b)
    ∙ get_or-map-range_with_len at 0 (node_count g * chunk_length g) (i * len + r) (i * len + r) 0 below (omega arith)
    ∙ (λ k. F (node k) (layer k) (byte k))

pub node_bytes_at : (g : Shape) (known : Known) (i n b : ℕ) → i < node_count g → n < layer_count g → b < g.width
    → get_or (node_bytes g known) ((i * layer_count g + n) * g.width + b) 0 ≡ node_byte g known i n b
node_bytes_at g known i n b hi hn hb = bytes_at g (node_byte g known) i n b hi hn hb

pub shown_bytes_at : (g : Shape) (pieces : List (Option (List ℕ))) (tables : Tables) (i n b : ℕ) → i < node_count g → n < layer_count g → b < g.width
    → get_or (shown_bytes g pieces tables) ((i * layer_count g + n) * g.width + b) 0 ≡ shown_byte g pieces tables (get_or tables.chunks.items i None) n b
shown_bytes_at g pieces tables i n b hi hn hb = bytes_at g (λ j m v. shown_byte g pieces tables (get_or tables.chunks.items j None) m v) i n b hi hn hb

-- ---- pieces

pub cut_byte : (start k w p b : ℕ) (s : List ℕ) → k ≡ w → start + b ≡ p → b < w → get_or (take k (drop start s)) b 0 ≡ get_or s p 0
cut_byte start k w p b s width place hb =
    get_or-take k (drop start s) b 0 (subst (λ n. b < n) (sym width) hb)
    ∙ get_or-drop start s b 0
    ∙ ap (λ q. get_or s q 0) place

pub zero_byte : (w b : ℕ) (zeros : List ℕ) → zeros ≡ replicate w 0 → b < w → get_or zeros b 0 ≡ 0
zero_byte w b zeros empty hb = ap (λ l. get_or l b 0) empty ∙ get_or-replicate w b 0 0 hb

module _ (g : Shape) (known : Known) (i n : ℕ) (hi : i < node_count g) (hn : n < layer_count g) where
  pub no_piece : (zeros : List ℕ) → zeros ≡ replicate g.width 0 → get_or known.tables.now.chunks.items i None ≡ None → (b : ℕ) → b < g.width
      → get_or zeros b 0 ≡ get_or (node_bytes g known) ((i * layer_count g + n) * g.width + b) 0
  no_piece zeros empty none b hb =
      zero_byte g.width b zeros empty hb ∙ sym (node_bytes_at g known i n b hi hn hb ∙ ap (λ o. entry_byte g known o n b) none)

  pub is_piece : (out : List ℕ) (c place : ℕ) → get_or known.tables.now.chunks.items i None ≡ Some c → place ≡ get_or known.tables.now.places.items n 0
      → ((b : ℕ) → b < g.width → get_or out b 0 ≡ source_byte g known.source c place b) → (b : ℕ) → b < g.width
      → get_or out b 0 ≡ get_or (node_bytes g known) ((i * layer_count g + n) * g.width + b) 0
  is_piece out c place entry placed is b hb =
      is b hb
      ∙ ap (λ p. source_byte g known.source c p b) placed
      ∙ sym (node_bytes_at g known i n b hi hn hb ∙ ap (λ o. entry_byte g known o n b) entry)

-- ---- a stripe

past_chunks : (k p len : ℕ) → 0 < len → k * len ≤ p → p / len < k → ⊥
past_chunks k p len some high low =
    let fits : p / len * len + len ≤ k * len = piece_fits (p / len) k len low in
    let split : p / len * len + p % len ≡ p = div-add-mod' p len in
    let rest : p % len < len = mod_below p len some in
    omega (arith, fits, split, rest, high)

pub spread : (a : AloofShape) (stripe : List ℕ) (known : Known) → IsAloof a → length stripe ≡ stripe_bytes a
    → ((i : ℕ) → i < node_count (grid_of a) → get_or known.tables.now.chunks.items i None ≡ cond (nat_lt i a.data_count) (Some i) None)
    → ((n : ℕ) → n < layer_count (grid_of a) → get_or known.tables.now.places.items n 0 ≡ n)
    → ((c place b : ℕ) → source_byte (grid_of a) known.source c place b ≡ get_or stripe (c * chunk_length (grid_of a) + (place * a.width + b)) 0)
    → IsSpread a stripe (node_bytes (grid_of a) known)
spread a stripe known aloof whole chunks places source =
    let g : Shape = grid_of a in
    let len : ℕ = chunk_length g in
    let w : ℕ = a.width in
    let wide : 0 < w = (let some = aloof.limits.width.0 in omega arith) in
    let rows : 0 < layer_count g = (let some = aloof.grid.some_layers in let more = some_rows g aloof.grid in omega arith) in
    let one : 1 ≤ layer_count g = omega (arith, rows) in
    let more : 1 * w ≤ layer_count g * w = mul-le-mul_right w one in
    let long : 0 < len = omega (arith, more, wide) in
    let fits : stripe_bytes a ≤ node_count g * len = stripe_fits a aloof in
    record {
      whole = length-node_bytes g known;
      front = λ p h.
          let early : p < a.data_count * len = subst (λ n. p < n) whole h in
          let below : p < node_count g * len = omega (arith, early, fits) in
          let i : ℕ = p / len in
          let r : ℕ = p % len in
          let hi : i < a.data_count = div_below p len a.data_count long early in
          let hin : i < node_count g = div_below p len (node_count g) long below in
          let hr : r < len = mod_below p len long in
          let hn : r / w < layer_count g = div_below r w (layer_count g) wide hr in
          let entry : get_or known.tables.now.chunks.items i None ≡ Some i = chunks i hin ∙ cond-true (nat_lt i a.data_count) (Some i) None (lt-ltb i a.data_count hi) in
          let piece : r / w * w + r % w ≡ r = div-add-mod' r w in
          place_byte g known p below
          ∙ ap (λ o. entry_byte g known o (r / w) (r % w)) entry
          ∙ source i (get_or known.tables.now.places.items (r / w) 0) (r % w)
          ∙ ap (λ v. get_or stripe (i * len + (v * w + r % w)) 0) (places (r / w) hn)
          ∙ ap (λ v. get_or stripe (i * len + v) 0) piece
          ∙ ap (λ v. get_or stripe v 0) (div-add-mod' p len);
      rest = λ p h. elim (cases_lt p (node_count g * len)) [
        | inl below ↦
            let late : a.data_count * len ≤ p = subst (λ n. n ≤ p) whole h in
            let i : ℕ = p / len in
            let hin : i < node_count g = div_below p len (node_count g) long below in
            let past : a.data_count ≤ i = elim (cases_lt i a.data_count) [ inl low ↦ absurd (past_chunks a.data_count p len long late low) | inr high ↦ high ] in
            let entry : get_or known.tables.now.chunks.items i None ≡ None = chunks i hin ∙ cond-false (nat_lt i a.data_count) (Some i) None (le-ltb i a.data_count past) in
            place_byte g known p below ∙ ap (λ o. entry_byte g known o (p % len / w) (p % len % w)) entry
        | inr beyond ↦ get_or_past (node_bytes g known) p 0 (subst (λ n. n ≤ p) (sym (length-node_bytes g known)) beyond)
      ];
    }

value_of : Option ℕ → ℕ
value_of None = 0
value_of (Some x) = x

pub stripe_room : (a : AloofShape) (stripe : List ℕ) (i n e place : ℕ) → length stripe ≡ stripe_bytes a → n < layer_count (grid_of a) → place ≡ n → cond (nat_lt i a.data_count) (Some i) None ≡ Some e
    → e * chunk_length (grid_of a) + (place * a.width + a.width) ≤ length stripe
unfolding value_of
stripe_room a stripe i n e place whole hn is entry =
    let g : Shape = grid_of a in
    let len : ℕ = chunk_length g in
    elim (cases_lt i a.data_count) [
      | inl early ↦
          let same : i ≡ e = ap value_of (sym (cond-true (nat_lt i a.data_count) (Some i) None (lt-ltb i a.data_count early)) ∙ entry) in
          let piece : n * a.width + a.width ≤ len = piece_fits n (layer_count g) a.width hn in
          let chunk : i * len + len ≤ a.data_count * len = piece_fits i a.data_count len early in
          let all : i * len + (n * a.width + a.width) ≤ a.data_count * len = omega (arith, piece, chunk) in
          subst (λ l. e * len + (place * a.width + a.width) ≤ l) (sym whole)
          (subst (λ c. c * len + (place * a.width + a.width) ≤ a.data_count * len) same (subst (λ v. i * len + (v * a.width + a.width) ≤ a.data_count * len) (sym is) all))
      | inr late ↦ absurd (let none : None ≡ Some e = sym (cond-false (nat_lt i a.data_count) (Some i) None (le-ltb i a.data_count late)) ∙ entry in cc)
    ]

-- ---- parts of chunks

-- the first places
pub no_places : (layers places : List ℕ) → ((n : ℕ) → get_or places n 0 ≡ 0) → HasPlaces layers 0 places
no_places layers places zeros = record {
  at = λ i h. absurd (omega arith);
  within = λ some n. subst (λ v. v < length layers) (sym (zeros n)) some;
}

pub places_more : (layers places : List ℕ) (i : ℕ) → i < length layers → get_or layers i 0 < length places → ((j : ℕ) → j < i → get_or layers j 0 ≢ get_or layers i 0)
    → HasPlaces layers i places → HasPlaces layers (i + 1) (set places (get_or layers i 0) i)
places_more layers places i hi inside apart before =
    let z : ℕ = get_or layers i 0 in
    record {
      at = λ j h. elim (cases_eq j i) [
        | inl same ↦ ap (λ v. get_or (set places z i) (get_or layers v 0) 0) same ∙ get_or-set_same places z i 0 inside ∙ sym same
        | inr other ↦
            let below : j < i = omega (arith, h, other) in
            get_or-set_other places z (get_or layers j 0) i 0 (apart j below) ∙ before.at j below
      ];
      within = λ some n. elim (cases_eq n z) [
        | inl same ↦ subst (λ v. v < length layers) (sym (ap (λ v. get_or (set places z i) v 0) same ∙ get_or-set_same places z i 0 inside)) hi
        | inr other ↦ subst (λ v. v < length layers) (sym (get_or-set_other places z n i 0 other)) (before.within some n)
      ];
    }

-- the entry of a chunk's node, and of a virtual node
pub entry_of : (a : AloofShape) (c : ℕ) (o : Option ℕ) → IsEntry a (node_of a c) o → o ≡ Some c
entry_of a c None between =
    absurd (true≢false (sym (middle_node (virtual_count (grid_of a)) a.data_count (node_of a c) between.0 between.1) ∙ (node_real a c (node_of a c) refl).real))
entry_of a c (Some d) is = ap Some (sym (node_real a d (node_of a c) is.1).chunk ∙ (node_real a c (node_of a c) refl).chunk)

pub entries_more : (a : AloofShape) (chunks : List (Option ℕ)) (o : Option ℕ) (n : ℕ) → length chunks ≡ n → ((i : ℕ) → i < n → IsEntry a i (get_or chunks i None)) → IsEntry a n o
    → (i : ℕ) → i < n + 1 → IsEntry a i (get_or (chunks ++ o ∷ []) i None)
entries_more a chunks o n long each new i h =
    elim (cases_eq i n) [
      | inl same ↦ subst (IsEntry a i) (sym (get_or_push chunks o None i (long ∙ sym same))) (subst (λ v. IsEntry a v o) (sym same) new)
      | inr other ↦
          let below : i < n = omega (arith, h, other) in
          subst (IsEntry a i) (sym (get_or_append_left chunks (o ∷ []) None i (subst (λ l. i < l) (sym long) below))) (each i below)
    ]

pub no_entry : (a : AloofShape) (i : ℕ) (o : Option ℕ) → is_virtual_node a i ≡ true → IsEntry a i o → o ≡ None
no_entry a i None virtual is = refl
no_entry a i (Some c) virtual is = absurd (true≢false (sym virtual ∙ (node_real a c i is.1).real))

pub put_parts : (a : AloofShape) (lost : ℕ) (have : List (Option (List ℕ))) (known : Known) → IsAloof a
    → ((i : ℕ) → i < node_count (grid_of a) → IsEntry a i (get_or known.tables.now.chunks.items i None))
    → HasPlaces (aloof_layers_of a lost) (length (aloof_layers_of a lost)) known.tables.now.places.items
    → ((c place b : ℕ) → source_byte (grid_of a) known.source c place b ≡ part_byte a.width (get_or have c None) place b)
    → ArePut a lost have (all_chunks a) (node_bytes (grid_of a) known)
put_parts a lost have known aloof chunks places source =
    let g : Shape = grid_of a in
    record {
      whole = length-node_bytes g known;
      parts = λ c v hc there i b hi hb.
          let n : ℕ = get_or (aloof_layers_of a lost) i 0 in
          let node : ℕ = node_of a c in
          let inside : node < node_count g = node_inside a c aloof hc in
          node_bytes_at g known node n b inside (given_at a lost i hi).0 hb
          ∙ ap (λ o. entry_byte g known o n b) (entry_of a c (get_or known.tables.now.chunks.items node None) (chunks node inside))
          ∙ source c (get_or known.tables.now.places.items n 0) b
          ∙ (λ k. part_byte a.width (there k) (places.at i hi k) b);
      virtual = λ i n b is hn hb.
          let place = virtual_place a i is in
          let inside : i < node_count g = subst (λ m. i < m) (sym (nodes_are a aloof)) (more i a.data_count a.parity_count (virtual_count g) place.1) in
          node_bytes_at g known i n b inside hn hb ∙ ap (λ o. entry_byte g known o n b) (no_entry a i (get_or known.tables.now.chunks.items i None) is (chunks i inside));
    }
  where
    more : (i k m v : ℕ) → i < k + v → i < k + m + v
    more i k m v h = omega arith

pub part_room : (width many place long : ℕ) (o : Option (List ℕ)) → place < many → many * width ≡ long → IfSome o (λ v. length v ≡ long) → IfSome o (λ v. place * width + width ≤ length v)
part_room width many place long None h size is = tt
part_room width many place long (Some v) h size is = subst (λ l. place * width + width ≤ l) (size ∙ sym is) (piece_fits place many width h)

pub parts_room : (a : AloofShape) (lost : ℕ) (have : List (Option (List ℕ))) (i e place : ℕ) → IsAloof a → ArePieces a lost have → place < length (aloof_layers_of a lost) → IsEntry a i (Some e)
    → (e < length have) × IfSome (get_or have e None) (λ v. place * a.width + a.width ≤ length v)
parts_room a lost have i e place aloof are h entry =
    let within : e < length have = subst (λ n. e < n) (sym are.fit.count) entry.0 in
    (within, part_room a.width (length (aloof_layers_of a lost)) place (part_bytes a) (get_or have e None) h (length-part a lost aloof are.chunk) (are.lengths e None within))
