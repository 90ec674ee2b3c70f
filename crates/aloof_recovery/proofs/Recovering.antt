-- Missing chunks, from the others.
use Rattle.std.proofs.Common.{◌≡◌, ◌≢◌, ℕ, subst, ◌+◌, ◌-◌, ◌*◌, ◌/◌, ◌%◌, ◌<◌, ◌≤◌, Bool, true, false, not, ◌&&◌, cond, List, [], ◌∷◌, ◌++◌, map, length, get_or, take, drop, slice_range, All, Option, Some, None, IfSome, refl, sym, ap, ◌∙◌, inl, inr, arith, rules}
use Rattle.std.specs.Option.{option_map}
use Rattle.std.specs.List.{range_with_len}
use Rattle.std.proofs.lemmas.Bool.{cases_Bool, cases_eq, cases_lt, true≢false, cond-false}
use Rattle.std.proofs.lemmas.Nat.{div_below, mod_below, div-add-mod', mul-le}
use Rattle.std.proofs.lemmas.List.{ext_get_or, get_or_default, length-map, places}
use Rattle.std.proofs.lemmas.List as lists
use Rattle.std.proofs.Math.ListN.{get_or-map}
use Rattle.std.proofs.lemmas.List.Edits.{get_or-between, length-between}
use Rattle.std.proofs.lemmas.List.FromFn.{length-map-range_with_len, get_or-map-range_with_len, map-range_with_len_more}
use Rattle.clay_grid.specs.Shape.{Shape, column_count, node_count, layer_count, chunk_length}
use Rattle.clay_grid.specs.Layers.{layer_of}
use Rattle.clay_grid.specs.Score.{count_below}
use Rattle.clay_grid.proofs.Counting.{count_below_same}
use Rattle.clay_model.specs.Erased.{erased_below}
use Rattle.code_laws.proofs.Nodes.{length-erased_below}
use Rattle.code_laws.proofs.Pieces.{put_mid_before, put_mid_past, put_mid_within, piece_fits, place_below}
use borrow.Rule.Slice.PartMut.{put_mid}
use Rattle.lane_repair.specs.Views.{pieces_of, laid_pieces, EndWithin, piece_around, StandsAround}
use Rattle.lane_repair.specs.declared.view.ChunkView.{ChunkView}
use Rattle.lane_repair.proofs.AroundLemmas.{same_pieces, IsClear, around_shows, around_room}
use Rattle.clay_aloof.specs.Shape.{AloofShape, all_chunks, rows_of, grid_of, node_of, is_virtual_node, chunk_at}
use Rattle.clay_aloof.specs.Limits.{IsAloof}
use Rattle.clay_aloof.specs.Code.{coupled_value}
use Rattle.clay_aloof.specs.Known.{part_byte, source_byte, entry_byte, node_bytes, shown_byte, shown_bytes}
use Rattle.clay_aloof.specs.Solved.{Fits, HoldsSubchunks}
use Rattle.clay_aloof.specs.Rebuilt.{IsEntry}
use Rattle.clay_aloof.specs.Recovered.{is_gone, is_gone_node, chunk_in, HasOthers, IsRecovered}
use Rattle.aloof_recovery.specs.Recoveries.{IsMissingPlan, AreChunkTables, starts_left, AreChunks, AreHeld, IsPut, ArePut}
use Rattle.clay_aloof.specs.declared.layer_solving.Plan.{Plan}
use Rattle.clay_aloof.specs.declared.known.Known.{Known}
use Rattle.clay_aloof.specs.declared.known.Tables.{Tables}
use Rattle.clay_aloof.specs.declared.known.Source.TheVariants.{Shown}
use Rattle.clay_aloof.proofs.KnownBytes.{shown_bytes_at, entry_of, no_entry, part_room}
use Rattle.clay_aloof.proofs.Layer.{some_rows}
use Rattle.clay_aloof.proofs.Nodes.{node_back, node_inside, node_real, coupled_byte, coupled_virtual, coupled_real}
use Rattle.clay_aloof.proofs.Parts.{fewer_sums}
use Rattle.clay_aloof.proofs.Unknown.{nodes_counted}

-- ---- the nodes of the missing chunks

-- as many as chunks are missing
pub gone_counted : (a : AloofShape) (missing erased : List Bool) → IsAloof a → ((i : ℕ) → i < node_count (grid_of a) → get_or erased i false ≡ is_gone_node a missing i)
    → length (erased_below erased (node_count (grid_of a))) ≡ count_below (all_chunks a) (is_gone missing)
gone_counted a missing erased aloof each =
    length-erased_below erased (node_count (grid_of a))
    ∙ count_below_same (node_count (grid_of a)) (λ i. get_or erased i false) (is_gone_node a missing) each
    ∙ nodes_counted a (is_gone missing) aloof

-- a chunk is missing just where its node is
pub gone_chunk : (a : AloofShape) (missing erased : List Bool) (c : ℕ) → IsAloof a → ((i : ℕ) → i < node_count (grid_of a) → get_or erased i false ≡ is_gone_node a missing i) → c < all_chunks a
    → get_or erased (node_of a c) false ≡ is_gone missing c
gone_chunk a missing erased c aloof each hc =
    let node = node_real a c (node_of a c) refl in
    each (node_of a c) (node_inside a c aloof hc) ∙ (λ k. not (node.real k) && is_gone missing (node.chunk k))

-- ---- the chunks that are there

one_start : (a : AloofShape) (missing : List Bool) (count c : ℕ) → c < count → get_or (starts_left a missing count) c None ≡ cond (is_gone missing c) None (Some (c * chunk_length (grid_of a)))
one_start a missing count c h = get_or-map-range_with_len (λ k. cond (is_gone missing k) None (Some (k * chunk_length (grid_of a)))) 0 count c c None h (omega arith)

pub length-starts : (a : AloofShape) (missing : List Bool) (count : ℕ) → length (starts_left a missing count) ≡ count
length-starts a missing count = length-map-range_with_len (λ c. cond (is_gone missing c) None (Some (c * chunk_length (grid_of a)))) 0 count

pub starts_more : (a : AloofShape) (missing : List Bool) (starts : List (Option ℕ)) (o : Option ℕ) (c : ℕ) → o ≡ cond (is_gone missing c) None (Some (c * chunk_length (grid_of a))) → starts ≡ starts_left a missing c
    → starts ++ o ∷ [] ≡ starts_left a missing (c + 1)
starts_more a missing starts o c is before =
    (λ i. before i ++ is i ∷ []) ∙ sym (map-range_with_len_more (λ k. cond (is_gone missing k) None (Some (k * chunk_length (grid_of a)))) 0 c c (omega arith))

-- a chunk that isn't missing begins here
record Begins (a : AloofShape) (missing : List Bool) (start : ℕ) : Type 0 where
  pub number : ℕ
  pub within : number < all_chunks a
  pub there : is_gone missing number ≡ false
  pub place : start ≡ number * chunk_length (grid_of a)

if_some : (P Q : ℕ → Type 0) → ((n : ℕ) → P n → Q n) → (o : Option ℕ) → IfSome o P → IfSome o Q
if_some P Q f None h = h
if_some P Q f (Some n) h = f n h

module _ (a : AloofShape) (missing : List Bool) where
  one_begins : (b : Bool) (c : ℕ) → c < all_chunks a → is_gone missing c ≡ b → IfSome (cond b None (Some (c * chunk_length (grid_of a)))) (Begins a missing)
  one_begins true c within is = tt
  one_begins false c within is = record { number = c; within = within; there = is; place = refl }

  each_begins : All (λ o. IfSome o (Begins a missing)) (starts_left a missing (all_chunks a))
  each_begins = λ c d h.
      let below : c < all_chunks a = subst (λ n. c < n) (length-starts a missing (all_chunks a)) h in
      subst (λ o. IfSome o (Begins a missing))
      (sym (get_or_default (starts_left a missing (all_chunks a)) c d None h ∙ one_start a missing (all_chunks a) c below))
      (one_begins (is_gone missing c) c below refl)

  each_so : (Q : ℕ → Type 0) → ((start : ℕ) → Begins a missing start → Q start) → All (λ o. IfSome o Q) (starts_left a missing (all_chunks a))
  each_so Q f = λ c d h. if_some (Begins a missing) Q f (get_or (starts_left a missing (all_chunks a)) c d) (each_begins c d h)

  ends_in : (chunks : List ℕ) → length chunks ≡ all_chunks a * chunk_length (grid_of a) → (start : ℕ) → Begins a missing start → start + chunk_length (grid_of a) ≤ length chunks
  ends_in chunks long start at =
      let fits = piece_fits at.number (all_chunks a) (chunk_length (grid_of a)) at.within in
      omega (arith, fits, at.place, long)

  clear_of : (chunks : List ℕ) (i : ℕ) → length chunks ≡ all_chunks a * chunk_length (grid_of a) → is_gone missing i ≡ true → (start : ℕ) → Begins a missing start
      → IsClear chunks (chunk_length (grid_of a)) (i * chunk_length (grid_of a)) start
  clear_of chunks i long gone start at =
      elim (cases_lt at.number i) [
        | inl early ↦
            let fits = piece_fits at.number i (chunk_length (grid_of a)) early in
            inl (omega (arith, fits, at.place))
        | inr late ↦
            let other : at.number ≢ i = λ same. true≢false (sym gone ∙ ap (is_gone missing) (sym same) ∙ at.there) in
            let fits = piece_fits i at.number (chunk_length (grid_of a)) (omega (arith, late, other)) in
            inr (omega (arith, fits, at.place), ends_in chunks long start at)
      ]

  -- what is there of all chunks
  abbrev pub others : List ℕ → List (Option (List ℕ))
  others chunks = laid_pieces chunks (starts_left a missing (all_chunks a)) (chunk_length (grid_of a))

  pub others_room : (chunks : List ℕ) → length chunks ≡ all_chunks a * chunk_length (grid_of a) → EndWithin chunks (starts_left a missing (all_chunks a)) (chunk_length (grid_of a))
  others_room chunks long = each_so (λ start. start + chunk_length (grid_of a) ≤ length chunks) (ends_in chunks long)

  pub others_shown : (chunks : List ℕ) (i : ℕ) → 0 < chunk_length (grid_of a) → length chunks ≡ all_chunks a * chunk_length (grid_of a) → i < all_chunks a → is_gone missing i ≡ true
      → map (option_map (piece_around (take (i * chunk_length (grid_of a)) chunks) (drop (chunk_length (grid_of a)) (drop (i * chunk_length (grid_of a)) chunks)) (chunk_length (grid_of a)))) (starts_left a missing (all_chunks a))
      ≡ others chunks
  others_shown chunks i some long below gone =
      let fits = piece_fits i (all_chunks a) (chunk_length (grid_of a)) below in
      around_shows chunks (chunk_length (grid_of a)) (i * chunk_length (grid_of a)) some (omega (arith, fits, long)) (starts_left a missing (all_chunks a))
      (each_so (IsClear chunks (chunk_length (grid_of a)) (i * chunk_length (grid_of a))) (clear_of chunks i long gone))

  pub others_stand : (chunks : List ℕ) (i : ℕ) → 0 < chunk_length (grid_of a) → length chunks ≡ all_chunks a * chunk_length (grid_of a) → i < all_chunks a → is_gone missing i ≡ true
      → All (λ o. IfSome o (StandsAround (take (i * chunk_length (grid_of a)) chunks) (drop (chunk_length (grid_of a)) (drop (i * chunk_length (grid_of a)) chunks)) (chunk_length (grid_of a)))) (starts_left a missing (all_chunks a))
  others_stand chunks i some long below gone =
      let fits = piece_fits i (all_chunks a) (chunk_length (grid_of a)) below in
      around_room chunks (chunk_length (grid_of a)) (i * chunk_length (grid_of a)) some (omega (arith, fits, long)) (starts_left a missing (all_chunks a))
      (each_so (IsClear chunks (chunk_length (grid_of a)) (i * chunk_length (grid_of a))) (clear_of chunks i long gone))

  -- they stay where the chunks that aren't missing do
  pub others_stay : (old new : List ℕ) → ((c : ℕ) → c < all_chunks a → is_gone missing c ≡ false → chunk_in a new c ≡ chunk_in a old c) → others new ≡ others old
  others_stay old new kept =
      let len : ℕ = chunk_length (grid_of a) in
      same_pieces (Begins a missing) (λ start. slice_range new start (start + len)) (λ start. slice_range old start (start + len))
      (λ start at. ap (λ s. slice_range new s (s + len)) at.place ∙ kept at.number at.within at.there ∙ ap (λ s. slice_range old s (s + len)) (sym at.place))
      (starts_left a missing (all_chunks a)) each_begins

  long_piece : (chunks : List ℕ) (o : Option ℕ) → IfSome o (λ start. start + chunk_length (grid_of a) ≤ length chunks)
      → IfSome (option_map (λ start. slice_range chunks start (start + chunk_length (grid_of a))) o) (λ piece. length piece ≡ chunk_length (grid_of a))
  long_piece chunks None h = tt
  long_piece chunks (Some start) h =
      let whole : start + chunk_length (grid_of a) - start ≡ chunk_length (grid_of a) = omega arith in
      length-between chunks start (start + chunk_length (grid_of a)) h ∙ whole

  pub others_chunks : (chunks : List ℕ) → length chunks ≡ all_chunks a * chunk_length (grid_of a) → AreChunks a (others chunks)
  others_chunks chunks long =
      let starts : List (Option ℕ) = starts_left a missing (all_chunks a) in
      let piece : ℕ → List ℕ = λ start. slice_range chunks start (start + chunk_length (grid_of a)) in
      record {
        count = length-map starts (option_map piece) ∙ length-starts a missing (all_chunks a);
        lengths = λ c d h.
            let inside : c < length starts = subst (λ n. c < n) (length-map starts (option_map piece)) h in
            subst (λ o. IfSome o (λ p. length p ≡ chunk_length (grid_of a))) (sym (lists.get_or-map (option_map piece) starts c None d inside))
            (long_piece chunks (get_or starts c None) (others_room chunks long c None inside));
      }

  there_piece : (chunks : List ℕ) (c : ℕ) → c < all_chunks a → is_gone missing c ≡ false → get_or (others chunks) c None ≡ Some (chunk_in a chunks c)
  there_piece chunks c below here =
      let starts : List (Option ℕ) = starts_left a missing (all_chunks a) in
      let piece : ℕ → List ℕ = λ start. slice_range chunks start (start + chunk_length (grid_of a)) in
      let start : get_or starts c None ≡ Some (c * chunk_length (grid_of a)) =
      one_start a missing (all_chunks a) c below ∙ cond-false (is_gone missing c) None (Some (c * chunk_length (grid_of a))) here in
      get_or-map (option_map piece) starts c None ∙ ap (option_map piece) start

-- ---- what is known of the nodes

-- a chunk's subchunk ends within it
pub chunk_room : (a : AloofShape) (pieces : List (Option (List ℕ))) (e n place : ℕ) → AreChunks a pieces → e < all_chunks a → n < layer_count (grid_of a) → place ≡ n
    → IfSome (get_or pieces e None) (λ piece. place * a.width + a.width ≤ length piece)
chunk_room a pieces e n place are within hn is =
    part_room a.width (layer_count (grid_of a)) place (chunk_length (grid_of a)) (get_or pieces e None) (subst (λ v. v < layer_count (grid_of a)) (sym is) hn) refl
    (are.lengths e None (subst (λ v. e < v) (sym are.count) within))

pub held : (a : AloofShape) (missing : List Bool) (bytes : List ℕ) (tables : Tables) → AreChunkTables a tables → AreHeld a missing bytes (shown_bytes (grid_of a) (others a missing bytes) tables)
held a missing bytes tables are = record {
  real = λ i n b hi real here hn hb.
      let c : ℕ = chunk_at a i in
      let back = node_back a i are.aloof hi real in
      let entry : get_or tables.chunks.items i None ≡ Some c = entry_of a c (get_or tables.chunks.items i None) (subst (λ v. IsEntry a v (get_or tables.chunks.items i None)) (sym back.1) (are.entries i hi)) in
      shown_bytes_at (grid_of a) (others a missing bytes) tables i n b hi hn hb
      ∙ ap (λ o. shown_byte (grid_of a) (others a missing bytes) tables o n b) entry
      ∙ (λ k. part_byte a.width (there_piece a missing bytes c back.0 here k) (are.placed_are n hn k) b);
  virtual = λ i n b hi virtual hn hb.
      shown_bytes_at (grid_of a) (others a missing bytes) tables i n b hi hn hb
      ∙ ap (λ o. shown_byte (grid_of a) (others a missing bytes) tables o n b) (no_entry a i (get_or tables.chunks.items i None) virtual (are.entries i hi));
}

-- a view's chunks as the nodes' bytes
shown_entry : (g : Shape) (known : Known) (view : ChunkView) (o : Option ℕ) (n b : ℕ) → known.source ≡ Shown view → entry_byte g known o n b ≡ shown_byte g (pieces_of view) known.tables.now o n b
shown_entry g known view None n b is = refl
shown_entry g known view (Some c) n b is = ap (λ s. source_byte g s c (get_or known.tables.now.places.items n 0) b) is

pub shown_nodes : (g : Shape) (known : Known) (view : ChunkView) → known.source ≡ Shown view → node_bytes g known ≡ shown_bytes g (pieces_of view) known.tables.now
shown_nodes g known view is =
    λ k. map (λ p. shown_entry g known view (get_or known.tables.now.chunks.items (p / chunk_length g) None) (p % chunk_length g / g.width) (p % chunk_length g % g.width) is k)
    (range_with_len 0 (node_count g * chunk_length g))

-- ---- the chunks of the erased nodes

-- a codeword that has the others is one that the plan solves
others_fit : (a : AloofShape) (missing : List Bool) (bytes known : List ℕ) (plan : Plan) (word : List (List ℕ)) → IsMissingPlan a missing plan → AreHeld a missing bytes known → HasOthers a missing bytes word
    → Fits (grid_of a) plan known (coupled_value a word)
others_fit a missing bytes known plan word whole held has = record {
  bytes = coupled_byte a word has.codeword.bytes;
  sums = λ b hb. fewer_sums (rows_of a) (column_count (grid_of a)) a.parity_count (length plan.points.items) (coupled_value a word b) whole.few (has.codeword.sums b hb);
  agrees = λ i n b hi there listed hb.
      let rows : 0 < rows_of a = some_rows (grid_of a) whole.aloof.grid in
      let below : n < layer_count (grid_of a) = subst (λ v. v < layer_count (grid_of a)) listed.2 (whole.sound.only_layers listed.0 listed.1) in
      elim (cases_Bool (is_virtual_node a i)) [
        | inl virtual ↦ held.virtual i n b hi virtual below hb ∙ sym (coupled_virtual a word b i (layer_of (grid_of a) n) virtual)
        | inr real ↦
            let c : ℕ = chunk_at a i in
            let back = node_back a i whole.aloof hi real in
            let of_node : is_gone_node a missing i ≡ is_gone missing c = ap (λ v. not v && is_gone missing c) real in
            let here : is_gone missing c ≡ false = sym of_node ∙ sym (whole.erased_are i hi) ∙ there in
            held.real i n b hi real here below hb
            ∙ ap (λ l. get_or l (n * a.width + b) 0) (sym (has.agrees c back.0 here))
            ∙ sym (coupled_real a word c i n b rows below (record { real = real; chunk = refl }))
      ];
}

-- a chunk that is written
pub is_missing_chunk : (a : AloofShape) (missing : List Bool) (bytes known : List ℕ) (plan : Plan) (c : ℕ) (out : List ℕ) → IsMissingPlan a missing plan → AreHeld a missing bytes known → c < all_chunks a
    → length out ≡ chunk_length (grid_of a) → HoldsSubchunks (grid_of a) plan known (node_of a c) (layer_count (grid_of a)) out
    → (word : List (List ℕ)) → HasOthers a missing bytes word → out ≡ get_or word c []
is_missing_chunk a missing bytes known plan c out whole held hc long holds word has =
    let rows : 0 < rows_of a = some_rows (grid_of a) whole.aloof.grid in
    let wide : 0 < a.width = let some = whole.aloof.limits.width.0 in omega arith in
    ext_get_or 0 out (get_or word c []) (long ∙ sym (has.codeword.lengths c hc)) (λ s hs.
    let place : s < chunk_length (grid_of a) = subst (λ n. s < n) long hs in
    let n : ℕ = s / a.width in
    let b : ℕ = s % a.width in
    let below : n < layer_count (grid_of a) = div_below s a.width (layer_count (grid_of a)) wide place in
    let split : n * a.width + b ≡ s = div-add-mod' s a.width in
    ap (λ u. get_or out u 0) (sym split)
    ∙ holds.at (coupled_value a word) (others_fit a missing bytes known plan word whole held has) n b below (mod_below s a.width wide)
    ∙ coupled_real a word c (node_of a c) n b rows below (node_real a c (node_of a c) refl)
    ∙ ap (λ u. get_or (get_or word c []) u 0) split)

-- a chunk has some bytes
pub some_bytes : (a : AloofShape) → IsAloof a → 0 < chunk_length (grid_of a)
some_bytes a aloof =
    let wide : 0 < a.width = let some = aloof.limits.width.0 in omega arith in
    let layers : 0 < layer_count (grid_of a) = let some = aloof.grid.some_layers in let rows = some_rows (grid_of a) aloof.grid in omega arith in
    let least : 1 * 1 ≤ layer_count (grid_of a) * a.width = mul-le 1 1 (layer_count (grid_of a)) a.width (omega (arith, layers)) (omega (arith, wide)) in
    omega (arith, least)

-- ---- chunks put in their places

put_mid_long : (a k : ℕ) (xs ys : List ℕ) → a + k ≤ length xs → length ys ≡ k → length (put_mid a k xs ys) ≡ length xs
put_mid_long a k xs ys fits long = search (rules, places)

module _ (a : AloofShape) (all out : List ℕ) (c : ℕ) (hc : c < all_chunks a) (whole : length all ≡ all_chunks a * chunk_length (grid_of a)) (long : length out ≡ chunk_length (grid_of a)) where
  len : ℕ
  len = chunk_length (grid_of a)

  after : List ℕ
  after = put_mid (c * chunk_length (grid_of a)) (chunk_length (grid_of a)) all out

  ends : c * chunk_length (grid_of a) + chunk_length (grid_of a) ≤ length all
  ends = subst (λ n. c * chunk_length (grid_of a) + chunk_length (grid_of a) ≤ n) (sym whole) (piece_fits c (all_chunks a) (chunk_length (grid_of a)) hc)

  after_long : length after ≡ length all
  unfolding after
  after_long = put_mid_long (c * chunk_length (grid_of a)) (chunk_length (grid_of a)) all out ends long

  cut_long : (d : ℕ) (bytes : List ℕ) → d < all_chunks a → length bytes ≡ length all → length (chunk_in a bytes d) ≡ chunk_length (grid_of a)
  cut_long d bytes hd same =
      let within : d * chunk_length (grid_of a) + chunk_length (grid_of a) ≤ length bytes = subst (λ n. d * chunk_length (grid_of a) + chunk_length (grid_of a) ≤ n) (sym (same ∙ whole)) (piece_fits d (all_chunks a) (chunk_length (grid_of a)) hd) in
      length-between bytes (d * chunk_length (grid_of a)) (d * chunk_length (grid_of a) + chunk_length (grid_of a)) within ∙ middle (d * chunk_length (grid_of a)) (chunk_length (grid_of a))
    where
      middle : (s w : ℕ) → s + w - s ≡ w
      middle s w = omega arith

  -- the chunk that is put
  pub put_here : chunk_in a (put_mid (c * chunk_length (grid_of a)) (chunk_length (grid_of a)) all out) c ≡ out
  unfolding after
  put_here =
      let cut : length (chunk_in a after c) ≡ chunk_length (grid_of a) = cut_long c after hc after_long in
      ext_get_or 0 (chunk_in a after c) out (cut ∙ sym long) (λ p h.
      let inside : p < chunk_length (grid_of a) = subst (λ n. p < n) cut h in
      get_or-between after (c * chunk_length (grid_of a)) (c * chunk_length (grid_of a) + chunk_length (grid_of a)) p 0 (omega (arith, inside))
      ∙ put_mid_within (c * chunk_length (grid_of a)) (chunk_length (grid_of a)) all out p (omega (arith, ends)) (subst (λ n. p < n) (sym long) inside))

  -- another one
  pub put_elsewhere : (d : ℕ) → d < all_chunks a → d ≢ c → chunk_in a (put_mid (c * chunk_length (grid_of a)) (chunk_length (grid_of a)) all out) d ≡ chunk_in a all d
  unfolding after
  put_elsewhere d hd differ =
      let cut : length (chunk_in a after d) ≡ chunk_length (grid_of a) = cut_long d after hd after_long in
      ext_get_or 0 (chunk_in a after d) (chunk_in a all d) (cut ∙ sym (cut_long d all hd refl)) (λ p h.
      let w : ℕ = chunk_length (grid_of a) in
      let inside : p < w = subst (λ n. p < n) cut h in
      let byte : get_or after (d * w + p) 0 ≡ get_or all (d * w + p) 0 = elim (cases_lt d c) [
        | inl before ↦
            let start : c * w ≤ length all = omega (arith, ends) in
            put_mid_before (c * w) w all out (d * w + p) start (place_below d c w p before inside)
        | inr behind ↦
            let past : c < d = omega (arith, behind, differ) in
            let first : c * w + w ≤ d * w = piece_fits c d w past in
            put_mid_past (c * w) w all out (d * w + p) ends long (omega (arith, first))
      ] in
      get_or-between after (d * w) (d * w + w) p 0 (omega (arith, inside))
      ∙ byte
      ∙ sym (get_or-between all (d * w) (d * w + w) p 0 (omega (arith, inside))))

-- a missing chunk is put in its place
pub is_put : (a : AloofShape) (missing : List Bool) (c : ℕ) (old out : List ℕ) → c < all_chunks a → length old ≡ all_chunks a * chunk_length (grid_of a) → length out ≡ chunk_length (grid_of a) → is_gone missing c ≡ true
    → ((word : List (List ℕ)) → HasOthers a missing old word → out ≡ get_or word c [])
    → IsPut a missing c old (put_mid (c * chunk_length (grid_of a)) (chunk_length (grid_of a)) old out)
is_put a missing c old out hc whole long gone written = record {
  here = λ is word has. put_here a old out c hc whole long ∙ written word has;
  elsewhere = put_elsewhere a old out c hc whole long;
  kept = λ here. absurd (true≢false (sym gone ∙ here));
}

-- a chunk that isn't missing stays
pub not_put : (a : AloofShape) (missing : List Bool) (c : ℕ) (old : List ℕ) → is_gone missing c ≡ false → IsPut a missing c old old
not_put a missing c old here = record {
  here = λ gone word has. absurd (true≢false (sym gone ∙ here));
  elsewhere = λ d hd differ. refl;
  kept = λ is. refl;
}

pub none_put : (a : AloofShape) (missing : List Bool) (old : List ℕ) → ArePut a missing 0 old old
none_put a missing old = record { kept = λ c hc here. refl; value = λ word has c h hc. absurd (omega (arith, h)) }

has_still : (a : AloofShape) (missing : List Bool) (count : ℕ) (old new : List ℕ) (word : List (List ℕ)) → ArePut a missing count old new → HasOthers a missing old word → HasOthers a missing new word
has_still a missing count old new word put has = record { codeword = has.codeword; agrees = λ c hc here. has.agrees c hc here ∙ sym (put.kept c hc here) }

-- one chunk more
pub put_more : (a : AloofShape) (missing : List Bool) (c : ℕ) (old before after : List ℕ) → c < all_chunks a → ArePut a missing c old before → IsPut a missing c before after → ArePut a missing (c + 1) old after
put_more a missing c old before after hc first new = record {
  kept = λ d hd here. elim (cases_eq d c) [
    | inl same ↦
        ap (chunk_in a after) same ∙ new.kept (ap (is_gone missing) (sym same) ∙ here) ∙ ap (chunk_in a before) (sym same) ∙ first.kept d hd here
    | inr other ↦ new.elsewhere d hd other ∙ first.kept d hd here
  ];
  value = λ word has d h hd. elim (cases_eq d c) [
    | inl same ↦ ap (chunk_in a after) same ∙ at_last word has ∙ ap (λ v. get_or word v []) (sym same)
    | inr other ↦ new.elsewhere d hd other ∙ first.value word has d (omega (arith, h, other)) hd
  ];
}
  where
    at_last : (word : List (List ℕ)) → HasOthers a missing old word → chunk_in a after c ≡ get_or word c []
    at_last word has = elim (cases_Bool (is_gone missing c)) [
      | inl gone ↦ new.here gone word (has_still a missing c old before word first has)
      | inr here ↦ new.kept here ∙ first.kept c hc here ∙ sym (has.agrees c hc here)
    ]

-- ---- all chunks

pub all_put : (a : AloofShape) (missing : List Bool) (old new : List ℕ) → ArePut a missing (all_chunks a) old new → IsRecovered a missing old new
all_put a missing old new put = record { kept = put.kept; value = λ word has c hc. put.value word has c hc hc }
