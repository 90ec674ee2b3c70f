-- The places of pieces, the values of unknown nodes layer by layer, and the lost subchunks that are made of them.
use Rattle.std.proofs.Common.{◌≡◌, ◌≢◌, ℕ, suc, subst, ◌+◌, ◌-◌, ◌*◌, ◌<◌, ◌≤◌, ◌⊎◌, Bool, true, false, not, cond, List, [], ◌∷◌, ◌++◌, length, get_or, take, drop, refl, sym, ap, ◌∙◌, inl, inr, arith, bit_xor, Result, Ok, Err}
use Rattle.std.specs.Prelude.{IsErrAnd, IfErr}
use Rattle.std.proofs.lemmas.Bool.{cases_eq, cases_lt, cond-true, cond-false, or_left, or_right, not_from_false}
use Rattle.std.proofs.lemmas.List.{length_push, get_or_push, get_or_append_left, get_or-map, get_or-take, get_or-drop}
use borrow.Rule.Slice.PartMut.{put_mid}
use lib.Bits.{xor_zero_r}
use Rattle.clay_field.specs.Field.{product, quotient}
use Rattle.clay_field.proofs.FieldLaws.{product_zero}
use Rattle.clay_grid.specs.Shape.{Shape, chunk_count, row_count, node_count, layer_count, node_of_chunk}
use Rattle.clay_grid.specs.Score.{count_below, score_at, GoesBefore, IsByScore}
use Rattle.clay_grid.proofs.Counting.{count_below-add}
use Rattle.clay_model.specs.Sums.{sum_below}
use Rattle.clay_model.specs.Erased.{erased_below, present}
use Rattle.clay_model.specs.Code.{IsCodeword}
use Rattle.clay_model.specs.Partners.{ArePartners}
use Rattle.clay_model.specs.declared.partners.Subchunk.{Subchunk}
use Rattle.code_laws.specs.Solved.{coupled_byte, uncoupled_byte}
use Rattle.code_laws.proofs.Pieces.{put_mid_before, put_mid_within, put_mid_past, place_below, piece_fits}
use Rattle.code_laws.proofs.Column.{node_inside}
use Rattle.code_laws.proofs.Nodes.{node_real, chunk_byte, length-erased_below}
use Rattle.clay_kernels.specs.Lanes.{AddsRows}
use Rattle.generator_matrix.specs.Generated.{factor_at}
use Rattle.lost_layers.specs.LostLayers.{is_wanted, partner_layer, lost_node}
use Rattle.lost_layers.specs.LostPieces.{piece_at}
use Rattle.lost_layers.specs.declared.run.LostRun.{LostRun}
use Rattle.lost_layers.specs.declared.run.LostPiece.{LostPiece}
use Rattle.lost_layers.proofs.Determining.{run_bytes}
use Rattle.lost_layers.specs.Placing.{IsPlaced}
use Rattle.lost_layers.proofs.PieceLaws.{some_rows}
use Rattle.lost_layers.proofs.PieceSteps.{partner_layer_is}
use Rattle.lost_read.specs.Read.{bytes_of_piece}
use Rattle.lost_read.specs.Plan.{AreSubchunks, StandsFor, HasPlaces}
use Rattle.lost_read.proofs.ReadLaws.{key, crossed_mate}
use Rattle.lost_layers.specs.Erased.{Erased, IsErased, is_missing, is_unknown}
use Rattle.lost_layers.specs.ErasedLayers.{mate as mate_of, is_solved}
use Rattle.lost_layers.specs.ErasedPieces.{is_piece, pieces_of}
use Rattle.lost_layers.specs.Without.{without, missing_pieces_of, IsReadable}
use Rattle.lost_layers.proofs.ErasedLists.{each_read, only_read}
use Rattle.lost_layers.proofs.ErasedServing.{partner_solved, own_solved, mate_solved}
use Rattle.lost_layers.proofs.ErasedDetermining.{partner_piece, mate_piece}
use Rattle.lost_read.specs.MissingRead.{HasPieces}
use Rattle.lost_read.specs.MissingPlan.{rank, AreRanks}
use Rattle.lost_read.specs.MissingReadings.{run_of, IsReading, IsMateIn, HoldsRunIn, IsRunIn}
use Rattle.lost_read.specs.MissingRefused.{IsMisfit, IsUnread, IsReadRefused}
use Rattle.lost_read.specs.declared.missing_read_fault.MissingReadFault.{MissingReadFault}
use Rattle.lost_read.specs.declared.missing_read_fault.MissingReadFault.TheVariants.{Run, PieceCount, PieceLength, Room}
use Rattle.lost_read.specs.declared.missing_reading.Reading.{Reading}

-- ---- the places of the pieces

pub are_subchunks : (e : Erased) → AreSubchunks e.g (pieces_of e)
are_subchunks e r h = let read = only_read e (piece_at 0 0) r h in (read.chunk, read.layer)

-- a subchunk that is read stands at its place
pub stands_there : (e : Erased) (places : List ℕ) (c n : ℕ) → c < chunk_count e.g → n < layer_count e.g → is_piece e (node_of_chunk e.g c) n ≡ true
    → HasPlaces e.g (pieces_of e) (length (pieces_of e)) places → StandsFor (pieces_of e) (get_or places (c * layer_count e.g + n) 0) c n
stands_there e places c n hc hn read has =
    let pieces : List LostPiece = pieces_of e in
    let found = each_read e c n hc hn read in
    let stands = found.1 in
    let at = has found.0 stands.within in
    let key_is : key e.g pieces found.0 ≡ c * layer_count e.g + n = ap (λ (p : LostPiece). p.chunk * layer_count e.g + p.layer) stands.is in
    record {
      within = subst (λ k. get_or places k 0 < length pieces) key_is at.within;
      is = ap (λ k. get_or pieces (get_or places k 0) (piece_at 0 0)) (sym key_is) ∙ at.same ∙ stands.is;
    }

pub piece_bytes : (g : Shape) (listed : List LostPiece) (pieces : List (List ℕ)) (word : List (List ℕ)) (p c n i b : ℕ) → 0 < row_count g → n < layer_count g → node_of_chunk g c ≡ i → StandsFor listed p c n
    → HasPieces g listed pieces word → b < g.width → get_or (get_or pieces p []) b 0 ≡ coupled_byte g word b i n
piece_bytes g listed pieces word p c n i b rows hn is stands fits hb =
    ap (λ l. get_or (get_or l p []) b 0) (sym fits.agrees)
    ∙ ap (λ l. get_or l b 0) (get_or-map (bytes_of_piece g word) listed p (piece_at 0 0) [] stands.within)
    ∙ ap (λ q. get_or (bytes_of_piece g word q) b 0) stands.is
    ∙ get_or-take g.width (drop (n * g.width) (get_or word c [])) b 0 hb
    ∙ get_or-drop (n * g.width) (get_or word c []) b 0
    ∙ sym (chunk_byte g word c i n b rows hn (node_real g c i is))

-- ---- partners

module _ (e : Erased) (i n j p : ℕ) (rows : 0 < row_count e.g) (hi : i < node_count e.g) (hn : n < layer_count e.g)
    (pair : ArePartners e.g i n j p) (below : p < layer_count e.g) where
  pub layer_is : p ≡ partner_layer e.g i n
  layer_is = partner_layer_is e.g i n j p pair below

  -- the layer of a known node's unknown partner is solved too
  pub lower_solved : is_solved e n ≡ true → is_unknown e i ≡ false → is_unknown e j ≡ true → is_solved e p ≡ true
  lower_solved solved known gone = ap (is_solved e) layer_is ∙ partner_solved e rows n i hi known (ap (is_unknown e) (sym pair.node_is) ∙ gone) solved

  -- the subchunk of a known node's known partner is read
  pub theirs_read : is_solved e n ≡ true → is_unknown e i ≡ false → is_unknown e j ≡ false → is_piece e j p ≡ true
  theirs_read solved known theirs =
      (λ k. is_piece e (pair.node_is k) (layer_is k))
      ∙ partner_piece e rows n i hi hn solved known (ap (is_unknown e) (sym pair.node_is) ∙ theirs)

-- ---- a wanted subchunk and its partner

module _ (reading : Reading) (is : IsReading reading) where
  placed : IsPlaced reading.run.now.placed
  placed = is.run.placed

  inside : lost_node (run_of reading).g (run_of reading).run < node_count (run_of reading).g
  inside = node_inside (run_of reading).g (run_of reading).run.lost placed.geometry placed.run.chunk

  rows_here : 0 < row_count (run_of reading).g
  rows_here = some_rows (run_of reading).g placed.geometry

  -- the lost node is one of the unknown ones
  pub node_here : reading.run.now.placed.node < node_count (run_of reading).g
  node_here = subst (λ v. v < node_count (run_of reading).g) (sym placed.node) inside

  pub node_unknown : is_unknown (run_of reading) reading.run.now.placed.node ≡ true
  node_unknown = ap (is_unknown (run_of reading)) placed.node ∙ is.run.erased.missing (lost_node (run_of reading).g (run_of reading).run) is.run.erased.lost

  module _ (z : ℕ) (mate : Subchunk) (hz : z < layer_count (run_of reading).g) (wanted : is_wanted (run_of reading).run z ≡ true) (of_z : IsMateIn reading z mate) where
    pair : ArePartners (run_of reading).g (lost_node (run_of reading).g (run_of reading).run) z mate.node mate.layer
    pair = subst (λ v. ArePartners (run_of reading).g v z mate.node mate.layer) placed.node of_z.partners

    layer_of_mate : mate.layer ≡ partner_layer (run_of reading).g (lost_node (run_of reading).g (run_of reading).run) z
    layer_of_mate = partner_layer_is (run_of reading).g (lost_node (run_of reading).g (run_of reading).run) z mate.node mate.layer pair of_z.in_layers

    -- the layer of a partner with an unknown node is solved
    pub mate_layer_solved : is_unknown (run_of reading) mate.node ≡ true → is_solved (run_of reading) mate.layer ≡ true
    mate_layer_solved gone =
        ap (is_solved (run_of reading)) layer_of_mate ∙ mate_solved (run_of reading) z wanted (ap (is_unknown (run_of reading)) (sym pair.node_is) ∙ gone)

    -- the partner is read, where its chunk is there
    pub mate_read : is_missing (run_of reading) mate.node ≡ false → is_piece (run_of reading) mate.node mate.layer ≡ true
    mate_read there =
        (λ k. is_piece (run_of reading) (pair.node_is k) (layer_of_mate k))
        ∙ mate_piece (run_of reading) rows_here z inside hz wanted (ap (is_missing (run_of reading)) (sym pair.node_is) ∙ there)

    -- the wanted subchunk's own layer is solved, where its partner is missing or known
    pub own_from_missing : is_missing (run_of reading) mate.node ≡ true → is_solved (run_of reading) z ≡ true
    own_from_missing gone =
        own_solved (run_of reading) z wanted
        (or_left (is_missing (run_of reading) (mate_of (run_of reading) z)) (not (is_unknown (run_of reading) (mate_of (run_of reading) z))) (ap (is_missing (run_of reading)) (sym pair.node_is) ∙ gone))

    pub own_from_known : is_unknown (run_of reading) mate.node ≡ false → is_solved (run_of reading) z ≡ true
    own_from_known known =
        own_solved (run_of reading) z wanted
        (or_right (is_missing (run_of reading) (mate_of (run_of reading) z)) (not (is_unknown (run_of reading) (mate_of (run_of reading) z)))
        (not_from_false (is_unknown (run_of reading) (mate_of (run_of reading) z)) (ap (is_unknown (run_of reading)) (sym pair.node_is) ∙ known)))

    pub own_alone : mate.node ≡ reading.run.now.placed.node → is_solved (run_of reading) z ≡ true
    own_alone same = own_from_missing (ap (is_missing (run_of reading)) (same ∙ placed.node) ∙ is.run.erased.lost)

    -- the wanted subchunk from both values of its partner
    pub crossed : (word : List (List ℕ)) → IsCodeword (run_of reading).g word → (b : ℕ) → mate.node ≢ reading.run.now.placed.node
        → coupled_byte (run_of reading).g word b reading.run.now.placed.node z
        ≡ quotient (bit_xor (uncoupled_byte (run_of reading).g word b mate.node mate.layer) (coupled_byte (run_of reading).g word b mate.node mate.layer)) 2
    crossed word w b other =
        ap (λ v. coupled_byte (run_of reading).g word b v z) placed.node
        ∙ crossed_mate (run_of reading).g (run_of reading).run z mate.node mate.layer placed.geometry placed.run hz wanted pair of_z.in_layers word w b (λ same. other (same ∙ sym placed.node))

-- ---- the ranks of layers

count_rises : (m n : ℕ) (f : ℕ → Bool) → m ≤ n → count_below m f ≤ count_below n f
count_rises m n f h =
    let whole : m + (n - m) ≡ n = omega (arith, h) in
    let all : count_below (m + (n - m)) f ≡ count_below m f + count_below (n - m) (λ i. f (m + i)) = count_below-add m (n - m) f in
    let same : count_below (m + (n - m)) f ≡ count_below n f = ap (λ k. count_below k f) whole in
    omega (arith, all, same)

-- a layer that is solved has a rank below that of each later one
pub rank_below : (e : Erased) (n p : ℕ) → is_solved e n ≡ true → n < p → rank e n < rank e p
rank_below e n p solved h =
    let own : rank e (suc n) ≡ rank e n + 1 = ap (λ b. rank e n + cond b 1 0) solved in
    let rises : rank e (suc n) ≤ rank e p = count_rises (suc n) p (is_solved e) h in
    omega (arith, own, rises)

-- ---- the rows of a layer among the values

-- the place of byte b of row a of the layer with rank r, where m rows of w bytes are a layer's
place_is : (r m a w b : ℕ) → (r * m + a) * w + b ≡ r * (m * w) + (a * w + b)
place_is r m a w b = omega arith

-- a row ends within
pub row_within : (r all m a w : ℕ) → r < all → a < m → (r * m + a) * w + w ≤ all * (m * w)
row_within r all m a w hr ha =
    let is = place_is r m a w w in
    let inner = piece_fits a m w ha in
    let outer = piece_fits r all (m * w) hr in
    omega (arith, is, inner, outer)

-- the bytes of the rows that are put
pub put_within : (r m a w b at k : ℕ) (values rows : List ℕ) → at ≡ r * (m * w) → at ≤ length values → length rows ≡ m * w → a < m → b < w
    → get_or (put_mid at k values rows) ((r * m + a) * w + b) 0 ≡ get_or rows (a * w + b) 0
put_within r m a w b at k values rows at_is fits long ha hb =
    let inside : a * w + b < m * w = place_below a m w b ha hb in
    ap (λ p. get_or (put_mid at k values rows) p 0) (place_is r m a w b ∙ ap (λ v. v + (a * w + b)) (sym at_is))
    ∙ put_mid_within at k values rows (a * w + b) fits (subst (λ v. a * w + b < v) (sym long) inside)

-- those of another layer stay
pub put_elsewhere : (r s m a w b at k : ℕ) (values rows : List ℕ) → at ≡ r * (m * w) → k ≡ m * w → at + k ≤ length values → length rows ≡ m * w → a < m → b < w → (s < r) ⊎ (r < s)
    → get_or (put_mid at k values rows) ((s * m + a) * w + b) 0 ≡ get_or values ((s * m + a) * w + b) 0
put_elsewhere r s m a w b at k values rows at_is width fits long ha hb apart =
    let is = place_is s m a w b in
    let inside : a * w + b < m * w = place_below a m w b ha hb in
    elim apart [
      | inl early ↦
          let below = piece_fits s r (m * w) early in
          put_mid_before at k values rows ((s * m + a) * w + b) (omega (arith, fits)) (omega (arith, is, inside, below, at_is))
      | inr late ↦
          let above = piece_fits r s (m * w) late in
          put_mid_past at k values rows ((s * m + a) * w + b) fits (long ∙ sym width) (omega (arith, is, above, at_is, width))
    ]

-- a row that is read
pub row_byte : (r m a w at k b : ℕ) (values : List ℕ) → at ≡ (r * m + a) * w → k ≡ w → b < w → get_or (take k (drop at values)) b 0 ≡ get_or values ((r * m + a) * w + b) 0
row_byte r m a w at k b values at_is width hb =
    get_or-take k (drop at values) b 0 (subst (λ v. b < v) (sym width) hb)
    ∙ get_or-drop at values b 0
    ∙ ap (λ p. get_or values (p + b) 0) at_is

-- two solved layers have different ranks
pub ranks_apart : (e : Erased) (n p : ℕ) → is_solved e n ≡ true → is_solved e p ≡ true → p ≢ n → (rank e p < rank e n) ⊎ (rank e n < rank e p)
ranks_apart e n p hn hp other =
    elim (cases_lt p n) [
      | inl early ↦ inl (rank_below e p n hp early)
      | inr late ↦ inr (rank_below e n p hn (omega (arith, late, other)))
    ]

-- ---- sums of values

sum_below-next : (n : ℕ) (f : ℕ → ℕ) → bit_xor (sum_below n f) (f n) ≡ sum_below (n + 1) f
sum_below-next n f = let next : suc n ≡ n + 1 = omega arith in ap (λ k. sum_below k f) next

module _ (g : Shape) (fits : List (List ℕ) → Type 0) (erased : List Bool) (points factors : List ℕ) (n : ℕ) where
  -- the rows that the nodes below count have made
  abbrev pub HoldsSums : ℕ → List ℕ → Type 0
  HoldsSums count rows =
      (word : List (List ℕ)) → fits word → (a b : ℕ) → a < length points → b < g.width
      → get_or rows (a * g.width + b) 0 ≡ sum_below count (λ i. product (factor_at factors (length points) i a) (present erased (λ i. uncoupled_byte g word b i n) i))

  pub sums_more : (node : ℕ) (rows new : List ℕ) → get_or erased node false ≡ false
      → ((word : List (List ℕ)) → fits word → (a b : ℕ) → a < length points → b < g.width
      → get_or new (a * g.width + b) 0 ≡ bit_xor (get_or rows (a * g.width + b) 0) (product (factor_at factors (length points) node a) (uncoupled_byte g word b node n)))
      → HoldsSums node rows → HoldsSums (node + 1) new
  sums_more node rows new here adds before = λ word fit a b ha hb.
      let f : ℕ → ℕ = λ i. uncoupled_byte g word b i n in
      adds word fit a b ha hb
      ∙ (λ k. bit_xor (before word fit a b ha hb k) (product (factor_at factors (length points) node a) (sym (cond-false (get_or erased node false) 0 (f node) here) k)))
      ∙ sum_below-next node (λ i. product (factor_at factors (length points) i a) (present erased f i))

  pub sums_skipped : (node : ℕ) (rows : List ℕ) → get_or erased node false ≡ true → HoldsSums node rows → HoldsSums (node + 1) rows
  sums_skipped node rows gone before = λ word fit a b ha hb.
      let f : ℕ → ℕ = λ i. uncoupled_byte g word b i n in
      let so_far : ℕ = sum_below node (λ i. product (factor_at factors (length points) i a) (present erased f i)) in
      let nothing : product (factor_at factors (length points) node a) (present erased f node) ≡ 0 =
      ap (product (factor_at factors (length points) node a)) (cond-true (get_or erased node false) 0 (f node) gone) ∙ product_zero (factor_at factors (length points) node a) in
      before word fit a b ha hb
      ∙ sym (ap (bit_xor so_far) nothing ∙ xor_zero_r so_far)
      ∙ sum_below-next node (λ i. product (factor_at factors (length points) i a) (present erased f i))

  -- what the factors of a node and its value add
  pub adds_node : (node m : ℕ) (value rows new : List ℕ) → m ≡ length points → length value ≡ g.width
      → ((word : List (List ℕ)) → fits word → (b : ℕ) → b < g.width → get_or value b 0 ≡ uncoupled_byte g word b node n)
      → AddsRows m (length value) (λ a. factor_at factors m node a) (λ b. get_or value b 0) rows new
      → (word : List (List ℕ)) → fits word → (a b : ℕ) → a < length points → b < g.width
      → get_or new (a * g.width + b) 0 ≡ bit_xor (get_or rows (a * g.width + b) 0) (product (factor_at factors (length points) node a) (uncoupled_byte g word b node n))
  adds_node node m value rows new count long is adds word fit a b ha hb =
      let adds_as : AddsRows (length points) g.width (λ a. factor_at factors (length points) node a) (λ b. get_or value b 0) rows new =
      subst (λ l. AddsRows (length points) l (λ a. factor_at factors (length points) node a) (λ b. get_or value b 0) rows new) long
      (subst (λ k. AddsRows k (length value) (λ a. factor_at factors k node a) (λ b. get_or value b 0) rows new) count adds) in
      adds_as.at a b ha hb
      ∙ ap (λ v. bit_xor (get_or rows (a * g.width + b) 0) (product (factor_at factors (length points) node a) v)) (is word fit b hb)

-- a node's factors stand within the matrix
pub factors_within : (factors : List ℕ) (points node count m : ℕ) → m ≡ points → length factors ≡ count * points → node < count → node * m + m ≤ length factors
factors_within factors points node count m same long h =
    let fits : node * points + points ≤ count * points = piece_fits node count points h in
    let there : node * m + m ≡ node * points + points = ap (λ n. node * n + n) same in
    omega (arith, there, fits, long)

-- as many points as nodes are unknown
pub few_points : (e : Erased) → IsErased e → length (erased_below e.unknown (node_count e.g)) ≤ e.g.parity_count
few_points e erased = subst (λ v. v ≤ e.g.parity_count) (sym (length-erased_below e.unknown (node_count e.g))) erased.few

-- ---- the order of the layers

not_both : (g : Shape) (erased : List Bool) (v w : ℕ) → GoesBefore g erased v w → GoesBefore g erased w v → ⊥
not_both g erased v w one two =
    elim one [
      | inl a ↦ elim two [ inl b ↦ omega arith | inr b ↦ (let e = b.0 in omega arith) ]
      | inr a ↦ elim two [ inl b ↦ (let e = a.0 in omega arith) | inr b ↦ (let l = a.1 in let r = b.1 in omega arith) ]
    ]

module _ (g : Shape) (erased : List Bool) (order : List ℕ) (by_score : IsByScore g erased order) where
  -- two entries of the order are different layers
  pub other_layer : (k i : ℕ) → k < i → i < length order → get_or order k 0 ≢ get_or order i 0
  other_layer k i h hi same =
      let before : GoesBefore g erased (get_or order k 0) (get_or order i 0) = by_score.rising k i h hi in
      let itself : GoesBefore g erased (get_or order i 0) (get_or order i 0) = subst (λ v. GoesBefore g erased v (get_or order i 0)) same before in
      not_both g erased (get_or order i 0) (get_or order i 0) itself itself

  -- a layer of lower score stands earlier
  pub stands_earlier : (p i : ℕ) → p < layer_count g → i < length order → score_at g erased p < score_at g erased (get_or order i 0) → (k : ℕ) × (k < i) × (get_or order k 0 ≡ p)
  stands_earlier p i hp hi lower =
      let found = by_score.each_layer p hp in
      let k : ℕ = found.0 in
      let within : k < length order = found.1 in
      let here : get_or order k 0 ≡ p = found.2 in
      let earlier : GoesBefore g erased (get_or order k 0) (get_or order i 0) = subst (λ v. GoesBefore g erased v (get_or order i 0)) (sym here) (inl lower) in
      elim (cases_lt k i) [
        | inl early ↦ (k, early, here)
        | inr late ↦ elim (cases_eq k i) [
          | inl same ↦
              absurd (let itself = subst (λ v. GoesBefore g erased (get_or order v 0) (get_or order i 0)) same earlier in not_both g erased (get_or order i 0) (get_or order i 0) itself itself)
          | inr other ↦ absurd (not_both g erased (get_or order k 0) (get_or order i 0) earlier (by_score.rising i k (omega (arith, late, other)) within))
        ]
      ]

-- ---- the ranks, one after another

pub first_rank : (e : Erased) (ranks : List ℕ) → ranks ≡ 0 ∷ [] → AreRanks e 0 ranks
first_rank e ranks is = record {
  len = ap length is;
  each = λ n h.
      let none : n ≡ 0 = omega (arith, h) in
      (λ k. get_or (is k) (none k) 0) ∙ ap (rank e) (sym none);
}

pub next_rank : (e : Erased) (n count : ℕ) (before after : List ℕ) → after ≡ before ++ count ∷ [] → count ≡ rank e (n + 1) → AreRanks e n before → AreRanks e (n + 1) after
next_rank e n count before after now count_is ranks =
    let long : length before ≡ suc n = ranks.len in
    let more : suc n + 1 ≡ suc (n + 1) = omega arith in
    record {
      len = ap length now ∙ length_push before count ∙ ap (λ k. k + 1) long ∙ more;
      each = λ i h. elim (cases_eq i (suc n)) [
        | inl same ↦
            let next : suc n ≡ n + 1 = omega arith in
            ap (λ l. get_or l i 0) now ∙ get_or_push before count 0 i (long ∙ sym same) ∙ count_is ∙ ap (rank e) (sym next ∙ sym same)
        | inr other ↦
            ap (λ l. get_or l i 0) now ∙ get_or_append_left before (count ∷ []) 0 i (omega (arith, h, other, long)) ∙ ranks.each i (omega (arith, h, other))
      ];
    }

-- ---- the bytes of a run

-- bytes that are right at each layer are the run's
pub read_run : (reading : Reading) → IsReading reading → (bytes : List ℕ) → length bytes ≡ ((run_of reading).run.to - (run_of reading).run.from) * (run_of reading).g.width
    → HoldsRunIn reading ((run_of reading).run.to - (run_of reading).run.from) bytes → IsRunIn reading bytes
read_run reading is bytes long holds word fits =
    let e : Erased = run_of reading in
    let placed : IsPlaced reading.run.now.placed = is.run.placed in
    run_bytes e.g e.run word bytes placed.geometry placed.run fits.codeword long
    (λ z b hz hb. (holds word fits).at z b hz hb ∙ ap (λ v. coupled_byte e.g word b v (e.run.from + z)) placed.node)

-- ---- what is refused

pub misfit_refused : (g : Shape) (run : LostRun) (marks : List Bool) (pieces : List (List ℕ)) (room count : ℕ) (fault : MissingReadFault) → IsReadable g run marks → count ≡ length (missing_pieces_of g run marks)
    → IsMisfit g run count pieces room fault → IsReadRefused g run marks pieces room fault
misfit_refused g run marks pieces room count (Run fault) readable same misfit = absurd misfit
misfit_refused g run marks pieces room count PieceCount readable same misfit = (readable, subst (λ n. IsMisfit g run n pieces room PieceCount) same misfit)
misfit_refused g run marks pieces room count PieceLength readable same misfit = (readable, subst (λ n. IsMisfit g run n pieces room PieceLength) same misfit)
misfit_refused g run marks pieces room count Room readable same misfit = (readable, subst (λ n. IsMisfit g run n pieces room Room) same misfit)

pub unread_refused : (g : Shape) (run : LostRun) (marks : List Bool) (pieces : List (List ℕ)) (room : ℕ) (fault : MissingReadFault) → IsReadable g run marks
    → IsUnread (without g run marks) pieces room fault → IsReadRefused g run marks pieces room fault
unread_refused g run marks pieces room fault readable (inl memory) = subst (IsReadRefused g run marks pieces room) (sym memory) readable
unread_refused g run marks pieces room fault readable (inr misfit) = misfit_refused g run marks pieces room (length (missing_pieces_of g run marks)) fault readable refl misfit

-- what holds of a fault holds of the answer that hands it on
pub handed_on : {T : Type 0} (P : MissingReadFault → Type 0) (r : Result T MissingReadFault) (fault : MissingReadFault) → IsErrAnd r (λ other. other ≡ fault) → P fault → IfErr r P
handed_on P (Ok x) fault is p = tt
handed_on P (Err other) fault is p = subst P (sym is) p
