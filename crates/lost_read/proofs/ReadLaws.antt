-- The places of pieces, the values that are solved for, and the lost subchunks that are made of them.
use Rattle.std.proofs.Common.{◌≡◌, ◌≢◌, ℕ, suc, subst, ◌+◌, ◌-◌, ◌*◌, ◌/◌, ◌%◌, ◌<◌, ◌≤◌, Bool, true, false, eqb, List, [], All, length, get_or, set, take, drop, replicate, map, refl, sym, ap, ◌∙◌, inl, inr, arith, bit_xor, length-drop}
use Rattle.std.proofs.lemmas.Bool.{cases_eq, cases_Bool, eq-eqb, true≢false, cond-true, cond-false}
use Rattle.std.proofs.lemmas.Nat.{div-mul-add, mod-mul-add, div-add-mod'}
use Rattle.std.proofs.lemmas.List.{get_or-map, length-map, length-take-le, get_or-take, get_or-drop, get_or-replicate, get_or-set_same, get_or-set_other}
use lib.Bits.{xor_zero_r}
use Rattle.clay_field.specs.Field.{product, quotient}
use Rattle.clay_field.proofs.FieldLaws.{product_zero}
use Rattle.clay_grid.specs.Shape.{Shape, chunk_count, row_count, node_count, layer_count, node_of_chunk}
use Rattle.clay_grid.specs.Layers.{layer_of}
use Rattle.clay_grid.specs.Limits.{IsGeometry}
use Rattle.clay_grid.proofs.Counting.{count_below_same}
use Rattle.clay_model.specs.Sums.{sum_below}
use Rattle.clay_model.specs.Code.{IsCodeword, is_virtual}
use Rattle.clay_model.specs.Erased.{erased_below, present}
use Rattle.clay_model.specs.Partners.{ArePartners}
use Rattle.code_laws.specs.Columns.{HoldsPieces}
use Rattle.code_laws.specs.Solved.{coupled_byte, uncoupled_byte}
use Rattle.code_laws.proofs.Pieces.{piece_fits, place_below}
use Rattle.code_laws.proofs.Column.{node_inside}
use Rattle.code_laws.proofs.Nodes.{node_real, chunk_byte, length-erased_below}
use Rattle.clay_kernels.specs.Lanes.{AddsRows}
use Rattle.generator_matrix.specs.Generated.{factor_at}
use Rattle.lost_layers.specs.LostLayers.{IsLostRun, is_wanted, partner_layer, lost_node, lost_column, is_unpaired, is_solved, is_unknown}
use Rattle.lost_layers.specs.LostPieces.{is_piece, piece_at, lost_pieces_of}
use Rattle.lost_layers.specs.declared.run.LostRun.{LostRun}
use Rattle.lost_layers.specs.declared.run.LostPiece.{LostPiece}
use Rattle.lost_layers.proofs.PieceLaws.{some_rows, layer_with-own, partner_column, mate_piece, unknown_few}
use Rattle.lost_layers.proofs.PieceLists.{each_read, only_read}
use Rattle.lost_layers.proofs.PieceSteps.{partner_layer_is}
use Rattle.lost_layers.proofs.Determining.{wanted_between, lone_solved, row_solved, crossed_value, run_bytes}
use Rattle.lost_layers.proofs.RepairBounds.{many_unpaired, lone_layer}
use Rattle.lost_read.specs.Read.{bytes_of_piece, HasPieces, IsReadFrom}
use Rattle.lost_read.specs.Plan.{AreSubchunks, StandsFor, HasPlaces}

-- ---- the places of the pieces

abbrev pub none : LostPiece
none = piece_at 0 0

-- the place of piece r's subchunk among all of the code
abbrev pub key : Shape → List LostPiece → ℕ → ℕ
key g pieces r = (get_or pieces r none).chunk * layer_count g + (get_or pieces r none).layer

same_piece : (count : ℕ) (a b : LostPiece) → a.layer < count → b.layer < count → a.chunk * count + a.layer ≡ b.chunk * count + b.layer → a ≡ b
same_piece count a b ha hb same =
    let chunk : a.chunk ≡ b.chunk = sym (div-mul-add a.chunk count a.layer ha) ∙ ap (λ v. v / count) same ∙ div-mul-add b.chunk count b.layer hb in
    let layer : a.layer ≡ b.layer = sym (mod-mul-add a.chunk count a.layer ha) ∙ ap (λ v. v % count) same ∙ mod-mul-add b.chunk count b.layer hb in
    λ k. piece_at (chunk k) (layer k)

pub key_below : (g : Shape) (pieces : List LostPiece) (r : ℕ) → AreSubchunks g pieces → r < length pieces → key g pieces r < chunk_count g * layer_count g
key_below g pieces r are h =
    let own = are r h in
    place_below (get_or pieces r none).chunk (chunk_count g) (layer_count g) (get_or pieces r none).layer own.0 own.1

pub places_more : (g : Shape) (pieces : List LostPiece) (at : ℕ) (places : List ℕ) → AreSubchunks g pieces → at < length pieces → length places ≡ chunk_count g * layer_count g
    → HasPlaces g pieces at places → HasPlaces g pieces (at + 1) (set places (key g pieces at) at)
places_more g pieces at places are room long before r h =
    let inside : key g pieces at < length places = subst (λ n. key g pieces at < n) (sym long) (key_below g pieces at are room) in
    let there : r < length pieces = omega (arith, h, room) in
    elim (cases_eq (key g pieces r) (key g pieces at)) [
      | inl equal ↦
          let is : get_or (set places (key g pieces at) at) (key g pieces r) 0 ≡ at =
          ap (λ k. get_or (set places (key g pieces at) at) k 0) equal ∙ get_or-set_same places (key g pieces at) at 0 inside in
          record {
            within = subst (λ v. v < length pieces) (sym is) room;
            same = ap (λ v. get_or pieces v none) is ∙ same_piece (layer_count g) (get_or pieces at none) (get_or pieces r none) (are at room).1 (are r there).1 (sym equal);
          }
      | inr other ↦
          let apart : r ≢ at = λ e. other (ap (key g pieces) e) in
          let is : get_or (set places (key g pieces at) at) (key g pieces r) 0 ≡ get_or places (key g pieces r) 0 =
          get_or-set_other places (key g pieces at) (key g pieces r) at 0 other in
          let kept = before r (omega (arith, h, apart)) in
          record {
            within = subst (λ v. v < length pieces) (sym is) kept.within;
            same = ap (λ v. get_or pieces v none) is ∙ kept.same;
          }
    ]

pub are_subchunks : (g : Shape) (run : LostRun) → AreSubchunks g (lost_pieces_of g run)
are_subchunks g run r h = let read = only_read g run r h in (read.chunk, read.layer)

-- a subchunk that is read stands at its place
pub stands_there : (g : Shape) (run : LostRun) (places : List ℕ) (c n : ℕ) → c < chunk_count g → n < layer_count g → is_piece g run (node_of_chunk g c) n ≡ true
    → HasPlaces g (lost_pieces_of g run) (length (lost_pieces_of g run)) places → StandsFor (lost_pieces_of g run) (get_or places (c * layer_count g + n) 0) c n
stands_there g run places c n hc hn read has =
    let pieces : List LostPiece = lost_pieces_of g run in
    let found = each_read g run c n hc hn read in
    let stands = found.1 in
    let at = has found.0 stands.within in
    let key_is : key g pieces found.0 ≡ c * layer_count g + n = ap (λ (p : LostPiece). p.chunk * layer_count g + p.layer) stands.is in
    record {
      within = subst (λ k. get_or places k 0 < length pieces) key_is at.within;
      is = ap (λ k. get_or pieces (get_or places k 0) none) (sym key_is) ∙ at.same ∙ stands.is;
    }

pub piece_bytes : (g : Shape) (run : LostRun) (pieces : List (List ℕ)) (word : List (List ℕ)) (p c n i b : ℕ) → 0 < row_count g → n < layer_count g → node_of_chunk g c ≡ i → StandsFor (lost_pieces_of g run) p c n
    → HasPieces g run pieces word → b < g.width → get_or (get_or pieces p []) b 0 ≡ coupled_byte g word b i n
piece_bytes g run pieces word p c n i b rows hn is stands fits hb =
    ap (λ l. get_or (get_or l p []) b 0) (sym fits.agrees)
    ∙ ap (λ l. get_or l b 0) (get_or-map (bytes_of_piece g word) (lost_pieces_of g run) p none [] stands.within)
    ∙ ap (λ q. get_or (bytes_of_piece g word q) b 0) stands.is
    ∙ get_or-take g.width (drop (n * g.width) (get_or word c [])) b 0 hb
    ∙ get_or-drop (n * g.width) (get_or word c []) b 0
    ∙ sym (chunk_byte g word c i n b rows hn (node_real g c i is))

pub virtual_bytes : (g : Shape) (word : List (List ℕ)) (i n b : ℕ) (zeros : List ℕ) → is_virtual g i ≡ true → zeros ≡ replicate g.width 0 → b < g.width → get_or zeros b 0 ≡ coupled_byte g word b i n
virtual_bytes g word i n b zeros virtual empty hb =
    ap (λ l. get_or l b 0) empty ∙ get_or-replicate g.width b 0 0 hb ∙ sym (cond-true (is_virtual g i) 0 _ virtual)

-- each of the values of some elements has it, so each of the elements
pub all_from_map : {X Y : Type 0} (P : X → Type 0) (f : Y → X) (ys : List Y) → All P (map f ys) → All (λ y. P (f y)) ys
all_from_map P f ys all i d h = subst P (get_or-map f ys i d (f d) h) (all i (f d) (subst (λ n. i < n) (sym (length-map ys f)) h))

-- bytes that are right at each layer are the run's
pub read_run : (g : Shape) (run : LostRun) (pieces : List (List ℕ)) (bytes : List ℕ) → IsGeometry g → IsLostRun g run → length bytes ≡ (run.to - run.from) * g.width
    → ((word : List (List ℕ)) → HasPieces g run pieces word → HoldsPieces g.width (run.to - run.from) (λ i b. coupled_byte g word b (lost_node g run) (run.from + i)) bytes)
    → IsReadFrom g run pieces bytes
read_run g run pieces bytes geometry fits long holds word has = run_bytes g run word bytes geometry fits has.codeword long (λ z b hz hb. (holds word has).at z b hz hb)

-- ---- which values are solved for

-- in each solved layer the same
pub unknown_same : (g : Shape) (run : LostRun) (m n i : ℕ) → is_solved g run m ≡ true → is_solved g run n ≡ true → is_unknown g run m i ≡ is_unknown g run n i
unknown_same g run m n i hm hn =
    elim (cases_eq run.to (suc run.from)) [
      | inl lone ↦ ap (λ v. is_unknown g run v i) (lone_layer g run lone m hm ∙ sym (lone_layer g run lone n hn))
      | inr many ↦
          cond-true (is_unpaired g run m) (eqb (i / row_count g) (lost_column g run)) _ (many_unpaired g run many m hm)
          ∙ sym (cond-true (is_unpaired g run n) (eqb (i / row_count g) (lost_column g run)) _ (many_unpaired g run many n hn))
    ]

pub few_points : (g : Shape) (run : LostRun) (n : ℕ) (erased : List Bool) → IsGeometry g → lost_node g run < node_count g → ((i : ℕ) → i < node_count g → get_or erased i false ≡ is_unknown g run n i)
    → length (erased_below erased (node_count g)) ≤ g.parity_count
few_points g run n erased geometry inside are =
    subst (λ v. v ≤ g.parity_count)
    (sym (length-erased_below erased (node_count g) ∙ count_below_same (node_count g) (λ i. get_or erased i false) (is_unknown g run n) are))
    (unknown_few g run n geometry inside)

-- a wanted subchunk's partner, where its own layer isn't solved
pub record IsSolvedMate (g : Shape) (run : LostRun) (j p : ℕ) : Type 0 where
  pub solved : is_solved g run p ≡ true
  pub unknown : is_unknown g run p j ≡ true

module _ (g : Shape) (run : LostRun) (z j p : ℕ) (geometry : IsGeometry g) (fits : IsLostRun g run) (hz : z < layer_count g) (wanted : is_wanted run z ≡ true)
    (pair : ArePartners g (lost_node g run) z j p) (below : p < layer_count g) where
  rows : 0 < row_count g
  rows = some_rows g geometry

  inside : lost_node g run < node_count g
  inside = node_inside g run.lost geometry fits.chunk

  pub mate_layer : p ≡ partner_layer g (lost_node g run) z
  mate_layer = partner_layer_is g (lost_node g run) z j p pair below

  pub mate_solved : is_solved g run z ≡ false → IsSolvedMate g run j p
  mate_solved unsolved =
      let layer : p ≡ partner_layer g (lost_node g run) z = mate_layer in
      let many : run.to ≢ suc run.from =
      λ lone. let between = wanted_between run z wanted in true≢false (sym (lone_solved g run z lone (omega (arith, lone, between.0, between.1))) ∙ unsolved) in
      let solved : is_solved g run p ≡ true = ap (is_solved g run) layer ∙ row_solved g run z rows inside hz many wanted in
      record {
        solved = solved;
        unknown =
            cond-true (is_unpaired g run p) (eqb (j / row_count g) (lost_column g run)) _ (many_unpaired g run many p solved)
            ∙ eq-eqb (j / row_count g) (lost_column g run) (ap (λ v. v / row_count g) pair.node_is ∙ partner_column g rows (lost_node g run) z inside);
      }

  -- an unpaired one's own layer is solved
  pub alone_solved : j ≡ lost_node g run → is_solved g run z ≡ true
  alone_solved same =
      let q : ℕ = row_count g in
      let node : ℕ = lost_node g run in
      let split : node / q * q + node % q ≡ node = div-add-mod' node q in
      let there : j ≡ node / q * q + get_or (layer_of g z) (node / q) 0 = pair.node_is in
      let digit : get_or (layer_of g z) (node / q) 0 ≡ node % q = omega (arith, split, same, there) in
      let own : p ≡ z = mate_layer ∙ layer_with-own g rows z (node / q) (node % q) hz digit in
      elim (cases_Bool (is_solved g run z)) [
        | inl solved ↦ solved
        | inr unsolved ↦ ap (is_solved g run) (sym own) ∙ (mate_solved unsolved).solved
      ]

  pub mate_read : j ≢ lost_node g run → is_piece g run j p ≡ true
  mate_read apart =
      (λ k. is_piece g run (pair.node_is k) (mate_layer k))
      ∙ mate_piece g run z rows inside hz wanted (λ e. apart (pair.node_is ∙ e))

  -- the wanted subchunk from both values of its partner
  pub crossed_mate : (word : List (List ℕ)) → IsCodeword g word → (b : ℕ) → j ≢ lost_node g run
      → coupled_byte g word b (lost_node g run) z ≡ quotient (bit_xor (uncoupled_byte g word b j p) (coupled_byte g word b j p)) 2
  crossed_mate word w b apart =
      crossed_value g run word word geometry fits.chunk w w (λ i n b hi hn hb read. refl) word w z b hz (λ e. apart (pair.node_is ∙ e))
      ∙ (λ k. quotient (bit_xor (uncoupled_byte g word b (sym pair.node_is k) (sym mate_layer k)) (coupled_byte g word b (sym pair.node_is k) (sym mate_layer k))) 2)

-- ---- sums of values

-- the sum of the values of the nodes below count in layer n, each times its factor in the value of the unknown node e
abbrev pub HoldsSum : Shape → (List (List ℕ) → Type 0) → List Bool → ℕ → List ℕ → ℕ → ℕ → ℕ → List ℕ → Type 0
HoldsSum g fits erased m factors n e count sum =
    (word : List (List ℕ)) → fits word → (b : ℕ) → b < g.width
    → get_or sum b 0 ≡ sum_below count (λ i. product (factor_at factors m i e) (present erased (λ i. uncoupled_byte g word b i n) i))

sum_below-next : (n : ℕ) (f : ℕ → ℕ) → bit_xor (sum_below n f) (f n) ≡ sum_below (n + 1) f
sum_below-next n f = let next : suc n ≡ n + 1 = omega arith in ap (λ k. sum_below k f) next

-- the factor that a part of a part of the matrix begins with
one_factor : (factors : List ℕ) (start m e j k : ℕ) → e < m → j ≡ m → 0 < k → get_or (take k (drop e (take j (drop start factors)))) 0 0 ≡ get_or factors (start + e) 0
one_factor factors start m e j k he width some =
    let at : e + 0 ≡ e = omega arith in
    get_or-take k (drop e (take j (drop start factors))) 0 0 some
    ∙ get_or-drop e (take j (drop start factors)) 0 0
    ∙ ap (λ v. get_or (take j (drop start factors)) v 0) at
    ∙ get_or-take j (drop start factors) e 0 (subst (λ w. e < w) (sym width) he)
    ∙ get_or-drop start factors e 0

module _ (g : Shape) (fits : List (List ℕ) → Type 0) (erased : List Bool) (m : ℕ) (factors : List ℕ) (n e : ℕ) where
  pub sum_more : (node start j k len : ℕ) (value sum new : List ℕ) → e < m → start ≡ node * m → j ≡ m → 0 < k → len ≡ g.width → get_or erased node false ≡ false
      → ((word : List (List ℕ)) → fits word → (b : ℕ) → b < g.width → get_or value b 0 ≡ uncoupled_byte g word b node n)
      → (count : ℕ) → 0 < count → AddsRows count len (λ r. get_or (take k (drop e (take j (drop start factors)))) r 0) (λ b. get_or value b 0) sum new
      → HoldsSum g fits erased m factors n e node sum → HoldsSum g fits erased m factors n e (node + 1) new
  sum_more node start j k len value sum new he start_is width some long here value_is count one adds before = λ word fit b hb.
      let f : ℕ → ℕ = λ i. uncoupled_byte g word b i n in
      let flat : 0 * len + b ≡ b = omega arith in
      let added : get_or new b 0 ≡ bit_xor (get_or sum b 0) (product (get_or (take k (drop e (take j (drop start factors)))) 0 0) (get_or value b 0)) =
      subst (λ v. get_or new v 0 ≡ bit_xor (get_or sum v 0) (product (get_or (take k (drop e (take j (drop start factors)))) 0 0) (get_or value b 0))) flat
      (adds.at 0 b one (subst (λ w. b < w) (sym long) hb)) in
      let factor : get_or (take k (drop e (take j (drop start factors)))) 0 0 ≡ factor_at factors m node e =
      one_factor factors start m e j k he width some ∙ ap (λ s. get_or factors (s + e) 0) start_is in
      added
      ∙ (λ k. bit_xor (before word fit b hb k) (product (factor k) ((value_is word fit b hb ∙ sym (cond-false (get_or erased node false) 0 (f node) here)) k)))
      ∙ sum_below-next node (λ i. product (factor_at factors m i e) (present erased f i))

  pub sum_skipped : (node : ℕ) (sum : List ℕ) → get_or erased node false ≡ true → HoldsSum g fits erased m factors n e node sum → HoldsSum g fits erased m factors n e (node + 1) sum
  sum_skipped node sum gone before = λ word fit b hb.
      let f : ℕ → ℕ = λ i. uncoupled_byte g word b i n in
      let so_far : ℕ = sum_below node (λ i. product (factor_at factors m i e) (present erased f i)) in
      let nothing : product (factor_at factors m node e) (present erased f node) ≡ 0 =
      ap (product (factor_at factors m node e)) (cond-true (get_or erased node false) 0 (f node) gone) ∙ product_zero (factor_at factors m node e) in
      before word fit b hb ∙ sym (ap (bit_xor so_far) nothing ∙ xor_zero_r so_far) ∙ sum_below-next node (λ i. product (factor_at factors m i e) (present erased f i))

-- ---- factors

pub length_factors : (factors : List ℕ) (start m k : ℕ) → start + m ≤ length factors → k ≡ m → length (take k (drop start factors)) ≡ m
length_factors factors start m k room width =
    let rest : length (drop start factors) ≡ length factors - start = length-drop start factors in
    length-take-le k (drop start factors) (omega (arith, rest, room, width)) ∙ width

-- as many factors of a node as nodes are unknown
pub factors_long : (factors : List ℕ) (points node count m : ℕ) (part : List ℕ) → m ≡ points → length factors ≡ count * points → node < count
    → part ≡ take (node * m + m - node * m) (drop (node * m) factors) → length part ≡ m
factors_long factors points node count m part same long h is =
    let fits : node * points + points ≤ count * points = piece_fits node count points h in
    let there : node * m + m ≡ node * points + points = ap (λ n. node * n + n) same in
    let width : node * m + m - node * m ≡ m = omega arith in
    ap length is ∙ length_factors factors (node * m) m (node * m + m - node * m) (omega (arith, there, fits, long)) width

pub one_long : (part : List ℕ) (place m : ℕ) → length part ≡ m → place < m → length (take (place + 1 - place) (drop place part)) ≡ 1
one_long part place m long h =
    let one : place + 1 - place ≡ 1 = omega arith in
    length_factors part place 1 (place + 1 - place) (omega (arith, long, h)) one
