-- Nodes and their chunks: which are erased, how many, and what their bytes are.
use Rattle.std.proofs.Common.{◌≡◌, ℕ, zero, suc, subst, ◌+◌, ◌-◌, ◌*◌, ◌/◌, ◌%◌, ◌<◌, ◌≤◌, Bool, true, false, cond, not, nat_lt, ◌&&◌, List, [], ◌∷◌, ◌++◌, length, get_or, take, drop, replicate, Option, Some, None, is_none, Vec, Global, refl, sym, ap, ◌∙◌, inl, inr, arith, IfSome, Contains, count_by}
use Rattle.std.specs.Option.{option_map}
use Rattle.std.proofs.lemmas.Bool.{cases_lt, cases_eq, cases_Bool, cond-true, cond-false, lt-ltb, le-ltb}
use Rattle.std.proofs.lemmas.Nat.{mod_below, div_below, div-add-mod'}
use Rattle.std.proofs.lemmas.List.{ext_get_or, get_or-replicate, get_or-take, get_or-drop, length_push, take_all}
use Rattle.std.proofs.lemmas.List.Elements.{Contains-push, Contains-append_left}
use Rattle.std.proofs.lemmas.List.Sums.{count_by_more_yes, count_by_more_no}
use Rattle.std.proofs.Math.ListN.{get_or-map}
use Rattle.clay_grid.specs.Shape.{Shape, chunk_count, row_count, node_count, virtual_count, layer_count, chunk_length, node_of_chunk, IsVirtual}
use Rattle.clay_grid.specs.Score.{count_below}
use Rattle.clay_grid.proofs.Counting.{count_below_same, count_below_false, count_below-add}
use Rattle.clay_model.specs.Code.{is_virtual, chunk_of_node}
use Rattle.clay_model.proofs.LayerNumbers.{coupled_value-digits_of}
use Rattle.clay_model.proofs.Codewords.{chunks_fit}
use Rattle.clay_model.specs.Erased.{erased_below}
use Rattle.clay_model.specs.Left.{AreLong, Completes}
use Rattle.code_laws.specs.Solved.{is_erased, coupled_byte, IsCoupled, HoldsSubchunks}

-- ---- the chunk of a node

pub record IsNodeOf (g : Shape) (c i : ℕ) : Type 0 where
  pub real : is_virtual g i ≡ false
  pub chunk : chunk_of_node g i ≡ c

pub node_real : (g : Shape) (c i : ℕ) → node_of_chunk g c ≡ i → IsNodeOf g c i
node_real g c i is =
    elim (cases_lt c g.data_count) [
      | inl early ↦
          let same : i ≡ c = sym is ∙ cond-true (nat_lt c g.data_count) c (c + virtual_count g) (lt-ltb c g.data_count early) in
          let low : i < g.data_count = omega arith in
          record {
            real = ap (λ v. not v && nat_lt i (g.data_count + virtual_count g)) (lt-ltb i g.data_count low);
            chunk = cond-true (nat_lt i g.data_count) i (i - virtual_count g) (lt-ltb i g.data_count low) ∙ same;
          }
      | inr parity ↦
          let same : i ≡ c + virtual_count g = sym is ∙ cond-false (nat_lt c g.data_count) c (c + virtual_count g) (le-ltb c g.data_count parity) in
          let past : g.data_count ≤ i = omega arith in
          let beyond : g.data_count + virtual_count g ≤ i = omega arith in
          let back : i - virtual_count g ≡ c = omega arith in
          record {
            real = (λ k. not (le-ltb i g.data_count past k) && le-ltb i (g.data_count + virtual_count g) beyond k);
            chunk = cond-false (nat_lt i g.data_count) i (i - virtual_count g) (le-ltb i g.data_count past) ∙ back;
          }
    ]

pub node_virtual : (g : Shape) (i : ℕ) → IsVirtual g i → is_virtual g i ≡ true
node_virtual g i h = λ k. not (le-ltb i g.data_count h.0 k) && lt-ltb i (g.data_count + virtual_count g) h.1 k

pub erased_real : (g : Shape) (have : List (Option (Vec ℕ Global))) (c i : ℕ) → IsNodeOf g c i → is_erased g have i ≡ is_none (get_or have c None)
erased_real g have c i node = λ k. not (node.real k) && is_none (get_or have (node.chunk k) None)

pub erased_virtual : (g : Shape) (have : List (Option (Vec ℕ Global))) (i : ℕ) → is_virtual g i ≡ true → is_erased g have i ≡ false
erased_virtual g have i virtual = ap (λ v. not v && is_none (get_or have (chunk_of_node g i) None)) virtual

-- ---- the erased nodes

pub contains_erased : (erased : List Bool) (n i : ℕ) → i < n → get_or erased i false ≡ true → Contains (erased_below erased n) i
contains_erased erased zero i h gone = absurd (omega arith)
contains_erased erased (suc n) i h gone =
    elim (cases_eq i n) [
      | inl same ↦
          let last : get_or erased n false ≡ true = ap (λ v. get_or erased v false) (sym same) ∙ gone in
          subst (λ l. Contains l i) (sym (cond-true (get_or erased n false) (erased_below erased n ++ n ∷ []) (erased_below erased n) last))
          (subst (λ v. Contains (erased_below erased n ++ v ∷ []) i) same (Contains-push (erased_below erased n) i))
      | inr other ↦
          let before : Contains (erased_below erased n) i = contains_erased erased n i (omega (arith, other)) gone in
          elim (cases_Bool (get_or erased n false)) [
            | inl last ↦ subst (λ l. Contains l i) (sym (cond-true (get_or erased n false) (erased_below erased n ++ n ∷ []) (erased_below erased n) last))
                (Contains-append_left (erased_below erased n) (n ∷ []) i before)
            | inr last ↦ subst (λ l. Contains l i) (sym (cond-false (get_or erased n false) (erased_below erased n ++ n ∷ []) (erased_below erased n) last)) before
          ]
    ]

add_none : (a : ℕ) → a + 0 ≡ a
add_none a = omega arith

pub length-erased_below : (erased : List Bool) (n : ℕ) → length (erased_below erased n) ≡ count_below n (λ i. get_or erased i false)
length-erased_below erased zero = refl
length-erased_below erased (suc n) =
    let rest = length-erased_below erased n in
    elim (cases_Bool (get_or erased n false)) [
      | inl gone ↦
          ap length (cond-true (get_or erased n false) (erased_below erased n ++ n ∷ []) (erased_below erased n) gone)
          ∙ length_push (erased_below erased n) n
          ∙ (λ k. rest k + 1)
          ∙ ap (λ v. count_below n (λ i. get_or erased i false) + cond v 1 0) (sym gone)
      | inr here ↦
          ap length (cond-false (get_or erased n false) (erased_below erased n ++ n ∷ []) (erased_below erased n) here)
          ∙ rest
          ∙ sym (add_none (count_below n (λ i. get_or erased i false)))
          ∙ ap (λ v. count_below n (λ i. get_or erased i false) + cond v 1 0) (sym here)
    ]

-- as many entries pass as places
count_by-take : (have : List (Option (Vec ℕ Global))) (n : ℕ) → n ≤ length have → count_below n (λ c. is_none (get_or have c None)) ≡ count_by is_none (take n have)
count_by-take have zero h = refl
count_by-take have (suc n) h =
    let rest = count_by-take have n (omega arith) in
    let next : n + 1 ≡ suc n = omega arith in
    elim (cases_Bool (is_none (get_or have n None))) [
      | inl gone ↦
          let within : n < length have = omega arith in
          let one : cond (is_none (get_or have n None)) 1 0 ≡ 1 = ap (λ v. cond v 1 0) gone in
          let more = count_by_more_yes is_none have n None within gone in
          (λ k. rest k + one k) ∙ sym more ∙ ap (λ v. count_by is_none (take v have)) next
      | inr here ↦
          let within : n < length have = omega arith in
          let none : cond (is_none (get_or have n None)) 1 0 ≡ 0 = ap (λ v. cond v 1 0) here in
          let more = count_by_more_no is_none have n None within here in
          (λ k. rest k + none k) ∙ add_none (count_by is_none (take n have)) ∙ sym more ∙ ap (λ v. count_by is_none (take v have)) next
    ]

data_node : (g : Shape) (have : List (Option (Vec ℕ Global))) (i : ℕ) → i < g.data_count → is_erased g have i ≡ is_none (get_or have i None)
data_node g have i h =
    erased_real g have i i (node_real g i i (cond-true (nat_lt i g.data_count) i (i + virtual_count g) (lt-ltb i g.data_count h)))

virtual_node : (g : Shape) (have : List (Option (Vec ℕ Global))) (i : ℕ) → i < virtual_count g → is_erased g have (g.data_count + i) ≡ false
virtual_node g have i h = erased_virtual g have (g.data_count + i) (node_virtual g (g.data_count + i) (omega arith, omega arith))

parity_node : (g : Shape) (have : List (Option (Vec ℕ Global))) (i : ℕ) → is_erased g have (g.data_count + virtual_count g + i) ≡ is_none (get_or have (g.data_count + i) None)
parity_node g have i =
    let there : g.data_count + i + virtual_count g ≡ g.data_count + virtual_count g + i = omega arith in
    erased_real g have (g.data_count + i) (g.data_count + virtual_count g + i)
    (node_real g (g.data_count + i) (g.data_count + virtual_count g + i)
    (cond-false (nat_lt (g.data_count + i) g.data_count) (g.data_count + i) (g.data_count + i + virtual_count g) (le-ltb (g.data_count + i) g.data_count (omega arith)) ∙ there))

-- as many nodes are erased as chunks are missing
count_nodes : (g : Shape) (have : List (Option (Vec ℕ Global))) → 0 < g.parity_count → count_below (node_count g) (is_erased g have) ≡ count_below (chunk_count g) (λ c. is_none (get_or have c None))
count_nodes g have rows =
    let k : ℕ = g.data_count in
    let v : ℕ = virtual_count g in
    let m : ℕ = g.parity_count in
    let fit : chunk_count g ≤ node_count g = chunks_fit g rows in
    let all : node_count g ≡ k + v + m = omega arith in
    let missing : ℕ → Bool = λ c. is_none (get_or have c None) in
    let front : count_below k (is_erased g have) ≡ count_below k missing = count_below_same k (is_erased g have) missing (data_node g have) in
    let middle : count_below v (λ i. is_erased g have (k + i)) ≡ 0 =
    count_below_same v (λ i. is_erased g have (k + i)) (λ i. false) (virtual_node g have) ∙ count_below_false v in
    let back : count_below m (λ i. is_erased g have (k + v + i)) ≡ count_below m (λ i. missing (k + i)) =
    count_below_same m (λ i. is_erased g have (k + v + i)) (λ i. missing (k + i)) (λ i h. parity_node g have i) in
    let two = count_below-add k v (is_erased g have) in
    let three = count_below-add (k + v) m (is_erased g have) in
    let sides = count_below-add k m missing in
    ap (λ n. count_below n (is_erased g have)) all ∙ omega (arith, front, middle, back, two, three, sides)

pub few_points : (g : Shape) (have : List (Option (Vec ℕ Global))) (erased : List Bool) → 0 < g.parity_count → length have ≡ chunk_count g
    → ((i : ℕ) → i < node_count g → get_or erased i false ≡ is_erased g have i) → count_by is_none have ≤ g.parity_count
    → length (erased_below erased (node_count g)) ≤ g.parity_count
few_points g have erased rows count erased_are few =
    let counted : length (erased_below erased (node_count g)) ≡ count_by is_none have =
    length-erased_below erased (node_count g)
    ∙ count_below_same (node_count g) (λ i. get_or erased i false) (is_erased g have) erased_are
    ∙ count_nodes g have rows
    ∙ count_by-take have (chunk_count g) (omega (arith, count))
    ∙ ap (count_by is_none) (take_all (chunk_count g) have (omega (arith, count))) in
    subst (λ n. n ≤ g.parity_count) (sym counted) few

-- ---- the bytes of a node

pub agreeing_chunk : (g : Shape) (have : List (Option (Vec ℕ Global))) (word : List (List ℕ)) → Completes g have word → (c : ℕ) (v : Vec ℕ Global) → get_or have c None ≡ Some v → get_or word c [] ≡ v.items
agreeing_chunk g have word fits c v there = fits.agrees c v.items (get_or-map (option_map (λ (w : Vec ℕ Global). w.items)) have c None ∙ ap (option_map (λ (w : Vec ℕ Global). w.items)) there)

pub long_chunk : (n : ℕ) (have : List (Option (Vec ℕ Global))) → AreLong n have → (c : ℕ) (v : Vec ℕ Global) → c < length have → get_or have c None ≡ Some v → length v.items ≡ n
long_chunk n have long c v h there = subst (λ o. IfSome o (λ w. length w.items ≡ n)) there (long c None h)

-- byte b of the coupled value of a node that stands for a chunk
pub chunk_byte : (g : Shape) (word : List (List ℕ)) (c i n b : ℕ) → 0 < row_count g → n < layer_count g → IsNodeOf g c i
    → coupled_byte g word b i n ≡ get_or (get_or word c []) (n * g.width + b) 0
chunk_byte g word c i n b rows below node =
    coupled_value-digits_of g word b i n rows below
    ∙ cond-false (is_virtual g i) 0 (get_or (get_or word (chunk_of_node g i) []) (n * g.width + b) 0) node.real
    ∙ ap (λ v. get_or (get_or word v []) (n * g.width + b) 0) node.chunk

pub held_piece : (g : Shape) (have : List (Option (Vec ℕ Global))) (c i n at : ℕ) (v : Vec ℕ Global) → 0 < row_count g → n < layer_count g → IsNodeOf g c i → get_or have c None ≡ Some v
    → at ≡ n * g.width → (k : ℕ) → k ≡ g.width → IsCoupled g have i n (take k (drop at v.items))
held_piece g have c i n at v rows below node there at_is k width = record {
  at = λ word fits b hb.
      get_or-take k (drop at v.items) b 0 (subst (λ w. b < w) (sym width) hb)
      ∙ get_or-drop at v.items b 0
      ∙ ap (λ p. get_or v.items (p + b) 0) at_is
      ∙ ap (λ l. get_or l (n * g.width + b) 0) (sym (agreeing_chunk g have word fits c v there))
      ∙ sym (chunk_byte g word c i n b rows below node);
}

pub virtual_piece : (g : Shape) (have : List (Option (Vec ℕ Global))) (i n : ℕ) (zeros : List ℕ) → is_virtual g i ≡ true → zeros ≡ replicate g.width 0 → IsCoupled g have i n zeros
virtual_piece g have i n zeros virtual empty = record {
  at = λ word fits b hb.
      ap (λ l. get_or l b 0) empty
      ∙ get_or-replicate g.width b 0 0 hb
      ∙ sym (cond-true (is_virtual g i) 0 _ virtual);
}

-- a chunk whose subchunks are those of its node
pub same_chunk : (g : Shape) (have : List (Option (Vec ℕ Global))) (c i : ℕ) (chunk : List ℕ) → 0 < row_count g → 0 < g.width → c < chunk_count g → IsNodeOf g c i → length chunk ≡ chunk_length g
    → HoldsSubchunks g have i (layer_count g) chunk → (word : List (List ℕ)) → Completes g have word → chunk ≡ get_or word c []
same_chunk g have c i chunk rows wide within node long holds word fits =
    ext_get_or 0 chunk (get_or word c []) (long ∙ sym (fits.codeword.lengths c within)) (λ p hp.
    let place : p < chunk_length g = subst (λ n. p < n) long hp in
    let n : ℕ = p / g.width in
    let b : ℕ = p % g.width in
    let below : n < layer_count g = div_below p g.width (layer_count g) wide place in
    let whole : n * g.width + b ≡ p = div-add-mod' p g.width in
    ap (λ v. get_or chunk v 0) (sym whole)
    ∙ holds.at word fits n b below (mod_below p g.width wide)
    ∙ chunk_byte g word c i n b rows below node
    ∙ ap (λ v. get_or (get_or word c []) v 0) whole)
