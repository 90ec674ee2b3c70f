-- Runs of layers of one score, and shares of their rows.
-- Where layers are shared, a run of layers of one score comes behind all lower ones (HoldsFirst), its rows are made apart, each for its
-- layer, and then go to their places (place_rows). Where positions are, some range has each position (IsCovered, a record with the range
-- and its number), and threads keep places (SamePlace); so a chunk is right byte by byte, with no word on the order of ranges or whether
-- they overlap.
use Rattle.std.proofs.Common.{◌≡◌, ◌≢◌, ℕ, ◌+◌, ◌-◌, ◌*◌, ◌/◌, ◌%◌, ◌<◌, ◌≤◌, min, List, length, get_or, take, drop, Option, Vec, Global, sym, subst, ap, ◌∙◌, inl, inr, arith}
use Rattle.std.proofs.lemmas.Bool.{cases_lt}
use Rattle.std.proofs.lemmas.Nat.{mul-le, div-add-mod'}
use Rattle.std.proofs.lemmas.List.{get_or-take, get_or-drop, length-take, length-drop}
use Rattle.clay_grid.specs.Shape.{Shape, layer_count}
use Rattle.clay_grid.specs.Score.{score_at, IsByScore}
use Rattle.code_laws.proofs.Pieces.{put_mid_before, put_mid_within, put_mid_past, place_below, piece_fits}
use borrow.Rule.Slice.PartMut.{put_mid}
use Rattle.clay_model.specs.Left.{Completes}
use Rattle.code_laws.specs.Solved.{uncoupled_byte}
use Rattle.code_laws.proofs.Layer.{lower_earlier}
use Rattle.clay_lanes.specs.Recovered.{HoldsLayerRows, HoldsLower, AreRowsOfLayers}
use Rattle.clay_lanes.specs.declared.recovery_plan.DecodePlan.{DecodePlan}
use Rattle.clay_par.specs.Scores.{IsRun, HoldsFirst, IsRowByte, IsShare}

-- the place of byte b of row e in layer n
place_is : (n c e w b : ℕ) → (n * c + e) * w + b ≡ n * (c * w) + (e * w + b)
place_is n c e w b = omega arith

-- an element of a part of a list
pub part_at : (xs : List ℕ) (first k count i : ℕ) → k ≡ count → i < count → get_or (take k (drop first xs)) i 0 ≡ get_or xs (first + i) 0
part_at xs first k count i long h = get_or-take k (drop first xs) i 0 (subst (λ n. i < n) (sym long) h) ∙ get_or-drop first xs i 0

-- a part that lies in a list is as long as it says
pub part_long : (xs : List ℕ) (first k count : ℕ) → k ≡ count → first + count ≤ length xs → length (take k (drop first xs)) ≡ count
part_long xs first k count long inside =
    let taken = length-take k (drop first xs) in
    let dropped = length-drop first xs in
    omega (arith, taken, dropped)

-- the rows of a share are rows of all the layers
pub share_right : (g : Shape) (have : List (Option (Vec ℕ Global))) (plan : DecodePlan) (at len : ℕ) (layers : List ℕ) (start n k : ℕ) (rows : List ℕ)
    → (share : IsShare (length plan.points.items * len) layers start n) → k ≡ share.count
    → AreRowsOfLayers g (λ word. Completes g have word) at len plan.points.items (take k (drop share.first layers)) (length (take k (drop share.first layers))) rows
    → (o : ℕ) → o < n → IsRowByte g have plan at len layers (start + o) (get_or rows o 0)
share_right g have plan at len layers start n k rows share long holds o ho = record {
  value = λ word fit i e b hi he hb place.
      let count : ℕ = length plan.points.items in
      let part : ℕ = count * len in
      let first : ℕ = share.first in
      let byte : e * len + b < part = place_below e count len b he hb in
      let is : (i * count + e) * len + b ≡ i * part + (e * len + b) = place_is i count e len b in
      let begins = share.begins in
      let ends = share.long in
      let from : first ≤ i = elim (cases_lt i first) [
        | inl early ↦ absurd (let all : i * part + part ≤ first * part = piece_fits i first part early in omega arith)
        | inr late ↦ late
      ] in
      let j : ℕ = i - first in
      let here : first + j ≡ i = omega (arith, from) in
      let split : i * part ≡ first * part + j * part = ap (λ v. v * part) (sym here) ∙ omega arith in
      let offset : o ≡ j * part + (e * len + b) = omega (arith, place, is, begins, split) in
      let below : j < share.count = elim (cases_lt j share.count) [
        | inl early ↦ early
        | inr late ↦ absurd (let all : share.count * part ≤ j * part = mul-le share.count part j part late (omega arith) in omega (arith, ho, ends, offset, all))
      ] in
      let sub : List ℕ = take k (drop first layers) in
      ap (λ p. get_or rows p 0) (offset ∙ sym (place_is j count e len b))
      ∙ holds.bytes word fit j e b (subst (λ m. j < m) (sym (part_long layers first k share.count long share.inside)) below) he hb
      ∙ ap (uncoupled_byte g word (at + b) (get_or plan.points.items e 0)) (part_at layers first k share.count j long below ∙ ap (λ v. get_or layers v 0) here);
}

-- a chunk of rows has whole layers
pub share_of_chunk : (part n size total start len : ℕ) (layers : List ℕ) → 0 < part → size ≡ n * part → total ≡ length layers * part → start % size ≡ 0 → len ≡ min size (total - start) → 0 < len → start + len ≤ total
    → IsShare part layers start len
share_of_chunk part n size total start len layers some size_is total_is whole len_is nonempty inside =
    let first : ℕ = start / size * n in
    let all : ℕ = length layers in
    let multiple : start ≡ start / size * size = let back = div-add-mod' start size in omega (arith, back, whole) in
    let begins : start ≡ first * part = multiple ∙ ap (λ s. start / size * s) size_is ∙ omega arith in
    let within : first < all = elim (cases_lt first all) [
      | inl early ↦ early
      | inr late ↦ absurd (let over : all * part ≤ first * part = mul-le all part first part late (omega arith) in omega (arith, over, begins, total_is, inside, nonempty))
    ] in
    let rest : ℕ = all - first in
    let here : first + rest ≡ all = omega (arith, within) in
    let split : all * part ≡ first * part + rest * part = ap (λ v. v * part) (sym here) ∙ omega arith in
    elim (cases_lt rest n) [
      | inl few ↦
          let less : rest * part ≤ n * part = mul-le rest part n part (omega (arith, few)) (omega arith) in
          record { first = first; count = rest; begins = begins; long = omega (arith, len_is, size_is, total_is, begins, split, less); inside = omega (arith, here) }
      | inr many ↦
          let less : n * part ≤ rest * part = mul-le n part rest part many (omega arith) in
          record { first = first; count = n; begins = begins; long = omega (arith, len_is, size_is, total_is, begins, split, less); inside = omega (arith, here, many) }
    ]

-- ---- rows that are put to the place of their layer

pub put_here : (z part start k : ℕ) (solved new : List ℕ) → start ≡ z * part → start + part ≤ length solved → length new ≡ part → (o : ℕ) → o < part
    → get_or (put_mid start k solved new) (z * part + o) 0 ≡ get_or new o 0
put_here z part start k solved new start_is room long o ho =
    subst (λ s. get_or (put_mid s k solved new) (z * part + o) 0 ≡ get_or new o 0) (sym start_is)
    (put_mid_within (z * part) k solved new o (omega (arith, start_is, room)) (subst (λ n. o < n) (sym long) ho))

pub put_elsewhere : (y z part start k : ℕ) (solved new : List ℕ) → y ≢ z → start ≡ z * part → k ≡ part → start + part ≤ length solved → length new ≡ part → (o : ℕ) → o < part
    → get_or (put_mid start k solved new) (y * part + o) 0 ≡ get_or solved (y * part + o) 0
put_elsewhere y z part start k solved new other start_is width room long o ho =
    let within : z * part ≤ length solved = omega (arith, start_is, room) in
    subst (λ s. get_or (put_mid s k solved new) (y * part + o) 0 ≡ get_or solved (y * part + o) 0) (sym start_is)
    (elim (cases_lt y z) [
      | inl early ↦ put_mid_before (z * part) k solved new (y * part + o) within (place_below y z part o early ho)
      | inr late ↦
          let after : z * part + part ≤ y * part = piece_fits z y part (omega (arith, late, other)) in
          put_mid_past (z * part) k solved new (y * part + o) (omega (arith, start_is, room)) (long ∙ sym width) (omega (arith, after, width))
    ])

-- ---- runs

-- of the layers of a run those of a lower score are solved, where the layers before the run are
pub run_next : (g : Shape) (have : List (Option (Vec ℕ Global))) (plan : DecodePlan) (at len from count i : ℕ) (solved : List ℕ) → IsByScore g plan.erased.items plan.layers.items → IsRun g plan from count → i < count
    → HoldsFirst g have plan at len from solved
    → HoldsLower g (λ word. Completes g have word) at len plan.erased.items plan.points.items (get_or plan.layers.items (from + i) 0) solved
run_next g have plan at len from count i solved order run hi before p hp less =
    let layers = plan.layers.items in
    let erased = plan.erased.items in
    let inside = run.inside in
    let found = lower_earlier g erased layers order (from + i) p (omega (arith, inside, hi)) hp less in
    let k : ℕ = found.0 in
    let is : get_or layers k 0 ≡ p = found.2 in
    let holds : k < from → HoldsLayerRows g (λ word. Completes g have word) at len plan.points.items p solved =
    λ early. subst (λ v. HoldsLayerRows g (λ word. Completes g have word) at len plan.points.items v solved) is (before k early) in
    elim (cases_lt k from) [
      | inl early ↦ holds early
      | inr late ↦
          let j : ℕ = k - from in
          let here : from + j ≡ k = omega (arith, late) in
          let low : j < count = let earlier = found.1 in omega (arith, here, earlier, hi) in
          let same : score_at g erased p ≡ score_at g erased (get_or layers from 0) =
          ap (score_at g erased) (sym is ∙ ap (λ v. get_or layers v 0) (sym here)) ∙ run.same j low in
          let its = run.same i hi in
          absurd (omega (arith, same, its, less))
    ]

-- the layers of a run, whose rows were put to their places, are solved beside those before
pub run_solved : (g : Shape) (have : List (Option (Vec ℕ Global))) (plan : DecodePlan) (at len from count : ℕ) (layers rows old new : List ℕ)
    → AreRowsOfLayers g (λ word. Completes g have word) at len plan.points.items layers count rows
    → ((i : ℕ) → i < count → get_or layers i 0 ≡ get_or plan.layers.items (from + i) 0)
    → ((k i : ℕ) → k < from → i < count → get_or layers i 0 ≢ get_or plan.layers.items k 0)
    → ((i o : ℕ) → i < count → o < length plan.points.items * len
    → get_or new (get_or layers i 0 * (length plan.points.items * len) + o) 0 ≡ get_or rows (i * (length plan.points.items * len) + o) 0)
    → ((z o : ℕ) → o < length plan.points.items * len → ((i : ℕ) → i < count → get_or layers i 0 ≢ z)
    → get_or new (z * (length plan.points.items * len) + o) 0 ≡ get_or old (z * (length plan.points.items * len) + o) 0)
    → HoldsFirst g have plan at len from old → HoldsFirst g have plan at len (from + count) new
run_solved g have plan at len from count layers rows old new holds are others placed kept before k hk = record {
  bytes = λ word fit e b he hb.
      let points = plan.points.items in
      let part : ℕ = length points * len in
      let byte : e * len + b < part = place_below e (length points) len b he hb in
      let layer : ℕ = get_or plan.layers.items k 0 in
      ap (λ p. get_or new p 0) (place_is layer (length points) e len b)
      ∙ elim (cases_lt k from) [
        | inl early ↦
            kept layer (e * len + b) byte (λ i hi. others k i early hi)
            ∙ ap (λ p. get_or old p 0) (sym (place_is layer (length points) e len b))
            ∙ (before k early).bytes word fit e b he hb
        | inr late ↦
            let i : ℕ = k - from in
            let here : from + i ≡ k = omega (arith, late) in
            let below : i < count = omega (arith, hk, here) in
            let is : get_or layers i 0 ≡ layer = are i below ∙ ap (λ v. get_or plan.layers.items v 0) here in
            ap (λ v. get_or new (v * part + (e * len + b)) 0) (sym is)
            ∙ placed i (e * len + b) below byte
            ∙ ap (λ p. get_or rows p 0) (sym (place_is i (length points) e len b))
            ∙ holds.bytes word fit i e b below he hb
            ∙ ap (uncoupled_byte g word (at + b) (get_or points e 0)) is
      ];
}

-- the place of a byte lies in the rows of so many layers
pub rows_place : (count points len i e b total : ℕ) → i < count → e < points → b < len → total ≡ count * (points * len) → (i * points + e) * len + b < total
rows_place count points len i e b total hi he hb total_is =
    let byte : e * len + b < points * len = place_below e points len b he hb in
    let below : i * (points * len) + (e * len + b) < count * (points * len) = place_below i count (points * len) (e * len + b) hi byte in
    let is = place_is i points e len b in
    omega (arith, below, is, total_is)
