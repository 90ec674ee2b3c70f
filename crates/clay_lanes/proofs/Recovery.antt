-- The pieces of chunks that are there and of erased nodes in a block of bytes, and the layers that are solved.
use Rattle.std.proofs.Common.{◌≡◌, ◌≢◌, ℕ, subst, ◌+◌, ◌*◌, ◌<◌, ◌≤◌, Bool, List, length, get_or, take, drop, Option, Some, None, sym, ap, ◌∙◌, inl, inr, arith}
use Rattle.std.proofs.lemmas.Bool.{cases_eq, cases_lt}
use Rattle.std.proofs.lemmas.List.{get_or-take, get_or-drop}
use Rattle.clay_grid.specs.Shape.{Shape, row_count, layer_count}
use Rattle.clay_grid.specs.Score.{IsByScore}
use Rattle.code_laws.proofs.Pieces.{put_mid_before, put_mid_within, put_mid_past, place_below, piece_fits}
use borrow.Rule.Slice.PartMut.{put_mid}
use Rattle.code_laws.specs.Solved.{uncoupled_byte}
use Rattle.code_laws.proofs.Layer.{lower_earlier}
use Rattle.code_laws.proofs.Nodes.{IsNodeOf, chunk_byte}
use Rattle.lane_repair.specs.Pieces.{IsCoupled, IsUncoupled, HoldsRows}
use Rattle.clay_lanes.specs.Present.{FitsChunks}
use Rattle.clay_lanes.specs.Recovered.{HoldsLayerRows, HoldsLower, AreRowsOfLayers}

-- ---- pieces

pub held_piece : (g : Shape) (pieces : List (Option (List ℕ))) (c i n at len start k : ℕ) (bytes : List ℕ) → 0 < row_count g → n < layer_count g → IsNodeOf g c i → get_or pieces c None ≡ Some bytes
    → start ≡ n * g.width + at → k ≡ len → IsCoupled g (λ word. FitsChunks g pieces word) at len i n (take k (drop start bytes))
held_piece g pieces c i n at len start k bytes rows below node there start_is width = record {
  bytes = λ word fits b hb.
      let place : n * g.width + at + b ≡ n * g.width + (at + b) = omega arith in
      get_or-take k (drop start bytes) b 0 (subst (λ w. b < w) (sym width) hb)
      ∙ get_or-drop start bytes b 0
      ∙ ap (λ p. get_or bytes (p + b) 0) start_is
      ∙ ap (λ p. get_or bytes p 0) place
      ∙ ap (λ l. get_or l (n * g.width + (at + b)) 0) (sym (fits.agrees c bytes there))
      ∙ sym (chunk_byte g word c i n (at + b) rows below node);
}

-- the piece of an erased node
pub solved_part : (g : Shape) (fits : List (List ℕ) → Type 0) (at len : ℕ) (points solved : List ℕ) (i n e start k : ℕ) → HoldsLayerRows g fits at len points n solved → e < length points → get_or points e 0 ≡ i
    → start ≡ (n * length points + e) * len → k ≡ len → IsUncoupled g fits at len i n (take k (drop start solved))
solved_part g fits at len points solved i n e start k holds within point start_is width = record {
  bytes = λ word fit b hb.
      get_or-take k (drop start solved) b 0 (subst (λ w. b < w) (sym width) hb)
      ∙ get_or-drop start solved b 0
      ∙ ap (λ p. get_or solved (p + b) 0) start_is
      ∙ holds.bytes word fit e b within hb
      ∙ ap (λ v. uncoupled_byte g word (at + b) v n) point;
}

-- ---- layers

-- the layers below score of the next one are solved
pub lower_solved : (g : Shape) (fits : List (List ℕ) → Type 0) (at len : ℕ) (erased : List Bool) (points layers solved : List ℕ) → IsByScore g erased layers → (i : ℕ) → i < length layers
    → ((k : ℕ) → k < i → HoldsLayerRows g fits at len points (get_or layers k 0) solved) → HoldsLower g fits at len erased points (get_or layers i 0) solved
lower_solved g fits at len erased points layers solved order i hi done p hp less =
    let found = lower_earlier g erased layers order i p hi hp less in
    subst (λ v. HoldsLayerRows g fits at len points v solved) found.2 (done found.0 found.1)

-- all layers are solved
pub every_layer : (g : Shape) (fits : List (List ℕ) → Type 0) (at len : ℕ) (erased : List Bool) (points layers solved : List ℕ) → IsByScore g erased layers
    → ((k : ℕ) → k < length layers → HoldsLayerRows g fits at len points (get_or layers k 0) solved) → (n : ℕ) → n < layer_count g → HoldsLayerRows g fits at len points n solved
every_layer g fits at len erased points layers solved order done n h =
    let found = order.each_layer n h in
    subst (λ v. HoldsLayerRows g fits at len points v solved) found.2 (done found.0 found.1)

-- the place of byte b of row e in layer n
place_is : (n c e w b : ℕ) → (n * c + e) * w + b ≡ n * (c * w) + (e * w + b)
place_is n c e w b = omega arith

pub layer_written : (g : Shape) (fits : List (List ℕ) → Type 0) (at len : ℕ) (points : List ℕ) (n start k : ℕ) (solved rows : List ℕ) → n < layer_count g → start ≡ n * (length points * len)
    → length solved ≡ layer_count g * (length points * len) → length rows ≡ length points * len
    → HoldsRows g fits at len points n rows → HoldsLayerRows g fits at len points n (put_mid start k solved rows)
layer_written g fits at len points n start k solved rows below start_is long rows_long new =
    let part : ℕ = length points * len in
    let room : n * part + part ≤ layer_count g * part = piece_fits n (layer_count g) part below in
    let within : n * part ≤ length solved = omega arith in
    subst (λ a. HoldsLayerRows g fits at len points n (put_mid a k solved rows)) (sym start_is) (record {
      bytes = λ word fit e b he hb.
          ap (λ p. get_or (put_mid (n * part) k solved rows) p 0) (place_is n (length points) e len b)
          ∙ put_mid_within (n * part) k solved rows (e * len + b) within (subst (λ l. e * len + b < l) (sym rows_long) (place_below e (length points) len b he hb))
          ∙ new.bytes word fit e b he hb;
    })

pub layer_kept : (g : Shape) (fits : List (List ℕ) → Type 0) (at len : ℕ) (points : List ℕ) (n start k p : ℕ) (solved rows : List ℕ) → n < layer_count g → p ≢ n → start ≡ n * (length points * len) → k ≡ length points * len
    → length solved ≡ layer_count g * (length points * len) → length rows ≡ length points * len
    → HoldsLayerRows g fits at len points p solved → HoldsLayerRows g fits at len points p (put_mid start k solved rows)
layer_kept g fits at len points n start k p solved rows below other start_is width long rows_long holds =
    let part : ℕ = length points * len in
    let room : n * part + part ≤ layer_count g * part = piece_fits n (layer_count g) part below in
    let within : n * part ≤ length solved = omega arith in
    subst (λ a. HoldsLayerRows g fits at len points p (put_mid a k solved rows)) (sym start_is) (record {
      bytes = λ word fit e b he hb.
          let byte : e * len + b < part = place_below e (length points) len b he hb in
          let place : ℕ = p * part + (e * len + b) in
          let is : (p * length points + e) * len + b ≡ place = place_is p (length points) e len b in
          let kept : get_or (put_mid (n * part) k solved rows) place 0 ≡ get_or solved place 0 =
          elim (cases_lt p n) [
            | inl early ↦ put_mid_before (n * part) k solved rows place within (place_below p n part (e * len + b) early byte)
            | inr late ↦
                let after : n * part + part ≤ p * part = piece_fits n p part (omega (arith, late, other)) in
                put_mid_past (n * part) k solved rows place (omega arith) (rows_long ∙ sym width) (omega arith)
          ] in
          ap (λ v. get_or (put_mid (n * part) k solved rows) v 0) is ∙ kept ∙ ap (λ v. get_or solved v 0) (sym is) ∙ holds.bytes word fit e b he hb;
    })

-- the rows of one more of some layers
pub rows_written : (g : Shape) (fits : List (List ℕ) → Type 0) (at len : ℕ) (points layers : List ℕ) (all i start k : ℕ) (rows new : List ℕ) → i < all → start ≡ i * (length points * len)
    → length rows ≡ all * (length points * len) → length new ≡ length points * len
    → HoldsRows g fits at len points (get_or layers i 0) new → AreRowsOfLayers g fits at len points layers i rows
    → AreRowsOfLayers g fits at len points layers (i + 1) (put_mid start k rows new)
rows_written g fits at len points layers all i start k rows new below start_is long new_long holds before =
    let part : ℕ = length points * len in
    let room : i * part + part ≤ all * part = piece_fits i all part below in
    let within : i * part ≤ length rows = omega arith in
    subst (λ a. AreRowsOfLayers g fits at len points layers (i + 1) (put_mid a k rows new)) (sym start_is) (record {
      bytes = λ word fit j e b hj he hb.
          let byte : e * len + b < part = place_below e (length points) len b he hb in
          let is : (j * length points + e) * len + b ≡ j * part + (e * len + b) = place_is j (length points) e len b in
          elim (cases_eq j i) [
            | inl same ↦
                ap (λ p. get_or (put_mid (i * part) k rows new) p 0) (is ∙ ap (λ n. n * part + (e * len + b)) same)
                ∙ put_mid_within (i * part) k rows new (e * len + b) within (subst (λ l. e * len + b < l) (sym new_long) byte)
                ∙ holds.bytes word fit e b he hb
                ∙ ap (λ n. uncoupled_byte g word (at + b) (get_or points e 0) (get_or layers n 0)) (sym same)
            | inr other ↦
                let early : j < i = omega (arith, hj, other) in
                ap (λ p. get_or (put_mid (i * part) k rows new) p 0) is
                ∙ put_mid_before (i * part) k rows new (j * part + (e * len + b)) within (place_below j i part (e * len + b) early byte)
                ∙ ap (λ p. get_or rows p 0) (sym is)
                ∙ before.bytes word fit j e b early he hb
          ];
    })
