-- The parity chunks, one behind another, make up the codeword with the stripe's chunks.
use Rattle.std.proofs.Common.{◌≡◌, ℕ, subst, ◌+◌, ◌-◌, ◌*◌, ◌^◌, ◌<◌, ◌≤◌, List, [], length, get_or, slice_range, sym, ap, ◌∙◌, inl, inr, arith}
use Rattle.std.proofs.lemmas.Bool.{cases_lt, cases_eq}
use Rattle.std.proofs.lemmas.List.{length-append, get_or_append_left, get_or-append_right}
use Rattle.std.proofs.lemmas.List.Edits.{get_or-between, length-between}
use Rattle.std.proofs.lemmas.List.FromFn.{get_or-map-range_with_len, length-map-range_with_len}
use Rattle.clay_grid.specs.Shape.{layer_count, chunk_length}
use Rattle.clay_grid.specs.Layers.{layer_of}
use Rattle.code_laws.proofs.Pieces.{put_mid_before, put_mid_within, piece_fits, place_below}
use borrow.Rule.Slice.PartMut.{put_mid}
use Rattle.clay_aloof.specs.Shape.{AloofShape, all_chunks, grid_of, stripe_bytes, node_of}
use Rattle.clay_aloof.specs.Code.{Codes}
use Rattle.clay_aloof.specs.Solved.{HoldsSubchunks}
use Rattle.clay_aloof.specs.Encoded.{IsParityPlan, IsSpread, HoldsParity, chunks_in, chunks_of}
use Rattle.clay_aloof.specs.declared.layer_solving.Plan.{Plan}
use Rattle.clay_aloof.proofs.Word.{IsMade, encoded}

pub no_parity : (a : AloofShape) (plan : Plan) (known parity : List ℕ) → HoldsParity a plan known 0 parity
no_parity a plan known parity = record { at = λ c fits e n b he hn hb. absurd (omega arith) }

pub parity_more : (a : AloofShape) (plan : Plan) (known : List ℕ) (e k : ℕ) (parity out : List ℕ) → e * chunk_length (grid_of a) ≤ length parity → length out ≡ chunk_length (grid_of a)
    → HoldsParity a plan known e parity → HoldsSubchunks (grid_of a) plan known (node_of a (a.data_count + e)) (layer_count (grid_of a)) out
    → HoldsParity a plan known (e + 1) (put_mid (e * chunk_length (grid_of a)) k parity out)
parity_more a plan known e k parity out start long before new = record {
  at = λ c fits i n b hi hn hb.
      let len : ℕ = chunk_length (grid_of a) in
      let place : n * a.width + b < len = place_below n (layer_count (grid_of a)) a.width b hn hb in
      elim (cases_eq i e) [
        | inl same ↦
            ap (λ v. get_or (put_mid (e * len) k parity out) (v * len + (n * a.width + b)) 0) same
            ∙ put_mid_within (e * len) k parity out (n * a.width + b) start (subst (λ v. n * a.width + b < v) (sym long) place)
            ∙ new.at c fits n b hn hb
            ∙ ap (λ v. c b (node_of a (a.data_count + v)) (layer_of (grid_of a) n)) (sym same)
        | inr other ↦
            let below : i < e = omega (arith, other) in
            put_mid_before (e * len) k parity out (i * len + (n * a.width + b)) start (place_below i e len (n * a.width + b) below place)
            ∙ before.at c fits i n b below hn hb
      ];
}

-- a chunk is cut out of those that stand one behind another
cut : (count len : ℕ) (bytes : List ℕ) (c : ℕ) → c < count → get_or (chunks_in count len bytes) c [] ≡ slice_range bytes (c * len) (c * len + len)
cut count len bytes c h = get_or-map-range_with_len (λ v. slice_range bytes (v * len) (v * len + len)) 0 count c c [] h (omega arith)

cut_len : (count len : ℕ) (bytes : List ℕ) (c : ℕ) → length bytes ≡ count * len → c < count → length (slice_range bytes (c * len) (c * len + len)) ≡ len
cut_len count len bytes c long h =
    let fits : c * len + len ≤ count * len = piece_fits c count len h in
    let width : c * len + len - c * len ≡ len = omega arith in
    length-between bytes (c * len) (c * len + len) (subst (λ n. c * len + len ≤ n) (sym long) fits) ∙ width

chunks_count : (count len : ℕ) (bytes : List ℕ) → length (chunks_in count len bytes) ≡ count
chunks_count count len bytes = length-map-range_with_len (λ v. slice_range bytes (v * len) (v * len + len)) 0 count

cut_holds : (a : AloofShape) (plan : Plan) (known parity : List ℕ) (e : ℕ) → HoldsParity a plan known a.parity_count parity → e < a.parity_count
    → HoldsSubchunks (grid_of a) plan known (node_of a (a.data_count + e)) (layer_count (grid_of a)) (slice_range parity (e * chunk_length (grid_of a)) (e * chunk_length (grid_of a) + chunk_length (grid_of a)))
cut_holds a plan known parity e holds h = record {
  at = λ c fits n b hn hb.
      let len : ℕ = chunk_length (grid_of a) in
      let place : n * a.width + b < len = place_below n (layer_count (grid_of a)) a.width b hn hb in
      get_or-between parity (e * len) (e * len + len) (n * a.width + b) 0 (omega (arith, place))
      ∙ holds.at c fits e n b h hn hb;
}

made : (a : AloofShape) (stripe : List ℕ) (plan : Plan) (known parity : List ℕ) → length stripe ≡ stripe_bytes a → length parity ≡ a.parity_count * chunk_length (grid_of a)
    → HoldsParity a plan known a.parity_count parity → (c : ℕ) → c < all_chunks a → IsMade a stripe plan known c (get_or (chunks_of a stripe parity) c [])
made a stripe plan known parity whole long holds c h =
    let len : ℕ = chunk_length (grid_of a) in
    let front : List (List ℕ) = chunks_in a.data_count (chunk_length (grid_of a)) stripe in
    let back : List (List ℕ) = chunks_in a.parity_count (chunk_length (grid_of a)) parity in
    let front_long : length front ≡ a.data_count = chunks_count a.data_count len stripe in
    elim (cases_lt c a.data_count) [
      | inl early ↦
          let is : get_or (chunks_of a stripe parity) c [] ≡ slice_range stripe (c * len) (c * len + len) =
          get_or_append_left front back [] c (subst (λ n. c < n) (sym front_long) early) ∙ cut a.data_count len stripe c early in
          let next : c * len + len ≡ (c + 1) * len = omega arith in
          record {
            len = ap length is ∙ cut_len a.data_count len stripe c whole early;
            of_stripe = λ _. is ∙ ap (slice_range stripe (c * len)) next;
            of_parity = λ late. absurd (omega (arith, early, late));
          }
      | inr late ↦
          let e : ℕ = c - a.data_count in
          let below : e < a.parity_count = omega (arith, h, late) in
          let chunk_is : a.data_count + e ≡ c = omega (arith, late) in
          let is : get_or (chunks_of a stripe parity) c [] ≡ slice_range parity (e * len) (e * len + len) =
          get_or-append_right front back a.data_count c [] front_long (omega (arith, late)) ∙ cut a.parity_count len parity e below in
          record {
            len = ap length is ∙ cut_len a.parity_count len parity e long below;
            of_stripe = λ early. absurd (omega (arith, early, late));
            of_parity = λ _. subst (HoldsSubchunks (grid_of a) plan known (node_of a c) (layer_count (grid_of a))) (sym is)
                (subst (λ v. HoldsSubchunks (grid_of a) plan known (node_of a v) (layer_count (grid_of a)) (slice_range parity (e * len) (e * len + len))) chunk_is
                (cut_holds a plan known parity e holds below));
          }
    ]

-- the stripe's chunks and the parity chunks are a codeword
pub parity_codes : (a : AloofShape) (stripe : List ℕ) (plan : Plan) (known parity : List ℕ) → IsParityPlan a plan → IsSpread a stripe known → length stripe ≡ stripe_bytes a
    → ((p : ℕ) → get_or stripe p 0 < 2 ^ 8) → length parity ≡ a.parity_count * chunk_length (grid_of a) → HoldsParity a plan known a.parity_count parity
    → Codes a stripe (chunks_of a stripe parity)
parity_codes a stripe plan known parity is spread whole bytes long holds =
    let len : ℕ = chunk_length (grid_of a) in
    encoded a stripe plan known (chunks_of a stripe parity) (record {
      parity = is;
      spread = spread;
      whole = whole;
      bytes = bytes;
      count = length-append (chunks_in a.data_count len stripe) (chunks_in a.parity_count len parity)
          ∙ (λ i. chunks_count a.data_count len stripe i + chunks_count a.parity_count len parity i);
      made = made a stripe plan known parity whole long holds;
    })
