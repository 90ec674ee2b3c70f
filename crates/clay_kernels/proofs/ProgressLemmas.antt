-- Blocks and bytes that are replaced by their values, one after another.
use Rattle.std.proofs.Common.{◌≡◌, ℕ, ◌+◌, ◌-◌, ◌<◌, ◌≤◌, inl, inr, List, length, get_or, set, sym, ap, ◌∙◌, arith, bit_xor}
use Rattle.std.specs.Simd.Lanes.{zip2, chunk, put_chunk}
use Rattle.std.proofs.lemmas.Bool.{cases_lt, cases_eq}
use Rattle.std.proofs.lemmas.List.{length-set, get_or-set_same, get_or-set_other}
use Rattle.std.proofs.lemmas.Simd.{length-chunk, get_or-chunk, length-put_chunk, get_or-put_chunk_below, get_or-put_chunk_at, get_or-put_chunk_above}
use Rattle.clay_field.specs.Field.{product}
use Rattle.clay_kernels.specs.Lanes.{HasLanes}
use Rattle.clay_kernels.specs.Progress.{IsDone, IsAdded}
use Rattle.clay_kernels.proofs.LaneLemmas.{HasLanes-zip2}

pub record BothDone (start stop n : ℕ) (b0 d0 b1 d1 : List ℕ) (f0 f1 : ℕ → ℕ) : Type 0 where
  pub a0 : IsDone start stop n b0 d0 f0
  pub a1 : IsDone start stop n b1 d1 f1

pub record ThreeDone (start stop n : ℕ) (b0 d0 b1 d1 b2 d2 : List ℕ) (f0 f1 f2 : ℕ → ℕ) : Type 0 where
  pub a0 : IsDone start stop n b0 d0 f0
  pub a1 : IsDone start stop n b1 d1 f1
  pub a2 : IsDone start stop n b2 d2 f2

pub record FourDone (start stop n : ℕ) (b0 d0 b1 d1 b2 d2 b3 d3 : List ℕ) (f0 f1 f2 f3 : ℕ → ℕ) : Type 0 where
  pub a0 : IsDone start stop n b0 d0 f0
  pub a1 : IsDone start stop n b1 d1 f1
  pub a2 : IsDone start stop n b2 d2 f2
  pub a3 : IsDone start stop n b3 d3 f3

pub HasLanes-op : (n : ℕ) (h : ℕ → ℕ → ℕ) {a b : List ℕ} {f g : ℕ → ℕ} → HasLanes n a f → HasLanes n b g → HasLanes n (zip2 h a b) (λ k. h (f k) (g k))
HasLanes-op n h {a} {b} p q =
    let z = HasLanes-zip2 n h a b p.long q.long in
    record { long = z.long; each = λ k l. z.each k l ∙ (λ i. h (p.each k l i) (q.each k l i)) }

pub HasLanes-product : (n c : ℕ) {r s : List ℕ} {f : ℕ → ℕ} → HasLanes n r (λ k. product c (get_or s k 0)) → HasLanes n s f → HasLanes n r (λ k. product c (f k))
HasLanes-product n c p q = record { long = p.long; each = λ k l. p.each k l ∙ ap (product c) (q.each k l) }

pub HasLanes-chunk : (n at : ℕ) (u : List ℕ) → at + n ≤ length u → HasLanes n (chunk at n u) (λ k. get_or u (at + k) 0)
HasLanes-chunk n at u room = record { long = length-chunk at n u (omega arith); each = λ k l. get_or-chunk at n u k 0 (omega arith) }

-- what is not yet done is as before
pub HasLanes-left : (n start at m : ℕ) (before now : List ℕ) (value : ℕ → ℕ) → at + n ≤ m → IsDone start at m before now value
    → HasLanes n (chunk at n now) (λ k. get_or before (at + k) 0)
HasLanes-left n start at m before now value room h =
    let long = h.long in
    record { long = length-chunk at n now (omega arith); each = λ k l. get_or-chunk at n now k 0 (omega arith) ∙ h.left (at + k) (omega arith) }

-- one block more
pub IsDone-block : (n start at m : ℕ) (before now : List ℕ) (value : ℕ → ℕ) (block : List ℕ) → at + n ≤ m → IsDone start at m before now value
    → HasLanes n block (λ k. value (at + k)) → IsDone start (at + n) m before (put_chunk at now block) value
IsDone-block n start at m before now value block room h b =
    let long = h.long in
    let wide = b.long in
    let order = h.order in
    record {
      order = omega arith;
      within = room;
      long = length-put_chunk at now block ∙ long;
      early = λ k l. get_or-put_chunk_below at now block k 0 (omega arith) ∙ h.early k l;
      done = λ k s l. elim (cases_lt k at) [
        | inl low ↦ get_or-put_chunk_below at now block k 0 low ∙ h.done k s low
        | inr high ↦
            let back : at + (k - at) ≡ k = omega arith in
            ap (λ x. get_or (put_chunk at now block) x 0) (sym back)
            ∙ get_or-put_chunk_at at now block (k - at) 0 (omega arith) (omega arith)
            ∙ b.each (k - at) (omega arith)
            ∙ ap value back
      ];
      left = λ k le. get_or-put_chunk_above at now block k 0 (omega arith) ∙ h.left k (omega arith);
    }

-- one byte more
pub IsDone-one : (start at m : ℕ) (before now : List ℕ) (value : ℕ → ℕ) (x : ℕ) → at < m → IsDone start at m before now value → x ≡ value at
    → IsDone start (at + 1) m before (set now at x) value
IsDone-one start at m before now value x room h e =
    let long = h.long in
    let order = h.order in
    record {
      order = omega arith;
      within = omega arith;
      long = length-set now at x ∙ long;
      early = λ k l. get_or-set_other now at k x 0 (omega arith) ∙ h.early k l;
      done = λ k s l. elim (cases_eq k at) [
        | inl same ↦
            ap (λ i. get_or (set now at x) i 0) same
            ∙ get_or-set_same now at x 0 (omega arith)
            ∙ e
            ∙ ap value (sym same)
        | inr other ↦ get_or-set_other now at k x 0 other ∙ h.done k s (omega (arith, other))
      ];
      left = λ k le. get_or-set_other now at k x 0 (omega arith) ∙ h.left k (omega arith);
    }

-- products are added to one block more
pub IsAdded-block : (n start at : ℕ) (before now : List ℕ) (c : ℕ) (src scaled : List ℕ) → at + n ≤ length src → IsAdded start at before now c src
    → HasLanes n scaled (λ k. product c (get_or (chunk at n src) k 0))
    → IsAdded start (at + n) before (put_chunk at now (zip2 bit_xor (chunk at n now) scaled)) c src
IsAdded-block n start at before now c src scaled room h s =
    IsDone-block n start at (length src) before now _ _ room h
    (HasLanes-op n bit_xor (HasLanes-left n start at (length src) before now _ room h) (HasLanes-product n c s (HasLanes-chunk n at src room)))

-- and to one byte more
pub IsAdded-one : (start at : ℕ) (before now : List ℕ) (c : ℕ) (src : List ℕ) (x : ℕ) → IsAdded start at before now c src → at < length src
    → x ≡ product c (get_or src at 0) → IsAdded start (at + 1) before (set now at (bit_xor (get_or now at 0) x)) c src
IsAdded-one start at before now c src x h room e =
    IsDone-one start at (length src) before now _ _ room h (λ i. bit_xor (h.left at (omega arith) i) (e i))
