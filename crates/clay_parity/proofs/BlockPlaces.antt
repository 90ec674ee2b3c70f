-- Blocks that are written and read one after another.
use Rattle.std.proofs.Common.{◌≡◌, ℕ, subst, ◌+◌, ◌-◌, ◌*◌, ◌%◌, ◌<◌, ◌≤◌, min, cond, eqb, bit_xor, List, ◌++◌, length, get_or, inl, inr, refl, sym, ap, ◌∙◌, arith}
use Rattle.std.proofs.lemmas.Bool.{cases_lt}
use Rattle.std.proofs.lemmas.Nat.{mul-le, div-mul-add, mod-mul-add}
use Rattle.std.proofs.lemmas.List.{get_or_append_left, get_or-append_right, length-append}
use borrow.Rule.Slice.PartMut.{put_mid}
use Rattle.code_laws.proofs.Pieces.{put_mid_before, put_mid_within, place_below}
use Rattle.clay_field.specs.Field.{product, quotient}
use Rattle.clay_parity.specs.Blocks.{block_start, place_of, HoldsLayer, HoldsGroup, coupled_byte, coupled_of, piece_bytes, Appends}

pub within_block : (at b : ℕ) → at % 4096 ≡ 0 → at ≤ b → b < at + 4096 → (block_start b ≡ at) × (b % 4096 ≡ b - at)
within_block at b even low high = (omega arith, omega arith)

pub earlier_block : (at b : ℕ) → at % 4096 ≡ 0 → b < at → block_start b + 4096 ≤ at
earlier_block at b even low = omega arith

-- where a byte of the block at `at` lies
pub place_in : (m w e at len b : ℕ) → at % 4096 ≡ 0 → len ≡ min 4096 (w - at) → at ≤ b → b < at + len → place_of m w e b ≡ m * at + (e * len + (b - at))
place_in m w e at len b even size low high =
    let here = within_block at b even low (omega arith) in
    λ i. m * here.0 i + (e * (ap (λ s. min 4096 (w - s)) here.0 ∙ sym size) i + here.1 i)

-- where one of an earlier block lies
pub place_before : (m w e at b : ℕ) → at % 4096 ≡ 0 → at ≤ w → b < at → e < m → place_of m w e b < m * at
place_before m w e at b even inside low he =
    let s : ℕ = block_start b in
    let l : ℕ = min 4096 (w - s) in
    let end : s + 4096 ≤ at = earlier_block at b even low in
    let byte : b % 4096 < l = omega arith in
    let row : e * l + b % 4096 < m * l = place_below e m l (b % 4096) he byte in
    let blocks : m * (s + l) ≤ m * at = mul-le m (s + l) m at (omega arith) (omega arith) in
    omega arith

pub place_in_layer : (m w e b : ℕ) → b < w → e < m → place_of m w e b < m * w
place_in_layer m w e b hb he =
    let s : ℕ = block_start b in
    let l : ℕ = min 4096 (w - s) in
    let byte : b % 4096 < l = omega arith in
    let row : e * l + b % 4096 < m * l = place_below e m l (b % 4096) he byte in
    let blocks : m * (s + l) ≤ m * w = mul-le m (s + l) m w (omega arith) (omega arith) in
    omega arith

-- one layer more of a group
pub HoldsGroup-more : (m w number d k : ℕ) (value : ℕ → ℕ → ℕ → ℕ) (group layer : List ℕ) → d * (m * w) ≤ length group → length layer ≡ m * w
    → HoldsLayer m w w (value (number * m + d)) layer → HoldsGroup m w number d value group → HoldsGroup m w number (d + 1) value (put_mid (d * (m * w)) k group layer)
HoldsGroup-more m w number d k value group layer fits long new holds = record {
  at = λ i e b hi he hb. elim (cases_lt i d) [
    | inl early ↦
        put_mid_before (d * (m * w)) k group layer (i * (m * w) + place_of m w e b) fits (place_below i d (m * w) (place_of m w e b) early (place_in_layer m w e b hb he))
        ∙ holds.at i e b early he hb
    | inr late ↦
        let same : i ≡ d = omega arith in
        ap (λ n. get_or (put_mid (d * (m * w)) k group layer) (n * (m * w) + place_of m w e b) 0) same
        ∙ put_mid_within (d * (m * w)) k group layer (place_of m w e b) fits (subst (λ n. place_of m w e b < n) (sym long) (place_in_layer m w e b hb he))
        ∙ new.at e b he hb
        ∙ ap (λ n. value (number * m + n) e b) (sym same)
  ];
}

-- what stands in a group coupled is what stands in the layers coupled
pub group_coupled : (m w number : ℕ) (value : ℕ → ℕ → ℕ → ℕ) (group : List ℕ) → HoldsGroup m w number m value group → (x d b : ℕ) → x < m → d < m → b < w
    → coupled_byte m w group x d b ≡ coupled_of m value x (number * m + d) b
group_coupled m w number value group h x d b hx hd hb =
    (λ i. cond (eqb x d) (h.at d x b hd hx hb i) (quotient (bit_xor (h.at d x b hd hx hb i) (product 2 (h.at x d b hx hd hb i))) 5))
    ∙ (λ i. cond (eqb x (sym (mod-mul-add number m d hd) i)) (value (number * m + d) x b)
    (quotient (bit_xor (value (number * m + d) x b) (product 2 (value (sym (div-mul-add number m d hd) i * m + x) (sym (mod-mul-add number m d hd) i) b))) 5))

-- one after the other
pub Appends-then : (count more : ℕ) (value next : ℕ → ℕ) (old mid new : List ℕ) → ((b : ℕ) → b < more → next b ≡ value (count + b))
    → Appends count value old mid → Appends more next mid new → Appends (count + more) value old new
Appends-then count more value next old mid new same a n =
    let mid_long = a.long in
    let new_long = n.long in
    record {
      long = omega arith;
      before = λ p h. n.before p (omega arith) ∙ a.before p h;
      at = λ b h. elim (cases_lt b count) [
        | inl early ↦ n.before (length old + b) (omega arith) ∙ a.at b early
        | inr late ↦
            let back : count + (b - count) ≡ b = omega arith in
            let place : length old + b ≡ length mid + (b - count) = omega arith in
            ap (λ p. get_or new p 0) place ∙ n.at (b - count) (omega arith) ∙ same (b - count) (omega arith) ∙ ap value back
      ];
    }

-- one piece more of a row
pub Appends-piece : (m w : ℕ) (group : List ℕ) (x d : ℕ) (old mid new : List ℕ) → Appends (d * w) (piece_bytes m w group x) old mid
    → Appends w (coupled_byte m w group x d) mid new → Appends ((d + 1) * w) (piece_bytes m w group x) old new
Appends-piece m w group x d old mid new a n =
    let next : d * w + w ≡ (d + 1) * w = omega arith in
    subst (λ c. Appends c (piece_bytes m w group x) old new) next
    (Appends-then (d * w) w (piece_bytes m w group x) (coupled_byte m w group x d) old mid new
    (λ b h i. coupled_byte m w group x (sym (div-mul-add d w b h) i) (sym (mod-mul-add d w b h) i)) a n)

-- one block more of a layer
pub HoldsLayer-more : (m w at len k : ℕ) (value : ℕ → ℕ → ℕ) (layer rows : List ℕ) → at % 4096 ≡ 0 → at ≤ w → len ≡ min 4096 (w - at)
    → m * at ≤ length layer → length rows ≡ m * len
    → ((e b : ℕ) → e < m → b < len → get_or rows (e * len + b) 0 ≡ value e (at + b))
    → HoldsLayer m w at value layer → HoldsLayer m w (at + len) value (put_mid (m * at) k layer rows)
HoldsLayer-more m w at len k value layer rows even inside size fits long new holds = record {
  at = λ e b he hb. elim (cases_lt b at) [
    | inl early ↦
        put_mid_before (m * at) k layer rows (place_of m w e b) fits (place_before m w e at b even inside early he) ∙ holds.at e b he early
    | inr late ↦
        let byte : b - at < len = omega arith in
        let back : at + (b - at) ≡ b = omega arith in
        ap (λ p. get_or (put_mid (m * at) k layer rows) p 0) (place_in m w e at len b even size late hb)
        ∙ put_mid_within (m * at) k layer rows (e * len + (b - at)) fits (subst (λ n. e * len + (b - at) < n) (sym long) (place_below e m len (b - at) he byte))
        ∙ new e (b - at) he byte
        ∙ ap (value e) back
  ];
}

-- bytes are appended to what was appended
pub Appends-more : (count len : ℕ) (value : ℕ → ℕ) (old mid more : List ℕ) → length more ≡ len → ((b : ℕ) → b < len → get_or more b 0 ≡ value (count + b))
    → Appends count value old mid → Appends (count + len) value old (mid ++ more)
Appends-more count len value old mid more long new a =
    let mid_long = a.long in
    record {
      long = length-append mid more ∙ omega arith;
      before = λ p h. get_or_append_left mid more 0 p (omega arith) ∙ a.before p h;
      at = λ b h. elim (cases_lt b count) [
        | inl early ↦ get_or_append_left mid more 0 (length old + b) (omega arith) ∙ a.at b early
        | inr late ↦
            let back : count + (b - count) ≡ b = omega arith in
            get_or-append_right mid more (length old + count) (length old + b) 0 mid_long (omega arith)
            ∙ ap (λ p. get_or more p 0) {x = length old + b - (length old + count)} {y = b - count} (omega arith)
            ∙ new (b - count) (omega arith)
            ∙ ap value back
      ];
    }

pub Appends-none : (value : ℕ → ℕ) (old : List ℕ) → Appends 0 value old old
Appends-none value old = record { long = omega arith; before = λ p h. refl; at = λ b h. absurd (omega arith) }
