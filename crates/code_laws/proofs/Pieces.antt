-- Parts of a flat buffer: pieces of w bytes, of which the next is written.
use Rattle.std.proofs.Common.{◌≡◌, ℕ, subst, ◌+◌, ◌-◌, ◌*◌, ◌^◌, ◌<◌, ◌≤◌, List, length, get_or, take, drop, inl, inr, sym, ap, ◌∙◌, ◌++◌, arith, lit<, rules}
use Rattle.std.proofs.lemmas.Bool.{cases_eq, cases_lt}
use Rattle.std.proofs.lemmas.Nat.{mul-le}
use Rattle.std.proofs.lemmas.List.{get_or_append_left, get_or-append_right, get_or-take, length-take-le, get_or_past, drop_all, append-nil, take_all, places}
use Rattle.code_laws.specs.Columns.{HoldsPieces}
use borrow.Rule.Slice.PartMut.{put_mid, post_of}

-- what stands before a part that is written
pub put_mid_before : (a k : ℕ) (xs ys : List ℕ) (p : ℕ) → a ≤ length xs → p < a → get_or (put_mid a k xs ys) p 0 ≡ get_or xs p 0
put_mid_before a k xs ys p fits h =
    let long : length (take a xs) ≡ a = length-take-le a xs fits in
    get_or_append_left (take a xs) (ys ++ post_of a k xs) 0 p (omega arith) ∙ get_or-take a xs p 0 h

-- what stands past it
pub put_mid_past : (a k : ℕ) (xs ys : List ℕ) (p : ℕ) → a + k ≤ length xs → length ys ≡ k → a + k ≤ p → get_or (put_mid a k xs ys) p 0 ≡ get_or xs p 0
put_mid_past a k xs ys p fits long h = search (rules, places)

-- what stands in it
pub put_mid_within : (a k : ℕ) (xs ys : List ℕ) (b : ℕ) → a ≤ length xs → b < length ys → get_or (put_mid a k xs ys) (a + b) 0 ≡ get_or ys b 0
put_mid_within a k xs ys b fits h =
    let long : length (take a xs) ≡ a = length-take-le a xs fits in
    let back : a + b - a ≡ b = omega arith in
    get_or-append_right (take a xs) (ys ++ post_of a k xs) a (a + b) 0 long (omega arith)
    ∙ (λ i. get_or (ys ++ post_of a k xs) (back i) 0)
    ∙ get_or_append_left ys (post_of a k xs) 0 b h

-- a piece ends where the next begins
pub piece_fits : (i count w : ℕ) → i < count → i * w + w ≤ count * w
piece_fits i count w h =
    let all : (i + 1) * w ≤ count * w = mul-le (i + 1) w count w (omega arith) (omega arith) in
    omega arith

pub place_below : (i count w b : ℕ) → i < count → b < w → i * w + b < count * w
place_below i count w b hi hb = let all = piece_fits i count w hi in omega arith

pub no_pieces : (w : ℕ) (value : ℕ → ℕ → ℕ) (xs : List ℕ) → HoldsPieces w 0 value xs
no_pieces w value xs = record { at = λ i b hi hb. absurd (omega arith) }

-- with the piece that is written
pub one_more_piece : (w count k : ℕ) (value : ℕ → ℕ → ℕ) (xs ys : List ℕ) → count * w ≤ length xs → length ys ≡ w
    → HoldsPieces w count value xs → ((b : ℕ) → b < w → get_or ys b 0 ≡ value count b) → HoldsPieces w (count + 1) value (put_mid (count * w) k xs ys)
one_more_piece w count k value xs ys fits long holds new = record {
  at = λ i b hi hb. elim (cases_eq i count) [
    | inl same ↦
        ap (λ n. get_or (put_mid (count * w) k xs ys) (n * w + b) 0) same
        ∙ put_mid_within (count * w) k xs ys b fits (subst (λ n. b < n) (sym long) hb)
        ∙ new b hb
        ∙ ap (λ n. value n b) (sym same)
    | inr other ↦
        let below : i < count = omega (arith, other) in
        put_mid_before (count * w) k xs ys (i * w + b) fits (place_below i count w b below hb)
        ∙ holds.at i b below hb
  ];
}

-- bytes of a list, also past its end
pub bytes_everywhere : (xs : List ℕ) → ((i : ℕ) → i < length xs → get_or xs i 0 < 2 ^ 8) → (i : ℕ) → get_or xs i 0 < 2 ^ 8
bytes_everywhere xs each i =
    elim (cases_lt i (length xs)) [
      | inl here ↦ each i here
      | inr past ↦ subst (λ v. v < 2 ^ 8) (sym (get_or_past xs i 0 past)) (lit< tt)
    ]

-- a list that is written whole
pub written_whole : (len : ℕ) (xs ys : List ℕ) → len ≡ length xs → length ys ≡ length xs → take len (ys ++ drop (length ys) xs) ≡ ys
written_whole len xs ys whole long =
    ap (λ l. take len (ys ++ l)) (drop_all (length ys) xs (omega arith))
    ∙ ap (take len) (append-nil ys)
    ∙ take_all len ys (omega arith)
