-- A view around a gap shows what the bytes with the gap show, where no piece meets it; and pieces stay where their bytes stay.
use Rattle.std.proofs.Common.{◌≡◌, ℕ, suc, ◌+◌, ◌-◌, ◌<◌, ◌≤◌, ◌⊎◌, nat_lt, List, [], ◌∷◌, map, length, get_or, take, drop, slice_range, All, Option, Some, None, IfSome, refl, sym, subst, ap, ◌∙◌, inl, inr, arith}
use Rattle.std.specs.Option.{option_map}
use Rattle.std.proofs.lemmas.Bool.{cond-true, cond-false, lt-ltb, le-ltb}
use Rattle.std.proofs.lemmas.List.{ext_get_or, get_or-take, get_or-drop, length-take-le, length-drop}
use Rattle.std.proofs.lemmas.List.Edits.{get_or-between, length-between}
use Rattle.lane_repair.specs.Views.{piece_around, StandsAround, laid_pieces}

-- pieces of one length with the same bytes
pub same_piece : (k s t : ℕ) (xs ys : List ℕ) → s + k ≤ length xs → t + k ≤ length ys → ((b : ℕ) → b < k → get_or xs (s + b) 0 ≡ get_or ys (t + b) 0)
    → slice_range xs s (s + k) ≡ slice_range ys t (t + k)
same_piece k s t xs ys in_xs in_ys same =
    let left : s + k - s ≡ k = omega arith in
    let right : t + k - t ≡ k = omega arith in
    let long : length (slice_range xs s (s + k)) ≡ k = length-between xs s (s + k) in_xs ∙ left in
    ext_get_or 0 (slice_range xs s (s + k)) (slice_range ys t (t + k)) (long ∙ sym (length-between ys t (t + k) in_ys ∙ right)) (λ b h.
    let below : b < k = subst (λ n. b < n) long h in
    get_or-between xs s (s + k) b 0 (omega (arith, below)) ∙ same b below ∙ sym (get_or-between ys t (t + k) b 0 (omega (arith, below))))

-- lists of pieces that are made alike from each start
pub same_pieces : (P : ℕ → Type 0) (f g : ℕ → List ℕ) → ((s : ℕ) → P s → f s ≡ g s) → (starts : List (Option ℕ)) → All (λ o. IfSome o P) starts → map (option_map f) starts ≡ map (option_map g) starts
same_pieces P f g same [] each = refl
same_pieces P f g same (None ∷ starts) each = ap (λ l. None ∷ l) (same_pieces P f g same starts (λ c d h. each (suc c) d (omega (arith, h))))
same_pieces P f g same (Some s ∷ starts) each =
    (λ i. Some (same s (each 0 (Some s) (omega arith)) i) ∷ same_pieces P f g same starts (λ c d h. each (suc c) d (omega (arith, h))) i)

-- a piece that ends before the gap of len bytes at a, or starts behind it
abbrev pub IsClear : List ℕ → ℕ → ℕ → ℕ → Type 0
IsClear old len a start = (start + len ≤ a) ⊎ ((a + len ≤ start) × (start + len ≤ length old))

module _ (old : List ℕ) (len a : ℕ) (some : 0 < len) (room : a + len ≤ length old) where
  abbrev before : List ℕ
  before = take a old

  abbrev after : List ℕ
  after = drop len (drop a old)

  long_before : length before ≡ a
  long_before = length-take-le a old (omega (arith, room))

  long_after : length before + len + length after ≡ length old
  long_after =
      let first = length-drop a old in
      let second = length-drop len (drop a old) in
      omega (arith, long_before, first, second, room)

  stands : (start : ℕ) → IsClear old len a start → StandsAround before after len start
  stands start clear = elim clear [
    | inl early ↦ inl (omega (arith, early, long_before))
    | inr late ↦ inr (omega (arith, late.0, long_before), omega (arith, late.1, long_after))
  ]

  early_piece : (start : ℕ) → start + len ≤ a → piece_around before after len start ≡ slice_range old start (start + len)
  early_piece start ends =
      cond-true (nat_lt start (length before)) (slice_range before start (start + len))
      (slice_range after (start - (length before + len)) (start - (length before + len) + len)) (lt-ltb start (length before) (omega (arith, ends, some, long_before)))
      ∙ same_piece len start start before old (omega (arith, ends, long_before)) (omega (arith, ends, room)) (λ b h. get_or-take a old (start + b) 0 (omega (arith, ends, h)))

  late_piece : (start : ℕ) → a + len ≤ start → start + len ≤ length old → piece_around before after len start ≡ slice_range old start (start + len)
  late_piece start begins ends =
      let from : ℕ = start - (length before + len) in
      let place : (b : ℕ) → a + (len + (from + b)) ≡ start + b = λ b. omega (arith, begins, long_before) in
      cond-false (nat_lt start (length before)) (slice_range before start (start + len)) (slice_range after from (from + len)) (le-ltb start (length before) (omega (arith, begins, long_before)))
      ∙ same_piece len from start after old (omega (arith, begins, ends, long_before, long_after)) ends (λ b h.
      get_or-drop len (drop a old) (from + b) 0 ∙ get_or-drop a old (len + (from + b)) 0 ∙ ap (λ p. get_or old p 0) (place b))

  clear_piece : (start : ℕ) → IsClear old len a start → piece_around before after len start ≡ slice_range old start (start + len)
  clear_piece start clear = elim clear [
    | inl early ↦ early_piece start early
    | inr late ↦ late_piece start late.0 late.1
  ]

  -- the view around the gap shows the pieces of all bytes
  pub around_shows : (starts : List (Option ℕ)) → All (λ o. IfSome o (IsClear old len a)) starts → map (option_map (piece_around before after len)) starts ≡ laid_pieces old starts len
  around_shows starts clear = same_pieces (IsClear old len a) (piece_around before after len) (λ start. slice_range old start (start + len)) clear_piece starts clear

  stand : (o : Option ℕ) → IfSome o (IsClear old len a) → IfSome o (StandsAround before after len)
  stand None clear = clear
  stand (Some start) clear = stands start clear

  -- and its pieces stand around the gap
  pub around_room : (starts : List (Option ℕ)) → All (λ o. IfSome o (IsClear old len a)) starts → All (λ o. IfSome o (StandsAround before after len)) starts
  around_room starts clear = λ c d h. stand (get_or starts c d) (clear c d h)
