-- The file that bytes in a row make.
use Rattle.std.proofs.Common.{◌≡◌, ◌≤◌, ◌<◌, ◌+◌, ◌-◌, ◌⊎◌, inl, inr, ℕ, List, [], ◌∷◌, ◌++◌, length, take, drop, replicate, refl, sym, ◌∙◌, ap, arith, append-nil, length-append, length-take, length-drop}
use Rattle.std.proofs.Math.Seq.{drop-append-add}
use Rattle.std.proofs.lemmas.List.{append_assoc, take_at, take_all, drop_at, drop_all, drop-append-le, length-replicate, drop-drop}
use Rattle.file_bytes.specs.Places.{Placed, placed_from}
use Rattle.file_bytes.specs.Laid.{front, laid_at, laid_over, laid}

front_long : (at : ℕ) (file : List ℕ) → length (front at file) ≡ at
front_long at file =
    omega (arith, length-append (take at file) (replicate {A = ℕ} (at - length file) 0), length-take at file, length-replicate {A = ℕ} (at - length file) 0)

-- bytes laid behind bytes
module _ (at : ℕ) (xs ys file : List ℕ) where
  rest : List ℕ
  rest = drop (at + length xs) file

  first : List ℕ
  first = front at file ++ xs

  first_long : length first ≡ at + length xs
  unfolding first
  first_long = omega (arith, length-append (front at file) xs, front_long at file)

  whole : laid_at at xs file ≡ first ++ rest
  unfolding first rest
  whole = sym (append_assoc (front at file) xs (drop (at + length xs) file))

  none_missing : at + length xs - length (first ++ rest) ≡ 0
  none_missing = omega (arith, first_long, length-append first rest)

  front_is : front (at + length xs) (first ++ rest) ≡ first
  front_is =
      ap (λ n. take (at + length xs) (first ++ rest) ++ replicate {A = ℕ} n 0) none_missing
      ∙ append-nil (take (at + length xs) (first ++ rest))
      ∙ take_at first rest (at + length xs) first_long

  behind : drop (at + length xs + length ys) (first ++ rest) ≡ drop (at + length (xs ++ ys)) file
  unfolding rest
  behind =
      ap (λ n. drop (n + length ys) (first ++ rest)) (sym first_long)
      ∙ drop-append-add first rest (length ys)
      ∙ drop-drop (length ys) (at + length xs) file
      ∙ ap (λ n. drop n file) (let e : at + length xs + length ys ≡ at + length (xs ++ ys) = omega (arith, length-append xs ys) in e)

  pub laid_more : laid_at (at + length xs) ys (laid_at at xs file) ≡ laid_at at (xs ++ ys) file
  unfolding first
  laid_more =
      ap (λ l. laid_at (at + length xs) ys l) whole
      ∙ ap (λ l. l ++ (ys ++ drop (at + length xs + length ys) (first ++ rest))) front_is
      ∙ ap (λ l. first ++ (ys ++ l)) behind
      ∙ append_assoc (front at file) xs (ys ++ drop (at + length (xs ++ ys)) file)
      ∙ ap (λ l. front at file ++ l) (sym (append_assoc xs ys (drop (at + length (xs ++ ys)) file)))

-- bytes put behind bytes
pub over_more : (file : List ℕ) (ps qs : List Placed) → laid_over file (ps ++ qs) ≡ laid_over (laid_over file ps) qs
over_more file [] qs = refl
over_more file (p ∷ ps) qs = over_more (laid_at p.at (p.byte ∷ []) file) ps qs

-- bytes in a row, one by one or together
pub over_row : (at : ℕ) (file : List ℕ) (byte : ℕ) (bytes : List ℕ) → laid_over file (placed_from at (byte ∷ bytes)) ≡ laid_at at (byte ∷ bytes) file
over_row at file byte [] = refl
over_row at file byte (next ∷ bytes) =
    over_row (at + 1) (laid_at at (byte ∷ []) file) next bytes ∙ laid_more at (byte ∷ []) (next ∷ bytes) file

pub over_some : (at : ℕ) (file bytes : List ℕ) → 0 < length bytes → laid_over file (placed_from at bytes) ≡ laid_at at bytes file
over_some at file [] some = absurd (omega (arith, some))
over_some at file (byte ∷ bytes) some = over_row at file byte bytes

pub laid_row : (old new : List Placed) (at : ℕ) (bytes : List ℕ) → 0 < length bytes → new ≡ old ++ placed_from at bytes → laid new ≡ laid_at at bytes (laid old)
laid_row old new at bytes some e = ap (λ l. laid l) e ∙ over_more [] old (placed_from at bytes) ∙ over_some at (laid old) bytes some

-- bytes laid at a file's end, and what stands there behind a start
grown_front : (start : ℕ) (file : List ℕ) → (start ≤ length file) ⊎ (length file ≤ start) → drop start (front (start + length (drop start file)) file) ≡ drop start file
grown_front start file (inl within) =
    let end : start + length (drop start file) ≡ length file = omega (arith, length-drop start file) in
    let none : start + length (drop start file) - length file ≡ 0 = omega (arith, end) in
    let all : length file ≤ start + length (drop start file) = omega (arith, end) in
    ap (λ l. drop start (l ++ replicate {A = ℕ} (start + length (drop start file) - length file) 0)) (take_all (start + length (drop start file)) file all)
    ∙ ap (λ n. drop start (file ++ replicate {A = ℕ} n 0)) none
    ∙ ap (λ l. drop start l) (append-nil file)
grown_front start file (inr past) =
    let end : start + length (drop start file) ≡ start = omega (arith, length-drop start file) in
    drop_all start (front (start + length (drop start file)) file) (omega (arith, end, front_long (start + length (drop start file)) file))
    ∙ sym (drop_all start file past)

laid_end : (start : ℕ) (piece file : List ℕ) → drop start (laid_at (start + length (drop start file)) piece file) ≡ drop start file ++ piece
laid_end start piece file =
    let at : ℕ = start + length (drop start file) in
    let ways : (start ≤ length file) ⊎ (length file ≤ start) = grind arith in
    let within : start ≤ length (front at file) = omega (arith, front_long at file) in
    let past : length file ≤ at + length piece = omega (arith, length-drop start file) in
    drop-append-le start (front at file) (piece ++ drop (at + length piece) file) within
    ∙ ap (λ l. l ++ (piece ++ drop (at + length piece) file)) (grown_front start file ways)
    ∙ ap (λ l. drop start file ++ (piece ++ l)) (drop_all (at + length piece) file past)
    ∙ ap (λ l. drop start file ++ l) (append-nil piece)

pub laid_behind : (start : ℕ) (bytes piece file : List ℕ) → drop start file ≡ bytes → drop start (laid_at (start + length bytes) piece file) ≡ bytes ++ piece
laid_behind start bytes piece file e =
    ap (λ l. drop start (laid_at (start + length l) piece file)) (sym e) ∙ laid_end start piece file ∙ ap (λ l. l ++ piece) e

-- bytes laid over a file's front
pub laid_before : (piece file : List ℕ) → laid_at 0 piece file ≡ piece ++ drop (length piece) file
laid_before piece file =
    let none : 0 - length file ≡ 0 = omega arith in
    let place : 0 + length piece ≡ length piece = omega arith in
    ap (λ n. replicate {A = ℕ} n 0 ++ (piece ++ drop (0 + length piece) file)) none ∙ ap (λ n. piece ++ drop n file) place

-- bytes in a row and then what stands before them
over_behind : (start : ℕ) (xs before : List ℕ) → drop start (laid_over before (placed_from start xs)) ≡ xs ++ drop (start + length xs) before
over_behind start [] before = let none : start ≡ start + 0 = omega arith in ap (λ n. drop n before) none
over_behind start (x ∷ xs) before =
    ap (drop start) (over_some start before (x ∷ xs) (omega arith))
    ∙ drop_at (front start before) ((x ∷ xs) ++ drop (start + length (x ∷ xs)) before) start (front_long start before)

pub laid_both : (start : ℕ) (xs head before : List ℕ) → length head ≡ start → 0 < length head →
    laid_over before (placed_from start xs ++ placed_from 0 head) ≡ (head ++ xs) ++ drop (length (head ++ xs)) before
laid_both start xs head before long some =
    let sum : start + length xs ≡ length (head ++ xs) = omega (arith, length-append head xs, long) in
    over_more before (placed_from start xs) (placed_from 0 head)
    ∙ over_some 0 (laid_over before (placed_from start xs)) head some
    ∙ laid_before head (laid_over before (placed_from start xs))
    ∙ ap (λ n. head ++ drop n (laid_over before (placed_from start xs))) long
    ∙ ap (λ l. head ++ l) (over_behind start xs before)
    ∙ sym (append_assoc head xs (drop (start + length xs) before))
    ∙ ap (λ n. head ++ xs ++ drop n before) sum
