-- The first elements of one list change places with those of another from a place on.
use Rattle.std.proofs.Common.{◌≡◌, ◌⊎◌, ℕ, zero, suc, ◌+◌, ◌<◌, ◌≤◌, ◌-◌, min, true, false, nat_lt, inl, inr, List, [], ◌∷◌, ◌++◌, length, get_or, set, take, drop, refl, sym, ap, ◌∙◌, arith, length-append, length-drop}
use Rattle.std.proofs.lemmas.Bool.{cases_Bool, ltb-true, ltb-false}
use Rattle.std.proofs.lemmas.List.{append_assoc, take-append-drop}
use Rattle.dir_parts.proofs.Entries.{drop-next}

-- an element in the middle
set-mid : (xs ys : List ℕ) (y z : ℕ) → set (xs ++ y ∷ ys) (length xs) z ≡ xs ++ z ∷ ys
set-mid [] ys y z = refl
set-mid (x ∷ xs) ys y z = ap (λ l. x ∷ l) (set-mid xs ys y z)

read-mid : (xs ys : List ℕ) (y d : ℕ) → get_or (xs ++ y ∷ ys) (length xs) d ≡ y
read-mid [] ys y d = refl
read-mid (x ∷ xs) ys y d = read-mid xs ys y d

pub take-next : (xs : List ℕ) (i d : ℕ) → i < length xs → take (i + 1) xs ≡ take i xs ++ get_or xs i d ∷ []
take-next [] i d h = absurd (omega arith)
take-next (x ∷ xs) zero d h = refl
take-next (x ∷ xs) (suc i) d h = ap (λ k. take k (x ∷ xs)) shift ∙ ap (λ l. x ∷ l) (take-next xs i d (omega arith))
  where
    shift : suc i + 1 ≡ suc (i + 1)
    shift = omega arith

length-take : (i : ℕ) (xs : List ℕ) → i ≤ length xs → length (take i xs) ≡ i
length-take zero xs h = refl
length-take (suc i) [] h = absurd (omega arith)
length-take (suc i) (x ∷ xs) h = ap suc (length-take i xs (omega arith))

get_or-dropped : (xs : List ℕ) (f i d : ℕ) → get_or (drop f xs) i d ≡ get_or xs (f + i) d
get_or-dropped [] zero i d = refl
get_or-dropped [] (suc f) i d = refl
get_or-dropped (x ∷ xs) zero i d = ap (λ k. get_or (x ∷ xs) k d) (let same : i ≡ 0 + i = omega arith in same)
get_or-dropped (x ∷ xs) (suc f) i d = get_or-dropped xs f i d ∙ ap (λ k. get_or (x ∷ xs) k d) (let same : suc (f + i) ≡ suc f + i = omega arith in same)

-- a list whose middle was changed so far, and one element more
module _ (before changed rest : List ℕ) (y z : ℕ) (n : ℕ) (now : List ℕ) (is : now ≡ before ++ changed ++ y ∷ rest) (at : n ≡ length before + length changed) where
  place : n ≡ length (before ++ changed)
  place = at ∙ sym (length-append before changed)

  pub read_there : (d : ℕ) → get_or now n d ≡ y
  read_there d = (λ i. get_or (is i) (place i) d) ∙ read-mid (before ++ changed) rest y d

  pub set_there : set now n z ≡ before ++ (changed ++ z ∷ []) ++ rest
  set_there =
      (λ i. set (is i) (place i) z) ∙ set-mid (before ++ changed) rest y z ∙ sym (append_assoc (before ++ changed) (z ∷ []) rest)
      ∙ ap (λ l. l ++ rest) (append_assoc before changed (z ∷ []))

-- one exchange more, of two lists
module _ (old drawn now now_drawn : List ℕ) (first i : ℕ) (in_old : first + i < length old) (in_drawn : i < length drawn)
    (is : now ≡ take first old ++ take i drawn ++ drop (first + i) old) (is_drawn : now_drawn ≡ take i (drop first old) ++ drop i drawn) where
  was : ℕ
  was = get_or old (first + i) 0

  rest : drop (first + i) old ≡ get_or old (first + i) 0 ∷ drop (first + i + 1) old
  rest = drop-next old (first + i) 0 in_old

  rest_drawn : drop i drawn ≡ get_or drawn i 0 ∷ drop (i + 1) drawn
  rest_drawn = drop-next drawn i 0 in_drawn

  at : first + i ≡ length (take first old) + length (take i drawn)
  at = let a : length (take first old) ≡ first = length-take first old (omega arith) in
      let b : length (take i drawn) ≡ i = length-take i drawn (omega arith) in
      omega (arith, a, b)

  in_dropped : i < length (drop first old)
  in_dropped = omega (arith, in_old, length-drop first old)

  at_drawn : i ≡ 0 + length (take i (drop first old))
  at_drawn = let a : length (take i (drop first old)) ≡ i = length-take i (drop first old) (omega (arith, in_dropped)) in omega (arith, a)

  pub old_read : get_or now (first + i) 0 ≡ get_or old (first + i) 0
  old_read = read_there (take first old) (take i drawn) (drop (first + i + 1) old) (get_or old (first + i) 0) 0 (first + i) now (is ∙ ap (λ l. take first old ++ take i drawn ++ l) rest) at 0

  pub drawn_read : get_or now_drawn i 0 ≡ get_or drawn i 0
  drawn_read = read_there [] (take i (drop first old)) (drop (i + 1) drawn) (get_or drawn i 0) 0 i now_drawn (is_drawn ∙ ap (λ l. take i (drop first old) ++ l) rest_drawn) at_drawn 0

  pub old_set : set now (first + i) (get_or now_drawn i 0) ≡ take first old ++ take (i + 1) drawn ++ drop (first + (i + 1)) old
  old_set =
      ap (set now (first + i)) drawn_read
      ∙ set_there (take first old) (take i drawn) (drop (first + i + 1) old) (get_or old (first + i) 0) (get_or drawn i 0) (first + i) now (is ∙ ap (λ l. take first old ++ take i drawn ++ l) rest) at
      ∙ (λ j. take first old ++ sym (take-next drawn i 0 in_drawn) j ++ drop (same j) old)
    where
      same : first + i + 1 ≡ first + (i + 1)
      same = omega arith

  pub drawn_set : set now_drawn i (get_or now (first + i) 0) ≡ take (i + 1) (drop first old) ++ drop (i + 1) drawn
  drawn_set =
      ap (set now_drawn i) (old_read ∙ sym (get_or-dropped old first i 0))
      ∙ set_there [] (take i (drop first old)) (drop (i + 1) drawn) (get_or drawn i 0) (get_or (drop first old) i 0) i now_drawn (is_drawn ∙ ap (λ l. take i (drop first old) ++ l) rest_drawn) at_drawn
      ∙ ap (λ l. l ++ drop (i + 1) drawn) (sym (take-next (drop first old) i 0 in_dropped))

append-none : (xs : List ℕ) → xs ++ [] ≡ xs
append-none [] = refl
append-none (x ∷ xs) = ap (λ l. x ∷ l) (append-none xs)

-- nothing exchanged yet
pub none_yet : (old : List ℕ) (first : ℕ) → old ≡ (take first old ++ []) ++ drop (first + 0) old
none_yet old first =
    sym (take-append-drop first old)
    ∙ (λ i. sym (append-none (take first old)) i ++ drop (same i) old)
  where
    same : first ≡ first + 0
    same = omega arith

drop-all : (xs : List ℕ) (n : ℕ) → length xs ≤ n → drop n xs ≡ []
drop-all [] zero h = refl
drop-all [] (suc n) h = refl
drop-all (x ∷ xs) zero h = absurd (omega arith)
drop-all (x ∷ xs) (suc n) h = drop-all xs n (omega arith)

take-all : (xs : List ℕ) (n : ℕ) → length xs ≤ n → take n xs ≡ xs
take-all [] zero h = refl
take-all [] (suc n) h = refl
take-all (x ∷ xs) zero h = absurd (omega arith)
take-all (x ∷ xs) (suc n) h = ap (λ l. x ∷ l) (take-all xs n (omega arith))

take-front : (xs ys : List ℕ) (n : ℕ) → length xs ≡ n → take n (xs ++ ys) ≡ xs
take-front [] ys zero h = refl
take-front [] ys (suc n) h = absurd (omega arith)
take-front (x ∷ xs) ys zero h = absurd (omega arith)
take-front (x ∷ xs) ys (suc n) h = ap (λ l. x ∷ l) (take-front xs ys n (omega arith))

drop-front : (xs ys : List ℕ) (n : ℕ) → length xs ≡ n → drop n (xs ++ ys) ≡ ys
drop-front [] ys zero h = refl
drop-front [] ys (suc n) h = absurd (omega arith)
drop-front (x ∷ xs) ys zero h = absurd (omega arith)
drop-front (x ∷ xs) ys (suc n) h = drop-front xs ys n (omega arith)

take-none : (n : ℕ) → take {A = ℕ} n [] ≡ []
take-none zero = refl
take-none (suc n) = refl

-- the whole: `both` of the drawn ones were exchanged, and the others came after
module _ (old drawn : List ℕ) (first both : ℕ) where
  -- none, where the drawn ones begin past the end
  pub all_appended : length old ≤ first → old ++ drop 0 drawn ≡ take first old ++ drawn ++ drop (first + length drawn) old
  all_appended past =
      sym (append-none (old ++ drawn))
      ∙ (λ j. (sym (take-all old first past) j ++ drawn) ++ sym (drop-all old (first + length drawn) (omega (arith, past))) j)

  pub none_replaced : length old ≤ first → [] ≡ take (length drawn) (drop first old)
  none_replaced past = sym (ap (take (length drawn)) (drop-all old first past) ∙ take-none (length drawn))

  module _ (now now_drawn : List ℕ) (inside : first + both ≤ length old) (within : both ≤ length drawn) (least : both ≡ min (length drawn) (length old - first))
      (is : now ≡ take first old ++ take both drawn ++ drop (first + both) old) (is_drawn : now_drawn ≡ take both (drop first old) ++ drop both drawn) where
    front : length (take both (drop first old)) ≡ both
    front = length-take both (drop first old) (omega (arith, inside, length-drop first old))

    which : (both ≡ length drawn) ⊎ (first + both ≡ length old)
    which = by (cases_Bool (nat_lt (length old - first) (length drawn)))
      where
        by : (nat_lt (length old - first) (length drawn) ≡ true) ⊎ (nat_lt (length old - first) (length drawn) ≡ false) → (both ≡ length drawn) ⊎ (first + both ≡ length old)
        by (inl h) = inr (let less : length old - first < length drawn = ltb-true _ _ h in omega (arith, less, least, inside))
        by (inr h) = inl (let more : length drawn ≤ length old - first = ltb-false _ _ h in omega (arith, more, least))

    pub appended : now ++ drop both now_drawn ≡ take first old ++ drawn ++ drop (first + length drawn) old
    appended = (λ j. is j ++ (ap (drop both) is_drawn ∙ drop-front (take both (drop first old)) (drop both drawn) both front) j) ∙ by which
      where
        by : (both ≡ length drawn) ⊎ (first + both ≡ length old) → (take first old ++ take both drawn ++ drop (first + both) old) ++ drop both drawn ≡ take first old ++ drawn ++ drop (first + length drawn) old
        by (inl same) =
            (λ j. ((take first old ++ take-all drawn both (omega (arith, same)) j) ++ drop (first + same j) old) ++ drop-all drawn both (omega (arith, same)) j)
            ∙ append-none ((take first old ++ drawn) ++ drop (first + length drawn) old)
        by (inr same) =
            (λ j. ((take first old ++ take both drawn) ++ drop-all old (first + both) (omega (arith, same)) j) ++ drop both drawn)
            ∙ ap (λ l. l ++ drop both drawn) (append-none (take first old ++ take both drawn))
            ∙ append_assoc (take first old) (take both drawn) (drop both drawn)
            ∙ ap (λ l. take first old ++ l) (take-append-drop both drawn)
            ∙ sym (append-none (take first old ++ drawn))
            ∙ (λ j. (take first old ++ drawn) ++ sym (drop-all old (first + length drawn) (omega (arith, same, within))) j)

    pub replaced : take both now_drawn ≡ take (length drawn) (drop first old)
    replaced = ap (take both) is_drawn ∙ take-front (take both (drop first old)) (drop both drawn) both front ∙ by which
      where
        by : (both ≡ length drawn) ⊎ (first + both ≡ length old) → take both (drop first old) ≡ take (length drawn) (drop first old)
        by (inl same) = ap (λ n. take n (drop first old)) same
        by (inr same) =
            take-all (drop first old) both (omega (arith, same, length-drop first old))
            ∙ sym (take-all (drop first old) (length drawn) (omega (arith, same, within, length-drop first old)))
