-- What a rebuild takes from each server, counted: one amount from some of them, and nothing from the others.
use Rattle.std.proofs.Common.{◌≡◌, ℕ, zero, suc, ◌+◌, ◌-◌, ◌*◌, ◌/◌, ◌^◌, ◌<◌, ◌≤◌, nat_eq, Bool, true, false, not, ◌&&◌, ◌||◌, cond, List, [], ◌∷◌, length, map, get_or, take, filter, replicate, refl, sym, ap, ◌∙◌, arith, if◌then◌else◌}
use Rattle.std.specs.Bool.{⊤}
use Rattle.std.specs.List.{range_with_len}
use Rattle.std.proofs.Math.Nat.{mul-div_cancel, pow-suc}
use Rattle.std.proofs.lemmas.Bool.{true≢false, eq-eqb, eqb-true, ne_eqb, or_left}
use Rattle.std.proofs.lemmas.List.{ext_get_or, length-map, get_or-map as get_or_at, get_or-replicate, length-replicate}
use Rattle.std.proofs.lemmas.List.FromFn.{length-range_with_len, get_or-range_with_len}
use Rattle.clay_grid.specs.Shape.{Shape, chunk_count, row_count, column_count, layer_count}
use Rattle.clay_grid.specs.Limits.{IsGeometry}
use Rattle.clay_grid.specs.Repair.{all_layers, repair_layers_of}
use Rattle.clay_grid.proofs.LimitLaws.{node_of_chunk-lt}
use Rattle.clay_grid.proofs.RepairLaws.{length-repair_layers_of}
use Rattle.store_core.specs.Lists.{change_at, is_among}
use Rattle.store_core.specs.Server.{raised_by}
use Rattle.session_rules.specs.State.{Stripe}
use Rattle.session_rules.specs.Gathered.{holds, lacking}
use Rattle.session_rules.specs.Heals.{takes_of}
use Rattle.session_rules.proofs.Lists.{changed_length}
use Rattle.session_rules.proofs.PlacedAnew.{changed_elsewhere}
use Rattle.session_rules.proofs.Counting.{everyone, among_kept}
use Rattle.session_rules.proofs.TakesWalks.{taking}

cases : {P : Type 0} (b : Bool) → (b ≡ true → P) → (b ≡ false → P) → P
cases true t f = t refl
cases false t f = f refl

-- ---- servers that rise
abbrev Rising : ℕ → List ℕ → Type 0
Rising low [] = ⊤
Rising low (x ∷ xs) = (low ≤ x) × Rising (x + 1) xs

rising_sooner : (low lower : ℕ) (xs : List ℕ) → lower ≤ low → Rising low xs → Rising lower xs
rising_sooner low lower [] less r = tt
rising_sooner low lower (x ∷ xs) less r = let here : low ≤ x = r.0 in (omega (arith, less, here), r.1)

rising_row : (a n : ℕ) → Rising a (range_with_len a n)
rising_row a zero = tt
rising_row a (suc n) = (omega arith, rising_row (a + 1) n)

rising_kept : (p : ℕ → Bool) (low : ℕ) (xs : List ℕ) → Rising low xs → Rising low (filter p xs)
rising_kept p low [] r = tt
rising_kept p low (x ∷ xs) r = by (p x) (rising_kept p (x + 1) xs r.1)
  where
    by : (b : Bool) → Rising (x + 1) (filter p xs) → Rising low (cond b (x ∷ filter p xs) (filter p xs))
    by true rest = (r.0, rest)
    by false rest = let here : low ≤ x = r.0 in rising_sooner (x + 1) low (filter p xs) (omega (arith, here)) rest

rising_front : (n low : ℕ) (xs : List ℕ) → Rising low xs → Rising low (take n xs)
rising_front zero low xs r = tt
rising_front (suc n) low [] r = tt
rising_front (suc n) low (x ∷ xs) r = (r.0, rising_front n (x + 1) xs r.1)

rising_above : (k low : ℕ) (xs : List ℕ) → k < low → Rising low xs → is_among k xs ≡ false
rising_above k low [] less r = refl
rising_above k low (x ∷ xs) less r =
    let here : low ≤ x = r.0 in
    ap (λ b. b || is_among k xs) (ne_eqb k x (λ e. let same : k ≡ x = e in omega (arith, same, less, here)))
    ∙ rising_above k (x + 1) xs (omega (arith, less, here)) r.1

-- ---- one amount is taken from each of some servers
taking_length : (n : ℕ) (xs : List ℕ) (takes : List ℕ) → length (taking n xs takes) ≡ length takes
taking_length n [] takes = refl
taking_length n (x ∷ xs) takes = taking_length n xs (change_at x (raised_by n) takes) ∙ changed_length x (raised_by n) takes

taken_elsewhere : (n k : ℕ) (xs takes : List ℕ) → is_among k xs ≡ false → get_or (taking n xs takes) k 0 ≡ get_or takes k 0
taken_elsewhere n k [] takes e = refl
taken_elsewhere n k (x ∷ xs) takes e = by (nat_eq k x) refl (taken_elsewhere n k xs (change_at x (raised_by n) takes))
  where
    by : (b : Bool) → nat_eq k x ≡ b → (is_among k xs ≡ false → get_or (taking n xs (change_at x (raised_by n) takes)) k 0 ≡ get_or (change_at x (raised_by n) takes) k 0) → get_or (taking n (x ∷ xs) takes) k 0 ≡ get_or takes k 0
    by true is rest = absurd (true≢false (sym (ap (λ b. b || is_among k xs) is) ∙ e))
    by false is rest =
        rest (sym (ap (λ b. b || is_among k xs) is) ∙ e)
        ∙ changed_elsewhere x k (raised_by n) 0 takes (λ same. true≢false (sym (eq-eqb k x same) ∙ is))

change_there : (x : ℕ) (f : ℕ → ℕ) (takes : List ℕ) → x < length takes → get_or (change_at x f takes) x 0 ≡ f (get_or takes x 0)
change_there x f [] less = absurd (omega (arith, less))
change_there zero f (t ∷ takes) less = refl
change_there (suc x) f (t ∷ takes) less = change_there x f takes (omega (arith, less))

taken_there : (n k low : ℕ) (xs takes : List ℕ) → Rising low xs → k < length takes → is_among k xs ≡ true → get_or (taking n xs takes) k 0 ≡ raised_by n (get_or takes k 0)
taken_there n k low [] takes r less e = absurd (true≢false (sym e))
taken_there n k low (x ∷ xs) takes r less e = by (nat_eq k x) refl (taken_there n k (x + 1) xs (change_at x (raised_by n) takes) r.1)
  where
    by : (b : Bool) → nat_eq k x ≡ b → (k < length (change_at x (raised_by n) takes) → is_among k xs ≡ true → get_or (taking n xs (change_at x (raised_by n) takes)) k 0 ≡ raised_by n (get_or (change_at x (raised_by n) takes) k 0)) →
        get_or (taking n (x ∷ xs) takes) k 0 ≡ raised_by n (get_or takes k 0)
    by true is rest =
        let same : k ≡ x = eqb-true k x is in
        taken_elsewhere n k xs (change_at x (raised_by n) takes) (rising_above k (x + 1) xs (omega (arith, same)) r.1)
        ∙ ap (λ x. get_or (change_at x (raised_by n) takes) k 0) (sym same) ∙ change_there k (raised_by n) takes less
    by false is rest =
        let many : length (change_at x (raised_by n) takes) ≡ length takes = changed_length x (raised_by n) takes in
        rest (omega (arith, many, less)) (sym (ap (λ b. b || is_among k xs) is) ∙ e)
        ∙ ap (raised_by n) (changed_elsewhere x k (raised_by n) 0 takes (λ same. true≢false (sym (eq-eqb k x same) ∙ is)))

-- from no takes on, of a count of 64 bits
raised_none : (n : ℕ) → n ≤ 1024 → raised_by n 0 ≡ n
raised_none n few = omega (arith, few)

taken_all : (n count low : ℕ) (xs : List ℕ) → n ≤ 1024 → Rising low xs → taking n xs (replicate count 0) ≡ map (λ other. if is_among other xs then n else 0) (range_with_len 0 count)
taken_all n count low xs few r = ext_get_or 0 (taking n xs (replicate count 0)) (map (λ other. if is_among other xs then n else 0) (range_with_len 0 count)) counts alike
  where
    left : length (taking n xs (replicate count 0)) ≡ count
    left = taking_length n xs (replicate count 0) ∙ length-replicate count 0

    counts : length (taking n xs (replicate count 0)) ≡ length (map (λ other. if is_among other xs then n else 0) (range_with_len 0 count))
    counts = left ∙ sym (length-map (range_with_len 0 count) (λ other. if is_among other xs then n else 0) ∙ length-range_with_len 0 count)

    none : (k : ℕ) → k < count → get_or (replicate {A = ℕ} count 0) k 0 ≡ 0
    none k less = get_or-replicate count k 0 0 less

    right : (k : ℕ) → k < count → get_or (map (λ other. if is_among other xs then n else 0) (range_with_len 0 count)) k 0 ≡ (if is_among k xs then n else 0)
    right k less =
        let many : length (range_with_len 0 count) ≡ count = length-range_with_len 0 count in
        get_or_at (λ other. if is_among other xs then n else 0) (range_with_len 0 count) k 0 0 (omega (arith, many, less))
        ∙ ap (λ other. if is_among other xs then n else 0) (get_or-range_with_len 0 count k 0 less ∙ (let e : 0 + k ≡ k = omega arith in e))

    alike : (k : ℕ) → k < length (taking n xs (replicate count 0)) → get_or (taking n xs (replicate count 0)) k 0 ≡ get_or (map (λ other. if is_among other xs then n else 0) (range_with_len 0 count)) k 0
    alike k k_less = cases (is_among k xs) here elsewhere
      where
        less : k < count
        less = let same : length (taking n xs (replicate count 0)) ≡ count = left in omega (arith, k_less, same)

        here : is_among k xs ≡ true → get_or (taking n xs (replicate count 0)) k 0 ≡ get_or (map (λ other. if is_among other xs then n else 0) (range_with_len 0 count)) k 0
        here e =
            let many : length (replicate {A = ℕ} count 0) ≡ count = length-replicate count 0 in
            taken_there n k low xs (replicate count 0) r (omega (arith, many, less)) e ∙ ap (raised_by n) (none k less) ∙ raised_none n few
            ∙ sym (right k less ∙ ap (λ b. if b then n else 0) e)

        elsewhere : is_among k xs ≡ false → get_or (taking n xs (replicate count 0)) k 0 ≡ get_or (map (λ other. if is_among other xs then n else 0) (range_with_len 0 count)) k 0
        elsewhere e = taken_elsewhere n k xs (replicate count 0) e ∙ none k less ∙ sym (right k less ∙ ap (λ b. if b then n else 0) e)

map_same : (f k : ℕ → ℕ) (xs : List ℕ) → ((x : ℕ) → is_among x xs ≡ true → f x ≡ k x) → map f xs ≡ map k xs
map_same f k [] same = refl
map_same f k (x ∷ xs) same =
    ap (λ y. y ∷ map f xs) (same x (or_left _ _ (eq-eqb x x refl))) ∙ ap (λ ys. k x ∷ ys) (map_same f k xs (λ y e. same y (Rattle.std.proofs.lemmas.Bool.or_right _ _ e)))

-- ---- a code's repair layers
module _ (g : Shape) (geometry : IsGeometry g) where
  rows : 0 < row_count g
  rows = let two : 2 ≤ g.parity_count = geometry.limits.parity_chunks.0 in omega (arith, two)

  few_layers : layer_count g ≤ 1024
  few_layers = geometry.limits.layers

  repair_length : (target : ℕ) → target < chunk_count g → length (repair_layers_of g target) ≡ row_count g ^ (column_count g - 1)
  repair_length target less =
      sym (mul-div_cancel (length (repair_layers_of g target)) rows) ∙ ap (λ n. n / row_count g) (length-repair_layers_of g target rows (node_of_chunk-lt g target geometry less) ∙ layers)
      ∙ mul-div_cancel (row_count g ^ (column_count g - 1)) rows
    where
      layers : layer_count g ≡ row_count g ^ (column_count g - 1) * row_count g
      layers =
          let two : 2 ≤ column_count g = geometry.columns.0 in
          let one_more : suc (column_count g - 1) ≡ column_count g = omega (arith, two) in
          ap (λ n. row_count g ^ n) (sym one_more) ∙ pow-suc (row_count g) (column_count g - 1)

  repair_few : (target : ℕ) → target < chunk_count g → length (repair_layers_of g target) ≤ 1024
  repair_few target less =
      let all : length (repair_layers_of g target) * row_count g ≡ layer_count g = length-repair_layers_of g target rows (node_of_chunk-lt g target geometry less) in
      let few : layer_count g ≤ 1024 = few_layers in
      let some : 0 < row_count g = rows in
      by (row_count g) some all few
    where
      by : (q : ℕ) → 0 < q → length (repair_layers_of g target) * q ≡ layer_count g → layer_count g ≤ 1024 → length (repair_layers_of g target) ≤ 1024
      by zero some all few = absurd (omega (arith, some))
      by (suc q) some all few =
          let more : length (repair_layers_of g target) * suc q ≡ length (repair_layers_of g target) * q + length (repair_layers_of g target) = Rattle.std.proofs.Math.Nat.mul-suc (length (repair_layers_of g target)) q in
          omega (arith, all, few, more)

  all_length : length (all_layers g) ≡ layer_count g
  all_length = length-range_with_len 0 (layer_count g)

  -- ---- the takes of a stripe of which only the target's chunk is lost, or some more
  module _ (stripe : Stripe) (target : ℕ) (less : target < chunk_count g) where
    pub one_lost : filter (holds stripe) (everyone g) ≡ filter (λ n. not (is_among n (target ∷ []))) (everyone g) → length (lacking stripe (everyone g)) ≡ 1 →
        taking (length (repair_layers_of g target)) (filter (holds stripe) (everyone g)) (replicate (chunk_count g) 0) ≡ takes_of g stripe target
    one_lost rest count =
        let n : ℕ = row_count g ^ (column_count g - 1) in
        ap (λ xs. taking (length (repair_layers_of g target)) xs (replicate (chunk_count g) 0)) rest
        ∙ taken_all (length (repair_layers_of g target)) (chunk_count g) 0 (filter (λ n. not (is_among n (target ∷ []))) (everyone g)) (repair_few target less)
        (rising_kept (λ n. not (is_among n (target ∷ []))) 0 (everyone g) (rising_row 0 (chunk_count g)))
        ∙ map_same (λ other. if is_among other (filter (λ n. not (is_among n (target ∷ []))) (everyone g)) then length (repair_layers_of g target) else 0) (λ other. if nat_eq other target then 0 else n) (everyone g) each
        ∙ sym (ap (λ b. if b then map (λ other. if nat_eq other target then 0 else n) (everyone g)
        else map (λ other. if is_among other (take g.data_count (filter (holds stripe) (everyone g))) then layer_count g else 0) (everyone g)) (eq-eqb (length (lacking stripe (everyone g))) 1 count))
      where
        turned : (b : Bool) → (if not (b || false) then length (repair_layers_of g target) else 0) ≡ (if b then 0 else row_count g ^ (column_count g - 1))
        turned true = refl
        turned false = repair_length target less

        each : (other : ℕ) → is_among other (everyone g) ≡ true →
            (if is_among other (filter (λ n. not (is_among n (target ∷ []))) (everyone g)) then length (repair_layers_of g target) else 0) ≡ (if nat_eq other target then 0 else row_count g ^ (column_count g - 1))
        each other e =
            ap (λ b. if b then length (repair_layers_of g target) else 0) (among_kept (λ n. not (is_among n (target ∷ []))) other (everyone g) ∙ ap (λ b. b && not (is_among other (target ∷ []))) e)
            ∙ turned (nat_eq other target)

    pub more_lost : (count : nat_eq (length (lacking stripe (everyone g))) 1 ≡ false) →
        taking (length (all_layers g)) (take g.data_count (filter (holds stripe) (everyone g))) (replicate (chunk_count g) 0) ≡ takes_of g stripe target
    more_lost count =
        ap (λ n. taking n (take g.data_count (filter (holds stripe) (everyone g))) (replicate (chunk_count g) 0)) all_length
        ∙ taken_all (layer_count g) (chunk_count g) 0 (take g.data_count (filter (holds stripe) (everyone g))) few_layers
        (rising_front g.data_count 0 (filter (holds stripe) (everyone g)) (rising_kept (holds stripe) 0 (everyone g) (rising_row 0 (chunk_count g))))
        ∙ sym (ap (λ b. if b then map (λ other. if nat_eq other target then 0 else row_count g ^ (column_count g - 1)) (everyone g)
        else map (λ other. if is_among other (take g.data_count (filter (holds stripe) (everyone g))) then layer_count g else 0) (everyone g)) count)
