-- The data chunks and the parity chunks that are recovered from them are a codeword.
-- One that has the data chunks exists (`data_coded`), and what is recovered is its parity chunks.
use Rattle.std.proofs.Common.{◌≡◌, ℕ, zero, suc, subst, ◌+◌, ◌-◌, ◌^◌, ◌<◌, ◌≤◌, Bool, true, false, not, nat_lt, eqb, cond, List, [], ◌++◌, map, length, get_or, filter, Some, None, refl, sym, ap, ◌∙◌, inl, inr, arith}
use Rattle.std.specs.List.{range_with_len}
use Rattle.std.proofs.lemmas.Bool.{cases_lt, lt-ltb, le-ltb}
use Rattle.std.proofs.lemmas.List.{ext_get_or, get_or_past, length-append, get_or_append_left, get_or-append_right}
use Rattle.std.proofs.lemmas.List.FromFn.{length-map-range_with_len, get_or-map-range_with_len}
use mir.Val.{bool_byte}
use Rattle.clay_grid.specs.Shape.{Shape, chunk_count, layer_count, chunk_length}
use Rattle.clay_grid.specs.Limits.{IsGeometry}
use Rattle.clay_grid.specs.Score.{count_below}
use Rattle.clay_grid.proofs.Counting.{count_below_same, count_below_true, count_below-add}
use Rattle.clay_grid.proofs.Rising.{filter_pass, filter_fail, range_with_len_more}
use Rattle.clay_model.specs.Code.{IsCodeword, AgreesWith}
use Rattle.clay_aloof.specs.Shape.{aloof_of, grid_of}
use Rattle.clay_aloof.specs.Limits.{IsAloof}
use Rattle.clay_aloof.proofs.Full.{grid_full, codewords_full}
use Rattle.clay_aloof.proofs.DataCoded.{data_coded}
use Rattle.clay_c.specs.Calls.{lost_count}
use Rattle.clay_c.specs.Helpers.{is_marked}
use Rattle.clay_c.specs.Apart.{HaveBytes, ChunkSlicesFit, left_slices, lost_numbers, RecoversApart, DataSlicesFit, data_marks}
use Rattle.clay_c.proofs.Missing.{lost_counted}
use Rattle.clay_c.proofs.Slices.{both_counted, left_entry, length-left}

-- ---- a codeword that has the data chunks

full_limits : (g : Shape) → IsGeometry g → IsAloof (aloof_of g.data_count g.parity_count (g.data_count + g.parity_count - 1) g.width)
full_limits g is =
    let few = is.limits.data_chunks in
    let rows = is.limits.parity_chunks.0 in
    let grid : grid_of (aloof_of g.data_count g.parity_count (g.data_count + g.parity_count - 1) g.width) ≡ g = grid_full g.data_count g.parity_count g.width (omega (arith, rows)) in
    record {
      limits = record {
        data_chunks = few;
        parity_chunks = is.limits.parity_chunks;
        helpers = (omega (arith, rows), omega (arith, few, rows));
        layers = subst (λ s. layer_count s ≤ 1024) (sym grid) is.limits.layers;
        width = is.limits.width;
        chunk = subst (λ s. chunk_length s ≤ 1048576) (sym grid) is.limits.chunk;
      };
      grid = subst IsGeometry (sym grid) is;
    }

pub record CodesData (g : Shape) (chunks word : List (List ℕ)) : Type 0 where
  pub codeword : IsCodeword g word
  pub same : (c : ℕ) → c < g.data_count → get_or word c [] ≡ get_or chunks c []

codes_data : (g : Shape) (chunks : List (List ℕ)) → IsGeometry g → length chunks ≡ g.data_count → HaveBytes (chunk_length g) chunks → ((c p : ℕ) → get_or (get_or chunks c []) p 0 < 2 ^ 8) → (word : List (List ℕ)) × CodesData g chunks word
codes_data g chunks is count long bytes =
    let rows = is.limits.parity_chunks.0 in
    let some : 0 < g.parity_count = omega (arith, rows) in
    let found = data_coded (aloof_of g.data_count g.parity_count (g.data_count + g.parity_count - 1) g.width) chunks (full_limits g is) bytes in (
      found.0,
      record {
        codeword = (codewords_full g.data_count g.parity_count g.width found.0 some).0 found.1.codeword;
        same = λ c h. found.1.same c h
            (long c [] (subst (λ n. c < n) (sym count) h) ∙ ap chunk_length (sym (grid_full g.data_count g.parity_count g.width some)));
      },
    )

-- ---- the marks of the data chunks

-- a mark as a number
pub bit_cond : (b : Bool) → bool_byte b ≡ cond b 1 0
bit_cond true = refl
bit_cond false = refl

-- of the numbers below first + m, those from first on
last_counted : (first m : ℕ) (f : ℕ → Bool) → ((i : ℕ) → i < first + m → f i ≡ not (nat_lt i first)) → count_below (first + m) f ≡ m
last_counted first m f each =
    let early : count_below first (λ i. not (f i)) ≡ first =
    count_below_same first (λ i. not (f i)) (λ i. true) (λ i h. ap not (each i (omega arith) ∙ ap not (lt-ltb i first h))) ∙ count_below_true first in
    let late : count_below m (λ i. f (first + i)) ≡ m =
    count_below_same m (λ i. f (first + i)) (λ i. true) (λ i h. each (first + i) (omega arith) ∙ ap not (le-ltb (first + i) first (omega arith))) ∙ count_below_true m in
    let both = both_counted first f in
    let split = count_below-add first m f in
    omega (arith, early, late, both, split)

module _ (g : Shape) where
  mark_at : (c : ℕ) → c < chunk_count g → get_or (data_marks g (chunk_count g)) c 0 ≡ cond (nat_lt c g.data_count) 1 0
  mark_at c h = get_or-map-range_with_len (λ k. cond (nat_lt k g.data_count) 1 0) 0 (chunk_count g) c c 0 h (omega arith)

  pub length-marks : (count : ℕ) → length (data_marks g count) ≡ count
  length-marks count = length-map-range_with_len (λ k. cond (nat_lt k g.data_count) 1 0) 0 count

  no_mark : (b : Bool) → eqb (cond b 1 0) 0 ≡ not b
  no_mark true = refl
  no_mark false = refl

  zero_at : (c : ℕ) → c < chunk_count g → eqb (get_or (data_marks g (chunk_count g)) c 0) 0 ≡ not (nat_lt c g.data_count)
  zero_at c h = ap (λ v. eqb v 0) (mark_at c h) ∙ no_mark (nat_lt c g.data_count)

  data_there : (c : ℕ) → c < g.data_count → eqb (get_or (data_marks g (chunk_count g)) c 0) 0 ≡ false
  data_there c h = zero_at c (omega (arith, h)) ∙ ap not (lt-ltb c g.data_count h)

  parity_gone : (c : ℕ) → g.data_count ≤ c → c < chunk_count g → eqb (get_or (data_marks g (chunk_count g)) c 0) 0 ≡ true
  parity_gone c h below = zero_at c below ∙ ap not (le-ltb c g.data_count h)

  data_counted : (c : ℕ) → c ≤ g.data_count → count_below c (is_marked (data_marks g (chunk_count g))) ≡ c
  data_counted c h =
      count_below_same c (is_marked (data_marks g (chunk_count g))) (λ i. true) (λ i below. ap not (data_there i (omega (arith, below, h)))) ∙ count_below_true c

  -- as many have no mark as there are parity chunks
  pub marks_lost : lost_count (data_marks g (chunk_count g)) ≡ g.parity_count
  marks_lost =
      let marks : List ℕ = data_marks g (chunk_count g) in
      sym (lost_counted marks) ∙ ap (λ n. count_below n (λ c. eqb (get_or marks c 0) 0)) (length-marks (chunk_count g))
      ∙ count_below_same (chunk_count g) (λ c. eqb (get_or marks c 0) 0) (λ c. not (nat_lt c g.data_count)) zero_at
      ∙ last_counted g.data_count g.parity_count (λ c. not (nat_lt c g.data_count)) (λ c h. refl)

  test : ℕ → Bool
  test c = eqb (get_or (data_marks g (chunk_count g)) c 0) 0

  none_lost : (i : ℕ) → i ≤ g.data_count → [] ≡ filter test (range_with_len 0 i)
  unfolding test
  none_lost zero h = refl
  none_lost (suc i) h =
      let next : i + 1 ≡ suc i = omega arith in
      subst (λ n. [] ≡ filter test (range_with_len 0 n)) next (filter_fail test i [] [] (none_lost i (omega (arith, h))) (data_there i (omega (arith, h))))

  some_lost : (j : ℕ) → j ≤ g.parity_count → range_with_len g.data_count j ≡ filter test (range_with_len 0 (g.data_count + j))
  unfolding test
  some_lost zero h = let flat : g.data_count ≡ g.data_count + 0 = omega arith in subst (λ n. [] ≡ filter test (range_with_len 0 n)) flat (none_lost g.data_count (omega arith))
  some_lost (suc j) h =
      let next : j + 1 ≡ suc j = omega arith in
      let further : g.data_count + j + 1 ≡ g.data_count + suc j = omega arith in
      subst (λ n. range_with_len g.data_count n ≡ filter test (range_with_len 0 (g.data_count + suc j))) next
      (subst (λ n. range_with_len g.data_count (j + 1) ≡ filter test (range_with_len 0 n)) further
      (filter_pass test (g.data_count + j) [] (range_with_len g.data_count j) (range_with_len g.data_count (j + 1)) (range_with_len_more g.data_count j) (some_lost j (omega (arith, h)))
      (parity_gone (g.data_count + j) (omega arith) (omega (arith, h)))))

  numbers_lost : lost_numbers g (data_marks g (chunk_count g)) ≡ range_with_len g.data_count g.parity_count
  unfolding test
  numbers_lost = sym (some_lost g.parity_count (omega arith))

  pub marks_fit : (chunks parity : List (List ℕ)) → DataSlicesFit g chunks parity → ChunkSlicesFit g (data_marks g (chunk_count g)) chunks parity
  marks_fit chunks parity fit =
      let few : g.data_count ≡ chunk_count g - g.parity_count = omega arith in
      (length-marks (chunk_count g), fit.0 ∙ few ∙ ap (λ n. chunk_count g - n) (sym marks_lost), fit.1 ∙ sym marks_lost, fit.2, fit.3)

  -- a codeword that has the data chunks agrees with what is left
  agrees : (chunks word : List (List ℕ)) → CodesData g chunks word → AgreesWith (left_slices g (data_marks g (chunk_count g)) chunks) word
  agrees chunks word codes c chunk there =
      let marks : List ℕ = data_marks g (chunk_count g) in
      let long : length marks ≡ chunk_count g = length-marks (chunk_count g) in
      elim (cases_lt c (chunk_count g)) [
        | inl below ↦ elim (cases_lt c g.data_count) [
          | inl early ↦
              let is : Some (get_or chunks c []) ≡ Some chunk =
              sym (left_entry g marks chunks long c below
              ∙ ap (λ b. cond b None (Some (get_or chunks (count_below c (is_marked marks)) []))) (data_there c early)
              ∙ ap (λ n. Some (get_or chunks n [])) (data_counted c (omega (arith, early)))) ∙ there in
              let same : get_or chunks c [] ≡ chunk = cc in
              codes.same c early ∙ same
          | inr late ↦
              absurd (let none : None ≡ Some chunk =
              sym (left_entry g marks chunks long c below ∙ ap (λ b. cond b None (Some (get_or chunks (count_below c (is_marked marks)) []))) (parity_gone c late below)) ∙ there in cc)
        ]
        | inr past ↦
            absurd (let none : None ≡ Some chunk = sym (get_or_past (left_slices g marks chunks) c None (subst (λ n. n ≤ c) (sym (length-left g marks chunks long)) past)) ∙ there in cc)
      ]

  -- the data chunks and what is recovered from them
  pub encoded : (chunks parity : List (List ℕ)) → IsGeometry g → length chunks ≡ g.data_count → length parity ≡ g.parity_count → HaveBytes (chunk_length g) chunks
      → ((c p : ℕ) → get_or (get_or chunks c []) p 0 < 2 ^ 8) → RecoversApart g (data_marks g (chunk_count g)) chunks parity → IsCodeword g (chunks ++ parity)
  encoded chunks parity is data_long parity_long long bytes recovers =
      let found = codes_data g chunks is data_long long bytes in
      let word : List (List ℕ) = found.0 in
      let codes = found.1 in
      let made : parity ≡ map (λ c. get_or word c []) (range_with_len g.data_count g.parity_count) =
      recovers word codes.codeword (agrees chunks word codes) ∙ ap (map (λ c. get_or word c [])) numbers_lost in
      let count : length (chunks ++ parity) ≡ chunk_count g = length-append chunks parity ∙ (λ k. data_long k + parity_long k) in
      let all : chunks ++ parity ≡ word =
      ext_get_or [] (chunks ++ parity) word (count ∙ sym codes.codeword.count) (λ c h.
      let below : c < chunk_count g = subst (λ n. c < n) count h in
      elim (cases_lt c g.data_count) [
        | inl early ↦ get_or_append_left chunks parity [] c (subst (λ n. c < n) (sym data_long) early) ∙ sym (codes.same c early)
        | inr late ↦
            let place : c - g.data_count < g.parity_count = omega (arith, late, below) in
            let back : g.data_count + (c - g.data_count) ≡ c = omega (arith, late) in
            get_or-append_right chunks parity g.data_count c [] data_long late
            ∙ ap (λ l. get_or l (c - g.data_count) []) made
            ∙ get_or-map-range_with_len (λ k. get_or word k []) g.data_count g.parity_count (c - g.data_count) c [] place back
      ]) in
      subst (IsCodeword g) (sym all) codes.codeword
