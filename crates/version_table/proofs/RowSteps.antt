-- What is kept of versions, where one of them changes.
use Rattle.std.proofs.Common.{◌≡◌, ◌≢◌, ◌⊎◌, ℕ, zero, suc, ◌+◌, ◌≤◌, Bool, true, false, cond, ◌&&◌, nat_eq, List, [], ◌∷◌, ◌++◌, length, slice_get, is_some, Option, None, Some, option_map, refl, sym, ap, subst, ◌∙◌, inl, inr, arith, length-append}
use Rattle.std.proofs.lemmas.Option.{same_Some, none-some}
use Rattle.std.proofs.lemmas.Bool.{false≢true, cases_eq, ne_eqb}
use Rattle.std.proofs.lemmas.List.Sums.{sum_by-cons}
use Rattle.std.specs.Option.{option_and_then}
use Rattle.std.specs.List.{count_by}
use Rattle.indexmap.specs.IndexMap.{IndexMap, get, index_map_len}
use Rattle.store_map.specs.declared.placement.Placement.{Placement}
use Rattle.store_core.specs.Lists.{change_at}
use Rattle.version_table.specs.Counts.{one_if}
use Rattle.version_table.specs.Told.{Entry, swept, entry_standing, entry_current, entry_swept, entry_unpinned, entry_pinned, entry_anew}
use Rattle.version_table.specs.Rows.{Kept, kept_in, kept_of, kept_at, is_unswept, is_superseded, is_garbage, unswept_count, AreKept}
use Rattle.version_table.specs.RowSteps.{is_taken, is_taken_in, kept_standing, kept_current, kept_unpinned, kept_pinned, kept_anew, Alters, Adds, Sweeps}
use Rattle.version_table.specs.declared.told_versions.Standing.{Standing}
use Rattle.version_table.specs.declared.told_versions.Standing.TheVariants as standing
use Rattle.version_table.specs.declared.version_rows.VersionRow.{VersionRow}
use Rattle.version_table.proofs.Changes.{change_here, change_none, change_at-none, slice_get-change_at, length-change_at}

-- ---- counts
-- how many pass a test, where one element is changed
pub count-changed : {X : Type 0} (test : X → Bool) (f : X → X) (i : ℕ) (xs : List X) (x : X) → slice_get xs i ≡ Some x
    → count_by test (change_at i f xs) + one_if (test x) ≡ count_by test xs + one_if (test (f x))
count-changed test f i [] x there = absurd (none-some x there)
count-changed {X} test f zero (y ∷ xs) x there =
    let a : count_by test (f y ∷ xs) ≡ one_if (test (f y)) + count_by test xs = sum_by-cons (λ (z : X). one_if (test z)) (f y) xs in
    let b : count_by test (y ∷ xs) ≡ one_if (test y) + count_by test xs = sum_by-cons (λ (z : X). one_if (test z)) y xs in
    let c : one_if (test y) ≡ one_if (test x) = ap (λ (z : X). one_if (test z)) (same_Some y x there) in
    let d : one_if (test (f y)) ≡ one_if (test (f x)) = ap (λ (z : X). one_if (test (f z))) (same_Some y x there) in
    omega (arith, a, b, c, d)
count-changed {X} test f (suc i) (y ∷ xs) x there =
    let a : count_by test (y ∷ change_at i f xs) ≡ one_if (test y) + count_by test (change_at i f xs) = sum_by-cons (λ (z : X). one_if (test z)) y (change_at i f xs) in
    let b : count_by test (y ∷ xs) ≡ one_if (test y) + count_by test xs = sum_by-cons (λ (z : X). one_if (test z)) y xs in
    let rest : count_by test (change_at i f xs) + one_if (test x) ≡ count_by test xs + one_if (test (f x)) = count-changed test f i xs x there in
    omega (arith, a, b, rest)

-- where one comes
pub count-snoc : {X : Type 0} (test : X → Bool) (xs : List X) (x : X) → count_by test (xs ++ x ∷ []) ≡ count_by test xs + one_if (test x)
count-snoc {X} test [] x =
    let a : count_by test (x ∷ []) ≡ one_if (test x) + 0 = sum_by-cons (λ (z : X). one_if (test z)) x [] in
    let none : count_by {X = X} test [] ≡ 0 = refl in
    omega (arith, a, none)
count-snoc {X} test (y ∷ xs) x =
    let a : count_by test (y ∷ (xs ++ x ∷ [])) ≡ one_if (test y) + count_by test (xs ++ x ∷ []) = sum_by-cons (λ (z : X). one_if (test z)) y (xs ++ x ∷ []) in
    let b : count_by test (y ∷ xs) ≡ one_if (test y) + count_by test xs = sum_by-cons (λ (z : X). one_if (test z)) y xs in
    omega (arith, a, b, count-snoc test xs x)

-- ---- what is kept of one version
pub kept_unswept : (e : Entry) → is_some (kept_of e) ≡ is_unswept e.standing
kept_unswept e = by (is_unswept e.standing)
  where
    by : (b : Bool) → is_some (cond {A = Option Kept} b (Some (record { placed = e.placed; standing = e.standing; pins = e.pins })) None) ≡ b
    by true = refl
    by false = refl

kept_if : (e : Entry) (b : Bool) → is_unswept e.standing ≡ b → kept_of e ≡ cond {A = Option Kept} b (Some (record { placed = e.placed; standing = e.standing; pins = e.pins })) None
kept_if e b is = ap (λ c. cond {A = Option Kept} c (Some (record { placed = e.placed; standing = e.standing; pins = e.pins })) None) is

-- what is swept is no garbage
pub garbage_unswept : (e : Entry) → is_garbage e ≡ true → is_unswept e.standing ≡ true
garbage_unswept e h = by e.standing h
  where
    by : (s : Standing) → (is_superseded s && nat_eq e.pins 0) ≡ true → is_unswept s ≡ true
    by standing.Drawn h = refl
    by standing.Current h = refl
    by standing.Superseded h = refl
    by standing.Taken h = refl
    by standing.Swept h = absurd (false≢true h)

-- ---- a change
module _ {S : Type 0} (told : List Entry) (old : IndexMap ℕ VersionRow S) (kept : (n : ℕ) → option_map kept_in (get nat_eq old n) ≡ kept_at told n) (size : index_map_len old ≡ unswept_count told)
    (number : ℕ) (f : Kept → Kept) (g : Entry → Entry)
    (same : (e : Entry) → slice_get told number ≡ Some e → kept_of (g e) ≡ option_map f (kept_of e)) where
  -- what was swept stays so, and what wasn't too
  pub stays : (e : Entry) → slice_get told number ≡ Some e → is_unswept (g e).standing ≡ is_unswept e.standing
  stays e there = sym (kept_unswept (g e)) ∙ ap is_some (same e there) ∙ mapped (kept_of e) ∙ kept_unswept e
    where
      mapped : (o : Option Kept) → is_some (option_map f o) ≡ is_some o
      mapped None = refl
      mapped (Some k) = refl

  unswept-changed : unswept_count (change_at number g told) ≡ unswept_count told
  unswept-changed = by (slice_get told number) refl
    where
      by : (o : Option Entry) → slice_get told number ≡ o → unswept_count (change_at number g told) ≡ unswept_count told
      by (Some e) there =
          let counts : unswept_count (change_at number g told) + one_if (is_unswept e.standing) ≡ unswept_count told + one_if (is_unswept (g e).standing) = count-changed (λ (e : Entry). is_unswept e.standing) g number told e there in
          let alike : one_if (is_unswept (g e).standing) ≡ one_if (is_unswept e.standing) = ap one_if (stays e there) in
          omega (arith, counts, alike)
      by None past = ap unswept_count (change_at-none number g told past)

  at_changed : kept_at (change_at number g told) number ≡ option_map f (kept_at told number)
  at_changed = by (slice_get told number) refl
    where
      by : (o : Option Entry) → slice_get told number ≡ o → kept_at (change_at number g told) number ≡ option_map f (kept_at told number)
      by (Some e) there = ap (option_and_then kept_of) (change_here number g told e there) ∙ same e there ∙ ap (λ o. option_map f (option_and_then kept_of o)) (sym there)
      by None past = ap (option_and_then kept_of) (change_none number g told past) ∙ ap (λ o. option_map f (option_and_then kept_of o)) (sym past)

  module _ (new : IndexMap ℕ VersionRow S) (alters : Alters f number old new) where
    pub altered : (n : ℕ) → option_map kept_in (get nat_eq new n) ≡ kept_at (change_at number g told) n
    altered n = by (cases_eq number n)
      where
        by : (number ≡ n) ⊎ (number ≢ n) → option_map kept_in (get nat_eq new n) ≡ kept_at (change_at number g told) n
        by (inl is) =
            subst (λ m. option_map kept_in (get nat_eq new m) ≡ kept_at (change_at number g told) m) is
            (alters.here ∙ ap (option_map f) (kept number) ∙ sym at_changed)
        by (inr apart) =
            ap (option_map kept_in) (alters.others n (ne_eqb number n apart)) ∙ kept n
            ∙ ap (option_and_then kept_of) (sym (slice_get-change_at number n g told (λ e. apart (sym e))))

    pub size_altered : index_map_len new ≡ unswept_count (change_at number g told)
    size_altered = alters.len ∙ size ∙ sym unswept-changed

-- each change of an entry is one of what is kept of it
plain : (e : Entry) (f : Kept → Kept) (b : Bool) → cond {A = Option Kept} b (Some (f (record { placed = e.placed; standing = e.standing; pins = e.pins }))) None
    ≡ option_map f (cond {A = Option Kept} b (Some (record { placed = e.placed; standing = e.standing; pins = e.pins })) None)
plain e f true = refl
plain e f false = refl

pub unpinned_same : (e : Entry) → kept_of (entry_unpinned e) ≡ option_map kept_unpinned (kept_of e)
unpinned_same e = plain e kept_unpinned (is_unswept e.standing)

pub pinned_same : (e : Entry) → kept_of (entry_pinned e) ≡ option_map kept_pinned (kept_of e)
pinned_same e = plain e kept_pinned (is_unswept e.standing)

pub anew_same : (server epoch : ℕ) (e : Entry) → kept_of (entry_anew server epoch e) ≡ option_map (kept_anew server epoch) (kept_of e)
anew_same server epoch e = plain e (kept_anew server epoch) (is_unswept e.standing)

module _ (told : List Entry) (number : ℕ) (there : is_some (kept_at told number) ≡ true) where
  unswept_there : (e : Entry) → slice_get told number ≡ Some e → is_unswept e.standing ≡ true
  unswept_there e at = sym (kept_unswept e) ∙ ap (λ o. is_some (option_and_then kept_of o)) (sym at) ∙ there

  pub standing_same : (s : Standing) → is_unswept s ≡ true → (e : Entry) → slice_get told number ≡ Some e → kept_of (entry_standing s e) ≡ option_map (kept_standing s) (kept_of e)
  standing_same s stays e at = kept_if (entry_standing s e) true stays ∙ sym (ap (option_map (kept_standing s)) (kept_if e true (unswept_there e at)))

  pub current_same : (placed : List Placement) (e : Entry) → slice_get told number ≡ Some e → kept_of (entry_current placed e) ≡ option_map (kept_current placed) (kept_of e)
  current_same placed e at = sym (ap (option_map (kept_current placed)) (kept_if e true (unswept_there e at)))

-- the rows after a change
pub rows_changed : {S : Type 0} (before : List Entry) (count : ℕ) (old : IndexMap ℕ VersionRow S) → AreKept before count old → (number : ℕ) (f : Kept → Kept) (g : Entry → Entry)
    → ((e : Entry) → slice_get before number ≡ Some e → kept_of (g e) ≡ option_map f (kept_of e))
    → (told : List Entry) → told ≡ change_at number g before → (rows : IndexMap ℕ VersionRow S) → Alters f number old rows → AreKept told count rows
rows_changed before count old is number f g same told told_is rows alters =
    record {
      count = is.count ∙ sym (ap length told_is ∙ length-change_at number g before);
      kept = λ n. altered before old is.kept is.size number f g same rows alters n ∙ ap (λ l. kept_at l n) (sym told_is);
      size = size_altered before old is.kept is.size number f g same rows alters ∙ ap unswept_count (sym told_is);
    }

pub still_unswept : {S : Type 0} (before : List Entry) (count : ℕ) (old : IndexMap ℕ VersionRow S) → AreKept before count old → (number : ℕ) (f : Kept → Kept) (g : Entry → Entry)
    → ((e : Entry) → slice_get before number ≡ Some e → kept_of (g e) ≡ option_map f (kept_of e)) → (told : List Entry) → told ≡ change_at number g before → unswept_count told ≡ unswept_count before
still_unswept before count old is number f g same told told_is = ap unswept_count told_is ∙ unswept-changed before old is.kept is.size number f g same

-- ---- a version that was taken is swept
abbrev kept_taken : Option Kept → Bool
kept_taken None = false
kept_taken (Some kept) = is_taken kept.standing

taken_same : (o : Option VersionRow) → is_taken_in o ≡ kept_taken (option_map kept_in o)
taken_same None = refl
taken_same (Some row) = refl

unless : (b : Bool) (o : Option VersionRow) → option_map kept_in (cond {A = Option VersionRow} b None o) ≡ cond {A = Option Kept} b None (option_map kept_in o)
unless true o = refl
unless false o = refl

swept_kept : (e : Entry) → kept_of (entry_swept e) ≡ cond {A = Option Kept} (kept_taken (kept_of e)) None (kept_of e)
swept_kept e = by e.standing
  where
    by : (s : Standing) → kept_of (entry_swept (record e { standing = s })) ≡ cond {A = Option Kept} (kept_taken (kept_of (record e { standing = s }))) None (kept_of (record e { standing = s }))
    by standing.Drawn = refl
    by standing.Current = refl
    by standing.Superseded = refl
    by standing.Taken = refl
    by standing.Swept = refl

swept_count : (e : Entry) → one_if (is_unswept (entry_swept e).standing) + one_if (kept_taken (kept_of e)) ≡ one_if (is_unswept e.standing)
swept_count e = by e.standing
  where
    by : (s : Standing) → one_if (is_unswept (swept s)) + one_if (kept_taken (kept_of (record e { standing = s }))) ≡ one_if (is_unswept s)
    by standing.Drawn = refl
    by standing.Current = refl
    by standing.Superseded = refl
    by standing.Taken = refl
    by standing.Swept = refl

module _ (told : List Entry) (number : ℕ) where
  swept_at : kept_at (change_at number entry_swept told) number ≡ cond {A = Option Kept} (kept_taken (kept_at told number)) None (kept_at told number)
  swept_at = by (slice_get told number) refl
    where
      by : (o : Option Entry) → slice_get told number ≡ o → kept_at (change_at number entry_swept told) number ≡ cond {A = Option Kept} (kept_taken (kept_at told number)) None (kept_at told number)
      by (Some e) there =
          ap (option_and_then kept_of) (change_here number entry_swept told e there) ∙ swept_kept e
          ∙ ap (λ (o : Option Entry). cond {A = Option Kept} (kept_taken (option_and_then kept_of o)) None (option_and_then kept_of o)) (sym there)
      by None past =
          ap (option_and_then kept_of) (change_none number entry_swept told past)
          ∙ ap (λ (o : Option Entry). cond {A = Option Kept} (kept_taken (option_and_then kept_of o)) None (option_and_then kept_of o)) (sym past)

  unswept-swept : unswept_count (change_at number entry_swept told) + one_if (kept_taken (kept_at told number)) ≡ unswept_count told
  unswept-swept = by (slice_get told number) refl
    where
      by : (o : Option Entry) → slice_get told number ≡ o → unswept_count (change_at number entry_swept told) + one_if (kept_taken (kept_at told number)) ≡ unswept_count told
      by (Some e) there =
          let counts : unswept_count (change_at number entry_swept told) + one_if (is_unswept e.standing) ≡ unswept_count told + one_if (is_unswept (entry_swept e).standing) = count-changed (λ (e : Entry). is_unswept e.standing) entry_swept number told e there in
          let here : one_if (kept_taken (kept_at told number)) ≡ one_if (kept_taken (kept_of e)) = ap (λ (o : Option Entry). one_if (kept_taken (option_and_then kept_of o))) there in
          omega (arith, counts, here, swept_count e)
      by None past =
          let same : unswept_count (change_at number entry_swept told) ≡ unswept_count told = ap unswept_count (change_at-none number entry_swept told past) in
          let none : one_if (kept_taken (kept_at told number)) ≡ 0 = ap (λ (o : Option Entry). one_if (kept_taken (option_and_then kept_of o))) past in
          omega (arith, same, none)

  pub fewer : unswept_count (change_at number entry_swept told) ≤ unswept_count told
  fewer = omega (arith, unswept-swept)

pub rows_swept : {S : Type 0} (before : List Entry) (count : ℕ) (old : IndexMap ℕ VersionRow S) → AreKept before count old → (number : ℕ) (told : List Entry) → told ≡ change_at number entry_swept before
    → (rows : IndexMap ℕ VersionRow S) → Sweeps number old rows → AreKept told count rows
rows_swept before count old is number told told_is rows sweeps =
    record {
      count = is.count ∙ sym (ap length told_is ∙ length-change_at number entry_swept before);
      kept = λ n. by n (cases_eq number n) ∙ ap (λ l. kept_at l n) (sym told_is);
      size =
          (let len : index_map_len rows + one_if (is_taken_in (get nat_eq old number)) ≡ index_map_len old = sweeps.len in
          let same : one_if (is_taken_in (get nat_eq old number)) ≡ one_if (kept_taken (kept_at before number)) = ap one_if (taken_same (get nat_eq old number) ∙ ap kept_taken (is.kept number)) in
          let less : unswept_count (change_at number entry_swept before) + one_if (kept_taken (kept_at before number)) ≡ unswept_count before = unswept-swept before number in
          let now : unswept_count told ≡ unswept_count (change_at number entry_swept before) = ap unswept_count told_is in
          omega (arith, len, same, less, now, is.size));
    }
  where
    here : option_map kept_in (get nat_eq rows number) ≡ kept_at (change_at number entry_swept before) number
    here =
        ap (option_map kept_in) sweeps.here ∙ unless (is_taken_in (get nat_eq old number)) (get nat_eq old number)
        ∙ (λ i. cond {A = Option Kept} ((taken_same (get nat_eq old number) ∙ ap kept_taken (is.kept number)) i) None (is.kept number i))
        ∙ sym (swept_at before number)

    by : (n : ℕ) → (number ≡ n) ⊎ (number ≢ n) → option_map kept_in (get nat_eq rows n) ≡ kept_at (change_at number entry_swept before) n
    by n (inl same) = subst (λ (m : ℕ). option_map kept_in (get nat_eq rows m) ≡ kept_at (change_at number entry_swept before) m) same here
    by n (inr apart) =
        ap (option_map kept_in) (sweeps.others n (ne_eqb number n apart)) ∙ is.kept n
        ∙ ap (option_and_then kept_of) (sym (slice_get-change_at number n entry_swept before (λ e. apart (sym e))))

-- ---- one version more
slice_get-last : {X : Type 0} (xs : List X) (x : X) → slice_get (xs ++ x ∷ []) (length xs) ≡ Some x
slice_get-last [] x = refl
slice_get-last (y ∷ xs) x = slice_get-last xs x

slice_get-snoc : {X : Type 0} (xs : List X) (x : X) (n : ℕ) → n ≢ length xs → slice_get (xs ++ x ∷ []) n ≡ slice_get xs n
slice_get-snoc [] x zero apart = absurd (apart refl)
slice_get-snoc [] x (suc n) apart = refl
slice_get-snoc (y ∷ xs) x zero apart = refl
slice_get-snoc (y ∷ xs) x (suc n) apart = slice_get-snoc xs x n (λ e. apart (ap suc e))

pub rows_drawn : {S : Type 0} (before : List Entry) (count : ℕ) (old : IndexMap ℕ VersionRow S) → AreKept before count old → (e : Entry) → is_unswept e.standing ≡ true → (row : VersionRow) → kept_in row ≡ record { placed = e.placed; standing = e.standing; pins = e.pins }
    → (told : List Entry) → told ≡ before ++ e ∷ [] → (rows : IndexMap ℕ VersionRow S) → Adds count row old rows → AreKept told (count + 1) rows
rows_drawn before count old is e live row row_is told told_is rows adds =
    record {
      count = (let more : length told ≡ length before + 1 = ap length told_is ∙ length-append before (e ∷ []) in omega (arith, more, is.count));
      kept = λ n. by n (cases_eq count n) ∙ ap (λ l. kept_at l n) (sym told_is);
      size =
          (let more : unswept_count (before ++ e ∷ []) ≡ unswept_count before + one_if (is_unswept e.standing) = count-snoc (λ (e : Entry). is_unswept e.standing) before e in
          let one : one_if (is_unswept e.standing) ≡ 1 = ap one_if live in
          let now : unswept_count told ≡ unswept_count (before ++ e ∷ []) = ap unswept_count told_is in
          omega (arith, more, one, now, adds.len, is.size));
    }
  where
    here : option_map kept_in (get nat_eq rows count) ≡ kept_at (before ++ e ∷ []) count
    here =
        ap (option_map kept_in) adds.here ∙ ap Some row_is ∙ sym (kept_if e true live)
        ∙ ap (option_and_then kept_of) (sym (slice_get-last before e)) ∙ ap (kept_at (before ++ e ∷ [])) (sym is.count)

    by : (n : ℕ) → (count ≡ n) ⊎ (count ≢ n) → option_map kept_in (get nat_eq rows n) ≡ kept_at (before ++ e ∷ []) n
    by n (inl same) = subst (λ (m : ℕ). option_map kept_in (get nat_eq rows m) ≡ kept_at (before ++ e ∷ []) m) same here
    by n (inr apart) =
        ap (option_map kept_in) (adds.others n (ne_eqb count n apart)) ∙ is.kept n
        ∙ ap (option_and_then kept_of) (sym (slice_get-snoc before e n (λ same. apart (is.count ∙ sym same))))

pub unswept-drawn : (told : List Entry) (e : Entry) → is_unswept e.standing ≡ true → unswept_count (told ++ e ∷ []) ≡ unswept_count told + 1
unswept-drawn told e live =
    let more : unswept_count (told ++ e ∷ []) ≡ unswept_count told + one_if (is_unswept e.standing) = count-snoc (λ (e : Entry). is_unswept e.standing) told e in
    let one : one_if (is_unswept e.standing) ≡ 1 = ap one_if live in
    omega (arith, more, one)
