-- What is read of a stripe's block, and what it says of the stripes before.
use Rattle.std.proofs.Common.{◌≡◌, ℕ, ◌+◌, ◌<◌, ◌≤◌, ◌⊎◌, List, [], ◌∷◌, ◌++◌, length, get_or, drop, Option, None, Some, Vec, Global, refl, sym, subst, ap, ◌∙◌, inl, inr, arith, append_assoc}
use Rattle.std.specs.Prelude.{All}
use Rattle.std.proofs.lemmas.List.{drop_at}
use Rattle.std.proofs.lemmas.List.Elements.{All-head, All-drop, All-same, All-append}
use Rattle.clay_aloof.specs.Shape.{AloofShape}
use Rattle.share_format.specs.Blocks.{block_length}
use Rattle.share_format.specs.Shares.{block_start}
use Rattle.share_files.specs.Seen.{Seen, seen_of, failed_since}
use Rattle.share_files.specs.Missed.{HasFailed, IsMissing, CountsAt}
use Rattle.share_files.specs.Asked.{IsIn, AreAskedIn}
use Rattle.share_files.specs.Gathered.{Grow}
use Rattle.share_files.specs.Stripes.{IsRead}
use Rattle.share_files.proofs.FoundLemmas.{place_before}
use Rattle.share_files.proofs.AskedLemmas.{grow_asked}

-- what stands behind a list that is the front of another
behind : (failed more now : List ℕ) → now ≡ failed ++ more → drop (length failed) now ≡ more
behind failed more now is = ap (drop (length failed)) is ∙ drop_at failed more (length failed) refl

abbrev IsLate : AloofShape → ℕ → ℕ → Type 0
IsLate a i place = block_start a i ≤ place

-- in between two moments and then in between two others
pub since_both : (olds mids news : List Seen) → Grow olds mids → Grow mids news → (c : ℕ) →
    failed_since (seen_of olds c) (seen_of news c) ≡ failed_since (seen_of olds c) (seen_of mids c) ++ failed_since (seen_of mids c) (seen_of news c)
since_both olds mids news one two c =
    let old : Seen = seen_of olds c in
    let mid : Seen = seen_of mids c in
    let new : Seen = seen_of news c in
    let first : failed_since old mid ≡ (one c).more = behind old.failed (one c).more mid.failed (one c).failed in
    let then : failed_since mid new ≡ (two c).more = behind mid.failed (two c).more new.failed (two c).failed in
    let all : failed_since old new ≡ (one c).more ++ (two c).more =
    behind old.failed ((one c).more ++ (two c).more) new.failed
    ((two c).failed ∙ ap (λ l. l ++ (two c).more) (one c).failed ∙ append_assoc old.failed (one c).more (two c).more) in
    all ∙ sym (λ j. first j ++ then j)

-- reads that failed in a stripe's block
fails_in : (a : AloofShape) (i : ℕ) (mids news : List Seen) → AreAskedIn a i mids news → (c : ℕ) → All (IsIn a i) (failed_since (seen_of mids c) (seen_of news c))
fails_in a i mids news asked c =
    All-same (IsIn a i) (failed_since (seen_of mids c) (seen_of news c)) (asked c).fails
    (behind (seen_of mids c).failed (asked c).fails (seen_of news c).failed (asked c).failed) (asked c).places.2

pub fails_late : (a : AloofShape) (i : ℕ) (mids news : List Seen) → AreAskedIn a i mids news → (c : ℕ) →
    All (IsLate a i) (failed_since (seen_of mids c) (seen_of news c))
fails_late a i mids news asked c k d less = (fails_in a i mids news asked c k d less).0

-- they lie before the next stripe's
pub within_more : (a : AloofShape) (i : ℕ) (olds mids news : List Seen) → Grow olds mids → AreAskedIn a i mids news →
    ((c : ℕ) → All (λ place. place < block_start a i) (failed_since (seen_of olds c) (seen_of mids c))) →
    (c : ℕ) → All (λ place. place < block_start a (i + 1)) (failed_since (seen_of olds c) (seen_of news c))
within_more a i olds mids news grow asked within c =
    let P : ℕ → Type 0 = λ place. place < block_start a (i + 1) in
    let was : List ℕ = failed_since (seen_of olds c) (seen_of mids c) in
    let since : List ℕ = failed_since (seen_of mids c) (seen_of news c) in
    let end : block_start a i + block_length a ≤ block_start a (i + 1) = place_before a i (i + 1) (omega arith) in
    let one : All P was = λ k d less. (let low : get_or was k d < block_start a i = within c k d less in omega (arith, low, end)) in
    let two : All P since = λ k d less. (let low : get_or since k d < block_start a i + block_length a = (fails_in a i mids news asked c k d less).1 in omega (arith, low, end)) in
    All-same P (failed_since (seen_of olds c) (seen_of news c)) (was ++ since)
    (since_both olds mids news grow (grow_asked a i mids news asked) c) (All-append P was since one two)

-- ---- the stripes before

failed_later : (a : AloofShape) (i : ℕ) (failed more now : List ℕ) → now ≡ failed ++ more → HasFailed a i failed → HasFailed a i now
failed_later a i failed more now is has = record {
  earlier = has.earlier;
  place = has.place;
  later = has.later ++ more;
  one = is ∙ ap (λ l. l ++ more) has.one ∙ append_assoc has.earlier (has.place ∷ has.later) more;
  from = has.from;
  before = has.before;
}

pub missing_later : (a : AloofShape) (i : ℕ) (file failed more now : List ℕ) → now ≡ failed ++ more → IsMissing a i file failed → IsMissing a i file now
missing_later a i file failed more now is missing = elim missing [ inl none ↦ inl none | inr has ↦ inr (failed_later a i failed more now is has) ]

-- an element of two lists, one behind the other, stands in one of them
in_either : (earlier : List ℕ) (x : ℕ) (later xs ys : List ℕ) → xs ++ ys ≡ earlier ++ x ∷ later →
    ((front : List ℕ) × (rest : List ℕ) × (xs ≡ front ++ x ∷ rest)) ⊎ ((front : List ℕ) × (ys ≡ front ++ x ∷ later))
in_either earlier x later [] ys e = inr (earlier, e)
in_either [] x later (f ∷ xs) ys e = let same : f ≡ x = cc in inl ([], xs, ap (λ n. n ∷ xs) same)
in_either (y ∷ earlier) x later (f ∷ xs) ys e =
    let first : f ≡ y = cc in
    let others : xs ++ ys ≡ earlier ++ x ∷ later = cc in
    elim (in_either earlier x later xs ys others) [
      | inl found ↦ inl (y ∷ found.0, found.1, (λ j. first j ∷ found.2 j))
      | inr found ↦ inr found
    ]

failed_behind : (a : AloofShape) (i : ℕ) (early failed now : List ℕ) → now ≡ early ++ failed → HasFailed a i failed → HasFailed a i now
failed_behind a i early failed now is has = record {
  earlier = early ++ has.earlier;
  place = has.place;
  later = has.later;
  one = is ∙ ap (λ l. early ++ l) has.one ∙ sym (append_assoc early has.earlier (has.place ∷ has.later));
  from = has.from;
  before = has.before;
}

pub missing_behind : (a : AloofShape) (i : ℕ) (file early failed now : List ℕ) → now ≡ early ++ failed → IsMissing a i file failed → IsMissing a i file now
missing_behind a i file early failed now is missing =
    elim missing [ inl none ↦ inl none | inr has ↦ inr (failed_behind a i early failed now is has) ]

-- an element that stands between two others
stands_in : (P : ℕ → Type 0) (earlier : List ℕ) (x : ℕ) (later failed : List ℕ) → failed ≡ earlier ++ x ∷ later → All P failed → P x
stands_in P earlier x later failed is all =
    let whole : All P (earlier ++ x ∷ later) = subst (All P) is all in
    let rest : All P (x ∷ later) =
    subst (All P) (drop_at earlier (x ∷ later) (length earlier) refl) (All-drop P (length earlier) (earlier ++ x ∷ later) whole) in
    All-head P x later rest

-- none failed in a block, where all did before it
pub none_early : (a : AloofShape) (i : ℕ) (failed : List ℕ) → All (λ place. place < block_start a i) failed → HasFailed a i failed → ⊥
none_early a i failed early has =
    let low : has.place < block_start a i = stands_in (λ place. place < block_start a i) has.earlier has.place has.later failed has.one early in
    omega (arith, low, has.from)

module _ (a : AloofShape) (k i : ℕ) (less : k < i) where
  none_late : (failed : List ℕ) → All (IsLate a i) failed → HasFailed a k failed → ⊥
  none_late failed late has =
      let end : block_start a k + block_length a ≤ block_start a i = place_before a k i less in
      let low : block_start a i ≤ has.place = stands_in (IsLate a i) has.earlier has.place has.later failed has.one late in
      omega (arith, low, end, has.before)

  failed_before : (failed more now : List ℕ) → now ≡ failed ++ more → All (IsLate a i) more → HasFailed a k now → HasFailed a k failed
  failed_before failed more now is late has = elim (in_either has.earlier has.place has.later failed more (sym is ∙ has.one)) [
    | inl found ↦ record { earlier = found.0; place = has.place; later = found.1; one = found.2; from = has.from; before = has.before }
    | inr found ↦
        absurd (none_late more late (record { earlier = found.0; place = has.place; later = has.later; one = found.1; from = has.from; before = has.before }))
  ]

  pub missing_earlier : (file failed more now : List ℕ) → now ≡ failed ++ more → All (IsLate a i) more → IsMissing a k file now → IsMissing a k file failed
  missing_earlier file failed more now is late missing = elim missing [ inl none ↦ inl none | inr has ↦ inr (failed_before failed more now is late has) ]

  -- what was read of an earlier stripe is so still
  pub read_later : (Was Is : Type 0) → (Was → Is) → (Is → Was) → (file failed more now : List ℕ) → now ≡ failed ++ more → All (IsLate a i) more →
      (block : Option (Vec ℕ Global)) → IsRead a k Was file failed block → IsRead a k Is file now block
  read_later Was Is forth back file failed more now is late None read = elim read [
    | inl missing ↦ inl (missing_later a k file failed more now is missing)
    | inr not ↦ inr (λ counts. not (back counts))
  ]
  read_later Was Is forth back file failed more now is late (Some block) read =
      (forth read.0, read.1, read.2, λ has. read.3 (failed_before failed more now is late has))

-- and so it is since a moment before
pub read_earlier : (a : AloofShape) (i : ℕ) (Counts : Type 0) (file early failed now : List ℕ) → now ≡ early ++ failed → All (λ place. place < block_start a i) early →
    (block : Option (Vec ℕ Global)) → IsRead a i Counts file failed block → IsRead a i Counts file now block
read_earlier a i Counts file early failed now is before None read = elim read [
  | inl missing ↦ inl (missing_behind a i file early failed now is missing)
  | inr not ↦ inr not
]
read_earlier a i Counts file early failed now is before (Some block) read = (
  read.0,
  read.1,
  read.2,
  λ has. elim (in_either has.earlier has.place has.later early failed (sym is ∙ has.one)) [
    | inl found ↦
        none_early a i early before (record { earlier = found.0; place = has.place; later = found.1; one = found.2; from = has.from; before = has.before })
    | inr found ↦
        read.3 (record { earlier = found.0; place = has.place; later = has.later; one = found.1; from = has.from; before = has.before })
  ],
)

-- what counted and was read of an earlier stripe still does
module _ (a : AloofShape) (i : ℕ) (olds mids news : List Seen) (one : Grow olds mids) (asked : AreAskedIn a i mids news) (files : List (List ℕ)) where
  two : Grow mids news
  two = grow_asked a i mids news asked

  late : (c : ℕ) → All (IsLate a i) (failed_since (seen_of mids c) (seen_of news c))
  late = fails_late a i mids news asked

  abbrev since : ℕ → List ℕ
  since c = failed_since (seen_of mids c) (seen_of news c)

  abbrev was : ℕ → List ℕ
  was c = failed_since (seen_of olds c) (seen_of mids c)

  abbrev is : ℕ → List ℕ
  is c = failed_since (seen_of olds c) (seen_of news c)

  counts_later : (c k : ℕ) → CountsAt a files olds mids c k → CountsAt a files olds news c k
  counts_later c k counts = elim counts [
    | inl early ↦ inl early
    | inr lack ↦ inr (
      lack.0,
      lack.1,
      missing_later a k (get_or files lack.0 []) (was lack.0) (since lack.0) (is lack.0) (since_both olds mids news one two lack.0) lack.2,
    )
  ]

  counts_earlier : (c k : ℕ) → k < i → CountsAt a files olds news c k → CountsAt a files olds mids c k
  counts_earlier c k less counts = elim counts [
    | inl early ↦ inl early
    | inr lack ↦ inr (
      lack.0,
      lack.1,
      missing_earlier a k i less (get_or files lack.0 []) (was lack.0) (since lack.0) (is lack.0) (since_both olds mids news one two lack.0) (late lack.0)
          lack.2,
    )
  ]

  pub read_stays : (k : ℕ) → k < i → (c : ℕ) (block : Option (Vec ℕ Global)) → IsRead a k (CountsAt a files olds mids c k) (get_or files c []) (was c) block →
      IsRead a k (CountsAt a files olds news c k) (get_or files c []) (is c) block
  read_stays k less c block read =
      read_later a k i less (CountsAt a files olds mids c k) (CountsAt a files olds news c k) (counts_later c k) (counts_earlier c k less) (get_or files c []) (was c)
      (since c) (is c) (since_both olds mids news one two c) (late c) block read
