-- One source more that was asked, of those in a row.
use Rattle.std.proofs.Common.{◌≡◌, ◌≢◌, ℕ, ◌+◌, ◌<◌, Bool, true, false, List, [], ◌++◌, length, length-set, get_or, map, refl, sym, subst, ◌∙◌, ap, arith, inl, inr, get_or-set_other, get_or-set_same, below_more}
use Rattle.std.proofs.Math.ListN.{set}
use Rattle.std.proofs.lemmas.Bool.{cases_lt}
use Rattle.std.proofs.lemmas.List as lists
use Rattle.std.proofs.lemmas.List.{map-set, length-map}
use Rattle.file_bytes.specs.Places.{Placed, Shows, FailsIn}
use Rattle.share_format.specs.Mend.{Range}
use Rattle.share_format.specs.Blocks.{block_length}
use Rattle.share_format.specs.Shares.{block_start}
use Rattle.clay_aloof.specs.Shape.{AloofShape}
use Rattle.share_files.specs.Seen.{Seen, seen, seen_of, Show}
use Rattle.share_mends.specs.Asked.{helps, GivesIf, IsAsked, AreAsked, FailsAt, NoReadFails}
use Rattle.share_mends.proofs.GivenLemmas.{gives_none, just_then, shown_before}

-- ---- one source

shown_if : (help : Bool) (file : List ℕ) (old now : List Placed) (ranges : List Range) (ends told : List ℕ) → GivesIf help old ranges now → told ≡ ends → Shows file now told → Shows file old ends
shown_if true file old now ranges ends told given same shows = shown_before file old now ranges given.bytes ends told given.gives same shows
shown_if false file old now ranges ends told given same shows =
    let P : List Placed → Type 0 = λ l. Shows file l ends in
    let Q : List ℕ → Type 0 = λ l. Shows file now l in
    subst P given (subst Q same shows)

gives_if_then : (help : Bool) (a b c : List Placed) (first second : List Range) → GivesIf help a first b → GivesIf help b second c → GivesIf help a (first ++ second) c
gives_if_then true a b c first second one two = just_then a b c first second one two
gives_if_then false a b c first second one two = two ∙ one

gives_if_none : (help : Bool) (a : List Placed) → GivesIf help a [] a
gives_if_none true a = record { bytes = []; gives = gives_none a }
gives_if_none false a = refl

-- ---- all of them

pub asked_none : (marks : List Bool) (ranges : List Range) (seens : List Seen) → AreAsked marks ranges 0 seens seens
asked_none marks ranges seens = record { asked = λ c less. absurd (omega (arith, less)); others = λ c more. refl }

-- for no ranges
pub asked_nothing : (marks : List Bool) (count : ℕ) (seens : List Seen) → AreAsked marks [] count seens seens
asked_nothing marks count seens = record {
  asked = λ c less. record { given = gives_if_none (helps marks c) (seen_of seens c).given; ends = refl; failed = refl };
  others = λ c more. refl;
}

-- for further ranges
pub asked_then : (marks : List Bool) (first second : List Range) (count : ℕ) (a b c : List Seen) → AreAsked marks first count a b → AreAsked marks second count b c
    → AreAsked marks (first ++ second) count a c
asked_then marks first second count a b c one two = record {
  asked = λ k less. record {
    given = gives_if_then (helps marks k) _ _ _ first second (one.asked k less).given (two.asked k less).given;
    ends = (two.asked k less).ends ∙ (one.asked k less).ends;
    failed = (two.asked k less).failed ∙ (one.asked k less).failed;
  };
  others = λ k more. two.others k more ∙ one.others k more;
}

pub no_read_fails : (marks : List Bool) (ranges : List Range) (count : ℕ) (olds news : List Seen) → AreAsked marks ranges count olds news → NoReadFails olds news
no_read_fails marks ranges count olds news so c =
    elim (cases_lt c count) [
      | inl less ↦ (so.asked c less).failed
      | inr more ↦ ap (λ (s : Seen). s.failed) (so.others c more)
    ]

pub fails_none : (olds mids news : List Seen) → NoReadFails olds mids → NoReadFails mids news → NoReadFails olds news
fails_none olds mids news one two c = two c ∙ one c

pub fails_one : (a : AloofShape) (marks : List Bool) (stripe : ℕ) (olds mids news : List Seen) → NoReadFails olds mids → FailsAt a marks stripe mids news →
    FailsAt a marks stripe olds news
fails_one a marks stripe olds mids news none one =
    let P : List ℕ → Type 0 = λ l. FailsIn (block_start a stripe) (block_length a) l (seen_of news one.share).failed in record {
      share = one.share;
      helper = one.helper;
      fails = subst P (none one.share) one.fails;
      others = λ c other. one.others c other ∙ none c;
    }

pub shown_asked : (marks : List Bool) (ranges : List Range) (count : ℕ) (olds news : List Seen) (files : List (List ℕ)) → length olds ≡ length news
    → AreAsked marks ranges count olds news → Show news files → Show olds files
shown_asked marks ranges count olds news files long so shows c within =
    let within_news : c < length news = omega (arith, long, within) in
    let P : Seen → Type 0 = λ s. Shows (get_or files c []) s.given s.ends in
    elim (cases_lt c count) [
      | inl less ↦ shown_if (helps marks c) (get_or files c []) _ _ ranges _ _ (so.asked c less).given (so.asked c less).ends (shows c within_news)
      | inr more ↦ subst P (so.others c more) (shows c within_news)
    ]

-- as many as there are sources
pub same_count : {X : Type 0} (f : X → Seen) (xs ys : List X) → length xs ≡ length ys → length (map f xs) ≡ length (map f ys)
same_count f xs ys same = length-map xs f ∙ same ∙ sym (length-map ys f)

-- ---- a source in a slice

module _ {X : Type 0} (f : X → Seen) (xs : List X) (i : ℕ) (old new : X) (within : i < length xs) (here : old ≡ get_or xs i old) where
  seen_here : seen_of (map f xs) i ≡ f old
  seen_here = lists.get_or-map f xs i old (seen [] [] []) within ∙ sym (ap f here)

  long : length (map f (set xs i new)) ≡ length (map f xs)
  long = length-map (set xs i new) f ∙ length-set xs i new ∙ sym (length-map xs f)

  seen_there : seen_of (map f (set xs i new)) i ≡ f new
  seen_there =
      let count : length (map f xs) ≡ length xs = length-map xs f in
      ap (λ l. seen_of l i) (map-set f xs i new) ∙ get_or-set_same (map f xs) i (f new) (seen [] [] []) (omega (arith, count, within))

  seen_other : (c : ℕ) → c ≢ i → seen_of (map f (set xs i new)) c ≡ seen_of (map f xs) c
  seen_other c other = ap (λ l. seen_of l c) (map-set f xs i new) ∙ get_or-set_other (map f xs) i c (f new) (seen [] [] []) other

  pub asked_more : (marks : List Bool) (ranges : List Range) (olds : List Seen) → IsAsked (helps marks i) ranges (f old) (f new) → AreAsked marks ranges i olds (map f xs)
      → AreAsked marks ranges (i + 1) olds (map f (set xs i new))
  asked_more marks ranges olds one so = record {
    asked =
        below_more (λ c. IsAsked (helps marks c) ranges (seen_of olds c) (seen_of (map f (set xs i new)) c)) i
        (λ c less.
        let other : c ≢ i = omega (arith, less) in
        let P : Seen → Type 0 = λ s. IsAsked (helps marks c) ranges (seen_of olds c) s in
        subst P (sym (seen_other c other)) (so.asked c less))
        (let P : Seen → Type 0 = λ s. IsAsked (helps marks i) ranges s (f new) in
        let Q : Seen → Type 0 = λ s. IsAsked (helps marks i) ranges (seen_of olds i) s in
        subst Q (sym seen_there) (subst P (sym seen_here ∙ so.others i (omega arith)) one));
    others = λ c more.
        let other : c ≢ i = omega (arith, more) in
        seen_other c other ∙ so.others c (omega (arith, more));
  }

  -- the one that changed shows its file, and all showed theirs before
  pub shows_new : (files : List (List ℕ)) → Show (map f (set xs i new)) files → Shows (get_or files i []) (f new).given (f new).ends
  shows_new files shows =
      let count : length (map f xs) ≡ length xs = length-map xs f in
      let same : length (map f (set xs i new)) ≡ length (map f xs) = long in
      let P : Seen → Type 0 = λ s. Shows (get_or files i []) s.given s.ends in
      subst P seen_there (shows i (omega (arith, count, same, within)))

  pub shows_back : (files : List (List ℕ)) → (Shows (get_or files i []) (f new).given (f new).ends → Shows (get_or files i []) (f old).given (f old).ends)
      → Show (map f (set xs i new)) files → Show (map f xs) files
  shows_back files back shows c less =
      let P : Seen → Type 0 = λ s. Shows (get_or files c []) s.given s.ends in
      let same : length (map f (set xs i new)) ≡ length (map f xs) = long in
      let now : c < length (map f (set xs i new)) = omega (arith, same, less) in
      elim (cases_lt c i) [
        | inl before ↦ subst P (seen_other c (omega (arith, before))) (shows c now)
        | inr from ↦
            elim (cases_lt i c) [
              | inl behind ↦ subst P (seen_other c (omega (arith, behind))) (shows c now)
              | inr most ↦
                  let is : i ≡ c = omega (arith, from, most) in
                  let Q : ℕ → Type 0 = λ k. Shows (get_or files k []) (seen_of (map f xs) k).given (seen_of (map f xs) k).ends in
                  let R : Seen → Type 0 = λ s. Shows (get_or files i []) s.given s.ends in
                  subst Q is (subst R (sym seen_here) (back (shows_new files shows)))
            ]
      ]

  pub one_fails : (a : AloofShape) (marks : List Bool) (stripe : ℕ) (olds : List Seen) → helps marks i ≡ true →
      FailsIn (block_start a stripe) (block_length a) (f old).failed (f new).failed → NoReadFails olds (map f xs) → FailsAt a marks stripe olds (map f (set xs i new))
  one_fails a marks stripe olds help fails so =
      let first : (f old).failed ≡ (seen_of olds i).failed = sym (ap (λ (s : Seen). s.failed) seen_here) ∙ so i in
      let second : (f new).failed ≡ (seen_of (map f (set xs i new)) i).failed = sym (ap (λ (s : Seen). s.failed) seen_there) in
      let P : List ℕ → Type 0 = λ l. FailsIn (block_start a stripe) (block_length a) l (seen_of (map f (set xs i new)) i).failed in
      let Q : List ℕ → Type 0 = λ l. FailsIn (block_start a stripe) (block_length a) (f old).failed l in record {
        share = i;
        helper = help;
        fails = subst P first (subst Q second fails);
        others = λ c other. ap (λ (s : Seen). s.failed) (seen_other c other) ∙ so c;
      }

  pub none_fails : (olds : List Seen) → (f new).failed ≡ (f old).failed → NoReadFails olds (map f xs) → NoReadFails olds (map f (set xs i new))
  none_fails olds same so c =
      elim (cases_lt c i) [
        | inl before ↦ ap (λ (s : Seen). s.failed) (seen_other c (omega (arith, before))) ∙ so c
        | inr from ↦
            elim (cases_lt i c) [
              | inl behind ↦ ap (λ (s : Seen). s.failed) (seen_other c (omega (arith, behind))) ∙ so c
              | inr most ↦
                  let is : i ≡ c = omega (arith, from, most) in
                  let P : ℕ → Type 0 = λ k. (seen_of (map f (set xs i new)) k).failed ≡ (seen_of olds k).failed in
                  subst P is (ap (λ (s : Seen). s.failed) seen_there ∙ same ∙ sym (ap (λ (s : Seen). s.failed) seen_here) ∙ so i)
            ]
      ]
