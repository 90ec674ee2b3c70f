-- Helpers that are chosen among good shares.
use Rattle.std.proofs.Common.{◌≡◌, ◌≢◌, ◌↔◌, ℕ, zero, suc, ◌+◌, ◌-◌, ◌<◌, ◌≤◌, Bool, true, false, cond, List, [], ◌∷◌, ◌++◌, length, None, sym, subst, ◌∙◌, ap, inl, inr, arith, below_more, get_or-set_other, get_or-set_same, length-set}
use Rattle.std.specs.Prelude.{IsTrue}
use Rattle.std.proofs.Math.ListN.{set}
use Rattle.std.proofs.lemmas.Bool.{cases_Bool, cases_lt, true≢false}
use Rattle.std.proofs.lemmas.List.{length_push, get_or_append_left, get_or_push, get_or_past}
use Rattle.clay_grid.specs.Score.{count_below}
use Rattle.clay_grid.proofs.Counting.{count_below_same}
use Rattle.clay_aloof.specs.Shape.{AloofShape, all_chunks}
use Rattle.share_mends.specs.Asked.{helps, AreHelpers}
use Rattle.share_run.specs.Helpers.{AreAmong, IsChoice, IsBeside, IsNext, AreMarked}

abbrev one_if : Bool → ℕ
one_if b = cond b 1 0

count_next : (n : ℕ) (f : ℕ → Bool) (b : Bool) → f n ≡ b → count_below (n + 1) f ≡ count_below n f + one_if b
count_next n f b is =
    let more : n + 1 ≡ suc n = omega arith in
    ap (λ k. count_below k f) more ∙ ap (λ x. count_below n f + one_if x) is

count_most : (n : ℕ) (f g : ℕ → Bool) → ((i : ℕ) → i < n → f i ≡ true → g i ≡ true) → count_below n f ≤ count_below n g
count_most zero f g each = omega arith
count_most (suc n) f g each =
    let rest : count_below n f ≤ count_below n g = count_most n f g (λ i h. each i (omega arith)) in
    elim (cases_Bool (f n)) [
      | inl passes ↦
          let one : one_if (f n) ≡ 1 = ap one_if passes in
          let other : one_if (g n) ≡ 1 = ap one_if (each n (omega arith) passes) in
          omega (arith, rest, one, other)
      | inr fails ↦
          let none : one_if (f n) ≡ 0 = ap one_if fails in
          omega (arith, rest, none)
    ]

-- ---- one more share

module _ (a : AloofShape) (lost : ℕ) (others : List Bool) (spare n left : ℕ) (marks : List Bool) (are : AreMarked a lost others spare n left marks) (mark : Bool) where
  abbrev new : List Bool
  new = marks ++ mark ∷ []

  long : length new ≡ n + 1
  long = length_push marks mark ∙ ap (λ k. k + 1) are.size

  old : (c : ℕ) → c < n → helps new c ≡ helps marks c
  old c less = get_or_append_left marks (mark ∷ []) false c (omega (arith, less, are.size))

  own : helps new n ≡ mark
  own = get_or_push marks mark false n are.size

  counted : count_below (n + 1) (helps new) ≡ count_below n (helps marks) + one_if mark
  counted = count_next n (helps new) mark own ∙ ap (λ k. k + one_if mark) (count_below_same n (helps new) (helps marks) old)

  -- what holds of each mark, and of the new one
  each : (P : ℕ → Type 0) → ((c : ℕ) → helps marks c ≡ true → P c) → (mark ≡ true → P n) → (c : ℕ) → helps new c ≡ true → P c
  each P before last c marked = elim (cases_lt c n) [
    | inl less ↦ before c (sym (old c less) ∙ marked)
    | inr past ↦ elim (cases_lt n c) [
      | inl beyond ↦
          let none : helps new c ≡ false = get_or_past new c false (omega (arith, long, beyond)) in
          absurd (true≢false (sym marked ∙ none))
      | inr most ↦
          let same : c ≡ n = omega (arith, past, most) in
          let Q : ℕ → Type 0 = λ i. helps new i ≡ true in
          subst P (sym same) (last (sym own ∙ subst Q same marked))
    ]
  ]

  column_more : (helps others n ≡ true → IsBeside a lost n → mark ≡ true) → (c : ℕ) → c < n + 1 → helps others c ≡ true → IsBeside a lost c → helps new c ≡ true
  column_more last c less =
      below_more (λ i. helps others i ≡ true → IsBeside a lost i → helps new i ≡ true) n
      (λ i below can beside. old i below ∙ are.column i below can beside)
      (λ can beside. own ∙ last can beside) c less

pub marked_more : (a : AloofShape) (lost : ℕ) (others : List Bool) (spare n left : ℕ) (marks : List Bool) (can beside mark : Bool) (next : ℕ) →
    AreMarked a lost others spare n left marks → can ≡ helps others n → (IsTrue beside ↔ IsBeside a lost n) → IsNext can beside left mark next →
    AreMarked a lost others spare (n + 1) next (marks ++ mark ∷ [])
marked_more a lost others spare n left marks can beside mark next are is stands (inl none) =
    let sums : count_below (n + 1) (helps (marks ++ mark ∷ [])) ≡ count_below n (helps marks) + one_if mark = counted a lost others spare n left marks are mark in
    let all : count_below (n + 1) (helps others) ≡ count_below n (helps others) + one_if can = count_next n (helps others) can (sym is) in
    let zero_mark : one_if mark ≡ 0 = ap one_if none.1 in
    let zero_can : one_if can ≡ 0 = ap one_if none.0 in
    record {
      size = long a lost others spare n left marks are mark;
      only = each a lost others spare n left marks are mark (λ c. helps others c ≡ true) are.only (λ marked. absurd (true≢false (sym marked ∙ none.1)));
      column = column_more a lost others spare n left marks are mark (λ there b. absurd (true≢false (sym there ∙ sym is ∙ none.0)));
      most = omega (arith, are.most, none.2);
      sum = omega (arith, sums, all, zero_mark, zero_can, are.sum, none.2);
      rest = λ c some. each a lost others spare n left marks are mark (λ i. IsBeside a lost i) (λ i. are.rest i (omega (arith, some, none.2)))
          (λ marked. absurd (true≢false (sym marked ∙ none.1))) c;
    }
marked_more a lost others spare n left marks can beside mark next are is stands (inr (inl kept)) =
    let sums : count_below (n + 1) (helps (marks ++ mark ∷ [])) ≡ count_below n (helps marks) + one_if mark = counted a lost others spare n left marks are mark in
    let all : count_below (n + 1) (helps others) ≡ count_below n (helps others) + one_if can = count_next n (helps others) can (sym is) in
    let one_mark : one_if mark ≡ 1 = ap one_if kept.1 in
    let one_can : one_if can ≡ 1 = ap one_if kept.0 in
    record {
      size = long a lost others spare n left marks are mark;
      only = each a lost others spare n left marks are mark (λ c. helps others c ≡ true) are.only (λ marked. sym is ∙ kept.0);
      column = column_more a lost others spare n left marks are mark (λ there b. kept.1);
      most = omega (arith, are.most, kept.2);
      sum = omega (arith, sums, all, one_mark, one_can, are.sum, kept.2);
      rest = λ c some. each a lost others spare n left marks are mark (λ i. IsBeside a lost i) (λ i. are.rest i (omega (arith, some, kept.2)))
          (λ marked. elim kept.3 [ inl there ↦ stands.0 there | inr none ↦ absurd (omega (arith, some, kept.2, none)) ]) c;
    }
marked_more a lost others spare n left marks can beside mark next are is stands (inr (inr spared)) =
    let sums : count_below (n + 1) (helps (marks ++ mark ∷ [])) ≡ count_below n (helps marks) + one_if mark = counted a lost others spare n left marks are mark in
    let all : count_below (n + 1) (helps others) ≡ count_below n (helps others) + one_if can = count_next n (helps others) can (sym is) in
    let zero_mark : one_if mark ≡ 0 = ap one_if spared.2 in
    let one_can : one_if can ≡ 1 = ap one_if spared.0 in
    record {
      size = long a lost others spare n left marks are mark;
      only = each a lost others spare n left marks are mark (λ c. helps others c ≡ true) are.only (λ marked. absurd (true≢false (sym marked ∙ spared.2)));
      column = column_more a lost others spare n left marks are mark (λ there b. absurd (true≢false (sym (stands.1 b) ∙ spared.1)));
      most = omega (arith, are.most, spared.3);
      sum = omega (arith, sums, all, zero_mark, one_can, are.sum, are.most, spared.3);
      rest = λ c some. each a lost others spare n left marks are mark (λ i. IsBeside a lost i) (λ i. are.rest i (omega (arith, some, spared.3)))
          (λ marked. absurd (true≢false (sym marked ∙ spared.2))) c;
    }

-- ---- all of them

-- the good shares but the lost one
module _ (lost : ℕ) (good : List Bool) (within : lost < length good) where
  abbrev rest_of : List Bool
  rest_of = set good lost false

  lost_not : helps rest_of lost ≡ false
  lost_not = get_or-set_same good lost false false within

  not_lost : (c : ℕ) → helps rest_of c ≡ true → c ≢ lost
  not_lost c can same =
      let Q : ℕ → Type 0 = λ i. helps rest_of i ≡ true in
      true≢false (sym (subst Q same can) ∙ lost_not)

  still : (c : ℕ) → c ≢ lost → helps rest_of c ≡ helps good c
  still c other = get_or-set_other good lost c false false other

  were_good : AreAmong rest_of good
  were_good c can = sym (still c (not_lost c can)) ∙ can

module _ (a : AloofShape) (lost : ℕ) (good marks : List Bool) (spare left : ℕ) (within : lost < length good)
    (saved : spare ≡ count_below (all_chunks a) (helps (set good lost false)) - a.helper_count) (are : AreMarked a lost (set good lost false) spare (all_chunks a) left marks)
    (hs : List Bool) (helpers : AreHelpers a lost hs) (among : AreAmong hs good) where
  abbrev n : ℕ
  n = all_chunks a

  abbrev others : List Bool
  others = set good lost false

  can : (c : ℕ) → helps hs c ≡ true → helps others c ≡ true
  can c marked =
      let other : c ≢ lost = λ same.
      let Q : ℕ → Type 0 = λ i. helps hs i ≡ true in
      true≢false (sym (subst Q same marked) ∙ helpers.none) in
      still lost good within c other ∙ among c marked

  enough : a.helper_count ≤ count_below n (helps others)
  enough =
      let most : count_below n (helps hs) ≤ count_below n (helps others) = count_most n (helps hs) (helps others) (λ i h. can i) in
      omega (arith, most, helpers.helpers)

  -- those of the column are among any helpers
  few : 0 < left → count_below n (helps marks) ≤ a.helper_count
  few some =
      let most : count_below n (helps marks) ≤ count_below n (helps hs) =
      count_most n (helps marks) (helps hs) (λ i h marked.
      helpers.column i h (not_lost lost good within i (are.only i marked)) (are.rest i some marked)) in
      omega (arith, most, helpers.helpers)

  none_left : left ≡ 0
  none_left = elim (cases_lt 0 left) [
    | inl some ↦
        let fewer : count_below n (helps marks) ≤ a.helper_count = few some in
        absurd (omega (arith, some, fewer, enough, saved, are.sum, are.most))
    | inr none ↦ omega (arith, none)
  ]

  marked : AreHelpers a lost marks
  marked = record {
    count = are.size;
    none = elim (cases_Bool (helps marks lost)) [
      | inl there ↦ absurd (true≢false (sym (are.only lost there) ∙ lost_not lost good within))
      | inr not_there ↦ not_there
    ];
    helpers = omega (arith, none_left, enough, saved, are.sum);
    column = λ c less other beside. are.column c less (can c (helpers.column c less other beside)) beside;
  }

pub no_choice : (a : AloofShape) (lost : ℕ) (good rest marks : List Bool) (spare left : ℕ) → AreMarked a lost rest spare (all_chunks a) left marks →
    (first : List Bool) (count : ℕ) → lost < length good → length good ≡ all_chunks a → rest ≡ set good lost false → first ≡ set good lost false →
    count ≡ count_below (length first) (helps first) → spare ≡ count - a.helper_count → (AreHelpers a lost marks → ⊥) → IsChoice a lost good None
no_choice a lost good rest marks spare left are first count within long but same counted saved not_these = λ hs helpers among.
    let size : length first ≡ all_chunks a = ap (λ (l : List Bool). length l) same ∙ length-set good lost false ∙ long in
    let all : count ≡ count_below (all_chunks a) (helps (set good lost false)) =
    counted ∙ ap (λ n. count_below n (helps first)) size ∙ ap (λ (l : List Bool). count_below (all_chunks a) (helps l)) same in
    let P : List Bool → Type 0 = λ l. AreMarked a lost l spare (all_chunks a) left marks in
    not_these (marked a lost good marks spare left within (saved ∙ ap (λ n. n - a.helper_count) all) (subst P but are) hs helpers among)
