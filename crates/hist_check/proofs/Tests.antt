-- The first of several tests that finds a fault.
use Rattle.std.proofs.Common.{◌≡◌, ℕ, zero, suc, List, [], ◌∷◌, ◌++◌, get_or, take, refl, sym, ap, ◌∙◌, true≢false}
use Rattle.std.specs.Prelude.{Option, None, Some, ⊤}
use Rattle.std.specs.Option.{option_or, is_some}
use Rattle.hist_rules.specs.First.{first_of}
use Rattle.hist_rules.specs.declared.verdict.Verdict.{Verdict}

-- none of them finds one
abbrev pub FindNone : List (Option Verdict) → Type 0
FindNone [] = ⊤
FindNone (test ∷ tests) = (test ≡ None) × FindNone tests

pub found_at : (tests : List (Option Verdict)) (k : ℕ) (fault : Verdict) → FindNone (take k tests) → get_or tests k None ≡ Some fault → Some fault ≡ first_of tests
found_at [] k fault before here = absurd (true≢false (sym (ap is_some here)))
found_at (test ∷ tests) zero fault before here = sym (ap (λ (found : Option Verdict). option_or found (first_of tests)) here)
found_at (test ∷ tests) (suc k) fault before here =
    found_at tests k fault before.1 here ∙ sym (ap (λ (found : Option Verdict). option_or found (first_of tests)) before.0)

-- the last of them decides, where the others find none
pub last_decides : (tests : List (Option Verdict)) (last : Option Verdict) → FindNone tests → last ≡ first_of (tests ++ last ∷ [])
last_decides [] None none = refl
last_decides [] (Some fault) none = refl
last_decides (test ∷ tests) last none =
    last_decides tests last none.1 ∙ sym (ap (λ (found : Option Verdict). option_or found (first_of (tests ++ last ∷ []))) none.0)

or_assoc : (one other third : Option Verdict) → option_or one (option_or other third) ≡ option_or (option_or one other) third
or_assoc None other third = refl
or_assoc (Some fault) other third = refl

-- tests in a row
append_tests : (tests others : List (Option Verdict)) → first_of (tests ++ others) ≡ option_or (first_of tests) (first_of others)
append_tests [] others = refl
append_tests (test ∷ tests) others =
    ap (λ (found : Option Verdict). option_or test found) (append_tests tests others) ∙ or_assoc test (first_of tests) (first_of others)

pub found_behind : (tests others : List (Option Verdict)) (found : Option Verdict) → None ≡ first_of tests → found ≡ first_of others → found ≡ first_of (tests ++ others)
found_behind tests others found none is = is ∙ sym (append_tests tests others ∙ ap (λ (first : Option Verdict). option_or first (first_of others)) (sym none))
