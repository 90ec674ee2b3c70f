-- The steps of a search for the first fault.
use Rattle.std.proofs.Common.{◌≡◌, ℕ, ◌+◌, ◌<◌, ◌≤◌, List, [], ◌∷◌, ◌++◌, length, get_or, take, drop, refl, sym, ap, ◌∙◌, Option, None, Some}
use Rattle.std.specs.Prelude.{reverse}
use Rattle.std.specs.Option.{option_or}
use Rattle.std.proofs.lemmas.List.{at_drop_more, at_drop_all, take_more, reverse-append}
use Rattle.hist_rules.specs.First.{first_fault, first_fault_after}
use Rattle.hist_rules.specs.declared.verdict.Verdict.{Verdict}

-- ---- of each line by itself

pub line_fits : {Line : Type 0} (rule : Line → Option Verdict) (lines : List Line) (i : ℕ) (d : Line) (whole : Option Verdict)
    → first_fault rule (drop i lines) ≡ whole → i < length lines → rule (get_or lines i d) ≡ None → first_fault rule (drop (i + 1) lines) ≡ whole
line_fits rule lines i d whole so_far within none =
    let next : first_fault rule (drop i lines) ≡ option_or (rule (get_or lines i d)) (first_fault rule (drop (i + 1) lines)) = at_drop_more (first_fault rule) lines i d within in
    sym (next ∙ ap (λ (found : Option Verdict). option_or found (first_fault rule (drop (i + 1) lines))) none) ∙ so_far

pub line_found : {Line : Type 0} (rule : Line → Option Verdict) (lines : List Line) (i : ℕ) (d : Line) (whole : Option Verdict) (fault : Verdict)
    → first_fault rule (drop i lines) ≡ whole → i < length lines → rule (get_or lines i d) ≡ Some fault → Some fault ≡ whole
line_found rule lines i d whole fault so_far within some =
    let next : first_fault rule (drop i lines) ≡ option_or (rule (get_or lines i d)) (first_fault rule (drop (i + 1) lines)) = at_drop_more (first_fault rule) lines i d within in
    sym (next ∙ ap (λ (found : Option Verdict). option_or found (first_fault rule (drop (i + 1) lines))) some) ∙ so_far

pub no_fault : {Line : Type 0} (rule : Line → Option Verdict) (lines : List Line) (i : ℕ) (whole : Option Verdict)
    → first_fault rule (drop i lines) ≡ whole → length lines ≤ i → None ≡ whole
no_fault rule lines i whole so_far past = sym (at_drop_all (first_fault rule) lines i past) ∙ so_far

-- ---- of each line after those before it

pub before_more : {Line : Type 0} (lines : List Line) (i : ℕ) (d : Line) → i < length lines → reverse (take (i + 1) lines) ≡ get_or lines i d ∷ reverse (take i lines)
before_more lines i d within =
    ap reverse (take_more lines i d within) ∙ reverse-append (take i lines) (get_or lines i d ∷ [])

pub after_fits : {Line : Type 0} (rule : List Line → Line → Option Verdict) (lines : List Line) (i : ℕ) (d : Line) (whole : Option Verdict)
    → first_fault_after rule (reverse (take i lines)) (drop i lines) ≡ whole → i < length lines → rule (reverse (take i lines)) (get_or lines i d) ≡ None
    → first_fault_after rule (reverse (take (i + 1) lines)) (drop (i + 1) lines) ≡ whole
after_fits rule lines i d whole so_far within none =
    let next : first_fault_after rule (reverse (take i lines)) (drop i lines) ≡ option_or (rule (reverse (take i lines)) (get_or lines i d)) (first_fault_after rule (get_or lines i d ∷ reverse (take i lines)) (drop (i + 1) lines)) =
    at_drop_more (first_fault_after rule (reverse (take i lines))) lines i d within in
    ap (λ (before : List _). first_fault_after rule before (drop (i + 1) lines)) (before_more lines i d within)
    ∙ sym (next ∙ ap (λ (found : Option Verdict). option_or found (first_fault_after rule (get_or lines i d ∷ reverse (take i lines)) (drop (i + 1) lines))) none) ∙ so_far

pub after_found : {Line : Type 0} (rule : List Line → Line → Option Verdict) (lines : List Line) (i : ℕ) (d : Line) (whole : Option Verdict) (fault : Verdict)
    → first_fault_after rule (reverse (take i lines)) (drop i lines) ≡ whole → i < length lines → rule (reverse (take i lines)) (get_or lines i d) ≡ Some fault → Some fault ≡ whole
after_found rule lines i d whole fault so_far within some =
    let next : first_fault_after rule (reverse (take i lines)) (drop i lines) ≡ option_or (rule (reverse (take i lines)) (get_or lines i d)) (first_fault_after rule (get_or lines i d ∷ reverse (take i lines)) (drop (i + 1) lines)) =
    at_drop_more (first_fault_after rule (reverse (take i lines))) lines i d within in
    sym (next ∙ ap (λ (found : Option Verdict). option_or found (first_fault_after rule (get_or lines i d ∷ reverse (take i lines)) (drop (i + 1) lines))) some) ∙ so_far

pub none_after : {Line : Type 0} (rule : List Line → Line → Option Verdict) (lines : List Line) (i : ℕ) (whole : Option Verdict)
    → first_fault_after rule (reverse (take i lines)) (drop i lines) ≡ whole → length lines ≤ i → None ≡ whole
none_after rule lines i whole so_far past = sym (at_drop_all (first_fault_after rule (reverse (take i lines))) lines i past) ∙ so_far

-- ---- the same of lines that are read as items, which own memory

pub item_fits : {Line : Type 0} (rule : Line → Option Verdict) (lines : List Line) (i : ℕ) (item : Line) (whole : Option Verdict)
    → first_fault rule (drop i lines) ≡ whole → i < length lines → item ≡ get_or lines i item → rule item ≡ None → first_fault rule (drop (i + 1) lines) ≡ whole
item_fits rule lines i item whole so_far within is none = line_fits rule lines i item whole so_far within (sym (ap rule is) ∙ none)

pub item_found : {Line : Type 0} (rule : Line → Option Verdict) (lines : List Line) (i : ℕ) (item : Line) (whole : Option Verdict) (fault : Verdict)
    → first_fault rule (drop i lines) ≡ whole → i < length lines → item ≡ get_or lines i item → rule item ≡ Some fault → Some fault ≡ whole
item_found rule lines i item whole fault so_far within is some = line_found rule lines i item whole fault so_far within (sym (ap rule is) ∙ some)

pub after_item_fits : {Line : Type 0} (rule : List Line → Line → Option Verdict) (lines : List Line) (i : ℕ) (item : Line) (whole : Option Verdict)
    → first_fault_after rule (reverse (take i lines)) (drop i lines) ≡ whole → i < length lines → item ≡ get_or lines i item → rule (reverse (take i lines)) item ≡ None
    → first_fault_after rule (reverse (take (i + 1) lines)) (drop (i + 1) lines) ≡ whole
after_item_fits rule lines i item whole so_far within is none = after_fits rule lines i item whole so_far within (sym (ap (rule (reverse (take i lines))) is) ∙ none)

pub after_item_found : {Line : Type 0} (rule : List Line → Line → Option Verdict) (lines : List Line) (i : ℕ) (item : Line) (whole : Option Verdict) (fault : Verdict)
    → first_fault_after rule (reverse (take i lines)) (drop i lines) ≡ whole → i < length lines → item ≡ get_or lines i item → rule (reverse (take i lines)) item ≡ Some fault
    → Some fault ≡ whole
after_item_found rule lines i item whole fault so_far within is some =
    after_found rule lines i item whole fault so_far within (sym (ap (rule (reverse (take i lines))) is) ∙ some)

-- ---- over lists in a row

pub first_fault-append : {Line : Type 0} (rule : Line → Option Verdict) (lines others : List Line)
    → first_fault rule (lines ++ others) ≡ option_or (first_fault rule lines) (first_fault rule others)
first_fault-append rule [] others = refl
first_fault-append rule (line ∷ lines) others =
    ap (λ (found : Option Verdict). option_or (rule line) found) (first_fault-append rule lines others) ∙ or_assoc (rule line) (first_fault rule lines) (first_fault rule others)
  where
    or_assoc : (one other third : Option Verdict) → option_or one (option_or other third) ≡ option_or (option_or one other) third
    or_assoc None other third = refl
    or_assoc (Some fault) other third = refl

-- ---- of two tests

pub or_first : (one other : Option Verdict) (fault : Verdict) → one ≡ Some fault → option_or one other ≡ Some fault
or_first one other fault some = ap (λ (found : Option Verdict). option_or found other) some

pub or_second : (one other found : Option Verdict) → one ≡ None → other ≡ found → option_or one other ≡ found
or_second one other found none is = ap (λ (first : Option Verdict). option_or first other) none ∙ is
