-- What a test of the checker says: it has no fault just where a fact holds.
-- Each rule is a test with Judges test P: no fault exactly where P holds. So Legal is IsHistory by one lemma a rule, without a word on
-- the order of rules.
use Rattle.std.proofs.Common.{◌≡◌, ◌≢◌, Bool, true, false, List, [], ◌∷◌, Option, None, Some, is_some, IfSome, All, refl, sym, ap, ◌∙◌, true≢false}
use Rattle.std.specs.Bool.{Decides, ⊤}
use Rattle.std.specs.Option.{option_or, unwrap_or}
use Rattle.std.proofs.lemmas.List.Elements.{All-nil, All-cons, All-head, All-tail}
use Rattle.hist_rules.specs.declared.verdict.Verdict.{Verdict}
use Rattle.hist_rules.specs.declared.verdict.Verdict.TheVariants.{Legal}
use Rattle.hist_rules.specs.First.{unless, first_fault, first_fault_after, AllAfter}

abbrev pub is_legal : Verdict → Bool
is_legal Legal = true
is_legal _ = false

-- a verdict that tells a fault isn't Legal
pub not_legal : (verdict : Verdict) → is_legal verdict ≡ false → verdict ≢ Legal
not_legal verdict e same = true≢false (sym (ap is_legal same) ∙ e)

-- a test has no fault just where P holds, and its fault isn't the verdict Legal
pub record Judges (test : Option Verdict) (P : Type 0) : Type 0 where
  pub none : test ≡ None → P
  pub clear : P → test ≡ None
  pub fault : IfSome test (λ verdict. is_legal verdict ≡ false)

-- a fault is none
pub is_fault : {Any : Type 0} {verdict : Verdict} → Some verdict ≡ None → Any
is_fault e = absurd (true≢false (ap is_some e))

pub none_judges : Judges None ⊤
none_judges = record { none = λ _. tt; clear = λ _. refl; fault = tt }

pub unless_judges : {P : Type 0} (holds : Bool) (verdict : Verdict) → is_legal verdict ≡ false → Decides holds P → Judges (unless holds verdict) P
unless_judges true verdict fault decides = record { none = λ _. decides.0 refl; clear = λ _. refl; fault = tt }
unless_judges false verdict fault decides = record { none = λ e. is_fault e; clear = λ p. absurd (true≢false (sym (decides.1 p))); fault = fault }

pub or_judges : {P Q : Type 0} (first second : Option Verdict) → Judges first P → Judges second Q → Judges (option_or first second) (P × Q)
or_judges None second one other = record { none = λ e. (one.none refl, other.none e); clear = λ h. other.clear h.1; fault = other.fault }
or_judges (Some verdict) second one other = record { none = λ e. is_fault e; clear = λ h. one.clear h.0; fault = one.fault }

pub like_judges : {P Q : Type 0} (test : Option Verdict) → (P → Q) → (Q → P) → Judges test P → Judges test Q
like_judges test there back one = record { none = λ e. there (one.none e); clear = λ q. one.clear (back q); fault = one.fault }

-- of each line
pub each_judges : {Line : Type 0} (rule : Line → Option Verdict) (P : Line → Type 0) → ((line : Line) → Judges (rule line) (P line)) → (lines : List Line) → Judges (first_fault rule lines) (All P lines)
each_judges rule P judges [] = record { none = λ _. All-nil P; clear = λ _. refl; fault = tt }
each_judges rule P judges (line ∷ lines) =
    like_judges (option_or (rule line) (first_fault rule lines)) (λ h. All-cons P line lines h.0 h.1) (λ h. (All-head P line lines h, All-tail P line lines h))
    (or_judges (rule line) (first_fault rule lines) (judges line) (each_judges rule P judges lines))

-- of each line, after the ones before it
pub after_judges : {Line : Type 0} (rule : List Line → Line → Option Verdict) (P : List Line → Line → Type 0) → ((before : List Line) (line : Line) → Judges (rule before line) (P before line))
    → (before lines : List Line) → Judges (first_fault_after rule before lines) (AllAfter P before lines)
after_judges rule P judges before [] = none_judges
after_judges rule P judges before (line ∷ lines) =
    or_judges (rule before line) (first_fault_after rule (line ∷ before) lines) (judges before line) (after_judges rule P judges (line ∷ before) lines)

-- of a verdict
pub verdict_judges : {P : Type 0} (test : Option Verdict) → Judges test P → unwrap_or test Legal ≡ Legal → P
verdict_judges None judges e = judges.none refl
verdict_judges (Some verdict) judges e = absurd (not_legal verdict judges.fault e)

pub verdict_clear : {P : Type 0} (test : Option Verdict) → Judges test P → P → unwrap_or test Legal ≡ Legal
verdict_clear test judges p = ap (λ found. unwrap_or found Legal) (judges.clear p)
