-- What happened in a trace stays so when more is made; and what is counted in it.
use Rattle.std.proofs.Common.{◌≡◌, ◌⊎◌, inl, inr, ◌+◌, List, [], ◌∷◌, ◌++◌, length, refl, sym, ap, subst, ◌∙◌, arith, length-append}
use Rattle.std.proofs.lemmas.List.{append_assoc}
use Rattle.history_laws.specs.Trace.{Made}
use Rattle.history_laws.specs.Moments.{Happened}

module _ (Is : List Made → Made → Type 0) where
  -- at the last moment
  pub last : (trace : List Made) (made : Made) → Is trace made → Happened (trace ++ made ∷ []) Is
  last trace made is = record { before = trace; made = made; after = []; split = refl; is = is }

  -- when more is made
  pub on : (trace more : List Made) → Happened trace Is → Happened (trace ++ more) Is
  on trace more h =
      record { before = h.before; made = h.made; after = h.after ++ more; split = ap (λ (l : List Made). l ++ more) h.split ∙ append_assoc h.before (h.made ∷ h.after) more; is = h.is }

  -- where less is said
  pub weaker : (Less : List Made → Made → Type 0) → ((before : List Made) (made : Made) → Is before made → Less before made) → (trace : List Made) → Happened trace Is → Happened trace Less
  weaker Less less trace h = record { before = h.before; made = h.made; after = h.after; split = h.split; is = less h.before h.made h.is }

-- ---- what happened happened before the last step, or is the last step
abbrev rest_of : List Made → List Made
rest_of [] = []
rest_of (x ∷ xs) = xs

abbrev first_or : Made → List Made → Made
first_or d [] = d
first_or d (x ∷ xs) = x

pub never_empty : (xs : List Made) (m : Made) (ys : List Made) → [] ≡ xs ++ m ∷ ys → ⊥
never_empty xs m ys e = absurd (let size : 0 ≡ length xs + length (m ∷ ys) = ap (λ (l : List Made). length l) e ∙ length-append xs (m ∷ ys) in omega (arith, size))

pub last_or_not : (trace : List Made) (made : Made) (before : List Made) (m : Made) (after : List Made) → trace ++ made ∷ [] ≡ before ++ m ∷ after
    → ((before ≡ trace) × (m ≡ made)) ⊎ ((rest : List Made) × (trace ≡ before ++ m ∷ rest))
last_or_not [] made [] m after e = inl (refl, sym (ap (first_or made) e))
last_or_not [] made (b ∷ before) m after e = absurd (never_empty before m after (ap rest_of e))
last_or_not (t ∷ trace) made [] m after e = inr (trace, (λ i. ap (first_or t) e i ∷ trace))
last_or_not (t ∷ trace) made (b ∷ before) m after e = by (last_or_not trace made before m after (ap rest_of e))
  where
    same : b ≡ t
    same = sym (ap (first_or t) e)

    by : ((before ≡ trace) × (m ≡ made)) ⊎ ((rest : List Made) × (trace ≡ before ++ m ∷ rest)) → ((b ∷ before ≡ t ∷ trace) × (m ≡ made)) ⊎ ((rest : List Made) × (t ∷ trace ≡ (b ∷ before) ++ m ∷ rest))
    by (inl h) = inl ((λ i. same i ∷ h.0 i), h.1)
    by (inr h) = inr (h.0, (λ i. sym same i ∷ h.1 i))

-- what the last step isn't happened before
pub not_last : (Is : List Made → Made → Type 0) (trace : List Made) (made : Made) → (Is trace made → ⊥) → Happened (trace ++ made ∷ []) Is → Happened trace Is
not_last Is trace made never h = by (last_or_not trace made h.before h.made h.after h.split)
  where
    by : ((h.before ≡ trace) × (h.made ≡ made)) ⊎ ((rest : List Made) × (trace ≡ h.before ++ h.made ∷ rest)) → Happened trace Is
    by (inl same) = absurd (never (subst (λ m. Is trace m) same.1 (subst (λ b. Is b h.made) same.0 h.is)))
    by (inr earlier) = record { before = h.before; made = h.made; after = earlier.0; split = earlier.1; is = h.is }
