-- What trace_main and write_out say of a source and a sink, in the words of a call of the program.
use Rattle.std.proofs.Common.{◌≡◌, ◌≢◌, ◌⊎◌, inl, inr, ℕ, Bool, true, false, ◌==◌, Option, List, [], ◌∷◌, length, map, refl, sym, ap, ◌∙◌, append-nil, arith}
use Rattle.std.proofs.lemmas.Bool.{eqb-true, true≢false}
use Rattle.clay_bytes.specs.Stream.{Accepts, AcceptsPrefix}
use Rattle.clay_cli.specs.Top.{IsSilent}
use Rattle.clay_cli.specs.Serves.{TakesPart}
use Rattle.clay_cli.specs.declared.status.Status.{Status}
use Rattle.clay_cli.specs.declared.status.Status.TheVariants.{Usage, WriteFault}
use Rattle.trace_run.specs.Top.{IsOfInput}
use Rattle.trace_run.specs.Serves.{GivesUsage, Serves, usage_line}

-- no word stands behind the program's name, or one does
pub no_words : {A B : Type 0} (f : A → B) (words : List A) → (length words == 0) ≡ true → map f words ≡ []
no_words f [] e = refl
no_words f (word ∷ words) e = let none : length (word ∷ words) ≡ 0 = eqb-true (length (word ∷ words)) 0 e in absurd (omega (arith, none))

pub some_words : {A B : Type 0} (f : A → B) (words : List A) → (length words == 0) ≡ false → map f words ≡ [] → ⊥
some_words f [] e same = true≢false e
some_words f (word ∷ words) e same = let h : length (f word ∷ map f words) ≡ 0 = ap length same in absurd (omega (arith, h))

-- the statuses with which the usage line, or a part of it, is written
abbrev is_usage : Status → Bool
is_usage Usage = true
is_usage WriteFault = true
is_usage _ = false

of_usage : (s : Status) → (s ≡ Usage) ⊎ (s ≡ WriteFault) → is_usage s ≡ true
of_usage s (inl usage) = ap is_usage usage
of_usage s (inr failed) = ap is_usage failed

of_input : (s : Status) → IsOfInput s → is_usage s ≡ false
of_input s (inl done) = ap is_usage done
of_input s (inr refused) = ap is_usage refused

of_silence : (s : Status) → IsSilent s → is_usage s ≡ false
of_silence s (inl too_long) = ap is_usage too_long
of_silence s (inr (inl fault)) = ap is_usage fault
of_silence s (inr (inr memory)) = ap is_usage memory

apart : (s : Status) → is_usage s ≡ true → is_usage s ≡ false → ⊥
apart s is not = true≢false (sym is ∙ not)

pub nothing_taken : (accepted then : List ℕ) (written new : Option (List ℕ)) → Accepts accepted written [] then new → then ≡ accepted
nothing_taken accepted then written new h = h.0 ∙ append-nil accepted

pub part_taken : (accepted bytes then : List ℕ) (written new : Option (List ℕ)) → AcceptsPrefix accepted written bytes then new → TakesPart accepted bytes then
part_taken accepted bytes then written new h = (h.0, h.1, h.2.0)

usage_is_no_fault : Usage ≡ WriteFault → ⊥
usage_is_no_fault same = let h : Usage ≡ WriteFault = same in cc

gives_usage : (status : Status) (accepted then : List ℕ) (written new : Option (List ℕ)) → (status ≡ Usage) ⊎ (status ≡ WriteFault)
    → ((status ≡ WriteFault → ⊥) → Accepts accepted written usage_line then new)
    → (status ≡ WriteFault → Usage ≢ WriteFault → AcceptsPrefix accepted written usage_line then new)
    → GivesUsage status accepted then
gives_usage status accepted then written new (inl usage) whole part = inl (usage, (whole (λ failed. usage_is_no_fault (sym usage ∙ failed))).0)
gives_usage status accepted then written new (inr failed) whole part =
    inr (failed, part_taken accepted usage_line then written new (part failed usage_is_no_fault))

-- the usage line was written, and nothing read
pub serves_usage : (words : List (List ℕ)) (status : Status) (given : List ℕ) (ended : Bool) (accepted then : List ℕ) (written new : Option (List ℕ))
    → (words ≡ [] → ⊥) → (status ≡ Usage) ⊎ (status ≡ WriteFault)
    → ((status ≡ WriteFault → ⊥) → Accepts accepted written usage_line then new)
    → (status ≡ WriteFault → Usage ≢ WriteFault → AcceptsPrefix accepted written usage_line then new)
    → Serves words status given given ended accepted then
serves_usage words status given ended accepted then written new some which whole part = record {
  usage = λ _. (refl, gives_usage status accepted then written new which whole part);
  traces = λ none. absurd (some none);
  output = λ has. absurd (apart status (of_usage status which) (of_input status has));
  part = λ failed none. absurd (some none);
  silent = λ is. absurd (apart status (of_usage status which) (of_silence status is));
  long = λ long. absurd (apart status (of_usage status which) (ap is_usage long));
  most = λ _. ([], omega arith, sym (append-nil given));
}
