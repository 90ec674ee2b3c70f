-- Words have a command's form where they are its name and its numbers.
use Rattle.std.proofs.Common.{◌≡◌, ℕ, ◌+◌, ◌<◌, ◌≤◌, ◌-◌, inl, inr, suc, List, [], ◌∷◌, length, get_or, take, drop, All, refl, sym, ap, subst, ◌∙◌, arith}
use Rattle.std.specs.Prelude.{◌↔◌, map}
use Rattle.std.proofs.Math.Seq.{take-length}
use Rattle.std.specs.List.{AllByRecursion}
use Rattle.std.proofs.lemmas.Bool.{cases_lt}
use Rattle.std.proofs.lemmas.List.{get_or_default}
use Rattle.std.proofs.lemmas.List.Elements.{All-cons, All-head, All-nil, All-tail}
use Rattle.line_grammar.specs.Numbers.{IsNumberWord}
use Rattle.clay_words.specs.Names.{ids_of, word_of}
use Rattle.clay_words.specs.Spelled.{IsSpelled}
use Rattle.clay_words.specs.declared.word_names.Name.{Name}

module _ {W : Type 0} (bytes : W → List ℕ) where
  pub to_recursion : (words : List W) → All (λ word. IsNumberWord (bytes word)) words → AllByRecursion IsNumberWord (map bytes words)
  to_recursion [] all = tt
  to_recursion (w ∷ ws) all = (All-head (λ word. IsNumberWord (bytes word)) w ws all, to_recursion ws (All-tail (λ word. IsNumberWord (bytes word)) w ws all))

  pub from_recursion : (words : List W) → AllByRecursion IsNumberWord (map bytes words) → All (λ word. IsNumberWord (bytes word)) words
  from_recursion [] all = All-nil (λ word. IsNumberWord (bytes word))
  from_recursion (w ∷ ws) all = All-cons (λ word. IsNumberWord (bytes word)) w ws all.0 (from_recursion ws all.1)

  length_mapped : (words : List W) → length (map bytes words) ≡ length words
  length_mapped [] = refl
  length_mapped (w ∷ ws) = ap suc (length_mapped ws)

  all_behind : (word : W) (words : List W) → take (length (word ∷ words) - 1) words ≡ words
  all_behind word words = let e : length (word ∷ words) - 1 ≡ length words = omega arith in rw e (take-length words)

  -- the words begin with this one, which is the command's name, and as many follow as it has numbers
  pub spelled_there : (words : List W) (word : W) (name : Name) (Q : Type 0) → 1 ≤ length words → word ≡ get_or words 0 word → bytes word ≡ word_of name
      → length (take (length words - 1) (drop 1 words)) ≡ length (ids_of name)
      → Q ↔ All (λ one. IsNumberWord (bytes one)) (take (length words - 1) (drop 1 words)) → Q ↔ IsSpelled (map bytes words)
  spelled_there [] word name Q some is named long all = absurd (omega (arith, some))
  spelled_there (w ∷ ws) word name Q some is named long all =
      let first : bytes w ≡ word_of name = ap bytes (sym is) ∙ named in
      let rest : take (length (w ∷ ws) - 1) ws ≡ ws = all_behind w ws in
      let P : List W → Type 0 = λ list. All (λ one. IsNumberWord (bytes one)) list in
      let many : length ws ≡ length (ids_of name) = ap length (sym rest) ∙ long in (
        (λ q. (name, first, (length_mapped ws ∙ many, to_recursion ws (subst P rest (all.0 q))))),
        (λ spelled. all.1 (subst P (sym rest) (from_recursion ws spelled.2.1))),
      )

-- a fact of the words before a place and of the one there
pub one_more : {W : Type 0} (P : W → Type 0) (words : List W) (i : ℕ) (word : W) → word ≡ get_or words i word → i < length words → P word
    → ((k : ℕ) (d : W) → k < i → P (get_or words k d)) → (k : ℕ) (d : W) → k < i + 1 → P (get_or words k d)
one_more P words i word is within here before k d small =
    elim (cases_lt k i) [
      | inl less ↦ before k d less
      | inr more ↦
          let same : k ≡ i = omega (arith, small, more) in
          let there : word ≡ get_or words k d = is ∙ get_or_default words i word d within ∙ ap (λ n. get_or words n d) (sym same) in
          subst P there here
    ]
