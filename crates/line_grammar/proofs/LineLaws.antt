-- Laws on texts that are parted at a byte.
use Rattle.std.proofs.Common.{◌≡◌, ◌≢◌, ℕ, suc, ◌<◌, ◌≤◌, true, false, List, [], ◌∷◌, ◌++◌, length, take, get_or, refl, sym, ◌∙◌, arith, eq-eqb, length-take, Bool, not, subst, append_assoc}
use Rattle.std.proofs.lemmas.List.{get_or-take}
use Rattle.std.proofs.lemmas.Bool.{and_parts}
use Rattle.std.specs.Prelude.{◌==◌}
use Rattle.line_grammar.specs.Lines.{Lacks, spaced, line}
use Rattle.std.specs.List.{list_all}

-- what no place has
pub Lacks-from_reads : (byte : ℕ) (bs : List ℕ) → ((k : ℕ) → k < length bs → get_or bs k 0 ≢ byte) → Lacks byte bs
Lacks-from_reads byte [] h = tt
Lacks-from_reads byte (b ∷ bs) h =
    (h 0 (omega arith), Lacks-from_reads byte bs (λ k lt. h (suc k) (omega arith)))

-- two texts without the byte
pub Lacks-append : (byte : ℕ) (bs cs : List ℕ) → Lacks byte bs → Lacks byte cs → Lacks byte (bs ++ cs)
Lacks-append byte [] cs p q = q
Lacks-append byte (b ∷ bs) cs p q = (p.0, Lacks-append byte bs cs p.1 q)

-- a text that lacks the byte isn't parted by it
pub never_parted : (byte : ℕ) (bs cs : List ℕ) → Lacks byte (bs ++ byte ∷ cs) → ⊥
never_parted byte [] cs h = h.0 refl
never_parted byte (b ∷ bs) cs h = never_parted byte bs cs h.1

-- the parts before and behind the first such byte are determined
pub same_parts : (byte : ℕ) (bs cs xs ys : List ℕ) → Lacks byte bs → Lacks byte xs → bs ++ byte ∷ cs ≡ xs ++ byte ∷ ys
    → (bs ≡ xs) × (cs ≡ ys)
same_parts byte [] cs [] ys p q e = (refl, cc)
same_parts byte [] cs (x ∷ xs) ys p q e = let h : x ≡ byte = cc in absurd (q.0 h)
same_parts byte (b ∷ bs) cs [] ys p q e = let h : b ≡ byte = cc in absurd (p.0 h)
same_parts byte (b ∷ bs) cs (x ∷ xs) ys p q e =
    let heads : b ≡ x = cc in
    let tails : bs ++ byte ∷ cs ≡ xs ++ byte ∷ ys = cc in
    let rest = same_parts byte bs cs xs ys p.1 q.1 tails in
    (cc (rest.0), rest.1)

-- what a search for the byte shows
pub Lacks-from_tests : (byte : ℕ) (bs : List ℕ) → ((k : ℕ) → k < length bs → (get_or bs k 0 == byte) ≡ true → ⊥) → Lacks byte bs
Lacks-from_tests byte bs h = Lacks-from_reads byte bs (λ k lt e. h k lt (eq-eqb (get_or bs k 0) byte e))

-- before the first such byte none stands
pub Lacks-before : (byte : ℕ) (bs : List ℕ) (at : ℕ) → at ≤ length bs → ((k : ℕ) → k < at → (get_or bs k 0 == byte) ≡ true → ⊥) → Lacks byte (take at bs)
Lacks-before byte bs at le h =
    Lacks-from_reads byte (take at bs) (λ k lt e.
    let below : k < at = omega (arith, length-take at bs) in
    h k below (eq-eqb (get_or bs k 0) byte (sym (get_or-take at bs k 0 below) ∙ e)))

-- bytes that pass a test that a byte fails
pub Lacks-from_test : (p : ℕ → Bool) (byte : ℕ) → p byte ≡ false → (bs : List ℕ) → list_all p bs ≡ true → Lacks byte bs
Lacks-from_test p byte fails [] h = tt
Lacks-from_test p byte fails (b ∷ bs) h =
    let parts = and_parts (p b) (list_all p bs) h in
    (λ same. let was : p byte ≡ true = subst (λ (x : ℕ). p x ≡ true) same parts.0 in cc, Lacks-from_test p byte fails bs parts.1)

-- a test of the bytes of a literal
pub Lacks-literal : (byte : ℕ) (bs : List ℕ) → list_all (λ b. not (b == byte)) bs ≡ true → Lacks byte bs
Lacks-literal byte bs h = Lacks-from_test (λ b. not (b == byte)) byte (not_itself byte) bs h
  where
    not_itself : (b : ℕ) → not (b == b) ≡ false
    not_itself b = grind arith

-- a line at the front of a text
pub line_front : (words : List (List ℕ)) (rest : List ℕ) → line words ++ rest ≡ spaced words ++ 10 ∷ rest
line_front words rest = append_assoc (spaced words) (10 ∷ []) rest
