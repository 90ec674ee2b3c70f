-- The commands' names differ.
use Rattle.std.proofs.Common.{◌≡◌, ◌≢◌, ℕ, ◌<◌, ◌≤◌, List, [], ◌∷◌, get_or, refl, sym, ap, ◌∙◌, arith, codes}
use Rattle.std.specs.Prelude.{Bool, true, false, ◌&&◌, if◌then◌else◌}
use Rattle.std.specs.Str.{bytes_eq}
use Rattle.std.proofs.lemmas.Bool.{eq-eqb}
use Rattle.clay_words.specs.Names.{all_names, word_of}
use Rattle.clay_words.specs.declared.word_names.Name.{Name}
use Rattle.clay_words.specs.declared.word_names.Name.TheVariants.{Play, Run, Verify, Chunks, Recover, Generate, Trial, AloofChunks, AloofRepair}

name_at : List ℕ → Name
name_at word =
    if bytes_eq word (codes "run") then Run
    else if bytes_eq word (codes "verify") then Verify
    else if bytes_eq word (codes "chunks") then Chunks
    else if bytes_eq word (codes "recover") then Recover
    else if bytes_eq word (codes "gen") then Generate
    else if bytes_eq word (codes "trial") then Trial
    else if bytes_eq word (codes "chunksd") then AloofChunks
    else if bytes_eq word (codes "repaird") then AloofRepair
    else Play

back : (name : Name) → name_at (word_of name) ≡ name
unfolding name_at
back Play = refl
back Run = refl
back Verify = refl
back Chunks = refl
back Recover = refl
back Generate = refl
back Trial = refl
back AloofChunks = refl
back AloofRepair = refl

pub same_name : (word : List ℕ) (one other : Name) → word ≡ word_of one → word ≡ word_of other → one ≡ other
same_name word one other is also = sym (back one) ∙ ap name_at (sym is ∙ also) ∙ back other

-- a word that is none of them, from the first to the last
no_name : (word : List ℕ) → ((k : ℕ) → k < 9 → word ≢ word_of (get_or all_names k Play)) → (name : Name) → word ≢ word_of name
no_name word none Play = none 0 (omega arith)
no_name word none Run = none 1 (omega arith)
no_name word none Verify = none 2 (omega arith)
no_name word none Chunks = none 3 (omega arith)
no_name word none Recover = none 4 (omega arith)
no_name word none Generate = none 5 (omega arith)
no_name word none Trial = none 6 (omega arith)
no_name word none AloofChunks = none 7 (omega arith)
no_name word none AloofRepair = none 8 (omega arith)

pub all_looked_at : (word : List ℕ) (i : ℕ) → 9 ≤ i → ((k : ℕ) → k < i → word ≢ word_of (get_or all_names k Play)) → (name : Name) → word ≢ word_of name
all_looked_at word i over none = no_name word (λ k small. none k (omega (arith, small, over)))

same_bytes : (xs : List ℕ) → bytes_eq xs xs ≡ true
same_bytes [] = refl
same_bytes (x ∷ xs) = ap (λ (b : Bool). b && bytes_eq xs xs) (eq-eqb x x refl) ∙ same_bytes xs

-- a word that is tested and isn't the same
pub not_same : (word other : List ℕ) → false ≡ bytes_eq word other → word ≢ other
not_same word other test same = let bad : false ≡ true = test ∙ ap (bytes_eq word) (sym same) ∙ same_bytes word in cc
