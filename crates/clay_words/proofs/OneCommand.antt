-- Words ask for one command at most: it is computed from them. So where they don't ask for that one, they ask for none.
use Rattle.std.proofs.Common.{◌≡◌, ℕ, ◌<◌, ◌≤◌, ◌^◌, List, [], ◌∷◌, get_or, refl, sym, ap, subst, ◌∙◌, arith, decimal, codes, inl, inr}
use Rattle.std.specs.Prelude.{if◌then◌else◌}
use Rattle.std.specs.Str.{bytes_eq}
use Rattle.std.specs.Str.Parse.{AllDigits, digits_value}
use Rattle.std.proofs.lemmas.Fmt.{digits_value-decimal}
use Rattle.std.proofs.lemmas.Str.Parse.{IsNumeralModel, numerals_by_value, tells_digits}
use Rattle.clay_grid.specs.Shape.{Shape, shape_of}
use Rattle.clay_aloof.specs.Shape.{AloofShape, all_chunks, aloof_of}
use Rattle.clay_words.specs.Words.{AreAloofWords, AreCodeWords, Asks, AsksNothing, IsAloofCode, IsCode, IsWithinBounds}
use Rattle.clay_words.specs.declared.numbers_of_words.Command.{Command}
use Rattle.clay_words.specs.declared.numbers_of_words.Command.TheVariants.{Generate, Trial, OfInput}
use Rattle.clay_words.specs.declared.numbers_of_words.Task.{Task}
use Rattle.clay_words.specs.declared.numbers_of_words.Task.TheVariants.{Play, Run, Verify, Chunks, Recover, AloofChunks, AloofRepair}
use Rattle.clay_words.proofs.WordLaws.{aloof_numbers, code_numbers, same_aloof, same_code}

own : IsNumeralModel (AllDigits 10) (digits_value 10)
own = numerals_by_value (AllDigits 10) tells_digits

abbrev value : List ℕ → ℕ
value word = digits_value 10 word

spelled : (word : List ℕ) (n : ℕ) → n < 2 ^ 64 → word ≡ decimal n → value word ≡ n
spelled word n small is = ap value is ∙ digits_value-decimal own n small

abbrev code_of : List ℕ → List ℕ → List ℕ → Shape
code_of k m w = shape_of (value k) (value m) (value w)

abbrev aloof_code_of : List ℕ → List ℕ → List ℕ → List ℕ → AloofShape
aloof_code_of k m d w = aloof_of (value k) (value m) (value d) (value w)

-- the command that words can ask for
unfoldable pub meant : List (List ℕ) → Command
meant (name ∷ []) = if bytes_eq name (codes "verify") then OfInput Verify else OfInput Play
meant (name ∷ workers ∷ []) = OfInput (Run (value workers))
meant (name ∷ start ∷ size ∷ []) = Generate (value start) (value size)
meant (name ∷ k ∷ m ∷ w ∷ []) =
    if bytes_eq name (codes "trial") then Trial (value k) (value m) (value w)
    else if bytes_eq name (codes "recover") then OfInput (Recover (code_of k m w))
    else OfInput (Chunks (code_of k m w))
meant (name ∷ k ∷ m ∷ d ∷ w ∷ []) = OfInput (AloofChunks (aloof_code_of k m d w))
meant (name ∷ k ∷ m ∷ d ∷ w ∷ lost ∷ []) = OfInput (AloofRepair (aloof_code_of k m d w) (value lost))
meant _ = OfInput Play

code_is : (g : Shape) (k m w : List ℕ) → IsCode g k m w → code_of k m w ≡ g
code_is g k m w code =
    let small = code_numbers g code.limits in
    let ke : value k ≡ g.data_count = spelled k g.data_count (omega (arith, small.0)) code.data_count in
    let me : value m ≡ g.parity_count = spelled m g.parity_count (omega (arith, small.1)) code.parity_count in
    let we : value w ≡ g.width = spelled w g.width (omega (arith, small.2)) code.width in
    (λ i. shape_of (ke i) (me i) (we i))

aloof_code_is : (a : AloofShape) (k m d w : List ℕ) → IsAloofCode a k m d w → aloof_code_of k m d w ≡ a
aloof_code_is a k m d w code =
    let small = aloof_numbers a code.limits in
    let ke : value k ≡ a.data_count = spelled k a.data_count (omega (arith, small.0)) code.data_count in
    let me : value m ≡ a.parity_count = spelled m a.parity_count (omega (arith, small.1)) code.parity_count in
    let de : value d ≡ a.helper_count = spelled d a.helper_count (omega (arith, small.2)) code.helper_count in
    let we : value w ≡ a.width = spelled w a.width (omega (arith, small.3)) code.width in
    (λ i. aloof_of (ke i) (me i) (de i) (we i))

means : (words : List (List ℕ)) (command : Command) → Asks words command → meant words ≡ command
unfolding meant
means words (OfInput Play) (inl is) = ap meant is
means words (OfInput Play) (inr is) = ap meant is
means words (OfInput (Run workers)) (is, (some, few)) = ap meant is ∙ ap (λ n. OfInput (Run n)) (spelled (decimal workers) workers (omega (arith, few)) refl)
means words (OfInput Verify) is = ap meant is
means words (OfInput (Chunks g)) asked =
    ap meant asked.words_are ∙ ap (λ (s : Shape). OfInput (Chunks s)) (code_is g asked.k asked.m asked.w asked.code)
means words (OfInput (Recover g)) asked =
    ap meant asked.words_are ∙ ap (λ (s : Shape). OfInput (Recover s)) (code_is g asked.k asked.m asked.w asked.code)
means words (OfInput (AloofChunks a)) asked =
    ap meant asked.words_are ∙ ap (λ (s : AloofShape). OfInput (AloofChunks s)) (aloof_code_is a asked.k asked.m asked.d asked.w asked.code)
means words (OfInput (AloofRepair a lost)) (asked, within) =
    let small = aloof_numbers a asked.code.limits in
    let code : aloof_code_of asked.k asked.m asked.d asked.w ≡ a = aloof_code_is a asked.k asked.m asked.d asked.w asked.code in
    let chunk : value (decimal lost) ≡ lost = digits_value-decimal own lost (omega (arith, small.0, small.1, within)) in
    ap meant asked.words_are ∙ (λ i. OfInput (AloofRepair (code i) (chunk i)))
means words (Generate start size) (is, (small, some, few)) =
    let first : value (decimal start) ≡ start = digits_value-decimal own start small in
    let second : value (decimal size) ≡ size = digits_value-decimal own size (omega (arith, few)) in
    ap meant is ∙ (λ i. Generate (first i) (second i))
means words (Trial start size workers) (is, (small, some, few), (least, most)) =
    let first : value (decimal start) ≡ start = digits_value-decimal own start small in
    let second : value (decimal size) ≡ size = digits_value-decimal own size (omega (arith, few)) in
    let third : value (decimal workers) ≡ workers = digits_value-decimal own workers (omega (arith, most)) in
    ap meant is ∙ (λ i. Trial (first i) (second i) (third i))

pub one_command : (words : List (List ℕ)) (one other : Command) → Asks words one → Asks words other → one ≡ other
one_command words one other asks asked = sym (means words one asks) ∙ means words other asked

-- the numbers of a script that is drawn
start_in : Command → ℕ
start_in (Generate start size) = start
start_in (Trial start size workers) = start
start_in (OfInput task) = 0

size_in : Command → ℕ
size_in (Generate start size) = size
size_in (Trial start size workers) = size
size_in (OfInput task) = 0

pub drawn_once : (words : List (List ℕ)) (start size start' size' : ℕ) → Asks words (Generate start size) → Asks words (Generate start' size') → (start ≡ start') × (size ≡ size')
unfolding start_in size_in
drawn_once words start size start' size' one other =
    let is = one_command words (Generate start size) (Generate start' size') one other in (ap start_in is, ap size_in is)

pub tried_once : (words : List (List ℕ)) (start size workers start' size' workers' : ℕ) → Asks words (Trial start size workers) → Asks words (Trial start' size' workers') → (start ≡ start') × (size ≡ size')
unfolding start_in size_in
tried_once words start size workers start' size' workers' one other =
    let is = one_command words (Trial start size workers) (Trial start' size' workers') one other in (ap start_in is, ap size_in is)

pub asked_as : (words : List (List ℕ)) (command other : Command) → command ≡ other → Asks words command → Asks words other
asked_as words command other is asked = let P : Command → Type 0 = λ c. Asks words c in subst P is asked

-- words that don't ask for the command that they can ask for ask for none
nothing : (words : List (List ℕ)) → (Asks words (meant words) → ⊥) → AsksNothing words
nothing words none command asked = none (asked_as words command (meant words) (sym (means words command asked)) asked)

-- the word at a place
word_at : (words same : List (List ℕ)) (i : ℕ) → words ≡ same → get_or words i [] ≡ get_or same i []
word_at words same i is = ap (λ (l : List (List ℕ)). get_or l i []) is

-- ---- no command of these words, for want of one of their numbers

pub no_run : (workers : List ℕ) → ((n : ℕ) → 1 ≤ n → n ≤ 16 → workers ≡ decimal n → ⊥) → AsksNothing (codes "run" ∷ workers ∷ [])
unfolding meant
no_run workers none = nothing (codes "run" ∷ workers ∷ []) (λ asked. none (value workers) asked.1.0 asked.1.1 (word_at _ _ 1 asked.0))

pub no_draw_start : (start size : List ℕ) → ((n : ℕ) → n < 2 ^ 64 → start ≡ decimal n → ⊥) → AsksNothing (codes "gen" ∷ start ∷ size ∷ [])
unfolding meant
no_draw_start start size none = nothing (codes "gen" ∷ start ∷ size ∷ []) (λ asked. none (value start) asked.1.0 (word_at _ _ 1 asked.0))

pub no_draw_size : (start size : List ℕ) → ((n : ℕ) → 1 ≤ n → n ≤ 4096 → size ≡ decimal n → ⊥) → AsksNothing (codes "gen" ∷ start ∷ size ∷ [])
unfolding meant
no_draw_size start size none = nothing (codes "gen" ∷ start ∷ size ∷ []) (λ asked. none (value size) asked.1.1 asked.1.2 (word_at _ _ 2 asked.0))

pub no_trial_start : (start size workers : List ℕ) → ((n : ℕ) → n < 2 ^ 64 → start ≡ decimal n → ⊥) → AsksNothing (codes "trial" ∷ start ∷ size ∷ workers ∷ [])
unfolding meant
no_trial_start start size workers none = nothing (codes "trial" ∷ start ∷ size ∷ workers ∷ []) (λ asked. none (value start) asked.1.0 (word_at _ _ 1 asked.0))

pub no_trial_size : (start size workers : List ℕ) → ((n : ℕ) → 1 ≤ n → n ≤ 4096 → size ≡ decimal n → ⊥) → AsksNothing (codes "trial" ∷ start ∷ size ∷ workers ∷ [])
unfolding meant
no_trial_size start size workers none =
    nothing (codes "trial" ∷ start ∷ size ∷ workers ∷ []) (λ asked. none (value size) asked.1.1 asked.1.2 (word_at _ _ 2 asked.0))

pub no_trial_workers : (start size workers : List ℕ) → ((n : ℕ) → 1 ≤ n → n ≤ 16 → workers ≡ decimal n → ⊥) → AsksNothing (codes "trial" ∷ start ∷ size ∷ workers ∷ [])
unfolding meant
no_trial_workers start size workers none =
    nothing (codes "trial" ∷ start ∷ size ∷ workers ∷ []) (λ asked. none (value workers) asked.2.0 asked.2.1 (word_at _ _ 3 asked.0))

-- a code that other words spell is that of these
code_at : (k m w word name : List ℕ) (g : Shape) → AreCodeWords (word ∷ k ∷ m ∷ w ∷ []) name g → IsCode g k m w
code_at k m w word name g asked =
    same_code g asked.k k asked.m m asked.w w (sym (word_at _ _ 1 asked.words_are)) (sym (word_at _ _ 2 asked.words_are)) (sym (word_at _ _ 3 asked.words_are)) asked.code

pub no_chunks : (k m w : List ℕ) → ((g : Shape) → IsCode g k m w → ⊥) → AsksNothing (codes "chunks" ∷ k ∷ m ∷ w ∷ [])
unfolding meant
no_chunks k m w none =
    nothing (codes "chunks" ∷ k ∷ m ∷ w ∷ []) (λ asked. none (code_of k m w) (code_at k m w (codes "chunks") (codes "chunks") (code_of k m w) asked))

pub no_recover : (k m w : List ℕ) → ((g : Shape) → IsCode g k m w → ⊥) → AsksNothing (codes "recover" ∷ k ∷ m ∷ w ∷ [])
unfolding meant
no_recover k m w none =
    nothing (codes "recover" ∷ k ∷ m ∷ w ∷ []) (λ asked. none (code_of k m w) (code_at k m w (codes "recover") (codes "recover") (code_of k m w) asked))

aloof_at : (k m d w word name : List ℕ) (more rest : List (List ℕ)) (a : AloofShape) → AreAloofWords (word ∷ k ∷ m ∷ d ∷ w ∷ more) name a rest → IsAloofCode a k m d w
aloof_at k m d w word name more rest a asked =
    same_aloof a asked.k k asked.m m asked.d d asked.w w (sym (word_at _ _ 1 asked.words_are)) (sym (word_at _ _ 2 asked.words_are)) (sym (word_at _ _ 3 asked.words_are))
    (sym (word_at _ _ 4 asked.words_are)) asked.code

pub no_aloof_chunks : (k m d w : List ℕ) → ((a : AloofShape) → IsAloofCode a k m d w → ⊥) → AsksNothing (codes "chunksd" ∷ k ∷ m ∷ d ∷ w ∷ [])
unfolding meant
no_aloof_chunks k m d w none =
    nothing (codes "chunksd" ∷ k ∷ m ∷ d ∷ w ∷ [])
    (λ asked. none (aloof_code_of k m d w) (aloof_at k m d w (codes "chunksd") (codes "chunksd") [] [] (aloof_code_of k m d w) asked))

pub no_aloof_repair : (k m d w lost : List ℕ) → ((a : AloofShape) → IsAloofCode a k m d w → ⊥) → AsksNothing (codes "repaird" ∷ k ∷ m ∷ d ∷ w ∷ lost ∷ [])
unfolding meant
no_aloof_repair k m d w lost none =
    nothing (codes "repaird" ∷ k ∷ m ∷ d ∷ w ∷ lost ∷ [])
    (λ asked. none (aloof_code_of k m d w)
    (aloof_at k m d w (codes "repaird") (codes "repaird") (lost ∷ []) (decimal (value lost) ∷ []) (aloof_code_of k m d w) asked.0))

-- the chunk's word names none of the code's chunks
pub no_such_chunk : (k m d w lost : List ℕ) (a : AloofShape) → IsAloofCode a k m d w → ((n : ℕ) → n < all_chunks a → lost ≡ decimal n → ⊥)
    → AsksNothing (codes "repaird" ∷ k ∷ m ∷ d ∷ w ∷ lost ∷ [])
unfolding meant
no_such_chunk k m d w lost a code none =
    nothing (codes "repaird" ∷ k ∷ m ∷ d ∷ w ∷ lost ∷ [])
    (λ asked. none (value lost) (subst (λ (b : AloofShape). value lost < all_chunks b) (aloof_code_is a k m d w code) asked.1) (word_at _ _ 5 asked.0.words_are))

-- ---- what is asked for where the numbers are found

pub asks_code : (word k m w : List ℕ) (g : Shape) → IsCode g k m w → AreCodeWords (word ∷ k ∷ m ∷ w ∷ []) word g
asks_code word k m w g code = record { k = k; m = m; w = w; words_are = refl; code = code }

pub asks_aloof : (word k m d w : List ℕ) (more : List (List ℕ)) (a : AloofShape) → IsAloofCode a k m d w → AreAloofWords (word ∷ k ∷ m ∷ d ∷ w ∷ more) word a more
asks_aloof word k m d w more a code = record { k = k; m = m; d = d; w = w; words_are = refl; code = code }

-- the task that words ask for is within its bounds
pub is_within_bounds : (words : List (List ℕ)) (task : Task) → Asks words (OfInput task) → IsWithinBounds task
is_within_bounds words Play asked = tt
is_within_bounds words (Run workers) asked = asked.1
is_within_bounds words Verify asked = tt
is_within_bounds words (Chunks g) asked = tt
is_within_bounds words (Recover g) asked = tt
is_within_bounds words (AloofChunks a) asked = tt
is_within_bounds words (AloofRepair a lost) asked = asked.1
