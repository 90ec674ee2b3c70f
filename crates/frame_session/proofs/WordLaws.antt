-- Words that ask for no session, or for one.
use Rattle.std.proofs.Common.{◌≡◌, ℕ, ◌<◌, ◌≤◌, List, [], ◌∷◌, get_or, length, map, Option, decimal, sym, ap, subst, ◌∙◌, arith}
use Rattle.std.proofs.lemmas.Fmt.{decimal_injective}
use Rattle.clay_grid.specs.Shape.{Shape, shape_of}
use Rattle.clay_grid.specs.Limits.{IsWithinLimits}
use Rattle.clay_grid.proofs.LimitLaws.{IsGeometry-limits}
use Rattle.frame_session.specs.declared.session_words.Asked.{Asked}
use Rattle.frame_session.specs.Words.{AreWords, AskNothing, IsAskedBy}

-- the words are these four
four_of : (k m w most : List ℕ) (g : Shape) (max : ℕ) → AreWords (k ∷ m ∷ w ∷ most ∷ []) g max →
    (k ≡ decimal g.data_count) × (m ≡ decimal g.parity_count) × (w ≡ decimal g.width) × (most ≡ decimal max)
four_of k m w most g max words = (
  ap (λ l. get_or l 0 []) words.words_are,
  ap (λ l. get_or l 1 []) words.words_are,
  ap (λ l. get_or l 2 []) words.words_are,
  ap (λ l. get_or l 3 []) words.words_are,
)

few_data : (g : Shape) → IsWithinLimits g → g.data_count ≤ 4294967295
few_data g limits = let first : g.data_count ≤ 18 = (IsGeometry-limits g limits).data_chunks in omega (arith, first)

pub no_data : (k m w most : List ℕ) → ((n : ℕ) → 0 ≤ n → n ≤ 4294967295 → k ≡ decimal n → ⊥) → AskNothing (k ∷ m ∷ w ∷ most ∷ [])
no_data k m w most none g max words = none g.data_count (omega arith) (few_data g words.code) (four_of k m w most g max words).0

same_number : (a b : ℕ) (word : List ℕ) → a ≤ 4294967295 → b ≤ 4294967295 → word ≡ decimal a → word ≡ decimal b → b ≡ a
same_number a b word small few one other = decimal_injective b a (omega (arith, few)) (omega (arith, small)) (sym other ∙ one)

pub no_code : (a b c : ℕ) (k m w most : List ℕ) → a ≤ 4294967295 → b ≤ 4294967295 → c ≤ 4294967295 → k ≡ decimal a → m ≡ decimal b → w ≡ decimal c →
    (IsWithinLimits (shape_of a b c) → ⊥) → AskNothing (k ∷ m ∷ w ∷ most ∷ [])
no_code a b c k m w most few_a few_b few_c is_a is_b is_c none g max words =
    let four = four_of k m w most g max words in
    let parity : g.parity_count ≤ 8 = words.code.parity_chunks.1 in
    let width : g.width ≤ 65536 = words.code.width.1 in
    let same_a : g.data_count ≡ a = same_number a g.data_count k few_a (few_data g words.code) is_a four.0 in
    let same_b : g.parity_count ≡ b = same_number b g.parity_count m few_b (omega (arith, parity)) is_b four.1 in
    let same_c : g.width ≡ c = same_number c g.width w few_c (omega (arith, width)) is_c four.2 in
    let is : g ≡ shape_of a b c = λ i. record { data_count = same_a i; parity_count = same_b i; width = same_c i } in
    none (subst IsWithinLimits is words.code)

-- words ask for one session
pub one_code : (words : List (List ℕ)) (g other : Shape) (max most : ℕ) → AreWords words g max → AreWords words other most → (g ≡ other) × (max ≡ most)
one_code words g other max most one two =
    let same : decimal g.data_count ∷ decimal g.parity_count ∷ decimal g.width ∷ decimal max ∷ []
    ≡ decimal other.data_count ∷ decimal other.parity_count ∷ decimal other.width ∷ decimal most ∷ [] = sym one.words_are ∙ two.words_are in
    let a : decimal g.data_count ≡ decimal other.data_count = ap (λ l. get_or l 0 []) same in
    let b : decimal g.parity_count ≡ decimal other.parity_count = ap (λ l. get_or l 1 []) same in
    let c : decimal g.width ≡ decimal other.width = ap (λ l. get_or l 2 []) same in
    let d : decimal max ≡ decimal most = ap (λ l. get_or l 3 []) same in
    let first : g.data_count ≤ 4294967295 = few_data g one.code in
    let first' : other.data_count ≤ 4294967295 = few_data other two.code in
    let parity : g.parity_count ≤ 8 = one.code.parity_chunks.1 in
    let parity' : other.parity_count ≤ 8 = two.code.parity_chunks.1 in
    let width : g.width ≤ 65536 = one.code.width.1 in
    let width' : other.width ≤ 65536 = two.code.width.1 in
    let limit : max ≤ 1048576 = one.most.1 in
    let limit' : most ≤ 1048576 = two.most.1 in
    let same_a : g.data_count ≡ other.data_count = decimal_injective g.data_count other.data_count (omega (arith, first)) (omega (arith, first')) a in
    let same_b : g.parity_count ≡ other.parity_count = decimal_injective g.parity_count other.parity_count (omega (arith, parity)) (omega (arith, parity')) b in
    let same_c : g.width ≡ other.width = decimal_injective g.width other.width (omega (arith, width)) (omega (arith, width')) c in
    (λ i. record { data_count = same_a i; parity_count = same_b i; width = same_c i }, decimal_injective max most (omega (arith, limit)) (omega (arith, limit')) d)

-- four words are a list of four
four_texts : {A : Type 0} (f : A → List ℕ) (words : List A) (a b c d : A) → 4 ≤ length words → length words < 5 → a ≡ get_or words 0 a → b ≡ get_or words 1 b →
    c ≡ get_or words 2 c → d ≡ get_or words 3 d → f a ∷ f b ∷ f c ∷ f d ∷ [] ≡ map f words
four_texts f [] a b c d least most first second third fourth = absurd (omega (arith, least))
four_texts f (x ∷ []) a b c d least most first second third fourth = absurd (omega (arith, least))
four_texts f (x ∷ y ∷ []) a b c d least most first second third fourth = absurd (omega (arith, least))
four_texts f (x ∷ y ∷ z ∷ []) a b c d least most first second third fourth = absurd (omega (arith, least))
four_texts f (x ∷ y ∷ z ∷ t ∷ []) a b c d least most first second third fourth = λ i. f (first i) ∷ f (second i) ∷ f (third i) ∷ f (fourth i) ∷ []
four_texts f (x ∷ y ∷ z ∷ t ∷ u ∷ words) a b c d least most first second third fourth = absurd (omega (arith, most))

-- what is asked by them is asked by the words
pub asked_four : {A : Type 0} (f : A → List ℕ) (words : List A) (a b c d : A) (k m w most : List ℕ) (answer : Option Asked) → 4 ≤ length words → length words < 5 →
    a ≡ get_or words 0 a → b ≡ get_or words 1 b → c ≡ get_or words 2 c → d ≡ get_or words 3 d → k ≡ f a → m ≡ f b → w ≡ f c → most ≡ f d →
    IsAskedBy (k ∷ m ∷ w ∷ most ∷ []) answer → IsAskedBy (map f words) answer
asked_four f words a b c d k m w most answer least below first second third fourth is_k is_m is_w is_most asked =
    let texts : k ∷ m ∷ w ∷ most ∷ [] ≡ f a ∷ f b ∷ f c ∷ f d ∷ [] = λ i. is_k i ∷ is_m i ∷ is_w i ∷ is_most i ∷ [] in
    subst (λ l. IsAskedBy l answer) (texts ∙ four_texts f words a b c d least below first second third fourth) asked
