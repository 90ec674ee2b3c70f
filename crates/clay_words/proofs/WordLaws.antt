-- The numbers that words spell.
use Rattle.std.proofs.Common.{◌≡◌, ℕ, ◌<◌, ◌≤◌, ◌^◌, List, inl, inr, sym, subst, ◌∙◌, arith, decimal, Option, None, Some, IfSome, IfNone, MatchOption}
use Rattle.std.proofs.lemmas.Bool.{cases_lt}
use Rattle.std.proofs.lemmas.Fmt.{decimal_injective}
use Rattle.clay_grid.specs.Shape.{Shape}
use Rattle.clay_grid.specs.Limits.{IsWithinLimits, IsFirstFault}
use Rattle.clay_grid.specs.declared.geometry_fault.BadGeometry.{BadGeometry}
use Rattle.clay_grid.specs.declared.geometry_fault.BadGeometry.TheVariants.{DataCount, ParityCount, Layers, Width, ChunkSize}
use Rattle.clay_grid.proofs.LimitLaws.{IsGeometry-limits}
use Rattle.clay_aloof.specs.Shape.{AloofShape, aloof_of}
use Rattle.clay_aloof.specs.Limits as aloof
use Rattle.clay_aloof.specs.declared.aloof_fault.BadAloof.{BadAloof}
use Rattle.clay_aloof.proofs.Faults.{fault_outside}
use Rattle.clay_aloof.proofs.Many.{too_many}
use Rattle.clay_words.specs.Words.{IsAloofCode, IsCode}

pub no_fault : (g : Shape) (fault : BadGeometry) → IsWithinLimits g → IsFirstFault g fault → ⊥
no_fault g DataCount limits broken = let within = limits.data_chunks in omega arith
no_fault g ParityCount limits (two, inl few) = let within = limits.parity_chunks.0 in omega arith
no_fault g ParityCount limits (two, inr many) = let within = limits.parity_chunks.1 in omega arith
no_fault g Layers limits (two, some, few, many) = let within = limits.layers in omega arith
no_fault g Width limits (two, some, few, layers, inl none) = let within = limits.width.0 in omega arith
no_fault g Width limits (two, some, few, layers, inr many) = let within = limits.width.1 in omega arith
no_fault g ChunkSize limits (two, some, few, layers, wide, narrow, long) = let within = limits.chunk in omega arith

-- the numbers of a code are below 2^32
pub code_numbers : (g : Shape) → IsWithinLimits g → (g.data_count < 2 ^ 32) × (g.parity_count < 2 ^ 32) × (g.width < 2 ^ 32)
code_numbers g limits =
    let data_chunks = (IsGeometry-limits g limits).data_chunks in
    let parity_chunks = limits.parity_chunks.1 in
    let width = limits.width.1 in
    (omega arith, omega arith, omega arith)

same_number : (a b : ℕ) (word : List ℕ) → a < 2 ^ 32 → b < 2 ^ 32 → word ≡ decimal a → word ≡ decimal b → b ≡ a
same_number a b word small small' spelled spelled' = decimal_injective b a (omega arith) (omega arith) (sym spelled' ∙ spelled)

-- words that spell numbers of which a geometry can't be made are those of no code
pub not_code : (k m w : ℕ) (kw mw ww : List ℕ) (fault : BadGeometry) → k < 2 ^ 32 → m < 2 ^ 32 → w < 2 ^ 32
    → kw ≡ decimal k → mw ≡ decimal m → ww ≡ decimal w → IsFirstFault (record { data_count = k; parity_count = m; width = w }) fault
    → (g : Shape) → IsCode g kw mw ww → ⊥
not_code k m w kw mw ww fault ks ms ws kd md wd broken g code =
    let small = code_numbers g code.limits in
    let a : g.data_count ≡ k = same_number k g.data_count kw ks small.0 kd code.data_count in
    let b : g.parity_count ≡ m = same_number m g.parity_count mw ms small.1 md code.parity_count in
    let c : g.width ≡ w = same_number w g.width ww ws small.2 wd code.width in
    let is : g ≡ record { data_count = k; parity_count = m; width = w } = λ i. record { data_count = a i; parity_count = b i; width = c i } in
    no_fault (record { data_count = k; parity_count = m; width = w }) fault (subst IsWithinLimits is code.limits) broken

pub same_code : (g : Shape) (k k' m m' w w' : List ℕ) → k ≡ k' → m ≡ m' → w ≡ w' → IsCode g k m w → IsCode g k' m' w'
same_code g k k' m m' w w' ek em ew code =
    record { data_count = sym ek ∙ code.data_count; parity_count = sym em ∙ code.parity_count; width = sym ew ∙ code.width; limits = code.limits }

pub same_code_answer : (answer : Option Shape) (k k' m m' w w' : List ℕ) → k ≡ k' → m ≡ m' → w ≡ w'
    → MatchOption answer ((g : Shape) → IsCode g k m w → ⊥) (λ g. IsCode g k m w)
    → MatchOption answer ((g : Shape) → IsCode g k' m' w' → ⊥) (λ g. IsCode g k' m' w')
same_code_answer None k k' m m' w w' ek em ew h = λ g code. h g (same_code g k' k m' m w' w (sym ek) (sym em) (sym ew) code)
same_code_answer (Some g) k k' m m' w w' ek em ew h = same_code g k k' m m' w w' ek em ew h

-- ---- the same of codes with so many helpers

few_data : (a : AloofShape) → aloof.IsWithinLimits a → a.data_count ≤ 80
few_data a limits =
    elim (cases_lt 80 a.data_count) [
      | inl many ↦ absurd (let layers = too_many a.data_count a.parity_count a.helper_count a.width many limits.helpers.0 limits.helpers.1 limits.parity_chunks.1 in omega (arith, layers, limits.layers))
      | inr few ↦ few
    ]

-- the numbers of such a code are below 2^32
pub aloof_numbers : (a : AloofShape) → aloof.IsWithinLimits a → (a.data_count < 2 ^ 32) × (a.parity_count < 2 ^ 32) × (a.helper_count < 2 ^ 32) × (a.width < 2 ^ 32)
aloof_numbers a limits =
    let data_chunks = few_data a limits in
    let parity_chunks = limits.parity_chunks.1 in
    let helpers = limits.helpers.1 in
    let width = limits.width.1 in
    (omega arith, omega arith, omega arith, omega arith)

pub not_aloof : (k m d w : ℕ) (kw mw dw ww : List ℕ) (fault : BadAloof) → k < 2 ^ 32 → m < 2 ^ 32 → d < 2 ^ 32 → w < 2 ^ 32
    → kw ≡ decimal k → mw ≡ decimal m → dw ≡ decimal d → ww ≡ decimal w → aloof.IsFirstFault (aloof_of k m d w) fault
    → (a : AloofShape) → IsAloofCode a kw mw dw ww → ⊥
not_aloof k m d w kw mw dw ww fault ks ms ds ws kd md dd wd broken a code =
    let small = aloof_numbers a code.limits in
    let ka : a.data_count ≡ k = same_number k a.data_count kw ks small.0 kd code.data_count in
    let ma : a.parity_count ≡ m = same_number m a.parity_count mw ms small.1 md code.parity_count in
    let da : a.helper_count ≡ d = same_number d a.helper_count dw ds small.2 dd code.helper_count in
    let wa : a.width ≡ w = same_number w a.width ww ws small.3 wd code.width in
    let is : a ≡ aloof_of k m d w = λ i. aloof_of (ka i) (ma i) (da i) (wa i) in
    fault_outside (aloof_of k m d w) fault broken (subst aloof.IsWithinLimits is code.limits)

pub same_aloof : (a : AloofShape) (k k' m m' d d' w w' : List ℕ) → k ≡ k' → m ≡ m' → d ≡ d' → w ≡ w' → IsAloofCode a k m d w → IsAloofCode a k' m' d' w'
same_aloof a k k' m m' d d' w w' ek em ed ew code = record {
  data_count = sym ek ∙ code.data_count;
  parity_count = sym em ∙ code.parity_count;
  helper_count = sym ed ∙ code.helper_count;
  width = sym ew ∙ code.width;
  limits = code.limits;
}

pub same_aloof_answer : (answer : Option AloofShape) (k k' m m' d d' w w' : List ℕ) → k ≡ k' → m ≡ m' → d ≡ d' → w ≡ w'
    → MatchOption answer ((a : AloofShape) → IsAloofCode a k m d w → ⊥) (λ a. IsAloofCode a k m d w)
    → MatchOption answer ((a : AloofShape) → IsAloofCode a k' m' d' w' → ⊥) (λ a. IsAloofCode a k' m' d' w')
same_aloof_answer None k k' m m' d d' w w' ek em ed ew h = λ a code. h a (same_aloof a k' k m' m d' d w' w (sym ek) (sym em) (sym ed) (sym ew) code)
same_aloof_answer (Some a) k k' m m' d d' w w' ek em ed ew h = same_aloof a k k' m m' d d' w w' ek em ed ew h

-- ---- a word's number within bounds

-- that no word is the number of something that is within them
pub no_number : (word : List ℕ) (n : ℕ) → ((m : ℕ) → 0 ≤ m → m ≤ 4294967295 → word ≡ decimal m → ⊥) → n < 2 ^ 32 → word ≡ decimal n → ⊥
no_number word n none small is = none n (omega arith) (omega (arith, small)) is

pub number_answer : (answer : Option ℕ) (word word' : List ℕ) (least most : ℕ) → word ≡ word'
    → IfSome answer (λ n. (word ≡ decimal n) × (least ≤ n) × (n ≤ most))
    → IfNone answer ((n : ℕ) → least ≤ n → n ≤ most → word ≡ decimal n → ⊥)
    → MatchOption answer ((n : ℕ) → least ≤ n → n ≤ most → word' ≡ decimal n → ⊥) (λ n. (word' ≡ decimal n) × (least ≤ n) × (n ≤ most))
number_answer None word word' least most same found none = λ n low high is. none n low high (same ∙ is)
number_answer (Some n) word word' least most same found none = (sym same ∙ found.0, found.1, found.2)

pub start_answer : (answer : Option ℕ) (word word' : List ℕ) → word ≡ word'
    → MatchOption answer ((n : ℕ) → n < 2 ^ 64 → word ≡ decimal n → ⊥) (λ n. (n < 2 ^ 64) × (word ≡ decimal n))
    → MatchOption answer ((n : ℕ) → n < 2 ^ 64 → word' ≡ decimal n → ⊥) (λ n. (n < 2 ^ 64) × (word' ≡ decimal n))
start_answer None word word' same h = λ n small is. h n small (same ∙ is)
start_answer (Some n) word word' same h = (h.0, sym same ∙ h.1)
