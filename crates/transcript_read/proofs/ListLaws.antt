-- Laws on reading values that each stand behind a space.
use Rattle.std.proofs.Common.{◌≡◌, ◌≢◌, ℕ, ◌⊎◌, List, [], ◌∷◌, ◌++◌, length, length-append, arith, ◌+◌, ◌<◌, drop, refl, sym, ap, ◌∙◌, inl, inr, append_assoc, append-nil}
use Rattle.std.specs.Prelude.{All}
use Rattle.std.specs.List.{flat_map}
use Rattle.std.proofs.lemmas.Grind.{flat_map-append}
use Rattle.std.proofs.lemmas.List.Elements.{All-append, All-cons, All-head, All-tail, All-nil}
use Rattle.line_grammar.specs.Lines.{Lacks}
use Rattle.transcript_read.specs.Reads.{IsWordFront}

-- the text is empty or begins with a space
abbrev pub Starts : List ℕ → Type 0
Starts text = (text ≡ []) ⊎ ((more : List ℕ) × (text ≡ 32 ∷ more))

-- the values' text, each behind a space
abbrev pub listed : {A : Type 0} → (A → List ℕ) → List A → List ℕ
listed text_of values = flat_map (λ value. 32 ∷ text_of value) values

pub Starts-listed : {A : Type 0} (text_of : A → List ℕ) (values : List A) → Starts (listed text_of values)
Starts-listed text_of [] = inl refl
Starts-listed text_of (v ∷ vs) = inr (text_of v ++ listed text_of vs, refl)

-- words up to the first space are the same
pub same_words : (a l b m : List ℕ) → Lacks 32 a → Lacks 32 b → Starts l → Starts m → a ++ l ≡ b ++ m → (a ≡ b) × (l ≡ m)
same_words [] l [] m p q sl sm e = (refl, e)
same_words [] l (b ∷ bs) m p q (inl is) sm e = let no : [] ≡ b ∷ (bs ++ m) = sym is ∙ e in cc no
same_words [] l (b ∷ bs) m p q (inr is) sm e =
    let no : 32 ∷ is.0 ≡ b ∷ (bs ++ m) = sym is.1 ∙ e in
    let same : b ≡ 32 = cc no in absurd (q.0 same)
same_words (a ∷ rest_a) l [] m p q sl (inl is) e = let no : a ∷ (rest_a ++ l) ≡ [] = e ∙ is in cc no
same_words (a ∷ rest_a) l [] m p q sl (inr is) e =
    let no : a ∷ (rest_a ++ l) ≡ 32 ∷ is.0 = e ∙ is.1 in
    let same : a ≡ 32 = cc no in absurd (p.0 same)
same_words (a ∷ rest_a) l (b ∷ bs) m p q sl sm e =
    let heads : a ≡ b = cc e in
    let tails : rest_a ++ l ≡ bs ++ m = cc e in
    let rest = same_words rest_a l bs m p.1 q.1 sl sm tails in
    (cc (heads, rest.0), rest.1)

-- the text behind some values, and what is known of each list with the whole text
pub record IsListedTo {A : Type 0} (IsValue : A → Type 0) (text_of : A → List ℕ) (text : List ℕ) (values : List A) (rest : List ℕ) : Type 0 where
  pub parted : text ≡ listed text_of values ++ rest
  pub are : All IsValue values
  pub left : (vs : List A) → All IsValue vs → text ≡ listed text_of vs → (more : List A) × All IsValue more × (rest ≡ listed text_of more)

pub listed_start : {A : Type 0} (IsValue : A → Type 0) (text_of : A → List ℕ) (text : List ℕ) → IsListedTo IsValue text_of text [] text
listed_start IsValue text_of text = record { parted = refl; are = All-nil IsValue; left = λ vs are e. (vs, are, e) }

-- a list whose text begins with a word
pub next_value :
    {A : Type 0} (IsValue : A → Type 0) (text_of : A → List ℕ) → ((value : A) → IsValue value → Lacks 32 (text_of value))
    → (rest words word left : List ℕ) → rest ≡ 32 ∷ words → IsWordFront words word left
    → (more : List A) → All IsValue more → rest ≡ listed text_of more
    → (value : A) × (tail : List A) × IsValue value × All IsValue tail × (word ≡ text_of value) × (left ≡ listed text_of tail)
next_value IsValue text_of lacks rest words word left is front [] are e = let no : 32 ∷ words ≡ [] = sym is ∙ e in cc no
next_value IsValue text_of lacks rest words word left is front (v ∷ vs) are e =
    let both : 32 ∷ words ≡ 32 ∷ (text_of v ++ listed text_of vs) = sym is ∙ e in
    let tails : words ≡ text_of v ++ listed text_of vs = cc both in
    let head = All-head IsValue v vs are in
    let same = same_words word left (text_of v) (listed text_of vs) front.1 (lacks v head) front.2 (Starts-listed text_of vs) (sym front.0 ∙ tails) in
    (v, vs, head, All-tail IsValue v vs are, same.0, same.1)

-- a word that is no value's
pub no_value :
    {A : Type 0} (IsValue : A → Type 0) (text_of : A → List ℕ) → ((value : A) → IsValue value → Lacks 32 (text_of value))
    → (text : List ℕ) (values : List A) (rest words word left : List ℕ) → IsListedTo IsValue text_of text values rest
    → rest ≡ 32 ∷ words → IsWordFront words word left → ((value : A) → IsValue value → word ≢ text_of value)
    → (vs : List A) → All IsValue vs → text ≢ listed text_of vs
no_value IsValue text_of lacks text values rest words word left so_far is front none vs are e =
    let more = so_far.left vs are e in
    let next = next_value IsValue text_of lacks rest words word left is front more.0 more.1 more.2 in
    none next.0 next.2 next.4

-- one value more
pub listed_more :
    {A : Type 0} (IsValue : A → Type 0) (text_of : A → List ℕ) → ((value : A) → IsValue value → Lacks 32 (text_of value))
    → (text : List ℕ) (values : List A) (rest words word left : List ℕ) (value : A) → IsListedTo IsValue text_of text values rest
    → rest ≡ 32 ∷ words → IsWordFront words word left → IsValue value → word ≡ text_of value
    → IsListedTo IsValue text_of text (values ++ value ∷ []) left
listed_more IsValue text_of lacks text values rest words word left value so_far is front form spelled =
    let one : rest ≡ (32 ∷ text_of value) ++ left = is ∙ ap (λ (l : List ℕ). 32 ∷ l) (front.0 ∙ ap (λ (l : List ℕ). l ++ left) spelled) in
    let last : listed text_of (values ++ value ∷ []) ≡ listed text_of values ++ (32 ∷ text_of value) =
    flat_map-append (λ v. 32 ∷ text_of v) values (value ∷ []) ∙ ap (λ (l : List ℕ). listed text_of values ++ l) (append-nil (32 ∷ text_of value)) in
    record {
      parted = so_far.parted ∙ ap (λ (l : List ℕ). listed text_of values ++ l) one
          ∙ sym (append_assoc (listed text_of values) (32 ∷ text_of value) left) ∙ ap (λ (l : List ℕ). l ++ left) (sym last);
      are = All-append IsValue values (value ∷ []) so_far.are (All-cons IsValue value [] form (All-nil IsValue));
      left = λ vs are e.
          let more = so_far.left vs are e in
          let next = next_value IsValue text_of lacks rest words word left is front more.0 more.1 more.2 in
          (next.1, next.3, next.5);
    }

-- the whole text was read
pub listed_whole :
    {A : Type 0} (IsValue : A → Type 0) (text_of : A → List ℕ) (text : List ℕ) (values : List A) (rest : List ℕ)
    → IsListedTo IsValue text_of text values rest → rest ≡ [] → text ≡ listed text_of values
listed_whole IsValue text_of text values rest so_far end =
    so_far.parted ∙ ap (λ (l : List ℕ). listed text_of values ++ l) end ∙ append-nil (listed text_of values)

-- something else stands behind the values
pub listed_torn :
    {A : Type 0} (IsValue : A → Type 0) (text_of : A → List ℕ) (text : List ℕ) (values : List A) (rest : List ℕ)
    → IsListedTo IsValue text_of text values rest → rest ≢ [] → ((more : List ℕ) → rest ≢ 32 ∷ more)
    → (vs : List A) → All IsValue vs → text ≢ listed text_of vs
listed_torn {A = A} IsValue text_of text values rest so_far some other vs are e =
    let more = so_far.left vs are e in torn more.0 more.2
  where
    torn : (more : List A) → rest ≡ listed text_of more → ⊥
    torn [] is = some is
    torn (v ∷ vs) is = other (text_of v ++ listed text_of vs) is

-- less is left behind a word
pub left_smaller : (rest words word left : List ℕ) → rest ≡ 32 ∷ words → IsWordFront words word left → length left < length rest
left_smaller rest words word left is front =
    let whole : length rest ≡ length (32 ∷ words) = ap length is in
    let parts : length words ≡ length word + length left = ap length front.0 ∙ length-append word left in
    omega (arith, whole, parts)

-- a list with a value has a text
pub listed_some : {A : Type 0} (text_of : A → List ℕ) (values : List A) → values ≢ [] → listed text_of values ≢ []
listed_some text_of [] some e = some refl
listed_some text_of (v ∷ vs) some e = cc e

-- a text is one list's
pub listed_injective :
    {A : Type 0} (IsValue : A → Type 0) (text_of : A → List ℕ) → ((value : A) → IsValue value → Lacks 32 (text_of value))
    → ((v w : A) → IsValue v → IsValue w → text_of v ≡ text_of w → v ≡ w) → (vs ws : List A) → All IsValue vs → All IsValue ws
    → listed text_of vs ≡ listed text_of ws → vs ≡ ws
listed_injective IsValue text_of lacks one [] [] p q e = refl
listed_injective IsValue text_of lacks one [] (w ∷ ws) p q e = cc e
listed_injective IsValue text_of lacks one (v ∷ vs) [] p q e = cc e
listed_injective IsValue text_of lacks one (v ∷ vs) (w ∷ ws) p q e =
    let v_is = All-head IsValue v vs p in
    let w_is = All-head IsValue w ws q in
    let both : text_of v ++ listed text_of vs ≡ text_of w ++ listed text_of ws = ap (drop 1) e in
    let same = same_words (text_of v) (listed text_of vs) (text_of w) (listed text_of ws) (lacks v v_is) (lacks w w_is)
    (Starts-listed text_of vs) (Starts-listed text_of ws) both in
    let first : v ≡ w = one v w v_is w_is same.0 in
    let rest : vs ≡ ws = listed_injective IsValue text_of lacks one vs ws (All-tail IsValue v vs p) (All-tail IsValue w ws q) same.1 in
    cc (first, rest)
