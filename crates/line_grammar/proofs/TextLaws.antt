-- Laws on the lines other than calls.
use Rattle.std.proofs.Common.{◌≡◌, ◌≢◌, ℕ, List, [], ◌∷◌, ◌++◌, get_or, drop, Result, Ok, Err, refl, sym, ap, ◌∙◌, arith, subst, inl, inr}
use Rattle.std.specs.Prelude.{codes}
use Rattle.std.proofs.lemmas.Bool.{eqb-false}
use Rattle.clay_grid.specs.Limits.{IsGeometry, IsFirstFault}
use Rattle.clay_grid.specs.Shape.{Shape}
use Rattle.clay_grid.specs.declared.geometry_fault.BadGeometry.{BadGeometry}
use Rattle.clay_grid.specs.declared.geometry_fault.BadGeometry.TheVariants.{DataCount, ParityCount, Layers, Width, ChunkSize}
use Rattle.store_map.specs.Name.{IsName}
use Rattle.store_map.specs.declared.actor.Token.{Token}
use Rattle.store_map.specs.declared.actor.Token.TheVariants as token
use Rattle.store_map.specs.declared.call.Rebuild.{Rebuild}
use Rattle.line_grammar.specs.Forms.{IsOfForm}
use Rattle.line_grammar.specs.Words.{rebuild_words, token_words, code_words}
use Rattle.line_grammar.specs.Lines.{Lacks, spaced}
use Rattle.line_grammar.specs.Numbers.{number_word}
use Rattle.line_grammar.specs.Reads.{ReadsNumber}
use Rattle.line_grammar.specs.ReadsLine.{ReadsNumbered, ReadsToken}
use Rattle.line_grammar.specs.Values.{IsNumber, token_number}
use Rattle.line_grammar.specs.declared.line_fault.FaultKind.{FaultKind}
use Rattle.line_grammar.specs.declared.line_fault.FaultKind.TheVariants as kind
use Rattle.line_grammar.proofs.LineLaws.{same_parts}
use Rattle.line_grammar.proofs.NumberLaws.{number_lacks}
use Rattle.line_grammar.proofs.CallLaws.{name_lacks_space, heads, one_word}

-- what stands at the front doesn't matter
same_tail : (first xs ys : List ℕ) → first ++ xs ≡ first ++ ys → xs ≡ ys
same_tail [] xs ys e = e
same_tail (f ∷ fs) xs ys e = same_tail fs xs ys (ap (drop 1) e)

-- reading a number behind first bytes is reading the number
pub numbered : (first word text : List ℕ) (r : Result ℕ FaultKind) → text ≡ first ++ word → ReadsNumber word r → ReadsNumbered first text r
numbered first word text (Ok n) is h = (h.0, h.1, is ∙ ap (λ (l : List ℕ). first ++ l) h.2)
numbered first word text (Err kind.Syntax) is h = λ n form e. h n form (same_tail first word (number_word n) (sym is ∙ e))
numbered first word text (Err kind.Limit) is h = (h.0, h.1, h.2, is ∙ ap (λ (l : List ℕ). first ++ l) h.3)
numbered first word text (Err kind.OutOfMemory) is h = tt
numbered first word text (Err kind.Geometry) is h = h
numbered first word text (Err kind.NoSuchActor) is h = h
numbered first word text (Err kind.NoSuchServer) is h = h
numbered first word text (Err kind.MissingEnd) is h = h

-- ---- steps

-- a step's line, without its line feed
abbrev pub token_text : Token → List ℕ
token_text step = spaced (token_words step)

-- equal lists have the same second item
pub second : (xs ys : List ℕ) → xs ≡ ys → get_or xs 1 0 ≡ get_or ys 1 0
second xs ys e = ap (λ (l : List ℕ). get_or l 1 0) e

-- and the same sixth one
sixth : (xs ys : List ℕ) → xs ≡ ys → get_or xs 5 0 ≡ get_or ys 5 0
sixth xs ys e = ap (λ (l : List ℕ). get_or l 5 0) e

-- what begins with `c` is the step of a client
pub client_only : (word : List ℕ) (step : Token) → codes "c " ++ word ≡ token_text step → (i : ℕ) × (step ≡ token.Client i) × (word ≡ number_word i)
client_only word (token.Client i) e = (i, refl, ap (drop 2) e)
client_only word _ e = absurd (eqb-false 99 _ refl (heads _ _ e))

-- what begins with `r` is the step of a repairer
pub repairer_only : (word : List ℕ) (step : Token) → codes "r " ++ word ≡ token_text step → (i : ℕ) × (step ≡ token.Repairer i) × (word ≡ number_word i)
repairer_only word (token.Repairer i) e = (i, refl, ap (drop 2) e)
repairer_only word (token.ReapClient i) e = absurd (eqb-false 32 _ refl (second _ _ e))
repairer_only word (token.ReapRepairer i) e = absurd (eqb-false 32 _ refl (second _ _ e))
repairer_only word _ e = absurd (eqb-false 114 _ refl (heads _ _ e))

-- what begins with `wipe` is a wipe
pub wipe_only : (word : List ℕ) (step : Token) → codes "wipe " ++ word ≡ token_text step → (i : ℕ) × (step ≡ token.Wipe i) × (word ≡ number_word i)
wipe_only word (token.Wipe i) e = (i, refl, ap (drop 5) e)
wipe_only word _ e = absurd (eqb-false 119 _ refl (heads _ _ e))

-- what begins with `down` makes a server away
pub down_only : (word : List ℕ) (step : Token) → codes "down " ++ word ≡ token_text step → (i : ℕ) × (step ≡ token.Down i) × (word ≡ number_word i)
down_only word (token.Down i) e = (i, refl, ap (drop 5) e)
down_only word token.Drain e = absurd (eqb-false 111 _ refl (second _ _ e))
down_only word _ e = absurd (eqb-false 100 _ refl (heads _ _ e))

-- what begins with `up` makes a server present
pub up_only : (word : List ℕ) (step : Token) → codes "up " ++ word ≡ token_text step → (i : ℕ) × (step ≡ token.Up i) × (word ≡ number_word i)
up_only word (token.Up i) e = (i, refl, ap (drop 3) e)
up_only word _ e = absurd (eqb-false 117 _ refl (heads _ _ e))

-- what begins with `reap c` is the reap of a client
pub client_reap_only : (word : List ℕ) (step : Token) → codes "reap c " ++ word ≡ token_text step → (i : ℕ) × (step ≡ token.ReapClient i) × (word ≡ number_word i)
client_reap_only word (token.ReapClient i) e = (i, refl, ap (drop 7) e)
client_reap_only word (token.Repairer i) e = absurd (eqb-false 101 _ refl (second _ _ e))
client_reap_only word (token.ReapRepairer i) e = absurd (eqb-false 99 _ refl (sixth _ _ e))
client_reap_only word _ e = absurd (eqb-false 114 _ refl (heads _ _ e))

-- what begins with `reap r` is the reap of a repairer
pub repairer_reap_only : (word : List ℕ) (step : Token) → codes "reap r " ++ word ≡ token_text step → (i : ℕ) × (step ≡ token.ReapRepairer i) × (word ≡ number_word i)
repairer_reap_only word (token.ReapRepairer i) e = (i, refl, ap (drop 7) e)
repairer_reap_only word (token.Repairer i) e = absurd (eqb-false 101 _ refl (second _ _ e))
repairer_reap_only word (token.ReapClient i) e = absurd (eqb-false 114 _ refl (sixth _ _ e))
repairer_reap_only word _ e = absurd (eqb-false 114 _ refl (heads _ _ e))

-- from a number to the step that has it
pub token_err : (form : ℕ) (first word : List ℕ) (make : ℕ → Token) → ((i : ℕ) → IsOfForm form (make i)) → ((i : ℕ) → token_text (make i) ≡ first ++ number_word i) → ((i : ℕ) → token_number (make i) ≡ i)
    → ((step : Token) → first ++ word ≡ token_text step → (i : ℕ) × (step ≡ make i) × (word ≡ number_word i))
    → (k : FaultKind) → ReadsNumber word (Err k) → ReadsToken form (first ++ word) (Err k)
token_err form first word make of_form text number only kind.Syntax h = λ step of_step e. let parts = only step e in h parts.0 tt parts.2
token_err form first word make of_form text number only kind.Limit h =
    (make h.0, of_form h.0, λ fits. h.2 (subst IsNumber (number h.0) fits), ap (λ (l : List ℕ). first ++ l) h.3 ∙ sym (text h.0))
token_err form first word make of_form text number only kind.OutOfMemory h = tt
token_err form first word make of_form text number only kind.Geometry h = h
token_err form first word make of_form text number only kind.NoSuchActor h = h
token_err form first word make of_form text number only kind.NoSuchServer h = h
token_err form first word make of_form text number only kind.MissingEnd h = h

-- ---- rebuilds

-- a rebuild's line, without its line feed
abbrev rebuild_text : Rebuild → List ℕ
rebuild_text rebuild = spaced (rebuild_words rebuild)

-- two numbers with a space between
abbrev numbers_text : ℕ → ℕ → List ℕ
numbers_text m n = number_word m ++ 32 ∷ number_word n

-- a rebuild has a space behind its name
pub rebuild_no_space : (words : List ℕ) → Lacks 32 words → (r : Rebuild) → IsName r.name → codes "rebuild " ++ words ≢ rebuild_text r
rebuild_no_space words lacks r h e = one_word words [] (numbers_text r.stripe r.server) r.name (ap (drop 8) e) lacks

-- the first space ends a rebuild's name
pub rebuild_first : (words first rest : List ℕ) → words ≡ first ++ 32 ∷ rest → Lacks 32 first → (r : Rebuild) → IsName r.name → codes "rebuild " ++ words ≡ rebuild_text r
    → (first ≡ r.name) × (rest ≡ numbers_text r.stripe r.server)
rebuild_first words first rest is lacks r h e = same_parts 32 first rest r.name (numbers_text r.stripe r.server) lacks (name_lacks_space r.name h) (sym is ∙ ap (drop 8) e)

-- and a space behind its stripe
pub rebuild_no_second : (words first rest : List ℕ) → words ≡ first ++ 32 ∷ rest → Lacks 32 first → Lacks 32 rest → (r : Rebuild) → IsName r.name → codes "rebuild " ++ words ≢ rebuild_text r
rebuild_no_second words first rest is lacks none r h e =
    let parts = rebuild_first words first rest is lacks r h e in one_word rest [] (number_word r.server) (number_word r.stripe) parts.1 none

-- a rebuild's name, stripe and server
pub rebuild_parts : (words first rest second third : List ℕ) → words ≡ first ++ 32 ∷ rest → Lacks 32 first → rest ≡ second ++ 32 ∷ third → Lacks 32 second
    → (r : Rebuild) → IsName r.name → codes "rebuild " ++ words ≡ rebuild_text r → (first ≡ r.name) × (second ≡ number_word r.stripe) × (third ≡ number_word r.server)
rebuild_parts words first rest second third is lacks is' lacks' r h e =
    let parts = rebuild_first words first rest is lacks r h e in
    let same = same_parts 32 second third (number_word r.stripe) (number_word r.server) lacks' (number_lacks 32 r.stripe (omega arith)) (sym is' ∙ parts.1) in
    (parts.0, same.0, same.1)

-- a name, a stripe and a server make a rebuild
pub rebuild_made : (words first rest second third : List ℕ) (stripe server : ℕ) → words ≡ first ++ 32 ∷ rest → rest ≡ second ++ 32 ∷ third
    → second ≡ number_word stripe → third ≡ number_word server → codes "rebuild " ++ words ≡ rebuild_text (record { name = first; stripe = stripe; server = server })
rebuild_made words first rest second third stripe server is is' number word =
    ap (λ (l : List ℕ). codes "rebuild " ++ l)
    (is ∙ ap (λ (l : List ℕ). first ++ 32 ∷ l) (is' ∙ ap (λ (l : List ℕ). l ++ 32 ∷ third) number ∙ ap (λ (l : List ℕ). number_word stripe ++ 32 ∷ l) word))

-- ---- the code line

-- the code line, without its line feed
abbrev code_text : Shape → List ℕ
code_text g = spaced (code_words g)

-- a code line has a space behind its first number
pub code_no_space : (words : List ℕ) → Lacks 32 words → (g : Shape) → codes "code " ++ words ≢ code_text g
code_no_space words lacks g e = one_word words [] (numbers_text g.parity_count g.width) (number_word g.data_count) (ap (drop 5) e) lacks

-- the first space ends its first number
pub code_first : (words first rest : List ℕ) → words ≡ first ++ 32 ∷ rest → Lacks 32 first → (g : Shape) → codes "code " ++ words ≡ code_text g
    → (first ≡ number_word g.data_count) × (rest ≡ numbers_text g.parity_count g.width)
code_first words first rest is lacks g e =
    same_parts 32 first rest (number_word g.data_count) (numbers_text g.parity_count g.width) lacks (number_lacks 32 g.data_count (omega arith)) (sym is ∙ ap (drop 5) e)

-- and a space behind its second number
pub code_no_second : (words first rest : List ℕ) → words ≡ first ++ 32 ∷ rest → Lacks 32 first → Lacks 32 rest → (g : Shape) → codes "code " ++ words ≢ code_text g
code_no_second words first rest is lacks none g e =
    let parts = code_first words first rest is lacks g e in one_word rest [] (number_word g.width) (number_word g.parity_count) parts.1 none

-- a code line's three numbers
pub code_parts : (words first rest second third : List ℕ) → words ≡ first ++ 32 ∷ rest → Lacks 32 first → rest ≡ second ++ 32 ∷ third → Lacks 32 second
    → (g : Shape) → codes "code " ++ words ≡ code_text g → (first ≡ number_word g.data_count) × (second ≡ number_word g.parity_count) × (third ≡ number_word g.width)
code_parts words first rest second third is lacks is' lacks' g e =
    let parts = code_first words first rest is lacks g e in
    let same = same_parts 32 second third (number_word g.parity_count) (number_word g.width) lacks' (number_lacks 32 g.parity_count (omega arith)) (sym is' ∙ parts.1) in
    (parts.0, same.0, same.1)

-- a geometry of these numbers
abbrev pub shape : ℕ → ℕ → ℕ → Shape
shape k m w = record { data_count = k; parity_count = m; width = w }

-- three numbers make a code line
pub code_made : (words first rest second third : List ℕ) (k m w : ℕ) → words ≡ first ++ 32 ∷ rest → rest ≡ second ++ 32 ∷ third
    → first ≡ number_word k → second ≡ number_word m → third ≡ number_word w → codes "code " ++ words ≡ code_text (shape k m w)
code_made words first rest second third k m w is is' k_is m_is w_is =
    ap (λ (l : List ℕ). codes "code " ++ l)
    (is ∙ ap (λ (l : List ℕ). l ++ 32 ∷ rest) k_is
    ∙ ap (λ (l : List ℕ). number_word k ++ 32 ∷ l) (is' ∙ ap (λ (l : List ℕ). l ++ 32 ∷ third) m_is ∙ ap (λ (l : List ℕ). number_word m ++ 32 ∷ l) w_is))

-- numbers that a geometry refuses are those of none
pub refused_is_none : (g : Shape) (fault : BadGeometry) → IsFirstFault g fault → IsGeometry g → ⊥
refused_is_none g DataCount h ok = omega (arith, h, ok.limits.data_chunks)
refused_is_none g ParityCount h ok = elim h.1 [ inl few ↦ omega (arith, few, ok.limits.parity_chunks.0) | inr many ↦ omega (arith, many, ok.limits.parity_chunks.1) ]
refused_is_none g Layers h ok = omega (arith, h.3, ok.limits.layers)
refused_is_none g Width h ok = elim h.4 [ inl few ↦ omega (arith, few, ok.limits.width.0) | inr many ↦ omega (arith, many, ok.limits.width.1) ]
refused_is_none g ChunkSize h ok = omega (arith, h.6, ok.limits.chunk)
