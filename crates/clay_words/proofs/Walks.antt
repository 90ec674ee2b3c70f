-- How clap walks over words that don't begin with a hyphen, where no subcommand waits for its name.
use Rattle.std.proofs.Common.{◌≡◌, ℕ, ◌+◌, List, [], ◌∷◌, refl, ap, ◌∙◌, arith}
use Rattle.std.specs.Prelude.{Bool, true, false, ◌&&◌, ◌||◌, Option, None, fold}
use Rattle.std.specs.List.{AllByRecursion}
use Rattle.std.proofs.lemmas.Bool.{ne_eqb}
use Rattle.std.proofs.lemmas.Str.Parse.{digit_at}
use Rattle.line_grammar.specs.Numbers.{IsNumberWord}
use Rattle.line_grammar.proofs.NumberLaws.{digits_from_number}
use Rattle.std.specs.Option.{option_map_or}
use Rattle.clap.specs.Lexer.{long_of}
use Rattle.clap.specs.Words.{Rule, Text, Shape}
use Rattle.clap.specs.Walk.{Held, Step, Walk, idle, value, after_step, arg_by_index, to_positional, walked, word_met}
use Rattle.clap.specs.Takes.{bundle_passes, flag_word_passes, step_passes, turn_passes, walk_passes, word_passes}
use Rattle.clay_words.proofs.WordMet.{IsOther, met, no_long, no_short, no_dashes}

-- where a walk stands before a positional
abbrev pub before : Held → ℕ → Walk
before h position = record { held = h; waiting = idle; position = position; is_trailing = false; stopped = None }

-- the word goes to the positional whose turn it is
step : (c : List Rule) (h : Held) (position d : ℕ) (ds : Text) → IsOther d
    → walked c [] (before h position) (d ∷ ds) ≡ to_positional c (arg_by_index c position) (d ∷ ds) (before h position) h
unfolding walked
step c h position d ds e = ap (λ (m : Held × Step). after_step c (d ∷ ds) (before h position) m.0 m.1) (met c position d ds h e)

word : (s : Shape) (h : Held) (d : ℕ) (ds : Text) → IsOther d → word_passes s [] false idle (d ∷ ds) h ≡ true
word s h d ds e =
    ap (λ (b : Bool). b || flag_word_passes s.rules s.args_override_self (long_of (d ∷ ds)) (d ∷ ds) h) (no_dashes d ds e)
    ∙ ap (λ (o : Option (Text × Option Text)). flag_word_passes s.rules s.args_override_self o (d ∷ ds) h) (no_long d ds e)
    ∙ ap (λ (o : Option Text). option_map_or (λ flags. bundle_passes s.rules s.args_override_self flags h) o true) (no_short d ds e)

-- and passes where the positional takes it
turn : (s : Shape) (h : Held) (position d : ℕ) (ds : Text) → IsOther d → turn_passes s [] (before h position) (d ∷ ds) ≡ step_passes s position h value
turn s h position d ds e =
    ap (λ (b : Bool). b && after (word_met s.rules [] false idle position (d ∷ ds) h)) (word s h d ds e) ∙ ap after (met s.rules position d ds h e)
  where
    after : Held × Step → Bool
    after m = step_passes s position m.0 m.1

pass : (s : Shape) (h : Held) (position d : ℕ) (ds : Text) (rest : List Text) → IsOther d
    → walk_passes s [] (before h position) ((d ∷ ds) ∷ rest)
    ≡ (step_passes s position h value && walk_passes s [] (to_positional s.rules (arg_by_index s.rules position) (d ∷ ds) (before h position) h) rest)
unfolding walk_passes
pass s h position d ds rest e =
    ap (λ (b : Bool). b && walk_passes s [] (walked s.rules [] (before h position) (d ∷ ds)) rest) (turn s h position d ds e)
    ∙ ap (λ (x : Walk). step_passes s position h value && walk_passes s [] x rest) (step s.rules h position d ds e)

-- no word is left
pass_none : (s : Shape) (w : Walk) → walk_passes s [] w [] ≡ true
unfolding walk_passes
pass_none s w = refl

-- ---- words that are numbers

-- a number's first byte isn't a hyphen
number_head : (d : ℕ) (ds : Text) → IsNumberWord (d ∷ ds) → IsOther d
number_head d ds number =
    let digits = digits_from_number (d ∷ ds) number in
    let range = digit_at (d ∷ ds) 0 digits.digits digits.some in
    ne_eqb d 45 (λ e. omega (arith, range.0))

number_some : IsNumberWord [] → ⊥
number_some number = let some = (digits_from_number [] number).some in omega arith

-- what is held behind a positional's word
abbrev pub next : List Rule → Held → ℕ → Text → Held
next c h position word = (to_positional c (arg_by_index c position) word (before h position) h).held

-- and behind several
abbrev pub held_after : List Rule → Held → ℕ → List Text → Held
held_after c h position [] = h
held_after c h position (word ∷ words) = held_after c (next c h position word) (position + 1) words

-- each word goes to a positional of its own
abbrev pub AllGo : Shape → Held → ℕ → List Text → Type 0
AllGo s h position [] = Unit {0}
AllGo s h position (word ∷ words) =
    (step_passes s position h value ≡ true)
    × (to_positional s.rules (arg_by_index s.rules position) word (before h position) h ≡ before (next s.rules h position word) (position + 1))
    × AllGo s (next s.rules h position word) (position + 1) words

-- where each goes to its own, the walk passes, and ends with what is held then
pub all_pass : (s : Shape) (h : Held) (position : ℕ) (words : List Text) → AllByRecursion IsNumberWord words → AllGo s h position words
    → walk_passes s [] (before h position) words ≡ true
all_pass s h position [] numbers go = pass_none s (before h position)
all_pass s h position ([] ∷ words) numbers go = absurd (number_some numbers.0)
all_pass s h position ((d ∷ ds) ∷ words) numbers go =
    pass s h position d ds words (number_head d ds numbers.0)
    ∙ ap (λ (b : Bool). b && walk_passes s [] (to_positional s.rules (arg_by_index s.rules position) (d ∷ ds) (before h position) h) words) go.0
    ∙ ap (λ (x : Walk). walk_passes s [] x words) go.1
    ∙ all_pass s (next s.rules h position (d ∷ ds)) (position + 1) words numbers.1 go.2

pub all_held : (s : Shape) (h : Held) (position : ℕ) (words : List Text) → AllByRecursion IsNumberWord words → AllGo s h position words
    → (fold (walked s.rules []) (before h position) words).held ≡ held_after s.rules h position words
all_held s h position [] numbers go = refl
all_held s h position ([] ∷ words) numbers go = absurd (number_some numbers.0)
all_held s h position ((d ∷ ds) ∷ words) numbers go =
    ap (λ (x : Walk). (fold (walked s.rules []) x words).held) (step s.rules h position d ds (number_head d ds numbers.0) ∙ go.1)
    ∙ all_held s (next s.rules h position (d ∷ ds)) (position + 1) words numbers.1 go.2
