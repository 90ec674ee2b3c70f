-- The program's command stops its walk at a command's name, whatever stands behind it.
use Rattle.std.proofs.Common.{◌≡◌, List, ap, ◌∙◌}
use Rattle.std.specs.Prelude.{Bool, true, ◌&&◌, Option, Some, is_some}
use Rattle.clap.specs.Words.{Text, subcommand_of, takes}
use Rattle.clap.specs.Walk.{nothing_held, walk}
use Rattle.clap.specs.Simple.{built, entered, names_of}
use Rattle.clap.specs.Takes.{entered_passes, level_passes}
use Rattle.clay_words.specs.Grammar.{clay_app}

abbrev pub stop : List Text → Option (Text × List Text)
stop words = (walk (built clay_app).top.rules (names_of (built clay_app)) nothing_held words).stopped

abbrev pub top_passes : List Text → Bool → Bool
top_passes words has = level_passes (built clay_app).top (names_of (built clay_app)) nothing_held words has

-- the program takes the words where both levels pass
pub taken_by : (words : List Text) (p : Text × List Text) → stop words ≡ Some p → is_some (entered (built clay_app) (Some p)) ≡ true
    → entered_passes (built clay_app) (Some p) ≡ true → top_passes words true ≡ true → takes clay_app words ≡ true
taken_by words p is some below top =
    ap (λ (o : Option (Text × List Text)). entered_passes (built clay_app) o && top_passes words (is_some (entered (built clay_app) o))) is
    ∙ ap (λ (b : Bool). b && top_passes words (is_some (entered (built clay_app) (Some p)))) below
    ∙ ap (top_passes words) some ∙ top

pub found_by : (words : List Text) (p : Text × List Text) → stop words ≡ Some p → subcommand_of clay_app words ≡ entered (built clay_app) (Some p)
found_by words p is = ap (entered (built clay_app)) is
