-- A command with one number more, and a program with one command more.
use Rattle.std.proofs.Common.{◌≡◌, ℕ, ◌+◌, ◌<◌, List, [], ◌∷◌, length, get_or, take, sym, ap, ap₂, ◌∙◌}
use Rattle.std.specs.Prelude.{false, ◌||◌, fold, map}
use Rattle.std.proofs.lemmas.List.{map_more, take_more}
use Rattle.std.proofs.lemmas.List.Sums.{fold-append}
use Rattle.clap.specs.Words.{AddsArg, AddsSubcommand, App, Text, rule_of, with_rule, with_subcommand}
use Rattle.clap.specs.declared.builder.Arg.{Arg}
use Rattle.clap.specs.declared.builder.Command.{Command}
use Rattle.clay_words.specs.Grammar.{IsApp, command_app, number_rule, with_command, with_number}
use Rattle.clay_words.specs.declared.word_names.Name.{Name}

-- the argument is a number's
pub record IsNumber (arg : Arg) (id : Text) : Type 0 where
  pub rule : rule_of arg ≡ number_rule id
  pub local : arg.global ≡ false

pub with_one : (old new : Command) (arg : Arg) (app : App) (id : Text) → IsApp old app → IsNumber arg id → AddsArg old arg new → IsApp new (with_number app id)
with_one old new arg app id is number added = record {
  shape = added.shape number.local ∙ ap₂ with_rule is.shape number.rule;
  local = added.globals ∙ ap₂ ◌||◌ is.local number.local;
}

pub with_another : (old new sub : Command) (app : App) (name : Name) → IsApp old app → IsApp sub (command_app name) → AddsSubcommand old sub new
    → IsApp new (with_command app name)
with_another old new sub app name is other added = record {
  shape = added.shape other.local ∙ ap₂ with_subcommand is.shape (ap (λ (a : App). a.top) other.shape);
  local = added.globals ∙ ap₂ ◌||◌ is.local other.local;
}

-- a fold over one item more
pub fold_more : {A B : Type 0} (f : B → A → B) (b : B) (xs : List A) (i : ℕ) (x : A) → i < length xs
    → f (fold f b (take i xs)) (get_or xs i x) ≡ fold f b (take (i + 1) xs)
fold_more f b xs i x within = sym (ap (fold f b) (take_more xs i x within) ∙ fold-append f b (take i xs) (get_or xs i x ∷ []))

-- the same where the items are made of others
pub fold_mapped : {A B X : Type 0} (f : B → A → B) (b : B) (g : X → A) (xs : List X) (i : ℕ) (x : X) → i < length xs
    → f (fold f b (map g (take i xs))) (g (get_or xs i x)) ≡ fold f b (map g (take (i + 1) xs))
fold_mapped f b g xs i x within = sym (ap (fold f b) (map_more g xs i x within) ∙ fold-append f b (map g (take i xs)) (g (get_or xs i x) ∷ []))

pub app_is : (command : Command) (one other : App) → one ≡ other → IsApp command one → IsApp command other
app_is command one other same is = record { shape = is.shape ∙ same; local = is.local }
