-- The commands as clap is told them: a name, and the words that must stand behind it.
use Rattle.std.specs.Prelude.{◌≡◌, List, true, false, codes, fold}
use Rattle.clap.specs.Words.{App, Rule, Text, app_of, new_app, new_rule, with_rule, with_subcommand}
use Rattle.clap.specs.Simple.{on_top}
use Rattle.clap.specs.declared.builder.Command.{Command}
use Rattle.clap.specs.declared.builder.Command.TheViews.{out-Command as fields_of}
use Rattle.clay_words.specs.Names.{all_names, ids_of, word_of}
use Rattle.clay_words.specs.declared.word_names.Name.{Name}

-- a word that must stand there
abbrev pub number_rule : Text → Rule
number_rule id = record (new_rule id) { required = true }

-- a command with one more number
abbrev pub with_number : App → Text → App
with_number app id = with_rule app (number_rule id)

-- a command of a name, with its numbers
abbrev pub numbered_app : Text → List Text → App
numbered_app word ids = fold with_number (new_app word) ids

abbrev pub command_app : Name → App
command_app name = numbered_app (word_of name) (ids_of name)

-- the program without its commands: no word is its name, and no word asks for help
abbrev pub bare_app : App
bare_app =
    on_top (λ shape. record shape { no_binary_name = true; disable_help_flag = true; disable_help_subcommand = true }) (new_app (codes "clay"))

-- the program with one more command
abbrev pub with_command : App → Name → App
with_command app name = with_subcommand app (command_app name).top

-- the program
abbrev pub clay_app : App
clay_app = fold with_command bare_app all_names

-- what clap was told is this command, with no argument that its subcommands share
pub record IsApp (command : Command) (app : App) : Type 0 where
  pub shape : app_of command ≡ app
  pub local : (fields_of command).has_globals ≡ false
