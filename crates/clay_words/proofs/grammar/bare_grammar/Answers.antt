use Rattle.std.proofs.Common.{true, ap, ◌∙◌}
use Rattle.clap.specs.Simple.{Shape, app_of_fields, on_top}
use Rattle.clap.specs.declared.builder.Command.{Command}
use Rattle.clap.specs.declared.builder.command.Command.TheOpen.{Command-F}
use Rattle.clay_words.proofs.grammar.bare_grammar.Goals as goal

pub returns : goal.returns
returns c = record {
  shape = ap app_of_fields c.disable_help_subcommand.ensures
      ∙ ap (λ (f : Command-F Command). app_of_fields (record f { disable_help_subcommand = true })) c.disable_help_flag.ensures
      ∙ ap (λ (f : Command-F Command). app_of_fields (record f { disable_help_flag = true; disable_help_subcommand = true })) c.no_binary_name.ensures
      ∙ ap (on_top (λ (s : Shape). record s { no_binary_name = true; disable_help_flag = true; disable_help_subcommand = true })) c.new.ensures.app;
  local = ap (λ (f : Command-F Command). f.has_globals) c.disable_help_subcommand.ensures
      ∙ ap (λ (f : Command-F Command). f.has_globals) c.disable_help_flag.ensures
      ∙ ap (λ (f : Command-F Command). f.has_globals) c.no_binary_name.ensures ∙ c.new.ensures.local;
}
