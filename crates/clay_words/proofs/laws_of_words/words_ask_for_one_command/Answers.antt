use Rattle.clay_words.proofs.OneCommand.{one_command}
use Rattle.clay_words.proofs.laws_of_words.words_ask_for_one_command.Goals as goal

pub returns : goal.returns
returns c = one_command
