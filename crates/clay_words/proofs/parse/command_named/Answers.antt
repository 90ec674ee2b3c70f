use Rattle.std.proofs.Common.{subst}
use Rattle.clay_words.specs.Spelled.{HoldsNumbers, rows_held}
use Rattle.clay_words.specs.declared.word_names.Name.{Name}
use Rattle.clay_words.proofs.NameLaws.{same_name}
use Rattle.clay_words.proofs.parse.command_named.Goals as goal

pub returns-in_err-name : goal.returns-in_err-name
returns-in_err-name c = λ words held. absurd (c.in_err-name.ensures held.name held.word_is)

pub returns : goal.returns
returns c = λ words held.
    let P : Name → Type 0 = λ name. HoldsNumbers name words (rows_held c.args.held.now) in
    let is = same_name c.args.word.now held.name c.in_ok-name.name held.word_is c.in_ok-name.ensures in
    c.command_held.ensures words (subst P is held.numbers)
