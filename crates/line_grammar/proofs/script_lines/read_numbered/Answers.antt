use Rattle.std.proofs.Common.{Some, None}
use Rattle.std.proofs.lemmas.Bool.Decides.{Decides-eqb}
use Rattle.std.proofs.lemmas.Slice.Eq.{strip_prefix_is}
use Rattle.line_grammar.specs.Numbers.{number_word}
use Rattle.line_grammar.proofs.TextLaws.{numbered}
use Rattle.line_grammar.proofs.script_lines.read_numbered.Goals as goal

pub returns-in-Some : goal.returns-in-Some
returns-in-Some c =
    let is = strip_prefix_is Decides-eqb c.args.line.now c.args.first.now (Some c.in-Some.word) c.in-Some.ensures.cases in
    numbered c.args.first.now c.in-Some.word.now c.args.line.now c.number_of.result is c.number_of.ensures

pub returns-in-None : goal.returns-in-None
returns-in-None c = λ n form e.
    let none = strip_prefix_is Decides-eqb c.args.line.now c.args.first.now None c.in-None.ensures.cases in
    none (number_word n) e
