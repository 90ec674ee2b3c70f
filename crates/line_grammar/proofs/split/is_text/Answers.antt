use Rattle.std.proofs.lemmas.Bool.Decides.{Decides-eqb}
use Rattle.std.proofs.lemmas.Slice.Eq.{slice_eq-Decides}
use Rattle.line_grammar.proofs.split.is_text.Goals as goal

pub returns : goal.returns
returns c = slice_eq-Decides Decides-eqb c.args.line.now c.args.text.now c.eq.result c.eq.ensures
