use Rattle.std.proofs.Common.{◌∙◌, below_more, sym}
use Rattle.clay_words.proofs.NameLaws.{all_looked_at, not_same}
use Rattle.clay_words.proofs.word_names.name_of.Goals as goal

pub loop-name-preserved : goal.loop-name-preserved
loop-name-preserved c = below_more _ _ c.loop-name.invariant (λ is. not_same c.args.word.now c.word.result.now c.if-eq.ensures (is ∙ sym c.word.ensures))

pub returns : goal.returns
returns c = all_looked_at c.args.word.now c.loop-name.name-index c.loop-name-test.false c.loop-name.invariant
