use Rattle.clay_gen.proofs.ValidLaws.{valid_of}
use Rattle.clay_gen.proofs.random_script.generate.Goals as goal

pub returns-clause-valid : goal.returns-clause-valid
returns-clause-valid c = valid_of c.args.start c.args.size c.draw_script.result c.requires c.draw_script.ensures
