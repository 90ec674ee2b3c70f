use Rattle.clay_model.proofs.Codewords.{distinct_nodes, same_codewords, same_of_stripe, same_agreeing}
use Rattle.clay_model.proofs.laws_of_codewords.codewords_are_unique.Goals as goal

pub returns-clause-distinct_nodes : goal.returns-clause-distinct_nodes
returns-clause-distinct_nodes c = distinct_nodes

pub returns-clause-agreeing : goal.returns-clause-agreeing
returns-clause-agreeing c = same_codewords

pub returns-clause-of_one_stripe : goal.returns-clause-of_one_stripe
returns-clause-of_one_stripe c = same_of_stripe

pub returns-clause-of_what_is_left : goal.returns-clause-of_what_is_left
returns-clause-of_what_is_left c = same_agreeing
