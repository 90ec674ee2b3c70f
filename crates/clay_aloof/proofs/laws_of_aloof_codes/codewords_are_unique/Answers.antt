use Rattle.clay_aloof.proofs.Unique.{same_codewords, same_of_stripe}
use Rattle.clay_aloof.proofs.laws_of_aloof_codes.codewords_are_unique.Goals as goal

pub returns-clause-agreeing : goal.returns-clause-agreeing
returns-clause-agreeing c = same_codewords

pub returns-clause-of_one_stripe : goal.returns-clause-of_one_stripe
returns-clause-of_one_stripe c = same_of_stripe
