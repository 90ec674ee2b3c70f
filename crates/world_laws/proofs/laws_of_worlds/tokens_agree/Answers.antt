use Rattle.world_laws.proofs.Agreed.{first_tokens_agree, worlds_stay_agreed}
use Rattle.world_laws.proofs.laws_of_worlds.tokens_agree.Goals as goal

pub returns-clause-first : goal.returns-clause-first
returns-clause-first c = first_tokens_agree

pub returns-clause-stays : goal.returns-clause-stays
returns-clause-stays c = worlds_stay_agreed
