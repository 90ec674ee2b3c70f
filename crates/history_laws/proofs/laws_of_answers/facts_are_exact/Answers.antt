use Rattle.history_laws.proofs.FactsExact.{facts_are_exact}
use Rattle.history_laws.proofs.laws_of_answers.facts_are_exact.Goals as goal

pub returns : goal.returns
returns c = facts_are_exact
