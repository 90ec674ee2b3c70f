use Rattle.call_steps.proofs.Tokens.{tokens_stay, passes_are_of_calls}
use Rattle.call_steps.proofs.laws_of_machines.tokens_keep_their_actors.Goals as goal

pub returns-clause-tokens : goal.returns-clause-tokens
returns-clause-tokens c = tokens_stay

pub returns-clause-passes : goal.returns-clause-passes
returns-clause-passes c = passes_are_of_calls
