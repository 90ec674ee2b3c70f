use Rattle.run_laws.proofs.Leading.{parts_lead_on, steps_lead, tokens_lead}
use Rattle.run_laws.proofs.laws_of_runs.shortages_lead_on.Goals as goal

pub returns-clause-parts : goal.returns-clause-parts
returns-clause-parts c = parts_lead_on

pub returns-clause-steps : goal.returns-clause-steps
returns-clause-steps c = steps_lead

pub returns-clause-tokens : goal.returns-clause-tokens
returns-clause-tokens c = tokens_lead
