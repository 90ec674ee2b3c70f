use Rattle.thread_laws.proofs.Plain.{sweeping_goes_on, operating_goes_on}
use Rattle.thread_laws.proofs.laws_of_lists.plain_actors_go_on.Goals as goal

pub returns-clause-sweeper : goal.returns-clause-sweeper
returns-clause-sweeper c = sweeping_goes_on

pub returns-clause-operator : goal.returns-clause-operator
returns-clause-operator c = operating_goes_on
