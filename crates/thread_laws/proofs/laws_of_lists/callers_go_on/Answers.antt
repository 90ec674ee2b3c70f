use Rattle.thread_laws.proofs.Placing.{callers_go_on_at_servers, callers_go_on_at_directory, callers_see_more}
use Rattle.thread_laws.proofs.laws_of_lists.callers_go_on.Goals as goal

pub returns-clause-at_servers : goal.returns-clause-at_servers
returns-clause-at_servers c = callers_go_on_at_servers

pub returns-clause-at_directory : goal.returns-clause-at_directory
returns-clause-at_directory c = callers_go_on_at_directory

pub returns-clause-see_more : goal.returns-clause-see_more
returns-clause-see_more c = callers_see_more
