use Rattle.thread_laws.proofs.Owing.{owed_stay, looks_are_owed}
use Rattle.thread_laws.proofs.laws_of_threads.owed_stay.Goals as goal

pub returns-clause-stay : goal.returns-clause-stay
returns-clause-stay c = owed_stay

pub returns-clause-begin : goal.returns-clause-begin
returns-clause-begin c = looks_are_owed
