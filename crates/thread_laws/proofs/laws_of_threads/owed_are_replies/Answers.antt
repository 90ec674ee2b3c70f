use Rattle.thread_laws.proofs.Owing.{owed_are_replies}
use Rattle.thread_laws.proofs.laws_of_threads.owed_are_replies.Goals as goal

pub returns : goal.returns
returns c = owed_are_replies
