use Rattle.thread_laws.proofs.Plain.{all_begin}
use Rattle.thread_laws.proofs.laws_of_lists.all_begin.Goals as goal

pub returns : goal.returns
returns c = all_begin
