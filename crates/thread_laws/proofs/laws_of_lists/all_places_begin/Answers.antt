use Rattle.thread_laws.proofs.Others.{all_places_begin}
use Rattle.thread_laws.proofs.laws_of_lists.all_places_begin.Goals as goal

pub returns : goal.returns
returns c = all_places_begin
