use Rattle.share_mends.proofs.LawLemmas.{places_of_mend, count_of_mend}
use Rattle.share_mends.proofs.laws_of_mends.mends_read_ranges.Goals as goal

pub returns-clause-places : goal.returns-clause-places
returns-clause-places c = places_of_mend

pub returns-clause-count : goal.returns-clause-count
returns-clause-count c = count_of_mend
