use Rattle.transcript_read.proofs.OrderedListLaws.{ordered_lists, lines_within}
use Rattle.transcript_read.proofs.laws_of_transcripts.lists_are_in_order.Goals as goal

pub returns-clause-order : goal.returns-clause-order
returns-clause-order c = ordered_lists

pub returns-clause-few : goal.returns-clause-few
returns-clause-few c = lines_within
