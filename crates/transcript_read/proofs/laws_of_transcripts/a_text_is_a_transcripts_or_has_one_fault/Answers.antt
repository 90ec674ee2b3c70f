use Rattle.transcript_read.proofs.StuckLaws.{no_fault, one_fault}
use Rattle.transcript_read.proofs.CoverLaws.{covered, fault_within}
use Rattle.transcript_read.proofs.laws_of_transcripts.a_text_is_a_transcripts_or_has_one_fault.Goals as goal

pub returns-clause-faultless : goal.returns-clause-faultless
returns-clause-faultless c = no_fault

pub returns-clause-one : goal.returns-clause-one
returns-clause-one c = one_fault

pub returns-clause-covered : goal.returns-clause-covered
returns-clause-covered c = covered

pub returns-clause-within : goal.returns-clause-within
returns-clause-within c = fault_within
