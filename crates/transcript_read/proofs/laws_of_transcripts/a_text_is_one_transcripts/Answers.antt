use Rattle.transcript_read.proofs.StuckLaws.{one_transcript}
use Rattle.transcript_read.proofs.laws_of_transcripts.a_text_is_one_transcripts.Goals as goal

pub returns : goal.returns
returns c = one_transcript
