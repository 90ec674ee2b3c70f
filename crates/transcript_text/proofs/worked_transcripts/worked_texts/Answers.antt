use Rattle.std.proofs.Common.{refl}
use Rattle.std.specs.Fmt.{digits}
use Rattle.hex.specs.Hex.{encode_with}
use Rattle.transcript_text.proofs.worked_transcripts.worked_texts.Goals as goal

pub returns-clause-put_then_get : goal.returns-clause-put_then_get
unfolding digits encode_with
returns-clause-put_then_get c = refl

pub returns-clause-refusals : goal.returns-clause-refusals
unfolding digits encode_with
returns-clause-refusals c = refl
