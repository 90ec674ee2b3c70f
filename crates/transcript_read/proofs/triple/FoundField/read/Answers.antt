use Rattle.store_map.specs.Triples.{found_text}
use Rattle.transcript_read.specs.Values.{IsFound}
use Rattle.transcript_read.proofs.PartLaws.{away_unread, unread_by}
use Rattle.transcript_read.proofs.triple.FoundField.read.Goals as goal

pub returns-in_err-downs-in-Some : goal.returns-in_err-downs-in-Some
returns-in_err-downs-in-Some c =
    unread_by IsFound found_text c.args.text.now c.from_residual.result c.in_err-downs-in-Some.field-0.0 c.from_residual.ensures.1 c.in_err-downs-in-Some.ensures (away_unread c.args.text.now c.in-Some.downs.now c.in-Some.ensures.some)
