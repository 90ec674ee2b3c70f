use Rattle.store_map.specs.Triples.{placement_text}
use Rattle.transcript_read.specs.Values.{IsPlacement}
use Rattle.transcript_read.proofs.PartLaws.{skipped_unread, unread_by}
use Rattle.transcript_read.proofs.triple.PlacementField.read.Goals as goal

pub returns-in_err-read-in-Some : goal.returns-in_err-read-in-Some
returns-in_err-read-in-Some c =
    unread_by IsPlacement placement_text c.args.text.now c.from_residual.result c.in_err-read-in-Some.field-0.0 c.from_residual.ensures.1 c.in_err-read-in-Some.ensures (skipped_unread c.args.text.now c.in-Some.downs.now c.in-Some.ensures.some)
