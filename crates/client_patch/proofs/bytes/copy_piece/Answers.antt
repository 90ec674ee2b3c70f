use Rattle.std.proofs.Common.{◌+◌, ◌≤◌, length, take, drop, subst, sym, ap, ◌∙◌}
use Rattle.store_map.specs.Content.{content_bytes, content_length}
use Rattle.store_map.specs.declared.content.Content.{Content}
use Rattle.client_patch.proofs.Ramps.{piece_of_fill, piece_of_ramp}
use Rattle.client_patch.proofs.bytes.copy_piece.Goals as goal

pub returns-in-Fill-clause-bytes : goal.returns-in-Fill-clause-bytes
returns-in-Fill-clause-bytes c =
    let within : c.args.skipped + length c.args.piece.now ≤ c.in-Fill.length
    = subst (λ (content : Content). c.args.skipped + length c.args.piece.now ≤ content_length content) c.in-Fill.is c.requires.within in
    c.repeat.ensures ∙ piece_of_fill c.in-Fill.byte c.in-Fill.length c.args.skipped (length c.args.piece.now) within
    ∙ ap (λ content. take (length c.args.piece.now) (drop c.args.skipped (content_bytes content))) (sym c.in-Fill.is)

pub returns-in-Ramp-clause-bytes : goal.returns-in-Ramp-clause-bytes
returns-in-Ramp-clause-bytes c =
    let within : c.args.skipped + length c.args.piece.now ≤ c.in-Ramp.length
    = subst (λ (content : Content). c.args.skipped + length c.args.piece.now ≤ content_length content) c.in-Ramp.is c.requires.within in
    c.count_up.ensures ∙ piece_of_ramp c.in-Ramp.first c.in-Ramp.length c.args.skipped (length c.args.piece.now) within
    ∙ ap (λ content. take (length c.args.piece.now) (drop c.args.skipped (content_bytes content))) (sym c.in-Ramp.is)
