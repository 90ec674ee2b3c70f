use Rattle.std.proofs.Common.{◌≡◌, eqb, sym, subst, ap, ◌∙◌}
use Rattle.clay_grid.specs.Shape.{chunk_count}
use Rattle.clay_model.specs.Code.{AgreesWith}
use Rattle.clay_model.specs.RepairParts.{repair_parts}
use Rattle.lane_repair.specs.Views.{laid_pieces}
use Rattle.clay_c.specs.Pieces.{starts_of}
use Rattle.clay_c.specs.Calls.{place_among_others, parts_of}
use Rattle.clay_c.proofs.Shown.{parts_laid, parts_end, are_laid_parts}
use Rattle.clay_c.proofs.rebuild_calls.write_rebuilt.Goals as goal

pub rebuild_into-requires-clause-parts : goal.rebuild_into-requires-clause-parts
rebuild_into-requires-clause-parts c =
    are_laid_parts c.args.g c.args.lost c.args.bytes.now c.deref.result.now c.part_len-len.result c.requires.chunk (c.deref.ensures.value ∙ c.in_ok-starts.ensures ∙ ap (λ n. starts_of (λ k. eqb k c.args.lost) (place_among_others c.args.lost) n (chunk_count c.args.g)) c.part_len-len.ensures) c.part_len-len.ensures c.requires.bytes

pub rebuild_into-requires-clause-room : goal.rebuild_into-requires-clause-room
rebuild_into-requires-clause-room c =
    parts_end c.args.g c.args.lost c.args.bytes.now c.deref.result.now c.part_len-len.result c.requires.chunk (c.deref.ensures.value ∙ c.in_ok-starts.ensures ∙ ap (λ n. starts_of (λ k. eqb k c.args.lost) (place_among_others c.args.lost) n (chunk_count c.args.g)) c.part_len-len.ensures) c.part_len-len.ensures c.requires.bytes

pub returns-clause-written : goal.returns-clause-written
returns-clause-written c = λ word codeword agrees.
    let laid : laid_pieces c.args.bytes.now c.deref.result.now c.part_len-len.result ≡ parts_of c.args.g c.args.lost c.args.bytes.now =
    parts_laid c.args.g c.args.lost c.args.bytes.now c.deref.result.now c.part_len-len.result (c.deref.ensures.value ∙ c.in_ok-starts.ensures ∙ ap (λ n. starts_of (λ k. eqb k c.args.lost) (place_among_others c.args.lost) n (chunk_count c.args.g)) c.part_len-len.ensures) c.part_len-len.ensures in
    c.in_ok-rebuild_into.ensures.rebuilt.value word (record {
      codeword = codeword;
      agrees = subst (λ p. AgreesWith p (repair_parts c.args.g c.args.lost word)) (sym laid) agrees;
    })
