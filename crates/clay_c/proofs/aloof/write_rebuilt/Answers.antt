use Rattle.std.proofs.Common.{◌≡◌, ◌*◌, length, sym, subst, ap, ◌∙◌, arith}
use Rattle.clay_grid.specs.Score.{count_below}
use Rattle.lane_repair.specs.Views.{laid_pieces}
use Rattle.clay_aloof.specs.Shape.{all_chunks}
use Rattle.clay_aloof.specs.Repair.{part_bytes}
use Rattle.clay_aloof.specs.Pieces.{ArePieces, IsRebuiltFrom}
use Rattle.clay_c.specs.Helpers.{is_marked, starts_marked, marked_parts}
use Rattle.clay_c.proofs.Marking.{are_pieces, marked_laid, marked_end, rebuilds}
use Rattle.clay_c.proofs.aloof.write_rebuilt.Goals as goal

pub rebuild_into-requires-clause-parts : goal.rebuild_into-requires-clause-parts
rebuild_into-requires-clause-parts c =
    let g = c.args.g in
    let marks = c.args.marks.now in
    let bytes = c.args.bytes.now in
    let size : count_below (all_chunks g) (is_marked marks) * part_bytes g ≡ length bytes = ap (λ n. n * part_bytes g) c.requires.marks.helpers ∙ sym c.requires.lengths.1 in
    subst (ArePieces g c.args.lost) (sym (marked_laid g marks bytes c.deref.result.now c.part_len-len.result (c.deref.ensures.value ∙ c.in_ok-starts.ensures ∙ (λ k. starts_marked marks (c.part_len-len.ensures.value k) (c.requires.lengths.0 k))) c.part_len-len.ensures.value))
    (are_pieces g marks bytes c.args.lost c.requires.lost c.requires.marks (omega (arith, size)))

pub rebuild_into-requires-clause-room : goal.rebuild_into-requires-clause-room
rebuild_into-requires-clause-room c =
    let g = c.args.g in
    let marks = c.args.marks.now in
    let bytes = c.args.bytes.now in
    let size : count_below (all_chunks g) (is_marked marks) * part_bytes g ≡ length bytes = ap (λ n. n * part_bytes g) c.requires.marks.helpers ∙ sym c.requires.lengths.1 in
    marked_end g marks bytes c.deref.result.now c.part_len-len.result (c.deref.ensures.value ∙ c.in_ok-starts.ensures ∙ (λ k. starts_marked marks (c.part_len-len.ensures.value k) (c.requires.lengths.0 k))) c.part_len-len.ensures.value (omega (arith, size))

pub returns-clause-written : goal.returns-clause-written
returns-clause-written c =
    let g = c.args.g in
    let marks = c.args.marks.now in
    let bytes = c.args.bytes.now in
    let new = c.rebuild_into.new.chunk in
    let laid : laid_pieces bytes c.deref.result.now c.part_len-len.result ≡ marked_parts g marks bytes =
    marked_laid g marks bytes c.deref.result.now c.part_len-len.result (c.deref.ensures.value ∙ c.in_ok-starts.ensures ∙ (λ k. starts_marked marks (c.part_len-len.ensures.value k) (c.requires.lengths.0 k))) c.part_len-len.ensures.value in
    rebuilds g c.args.lost marks bytes new (subst (λ p. IsRebuiltFrom g c.args.lost p new) laid c.in_ok-rebuild_into.ensures.rebuilt)
