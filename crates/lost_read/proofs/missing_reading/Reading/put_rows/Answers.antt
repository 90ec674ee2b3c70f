use Rattle.std.proofs.Common.{◌≡◌, ℕ, ◌+◌, ◌-◌, ◌*◌, ◌≤◌, length, get_or, ap, ◌∙◌, arith}
use Rattle.std.proofs.lemmas.List.{get_or_read}
use Rattle.clay_grid.specs.Shape.{layer_count}
use Rattle.code_laws.proofs.Pieces.{piece_fits}
use Rattle.lost_read.specs.MissingPlan.{rank}
use Rattle.lost_read.specs.MissingReadings.{run_of}
use Rattle.lost_read.proofs.MissingReadLaws.{rank_below, put_within, put_elsewhere, ranks_apart}
use Rattle.lost_read.proofs.missing_reading.Reading.put_rows.Goals as goal

pub slice_bounds-copy_from_slice-end : goal.slice_bounds-copy_from_slice-end
slice_bounds-copy_from_slice-end c =
    let e = run_of c.args.self.now in
    let part : ℕ = length c.args.self.now.plan.now.points.items * e.g.width in
    let r : ℕ = rank e c.args.layer in
    let ranks = c.requires.reading.planned.ranks_are in
    let rank_is : c.index.result.now ≡ r =
    get_or_read c.args.self.now.plan.now.ranks.items c.args.layer c.index.result.now (omega (arith, c.requires.layer, ranks.len)) c.index.ensures 0
    ∙ ranks.each c.args.layer (omega (arith, c.requires.layer)) in
    let at_is : c.index.result.now * length c.args.rows.now ≡ r * part = λ k. rank_is k * c.requires.rows_len k in
    let fits = piece_fits r (rank e (layer_count e.g)) part (rank_below e c.args.layer (layer_count e.g) c.requires.solved c.requires.layer) in
    let ends : c.index.result.now * length c.args.rows.now + length c.args.rows.now ≤ length c.args.values.now = omega (arith, at_is, fits, c.requires.values_len, c.requires.rows_len) in
    ends

pub returns : goal.returns
returns c =
    let e = run_of c.args.self.now in
    let m : ℕ = length c.args.self.now.plan.now.points.items in
    let w : ℕ = e.g.width in
    let r : ℕ = rank e c.args.layer in
    let rows = c.args.rows.now in
    let values = c.args.values.now in
    let put = c.copy_from_slice.new.self in
    let put_is : put ≡ rows = c.copy_from_slice.ensures.after in
    let ranks = c.requires.reading.planned.ranks_are in
    let rank_is : c.index.result.now ≡ r =
    get_or_read c.args.self.now.plan.now.ranks.items c.args.layer c.index.result.now (omega (arith, c.requires.layer, ranks.len)) c.index.ensures 0
    ∙ ranks.each c.args.layer (omega (arith, c.requires.layer)) in
    let at : ℕ = c.index.result.now * length rows in
    let at_is : at ≡ r * (m * w) = λ k. rank_is k * c.requires.rows_len k in
    let width : at + length rows - at ≡ m * w = omega (arith, c.requires.rows_len) in
    let long : length put ≡ m * w = ap length put_is ∙ c.requires.rows_len in
    let fits = piece_fits r (rank e (layer_count e.g)) (m * w) (rank_below e c.args.layer (layer_count e.g) c.requires.solved c.requires.layer) in
    let room : at + (at + length rows - at) ≤ length values = omega (arith, at_is, width, fits, c.requires.values_len) in
    record {
      added = λ solved word fits a b ha hb.
          put_within r m a w b at (at + length rows - at) values put at_is (omega (arith, room)) long ha hb
          ∙ ap (λ l. get_or l (a * w + b) 0) put_is
          ∙ c.requires.rows word fits a b ha hb;
      kept = λ p hp solved other before word fits a b ha hb.
          put_elsewhere r (rank e p) m a w b at (at + length rows - at) values put at_is width room long ha hb (ranks_apart e c.args.layer p c.requires.solved solved other)
          ∙ before word fits a b ha hb;
    }
