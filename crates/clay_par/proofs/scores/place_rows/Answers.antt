use Rattle.std.proofs.Common.{◌≡◌, ℕ, ◌+◌, ◌-◌, ◌*◌, ◌<◌, ◌≤◌, List, length, get_or, sym, ap, ◌∙◌, inl, inr, arith}
use Rattle.std.proofs.lemmas.Bool.{cases_eq}
use Rattle.code_laws.proofs.Pieces.{piece_fits}
use borrow.Rule.Slice.PartMut.{put_mid}
use Rattle.clay_par.proofs.ScoreLemmas.{part_at, part_long, put_here, put_elsewhere}
use Rattle.clay_par.proofs.scores.place_rows.Goals as goal

pub loop-i-preserved : goal.loop-i-preserved
loop-i-preserved c =
    let part : ℕ = c.args.part in
    let layers : List ℕ = c.args.layers.now in
    let rows : List ℕ = c.args.rows.now in
    let at : ℕ = c.loop-i.i in
    let z : ℕ = get_or layers at 0 in
    let k : ℕ = z * part + part - z * part in
    let width : k ≡ part = omega arith in
    let old : List ℕ = c.loop-i.solved in
    let new : List ℕ = c.copy_from_slice.new.self in
    let room : z * part + part ≤ length old = let inside = c.requires.inside at c.loop-i-test.true in omega (arith, inside, c.loop-i.auto.solved) in
    let fitting : at * part + part ≤ length layers * part = piece_fits at (length layers) part c.loop-i-test.true in
    let from : at * part + part ≤ length rows = omega (arith, fitting, c.requires.rows_len) in
    let taken : at * part + part - at * part ≡ part = omega arith in
    let long : length new ≡ part = ap length c.copy_from_slice.ensures.after ∙ part_long rows (at * part) (at * part + part - at * part) part taken from in
    let done : List ℕ = put_mid (z * part) k old new in
    record {
      placed = λ i o hi ho. elim (cases_eq i at) [
        | inl same ↦
            ap (λ n. get_or done (get_or layers n 0 * part + o) 0) same
            ∙ put_here z part (z * part) k old new (λ t. z * part) room long o ho
            ∙ ap (λ l. get_or l o 0) c.copy_from_slice.ensures.after
            ∙ part_at rows (at * part) (at * part + part - at * part) part o taken ho
            ∙ ap (λ n. get_or rows (n * part + o) 0) (sym same)
        | inr other ↦
            let early : i < at = omega (arith, hi, other) in
            put_elsewhere (get_or layers i 0) z part (z * part) k old new (c.requires.different i at early c.loop-i-test.true) (λ t. z * part) width room long o ho
            ∙ c.loop-i.invariant.placed i o early ho
      ];
      kept = λ y o ho others.
          put_elsewhere y z part (z * part) k old new (λ same. others at (omega arith) (sym same)) (λ t. z * part) width room long o ho
          ∙ c.loop-i.invariant.kept y o ho (λ i hi. others i (omega (arith, hi)));
    }
