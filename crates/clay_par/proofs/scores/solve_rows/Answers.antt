use Rattle.std.proofs.Common.{◌≡◌, ℕ, ◌+◌, ◌*◌, ◌<◌, length, sym, ap, ◌∙◌, arith}
use Rattle.clay_par.proofs.ScoreLemmas.{share_of_chunk, rows_place}
use Rattle.clay_par.proofs.scores.solve_rows.Goals as goal

pub par_chunks_mut_for_each-requires-clause-accepts : goal.par_chunks_mut_for_each-requires-clause-accepts
par_chunks_mut_for_each-requires-clause-accepts g c κs within = λ start p is.
    let plan = c.args.plan.now in
    let part : ℕ = length plan.points.items * c.args.len in
    let points : c.len.result ≡ length plan.points.items = omega (arith, c.len.ensures, plan.points.ok.0) in
    let size_is : c.share_count.result * (c.len.result * c.args.len) ≡ c.share_count.result * part = ap (λ n. c.share_count.result * (n * c.args.len)) points in
    let inside = is.in_bounds in (
      c.requires.plan,
      c.requires.within,
      c.requires.short,
      c.requires.some,
      c.requires.solved_len,
      c.requires.next,
      share_of_chunk part c.share_count.result (c.share_count.result * (c.len.result * c.args.len)) (length c.args.rows.now) start (length p.now) c.args.layers.now
          c.requires.some size_is c.requires.rows_len is.start_is_multiple is.len is.nonempty inside,
    )

pub returns : goal.returns
returns g c = record {
  bytes = λ word fit i e b hi he hb.
      let points = c.args.plan.now.points.items in
      let p : ℕ = (i * length points + e) * c.args.len + b in
      let below : p < length c.args.rows.now = rows_place (length c.args.layers.now) (length points) c.args.len i e b (length c.args.rows.now) hi he hb c.requires.rows_len in
      let k = (c.par_chunks_mut_for_each.ensures.by_index p 0 below).1 in
      sym k.new_element ∙ (k.call k.offset k.offset_in_chunk).value word fit i e b hi he hb k.start_plus_offset;
}
