use Rattle.std.proofs.Common.{◌≡◌, ℕ, ◌+◌, ◌-◌, ◌*◌, ◌/◌, ◌%◌, ◌<◌, ◌≤◌, List, length, get_or, take, drop, sym, subst, ap, ◌∙◌, arith}
use Rattle.std.proofs.lemmas.List.Edits.{length-between}
use borrow.Rule.Slice.PartMut.{put_mid}
use Rattle.clay_grid.specs.Shape.{row_count, layer_count, chunk_length}
use Rattle.clay_parity.specs.Blocks.{HoldsGroup, coupled_of, piece_bytes}
use Rattle.clay_parity.proofs.ChunkLists.{group_bytes}
use Rattle.clay_parity.proofs.ParityLemmas.{groups, group_below}
use Rattle.clay_parity.proofs.FlatLemmas.{one_more_part}
use Rattle.clay_par.specs.declared.parity.Group.{Group}
use Rattle.clay_par.proofs.parity.write_row.Goals as goal

pub slice_bounds-out-end : goal.slice_bounds-out-end
slice_bounds-out-end c =
    let g = c.args.g in
    let n = c.loop-number.number in
    let part : ℕ = g.parity_count * g.width in
    let size : c.q.result * c.w.result ≡ part = λ i. c.q.ensures.value i * c.w.ensures.value i in
    let fits = group_below g c.q.ensures.geometry n (omega (arith, c.loop-number-test.true, c.requires.groups.count)) in
    let from : n * (c.q.result * c.w.result) ≡ n * part = ap (λ p. n * p) size in
    let ends : n * (c.q.result * c.w.result) + c.q.result * c.w.result ≤ length c.loop-number.chunk = omega (arith, from, size, fits, c.loop-number.auto.chunk, c.requires.chunk_len) in
    ends

pub loop-number-preserved : goal.loop-number-preserved
loop-number-preserved c = λ value holds.
    let g = c.args.g in
    let m : ℕ = g.parity_count in
    let w : ℕ = g.width in
    let part : ℕ = m * w in
    let n = c.loop-number.number in
    let group : Group = c.index-groups-number.result in
    let old : List ℕ = c.loop-number.chunk in
    let new : List ℕ = c.write_pieces.new.out in
    let size : part ≡ c.q.result * c.w.result = λ i. sym c.q.ensures.value i * sym c.w.ensures.value i in
    let wide = c.q.ensures.geometry.limits.width.0 in
    let fits = group_below g c.q.ensures.geometry n (omega (arith, c.loop-number-test.true, c.requires.groups.count)) in
    let old_long : length old ≡ chunk_length g = c.loop-number.auto.chunk ∙ c.requires.chunk_len in
    let width : n * part + part - n * part ≡ part = omega arith in
    let long : length new ≡ part =
    c.write_pieces.auto.out
    ∙ (λ i. length (take (n * sym size i + sym size i - n * sym size i) (drop (n * sym size i) old)))
    ∙ length-between old (n * part) (n * part + part) (omega arith) ∙ width in
    let same : c.deref.result.now ≡ (get_or c.args.groups.now n group).solved.items = c.deref.ensures.value ∙ ap (λ (x : Group). x.solved.items) c.index-groups-number.is in
    let here : HoldsGroup m w n m value c.deref.result.now = subst (HoldsGroup m w n m value) (sym same) (holds n group c.loop-number-test.true) in
    let next : (n + 1) * part ≡ n * part + part = omega arith in
    let written : (o : ℕ) → o < n * part + part → get_or (put_mid (n * part) (n * part + part - n * part) old new) o 0 ≡ coupled_of m value c.args.row (o / w) (o % w) =
    one_more_part (n * part) part (n * part + part - n * part) (λ o. coupled_of m value c.args.row (o / w) (o % w)) old new (omega arith) long
    (c.loop-number.invariant value holds)
    (λ o ho. c.write_pieces.ensures o ho ∙ group_bytes m w n value c.deref.result.now c.args.row o (omega arith) c.requires.row ho here) in
    subst (λ p. (o : ℕ) → o < (n + 1) * part → get_or (put_mid (n * p) (n * p + p - n * p) old new) o 0 ≡ coupled_of m value c.args.row (o / w) (o % w)) size
    (λ o ho. written o (subst (λ e. o < e) next ho))

pub returns : goal.returns
returns c = λ value holds o ho.
    let g = c.args.g in
    let all = groups g c.q.ensures.geometry in
    let count : c.loop-number.number ≡ layer_count g / row_count g = omega (arith, c.loop-number-test.false, c.requires.groups.count) in
    c.loop-number.invariant value holds o (subst (λ n. o < n * (g.parity_count * g.width)) (sym count) (omega (arith, all, ho)))
