use Rattle.std.proofs.Common.{◌≡◌, ◌≤◌, length, count_by, is_none, sym, subst, ap, ◌∙◌}
use Rattle.clay_grid.specs.Shape.{chunk_count, chunk_length}
use Rattle.lane_repair.specs.Views.{laid_pieces}
use Rattle.clay_lanes.specs.Present.{is_gone}
use Rattle.clay_lanes.specs.Recovered.{IsPlanFor}
use Rattle.clay_lanes.specs.Places.{AreFilledFrom}
use Rattle.clay_lanes.specs.Standing.{starts_left}
use Rattle.clay_lanes.proofs.FillLemmas.{length-starts, starts_placed, few_starts, starts_show, starts_room, laid_chunks}
use Rattle.clay_lanes.proofs.chunk_filling.recover_into.Goals as goal

pub plan_among-requires-clause-count : goal.plan_among-requires-clause-count
plan_among-requires-clause-count c =
    ap length (c.deref.ensures.value ∙ c.in_ok-starts.ensures) ∙ length-starts c.args.g c.args.missing.now (chunk_count c.args.g)

pub plan_among-requires-clause-few : goal.plan_among-requires-clause-few
plan_among-requires-clause-few c =
    let g = c.args.g in
    let missing = c.args.missing.now in
    let are : c.deref.result.now ≡ starts_left g missing (length missing) = c.deref.ensures.value ∙ c.in_ok-starts.ensures ∙ ap (starts_left g missing) (sym c.requires.count) in
    subst (λ n. n ≤ g.parity_count) (sym (ap (count_by is_none) are ∙ few_starts g missing)) c.requires.few

pub plan_among-requires-clause-room : goal.plan_among-requires-clause-room
plan_among-requires-clause-room c = starts_room c.args.g c.args.missing.now c.deref.result.now c.args.chunks.now (c.deref.ensures.value ∙ c.in_ok-starts.ensures) c.requires.chunks_len

pub fill_all-requires-clause-left : goal.fill_all-requires-clause-left
fill_all-requires-clause-left c =
    let g = c.args.g in
    let missing = c.args.missing.now in
    let are : c.deref-2.result.now ≡ starts_left g missing (chunk_count g) = c.deref-2.ensures.value ∙ c.in_ok-starts.ensures in
    laid_chunks g c.deref-2.result.now c.args.chunks.now (ap length are ∙ length-starts g missing (chunk_count g)) (starts_room g missing c.deref-2.result.now c.args.chunks.now are c.requires.chunks_len)

pub fill_all-requires-clause-places : goal.fill_all-requires-clause-places
fill_all-requires-clause-places c = starts_placed c.args.g c.args.missing.now c.deref-2.result.now (c.deref-2.ensures.value ∙ c.in_ok-starts.ensures)

pub returns-clause-filled : goal.returns-clause-filled
returns-clause-filled c =
    let g = c.args.g in
    let missing = c.args.missing.now in
    let are : c.deref-2.result.now ≡ starts_left g missing (chunk_count g) = c.deref-2.ensures.value ∙ c.in_ok-starts.ensures in
    subst (λ p. AreFilledFrom g p c.args.chunks.now c.fill_all.new.chunks) (ap (λ s. laid_pieces c.args.chunks.now s (chunk_length g)) are ∙ starts_show g missing c.args.chunks.now) c.in_ok-fill_all.ensures.filled

pub fill_all-requires-clause-plan : goal.fill_all-requires-clause-plan
fill_all-requires-clause-plan c =
    let g = c.args.g in
    subst (λ s. IsPlanFor g (is_gone g (laid_pieces c.args.chunks.now s (chunk_length g))) c.in_ok-plan.plan) (c.deref.ensures.value ∙ sym c.deref-2.ensures.value) c.in_ok-plan.ensures
