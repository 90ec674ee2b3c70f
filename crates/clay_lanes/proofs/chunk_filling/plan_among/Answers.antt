use Rattle.std.proofs.Common.{◌≤◌, ◌+◌, slice_range, sym, subst, ◌∙◌}
use Rattle.std.specs.Option.{option_map}
use Rattle.std.proofs.lemmas.List.{length-map}
use Rattle.std.proofs.lemmas.Result.{IfOk-weaker}
use Rattle.clay_grid.specs.Shape.{chunk_length}
use Rattle.lane_repair.specs.Views.{laid_pieces, EndWithin}
use Rattle.clay_lanes.specs.Present.{is_gone}
use Rattle.clay_lanes.specs.Recovered.{IsPlanFor}
use Rattle.clay_lanes.proofs.Shown.{count_none}
use Rattle.clay_lanes.proofs.chunk_filling.plan_among.Goals as goal

pub plan_of-requires-clause-count : goal.plan_of-requires-clause-count
plan_of-requires-clause-count c =
    length-map c.args.starts.now (option_map (λ start. slice_range c.args.chunks.now start (start + c.chunk_len.result))) ∙ c.requires.count

pub plan_of-requires-clause-few : goal.plan_of-requires-clause-few
plan_of-requires-clause-few c =
    subst (λ n. n ≤ c.args.g.parity_count) (sym (count_none (λ start. slice_range c.args.chunks.now start (start + c.chunk_len.result)) c.args.starts.now)) c.requires.few

pub plan_of-requires-clause-room : goal.plan_of-requires-clause-room
plan_of-requires-clause-room c = subst (EndWithin c.args.chunks.now c.args.starts.now) (sym c.chunk_len.ensures.value) c.requires.room

pub returns : goal.returns
returns c =
    let g = c.args.g in
    let shown = laid_pieces c.args.chunks.now c.args.starts.now in
    IfOk-weaker c.plan_of.result (IsPlanFor g (is_gone g (shown c.chunk_len.result))) (IsPlanFor g (is_gone g (shown (chunk_length g))))
    (λ plan is. subst (λ len. IsPlanFor g (is_gone g (shown len)) plan) c.chunk_len.ensures.value is) c.plan_of.ensures
