-- A layer that is written where a plan has it.
use Rattle.std.proofs.Common.{◌≡◌, ℕ, subst, ◌*◌, ◌^◌, ◌<◌, List, length, get_or, Option, Vec, Global, sym}
use Rattle.clay_grid.specs.Shape.{Shape, node_count, layer_count}
use Rattle.clay_model.specs.Sums.{weighted_sum, present_value}
use Rattle.clay_model.specs.Points.{byte_of, HaveSums}
use borrow.Rule.Slice.PartMut.{put_mid}
use Rattle.clay_decode.specs.declared.plain_plan.PlainDecodePlan.{PlainDecodePlan}
use Rattle.clay_decode.specs.Plan.{IsPlan}
use Rattle.code_laws.specs.Solved.{HoldsPresent, HoldsLayer}
use Rattle.code_laws.proofs.Layer.{layer_written}

pub layer_written_at : (g : Shape) (have : List (Option (Vec ℕ Global))) (plan : PlainDecodePlan) → IsPlan g have plan
    → (n at k : ℕ) (layer sums solved ys : List ℕ) → n < layer_count g → at ≡ n * (length plan.points.items * g.width) → k ≡ length plan.points.items * g.width
    → length solved ≡ layer_count g * (length plan.points.items * g.width) → length ys ≡ length plan.points.items * g.width
    → HoldsPresent g have plan.erased.items n (node_count g) layer
    → ((j b : ℕ) → j < length plan.points.items → b < g.width → byte_of sums g.width b j ≡ weighted_sum (node_count g) (present_value layer plan.erased.items g.width b) j)
    → HaveSums plan.points.items g.width ys sums → ((p : ℕ) → get_or (put_mid at k solved ys) p 0 < 2 ^ 8) → HoldsLayer g have plan.points.items n (put_mid at k solved ys)
layer_written_at g have plan is n at k layer sums solved ys below at_is width long ys_long holds summed have_sums bytes =
    subst (λ a. HoldsLayer g have plan.points.items n (put_mid a k solved ys)) (sym at_is)
    (layer_written g have plan.erased.items plan.points.items is.geometry is.few is.points_are n k layer sums solved ys below width long ys_long holds summed have_sums
    (λ p. subst (λ a. get_or (put_mid a k solved ys) p 0 < 2 ^ 8) at_is (bytes p)))
