use Rattle.std.proofs.Common.{◌≡◌, ℕ, ◌+◌, ◌-◌, ◌*◌, ◌/◌, List, length, get_or, take, drop, subst, sym, ap, ◌∙◌, arith}
use Rattle.std.proofs.Math.Nat.{mul-div_cancel}
use Rattle.clay_model.specs.Left.{Completes}
use Rattle.clay_lanes.specs.Recovered.{AreRowsOfLayers}
use Rattle.clay_par.proofs.ScoreLemmas.{part_long, share_right}
use Rattle.clay_par.proofs.scores.solve_share.Goals as goal

pub solve_some_layers-requires-clause-rows_len : goal.solve_some_layers-requires-clause-rows_len
solve_some_layers-requires-clause-rows_len c =
    let share = c.requires.share in
    let plan = c.args.plan.now in
    let part : ℕ = length plan.points.items * c.args.len in
    let points : c.len.result ≡ length plan.points.items = omega (arith, c.len.ensures, plan.points.ok.0) in
    let part_is : c.len.result * c.args.len ≡ part = ap (λ n. n * c.args.len) points in
    let first_is : c.args.start / (c.len.result * c.args.len) ≡ share.first =
    (λ t. share.begins t / part_is t) ∙ mul-div_cancel share.first c.requires.some in
    let count_is : length c.args.share.now / (c.len.result * c.args.len) ≡ share.count =
    (λ t. share.long t / part_is t) ∙ mul-div_cancel share.count c.requires.some in
    let first : ℕ = c.args.start / (c.len.result * c.args.len) in
    let count : ℕ = length c.args.share.now / (c.len.result * c.args.len) in
    let inside = share.inside in
    let long : length (take (first + count - first) (drop first c.args.layers.now)) ≡ count =
    part_long c.args.layers.now first (first + count - first) count (omega arith) (omega (arith, first_is, count_is, inside)) in
    share.long ∙ ap (λ n. n * part) (sym count_is ∙ sym long)

pub returns : goal.returns
returns c = λ o ho.
    let share = c.requires.share in
    let plan = c.args.plan.now in
    let layers : List ℕ = c.args.layers.now in
    let part : ℕ = length plan.points.items * c.args.len in
    let points : c.len.result ≡ length plan.points.items = omega (arith, c.len.ensures, plan.points.ok.0) in
    let part_is : c.len.result * c.args.len ≡ part = ap (λ n. n * c.args.len) points in
    let first : ℕ = c.args.start / (c.len.result * c.args.len) in
    let count : ℕ = length c.args.share.now / (c.len.result * c.args.len) in
    let first_is : first ≡ share.first = (λ t. share.begins t / part_is t) ∙ mul-div_cancel share.first c.requires.some in
    let count_is : count ≡ share.count = (λ t. share.long t / part_is t) ∙ mul-div_cancel share.count c.requires.some in
    let width : first + count - first ≡ share.count = omega (arith, count_is) in
    let rows = c.solve_some_layers.new.rows in
    let holds = subst (λ f. AreRowsOfLayers c.args.g (λ word. Completes c.args.g c.args.have.now word) c.args.at c.args.len plan.points.items (take (first + count - first) (drop f layers)) (length (take (first + count - first) (drop f layers))) rows) first_is c.solve_some_layers.ensures in
    share_right c.args.g c.args.have.now plan c.args.at c.args.len layers c.args.start (length c.args.share.now) (first + count - first) rows share width holds o ho
