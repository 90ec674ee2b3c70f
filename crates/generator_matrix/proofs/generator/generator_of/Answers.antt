use Rattle.std.proofs.Common.{◌≡◌, ◌*◌, ◌<◌, length, get_or, sym, subst, ap, ◌∙◌}
use Rattle.clay_grid.specs.Shape.{node_count}
use Rattle.generator_matrix.proofs.GeneratorLaws.{all_generates}
use Rattle.generator_matrix.proofs.generator.generator_of.Goals as goal

pub returns : goal.returns
returns c =
    let g = c.args.g in
    let made = c.in_ok-generator.generator in
    let kept = c.in_ok-generator.ensures in
    let known_long : length c.deref.result.now ≡ node_count g = ap length c.deref.ensures.value ∙ c.in_ok-all.ensures.len ∙ c.nodes.ensures.value in
    record {
      count = kept.count;
      long = kept.long ∙ ap (λ n. n * length c.args.points.now) known_long;
      generates = all_generates (node_count g) c.args.points.now c.deref.result.now made.each known_long
          (λ i h. ap (λ l. get_or l i 0) c.deref.ensures.value ∙ c.in_ok-all.ensures.value i (subst (λ n. i < n) (sym c.nodes.ensures.value) h))
          kept.generates;
    }
