use Rattle.std.proofs.Common.{◌≡◌, ◌+◌, ◌-◌, ◌*◌, ◌<◌, length, get_or, subst, sym, ap, ◌∙◌, arith}
use Rattle.code_laws.specs.Columns.{first_parity}
use Rattle.generator_matrix.proofs.GeneratorLaws.{last_generates}
use Rattle.clay_parity.proofs.parity_layers.last_column.Goals as goal

pub new-requires-clause-few : goal.new-requires-clause-few
new-requires-clause-few c =
    let long = ap length c.deref.ensures.value ∙ c.in_ok-unknown.ensures.len in
    omega (arith, long, c.q.ensures.geometry.limits.parity_chunks.1)

pub new-requires-clause-distinct : goal.new-requires-clause-distinct
new-requires-clause-distinct c = λ d e l h same.
    let long = ap length c.deref.ensures.value ∙ c.in_ok-unknown.ensures.len in
    let at_e = ap (λ l. get_or l e 0) c.deref.ensures.value ∙ c.in_ok-unknown.ensures.value e (omega (arith, long)) in
    let at_d = ap (λ l. get_or l d 0) c.deref.ensures.value ∙ c.in_ok-unknown.ensures.value d (omega (arith, long)) in
    omega (arith, at_d, at_e, same)

pub new-requires-clause-nodes : goal.new-requires-clause-nodes
new-requires-clause-nodes c =
    let long = ap length c.deref-2.ensures.value ∙ c.in_ok-known.ensures.len in
    omega (arith, long, c.nodes.ensures.value, c.nodes.ensures.geometry.nodes)

pub returns : goal.returns
returns c =
    let g = c.args.g in
    let made = c.in_ok-generator.generator in
    let kept = c.in_ok-generator.ensures in
    let unknown_long : length c.deref.result.now ≡ g.parity_count = ap length c.deref.ensures.value ∙ c.in_ok-unknown.ensures.len ∙ c.q-2.ensures.value in
    let first : c.nodes.result - c.q.result ≡ first_parity g = λ i. c.nodes.ensures.value i - c.q.ensures.value i in
    let known_long : length c.deref-2.result.now ≡ first_parity g = ap length c.deref-2.ensures.value ∙ c.in_ok-known.ensures.len ∙ first in
    record {
      count = kept.count ∙ unknown_long;
      long = kept.long ∙ (λ i. known_long i * unknown_long i);
      generates = last_generates (first_parity g) g.parity_count c.deref.result.now c.deref-2.result.now made.each unknown_long known_long
          (λ e h. ap (λ l. get_or l e 0) c.deref.ensures.value ∙ c.in_ok-unknown.ensures.value e (subst (λ n. e < n) (sym c.q-2.ensures.value) h) ∙ ap (λ n. n + e) first)
          (λ i h. ap (λ l. get_or l i 0) c.deref-2.ensures.value ∙ c.in_ok-known.ensures.value i (subst (λ n. i < n) (sym first) h))
          kept.generates;
    }
