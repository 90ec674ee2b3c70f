use Rattle.std.proofs.Common.{◌≡◌, ℕ, ◌+◌, ◌*◌, ◌/◌, ◌%◌, ◌<◌, get_or, length, subst, ◌∙◌, arith}
use Rattle.std.proofs.Math.Nat.{mul_comm}
use Rattle.generator_matrix.specs.Distances.{lagrange_factor}
use Rattle.generator_matrix.proofs.GeneratorLaws.{turned_generates}
use Rattle.generator_matrix.proofs.generator.Generator.new.Goals as goal

pub returns : goal.returns
returns c =
    let unknown = c.args.unknown.now in
    let known = c.args.known.now in
    let nodes = c.in_ok-nodes.nodes.items in
    let values = c.in_ok-values.values.items in
    let m = length unknown in
    let turn : length unknown * length known ≡ length known * length unknown = mul_comm (length unknown) (length known) in
    record {
      count = omega arith;
      long = omega (arith, c.in_ok-factors.ensures.len, turn);
      generates = turned_generates unknown known nodes values c.in_ok-factors.factors.items c.requires.distinct (λ e. (c.type_inv.unknown e).fits)
          (omega (arith, c.in_ok-nodes.ensures.len)) c.in_ok-nodes.ensures.nodes
          (subst (λ l. (p : ℕ) → p < m * length l → get_or values p 0 ≡ lagrange_factor unknown (p / length l) (get_or l (p % length l) 0)) c.deref.ensures.value c.in_ok-values.ensures.value)
          (λ p h. c.in_ok-factors.ensures.value p h ∙ (λ i. get_or (c.deref-2.ensures.value i) (p % m * (c.len.ensures ∙ c.in_ok-nodes.nodes.ok.0) i + p / m) 0));
    }
