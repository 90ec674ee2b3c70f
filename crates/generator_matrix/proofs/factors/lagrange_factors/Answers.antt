use Rattle.std.proofs.Common.{◌≡◌, ℕ, ◌*◌, ◌/◌, ◌++◌, length, get_or, sym, ap, ◌∙◌, arith}
use Rattle.std.proofs.Math.Nat.{mul_assoc}
use Rattle.std.proofs.lemmas.List.{length-append}
use Rattle.clay_field.specs.Field.{product, inverse_of}
use Rattle.generator_matrix.specs.Distances.{distances, lagrange_factor}
use Rattle.generator_matrix.proofs.DistanceLaws.{own_nonzero, row_below, blocks_more}
use Rattle.generator_matrix.proofs.factors.lagrange_factors.Goals as goal

pub inv-scale-requires : goal.inv-scale-requires
inv-scale-requires c none =
    let unknown = c.args.unknown.now in
    let blocks : ℕ = length c.args.nodes.now / 16 in
    let own : ℕ = c.loop-b.b / blocks in
    own_nonzero unknown own (row_below c.loop-b.b (length unknown) blocks c.loop-b-test.true) c.requires.distinct (λ e. (c.type_inv.unknown e).fits) (sym c.own_distances.ensures ∙ none)

pub loop-b-preserved : goal.loop-b-preserved
loop-b-preserved c =
    let unknown = c.args.unknown.now in
    let nodes = c.args.nodes.now in
    let blocks : ℕ = length nodes / 16 in
    let at = c.loop-b in
    let own : ℕ = at.b / blocks in
    let block = c.scaled_distances-of_block.result in
    let longer : c.extend_from_slice.new.self.items ≡ at.factors.items ++ block = c.in_ok-extend_from_slice.ensures.items in
    let block_long : length block ≡ 16 = c.scaled_distances-of_block.ensures.len in
    let size : blocks * 16 ≡ length nodes = omega (arith, c.requires.blocks) in
    record {
      long = ap length longer ∙ length-append at.factors.items block ∙ omega (arith, at.invariant.long, block_long);
      done = λ p h. ap (λ l. get_or l p 0) longer
          ∙ blocks_more (length unknown) blocks at.b nodes at.factors.items block (lagrange_factor unknown) c.loop-b-test.true size at.invariant.long block_long at.invariant.done
          (λ k l. c.scaled_distances-of_block.ensures.value k l
          ∙ (λ i. product (distances unknown own (c.block_at.ensures k l i)) ((c.inv-scale.ensures.value ∙ ap inverse_of c.own_distances.ensures) i)))
          p h;
    }

pub returns-clause-len : goal.returns-clause-len
returns-clause-len c =
    let rows : ℕ = length c.args.unknown.now in
    let blocks : ℕ = length c.args.nodes.now / 16 in
    let size : blocks * 16 ≡ length c.args.nodes.now = omega (arith, c.requires.blocks) in
    let all : c.loop-b.b ≡ rows * blocks = omega (arith, c.loop-b-test.false, c.loop-b.auto.b-end) in
    c.loop-b.invariant.long ∙ ap (λ b. b * 16) all ∙ mul_assoc rows blocks 16 ∙ ap (λ n. rows * n) size

pub returns-clause-value : goal.returns-clause-value
returns-clause-value c p h =
    let long = returns-clause-len c in
    c.loop-b.invariant.done p (omega (arith, h, long, c.loop-b.invariant.long))
