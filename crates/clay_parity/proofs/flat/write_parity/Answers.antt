use Rattle.std.proofs.Common.{◌∙◌, arith}
use Rattle.clay_parity.proofs.FlatLemmas.{flat_codes}
use Rattle.clay_parity.proofs.flat.write_parity.Goals as goal

pub returns-clause-parity : goal.returns-clause-parity
returns-clause-parity c =
    let made = c.args.generator.now in
    flat_codes c.args.g c.q-q.ensures.geometry made.each c.args.stripe.now made.unknown c.requires.generator c.write_groups.new.out
    c.requires.stripe (λ i. omega (arith, c.type_inv.stripe i)) (c.write_groups.auto.out ∙ c.requires.chunks) c.write_groups.ensures
