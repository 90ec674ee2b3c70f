use Rattle.std.proofs.Common.{◌∙◌, arith}
use Rattle.clay_aloof.specs.Shape.{grid_of}
use Rattle.clay_aloof.specs.Known.{node_bytes}
use Rattle.clay_aloof.proofs.Laid.{parity_codes}
use Rattle.clay_aloof.proofs.aloof_chunks.parity_by.Goals as goal

pub returns-clause-parity : goal.returns-clause-parity
returns-clause-parity c =
    let g = c.args.g in
    parity_codes g c.args.stripe.now c.args.plan.now (node_bytes (grid_of g) c.known_stripe-known.result) c.couple_chunks.new.parity
    c.requires.plan c.known_stripe-known.ensures.spread c.requires.stripe (λ p. omega (arith, c.type_inv.stripe p))
    (c.couple_chunks.auto.parity ∙ c.requires.parity) c.couple_chunks.ensures
