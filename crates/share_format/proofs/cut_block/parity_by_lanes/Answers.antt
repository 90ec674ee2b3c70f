use Rattle.std.proofs.Common.{◌*◌, sym, subst, ap, ◌∙◌}
use Rattle.clay_grid.specs.Shape.{chunk_length, stripe_length}
use Rattle.clay_parity.specs.Flat.{IsParity}
use Rattle.share_format.proofs.Full.{full_where, parity_codes, full_stripe, full_parity}
use Rattle.share_format.proofs.cut_block.parity_by_lanes.Goals as goal

pub parity_into-requires-clause-stripe : goal.parity_into-requires-clause-stripe
parity_into-requires-clause-stripe c =
    full_stripe c.args.g (full_where c.args.g c.grid.ensures.geometry c.requires.full) c.args.stripe.now c.requires.stripe
    ∙ ap stripe_length (sym c.grid.ensures.value)

pub parity_into-requires-clause-chunks : goal.parity_into-requires-clause-chunks
parity_into-requires-clause-chunks c =
    full_parity c.args.g (full_where c.args.g c.grid.ensures.geometry c.requires.full) c.args.parity.now c.requires.parity
    ∙ ap (λ s. s.parity_count * chunk_length s) (sym c.grid.ensures.value)

pub returns : goal.returns
returns c =
    let new = c.parity_into.new.chunks in
    parity_codes c.args.g (full_where c.args.g c.grid.ensures.geometry c.requires.full) c.args.stripe.now new
    (subst (λ s. IsParity s c.args.stripe.now new) c.grid.ensures.value c.in_ok-parity_into.ensures.parity)
