use Rattle.std.proofs.Common.{◌≤◌, sym, ap, ◌∙◌, subst}
use Rattle.std.specs.Int.{div_ceil}
use Rattle.clay_aloof.specs.Shape.{stripe_bytes}
use Rattle.share_format.proofs.HeaderBack.{stripe_some, ceil_is}
use Rattle.share_format.proofs.header.stripes_of.Goals as goal

pub div_ceil-requires : goal.div_ceil-requires
div_ceil-requires c =
    subst (λ v. 1 ≤ v) (sym (c.from.ensures ∙ c.stripe_len.ensures.value)) (stripe_some c.args.geometry c.stripe_len.ensures.geometry)

pub returns : goal.returns
returns c =
    c.div_ceil.ensures ∙ ap (λ v. div_ceil c.args.size v) (c.from.ensures ∙ c.stripe_len.ensures.value)
    ∙ ceil_is c.args.size (stripe_bytes c.args.geometry) (stripe_some c.args.geometry c.stripe_len.ensures.geometry)
