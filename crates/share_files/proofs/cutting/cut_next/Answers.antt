use Rattle.std.proofs.Common.{◌≡◌, length, ◌∙◌}
use Rattle.clay_aloof.specs.Shape.{stripe_bytes}
use Rattle.share_files.proofs.CutLemmas.{places_fit, front_goes_on, stays}
use Rattle.share_files.proofs.cutting.cut_next.Goals as goal

pub write_stripe-requires-clause-place : goal.write_stripe-requires-clause-place
write_stripe-requires-clause-place g c =
    places_fit c.args.geometry c.args.number c.args.size c.requires.aloof c.requires.whole c.requires.bounded

pub returns-in-Ok-write_stripe-clause-on : goal.returns-in-Ok-write_stripe-clause-on
returns-in-Ok-write_stripe-clause-on g c =
    let long : length c.read_stripe.new.stripe ≡ stripe_bytes c.args.geometry = c.read_stripe.auto.stripe ∙ c.requires.stripe in
    front_goes_on c.args.geometry c.args.number c.args.size c.in-Ok.n c.read_stripe.new.stripe _ _ c.requires.aloof c.requires.whole c.if-n-eq0.false
    c.in-Ok.ensures.within long c.in-Ok.ensures.filled c.in-Ok-write_stripe.ensures.written

pub returns-then-n-eq0-clause-on : goal.returns-then-n-eq0-clause-on
returns-then-n-eq0-clause-on g c = stays c.args.geometry c.args.size c.in-Ok.n c.read_stripe.new.stripe _ c.if-n-eq0.true
