use Rattle.std.proofs.Common.{ap, sym, ◌∙◌}
use Rattle.dir_parts.specs.OpenPass.{Open}
use Rattle.store_core.specs.Lookups.{same_actor}
use Rattle.dir_parts.proofs.Actors.{stops_at, ends_at}
use Rattle.dir_parts.proofs.passes.place_of.Goals as goal

pub returns-then-is_same : goal.returns-then-is_same
returns-then-is_same c =
    stops_at (λ (p : Open). same_actor c.args.actor p.pass.actor) c.args.calls.now c.loop-at.at c.index-calls-at.result c.loop-at-test.true c.index-calls-at.is
    (ap (λ (p : Open). same_actor c.args.actor p.pass.actor) (sym c.one.view_is) ∙ sym c.is_same.ensures ∙ c.if-is_same.true) c.loop-at.invariant.1

pub returns : goal.returns
returns c = ends_at (λ (p : Open). same_actor c.args.actor p.pass.actor) c.args.calls.now c.loop-at.at c.loop-at-test.false c.loop-at.invariant.1
