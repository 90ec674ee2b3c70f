use Rattle.std.proofs.Common.{bytes_eq, sym, ap, ◌∙◌}
use Rattle.snapshot_view.specs.Snapshots.{KeptOf}
use Rattle.dir_parts.proofs.Actors.{stops_at, ends_at}
use Rattle.snapshot_view.proofs.kept.place_of.Goals as goal

pub returns-then-eq : goal.returns-then-eq
returns-then-eq c =
    stops_at (λ (kept : KeptOf). bytes_eq c.args.name.now kept.name) c.args.objects.now c.loop-at.at c.index-objects-at.result c.loop-at-test.true c.index-objects-at.is
    (ap (λ (kept : KeptOf). bytes_eq c.args.name.now kept.name) (sym c.one.view_is) ∙ sym c.eq.ensures ∙ c.if-eq.true) c.loop-at.invariant.1

pub returns : goal.returns
returns c = ends_at (λ (kept : KeptOf). bytes_eq c.args.name.now kept.name) c.args.objects.now c.loop-at.at c.loop-at-test.false c.loop-at.invariant.1
