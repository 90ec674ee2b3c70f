use Rattle.std.proofs.Common.{◌+◌, ap, ◌∙◌, get_or}
use Rattle.session_store.specs.Healing.{low}
use Rattle.session_store.proofs.Healing.{low_more}
use Rattle.session_store.proofs.heals.add_counts.Goals as goal

pub loop-i-preserved : goal.loop-i-preserved
loop-i-preserved c =
    low_more c.args.taken.now c.args.takes.now c.loop-i.taken c.loop-i.i c.saturating_add.result c.requires c.loop-i-test.true c.loop-i.invariant
    (c.saturating_add.ensures ∙ ap (λ l. low (get_or c.loop-i.taken c.loop-i.i 0 + get_or l c.loop-i.i 0)) c.counts-counts.ensures)
