use Rattle.std.proofs.Common.{ap, ◌∙◌}
use Rattle.clay_grid.specs.Shape.{chunk_count}
use Rattle.version_seal.specs.Entry.{BookOf}
use Rattle.sweeper.specs.Sweeps.{new_sweeper}
use Rattle.session_store.proofs.SweepSteps.{sweeps_none, sweeps_more}
use Rattle.session_store.proofs.session_sweeps.sweep_all.Goals as goal

pub loop-places-init : goal.loop-places-init
loop-places-init c =
    sweeps_none c.args.places.now c.requires c.new-sweeper.result
    (c.new-sweeper.ensures ∙ ap new_sweeper (c.n.ensures.value ∙ ap chunk_count (c.geometry-geometry.ensures ∙ ap (λ (b : BookOf). b.geometry) c.opening.ensures)))

pub loop-places-preserved : goal.loop-places-preserved
loop-places-preserved c =
    sweeps_more c.args.places.now c.loop-places.places c.sweep_step.new.places c.loop-places.sweeper c.sweep_step.new.sweeper c.loop-places.invariant c.sweep_step.ensures.swept
