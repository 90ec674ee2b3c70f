use Rattle.run_laws.proofs.DrawnPasses.{steps_keep_drawn}
use Rattle.run_laws.proofs.laws_of_soundness.steps_keep_drawn_versions_in_passes.Goals as goal

pub returns : goal.returns
returns c = steps_keep_drawn
