use Rattle.run_laws.proofs.RunBytes.{all_runs_stand_for_the_map}
use Rattle.run_laws.proofs.laws_of_reads.runs_stand_for_the_map.Goals as goal

pub returns : goal.returns
returns c = all_runs_stand_for_the_map
