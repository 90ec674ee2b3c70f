use Rattle.share_files.proofs.AnyShares.{shares_pass, shares_enough}
use Rattle.share_files.proofs.laws_of_joins.any_shares_join.Goals as goal

pub returns-clause-pass : goal.returns-clause-pass
returns-clause-pass c = shares_pass

pub returns-clause-enough : goal.returns-clause-enough
returns-clause-enough c = λ h erased file files i olds news aloof shares. shares_enough h erased file files aloof shares i olds news
