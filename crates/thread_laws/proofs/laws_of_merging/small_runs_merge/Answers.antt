use Rattle.thread_laws.proofs.Small.{stats_merge, short_merges}
use Rattle.thread_laws.proofs.Reading.{read_merges}
use Rattle.thread_laws.proofs.laws_of_merging.small_runs_merge.Goals as goal

pub returns-clause-stats : goal.returns-clause-stats
returns-clause-stats c = stats_merge

pub returns-clause-short : goal.returns-clause-short
returns-clause-short c = short_merges

pub returns-clause-read : goal.returns-clause-read
returns-clause-read c = read_merges
