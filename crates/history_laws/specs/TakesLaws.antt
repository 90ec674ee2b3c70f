-- What calls took in a run is what the servers gave.
use Rattle.hist_rules.specs.IsHistory.{TakesAddUp}
use Rattle.history_laws.specs.HistoryLaws.{RunsShow}

-- what calls took is what the servers gave, and no server is emptied but by the operator
abbrev pub RunsAddUp : Type 0
RunsAddUp = RunsShow TakesAddUp
