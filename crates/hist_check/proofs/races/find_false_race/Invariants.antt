use Rattle.std.proofs.Common.{◌≡◌, drop}
use Rattle.hist_rules.specs.First.{first_fault}
use Rattle.hist_rules.specs.LostRaces.{cause_of_races}
use Rattle.hist_check.proofs.races.find_false_race.Given as goal

abbrev pub invariant-loop-line : goal.invariant-loop-line
invariant-loop-line l =
    first_fault (λ line. cause_of_races l.script l.transcript line.call line.cause) (drop l.line-index l.lines)
    ≡ first_fault (λ line. cause_of_races l.script l.transcript line.call line.cause) l.lines
