use Rattle.std.proofs.Common.{◌≡◌, [], ◌∷◌, sym, ap, ◌∙◌}
use Rattle.std.proofs.lemmas.Result.{IfOk-weaker}
use Rattle.hist_rules.specs.First.{first_of, first_fault_along}
use Rattle.hist_rules.specs.CallsExist.{calls_exist}
use Rattle.hist_rules.specs.PointsRise.{line_rises, points_rise}
use Rattle.hist_check.proofs.Groups.{line_tests}
use Rattle.hist_check.proofs.Tests.{found_at, last_decides}
use Rattle.hist_check.proofs.judging.find_wrong_line.Goals as goal

pub returns-in-Some : goal.returns-in-Some
returns-in-Some c = found_at (line_tests c.args.script.now c.args.transcript.now) 0 c.in-Some.fault tt (sym c.in-Some.ensures)

pub returns : goal.returns
returns c =
    IfOk-weaker c.find_fall.result (λ found. found ≡ first_fault_along line_rises c.as_slice.result.now) (λ found. found ≡ first_of (line_tests c.args.script.now c.args.transcript.now))
    (λ found is.
    is ∙ ap (first_fault_along line_rises) c.as_slice.ensures
    ∙ last_decides (calls_exist c.args.script.now c.args.transcript.now ∷ []) (points_rise c.args.transcript.now) ((sym c.in_default.ensures), tt))
    c.find_fall.ensures
