use Rattle.std.proofs.Common.{◌≡◌, drop, map}
use Rattle.hist_rules.specs.ObjectsListed.{first_difference}
use Rattle.hist_check.proofs.Differences.{line_of}
use Rattle.hist_check.proofs.object_lines.find_wrong_object.Given as goal

abbrev pub invariant-loop-place : goal.invariant-loop-place
invariant-loop-place l =
    first_difference (drop l.place (map line_of l.objects.objects)) (drop l.place l.lines) ≡ first_difference (map line_of l.objects.objects) l.lines
