-- The points of the history rise, and each client's calls stand there by number.
use Rattle.std.specs.Prelude.{nat_eq, nat_lt, List, Option, None, Some, find}
use Rattle.std.specs.Option.{option_or}
use Rattle.std.specs.List.{slice_get}
use Rattle.store_map.specs.declared.call_name.CallName.TheVariants.{Client}
use Rattle.store_map.specs.declared.line.HLine.{HLine}
use Rattle.store_map.specs.declared.transcript.Transcript.{Transcript}
use Rattle.hist_rules.specs.declared.verdict.Verdict.{Verdict}
use Rattle.hist_rules.specs.declared.verdict.Verdict.TheVariants.{Misplaced}
use Rattle.hist_rules.specs.First.{unless, first_fault_along}

-- the point is above that of the line before; the fault tells both points
abbrev pub point_rises : Option HLine → HLine → Option Verdict
point_rises None line = None
point_rises (Some before) line = unless (nat_lt before.point line.point) (Misplaced (Client line.call) before.point line.point)

-- the number is above that of the client's line before; the fault tells both numbers
abbrev pub number_rises : Option HLine → HLine → Option Verdict
number_rises None line = None
number_rises (Some before) line =
    unless (nat_lt before.call.number line.call.number) (Misplaced (Client line.call) before.call.number line.call.number)

-- both, of a line of the history
abbrev pub line_rises : List HLine → HLine → Option Verdict
line_rises before line = option_or (point_rises (slice_get before 0) line) (number_rises (find (λ other. nat_eq line.call.client other.call.client) before) line)

-- the first line that is too low
abbrev pub points_rise : Transcript → Option Verdict
points_rise t = first_fault_along line_rises t.history
