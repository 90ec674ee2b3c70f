use Rattle.std.proofs.Common.{◌≡◌, take, drop}
use Rattle.std.specs.Prelude.{reverse, find}
use Rattle.std.specs.List.{slice_get}
use Rattle.std.specs.Option.{option_map}
use Rattle.store_map.specs.declared.call_name.CallName.TheVariants.{Client}
use Rattle.store_map.specs.declared.call_name.CallName.{CallName}
use Rattle.hist_rules.specs.Calls.{number_of, same_actor}
use Rattle.hist_rules.specs.First.{first_fault_after, first_fault_along}
use Rattle.hist_rules.specs.PointsRise.{line_rises}
use Rattle.hist_tables.specs.Tables.{value_at}
use Rattle.hist_check.proofs.rising.find_fall.Given as goal

abbrev pub invariant-loop-line : goal.invariant-loop-line
invariant-loop-line l = record {
  so_far : first_fault_after line_rises (reverse (take l.line-index l.lines)) (drop l.line-index l.lines) ≡ first_fault_along line_rises l.lines;
  point : l.point ≡ option_map (λ other. other.point) (slice_get (reverse (take l.line-index l.lines)) 0);
  numbers : (call : CallName) → value_at l.numbers call ≡ option_map (λ other. number_of (Client other.call)) (find (λ other. same_actor call (Client other.call)) (reverse (take l.line-index l.lines)));
}
