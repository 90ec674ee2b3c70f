use Rattle.std.proofs.Common.{◌≡◌, ◌≤◌, drop}
use Rattle.std.specs.List.{zip, filter_map}
use Rattle.store_map.specs.History.{replies_from, apply_all}
use Rattle.hist_rules.specs.Calls.{call_of}
use Rattle.hist_rules.specs.First.{first_fault}
use Rattle.hist_rules.specs.RepliesMatch.{reply_matches}
use Rattle.hist_check.proofs.replay.replay.Given as goal

abbrev pub invariant-loop-line : goal.invariant-loop-line
invariant-loop-line l = record {
  max : l.map.max ≡ l.fn.map.max;
  behind : l.replied ≤ l.line-index;
  so_far :
      first_fault (reply_matches l.script) (zip (drop l.replied l.lines) (replies_from l.map.max (filter_map (λ line. call_of l.script line.call) (drop l.line-index l.lines)) l.map.objects))
      ≡ first_fault (reply_matches l.script) (zip l.lines (replies_from l.fn.map.max (filter_map (λ line. call_of l.script line.call) l.lines) l.fn.map.objects));
  objects :
      apply_all l.map.max (filter_map (λ line. call_of l.script line.call) (drop l.line-index l.lines)) l.map.objects
      ≡ apply_all l.fn.map.max (filter_map (λ line. call_of l.script line.call) l.lines) l.fn.map.objects;
}
