use Rattle.std.proofs.Common.{◌≡◌, ◌≤◌, length, take, filter}
use Rattle.hist_rules.specs.Named.{is_reply}
use Rattle.hist_tables.proofs.lines_of_calls.count_replied.Given as goal

abbrev pub invariant-loop-line : goal.invariant-loop-line
invariant-loop-line l = record {
  counted : l.count ≡ length (filter (λ line. is_reply line.reply) (take l.line-index l.lines));
  few : l.count ≤ l.line-index;
}
