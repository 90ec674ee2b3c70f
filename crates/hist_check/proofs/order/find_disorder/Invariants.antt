use Rattle.std.proofs.Common.{List, drop}
use Rattle.store_map.specs.declared.call_name.CallName.{CallName}
use Rattle.hist_rules.specs.Named.{answered_calls}
use Rattle.hist_tables.specs.Tables.{IsSetOf}
use Rattle.hist_tables.proofs.Names.{passing}
use Rattle.hist_check.specs.Reached.{AreReached}
use Rattle.hist_check.proofs.Searches.{IsAt}
use Rattle.hist_check.proofs.order.find_disorder.Given as goal

abbrev pub invariant-loop-line : goal.invariant-loop-line
invariant-loop-line g l = record {
  so_far :
      (earlier rest : List CallName) → IsSetOf l.initial.before earlier
      → IsAt (answered_calls l.transcript) earlier (passing g.L.NamesCall.call g.L.NamesCall.is_answer l.lines) rest (passing g.L.NamesCall.call g.L.NamesCall.is_answer (drop l.line-index l.lines)) l.before;
  reached : AreReached (answered_calls l.transcript) l.reached;
}
