use Rattle.std.proofs.Common.{◌≡◌, ◌∙◌, List, map, sym, ap}
use Rattle.std.specs.Prelude.{◌||◌}
use Rattle.std.proofs.lemmas.List.{at_drop_all}
use Rattle.hist_rules.specs.Calls.{is_named}
use Rattle.hist_tables.specs.Tables.{has}
use Rattle.hist_tables.proofs.Names.{line_named, none_named}
use Rattle.hist_tables.proofs.call_set.CallSet.insert_calls.Goals as goal

pub loop-line-preserved : goal.loop-line-preserved
loop-line-preserved g c = λ other.
    line_named g.L.NamesCall.call c.loop-line.self c.insert.new.self c.args.lines.now c.loop-line.line-index c.line-item.result c.call.result other _ c.loop-line-test.true c.line-item.is c.call.ensures
    (c.in_ok-insert.ensures other) (c.loop-line.invariant other)

pub returns : goal.returns
returns g c = λ other.
    sym (none_named c.loop-line.self other)
    ∙ sym (at_drop_all (λ (rest : List _). has c.loop-line.self other || is_named other (map g.L.NamesCall.call rest)) c.args.lines.now c.loop-line.line-index c.loop-line-test.false)
    ∙ c.loop-line.invariant other
