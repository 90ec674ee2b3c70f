use Rattle.std.proofs.Common.{true, false, sym, ◌∙◌}
use Rattle.std.proofs.lemmas.Bool.{true≢false}
use Rattle.lost_read.proofs.missing_reading.Reading.add_layer.Goals as goal

pub returns-then-not-is_solved : goal.returns-then-not-is_solved
returns-then-not-is_solved c = record {
  added = λ solved. absurd (true≢false (sym solved ∙ (sym c.is_solved.ensures ∙ c.if-not-is_solved.true)));
  kept = λ p hp solved other before. before;
}

pub solve_layer-requires-clause-solved : goal.solve_layer-requires-clause-solved
solve_layer-requires-clause-solved c = sym c.is_solved.ensures ∙ c.if-not-is_solved.false

pub put_rows-requires-clause-solved : goal.put_rows-requires-clause-solved
put_rows-requires-clause-solved c = sym c.is_solved.ensures ∙ c.if-not-is_solved.false
