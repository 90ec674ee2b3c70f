use Rattle.std.proofs.Common.{◌≡◌, ◌*◌, ◌/◌, ◌<◌, length, sym, subst, ap, ◌∙◌, arith}
use Rattle.generator_matrix.proofs.ColumnLemmas.{columns_more}
use Rattle.generator_matrix.proofs.generator.columns_of.Goals as goal

pub loop-column-preserved : goal.loop-column-preserved
loop-column-preserved c =
    let i = c.loop-column.invariant in
    record {
      long = omega (arith, c.in_ok-push.ensures.len, i.long);
      done = columns_more c.args.factors.now c.loop-column.columns.items c.push.new.self.items c.loop-column.column c.in-Some.found
          c.in_ok-push.ensures.items i.long i.done (c.of_column.ensures c.in-Some.found c.in-Some.is);
    }

pub returns : goal.returns
returns c =
    let i = c.loop-column.invariant in
    let factors = c.args.factors.now in
    let whole : length factors ≡ length factors / 16 * 16 = omega (arith, c.if-factors-ne0.false) in
    let all : c.loop-column.column ≡ length factors / 16 = omega (arith, c.loop-column-test.false, c.loop-column.auto.column-end) in
    let count : length c.loop-column.columns.items ≡ length factors / 16 = i.long ∙ all in
    record {
      four = λ h. c.if-unknown-ne4.false;
      long = λ h. whole ∙ ap (λ n. n * 16) (sym count);
      each = λ y default h. i.done y default (subst (λ n. y < n) i.long h);
    }
