use Rattle.std.proofs.Common.{◌≡◌, ◌^◌, ◌<◌, get_or, length, subst, sym, arith}
use Rattle.code_laws.specs.Columns.{IsSolved}
use Rattle.code_laws.proofs.Pieces.{written_whole}
use Rattle.clay_encode.proofs.plain_columns.solve_last_column.Goals as goal

pub returns-clause-bytes : goal.returns-clause-bytes
returns-clause-bytes c = λ i.
    let column = c.in_ok-column.column in
    let long : length c.solve_in_rooms.new.column ≡ length column.items = omega arith in
    subst (λ l. get_or l i 0 < 2 ^ 8) (sym (written_whole column.len column.items c.solve_in_rooms.new.column (omega arith) long)) (c.in_ok-solve_in_rooms.ensures.bytes i)

pub returns-clause-value : goal.returns-clause-value
returns-clause-value c = λ n h.
    let column = c.in_ok-column.column in
    let long : length c.solve_in_rooms.new.column ≡ length column.items = omega arith in
    subst (IsSolved c.args.g c.args.stripe.now n) (sym (written_whole column.len column.items c.solve_in_rooms.new.column (omega arith) long)) (c.in_ok-solve_in_rooms.ensures.value n h)
