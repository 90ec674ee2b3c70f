use Rattle.frame_bytes.proofs.FieldLemmas.{no_first, no_second, numbers_unended, numbers_there, some_left, none_left}
use Rattle.frame_bytes.proofs.fields.name_and_numbers.Goals as goal

pub returns-in_err-first-clause-none : goal.returns-in_err-first-clause-none
returns-in_err-first-clause-none c =
    rw c.from_residual-in_err-first.ensures
    (no_first c.args.fields.now c.in_ok-name.name.now c.in_ok-name.rest.now c.in_ok-name.ensures.some c.in_err-first.ensures.none)

pub returns-in_err-second-clause-none : goal.returns-in_err-second-clause-none
returns-in_err-second-clause-none c =
    rw c.from_residual-in_err-second.ensures
    (no_second c.args.fields.now c.in_ok-name.name.now c.in_ok-name.rest.now c.in_ok-first.rest.now c.in_ok-first.first c.in_ok-name.ensures.some
    c.in_ok-first.ensures.some c.in_err-second.ensures.none)

pub returns-then-not-is_empty-clause-none : goal.returns-then-not-is_empty-clause-none
returns-then-not-is_empty-clause-none c =
    numbers_unended c.args.fields.now c.in_ok-name.name.now c.in_ok-name.rest.now c.in_ok-first.rest.now c.in_ok-second.rest.now c.in_ok-first.first
    c.in_ok-second.second c.in_ok-name.ensures.some
    c.in_ok-first.ensures.some c.in_ok-second.ensures.some
    (some_left c.in_ok-second.rest.now c.is_empty.result c.is_empty.ensures c.if-not-is_empty.true)

pub returns-clause-some : goal.returns-clause-some
returns-clause-some c =
    numbers_there c.args.fields.now c.in_ok-name.name.now c.in_ok-name.rest.now c.in_ok-first.rest.now c.in_ok-second.rest.now c.in_ok-first.first
    c.in_ok-second.second c.in_ok-name.ensures.some
    c.in_ok-first.ensures.some c.in_ok-second.ensures.some
    (none_left c.in_ok-second.rest.now c.is_empty.result c.is_empty.ensures c.if-not-is_empty.false)
