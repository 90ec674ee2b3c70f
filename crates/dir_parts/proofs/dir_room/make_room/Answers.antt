use Rattle.std.proofs.Common.{Contains, sym, subst}
use Rattle.dir_parts.proofs.dir_room.make_room.Goals as goal

pub returns-in_err-reserve-clause-others : goal.returns-in_err-reserve-clause-others
returns-in_err-reserve-clause-others c = λ other h. subst (λ ns. Contains ns other) (sym c.reserve.ensures.names) (c.keep_name.ensures.others other h)

pub returns-in_err-reserve-2-clause-others : goal.returns-in_err-reserve-2-clause-others
returns-in_err-reserve-2-clause-others c = λ other h. subst (λ ns. Contains ns other) (sym c.reserve.ensures.names) (c.keep_name.ensures.others other h)

pub returns-clause-others : goal.returns-clause-others
returns-clause-others c = λ other h. subst (λ ns. Contains ns other) (sym c.reserve.ensures.names) (c.keep_name.ensures.others other h)
