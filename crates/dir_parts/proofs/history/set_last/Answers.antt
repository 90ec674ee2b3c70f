use Rattle.std.proofs.Common.{bytes_eq, Some, sym, subst}
use Rattle.std.specs.List.{IsDistinct}
use Rattle.indexmap.proofs.CallerLemmas.{keys-with_value_at}
use Rattle.dir_parts.proofs.history.set_last.Goals as goal

pub returns-in-Some-clause-unique : goal.returns-in-Some-clause-unique
returns-in-Some-clause-unique c = λ unique. subst (IsDistinct bytes_eq) (sym (keys-with_value_at c.args.names.now c.args.at (Some c.args.point))) unique
