use Rattle.std.proofs.Common.{bytes_eq, sym, subst}
use Rattle.std.specs.List.{IsDistinct}
use Rattle.indexmap.proofs.CallerLemmas.{keys-with_value_at}
use Rattle.dir_parts.specs.Parts.{Held}
use Rattle.dir_parts.proofs.objects.write_at.Goals as goal

pub returns-clause-unique : goal.returns-clause-unique
returns-clause-unique c = λ unique.
    let held : Held = record { length = c.max-contents-inside.result; versions = c.splice.new.old.items; birth = c.contents.inside.birth } in
    subst (IsDistinct bytes_eq) (sym (keys-with_value_at c.args.listed.now c.args.at held)) unique
