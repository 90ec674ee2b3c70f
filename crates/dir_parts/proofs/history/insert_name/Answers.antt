use Rattle.std.proofs.Common.{bytes_eq, None, ◌∙◌}
use Rattle.indexmap.proofs.CallerLemmas.{insert_entry-new}
use Rattle.dir_parts.proofs.history.insert_name.Goals as goal

pub returns-clause-entries : goal.returns-clause-entries
returns-clause-entries c = c.in_ok-insert.ensures.entries ∙ insert_entry-new bytes_eq c.args.names.now c.args.name None c.requires
