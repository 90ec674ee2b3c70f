use Rattle.std.proofs.Common.{is_some, ap, sym, ◌∙◌}
use Rattle.std.proofs.lemmas.Bool.{false≢true}
use Rattle.indexmap.specs.IndexMap.{keys}
use Rattle.dir_parts.proofs.LogSteps.{is_there, stands_at}
use Rattle.dir_parts.proofs.history.place_of.Goals as goal

pub unreachable-requires : goal.unreachable-requires
unreachable-requires c = false≢true (sym (ap is_some c.in-None.is) ∙ c.get_index_of.ensures.found ∙ is_there c.args.name.now c.args.names.now.entries c.requires)

pub returns-clause-name : goal.returns-clause-name
returns-clause-name c = stands_at c.args.name.now (keys c.args.names.now) c.in-Some.at (sym c.in-Some.ensures.index)
