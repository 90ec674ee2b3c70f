use Rattle.std.proofs.lemmas.List.Sorted.{IsPermutation-map}
use Rattle.version_table.specs.Table.{number_in}
use Rattle.version_table.proofs.versions.push_reserved.Goals as goal

pub returns-clause-items : goal.returns-clause-items
returns-clause-items c = IsPermutation-map number_in _ _ c.in-Ok.ensures.permutation
