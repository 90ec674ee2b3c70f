use Rattle.std.proofs.Common.{ap, ◌∙◌}
use Rattle.version_table.specs.Told.{entries_of}
use Rattle.version_table.proofs.Told.{entries_back}
use Rattle.version_table.proofs.told_versions.ToldVersions.new.Goals as goal

pub returns : goal.returns
returns c = ap entries_of c.of.ensures ∙ entries_back _
