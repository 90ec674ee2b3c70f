use Rattle.std.proofs.Common.{ap, ◌∙◌}
use Rattle.version_seal.specs.Entry.{StampOf}
use Rattle.stripe_stamps.proofs.StampLists.{number_in}
use Rattle.stripe_stamps.proofs.sealing.copy_of.Goals as goal

pub returns-clause-version : goal.returns-clause-version
returns-clause-version c =
    ap (λ (stamp : StampOf). stamp.version) (c.copy.ensures ∙ c.index-stamps-version.is) ∙ number_in c.args.stamps.now c.requires.numbered c.args.version c.index-stamps-version.result c.requires.there
