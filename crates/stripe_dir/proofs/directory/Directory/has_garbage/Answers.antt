use Rattle.stripe_stamps.specs.Sealed.{Sealed}
use Rattle.std.proofs.Common.{is_some, ap, ◌∙◌}
use Rattle.store_core.specs.Directory.{Directory}
use Rattle.store_core.specs.Lookups.{first_garbage}
use Rattle.stripe_dir.proofs.Garbage.{garbage_is}
use Rattle.stripe_dir.proofs.directory.Directory.has_garbage.Goals as goal

pub returns : goal.returns
returns c = c.has_garbage.ensures ∙ ap is_some (garbage_is c.self.inside c.self.invariant) ∙ ap (λ (d : Directory). is_some (first_garbage d)) (ap (λ (s : Sealed). s.core) c.self.view_is)
