use Rattle.stripe_dir.proofs.Garbage.{kept_swept}
use Rattle.stripe_dir.proofs.directory.Directory.swept.Goals as goal

pub invariant_of-self : goal.invariant_of-self
invariant_of-self c = kept_swept c.self.inside c.self.invariant c.sweep.new.self c.args.version.0 c.sweep.ensures.listed c.sweep.ensures.pins
