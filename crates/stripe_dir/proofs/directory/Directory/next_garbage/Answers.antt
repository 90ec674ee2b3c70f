use Rattle.stripe_stamps.specs.Sealed.{Sealed}
use Rattle.std.proofs.Common.{◌≡◌, ℕ, Option, false, option_map, ap, sym, ◌∙◌}
use Rattle.store_map.specs.declared.actor.Version.{Version}
use Rattle.store_core.specs.Told.{Told}
use Rattle.store_core.specs.Act.{DirectoryStep}
use Rattle.store_core.specs.Directory.{Directory}
use Rattle.store_core.specs.AtDirectory.{at_directory}
use Rattle.stripe_dir.specs.Kept.{directory_in}
use Rattle.stripe_dir.specs.declared.directory.Directory.TheInside.{Inside}
use Rattle.stripe_dir.proofs.Garbage.{kept_taken, taken_step}
use Rattle.stripe_dir.proofs.directory.Directory.next_garbage.Goals.{in-Some, in-None}
use Rattle.stripe_dir.proofs.directory.Directory.next_garbage.Goals as goal

pub invariant_of-self : goal.invariant_of-self
invariant_of-self c = kept_taken c.self.inside c.self.invariant c.take_least.new.self c.take_least.result c.take_least.ensures.taken c.take_least.ensures.listed c.take_least.ensures.pins

pub returns-clause-step : goal.returns-clause-step
returns-clause-step c = λ who number.
    let a : Inside = c.self.inside in
    let after : Directory = directory_in (record a { versions = c.take_least.new.self }) in
    let told : option_map (λ (version : Version). version.0) c.match-take_least.result ≡ c.take_least.result =
    elim c.match-take_least.branch [ in-Some w ↦ ap (option_map (λ (version : Version). version.0)) w.result-is ∙ sym w.in-Some.is | in-None w ↦ ap (option_map (λ (version : Version). version.0)) w.result-is ∙ sym w.in-None.is ]
    in
    ap (λ (o : Option ℕ). (after, Told.Taken o)) told
    ∙ taken_step a c.self.invariant c.take_least.new.self c.take_least.result c.take_least.ensures.taken c.take_least.ensures.listed who number
    ∙ ap (at_directory false who number DirectoryStep.NextGarbage) (ap (λ (s : Sealed). s.core) c.self.view_is)
