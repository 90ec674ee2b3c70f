use Rattle.std.proofs.Common.{◌≡◌, ◌<◌, List, length, All, Some, find, ap, sym, subst, ◌∙◌}
use Rattle.store_core.specs.Directory.{Pin, Pass, Directory}
use Rattle.store_core.specs.Lookups.{same_actor}
use Rattle.store_core.specs.SoundPasses.{HasVersions}
use Rattle.dir_parts.specs.OpenPass.{Open}
use Rattle.stripe_dir.specs.Kept.{directory_in}
use Rattle.stripe_dir.proofs.Ending.{found_has}
use Rattle.stripe_dir.proofs.directory.Directory.has_current_pins.Goals as goal

pub are_current-requires : goal.are_current-requires
are_current-requires c =
    let d : Directory = directory_in c.self.inside in
    let p : Pass = c.in-Some.open.now.pass in
    let found : find (λ (pass : Pass). same_actor c.args.actor pass.actor) d.passes ≡ Some p = sym c.in-Some.ensures in
    let pinned : c.deref.result.now ≡ p.pinned = c.deref.ensures.value ∙ ap (λ (o : Open). o.pass.pinned) c.open.view_is in
    subst (λ (pins : List Pin). All (λ pin. pin.version < length d.versions) pins) (sym pinned) (found_has (HasVersions d) (λ (pass : Pass). same_actor c.args.actor pass.actor) d.passes p c.self.invariant.whole.sound.versions found).pinned
