use Rattle.stripe_stamps.specs.Sealed.{Sealed}
use Rattle.std.proofs.Common.{◌≡◌, ◌<◌, None, Some, Contains, false, find, ap, sym, ◌∙◌, arith}
use Rattle.store_core.specs.Act.{DirectoryStep}
use Rattle.store_core.specs.Directory.{Pass, Directory}
use Rattle.store_core.specs.Lookups.{same_actor, is_live}
use Rattle.store_core.specs.SoundPasses.{HasVersions}
use Rattle.store_core.specs.AtDirectory.{at_directory}
use Rattle.version_table.specs.Counts.{points_due}
use Rattle.dir_parts.specs.OpenPass.{Open}
use Rattle.dir_parts.proofs.Naming.{none_is}
use Rattle.stripe_dir.specs.Kept.{directory_in}
use Rattle.stripe_dir.specs.declared.directory.Directory.TheInside.{Inside}
use Rattle.stripe_dir.proofs.Ending.{found_has}
use Rattle.stripe_dir.proofs.KnownVersions.{drawn_known}
use Rattle.stripe_dir.proofs.GivenUp.{reap_step, kept_given_up, one_due}
use Rattle.stripe_dir.proofs.directory.Directory.reap.Goals as goal

pub give_up-point-requires-clause-pinned : goal.give_up-point-requires-clause-pinned
give_up-point-requires-clause-pinned c =
    let a : Inside = c.self.inside in
    let d : Directory = directory_in a in
    let p : Pass = c.in_ok-open.open.now.pass in
    let found : find (λ (pass : Pass). same_actor c.args.actor pass.actor) d.passes ≡ Some p = sym c.in_ok-open.ensures in
    (found_has (HasVersions d) (λ (pass : Pass). same_actor c.args.actor pass.actor) d.passes p c.self.invariant.whole.sound.versions found).pinned

pub give_up-point-requires-clause-drawn : goal.give_up-point-requires-clause-drawn
give_up-point-requires-clause-drawn c =
    let a : Inside = c.self.inside in
    let d : Directory = directory_in a in
    let p : Pass = c.in_ok-open.open.now.pass in
    let found : find (λ (pass : Pass). same_actor c.args.actor pass.actor) d.passes ≡ Some p = sym c.in_ok-open.ensures in
    let live : p.reaped ≡ None = sym (ap (λ (o : Open). o.pass.reaped) c.open.view_is) ∙ none_is c.open.inside.reaped (sym c.is_some.ensures ∙ c.if-is_some.false) in
    drawn_known d c.self.invariant.whole.sound c.args.actor p found (ap is_live live)

pub give_up-point-requires-clause-named : goal.give_up-point-requires-clause-named
give_up-point-requires-clause-named c =
    let a : Inside = c.self.inside in
    let d : Directory = directory_in a in
    let p : Pass = c.in_ok-open.open.now.pass in
    let found : find (λ (pass : Pass). same_actor c.args.actor pass.actor) d.passes ≡ Some p = sym c.in_ok-open.ensures in
    found_has (λ (q : Pass). Contains a.history.names q.note.name) (λ (pass : Pass). same_actor c.args.actor pass.actor) d.passes p c.self.invariant.named found

pub give_up-point-requires-clause-room : goal.give_up-point-requires-clause-room
give_up-point-requires-clause-room c =
    let a : Inside = c.self.inside in
    let d : Directory = directory_in a in
    let p : Pass = c.in_ok-open.open.now.pass in
    let found : find (λ (pass : Pass). same_actor c.args.actor pass.actor) d.passes ≡ Some p = sym c.in_ok-open.ensures in
    let live : p.reaped ≡ None = sym (ap (λ (o : Open). o.pass.reaped) c.open.view_is) ∙ none_is c.open.inside.reaped (sym c.is_some.ensures ∙ c.if-is_some.false) in
    let due : 0 < points_due d.passes = one_due c.args.actor p d.passes found live in
    omega (arith, due, c.self.invariant.points_room)

pub invariant_of-self : goal.invariant_of-self
invariant_of-self c =
    let a : Inside = c.self.inside in
    let d : Directory = directory_in a in
    let p : Pass = c.in_ok-open.open.now.pass in
    let found : find (λ (pass : Pass). same_actor c.args.actor pass.actor) d.passes ≡ Some p = sym c.in_ok-open.ensures in
    let live : p.reaped ≡ None = sym (ap (λ (o : Open). o.pass.reaped) c.open.view_is) ∙ none_is c.open.inside.reaped (sym c.is_some.ensures ∙ c.if-is_some.false) in
    kept_given_up a c.self.invariant c.args.actor p found live c.give_up-point.result c.give_up-point.ensures.point c.reap.new.self c.give_up-point.new.versions c.give_up-point.new.history c.reap.ensures.listed
    c.give_up-point.ensures.listed c.give_up-point.ensures.points c.reap.ensures.stripe c.give_up-point.ensures.pins c.give_up-point.ensures.names c.give_up-point.ensures.keeps c.give_up-point.ensures.left

pub returns-clause-step : goal.returns-clause-step
returns-clause-step c = λ who number.
    let a : Inside = c.self.inside in
    let d : Directory = directory_in a in
    let p : Pass = c.in_ok-open.open.now.pass in
    let found : find (λ (pass : Pass). same_actor c.args.actor pass.actor) d.passes ≡ Some p = sym c.in_ok-open.ensures in
    let live : p.reaped ≡ None = sym (ap (λ (o : Open). o.pass.reaped) c.open.view_is) ∙ none_is c.open.inside.reaped (sym c.is_some.ensures ∙ c.if-is_some.false) in
    reap_step a c.self.invariant c.args.actor p found live c.give_up-point.result c.give_up-point.ensures.point c.reap.new.self c.give_up-point.new.versions c.give_up-point.new.history c.reap.ensures.listed
    c.give_up-point.ensures.listed c.give_up-point.ensures.points who number
    ∙ ap (at_directory false who number (DirectoryStep.Reap c.args.actor)) (ap (λ (s : Sealed). s.core) c.self.view_is)
