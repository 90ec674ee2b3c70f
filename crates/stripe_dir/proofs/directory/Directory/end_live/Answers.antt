use Rattle.std.proofs.Common.{◌≡◌, ℕ, ◌+◌, ◌<◌, List, length, None, All, false, ap, sym, subst, ◌∙◌}
use Rattle.store_map.specs.declared.actor.Actor.{Actor}
use Rattle.store_core.specs.Told.{Told}
use Rattle.store_core.specs.Act.{DirectoryStep}
use Rattle.store_core.specs.Directory.{Standing, Version, Pin, Pass, Directory}
use Rattle.store_core.specs.Lookups.{is_live}
use Rattle.store_core.specs.Look.{set_standing}
use Rattle.store_core.specs.AtDirectory.{at_directory}
use Rattle.store_core.specs.Agreement.{HeldPass, AgreesWithPass}
use Rattle.version_table.specs.Counts.{unpinned}
use Rattle.dir_parts.specs.OpenPass.{Open}
use Rattle.version_table.specs.Known.{IsKnown}
use Rattle.run_laws.proofs.ContentGrows.{origins, set_keeps}
use Rattle.stripe_stamps.specs.Sealed.{Sealed}
use Rattle.stripe_dir.specs.Kept.{directory_in}
use Rattle.stripe_dir.specs.declared.directory.Directory.TheInside.{Inside}
use Rattle.stripe_dir.proofs.KnownVersions.{drawn_known}
use Rattle.stripe_dir.proofs.Ending.{Taken, taken, taken_said, taken_seat, kept_closed, ended_step, is_there}
use Rattle.stripe_dir.proofs.directory.Directory.end_live.Goals as goal

pub take-open-requires-clause-there : goal.take-open-requires-clause-there
take-open-requires-clause-there c =
    is_there (directory_in c.self.inside) c.args.pass c.pass.inside.actor (ap (λ (h : HeldPass). h.pass.actor) c.pass.view_is) (subst (λ (d : Directory). AgreesWithPass d c.args.pass) (sym (ap (λ (s : Sealed). s.core) c.self.view_is)) c.requires.agrees)

pub unpin_all-requires : goal.unpin_all-requires
unpin_all-requires c =
    let a : Inside = c.self.inside in
    let p : Pass = c.take-open.result.pass in
    let who : Actor = c.pass.inside.actor in
    let t : Taken a c.args.self.now.core c.args.pass who p c.take-open.new.self =
    taken a c.self.invariant c.args.self.now.core (ap (λ (s : Sealed). s.core) c.self.view_is) c.args.pass c.requires.agrees who (ap (λ (h : HeldPass). h.pass.actor) c.pass.view_is) p c.take-open.new.self
    c.take-open.ensures.found c.take-open.ensures.left c.take-open.ensures.others c.take-open.ensures.stripe
    in
    subst (λ (pins : List Pin). All (λ pin. pin.version < length a.versions.listed) pins) (sym (c.deref.ensures.value ∙ ap (λ (o : Open). o.pass.pinned) c.open.view_is)) t.pinned

pub supersede_all-requires : goal.supersede_all-requires
supersede_all-requires c =
    let a : Inside = c.self.inside in
    let p : Pass = c.take-open.result.pass in
    let who : Actor = c.pass.inside.actor in
    let t : Taken a c.args.self.now.core c.args.pass who p c.take-open.new.self =
    taken a c.self.invariant c.args.self.now.core (ap (λ (s : Sealed). s.core) c.self.view_is) c.args.pass c.requires.agrees who (ap (λ (h : HeldPass). h.pass.actor) c.pass.view_is) p c.take-open.new.self
    c.take-open.ensures.found c.take-open.ensures.left c.take-open.ensures.others c.take-open.ensures.stripe
    in
    let live : p.reaped ≡ None = taken_said a c.args.self.now.core c.args.pass who p c.take-open.new.self t (λ (own : Pass). own.reaped ≡ None) c.requires.live in
    subst (λ (versions : List Version). All (IsKnown versions) c.deref-2.result.now) (sym c.unpin_all.ensures.listed)
    (subst (λ (numbers : List ℕ). All (IsKnown a.versions.listed) numbers) (sym (c.deref-2.ensures.value ∙ ap (λ (o : Open). o.pass.drawn) c.open.view_is))
    (drawn_known (directory_in a) c.self.invariant.whole.sound who p t.gone.found (ap is_live live)))

pub invariant_of-self : goal.invariant_of-self
invariant_of-self c =
    let a : Inside = c.self.inside in
    let p : Pass = c.take-open.result.pass in
    let who : Actor = c.pass.inside.actor in
    let t : Taken a c.args.self.now.core c.args.pass who p c.take-open.new.self =
    taken a c.self.invariant c.args.self.now.core (ap (λ (s : Sealed). s.core) c.self.view_is) c.args.pass c.requires.agrees who (ap (λ (h : HeldPass). h.pass.actor) c.pass.view_is) p c.take-open.new.self
    c.take-open.ensures.found c.take-open.ensures.left c.take-open.ensures.others c.take-open.ensures.stripe
    in
    let live : p.reaped ≡ None = taken_said a c.args.self.now.core c.args.pass who p c.take-open.new.self t (λ (own : Pass). own.reaped ≡ None) c.requires.live in
    let listed : c.supersede_all.new.self.listed ≡ set_standing Standing.Superseded p.drawn a.versions.listed =
    c.supersede_all.ensures.listed ∙ (λ i. set_standing Standing.Superseded ((c.deref-2.ensures.value ∙ ap (λ (o : Open). o.pass.drawn) c.open.view_is) i) (c.unpin_all.ensures.listed i))
    in
    let counts : c.supersede_all.new.self.pins ≡ unpinned p.pinned a.versions.pins = c.supersede_all.ensures.pins ∙ c.unpin_all.ensures.pins ∙ ap (λ pins. unpinned pins a.versions.pins) (c.deref.ensures.value ∙ ap (λ (o : Open). o.pass.pinned) c.open.view_is) in
    kept_closed a c.self.invariant who p c.take-open.new.self t.gone live DirectoryStep.End Told.Ended c.supersede_all.new.self tt
    (ended_step (directory_in a) who p c.take-open.new.self.listed t.gone.found t.gone.left t.gone.perm 0 c.supersede_all.new.self.listed live listed) counts (ap origins listed ∙ set_keeps Standing.Superseded p.drawn a.versions.listed)

pub returns-clause-step : goal.returns-clause-step
returns-clause-step c =
    let a : Inside = c.self.inside in
    let p : Pass = c.take-open.result.pass in
    let who : Actor = c.pass.inside.actor in
    let t : Taken a c.args.self.now.core c.args.pass who p c.take-open.new.self =
    taken a c.self.invariant c.args.self.now.core (ap (λ (s : Sealed). s.core) c.self.view_is) c.args.pass c.requires.agrees who (ap (λ (h : HeldPass). h.pass.actor) c.pass.view_is) p c.take-open.new.self
    c.take-open.ensures.found c.take-open.ensures.left c.take-open.ensures.others c.take-open.ensures.stripe
    in
    let live : p.reaped ≡ None = taken_said a c.args.self.now.core c.args.pass who p c.take-open.new.self t (λ (own : Pass). own.reaped ≡ None) c.requires.live in
    let listed : c.supersede_all.new.self.listed ≡ set_standing Standing.Superseded p.drawn a.versions.listed =
    c.supersede_all.ensures.listed ∙ (λ i. set_standing Standing.Superseded ((c.deref-2.ensures.value ∙ ap (λ (o : Open). o.pass.drawn) c.open.view_is) i) (c.unpin_all.ensures.listed i))
    in
    ended_step (directory_in a) who p c.take-open.new.self.listed t.gone.found t.gone.left t.gone.perm c.args.pass.pass.number c.supersede_all.new.self.listed live listed
    ∙ (λ i. at_directory false (t.same i) c.args.pass.pass.number DirectoryStep.End (t.view i))

pub returns-clause-seat : goal.returns-clause-seat
returns-clause-seat c =
    let a : Inside = c.self.inside in
    let p : Pass = c.take-open.result.pass in
    let who : Actor = c.pass.inside.actor in
    let t : Taken a c.args.self.now.core c.args.pass who p c.take-open.new.self =
    taken a c.self.invariant c.args.self.now.core (ap (λ (s : Sealed). s.core) c.self.view_is) c.args.pass c.requires.agrees who (ap (λ (h : HeldPass). h.pass.actor) c.pass.view_is) p c.take-open.new.self
    c.take-open.ensures.found c.take-open.ensures.left c.take-open.ensures.others c.take-open.ensures.stripe
    in
    let told : c.pass.inside.told ≡ c.args.pass.told = ap (λ (h : HeldPass). h.told) c.pass.view_is in
    c.seat_of.ensures ∙ (λ i. record { actor = who; unused = c.open.inside.number + 1; told = told i }) ∙ taken_seat a c.args.self.now.core c.args.pass who p c.take-open.new.self t c.open.inside.number c.args.pass.told (ap (λ (o : Open). o.pass.number) c.open.view_is)
