use Rattle.std.proofs.Common.{◌≡◌, ℕ, ◌+◌, ◌<◌, List, length, None, IfSome, All, ap, sym, subst, ◌∙◌}
use Rattle.clay_grid.specs.Shape.{chunk_count}
use Rattle.store_map.specs.declared.actor.Actor.{Actor}
use Rattle.store_core.specs.Told.{Told}
use Rattle.store_core.specs.Note.{Kind}
use Rattle.store_core.specs.Act.{DirectoryStep}
use Rattle.store_core.specs.Directory.{Pin, Pass, Directory}
use Rattle.store_core.specs.Lookups.{pass_of}
use Rattle.store_core.specs.Agreement.{HeldPass, ActorToken}
use Rattle.version_table.specs.Counts.{unpinned}
use Rattle.dir_parts.specs.OpenPass.{Open}
use Rattle.version_table.specs.TableSteps.{placed_anew_by}
use Rattle.run_laws.proofs.ContentGrows.{origins, raise_keeps}
use Rattle.stripe_stamps.specs.Sealed.{Sealed}
use Rattle.stripe_dir.specs.Kept.{directory_in}
use Rattle.stripe_dir.specs.declared.directory.Directory.TheInside.{Inside}
use Rattle.stripe_dir.proofs.Ending.{Taken, taken, taken_seat, kept_closed, repaired_step, said_of}
use Rattle.stripe_dir.proofs.directory.Directory.repaired.Goals as goal

pub unpin_all-requires : goal.unpin_all-requires
unpin_all-requires c =
    let a : Inside = c.self.inside in
    let p : Pass = c.take-open.result.pass in
    let who : Actor = c.pass.inside.actor in
    let t : Taken a c.args.self.now.core c.args.pass who p c.take-open.new.self =
    taken a c.self.invariant c.args.self.now.core (ap (λ (s : Sealed). s.core) c.self.view_is) c.args.pass c.requires.agrees who (ap (λ (h : HeldPass). h.pass.actor) c.pass.view_is) p c.take-open.new.self
    c.take-open.ensures.found c.take-open.ensures.left c.take-open.ensures.others c.take-open.ensures.stripe
    in
    subst (λ (pins : List Pin). All (λ pin. pin.version < length a.versions.listed) pins) (sym (c.deref.ensures.value ∙ ap (λ (o : Open). o.pass.pinned) c.open.view_is)) t.pinned

pub place_anew_all-requires : goal.place_anew_all-requires
place_anew_all-requires c =
    let a : Inside = c.self.inside in
    let p : Pass = c.take-open.result.pass in
    let who : Actor = c.pass.inside.actor in
    let t : Taken a c.args.self.now.core c.args.pass who p c.take-open.new.self =
    taken a c.self.invariant c.args.self.now.core (ap (λ (s : Sealed). s.core) c.self.view_is) c.args.pass c.requires.agrees who (ap (λ (h : HeldPass). h.pass.actor) c.pass.view_is) p c.take-open.new.self
    c.take-open.ensures.found c.take-open.ensures.left c.take-open.ensures.others c.take-open.ensures.stripe
    in
    subst (λ (n : ℕ). All (λ (pin : Pin). pin.version < n) c.deref-2.result.now) (sym (ap length c.unpin_all.ensures.listed))
    (subst (λ (pins : List Pin). All (λ pin. pin.version < length a.versions.listed) pins) (sym (c.deref-2.ensures.value ∙ ap (λ (o : Open). o.pass.pinned) c.open.view_is)) t.pinned)

pub invariant_of-self : goal.invariant_of-self
invariant_of-self c =
    let a : Inside = c.self.inside in
    let p : Pass = c.take-open.result.pass in
    let who : Actor = c.pass.inside.actor in
    let t : Taken a c.args.self.now.core c.args.pass who p c.take-open.new.self =
    taken a c.self.invariant c.args.self.now.core (ap (λ (s : Sealed). s.core) c.self.view_is) c.args.pass c.requires.agrees who (ap (λ (h : HeldPass). h.pass.actor) c.pass.view_is) p c.take-open.new.self
    c.take-open.ensures.found c.take-open.ensures.left c.take-open.ensures.others c.take-open.ensures.stripe
    in
    let live : p.reaped ≡ None =
    sym (said_of (λ (own : Pass). c.reap_of.result ≡ own.reaped) (pass_of who (directory_in a)) p t.gone.found (subst (λ (d : Directory). IfSome (pass_of who d) (λ own. c.reap_of.result ≡ own.reaped)) (sym t.view) c.reap_of.ensures)) ∙ c.in_default.is
    in
    let kind : p.note.kind ≡ Kind.Rebuild = ap (λ (q : Pass). q.note.kind) t.is ∙ c.requires.may.0 in
    let listed : c.place_anew_all.new.self.listed ≡ placed_anew_by c.args.server c.args.epoch p.pinned a.versions.listed =
    c.place_anew_all.ensures.listed ∙ (λ i. placed_anew_by c.args.server c.args.epoch ((c.deref-2.ensures.value ∙ ap (λ (o : Open). o.pass.pinned) c.open.view_is) i) (c.unpin_all.ensures.listed i))
    in
    let counts : c.place_anew_all.new.self.pins ≡ unpinned p.pinned a.versions.pins = c.place_anew_all.ensures.pins ∙ c.unpin_all.ensures.pins ∙ ap (λ pins. unpinned pins a.versions.pins) (c.deref.ensures.value ∙ ap (λ (o : Open). o.pass.pinned) c.open.view_is) in
    kept_closed a c.self.invariant who p c.take-open.new.self t.gone live (DirectoryStep.Repaired c.args.server c.args.epoch) Told.Ended c.place_anew_all.new.self
    (p, record { is_pass = t.gone.found; kind = kind }, subst (λ (d : Directory). c.args.server < chunk_count d.shape) (sym t.view) c.requires.may.1)
    (repaired_step (directory_in a) who p c.take-open.new.self.listed t.gone.found t.gone.left t.gone.perm 0 c.args.server c.args.epoch c.place_anew_all.new.self.listed live listed)
    counts (ap origins listed ∙ raise_keeps c.args.server c.args.epoch p.pinned a.versions.listed)

pub returns-clause-token : goal.returns-clause-token
returns-clause-token c =
    let a : Inside = c.self.inside in
    let p : Pass = c.take-open.result.pass in
    let who : Actor = c.pass.inside.actor in
    let t : Taken a c.args.self.now.core c.args.pass who p c.take-open.new.self =
    taken a c.self.invariant c.args.self.now.core (ap (λ (s : Sealed). s.core) c.self.view_is) c.args.pass c.requires.agrees who (ap (λ (h : HeldPass). h.pass.actor) c.pass.view_is) p c.take-open.new.self
    c.take-open.ensures.found c.take-open.ensures.left c.take-open.ensures.others c.take-open.ensures.stripe
    in
    let told : c.pass.inside.told ≡ c.args.pass.told = ap (λ (h : HeldPass). h.told) c.pass.view_is in
    ap ActorToken.Seated (c.seat_of.ensures ∙ (λ i. record { actor = who; unused = c.open.inside.number + 1; told = told i }) ∙ taken_seat a c.args.self.now.core c.args.pass who p c.take-open.new.self t c.open.inside.number c.args.pass.told (ap (λ (o : Open). o.pass.number) c.open.view_is))
