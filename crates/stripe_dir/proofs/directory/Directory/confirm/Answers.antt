use Rattle.std.proofs.Common.{◌≡◌, ◌<◌, List, [], length, None, Some, IfSome, All, ap, sym, subst, ◌∙◌}
use Rattle.store_map.specs.declared.actor.Actor.{Actor}
use Rattle.store_core.specs.Told.{Told}
use Rattle.store_core.specs.Note.{Kind}
use Rattle.store_core.specs.Act.{DirectoryStep}
use Rattle.store_core.specs.Directory.{Standing, Pin, Pass, Directory}
use Rattle.store_core.specs.Lookups.{pass_of}
use Rattle.store_core.specs.Look.{set_standing}
use Rattle.store_core.specs.SoundPasses.{IsRight}
use Rattle.store_core.specs.Agreement.{HeldPass, ActorToken}
use Rattle.version_table.specs.Counts.{unpinned}
use Rattle.dir_parts.specs.OpenPass.{Open}
use Rattle.run_laws.proofs.ContentGrows.{origins}
use Rattle.stripe_stamps.specs.Sealed.{Sealed}
use Rattle.stripe_dir.specs.Kept.{directory_in}
use Rattle.stripe_dir.specs.declared.directory.Directory.TheInside.{Inside}
use Rattle.stripe_dir.proofs.Ending.{Taken, taken, taken_seat, kept_closed, ended_step, said_of, it_has}
use Rattle.stripe_dir.proofs.directory.Directory.confirm.Goals as goal

pub unpin_all-requires : goal.unpin_all-requires
unpin_all-requires c =
    let a : Inside = c.self.inside in
    let p : Pass = c.take-open.result.pass in
    let who : Actor = c.pass.inside.actor in
    let t : Taken a c.args.self.now.core c.args.pass who p c.take-open.new.self =
    taken a c.self.invariant c.args.self.now.core (ap (λ (s : Sealed). s.core) c.self.view_is) c.args.pass c.requires.agrees who (ap (λ (h : HeldPass). h.pass.actor) c.pass.view_is) p c.take-open.new.self
    c.take-open.ensures.found c.take-open.ensures.left c.take-open.ensures.others c.take-open.ensures.stripe
    in
    subst (λ (pins : List Pin). All (λ pin. pin.version < length a.versions.listed) pins) (sym (c.deref.ensures.value ∙ ap (λ (o : Open). o.pass.pinned) c.open.view_is)) t.pinned

pub invariant_of-self : goal.invariant_of-self
invariant_of-self c =
    let a : Inside = c.self.inside in
    let p : Pass = c.take-open.result.pass in
    let who : Actor = c.pass.inside.actor in
    let t : Taken a c.args.self.now.core c.args.pass who p c.take-open.new.self =
    taken a c.self.invariant c.args.self.now.core (ap (λ (s : Sealed). s.core) c.self.view_is) c.args.pass c.requires.agrees who (ap (λ (h : HeldPass). h.pass.actor) c.pass.view_is) p c.take-open.new.self
    c.take-open.ensures.found c.take-open.ensures.left c.take-open.ensures.others c.take-open.ensures.stripe
    in
    let live : p.reaped ≡ None =
    sym (said_of (λ (own : Pass). c.reap_of.result ≡ own.reaped) (pass_of who (directory_in a)) p t.gone.found (subst (λ (d : Directory). IfSome (pass_of who d) (λ own. c.reap_of.result ≡ own.reaped)) (sym t.view) c.reap_of.ensures)) ∙ c.in_default.is
    in
    let kind : p.note.kind ≡ Kind.Rebuild = ap (λ (q : Pass). q.note.kind) t.is ∙ c.requires.may in
    let drawn : p.drawn ≡ [] = subst (λ (k : Kind). IsRight (directory_in a) p k) kind (it_has (directory_in a) who p c.take-open.new.self.listed t.gone.found t.gone.left t.gone.perm (λ (q : Pass). IsRight (directory_in a) q q.note.kind) c.self.invariant.whole.sound.calls) in
    let listed : c.unpin_all.new.self.listed ≡ set_standing Standing.Superseded p.drawn a.versions.listed = c.unpin_all.ensures.listed ∙ ap (λ ns. set_standing Standing.Superseded ns a.versions.listed) (sym drawn) in
    let counts : c.unpin_all.new.self.pins ≡ unpinned p.pinned a.versions.pins = c.unpin_all.ensures.pins ∙ ap (λ pins. unpinned pins a.versions.pins) (c.deref.ensures.value ∙ ap (λ (o : Open). o.pass.pinned) c.open.view_is) in
    kept_closed a c.self.invariant who p c.take-open.new.self t.gone live DirectoryStep.End Told.Ended c.unpin_all.new.self tt
    (ended_step (directory_in a) who p c.take-open.new.self.listed t.gone.found t.gone.left t.gone.perm 0 c.unpin_all.new.self.listed live listed) counts (ap origins c.unpin_all.ensures.listed)

pub returns-clause-token : goal.returns-clause-token
returns-clause-token c =
    let a : Inside = c.self.inside in
    let p : Pass = c.take-open.result.pass in
    let who : Actor = c.pass.inside.actor in
    let t : Taken a c.args.self.now.core c.args.pass who p c.take-open.new.self =
    taken a c.self.invariant c.args.self.now.core (ap (λ (s : Sealed). s.core) c.self.view_is) c.args.pass c.requires.agrees who (ap (λ (h : HeldPass). h.pass.actor) c.pass.view_is) p c.take-open.new.self
    c.take-open.ensures.found c.take-open.ensures.left c.take-open.ensures.others c.take-open.ensures.stripe
    in
    ap ActorToken.Seated (c.seat_of.ensures ∙ taken_seat a c.args.self.now.core c.args.pass who p c.take-open.new.self t c.open.inside.number (Some c.last_of-newer.result) (ap (λ (o : Open). o.pass.number) c.open.view_is))
