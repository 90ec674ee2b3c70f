use Rattle.std.proofs.Common.{◌≡◌, Some, ap, sym, subst, ◌∙◌}
use Rattle.store_map.specs.declared.actor.Actor.{Actor}
use Rattle.store_core.specs.Directory.{Pass, Directory}
use Rattle.store_core.specs.Lookups.{pass_of}
use Rattle.store_core.specs.AtDirectory.{on_pass}
use Rattle.store_core.specs.Agreement.{HeldPass, AgreesWithPass}
use Rattle.dir_parts.specs.OpenPass.{Open}
use Rattle.stripe_stamps.specs.Sealed.{Sealed}
use Rattle.stripe_dir.specs.Kept.{directory_in}
use Rattle.stripe_dir.specs.declared.directory.Directory.TheInside.{Inside}
use Rattle.stripe_dir.proofs.Ending.{Taken, taken, taken_said, taken_seat, kept_reaped, reaped_any, is_there}
use Rattle.stripe_dir.proofs.directory.Directory.end_reaped.Goals as goal

pub take-open-requires-clause-there : goal.take-open-requires-clause-there
take-open-requires-clause-there c =
    is_there (directory_in c.self.inside) c.args.pass c.pass.inside.actor (ap (λ (h : HeldPass). h.pass.actor) c.pass.view_is) (subst (λ (d : Directory). AgreesWithPass d c.args.pass) (sym (ap (λ (s : Sealed). s.core) c.self.view_is)) c.requires.agrees)

pub invariant_of-self : goal.invariant_of-self
invariant_of-self c =
    let a : Inside = c.self.inside in
    let p : Pass = c.take-open.result.pass in
    let who : Actor = c.pass.inside.actor in
    let t : Taken a c.args.self.now.core c.args.pass who p c.take-open.new.self =
    taken a c.self.invariant c.args.self.now.core (ap (λ (s : Sealed). s.core) c.self.view_is) c.args.pass c.requires.agrees who (ap (λ (h : HeldPass). h.pass.actor) c.pass.view_is) p c.take-open.new.self
    c.take-open.ensures.found c.take-open.ensures.left c.take-open.ensures.others c.take-open.ensures.stripe
    in
    kept_reaped a c.self.invariant who p c.take-open.new.self t.gone c.args.point (taken_said a c.args.self.now.core c.args.pass who p c.take-open.new.self t (λ (own : Pass). own.reaped ≡ Some c.args.point) c.requires.reaped)

pub returns-clause-step : goal.returns-clause-step
returns-clause-step c =
    let a : Inside = c.self.inside in
    let p : Pass = c.take-open.result.pass in
    let who : Actor = c.pass.inside.actor in
    let t : Taken a c.args.self.now.core c.args.pass who p c.take-open.new.self =
    taken a c.self.invariant c.args.self.now.core (ap (λ (s : Sealed). s.core) c.self.view_is) c.args.pass c.requires.agrees who (ap (λ (h : HeldPass). h.pass.actor) c.pass.view_is) p c.take-open.new.self
    c.take-open.ensures.found c.take-open.ensures.left c.take-open.ensures.others c.take-open.ensures.stripe
    in
    let reaped : p.reaped ≡ Some c.args.point = taken_said a c.args.self.now.core c.args.pass who p c.take-open.new.self t (λ (own : Pass). own.reaped ≡ Some c.args.point) c.requires.reaped in
    λ step. reaped_any (directory_in a) who p c.take-open.new.self.listed t.gone.found t.gone.left t.gone.perm step c.args.point reaped ∙ (λ i. on_pass step (pass_of (t.same i) (t.view i)) (t.view i))

pub returns-clause-seat : goal.returns-clause-seat
returns-clause-seat c =
    let a : Inside = c.self.inside in
    let p : Pass = c.take-open.result.pass in
    let who : Actor = c.pass.inside.actor in
    let t : Taken a c.args.self.now.core c.args.pass who p c.take-open.new.self =
    taken a c.self.invariant c.args.self.now.core (ap (λ (s : Sealed). s.core) c.self.view_is) c.args.pass c.requires.agrees who (ap (λ (h : HeldPass). h.pass.actor) c.pass.view_is) p c.take-open.new.self
    c.take-open.ensures.found c.take-open.ensures.left c.take-open.ensures.others c.take-open.ensures.stripe
    in
    c.seat_of.ensures ∙ taken_seat a c.args.self.now.core c.args.pass who p c.take-open.new.self t c.open.inside.number (Some c.args.point) (ap (λ (o : Open). o.pass.number) c.open.view_is)
