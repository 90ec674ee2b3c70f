use Rattle.stripe_stamps.specs.Sealed.{Sealed}
use Rattle.std.proofs.Common.{◌≡◌, ℕ, ◌<◌, List, length, get_or, cond, All, refl, ap, sym, subst, ◌∙◌}
use Rattle.clay_grid.specs.Shape.{stripe_length}
use Rattle.store_core.specs.Told.{Told}
use Rattle.store_core.specs.Note.{Note}
use Rattle.store_core.specs.Directory.{Object, Standing, Directory}
use Rattle.store_core.specs.Lookups.{last_change}
use Rattle.store_core.specs.Look.{pinned_by}
use Rattle.store_core.specs.Agreement.{Seat}
use Rattle.stripe_stamps.specs.ItsStripes.{IsWhole}
use Rattle.store_core.specs.SoundPasses.{Stands}
use Rattle.dir_parts.specs.Parts.{object_or_new}
use Rattle.stripe_stamps.specs.Stripes.{pinned_of}
use Rattle.dir_parts.specs.Begun.{begun_in, base_by, has_point, seen_in_object}
use Rattle.stripe_dir.specs.Kept.{directory_in}
use Rattle.stripe_dir.specs.declared.directory.Directory.TheInside.{Inside}
use Rattle.stripe_dir.proofs.Lookings.{pinned_is, pins_stand, accept_begins, told_begun}
use Rattle.stripe_dir.proofs.directory.Directory.look_on.Goals as goal

pub begin-requires-clause-stands : goal.begin-requires-clause-stands
begin-requires-clause-stands c =
    let a : Inside = c.self.inside in
    let x : Directory = c.args.self.now.core in
    let view : directory_in a ≡ x = (ap (λ (s : Sealed). s.core) c.self.view_is) in
    let note : Note = c.args.note in
    let object : Object = object_or_new note.name x.objects in
    let some : 0 < stripe_length x.shape = subst (λ (y : Directory). 0 < stripe_length y.shape) view c.self.invariant.stripes in
    let whole : IsWhole x = subst IsWhole view c.self.invariant.whole in
    let stripe : c.stripe_len-stripe_len.result ≡ stripe_length x.shape = c.stripe_len-stripe_len.ensures.value ∙ ap (λ (y : Directory). stripe_length y.shape) view in
    let stripes : c.deref.result.now ≡ pinned_by note.kind x.shape note object.length =
    c.deref.ensures.value ∙ c.in-Ok.ensures ∙ (λ i. pinned_of (c.note.view_is i).kind (stripe i) (c.note.view_is i).offset (c.note.view_is i).length (c.requires.length i)) ∙ pinned_is note.kind x.shape note object.length refl
    in
    let base : c.point_looked_at-looked_at.result ≡ base_by note.kind (last_change note.name x.points) = c.point_looked_at-looked_at.ensures ∙ (λ i. base_by note.kind (last_change note.name (view i).points)) in
    let actor : c.seat.inside.actor ≡ c.args.seat.actor = ap (λ (s : Seat). s.actor) c.seat.view_is in
    let begins = accept_begins c.args.seat.actor c.args.number note x note.kind c.requires.goes_on refl c.point_looked_at-looked_at.result base in
    subst (λ (ss : List ℕ). All (λ s. Stands x Standing.Current (get_or object.versions s 0)) ss) (sym stripes) (pins_stand x some whole.sound note.kind note)

pub begin-requires-clause-whole : goal.begin-requires-clause-whole
begin-requires-clause-whole c =
    let a : Inside = c.self.inside in
    let x : Directory = c.args.self.now.core in
    let view : directory_in a ≡ x = (ap (λ (s : Sealed). s.core) c.self.view_is) in
    let note : Note = c.args.note in
    let object : Object = object_or_new note.name x.objects in
    let some : 0 < stripe_length x.shape = subst (λ (y : Directory). 0 < stripe_length y.shape) view c.self.invariant.stripes in
    let whole : IsWhole x = subst IsWhole view c.self.invariant.whole in
    let stripe : c.stripe_len-stripe_len.result ≡ stripe_length x.shape = c.stripe_len-stripe_len.ensures.value ∙ ap (λ (y : Directory). stripe_length y.shape) view in
    let stripes : c.deref.result.now ≡ pinned_by note.kind x.shape note object.length =
    c.deref.ensures.value ∙ c.in-Ok.ensures ∙ (λ i. pinned_of (c.note.view_is i).kind (stripe i) (c.note.view_is i).offset (c.note.view_is i).length (c.requires.length i)) ∙ pinned_is note.kind x.shape note object.length refl
    in
    let base : c.point_looked_at-looked_at.result ≡ base_by note.kind (last_change note.name x.points) = c.point_looked_at-looked_at.ensures ∙ (λ i. base_by note.kind (last_change note.name (view i).points)) in
    let actor : c.seat.inside.actor ≡ c.args.seat.actor = ap (λ (s : Seat). s.actor) c.seat.view_is in
    let begins = accept_begins c.args.seat.actor c.args.number note x note.kind c.requires.goes_on refl c.point_looked_at-looked_at.result base in
    subst (λ (r : Directory). IsWhole r) (ap (λ r. r.0) begins ∙ (λ i. begun_in (sym actor i) c.args.number note (sym stripes i) c.point_looked_at-looked_at.result x)) c.requires.whole

pub returns-clause-step : goal.returns-clause-step
returns-clause-step c =
    let a : Inside = c.self.inside in
    let x : Directory = c.args.self.now.core in
    let view : directory_in a ≡ x = (ap (λ (s : Sealed). s.core) c.self.view_is) in
    let note : Note = c.args.note in
    let object : Object = object_or_new note.name x.objects in
    let some : 0 < stripe_length x.shape = subst (λ (y : Directory). 0 < stripe_length y.shape) view c.self.invariant.stripes in
    let whole : IsWhole x = subst IsWhole view c.self.invariant.whole in
    let stripe : c.stripe_len-stripe_len.result ≡ stripe_length x.shape = c.stripe_len-stripe_len.ensures.value ∙ ap (λ (y : Directory). stripe_length y.shape) view in
    let stripes : c.deref.result.now ≡ pinned_by note.kind x.shape note object.length =
    c.deref.ensures.value ∙ c.in-Ok.ensures ∙ (λ i. pinned_of (c.note.view_is i).kind (stripe i) (c.note.view_is i).offset (c.note.view_is i).length (c.requires.length i)) ∙ pinned_is note.kind x.shape note object.length refl
    in
    let base : c.point_looked_at-looked_at.result ≡ base_by note.kind (last_change note.name x.points) = c.point_looked_at-looked_at.ensures ∙ (λ i. base_by note.kind (last_change note.name (view i).points)) in
    let actor : c.seat.inside.actor ≡ c.args.seat.actor = ap (λ (s : Seat). s.actor) c.seat.view_is in
    let begins = accept_begins c.args.seat.actor c.args.number note x note.kind c.requires.goes_on refl c.point_looked_at-looked_at.result base in
    let told : told_begun c.args.seat.actor c.args.number note x object note.kind c.point_looked_at-looked_at.result (seen_in_object x note (pinned_by note.kind x.shape note object.length)) ≡ Told.Ready c.point_looked_at-looked_at.result object.length (seen_in_object x note (pinned_by note.kind x.shape note object.length)) =
    ap (λ b. cond {A = Told} b (Told.Pinned (length x.points) object.length (seen_in_object x note (pinned_by note.kind x.shape note object.length))) (Told.Ready c.point_looked_at-looked_at.result object.length (seen_in_object x note (pinned_by note.kind x.shape note object.length)))) (sym (ap has_point (ap (λ (n : Note). n.kind) c.note.view_is)) ∙ sym c.has_point.ensures ∙ c.if-has_point.false)
    in
    (λ i. (c.in-Ok-begin.ensures.after i, Told.Ready (c.point_of.ensures i) (c.requires.length i) (c.in-Ok-begin.ensures.seen i)))
    ∙ (λ i. (begun_in (actor i) c.args.number note (stripes i) c.point_looked_at-looked_at.result x, Told.Ready c.point_looked_at-looked_at.result object.length (seen_in_object x note (stripes i))))
    ∙ ap (λ (t : Told). (begun_in c.args.seat.actor c.args.number note (pinned_by note.kind x.shape note object.length) c.point_looked_at-looked_at.result x, t)) (sym told)
    ∙ sym begins
