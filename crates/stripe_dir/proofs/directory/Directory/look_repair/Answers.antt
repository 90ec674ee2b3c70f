use Rattle.stripe_stamps.specs.Sealed.{Sealed}
use Rattle.std.proofs.Common.{◌≡◌, ℕ, ◌<◌, ◌∷◌, [], List, length, get_or, All, None, refl, ap, sym, subst, ◌∙◌, arith}
use Rattle.std.proofs.lemmas.List.Elements.{All-cons}
use Rattle.clay_grid.specs.Shape.{stripe_length}
use Rattle.store_core.specs.Note.{Note, Kind}
use Rattle.store_core.specs.Act.{DirectoryStep}
use Rattle.store_core.specs.Directory.{Standing, Directory}
use Rattle.store_core.specs.Looks.{look_repair}
use Rattle.store_core.specs.Agreement.{Seat}
use Rattle.stripe_stamps.specs.ItsStripes.{IsWhole}
use Rattle.store_core.specs.SoundPasses.{Stands}
use Rattle.run_laws.proofs.OwnSteps.{steps_may_be_made}
use Rattle.dir_parts.specs.Parts.{object_or_new}
use Rattle.dir_parts.specs.Begun.{begun_in}
use Rattle.stripe_dir.specs.Kept.{directory_in}
use Rattle.stripe_dir.proofs.Sound.{keeps_whole}
use Rattle.stripe_dir.proofs.Commits.{old_current}
use Rattle.stripe_dir.proofs.Lookings.{repair_begins}
use Rattle.stripe_dir.proofs.directory.Directory.look_repair.Goals as goal

pub begin-requires-clause-stands : goal.begin-requires-clause-stands
begin-requires-clause-stands c =
    let x : Directory = c.args.self.now.core in
    let view : directory_in c.self.inside ≡ x = (ap (λ (s : Sealed). s.core) c.self.view_is) in
    let whole : IsWhole x = subst IsWhole view c.self.invariant.whole in
    let note : Note = record { kind = Kind.Rebuild; name = c.args.name.now; offset = c.args.stripe; length = 0 } in
    let count : c.stripes_of.result ≡ length (object_or_new c.args.name.now x.objects).versions = c.stripes_of.ensures ∙ ap (λ (y : Directory). length (object_or_new c.args.name.now y.objects).versions) view in
    let within : c.args.stripe < length (object_or_new c.args.name.now x.objects).versions = omega (arith, count, c.if-stripe-stripes_of.false) in
    let here : Stands x Standing.Current (get_or (object_or_new c.args.name.now x.objects).versions c.args.stripe 0) = old_current x whole.sound c.args.name.now c.args.stripe 0 within in
    subst (λ (name : List ℕ). All (λ s. Stands x Standing.Current (get_or (object_or_new name x.objects).versions s 0)) (c.args.stripe ∷ [])) (sym c.in-Ok.ensures)
    (All-cons (λ s. Stands x Standing.Current (get_or (object_or_new c.args.name.now x.objects).versions s 0)) c.args.stripe [] here (λ k d less. absurd (let no : k < 0 = less in omega (arith, no))))

pub begin-requires-clause-whole : goal.begin-requires-clause-whole
begin-requires-clause-whole c =
    let x : Directory = c.args.self.now.core in
    let view : directory_in c.self.inside ≡ x = (ap (λ (s : Sealed). s.core) c.self.view_is) in
    let whole : IsWhole x = subst IsWhole view c.self.invariant.whole in
    let note : Note = record { kind = Kind.Rebuild; name = c.args.name.now; offset = c.args.stripe; length = 0 } in
    let count : c.stripes_of.result ≡ length (object_or_new c.args.name.now x.objects).versions = c.stripes_of.ensures ∙ ap (λ (y : Directory). length (object_or_new c.args.name.now y.objects).versions) view in
    let within : c.args.stripe < length (object_or_new c.args.name.now x.objects).versions = omega (arith, count, c.if-stripe-stripes_of.false) in
    let some : 0 < stripe_length x.shape = subst (λ (y : Directory). 0 < stripe_length y.shape) view c.self.invariant.stripes in
    let actor : c.seat.inside.actor ≡ c.args.seat.actor = ap (λ (s : Seat). s.actor) c.seat.view_is in
    let looked : IsWhole (look_repair c.args.seat.actor c.args.number note x).0 =
    keeps_whole c.args.seat.actor c.args.number (DirectoryStep.LookRepair note) x some whole (steps_may_be_made.look c.args.seat c.args.number (DirectoryStep.LookRepair note) x c.requires.agrees c.requires.may)
    in
    subst (λ (r : Directory). IsWhole r)
    (ap (λ r. r.0) (repair_begins c.args.seat.actor c.args.number note x refl within)
    ∙ (λ i. begun_in (sym actor i) c.args.number (record { kind = Kind.Rebuild; name = sym c.in-Ok.ensures i; offset = c.args.stripe; length = 0 }) (c.args.stripe ∷ []) None x)) looked
