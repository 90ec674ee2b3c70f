use Rattle.stripe_stamps.specs.Sealed.{Sealed}
use Rattle.std.proofs.Common.{◌≡◌, ◌<◌, ◌∷◌, ◌++◌, [], List, All, length, is_err, false, refl, ap, sym, subst, ◌∙◌, arith}
use Rattle.store_map.specs.declared.reply.Reply.TheVariants as reply
use Rattle.store_core.specs.Told.{Told}
use Rattle.store_core.specs.Note.{Note}
use Rattle.store_core.specs.Directory.{Object, Standing, Event, Directory}
use Rattle.store_core.specs.Look.{remove_object, set_standing}
use Rattle.store_core.specs.Agreement.{Seat}
use Rattle.stripe_stamps.specs.ItsStripes.{IsWhole}
use Rattle.version_table.specs.Known.{IsKnown}
use Rattle.dir_parts.specs.Parts.{object_or_new}
use Rattle.run_laws.proofs.ContentGrows.{origins, set_keeps}
use Rattle.dir_parts.specs.Begun.{deleted}
use Rattle.stripe_dir.specs.Kept.{directory_in}
use Rattle.stripe_dir.specs.declared.directory.Directory.TheInside.{Inside}
use Rattle.stripe_dir.proofs.KnownVersions.{all_known}
use Rattle.stripe_dir.proofs.Commits.{old_current, old_name}
use Rattle.stripe_dir.proofs.Beginnings.{Roomy, kept_roomy, kept_pointed, ok_of}
use Rattle.stripe_dir.proofs.directory.Directory.delete.Goals as goal

pub invariant_of-self : goal.invariant_of-self
invariant_of-self c =
    let a : Inside = c.self.inside in
    let d : Directory = directory_in a in
    let view : d ≡ c.args.self.now.core = (ap (λ (s : Sealed). s.core) c.self.view_is) in
    let m = c.make_room.ensures in
    let roomy : Roomy a c.make_room.new.objects c.make_room.new.passes c.make_room.new.history =
    record { points = m.points; others = m.others; points_room = m.points_room; objects = m.objects; objects_room = m.objects_room; passes = m.passes; stripe = m.stripe; keeps = m.keeps }
    in
    kept_roomy a c.self.invariant c.make_room.new.objects c.make_room.new.passes c.make_room.new.history roomy

pub remove_object-requires : goal.remove_object-requires
remove_object-requires c =
    let a : Inside = c.self.inside in
    let d : Directory = directory_in a in
    let view : d ≡ c.args.self.now.core = (ap (λ (s : Sealed). s.core) c.self.view_is) in
    let m = c.make_room.ensures in
    let roomy : Roomy a c.make_room.new.objects c.make_room.new.passes c.make_room.new.history =
    record { points = m.points; others = m.others; points_room = m.points_room; objects = m.objects; objects_room = m.objects_room; passes = m.passes; stripe = m.stripe; keeps = m.keeps }
    in
    subst (λ (os : List Object). All (IsKnown d.versions) (object_or_new c.note.inside.name os).versions) (sym m.objects)
    (all_known d Standing.Current (object_or_new c.note.inside.name d.objects).versions refl (old_current d c.self.invariant.whole.sound c.note.inside.name))

pub invariant_of-self-2 : goal.invariant_of-self-2
invariant_of-self-2 c =
    let a : Inside = c.self.inside in
    let d : Directory = directory_in a in
    let view : d ≡ c.args.self.now.core = (ap (λ (s : Sealed). s.core) c.self.view_is) in
    let m = c.make_room.ensures in
    let roomy : Roomy a c.make_room.new.objects c.make_room.new.passes c.make_room.new.history =
    record { points = m.points; others = m.others; points_room = m.points_room; objects = m.objects; objects_room = m.objects_room; passes = m.passes; stripe = m.stripe; keeps = m.keeps }
    in
    let object : Object = object_or_new c.args.note.name d.objects in
    let actor : c.seat.inside.actor ≡ c.args.seat.actor = ap (λ (s : Seat). s.actor) c.seat.view_is in
    let name : c.note.inside.name ≡ c.args.note.name = ap (λ (n : Note). n.name) c.note.view_is in
    let held : object_or_new c.note.inside.name c.make_room.new.objects.objects ≡ object = (λ i. object_or_new (name i) (m.objects i)) in
    let listed : c.remove_object.new.versions.listed ≡ set_standing Standing.Superseded object.versions d.versions = c.remove_object.ensures.listed ∙ (λ i. set_standing Standing.Superseded (held i).versions d.versions) in
    let objects : c.remove_object.new.objects.objects ≡ remove_object object.name d.objects = c.remove_object.ensures.objects ∙ (λ i. remove_object ((name ∙ sym (old_name d.objects c.args.note.name)) i) (m.objects i)) in
    let points : c.add-point.new.self.points ≡ d.points ++ record { actor = c.args.seat.actor; number = c.args.number; note = c.args.note; event = Event.Answer reply.Done } ∷ [] =
    c.add-point.ensures.points ∙ (λ j. m.points j ++ record { actor = actor j; number = c.args.number; note = c.args.note; event = Event.Answer reply.Done } ∷ [])
    in
    let made : directory_in (record a { objects = c.remove_object.new.objects; versions = c.remove_object.new.versions; passes = c.make_room.new.passes; history = c.add-point.new.self }) ≡ deleted c.args.seat.actor c.args.number c.args.note d =
    (λ i. record d { objects = objects i; versions = listed i; passes = m.passes i; points = points i })
    in
    let fine : is_err c.make_room.result ≡ false = sym c.is_err.ensures.value ∙ c.if-is_err.false in
    kept_pointed a c.self.invariant c.make_room.new.objects c.make_room.new.passes c.make_room.new.history roomy c.remove_object.new.objects c.remove_object.new.versions c.add-point.new.self
    (subst IsWhole (sym made) (subst (λ (x : Directory). IsWhole (deleted c.args.seat.actor c.args.number c.args.note x)) (sym view) c.requires.whole))
    (ok_of c.make_room.result fine m.more_points) (omega (arith, c.add-point.ensures.room)) c.add-point.ensures.names c.add-point.ensures.keeps c.remove_object.ensures.pins (ap origins listed ∙ set_keeps Standing.Superseded object.versions d.versions)
    (omega (arith, m.objects_room, c.remove_object.ensures.room))

pub returns-clause-step : goal.returns-clause-step
returns-clause-step c =
    let a : Inside = c.self.inside in
    let d : Directory = directory_in a in
    let view : d ≡ c.args.self.now.core = (ap (λ (s : Sealed). s.core) c.self.view_is) in
    let m = c.make_room.ensures in
    let roomy : Roomy a c.make_room.new.objects c.make_room.new.passes c.make_room.new.history =
    record { points = m.points; others = m.others; points_room = m.points_room; objects = m.objects; objects_room = m.objects_room; passes = m.passes; stripe = m.stripe; keeps = m.keeps }
    in
    let object : Object = object_or_new c.args.note.name d.objects in
    let actor : c.seat.inside.actor ≡ c.args.seat.actor = ap (λ (s : Seat). s.actor) c.seat.view_is in
    let name : c.note.inside.name ≡ c.args.note.name = ap (λ (n : Note). n.name) c.note.view_is in
    let held : object_or_new c.note.inside.name c.make_room.new.objects.objects ≡ object = (λ i. object_or_new (name i) (m.objects i)) in
    let listed : c.remove_object.new.versions.listed ≡ set_standing Standing.Superseded object.versions d.versions = c.remove_object.ensures.listed ∙ (λ i. set_standing Standing.Superseded (held i).versions d.versions) in
    let objects : c.remove_object.new.objects.objects ≡ remove_object object.name d.objects = c.remove_object.ensures.objects ∙ (λ i. remove_object ((name ∙ sym (old_name d.objects c.args.note.name)) i) (m.objects i)) in
    let points : c.add-point.new.self.points ≡ d.points ++ record { actor = c.args.seat.actor; number = c.args.number; note = c.args.note; event = Event.Answer reply.Done } ∷ [] =
    c.add-point.ensures.points ∙ (λ j. m.points j ++ record { actor = actor j; number = c.args.number; note = c.args.note; event = Event.Answer reply.Done } ∷ [])
    in
    let made : directory_in (record a { objects = c.remove_object.new.objects; versions = c.remove_object.new.versions; passes = c.make_room.new.passes; history = c.add-point.new.self }) ≡ deleted c.args.seat.actor c.args.number c.args.note d =
    (λ i. record d { objects = objects i; versions = listed i; passes = m.passes i; points = points i })
    in
    (λ i. (made i, Told.Answer ((c.add-point.ensures.point ∙ ap length m.points) i) (c.reply.ensures i)))
    ∙ ap (λ (x : Directory). (deleted c.args.seat.actor c.args.number c.args.note x, Told.Answer (length x.points) reply.Done)) view
