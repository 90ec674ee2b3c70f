use Rattle.stripe_stamps.specs.Sealed.{Sealed}
use Rattle.std.proofs.Common.{◌≡◌, ℕ, ◌+◌, ◌<◌, ◌^◌, ◌∷◌, ◌++◌, List, length, map, get_or, slice_get, None, All, Contains, true, false, refl, ap, sym, subst, ◌∙◌}
use Rattle.store_core.specs.Note.{Note}
use Rattle.store_core.specs.Directory.{Object, Standing, Pin, Pass, Directory}
use Rattle.store_core.specs.Lookups.{holds_standing, is_superseded_standing}
use Rattle.stripe_stamps.specs.ItsStripes.{IsWhole}
use Rattle.store_core.specs.SoundPasses.{Stands}
use Rattle.version_table.specs.Counts.{pinned_more}
use Rattle.dir_parts.specs.OpenPass.{Open}
use Rattle.version_table.specs.Known.{IsKnown}
use Rattle.dir_parts.specs.Parts.{object_or_new}
use Rattle.stripe_stamps.specs.Stripes.{pin_by, seen_by}
use Rattle.dir_parts.specs.Begun.{begun_in, begun_pass, seen_in_object, looked}
use Rattle.stripe_dir.specs.Kept.{directory_in}
use Rattle.stripe_dir.specs.declared.directory.Directory.TheInside.{Inside}
use Rattle.stripe_dir.proofs.KnownVersions.{stands_known}
use Rattle.stripe_dir.proofs.Beginnings.{Roomy, kept_roomy, kept_begun, pins_are, pins_have, current_other}
use Rattle.stripe_dir.proofs.directory.Directory.begin.Goals as goal

pub invariant_of-self : goal.invariant_of-self
invariant_of-self c =
    let a : Inside = c.self.inside in
    let d : Directory = directory_in a in
    let view : d ≡ c.args.self.now.core = (ap (λ (s : Sealed). s.core) c.self.view_is) in
    let m = c.make_room.ensures in
    let roomy : Roomy a c.make_room.new.objects c.make_room.new.passes c.make_room.new.history =
    record { points = m.points; others = m.others; points_room = m.points_room; objects = m.objects; objects_room = m.objects_room; passes = m.passes; stripe = m.stripe; keeps = m.keeps }
    in
    kept_roomy a c.self.invariant c.make_room.new.objects c.make_room.new.passes c.make_room.new.history roomy

pub invariant_of-self-in_err-seen : goal.invariant_of-self-in_err-seen
invariant_of-self-in_err-seen c =
    let a : Inside = c.self.inside in
    let d : Directory = directory_in a in
    let view : d ≡ c.args.self.now.core = (ap (λ (s : Sealed). s.core) c.self.view_is) in
    let m = c.make_room.ensures in
    let roomy : Roomy a c.make_room.new.objects c.make_room.new.passes c.make_room.new.history =
    record { points = m.points; others = m.others; points_room = m.points_room; objects = m.objects; objects_room = m.objects_room; passes = m.passes; stripe = m.stripe; keeps = m.keeps }
    in
    kept_roomy a c.self.invariant c.make_room.new.objects c.make_room.new.passes c.make_room.new.history roomy

pub invariant_of-self-then-not-can_pin : goal.invariant_of-self-then-not-can_pin
invariant_of-self-then-not-can_pin c =
    let a : Inside = c.self.inside in
    let d : Directory = directory_in a in
    let view : d ≡ c.args.self.now.core = (ap (λ (s : Sealed). s.core) c.self.view_is) in
    let m = c.make_room.ensures in
    let roomy : Roomy a c.make_room.new.objects c.make_room.new.passes c.make_room.new.history =
    record { points = m.points; others = m.others; points_room = m.points_room; objects = m.objects; objects_room = m.objects_room; passes = m.passes; stripe = m.stripe; keeps = m.keeps }
    in
    kept_roomy a c.self.invariant c.make_room.new.objects c.make_room.new.passes c.make_room.new.history roomy

pub see_object-requires-clause-there : goal.see_object-requires-clause-there
see_object-requires-clause-there c =
    let a : Inside = c.self.inside in
    let d : Directory = directory_in a in
    let view : d ≡ c.args.self.now.core = (ap (λ (s : Sealed). s.core) c.self.view_is) in
    let m = c.make_room.ensures in
    let stripes : List ℕ = c.args.stripes.now in
    let object : Object = object_or_new c.args.note.name d.objects in
    let held_is : (object_or_new c.note.inside.name c.make_room.new.objects.objects).versions ≡ object.versions = (λ i. (object_or_new ((ap (λ (n : Note). n.name) c.note.view_is) i) (m.objects i)).versions) in
    let stands : All (λ s. Stands d Standing.Current (get_or object.versions s 0)) stripes =
    subst (λ (x : Directory). All (λ s. Stands x Standing.Current (get_or (object_or_new c.args.note.name x.objects).versions s 0)) stripes) (sym view) c.requires.stands
    in
    subst (λ (held : List ℕ). All (λ s. IsKnown d.versions (get_or held s 0)) stripes) (sym held_is)
    (λ k x less. stands_known d Standing.Current (get_or object.versions (get_or stripes k x) 0) refl (stands k x less))

pub can_pin-requires : goal.can_pin-requires
can_pin-requires c =
    let a : Inside = c.self.inside in
    let d : Directory = directory_in a in
    let view : d ≡ c.args.self.now.core = (ap (λ (s : Sealed). s.core) c.self.view_is) in
    let m = c.make_room.ensures in
    let roomy : Roomy a c.make_room.new.objects c.make_room.new.passes c.make_room.new.history =
    record { points = m.points; others = m.others; points_room = m.points_room; objects = m.objects; objects_room = m.objects_room; passes = m.passes; stripe = m.stripe; keeps = m.keeps }
    in
    let stripes : List ℕ = c.args.stripes.now in
    let object : Object = object_or_new c.args.note.name d.objects in
    let held_is : (object_or_new c.note.inside.name c.make_room.new.objects.objects).versions ≡ object.versions = (λ i. (object_or_new ((ap (λ (n : Note). n.name) c.note.view_is) i) (m.objects i)).versions) in
    let stands : All (λ s. Stands d Standing.Current (get_or object.versions s 0)) stripes =
    subst (λ (x : Directory). All (λ s. Stands x Standing.Current (get_or (object_or_new c.args.note.name x.objects).versions s 0)) stripes) (sym view) c.requires.stands
    in
    let pinned_is : c.in_ok-seen.field-0.pinned.items ≡ map (pin_by object.versions) stripes =
    c.in_ok-seen.ensures.pinned ∙ ap (λ h. map (pin_by h) stripes) held_is
    in
    subst (λ (ps : List Pin). All (λ pin. IsKnown d.versions pin.version) ps) (sym (c.deref.ensures.value ∙ pinned_is))
    (pins_have (IsKnown d.versions) object.versions stripes (λ k x less. stands_known d Standing.Current (get_or object.versions (get_or stripes k x) 0) refl (stands k x less)))

pub pin_all-requires-clause-others : goal.pin_all-requires-clause-others
pin_all-requires-clause-others c =
    let a : Inside = c.self.inside in
    let d : Directory = directory_in a in
    let view : d ≡ c.args.self.now.core = (ap (λ (s : Sealed). s.core) c.self.view_is) in
    let m = c.make_room.ensures in
    let roomy : Roomy a c.make_room.new.objects c.make_room.new.passes c.make_room.new.history =
    record { points = m.points; others = m.others; points_room = m.points_room; objects = m.objects; objects_room = m.objects_room; passes = m.passes; stripe = m.stripe; keeps = m.keeps }
    in
    let stripes : List ℕ = c.args.stripes.now in
    let object : Object = object_or_new c.args.note.name d.objects in
    let held_is : (object_or_new c.note.inside.name c.make_room.new.objects.objects).versions ≡ object.versions = (λ i. (object_or_new ((ap (λ (n : Note). n.name) c.note.view_is) i) (m.objects i)).versions) in
    let stands : All (λ s. Stands d Standing.Current (get_or object.versions s 0)) stripes =
    subst (λ (x : Directory). All (λ s. Stands x Standing.Current (get_or (object_or_new c.args.note.name x.objects).versions s 0)) stripes) (sym view) c.requires.stands
    in
    let pinned_is : c.in_ok-seen.field-0.pinned.items ≡ map (pin_by object.versions) stripes =
    c.in_ok-seen.ensures.pinned ∙ ap (λ h. map (pin_by h) stripes) held_is
    in
    subst (λ (ps : List Pin). All (λ pin. (pin.version < length d.versions) × (holds_standing is_superseded_standing (slice_get d.versions pin.version) ≡ false)) ps) (sym (c.deref-2.ensures.value ∙ pinned_is))
    (pins_have (λ v. (v < length d.versions) × (holds_standing is_superseded_standing (slice_get d.versions v) ≡ false)) object.versions stripes (λ k x less. ((stands k x less).1, current_other d (get_or object.versions (get_or stripes k x) 0) (stands k x less))))

pub pin_all-requires-clause-fits : goal.pin_all-requires-clause-fits
pin_all-requires-clause-fits c =
    let yes : c.can_pin.result ≡ true = c.if-not-can_pin.false in
    subst (λ (ps : List Pin). All (λ pin. get_or c.self.inside.versions.pins pin.version 0 + length ps < 2 ^ 64) ps) (c.deref.ensures.value ∙ sym c.deref-2.ensures.value) (c.can_pin.ensures.0 yes)

pub invariant_of-self-2 : goal.invariant_of-self-2
invariant_of-self-2 c =
    let a : Inside = c.self.inside in
    let d : Directory = directory_in a in
    let view : d ≡ c.args.self.now.core = (ap (λ (s : Sealed). s.core) c.self.view_is) in
    let m = c.make_room.ensures in
    let roomy : Roomy a c.make_room.new.objects c.make_room.new.passes c.make_room.new.history =
    record { points = m.points; others = m.others; points_room = m.points_room; objects = m.objects; objects_room = m.objects_room; passes = m.passes; stripe = m.stripe; keeps = m.keeps }
    in
    let stripes : List ℕ = c.args.stripes.now in
    let object : Object = object_or_new c.args.note.name d.objects in
    let held_is : (object_or_new c.note.inside.name c.make_room.new.objects.objects).versions ≡ object.versions = (λ i. (object_or_new ((ap (λ (n : Note). n.name) c.note.view_is) i) (m.objects i)).versions) in
    let stands : All (λ s. Stands d Standing.Current (get_or object.versions s 0)) stripes =
    subst (λ (x : Directory). All (λ s. Stands x Standing.Current (get_or (object_or_new c.args.note.name x.objects).versions s 0)) stripes) (sym view) c.requires.stands
    in
    let pinned_is : c.in_ok-seen.field-0.pinned.items ≡ map (pin_by object.versions) stripes =
    c.in_ok-seen.ensures.pinned ∙ ap (λ h. map (pin_by h) stripes) held_is
    in
    let n : Pass = begun_pass c.args.actor c.args.number c.args.note (seen_in_object d c.args.note stripes) c.args.looked_at in
    let pins : c.in_ok-seen.field-0.pinned.items ≡ n.pinned = pinned_is ∙ sym (pins_are d object stripes) in
    let passes : c.begin-entry.new.self.listed ≡ n ∷ d.passes =
    c.begin-entry.ensures.listed
    ∙ (λ i. record { actor = c.args.actor; number = c.args.number; note = c.args.note; pinned = pins i; drawn = c.new.ensures.items i; base = c.args.looked_at; reaped = None } ∷ m.passes i)
    in
    let points : c.add_look.new.history.points ≡ d.points ++ looked c.args.actor c.args.number c.args.note = c.add_look.ensures.points ∙ (λ i. m.points i ++ looked c.args.actor c.args.number c.args.note) in
    let made : directory_in (record a { objects = c.make_room.new.objects; versions = c.pin_all.new.self; passes = c.begin-entry.new.self; history = c.add_look.new.history }) ≡ begun_in c.args.actor c.args.number c.args.note stripes c.args.looked_at d =
    (λ i. record d { objects = m.objects i; versions = c.pin_all.ensures.listed i; passes = passes i; points = points i })
    in
    kept_begun a c.self.invariant c.make_room.new.objects c.make_room.new.passes c.make_room.new.history roomy c.pin_all.new.self c.begin-entry.new.self c.add_look.new.history n refl
    (subst IsWhole (sym made) (subst (λ (x : Directory). IsWhole (begun_in c.args.actor c.args.number c.args.note stripes c.args.looked_at x)) (sym view) c.requires.whole))
    passes c.begin-entry.ensures.stripe c.pin_all.ensures.listed (c.pin_all.ensures.pins ∙ ap (λ ps. pinned_more ps a.versions.pins) (c.deref-2.ensures.value ∙ pins))
    (subst (λ (ps : List Pin). All (λ pin. pin.version < length d.versions) ps) (sym (pins_are d object stripes)) (pins_have (λ v. v < length d.versions) object.versions stripes (λ k x less. (stands k x less).1)))
    c.in_ok-make_room.ensures.more_points c.add_look.ensures.left c.add_look.ensures.names c.add_look.ensures.keeps (subst (λ (n : Note). Contains c.make_room.new.history.names n.name) c.note.view_is c.in_ok-make_room.ensures.named) c.in_ok-make_room.ensures.more_objects

pub returns-clause-after : goal.returns-clause-after
returns-clause-after c =
    let a : Inside = c.self.inside in
    let d : Directory = directory_in a in
    let view : d ≡ c.args.self.now.core = (ap (λ (s : Sealed). s.core) c.self.view_is) in
    let m = c.make_room.ensures in
    let roomy : Roomy a c.make_room.new.objects c.make_room.new.passes c.make_room.new.history =
    record { points = m.points; others = m.others; points_room = m.points_room; objects = m.objects; objects_room = m.objects_room; passes = m.passes; stripe = m.stripe; keeps = m.keeps }
    in
    let stripes : List ℕ = c.args.stripes.now in
    let object : Object = object_or_new c.args.note.name d.objects in
    let held_is : (object_or_new c.note.inside.name c.make_room.new.objects.objects).versions ≡ object.versions = (λ i. (object_or_new ((ap (λ (n : Note). n.name) c.note.view_is) i) (m.objects i)).versions) in
    let stands : All (λ s. Stands d Standing.Current (get_or object.versions s 0)) stripes =
    subst (λ (x : Directory). All (λ s. Stands x Standing.Current (get_or (object_or_new c.args.note.name x.objects).versions s 0)) stripes) (sym view) c.requires.stands
    in
    let pinned_is : c.in_ok-seen.field-0.pinned.items ≡ map (pin_by object.versions) stripes =
    c.in_ok-seen.ensures.pinned ∙ ap (λ h. map (pin_by h) stripes) held_is
    in
    let n : Pass = begun_pass c.args.actor c.args.number c.args.note (seen_in_object d c.args.note stripes) c.args.looked_at in
    let pins : c.in_ok-seen.field-0.pinned.items ≡ n.pinned = pinned_is ∙ sym (pins_are d object stripes) in
    let passes : c.begin-entry.new.self.listed ≡ n ∷ d.passes =
    c.begin-entry.ensures.listed
    ∙ (λ i. record { actor = c.args.actor; number = c.args.number; note = c.args.note; pinned = pins i; drawn = c.new.ensures.items i; base = c.args.looked_at; reaped = None } ∷ m.passes i)
    in
    let points : c.add_look.new.history.points ≡ d.points ++ looked c.args.actor c.args.number c.args.note = c.add_look.ensures.points ∙ (λ i. m.points i ++ looked c.args.actor c.args.number c.args.note) in
    let made : directory_in (record a { objects = c.make_room.new.objects; versions = c.pin_all.new.self; passes = c.begin-entry.new.self; history = c.add_look.new.history }) ≡ begun_in c.args.actor c.args.number c.args.note stripes c.args.looked_at d =
    (λ i. record d { objects = m.objects i; versions = c.pin_all.ensures.listed i; passes = passes i; points = points i })
    in
    made ∙ ap (begun_in c.args.actor c.args.number c.args.note stripes c.args.looked_at) view

pub returns-clause-entry : goal.returns-clause-entry
returns-clause-entry c =
    let a : Inside = c.self.inside in
    let d : Directory = directory_in a in
    let view : d ≡ c.args.self.now.core = (ap (λ (s : Sealed). s.core) c.self.view_is) in
    let m = c.make_room.ensures in
    let roomy : Roomy a c.make_room.new.objects c.make_room.new.passes c.make_room.new.history =
    record { points = m.points; others = m.others; points_room = m.points_room; objects = m.objects; objects_room = m.objects_room; passes = m.passes; stripe = m.stripe; keeps = m.keeps }
    in
    let stripes : List ℕ = c.args.stripes.now in
    let object : Object = object_or_new c.args.note.name d.objects in
    let held_is : (object_or_new c.note.inside.name c.make_room.new.objects.objects).versions ≡ object.versions = (λ i. (object_or_new ((ap (λ (n : Note). n.name) c.note.view_is) i) (m.objects i)).versions) in
    let stands : All (λ s. Stands d Standing.Current (get_or object.versions s 0)) stripes =
    subst (λ (x : Directory). All (λ s. Stands x Standing.Current (get_or (object_or_new c.args.note.name x.objects).versions s 0)) stripes) (sym view) c.requires.stands
    in
    let pinned_is : c.in_ok-seen.field-0.pinned.items ≡ map (pin_by object.versions) stripes =
    c.in_ok-seen.ensures.pinned ∙ ap (λ h. map (pin_by h) stripes) held_is
    in
    let n : Pass = begun_pass c.args.actor c.args.number c.args.note (seen_in_object d c.args.note stripes) c.args.looked_at in
    let pins : c.in_ok-seen.field-0.pinned.items ≡ n.pinned = pinned_is ∙ sym (pins_are d object stripes) in
    ap (λ (o : Open). o.pass) c.begin-entry.ensures.entry
    ∙ (λ i. record { actor = c.args.actor; number = c.args.number; note = c.args.note; pinned = pins i; drawn = c.new.ensures.items i; base = c.args.looked_at; reaped = None })
    ∙ ap (λ (x : Directory). begun_pass c.args.actor c.args.number c.args.note (seen_in_object x c.args.note stripes) c.args.looked_at) view

pub returns-clause-seen : goal.returns-clause-seen
returns-clause-seen c =
    let a : Inside = c.self.inside in
    let d : Directory = directory_in a in
    let view : d ≡ c.args.self.now.core = (ap (λ (s : Sealed). s.core) c.self.view_is) in
    let m = c.make_room.ensures in
    let roomy : Roomy a c.make_room.new.objects c.make_room.new.passes c.make_room.new.history =
    record { points = m.points; others = m.others; points_room = m.points_room; objects = m.objects; objects_room = m.objects_room; passes = m.passes; stripe = m.stripe; keeps = m.keeps }
    in
    let stripes : List ℕ = c.args.stripes.now in
    let object : Object = object_or_new c.args.note.name d.objects in
    let held_is : (object_or_new c.note.inside.name c.make_room.new.objects.objects).versions ≡ object.versions = (λ i. (object_or_new ((ap (λ (n : Note). n.name) c.note.view_is) i) (m.objects i)).versions) in
    let stands : All (λ s. Stands d Standing.Current (get_or object.versions s 0)) stripes =
    subst (λ (x : Directory). All (λ s. Stands x Standing.Current (get_or (object_or_new c.args.note.name x.objects).versions s 0)) stripes) (sym view) c.requires.stands
    in
    let pinned_is : c.in_ok-seen.field-0.pinned.items ≡ map (pin_by object.versions) stripes =
    c.in_ok-seen.ensures.pinned ∙ ap (λ h. map (pin_by h) stripes) held_is
    in
    c.in_ok-seen.ensures.seen ∙ ap (λ h. map (seen_by d.versions h) stripes) held_is
    ∙ ap (λ (x : Directory). seen_in_object x c.args.note stripes) view
