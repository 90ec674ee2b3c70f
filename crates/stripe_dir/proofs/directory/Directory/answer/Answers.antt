use Rattle.stripe_stamps.specs.Sealed.{Sealed}
use Rattle.std.proofs.Common.{◌≡◌, ◌∷◌, ◌++◌, [], is_err, false, refl, ap, sym, subst, ◌∙◌, arith}
use Rattle.store_core.specs.Directory.{Event, Directory}
use Rattle.store_core.specs.Look.{append_point}
use Rattle.store_core.specs.Agreement.{Seat}
use Rattle.stripe_stamps.specs.ItsStripes.{IsWhole}
use Rattle.dir_parts.specs.Events.{reply_in}
use Rattle.stripe_dir.specs.Kept.{directory_in}
use Rattle.stripe_dir.specs.declared.directory.Directory.TheInside.{Inside}
use Rattle.stripe_dir.proofs.Beginnings.{Roomy, kept_roomy, kept_pointed, ok_of}
use Rattle.stripe_dir.proofs.directory.Directory.answer.Goals as goal

pub invariant_of-self : goal.invariant_of-self
invariant_of-self c =
    let a : Inside = c.self.inside in
    let d : Directory = directory_in a in
    let view : d ≡ c.args.self.now.core = (ap (λ (s : Sealed). s.core) c.self.view_is) in
    let m = c.make_room.ensures in
    let roomy : Roomy a c.make_room.new.objects c.make_room.new.passes c.make_room.new.history =
    record { points = m.points; others = m.others; points_room = m.points_room; objects = m.objects; objects_room = m.objects_room; passes = m.passes; stripe = m.stripe; keeps = m.keeps }
    in
    kept_roomy a c.self.invariant c.make_room.new.objects c.make_room.new.passes c.make_room.new.history roomy

pub invariant_of-self-2 : goal.invariant_of-self-2
invariant_of-self-2 c =
    let a : Inside = c.self.inside in
    let d : Directory = directory_in a in
    let view : d ≡ c.args.self.now.core = (ap (λ (s : Sealed). s.core) c.self.view_is) in
    let m = c.make_room.ensures in
    let roomy : Roomy a c.make_room.new.objects c.make_room.new.passes c.make_room.new.history =
    record { points = m.points; others = m.others; points_room = m.points_room; objects = m.objects; objects_room = m.objects_room; passes = m.passes; stripe = m.stripe; keeps = m.keeps }
    in
    let fine : is_err c.make_room.result ≡ false = sym c.is_err.ensures.value ∙ c.if-is_err.false in
    let actor : c.seat.inside.actor ≡ c.args.seat.actor = ap (λ (s : Seat). s.actor) c.seat.view_is in
    let made : directory_in (record a { objects = c.make_room.new.objects; passes = c.make_room.new.passes; history = c.add-point.new.self }) ≡ append_point c.args.seat.actor c.args.number c.args.note (Event.Answer (reply_in c.args.reply)) d =
    (λ i. record d {
      objects = m.objects i;
      passes = m.passes i;
      points = (c.add-point.ensures.points ∙ (λ j. m.points j ++ record { actor = actor j; number = c.args.number; note = c.args.note; event = Event.Answer (reply_in c.args.reply) } ∷ [])) i;
    })
    in
    kept_pointed a c.self.invariant c.make_room.new.objects c.make_room.new.passes c.make_room.new.history roomy c.make_room.new.objects a.versions c.add-point.new.self
    (subst IsWhole (sym made) (subst (λ (x : Directory). IsWhole (append_point c.args.seat.actor c.args.number c.args.note (Event.Answer (reply_in c.args.reply)) x)) (sym view) c.requires.whole))
    (ok_of c.make_room.result fine m.more_points) (omega (arith, c.add-point.ensures.room)) c.add-point.ensures.names c.add-point.ensures.keeps refl refl m.objects_room
