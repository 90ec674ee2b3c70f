-- The points that were told, as contracts keep them.
use Rattle.std.specs.Prelude.{ℕ, zero, suc, List}
use Rattle.store_map.specs.declared.actor.Actor.{Actor}
use Rattle.dir_parts.specs.Codec.{Codec, number, both, as_other, many}
use Rattle.dir_parts.specs.ToldActors.{an_actor}
use Rattle.dir_parts.specs.declared.passes.CallKind.{CallKind}
use Rattle.dir_parts.specs.declared.passes.CallKind.TheVariants as kind
use Rattle.dir_parts.specs.declared.history.DirectoryReply.TheVariants as answer
use Rattle.dir_parts.specs.declared.history.Event.{Event}
use Rattle.dir_parts.specs.declared.history.Event.TheVariants as event
use Rattle.dir_parts.specs.declared.history.PointRow.{PointRow}
use Rattle.dir_parts.specs.declared.told_points.ToldPoints.TheInside.{Inside}

abbrev pub kind_to : CallKind → ℕ
kind_to kind.Put = 0
kind_to kind.Write = 1
kind_to kind.Get = 2
kind_to kind.ReadAt = 3
kind_to kind.Stat = 4
kind_to kind.Delete = 5
kind_to kind.Rebuild = 6

abbrev pub kind_from : ℕ → CallKind
kind_from zero = kind.Put
kind_from (suc zero) = kind.Write
kind_from (suc (suc zero)) = kind.Get
kind_from (suc (suc (suc zero))) = kind.ReadAt
kind_from (suc (suc (suc (suc zero)))) = kind.Stat
kind_from (suc (suc (suc (suc (suc zero))))) = kind.Delete
kind_from (suc (suc (suc (suc (suc (suc n)))))) = kind.Rebuild

abbrev pub a_kind : Codec CallKind
a_kind = as_other number kind_to kind_from

abbrev pub event_to : Event → ℕ × ℕ
event_to (event.Answer answer.Done) = (0, 0)
event_to (event.Answer (answer.Length length)) = (1, length)
event_to (event.Answer answer.NoSuch) = (2, 0)
event_to (event.Answer answer.OutRange) = (3, 0)
event_to (event.Answer answer.TooLarge) = (4, 0)
event_to event.Pinned = (5, 0)
event_to event.Done = (6, 0)
event_to event.Reaped = (7, 0)

abbrev pub event_by : ℕ → ℕ → Event
event_by zero n = event.Answer answer.Done
event_by (suc zero) n = event.Answer (answer.Length n)
event_by (suc (suc zero)) n = event.Answer answer.NoSuch
event_by (suc (suc (suc zero))) n = event.Answer answer.OutRange
event_by (suc (suc (suc (suc zero)))) n = event.Answer answer.TooLarge
event_by (suc (suc (suc (suc (suc zero))))) n = event.Pinned
event_by (suc (suc (suc (suc (suc (suc zero)))))) n = event.Done
event_by (suc (suc (suc (suc (suc (suc (suc k))))))) n = event.Reaped

abbrev pub event_from : ℕ × ℕ → Event
event_from p = event_by p.0 p.1

abbrev pub an_event : Codec Event
an_event = as_other (both number number) event_to event_from

abbrev pub PointFields : Type 0
PointFields = (Actor × ℕ) × ((Event × CallKind) × (ℕ × (ℕ × ℕ)))

abbrev pub point_to : PointRow → PointFields
point_to p = ((p.actor, p.number), ((p.event, p.kind), (p.name, (p.offset, p.length))))

abbrev pub point_from : PointFields → PointRow
point_from f =
    record { actor = f.0.0; number = f.0.1; event = f.1.0.0; kind = f.1.0.1; name = f.1.1.0; offset = f.1.1.1.0; length = f.1.1.1.1 }

abbrev pub a_point : Codec PointRow
a_point = as_other (both (both an_actor number) (both (both an_event a_kind) (both number (both number number)))) point_to point_from

-- the numbers that points are kept as, and the points that numbers stand for
unfoldable pub point_numbers : List PointRow → List ℕ
point_numbers points = (many a_point).write points

unfoldable pub points_of : List ℕ → List PointRow
points_of numbers = ((many a_point).read numbers).0

abbrev pub points_in : Inside → List PointRow
points_in a = points_of a.tag.numbers
