-- The points that are kept as numbers.
use Rattle.std.proofs.Common.{◌≡◌, List, [], refl, ap, sym, ◌∙◌}
use Rattle.std.proofs.lemmas.List.{append-nil}
use Rattle.dir_parts.specs.declared.passes.CallKind.{CallKind}
use Rattle.dir_parts.specs.declared.passes.CallKind.TheVariants as kind
use Rattle.dir_parts.specs.declared.history.DirectoryReply.TheVariants as answer
use Rattle.dir_parts.specs.declared.history.Event.{Event}
use Rattle.dir_parts.specs.declared.history.Event.TheVariants as event
use Rattle.dir_parts.specs.declared.history.PointRow.{PointRow}
use Rattle.dir_parts.specs.Codec.{number, both, many}
use Rattle.dir_parts.specs.ToldActors.{an_actor}
use Rattle.dir_parts.specs.ToldPoints.{kind_to, kind_from, a_kind, event_to, event_from, an_event, point_to, point_from, a_point, point_numbers, points_of}
use Rattle.dir_parts.proofs.Codec.{ReadsBack, number_back, both_back, other_back, many_back}
use Rattle.dir_parts.proofs.ToldActors.{actor_back}

kind_back : ReadsBack a_kind
kind_back = other_back number kind_to kind_from same number_back
  where
    same : (k : CallKind) → kind_from (kind_to k) ≡ k
    same kind.Put = refl
    same kind.Write = refl
    same kind.Get = refl
    same kind.ReadAt = refl
    same kind.Stat = refl
    same kind.Delete = refl
    same kind.Rebuild = refl

event_back : ReadsBack an_event
event_back = other_back (both number number) event_to event_from same (both_back number number number_back number_back)
  where
    same : (e : Event) → event_from (event_to e) ≡ e
    same (event.Answer answer.Done) = refl
    same (event.Answer (answer.Length n)) = refl
    same (event.Answer answer.NoSuch) = refl
    same (event.Answer answer.OutRange) = refl
    same (event.Answer answer.TooLarge) = refl
    same event.Pinned = refl
    same event.Done = refl
    same event.Reaped = refl

point_back : ReadsBack a_point
point_back =
    other_back (both (both an_actor number) (both (both an_event a_kind) (both number (both number number)))) point_to point_from (λ p. refl)
    (both_back (both an_actor number) (both (both an_event a_kind) (both number (both number number))) (both_back an_actor number actor_back number_back)
    (both_back (both an_event a_kind) (both number (both number number)) (both_back an_event a_kind event_back kind_back)
    (both_back number (both number number) number_back (both_back number number number_back number_back))))

-- the numbers of points stand for them
pub points_back : (points : List PointRow) → points_of (point_numbers points) ≡ points
unfolding point_numbers points_of
points_back points = ap (λ l. ((many a_point).read l).0) (sym (append-nil ((many a_point).write points))) ∙ ap (λ q. q.0) (many_back a_point point_back points [])
