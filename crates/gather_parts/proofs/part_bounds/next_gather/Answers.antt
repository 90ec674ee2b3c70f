use Rattle.std.proofs.Common.{◌≡◌, List, map, Option, Some, sym, ap, subst, ◌∙◌}
use Rattle.gathering.specs.Gathers.{GatherOf}
use Rattle.std.specs.Vec.Iter.{into_iter_items}
use Rattle.clay_grid.specs.Shape.{Shape}
use Rattle.call_steps.specs.declared.seen.Seen.{Seen}
use Rattle.gather_parts.specs.Wanted.{Wanted, wanted_of, IsPinned}
use Rattle.gather_parts.specs.Steps.{next_of}
use Rattle.gather_parts.proofs.Nexts.{after_first, of_first, passed_over, begins_next, begun_at_work}
use Rattle.gather_parts.proofs.part_bounds.next_gather.Goals as goal

pub returns-in_err-range-clause-pinned : goal.returns-in_err-range-clause-pinned
returns-in_err-range-clause-pinned c =
    after_first (IsPinned c.args.opening.now) (into_iter_items c.loop-seen.left) c.in-Some.seen (into_iter_items c.next.new.self) c.in-Some.ensures.items c.loop-seen.invariant.pinned

pub returns-in-Some-bounds_in-clause-pinned : goal.returns-in-Some-bounds_in-clause-pinned
returns-in-Some-bounds_in-clause-pinned c =
    after_first (IsPinned c.args.opening.now) (into_iter_items c.loop-seen.left) c.in-Some.seen (into_iter_items c.next.new.self) c.in-Some.ensures.items c.loop-seen.invariant.pinned

pub returns-in-Some-bounds_in-clause-work : goal.returns-in-Some-bounds_in-clause-work
returns-in-Some-bounds_in-clause-work c =
    begun_at_work c.args.opening.now c.in-Some.seen.stamp c.geometry-geometry.result _ c.in_ok-range.field-0 c.geometry-geometry.ensures
    (of_first (IsPinned c.args.opening.now) (into_iter_items c.loop-seen.left) c.in-Some.seen (into_iter_items c.next.new.self) c.in-Some.ensures.items c.loop-seen.invariant.pinned).home
    c.in_ok-range.ensures.begins

pub loop-seen-preserved : goal.loop-seen-preserved
loop-seen-preserved c =
    let g : Shape = c.geometry-geometry.result in
    record {
      pinned = after_first (IsPinned c.args.opening.now) (into_iter_items c.loop-seen.left) c.in-Some.seen (into_iter_items c.next.new.self) c.in-Some.ensures.items
          c.loop-seen.invariant.pinned;
      same = sym (passed_over g (wanted_of g c.args.start c.args.end c.in-Some.seen) (map (wanted_of g c.args.start c.args.end) (into_iter_items c.next.new.self)) c.in_default-bounds_in.ensures)
          ∙ sym (ap (λ (l : List Seen). next_of g (map (wanted_of g c.args.start c.args.end) l)) c.in-Some.ensures.items)
          ∙ c.loop-seen.invariant.same;
    }

pub returns-in-Some-bounds_in-clause-next : goal.returns-in-Some-bounds_in-clause-next
returns-in-Some-bounds_in-clause-next c =
    let later : List Seen = into_iter_items c.next.new.self in
    let g : Shape = c.geometry-geometry.result in
    let next : ◌≡◌ {A = Option GatherOf × List Wanted} (Some c.in_ok-range.field-0, map (wanted_of g c.args.start c.args.end) later)
    (next_of g (map (wanted_of g c.args.start c.args.end) (into_iter_items c.args.left.now)))
    =
    begins_next g (wanted_of g c.args.start c.args.end c.in-Some.seen) (map (wanted_of g c.args.start c.args.end) later)
    (c.in-Some-bounds_in.from, c.in-Some-bounds_in.to) c.in_ok-range.field-0 c.in-Some-bounds_in.ensures c.in_ok-range.ensures.begins
    ∙ sym (ap (λ (l : List Seen). next_of g (map (wanted_of g c.args.start c.args.end) l)) c.in-Some.ensures.items)
    ∙ c.loop-seen.invariant.same
    in
    subst (λ (g : Shape). ◌≡◌ {A = Option GatherOf × List Wanted} (Some c.in_ok-range.field-0, map (wanted_of g c.args.start c.args.end) later)
    (next_of g (map (wanted_of g c.args.start c.args.end) (into_iter_items c.args.left.now)))) c.geometry-geometry.ensures next
