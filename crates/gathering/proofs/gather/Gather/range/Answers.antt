use Rattle.std.proofs.Common.{sym, subst, ◌∙◌}
use Rattle.store_core.specs.Gathering.{Part}
use Rattle.gathering.specs.Courses.{CourseOf, IsAskingStage}
use Rattle.gathering.specs.Inside.{IsGather}
use Rattle.gathering.proofs.Fetched.{some_chunk, some_bytes, first_asks}
use Rattle.gathering.proofs.Gathered.{range_begins}
use Rattle.gathering.proofs.Shelves.{none_made, count_made}
use Rattle.gathering.proofs.gather.Gather.range.Goals as goal

pub range-requires-clause-some : goal.range-requires-clause-some
range-requires-clause-some c = some_chunk c.args.geometry c.args.start c.args.end (some_bytes c.args.geometry c.n-servers.ensures.geometry) c.requires.some c.requires.within

pub invariant_of-result : goal.invariant_of-result
invariant_of-result c =
    let part : Part =
    record {
      seen = record { stripe = c.args.pinned.stripe; version = c.version-version.result.0; placed = c.args.pinned.placed.items };
      start = c.args.start;
      end = c.args.end;
    }
    in
    subst (λ (w : CourseOf). IsGather c.args.pinned.stamp w c.in_ok-wanted.wanted.items c.in_ok-helpers.helpers.items) (sym c.in_ok-course.ensures)
    (range_begins c.args.pinned.stamp c.args.geometry part c.in_ok-wanted.wanted.items c.in_ok-helpers.helpers.items (sym c.version-version.ensures)
    (c.requires.some, c.requires.within)
    (count_made c.n-servers.result c.in_ok-wanted.wanted.items c.in_ok-wanted.ensures ∙ c.n-servers.ensures.value)
    (none_made c.n-servers.result c.in_ok-wanted.wanted.items c.in_ok-wanted.ensures)
    (count_made c.n-servers.result c.in_ok-helpers.helpers.items c.in_ok-helpers.ensures ∙ c.n-servers.ensures.value)
    (none_made c.n-servers.result c.in_ok-helpers.helpers.items c.in_ok-helpers.ensures))

pub returns-clause-asks : goal.returns-clause-asks
returns-clause-asks c =
    let part : Part =
    record {
      seen = record { stripe = c.args.pinned.stripe; version = c.version-version.result.0; placed = c.args.pinned.placed.items };
      start = c.args.start;
      end = c.args.end;
    }
    in
    subst (λ (w : CourseOf). IsAskingStage w.stage) (sym c.in_ok-course.ensures)
    (first_asks c.args.geometry part (some_chunk c.args.geometry c.args.start c.args.end (some_bytes c.args.geometry c.n-servers.ensures.geometry) c.requires.some c.requires.within))
