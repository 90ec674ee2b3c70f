-- The fields of snapshots as callers see them, and what a snapshot keeps.
use Rattle.std.specs.Prelude.{◌≡◌, ◌+◌, ◌≤◌, [], length, map, take, All, vec_len, vec_capacity}
use Rattle.std.specs.List.{range_with_len}
use Rattle.version_seal.specs.Entry.{BookOf}
use Rattle.gather_parts.specs.Wanted.{IsPinned}
use Rattle.snapshot_view.specs.Snapshots.{KeptOf, SnapshotOf}
use Rattle.snapshot_view.specs.Tickets.{IsInCall}
use Rattle.snapshot_view.specs.declared.kept.Kept.TheInside.{Inside as KeptFields}
use Rattle.snapshot_view.specs.declared.snapshot.Snapshot.TheInside.{Inside as SnapshotFields}

abbrev pub kept_in : KeptFields → KeptOf
kept_in a = record { name = a.name; size = a.size; stripes = a.stripes.items }

abbrev pub snapshot_in : SnapshotFields → SnapshotOf
snapshot_in a = record { book = a.opening; number = a.number; objects = a.objects.items; tokens = a.tickets.items }

-- an object's stripes stand at their numbers, and are of the book
pub record IsOfBook (book : BookOf) (kept : KeptOf) : Type 0 where
  pub numbered : map (λ seen. seen.stripe) kept.stripes ≡ range_with_len 0 (length kept.stripes)
  pub pinned : All (IsPinned book) kept.stripes

-- what a snapshot keeps: each object has its pass; a release takes no memory
pub record IsSnapshotIn (a : SnapshotFields) : Type 0 where
  pub objects : All (IsOfBook a.opening) a.objects.items
  pub enough : length a.objects.items ≤ length a.tickets.items
  pub passes : All (IsInCall a.number) (take (length a.objects.items) a.tickets.items)
  pub room : vec_len a.points + length a.objects.items ≤ vec_capacity a.points
  pub none : a.points.items ≡ []
