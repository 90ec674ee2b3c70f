-- The fields of a version in work as callers see them, and what they keep.
use Rattle.std.specs.Prelude.{◌≡◌, ◌≤◌, length, map, vec_capacity}
use Rattle.std.specs.Vec.Iter.{into_iter_items}
use Rattle.clay_grid.specs.Shape.{chunk_count}
use Rattle.clay_model.specs.Chunks.{contents}
use Rattle.store_core.specs.Placements.{skipped_from}
use Rattle.store_core.specs.Told.{lost_in}
use Rattle.write_course.specs.Chunks.{PlacingOf, AreChunksFrom}
use Rattle.write_course.specs.declared.course_placing.Placing.TheInside.{Inside}

-- what callers see
abbrev pub placing_in : Inside → PlacingOf
placing_in a = record { geometry = a.geometry; stamp = a.stamp; row = a.row.items }

-- what every one keeps: the chunks of the servers that weren't asked yet, those that were away, and room for the answers of all
pub record IsPlacing (a : Inside) : Type 0 where
  pub chunks : AreChunksFrom a.geometry a.stamp.content (length a.row.items) (contents (into_iter_items a.chunks))
  pub away : map lost_in a.away.items ≡ skipped_from 0 a.row.items
  pub within : length a.row.items ≤ chunk_count a.geometry
  pub row_room : chunk_count a.geometry ≤ vec_capacity a.row
  pub away_room : chunk_count a.geometry ≤ vec_capacity a.away
