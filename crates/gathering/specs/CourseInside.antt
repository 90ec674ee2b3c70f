-- The fields of a course as callers see them, and what they keep.
use Rattle.std.specs.Prelude.{◌≡◌, ◌<◌, ◌≤◌, ℕ, List, map, take, get_or, length, All}
use Rattle.clay_grid.specs.Shape.{chunk_count}
use Rattle.store_core.specs.Told.{Seen, Lost}
use Rattle.run_laws.specs.Stage.{Aim, Stage}
use Rattle.store_map.specs.declared.placement.LostChunk.{LostChunk}
use Rattle.gathering.specs.declared.course.Course.TheInside.{Inside}
use Rattle.gathering.specs.Positions.{stage_of, IsPlaced}
use Rattle.gathering.specs.Hearing.{IsAsking, Knows}
use Rattle.gathering.specs.Aims.{aim_of}
use Rattle.gathering.specs.Courses.{CourseOf}
use Rattle.store_core.specs.Told.{lost_in}

-- the pinned stripe
abbrev pub seen_in : Inside → Seen
seen_in a = record { stripe = a.stripe; version = a.version.0; placed = a.placed.items }

-- what is gathered
abbrev pub aim_in : Inside → Aim
aim_in a = aim_of (seen_in a) a.aim

-- the missing servers, in the order found
abbrev pub missing_in : Inside → List Lost
missing_in a = map lost_in (take a.count a.missing.items)

-- their numbers
abbrev pub gone_in : Inside → List ℕ
gone_in a = take a.count a.gone.items

-- how far the gathering has come
abbrev pub stage_in : Inside → Stage
stage_in a = stage_of a.geometry a.first.items (gone_in a) (missing_in a) a.position

-- what callers see
abbrev pub course_in : Inside → CourseOf
course_in a = record { geometry = a.geometry; aim = aim_in a; stage = stage_in a; gone = gone_in a }

-- what every course keeps: room for all servers, numbers in range, and a position that fits its aim and its missing servers
pub record IsCourse (a : Inside) : Type 0 where
  pub placed_length : length a.placed.items ≡ chunk_count a.geometry
  pub missing_length : length a.missing.items ≡ chunk_count a.geometry
  pub gone_length : length a.gone.items ≡ chunk_count a.geometry
  pub few : a.count ≤ chunk_count a.geometry
  pub room : IsAsking a.position → a.count ≤ a.geometry.parity_count
  pub some : 0 < length a.first.items
  pub below : All (λ server. server < chunk_count a.geometry) a.first.items
  pub missing_below : (i : ℕ) → i < a.count → (other : LostChunk) → (get_or a.missing.items i other).server < chunk_count a.geometry
  pub knows : Knows a.geometry (aim_in a) a.first.items (gone_in a) (missing_in a) a.position
  pub is_placed : IsPlaced a.geometry (length a.first.items) a.count a.position
