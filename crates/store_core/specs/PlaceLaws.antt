-- What every step keeps: counts and points only grow, and numbers are places.
use Rattle.std.specs.Prelude.{◌≡◌, ℕ, ◌+◌, ◌-◌, ◌^◌, ◌≤◌, Bool, List, [], ◌∷◌, ◌++◌, length, take, map, Option, None, Some, MatchOption}
use Rattle.std.specs.List.{range_with_len}
use Rattle.store_map.specs.declared.actor.Actor.{Actor}
use Rattle.store_core.specs.Told.{Told}
use Rattle.store_core.specs.Act.{DirectoryStep, ServerStep}
use Rattle.store_core.specs.Directory.{Standing, Version, Point, Directory}
use Rattle.store_core.specs.AtDirectory.{at_directory}
use Rattle.store_core.specs.Server.{Server, at_server}

-- all counts of a server fit 64 bits
pub record IsCounted (s : Server) : Type 0 where
  pub epoch : s.epoch ≤ 2 ^ 64 - 1
  pub taken : s.taken ≤ 2 ^ 64 - 1
  pub downs : s.downs ≤ 2 ^ 64 - 1

-- no count falls, and all still fit
pub record CountsUp (before after : Server) : Type 0 where
  pub epoch : before.epoch ≤ after.epoch
  pub taken : before.taken ≤ after.taken
  pub downs : before.downs ≤ after.downs
  pub counted : IsCounted after

-- so does each step at a server
abbrev pub ServersCountUp : Type 0
ServersCountUp = (short : Bool) (step : ServerStep) (s : Server) → IsCounted s → CountsUp s (at_server short step s).0

-- the point and the versions that an answer tells as new
abbrev pub new_point : Told → Option ℕ
new_point (Told.Answer point reply) = Some point
new_point (Told.Pinned point length stripes) = Some point
new_point (Told.Done point) = Some point
new_point (Told.GivenUp point) = point
new_point _ = None

-- the versions that an answer tells as new
abbrev pub new_versions : Told → List ℕ
new_versions (Told.Versions versions) = versions
new_versions _ = []

-- a version as it was drawn: its call, its stripe, and the version that it was laid over
abbrev pub as_drawn : Version → Version
as_drawn version = record version { placed = []; standing = Standing.Drawn }

-- a new point and new versions are the next places; the points before stay, no version goes, and of one that is there only its placements and its standing change
pub record KeepsPlaces (before after : Directory) (answer : Told) : Type 0 where
  pub points :
      MatchOption (new_point answer) (after.points ≡ before.points)
      (λ place. (place ≡ length before.points) × (point : Point) × (after.points ≡ before.points ++ point ∷ []))
  pub numbers : new_versions answer ≡ range_with_len (length before.versions) (length (new_versions answer))
  pub versions : length after.versions ≡ length before.versions + length (new_versions answer)
  pub drawn : take (length before.versions) (map as_drawn after.versions) ≡ map as_drawn before.versions

-- so does each step at the directory
abbrev pub DirectoryKeepsPlaces : Type 0
DirectoryKeepsPlaces =
    (short : Bool) (who : Actor) (number : ℕ) (step : DirectoryStep) (d : Directory) →
    KeepsPlaces d (at_directory short who number step d).0 (at_directory short who number step d).1
