-- Where a course of the program stands, as a stage of the store's definitions.
use Rattle.std.specs.Prelude.{◌≡◌, ⊤, ℕ, ◌+◌, ◌<◌, ◌≤◌, List, [], ◌∷◌, take, drop, get_or}
use Rattle.clay_grid.specs.Shape.{Shape, chunk_count}
use Rattle.store_map.specs.declared.placement.Found.TheVariants as found
use Rattle.store_map.specs.declared.placement.Placement.TheVariants as placement
use Rattle.store_core.specs.Told.{Lost}
use Rattle.run_laws.specs.Stage.{Asking, Stage}
use Rattle.gathering.specs.CourseServers.{asked_from}
use Rattle.gathering.specs.declared.ending.Ending.{Ending}
use Rattle.gathering.specs.declared.ending.Ending.TheVariants as ending
use Rattle.gathering.specs.declared.position.Position.{Position}
use Rattle.gathering.specs.declared.position.Position.TheVariants as position

-- the first missing server, where there is one
abbrev pub first_lost : List Lost → Lost
first_lost [] = record { server = 0; placed = placement.At 0; found = found.Absent 0 }
first_lost (lost ∷ more) = lost

-- an end without the bytes, where these are missing
abbrev pub stage_ended : List Lost → Ending → Stage
stage_ended missing ending.TooMany = Stage.TooMany missing
stage_ended missing ending.AtTarget = Stage.AtTarget
stage_ended missing (ending.TargetAway downs) = Stage.TargetAway downs
stage_ended missing ending.Short = Stage.Short

-- of the servers that the first stage asks, the numbers of the missing ones, and how they were found
abbrev pub stage_of : Shape → List ℕ → List ℕ → List Lost → Position → Stage
stage_of g first gone missing (position.Fetch at) = Stage.Asks (Asking.Fetch (get_or first at 0) (drop (at + 1) first) missing)
stage_of g first gone missing (position.Look server) = Stage.Asks (Asking.Look server (asked_from first (chunk_count g) (server + 1)) missing)
stage_of g first gone missing (position.Repair server) =
    Stage.Asks (Asking.Repair server (asked_from gone (chunk_count g) (server + 1)) (first_lost missing))
stage_of g first gone missing (position.Whole server wanted counted) =
    Stage.Asks (Asking.Whole server (asked_from (take counted gone) (chunk_count g) (server + 1)) wanted missing)
stage_of g first gone missing (position.Target server) = Stage.Asks (Asking.Target server)
stage_of g first gone missing position.HasBytes = Stage.HasBytes
stage_of g first gone missing (position.Ended how) = stage_ended missing how

-- what keeps indices in range, where the first stage asks so many servers and so many are missing
abbrev pub IsPlaced : Shape → ℕ → ℕ → Position → Type 0
IsPlaced g first gone (position.Fetch at) = at < first
IsPlaced g first gone (position.Look server) = server < chunk_count g
IsPlaced g first gone (position.Repair server) = (server < chunk_count g) × (gone ≡ 1)
IsPlaced g first gone (position.Whole server wanted counted) = (server < chunk_count g) × (counted ≤ gone) × (wanted < g.data_count)
IsPlaced g first gone (position.Target server) = (server < chunk_count g) × (gone ≡ 0)
IsPlaced g first gone p = ⊤
