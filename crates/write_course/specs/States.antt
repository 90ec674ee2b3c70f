-- Where a writing stands, by what its program keeps.
use Rattle.std.specs.Prelude.{ℕ, ◌+◌, ◌-◌, List, [], ◌∷◌, ◌++◌, length, map, get_or, drop, Option, None, Some, nat_lt, if◌then◌else◌}
use Rattle.std.specs.List.{range_with_len}
use Rattle.clay_grid.specs.Shape.{Shape, chunk_count}
use Rattle.store_map.specs.declared.placement.Placement.{Placement}
use Rattle.store_map.specs.declared.reply.Reply.TheVariants as reply
use Rattle.store_core.specs.Lists.{places_of}
use Rattle.store_core.specs.Placements.{skipped_from, skipped_count}
use Rattle.store_core.specs.Act.{Outcome}
use Rattle.run_laws.specs.State.{State}
use Rattle.write_course.specs.Chunks.{PlacingOf}
use Rattle.write_course.specs.declared.writing_stage.WritingStage.{WritingStage}
use Rattle.write_course.specs.declared.writing_stage.WritingStage.TheVariants as doing

-- where so many versions of all are prepared, and where so many are settled
abbrev pub prepares_or_commits : ℕ → ℕ → WritingStage
prepares_or_commits prepared versions = if nat_lt prepared versions then doing.Preparing else doing.Committing

abbrev pub settles_or_is_done : ℕ → ℕ → WritingStage
settles_or_is_done settled versions = if nat_lt settled versions then doing.Settling else doing.Done

-- the servers from one on
abbrev pub servers_from : Shape → ℕ → List ℕ
servers_from g server = range_with_len server (chunk_count g - server)

-- of all versions from the one at a place on, the chunks from a server's on
abbrev pub places_from : Shape → List ℕ → ℕ → ℕ → List (ℕ × ℕ)
places_from g versions at server =
    map (λ other. (other, get_or versions at 0)) (servers_from g server) ++ places_of (chunk_count g) (drop (at + 1) versions)

-- what the servers answered for the version at work
abbrev pub row_in : Option PlacingOf → List Placement
row_in None = []
row_in (Some placing) = placing.row

-- the rows of the versions before the one at work, and what there is of that one
pub record Prepared : Type 0 where
  pub rows : List (List Placement)
  pub work : Option PlacingOf

-- the commit's point, the place of the version whose chunk is settled next, and the server
pub record Settled : Type 0 where
  pub point : ℕ
  pub at : ℕ
  pub server : ℕ

-- by what is done; first is the stripe of the first version
abbrev pub state_by : WritingStage → Shape → ℕ → List ℕ → Prepared → Settled → State
state_by doing.Preparing g first versions p s =
    let at : ℕ = length p.rows in
    let server : ℕ = length (row_in p.work) in
    State.Preparing (first + at) (get_or versions at 0) server (servers_from g (server + 1)) (row_in p.work) (drop (at + 1) versions) p.rows versions
state_by doing.Committing g first versions p s = State.Committing versions p.rows
state_by doing.Committed g first versions p s = State.Committed versions
state_by doing.Settling g first versions p s = State.Settling s.point (s.server, get_or versions s.at 0) (places_from g versions s.at (s.server + 1))
state_by doing.Done g first versions p s = State.Finished (Outcome.Answered s.point reply.Done)
state_by doing.TooManyAway g first versions p s = State.Ending (Outcome.Unavailable (first + length p.rows) (skipped_from 0 (row_in p.work)))
state_by doing.Short g first versions p s = State.Ending Outcome.NoMemory

-- after a version's answer: its row goes to the others once it is whole, unless too many servers were away
abbrev pub placed_on : Shape → ℕ → List (List Placement) → PlacingOf → WritingStage × Prepared
placed_on g versions rows placing =
    if nat_lt g.parity_count (skipped_count placing.row) then (doing.TooManyAway, record { rows = rows; work = Some placing })
    else (if nat_lt (length placing.row) (chunk_count g) then (doing.Preparing, record { rows = rows; work = Some placing })
    else (prepares_or_commits (length rows + 1) versions, record { rows = rows ++ placing.row ∷ []; work = None }))
