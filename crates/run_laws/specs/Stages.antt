-- The stage of a gathering, by the servers that are left to ask and the missing ones.
use Rattle.std.specs.Prelude.{ℕ, zero, suc, nat_lt, List, [], ◌∷◌, length, map, if◌then◌else◌}
use Rattle.clay_grid.specs.Shape.{Shape}
use Rattle.store_core.specs.Told.{Seen, Lost}
use Rattle.store_core.specs.Gathering.{Part, servers_but}
use Rattle.store_core.specs.GatheringParts.{chunks_in_range}
use Rattle.run_laws.specs.Stage.{Aim, Asking, Stage}

module _ (g : Shape) where
  -- once more servers are missing than there are parity chunks, no more is asked
  abbrev pub unless_many : List Lost → Stage → Stage
  unless_many missing otherwise = if nat_lt g.parity_count (length missing) then Stage.TooMany missing else otherwise

  -- whole chunks from these servers, until so many have come
  abbrev pub whole_stage : List ℕ → ℕ → List Lost → Stage
  whole_stage servers zero missing = Stage.HasBytes
  whole_stage [] (suc wanted) missing = Stage.TooMany missing
  whole_stage (server ∷ more) (suc wanted) missing = Stage.Asks (Asking.Whole server more wanted missing)

  -- the repair layers of the lost chunk from these servers
  abbrev pub repair_stage : List ℕ → Lost → Stage
  repair_stage [] lost = Stage.HasBytes
  repair_stage (server ∷ more) lost = Stage.Asks (Asking.Repair server more lost)

  module _ (seen : Seen) where
    -- whole chunks from each server that isn't missing
    abbrev pub recover_stage : List Lost → Stage
    recover_stage missing = whole_stage (servers_but g seen (map (λ lost. lost.server) missing)) g.data_count missing

    -- after each server was asked: nothing, one chunk or more are to be made
    abbrev pub make_stage : List Lost → Stage
    make_stage [] = Stage.HasBytes
    make_stage (lost ∷ []) = repair_stage (servers_but g seen (lost.server ∷ [])) lost
    make_stage (lost ∷ other ∷ more) = recover_stage (lost ∷ other ∷ more)

    -- these servers are asked whether they have their chunk
    abbrev pub look_stage : List ℕ → List Lost → Stage
    look_stage [] missing = make_stage missing
    look_stage (server ∷ more) missing = Stage.Asks (Asking.Look server more missing)

  -- where no data chunk was missing the bytes are there
  abbrev pub data_stage : Part → List Lost → Stage
  data_stage part [] = Stage.HasBytes
  data_stage part (lost ∷ more) = look_stage part.seen (servers_but g part.seen (chunks_in_range g part.start part.end)) (lost ∷ more)

  -- the layers with wanted bytes from these servers
  abbrev pub fetch_stage : Part → List ℕ → List Lost → Stage
  fetch_stage part [] missing = data_stage part missing
  fetch_stage part (server ∷ more) missing = Stage.Asks (Asking.Fetch server more missing)

  -- by the aim; of a part alone are wanted layers fetched
  abbrev pub fetch_stage_of : Aim → List ℕ → List Lost → Stage
  fetch_stage_of (Aim.Range part) more missing = fetch_stage part more missing
  fetch_stage_of (Aim.Chunk seen target) more missing = look_stage seen (servers_but g seen (target ∷ [])) missing

  -- a gathering before its first answer
  abbrev pub first_stage : Aim → Stage
  first_stage (Aim.Range part) = fetch_stage part (chunks_in_range g part.start part.end) []
  first_stage (Aim.Chunk seen target) = Stage.Asks (Asking.Target target)
