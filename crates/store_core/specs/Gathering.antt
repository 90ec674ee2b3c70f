-- How a call fetches bytes of one pinned version, or makes one chunk of it anew, where servers may have lost theirs.
use Rattle.std.specs.Prelude.{ℕ, zero, suc, nat_lt, not, List, [], ◌∷◌, ◌++◌, length, get_or, map, filter, if◌then◌else◌}
use Rattle.std.specs.List.{range_with_len}
use Rattle.clay_grid.specs.Shape.{Shape, chunk_count}
use Rattle.clay_grid.specs.Repair.{all_layers, repair_layers_of}
use Rattle.store_map.specs.declared.placement.Found.{Found}
use Rattle.store_map.specs.declared.placement.Placement.TheVariants as placement
use Rattle.store_core.specs.Lists.{is_among}
use Rattle.store_core.specs.Told.{Seen, Lost, Told}
use Rattle.store_core.specs.Act.{ServerStep}

-- how far a gathering has come: it asks a server, it has its bytes, or it has ended without them; and what was told since
pub data Gathering : Type 0 where
  Asks : (server : ℕ) (step : ServerStep) → Gathering
  HasBytes : (told : List Told) → Gathering
  TooMany : (missing : List Lost) (told : List Told) → Gathering
  AtTarget : (told : List Told) → Gathering
  TargetAway : (downs : ℕ) (told : List Told) → Gathering
  Short : (told : List Told) → Gathering

-- a pinned stripe, and the bytes of it that are wanted, from start up to end
pub record Part : Type 0 where
  pub seen : Seen
  pub start : ℕ
  pub end : ℕ

module _ (g : Shape) (seen : Seen) where
  -- the servers that were not asked yet, rising
  abbrev pub servers_but : List ℕ → List ℕ
  servers_but asked = filter (λ server. not (is_among server asked)) (range_with_len 0 (chunk_count g))

  -- a server that answered that it lacks its chunk or is away, with what the look told of its chunk
  abbrev pub lost_at : ℕ → Found → Lost
  lost_at server found = record { server = server; placed = get_or seen.placed server (placement.At 0); found = found }

  -- once more servers are missing than there are parity chunks, no more is asked
  abbrev pub unless_too_many : List Lost → List Told → Gathering → Gathering
  unless_too_many missing told otherwise = if nat_lt g.parity_count (length missing) then Gathering.TooMany missing told else otherwise

  -- whole chunks from the servers that aren't missing, until as many are there as data chunks
  abbrev pub fetching_whole : List ℕ → ℕ → List Lost → List Told → Gathering
  fetching_whole servers zero missing told = Gathering.HasBytes told
  fetching_whole [] (suc wanted) missing told = Gathering.TooMany missing told
  fetching_whole (server ∷ more) (suc wanted) missing [] = Gathering.Asks server (ServerStep.Fetch seen.version (all_layers g))
  fetching_whole (server ∷ more) (suc wanted) missing (Told.Given layers ∷ told) = fetching_whole more wanted missing told
  fetching_whole (server ∷ more) (suc wanted) missing (Told.Missing found ∷ told) =
      unless_too_many (missing ++ lost_at server found ∷ []) told (fetching_whole more (suc wanted) (missing ++ lost_at server found ∷ []) told)
  fetching_whole (server ∷ more) (suc wanted) missing (_ ∷ told) = Gathering.Short told

  -- whole chunks from each server that isn't missing
  abbrev pub recovering : List Lost → List Told → Gathering
  recovering missing told = fetching_whole (servers_but (map (λ lost. lost.server) missing)) g.data_count missing told

  -- the repair layers of the one missing chunk from each other server; where one more is missing, whole chunks instead
  abbrev pub fetching_repair : List ℕ → Lost → List Told → Gathering
  fetching_repair [] lost told = Gathering.HasBytes told
  fetching_repair (server ∷ more) lost [] = Gathering.Asks server (ServerStep.Fetch seen.version (repair_layers_of g lost.server))
  fetching_repair (server ∷ more) lost (Told.Given layers ∷ told) = fetching_repair more lost told
  fetching_repair (server ∷ more) lost (Told.Missing found ∷ told) =
      unless_too_many (lost ∷ lost_at server found ∷ []) told (recovering (lost ∷ lost_at server found ∷ []) told)
  fetching_repair (server ∷ more) lost (_ ∷ told) = Gathering.Short told

  -- after each server was asked: nothing, one chunk or more are to be made
  abbrev pub making : List Lost → List Told → Gathering
  making [] told = Gathering.HasBytes told
  making (lost ∷ []) told = fetching_repair (servers_but (lost.server ∷ [])) lost told
  making (lost ∷ other ∷ more) told = recovering (lost ∷ other ∷ more) told

  -- each server that was not asked yet is asked whether it has its chunk
  abbrev pub looking : List ℕ → List Lost → List Told → Gathering
  looking [] missing told = making missing told
  looking (server ∷ more) missing [] = Gathering.Asks server (ServerStep.Has seen.version)
  looking (server ∷ more) missing (Told.Here ∷ told) = looking more missing told
  looking (server ∷ more) missing (Told.Missing found ∷ told) =
      unless_too_many (missing ++ lost_at server found ∷ []) told (looking more (missing ++ lost_at server found ∷ []) told)
  looking (server ∷ more) missing (_ ∷ told) = Gathering.Short told
