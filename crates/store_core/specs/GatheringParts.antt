-- The two gatherings: of a part of a stripe's bytes, and of one chunk that a rebuild makes anew.
use Rattle.std.specs.Prelude.{ℕ, ◌+◌, ◌*◌, ◌-◌, nat_lt, min, max, List, [], ◌∷◌, ◌++◌, filter}
use Rattle.std.specs.List.{range_with_len}
use Rattle.clay_grid.specs.Shape.{Shape, chunk_length}
use Rattle.clay_grid.specs.Repair.{layers_in_range}
use Rattle.store_map.specs.declared.placement.Found.{Found}
use Rattle.store_map.specs.declared.placement.Found.TheVariants as found
use Rattle.store_core.specs.Told.{Seen, Lost, Told}
use Rattle.store_core.specs.Act.{Act, ServerStep, DirectoryStep, Outcome}
use Rattle.store_core.specs.Gathering.{Gathering, Part, servers_but, lost_at, unless_too_many, looking}

-- the data chunks that have one of the bytes of a stripe from start up to end
abbrev pub chunks_in_range : Shape → ℕ → ℕ → List ℕ
chunks_in_range g start end = filter (λ chunk. nat_lt (max start (chunk * chunk_length g)) (min end ((chunk + 1) * chunk_length g))) (range_with_len 0 g.data_count)

-- the layers of a chunk whose subchunks have one of these bytes
abbrev pub layers_for : Shape → ℕ → ℕ → ℕ → List ℕ
layers_for g start end chunk = layers_in_range g (start - chunk * chunk_length g) (end - chunk * chunk_length g)

module _ (g : Shape) (part : Part) where
  -- where no data chunk was missing the bytes are there
  abbrev pub after_data : List Lost → List Told → Gathering
  after_data [] told = Gathering.HasBytes told
  after_data (lost ∷ more) told = looking g part.seen (servers_but g part.seen (chunks_in_range g part.start part.end)) (lost ∷ more) told

  -- the layers with wanted bytes, from each data chunk that has some
  abbrev pub fetching_data : List ℕ → List Lost → List Told → Gathering
  fetching_data [] missing told = after_data missing told
  fetching_data (server ∷ more) missing [] = Gathering.Asks server (ServerStep.Fetch part.seen.version (layers_for g part.start part.end server))
  fetching_data (server ∷ more) missing (Told.Given layers ∷ told) = fetching_data more missing told
  fetching_data (server ∷ more) missing (Told.Missing found ∷ told) =
      unless_too_many g part.seen (missing ++ lost_at g part.seen server found ∷ []) told (fetching_data more (missing ++ lost_at g part.seen server found ∷ []) told)
  fetching_data (server ∷ more) missing (_ ∷ told) = Gathering.Short told

  -- the gathering of a part's bytes
  abbrev pub gather_part : List Told → Gathering
  gather_part told = fetching_data (chunks_in_range g part.start part.end) [] told

-- a target that is away ends the gathering; of one that lacks its chunk the others are asked
abbrev pub without_target : Shape → Seen → ℕ → Found → List Told → Gathering
without_target g seen target (found.Absent epoch) told = looking g seen (servers_but g seen (target ∷ [])) (lost_at g seen target (found.Absent epoch) ∷ []) told
without_target g seen target (found.Away downs) told = Gathering.TargetAway downs told

-- the target is asked first, then the others; the parts are those of the target's chunk
abbrev pub gather_chunk : Shape → Seen → ℕ → List Told → Gathering
gather_chunk g seen target [] = Gathering.Asks target (ServerStep.Has seen.version)
gather_chunk g seen target (Told.Here ∷ told) = Gathering.AtTarget told
gather_chunk g seen target (Told.Missing found ∷ told) = without_target g seen target found told
gather_chunk g seen target (_ ∷ told) = Gathering.Short told

-- the call ends its pass, and has the outcome then, unless the pass was reaped
abbrev pub ending : Outcome → List Told → Act
ending outcome [] = Act.AtDirectory DirectoryStep.End
ending outcome (Told.Ended ∷ told) = Act.Finish outcome
ending outcome (Told.Reaped point ∷ told) = Act.Finish (Outcome.Reaped point)
ending outcome (_ ∷ told) = ending Outcome.NoMemory told

-- the act that a gathering of a stripe comes to; next is what follows where the bytes are there
abbrev pub act_of : ℕ → (List Told → Act) → Gathering → Act
act_of stripe next (Gathering.Asks server step) = Act.AtServer server step
act_of stripe next (Gathering.HasBytes told) = next told
act_of stripe next (Gathering.TooMany missing told) = ending (Outcome.Unavailable stripe missing) told
act_of stripe next (Gathering.AtTarget told) = ending Outcome.Here told
act_of stripe next (Gathering.TargetAway downs told) = ending (Outcome.Away downs) told
act_of stripe next (Gathering.Short told) = ending Outcome.NoMemory told

-- the parts one after another; one that has its bytes may be told as Gathered
abbrev pub gathering : Shape → List Part → (List Told → Act) → List Told → Act
gathering g [] next told = next told
gathering g (part ∷ parts) next (Told.Gathered ∷ told) = gathering g parts next told
gathering g (part ∷ parts) next told = act_of part.seen.stripe (gathering g parts next) (gather_part g part told)
