-- A gathering asks servers whether they have a chunk, or fetches of it, and nothing else.
use Rattle.std.proofs.Common.{ℕ, zero, suc, nat_lt, List, [], ◌∷◌, ◌++◌, length, map}
use Rattle.std.proofs.lemmas.Bool.{cond_both}
use Rattle.clay_grid.specs.Shape.{Shape}
use Rattle.store_map.specs.declared.placement.Found.TheVariants as found
use Rattle.store_core.specs.Told.{Seen, Lost, Told}
use Rattle.store_core.specs.Act.{ServerStep}
use Rattle.store_core.specs.Gathering.{Gathering, Part, servers_but, lost_at, unless_too_many, fetching_whole, recovering, fetching_repair, making, looking}
use Rattle.store_core.specs.GatheringParts.{chunks_in_range, after_data, fetching_data, gather_part, gather_chunk}

-- whether a chunk is there, or bytes of it
abbrev pub IsQuestion : ServerStep → Type 0
IsQuestion (ServerStep.Has version) = Unit {0}
IsQuestion (ServerStep.Fetch version layers) = Unit {0}
IsQuestion _ = ⊥

-- what the gathering asks, if it asks
abbrev pub AsksSo : Gathering → Type 0
AsksSo (Gathering.Asks server step) = IsQuestion step
AsksSo _ = Unit {0}

module _ (g : Shape) (seen : Seen) where
  unless_so : (missing : List Lost) (told : List Told) (otherwise : Gathering) → AsksSo otherwise → AsksSo (unless_too_many g seen missing told otherwise)
  unless_so missing told otherwise h =
      cond_both {A = Gathering} (nat_lt g.parity_count (length missing)) (Gathering.TooMany missing told) otherwise AsksSo (λ _. tt) (λ _. h)

  whole_so : (servers : List ℕ) (wanted : ℕ) (missing : List Lost) (told : List Told) → AsksSo (fetching_whole g seen servers wanted missing told)
  whole_so servers zero missing told = tt
  whole_so [] (suc wanted) missing told = tt
  whole_so (server ∷ more) (suc wanted) missing [] = tt
  whole_so (server ∷ more) (suc wanted) missing (Told.Given layers ∷ told) = whole_so more wanted missing told
  whole_so (server ∷ more) (suc wanted) missing (Told.Missing epoch ∷ told) =
      let marked : List Lost = missing ++ lost_at g seen server epoch ∷ [] in
      unless_so marked told (fetching_whole g seen more (suc wanted) marked told) (whole_so more (suc wanted) marked told)
  whole_so (server ∷ more) (suc wanted) missing (_ ∷ told) = tt

  recovering_so : (missing : List Lost) (told : List Told) → AsksSo (recovering g seen missing told)
  recovering_so missing told = whole_so (servers_but g seen (map (λ (lost : Lost). lost.server) missing)) g.data_count missing told

  repair_so : (servers : List ℕ) (lost : Lost) (told : List Told) → AsksSo (fetching_repair g seen servers lost told)
  repair_so [] lost told = tt
  repair_so (server ∷ more) lost [] = tt
  repair_so (server ∷ more) lost (Told.Given layers ∷ told) = repair_so more lost told
  repair_so (server ∷ more) lost (Told.Missing epoch ∷ told) =
      let marked : List Lost = lost ∷ lost_at g seen server epoch ∷ [] in unless_so marked told (recovering g seen marked told) (recovering_so marked told)
  repair_so (server ∷ more) lost (_ ∷ told) = tt

  making_so : (missing : List Lost) (told : List Told) → AsksSo (making g seen missing told)
  making_so [] told = tt
  making_so (lost ∷ []) told = repair_so (servers_but g seen (lost.server ∷ [])) lost told
  making_so (lost ∷ other ∷ more) told = recovering_so (lost ∷ other ∷ more) told

  looking_so : (servers : List ℕ) (missing : List Lost) (told : List Told) → AsksSo (looking g seen servers missing told)
  looking_so [] missing told = making_so missing told
  looking_so (server ∷ more) missing [] = tt
  looking_so (server ∷ more) missing (Told.Here ∷ told) = looking_so more missing told
  looking_so (server ∷ more) missing (Told.Missing epoch ∷ told) =
      let marked : List Lost = missing ++ lost_at g seen server epoch ∷ [] in
      unless_so marked told (looking g seen more marked told) (looking_so more marked told)
  looking_so (server ∷ more) missing (_ ∷ told) = tt

module _ (g : Shape) (part : Part) where
  after_so : (missing : List Lost) (told : List Told) → AsksSo (after_data g part missing told)
  after_so [] told = tt
  after_so (lost ∷ more) told = looking_so g part.seen (servers_but g part.seen (chunks_in_range g part.start part.end)) (lost ∷ more) told

  data_so : (servers : List ℕ) (missing : List Lost) (told : List Told) → AsksSo (fetching_data g part servers missing told)
  data_so [] missing told = after_so missing told
  data_so (server ∷ more) missing [] = tt
  data_so (server ∷ more) missing (Told.Given layers ∷ told) = data_so more missing told
  data_so (server ∷ more) missing (Told.Missing epoch ∷ told) =
      let marked : List Lost = missing ++ lost_at g part.seen server epoch ∷ [] in
      unless_so g part.seen marked told (fetching_data g part more marked told) (data_so more marked told)
  data_so (server ∷ more) missing (_ ∷ told) = tt

  pub part_so : (told : List Told) → AsksSo (gather_part g part told)
  part_so told = data_so (chunks_in_range g part.start part.end) [] told

pub chunk_so : (g : Shape) (seen : Seen) (target : ℕ) (told : List Told) → AsksSo (gather_chunk g seen target told)
chunk_so g seen target [] = tt
chunk_so g seen target (Told.Here ∷ told) = tt
chunk_so g seen target (Told.Missing (found.Absent epoch) ∷ told) = looking_so g seen (servers_but g seen (target ∷ [])) (lost_at g seen target (found.Absent epoch) ∷ []) told
chunk_so g seen target (Told.Missing (found.Away downs) ∷ told) = tt
chunk_so g seen target (_ ∷ told) = tt
