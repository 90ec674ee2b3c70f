-- A gathering that asks a server and is told of want of memory ends so.
use Rattle.std.proofs.Common.{◌≡◌, ℕ, zero, suc, Bool, true, false, cond, nat_lt, List, [], ◌∷◌, ◌++◌, length, map, refl}
use Rattle.clay_grid.specs.Shape.{Shape}
use Rattle.store_map.specs.declared.placement.Found.TheVariants as found
use Rattle.store_core.specs.Told.{Seen, Lost, Told}
use Rattle.store_core.specs.Gathering.{Gathering, Part, servers_but, lost_at, unless_too_many, fetching_whole, recovering, fetching_repair, making, looking}
use Rattle.store_core.specs.GatheringParts.{chunks_in_range, after_data, fetching_data, gather_part, gather_chunk}

-- a fact of the gathering after more answers, where the gathering before them asks a server
abbrev pub WhereAsking : (Gathering → Type 0) → Gathering → Gathering → Type 0
WhereAsking P (Gathering.Asks server step) later = P later
WhereAsking P _ later = Unit {0}

module _ (rest : List Told) where
  abbrev pub HasShortage : Gathering → Type 0
  HasShortage later = later ≡ Gathering.Short rest

  module _ (g : Shape) (seen : Seen) where
    unless_short : (missing : List Lost) (told later_told : List Told) (now later : Gathering) → WhereAsking HasShortage now later
        → WhereAsking HasShortage (unless_too_many g seen missing told now) (unless_too_many g seen missing later_told later)
    unless_short missing told later_told now later h = by (nat_lt g.parity_count (length missing))
      where
        by : (b : Bool) → WhereAsking HasShortage (cond b (Gathering.TooMany missing told) now) (cond b (Gathering.TooMany missing later_told) later)
        by true = tt
        by false = h

    whole_short : (servers : List ℕ) (wanted : ℕ) (missing : List Lost) (told : List Told)
        → WhereAsking HasShortage (fetching_whole g seen servers wanted missing told) (fetching_whole g seen servers wanted missing (told ++ Told.Short ∷ rest))
    whole_short servers zero missing told = tt
    whole_short [] (suc wanted) missing told = tt
    whole_short (server ∷ more) (suc wanted) missing [] = refl
    whole_short (server ∷ more) (suc wanted) missing (Told.Given layers ∷ told) = whole_short more wanted missing told
    whole_short (server ∷ more) (suc wanted) missing (Told.Missing epoch ∷ told) =
        let marked : List Lost = missing ++ lost_at g seen server epoch ∷ [] in
        unless_short marked told (told ++ Told.Short ∷ rest) (fetching_whole g seen more (suc wanted) marked told)
        (fetching_whole g seen more (suc wanted) marked (told ++ Told.Short ∷ rest)) (whole_short more (suc wanted) marked told)
    whole_short (server ∷ more) (suc wanted) missing (_ ∷ told) = tt

    recovering_short : (missing : List Lost) (told : List Told) → WhereAsking HasShortage (recovering g seen missing told) (recovering g seen missing (told ++ Told.Short ∷ rest))
    recovering_short missing told = whole_short (servers_but g seen (map (λ (lost : Lost). lost.server) missing)) g.data_count missing told

    repair_short : (servers : List ℕ) (lost : Lost) (told : List Told)
        → WhereAsking HasShortage (fetching_repair g seen servers lost told) (fetching_repair g seen servers lost (told ++ Told.Short ∷ rest))
    repair_short [] lost told = tt
    repair_short (server ∷ more) lost [] = refl
    repair_short (server ∷ more) lost (Told.Given layers ∷ told) = repair_short more lost told
    repair_short (server ∷ more) lost (Told.Missing epoch ∷ told) =
        let marked : List Lost = lost ∷ lost_at g seen server epoch ∷ [] in
        unless_short marked told (told ++ Told.Short ∷ rest) (recovering g seen marked told) (recovering g seen marked (told ++ Told.Short ∷ rest)) (recovering_short marked told)
    repair_short (server ∷ more) lost (_ ∷ told) = tt

    making_short : (missing : List Lost) (told : List Told) → WhereAsking HasShortage (making g seen missing told) (making g seen missing (told ++ Told.Short ∷ rest))
    making_short [] told = tt
    making_short (lost ∷ []) told = repair_short (servers_but g seen (lost.server ∷ [])) lost told
    making_short (lost ∷ other ∷ more) told = recovering_short (lost ∷ other ∷ more) told

    looking_short : (servers : List ℕ) (missing : List Lost) (told : List Told)
        → WhereAsking HasShortage (looking g seen servers missing told) (looking g seen servers missing (told ++ Told.Short ∷ rest))
    looking_short [] missing told = making_short missing told
    looking_short (server ∷ more) missing [] = refl
    looking_short (server ∷ more) missing (Told.Here ∷ told) = looking_short more missing told
    looking_short (server ∷ more) missing (Told.Missing epoch ∷ told) =
        let marked : List Lost = missing ++ lost_at g seen server epoch ∷ [] in
        unless_short marked told (told ++ Told.Short ∷ rest) (looking g seen more marked told) (looking g seen more marked (told ++ Told.Short ∷ rest)) (looking_short more marked told)
    looking_short (server ∷ more) missing (_ ∷ told) = tt

  module _ (g : Shape) (part : Part) where
    after_short : (missing : List Lost) (told : List Told) → WhereAsking HasShortage (after_data g part missing told) (after_data g part missing (told ++ Told.Short ∷ rest))
    after_short [] told = tt
    after_short (lost ∷ more) told = looking_short g part.seen (servers_but g part.seen (chunks_in_range g part.start part.end)) (lost ∷ more) told

    data_short : (servers : List ℕ) (missing : List Lost) (told : List Told)
        → WhereAsking HasShortage (fetching_data g part servers missing told) (fetching_data g part servers missing (told ++ Told.Short ∷ rest))
    data_short [] missing told = after_short missing told
    data_short (server ∷ more) missing [] = refl
    data_short (server ∷ more) missing (Told.Given layers ∷ told) = data_short more missing told
    data_short (server ∷ more) missing (Told.Missing epoch ∷ told) =
        let marked : List Lost = missing ++ lost_at g part.seen server epoch ∷ [] in
        unless_short g part.seen marked told (told ++ Told.Short ∷ rest) (fetching_data g part more marked told)
        (fetching_data g part more marked (told ++ Told.Short ∷ rest)) (data_short more marked told)
    data_short (server ∷ more) missing (_ ∷ told) = tt

    pub part_short : (told : List Told) → WhereAsking HasShortage (gather_part g part told) (gather_part g part (told ++ Told.Short ∷ rest))
    part_short told = data_short (chunks_in_range g part.start part.end) [] told

  pub chunk_short : (g : Shape) (seen : Seen) (target : ℕ) (told : List Told) → WhereAsking HasShortage (gather_chunk g seen target told) (gather_chunk g seen target (told ++ Told.Short ∷ rest))
  chunk_short g seen target [] = refl
  chunk_short g seen target (Told.Here ∷ told) = tt
  chunk_short g seen target (Told.Missing (found.Absent epoch) ∷ told) = looking_short g seen (servers_but g seen (target ∷ [])) (lost_at g seen target (found.Absent epoch) ∷ []) told
  chunk_short g seen target (Told.Missing (found.Away downs) ∷ told) = tt
  chunk_short g seen target (_ ∷ told) = tt
