-- A gathering asks only servers that there are, whether they have a chunk or for bytes of it.
use Rattle.std.proofs.Common.{ℕ, zero, suc, ◌+◌, ◌*◌, ◌<◌, ◌≤◌, Bool, nat_lt, max, min, not, List, [], ◌∷◌, ◌++◌, length, map, filter, arith}
use Rattle.std.proofs.lemmas.Bool.{cond_both}
use Rattle.std.specs.List.{range_with_len}
use Rattle.store_map.specs.declared.placement.Found.TheVariants as found
use Rattle.clay_grid.specs.Shape.{Shape, chunk_count, chunk_length}
use Rattle.store_core.specs.Lists.{is_among}
use Rattle.store_core.specs.Told.{Seen, Lost, Told}
use Rattle.store_core.specs.Act.{ServerStep}
use Rattle.store_core.specs.Gathering.{Gathering, Part, servers_but, lost_at, unless_too_many, fetching_whole, recovering, fetching_repair, making, looking}
use Rattle.store_core.specs.GatheringParts.{chunks_in_range, after_data, fetching_data, gather_part, gather_chunk}

-- each of the numbers is below n
abbrev pub AreBelow : ℕ → List ℕ → Type 0
AreBelow n [] = Unit {0}
AreBelow n (server ∷ servers) = (server < n) × AreBelow n servers

-- a step of a gathering
abbrev pub IsAsk : ServerStep → Type 0
IsAsk (ServerStep.Has version) = Unit {0}
IsAsk (ServerStep.Fetch version layers) = Unit {0}
IsAsk _ = ⊥

-- of the servers below n, one is asked for what it has
abbrev pub AsksWell : ℕ → Gathering → Type 0
AsksWell n (Gathering.Asks server step) = (server < n) × IsAsk step
AsksWell n _ = Unit {0}

-- numbers in a range are below its end
range_below : (n a k : ℕ) → a + k ≤ n → AreBelow n (range_with_len a k)
range_below n a zero h = tt
range_below n a (suc k) h = (omega (arith, h), range_below n (a + 1) k (omega (arith, h)))

-- a part of such numbers is below n too
filter_below : (n : ℕ) (p : ℕ → Bool) (servers : List ℕ) → AreBelow n servers → AreBelow n (filter p servers)
filter_below n p [] h = tt
filter_below n p (server ∷ servers) h =
    cond_both {A = List ℕ} (p server) (server ∷ filter p servers) (filter p servers) (AreBelow n)
    (λ _. (h.0, filter_below n p servers h.1)) (λ _. filter_below n p servers h.1)

module _ (g : Shape) (seen : Seen) where
  -- the servers that weren't asked yet are servers
  others_below : (asked : List ℕ) → AreBelow (chunk_count g) (servers_but g seen asked)
  others_below asked = filter_below (chunk_count g) (λ server. not (is_among server asked)) (range_with_len 0 (chunk_count g)) (range_below (chunk_count g) 0 (chunk_count g) (omega arith))

  -- giving up asks nothing
  unless_well : (missing : List Lost) (told : List Told) (otherwise : Gathering) → AsksWell (chunk_count g) otherwise → AsksWell (chunk_count g) (unless_too_many g seen missing told otherwise)
  unless_well missing told otherwise h =
      cond_both {A = Gathering} (nat_lt g.parity_count (length missing)) (Gathering.TooMany missing told) otherwise (AsksWell (chunk_count g)) (λ _. tt) (λ _. h)

  whole_well : (servers : List ℕ) (wanted : ℕ) (missing : List Lost) (told : List Told) → AreBelow (chunk_count g) servers
      → AsksWell (chunk_count g) (fetching_whole g seen servers wanted missing told)
  whole_well servers zero missing told h = tt
  whole_well [] (suc wanted) missing told h = tt
  whole_well (server ∷ more) (suc wanted) missing [] h = (h.0, tt)
  whole_well (server ∷ more) (suc wanted) missing (Told.Given layers ∷ told) h = whole_well more wanted missing told h.1
  whole_well (server ∷ more) (suc wanted) missing (Told.Missing epoch ∷ told) h =
      let marked : List Lost = missing ++ lost_at g seen server epoch ∷ [] in
      unless_well marked told (fetching_whole g seen more (suc wanted) marked told) (whole_well more (suc wanted) marked told h.1)
  whole_well (server ∷ more) (suc wanted) missing (_ ∷ told) h = tt

  recovering_well : (missing : List Lost) (told : List Told) → AsksWell (chunk_count g) (recovering g seen missing told)
  recovering_well missing told =
      let asked : List ℕ = map (λ (lost : Lost). lost.server) missing in
      whole_well (servers_but g seen asked) g.data_count missing told (others_below asked)

  repair_well : (servers : List ℕ) (lost : Lost) (told : List Told) → AreBelow (chunk_count g) servers → AsksWell (chunk_count g) (fetching_repair g seen servers lost told)
  repair_well [] lost told h = tt
  repair_well (server ∷ more) lost [] h = (h.0, tt)
  repair_well (server ∷ more) lost (Told.Given layers ∷ told) h = repair_well more lost told h.1
  repair_well (server ∷ more) lost (Told.Missing epoch ∷ told) h =
      let marked : List Lost = lost ∷ lost_at g seen server epoch ∷ [] in
      unless_well marked told (recovering g seen marked told) (recovering_well marked told)
  repair_well (server ∷ more) lost (_ ∷ told) h = tt

  making_well : (missing : List Lost) (told : List Told) → AsksWell (chunk_count g) (making g seen missing told)
  making_well [] told = tt
  making_well (lost ∷ []) told = repair_well (servers_but g seen (lost.server ∷ [])) lost told (others_below (lost.server ∷ []))
  making_well (lost ∷ other ∷ more) told = recovering_well (lost ∷ other ∷ more) told

  looking_well : (servers : List ℕ) (missing : List Lost) (told : List Told) → AreBelow (chunk_count g) servers → AsksWell (chunk_count g) (looking g seen servers missing told)
  looking_well [] missing told h = making_well missing told
  looking_well (server ∷ more) missing [] h = (h.0, tt)
  looking_well (server ∷ more) missing (Told.Here ∷ told) h = looking_well more missing told h.1
  looking_well (server ∷ more) missing (Told.Missing epoch ∷ told) h =
      let marked : List Lost = missing ++ lost_at g seen server epoch ∷ [] in
      unless_well marked told (looking g seen more marked told) (looking_well more marked told h.1)
  looking_well (server ∷ more) missing (_ ∷ told) h = tt

module _ (g : Shape) (part : Part) where
  after_well : (missing : List Lost) (told : List Told) → AsksWell (chunk_count g) (after_data g part missing told)
  after_well [] told = tt
  after_well (lost ∷ more) told =
      looking_well g part.seen (servers_but g part.seen (chunks_in_range g part.start part.end)) (lost ∷ more) told (others_below g part.seen (chunks_in_range g part.start part.end))

  data_well : (servers : List ℕ) (missing : List Lost) (told : List Told) → AreBelow (chunk_count g) servers → AsksWell (chunk_count g) (fetching_data g part servers missing told)
  data_well [] missing told h = after_well missing told
  data_well (server ∷ more) missing [] h = (h.0, tt)
  data_well (server ∷ more) missing (Told.Given layers ∷ told) h = data_well more missing told h.1
  data_well (server ∷ more) missing (Told.Missing epoch ∷ told) h =
      let marked : List Lost = missing ++ lost_at g part.seen server epoch ∷ [] in
      unless_well g part.seen marked told (fetching_data g part more marked told) (data_well more marked told h.1)
  data_well (server ∷ more) missing (_ ∷ told) h = tt

  in_range_below : AreBelow (chunk_count g) (chunks_in_range g part.start part.end)
  in_range_below =
      filter_below (chunk_count g) (λ chunk. nat_lt (max part.start (chunk * chunk_length g)) (min part.end ((chunk + 1) * chunk_length g))) (range_with_len 0 g.data_count)
      (range_below (chunk_count g) 0 g.data_count (omega arith))

  -- the gathering of a part asks well
  pub part_well : (told : List Told) → AsksWell (chunk_count g) (gather_part g part told)
  part_well told = data_well (chunks_in_range g part.start part.end) [] told in_range_below

-- so does that of a chunk
pub chunk_well : (g : Shape) (seen : Seen) (target : ℕ) → target < chunk_count g → (told : List Told) → AsksWell (chunk_count g) (gather_chunk g seen target told)
chunk_well g seen target below [] = (below, tt)
chunk_well g seen target below (Told.Here ∷ told) = tt
chunk_well g seen target below (Told.Missing (found.Absent epoch) ∷ told) =
    looking_well g seen (servers_but g seen (target ∷ [])) (lost_at g seen target (found.Absent epoch) ∷ []) told (others_below g seen (target ∷ []))
chunk_well g seen target below (Told.Missing (found.Away downs) ∷ told) = tt
chunk_well g seen target below (_ ∷ told) = tt
