-- What a gathering takes of the answers has no versions and no changes among it.
use Rattle.std.proofs.Common.{◌≡◌, ℕ, zero, suc, nat_lt, List, [], ◌∷◌, ◌++◌, length, map, filter, refl}
use Rattle.std.proofs.lemmas.Bool.{cond_both}
use Rattle.store_map.specs.declared.placement.Found.{Found}
use Rattle.clay_grid.specs.Shape.{Shape}
use Rattle.store_map.specs.declared.placement.Found.TheVariants as found
use Rattle.store_core.specs.Told.{Seen, Lost, Told}
use Rattle.store_core.specs.Gathering.{Gathering, Part, servers_but, lost_at, unless_too_many, fetching_whole, recovering, fetching_repair, making, looking}
use Rattle.store_core.specs.GatheringParts.{chunks_in_range, after_data, fetching_data, gather_part, gather_chunk}
use Rattle.store_core.specs.Tell.{is_versions, is_changed}

-- the versions and the changes among what was told stand in what was told since
abbrev pub KeepsMarks : List Told → Gathering → Type 0
KeepsMarks told (Gathering.HasBytes rest) = (filter is_versions told ≡ filter is_versions rest) × (filter is_changed told ≡ filter is_changed rest)
KeepsMarks told _ = Unit {0}

given : (layers : ℕ) (told : List Told) (result : Gathering) → KeepsMarks told result → KeepsMarks (Told.Given layers ∷ told) result
given layers told (Gathering.HasBytes rest) h = h
given layers told _ h = tt

missed : (epoch : Found) (told : List Told) (result : Gathering) → KeepsMarks told result → KeepsMarks (Told.Missing epoch ∷ told) result
missed epoch told (Gathering.HasBytes rest) h = h
missed epoch told _ h = tt

there : (told : List Told) (result : Gathering) → KeepsMarks told result → KeepsMarks (Told.Here ∷ told) result
there told (Gathering.HasBytes rest) h = h
there told _ h = tt

module _ (g : Shape) (seen : Seen) where
  unless_keeps : (missing : List Lost) (told : List Told) (otherwise : Gathering) → KeepsMarks told otherwise → KeepsMarks told (unless_too_many g seen missing told otherwise)
  unless_keeps missing told otherwise h =
      cond_both {A = Gathering} (nat_lt g.parity_count (length missing)) (Gathering.TooMany missing told) otherwise (KeepsMarks told) (λ _. tt) (λ _. h)

  whole_keeps : (servers : List ℕ) (wanted : ℕ) (missing : List Lost) (told : List Told) → KeepsMarks told (fetching_whole g seen servers wanted missing told)
  whole_keeps servers zero missing told = (refl, refl)
  whole_keeps [] (suc wanted) missing told = tt
  whole_keeps (server ∷ more) (suc wanted) missing [] = tt
  whole_keeps (server ∷ more) (suc wanted) missing (Told.Given layers ∷ told) = given layers told (fetching_whole g seen more wanted missing told) (whole_keeps more wanted missing told)
  whole_keeps (server ∷ more) (suc wanted) missing (Told.Missing epoch ∷ told) =
      let marked : List Lost = missing ++ lost_at g seen server epoch ∷ [] in
      let later : Gathering = fetching_whole g seen more (suc wanted) marked told in
      missed epoch told (unless_too_many g seen marked told later) (unless_keeps marked told later (whole_keeps more (suc wanted) marked told))
  whole_keeps (server ∷ more) (suc wanted) missing (_ ∷ told) = tt

  recovering_keeps : (missing : List Lost) (told : List Told) → KeepsMarks told (recovering g seen missing told)
  recovering_keeps missing told = whole_keeps (servers_but g seen (map (λ (lost : Lost). lost.server) missing)) g.data_count missing told

  repair_keeps : (servers : List ℕ) (lost : Lost) (told : List Told) → KeepsMarks told (fetching_repair g seen servers lost told)
  repair_keeps [] lost told = (refl, refl)
  repair_keeps (server ∷ more) lost [] = tt
  repair_keeps (server ∷ more) lost (Told.Given layers ∷ told) = given layers told (fetching_repair g seen more lost told) (repair_keeps more lost told)
  repair_keeps (server ∷ more) lost (Told.Missing epoch ∷ told) =
      let marked : List Lost = lost ∷ lost_at g seen server epoch ∷ [] in
      let later : Gathering = recovering g seen marked told in
      missed epoch told (unless_too_many g seen marked told later) (unless_keeps marked told later (recovering_keeps marked told))
  repair_keeps (server ∷ more) lost (_ ∷ told) = tt

  making_keeps : (missing : List Lost) (told : List Told) → KeepsMarks told (making g seen missing told)
  making_keeps [] told = (refl, refl)
  making_keeps (lost ∷ []) told = repair_keeps (servers_but g seen (lost.server ∷ [])) lost told
  making_keeps (lost ∷ other ∷ more) told = recovering_keeps (lost ∷ other ∷ more) told

  looking_keeps : (servers : List ℕ) (missing : List Lost) (told : List Told) → KeepsMarks told (looking g seen servers missing told)
  looking_keeps [] missing told = making_keeps missing told
  looking_keeps (server ∷ more) missing [] = tt
  looking_keeps (server ∷ more) missing (Told.Here ∷ told) = there told (looking g seen more missing told) (looking_keeps more missing told)
  looking_keeps (server ∷ more) missing (Told.Missing epoch ∷ told) =
      let marked : List Lost = missing ++ lost_at g seen server epoch ∷ [] in
      let later : Gathering = looking g seen more marked told in
      missed epoch told (unless_too_many g seen marked told later) (unless_keeps marked told later (looking_keeps more marked told))
  looking_keeps (server ∷ more) missing (_ ∷ told) = tt

module _ (g : Shape) (part : Part) where
  after_keeps : (missing : List Lost) (told : List Told) → KeepsMarks told (after_data g part missing told)
  after_keeps [] told = (refl, refl)
  after_keeps (lost ∷ more) told = looking_keeps g part.seen (servers_but g part.seen (chunks_in_range g part.start part.end)) (lost ∷ more) told

  data_keeps : (servers : List ℕ) (missing : List Lost) (told : List Told) → KeepsMarks told (fetching_data g part servers missing told)
  data_keeps [] missing told = after_keeps missing told
  data_keeps (server ∷ more) missing [] = tt
  data_keeps (server ∷ more) missing (Told.Given layers ∷ told) = given layers told (fetching_data g part more missing told) (data_keeps more missing told)
  data_keeps (server ∷ more) missing (Told.Missing epoch ∷ told) =
      let marked : List Lost = missing ++ lost_at g part.seen server epoch ∷ [] in
      let later : Gathering = fetching_data g part more marked told in
      missed epoch told (unless_too_many g part.seen marked told later) (unless_keeps g part.seen marked told later (data_keeps more marked told))
  data_keeps (server ∷ more) missing (_ ∷ told) = tt

  pub part_keeps : (told : List Told) → KeepsMarks told (gather_part g part told)
  part_keeps told = data_keeps (chunks_in_range g part.start part.end) [] told

pub chunk_keeps : (g : Shape) (seen : Seen) (target : ℕ) (told : List Told) → KeepsMarks told (gather_chunk g seen target told)
chunk_keeps g seen target [] = tt
chunk_keeps g seen target (Told.Here ∷ told) = tt
chunk_keeps g seen target (Told.Missing (found.Absent epoch) ∷ told) =
    let marked : List Lost = lost_at g seen target (found.Absent epoch) ∷ [] in
    missed (found.Absent epoch) told (looking g seen (servers_but g seen (target ∷ [])) marked told) (looking_keeps g seen (servers_but g seen (target ∷ [])) marked told)
chunk_keeps g seen target (Told.Missing (found.Away downs) ∷ told) = tt
chunk_keeps g seen target (_ ∷ told) = tt
