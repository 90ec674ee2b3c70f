-- A gathering goes on from its stage alone.
use Rattle.std.proofs.Common.{◌≡◌, ℕ, zero, suc, Bool, true, false, cond, nat_lt, List, [], ◌∷◌, ◌++◌, length, map, refl}
use Rattle.clay_grid.specs.Shape.{Shape}
use Rattle.store_map.specs.declared.placement.Found.TheVariants as found
use Rattle.store_core.specs.Told.{Seen, Lost, Told}
use Rattle.store_core.specs.Gathering.{Gathering, Part, servers_but, lost_at, unless_too_many, fetching_whole, recovering, fetching_repair, making, looking}
use Rattle.store_core.specs.GatheringParts.{chunks_in_range, after_data, fetching_data, gather_chunk}
use Rattle.run_laws.specs.Stage.{Aim, seen_of, Asking, Stage}
use Rattle.run_laws.specs.Stages.{unless_many, whole_stage, repair_stage, recover_stage, make_stage, look_stage, data_stage, fetch_stage}
use Rattle.run_laws.specs.ResumeGatherLaws.{comes_to, GatheringsResume}

module _ (g : Shape) (aim : Aim) where
  -- where too many are missing
  unless_resumes : (missing : List Lost) (told : List Told) (stage : Stage) (now : Gathering) → comes_to g aim stage told ≡ now
      → comes_to g aim (unless_many g missing stage) told ≡ unless_too_many g (seen_of aim) missing told now
  unless_resumes missing told stage now e = by (nat_lt g.parity_count (length missing))
    where
      by : (b : Bool) → comes_to g aim (cond b (Stage.TooMany missing) stage) told ≡ cond b (Gathering.TooMany missing told) now
      by true = refl
      by false = e

  -- whole chunks
  whole_resumes : (servers : List ℕ) (wanted : ℕ) (missing : List Lost) (told : List Told)
      → comes_to g aim (whole_stage g servers wanted missing) told ≡ fetching_whole g (seen_of aim) servers wanted missing told
  whole_resumes servers zero missing told = refl
  whole_resumes [] (suc wanted) missing told = refl
  whole_resumes (server ∷ more) (suc wanted) missing [] = refl
  whole_resumes (server ∷ more) (suc wanted) missing (Told.Given layers ∷ told) = whole_resumes more wanted missing told
  whole_resumes (server ∷ more) (suc wanted) missing (Told.Missing found ∷ told) =
      let lacking : List Lost = missing ++ lost_at g (seen_of aim) server found ∷ [] in
      unless_resumes lacking told (whole_stage g more (suc wanted) lacking) (fetching_whole g (seen_of aim) more (suc wanted) lacking told) (whole_resumes more (suc wanted) lacking told)
  whole_resumes (server ∷ more) (suc wanted) missing (_ ∷ told) = refl

  -- from each server that is not missing
  recover_resumes : (missing : List Lost) (told : List Told) → comes_to g aim (recover_stage g (seen_of aim) missing) told ≡ recovering g (seen_of aim) missing told
  recover_resumes missing told = whole_resumes (servers_but g (seen_of aim) (map (λ (lost : Lost). lost.server) missing)) g.data_count missing told

  -- the repair layers
  repair_resumes : (servers : List ℕ) (lost : Lost) (told : List Told)
      → comes_to g aim (repair_stage g servers lost) told ≡ fetching_repair g (seen_of aim) servers lost told
  repair_resumes [] lost told = refl
  repair_resumes (server ∷ more) lost [] = refl
  repair_resumes (server ∷ more) lost (Told.Given layers ∷ told) = repair_resumes more lost told
  repair_resumes (server ∷ more) lost (Told.Missing found ∷ told) =
      let lacking : List Lost = lost ∷ lost_at g (seen_of aim) server found ∷ [] in
      unless_resumes lacking told (recover_stage g (seen_of aim) lacking) (recovering g (seen_of aim) lacking told) (recover_resumes lacking told)
  repair_resumes (server ∷ more) lost (_ ∷ told) = refl

  -- after each server was asked
  make_resumes : (missing : List Lost) (told : List Told) → comes_to g aim (make_stage g (seen_of aim) missing) told ≡ making g (seen_of aim) missing told
  make_resumes [] told = refl
  make_resumes (lost ∷ []) told = repair_resumes (servers_but g (seen_of aim) (lost.server ∷ [])) lost told
  make_resumes (lost ∷ other ∷ more) told = recover_resumes (lost ∷ other ∷ more) told

  -- each server is asked
  look_resumes : (servers : List ℕ) (missing : List Lost) (told : List Told)
      → comes_to g aim (look_stage g (seen_of aim) servers missing) told ≡ looking g (seen_of aim) servers missing told
  look_resumes [] missing told = make_resumes missing told
  look_resumes (server ∷ more) missing [] = refl
  look_resumes (server ∷ more) missing (Told.Here ∷ told) = look_resumes more missing told
  look_resumes (server ∷ more) missing (Told.Missing found ∷ told) =
      let lacking : List Lost = missing ++ lost_at g (seen_of aim) server found ∷ [] in
      unless_resumes lacking told (look_stage g (seen_of aim) more lacking) (looking g (seen_of aim) more lacking told) (look_resumes more lacking told)
  look_resumes (server ∷ more) missing (_ ∷ told) = refl

module _ (g : Shape) (part : Part) where
  -- after the data chunks
  after_resumes : (missing : List Lost) (told : List Told) → comes_to g (Aim.Range part) (data_stage g part missing) told ≡ after_data g part missing told
  after_resumes [] told = refl
  after_resumes (lost ∷ more) told = look_resumes g (Aim.Range part) (servers_but g part.seen (chunks_in_range g part.start part.end)) (lost ∷ more) told

  -- the layers with wanted bytes
  fetch_resumes : (servers : List ℕ) (missing : List Lost) (told : List Told)
      → comes_to g (Aim.Range part) (fetch_stage g part servers missing) told ≡ fetching_data g part servers missing told
  fetch_resumes [] missing told = after_resumes missing told
  fetch_resumes (server ∷ more) missing [] = refl
  fetch_resumes (server ∷ more) missing (Told.Given layers ∷ told) = fetch_resumes more missing told
  fetch_resumes (server ∷ more) missing (Told.Missing found ∷ told) =
      let lacking : List Lost = missing ++ lost_at g part.seen server found ∷ [] in
      unless_resumes g (Aim.Range part) lacking told (fetch_stage g part more lacking) (fetching_data g part more lacking told) (fetch_resumes more lacking told)
  fetch_resumes (server ∷ more) missing (_ ∷ told) = refl

-- a chunk's gathering
chunk_resumes : (g : Shape) (seen : Seen) (target : ℕ) (told : List Told) → comes_to g (Aim.Chunk seen target) (Stage.Asks (Asking.Target target)) told ≡ gather_chunk g seen target told
chunk_resumes g seen target [] = refl
chunk_resumes g seen target (Told.Here ∷ told) = refl
chunk_resumes g seen target (Told.Missing (found.Absent epoch) ∷ told) =
    look_resumes g (Aim.Chunk seen target) (servers_but g seen (target ∷ [])) (lost_at g seen target (found.Absent epoch) ∷ []) told
chunk_resumes g seen target (Told.Missing (found.Away downs) ∷ told) = refl
chunk_resumes g seen target (_ ∷ told) = refl

-- a gathering goes on from its stage
pub gatherings_resume : GatheringsResume
gatherings_resume g (Aim.Range part) told = fetch_resumes g part (chunks_in_range g part.start part.end) [] told
gatherings_resume g (Aim.Chunk seen target) told = chunk_resumes g seen target told
