-- What goes with a commit and with a repair is what the servers answered.
use Rattle.std.proofs.Common.{◌≡◌, ℕ, zero, suc, ◌+◌, ◌<◌, nat_lt, List, [], ◌∷◌, ◌++◌, length, filter, zip, Some, refl, subst, arith}
use Rattle.std.proofs.lemmas.Bool.{cond_both}
use Rattle.std.proofs.lemmas.Option.{none-some, same_Some}
use Rattle.std.specs.List.{slice_get}
use Rattle.clay_grid.specs.Shape.{Shape, chunk_count}
use Rattle.store_map.specs.declared.placement.Found.{Found}
use Rattle.store_map.specs.declared.placement.Placement.{Placement}
use Rattle.store_map.specs.declared.placement.Placement.TheVariants as placement
use Rattle.store_core.specs.Act.{Act, DirectoryStep, Outcome}
use Rattle.store_core.specs.Gathering.{Gathering, Part}
use Rattle.store_core.specs.GatheringParts.{ending, act_of, gathering, gather_part, gather_chunk}
use Rattle.store_core.specs.Note.{Note}
use Rattle.store_core.specs.Put.{settling, committed, drawing, next_put}
use Rattle.store_core.specs.Rebuild.{placing, confirming, rebuilding, next_rebuild}
use Rattle.store_core.specs.Tell.{is_versions}
use Rattle.store_core.specs.Told.{Told, Seen}
use Rattle.store_core.specs.Write.{old_parts, trying}
use Rattle.history_laws.proofs.HeardLosses.{NotDone, PartsHeard}
use Rattle.history_laws.proofs.LossesHeard.{PutHeard, WriteHeard, RebuildHeard, InstallHeard, ChunkHeard}
use Rattle.history_laws.proofs.LossesRows.{DrawHeard, RowFrom, RowsGood, Committing, draw_commits}
use Rattle.history_laws.proofs.VersionMoves.{row_at}

module _ (D : ℕ → Type 0) (Q : ℕ → ℕ → Placement → Type 0) (n : ℕ) where
  -- the versions that a commit is of, and its rows
  abbrev pub CommitSays : List Told → Act → Type 0
  CommitSays told (Act.AtDirectory (DirectoryStep.Commit rows)) =
      (versions : List ℕ) × (more : List Told) × (filter is_versions told ≡ Told.Versions versions ∷ more) × RowsGood D Q n versions rows
  CommitSays told act = Unit {0}

  ends_say : (seen : List Told) (outcome : Outcome) (told : List Told) → CommitSays seen (ending outcome told)
  ends_say seen outcome [] = tt
  ends_say seen outcome (Told.Ended ∷ told) = tt
  ends_say seen outcome (Told.Reaped point ∷ told) = tt
  ends_say seen outcome (answer ∷ told) = ends_say seen Outcome.NoMemory told

  settles_say : (seen : List Told) (point : ℕ) (places : List (ℕ × ℕ)) (told : List Told) → CommitSays seen (settling point places told)
  settles_say seen point [] told = tt
  settles_say seen point (place ∷ places) [] = tt
  settles_say seen point (place ∷ places) (_ ∷ told) = settles_say seen point places told

  committed_say : (g : Shape) (seen : List Told) (versions : List ℕ) (told : List Told) → CommitSays seen (committed g versions told)
  committed_say g seen versions [] = tt
  committed_say g seen versions (Told.Done point ∷ told) = settles_say seen point _ told
  committed_say g seen versions (_ ∷ told) = tt

  by_versions : (versions : List ℕ) (told : List Told) (act : Act) → Committing D Q n versions act → CommitSays (Told.Versions versions ∷ told) act
  by_versions versions told (Act.AtDirectory (DirectoryStep.Commit rows)) h = (versions, filter is_versions told, refl, h)
  by_versions versions told (Act.AtDirectory (DirectoryStep.Look note)) h = tt
  by_versions versions told (Act.AtDirectory (DirectoryStep.LookRepair note)) h = tt
  by_versions versions told (Act.AtDirectory DirectoryStep.Draw) h = tt
  by_versions versions told (Act.AtDirectory DirectoryStep.End) h = tt
  by_versions versions told (Act.AtDirectory DirectoryStep.Confirm) h = tt
  by_versions versions told (Act.AtDirectory (DirectoryStep.Repaired server epoch)) h = tt
  by_versions versions told (Act.AtDirectory DirectoryStep.NextGarbage) h = tt
  by_versions versions told (Act.AtDirectory (DirectoryStep.Swept version)) h = tt
  by_versions versions told (Act.AtDirectory (DirectoryStep.Reap who)) h = tt
  by_versions versions told (Act.AtServer server step) h = tt
  by_versions versions told (Act.Finish outcome) h = tt

  -- a row is the answers of the servers
  pub row_from_at : (version from : ℕ) (row : List Placement) (j : ℕ) → RowFrom D Q version from row → j < length row → Q (from + j) version (row_at row j)
  row_from_at version from [] j h low = absurd (omega (arith, low))
  row_from_at version from (p ∷ row) zero h low = subst (λ s. Q s version p) (let e : from ≡ from + 0 = omega arith in e) h.0
  row_from_at version from (p ∷ row) (suc j) h low =
      subst (λ s. Q s version (row_at row j)) (let e : from + 1 + j ≡ from + suc j = omega arith in e) (row_from_at version (from + 1) row j h.1 (omega (arith, low)))

  pub rows_at : (versions : List ℕ) (rows : List (List Placement)) (k version : ℕ) (row : List Placement) → RowsGood D Q n versions rows → slice_get (zip versions rows) k ≡ Some (version, row)
      → RowFrom D Q version 0 row × (length row ≡ n)
  rows_at [] rows k version row h e = absurd (none-some (version, row) e)
  rows_at (v ∷ versions) [] k version row h e = absurd (none-some (version, row) e)
  rows_at (v ∷ versions) (r ∷ rows) zero version row h e =
      let same : ◌≡◌ {A = ℕ × List Placement} (v, r) (version, row) = same_Some {A = ℕ × List Placement} (v, r) (version, row) e in
      subst (λ (p : ℕ × List Placement). RowFrom D Q p.0 0 p.1 × (length p.1 ≡ n)) same h.0
  rows_at (v ∷ versions) (r ∷ rows) (suc k) version row h e = rows_at versions rows k version row h.1 e

module _ (g : Shape) (D : ℕ → Type 0) (Q : ℕ → ℕ → Placement → Type 0) where
  draw_says : (note : Note) (told : List Told) → DrawHeard D Q (chunk_count g) told → CommitSays D Q (chunk_count g) told (drawing g note told)
  draw_says note [] h = tt
  draw_says note (Told.Versions versions ∷ told) h = by_versions D Q (chunk_count g) versions told (drawing g note (Told.Versions versions ∷ told)) (draw_commits D Q g note (Told.Versions versions ∷ told) h)
  draw_says note (Told.Reaped point ∷ told) h = tt
  draw_says note (answer ∷ told) h = ends_say D Q (chunk_count g) (answer ∷ told) Outcome.NoMemory told

  act_says : (seen : List Told) (stripe : ℕ) (next : List Told → Act) (gathered : Gathering) → NotDone gathered → CommitSays D Q (chunk_count g) seen (act_of stripe next gathered)
  act_says seen stripe next (Gathering.Asks server step) going = tt
  act_says seen stripe next (Gathering.HasBytes told) going = absurd going
  act_says seen stripe next (Gathering.TooMany missing told) going = ends_say D Q (chunk_count g) seen (Outcome.Unavailable stripe missing) told
  act_says seen stripe next (Gathering.AtTarget told) going = ends_say D Q (chunk_count g) seen Outcome.Here told
  act_says seen stripe next (Gathering.TargetAway downs told) going = ends_say D Q (chunk_count g) seen (Outcome.Away downs) told
  act_says seen stripe next (Gathering.Short told) going = ends_say D Q (chunk_count g) seen Outcome.NoMemory told

  module _ (target : ℕ) (P : Seen → ℕ → Found → Type 0) (W : Seen → Type 0) where
    parts_say : (note : Note) (parts : List Part) (told : List Told) → PartsHeard g P (DrawHeard D Q (chunk_count g)) parts told → CommitSays D Q (chunk_count g) told (gathering g parts (drawing g note) told)
    parts_say note [] told h = draw_says note told h
    parts_say note (part ∷ parts) [] h = act_says [] part.seen.stripe (gathering g parts (drawing g note)) (gather_part g part []) h.going
    parts_say note (part ∷ parts) (Told.Gathered ∷ told) h = parts_say note parts told h
    parts_say note (part ∷ parts) (answer ∷ told) h = act_says (answer ∷ told) part.seen.stripe (gathering g parts (drawing g note)) (gather_part g part (answer ∷ told)) h.going

    -- the commit of a put
    pub put_commits : (note : Note) (told : List Told) → PutHeard g target P W D Q told → CommitSays D Q (chunk_count g) told (next_put g note told)
    put_commits note [] h = tt
    put_commits note (Told.Answer point answer ∷ told) h = tt
    put_commits note (Told.Ready base length_now stripes ∷ told) h = draw_says note told h
    put_commits note (Told.Versions versions ∷ told) h = committed_say D Q (chunk_count g) g (Told.Versions versions ∷ told) versions told
    put_commits note (_ ∷ told) h = tt

    tries_say : (tries : ℕ) (note : Note) (pairs : List (ℕ × ℕ)) (seen : List Told) → CommitSays D Q (chunk_count g) seen (trying g tries note pairs [])
    tries_say tries note pairs seen =
        cond_both {A = Act} (nat_lt (length pairs) tries) (Act.AtDirectory (DirectoryStep.Look note)) (Act.Finish (Outcome.Contended pairs)) (CommitSays D Q (chunk_count g) seen) (λ _. tt) (λ _. tt)

    -- of a write
    pub write_commits : (tries : ℕ) (note : Note) (pairs : List (ℕ × ℕ)) (told : List Told) → WriteHeard g target P W D Q told → CommitSays D Q (chunk_count g) told (trying g tries note pairs told)
    write_commits tries note pairs [] h = tries_say tries note pairs []
    write_commits tries note pairs (Told.Changed base newer ∷ told) h = write_commits tries note (pairs ++ (base, newer) ∷ []) told h
    write_commits tries note pairs (Told.Answer point answer ∷ told) h = tt
    write_commits tries note pairs (Told.Ready base length_now stripes ∷ told) h = parts_say note (old_parts g length_now stripes) told h.1
    write_commits tries note pairs (Told.Versions versions ∷ told) h = committed_say D Q (chunk_count g) g (Told.Versions versions ∷ told) versions told
    write_commits tries note pairs (_ ∷ told) h = tt

    -- ---- of a rebuild
    abbrev pub RepairSays : Act → Type 0
    RepairSays (Act.AtDirectory (DirectoryStep.Repaired server epoch)) = (seen : Seen) × W seen × Q server seen.version (placement.At epoch)
    RepairSays act = Unit {0}

    ends_repair : (outcome : Outcome) (told : List Told) → RepairSays (ending outcome told)
    ends_repair outcome [] = tt
    ends_repair outcome (Told.Ended ∷ told) = tt
    ends_repair outcome (Told.Reaped point ∷ told) = tt
    ends_repair outcome (answer ∷ told) = ends_repair Outcome.NoMemory told

    placing_says : (seen : Seen) (epoch : ℕ) (told : List Told) → W seen → Q target seen.version (placement.At epoch) → RepairSays (placing target epoch told)
    placing_says seen epoch [] w q = (seen, w, q)
    placing_says seen epoch (Told.Ended ∷ told) w q = tt
    placing_says seen epoch (Told.Reaped point ∷ told) w q = tt
    placing_says seen epoch (_ ∷ told) w q = ends_repair Outcome.NoMemory told

    confirming_says : (seen : Seen) (told : List Told) → W seen → InstallHeard g target P W D Q seen told → RepairSays (confirming seen target told)
    confirming_says seen [] w h = tt
    confirming_says seen (Told.Current ∷ []) w h = tt
    confirming_says seen (Told.Current ∷ Told.Placed epoch ∷ told) w h = placing_says seen epoch told w h
    confirming_says seen (Told.Current ∷ Told.AlreadyThere ∷ told) w h = ends_repair Outcome.Here told
    confirming_says seen (Told.Current ∷ Told.Away downs ∷ told) w h = ends_repair (Outcome.Away downs) told
    confirming_says seen (Told.Current ∷ _ ∷ told) w h = ends_repair Outcome.NoMemory told
    confirming_says seen (Told.Superseded newer ∷ told) w h = tt
    confirming_says seen (Told.Reaped point ∷ told) w h = tt
    confirming_says seen (_ ∷ told) w h = ends_repair Outcome.NoMemory told

    asked_says : (seen : Seen) (next : List Told → Act) (gathered : Gathering) → NotDone gathered → RepairSays (act_of seen.stripe next gathered)
    asked_says seen next (Gathering.Asks server step) going = tt
    asked_says seen next (Gathering.HasBytes told) going = absurd going
    asked_says seen next (Gathering.TooMany missing told) going = ends_repair (Outcome.Unavailable seen.stripe missing) told
    asked_says seen next (Gathering.AtTarget told) going = ends_repair Outcome.Here told
    asked_says seen next (Gathering.TargetAway downs told) going = ends_repair (Outcome.Away downs) told
    asked_says seen next (Gathering.Short told) going = ends_repair Outcome.NoMemory told

    chunk_says : (seen : Seen) (told : List Told) → W seen → ChunkHeard g target P W D Q seen told → RepairSays (rebuilding g seen target told)
    chunk_says seen [] w h = asked_says seen (confirming seen target) (gather_chunk g seen target []) h.going
    chunk_says seen (Told.Gathered ∷ told) w h = confirming_says seen told w h
    chunk_says seen (answer ∷ told) w h = asked_says seen (confirming seen target) (gather_chunk g seen target (answer ∷ told)) h.going

    -- a repair tells the epoch at which the chunk was placed
    pub rebuild_repairs : (note : Note) (told : List Told) → RebuildHeard g target P W D Q told → RepairSays (next_rebuild g note target told)
    rebuild_repairs note [] h = tt
    rebuild_repairs note (Told.NoSuch ∷ told) h = tt
    rebuild_repairs note (Told.PinnedStripe seen ∷ told) h = chunk_says seen told h.0 h.1
    rebuild_repairs note (_ ∷ told) h = tt
