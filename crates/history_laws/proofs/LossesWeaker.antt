-- What a call was told of chunks still holds where less is said of each, and before a look anything holds.
use Rattle.std.proofs.Common.{ℕ, ◌+◌, nat_lt, List, [], ◌∷◌, ◌++◌}
use Rattle.std.proofs.lemmas.Bool.{cond_both}
use Rattle.std.proofs.lemmas.List.Elements.{All-weaker}
use Rattle.std.specs.List.{range_with_len}
use Rattle.clay_grid.specs.Shape.{Shape, chunk_count}
use Rattle.store_map.specs.declared.placement.Found.{Found}
use Rattle.store_map.specs.declared.placement.Placement.{Placement}
use Rattle.store_core.specs.Act.{Act, Outcome}
use Rattle.store_core.specs.Gathering.{Gathering, Part}
use Rattle.store_core.specs.GatheringParts.{ending, act_of, gathering, gather_part, gather_chunk}
use Rattle.store_core.specs.NextAct.{next_by}
use Rattle.store_core.specs.Note.{Note, Kind}
use Rattle.store_core.specs.Placements.{skipped_count, skipped_from}
use Rattle.store_core.specs.Put.{committing, preparing, preparing_all, drawing, next_put}
use Rattle.store_core.specs.Read.{parts_of, read_start, read_end, next_read}
use Rattle.store_core.specs.Rebuild.{placing, installing, confirming, rebuilding, next_rebuild}
use Rattle.store_core.specs.Told.{Told, Seen}
use Rattle.store_core.specs.Write.{old_parts, trying}
use Rattle.run_laws.specs.EndLaws.{IsLook}
use Rattle.run_laws.specs.NamedServers.{found_missing}
use Rattle.history_laws.proofs.HeardLosses.{LostAt, PartHeard, PartsHeard}
use Rattle.history_laws.proofs.LossesRows.{AllOf, RowHeard, RowsHeard, DrawHeard}
use Rattle.history_laws.proofs.LossesHeard.{AllSeen, AllParts, read_parts, write_parts, PutHeard, ReadHeard, WriteHeard, InstallHeard, ChunkAsked, ChunkHeard, RebuildHeard, HeardBy}

-- ---- where less is said
module _ (g : Shape) (target : ℕ) (P Less : Seen → ℕ → Found → Type 0) (W Wide : Seen → Type 0) (D Deep : ℕ → Type 0) (Q Quiet : ℕ → ℕ → Placement → Type 0)
    (p : (seen : Seen) → W seen → (server : ℕ) (found : Found) → P seen server found → Less seen server found) (w : (seen : Seen) → W seen → Wide seen) (d : (version : ℕ) → D version → Deep version)
    (q : (server version : ℕ) (row : Placement) → Q server version row → Quiet server version row) where
  seen_less : (stripes : List Seen) → AllSeen W stripes → AllSeen Wide stripes
  seen_less [] h = tt
  seen_less (seen ∷ stripes) h = (w seen h.0, seen_less stripes h.1)

  of_less : (versions : List ℕ) → AllOf D versions → AllOf Deep versions
  of_less [] h = tt
  of_less (version ∷ versions) h = (d version h.0, of_less versions h.1)

  row_less : (version : ℕ) (servers : List ℕ) (next now : List Told → Type 0) → ((rest : List Told) → next rest → now rest) → (told : List Told) → RowHeard D Q version servers next told → RowHeard Deep Quiet version servers now told
  row_less version [] next now less told h = less told h
  row_less version (server ∷ servers) next now less [] h = tt
  row_less version (server ∷ servers) next now less (Told.Prepared row ∷ told) h = (q server version row h.0, row_less version servers next now less told h.1)
  row_less version (server ∷ servers) next now less (_ ∷ told) h = tt

  rows_less : (n : ℕ) (versions : List ℕ) (told : List Told) → RowsHeard D Q n versions told → RowsHeard Deep Quiet n versions told
  rows_less n [] told h = tt
  rows_less n (version ∷ versions) told h = row_less version (range_with_len 0 n) (RowsHeard D Q n versions) (RowsHeard Deep Quiet n versions) (rows_less n versions) told h

  draw_less : (n : ℕ) (told : List Told) → DrawHeard D Q n told → DrawHeard Deep Quiet n told
  draw_less n [] h = tt
  draw_less n (Told.Versions versions ∷ told) h = (of_less versions h.0, rows_less n versions told h.1)
  draw_less n (_ ∷ told) h = tt

  module _ (R Rest : List Told → Type 0) (rest_less : (told : List Told) → R told → Rest told) where
    part_less : (part : Part) (told : List Told) → W part.seen → PartHeard g P R part told → PartHeard g Less Rest part told
    part_less part told there h =
        record { going = h.going; lost = All-weaker (LostAt g P R part.seen) (LostAt g Less Rest part.seen) (λ found k. p part.seen there found.0 found.1 k) (found_missing (gather_part g part) [] told) h.lost }

    parts_less : (parts : List Part) (told : List Told) → AllParts W parts → PartsHeard g P R parts told → PartsHeard g Less Rest parts told
    parts_less [] told there h = rest_less told h
    parts_less (part ∷ parts) [] there h = part_less part [] there.0 h
    parts_less (part ∷ parts) (Told.Gathered ∷ told) there h = parts_less parts told there.1 h
    parts_less (part ∷ parts) (answer ∷ told) there h = part_less part (answer ∷ told) there.0 h

  put_less : (told : List Told) → PutHeard g target P W D Q told → PutHeard g target Less Wide Deep Quiet told
  put_less [] h = tt
  put_less (Told.Ready base length_now stripes ∷ told) h = draw_less (chunk_count g) told h
  put_less (_ ∷ told) h = tt

  read_less : (note : Note) (told : List Told) → ReadHeard g target P W D Q note told → ReadHeard g target Less Wide Deep Quiet note told
  read_less note [] h = tt
  read_less note (Told.Pinned point length_now stripes ∷ told) h = (seen_less stripes h.0, parts_less (λ _. Unit {0}) (λ _. Unit {0}) (λ _ k. k) (parts_of g note length_now stripes) told (read_parts W g (read_start note) (read_end note length_now) stripes h.0) h.1)
  read_less note (_ ∷ told) h = tt

  write_less : (told : List Told) → WriteHeard g target P W D Q told → WriteHeard g target Less Wide Deep Quiet told
  write_less [] h = tt
  write_less (Told.Changed base newer ∷ told) h = write_less told h
  write_less (Told.Ready base length_now stripes ∷ told) h =
      (seen_less stripes h.0, parts_less (DrawHeard D Q (chunk_count g)) (DrawHeard Deep Quiet (chunk_count g)) (draw_less (chunk_count g)) (old_parts g length_now stripes) told (write_parts W g length_now stripes h.0) h.1)
  write_less (_ ∷ told) h = tt

  install_less : (seen : Seen) (told : List Told) → InstallHeard g target P W D Q seen told → InstallHeard g target Less Wide Deep Quiet seen told
  install_less seen [] h = tt
  install_less seen (Told.Current ∷ []) h = tt
  install_less seen (Told.Current ∷ Told.Placed epoch ∷ told) h = q target seen.version _ h
  install_less seen (Told.Current ∷ _ ∷ told) h = tt
  install_less seen (_ ∷ told) h = tt

  asked_less : (seen : Seen) (told : List Told) → W seen → ChunkAsked g target P W D Q seen told → ChunkAsked g target Less Wide Deep Quiet seen told
  asked_less seen told there h =
      record {
        going = h.going;
        lost = All-weaker (LostAt g P (λ _. Unit {0}) seen) (LostAt g Less (λ _. Unit {0}) seen) (λ found k. p seen there found.0 found.1 k) (found_missing (gather_chunk g seen target) [] told) h.lost;
      }

  chunk_less : (seen : Seen) (told : List Told) → W seen → ChunkHeard g target P W D Q seen told → ChunkHeard g target Less Wide Deep Quiet seen told
  chunk_less seen [] there h = asked_less seen [] there h
  chunk_less seen (Told.Gathered ∷ told) there h = install_less seen told h
  chunk_less seen (answer ∷ told) there h = asked_less seen (answer ∷ told) there h

  rebuild_less : (told : List Told) → RebuildHeard g target P W D Q told → RebuildHeard g target Less Wide Deep Quiet told
  rebuild_less [] h = tt
  rebuild_less (Told.PinnedStripe seen ∷ told) h = (w seen h.0, chunk_less seen told h.0 h.1)
  rebuild_less (_ ∷ told) h = tt

  -- of any call
  pub heard_less : (kind : Kind) (note : Note) (told : List Told) → HeardBy g target P W D Q kind note told → HeardBy g target Less Wide Deep Quiet kind note told
  heard_less Kind.Put note told h = put_less told h
  heard_less Kind.Write note told h = write_less told h
  heard_less Kind.Get note told h = read_less note told h
  heard_less Kind.ReadAt note told h = read_less note told h
  heard_less Kind.Rebuild note told h = rebuild_less told h
  heard_less _ note told h = tt

-- ---- before a look
ends_apart : (outcome : Outcome) (told : List Told) → IsLook (ending outcome told) → ⊥
ends_apart outcome [] h = h
ends_apart outcome (Told.Ended ∷ told) h = h
ends_apart outcome (Told.Reaped point ∷ told) h = h
ends_apart outcome (answer ∷ told) h = ends_apart Outcome.NoMemory told h

commits_apart : (placed : List (List Placement)) (told : List Told) → IsLook (committing placed told) → ⊥
commits_apart placed [] h = h
commits_apart placed (Told.Reaped point ∷ told) h = h
commits_apart placed (answer ∷ told) h = ends_apart Outcome.NoMemory told h

module _ (g : Shape) (stripe version : ℕ) (next : List Placement → List Told → Act) (apart : (row : List Placement) (told : List Told) → IsLook (next row told) → ⊥) where
  row_apart : (servers : List ℕ) (row : List Placement) (told : List Told) → IsLook (preparing g stripe version next servers row told) → ⊥
  row_apart [] row told h = apart row told h
  row_apart (server ∷ servers) row [] h = h
  row_apart (server ∷ servers) row (Told.Prepared placement ∷ told) h =
      cond_both {A = Act} (nat_lt g.parity_count (skipped_count now)) (ending (Outcome.Unavailable stripe (skipped_from 0 now)) told) (preparing g stripe version next servers now told)
      (λ a. IsLook a → ⊥) (λ _. ends_apart (Outcome.Unavailable stripe (skipped_from 0 now)) told) (λ _. row_apart servers now told) h
    where
      now : List Placement
      now = row ++ placement ∷ []
  row_apart (server ∷ servers) row (_ ∷ told) h = ends_apart Outcome.NoMemory told h

rows_apart : (g : Shape) (stripe : ℕ) (versions : List ℕ) (placed : List (List Placement)) (told : List Told) → IsLook (preparing_all g stripe versions placed told) → ⊥
rows_apart g stripe [] placed told h = commits_apart placed told h
rows_apart g stripe (version ∷ versions) placed told h =
    row_apart g stripe version (λ row. preparing_all g (stripe + 1) versions (placed ++ row ∷ [])) (λ row rest. rows_apart g (stripe + 1) versions (placed ++ row ∷ []) rest) (range_with_len 0 (chunk_count g)) [] told h

draws_apart : (g : Shape) (note : Note) (told : List Told) → IsLook (drawing g note told) → ⊥
draws_apart g note [] h = h
draws_apart g note (Told.Versions versions ∷ told) h = rows_apart g _ versions [] told h
draws_apart g note (Told.Reaped point ∷ told) h = h
draws_apart g note (_ ∷ told) h = ends_apart Outcome.NoMemory told h

acts_apart : (stripe : ℕ) (next : List Told → Act) → ((told : List Told) → IsLook (next told) → ⊥) → (gathered : Gathering) → IsLook (act_of stripe next gathered) → ⊥
acts_apart stripe next apart (Gathering.Asks server step) h = h
acts_apart stripe next apart (Gathering.HasBytes told) h = apart told h
acts_apart stripe next apart (Gathering.TooMany missing told) h = ends_apart (Outcome.Unavailable stripe missing) told h
acts_apart stripe next apart (Gathering.AtTarget told) h = ends_apart Outcome.Here told h
acts_apart stripe next apart (Gathering.TargetAway downs told) h = ends_apart (Outcome.Away downs) told h
acts_apart stripe next apart (Gathering.Short told) h = ends_apart Outcome.NoMemory told h

gathers_apart : (g : Shape) (parts : List Part) (next : List Told → Act) → ((told : List Told) → IsLook (next told) → ⊥) → (told : List Told) → IsLook (gathering g parts next told) → ⊥
gathers_apart g [] next apart told h = apart told h
gathers_apart g (part ∷ parts) next apart [] h = acts_apart part.seen.stripe (gathering g parts next) (gathers_apart g parts next apart) (gather_part g part []) h
gathers_apart g (part ∷ parts) next apart (Told.Gathered ∷ told) h = gathers_apart g parts next apart told h
gathers_apart g (part ∷ parts) next apart (answer ∷ told) h = acts_apart part.seen.stripe (gathering g parts next) (gathers_apart g parts next apart) (gather_part g part (answer ∷ told)) h

places_apart : (target epoch : ℕ) (told : List Told) → IsLook (placing target epoch told) → ⊥
places_apart target epoch [] h = h
places_apart target epoch (Told.Ended ∷ told) h = h
places_apart target epoch (Told.Reaped point ∷ told) h = h
places_apart target epoch (_ ∷ told) h = ends_apart Outcome.NoMemory told h

installs_apart : (seen : Seen) (target : ℕ) (told : List Told) → IsLook (installing seen target told) → ⊥
installs_apart seen target [] h = h
installs_apart seen target (Told.Placed epoch ∷ told) h = places_apart target epoch told h
installs_apart seen target (Told.AlreadyThere ∷ told) h = ends_apart Outcome.Here told h
installs_apart seen target (Told.Away downs ∷ told) h = ends_apart (Outcome.Away downs) told h
installs_apart seen target (_ ∷ told) h = ends_apart Outcome.NoMemory told h

confirms_apart : (seen : Seen) (target : ℕ) (told : List Told) → IsLook (confirming seen target told) → ⊥
confirms_apart seen target [] h = h
confirms_apart seen target (Told.Current ∷ told) h = installs_apart seen target told h
confirms_apart seen target (Told.Superseded newer ∷ told) h = h
confirms_apart seen target (Told.Reaped point ∷ told) h = h
confirms_apart seen target (_ ∷ told) h = ends_apart Outcome.NoMemory told h

chunks_apart : (g : Shape) (seen : Seen) (target : ℕ) (told : List Told) → IsLook (rebuilding g seen target told) → ⊥
chunks_apart g seen target [] h = acts_apart seen.stripe (confirming seen target) (confirms_apart seen target) (gather_chunk g seen target []) h
chunks_apart g seen target (Told.Gathered ∷ told) h = confirms_apart seen target told h
chunks_apart g seen target (answer ∷ told) h = acts_apart seen.stripe (confirming seen target) (confirms_apart seen target) (gather_chunk g seen target (answer ∷ told)) h

module _ (g : Shape) (target : ℕ) (P : Seen → ℕ → Found → Type 0) (W : Seen → Type 0) (D : ℕ → Type 0) (Q : ℕ → ℕ → Placement → Type 0) where
  put_looks : (note : Note) (told : List Told) → IsLook (next_put g note told) → PutHeard g target P W D Q told
  put_looks note [] h = tt
  put_looks note (Told.Ready base length_now stripes ∷ told) h = absurd (draws_apart g note told h)
  put_looks note (_ ∷ told) h = tt

  read_looks : (note : Note) (told : List Told) → IsLook (next_read g note told) → ReadHeard g target P W D Q note told
  read_looks note [] h = tt
  read_looks note (Told.Pinned point length_now stripes ∷ told) h =
      absurd (gathers_apart g (parts_of g note length_now stripes) (ending (Outcome.Served point)) (ends_apart (Outcome.Served point)) told h)
  read_looks note (_ ∷ told) h = tt

  write_looks : (tries : ℕ) (note : Note) (pairs : List (ℕ × ℕ)) (told : List Told) → IsLook (trying g tries note pairs told) → WriteHeard g target P W D Q told
  write_looks tries note pairs [] h = tt
  write_looks tries note pairs (Told.Changed base newer ∷ told) h = write_looks tries note (pairs ++ (base, newer) ∷ []) told h
  write_looks tries note pairs (Told.Ready base length_now stripes ∷ told) h = absurd (gathers_apart g (old_parts g length_now stripes) (drawing g note) (draws_apart g note) told h)
  write_looks tries note pairs (_ ∷ told) h = tt

  rebuild_looks : (note : Note) (told : List Told) → IsLook (next_rebuild g note target told) → RebuildHeard g target P W D Q told
  rebuild_looks note [] h = tt
  rebuild_looks note (Told.PinnedStripe seen ∷ told) h = absurd (chunks_apart g seen target told h)
  rebuild_looks note (_ ∷ told) h = tt

  -- of any call
  pub heard_at_look : (kind : Kind) (tries : ℕ) (note : Note) (told : List Told) → IsLook (next_by kind g tries (record { note = note; target = target }) told) → HeardBy g target P W D Q kind note told
  heard_at_look Kind.Put tries note told h = put_looks note told h
  heard_at_look Kind.Write tries note told h = write_looks tries note [] told h
  heard_at_look Kind.Get tries note told h = read_looks note told h
  heard_at_look Kind.ReadAt tries note told h = read_looks note told h
  heard_at_look Kind.Rebuild tries note told h = rebuild_looks note told h
  heard_at_look _ tries note told h = tt
