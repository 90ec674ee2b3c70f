-- Which version a call has placed at a server: one that it drew, or one that it looked at.
use Rattle.std.proofs.Common.{◌≡◌, ℕ, suc, ◌+◌, true, nat_lt, List, [], ◌∷◌, ◌++◌, length, Some, refl, ap, ◌∙◌}
use Rattle.std.proofs.lemmas.Bool.{cond_both}
use Rattle.std.specs.List.{slice_get, range_with_len}
use Rattle.clay_grid.specs.Shape.{Shape, chunk_count}
use Rattle.store_map.specs.declared.placement.Found.{Found}
use Rattle.store_map.specs.declared.placement.Placement.{Placement}
use Rattle.store_core.specs.Act.{Act, DirectoryStep, ServerStep, Outcome}
use Rattle.store_core.specs.Gathering.{Gathering, Part}
use Rattle.store_core.specs.GatheringParts.{ending, act_of, gathering, gather_part, gather_chunk}
use Rattle.store_core.specs.Lists.{is_among}
use Rattle.store_core.specs.NextAct.{next_by}
use Rattle.store_core.specs.Note.{Note, Kind}
use Rattle.store_core.specs.Placements.{skipped_count, skipped_from}
use Rattle.store_core.specs.Put.{settling, committed, committing, preparing, preparing_all, drawing, next_put}
use Rattle.store_core.specs.Read.{parts_of, next_read, next_single}
use Rattle.store_core.specs.Rebuild.{placing, installing, confirming, rebuilding, next_rebuild}
use Rattle.store_core.specs.Told.{Told, Seen}
use Rattle.store_core.specs.Write.{old_parts, trying}
use Rattle.run_laws.proofs.ToldVersions.{versions_told}
use Rattle.run_laws.proofs.SoundLists.{contains_at, among}
use Rattle.history_laws.proofs.HeardLosses.{NotDone, IsAskOf, AsksOf, part_asks_of, chunk_asks_of, PartsHeard}
use Rattle.history_laws.proofs.LossesHeard.{ReadHeard, WriteHeard, ChunkHeard, RebuildHeard, HeardBy}
use Rattle.history_laws.proofs.LossesRows.{DrawHeard}

module _ (W : Seen → Type 0) where
  -- the one draw that it was told of has the version; or it looked at it
  abbrev pub ActSays : List Told → Act → Type 0
  ActSays told (Act.AtServer server (ServerStep.Prepare version)) = (drawn : List ℕ) × (versions_told told ≡ Told.Versions drawn ∷ []) × (is_among version drawn ≡ true)
  ActSays told (Act.AtServer server (ServerStep.Install version)) = (seen : Seen) × W seen × (seen.version ≡ version)
  ActSays told act = Unit {0}

  -- of these versions, where no more were told
  abbrev From : List ℕ → List Told → Act → Type 0
  From all told (Act.AtServer server (ServerStep.Prepare version)) = (versions_told told ≡ []) × (is_among version all ≡ true)
  From all told (Act.AtServer server (ServerStep.Install version)) = ⊥
  From all told act = Unit {0}

  ends_say : (seen : List Told) (outcome : Outcome) (told : List Told) → ActSays seen (ending outcome told)
  ends_say seen outcome [] = tt
  ends_say seen outcome (Told.Ended ∷ told) = tt
  ends_say seen outcome (Told.Reaped point ∷ told) = tt
  ends_say seen outcome (answer ∷ told) = ends_say seen Outcome.NoMemory told

  ends_from : (all : List ℕ) (seen : List Told) (outcome : Outcome) (told : List Told) → From all seen (ending outcome told)
  ends_from all seen outcome [] = tt
  ends_from all seen outcome (Told.Ended ∷ told) = tt
  ends_from all seen outcome (Told.Reaped point ∷ told) = tt
  ends_from all seen outcome (answer ∷ told) = ends_from all seen Outcome.NoMemory told

  commits_from : (all : List ℕ) (placed : List (List Placement)) (told : List Told) → From all told (committing placed told)
  commits_from all placed [] = tt
  commits_from all placed (Told.Reaped point ∷ told) = tt
  commits_from all placed (answer ∷ told) = ends_from all (answer ∷ told) Outcome.NoMemory told

  module _ (g : Shape) (all : List ℕ) (stripe version : ℕ) (has : is_among version all ≡ true) (next : List Placement → List Told → Act) (more : (row : List Placement) (told : List Told) → From all told (next row told)) where
    row_from : (servers : List ℕ) (row : List Placement) (told : List Told) → From all told (preparing g stripe version next servers row told)
    row_from [] row told = more row told
    row_from (server ∷ servers) row [] = (refl, has)
    row_from (server ∷ servers) row (Told.Prepared placement ∷ told) =
        cond_both {A = Act} (nat_lt g.parity_count (skipped_count now)) (ending (Outcome.Unavailable stripe (skipped_from 0 now)) told) (preparing g stripe version next servers now told)
        (From all (Told.Prepared placement ∷ told)) (λ _. ends_from all (Told.Prepared placement ∷ told) (Outcome.Unavailable stripe (skipped_from 0 now)) told) (λ _. same (preparing g stripe version next servers now told) (row_from servers now told))
      where
        now : List Placement
        now = row ++ placement ∷ []

        same : (a : Act) → From all told a → From all (Told.Prepared placement ∷ told) a
        same (Act.AtServer server (ServerStep.Prepare version)) h = h
        same (Act.AtServer server (ServerStep.Install version)) h = h
        same (Act.AtServer server (ServerStep.Settle version)) h = tt
        same (Act.AtServer server (ServerStep.Has version)) h = tt
        same (Act.AtServer server (ServerStep.Fetch version layers)) h = tt
        same (Act.AtServer server (ServerStep.Discard version)) h = tt
        same (Act.AtServer server ServerStep.Wipe) h = tt
        same (Act.AtServer server ServerStep.Down) h = tt
        same (Act.AtServer server ServerStep.Up) h = tt
        same (Act.AtDirectory step) h = tt
        same (Act.Finish outcome) h = tt
    row_from (server ∷ servers) row (answer ∷ told) = ends_from all (answer ∷ told) Outcome.NoMemory told

  rows_from : (g : Shape) (all : List ℕ) (stripe : ℕ) (versions : List ℕ) → ((k v : ℕ) → slice_get versions k ≡ Some v → is_among v all ≡ true) → (placed : List (List Placement)) (told : List Told)
      → From all told (preparing_all g stripe versions placed told)
  rows_from g all stripe [] has placed told = commits_from all placed told
  rows_from g all stripe (version ∷ versions) has placed told =
      row_from g all stripe version (has 0 version refl) (λ row. preparing_all g (stripe + 1) versions (placed ++ row ∷ [])) (λ row rest. rows_from g all (stripe + 1) versions (λ k v e. has (suc k) v e) (placed ++ row ∷ []) rest)
      (range_with_len 0 (chunk_count g)) [] told

  by_versions : (versions : List ℕ) (told : List Told) (act : Act) → From versions told act → ActSays (Told.Versions versions ∷ told) act
  by_versions versions told (Act.AtServer server (ServerStep.Prepare version)) h = (versions, ap (λ l. Told.Versions versions ∷ l) h.0, h.1)
  by_versions versions told (Act.AtServer server (ServerStep.Install version)) h = absurd h
  by_versions versions told (Act.AtServer server (ServerStep.Settle version)) h = tt
  by_versions versions told (Act.AtServer server (ServerStep.Has version)) h = tt
  by_versions versions told (Act.AtServer server (ServerStep.Fetch version layers)) h = tt
  by_versions versions told (Act.AtServer server (ServerStep.Discard version)) h = tt
  by_versions versions told (Act.AtServer server ServerStep.Wipe) h = tt
  by_versions versions told (Act.AtServer server ServerStep.Down) h = tt
  by_versions versions told (Act.AtServer server ServerStep.Up) h = tt
  by_versions versions told (Act.AtDirectory step) h = tt
  by_versions versions told (Act.Finish outcome) h = tt

  draws_say : (g : Shape) (note : Note) (told : List Told) → ActSays told (drawing g note told)
  draws_say g note [] = tt
  draws_say g note (Told.Versions versions ∷ told) =
      by_versions versions told (drawing g note (Told.Versions versions ∷ told)) (rows_from g versions _ versions (λ k v e. among v versions (contains_at versions k v e)) [] told)
  draws_say g note (Told.Reaped point ∷ told) = tt
  draws_say g note (answer ∷ told) = ends_say (answer ∷ told) Outcome.NoMemory told

  settles_say : (seen : List Told) (point : ℕ) (places : List (ℕ × ℕ)) (told : List Told) → ActSays seen (settling point places told)
  settles_say seen point [] told = tt
  settles_say seen point (place ∷ places) [] = tt
  settles_say seen point (place ∷ places) (_ ∷ told) = settles_say seen point places told

  committed_say : (g : Shape) (seen : List Told) (versions : List ℕ) (told : List Told) → ActSays seen (committed g versions told)
  committed_say g seen versions [] = tt
  committed_say g seen versions (Told.Done point ∷ told) = settles_say seen point _ told
  committed_say g seen versions (_ ∷ told) = tt

  -- a gathering asks for chunks
  asks_say : (seen : List Told) (version server : ℕ) (step : ServerStep) → IsAskOf version step → ActSays seen (Act.AtServer server step)
  asks_say seen version server (ServerStep.Has other) h = tt
  asks_say seen version server (ServerStep.Fetch other layers) h = tt
  asks_say seen version server step h = absurd h

  gathers_say : (seen : List Told) (version stripe : ℕ) (next : List Told → Act) (gathered : Gathering) → AsksOf version gathered → NotDone gathered → ActSays seen (act_of stripe next gathered)
  gathers_say seen version stripe next (Gathering.Asks server step) asks going = asks_say seen version server step asks
  gathers_say seen version stripe next (Gathering.HasBytes rest) asks going = absurd going
  gathers_say seen version stripe next (Gathering.TooMany missing rest) asks going = ends_say seen (Outcome.Unavailable stripe missing) rest
  gathers_say seen version stripe next (Gathering.AtTarget rest) asks going = ends_say seen Outcome.Here rest
  gathers_say seen version stripe next (Gathering.TargetAway downs rest) asks going = ends_say seen (Outcome.Away downs) rest
  gathers_say seen version stripe next (Gathering.Short rest) asks going = ends_say seen Outcome.NoMemory rest

  -- more that is no draw before what was told
  before_it : (first : Told) (told : List Told) → ((rest : List Told) → versions_told (first ∷ rest) ≡ versions_told rest) → (act : Act) → ActSays told act → ActSays (first ∷ told) act
  before_it first told same (Act.AtServer server (ServerStep.Prepare version)) h = (h.0, same told ∙ h.1, h.2)
  before_it first told same (Act.AtServer server (ServerStep.Install version)) h = h
  before_it first told same (Act.AtServer server (ServerStep.Settle version)) h = tt
  before_it first told same (Act.AtServer server (ServerStep.Has version)) h = tt
  before_it first told same (Act.AtServer server (ServerStep.Fetch version layers)) h = tt
  before_it first told same (Act.AtServer server (ServerStep.Discard version)) h = tt
  before_it first told same (Act.AtServer server ServerStep.Wipe) h = tt
  before_it first told same (Act.AtServer server ServerStep.Down) h = tt
  before_it first told same (Act.AtServer server ServerStep.Up) h = tt
  before_it first told same (Act.AtDirectory step) h = tt
  before_it first told same (Act.Finish outcome) h = tt

  module _ (g : Shape) (target : ℕ) (P : Seen → ℕ → Found → Type 0) (D : ℕ → Type 0) (Q : ℕ → ℕ → Placement → Type 0) where
    parts_say : (R : List Told → Type 0) (next : List Told → Act) → ((told : List Told) → R told → ActSays told (next told)) → (parts : List Part) (told : List Told) → PartsHeard g P R parts told → ActSays told (gathering g parts next told)
    parts_say R next more [] told h = more told h
    parts_say R next more (part ∷ parts) [] h = gathers_say [] part.seen.version part.seen.stripe (gathering g parts next) (gather_part g part []) (part_asks_of g part []) h.going
    parts_say R next more (part ∷ parts) (Told.Gathered ∷ told) h = before_it Told.Gathered told (λ rest. refl) (gathering g parts next told) (parts_say R next more parts told h)
    parts_say R next more (part ∷ parts) (answer ∷ told) h =
        gathers_say (answer ∷ told) part.seen.version part.seen.stripe (gathering g parts next) (gather_part g part (answer ∷ told)) (part_asks_of g part (answer ∷ told)) h.going

    put_says : (note : Note) (told : List Told) → ActSays told (next_put g note told)
    put_says note [] = tt
    put_says note (Told.Answer point answer ∷ told) = tt
    put_says note (Told.Ready base length_now stripes ∷ told) = before_it (Told.Ready base length_now stripes) told (λ rest. refl) (drawing g note told) (draws_say g note told)
    put_says note (Told.Versions versions ∷ told) = committed_say g (Told.Versions versions ∷ told) versions told
    put_says note (_ ∷ told) = tt

    read_says : (note : Note) (told : List Told) → ReadHeard g target P W D Q note told → ActSays told (next_read g note told)
    read_says note [] h = tt
    read_says note (Told.Answer point answer ∷ told) h = tt
    read_says note (Told.Pinned point length_now stripes ∷ told) h =
        before_it (Told.Pinned point length_now stripes) told (λ rest. refl) (gathering g (parts_of g note length_now stripes) (ending (Outcome.Served point)) told)
        (parts_say (λ _. Unit {0}) (ending (Outcome.Served point)) (λ rest _. ends_say rest (Outcome.Served point) rest) (parts_of g note length_now stripes) told h.1)
    read_says note (_ ∷ told) h = tt

    tries_say : (tries : ℕ) (note : Note) (pairs : List (ℕ × ℕ)) (seen : List Told) → ActSays seen (trying g tries note pairs [])
    tries_say tries note pairs seen =
        cond_both {A = Act} (nat_lt (length pairs) tries) (Act.AtDirectory (DirectoryStep.Look note)) (Act.Finish (Outcome.Contended pairs)) (ActSays seen) (λ _. tt) (λ _. tt)

    write_says : (tries : ℕ) (note : Note) (pairs : List (ℕ × ℕ)) (told : List Told) → WriteHeard g target P W D Q told → ActSays told (trying g tries note pairs told)
    write_says tries note pairs [] h = tries_say tries note pairs []
    write_says tries note pairs (Told.Changed base newer ∷ told) h =
        before_it (Told.Changed base newer) told (λ rest. refl) (trying g tries note (pairs ++ (base, newer) ∷ []) told) (write_says tries note (pairs ++ (base, newer) ∷ []) told h)
    write_says tries note pairs (Told.Answer point answer ∷ told) h = tt
    write_says tries note pairs (Told.Ready base length_now stripes ∷ told) h =
        before_it (Told.Ready base length_now stripes) told (λ rest. refl) (gathering g (old_parts g length_now stripes) (drawing g note) told)
        (parts_say (DrawHeard D Q (chunk_count g)) (drawing g note) (λ rest _. draws_say g note rest) (old_parts g length_now stripes) told h.1)
    write_says tries note pairs (Told.Versions versions ∷ told) h = committed_say g (Told.Versions versions ∷ told) versions told
    write_says tries note pairs (_ ∷ told) h = tt

    single_says : (note : Note) (told : List Told) → ActSays told (next_single note told)
    single_says note [] = tt
    single_says note (Told.Answer point answer ∷ told) = tt
    single_says note (_ ∷ told) = tt

    -- ---- of a rebuild
    placing_says : (all : List Told) (epoch : ℕ) (told : List Told) → ActSays all (placing target epoch told)
    placing_says all epoch [] = tt
    placing_says all epoch (Told.Ended ∷ told) = tt
    placing_says all epoch (Told.Reaped point ∷ told) = tt
    placing_says all epoch (_ ∷ told) = ends_say all Outcome.NoMemory told

    installing_says : (all : List Told) (seen : Seen) (told : List Told) → W seen → ActSays all (installing seen target told)
    installing_says all seen [] w = (seen, w, refl)
    installing_says all seen (Told.Placed epoch ∷ told) w = placing_says all epoch told
    installing_says all seen (Told.AlreadyThere ∷ told) w = ends_say all Outcome.Here told
    installing_says all seen (Told.Away downs ∷ told) w = ends_say all (Outcome.Away downs) told
    installing_says all seen (_ ∷ told) w = ends_say all Outcome.NoMemory told

    confirming_says : (all : List Told) (seen : Seen) (told : List Told) → W seen → ActSays all (confirming seen target told)
    confirming_says all seen [] w = tt
    confirming_says all seen (Told.Current ∷ told) w = installing_says all seen told w
    confirming_says all seen (Told.Superseded newer ∷ told) w = tt
    confirming_says all seen (Told.Reaped point ∷ told) w = tt
    confirming_says all seen (_ ∷ told) w = ends_say all Outcome.NoMemory told

    chunk_says : (all : List Told) (seen : Seen) (told : List Told) → W seen → ChunkHeard g target P W D Q seen told → ActSays all (rebuilding g seen target told)
    chunk_says all seen [] w h = gathers_say all seen.version seen.stripe (confirming seen target) (gather_chunk g seen target []) (chunk_asks_of g seen target []) h.going
    chunk_says all seen (Told.Gathered ∷ told) w h = confirming_says all seen told w
    chunk_says all seen (answer ∷ told) w h = gathers_say all seen.version seen.stripe (confirming seen target) (gather_chunk g seen target (answer ∷ told)) (chunk_asks_of g seen target (answer ∷ told)) h.going

    rebuild_says : (note : Note) (told : List Told) → RebuildHeard g target P W D Q told → ActSays told (next_rebuild g note target told)
    rebuild_says note [] h = tt
    rebuild_says note (Told.NoSuch ∷ told) h = tt
    rebuild_says note (Told.PinnedStripe seen ∷ told) h = chunk_says (Told.PinnedStripe seen ∷ told) seen told h.0 h.1
    rebuild_says note (_ ∷ told) h = tt

    -- of any call
    pub act_says : (kind : Kind) (tries : ℕ) (note : Note) (told : List Told) → HeardBy g target P W D Q kind note told → ActSays told (next_by kind g tries (record { note = note; target = target }) told)
    act_says Kind.Put tries note told h = put_says note told
    act_says Kind.Write tries note told h = write_says tries note [] told h
    act_says Kind.Get tries note told h = read_says note told h
    act_says Kind.ReadAt tries note told h = read_says note told h
    act_says Kind.Stat tries note told h = single_says note told
    act_says Kind.Delete tries note told h = single_says note told
    act_says Kind.Rebuild tries note told h = rebuild_says note told h
