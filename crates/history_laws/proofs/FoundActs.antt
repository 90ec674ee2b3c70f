-- By the kind of call: the servers that a refusal as unavailable names.
use Rattle.std.proofs.Common.{◌≡◌, ℕ, zero, suc, ◌+◌, ◌<◌, ◌≤◌, nat_lt, List, [], ◌∷◌, ◌++◌, length, All, refl, sym, subst, arith, ◌⊎◌, inl, inr, length-append}
use Rattle.std.proofs.lemmas.Bool.{cond_both}
use Rattle.std.specs.List.{range_with_len}
use Rattle.clay_grid.specs.Shape.{Shape, chunk_count}
use Rattle.store_map.specs.declared.placement.Found.{Found}
use Rattle.store_map.specs.declared.placement.Placement.{Placement}
use Rattle.store_core.specs.Act.{Act, DirectoryStep, Outcome}
use Rattle.store_core.specs.Gathering.{Gathering, Part}
use Rattle.store_core.specs.GatheringParts.{ending, act_of, gathering, gather_part, gather_chunk}
use Rattle.store_core.specs.NextAct.{next_by}
use Rattle.store_core.specs.Note.{Note, Kind}
use Rattle.store_core.specs.Placements.{skipped_count, skipped_from}
use Rattle.store_core.specs.Put.{settling, committed, committing, preparing, preparing_all, drawing, next_put}
use Rattle.store_core.specs.Read.{parts_of, read_start, read_end, next_read, next_single}
use Rattle.store_core.specs.Rebuild.{placing, installing, confirming, rebuilding, next_rebuild}
use Rattle.store_core.specs.Told.{Told, Seen, Lost}
use Rattle.store_core.specs.Write.{old_parts, trying}
use Rattle.run_laws.specs.NamedServers.{found_missing, NamesTheAsked}
use Rattle.run_laws.proofs.Gatherings.{gatherings_end}
use Rattle.history_laws.proofs.FoundOutcomes.{front_found, named_all, Lacks, part_lacks}
use Rattle.history_laws.proofs.HeardLosses.{NotDone, PartHeard, PartsHeard}
use Rattle.history_laws.proofs.LossesHeard.{AllParts, read_parts, write_parts, PutHeard, ReadHeard, WriteHeard, ChunkAsked, ChunkHeard, RebuildHeard, HeardBy}
use Rattle.history_laws.proofs.LossesRows.{RowHeard, RowsHeard, DrawHeard, RowFrom, row_push}

module _ (g : Shape) (P : Seen → ℕ → Found → Type 0) (W : Seen → Type 0) (D : ℕ → Type 0) (Q : ℕ → ℕ → Placement → Type 0) where
  -- these servers were away when they were to keep a chunk
  pub record Skips (missing : List Lost) : Type 0 where
    pub version : ℕ
    pub row : List Placement
    pub took : RowFrom D Q version 0 row
    pub fits : length row ≤ chunk_count g
    pub is : missing ≡ skipped_from 0 row

  abbrev pub OutcomeLacks : Outcome → Type 0
  OutcomeLacks (Outcome.Unavailable stripe missing) = Lacks g P W stripe missing ⊎ Skips missing
  OutcomeLacks outcome = Unit {0}

  abbrev pub ActLacks : Act → Type 0
  ActLacks (Act.Finish outcome) = OutcomeLacks outcome
  ActLacks act = Unit {0}

  ends_lack : (outcome : Outcome) (told : List Told) → OutcomeLacks outcome → ActLacks (ending outcome told)
  ends_lack outcome [] h = tt
  ends_lack outcome (Told.Ended ∷ told) h = h
  ends_lack outcome (Told.Reaped point ∷ told) h = tt
  ends_lack outcome (answer ∷ told) h = ends_lack Outcome.NoMemory told tt

  -- ---- of puts and writes
  commits_lack : (placed : List (List Placement)) (told : List Told) → ActLacks (committing placed told)
  commits_lack placed [] = tt
  commits_lack placed (Told.Reaped point ∷ told) = tt
  commits_lack placed (answer ∷ told) = ends_lack Outcome.NoMemory told tt

  module _ (stripe version : ℕ) (next : List Told → Type 0) (act_next : List Placement → List Told → Act) (more : (whole : List Placement) (rest : List Told) → next rest → ActLacks (act_next whole rest)) where
    row_lacks : (k server : ℕ) (row : List Placement) (told : List Told) → server ≡ length row → server + k ≡ chunk_count g → RowFrom D Q version 0 row → RowHeard D Q version (range_with_len server k) next told
        → ActLacks (preparing g stripe version act_next (range_with_len server k) row told)
    row_lacks zero server row told at size good h = more row told h
    row_lacks (suc k) server row [] at size good h = tt
    row_lacks (suc k) server row (Told.Prepared placement ∷ told) at size good h =
        cond_both {A = Act} (nat_lt g.parity_count (skipped_count now)) (ending (Outcome.Unavailable stripe (skipped_from 0 now)) told) (preparing g stripe version act_next (range_with_len (server + 1) k) now told) ActLacks
        (λ _. ends_lack (Outcome.Unavailable stripe (skipped_from 0 now)) told
        (inr (record { version = version; row = row ++ placement ∷ []; took = grown; fits = (let e : length (row ++ placement ∷ []) ≡ length row + 1 = length-append row (placement ∷ []) in omega (arith, at, size, e)); is = refl })))
        (λ _. row_lacks k (server + 1) now told (let e : length (row ++ placement ∷ []) ≡ length row + 1 = length-append row (placement ∷ []) in omega (arith, at, e)) (omega (arith, size)) grown h.1)
      where
        now : List Placement
        now = row ++ placement ∷ []

        grown : RowFrom D Q version 0 (row ++ placement ∷ [])
        grown = row_push D Q version 0 row placement good (let e : server ≡ 0 + length row = omega (arith, at) in subst (λ s. Q s version placement) e h.0)
    row_lacks (suc k) server row (_ ∷ told) at size good h = ends_lack Outcome.NoMemory told tt

  rows_lack : (stripe : ℕ) (versions : List ℕ) (placed : List (List Placement)) (told : List Told) → RowsHeard D Q (chunk_count g) versions told → ActLacks (preparing_all g stripe versions placed told)
  rows_lack stripe [] placed told h = commits_lack placed told
  rows_lack stripe (version ∷ versions) placed told h =
      row_lacks stripe version (RowsHeard D Q (chunk_count g) versions) (λ row. preparing_all g (stripe + 1) versions (placed ++ row ∷ []))
      (λ whole rest heard. rows_lack (stripe + 1) versions (placed ++ whole ∷ []) rest heard) (chunk_count g) 0 [] told refl (omega arith) tt h

  draws_lack : (note : Note) (told : List Told) → DrawHeard D Q (chunk_count g) told → ActLacks (drawing g note told)
  draws_lack note [] h = tt
  draws_lack note (Told.Versions versions ∷ told) h = rows_lack _ versions [] told h.1
  draws_lack note (Told.Reaped point ∷ told) h = tt
  draws_lack note (_ ∷ told) h = ends_lack Outcome.NoMemory told tt

  settles_lack : (point : ℕ) (places : List (ℕ × ℕ)) (told : List Told) → ActLacks (settling point places told)
  settles_lack point [] told = tt
  settles_lack point (place ∷ places) [] = tt
  settles_lack point (place ∷ places) (_ ∷ told) = settles_lack point places told

  committed_lack : (versions : List ℕ) (told : List Told) → ActLacks (committed g versions told)
  committed_lack versions [] = tt
  committed_lack versions (Told.Done point ∷ told) = settles_lack point _ told
  committed_lack versions (_ ∷ told) = tt

  -- ---- of gatherings
  module _ (R : List Told → Type 0) (next : List Told → Act) (more : (told : List Told) → R told → ActLacks (next told)) where
    part_acts : (part : Part) (follows : List Told → Act) (told : List Told) → W part.seen → PartHeard g P R part told → ActLacks (act_of part.seen.stripe follows (gather_part g part told))
    part_acts part follows told there heard = by (gather_part g part told) refl
      where
        by : (r : Gathering) → gather_part g part told ≡ r → ActLacks (act_of part.seen.stripe follows r)
        by (Gathering.Asks server step) e = tt
        by (Gathering.HasBytes rest) e = absurd (subst NotDone e heard.going)
        by (Gathering.TooMany missing rest) e = ends_lack (Outcome.Unavailable part.seen.stripe missing) rest (inl (part_lacks g P W R part told rest missing there heard e))
        by (Gathering.AtTarget rest) e = ends_lack Outcome.Here rest tt
        by (Gathering.TargetAway downs rest) e = ends_lack (Outcome.Away downs) rest tt
        by (Gathering.Short rest) e = ends_lack Outcome.NoMemory rest tt

    parts_lack : (parts : List Part) (told : List Told) → AllParts W parts → PartsHeard g P R parts told → ActLacks (gathering g parts next told)
    parts_lack [] told there h = more told h
    parts_lack (part ∷ parts) [] there h = part_acts part (gathering g parts next) [] there.0 h
    parts_lack (part ∷ parts) (Told.Gathered ∷ told) there h = parts_lack parts told there.1 h
    parts_lack (part ∷ parts) (answer ∷ told) there h = part_acts part (gathering g parts next) (answer ∷ told) there.0 h

  module _ (target : ℕ) where
    put_lacks : (note : Note) (told : List Told) → PutHeard g target P W D Q told → ActLacks (next_put g note told)
    put_lacks note [] h = tt
    put_lacks note (Told.Answer point answer ∷ told) h = tt
    put_lacks note (Told.Ready base length_now stripes ∷ told) h = draws_lack note told h
    put_lacks note (Told.Versions versions ∷ told) h = committed_lack versions told
    put_lacks note (_ ∷ told) h = tt

    read_lacks : (note : Note) (told : List Told) → ReadHeard g target P W D Q note told → ActLacks (next_read g note told)
    read_lacks note [] h = tt
    read_lacks note (Told.Answer point answer ∷ told) h = tt
    read_lacks note (Told.Pinned point length_now stripes ∷ told) h =
        parts_lack (λ _. Unit {0}) (ending (Outcome.Served point)) (λ rest _. ends_lack (Outcome.Served point) rest tt) (parts_of g note length_now stripes) told (read_parts W g (read_start note) (read_end note length_now) stripes h.0) h.1
    read_lacks note (_ ∷ told) h = tt

    tries_lack : (tries : ℕ) (note : Note) (pairs : List (ℕ × ℕ)) → ActLacks (trying g tries note pairs [])
    tries_lack tries note pairs = cond_both {A = Act} (nat_lt (length pairs) tries) (Act.AtDirectory (DirectoryStep.Look note)) (Act.Finish (Outcome.Contended pairs)) ActLacks (λ _. tt) (λ _. tt)

    write_lacks : (tries : ℕ) (note : Note) (pairs : List (ℕ × ℕ)) (told : List Told) → WriteHeard g target P W D Q told → ActLacks (trying g tries note pairs told)
    write_lacks tries note pairs [] h = tries_lack tries note pairs
    write_lacks tries note pairs (Told.Changed base newer ∷ told) h = write_lacks tries note (pairs ++ (base, newer) ∷ []) told h
    write_lacks tries note pairs (Told.Answer point answer ∷ told) h = tt
    write_lacks tries note pairs (Told.Ready base length_now stripes ∷ told) h =
        parts_lack (DrawHeard D Q (chunk_count g)) (drawing g note) (draws_lack note) (old_parts g length_now stripes) told (write_parts W g length_now stripes h.0) h.1
    write_lacks tries note pairs (Told.Versions versions ∷ told) h = committed_lack versions told
    write_lacks tries note pairs (_ ∷ told) h = tt

    single_lacks : (note : Note) (told : List Told) → ActLacks (next_single note told)
    single_lacks note [] = tt
    single_lacks note (Told.Answer point answer ∷ told) = tt
    single_lacks note (_ ∷ told) = tt

    -- ---- of a rebuild
    placing_lacks : (epoch : ℕ) (told : List Told) → ActLacks (placing target epoch told)
    placing_lacks epoch [] = tt
    placing_lacks epoch (Told.Ended ∷ told) = tt
    placing_lacks epoch (Told.Reaped point ∷ told) = tt
    placing_lacks epoch (_ ∷ told) = ends_lack Outcome.NoMemory told tt

    installing_lacks : (seen : Seen) (told : List Told) → ActLacks (installing seen target told)
    installing_lacks seen [] = tt
    installing_lacks seen (Told.Placed epoch ∷ told) = placing_lacks epoch told
    installing_lacks seen (Told.AlreadyThere ∷ told) = ends_lack Outcome.Here told tt
    installing_lacks seen (Told.Away downs ∷ told) = ends_lack (Outcome.Away downs) told tt
    installing_lacks seen (_ ∷ told) = ends_lack Outcome.NoMemory told tt

    confirming_lacks : (seen : Seen) (told : List Told) → ActLacks (confirming seen target told)
    confirming_lacks seen [] = tt
    confirming_lacks seen (Told.Current ∷ told) = installing_lacks seen told
    confirming_lacks seen (Told.Superseded newer ∷ told) = tt
    confirming_lacks seen (Told.Reaped point ∷ told) = tt
    confirming_lacks seen (_ ∷ told) = ends_lack Outcome.NoMemory told tt

    asked_lacks : target < chunk_count g → (seen : Seen) (told : List Told) → W seen → ChunkAsked g target P W D Q seen told → ActLacks (act_of seen.stripe (confirming seen target) (gather_chunk g seen target told))
    asked_lacks low seen told there heard = by (gather_chunk g seen target told) refl
      where
        by : (r : Gathering) → gather_chunk g seen target told ≡ r → ActLacks (act_of seen.stripe (confirming seen target) r)
        by (Gathering.Asks server step) e = tt
        by (Gathering.HasBytes rest) e = absurd (subst NotDone e heard.going)
        by (Gathering.TooMany missing rest) e = ends_lack (Outcome.Unavailable seen.stripe missing) rest (inl (lacks missing rest e))
          where
            lacks : (missing : List Lost) (rest : List Told) → gather_chunk g seen target told ≡ Gathering.TooMany missing rest → Lacks g P W seen.stripe missing
            lacks missing rest e =
                let names : NamesTheAsked (gather_chunk g seen target) told rest missing = gatherings_end.chunk_asked g seen target told rest missing e in
                record {
                  seen = seen;
                  looked = there;
                  of_stripe = refl;
                  lost =
                      named_all (P seen) missing
                      (subst (All (λ (f : ℕ × Found). P seen f.0 f.1)) (sym names.named)
                      (front_found (λ (f : ℕ × Found). P seen f.0 f.1) (gather_chunk g seen target) [] names.front rest
                      (subst (λ (l : List Told). All (λ (f : ℕ × Found). P seen f.0 f.1) (found_missing (gather_chunk g seen target) [] l)) names.told_is heard.lost)));
                  apart = gatherings_end.chunk_apart g seen target told rest missing low e;
                }
        by (Gathering.AtTarget rest) e = ends_lack Outcome.Here rest tt
        by (Gathering.TargetAway downs rest) e = ends_lack (Outcome.Away downs) rest tt
        by (Gathering.Short rest) e = ends_lack Outcome.NoMemory rest tt

    chunk_lacks : target < chunk_count g → (seen : Seen) (told : List Told) → W seen → ChunkHeard g target P W D Q seen told → ActLacks (rebuilding g seen target told)
    chunk_lacks low seen [] there h = asked_lacks low seen [] there h
    chunk_lacks low seen (Told.Gathered ∷ told) there h = confirming_lacks seen told
    chunk_lacks low seen (answer ∷ told) there h = asked_lacks low seen (answer ∷ told) there h

    rebuild_lacks : target < chunk_count g → (note : Note) (told : List Told) → RebuildHeard g target P W D Q told → ActLacks (next_rebuild g note target told)
    rebuild_lacks low note [] h = tt
    rebuild_lacks low note (Told.NoSuch ∷ told) h = tt
    rebuild_lacks low note (Told.PinnedStripe seen ∷ told) h = chunk_lacks low seen told h.0 h.1
    rebuild_lacks low note (_ ∷ told) h = tt

  -- of any call
  pub act_lacks : (target : ℕ) (kind : Kind) → (kind ≡ Kind.Rebuild → target < chunk_count g) → (tries : ℕ) (note : Note) (told : List Told) → HeardBy g target P W D Q kind note told
      → ActLacks (next_by kind g tries (record { note = note; target = target }) told)
  act_lacks target Kind.Put low tries note told h = put_lacks target note told h
  act_lacks target Kind.Write low tries note told h = write_lacks target tries note [] told h
  act_lacks target Kind.Get low tries note told h = read_lacks target note told h
  act_lacks target Kind.ReadAt low tries note told h = read_lacks target note told h
  act_lacks target Kind.Stat low tries note told h = single_lacks target note told
  act_lacks target Kind.Delete low tries note told h = single_lacks target note told
  act_lacks target Kind.Rebuild low tries note told h = rebuild_lacks target (low refl) note told h
