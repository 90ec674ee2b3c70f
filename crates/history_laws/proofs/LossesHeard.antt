-- What a call was told of placed and missing chunks, by its kind, and that one answer more keeps it.
use Rattle.std.proofs.Common.{◌≡◌, ℕ, List, [], ◌∷◌, ◌++◌, filter, map, All, refl, sym, subst, ◌∙◌}
use Rattle.std.proofs.lemmas.List.Elements.{All-nil, All-append}
use Rattle.clay_grid.specs.Shape.{Shape, chunk_count}
use Rattle.store_map.specs.declared.placement.Found.{Found}
use Rattle.store_map.specs.declared.placement.Placement.{Placement}
use Rattle.store_map.specs.declared.placement.Placement.TheVariants as placement
use Rattle.store_core.specs.Act.{Act, ServerStep, Outcome}
use Rattle.store_core.specs.Gathering.{Gathering, Part}
use Rattle.store_core.specs.GatheringParts.{ending, act_of, gathering, gather_part, gather_chunk}
use Rattle.store_core.specs.NextAct.{Job, next_by, next_act}
use Rattle.store_core.specs.Note.{Note, Kind}
use Rattle.store_core.specs.Put.{drawing, next_put}
use Rattle.store_core.specs.Read.{part_of, parts_of, read_start, read_end, next_read}
use Rattle.store_core.specs.Rebuild.{confirming, rebuilding, next_rebuild}
use Rattle.store_core.specs.Tell.{in_one, cut_parts, cut_read, cut_write, cut_chunk, cut_rebuild, cut_by, is_versions, is_changed, tell_by, tell}
use Rattle.store_core.specs.Told.{Told, Seen}
use Rattle.store_core.specs.Write.{old_parts, trying}
use Rattle.run_laws.specs.NamedServers.{found_missing}
use Rattle.run_laws.proofs.Grows.{JustEnded, Grows, chunk_grows}
use Rattle.history_laws.proofs.HeardLosses.{IsAskOf, AsksOf, part_asks_of, chunk_asks_of, found_more, here, NotDone, IsSaid, LostAt, PartsHeard, new_parts, said_lost, SaysOfParts, parts_told, Says as Telling}
use Rattle.history_laws.proofs.LossesRows.{Placing, DrawHeard, draw_more}

-- all of some stripes
abbrev pub AllSeen : (Seen → Type 0) → List Seen → Type 0
AllSeen W [] = Unit {0}
AllSeen W (seen ∷ stripes) = W seen × AllSeen W stripes

-- of some parts
abbrev pub AllParts : (Seen → Type 0) → List Part → Type 0
AllParts W [] = Unit {0}
AllParts W (part ∷ parts) = W part.seen × AllParts W parts

pub read_parts : (W : Seen → Type 0) (g : Shape) (start end : ℕ) (stripes : List Seen) → AllSeen W stripes → AllParts W (map (part_of g start end) stripes)
read_parts W g start end [] h = tt
read_parts W g start end (seen ∷ stripes) h = (h.0, read_parts W g start end stripes h.1)

pub write_parts : (W : Seen → Type 0) (g : Shape) (length_now : ℕ) (stripes : List Seen) → AllSeen W stripes → AllParts W (old_parts g length_now stripes)
write_parts W g length_now [] h = tt
write_parts W g length_now (seen ∷ stripes) h = (h.0, write_parts W g length_now stripes h.1)

-- P says that a chunk of a stripe that was looked at is lost, W that the stripe was looked at, D that there is a version, Q how a server took its chunk
module _ (g : Shape) (target : ℕ) (P : Seen → ℕ → Found → Type 0) (W : Seen → Type 0) (D : ℕ → Type 0) (Q : ℕ → ℕ → Placement → Type 0) where
  -- ---- what an answer to an act says
  abbrev pub Asking : Act → Told → Type 0
  Asking (Act.AtServer server step) (Told.Missing found) = (seen : Seen) → W seen → IsAskOf seen.version step → P seen server found
  Asking act answer = Unit {0}

  abbrev pub Installing : Act → Told → Type 0
  Installing (Act.AtServer server (ServerStep.Install version)) (Told.Placed epoch) = (seen : Seen) → W seen → seen.version ≡ version → Q server version (placement.At epoch)
  Installing act answer = Unit {0}

  abbrev pub Looking : Told → Type 0
  Looking (Told.Pinned point length_now stripes) = AllSeen W stripes
  Looking (Told.Ready base length_now stripes) = AllSeen W stripes
  Looking (Told.PinnedStripe seen) = W seen
  Looking answer = Unit {0}

  pub record Says (act : Act) (answer : Told) : Type 0 where
    pub said : IsSaid answer
    pub placing : Placing D Q act answer
    pub asking : Asking act answer
    pub installing : Installing act answer
    pub looking : Looking answer

  -- ---- by the kind of call
  abbrev pub PutHeard : List Told → Type 0
  PutHeard (Told.Ready base length_now stripes ∷ told) = DrawHeard D Q (chunk_count g) told
  PutHeard told = Unit {0}

  abbrev pub ReadHeard : Note → List Told → Type 0
  ReadHeard note (Told.Pinned point length_now stripes ∷ told) = AllSeen W stripes × PartsHeard g P (λ _. Unit {0}) (parts_of g note length_now stripes) told
  ReadHeard note told = Unit {0}

  abbrev pub WriteHeard : List Told → Type 0
  WriteHeard (Told.Changed base newer ∷ told) = WriteHeard told
  WriteHeard (Told.Ready base length_now stripes ∷ told) = AllSeen W stripes × PartsHeard g P (DrawHeard D Q (chunk_count g)) (old_parts g length_now stripes) told
  WriteHeard told = Unit {0}

  -- after the chunk was made
  abbrev pub InstallHeard : Seen → List Told → Type 0
  InstallHeard seen (Told.Current ∷ Told.Placed epoch ∷ told) = Q target seen.version (placement.At epoch)
  InstallHeard seen told = Unit {0}

  pub record ChunkAsked (seen : Seen) (told : List Told) : Type 0 where
    pub going : NotDone (gather_chunk g seen target told)
    pub lost : All (LostAt g P (λ _. Unit {0}) seen) (found_missing (gather_chunk g seen target) [] told)

  abbrev pub ChunkHeard : Seen → List Told → Type 0
  ChunkHeard seen (Told.Gathered ∷ told) = InstallHeard seen told
  ChunkHeard seen told = ChunkAsked seen told

  abbrev pub RebuildHeard : List Told → Type 0
  RebuildHeard (Told.PinnedStripe seen ∷ told) = W seen × ChunkHeard seen told
  RebuildHeard told = Unit {0}

  abbrev pub HeardBy : Kind → Note → List Told → Type 0
  HeardBy Kind.Put note told = PutHeard told
  HeardBy Kind.Write note told = WriteHeard told
  HeardBy Kind.Get note told = ReadHeard note told
  HeardBy Kind.ReadAt note told = ReadHeard note told
  HeardBy Kind.Rebuild note told = RebuildHeard told
  HeardBy _ note told = Unit {0}

  -- ---- one answer more, where it is asked for in a gathering
  asked : (seen : Seen) → W seen → (next : List Told → Act) (stripe : ℕ) (answer : Told) (gathered : Gathering) → AsksOf seen.version gathered → Asking (act_of stripe next gathered) answer
      → (R : List Told → Type 0) → Telling g P R seen gathered answer
  asked seen there next stripe (Told.Missing found) (Gathering.Asks server step) asks says R = says seen there asks
  asked seen there next stripe answer (Gathering.Asks server step) asks says R = tt
  asked seen there next stripe answer (Gathering.HasBytes rest) asks says R = tt
  asked seen there next stripe answer (Gathering.TooMany missing rest) asks says R = tt
  asked seen there next stripe answer (Gathering.AtTarget rest) asks says R = tt
  asked seen there next stripe answer (Gathering.TargetAway downs rest) asks says R = tt
  asked seen there next stripe answer (Gathering.Short rest) asks says R = tt

  module _ (R : List Told → Type 0) (next : List Told → Act) (answer : Told) (more : (rest : List Told) → Says (next rest) answer → R rest → R (rest ++ answer ∷ [])) where
    parts_say : (parts : List Part) (told : List Told) → AllParts W parts → Says (gathering g parts next told) answer → PartsHeard g P R parts told → SaysOfParts g P R parts told answer
    parts_say [] told there says heard = more told says heard
    parts_say (part ∷ parts) (Told.Gathered ∷ told) there says heard = parts_say parts told there.1 says heard
    parts_say (part ∷ parts) [] there says heard =
        asked part.seen there.0 (gathering g parts next) part.seen.stripe answer (gather_part g part []) (part_asks_of g part []) says.asking R
    parts_say (part ∷ parts) (first ∷ told) there says heard =
        asked part.seen there.0 (gathering g parts next) part.seen.stripe answer (gather_part g part (first ∷ told)) (part_asks_of g part (first ∷ told)) says.asking R

    parts_more : R [] → (parts : List Part) (told : List Told) → AllParts W parts → Says (gathering g parts next told) answer → PartsHeard g P R parts told → PartsHeard g P R parts (cut_parts g parts (told ++ answer ∷ []))
    parts_more none parts told there says heard = parts_told g P R none parts told answer says.said heard (parts_say parts told there says heard)

  put_more : (note : Note) (told : List Told) (answer : Told) → Says (next_put g note told) answer → PutHeard told → PutHeard (told ++ answer ∷ [])
  put_more note [] (Told.Ready base length_now stripes) says h = tt
  put_more note [] answer says h = tt
  put_more note (Told.Ready base length_now stripes ∷ told) answer says h = draw_more D Q g note told answer says.placing h
  put_more note (_ ∷ told) answer says h = tt

  read_more : (note : Note) (told : List Told) (answer : Told) → Says (next_read g note told) answer → ReadHeard note told → ReadHeard note (cut_read g note (told ++ answer ∷ []))
  read_more note [] (Told.Pinned point length_now stripes) says h = (says.looking, new_parts g P (λ _. Unit {0}) tt (parts_of g note length_now stripes))
  read_more note [] answer says h = tt
  read_more note (Told.Pinned point length_now stripes ∷ told) answer says h = (
    h.0,
    parts_more (λ _. Unit {0}) (ending (Outcome.Served point)) answer (λ rest _ _. tt) tt (parts_of g note length_now stripes) told
        (read_parts W g (read_start note) (read_end note length_now) stripes h.0) says h.1,
  )
  read_more note (_ ∷ told) answer says h = tt

  write_more : (tries : ℕ) (note : Note) (pairs : List (ℕ × ℕ)) (told : List Told) (answer : Told) → Says (trying g tries note pairs told) answer → WriteHeard told → WriteHeard (cut_write g (told ++ answer ∷ []))
  write_more tries note pairs [] (Told.Ready base length_now stripes) says h = (says.looking, new_parts g P (DrawHeard D Q (chunk_count g)) tt (old_parts g length_now stripes))
  write_more tries note pairs [] answer says h = tt
  write_more tries note pairs (Told.Changed base newer ∷ told) answer says h = write_more tries note (pairs ++ (base, newer) ∷ []) told answer says h
  write_more tries note pairs (Told.Ready base length_now stripes ∷ told) answer says h = (
    h.0,
    parts_more (DrawHeard D Q (chunk_count g)) (drawing g note) answer (λ rest k heard. draw_more D Q g note rest answer k.placing heard) tt (old_parts g length_now stripes) told
        (write_parts W g length_now stripes h.0) says h.1,
  )
  write_more tries note pairs (_ ∷ told) answer says h = tt

  -- ---- of a rebuild
  install_more : (seen : Seen) (told : List Told) (answer : Told) → W seen → Says (confirming seen target told) answer → InstallHeard seen told → InstallHeard seen (told ++ answer ∷ [])
  install_more seen [] Told.Current there says h = tt
  install_more seen [] answer there says h = tt
  install_more seen (Told.Current ∷ []) (Told.Placed epoch) there says h = says.installing seen there refl
  install_more seen (Told.Current ∷ []) answer there says h = tt
  install_more seen (Told.Current ∷ Told.Placed epoch ∷ told) answer there says h = h
  install_more seen (Told.Current ∷ _ ∷ told) answer there says h = tt
  install_more seen (_ ∷ told) answer there says h = tt

  abbrev NotGathered : List Told → Type 0
  NotGathered [] = Unit {0}
  NotGathered (answer ∷ told) = IsSaid answer

  into : (seen : Seen) (told : List Told) → NotGathered told → ChunkAsked seen told → ChunkHeard seen told
  into seen [] said h = h
  into seen (Told.Gathered ∷ told) said h = absurd said
  into seen (answer ∷ told) said h = h

  cut_so : (seen : Seen) (told : List Told) → NotGathered told → cut_chunk g seen target told ≡ in_one (λ rest. rest) (gather_chunk g seen target told) told
  cut_so seen [] said = refl
  cut_so seen (Told.Gathered ∷ told) said = absurd said
  cut_so seen (answer ∷ told) said = refl

  still_said : (told : List Told) (answer : Told) → IsSaid answer → NotGathered told → NotGathered (told ++ answer ∷ [])
  still_said [] answer said h = said
  still_said (first ∷ told) answer said h = h

  asked_more : (seen : Seen) (told : List Told) (answer : Told) → W seen → NotGathered told → Says (act_of seen.stripe (confirming seen target) (gather_chunk g seen target told)) answer → ChunkAsked seen told
      → ChunkHeard seen (cut_chunk g seen target (told ++ answer ∷ []))
  asked_more seen told answer there said says heard =
      subst (ChunkHeard seen) (sym (cut_so seen (told ++ answer ∷ []) later)) (by (gather_chunk g seen target (told ++ answer ∷ [])) refl grown)
    where
      later : NotGathered (told ++ answer ∷ [])
      later = still_said told answer says.said said

      lost_now : All (LostAt g P (λ _. Unit {0}) seen) (found_missing (gather_chunk g seen target) [] (told ++ answer ∷ []))
      lost_now =
          subst (All (LostAt g P (λ _. Unit {0}) seen)) (sym (found_more (gather_chunk g seen target) [] told answer))
          (All-append (LostAt g P (λ _. Unit {0}) seen) (found_missing (gather_chunk g seen target) [] told) (here (gather_chunk g seen target) told answer) heard.lost
          (said_lost g P (λ _. Unit {0}) seen (gather_chunk g seen target) told answer
          (asked seen there (confirming seen target) seen.stripe answer (gather_chunk g seen target told) (chunk_asks_of g seen target told) says.asking (λ _. Unit {0}))))

      ended_so : (r after : Gathering) → NotDone r → Grows answer r after → (rest : List Told) → after ≡ Gathering.HasBytes rest → rest ≡ []
      ended_so (Gathering.Asks server step) after going grows rest e = subst JustEnded e grows
      ended_so (Gathering.HasBytes more) after going grows rest e = absurd going
      ended_so (Gathering.TooMany missing more) after going grows rest e = absurd (subst NotDone (sym grows ∙ e) tt)
      ended_so (Gathering.AtTarget more) after going grows rest e = absurd (subst NotDone (sym grows ∙ e) tt)
      ended_so (Gathering.TargetAway downs more) after going grows rest e = absurd (subst NotDone (sym grows ∙ e) tt)
      ended_so (Gathering.Short more) after going grows rest e = absurd (subst NotDone (sym grows ∙ e) tt)

      grown : (rest : List Told) → gather_chunk g seen target (told ++ answer ∷ []) ≡ Gathering.HasBytes rest → rest ≡ []
      grown rest e = ended_so (gather_chunk g seen target told) (gather_chunk g seen target (told ++ answer ∷ [])) heard.going (chunk_grows g seen target told answer) rest e

      goes_on : (r : Gathering) → gather_chunk g seen target (told ++ answer ∷ []) ≡ r → NotDone r → ChunkHeard seen (told ++ answer ∷ [])
      goes_on r e going = into seen (told ++ answer ∷ []) later (record { going = subst NotDone (sym e) going; lost = lost_now })

      by : (r : Gathering) → gather_chunk g seen target (told ++ answer ∷ []) ≡ r → ((rest : List Told) → gather_chunk g seen target (told ++ answer ∷ []) ≡ Gathering.HasBytes rest → rest ≡ [])
          → ChunkHeard seen (in_one (λ rest. rest) r (told ++ answer ∷ []))
      by (Gathering.HasBytes rest) e grow = subst (InstallHeard seen) (sym (grow rest e)) tt
      by (Gathering.Asks server step) e grow = goes_on (Gathering.Asks server step) e tt
      by (Gathering.TooMany missing rest) e grow = goes_on (Gathering.TooMany missing rest) e tt
      by (Gathering.AtTarget rest) e grow = goes_on (Gathering.AtTarget rest) e tt
      by (Gathering.TargetAway downs rest) e grow = goes_on (Gathering.TargetAway downs rest) e tt
      by (Gathering.Short rest) e grow = goes_on (Gathering.Short rest) e tt

  chunk_more : (seen : Seen) (told : List Told) (answer : Told) → W seen → Says (rebuilding g seen target told) answer → ChunkHeard seen told → ChunkHeard seen (cut_chunk g seen target (told ++ answer ∷ []))
  chunk_more seen [] answer there says h = asked_more seen [] answer there tt says h
  chunk_more seen (Told.Gathered ∷ told) answer there says h = install_more seen told answer there says h
  chunk_more seen (first ∷ told) answer there says h = asked_more seen (first ∷ told) answer there tt says h

  rebuild_more : (note : Note) (told : List Told) (answer : Told) → Says (next_rebuild g note target told) answer → RebuildHeard told → RebuildHeard (cut_rebuild g target (told ++ answer ∷ []))
  rebuild_more note [] (Told.PinnedStripe seen) says h = (says.looking, record { going = tt; lost = All-nil (LostAt g P (λ _. Unit {0}) seen) })
  rebuild_more note [] answer says h = tt
  rebuild_more note (Told.PinnedStripe seen ∷ told) answer says h = (h.0, chunk_more seen told answer h.0 says h.1)
  rebuild_more note (_ ∷ told) answer says h = tt

  -- ---- of any call
  cut_more : (kind : Kind) (tries : ℕ) (note : Note) (told : List Told) (answer : Told) → Says (next_by kind g tries (record { note = note; target = target }) told) answer → HeardBy kind note told
      → HeardBy kind note (cut_by kind g (record { note = note; target = target }) (told ++ answer ∷ []))
  cut_more Kind.Put tries note told answer says h = put_more note told answer says h
  cut_more Kind.Write tries note told answer says h = write_more tries note [] told answer says h
  cut_more Kind.Get tries note told answer says h = read_more note told answer says h
  cut_more Kind.ReadAt tries note told answer says h = read_more note told answer says h
  cut_more Kind.Rebuild tries note told answer says h = rebuild_more note told answer says h
  cut_more _ tries note told answer says h = tt

  -- after a commit or a change
  put_done : (point : ℕ) (told : List Told) → PutHeard (filter is_versions told ++ Told.Done point ∷ [])
  put_done point [] = tt
  put_done point (Told.Versions versions ∷ told) = tt
  put_done point (_ ∷ told) = put_done point told

  write_done : (point : ℕ) (told : List Told) → WriteHeard (filter is_versions told ++ Told.Done point ∷ [])
  write_done point [] = tt
  write_done point (Told.Versions versions ∷ told) = tt
  write_done point (_ ∷ told) = write_done point told

  read_done : (point : ℕ) (note : Note) (told : List Told) → ReadHeard note (filter is_versions told ++ Told.Done point ∷ [])
  read_done point note [] = tt
  read_done point note (Told.Versions versions ∷ told) = tt
  read_done point note (_ ∷ told) = read_done point note told

  rebuild_done : (point : ℕ) (told : List Told) → RebuildHeard (filter is_versions told ++ Told.Done point ∷ [])
  rebuild_done point [] = tt
  rebuild_done point (Told.Versions versions ∷ told) = tt
  rebuild_done point (_ ∷ told) = rebuild_done point told

  put_changed : (base newer : ℕ) (told : List Told) → PutHeard (filter is_changed told ++ Told.Changed base newer ∷ [])
  put_changed base newer [] = tt
  put_changed base newer (Told.Changed b n ∷ told) = tt
  put_changed base newer (_ ∷ told) = put_changed base newer told

  write_changed : (base newer : ℕ) (told : List Told) → WriteHeard (filter is_changed told ++ Told.Changed base newer ∷ [])
  write_changed base newer [] = tt
  write_changed base newer (Told.Changed b n ∷ told) = write_changed base newer told
  write_changed base newer (_ ∷ told) = write_changed base newer told

  read_changed : (base newer : ℕ) (note : Note) (told : List Told) → ReadHeard note (filter is_changed told ++ Told.Changed base newer ∷ [])
  read_changed base newer note [] = tt
  read_changed base newer note (Told.Changed b n ∷ told) = tt
  read_changed base newer note (_ ∷ told) = read_changed base newer note told

  rebuild_changed : (base newer : ℕ) (told : List Told) → RebuildHeard (filter is_changed told ++ Told.Changed base newer ∷ [])
  rebuild_changed base newer [] = tt
  rebuild_changed base newer (Told.Changed b n ∷ told) = tt
  rebuild_changed base newer (_ ∷ told) = rebuild_changed base newer told

  done_heard : (kind : Kind) (note : Note) (point : ℕ) (told : List Told) → HeardBy kind note (filter is_versions told ++ Told.Done point ∷ [])
  done_heard Kind.Put note point told = put_done point told
  done_heard Kind.Write note point told = write_done point told
  done_heard Kind.Get note point told = read_done point note told
  done_heard Kind.ReadAt note point told = read_done point note told
  done_heard Kind.Rebuild note point told = rebuild_done point told
  done_heard _ note point told = tt

  changed_heard : (kind : Kind) (note : Note) (base newer : ℕ) (told : List Told) → HeardBy kind note (filter is_changed told ++ Told.Changed base newer ∷ [])
  changed_heard Kind.Put note base newer told = put_changed base newer told
  changed_heard Kind.Write note base newer told = write_changed base newer told
  changed_heard Kind.Get note base newer told = read_changed base newer note told
  changed_heard Kind.ReadAt note base newer told = read_changed base newer note told
  changed_heard Kind.Rebuild note base newer told = rebuild_changed base newer told
  changed_heard _ note base newer told = tt

  tell_kind : (kind : Kind) (tries : ℕ) (note : Note) (told : List Told) (answer : Told) → Says (next_by kind g tries (record { note = note; target = target }) told) answer → HeardBy kind note told
      → HeardBy kind note (tell_by kind g (record { note = note; target = target }) told answer)
  tell_kind kind tries note told (Told.Done point) says h = done_heard kind note point told
  tell_kind kind tries note told (Told.Changed base newer) says h = changed_heard kind note base newer told
  tell_kind kind tries note told answer says h = cut_more kind tries note told answer says h

-- one answer more to a call
pub heard_more : (g : Shape) (tries : ℕ) (job : Job) (P : Seen → ℕ → Found → Type 0) (W : Seen → Type 0) (D : ℕ → Type 0) (Q : ℕ → ℕ → Placement → Type 0) (told : List Told) (answer : Told)
    → Says g job.target P W D Q (next_act g tries job told) answer → HeardBy g job.target P W D Q job.note.kind job.note told → HeardBy g job.target P W D Q job.note.kind job.note (tell g job told answer)
heard_more g tries job P W D Q told answer says h = tell_kind g job.target P W D Q job.note.kind tries job.note told answer says h
