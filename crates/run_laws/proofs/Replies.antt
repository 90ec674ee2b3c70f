-- Which acts only a look, the settles and a rebuild lead to.
use Rattle.std.proofs.Common.{◌≡◌, ℕ, nat_lt, List, [], ◌∷◌, ◌++◌, length, refl, ◌+◌, ◌/◌}
use Rattle.std.proofs.lemmas.Bool.{cond_both}
use Rattle.std.specs.List.{range_with_len}
use Rattle.store_core.specs.Placements.{skipped_from, skipped_count}
use Rattle.clay_grid.specs.Shape.{Shape, chunk_count, stripe_length}
use Rattle.store_map.specs.declared.placement.Placement.{Placement}
use Rattle.store_core.specs.Lists.{places_of}
use Rattle.store_core.specs.Told.{Told, Lost}
use Rattle.store_core.specs.Note.{Note, Kind}
use Rattle.store_core.specs.Act.{Act, DirectoryStep, ServerStep, Outcome}
use Rattle.store_core.specs.Gathering.{Gathering, Part}
use Rattle.store_core.specs.GatheringParts.{gather_part, ending, act_of, gathering}
use Rattle.store_core.specs.Put.{settling, committed, committing, preparing, preparing_all, drawing, next_put}
use Rattle.store_core.specs.Read.{parts_of, next_read, next_single}
use Rattle.store_core.specs.Write.{old_parts, trying}
use Rattle.store_core.specs.NextAct.{Job, next_by}
use Rattle.run_laws.proofs.Questions.{IsQuestion, AsksSo, part_so}

-- an answer of the map
abbrev pub IsReply : Act → Type 0
IsReply (Act.Finish (Outcome.Answered point given)) = Unit {0}
IsReply _ = ⊥

-- a rebuild's last steps
abbrev pub IsRepair : Act → Type 0
IsRepair (Act.AtServer server (ServerStep.Install version)) = Unit {0}
IsRepair (Act.AtDirectory (DirectoryStep.Repaired server epoch)) = Unit {0}
IsRepair _ = ⊥

-- acts of which a gathering, a draw, the prepares and an end make none
pub record IsRare (P : Act → Type 0) : Type 0 where
  pub ask : (server : ℕ) (step : ServerStep) → IsQuestion step → P (Act.AtServer server step) → ⊥
  pub prepare : (server version : ℕ) → P (Act.AtServer server (ServerStep.Prepare version)) → ⊥
  pub draw : P (Act.AtDirectory DirectoryStep.Draw) → ⊥
  pub commit : (placed : List (List Placement)) → P (Act.AtDirectory (DirectoryStep.Commit placed)) → ⊥
  pub end : P (Act.AtDirectory DirectoryStep.End) → ⊥
  pub reaped : (point : ℕ) → P (Act.Finish (Outcome.Reaped point)) → ⊥
  pub memory : P (Act.Finish Outcome.NoMemory) → ⊥
  pub unavailable : (stripe : ℕ) (missing : List Lost) → P (Act.Finish (Outcome.Unavailable stripe missing)) → ⊥
  pub here : P (Act.Finish Outcome.Here) → ⊥
  pub away : (downs : ℕ) → P (Act.Finish (Outcome.Away downs)) → ⊥

pub reply_rare : IsRare IsReply
reply_rare =
    record {
      ask = λ server step so h. h;
      prepare = λ server version h. h;
      draw = λ h. h;
      commit = λ placed h. h;
      end = λ h. h;
      reaped = λ point h. h;
      memory = λ h. h;
      unavailable = λ stripe missing h. h;
      here = λ h. h;
      away = λ downs h. h;
    }

no_repair : (server : ℕ) (step : ServerStep) → IsQuestion step → IsRepair (Act.AtServer server step) → ⊥
no_repair server (ServerStep.Install version) so h = so
no_repair server step so h = h

pub repair_rare : IsRare IsRepair
repair_rare =
    record {
      ask = no_repair;
      prepare = λ server version h. h;
      draw = λ h. h;
      commit = λ placed h. h;
      end = λ h. h;
      reaped = λ point h. h;
      memory = λ h. h;
      unavailable = λ stripe missing h. h;
      here = λ h. h;
      away = λ downs h. h;
    }

module _ (P : Act → Type 0) (rare : IsRare P) where
  pub ending_not : (outcome : Outcome) → (P (Act.Finish outcome) → ⊥) → (told : List Told) → P (ending outcome told) → ⊥
  ending_not outcome never [] h = rare.end h
  ending_not outcome never (Told.Ended ∷ told) h = never h
  ending_not outcome never (Told.Reaped point ∷ told) h = rare.reaped point h
  ending_not outcome never (_ ∷ told) h = ending_not Outcome.NoMemory rare.memory told h

  committing_not : (placed : List (List Placement)) (told : List Told) → P (committing placed told) → ⊥
  committing_not placed [] h = rare.commit placed h
  committing_not placed (Told.Reaped point ∷ told) h = rare.reaped point h
  committing_not placed (_ ∷ told) h = ending_not Outcome.NoMemory rare.memory told h

  module _ (g : Shape) where
    preparing_not : (stripe version : ℕ) (next : List Placement → List Told → Act) → ((row : List Placement) (told : List Told) → P (next row told) → ⊥)
        → (servers : List ℕ) (row : List Placement) (told : List Told) → P (preparing g stripe version next servers row told) → ⊥
    preparing_not stripe version next never [] row told h = never row told h
    preparing_not stripe version next never (server ∷ servers) row [] h = rare.prepare server version h
    preparing_not stripe version next never (server ∷ servers) row (Told.Prepared last ∷ told) h =
        let now : List Placement = row ++ last ∷ [] in
        let missing : List Lost = skipped_from 0 now in
        cond_both {A = Act} (nat_lt g.parity_count (skipped_count now)) (ending (Outcome.Unavailable stripe missing) told) (preparing g stripe version next servers now told) (λ act. P act → ⊥)
        (λ _. ending_not (Outcome.Unavailable stripe missing) (rare.unavailable stripe missing) told) (λ _. preparing_not stripe version next never servers now told) h
    preparing_not stripe version next never (server ∷ servers) row (_ ∷ told) h = ending_not Outcome.NoMemory rare.memory told h

    preparing_all_not : (stripe : ℕ) (versions : List ℕ) (placed : List (List Placement)) (told : List Told) → P (preparing_all g stripe versions placed told) → ⊥
    preparing_all_not stripe [] placed told h = committing_not placed told h
    preparing_all_not stripe (version ∷ versions) placed told h =
        preparing_not stripe version (λ row. preparing_all g (stripe + 1) versions (placed ++ row ∷ [])) (λ row. preparing_all_not (stripe + 1) versions (placed ++ row ∷ []))
        (range_with_len 0 (chunk_count g)) [] told h

    pub drawing_not : (note : Note) (told : List Told) → P (drawing g note told) → ⊥
    drawing_not note [] h = rare.draw h
    drawing_not note (Told.Versions versions ∷ told) h = preparing_all_not (note.offset / stripe_length g) versions [] told h
    drawing_not note (Told.Reaped point ∷ told) h = rare.reaped point h
    drawing_not note (_ ∷ told) h = ending_not Outcome.NoMemory rare.memory told h

    result_not : (stripe : ℕ) (next : List Told → Act) → ((told : List Told) → P (next told) → ⊥) → (result : Gathering) → AsksSo result → P (act_of stripe next result) → ⊥
    result_not stripe next never (Gathering.Asks server step) so h = rare.ask server step so h
    result_not stripe next never (Gathering.HasBytes told) so h = never told h
    result_not stripe next never (Gathering.TooMany missing told) so h = ending_not (Outcome.Unavailable stripe missing) (rare.unavailable stripe missing) told h
    result_not stripe next never (Gathering.AtTarget told) so h = ending_not Outcome.Here rare.here told h
    result_not stripe next never (Gathering.TargetAway downs told) so h = ending_not (Outcome.Away downs) (rare.away downs) told h
    result_not stripe next never (Gathering.Short told) so h = ending_not Outcome.NoMemory rare.memory told h

    pub gathering_not : (parts : List Part) (next : List Told → Act) → ((told : List Told) → P (next told) → ⊥) → (told : List Told) → P (gathering g parts next told) → ⊥
    gathering_not [] next never told h = never told h
    gathering_not (part ∷ parts) next never (Told.Gathered ∷ told) h = gathering_not parts next never told h
    gathering_not (part ∷ parts) next never told h =
        result_not part.seen.stripe (gathering g parts next) (gathering_not parts next never) (gather_part g part told) (part_so g part told) h

-- ---- only a rebuild makes a rebuild's last steps
pub settling_no_repair : (point : ℕ) (places : List (ℕ × ℕ)) (told : List Told) → IsRepair (settling point places told) → ⊥
settling_no_repair point [] told h = h
settling_no_repair point (place ∷ places) [] h = h
settling_no_repair point (place ∷ places) (_ ∷ told) h = settling_no_repair point places told h

module _ (g : Shape) where
  committed_no_repair : (versions : List ℕ) (told : List Told) → IsRepair (committed g versions told) → ⊥
  committed_no_repair versions (Told.Done point ∷ told) h = settling_no_repair point (places_of (chunk_count g) versions) told h
  committed_no_repair versions [] h = h
  committed_no_repair versions (_ ∷ told) h = h

  put_no_repair : (note : Note) (told : List Told) → IsRepair (next_put g note told) → ⊥
  put_no_repair note [] h = h
  put_no_repair note (Told.Answer point given ∷ told) h = h
  put_no_repair note (Told.Ready base length_now stripes ∷ told) h = drawing_not IsRepair repair_rare g note told h
  put_no_repair note (Told.Versions versions ∷ told) h = committed_no_repair versions told h
  put_no_repair note (_ ∷ told) h = h

  read_no_repair : (note : Note) (told : List Told) → IsRepair (next_read g note told) → ⊥
  read_no_repair note [] h = h
  read_no_repair note (Told.Answer point given ∷ told) h = h
  read_no_repair note (Told.Pinned point length_now stripes ∷ told) h =
      gathering_not IsRepair repair_rare g (parts_of g note length_now stripes) (ending (Outcome.Served point)) (ending_not IsRepair repair_rare (Outcome.Served point) (λ k. k)) told h
  read_no_repair note (_ ∷ told) h = h

  single_no_repair : (note : Note) (told : List Told) → IsRepair (next_single note told) → ⊥
  single_no_repair note [] h = h
  single_no_repair note (Told.Answer point given ∷ told) h = h
  single_no_repair note (_ ∷ told) h = h

  pub trying_no_repair : (tries : ℕ) (note : Note) (pairs : List (ℕ × ℕ)) (told : List Told) → IsRepair (trying g tries note pairs told) → ⊥
  trying_no_repair tries note pairs [] h =
      cond_both {A = Act} (nat_lt (length pairs) tries) (Act.AtDirectory (DirectoryStep.Look note)) (Act.Finish (Outcome.Contended pairs)) (λ act. IsRepair act → ⊥)
      (λ _ k. k) (λ _ k. k) h
  trying_no_repair tries note pairs (Told.Changed base newer ∷ told) h = trying_no_repair tries note (pairs ++ (base, newer) ∷ []) told h
  trying_no_repair tries note pairs (Told.Answer point given ∷ told) h = h
  trying_no_repair tries note pairs (Told.Ready base length_now stripes ∷ told) h =
      gathering_not IsRepair repair_rare g (old_parts g length_now stripes) (drawing g note) (drawing_not IsRepair repair_rare g note) told h
  trying_no_repair tries note pairs (Told.Versions versions ∷ told) h = committed_no_repair versions told h
  trying_no_repair tries note pairs (_ ∷ told) h = h

  -- a call of any other kind
  pub no_repair_by : (kind : Kind) → (kind ≡ Kind.Rebuild → ⊥) → (tries : ℕ) (job : Job) (told : List Told) → IsRepair (next_by kind g tries job told) → ⊥
  no_repair_by Kind.Put other tries job told h = put_no_repair job.note told h
  no_repair_by Kind.Write other tries job told h = trying_no_repair tries job.note [] told h
  no_repair_by Kind.Get other tries job told h = read_no_repair job.note told h
  no_repair_by Kind.ReadAt other tries job told h = read_no_repair job.note told h
  no_repair_by Kind.Stat other tries job told h = single_no_repair job.note told h
  no_repair_by Kind.Delete other tries job told h = single_no_repair job.note told h
  no_repair_by Kind.Rebuild other tries job told h = absurd (other refl)
