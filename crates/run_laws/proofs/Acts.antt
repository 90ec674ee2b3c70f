-- The act of a state is that of the list that leads to it.
use Rattle.std.proofs.Common.{◌≡◌, ℕ, ◌+◌, ◌/◌, Bool, true, false, cond, nat_lt, List, [], ◌∷◌, ◌++◌, length, fold, refl, sym, ap, ◌∙◌}
use Rattle.std.specs.List.{range_with_len}
use Rattle.clay_grid.specs.Shape.{Shape, chunk_count, stripe_length}
use Rattle.store_map.specs.declared.placement.Placement.{Placement}
use Rattle.store_core.specs.Lists.{places_of}
use Rattle.store_core.specs.Told.{Seen, Told}
use Rattle.store_core.specs.Placements.{skipped_from, skipped_count}
use Rattle.store_core.specs.Note.{Note, Kind}
use Rattle.store_core.specs.Act.{Act, Outcome}
use Rattle.store_core.specs.Gathering.{Gathering, Part}
use Rattle.store_core.specs.GatheringParts.{ending, act_of, gathering, gather_part, gather_chunk}
use Rattle.store_core.specs.Put.{settling, committed, committing, unless_too_few, preparing, preparing_all, drawing, next_put}
use Rattle.store_core.specs.Read.{parts_of, next_read, next_single}
use Rattle.store_core.specs.Write.{old_parts, trying}
use Rattle.store_core.specs.Rebuild.{placing, installing, confirming, rebuilding, next_rebuild}
use Rattle.store_core.specs.NextAct.{Job, next_by}
use Rattle.run_laws.specs.Stage.{Aim, seen_of, Asking, Stage}
use Rattle.run_laws.specs.Stages.{first_stage}
use Rattle.run_laws.specs.StageAfter.{stage_after}
use Rattle.run_laws.specs.ResumeGatherLaws.{comes_to}
use Rattle.run_laws.specs.State.{Sequel, State, CallState, first_state}
use Rattle.run_laws.specs.States.{sequel_state, parts_state, stage_state, prepare_all_state, settle_state}
use Rattle.run_laws.specs.WriteAfter.{committing_after, drawing_after, unless_few, prepare_rest_state, preparing_after, committed_after}
use Rattle.run_laws.specs.GatherAfter.{ending_after, confirming_after, installing_after, sequel_after, first_after, parts_after, chunk_after}
use Rattle.run_laws.specs.LookAfter.{single_after_look, rebuild_after_look, put_after_look, read_after_look, write_after_look, start_after}
use Rattle.run_laws.specs.CallAfter.{pairs_with, state_after, call_after, call_after_from, state_of}
use Rattle.run_laws.specs.StateActs.{sequel_act, stage_act, parts_act, start_act, act_at}
use Rattle.run_laws.specs.CallLaws.{ActsResume}
use Rattle.run_laws.proofs.ResumeGatherings.{gatherings_resume}

-- a call that has looked
abbrev pub IsLater : State → Type 0
IsLater State.Start = ⊥
IsLater at = Unit {0}

module _ (g : Shape) where
  -- what the definitions say after the last gathering
  abbrev pub sequel_next : Note → Sequel → List Told → Act
  sequel_next note (Sequel.Serve point) told = ending (Outcome.Served point) told
  sequel_next note Sequel.Draw told = drawing g note told
  sequel_next note (Sequel.Confirm seen target) told = confirming seen target told

  -- what they say of further answers at the look, by the changes that a write was told before
  abbrev pub resume_start : Kind → ℕ → Job → List (ℕ × ℕ) → List Told → Act
  resume_start Kind.Write tries job pairs told = trying g tries job.note pairs told
  resume_start kind tries job pairs told = next_by kind g tries job told

  -- from any state on
  abbrev pub resume : Kind → ℕ → Job → List (ℕ × ℕ) → State → List Told → Act
  resume kind tries job pairs State.Start told = resume_start kind tries job pairs told
  resume kind tries job pairs (State.Parts part parts after) told = gathering g (part ∷ parts) (sequel_next job.note after) told
  resume kind tries job pairs (State.Chunk seen target) told = rebuilding g seen target told
  resume kind tries job pairs (State.Gather aim asking parts after) told =
      act_of (seen_of aim).stripe (gathering g parts (sequel_next job.note after)) (comes_to g aim (Stage.Asks asking) told)
  resume kind tries job pairs State.Drawing told = drawing g job.note told
  resume kind tries job pairs (State.Preparing stripe version server servers row later placed versions) told =
      preparing g stripe version (λ whole. preparing_all g (stripe + 1) later (placed ++ whole ∷ [])) (server ∷ servers) row told
  resume kind tries job pairs (State.Committing versions placed) told = committing placed told
  resume kind tries job pairs (State.Committed versions) told = committed g versions told
  resume kind tries job pairs (State.Settling point place places) told = settling point (place ∷ places) told
  resume kind tries job pairs (State.Confirming seen target) told = confirming seen target told
  resume kind tries job pairs (State.Installing seen target) told = installing seen target told
  resume kind tries job pairs (State.Placing target epoch) told = placing target epoch told
  resume kind tries job pairs (State.Ending outcome) told = ending outcome told
  resume kind tries job pairs (State.Finished outcome) told = Act.Finish outcome

  module _ (kind : Kind) (tries : ℕ) (job : Job) (pairs : List (ℕ × ℕ)) where
    -- after the last gathering
    sequel_resumes : (after : Sequel) (told : List Told) → sequel_next job.note after told ≡ resume kind tries job pairs (sequel_state after) told
    sequel_resumes (Sequel.Serve point) told = refl
    sequel_resumes Sequel.Draw told = refl
    sequel_resumes (Sequel.Confirm seen target) told = refl

    -- at the parts that are gathered next
    pub next_resumes : (parts : List Part) (after : Sequel) (told : List Told)
        → gathering g parts (sequel_next job.note after) told ≡ resume kind tries job pairs (parts_state parts after) told
    next_resumes [] after told = sequel_resumes after told
    next_resumes (part ∷ parts) after told = refl

    -- at a stage of a gathering
    pub stage_resumes : (aim : Aim) (parts : List Part) (after : Sequel) (stage : Stage) (told : List Told)
        → act_of (seen_of aim).stripe (gathering g parts (sequel_next job.note after)) (comes_to g aim stage told)
        ≡ resume kind tries job pairs (stage_state (parts_state parts after) aim parts after stage) told
    stage_resumes aim parts after (Stage.Asks asking) told = refl
    stage_resumes aim parts after Stage.HasBytes told = next_resumes parts after told
    stage_resumes aim parts after (Stage.TooMany missing) told = refl
    stage_resumes aim parts after Stage.AtTarget told = refl
    stage_resumes aim parts after (Stage.TargetAway downs) told = refl
    stage_resumes aim parts after Stage.Short told = refl

    -- at the end of a pass
    ending_resumes : (outcome : Outcome) (answer : Told) (told : List Told)
        → ending outcome (answer ∷ told) ≡ resume kind tries job pairs (ending_after outcome answer) told
    ending_resumes outcome Told.Ended told = refl
    ending_resumes outcome (Told.Reaped point) told = refl
    ending_resumes outcome _ told = refl

    -- at the prepares of a version
    row_resumes : (stripe version : ℕ) (servers : List ℕ) (row : List Placement) (later : List ℕ) (placed : List (List Placement)) (versions : List ℕ) (told : List Told)
        → ((whole : List Placement) → preparing_all g (stripe + 1) later (placed ++ whole ∷ []) told ≡ resume kind tries job pairs (prepare_all_state g versions (stripe + 1) later (placed ++ whole ∷ [])) told)
        → preparing g stripe version (λ whole. preparing_all g (stripe + 1) later (placed ++ whole ∷ [])) servers row told
        ≡ resume kind tries job pairs (prepare_rest_state g stripe version servers row later placed versions) told
    row_resumes stripe version [] row later placed versions told follows = follows row
    row_resumes stripe version (server ∷ servers) row later placed versions told follows = refl

    -- at those of all versions
    prepare_resumes : (versions : List ℕ) (stripe : ℕ) (later : List ℕ) (placed : List (List Placement)) (told : List Told)
        → preparing_all g stripe later placed told ≡ resume kind tries job pairs (prepare_all_state g versions stripe later placed) told
    prepare_resumes versions stripe [] placed told = refl
    prepare_resumes versions stripe (version ∷ later) placed told =
        row_resumes stripe version (range_with_len 0 (chunk_count g)) [] later placed versions told (λ whole. prepare_resumes versions (stripe + 1) later (placed ++ whole ∷ []) told)

    -- where more servers were away than there may be
    few_resumes : (stripe : ℕ) (row : List Placement) (told : List Told) (act : Act) (at : State) → act ≡ resume kind tries job pairs at told
        → unless_too_few g stripe row told act ≡ resume kind tries job pairs (unless_few g stripe row at) told
    few_resumes stripe row told act at e = by (nat_lt g.parity_count (skipped_count row))
      where
        by : (b : Bool) → cond b (ending (Outcome.Unavailable stripe (skipped_from 0 row)) told) act
            ≡ resume kind tries job pairs (cond b (State.Ending (Outcome.Unavailable stripe (skipped_from 0 row))) at) told
        by true = refl
        by false = e

    -- at the settles
    settle_resumes : (point : ℕ) (places : List (ℕ × ℕ)) (told : List Told)
        → settling point places told ≡ resume kind tries job pairs (settle_state point places) told
    settle_resumes point [] told = refl
    settle_resumes point (place ∷ places) told = refl

    -- at the draw
    drawing_resumes : (answer : Told) (told : List Told) → drawing g job.note (answer ∷ told) ≡ resume kind tries job pairs (drawing_after g job.note answer) told
    drawing_resumes (Told.Versions versions) told = prepare_resumes versions (job.note.offset / stripe_length g) versions [] told
    drawing_resumes (Told.Reaped point) told = refl
    drawing_resumes _ told = refl

    -- at the confirm
    confirming_resumes : (seen : Seen) (target : ℕ) (answer : Told) (told : List Told)
        → confirming seen target (answer ∷ told) ≡ resume kind tries job pairs (confirming_after seen target answer) told
    confirming_resumes seen target Told.Current told = refl
    confirming_resumes seen target (Told.Superseded newer) told = refl
    confirming_resumes seen target (Told.Reaped point) told = refl
    confirming_resumes seen target _ told = refl

    -- at the install
    installing_resumes : (seen : Seen) (target : ℕ) (answer : Told) (told : List Told)
        → installing seen target (answer ∷ told) ≡ resume kind tries job pairs (installing_after target answer) told
    installing_resumes seen target (Told.Placed epoch) told = refl
    installing_resumes seen target Told.AlreadyThere told = refl
    installing_resumes seen target (Told.Away downs) told = refl
    installing_resumes seen target _ told = refl

    -- at the last step of a rebuild
    placing_resumes : (target epoch : ℕ) (answer : Told) (told : List Told)
        → placing target epoch (answer ∷ told) ≡ resume kind tries job pairs (ending_after Outcome.Rebuilt answer) told
    placing_resumes target epoch Told.Ended told = refl
    placing_resumes target epoch (Told.Reaped point) told = refl
    placing_resumes target epoch _ told = refl

    -- at a prepare
    preparing_resumes : (stripe version server : ℕ) (servers : List ℕ) (row : List Placement) (later : List ℕ) (placed : List (List Placement)) (versions : List ℕ) (answer : Told) (told : List Told)
        → preparing g stripe version (λ whole. preparing_all g (stripe + 1) later (placed ++ whole ∷ [])) (server ∷ servers) row (answer ∷ told)
        ≡ resume kind tries job pairs (preparing_after g stripe version servers row later placed versions answer) told
    preparing_resumes stripe version server servers row later placed versions (Told.Prepared placement) told =
        few_resumes stripe (row ++ placement ∷ []) told
        (preparing g stripe version (λ whole. preparing_all g (stripe + 1) later (placed ++ whole ∷ [])) servers (row ++ placement ∷ []) told)
        (prepare_rest_state g stripe version servers (row ++ placement ∷ []) later placed versions)
        (row_resumes stripe version servers (row ++ placement ∷ []) later placed versions told (λ whole. prepare_resumes versions (stripe + 1) later (placed ++ whole ∷ []) told))
    preparing_resumes stripe version server servers row later placed versions _ told = refl

    -- at the commit
    committing_resumes : (placed : List (List Placement)) (answer : Told) (told : List Told)
        → committing placed (answer ∷ told) ≡ resume kind tries job pairs (committing_after answer) told
    committing_resumes placed (Told.Reaped point) told = refl
    committing_resumes placed _ told = refl

    -- after what is kept of a commit
    committed_resumes : (versions : List ℕ) (answer : Told) (told : List Told)
        → committed g versions (answer ∷ told) ≡ resume kind tries job pairs (committed_after g versions answer) told
    committed_resumes versions (Told.Done point) told = settle_resumes point (places_of (chunk_count g) versions) told
    committed_resumes versions _ told = refl

    -- after one answer to what follows the last gathering
    after_resumes : (after : Sequel) (answer : Told) (told : List Told) → sequel_next job.note after (answer ∷ told) ≡ resume kind tries job pairs (sequel_after g job.note after answer) told
    after_resumes (Sequel.Serve point) answer told = ending_resumes (Outcome.Served point) answer told
    after_resumes Sequel.Draw answer told = drawing_resumes answer told
    after_resumes (Sequel.Confirm seen target) answer told = confirming_resumes seen target answer told

    -- after the first answer to a gathering
    first_resumes : (bytes : State) (aim : Aim) (parts : List Part) (after : Sequel) (stage : Stage) (answer : Told) (told : List Told)
        → gathering g parts (sequel_next job.note after) (answer ∷ told) ≡ resume kind tries job pairs bytes told
        → act_of (seen_of aim).stripe (gathering g parts (sequel_next job.note after)) (comes_to g aim stage (answer ∷ told))
        ≡ resume kind tries job pairs (first_after g bytes aim parts after stage answer) told
    first_resumes bytes aim parts after (Stage.Asks asking) answer told e = stage_resumes aim parts after (stage_after g aim asking answer) told
    first_resumes bytes aim parts after Stage.HasBytes answer told e = e
    first_resumes bytes aim parts after (Stage.TooMany missing) answer told e = ending_resumes (Outcome.Unavailable (seen_of aim).stripe missing) answer told
    first_resumes bytes aim parts after Stage.AtTarget answer told e = ending_resumes Outcome.Here answer told
    first_resumes bytes aim parts after (Stage.TargetAway downs) answer told e = ending_resumes (Outcome.Away downs) answer told
    first_resumes bytes aim parts after Stage.Short answer told e = ending_resumes Outcome.NoMemory answer told

    -- a part's gathering by the stage at which it begins
    by_stage : (part : Part) (parts : List Part) (after : Sequel) (answer : Told) (told : List Told)
        → gathering g parts (sequel_next job.note after) (answer ∷ told) ≡ resume kind tries job pairs (parts_after g job.note parts after answer) told
        → act_of part.seen.stripe (gathering g parts (sequel_next job.note after)) (gather_part g part (answer ∷ told))
        ≡ resume kind tries job pairs (first_after g (parts_after g job.note parts after answer) (Aim.Range part) parts after (first_stage g (Aim.Range part)) answer) told
    by_stage part parts after answer told e =
        ap (λ (result : Gathering). act_of part.seen.stripe (gathering g parts (sequel_next job.note after)) result) (sym (gatherings_resume g (Aim.Range part) (answer ∷ told)))
        ∙ first_resumes (parts_after g job.note parts after answer) (Aim.Range part) parts after (first_stage g (Aim.Range part)) answer told e

    -- to the gatherings of some parts
    parts_resume : (parts : List Part) (after : Sequel) (answer : Told) (told : List Told)
        → gathering g parts (sequel_next job.note after) (answer ∷ told) ≡ resume kind tries job pairs (parts_after g job.note parts after answer) told
    parts_resume [] after answer told = after_resumes after answer told
    parts_resume (part ∷ parts) after Told.Gathered told = next_resumes parts after told
    parts_resume (part ∷ parts) after answer told = by_stage part parts after answer told (parts_resume parts after answer told)

    -- a chunk's gathering by its stage
    chunk_by_stage : (seen : Seen) (target : ℕ) (answer : Told) (told : List Told)
        → act_of seen.stripe (confirming seen target) (gather_chunk g seen target (answer ∷ told))
        ≡ resume kind tries job pairs (stage_state (State.Confirming seen target) (Aim.Chunk seen target) [] (Sequel.Confirm seen target) (stage_after g (Aim.Chunk seen target) (Asking.Target target) answer)) told
    chunk_by_stage seen target answer told =
        ap (λ (result : Gathering). act_of seen.stripe (confirming seen target) result) (sym (gatherings_resume g (Aim.Chunk seen target) (answer ∷ told)))
        ∙ stage_resumes (Aim.Chunk seen target) [] (Sequel.Confirm seen target) (stage_after g (Aim.Chunk seen target) (Asking.Target target) answer) told

    -- after one answer to that
    chunk_resumes : (seen : Seen) (target : ℕ) (answer : Told) (told : List Told)
        → rebuilding g seen target (answer ∷ told) ≡ resume kind tries job pairs (chunk_after g seen target answer) told
    chunk_resumes seen target Told.Gathered told = refl
    chunk_resumes seen target answer told = chunk_by_stage seen target answer told

    -- each state but the first
    pub at_resumes : (at : State) (answer : Told) (told : List Told) → IsLater at
        → resume kind tries job pairs at (answer ∷ told) ≡ resume kind tries job pairs (state_after g job.note at answer) told
    at_resumes State.Start answer told other = absurd other
    at_resumes (State.Parts part parts after) answer told other = parts_resume (part ∷ parts) after answer told
    at_resumes (State.Chunk seen target) answer told other = chunk_resumes seen target answer told
    at_resumes (State.Gather aim asking parts after) answer told other = stage_resumes aim parts after (stage_after g aim asking answer) told
    at_resumes State.Drawing answer told other = drawing_resumes answer told
    at_resumes (State.Preparing stripe version server servers row later placed versions) answer told other = preparing_resumes stripe version server servers row later placed versions answer told
    at_resumes (State.Committing versions placed) answer told other = committing_resumes placed answer told
    at_resumes (State.Committed versions) answer told other = committed_resumes versions answer told
    at_resumes (State.Settling point place places) answer told other = settle_resumes point places told
    at_resumes (State.Confirming seen target) answer told other = confirming_resumes seen target answer told
    at_resumes (State.Installing seen target) answer told other = installing_resumes seen target answer told
    at_resumes (State.Placing target epoch) answer told other = placing_resumes target epoch answer told
    at_resumes (State.Ending outcome) answer told other = ending_resumes outcome answer told
    at_resumes (State.Finished outcome) answer told other = refl

  module _ (tries : ℕ) (job : Job) where
    -- after the look of a put
    put_starts : (pairs : List (ℕ × ℕ)) (answer : Told) (told : List Told)
        → next_put g job.note (answer ∷ told) ≡ resume Kind.Put tries job pairs (put_after_look answer) told
    put_starts pairs (Told.Answer point answer) told = refl
    put_starts pairs (Told.Ready base length stripes) told = refl
    put_starts pairs (Told.Versions versions) told = refl
    put_starts pairs _ told = refl

    -- of a get or a read
    read_starts : (kind : Kind) (pairs : List (ℕ × ℕ)) (answer : Told) (told : List Told)
        → next_read g job.note (answer ∷ told) ≡ resume kind tries job pairs (read_after_look g job.note answer) told
    read_starts kind pairs (Told.Answer point answer) told = refl
    read_starts kind pairs (Told.Pinned point length stripes) told = next_resumes kind tries job pairs (parts_of g job.note length stripes) (Sequel.Serve point) told
    read_starts kind pairs _ told = refl

    -- of a stat or a delete
    single_starts : (kind : Kind) (pairs : List (ℕ × ℕ)) (answer : Told) (told : List Told)
        → next_single job.note (answer ∷ told) ≡ resume kind tries job pairs (single_after_look answer) told
    single_starts kind pairs (Told.Answer point answer) told = refl
    single_starts kind pairs _ told = refl

    -- of a rebuild
    rebuild_starts : (pairs : List (ℕ × ℕ)) (answer : Told) (told : List Told)
        → next_rebuild g job.note job.target (answer ∷ told) ≡ resume Kind.Rebuild tries job pairs (rebuild_after_look job.target answer) told
    rebuild_starts pairs Told.NoSuch told = refl
    rebuild_starts pairs (Told.PinnedStripe seen) told = refl
    rebuild_starts pairs _ told = refl

    -- of a write
    write_starts : (pairs : List (ℕ × ℕ)) (answer : Told) (told : List Told)
        → trying g tries job.note pairs (answer ∷ told) ≡ resume Kind.Write tries job (pairs_with pairs answer) (write_after_look g answer) told
    write_starts pairs (Told.Changed base newer) told = refl
    write_starts pairs (Told.Answer point answer) told = refl
    write_starts pairs (Told.Ready base length stripes) told = next_resumes Kind.Write tries job pairs (old_parts g length stripes) Sequel.Draw told
    write_starts pairs (Told.Versions versions) told = refl
    write_starts pairs _ told = refl

    -- by the kind
    start_resumes : (kind : Kind) (pairs : List (ℕ × ℕ)) (answer : Told) (told : List Told)
        → resume_start kind tries job pairs (answer ∷ told) ≡ resume kind tries job (pairs_with pairs answer) (start_after g kind job answer) told
    start_resumes Kind.Put pairs answer told = put_starts (pairs_with pairs answer) answer told
    start_resumes Kind.Write pairs answer told = write_starts pairs answer told
    start_resumes Kind.Get pairs answer told = read_starts Kind.Get (pairs_with pairs answer) answer told
    start_resumes Kind.ReadAt pairs answer told = read_starts Kind.ReadAt (pairs_with pairs answer) answer told
    start_resumes Kind.Stat pairs answer told = single_starts Kind.Stat (pairs_with pairs answer) answer told
    start_resumes Kind.Delete pairs answer told = single_starts Kind.Delete (pairs_with pairs answer) answer told
    start_resumes Kind.Rebuild pairs answer told = rebuild_starts (pairs_with pairs answer) answer told

    module _ (kind : Kind) where
      -- after one answer at any state
      one_resumes : (pairs : List (ℕ × ℕ)) (at : State) (answer : Told) (told : List Told)
          → resume kind tries job pairs at (answer ∷ told)
          ≡ resume kind tries job ((call_after_from g kind job pairs at answer).pairs) ((call_after_from g kind job pairs at answer).at) told
      one_resumes pairs State.Start answer told = start_resumes kind pairs answer told
      one_resumes pairs at answer told = at_resumes kind tries job pairs at answer told tt

      -- after all answers
      all_resume : (s : CallState) (told : List Told)
          → resume kind tries job s.pairs s.at told
          ≡ resume kind tries job ((fold (call_after g kind job) s told).pairs) ((fold (call_after g kind job) s told).at) []
      all_resume s [] = refl
      all_resume s (answer ∷ told) = one_resumes s.pairs s.at answer told ∙ all_resume (call_after g kind job s answer) told

    -- the act of a state is what the definitions say of it without further answers
    stage_acts : (kind : Kind) (pairs : List (ℕ × ℕ)) (aim : Aim) (parts : List Part) (after : Sequel) (stage : Stage) (bytes : Act)
        → gathering g parts (sequel_next job.note after) [] ≡ bytes
        → act_of (seen_of aim).stripe (gathering g parts (sequel_next job.note after)) (comes_to g aim stage []) ≡ stage_act g bytes aim stage
    stage_acts kind pairs aim parts after (Stage.Asks asking) bytes e = refl
    stage_acts kind pairs aim parts after Stage.HasBytes bytes e = e
    stage_acts kind pairs aim parts after (Stage.TooMany missing) bytes e = refl
    stage_acts kind pairs aim parts after Stage.AtTarget bytes e = refl
    stage_acts kind pairs aim parts after (Stage.TargetAway downs) bytes e = refl
    stage_acts kind pairs aim parts after Stage.Short bytes e = refl

    -- after the last gathering
    sequel_acts : (after : Sequel) → sequel_next job.note after [] ≡ sequel_act after
    sequel_acts (Sequel.Serve point) = refl
    sequel_acts Sequel.Draw = refl
    sequel_acts (Sequel.Confirm seen target) = refl

    -- at the parts that are gathered next
    parts_acts : (kind : Kind) (parts : List Part) (after : Sequel) → gathering g parts (sequel_next job.note after) [] ≡ parts_act g parts after
    parts_acts kind [] after = sequel_acts after
    parts_acts kind (part ∷ parts) after =
        ap (λ (result : Gathering). act_of part.seen.stripe (gathering g parts (sequel_next job.note after)) result) (sym (gatherings_resume g (Aim.Range part) []))
        ∙ stage_acts kind [] (Aim.Range part) parts after (first_stage g (Aim.Range part)) (parts_act g parts after) (parts_acts kind parts after)

    -- at the look
    start_acts : (kind : Kind) (pairs : List (ℕ × ℕ)) → resume_start kind tries job pairs [] ≡ start_act kind tries job pairs
    start_acts Kind.Put pairs = refl
    start_acts Kind.Write pairs = refl
    start_acts Kind.Get pairs = refl
    start_acts Kind.ReadAt pairs = refl
    start_acts Kind.Stat pairs = refl
    start_acts Kind.Delete pairs = refl
    start_acts Kind.Rebuild pairs = refl

    -- at each state
    pub at_acts : (pairs : List (ℕ × ℕ)) (at : State) → resume job.note.kind tries job pairs at [] ≡ act_at g tries job pairs at
    at_acts pairs State.Start = start_acts job.note.kind pairs
    at_acts pairs (State.Parts part parts after) = parts_acts job.note.kind (part ∷ parts) after
    at_acts pairs (State.Chunk seen target) = refl
    at_acts pairs (State.Gather aim asking parts after) = refl
    at_acts pairs State.Drawing = refl
    at_acts pairs (State.Preparing stripe version server servers row later placed versions) = refl
    at_acts pairs (State.Committing versions placed) = refl
    at_acts pairs (State.Committed versions) = refl
    at_acts pairs (State.Settling point place places) = refl
    at_acts pairs (State.Confirming seen target) = refl
    at_acts pairs (State.Installing seen target) = refl
    at_acts pairs (State.Placing target epoch) = refl
    at_acts pairs (State.Ending outcome) = refl
    at_acts pairs (State.Finished outcome) = refl

    -- what the definitions say of a whole list begins at the look
    begins : (kind : Kind) (told : List Told) → resume_start kind tries job [] told ≡ next_by kind g tries job told
    begins Kind.Put told = refl
    begins Kind.Write told = refl
    begins Kind.Get told = refl
    begins Kind.ReadAt told = refl
    begins Kind.Stat told = refl
    begins Kind.Delete told = refl
    begins Kind.Rebuild told = refl

-- the act of a state is the next act
pub acts_resume : ActsResume
acts_resume g tries job told =
    let s : CallState = state_of g job told in
    sym (at_acts g tries job s.pairs s.at)
    ∙ sym (all_resume g tries job job.note.kind first_state told)
    ∙ begins g tries job job.note.kind told
