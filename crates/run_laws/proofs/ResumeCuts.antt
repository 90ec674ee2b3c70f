-- A gathering in one entry leads to the same state as all that it was told.
use Rattle.std.proofs.Common.{◌≡◌, ℕ, List, [], ◌∷◌, ◌++◌, fold, refl, sym, ap, subst, ◌∙◌}
use Rattle.clay_grid.specs.Shape.{Shape}
use Rattle.store_core.specs.Told.{Seen, Told}
use Rattle.store_core.specs.Note.{Kind}
use Rattle.store_core.specs.Gathering.{Gathering, Part}
use Rattle.store_core.specs.GatheringParts.{gather_part, gather_chunk}
use Rattle.store_core.specs.Read.{parts_of}
use Rattle.store_core.specs.Write.{old_parts}
use Rattle.store_core.specs.NextAct.{Job}
use Rattle.store_core.specs.Tell.{in_one, cut_parts, cut_read, cut_write, cut_chunk, cut_rebuild, cut_by}
use Rattle.run_laws.specs.Stage.{Aim, Asking, Stage}
use Rattle.run_laws.specs.Stages.{first_stage}
use Rattle.run_laws.specs.StageAfter.{stage_after}
use Rattle.run_laws.specs.ResumeGatherLaws.{comes_to}
use Rattle.run_laws.specs.State.{Sequel, State, CallState}
use Rattle.run_laws.specs.States.{parts_state, stage_state, open_parts, open_call}
use Rattle.run_laws.specs.GatherAfter.{first_after, parts_after}
use Rattle.run_laws.specs.CallAfter.{call_after_from, call_after}
use Rattle.run_laws.proofs.ResumeGatherings.{gatherings_resume}
use Rattle.run_laws.proofs.Opened.{IsAnswer, state_at, next_goes, opened_next}

module _ (g : Shape) (kind : Kind) (job : Job) (pairs : List (ℕ × ℕ)) where
  -- the state after these answers
  abbrev pub after_all : State → List Told → CallState
  after_all at told = fold (call_after g kind job) (state_at g kind job pairs at) told

  -- from a stage on: where the gathering comes to its bytes the call goes on with what was told since
  abbrev pub RunsOn : State → State → List Told → Gathering → Type 0
  RunsOn at next told (Gathering.HasBytes rest) = after_all at told ≡ after_all next rest
  RunsOn at next told _ = Unit {0}

  -- by the answers one after another
  runs_on : (aim : Aim) (parts : List Part) (after : Sequel) (stage : Stage) (told : List Told)
      → RunsOn (stage_state (parts_state parts after) aim parts after stage) (parts_state parts after) told (comes_to g aim stage told)
  runs_on aim parts after (Stage.Asks asking) [] = tt
  runs_on aim parts after (Stage.Asks asking) (answer ∷ told) = runs_on aim parts after (stage_after g aim asking answer) told
  runs_on aim parts after Stage.HasBytes told = refl
  runs_on aim parts after (Stage.TooMany missing) told = tt
  runs_on aim parts after Stage.AtTarget told = tt
  runs_on aim parts after (Stage.TargetAway downs) told = tt
  runs_on aim parts after Stage.Short told = tt

  -- the same up to the first question; `now` is open_state already
  abbrev pub Opens : CallState → State → Gathering → Type 0
  Opens now next (Gathering.HasBytes rest) = now ≡ open_call g (after_all next rest)
  Opens now next _ = Unit {0}

  -- from a state as it is
  as_opens : (at next : State) (told : List Told) (result : Gathering) → RunsOn at next told result → Opens (open_call g (after_all at told)) next result
  as_opens at next told (Gathering.HasBytes rest) h = ap (open_call g) h
  as_opens at next told (Gathering.Asks server step) h = tt
  as_opens at next told (Gathering.TooMany missing rest) h = tt
  as_opens at next told (Gathering.AtTarget rest) h = tt
  as_opens at next told (Gathering.TargetAway downs rest) h = tt
  as_opens at next told (Gathering.Short rest) h = tt

  -- what does not begin with a gathering in one entry
  abbrev pub BeginsOther : List Told → Type 0
  BeginsOther [] = Unit {0}
  BeginsOther (answer ∷ told) = IsAnswer answer

  -- what was told of a gathering in one entry, or as it was
  one : (at next : State) (since : List Told → List Told) → ((rest : List Told) → open_call g (after_all next (since rest)) ≡ open_call g (after_all next rest))
      → call_after_from g kind job pairs at Told.Gathered ≡ state_at g kind job pairs next
      → (told : List Told) (result : Gathering) → Opens (open_call g (after_all at told)) next result
      → open_call g (after_all at (in_one since result told)) ≡ open_call g (after_all at told)
  one at next since same skips told (Gathering.HasBytes rest) h =
      ap (λ (s : CallState). open_call g (fold (call_after g kind job) s (since rest))) skips ∙ same rest ∙ sym h
  one at next since same skips told (Gathering.Asks server step) h = refl
  one at next since same skips told (Gathering.TooMany missing rest) h = refl
  one at next since same skips told (Gathering.AtTarget rest) h = refl
  one at next since same skips told (Gathering.TargetAway downs rest) h = refl
  one at next since same skips told (Gathering.Short rest) h = refl

  module _ (part : Part) (parts : List Part) (after : Sequel) where
    -- before the first answer
    unopened : (stage : Stage)
        → Opens (state_at g kind job pairs (stage_state (open_parts g parts after) (Aim.Range part) parts after stage)) (parts_state parts after) (comes_to g (Aim.Range part) stage [])
    unopened (Stage.Asks asking) = tt
    unopened Stage.HasBytes = ap (state_at g kind job pairs) (sym (opened_next g kind job pairs parts after))
    unopened (Stage.TooMany missing) = tt
    unopened Stage.AtTarget = tt
    unopened (Stage.TargetAway downs) = tt
    unopened Stage.Short = tt

    -- from the first answer on
    first_opens : (stage : Stage) (answer : Told) (told : List Told)
        → Opens (open_call g (after_all (first_after g (parts_after g job.note parts after answer) (Aim.Range part) parts after stage answer) told)) (parts_state parts after)
        (comes_to g (Aim.Range part) stage (answer ∷ told))
    first_opens (Stage.Asks asking) answer told =
        as_opens (stage_state (parts_state parts after) (Aim.Range part) parts after (stage_after g (Aim.Range part) asking answer)) (parts_state parts after) told
        (comes_to g (Aim.Range part) (stage_after g (Aim.Range part) asking answer) told)
        (runs_on (Aim.Range part) parts after (stage_after g (Aim.Range part) asking answer) told)
    first_opens Stage.HasBytes answer told =
        ap (λ (s : CallState). open_call g (fold (call_after g kind job) s told)) (sym (next_goes g kind job pairs parts after answer))
    first_opens (Stage.TooMany missing) answer told = tt
    first_opens Stage.AtTarget answer told = tt
    first_opens (Stage.TargetAway downs) answer told = tt
    first_opens Stage.Short answer told = tt

    -- a part's gathering
    part_opens : (told : List Told) → BeginsOther told
        → Opens (open_call g (after_all (State.Parts part parts after) told)) (parts_state parts after) (gather_part g part told)
    part_opens [] h =
        subst (Opens (open_call g (after_all (State.Parts part parts after) [])) (parts_state parts after)) (gatherings_resume g (Aim.Range part) [])
        (unopened (first_stage g (Aim.Range part)))
    part_opens (Told.Gathered ∷ told) h = absurd h
    part_opens (answer ∷ told) h =
        subst (Opens (open_call g (after_all (State.Parts part parts after) (answer ∷ told))) (parts_state parts after)) (gatherings_resume g (Aim.Range part) (answer ∷ told))
        (first_opens (first_stage g (Aim.Range part)) answer told)

  -- so the parts lead to the same state
  parts_cut : (parts : List Part) (after : Sequel) (told : List Told)
      → open_call g (after_all (parts_state parts after) (cut_parts g parts told)) ≡ open_call g (after_all (parts_state parts after) told)
  parts_cut [] after told = refl
  parts_cut (part ∷ parts) after (Told.Gathered ∷ told) = parts_cut parts after told
  parts_cut (part ∷ parts) after told =
      one (State.Parts part parts after) (parts_state parts after) (cut_parts g parts) (parts_cut parts after) refl told (gather_part g part told) (part_opens part parts after told tt)

  module _ (seen : Seen) (target : ℕ) where
    -- a chunk's gathering
    chunk_opens : (told : List Told) → BeginsOther told
        → Opens (open_call g (after_all (State.Chunk seen target) told)) (State.Confirming seen target) (gather_chunk g seen target told)
    chunk_opens [] h = tt
    chunk_opens (Told.Gathered ∷ told) h = absurd h
    chunk_opens (answer ∷ told) h =
        let later : Stage = stage_after g (Aim.Chunk seen target) (Asking.Target target) answer in
        subst (Opens (open_call g (after_all (State.Chunk seen target) (answer ∷ told))) (State.Confirming seen target)) (gatherings_resume g (Aim.Chunk seen target) (answer ∷ told))
        (as_opens (stage_state (State.Confirming seen target) (Aim.Chunk seen target) [] (Sequel.Confirm seen target) later) (State.Confirming seen target) told
        (comes_to g (Aim.Chunk seen target) later told) (runs_on (Aim.Chunk seen target) [] (Sequel.Confirm seen target) later told))

    -- so the chunk leads to the same state
    chunk_cut : (told : List Told) → open_call g (after_all (State.Chunk seen target) (cut_chunk g seen target told)) ≡ open_call g (after_all (State.Chunk seen target) told)
    chunk_cut (Told.Gathered ∷ told) = refl
    chunk_cut told =
        one (State.Chunk seen target) (State.Confirming seen target) (λ rest. rest) (λ rest. refl) refl told (gather_chunk g seen target told) (chunk_opens told tt)

module _ (g : Shape) (job : Job) where
  -- the state after these answers to a call
  abbrev pub from_start : Kind → List (ℕ × ℕ) → List Told → CallState
  from_start kind pairs told = open_call g (after_all g kind job pairs State.Start told)

  -- a get or a read
  read_cut : (kind : Kind) → ((answer : Told) → call_after_from g kind job [] State.Start answer ≡ call_after_from g Kind.Get job [] State.Start answer)
      → (told : List Told) → from_start kind [] (cut_read g job.note told) ≡ from_start kind [] told
  read_cut kind same (Told.Pinned point length stripes ∷ told) =
      ap (λ (s : CallState). open_call g (fold (call_after g kind job) s (cut_parts g (parts_of g job.note length stripes) told))) (same (Told.Pinned point length stripes))
      ∙ parts_cut g kind job [] (parts_of g job.note length stripes) (Sequel.Serve point) told
      ∙ ap (λ (s : CallState). open_call g (fold (call_after g kind job) s told)) (sym (same (Told.Pinned point length stripes)))
  read_cut kind same told = refl

  -- a write
  write_cut : (pairs : List (ℕ × ℕ)) (told : List Told) → from_start Kind.Write pairs (cut_write g told) ≡ from_start Kind.Write pairs told
  write_cut pairs (Told.Changed base newer ∷ told) = write_cut (pairs ++ (base, newer) ∷ []) told
  write_cut pairs (Told.Ready base length stripes ∷ told) = parts_cut g Kind.Write job pairs (old_parts g length stripes) Sequel.Draw told
  write_cut pairs told = refl

  -- a rebuild
  rebuild_cut : (told : List Told) → from_start Kind.Rebuild [] (cut_rebuild g job.target told) ≡ from_start Kind.Rebuild [] told
  rebuild_cut (Told.PinnedStripe seen ∷ told) = chunk_cut g Kind.Rebuild job [] seen job.target told
  rebuild_cut told = refl

  -- by the kind
  pub by_kind : (kind : Kind) (told : List Told) → from_start kind [] (cut_by kind g job told) ≡ from_start kind [] told
  by_kind Kind.Put told = refl
  by_kind Kind.Write told = write_cut [] told
  by_kind Kind.Get told = read_cut Kind.Get (λ answer. refl) told
  by_kind Kind.ReadAt told = read_cut Kind.ReadAt (λ answer. refl) told
  by_kind Kind.Stat told = refl
  by_kind Kind.Delete told = refl
  by_kind Kind.Rebuild told = rebuild_cut told
