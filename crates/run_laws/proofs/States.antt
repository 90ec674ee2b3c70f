-- The state after one answer more.
-- One function resume says what the definitions say of further answers from a state on; each state's lemma is resume at (answer ∷ told) ≡
-- resume (state after) told, so the law is one induction. A gathering in one entry (Gathered) leads to the state that all its answers
-- lead to, because the gathering's law says what it comes to; states are compared opened, since a part may have its bytes without a
-- question.
use Rattle.std.proofs.Common.{◌≡◌, ℕ, Bool, true, false, cond, nat_lt, List, [], ◌∷◌, ◌++◌, length, map, filter, fold, refl, sym, ap, subst, ◌∙◌}
use Rattle.clay_grid.specs.Shape.{Shape, chunk_count}
use Rattle.store_core.specs.Lists.{places_of}
use Rattle.store_core.specs.Told.{Told}
use Rattle.store_core.specs.Note.{Kind}
use Rattle.store_core.specs.Act.{Act, DirectoryStep, Outcome}
use Rattle.store_core.specs.Gathering.{Part}
use Rattle.store_core.specs.NextAct.{Job, next_act}
use Rattle.store_core.specs.Tell.{tell, tell_by, cut_by, is_versions, is_changed}
use Rattle.run_laws.specs.Stage.{Aim, Stage}
use Rattle.run_laws.specs.Stages.{first_stage}
use Rattle.run_laws.specs.State.{Sequel, State, CallState, first_state}
use Rattle.run_laws.specs.States.{stage_state, settle_state, open_parts, open_state, open_call}
use Rattle.run_laws.specs.CallAfter.{call_after_from, call_after, state_of}
use Rattle.run_laws.specs.StateActs.{sequel_act, stage_act, parts_act, start_act, act_at, act_of_state}
use Rattle.run_laws.specs.FitLaws.{IsCommit, AreFit}
use Rattle.run_laws.specs.CallLaws.{next_call_from, next_call, StatesResume, CallsResume}
use Rattle.run_laws.specs.AnswersByKind.{MayWrite}
use Rattle.run_laws.proofs.Acts.{acts_resume}
use Rattle.run_laws.proofs.Opened.{IsAnswer, state_at, opened_goes}
use Rattle.run_laws.proofs.ResumeCuts.{by_kind}
use Rattle.run_laws.proofs.Kept.{Keeps, change_of, keeps}

-- a fold of one element more
fold_push : {A B : Type 0} (f : B → A → B) (b : B) (xs : List A) (x : A) → fold f b (xs ++ x ∷ []) ≡ f (fold f b xs) x
fold_push f b [] x = refl
fold_push f b (y ∷ xs) x = fold_push f (f b y) xs x

-- the answers that begin no new list
abbrev pub LeadsOn : Told → Type 0
LeadsOn (Told.Done point) = ⊥
LeadsOn (Told.Changed base newer) = ⊥
LeadsOn Told.Gathered = ⊥
LeadsOn answer = Unit {0}

-- such an answer is none in one entry
as_answer : (answer : Told) → LeadsOn answer → IsAnswer answer
as_answer (Told.Done point) h = tt
as_answer (Told.Changed base newer) h = tt
as_answer Told.Gathered h = absurd h
as_answer answer h = tt

module _ (g : Shape) (job : Job) where
  -- such an answer is heard as it goes
  heard : (kind : Kind) (pairs : List (ℕ × ℕ)) (at : State) (answer : Told) → LeadsOn answer
      → next_call_from g kind job pairs at answer ≡ open_call g (call_after_from g kind job pairs at answer)
  heard kind pairs (State.Committing versions placed) (Told.Done point) h = absurd h
  heard kind pairs (State.Committing versions placed) (Told.Changed base newer) h = absurd h
  heard kind pairs (State.Committing versions placed) answer h = refl
  heard kind pairs at answer h = refl

  -- it is kept as it is
  leads_on : (kind : Kind) (told : List Told) (answer : Told) → LeadsOn answer → tell_by kind g job told answer ≡ cut_by kind g job (told ++ answer ∷ [])
  leads_on kind told (Told.Done point) h = absurd h
  leads_on kind told (Told.Changed base newer) h = absurd h
  leads_on kind told answer h = refl

  -- so the state goes on
  on : (kind : Kind) (told : List Told) (answer : Told) → LeadsOn answer
      → open_call g (fold (call_after g kind job) first_state (tell_by kind g job told answer))
      ≡ next_call_from g kind job ((fold (call_after g kind job) first_state told).pairs) (open_state g ((fold (call_after g kind job) first_state told).at)) answer
  on kind told answer h =
      let s : CallState = fold (call_after g kind job) first_state told in
      ap (λ (l : List Told). open_call g (fold (call_after g kind job) first_state l)) (leads_on kind told answer h)
      ∙ by_kind g job kind (told ++ answer ∷ [])
      ∙ ap (open_call g) (fold_push (call_after g kind job) first_state told answer)
      ∙ sym (ap (open_call g) (opened_goes g kind job s.pairs s.at answer (as_answer answer h)))
      ∙ sym (heard kind s.pairs (open_state g s.at) answer h)

  -- only a call that is committing has a commit as its act
  stage_no_commit : (bytes : Act) (aim : Aim) (stage : Stage) → (IsCommit bytes → ⊥) → IsCommit (stage_act g bytes aim stage) → ⊥
  stage_no_commit bytes aim (Stage.Asks asking) never h = h
  stage_no_commit bytes aim Stage.HasBytes never h = never h
  stage_no_commit bytes aim (Stage.TooMany missing) never h = h
  stage_no_commit bytes aim Stage.AtTarget never h = h
  stage_no_commit bytes aim (Stage.TargetAway downs) never h = h
  stage_no_commit bytes aim Stage.Short never h = h

  -- what follows the last gathering is none
  then_no_commit : (after : Sequel) → IsCommit (sequel_act after) → ⊥
  then_no_commit (Sequel.Serve point) h = h
  then_no_commit Sequel.Draw h = h
  then_no_commit (Sequel.Confirm seen target) h = h

  -- nor are the parts that are gathered next
  parts_no_commit : (parts : List Part) (after : Sequel) → IsCommit (parts_act g parts after) → ⊥
  parts_no_commit [] after h = then_no_commit after h
  parts_no_commit (part ∷ parts) after h =
      stage_no_commit (parts_act g parts after) (Aim.Range part) (first_stage g (Aim.Range part)) (parts_no_commit parts after) h

  -- nor a write's look
  write_no_commit : (tries : ℕ) (pairs : List (ℕ × ℕ)) (b : Bool) → IsCommit (cond b (Act.AtDirectory (DirectoryStep.Look job.note)) (Act.Finish (Outcome.Contended pairs))) → ⊥
  write_no_commit tries pairs true h = h
  write_no_commit tries pairs false h = h

  -- nor a look
  start_no_commit : (kind : Kind) (tries : ℕ) (pairs : List (ℕ × ℕ)) → IsCommit (start_act kind tries job pairs) → ⊥
  start_no_commit Kind.Put tries pairs h = h
  start_no_commit Kind.Write tries pairs h = write_no_commit tries pairs (nat_lt (length pairs) tries) h
  start_no_commit Kind.Get tries pairs h = h
  start_no_commit Kind.ReadAt tries pairs h = h
  start_no_commit Kind.Stat tries pairs h = h
  start_no_commit Kind.Delete tries pairs h = h
  start_no_commit Kind.Rebuild tries pairs h = h

  -- a call that is committing
  abbrev pub IsCommitting : State → Type 0
  IsCommitting (State.Committing versions placed) = Unit {0}
  IsCommitting at = ⊥

  -- so a commit is of such a call
  committing : (tries : ℕ) (pairs : List (ℕ × ℕ)) (at : State) → IsCommit (act_at g tries job pairs at) → IsCommitting at
  committing tries pairs State.Start h = absurd (start_no_commit job.note.kind tries pairs h)
  committing tries pairs (State.Parts part parts after) h = absurd (parts_no_commit (part ∷ parts) after h)
  committing tries pairs (State.Committing versions placed) h = tt
  committing tries pairs at h = absurd h

  -- no gathering is opened in the settles
  settled_open : (point : ℕ) (places : List (ℕ × ℕ)) → open_state g (settle_state point places) ≡ settle_state point places
  settled_open point [] = refl
  settled_open point (place ∷ places) = refl

  -- the versions alone, and the commit's point
  point_on : (kind : Kind) (versions : List ℕ) (point : ℕ) → MayWrite kind
      → open_call g (fold (call_after g kind job) first_state (Told.Versions versions ∷ Told.Done point ∷ []))
      ≡ state_at g kind job [] (settle_state point (places_of (chunk_count g) versions))
  point_on Kind.Put versions point w = ap (state_at g Kind.Put job []) (settled_open point (places_of (chunk_count g) versions))
  point_on Kind.Write versions point w = ap (state_at g Kind.Write job []) (settled_open point (places_of (chunk_count g) versions))
  point_on Kind.Get versions point w = absurd w
  point_on Kind.ReadAt versions point w = absurd w
  point_on Kind.Stat versions point w = absurd w
  point_on Kind.Delete versions point w = absurd w
  point_on Kind.Rebuild versions point w = absurd w

  -- so the state after a commit
  done_on : (kind : Kind) (told : List Told) (point : ℕ) (pairs : List (ℕ × ℕ)) (at : State) → IsCommitting at → MayWrite kind → Keeps at pairs told
      → open_call g (fold (call_after g kind job) first_state (filter is_versions told ++ Told.Done point ∷ []))
      ≡ next_call_from g kind job pairs (open_state g at) (Told.Done point)
  done_on kind told point pairs (State.Committing versions placed) c w k =
      ap (λ (l : List Told). open_call g (fold (call_after g kind job) first_state (l ++ Told.Done point ∷ []))) k.drawn
      ∙ point_on kind versions point w
  done_on kind told point pairs at c w k = absurd c

  -- the changes alone
  changes_on : (before pairs : List (ℕ × ℕ)) (base newer : ℕ)
      → fold (call_after g Kind.Write job) (state_at g Kind.Write job before State.Start) (map change_of pairs ++ Told.Changed base newer ∷ [])
      ≡ state_at g Kind.Write job ((before ++ pairs) ++ (base, newer) ∷ []) State.Start
  changes_on before [] base newer = ap (λ (l : List (ℕ × ℕ)). state_at g Kind.Write job (l ++ (base, newer) ∷ []) State.Start) (sym (nothing before))
    where
      nothing : (l : List (ℕ × ℕ)) → l ++ [] ≡ l
      nothing [] = refl
      nothing (pair ∷ l) = ap (λ (more : List (ℕ × ℕ)). pair ∷ more) (nothing l)
  changes_on before (pair ∷ pairs) base newer =
      changes_on (before ++ pair ∷ []) pairs base newer
      ∙ ap (λ (l : List (ℕ × ℕ)). state_at g Kind.Write job (l ++ (base, newer) ∷ []) State.Start) (push before)
    where
      push : (l : List (ℕ × ℕ)) → (l ++ pair ∷ []) ++ pairs ≡ l ++ pair ∷ pairs
      push [] = refl
      push (first ∷ l) = ap (λ (more : List (ℕ × ℕ)). first ∷ more) (push l)

  -- so the state after a change
  changed_on : (kind : Kind) (told : List Told) (base newer : ℕ) (pairs : List (ℕ × ℕ)) (at : State) → IsCommitting at → kind ≡ Kind.Write → Keeps at pairs told
      → open_call g (fold (call_after g kind job) first_state (filter is_changed told ++ Told.Changed base newer ∷ []))
      ≡ next_call_from g kind job pairs (open_state g at) (Told.Changed base newer)
  changed_on kind told base newer pairs (State.Committing versions placed) c w k =
      ap (λ (l : List Told). open_call g (fold (call_after g kind job) first_state (l ++ Told.Changed base newer ∷ []))) k.changes
      ∙ subst (λ (write : Kind). open_call g (fold (call_after g write job) first_state (map change_of pairs ++ Told.Changed base newer ∷ []))
      ≡ state_at g write job (pairs ++ (base, newer) ∷ []) State.Start) (sym w) (ap (open_call g) (changes_on [] pairs base newer))
  changed_on kind told base newer pairs at c w k = absurd c

-- the state after one answer more
pub states_resume : StatesResume
states_resume g tries job told (Told.Done point) fits =
    let s : CallState = state_of g job told in
    done_on g job job.note.kind told point s.pairs s.at
    (committing g job tries s.pairs s.at (subst IsCommit (sym (acts_resume g tries job told)) fits.0)) fits.1 (keeps g job.note.kind job told)
states_resume g tries job told (Told.Changed base newer) fits =
    let s : CallState = state_of g job told in
    changed_on g job job.note.kind told base newer s.pairs s.at
    (committing g job tries s.pairs s.at (subst IsCommit (sym (acts_resume g tries job told)) fits.0)) fits.1 (keeps g job.note.kind job told)
states_resume g tries job told Told.Gathered fits = absurd fits
states_resume g tries job told answer fits = on g job job.note.kind told answer tt

-- opening changes no act
opened_acts : (g : Shape) (tries : ℕ) (job : Job) (s : CallState) → act_of_state g tries job (open_call g s) ≡ act_of_state g tries job s
opened_acts g tries job s = by s.at
  where
    after_acts : (after : Sequel) → act_at g tries job s.pairs (open_parts g [] after) ≡ sequel_act after
    after_acts (Sequel.Serve point) = refl
    after_acts Sequel.Draw = refl
    after_acts (Sequel.Confirm seen target) = refl

    stage_acts : (bytes : State) (act : Act) (aim : Aim) (parts : List Part) (after : Sequel) (stage : Stage) → act_at g tries job s.pairs bytes ≡ act
        → act_at g tries job s.pairs (stage_state bytes aim parts after stage) ≡ stage_act g act aim stage
    stage_acts bytes act aim parts after (Stage.Asks asking) e = refl
    stage_acts bytes act aim parts after Stage.HasBytes e = e
    stage_acts bytes act aim parts after (Stage.TooMany missing) e = refl
    stage_acts bytes act aim parts after Stage.AtTarget e = refl
    stage_acts bytes act aim parts after (Stage.TargetAway downs) e = refl
    stage_acts bytes act aim parts after Stage.Short e = refl

    parts_acts : (parts : List Part) (after : Sequel) → act_at g tries job s.pairs (open_parts g parts after) ≡ parts_act g parts after
    parts_acts [] after = after_acts after
    parts_acts (part ∷ parts) after =
        stage_acts (open_parts g parts after) (parts_act g parts after) (Aim.Range part) parts after (first_stage g (Aim.Range part)) (parts_acts parts after)

    by : (at : State) → act_at g tries job s.pairs (open_state g at) ≡ act_at g tries job s.pairs at
    by (State.Parts part parts after) = parts_acts (part ∷ parts) after
    by (State.Chunk seen target) = refl
    by at = refl

-- a machine that has heard some answers, and one that goes on
go_on : (g : Shape) (tries : ℕ) (job : Job) (told answers : List Told) → AreFit g tries job told answers
    → act_of_state g tries job (fold (next_call g job) (open_call g (state_of g job told)) answers) ≡ next_act g tries job (fold (tell g job) told answers)
go_on g tries job told [] fits = opened_acts g tries job (state_of g job told) ∙ acts_resume g tries job told
go_on g tries job told (answer ∷ answers) fits =
    ap (λ (s : CallState). act_of_state g tries job (fold (next_call g job) s answers)) (sym (states_resume g tries job told answer fits.0))
    ∙ go_on g tries job (tell g job told answer) answers fits.1

-- from the first step on
pub calls_resume : CallsResume
calls_resume g tries job answers fits = go_on g tries job [] answers fits
