-- Until a call has committed, its state has the changes and the versions that stand in what it was told.
use Rattle.std.proofs.Common.{◌≡◌, ℕ, ◌+◌, ◌/◌, Bool, true, false, cond, nat_lt, List, [], ◌∷◌, ◌++◌, map, filter, fold, refl, sym, ap, subst, ◌∙◌}
use Rattle.std.specs.List.{range_with_len}
use Rattle.clay_grid.specs.Shape.{Shape, chunk_count, stripe_length}
use Rattle.store_map.specs.declared.placement.Placement.{Placement}
use Rattle.store_core.specs.Lists.{places_of}
use Rattle.store_core.specs.Told.{Seen, Told}
use Rattle.store_core.specs.Placements.{skipped_from, skipped_count}
use Rattle.store_core.specs.Note.{Note, Kind}
use Rattle.store_core.specs.Act.{Outcome}
use Rattle.store_core.specs.Gathering.{Part}
use Rattle.store_core.specs.Read.{parts_of}
use Rattle.store_core.specs.Write.{old_parts}
use Rattle.store_core.specs.NextAct.{Job}
use Rattle.store_core.specs.Tell.{is_versions, is_changed}
use Rattle.run_laws.proofs.Acts.{IsLater}
use Rattle.run_laws.specs.Stage.{Aim, Asking, Stage}
use Rattle.run_laws.specs.Stages.{first_stage}
use Rattle.run_laws.specs.StageAfter.{stage_after}
use Rattle.run_laws.specs.State.{Sequel, State, CallState, first_state}
use Rattle.run_laws.specs.States.{sequel_state, parts_state, stage_state, prepare_state, prepare_all_state, settle_state}
use Rattle.run_laws.specs.WriteAfter.{committing_after, drawing_after, unless_few, prepare_rest_state, preparing_after, committed_after}
use Rattle.run_laws.specs.GatherAfter.{ending_after, confirming_after, installing_after, sequel_after, first_after, parts_after, chunk_after}
use Rattle.run_laws.specs.LookAfter.{single_after_look, rebuild_after_look, put_after_look, read_after_look, write_after_look, start_after}
use Rattle.run_laws.specs.CallAfter.{pairs_with, state_after, call_after, call_after_from}

-- a filter of one element more
filter_push : {A : Type 0} (f : A → Bool) (xs : List A) (x : A) → filter f (xs ++ x ∷ []) ≡ filter f xs ++ filter f (x ∷ [])
filter_push f [] x = refl
filter_push {A} f (y ∷ xs) x = by (f y) (filter_push f xs x)
  where
    by : (b : Bool) → filter f (xs ++ x ∷ []) ≡ filter f xs ++ filter f (x ∷ []) → cond b (y ∷ filter f (xs ++ x ∷ [])) (filter f (xs ++ x ∷ [])) ≡ cond b (y ∷ filter f xs) (filter f xs) ++ filter f (x ∷ [])
    by true e = ap (λ (l : List A). y ∷ l) e
    by false e = e

-- nothing at the end
append_nothing : {A : Type 0} (xs : List A) → xs ++ [] ≡ xs
append_nothing [] = refl
append_nothing {A} (x ∷ xs) = ap (λ (l : List A). x ∷ l) (append_nothing xs)

-- a change as it is told
abbrev pub change_of : ℕ × ℕ → Told
change_of pair = Told.Changed pair.0 pair.1

-- one change more
changes_push : (pairs : List (ℕ × ℕ)) (base newer : ℕ) → map change_of pairs ++ Told.Changed base newer ∷ [] ≡ map change_of (pairs ++ (base, newer) ∷ [])
changes_push [] base newer = refl
changes_push (pair ∷ pairs) base newer = ap (λ (l : List Told). change_of pair ∷ l) (changes_push pairs base newer)

-- these are the versions and the changes among what was told
pub record Kept (versions : List Told) (pairs : List (ℕ × ℕ)) (told : List Told) : Type 0 where
  pub drawn : filter is_versions told ≡ versions
  pub changes : filter is_changed told ≡ map change_of pairs

-- an answer that is neither versions nor a change
abbrev pub IsPlain : Told → Type 0
IsPlain (Told.Versions versions) = ⊥
IsPlain (Told.Changed base newer) = ⊥
IsPlain answer = Unit {0}

-- another answer leaves both
kept_more : (versions : List Told) (pairs : List (ℕ × ℕ)) (told : List Told) (answer : Told)
    → filter is_versions (answer ∷ []) ≡ [] → filter is_changed (answer ∷ []) ≡ [] → Kept versions pairs told → Kept versions pairs (told ++ answer ∷ [])
kept_more versions pairs told answer no_versions no_change k =
    record {
      drawn = filter_push is_versions told answer ∙ ap (λ (l : List Told). filter is_versions told ++ l) no_versions ∙ append_nothing (filter is_versions told) ∙ k.drawn;
      changes = filter_push is_changed told answer ∙ ap (λ (l : List Told). filter is_changed told ++ l) no_change ∙ append_nothing (filter is_changed told) ∙ k.changes;
    }

-- so does a plain one
kept_plain : (versions : List Told) (pairs : List (ℕ × ℕ)) (told : List Told) (answer : Told) → IsPlain answer → Kept versions pairs told → Kept versions pairs (told ++ answer ∷ [])
kept_plain versions pairs told (Told.Versions drawn) h k = absurd h
kept_plain versions pairs told (Told.Changed base newer) h k = absurd h
kept_plain versions pairs told answer h k = kept_more versions pairs told answer refl refl k

-- versions that are drawn
kept_drawn : (pairs : List (ℕ × ℕ)) (told : List Told) (drawn : List ℕ) → Kept [] pairs told → Kept (Told.Versions drawn ∷ []) pairs (told ++ Told.Versions drawn ∷ [])
kept_drawn pairs told drawn k =
    record {
      drawn = filter_push is_versions told (Told.Versions drawn) ∙ ap (λ (l : List Told). l ++ Told.Versions drawn ∷ []) k.drawn;
      changes = filter_push is_changed told (Told.Versions drawn) ∙ append_nothing (filter is_changed told) ∙ k.changes;
    }

-- one change more
kept_changed : (pairs : List (ℕ × ℕ)) (told : List Told) (base newer : ℕ) → Kept [] pairs told → Kept [] (pairs ++ (base, newer) ∷ []) (told ++ Told.Changed base newer ∷ [])
kept_changed pairs told base newer k =
    record {
      drawn = filter_push is_versions told (Told.Changed base newer) ∙ append_nothing (filter is_versions told) ∙ k.drawn;
      changes =
          filter_push is_changed told (Told.Changed base newer) ∙ ap (λ (l : List Told). l ++ Told.Changed base newer ∷ []) k.changes ∙ changes_push pairs base newer;
    }

-- as far as a call that may yet commit needs it
abbrev pub Keeps : State → List (ℕ × ℕ) → List Told → Type 0
Keeps State.Start pairs told = Kept [] pairs told
Keeps (State.Parts part parts after) pairs told = Kept [] pairs told
Keeps (State.Chunk seen target) pairs told = Kept [] pairs told
Keeps (State.Gather aim asking parts after) pairs told = Kept [] pairs told
Keeps State.Drawing pairs told = Kept [] pairs told
Keeps (State.Preparing stripe version server servers row later placed versions) pairs told = Kept (Told.Versions versions ∷ []) pairs told
Keeps (State.Committing versions placed) pairs told = Kept (Told.Versions versions ∷ []) pairs told
Keeps at pairs told = Unit {0}

module _ (g : Shape) (pairs : List (ℕ × ℕ)) (told : List Told) where
  -- the end of a pass keeps them
  ending_keeps : (outcome : Outcome) (answer : Told) → Keeps (ending_after outcome answer) pairs told
  ending_keeps outcome Told.Ended = tt
  ending_keeps outcome (Told.Reaped point) = tt
  ending_keeps outcome _ = tt

  -- the confirm
  confirming_keeps : (seen : Seen) (target : ℕ) (answer : Told) → Keeps (confirming_after seen target answer) pairs told
  confirming_keeps seen target Told.Current = tt
  confirming_keeps seen target (Told.Superseded newer) = tt
  confirming_keeps seen target (Told.Reaped point) = tt
  confirming_keeps seen target _ = tt

  -- the install
  installing_keeps : (target : ℕ) (answer : Told) → Keeps (installing_after target answer) pairs told
  installing_keeps target (Told.Placed epoch) = tt
  installing_keeps target Told.AlreadyThere = tt
  installing_keeps target (Told.Away downs) = tt
  installing_keeps target _ = tt

  -- the settles
  settle_keeps : (point : ℕ) (places : List (ℕ × ℕ)) → Keeps (settle_state point places) pairs told
  settle_keeps point [] = tt
  settle_keeps point (place ∷ places) = tt

  -- what is kept of a commit
  committed_keeps : (versions : List ℕ) (answer : Told) → Keeps (committed_after g versions answer) pairs told
  committed_keeps versions (Told.Done point) = settle_keeps point (places_of (chunk_count g) versions)
  committed_keeps versions _ = tt

  -- the commit
  committing_keeps : (answer : Told) → Keeps (committing_after answer) pairs told
  committing_keeps (Told.Reaped point) = tt
  committing_keeps _ = tt

  -- the prepares of a version
  row_keeps : (versions : List ℕ) (stripe version : ℕ) (later : List ℕ) (placed : List (List Placement)) (next : List Placement → State) (servers : List ℕ) (row : List Placement)
      → Kept (Told.Versions versions ∷ []) pairs told → ((whole : List Placement) → Keeps (next whole) pairs told)
      → Keeps (prepare_state versions stripe version later placed next servers row) pairs told
  row_keeps versions stripe version later placed next [] row k follows = follows row
  row_keeps versions stripe version later placed next (server ∷ servers) row k follows = k

  -- those of all versions
  prepare_keeps : (versions : List ℕ) (stripe : ℕ) (later : List ℕ) (placed : List (List Placement)) → Kept (Told.Versions versions ∷ []) pairs told
      → Keeps (prepare_all_state g versions stripe later placed) pairs told
  prepare_keeps versions stripe [] placed k = k
  prepare_keeps versions stripe (version ∷ later) placed k =
      row_keeps versions stripe version later placed (λ row. prepare_all_state g versions (stripe + 1) later (placed ++ row ∷ [])) (range_with_len 0 (chunk_count g)) [] k
      (λ row. prepare_keeps versions (stripe + 1) later (placed ++ row ∷ []) k)

  -- where more servers were away than there may be
  few_keeps : (stripe : ℕ) (row : List Placement) (otherwise : State) → Keeps otherwise pairs told → Keeps (unless_few g stripe row otherwise) pairs told
  few_keeps stripe row otherwise k = by (nat_lt g.parity_count (skipped_count row))
    where
      by : (b : Bool) → Keeps (cond b (State.Ending (Outcome.Unavailable stripe (skipped_from 0 row))) otherwise) pairs told
      by true = tt
      by false = k

  -- the prepares that are left
  prepare_on_keeps : (stripe version : ℕ) (servers : List ℕ) (row : List Placement) (later : List ℕ) (placed : List (List Placement)) (versions : List ℕ)
      → Kept (Told.Versions versions ∷ []) pairs told → Keeps (prepare_rest_state g stripe version servers row later placed versions) pairs told
  prepare_on_keeps stripe version servers row later placed versions k =
      row_keeps versions stripe version later placed (λ whole. prepare_all_state g versions (stripe + 1) later (placed ++ whole ∷ [])) servers row k
      (λ whole. prepare_keeps versions (stripe + 1) later (placed ++ whole ∷ []) k)

  -- what follows the last gathering
  sequel_keeps : (after : Sequel) → Kept [] pairs told → Keeps (sequel_state after) pairs told
  sequel_keeps (Sequel.Serve point) k = tt
  sequel_keeps Sequel.Draw k = k
  sequel_keeps (Sequel.Confirm seen target) k = tt

  -- the parts that are gathered next
  next_keeps : (parts : List Part) (after : Sequel) → Kept [] pairs told → Keeps (parts_state parts after) pairs told
  next_keeps [] after k = sequel_keeps after k
  next_keeps (part ∷ parts) after k = k

  -- a stage of a gathering
  stage_keeps : (aim : Aim) (parts : List Part) (after : Sequel) (stage : Stage) → Kept [] pairs told → Keeps (stage_state (parts_state parts after) aim parts after stage) pairs told
  stage_keeps aim parts after (Stage.Asks asking) k = k
  stage_keeps aim parts after Stage.HasBytes k = next_keeps parts after k
  stage_keeps aim parts after (Stage.TooMany missing) k = tt
  stage_keeps aim parts after Stage.AtTarget k = tt
  stage_keeps aim parts after (Stage.TargetAway downs) k = tt
  stage_keeps aim parts after Stage.Short k = tt

module _ (g : Shape) (pairs : List (ℕ × ℕ)) (told : List Told) where
  -- an answer to the draw
  drawing_keeps : (note : Note) (answer : Told) → Kept [] pairs told → Keeps (drawing_after g note answer) pairs (told ++ answer ∷ [])
  drawing_keeps note (Told.Versions versions) k =
      prepare_keeps g pairs (told ++ Told.Versions versions ∷ []) versions (note.offset / stripe_length g) versions [] (kept_drawn pairs told versions k)
  drawing_keeps note (Told.Reaped point) k = tt
  drawing_keeps note _ k = tt

  -- to a prepare
  preparing_keeps : (stripe version : ℕ) (servers : List ℕ) (row : List Placement) (later : List ℕ) (placed : List (List Placement)) (versions : List ℕ) (answer : Told)
      → Kept (Told.Versions versions ∷ []) pairs told → Keeps (preparing_after g stripe version servers row later placed versions answer) pairs (told ++ answer ∷ [])
  preparing_keeps stripe version servers row later placed versions (Told.Prepared placement) k =
      few_keeps g pairs (told ++ Told.Prepared placement ∷ []) stripe (row ++ placement ∷ []) (prepare_rest_state g stripe version servers (row ++ placement ∷ []) later placed versions)
      (prepare_on_keeps g pairs (told ++ Told.Prepared placement ∷ []) stripe version servers (row ++ placement ∷ []) later placed versions
      (kept_plain (Told.Versions versions ∷ []) pairs told (Told.Prepared placement) tt k))
  preparing_keeps stripe version servers row later placed versions _ k = tt

  -- to what follows the last gathering
  after_keeps : (note : Note) (after : Sequel) (answer : Told) → Kept [] pairs told → Keeps (sequel_after g note after answer) pairs (told ++ answer ∷ [])
  after_keeps note (Sequel.Serve point) answer k = ending_keeps g pairs (told ++ answer ∷ []) (Outcome.Served point) answer
  after_keeps note Sequel.Draw answer k = drawing_keeps note answer k
  after_keeps note (Sequel.Confirm seen target) answer k = confirming_keeps g pairs (told ++ answer ∷ []) seen target answer

  -- a gathering that next_call of versions or of a change ends for want of memory
  hear_keeps : (aim : Aim) (asking : Asking) (parts : List Part) (after : Sequel) (answer : Told) → Kept [] pairs told
      → Keeps (stage_state (parts_state parts after) aim parts after (stage_after g aim asking answer)) pairs (told ++ answer ∷ [])
  hear_keeps aim (Asking.Fetch server more missing) parts after (Told.Versions versions) k = tt
  hear_keeps aim (Asking.Look server more missing) parts after (Told.Versions versions) k = tt
  hear_keeps aim (Asking.Repair server more lost) parts after (Told.Versions versions) k = tt
  hear_keeps aim (Asking.Whole server more wanted missing) parts after (Told.Versions versions) k = tt
  hear_keeps aim (Asking.Target server) parts after (Told.Versions versions) k = tt
  hear_keeps aim (Asking.Fetch server more missing) parts after (Told.Changed base newer) k = tt
  hear_keeps aim (Asking.Look server more missing) parts after (Told.Changed base newer) k = tt
  hear_keeps aim (Asking.Repair server more lost) parts after (Told.Changed base newer) k = tt
  hear_keeps aim (Asking.Whole server more wanted missing) parts after (Told.Changed base newer) k = tt
  hear_keeps aim (Asking.Target server) parts after (Told.Changed base newer) k = tt
  hear_keeps aim asking parts after answer k =
      stage_keeps g pairs (told ++ answer ∷ []) aim parts after (stage_after g aim asking answer) (kept_plain [] pairs told answer tt k)

  -- the first answer to a gathering
  first_keeps : (bytes : State) (aim : Aim) (parts : List Part) (after : Sequel) (stage : Stage) (answer : Told) → Kept [] pairs told
      → Keeps bytes pairs (told ++ answer ∷ []) → Keeps (first_after g bytes aim parts after stage answer) pairs (told ++ answer ∷ [])
  first_keeps bytes aim parts after (Stage.Asks asking) answer k h = hear_keeps aim asking parts after answer k
  first_keeps bytes aim parts after Stage.HasBytes answer k h = h
  first_keeps bytes aim parts after (Stage.TooMany missing) answer k h = ending_keeps g pairs (told ++ answer ∷ []) _ answer
  first_keeps bytes aim parts after Stage.AtTarget answer k h = ending_keeps g pairs (told ++ answer ∷ []) Outcome.Here answer
  first_keeps bytes aim parts after (Stage.TargetAway downs) answer k h = ending_keeps g pairs (told ++ answer ∷ []) (Outcome.Away downs) answer
  first_keeps bytes aim parts after Stage.Short answer k h = ending_keeps g pairs (told ++ answer ∷ []) Outcome.NoMemory answer

  -- an answer to the gatherings of some parts
  parts_keep : (note : Note) (parts : List Part) (after : Sequel) (answer : Told) → Kept [] pairs told → Keeps (parts_after g note parts after answer) pairs (told ++ answer ∷ [])
  parts_keep note [] after answer k = after_keeps note after answer k
  parts_keep note (part ∷ parts) after Told.Gathered k = next_keeps g pairs (told ++ Told.Gathered ∷ []) parts after (kept_plain [] pairs told Told.Gathered tt k)
  parts_keep note (part ∷ parts) after answer k =
      first_keeps (parts_after g note parts after answer) (Aim.Range part) parts after (first_stage g (Aim.Range part)) answer k (parts_keep note parts after answer k)

  -- to that of a chunk
  chunk_keeps : (seen : Seen) (target : ℕ) (answer : Told) → Kept [] pairs told → Keeps (chunk_after g seen target answer) pairs (told ++ answer ∷ [])
  chunk_keeps seen target Told.Gathered k = tt
  chunk_keeps seen target answer k = hear_keeps (Aim.Chunk seen target) (Asking.Target target) [] (Sequel.Confirm seen target) answer k

  -- at each state but the first
  at_keeps : (note : Note) (at : State) (answer : Told) → IsLater at → Keeps at pairs told → Keeps (state_after g note at answer) pairs (told ++ answer ∷ [])
  at_keeps note State.Start answer later k = absurd later
  at_keeps note (State.Parts part parts after) answer later k = parts_keep note (part ∷ parts) after answer k
  at_keeps note (State.Chunk seen target) answer later k = chunk_keeps seen target answer k
  at_keeps note (State.Gather aim asking parts after) answer later k = hear_keeps aim asking parts after answer k
  at_keeps note State.Drawing answer later k = drawing_keeps note answer k
  at_keeps note (State.Preparing stripe version server servers row more placed versions) answer later k = preparing_keeps stripe version servers row more placed versions answer k
  at_keeps note (State.Committing versions placed) answer later k = committing_keeps g pairs (told ++ answer ∷ []) answer
  at_keeps note (State.Committed versions) answer later k = committed_keeps g pairs (told ++ answer ∷ []) versions answer
  at_keeps note (State.Settling point place places) answer later k = settle_keeps g pairs (told ++ answer ∷ []) point places
  at_keeps note (State.Confirming seen target) answer later k = confirming_keeps g pairs (told ++ answer ∷ []) seen target answer
  at_keeps note (State.Installing seen target) answer later k = installing_keeps g pairs (told ++ answer ∷ []) target answer
  at_keeps note (State.Placing target epoch) answer later k = ending_keeps g pairs (told ++ answer ∷ []) Outcome.Rebuilt answer
  at_keeps note (State.Ending outcome) answer later k = ending_keeps g pairs (told ++ answer ∷ []) outcome answer
  at_keeps note (State.Finished outcome) answer later k = tt

  -- an answer to the look of a put
  put_keeps : (answer : Told) → Kept [] pairs told → Keeps (put_after_look answer) (pairs_with pairs answer) (told ++ answer ∷ [])
  put_keeps (Told.Answer point answer) k = tt
  put_keeps (Told.Ready base length stripes) k = kept_plain [] pairs told (Told.Ready base length stripes) tt k
  put_keeps (Told.Versions versions) k = tt
  put_keeps _ k = tt

  -- of a get or a read
  read_keeps : (note : Note) (answer : Told) → Kept [] pairs told → Keeps (read_after_look g note answer) (pairs_with pairs answer) (told ++ answer ∷ [])
  read_keeps note (Told.Answer point answer) k = tt
  read_keeps note (Told.Pinned point length stripes) k =
      next_keeps g pairs (told ++ Told.Pinned point length stripes ∷ []) (parts_of g note length stripes) (Sequel.Serve point) (kept_plain [] pairs told (Told.Pinned point length stripes) tt k)
  read_keeps note _ k = tt

  -- of a stat or a delete
  single_keeps : (answer : Told) → Keeps (single_after_look answer) (pairs_with pairs answer) (told ++ answer ∷ [])
  single_keeps (Told.Answer point answer) = tt
  single_keeps _ = tt

  -- of a rebuild
  rebuild_keeps : (target : ℕ) (answer : Told) → Kept [] pairs told → Keeps (rebuild_after_look target answer) (pairs_with pairs answer) (told ++ answer ∷ [])
  rebuild_keeps target Told.NoSuch k = tt
  rebuild_keeps target (Told.PinnedStripe seen) k = kept_plain [] pairs told (Told.PinnedStripe seen) tt k
  rebuild_keeps target _ k = tt

  -- of a write
  write_keeps : (answer : Told) → Kept [] pairs told → Keeps (write_after_look g answer) (pairs_with pairs answer) (told ++ answer ∷ [])
  write_keeps (Told.Changed base newer) k = kept_changed pairs told base newer k
  write_keeps (Told.Answer point answer) k = tt
  write_keeps (Told.Ready base length stripes) k =
      next_keeps g pairs (told ++ Told.Ready base length stripes ∷ []) (old_parts g length stripes) Sequel.Draw (kept_plain [] pairs told (Told.Ready base length stripes) tt k)
  write_keeps (Told.Versions versions) k = tt
  write_keeps _ k = tt

  -- by the kind
  start_keeps : (kind : Kind) (job : Job) (answer : Told) → Kept [] pairs told → Keeps (start_after g kind job answer) (pairs_with pairs answer) (told ++ answer ∷ [])
  start_keeps Kind.Put job answer k = put_keeps answer k
  start_keeps Kind.Write job answer k = write_keeps answer k
  start_keeps Kind.Get job answer k = read_keeps job.note answer k
  start_keeps Kind.ReadAt job answer k = read_keeps job.note answer k
  start_keeps Kind.Stat job answer k = single_keeps answer
  start_keeps Kind.Delete job answer k = single_keeps answer
  start_keeps Kind.Rebuild job answer k = rebuild_keeps job.target answer k

module _ (g : Shape) (kind : Kind) (job : Job) where
  -- the same of a call
  abbrev pub KeepsState : CallState → List Told → Type 0
  KeepsState s told = Keeps s.at s.pairs told

  -- one answer at any state
  one_keeps : (pairs : List (ℕ × ℕ)) (at : State) (told : List Told) (answer : Told) → Keeps at pairs told
      → KeepsState (call_after_from g kind job pairs at answer) (told ++ answer ∷ [])
  one_keeps pairs State.Start told answer k = start_keeps g pairs told kind job answer k
  one_keeps pairs at told answer k = at_keeps g pairs told job.note at answer tt k

  -- after all that comes on top of what was told before
  since_keeps : (s : CallState) (before told : List Told) → KeepsState s before → KeepsState (fold (call_after g kind job) s told) (before ++ told)
  since_keeps s before [] k = subst (KeepsState s) (sym (append_nothing before)) k
  since_keeps s before (answer ∷ told) k =
      subst (KeepsState (fold (call_after g kind job) (call_after g kind job s answer) told)) (push_append before answer told)
      (since_keeps (call_after g kind job s answer) (before ++ answer ∷ []) told (one_keeps s.pairs s.at before answer k))
    where
      push_append : (before : List Told) (answer : Told) (told : List Told) → (before ++ answer ∷ []) ++ told ≡ before ++ answer ∷ told
      push_append [] answer told = refl
      push_append (first ∷ before) answer told = ap (λ (l : List Told). first ∷ l) (push_append before answer told)

  -- after all that a call was told
  pub keeps : (told : List Told) → KeepsState (fold (call_after g kind job) first_state told) told
  keeps told = since_keeps first_state [] told (record { drawn = refl; changes = refl })
