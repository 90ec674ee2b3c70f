-- What holds of a call's state by the point of its pins holds after any answer more.
use Rattle.std.proofs.Common.{ℕ, Bool, true, false, List, [], ◌∷◌, ◌++◌, ◌+◌, Option, None, Some}
use Rattle.std.specs.Prelude.{⊤, if◌then◌else◌, nat_lt, ◌/◌}
use Rattle.std.specs.List.{range_with_len}
use Rattle.clay_grid.specs.Shape.{Shape, chunk_count, stripe_length}
use Rattle.store_map.specs.declared.placement.Placement.{Placement}
use Rattle.store_core.specs.Act.{Outcome}
use Rattle.store_core.specs.Gathering.{Part}
use Rattle.store_core.specs.Lists.{places_of}
use Rattle.store_core.specs.NextAct.{Job}
use Rattle.store_core.specs.Note.{Note, Kind}
use Rattle.store_core.specs.Placements.{skipped_from, skipped_count}
use Rattle.store_core.specs.Read.{parts_of}
use Rattle.store_core.specs.Told.{Told, Seen}
use Rattle.run_laws.specs.Stage.{Aim, Asking, Stage, seen_of}
use Rattle.run_laws.specs.Stages.{first_stage}
use Rattle.run_laws.specs.StageAfter.{stage_after}
use Rattle.run_laws.specs.State.{Sequel, State}
use Rattle.run_laws.specs.States.{sequel_state, parts_state, stage_state, prepare_state, prepare_all_state, settle_state, open_parts, open_state}
use Rattle.run_laws.specs.WriteAfter.{committing_after, drawing_after, prepare_rest_state, preparing_after, committed_after}
use Rattle.run_laws.specs.GatherAfter.{ending_after, confirming_after, installing_after, sequel_after, first_after, parts_after, chunk_after}
use Rattle.run_laws.specs.LookAfter.{start_after}
use Rattle.run_laws.specs.CallAfter.{state_after}
use Rattle.call_machine.specs.Pinned.{point_served, point_after, pinned_at}

-- the look was made
abbrev pub HasLooked : State → Type 0
HasLooked State.Start = ⊥
HasLooked at = ⊤

-- the point of a look that was answered by pins
abbrev pub point_told : Told → Option ℕ
point_told (Told.Pinned point length stripes) = Some point
point_told answer = None

-- a property of states is one of the point of their pins, but for the look; and it holds where there are none
pub record IsByPoint (P : State → Type 0) (R : Option ℕ → Type 0) : Type 0 where
  pub none : R None
  pub plain : (at : State) → HasLooked at → R (pinned_at at) → P at
  pub back : (at : State) → P at → R (pinned_at at)

module _ (P : State → Type 0) (R : Option ℕ → Type 0) (its : IsByPoint P R) where
  sequel : (after : Sequel) → R (point_after after) → P (sequel_state after)
  sequel (Sequel.Serve point) h = its.plain (sequel_state (Sequel.Serve point)) tt h
  sequel Sequel.Draw h = its.plain (sequel_state Sequel.Draw) tt its.none
  sequel (Sequel.Confirm seen target) h = its.plain (sequel_state (Sequel.Confirm seen target)) tt its.none

  pub stage : (bytes : State) (aim : Aim) (parts : List Part) (after : Sequel) (s : Stage) → P bytes → R (point_after after) → P (stage_state bytes aim parts after s)
  stage bytes aim parts after (Stage.Asks asking) b h = its.plain (stage_state bytes aim parts after (Stage.Asks asking)) tt h
  stage bytes aim parts after Stage.HasBytes b h = b
  stage bytes aim parts after (Stage.TooMany missing) b h = its.plain (stage_state bytes aim parts after (Stage.TooMany missing)) tt its.none
  stage bytes aim parts after Stage.AtTarget b h = its.plain (stage_state bytes aim parts after Stage.AtTarget) tt its.none
  stage bytes aim parts after (Stage.TargetAway downs) b h = its.plain (stage_state bytes aim parts after (Stage.TargetAway downs)) tt its.none
  stage bytes aim parts after Stage.Short b h = its.plain (stage_state bytes aim parts after Stage.Short) tt its.none

  opened : (g : Shape) (parts : List Part) (after : Sequel) → R (point_after after) → P (open_parts g parts after)
  opened g [] after h = sequel after h
  opened g (part ∷ parts) after h = stage (open_parts g parts after) (Aim.Range part) parts after (first_stage g (Aim.Range part)) (opened g parts after h) h

  pub of_parts : (parts : List Part) (after : Sequel) → R (point_after after) → P (parts_state parts after)
  of_parts [] after h = sequel after h
  of_parts (part ∷ parts) after h = its.plain (parts_state (part ∷ parts) after) tt h

  pub open_kept : (g : Shape) (at : State) → P at → P (open_state g at)
  open_kept g (State.Parts part parts after) h = opened g (part ∷ parts) after (its.back (State.Parts part parts after) h)
  open_kept g (State.Chunk seen target) h = its.plain (open_state g (State.Chunk seen target)) tt its.none
  open_kept g at h = h

  pub ending : (outcome : Outcome) (answer : Told) → R (point_served outcome) → P (ending_after outcome answer)
  ending outcome Told.Ended h = its.plain (ending_after outcome Told.Ended) tt h
  ending outcome (Told.Reaped point) h = its.plain (ending_after outcome (Told.Reaped point)) tt its.none
  ending outcome answer h = its.plain (ending_after outcome answer) tt its.none

  either : (b : Bool) (x y : State) → P x → P y → P (if b then x else y)
  either true x y hx hy = hx
  either false x y hx hy = hy

  -- ---- calls that write
  prepare : (versions : List ℕ) (stripe version : ℕ) (later : List ℕ) (placed : List (List Placement)) (next : List Placement → State) (servers : List ℕ) (row : List Placement)
      → ((whole : List Placement) → P (next whole)) → P (prepare_state versions stripe version later placed next servers row)
  prepare versions stripe version later placed next [] row h = h row
  prepare versions stripe version later placed next (server ∷ servers) row h = its.plain (prepare_state versions stripe version later placed next (server ∷ servers) row) tt its.none

  prepare_all : (g : Shape) (versions : List ℕ) (stripe : ℕ) (left : List ℕ) (placed : List (List Placement)) → P (prepare_all_state g versions stripe left placed)
  prepare_all g versions stripe [] placed = its.plain (prepare_all_state g versions stripe [] placed) tt its.none
  prepare_all g versions stripe (version ∷ later) placed =
      prepare versions stripe version later placed (λ row. prepare_all_state g versions (stripe + 1) later (placed ++ row ∷ [])) (range_with_len 0 (chunk_count g)) []
      (λ row. prepare_all g versions (stripe + 1) later (placed ++ row ∷ []))

  pub settle : (point : ℕ) (places : List (ℕ × ℕ)) → P (settle_state point places)
  settle point [] = its.plain (settle_state point []) tt its.none
  settle point (place ∷ places) = its.plain (settle_state point (place ∷ places)) tt its.none

  drawing : (g : Shape) (note : Note) (answer : Told) → P (drawing_after g note answer)
  drawing g note (Told.Versions versions) = prepare_all g versions (note.offset / stripe_length g) versions []
  drawing g note (Told.Reaped point) = its.plain (drawing_after g note (Told.Reaped point)) tt its.none
  drawing g note answer = its.plain (drawing_after g note answer) tt its.none

  preparing : (g : Shape) (stripe version : ℕ) (servers : List ℕ) (row : List Placement) (later : List ℕ) (placed : List (List Placement)) (versions : List ℕ) (answer : Told)
      → P (preparing_after g stripe version servers row later placed versions answer)
  preparing g stripe version servers row later placed versions (Told.Prepared placement) =
      either (nat_lt g.parity_count (skipped_count (row ++ placement ∷ [])))
      (State.Ending (Outcome.Unavailable stripe (skipped_from 0 (row ++ placement ∷ []))))
      (prepare_rest_state g stripe version servers (row ++ placement ∷ []) later placed versions) (its.plain (State.Ending (Outcome.Unavailable stripe (skipped_from 0 (row ++ placement ∷ [])))) tt its.none)
      (prepare versions stripe version later placed (λ whole. prepare_all_state g versions (stripe + 1) later (placed ++ whole ∷ [])) servers (row ++ placement ∷ [])
      (λ whole. prepare_all g versions (stripe + 1) later (placed ++ whole ∷ [])))
  preparing g stripe version servers row later placed versions answer = its.plain (preparing_after g stripe version servers row later placed versions answer) tt its.none

  committing : (answer : Told) → P (committing_after answer)
  committing (Told.Reaped point) = its.plain (committing_after (Told.Reaped point)) tt its.none
  committing answer = its.plain (committing_after answer) tt its.none

  committed : (g : Shape) (versions : List ℕ) (answer : Told) → P (committed_after g versions answer)
  committed g versions (Told.Done point) = settle point (places_of (chunk_count g) versions)
  committed g versions answer = its.plain (committed_after g versions answer) tt its.none

  -- ---- rebuilds
  confirming : (seen : Seen) (target : ℕ) (answer : Told) → P (confirming_after seen target answer)
  confirming seen target Told.Current = its.plain (confirming_after seen target Told.Current) tt its.none
  confirming seen target (Told.Superseded newer) = its.plain (confirming_after seen target (Told.Superseded newer)) tt its.none
  confirming seen target (Told.Reaped point) = its.plain (confirming_after seen target (Told.Reaped point)) tt its.none
  confirming seen target answer = its.plain (confirming_after seen target answer) tt its.none

  installing : (target : ℕ) (answer : Told) → P (installing_after target answer)
  installing target (Told.Placed epoch) = its.plain (installing_after target (Told.Placed epoch)) tt its.none
  installing target Told.AlreadyThere = its.plain (installing_after target Told.AlreadyThere) tt its.none
  installing target (Told.Away downs) = its.plain (installing_after target (Told.Away downs)) tt its.none
  installing target answer = its.plain (installing_after target answer) tt its.none

  chunk : (g : Shape) (seen : Seen) (target : ℕ) (answer : Told) → P (chunk_after g seen target answer)
  chunk g seen target Told.Gathered = its.plain (chunk_after g seen target Told.Gathered) tt its.none
  chunk g seen target answer =
      stage (State.Confirming seen target) (Aim.Chunk seen target) [] (Sequel.Confirm seen target) (stage_after g (Aim.Chunk seen target) (Asking.Target target) answer) (its.plain (State.Confirming seen target) tt its.none) its.none

  -- ---- gatherings
  sequel_told : (g : Shape) (note : Note) (after : Sequel) (answer : Told) → R (point_after after) → P (sequel_after g note after answer)
  sequel_told g note (Sequel.Serve point) answer h = ending (Outcome.Served point) answer h
  sequel_told g note Sequel.Draw answer h = drawing g note answer
  sequel_told g note (Sequel.Confirm seen target) answer h = confirming seen target answer

  first_told : (g : Shape) (bytes : State) (aim : Aim) (parts : List Part) (after : Sequel) (s : Stage) (answer : Told) → P bytes → R (point_after after)
      → P (first_after g bytes aim parts after s answer)
  first_told g bytes aim parts after (Stage.Asks asking) answer b h = stage (parts_state parts after) aim parts after (stage_after g aim asking answer) (of_parts parts after h) h
  first_told g bytes aim parts after Stage.HasBytes answer b h = b
  first_told g bytes aim parts after (Stage.TooMany missing) answer b h = ending (Outcome.Unavailable (seen_of aim).stripe missing) answer its.none
  first_told g bytes aim parts after Stage.AtTarget answer b h = ending Outcome.Here answer its.none
  first_told g bytes aim parts after (Stage.TargetAway downs) answer b h = ending (Outcome.Away downs) answer its.none
  first_told g bytes aim parts after Stage.Short answer b h = ending Outcome.NoMemory answer its.none

  parts_told : (g : Shape) (note : Note) (parts : List Part) (after : Sequel) (answer : Told) → R (point_after after) → P (parts_after g note parts after answer)
  parts_told g note [] after answer h = sequel_told g note after answer h
  parts_told g note (part ∷ parts) after Told.Gathered h = of_parts parts after h
  parts_told g note (part ∷ parts) after answer h =
      first_told g (parts_after g note parts after answer) (Aim.Range part) parts after (first_stage g (Aim.Range part)) answer (parts_told g note parts after answer h) h

  state_kept : (g : Shape) (note : Note) (at : State) (answer : Told) → P at → P (state_after g note at answer)
  state_kept g note State.Start answer h = h
  state_kept g note (State.Parts part parts after) answer h = parts_told g note (part ∷ parts) after answer (its.back (State.Parts part parts after) h)
  state_kept g note (State.Chunk seen target) answer h = chunk g seen target answer
  state_kept g note (State.Gather aim asking parts after) answer h = stage (parts_state parts after) aim parts after (stage_after g aim asking answer) (of_parts parts after (its.back (State.Gather aim asking parts after) h)) (its.back (State.Gather aim asking parts after) h)
  state_kept g note State.Drawing answer h = drawing g note answer
  state_kept g note (State.Preparing stripe version server servers row later placed versions) answer h = preparing g stripe version servers row later placed versions answer
  state_kept g note (State.Committing versions placed) answer h = committing answer
  state_kept g note (State.Committed versions) answer h = committed g versions answer
  state_kept g note (State.Settling point place places) answer h = settle point places
  state_kept g note (State.Confirming seen target) answer h = confirming seen target answer
  state_kept g note (State.Installing seen target) answer h = installing target answer
  state_kept g note (State.Placing target epoch) answer h = ending Outcome.Rebuilt answer its.none
  state_kept g note (State.Ending outcome) answer h = ending outcome answer (its.back (State.Ending outcome) h)
  state_kept g note (State.Finished outcome) answer h = h

  -- ---- a look of a call that reads, and every later answer
  pub read_told : (g : Shape) (job : Job) (answer : Told) → R (point_told answer) → P (start_after g Kind.ReadAt job answer)
  read_told g job (Told.Answer point reply) h = its.plain (start_after g Kind.ReadAt job (Told.Answer point reply)) tt its.none
  read_told g job (Told.Pinned point length stripes) h = of_parts (parts_of g job.note length stripes) (Sequel.Serve point) h
  read_told g job answer h = its.plain (start_after g Kind.ReadAt job answer) tt its.none

  pub later_told : (g : Shape) (kind : Kind) (job : Job) (at : State) (answer : Told) → P at → P (open_state g (state_after g job.note at answer))
  later_told g kind job at answer h = open_kept g (state_after g job.note at answer) (state_kept g job.note at answer h)
