-- A coding of gatherings leaves the state of their call, or leads it to its end.
use Rattle.std.proofs.Common.{◌≡◌, ℕ, Bool, true, false, List, [], ◌∷◌, ◌++◌, Option, None, Some, refl, sym, ap, subst, ◌∙◌, append_assoc}
use Rattle.std.specs.Prelude.{IsTrue}
use Rattle.std.proofs.lemmas.Bool.{true≢false}
use Rattle.clay_grid.specs.Shape.{Shape}
use Rattle.store_core.specs.Told.{Told}
use Rattle.store_core.specs.NextAct.{Job}
use Rattle.store_core.specs.Gathering.{Part}
use Rattle.store_core.specs.Act.{Act, Outcome}
use Rattle.store_core.specs.ActPlace.{is_in_pass}
use Rattle.run_laws.specs.Stage.{Aim, Asking, Stage}
use Rattle.run_laws.specs.Stages.{first_stage}
use Rattle.run_laws.specs.State.{Sequel, State, CallState}
use Rattle.run_laws.specs.States.{sequel_state, stage_state, open_parts}
use Rattle.run_laws.specs.StateActs.{act_at}
use Rattle.run_laws.specs.CallLaws.{next_call}
use Rattle.gathering.specs.Gathers.{GatherOf}
use Rattle.call_steps.specs.declared.need.Need.{Need}
use Rattle.call_steps.specs.declared.need.Need.TheVariants as need
use Rattle.call_steps.specs.declared.act.DirectoryAct.{DirectoryAct}
use Rattle.call_steps.specs.declared.act.Act.TheVariants as next
use Rattle.call_steps.specs.Acts.{act_by, act_now}
use Rattle.call_steps.specs.CallOf.{CallOf, act_of}
use Rattle.call_steps.specs.Steps.{need_by, need_of, coded as call_coded}
use Rattle.gather_parts.specs.Steps.{next_of, handed_on, coded}
use Rattle.gather_parts.specs.declared.progress.Progress.{Progress}
use Rattle.gather_parts.specs.declared.progress.Progress.TheVariants as progress
use Rattle.gather_parts.specs.Wanted.{Wanted, parts_of, bytes_of}
use Rattle.gather_parts.specs.Gatherings.{GatheringsOf, bytes_at_work, owed}
use Rattle.gather_parts.specs.Progress.{progress_at, progress_by, progress_of, is_due_at, is_due, need_at}
use Rattle.gather_parts.specs.Doing.{act_after, act_at_stage, act_by_parts, act_in}
use Rattle.gather_parts.specs.States.{state_by, state_in, StandsIn, after_coding}
use Rattle.gather_parts.proofs.Moving.{standing_call, stands_as}
use Rattle.gather_parts.proofs.Nexts.{next_state, next_bytes}

abbrev is_coder : Need → Bool
is_coder need.Coder = true
is_coder other = false

not_due : {A : Type 0} (now : Progress) → is_due_at now ≡ false → now ≡ progress.Due → A
not_due now none e = absurd (true≢false (sym (ap is_due_at e) ∙ none))

-- where coding is due, the parts that are left are next
module _ (g : Shape) (parts : List Part) (after : Sequel) where
  due_stage : (aim : Aim) (stage : Stage) → progress_at g aim stage ≡ progress.Due → stage_state (open_parts g parts after) aim parts after stage ≡ open_parts g parts after
  due_stage aim (Stage.Asks asking) e = not_due (progress_at g aim (Stage.Asks asking)) refl e
  due_stage aim Stage.HasBytes e = refl
  due_stage aim (Stage.TooMany missing) e = not_due progress.TooMany refl e
  due_stage aim Stage.AtTarget e = not_due progress.Short refl e
  due_stage aim (Stage.TargetAway downs) e = not_due progress.Short refl e
  due_stage aim Stage.Short e = not_due progress.Short refl e

  due_by : (current : Option GatherOf) (left : List Wanted) → progress_by g current left ≡ progress.Due → state_by g parts after current ≡ open_parts g parts after
  due_by (Some w) left e = due_stage w.course.aim w.course.stage e
  due_by None left e = refl

pub due_open : (p : GatheringsOf) (after : Sequel) → progress_of p ≡ progress.Due → state_in p after ≡ open_parts p.book.geometry (parts_of p.left) after
due_open p after e = due_by p.book.geometry (parts_of p.left) after p.current p.left e

-- the call has a step to make then, and goes on to its end where memory is wanting
module _ (g : Shape) (tries : ℕ) (job : Job) (pairs : List (ℕ × ℕ)) (after : Sequel) where
  abbrev at_end : CallState
  at_end = record { pairs = pairs; at = State.Ending Outcome.NoMemory }

  abbrev short_at : State → Type 0
  short_at at = next_call g job (record { pairs = pairs; at = at }) Told.Short ≡ at_end

  abbrev goes_at : State → Type 0
  goes_at at = need_by (act_at g tries job pairs at) true ≡ need.Coder

  sequel_goes : (after : Sequel) → goes_at (sequel_state after)
  sequel_goes (Sequel.Serve point) = refl
  sequel_goes Sequel.Draw = refl
  sequel_goes (Sequel.Confirm seen target) = refl

  stage_goes : (bytes : State) (aim : Aim) (parts : List Part) (stage : Stage) → goes_at bytes → goes_at (stage_state bytes aim parts after stage)
  stage_goes bytes aim parts (Stage.Asks asking) h = refl
  stage_goes bytes aim parts Stage.HasBytes h = h
  stage_goes bytes aim parts (Stage.TooMany missing) h = refl
  stage_goes bytes aim parts Stage.AtTarget h = refl
  stage_goes bytes aim parts (Stage.TargetAway downs) h = refl
  stage_goes bytes aim parts Stage.Short h = refl

  pub open_goes : (parts : List Part) → goes_at (open_parts g parts after)
  open_goes [] = sequel_goes after
  open_goes (part ∷ parts) = stage_goes (open_parts g parts after) (Aim.Range part) parts (first_stage g (Aim.Range part)) (open_goes parts)

  abbrev in_pass_at : State → Type 0
  in_pass_at at = is_in_pass (act_at g tries job pairs at) ≡ true

  sequel_in_pass : (after : Sequel) → in_pass_at (sequel_state after)
  sequel_in_pass (Sequel.Serve point) = refl
  sequel_in_pass Sequel.Draw = refl
  sequel_in_pass (Sequel.Confirm seen target) = refl

  asking_in_pass : (aim : Aim) (parts : List Part) (asking : Asking) → in_pass_at (State.Gather aim asking parts after)
  asking_in_pass aim parts (Asking.Fetch server more missing) = refl
  asking_in_pass aim parts (Asking.Look server more missing) = refl
  asking_in_pass aim parts (Asking.Repair server more lost) = refl
  asking_in_pass aim parts (Asking.Whole server more wanted missing) = refl
  asking_in_pass aim parts (Asking.Target server) = refl

  stage_in_pass : (bytes : State) (aim : Aim) (parts : List Part) (stage : Stage) → in_pass_at bytes → in_pass_at (stage_state bytes aim parts after stage)
  stage_in_pass bytes aim parts (Stage.Asks asking) h = asking_in_pass aim parts asking
  stage_in_pass bytes aim parts Stage.HasBytes h = h
  stage_in_pass bytes aim parts (Stage.TooMany missing) h = refl
  stage_in_pass bytes aim parts Stage.AtTarget h = refl
  stage_in_pass bytes aim parts (Stage.TargetAway downs) h = refl
  stage_in_pass bytes aim parts Stage.Short h = refl

  pub open_in_pass : (parts : List Part) → in_pass_at (open_parts g parts after)
  open_in_pass [] = sequel_in_pass after
  open_in_pass (part ∷ parts) = stage_in_pass (open_parts g parts after) (Aim.Range part) parts (first_stage g (Aim.Range part)) (open_in_pass parts)

  sequel_short : (after : Sequel) → short_at (sequel_state after)
  sequel_short (Sequel.Serve point) = refl
  sequel_short Sequel.Draw = refl
  sequel_short (Sequel.Confirm seen target) = refl

  asking_short : (aim : Aim) (parts : List Part) (asking : Asking) → short_at (State.Gather aim asking parts after)
  asking_short aim parts (Asking.Fetch server more missing) = refl
  asking_short aim parts (Asking.Look server more missing) = refl
  asking_short aim parts (Asking.Repair server more lost) = refl
  asking_short aim parts (Asking.Whole server more wanted missing) = refl
  asking_short aim parts (Asking.Target server) = refl

  stage_short : (bytes : State) (aim : Aim) (parts : List Part) (stage : Stage) → short_at bytes → short_at (stage_state bytes aim parts after stage)
  stage_short bytes aim parts (Stage.Asks asking) h = asking_short aim parts asking
  stage_short bytes aim parts Stage.HasBytes h = h
  stage_short bytes aim parts (Stage.TooMany missing) h = refl
  stage_short bytes aim parts Stage.AtTarget h = refl
  stage_short bytes aim parts (Stage.TargetAway downs) h = refl
  stage_short bytes aim parts Stage.Short h = refl

  pub open_short : (parts : List Part) → short_at (open_parts g parts after)
  open_short [] = sequel_short after
  open_short (part ∷ parts) = stage_short (open_parts g parts after) (Aim.Range part) parts (first_stage g (Aim.Range part)) (open_short parts)

-- a call needs the coder where coding is due
pub due_needs : (c : CallOf) (p : GatheringsOf) (after : Sequel) → progress_of p ≡ progress.Due → StandsIn c p after → c.due ≡ is_due p → need.Coder ≡ need_of c
due_needs c p after e stands due =
    sym (open_goes p.book.geometry c.tries c.job c.state.pairs after (parts_of p.left))
    ∙ ap (λ at. need_by (act_at p.book.geometry c.tries c.job c.state.pairs at) true) (sym (due_open p after e))
    ∙ ap (λ (x : CallOf). need_by (act_at x.book.geometry x.tries x.job x.state.pairs x.state.at) true) (sym (stands_as c p after stands))
    ∙ ap (λ b. need_of (record c { due = b })) (sym (ap is_due_at e) ∙ sym due)

-- what gatherings need is what a call needs that stands in them
module _ (g : Shape) (tries : ℕ) (job : Job) (pairs : List (ℕ × ℕ)) (after : Sequel) where
  stage_needs : (left : List Wanted) (aim : Aim) (stage : Stage)
      → need_by (act_at g tries job pairs (stage_state (open_parts g (parts_of left) after) aim (parts_of left) after stage)) (is_due_at (progress_at g aim stage))
      ≡ need_at (progress_at g aim stage)
  stage_needs left aim (Stage.Asks asking) = refl
  stage_needs left aim Stage.HasBytes = open_goes g tries job pairs after (parts_of left)
  stage_needs left aim (Stage.TooMany missing) = refl
  stage_needs left aim Stage.AtTarget = refl
  stage_needs left aim (Stage.TargetAway downs) = refl
  stage_needs left aim Stage.Short = refl

  sequel_needs : (after : Sequel) → need_by (act_at g tries job pairs (sequel_state after)) false ≡ need.Directory
  sequel_needs (Sequel.Serve point) = refl
  sequel_needs Sequel.Draw = refl
  sequel_needs (Sequel.Confirm seen target) = refl

  progress_needs : (current : Option GatherOf) (left : List Wanted)
      → need_by (act_at g tries job pairs (state_by g (parts_of left) after current)) (is_due_at (progress_by g current left)) ≡ need_at (progress_by g current left)
  progress_needs (Some w) left = stage_needs left w.course.aim w.course.stage
  progress_needs None [] = sequel_needs after
  progress_needs None (wanted ∷ left) = open_goes g tries job pairs after (parts_of (wanted ∷ left))

pub state_needs : (p : GatheringsOf) (tries : ℕ) (job : Job) (pairs : List (ℕ × ℕ)) (after : Sequel)
    → need_by (act_at p.book.geometry tries job pairs (state_in p after)) (is_due p) ≡ need_at (progress_of p)
state_needs p tries job pairs after = progress_needs p.book.geometry tries job pairs after p.current p.left

-- so is what a call does next
coding_by : (act : Act) → need_by act true ≡ need.Coder → act_by act true ≡ next.Coding
coding_by (Act.AtDirectory step) e = refl
coding_by (Act.AtServer server step) e = refl
coding_by (Act.Finish outcome) e = absurd (true≢false (sym (ap is_coder e)))

module _ (g : Shape) (tries : ℕ) (job : Job) (pairs : List (ℕ × ℕ)) (after : Sequel) where
  stage_acts : (left : List Wanted) (aim : Aim) (stage : Stage)
      → act_at_stage g aim stage
      ≡ act_by (act_at g tries job pairs (stage_state (open_parts g (parts_of left) after) aim (parts_of left) after stage)) (is_due_at (progress_at g aim stage))
  stage_acts left aim (Stage.Asks asking) = refl
  stage_acts left aim Stage.HasBytes =
      sym (coding_by (act_at g tries job pairs (open_parts g (parts_of left) after)) (open_goes g tries job pairs after (parts_of left)))
  stage_acts left aim (Stage.TooMany missing) = refl
  stage_acts left aim Stage.AtTarget = refl
  stage_acts left aim (Stage.TargetAway downs) = refl
  stage_acts left aim Stage.Short = refl

  sequel_acts : (after : Sequel) → next.Directory (act_after after) ≡ act_by (act_at g tries job pairs (sequel_state after)) false
  sequel_acts (Sequel.Serve point) = refl
  sequel_acts Sequel.Draw = refl
  sequel_acts (Sequel.Confirm seen target) = refl

  progress_acts : (current : Option GatherOf) (left : List Wanted)
      → act_by_parts g (act_after after) current left
      ≡ act_by (act_at g tries job pairs (state_by g (parts_of left) after current)) (is_due_at (progress_by g current left))
  progress_acts (Some w) left = stage_acts left w.course.aim w.course.stage
  progress_acts None [] = sequel_acts after
  progress_acts None (wanted ∷ left) =
      sym (coding_by (act_at g tries job pairs (open_parts g (parts_of (wanted ∷ left)) after)) (open_goes g tries job pairs after (parts_of (wanted ∷ left))))

pub state_acts : (c : CallOf) (p : GatheringsOf) (after : Sequel) (follows : DirectoryAct) → StandsIn c p after → c.due ≡ is_due p → act_after after ≡ follows
    → act_in p follows ≡ act_now c
state_acts c p after follows stands due so =
    ap (λ step. act_in p step) (sym so)
    ∙ progress_acts p.book.geometry c.tries c.job c.state.pairs after p.current p.left
    ∙ ap (λ (x : CallOf). act_by (act_of x) (is_due p)) (sym (stands_as c p after stands))
    ∙ ap (λ b. act_by (act_of c) b) (sym due)

-- it is in its pass then
pub state_in_pass : (p : GatheringsOf) (after : Sequel) (current : Option GatherOf) (left : List Wanted) (tries : ℕ) (job : Job) (pairs : List (ℕ × ℕ))
    → is_in_pass (act_at p.book.geometry tries job pairs (state_by p.book.geometry (parts_of left) after current)) ≡ true
state_in_pass p after (Some w) left tries job pairs =
    stage_in_pass p.book.geometry tries job pairs after (open_parts p.book.geometry (parts_of left) after) w.course.aim (parts_of left) w.course.stage
    (open_in_pass p.book.geometry tries job pairs after (parts_of left))
state_in_pass p after None left tries job pairs = open_in_pass p.book.geometry tries job pairs after (parts_of left)

pub stands_in_pass : (c : CallOf) (p : GatheringsOf) (after : Sequel) → StandsIn c p after → IsTrue (is_in_pass (act_of c))
stands_in_pass c p after stands =
    subst (λ (x : CallOf). IsTrue (is_in_pass (act_of x))) (sym (stands_as c p after stands))
    (state_in_pass p after p.current p.left c.tries c.job c.state.pairs)

-- a coding that wanted no memory leaves the state and the bytes that are owed
pub handed_state : (p : GatheringsOf) (after : Sequel) → progress_of p ≡ progress.Due → state_in (handed_on p) after ≡ state_in p after
handed_state p after e = next_state p.book.geometry p.left after ∙ sym (due_open p after e)

pub handed_owed : (p : GatheringsOf) → owed (handed_on p) ≡ owed p
handed_owed p =
    append_assoc p.bytes (bytes_at_work p.current) (bytes_at_work (next_of p.book.geometry p.left).0 ++ bytes_of (next_of p.book.geometry p.left).1)
    ∙ ap (λ (l : List ℕ). p.bytes ++ (bytes_at_work p.current ++ l)) (next_bytes p.book.geometry p.left)

-- the coding of gatherings is that of a call that stands in them
codes_at : (c : CallOf) (p : GatheringsOf) (after : Sequel) (short : Bool) → progress_of p ≡ progress.Due → is_due (coded short p) ≡ false
    → after_coding short (standing_call c p after) (coded short p) after ≡ call_coded short (standing_call c p after)
codes_at c p after true e settled =
    let ends : next_call p.book.geometry c.job (record { pairs = c.state.pairs; at = state_in p after }) Told.Short ≡ record { pairs = c.state.pairs; at = State.Ending Outcome.NoMemory } =
    ap (λ at. next_call p.book.geometry c.job (record { pairs = c.state.pairs; at = at }) Told.Short) (due_open p after e)
    ∙ open_short p.book.geometry c.tries c.job c.state.pairs after (parts_of p.left)
    in
    λ i. record (standing_call c p after) { state = sym ends i; due = false; coding = true }
codes_at c p after false e settled =
    λ i. record (standing_call c p after) { state = record { pairs = c.state.pairs; at = handed_state p after e i }; due = settled i; coding = false }

pub call_after_coding : (c : CallOf) (p later : GatheringsOf) (after : Sequel) (short : Bool) → later ≡ coded short p → is_due later ≡ false → progress_of p ≡ progress.Due → StandsIn c p after
    → after_coding short c later after ≡ call_coded short c
call_after_coding c p later after short e settled due stands =
    ap (λ x. after_coding short c x after) e
    ∙ subst (λ (x : CallOf). after_coding short x (coded short p) after ≡ call_coded short x) (sym (stands_as c p after stands)) (codes_at c p after short due (sym (ap is_due e) ∙ settled))
