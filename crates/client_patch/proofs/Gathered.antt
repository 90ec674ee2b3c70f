-- A call that stands in its gatherings.
use Rattle.std.proofs.Common.{◌≡◌, ℕ, true, false, List, [], ◌∷◌, Option, None, Some, refl}
use Rattle.clay_grid.specs.Shape.{Shape}
use Rattle.store_core.specs.Act.{Act, Outcome as CoreOutcome}
use Rattle.store_core.specs.Gathering.{Part}
use Rattle.store_core.specs.NextAct.{Job}
use Rattle.run_laws.specs.Stage.{Aim, Asking, Stage}
use Rattle.run_laws.specs.Stages.{first_stage}
use Rattle.run_laws.specs.State.{Sequel, State}
use Rattle.run_laws.specs.States.{stage_state, open_parts}
use Rattle.run_laws.specs.StateActs.{act_at}
use Rattle.call_steps.specs.declared.need.Need.TheVariants as need
use Rattle.call_steps.specs.Steps.{need_by}
use Rattle.gather_parts.specs.Wanted.{Wanted, parts_of}
use Rattle.gather_parts.specs.Gatherings.{GatherOf, GatheringsOf}
use Rattle.gather_parts.specs.Progress.{progress_at, progress_by, progress_of, is_due_at, is_due}
use Rattle.gather_parts.specs.States.{state_by, state_in}
use Rattle.call_steps.specs.Ends.{point_ended, point_of}
use Rattle.client_patch.specs.Known.{UpToDraw}
use Rattle.client_patch.specs.Holds.{IsUngathered}

-- how gatherings end without their bytes
pub record EndsSo (at : State) : Type 0 where
  pub outcome : CoreOutcome
  pub is : at ≡ State.Ending outcome
  pub pointless : point_ended outcome ≡ None

module _ (g : Shape) (parts : List Part) where
  ends_by : (current : Option GatherOf) (left : List Wanted) → IsUngathered (progress_by g current left) → EndsSo (state_by g parts Sequel.Draw current)
  ends_by None [] h = absurd h
  ends_by None (wanted ∷ left) h = absurd h
  ends_by (Some w) left h = by w.course.stage h
    where
      by : (stage : Stage) → IsUngathered (progress_at g w.course.aim stage)
          → EndsSo (stage_state (open_parts g parts Sequel.Draw) w.course.aim parts Sequel.Draw stage)
      by (Stage.Asks asking) h = absurd h
      by Stage.HasBytes h = absurd h
      by (Stage.TooMany missing) h = record { outcome = _; is = refl; pointless = refl }
      by Stage.AtTarget h = record { outcome = _; is = refl; pointless = refl }
      by (Stage.TargetAway downs) h = record { outcome = _; is = refl; pointless = refl }
      by Stage.Short h = record { outcome = _; is = refl; pointless = refl }

pub ungathered_ends : (p : GatheringsOf) → IsUngathered (progress_of p) → EndsSo (state_in p Sequel.Draw)
ungathered_ends p h = ends_by p.book.geometry (parts_of p.left) p.current p.left h

-- while it gathers there is no point
module _ (g : Shape) where
  stage_pointless : (bytes : State) (aim : Aim) (parts : List Part) (stage : Stage) → None ≡ point_of bytes → None ≡ point_of (stage_state bytes aim parts Sequel.Draw stage)
  stage_pointless bytes aim parts (Stage.Asks asking) h = refl
  stage_pointless bytes aim parts Stage.HasBytes h = h
  stage_pointless bytes aim parts (Stage.TooMany missing) h = refl
  stage_pointless bytes aim parts Stage.AtTarget h = refl
  stage_pointless bytes aim parts (Stage.TargetAway downs) h = refl
  stage_pointless bytes aim parts Stage.Short h = refl

  open_pointless : (parts : List Part) → None ≡ point_of (open_parts g parts Sequel.Draw)
  open_pointless [] = refl
  open_pointless (part ∷ parts) = stage_pointless (open_parts g parts Sequel.Draw) (Aim.Range part) parts (first_stage g (Aim.Range part)) (open_pointless parts)

  pointless_by : (parts : List Part) (current : Option GatherOf) → None ≡ point_of (state_by g parts Sequel.Draw current)
  pointless_by parts None = open_pointless parts
  pointless_by parts (Some w) = stage_pointless (open_parts g parts Sequel.Draw) w.course.aim parts w.course.stage (open_pointless parts)

pub gathering_pointless : (p : GatheringsOf) → None ≡ point_of (state_in p Sequel.Draw)
gathering_pointless p = pointless_by p.book.geometry (parts_of p.left) p.current

-- a server is asked up to the draw
no_server : (act : Act) (server : ℕ) → need_by act true ≡ need.Server server → ⊥
no_server (Act.Finish outcome) server e = cc
no_server (Act.AtDirectory step) server e = cc
no_server (Act.AtServer other step) server e = cc

module _ (g : Shape) (tries : ℕ) (job : Job) (pairs : List (ℕ × ℕ)) (H : Type 0) where
  asks_by : (parts : List Part) (current : Option GatherOf) (left : List Wanted) (server : ℕ)
      → need_by (act_at g tries job pairs (state_by g parts Sequel.Draw current)) (is_due_at (progress_by g current left)) ≡ need.Server server
      → UpToDraw (state_by g parts Sequel.Draw current) H → H
  asks_by parts None (wanted ∷ left) server e h = absurd (no_server (act_at g tries job pairs (open_parts g parts Sequel.Draw)) server e)
  asks_by parts None [] server e h = open_by parts e h
    where
      stage_by : (part : Part) (parts : List Part) (stage : Stage) → need_by (act_at g tries job pairs (stage_state (open_parts g parts Sequel.Draw) (Aim.Range part) parts Sequel.Draw stage)) false ≡ need.Server server
          → UpToDraw (stage_state (open_parts g parts Sequel.Draw) (Aim.Range part) parts Sequel.Draw stage) H → (need_by (act_at g tries job pairs (open_parts g parts Sequel.Draw)) false ≡ need.Server server → UpToDraw (open_parts g parts Sequel.Draw) H → H) → H
      stage_by part parts (Stage.Asks asking) e h on = h
      stage_by part parts Stage.HasBytes e h on = on e h
      stage_by part parts (Stage.TooMany missing) e h on = absurd (cc)
      stage_by part parts Stage.AtTarget e h on = absurd (cc)
      stage_by part parts (Stage.TargetAway downs) e h on = absurd (cc)
      stage_by part parts Stage.Short e h on = absurd (cc)

      open_by : (parts : List Part) → need_by (act_at g tries job pairs (open_parts g parts Sequel.Draw)) false ≡ need.Server server → UpToDraw (open_parts g parts Sequel.Draw) H → H
      open_by [] e h = h
      open_by (part ∷ parts) e h = stage_by part parts (first_stage g (Aim.Range part)) e h (open_by parts)
  asks_by parts (Some w) left server e h = by w.course.stage e h
    where
      by : (stage : Stage) → need_by (act_at g tries job pairs (stage_state (open_parts g parts Sequel.Draw) w.course.aim parts Sequel.Draw stage)) (is_due_at (progress_at g w.course.aim stage)) ≡ need.Server server
          → UpToDraw (stage_state (open_parts g parts Sequel.Draw) w.course.aim parts Sequel.Draw stage) H → H
      by (Stage.Asks asking) e h = h
      by Stage.HasBytes e h = absurd (no_server (act_at g tries job pairs (open_parts g parts Sequel.Draw)) server e)
      by (Stage.TooMany missing) e h = absurd (cc)
      by Stage.AtTarget e h = absurd (cc)
      by (Stage.TargetAway downs) e h = absurd (cc)
      by Stage.Short e h = absurd (cc)

pub asks_up_to_draw : (H : Type 0) (p : GatheringsOf) (tries : ℕ) (job : Job) (pairs : List (ℕ × ℕ)) (server : ℕ)
    → need_by (act_at p.book.geometry tries job pairs (state_in p Sequel.Draw)) (is_due p) ≡ need.Server server → UpToDraw (state_in p Sequel.Draw) H → H
asks_up_to_draw H p tries job pairs server e h = asks_by p.book.geometry tries job pairs H (parts_of p.left) p.current p.left server e h

-- what is known holds at any state
pub known_at : (H : Type 0) (at : State) → H → UpToDraw at H
known_at H (State.Gather aim asking parts after) h = h
known_at H State.Drawing h = h
known_at H State.Start h = tt
known_at H (State.Parts part parts after) h = tt
known_at H (State.Chunk seen target) h = tt
known_at H (State.Preparing stripe version server servers row later placed versions) h = tt
known_at H (State.Committing versions placed) h = tt
known_at H (State.Committed versions) h = tt
known_at H (State.Settling point place places) h = tt
known_at H (State.Confirming seen target) h = tt
known_at H (State.Installing seen target) h = tt
known_at H (State.Placing target epoch) h = tt
known_at H (State.Ending outcome) h = tt
known_at H (State.Finished outcome) h = tt

-- what is so at questions, before the draw and at ends is so while it gathers
module _ {A : Type 0} (f : State → A) (v : A) (asked : (aim : Aim) (asking : Asking) (parts : List Part) (after : Sequel) → f (State.Gather aim asking parts after) ≡ v)
    (drawing : f State.Drawing ≡ v) (ending : (outcome : CoreOutcome) → f (State.Ending outcome) ≡ v) (g : Shape) where
  stage_gives : (bytes : State) (aim : Aim) (parts : List Part) (stage : Stage) → f bytes ≡ v → f (stage_state bytes aim parts Sequel.Draw stage) ≡ v
  stage_gives bytes aim parts (Stage.Asks asking) h = asked aim asking parts Sequel.Draw
  stage_gives bytes aim parts Stage.HasBytes h = h
  stage_gives bytes aim parts (Stage.TooMany missing) h = ending _
  stage_gives bytes aim parts Stage.AtTarget h = ending _
  stage_gives bytes aim parts (Stage.TargetAway downs) h = ending _
  stage_gives bytes aim parts Stage.Short h = ending _

  open_gives : (parts : List Part) → f (open_parts g parts Sequel.Draw) ≡ v
  open_gives [] = drawing
  open_gives (part ∷ parts) = stage_gives (open_parts g parts Sequel.Draw) (Aim.Range part) parts (first_stage g (Aim.Range part)) (open_gives parts)

  pub gives_by : (parts : List Part) (current : Option GatherOf) → f (state_by g parts Sequel.Draw current) ≡ v
  gives_by parts None = open_gives parts
  gives_by parts (Some w) = stage_gives (open_parts g parts Sequel.Draw) w.course.aim parts w.course.stage (open_gives parts)

pub gathering_gives : {A : Type 0} (f : State → A) (v : A) → ((aim : Aim) (asking : Asking) (parts : List Part) (after : Sequel) → f (State.Gather aim asking parts after) ≡ v)
    → f State.Drawing ≡ v → ((outcome : CoreOutcome) → f (State.Ending outcome) ≡ v) → (p : GatheringsOf) → f (state_in p Sequel.Draw) ≡ v
gathering_gives f v asked drawing ending p = gives_by f v asked drawing ending p.book.geometry (parts_of p.left) p.current
