-- The steps that no request's state shows: all but commits, deletes, losses and chunks that are placed anew.
use Rattle.std.specs.Prelude.{◌≢◌, ◌<◌, ◌≤◌, ℕ, Bool, List, length, ⊤}
use Rattle.clay_grid.specs.Shape.{Shape, stripe_length}
use Rattle.store_map.specs.declared.actor.Actor.{Actor}
use Rattle.store_core.specs.Note.{Kind}
use Rattle.store_core.specs.Act.{Act, DirectoryStep, ServerStep}
use Rattle.store_core.specs.Conditions.{MayStep}
use Rattle.store_core.specs.Step.{Places, at_places}
use Rattle.session_rules.specs.State.{State}
use Rattle.session_rules.specs.Seen.{IsSeenAs}
use Rattle.session_rules.specs.Sweeps.{IsUnseen}

-- at a server: what changes no holdings, or those of a version that stands for no live number
abbrev pub IsUnseenThere : List ℕ → State → ServerStep → Type 0
IsUnseenThere stands s (ServerStep.Prepare version) = IsUnseen stands s version
IsUnseenThere stands s (ServerStep.Discard version) = IsUnseen stands s version
IsUnseenThere stands s (ServerStep.Settle version) = ⊤
IsUnseenThere stands s (ServerStep.Has version) = ⊤
IsUnseenThere stands s (ServerStep.Fetch version layers) = ⊤
IsUnseenThere stands s step = ⊥

-- at the directory
abbrev pub IsUnseenStep : DirectoryStep → Type 0
IsUnseenStep (DirectoryStep.Look note) = note.kind ≢ Kind.Delete
IsUnseenStep (DirectoryStep.LookRepair note) = ⊤
IsUnseenStep DirectoryStep.Draw = ⊤
IsUnseenStep DirectoryStep.End = ⊤
IsUnseenStep DirectoryStep.Confirm = ⊤
IsUnseenStep DirectoryStep.NextGarbage = ⊤
IsUnseenStep (DirectoryStep.Swept version) = ⊤
IsUnseenStep step = ⊥

-- each leaves places that are seen as the same state, whether or not memory was wanting
pub record StepsAreUnseen : Type 0 where
  pub at_directory :
      (g : Shape) (max : ℕ) (stands : List ℕ) (p : Places) (s : State) (short : Bool) (who : Actor) (number : ℕ) (step : DirectoryStep) →
      0 < stripe_length g → IsSeenAs g max stands p s → MayStep p.directory who number step → IsUnseenStep step →
      IsSeenAs g max stands (at_places short who number (Act.AtDirectory step) p).0 s
  pub at_server :
      (g : Shape) (max : ℕ) (stands : List ℕ) (p : Places) (s : State) (short : Bool) (who : Actor) (number server : ℕ) (step : ServerStep) →
      IsSeenAs g max stands p s → IsUnseenThere stands s step → IsSeenAs g max stands (at_places short who number (Act.AtServer server step) p).0 s
  -- a version that is drawn from now on stands for no live number
  pub drawn :
      (g : Shape) (max : ℕ) (stands : List ℕ) (p : Places) (s : State) (version : ℕ) → 0 < stripe_length g → IsSeenAs g max stands p s →
      length p.directory.versions ≤ version → IsUnseen stands s version
