-- What a step of a call leaves of its actor.
use Rattle.std.specs.Prelude.{◌≡◌, ℕ, ◌+◌, List, [], ◌∷◌, ◌++◌, replicate}
use Rattle.clay_grid.specs.Shape.{Shape, chunk_count}
use Rattle.store_core.specs.Act.{Act, Outcome}
use Rattle.store_core.specs.NextAct.{Job}
use Rattle.store_core.specs.Step.{Places}
use Rattle.store_core.specs.Work.{Calling}
use Rattle.call_steps.specs.CallOf.{CallOf, act_of}
use Rattle.call_steps.specs.Stands.{Stands}

-- the call goes on: the machine's new value stands for the actor, which has made one step more
pub record GoesOn (g : Shape) (most : ℕ) (its : Job) (before now : Calling) (c : CallOf) : Type 0 where
  pub stands : Stands g most its now c
  pub ended : now.ended ≡ before.ended
  pub steps : now.steps ≡ before.steps + 1

-- the actor whose call ended so, having taken this; its next call has not begun
abbrev pub ended_with : Shape → Outcome → List ℕ → Calling → Calling
ended_with g outcome takes before =
    record { ended = before.ended ++ record { outcome = outcome; takes = takes } ∷ []; told = []; takes = replicate (chunk_count g) 0; steps = 0 }

-- by what the machine's new value does next: where that is an end, the call has ended so, with what the machine took
abbrev pub StandsAfterBy : Act → Shape → ℕ → Job → Calling → Calling → CallOf → Type 0
StandsAfterBy (Act.Finish outcome) g most its before now c = now ≡ ended_with g outcome c.takes before
StandsAfterBy act g most its before now c = GoesOn g most its before now c

-- the actor before and after a step that led the machine to this value
abbrev pub StandsAfter : Shape → ℕ → Job → Calling → Calling → CallOf → Type 0
StandsAfter g most its before now c = StandsAfterBy (act_of c) g most its before now c

-- a step of the actor's call leaves these places, and the actor as the machine's new value has it
pub record StepsTo (g : Shape) (most : ℕ) (its : Job) (before : Calling) (made : Places × Calling) (left : Places) (c : CallOf) : Type 0 where
  pub places : made.0 ≡ left
  pub actor : StandsAfter g most its before made.1 c
