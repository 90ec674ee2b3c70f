-- What the operator's steps at a place are: the first of the script's lines there.
use Rattle.std.specs.Prelude.{◌≡◌, Bool, true, false, List, [], ◌∷◌, ◌++◌, map, filter, All, Option, None, Some, IfSome}
use Rattle.std.specs.List.{flat_map}
use mathlib.Core.List.{IsPrefix}
use Rattle.store_map.specs.declared.actor.Actor.TheVariants as actor
use Rattle.store_map.specs.declared.actor.Token.{Token}
use Rattle.store_map.specs.declared.script.Script.{Script}
use Rattle.store_core.specs.Act.{Act, DirectoryStep, ServerStep}
use Rattle.store_core.specs.ActPlace.{ActPlace}
use Rattle.thread_laws.specs.Lines.{operator_act}
use Rattle.thread_laws.specs.MadeSteps.{MadeStep, acts_at, is_by}
use Rattle.thread_laws.specs.Threaded.{lines_of}
use Rattle.thread_laws.specs.Callers.{IsOperating}

-- a step that only the operator makes, at the directory and at a server
abbrev pub is_reap : DirectoryStep → Bool
is_reap (DirectoryStep.Reap reaped) = true
is_reap step = false

abbrev pub is_outage : ServerStep → Bool
is_outage ServerStep.Wipe = true
is_outage ServerStep.Down = true
is_outage ServerStep.Up = true
is_outage step = false

abbrev pub is_operators : Act → Bool
is_operators (Act.AtDirectory step) = is_reap step
is_operators (Act.AtServer server step) = is_outage step
is_operators (Act.Finish outcome) = false

-- the acts of the lines of a script at a place, in their order
abbrev pub act_listed : Option Act → List Act
act_listed None = []
act_listed (Some act) = act ∷ []

abbrev pub acts_of : List Token → List Act
acts_of lines = flat_map (λ (line : Token). act_listed (operator_act line)) lines

abbrev pub acts_there : ActPlace → List Token → List Act
acts_there place lines = filter (acts_at place) (acts_of lines)

-- of some steps those acts that only the operator does
abbrev pub acts_in : List MadeStep → List Act
acts_in steps = map (λ (m : MadeStep). m.act) steps

abbrev pub operated_in : List MadeStep → List Act
operated_in steps = filter is_operators (acts_in steps)

-- in the history of a place the operator makes such acts alone, and it alone makes them; with a script they are the first of its lines there, in their order
pub record IsOperated (script : Option Script) (place : ActPlace) (steps : List MadeStep) : Type 0 where
  pub whose : All (λ (m : MadeStep). is_operators m.act ≡ is_by actor.Operator m) steps
  pub lines : IfSome script (λ script. IsPrefix (operated_in steps) (acts_there place (lines_of script)))

-- after its own steps at a place this act is the next of its lines there
abbrev pub IsNextThere : Script → ActPlace → List MadeStep → Act → Type 0
IsNextThere script place own act = IsPrefix (acts_in own ++ act ∷ []) (acts_there place (lines_of script))

-- an operator that has a line left makes it next at the line's place
abbrev pub LinesAreNext : Type 0
LinesAreNext =
    (script : Script) (at : ActPlace → List MadeStep) (line : Token) (left : List Token) (place : ActPlace) (act : Act) → IsOperating script at (line ∷ left) →
    operator_act line ≡ Some act → acts_at place act ≡ true → IsNextThere script place (at place) act
