-- The operator's list: its lines of the script, one step each.
use Rattle.std.specs.Prelude.{◌≡◌, List, [], ◌∷◌, Option, None, Some}
use Rattle.store_map.specs.declared.actor.Actor.{Actor}
use Rattle.store_map.specs.declared.actor.Actor.TheVariants as actor
use Rattle.store_map.specs.declared.actor.Token.{Token}
use Rattle.store_map.specs.declared.actor.Token.TheVariants as token
use Rattle.store_core.specs.Act.{Act, DirectoryStep, ServerStep}
use Rattle.thread_laws.specs.MadeSteps.{MadeStep}
use Rattle.thread_laws.specs.ByActors.{HasNoCall}

-- what a line of the operator does
abbrev pub operator_act : Token → Option Act
operator_act (token.Wipe server) = Some (Act.AtServer server ServerStep.Wipe)
operator_act (token.Down server) = Some (Act.AtServer server ServerStep.Down)
operator_act (token.Up server) = Some (Act.AtServer server ServerStep.Up)
operator_act (token.ReapClient i) = Some (Act.AtDirectory (DirectoryStep.Reap (actor.Client i)))
operator_act (token.ReapRepairer i) = Some (Act.AtDirectory (DirectoryStep.Reap (actor.Repairer i)))
operator_act _ = None

-- the lines that are left after a step
abbrev pub lines_next : MadeStep → List Token → List Token
lines_next m [] = []
lines_next m (line ∷ lines) = lines

-- the step is that of the next line
abbrev pub IsNextLine : MadeStep → List Token → Type 0
IsNextLine m [] = ⊥
IsNextLine m (line ∷ lines) = (operator_act line ≡ Some m.act) × HasNoCall m

-- the line of an act of the operator
abbrev pub line_of : Act → Token
line_of (Act.AtServer server ServerStep.Down) = token.Down server
line_of (Act.AtServer server ServerStep.Up) = token.Up server
line_of (Act.AtServer server step) = token.Wipe server
line_of (Act.AtDirectory (DirectoryStep.Reap (actor.Client i))) = token.ReapClient i
line_of (Act.AtDirectory (DirectoryStep.Reap (actor.Repairer i))) = token.ReapRepairer i
line_of _ = token.Wipe 0

-- the token of a step
abbrev pub token_by : Actor → Act → Token
token_by (actor.Client i) act = token.Client i
token_by (actor.Repairer i) act = token.Repairer i
token_by actor.Sweeper act = token.Sweep
token_by actor.Operator act = line_of act

abbrev pub token_of : MadeStep → Token
token_of m = token_by m.actor m.act
