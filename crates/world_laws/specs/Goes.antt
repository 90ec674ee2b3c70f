-- A world that is reached by tokens, and how tokens lead from one world to another.
use Rattle.std.specs.Prelude.{List, [], ◌∷◌, ◌++◌}
use Rattle.store_map.specs.declared.actor.Token.{Token}
use Rattle.store_map.specs.declared.script.Script.{Script}
use Rattle.store_core.specs.Run.{Run}
use Rattle.store_core.specs.Schedule.{step_core}
use Rattle.store_core.specs.Step.{Shortage}
use Rattle.world_laws.specs.World.{WorldOf}
use Rattle.world_laws.specs.FirstWorld.{IsFirstWorld}
use Rattle.world_laws.specs.Leads.{LeadsWorld}
use Rattle.world_laws.specs.RunLaws.{Reaches}

-- exactly these tokens reach the world, with some shortages, as many as their steps use up
pub record IsReachedBy (script : Script) (tokens : List Token) (w : WorldOf) : Type 0 where
  pub shortages : List Shortage
  pub reaches : Reaches script tokens shortages w

-- some tokens reach it
pub record IsReached (script : Script) (w : WorldOf) : Type 0 where
  pub tokens : List Token
  pub by : IsReachedBy script tokens w

-- a part of a run leads from one world to another, with some shortages
pub record Leads (script : Script) (part : Run → Run) (w after : WorldOf) : Type 0 where
  pub shortages : List Shortage
  pub leads : LeadsWorld script part w shortages after

-- these tokens reach the world with these shortages and then some more
pub record IsReachedAfter (script : Script) (tokens : List Token) (shortages : List Shortage) (w : WorldOf) : Type 0 where
  pub more : List Shortage
  pub reaches : Reaches script tokens (shortages ++ more) w

-- whatever tokens reach the first world, with whatever shortages, these after them reach the second one with the same shortages before: it goes on from the first
abbrev pub GoesBy : Script → List Token → WorldOf → WorldOf → Type 0
GoesBy script next w after =
    (tokens : List Token) (shortages : List Shortage) → Reaches script tokens shortages w → IsReachedAfter script (tokens ++ next) shortages after

-- the first world is reached by no token; a token's step goes by that token; no tokens lead nowhere else, and tokens go on after others
pub record WorldsGoOn (script : Script) : Type 0 where
  pub first : (w : WorldOf) → IsFirstWorld script w → IsReachedBy script [] w
  pub step : (token : Token) (w after : WorldOf) → Leads script (step_core script token) w after → GoesBy script (token ∷ []) w after
  pub none : (w : WorldOf) → GoesBy script [] w w
  pub then :
      (tokens more : List Token) (w middle after : WorldOf) → GoesBy script tokens w middle → GoesBy script more middle after → GoesBy script (tokens ++ more) w after
  pub reached : (tokens : List Token) (w after : WorldOf) → GoesBy script tokens w after → IsReached script w → IsReached script after
