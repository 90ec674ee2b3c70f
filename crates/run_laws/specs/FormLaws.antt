-- In form 1 no server is ever away.
use Rattle.std.specs.Prelude.{◌≡◌, false, List, All, ⊤}
use Rattle.clay_grid.specs.Limits.{IsGeometry}
use Rattle.store_map.specs.Naming.{IsValid}
use Rattle.store_map.specs.declared.actor.Token.{Token}
use Rattle.store_map.specs.declared.actor.Token.TheVariants as token
use Rattle.store_map.specs.declared.script.Script.{Script}
use Rattle.store_core.specs.Schedule.{run_core}
use Rattle.store_core.specs.Server.{Server}
use Rattle.store_core.specs.Step.{Shortage}

-- a token that makes no server away or present
abbrev pub IsOfFormOne : Token → Type 0
IsOfFormOne (token.Down server) = ⊥
IsOfFormOne (token.Up server) = ⊥
IsOfFormOne _ = ⊤

-- a server that was never made away
pub record WasNeverAway (s : Server) : Type 0 where
  pub downs : s.downs ≡ 0
  pub away : s.away ≡ false

-- the schedule of a valid script of form 1 has such tokens alone, and with these no server is made away
pub record FormOneHasNoneAway (script : Script) : Type 0 where
  pub schedule : script.form ≡ 1 → All IsOfFormOne script.schedule
  pub servers : (shortages : List Shortage) (tokens : List Token) → All IsOfFormOne tokens → All WasNeverAway (run_core script shortages tokens).servers

-- so in every run of a valid script
abbrev pub ServersStayInFormOne : Type 0
ServersStayInFormOne = (script : Script) → IsGeometry script.geometry → IsValid script → FormOneHasNoneAway script
