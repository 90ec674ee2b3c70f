-- The whole script that is drawn from a number.
use Rattle.std.specs.Prelude.{ℕ, ◌*◌, ◌/◌, List, [], ◌∷◌, ◌++◌, None, Some}
use Rattle.clay_grid.specs.Shape.{shape_of}
use Rattle.store_map.specs.declared.actor.Token.{Token}
use Rattle.store_map.specs.declared.actor.Token.TheVariants.{Drain}
use Rattle.store_map.specs.declared.script.ClientPart.{ClientPart}
use Rattle.store_map.specs.declared.script.RepairPart.{RepairPart}
use Rattle.store_map.specs.declared.script.Script.{Script}
use Rattle.clay_gen.specs.Sequence.{drawn, behind_all}
use Rattle.clay_gen.specs.Calls.{call_from, behind_call, rebuild_from, behind_rebuild}
use Rattle.clay_gen.specs.Steps.{step_from, behind_step}

-- a client with so many calls
abbrev pub client_from : ℕ → ℕ → ClientPart
client_from count state = record { calls = drawn call_from behind_call count state; leave = None }

-- the state behind it
abbrev pub behind_client : ℕ → ℕ → ℕ
behind_client count state = behind_all behind_call count state

-- four clients
abbrev pub clients_from : ℕ → ℕ → List ClientPart
clients_from count state = drawn (client_from count) (behind_client count) 4 state

-- the state behind them
abbrev pub behind_clients : ℕ → ℕ → ℕ
behind_clients count state = behind_all (behind_client count) 4 state

-- a repairer with so many rebuilds
abbrev pub repairers_from : ℕ → ℕ → List RepairPart
repairers_from count state = record { calls = drawn rebuild_from behind_rebuild count state; leave = None } ∷ []

-- so many steps, and a drain behind them
abbrev pub schedule_from : ℕ → ℕ → List Token
schedule_from count state = drawn step_from behind_step count state ++ Drain ∷ []

-- clients of so many calls each, a quarter as many rebuilds, and two steps a call
abbrev pub generated : ℕ → ℕ → Script
generated start size = record {
  form = 1;
  geometry = shape_of 4 2 16;
  size = Some 4096;
  tries = None;
  clients = clients_from size start;
  repairers = repairers_from (size / 4) (behind_clients size start);
  schedule = schedule_from (8 * size) (behind_all behind_rebuild (size / 4) (behind_clients size start));
}
