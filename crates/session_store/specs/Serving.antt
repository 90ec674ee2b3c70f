-- How a store serves a request.
use Rattle.std.specs.Prelude.{⊤, ℕ, ◌+◌, ◌<◌}
use Rattle.session_rules.specs.State.{State}
use Rattle.session_rules.specs.declared.request.Request.{Request}
use Rattle.session_rules.specs.declared.session_answer.Answer.{Answer}
use Rattle.session_rules.specs.Shortages.{IsServed}
use Rattle.session_store.specs.Stored.{StoreOf}
use Rattle.session_store.specs.Standing.{StandsAt}

-- the server that a request names is one of so many
abbrev pub NamesServerBelow : ℕ → Request → Type 0
NamesServerBelow servers (Request.Lose server) = server < servers
NamesServerBelow servers (Request.Rebuild name stripe server) = server < servers
NamesServerBelow servers request = ⊤

-- from a state the request was answered as a session answers it, with memory or without, and the store stands at the state after it
pub record Serves (request : Request) (before : State) (answer : Answer) (now : StoreOf) : Type 0 where
  pub after : State
  pub served : IsServed now.geometry now.max request before (after, answer)
  pub stands : StandsAt now after

-- so it is from each state at which the store stood
abbrev pub ServesAll : Request → StoreOf → Answer → StoreOf → Type 0
ServesAll request old answer now = (before : State) → StandsAt old before → Serves request before answer now

-- but for what it keeps for its requests it is the same store, which has served one more
abbrev pub served_one : StoreOf → StoreOf → StoreOf
served_one old now = record old { served = old.served + 1; kept = now.kept }

-- but for what it keeps for its requests it is the same store
abbrev pub dropped_one : StoreOf → StoreOf → StoreOf
dropped_one old now = record old { kept = now.kept }
