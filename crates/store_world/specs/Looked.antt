-- Where a call that reads can stand after its look.
use Rattle.std.specs.Prelude.{⊤}
use Rattle.run_laws.specs.State.{Sequel, State}

-- a gathering whose bytes are served
abbrev pub IsServing : Sequel → Type 0
IsServing (Sequel.Serve point) = ⊤
IsServing after = ⊥

-- at its gatherings or at its end
abbrev pub HasLooked : State → Type 0
HasLooked (State.Parts part parts after) = IsServing after
HasLooked (State.Gather aim asking parts after) = IsServing after
HasLooked (State.Ending outcome) = ⊤
HasLooked (State.Finished outcome) = ⊤
HasLooked at = ⊥
