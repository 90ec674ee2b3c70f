-- What a drain is in a trace, round by round.
use Rattle.std.specs.Prelude.{◌≡◌, ℕ, zero, suc, ◌+◌, ◌-◌, ◌^◌, ◌<◌, true, false, List, [], ◌∷◌, ◌++◌}
use Rattle.clay_grid.specs.Limits.{IsGeometry}
use Rattle.store_map.specs.Naming.{IsValid}
use Rattle.store_map.specs.declared.actor.Token.{Token}
use Rattle.store_map.specs.declared.actor.Token.TheVariants as token
use Rattle.store_map.specs.declared.script.Script.{Script}
use Rattle.store_core.specs.Run.{Run}
use Rattle.store_core.specs.Schedule.{is_unfinished, run_tokens}
use Rattle.store_core.specs.Step.{Shortage}
use Rattle.run_laws.specs.RoundLaws.{rounds}
use Rattle.history_laws.specs.Trace.{Made}
use Rattle.history_laws.specs.Steps.{first_run, run_trace}
use Rattle.world_laws.specs.World.{WorldOf}
use Rattle.world_laws.specs.Known.{core_of}
use Rattle.world_laws.specs.RunLaws.{ReachesInDrain}
use Rattle.world_laws.specs.Traced.{IsTracedBy, IsTraced, GoesTelling}
use Rattle.world_laws.specs.RoundTells.{round_made, RoundTells}

-- the steps of so many rounds from a run on
abbrev pub rounds_made : ℕ → Script → Run → List Made
rounds_made zero script run = []
rounds_made (suc n) script run = rounds_made n script run ++ round_made script (rounds n script run)

-- so many rounds after these tokens come to the world, and these steps were made
pub record IsTracedInDrain (script : Script) (tokens : List Token) (count : ℕ) (shortages : List Shortage) (w : WorldOf) (made : List Made) : Type 0 where
  pub reaches : ReachesInDrain script tokens count shortages w
  pub traced :
      (more : List Shortage) →
      run_trace script (shortages ++ more) tokens ++ rounds_made count script (run_tokens script tokens (first_run script (shortages ++ more))) ≡ made

-- the same with these shortages and then some more
pub record IsTracedInDrainAfter (script : Script) (tokens : List Token) (count : ℕ) (shortages : List Shortage) (w : WorldOf) (made : List Made) : Type 0 where
  pub more : List Shortage
  pub by : IsTracedInDrain script tokens count (shortages ++ more) w made

-- whatever tokens reach the first world, with whatever shortages and trace, so many rounds after them reach the second one with the same shortages before, and these steps were made in them
abbrev pub GoesTellingByRounds : Script → ℕ → WorldOf → WorldOf → List Made → Type 0
GoesTellingByRounds script count w after made =
    (tokens : List Token) (shortages : List Shortage) (before : List Made) → IsTracedBy script tokens shortages w before →
    IsTracedInDrainAfter script tokens count shortages after (before ++ made)

-- a drain begins with no round and no step and goes on by rounds; somebody has a step only before fewer rounds than a count of 64 bits holds; where nobody has one, the drain is made, and its steps are those of the rounds
pub record DrainsTell (script : Script) : Type 0 where
  pub begins : (w : WorldOf) → GoesTellingByRounds script 0 w w []
  pub next :
      (count : ℕ) (w middle after : WorldOf) (made more : List Made) → GoesTellingByRounds script count w middle made →
      RoundTells script middle after more → GoesTellingByRounds script (count + 1) w after (made ++ more)
  pub fits :
      (count : ℕ) (w after : WorldOf) (made : List Made) → IsTraced script w → GoesTellingByRounds script count w after made →
      is_unfinished script (core_of script after) ≡ true → count < 2 ^ 64 - 1
  pub ends :
      (count : ℕ) (w after : WorldOf) (made : List Made) → GoesTellingByRounds script count w after made →
      is_unfinished script (core_of script after) ≡ false → GoesTelling script (token.Drain ∷ []) w after made

-- so it is in every drain of a valid script
abbrev pub DrainsOfValidScriptsTell : Type 0
DrainsOfValidScriptsTell = (script : Script) → IsGeometry script.geometry → IsValid script → DrainsTell script
