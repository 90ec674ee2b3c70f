-- The steps that are drawn from a sequence.
use Rattle.std.specs.Prelude.{ℕ, nat_eq, if◌then◌else◌}
use Rattle.store_map.specs.declared.actor.Token.{Token}
use Rattle.store_map.specs.declared.actor.Token.TheVariants.{Client, Repairer, Sweep, Wipe}
use Rattle.clay_gen.specs.Sequence.{state_after, pick}

-- a step by its kind, and by the state behind that
abbrev pub step_by : ℕ → ℕ → Token
step_by kind state =
    if nat_eq kind 0 then Wipe (pick state 0 6)
    else (if nat_eq kind 1 then Repairer 0
    else (if nat_eq kind 2 then Sweep
    else Client (pick state 0 4)))

-- how many numbers it takes behind its kind
abbrev pub picks_of : ℕ → ℕ
picks_of kind = if nat_eq kind 1 then 0 else (if nat_eq kind 2 then 0 else 1)

-- one step: of 32 kinds one empties a server, one is the repairer's, one the sweeper's, and the others are a client's
abbrev pub step_from : ℕ → Token
step_from state = step_by (pick state 0 32) (state_after 1 state)

-- the state behind it
abbrev pub behind_step : ℕ → ℕ
behind_step state = state_after (picks_of (pick state 0 32)) (state_after 1 state)
