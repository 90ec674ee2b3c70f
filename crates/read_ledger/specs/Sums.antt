-- What a call takes, by the answers that gave it subchunks.
use Rattle.std.specs.Prelude.{◌≡◌, ℕ, ◌-◌, ◌^◌, ◌<◌, min, nat_eq, List, length, fold, replicate, sum_by, slice_get, Some, if◌then◌else◌}
use Rattle.store_core.specs.Told.{Told}
use Rattle.store_core.specs.Act.{Act, ServerStep}
use Rattle.store_core.specs.Step.{take_from}

-- a server's answer to a step that gave so many subchunks
pub record Given : Type 0 where
  pub server : ℕ
  pub step : ServerStep
  pub layers : ℕ

-- the takes after one answer more
abbrev pub with_given : List ℕ → Given → List ℕ
with_given takes given = take_from (Act.AtServer given.server given.step) (Told.Given given.layers) takes

-- the subchunks that the server gave in all
abbrev pub given_by : ℕ → List Given → ℕ
given_by server answers = sum_by (λ (given : Given). if nat_eq given.server server then given.layers else 0) answers

-- of each server that there is, the takes are that sum; a count of 64 bits stays at its last value
pub record AreSums (servers : ℕ) (answers : List Given) : Type 0 where
  pub count : length (fold with_given (replicate servers 0) answers) ≡ servers
  pub sums :
      (server : ℕ) → server < servers →
      slice_get (fold with_given (replicate servers 0) answers) server ≡ Some (min (given_by server answers) (2 ^ 64 - 1))
