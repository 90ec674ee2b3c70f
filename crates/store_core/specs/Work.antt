-- What an actor has to do, and whether it has a step.
use Rattle.std.specs.Prelude.{ℕ, ◌-◌, Bool, false, not, ◌&&◌, ◌||◌, nat_eq, nat_lt, List, [], ◌∷◌, length, map, replicate, Option, None, Some}
use Rattle.store_map.specs.declared.script.Script.{Script}
use Rattle.store_core.specs.Told.{Told}
use Rattle.store_core.specs.Act.{Outcome}
use Rattle.store_core.specs.NextAct.{Job, job_of, rebuild_job}

-- a call that has its outcome, and the subchunks that it took from each server
pub record Ended : Type 0 where
  pub outcome : Outcome
  pub takes : List ℕ

-- an actor's calls that have ended, in order; of the next one what it was told, what it took, and the steps that it made
pub record Calling : Type 0 where
  pub ended : List Ended
  pub told : List Told
  pub takes : List ℕ
  pub steps : ℕ

-- what an actor has to do: its jobs in order, and the step limit of the last one
pub record Work : Type 0 where
  pub jobs : List Job
  pub leave : Option ℕ

-- what the script's clients have to do
abbrev pub client_work : Script → List Work
client_work script = map (λ part. record { jobs = map job_of part.calls; leave = part.leave }) script.clients

-- what its repairers have to do
abbrev pub repairer_work : Script → List Work
repairer_work script = map (λ part. record { jobs = map rebuild_job part.calls; leave = part.leave }) script.repairers

-- an actor before its first call
abbrev pub new_calling : ℕ → Calling
new_calling servers = record { ended = []; told = []; takes = replicate servers 0; steps = 0 }

-- a last call under a step limit that has made as many steps without an outcome is abandoned
abbrev pub is_abandoned : Option ℕ → ℕ → ℕ → Bool
is_abandoned None left steps = false
is_abandoned (Some limit) left steps = nat_eq left 1 && not (nat_lt steps limit)

-- whether the actor has a step: a call is left that isn't abandoned
abbrev pub has_step : Work → Calling → Bool
has_step work actor =
    let left : ℕ = length work.jobs - length actor.ended in
    nat_lt 0 left && not (is_abandoned work.leave left actor.steps)

-- whether one of the actors has a step
abbrev pub any_has_step : List Work → List Calling → Bool
any_has_step [] actors = false
any_has_step (work ∷ more) [] = false
any_has_step (work ∷ more) (actor ∷ actors) = has_step work actor || any_has_step more actors
