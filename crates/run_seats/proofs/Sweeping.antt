-- The sweeper's step at its place.
use Rattle.std.proofs.Common.{◌≡◌, ℕ, ◌<◌, Bool, true, false, List, [], ◌∷◌, ◌++◌, nat_lt, Option, Some, if◌then◌else◌, refl, sym, ap, subst, ◌∙◌}
use Rattle.std.proofs.lemmas.Option.{same_Some}
use Rattle.clay_grid.specs.Shape.{stripe_length}
use Rattle.store_map.specs.declared.actor.Actor.TheVariants as actor
use Rattle.store_core.specs.Act.{Act, DirectoryStep, ServerStep}
use Rattle.store_core.specs.ActPlace.{place_of}
use Rattle.store_core.specs.Directory.{Directory}
use Rattle.store_core.specs.Server.{Server}
use Rattle.store_core.specs.Sound.{IsSound}
use Rattle.store_core.specs.Sweep.{Sweeper}
use Rattle.thread_laws.specs.MadeSteps.{MadeStep}
use Rattle.stripe_stamps.specs.Sealed.{Sealed}
use Rattle.call_steps.specs.declared.need.Need.TheVariants as need
use Rattle.call_steps.proofs.Needs.{server_in}
use Rattle.sweeper.specs.Sweeps.{SweeperOf, act_of, need_at, need_of, at_directory_by, at_server_by, stepped_at_directory, stepped_at_server}
use Rattle.turn_lock.specs.History.{Among, GoesOn}
use Rattle.thread_laws.specs.AtDirectory.{StandsAtDirectory}
use Rattle.thread_laws.specs.AtServer.{StandsAtServer}
use Rattle.thread_laws.specs.Noted.{Noted}
use Rattle.thread_laws.specs.Numbers.{Counts, IsTurnOf}
use Rattle.run_seats.specs.Plain.{plain_at_server, plain_at_directory, HasSweptAtServer, HasSweptAtDirectory, IsSweepAtServer, IsSweepAtDirectory}
use Rattle.run_seats.specs.Fixed.{counts_of, counts_there}
use Rattle.run_seats.specs.declared.server_box.ServerIdentity.{ServerIdentity}
use Rattle.run_seats.specs.declared.directory_box.DirectoryIdentity.{DirectoryIdentity}
use Rattle.run_seats.proofs.PlainSteps.{IsPlain, plain_stands, plain_added, plain_stands_there, plain_added_there}

-- ---- what it does
act_here : (act : Act) (n : ℕ) → need_at (place_of act) ≡ need.Server n → (step : ServerStep) × (act ≡ Act.AtServer n step)
act_here (Act.AtServer server step) n e = (step, ap (λ k. Act.AtServer k step) (ap server_in e))
act_here (Act.AtDirectory step) n e = cc
act_here (Act.Finish outcome) n e = cc

act_there : (act : Act) → need_at (place_of act) ≡ need.Directory → (step : DirectoryStep) × (act ≡ Act.AtDirectory step)
act_there (Act.AtDirectory step) e = (step, refl)
act_there (Act.AtServer server step) e = cc
act_there (Act.Finish outcome) e = cc

-- its steps at the directory are those of no call
abbrev IsPlainAct : Act → Type 0
IsPlainAct (Act.AtDirectory step) = IsPlain step
IsPlainAct act = Unit {0}

plain_by : (servers : ℕ) (at : Sweeper) → IsPlainAct (act_of (record { servers = servers; at = at }))
plain_by servers Sweeper.Idle = tt
plain_by servers (Sweeper.Sweeping version server) = by (nat_lt server servers)
  where
    by : (b : Bool) → IsPlainAct (if b then Act.AtServer server (ServerStep.Discard version) else Act.AtDirectory (DirectoryStep.Swept version))
    by true = tt
    by false = tt

is_plain : (s : SweeperOf) (step : DirectoryStep) → act_of s ≡ Act.AtDirectory step → IsPlain step
is_plain s step e = subst IsPlainAct e (plain_by s.servers s.at)

-- ---- at a server
module _ (number last : ℕ) (s after : SweeperOf) (n : ℕ) (needs : need_of s ≡ need.Server n) (place now : Server) (stepped : (now, after) ≡ stepped_at_server s place) (log : List (ℕ × MadeStep)) where
  told : (step : ServerStep) × (act_of s ≡ Act.AtServer n step)
  told = act_here (act_of s) n needs

  step_is : (now, after) ≡ at_server_by (Act.AtServer n told.0) s place
  step_is = subst (λ (act : Act). (now, after) ≡ at_server_by act s place) told.1 stepped

  pub sweep_stands : (of : Counts) → StandsAtServer of n place log → IsTurnOf of number actor.Sweeper → StandsAtServer of n now (log ++ plain_at_server number actor.Sweeper (act_of s) place log last ∷ [])
  sweep_stands of stands turn =
      subst (λ (act : Act). StandsAtServer of n now (log ++ plain_at_server number actor.Sweeper act place log last ∷ [])) (sym told.1)
      (plain_stands n number last actor.Sweeper told.0 place now (ap (λ (p : Server × SweeperOf). p.0) step_is) log of stands turn)

  pub sweep_stepped : (numbers : List ℕ) (seen seen_now : List (ℕ × MadeStep)) → Among number numbers → GoesOn numbers seen log → seen_now ≡ log ++ plain_at_server number actor.Sweeper (act_of s) place log last ∷ []
      → HasSweptAtServer number last seen seen_now s after
  sweep_stepped numbers seen seen_now among goes is =
      record {
        server = n;
        step = told.0;
        acts = told.1;
        added =
            plain_added n number last actor.Sweeper told.0 place now (ap (λ (p : Server × SweeperOf). p.0) step_is) log numbers seen seen_now among goes
            (subst (λ (act : Act). seen_now ≡ log ++ plain_at_server number actor.Sweeper act place log last ∷ []) told.1 is);
        hears = ap (λ (p : Server × SweeperOf). p.1) step_is;
      }

-- ---- at the directory
module _ (number last : ℕ) (s after : SweeperOf) (needs : need_of s ≡ need.Directory) (d now : Sealed) (stepped : (now.core, after) ≡ stepped_at_directory actor.Sweeper 0 s d.core) (log : List (ℕ × Noted)) where
  told_there : (step : DirectoryStep) × (act_of s ≡ Act.AtDirectory step)
  told_there = act_there (act_of s) needs

  step_there : (now.core, after) ≡ at_directory_by (Act.AtDirectory told_there.0) actor.Sweeper 0 s d.core
  step_there = subst (λ (act : Act). (now.core, after) ≡ at_directory_by act actor.Sweeper 0 s d.core) told_there.1 stepped

  pub sweep_stands_there : (of : Counts) (max : ℕ) → 0 < stripe_length d.core.shape → IsSound d.core → now.book ≡ d.book → now.stamps ≡ d.stamps → StandsAtDirectory of max d log → IsTurnOf of number actor.Sweeper
      → StandsAtDirectory of max now (log ++ plain_at_directory number actor.Sweeper (act_of s) d log last ∷ [])
  sweep_stands_there of max wide sound book stamps stands turn =
      subst (λ (act : Act). StandsAtDirectory of max now (log ++ plain_at_directory number actor.Sweeper act d log last ∷ [])) (sym told_there.1)
      (plain_stands_there number last actor.Sweeper (λ no. no) told_there.0 (is_plain s told_there.0 told_there.1) d now (ap (λ (p : Directory × SweeperOf). p.0) step_there) log of max wide sound book stamps stands turn)

  pub sweep_stepped_there : (numbers : List ℕ) (seen seen_now : List (ℕ × Noted)) → Among number numbers → GoesOn numbers seen log → seen_now ≡ log ++ plain_at_directory number actor.Sweeper (act_of s) d log last ∷ []
      → HasSweptAtDirectory number last seen seen_now s after
  sweep_stepped_there numbers seen seen_now among goes is =
      record {
        step = told_there.0;
        acts = told_there.1;
        added =
            plain_added_there number last actor.Sweeper (λ no. no) told_there.0 (is_plain s told_there.0 told_there.1) d now (ap (λ (p : Directory × SweeperOf). p.0) step_there) log numbers seen seen_now among goes
            (subst (λ (act : Act). seen_now ≡ log ++ plain_at_directory number actor.Sweeper act d log last ∷ []) told_there.1 is);
        hears = ap (λ (p : Directory × SweeperOf). p.1) step_there;
      }

-- ---- the value that was taken is that of the turn's fixed part
pub record SweepFits (identity : ServerIdentity) (number : ℕ) (s : SweeperOf) : Type 0 where
  pub needs : need_of s ≡ need.Server identity.number
  pub turn : IsTurnOf (counts_of identity) number actor.Sweeper

pub sweep_fits : (identity : ServerIdentity) (fixed : Option ServerIdentity) (number : ℕ) (s : SweeperOf) → Some identity ≡ fixed → IsSweepAtServer fixed number s → SweepFits identity number s
sweep_fits identity fixed number s took h =
    subst (λ (x : ServerIdentity). SweepFits x number s) (sym (same_Some identity h.identity (took ∙ h.is))) (record { needs = h.needs; turn = h.turn })

pub sweep_turn : (identity : DirectoryIdentity) (fixed : Option DirectoryIdentity) (number : ℕ) (s : SweeperOf) → Some identity ≡ fixed → IsSweepAtDirectory fixed number s → IsTurnOf (counts_there identity) number actor.Sweeper
sweep_turn identity fixed number s took h =
    subst (λ (x : DirectoryIdentity). IsTurnOf (counts_there x) number actor.Sweeper) (sym (same_Some identity h.identity (took ∙ h.is))) h.turn
