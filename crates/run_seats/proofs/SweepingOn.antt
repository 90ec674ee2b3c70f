-- The seated sweeper before and after its step.
use Rattle.std.proofs.Common.{◌≡◌, ℕ, ◌+◌, ◌-◌, ◌^◌, ◌<◌, min, List, get_or, length, set, Some, refl, sym, ap, subst, ◌∙◌}
use Rattle.clay_grid.specs.Shape.{chunk_count}
use Rattle.store_map.specs.declared.actor.Actor.TheVariants as actor
use Rattle.store_map.specs.declared.script.Script.{Script}
use Rattle.store_core.specs.Act.{Act, ServerStep}
use Rattle.store_core.specs.ActPlace.{place_of}
use Rattle.store_core.specs.Sweep.{next_sweep, after_sweep}
use Rattle.thread_laws.specs.MadeSteps.{MadeStep}
use Rattle.call_steps.specs.declared.need.Need.TheVariants as need
use Rattle.call_steps.proofs.Needs.{server_in}
use Rattle.sweeper.specs.Sweeps.{SweeperOf, act_of, heard, need_at, need_of}
use Rattle.turn_lock.specs.TurnState.{TurnState}
use Rattle.thread_laws.specs.Noted.{Noted}
use Rattle.thread_laws.specs.Numbers.{IsTurnOf}
use Rattle.thread_laws.specs.Callers.{IsSweeping}
use Rattle.thread_laws.specs.Logs.{Logs, counts_of, log_of, own_at}
use Rattle.thread_laws.specs.Plain.{HasAddedAtServer}
use Rattle.thread_laws.specs.Stepped.{with_log, with_notes}
use Rattle.thread_laws.proofs.Plain.{sweeping_goes_on}
use Rattle.run_seats.specs.Places.{HasTurns, directory_of, last_by, seen_by, server_of}
use Rattle.run_seats.specs.Plain.{HasSweptAtServer, HasSweptAtDirectory, IsSweepAtServer, IsSweepAtDirectory}
use Rattle.run_seats.specs.SeatedPlain.{IsSweeper, SweepsOn}
use Rattle.run_seats.specs.declared.server_box.ServerIdentity.{ServerIdentity}
use Rattle.run_seats.specs.declared.directory_box.DirectoryIdentity.{DirectoryIdentity}
use Rattle.run_seats.specs.declared.seated_sweeper.SeatedSweeper.{SeatedSweeper}
use Rattle.run_seats.specs.declared.store.Store.{Store}
use Rattle.run_seats.specs.declared.seat_turns.Turns.{Turns}
use Rattle.run_seats.proofs.Placing.{count_seen, log_here, seen_here, turns_here, turns_there}

-- it has swept at this server
record SweptAt (server number last : ℕ) (seen now : List (ℕ × MadeStep)) (s after : SweeperOf) : Type 0 where
  step : ServerStep
  acts : act_of s ≡ Act.AtServer server step
  added : HasAddedAtServer number last seen now actor.Sweeper (Act.AtServer server step)
  hears : after ≡ heard s added.answer

-- which is the one that it needs
swept_there : (j number last : ℕ) (seen now : List (ℕ × MadeStep)) (s after : SweeperOf) → need_of s ≡ need.Server j → HasSweptAtServer number last seen now s after → SweptAt j number last seen now s after
swept_there j number last seen now s after needs swept =
    subst (λ (k : ℕ). SweptAt k number last seen now s after) (ap server_in (sym (ap (λ (act : Act). need_at (place_of act)) swept.acts) ∙ needs))
    (record { step = swept.step; acts = swept.acts; added = swept.added; hears = swept.hears })

module _ (store : Store) (seated : SeatedSweeper) (is : IsSweeper store seated) (last : ℕ) (last_is : last ≡ last_by store seated.turns) where
  abbrev script : Script
  script = store.script.now

  abbrev servers : ℕ
  servers = chunk_count store.script.now.geometry

  abbrev s : SweeperOf
  s = seated.sweeper

  -- its next act by the store's count of servers, and what it is after an answer
  next_is : (act : Act) → act_of seated.sweeper ≡ act → next_sweep servers seated.sweeper.at ≡ act
  next_is act acts = subst (λ (n : ℕ). next_sweep n seated.sweeper.at ≡ act) is.servers acts

  -- ---- with other turns
  module _ (now : SeatedSweeper) (turns : HasTurns store now.turns) (number : now.turns.number ≡ seated.turns.number) (count : now.sweeper.servers ≡ seated.sweeper.servers)
      (sweeping : IsSweeping script (own_at seated.turns.number (seen_by now.turns)) now.sweeper.at) (one_more : now.steps ≡ min (seated.steps + 1) (2 ^ 64 - 1)) where
    sweeps_on : SweepsOn store seated now
    sweeps_on =
        record {
          seated_is = record {
            turns = turns;
            turn = subst (λ (n : ℕ). IsTurnOf (counts_of script) n actor.Sweeper) (sym number) is.turn;
            servers = count ∙ is.servers;
            sweeping = subst (λ (n : ℕ). IsSweeping script (own_at n (seen_by now.turns)) now.sweeper.at) (sym number) sweeping;
          };
          same = number;
          one_more = one_more;
        }

  -- ---- after a step at the directory
  pub swept_on_directory : (turn : TurnState DirectoryIdentity Noted) (after : SweeperOf) (steps : ℕ) → steps ≡ min (seated.steps + 1) (2 ^ 64 - 1) → turn ≡ record seated.turns.directory { seen = turn.seen }
      → HasSweptAtDirectory seated.turns.number last seated.turns.directory.seen turn.seen seated.sweeper after → SweepsOn store seated (record { sweeper = after; steps = steps; turns = record seated.turns { directory = turn } })
  swept_on_directory turn after steps one_more same swept =
      sweeps_on (record { sweeper = after; steps = steps; turns = record seated.turns { directory = turn } }) (turns_there store seated.turns turn is.turns same) refl (ap (λ (x : SweeperOf). x.servers) swept_now.hears)
      (subst (λ (x : SweeperOf). IsSweeping script (own_at seated.turns.number (with_notes turn.seen (seen_by seated.turns))) x.at) (sym swept_now.hears)
      (subst (λ (n : ℕ). IsSweeping script (own_at seated.turns.number (with_notes turn.seen (seen_by seated.turns))) (after_sweep n seated.sweeper.at swept_now.added.answer)) (sym is.servers)
      ((sweeping_goes_on script seated.turns.number (seen_by seated.turns) seated.sweeper.at is.sweeping).at_directory swept_now.step turn.seen (next_is (Act.AtDirectory swept_now.step) swept_now.acts) swept_now.added)))
      one_more
    where
      swept_now : HasSweptAtDirectory seated.turns.number (last_by store seated.turns) seated.turns.directory.seen turn.seen seated.sweeper after
      swept_now = subst (λ (k : ℕ). HasSweptAtDirectory seated.turns.number k seated.turns.directory.seen turn.seen seated.sweeper after) last_is swept

  -- ---- after a step at a server
  module _ (j : ℕ) (turn before : TurnState ServerIdentity MadeStep) (now : SeatedSweeper) (kept : now.turns ≡ record seated.turns { servers = now.turns.servers })
      (items : now.turns.servers.items ≡ set seated.turns.servers.items j turn) (less : j < length seated.turns.servers.items) (read : before ≡ get_or seated.turns.servers.items j before)
      (same : turn ≡ record before { seen = turn.seen }) (swept : HasSweptAtServer seated.turns.number last before.seen turn.seen seated.sweeper now.sweeper) (needs : need_of seated.sweeper ≡ need.Server j) where
    swept_now : SweptAt j seated.turns.number (last_by store seated.turns) (log_of (seen_by seated.turns) j) turn.seen seated.sweeper now.sweeper
    swept_now =
        subst (λ (l : List (ℕ × MadeStep)). SweptAt j seated.turns.number (last_by store seated.turns) l turn.seen seated.sweeper now.sweeper)
        (sym (log_here seated.turns now.turns j turn before kept items less read))
        (subst (λ (k : ℕ). SweptAt j seated.turns.number k before.seen turn.seen seated.sweeper now.sweeper) last_is
        (swept_there j seated.turns.number last before.seen turn.seen seated.sweeper now.sweeper needs swept))

    sweeping_here : IsSweeping script (own_at seated.turns.number (with_log j turn.seen (seen_by seated.turns))) now.sweeper.at
    sweeping_here =
        subst (λ (x : SweeperOf). IsSweeping script (own_at seated.turns.number (with_log j turn.seen (seen_by seated.turns))) x.at) (sym swept_now.hears)
        (subst (λ (n : ℕ). IsSweeping script (own_at seated.turns.number (with_log j turn.seen (seen_by seated.turns))) (after_sweep n seated.sweeper.at swept_now.added.answer)) (sym is.servers)
        ((sweeping_goes_on script seated.turns.number (seen_by seated.turns) seated.sweeper.at is.sweeping).at_server j swept_now.step turn.seen (count_seen store seated.turns is.turns)
        (subst (λ (n : ℕ). j < n) is.turns.count less) (next_is (Act.AtServer j swept_now.step) swept_now.acts) swept_now.added))

    pub swept_on_server : now.steps ≡ min (seated.steps + 1) (2 ^ 64 - 1) → SweepsOn store seated now
    swept_on_server one_more =
        sweeps_on now (turns_here seated.turns now.turns j turn before kept items less read store is.turns same) (ap (λ (x : Turns). x.number) kept) (ap (λ (x : SweeperOf). x.servers) swept_now.hears)
        (subst (λ (logs : Logs). IsSweeping script (own_at seated.turns.number logs) now.sweeper.at) (sym (seen_here seated.turns now.turns j turn before kept items less read)) sweeping_here) one_more

  -- ---- before the step
  pub may_sweep_directory : need_of seated.sweeper ≡ need.Directory → IsSweepAtDirectory seated.turns.directory.fixed seated.turns.number seated.sweeper
  may_sweep_directory needs = record { identity = directory_of store; is = is.turns.directory.fixed; needs = needs; turn = is.turn }

  pub may_sweep_server : (j : ℕ) (turn : TurnState ServerIdentity MadeStep) → turn.fixed ≡ Some (server_of store j) → need_of seated.sweeper ≡ need.Server j → IsSweepAtServer turn.fixed seated.turns.number seated.sweeper
  may_sweep_server j turn fixed needs = record { identity = server_of store j; is = fixed; needs = needs; turn = is.turn }
