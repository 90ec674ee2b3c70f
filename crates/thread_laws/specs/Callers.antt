-- The actors of a threaded run, each with its own list.
use Rattle.std.specs.Prelude.{◌≡◌, ⊤, false, List}
use Rattle.clay_grid.specs.Shape.{chunk_count}
use Rattle.store_map.specs.declared.actor.Actor.{Actor}
use Rattle.store_map.specs.declared.actor.Token.{Token}
use Rattle.store_map.specs.declared.script.Script.{Script}
use Rattle.store_core.specs.ActPlace.{ActPlace}
use Rattle.store_core.specs.Sweep.{Sweeper}
use Rattle.store_core.specs.Work.{Work, Calling, new_calling}
use Rattle.thread_laws.specs.MadeSteps.{MadeStep}
use Rattle.thread_laws.specs.ByActors.{calling_next, IsNext, sweeper_next, IsNextSweep}
use Rattle.thread_laws.specs.Lines.{lines_next, IsNextLine}
use Rattle.thread_laws.specs.Threaded.{lines_of}
use Rattle.thread_laws.specs.Noted.{tokens_after}
use Rattle.world_laws.specs.Tokens.{first_token, token_of, AreNumbered}
use Rattle.world_laws.specs.World.{DoingOf, ActorOf}
use Rattle.world_laws.specs.StandsFor.{ActorStands}
use Rattle.thread_laws.specs.Listed.{IsListed}
use Rattle.thread_laws.specs.Measure.{IsBounded}

-- a call in work has made a step since its last coding, or memory was not wanting in it
abbrev pub HeardLast : DoingOf → Type 0
HeardLast (DoingOf.Between token) = ⊤
HeardLast (DoingOf.InCall call steps) = call.coding ≡ false

-- a client or a repairer with this work: its list leads to a calling that it stands for, and to its ticket; its calls are numbered, and it makes no more steps than they may
pub record IsCalling (script : Script) (who : Actor) (work : Work) (at : ActPlace → List MadeStep) (a : ActorOf) : Type 0 where
  pub calling : Calling
  pub listed : IsListed (calling_next script work) (IsNext script work) (new_calling (chunk_count script.geometry)) (chunk_count script.geometry) at calling
  pub stands : ActorStands script work.jobs calling a
  pub token : tokens_after (at ActPlace.Directory) (first_token who) ≡ token_of a.doing
  pub numbered : AreNumbered a.ended a.doing
  pub heard : HeardLast a.doing
  pub bounded : IsBounded script work calling

-- the sweeper
abbrev pub IsSweeping : Script → (ActPlace → List MadeStep) → Sweeper → Type 0
IsSweeping script at sweeper = IsListed (sweeper_next script) (IsNextSweep script) Sweeper.Idle (chunk_count script.geometry) at sweeper

-- the operator, with the lines that it has left
abbrev pub IsOperating : Script → (ActPlace → List MadeStep) → List Token → Type 0
IsOperating script at left = IsListed lines_next IsNextLine (lines_of script) (chunk_count script.geometry) at left
