-- How places and actors begin.
use Rattle.std.specs.Prelude.{◌≡◌, ℕ, List, []}
use Rattle.store_map.specs.declared.actor.Actor.{Actor}
use Rattle.store_map.specs.declared.script.Script.{Script}
use Rattle.store_core.specs.ActPlace.{ActPlace}
use Rattle.store_core.specs.Directory.{new_directory}
use Rattle.store_core.specs.Server.{new_server}
use Rattle.store_core.specs.Sweep.{Sweeper}
use Rattle.store_core.specs.Work.{Work}
use Rattle.thread_laws.specs.MadeSteps.{MadeStep}
use Rattle.thread_laws.specs.Threaded.{lines_of}
use Rattle.version_seal.specs.Entry.{BookOf}
use Rattle.thread_laws.specs.AtDirectory.{StandsAtDirectory}
use Rattle.thread_laws.specs.AtServer.{StandsAtServer}
use Rattle.world_laws.specs.Tokens.{first_token}
use Rattle.thread_laws.specs.Numbers.{Counts}
use Rattle.world_laws.specs.FirstWorld.{new_actor}
use Rattle.thread_laws.specs.Callers.{IsCalling, IsSweeping, IsOperating}

-- a new server and a new directory stand for no history
pub record PlacesBegin (of : Counts) : Type 0 where
  pub server : (number : ℕ) → StandsAtServer of number new_server []
  pub directory : (book : BookOf) (max : ℕ) → StandsAtDirectory of max (record { core = new_directory book.geometry max; book = book; stamps = [] }) []

abbrev pub AllPlacesBegin : Type 0
AllPlacesBegin = (of : Counts) → PlacesBegin of

-- before its first step every actor is as it should be
pub record ActorsBegin (script : Script) (at : ActPlace → List MadeStep) : Type 0 where
  pub acting : (who : Actor) (work : Work) → IsCalling script who work at (new_actor (first_token who))
  pub sweeping : IsSweeping script at Sweeper.Idle
  pub operating : IsOperating script at (lines_of script)

abbrev pub AllBegin : Type 0
AllBegin = (script : Script) (at : ActPlace → List MadeStep) → ((place : ActPlace) → at place ≡ []) → ActorsBegin script at
