-- A small threaded run, as its places and actors end: two clients each ask for an object that isn't there, while the operator empties a server.
use Rattle.std.specs.Prelude.{ℕ, List, [], ◌∷◌, None, Some}
use Rattle.store_map.specs.Limits.{size_of}
use Rattle.store_map.specs.declared.actor.Actor.TheVariants as actor
use Rattle.store_map.specs.declared.reply.Reply.TheVariants as reply
use Rattle.store_core.specs.Act.{Outcome}
use Rattle.store_core.specs.Agreement.{ActorToken}
use Rattle.store_core.specs.Directory.{new_directory}
use Rattle.store_core.specs.Server.{Server, new_server}
use Rattle.store_core.specs.Sweep.{Sweeper}
use Rattle.thread_laws.specs.AtPlaces.{after_all, directory_next, server_next}
use Rattle.thread_laws.specs.StatsExample.{two_stats, first_stat, second_stat, the_wipe}
use Rattle.stripe_stamps.specs.Sealed.{Sealed}
use Rattle.world_laws.specs.World.{DoingOf}
use Rattle.thread_laws.specs.Logs.{Logs}
use Rattle.thread_laws.specs.PlaceEnded.{PlacesStand, CallerOf, AllHaveEnded}

-- the histories: clients have the numbers 0 and 1, the sweeper 2 and the operator 3
abbrev pub stats_logs : Logs
stats_logs =
    record {
      directory = (0, record { made = first_stat; drawn = [] }) ∷ (1, record { made = second_stat; drawn = [] }) ∷ [];
      servers = [] ∷ ((3, the_wipe) ∷ []) ∷ [] ∷ [] ∷ [];
    }

-- the directory and the servers
abbrev pub stats_directory : Sealed
stats_directory =
    record {
      core = after_all directory_next (first_stat ∷ second_stat ∷ []) (new_directory two_stats.geometry (size_of two_stats));
      book = record { home = []; geometry = two_stats.geometry; script = None };
      stamps = [];
    }

abbrev pub stats_servers : List Server
stats_servers = new_server ∷ server_next the_wipe new_server ∷ new_server ∷ new_server ∷ []

-- a client whose one call was answered at a point
abbrev pub stats_client : ℕ → CallerOf
stats_client i =
    record {
      seen = stats_logs;
      actor = record {
        ended = record { outcome = Outcome.Answered i reply.NoSuch; takes = 0 ∷ 0 ∷ 0 ∷ 0 ∷ [] } ∷ [];
        doing = DoingOf.Between (ActorToken.Seated (record { actor = actor.Client i; unused = 1; told = Some i }));
      };
    }

-- they meet all that is asked of places and actors at the end of a run
pub record StatsHaveEnded : Type 0 where
  pub stand : PlacesStand two_stats stats_directory stats_servers stats_logs
  pub all : AllHaveEnded two_stats stats_logs stats_logs stats_logs (stats_client 0 ∷ stats_client 1 ∷ []) [] Sweeper.Idle
