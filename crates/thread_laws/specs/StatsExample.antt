-- A small run by moments: two clients each ask for an object, while the operator empties a server.
use Rattle.std.specs.Prelude.{◌≡◌, ℕ, List, [], ◌∷◌, None, map, unwrap_or, codes}
use Rattle.std.specs.List.{slice_get}
use Rattle.store_map.specs.declared.script.Script.{Script}
use Rattle.store_map.specs.declared.call.Call.TheVariants as call
use Rattle.store_map.specs.declared.reply.Reply.TheVariants as reply
use Rattle.store_map.specs.declared.actor.Actor.{Actor}
use Rattle.store_map.specs.declared.actor.Actor.TheVariants as actor
use Rattle.store_map.specs.declared.actor.Token.TheVariants as token
use Rattle.store_core.specs.Told.{Told}
use Rattle.store_core.specs.Act.{Act, DirectoryStep, ServerStep}
use Rattle.store_core.specs.ActPlace.{ActPlace}
use Rattle.store_core.specs.Note.{note_of}
use Rattle.store_core.specs.Core.{first_core}
use Rattle.thread_laws.specs.MadeSteps.{MadeStep}
use Rattle.thread_laws.specs.ByActors.{no_shortage}
use Rattle.thread_laws.specs.Lines.{token_of}
use Rattle.thread_laws.specs.Histories.{Histories, GoOn, StandTwice, IsInOrder}
use Rattle.thread_laws.specs.InOrder.{in_order}

-- the script
abbrev pub two_stats : Script
two_stats =
    record {
      form = 1;
      geometry = record { data_count = 2; parity_count = 2; width = 1 };
      size = None;
      tries = None;
      clients = record { calls = call.Stat (codes "a") ∷ []; leave = None } ∷ record { calls = call.Stat (codes "b") ∷ []; leave = None } ∷ [];
      repairers = [];
      schedule = token.Wipe 1 ∷ [];
    }

-- the steps of the clients
abbrev pub first_stat : MadeStep
first_stat = record { actor = actor.Client 0; number = 0; shortage = no_shortage; act = Act.AtDirectory (DirectoryStep.Look (note_of (call.Stat (codes "a")))); answer = Told.Answer 0 reply.NoSuch; moment = 1 }

abbrev pub second_stat : MadeStep
second_stat = record { actor = actor.Client 1; number = 0; shortage = no_shortage; act = Act.AtDirectory (DirectoryStep.Look (note_of (call.Stat (codes "b")))); answer = Told.Answer 1 reply.NoSuch; moment = 2 }

-- that of the operator has the same moment as the first, at another place
abbrev pub the_wipe : MadeStep
the_wipe = record { actor = actor.Operator; number = 0; shortage = no_shortage; act = Act.AtServer 1 ServerStep.Wipe; answer = Told.Made; moment = 1 }

-- the list with a number, or none
abbrev pub list_at : List (List MadeStep) → ℕ → List MadeStep
list_at lists i = unwrap_or (slice_get lists i) []

-- the list of each actor
abbrev pub stats_of : Actor → List MadeStep
stats_of (actor.Client i) = list_at ((first_stat ∷ []) ∷ (second_stat ∷ []) ∷ []) i
stats_of (actor.Repairer i) = []
stats_of actor.Sweeper = []
stats_of actor.Operator = the_wipe ∷ []

-- the list of each place
abbrev pub stats_at : ActPlace → List MadeStep
stats_at ActPlace.Directory = first_stat ∷ second_stat ∷ []
stats_at (ActPlace.Server j) = list_at ([] ∷ (the_wipe ∷ []) ∷ []) j

abbrev pub stats : Histories
stats = record { at = stats_at; of = stats_of }

-- the premises of the law hold of them, and their order puts the client before the operator
pub record StatsMerge : Type 0 where
  pub twice : StandTwice stats
  pub go : GoOn two_stats (token.Wipe 1 ∷ []) (first_core two_stats) stats_at stats_of
  pub order : in_order two_stats stats ≡ first_stat ∷ the_wipe ∷ second_stat ∷ []
  pub ordered : IsInOrder stats (first_stat ∷ the_wipe ∷ second_stat ∷ [])
  pub tokens : map token_of (in_order two_stats stats) ≡ token.Client 0 ∷ token.Wipe 1 ∷ token.Client 1 ∷ []
