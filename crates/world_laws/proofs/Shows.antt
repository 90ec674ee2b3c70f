-- What a world shows.
use Rattle.std.proofs.Common.{◌≡◌, ℕ, zero, suc, ◌+◌, nat_lt, List, [], ◌∷◌, ◌++◌, length, map, flat_map, refl, sym, ap, if◌then◌else◌}
use Rattle.std.specs.List.{slice_get, enumerate_from}
use Rattle.std.specs.Prelude.{option_and_then}
use Rattle.clay_grid.specs.Shape.{chunk_count}
use Rattle.store_map.specs.Limits.{size_of}
use Rattle.store_map.specs.declared.actor.Actor.{Actor}
use Rattle.store_map.specs.declared.actor.Actor.TheVariants as actor
use Rattle.store_map.specs.declared.script.Script.{Script}
use Rattle.store_map.specs.declared.call_name.CallName.{CallName}
use Rattle.store_core.specs.Core.{Core}
use Rattle.store_core.specs.History.{call_of, answered_in, is_answer, history_from}
use Rattle.store_core.specs.NextAct.{Job}
use Rattle.store_core.specs.Outcomes.{cause_of, result_of}
use Rattle.store_core.specs.RowLines.{client, repair}
use Rattle.store_core.specs.Shown.{lines_of_ended, lines_of_actors, refused_line, repair_line, unanswered_line, take_line, take_lines, shown, client_name, repairer_name}
use Rattle.store_core.specs.Work.{Ended, Work, Calling, client_work, repairer_work}
use Rattle.world_laws.specs.World.{DoingOf, ActorOf, WorldOf}
use Rattle.world_laws.specs.Known.{calling_by, calling_of, core_of}
use Rattle.world_laws.specs.StandsFor.{DoingStands, ActorStands, AllStand, StandsFor}
use Rattle.world_laws.specs.ShowLaws.{WorldsShow}
use Rattle.world_laws.proofs.Runs.{runs_reach}

-- ---- an actor of the world has all that is shown of the core's
record Same (known calling : Calling) : Type 0 where
  ended : known.ended ≡ calling.ended
  takes : known.takes ≡ calling.takes
  steps : known.steps ≡ calling.steps

module _ (script : Script) where
  same_by : (jobs : List Job) (calling : Calling) (ended : List Ended) (doing : DoingOf) → calling.ended ≡ ended → DoingStands script jobs calling doing
      → Same (calling_by (chunk_count script.geometry) ended doing) calling
  same_by jobs calling ended (DoingOf.Between token) e stands = record { ended = sym e; takes = sym stands.between.takes; steps = sym stands.none }
  same_by jobs calling ended (DoingOf.InCall call steps) e stands = record { ended = sym e; takes = stands.stands.takes; steps = sym stands.made }

  same_actor : (jobs : List Job) (calling : Calling) (a : ActorOf) → ActorStands script jobs calling a → Same (calling_of script a) calling
  same_actor jobs calling a stands = same_by jobs calling a.ended a.doing stands.ended stands.doing

  -- ---- lines by actor
  module _ {Line : Type 0} (lines : ℕ → Calling → List Line) (same : (i : ℕ) (known calling : Calling) → Same known calling → lines i known ≡ lines i calling) where
    lines_from : (works : List Work) (callings : List Calling) (actors : List ActorOf) (i : ℕ) → AllStand script works callings actors
        → flat_map (λ (entry : ℕ × Calling). lines entry.0 entry.1) (enumerate_from i (map (calling_of script) actors)) ≡ flat_map (λ (entry : ℕ × Calling). lines entry.0 entry.1) (enumerate_from i callings)
    lines_from [] [] [] i all = refl
    lines_from (work ∷ works) (calling ∷ callings) (a ∷ actors) i all =
        λ k. same i (calling_of script a) calling (same_actor work.jobs calling a all.0) k ++ lines_from works callings actors (i + 1) all.1 k
    lines_from works callings actors i all = absurd all

    same_lines : (works : List Work) (callings : List Calling) (actors : List ActorOf) → AllStand script works callings actors
        → lines_of_actors lines (map (calling_of script) actors) ≡ lines_of_actors lines callings
    same_lines works callings actors all = lines_from works callings actors 0 all

  -- ---- whether a call was answered
  answered_from : (works : List Work) (callings : List Calling) (actors : List ActorOf) (i number : ℕ) → AllStand script works callings actors
      → option_and_then (λ (c : Calling). slice_get c.ended number) (slice_get (map (calling_of script) actors) i) ≡ option_and_then (λ (c : Calling). slice_get c.ended number) (slice_get callings i)
  answered_from [] [] [] i number all = refl
  answered_from (work ∷ works) (calling ∷ callings) (a ∷ actors) zero number all =
      ap (λ (l : List Ended). slice_get l number) (same_actor work.jobs calling a all.0).ended
  answered_from (work ∷ works) (calling ∷ callings) (a ∷ actors) (suc i) number all = answered_from works callings actors i number all.1
  answered_from works callings actors i number all = absurd all

  module _ (w : WorldOf) (core : Core) (stands : StandsFor script w core) where
    answered : (who : Actor) (number : ℕ) → answered_in (core_of script w) who number ≡ answered_in core who number
    answered (actor.Client i) number = ap is_answer (answered_from (client_work script) core.clients w.clients i number stands.clients)
    answered (actor.Repairer i) number = refl
    answered actor.Sweeper number = refl
    answered actor.Operator number = refl

    pub shows : shown script (core_of script w) ≡ shown script core
    shows = λ k.
        record {
          history = history_from (size_of script) (call_of script) (λ who number. answered who number k) 0 [] (sym stands.directory k).points;
          refused =
              same_lines (λ i. lines_of_ended (λ number ended. refused_line (client i number) (cause_of ended.outcome)))
              (λ i known calling same. ap (λ (l : List Ended). flat_map (λ (entry : ℕ × Ended). refused_line (client i entry.0) (cause_of entry.1.outcome)) (enumerate_from 0 l)) same.ended)
              (client_work script) core.clients w.clients stands.clients k;
          repairs =
              same_lines (λ i. lines_of_ended (λ number ended. repair_line (repair i number) (result_of ended.outcome)))
              (λ i known calling same. ap (λ (l : List Ended). flat_map (λ (entry : ℕ × Ended). repair_line (repair i entry.0) (result_of entry.1.outcome)) (enumerate_from 0 l)) same.ended)
              (repairer_work script) core.repairers w.repairers stands.repairers k;
          unanswered =
              same_lines (λ i. unanswered_line (client_name i)) (unanswered_same client_name) (client_work script) core.clients w.clients stands.clients k
              ++ same_lines (λ i. unanswered_line (repairer_name i)) (unanswered_same repairer_name) (repairer_work script) core.repairers w.repairers stands.repairers k;
          objects = map (λ object. record { name = object.name; length = object.length }) (sym stands.directory k).objects;
          takes =
              same_lines (λ i. take_lines (client_name i)) (takes_same client_name) (client_work script) core.clients w.clients stands.clients k
              ++ same_lines (λ i. take_lines (repairer_name i)) (takes_same repairer_name) (repairer_work script) core.repairers w.repairers stands.repairers k;
          servers = map (λ entry. record { server = entry.0; taken = entry.1.taken; held = length entry.1.held; epoch = entry.1.epoch }) (enumerate_from 0 (sym stands.servers k));
        }
      where
        unanswered_same : (call : ℕ → ℕ → CallName) (i : ℕ) (known calling : Calling) → Same known calling → unanswered_line (call i) known ≡ unanswered_line (call i) calling
        unanswered_same call i known calling same = λ k. if nat_lt 0 (same.steps k) then record { call = call i (length (same.ended k)) } ∷ [] else []

        takes_same : (call : ℕ → ℕ → CallName) (i : ℕ) (known calling : Calling) → Same known calling → take_lines (call i) known ≡ take_lines (call i) calling
        takes_same call i known calling same = λ k.
            flat_map (λ (entry : ℕ × Ended). take_line (call i entry.0) entry.1.takes) (enumerate_from 0 (same.ended k)) ++ take_line (call i (length (same.ended k))) (same.takes k)

pub worlds_show : (script : Script) (w : WorldOf) → WorldsShow script w
worlds_show script w =
    record {
      core = λ core stands. shows script w core stands;
      run = λ tokens shortages reached. shows script w _ ((runs_reach script).core tokens w shortages reached);
    }
