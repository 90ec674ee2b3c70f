-- Clients serve what their looks have pinned, from a world's first step to its last.
use Rattle.std.proofs.Common.{◌≡◌, ℕ, zero, suc, ◌<◌, List, [], ◌∷◌, map, length, slice_get, Option, None, Some, option_map, option_and_then, refl, sym, ap, subst, ◌∙◌}
use Rattle.clay_grid.specs.Shape.{Shape, stripe_length}
use Rattle.store_map.specs.Limits.{size_of}
use Rattle.store_map.specs.declared.reply.Reply.TheVariants as reply
use Rattle.store_map.specs.declared.script.Script.{Script}
use Rattle.store_core.specs.Act.{Outcome}
use Rattle.store_core.specs.Core.{Core}
use Rattle.store_core.specs.Directory.{Point, Directory}
use Rattle.store_core.specs.History.{call_of}
use Rattle.store_core.specs.Schedule.{run_core}
use Rattle.store_core.specs.Sound.{IsSound}
use Rattle.store_core.specs.Work.{Ended}
use Rattle.run_laws.proofs.Scripts.{can_run}
use Rattle.run_laws.proofs.DirectoryInvariants.{StepsKeep, Held, runs_hold}
use Rattle.run_laws.specs.Contents.{HasBytes}
use Rattle.run_laws.specs.ContentLaws.{StepsKeepBytes}
use Rattle.run_laws.proofs.ContentSteps.{steps_keep_bytes}
use Rattle.call_steps.specs.declared.caller_calls.CallerCalls.{CallerCalls}
use Rattle.call_steps.specs.declared.caller_calls.EndedCall.{EndedCall}
use Rattle.call_steps.specs.CallerCalls.{ended_of}
use Rattle.world_laws.specs.Served.{outcome_in, served_in, owed_at}
use Rattle.world_laws.specs.StandsFor.{StandsFor}
use Rattle.world_laws.specs.World.{DoingOf}
use Rattle.world_laws.proofs.Runs.{runs_reach}
use Rattle.actors.specs.Callers.{CallerOf}
use Rattle.actors.specs.Inside.{served_of}
use Rattle.call_machine.specs.Pinned.{pinned_at}
use Rattle.store_world.specs.Serving.{OwesAt, OwesItsPins, IsInWork, ServesItsPins}
use Rattle.store_world.specs.ServeLaws.{HasMorePoints, ClientsGoOnServing, HasCalls, ServedIsOwed}
use Rattle.store_world.specs.WorldLaws.{WorldsAreOfMap, WorldsKeepServing}
use Rattle.store_world.proofs.OwesLists.{none_some}
use Rattle.call_machine.proofs.Owing.{if_some}
use Rattle.store_world.proofs.Steps.{reply_stays, owes_stay}
use Rattle.store_world.proofs.OwesTurns.{turns_serve}
use Rattle.call_machine.specs.Calls.{MachineOf}

-- ---- first, and as others go on
module _ (script : Script) (points now : List Point) (i : ℕ) (grown : HasMorePoints points now) where
  work_stays : (number : ℕ) (doing : DoingOf) (work : Option MachineOf) → IsInWork (OwesItsPins script points i number) doing work → IsInWork (OwesItsPins script now i number) doing work
  work_stays number (DoingOf.Between token) work none = none
  work_stays number (DoingOf.InCall call steps) work h =
      record {
        c = h.c;
        is = h.is;
        same = h.same;
        held = record {
          its = h.held.its;
          job = h.held.job;
          looked = h.held.looked;
          owes = if_some (OwesAt script points i number h.c) (OwesAt script now i number h.c) (pinned_at h.c.call.state.at) (λ place of e. owes_stay script points now i number place h.c h.c grown refl refl of) h.held.owes;
        };
      }

  stays : (a : CallerOf) → ServesItsPins script points i a → ServesItsPins script now i a
  stays a was =
      record {
        work = work_stays (length a.actor.ended) a.actor.doing a.work was.work;
        count = was.count;
        ended = λ number place bytes e u. reply_stays script points now i number place bytes grown (was.ended number place bytes e u);
      }

pub clients_go_on_serving : (script : Script) → ClientsGoOnServing script
clients_go_on_serving script =
    record {
      first = λ points i part book tries seat. record { work = refl; count = refl; ended = λ number place bytes e u. absurd (none_some (Some bytes) u) };
      stays = λ points now i a grown was. stays script points now i grown a was;
    }

-- ---- turns
bytes_keep : (script : Script) → StepsKeep script (HasBytes (call_of script))
bytes_keep script =
    let law : StepsKeepBytes (call_of script) = steps_keep_bytes (call_of script) in
    record {
      first = law.first script.geometry (size_of script);
      step = law.step;
    }

pub is_of_map : WorldsAreOfMap
is_of_map script w d geometry valid reached same contents =
    record {
      wide = subst (λ (x : Directory). 0 < stripe_length x.shape) is (subst (λ (g : Shape). 0 < stripe_length g) (sym held.keeps.keeps.shape) (can_run script geometry valid).some);
      shape = ap (λ (x : Directory). x.shape) (sym is) ∙ held.keeps.keeps.shape;
      most = ap (λ (x : Directory). x.max) (sym is) ∙ held.keeps.keeps.max;
      sound = subst IsSound is held.keeps.sound;
      bytes = subst (HasBytes (call_of script)) is held.holds;
      contents = contents;
    }
  where
    core : Core
    core = run_core script reached.by.shortages reached.tokens

    held : Held script (HasBytes (call_of script)) (bytes_keep script) (can_run script geometry valid) core
    held = runs_hold script (HasBytes (call_of script)) (bytes_keep script) (can_run script geometry valid) reached.by.shortages reached.tokens

    stands : StandsFor script w core
    stands = (runs_reach script).core reached.tokens w reached.by.shortages reached.by.reaches

    is : core.directory ≡ d.core
    is = stands.directory ∙ same

pub turns_keep_serving : WorldsKeepServing
turns_keep_serving script w i a after d now servers others geometry valid reached same contents part is there keeps makes was =
    turns_serve script i a after d now servers others (is_of_map script w d geometry valid reached same contents) part is there keeps makes was

-- ---- the end
outcome_there : (servers : ℕ) (ended : List EndedCall) (n : ℕ) → outcome_in (slice_get ended n) ≡ option_map (λ (e : Ended). e.outcome) (slice_get (map (ended_of servers) ended) n)
outcome_there servers [] n = refl
outcome_there servers (e ∷ ended) zero = refl
outcome_there servers (e ∷ ended) (suc n) = outcome_there servers ended n

bytes_there : (ended : List EndedCall) (n : ℕ) (bytes : List ℕ) → served_in (slice_get ended n) ≡ Some bytes → slice_get (served_of ended) n ≡ Some (Some bytes)
bytes_there [] n bytes e = absurd (none_some bytes e)
bytes_there (x ∷ ended) zero bytes e = ap Some e
bytes_there (x ∷ ended) (suc n) bytes e = bytes_there ended n bytes e

module _ (script : Script) (points : List Point) (servers : ℕ) (clients : List CallerOf) (calls : List CallerCalls) (serving : (i : ℕ) (a : CallerOf) → slice_get clients i ≡ Some a → ServesItsPins script points i a)
    (its : (i : ℕ) (of : CallerCalls) → slice_get calls i ≡ Some of → (a : CallerOf) × (slice_get clients i ≡ Some a) × HasCalls servers of a) (place i number : ℕ) (bytes : List ℕ) where
  by_calls : (found : Option CallerCalls) → slice_get calls i ≡ found → outcome_in (option_and_then (λ (c : CallerCalls). slice_get c.ended.items number) found) ≡ Some (Outcome.Served place)
      → served_in (option_and_then (λ (c : CallerCalls). slice_get c.ended.items number) found) ≡ Some bytes
      → owed_at (size_of script) (call_of script) points place i number ≡ reply.Bytes bytes
  by_calls None found e u = absurd (none_some bytes u)
  by_calls (Some of) found e u =
      let h : (a : CallerOf) × (slice_get clients i ≡ Some a) × HasCalls servers of a = its i of found in
      ((serving i h.0 h.1).ended number place bytes
      (ap (λ (xs : List Ended). option_map (λ (y : Ended). y.outcome) (slice_get xs number)) h.2.ended ∙ sym (outcome_there servers of.ended.items number) ∙ e)
      (ap (λ (xs : List (Option (List ℕ))). slice_get xs number) h.2.served ∙ bytes_there of.ended.items number bytes u)).reply

pub served_is_owed : ServedIsOwed
served_is_owed script points servers clients calls serving its place i number bytes e u = by_calls script points servers clients calls serving its place i number bytes (slice_get calls i) refl e u
