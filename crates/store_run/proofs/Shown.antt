-- A transcript that is made of what a run leaves is that run's, at whose end the sweeper has nothing left to do.
use Rattle.std.proofs.Common.{◌≡◌, ℕ, ◌^◌, ◌<◌, ◌≤◌, ◌||◌, false, List, length, map, get_or, is_some, slice_get, Some, refl, sym, ap, subst, ◌∙◌, arith}
use Rattle.std.proofs.lemmas.List.{length-map}
use Rattle.std.proofs.lemmas.List.Elements.{All-map}
use Rattle.std.proofs.lemmas.Option.{get_or_from_slice_get, slice_get-get_or, slice_get_within}
use Rattle.std.proofs.lemmas.Simd.{map-map}
use Rattle.clay_grid.specs.Shape.{chunk_count}
use Rattle.store_map.specs.Limits.{size_of}
use Rattle.store_map.specs.Naming.{IsValid}
use Rattle.store_map.specs.declared.script.ClientPart.{ClientPart}
use Rattle.store_map.specs.declared.script.RepairPart.{RepairPart}
use Rattle.store_map.specs.declared.script.Script.{Script}
use Rattle.store_map.specs.declared.transcript.Transcript.{Transcript}
use Rattle.store_core.specs.Core.{Core, sweeper_has_step}
use Rattle.store_core.specs.History.{call_of}
use Rattle.store_core.specs.Lookups.{first_garbage}
use Rattle.store_core.specs.NextAct.{job_of, rebuild_job}
use Rattle.store_core.specs.Schedule.{run_core}
use Rattle.store_core.specs.Server.{Server}
use Rattle.store_core.specs.Shown.{shown}
use Rattle.store_core.specs.Sweep.{is_busy}
use Rattle.store_core.specs.Work.{Calling, Ended as EndedCore, Work, client_work, repairer_work}
use Rattle.run_laws.proofs.Runs.{CanRun}
use Rattle.run_laws.proofs.Scripts.{Mapped, can_run, mapped}
use Rattle.history_laws.proofs.Induction.{run_has}
use Rattle.history_laws.proofs.NamedCalls.{AllCalls, AllInWork, calls_kept, first_calls}
use Rattle.history_laws.specs.Faithful.{IsFaithful}
use Rattle.history_laws.proofs.Ample.{ample_runs_are_one}
use Rattle.history_laws.proofs.Plays.{runs_are_faithful}
use Rattle.thread_laws.specs.Histories.{Histories}
use Rattle.thread_laws.specs.Threaded.{IsThreadedRun, lines_of}
use Rattle.thread_laws.proofs.Showing.{shows_core}
use Rattle.thread_laws.specs.Ended.{HaveEnded, RanApart}
use Rattle.thread_laws.specs.Run.{IsRun, steps_of}
use Rattle.thread_laws.proofs.Runs.{history, threaded_runs_are_runs}
use Rattle.dir_parts.proofs.Entries.{slice_get-map}
use Rattle.chunk_server.specs.Core.{core_of as server_core}
use Rattle.turn_lock.proofs.JoinedLists.{at_place}
use Rattle.call_steps.specs.CallerCalls.{HaveNames, calling_at, counts_of, ended_of}
use Rattle.world_laws.specs.Served.{ServedAre}
use Rattle.world_laws.specs.HeldCore.{Holds}
use Rattle.call_steps.specs.declared.caller_calls.CallerCalls.{CallerCalls}
use Rattle.world_laws.specs.Known.{calling_by, calling_of, core_of}
use Rattle.world_laws.specs.StandsFor.{AllStand, StandsFor}
use Rattle.world_laws.specs.World.{ActorOf, DoingOf, WorldOf}
use Rattle.world_laws.proofs.Actors.{Found, found}
use Rattle.world_laws.proofs.Shows.{worlds_show}
use Rattle.actors.specs.Callers.{PartOf, work_of}
use Rattle.thread_laws.specs.EndLaws.{end_of, world_of}
use Rattle.thread_laws.specs.PlaceEnded.{CallerOf}
use Rattle.thread_laws.specs.Logs.{run_lists}
use Rattle.thread_laws.proofs.Ending.{actors_end_runs}
use Rattle.thread_laws.specs.ServedLaws.{IsMadeOf}
use Rattle.thread_laws.proofs.SeenOwed.{all_served_stay_owed}
use Rattle.thread_laws.proofs.Served.{owed_are_served}
use Rattle.store_run.specs.Ended.{AreCallsOf, IsEnded, has_sweep}
use Rattle.store_run.specs.Swept.{IsRunToEnd}
use Rattle.store_run.specs.declared.ended.Ended.{Ended}

-- ---- how many calls of each have ended
ended_by : (servers : ℕ) (ended : List EndedCore) (doing : DoingOf) → (calling_by servers ended doing).ended ≡ ended
ended_by servers ended (DoingOf.Between token) = refl
ended_by servers ended (DoingOf.InCall call steps) = refl

as_many_ended : (servers : ℕ) (calling : Calling) (a : ActorOf) (its : CallerCalls) → calling.ended ≡ a.ended → calling_by servers a.ended a.doing ≡ calling_at servers its → length calling.ended ≡ length its.ended.items
as_many_ended servers calling a its known e =
    ap (λ (l : List EndedCore). length l) (known ∙ sym (ended_by servers a.ended a.doing)) ∙ (ap (λ (c : Calling). length c.ended) e ∙ length-map its.ended.items (ended_of servers))

-- a group of actors that stand for those of a core, and the calls that they leave
module _ (script : Script) (works : List Work) (callings : List Calling) (callers : List CallerOf) (calls : List CallerCalls)
    (stand : AllStand script works callings (map (λ (caller : CallerOf). caller.actor) callers)) (kept : AllInWork (chunk_count script.geometry) works callings) (same : AreCallsOf script callers calls)
    (count : length works ≡ length callers) (most : (i : ℕ) (work : Work) → slice_get works i ≡ Some work → length work.jobs ≤ 4096) where
  abbrev servers : ℕ
  servers = chunk_count script.geometry

  few_calls : (i : ℕ) (its : CallerCalls) → slice_get calls i ≡ Some its → length its.ended.items ≤ 4096
  few_calls i its there =
      let one : Mapped (λ (caller : CallerOf). calling_of script caller.actor) callers i (calling_at servers its) =
      mapped (λ (caller : CallerOf). calling_of script caller.actor) callers i (calling_at servers its) (ap (λ (l : List Calling). slice_get l i) same ∙ slice_get-map (calling_at servers) calls i its there) in
      let less : i < length callers = slice_get_within callers i one.source one.found in
      let work : (w : Work) × (slice_get works i ≡ Some w) = at_place works i (omega (arith, less, count)) in
      let at : Found script work.0 callings one.source.actor i =
      found script works callings (map (λ (caller : CallerOf). caller.actor) callers) i work.0 one.source.actor stand work.1 (slice_get-map (λ (caller : CallerOf). caller.actor) callers i one.source one.found) in
      let below : length at.calling.ended ≤ length work.0.jobs = (kept i at.calling at.is_calling work.0 work.1).below in
      let own : length at.calling.ended ≡ length its.ended.items = as_many_ended servers at.calling one.source.actor its at.stands.ended one.is_image in
      let jobs : length work.0.jobs ≤ 4096 = most i work.0 work.1 in
      omega (arith, below, own, jobs)

  have_names : length callers ≤ 64 → HaveNames (counts_of calls)
  have_names few =
      record {
        actors =
            (let one : length (counts_of calls) ≡ length calls = length-map calls (λ (its : CallerCalls). length its.ended.items) in
            let two : length (map (λ (caller : CallerOf). calling_of script caller.actor) callers) ≡ length callers = length-map callers (λ (caller : CallerOf). calling_of script caller.actor) in
            let three : length (map (calling_at servers) calls) ≡ length calls = length-map calls (calling_at servers) in
            let four : length (map (λ (caller : CallerOf). calling_of script caller.actor) callers) ≡ length (map (calling_at servers) calls) = ap (λ (l : List Calling). length l) same in
            omega (arith, one, two, three, four, few));
        calls = All-map (λ (n : ℕ). n < 2 ^ 32) (λ (its : CallerCalls). length its.ended.items) calls (λ k d less.
            let some : length (get_or calls k d).ended.items ≤ 4096 = few_calls k (get_or calls k d) (slice_get-get_or calls k d less) in
            omega (arith, some));
      }

-- ---- no more than a valid script has
client_jobs : (script : Script) → IsValid script → (i : ℕ) (work : Work) → slice_get (client_work script) i ≡ Some work → length work.jobs ≤ 4096
client_jobs script valid i work e =
    let one : Mapped (λ (part : ClientPart). work_of (PartOf.OfClient part)) script.clients i work = mapped (λ (part : ClientPart). work_of (PartOf.OfClient part)) script.clients i work e in
    let same : length work.jobs ≡ length one.source.calls = ap (λ (w : Work). length w.jobs) (sym one.is_image) ∙ length-map one.source.calls job_of in
    let most : length one.source.calls ≤ 4096 =
    subst (λ (part : ClientPart). length part.calls ≤ 4096) (get_or_from_slice_get script.clients i one.source one.source one.found) (valid.limits.client_calls i one.source (slice_get_within script.clients i one.source one.found)) in
    omega (arith, same, most)

repairer_jobs : (script : Script) → IsValid script → (i : ℕ) (work : Work) → slice_get (repairer_work script) i ≡ Some work → length work.jobs ≤ 4096
repairer_jobs script valid i work e =
    let one : Mapped (λ (part : RepairPart). work_of (PartOf.OfRepairer part)) script.repairers i work = mapped (λ (part : RepairPart). work_of (PartOf.OfRepairer part)) script.repairers i work e in
    let same : length work.jobs ≡ length one.source.calls = ap (λ (w : Work). length w.jobs) (sym one.is_image) ∙ length-map one.source.calls rebuild_job in
    let most : length one.source.calls ≤ 4096 =
    subst (λ (part : RepairPart). length part.calls ≤ 4096) (get_or_from_slice_get script.repairers i one.source one.source one.found) (valid.limits.repairer_calls i one.source (slice_get_within script.repairers i one.source one.found)) in
    omega (arith, same, most)

-- ---- the run
module _ (script : Script) (ended : Ended) (is : IsEnded script ended) where
  abbrev places : List Server
  places = map server_core ended.servers.items

  abbrev lists : Histories
  lists = run_lists (chunk_count script.geometry) is.logs

  -- the core in which it ends, and the values as a world that stands for it
  abbrev end : Core
  end = end_of script ended.directory places is.logs

  abbrev world : WorldOf
  world = world_of script ended.directory places is.clients is.repairers ended.sweeper.at

  ends : RanApart script lists end × StandsFor script world end
  ends = actors_end_runs script ended.directory places is.logs is.swept is.operated is.clients is.repairers ended.sweeper.at is.places is.all

  -- the order of its steps, and that the core is the one in which they end
  made : (run : IsThreadedRun script (shown script end)) × (end ≡ run_core script run.shortages run.tokens)
  made = shows_core script lists ends.0.twice ends.0.go ends.0.lines end ends.0.ends

  abbrev run : IsRun script (shown script end)
  run =
      record {
        run = made.0;
        ample = λ all. made.0.shows ∙ ap (shown script) (ample_runs_are_one script made.0.shortages all made.0.tokens);
        faithful =
            subst (IsFaithful script (steps_of script (shown script end) made.0)) (sym made.0.shows)
            (runs_are_faithful script made.0.shortages is.geometry is.valid made.0.tokens (history script is.geometry is.valid made.0.shortages made.0.tokens made.0.lines));
        finished = (threaded_runs_are_runs script (shown script end) is.geometry is.valid made.0 (subst (HaveEnded script) made.1 ends.0.ended)).finished;
      }

  run_to_end : has_sweep ended ≡ false → IsRunToEnd script (shown script end)
  run_to_end swept =
      record {
        run = run;
        swept = ap sweeper_has_step (sym made.1) ∙ ((λ k. is_busy (ends.1.sweeper k) || is_some (first_garbage (ends.1.directory k))) ∙ swept);
      }

  held : Holds (core_of script world) ended.directory.core ended.servers.items ended.clients.items ended.repairers.items
  held =
      record {
        width = chunk_count script.geometry;
        directory = refl;
        servers_are = refl;
        clients_are = map-map (calling_of script) (λ (caller : CallerOf). caller.actor) is.clients ∙ is.calls;
        repairers_are = map-map (calling_of script) (λ (caller : CallerOf). caller.actor) is.repairers ∙ is.rebuilds;
      }

  served : ServedAre (size_of script) (call_of script) ended.directory.core.points ended.clients.items
  served =
      owed_are_served script (lines_of script) lists is.geometry is.valid ends.0.twice ends.0.go end world ends.0.ends ends.1 ended.directory.core ended.servers.items ended.clients.items ended.repairers.items held
      ((all_served_stay_owed script).all (chunk_count script.geometry) is.logs ended.clients.items is.owed)

  pub shows_run_to_end : has_sweep ended ≡ false → (t : Transcript) → IsMadeOf ended.directory.core ended.servers.items ended.clients.items ended.repairers.items t → IsRunToEnd script t
  shows_run_to_end swept t shows =
      subst (IsRunToEnd script) (sym (shows script (core_of script world) held served ∙ (worlds_show script world).core end ends.1)) (run_to_end swept)

  -- ---- numbers of 32 bits name its servers, its actors and their calls
  can : CanRun script
  can = can_run script is.geometry is.valid

  kept : AllCalls script made.0.tokens end
  kept =
      subst (AllCalls script made.0.tokens) (sym made.1)
      (run_has script can (AllCalls script) (calls_kept script can) made.0.shortages (first_calls script can) made.0.tokens).1

  pub few_servers : length ended.servers.items ≤ 2 ^ 32
  few_servers =
      let one : length places ≡ length ended.servers.items = length-map ended.servers.items server_core in
      let two : length places ≡ chunk_count script.geometry = is.places.width in
      omega (arith, one, two, is.geometry.chunks, is.geometry.nodes)

  pub clients_have_names : HaveNames (counts_of ended.clients.items)
  clients_have_names =
      have_names script (client_work script) end.clients is.clients ended.clients.items ends.1.clients kept.clients is.calls (length-map script.clients _ ∙ sym is.all.client_count) (client_jobs script is.valid)
      (omega (arith, is.all.client_count, is.valid.limits.clients))

  pub repairers_have_names : HaveNames (counts_of ended.repairers.items)
  repairers_have_names =
      have_names script (repairer_work script) end.repairers is.repairers ended.repairers.items ends.1.repairers kept.repairers is.rebuilds (length-map script.repairers _ ∙ sym is.all.repairer_count) (repairer_jobs script is.valid)
      (omega (arith, is.all.repairer_count, is.valid.limits.repairers))
