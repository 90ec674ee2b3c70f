-- What a run shows has its losses in time.
use Rattle.std.proofs.Common.{◌≡◌, inl, inr, ℕ, ◌<◌, ◌≤◌, false, List, [], ◌∷◌, ◌++◌, length, map, All, Some, refl, sym, ap, subst, ◌∙◌, arith}
use Rattle.std.proofs.lemmas.List.Elements.{All-nil, All-cons, All-head, All-tail}
use Rattle.std.proofs.lemmas.Option.{none-some, same_Some}
use Rattle.std.specs.List.{slice_get}
use Rattle.clay_grid.specs.Shape.{chunk_count}
use Rattle.store_map.specs.Limits.{tries_of}
use Rattle.store_map.specs.declared.actor.Actor.{Actor}
use Rattle.store_map.specs.declared.actor.Actor.TheVariants as actor
use Rattle.store_map.specs.declared.actor.Token.{Token}
use Rattle.store_map.specs.declared.placement.Placement.TheVariants as placement
use Rattle.store_map.specs.declared.script.Script.{Script}
use Rattle.store_map.specs.declared.call_name.ClientCall.{ClientCall}
use Rattle.store_map.specs.declared.call_name.RepairCall.{RepairCall}
use Rattle.store_map.specs.declared.call_name.CallName.{CallName}
use Rattle.store_map.specs.declared.call_name.CallName.TheVariants as name
use Rattle.store_map.specs.declared.cause.Triple.{Triple}
use Rattle.store_map.specs.declared.line.XLine.{XLine}
use Rattle.store_map.specs.declared.line.RLine.{RLine}
use Rattle.store_core.specs.Act.{Act, DirectoryStep, Outcome}
use Rattle.store_core.specs.Core.{Core, first_core}
use Rattle.store_core.specs.Directory.{Directory}
use Rattle.store_core.specs.Lookups.{pass_of}
use Rattle.store_core.specs.NextAct.{Job}
use Rattle.store_core.specs.Outcomes.{triple_of, cause_of, result_of}
use Rattle.store_core.specs.RowLines.{client, repair}
use Rattle.store_core.specs.Run.{places_in}
use Rattle.store_core.specs.Schedule.{run_core}
use Rattle.store_core.specs.Server.{Server}
use Rattle.store_core.specs.Shown.{shown, refused_line, repair_line, lines_of_ended}
use Rattle.store_core.specs.Sound.{IsSound}
use Rattle.store_core.specs.Step.{Shortage, Places, at_places, actor_step}
use Rattle.store_core.specs.Sweep.{next_sweep}
use Rattle.store_core.specs.Told.{Seen}
use Rattle.store_core.specs.Work.{Work, Calling, client_work, repairer_work, new_calling}
use Rattle.run_laws.proofs.LiveVersions.{sound_live}
use Rattle.run_laws.proofs.Runs.{CanRun, IsOperatorAct}
use Rattle.run_laws.proofs.RunsSound.{RunKeeps}
use Rattle.run_laws.proofs.Scripts.{can_run, replicated}
use Rattle.history_laws.proofs.ActorLines.{each_changed}
use Rattle.history_laws.proofs.AtWork.{AtWork, client_at, repairer_at}
use Rattle.history_laws.proofs.Induction.{operator_after, sweeper_after}
use Rattle.history_laws.proofs.OrderEnds.{EndKnown, client_has, repairer_has}
use Rattle.history_laws.proofs.OrderLists.{all_indexed}
use Rattle.history_laws.proofs.OrderRuns.{end_known}
use Rattle.history_laws.proofs.VersionMoves.{StepChange, versions_move}
use Rattle.history_laws.specs.Trace.{Made, call_made, act_made}
use Rattle.history_laws.specs.Moments.{Happened, name_of, IsOf}
use Rattle.history_laws.specs.LostChunks.{Looks, LacksIt, WasLost, WasSkipped, PlacesChunk as PlacesIt}
use Rattle.history_laws.specs.LossesInTime.{WereMissing, WasAway, NamesLosses, ResultNamesLosses, HasLossesInTime}
use Rattle.history_laws.specs.InTimeLaws.{RunsHaveLossesInTime}
use Rattle.history_laws.specs.Steps.{run_trace}
use Rattle.history_laws.proofs.LossRuns.{OwnAway, OwnLost, OwnSkipped, OwnMissing, LossesOf, LossThen, stays, heard_none, stepped, own_step}
use Rattle.history_laws.proofs.LossSteps.{rows_on, rows_move}
use Rattle.history_laws.proofs.LossTold.{OwnPlaces, OwnLooks, OwnLacks, RowsThen}
use Rattle.history_laws.proofs.Past.{weaker}
use Rattle.history_laws.proofs.PointRuns.{as_before, others_stood, other_pass, PointsSoFar, points_kept, first_points}
use Rattle.history_laws.proofs.LinePoints.{server_same, sweeper_act}
use Rattle.history_laws.proofs.Traced.{KeptByMade, run_traced}
use Rattle.history_laws.proofs.Within.{Own}

-- ---- all of a core
pub record SoFar (script : Script) (trace : List Made) (core : Core) : Type 0 where
  pub points : PointsSoFar script trace core
  pub rows : RowsThen trace core.directory.versions
  pub clients : (i : ℕ) (c : Calling) → slice_get core.clients i ≡ Some c → (work : Work) → slice_get (client_work script) i ≡ Some work → LossThen script.geometry trace core.directory (actor.Client i) work.jobs c
  pub repairers : (i : ℕ) (c : Calling) → slice_get core.repairers i ≡ Some c → (work : Work) → slice_get (repairer_work script) i ≡ Some work → LossThen script.geometry trace core.directory (actor.Repairer i) work.jobs c

-- the sweeper and the operator leave placements
others_rows : (trace : List Made) (made : Made) (acting : Actor) (d : Directory) (servers : List Server) (a : Act) → IsOperatorAct a → IsSound d → RowsThen trace d.versions
    → RowsThen (trace ++ made ∷ []) (at_places false acting 0 a (record { directory = d; servers = servers })).0.directory.versions
others_rows trace made acting d servers (Act.AtDirectory DirectoryStep.NextGarbage) k sound rows =
    rows_move trace made d.versions _ (StepChange DirectoryStep.NextGarbage (pass_of acting d)) (versions_move d (sound_live d sound) acting 0 false DirectoryStep.NextGarbage) (λ n old there new change. absurd change) rows
others_rows trace made acting d servers (Act.AtDirectory (DirectoryStep.Swept version)) k sound rows =
    rows_move trace made d.versions _ (StepChange (DirectoryStep.Swept version) (pass_of acting d)) (versions_move d (sound_live d sound) acting 0 false (DirectoryStep.Swept version)) (λ n old there new change. absurd change) rows
others_rows trace made acting d servers (Act.AtDirectory (DirectoryStep.Reap target)) k sound rows =
    rows_move trace made d.versions _ (StepChange (DirectoryStep.Reap target) (pass_of acting d)) (versions_move d (sound_live d sound) acting 0 false (DirectoryStep.Reap target)) (λ n old there new change. absurd change) rows
others_rows trace made acting d servers (Act.AtDirectory step) k sound rows = absurd k
others_rows trace made acting d servers (Act.AtServer n step) k sound rows =
    subst (λ (x : Directory). RowsThen (trace ++ made ∷ []) x.versions) (sym (server_same false n step (record { directory = d; servers = servers }) (slice_get servers n))) (rows_on trace (made ∷ []) d.versions rows)
others_rows trace made acting d servers (Act.Finish outcome) k sound rows = absurd k

module _ (script : Script) (can : CanRun script) (some : 0 < script.geometry.parity_count) where
  others : (trace : List Made) (core : Core) → RunKeeps script core → (acting : Actor) (a : Act) → IsOperatorAct a → SoFar script trace core
      → (after_core : Core) → after_core.directory ≡ (at_places false acting 0 a (places_in core)).0.directory → after_core.clients ≡ core.clients → after_core.repairers ≡ core.repairers
      → PointsSoFar script (trace ++ act_made acting a (places_in core) ∷ []) after_core → SoFar script (trace ++ act_made acting a (places_in core) ∷ []) after_core
  others trace core kept acting a is_others has after_core same clients repairers points =
      record {
        points = points;
        rows = subst (λ (x : Directory). RowsThen (trace ++ act_made acting a (places_in core) ∷ []) x.versions) (sym same) (others_rows trace (act_made acting a (places_in core)) acting core.directory core.servers a is_others kept.sound has.rows);
        clients = λ i c e work is.
            subst (λ (x : Directory). LossThen script.geometry (trace ++ act_made acting a (places_in core) ∷ []) x (actor.Client i) work.jobs c) (sym same)
            (stays script.geometry trace (act_made acting a (places_in core)) core.directory (at_places false acting 0 a (places_in core)).0.directory (actor.Client i) work.jobs c
            (others_stood core.directory core.servers acting a is_others (actor.Client i)) (has.clients i c (ap (λ (l : List Calling). slice_get l i) (sym clients) ∙ e) work is));
        repairers = λ i c e work is.
            subst (λ (x : Directory). LossThen script.geometry (trace ++ act_made acting a (places_in core) ∷ []) x (actor.Repairer i) work.jobs c) (sym same)
            (stays script.geometry trace (act_made acting a (places_in core)) core.directory (at_places false acting 0 a (places_in core)).0.directory (actor.Repairer i) work.jobs c
            (others_stood core.directory core.servers acting a is_others (actor.Repairer i)) (has.repairers i c (ap (λ (l : List Calling). slice_get l i) (sym repairers) ∙ e) work is));
      }

  keeps : KeptByMade script can (PointsSoFar script)
  keeps = points_kept script can some

  pub so_far_kept : KeptByMade script can (SoFar script)
  so_far_kept =
      record {
        client = λ trace core kept has i work calling job is_work is_calling is_job shortages kept_after.
            let at : AtWork script (actor.Client i) job calling (places_in core) = client_at script can core kept i work calling job is_work is_calling is_job in
            let next : Places × Calling = actor_step script.geometry (tries_of script) shortages (actor.Client i) job calling (places_in core) in
            let own : LossThen script.geometry trace core.directory (actor.Client i) work.jobs calling = has.clients i calling is_calling work is_work in
            record {
              points = keeps.client trace core kept has.points i work calling job is_work is_calling is_job shortages kept_after;
              rows = (stepped script some (actor.Client i) work.jobs job calling is_job (places_in core) at shortages trace has.points.counts has.rows own).rows_now;
              clients =
                  each_changed (λ j c. (w : Work) → slice_get (client_work script) j ≡ Some w → LossThen script.geometry (trace ++ call_made script shortages (actor.Client i) calling (places_in core) job ∷ []) next.0.directory (actor.Client j) w.jobs c) i calling next.1 core.clients is_calling
                  (λ w is.
                  let same : work ≡ w = same_Some work w (sym is_work ∙ is) in
                  subst (λ (x : Work). LossThen script.geometry (trace ++ call_made script shortages (actor.Client i) calling (places_in core) job ∷ []) next.0.directory (actor.Client i) x.jobs next.1) same
                  (own_step script some (actor.Client i) work.jobs job calling is_job (places_in core) at shortages trace has.points.counts has.rows own))
                  (λ j differ c e w is.
                  stays script.geometry trace (call_made script shortages (actor.Client i) calling (places_in core) job) core.directory next.0.directory (actor.Client j) w.jobs c
                  (λ p found. as_before _ (actor.Client j) core.directory p (sym (other_pass script (actor.Client i) job calling (places_in core) at shortages trace (actor.Client j) (can.clients.apart i j differ)) ∙ found)) (has.clients j c e w is));
              repairers = λ j c e w is.
                  stays script.geometry trace (call_made script shortages (actor.Client i) calling (places_in core) job) core.directory next.0.directory (actor.Repairer j) w.jobs c
                  (λ p found. as_before _ (actor.Repairer j) core.directory p (sym (other_pass script (actor.Client i) job calling (places_in core) at shortages trace (actor.Repairer j) refl) ∙ found)) (has.repairers j c e w is);
            };
        repairer = λ trace core kept has i work calling job is_work is_calling is_job shortages kept_after.
            let at : AtWork script (actor.Repairer i) job calling (places_in core) = repairer_at script can core kept i work calling job is_work is_calling is_job in
            let next : Places × Calling = actor_step script.geometry (tries_of script) shortages (actor.Repairer i) job calling (places_in core) in
            let own : LossThen script.geometry trace core.directory (actor.Repairer i) work.jobs calling = has.repairers i calling is_calling work is_work in
            record {
              points = keeps.repairer trace core kept has.points i work calling job is_work is_calling is_job shortages kept_after;
              rows = (stepped script some (actor.Repairer i) work.jobs job calling is_job (places_in core) at shortages trace has.points.counts has.rows own).rows_now;
              clients = λ j c e w is.
                  stays script.geometry trace (call_made script shortages (actor.Repairer i) calling (places_in core) job) core.directory next.0.directory (actor.Client j) w.jobs c
                  (λ p found. as_before _ (actor.Client j) core.directory p (sym (other_pass script (actor.Repairer i) job calling (places_in core) at shortages trace (actor.Client j) refl) ∙ found)) (has.clients j c e w is);
              repairers =
                  each_changed (λ j c. (w : Work) → slice_get (repairer_work script) j ≡ Some w → LossThen script.geometry (trace ++ call_made script shortages (actor.Repairer i) calling (places_in core) job ∷ []) next.0.directory (actor.Repairer j) w.jobs c) i calling next.1 core.repairers is_calling
                  (λ w is.
                  let same : work ≡ w = same_Some work w (sym is_work ∙ is) in
                  subst (λ (x : Work). LossThen script.geometry (trace ++ call_made script shortages (actor.Repairer i) calling (places_in core) job ∷ []) next.0.directory (actor.Repairer i) x.jobs next.1) same
                  (own_step script some (actor.Repairer i) work.jobs job calling is_job (places_in core) at shortages trace has.points.counts has.rows own))
                  (λ j differ c e w is.
                  stays script.geometry trace (call_made script shortages (actor.Repairer i) calling (places_in core) job) core.directory next.0.directory (actor.Repairer j) w.jobs c
                  (λ p found. as_before _ (actor.Repairer j) core.directory p (sym (other_pass script (actor.Repairer i) job calling (places_in core) at shortages trace (actor.Repairer j) (can.repairers.apart i j differ)) ∙ found)) (has.repairers j c e w is));
            };
        sweeper = λ trace core kept has.
            others trace core kept actor.Sweeper (next_sweep (chunk_count script.geometry) core.sweeper) (sweeper_act (chunk_count script.geometry) core.sweeper) has (sweeper_after script core) refl refl refl (keeps.sweeper trace core kept has.points);
        operator = λ trace core kept has a is own. others trace core kept actor.Operator a is has (operator_after a core) refl refl refl (keeps.operator trace core kept has.points a is own);
      }

  fresh : (who : Actor) (jobs : List Job) (c : Calling) → new_calling (chunk_count script.geometry) ≡ c → LossThen script.geometry [] (first_core script).directory who jobs c
  fresh who jobs c e =
      subst (LossThen script.geometry [] (first_core script).directory who jobs) e
      (record { heard = λ job is. heard_none script.geometry [] (first_core script).directory who _ job.target job.note.kind job.note.kind job.note; away = λ count h. absurd h; ended = λ number x is. absurd (none-some x is) })

  pub first_so_far : SoFar script [] (first_core script)
  first_so_far =
      record {
        points = first_points script can some;
        rows = λ n version e. absurd (none-some version e);
        clients = λ i c e work is. fresh (actor.Client i) work.jobs c (replicated (length script.clients) i (new_calling (chunk_count script.geometry)) c e);
        repairers = λ i c e work is. fresh (actor.Repairer i) work.jobs c (replicated (length script.repairers) i (new_calling (chunk_count script.geometry)) c e);
      }

  all_losses : (shortages : List Shortage) (tokens : List Token) → SoFar script (run_trace script shortages tokens) (run_core script shortages tokens)
  all_losses shortages tokens = (run_traced script can (SoFar script) so_far_kept shortages first_so_far tokens).1

-- ---- by the call's name
module _ (trace : List Made) (who : Actor) (number : ℕ) (call : CallName) (named : name_of who number ≡ Some call) where
  is_of : (made : Made) → Own who number made → IsOf call made
  is_of made own = (λ i. name_of (own.0 i) (own.1 i)) ∙ named

  looks : (seen : Seen) (before : List Made) (made : Made) → OwnLooks who number seen before made → Looks call seen before made
  looks seen before made h = (is_of made h.0, h.1, h.2)

  lost_one : (seen : Seen) (lost : Triple) → OwnLost trace who number seen lost → WasLost trace call seen lost
  lost_one seen lost h = (
    weaker (OwnLacks who number seen lost.server lost.found) (LacksIt call seen lost.server lost.found)
        (λ before made k. (is_of made k.0, k.1, k.2, k.3, weaker (OwnLooks who number seen) (Looks call seen) (looks seen) before k.4)) trace h.0,
    h.1,
  )

  skipped_one : (version : ℕ) (lost : Triple) → OwnSkipped trace who number version lost → WasSkipped trace call version lost
  skipped_one version lost h = (
    h.0,
    h.1,
    h.2,
    weaker (OwnPlaces who number lost.server version (placement.Skipped h.0)) (λ before made. IsOf call made × PlacesIt lost.server version (placement.Skipped h.0) before made) (λ before made k. (is_of made k.0, k.1)) trace h.3,
  )

  all_on : (P R : Triple → Type 0) → ((x : Triple) → P x → R x) → (xs : List Triple) → All P xs → All R xs
  all_on P R f [] h = All-nil R
  all_on P R f (x ∷ xs) h = All-cons R x xs (f x (All-head P x xs h)) (all_on P R f xs (All-tail P x xs h))

  missing_so : (stripe : ℕ) (missing : List Triple) → OwnMissing trace who number stripe missing → WereMissing trace call stripe missing
  missing_so stripe missing (inl h) = inl (h.0, h.1, all_on (OwnLost trace who number h.0) (WasLost trace call h.0) (lost_one h.0) missing h.2)
  missing_so stripe missing (inr h) = inr (h.0, all_on (OwnSkipped trace who number h.0) (WasSkipped trace call h.0) (skipped_one h.0) missing h.1)

  away_so : (told : ℕ) → Happened trace (OwnAway who number told) → WasAway trace call told
  away_so told h =
      weaker (OwnAway who number told) _ (λ before made k. (is_of made k.0, k.1)) trace h

-- ---- one line
module _ (trace : List Made) where
  abbrev Q : XLine → Type 0
  Q line = NamesLosses trace (name.Client line.call) line.cause

  refused_one : (call : ClientCall) (outcome : Outcome) → LossesOf trace (actor.Client call.client) call.number outcome → All Q (refused_line call (cause_of outcome))
  refused_one call (Outcome.Unavailable stripe missing) h = All-cons Q _ [] (missing_so trace (actor.Client call.client) call.number (name.Client call) refl stripe (map triple_of missing) h) (All-nil Q)
  refused_one call (Outcome.Contended pairs) h = All-cons Q _ [] tt (All-nil Q)
  refused_one call (Outcome.Reaped point) h = All-cons Q _ [] tt (All-nil Q)
  refused_one call Outcome.NoMemory h = All-cons Q _ [] tt (All-nil Q)
  refused_one call outcome h = All-nil Q

  abbrev R : RLine → Type 0
  R line = ResultNamesLosses trace (name.Repairer line.call) line.result

  repair_one : (call : RepairCall) (outcome : Outcome) → LossesOf trace (actor.Repairer call.repairer) call.number outcome → All R (repair_line call (result_of outcome))
  repair_one call (Outcome.Unavailable stripe missing) h = All-cons R _ [] (missing_so trace (actor.Repairer call.repairer) call.number (name.Repairer call) refl stripe (map triple_of missing) h) (All-nil R)
  repair_one call (Outcome.Away told) h = All-cons R _ [] (away_so trace (actor.Repairer call.repairer) call.number (name.Repairer call) refl told h) (All-nil R)
  repair_one call (Outcome.Superseded newer) h = All-cons R _ [] tt (All-nil R)
  repair_one call (Outcome.Reaped point) h = All-cons R _ [] tt (All-nil R)
  repair_one call Outcome.Rebuilt h = All-cons R _ [] tt (All-nil R)
  repair_one call Outcome.Here h = All-cons R _ [] tt (All-nil R)
  repair_one call Outcome.NoSuch h = All-cons R _ [] tt (All-nil R)
  repair_one call Outcome.NoMemory h = All-cons R _ [] tt (All-nil R)
  repair_one call outcome h = All-nil R

-- ---- all lines
module _ (script : Script) (trace : List Made) (core : Core) (known : EndKnown script core) (has : SoFar script trace core) where
  lines_in_time : HasLossesInTime trace (shown script core)
  lines_in_time =
      record {
        refused =
            all_indexed (λ j. lines_of_ended (λ number ended. refused_line (client j number) (cause_of ended.outcome))) (λ (line : XLine). NamesLosses trace (name.Client line.call) line.cause) core.clients
            (λ i c is_c.
            all_indexed (λ number ended. refused_line (client i number) (cause_of ended.outcome)) (λ (line : XLine). NamesLosses trace (name.Client line.call) line.cause) c.ended
            (λ number e is_e.
            let work : (w : Work) × (slice_get (client_work script) i ≡ Some w) = client_has script core known i c is_c in
            refused_one trace (client i number) e.outcome ((has.clients i c is_c work.0 work.1).ended number e is_e)));
        repairs =
            all_indexed (λ j. lines_of_ended (λ number ended. repair_line (repair j number) (result_of ended.outcome))) (λ (line : RLine). ResultNamesLosses trace (name.Repairer line.call) line.result) core.repairers
            (λ i c is_c.
            all_indexed (λ number ended. repair_line (repair i number) (result_of ended.outcome)) (λ (line : RLine). ResultNamesLosses trace (name.Repairer line.call) line.result) c.ended
            (λ number e is_e.
            let work : (w : Work) × (slice_get (repairer_work script) i ≡ Some w) = repairer_has script core known i c is_c in
            repair_one trace (repair i number) e.outcome ((has.repairers i c is_c work.0 work.1).ended number e is_e)));
      }

pub runs_have_losses_in_time : RunsHaveLossesInTime
runs_have_losses_in_time script shortages geometry valid tokens =
    let some : 0 < script.geometry.parity_count = (let two : 2 ≤ script.geometry.parity_count = geometry.limits.parity_chunks.0 in omega (arith, two)) in
    lines_in_time script (run_trace script shortages tokens) (run_core script shortages tokens) (end_known script geometry valid shortages tokens) (all_losses script (can_run script geometry valid) some shortages tokens)
