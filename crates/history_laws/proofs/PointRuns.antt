-- In every run points come by steps of their calls, counts are those of the trace, and what calls were told of points came while they ran.
use Rattle.std.proofs.Common.{◌≡◌, ◌⊎◌, inl, inr, ℕ, ◌<◌, Bool, true, false, cond, List, [], ◌∷◌, ◌++◌, length, Option, None, Some, option_map, refl, sym, ap, subst, ◌∙◌}
use Rattle.std.proofs.lemmas.List.Elements.{All-nil}
use Rattle.std.proofs.lemmas.Option.{none-some, same_Some}
use Rattle.std.specs.List.{slice_get}
use Rattle.clay_grid.specs.Shape.{chunk_count}
use Rattle.store_map.specs.Limits.{size_of, tries_of}
use Rattle.store_map.specs.declared.actor.Actor.{Actor}
use Rattle.store_map.specs.declared.actor.Actor.TheVariants as actor
use Rattle.store_map.specs.declared.actor.Token.{Token}
use Rattle.store_map.specs.declared.script.Script.{Script}
use Rattle.store_core.specs.Act.{Act, DirectoryStep, ServerStep}
use Rattle.store_core.specs.Agreement.{ActorToken, AgreesWithPass}
use Rattle.store_core.specs.AtDirectory.{reap, reap_pass}
use Rattle.store_core.specs.Core.{Core, first_core}
use Rattle.store_core.specs.Directory.{Pass, Directory}
use Rattle.store_core.specs.Lists.{change_at}
use Rattle.store_core.specs.Lookups.{same_actor, pass_of, first_garbage}
use Rattle.store_core.specs.NextAct.{Job}
use Rattle.store_core.specs.PlaceLaws.{new_point}
use Rattle.store_core.specs.Run.{places_in}
use Rattle.store_core.specs.Schedule.{run_core}
use Rattle.store_core.specs.Server.{Server, new_server}
use Rattle.store_core.specs.Step.{Shortage, Places, at_places, at_server_there, actor_step}
use Rattle.store_core.specs.Sweep.{next_sweep}
use Rattle.store_core.specs.Told.{Told}
use Rattle.store_core.specs.Work.{Work, Calling, client_work, repairer_work, new_calling}
use Rattle.run_laws.proofs.Groups.{slice_changed}
use Rattle.run_laws.proofs.OwnPasses.{one_changed, keeps_actor, mapped_found, step_moves}
use Rattle.run_laws.proofs.PlaceMoves.{call_step}
use Rattle.run_laws.proofs.Proper.{IsProper, HasTry}
use Rattle.run_laws.proofs.Runs.{CanRun, IsOperatorAct}
use Rattle.run_laws.proofs.Scripts.{replicated}
use Rattle.run_laws.proofs.OwnSteps.{agreement_goes_on}
use Rattle.run_laws.proofs.Passes.{same_is, pass_is}
use Rattle.history_laws.proofs.ActorLines.{each_changed}
use Rattle.history_laws.proofs.AtWork.{AtWork, client_at, repairer_at, pass_number, pass_note, first, act, after, proper, answered}
use Rattle.history_laws.proofs.Induction.{client_after, repairer_after, operator_after, sweeper_after}
use Rattle.history_laws.proofs.ReapedPasses.{sweeps_apart}
use Rattle.history_laws.proofs.ToldPoints.{PointTold, points_told}
use Rattle.run_laws.specs.CallLeft.{pin_bound}
use Rattle.store_core.specs.Bounds.{touched_count}
use Rattle.history_laws.specs.Trace.{Made, call_made, act_made}
use Rattle.history_laws.specs.Moments.{wipes_it, downs_it}
use Rattle.history_laws.specs.Steps.{run_trace}
use Rattle.history_laws.proofs.Callers.{ActorThen, stays, own_step}
use Rattle.history_laws.proofs.Counts.{Counted, AllCounted, elsewhere, beside as elsewhere_at, at_it}
use Rattle.history_laws.proofs.LinePoints.{PointsThen, call_points, not_given, server_no_point, server_same, sweeper_act, others_points}
use Rattle.history_laws.proofs.Traced.{KeptByMade, run_traced}
use Rattle.history_laws.proofs.Within.{ReapOf, PassThen, act_appends, stays_then}

-- ---- another's pass
-- the pass after a step was there before, but perhaps for a reap
pub record Stood (made : Made) (who : Actor) (before : Directory) (now : Pass) : Type 0 where
  pub pass : Pass
  pub found : pass_of who before ≡ Some pass
  pub same_base : now.base ≡ pass.base
  pub same_note : now.note ≡ pass.note
  pub same : now ≡ record pass { reaped = now.reaped }
  pub reaps : (point : ℕ) → now.reaped ≡ Some point → (pass.reaped ≡ Some point) ⊎ ((new_point made.answer ≡ Some point) × ReapOf who made)

pub as_before : (made : Made) (who : Actor) (before : Directory) (now : Pass) → pass_of who before ≡ Some now → Stood made who before now
as_before made who before now found = record { pass = now; found = found; same_base = refl; same_note = refl; same = refl; reaps = λ point is. inl is }

-- after a reap
reaps_so : (made : Made) (who target : Actor) (d : Directory) → made.act ≡ Act.AtDirectory (DirectoryStep.Reap target) → (found : Option Pass) → pass_of target d ≡ found → made.answer ≡ (reap found d).1
    → (now : Pass) → pass_of who (reap found d).0 ≡ Some now → Stood made who d now
reaps_so made who target d is_act None e is now found = as_before made who d now found
reaps_so made who target d is_act (Some pass) e is now found = by pass.reaped is found
  where
    change : Pass → Pass
    change other = record other { reaped = Some (length d.points) }

    marked : (p : Pass) → pass_of who d ≡ Some p → (b : Bool) → same_actor pass.actor p.actor ≡ b → made.answer ≡ Told.GivenUp (Some (length d.points)) → cond {A = Pass} b (record p { reaped = Some (length d.points) }) p ≡ now
        → Stood made who d now
    marked p is_p false apart told k = as_before made who d now (is_p ∙ ap Some k)
    marked p is_p true same told k =
        record {
          pass = p;
          found = is_p;
          same_base = ap (λ (x : Pass). x.base) (sym k);
          same_note = ap (λ (x : Pass). x.note) (sym k);
          same = sym k ∙ (λ i. record p { reaped = ap (λ (x : Pass). x.reaped) k i });
          reaps = λ point reaped. inr (ap new_point told ∙ ap (λ (x : Pass). x.reaped) k ∙ reaped, is_act ∙ ap (λ a. Act.AtDirectory (DirectoryStep.Reap a)) mine);
        }
      where
        mine : target ≡ who
        mine = pass_is target d pass e ∙ same_is pass.actor p.actor same ∙ sym (pass_is who d p is_p)

    from : (old : Option Pass) → pass_of who d ≡ old → made.answer ≡ Told.GivenUp (Some (length d.points)) → option_map (one_changed pass.actor (λ other. record other { reaped = Some (length d.points) })) old ≡ Some now → Stood made who d now
    from None is_old told k = absurd (none-some now k)
    from (Some p) is_old told k = marked p is_old (same_actor pass.actor p.actor) refl told (same_Some (one_changed pass.actor (λ other. record other { reaped = Some (length d.points) }) p) now k)

    by : (reaped : Option ℕ) → made.answer ≡ (reap_pass pass reaped d).1 → pass_of who (reap_pass pass reaped d).0 ≡ Some now → Stood made who d now
    by (Some point) told k = as_before made who d now k
    by None told k =
        from (pass_of who d) refl told
        (sym (mapped_found who (one_changed pass.actor (λ other. record other { reaped = Some (length d.points) })) (keeps_actor pass.actor (λ other. record other { reaped = Some (length d.points) }) (λ p. refl)) d.passes) ∙ k)

-- after a step of the sweeper or the operator
pub others_stood : (d : Directory) (servers : List Server) (acting : Actor) (a : Act) → IsOperatorAct a → (who : Actor)
    → (now : Pass) → pass_of who (at_places false acting 0 a (record { directory = d; servers = servers })).0.directory ≡ Some now → Stood (act_made acting a (record { directory = d; servers = servers })) who d now
others_stood d servers acting (Act.AtDirectory DirectoryStep.NextGarbage) k who now found = as_before _ who d now (sym (sweeps_apart who (first_garbage d) d) ∙ found)
others_stood d servers acting (Act.AtDirectory (DirectoryStep.Swept version)) k who now found = as_before _ who d now found
others_stood d servers acting (Act.AtDirectory (DirectoryStep.Reap target)) k who now found =
    reaps_so (act_made acting (Act.AtDirectory (DirectoryStep.Reap target)) (record { directory = d; servers = servers })) who target d refl (pass_of target d) refl refl now found
others_stood d servers acting (Act.AtDirectory step) k who now found = absurd k
others_stood d servers acting (Act.AtServer n step) k who now found =
    as_before _ who d now (sym (ap (pass_of who) (server_same false n step (record { directory = d; servers = servers }) (slice_get servers n))) ∙ found)
others_stood d servers acting (Act.Finish outcome) k who now found = absurd k

-- agreement is left to others
agrees_on : (short : Bool) (acting : Actor) (number : ℕ) (a : Act) (places : Places) (who : Actor) → same_actor acting who ≡ false → (held : Pass) (told : Option ℕ) → held.actor ≡ who
    → AgreesWithPass places.directory (record { pass = held; told = told }) → AgreesWithPass (at_places short acting number a places).0.directory (record { pass = held; told = told })
agrees_on short acting number (Act.AtDirectory step) places who apart held told mine h =
    agreement_goes_on.others short acting number step places.directory (ActorToken.InCall (record { pass = held; told = told })) (ap (same_actor acting) mine ∙ apart) h
agrees_on short acting number (Act.AtServer server step) places who apart held told mine h =
    subst (λ (d : Directory). AgreesWithPass d (record { pass = held; told = told })) (sym (server_same short server step places (slice_get places.servers server))) h
agrees_on short acting number (Act.Finish outcome) places who apart held told mine h = h

-- so a pass stands on as much
stands_on : (trace : List Made) (short : Bool) (acting : Actor) (number : ℕ) (a : Act) (places : Places) (made : Made) → made.answer ≡ (at_places short acting number a places).1
    → (who : Actor) → same_actor acting who ≡ false → ((now : Pass) → pass_of who (at_places short acting number a places).0.directory ≡ Some now → Stood made who places.directory now)
    → (now : Pass) → pass_of who (at_places short acting number a places).0.directory ≡ Some now
    → (p : Pass) × (pass_of who places.directory ≡ Some p) × ((n : ℕ) → PassThen trace places.directory who n p → PassThen (trace ++ made ∷ []) (at_places short acting number a places).0.directory who n now)
stands_on trace short acting number a places made is who apart stood now found =
    let old : Stood made who places.directory now = stood now found in (
      old.pass,
      old.found,
      λ n then.
          stays_then trace made places.directory (at_places short acting number a places).0.directory who n (act_appends short acting number a places made is) old.pass now
          (λ r held told mine h. agrees_on short acting number a places who apart held told mine h) old.same_base old.same_note (inl old.same) old.reaps then,
    )

-- ---- a call's step
module _ (script : Script) (who : Actor) (job : Job) (calling : Calling) (places : Places) (at : AtWork script who job calling places) (shortages : Shortage) (trace : List Made) where
  abbrev doing : Act
  doing = act script who job calling places at shortages.coding shortages.step

  abbrev done : Places × Told
  done = after script who job calling places at shortages.coding shortages.step

  abbrev step_made : Made
  step_made = call_made script shortages who calling places job

  pub other_pass : (other : Actor) → same_actor other who ≡ false → pass_of other done.0.directory ≡ pass_of other places.directory
  other_pass other apart = by (act script who job calling places at shortages.coding shortages.step) (proper script who job calling places at shortages.coding shortages.step)
    where
      by : (a : Act) → IsProper script.geometry job (HasTry job.note.kind (tries_of script) (first script who job calling places at shortages.coding shortages.step)) a
          → pass_of other (at_places shortages.step who (length calling.ended) a places).0.directory ≡ pass_of other places.directory
      by (Act.AtDirectory step) is_proper =
          (step_moves shortages.step who (length calling.ended) job.note step places.directory at.self
          (call_step job (HasTry job.note.kind (tries_of script) (first script who job calling places at shortages.coding shortages.step)) step is_proper) (pass_number script who job calling places at)).others other apart
      by (Act.AtServer n step) is_proper = ap (pass_of other) (server_same shortages.step n step places (slice_get places.servers n))
      by (Act.Finish outcome) is_proper = refl

  beside : (other : Actor) → same_actor other who ≡ false → same_actor who other ≡ false → (jobs : List Job) (c : Calling) → ActorThen trace places.directory other jobs c → ActorThen (trace ++ step_made ∷ []) done.0.directory other jobs c
  beside other apart apart_too jobs c h =
      stays trace step_made places.directory done.0.directory other jobs c
      (stands_on trace shortages.step who (length calling.ended) doing places step_made refl other apart_too (λ now found. as_before step_made other places.directory now (sym (other_pass other apart) ∙ found))) h

  points : PointsThen trace places.directory.points → PointsThen (trace ++ step_made ∷ []) done.0.directory.points
  points h =
      call_points trace step_made places.directory.points done.0.directory.points job.note h done.1 refl
      (by (act script who job calling places at shortages.coding shortages.step) (proper script who job calling places at shortages.coding shortages.step))
      (not_given (pin_bound script.geometry (size_of script) job.note) (touched_count script.geometry job.note) (act script who job calling places at shortages.coding shortages.step) done.1 (answered script who job calling places at shortages.coding shortages.step).answers)
    where
      same_told : (n : ℕ) (step : ServerStep) (found : Option Server) → PointTold who (length calling.ended) job.note places.directory.points (at_server_there shortages.step n step places found).0.directory.points (at_server_there shortages.step n step places found).1
      same_told n step found = told (at_server_there shortages.step n step places found).1 (server_no_point shortages.step n step places found) (ap (λ (d : Directory). d.points) (server_same shortages.step n step places found))
        where
          told : (answer : Told) → new_point answer ≡ None → {b : List _} → b ≡ places.directory.points → PointTold who (length calling.ended) job.note places.directory.points b answer
          told (Told.Answer point given) none same = absurd (none-some point (sym none))
          told (Told.Pinned point length_now stripes) none same = absurd (none-some point (sym none))
          told (Told.Done point) none same = absurd (none-some point (sym none))
          told answer none same = same

      by : (a : Act) → IsProper script.geometry job (HasTry job.note.kind (tries_of script) (first script who job calling places at shortages.coding shortages.step)) a
          → PointTold who (length calling.ended) job.note places.directory.points (at_places shortages.step who (length calling.ended) a places).0.directory.points (at_places shortages.step who (length calling.ended) a places).1
      by (Act.AtDirectory step) is_proper =
          points_told who (length calling.ended) job.note places.directory (λ pass found. (pass_number script who job calling places at pass found, pass_note script who job calling places at pass found)) shortages.step step
          (call_step job (HasTry job.note.kind (tries_of script) (first script who job calling places at shortages.coding shortages.step)) step is_proper)
      by (Act.AtServer n step) is_proper = same_told n step (slice_get places.servers n)
      by (Act.Finish outcome) is_proper = refl

-- ---- counts
counts_on : (trace : List Made) (short : Bool) (acting : Actor) (number : ℕ) (a : Act) (places : Places) (made : Made) → made.act ≡ a → AllCounted trace places.servers → AllCounted (trace ++ made ∷ []) (at_places short acting number a places).0.servers
counts_on trace short acting number (Act.AtDirectory step) places made is h = elsewhere trace made places.servers (λ j. ap (wipes_it j) is) (λ j. ap (downs_it j) is) h
counts_on trace short acting number (Act.Finish outcome) places made is h = elsewhere trace made places.servers (λ j. ap (wipes_it j) is) (λ j. ap (downs_it j) is) h
counts_on trace short acting number (Act.AtServer n step) places made is h = by (slice_get places.servers n) refl
  where
    by : (found : Option Server) → slice_get places.servers n ≡ found → AllCounted (trace ++ made ∷ []) (at_server_there short n step places found).0.servers
    by None e = λ j s at_j. elsewhere_at trace made n step is places.servers j s (λ same. none-some s (sym e ∙ ap (slice_get places.servers) (sym same) ∙ at_j)) (h j s at_j)
    by (Some s) e = at_it trace made n step is short places.servers s e h

-- ---- all of a core
pub record PointsSoFar (script : Script) (trace : List Made) (core : Core) : Type 0 where
  pub counts : AllCounted trace core.servers
  pub points : PointsThen trace core.directory.points
  pub clients : (i : ℕ) (c : Calling) → slice_get core.clients i ≡ Some c → (work : Work) → slice_get (client_work script) i ≡ Some work → ActorThen trace core.directory (actor.Client i) work.jobs c
  pub repairers : (i : ℕ) (c : Calling) → slice_get core.repairers i ≡ Some c → (work : Work) → slice_get (repairer_work script) i ≡ Some work → ActorThen trace core.directory (actor.Repairer i) work.jobs c

module _ (script : Script) (can : CanRun script) (some : 0 < script.geometry.parity_count) where
  -- a step of the sweeper or the operator
  others : (trace : List Made) (core : Core) (acting : Actor) (a : Act) → IsOperatorAct a → ((i : ℕ) → same_actor acting (actor.Client i) ≡ false) → ((i : ℕ) → same_actor acting (actor.Repairer i) ≡ false) → PointsSoFar script trace core
      → (after_core : Core) → after_core.directory ≡ (at_places false acting 0 a (places_in core)).0.directory → after_core.servers ≡ (at_places false acting 0 a (places_in core)).0.servers
      → after_core.clients ≡ core.clients → after_core.repairers ≡ core.repairers → PointsSoFar script (trace ++ act_made acting a (places_in core) ∷ []) after_core
  others trace core acting a is_others apart_clients apart_repairers has after_core same servers clients repairers =
      record {
        counts = subst (AllCounted (trace ++ act_made acting a (places_in core) ∷ [])) (sym servers) (counts_on trace false acting 0 a (places_in core) (act_made acting a (places_in core)) refl has.counts);
        points = subst (λ (x : Directory). PointsThen (trace ++ act_made acting a (places_in core) ∷ []) x.points) (sym same) (others_points trace acting (places_in core) a is_others has.points);
        clients = λ i c e work is.
            subst (λ (x : Directory). ActorThen (trace ++ act_made acting a (places_in core) ∷ []) x (actor.Client i) work.jobs c) (sym same)
            (stays trace (act_made acting a (places_in core)) core.directory (at_places false acting 0 a (places_in core)).0.directory (actor.Client i) work.jobs c
            (stands_on trace false acting 0 a (places_in core) (act_made acting a (places_in core)) refl (actor.Client i) (apart_clients i) (others_stood core.directory core.servers acting a is_others (actor.Client i)))
            (has.clients i c (ap (λ (l : List Calling). slice_get l i) (sym clients) ∙ e) work is));
        repairers = λ i c e work is.
            subst (λ (x : Directory). ActorThen (trace ++ act_made acting a (places_in core) ∷ []) x (actor.Repairer i) work.jobs c) (sym same)
            (stays trace (act_made acting a (places_in core)) core.directory (at_places false acting 0 a (places_in core)).0.directory (actor.Repairer i) work.jobs c
            (stands_on trace false acting 0 a (places_in core) (act_made acting a (places_in core)) refl (actor.Repairer i) (apart_repairers i) (others_stood core.directory core.servers acting a is_others (actor.Repairer i)))
            (has.repairers i c (ap (λ (l : List Calling). slice_get l i) (sym repairers) ∙ e) work is));
      }

  pub points_kept : KeptByMade script can (PointsSoFar script)
  points_kept =
      record {
        client = λ trace core kept has i work calling job is_work is_calling is_job shortages kept_after.
            let at : AtWork script (actor.Client i) job calling (places_in core) = client_at script can core kept i work calling job is_work is_calling is_job in
            let next : Places × Calling = actor_step script.geometry (tries_of script) shortages (actor.Client i) job calling (places_in core) in
            let is_next : slice_get (change_at i (λ _. next.1) core.clients) i ≡ Some next.1 = slice_changed i calling next.1 core.clients is_calling in
            record {
              counts =
                  counts_on trace shortages.step (actor.Client i) (length calling.ended) (act script (actor.Client i) job calling (places_in core) at shortages.coding shortages.step) (places_in core)
                  (call_made script shortages (actor.Client i) calling (places_in core) job) refl has.counts;
              points = points script (actor.Client i) job calling (places_in core) at shortages trace has.points;
              clients =
                  each_changed (λ j c. (w : Work) → slice_get (client_work script) j ≡ Some w → ActorThen (trace ++ call_made script shortages (actor.Client i) calling (places_in core) job ∷ []) next.0.directory (actor.Client j) w.jobs c) i calling next.1 core.clients is_calling
                  (λ w is.
                  let same : work ≡ w = same_Some work w (sym is_work ∙ is) in
                  subst (λ (x : Work). ActorThen (trace ++ call_made script shortages (actor.Client i) calling (places_in core) job ∷ []) next.0.directory (actor.Client i) x.jobs next.1) same
                  (own_step script some (actor.Client i) work.jobs job calling is_job (places_in core) at shortages trace (has.clients i calling is_calling work is_work) can.tried
                  (λ j is_j. (client_at script can (client_after i core next) kept_after i work next.1 j is_work is_next is_j).in_work)))
                  (λ j differ c e w is. beside script (actor.Client i) job calling (places_in core) at shortages trace (actor.Client j) (can.clients.apart i j differ) (can.clients.apart j i (λ k. differ (sym k))) w.jobs c (has.clients j c e w is));
              repairers = λ j c e w is. beside script (actor.Client i) job calling (places_in core) at shortages trace (actor.Repairer j) refl refl w.jobs c (has.repairers j c e w is);
            };
        repairer = λ trace core kept has i work calling job is_work is_calling is_job shortages kept_after.
            let at : AtWork script (actor.Repairer i) job calling (places_in core) = repairer_at script can core kept i work calling job is_work is_calling is_job in
            let next : Places × Calling = actor_step script.geometry (tries_of script) shortages (actor.Repairer i) job calling (places_in core) in
            let is_next : slice_get (change_at i (λ _. next.1) core.repairers) i ≡ Some next.1 = slice_changed i calling next.1 core.repairers is_calling in
            record {
              counts =
                  counts_on trace shortages.step (actor.Repairer i) (length calling.ended) (act script (actor.Repairer i) job calling (places_in core) at shortages.coding shortages.step) (places_in core)
                  (call_made script shortages (actor.Repairer i) calling (places_in core) job) refl has.counts;
              points = points script (actor.Repairer i) job calling (places_in core) at shortages trace has.points;
              clients = λ j c e w is. beside script (actor.Repairer i) job calling (places_in core) at shortages trace (actor.Client j) refl refl w.jobs c (has.clients j c e w is);
              repairers =
                  each_changed (λ j c. (w : Work) → slice_get (repairer_work script) j ≡ Some w → ActorThen (trace ++ call_made script shortages (actor.Repairer i) calling (places_in core) job ∷ []) next.0.directory (actor.Repairer j) w.jobs c) i calling next.1 core.repairers is_calling
                  (λ w is.
                  let same : work ≡ w = same_Some work w (sym is_work ∙ is) in
                  subst (λ (x : Work). ActorThen (trace ++ call_made script shortages (actor.Repairer i) calling (places_in core) job ∷ []) next.0.directory (actor.Repairer i) x.jobs next.1) same
                  (own_step script some (actor.Repairer i) work.jobs job calling is_job (places_in core) at shortages trace (has.repairers i calling is_calling work is_work) can.tried
                  (λ j is_j. (repairer_at script can (repairer_after i core next) kept_after i work next.1 j is_work is_next is_j).in_work)))
                  (λ j differ c e w is. beside script (actor.Repairer i) job calling (places_in core) at shortages trace (actor.Repairer j) (can.repairers.apart i j differ) (can.repairers.apart j i (λ k. differ (sym k))) w.jobs c (has.repairers j c e w is));
            };
        sweeper = λ trace core kept has.
            others trace core actor.Sweeper (next_sweep (chunk_count script.geometry) core.sweeper) (sweeper_act (chunk_count script.geometry) core.sweeper) (λ i. refl) (λ i. refl) has (sweeper_after script core) refl refl refl refl;
        operator = λ trace core kept has a is own. others trace core actor.Operator a is (λ i. refl) (λ i. refl) has (operator_after a core) refl refl refl refl;
      }

  fresh : (who : Actor) (jobs : List Job) (c : Calling) → new_calling (chunk_count script.geometry) ≡ c → ActorThen [] (first_core script).directory who jobs c
  fresh who jobs c e =
      subst (ActorThen [] (first_core script).directory who jobs) e
      (record { pass = λ job is p found. absurd (none-some p found); lost = λ job is writes. All-nil _; none = λ h. h; ended = λ number x is. absurd (none-some x is) })

  pub first_points : PointsSoFar script [] (first_core script)
  first_points =
      record {
        counts = λ j s e. let same : new_server ≡ s = replicated (chunk_count script.geometry) j new_server s e in subst (Counted [] j) same (record { epoch = refl; downs_told = refl });
        points = record { size = refl; made = λ place point e. absurd (none-some point e) };
        clients = λ i c e work is. fresh (actor.Client i) work.jobs c (replicated (length script.clients) i (new_calling (chunk_count script.geometry)) c e);
        repairers = λ i c e work is. fresh (actor.Repairer i) work.jobs c (replicated (length script.repairers) i (new_calling (chunk_count script.geometry)) c e);
      }

  -- so at the end of every run
  pub all_points : (shortages : List Shortage) (tokens : List Token) → PointsSoFar script (run_trace script shortages tokens) (run_core script shortages tokens)
  all_points shortages tokens = (run_traced script can (PointsSoFar script) points_kept shortages first_points tokens).1
