-- In every run servers hold only what may be held.
use Rattle.std.proofs.Common.{◌≡◌, ◌⊎◌, inl, inr, ℕ, suc, ◌+◌, ◌<◌, ◌≤◌, true, false, nat_eq, List, [], ◌∷◌, ◌++◌, length, All, Option, None, Some, refl, sym, ap, subst, ◌∙◌, arith, true≢false}
use Rattle.std.proofs.lemmas.Bool.{eq-eqb, or_right, or_left}
use Rattle.std.proofs.lemmas.List.Elements.{All-nil, All-cons}
use Rattle.std.proofs.lemmas.Option.{none-some, same_Some}
use Rattle.std.specs.List.{slice_get}
use Rattle.clay_grid.specs.Shape.{Shape, chunk_count}
use Rattle.store_map.specs.Limits.{size_of, tries_of}
use Rattle.store_map.specs.declared.actor.Actor.{Actor}
use Rattle.store_map.specs.declared.actor.Actor.TheVariants as actor
use Rattle.store_map.specs.declared.actor.Token.{Token}
use Rattle.store_map.specs.declared.script.Script.{Script}
use Rattle.store_core.specs.Act.{Act, DirectoryStep, ServerStep}
use Rattle.store_core.specs.Core.{Core, first_core}
use Rattle.store_core.specs.Directory.{Standing, Version, Pass, Point, Directory}
use Rattle.store_core.specs.Lists.{change_at, is_among}
use Rattle.store_core.specs.Lookups.{same_actor, pass_of, first_garbage}
use Rattle.store_core.specs.NextAct.{Job, next_act}
use Rattle.store_core.specs.Run.{places_in}
use Rattle.store_core.specs.Schedule.{run_core}
use Rattle.store_core.specs.Server.{Server, new_server}
use Rattle.store_core.specs.Sound.{IsSound}
use Rattle.store_core.specs.Step.{Shortage, Places, at_places, at_server_there, take_from, ended_by, actor_step}
use Rattle.store_core.specs.Sweep.{Sweeper, next_sweep}
use Rattle.store_core.specs.Tell.{tell}
use Rattle.store_core.specs.Told.{Told}
use Rattle.store_core.specs.Work.{Work, Calling, client_work, repairer_work, new_calling}
use Rattle.run_laws.specs.GatherLaws.{Tells}
use Rattle.run_laws.proofs.ActorSteps.{InWork}
use Rattle.run_laws.proofs.DirectoryInvariants.{StepsKeep, runs_hold}
use Rattle.run_laws.proofs.Groups.{slice_changed}
use Rattle.run_laws.proofs.Runs.{CanRun, IsOperatorAct}
use Rattle.run_laws.proofs.RunsSound.{RunKeeps}
use Rattle.run_laws.proofs.Scripts.{can_run, replicated}
use Rattle.run_laws.specs.DrawnLaws.{DrawnAreBeingWritten}
use Rattle.run_laws.proofs.DrawnPasses.{steps_keep_drawn}
use Rattle.run_laws.proofs.Passes.{pass_is}
use Rattle.run_laws.proofs.SoundVersions.{stands_at}
use Rattle.history_laws.proofs.ActorLines.{each_changed}
use Rattle.history_laws.proofs.AnsweredPoints.{act_grows}
use Rattle.history_laws.proofs.AtWork.{AtWork, client_at, repairer_at, pass_number, first, act, after}
use Rattle.history_laws.proofs.GivenUpRuns.{told_either}
use Rattle.history_laws.proofs.Induction.{client_after, repairer_after, operator_after, sweeper_after}
use Rattle.history_laws.proofs.ReapedPasses.{sweeps_apart}
use Rattle.history_laws.specs.Held.{IsKept, WasGivenUp, IsStray, MayBeHeld, RunsHoldWhatTheyMay}
use Rattle.history_laws.specs.Moments.{Happened}
use Rattle.history_laws.specs.Steps.{run_trace}
use Rattle.history_laws.specs.Trace.{Made, call_made, act_made}
use Rattle.history_laws.proofs.Callers.{ActorThen, moved, no_pass}
use Rattle.history_laws.proofs.HeldCalls.{TellsVersions, HeldActor, first_drew, call_held}
use Rattle.history_laws.proofs.HeldRuns.{adds, HeldThen, given_up_on}
use Rattle.history_laws.proofs.HeldSteps.{idle_apart, more_held, directory_held, server_held, sweeper_held, reap_given, none_added}
use Rattle.history_laws.proofs.LossLines.{SoFar, so_far_kept, first_so_far}
use Rattle.history_laws.proofs.LossRuns.{LossThen}
use Rattle.history_laws.proofs.Past.{last, on}
use Rattle.history_laws.proofs.PointRuns.{other_pass}
use Rattle.history_laws.proofs.LinePoints.{server_same, sweeper_act}
use Rattle.history_laws.proofs.StepPasses.{FromOld, FromLook}
use Rattle.history_laws.proofs.Traced.{IsOfOperator, KeptByMade, run_traced}

-- ---- an actor's own step
abbrev IsVersions : Told → Type 0
IsVersions (Told.Versions versions) = Unit {0}
IsVersions answer = ⊥

module _ (script : Script) (some : 0 < script.geometry.parity_count) (who : Actor) (jobs : List Job) (job : Job) (calling : Calling) (is_job : slice_get jobs (length calling.ended) ≡ Some job)
    (places : Places) (at : AtWork script who job calling places) (shortages : Shortage) (trace : List Made) (then : ActorThen trace places.directory who jobs calling) (kept : HeldActor trace places.directory who jobs calling)
    (drew_first : (versions : List ℕ) → Tells (λ answer. answer ≡ Told.Versions versions) (first script who job calling places at shortages.coding shortages.step) → Happened trace (TellsVersions who (length calling.ended) versions)) where
  abbrev g : Shape
  g = script.geometry

  abbrev told : List Told
  told = first script who job calling places at shortages.coding shortages.step

  abbrev done : Places × Told
  done = after script who job calling places at shortages.coding shortages.step

  abbrev now : List Told
  now = tell g job told done.1

  abbrev more : List Made
  more = trace ++ call_made script shortages who calling places job ∷ []

  abbrev middle : Calling
  middle = record { ended = calling.ended; told = now; takes = take_from (act script who job calling places at shortages.coding shortages.step) done.1 calling.takes; steps = calling.steps + 1 }

  grows : (place : ℕ) (point : Point) → slice_get places.directory.points place ≡ Some point → slice_get done.0.directory.points place ≡ Some point
  grows = act_grows shortages.step who (length calling.ended) (act script who job calling places at shortages.coding shortages.step) places

  drew_now : (versions : List ℕ) → Tells (λ answer. answer ≡ Told.Versions versions) now → Happened more (TellsVersions who (length calling.ended) versions)
  drew_now versions h = by (told_either (λ answer. answer ≡ Told.Versions versions) (λ e. subst IsVersions (sym e) tt) g some job told done.1 h)
    where
      by : Tells (λ answer. answer ≡ Told.Versions versions) told ⊎ (done.1 ≡ Told.Versions versions) → Happened more (TellsVersions who (length calling.ended) versions)
      by (inl k) = on (TellsVersions who (length calling.ended) versions) trace (call_made script shortages who calling places job ∷ []) (drew_first versions k)
      by (inr k) = last (TellsVersions who (length calling.ended) versions) trace (call_made script shortages who calling places job) ((refl, refl), k)

  given_now : (p : Pass) → pass_of who done.0.directory ≡ Some p → (point : ℕ) → p.reaped ≡ Some point → WasGivenUp done.0.directory.points who (length calling.ended)
  given_now p found point reaped = by ((moved script some who jobs job calling is_job places at shortages trace then).1 p found)
    where
      by : FromOld who job.note places.directory done.0.directory p ⊎ FromLook who job.note places.directory done.0.directory p → WasGivenUp done.0.directory.points who (length calling.ended)
      by (inl old) = given_up_on places.directory.points done.0.directory.points grows who (length calling.ended) (kept.given_up job is_job old.pass old.found point (sym old.same_reaped ∙ reaped))
      by (inr look) = absurd (none-some point (sym look.fresh ∙ reaped))

  goes_on : HeldActor more done.0.directory who jobs middle
  goes_on = record { drew = drew_now; given_up = λ j is p found point reaped. given_now p found point reaped }

  module _ (tried : 1 ≤ tries_of script) where
    by_act : (a : Act) → next_act g (tries_of script) job now ≡ a
        → ((j : Job) → slice_get jobs (length (ended_by a (chunk_count g) middle).ended) ≡ Some j → InWork g (size_of script) (tries_of script) j who (ended_by a (chunk_count g) middle) done.0.directory)
        → HeldActor more done.0.directory who jobs (ended_by a (chunk_count g) middle)
    by_act (Act.Finish outcome) e in_work =
        record {
          drew = λ versions h. absurd h;
          given_up = λ j is p found point reaped.
              absurd (no_pass script some who jobs job calling is_job places at shortages trace then j (ended_by (Act.Finish outcome) (chunk_count g) middle) refl (in_work j is) tried p found);
        }
    by_act (Act.AtDirectory step) e in_work = goes_on
    by_act (Act.AtServer server step) e in_work = goes_on

    own_step : ((j : Job) → slice_get jobs (length (actor_step g (tries_of script) shortages who job calling places).1.ended) ≡ Some j
        → InWork g (size_of script) (tries_of script) j who (actor_step g (tries_of script) shortages who job calling places).1 done.0.directory)
        → HeldActor (trace ++ call_made script shortages who calling places job ∷ []) (actor_step g (tries_of script) shortages who job calling places).0.directory who jobs (actor_step g (tries_of script) shortages who job calling places).1
    own_step in_work = by_act (next_act g (tries_of script) job now) refl in_work

-- ---- another's step
stays : (trace : List Made) (made : Made) (before now : Directory) (who : Actor) (jobs : List Job) (c : Calling) → ((place : ℕ) (point : Point) → slice_get before.points place ≡ Some point → slice_get now.points place ≡ Some point)
    → ((job : Job) → slice_get jobs (length c.ended) ≡ Some job → (p : Pass) → pass_of who now ≡ Some p → (point : ℕ) → p.reaped ≡ Some point
    → ((q : Pass) × (pass_of who before ≡ Some q) × (q.reaped ≡ Some point)) ⊎ WasGivenUp now.points who (length c.ended))
    → HeldActor trace before who jobs c → HeldActor (trace ++ made ∷ []) now who jobs c
stays trace made before now who jobs c grows stood h =
    record {
      drew = λ versions t. on (TellsVersions who (length c.ended) versions) trace (made ∷ []) (h.drew versions t);
      given_up = λ job is p found point reaped. by job is point (stood job is p found point reaped);
    }
  where
    by : (job : Job) → slice_get jobs (length c.ended) ≡ Some job → (point : ℕ) → ((q : Pass) × (pass_of who before ≡ Some q) × (q.reaped ≡ Some point)) ⊎ WasGivenUp now.points who (length c.ended) → WasGivenUp now.points who (length c.ended)
    by job is point (inl old) = given_up_on before.points now.points grows who (length c.ended) (h.given_up job is old.0 old.1 point old.2)
    by job is point (inr k) = k

-- after a step of the sweeper or the operator
others_given : (d : Directory) (servers : List Server) (acting : Actor) (a : Act) → IsOperatorAct a → (who : Actor) (number : ℕ) → ((q : Pass) → pass_of who d ≡ Some q → q.number ≡ number)
    → (p : Pass) → pass_of who (at_places false acting 0 a (record { directory = d; servers = servers })).0.directory ≡ Some p → (point : ℕ) → p.reaped ≡ Some point
    → ((q : Pass) × (pass_of who d ≡ Some q) × (q.reaped ≡ Some point)) ⊎ WasGivenUp (at_places false acting 0 a (record { directory = d; servers = servers })).0.directory.points who number
others_given d servers acting (Act.AtDirectory DirectoryStep.NextGarbage) k who number of_it p found point reaped = inl (p, sym (sweeps_apart who (first_garbage d) d) ∙ found, reaped)
others_given d servers acting (Act.AtDirectory (DirectoryStep.Swept version)) k who number of_it p found point reaped = inl (p, found, reaped)
others_given d servers acting (Act.AtDirectory (DirectoryStep.Reap target)) k who number of_it p found point reaped = by (reap_given who target d (pass_of target d) refl p found point reaped)
  where
    now : Directory
    now = (at_places false acting 0 (Act.AtDirectory (DirectoryStep.Reap target)) (record { directory = d; servers = servers })).0.directory

    by : (q : Pass) × (pass_of who d ≡ Some q) × ((q.reaped ≡ Some point) ⊎ WasGivenUp (at_places false acting 0 (Act.AtDirectory (DirectoryStep.Reap target)) (record { directory = d; servers = servers })).0.directory.points q.actor q.number)
        → ((q : Pass) × (pass_of who d ≡ Some q) × (q.reaped ≡ Some point)) ⊎ WasGivenUp (at_places false acting 0 (Act.AtDirectory (DirectoryStep.Reap target)) (record { directory = d; servers = servers })).0.directory.points who number
    by (q, is_q, inl old) = inl (q, is_q, old)
    by (q, is_q, inr given) =
        inr (subst (λ n. WasGivenUp (at_places false acting 0 (Act.AtDirectory (DirectoryStep.Reap target)) (record { directory = d; servers = servers })).0.directory.points who n) (of_it q is_q)
        (subst (λ a. WasGivenUp (at_places false acting 0 (Act.AtDirectory (DirectoryStep.Reap target)) (record { directory = d; servers = servers })).0.directory.points a q.number) (sym (pass_is who d q is_q)) given))
others_given d servers acting (Act.AtDirectory step) k who number of_it p found point reaped = absurd k
others_given d servers acting (Act.AtServer n step) k who number of_it p found point reaped =
    inl (p, sym (ap (pass_of who) (server_same false n step (record { directory = d; servers = servers }) (slice_get servers n))) ∙ found, reaped)
others_given d servers acting (Act.Finish outcome) k who number of_it p found point reaped = absurd k

-- ---- all of a core
record HeldSoFar (script : Script) (trace : List Made) (core : Core) : Type 0 where
  so_far : SoFar script trace core
  held : HeldThen trace core.directory core.servers core.sweeper
  clients : (i : ℕ) (c : Calling) → slice_get core.clients i ≡ Some c → (work : Work) → slice_get (client_work script) i ≡ Some work → HeldActor trace core.directory (actor.Client i) work.jobs c
  repairers : (i : ℕ) (c : Calling) → slice_get core.repairers i ≡ Some c → (work : Work) → slice_get (repairer_work script) i ≡ Some work → HeldActor trace core.directory (actor.Repairer i) work.jobs c

-- the operator's steps at a server add nothing
operator_at : (trace : List Made) (made : Made) (n : ℕ) (step : ServerStep) (d : Directory) (sweeper : Sweeper) → adds step ≡ None → (servers : List Server) (found : Option Server) → slice_get servers n ≡ found → HeldThen trace d servers sweeper
    → HeldThen (trace ++ made ∷ []) (at_server_there false n step (record { directory = d; servers = servers }) found).0.directory (at_server_there false n step (record { directory = d; servers = servers }) found).0.servers sweeper
operator_at trace made n step d sweeper none servers (Some s) e h = server_held trace made false n step d sweeper (none_added trace d step none) servers s e h
operator_at trace made n step d sweeper none servers None e h = more_held trace made d servers sweeper h

-- what the operator does
operator_held : (trace : List Made) (made : Made) (d : Directory) (servers : List Server) (sweeper : Sweeper) → IsSound d → (a : Act) → IsOfOperator a → HeldThen trace d servers sweeper
    → HeldThen (trace ++ made ∷ []) (at_places false actor.Operator 0 a (record { directory = d; servers = servers })).0.directory (at_places false actor.Operator 0 a (record { directory = d; servers = servers })).0.servers sweeper
operator_held trace made d servers sweeper sound (Act.AtDirectory (DirectoryStep.Reap who)) own h = directory_held trace made false actor.Operator 0 (DirectoryStep.Reap who) d servers sweeper sound tt h
operator_held trace made d servers sweeper sound (Act.AtServer n ServerStep.Wipe) own h = operator_at trace made n ServerStep.Wipe d sweeper refl servers (slice_get servers n) refl h
operator_held trace made d servers sweeper sound (Act.AtServer n ServerStep.Down) own h = operator_at trace made n ServerStep.Down d sweeper refl servers (slice_get servers n) refl h
operator_held trace made d servers sweeper sound (Act.AtServer n ServerStep.Up) own h = operator_at trace made n ServerStep.Up d sweeper refl servers (slice_get servers n) refl h
operator_held trace made d servers sweeper sound a own h = absurd own

module _ (script : Script) (can : CanRun script) (some : 0 < script.geometry.parity_count) where
  keeps : KeptByMade script can (SoFar script)
  keeps = so_far_kept script can some

  -- the number of a client's pass is that of its call
  client_numbers : (core : Core) → RunKeeps script core → (i : ℕ) (c : Calling) → slice_get core.clients i ≡ Some c → (work : Work) → slice_get (client_work script) i ≡ Some work → (job : Job) → slice_get work.jobs (length c.ended) ≡ Some job
      → (q : Pass) → pass_of (actor.Client i) core.directory ≡ Some q → q.number ≡ length c.ended
  client_numbers core kept i c is_c work is_work job is_job q found =
      pass_number script (actor.Client i) job c (places_in core) (client_at script can core kept i work c job is_work is_c is_job) q found

  repairer_numbers : (core : Core) → RunKeeps script core → (i : ℕ) (c : Calling) → slice_get core.repairers i ≡ Some c → (work : Work) → slice_get (repairer_work script) i ≡ Some work → (job : Job) → slice_get work.jobs (length c.ended) ≡ Some job
      → (q : Pass) → pass_of (actor.Repairer i) core.directory ≡ Some q → q.number ≡ length c.ended
  repairer_numbers core kept i c is_c work is_work job is_job q found =
      pass_number script (actor.Repairer i) job c (places_in core) (repairer_at script can core kept i work c job is_work is_c is_job) q found

  others : (trace : List Made) (core : Core) → RunKeeps script core → (acting : Actor) (a : Act) → IsOperatorAct a → HeldSoFar script trace core
      → (after_core : Core) → after_core.directory ≡ (at_places false acting 0 a (places_in core)).0.directory → after_core.clients ≡ core.clients → after_core.repairers ≡ core.repairers
      → SoFar script (trace ++ act_made acting a (places_in core) ∷ []) after_core → HeldThen (trace ++ act_made acting a (places_in core) ∷ []) after_core.directory after_core.servers after_core.sweeper
      → HeldSoFar script (trace ++ act_made acting a (places_in core) ∷ []) after_core
  others trace core kept acting a is_others has after_core same clients repairers so_far held =
      record {
        so_far = so_far;
        held = held;
        clients = λ i c e work is.
            subst (λ (x : Directory). HeldActor (trace ++ act_made acting a (places_in core) ∷ []) x (actor.Client i) work.jobs c) (sym same)
            (stays trace (act_made acting a (places_in core)) core.directory (at_places false acting 0 a (places_in core)).0.directory (actor.Client i) work.jobs c (act_grows false acting 0 a (places_in core))
            (λ job is_job p found point reaped.
            others_given core.directory core.servers acting a is_others (actor.Client i) (length c.ended) (client_numbers core kept i c (ap (λ (l : List Calling). slice_get l i) (sym clients) ∙ e) work is job is_job) p found point reaped)
            (has.clients i c (ap (λ (l : List Calling). slice_get l i) (sym clients) ∙ e) work is));
        repairers = λ i c e work is.
            subst (λ (x : Directory). HeldActor (trace ++ act_made acting a (places_in core) ∷ []) x (actor.Repairer i) work.jobs c) (sym same)
            (stays trace (act_made acting a (places_in core)) core.directory (at_places false acting 0 a (places_in core)).0.directory (actor.Repairer i) work.jobs c (act_grows false acting 0 a (places_in core))
            (λ job is_job p found point reaped.
            others_given core.directory core.servers acting a is_others (actor.Repairer i) (length c.ended) (repairer_numbers core kept i c (ap (λ (l : List Calling). slice_get l i) (sym repairers) ∙ e) work is job is_job) p found point reaped)
            (has.repairers i c (ap (λ (l : List Calling). slice_get l i) (sym repairers) ∙ e) work is));
      }

  -- another call's step leaves it
  beside : (who : Actor) (job : Job) (calling : Calling) (places : Places) (at : AtWork script who job calling places) (shortages : Shortage) (trace : List Made) (other : Actor) → same_actor other who ≡ false → (jobs : List Job) (c : Calling)
      → HeldActor trace places.directory other jobs c → HeldActor (trace ++ call_made script shortages who calling places job ∷ []) (after script who job calling places at shortages.coding shortages.step).0.directory other jobs c
  beside who job calling places at shortages trace other apart jobs c h =
      stays trace (call_made script shortages who calling places job) places.directory (after script who job calling places at shortages.coding shortages.step).0.directory other jobs c
      (act_grows shortages.step who (length calling.ended) (act script who job calling places at shortages.coding shortages.step) places)
      (λ j is p found point reaped. inl (p, sym (other_pass script who job calling places at shortages trace other apart) ∙ found, reaped)) h

  held_kept : KeptByMade script can (HeldSoFar script)
  held_kept =
      record {
        client = λ trace core kept has i work calling job is_work is_calling is_job shortages kept_after.
            let at : AtWork script (actor.Client i) job calling (places_in core) = client_at script can core kept i work calling job is_work is_calling is_job in
            let next : Places × Calling = actor_step script.geometry (tries_of script) shortages (actor.Client i) job calling (places_in core) in
            let is_next : slice_get (change_at i (λ _. next.1) core.clients) i ≡ Some next.1 = slice_changed i calling next.1 core.clients is_calling in
            let loss : LossThen script.geometry trace core.directory (actor.Client i) work.jobs calling = has.so_far.clients i calling is_calling work is_work in
            let mine : HeldActor trace core.directory (actor.Client i) work.jobs calling = has.clients i calling is_calling work is_work in
            record {
              so_far = keeps.client trace core kept has.so_far i work calling job is_work is_calling is_job shortages kept_after;
              held =
                  call_held script some (actor.Client i) work.jobs job calling is_job (places_in core) at shortages trace has.so_far.points.counts has.so_far.rows (loss.heard job is_job) mine core.sweeper has.held;
              clients =
                  each_changed (λ j c. (w : Work) → slice_get (client_work script) j ≡ Some w → HeldActor (trace ++ call_made script shortages (actor.Client i) calling (places_in core) job ∷ []) next.0.directory (actor.Client j) w.jobs c) i calling next.1 core.clients is_calling
                  (λ w is.
                  let same : work ≡ w = same_Some work w (sym is_work ∙ is) in
                  subst (λ (x : Work). HeldActor (trace ++ call_made script shortages (actor.Client i) calling (places_in core) job ∷ []) next.0.directory (actor.Client i) x.jobs next.1) same
                  (own_step script some (actor.Client i) work.jobs job calling is_job (places_in core) at shortages trace (has.so_far.points.clients i calling is_calling work is_work) mine
                  (λ versions t. first_drew script some (actor.Client i) work.jobs job calling is_job (places_in core) at shortages trace has.so_far.points.counts has.so_far.rows (loss.heard job is_job) mine versions shortages.coding _ t) can.tried
                  (λ j is_j. (client_at script can (client_after i core next) kept_after i work next.1 j is_work is_next is_j).in_work)))
                  (λ j differ c e w is. beside (actor.Client i) job calling (places_in core) at shortages trace (actor.Client j) (can.clients.apart i j differ) w.jobs c (has.clients j c e w is));
              repairers = λ j c e w is. beside (actor.Client i) job calling (places_in core) at shortages trace (actor.Repairer j) refl w.jobs c (has.repairers j c e w is);
            };
        repairer = λ trace core kept has i work calling job is_work is_calling is_job shortages kept_after.
            let at : AtWork script (actor.Repairer i) job calling (places_in core) = repairer_at script can core kept i work calling job is_work is_calling is_job in
            let next : Places × Calling = actor_step script.geometry (tries_of script) shortages (actor.Repairer i) job calling (places_in core) in
            let is_next : slice_get (change_at i (λ _. next.1) core.repairers) i ≡ Some next.1 = slice_changed i calling next.1 core.repairers is_calling in
            let loss : LossThen script.geometry trace core.directory (actor.Repairer i) work.jobs calling = has.so_far.repairers i calling is_calling work is_work in
            let mine : HeldActor trace core.directory (actor.Repairer i) work.jobs calling = has.repairers i calling is_calling work is_work in
            record {
              so_far = keeps.repairer trace core kept has.so_far i work calling job is_work is_calling is_job shortages kept_after;
              held =
                  call_held script some (actor.Repairer i) work.jobs job calling is_job (places_in core) at shortages trace has.so_far.points.counts has.so_far.rows (loss.heard job is_job) mine core.sweeper has.held;
              clients = λ j c e w is. beside (actor.Repairer i) job calling (places_in core) at shortages trace (actor.Client j) refl w.jobs c (has.clients j c e w is);
              repairers =
                  each_changed (λ j c. (w : Work) → slice_get (repairer_work script) j ≡ Some w → HeldActor (trace ++ call_made script shortages (actor.Repairer i) calling (places_in core) job ∷ []) next.0.directory (actor.Repairer j) w.jobs c) i calling next.1 core.repairers is_calling
                  (λ w is.
                  let same : work ≡ w = same_Some work w (sym is_work ∙ is) in
                  subst (λ (x : Work). HeldActor (trace ++ call_made script shortages (actor.Repairer i) calling (places_in core) job ∷ []) next.0.directory (actor.Repairer i) x.jobs next.1) same
                  (own_step script some (actor.Repairer i) work.jobs job calling is_job (places_in core) at shortages trace (has.so_far.points.repairers i calling is_calling work is_work) mine
                  (λ versions t. first_drew script some (actor.Repairer i) work.jobs job calling is_job (places_in core) at shortages trace has.so_far.points.counts has.so_far.rows (loss.heard job is_job) mine versions shortages.coding _ t) can.tried
                  (λ j is_j. (repairer_at script can (repairer_after i core next) kept_after i work next.1 j is_work is_next is_j).in_work)))
                  (λ j differ c e w is. beside (actor.Repairer i) job calling (places_in core) at shortages trace (actor.Repairer j) (can.repairers.apart i j differ) w.jobs c (has.repairers j c e w is));
            };
        sweeper = λ trace core kept has.
            others trace core kept actor.Sweeper (next_sweep (chunk_count script.geometry) core.sweeper) (sweeper_act (chunk_count script.geometry) core.sweeper) has (sweeper_after script core) refl refl refl
            (keeps.sweeper trace core kept has.so_far)
            (sweeper_held trace (act_made actor.Sweeper (next_sweep (chunk_count script.geometry) core.sweeper) (places_in core)) core.directory core.servers (chunk_count script.geometry) kept.keeps.servers kept.sound core.sweeper has.held);
        operator = λ trace core kept has a is own.
            others trace core kept actor.Operator a is has (operator_after a core) refl refl refl (keeps.operator trace core kept has.so_far a is own)
            (operator_held trace (act_made actor.Operator a (places_in core)) core.directory core.servers core.sweeper kept.sound a own has.held);
      }

  fresh : (who : Actor) (jobs : List Job) (c : Calling) → new_calling (chunk_count script.geometry) ≡ c → HeldActor [] (first_core script).directory who jobs c
  fresh who jobs c e =
      subst (HeldActor [] (first_core script).directory who jobs) e (record { drew = λ versions h. absurd h; given_up = λ job is p found. absurd (none-some p found) })

  first_held : HeldSoFar script [] (first_core script)
  first_held =
      record {
        so_far = first_so_far script can some;
        held =
            record {
              there = λ j s e v has. absurd (nothing j s e v has);
              swept = λ j s e v has. absurd (nothing j s e v has);
              taken = λ v k is. absurd (idle_apart v k is);
              done = λ v k is. absurd (idle_apart v k is);
            };
        clients = λ i c e work is. fresh (actor.Client i) work.jobs c (replicated (length script.clients) i (new_calling (chunk_count script.geometry)) c e);
        repairers = λ i c e work is. fresh (actor.Repairer i) work.jobs c (replicated (length script.repairers) i (new_calling (chunk_count script.geometry)) c e);
      }
    where
      nothing : (j : ℕ) (s : Server) → slice_get (first_core script).servers j ≡ Some s → (v : ℕ) → is_among v s.held ≡ true → ⊥
      nothing j s e v has = true≢false (sym has ∙ ap (λ (x : Server). is_among v x.held) (sym (replicated (chunk_count script.geometry) j new_server s e)))

  all_held : (shortages : List Shortage) (tokens : List Token) → HeldSoFar script (run_trace script shortages tokens) (run_core script shortages tokens)
  all_held shortages tokens = (run_traced script can (HeldSoFar script) held_kept shortages first_held tokens).1

-- ---- versions that stand as drawn
drawn_kept : (script : Script) → StepsKeep script DrawnAreBeingWritten
drawn_kept script =
    record {
      first = steps_keep_drawn.first script.geometry (size_of script);
      step = λ short who number step d some sound before may is_of_call. steps_keep_drawn.step short who number step d some sound before may;
    }

-- ---- as the law says it
module _ (script : Script) (trace : List Made) (core : Core) (drawn : DrawnAreBeingWritten core.directory) (has : HeldThen trace core.directory core.servers core.sweeper) where
  one : (j : ℕ) (s : Server) → slice_get core.servers j ≡ Some s → (v : ℕ) → is_among v s.held ≡ true → MayBeHeld trace core v
  one j s e v is = (there.0, there.1, by there.0.standing refl)
    where
      there : (version : Version) × (slice_get core.directory.versions v ≡ Some version)
      there = has.there j s e v is

      by : (standing : Standing) → there.0.standing ≡ standing → IsKept core.directory v there.0.standing ⊎ IsStray trace core.directory.points v
      by Standing.Swept same = inr (has.swept j s e v is there.0 there.1 same)
      by Standing.Drawn same = inl (subst (IsKept core.directory v) (sym same) (drawn v (stands_at core.directory.versions Standing.Drawn v there.0 there.1 same)))
      by Standing.Current same = inl (subst (IsKept core.directory v) (sym same) tt)
      by Standing.Superseded same = inl (subst (IsKept core.directory v) (sym same) tt)
      by Standing.Taken same = inl (subst (IsKept core.directory v) (sym same) tt)

  all_versions : (held : List ℕ) → ((v : ℕ) → is_among v held ≡ true → MayBeHeld trace core v) → All (MayBeHeld trace core) held
  all_versions [] h = All-nil (MayBeHeld trace core)
  all_versions (v ∷ held) h =
      All-cons (MayBeHeld trace core) v held (h v (or_left (nat_eq v v) (is_among v held) (eq-eqb v v refl))) (all_versions held (λ w is. h w (or_right (nat_eq w v) (is_among w held) is)))

  all_servers : (k : ℕ) (servers : List Server) → ((j : ℕ) (s : Server) → slice_get servers j ≡ Some s → slice_get core.servers (k + j) ≡ Some s) → All (λ (s : Server). All (MayBeHeld trace core) s.held) servers
  all_servers k [] at = All-nil (λ (s : Server). All (MayBeHeld trace core) s.held)
  all_servers k (s ∷ servers) at =
      All-cons (λ (x : Server). All (MayBeHeld trace core) x.held) s servers (all_versions s.held (one (k + 0) s (at 0 s refl)))
      (all_servers (k + 1) servers (λ j x e. subst (λ n. slice_get core.servers n ≡ Some x) (let same : k + suc j ≡ k + 1 + j = omega arith in same) (at (suc j) x e)))

pub runs_hold_what_they_may : RunsHoldWhatTheyMay
runs_hold_what_they_may script shortages geometry valid tokens =
    let some : 0 < script.geometry.parity_count = (let two : 2 ≤ script.geometry.parity_count = geometry.limits.parity_chunks.0 in omega (arith, two)) in
    let core : Core = run_core script shortages tokens in
    let can : CanRun script = can_run script geometry valid in
    let all : HeldSoFar script (run_trace script shortages tokens) core = all_held script can some shortages tokens in
    let drawn : DrawnAreBeingWritten core.directory = (runs_hold script DrawnAreBeingWritten (drawn_kept script) can shortages tokens).holds in
    all_servers script (run_trace script shortages tokens) core drawn all.held 0 core.servers (λ j s e. subst (λ n. slice_get core.servers n ≡ Some s) (let same : j ≡ 0 + j = omega arith in same) e)
