-- A valid script can be run: where its runs begin, and that the fuel of a drain is enough.
use Rattle.std.proofs.Common.{◌≡◌, ℕ, zero, suc, ◌+◌, ◌-◌, ◌*◌, ◌<◌, ◌≤◌, List, [], ◌∷◌, length, drop, map, replicate, sum_by, Option, None, Some, unwrap_or, IfSome, All, refl, sym, ap, subst, ◌∙◌, arith, eq-eqb, ne_eqb, mul-pos, mul-le-mul_left, add-le-add, zip}
use Rattle.std.proofs.lemmas.Option.{none-some, same_Some}
use Rattle.std.proofs.lemmas.List.{length-replicate}
use Rattle.std.proofs.lemmas.List.Elements.{All-head, All-tail}
use Rattle.std.proofs.lemmas.List.Sums.{sum_by-cons}
use Rattle.std.specs.List.{slice_get}
use Rattle.clay_grid.specs.Shape.{Shape, chunk_count, chunk_length, layer_count, stripe_length}
use Rattle.clay_grid.specs.Limits.{IsGeometry}
use Rattle.store_map.specs.Limits.{size_of, tries_of}
use Rattle.store_map.specs.Naming.{IsValid}
use Rattle.store_map.specs.declared.limits.TheConstants.{DEFAULT_TRIES, MAX_TRIES}
use Rattle.store_map.specs.declared.actor.Actor.{Actor}
use Rattle.store_map.specs.declared.actor.Actor.TheVariants as actor
use Rattle.store_map.specs.declared.call.Call.{Call}
use Rattle.store_map.specs.declared.call.Call.TheVariants as call
use Rattle.store_map.specs.declared.call.Rebuild.{Rebuild as RebuildCall}
use Rattle.store_map.specs.declared.script.ClientPart.{ClientPart}
use Rattle.store_map.specs.declared.script.RepairPart.{RepairPart}
use Rattle.store_map.specs.declared.script.Script.{Script}
use Rattle.store_core.specs.Note.{Kind}
use Rattle.store_core.specs.NextAct.{Job, job_of, rebuild_job}
use Rattle.store_core.specs.Bounds.{step_bound, draw_bound, sweep_bound}
use Rattle.run_laws.specs.CallLeft.{call_left}
use Rattle.store_core.specs.Core.{Core, first_core}
use Rattle.store_core.specs.Directory.{Directory}
use Rattle.store_core.specs.Fuel.{steps_left, draws_left, fuel_of}
use Rattle.run_laws.specs.StepLaws.{HasTarget}
use Rattle.store_core.specs.Sweep.{Sweeper}
use Rattle.run_laws.specs.SweepLaws.{sweep_left}
use Rattle.store_core.specs.Work.{Work, Calling, new_calling, client_work, repairer_work}
use Rattle.run_laws.proofs.Steps.{steps_fall}
use Rattle.run_laws.proofs.LiveVersions.{live_count}
use Rattle.run_laws.proofs.DrawsAhead.{draws_told, draws_most}
use Rattle.run_laws.proofs.ActorSteps.{begins, CallKept, steps_ahead, draws_ahead}
use Rattle.run_laws.proofs.Groups.{sum_below, steps_of, draws_of, group_steps, group_draws, GroupKept}
use Rattle.run_laws.proofs.Runs.{busy_count, Keeps, measure, CanRun}

-- ---- lists
pub record Mapped {X Y : Type 0} (f : X → Y) (xs : List X) (i : ℕ) (y : Y) : Type 0 where
  pub source : X
  pub found : slice_get xs i ≡ Some source
  pub is_image : f source ≡ y

pub mapped : {X Y : Type 0} (f : X → Y) (xs : List X) (i : ℕ) (y : Y) → slice_get (map f xs) i ≡ Some y → Mapped f xs i y
mapped f [] i y e = absurd (none-some y e)
mapped f (x ∷ xs) zero y e = record { source = x; found = refl; is_image = same_Some (f x) y e }
mapped f (x ∷ xs) (suc i) y e =
    let rest : Mapped f xs i y = mapped f xs i y e in
    record { source = rest.source; found = rest.found; is_image = rest.is_image }

all_at : {X : Type 0} (P : X → Type 0) (xs : List X) (i : ℕ) (x : X) → All P xs → slice_get xs i ≡ Some x → P x
all_at P [] i x all e = absurd (none-some x e)
all_at P (first ∷ xs) zero x all e = subst P (same_Some first x e) (All-head P first xs all)
all_at P (first ∷ xs) (suc i) x all e = all_at P xs i x (All-tail P first xs all) e

pub replicated : {X : Type 0} (n i : ℕ) (x y : X) → slice_get (replicate n x) i ≡ Some y → x ≡ y
replicated zero i x y e = absurd (none-some y e)
replicated (suc n) zero x y e = same_Some x y e
replicated (suc n) (suc i) x y e = replicated n i x y e

-- ---- a valid script
abbrev NotRebuild : Kind → Type 0
NotRebuild Kind.Rebuild = ⊥
NotRebuild _ = Unit {0}

-- a client's call makes no chunk
no_target : (g : Shape) (of : Call) → HasTarget g (job_of of)
no_target g (call.Put name content) e = absurd (subst NotRebuild e tt)
no_target g (call.Write name offset content) e = absurd (subst NotRebuild e tt)
no_target g (call.Get name) e = absurd (subst NotRebuild e tt)
no_target g (call.ReadAt name offset count) e = absurd (subst NotRebuild e tt)
no_target g (call.Stat name) e = absurd (subst NotRebuild e tt)
no_target g (call.Delete name) e = absurd (subst NotRebuild e tt)

module _ (script : Script) (geometry : IsGeometry script.geometry) (valid : IsValid script) where
  client_of : ClientPart → Work
  client_of part = record { jobs = map job_of part.calls; leave = part.leave }

  repairer_of : RepairPart → Work
  repairer_of part = record { jobs = map rebuild_job part.calls; leave = part.leave }

  client_targets : (i : ℕ) (work : Work) → slice_get (client_work script) i ≡ Some work → (k : ℕ) (job : Job) → slice_get work.jobs k ≡ Some job → HasTarget script.geometry job
  unfolding client_of
  client_targets i work is_work k job is_job =
      let part : Mapped client_of script.clients i work = mapped client_of script.clients i work is_work in
      let jobs : map job_of part.source.calls ≡ work.jobs = ap (λ (w : Work). w.jobs) part.is_image in
      let one : Mapped job_of part.source.calls k job = mapped job_of part.source.calls k job (ap (λ (js : List Job). slice_get js k) jobs ∙ is_job) in
      subst (HasTarget script.geometry) one.is_image (no_target script.geometry one.source)

  repairer_targets : (i : ℕ) (work : Work) → slice_get (repairer_work script) i ≡ Some work → (k : ℕ) (job : Job) → slice_get work.jobs k ≡ Some job → HasTarget script.geometry job
  unfolding repairer_of
  repairer_targets i work is_work k job is_job =
      let part : Mapped repairer_of script.repairers i work = mapped repairer_of script.repairers i work is_work in
      let jobs : map rebuild_job part.source.calls ≡ work.jobs = ap (λ (w : Work). w.jobs) part.is_image in
      let one : Mapped rebuild_job part.source.calls k job = mapped rebuild_job part.source.calls k job (ap (λ (js : List Job). slice_get js k) jobs ∙ is_job) in
      let named : All (λ (rebuild : RebuildCall). rebuild.server < chunk_count script.geometry) part.source.calls =
      all_at (λ (p : RepairPart). All (λ (rebuild : RebuildCall). rebuild.server < chunk_count script.geometry) p.calls) script.repairers i part.source valid.names.rebuilds part.found in
      let below : one.source.server < chunk_count script.geometry =
      all_at (λ (rebuild : RebuildCall). rebuild.server < chunk_count script.geometry) part.source.calls k one.source named one.found in
      subst (HasTarget script.geometry) one.is_image (λ _. below)

  some_tries : 1 ≤ tries_of script
  some_tries = by script.tries valid.limits.tries
    where
      by : (tries : Option ℕ) → IfSome tries (λ n. (1 ≤ n) × (n ≤ MAX_TRIES)) → 1 ≤ unwrap_or tries DEFAULT_TRIES
      by None h = omega arith
      by (Some n) h = h.0

  some_bytes : 0 < stripe_length script.geometry
  some_bytes =
      let layers : 0 < layer_count script.geometry = omega (arith, geometry.some_layers, geometry.limits.parity_chunks) in
      let chunk : 0 < chunk_length script.geometry = mul-pos layers (omega (arith, geometry.limits.width)) in
      mul-pos (omega (arith, geometry.limits.data_chunks)) chunk

  -- a valid script can be run
  pub can_run : CanRun script
  can_run =
      record {
        some = some_bytes;
        tried = some_tries;
        clients =
            record {
              self = λ i. eq-eqb i i refl;
              apart = λ i j differ. ne_eqb j i (λ e. differ (sym e));
              targets = client_targets;
            };
        repairers =
            record {
              self = λ i. eq-eqb i i refl;
              apart = λ i j differ. ne_eqb j i (λ e. differ (sym e));
              targets = repairer_targets;
            };
      }

-- ---- where a run begins
module _ (script : Script) (tried : 1 ≤ tries_of script) where
  abbrev fresh : Calling
  fresh = new_calling (chunk_count script.geometry)

  new_kept : (who : Actor) (jobs : List Job) → CallKept script.geometry (size_of script) (tries_of script) who jobs fresh (first_core script).directory
  new_kept who [] = refl
  new_kept who (job ∷ later) =
      let bound : call_left script.geometry (size_of script) (tries_of script) job [] ≤ step_bound script.geometry (size_of script) (tries_of script) job.note =
      (steps_fall script.geometry (size_of script) (tries_of script) job).first in
      record {
        fresh = λ _. refl;
        bound = omega (arith, bound);
        pinned = λ reads count e. absurd (none-some count e);
        stands = begins script.geometry (tries_of script) job who (first_core script).directory tried refl;
      }

  all_new : (who_of : ℕ → Actor) (works : List Work) (count : ℕ) → GroupKept script who_of works (replicate count fresh) (first_core script).directory
  all_new who_of works count i work calling is_work is_calling =
      subst (λ (c : Calling). CallKept script.geometry (size_of script) (tries_of script) (who_of i) (drop (length c.ended) work.jobs) c (first_core script).directory)
      (replicated count i fresh calling is_calling) (new_kept (who_of i) work.jobs)

  -- the store before the first step keeps what every core keeps
  pub first_keeps : Keeps script (first_core script)
  first_keeps =
      record {
        shape = refl;
        max = refl;
        servers = length-replicate (chunk_count script.geometry) _;
        client_count = length-replicate (length script.clients) fresh;
        repairer_count = length-replicate (length script.repairers) fresh;
        clients = all_new actor.Client (client_work script) (length script.clients);
        repairers = all_new actor.Repairer (repairer_work script) (length script.repairers);
        counted = omega arith;
      }

-- ---- the fuel
module _ (script : Script) (tried : 1 ≤ tries_of script) where
  -- an actor has no more steps ahead than the fuel counts
  steps_fit : (who : Actor) (jobs : List Job) (calling : Calling) (d : Directory) → CallKept script.geometry (size_of script) (tries_of script) who jobs calling d
      → steps_ahead script.geometry (size_of script) (tries_of script) jobs calling.told
      ≤ sum_by (λ job. step_bound script.geometry (size_of script) (tries_of script) job.note) jobs - calling.steps
  steps_fit who [] calling d kept = omega arith
  steps_fit who (job ∷ later) calling d kept =
      let all : sum_by (λ (j : Job). step_bound script.geometry (size_of script) (tries_of script) j.note) (job ∷ later)
      ≡ step_bound script.geometry (size_of script) (tries_of script) job.note + sum_by (λ (j : Job). step_bound script.geometry (size_of script) (tries_of script) j.note) later =
      sum_by-cons (λ (j : Job). step_bound script.geometry (size_of script) (tries_of script) j.note) job later in
      let bound : call_left script.geometry (size_of script) (tries_of script) job calling.told + calling.steps ≤ step_bound script.geometry (size_of script) (tries_of script) job.note = kept.bound in
      let whole : ℕ = sum_by (λ (j : Job). step_bound script.geometry (size_of script) (tries_of script) j.note) (job ∷ later) in
      let rest : ℕ = sum_by (λ (j : Job). step_bound script.geometry (size_of script) (tries_of script) j.note) later in
      omega (arith, all, bound)

  -- nor more draws
  draws_fit : (jobs : List Job) (calling : Calling) → draws_ahead script.geometry (size_of script) (tries_of script) jobs calling.told ≤ sum_by (λ job. draw_bound script.geometry (tries_of script) job.note) jobs
  draws_fit [] calling = omega arith
  draws_fit (job ∷ later) calling =
      let all : sum_by (λ (j : Job). draw_bound script.geometry (tries_of script) j.note) (job ∷ later)
      ≡ draw_bound script.geometry (tries_of script) job.note + sum_by (λ (j : Job). draw_bound script.geometry (tries_of script) j.note) later =
      sum_by-cons (λ (j : Job). draw_bound script.geometry (tries_of script) j.note) job later in
      let most : draws_told script.geometry (tries_of script) job calling.told ≤ draw_bound script.geometry (tries_of script) job.note = draws_most script.geometry (tries_of script) job calling.told tried in
      let whole : ℕ = sum_by (λ (j : Job). draw_bound script.geometry (tries_of script) j.note) (job ∷ later) in
      let rest : ℕ = sum_by (λ (j : Job). draw_bound script.geometry (tries_of script) j.note) later in
      omega (arith, all, most)

sweep_fits : (n : ℕ) (sweeper : Sweeper) → sweep_left n sweeper ≤ (n + 2) * busy_count sweeper
sweep_fits n Sweeper.Idle = omega arith
sweep_fits n (Sweeper.Sweeping version server) = omega arith

fuel_enough : (a most sweeps live size draws all busy left : ℕ) → a ≤ most → draws ≤ all → live + busy ≤ size → left ≤ sweeps * busy → a + sweeps * (live + draws) + left ≤ most + sweeps * (size + all)
fuel_enough a most sweeps live size draws all busy left fewer drawn counted swept =
    let low : live + busy + draws ≤ size + all = omega (arith, drawn, counted) in
    let product : sweeps * (live + busy + draws) ≤ sweeps * (size + all) = mul-le-mul_left sweeps low in
    omega (arith, fewer, product, swept)

-- the fuel of a drain is at least the measure
pub measure_fits : (script : Script) (core : Core) → 1 ≤ tries_of script → Keeps script core → measure script core ≤ fuel_of script core
measure_fits script core tried keeps =
    let client_steps : group_steps script (client_work script) core.clients ≤ sum_by (λ (both : Work × Calling). steps_left script both.0 both.1) (zip (client_work script) core.clients) =
    sum_below (steps_of script) (steps_left script) (client_work script) core.clients
    (λ i work calling is_work is_calling. steps_fit script tried (actor.Client i) (drop (length calling.ended) work.jobs) calling core.directory (keeps.clients i work calling is_work is_calling)) in
    let repairer_steps : group_steps script (repairer_work script) core.repairers ≤ sum_by (λ (both : Work × Calling). steps_left script both.0 both.1) (zip (repairer_work script) core.repairers) =
    sum_below (steps_of script) (steps_left script) (repairer_work script) core.repairers
    (λ i work calling is_work is_calling. steps_fit script tried (actor.Repairer i) (drop (length calling.ended) work.jobs) calling core.directory (keeps.repairers i work calling is_work is_calling)) in
    let client_draws : group_draws script (client_work script) core.clients ≤ sum_by (λ (both : Work × Calling). draws_left script both.0 both.1) (zip (client_work script) core.clients) =
    sum_below (draws_of script) (draws_left script) (client_work script) core.clients (λ i work calling is_work is_calling. draws_fit script tried (drop (length calling.ended) work.jobs) calling) in
    let repairer_draws : group_draws script (repairer_work script) core.repairers ≤ sum_by (λ (both : Work × Calling). draws_left script both.0 both.1) (zip (repairer_work script) core.repairers) =
    sum_below (draws_of script) (draws_left script) (repairer_work script) core.repairers (λ i work calling is_work is_calling. draws_fit script tried (drop (length calling.ended) work.jobs) calling) in
    fuel_enough (group_steps script (client_work script) core.clients + group_steps script (repairer_work script) core.repairers) _ (sweep_bound script.geometry)
    (live_count core.directory.versions) (length core.directory.versions) (group_draws script (client_work script) core.clients + group_draws script (repairer_work script) core.repairers) _
    (busy_count core.sweeper) (sweep_left (chunk_count script.geometry) core.sweeper)
    (add-le-add client_steps repairer_steps) (add-le-add client_draws repairer_draws) keeps.counted (sweep_fits (chunk_count script.geometry) core.sweeper)
