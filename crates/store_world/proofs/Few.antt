-- Numbers of 32 bits name a world's actors and their calls.
use Rattle.std.proofs.Common.{◌≡◌, ℕ, zero, suc, ◌≤◌, List, [], ◌∷◌, length, map, slice_get, Some, All, ap, subst, arith}
use Rattle.std.proofs.lemmas.List.{length-map}
use Rattle.std.proofs.lemmas.List.Elements.{All-head, All-tail}
use Rattle.std.proofs.lemmas.Option.{same_Some, none-some}
use Rattle.store_map.specs.declared.script.ClientPart.{ClientPart}
use Rattle.store_map.specs.declared.script.RepairPart.{RepairPart}
use Rattle.store_core.specs.Core.{Core}
use Rattle.store_core.specs.NextAct.{job_of, rebuild_job}
use Rattle.store_core.specs.Schedule.{run_core}
use Rattle.store_core.specs.Work.{Ended, client_work, repairer_work}
use Rattle.run_laws.proofs.Runs.{CanRun}
use Rattle.run_laws.proofs.Scripts.{can_run}
use Rattle.history_laws.proofs.Induction.{run_has}
use Rattle.history_laws.proofs.NamedCalls.{AllCalls, calls_kept, first_calls}
use Rattle.world_laws.specs.StandsFor.{StandsFor}
use Rattle.world_laws.proofs.Actors.{Found, found}
use Rattle.world_laws.proofs.Runs.{runs_reach}
use Rattle.actors.specs.Callers.{PartOf, CallerOf, StandsIn, work_of}
use Rattle.store_world.specs.Stored.{StoredWorld, world_of}
use Rattle.store_world.specs.Kept.{IsWorld}

at_all : {X : Type 0} (P : X → Type 0) (xs : List X) (i : ℕ) (x : X) → All P xs → slice_get xs i ≡ Some x → P x
at_all P [] i x all e = absurd (none-some x e)
at_all P (first ∷ xs) zero x all e = subst P (same_Some first x e) (All-head P first xs all)
at_all P (first ∷ xs) (suc i) x all e = at_all P xs i x (All-tail P first xs all) e

mapped_at : {X Y : Type 0} (f : X → Y) (xs : List X) (i : ℕ) (x : X) → slice_get xs i ≡ Some x → slice_get (map f xs) i ≡ Some (f x)
mapped_at f [] i x e = absurd (none-some x e)
mapped_at f (y ∷ ys) zero x e = ap (λ (z : _). Some (f z)) (same_Some y x e)
mapped_at f (y ∷ ys) (suc i) x e = mapped_at f ys i x e

module _ (s : StoredWorld) (is : IsWorld s) where
  abbrev core : Core
  core = run_core s.script is.reached.by.shortages is.reached.tokens

  can : CanRun s.script
  can = can_run s.script is.geometry is.valid

  calls : AllCalls s.script is.reached.tokens core
  calls = (run_has s.script can (AllCalls s.script) (calls_kept s.script can) is.reached.by.shortages (first_calls s.script can) is.reached.tokens).1

  stands : StandsFor s.script (world_of s) core
  stands = (runs_reach s.script).core is.reached.tokens (world_of s) is.reached.by.shortages is.reached.by.reaches

  pub few_client_calls : (i : ℕ) (c : CallerOf) → slice_get s.clients i ≡ Some c → length c.actor.ended ≤ 4096
  few_client_calls i c there =
      let one = is.clients.each i c there in
      let its : slice_get s.script.clients i ≡ Some one.part = subst (StandsIn s.script i) one.is_part one.at.its in
      let is_work : slice_get (client_work s.script) i ≡ Some (work_of (PartOf.OfClient one.part)) = mapped_at (λ (p : ClientPart). work_of (PartOf.OfClient p)) s.script.clients i one.part its in
      let is_a : slice_get (world_of s).clients i ≡ Some c.actor = mapped_at (λ (x : CallerOf). x.actor) s.clients i c there in
      let at : Found s.script (work_of (PartOf.OfClient one.part)) core.clients c.actor i =
      found s.script (client_work s.script) core.clients (world_of s).clients i (work_of (PartOf.OfClient one.part)) c.actor stands.clients is_work is_a in
      let most : length at.calling.ended ≤ length (work_of (PartOf.OfClient one.part)).jobs = (calls.clients i at.calling at.is_calling (work_of (PartOf.OfClient one.part)) is_work).below in
      let same : length at.calling.ended ≡ length c.actor.ended = ap (λ (l : List Ended). length l) at.stands.ended in
      let jobs : length (work_of (PartOf.OfClient one.part)).jobs ≡ length one.part.calls = length-map one.part.calls job_of in
      let many : length one.part.calls ≤ 4096 = at_all (λ (p : ClientPart). length p.calls ≤ 4096) s.script.clients i one.part is.valid.limits.client_calls its in
      omega (arith, most, same, jobs, many)

  pub few_rebuilds : (i : ℕ) (c : CallerOf) → slice_get s.repairers i ≡ Some c → length c.actor.ended ≤ 4096
  few_rebuilds i c there =
      let one = is.repairers.each i c there in
      let its : slice_get s.script.repairers i ≡ Some one.part = subst (StandsIn s.script i) one.is_part one.at.its in
      let is_work : slice_get (repairer_work s.script) i ≡ Some (work_of (PartOf.OfRepairer one.part)) = mapped_at (λ (p : RepairPart). work_of (PartOf.OfRepairer p)) s.script.repairers i one.part its in
      let is_a : slice_get (world_of s).repairers i ≡ Some c.actor = mapped_at (λ (x : CallerOf). x.actor) s.repairers i c there in
      let at : Found s.script (work_of (PartOf.OfRepairer one.part)) core.repairers c.actor i =
      found s.script (repairer_work s.script) core.repairers (world_of s).repairers i (work_of (PartOf.OfRepairer one.part)) c.actor stands.repairers is_work is_a in
      let most : length at.calling.ended ≤ length (work_of (PartOf.OfRepairer one.part)).jobs = (calls.repairers i at.calling at.is_calling (work_of (PartOf.OfRepairer one.part)) is_work).below in
      let same : length at.calling.ended ≡ length c.actor.ended = ap (λ (l : List Ended). length l) at.stands.ended in
      let jobs : length (work_of (PartOf.OfRepairer one.part)).jobs ≡ length one.part.calls = length-map one.part.calls rebuild_job in
      let many : length one.part.calls ≤ 4096 = at_all (λ (p : RepairPart). length p.calls ≤ 4096) s.script.repairers i one.part is.valid.limits.repairer_calls its in
      omega (arith, most, same, jobs, many)
