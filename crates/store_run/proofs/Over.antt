-- Callers that have no step left have ended, as the last histories tell it.
use Rattle.std.proofs.Common.{◌≡◌, ℕ, ◌+◌, ◌<◌, false, Some, length, map, slice_get, sym, ap, subst, ◌∙◌}
use Rattle.std.proofs.lemmas.Option.{same_Some}
use Rattle.store_map.specs.declared.actor.Actor.{Actor}
use Rattle.store_map.specs.declared.actor.Actor.TheVariants as actor
use Rattle.store_map.specs.declared.script.ClientPart.{ClientPart}
use Rattle.store_map.specs.declared.script.RepairPart.{RepairPart}
use Rattle.store_map.specs.declared.script.Script.{Script}
use Rattle.store_core.specs.NextAct.{job_of, rebuild_job}
use Rattle.store_core.specs.Work.{Work, client_work, has_step, repairer_work}
use Rattle.dir_parts.proofs.Entries.{slice_get-map}
use Rattle.world_laws.specs.Known.{calling_of}
use Rattle.actors.specs.Callers.{PartOf, StandsIn, who_of, work_of}
use Rattle.thread_laws.specs.Numbers.{actor_at}
use Rattle.thread_laws.specs.Callers.{IsCalling}
use Rattle.thread_laws.specs.PlaceEnded.{CallerOf, HasEnded}
use Rattle.thread_laws.specs.Logs.{Logs, HasSeenOwn, counts_of, own_at}
use Rattle.thread_laws.proofs.Numbers.{clients_come_first, repairers_follow}
use Rattle.run_seats.specs.Places.{seen_by}
use Rattle.run_seats.specs.Seated.{IsSeated, seated_has}
use Rattle.run_seats.specs.declared.seated.Seated.{Seated}
use Rattle.run_seats.specs.declared.store.Store.{Store}

-- ---- whose work it does
abbrev client_place : Actor → ℕ
client_place (actor.Client i) = i
client_place who = 0

abbrev repairer_place : Actor → ℕ
repairer_place (actor.Repairer i) = i
repairer_place who = 0

client_job : (script : Script) (place n : ℕ) (part : PartOf) (work : Work) → StandsIn script place part → who_of part place ≡ actor.Client n → slice_get (client_work script) n ≡ Some work → work_of part ≡ work
client_job script place n (PartOf.OfClient part) work stands whose e =
    let there : slice_get script.clients n ≡ Some part = subst (λ (k : ℕ). slice_get script.clients k ≡ Some part) (ap client_place whose) stands in
    same_Some (work_of (PartOf.OfClient part)) work
    (sym (slice_get-map (λ (p : ClientPart). record { jobs = map job_of p.calls; leave = p.leave }) script.clients n part there) ∙ e)
client_job script place n (PartOf.OfRepairer part) work stands whose e = cc

repairer_job : (script : Script) (place i : ℕ) (part : PartOf) (work : Work) → StandsIn script place part → who_of part place ≡ actor.Repairer i → slice_get (repairer_work script) i ≡ Some work → work_of part ≡ work
repairer_job script place i (PartOf.OfRepairer part) work stands whose e =
    let there : slice_get script.repairers i ≡ Some part = subst (λ (k : ℕ). slice_get script.repairers k ≡ Some part) (ap repairer_place whose) stands in
    same_Some (work_of (PartOf.OfRepairer part)) work
    (sym (slice_get-map (λ (p : RepairPart). record { jobs = map rebuild_job p.calls; leave = p.leave }) script.repairers i part there) ∙ e)
repairer_job script place i (PartOf.OfClient part) work stands whose e = cc

-- ---- its end
module _ (store : Store) (seated : Seated) (is : IsSeated store seated) (over : seated_has store.script.now seated ≡ false) (logs : Logs) where
  abbrev script : Script
  script = store.script.now

  abbrev caller : CallerOf
  caller = record { seen = seen_by seated.turns; actor = seated.caller.actor }

  ended_as : (n : ℕ) (who : Actor) (work : Work) → seated.turns.number ≡ n → seated.actor ≡ who → work_of seated.caller.part ≡ work → HasSeenOwn n (seen_by seated.turns) logs → HasEnded script logs n who work caller
  ended_as n who work number actor_is work_is saw =
      record {
        saw = saw;
        acting =
            subst (λ (x : Actor). IsCalling script x work (own_at n (seen_by seated.turns)) seated.caller.actor) actor_is
            (subst (λ (x : Work). IsCalling script seated.actor x (own_at n (seen_by seated.turns)) seated.caller.actor) work_is
            (subst (λ (k : ℕ). IsCalling script seated.actor (work_of seated.caller.part) (own_at k (seen_by seated.turns)) seated.caller.actor) number is.calling));
        over = subst (λ (x : Work). has_step x (calling_of script seated.caller.actor) ≡ false) work_is over;
      }

  pub client_ended : (i : ℕ) (work : Work) → i < length store.script.now.clients → seated.turns.number ≡ i → slice_get (client_work store.script.now) i ≡ Some work → HasSeenOwn i (seen_by seated.turns) logs
      → HasEnded store.script.now logs i (actor.Client i) work (record { seen = seen_by seated.turns; actor = seated.caller.actor })
  client_ended i work less number e saw =
      ended_as i (actor.Client i) work number its (client_job script seated.place i seated.caller.part work is.part (sym is.whose ∙ its) e) saw
    where
      its : seated.actor ≡ actor.Client i
      its = is.turn.whose ∙ (ap (actor_at (counts_of script)) number ∙ clients_come_first (counts_of script) i less)

  pub repairer_ended : (i : ℕ) (work : Work) → i < length store.script.now.repairers → seated.turns.number ≡ length store.script.now.clients + i → slice_get (repairer_work store.script.now) i ≡ Some work
      → HasSeenOwn (length store.script.now.clients + i) (seen_by seated.turns) logs
      → HasEnded store.script.now logs (length store.script.now.clients + i) (actor.Repairer i) work (record { seen = seen_by seated.turns; actor = seated.caller.actor })
  repairer_ended i work less number e saw =
      ended_as (length script.clients + i) (actor.Repairer i) work number its (repairer_job script seated.place i seated.caller.part work is.part (sym is.whose ∙ its) e) saw
    where
      its : seated.actor ≡ actor.Repairer i
      its = is.turn.whose ∙ (ap (actor_at (counts_of script)) number ∙ repairers_follow (counts_of script) i less)
