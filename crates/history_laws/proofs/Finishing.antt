-- After a drain each call that isn't left is answered, refused, or has its result.
use Rattle.std.proofs.Common.{◌≡◌, ℕ, zero, suc, ◌-◌, ◌<◌, ◌≤◌, Bool, true, false, not, ◌&&◌, ◌||◌, nat_eq, nat_lt, List, [], ◌∷◌, ◌++◌, length, map, Contains, Option, None, Some, IfSome, option_map, ◌⊎◌, inl, inr, refl, sym, ap, subst, ◌∙◌, arith, true≢false}
use Rattle.std.proofs.lemmas.Bool.{eqb-true, ltb-false}
use Rattle.std.proofs.lemmas.List.{length-map}
use Rattle.std.proofs.lemmas.Option.{none-some, same_Some, slice_get_within, slice_get-map}
use Rattle.std.specs.List.{slice_get}
use Rattle.store_map.specs.declared.actor.Token.TheVariants as token
use Rattle.store_map.specs.declared.script.ClientPart.{ClientPart}
use Rattle.store_map.specs.declared.script.RepairPart.{RepairPart}
use Rattle.store_map.specs.declared.script.Script.{Script}
use Rattle.hist_rules.specs.Finished.{kept_calls, Finished}
use Rattle.hist_rules.specs.Named.{answered_calls}
use Rattle.store_core.specs.Core.{Core, sweeper_has_step}
use Rattle.store_core.specs.NextAct.{job_of, rebuild_job}
use Rattle.store_core.specs.Schedule.{is_unfinished, run_core}
use Rattle.store_core.specs.Shown.{shown, client_name, repairer_name}
use Rattle.store_core.specs.Work.{Work, Calling, client_work, repairer_work, is_abandoned, has_step, any_has_step}
use Rattle.run_laws.proofs.Drains.{drains_end}
use Rattle.history_laws.specs.HistoryLaws.{RunsFinish}
use Rattle.history_laws.proofs.NamedCalls.{inside}
use Rattle.history_laws.proofs.OrderEnds.{EndKnown, ended_of, ended_answered}
use Rattle.history_laws.proofs.OrderRuns.{end_known}

-- ---- nobody has a step
first_false : (a b : Bool) → (a || b) ≡ false → a ≡ false
first_false true b e = absurd (true≢false e)
first_false false b e = refl

rest_false : (a b : Bool) → (a || b) ≡ false → b ≡ false
rest_false true b e = absurd (true≢false e)
rest_false false b e = e

no_step : (works : List Work) (callings : List Calling) → any_has_step works callings ≡ false → (i : ℕ) (work : Work) (c : Calling) → slice_get works i ≡ Some work → slice_get callings i ≡ Some c → has_step work c ≡ false
no_step [] callings e i work c is_work is_c = absurd (none-some work is_work)
no_step (w ∷ works) [] e i work c is_work is_c = absurd (none-some c is_c)
no_step (w ∷ works) (x ∷ callings) e zero work c is_work is_c =
    sym (λ k. has_step (same_Some w work is_work k) (same_Some x c is_c k)) ∙ first_false (has_step w x) (any_has_step works callings) e
no_step (w ∷ works) (x ∷ callings) e (suc i) work c is_work is_c = no_step works callings (rest_false (has_step w x) (any_has_step works callings) e) i work c is_work is_c

-- an actor without a step has at most its last call left, and that only under a step limit
is_left : (works : Work) (c : Calling) → has_step works c ≡ false → (length works.jobs ≤ length c.ended) ⊎ ((length works.jobs - length c.ended ≡ 1) × ((limit : ℕ) × (works.leave ≡ Some limit)))
is_left work c e = by (nat_lt 0 (length work.jobs - length c.ended)) refl e
  where
    abandoned : (leave : Option ℕ) → work.leave ≡ leave → not (is_abandoned leave (length work.jobs - length c.ended) c.steps) ≡ false
        → (length work.jobs ≤ length c.ended) ⊎ ((length work.jobs - length c.ended ≡ 1) × ((limit : ℕ) × (work.leave ≡ Some limit)))
    abandoned None is k = absurd (true≢false k)
    abandoned (Some limit) is k = one (nat_eq (length work.jobs - length c.ended) 1) refl k
      where
        one : (b : Bool) → nat_eq (length work.jobs - length c.ended) 1 ≡ b → not (b && not (nat_lt c.steps limit)) ≡ false
            → (length work.jobs ≤ length c.ended) ⊎ ((length work.jobs - length c.ended ≡ 1) × ((limit : ℕ) × (work.leave ≡ Some limit)))
        one true same k = inr (eqb-true (length work.jobs - length c.ended) 1 same, (limit, is))
        one false same k = absurd (true≢false k)

    by : (b : Bool) → nat_lt 0 (length work.jobs - length c.ended) ≡ b → (b && not (is_abandoned work.leave (length work.jobs - length c.ended) c.steps)) ≡ false
        → (length work.jobs ≤ length c.ended) ⊎ ((length work.jobs - length c.ended ≡ 1) × ((limit : ℕ) × (work.leave ≡ Some limit)))
    by true some k = abandoned work.leave refl k
    by false none k = inl (let none_left : length work.jobs - length c.ended ≤ 0 = ltb-false 0 (length work.jobs - length c.ended) none in omega (arith, none_left))

-- so each call that isn't left has ended
kept_ended : {Call : Type 0} (calls : List Call) (leave : Option ℕ) (work : Work) (c : Calling) → length work.jobs ≡ length calls → work.leave ≡ leave → has_step work c ≡ false → (number : ℕ) → number < kept_calls calls leave
    → number < length c.ended
kept_ended calls None work c same is e number low = by (is_left work c e)
  where
    by : (length work.jobs ≤ length c.ended) ⊎ ((length work.jobs - length c.ended ≡ 1) × ((limit : ℕ) × (work.leave ≡ Some limit))) → number < length c.ended
    by (inl all) = omega (arith, all, same, low)
    by (inr one) = absurd (none-some one.1.0 (sym is ∙ one.1.1))
kept_ended calls (Some limit) work c same is e number low = by (is_left work c e)
  where
    by : (length work.jobs ≤ length c.ended) ⊎ ((length work.jobs - length c.ended ≡ 1) × ((limit : ℕ) × (work.leave ≡ Some limit))) → number < length c.ended
    by (inl all) = omega (arith, all, same, low)
    by (inr one) = let left : length work.jobs - length c.ended ≡ 1 = one.0 in omega (arith, left, same, low)

module _ (script : Script) (core : Core) (known : EndKnown script core) (client_quiet : any_has_step (client_work script) core.clients ≡ false) (repairer_quiet : any_has_step (repairer_work script) core.repairers ≡ false) where
  client_done : (i number : ℕ) (part : ClientPart) → slice_get script.clients i ≡ Some part → number < kept_calls part.calls part.leave → Contains (answered_calls (shown script core)) (client_name i number)
  client_done i number part is low =
      let work : Work = record { jobs = map job_of part.calls; leave = part.leave } in
      let is_work : slice_get (client_work script) i ≡ Some work = slice_get-map (λ (p : ClientPart). record { jobs = map job_of p.calls; leave = p.leave }) script.clients i ∙ ap (option_map (λ (p : ClientPart). record { jobs = map job_of p.calls; leave = p.leave })) is in
      let there : (c : Calling) × (slice_get core.clients i ≡ Some c) =
      inside core.clients i (let below : i < length script.clients = slice_get_within script.clients i part is in let same : length core.clients ≡ length script.clients = known.kept.keeps.client_count in omega (arith, below, same)) in
      let ended : number < length there.0.ended =
      kept_ended part.calls part.leave work there.0 (length-map part.calls job_of) refl (no_step (client_work script) core.clients client_quiet i work there.0 is_work there.1) number low in
      ended_answered script core known (client_name i number) (subst (λ o. number < ended_of o) (sym there.1) ended)

  repairer_done : (i number : ℕ) (part : RepairPart) → slice_get script.repairers i ≡ Some part → number < kept_calls part.calls part.leave → Contains (answered_calls (shown script core)) (repairer_name i number)
  repairer_done i number part is low =
      let work : Work = record { jobs = map rebuild_job part.calls; leave = part.leave } in
      let is_work : slice_get (repairer_work script) i ≡ Some work = slice_get-map (λ (p : RepairPart). record { jobs = map rebuild_job p.calls; leave = p.leave }) script.repairers i ∙ ap (option_map (λ (p : RepairPart). record { jobs = map rebuild_job p.calls; leave = p.leave })) is in
      let there : (c : Calling) × (slice_get core.repairers i ≡ Some c) =
      inside core.repairers i (let below : i < length script.repairers = slice_get_within script.repairers i part is in let same : length core.repairers ≡ length script.repairers = known.kept.keeps.repairer_count in omega (arith, below, same)) in
      let ended : number < length there.0.ended =
      kept_ended part.calls part.leave work there.0 (length-map part.calls rebuild_job) refl (no_step (repairer_work script) core.repairers repairer_quiet i work there.0 is_work there.1) number low in
      ended_answered script core known (repairer_name i number) (subst (λ o. number < ended_of o) (sym there.1) ended)

  if_client : (i number : ℕ) (found : Option ClientPart) → slice_get script.clients i ≡ found → IfSome found (λ part. number < kept_calls part.calls part.leave → Contains (answered_calls (shown script core)) (client_name i number))
  if_client i number None is = tt
  if_client i number (Some part) is = client_done i number part is

  if_repairer : (i number : ℕ) (found : Option RepairPart) → slice_get script.repairers i ≡ found → IfSome found (λ part. number < kept_calls part.calls part.leave → Contains (answered_calls (shown script core)) (repairer_name i number))
  if_repairer i number None is = tt
  if_repairer i number (Some part) is = repairer_done i number part is

-- where nobody has a step, each call that isn't left is answered, refused, or has its result
pub ends_finished : (script : Script) (core : Core) → EndKnown script core → any_has_step (client_work script) core.clients ≡ false → any_has_step (repairer_work script) core.repairers ≡ false → Finished script (shown script core)
ends_finished script core known clients repairers =
    record {
      clients = λ i number. if_client script core known clients repairers i number (slice_get script.clients i) refl;
      repairers = λ i number. if_repairer script core known clients repairers i number (slice_get script.repairers i) refl;
    }

pub runs_finish : RunsFinish
runs_finish script shortages geometry valid tokens =
    let core : Core = run_core script shortages (tokens ++ token.Drain ∷ []) in
    let known : EndKnown script core = end_known script geometry valid shortages (tokens ++ token.Drain ∷ []) in
    let drained : is_unfinished script core ≡ false = (drains_end script shortages geometry valid).drained tokens in
    let actors : (any_has_step (client_work script) core.clients || any_has_step (repairer_work script) core.repairers) ≡ false =
    first_false (any_has_step (client_work script) core.clients || any_has_step (repairer_work script) core.repairers) (sweeper_has_step core) drained in
    let clients : any_has_step (client_work script) core.clients ≡ false = first_false (any_has_step (client_work script) core.clients) (any_has_step (repairer_work script) core.repairers) actors in
    let repairers : any_has_step (repairer_work script) core.repairers ≡ false = rest_false (any_has_step (client_work script) core.clients) (any_has_step (repairer_work script) core.repairers) actors in
    record {
      clients = λ i number. if_client script core known clients repairers i number (slice_get script.clients i) refl;
      repairers = λ i number. if_repairer script core known clients repairers i number (slice_get script.repairers i) refl;
    }
