-- The steps that an actor's call in work has made are those of the trace, so a call that has made all its steps has ended.
use Rattle.std.proofs.Common.{◌≡◌, ℕ, suc, ◌+◌, ◌*◌, ◌<◌, ◌≤◌, Bool, true, false, ◌&&◌, nat_eq, cond, List, [], ◌∷◌, ◌++◌, length, count_by, Some, refl, ap, subst, ◌∙◌, arith, length-append}
use Rattle.std.proofs.lemmas.Bool.{eq-eqb, ne_eqb}
use Rattle.std.proofs.lemmas.List.Sums.{sum_by-append, sum_by-cons}
use Rattle.std.specs.List.{slice_get}
use Rattle.clay_grid.specs.Shape.{chunk_count}
use Rattle.store_map.specs.Limits.{tries_of}
use Rattle.store_map.specs.declared.actor.Actor.{Actor}
use Rattle.store_map.specs.declared.actor.Actor.TheVariants as actor
use Rattle.store_map.specs.declared.actor.Token.{Token}
use Rattle.store_map.specs.declared.script.Script.{Script}
use Rattle.store_core.specs.Act.{Act}
use Rattle.store_core.specs.Bounds.{bound_by}
use Rattle.store_core.specs.Core.{Core, first_core}
use Rattle.store_core.specs.Lookups.{same_actor}
use Rattle.store_core.specs.NextAct.{Job, next_act}
use Rattle.store_core.specs.Note.{Kind}
use Rattle.store_core.specs.Run.{places_in}
use Rattle.store_core.specs.Schedule.{run_core}
use Rattle.store_core.specs.Step.{Shortage, Places, take_from, ended_by, actor_step}
use Rattle.store_core.specs.Sweep.{next_sweep}
use Rattle.store_core.specs.Tell.{tell}
use Rattle.store_core.specs.Work.{Calling, new_calling}
use Rattle.run_laws.proofs.Runs.{CanRun}
use Rattle.run_laws.proofs.Scripts.{replicated}
use Rattle.history_laws.proofs.ActorLines.{each_changed}
use Rattle.history_laws.proofs.AtWork.{AtWork, client_at, repairer_at, first, act, after}
use Rattle.history_laws.specs.Steps.{run_trace}
use Rattle.history_laws.specs.Trace.{Made, call_made, act_made}
use Rattle.history_laws.proofs.Traced.{KeptByMade, run_traced}

-- ---- each call makes some step
one_more : (x k : ℕ) → 1 ≤ x + suc k
one_more x k = omega arith

pub some_bound : (kind : Kind) (n tries s r : ℕ) → 1 ≤ bound_by kind n tries s r
some_bound Kind.Put n tries s r = one_more (2 * n * s) 2
some_bound Kind.Write n tries s r = one_more (tries * (6 * n + n * s + 3) + n * s) 0
some_bound Kind.Get n tries s r = one_more (3 * n * r) 1
some_bound Kind.ReadAt n tries s r = one_more (3 * n * r) 1
some_bound Kind.Stat n tries s r = omega arith
some_bound Kind.Delete n tries s r = omega arith
some_bound Kind.Rebuild n tries s r = one_more (3 * n) 2

-- ---- steps of one call
abbrev is_of : Actor → ℕ → Made → Bool
is_of who number made = same_actor who made.who && nat_eq number made.number

-- how many a trace has
abbrev pub count_of : Actor → ℕ → List Made → ℕ
count_of who number trace = count_by (λ (made : Made). same_actor who made.who && nat_eq number made.number) trace

abbrev one_if : Bool → ℕ
one_if b = cond b 1 0

counted : (who : Actor) (number : ℕ) (trace : List Made) (made : Made) (b : Bool) → is_of who number made ≡ b
    → count_of who number (trace ++ made ∷ []) ≡ count_of who number trace + one_if b
counted who number trace made b e =
    let both : count_of who number (trace ++ made ∷ []) ≡ count_of who number trace + count_of who number (made ∷ []) =
    sum_by-append (λ (one : Made). one_if (is_of who number one)) trace (made ∷ []) in
    let last : count_of who number (made ∷ []) ≡ one_if (is_of who number made) + 0 =
    sum_by-cons (λ (one : Made). one_if (is_of who number one)) made [] in
    let is : one_if (is_of who number made) ≡ one_if b = ap one_if e in
    let x : ℕ = one_if (is_of who number made) in
    let y : ℕ = one_if b in
    omega (arith, both, last, is)

-- of the call in work as many as it counts, of later calls none
pub record StepsThen (trace : List Made) (who : Actor) (c : Calling) : Type 0 where
  pub in_work : count_of who (length c.ended) trace ≡ c.steps
  pub later : (k : ℕ) → length c.ended < k → count_of who k trace ≡ 0

-- another's step
others : (trace : List Made) (made : Made) (who : Actor) (c : Calling) → same_actor who made.who ≡ false → StepsThen trace who c → StepsThen (trace ++ made ∷ []) who c
others trace made who c apart h = record { in_work = same (length c.ended) ∙ h.in_work; later = λ k high. same k ∙ h.later k high }
  where
    same : (k : ℕ) → count_of who k (trace ++ made ∷ []) ≡ count_of who k trace
    same k = let e : count_of who k (trace ++ made ∷ []) ≡ count_of who k trace + 0 = counted who k trace made false (ap (λ b. b && nat_eq k made.number) apart) in omega (arith, e)

-- its own
module _ (script : Script) (who : Actor) (job : Job) (calling : Calling) (places : Places) (at : AtWork script who job calling places) (shortages : Shortage) (trace : List Made) (kept : StepsThen trace who calling) where
  abbrev number : ℕ
  number = length calling.ended

  abbrev more : List Made
  more = trace ++ call_made script shortages who calling places job ∷ []

  mine : count_of who number more ≡ calling.steps + 1
  mine =
      let e : count_of who number more ≡ count_of who number trace + 1 =
      counted who number trace (call_made script shortages who calling places job) true (ap (λ b. b && nat_eq number number) at.self ∙ eq-eqb number number refl) in
      let before : count_of who number trace ≡ calling.steps = kept.in_work in
      omega (arith, e, before)

  other_call : (k : ℕ) → number < k → count_of who k more ≡ 0
  other_call k high =
      let e : count_of who k more ≡ count_of who k trace + 0 =
      counted who k trace (call_made script shortages who calling places job) false (ap (λ b. b && nat_eq k number) at.self ∙ ne_eqb k number (λ same. omega (arith, high, same))) in
      let none : count_of who k trace ≡ 0 = kept.later k high in
      omega (arith, e, none)

  abbrev middle : Calling
  middle =
      record {
        ended = calling.ended;
        told = tell script.geometry job (first script who job calling places at shortages.coding shortages.step) (after script who job calling places at shortages.coding shortages.step).1;
        takes = take_from (act script who job calling places at shortages.coding shortages.step) (after script who job calling places at shortages.coding shortages.step).1 calling.takes;
        steps = calling.steps + 1;
      }

  by_act : (a : Act) → StepsThen more who (ended_by a (chunk_count script.geometry) middle)
  by_act (Act.Finish outcome) =
      let longer : number < length (ended_by (Act.Finish outcome) (chunk_count script.geometry) middle).ended =
      (let size : length (calling.ended ++ record { outcome = outcome; takes = middle.takes } ∷ []) ≡ length calling.ended + 1 = length-append calling.ended (record { outcome = outcome; takes = middle.takes } ∷ []) in omega (arith, size)) in
      record { in_work = other_call (length (ended_by (Act.Finish outcome) (chunk_count script.geometry) middle).ended) longer; later = λ k high. other_call k (omega (arith, longer, high)) }
  by_act (Act.AtDirectory step) = record { in_work = mine; later = other_call }
  by_act (Act.AtServer server step) = record { in_work = mine; later = other_call }

  own_step : StepsThen (trace ++ call_made script shortages who calling places job ∷ []) who (actor_step script.geometry (tries_of script) shortages who job calling places).1
  own_step = by_act (next_act script.geometry (tries_of script) job middle.told)

-- ---- in every run
pub record StepsSoFar (script : Script) (trace : List Made) (core : Core) : Type 0 where
  pub clients : (i : ℕ) (c : Calling) → slice_get core.clients i ≡ Some c → StepsThen trace (actor.Client i) c
  pub repairers : (i : ℕ) (c : Calling) → slice_get core.repairers i ≡ Some c → StepsThen trace (actor.Repairer i) c

module _ (script : Script) (can : CanRun script) where
  steps_kept : KeptByMade script can (StepsSoFar script)
  steps_kept =
      record {
        client = λ trace core kept has i work calling job is_work is_calling is_job shortages kept_after.
            let at : AtWork script (actor.Client i) job calling (places_in core) = client_at script can core kept i work calling job is_work is_calling is_job in
            let next : Places × Calling = actor_step script.geometry (tries_of script) shortages (actor.Client i) job calling (places_in core) in
            let made : Made = call_made script shortages (actor.Client i) calling (places_in core) job in
            record {
              clients =
                  each_changed (λ j c. StepsThen (trace ++ call_made script shortages (actor.Client i) calling (places_in core) job ∷ []) (actor.Client j) c) i calling next.1 core.clients is_calling
                  (own_step script (actor.Client i) job calling (places_in core) at shortages trace (has.clients i calling is_calling))
                  (λ j differ c e. others trace made (actor.Client j) c (can.clients.apart i j differ) (has.clients j c e));
              repairers = λ j c e. others trace made (actor.Repairer j) c refl (has.repairers j c e);
            };
        repairer = λ trace core kept has i work calling job is_work is_calling is_job shortages kept_after.
            let at : AtWork script (actor.Repairer i) job calling (places_in core) = repairer_at script can core kept i work calling job is_work is_calling is_job in
            let next : Places × Calling = actor_step script.geometry (tries_of script) shortages (actor.Repairer i) job calling (places_in core) in
            let made : Made = call_made script shortages (actor.Repairer i) calling (places_in core) job in
            record {
              clients = λ j c e. others trace made (actor.Client j) c refl (has.clients j c e);
              repairers =
                  each_changed (λ j c. StepsThen (trace ++ call_made script shortages (actor.Repairer i) calling (places_in core) job ∷ []) (actor.Repairer j) c) i calling next.1 core.repairers is_calling
                  (own_step script (actor.Repairer i) job calling (places_in core) at shortages trace (has.repairers i calling is_calling))
                  (λ j differ c e. others trace made (actor.Repairer j) c (can.repairers.apart i j differ) (has.repairers j c e));
            };
        sweeper = λ trace core kept has.
            let made : Made = act_made actor.Sweeper (next_sweep (chunk_count script.geometry) core.sweeper) (places_in core) in
            record {
              clients = λ j c e. others trace made (actor.Client j) c refl (has.clients j c e);
              repairers = λ j c e. others trace made (actor.Repairer j) c refl (has.repairers j c e);
            };
        operator = λ trace core kept has a is own.
            let made : Made = act_made actor.Operator a (places_in core) in
            record {
              clients = λ j c e. others trace made (actor.Client j) c refl (has.clients j c e);
              repairers = λ j c e. others trace made (actor.Repairer j) c refl (has.repairers j c e);
            };
      }

  fresh : (who : Actor) (c : Calling) → new_calling (chunk_count script.geometry) ≡ c → StepsThen [] who c
  fresh who c e = subst (StepsThen [] who) e (record { in_work = refl; later = λ k high. refl })

  first_steps : StepsSoFar script [] (first_core script)
  first_steps =
      record {
        clients = λ i c e. fresh (actor.Client i) c (replicated (length script.clients) i (new_calling (chunk_count script.geometry)) c e);
        repairers = λ i c e. fresh (actor.Repairer i) c (replicated (length script.repairers) i (new_calling (chunk_count script.geometry)) c e);
      }

  pub all_steps : (shortages : List Shortage) (tokens : List Token) → StepsSoFar script (run_trace script shortages tokens) (run_core script shortages tokens)
  all_steps shortages tokens = (run_traced script can (StepsSoFar script) steps_kept shortages first_steps tokens).1
