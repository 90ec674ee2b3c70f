-- What a call took is what the answers gave it that the trace tells.
use Rattle.std.proofs.Common.{◌≡◌, ◌⊎◌, inl, inr, ℕ, zero, suc, ◌+◌, ◌<◌, Bool, true, false, ◌&&◌, nat_eq, List, [], ◌∷◌, ◌++◌, length, fold, replicate, Option, None, Some, refl, sym, ap, subst, ◌∙◌, arith, length-append}
use Rattle.std.proofs.lemmas.Bool.{cond_both, eq-eqb, ne_eqb}
use Rattle.std.proofs.lemmas.List.{append_assoc}
use Rattle.std.proofs.lemmas.List.Sums.{fold-append}
use Rattle.std.proofs.lemmas.Option.{none-some, same_Some}
use Rattle.std.specs.List.{slice_get}
use Rattle.clay_grid.specs.Shape.{Shape, chunk_count}
use Rattle.store_map.specs.Limits.{size_of, tries_of}
use Rattle.store_map.specs.declared.actor.Actor.{Actor}
use Rattle.store_map.specs.declared.actor.Actor.TheVariants as actor
use Rattle.store_map.specs.declared.actor.Token.{Token}
use Rattle.store_map.specs.declared.script.Script.{Script}
use Rattle.store_core.specs.Act.{Act, ServerStep}
use Rattle.store_core.specs.ActPlace.{is_in_pass}
use Rattle.store_core.specs.Core.{Core, first_core}
use Rattle.store_core.specs.Lookups.{same_actor}
use Rattle.store_core.specs.NextAct.{Job, next_act}
use Rattle.store_core.specs.Run.{places_in}
use Rattle.store_core.specs.Schedule.{run_core}
use Rattle.store_core.specs.Server.{Server, gives, found_at, server_unless_short, made_at_server}
use Rattle.store_core.specs.Step.{Shortage, Places, at_places, at_server_there, told_first, take_from, ended_by, actor_step}
use Rattle.store_core.specs.Sweep.{next_sweep}
use Rattle.store_core.specs.Tell.{tell}
use Rattle.store_core.specs.Told.{Told}
use Rattle.store_core.specs.Work.{Ended, Work, Calling, new_calling, client_work, repairer_work}
use Rattle.run_laws.proofs.Runs.{CanRun}
use Rattle.run_laws.proofs.Scripts.{replicated}
use Rattle.history_laws.proofs.ActorLines.{each_changed}
use Rattle.history_laws.proofs.AnsweredPoints.{pushed}
use Rattle.history_laws.proofs.AtWork.{AtWork, client_at, repairer_at, first, act, after}
use Rattle.history_laws.specs.LineCauses.{told_by, told_to}
use Rattle.history_laws.specs.Steps.{run_trace}
use Rattle.history_laws.specs.Trace.{Made, call_made, act_made}
use Rattle.history_laws.proofs.CausedCalls.{CauseThen, told_same, told_more}
use Rattle.history_laws.proofs.CausedLines.{CausesSoFar, causes_kept, first_causes}
use Rattle.history_laws.proofs.Traced.{KeptByMade, run_traced}
use Rattle.history_laws.specs.TakesOfCalls.{taken_since, taken_by, IsExact, AreExactSince}
use Rattle.history_laws.proofs.Rebuilds.{takes_stay}

-- ---- one answer more
module _ (g : Shape) (tries : ℕ) (job : Job) where
  exact_since : (told answers : List Told) (answer : Told) → AreExactSince g tries job told answers → IsExact (next_act g tries job (fold (tell g job) told answers)) answer
      → AreExactSince g tries job told (answers ++ answer ∷ [])
  exact_since told [] answer so next = (next, tt)
  exact_since told (one ∷ answers) answer so next = (so.0, exact_since (tell g job told one) answers answer so.1 next)

  takes_since : (told : List Told) (takes : List ℕ) (answers : List Told) (answer : Told)
      → taken_since g tries job told takes (answers ++ answer ∷ []) ≡ take_from (next_act g tries job (fold (tell g job) told answers)) answer (taken_since g tries job told takes answers)
  takes_since told takes [] answer = refl
  takes_since told takes (one ∷ answers) answer = takes_since (tell g job told one) (take_from (next_act g tries job told) one takes) answers answer

  -- such answers gave so much
  pub record TakenSo (answers : List Told) (takes : List ℕ) : Type 0 where
    pub exact : AreExactSince g tries job [] answers
    pub taken : takes ≡ taken_by g tries job answers

  taken_more : (answers told : List Told) (takes : List ℕ) (answer : Told) → fold (tell g job) [] answers ≡ told → TakenSo answers takes → IsExact (next_act g tries job told) answer
      → TakenSo (answers ++ answer ∷ []) (take_from (next_act g tries job told) answer takes)
  taken_more answers told takes answer kept so exact =
      record {
        exact = exact_since [] answers answer so.exact (subst (λ t. IsExact (next_act g tries job t) answer) (sym kept) exact);
        taken =
            ap (take_from (next_act g tries job told) answer) so.taken
            ∙ ap (λ t. take_from (next_act g tries job t) answer (taken_by g tries job answers)) (sym kept)
            ∙ sym (takes_since [] (replicate (chunk_count g) 0) answers answer);
      }

  none_taken : TakenSo [] (replicate (chunk_count g) 0)
  none_taken = record { exact = tt; taken = refl }

-- ---- a server gives what it was asked for
exact_made : (server : ℕ) (step : ServerStep) (s : Server) → IsExact (Act.AtServer server step) (made_at_server step s).1
exact_made server (ServerStep.Fetch version layers) s =
    cond_both {A = Server × Told} (gives version s) _ (s, Told.Missing (found_at s)) (λ r. IsExact (Act.AtServer server (ServerStep.Fetch version layers)) r.1) (λ _. refl) (λ _. tt)
exact_made server step s = tt

exact_short : (short takes : Bool) (server : ℕ) (step : ServerStep) (s : Server) → IsExact (Act.AtServer server step) (server_unless_short short takes step s).1
exact_short true true server (ServerStep.Fetch version layers) s = tt
exact_short true true server step s = tt
exact_short true false server step s = exact_made server step s
exact_short false takes server step s = exact_made server step s

exact_there : (short : Bool) (server : ℕ) (step : ServerStep) (places : Places) (found : Option Server) → IsExact (Act.AtServer server step) (at_server_there short server step places found).1
exact_there short server (ServerStep.Fetch version layers) places None = tt
exact_there short server step places None = tt
exact_there short server step places (Some s) = exact_short short _ server step s

exact_act : (short : Bool) (who : Actor) (number : ℕ) (a : Act) (places : Places) → IsExact a (at_places short who number a places).1
exact_act short who number (Act.AtDirectory step) places = tt
exact_act short who number (Act.AtServer server step) places = exact_there short server step places (slice_get places.servers server)
exact_act short who number (Act.Finish outcome) places = tt

exact_shortage : (a : Act) → IsExact a Told.Short
exact_shortage (Act.AtDirectory step) = tt
exact_shortage (Act.AtServer server (ServerStep.Fetch version layers)) = tt
exact_shortage (Act.AtServer server step) = tt
exact_shortage (Act.Finish outcome) = tt

-- ---- what is kept of an actor
pub record TakesThen (g : Shape) (tries : ℕ) (trace : List Made) (who : Actor) (jobs : List Job) (c : Calling) : Type 0 where
  pub in_work : (job : Job) → slice_get jobs (length c.ended) ≡ Some job → TakenSo g tries job (told_to who (length c.ended) trace) c.takes
  pub ended : (k : ℕ) (job : Job) (e : Ended) → slice_get jobs k ≡ Some job → slice_get c.ended k ≡ Some e → TakenSo g tries job (told_to who k trace) e.takes

-- another's step
takes_same : (g : Shape) (tries : ℕ) (trace : List Made) (made : Made) (who : Actor) (jobs : List Job) (c : Calling) → same_actor who made.who ≡ false → TakesThen g tries trace who jobs c → TakesThen g tries (trace ++ made ∷ []) who jobs c
takes_same g tries trace made who jobs c apart h =
    record {
      in_work = λ job is. subst (λ l. TakenSo g tries job l c.takes) (sym (same (length c.ended))) (h.in_work job is);
      ended = λ k job e is_job is. subst (λ l. TakenSo g tries job l e.takes) (sym (same k)) (h.ended k job e is_job is);
    }
  where
    same : (k : ℕ) → told_to who k (trace ++ made ∷ []) ≡ told_to who k trace
    same k = told_same who k trace made (ap (λ b. b && nat_eq k made.number) apart)

-- an entry's number is below the length
not_last : (list : List Ended) (n : ℕ) (x : Ended) → slice_get list n ≡ Some x → n ≡ length list → ⊥
not_last [] n x at_n same = none-some x at_n
not_last (y ∷ list) zero x at_n same = absurd (omega (arith, same))
not_last (y ∷ list) (suc n) x at_n same = not_last list n x at_n (omega (arith, same))

module _ (script : Script) (who : Actor) (jobs : List Job) (job : Job) (calling : Calling) (is_job : slice_get jobs (length calling.ended) ≡ Some job) (places : Places) (at : AtWork script who job calling places) (shortages : Shortage)
    (trace : List Made) (causes : CauseThen script.geometry (size_of script) (tries_of script) trace who jobs calling) (kept : TakesThen script.geometry (tries_of script) trace who jobs calling) where
  abbrev g : Shape
  g = script.geometry

  abbrev tries : ℕ
  tries = tries_of script

  abbrev number : ℕ
  number = length calling.ended

  abbrev told : List Told
  told = first script who job calling places at shortages.coding shortages.step

  abbrev own_act : Act
  own_act = act script who job calling places at shortages.coding shortages.step

  abbrev done : Places × Told
  done = after script who job calling places at shortages.coding shortages.step

  abbrev now : List Told
  now = tell g job told done.1

  abbrev has_one : Bool
  has_one = is_in_pass (next_act g tries job calling.told)

  -- with the want of memory before the act, which gives nothing
  first_taken : (coding has : Bool) (answers : List Told) → fold (tell g job) [] answers ≡ calling.told → TakenSo g tries job answers calling.takes → (answer : Told) → IsExact (next_act g tries job (told_first coding has g job calling.told)) answer
      → TakenSo g tries job (answers ++ told_by (coding && has) answer) (take_from (next_act g tries job (told_first coding has g job calling.told)) answer calling.takes)
  first_taken true true answers same so answer exact =
      subst (λ l. TakenSo g tries job l (take_from (next_act g tries job (tell g job calling.told Told.Short)) answer calling.takes)) (append_assoc answers (Told.Short ∷ []) (answer ∷ []))
      (taken_more g tries job (answers ++ Told.Short ∷ []) (tell g job calling.told Told.Short) calling.takes answer (fold-append (tell g job) [] answers (Told.Short ∷ []) ∙ ap (λ t. tell g job t Told.Short) same)
      (subst (TakenSo g tries job (answers ++ Told.Short ∷ [])) (takes_stay (next_act g tries job calling.told) Told.Short calling.takes tt)
      (taken_more g tries job answers calling.told calling.takes Told.Short same so (exact_shortage (next_act g tries job calling.told)))) exact)
  first_taken true false answers same so answer exact = taken_more g tries job answers calling.told calling.takes answer same so exact
  first_taken false true answers same so answer exact = taken_more g tries job answers calling.told calling.takes answer same so exact
  first_taken false false answers same so answer exact = taken_more g tries job answers calling.told calling.takes answer same so exact

  abbrev more : List Made
  more = trace ++ call_made script shortages who calling places job ∷ []

  mine : told_to who number (trace ++ call_made script shortages who calling places job ∷ []) ≡ told_to who number trace ++ told_by (shortages.coding && has_one) done.1
  mine = told_more who number trace (call_made script shortages who calling places job) (ap (λ b. b && nat_eq number number) at.self ∙ eq-eqb number number refl)

  other_call : (k : ℕ) → (k ≡ number → ⊥) → told_to who k (trace ++ call_made script shortages who calling places job ∷ []) ≡ told_to who k trace
  other_call k differ = told_same who k trace (call_made script shortages who calling places job) (ap (λ b. b && nat_eq k number) at.self ∙ ne_eqb k number differ)

  abbrev takes_now : List ℕ
  takes_now = take_from own_act done.1 calling.takes

  taken_now : TakenSo g tries job (told_to who number more) takes_now
  taken_now =
      subst (λ l. TakenSo g tries job l takes_now) (sym mine)
      (first_taken shortages.coding has_one (told_to who number trace) (causes.in_work job is_job).kept (kept.in_work job is_job) done.1 (exact_act shortages.step who number own_act places))

  old_ended : (k : ℕ) (j : Job) (e : Ended) → slice_get jobs k ≡ Some j → slice_get calling.ended k ≡ Some e → TakenSo g tries j (told_to who k more) e.takes
  old_ended k j e is_j is = subst (λ l. TakenSo g tries j l e.takes) (sym (other_call k (not_last calling.ended k e is))) (kept.ended k j e is_j is)

  same_job : (j : Job) → slice_get jobs (length calling.ended) ≡ Some j → job ≡ j
  same_job j is = same_Some job j (sym is_job ∙ is)

  abbrev Now : Calling → Type 0
  Now c = TakesThen g tries more who jobs c

  abbrev middle : Calling
  middle = record { ended = calling.ended; told = now; takes = takes_now; steps = calling.steps + 1 }

  goes_on : Now middle
  goes_on = record { in_work = λ j is. subst (λ (x : Job). TakenSo g tries x (told_to who number more) takes_now) (same_job j is) taken_now; ended = old_ended }

  by_act : (a : Act) → Now (ended_by a (chunk_count g) middle)
  by_act (Act.Finish outcome) =
      record {
        in_work = λ j is. subst (λ l. TakenSo g tries j l (replicate (chunk_count g) 0)) (sym next_none) (none_taken g tries j);
        ended = λ k j x is_j is. two k j x is_j (pushed calling.ended (record { outcome = outcome; takes = takes_now }) k x is);
      }
    where
      longer : number < length (calling.ended ++ record { outcome = outcome; takes = takes_now } ∷ [])
      longer = let size : length (calling.ended ++ record { outcome = outcome; takes = takes_now } ∷ []) ≡ length calling.ended + 1 = length-append calling.ended (record { outcome = outcome; takes = takes_now } ∷ []) in omega (arith, size)

      next_none : told_to who (length (calling.ended ++ record { outcome = outcome; takes = takes_now } ∷ [])) more ≡ []
      next_none = other_call (length (calling.ended ++ record { outcome = outcome; takes = takes_now } ∷ [])) (λ same. absurd (omega (arith, longer, same))) ∙ causes.later (length (calling.ended ++ record { outcome = outcome; takes = takes_now } ∷ [])) longer

      two : (k : ℕ) (j : Job) (x : Ended) → slice_get jobs k ≡ Some j → (slice_get calling.ended k ≡ Some x) ⊎ ((k ≡ length calling.ended) × (record { outcome = outcome; takes = takes_now } ≡ x)) → TakenSo g tries j (told_to who k more) x.takes
      two k j x is_j (inl is) = old_ended k j x is_j is
      two k j x is_j (inr h) =
          subst (λ n. TakenSo g tries j (told_to who n more) x.takes) (sym h.0)
          (subst (λ (y : Job). TakenSo g tries y (told_to who number more) x.takes) (same_job j (subst (λ n. slice_get jobs n ≡ Some j) h.0 is_j))
          (subst (λ (y : Ended). TakenSo g tries job (told_to who number more) y.takes) h.1 taken_now))
  by_act (Act.AtDirectory step) = goes_on
  by_act (Act.AtServer server step) = goes_on

  own_step : TakesThen g tries (trace ++ call_made script shortages who calling places job ∷ []) who jobs (actor_step g tries shortages who job calling places).1
  own_step = by_act (next_act g tries job now)

-- ---- in every run
pub record TakesSoFar (script : Script) (trace : List Made) (core : Core) : Type 0 where
  pub causes : CausesSoFar script trace core
  pub clients : (i : ℕ) (c : Calling) → slice_get core.clients i ≡ Some c → (work : Work) → slice_get (client_work script) i ≡ Some work → TakesThen script.geometry (tries_of script) trace (actor.Client i) work.jobs c
  pub repairers : (i : ℕ) (c : Calling) → slice_get core.repairers i ≡ Some c → (work : Work) → slice_get (repairer_work script) i ≡ Some work → TakesThen script.geometry (tries_of script) trace (actor.Repairer i) work.jobs c

module _ (script : Script) (can : CanRun script) where
  abbrev Then : List Made → Actor → List Job → Calling → Type 0
  Then trace who jobs c = TakesThen script.geometry (tries_of script) trace who jobs c

  others : (trace : List Made) (made : Made) (who : Actor) (jobs : List Job) (c : Calling) → same_actor who made.who ≡ false → Then trace who jobs c → Then (trace ++ made ∷ []) who jobs c
  others trace made who jobs c apart h = takes_same script.geometry (tries_of script) trace made who jobs c apart h

  takes_kept : KeptByMade script can (TakesSoFar script)
  takes_kept =
      record {
        client = λ trace core kept has i work calling job is_work is_calling is_job shortages kept_after.
            let at : AtWork script (actor.Client i) job calling (places_in core) = client_at script can core kept i work calling job is_work is_calling is_job in
            let next : Places × Calling = actor_step script.geometry (tries_of script) shortages (actor.Client i) job calling (places_in core) in
            let made : Made = call_made script shortages (actor.Client i) calling (places_in core) job in
            record {
              causes = (causes_kept script can).client trace core kept has.causes i work calling job is_work is_calling is_job shortages kept_after;
              clients =
                  each_changed (λ j c. (w : Work) → slice_get (client_work script) j ≡ Some w → Then (trace ++ call_made script shortages (actor.Client i) calling (places_in core) job ∷ []) (actor.Client j) w.jobs c) i calling next.1 core.clients is_calling
                  (λ w is.
                  subst (λ (x : Work). Then (trace ++ call_made script shortages (actor.Client i) calling (places_in core) job ∷ []) (actor.Client i) x.jobs next.1) (same_Some work w (sym is_work ∙ is))
                  (own_step script (actor.Client i) work.jobs job calling is_job (places_in core) at shortages trace (has.causes.clients i calling is_calling work is_work) (has.clients i calling is_calling work is_work)))
                  (λ j differ c e w is. others trace made (actor.Client j) w.jobs c (can.clients.apart i j differ) (has.clients j c e w is));
              repairers = λ j c e w is. others trace made (actor.Repairer j) w.jobs c refl (has.repairers j c e w is);
            };
        repairer = λ trace core kept has i work calling job is_work is_calling is_job shortages kept_after.
            let at : AtWork script (actor.Repairer i) job calling (places_in core) = repairer_at script can core kept i work calling job is_work is_calling is_job in
            let next : Places × Calling = actor_step script.geometry (tries_of script) shortages (actor.Repairer i) job calling (places_in core) in
            let made : Made = call_made script shortages (actor.Repairer i) calling (places_in core) job in
            record {
              causes = (causes_kept script can).repairer trace core kept has.causes i work calling job is_work is_calling is_job shortages kept_after;
              clients = λ j c e w is. others trace made (actor.Client j) w.jobs c refl (has.clients j c e w is);
              repairers =
                  each_changed (λ j c. (w : Work) → slice_get (repairer_work script) j ≡ Some w → Then (trace ++ call_made script shortages (actor.Repairer i) calling (places_in core) job ∷ []) (actor.Repairer j) w.jobs c) i calling next.1 core.repairers is_calling
                  (λ w is.
                  subst (λ (x : Work). Then (trace ++ call_made script shortages (actor.Repairer i) calling (places_in core) job ∷ []) (actor.Repairer i) x.jobs next.1) (same_Some work w (sym is_work ∙ is))
                  (own_step script (actor.Repairer i) work.jobs job calling is_job (places_in core) at shortages trace (has.causes.repairers i calling is_calling work is_work) (has.repairers i calling is_calling work is_work)))
                  (λ j differ c e w is. others trace made (actor.Repairer j) w.jobs c (can.repairers.apart i j differ) (has.repairers j c e w is));
            };
        sweeper = λ trace core kept has.
            let made : Made = act_made actor.Sweeper (next_sweep (chunk_count script.geometry) core.sweeper) (places_in core) in
            record {
              causes = (causes_kept script can).sweeper trace core kept has.causes;
              clients = λ j c e w is. others trace made (actor.Client j) w.jobs c refl (has.clients j c e w is);
              repairers = λ j c e w is. others trace made (actor.Repairer j) w.jobs c refl (has.repairers j c e w is);
            };
        operator = λ trace core kept has a is own.
            let made : Made = act_made actor.Operator a (places_in core) in
            record {
              causes = (causes_kept script can).operator trace core kept has.causes a is own;
              clients = λ j c e w there. others trace made (actor.Client j) w.jobs c refl (has.clients j c e w there);
              repairers = λ j c e w there. others trace made (actor.Repairer j) w.jobs c refl (has.repairers j c e w there);
            };
      }

  fresh : (who : Actor) (jobs : List Job) (c : Calling) → new_calling (chunk_count script.geometry) ≡ c → Then [] who jobs c
  fresh who jobs c e = subst (Then [] who jobs) e (record { in_work = λ job is. none_taken script.geometry (tries_of script) job; ended = λ k job x is_job is. absurd (none-some x is) })

  first_takes : TakesSoFar script [] (first_core script)
  first_takes =
      record {
        causes = first_causes script can;
        clients = λ i c e work is. fresh (actor.Client i) work.jobs c (replicated (length script.clients) i (new_calling (chunk_count script.geometry)) c e);
        repairers = λ i c e work is. fresh (actor.Repairer i) work.jobs c (replicated (length script.repairers) i (new_calling (chunk_count script.geometry)) c e);
      }

  pub all_takes : (shortages : List Shortage) (tokens : List Token) → TakesSoFar script (run_trace script shortages tokens) (run_core script shortages tokens)
  all_takes shortages tokens = (run_traced script can (TakesSoFar script) takes_kept shortages first_takes tokens).1
