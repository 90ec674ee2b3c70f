-- In every run each call has answers by which it took what it took.
use Rattle.std.proofs.Common.{◌≡◌, ◌⊎◌, ℕ, zero, suc, ◌+◌, Bool, true, false, List, [], ◌∷◌, ◌++◌, length, fold, replicate, Option, None, Some, inl, inr, refl, sym, ap, subst, ◌∙◌}
use Rattle.std.proofs.lemmas.Bool.{cond_both}
use Rattle.std.proofs.lemmas.Option.{none-some, same_Some}
use Rattle.std.proofs.lemmas.List.Sums.{fold-append}
use Rattle.std.specs.List.{slice_get}
use Rattle.clay_grid.specs.Shape.{Shape, chunk_count}
use Rattle.store_map.specs.Limits.{size_of, tries_of}
use Rattle.store_map.specs.declared.actor.Actor.{Actor}
use Rattle.store_map.specs.declared.actor.Actor.TheVariants as actor
use Rattle.store_map.specs.declared.actor.Token.{Token}
use Rattle.store_map.specs.declared.script.Script.{Script}
use Rattle.store_core.specs.Act.{Act, ServerStep}
use Rattle.store_core.specs.ActPlace.{is_in_pass}
use Rattle.store_core.specs.Core.{Core, first_core}
use Rattle.store_core.specs.NextAct.{Job, next_act}
use Rattle.store_core.specs.Run.{places_in}
use Rattle.store_core.specs.Schedule.{run_core}
use Rattle.store_core.specs.Server.{Server, gives, found_at, server_unless_short, made_at_server}
use Rattle.store_core.specs.Step.{Shortage, Places, at_places, at_server_there, told_first, take_from, ended_by, actor_step}
use Rattle.store_core.specs.Tell.{tell}
use Rattle.store_core.specs.Told.{Told}
use Rattle.store_core.specs.Work.{Ended, Work, Calling, new_calling, client_work, repairer_work}
use Rattle.run_laws.specs.ToldInSteps.{IsToldNext, AreToldSince}
use Rattle.run_laws.proofs.ActKinds.{act_kind, in_pass_steps}
use Rattle.run_laws.proofs.Runs.{CanRun}
use Rattle.run_laws.proofs.RunsSound.{RunKeeps}
use Rattle.run_laws.proofs.Scripts.{can_run, replicated}
use Rattle.run_laws.proofs.InSteps.{told_next}
use Rattle.run_laws.specs.AnswersByKind.{FitsKind}
use Rattle.run_laws.proofs.Proper.{HasTry}
use Rattle.history_laws.proofs.ActorLines.{each_changed}
use Rattle.history_laws.proofs.AtWork.{AtWork, client_at, repairer_at, first, act, after, stands, proper, answered}
use Rattle.history_laws.proofs.Induction.{KeptBySteps, run_has}
use Rattle.history_laws.specs.TakesOfCalls.{taken_since, taken_by, IsExact, AreExactSince, Log, EndedBy}
use Rattle.history_laws.specs.LeastTakes.{HaveLogs, CallsHaveLogs}

-- ---- one answer more
module _ (g : Shape) (most tries : ℕ) (job : Job) where
  told_since : (told answers : List Told) (answer : Told) → AreToldSince g most tries job told answers → IsToldNext g most tries job (fold (tell g job) told answers) answer
      → AreToldSince g most tries job told (answers ++ answer ∷ [])
  told_since told [] answer so next = (next, tt)
  told_since told (one ∷ answers) answer so next = (so.0, told_since (tell g job told one) answers answer so.1 next)

  exact_since : (told answers : List Told) (answer : Told) → AreExactSince g tries job told answers → IsExact (next_act g tries job (fold (tell g job) told answers)) answer
      → AreExactSince g tries job told (answers ++ answer ∷ [])
  exact_since told [] answer so next = (next, tt)
  exact_since told (one ∷ answers) answer so next = (so.0, exact_since (tell g job told one) answers answer so.1 next)

  takes_since : (told : List Told) (takes : List ℕ) (answers : List Told) (answer : Told)
      → taken_since g tries job told takes (answers ++ answer ∷ []) ≡ take_from (next_act g tries job (fold (tell g job) told answers)) answer (taken_since g tries job told takes answers)
  takes_since told takes [] answer = refl
  takes_since told takes (one ∷ answers) answer = takes_since (tell g job told one) (take_from (next_act g tries job told) one takes) answers answer

-- what a call in work was told, and what it took by it
record Logged (script : Script) (job : Job) (told : List Told) (takes : List ℕ) : Type 0 where
  answers : List Told
  log : Log script job answers
  kept : fold (tell script.geometry job) [] answers ≡ told
  taken : takes ≡ taken_by script.geometry (tries_of script) job answers

module _ (script : Script) (job : Job) where
  abbrev now_act : List Told → Act
  now_act told = next_act script.geometry (tries_of script) job told

  logged_more : (told : List Told) (takes : List ℕ) (answer : Told) → Logged script job told takes → IsToldNext script.geometry (size_of script) (tries_of script) job told answer → IsExact (now_act told) answer
      → Logged script job (tell script.geometry job told answer) (take_from (now_act told) answer takes)
  logged_more told takes answer h next exact =
      record {
        answers = h.answers ++ answer ∷ [];
        log =
            record {
              are_told =
                  told_since script.geometry (size_of script) (tries_of script) job [] h.answers answer h.log.are_told
                  (subst (λ t. IsToldNext script.geometry (size_of script) (tries_of script) job t answer) (sym h.kept) next);
              exact = exact_since script.geometry (size_of script) (tries_of script) job [] h.answers answer h.log.exact (subst (λ t. IsExact (now_act t) answer) (sym h.kept) exact);
            };
        kept = fold-append (tell script.geometry job) [] h.answers (answer ∷ []) ∙ ap (λ t. tell script.geometry job t answer) h.kept;
        taken =
            ap (take_from (now_act told) answer) h.taken
            ∙ sym (takes_since script.geometry (size_of script) (tries_of script) job [] (replicate (chunk_count script.geometry) 0) h.answers answer
            ∙ ap (λ t. take_from (now_act t) answer (taken_by script.geometry (tries_of script) job h.answers)) h.kept);
      }

  none_logged : Logged script job [] (replicate (chunk_count script.geometry) 0)
  none_logged = record { answers = []; log = record { are_told = tt; exact = tt }; kept = refl; taken = refl }

-- ---- a server gives what it was asked for
exact_made : (server : ℕ) (step : ServerStep) (s : Server) → IsExact (Act.AtServer server step) (made_at_server step s).1
exact_made server (ServerStep.Fetch version layers) s =
    cond_both {A = Server × Told} (gives version s) _ (s, Told.Missing (found_at s)) (λ r. IsExact (Act.AtServer server (ServerStep.Fetch version layers)) r.1) (λ _. refl) (λ _. tt)
exact_made server step s = tt

exact_short : (short takes : Bool) (server : ℕ) (step : ServerStep) (s : Server) → IsExact (Act.AtServer server step) (server_unless_short short takes step s).1
exact_short true true server (ServerStep.Fetch version layers) s = tt
exact_short true true server step s = tt
exact_short true false server step s = exact_made server step s
exact_short false takes server step s = exact_made server step s

exact_there : (short : Bool) (server : ℕ) (step : ServerStep) (places : Places) (found : Option Server) → IsExact (Act.AtServer server step) (at_server_there short server step places found).1
exact_there short server (ServerStep.Fetch version layers) places None = tt
exact_there short server step places None = tt
exact_there short server step places (Some s) = exact_short short _ server step s

exact_act : (short : Bool) (who : Actor) (number : ℕ) (a : Act) (places : Places) → IsExact a (at_places short who number a places).1
exact_act short who number (Act.AtDirectory step) places = tt
exact_act short who number (Act.AtServer server step) places = exact_there short server step places (slice_get places.servers server)
exact_act short who number (Act.Finish outcome) places = tt

-- ---- the calls of an actor
record CallsLogged (script : Script) (work : Work) (calling : Calling) : Type 0 where
  in_work : (job : Job) → slice_get work.jobs (length calling.ended) ≡ Some job → Logged script job calling.told calling.takes
  ended : HaveLogs script work calling

-- what stands in a list with one more
pushed : {X : Type 0} (xs : List X) (x : X) (k : ℕ) (y : X) → slice_get (xs ++ x ∷ []) k ≡ Some y → (slice_get xs k ≡ Some y) ⊎ ((k ≡ length xs) × (x ≡ y))
pushed [] x zero y e = inr (refl, same_Some x y e)
pushed [] x (suc k) y e = absurd (none-some y e)
pushed (z ∷ xs) x zero y e = inl e
pushed {X} (z ∷ xs) x (suc k) y e = by (pushed xs x k y e)
  where
    by : (slice_get xs k ≡ Some y) ⊎ ((k ≡ length xs) × (x ≡ y)) → (slice_get xs k ≡ Some y) ⊎ ((suc k ≡ suc (length xs)) × (x ≡ y))
    by (inl h) = inl h
    by (inr h) = inr (ap suc h.0, h.1)

module _ (script : Script) (who : Actor) (work : Work) (job : Job) (calling : Calling) (places : Places) (at : AtWork script who job calling places) (is_job : slice_get work.jobs (length calling.ended) ≡ Some job)
    (shortages : Shortage) (logged : CallsLogged script work calling) where
  -- want of memory that is told first takes nothing
  first_logged : (coding has : Bool) → is_in_pass (next_act script.geometry (tries_of script) job calling.told) ≡ has → Logged script job (told_first coding has script.geometry job calling.told) calling.takes
  first_logged true true e =
      subst (Logged script job (tell script.geometry job calling.told Told.Short)) (short_takes (next_act script.geometry (tries_of script) job calling.told))
      (logged_more script job calling.told calling.takes Told.Short (logged.in_work job is_job) (in_pass_steps (next_act script.geometry (tries_of script) job calling.told) e)
      (short_exact (next_act script.geometry (tries_of script) job calling.told)))
    where
      short_takes : (a : Act) → take_from a Told.Short calling.takes ≡ calling.takes
      short_takes (Act.AtDirectory step) = refl
      short_takes (Act.AtServer server step) = refl
      short_takes (Act.Finish outcome) = refl

      short_exact : (a : Act) → IsExact a Told.Short
      short_exact (Act.AtDirectory step) = tt
      short_exact (Act.AtServer server (ServerStep.Fetch version layers)) = tt
      short_exact (Act.AtServer server step) = tt
      short_exact (Act.Finish outcome) = tt
  first_logged true false e = logged.in_work job is_job
  first_logged false has e = logged.in_work job is_job

  abbrev middle : List Told → List ℕ → Calling
  middle now takes = record { ended = calling.ended; told = now; takes = takes; steps = calling.steps + 1 }

  after_act : (now : List Told) (takes : List ℕ) → Logged script job now takes → (a : Act) → next_act script.geometry (tries_of script) job now ≡ a
      → CallsLogged script work (ended_by a (chunk_count script.geometry) (middle now takes))
  after_act now takes so (Act.AtDirectory step) e = record { in_work = λ other is_other. subst (λ j. Logged script j now takes) (same_Some job other (sym is_job ∙ is_other)) so; ended = logged.ended }
  after_act now takes so (Act.AtServer server step) e = record { in_work = λ other is_other. subst (λ j. Logged script j now takes) (same_Some job other (sym is_job ∙ is_other)) so; ended = logged.ended }
  after_act now takes so (Act.Finish outcome) e =
      record {
        in_work = λ other is_other. none_logged script other;
        ended = λ k other ended is_other is_ended. by k other ended is_other (pushed calling.ended (record { outcome = outcome; takes = takes }) k ended is_ended);
      }
    where
      ends : (answers : List Told) × EndedBy script job (record { outcome = outcome; takes = takes }) answers
      ends = (so.answers, record { log = so.log; ends = ap (next_act script.geometry (tries_of script) job) so.kept ∙ e; takes = so.taken })

      by : (k : ℕ) (other : Job) (ended : Ended) → slice_get work.jobs k ≡ Some other
          → (slice_get calling.ended k ≡ Some ended) ⊎ ((k ≡ length calling.ended) × (record { outcome = outcome; takes = takes } ≡ ended)) → (answers : List Told) × EndedBy script other ended answers
      by k other ended is_other (inl was) = logged.ended k other ended is_other was
      by k other ended is_other (inr new) =
          let same : job ≡ other = same_Some job other (sym is_job ∙ ap (slice_get work.jobs) (sym new.0) ∙ is_other) in
          subst (λ j. (answers : List Told) × EndedBy script j ended answers) same
          (subst (λ (x : Ended). (answers : List Told) × EndedBy script job x answers) new.1 ends)

  step_logged : CallsLogged script work (actor_step script.geometry (tries_of script) shortages who job calling places).1
  step_logged =
      let has_one : Bool = is_in_pass (next_act script.geometry (tries_of script) job calling.told) in
      let before : List Told = first script who job calling places at shortages.coding shortages.step in
      let made : Places × Told = after script who job calling places at shortages.coding shortages.step in
      let kind : FitsKind job.note.kind made.1 =
      act_kind script.geometry job (HasTry job.note.kind (tries_of script) before) shortages.step who (length calling.ended) places (act script who job calling places at shortages.coding shortages.step)
      (proper script who job calling places at shortages.coding shortages.step) (stands script who job calling places at shortages.coding shortages.step).pass in
      let next : IsToldNext script.geometry (size_of script) (tries_of script) job before made.1 =
      told_next script.geometry (size_of script) (tries_of script) job before made.1 (answered script who job calling places at shortages.coding shortages.step).answers kind in
      let now : Logged script job (tell script.geometry job before made.1) (take_from (act script who job calling places at shortages.coding shortages.step) made.1 calling.takes) =
      logged_more script job before calling.takes made.1 (first_logged shortages.coding has_one refl) next
      (exact_act shortages.step who (length calling.ended) (act script who job calling places at shortages.coding shortages.step) places) in
      after_act (tell script.geometry job before made.1) (take_from (act script who job calling places at shortages.coding shortages.step) made.1 calling.takes) now
      (next_act script.geometry (tries_of script) job (tell script.geometry job before made.1)) refl

-- ---- all actors
record Logs (script : Script) (past : List Token) (core : Core) : Type 0 where
  clients : (i : ℕ) (c : Calling) → slice_get core.clients i ≡ Some c → (work : Work) → slice_get (client_work script) i ≡ Some work → CallsLogged script work c
  repairers : (i : ℕ) (c : Calling) → slice_get core.repairers i ≡ Some c → (work : Work) → slice_get (repairer_work script) i ≡ Some work → CallsLogged script work c

module _ (script : Script) (can : CanRun script) where
  later : (past now : List Token) (core : Core) → Logs script past core → Logs script now core
  later past now core h = record { clients = h.clients; repairers = h.repairers }

  logs_kept : KeptBySteps script can (Logs script)
  logs_kept =
      record {
        quiet = λ past next core is_quiet h. later past (past ++ next ∷ []) core h;
        client = λ past core kept h i work calling job is_work is_calling is_job shortages.
            let at : AtWork script (actor.Client i) job calling (places_in core) = client_at script can core kept i work calling job is_work is_calling is_job in
            record {
              clients =
                  each_changed (λ j c. (w : Work) → slice_get (client_work script) j ≡ Some w → CallsLogged script w c) i calling
                  (actor_step script.geometry (tries_of script) shortages (actor.Client i) job calling (places_in core)).1 core.clients is_calling
                  (λ w is. subst (λ (x : Work). CallsLogged script x (actor_step script.geometry (tries_of script) shortages (actor.Client i) job calling (places_in core)).1) (same_Some work w (sym is_work ∙ is))
                  (step_logged script (actor.Client i) work job calling (places_in core) at is_job shortages (h.clients i calling is_calling work is_work)))
                  (λ j differ c e w is. h.clients j c e w is);
              repairers = h.repairers;
            };
        repairer = λ past core kept h i work calling job is_work is_calling is_job shortages.
            let at : AtWork script (actor.Repairer i) job calling (places_in core) = repairer_at script can core kept i work calling job is_work is_calling is_job in
            record {
              clients = h.clients;
              repairers =
                  each_changed (λ j c. (w : Work) → slice_get (repairer_work script) j ≡ Some w → CallsLogged script w c) i calling
                  (actor_step script.geometry (tries_of script) shortages (actor.Repairer i) job calling (places_in core)).1 core.repairers is_calling
                  (λ w is. subst (λ (x : Work). CallsLogged script x (actor_step script.geometry (tries_of script) shortages (actor.Repairer i) job calling (places_in core)).1) (same_Some work w (sym is_work ∙ is))
                  (step_logged script (actor.Repairer i) work job calling (places_in core) at is_job shortages (h.repairers i calling is_calling work is_work)))
                  (λ j differ c e w is. h.repairers j c e w is);
            };
        sweeper = λ past core kept h. record { clients = h.clients; repairers = h.repairers };
        wipe = λ past core kept h server. record { clients = h.clients; repairers = h.repairers };
        down = λ past core kept h server. record { clients = h.clients; repairers = h.repairers };
        up = λ past core kept h server. record { clients = h.clients; repairers = h.repairers };
        reap_client = λ past core kept h i. record { clients = h.clients; repairers = h.repairers };
        reap_repairer = λ past core kept h i. record { clients = h.clients; repairers = h.repairers };
      }

  fresh : (work : Work) (c : Calling) → new_calling (chunk_count script.geometry) ≡ c → CallsLogged script work c
  fresh work c e =
      subst (λ (x : Calling). CallsLogged script work x) e
      (record { in_work = λ job is_job. none_logged script job; ended = λ k job ended is_job is_ended. absurd (none-some ended is_ended) })

  first_logs : Logs script [] (first_core script)
  first_logs =
      record {
        clients = λ i c e work is. fresh work c (replicated (length script.clients) i (new_calling (chunk_count script.geometry)) c e);
        repairers = λ i c e work is. fresh work c (replicated (length script.repairers) i (new_calling (chunk_count script.geometry)) c e);
      }

pub calls_have_logs : CallsHaveLogs
calls_have_logs script shortages geometry valid tokens =
    let can : CanRun script = can_run script geometry valid in
    let end : RunKeeps script (run_core script shortages tokens) × Logs script tokens (run_core script shortages tokens) = run_has script can (Logs script) (logs_kept script can) shortages (first_logs script can) tokens in
    record {
      clients = λ i work calling is_work is_calling. (end.1.clients i calling is_calling work is_work).ended;
      repairers = λ i work calling is_work is_calling. (end.1.repairers i calling is_calling work is_work).ended;
    }
