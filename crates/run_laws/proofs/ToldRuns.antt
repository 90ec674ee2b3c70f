-- What a run tells a call is what the call can be told, step by step.
use Rattle.std.proofs.Common.{◌≡◌, ◌⊎◌, ℕ, zero, suc, ◌+◌, ◌<◌, Bool, true, false, List, [], ◌∷◌, ◌++◌, length, drop, fold, replicate, Option, None, Some, refl, sym, ap, subst, ◌∙◌, inl, inr}
use Rattle.std.proofs.lemmas.Bool.{cases_eq}
use Rattle.std.proofs.lemmas.Option.{none-some, same_Some}
use Rattle.std.proofs.lemmas.List.Sums.{fold-append}
use Rattle.std.specs.List.{slice_get}
use Rattle.clay_grid.specs.Shape.{Shape, chunk_count, stripe_length}
use Rattle.store_map.specs.Limits.{size_of, tries_of}
use Rattle.store_map.specs.declared.actor.Actor.{Actor}
use Rattle.store_map.specs.declared.actor.Actor.TheVariants as actor
use Rattle.store_map.specs.declared.actor.Token.{Token}
use Rattle.store_map.specs.declared.actor.Token.TheVariants as token
use Rattle.store_map.specs.declared.script.Script.{Script}
use Rattle.store_core.specs.Lists.{change_at}
use Rattle.store_core.specs.Told.{Told}
use Rattle.store_core.specs.Act.{Act}
use Rattle.store_core.specs.ActPlace.{is_in_pass}
use Rattle.store_core.specs.CallStep.{job_step, step_if, step_of}
use Rattle.store_core.specs.NextAct.{Job, next_act}
use Rattle.store_core.specs.Run.{Run, first_shortage, places_in, after_client, after_repairer, client_step, repairer_step, sweeper_step, operator_step}
use Rattle.store_core.specs.Schedule.{run_core}
use Rattle.store_core.specs.Step.{Shortage, Places, at_places, told_first, take_from, ended_by, actor_step}
use Rattle.store_core.specs.Tell.{tell}
use Rattle.store_core.specs.Work.{Ended, Work, Calling, new_calling, client_work, repairer_work, has_step}
use Rattle.run_laws.specs.AnswersByKind.{FitsKind}
use Rattle.run_laws.specs.StepLaws.{HasTarget}
use Rattle.run_laws.specs.ToldInSteps.{IsToldNext, AreToldSince}
use Rattle.run_laws.proofs.InSteps.{told_next}
use Rattle.store_core.proofs.Places.{slice_get-change_at}
use Rattle.run_laws.specs.ToldLaws.{WasToldSo, EndedSo, CallsWereTold, GroupWasTold, AllWereTold, CallsAreTold}
use Rattle.run_laws.proofs.ActKinds.{act_kind, in_pass_steps}
use Rattle.run_laws.proofs.ActAnswers.{FitPlaces, Answered, act_answered}
use Rattle.run_laws.proofs.ActorSteps.{Stands, InWork, CallKept, ToldFirst, first_told}
use Rattle.run_laws.proofs.Drains.{start}
use Rattle.run_laws.proofs.Groups.{GroupKept, IsGroup, drop_here, slice_changed}
use Rattle.run_laws.proofs.Invariants.{IsAllowed, tokens_hold}
use Rattle.run_laws.proofs.Proper.{IsProper, HasTry, acts_proper}
use Rattle.run_laws.proofs.Runs.{CanRun, fit_places}
use Rattle.run_laws.proofs.RunsSound.{RunKeeps, first_kept}
use Rattle.run_laws.proofs.Scripts.{can_run, replicated}

-- ---- one answer more
module _ (g : Shape) (most tries : ℕ) (job : Job) where
  since_more : (told answers : List Told) (answer : Told) → AreToldSince g most tries job told answers → IsToldNext g most tries job (fold (tell g job) told answers) answer
      → AreToldSince g most tries job told (answers ++ answer ∷ [])
  since_more told [] answer so next = (next, tt)
  since_more told (first ∷ answers) answer so next = (so.0, since_more (tell g job told first) answers answer so.1 next)

told_more : (script : Script) (job : Job) (told : List Told) (answer : Told) → WasToldSo script job told → IsToldNext script.geometry (size_of script) (tries_of script) job told answer
    → WasToldSo script job (tell script.geometry job told answer)
told_more script job told answer so next =
    record {
      answers = so.answers ++ answer ∷ [];
      are_told =
          since_more script.geometry (size_of script) (tries_of script) job [] so.answers answer so.are_told
          (subst (λ t. IsToldNext script.geometry (size_of script) (tries_of script) job t answer) (sym so.kept) next);
      kept = fold-append (tell script.geometry job) [] so.answers (answer ∷ []) ∙ ap (λ t. tell script.geometry job t answer) so.kept;
    }

-- what stands in a list with one more
pushed : {X : Type 0} (xs : List X) (x : X) (k : ℕ) (y : X) → slice_get (xs ++ x ∷ []) k ≡ Some y → (slice_get xs k ≡ Some y) ⊎ ((k ≡ length xs) × (x ≡ y))
pushed [] x zero y e = inr (refl, same_Some x y e)
pushed [] x (suc k) y e = absurd (none-some y e)
pushed (z ∷ xs) x zero y e = inl e
pushed {X} (z ∷ xs) x (suc k) y e = by (pushed xs x k y e)
  where
    by : (slice_get xs k ≡ Some y) ⊎ ((k ≡ length xs) × (x ≡ y)) → (slice_get xs k ≡ Some y) ⊎ ((suc k ≡ suc (length xs)) × (x ≡ y))
    by (inl h) = inl h
    by (inr h) = inr (ap suc h.0, h.1)

-- ---- one step of an actor
module _ (script : Script) (some : 0 < stripe_length script.geometry) (who : Actor) (work : Work) (calling : Calling) (job : Job) (target : HasTarget script.geometry job)
    (is_job : slice_get work.jobs (length calling.ended) ≡ Some job) (places : Places) (fit : FitPlaces script.geometry (size_of script) places)
    (stands : Stands script.geometry (tries_of script) job who calling.told places.directory) (told : CallsWereTold script work calling) where
  -- want of memory that is told first
  first_so : (coding has : Bool) → is_in_pass (next_act script.geometry (tries_of script) job calling.told) ≡ has → WasToldSo script job (told_first coding has script.geometry job calling.told)
  first_so true true e =
      told_more script job calling.told Told.Short (told.in_work job is_job) (in_pass_steps (next_act script.geometry (tries_of script) job calling.told) e)
  first_so true false e = told.in_work job is_job
  first_so false has e = told.in_work job is_job

  -- the actor then
  abbrev middle : List Told → List ℕ → Calling
  middle now takes = record { ended = calling.ended; told = now; takes = takes; steps = calling.steps + 1 }

  after_act : (now : List Told) (takes : List ℕ) → WasToldSo script job now → (act : Act) → next_act script.geometry (tries_of script) job now ≡ act
      → CallsWereTold script work (ended_by act (chunk_count script.geometry) (middle now takes))
  after_act now takes so (Act.AtDirectory step) e = record { in_work = λ other is_other. subst (λ j. WasToldSo script j now) (same_Some job other (sym is_job ∙ is_other)) so; ended = told.ended }
  after_act now takes so (Act.AtServer server step) e = record { in_work = λ other is_other. subst (λ j. WasToldSo script j now) (same_Some job other (sym is_job ∙ is_other)) so; ended = told.ended }
  after_act now takes so (Act.Finish outcome) e =
      record {
        in_work = λ other is_other. record { answers = []; are_told = tt; kept = refl };
        ended = λ k other ended is_other is_ended. by k other ended is_other (pushed calling.ended (record { outcome = outcome; takes = takes }) k ended is_ended);
      }
    where
      ends : EndedSo script job outcome
      ends =
          record {
            answers = so.answers;
            are_told = so.are_told;
            ends = ap (next_act script.geometry (tries_of script) job) so.kept ∙ e;
          }

      by : (k : ℕ) (other : Job) (ended : Ended) → slice_get work.jobs k ≡ Some other
          → (slice_get calling.ended k ≡ Some ended) ⊎ ((k ≡ length calling.ended) × (record { outcome = outcome; takes = takes } ≡ ended)) → EndedSo script other ended.outcome
      by k other ended is_other (inl was) = told.ended k other ended is_other was
      by k other ended is_other (inr new) =
          let same : job ≡ other = same_Some job other (sym is_job ∙ ap (slice_get work.jobs) (sym new.0) ∙ is_other) in
          subst (λ j. EndedSo script j ended.outcome) same (subst (λ (x : Ended). EndedSo script job x.outcome) new.1 ends)

  -- one step
  step_told : (shortages : Shortage) → CallsWereTold script work (actor_step script.geometry (tries_of script) shortages who job calling places).1
  step_told shortages =
      let has_one : Bool = is_in_pass (next_act script.geometry (tries_of script) job calling.told) in
      let first : List Told = told_first shortages.coding has_one script.geometry job calling.told in
      let first_is : ToldFirst script.geometry (size_of script) (tries_of script) job who calling.told first places.directory =
      first_told script.geometry (size_of script) (tries_of script) job target who calling.told places.directory stands shortages.coding has_one refl in
      let act : Act = next_act script.geometry (tries_of script) job first in
      let proper : IsProper script.geometry job (HasTry job.note.kind (tries_of script) first) act = acts_proper script.geometry (tries_of script) job target first in
      let after : Places × Told = at_places shortages.step who (length calling.ended) act places in
      let answered : Answered script.geometry (size_of script) job act after.1 =
      act_answered script.geometry (size_of script) some job (HasTry job.note.kind (tries_of script) first) shortages.step who (length calling.ended) places fit act proper first_is.stands.going first_is.stands.pass in
      let kind : FitsKind job.note.kind after.1 = act_kind script.geometry job (HasTry job.note.kind (tries_of script) first) shortages.step who (length calling.ended) places act proper first_is.stands.pass in
      let now : WasToldSo script job (tell script.geometry job first after.1) =
      told_more script job first after.1 (first_so shortages.coding has_one refl) (told_next script.geometry (size_of script) (tries_of script) job first after.1 answered.answers kind) in
      after_act (tell script.geometry job first after.1) (take_from act after.1 calling.takes) now (next_act script.geometry (tries_of script) job (tell script.geometry job first after.1)) refl

-- ---- the actors of one kind
module _ (script : Script) (who_of : ℕ → Actor) (works : List Work) (group : IsGroup script who_of works) (some : 0 < stripe_length script.geometry) (callings : List Calling) (places : Places)
    (fit : FitPlaces script.geometry (size_of script) places) (kept : GroupKept script who_of works callings places.directory) (told : GroupWasTold script works callings) (i : ℕ) (shortages : Shortage) where
  abbrev After : Option (Places × Calling) → Type 0
  After None = Unit {0}
  After (Some after) = GroupWasTold script works (change_at i (λ _. after.1) callings)

  all_told : (work : Work) (calling new : Calling) → slice_get works i ≡ Some work → slice_get callings i ≡ Some calling → CallsWereTold script work new → GroupWasTold script works (change_at i (λ _. new) callings)
  all_told work calling new is_work is_calling so j other_work other_calling is_other_work is_other_calling = by (cases_eq i j)
    where
      by : (i ≡ j) ⊎ (i ≡ j → ⊥) → CallsWereTold script other_work other_calling
      by (inl same) =
          let is_new : slice_get (change_at i (λ _. new) callings) j ≡ Some new =
          subst (λ n. slice_get (change_at i (λ _. new) callings) n ≡ Some new) same (slice_changed i calling new callings is_calling) in
          let same_calling : new ≡ other_calling = same_Some new other_calling (sym is_new ∙ is_other_calling) in
          let same_work : work ≡ other_work = same_Some work other_work (sym (subst (λ n. slice_get works n ≡ Some work) same is_work) ∙ is_other_work) in
          subst (λ (w : Work). CallsWereTold script w other_calling) same_work (subst (λ (c : Calling). CallsWereTold script work c) same_calling so)
      by (inr differ) = told j other_work other_calling is_other_work (sym (slice_get-change_at i j (λ _. new) callings (λ e. differ (sym e))) ∙ is_other_calling)

  with_job : (work : Work) (calling : Calling) → slice_get works i ≡ Some work → slice_get callings i ≡ Some calling → (found : Option Job) → slice_get work.jobs (length calling.ended) ≡ found
      → After (job_step script shortages (who_of i) calling places found)
  with_job work calling is_work is_calling None e = tt
  with_job work calling is_work is_calling (Some job) e =
      let ahead : drop (length calling.ended) work.jobs ≡ job ∷ drop (suc (length calling.ended)) work.jobs = drop_here work.jobs (length calling.ended) job e in
      let in_work : InWork script.geometry (size_of script) (tries_of script) job (who_of i) calling places.directory =
      subst (λ l. CallKept script.geometry (size_of script) (tries_of script) (who_of i) l calling places.directory) ahead (kept i work calling is_work is_calling) in
      all_told work calling (actor_step script.geometry (tries_of script) shortages (who_of i) job calling places).1 is_work is_calling
      (step_told script some (who_of i) work calling job (group.targets i work is_work (length calling.ended) job e) e places fit in_work.stands (told i work calling is_work is_calling) shortages)

  if_step : (work : Work) (calling : Calling) → slice_get works i ≡ Some work → slice_get callings i ≡ Some calling → (b : Bool) → After (step_if b script shortages (who_of i) work calling places)
  if_step work calling is_work is_calling true = with_job work calling is_work is_calling (slice_get work.jobs (length calling.ended)) refl
  if_step work calling is_work is_calling false = tt

  stepped : (work : Option Work) (calling : Option Calling) → slice_get works i ≡ work → slice_get callings i ≡ calling → After (step_of script shortages (who_of i) work calling places)
  stepped (Some work) (Some calling) e k = if_step work calling e k (has_step work calling)
  stepped (Some work) None e k = tt
  stepped None calling e k = tt

-- ---- a run
module _ (script : Script) (shortages : List Shortage) (can : CanRun script) where
  client_told : (run : Run) (i : ℕ) → RunKeeps script run.core → AllWereTold script run.core → AllWereTold script (client_step script i run).core
  client_told run i state told =
      done (step_of script (first_shortage run.shortages) (actor.Client i) (slice_get (client_work script) i) (slice_get run.core.clients i) (places_in run.core))
      (stepped script actor.Client (client_work script) can.clients can.some run.core.clients (places_in run.core) (fit_places script run.core state.keeps state.sound) state.keeps.clients told.clients i (first_shortage run.shortages)
      (slice_get (client_work script) i) (slice_get run.core.clients i) refl refl)
    where
      done : (found : Option (Places × Calling))
          → After script actor.Client (client_work script) can.clients can.some run.core.clients (places_in run.core) (fit_places script run.core state.keeps state.sound) state.keeps.clients told.clients i (first_shortage run.shortages) found
          → AllWereTold script (after_client i run found).core
      done None h = told
      done (Some after) h = record { clients = h; repairers = told.repairers }

  repairer_told : (run : Run) (i : ℕ) → RunKeeps script run.core → AllWereTold script run.core → AllWereTold script (repairer_step script i run).core
  repairer_told run i state told =
      done (step_of script (first_shortage run.shortages) (actor.Repairer i) (slice_get (repairer_work script) i) (slice_get run.core.repairers i) (places_in run.core))
      (stepped script actor.Repairer (repairer_work script) can.repairers can.some run.core.repairers (places_in run.core) (fit_places script run.core state.keeps state.sound) state.keeps.repairers told.repairers i (first_shortage run.shortages)
      (slice_get (repairer_work script) i) (slice_get run.core.repairers i) refl refl)
    where
      done : (found : Option (Places × Calling))
          → After script actor.Repairer (repairer_work script) can.repairers can.some run.core.repairers (places_in run.core) (fit_places script run.core state.keeps state.sound) state.keeps.repairers told.repairers i (first_shortage run.shortages) found
          → AllWereTold script (after_repairer i run found).core
      done None h = told
      done (Some after) h = record { clients = told.clients; repairers = h }

  sweeper_told : (run : Run) → RunKeeps script run.core → AllWereTold script run.core → AllWereTold script (sweeper_step script run).core
  sweeper_told run state told = record { clients = told.clients; repairers = told.repairers }

  abbrev Any : Act → Type 0
  Any act = Unit {0}

  operator_told : (run : Run) (act : Act) → Any act → AllWereTold script run.core → AllWereTold script (operator_step act run).core
  operator_told run act any told = record { clients = told.clients; repairers = told.repairers }

  -- any token is allowed
  allowed : (token : Token) → IsAllowed script shortages can (AllWereTold script) Any client_told repairer_told sweeper_told operator_told token
  allowed (token.Client i) = tt
  allowed (token.Repairer i) = tt
  allowed token.Sweep = tt
  allowed (token.Wipe server) = tt
  allowed (token.Down server) = tt
  allowed (token.Up server) = tt
  allowed (token.ReapClient i) = tt
  allowed (token.ReapRepairer i) = tt
  allowed token.Drain = tt

  -- before the first step
  all_new : (works : List Work) (count : ℕ) → GroupWasTold script works (replicate count (new_calling (chunk_count script.geometry)))
  all_new works count i work calling is_work is_calling =
      subst (λ (c : Calling). CallsWereTold script work c) (replicated count i (new_calling (chunk_count script.geometry)) calling is_calling)
      (record { in_work = λ job is_job. record { answers = []; are_told = tt; kept = refl }; ended = λ k job ended is_job is_ended. absurd (none-some ended is_ended) })

  told_after : (tokens : List Token) → AllWereTold script (run_core script shortages tokens)
  told_after tokens =
      (tokens_hold script shortages can (AllWereTold script) Any client_told repairer_told sweeper_told operator_told tokens (start script shortages can) (λ k token less. allowed _)
      (record {
        state = first_kept script can;
        holds = record { clients = all_new (client_work script) (length script.clients); repairers = all_new (repairer_work script) (length script.repairers) };
      })).holds

pub calls_are_told : CallsAreTold
calls_are_told script shortages geometry valid = told_after script shortages (can_run script geometry valid)
