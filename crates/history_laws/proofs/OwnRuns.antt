-- In every run what a rebuild's result names is its own.
use Rattle.std.proofs.Common.{◌≡◌, ◌⊎◌, ℕ, zero, suc, ◌+◌, ◌^◌, ◌<◌, List, [], ◌∷◌, ◌++◌, length, Some, inl, inr, refl, sym, ap, subst, ◌∙◌}
use Rattle.std.proofs.lemmas.List.{append_assoc, append-nil}
use Rattle.std.proofs.lemmas.Option.{none-some, same_Some}
use Rattle.std.specs.List.{slice_get}
use Rattle.clay_grid.specs.Shape.{chunk_count}
use Rattle.store_map.specs.Limits.{tries_of}
use Rattle.store_map.specs.declared.actor.Actor.TheVariants as actor
use Rattle.store_map.specs.declared.actor.Token.{Token}
use Rattle.store_map.specs.declared.actor.Token.TheVariants as token
use Rattle.store_map.specs.declared.script.Script.{Script}
use Rattle.store_core.specs.Act.{Act}
use Rattle.store_core.specs.Core.{Core, first_core}
use Rattle.store_core.specs.NextAct.{Job, next_act}
use Rattle.store_core.specs.Run.{places_in}
use Rattle.store_core.specs.Schedule.{run_core}
use Rattle.store_core.specs.Step.{Shortage, Places, take_from, ended_by, actor_step}
use Rattle.store_core.specs.Tell.{tell}
use Rattle.store_core.specs.Told.{Told}
use Rattle.store_core.specs.Work.{Ended, Work, Calling, new_calling, repairer_work}
use Rattle.run_laws.proofs.Runs.{CanRun}
use Rattle.run_laws.proofs.RunsSound.{RunKeeps}
use Rattle.run_laws.proofs.Scripts.{replicated}
use Rattle.history_laws.specs.HistoryLaws.{HasFewWipes}
use Rattle.history_laws.proofs.ActorLines.{each_changed}
use Rattle.history_laws.proofs.AtWork.{AtWork, repairer_at, first, act, after}
use Rattle.history_laws.proofs.Induction.{KeptBySteps, run_has}
use Rattle.history_laws.proofs.FoundEnded.{CallSure}
use Rattle.history_laws.proofs.FoundOwn.{OwnTold, OwnOutcome, own_now, own_outcome}
use Rattle.history_laws.proofs.FoundRuns.{AllSure, Both, both_kept, both_first}
use Rattle.history_laws.proofs.LossesActs.{Heard, AllServers}
use Rattle.history_laws.proofs.LossesRuns.{Holds, all_servers}
use Rattle.history_laws.proofs.LossesServers.{wiped, made_away}

-- what stands in a list with one more
last_or : {X : Type 0} (xs : List X) (x : X) (k : ℕ) (y : X) → slice_get (xs ++ x ∷ []) k ≡ Some y → (slice_get xs k ≡ Some y) ⊎ ((k ≡ length xs) × (x ≡ y))
last_or [] x zero y e = inr (refl, same_Some x y e)
last_or [] x (suc k) y e = absurd (none-some y e)
last_or (z ∷ xs) x zero y e = inl e
last_or {X} (z ∷ xs) x (suc k) y e = by (last_or xs x k y e)
  where
    by : (slice_get xs k ≡ Some y) ⊎ ((k ≡ length xs) × (x ≡ y)) → (slice_get xs k ≡ Some y) ⊎ ((suc k ≡ suc (length xs)) × (x ≡ y))
    by (inl h) = inl h
    by (inr h) = inr (ap suc h.0, h.1)

-- ---- the calls of a repairer
module _ (most downs : ℕ → ℕ) (script : Script) where
  pub record CallsOwn (work : Work) (c : Calling) : Type 0 where
    pub in_work : (job : Job) → slice_get work.jobs (length c.ended) ≡ Some job → OwnTold most downs job c.told
    pub ended : (number : ℕ) (job : Job) (e : Ended) → slice_get work.jobs number ≡ Some job → slice_get c.ended number ≡ Some e → OwnOutcome most downs job e.outcome

  none_told : (job : Job) → OwnTold most downs job []
  none_told job = record { stripe = λ seen h. absurd h; away = λ count h. absurd h }

  module _ (i : ℕ) (work : Work) (job : Job) (calling : Calling) (places : Places) (at : AtWork script (actor.Repairer i) job calling places) (is_job : slice_get work.jobs (length calling.ended) ≡ Some job)
      (some : 0 < script.geometry.parity_count) (shortages : Shortage) (heard : Heard most downs script.geometry (actor.Repairer i) job places calling.told) (servers : AllServers most downs places.servers)
      (sure : CallSure most downs script.geometry (tries_of script) job calling.told) (own : CallsOwn work calling) where
    abbrev made : Places × Told
    made = after script (actor.Repairer i) job calling places at shortages.coding shortages.step

    abbrev now : List Told
    now = tell script.geometry job (first script (actor.Repairer i) job calling places at shortages.coding shortages.step) made.1

    abbrev taken : List ℕ
    taken = take_from (act script (actor.Repairer i) job calling places at shortages.coding shortages.step) made.1 calling.takes

    told_now : OwnTold most downs job now
    told_now = own_now most downs script (actor.Repairer i) job calling places at some shortages heard at.fits servers sure (own.in_work job is_job)

    goes_on : (other : Job) → slice_get work.jobs (length calling.ended) ≡ Some other → OwnTold most downs other now
    goes_on other e = subst (λ (j : Job). OwnTold most downs j now) (same_Some job other (sym is_job ∙ e)) told_now

    by_act : (a : Act) → next_act script.geometry (tries_of script) job now ≡ a → CallsOwn work (ended_by a (chunk_count script.geometry) (record { ended = calling.ended; told = now; takes = taken; steps = calling.steps + 1 }))
    by_act (Act.AtDirectory step) e = record { in_work = goes_on; ended = own.ended }
    by_act (Act.AtServer server step) e = record { in_work = goes_on; ended = own.ended }
    by_act (Act.Finish outcome) e =
        record { in_work = λ other is. none_told other; ended = λ number other x is_other is. two number other x is_other (last_or calling.ended (record { outcome = outcome; takes = taken }) number x is) }
      where
        two : (number : ℕ) (other : Job) (x : Ended) → slice_get work.jobs number ≡ Some other
            → (slice_get calling.ended number ≡ Some x) ⊎ ((number ≡ length calling.ended) × (record { outcome = outcome; takes = taken } ≡ x)) → OwnOutcome most downs other x.outcome
        two number other x is_other (inl is) = own.ended number other x is_other is
        two number other x is_other (inr h) =
            let same : job ≡ other = same_Some job other (sym is_job ∙ ap (slice_get work.jobs) (sym h.0) ∙ is_other) in
            subst (λ (j : Job). OwnOutcome most downs j x.outcome) same
            (subst (λ (y : Ended). OwnOutcome most downs job y.outcome) h.1
            (own_outcome most downs script (actor.Repairer i) job calling places at some shortages heard at.fits servers sure (own.in_work job is_job) outcome e))

    step_own : CallsOwn work (actor_step script.geometry (tries_of script) shortages (actor.Repairer i) job calling places).1
    step_own = by_act (next_act script.geometry (tries_of script) job now) refl

  -- ---- all of them
  abbrev pub AllOwn : Core → Type 0
  AllOwn core = (i : ℕ) (c : Calling) → slice_get core.repairers i ≡ Some c → (work : Work) → slice_get (repairer_work script) i ≡ Some work → CallsOwn work c

-- ---- runs
module _ (script : Script) (can : CanRun script) (some : 0 < chunk_count script.geometry) (parity : 0 < script.geometry.parity_count) (all : List Token) (few : HasFewWipes all) where
  abbrev most : ℕ → ℕ
  most = wiped all

  abbrev downs : ℕ → ℕ
  downs = made_away all

  abbrev OwnWhile : List Token → Core → Type 0
  OwnWhile past core = (rest : List Token) → all ≡ past ++ rest → AllOwn most downs script core

  abbrev Three : List Token → Core → Type 0
  Three past core = Both script can some parity all few past core × OwnWhile past core

  keeps : KeptBySteps script can (Both script can some parity all few)
  keeps = both_kept script can some parity all few

  three_kept : KeptBySteps script can Three
  three_kept =
      record {
        quiet = λ past next core is_quiet h. (keeps.quiet past next core is_quiet h.0, λ rest is. h.1 (next ∷ rest) (is ∙ append_assoc past (next ∷ []) rest));
        client = λ past core kept h i work calling job is_work is_calling is_job shortages. (keeps.client past core kept h.0 i work calling job is_work is_calling is_job shortages, λ rest is. h.1 rest is);
        repairer = λ past core kept h i work calling job is_work is_calling is_job shortages. (
          keeps.repairer past core kept h.0 i work calling job is_work is_calling is_job shortages,
          λ rest is.
              let holds : Holds script can some all few past core = h.0.0 rest is in
              let sure : AllSure most downs script core = h.0.1 rest is in
              let own : AllOwn most downs script core = h.1 rest is in
              let at : AtWork script (actor.Repairer i) job calling (places_in core) = repairer_at script can core kept i work calling job is_work is_calling is_job in
              each_changed (λ j c. (w : Work) → slice_get (repairer_work script) j ≡ Some w → CallsOwn most downs script w c) i calling
              (actor_step script.geometry (tries_of script) shortages (actor.Repairer i) job calling (places_in core)).1 core.repairers is_calling
              (λ w is_w. subst (λ (x : Work). CallsOwn most downs script x (actor_step script.geometry (tries_of script) shortages (actor.Repairer i) job calling (places_in core)).1) (same_Some work w (sym is_work ∙ is_w))
              (step_own most downs script i work job calling (places_in core) at is_job parity shortages (holds.repairers i calling is_calling work job is_work is_job)
              (all_servers script can some all few past rest core.servers is holds.servers) ((sure.repairers i calling is_calling work is_work).in_work job is_job) (own i calling is_calling work is_work)))
              (λ j differ c e w is_w. own j c e w is_w),
        );
        sweeper = λ past core kept h. (keeps.sweeper past core kept h.0, λ rest is. h.1 rest is);
        wipe = λ past core kept h server. (keeps.wipe past core kept h.0 server, λ rest is. h.1 (token.Wipe server ∷ rest) (is ∙ append_assoc past (token.Wipe server ∷ []) rest));
        down = λ past core kept h server. (keeps.down past core kept h.0 server, λ rest is. h.1 (token.Down server ∷ rest) (is ∙ append_assoc past (token.Down server ∷ []) rest));
        up = λ past core kept h server. (keeps.up past core kept h.0 server, λ rest is. h.1 (token.Up server ∷ rest) (is ∙ append_assoc past (token.Up server ∷ []) rest));
        reap_client = λ past core kept h i. (keeps.reap_client past core kept h.0 i, λ rest is. h.1 (token.ReapClient i ∷ rest) (is ∙ append_assoc past (token.ReapClient i ∷ []) rest));
        reap_repairer = λ past core kept h i. (keeps.reap_repairer past core kept h.0 i, λ rest is. h.1 (token.ReapRepairer i ∷ rest) (is ∙ append_assoc past (token.ReapRepairer i ∷ []) rest));
      }

  fresh : (work : Work) (c : Calling) → new_calling (chunk_count script.geometry) ≡ c → CallsOwn most downs script work c
  fresh work c e =
      subst (λ (x : Calling). CallsOwn most downs script work x) e
      (record { in_work = λ job is. none_told most downs script job; ended = λ number job x is_job is. absurd (none-some x is) })

  three_first : Three [] (first_core script)
  three_first = (both_first script can some parity all few, λ rest is i c e work is_work. fresh work c (replicated (length script.repairers) i (new_calling (chunk_count script.geometry)) c e))

  -- so at the end of every run
  pub all_own : (shortages : List Shortage) → AllOwn most downs script (run_core script shortages all)
  all_own shortages =
      let end : RunKeeps script (run_core script shortages all) × Three all (run_core script shortages all) = run_has script can Three three_kept shortages three_first all in
      end.1.1 [] (sym (append-nil all))
