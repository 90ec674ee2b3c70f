-- In every run what a call that was unavailable names is sure.
use Rattle.std.proofs.Common.{◌≡◌, ◌⊎◌, ℕ, zero, suc, ◌+◌, ◌^◌, ◌<◌, List, [], ◌∷◌, ◌++◌, length, Some, inl, inr, refl, sym, ap, subst, ◌∙◌}
use Rattle.std.proofs.lemmas.List.{append_assoc, append-nil}
use Rattle.std.proofs.lemmas.Option.{none-some, same_Some}
use Rattle.std.specs.List.{slice_get}
use Rattle.clay_grid.specs.Shape.{chunk_count}
use Rattle.store_map.specs.Limits.{tries_of}
use Rattle.store_map.specs.declared.actor.Actor.{Actor}
use Rattle.store_map.specs.declared.actor.Actor.TheVariants as actor
use Rattle.store_map.specs.declared.actor.Token.{Token}
use Rattle.store_map.specs.declared.actor.Token.TheVariants as token
use Rattle.store_map.specs.declared.script.Script.{Script}
use Rattle.store_core.specs.Act.{Act}
use Rattle.store_core.specs.Core.{Core, first_core}
use Rattle.store_core.specs.NextAct.{Job, next_act}
use Rattle.store_core.specs.Run.{places_in}
use Rattle.store_core.specs.Schedule.{run_core}
use Rattle.store_core.specs.Step.{Shortage, Places, take_from, ended_by, actor_step}
use Rattle.store_core.specs.Tell.{tell}
use Rattle.store_core.specs.Told.{Told}
use Rattle.store_core.specs.Work.{Ended, Work, Calling, new_calling, client_work, repairer_work}
use Rattle.run_laws.proofs.Runs.{CanRun}
use Rattle.run_laws.proofs.RunsSound.{RunKeeps}
use Rattle.run_laws.proofs.Scripts.{replicated}
use Rattle.history_laws.specs.HistoryLaws.{HasFewWipes}
use Rattle.history_laws.proofs.ActorLines.{each_changed}
use Rattle.history_laws.proofs.AtWork.{AtWork, client_at, repairer_at, first, act, after}
use Rattle.history_laws.proofs.Induction.{KeptBySteps, run_has}
use Rattle.history_laws.proofs.FoundEnded.{CallSure, OutcomeSure, step_ended, outcome_sure}
use Rattle.history_laws.proofs.LossesActs.{Heard}
use Rattle.history_laws.proofs.LossesRuns.{Holds, Has, runs_hold, first_holds}
use Rattle.history_laws.proofs.LossesServers.{wiped, made_away}

-- what stands in a list with one more
pub pushed : {X : Type 0} (xs : List X) (x : X) (k : ℕ) (y : X) → slice_get (xs ++ x ∷ []) k ≡ Some y → (slice_get xs k ≡ Some y) ⊎ (x ≡ y)
pushed [] x zero y e = inr (same_Some x y e)
pushed [] x (suc k) y e = absurd (none-some y e)
pushed (z ∷ xs) x zero y e = inl e
pushed (z ∷ xs) x (suc k) y e = pushed xs x k y e

-- ---- the calls of an actor
module _ (most downs : ℕ → ℕ) (script : Script) where
  pub record CallsSure (work : Work) (c : Calling) : Type 0 where
    pub in_work : (job : Job) → slice_get work.jobs (length c.ended) ≡ Some job → CallSure most downs script.geometry (tries_of script) job c.told
    pub ended : (number : ℕ) (e : Ended) → slice_get c.ended number ≡ Some e → OutcomeSure most downs script.geometry e.outcome

  module _ (who : Actor) (work : Work) (job : Job) (calling : Calling) (places : Places) (at : AtWork script who job calling places) (is_job : slice_get work.jobs (length calling.ended) ≡ Some job)
      (some : 0 < script.geometry.parity_count) (shortages : Shortage) (heard : Heard most downs script.geometry who job places calling.told) (sure : CallsSure work calling) where
    abbrev made : Places × Told
    made = after script who job calling places at shortages.coding shortages.step

    abbrev now : List Told
    now = tell script.geometry job (first script who job calling places at shortages.coding shortages.step) made.1

    abbrev taken : List ℕ
    taken = take_from (act script who job calling places at shortages.coding shortages.step) made.1 calling.takes

    sure_now : CallSure most downs script.geometry (tries_of script) job now
    sure_now = step_ended most downs script who job calling places at some shortages heard (sure.in_work job is_job)

    goes_on : (other : Job) → slice_get work.jobs (length calling.ended) ≡ Some other → CallSure most downs script.geometry (tries_of script) other now
    goes_on other e = subst (λ (j : Job). CallSure most downs script.geometry (tries_of script) j now) (same_Some job other (sym is_job ∙ e)) sure_now

    by_act : (a : Act) → next_act script.geometry (tries_of script) job now ≡ a → CallsSure work (ended_by a (chunk_count script.geometry) (record { ended = calling.ended; told = now; takes = taken; steps = calling.steps + 1 }))
    by_act (Act.AtDirectory step) e = record { in_work = goes_on; ended = sure.ended }
    by_act (Act.AtServer server step) e = record { in_work = goes_on; ended = sure.ended }
    by_act (Act.Finish outcome) e =
        record { in_work = λ other is none. absurd none; ended = λ number x is. two number x (pushed calling.ended (record { outcome = outcome; takes = taken }) number x is) }
      where
        two : (number : ℕ) (x : Ended) → (slice_get calling.ended number ≡ Some x) ⊎ (record { outcome = outcome; takes = taken } ≡ x) → OutcomeSure most downs script.geometry x.outcome
        two number x (inl is) = sure.ended number x is
        two number x (inr same) =
            subst (λ (y : Ended). OutcomeSure most downs script.geometry y.outcome) same
            (outcome_sure most downs script who job calling places at some shortages heard (sure.in_work job is_job) outcome e)

    step_sure : CallsSure work (actor_step script.geometry (tries_of script) shortages who job calling places).1
    step_sure = by_act (next_act script.geometry (tries_of script) job now) refl

  -- ---- all actors
  pub record AllSure (core : Core) : Type 0 where
    pub clients : (i : ℕ) (c : Calling) → slice_get core.clients i ≡ Some c → (work : Work) → slice_get (client_work script) i ≡ Some work → CallsSure work c
    pub repairers : (i : ℕ) (c : Calling) → slice_get core.repairers i ≡ Some c → (work : Work) → slice_get (repairer_work script) i ≡ Some work → CallsSure work c

-- ---- runs
module _ (script : Script) (can : CanRun script) (some : 0 < chunk_count script.geometry) (parity : 0 < script.geometry.parity_count) (all : List Token) (few : HasFewWipes all) where
  abbrev most : ℕ → ℕ
  most = wiped all

  abbrev downs : ℕ → ℕ
  downs = made_away all

  abbrev pub SureWhile : List Token → Core → Type 0
  SureWhile past core = (rest : List Token) → all ≡ past ++ rest → AllSure most downs script core

  abbrev pub Both : List Token → Core → Type 0
  Both past core = Has script can some all few past core × SureWhile past core

  next_so : (past : List Token) (next : Token) (rest : List Token) → all ≡ (past ++ next ∷ []) ++ rest → all ≡ past ++ (next ∷ rest)
  next_so past next rest is = is ∙ append_assoc past (next ∷ []) rest

  same_calls : (past : List Token) (next : Token) (core later : Core) → later.clients ≡ core.clients → later.repairers ≡ core.repairers → SureWhile past core → SureWhile (past ++ next ∷ []) later
  same_calls past next core later clients repairers sure rest is =
      let h : AllSure most downs script core = sure (next ∷ rest) (next_so past next rest is) in
      record {
        clients = λ i c e. h.clients i c (ap (λ (l : List Calling). slice_get l i) (sym clients) ∙ e);
        repairers = λ i c e. h.repairers i c (ap (λ (l : List Calling). slice_get l i) (sym repairers) ∙ e);
      }

  keeps : KeptBySteps script can (Has script can some all few)
  keeps = runs_hold script can some all few

  pub both_kept : KeptBySteps script can Both
  both_kept =
      record {
        quiet = λ past next core is_quiet h. (keeps.quiet past next core is_quiet h.0, same_calls past next core core refl refl h.1);
        client = λ past core kept h i work calling job is_work is_calling is_job shortages. (
          keeps.client past core kept h.0 i work calling job is_work is_calling is_job shortages,
          λ rest is.
              let holds : Holds script can some all few past core = h.0 rest is in
              let sure : AllSure most downs script core = h.1 rest is in
              let at : AtWork script (actor.Client i) job calling (places_in core) = client_at script can core kept i work calling job is_work is_calling is_job in
              record {
                clients =
                    each_changed (λ j c. (w : Work) → slice_get (client_work script) j ≡ Some w → CallsSure most downs script w c) i calling
                    (actor_step script.geometry (tries_of script) shortages (actor.Client i) job calling (places_in core)).1 core.clients is_calling
                    (λ w is_w. subst (λ (x : Work). CallsSure most downs script x (actor_step script.geometry (tries_of script) shortages (actor.Client i) job calling (places_in core)).1) (same_Some work w (sym is_work ∙ is_w))
                    (step_sure most downs script (actor.Client i) work job calling (places_in core) at is_job parity shortages (holds.clients i calling is_calling work job is_work is_job) (sure.clients i calling is_calling work is_work)))
                    (λ j differ c e w is_w. sure.clients j c e w is_w);
                repairers = sure.repairers;
              },
        );
        repairer = λ past core kept h i work calling job is_work is_calling is_job shortages. (
          keeps.repairer past core kept h.0 i work calling job is_work is_calling is_job shortages,
          λ rest is.
              let holds : Holds script can some all few past core = h.0 rest is in
              let sure : AllSure most downs script core = h.1 rest is in
              let at : AtWork script (actor.Repairer i) job calling (places_in core) = repairer_at script can core kept i work calling job is_work is_calling is_job in
              record {
                clients = sure.clients;
                repairers =
                    each_changed (λ j c. (w : Work) → slice_get (repairer_work script) j ≡ Some w → CallsSure most downs script w c) i calling
                    (actor_step script.geometry (tries_of script) shortages (actor.Repairer i) job calling (places_in core)).1 core.repairers is_calling
                    (λ w is_w. subst (λ (x : Work). CallsSure most downs script x (actor_step script.geometry (tries_of script) shortages (actor.Repairer i) job calling (places_in core)).1) (same_Some work w (sym is_work ∙ is_w))
                    (step_sure most downs script (actor.Repairer i) work job calling (places_in core) at is_job parity shortages (holds.repairers i calling is_calling work job is_work is_job) (sure.repairers i calling is_calling work is_work)))
                    (λ j differ c e w is_w. sure.repairers j c e w is_w);
              },
        );
        sweeper = λ past core kept h. (keeps.sweeper past core kept h.0, λ rest is. let s : AllSure most downs script core = h.1 rest is in record { clients = s.clients; repairers = s.repairers });
        wipe = λ past core kept h server. (keeps.wipe past core kept h.0 server, same_calls past (token.Wipe server) core _ refl refl h.1);
        down = λ past core kept h server. (keeps.down past core kept h.0 server, same_calls past (token.Down server) core _ refl refl h.1);
        up = λ past core kept h server. (keeps.up past core kept h.0 server, same_calls past (token.Up server) core _ refl refl h.1);
        reap_client = λ past core kept h i. (keeps.reap_client past core kept h.0 i, same_calls past (token.ReapClient i) core _ refl refl h.1);
        reap_repairer = λ past core kept h i. (keeps.reap_repairer past core kept h.0 i, same_calls past (token.ReapRepairer i) core _ refl refl h.1);
      }

  fresh : (work : Work) (c : Calling) → new_calling (chunk_count script.geometry) ≡ c → CallsSure most downs script work c
  fresh work c e = subst (λ (x : Calling). CallsSure most downs script work x) e (record { in_work = λ job is none. absurd none; ended = λ number x is. absurd (none-some x is) })

  pub both_first : Both [] (first_core script)
  both_first = (
    first_holds script can some all few,
    λ rest is. record {
      clients = λ i c e work is_work. fresh work c (replicated (length script.clients) i (new_calling (chunk_count script.geometry)) c e);
      repairers = λ i c e work is_work. fresh work c (replicated (length script.repairers) i (new_calling (chunk_count script.geometry)) c e);
    },
  )

  -- so at the end of every run
  pub all_sure : (shortages : List Shortage) → AllSure most downs script (run_core script shortages all)
  all_sure shortages =
      let end : RunKeeps script (run_core script shortages all) × Both all (run_core script shortages all) = run_has script can Both both_kept shortages both_first all in
      end.1.1 [] (sym (append-nil all))
