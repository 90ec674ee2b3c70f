-- In every run an actor is told no more often that it was given up than the operator gave it up.
use Rattle.std.proofs.Common.{◌≡◌, ℕ, ◌+◌, ◌<◌, ◌≤◌, Bool, true, false, ◌&&◌, cond, nat_eq, nat_lt, List, [], ◌∷◌, ◌++◌, length, filter, sum_by, Option, None, Some, refl, sym, ap, subst, ◌∙◌, inl, inr, ◌⊎◌, arith, length-append}
use Rattle.std.proofs.lemmas.Bool.{cond_both, eqb-true}
use Rattle.std.proofs.lemmas.List.Elements.{filter-append}
use Rattle.std.proofs.lemmas.List.Sums.{sum_by-cons, sum_by-append}
use Rattle.std.specs.List.{slice_get}
use Rattle.clay_grid.specs.Shape.{Shape, chunk_count}
use Rattle.store_map.specs.Limits.{size_of, tries_of}
use Rattle.store_map.specs.declared.actor.Actor.{Actor}
use Rattle.store_map.specs.declared.actor.Actor.TheVariants as actor
use Rattle.store_map.specs.declared.actor.Token.{Token}
use Rattle.store_map.specs.declared.actor.Token.TheVariants as token
use Rattle.store_map.specs.declared.script.Script.{Script}
use Rattle.store_map.specs.declared.cause.Cause.TheVariants as cause
use Rattle.store_map.specs.declared.cause.RepairResult.TheVariants as result
use Rattle.store_map.specs.declared.line.XLine.{XLine}
use Rattle.store_map.specs.declared.line.RLine.{RLine}
use Rattle.store_core.specs.Act.{Act, DirectoryStep, ServerStep, Outcome}
use Rattle.store_core.specs.Core.{Core, first_core}
use Rattle.store_core.specs.Directory.{Directory}
use Rattle.store_core.specs.Lookups.{same_actor, pass_of, first_garbage}
use Rattle.store_core.specs.NextAct.{Job, next_act}
use Rattle.store_core.specs.Outcomes.{cause_of, result_of}
use Rattle.store_core.specs.Run.{places_in}
use Rattle.store_core.specs.Schedule.{run_core}
use Rattle.store_core.specs.Server.{Server}
use Rattle.store_core.specs.Shown.{refused_line, repair_line, lines_of_ended, lines_of_actors}
use Rattle.store_core.specs.Step.{Shortage, Places, at_places, at_server_there, told_first, take_from, ended_by, actor_step}
use Rattle.store_core.specs.Sweep.{Sweeper, next_sweep}
use Rattle.store_core.specs.Tell.{tell}
use Rattle.store_core.specs.Told.{Told}
use Rattle.store_core.specs.Work.{Ended, Calling, new_calling}
use Rattle.run_laws.specs.Answers.{Answers}
use Rattle.run_laws.specs.CallLeft.{pin_bound}
use Rattle.store_core.specs.Bounds.{touched_count}
use Rattle.store_core.specs.RowLines.{client, repair}
use Rattle.run_laws.specs.CauseLaws.{IsCaused}
use Rattle.run_laws.specs.GatherLaws.{Tells}
use Rattle.run_laws.proofs.Carried.{AnyTells, tells_carried, told_back}
use Rattle.run_laws.proofs.Causes.{causes}
use Rattle.run_laws.proofs.Ends.{answers_end_calls}
use Rattle.run_laws.proofs.PlaceMoves.{call_step}
use Rattle.run_laws.proofs.Proper.{IsProper, HasTry}
use Rattle.run_laws.proofs.OwnPasses.{step_moves}
use Rattle.run_laws.proofs.Runs.{CanRun}
use Rattle.run_laws.proofs.RunsSound.{RunKeeps}
use Rattle.run_laws.proofs.Scripts.{replicated}
use Rattle.hist_rules.specs.GivenUp.{is_reaped_cause, is_reaped_result}
use Rattle.history_laws.proofs.Naming.{gives_up, reaps}
use Rattle.history_laws.proofs.ActorLines.{each_changed, lines_bounded}
use Rattle.history_laws.proofs.AtWork.{AtWork, client_at, repairer_at, pass_number, first, act, after, proper, answered}
use Rattle.history_laws.proofs.Induction.{KeptBySteps, run_has}
use Rattle.history_laws.proofs.ReapedPasses.{flagged, reaped_told, act_counts, reap_apart, reap_raises, sweeps_apart}

-- ---- what was told
abbrev IsReaping : Told → Type 0
IsReaping (Told.Reaped point) = Unit {0}
IsReaping answer = ⊥

-- of a list with one answer more
either : (P : Told → Type 0) (told : List Told) (answer : Told) → Tells P (told ++ answer ∷ []) → Tells P told ⊎ P answer
either P [] answer (inl h) = inr h
either P [] answer (inr h) = absurd h
either P (one ∷ told) answer (inl h) = inl (inl h)
either P (one ∷ told) answer (inr h) = by (either P told answer h)
  where
    by : Tells P told ⊎ P answer → Tells P (one ∷ told) ⊎ P answer
    by (inl k) = inl (inr k)
    by (inr k) = inr k

-- what is told was told before or is the answer
pub told_either : (P : Told → Type 0) → (P Told.Gathered → ⊥) → (g : Shape) → 0 < g.parity_count → (job : Job) (told : List Told) (answer : Told) → Tells P (tell g job told answer) → Tells P told ⊎ P answer
told_either P never g some job told answer h =
    either P told answer (told_back (Unit {0}) (AnyTells P) (tells_carried P never) g some job told (answer ∷ []) tt h)

reaping : (point : ℕ) (told : List Told) → Tells (λ answer. answer ≡ Told.Reaped point) told → Tells IsReaping told
reaping point [] h = absurd h
reaping point (answer ∷ told) (inl e) = inl (subst IsReaping (sym e) tt)
reaping point (answer ∷ told) (inr h) = inr (reaping point told h)

counted : (answer : Told) → IsReaping answer → reaped_told answer ≡ 1
counted (Told.Reaped point) h = refl
counted answer h = absurd h

-- 1 for a call that was given up
abbrev once_reaped : Outcome → ℕ
once_reaped (Outcome.Reaped point) = 1
once_reaped outcome = 0

abbrev weight : Ended → ℕ
weight ended = once_reaped ended.outcome

-- how many of the calls that have ended were given up
abbrev given_up : List Ended → ℕ
given_up ended = sum_by weight ended

one_more : (ended : List Ended) (e : Ended) → given_up (ended ++ e ∷ []) ≡ given_up ended + once_reaped e.outcome
one_more ended e =
    let sums : given_up (ended ++ e ∷ []) ≡ given_up ended + given_up (e ∷ []) = sum_by-append weight ended (e ∷ []) in
    let last : given_up (e ∷ []) ≡ once_reaped e.outcome + given_up [] = sum_by-cons weight e [] in
    let none : given_up [] ≡ 0 = refl in
    omega (arith, sums, last, none)

-- ---- one actor
-- so far it was given up at most so often, a pass that was reaped and not yet told of among these
record InBounds (most : ℕ) (who : Actor) (d : Directory) (calling : Calling) : Type 0 where
  count : given_up calling.ended + flagged (pass_of who d) ≤ most
  none : Tells IsReaping calling.told → ⊥

abbrev EndsIt : Act → Type 0
EndsIt (Act.Finish outcome) = Unit {0}
EndsIt _ = ⊥

-- an answer that tells of a reap ends the call
reap_ends : (g : Shape) (tries : ℕ) (job : Job) (told : List Told) (pins touched : ℕ) (a : Act) → next_act g tries job told ≡ a → (answer : Told) → IsReaping answer → Answers pins touched a answer
    → EndsIt (next_act g tries job (tell g job told answer))
reap_ends g tries job told pins touched (Act.AtDirectory DirectoryStep.Draw) e (Told.Reaped point) is h = subst EndsIt (sym ((answers_end_calls g tries job).reaped told DirectoryStep.Draw point e refl)) tt
reap_ends g tries job told pins touched (Act.AtDirectory (DirectoryStep.Commit placed)) e (Told.Reaped point) is h =
    subst EndsIt (sym ((answers_end_calls g tries job).reaped told (DirectoryStep.Commit placed) point e refl)) tt
reap_ends g tries job told pins touched (Act.AtDirectory DirectoryStep.End) e (Told.Reaped point) is h = subst EndsIt (sym ((answers_end_calls g tries job).reaped told DirectoryStep.End point e refl)) tt
reap_ends g tries job told pins touched (Act.AtDirectory DirectoryStep.Confirm) e (Told.Reaped point) is h = subst EndsIt (sym ((answers_end_calls g tries job).reaped told DirectoryStep.Confirm point e refl)) tt
reap_ends g tries job told pins touched (Act.AtDirectory (DirectoryStep.Repaired server epoch)) e (Told.Reaped point) is h =
    subst EndsIt (sym ((answers_end_calls g tries job).reaped told (DirectoryStep.Repaired server epoch) point e refl)) tt
reap_ends g tries job told pins touched (Act.AtDirectory step) e (Told.Reaped point) is h = absurd h
reap_ends g tries job told pins touched (Act.AtServer server (ServerStep.Prepare version)) e (Told.Reaped point) is h = absurd h
reap_ends g tries job told pins touched (Act.AtServer server step) e (Told.Reaped point) is h = absurd h
reap_ends g tries job told pins touched (Act.Finish outcome) e (Told.Reaped point) is h = absurd h
reap_ends g tries job told pins touched a e answer is h = absurd is

module _ (script : Script) (some : 0 < script.geometry.parity_count) (who : Actor) (job : Job) (calling : Calling) (places : Places) (at : AtWork script who job calling places) (shortages : Shortage)
    (most : ℕ) (before : InBounds most who places.directory calling) where
  abbrev g : Shape
  g = script.geometry

  abbrev tries : ℕ
  tries = tries_of script

  -- want of memory tells of no reap
  none_first : (coding has : Bool) → Tells IsReaping (told_first coding has g job calling.told) → ⊥
  none_first true true h = by (told_either IsReaping (λ k. k) g some job calling.told Told.Short h)
    where
      by : Tells IsReaping calling.told ⊎ IsReaping Told.Short → ⊥
      by (inl k) = before.none k
      by (inr k) = k
  none_first true false h = before.none h
  none_first false has h = before.none h

  abbrev told : List Told
  told = first script who job calling places at shortages.coding shortages.step

  abbrev made : Places × Told
  made = after script who job calling places at shortages.coding shortages.step

  abbrev now : List Told
  now = tell g job told made.1

  flags : flagged (pass_of who made.0.directory) + reaped_told made.1 ≤ flagged (pass_of who places.directory)
  flags =
      act_counts (pin_bound g (size_of script) job.note) (touched_count g job.note) shortages.step who (length calling.ended) at.self job.note places
      (act script who job calling places at shortages.coding shortages.step) (λ step e. call_step job (HasTry job.note.kind tries told) step (subst (IsProper g job (HasTry job.note.kind tries told)) e (proper script who job calling places at shortages.coding shortages.step)))
      (answered script who job calling places at shortages.coding shortages.step).answers

  told_last : Tells IsReaping now → IsReaping made.1
  told_last h = by (told_either IsReaping (λ k. k) g some job told made.1 h)
    where
      by : Tells IsReaping told ⊎ IsReaping made.1 → IsReaping made.1
      by (inl k) = absurd (none_first shortages.coding _ k)
      by (inr k) = k

  abbrev middle : Calling
  middle = record { ended = calling.ended; told = now; takes = take_from (act script who job calling places at shortages.coding shortages.step) made.1 calling.takes; steps = calling.steps + 1 }

  abbrev Bounded : Calling → Type 0
  Bounded next = InBounds most who made.0.directory next

  -- an outcome is a reap only where the answer told of one
  outcome_counts : (outcome : Outcome) → next_act g tries job now ≡ Act.Finish outcome → once_reaped outcome ≤ reaped_told made.1
  outcome_counts (Outcome.Reaped point) e =
      let caused : IsCaused g tries now (Act.Finish (Outcome.Reaped point)) = subst (IsCaused g tries now) e (causes g tries job now some) in
      let one : reaped_told made.1 ≡ 1 = counted made.1 (told_last (reaping point now caused)) in
      omega (arith, one)
  outcome_counts outcome e = omega arith

  goes_on : (next_act g tries job now ≡ next_act g tries job now) → (EndsIt (next_act g tries job now) → ⊥) → Bounded middle
  goes_on same on =
      record {
        count = (let b : given_up calling.ended + flagged (pass_of who places.directory) ≤ most = before.count in omega (arith, b, flags));
        none = λ h.
            on (reap_ends g tries job told (pin_bound g (size_of script) job.note) (touched_count g job.note) (act script who job calling places at shortages.coding shortages.step) refl made.1 (told_last h)
            (answered script who job calling places at shortages.coding shortages.step).answers);
      }

  by_act : (a : Act) → next_act g tries job now ≡ a → Bounded (ended_by a (chunk_count g) middle)
  by_act (Act.Finish outcome) e =
      record {
        count =
            (let b : given_up calling.ended + flagged (pass_of who places.directory) ≤ most = before.count in
            let o : once_reaped outcome ≤ reaped_told made.1 = outcome_counts outcome e in
            let more : given_up (ended_by (Act.Finish outcome) (chunk_count g) middle).ended ≡ given_up calling.ended + once_reaped outcome = one_more calling.ended _ in
            omega (arith, b, flags, o, more));
        none = λ h. h;
      }
  by_act (Act.AtDirectory step) e = goes_on refl (λ h. subst EndsIt e h)
  by_act (Act.AtServer server step) e = goes_on refl (λ h. subst EndsIt e h)

  -- a step of the actor
  own_step : InBounds most who (actor_step g tries shortages who job calling places).0.directory (actor_step g tries shortages who job calling places).1
  own_step = by_act (next_act g tries job now) refl

  -- leaves the passes of others
  other_step : (other : Actor) → same_actor other who ≡ false → pass_of other (actor_step g tries shortages who job calling places).0.directory ≡ pass_of other places.directory
  other_step other apart =
      by (act script who job calling places at shortages.coding shortages.step) (proper script who job calling places at shortages.coding shortages.step)
    where
      server : (n : ℕ) (step : ServerStep) (found : Option Server) → pass_of other (at_server_there shortages.step n step places found).0.directory ≡ pass_of other places.directory
      server n step None = refl
      server n step (Some s) = refl

      by : (a : Act) → IsProper g job (HasTry job.note.kind tries told) a → pass_of other (at_places shortages.step who (length calling.ended) a places).0.directory ≡ pass_of other places.directory
      by (Act.AtDirectory step) is_proper =
          (step_moves shortages.step who (length calling.ended) job.note step places.directory at.self (call_step job (HasTry job.note.kind tries told) step is_proper)
          (pass_number script who job calling places at)).others other apart
      by (Act.AtServer n step) is_proper = server n step (slice_get places.servers n)
      by (Act.Finish outcome) is_proper = refl

-- ---- all actors
-- of each actor of a kind
abbrev AllIn : (ℕ → Actor) → List Token → List Calling → Directory → Type 0
AllIn who_of past callings d = (i : ℕ) (calling : Calling) → slice_get callings i ≡ Some calling → InBounds (reaps past (who_of i)) (who_of i) d calling

-- so of all
record AllGivenUp (past : List Token) (core : Core) : Type 0 where
  clients : AllIn actor.Client past core.clients core.directory
  repairers : AllIn actor.Repairer past core.repairers core.directory

-- where passes have no more shortages and as much is allowed
stays : (who : Actor) (most more : ℕ) (before after : Directory) (calling : Calling) → flagged (pass_of who after) + most ≤ flagged (pass_of who before) + more → InBounds most who before calling → InBounds more who after calling
stays who most more before after calling less h = record { count = (let b : given_up calling.ended + flagged (pass_of who before) ≤ most = h.count in omega (arith, b, less)); none = h.none }

same_pass : (who : Actor) (most : ℕ) (before after : Directory) (calling : Calling) → pass_of who after ≡ pass_of who before → InBounds most who before calling → InBounds most who after calling
same_pass who most before after calling e h = stays who most most before after calling (let same : flagged (pass_of who after) ≡ flagged (pass_of who before) = ap flagged e in omega (arith, same)) h

-- one token more
reaps_more : (past : List Token) (next : Token) (who : Actor) → reaps (past ++ next ∷ []) who ≡ reaps past who + length (filter (gives_up who) (next ∷ []))
reaps_more past next who = ap (λ (l : List Token). length l) (filter-append (gives_up who) past (next ∷ [])) ∙ length-append (filter (gives_up who) past) (filter (gives_up who) (next ∷ []))

no_reap : (past : List Token) (next : Token) (who : Actor) → reaps past who ≤ reaps (past ++ next ∷ []) who
no_reap past next who = let e : reaps (past ++ next ∷ []) who ≡ reaps past who + length (filter (gives_up who) (next ∷ [])) = reaps_more past next who in omega (arith, e)

more_allowed : (past : List Token) (next : Token) (who : Actor) (before after : Directory) (calling : Calling) → pass_of who after ≡ pass_of who before
    → InBounds (reaps past who) who before calling → InBounds (reaps (past ++ next ∷ []) who) who after calling
more_allowed past next who before after calling e h =
    stays who (reaps past who) (reaps (past ++ next ∷ []) who) before after calling
    (let same : flagged (pass_of who after) ≡ flagged (pass_of who before) = ap flagged e in let grows : reaps past who ≤ reaps (past ++ next ∷ []) who = no_reap past next who in omega (arith, same, grows)) h

-- a reap of an actor, of which the operator's line is the last token
reaped : (past : List Token) (next : Token) (who target : Actor) (d : Directory) (calling : Calling) → (b : Bool) → gives_up who next ≡ b → same_actor who target ≡ b
    → InBounds (reaps past who) who d calling → InBounds (reaps (past ++ next ∷ []) who) who (at_places false actor.Operator 0 (Act.AtDirectory (DirectoryStep.Reap target)) (record { directory = d; servers = [] })).0.directory calling
reaped past next who target d calling true gives same h =
    stays who (reaps past who) (reaps (past ++ next ∷ []) who) d _ calling
    (let e : reaps (past ++ next ∷ []) who ≡ reaps past who + length (filter (gives_up who) (next ∷ [])) = reaps_more past next who in
    let one : length (filter (gives_up who) (next ∷ [])) ≡ 1 = ap (λ b. length (cond {A = List Token} b (next ∷ []) [])) gives in
    let most : flagged (pass_of who (at_places false actor.Operator 0 (Act.AtDirectory (DirectoryStep.Reap target)) (record { directory = d; servers = [] })).0.directory) ≤ flagged (pass_of who d) + 1 = reap_raises who target d in
    omega (arith, e, one, most)) h
reaped past next who target d calling false gives same h =
    stays who (reaps past who) (reaps (past ++ next ∷ []) who) d _ calling
    (let same_flag : flagged (pass_of who (at_places false actor.Operator 0 (Act.AtDirectory (DirectoryStep.Reap target)) (record { directory = d; servers = [] })).0.directory) ≡ flagged (pass_of who d) = reap_apart who target d same in
    let grows : reaps past who ≤ reaps (past ++ next ∷ []) who = no_reap past next who in
    omega (arith, same_flag, grows)) h

module _ (script : Script) (can : CanRun script) (some : 0 < script.geometry.parity_count) where
  server_same : (who : Actor) (server : ℕ) (step : ServerStep) (core : Core) (found : Option Server) → pass_of who (at_server_there false server step (places_in core) found).0.directory ≡ pass_of who core.directory
  server_same who server step core None = refl
  server_same who server step core (Some s) = refl

  sweeper_same : (who : Actor) (core : Core) (sweeper : Sweeper) → pass_of who (at_places false actor.Sweeper 0 (next_sweep (chunk_count script.geometry) sweeper) (places_in core)).0.directory ≡ pass_of who core.directory
  sweeper_same who core Sweeper.Idle = sweeps_apart who (first_garbage core.directory) core.directory
  sweeper_same who core (Sweeper.Sweeping version server) =
      cond_both {A = Act} (nat_lt server (chunk_count script.geometry)) (Act.AtServer server (ServerStep.Discard version)) (Act.AtDirectory (DirectoryStep.Swept version))
      (λ a. pass_of who (at_places false actor.Sweeper 0 a (places_in core)).0.directory ≡ pass_of who core.directory)
      (λ _. server_same who server (ServerStep.Discard version) core (slice_get core.servers server)) (λ _. refl)

  given_up_kept : KeptBySteps script can AllGivenUp
  given_up_kept =
      record {
        quiet = λ past next core is_quiet has.
            record {
              clients = λ i c e. more_allowed past next (actor.Client i) core.directory core.directory c refl (has.clients i c e);
              repairers = λ i c e. more_allowed past next (actor.Repairer i) core.directory core.directory c refl (has.repairers i c e);
            };
        client = λ past core kept has i work calling job is_work is_calling is_job shortages.
            let at : AtWork script (actor.Client i) job calling (places_in core) = client_at script can core kept i work calling job is_work is_calling is_job in
            let next : Places × Calling = actor_step script.geometry (tries_of script) shortages (actor.Client i) job calling (places_in core) in
            let now : InBounds (reaps past (actor.Client i)) (actor.Client i) core.directory calling = has.clients i calling is_calling in
            record {
              clients =
                  each_changed (λ j c. InBounds (reaps past (actor.Client j)) (actor.Client j) next.0.directory c) i calling next.1 core.clients is_calling
                  (own_step script some (actor.Client i) job calling (places_in core) at shortages (reaps past (actor.Client i)) now)
                  (λ j differ c e.
                  same_pass (actor.Client j) (reaps past (actor.Client j)) core.directory next.0.directory c
                  (other_step script some (actor.Client i) job calling (places_in core) at shortages (reaps past (actor.Client i)) now (actor.Client j) (can.clients.apart i j differ)) (has.clients j c e));
              repairers = λ j c e.
                  same_pass (actor.Repairer j) (reaps past (actor.Repairer j)) core.directory next.0.directory c
                  (other_step script some (actor.Client i) job calling (places_in core) at shortages (reaps past (actor.Client i)) now (actor.Repairer j) refl) (has.repairers j c e);
            };
        repairer = λ past core kept has i work calling job is_work is_calling is_job shortages.
            let at : AtWork script (actor.Repairer i) job calling (places_in core) = repairer_at script can core kept i work calling job is_work is_calling is_job in
            let next : Places × Calling = actor_step script.geometry (tries_of script) shortages (actor.Repairer i) job calling (places_in core) in
            let now : InBounds (reaps past (actor.Repairer i)) (actor.Repairer i) core.directory calling = has.repairers i calling is_calling in
            record {
              clients = λ j c e.
                  same_pass (actor.Client j) (reaps past (actor.Client j)) core.directory next.0.directory c
                  (other_step script some (actor.Repairer i) job calling (places_in core) at shortages (reaps past (actor.Repairer i)) now (actor.Client j) refl) (has.clients j c e);
              repairers =
                  each_changed (λ j c. InBounds (reaps past (actor.Repairer j)) (actor.Repairer j) next.0.directory c) i calling next.1 core.repairers is_calling
                  (own_step script some (actor.Repairer i) job calling (places_in core) at shortages (reaps past (actor.Repairer i)) now)
                  (λ j differ c e.
                  same_pass (actor.Repairer j) (reaps past (actor.Repairer j)) core.directory next.0.directory c
                  (other_step script some (actor.Repairer i) job calling (places_in core) at shortages (reaps past (actor.Repairer i)) now (actor.Repairer j) (can.repairers.apart i j differ)) (has.repairers j c e));
            };
        sweeper = λ past core kept has.
            record {
              clients = λ i c e. same_pass (actor.Client i) (reaps past (actor.Client i)) core.directory _ c (sweeper_same (actor.Client i) core core.sweeper) (has.clients i c e);
              repairers = λ i c e. same_pass (actor.Repairer i) (reaps past (actor.Repairer i)) core.directory _ c (sweeper_same (actor.Repairer i) core core.sweeper) (has.repairers i c e);
            };
        wipe = λ past core kept has server.
            record {
              clients = λ i c e. more_allowed past (token.Wipe server) (actor.Client i) core.directory _ c (server_same (actor.Client i) server ServerStep.Wipe core (slice_get core.servers server)) (has.clients i c e);
              repairers = λ i c e. more_allowed past (token.Wipe server) (actor.Repairer i) core.directory _ c (server_same (actor.Repairer i) server ServerStep.Wipe core (slice_get core.servers server)) (has.repairers i c e);
            };
        down = λ past core kept has server.
            record {
              clients = λ i c e. more_allowed past (token.Down server) (actor.Client i) core.directory _ c (server_same (actor.Client i) server ServerStep.Down core (slice_get core.servers server)) (has.clients i c e);
              repairers = λ i c e. more_allowed past (token.Down server) (actor.Repairer i) core.directory _ c (server_same (actor.Repairer i) server ServerStep.Down core (slice_get core.servers server)) (has.repairers i c e);
            };
        up = λ past core kept has server.
            record {
              clients = λ i c e. more_allowed past (token.Up server) (actor.Client i) core.directory _ c (server_same (actor.Client i) server ServerStep.Up core (slice_get core.servers server)) (has.clients i c e);
              repairers = λ i c e. more_allowed past (token.Up server) (actor.Repairer i) core.directory _ c (server_same (actor.Repairer i) server ServerStep.Up core (slice_get core.servers server)) (has.repairers i c e);
            };
        reap_client = λ past core kept has k.
            record {
              clients = λ i c e. reaped past (token.ReapClient k) (actor.Client i) (actor.Client k) core.directory c (nat_eq i k) refl refl (has.clients i c e);
              repairers = λ i c e. reaped past (token.ReapClient k) (actor.Repairer i) (actor.Client k) core.directory c false refl refl (has.repairers i c e);
            };
        reap_repairer = λ past core kept has k.
            record {
              clients = λ i c e. reaped past (token.ReapRepairer k) (actor.Client i) (actor.Repairer k) core.directory c false refl refl (has.clients i c e);
              repairers = λ i c e. reaped past (token.ReapRepairer k) (actor.Repairer i) (actor.Repairer k) core.directory c (nat_eq i k) refl refl (has.repairers i c e);
            };
      }

  -- before the first step
  fresh : (who : Actor) (calling : Calling) → new_calling (chunk_count script.geometry) ≡ calling → InBounds (reaps [] who) who (first_core script).directory calling
  fresh who calling e = subst (λ (c : Calling). InBounds (reaps [] who) who (first_core script).directory c) e (record { count = omega arith; none = λ h. h })

  none_given_up : AllGivenUp [] (first_core script)
  none_given_up =
      record {
        clients = λ i c e. fresh (actor.Client i) c (replicated (length script.clients) i (new_calling (chunk_count script.geometry)) c e);
        repairers = λ i c e. fresh (actor.Repairer i) c (replicated (length script.repairers) i (new_calling (chunk_count script.geometry)) c e);
      }

-- ---- the lines
not_equal : (i j : ℕ) → (i ≡ j → ⊥) → (b : Bool) → nat_eq i j ≡ b → b ≡ false
not_equal i j differ true e = absurd (differ (eqb-true i j e))
not_equal i j differ false e = refl

abbrev pub refused_test : ℕ → XLine → Bool
refused_test i line = is_reaped_cause line.cause && nat_eq i line.call.client

abbrev pub refused_of : ℕ → ℕ → Ended → List XLine
refused_of j number ended = refused_line (client j number) (cause_of ended.outcome)

abbrev pub repair_test : ℕ → RLine → Bool
repair_test i line = is_reaped_result line.result && nat_eq i line.call.repairer

abbrev pub repairs_of : ℕ → ℕ → Ended → List RLine
repairs_of j number ended = repair_line (repair j number) (result_of ended.outcome)

small : {X : Type 0} (b : Bool) (x : X) → length (cond {A = List X} b (x ∷ []) []) ≤ 1
small true x = omega arith
small false x = omega arith

own_refused : (i number : ℕ) (ended : Ended) → length (filter (refused_test i) (refused_of i number ended)) ≤ weight ended
own_refused i number ended = by ended.outcome
  where
    by : (outcome : Outcome) → length (filter (refused_test i) (refused_line (client i number) (cause_of outcome))) ≤ once_reaped outcome
    by (Outcome.Reaped point) = small (nat_eq i i) _
    by (Outcome.Answered point given) = omega arith
    by (Outcome.Served point) = omega arith
    by Outcome.Rebuilt = omega arith
    by Outcome.Here = omega arith
    by (Outcome.Away downs) = omega arith
    by Outcome.NoSuch = omega arith
    by (Outcome.Superseded newer) = omega arith
    by (Outcome.Unavailable stripe missing) = omega arith
    by (Outcome.Contended pairs) = omega arith
    by Outcome.NoMemory = omega arith

other_refused : (i j : ℕ) → (i ≡ j → ⊥) → (number : ℕ) (ended : Ended) → length (filter (refused_test i) (refused_of j number ended)) ≡ 0
other_refused i j differ number ended = by ended.outcome
  where
    by : (outcome : Outcome) → length (filter (refused_test i) (refused_line (client j number) (cause_of outcome))) ≡ 0
    by (Outcome.Reaped point) = ap (λ b. length (cond {A = List XLine} b (record { call = client j number; cause = cause.Reaped point } ∷ []) [])) (not_equal i j differ (nat_eq i j) refl)
    by (Outcome.Answered point given) = refl
    by (Outcome.Served point) = refl
    by Outcome.Rebuilt = refl
    by Outcome.Here = refl
    by (Outcome.Away downs) = refl
    by Outcome.NoSuch = refl
    by (Outcome.Superseded newer) = refl
    by (Outcome.Unavailable stripe missing) = refl
    by (Outcome.Contended pairs) = refl
    by Outcome.NoMemory = refl

own_repairs : (i number : ℕ) (ended : Ended) → length (filter (repair_test i) (repairs_of i number ended)) ≤ weight ended
own_repairs i number ended = by ended.outcome
  where
    by : (outcome : Outcome) → length (filter (repair_test i) (repair_line (repair i number) (result_of outcome))) ≤ once_reaped outcome
    by (Outcome.Reaped point) = small (nat_eq i i) _
    by (Outcome.Answered point given) = omega arith
    by (Outcome.Served point) = omega arith
    by Outcome.Rebuilt = omega arith
    by Outcome.Here = omega arith
    by (Outcome.Away downs) = omega arith
    by Outcome.NoSuch = omega arith
    by (Outcome.Superseded newer) = omega arith
    by (Outcome.Unavailable stripe missing) = omega arith
    by (Outcome.Contended pairs) = omega arith
    by Outcome.NoMemory = omega arith

other_repairs : (i j : ℕ) → (i ≡ j → ⊥) → (number : ℕ) (ended : Ended) → length (filter (repair_test i) (repairs_of j number ended)) ≡ 0
other_repairs i j differ number ended = by ended.outcome
  where
    by : (outcome : Outcome) → length (filter (repair_test i) (repair_line (repair j number) (result_of outcome))) ≡ 0
    by (Outcome.Reaped point) = ap (λ b. length (cond {A = List RLine} b (record { call = repair j number; result = result.Reaped point } ∷ []) [])) (not_equal i j differ (nat_eq i j) refl)
    by (Outcome.Answered point given) = refl
    by (Outcome.Served point) = refl
    by Outcome.Rebuilt = refl
    by Outcome.Here = refl
    by (Outcome.Away downs) = refl
    by Outcome.NoSuch = refl
    by (Outcome.Superseded newer) = refl
    by (Outcome.Unavailable stripe missing) = refl
    by (Outcome.Contended pairs) = refl
    by Outcome.NoMemory = refl

within_count : (most : ℕ) (who : Actor) (d : Directory) (calling : Calling) → InBounds most who d calling → given_up calling.ended ≤ most
within_count most who d calling h = let b : given_up calling.ended + flagged (pass_of who d) ≤ most = h.count in omega (arith, b)

-- of each caller no more calls are given up than the operator gave up
pub record CallersGivenUp (tokens : List Token) (core : Core) : Type 0 where
  pub clients : (i : ℕ) → length (filter (refused_test i) (lines_of_actors (λ j. lines_of_ended (refused_of j)) core.clients)) ≤ reaps tokens (actor.Client i)
  pub repairers : (i : ℕ) → length (filter (repair_test i) (lines_of_actors (λ j. lines_of_ended (repairs_of j)) core.repairers)) ≤ reaps tokens (actor.Repairer i)

pub callers_given_up : (script : Script) (can : CanRun script) (some : 0 < script.geometry.parity_count) (shortages : List Shortage) (tokens : List Token) → CallersGivenUp tokens (run_core script shortages tokens)
callers_given_up script can some shortages tokens =
    let core : Core = run_core script shortages tokens in
    let end : RunKeeps script core × AllGivenUp tokens core = run_has script can AllGivenUp (given_up_kept script can some) shortages (none_given_up script can some) tokens in
    record {
      clients = λ i.
          lines_bounded (refused_test i) refused_of weight i (own_refused i) (other_refused i) (reaps tokens (actor.Client i)) core.clients
          (λ c e. within_count (reaps tokens (actor.Client i)) (actor.Client i) core.directory c (end.1.clients i c e));
      repairers = λ i.
          lines_bounded (repair_test i) repairs_of weight i (own_repairs i) (other_repairs i) (reaps tokens (actor.Repairer i)) core.repairers
          (λ c e. within_count (reaps tokens (actor.Repairer i)) (actor.Repairer i) core.directory c (end.1.repairers i c e));
    }
