-- A drain ends: each round lowers the measure of what may yet be done, or finds nobody with a step.
-- Worked rows are computed by the definitions alone (store_core): scripts as records, their transcripts by refl. Laws go by recursion on
-- what was told, one lemma a stage; where several laws say what comes after an act, one relation is carried through all stages once
-- (GoesOn, Phases with CallMoves), and each law is a short case analysis of it. That a drain ends is a measure of the core (steps that
-- calls have left, and for each version that isn't swept or may yet be drawn the sweeper's steps) that falls at each step, with the
-- invariant that the directory has an actor's pass exactly where the call's next act wants it. That the directory stays sound goes step
-- by step (run_laws), each step in parts that keep it sound: first a pass is closed or marked, then versions change, then a point comes;
-- and over runs (run_laws) by an invariant of each actor, tied to the rank of its next act. What a step leaves of an actor that doesn't
-- make it is one record (its pass, its points, the points at which objects are changed), and all of that actor's agreement follows from
-- it. A further invariant of runs is an instance of one induction over tokens and rounds (Invariants).
use Rattle.std.proofs.Common.{◌≡◌, ℕ, zero, suc, ◌+◌, ◌<◌, ◌≤◌, Bool, true, false, ◌||◌, List, [], ◌∷◌, ◌++◌, length, map, fold, Option, None, Some, IfSome, refl, sym, subst, ◌∙◌, inl, inr, ◌⊎◌, arith, true≢false}
use Rattle.std.proofs.lemmas.Bool.{cases_eq}
use Rattle.std.proofs.lemmas.List.{length-map}
use Rattle.std.proofs.lemmas.Option.{slice_get_within}
use Rattle.std.specs.List.{range_with_len, slice_get}
use Rattle.store_core.specs.Fuel.{fuel_of}
use Rattle.store_map.specs.Limits.{size_of, tries_of}
use Rattle.store_map.specs.declared.actor.Actor.{Actor}
use Rattle.store_map.specs.declared.actor.Actor.TheVariants as actor
use Rattle.store_map.specs.declared.actor.Token.{Token}
use Rattle.store_map.specs.declared.actor.Token.TheVariants as token
use Rattle.store_map.specs.declared.script.ClientPart.{ClientPart}
use Rattle.store_map.specs.declared.script.RepairPart.{RepairPart}
use Rattle.store_map.specs.declared.script.Script.{Script}
use Rattle.store_core.specs.Act.{Act, DirectoryStep, ServerStep}
use Rattle.store_core.specs.Bounds.{step_bound}
use Rattle.run_laws.specs.CallLeft.{call_left}
use Rattle.store_core.specs.Core.{first_core, sweeper_has_step}
use Rattle.run_laws.specs.DrainLaws.{KeepsBound, KeepsPinnedBound, pinned_bound, RunsAreBounded, DrainsEnd}
use Rattle.run_laws.specs.RunLaws.{StaysSound, RunsStaySound}
use Rattle.store_core.specs.Directory.{Directory}
use Rattle.store_core.specs.NextAct.{Job, job_of, rebuild_job}
use Rattle.store_core.specs.Run.{Run, client_step, repairer_step}
use Rattle.store_core.specs.Schedule.{is_unfinished, sweep_if, round, drain_by, drain, step_core, run_tokens, run_core}
use Rattle.store_core.specs.Step.{Shortage}
use Rattle.store_core.specs.Work.{Work, Calling, client_work, repairer_work, any_has_step}
use Rattle.run_laws.proofs.ActorSteps.{InWork, CallKept}
use Rattle.run_laws.proofs.PinnedSteps.{less_than_pinned}
use Rattle.run_laws.proofs.StillToMake.{has_step_left}
use Rattle.run_laws.proofs.Groups.{IsGroup, GroupKept, IsIdle, none_has_step, drop_here}
use Rattle.run_laws.proofs.RunsSound.{RunKeeps, client_kept, repairer_kept, sweeper_kept, operator_kept, first_kept}
use Rattle.run_laws.proofs.Runs.{CanRun, measure, Progress, client_progress, repairer_progress, sweeper_lowers}
use Rattle.run_laws.proofs.Scripts.{can_run, measure_fits}

-- one token more at the end
pub run_more : (script : Script) (tokens : List Token) (token : Token) (run : Run) → run_tokens script (tokens ++ token ∷ []) run ≡ step_core script token (run_tokens script tokens run)
run_more script [] token run = refl
run_more script (first ∷ tokens) token run = run_more script tokens token (step_core script first run)

three_false : (a b c : Bool) → a ≡ false → b ≡ false → c ≡ false → (a || b || c) ≡ false
three_false false false false p q r = refl
three_false true b c p q r = absurd (true≢false p)
three_false false true c p q r = absurd (true≢false q)
three_false false false true p q r = absurd (true≢false r)

-- what holds wherever something is found
pub if_found : {X : Type 0} (P : X → Type 0) (found : Option X) → ((x : X) → found ≡ Some x → P x) → IfSome found P
if_found P None h = tt
if_found P (Some x) h = h x refl

module _ (script : Script) (shortages : List Shortage) (can : CanRun script) where
  abbrev pub start : Run
  start = record { core = first_core script; shortages = shortages }

  -- a run whose core has what cores of runs have
  abbrev pub State : Run → Type 0
  State run = RunKeeps script run.core

  -- ---- turns
  -- the measure fell, or nothing changed and there was nothing to do
  record Turn (before after : Run) (idle : Type 0) : Type 0 where
    state : State after
    moved : (measure script after.core < measure script before.core) ⊎ ((after ≡ before) × idle)

  -- one turn after the other
  then_turn : {P Q R : Type 0} (first middle last : Run) → Turn first middle P → Turn middle last Q → (P → middle ≡ first → Q → R) → Turn first last R
  then_turn {P = P} {Q = Q} {R = R} first middle last one other both = record { state = other.state; moved = by one.moved other.moved }
    where
      by : (measure script middle.core < measure script first.core) ⊎ ((middle ≡ first) × P) → (measure script last.core < measure script middle.core) ⊎ ((last ≡ middle) × Q)
          → (measure script last.core < measure script first.core) ⊎ ((last ≡ first) × R)
      by (inl less) (inl more) =
          let a : ℕ = measure script first.core in
          let b : ℕ = measure script middle.core in
          let c : ℕ = measure script last.core in
          let below : b < a = less in
          let below_it : c < b = more in
          inl (omega (arith, below, below_it))
      by (inl less) (inr same) = inl (subst (λ (r : Run). measure script r.core < measure script first.core) (sym same.0) less)
      by (inr same) (inl more) = inl (subst (λ (r : Run). measure script last.core < measure script r.core) same.0 more)
      by (inr same) (inr again) = inr (again.0 ∙ same.0, both same.1 same.0 again.1)

  progress_moves : {idle : Type 0} (before after : Run) → Progress script before after idle → (measure script after.core < measure script before.core) ⊎ ((after ≡ before) × idle)
  progress_moves before after (inl lowers) = inl lowers.lower
  progress_moves before after (inr same) = inr same

  abbrev ClientIdle : Run → ℕ → Type 0
  ClientIdle run i = IsIdle script actor.Client (client_work script) run.core.clients i

  abbrev RepairerIdle : Run → ℕ → Type 0
  RepairerIdle run i = IsIdle script actor.Repairer (repairer_work script) run.core.repairers i

  client_turn : (i : ℕ) (run : Run) → State run → Turn run (client_step script i run) (ClientIdle run i)
  client_turn i run state =
      let progress : Progress script run (client_step script i run) (ClientIdle run i) = client_progress script can run state.keeps state.sound i in
      record {
        state = client_kept script can run state i;
        moved = progress_moves run (client_step script i run) progress;
      }

  repairer_turn : (i : ℕ) (run : Run) → State run → Turn run (repairer_step script i run) (RepairerIdle run i)
  repairer_turn i run state =
      let progress : Progress script run (repairer_step script i run) (RepairerIdle run i) = repairer_progress script can run state.keeps state.sound i in
      record {
        state = repairer_kept script can run state i;
        moved = progress_moves run (repairer_step script i run) progress;
      }

  -- the actors from a on, one after another
  module _ (step : ℕ → Run → Run) (Idle : Run → ℕ → Type 0) (turn : (i : ℕ) (run : Run) → State run → Turn run (step i run) (Idle run i)) where
    abbrev AllIdle : Run → ℕ → ℕ → Type 0
    AllIdle run a k = (i : ℕ) → a ≤ i → i < a + k → Idle run i

    both_idle : (a k : ℕ) (before after : Run) → Idle before a → after ≡ before → AllIdle after (a + 1) k → AllIdle before a (suc k)
    both_idle a k before after first same rest i low high = by (cases_eq a i)
      where
        by : (a ≡ i) ⊎ (a ≡ i → ⊥) → Idle before i
        by (inl e) = subst (Idle before) e first
        by (inr differ) = subst (λ (r : Run). Idle r i) same (rest i (omega (arith, low, differ)) (omega (arith, high)))

    -- each actor has its turn
    all_turns : (a k : ℕ) (run : Run) → State run → Turn run (fold (λ r i. step i r) run (range_with_len a k)) (AllIdle run a k)
    all_turns a zero run state = record { state = state; moved = inr (refl, λ i low high. absurd (omega (arith, low, high))) }
    all_turns a (suc k) run state =
        let first : Turn run (step a run) (Idle run a) = turn a run state in
        then_turn run (step a run) (fold (λ (r : Run) (i : ℕ). step i r) (step a run) (range_with_len (a + 1) k)) first (all_turns (a + 1) k (step a run) first.state)
        (λ idle same rest. both_idle a k run (step a run) idle same rest)

  -- ---- a round
  sweep_turn : (run : Run) → State run → (b : Bool) → sweeper_has_step run.core ≡ b → Turn run (sweep_if b script run) (sweeper_has_step run.core ≡ false)
  sweep_turn run state true e =
      record {
        state = sweeper_kept script can run state;
        moved = inl (sweeper_lowers script run.core state.keeps state.sound e);
      }
  sweep_turn run state false e = record { state = state; moved = inr (refl, e) }

  clients_idle : (run : Run) → ((i : ℕ) → 0 ≤ i → i < 0 + length script.clients → ClientIdle run i) → any_has_step (client_work script) run.core.clients ≡ false
  clients_idle run idle =
      none_has_step (client_work script) run.core.clients
      (λ i work calling is_work is_calling.
      let within : i < length (client_work script) = slice_get_within (client_work script) i work is_work in
      let count : length (client_work script) ≡ length script.clients = length-map script.clients (λ (part : ClientPart). record { jobs = map job_of part.calls; leave = part.leave }) in
      idle i (omega arith) (omega (arith, within, count)) work calling is_work is_calling)

  repairers_idle : (run : Run) → ((i : ℕ) → 0 ≤ i → i < 0 + length script.repairers → RepairerIdle run i) → any_has_step (repairer_work script) run.core.repairers ≡ false
  repairers_idle run idle =
      none_has_step (repairer_work script) run.core.repairers
      (λ i work calling is_work is_calling.
      let within : i < length (repairer_work script) = slice_get_within (repairer_work script) i work is_work in
      let count : length (repairer_work script) ≡ length script.repairers = length-map script.repairers (λ (part : RepairPart). record { jobs = map rebuild_job part.calls; leave = part.leave }) in
      idle i (omega arith) (omega (arith, within, count)) work calling is_work is_calling)

  abbrev after_clients : Run → Run
  after_clients run = fold (λ r i. client_step script i r) run (range_with_len 0 (length script.clients))

  abbrev after_repairers : Run → Run
  after_repairers run = fold (λ r i. repairer_step script i r) run (range_with_len 0 (length script.repairers))

  -- a round lowers the measure, or nobody has a step
  round_turn : (run : Run) → State run → Turn run (round script run) (is_unfinished script run.core ≡ false)
  round_turn run state =
      let clients : Turn run (after_clients run) ((i : ℕ) → 0 ≤ i → i < 0 + length script.clients → ClientIdle run i) =
      all_turns (client_step script) ClientIdle client_turn 0 (length script.clients) run state in
      let middle : Run = after_clients run in
      let repairers : Turn middle (after_repairers middle) ((i : ℕ) → 0 ≤ i → i < 0 + length script.repairers → RepairerIdle middle i) =
      all_turns (repairer_step script) RepairerIdle repairer_turn 0 (length script.repairers) middle clients.state in
      let late : Run = after_repairers middle in
      let sweeps : Turn late (sweep_if (sweeper_has_step late.core) script late) (sweeper_has_step late.core ≡ false) = sweep_turn late repairers.state (sweeper_has_step late.core) refl in
      then_turn run middle (round script run) clients
      (then_turn {R = (any_has_step (repairer_work script) middle.core.repairers ≡ false) × (sweeper_has_step middle.core ≡ false)} middle late (round script run) repairers sweeps
      (λ idle same rests. (repairers_idle middle idle, subst (λ (r : Run). sweeper_has_step r.core ≡ false) same rests)))
      (λ idle same rests.
      three_false (any_has_step (client_work script) run.core.clients) (any_has_step (repairer_work script) run.core.repairers) (sweeper_has_step run.core) (clients_idle run idle)
      (subst (λ (r : Run). any_has_step (repairer_work script) r.core.repairers ≡ false) same rests.0) (subst (λ (r : Run). sweeper_has_step r.core ≡ false) same rests.1))

  -- the same, without the words of a turn
  pub round_moves : (run : Run) → State run → (measure script (round script run).core < measure script run.core) ⊎ ((round script run ≡ run) × (is_unfinished script run.core ≡ false))
  round_moves run state = (round_turn run state).moved

  pub round_state : (run : Run) → State run → State (round script run)
  round_state run state = (round_turn run state).state

  -- ---- a drain
  -- nobody has a step
  record Drained (after : Run) : Type 0 where
    state : State after
    finished : is_unfinished script after.core ≡ false

  module _ (fuel : ℕ) (run : Run) (state : State run) (enough : measure script run.core ≤ suc fuel) (rest : (next : Run) → State next → measure script next.core ≤ fuel → Drained (drain_by fuel script next)) where
    next_round : is_unfinished script run.core ≡ true → (measure script (round script run).core < measure script run.core) ⊎ ((round script run ≡ run) × (is_unfinished script run.core ≡ false))
        → Drained (drain_by fuel script (round script run))
    next_round busy (inl less) =
        let a : ℕ = measure script (round script run).core in
        let b : ℕ = measure script run.core in
        let below : a < b = less in
        let most : b ≤ suc fuel = enough in
        rest (round script run) (round_turn run state).state (omega (arith, below, most))
    next_round busy (inr same) = absurd (true≢false (sym busy ∙ same.1))

    by_test : (b : Bool) → is_unfinished script run.core ≡ b → Drained (elim b [ true ↦ drain_by fuel script (round script run) | false ↦ run ])
    by_test true e = next_round e (round_turn run state).moved
    by_test false e = record { state = state; finished = e }

  no_fuel : (run : Run) → measure script run.core ≤ 0 → (measure script (round script run).core < measure script run.core) ⊎ ((round script run ≡ run) × (is_unfinished script run.core ≡ false))
      → is_unfinished script run.core ≡ false
  no_fuel run enough (inl less) =
      let a : ℕ = measure script (round script run).core in
      let b : ℕ = measure script run.core in
      let below : a < b = less in
      let most : b ≤ 0 = enough in
      absurd (omega (arith, below, most))
  no_fuel run enough (inr same) = same.1

  -- so many rounds as the measure leave nobody with a step
  drained_by : (fuel : ℕ) (run : Run) → State run → measure script run.core ≤ fuel → Drained (drain_by fuel script run)
  drained_by zero run state enough = record { state = state; finished = no_fuel run enough (round_turn run state).moved }
  drained_by (suc fuel) run state enough = by_test fuel run state enough (λ next next_state fits. drained_by fuel next next_state fits) (is_unfinished script run.core) refl

  -- a drain leaves nobody with a step
  drained : (run : Run) → State run → Drained (drain script run)
  drained run state = drained_by (fuel_of script run.core) run state (measure_fits script run.core can.tried state.keeps)

  -- ---- any tokens
  pub token_state : (token : Token) (run : Run) → State run → State (step_core script token run)
  token_state (token.Client i) run state = client_kept script can run state i
  token_state (token.Repairer i) run state = repairer_kept script can run state i
  token_state token.Sweep run state = sweeper_kept script can run state
  token_state (token.Wipe server) run state = operator_kept script can run state (Act.AtServer server ServerStep.Wipe) tt
  token_state (token.Down server) run state = operator_kept script can run state (Act.AtServer server ServerStep.Down) tt
  token_state (token.Up server) run state = operator_kept script can run state (Act.AtServer server ServerStep.Up) tt
  token_state (token.ReapClient i) run state = operator_kept script can run state (Act.AtDirectory (DirectoryStep.Reap (actor.Client i))) tt
  token_state (token.ReapRepairer i) run state = operator_kept script can run state (Act.AtDirectory (DirectoryStep.Reap (actor.Repairer i))) tt
  token_state token.Drain run state = (drained run state).state

  -- any tokens keep it
  pub run_state : (tokens : List Token) (run : Run) → State run → State (run_tokens script tokens run)
  run_state [] run state = state
  run_state (token ∷ tokens) run state = run_state tokens (step_core script token run) (token_state token run state)

  -- so the directory is sound after any tokens
  pub sound_after : StaysSound script shortages
  sound_after tokens = (run_state tokens start (first_kept script can)).sound

  -- ---- bounds
  -- a call in work, and that it has a step left
  in_work : (who_of : ℕ → Actor) (works : List Work) (callings : List Calling) (d : Directory) → IsGroup script who_of works → GroupKept script who_of works callings d
      → (i : ℕ) (work : Work) (calling : Calling) (job : Job) → slice_get works i ≡ Some work → slice_get callings i ≡ Some calling → slice_get work.jobs (length calling.ended) ≡ Some job
      → InWork script.geometry (size_of script) (tries_of script) job (who_of i) calling d × (0 < call_left script.geometry (size_of script) (tries_of script) job calling.told)
  in_work who_of works callings d group kept i work calling job is_work is_calling is_job =
      let at : InWork script.geometry (size_of script) (tries_of script) job (who_of i) calling d =
      subst (λ (l : List Job). CallKept script.geometry (size_of script) (tries_of script) (who_of i) l calling d) (drop_here work.jobs (length calling.ended) job is_job) (kept i work calling is_work is_calling) in
      (at, has_step_left script.geometry (size_of script) (tries_of script) job (group.targets i work is_work (length calling.ended) job is_job) calling.told at.stands.going)

  module _ (who_of : ℕ → Actor) (works : List Work) (callings : List Calling) (d : Directory) (group : IsGroup script who_of works) (kept : GroupKept script who_of works callings d) where
    -- of the calls in work, all that holds of each
    of_calls : (Holds : Job → Calling → Type 0)
        → ((who : Actor) (job : Job) (calling : Calling) → InWork script.geometry (size_of script) (tries_of script) job who calling d
        → 0 < call_left script.geometry (size_of script) (tries_of script) job calling.told → Holds job calling)
        → (i : ℕ) → IfSome (slice_get works i) (λ work. IfSome (slice_get callings i) (λ calling. IfSome (slice_get work.jobs (length calling.ended)) (λ job. Holds job calling)))
    of_calls Holds each i =
        if_found (λ (work : Work). IfSome (slice_get callings i) (λ calling. IfSome (slice_get work.jobs (length calling.ended)) (λ job. Holds job calling))) (slice_get works i) (λ work is_work.
        if_found (λ (calling : Calling). IfSome (slice_get work.jobs (length calling.ended)) (λ job. Holds job calling)) (slice_get callings i) (λ calling is_calling.
        if_found (λ (job : Job). Holds job calling) (slice_get work.jobs (length calling.ended)) (λ job is_job.
        let at : InWork script.geometry (size_of script) (tries_of script) job (who_of i) calling d × (0 < call_left script.geometry (size_of script) (tries_of script) job calling.told) =
        in_work who_of works callings d group kept i work calling job is_work is_calling is_job in
        each (who_of i) job calling at.0 at.1)))

    group_bounds : (i : ℕ) → IfSome (slice_get works i) (λ work. IfSome (slice_get callings i) (KeepsBound script work))
    group_bounds =
        of_calls (λ job calling. calling.steps < step_bound script.geometry (size_of script) (tries_of script) job.note)
        (λ who job calling at left.
        let bound : call_left script.geometry (size_of script) (tries_of script) job calling.told + calling.steps ≤ step_bound script.geometry (size_of script) (tries_of script) job.note = at.bound in
        omega (arith, bound, left))

    group_pinned : (i : ℕ) → IfSome (slice_get works i) (λ work. IfSome (slice_get callings i) (KeepsPinnedBound script work))
    group_pinned =
        of_calls (λ job calling. calling.steps < pinned_bound script.geometry (tries_of script) job.note calling.told)
        (λ who job calling at left. less_than_pinned script.geometry (size_of script) (tries_of script) job calling.told calling.steps at.bound left at.pinned)

  -- the runs of such a script are bounded
  pub bounded : RunsAreBounded script shortages
  bounded =
      record {
        bounds = λ tokens.
            let state : State (run_tokens script tokens start) = run_state tokens start (first_kept script can) in
            record {
              client_count = state.keeps.client_count;
              repairer_count = state.keeps.repairer_count;
              clients = group_bounds actor.Client (client_work script) (run_core script shortages tokens).clients (run_core script shortages tokens).directory can.clients state.keeps.clients;
              repairers = group_bounds actor.Repairer (repairer_work script) (run_core script shortages tokens).repairers (run_core script shortages tokens).directory can.repairers state.keeps.repairers;
              clients_pinned = group_pinned actor.Client (client_work script) (run_core script shortages tokens).clients (run_core script shortages tokens).directory can.clients state.keeps.clients;
              repairers_pinned = group_pinned actor.Repairer (repairer_work script) (run_core script shortages tokens).repairers (run_core script shortages tokens).directory can.repairers state.keeps.repairers;
            };
        drained = λ tokens.
            let run : Run = run_tokens script tokens start in
            subst (λ (r : Run). is_unfinished script r.core ≡ false) (sym (run_more script tokens token.Drain start)) (drained run (run_state tokens start (first_kept script can))).finished;
      }

-- the directory stays sound
pub runs_stay_sound : RunsStaySound
runs_stay_sound script shortages geometry valid = sound_after script shortages (can_run script geometry valid)

-- drains end
pub drains_end : DrainsEnd
drains_end script shortages geometry valid = bounded script shortages (can_run script geometry valid)
