-- One step of the run: it changes its place and its actor as their lists say.
use Rattle.std.proofs.Common.{◌≡◌, ℕ, zero, suc, Bool, true, false, cond, List, [], ◌∷◌, length, filter, Option, None, Some, refl, sym, ap, subst, ◌∙◌, eq-eqb}
use Rattle.std.proofs.lemmas.Option.{none-some, same_Some}
use Rattle.std.specs.List.{slice_get}
use Rattle.clay_grid.specs.Shape.{chunk_count}
use Rattle.store_map.specs.Limits.{tries_of}
use Rattle.store_map.specs.declared.script.Script.{Script}
use Rattle.store_map.specs.declared.actor.Actor.{Actor}
use Rattle.store_map.specs.declared.actor.Actor.TheVariants as actor
use Rattle.store_map.specs.declared.actor.Token.{Token}
use Rattle.store_map.specs.declared.actor.Token.TheVariants as token
use Rattle.store_core.specs.Lists.{change_at}
use Rattle.store_core.specs.Told.{Told}
use Rattle.store_core.specs.Act.{Act}
use Rattle.store_core.specs.NextAct.{Job}
use Rattle.store_core.specs.Server.{Server, at_server}
use Rattle.store_core.specs.Sweep.{Sweeper, next_sweep, after_sweep}
use Rattle.store_core.specs.Work.{Work, Calling, has_step, client_work, repairer_work}
use Rattle.store_core.specs.Step.{Shortage, Places, at_places, at_server_there, after_answer}
use Rattle.store_core.specs.CallStep.{job_step, step_if, step_of}
use Rattle.store_core.specs.Core.{Core}
use Rattle.store_core.specs.Run.{Run, after_step, with_places, places_in, operator_step, after_client, after_repairer}
use Rattle.store_core.specs.Schedule.{step_core}
use Rattle.store_core.specs.ActPlace.{ActPlace}
use Rattle.thread_laws.specs.MadeSteps.{MadeStep, is_by, is_at}
use Rattle.thread_laws.specs.AtPlaces.{AllCome, directory_next, DirectoryAnswers, server_next, ServerAnswers}
use Rattle.thread_laws.specs.ByActors.{job_if, told_now, called_next, calling_next, IsAtAPlace, IsNextOf, sweeper_next, IsNextSweep, HasNoCall}
use Rattle.thread_laws.specs.Lines.{operator_act, lines_next, IsNextLine, line_of, token_of}
use Rattle.thread_laws.specs.Histories.{ComeIfThere, ComeOfActor, GoOn}

-- ---- the core after a step
abbrev pub servers_after : MadeStep → Act → List Server → List Server
servers_after m (Act.AtServer server step) servers = change_at server (server_next m) servers
servers_after m act servers = servers

abbrev pub calling_by : Script → MadeStep → Option Work → Calling → Calling
calling_by script m None calling = calling
calling_by script m (Some work) calling = calling_next script work m calling

abbrev pub clients_after : Script → MadeStep → Actor → List Calling → List Calling
clients_after script m (actor.Client i) callings = change_at i (calling_by script m (slice_get (client_work script) i)) callings
clients_after script m who callings = callings

abbrev pub repairers_after : Script → MadeStep → Actor → List Calling → List Calling
repairers_after script m (actor.Repairer i) callings = change_at i (calling_by script m (slice_get (repairer_work script) i)) callings
repairers_after script m who callings = callings

abbrev pub sweeper_after : Script → MadeStep → Actor → Sweeper → Sweeper
sweeper_after script m actor.Sweeper sweeper = sweeper_next script m sweeper
sweeper_after script m who sweeper = sweeper

abbrev pub places_after : MadeStep → Places → Places
places_after m places = record { directory = directory_next m places.directory; servers = servers_after m m.act places.servers }

abbrev pub core_after : Script → MadeStep → Core → Core
core_after script m core =
    record {
      directory = directory_next m core.directory;
      servers = servers_after m m.act core.servers;
      clients = clients_after script m m.actor core.clients;
      repairers = repairers_after script m m.actor core.repairers;
      sweeper = sweeper_after script m m.actor core.sweeper;
    }

-- ---- lists
change_same : {X : Type 0} (i : ℕ) (f : X → X) (xs : List X) (x : X) → slice_get xs i ≡ Some x → change_at i (λ _. f x) xs ≡ change_at i f xs
change_same i f [] x e = refl
change_same zero f (y ∷ xs) x e = ap (λ z. f z ∷ xs) (sym (same_Some y x e))
change_same (suc i) f (y ∷ xs) x e = ap (λ l. y ∷ l) (change_same i f xs x e)

-- the step of a record
abbrev pub made_by : Actor → ℕ → Shortage → Told → ℕ → Act → MadeStep
made_by who number shortage answer moment act = record { actor = who; number = number; shortage = shortage; act = act; answer = answer; moment = moment }

-- ---- places
module _ (who : Actor) (number : ℕ) (shortage : Shortage) (answer : Told) (moment : ℕ) where
  pub places_answer : (act : Act) (rest : List MadeStep) (places : Places) → IsAtAPlace act
      → AllCome directory_next DirectoryAnswers (filter (is_at ActPlace.Directory) (made_by who number shortage answer moment act ∷ rest)) places.directory
      → ((j : ℕ) → ComeIfThere (AllCome server_next ServerAnswers) (filter (is_at (ActPlace.Server j)) (made_by who number shortage answer moment act ∷ rest)) (slice_get places.servers j))
      → at_places shortage.step who number act places ≡ (places_after (made_by who number shortage answer moment act) places, answer)
  places_answer (Act.AtDirectory step) rest places ok d s = ap (λ t. (places_after (made_by who number shortage answer moment (Act.AtDirectory step)) places, t)) d.0
  places_answer (Act.AtServer server step) rest places ok d s =
      by (slice_get places.servers server) refl
      (subst (λ b. ComeIfThere (AllCome server_next ServerAnswers) (cond {A = List MadeStep} b (m ∷ later) later) (slice_get places.servers server)) (eq-eqb server server refl) (s server))
    where
      m : MadeStep
      m = made_by who number shortage answer moment (Act.AtServer server step)

      later : List MadeStep
      later = filter (is_at (ActPlace.Server server)) rest

      by : (found : Option Server) → slice_get places.servers server ≡ found → ComeIfThere (AllCome server_next ServerAnswers) (m ∷ later) found
          → at_server_there shortage.step server step places found ≡ (places_after m places, answer)
      by None e h = absurd (cc (h))
      by (Some there) e h =
          let servers : change_at server (λ _. (at_server shortage.step step there).0) places.servers ≡ change_at server (server_next m) places.servers = change_same server (server_next m) places.servers there e in
          let told : (at_server shortage.step step there).1 ≡ answer = h.0 in
          λ i. (record { directory = places.directory; servers = servers i }, told i)
  places_answer (Act.Finish outcome) rest places ok d s = absurd ok

-- ---- calls
module _ (script : Script) (m : MadeStep) (calling : Calling) (places : Places) (answers : at_places m.shortage.step m.actor m.number m.act places ≡ (places_after m places, m.answer)) where
  job_steps : (found : Option Job) → IsNextOf script m calling found → job_step script m.shortage m.actor calling places found ≡ Some (places_after m places, called_next script m found calling)
  job_steps None h = absurd h
  job_steps (Some job) h =
      let step : Act → ℕ → Option (Places × Calling) =
      λ act number. Some ((at_places m.shortage.step m.actor number act places).0, after_answer script.geometry (tries_of script) job (told_now script m job calling) act (at_places m.shortage.step m.actor number act places).1 calling) in
      let named : step _ (length calling.ended) ≡ step m.act m.number = λ i. step (h.0 i) (sym h.1 i) in
      named ∙ ap (λ (after : Places × Told). Some (after.0, after_answer script.geometry (tries_of script) job (told_now script m job calling) m.act after.1 calling)) answers

  pub call_steps : (work : Work) (b : Bool) → IsNextOf script m calling (job_if b work calling) → step_if b script m.shortage m.actor work calling places ≡ Some (places_after m places, called_next script m (job_if b work calling) calling)
  call_steps work true h = job_steps (slice_get work.jobs (length calling.ended)) h
  call_steps work false h = absurd h

-- ---- lines
line_acts : (script : Script) (run : Run) (line : Token) (act : Act) → operator_act line ≡ Some act → step_core script (line_of act) run ≡ operator_step act run
line_acts script run (token.Wipe server) act e = subst (λ (a : Act). step_core script (line_of a) run ≡ operator_step a run) (same_Some _ act e) refl
line_acts script run (token.Down server) act e = subst (λ (a : Act). step_core script (line_of a) run ≡ operator_step a run) (same_Some _ act e) refl
line_acts script run (token.Up server) act e = subst (λ (a : Act). step_core script (line_of a) run ≡ operator_step a run) (same_Some _ act e) refl
line_acts script run (token.ReapClient i) act e = subst (λ (a : Act). step_core script (line_of a) run ≡ operator_step a run) (same_Some _ act e) refl
line_acts script run (token.ReapRepairer i) act e = subst (λ (a : Act). step_core script (line_of a) run ≡ operator_step a run) (same_Some _ act e) refl
line_acts script run (token.Client i) act e = absurd (none-some act e)
line_acts script run (token.Repairer i) act e = absurd (none-some act e)
line_acts script run token.Sweep act e = absurd (none-some act e)
line_acts script run token.Drain act e = absurd (none-some act e)

-- ---- one step
module _ (script : Script) (lines : List Token) (core : Core) (left : List Shortage) (more : List MadeStep) where
  abbrev GoesOn : MadeStep → Type 0
  GoesOn m = GoOn script lines core (λ place. filter (is_at place) (m ∷ more)) (λ who. filter (is_by who) (m ∷ more))

  abbrev run_of : MadeStep → Run
  run_of m = record { core = core; shortages = m.shortage ∷ left }

  abbrev Steps : MadeStep → Type 0
  Steps m = step_core script (token_of m) (run_of m) ≡ record { core = core_after script m core; shortages = left }

  answered : (who : Actor) (number : ℕ) (shortage : Shortage) (answer : Told) (moment : ℕ) (act : Act) → GoesOn (made_by who number shortage answer moment act) → IsAtAPlace act
      → at_places shortage.step who number act (places_in core) ≡ (places_after (made_by who number shortage answer moment act) (places_in core), answer)
  answered who number shortage answer moment act go placed = places_answer who number shortage answer moment act more (places_in core) placed go.directory go.servers

  client_is : (i number : ℕ) (shortage : Shortage) (answer : Told) (moment : ℕ) (act : Act) → GoesOn (made_by (actor.Client i) number shortage answer moment act) → Steps (made_by (actor.Client i) number shortage answer moment act)
  client_is i number shortage answer moment act go =
      by (slice_get (client_work script) i) refl (slice_get core.clients i) refl
      (subst (λ b. ComeOfActor script (cond {A = List MadeStep} b (m ∷ later) later) (slice_get (client_work script) i) (slice_get core.clients i)) (eq-eqb i i refl) (go.clients i))
    where
      m : MadeStep
      m = made_by (actor.Client i) number shortage answer moment act

      later : List MadeStep
      later = filter (is_by (actor.Client i)) more

      by : (work : Option Work) → slice_get (client_work script) i ≡ work → (calling : Option Calling) → slice_get core.clients i ≡ calling → ComeOfActor script (m ∷ later) work calling
          → after_client i (run_of m) (step_of script shortage (actor.Client i) work calling (places_in core)) ≡ record { core = core_after script m core; shortages = left }
      by None e calling f h = absurd (cc (h))
      by (Some work) e None f h = absurd (cc (h))
      by (Some work) e (Some calling) f h =
          let stepped = call_steps script m calling (places_in core) (answered (actor.Client i) number shortage answer moment act go (placed (job_if (has_step work calling) work calling) h.0)) work (has_step work calling) h.0 in
          let callings : change_at i (λ _. calling_next script work m calling) core.clients ≡ change_at i (calling_by script m (slice_get (client_work script) i)) core.clients =
          change_same i (calling_by script m (Some work)) core.clients calling f ∙ ap (λ w. change_at i (calling_by script m w) core.clients) (sym e) in
          ap (after_client i (run_of m)) stepped ∙ (λ k. record { core = record { directory = directory_next m core.directory; servers = servers_after m act core.servers; clients = callings k; repairers = core.repairers; sweeper = core.sweeper }; shortages = left })
        where
          placed : (found : Option Job) → IsNextOf script m calling found → IsAtAPlace act
          placed None q = absurd q
          placed (Some job) q = q.2

  repairer_is : (i number : ℕ) (shortage : Shortage) (answer : Told) (moment : ℕ) (act : Act) → GoesOn (made_by (actor.Repairer i) number shortage answer moment act) → Steps (made_by (actor.Repairer i) number shortage answer moment act)
  repairer_is i number shortage answer moment act go =
      by (slice_get (repairer_work script) i) refl (slice_get core.repairers i) refl
      (subst (λ b. ComeOfActor script (cond {A = List MadeStep} b (m ∷ later) later) (slice_get (repairer_work script) i) (slice_get core.repairers i)) (eq-eqb i i refl) (go.repairers i))
    where
      m : MadeStep
      m = made_by (actor.Repairer i) number shortage answer moment act

      later : List MadeStep
      later = filter (is_by (actor.Repairer i)) more

      by : (work : Option Work) → slice_get (repairer_work script) i ≡ work → (calling : Option Calling) → slice_get core.repairers i ≡ calling → ComeOfActor script (m ∷ later) work calling
          → after_repairer i (run_of m) (step_of script shortage (actor.Repairer i) work calling (places_in core)) ≡ record { core = core_after script m core; shortages = left }
      by None e calling f h = absurd (cc (h))
      by (Some work) e None f h = absurd (cc (h))
      by (Some work) e (Some calling) f h =
          let stepped = call_steps script m calling (places_in core) (answered (actor.Repairer i) number shortage answer moment act go (placed (job_if (has_step work calling) work calling) h.0)) work (has_step work calling) h.0 in
          let callings : change_at i (λ _. calling_next script work m calling) core.repairers ≡ change_at i (calling_by script m (slice_get (repairer_work script) i)) core.repairers =
          change_same i (calling_by script m (Some work)) core.repairers calling f ∙ ap (λ w. change_at i (calling_by script m w) core.repairers) (sym e) in
          ap (after_repairer i (run_of m)) stepped ∙ (λ k. record { core = record { directory = directory_next m core.directory; servers = servers_after m act core.servers; clients = core.clients; repairers = callings k; sweeper = core.sweeper }; shortages = left })
        where
          placed : (found : Option Job) → IsNextOf script m calling found → IsAtAPlace act
          placed None q = absurd q
          placed (Some job) q = q.2

  sweeper_is : (number : ℕ) (shortage : Shortage) (answer : Told) (moment : ℕ) (act : Act) → GoesOn (made_by actor.Sweeper number shortage answer moment act) → Steps (made_by actor.Sweeper number shortage answer moment act)
  sweeper_is number shortage answer moment act go =
      let m : MadeStep = made_by actor.Sweeper number shortage answer moment act in
      let first : IsNextSweep script m core.sweeper = go.sweeper.0 in
      let n : ℕ = chunk_count script.geometry in
      let after : Places × Told → Run = λ both. after_step (run_of m) (with_places both.0 (record core { sweeper = after_sweep n core.sweeper both.1 })) in
      let named : after (at_places false actor.Sweeper 0 (next_sweep n core.sweeper) (places_in core)) ≡ after (at_places shortage.step actor.Sweeper number act (places_in core)) =
      λ k. after (at_places (sym first.alone.shortage k).step actor.Sweeper (sym first.alone.number k) (sym first.act k) (places_in core)) in
      named ∙ ap after (answered actor.Sweeper number shortage answer moment act go first.alone.placed)

  operator_is : (number : ℕ) (shortage : Shortage) (answer : Told) (moment : ℕ) (act : Act) → GoesOn (made_by actor.Operator number shortage answer moment act) → Steps (made_by actor.Operator number shortage answer moment act)
  operator_is number shortage answer moment act go = by lines go.operator
    where
      m : MadeStep
      m = made_by actor.Operator number shortage answer moment act

      by : (ls : List Token) → AllCome lines_next IsNextLine (m ∷ filter (is_by actor.Operator) more) ls → Steps m
      by [] h = absurd h.0
      by (line ∷ ls) h =
          let alone : HasNoCall m = h.0.1 in
          let after : Places × Told → Run = λ both. after_step (run_of m) (with_places both.0 core) in
          line_acts script (run_of m) line act h.0.0
          ∙ (λ k. after (at_places (sym alone.shortage k).step actor.Operator (sym alone.number k) act (places_in core)))
          ∙ ap after (answered actor.Operator number shortage answer moment act go alone.placed)

  step_by : (who : Actor) (number : ℕ) (shortage : Shortage) (answer : Told) (moment : ℕ) (act : Act) → GoesOn (made_by who number shortage answer moment act) → Steps (made_by who number shortage answer moment act)
  step_by (actor.Client i) number shortage answer moment act go = client_is i number shortage answer moment act go
  step_by (actor.Repairer i) number shortage answer moment act go = repairer_is i number shortage answer moment act go
  step_by actor.Sweeper number shortage answer moment act go = sweeper_is number shortage answer moment act go
  step_by actor.Operator number shortage answer moment act go = operator_is number shortage answer moment act go

  -- the run's step is that of the lists
  pub step_is : (m : MadeStep) → GoesOn m → Steps m
  step_is m go = step_by m.actor m.number m.shortage m.answer m.moment m.act go
