-- The law of merging, by one induction on the list in order.
-- No commuting of steps: of two lists with the same steps of each actor, of which one doesn't fall and one rises strictly, the one is the
-- other, so each place's list is its part of the ordered list; then one induction on that list, each part seen through a filter: the head
-- is the head of its place's and of its actor's list, so step_core of its token makes it, and all other parts stay. The stable sort is
-- such a list.
use Rattle.std.proofs.Common.{◌≡◌, ◌≢◌, ℕ, zero, suc, Bool, true, false, cond, nat_eq, List, [], ◌∷◌, map, filter, Option, None, Some, option_map, refl, sym, ap, subst, ◌∙◌, eq-eqb, eqb-true, true≢false}
use Rattle.std.specs.List.{slice_get}
use Rattle.store_map.specs.declared.script.Script.{Script}
use Rattle.store_map.specs.declared.actor.Actor.{Actor}
use Rattle.store_map.specs.declared.actor.Actor.TheVariants as actor
use Rattle.store_map.specs.declared.actor.Token.{Token}
use Rattle.store_core.specs.Lists.{change_at}
use Rattle.store_core.specs.Told.{Told}
use Rattle.store_core.specs.Act.{Act}
use Rattle.store_core.specs.Directory.{Directory}
use Rattle.store_core.specs.Server.{Server}
use Rattle.store_core.specs.Sweep.{Sweeper}
use Rattle.store_core.specs.Work.{Work, Calling, client_work, repairer_work}
use Rattle.store_core.specs.Step.{Shortage}
use Rattle.store_core.specs.Core.{Core, first_core}
use Rattle.store_core.specs.Run.{Run}
use Rattle.store_core.specs.Schedule.{run_tokens, run_core}
use Rattle.store_core.proofs.Places.{slice_get-change_at}
use Rattle.store_core.specs.ActPlace.{ActPlace}
use Rattle.thread_laws.specs.MadeSteps.{MadeStep, is_by, is_at}
use Rattle.thread_laws.specs.AtPlaces.{after_all, AllCome, directory_next, DirectoryAnswers, server_next, ServerAnswers}
use Rattle.thread_laws.specs.ByActors.{calling_next, IsNext, sweeper_next, IsNextSweep}
use Rattle.thread_laws.specs.Lines.{lines_next, IsNextLine, token_of}
use Rattle.thread_laws.specs.Histories.{ComeIfThere, ComeOfActor, GoOn}
use Rattle.thread_laws.specs.Merging.{calling_after, EndAs, Merges}
use Rattle.thread_laws.proofs.Orders.{place_in_order}
use Rattle.thread_laws.proofs.Steps.{servers_after, calling_by, clients_after, repairers_after, sweeper_after, core_after, made_by, step_is}

-- ---- lists
change_get : {X : Type 0} (i : ℕ) (f : X → X) (xs : List X) → slice_get (change_at i f xs) i ≡ option_map f (slice_get xs i)
change_get i f [] = refl
change_get zero f (x ∷ xs) = refl
change_get (suc i) f (x ∷ xs) = change_get i f xs

change_none : {X : Type 0} (i : ℕ) (xs : List X) → change_at i (λ (x : X). x) xs ≡ xs
change_none i [] = refl
change_none zero (x ∷ xs) = refl
change_none (suc i) (x ∷ xs) = ap (λ l. x ∷ l) (change_none i xs)

map_none : {X : Type 0} (x : Option X) → x ≡ option_map (λ (y : X). y) x
map_none None = refl
map_none (Some x) = refl

apart : (j i : ℕ) → nat_eq j i ≡ false → j ≢ i
apart j i q e = true≢false (sym (eq-eqb j i e) ∙ q)

-- ---- one of a list of parts
module _ {S : Type 0} (next : MadeStep → S → S) (MayCome : MadeStep → S → Type 0) (m : MadeStep) (rest : List MadeStep) where
  one_first : (found : Option S) → ComeIfThere (AllCome next MayCome) (m ∷ rest) found → ComeIfThere (AllCome next MayCome) rest (option_map (next m) found)
  one_first None h = absurd (cc (h))
  one_first (Some s) h = h.1

  one_goes : (b : Bool) (i j : ℕ) (xs : List S) → nat_eq j i ≡ b → ComeIfThere (AllCome next MayCome) (cond {A = List MadeStep} b (m ∷ rest) rest) (slice_get xs j)
      → ComeIfThere (AllCome next MayCome) rest (slice_get (change_at i (next m) xs) j)
  one_goes true i j xs q h =
      subst (λ k. ComeIfThere (AllCome next MayCome) rest (slice_get (change_at k (next m) xs) j)) (eqb-true j i q)
      (subst (ComeIfThere (AllCome next MayCome) rest) (sym (change_get j (next m) xs)) (one_first (slice_get xs j) h))
  one_goes false i j xs q h = subst (ComeIfThere (AllCome next MayCome) rest) (sym (slice_get-change_at i j (next m) xs (apart j i q))) h

  all_first : (found : Option S) → option_map (after_all next rest) (option_map (next m) found) ≡ option_map (after_all next (m ∷ rest)) found
  all_first None = refl
  all_first (Some s) = refl

  one_ends : (b : Bool) (i j : ℕ) (xs : List S) → nat_eq j i ≡ b
      → option_map (after_all next rest) (slice_get (change_at i (next m) xs) j) ≡ option_map (after_all next (cond {A = List MadeStep} b (m ∷ rest) rest)) (slice_get xs j)
  one_ends true i j xs q =
      ap (option_map (after_all next rest)) (ap (λ k. slice_get (change_at k (next m) xs) j) (sym (eqb-true j i q)) ∙ change_get j (next m) xs) ∙ all_first (slice_get xs j)
  one_ends false i j xs q = ap (option_map (after_all next rest)) (slice_get-change_at i j (next m) xs (apart j i q))

-- ---- one of a list of actors
module _ (script : Script) (m : MadeStep) (rest : List MadeStep) (works : List Work) (i j : ℕ) (callings : List Calling) where
  abbrev now : List Calling
  now = change_at i (calling_by script m (slice_get works i)) callings

  actor_goes : (work : Option Work) → slice_get works j ≡ work → (b : Bool) → nat_eq j i ≡ b → ComeOfActor script (cond {A = List MadeStep} b (m ∷ rest) rest) work (slice_get callings j)
      → ComeOfActor script rest work (slice_get now j)
  actor_goes None f true q h = absurd (cc (h))
  actor_goes None f false q h = h
  actor_goes (Some work) f true q h =
      subst (λ w. ComeIfThere (AllCome (calling_next script work) (IsNext script work)) rest (slice_get (change_at i (calling_by script m w) callings) j))
      (sym (ap (slice_get works) (sym (eqb-true j i q)) ∙ f))
      (one_goes (calling_next script work) (IsNext script work) m rest true i j callings q h)
  actor_goes (Some work) f false q h =
      subst (ComeIfThere (AllCome (calling_next script work) (IsNext script work)) rest) (sym (slice_get-change_at i j (calling_by script m (slice_get works i)) callings (apart j i q))) h

  actor_ends : (work : Option Work) → slice_get works j ≡ work → (b : Bool) → nat_eq j i ≡ b
      → option_map (calling_after script rest work) (slice_get now j) ≡ option_map (calling_after script (cond {A = List MadeStep} b (m ∷ rest) rest) work) (slice_get callings j)
  actor_ends None f true q =
      ap (option_map (λ (c : Calling). c))
      (ap (λ w. slice_get (change_at i (calling_by script m w) callings) j) (ap (slice_get works) (sym (eqb-true j i q)) ∙ f) ∙ ap (λ l. slice_get l j) (change_none i callings))
  actor_ends None f false q = ap (option_map (λ (c : Calling). c)) (slice_get-change_at i j (calling_by script m (slice_get works i)) callings (apart j i q))
  actor_ends (Some work) f true q =
      ap (λ w. option_map (after_all (calling_next script work) rest) (slice_get (change_at i (calling_by script m w) callings) j)) (ap (slice_get works) (sym (eqb-true j i q)) ∙ f)
      ∙ one_ends (calling_next script work) (IsNext script work) m rest true i j callings q
  actor_ends (Some work) f false q =
      ap (option_map (after_all (calling_next script work) rest)) (slice_get-change_at i j (calling_by script m (slice_get works i)) callings (apart j i q))

-- ---- one step
module _ (script : Script) (number : ℕ) (shortage : Shortage) (answer : Told) (moment : ℕ) (more : List MadeStep) where
  abbrev pub made : Actor → Act → MadeStep
  made who act = made_by who number shortage answer moment act

  abbrev pub At : List MadeStep → ActPlace → List MadeStep
  At steps place = filter (is_at place) steps

  abbrev pub Of : List MadeStep → Actor → List MadeStep
  Of steps who = filter (is_by who) steps

  module _ (who : Actor) where
    directory_goes : (act : Act) (d : Directory) → AllCome directory_next DirectoryAnswers (At (made who act ∷ more) ActPlace.Directory) d → AllCome directory_next DirectoryAnswers (At more ActPlace.Directory) (directory_next (made who act) d)
    directory_goes (Act.AtDirectory step) d h = h.1
    directory_goes (Act.AtServer server step) d h = h
    directory_goes (Act.Finish outcome) d h = h

    pub directory_ends : (act : Act) (d : Directory) → after_all directory_next (At more ActPlace.Directory) (directory_next (made who act) d) ≡ after_all directory_next (At (made who act ∷ more) ActPlace.Directory) d
    directory_ends (Act.AtDirectory step) d = refl
    directory_ends (Act.AtServer server step) d = refl
    directory_ends (Act.Finish outcome) d = refl

    servers_go : (act : Act) (servers : List Server) (j : ℕ) → ComeIfThere (AllCome server_next ServerAnswers) (At (made who act ∷ more) (ActPlace.Server j)) (slice_get servers j)
        → ComeIfThere (AllCome server_next ServerAnswers) (At more (ActPlace.Server j)) (slice_get (servers_after (made who act) act servers) j)
    servers_go (Act.AtDirectory step) servers j h = h
    servers_go (Act.AtServer server step) servers j h = one_goes server_next ServerAnswers (made who (Act.AtServer server step)) (At more (ActPlace.Server j)) (nat_eq j server) server j servers refl h
    servers_go (Act.Finish outcome) servers j h = h

    servers_end : (act : Act) (servers : List Server) (j : ℕ)
        → option_map (after_all server_next (At more (ActPlace.Server j))) (slice_get (servers_after (made who act) act servers) j) ≡ option_map (after_all server_next (At (made who act ∷ more) (ActPlace.Server j))) (slice_get servers j)
    servers_end (Act.AtDirectory step) servers j = refl
    servers_end (Act.AtServer server step) servers j = one_ends server_next ServerAnswers (made who (Act.AtServer server step)) (At more (ActPlace.Server j)) (nat_eq j server) server j servers refl
    servers_end (Act.Finish outcome) servers j = refl

  module _ (act : Act) where
    clients_go : (who : Actor) (callings : List Calling) (j : ℕ) → ComeOfActor script (Of (made who act ∷ more) (actor.Client j)) (slice_get (client_work script) j) (slice_get callings j)
        → ComeOfActor script (Of more (actor.Client j)) (slice_get (client_work script) j) (slice_get (clients_after script (made who act) who callings) j)
    clients_go (actor.Client i) callings j h =
        actor_goes script (made (actor.Client i) act) (Of more (actor.Client j)) (client_work script) i j callings (slice_get (client_work script) j) refl (nat_eq j i) refl h
    clients_go (actor.Repairer i) callings j h = h
    clients_go actor.Sweeper callings j h = h
    clients_go actor.Operator callings j h = h

    clients_end : (who : Actor) (callings : List Calling) (j : ℕ)
        → option_map (calling_after script (Of more (actor.Client j)) (slice_get (client_work script) j)) (slice_get (clients_after script (made who act) who callings) j)
        ≡ option_map (calling_after script (Of (made who act ∷ more) (actor.Client j)) (slice_get (client_work script) j)) (slice_get callings j)
    clients_end (actor.Client i) callings j =
        actor_ends script (made (actor.Client i) act) (Of more (actor.Client j)) (client_work script) i j callings (slice_get (client_work script) j) refl (nat_eq j i) refl
    clients_end (actor.Repairer i) callings j = refl
    clients_end actor.Sweeper callings j = refl
    clients_end actor.Operator callings j = refl

    repairers_go : (who : Actor) (callings : List Calling) (j : ℕ) → ComeOfActor script (Of (made who act ∷ more) (actor.Repairer j)) (slice_get (repairer_work script) j) (slice_get callings j)
        → ComeOfActor script (Of more (actor.Repairer j)) (slice_get (repairer_work script) j) (slice_get (repairers_after script (made who act) who callings) j)
    repairers_go (actor.Repairer i) callings j h =
        actor_goes script (made (actor.Repairer i) act) (Of more (actor.Repairer j)) (repairer_work script) i j callings (slice_get (repairer_work script) j) refl (nat_eq j i) refl h
    repairers_go (actor.Client i) callings j h = h
    repairers_go actor.Sweeper callings j h = h
    repairers_go actor.Operator callings j h = h

    repairers_end : (who : Actor) (callings : List Calling) (j : ℕ)
        → option_map (calling_after script (Of more (actor.Repairer j)) (slice_get (repairer_work script) j)) (slice_get (repairers_after script (made who act) who callings) j)
        ≡ option_map (calling_after script (Of (made who act ∷ more) (actor.Repairer j)) (slice_get (repairer_work script) j)) (slice_get callings j)
    repairers_end (actor.Repairer i) callings j =
        actor_ends script (made (actor.Repairer i) act) (Of more (actor.Repairer j)) (repairer_work script) i j callings (slice_get (repairer_work script) j) refl (nat_eq j i) refl
    repairers_end (actor.Client i) callings j = refl
    repairers_end actor.Sweeper callings j = refl
    repairers_end actor.Operator callings j = refl

    sweeper_goes : (who : Actor) (s : Sweeper) → AllCome (sweeper_next script) (IsNextSweep script) (Of (made who act ∷ more) actor.Sweeper) s
        → AllCome (sweeper_next script) (IsNextSweep script) (Of more actor.Sweeper) (sweeper_after script (made who act) who s)
    sweeper_goes (actor.Client i) s h = h
    sweeper_goes (actor.Repairer i) s h = h
    sweeper_goes actor.Sweeper s h = h.1
    sweeper_goes actor.Operator s h = h

    sweeper_ends : (who : Actor) (s : Sweeper) → after_all (sweeper_next script) (Of more actor.Sweeper) (sweeper_after script (made who act) who s) ≡ after_all (sweeper_next script) (Of (made who act ∷ more) actor.Sweeper) s
    sweeper_ends (actor.Client i) s = refl
    sweeper_ends (actor.Repairer i) s = refl
    sweeper_ends actor.Sweeper s = refl
    sweeper_ends actor.Operator s = refl

    abbrev pub lines_after : Actor → List Token → List Token
    lines_after actor.Operator lines = lines_next (made actor.Operator act) lines
    lines_after who lines = lines

    operator_goes : (who : Actor) (lines : List Token) → AllCome lines_next IsNextLine (Of (made who act ∷ more) actor.Operator) lines → AllCome lines_next IsNextLine (Of more actor.Operator) (lines_after who lines)
    operator_goes (actor.Client i) lines h = h
    operator_goes (actor.Repairer i) lines h = h
    operator_goes actor.Sweeper lines h = h
    operator_goes actor.Operator lines h = h.1

    -- the lists go on after the step
    pub goes : (who : Actor) (lines : List Token) (core : Core) → GoOn script lines core (At (made who act ∷ more)) (Of (made who act ∷ more))
        → GoOn script (lines_after who lines) (core_after script (made who act) core) (At more) (Of more)
    goes who lines core go =
        record {
          directory = directory_goes who act core.directory go.directory;
          servers = λ j. servers_go who act core.servers j (go.servers j);
          clients = λ j. clients_go who core.clients j (go.clients j);
          repairers = λ j. repairers_go who core.repairers j (go.repairers j);
          sweeper = sweeper_goes who core.sweeper go.sweeper;
          operator = operator_goes who lines go.operator;
        }

    -- and end as before it
    ends : (who : Actor) (core end : Core) → EndAs script (core_after script (made who act) core) (At more) (Of more) end → EndAs script core (At (made who act ∷ more)) (Of (made who act ∷ more)) end
    ends who core end e =
        record {
          directory = e.directory ∙ directory_ends who act core.directory;
          servers = λ j. e.servers j ∙ servers_end who act core.servers j;
          clients = λ j. e.clients j ∙ clients_end who core.clients j;
          repairers = λ j. e.repairers j ∙ repairers_end who core.repairers j;
          sweeper = e.sweeper ∙ sweeper_ends who core.sweeper;
        }

none_made : (script : Script) (work : Option Work) (calling : Option Calling) → calling ≡ option_map (calling_after script [] work) calling
none_made script None calling = map_none calling
none_made script (Some work) calling = map_none calling

-- a list that each place and each actor may go on with is a run
pub merged : (script : Script) (steps : List MadeStep) (lines : List Token) (core : Core) → GoOn script lines core (λ place. filter (is_at place) steps) (λ who. filter (is_by who) steps)
    → EndAs script core (λ place. filter (is_at place) steps) (λ who. filter (is_by who) steps) (run_tokens script (map token_of steps) (record { core = core; shortages = map (λ (m : MadeStep). m.shortage) steps })).core
merged script [] lines core go =
    record {
      directory = refl;
      servers = λ j. map_none (slice_get core.servers j);
      clients = λ j. none_made script (slice_get (client_work script) j) (slice_get core.clients j);
      repairers = λ j. none_made script (slice_get (repairer_work script) j) (slice_get core.repairers j);
      sweeper = refl;
    }
merged script (m ∷ more) lines core go =
    subst
    (λ (run : Run). EndAs script core (λ place. filter (is_at place) (m ∷ more)) (λ who. filter (is_by who) (m ∷ more)) (run_tokens script (map token_of more) run).core)
    (sym (step_is script lines core (map (λ (x : MadeStep). x.shortage) more) more m go))
    (ends script m.number m.shortage m.answer m.moment more m.act m.actor core _
    (merged script more (lines_after script m.number m.shortage m.answer m.moment more m.act m.actor lines) (core_after script m core)
    (goes script m.number m.shortage m.answer m.moment more m.act m.actor lines core go)))

-- the law
pub merges : Merges
merges script lines h steps twice go order =
    let end : Core = run_core script (map (λ (m : MadeStep). m.shortage) steps) (map token_of steps) in
    let at : ActPlace → List MadeStep = λ place. filter (is_at place) steps in
    let of : Actor → List MadeStep = λ who. filter (is_by who) steps in
    let places : at ≡ h.at = λ i place. place_in_order h steps twice order place i in
    let actors : of ≡ h.of = λ i who. order.of who i in
    let filtered : GoOn script lines (first_core script) at of =
    subst (λ (f : ActPlace → List MadeStep). GoOn script lines (first_core script) f of) (sym places)
    (subst (λ (f : Actor → List MadeStep). GoOn script lines (first_core script) h.at f) (sym actors) go) in
    subst (λ (f : ActPlace → List MadeStep). EndAs script (first_core script) f h.of end) places
    (subst (λ (f : Actor → List MadeStep). EndAs script (first_core script) at f end) actors (merged script steps lines (first_core script) filtered))
