-- In every run what calls took adds up to what the servers gave, and a server's epoch is how often the operator emptied it.
use Rattle.std.proofs.Common.{◌≡◌, ℕ, zero, suc, ◌+◌, ◌-◌, ◌^◌, ◌<◌, ◌≤◌, min, Bool, true, false, ◌||◌, cond, nat_eq, nat_lt, List, [], ◌∷◌, ◌++◌, length, map, filter, flat_map, replicate, sum_by, count_by, get_or, Option, None, Some, All, IsTrue, ◌⊎◌, inl, inr, refl, sym, ap, subst, ◌∙◌, arith, true≢false, length-append}
use Rattle.std.proofs.lemmas.Bool.{cond_both, cases_eq, eq-eqb, ne_eqb, ltb-false}
use Rattle.std.proofs.lemmas.Option.{none-some, same_Some}
use Rattle.std.proofs.lemmas.List.{length-replicate}
use Rattle.std.proofs.lemmas.List.Elements.{filter-append, All-nil, All-cons}
use Rattle.std.proofs.lemmas.List.Sums.{sum_by-cons, sum_by-append, length-filter}
use Rattle.std.specs.List.{slice_get, enumerate_from, list_any}
use Rattle.clay_grid.specs.Shape.{Shape, chunk_count}
use Rattle.store_map.specs.Limits.{tries_of}
use Rattle.store_map.specs.declared.actor.Actor.{Actor}
use Rattle.store_map.specs.declared.actor.Actor.TheVariants as actor
use Rattle.store_map.specs.declared.actor.Token.{Token}
use Rattle.store_map.specs.declared.actor.Token.TheVariants as token
use Rattle.store_map.specs.declared.script.Script.{Script}
use Rattle.store_map.specs.declared.call_name.CallName.{CallName}
use Rattle.store_map.specs.declared.line.GLine.{GLine}
use Rattle.store_map.specs.declared.line.TLine.{TLine}
use Rattle.store_core.specs.Act.{Act, DirectoryStep, ServerStep}
use Rattle.store_core.specs.Core.{Core, first_core}
use Rattle.store_core.specs.Lists.{change_at}
use Rattle.store_core.specs.NextAct.{Job, next_act}
use Rattle.store_core.specs.Run.{places_in}
use Rattle.store_core.specs.Schedule.{run_core}
use Rattle.store_core.specs.Server.{Server, new_server, raised_by, at_server}
use Rattle.store_core.specs.Shown.{shown, take_line, take_lines, lines_of_actors, client_name, repairer_name}
use Rattle.store_core.specs.Step.{Shortage, Places, at_places, at_server_there, take_from, ended_by, actor_step}
use Rattle.store_core.specs.Sweep.{Sweeper, next_sweep}
use Rattle.store_core.specs.Tell.{tell}
use Rattle.store_core.specs.Told.{Told}
use Rattle.store_core.specs.Work.{Ended, Calling, new_calling}
use Rattle.run_laws.specs.AnswerLaws.{is_of_call}
use Rattle.store_core.proofs.Places.{length-change_at, slice_get-change_at}
use Rattle.run_laws.proofs.SoundVersions.{change_here}
use Rattle.run_laws.proofs.Proper.{IsProper, HasTry}
use Rattle.run_laws.proofs.Runs.{CanRun}
use Rattle.run_laws.proofs.RunsSound.{RunKeeps}
use Rattle.run_laws.proofs.Scripts.{replicated}
use Rattle.hist_rules.specs.Counts.{is_wipe_of}
use Rattle.history_laws.proofs.Naming.{wipes}
use Rattle.store_map.specs.declared.transcript.Transcript.{Transcript}
use Rattle.history_laws.proofs.ActorLines.{each_changed}
use Rattle.history_laws.proofs.AtWork.{AtWork, client_at, repairer_at, first, act, after, proper}
use Rattle.history_laws.proofs.Given.{Was, WipesNot, act_matches, sums_match}
use Rattle.history_laws.proofs.Induction.{IsQuiet, KeptBySteps, operator_after, run_has}
use Rattle.history_laws.specs.HistoryLaws.{HasFewWipes}
use Rattle.history_laws.proofs.ServerEpochs.{IsNoWipe}

-- ---- sums
-- what an actor's calls took from a server
abbrev pub of_ended : ℕ → Ended → ℕ
of_ended j ended = get_or ended.takes j 0

abbrev pub total : ℕ → Calling → ℕ
total j calling = sum_by (of_ended j) calling.ended + get_or calling.takes j 0

-- of all actors of a kind
abbrev pub group : ℕ → List Calling → ℕ
group j callings = sum_by (total j) callings

-- one actor changed
group_changed : (j i : ℕ) (old new : Calling) (callings : List Calling) → slice_get callings i ≡ Some old → group j (change_at i (λ _. new) callings) + total j old ≡ group j callings + total j new
group_changed j i old new [] e = absurd (none-some old e)
group_changed j zero old new (c ∷ cs) e =
    let same : total j c ≡ total j old = ap (total j) (same_Some c old e) in
    let before : group j (c ∷ cs) ≡ total j c + group j cs = sum_by-cons (total j) c cs in
    let now : group j (new ∷ cs) ≡ total j new + group j cs = sum_by-cons (total j) new cs in
    let a : ℕ = group j (c ∷ cs) in
    let b : ℕ = group j (new ∷ cs) in
    let r : ℕ = group j cs in
    let x : ℕ = total j c in
    let y : ℕ = total j old in
    let z : ℕ = total j new in
    let all : b + y ≡ a + z = omega (arith, same, before, now) in
    all
group_changed j (suc i) old new (c ∷ cs) e =
    let rest : group j (change_at i (λ _. new) cs) + total j old ≡ group j cs + total j new = group_changed j i old new cs e in
    let before : group j (c ∷ cs) ≡ total j c + group j cs = sum_by-cons (total j) c cs in
    let now : group j (c ∷ change_at i (λ _. new) cs) ≡ total j c + group j (change_at i (λ _. new) cs) = sum_by-cons (total j) c (change_at i (λ _. new) cs) in
    let a : ℕ = group j (c ∷ cs) in
    let b : ℕ = group j (c ∷ change_at i (λ _. new) cs) in
    let r : ℕ = group j cs in
    let q : ℕ = group j (change_at i (λ _. new) cs) in
    let x : ℕ = total j c in
    let y : ℕ = total j old in
    let z : ℕ = total j new in
    let all : b + y ≡ a + z = omega (arith, rest, before, now) in
    all

-- one actor's is no more than all
total_below : (j i : ℕ) (calling : Calling) (callings : List Calling) → slice_get callings i ≡ Some calling → total j calling ≤ group j callings
total_below j i calling [] e = absurd (none-some calling e)
total_below j zero calling (c ∷ cs) e =
    let same : total j c ≡ total j calling = ap (total j) (same_Some c calling e) in
    let before : group j (c ∷ cs) ≡ total j c + group j cs = sum_by-cons (total j) c cs in
    let a : ℕ = group j (c ∷ cs) in
    let r : ℕ = group j cs in
    let x : ℕ = total j c in
    let y : ℕ = total j calling in
    let all : y ≤ a = omega (arith, same, before) in
    all
total_below j (suc i) calling (c ∷ cs) e =
    let rest : total j calling ≤ group j cs = total_below j i calling cs e in
    let before : group j (c ∷ cs) ≡ total j c + group j cs = sum_by-cons (total j) c cs in
    let a : ℕ = group j (c ∷ cs) in
    let r : ℕ = group j cs in
    let x : ℕ = total j c in
    let y : ℕ = total j calling in
    let all : y ≤ a = omega (arith, rest, before) in
    all

swap : (a b : ℕ) → a + b ≡ b + a
swap a b = omega arith

abbrev no_takes : ℕ → List ℕ
no_takes n = replicate n 0

zeros : (n j : ℕ) → get_or (no_takes n) j 0 ≡ 0
zeros zero j = refl
zeros (suc n) zero = refl
zeros (suc n) (suc j) = zeros n j

-- ---- tokens
wipes_more : (past : List Token) (next : Token) (j : ℕ) → wipes (past ++ next ∷ []) j ≡ wipes past j + length (filter (is_wipe_of j) (next ∷ []))
wipes_more past next j = ap (λ (l : List Token). length l) (filter-append (is_wipe_of j) past (next ∷ [])) ∙ length-append (filter (is_wipe_of j) past) (filter (is_wipe_of j) (next ∷ []))

-- a token that empties no server
abbrev IsDry : Token → Type 0
IsDry (token.Wipe server) = ⊥
IsDry next = Unit {0}

dry : (past : List Token) (next : Token) → IsDry next → (j : ℕ) → wipes (past ++ next ∷ []) j ≡ wipes past j
dry past (token.Client i) is j = let e : wipes (past ++ token.Client i ∷ []) j ≡ wipes past j + 0 = wipes_more past (token.Client i) j in omega (arith, e)
dry past (token.Repairer i) is j = let e : wipes (past ++ token.Repairer i ∷ []) j ≡ wipes past j + 0 = wipes_more past (token.Repairer i) j in omega (arith, e)
dry past token.Sweep is j = let e : wipes (past ++ token.Sweep ∷ []) j ≡ wipes past j + 0 = wipes_more past token.Sweep j in omega (arith, e)
dry past (token.ReapClient i) is j = let e : wipes (past ++ token.ReapClient i ∷ []) j ≡ wipes past j + 0 = wipes_more past (token.ReapClient i) j in omega (arith, e)
dry past (token.ReapRepairer i) is j = let e : wipes (past ++ token.ReapRepairer i ∷ []) j ≡ wipes past j + 0 = wipes_more past (token.ReapRepairer i) j in omega (arith, e)
dry past (token.Down server) is j = let e : wipes (past ++ token.Down server ∷ []) j ≡ wipes past j + 0 = wipes_more past (token.Down server) j in omega (arith, e)
dry past (token.Up server) is j = let e : wipes (past ++ token.Up server ∷ []) j ≡ wipes past j + 0 = wipes_more past (token.Up server) j in omega (arith, e)
dry past token.Drain is j = let e : wipes (past ++ token.Drain ∷ []) j ≡ wipes past j + 0 = wipes_more past token.Drain j in omega (arith, e)
dry past (token.Wipe server) is j = absurd is

quiet_dry : (next : Token) → IsQuiet next → IsDry next
quiet_dry (token.Wipe server) h = h
quiet_dry (token.Down server) h = absurd h
quiet_dry (token.Up server) h = absurd h
quiet_dry (token.Client i) h = tt
quiet_dry (token.Repairer i) h = tt
quiet_dry token.Sweep h = tt
quiet_dry (token.ReapClient i) h = tt
quiet_dry (token.ReapRepairer i) h = tt
quiet_dry token.Drain h = tt

fewer : (past : List Token) (next : Token) → HasFewWipes (past ++ next ∷ []) → HasFewWipes past
fewer past next few j =
    let more : wipes (past ++ next ∷ []) j ≡ wipes past j + length (filter (is_wipe_of j) (next ∷ [])) = wipes_more past next j in
    let all : wipes (past ++ next ∷ []) j ≡ count_by (is_wipe_of j) (past ++ next ∷ []) = length-filter (is_wipe_of j) (past ++ next ∷ []) in
    let some : wipes past j ≡ count_by (is_wipe_of j) past = length-filter (is_wipe_of j) past in
    let low : count_by (is_wipe_of j) (past ++ next ∷ []) < 2 ^ 64 = few j in
    omega (arith, more, all, some, low)

-- ---- what is kept
abbrev Sized : ℕ → List Calling → Type 0
Sized n callings = (i : ℕ) (c : Calling) → slice_get callings i ≡ Some c → length c.takes ≡ n

abbrev Epochs : List Token → List Server → Type 0
Epochs past servers = HasFewWipes past → (j : ℕ) (s : Server) → slice_get servers j ≡ Some s → s.epoch ≡ wipes past j

record Matching (n : ℕ) (past : List Token) (core : Core) : Type 0 where
  clients : Sized n core.clients
  repairers : Sized n core.repairers
  taken : (j : ℕ) (s : Server) → slice_get core.servers j ≡ Some s → s.taken ≡ min (group j core.clients + group j core.repairers) (2 ^ 64 - 1)
  epochs : Epochs past core.servers

-- ---- an actor's step
no_wipe : (g : Shape) (job : Job) (room : Type 0) (a : Act) → IsProper g job room a → WipesNot a
no_wipe g job room (Act.AtServer server ServerStep.Wipe) h = absurd (true≢false (sym h.1))
no_wipe g job room (Act.AtServer server step) h = by step h.1
  where
    by : (s : ServerStep) → IsTrue (is_of_call s) → IsNoWipe s
    by ServerStep.Wipe k = absurd (true≢false (sym k))
    by (ServerStep.Prepare version) k = tt
    by (ServerStep.Settle version) k = tt
    by (ServerStep.Has version) k = tt
    by (ServerStep.Fetch version layers) k = tt
    by (ServerStep.Install version) k = tt
    by (ServerStep.Discard version) k = tt
    by ServerStep.Down k = tt
    by ServerStep.Up k = tt
no_wipe g job room (Act.AtDirectory step) h = tt
no_wipe g job room (Act.Finish outcome) h = tt

took_size : (a : Act) (answer : Told) (takes : List ℕ) → length (take_from a answer takes) ≡ length takes
took_size (Act.AtServer server step) (Told.Given layers) takes = length-change_at server (raised_by layers) takes
took_size (Act.AtServer server step) answer takes = refl
took_size (Act.AtDirectory step) answer takes = refl
took_size (Act.Finish outcome) answer takes = refl

module _ (script : Script) (who : Actor) (job : Job) (calling : Calling) (places : Places) (at : AtWork script who job calling places) (shortages : Shortage) (sized : length calling.takes ≡ chunk_count script.geometry) where
  abbrev g : Shape
  g = script.geometry

  abbrev this : Act
  this = act script who job calling places at shortages.coding shortages.step

  abbrev made : Places × Told
  made = after script who job calling places at shortages.coding shortages.step

  abbrev takes_now : List ℕ
  takes_now = take_from this made.1 calling.takes

  abbrev now : List Told
  now = tell g job (first script who job calling places at shortages.coding shortages.step) made.1

  abbrev middle : Calling
  middle = record { ended = calling.ended; told = now; takes = takes_now; steps = calling.steps + 1 }

  -- what the actor took then
  new_total : (j : ℕ) (a : Act) → total j (ended_by a (chunk_count g) middle) ≡ sum_by (of_ended j) calling.ended + get_or takes_now j 0
  new_total j (Act.Finish outcome) =
      let last : Ended = record { outcome = outcome; takes = takes_now } in
      let sums : sum_by (of_ended j) (calling.ended ++ last ∷ []) ≡ sum_by (of_ended j) calling.ended + sum_by (of_ended j) (last ∷ []) = sum_by-append (of_ended j) calling.ended (last ∷ []) in
      let one : sum_by (of_ended j) (last ∷ []) ≡ get_or takes_now j 0 + sum_by (of_ended j) [] = sum_by-cons (of_ended j) last [] in
      let none : sum_by (of_ended j) [] ≡ 0 = refl in
      let zero_now : get_or (no_takes (chunk_count g)) j 0 ≡ 0 = zeros (chunk_count g) j in
      omega (arith, sums, one, none, zero_now)
  new_total j (Act.AtDirectory step) = refl
  new_total j (Act.AtServer server step) = refl

  new_size : (a : Act) → length (ended_by a (chunk_count g) middle).takes ≡ chunk_count g
  new_size (Act.Finish outcome) = length-replicate (chunk_count g) 0
  new_size (Act.AtDirectory step) = took_size this made.1 calling.takes ∙ sized
  new_size (Act.AtServer server step) = took_size this made.1 calling.takes ∙ sized

  abbrev stepped : Places × Calling
  stepped = actor_step script.geometry (tries_of script) shortages who job calling places

  step_total : (j : ℕ) → total j stepped.1 ≡ sum_by (of_ended j) calling.ended + get_or takes_now j 0
  step_total j = new_total j (next_act g (tries_of script) job now)

  step_size : length stepped.1.takes ≡ chunk_count g
  step_size = new_size (next_act g (tries_of script) job now)

  -- each server gave what the call took
  step_was : (j : ℕ) (s : Server) → slice_get stepped.0.servers j ≡ Some s → Was j places.servers s calling.takes takes_now
  step_was j s e =
      act_matches shortages.step who (length calling.ended) this places calling.takes (sized ∙ sym at.fit.servers)
      (no_wipe g job (HasTry job.note.kind (tries_of script) (first script who job calling places at shortages.coding shortages.step)) this (proper script who job calling places at shortages.coding shortages.step)) j s e

  -- what all took, where this actor is one of some
  taken_now : (i : ℕ) (callings : List Calling) (others : ℕ → ℕ) → slice_get callings i ≡ Some calling
      → ((j : ℕ) (s : Server) → slice_get places.servers j ≡ Some s → s.taken ≡ min (group j callings + others j) (2 ^ 64 - 1))
      → (j : ℕ) (s : Server) → slice_get stepped.0.servers j ≡ Some s → s.taken ≡ min (group j (change_at i (λ _. stepped.1) callings) + others j) (2 ^ 64 - 1)
  taken_now i callings others is before j s e =
      let rest : ℕ = others j in
      let was : Was j places.servers s calling.takes takes_now = step_was j s e in
      let t : ℕ = get_or calling.takes j 0 in
      let u : ℕ = get_or takes_now j 0 in
      let d : ℕ = sum_by (of_ended j) calling.ended in
      let c : ℕ = group j callings in
      let k : ℕ = group j (change_at i (λ _. stepped.1) callings) in
      let x : ℕ = total j stepped.1 in
      let below : d + t ≤ c = total_below j i calling callings is in
      let change : k + (d + t) ≡ c + x = group_changed j i calling stepped.1 callings is in
      let is_new : x ≡ d + u = step_total j in
      let parts : c + rest ≡ t + (c + rest - t) = omega (arith, below) in
      let sums : s.taken ≡ min (u + (c + rest - t)) (2 ^ 64 - 1) = sums_match j was.before s calling.takes takes_now (c + rest) (c + rest - t) was.matches parts (before j was.before was.found) in
      let same : u + (c + rest - t) ≡ k + rest = omega (arith, below, change, is_new) in
      sums ∙ ap (λ n. min n (2 ^ 64 - 1)) same

  epochs_now : (past : List Token) → Epochs past places.servers → Epochs past stepped.0.servers
  epochs_now past before few j s e = let was : Was j places.servers s calling.takes takes_now = step_was j s e in was.epoch ∙ before few j was.before was.found

-- ---- a step of the sweeper or the operator at a server
record Stood (server : ℕ) (step : ServerStep) (servers : List Server) (j : ℕ) (now : Server) : Type 0 where
  before : Server
  found : slice_get servers j ≡ Some before
  is : ((server ≡ j → ⊥) × (now ≡ before)) ⊎ ((server ≡ j) × (now ≡ (at_server false step before).0))

stood : (server : ℕ) (step : ServerStep) (places : Places) (there : Option Server) → slice_get places.servers server ≡ there → (j : ℕ) (now : Server)
    → slice_get (at_server_there false server step places there).0.servers j ≡ Some now → (Stood server step places.servers j now) ⊎ (slice_get places.servers j ≡ Some now)
stood server step places None e j now is = inr is
stood server step places (Some s) e j now is = by (cases_eq server j)
  where
    f : Server
    f = (at_server false step s).0

    by : (server ≡ j) ⊎ (server ≡ j → ⊥) → (Stood server step places.servers j now) ⊎ (slice_get places.servers j ≡ Some now)
    by (inl same) =
        let there : slice_get (change_at server (λ _. (at_server false step s).0) places.servers) server ≡ Some (at_server false step s).0 = change_here server (λ _. (at_server false step s).0) places.servers s e in
        let is_now : (at_server false step s).0 ≡ now =
        same_Some (at_server false step s).0 now (sym there ∙ subst (λ n. slice_get (change_at server (λ _. (at_server false step s).0) places.servers) n ≡ Some now) (sym same) is) in
        inl (record { before = s; found = subst (λ n. slice_get places.servers n ≡ Some s) same e; is = inr (same, sym is_now) })
    by (inr differ) = inr (sym (slice_get-change_at server j (λ _. (at_server false step s).0) places.servers (λ k. differ (sym k))) ∙ is)

-- a step after which what a server gave and its epoch are as before
abbrev IsSteady : ServerStep → Type 0
IsSteady step = (b : Server) → ((at_server false step b).0.taken ≡ b.taken) × ((at_server false step b).0.epoch ≡ b.epoch)

steady_taken : (server : ℕ) (step : ServerStep) → IsSteady step → (places : Places) (j : ℕ) (now : Server) → slice_get (at_server_there false server step places (slice_get places.servers server)).0.servers j ≡ Some now
    → (before : Server) × (slice_get places.servers j ≡ Some before) × ((now.taken ≡ before.taken) × (now.epoch ≡ before.epoch))
steady_taken server step steady places j now e = by (stood server step places (slice_get places.servers server) refl j now e)
  where
    by : (Stood server step places.servers j now) ⊎ (slice_get places.servers j ≡ Some now)
        → (before : Server) × (slice_get places.servers j ≡ Some before) × ((now.taken ≡ before.taken) × (now.epoch ≡ before.epoch))
    by (inr same) = (now, same, (refl, refl))
    by (inl h) = (h.before, h.found, two h.before h.is)
      where
        two : (b : Server) → ((server ≡ j → ⊥) × (now ≡ b)) ⊎ ((server ≡ j) × (now ≡ (at_server false step b).0)) → (now.taken ≡ b.taken) × (now.epoch ≡ b.epoch)
        two b (inl k) = (ap (λ (x : Server). x.taken) k.1, ap (λ (x : Server). x.epoch) k.1)
        two b (inr k) = (ap (λ (x : Server). x.taken) k.1 ∙ (steady b).0, ap (λ (x : Server). x.epoch) k.1 ∙ (steady b).1)

wiped : (past : List Token) (server : ℕ) (places : Places) → Epochs past places.servers → Epochs (past ++ token.Wipe server ∷ []) (at_server_there false server ServerStep.Wipe places (slice_get places.servers server)).0.servers
wiped past server places before few j now e = by (stood server ServerStep.Wipe places (slice_get places.servers server) refl j now e)
  where
    low : wipes (past ++ token.Wipe server ∷ []) j < 2 ^ 64
    low = (let all : wipes (past ++ token.Wipe server ∷ []) j ≡ count_by (is_wipe_of j) (past ++ token.Wipe server ∷ []) = length-filter (is_wipe_of j) (past ++ token.Wipe server ∷ []) in let most : count_by (is_wipe_of j) (past ++ token.Wipe server ∷ []) < 2 ^ 64 = few j in omega (arith, all, most))

    known : (b : Server) → slice_get places.servers j ≡ Some b → b.epoch ≡ wipes past j
    known b found = before (fewer past (token.Wipe server) few) j b found

    count : wipes (past ++ token.Wipe server ∷ []) j ≡ wipes past j + length (filter (is_wipe_of j) (token.Wipe server ∷ []))
    count = wipes_more past (token.Wipe server) j

    one : (b : Bool) → nat_eq j server ≡ b → length (filter (is_wipe_of j) (token.Wipe server ∷ [])) ≡ length (cond {A = List Token} b (token.Wipe server ∷ []) [])
    one b is = ap (λ c. length (cond {A = List Token} c (token.Wipe server ∷ []) [])) is

    apart : (b : Server) → slice_get places.servers j ≡ Some b → (server ≡ j → ⊥) → now ≡ b → now.epoch ≡ wipes (past ++ token.Wipe server ∷ []) j
    apart b found differ same =
        let none : length (filter (is_wipe_of j) (token.Wipe server ∷ [])) ≡ 0 = one false (ne_eqb j server (λ k. differ (sym k))) in
        let was : b.epoch ≡ wipes past j = known b found in
        let is_same : now.epoch ≡ b.epoch = ap (λ (x : Server). x.epoch) same in
        omega (arith, none, was, is_same, count)

    here : (b : Server) → slice_get places.servers j ≡ Some b → server ≡ j → now ≡ (at_server false ServerStep.Wipe b).0 → now.epoch ≡ wipes (past ++ token.Wipe server ∷ []) j
    here b found same is =
        let single : length (filter (is_wipe_of j) (token.Wipe server ∷ [])) ≡ 1 = one true (eq-eqb j server (sym same)) in
        let was : b.epoch ≡ wipes past j = known b found in
        let is_raised : now.epoch ≡ min (b.epoch + 1) (2 ^ 64 - 1) = ap (λ (x : Server). x.epoch) is in
        let short : wipes (past ++ token.Wipe server ∷ []) j < 2 ^ 64 = low in
        let sum : wipes (past ++ token.Wipe server ∷ []) j ≡ wipes past j + length (filter (is_wipe_of j) (token.Wipe server ∷ [])) = count in
        omega (arith, single, was, is_raised, short, sum)

    by : (Stood server ServerStep.Wipe places.servers j now) ⊎ (slice_get places.servers j ≡ Some now) → now.epoch ≡ wipes (past ++ token.Wipe server ∷ []) j
    by (inl h) = two h.before h.found h.is
      where
        two : (b : Server) → slice_get places.servers j ≡ Some b → ((server ≡ j → ⊥) × (now ≡ b)) ⊎ ((server ≡ j) × (now ≡ (at_server false ServerStep.Wipe b).0)) → now.epoch ≡ wipes (past ++ token.Wipe server ∷ []) j
        two b found (inl k) = apart b found k.0 k.1
        two b found (inr k) = here b found k.0 k.1
    by (inr same) = nothing_there (cases_eq server j)
      where
        nothing_there : (server ≡ j) ⊎ (server ≡ j → ⊥) → now.epoch ≡ wipes (past ++ token.Wipe server ∷ []) j
        nothing_there (inr differ) = apart now same differ refl
        nothing_there (inl is) =
            let there : slice_get places.servers server ≡ Some now = subst (λ n. slice_get places.servers n ≡ Some now) (sym is) same in
            let now_there : slice_get (at_server_there false server ServerStep.Wipe places (Some now)).0.servers j ≡ Some now = subst (λ o. slice_get (at_server_there false server ServerStep.Wipe places o).0.servers j ≡ Some now) there e in
            let changed : slice_get (change_at server (λ _. (at_server false ServerStep.Wipe now).0) places.servers) server ≡ Some (at_server false ServerStep.Wipe now).0 =
            change_here server (λ _. (at_server false ServerStep.Wipe now).0) places.servers now there in
            let is_now : (at_server false ServerStep.Wipe now).0 ≡ now =
            same_Some (at_server false ServerStep.Wipe now).0 now (sym changed ∙ subst (λ n. slice_get (change_at server (λ _. (at_server false ServerStep.Wipe now).0) places.servers) n ≡ Some now) (sym is) now_there) in
            here now same is (sym is_now)

wiped_taken : (server : ℕ) (places : Places) (j : ℕ) (now : Server) → slice_get (at_server_there false server ServerStep.Wipe places (slice_get places.servers server)).0.servers j ≡ Some now
    → (before : Server) × (slice_get places.servers j ≡ Some before) × (now.taken ≡ before.taken)
wiped_taken server places j now e = by (stood server ServerStep.Wipe places (slice_get places.servers server) refl j now e)
  where
    by : (Stood server ServerStep.Wipe places.servers j now) ⊎ (slice_get places.servers j ≡ Some now) → (before : Server) × (slice_get places.servers j ≡ Some before) × (now.taken ≡ before.taken)
    by (inr same) = (now, same, refl)
    by (inl h) = (h.before, h.found, two h.is)
      where
        two : {b : Server} → ((server ≡ j → ⊥) × (now ≡ b)) ⊎ ((server ≡ j) × (now ≡ (at_server false ServerStep.Wipe b).0)) → now.taken ≡ b.taken
        two (inl k) = ap (λ (x : Server). x.taken) k.1
        two (inr k) = ap (λ (x : Server). x.taken) k.1

module _ (script : Script) (can : CanRun script) where
  abbrev n : ℕ
  n = chunk_count script.geometry

  abbrev P : List Token → Core → Type 0
  P past core = Matching n past core

  -- the servers as they were
  dry_core : (past : List Token) (next : Token) (core : Core) → IsDry next → Epochs past core.servers → Epochs (past ++ next ∷ []) core.servers
  dry_core past next core is before few j s e = before (fewer past next few) j s e ∙ sym (dry past next is j)

  swept_servers : (past : List Token) (core : Core) → P past core → (sweeper : Sweeper)
      → ((j : ℕ) (s : Server) → slice_get (at_places false actor.Sweeper 0 (next_sweep n sweeper) (places_in core)).0.servers j ≡ Some s
      → (before : Server) × (slice_get core.servers j ≡ Some before) × ((s.taken ≡ before.taken) × (s.epoch ≡ before.epoch)))
  swept_servers past core has Sweeper.Idle j s e = (s, e, (refl, refl))
  swept_servers past core has (Sweeper.Sweeping version server) j s e =
      cond_both {A = Act} (nat_lt server n) (Act.AtServer server (ServerStep.Discard version)) (Act.AtDirectory (DirectoryStep.Swept version))
      (λ a.
      (j : ℕ) (s : Server) → slice_get (at_places false actor.Sweeper 0 a (places_in core)).0.servers j ≡ Some s
      → (before : Server) × (slice_get core.servers j ≡ Some before) × ((s.taken ≡ before.taken) × (s.epoch ≡ before.epoch)))
      (λ _ k t f. steady_taken server (ServerStep.Discard version) (λ b. (refl, refl)) (places_in core) k t f) (λ _ k t f. (t, f, (refl, refl))) j s e

  -- a server made away, or there again
  turned : (past : List Token) (next : Token) (core : Core) → IsDry next → (server : ℕ) (step : ServerStep) → IsSteady step → P past core
      → P (past ++ next ∷ []) (operator_after (Act.AtServer server step) core)
  turned past next core is_dry server step steady has =
      record {
        clients = has.clients;
        repairers = has.repairers;
        taken = λ j s e.
            let was : (before : Server) × (slice_get core.servers j ≡ Some before) × ((s.taken ≡ before.taken) × (s.epoch ≡ before.epoch)) = steady_taken server step steady (places_in core) j s e in
            was.2.0 ∙ has.taken j was.0 was.1;
        epochs = λ few j s e.
            let was : (before : Server) × (slice_get core.servers j ≡ Some before) × ((s.taken ≡ before.taken) × (s.epoch ≡ before.epoch)) = steady_taken server step steady (places_in core) j s e in
            was.2.1 ∙ dry_core past next core is_dry has.epochs few j was.0 was.1;
      }

  matching_kept : KeptBySteps script can P
  matching_kept =
      record {
        quiet = λ past next core is_quiet has.
            record { clients = has.clients; repairers = has.repairers; taken = has.taken; epochs = dry_core past next core (quiet_dry next is_quiet) has.epochs };
        client = λ past core kept has i work calling job is_work is_calling is_job shortages.
            let at : AtWork script (actor.Client i) job calling (places_in core) = client_at script can core kept i work calling job is_work is_calling is_job in
            let sized : length calling.takes ≡ n = has.clients i calling is_calling in
            let next : Places × Calling = actor_step script.geometry (tries_of script) shortages (actor.Client i) job calling (places_in core) in
            record {
              clients = each_changed (λ j c. length c.takes ≡ n) i calling next.1 core.clients is_calling (step_size script (actor.Client i) job calling (places_in core) at shortages sized) (λ j differ c e. has.clients j c e);
              repairers = has.repairers;
              taken = taken_now script (actor.Client i) job calling (places_in core) at shortages sized i core.clients (λ j. group j core.repairers) is_calling has.taken;
              epochs = epochs_now script (actor.Client i) job calling (places_in core) at shortages sized past has.epochs;
            };
        repairer = λ past core kept has i work calling job is_work is_calling is_job shortages.
            let at : AtWork script (actor.Repairer i) job calling (places_in core) = repairer_at script can core kept i work calling job is_work is_calling is_job in
            let sized : length calling.takes ≡ n = has.repairers i calling is_calling in
            let next : Places × Calling = actor_step script.geometry (tries_of script) shortages (actor.Repairer i) job calling (places_in core) in
            record {
              clients = has.clients;
              repairers = each_changed (λ j c. length c.takes ≡ n) i calling next.1 core.repairers is_calling (step_size script (actor.Repairer i) job calling (places_in core) at shortages sized) (λ j differ c e. has.repairers j c e);
              taken = λ j s e.
                  taken_now script (actor.Repairer i) job calling (places_in core) at shortages sized i core.repairers (λ k. group k core.clients) is_calling
                  (λ k b found. has.taken k b found ∙ ap (λ m. min m (2 ^ 64 - 1)) (swap (group k core.clients) (group k core.repairers))) j s e
                  ∙ ap (λ m. min m (2 ^ 64 - 1)) (swap (group j (change_at i (λ _. next.1) core.repairers)) (group j core.clients));
              epochs = epochs_now script (actor.Repairer i) job calling (places_in core) at shortages sized past has.epochs;
            };
        sweeper = λ past core kept has.
            record {
              clients = has.clients;
              repairers = has.repairers;
              taken = λ j s e. let was : (before : Server) × (slice_get core.servers j ≡ Some before) × ((s.taken ≡ before.taken) × (s.epoch ≡ before.epoch)) = swept_servers past core has core.sweeper j s e in was.2.0 ∙ has.taken j was.0 was.1;
              epochs = λ few j s e. let was : (before : Server) × (slice_get core.servers j ≡ Some before) × ((s.taken ≡ before.taken) × (s.epoch ≡ before.epoch)) = swept_servers past core has core.sweeper j s e in was.2.1 ∙ has.epochs few j was.0 was.1;
            };
        wipe = λ past core kept has server.
            record {
              clients = has.clients;
              repairers = has.repairers;
              taken = λ j s e. let was : (before : Server) × (slice_get core.servers j ≡ Some before) × (s.taken ≡ before.taken) = wiped_taken server (places_in core) j s e in was.2 ∙ has.taken j was.0 was.1;
              epochs = wiped past server (places_in core) has.epochs;
            };
        down = λ past core kept has server. turned past (token.Down server) core tt server ServerStep.Down (λ b. (refl, refl)) has;
        up = λ past core kept has server. turned past (token.Up server) core tt server ServerStep.Up (λ b. (refl, refl)) has;
        reap_client = λ past core kept has i.
            record { clients = has.clients; repairers = has.repairers; taken = has.taken; epochs = dry_core past (token.ReapClient i) core tt has.epochs };
        reap_repairer = λ past core kept has i.
            record { clients = has.clients; repairers = has.repairers; taken = has.taken; epochs = dry_core past (token.ReapRepairer i) core tt has.epochs };
      }

  -- before the first step
  none_taken : (j k : ℕ) → group j (replicate k (new_calling n)) ≡ 0
  none_taken j zero = refl
  none_taken j (suc k) =
      let rest : group j (replicate k (new_calling n)) ≡ 0 = none_taken j k in
      let here : total j (new_calling n) ≡ 0 + get_or (no_takes n) j 0 = refl in
      let zero_now : get_or (no_takes n) j 0 ≡ 0 = zeros n j in
      let sums : group j (new_calling n ∷ replicate k (new_calling n)) ≡ total j (new_calling n) + group j (replicate k (new_calling n)) = sum_by-cons (total j) (new_calling n) (replicate k (new_calling n)) in
      omega (arith, rest, here, zero_now, sums)

  new_sized : (k : ℕ) → Sized n (replicate k (new_calling n))
  new_sized k i c e = subst (λ (x : Calling). length x.takes ≡ n) (replicated k i (new_calling n) c e) (length-replicate n 0)

  first_matching : P [] (first_core script)
  first_matching =
      record {
        clients = new_sized (length script.clients);
        repairers = new_sized (length script.repairers);
        taken = λ j s e.
            let is_new : new_server ≡ s = replicated n j new_server s e in
            let none : s.taken ≡ 0 = sym (ap (λ (x : Server). x.taken) is_new) in
            let one : group j (replicate (length script.clients) (new_calling n)) ≡ 0 = none_taken j (length script.clients) in
            let two : group j (replicate (length script.repairers) (new_calling n)) ≡ 0 = none_taken j (length script.repairers) in
            omega (arith, none, one, two);
        epochs = λ few j s e. sym (ap (λ (x : Server). x.epoch) (replicated n j new_server s e));
      }

-- ---- the lines
abbrev pub column : ℕ → List GLine → ℕ
column server lines = sum_by (λ (line : GLine). get_or line.takes server 0) lines

abbrev of_line : ℕ → GLine → ℕ
of_line j line = get_or line.takes j 0

none_any : (takes : List ℕ) → list_any (nat_lt 0) takes ≡ false → (j : ℕ) → get_or takes j 0 ≡ 0
none_any [] e j = refl
none_any (x ∷ takes) e j = by (λ f k. none_any takes f k) (nat_lt 0 x) refl e j
  where
    by : (list_any (nat_lt 0) takes ≡ false → (k : ℕ) → get_or takes k 0 ≡ 0) → (b : Bool) → nat_lt 0 x ≡ b → (b || list_any (nat_lt 0) takes) ≡ false → (j : ℕ) → get_or (x ∷ takes) j 0 ≡ 0
    by rest true less f j = absurd (true≢false f)
    by rest false less f zero = (let low : x ≤ 0 = ltb-false 0 x less in omega (arith, low))
    by rest false less f (suc j) = rest f j

line_sum : (j : ℕ) (call : CallName) (takes : List ℕ) → sum_by (of_line j) (take_line call takes) ≡ get_or takes j 0
line_sum j call takes = by (list_any (nat_lt 0) takes) refl
  where
    line : GLine
    line = record { call = call; takes = takes }

    by : (b : Bool) → list_any (nat_lt 0) takes ≡ b → sum_by (of_line j) (cond {A = List GLine} b (record { call = call; takes = takes } ∷ []) []) ≡ get_or takes j 0
    by true e = (let sums : sum_by (of_line j) (line ∷ []) ≡ get_or takes j 0 + sum_by (of_line j) [] = sum_by-cons (of_line j) line [] in let none : sum_by (of_line j) [] ≡ 0 = refl in omega (arith, sums, none))
    by false e = sym (none_any takes e j)

ended_sum : (j : ℕ) (nm : ℕ → CallName) (a : ℕ) (es : List Ended) → sum_by (of_line j) (flat_map (λ entry. take_line (nm entry.0) entry.1.takes) (enumerate_from a es)) ≡ sum_by (of_ended j) es
ended_sum j nm a [] = refl
ended_sum j nm a (e ∷ es) =
    let rest : sum_by (of_line j) (flat_map (λ entry. take_line (nm entry.0) entry.1.takes) (enumerate_from (a + 1) es)) ≡ sum_by (of_ended j) es = ended_sum j nm (a + 1) es in
    let both : sum_by (of_line j) (take_line (nm a) e.takes ++ flat_map (λ entry. take_line (nm entry.0) entry.1.takes) (enumerate_from (a + 1) es))
    ≡ sum_by (of_line j) (take_line (nm a) e.takes) + sum_by (of_line j) (flat_map (λ entry. take_line (nm entry.0) entry.1.takes) (enumerate_from (a + 1) es)) =
    sum_by-append (of_line j) (take_line (nm a) e.takes) (flat_map (λ entry. take_line (nm entry.0) entry.1.takes) (enumerate_from (a + 1) es)) in
    let here : sum_by (of_line j) (take_line (nm a) e.takes) ≡ get_or e.takes j 0 = line_sum j (nm a) e.takes in
    let sums : sum_by (of_ended j) (e ∷ es) ≡ get_or e.takes j 0 + sum_by (of_ended j) es = sum_by-cons (of_ended j) e es in
    omega (arith, rest, both, here, sums)

actor_sum : (j : ℕ) (nm : ℕ → CallName) (c : Calling) → sum_by (of_line j) (take_lines nm c) ≡ total j c
actor_sum j nm c =
    let both : sum_by (of_line j) (take_lines nm c) ≡ sum_by (of_line j) (flat_map (λ entry. take_line (nm entry.0) entry.1.takes) (enumerate_from 0 c.ended)) + sum_by (of_line j) (take_line (nm (length c.ended)) c.takes) =
    sum_by-append (of_line j) (flat_map (λ entry. take_line (nm entry.0) entry.1.takes) (enumerate_from 0 c.ended)) (take_line (nm (length c.ended)) c.takes) in
    let one : sum_by (of_line j) (flat_map (λ entry. take_line (nm entry.0) entry.1.takes) (enumerate_from 0 c.ended)) ≡ sum_by (of_ended j) c.ended = ended_sum j nm 0 c.ended in
    let two : sum_by (of_line j) (take_line (nm (length c.ended)) c.takes) ≡ get_or c.takes j 0 = line_sum j (nm (length c.ended)) c.takes in
    omega (arith, both, one, two)

actors_sum : (j : ℕ) (nm : ℕ → ℕ → CallName) (a : ℕ) (cs : List Calling) → sum_by (of_line j) (flat_map (λ entry. take_lines (nm entry.0) entry.1) (enumerate_from a cs)) ≡ group j cs
actors_sum j nm a [] = refl
actors_sum j nm a (c ∷ cs) =
    let rest : sum_by (of_line j) (flat_map (λ entry. take_lines (nm entry.0) entry.1) (enumerate_from (a + 1) cs)) ≡ group j cs = actors_sum j nm (a + 1) cs in
    let both : sum_by (of_line j) (take_lines (nm a) c ++ flat_map (λ entry. take_lines (nm entry.0) entry.1) (enumerate_from (a + 1) cs))
    ≡ sum_by (of_line j) (take_lines (nm a) c) + sum_by (of_line j) (flat_map (λ entry. take_lines (nm entry.0) entry.1) (enumerate_from (a + 1) cs)) =
    sum_by-append (of_line j) (take_lines (nm a) c) (flat_map (λ entry. take_lines (nm entry.0) entry.1) (enumerate_from (a + 1) cs)) in
    let here : sum_by (of_line j) (take_lines (nm a) c) ≡ total j c = actor_sum j (nm a) c in
    let sums : group j (c ∷ cs) ≡ total j c + group j cs = sum_by-cons (total j) c cs in
    omega (arith, rest, both, here, sums)

-- the column of a server
pub column_sum : (j : ℕ) (clients repairers : List Calling)
    → column j (lines_of_actors (λ i. take_lines (client_name i)) clients ++ lines_of_actors (λ i. take_lines (repairer_name i)) repairers) ≡ group j clients + group j repairers
column_sum j clients repairers =
    let both : column j (lines_of_actors (λ i. take_lines (client_name i)) clients ++ lines_of_actors (λ i. take_lines (repairer_name i)) repairers)
    ≡ sum_by (of_line j) (lines_of_actors (λ i. take_lines (client_name i)) clients) + sum_by (of_line j) (lines_of_actors (λ i. take_lines (repairer_name i)) repairers) =
    sum_by-append (of_line j) (lines_of_actors (λ i. take_lines (client_name i)) clients) (lines_of_actors (λ i. take_lines (repairer_name i)) repairers) in
    let one : sum_by (of_line j) (lines_of_actors (λ i. take_lines (client_name i)) clients) ≡ group j clients = actors_sum j client_name 0 clients in
    let two : sum_by (of_line j) (lines_of_actors (λ i. take_lines (repairer_name i)) repairers) ≡ group j repairers = actors_sum j repairer_name 0 repairers in
    omega (arith, both, one, two)

abbrev line_of_server : ℕ × Server → TLine
line_of_server entry = record { server = entry.0; taken = entry.1.taken; held = length entry.1.held; epoch = entry.1.epoch }

-- what holds of each server holds of its line
server_lines : (Q : TLine → Type 0) (a : ℕ) (servers : List Server) → ((k : ℕ) (s : Server) → slice_get servers k ≡ Some s → Q (line_of_server (a + k, s))) → All Q (map line_of_server (enumerate_from a servers))
server_lines Q a [] h = All-nil Q
server_lines Q a (s ∷ servers) h =
    All-cons Q (line_of_server (a, s)) (map line_of_server (enumerate_from (a + 1) servers))
    (let none : a + 0 ≡ a = omega arith in subst (λ n. Q (line_of_server (n, s))) none (h 0 s refl))
    (server_lines Q (a + 1) servers (λ k t e. let one : a + suc k ≡ a + 1 + k = omega arith in subst (λ n. Q (line_of_server (n, t))) one (h (suc k) t e)))

-- what a run shows adds up, with counts that stay at the last value of 64 bits
pub record TakesMatch (tokens : List Token) (t : Transcript) : Type 0 where
  pub taken : All (λ line. line.taken ≡ min (column line.server t.takes) (2 ^ 64 - 1)) t.servers
  pub epochs : All (λ line. line.epoch ≡ count_by (is_wipe_of line.server) tokens) t.servers

pub takes_match : (script : Script) (can : CanRun script) (shortages : List Shortage) (tokens : List Token) → HasFewWipes tokens → TakesMatch tokens (shown script (run_core script shortages tokens))
takes_match script can shortages tokens few =
    let core : Core = run_core script shortages tokens in
    let end : RunKeeps script core × Matching (chunk_count script.geometry) tokens core =
    run_has script can (Matching (chunk_count script.geometry)) (matching_kept script can) shortages (first_matching script can) tokens in
    let lines : List GLine = lines_of_actors (λ i. take_lines (client_name i)) core.clients ++ lines_of_actors (λ i. take_lines (repairer_name i)) core.repairers in
    record {
      taken =
          server_lines (λ line. line.taken ≡ min (column line.server lines) (2 ^ 64 - 1)) 0 core.servers
          (λ k s e. let place : 0 + k ≡ k = omega arith in
          subst (λ n. s.taken ≡ min (column n lines) (2 ^ 64 - 1)) (sym place) (end.1.taken k s e ∙ ap (λ m. min m (2 ^ 64 - 1)) (sym (column_sum k core.clients core.repairers))));
      epochs =
          server_lines (λ line. line.epoch ≡ count_by (is_wipe_of line.server) tokens) 0 core.servers
          (λ k s e. let place : 0 + k ≡ k = omega arith in
          subst (λ n. s.epoch ≡ count_by (is_wipe_of n) tokens) (sym place) (end.1.epochs few k s e ∙ length-filter (is_wipe_of k) tokens));
    }
