-- In form 1 no server is ever away.
use Rattle.std.proofs.Common.{◌≡◌, ℕ, zero, suc, Bool, true, false, nat_lt, List, [], ◌∷◌, length, Option, None, Some, All, IsTrue, refl, sym, subst, arith, true≢false}
use Rattle.std.proofs.lemmas.Bool.{cond_both}
use Rattle.std.proofs.lemmas.Option.{none-some, same_Some}
use Rattle.std.proofs.lemmas.List.Elements.{All-cons, All-head, All-tail, All-weaker, All-replicate}
use Rattle.std.specs.List.{slice_get}
use Rattle.clay_grid.specs.Shape.{Shape, chunk_count}
use Rattle.store_map.specs.Limits.{tries_of}
use Rattle.store_map.specs.Naming.{NamesPart}
use Rattle.store_map.specs.declared.placement.Placement.TheVariants as placement
use Rattle.store_map.specs.declared.actor.Actor.{Actor}
use Rattle.store_map.specs.declared.actor.Actor.TheVariants as actor
use Rattle.store_map.specs.declared.actor.Token.{Token}
use Rattle.store_map.specs.declared.actor.Token.TheVariants as token
use Rattle.store_map.specs.declared.script.Script.{Script}
use Rattle.store_core.specs.Lists.{change_at, is_among}
use Rattle.store_core.specs.Told.{Told}
use Rattle.store_core.specs.Act.{Act, DirectoryStep, ServerStep, server_takes_memory}
use Rattle.store_core.specs.ActPlace.{is_in_pass}
use Rattle.store_core.specs.CallStep.{job_step, step_if, step_of}
use Rattle.store_core.specs.Core.{Core}
use Rattle.store_core.specs.NextAct.{Job, next_act}
use Rattle.store_core.specs.Run.{Run, first_shortage, places_in, after_client, after_repairer, client_step, repairer_step, sweeper_step, operator_step}
use Rattle.store_core.specs.Schedule.{run_core}
use Rattle.store_core.specs.Server.{Server, new_server, gives, found_at, hold, raised_by, install, made_at_server, server_unless_short, at_server}
use Rattle.store_core.specs.Step.{Shortage, Places, at_places, at_server_there, told_first}
use Rattle.store_core.specs.Sweep.{Sweeper, next_sweep}
use Rattle.store_core.specs.Work.{Work, Calling, client_work, repairer_work, has_step}
use Rattle.run_laws.specs.AnswerLaws.{is_of_call}
use Rattle.run_laws.specs.FormLaws.{IsOfFormOne, WasNeverAway, ServersStayInFormOne}
use Rattle.run_laws.proofs.Drains.{start}
use Rattle.run_laws.proofs.Groups.{IsGroup}
use Rattle.run_laws.proofs.Invariants.{IsAllowed, tokens_hold}
use Rattle.run_laws.proofs.Proper.{IsProper, HasTry, acts_proper}
use Rattle.run_laws.proofs.Runs.{CanRun}
use Rattle.run_laws.proofs.RunsSound.{RunKeeps, first_kept}
use Rattle.run_laws.proofs.Scripts.{can_run}

-- a step that makes no server away or present
abbrev StaysThere : ServerStep → Type 0
StaysThere ServerStep.Down = ⊥
StaysThere ServerStep.Up = ⊥
StaysThere _ = Unit {0}

-- ---- one server
kept : (s : Server) (held : List ℕ) (epoch taken : ℕ) → WasNeverAway s → WasNeverAway (record s { held = held; epoch = epoch; taken = taken })
kept s held epoch taken h = record { downs = h.downs; away = h.away }

made_there : (step : ServerStep) (s : Server) → StaysThere step → WasNeverAway s → WasNeverAway (made_at_server step s).0
made_there (ServerStep.Prepare version) s stays h =
    cond_both {A = Server × Told} s.away (s, Told.Prepared (placement.Skipped s.downs)) (record s { held = hold version s.held }, Told.Prepared (placement.At s.epoch))
    (λ r. WasNeverAway r.0) (λ _. h) (λ _. kept s _ _ _ h)
made_there (ServerStep.Settle version) s stays h = h
made_there (ServerStep.Has version) s stays h =
    cond_both {A = Server × Told} (gives version s) (s, Told.Here) (s, Told.Missing (found_at s)) (λ r. WasNeverAway r.0) (λ _. h) (λ _. h)
made_there (ServerStep.Fetch version layers) s stays h =
    cond_both {A = Server × Told} (gives version s) (record s { taken = raised_by (length layers) s.taken }, Told.Given (length layers)) (s, Told.Missing (found_at s)) (λ r. WasNeverAway r.0)
    (λ _. kept s _ _ _ h) (λ _. h)
made_there (ServerStep.Install version) s stays h = installed s.away (is_among version s.held)
  where
    installed : (away there : Bool) → WasNeverAway (install away there version s).0
    installed true there = h
    installed false true = h
    installed false false = kept s _ _ _ h
made_there (ServerStep.Discard version) s stays h = kept s _ _ _ h
made_there ServerStep.Wipe s stays h = kept s _ _ _ h
made_there ServerStep.Down s stays h = absurd stays
made_there ServerStep.Up s stays h = absurd stays

unless_there : (short takes : Bool) (step : ServerStep) (s : Server) → StaysThere step → WasNeverAway s → WasNeverAway (server_unless_short short takes step s).0
unless_there true true step s stays h = h
unless_there true false step s stays h = made_there step s stays h
unless_there false true step s stays h = made_there step s stays h
unless_there false false step s stays h = made_there step s stays h

-- ---- all servers
changed : (i : ℕ) (new : Server) (servers : List Server) → WasNeverAway new → All WasNeverAway servers → All WasNeverAway (change_at i (λ _. new) servers)
changed i new [] h all = all
changed zero new (s ∷ servers) h all = All-cons WasNeverAway new servers h (All-tail WasNeverAway s servers all)
changed (suc i) new (s ∷ servers) h all =
    All-cons WasNeverAway s (change_at i (λ _. new) servers) (All-head WasNeverAway s servers all) (changed i new servers h (All-tail WasNeverAway s servers all))

found_there : (servers : List Server) (i : ℕ) (s : Server) → slice_get servers i ≡ Some s → All WasNeverAway servers → WasNeverAway s
found_there [] i s e all = absurd (none-some s e)
found_there (first ∷ servers) zero s e all = subst WasNeverAway (same_Some first s e) (All-head WasNeverAway first servers all)
found_there (first ∷ servers) (suc i) s e all = found_there servers i s e (All-tail WasNeverAway first servers all)

-- an act that makes no server away
abbrev ActStays : Act → Type 0
ActStays (Act.AtServer server step) = StaysThere step
ActStays _ = Unit {0}

there_stays : (short : Bool) (server : ℕ) (step : ServerStep) (places : Places) (found : Option Server) → slice_get places.servers server ≡ found → StaysThere step → All WasNeverAway places.servers
    → All WasNeverAway (at_server_there short server step places found).0.servers
there_stays short server step places None e stays all = all
there_stays short server step places (Some s) e stays all =
    changed server (at_server short step s).0 places.servers (unless_there short (server_takes_memory step) step s stays (found_there places.servers server s e all)) all

places_stay : (short : Bool) (who : Actor) (number : ℕ) (act : Act) (places : Places) → ActStays act → All WasNeverAway places.servers → All WasNeverAway (at_places short who number act places).0.servers
places_stay short who number (Act.AtDirectory step) places stays all = all
places_stay short who number (Act.AtServer server step) places stays all = there_stays short server step places (slice_get places.servers server) refl stays all
places_stay short who number (Act.Finish outcome) places stays all = all

-- ---- a call's step
of_call_stays : (step : ServerStep) → IsTrue (is_of_call step) → StaysThere step
of_call_stays ServerStep.Down h = absurd (true≢false (sym h))
of_call_stays ServerStep.Up h = absurd (true≢false (sym h))
of_call_stays step h = tt

proper_stays : (g : Shape) (job : Job) (room : Type 0) (act : Act) → IsProper g job room act → ActStays act
proper_stays g job room (Act.AtDirectory step) h = tt
proper_stays g job room (Act.AtServer server step) h = of_call_stays step h.1
proper_stays g job room (Act.Finish outcome) h = tt

module _ (script : Script) (shortages : Shortage) (who_of : ℕ → Actor) (works : List Work) (group : IsGroup script who_of works) (i : ℕ) (places : Places) (all : All WasNeverAway places.servers) where
  abbrev After : Option (Places × Calling) → Type 0
  After None = Unit {0}
  After (Some after) = All WasNeverAway after.0.servers

  with_job : (work : Work) (calling : Calling) → slice_get works i ≡ Some work → (found : Option Job) → slice_get work.jobs (length calling.ended) ≡ found → After (job_step script shortages (who_of i) calling places found)
  with_job work calling is_work None e = tt
  with_job work calling is_work (Some job) e =
      let told : List Told = told_first shortages.coding (is_in_pass (next_act script.geometry (tries_of script) job calling.told)) script.geometry job calling.told in
      places_stay shortages.step (who_of i) (length calling.ended) (next_act script.geometry (tries_of script) job told) places
      (proper_stays script.geometry job (HasTry job.note.kind (tries_of script) told) (next_act script.geometry (tries_of script) job told)
      (acts_proper script.geometry (tries_of script) job (group.targets i work is_work (length calling.ended) job e) told)) all

  if_step : (work : Work) (calling : Calling) → slice_get works i ≡ Some work → (b : Bool) → After (step_if b script shortages (who_of i) work calling places)
  if_step work calling is_work true = with_job work calling is_work (slice_get work.jobs (length calling.ended)) refl
  if_step work calling is_work false = tt

  stepped : (work : Option Work) (calling : Option Calling) → slice_get works i ≡ work → After (step_of script shortages (who_of i) work calling places)
  stepped (Some work) (Some calling) e = if_step work calling e (has_step work calling)
  stepped (Some work) None e = tt
  stepped None calling e = tt

-- ---- a run
sweep_stays : (n : ℕ) (sweeper : Sweeper) → ActStays (next_sweep n sweeper)
sweep_stays n Sweeper.Idle = tt
sweep_stays n (Sweeper.Sweeping version server) =
    cond_both {A = Act} (nat_lt server n) (Act.AtServer server (ServerStep.Discard version)) (Act.AtDirectory (DirectoryStep.Swept version)) ActStays (λ _. tt) (λ _. tt)

module _ (script : Script) (shortages : List Shortage) (can : CanRun script) where
  abbrev There : Core → Type 0
  There core = All WasNeverAway core.servers

  client_there : (run : Run) (i : ℕ) → RunKeeps script run.core → There run.core → There (client_step script i run).core
  client_there run i state all =
      done (step_of script (first_shortage run.shortages) (actor.Client i) (slice_get (client_work script) i) (slice_get run.core.clients i) (places_in run.core))
      (stepped script (first_shortage run.shortages) actor.Client (client_work script) can.clients i (places_in run.core) all (slice_get (client_work script) i) (slice_get run.core.clients i) refl)
    where
      done : (found : Option (Places × Calling)) → After script (first_shortage run.shortages) actor.Client (client_work script) can.clients i (places_in run.core) all found → There (after_client i run found).core
      done None h = all
      done (Some after) h = h

  repairer_there : (run : Run) (i : ℕ) → RunKeeps script run.core → There run.core → There (repairer_step script i run).core
  repairer_there run i state all =
      done (step_of script (first_shortage run.shortages) (actor.Repairer i) (slice_get (repairer_work script) i) (slice_get run.core.repairers i) (places_in run.core))
      (stepped script (first_shortage run.shortages) actor.Repairer (repairer_work script) can.repairers i (places_in run.core) all (slice_get (repairer_work script) i) (slice_get run.core.repairers i) refl)
    where
      done : (found : Option (Places × Calling)) → After script (first_shortage run.shortages) actor.Repairer (repairer_work script) can.repairers i (places_in run.core) all found → There (after_repairer i run found).core
      done None h = all
      done (Some after) h = h

  sweeper_there : (run : Run) → RunKeeps script run.core → There run.core → There (sweeper_step script run).core
  sweeper_there run state all =
      places_stay false actor.Sweeper 0 (next_sweep (chunk_count script.geometry) run.core.sweeper) (places_in run.core) (sweep_stays (chunk_count script.geometry) run.core.sweeper) all

  operator_there : (run : Run) (act : Act) → ActStays act → There run.core → There (operator_step act run).core
  operator_there run act stays all = places_stay false actor.Operator 0 act (places_in run.core) stays all

  -- a token of form 1 is allowed
  allowed : (token : Token) → IsOfFormOne token → IsAllowed script shortages can There ActStays client_there repairer_there sweeper_there operator_there token
  allowed (token.Down server) h = absurd h
  allowed (token.Up server) h = absurd h
  allowed (token.Client i) h = tt
  allowed (token.Repairer i) h = tt
  allowed token.Sweep h = tt
  allowed (token.Wipe server) h = tt
  allowed (token.ReapClient i) h = tt
  allowed (token.ReapRepairer i) h = tt
  allowed token.Drain h = tt

  none_away : (tokens : List Token) → All IsOfFormOne tokens → All WasNeverAway (run_core script shortages tokens).servers
  none_away tokens all =
      (tokens_hold script shortages can There ActStays client_there repairer_there sweeper_there operator_there tokens (start script shortages can)
      (All-weaker IsOfFormOne (IsAllowed script shortages can There ActStays client_there repairer_there sweeper_there operator_there) allowed tokens all)
      (record { state = first_kept script can; holds = All-replicate WasNeverAway (chunk_count script.geometry) new_server (record { downs = refl; away = refl }) })).holds

-- a valid schedule of form 1 has no token of form 2
form_one : (script : Script) → script.form ≡ 1 → (token : Token) → NamesPart script token → IsOfFormOne token
form_one script one (token.Down server) h = let two : script.form ≡ 2 = h.0 in absurd (omega (arith, one, two))
form_one script one (token.Up server) h = let two : script.form ≡ 2 = h.0 in absurd (omega (arith, one, two))
form_one script one (token.Client i) h = tt
form_one script one (token.Repairer i) h = tt
form_one script one token.Sweep h = tt
form_one script one (token.Wipe server) h = tt
form_one script one (token.ReapClient i) h = tt
form_one script one (token.ReapRepairer i) h = tt
form_one script one token.Drain h = tt

pub servers_stay_in_form_one : ServersStayInFormOne
servers_stay_in_form_one script geometry valid =
    record {
      schedule = λ one. All-weaker (NamesPart script) IsOfFormOne (form_one script one) script.schedule valid.names.tokens;
      servers = λ shortages. none_away script shortages (can_run script geometry valid);
    }
