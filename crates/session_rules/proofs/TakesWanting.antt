-- What a rebuild takes where memory may be wanting: it ends for want of memory, or takes what it takes with ample memory.
use Rattle.std.proofs.Common.{◌≡◌, ◌⊎◌, ℕ, Bool, true, false, List, [], ◌∷◌, length, slice_get, Option, None, Some, refl, sym, ap, subst, ◌∙◌, inl, inr}
use Rattle.clay_grid.specs.Shape.{Shape}
use Rattle.store_map.specs.declared.actor.Actor.{Actor}
use Rattle.store_map.specs.declared.call.Rebuild.{Rebuild as RebuildCall}
use Rattle.store_core.specs.Told.{Told}
use Rattle.store_core.specs.Act.{Act, ServerStep, Outcome}
use Rattle.store_core.specs.NextAct.{Job, rebuild_job}
use Rattle.store_core.specs.Gathering.{Part}
use Rattle.store_core.specs.Server.{Server}
use Rattle.store_core.specs.Step.{Shortage, Places, at_places, at_server_there, take_from}
use Rattle.run_laws.specs.Stage.{Aim, Asking}
use Rattle.run_laws.specs.StageAfter.{server_asked, step_asked}
use Rattle.run_laws.specs.State.{Sequel, State, first_state}
use Rattle.run_laws.specs.StateActs.{act_at, act_of_state}
use Rattle.run_laws.specs.CallLaws.{next_call}
use Rattle.session_rules.specs.Alone.{AtWork, step}
use Rattle.session_rules.specs.Wants.{wanting_by, wanting_step, wanting_steps}
use Rattle.session_rules.specs.Takes.{taken_by, takes_in}
use Rattle.session_rules.specs.Seats.{MayBeginFrom}
use Rattle.session_rules.specs.Answering.{took}
use Rattle.session_rules.proofs.CallSeats.{Fits, Holds, first_holds, rebuild_step}
use Rattle.session_rules.proofs.Doomed.{Doomed, coded, Coded, coded_either, OneOf, step_either, made_doomed, doomed_all, doomed_ends, EndsWanting}

module _ (g : Shape) (tries : ℕ) (who : Actor) (number : ℕ) (c : RebuildCall) where
  abbrev job : Job
  job = rebuild_job c

  -- ---- one step by its act
  abbrev taken_so : Bool → List (ℕ × ℕ) → State → Places → List ℕ → List ℕ
  taken_so short pairs at p takes = take_from (act_at g tries job pairs at) (at_places short who number (act_at g tries job pairs at) p).1 takes

  abbrev dooms : List (ℕ × ℕ) → State → Places → Type 0
  dooms pairs at p = Doomed (wanting_step g tries who number job (record { coding = false; step = true }) (record { call = record { pairs = pairs; at = at }; places = p })).call.at

  abbrev Takes : List (ℕ × ℕ) → State → Places → Type 0
  Takes pairs at p = ((takes : List ℕ) → taken_so true pairs at p takes ≡ taken_so false pairs at p takes) ⊎ dooms pairs at p

  -- of the question of a gathering
  abbrev there : Bool → ℕ → ServerStep → Places → Option Server → List ℕ → List ℕ
  there short server step p found takes = take_from (Act.AtServer server step) (at_server_there short server step p found).1 takes

  abbrev gathers_doomed : List (ℕ × ℕ) → Aim → Asking → List Part → Sequel → Places → Option Server → Type 0
  gathers_doomed pairs aim asking parts after p found =
      Doomed (next_call g job (record { pairs = pairs; at = State.Gather aim asking parts after }) (at_server_there true (server_asked g aim asking) (step_asked g aim asking) p found).1).at

  asked : (pairs : List (ℕ × ℕ)) (aim : Aim) (asking : Asking) (parts : List Part) (after : Sequel) (p : Places) (found : Option Server) →
      ((takes : List ℕ) → there true (server_asked g aim asking) (step_asked g aim asking) p found takes ≡ there false (server_asked g aim asking) (step_asked g aim asking) p found takes)
      ⊎ gathers_doomed pairs aim asking parts after p found
  asked pairs aim asking parts after p None = inl (λ takes. refl)
  asked pairs aim (Asking.Fetch server more missing) parts after p (Some one) = inr tt
  asked pairs aim (Asking.Look server more missing) parts after p (Some one) = inl (λ takes. refl)
  asked pairs aim (Asking.Repair server more lost) parts after p (Some one) = inr tt
  asked pairs aim (Asking.Whole server more wanted missing) parts after p (Some one) = inr tt
  asked pairs aim (Asking.Target server) parts after p (Some one) = inl (λ takes. refl)

  installs : (pairs : List (ℕ × ℕ)) (target version : ℕ) (at : State) (p : Places) (found : Option Server) →
      Doomed (next_call g job (record { pairs = pairs; at = at }) Told.Short).at →
      ((takes : List ℕ) → there true target (ServerStep.Install version) p found takes ≡ there false target (ServerStep.Install version) p found takes)
      ⊎ Doomed (next_call g job (record { pairs = pairs; at = at }) (at_server_there true target (ServerStep.Install version) p found).1).at
  installs pairs target version at p None doomed = inl (λ takes. refl)
  installs pairs target version at p (Some one) doomed = inr doomed

  prepares : (pairs : List (ℕ × ℕ)) (server version : ℕ) (at : State) (p : Places) (found : Option Server) →
      Doomed (next_call g job (record { pairs = pairs; at = at }) Told.Short).at →
      ((takes : List ℕ) → there true server (ServerStep.Prepare version) p found takes ≡ there false server (ServerStep.Prepare version) p found takes)
      ⊎ Doomed (next_call g job (record { pairs = pairs; at = at }) (at_server_there true server (ServerStep.Prepare version) p found).1).at
  prepares pairs server version at p None doomed = inl (λ takes. refl)
  prepares pairs server version at p (Some one) doomed = inr doomed

  settles : (place : ℕ × ℕ) (p : Places) (found : Option Server) (takes : List ℕ) → there true place.0 (ServerStep.Settle place.1) p found takes ≡ there false place.0 (ServerStep.Settle place.1) p found takes
  settles place p None takes = refl
  settles place p (Some one) takes = refl

  took_made : (pairs : List (ℕ × ℕ)) (at : State) (p : Places) → Fits g tries who number at p.directory → Takes pairs at p
  took_made pairs State.Start p ok = inl (λ takes. refl)
  took_made pairs (State.Parts part parts after) p ok = absurd ok
  took_made pairs (State.Chunk seen target) p ok = absurd ok
  took_made pairs (State.Gather aim asking parts after) p ok = asked pairs aim asking parts after p (slice_get p.servers (server_asked g aim asking))
  took_made pairs State.Drawing p ok = inl (λ takes. refl)
  took_made pairs (State.Preparing stripe version server servers row later placed versions) p ok =
      prepares pairs server version (State.Preparing stripe version server servers row later placed versions) p (slice_get p.servers server) tt
  took_made pairs (State.Committing versions placed) p ok = inl (λ takes. refl)
  took_made pairs (State.Committed versions) p ok = absurd ok
  took_made pairs (State.Settling point place places) p ok = inl (settles place p (slice_get p.servers place.0))
  took_made pairs (State.Confirming seen target) p ok = inl (λ takes. refl)
  took_made pairs (State.Installing seen target) p ok = installs pairs target seen.version (State.Installing seen target) p (slice_get p.servers target) tt
  took_made pairs (State.Placing target epoch) p ok = inl (λ takes. refl)
  took_made pairs (State.Ending outcome) p ok = inl (λ takes. refl)
  took_made pairs (State.Finished outcome) p ok = inl (λ takes. refl)

  -- ---- one step with its coding
  abbrev taken_step : Shortage → AtWork → List ℕ → List ℕ
  taken_step shortage w takes = took g tries who number job (shortage ∷ []) w takes

  abbrev ample_take : AtWork → List ℕ → List ℕ
  ample_take w takes = taken_by g tries who number job (act_of_state g tries job w.call) w takes

  abbrev TookOne : Shortage → AtWork → Type 0
  TookOne shortage w = ((takes : List ℕ) → taken_step shortage w takes ≡ ample_take w takes) ⊎ Doomed (wanting_step g tries who number job shortage w).call.at

  plain_took : (short : Bool) (w : AtWork) → Holds g tries who number w → TookOne (record { coding = false; step = short }) w
  plain_took false w ok = inl (λ takes. refl)
  plain_took true w ok = took_made w.call.pairs w.call.at w.places ok.1

  one_took : (coding short : Bool) (w : AtWork) → Holds g tries who number w → TookOne (record { coding = coding; step = short }) w
  one_took false short w ok = plain_took short w ok
  one_took true short w ok =
      by (coded_either g tries who number job (λ pairs. tt) (λ p pairs. inr tt) w.call.pairs w.call.at w.places.directory ok.1) (plain_took short w ok)
      (step_either g tries who number job (λ pairs. tt) (λ p pairs. inr tt) true short w ok)
    where
      by : Coded g tries who number job w.call.pairs w.call.at → TookOne (record { coding = false; step = short }) w → OneOf g tries who number job (λ pairs. tt) (λ p pairs. inr tt) (record { coding = true; step = short }) w →
          TookOne (record { coding = true; step = short }) w
      by coded plain (inr doomed) = inr doomed
      by (inl same) (inl plain) (inl step) =
          inl (λ takes. ap (λ call. take_from (act_of_state g tries job call) (at_places short who number (act_of_state g tries job call) w.places).1 takes) same ∙ plain takes)
      by (inl same) (inr doomed) (inl step) =
          inr (subst (λ (w : AtWork). Doomed w.call.at)
          (sym (ap (λ call. wanting_by g tries who number job short (act_of_state g tries job call) (record { call = call; places = w.places })) same)) doomed)
      by (inr doomed) plain (inl step) =
          inr (made_doomed g tries who number job short (coded g tries who number job true w.call.pairs w.call.at).pairs (coded g tries who number job true w.call.pairs w.call.at).at w.places ok.0 doomed)

  -- ---- all steps
  abbrev AllTook : List Shortage → AtWork → Type 0
  AllTook shortages w = ((takes : List ℕ) → took g tries who number job shortages w takes ≡ takes_in g tries who number job (length shortages) w takes) ⊎ Doomed (wanting_steps g tries who number job shortages w).call.at

  all_took : (shortages : List Shortage) (w : AtWork) → Holds g tries who number w → AllTook shortages w
  all_took [] w ok = inl (λ takes. refl)
  all_took (shortage ∷ shortages) w ok =
      by (step_either g tries who number job (λ pairs. tt) (λ p pairs. inr tt) shortage.coding shortage.step w ok) (one_took shortage.coding shortage.step w ok)
      (all_took shortages (wanting_step g tries who number job shortage w) (rebuild_step g tries who number c shortage w ok))
    where
      next : Holds g tries who number (wanting_step g tries who number job shortage w)
      next = rebuild_step g tries who number c shortage w ok

      by : OneOf g tries who number job (λ pairs. tt) (λ p pairs. inr tt) shortage w → TookOne shortage w → AllTook shortages (wanting_step g tries who number job shortage w) → AllTook (shortage ∷ shortages) w
      by (inr doomed) one rest =
          inr (doomed_all g tries who number job (λ pairs. tt) (λ p pairs. inr tt) (rebuild_step g tries who number c) shortages (wanting_step g tries who number job shortage w) next doomed)
      by (inl same) (inr doomed) rest =
          inr (doomed_all g tries who number job (λ pairs. tt) (λ p pairs. inr tt) (rebuild_step g tries who number c) shortages (wanting_step g tries who number job shortage w) next doomed)
      by (inl same) (inl one) (inr doomed) = inr doomed
      by (inl same) (inl one) (inl rest) =
          inl (λ takes.
          rest (taken_step shortage w takes)
          ∙ ap (takes_in g tries who number job (length shortages) (wanting_step g tries who number job shortage w)) (one takes)
          ∙ ap (λ (next : AtWork). takes_in g tries who number job (length shortages) next (ample_take w takes)) same)

  -- a rebuild that has made its chunk took what it takes with ample memory
  pub rebuilt_took : (shortages : List Shortage) (p : Places) (takes : List ℕ) → MayBeginFrom p.directory who number →
      act_of_state g tries job (wanting_steps g tries who number job shortages (record { call = first_state; places = p })).call ≡ Act.Finish Outcome.Rebuilt →
      took g tries who number job shortages (record { call = first_state; places = p }) takes ≡ takes_in g tries who number job (length shortages) (record { call = first_state; places = p }) takes
  rebuilt_took shortages p takes seat over = by (all_took shortages (record { call = first_state; places = p }) (first_holds g tries who number p seat))
    where
      by : AllTook shortages (record { call = first_state; places = p }) →
          took g tries who number job shortages (record { call = first_state; places = p }) takes ≡ takes_in g tries who number job (length shortages) (record { call = first_state; places = p }) takes
      by (inl same) = same takes
      by (inr doomed) =
          absurd (subst (EndsWanting g tries who number job (λ pairs. tt) (λ p pairs. inr tt) (rebuild_step g tries who number c)) over
          (doomed_ends g tries who number job (λ pairs. tt) (λ p pairs. inr tt) (rebuild_step g tries who number c)
          (wanting_steps g tries who number job shortages (record { call = first_state; places = p })).call.pairs
          (wanting_steps g tries who number job shortages (record { call = first_state; places = p })).call.at doomed))
