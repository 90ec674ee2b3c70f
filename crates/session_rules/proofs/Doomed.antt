-- A call that runs alone where memory may be wanting: it does what it does with ample memory, or it will end for want of memory.
use Rattle.std.proofs.Common.{◌≡◌, ◌⊎◌, ℕ, Bool, true, false, List, [], ◌∷◌, length, slice_get, Option, None, Some, refl, sym, ap, subst, ◌∙◌, inl, inr, if◌then◌else◌, nat_lt}
use Rattle.std.specs.Bool.{⊤}
use Rattle.std.proofs.lemmas.Option.{none-some}
use Rattle.clay_grid.specs.Shape.{Shape}
use Rattle.store_map.specs.declared.actor.Actor.{Actor}
use Rattle.store_map.specs.declared.call.Call.{Call}
use Rattle.store_map.specs.declared.call.Call.TheVariants as call
use Rattle.store_map.specs.declared.call.Rebuild.{Rebuild as RebuildCall}
use Rattle.store_core.specs.Told.{Told}
use Rattle.store_core.specs.Note.{note_of}
use Rattle.store_core.specs.Act.{Act, DirectoryStep, ServerStep, Outcome}
use Rattle.store_core.specs.ActPlace.{is_in_pass}
use Rattle.store_core.specs.NextAct.{Job, job_of, rebuild_job}
use Rattle.store_core.specs.Directory.{Pass, Directory}
use Rattle.store_core.specs.Lookups.{pass_of}
use Rattle.store_core.specs.PassSteps.{end_pass}
use Rattle.store_core.specs.AtDirectory.{on_pass, unless_reaped}
use Rattle.store_core.specs.Gathering.{Part}
use Rattle.store_core.specs.Server.{Server}
use Rattle.store_core.specs.Step.{Shortage, Places, at_server_there}
use Rattle.run_laws.specs.Stage.{Aim, Asking}
use Rattle.run_laws.specs.StageAfter.{server_asked, step_asked}
use Rattle.run_laws.specs.State.{Sequel, State, CallState, first_state}
use Rattle.run_laws.specs.StateActs.{act_at, act_of_state}
use Rattle.run_laws.specs.CallLaws.{next_call}
use Rattle.session_rules.specs.Alone.{AtWork, step, steps}
use Rattle.session_rules.specs.Wants.{after_coding, wanting_by, wanting_step, wanting_steps}
use Rattle.session_rules.proofs.Own.{Own, alive}
use Rattle.session_rules.proofs.CallLeft.{ample_by}
use Rattle.session_rules.specs.Seats.{MayBeginFrom}
use Rattle.session_rules.proofs.CallSeats.{Fits, Holds, first_holds, call_step, rebuild_step}

-- the outcome is want of memory
abbrev pub IsWant : Outcome → Type 0
IsWant Outcome.NoMemory = ⊤
IsWant outcome = ⊥

-- the call ends for want of memory, or has ended so
abbrev pub Doomed : State → Type 0
Doomed (State.Ending outcome) = IsWant outcome
Doomed (State.Finished outcome) = IsWant outcome
Doomed at = ⊥

want_is : (outcome : Outcome) → IsWant outcome → outcome ≡ Outcome.NoMemory
want_is Outcome.NoMemory want = refl
want_is (Outcome.Answered point reply) want = absurd want
want_is (Outcome.Served point) want = absurd want
want_is Outcome.Rebuilt want = absurd want
want_is Outcome.Here want = absurd want
want_is (Outcome.Away downs) want = absurd want
want_is Outcome.NoSuch want = absurd want
want_is (Outcome.Superseded newer) want = absurd want
want_is (Outcome.Unavailable stripe missing) want = absurd want
want_is (Outcome.Contended pairs) want = absurd want
want_is (Outcome.Reaped point) want = absurd want

module _ (g : Shape) (tries : ℕ) (who : Actor) (number : ℕ) (job : Job) where
  abbrev at_work : List (ℕ × ℕ) → State → Places → AtWork
  at_work pairs at p = record { call = record { pairs = pairs; at = at }; places = p }

  abbrev made : Bool → AtWork → AtWork
  made short w = wanting_by g tries who number job short (act_of_state g tries job w.call) w

  -- a step is as with ample memory, or it dooms the call
  abbrev Either : List (ℕ × ℕ) → State → Places → Type 0
  Either pairs at p = (made true (at_work pairs at p) ≡ made false (at_work pairs at p)) ⊎ Doomed (made true (at_work pairs at p)).call.at

  -- ---- at a server
  abbrev after_server : List (ℕ × ℕ) → State → Bool → ℕ → ServerStep → Places → Option Server → AtWork
  after_server pairs at short server step p found =
      let r : Places × Told = at_server_there short server step p found in record { call = next_call g job (record { pairs = pairs; at = at }) r.1; places = r.0 }

  abbrev EitherThere : List (ℕ × ℕ) → State → ℕ → ServerStep → Places → Type 0
  EitherThere pairs at server step p =
      (found : Option Server) →
      (after_server pairs at true server step p found ≡ after_server pairs at false server step p found) ⊎ Doomed (after_server pairs at true server step p found).call.at

  asked : (pairs : List (ℕ × ℕ)) (aim : Aim) (asking : Asking) (parts : List Part) (after : Sequel) (p : Places) →
      EitherThere pairs (State.Gather aim asking parts after) (server_asked g aim asking) (step_asked g aim asking) p
  asked pairs aim asking parts after p None = inl refl
  asked pairs aim (Asking.Fetch server more missing) parts after p (Some one) = inr tt
  asked pairs aim (Asking.Look server more missing) parts after p (Some one) = inl refl
  asked pairs aim (Asking.Repair server more lost) parts after p (Some one) = inr tt
  asked pairs aim (Asking.Whole server more wanted missing) parts after p (Some one) = inr tt
  asked pairs aim (Asking.Target server) parts after p (Some one) = inl refl

  prepared : (pairs : List (ℕ × ℕ)) (at : State) (server version : ℕ) (p : Places) → Doomed (next_call g job (record { pairs = pairs; at = at }) Told.Short).at → EitherThere pairs at server (ServerStep.Prepare version) p
  prepared pairs at server version p doomed None = inl refl
  prepared pairs at server version p doomed (Some one) = inr doomed

  installed : (pairs : List (ℕ × ℕ)) (at : State) (server version : ℕ) (p : Places) → Doomed (next_call g job (record { pairs = pairs; at = at }) Told.Short).at → EitherThere pairs at server (ServerStep.Install version) p
  installed pairs at server version p doomed None = inl refl
  installed pairs at server version p doomed (Some one) = inr doomed

  settled : (pairs : List (ℕ × ℕ)) (at : State) (server version : ℕ) (p : Places) → EitherThere pairs at server (ServerStep.Settle version) p
  settled pairs at server version p None = inl refl
  settled pairs at server version p (Some one) = inl refl

  -- ---- a call that is doomed stays so
  gather_doomed : (pairs : List (ℕ × ℕ)) (aim : Aim) (asking : Asking) (parts : List Part) (after : Sequel) → Doomed (next_call g job (record { pairs = pairs; at = State.Gather aim asking parts after }) Told.Short).at
  gather_doomed pairs aim (Asking.Fetch server more missing) parts after = tt
  gather_doomed pairs aim (Asking.Look server more missing) parts after = tt
  gather_doomed pairs aim (Asking.Repair server more lost) parts after = tt
  gather_doomed pairs aim (Asking.Whole server more wanted missing) parts after = tt
  gather_doomed pairs aim (Asking.Target server) parts after = tt

  ending_doomed : (short : Bool) (pairs : List (ℕ × ℕ)) (outcome : Outcome) (p : Places) → Own who number p.directory → IsWant outcome → Doomed (made short (at_work pairs (State.Ending outcome) p)).call.at
  ending_doomed short pairs outcome p own want = by short
    where
      unless : (pass : Pass) (reaped : Option ℕ) → pass.reaped ≡ reaped → pass_of who p.directory ≡ Some pass →
          Doomed (next_call g job (record { pairs = pairs; at = State.Ending outcome }) (unless_reaped end_pass pass reaped p.directory).1).at
      unless pass None reaped is = want
      unless pass (Some point) reaped is = absurd (none-some point (sym (alive who number p.directory own pass is).1 ∙ reaped))

      on : (found : Option Pass) → pass_of who p.directory ≡ found → Doomed (next_call g job (record { pairs = pairs; at = State.Ending outcome }) (on_pass end_pass found p.directory).1).at
      on None is = tt
      on (Some pass) is = unless pass pass.reaped refl is

      by : (short : Bool) → Doomed (made short (at_work pairs (State.Ending outcome) p)).call.at
      by true = on (pass_of who p.directory) refl
      by false = on (pass_of who p.directory) refl

  pub made_doomed : (short : Bool) (pairs : List (ℕ × ℕ)) (at : State) (p : Places) → Own who number p.directory → Doomed at → Doomed (made short (at_work pairs at p)).call.at
  made_doomed short pairs (State.Ending outcome) p own doomed = ending_doomed short pairs outcome p own doomed
  made_doomed short pairs (State.Finished outcome) p own doomed = doomed
  made_doomed short pairs State.Start p own doomed = absurd doomed
  made_doomed short pairs (State.Parts part parts after) p own doomed = absurd doomed
  made_doomed short pairs (State.Chunk seen target) p own doomed = absurd doomed
  made_doomed short pairs (State.Gather aim asking parts after) p own doomed = absurd doomed
  made_doomed short pairs State.Drawing p own doomed = absurd doomed
  made_doomed short pairs (State.Preparing stripe version server servers row later placed versions) p own doomed = absurd doomed
  made_doomed short pairs (State.Committing versions placed) p own doomed = absurd doomed
  made_doomed short pairs (State.Committed versions) p own doomed = absurd doomed
  made_doomed short pairs (State.Settling point place places) p own doomed = absurd doomed
  made_doomed short pairs (State.Confirming seen target) p own doomed = absurd doomed
  made_doomed short pairs (State.Installing seen target) p own doomed = absurd doomed
  made_doomed short pairs (State.Placing target epoch) p own doomed = absurd doomed

  -- ---- want of memory in the coding
  abbrev pub coded : Bool → List (ℕ × ℕ) → State → CallState
  coded wanting pairs at = after_coding g tries who number job wanting (record { pairs = pairs; at = at })

  abbrev pub Coded : List (ℕ × ℕ) → State → Type 0
  Coded pairs at = (coded true pairs at ≡ record { pairs = pairs; at = at }) ⊎ Doomed (coded true pairs at).at

  module _ (starts_doomed : (pairs : List (ℕ × ℕ)) → Doomed (next_call g job (record { pairs = pairs; at = State.Start }) Told.Short).at)
      (starts_either : (p : Places) (pairs : List (ℕ × ℕ)) → Either pairs State.Start p) where
    by_pass : (pairs : List (ℕ × ℕ)) (at : State) → Doomed (next_call g job (record { pairs = pairs; at = at }) Told.Short).at → (b : Bool) →
        (let call : CallState = if b then next_call g job (record { pairs = pairs; at = at }) Told.Short else record { pairs = pairs; at = at } in
        (call ≡ record { pairs = pairs; at = at }) ⊎ Doomed call.at)
    by_pass pairs at doomed true = inr doomed
    by_pass pairs at doomed false = inl refl

    pub coded_either : (pairs : List (ℕ × ℕ)) (at : State) (d : Directory) → Fits g tries who number at d → Coded pairs at
    coded_either pairs State.Start d ok = by_pass pairs State.Start (starts_doomed pairs) (is_in_pass (act_at g tries job pairs State.Start))
    coded_either pairs (State.Parts part parts after) d ok = absurd ok
    coded_either pairs (State.Chunk seen target) d ok = absurd ok
    coded_either pairs (State.Gather aim asking parts after) d ok =
        by_pass pairs (State.Gather aim asking parts after) (gather_doomed pairs aim asking parts after) (is_in_pass (act_at g tries job pairs (State.Gather aim asking parts after)))
    coded_either pairs State.Drawing d ok = inr tt
    coded_either pairs (State.Preparing stripe version server servers row later placed versions) d ok = inr tt
    coded_either pairs (State.Committing versions placed) d ok = inr tt
    coded_either pairs (State.Committed versions) d ok = absurd ok
    coded_either pairs (State.Settling point place places) d ok = inl refl
    coded_either pairs (State.Confirming seen target) d ok = inr tt
    coded_either pairs (State.Installing seen target) d ok = inr tt
    coded_either pairs (State.Placing target epoch) d ok = inl refl
    coded_either pairs (State.Ending outcome) d ok = inr tt
    coded_either pairs (State.Finished outcome) d ok = inl refl

    -- ---- a step in which memory is wanting
    made_either : (pairs : List (ℕ × ℕ)) (at : State) (p : Places) → Fits g tries who number at p.directory → Either pairs at p
    made_either pairs State.Start p ok = starts_either p pairs
    made_either pairs (State.Parts part parts after) p ok = absurd ok
    made_either pairs (State.Chunk seen target) p ok = absurd ok
    made_either pairs (State.Gather aim asking parts after) p ok = asked pairs aim asking parts after p (slice_get p.servers (server_asked g aim asking))
    made_either pairs State.Drawing p ok = inr tt
    made_either pairs (State.Preparing stripe version server servers row later placed versions) p ok =
        prepared pairs (State.Preparing stripe version server servers row later placed versions) server version p tt (slice_get p.servers server)
    made_either pairs (State.Committing versions placed) p ok = inl refl
    made_either pairs (State.Committed versions) p ok = absurd ok
    made_either pairs (State.Settling point place places) p ok = settled pairs (State.Settling point place places) place.0 place.1 p (slice_get p.servers place.0)
    made_either pairs (State.Confirming seen target) p ok = inl refl
    made_either pairs (State.Installing seen target) p ok = installed pairs (State.Installing seen target) target seen.version p tt (slice_get p.servers target)
    made_either pairs (State.Placing target epoch) p ok = inl refl
    made_either pairs (State.Ending outcome) p ok = inl refl
    made_either pairs (State.Finished outcome) p ok = inl refl

    -- ---- a step with its coding
    abbrev pub OneOf : Shortage → AtWork → Type 0
    OneOf shortage w = (wanting_step g tries who number job shortage w ≡ step g tries who number job w) ⊎ Doomed (wanting_step g tries who number job shortage w).call.at

    plain_either : (short : Bool) (w : AtWork) → Holds g tries who number w → OneOf (record { coding = false; step = short }) w
    plain_either false w ok = inl (sym (ample_by g tries who number job (act_of_state g tries job w.call) w))
    plain_either true w ok = by (made_either w.call.pairs w.call.at w.places ok.1)
      where
        by : Either w.call.pairs w.call.at w.places → OneOf (record { coding = false; step = true }) w
        by (inl same) = inl (same ∙ sym (ample_by g tries who number job (act_of_state g tries job w.call) w))
        by (inr doomed) = inr doomed

    pub step_either : (coding short : Bool) (w : AtWork) → Holds g tries who number w → OneOf (record { coding = coding; step = short }) w
    step_either false short w ok = plain_either short w ok
    step_either true short w ok = by (coded_either w.call.pairs w.call.at w.places.directory ok.1) (plain_either short w ok)
      where
        by : Coded w.call.pairs w.call.at → OneOf (record { coding = false; step = short }) w → OneOf (record { coding = true; step = short }) w
        by (inl same) (inl plain) = inl (ap (λ call. made short (record { call = call; places = w.places })) same ∙ plain)
        by (inl same) (inr doomed) = inr (subst (λ (w : AtWork). Doomed w.call.at) (sym (ap (λ call. made short (record { call = call; places = w.places })) same)) doomed)
        by (inr doomed) plain = inr (made_doomed short (coded true w.call.pairs w.call.at).pairs (coded true w.call.pairs w.call.at).at w.places ok.0 doomed)

    coded_doomed : (wanting : Bool) (pairs : List (ℕ × ℕ)) (at : State) → Doomed at → Doomed (coded wanting pairs at).at
    coded_doomed false pairs at doomed = doomed
    coded_doomed true pairs (State.Ending outcome) doomed = tt
    coded_doomed true pairs (State.Finished outcome) doomed = doomed
    coded_doomed true pairs State.Start doomed = absurd doomed
    coded_doomed true pairs (State.Parts part parts after) doomed = absurd doomed
    coded_doomed true pairs (State.Chunk seen target) doomed = absurd doomed
    coded_doomed true pairs (State.Gather aim asking parts after) doomed = absurd doomed
    coded_doomed true pairs State.Drawing doomed = absurd doomed
    coded_doomed true pairs (State.Preparing stripe version server servers row later placed versions) doomed = absurd doomed
    coded_doomed true pairs (State.Committing versions placed) doomed = absurd doomed
    coded_doomed true pairs (State.Committed versions) doomed = absurd doomed
    coded_doomed true pairs (State.Settling point place places) doomed = absurd doomed
    coded_doomed true pairs (State.Confirming seen target) doomed = absurd doomed
    coded_doomed true pairs (State.Installing seen target) doomed = absurd doomed
    coded_doomed true pairs (State.Placing target epoch) doomed = absurd doomed

    -- ---- all steps, where each keeps what is known of the call
    module _ (goes_on : (shortage : Shortage) (w : AtWork) → Holds g tries who number w → Holds g tries who number (wanting_step g tries who number job shortage w)) where
      pub doomed_all : (shortages : List Shortage) (w : AtWork) → Holds g tries who number w → Doomed w.call.at → Doomed (wanting_steps g tries who number job shortages w).call.at
      doomed_all [] w ok doomed = doomed
      doomed_all (shortage ∷ shortages) w ok doomed =
          doomed_all shortages (wanting_step g tries who number job shortage w) (goes_on shortage w ok)
          (made_doomed shortage.step (coded shortage.coding w.call.pairs w.call.at).pairs (coded shortage.coding w.call.pairs w.call.at).at w.places ok.0 (coded_doomed shortage.coding w.call.pairs w.call.at doomed))

      abbrev AllAs : List Shortage → AtWork → Type 0
      AllAs shortages w = (wanting_steps g tries who number job shortages w ≡ steps g tries who number job (length shortages) w) ⊎ Doomed (wanting_steps g tries who number job shortages w).call.at

      all_either : (shortages : List Shortage) (w : AtWork) → Holds g tries who number w → AllAs shortages w
      all_either [] w ok = inl refl
      all_either (shortage ∷ shortages) w ok = by (step_either shortage.coding shortage.step w ok) (all_either shortages (wanting_step g tries who number job shortage w) (goes_on shortage w ok))
        where
          by : OneOf shortage w → AllAs shortages (wanting_step g tries who number job shortage w) → AllAs (shortage ∷ shortages) w
          by (inl same) (inl rest) = inl (rest ∙ ap (steps g tries who number job (length shortages)) same)
          by (inl same) (inr doomed) = inr doomed
          by (inr doomed) rest = inr (doomed_all shortages (wanting_step g tries who number job shortage w) (goes_on shortage w ok) doomed)

      -- ---- the end
      abbrev pub EndsWanting : Act → Type 0
      EndsWanting (Act.Finish outcome) = IsWant outcome
      EndsWanting act = ⊤

      pub doomed_ends : (pairs : List (ℕ × ℕ)) (at : State) → Doomed at → EndsWanting (act_at g tries job pairs at)
      doomed_ends pairs (State.Ending outcome) doomed = tt
      doomed_ends pairs (State.Finished outcome) doomed = doomed
      doomed_ends pairs State.Start doomed = absurd doomed
      doomed_ends pairs (State.Parts part parts after) doomed = absurd doomed
      doomed_ends pairs (State.Chunk seen target) doomed = absurd doomed
      doomed_ends pairs (State.Gather aim asking parts after) doomed = absurd doomed
      doomed_ends pairs State.Drawing doomed = absurd doomed
      doomed_ends pairs (State.Preparing stripe version server servers row later placed versions) doomed = absurd doomed
      doomed_ends pairs (State.Committing versions placed) doomed = absurd doomed
      doomed_ends pairs (State.Committed versions) doomed = absurd doomed
      doomed_ends pairs (State.Settling point place places) doomed = absurd doomed
      doomed_ends pairs (State.Confirming seen target) doomed = absurd doomed
      doomed_ends pairs (State.Installing seen target) doomed = absurd doomed
      doomed_ends pairs (State.Placing target epoch) doomed = absurd doomed

      -- a call that is over had want of memory as its outcome, or made the steps that it makes with ample memory
      pub ends_either : (shortages : List Shortage) (w : AtWork) (outcome : Outcome) → Holds g tries who number w →
          act_of_state g tries job (wanting_steps g tries who number job shortages w).call ≡ Act.Finish outcome →
          (outcome ≡ Outcome.NoMemory) ⊎ (wanting_steps g tries who number job shortages w ≡ steps g tries who number job (length shortages) w)
      ends_either shortages w outcome ok over = by (all_either shortages w ok)
        where
          by : AllAs shortages w → (outcome ≡ Outcome.NoMemory) ⊎ (wanting_steps g tries who number job shortages w ≡ steps g tries who number job (length shortages) w)
          by (inl same) = inr same
          by (inr doomed) =
              let left : CallState = (wanting_steps g tries who number job shortages w).call in
              inl (want_is outcome (subst EndsWanting over (doomed_ends left.pairs left.at doomed)))

-- ---- of a client's call, and of a rebuild
call_doomed : (g : Shape) (c : Call) (pairs : List (ℕ × ℕ)) → Doomed (next_call g (job_of c) (record { pairs = pairs; at = State.Start }) Told.Short).at
call_doomed g (call.Put name content) pairs = tt
call_doomed g (call.Write name offset content) pairs = tt
call_doomed g (call.Get name) pairs = tt
call_doomed g (call.ReadAt name offset count) pairs = tt
call_doomed g (call.Stat name) pairs = tt
call_doomed g (call.Delete name) pairs = tt

module _ (g : Shape) (tries : ℕ) (who : Actor) (number : ℕ) where
  call_either : (c : Call) (p : Places) (pairs : List (ℕ × ℕ)) → Either g tries who number (job_of c) pairs State.Start p
  call_either (call.Put name content) p pairs = inr tt
  call_either (call.Write name offset content) p pairs = by (nat_lt (length pairs) tries)
    where
      by : (b : Bool) →
          (let act : Act = if b then Act.AtDirectory (DirectoryStep.Look (note_of (call.Write name offset content))) else Act.Finish (Outcome.Contended pairs) in
          let w : AtWork = record { call = record { pairs = pairs; at = State.Start }; places = p } in
          (wanting_by g tries who number (job_of (call.Write name offset content)) true act w ≡ wanting_by g tries who number (job_of (call.Write name offset content)) false act w)
          ⊎ Doomed (wanting_by g tries who number (job_of (call.Write name offset content)) true act w).call.at)
      by true = inr tt
      by false = inl refl
  call_either (call.Get name) p pairs = inr tt
  call_either (call.ReadAt name offset count) p pairs = inr tt
  call_either (call.Stat name) p pairs = inr tt
  call_either (call.Delete name) p pairs = inr tt

  pub call_ends_either : (c : Call) (shortages : List Shortage) (p : Places) (outcome : Outcome) → MayBeginFrom p.directory who number →
      act_of_state g tries (job_of c) (wanting_steps g tries who number (job_of c) shortages (record { call = first_state; places = p })).call ≡ Act.Finish outcome →
      (outcome ≡ Outcome.NoMemory)
      ⊎ (wanting_steps g tries who number (job_of c) shortages (record { call = first_state; places = p }) ≡ steps g tries who number (job_of c) (length shortages) (record { call = first_state; places = p }))
  call_ends_either c shortages p outcome seat =
      ends_either g tries who number (job_of c) (call_doomed g c) (call_either c) (call_step g tries who number c) shortages (record { call = first_state; places = p }) outcome (first_holds g tries who number p seat)

  pub rebuild_ends_either : (c : RebuildCall) (shortages : List Shortage) (p : Places) (outcome : Outcome) → MayBeginFrom p.directory who number →
      act_of_state g tries (rebuild_job c) (wanting_steps g tries who number (rebuild_job c) shortages (record { call = first_state; places = p })).call ≡ Act.Finish outcome →
      (outcome ≡ Outcome.NoMemory)
      ⊎ (wanting_steps g tries who number (rebuild_job c) shortages (record { call = first_state; places = p }) ≡ steps g tries who number (rebuild_job c) (length shortages) (record { call = first_state; places = p }))
  rebuild_ends_either c shortages p outcome seat =
      ends_either g tries who number (rebuild_job c) (λ pairs. tt) (λ p pairs. inr tt) (rebuild_step g tries who number c) shortages (record { call = first_state; places = p }) outcome (first_holds g tries who number p seat)
