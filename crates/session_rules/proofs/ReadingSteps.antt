-- The steps of a read of a snapshot: at servers alone, where nothing changes but what was taken.
use Rattle.std.proofs.Common.{◌≡◌, ◌≢◌, ◌⊎◌, ℕ, zero, suc, Bool, true, false, List, [], ◌∷◌, length, map, replicate, slice_get, Option, None, Some, refl, sym, ap, subst, ◌∙◌, inl, inr, if◌then◌else◌}
use Rattle.std.specs.Bool.{⊤}
use Rattle.std.proofs.lemmas.Option.{same_Some}
use Rattle.clay_grid.specs.Shape.{Shape}
use Rattle.store_map.specs.declared.actor.Actor.TheVariants as actor
use Rattle.store_core.specs.Told.{Told}
use Rattle.store_core.specs.Act.{Act, ServerStep, Outcome}
use Rattle.store_core.specs.ActPlace.{is_in_pass}
use Rattle.store_core.specs.Lookups.{pass_of}
use Rattle.store_core.specs.PassSteps.{end_pass}
use Rattle.store_core.specs.AtDirectory.{on_pass}
use Rattle.store_core.specs.Directory.{Pass, Directory}
use Rattle.store_core.specs.Gathering.{Part}
use Rattle.store_core.specs.Server.{Server, at_server, gives, found_at, raised_by}
use Rattle.store_core.specs.Step.{Shortage, Places, at_places, at_server_there}
use Rattle.run_laws.specs.Stage.{Aim, Asking, Stage}
use Rattle.run_laws.specs.Stages.{first_stage}
use Rattle.run_laws.specs.StageAfter.{stage_after, server_asked, step_asked}
use Rattle.run_laws.specs.State.{Sequel, State, CallState}
use Rattle.run_laws.specs.States.{parts_state, stage_state, open_parts, open_state, open_call}
use Rattle.run_laws.specs.StateActs.{act_of_state}
use Rattle.run_laws.specs.GatherAfter.{ending_after}
use Rattle.run_laws.specs.CallLaws.{next_call}
use Rattle.session_rules.specs.Alone.{AtWork, step, steps}
use Rattle.session_rules.specs.Wants.{after_coding}
use Rattle.session_rules.proofs.Lists.{map_kept}
use Rattle.session_rules.proofs.Walks.{untaken}
use Rattle.session_rules.specs.Reading.{reading, reading_by, reading_step, reading_steps}

-- a gathering for a read, or its end
abbrev pub IsGathering : State → Type 0
IsGathering (State.Gather aim asking parts (Sequel.Serve point)) = ⊤
IsGathering (State.Ending outcome) = ⊤
IsGathering at = ⊥

-- a question of a gathering
abbrev IsAsking : ServerStep → Type 0
IsAsking (ServerStep.Has version) = ⊤
IsAsking (ServerStep.Fetch version layers) = ⊤
IsAsking step = ⊥

-- places that differ in what was taken alone
pub record OnlyTaken (p q : Places) : Type 0 where
  pub servers : map untaken q.servers ≡ map untaken p.servers
  pub directory : q.directory ≡ p.directory

-- ---- a question changes what was taken alone
kept_there : (short : Bool) (step : ServerStep) → IsAsking step → (one : Server) → untaken (at_server short step one).0 ≡ untaken one
kept_there true (ServerStep.Has version) ok one = by (gives version one)
  where
    by : (b : Bool) → untaken (let r : Server × Told = if b then (one, Told.Here) else (one, Told.Missing (found_at one)) in r.0) ≡ untaken one
    by true = refl
    by false = refl
kept_there false (ServerStep.Has version) ok one = by (gives version one)
  where
    by : (b : Bool) → untaken (let r : Server × Told = if b then (one, Told.Here) else (one, Told.Missing (found_at one)) in r.0) ≡ untaken one
    by true = refl
    by false = refl
kept_there true (ServerStep.Fetch version layers) ok one = refl
kept_there false (ServerStep.Fetch version layers) ok one = by (gives version one)
  where
    by : (b : Bool) → untaken (let r : Server × Told = if b then (record one { taken = raised_by (length layers) one.taken }, Told.Given (length layers)) else (one, Told.Missing (found_at one)) in r.0) ≡ untaken one
    by true = refl
    by false = refl
kept_there short (ServerStep.Prepare version) ok one = absurd ok
kept_there short (ServerStep.Settle version) ok one = absurd ok
kept_there short (ServerStep.Install version) ok one = absurd ok
kept_there short (ServerStep.Discard version) ok one = absurd ok
kept_there short ServerStep.Wipe ok one = absurd ok
kept_there short ServerStep.Down ok one = absurd ok
kept_there short ServerStep.Up ok one = absurd ok

taken_there : (short : Bool) (server : ℕ) (step : ServerStep) (p : Places) → IsAsking step → (found : Option Server) → slice_get p.servers server ≡ found → OnlyTaken p (at_server_there short server step p found).0
taken_there short server step p ok None e = record { servers = refl; directory = refl }
taken_there short server step p ok (Some one) e = record {
  servers =
      map_kept untaken server (λ _. (at_server short step one).0) p.servers
      (λ x at. kept_there short step ok one ∙ ap untaken (same_Some one x (sym e ∙ at)));
  directory = refl;
}

module _ (g : Shape) where
  -- ---- a gathering goes on so
  stage_gathers : (point : ℕ) (bytes : State) (aim : Aim) (parts : List Part) (stage : Stage) → IsGathering bytes → IsGathering (stage_state bytes aim parts (Sequel.Serve point) stage)
  stage_gathers point bytes aim parts (Stage.Asks asking) its = tt
  stage_gathers point bytes aim parts Stage.HasBytes its = its
  stage_gathers point bytes aim parts (Stage.TooMany missing) its = tt
  stage_gathers point bytes aim parts Stage.AtTarget its = tt
  stage_gathers point bytes aim parts (Stage.TargetAway downs) its = tt
  stage_gathers point bytes aim parts Stage.Short its = tt

  pub opened_gathers : (point : ℕ) (parts : List Part) → IsGathering (open_parts g parts (Sequel.Serve point))
  opened_gathers point [] = tt
  opened_gathers point (part ∷ parts) =
      stage_gathers point (open_parts g parts (Sequel.Serve point)) (Aim.Range part) parts (first_stage g (Aim.Range part)) (opened_gathers point parts)

  next_gathers : (point : ℕ) (aim : Aim) (parts : List Part) (stage : Stage) → IsGathering (open_state g (stage_state (parts_state parts (Sequel.Serve point)) aim parts (Sequel.Serve point) stage))
  next_gathers point aim parts (Stage.Asks asking) = tt
  next_gathers point aim [] Stage.HasBytes = tt
  next_gathers point aim (part ∷ parts) Stage.HasBytes = opened_gathers point (part ∷ parts)
  next_gathers point aim parts (Stage.TooMany missing) = tt
  next_gathers point aim parts Stage.AtTarget = tt
  next_gathers point aim parts (Stage.TargetAway downs) = tt
  next_gathers point aim parts Stage.Short = tt

  asks : (aim : Aim) (asking : Asking) → IsAsking (step_asked g aim asking)
  asks aim (Asking.Fetch server more missing) = tt
  asks aim (Asking.Look server more missing) = tt
  asks aim (Asking.Repair server more lost) = tt
  asks aim (Asking.Whole server more wanted missing) = tt
  asks aim (Asking.Target server) = tt

  abbrev pub at_work : List (ℕ × ℕ) → State → Places → AtWork
  at_work pairs at p = record { call = record { pairs = pairs; at = at }; places = p }

  -- what a step of a read keeps
  abbrev GoesOn : Places → AtWork → Type 0
  GoesOn p w = IsGathering w.call.at × OnlyTaken p w.places

  abbrev made : Bool → AtWork → AtWork
  made short w = reading_by g short (act_of_state g 0 reading w.call) w

  -- ---- one step
  step_goes_on : (short : Bool) (pairs : List (ℕ × ℕ)) (at : State) (p : Places) → IsGathering at → GoesOn p (made short (at_work pairs at p))
  step_goes_on short pairs (State.Gather aim asking parts (Sequel.Serve point)) p its = (
    next_gathers point aim parts (stage_after g aim asking (at_places short actor.Operator 0 (Act.AtServer (server_asked g aim asking) (step_asked g aim asking)) p).1),
    taken_there short (server_asked g aim asking) (step_asked g aim asking) p (asks aim asking) (slice_get p.servers (server_asked g aim asking)) refl,
  )
  step_goes_on short pairs (State.Ending outcome) p its = (tt, record { servers = refl; directory = refl })
  step_goes_on short pairs (State.Gather aim asking parts Sequel.Draw) p its = absurd its
  step_goes_on short pairs (State.Gather aim asking parts (Sequel.Confirm seen target)) p its = absurd its
  step_goes_on short pairs State.Start p its = absurd its
  step_goes_on short pairs (State.Parts part parts after) p its = absurd its
  step_goes_on short pairs (State.Chunk seen target) p its = absurd its
  step_goes_on short pairs State.Drawing p its = absurd its
  step_goes_on short pairs (State.Preparing stripe version server servers row later placed versions) p its = absurd its
  step_goes_on short pairs (State.Committing versions placed) p its = absurd its
  step_goes_on short pairs (State.Committed versions) p its = absurd its
  step_goes_on short pairs (State.Settling point place places) p its = absurd its
  step_goes_on short pairs (State.Confirming seen target) p its = absurd its
  step_goes_on short pairs (State.Installing seen target) p its = absurd its
  step_goes_on short pairs (State.Placing target epoch) p its = absurd its
  step_goes_on short pairs (State.Finished outcome) p its = absurd its

  -- want of memory in the coding before it
  coded_by : (pairs : List (ℕ × ℕ)) (at : State) → IsGathering at → IsGathering (next_call g reading (record { pairs = pairs; at = at }) Told.Short).at → (b : Bool) →
      IsGathering (let call : CallState = if b then next_call g reading (record { pairs = pairs; at = at }) Told.Short else record { pairs = pairs; at = at } in call.at)
  coded_by pairs at its short true = short
  coded_by pairs at its short false = its

  coded_gathers : (wanting : Bool) (pairs : List (ℕ × ℕ)) (at : State) → IsGathering at → IsGathering (after_coding g 0 actor.Operator 0 reading wanting (record { pairs = pairs; at = at })).at
  coded_gathers false pairs at its = its
  coded_gathers true pairs (State.Gather aim asking parts (Sequel.Serve point)) its =
      coded_by pairs (State.Gather aim asking parts (Sequel.Serve point)) tt (next_gathers point aim parts (stage_after g aim asking Told.Short)) (is_in_pass (act_of_state g 0 reading (record { pairs = pairs; at = State.Gather aim asking parts (Sequel.Serve point) })))
  coded_gathers true pairs (State.Ending outcome) its = coded_by pairs (State.Ending outcome) tt tt (is_in_pass (act_of_state g 0 reading (record { pairs = pairs; at = State.Ending outcome })))
  coded_gathers true pairs (State.Gather aim asking parts Sequel.Draw) its = absurd its
  coded_gathers true pairs (State.Gather aim asking parts (Sequel.Confirm seen target)) its = absurd its
  coded_gathers true pairs State.Start its = absurd its
  coded_gathers true pairs (State.Parts part parts after) its = absurd its
  coded_gathers true pairs (State.Chunk seen target) its = absurd its
  coded_gathers true pairs State.Drawing its = absurd its
  coded_gathers true pairs (State.Preparing stripe version server servers row later placed versions) its = absurd its
  coded_gathers true pairs (State.Committing versions placed) its = absurd its
  coded_gathers true pairs (State.Committed versions) its = absurd its
  coded_gathers true pairs (State.Settling point place places) its = absurd its
  coded_gathers true pairs (State.Confirming seen target) its = absurd its
  coded_gathers true pairs (State.Installing seen target) its = absurd its
  coded_gathers true pairs (State.Placing target epoch) its = absurd its
  coded_gathers true pairs (State.Finished outcome) its = absurd its

  -- ---- all steps
  pub steps_go_on : (shortages : List Shortage) (w : AtWork) → IsGathering w.call.at → GoesOn w.places (reading_steps g shortages w)
  steps_go_on [] w its = (its, record { servers = refl; directory = refl })
  steps_go_on (shortage ∷ shortages) w its =
      let call : CallState = after_coding g 0 actor.Operator 0 reading shortage.coding w.call in
      let first : GoesOn w.places (made shortage.step (at_work call.pairs call.at w.places)) = step_goes_on shortage.step call.pairs call.at w.places (coded_gathers shortage.coding w.call.pairs w.call.at its) in
      let rest : GoesOn (made shortage.step (at_work call.pairs call.at w.places)).places (reading_steps g shortages (reading_step g shortage w)) = steps_go_on shortages (reading_step g shortage w) first.0 in
      (rest.0, record { servers = rest.1.servers ∙ first.1.servers; directory = rest.1.directory ∙ first.1.directory })

  -- ---- a call's steps up to the end of its pass are such
  abbrev pub ample : Shortage
  ample = record { coding = false; step = false }

  -- an actor without a pass comes no further
  end_told : (pairs : List (ℕ × ℕ)) (outcome : Outcome) (p : Places) → pass_of actor.Operator p.directory ≡ None → step g 0 actor.Operator 0 reading (at_work pairs (State.Ending outcome) p) ≡ at_work pairs (State.Ending Outcome.NoMemory) p
  end_told pairs outcome p none =
      ap (λ (f : Option Pass).
      let r : Directory × Told = on_pass end_pass f p.directory in
      let w : AtWork = record { call = open_call g (record { pairs = pairs; at = ending_after outcome r.1 }); places = record p { directory = r.0 } } in w) none

  stuck : (n : ℕ) (pairs : List (ℕ × ℕ)) (outcome : Outcome) (p : Places) → pass_of actor.Operator p.directory ≡ None →
      steps g 0 actor.Operator 0 reading (suc n) (at_work pairs (State.Ending outcome) p) ≡ at_work pairs (State.Ending Outcome.NoMemory) p
  stuck zero pairs outcome p none = end_told pairs outcome p none
  stuck (suc n) pairs outcome p none = ap (steps g 0 actor.Operator 0 reading (suc n)) (end_told pairs outcome p none) ∙ stuck n pairs Outcome.NoMemory p none

  abbrev outcome_in : State → Outcome
  outcome_in (State.Ending outcome) = outcome
  outcome_in at = Outcome.NoMemory

  abbrev Ends : List (ℕ × ℕ) → State → Places → Outcome → Places → Type 0
  Ends pairs at p outcome q = (m : ℕ) × (reading_steps g (replicate m ample) (at_work pairs at p) ≡ at_work [] (State.Ending outcome) q)

  pub from_steps : (n : ℕ) (pairs : List (ℕ × ℕ)) (at : State) (p : Places) (outcome : Outcome) (q : Places) → IsGathering at → pass_of actor.Operator p.directory ≡ None → Outcome.NoMemory ≢ outcome →
      steps g 0 actor.Operator 0 reading n (at_work pairs at p) ≡ at_work [] (State.Ending outcome) q → Ends pairs at p outcome q
  from_steps zero pairs at p outcome q its none other e = (0, e)
  from_steps (suc n) pairs (State.Ending found) p outcome q its none other e = absurd (other (ap (λ (w : AtWork). outcome_in w.call.at) (sym (stuck n pairs found p none) ∙ e)))
  from_steps (suc n) pairs (State.Gather aim asking parts (Sequel.Serve point)) p outcome q its none other e =
      let next : AtWork = made false (at_work pairs (State.Gather aim asking parts (Sequel.Serve point)) p) in
      let first : GoesOn p (made false (at_work pairs (State.Gather aim asking parts (Sequel.Serve point)) p)) = step_goes_on false pairs (State.Gather aim asking parts (Sequel.Serve point)) p tt in
      let rest : Ends next.call.pairs next.call.at next.places outcome q =
      from_steps n next.call.pairs next.call.at next.places outcome q first.0 (ap (λ d. pass_of actor.Operator d) first.1.directory ∙ none) other e in
      (suc rest.0, rest.1)
  from_steps (suc n) pairs (State.Gather aim asking parts Sequel.Draw) p outcome q its none other e = absurd its
  from_steps (suc n) pairs (State.Gather aim asking parts (Sequel.Confirm seen target)) p outcome q its none other e = absurd its
  from_steps (suc n) pairs State.Start p outcome q its none other e = absurd its
  from_steps (suc n) pairs (State.Parts part parts after) p outcome q its none other e = absurd its
  from_steps (suc n) pairs (State.Chunk seen target) p outcome q its none other e = absurd its
  from_steps (suc n) pairs State.Drawing p outcome q its none other e = absurd its
  from_steps (suc n) pairs (State.Preparing stripe version server servers row later placed versions) p outcome q its none other e = absurd its
  from_steps (suc n) pairs (State.Committing versions placed) p outcome q its none other e = absurd its
  from_steps (suc n) pairs (State.Committed versions) p outcome q its none other e = absurd its
  from_steps (suc n) pairs (State.Settling point place places) p outcome q its none other e = absurd its
  from_steps (suc n) pairs (State.Confirming seen target) p outcome q its none other e = absurd its
  from_steps (suc n) pairs (State.Installing seen target) p outcome q its none other e = absurd its
  from_steps (suc n) pairs (State.Placing target epoch) p outcome q its none other e = absurd its
  from_steps (suc n) pairs (State.Finished found) p outcome q its none other e = absurd its

  -- ---- a read that ends ends for want of memory, or as with ample memory
  abbrev IsDoomed : State → Type 0
  IsDoomed at = at ≡ State.Ending Outcome.NoMemory

  -- a step in which memory is wanting
  abbrev Either : List (ℕ × ℕ) → State → Places → Type 0
  Either pairs at p = (made true (at_work pairs at p) ≡ made false (at_work pairs at p)) ⊎ IsDoomed (made true (at_work pairs at p)).call.at

  abbrev after_server : List (ℕ × ℕ) → State → Bool → ℕ → ServerStep → Places → Option Server → AtWork
  after_server pairs at short server step p found =
      let r : Places × Told = at_server_there short server step p found in record { call = next_call g reading (record { pairs = pairs; at = at }) r.1; places = r.0 }

  asked_either : (pairs : List (ℕ × ℕ)) (point : ℕ) (aim : Aim) (asking : Asking) (parts : List Part) (p : Places) (found : Option Server) →
      (after_server pairs (State.Gather aim asking parts (Sequel.Serve point)) true (server_asked g aim asking) (step_asked g aim asking) p found
      ≡ after_server pairs (State.Gather aim asking parts (Sequel.Serve point)) false (server_asked g aim asking) (step_asked g aim asking) p found)
      ⊎ IsDoomed (after_server pairs (State.Gather aim asking parts (Sequel.Serve point)) true (server_asked g aim asking) (step_asked g aim asking) p found).call.at
  asked_either pairs point aim asking parts p None = inl refl
  asked_either pairs point aim (Asking.Fetch server more missing) parts p (Some one) = inr refl
  asked_either pairs point aim (Asking.Look server more missing) parts p (Some one) = inl refl
  asked_either pairs point aim (Asking.Repair server more lost) parts p (Some one) = inr refl
  asked_either pairs point aim (Asking.Whole server more wanted missing) parts p (Some one) = inr refl
  asked_either pairs point aim (Asking.Target server) parts p (Some one) = inl refl

  short_dooms : (pairs : List (ℕ × ℕ)) (point : ℕ) (aim : Aim) (asking : Asking) (parts : List Part) →
      IsDoomed (next_call g reading (record { pairs = pairs; at = State.Gather aim asking parts (Sequel.Serve point) }) Told.Short).at
  short_dooms pairs point aim (Asking.Fetch server more missing) parts = refl
  short_dooms pairs point aim (Asking.Look server more missing) parts = refl
  short_dooms pairs point aim (Asking.Repair server more lost) parts = refl
  short_dooms pairs point aim (Asking.Whole server more wanted missing) parts = refl
  short_dooms pairs point aim (Asking.Target server) parts = refl

  -- the coding before it
  abbrev Coded : List (ℕ × ℕ) → State → CallState → Type 0
  Coded pairs at call = (call ≡ record { pairs = pairs; at = at }) ⊎ IsDoomed call.at

  by_pass : (pairs : List (ℕ × ℕ)) (at : State) → IsDoomed (next_call g reading (record { pairs = pairs; at = at }) Told.Short).at → (b : Bool) →
      Coded pairs at (let call : CallState = if b then next_call g reading (record { pairs = pairs; at = at }) Told.Short else record { pairs = pairs; at = at } in call)
  by_pass pairs at dooms true = inr dooms
  by_pass pairs at dooms false = inl refl

  abbrev Known : State → Type 0
  Known at = (pairs : List (ℕ × ℕ)) (p : Places) → Coded pairs at (after_coding g 0 actor.Operator 0 reading true (record { pairs = pairs; at = at })) × Either pairs at p

  known : (at : State) → IsGathering at → Known at
  known (State.Gather aim asking parts (Sequel.Serve point)) its pairs p = (
    by_pass pairs (State.Gather aim asking parts (Sequel.Serve point)) (short_dooms pairs point aim asking parts)
        (is_in_pass (act_of_state g 0 reading (record { pairs = pairs; at = State.Gather aim asking parts (Sequel.Serve point) }))),
    asked_either pairs point aim asking parts p (slice_get p.servers (server_asked g aim asking)),
  )
  known (State.Ending outcome) its pairs p = (inr refl, inl refl)
  known (State.Gather aim asking parts Sequel.Draw) its pairs p = absurd its
  known (State.Gather aim asking parts (Sequel.Confirm seen target)) its pairs p = absurd its
  known State.Start its pairs p = absurd its
  known (State.Parts part parts after) its pairs p = absurd its
  known (State.Chunk seen target) its pairs p = absurd its
  known State.Drawing its pairs p = absurd its
  known (State.Preparing stripe version server servers row later placed versions) its pairs p = absurd its
  known (State.Committing versions placed) its pairs p = absurd its
  known (State.Committed versions) its pairs p = absurd its
  known (State.Settling point place places) its pairs p = absurd its
  known (State.Confirming seen target) its pairs p = absurd its
  known (State.Installing seen target) its pairs p = absurd its
  known (State.Placing target epoch) its pairs p = absurd its
  known (State.Finished outcome) its pairs p = absurd its

  -- one that is doomed stays so
  stays_doomed : (shortage : Shortage) (w : AtWork) → IsDoomed w.call.at → IsDoomed (reading_step g shortage w).call.at
  stays_doomed shortage w dooms = subst (λ at. IsDoomed (reading_step g shortage (at_work w.call.pairs at w.places)).call.at) (sym dooms) (by shortage.coding)
    where
      by : (coding : Bool) →
          (let call : CallState = after_coding g 0 actor.Operator 0 reading coding (record { pairs = w.call.pairs; at = State.Ending Outcome.NoMemory }) in
          IsDoomed (reading_by g shortage.step (act_of_state g 0 reading call) (record { call = call; places = w.places })).call.at)
      by true = refl
      by false = refl

  all_doomed : (shortages : List Shortage) (w : AtWork) → IsDoomed w.call.at → IsDoomed (reading_steps g shortages w).call.at
  all_doomed [] w dooms = dooms
  all_doomed (shortage ∷ shortages) w dooms = all_doomed shortages (reading_step g shortage w) (stays_doomed shortage w dooms)

  abbrev One : Bool → Bool → AtWork → Type 0
  One coding short w = (reading_step g (record { coding = coding; step = short }) w ≡ reading_step g ample w) ⊎ IsDoomed (reading_step g (record { coding = coding; step = short }) w).call.at

  plain : (short : Bool) (w : AtWork) → IsGathering w.call.at → One false short w
  plain false w its = inl refl
  plain true w its = (known w.call.at its w.call.pairs w.places).1

  one : (coding short : Bool) (w : AtWork) → IsGathering w.call.at → One coding short w
  one false short w its = plain short w its
  one true short w its = by (known w.call.at its w.call.pairs w.places).0 (plain short w its)
    where
      by : Coded w.call.pairs w.call.at (after_coding g 0 actor.Operator 0 reading true w.call) → One false short w → One true short w
      by (inl same) (inl rest) = inl (ap (λ call. made short (record { call = call; places = w.places })) same ∙ rest)
      by (inl same) (inr dooms) = inr (subst (λ (w : AtWork). IsDoomed w.call.at) (sym (ap (λ call. made short (record { call = call; places = w.places })) same)) dooms)
      by (inr dooms) rest =
          inr (stays_doomed (record { coding = false; step = short }) (record { call = after_coding g 0 actor.Operator 0 reading true w.call; places = w.places }) dooms)

  pub reads_either : (shortages : List Shortage) (w : AtWork) → IsGathering w.call.at →
      IsDoomed (reading_steps g shortages w).call.at ⊎ (reading_steps g shortages w ≡ reading_steps g (replicate (length shortages) ample) w)
  reads_either [] w its = inr refl
  reads_either (shortage ∷ shortages) w its =
      by (one shortage.coding shortage.step w its)
      (reads_either shortages (reading_step g shortage w) (steps_go_on (shortage ∷ []) w its).0)
    where
      by : One shortage.coding shortage.step w →
          IsDoomed (reading_steps g shortages (reading_step g shortage w)).call.at ⊎ (reading_steps g shortages (reading_step g shortage w) ≡ reading_steps g (replicate (length shortages) ample) (reading_step g shortage w)) →
          IsDoomed (reading_steps g (shortage ∷ shortages) w).call.at ⊎ (reading_steps g (shortage ∷ shortages) w ≡ reading_steps g (replicate (length (shortage ∷ shortages)) ample) w)
      by (inl same) (inr rest) = inr (rest ∙ ap (reading_steps g (replicate (length shortages) ample)) same)
      by (inl same) (inl dooms) = inl dooms
      by (inr dooms) rest = inl (all_doomed shortages (reading_step g shortage w) dooms)
