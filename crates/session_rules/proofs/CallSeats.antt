-- A call that runs alone: once it is over its actor has no pass, and its points are of this call or of earlier ones.
use Rattle.std.proofs.Common.{◌≡◌, ℕ, ◌+◌, ◌<◌, ◌/◌, Bool, true, false, ◌&&◌, List, [], ◌∷◌, ◌++◌, length, slice_get, Option, None, Some, option_map, unwrap_or, IfSome, IsTrue, refl, sym, subst, arith, if◌then◌else◌, nat_lt}
use Rattle.std.specs.Bool.{⊤}
use Rattle.std.specs.List.{range_with_len, list_all}
use Rattle.std.proofs.lemmas.List.Elements.{All-weaker}
use Rattle.clay_grid.specs.Shape.{Shape, chunk_count, stripe_length}
use Rattle.store_map.specs.declared.actor.Actor.{Actor}
use Rattle.store_map.specs.declared.call.Call.{Call}
use Rattle.store_map.specs.declared.call.Call.TheVariants as call
use Rattle.store_map.specs.declared.call.Rebuild.{Rebuild as RebuildCall}
use Rattle.store_map.specs.declared.placement.Placement.{Placement}
use Rattle.store_map.specs.declared.placement.Placement.TheVariants as placement
use Rattle.store_map.specs.declared.reply.Reply.{Reply}
use Rattle.store_core.specs.Lists.{change_at, is_among, places_of}
use Rattle.store_core.specs.Told.{Seen, Told}
use Rattle.store_core.specs.Note.{Kind, Note, note_of, note_of_rebuild, refusal}
use Rattle.store_core.specs.Act.{Act, DirectoryStep, ServerStep, Outcome}
use Rattle.store_core.specs.ActPlace.{is_in_pass}
use Rattle.store_core.specs.NextAct.{Job, job_of, rebuild_job}
use Rattle.store_core.specs.Agreement.{AreBelow}
use Rattle.store_core.specs.Directory.{Object, Pass, Point, Directory}
use Rattle.store_core.specs.Lookups.{same_actor, find_object, pass_of, last_change, is_current}
use Rattle.store_core.specs.Look.{begin_pass, seen_at}
use Rattle.store_core.specs.Looks.{look_by, look_repair_by}
use Rattle.store_core.specs.PassSteps.{close_pass, give_up_drawn, draw, end_pass, confirm, repaired, touched}
use Rattle.store_core.specs.Commit.{is_overtaken, commit, commit_object}
use Rattle.store_core.specs.AtDirectory.{at_directory, on_pass, unless_reaped}
use Rattle.store_core.specs.Gathering.{Part}
use Rattle.store_core.specs.Placements.{skipped_count, skipped_from}
use Rattle.store_core.specs.Read.{parts_of}
use Rattle.store_core.specs.Write.{old_parts}
use Rattle.store_core.specs.Server.{Server, hold, install}
use Rattle.store_core.specs.Step.{Shortage, Places, at_places, at_server_there}
use Rattle.run_laws.specs.Stage.{Aim, Stage}
use Rattle.run_laws.specs.StageAfter.{stage_after, server_asked, step_asked}
use Rattle.run_laws.specs.Stages.{first_stage}
use Rattle.run_laws.specs.State.{Sequel, State, CallState, first_state}
use Rattle.run_laws.specs.States.{sequel_state, parts_state, stage_state, prepare_state, prepare_all_state, settle_state, open_parts, open_state, open_call}
use Rattle.run_laws.specs.StateActs.{start_act, act_at, act_of_state}
use Rattle.run_laws.specs.GatherAfter.{installing_after}
use Rattle.run_laws.specs.WriteAfter.{preparing_after}
use Rattle.run_laws.specs.CallAfter.{pairs_with}
use Rattle.run_laws.specs.LookAfter.{put_after_look, write_after_look, read_after_look, single_after_look, rebuild_after_look}
use Rattle.run_laws.specs.CallLaws.{next_call}
use Rattle.session_rules.specs.Alone.{AtWork}
use Rattle.session_rules.specs.Wants.{may_code, after_coding, wanting_by, wanting_step, wanting_steps}
use Rattle.session_rules.proofs.Wants.{same_directory}
use Rattle.session_rules.specs.Seats.{MayBeginFrom}
use Rattle.session_rules.proofs.Own.{IsAlive, Own, closed, looked, looked_repair, own_step}

module _ (g : Shape) (tries : ℕ) (who : Actor) (number : ℕ) where
  abbrev Free : Directory → Type 0
  Free d = pass_of who d ≡ None

  -- where its actor has no pass
  abbrev pub Fits : State → Directory → Type 0
  Fits State.Start d = Free d
  Fits (State.Settling point place places) d = Free d
  Fits (State.Finished outcome) d = Free d
  Fits (State.Parts part parts after) d = ⊥
  Fits (State.Chunk seen target) d = ⊥
  Fits (State.Committed versions) d = ⊥
  Fits at d = ⊤

  abbrev pub Holds : AtWork → Type 0
  Holds w = Own who number w.places.directory × Fits w.call.at w.places.directory

  -- ---- states at their next question
  sequel_fits : (after : Sequel) (d : Directory) → Fits (sequel_state after) d
  sequel_fits (Sequel.Serve point) d = tt
  sequel_fits Sequel.Draw d = tt
  sequel_fits (Sequel.Confirm seen target) d = tt

  stage_fits : (bytes : State) (aim : Aim) (parts : List Part) (after : Sequel) (d : Directory) → Fits bytes d → (stage : Stage) → Fits (stage_state bytes aim parts after stage) d
  stage_fits bytes aim parts after d has (Stage.Asks asking) = tt
  stage_fits bytes aim parts after d has Stage.HasBytes = has
  stage_fits bytes aim parts after d has (Stage.TooMany missing) = tt
  stage_fits bytes aim parts after d has Stage.AtTarget = tt
  stage_fits bytes aim parts after d has (Stage.TargetAway downs) = tt
  stage_fits bytes aim parts after d has Stage.Short = tt

  open_fits : (parts : List Part) (after : Sequel) (d : Directory) → Fits (open_parts g parts after) d
  open_fits [] after d = sequel_fits after d
  open_fits (part ∷ parts) after d = stage_fits (open_parts g parts after) (Aim.Range part) parts after d (open_fits parts after d) (first_stage g (Aim.Range part))

  parts_fit : (parts : List Part) (after : Sequel) (d : Directory) → Fits (open_state g (parts_state parts after)) d
  parts_fit [] (Sequel.Serve point) d = tt
  parts_fit [] Sequel.Draw d = tt
  parts_fit [] (Sequel.Confirm seen target) d = tt
  parts_fit (part ∷ parts) after d = open_fits (part ∷ parts) after d

  gather_fits : (aim : Aim) (parts : List Part) (after : Sequel) (d : Directory) (stage : Stage) → Fits (open_state g (stage_state (parts_state parts after) aim parts after stage)) d
  gather_fits aim parts after d (Stage.Asks asking) = tt
  gather_fits aim parts after d Stage.HasBytes = parts_fit parts after d
  gather_fits aim parts after d (Stage.TooMany missing) = tt
  gather_fits aim parts after d Stage.AtTarget = tt
  gather_fits aim parts after d (Stage.TargetAway downs) = tt
  gather_fits aim parts after d Stage.Short = tt

  prepare_fits : (versions : List ℕ) (stripe version : ℕ) (later : List ℕ) (placed : List (List Placement)) (next : List Placement → State) (d : Directory) →
      ((row : List Placement) → Fits (open_state g (next row)) d) → (servers : List ℕ) (row : List Placement) → Fits (open_state g (prepare_state versions stripe version later placed next servers row)) d
  prepare_fits versions stripe version later placed next d then_so [] row = then_so row
  prepare_fits versions stripe version later placed next d then_so (server ∷ servers) row = tt

  prepare_all_fits : (versions later : List ℕ) (stripe : ℕ) (placed : List (List Placement)) (d : Directory) → Fits (open_state g (prepare_all_state g versions stripe later placed)) d
  prepare_all_fits versions [] stripe placed d = tt
  prepare_all_fits versions (version ∷ later) stripe placed d =
      prepare_fits versions stripe version later placed (λ row. prepare_all_state g versions (stripe + 1) later (placed ++ row ∷ [])) d
      (λ row. prepare_all_fits versions later (stripe + 1) (placed ++ row ∷ []) d) (range_with_len 0 (chunk_count g)) []

  settles : (point : ℕ) (places : List (ℕ × ℕ)) (d : Directory) → Free d → Fits (open_state g (settle_state point places)) d
  settles point [] d free = free
  settles point (place ∷ places) d free = free

  committed : (point : ℕ) (places : List (ℕ × ℕ)) (d : Directory) → Free d → Fits (settle_state point places) d
  committed point [] d free = free
  committed point (place ∷ places) d free = free

  -- ---- the look
  abbrev looked_at : (Told → State) → List (ℕ × ℕ) → Places → Directory × Told → AtWork
  looked_at after pairs p r = record { call = open_call g (record { pairs = pairs_with pairs r.1; at = after r.1 }); places = record p { directory = r.0 } }

  start_short : (c : Call) (pairs : List (ℕ × ℕ)) (d : Directory) → Free d → Fits (next_call g (job_of c) (record { pairs = pairs; at = State.Start }) Told.Short).at d
  start_short (call.Put name content) pairs d free = free
  start_short (call.Write name offset content) pairs d free = free
  start_short (call.Get name) pairs d free = free
  start_short (call.ReadAt name offset n) pairs d free = free
  start_short (call.Stat name) pairs d free = free
  start_short (call.Delete name) pairs d free = free

  module _ (p : Places) (own : Own who number p.directory) (free : pass_of who p.directory ≡ None) where
    abbrev d : Directory
    d = p.directory

    abbrev refused : Note → Option Reply
    refused n = refusal d.max n (option_map (λ (object : Object). object.length) (find_object n.name d.objects))

    -- what the look of this call is answered
    abbrev answered : Call → Option Reply → Directory × Told
    answered c r = look_by who number (note_of c) d (find_object (note_of c).name d.objects) r

    looks : (c : Call) (r : Option Reply) → Own who number (answered c r).0
    looks c r = looked who number d own (note_of c) (find_object (note_of c).name d.objects) r

    start_holds : (c : Call) (short : Bool) (pairs : List (ℕ × ℕ)) →
        Holds (wanting_by g tries who number (job_of c) short (act_at g tries (job_of c) pairs State.Start) (record { call = record { pairs = pairs; at = State.Start }; places = p }))
    start_holds (call.Put name content) true pairs = (own, free)
    start_holds (call.Put name content) false pairs = by (refused (note_of (call.Put name content)))
      where
        by : (r : Option Reply) → Holds (looked_at put_after_look pairs p (answered (call.Put name content) r))
        by (Some answer) = (looks (call.Put name content) (Some answer), free)
        by None = (looks (call.Put name content) None, tt)
    start_holds (call.Write name offset content) short pairs = by_tries (nat_lt (length pairs) tries) short
      where
        object : Object
        object = unwrap_or (find_object name d.objects) (record { name = name; length = 0; versions = [] })

        by : (r : Option Reply) → Holds (looked_at (write_after_look g) pairs p (answered (call.Write name offset content) r))
        by (Some answer) = (looks (call.Write name offset content) (Some answer), free)
        by None = (looks (call.Write name offset content) None, parts_fit (old_parts g _ _) Sequel.Draw (answered (call.Write name offset content) None).0)

        by_tries : (b : Bool) (short : Bool) →
            Holds (wanting_by g tries who number (job_of (call.Write name offset content)) short (if b then Act.AtDirectory (DirectoryStep.Look (note_of (call.Write name offset content))) else Act.Finish (Outcome.Contended pairs))
            (record { call = record { pairs = pairs; at = State.Start }; places = p }))
        by_tries false short = (own, free)
        by_tries true true = (own, free)
        by_tries true false = by (refused (note_of (call.Write name offset content)))
    start_holds (call.Get name) true pairs = (own, free)
    start_holds (call.Get name) false pairs = by (refused (note_of (call.Get name)))
      where
        by : (r : Option Reply) → Holds (looked_at (read_after_look g (note_of (call.Get name))) pairs p (answered (call.Get name) r))
        by (Some answer) = (looks (call.Get name) (Some answer), free)
        by None = (looks (call.Get name) None, parts_fit (parts_of g (note_of (call.Get name)) _ _) (Sequel.Serve (length d.points)) (answered (call.Get name) None).0)
    start_holds (call.ReadAt name offset n) true pairs = (own, free)
    start_holds (call.ReadAt name offset n) false pairs = by (refused (note_of (call.ReadAt name offset n)))
      where
        by : (r : Option Reply) → Holds (looked_at (read_after_look g (note_of (call.ReadAt name offset n))) pairs p (answered (call.ReadAt name offset n) r))
        by (Some answer) = (looks (call.ReadAt name offset n) (Some answer), free)
        by None = (looks (call.ReadAt name offset n) None, parts_fit (parts_of g (note_of (call.ReadAt name offset n)) _ _) (Sequel.Serve (length d.points)) (answered (call.ReadAt name offset n) None).0)
    start_holds (call.Stat name) true pairs = (own, free)
    start_holds (call.Stat name) false pairs = by (refused (note_of (call.Stat name)))
      where
        by : (r : Option Reply) → Holds (looked_at single_after_look pairs p (answered (call.Stat name) r))
        by (Some answer) = (looks (call.Stat name) (Some answer), free)
        by None = (looks (call.Stat name) None, free)
    start_holds (call.Delete name) true pairs = (own, free)
    start_holds (call.Delete name) false pairs = by (refused (note_of (call.Delete name)))
      where
        by : (r : Option Reply) → Holds (looked_at single_after_look pairs p (answered (call.Delete name) r))
        by (Some answer) = (looks (call.Delete name) (Some answer), free)
        by None = (looks (call.Delete name) None, free)

    -- a rebuild's look
    rebuild_holds : (c : RebuildCall) (short : Bool) (pairs : List (ℕ × ℕ)) →
        Holds (wanting_by g tries who number (rebuild_job c) short (act_at g tries (rebuild_job c) pairs State.Start) (record { call = record { pairs = pairs; at = State.Start }; places = p }))
    rebuild_holds c true pairs = (own, free)
    rebuild_holds c false pairs = by (find_object c.name d.objects) (looked_repair who number d own (note_of_rebuild c) (find_object c.name d.objects))
      where
        pinned : (object : Object) (b : Bool) →
            Own who number (let r : Directory × Told = if b then (begin_pass who number (note_of_rebuild c) (seen_at d object c.stripe ∷ []) None d, Told.PinnedStripe (seen_at d object c.stripe)) else (d, Told.NoSuch) in r).0 →
            Holds (looked_at (rebuild_after_look c.server) pairs p (if b then (begin_pass who number (note_of_rebuild c) (seen_at d object c.stripe ∷ []) None d, Told.PinnedStripe (seen_at d object c.stripe)) else (d, Told.NoSuch)))
        pinned object false after = (after, free)
        pinned object true after = (after, tt)

        by : (found : Option Object) → Own who number (look_repair_by who number (note_of_rebuild c) d found).0 → Holds (looked_at (rebuild_after_look c.server) pairs p (look_repair_by who number (note_of_rebuild c) d found))
        by None after = (after, free)
        by (Some object) after = pinned object (nat_lt c.stripe (length object.versions)) after

  -- ---- a call that begins with its actor's seat
  pub first_holds : (p : Places) → MayBeginFrom p.directory who number → Holds (record { call = first_state; places = p })
  first_holds p seat = (record { points = more; pass = none }, seat.no_pass)
    where
      more : AreBelow who (number + 1) p.directory.points
      more =
          All-weaker (λ (point : Point). IsTrue (same_actor point.actor who) → point.number < number) (λ (point : Point). IsTrue (same_actor point.actor who) → point.number < number + 1)
          (λ point low its. let less : point.number < number = low its in omega (arith, less)) p.directory.points seat.numbers

      none : IfSome (pass_of who p.directory) (IsAlive who number)
      none = subst (λ (found : Option Pass). IfSome found (IsAlive who number)) (sym seat.no_pass) tt

  -- ---- of a job, by its look
  module _ (job : Job) (starts_short : (pairs : List (ℕ × ℕ)) (d : Directory) → Free d → Fits (next_call g job (record { pairs = pairs; at = State.Start }) Told.Short).at d)
      (starts : (p : Places) → Own who number p.directory → Free p.directory → (short : Bool) (pairs : List (ℕ × ℕ)) →
      Holds (wanting_by g tries who number job short (act_at g tries job pairs State.Start) (record { call = record { pairs = pairs; at = State.Start }; places = p }))) where
    -- ---- want of memory in the coding
    short_fits : (pairs : List (ℕ × ℕ)) (at : State) (d : Directory) → Fits at d → Fits (next_call g job (record { pairs = pairs; at = at }) Told.Short).at d
    short_fits pairs State.Start d ok = starts_short pairs d ok
    short_fits pairs (State.Parts part parts after) d ok = absurd ok
    short_fits pairs (State.Chunk seen target) d ok = absurd ok
    short_fits pairs (State.Gather aim asking parts after) d ok = gather_fits aim parts after d (stage_after g aim asking Told.Short)
    short_fits pairs State.Drawing d ok = tt
    short_fits pairs (State.Preparing stripe version server servers row later placed versions) d ok = tt
    short_fits pairs (State.Committing versions placed) d ok = tt
    short_fits pairs (State.Committed versions) d ok = absurd ok
    short_fits pairs (State.Settling point place places) d ok = settles point places d ok
    short_fits pairs (State.Confirming seen target) d ok = tt
    short_fits pairs (State.Installing seen target) d ok = tt
    short_fits pairs (State.Placing target epoch) d ok = tt
    short_fits pairs (State.Ending outcome) d ok = tt
    short_fits pairs (State.Finished outcome) d ok = ok

    coded_fits : (wanting : Bool) (c : CallState) (d : Directory) → Fits c.at d → Fits (after_coding g tries who number job wanting c).at d
    coded_fits wanting c d ok = by (wanting && may_code c.at && is_in_pass (act_of_state g tries job c))
      where
        by : (b : Bool) → Fits (let now : CallState = if b then next_call g job c Told.Short else c in now).at d
        by true = short_fits c.pairs c.at d ok
        by false = ok

    -- ---- each step
    module _ (p : Places) (own : Own who number p.directory) where
      abbrev now : Directory
      now = p.directory

      -- a step at a server leaves the directory
      at_server : (short : Bool) (server : ℕ) (step : ServerStep) (to : Told → CallState) → ((told : Told) → Fits (to told).at now) →
          Holds (let r : Places × Told = at_places short who number (Act.AtServer server step) p in record { call = to r.1; places = r.0 })
      at_server short server step to fits =
          let made : Places × Told = at_places short who number (Act.AtServer server step) p in
          let still : made.0.directory ≡ now = same_directory short server step p (slice_get p.servers server) in
          (subst (Own who number) (sym still) own, subst (Fits (to made.1).at) (sym still) (fits made.1))

      -- a step on its pass: what is known where there is none, where it was reaped, and after the step
      on_fits : (step : Pass → Directory → Directory × Told) (to : Told → CallState) → Fits (to Told.NotMade).at now →
          ((point : ℕ) (d : Directory) → Free d → Fits (to (Told.Reaped point)).at d) → ((pass : Pass) → pass_of who now ≡ Some pass → Fits (to (step pass now).1).at (step pass now).0) →
          Fits (to (on_pass step (pass_of who now) now).1).at (on_pass step (pass_of who now) now).0
      on_fits step to none reaped made = by (pass_of who now) refl
        where
          unless : (pass : Pass) (point : Option ℕ) → pass_of who now ≡ Some pass → Fits (to (unless_reaped step pass point now).1).at (unless_reaped step pass point now).0
          unless pass None is = made pass is
          unless pass (Some point) is = reaped point (close_pass pass now) (closed who number now (close_pass pass now) pass is refl)

          by : (found : Option Pass) → pass_of who now ≡ found → Fits (to (on_pass step found now).1).at (on_pass step found now).0
          by None is = none
          by (Some pass) is = unless pass pass.reaped is

      abbrev next_of : List (ℕ × ℕ) → State → Told → CallState
      next_of pairs at told = next_call g job (record { pairs = pairs; at = at }) told

      -- after a step at the directory that wants no memory
      abbrev Makes : List (ℕ × ℕ) → State → DirectoryStep → Bool → Type 0
      Makes pairs at step short = Fits (next_of pairs at (at_directory short who number step now).1).at (at_directory short who number step now).0

      draw_fits : (pairs : List (ℕ × ℕ)) (short : Bool) → Makes pairs State.Drawing DirectoryStep.Draw short
      draw_fits pairs true = tt
      draw_fits pairs false =
          on_fits draw (next_of pairs State.Drawing) tt (λ point d free. free)
          (λ pass is. prepare_all_fits (range_with_len (length now.versions) (length (touched now pass.note))) (range_with_len (length now.versions) (length (touched now pass.note)))
          (job.note.offset / stripe_length g) [] (draw pass now).0)

      commit_fits : (pairs : List (ℕ × ℕ)) (versions : List ℕ) (placed : List (List Placement)) (short : Bool) → Makes pairs (State.Committing versions placed) (DirectoryStep.Commit placed) short
      commit_fits pairs versions placed short = by short
        where
          either : (pass : Pass) → pass_of who now ≡ Some pass → (b : Bool) →
              (let r : Directory × Told = if b then (close_pass pass (give_up_drawn pass now), Told.Changed (unwrap_or pass.base 0) (unwrap_or (last_change pass.note.name now.points) 0))
              else commit_object placed pass (unwrap_or (find_object pass.note.name now.objects) (record { name = pass.note.name; length = 0; versions = [] })) now in
              Fits (next_call g job (record { pairs = pairs; at = State.Committing versions placed }) r.1).at r.0)
          either pass is true = closed who number now (close_pass pass (give_up_drawn pass now)) pass is refl
          either pass is false =
              committed (length now.points) (places_of (chunk_count g) versions)
              (commit_object placed pass (unwrap_or (find_object pass.note.name now.objects) (record { name = pass.note.name; length = 0; versions = [] })) now).0
              (closed who number now (commit_object placed pass (unwrap_or (find_object pass.note.name now.objects) (record { name = pass.note.name; length = 0; versions = [] })) now).0 pass is refl)

          made : Fits (next_of pairs (State.Committing versions placed) (on_pass (commit placed) (pass_of who now) now).1).at (on_pass (commit placed) (pass_of who now) now).0
          made =
              on_fits (commit placed) (next_of pairs (State.Committing versions placed)) tt (λ point d free. free)
              (λ pass is. either pass is (is_overtaken pass.note.kind pass.base (last_change pass.note.name now.points)))

          by : (short : Bool) → Makes pairs (State.Committing versions placed) (DirectoryStep.Commit placed) short
          by true = made
          by false = made

      confirm_fits : (pairs : List (ℕ × ℕ)) (seen : Seen) (target : ℕ) (short : Bool) → Makes pairs (State.Confirming seen target) DirectoryStep.Confirm short
      confirm_fits pairs seen target short = by short
        where
          either : (pass : Pass) → pass_of who now ≡ Some pass → (b : Bool) →
              (let r : Directory × Told = if b then (now, Told.Current) else (close_pass pass now, Told.Superseded (unwrap_or (last_change pass.note.name now.points) 0)) in
              Fits (next_call g job (record { pairs = pairs; at = State.Confirming seen target }) r.1).at r.0)
          either pass is true = tt
          either pass is false = closed who number now (close_pass pass now) pass is refl

          made : Fits (next_of pairs (State.Confirming seen target) (on_pass confirm (pass_of who now) now).1).at (on_pass confirm (pass_of who now) now).0
          made =
              on_fits confirm (next_of pairs (State.Confirming seen target)) tt (λ point d free. free)
              (λ pass is. either pass is (list_all (λ pin. is_current now pin.version) pass.pinned))

          by : (short : Bool) → Makes pairs (State.Confirming seen target) DirectoryStep.Confirm short
          by true = made
          by false = made

      place_fits : (pairs : List (ℕ × ℕ)) (target epoch : ℕ) (short : Bool) → Makes pairs (State.Placing target epoch) (DirectoryStep.Repaired target epoch) short
      place_fits pairs target epoch short = by short
        where
          made : Fits (next_of pairs (State.Placing target epoch) (on_pass (repaired target epoch) (pass_of who now) now).1).at (on_pass (repaired target epoch) (pass_of who now) now).0
          made =
              on_fits (repaired target epoch) (next_of pairs (State.Placing target epoch)) tt (λ point d free. free)
              (λ pass is. closed who number now (repaired target epoch pass now).0 pass is refl)

          by : (short : Bool) → Makes pairs (State.Placing target epoch) (DirectoryStep.Repaired target epoch) short
          by true = made
          by false = made

      end_fits : (pairs : List (ℕ × ℕ)) (outcome : Outcome) (short : Bool) → Makes pairs (State.Ending outcome) DirectoryStep.End short
      end_fits pairs outcome short = by short
        where
          made : Fits (next_of pairs (State.Ending outcome) (on_pass end_pass (pass_of who now) now).1).at (on_pass end_pass (pass_of who now) now).0
          made = on_fits end_pass (next_of pairs (State.Ending outcome)) tt (λ point d free. free) (λ pass is. closed who number now (end_pass pass now).0 pass is refl)

          by : (short : Bool) → Makes pairs (State.Ending outcome) DirectoryStep.End short
          by true = made
          by false = made

      -- a chunk is prepared, or installed
      prepare_holds : (short : Bool) (pairs : List (ℕ × ℕ)) (stripe version server : ℕ) (servers : List ℕ) (row : List Placement) (later : List ℕ) (placed : List (List Placement)) (versions : List ℕ) →
          Holds (wanting_by g tries who number job short (act_at g tries job pairs (State.Preparing stripe version server servers row later placed versions))
          (record { call = record { pairs = pairs; at = State.Preparing stripe version server servers row later placed versions }; places = p }))
      prepare_holds short pairs stripe version server servers row later placed versions = by (slice_get p.servers server) short
        where
          few : (placed_so : Placement) (b : Bool) →
              Fits (open_state g (if b then State.Ending (Outcome.Unavailable stripe (skipped_from 0 (row ++ placed_so ∷ [])))
              else prepare_state versions stripe version later placed (λ whole. prepare_all_state g versions (stripe + 1) later (placed ++ whole ∷ [])) servers (row ++ placed_so ∷ []))) now
          few placed_so true = tt
          few placed_so false =
              prepare_fits versions stripe version later placed (λ whole. prepare_all_state g versions (stripe + 1) later (placed ++ whole ∷ [])) now
              (λ whole. prepare_all_fits versions later (stripe + 1) (placed ++ whole ∷ []) now) servers (row ++ placed_so ∷ [])

          told : (placed_so : Placement) → Fits (open_state g (preparing_after g stripe version servers row later placed versions (Told.Prepared placed_so))) now
          told placed_so = few placed_so (nat_lt g.parity_count (skipped_count (row ++ placed_so ∷ [])))

          there : (one : Server) (away : Bool) →
              Fits (open_state g (preparing_after g stripe version servers row later placed versions
              (let r : Server × Told = if away then (one, Told.Prepared (placement.Skipped one.downs)) else (record one { held = hold version one.held }, Told.Prepared (placement.At one.epoch)) in r.1))) now
          there one true = told (placement.Skipped one.downs)
          there one false = told (placement.At one.epoch)

          by : (found : Option Server) (short : Bool) →
              Holds (let r : Places × Told = at_server_there short server (ServerStep.Prepare version) p found in record { call = open_call g (record { pairs = pairs; at = preparing_after g stripe version servers row later placed versions r.1 }); places = r.0 })
          by None short = (own, tt)
          by (Some one) true = (own, tt)
          by (Some one) false = (own, there one one.away)

      install_holds : (short : Bool) (pairs : List (ℕ × ℕ)) (seen : Seen) (target : ℕ) →
          Holds (wanting_by g tries who number job short (act_at g tries job pairs (State.Installing seen target)) (record { call = record { pairs = pairs; at = State.Installing seen target }; places = p }))
      install_holds short pairs seen target = by (slice_get p.servers target) short
        where
          there : (one : Server) (away has : Bool) →
              Holds (let r : Server × Told = install away has seen.version one in record { call = open_call g (record { pairs = pairs; at = installing_after target r.1 }); places = record p { servers = change_at target (λ _. r.0) p.servers } })
          there one true has = (own, tt)
          there one false true = (own, tt)
          there one false false = (own, tt)

          by : (found : Option Server) (short : Bool) →
              Holds (let r : Places × Told = at_server_there short target (ServerStep.Install seen.version) p found in record { call = open_call g (record { pairs = pairs; at = installing_after target r.1 }); places = r.0 })
          by None short = (own, tt)
          by (Some one) true = (own, tt)
          by (Some one) false = there one one.away (is_among seen.version one.held)

      step_holds : (short : Bool) (pairs : List (ℕ × ℕ)) (at : State) → Fits at now →
          Holds (wanting_by g tries who number job short (act_at g tries job pairs at) (record { call = record { pairs = pairs; at = at }; places = p }))
      step_holds short pairs State.Start ok = starts p own ok short pairs
      step_holds short pairs (State.Parts part parts after) ok = absurd ok
      step_holds short pairs (State.Chunk seen target) ok = absurd ok
      step_holds short pairs (State.Gather aim asking parts after) ok =
          at_server short (server_asked g aim asking) (step_asked g aim asking) (next_of pairs (State.Gather aim asking parts after)) (λ told. gather_fits aim parts after now (stage_after g aim asking told))
      step_holds short pairs State.Drawing ok = (own_step who number now own short DirectoryStep.Draw tt, draw_fits pairs short)
      step_holds short pairs (State.Preparing stripe version server servers row later placed versions) ok = prepare_holds short pairs stripe version server servers row later placed versions
      step_holds short pairs (State.Committing versions placed) ok = (own_step who number now own short (DirectoryStep.Commit placed) tt, commit_fits pairs versions placed short)
      step_holds short pairs (State.Committed versions) ok = absurd ok
      step_holds short pairs (State.Settling point place places) ok =
          at_server short place.0 (ServerStep.Settle place.1) (next_of pairs (State.Settling point place places)) (λ told. settles point places now ok)
      step_holds short pairs (State.Confirming seen target) ok = (own_step who number now own short DirectoryStep.Confirm tt, confirm_fits pairs seen target short)
      step_holds short pairs (State.Installing seen target) ok = install_holds short pairs seen target
      step_holds short pairs (State.Placing target epoch) ok = (own_step who number now own short (DirectoryStep.Repaired target epoch) tt, place_fits pairs target epoch short)
      step_holds short pairs (State.Ending outcome) ok = (own_step who number now own short DirectoryStep.End tt, end_fits pairs outcome short)
      step_holds short pairs (State.Finished outcome) ok = (own, ok)

    pub one_step : (shortage : Shortage) (w : AtWork) → Holds w → Holds (wanting_step g tries who number job shortage w)
    one_step shortage w ok =
        let c : CallState = after_coding g tries who number job shortage.coding w.call in step_holds w.places ok.0 shortage.step c.pairs c.at (coded_fits shortage.coding w.call w.places.directory ok.1)

    pub all_steps : (shortages : List Shortage) (w : AtWork) → Holds w → Holds (wanting_steps g tries who number job shortages w)
    all_steps [] w ok = ok
    all_steps (shortage ∷ shortages) w ok = all_steps shortages (wanting_step g tries who number job shortage w) (one_step shortage w ok)

    -- ---- the end
    abbrev EndsFree : Act → Directory → Type 0
    EndsFree (Act.Finish outcome) d = Free d
    EndsFree act d = ⊤

    start_ends : (kind : Kind) (pairs : List (ℕ × ℕ)) (d : Directory) → Free d → EndsFree (start_act kind tries job pairs) d
    start_ends Kind.Put pairs d free = tt
    start_ends Kind.Write pairs d free = by (nat_lt (length pairs) tries)
      where
        by : (b : Bool) → EndsFree (if b then Act.AtDirectory (DirectoryStep.Look job.note) else Act.Finish (Outcome.Contended pairs)) d
        by true = tt
        by false = free
    start_ends Kind.Get pairs d free = tt
    start_ends Kind.ReadAt pairs d free = tt
    start_ends Kind.Stat pairs d free = tt
    start_ends Kind.Delete pairs d free = tt
    start_ends Kind.Rebuild pairs d free = tt

    ends_free : (pairs : List (ℕ × ℕ)) (at : State) (d : Directory) → Fits at d → EndsFree (act_at g tries job pairs at) d
    ends_free pairs State.Start d ok = start_ends job.note.kind pairs d ok
    ends_free pairs (State.Parts part parts after) d ok = absurd ok
    ends_free pairs (State.Chunk seen target) d ok = absurd ok
    ends_free pairs (State.Gather aim asking parts after) d ok = tt
    ends_free pairs State.Drawing d ok = tt
    ends_free pairs (State.Preparing stripe version server servers row later placed versions) d ok = tt
    ends_free pairs (State.Committing versions placed) d ok = tt
    ends_free pairs (State.Committed versions) d ok = absurd ok
    ends_free pairs (State.Settling point place places) d ok = tt
    ends_free pairs (State.Confirming seen target) d ok = tt
    ends_free pairs (State.Installing seen target) d ok = tt
    ends_free pairs (State.Placing target epoch) d ok = tt
    ends_free pairs (State.Ending outcome) d ok = tt
    ends_free pairs (State.Finished outcome) d ok = ok

    -- a call that began with its actor's seat, and that is over
    pub seated : (p : Places) (shortages : List Shortage) (outcome : Outcome) → MayBeginFrom p.directory who number →
        act_of_state g tries job (wanting_steps g tries who number job shortages (record { call = first_state; places = p })).call ≡ Act.Finish outcome →
        MayBeginFrom (wanting_steps g tries who number job shortages (record { call = first_state; places = p })).places.directory who (number + 1)
    seated p shortages outcome seat over =
        let w : AtWork = wanting_steps g tries who number job shortages (record { call = first_state; places = p }) in
        let ok : Holds (wanting_steps g tries who number job shortages (record { call = first_state; places = p })) =
        all_steps shortages (record { call = first_state; places = p }) (first_holds p seat) in
        record {
          no_pass = subst (λ act. EndsFree act w.places.directory) over (ends_free w.call.pairs w.call.at w.places.directory ok.1);
          numbers = ok.0.points;
          told = tt;
        }

-- ---- of a client's call, and of a rebuild
pub call_seated : (g : Shape) (tries : ℕ) (who : Actor) (number : ℕ) (c : Call) (p : Places) (shortages : List Shortage) (outcome : Outcome) → MayBeginFrom p.directory who number →
    act_of_state g tries (job_of c) (wanting_steps g tries who number (job_of c) shortages (record { call = first_state; places = p })).call ≡ Act.Finish outcome →
    MayBeginFrom (wanting_steps g tries who number (job_of c) shortages (record { call = first_state; places = p })).places.directory who (number + 1)
call_seated g tries who number c = seated g tries who number (job_of c) (start_short g tries who number c) (λ p own free. start_holds g tries who number p own free c)

pub rebuild_seated : (g : Shape) (tries : ℕ) (who : Actor) (number : ℕ) (c : RebuildCall) (p : Places) (shortages : List Shortage) (outcome : Outcome) → MayBeginFrom p.directory who number →
    act_of_state g tries (rebuild_job c) (wanting_steps g tries who number (rebuild_job c) shortages (record { call = first_state; places = p })).call ≡ Act.Finish outcome →
    MayBeginFrom (wanting_steps g tries who number (rebuild_job c) shortages (record { call = first_state; places = p })).places.directory who (number + 1)
rebuild_seated g tries who number c = seated g tries who number (rebuild_job c) (λ pairs d free. free) (λ p own free. rebuild_holds g tries who number p own free c)

-- each of their steps keeps what is known
pub call_step : (g : Shape) (tries : ℕ) (who : Actor) (number : ℕ) (c : Call) (shortage : Shortage) (w : AtWork) → Holds g tries who number w → Holds g tries who number (wanting_step g tries who number (job_of c) shortage w)
call_step g tries who number c = one_step g tries who number (job_of c) (start_short g tries who number c) (λ p own free. start_holds g tries who number p own free c)

pub rebuild_step : (g : Shape) (tries : ℕ) (who : Actor) (number : ℕ) (c : RebuildCall) (shortage : Shortage) (w : AtWork) → Holds g tries who number w →
    Holds g tries who number (wanting_step g tries who number (rebuild_job c) shortage w)
rebuild_step g tries who number c = one_step g tries who number (rebuild_job c) (λ pairs d free. free) (λ p own free. rebuild_holds g tries who number p own free c)
