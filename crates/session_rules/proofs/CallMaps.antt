-- A call that runs alone: its directory keeps the map's bytes, and its points lead to the map before it, or from its point on to the map after it.
use Rattle.std.proofs.Common.{◌≡◌, ◌⊎◌, ℕ, zero, suc, ◌+◌, ◌<◌, ◌≤◌, ◌/◌, Bool, true, false, ◌&&◌, cond, List, [], ◌∷◌, ◌++◌, length, map, find, slice_get, Option, None, Some, option_map, unwrap_or, All, refl, sym, ap, subst, ◌∙◌, inl, inr, arith, if◌then◌else◌, nat_lt, length-append}
use Rattle.std.specs.Bool.{⊤}
use Rattle.std.specs.List.{range_with_len, list_all}
use Rattle.std.proofs.lemmas.Bool.{ltb-false}
use Rattle.std.proofs.lemmas.List.FromFn.{length-range_with_len}
use Rattle.std.proofs.lemmas.List.Elements.{All-nil, All-push}
use Rattle.clay_grid.specs.Shape.{Shape, chunk_count, stripe_length}
use Rattle.store_map.specs.PlainMap.{Objects, apply}
use Rattle.store_map.specs.declared.actor.Actor.{Actor}
use Rattle.store_map.specs.declared.call.Call.{Call}
use Rattle.store_map.specs.declared.call.Call.TheVariants as call
use Rattle.store_map.specs.declared.call.Rebuild.{Rebuild as RebuildCall}
use Rattle.store_map.specs.declared.placement.Placement.{Placement}
use Rattle.store_map.specs.declared.placement.Placement.TheVariants as placement
use Rattle.store_map.specs.declared.reply.Reply.{Reply}
use Rattle.store_core.specs.Lists.{change_at, is_among, places_of}
use Rattle.store_core.specs.Told.{Seen, Told}
use Rattle.store_core.specs.Note.{Kind, Note, note_of, note_of_rebuild, refusal}
use Rattle.store_core.specs.Act.{Act, DirectoryStep, ServerStep, Outcome}
use Rattle.store_core.specs.ActPlace.{is_in_pass}
use Rattle.store_core.specs.NextAct.{Job, job_of, rebuild_job}
use Rattle.store_core.specs.Calls.{Calls}
use Rattle.store_core.specs.Conditions.{MayBegin, IsOfClient, IsOfRepairer}
use Rattle.store_core.specs.Directory.{Object, Pass, Event, Directory}
use Rattle.store_core.specs.History.{applied, is_answered}
use Rattle.store_core.specs.Lookups.{same_actor, find_object, pass_of, last_change, is_current}
use Rattle.store_core.specs.Look.{begin_pass, pin_of, seen_at}
use Rattle.store_core.specs.Looks.{look_by, look_repair_by, seen_of}
use Rattle.store_core.specs.PassSteps.{close_pass, give_up_drawn, draw, end_pass, confirm, repaired, touched}
use Rattle.store_core.specs.Commit.{is_overtaken, commit, commit_object}
use Rattle.store_core.specs.AtDirectory.{at_directory, on_pass, unless_reaped}
use Rattle.store_core.specs.Gathering.{Part}
use Rattle.store_core.specs.Placements.{IsRow, skipped_count, skipped_from}
use Rattle.store_core.specs.Read.{parts_of}
use Rattle.store_core.specs.Write.{old_parts}
use Rattle.store_core.specs.Server.{Server, install}
use Rattle.store_core.specs.Step.{Shortage, Places, at_places, at_server_there}
use Rattle.run_laws.specs.MapAfter.{map_by}
use Rattle.run_laws.specs.Stage.{Aim, Asking, Stage}
use Rattle.run_laws.specs.StageAfter.{stage_after, server_asked, step_asked}
use Rattle.run_laws.specs.Stages.{first_stage}
use Rattle.run_laws.specs.State.{Sequel, State, CallState}
use Rattle.run_laws.specs.States.{sequel_state, parts_state, stage_state, prepare_state, prepare_all_state, settle_state, open_parts, open_state, open_call}
use Rattle.run_laws.specs.StateActs.{start_act, act_at, act_of_state}
use Rattle.run_laws.specs.GatherAfter.{ending_after, confirming_after, installing_after}
use Rattle.run_laws.specs.WriteAfter.{preparing_after, drawing_after}
use Rattle.run_laws.specs.CallAfter.{pairs_with}
use Rattle.run_laws.specs.LookAfter.{put_after_look, write_after_look, read_after_look, single_after_look, rebuild_after_look}
use Rattle.run_laws.specs.CallLaws.{next_call}
use Rattle.session_rules.specs.Alone.{AtWork}
use Rattle.session_rules.specs.Wants.{may_code, after_coding, wanting_by, wanting_step, wanting_steps}
use Rattle.session_rules.proofs.AtPlaces.{self}
use Rattle.session_rules.proofs.Wants.{same_points, find_changed, same_directory}
use Rattle.session_rules.proofs.Whole.{Whole, whole_step, one_point}

module _ (calls : Calls) (g : Shape) (max tries : ℕ) (some : 0 < stripe_length g) (who : Actor) (number : ℕ) (before after : Objects) where
  -- the call leads from the one map to the other
  abbrev pub Leads : Type 0
  Leads = (applied max before Event.Done (calls who number)).0 ≡ after

  -- the points lead to the map before it, or to the one after it
  abbrev pub Same : Directory → Type 0
  Same d = map_by calls max d.points ≡ before

  abbrev pub New : Directory → Type 0
  New d = map_by calls max d.points ≡ after

  -- by whether the outcome is an answer
  abbrev pub EndedBy : Bool → Directory → Type 0
  EndedBy true d = New d
  EndedBy false d = Same d

  -- so it will be once the pass has ended
  abbrev pub LeavesBy : Bool → Type 0
  LeavesBy true = after ≡ before
  LeavesBy false = ⊤

  ends_by : (b : Bool) (d : Directory) → Same d → LeavesBy b → EndedBy b d
  ends_by true d same leaves = same ∙ sym leaves
  ends_by false d same leaves = same

  -- the pass of a put or a write, of whose object nothing was changed since its look
  pub record Writes (d : Directory) : Type 0 where
    pub pass : Pass
    pub is_pass : pass_of who d ≡ Some pass
    pub actor : pass.actor ≡ who
    pub number_is : pass.number ≡ number
    pub kind : (pass.note.kind ≡ Kind.Put) ⊎ (pass.note.kind ≡ Kind.Write)
    pub latest : is_overtaken pass.note.kind pass.base (last_change pass.note.name d.points) ≡ false
    pub alive : pass.reaped ≡ None
    pub leads : Leads

  -- it has drawn a version for each stripe
  pub record Drew (d : Directory) : Type 0 where
    pub on : Writes d
    pub count : length on.pass.drawn ≡ length (touched d on.pass.note)

  -- the pass of a rebuild
  pub record Rebuilds (d : Directory) : Type 0 where
    pub pass : Pass
    pub is_pass : pass_of who d ≡ Some pass
    pub kind : pass.note.kind ≡ Kind.Rebuild
    pub alive : pass.reaped ≡ None

  -- what is known while bytes are gathered
  abbrev pub Follows : Sequel → Directory → Type 0
  Follows (Sequel.Serve point) d = after ≡ before
  Follows Sequel.Draw d = (on : Writes d) × (on.pass.drawn ≡ [])
  Follows (Sequel.Confirm seen target) d = Rebuilds d × (target < chunk_count g)

  -- what is known at each state
  abbrev pub Fits : State → Directory → Type 0
  Fits State.Start d = Same d × MayBegin d who number
  Fits (State.Gather aim asking parts following) d = Same d × Follows following d
  Fits State.Drawing d = Same d × ((on : Writes d) × (on.pass.drawn ≡ []))
  Fits (State.Preparing stripe version server servers row later placed versions) d =
      Same d × ((drew : Drew d) × All (IsRow g) placed × (length placed + suc (length later) ≡ length drew.on.pass.drawn) × (length row + suc (length servers) ≡ chunk_count g) × (skipped_count row ≤ g.parity_count))
  Fits (State.Committing versions placed) d = Same d × ((drew : Drew d) × All (IsRow g) placed × (length placed ≡ length drew.on.pass.drawn))
  Fits (State.Settling point place places) d = New d
  Fits (State.Confirming seen target) d = Same d × (Rebuilds d × (target < chunk_count g))
  Fits (State.Installing seen target) d = Same d × (Rebuilds d × (target < chunk_count g))
  Fits (State.Placing target epoch) d = Same d × (Rebuilds d × (target < chunk_count g))
  Fits (State.Ending outcome) d = Same d × LeavesBy (is_answered outcome)
  Fits (State.Finished outcome) d = EndedBy (is_answered outcome) d
  Fits _ d = ⊥

  abbrev pub Holds : AtWork → Type 0
  Holds w = Whole calls g max w.places.directory × Fits w.call.at w.places.directory

  -- ---- states at their next question
  sequel_fits : (following : Sequel) (d : Directory) → Same d → Follows following d → Fits (sequel_state following) d
  sequel_fits (Sequel.Serve point) d same ok = (same, ok)
  sequel_fits Sequel.Draw d same ok = (same, ok)
  sequel_fits (Sequel.Confirm seen target) d same ok = (same, ok)

  stage_fits : (bytes : State) (aim : Aim) (parts : List Part) (following : Sequel) (d : Directory) → Fits bytes d → Same d → Follows following d → (stage : Stage) → Fits (stage_state bytes aim parts following stage) d
  stage_fits bytes aim parts following d has same ok (Stage.Asks asking) = (same, ok)
  stage_fits bytes aim parts following d has same ok Stage.HasBytes = has
  stage_fits bytes aim parts following d has same ok (Stage.TooMany missing) = (same, tt)
  stage_fits bytes aim parts following d has same ok Stage.AtTarget = (same, tt)
  stage_fits bytes aim parts following d has same ok (Stage.TargetAway downs) = (same, tt)
  stage_fits bytes aim parts following d has same ok Stage.Short = (same, tt)

  open_fits : (parts : List Part) (following : Sequel) (d : Directory) → Same d → Follows following d → Fits (open_parts g parts following) d
  open_fits [] following d same ok = sequel_fits following d same ok
  open_fits (part ∷ parts) following d same ok =
      stage_fits (open_parts g parts following) (Aim.Range part) parts following d (open_fits parts following d same ok) same ok (first_stage g (Aim.Range part))

  parts_fit : (parts : List Part) (following : Sequel) (d : Directory) → Same d → Follows following d → Fits (open_state g (parts_state parts following)) d
  parts_fit [] (Sequel.Serve point) d same ok = (same, ok)
  parts_fit [] Sequel.Draw d same ok = (same, ok)
  parts_fit [] (Sequel.Confirm seen target) d same ok = (same, ok)
  parts_fit (part ∷ parts) following d same ok = open_fits (part ∷ parts) following d same ok

  gather_fits : (aim : Aim) (parts : List Part) (following : Sequel) (d : Directory) → Same d → Follows following d → (stage : Stage) → Fits (open_state g (stage_state (parts_state parts following) aim parts following stage)) d
  gather_fits aim parts following d same ok (Stage.Asks asking) = (same, ok)
  gather_fits aim parts following d same ok Stage.HasBytes = parts_fit parts following d same ok
  gather_fits aim parts following d same ok (Stage.TooMany missing) = (same, tt)
  gather_fits aim parts following d same ok Stage.AtTarget = (same, tt)
  gather_fits aim parts following d same ok (Stage.TargetAway downs) = (same, tt)
  gather_fits aim parts following d same ok Stage.Short = (same, tt)

  prepare_fits : (versions : List ℕ) (stripe version : ℕ) (later : List ℕ) (placed : List (List Placement)) (next : List Placement → State) (d : Directory) → Same d → (drew : Drew d) → All (IsRow g) placed →
      length placed + suc (length later) ≡ length drew.on.pass.drawn → ((row : List Placement) → IsRow g row → Fits (open_state g (next row)) d) → (servers : List ℕ) (row : List Placement) →
      length row + length servers ≡ chunk_count g → skipped_count row ≤ g.parity_count → Fits (open_state g (prepare_state versions stripe version later placed next servers row)) d
  prepare_fits versions stripe version later placed next d same drew rows count then_so [] row whole few = then_so row (record { whole = let n : length row + 0 ≡ chunk_count g = whole in omega (arith, n); enough = few })
  prepare_fits versions stripe version later placed next d same drew rows count then_so (server ∷ servers) row whole few = (same, (drew, rows, count, whole, few))

  prepare_all_fits : (versions later : List ℕ) (stripe : ℕ) (placed : List (List Placement)) (d : Directory) → Same d → (drew : Drew d) → All (IsRow g) placed → length placed + length later ≡ length drew.on.pass.drawn →
      Fits (open_state g (prepare_all_state g versions stripe later placed)) d
  prepare_all_fits versions [] stripe placed d same drew rows count = (same, (drew, rows, (let n : length placed + 0 ≡ length drew.on.pass.drawn = count in omega (arith, n))))
  prepare_all_fits versions (version ∷ later) stripe placed d same drew rows count =
      prepare_fits versions stripe version later placed (λ row. prepare_all_state g versions (stripe + 1) later (placed ++ row ∷ [])) d same drew rows count
      (λ row is_row. prepare_all_fits versions later (stripe + 1) (placed ++ row ∷ []) d same drew (All-push (IsRow g) placed row rows is_row)
      (let a : length (placed ++ row ∷ []) ≡ length placed + 1 = length-append placed (row ∷ []) in let b : length placed + suc (length later) ≡ length drew.on.pass.drawn = count in omega (arith, a, b)))
      (range_with_len 0 (chunk_count g)) [] (let n : length (range_with_len 0 (chunk_count g)) ≡ chunk_count g = length-range_with_len 0 (chunk_count g) in omega (arith, n)) (omega arith)

  -- ---- the look
  abbrev looked : (Told → State) → List (ℕ × ℕ) → Places → Directory × Told → AtWork
  looked following pairs p r = record { call = open_call g (record { pairs = pairs_with pairs r.1; at = following r.1 }); places = record p { directory = r.0 } }

  -- a point of the call
  pointed : (d : Directory) (note : Note) (event : Event) → Same d → map_by calls max (d.points ++ record { actor = who; number = number; note = note; event = event } ∷ []) ≡ (applied max before event (calls who number)).0
  pointed d note event same =
      one_point calls max d.points (record { actor = who; number = number; note = note; event = event }) ∙ ap (λ objects. (applied max objects event (calls who number)).0) same

  answers : Leads → (d : Directory) (note : Note) (answer : Reply) → Same d → map_by calls max (d.points ++ record { actor = who; number = number; note = note; event = Event.Answer answer } ∷ []) ≡ after
  answers leads d note answer same = pointed d note (Event.Answer answer) same ∙ by (calls who number) ∙ leads
    where
      by : (found : Option Call) → (applied max before (Event.Answer answer) found).0 ≡ (applied max before Event.Done found).0
      by None = refl
      by (Some c) = refl

  -- the pass that a look begins
  begun : Leads → (n : Note) (d : Directory) (seen : List Seen) (base : Option ℕ) → (n.kind ≡ Kind.Put) ⊎ (n.kind ≡ Kind.Write) → is_overtaken n.kind base (last_change n.name d.points) ≡ false →
      (on : Writes (begin_pass who number n seen base d)) × (on.pass.drawn ≡ [])
  begun leads n d seen base kind latest = (
    record {
      pass = record { actor = who; number = number; note = n; pinned = map pin_of seen; drawn = []; base = base; reaped = None };
      is_pass =
          ap (λ b. cond b (Some (let pass : Pass = record { actor = who; number = number; note = n; pinned = map pin_of seen; drawn = []; base = base; reaped = None } in pass)) (find (λ (other : Pass). same_actor who other.actor) d.passes)) (self who);
      actor = refl;
      number_is = refl;
      kind = kind;
      latest = latest;
      alive = refl;
      leads = leads;
    },
    refl,
  )

  pub start_short : (c : Call) (pairs : List (ℕ × ℕ)) (d : Directory) → Same d → Fits (next_call g (job_of c) (record { pairs = pairs; at = State.Start }) Told.Short).at d
  start_short (call.Put name content) pairs d same = same
  start_short (call.Write name offset content) pairs d same = same
  start_short (call.Get name) pairs d same = same
  start_short (call.ReadAt name offset n) pairs d same = same
  start_short (call.Stat name) pairs d same = same
  start_short (call.Delete name) pairs d same = same

  module _ (p : Places) (w : Whole calls g max p.directory) where
    abbrev d : Directory
    d = p.directory

    abbrev refused : Note → Option Reply
    refused n = refusal d.max n (option_map (λ (object : Object). object.length) (find_object n.name d.objects))

    abbrev object_at : List ℕ → Object
    object_at name = unwrap_or (find_object name d.objects) (record { name = name; length = 0; versions = [] })

    looks : (c : Call) → IsOfClient who (note_of c) → calls who number ≡ Some c → MayBegin d who number → Whole calls g max (at_directory false who number (DirectoryStep.Look (note_of c)) d).0
    looks c its is begin = whole_step calls g max some false who number (DirectoryStep.Look (note_of c)) d w (begin, its) (c, is, refl)

    -- what the look of this call is answered
    abbrev answered : Call → Option Reply → Directory × Told
    answered c r = look_by who number (note_of c) d (find_object (note_of c).name d.objects) r

    -- a get or a read leaves the map
    reads : (c : Call) → Leads → calls who number ≡ Some c → (apply max c before).0 ≡ before → after ≡ before
    reads c leads is same = sym leads ∙ ap (λ found. (applied max before Event.Done found).0) is ∙ same

    pins : (c : Call) → calls who number ≡ Some c → (apply max c before).0 ≡ before → Same d → map_by calls max (d.points ++ record { actor = who; number = number; note = note_of c; event = Event.Pinned } ∷ []) ≡ before
    pins c is leaves same = pointed d (note_of c) Event.Pinned same ∙ ap (λ found. (applied max before Event.Pinned found).0) is ∙ leaves

    pub start_holds : Leads → (c : Call) → IsOfClient who (note_of c) → calls who number ≡ Some c → (short : Bool) (pairs : List (ℕ × ℕ)) → Same d × MayBegin d who number →
        Holds (wanting_by g tries who number (job_of c) short (act_at g tries (job_of c) pairs State.Start) (record { call = record { pairs = pairs; at = State.Start }; places = p }))
    start_holds leads (call.Put name content) its is true pairs ok = (w, ok.0)
    start_holds leads (call.Put name content) its is false pairs ok = by (refused (note_of (call.Put name content))) (looks (call.Put name content) its is ok.1)
      where
        by : (r : Option Reply) → Whole calls g max (answered (call.Put name content) r).0 → Holds (looked put_after_look pairs p (answered (call.Put name content) r))
        by (Some answer) whole = (whole, answers leads d (note_of (call.Put name content)) answer ok.0)
        by None whole = (whole, (ok.0, begun leads (note_of (call.Put name content)) d [] None (inl refl) refl))
    start_holds leads (call.Write name offset content) its is short pairs ok = by_tries (nat_lt (length pairs) tries) short
      where
        by : (r : Option Reply) → Whole calls g max (answered (call.Write name offset content) r).0 → Holds (looked (write_after_look g) pairs p (answered (call.Write name offset content) r))
        by (Some answer) whole = (whole, answers leads d (note_of (call.Write name offset content)) answer ok.0)
        by None whole = (
          whole,
          parts_fit (old_parts g (object_at name).length (seen_of who number (note_of (call.Write name offset content)) d (object_at name))) Sequel.Draw
              (begin_pass who number (note_of (call.Write name offset content)) (seen_of who number (note_of (call.Write name offset content)) d (object_at name)) (last_change name d.points) d) ok.0
              (begun leads (note_of (call.Write name offset content)) d (seen_of who number (note_of (call.Write name offset content)) d (object_at name)) (last_change name d.points) (inr refl)
              (ap Rattle.std.proofs.Common.not (same_points (last_change name d.points)))),
        )

        by_tries : (b : Bool) (short : Bool) →
            Holds (wanting_by g tries who number (job_of (call.Write name offset content)) short (if b then Act.AtDirectory (DirectoryStep.Look (note_of (call.Write name offset content))) else Act.Finish (Outcome.Contended pairs))
            (record { call = record { pairs = pairs; at = State.Start }; places = p }))
        by_tries false short = (w, ok)
        by_tries true true = (w, ok.0)
        by_tries true false = by (refused (note_of (call.Write name offset content))) (looks (call.Write name offset content) its is ok.1)
    start_holds leads (call.Get name) its is true pairs ok = (w, ok.0)
    start_holds leads (call.Get name) its is false pairs ok = by (refused (note_of (call.Get name))) (looks (call.Get name) its is ok.1)
      where
        by : (r : Option Reply) → Whole calls g max (answered (call.Get name) r).0 → Holds (looked (read_after_look g (note_of (call.Get name))) pairs p (answered (call.Get name) r))
        by (Some answer) whole = (whole, answers leads d (note_of (call.Get name)) answer ok.0)
        by None whole = (
          whole,
          parts_fit (parts_of g (note_of (call.Get name)) (object_at name).length (seen_of who number (note_of (call.Get name)) d (object_at name))) (Sequel.Serve (length d.points))
              (answered (call.Get name) None).0 (pins (call.Get name) is refl ok.0) (reads (call.Get name) leads is refl),
        )
    start_holds leads (call.ReadAt name offset n) its is true pairs ok = (w, ok.0)
    start_holds leads (call.ReadAt name offset n) its is false pairs ok = by (refused (note_of (call.ReadAt name offset n))) (looks (call.ReadAt name offset n) its is ok.1)
      where
        by : (r : Option Reply) → Whole calls g max (answered (call.ReadAt name offset n) r).0 → Holds (looked (read_after_look g (note_of (call.ReadAt name offset n))) pairs p (answered (call.ReadAt name offset n) r))
        by (Some answer) whole = (whole, answers leads d (note_of (call.ReadAt name offset n)) answer ok.0)
        by None whole = (
          whole,
          parts_fit (parts_of g (note_of (call.ReadAt name offset n)) (object_at name).length (seen_of who number (note_of (call.ReadAt name offset n)) d (object_at name))) (Sequel.Serve (length d.points))
              (answered (call.ReadAt name offset n) None).0 (pins (call.ReadAt name offset n) is refl ok.0) (reads (call.ReadAt name offset n) leads is refl),
        )
    start_holds leads (call.Stat name) its is true pairs ok = (w, ok.0)
    start_holds leads (call.Stat name) its is false pairs ok = by (refused (note_of (call.Stat name))) (looks (call.Stat name) its is ok.1)
      where
        by : (r : Option Reply) → Whole calls g max (answered (call.Stat name) r).0 → Holds (looked single_after_look pairs p (answered (call.Stat name) r))
        by (Some answer) whole = (whole, answers leads d (note_of (call.Stat name)) answer ok.0)
        by None whole = (whole, answers leads d (note_of (call.Stat name)) (Rattle.store_map.specs.declared.reply.Reply.TheVariants.Length (object_at name).length) ok.0)
    start_holds leads (call.Delete name) its is true pairs ok = (w, ok.0)
    start_holds leads (call.Delete name) its is false pairs ok = by (refused (note_of (call.Delete name))) (looks (call.Delete name) its is ok.1)
      where
        by : (r : Option Reply) → Whole calls g max (answered (call.Delete name) r).0 → Holds (looked single_after_look pairs p (answered (call.Delete name) r))
        by (Some answer) whole = (whole, answers leads d (note_of (call.Delete name)) answer ok.0)
        by None whole = (whole, answers leads d (note_of (call.Delete name)) Rattle.store_map.specs.declared.reply.Reply.TheVariants.Done ok.0)

    -- a rebuild's look
    pub rebuild_holds : (c : RebuildCall) → IsOfRepairer who (note_of_rebuild c) → c.server < chunk_count g → (short : Bool) (pairs : List (ℕ × ℕ)) → Same d × MayBegin d who number →
        Holds (wanting_by g tries who number (rebuild_job c) short (act_at g tries (rebuild_job c) pairs State.Start) (record { call = record { pairs = pairs; at = State.Start }; places = p }))
    rebuild_holds c its there true pairs ok = (w, ok.0)
    rebuild_holds c its there false pairs ok = by (find_object c.name d.objects) (whole_step calls g max some false who number (DirectoryStep.LookRepair (note_of_rebuild c)) d w (ok.1, its) tt)
      where
        pinned : (object : Object) (b : Bool) →
            Whole calls g max (let r : Directory × Told = if b then (begin_pass who number (note_of_rebuild c) (seen_at d object c.stripe ∷ []) None d, Told.PinnedStripe (seen_at d object c.stripe)) else (d, Told.NoSuch) in r).0 →
            Holds (looked (rebuild_after_look c.server) pairs p (if b then (begin_pass who number (note_of_rebuild c) (seen_at d object c.stripe ∷ []) None d, Told.PinnedStripe (seen_at d object c.stripe)) else (d, Told.NoSuch)))
        pinned object false whole = (whole, ok.0)
        pinned object true whole = (
          whole,
          (
            ok.0,
            (
              record {
                pass = record { actor = who; number = number; note = note_of_rebuild c; pinned = map pin_of (seen_at d object c.stripe ∷ []); drawn = []; base = None; reaped = None };
                is_pass =
                    ap (λ b. cond b (Some (let pass : Pass = record { actor = who; number = number; note = note_of_rebuild c; pinned = map pin_of (seen_at d object c.stripe ∷ []); drawn = []; base = None; reaped = None } in pass))
                    (find (λ (other : Pass). same_actor who other.actor) d.passes)) (self who);
                kind = refl;
                alive = refl;
              },
              there,
            ),
          ),
        )

        by : (found : Option Object) → Whole calls g max (look_repair_by who number (note_of_rebuild c) d found).0 → Holds (looked (rebuild_after_look c.server) pairs p (look_repair_by who number (note_of_rebuild c) d found))
        by None whole = (whole, ok.0)
        by (Some object) whole = pinned object (nat_lt c.stripe (length object.versions)) whole

  -- ---- of a job, by its look
  module _ (job : Job) (starts_short : (pairs : List (ℕ × ℕ)) (d : Directory) → Same d → Fits (next_call g job (record { pairs = pairs; at = State.Start }) Told.Short).at d)
      (starts : (p : Places) → Whole calls g max p.directory → (short : Bool) (pairs : List (ℕ × ℕ)) → Same p.directory × MayBegin p.directory who number →
      Holds (wanting_by g tries who number job short (act_at g tries job pairs State.Start) (record { call = record { pairs = pairs; at = State.Start }; places = p }))) where
    settles : (point : ℕ) (places : List (ℕ × ℕ)) (d : Directory) → New d → Fits (open_state g (settle_state point places)) d
    settles point [] d new = new
    settles point (place ∷ places) d new = new

    committed : (point : ℕ) (places : List (ℕ × ℕ)) (d : Directory) → New d → Fits (settle_state point places) d
    committed point [] d new = new
    committed point (place ∷ places) d new = new

    -- ---- want of memory in the coding
    short_fits : (pairs : List (ℕ × ℕ)) (at : State) (d : Directory) → Fits at d → Fits (next_call g job (record { pairs = pairs; at = at }) Told.Short).at d
    short_fits pairs State.Start d ok = starts_short pairs d ok.0
    short_fits pairs (State.Parts part parts following) d ok = absurd ok
    short_fits pairs (State.Chunk seen target) d ok = absurd ok
    short_fits pairs (State.Gather aim asking parts following) d ok = gather_fits aim parts following d ok.0 ok.1 (stage_after g aim asking Told.Short)
    short_fits pairs State.Drawing d ok = (ok.0, tt)
    short_fits pairs (State.Preparing stripe version server servers row later placed versions) d ok = (ok.0, tt)
    short_fits pairs (State.Committing versions placed) d ok = (ok.0, tt)
    short_fits pairs (State.Committed versions) d ok = absurd ok
    short_fits pairs (State.Settling point place places) d ok = settles point places d ok
    short_fits pairs (State.Confirming seen target) d ok = (ok.0, tt)
    short_fits pairs (State.Installing seen target) d ok = (ok.0, tt)
    short_fits pairs (State.Placing target epoch) d ok = (ok.0, tt)
    short_fits pairs (State.Ending outcome) d ok = (ok.0, tt)
    short_fits pairs (State.Finished outcome) d ok = ok

    coded_fits : (wanting : Bool) (c : CallState) (d : Directory) → Fits c.at d → Fits (after_coding g tries who number job wanting c).at d
    coded_fits wanting c d ok = by (wanting && may_code c.at && is_in_pass (act_of_state g tries job c))
      where
        by : (b : Bool) → Fits (let now : CallState = if b then next_call g job c Told.Short else c in now).at d
        by true = short_fits c.pairs c.at d ok
        by false = ok

    -- ---- each step
    module _ (p : Places) (w : Whole calls g max p.directory) where
      abbrev now : Directory
      now = p.directory

      -- a step at a server leaves the directory
      at_server : (short : Bool) (server : ℕ) (step : ServerStep) (to : Told → CallState) → ((told : Told) → Fits (to told).at now) →
          Holds (let r : Places × Told = at_places short who number (Act.AtServer server step) p in record { call = to r.1; places = r.0 })
      at_server short server step to fits =
          let made : Places × Told = at_places short who number (Act.AtServer server step) p in
          let still : made.0.directory ≡ now = same_directory short server step p (slice_get p.servers server) in
          (subst (Whole calls g max) (sym still) w, subst (Fits (to made.1).at) (sym still) (fits made.1))

      gather_holds : (short : Bool) (pairs : List (ℕ × ℕ)) (aim : Aim) (asking : Asking) (parts : List Part) (following : Sequel) → Same now × Follows following now →
          Holds (wanting_by g tries who number job short (act_at g tries job pairs (State.Gather aim asking parts following)) (record { call = record { pairs = pairs; at = State.Gather aim asking parts following }; places = p }))
      gather_holds short pairs aim asking parts following ok =
          at_server short (server_asked g aim asking) (step_asked g aim asking) (λ told. next_call g job (record { pairs = pairs; at = State.Gather aim asking parts following }) told)
          (λ told. gather_fits aim parts following now ok.0 ok.1 (stage_after g aim asking told))

      -- a draw
      drawn_pass : (on : Writes now) → (drew : Drew (draw on.pass now).0) × (drew.on.pass.drawn ≡ range_with_len (length now.versions) (length (touched now on.pass.note)))
      drawn_pass on = (
        record {
          on = record {
            pass = record (on.pass) { drawn = range_with_len (length now.versions) (length (touched now on.pass.note)) };
            is_pass =
                find_changed (λ (other : Pass). same_actor who other.actor) change same now.passes ∙ ap (option_map change) on.is_pass
                ∙ ap (λ b. Some (let pass : Pass = if b then record (on.pass) { drawn = range_with_len (length now.versions) (length (touched now on.pass.note)) } else on.pass in pass)) (self on.pass.actor);
            actor = on.actor;
            number_is = on.number_is;
            kind = on.kind;
            latest = on.latest;
            alive = on.alive;
            leads = on.leads;
          };
          count = length-range_with_len (length now.versions) (length (touched now on.pass.note));
        },
        refl,
      )
        where
          change : Pass → Pass
          change other = if same_actor on.pass.actor other.actor then record other { drawn = range_with_len (length now.versions) (length (touched now on.pass.note)) } else other

          same : (x : Pass) → same_actor who (change x).actor ≡ same_actor who x.actor
          same x = by (same_actor on.pass.actor x.actor)
            where
              by : (b : Bool) → same_actor who (let pass : Pass = if b then record x { drawn = range_with_len (length now.versions) (length (touched now on.pass.note)) } else x in pass).actor ≡ same_actor who x.actor
              by true = refl
              by false = refl

      drawing_holds : (short : Bool) (pairs : List (ℕ × ℕ)) → Same now × ((on : Writes now) × (on.pass.drawn ≡ [])) →
          Holds (wanting_by g tries who number job short (act_at g tries job pairs State.Drawing) (record { call = record { pairs = pairs; at = State.Drawing }; places = p }))
      drawing_holds true pairs ok = (w, (ok.0, tt))
      drawing_holds false pairs (same, (on, none)) =
          subst (λ (r : Directory × Told). Whole calls g max r.0 → Holds (record { call = open_call g (record { pairs = pairs; at = drawing_after g job.note r.1 }); places = record p { directory = r.0 } }))
          (sym is) (λ whole. (whole, fits))
          (whole_step calls g max some false who number DirectoryStep.Draw now w (on.pass, record { is_pass = on.is_pass; kind = on.kind }, none) tt)
        where
          is : at_directory false who number DirectoryStep.Draw now ≡ draw on.pass now
          is = ap (λ f. on_pass draw f now) on.is_pass ∙ ap (λ reaped. unless_reaped draw on.pass reaped now) on.alive

          fits : Fits (open_state g (drawing_after g job.note (draw on.pass now).1)) (draw on.pass now).0
          fits =
              let made : (drew : Drew (draw on.pass now).0) × (drew.on.pass.drawn ≡ range_with_len (length now.versions) (length (touched now on.pass.note))) = drawn_pass on in
              prepare_all_fits (range_with_len (length now.versions) (length (touched now on.pass.note))) (range_with_len (length now.versions) (length (touched now on.pass.note))) (job.note.offset / stripe_length g) []
              (draw on.pass now).0 same made.0 (All-nil (IsRow g))
              (let e : length made.0.on.pass.drawn ≡ length (range_with_len (length now.versions) (length (touched now on.pass.note))) = ap length made.1 in omega (arith, e))

      -- a chunk that is prepared
      preparing_holds : (short : Bool) (pairs : List (ℕ × ℕ)) (stripe version server : ℕ) (servers : List ℕ) (row : List Placement) (later : List ℕ) (placed : List (List Placement)) (versions : List ℕ) →
          Same now × ((drew : Drew now) × All (IsRow g) placed × (length placed + suc (length later) ≡ length drew.on.pass.drawn) × (length row + suc (length servers) ≡ chunk_count g) × (skipped_count row ≤ g.parity_count)) →
          Holds (wanting_by g tries who number job short (act_at g tries job pairs (State.Preparing stripe version server servers row later placed versions))
          (record { call = record { pairs = pairs; at = State.Preparing stripe version server servers row later placed versions }; places = p }))
      preparing_holds short pairs stripe version server servers row later placed versions (same, (drew, rows, count, whole, enough)) =
          by (slice_get p.servers server) short
        where
          few : (placed_so : Placement) (b : Bool) → nat_lt g.parity_count (skipped_count (row ++ placed_so ∷ [])) ≡ b →
              Fits (open_state g (if b then State.Ending (Outcome.Unavailable stripe (skipped_from 0 (row ++ placed_so ∷ [])))
              else prepare_state versions stripe version later placed (λ whole. prepare_all_state g versions (stripe + 1) later (placed ++ whole ∷ [])) servers (row ++ placed_so ∷ []))) now
          few placed_so true e = (same, tt)
          few placed_so false e =
              prepare_fits versions stripe version later placed (λ whole. prepare_all_state g versions (stripe + 1) later (placed ++ whole ∷ [])) now same drew rows count
              (λ whole is_row. prepare_all_fits versions later (stripe + 1) (placed ++ whole ∷ []) now same drew (All-push (IsRow g) placed whole rows is_row)
              (let a : length (placed ++ whole ∷ []) ≡ length placed + 1 = length-append placed (whole ∷ []) in let b : length placed + suc (length later) ≡ length drew.on.pass.drawn = count in omega (arith, a, b)))
              servers (row ++ placed_so ∷ [])
              (let a : length (row ++ placed_so ∷ []) ≡ length row + 1 = length-append row (placed_so ∷ []) in let b : length row + suc (length servers) ≡ chunk_count g = whole in omega (arith, a, b))
              (ltb-false g.parity_count (skipped_count (row ++ placed_so ∷ [])) e)

          told : (placed_so : Placement) → Fits (open_state g (preparing_after g stripe version servers row later placed versions (Told.Prepared placed_so))) now
          told placed_so = few placed_so (nat_lt g.parity_count (skipped_count (row ++ placed_so ∷ []))) refl

          there : (one : Server) (away : Bool) →
              Fits (open_state g (preparing_after g stripe version servers row later placed versions
              (let r : Server × Told = if away then (one, Told.Prepared (placement.Skipped one.downs))
              else (record one { held = Rattle.store_core.specs.Server.hold version one.held }, Told.Prepared (placement.At one.epoch)) in r.1))) now
          there one true = told (placement.Skipped one.downs)
          there one false = told (placement.At one.epoch)

          by : (found : Option Server) (short : Bool) →
              Holds (let r : Places × Told = at_server_there short server (ServerStep.Prepare version) p found in record { call = open_call g (record { pairs = pairs; at = preparing_after g stripe version servers row later placed versions r.1 }); places = r.0 })
          by None short = (w, (same, tt))
          by (Some one) true = (w, (same, tt))
          by (Some one) false = (w, there one one.away)

      -- the commit
      committing_holds : (short : Bool) (pairs : List (ℕ × ℕ)) (versions : List ℕ) (placed : List (List Placement)) → Same now × ((drew : Drew now) × All (IsRow g) placed × (length placed ≡ length drew.on.pass.drawn)) →
          Holds (wanting_by g tries who number job short (act_at g tries job pairs (State.Committing versions placed)) (record { call = record { pairs = pairs; at = State.Committing versions placed }; places = p }))
      committing_holds short pairs versions placed (same, (drew, rows, count)) = by short
        where
          is : on_pass (commit placed) (pass_of who now) now ≡ commit_object placed drew.on.pass (unwrap_or (find_object drew.on.pass.note.name now.objects) (record { name = drew.on.pass.note.name; length = 0; versions = [] })) now
          is =
              ap (λ f. on_pass (commit placed) f now) drew.on.is_pass ∙ ap (λ reaped. unless_reaped (commit placed) drew.on.pass reaped now) drew.on.alive
              ∙ ap (λ b. let r : Directory × Told = if b then (close_pass drew.on.pass (give_up_drawn drew.on.pass now), Told.Changed (unwrap_or drew.on.pass.base 0) (unwrap_or (last_change drew.on.pass.note.name now.points) 0))
              else commit_object placed drew.on.pass (unwrap_or (find_object drew.on.pass.note.name now.objects) (record { name = drew.on.pass.note.name; length = 0; versions = [] })) now in r) drew.on.latest

          new : map_by calls max (now.points ++ record { actor = drew.on.pass.actor; number = drew.on.pass.number; note = drew.on.pass.note; event = Event.Done } ∷ []) ≡ after
          new =
              one_point calls max now.points (record { actor = drew.on.pass.actor; number = drew.on.pass.number; note = drew.on.pass.note; event = Event.Done })
              ∙ ap (λ objects. (applied max objects Event.Done (calls drew.on.pass.actor drew.on.pass.number)).0) same
              ∙ ap (λ actor. (applied max before Event.Done (calls actor drew.on.pass.number)).0) drew.on.actor
              ∙ ap (λ n. (applied max before Event.Done (calls who n)).0) drew.on.number_is ∙ drew.on.leads

          whole : (short : Bool) → Whole calls g max (at_directory short who number (DirectoryStep.Commit placed) now).0
          whole short =
              whole_step calls g max some short who number (DirectoryStep.Commit placed) now w
              (drew.on.pass, record { is_pass = drew.on.is_pass; kind = drew.on.kind }, record { drawn = drew.count; rows = count; whole = subst (λ (shape : Shape). All (IsRow shape) placed) (sym w.shape) rows }) tt

          done : Whole calls g max (on_pass (commit placed) (pass_of who now) now).0 →
              Holds (record { call = next_call g job (record { pairs = pairs; at = State.Committing versions placed }) (on_pass (commit placed) (pass_of who now) now).1; places = record p { directory = (on_pass (commit placed) (pass_of who now) now).0 } })
          done =
              subst (λ (r : Directory × Told). Whole calls g max r.0 → Holds (record { call = next_call g job (record { pairs = pairs; at = State.Committing versions placed }) r.1; places = record p { directory = r.0 } }))
              (sym is)
              (λ whole. (
                whole,
                committed (length now.points) (places_of (chunk_count g) versions)
                    (commit_object placed drew.on.pass (unwrap_or (find_object drew.on.pass.note.name now.objects) (record { name = drew.on.pass.note.name; length = 0; versions = [] })) now).0 new,
              ))

          by : (short : Bool) → Holds (wanting_by g tries who number job short (act_at g tries job pairs (State.Committing versions placed)) (record { call = record { pairs = pairs; at = State.Committing versions placed }; places = p }))
          by true = done (whole true)
          by false = done (whole false)

      -- a rebuild confirms its version
      confirming_holds : (short : Bool) (pairs : List (ℕ × ℕ)) (seen : Seen) (target : ℕ) → Same now × (Rebuilds now × (target < chunk_count g)) →
          Holds (wanting_by g tries who number job short (act_at g tries job pairs (State.Confirming seen target)) (record { call = record { pairs = pairs; at = State.Confirming seen target }; places = p }))
      confirming_holds short pairs seen target (same, (on, less)) = by short
        where
          is : on_pass confirm (pass_of who now) now ≡ confirm on.pass now
          is = ap (λ f. on_pass confirm f now) on.is_pass ∙ ap (λ reaped. unless_reaped confirm on.pass reaped now) on.alive

          either : (b : Bool) →
              Whole calls g max (let r : Directory × Told = if b then (now, Told.Current) else (close_pass on.pass now, Told.Superseded (unwrap_or (last_change on.pass.note.name now.points) 0)) in r).0 →
              Holds (let r : Directory × Told = if b then (now, Told.Current) else (close_pass on.pass now, Told.Superseded (unwrap_or (last_change on.pass.note.name now.points) 0)) in
              record { call = open_call g (record { pairs = pairs; at = confirming_after seen target r.1 }); places = record p { directory = r.0 } })
          either true whole = (whole, (same, (on, less)))
          either false whole = (whole, same)

          told : Whole calls g max (on_pass confirm (pass_of who now) now).0 →
              Holds (record { call = open_call g (record { pairs = pairs; at = confirming_after seen target (on_pass confirm (pass_of who now) now).1 }); places = record p { directory = (on_pass confirm (pass_of who now) now).0 } })
          told =
              subst (λ (r : Directory × Told). Whole calls g max r.0 → Holds (record { call = open_call g (record { pairs = pairs; at = confirming_after seen target r.1 }); places = record p { directory = r.0 } }))
              (sym is) (either (list_all (λ pin. is_current now pin.version) on.pass.pinned))

          by : (short : Bool) → Holds (wanting_by g tries who number job short (act_at g tries job pairs (State.Confirming seen target)) (record { call = record { pairs = pairs; at = State.Confirming seen target }; places = p }))
          by true = told (whole_step calls g max some true who number DirectoryStep.Confirm now w (on.pass, record { is_pass = on.is_pass; kind = on.kind }) tt)
          by false = told (whole_step calls g max some false who number DirectoryStep.Confirm now w (on.pass, record { is_pass = on.is_pass; kind = on.kind }) tt)

      -- it installs its chunk, and then the chunk is placed
      installing_holds : (short : Bool) (pairs : List (ℕ × ℕ)) (seen : Seen) (target : ℕ) → Same now × (Rebuilds now × (target < chunk_count g)) →
          Holds (wanting_by g tries who number job short (act_at g tries job pairs (State.Installing seen target)) (record { call = record { pairs = pairs; at = State.Installing seen target }; places = p }))
      installing_holds short pairs seen target ok = by (slice_get p.servers target) short
        where
          there : (one : Server) (away has : Bool) →
              Holds (let r : Server × Told = install away has seen.version one in record { call = open_call g (record { pairs = pairs; at = installing_after target r.1 }); places = record p { servers = change_at target (λ _. r.0) p.servers } })
          there one true has = (w, (ok.0, tt))
          there one false true = (w, (ok.0, tt))
          there one false false = (w, ok)

          by : (found : Option Server) (short : Bool) →
              Holds (let r : Places × Told = at_server_there short target (ServerStep.Install seen.version) p found in record { call = open_call g (record { pairs = pairs; at = installing_after target r.1 }); places = r.0 })
          by None short = (w, (ok.0, tt))
          by (Some one) true = (w, (ok.0, tt))
          by (Some one) false = there one one.away (is_among seen.version one.held)

      placing_holds : (short : Bool) (pairs : List (ℕ × ℕ)) (target epoch : ℕ) → Same now × (Rebuilds now × (target < chunk_count g)) →
          Holds (wanting_by g tries who number job short (act_at g tries job pairs (State.Placing target epoch)) (record { call = record { pairs = pairs; at = State.Placing target epoch }; places = p }))
      placing_holds short pairs target epoch (same, (on, less)) = by short
        where
          is : on_pass (repaired target epoch) (pass_of who now) now ≡ repaired target epoch on.pass now
          is = ap (λ f. on_pass (repaired target epoch) f now) on.is_pass ∙ ap (λ reaped. unless_reaped (repaired target epoch) on.pass reaped now) on.alive

          told : Whole calls g max (on_pass (repaired target epoch) (pass_of who now) now).0 →
              Holds (record { call = open_call g (record { pairs = pairs; at = ending_after Outcome.Rebuilt (on_pass (repaired target epoch) (pass_of who now) now).1 }); places = record p { directory = (on_pass (repaired target epoch) (pass_of who now) now).0 } })
          told =
              subst (λ (r : Directory × Told). Whole calls g max r.0 → Holds (record { call = open_call g (record { pairs = pairs; at = ending_after Outcome.Rebuilt r.1 }); places = record p { directory = r.0 } }))
              (sym is) (λ whole. (whole, same))

          less_there : target < chunk_count now.shape
          less_there = subst (λ (shape : Shape). target < chunk_count shape) (sym w.shape) less

          by : (short : Bool) → Holds (wanting_by g tries who number job short (act_at g tries job pairs (State.Placing target epoch)) (record { call = record { pairs = pairs; at = State.Placing target epoch }; places = p }))
          by true = told (whole_step calls g max some true who number (DirectoryStep.Repaired target epoch) now w (on.pass, record { is_pass = on.is_pass; kind = on.kind }, less_there) tt)
          by false = told (whole_step calls g max some false who number (DirectoryStep.Repaired target epoch) now w (on.pass, record { is_pass = on.is_pass; kind = on.kind }, less_there) tt)

      -- the end of its pass
      ending_holds : (short : Bool) (pairs : List (ℕ × ℕ)) (outcome : Outcome) → Same now × LeavesBy (is_answered outcome) →
          Holds (wanting_by g tries who number job short (act_at g tries job pairs (State.Ending outcome)) (record { call = record { pairs = pairs; at = State.Ending outcome }; places = p }))
      ending_holds short pairs outcome ok = (whole_step calls g max some short who number DirectoryStep.End now w tt tt, by short)
        where
          reaped_or : (pass : Pass) (reaped : Option ℕ) → Fits (open_state g (ending_after outcome (unless_reaped end_pass pass reaped now).1)) (unless_reaped end_pass pass reaped now).0
          reaped_or pass None = ends_by (is_answered outcome) (end_pass pass now).0 ok.0 ok.1
          reaped_or pass (Some point) = ok.0

          on : (found : Option Pass) → Fits (open_state g (ending_after outcome (on_pass end_pass found now).1)) (on_pass end_pass found now).0
          on None = (ok.0, tt)
          on (Some pass) = reaped_or pass pass.reaped

          by : (short : Bool) → Fits (open_state g (ending_after outcome (at_directory short who number DirectoryStep.End now).1)) (at_directory short who number DirectoryStep.End now).0
          by true = on (pass_of who now)
          by false = on (pass_of who now)

      step_holds : (short : Bool) (pairs : List (ℕ × ℕ)) (at : State) → Fits at now →
          Holds (wanting_by g tries who number job short (act_at g tries job pairs at) (record { call = record { pairs = pairs; at = at }; places = p }))
      step_holds short pairs State.Start ok = starts p w short pairs ok
      step_holds short pairs (State.Parts part parts following) ok = absurd ok
      step_holds short pairs (State.Chunk seen target) ok = absurd ok
      step_holds short pairs (State.Gather aim asking parts following) ok = gather_holds short pairs aim asking parts following ok
      step_holds short pairs State.Drawing ok = drawing_holds short pairs ok
      step_holds short pairs (State.Preparing stripe version server servers row later placed versions) ok = preparing_holds short pairs stripe version server servers row later placed versions ok
      step_holds short pairs (State.Committing versions placed) ok = committing_holds short pairs versions placed ok
      step_holds short pairs (State.Committed versions) ok = absurd ok
      step_holds short pairs (State.Settling point place places) ok =
          at_server short place.0 (ServerStep.Settle place.1) (λ told. next_call g job (record { pairs = pairs; at = State.Settling point place places }) told) (λ told. settles point places now ok)
      step_holds short pairs (State.Confirming seen target) ok = confirming_holds short pairs seen target ok
      step_holds short pairs (State.Installing seen target) ok = installing_holds short pairs seen target ok
      step_holds short pairs (State.Placing target epoch) ok = placing_holds short pairs target epoch ok
      step_holds short pairs (State.Ending outcome) ok = ending_holds short pairs outcome ok
      step_holds short pairs (State.Finished outcome) ok = (w, ok)

    one_step : (shortage : Shortage) (w : AtWork) → Holds w → Holds (wanting_step g tries who number job shortage w)
    one_step shortage w ok =
        let c : CallState = after_coding g tries who number job shortage.coding w.call in step_holds w.places ok.0 shortage.step c.pairs c.at (coded_fits shortage.coding w.call w.places.directory ok.1)

    pub all_steps : (shortages : List Shortage) (w : AtWork) → Holds w → Holds (wanting_steps g tries who number job shortages w)
    all_steps [] w ok = ok
    all_steps (shortage ∷ shortages) w ok = all_steps shortages (wanting_step g tries who number job shortage w) (one_step shortage w ok)

    -- ---- the end
    abbrev EndsWell : Act → Directory → Type 0
    EndsWell (Act.Finish outcome) d = EndedBy (is_answered outcome) d
    EndsWell _ d = ⊤

    start_ends : (kind : Kind) (pairs : List (ℕ × ℕ)) (d : Directory) → Same d → EndsWell (start_act kind tries job pairs) d
    start_ends Kind.Put pairs d same = tt
    start_ends Kind.Write pairs d same = by (nat_lt (length pairs) tries)
      where
        by : (b : Bool) → EndsWell (if b then Act.AtDirectory (DirectoryStep.Look job.note) else Act.Finish (Outcome.Contended pairs)) d
        by true = tt
        by false = same
    start_ends Kind.Get pairs d same = tt
    start_ends Kind.ReadAt pairs d same = tt
    start_ends Kind.Stat pairs d same = tt
    start_ends Kind.Delete pairs d same = tt
    start_ends Kind.Rebuild pairs d same = tt

    ends_well : (pairs : List (ℕ × ℕ)) (at : State) (d : Directory) → Fits at d → EndsWell (act_at g tries job pairs at) d
    ends_well pairs State.Start d ok = start_ends job.note.kind pairs d ok.0
    ends_well pairs (State.Parts part parts following) d ok = absurd ok
    ends_well pairs (State.Chunk seen target) d ok = absurd ok
    ends_well pairs (State.Gather aim asking parts following) d ok = tt
    ends_well pairs State.Drawing d ok = tt
    ends_well pairs (State.Preparing stripe version server servers row later placed versions) d ok = tt
    ends_well pairs (State.Committing versions placed) d ok = tt
    ends_well pairs (State.Committed versions) d ok = absurd ok
    ends_well pairs (State.Settling point place places) d ok = tt
    ends_well pairs (State.Confirming seen target) d ok = tt
    ends_well pairs (State.Installing seen target) d ok = tt
    ends_well pairs (State.Placing target epoch) d ok = tt
    ends_well pairs (State.Ending outcome) d ok = tt
    ends_well pairs (State.Finished outcome) d ok = ok

    pub ended : (outcome : Outcome) (w : AtWork) → Holds w → act_of_state g tries job w.call ≡ Act.Finish outcome → EndedBy (is_answered outcome) w.places.directory
    ended outcome w ok e = subst (λ act. EndsWell act w.places.directory) e (ends_well w.call.pairs w.call.at w.places.directory ok.1)

  -- of a call that leads to no other map
  pub still_same : after ≡ before → (at : State) (d : Directory) → Fits at d → Same d
  still_same none State.Start d ok = ok.0
  still_same none (State.Parts part parts following) d ok = absurd ok
  still_same none (State.Chunk seen target) d ok = absurd ok
  still_same none (State.Gather aim asking parts following) d ok = ok.0
  still_same none State.Drawing d ok = ok.0
  still_same none (State.Preparing stripe version server servers row later placed versions) d ok = ok.0
  still_same none (State.Committing versions placed) d ok = ok.0
  still_same none (State.Committed versions) d ok = absurd ok
  still_same none (State.Settling point place places) d ok = ok ∙ none
  still_same none (State.Confirming seen target) d ok = ok.0
  still_same none (State.Installing seen target) d ok = ok.0
  still_same none (State.Placing target epoch) d ok = ok.0
  still_same none (State.Ending outcome) d ok = ok.0
  still_same none (State.Finished outcome) d ok = by (is_answered outcome) ok
    where
      by : (b : Bool) → EndedBy b d → Same d
      by true new = new ∙ none
      by false same = same
