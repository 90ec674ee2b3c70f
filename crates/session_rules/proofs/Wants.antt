-- A call that runs alone while memory may be wanting: until it has committed no step of it is seen.
use Rattle.std.proofs.Common.{◌≡◌, ◌≢◌, ◌⊎◌, ℕ, zero, suc, ◌+◌, ◌<◌, ◌≤◌, Bool, true, false, not, ◌&&◌, cond, List, [], ◌∷◌, ◌++◌, length, map, find, slice_get, Option, None, Some, option_map, unwrap_or, refl, sym, ap, subst, ◌∙◌, inl, inr, arith, if◌then◌else◌, nat_lt}
use Rattle.std.specs.Bool.{⊤}
use Rattle.std.specs.List.{AllByRecursion, range_with_len, list_all}
use Rattle.std.proofs.lemmas.Bool.{eq-eqb, true≢false}
use Rattle.clay_grid.specs.Shape.{Shape, chunk_count, stripe_length}
use Rattle.store_map.specs.declared.actor.Actor.{Actor}
use Rattle.store_map.specs.declared.call.Call.{Call}
use Rattle.store_map.specs.declared.call.Call.TheVariants as call
use Rattle.store_map.specs.declared.call.Rebuild.{Rebuild as RebuildCall}
use Rattle.store_map.specs.declared.placement.Placement.{Placement}
use Rattle.store_map.specs.declared.reply.Reply.{Reply}
use Rattle.store_core.specs.Lists.{change_at, is_among}
use Rattle.store_core.specs.Told.{Seen, Told}
use Rattle.store_core.specs.Note.{Kind, Note, note_of, note_of_rebuild, refusal}
use Rattle.store_core.specs.Act.{Act, DirectoryStep, ServerStep, Outcome}
use Rattle.store_core.specs.ActPlace.{is_in_pass}
use Rattle.store_core.specs.NextAct.{Job, job_of, rebuild_job}
use Rattle.store_core.specs.Conditions.{MayBegin, IsOfClient, IsOfRepairer}
use Rattle.store_core.specs.Directory.{Object, Pass, Directory}
use Rattle.store_core.specs.Lookups.{same_actor, find_object, pass_of, last_change, is_current}
use Rattle.store_core.specs.Look.{begin_pass, pin_of, seen_at, stripes_between}
use Rattle.store_core.specs.Looks.{look_by, look_repair_by}
use Rattle.store_core.specs.PassSteps.{close_pass, draw, end_pass, confirm, new_version, touched}
use Rattle.store_core.specs.Commit.{same_point, is_overtaken, commit, commit_object}
use Rattle.store_core.specs.AtDirectory.{at_directory, on_pass, unless_reaped}
use Rattle.store_core.specs.Gathering.{Part}
use Rattle.store_core.specs.Read.{parts_of}
use Rattle.store_core.specs.Write.{old_parts}
use Rattle.store_core.specs.Server.{Server, hold, install}
use Rattle.store_core.specs.Step.{Shortage, Places, at_places, at_server_there}
use Rattle.run_laws.specs.Stage.{Aim, Asking, Stage}
use Rattle.run_laws.specs.StageAfter.{stage_after, server_asked, step_asked}
use Rattle.run_laws.specs.Stages.{first_stage}
use Rattle.run_laws.specs.State.{Sequel, State, CallState, first_state}
use Rattle.run_laws.specs.States.{sequel_state, parts_state, stage_state, prepare_state, prepare_all_state, open_parts, open_state, open_call}
use Rattle.run_laws.specs.StateActs.{act_at, act_of_state}
use Rattle.run_laws.specs.GatherAfter.{ending_after, confirming_after, installing_after}
use Rattle.run_laws.specs.WriteAfter.{preparing_after, drawing_after}
use Rattle.run_laws.specs.CallAfter.{pairs_with}
use Rattle.run_laws.specs.LookAfter.{put_after_look, write_after_look, read_after_look, single_after_look, rebuild_after_look}
use Rattle.run_laws.specs.CallLaws.{next_call}
use Rattle.session_rules.specs.State.{State as Session}
use Rattle.session_rules.specs.Alone.{AtWork}
use Rattle.session_rules.specs.Seen.{IsSeenAs}
use Rattle.session_rules.specs.Sweeps.{IsUnseen}
use Rattle.session_rules.specs.Unseen.{IsUnseenThere}
use Rattle.session_rules.specs.Wants.{may_code, after_coding, wanting_by, wanting_step, wanting_steps, WantsAreUnseen}
use Rattle.session_rules.proofs.AtPlaces.{self}
use Rattle.session_rules.proofs.Over.{HasPass, IsOverWith, committed_over, coded_over, over_stays, over_replied}
use Rattle.session_rules.proofs.Beside.{steps_are_unseen}
use Rattle.session_rules.proofs.Writes.{changed_same}

cases : {P : Type 0} (b : Bool) → (b ≡ true → P) → (b ≡ false → P) → P
cases true t f = t refl
cases false t f = f refl

abbrev is_delete : Kind → Bool
is_delete Kind.Delete = true
is_delete _ = false

pub same_points : (found : Option ℕ) → same_point found found ≡ true
same_points None = refl
same_points (Some n) = eq-eqb n n refl

-- what is found in a list whose elements were changed, where the test passes them as before
pub find_changed : {X : Type 0} (test : X → Bool) (f : X → X) → ((x : X) → test (f x) ≡ test x) → (xs : List X) → find test (map f xs) ≡ option_map f (find test xs)
find_changed test f same [] = refl
find_changed {X = X} test f same (x ∷ xs) =
    ap (λ b. cond b (Some (f x)) (find test (map f xs))) (same x) ∙ by (test x) (find_changed test f same xs)
  where
    by : (b : Bool) → find test (map f xs) ≡ option_map f (find test xs) → cond b (Some (f x)) (find test (map f xs)) ≡ option_map f (cond b (Some x) (find test xs))
    by true rest = refl
    by false rest = rest

-- numbers of a row are no less than its first
row_from : (count a n : ℕ) → count ≤ a → AllByRecursion (λ v. count ≤ v) (range_with_len a n)
row_from count a zero low = tt
row_from count a (suc n) low = (low, row_from count (a + 1) n (omega (arith, low)))

-- a step at a server leaves the directory
pub same_directory : (short : Bool) (server : ℕ) (step : ServerStep) (p : Places) (found : Option Server) → (at_server_there short server step p found).0.directory ≡ p.directory
same_directory short server step p None = refl
same_directory short server step p (Some one) = refl

module _ (g : Shape) (max tries : ℕ) (stands : List ℕ) (s : Session) (some : 0 < stripe_length g) (count : ℕ) (fresh : (version : ℕ) → count ≤ version → IsUnseen stands s version)
    (who : Actor) (number : ℕ) where
  -- the pass of a put or a write, of whose object nothing was changed since its look
  record OnPass (d : Directory) : Type 0 where
    pass : Pass
    is_pass : pass_of who d ≡ Some pass
    kind : (pass.note.kind ≡ Kind.Put) ⊎ (pass.note.kind ≡ Kind.Write)
    latest : is_overtaken pass.note.kind pass.base (last_change pass.note.name d.points) ≡ false
    alive : pass.reaped ≡ None

  -- it has drawn nothing yet
  record Writes (d : Directory) : Type 0 where
    on : OnPass d
    drawn : on.pass.drawn ≡ []
    more : count ≤ length d.versions

  -- the pass of a rebuild
  record Rebuilds (d : Directory) : Type 0 where
    pass : Pass
    is_pass : pass_of who d ≡ Some pass
    kind : pass.note.kind ≡ Kind.Rebuild
    alive : pass.reaped ≡ None

  known : (d : Directory) → Rebuilds d → HasPass who d
  known d on = record { pass = on.pass; is_pass = on.is_pass; alive = on.alive }

  -- the call has committed or has placed its chunk, or it was answered
  abbrev IsOver : State → Directory → Type 0
  IsOver at d = IsOverWith Rebuilds at d

  -- what is known while bytes are gathered
  abbrev Follows : Sequel → Directory → Type 0
  Follows (Sequel.Serve point) d = ⊤
  Follows Sequel.Draw d = Writes d
  Follows (Sequel.Confirm seen target) d = Rebuilds d

  -- what is known at a state of a call that has not committed
  abbrev Fits : State → Directory → Type 0
  Fits State.Start d = MayBegin d who number × (count ≤ length d.versions)
  Fits (State.Gather aim asking parts after) d = Follows after d
  Fits State.Drawing d = Writes d
  Fits (State.Preparing stripe version server servers row later placed versions) d = (count ≤ version) × AllByRecursion (λ v. count ≤ v) later × OnPass d
  Fits (State.Committing versions placed) d = OnPass d
  Fits (State.Confirming seen target) d = Rebuilds d
  Fits (State.Installing seen target) d = Rebuilds d
  Fits (State.Ending outcome) d = ⊤
  Fits (State.Finished outcome) d = ⊤
  Fits _ d = ⊥

  -- the state is seen, or the call has committed or was answered
  abbrev Holds : AtWork → Type 0
  Holds w = (IsSeenAs g max stands w.places s × Fits w.call.at w.places.directory) ⊎ IsOver w.call.at w.places.directory

  -- ---- states at their next question
  sequel_fits : (after : Sequel) (d : Directory) → Follows after d → Fits (sequel_state after) d
  sequel_fits (Sequel.Serve point) d ok = tt
  sequel_fits Sequel.Draw d ok = ok
  sequel_fits (Sequel.Confirm seen target) d ok = ok

  stage_fits : (bytes : State) (aim : Aim) (parts : List Part) (after : Sequel) (d : Directory) → Fits bytes d → Follows after d → (stage : Stage) → Fits (stage_state bytes aim parts after stage) d
  stage_fits bytes aim parts after d has ok (Stage.Asks asking) = ok
  stage_fits bytes aim parts after d has ok Stage.HasBytes = has
  stage_fits bytes aim parts after d has ok (Stage.TooMany missing) = tt
  stage_fits bytes aim parts after d has ok Stage.AtTarget = tt
  stage_fits bytes aim parts after d has ok (Stage.TargetAway downs) = tt
  stage_fits bytes aim parts after d has ok Stage.Short = tt

  open_fits : (parts : List Part) (after : Sequel) (d : Directory) → Follows after d → Fits (open_parts g parts after) d
  open_fits [] after d ok = sequel_fits after d ok
  open_fits (part ∷ parts) after d ok = stage_fits (open_parts g parts after) (Aim.Range part) parts after d (open_fits parts after d ok) ok (first_stage g (Aim.Range part))

  parts_fit : (parts : List Part) (after : Sequel) (d : Directory) → Follows after d → Fits (open_state g (parts_state parts after)) d
  parts_fit [] (Sequel.Serve point) d ok = tt
  parts_fit [] Sequel.Draw d ok = ok
  parts_fit [] (Sequel.Confirm seen target) d ok = ok
  parts_fit (part ∷ parts) after d ok = open_fits (part ∷ parts) after d ok

  gather_fits : (aim : Aim) (parts : List Part) (after : Sequel) (d : Directory) → Follows after d → (stage : Stage) → Fits (open_state g (stage_state (parts_state parts after) aim parts after stage)) d
  gather_fits aim parts after d ok (Stage.Asks asking) = ok
  gather_fits aim parts after d ok Stage.HasBytes = parts_fit parts after d ok
  gather_fits aim parts after d ok (Stage.TooMany missing) = tt
  gather_fits aim parts after d ok Stage.AtTarget = tt
  gather_fits aim parts after d ok (Stage.TargetAway downs) = tt
  gather_fits aim parts after d ok Stage.Short = tt

  prepare_fits : (versions : List ℕ) (stripe version : ℕ) (later : List ℕ) (placed : List (List Placement)) (next : List Placement → State) (d : Directory) →
      (count ≤ version) → AllByRecursion (λ v. count ≤ v) later → OnPass d → ((row : List Placement) → Fits (open_state g (next row)) d) → (servers : List ℕ) (row : List Placement) →
      Fits (open_state g (prepare_state versions stripe version later placed next servers row)) d
  prepare_fits versions stripe version later placed next d low all on then_so [] row = then_so row
  prepare_fits versions stripe version later placed next d low all on then_so (server ∷ servers) row = (low, all, on)

  prepare_all_fits : (versions later : List ℕ) (stripe : ℕ) (placed : List (List Placement)) (d : Directory) → AllByRecursion (λ v. count ≤ v) later → OnPass d →
      Fits (open_state g (prepare_all_state g versions stripe later placed)) d
  prepare_all_fits versions [] stripe placed d all on = on
  prepare_all_fits versions (version ∷ later) stripe placed d all on =
      prepare_fits versions stripe version later placed (λ row. prepare_all_state g versions (stripe + 1) later (placed ++ row ∷ [])) d all.0 all.1 on
      (λ row. prepare_all_fits versions later (stripe + 1) (placed ++ row ∷ []) d all.1 on) (range_with_len 0 (chunk_count g)) []

  -- ---- the look
  other_kind : (k : Kind) → is_delete k ≡ false → k ≢ Kind.Delete
  other_kind k e same = true≢false (sym (ap is_delete same) ∙ e)

  -- the pass that a look begins
  begun_pass : (n : Note) (d : Directory) (seen : List Seen) (base : Option ℕ) → (n.kind ≡ Kind.Put) ⊎ (n.kind ≡ Kind.Write) → is_overtaken n.kind base (last_change n.name d.points) ≡ false → count ≤ length d.versions →
      Writes (Rattle.store_core.specs.Look.begin_pass who number n seen base d)
  begun_pass n d seen base kind latest more = record {
    on = record {
      pass = record { actor = who; number = number; note = n; pinned = map Rattle.store_core.specs.Look.pin_of seen; drawn = []; base = base; reaped = None };
      is_pass = ap (λ b. cond b (Some (let pass : Pass = record { actor = who; number = number; note = n; pinned = map Rattle.store_core.specs.Look.pin_of seen; drawn = []; base = base; reaped = None } in pass)) (find (λ (other : Pass). same_actor who other.actor) d.passes)) (self who);
      kind = kind;
      latest = latest;
      alive = refl;
    };
    drawn = refl;
    more = more;
  }

  abbrev looked : (Told → State) → List (ℕ × ℕ) → Places → Directory × Told → AtWork
  looked after pairs p r = record { call = open_call g (record { pairs = pairs_with pairs r.1; at = after r.1 }); places = record p { directory = r.0 } }

  start_short : (c : Call) (pairs : List (ℕ × ℕ)) (d : Directory) → Fits (next_call g (job_of c) (record { pairs = pairs; at = State.Start }) Told.Short).at d
  start_short (call.Put name content) pairs d = tt
  start_short (call.Write name offset content) pairs d = tt
  start_short (call.Get name) pairs d = tt
  start_short (call.ReadAt name offset n) pairs d = tt
  start_short (call.Stat name) pairs d = tt
  start_short (call.Delete name) pairs d = tt

  module _ (p : Places) (h : IsSeenAs g max stands p s) where
    abbrev d : Directory
    d = p.directory

    look_seen : (c : Call) → IsOfClient who (note_of c) → MayBegin d who number → is_delete (note_of c).kind ≡ false →
        IsSeenAs g max stands (record p { directory = (at_directory false who number (DirectoryStep.Look (note_of c)) d).0 }) s
    look_seen c its begin other = steps_are_unseen.at_directory g max stands p s false who number (DirectoryStep.Look (note_of c)) some h (begin, its) (other_kind (note_of c).kind other)

    abbrev refused : Note → Option Reply
    refused n = refusal d.max n (option_map (λ (object : Object). object.length) (find_object n.name d.objects))

    start_holds : (c : Call) → IsOfClient who (note_of c) → (short : Bool) (pairs : List (ℕ × ℕ)) → MayBegin d who number × (count ≤ length d.versions) →
        Holds (wanting_by g tries who number (job_of c) short (act_at g tries (job_of c) pairs State.Start) (record { call = record { pairs = pairs; at = State.Start }; places = p }))
    start_holds (call.Put name content) its true pairs ok = inl (h, tt)
    start_holds (call.Put name content) its false pairs ok = by (refused (note_of (call.Put name content))) (look_seen (call.Put name content) its ok.0 refl)
      where
        n : Note
        n = note_of (call.Put name content)

        by : (r : Option Reply) → IsSeenAs g max stands (record p { directory = (look_by who number (note_of (call.Put name content)) d (find_object name d.objects) r).0 }) s →
            Holds (looked put_after_look pairs p (look_by who number (note_of (call.Put name content)) d (find_object name d.objects) r))
        by (Some answer) seen = inr tt
        by None seen = inl (seen, begun_pass (note_of (call.Put name content)) d [] None (inl refl) refl ok.1)
    start_holds (call.Write name offset content) its short pairs ok = by_tries (nat_lt (length pairs) tries) short
      where
        found : Option Object
        found = find_object name d.objects

        by : (r : Option Reply) → IsSeenAs g max stands (record p { directory = (look_by who number (note_of (call.Write name offset content)) d (find_object name d.objects) r).0 }) s →
            Holds (looked (write_after_look g) pairs p (look_by who number (note_of (call.Write name offset content)) d (find_object name d.objects) r))
        by (Some answer) seen = inr tt
        by None seen =
            inl (
              seen,
              parts_fit (old_parts g (unwrap_or (find_object name d.objects) (record { name = name; length = 0; versions = [] })).length
                  (Rattle.store_core.specs.Looks.seen_of who number (note_of (call.Write name offset content)) d (unwrap_or (find_object name d.objects) (record { name = name; length = 0; versions = [] })))) Sequel.Draw _
                  (begun_pass (note_of (call.Write name offset content)) d _ (last_change name d.points) (inr refl) (ap not (same_points (last_change name d.points))) ok.1),
            )

        by_tries : (b : Bool) (short : Bool) →
            Holds (wanting_by g tries who number (job_of (call.Write name offset content)) short (if b then Act.AtDirectory (DirectoryStep.Look (note_of (call.Write name offset content))) else Act.Finish (Outcome.Contended pairs))
            (record { call = record { pairs = pairs; at = State.Start }; places = p }))
        by_tries false short = inl (h, ok)
        by_tries true true = inl (h, tt)
        by_tries true false = by (refused (note_of (call.Write name offset content))) (look_seen (call.Write name offset content) its ok.0 refl)
    start_holds (call.Get name) its true pairs ok = inl (h, tt)
    start_holds (call.Get name) its false pairs ok = by (refused (note_of (call.Get name))) (look_seen (call.Get name) its ok.0 refl)
      where
        by : (r : Option Reply) → IsSeenAs g max stands (record p { directory = (look_by who number (note_of (call.Get name)) d (find_object name d.objects) r).0 }) s →
            Holds (looked (read_after_look g (note_of (call.Get name))) pairs p (look_by who number (note_of (call.Get name)) d (find_object name d.objects) r))
        by (Some answer) seen = inr tt
        by None seen =
            inl (
              seen,
              parts_fit (parts_of g (note_of (call.Get name)) (unwrap_or (find_object name d.objects) (record { name = name; length = 0; versions = [] })).length
                  (Rattle.store_core.specs.Looks.seen_of who number (note_of (call.Get name)) d (unwrap_or (find_object name d.objects) (record { name = name; length = 0; versions = [] })))) (Sequel.Serve (length d.points)) _ tt,
            )
    start_holds (call.ReadAt name offset n) its true pairs ok = inl (h, tt)
    start_holds (call.ReadAt name offset n) its false pairs ok = by (refused (note_of (call.ReadAt name offset n))) (look_seen (call.ReadAt name offset n) its ok.0 refl)
      where
        by : (r : Option Reply) → IsSeenAs g max stands (record p { directory = (look_by who number (note_of (call.ReadAt name offset n)) d (find_object name d.objects) r).0 }) s →
            Holds (looked (read_after_look g (note_of (call.ReadAt name offset n))) pairs p (look_by who number (note_of (call.ReadAt name offset n)) d (find_object name d.objects) r))
        by (Some answer) seen = inr tt
        by None seen =
            inl (
              seen,
              parts_fit (parts_of g (note_of (call.ReadAt name offset n)) (unwrap_or (find_object name d.objects) (record { name = name; length = 0; versions = [] })).length
                  (Rattle.store_core.specs.Looks.seen_of who number (note_of (call.ReadAt name offset n)) d (unwrap_or (find_object name d.objects) (record { name = name; length = 0; versions = [] })))) (Sequel.Serve (length d.points)) _ tt,
            )
    start_holds (call.Stat name) its true pairs ok = inl (h, tt)
    start_holds (call.Stat name) its false pairs ok = by (refused (note_of (call.Stat name)))
      where
        by : (r : Option Reply) → Holds (looked single_after_look pairs p (look_by who number (note_of (call.Stat name)) d (find_object name d.objects) r))
        by (Some answer) = inr tt
        by None = inr tt
    start_holds (call.Delete name) its true pairs ok = inl (h, tt)
    start_holds (call.Delete name) its false pairs ok = by (refused (note_of (call.Delete name)))
      where
        by : (r : Option Reply) → Holds (looked single_after_look pairs p (look_by who number (note_of (call.Delete name)) d (find_object name d.objects) r))
        by (Some answer) = inr tt
        by None = inr tt

    -- a rebuild's look
    rebuild_holds : (c : RebuildCall) → IsOfRepairer who (note_of_rebuild c) → (short : Bool) (pairs : List (ℕ × ℕ)) → MayBegin d who number × (count ≤ length d.versions) →
        Holds (wanting_by g tries who number (rebuild_job c) short (act_at g tries (rebuild_job c) pairs State.Start) (record { call = record { pairs = pairs; at = State.Start }; places = p }))
    rebuild_holds c its true pairs ok = inl (h, tt)
    rebuild_holds c its false pairs ok =
        by (find_object c.name d.objects) (steps_are_unseen.at_directory g max stands p s false who number (DirectoryStep.LookRepair (note_of_rebuild c)) some h (ok.0, its) tt)
      where
        pinned : (object : Object) (b : Bool) →
            IsSeenAs g max stands (record p { directory = (let r : Directory × Told = if b then (begin_pass who number (note_of_rebuild c) (seen_at d object c.stripe ∷ []) None d, Told.PinnedStripe (seen_at d object c.stripe)) else (d, Told.NoSuch) in r).0 }) s →
            Holds (looked (rebuild_after_look c.server) pairs p (if b then (begin_pass who number (note_of_rebuild c) (seen_at d object c.stripe ∷ []) None d, Told.PinnedStripe (seen_at d object c.stripe)) else (d, Told.NoSuch)))
        pinned object false seen = inl (seen, tt)
        pinned object true seen =
            inl (
              seen,
              record {
                pass = record { actor = who; number = number; note = note_of_rebuild c; pinned = map pin_of (seen_at d object c.stripe ∷ []); drawn = []; base = None; reaped = None };
                is_pass =
                    ap (λ b. cond b (Some (let pass : Pass = record { actor = who; number = number; note = note_of_rebuild c; pinned = map pin_of (seen_at d object c.stripe ∷ []); drawn = []; base = None; reaped = None } in pass))
                    (find (λ (other : Pass). same_actor who other.actor) d.passes)) (self who);
                kind = refl;
                alive = refl;
              },
            )

        by : (found : Option Object) → IsSeenAs g max stands (record p { directory = (look_repair_by who number (note_of_rebuild c) d found).0 }) s →
            Holds (looked (rebuild_after_look c.server) pairs p (look_repair_by who number (note_of_rebuild c) d found))
        by None seen = inl (seen, tt)
        by (Some object) seen = pinned object (nat_lt c.stripe (length object.versions)) seen

  -- ---- of a job, by its look
  module _ (job : Job) (starts_short : (pairs : List (ℕ × ℕ)) (d : Directory) → Fits (next_call g job (record { pairs = pairs; at = State.Start }) Told.Short).at d)
      (starts : (p : Places) → IsSeenAs g max stands p s → (short : Bool) (pairs : List (ℕ × ℕ)) → MayBegin p.directory who number × (count ≤ length p.directory.versions) →
      Holds (wanting_by g tries who number job short (act_at g tries job pairs State.Start) (record { call = record { pairs = pairs; at = State.Start }; places = p }))) where
    -- ---- want of memory in the coding
    short_fits : (pairs : List (ℕ × ℕ)) (at : State) (d : Directory) → Fits at d → Fits (next_call g job (record { pairs = pairs; at = at }) Told.Short).at d
    short_fits pairs State.Start d ok = starts_short pairs d
    short_fits pairs (State.Parts part parts after) d ok = absurd ok
    short_fits pairs (State.Chunk seen target) d ok = absurd ok
    short_fits pairs (State.Gather aim asking parts after) d ok = gather_fits aim parts after d ok (stage_after g aim asking Told.Short)
    short_fits pairs State.Drawing d ok = tt
    short_fits pairs (State.Preparing stripe version server servers row later placed versions) d ok = tt
    short_fits pairs (State.Committing versions placed) d ok = tt
    short_fits pairs (State.Committed versions) d ok = absurd ok
    short_fits pairs (State.Settling point place places) d ok = absurd ok
    short_fits pairs (State.Confirming seen target) d ok = tt
    short_fits pairs (State.Installing seen target) d ok = tt
    short_fits pairs (State.Placing target epoch) d ok = absurd ok
    short_fits pairs (State.Ending outcome) d ok = tt
    short_fits pairs (State.Finished outcome) d ok = tt

    coded_fits : (wanting : Bool) (c : CallState) (d : Directory) → Fits c.at d → Fits (after_coding g tries who number job wanting c).at d
    coded_fits wanting c d ok = by (wanting && may_code c.at && is_in_pass (act_of_state g tries job c))
      where
        by : (b : Bool) → Fits (let after : CallState = if b then next_call g job c Told.Short else c in after).at d
        by true = short_fits c.pairs c.at d ok
        by false = ok

    -- ---- each step of a call that has not committed
    module _ (p : Places) (h : IsSeenAs g max stands p s) where
      -- the directory now
      abbrev now : Directory
      now = p.directory

      -- a question of a gathering
      asks_unseen : (aim : Aim) (asking : Asking) → IsUnseenThere stands s (step_asked g aim asking)
      asks_unseen aim (Asking.Fetch server more missing) = tt
      asks_unseen aim (Asking.Look server more missing) = tt
      asks_unseen aim (Asking.Repair server more lost) = tt
      asks_unseen aim (Asking.Whole server more wanted missing) = tt
      asks_unseen aim (Asking.Target server) = tt

      gather_holds : (short : Bool) (pairs : List (ℕ × ℕ)) (aim : Aim) (asking : Asking) (parts : List Part) (after : Sequel) → Follows after now →
          Holds (wanting_by g tries who number job short (act_at g tries job pairs (State.Gather aim asking parts after)) (record { call = record { pairs = pairs; at = State.Gather aim asking parts after }; places = p }))
      gather_holds short pairs aim asking parts after ok =
          let made : Places × Told = at_places short who number (Act.AtServer (server_asked g aim asking) (step_asked g aim asking)) p in
          inl (
            steps_are_unseen.at_server g max stands p s short who number (server_asked g aim asking) (step_asked g aim asking) h (asks_unseen aim asking),
            gather_fits aim parts after made.0.directory
                (subst (Follows after) (sym (same_directory short (server_asked g aim asking) (step_asked g aim asking) p (slice_get p.servers (server_asked g aim asking)))) ok) (stage_after g aim asking made.1),
          )

      -- a draw
      drawn_pass : (w : Writes now) → OnPass (draw w.on.pass now).0
      drawn_pass w = record {
        pass = record (w.on.pass) { drawn = range_with_len (length now.versions) (length (touched now w.on.pass.note)) };
        is_pass =
            find_changed (λ (other : Pass). same_actor who other.actor) change same now.passes ∙ ap (option_map change) w.on.is_pass
            ∙ ap (λ b. Some (let pass : Pass = if b then record (w.on.pass) { drawn = range_with_len (length now.versions) (length (touched now w.on.pass.note)) } else w.on.pass in pass)) (self w.on.pass.actor);
        kind = w.on.kind;
        latest = w.on.latest;
        alive = w.on.alive;
      }
        where
          change : Pass → Pass
          change other = if same_actor w.on.pass.actor other.actor then record other { drawn = range_with_len (length now.versions) (length (touched now w.on.pass.note)) } else other

          same : (x : Pass) → same_actor who (change x).actor ≡ same_actor who x.actor
          same x = by (same_actor w.on.pass.actor x.actor)
            where
              by : (b : Bool) → same_actor who (let pass : Pass = if b then record x { drawn = range_with_len (length now.versions) (length (touched now w.on.pass.note)) } else x in pass).actor ≡ same_actor who x.actor
              by true = refl
              by false = refl

      drawing_holds : (short : Bool) (pairs : List (ℕ × ℕ)) → Writes now →
          Holds (wanting_by g tries who number job short (act_at g tries job pairs State.Drawing) (record { call = record { pairs = pairs; at = State.Drawing }; places = p }))
      drawing_holds true pairs w = inl (h, tt)
      drawing_holds false pairs w =
          subst (λ (r : Directory × Told). IsSeenAs g max stands (record p { directory = r.0 }) s → Holds (record { call = open_call g (record { pairs = pairs; at = drawing_after g job.note r.1 }); places = record p { directory = r.0 } }))
          (sym is) (λ seen. inl (seen, fits))
          (steps_are_unseen.at_directory g max stands p s false who number DirectoryStep.Draw some h (w.on.pass, record { is_pass = w.on.is_pass; kind = w.on.kind }, w.drawn) tt)
        where
          is : at_directory false who number DirectoryStep.Draw now ≡ draw w.on.pass now
          is = ap (λ f. on_pass draw f now) w.on.is_pass ∙ ap (λ reaped. unless_reaped draw w.on.pass reaped now) w.on.alive

          fits : Fits (open_state g (drawing_after g job.note (draw w.on.pass now).1)) (draw w.on.pass now).0
          fits =
              prepare_all_fits (range_with_len (length now.versions) (length (touched now w.on.pass.note))) (range_with_len (length now.versions) (length (touched now w.on.pass.note))) _ [] (draw w.on.pass now).0
              (row_from count (length now.versions) (length (touched now w.on.pass.note)) w.more) (drawn_pass w)

      -- a chunk that is prepared
      preparing_holds : (short : Bool) (pairs : List (ℕ × ℕ)) (stripe version server : ℕ) (servers : List ℕ) (row : List Placement) (later : List ℕ) (placed : List (List Placement)) (versions : List ℕ) →
          (count ≤ version) × AllByRecursion (λ v. count ≤ v) later × OnPass now →
          Holds (wanting_by g tries who number job short (act_at g tries job pairs (State.Preparing stripe version server servers row later placed versions))
          (record { call = record { pairs = pairs; at = State.Preparing stripe version server servers row later placed versions }; places = p }))
      preparing_holds short pairs stripe version server servers row later placed versions ok =
          inl (
            steps_are_unseen.at_server g max stands p s short who number server (ServerStep.Prepare version) h (fresh version ok.0),
            subst (Fits (open_state g (preparing_after g stripe version servers row later placed versions (at_server_there short server (ServerStep.Prepare version) p (slice_get p.servers server)).1)))
                (sym (same_directory short server (ServerStep.Prepare version) p (slice_get p.servers server))) (by (slice_get p.servers server) short),
          )
        where
          few : (b : Bool) (row : List Placement) → Fits (open_state g (if b then State.Ending (Outcome.Unavailable stripe (Rattle.store_core.specs.Placements.skipped_from 0 row))
              else prepare_state versions stripe version later placed (λ whole. prepare_all_state g versions (stripe + 1) later (placed ++ whole ∷ [])) servers row)) now
          few true row = tt
          few false row =
              prepare_fits versions stripe version later placed (λ whole. prepare_all_state g versions (stripe + 1) later (placed ++ whole ∷ [])) now ok.0 ok.1 ok.2
              (λ whole. prepare_all_fits versions later (stripe + 1) (placed ++ whole ∷ []) now ok.1 ok.2) servers row

          told : (placement : Placement) → Fits (open_state g (preparing_after g stripe version servers row later placed versions (Told.Prepared placement))) now
          told placement = few (nat_lt g.parity_count (Rattle.store_core.specs.Placements.skipped_count (row ++ placement ∷ []))) (row ++ placement ∷ [])

          there : (one : Server) (away : Bool) →
              Fits (open_state g (preparing_after g stripe version servers row later placed versions
              (let r : Server × Told = if away then (one, Told.Prepared (Rattle.store_map.specs.declared.placement.Placement.TheVariants.Skipped one.downs))
              else (record one { held = hold version one.held }, Told.Prepared (Rattle.store_map.specs.declared.placement.Placement.TheVariants.At one.epoch)) in r.1))) now
          there one true = told (Rattle.store_map.specs.declared.placement.Placement.TheVariants.Skipped one.downs)
          there one false = told (Rattle.store_map.specs.declared.placement.Placement.TheVariants.At one.epoch)

          by : (found : Option Server) (short : Bool) → Fits (open_state g (preparing_after g stripe version servers row later placed versions (at_server_there short server (ServerStep.Prepare version) p found).1)) now
          by None short = tt
          by (Some one) true = tt
          by (Some one) false = there one one.away

      -- the commit
      committing_holds : (short : Bool) (pairs : List (ℕ × ℕ)) (versions : List ℕ) (placed : List (List Placement)) → OnPass now →
          Holds (wanting_by g tries who number job short (act_at g tries job pairs (State.Committing versions placed)) (record { call = record { pairs = pairs; at = State.Committing versions placed }; places = p }))
      committing_holds short pairs versions placed on = by short
        where
          is : on_pass (commit placed) (pass_of who now) now ≡ commit placed on.pass now
          is = ap (λ f. on_pass (commit placed) f now) on.is_pass ∙ ap (λ reaped. unless_reaped (commit placed) on.pass reaped now) on.alive

          old : Object
          old = unwrap_or (find_object on.pass.note.name now.objects) (record { name = on.pass.note.name; length = 0; versions = [] })

          done : (commit placed on.pass now).1 ≡ Told.Done (length now.points)
          done =
              ap (λ b. (let r : Directory × Told = if b then (Rattle.store_core.specs.PassSteps.close_pass on.pass (Rattle.store_core.specs.PassSteps.give_up_drawn on.pass now), Told.Changed (unwrap_or on.pass.base 0) (unwrap_or (last_change on.pass.note.name now.points) 0))
              else commit_object placed on.pass (unwrap_or (find_object on.pass.note.name now.objects) (record { name = on.pass.note.name; length = 0; versions = [] })) now in r).1) on.latest

          told_done : (on_pass (commit placed) (pass_of who now) now).1 ≡ Told.Done (length now.points)
          told_done = ap (λ (r : Directory × Told). r.1) is ∙ done

          over : IsOver (next_call g job (record { pairs = pairs; at = State.Committing versions placed }) (on_pass (commit placed) (pass_of who now) now).1).at (on_pass (commit placed) (pass_of who now) now).0
          over =
              subst (λ told. IsOver (next_call g job (record { pairs = pairs; at = State.Committing versions placed }) told).at (on_pass (commit placed) (pass_of who now) now).0) (sym told_done)
              (committed_over Rebuilds (length now.points) (Rattle.store_core.specs.Lists.places_of (chunk_count g) versions) (on_pass (commit placed) (pass_of who now) now).0)

          by : (short : Bool) → Holds (wanting_by g tries who number job short (act_at g tries job pairs (State.Committing versions placed)) (record { call = record { pairs = pairs; at = State.Committing versions placed }; places = p }))
          by true = inr over
          by false = inr over

      -- a rebuild confirms its version
      confirming_holds : (short : Bool) (pairs : List (ℕ × ℕ)) (seen : Seen) (target : ℕ) → Rebuilds now →
          Holds (wanting_by g tries who number job short (act_at g tries job pairs (State.Confirming seen target)) (record { call = record { pairs = pairs; at = State.Confirming seen target }; places = p }))
      confirming_holds short pairs seen target on = by short
        where
          told : Directory × Told → AtWork
          told r = record { call = open_call g (record { pairs = pairs; at = confirming_after seen target r.1 }); places = record p { directory = r.0 } }

          is : on_pass confirm (pass_of who now) now ≡ confirm on.pass now
          is = ap (λ f. on_pass confirm f now) on.is_pass ∙ ap (λ reaped. unless_reaped confirm on.pass reaped now) on.alive

          either : (b : Bool) →
              IsSeenAs g max stands (record p { directory = (let r : Directory × Told = if b then (now, Told.Current) else (close_pass on.pass now, Told.Superseded (unwrap_or (last_change on.pass.note.name now.points) 0)) in r).0 }) s →
              Holds (let r : Directory × Told = if b then (now, Told.Current) else (close_pass on.pass now, Told.Superseded (unwrap_or (last_change on.pass.note.name now.points) 0)) in
              record { call = open_call g (record { pairs = pairs; at = confirming_after seen target r.1 }); places = record p { directory = r.0 } })
          either true is_seen = inl (is_seen, on)
          either false is_seen = inl (is_seen, tt)

          after : IsSeenAs g max stands (record p { directory = (on_pass confirm (pass_of who now) now).0 }) s →
              Holds (record { call = open_call g (record { pairs = pairs; at = confirming_after seen target (on_pass confirm (pass_of who now) now).1 }); places = record p { directory = (on_pass confirm (pass_of who now) now).0 } })
          after =
              subst (λ (r : Directory × Told). IsSeenAs g max stands (record p { directory = r.0 }) s → Holds (record { call = open_call g (record { pairs = pairs; at = confirming_after seen target r.1 }); places = record p { directory = r.0 } }))
              (sym is) (either (list_all (λ pin. is_current now pin.version) on.pass.pinned))

          by : (short : Bool) → Holds (wanting_by g tries who number job short (act_at g tries job pairs (State.Confirming seen target)) (record { call = record { pairs = pairs; at = State.Confirming seen target }; places = p }))
          by true = after (steps_are_unseen.at_directory g max stands p s true who number DirectoryStep.Confirm some h (on.pass, record { is_pass = on.is_pass; kind = on.kind }) tt)
          by false = after (steps_are_unseen.at_directory g max stands p s false who number DirectoryStep.Confirm some h (on.pass, record { is_pass = on.is_pass; kind = on.kind }) tt)

      -- it installs its chunk, and then the chunk is placed
      installing_holds : (short : Bool) (pairs : List (ℕ × ℕ)) (seen : Seen) (target : ℕ) → Rebuilds now →
          Holds (wanting_by g tries who number job short (act_at g tries job pairs (State.Installing seen target)) (record { call = record { pairs = pairs; at = State.Installing seen target }; places = p }))
      installing_holds short pairs seen target on = by (slice_get p.servers target) refl short
        where
          same_seen : (one : Server) → slice_get p.servers target ≡ Some one → IsSeenAs g max stands (record p { servers = change_at target (λ _. one) p.servers }) s
          same_seen one e = subst (λ servers. IsSeenAs g max stands (record p { servers = servers }) s) (sym (changed_same target one p.servers e)) h

          there : (one : Server) → slice_get p.servers target ≡ Some one → (away has : Bool) →
              Holds (let r : Server × Told = install away has seen.version one in record { call = open_call g (record { pairs = pairs; at = installing_after target r.1 }); places = record p { servers = change_at target (λ _. r.0) p.servers } })
          there one e true has = inl (same_seen one e, tt)
          there one e false true = inl (same_seen one e, tt)
          there one e false false = inr on

          by : (found : Option Server) → slice_get p.servers target ≡ found → (short : Bool) →
              Holds (let r : Places × Told = at_server_there short target (ServerStep.Install seen.version) p found in record { call = open_call g (record { pairs = pairs; at = installing_after target r.1 }); places = r.0 })
          by None e short = inl (h, tt)
          by (Some one) e true = inl (same_seen one e, tt)
          by (Some one) e false = there one e one.away (is_among seen.version one.held)

      -- the end of its pass
      ending_holds : (short : Bool) (pairs : List (ℕ × ℕ)) (outcome : Outcome) →
          Holds (wanting_by g tries who number job short (act_at g tries job pairs (State.Ending outcome)) (record { call = record { pairs = pairs; at = State.Ending outcome }; places = p }))
      ending_holds short pairs outcome = inl (steps_are_unseen.at_directory g max stands p s short who number DirectoryStep.End some h tt tt, by short)
        where
          reaped_or : (pass : Pass) (reaped : Option ℕ) (q : Directory) → Fits (open_state g (ending_after outcome (unless_reaped end_pass pass reaped now).1)) q
          reaped_or pass None q = tt
          reaped_or pass (Some point) q = tt

          on : (found : Option Pass) (q : Directory) → Fits (open_state g (ending_after outcome (on_pass end_pass found now).1)) q
          on None q = tt
          on (Some pass) q = reaped_or pass pass.reaped q

          by : (short : Bool) → Fits (open_state g (ending_after outcome (at_directory short who number DirectoryStep.End now).1)) (at_directory short who number DirectoryStep.End now).0
          by true = on (pass_of who now) (on_pass end_pass (pass_of who now) now).0
          by false = on (pass_of who now) (on_pass end_pass (pass_of who now) now).0

      step_holds : (short : Bool) (pairs : List (ℕ × ℕ)) (at : State) → Fits at now →
          Holds (wanting_by g tries who number job short (act_at g tries job pairs at) (record { call = record { pairs = pairs; at = at }; places = p }))
      step_holds short pairs State.Start ok = starts p h short pairs ok
      step_holds short pairs (State.Parts part parts after) ok = absurd ok
      step_holds short pairs (State.Chunk seen target) ok = absurd ok
      step_holds short pairs (State.Gather aim asking parts after) ok = gather_holds short pairs aim asking parts after ok
      step_holds short pairs State.Drawing ok = drawing_holds short pairs ok
      step_holds short pairs (State.Preparing stripe version server servers row later placed versions) ok = preparing_holds short pairs stripe version server servers row later placed versions ok
      step_holds short pairs (State.Committing versions placed) ok = committing_holds short pairs versions placed ok
      step_holds short pairs (State.Committed versions) ok = absurd ok
      step_holds short pairs (State.Settling point place places) ok = absurd ok
      step_holds short pairs (State.Confirming seen target) ok = confirming_holds short pairs seen target ok
      step_holds short pairs (State.Installing seen target) ok = installing_holds short pairs seen target ok
      step_holds short pairs (State.Placing target epoch) ok = absurd ok
      step_holds short pairs (State.Ending outcome) ok = ending_holds short pairs outcome
      step_holds short pairs (State.Finished outcome) ok = inl (h, tt)

    -- ---- all steps
    one_step : (shortage : Shortage) (w : AtWork) → Holds w → Holds (wanting_step g tries who number job shortage w)
    one_step shortage w (inl ok) =
        let c : CallState = after_coding g tries who number job shortage.coding w.call in step_holds w.places ok.0 shortage.step c.pairs c.at (coded_fits shortage.coding w.call w.places.directory ok.1)
    one_step shortage w (inr over) =
        subst (λ (c : CallState). Holds (wanting_by g tries who number job shortage.step (act_of_state g tries job c) (record { call = c; places = w.places }))) (sym (coded_over g tries who number Rebuilds known job shortage.coding w.call.pairs w.call.at w.places.directory over))
        (inr (over_stays g tries who number Rebuilds known job shortage.step w.call.pairs w.call.at w.places over))

    all_steps : (shortages : List Shortage) (w : AtWork) → Holds w → Holds (wanting_steps g tries who number job shortages w)
    all_steps [] w ok = ok
    all_steps (shortage ∷ shortages) w ok = all_steps shortages (wanting_step g tries who number job shortage w) (one_step shortage w ok)

    -- ---- the end
    ends_unseen : (w : AtWork) → Holds w → act_of_state g tries job w.call ≡ Act.Finish Outcome.NoMemory → IsSeenAs g max stands w.places s
    ends_unseen w (inl ok) e = ok.0
    ends_unseen w (inr over) e = absurd (over_replied g tries who number Rebuilds known job w.call.pairs w.call.at w.places.directory over e)

    ends_all : (shortages : List Shortage) (p : Places) → IsSeenAs g max stands p s → MayBegin p.directory who number × (count ≤ length p.directory.versions) →
        act_of_state g tries job (wanting_steps g tries who number job shortages (record { call = first_state; places = p })).call ≡ Act.Finish Outcome.NoMemory →
        IsSeenAs g max stands (wanting_steps g tries who number job shortages (record { call = first_state; places = p })).places s
    ends_all shortages p h ok over =
        ends_unseen (wanting_steps g tries who number job shortages (record { call = first_state; places = p })) (all_steps shortages (record { call = first_state; places = p }) (inl (h, ok))) over

pub wants_are_unseen : WantsAreUnseen
wants_are_unseen = record { calls = calls; rebuilds = rebuilds }
  where
    late : (g : Shape) (max : ℕ) (stands : List ℕ) (p : Places) (s : Session) → 0 < stripe_length g → IsSeenAs g max stands p s → (version : ℕ) → length p.directory.versions ≤ version → IsUnseen stands s version
    late g max stands p s some h version low = steps_are_unseen.drawn g max stands p s version some h low

    calls : (g : Shape) (max tries : ℕ) (stands : List ℕ) (p : Places) (s : Session) (who : Actor) (number : ℕ) (asked : Call) (shortages : List Shortage) →
        0 < stripe_length g → IsSeenAs g max stands p s → MayBegin p.directory who number → IsOfClient who (note_of asked) →
        act_of_state g tries (job_of asked) (wanting_steps g tries who number (job_of asked) shortages (record { call = first_state; places = p })).call ≡ Act.Finish Outcome.NoMemory →
        IsSeenAs g max stands (wanting_steps g tries who number (job_of asked) shortages (record { call = first_state; places = p })).places s
    calls g max tries stands p s who number asked shortages some h begin client over =
        let count : ℕ = length p.directory.versions in
        let fresh : (version : ℕ) → length p.directory.versions ≤ version → IsUnseen stands s version = late g max stands p s some h in
        ends_all g max tries stands s some (length p.directory.versions) fresh who number (job_of asked) (start_short g max tries stands s some (length p.directory.versions) fresh who number asked)
        (λ q seen. start_holds g max tries stands s some (length p.directory.versions) fresh who number q seen asked client) shortages p h (begin, omega arith) over

    rebuilds : (g : Shape) (max tries : ℕ) (stands : List ℕ) (p : Places) (s : Session) (who : Actor) (number : ℕ) (asked : RebuildCall) (shortages : List Shortage) →
        0 < stripe_length g → IsSeenAs g max stands p s → MayBegin p.directory who number → IsOfRepairer who (note_of_rebuild asked) →
        act_of_state g tries (rebuild_job asked) (wanting_steps g tries who number (rebuild_job asked) shortages (record { call = first_state; places = p })).call ≡ Act.Finish Outcome.NoMemory →
        IsSeenAs g max stands (wanting_steps g tries who number (rebuild_job asked) shortages (record { call = first_state; places = p })).places s
    rebuilds g max tries stands p s who number asked shortages some h begin repairer over =
        let fresh : (version : ℕ) → length p.directory.versions ≤ version → IsUnseen stands s version = late g max stands p s some h in
        ends_all g max tries stands s some (length p.directory.versions) fresh who number (rebuild_job asked) (λ pairs d. tt)
        (λ q seen. rebuild_holds g max tries stands s some (length p.directory.versions) fresh who number q seen asked repairer) shortages p h (begin, omega arith) over
