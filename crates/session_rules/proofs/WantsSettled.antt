-- A call that ends for want of memory leaves settled places settled: its pass is gone, and what it drew is superseded.
use Rattle.std.proofs.Common.{◌≡◌, ◌⊎◌, ℕ, zero, suc, ◌+◌, ◌-◌, ◌<◌, ◌≤◌, Bool, true, false, not, ◌&&◌, cond, List, [], ◌∷◌, ◌++◌, length, map, filter, find, slice_get, Option, None, Some, option_map, unwrap_or, All, refl, sym, ap, subst, ◌∙◌, inl, inr, arith, if◌then◌else◌, nat_lt, ◌/◌, append_assoc, length-append}
use Rattle.std.specs.Bool.{⊤}
use Rattle.std.specs.List.{AllByRecursion, range_with_len, list_any, list_all}
use Rattle.std.proofs.lemmas.Bool.{true≢false}
use Rattle.std.proofs.lemmas.List.{append-nil, length-map}
use Rattle.std.proofs.lemmas.List.Elements.{All-weaker}
use Rattle.clay_grid.specs.Shape.{Shape, chunk_count, stripe_length}
use Rattle.store_map.specs.declared.actor.Actor.{Actor}
use Rattle.store_map.specs.declared.call.Call.{Call}
use Rattle.store_map.specs.declared.call.Call.TheVariants as call
use Rattle.store_map.specs.declared.call.Rebuild.{Rebuild as RebuildCall}
use Rattle.store_map.specs.declared.placement.Placement.{Placement}
use Rattle.store_map.specs.declared.placement.Placement.TheVariants as placement
use Rattle.store_map.specs.declared.reply.Reply.{Reply}
use Rattle.store_core.specs.Lists.{change_at, is_among}
use Rattle.store_core.specs.Told.{Seen, Told}
use Rattle.store_core.specs.Note.{Note, note_of, note_of_rebuild, refusal}
use Rattle.store_core.specs.Act.{Act, DirectoryStep, ServerStep, Outcome}
use Rattle.store_core.specs.ActPlace.{is_in_pass}
use Rattle.store_core.specs.NextAct.{Job, job_of, rebuild_job}
use Rattle.store_core.specs.Conditions.{MayBegin, IsOfClient, IsOfRepairer}
use Rattle.store_core.specs.Directory.{Object, Standing, Version, Pass, Event, Directory}
use Rattle.store_core.specs.Lookups.{same_actor, find_object, pass_of, last_change, is_current}
use Rattle.store_core.specs.Look.{append_point, begin_pass, pin_of, seen_at, set_standing}
use Rattle.store_core.specs.Looks.{seen_of, look_by, look_repair_by}
use Rattle.store_core.specs.PassSteps.{draw, end_pass, confirm, new_version, touched, close_pass, give_up_drawn}
use Rattle.store_core.specs.Commit.{is_overtaken, commit, commit_object}
use Rattle.store_core.specs.AtDirectory.{at_directory, on_pass, unless_reaped}
use Rattle.store_core.specs.Gathering.{Part}
use Rattle.store_core.specs.Placements.{skipped_count, skipped_from}
use Rattle.store_core.specs.Read.{parts_of}
use Rattle.store_core.specs.Write.{old_parts}
use Rattle.store_core.specs.Server.{Server, at_server, hold, install}
use Rattle.store_core.specs.Step.{Shortage, Places, at_server_there}
use Rattle.run_laws.proofs.SoundLists.{at_all}
use Rattle.run_laws.specs.Stage.{Aim, Asking, Stage}
use Rattle.run_laws.specs.StageAfter.{stage_after, server_asked, step_asked}
use Rattle.run_laws.specs.Stages.{first_stage}
use Rattle.run_laws.specs.State.{Sequel, State, CallState, first_state}
use Rattle.run_laws.specs.States.{sequel_state, parts_state, stage_state, prepare_state, prepare_all_state, open_parts, open_state, open_call}
use Rattle.run_laws.specs.StateActs.{act_at, act_of_state}
use Rattle.run_laws.specs.GatherAfter.{ending_after, confirming_after, installing_after}
use Rattle.run_laws.specs.WriteAfter.{preparing_after, drawing_after}
use Rattle.run_laws.specs.CallAfter.{pairs_with}
use Rattle.run_laws.specs.LookAfter.{put_after_look, write_after_look, read_after_look, single_after_look, rebuild_after_look}
use Rattle.run_laws.specs.CallLaws.{next_call}
use Rattle.session_rules.specs.State.{State as Session}
use Rattle.session_rules.specs.Alone.{AtWork}
use Rattle.session_rules.specs.Seen.{version_of, snapshot_numbers, IsSeenAs, IsAtRest, IsOfSnapshot, IsQuiet}
use Rattle.session_rules.specs.Sweeps.{KeepsPinned}
use Rattle.session_rules.specs.Quiet.{IsKept, IsSettled, AreSwept}
use Rattle.session_rules.specs.Wants.{may_code, after_coding, wanting_by, wanting_step, wanting_steps, WantsAreSwept}
use Rattle.session_rules.proofs.Lists.{all_changed}
use Rattle.session_rules.proofs.Counting.{left_first}
use Rattle.session_rules.proofs.AtPlaces.{self, none_closed}
use Rattle.session_rules.proofs.Writes.{changed_seam}
use Rattle.session_rules.proofs.Quiet.{pins_it, all_garbage_is_swept}
use Rattle.session_rules.proofs.Kept.{KeptAt, all_snoc, all_hold, kept_left}
use Rattle.session_rules.proofs.Settled.{quiet_is_settled}
use Rattle.session_rules.proofs.Pairs.{every_weaker}
use Rattle.session_rules.proofs.WantsHeld.{fetch_held, has_held}
use Rattle.session_rules.proofs.Over.{HasPass, IsOverWith, committed_over, coded_over, over_stays, over_replied}
use Rattle.session_rules.proofs.Wants.{find_changed, same_points, wants_are_unseen}

-- ---- lists
abbrev superseded_now : Version → Version
superseded_now version = record version { standing = Standing.Superseded }

-- the versions at the end of a list are superseded
superseded_tail : (xs ys : List Version) → set_standing Standing.Superseded (range_with_len (length xs) (length ys)) (xs ++ ys) ≡ xs ++ map superseded_now ys
superseded_tail xs [] = refl
superseded_tail xs (y ∷ ys) = by (superseded_tail (xs ++ record y { standing = Standing.Superseded } ∷ []) ys)
  where
    by : set_standing Standing.Superseded (range_with_len (length (xs ++ record y { standing = Standing.Superseded } ∷ [])) (length ys)) ((xs ++ record y { standing = Standing.Superseded } ∷ []) ++ ys)
        ≡ (xs ++ record y { standing = Standing.Superseded } ∷ []) ++ map superseded_now ys →
        set_standing Standing.Superseded (range_with_len (length xs) (length (y ∷ ys))) (xs ++ y ∷ ys) ≡ xs ++ map superseded_now (y ∷ ys)
    by rest =
        let more : length (xs ++ record y { standing = Standing.Superseded } ∷ []) ≡ length xs + 1 = length-append xs (record y { standing = Standing.Superseded } ∷ []) in
        ap (set_standing Standing.Superseded (range_with_len (length xs + 1) (length ys))) (changed_seam (λ version. record version { standing = Standing.Superseded }) xs y ys)
        ∙ ap (λ n. set_standing Standing.Superseded (range_with_len n (length ys)) ((xs ++ record y { standing = Standing.Superseded } ∷ []) ++ ys)) (sym more)
        ∙ rest ∙ append_assoc xs (record y { standing = Standing.Superseded } ∷ []) (map superseded_now ys)

-- a version there is kept where all of them are superseded
kept_tail : (xs ys : List Version) (v : ℕ) → AllByRecursion (λ (x : Version). x.standing ≡ Standing.Superseded) ys → length xs ≤ v → v < length xs + length ys → KeptAt (xs ++ ys) v
kept_tail [] [] v all low high = absurd (omega (arith, high))
kept_tail [] (y ∷ ys) zero all low high = ap Rattle.session_rules.specs.Quiet.is_kept_standing all.0
kept_tail [] (y ∷ ys) (suc v) all low high = kept_tail [] ys v all.1 (omega arith) (omega (arith, high))
kept_tail (x ∷ xs) ys zero all low high = absurd (omega (arith, low))
kept_tail (x ∷ xs) ys (suc v) all low high = kept_tail xs ys v all (omega (arith, low)) (omega (arith, high))

-- all of two lists
all_joined : (P : Version → Type 0) (xs ys : List Version) → All P xs → AllByRecursion P ys → All P (xs ++ ys)
all_joined P xs [] all also = subst (All P) (sym (append-nil xs)) all
all_joined P xs (y ∷ ys) all also = subst (All P) (append_assoc xs (y ∷ []) ys) (all_joined P (xs ++ y ∷ []) ys (all_snoc P xs y all also.0) also.1)

-- what is kept of changed elements, where a change leaves what is kept
filter_changed : {X : Type 0} (keep : X → Bool) (f : X → X) → ((x : X) → keep x ≡ true → f x ≡ x) → ((x : X) → keep x ≡ false → keep (f x) ≡ false) → (xs : List X) → filter keep (map f xs) ≡ filter keep xs
filter_changed keep f stays goes [] = refl
filter_changed {X = X} keep f stays goes (x ∷ xs) = by (keep x) refl (filter_changed keep f stays goes xs)
  where
    by : (b : Bool) → keep x ≡ b → filter keep (map f xs) ≡ filter keep xs → filter keep (f x ∷ map f xs) ≡ cond b (x ∷ filter keep xs) (filter keep xs)
    by true e rest = ap (λ y. filter keep (y ∷ map f xs)) (stays x e) ∙ ap (λ b. cond b (x ∷ filter keep (map f xs)) (filter keep (map f xs))) e ∙ ap (λ l. x ∷ l) rest
    by false e rest = left_first keep (f x) (map f xs) (goes x e) ∙ rest

-- numbers of a row lie in it
row_in : (a n low high : ℕ) → low ≤ a → a + n ≤ high → AllByRecursion (λ v. (low ≤ v) × (v < high)) (range_with_len a n)
row_in a zero low high l m = tt
row_in a (suc n) low high l m = ((l, omega (arith, m)), row_in (a + 1) n low high (omega (arith, l)) (omega (arith, m)))

-- a call that looks for bytes leaves what a server holds
held_stays : (short : Bool) (aim : Aim) (g : Shape) (asking : Asking) (one : Server) → (at_server short (step_asked g aim asking) one).0.held ≡ one.held
held_stays short aim g (Asking.Fetch server more missing) one = fetch_held short one _ _
held_stays short aim g (Asking.Look server more missing) one = has_held short one _
held_stays short aim g (Asking.Repair server more lost) one = fetch_held short one _ _
held_stays short aim g (Asking.Whole server more wanted missing) one = fetch_held short one _ _
held_stays short aim g (Asking.Target server) one = has_held short one _

module _ (g : Shape) (tries : ℕ) (first : Places) (who : Actor) (number : ℕ) (begin : MayBegin first.directory who number) where
  abbrev keep : Pass → Bool
  keep other = not (same_actor who other.actor)

  -- a version that was drawn since, where so many were
  abbrev IsNew : List Version → ℕ → Type 0
  IsNew news v = (length first.directory.versions ≤ v) × (v < length first.directory.versions + length news)

  -- a version of which servers may hold chunks
  abbrev MayBeHeld : List Version → ℕ → Type 0
  MayBeHeld news v = KeptAt first.directory.versions v ⊎ IsNew news v

  abbrev HoldsSuch : List Version → Server → Type 0
  HoldsSuch news server = All (MayBeHeld news) server.held

  -- places that differ from the first ones in a pass of the actor's, in versions that it drew and in what servers hold of those
  record Tidy (q : Places) (news : List Version) : Type 0 where
    passes : filter keep q.directory.passes ≡ first.directory.passes
    versions : q.directory.versions ≡ first.directory.versions ++ news
    held : All (HoldsSuch news) q.servers

  -- its pass, which has drawn them
  record Own (d : Directory) : Type 0 where
    pass : Pass
    is_pass : pass_of who d ≡ Some pass
    actor : pass.actor ≡ who
    alive : pass.reaped ≡ None
    latest : is_overtaken pass.note.kind pass.base (last_change pass.note.name d.points) ≡ false
    drawn : pass.drawn ≡ range_with_len (length first.directory.versions) (length d.versions - length first.directory.versions)

  abbrev AreSuperseded : List Version → Type 0
  AreSuperseded news = AllByRecursion (λ (x : Version). x.standing ≡ Standing.Superseded) news

  known : (d : Directory) → Own d → HasPass who d
  known d own = record { pass = own.pass; is_pass = own.is_pass; alive = own.alive }

  -- the call has committed or has placed its chunk, or it was answered
  abbrev IsOver : State → Directory → Type 0
  IsOver at d = IsOverWith Own at d

  -- it has none, and they are superseded
  abbrev Closed : Directory → List Version → Type 0
  Closed d news = (pass_of who d ≡ None) × AreSuperseded news

  abbrev Follows : Sequel → Directory → List Version → Type 0
  Follows (Sequel.Serve point) d news = Own d
  Follows Sequel.Draw d news = Own d × (news ≡ [])
  Follows (Sequel.Confirm seen target) d news = Own d × (news ≡ [])

  abbrev Fits : State → Directory → List Version → Type 0
  Fits State.Start d news = (pass_of who d ≡ None) × (news ≡ [])
  Fits (State.Gather aim asking parts after) d news = Follows after d news
  Fits State.Drawing d news = Own d × (news ≡ [])
  Fits (State.Preparing stripe version server servers row later placed versions) d news = IsNew news version × AllByRecursion (IsNew news) later × Own d
  Fits (State.Committing versions placed) d news = Own d
  Fits (State.Confirming seen target) d news = Own d × (news ≡ [])
  Fits (State.Installing seen target) d news = Own d × (news ≡ [])
  Fits (State.Ending outcome) d news = Own d
  Fits (State.Finished outcome) d news = Closed d news
  Fits _ d news = ⊥

  abbrev Holds : AtWork → Type 0
  Holds w = ((news : List Version) × Tidy w.places news × Fits w.call.at w.places.directory news) ⊎ IsOver w.call.at w.places.directory

  own_of : (after : Sequel) (d : Directory) (news : List Version) → Follows after d news → Own d
  own_of (Sequel.Serve point) d news ok = ok
  own_of Sequel.Draw d news ok = ok.0
  own_of (Sequel.Confirm seen target) d news ok = ok.0

  closed_start : (d : Directory) (news : List Version) → (pass_of who d ≡ None) × (news ≡ []) → Closed d news
  closed_start d news ok = (ok.0, subst AreSuperseded (sym ok.1) tt)

  -- ---- states at their next question
  sequel_fits : (after : Sequel) (d : Directory) (news : List Version) → Follows after d news → Fits (sequel_state after) d news
  sequel_fits (Sequel.Serve point) d news ok = ok
  sequel_fits Sequel.Draw d news ok = ok
  sequel_fits (Sequel.Confirm seen target) d news ok = ok

  stage_fits : (bytes : State) (aim : Aim) (parts : List Part) (after : Sequel) (d : Directory) (news : List Version) → Fits bytes d news → Follows after d news → (stage : Stage) → Fits (stage_state bytes aim parts after stage) d news
  stage_fits bytes aim parts after d news has ok (Stage.Asks asking) = ok
  stage_fits bytes aim parts after d news has ok Stage.HasBytes = has
  stage_fits bytes aim parts after d news has ok (Stage.TooMany missing) = own_of after d news ok
  stage_fits bytes aim parts after d news has ok Stage.AtTarget = own_of after d news ok
  stage_fits bytes aim parts after d news has ok (Stage.TargetAway downs) = own_of after d news ok
  stage_fits bytes aim parts after d news has ok Stage.Short = own_of after d news ok

  open_fits : (parts : List Part) (after : Sequel) (d : Directory) (news : List Version) → Follows after d news → Fits (open_parts g parts after) d news
  open_fits [] after d news ok = sequel_fits after d news ok
  open_fits (part ∷ parts) after d news ok = stage_fits (open_parts g parts after) (Aim.Range part) parts after d news (open_fits parts after d news ok) ok (first_stage g (Aim.Range part))

  parts_fit : (parts : List Part) (after : Sequel) (d : Directory) (news : List Version) → Follows after d news → Fits (open_state g (parts_state parts after)) d news
  parts_fit [] (Sequel.Serve point) d news ok = ok
  parts_fit [] Sequel.Draw d news ok = ok
  parts_fit [] (Sequel.Confirm seen target) d news ok = ok
  parts_fit (part ∷ parts) after d news ok = open_fits (part ∷ parts) after d news ok

  gather_fits : (aim : Aim) (parts : List Part) (after : Sequel) (d : Directory) (news : List Version) → Follows after d news → (stage : Stage) → Fits (open_state g (stage_state (parts_state parts after) aim parts after stage)) d news
  gather_fits aim parts after d news ok (Stage.Asks asking) = ok
  gather_fits aim parts after d news ok Stage.HasBytes = parts_fit parts after d news ok
  gather_fits aim parts after d news ok (Stage.TooMany missing) = own_of after d news ok
  gather_fits aim parts after d news ok Stage.AtTarget = own_of after d news ok
  gather_fits aim parts after d news ok (Stage.TargetAway downs) = own_of after d news ok
  gather_fits aim parts after d news ok Stage.Short = own_of after d news ok

  prepare_fits : (versions : List ℕ) (stripe version : ℕ) (later : List ℕ) (placed : List (List Placement)) (next : List Placement → State) (d : Directory) (news : List Version) →
      IsNew news version → AllByRecursion (IsNew news) later → Own d → ((row : List Placement) → Fits (open_state g (next row)) d news) → (servers : List ℕ) (row : List Placement) →
      Fits (open_state g (prepare_state versions stripe version later placed next servers row)) d news
  prepare_fits versions stripe version later placed next d news new all on then_so [] row = then_so row
  prepare_fits versions stripe version later placed next d news new all on then_so (server ∷ servers) row = (new, all, on)

  prepare_all_fits : (versions later : List ℕ) (stripe : ℕ) (placed : List (List Placement)) (d : Directory) (news : List Version) → AllByRecursion (IsNew news) later → Own d →
      Fits (open_state g (prepare_all_state g versions stripe later placed)) d news
  prepare_all_fits versions [] stripe placed d news all on = on
  prepare_all_fits versions (version ∷ later) stripe placed d news all on =
      prepare_fits versions stripe version later placed (λ row. prepare_all_state g versions (stripe + 1) later (placed ++ row ∷ [])) d news all.0 all.1 on
      (λ row. prepare_all_fits versions later (stripe + 1) (placed ++ row ∷ []) d news all.1 on) (range_with_len 0 (chunk_count g)) []

  -- ---- the look
  abbrev looked : (Told → State) → List (ℕ × ℕ) → Places → Directory × Told → AtWork
  looked after pairs p r = record { call = open_call g (record { pairs = pairs_with pairs r.1; at = after r.1 }); places = record p { directory = r.0 } }

  nothing_drawn : (p : Places) (news : List Version) → Tidy p news → news ≡ [] → length p.directory.versions ≡ length first.directory.versions
  nothing_drawn p news t none = ap length (t.versions ∙ ap (λ news. first.directory.versions ++ news) none ∙ append-nil first.directory.versions)

  -- a pass begins in a directory with these passes and versions
  begun_tidy : (p : Places) (news : List Version) → Tidy p news → (n : Note) (seen : List Seen) (base : Option ℕ) (e : Directory) → e.passes ≡ p.directory.passes → e.versions ≡ p.directory.versions →
      Tidy (record p { directory = begin_pass who number n seen base e }) news
  begun_tidy p news t n seen base e passes versions = record {
    passes =
        left_first keep (record { actor = who; number = number; note = n; pinned = map pin_of seen; drawn = []; base = base; reaped = None }) e.passes (ap not (self who))
        ∙ ap (filter keep) passes ∙ t.passes;
    versions = versions ∙ t.versions;
    held = t.held;
  }

  begun_own : (p : Places) (news : List Version) → Tidy p news → news ≡ [] → (n : Note) (seen : List Seen) (base : Option ℕ) (e : Directory) → e.versions ≡ p.directory.versions →
      is_overtaken n.kind base (last_change n.name e.points) ≡ false → Own (begin_pass who number n seen base e)
  begun_own p news t none n seen base e versions latest = record {
    pass = record { actor = who; number = number; note = n; pinned = map pin_of seen; drawn = []; base = base; reaped = None };
    is_pass =
        ap (λ b. cond b (Some (let pass : Pass = record { actor = who; number = number; note = n; pinned = map pin_of seen; drawn = []; base = base; reaped = None } in pass)) (find (λ (other : Pass). same_actor who other.actor) e.passes)) (self who);
    actor = refl;
    alive = refl;
    latest = latest;
    drawn =
        let same : length e.versions ≡ length first.directory.versions = ap length versions ∙ nothing_drawn p news t none in
        let zero_more : length e.versions - length first.directory.versions ≡ 0 = omega (arith, same) in
        ap (range_with_len (length first.directory.versions)) (sym zero_more);
  }

  module _ (p : Places) (news : List Version) (t : Tidy p news) where
    abbrev d : Directory
    d = p.directory

    abbrev refused : Note → Option Reply
    refused n = refusal d.max n (option_map (λ (object : Object). object.length) (find_object n.name d.objects))

    -- the directory of a look that pins
    abbrev pinned_at : Note → Directory
    pinned_at n = append_point who number n Event.Pinned d

    start_holds : (c : Call) → IsOfClient who (note_of c) → (short : Bool) (pairs : List (ℕ × ℕ)) → (pass_of who d ≡ None) × (news ≡ []) →
        Holds (wanting_by g tries who number (job_of c) short (act_at g tries (job_of c) pairs State.Start) (record { call = record { pairs = pairs; at = State.Start }; places = p }))
    start_holds (call.Put name content) its true pairs ok = inl (news, t, closed_start d news ok)
    start_holds (call.Put name content) its false pairs ok = by (refused (note_of (call.Put name content)))
      where
        by : (r : Option Reply) → Holds (looked put_after_look pairs p (look_by who number (note_of (call.Put name content)) d (find_object name d.objects) r))
        by (Some answer) = inr tt
        by None = inl (news, begun_tidy p news t (note_of (call.Put name content)) [] None d refl refl, (begun_own p news t ok.1 (note_of (call.Put name content)) [] None d refl refl, ok.1))
    start_holds (call.Write name offset content) its short pairs ok = by_tries (nat_lt (length pairs) tries) short
      where
        by : (r : Option Reply) → Holds (looked (write_after_look g) pairs p (look_by who number (note_of (call.Write name offset content)) d (find_object name d.objects) r))
        by (Some answer) = inr tt
        by None =
            let object : Object = unwrap_or (find_object name d.objects) (record { name = name; length = 0; versions = [] }) in
            let seen : List Seen = seen_of who number (note_of (call.Write name offset content)) d object in
            inl (
              news,
              begun_tidy p news t (note_of (call.Write name offset content)) seen (last_change name d.points) d refl refl,
              parts_fit (old_parts g object.length seen) Sequel.Draw (begin_pass who number (note_of (call.Write name offset content)) seen (last_change name d.points) d) news
                  (begun_own p news t ok.1 (note_of (call.Write name offset content)) seen (last_change name d.points) d refl (ap not (same_points (last_change name d.points))), ok.1),
            )

        by_tries : (b : Bool) (short : Bool) →
            Holds (wanting_by g tries who number (job_of (call.Write name offset content)) short (if b then Act.AtDirectory (DirectoryStep.Look (note_of (call.Write name offset content))) else Act.Finish (Outcome.Contended pairs))
            (record { call = record { pairs = pairs; at = State.Start }; places = p }))
        by_tries false short = inl (news, t, ok)
        by_tries true true = inl (news, t, closed_start d news ok)
        by_tries true false = by (refused (note_of (call.Write name offset content)))
    start_holds (call.Get name) its true pairs ok = inl (news, t, closed_start d news ok)
    start_holds (call.Get name) its false pairs ok = by (refused (note_of (call.Get name)))
      where
        by : (r : Option Reply) → Holds (looked (read_after_look g (note_of (call.Get name))) pairs p (look_by who number (note_of (call.Get name)) d (find_object name d.objects) r))
        by (Some answer) = inr tt
        by None =
            let object : Object = unwrap_or (find_object name d.objects) (record { name = name; length = 0; versions = [] }) in
            let seen : List Seen = seen_of who number (note_of (call.Get name)) d object in
            inl (
              news,
              begun_tidy p news t (note_of (call.Get name)) seen None (pinned_at (note_of (call.Get name))) refl refl,
              parts_fit (parts_of g (note_of (call.Get name)) object.length seen) (Sequel.Serve (length d.points)) (begin_pass who number (note_of (call.Get name)) seen None (pinned_at (note_of (call.Get name)))) news
                  (begun_own p news t ok.1 (note_of (call.Get name)) seen None (pinned_at (note_of (call.Get name))) refl refl),
            )
    start_holds (call.ReadAt name offset n) its true pairs ok = inl (news, t, closed_start d news ok)
    start_holds (call.ReadAt name offset n) its false pairs ok = by (refused (note_of (call.ReadAt name offset n)))
      where
        by : (r : Option Reply) → Holds (looked (read_after_look g (note_of (call.ReadAt name offset n))) pairs p (look_by who number (note_of (call.ReadAt name offset n)) d (find_object name d.objects) r))
        by (Some answer) = inr tt
        by None =
            let object : Object = unwrap_or (find_object name d.objects) (record { name = name; length = 0; versions = [] }) in
            let seen : List Seen = seen_of who number (note_of (call.ReadAt name offset n)) d object in
            inl (
              news,
              begun_tidy p news t (note_of (call.ReadAt name offset n)) seen None (pinned_at (note_of (call.ReadAt name offset n))) refl refl,
              parts_fit (parts_of g (note_of (call.ReadAt name offset n)) object.length seen) (Sequel.Serve (length d.points)) (begin_pass who number (note_of (call.ReadAt name offset n)) seen None (pinned_at (note_of (call.ReadAt name offset n)))) news
                  (begun_own p news t ok.1 (note_of (call.ReadAt name offset n)) seen None (pinned_at (note_of (call.ReadAt name offset n))) refl refl),
            )
    start_holds (call.Stat name) its true pairs ok = inl (news, t, closed_start d news ok)
    start_holds (call.Stat name) its false pairs ok = by (refused (note_of (call.Stat name)))
      where
        by : (r : Option Reply) → Holds (looked single_after_look pairs p (look_by who number (note_of (call.Stat name)) d (find_object name d.objects) r))
        by (Some answer) = inr tt
        by None = inr tt
    start_holds (call.Delete name) its true pairs ok = inl (news, t, closed_start d news ok)
    start_holds (call.Delete name) its false pairs ok = by (refused (note_of (call.Delete name)))
      where
        by : (r : Option Reply) → Holds (looked single_after_look pairs p (look_by who number (note_of (call.Delete name)) d (find_object name d.objects) r))
        by (Some answer) = inr tt
        by None = inr tt

    -- a rebuild's look
    rebuild_holds : (c : RebuildCall) → IsOfRepairer who (note_of_rebuild c) → (short : Bool) (pairs : List (ℕ × ℕ)) → (pass_of who d ≡ None) × (news ≡ []) →
        Holds (wanting_by g tries who number (rebuild_job c) short (act_at g tries (rebuild_job c) pairs State.Start) (record { call = record { pairs = pairs; at = State.Start }; places = p }))
    rebuild_holds c its true pairs ok = inl (news, t, closed_start d news ok)
    rebuild_holds c its false pairs ok = by (find_object c.name d.objects)
      where
        pinned : (object : Object) (b : Bool) →
            Holds (looked (rebuild_after_look c.server) pairs p (if b then (begin_pass who number (note_of_rebuild c) (seen_at d object c.stripe ∷ []) None d, Told.PinnedStripe (seen_at d object c.stripe)) else (d, Told.NoSuch)))
        pinned object false = inl (news, t, closed_start d news ok)
        pinned object true =
            inl (
              news,
              begun_tidy p news t (note_of_rebuild c) (seen_at d object c.stripe ∷ []) None d refl refl,
              (begun_own p news t ok.1 (note_of_rebuild c) (seen_at d object c.stripe ∷ []) None d refl refl, ok.1),
            )

        by : (found : Option Object) → Holds (looked (rebuild_after_look c.server) pairs p (look_repair_by who number (note_of_rebuild c) d found))
        by None = inl (news, t, closed_start d news ok)
        by (Some object) = pinned object (nat_lt c.stripe (length object.versions))

    -- ---- a server whose holdings change to these
    server_tidy : (server : ℕ) (to : Server) → HoldsSuch news to → Tidy (record p { servers = change_at server (λ _. to) p.servers }) news
    server_tidy server to all = record {
      passes = t.passes;
      versions = t.versions;
      held = all_changed (HoldsSuch news) server (λ _. to) p.servers t.held (λ x there was. all);
    }

    held_at : (server : ℕ) (one : Server) → slice_get p.servers server ≡ Some one → HoldsSuch news one
    held_at server one e = at_all (HoldsSuch news) p.servers server one t.held e

    gather_holds : (job : Job) (short : Bool) (pairs : List (ℕ × ℕ)) (aim : Aim) (asking : Asking) (parts : List Part) (after : Sequel) → Follows after d news →
        Holds (wanting_by g tries who number job short (act_at g tries job pairs (State.Gather aim asking parts after)) (record { call = record { pairs = pairs; at = State.Gather aim asking parts after }; places = p }))
    gather_holds job short pairs aim asking parts after ok = by (slice_get p.servers (server_asked g aim asking)) refl
      where
        by : (found : Option Server) → slice_get p.servers (server_asked g aim asking) ≡ found →
            Holds (let r : Places × Told = at_server_there short (server_asked g aim asking) (step_asked g aim asking) p found in
            record { call = open_call g (record { pairs = pairs; at = stage_state (parts_state parts after) aim parts after (stage_after g aim asking r.1) }); places = r.0 })
        by None e = inl (news, t, gather_fits aim parts after d news ok (stage_after g aim asking Told.NotMade))
        by (Some one) e =
            let made : Server × Told = at_server short (step_asked g aim asking) one in
            inl (
              news,
              server_tidy (server_asked g aim asking) made.0 (subst (All (MayBeHeld news)) (sym (held_stays short aim g asking one)) (held_at (server_asked g aim asking) one e)),
              gather_fits aim parts after d news ok (stage_after g aim asking made.1),
            )

    -- ---- the draw
    -- the actor's own pass is changed, and others are not
    own_changes : (on : Own d) (change : Pass → Pass) → ((x : Pass) → (change x).actor ≡ x.actor) → filter keep (map (λ other. if same_actor on.pass.actor other.actor then change other else other) d.passes) ≡ filter keep d.passes
    own_changes on change same =
        filter_changed keep (λ other. if same_actor on.pass.actor other.actor then change other else other)
        (λ x kept. ap (λ actor. let pass : Pass = if same_actor actor x.actor then change x else x in pass) on.actor ∙ ap (λ b. let pass : Pass = if b then change x else x in pass) (unkept (same_actor who x.actor) kept))
        (λ x gone. by x (same_actor on.pass.actor x.actor) gone) d.passes
      where
        unkept : (b : Bool) → not b ≡ true → b ≡ false
        unkept true e = absurd (true≢false (sym e))
        unkept false e = refl

        by : (x : Pass) (b : Bool) → keep x ≡ false → keep (if b then change x else x) ≡ false
        by x true gone = ap (λ actor. not (same_actor who actor)) (same x) ∙ gone
        by x false gone = gone

    module _ (on : Own d) (none : news ≡ []) where
      abbrev stripes : List ℕ
      stripes = touched d on.pass.note

      abbrev drawn_here : List ℕ
      drawn_here = range_with_len (length d.versions) (length stripes)

      abbrev newer : List Version
      newer = map (new_version on.pass) stripes

      abbrev with_drawn : Pass → Pass
      with_drawn other = record other { drawn = drawn_here }

      abbrev changed : Pass → Pass
      changed other = if same_actor on.pass.actor other.actor then with_drawn other else other

      abbrev grown : Directory
      grown = record d { versions = d.versions ++ newer; passes = map changed d.passes }

      same_count : length d.versions ≡ length first.directory.versions
      same_count = nothing_drawn p news t none

      new_count : length newer ≡ length stripes
      new_count = length-map stripes (new_version on.pass)

      drawn_tidy : Tidy (record p { directory = grown }) newer
      drawn_tidy = record {
        passes = own_changes on with_drawn (λ x. refl) ∙ t.passes;
        versions = ap (λ versions. versions ++ newer) (t.versions ∙ ap (λ news. first.directory.versions ++ news) none ∙ append-nil first.directory.versions);
        held = All-weaker (HoldsSuch news) (HoldsSuch newer) (λ server all. All-weaker (MayBeHeld news) (MayBeHeld newer) widens server.held all) p.servers t.held;
      }
        where
          widens : (v : ℕ) → MayBeHeld news v → MayBeHeld newer v
          widens v (inl kept) = inl kept
          widens v (inr new) =
              let low : length first.directory.versions ≤ v = new.0 in
              let high : v < length first.directory.versions + length news = new.1 in
              let nothing : length news ≡ 0 = ap length none in
              absurd (omega (arith, low, high, nothing))

      drawn_own : Own grown
      drawn_own = record {
        pass = record (on.pass) { drawn = drawn_here };
        is_pass =
            find_changed (λ (other : Pass). same_actor who other.actor) changed actors d.passes ∙ ap (option_map changed) on.is_pass
            ∙ ap (λ b. Some (let pass : Pass = if b then with_drawn on.pass else on.pass in pass)) (self on.pass.actor);
        actor = on.actor;
        alive = on.alive;
        latest = on.latest;
        drawn =
            let a : length (d.versions ++ newer) ≡ length d.versions + length newer = length-append d.versions newer in
            let b : length newer ≡ length stripes = new_count in
            let c : length d.versions ≡ length first.directory.versions = same_count in
            let e : length stripes ≡ length (d.versions ++ newer) - length first.directory.versions = omega (arith, a, b, c) in
            ap (λ n. range_with_len n (length stripes)) c ∙ ap (range_with_len (length first.directory.versions)) e;
      }
        where
          actors : (x : Pass) → same_actor who (changed x).actor ≡ same_actor who x.actor
          actors x = by (same_actor on.pass.actor x.actor)
            where
              by : (b : Bool) → same_actor who (let pass : Pass = if b then with_drawn x else x in pass).actor ≡ same_actor who x.actor
              by true = refl
              by false = refl

      drawn_new : AllByRecursion (IsNew newer) drawn_here
      drawn_new =
          let b : length newer ≡ length stripes = new_count in
          let c : length d.versions ≡ length first.directory.versions = same_count in
          row_in (length d.versions) (length stripes) (length first.directory.versions) (length first.directory.versions + length newer) (omega (arith, c)) (omega (arith, b, c))

      draw_made : at_directory false who number DirectoryStep.Draw d ≡ (grown, Told.Versions drawn_here)
      draw_made = ap (λ f. on_pass draw f d) on.is_pass ∙ ap (λ reaped. unless_reaped draw on.pass reaped d) on.alive

      drawing_holds : (job : Job) (short : Bool) (pairs : List (ℕ × ℕ)) →
          Holds (wanting_by g tries who number job short (act_at g tries job pairs State.Drawing) (record { call = record { pairs = pairs; at = State.Drawing }; places = p }))
      drawing_holds job true pairs = inl (news, t, on)
      drawing_holds job false pairs =
          subst (λ (r : Directory × Told). Holds (record { call = open_call g (record { pairs = pairs; at = drawing_after g job.note r.1 }); places = record p { directory = r.0 } })) (sym draw_made)
          (inl (newer, drawn_tidy, prepare_all_fits drawn_here drawn_here (job.note.offset / stripe_length g) [] grown newer drawn_new drawn_own))

    -- ---- a chunk is prepared at a server
    preparing_holds : (job : Job) (short : Bool) (pairs : List (ℕ × ℕ)) (stripe version server : ℕ) (servers : List ℕ) (row : List Placement) (later : List ℕ) (placed : List (List Placement)) (versions : List ℕ) →
        IsNew news version × AllByRecursion (IsNew news) later × Own d →
        Holds (wanting_by g tries who number job short (act_at g tries job pairs (State.Preparing stripe version server servers row later placed versions))
        (record { call = record { pairs = pairs; at = State.Preparing stripe version server servers row later placed versions }; places = p }))
    preparing_holds job short pairs stripe version server servers row later placed versions ok = by (slice_get p.servers server) refl short
      where
        few : (b : Bool) (row : List Placement) →
            Fits (open_state g (if b then State.Ending (Outcome.Unavailable stripe (skipped_from 0 row)) else prepare_state versions stripe version later placed (λ whole. prepare_all_state g versions (stripe + 1) later (placed ++ whole ∷ [])) servers row)) d news
        few true row = ok.2
        few false row =
            prepare_fits versions stripe version later placed (λ whole. prepare_all_state g versions (stripe + 1) later (placed ++ whole ∷ [])) d news ok.0 ok.1 ok.2
            (λ whole. prepare_all_fits versions later (stripe + 1) (placed ++ whole ∷ []) d news ok.1 ok.2) servers row

        told : (placed_so : Placement) → Fits (open_state g (preparing_after g stripe version servers row later placed versions (Told.Prepared placed_so))) d news
        told placed_so = few (nat_lt g.parity_count (skipped_count (row ++ placed_so ∷ []))) (row ++ placed_so ∷ [])

        there : (one : Server) → slice_get p.servers server ≡ Some one → (away : Bool) →
            Holds (let r : Server × Told = if away then (one, Told.Prepared (placement.Skipped one.downs)) else (record one { held = hold version one.held }, Told.Prepared (placement.At one.epoch)) in
            record { call = open_call g (record { pairs = pairs; at = preparing_after g stripe version servers row later placed versions r.1 }); places = record p { servers = change_at server (λ _. r.0) p.servers } })
        there one e true = inl (news, server_tidy server one (held_at server one e), told (placement.Skipped one.downs))
        there one e false =
            inl (news, server_tidy server (record one { held = hold version one.held }) (all_hold (MayBeHeld news) version one.held (inr ok.0) (held_at server one e)), told (placement.At one.epoch))

        by : (found : Option Server) → slice_get p.servers server ≡ found → (short : Bool) →
            Holds (let r : Places × Told = at_server_there short server (ServerStep.Prepare version) p found in
            record { call = open_call g (record { pairs = pairs; at = preparing_after g stripe version servers row later placed versions r.1 }); places = r.0 })
        by None e short = inl (news, t, ok.2)
        by (Some one) e true = inl (news, server_tidy server one (held_at server one e), ok.2)
        by (Some one) e false = there one e one.away

    -- ---- the commit
    committing_holds : (job : Job) (short : Bool) (pairs : List (ℕ × ℕ)) (versions : List ℕ) (placed : List (List Placement)) → Own d →
        Holds (wanting_by g tries who number job short (act_at g tries job pairs (State.Committing versions placed)) (record { call = record { pairs = pairs; at = State.Committing versions placed }; places = p }))
    committing_holds job short pairs versions placed on = by short
      where
        is : on_pass (commit placed) (pass_of who d) d ≡ commit placed on.pass d
        is = ap (λ f. on_pass (commit placed) f d) on.is_pass ∙ ap (λ reaped. unless_reaped (commit placed) on.pass reaped d) on.alive

        done : (commit placed on.pass d).1 ≡ Told.Done (length d.points)
        done =
            ap (λ b. (let r : Directory × Told = if b then (close_pass on.pass (give_up_drawn on.pass d), Told.Changed (unwrap_or on.pass.base 0) (unwrap_or (last_change on.pass.note.name d.points) 0))
            else commit_object placed on.pass (unwrap_or (find_object on.pass.note.name d.objects) (record { name = on.pass.note.name; length = 0; versions = [] })) d in r).1) on.latest

        over : IsOver (next_call g job (record { pairs = pairs; at = State.Committing versions placed }) (on_pass (commit placed) (pass_of who d) d).1).at (on_pass (commit placed) (pass_of who d) d).0
        over =
            subst (λ told. IsOver (next_call g job (record { pairs = pairs; at = State.Committing versions placed }) told).at (on_pass (commit placed) (pass_of who d) d).0) (sym (ap (λ (r : Directory × Told). r.1) is ∙ done))
            (committed_over Own (length d.points) (Rattle.store_core.specs.Lists.places_of (chunk_count g) versions) (on_pass (commit placed) (pass_of who d) d).0)

        by : (short : Bool) → Holds (wanting_by g tries who number job short (act_at g tries job pairs (State.Committing versions placed)) (record { call = record { pairs = pairs; at = State.Committing versions placed }; places = p }))
        by true = inr over
        by false = inr over

    -- ---- the end of its pass
    module _ (on : Own d) where
      abbrev closed : Directory
      closed = (end_pass on.pass d).0

      left_passes : filter (λ (other : Pass). not (same_actor on.pass.actor other.actor)) d.passes ≡ first.directory.passes
      left_passes = ap (λ actor. filter (λ (other : Pass). not (same_actor actor other.actor)) d.passes) on.actor ∙ t.passes

      superseded : set_standing Standing.Superseded on.pass.drawn d.versions ≡ first.directory.versions ++ map superseded_now news
      superseded =
          let all : length (first.directory.versions ++ news) ≡ length first.directory.versions + length news = length-append first.directory.versions news in
          let more : length (first.directory.versions ++ news) - length first.directory.versions ≡ length news = omega (arith, all) in
          ap (λ drawn. set_standing Standing.Superseded drawn d.versions) on.drawn
          ∙ ap (λ (vs : List Version). set_standing Standing.Superseded (range_with_len (length first.directory.versions) (length vs - length first.directory.versions)) vs) t.versions
          ∙ ap (λ n. set_standing Standing.Superseded (range_with_len (length first.directory.versions) n) (first.directory.versions ++ news)) more
          ∙ superseded_tail first.directory.versions news

      closed_tidy : Tidy (record p { directory = closed }) (map superseded_now news)
      closed_tidy = record {
        passes = ap (filter keep) left_passes ∙ none_closed who first.directory.passes begin.no_pass;
        versions = superseded;
        held =
            subst (λ n. All (λ (server : Server). All (λ v. KeptAt first.directory.versions v ⊎ ((length first.directory.versions ≤ v) × (v < length first.directory.versions + n))) server.held) p.servers)
            (sym (length-map news superseded_now)) t.held;
      }

      all_superseded : (xs : List Version) → AreSuperseded (map superseded_now xs)
      all_superseded [] = tt
      all_superseded (x ∷ xs) = (refl, all_superseded xs)

      end_made : on_pass end_pass (pass_of who d) d ≡ (closed, Told.Ended)
      end_made = ap (λ f. on_pass end_pass f d) on.is_pass ∙ ap (λ reaped. unless_reaped end_pass on.pass reaped d) on.alive

      ending_holds : (job : Job) (short : Bool) (pairs : List (ℕ × ℕ)) (outcome : Outcome) →
          Holds (wanting_by g tries who number job short (act_at g tries job pairs (State.Ending outcome)) (record { call = record { pairs = pairs; at = State.Ending outcome }; places = p }))
      ending_holds job short pairs outcome = by short
        where
          after : Holds (record { call = open_call g (record { pairs = pairs; at = ending_after outcome (on_pass end_pass (pass_of who d) d).1 }); places = record p { directory = (on_pass end_pass (pass_of who d) d).0 } })
          after =
              subst (λ (r : Directory × Told). Holds (record { call = open_call g (record { pairs = pairs; at = ending_after outcome r.1 }); places = record p { directory = r.0 } })) (sym end_made)
              (inl (map superseded_now news, closed_tidy, (ap (find (λ (other : Pass). same_actor who other.actor)) left_passes ∙ begin.no_pass, all_superseded news)))

          by : (short : Bool) → Holds (wanting_by g tries who number job short (act_at g tries job pairs (State.Ending outcome)) (record { call = record { pairs = pairs; at = State.Ending outcome }; places = p }))
          by true = after
          by false = after

      -- a rebuild confirms its version
      confirming_holds : (news ≡ []) → (job : Job) (short : Bool) (pairs : List (ℕ × ℕ)) (seen : Seen) (target : ℕ) →
          Holds (wanting_by g tries who number job short (act_at g tries job pairs (State.Confirming seen target)) (record { call = record { pairs = pairs; at = State.Confirming seen target }; places = p }))
      confirming_holds none job short pairs seen target = by short
        where
          is : on_pass confirm (pass_of who d) d ≡ confirm on.pass d
          is = ap (λ f. on_pass confirm f d) on.is_pass ∙ ap (λ reaped. unless_reaped confirm on.pass reaped d) on.alive

          gone : Tidy (record p { directory = close_pass on.pass d }) news
          gone = record { passes = ap (filter keep) left_passes ∙ none_closed who first.directory.passes begin.no_pass; versions = t.versions; held = t.held }

          either : (b : Bool) →
              Holds (let r : Directory × Told = if b then (d, Told.Current) else (close_pass on.pass d, Told.Superseded (unwrap_or (last_change on.pass.note.name d.points) 0)) in
              record { call = open_call g (record { pairs = pairs; at = confirming_after seen target r.1 }); places = record p { directory = r.0 } })
          either true = inl (news, t, (on, none))
          either false = inl (news, gone, closed_start (close_pass on.pass d) news (ap (find (λ (other : Pass). same_actor who other.actor)) left_passes ∙ begin.no_pass, none))

          after : Holds (record { call = open_call g (record { pairs = pairs; at = confirming_after seen target (on_pass confirm (pass_of who d) d).1 }); places = record p { directory = (on_pass confirm (pass_of who d) d).0 } })
          after =
              subst (λ (r : Directory × Told). Holds (record { call = open_call g (record { pairs = pairs; at = confirming_after seen target r.1 }); places = record p { directory = r.0 } }))
              (sym is) (either (list_all (λ pin. is_current d pin.version) on.pass.pinned))

          by : (short : Bool) → Holds (wanting_by g tries who number job short (act_at g tries job pairs (State.Confirming seen target)) (record { call = record { pairs = pairs; at = State.Confirming seen target }; places = p }))
          by true = after
          by false = after

      -- it installs its chunk
      installing_holds : (job : Job) (short : Bool) (pairs : List (ℕ × ℕ)) (seen : Seen) (target : ℕ) →
          Holds (wanting_by g tries who number job short (act_at g tries job pairs (State.Installing seen target)) (record { call = record { pairs = pairs; at = State.Installing seen target }; places = p }))
      installing_holds job short pairs seen target = by (slice_get p.servers target) refl short
        where
          there : (one : Server) → slice_get p.servers target ≡ Some one → (away has : Bool) →
              Holds (let r : Server × Told = install away has seen.version one in record { call = open_call g (record { pairs = pairs; at = installing_after target r.1 }); places = record p { servers = change_at target (λ _. r.0) p.servers } })
          there one e true has = inl (news, server_tidy target one (held_at target one e), on)
          there one e false true = inl (news, server_tidy target one (held_at target one e), on)
          there one e false false = inr on

          by : (found : Option Server) → slice_get p.servers target ≡ found → (short : Bool) →
              Holds (let r : Places × Told = at_server_there short target (ServerStep.Install seen.version) p found in record { call = open_call g (record { pairs = pairs; at = installing_after target r.1 }); places = r.0 })
          by None e short = inl (news, t, on)
          by (Some one) e true = inl (news, server_tidy target one (held_at target one e), on)
          by (Some one) e false = there one e one.away (is_among seen.version one.held)

  start_short : (c : Call) (pairs : List (ℕ × ℕ)) (d : Directory) (news : List Version) → Closed d news → Fits (next_call g (job_of c) (record { pairs = pairs; at = State.Start }) Told.Short).at d news
  start_short (call.Put name content) pairs d news ok = ok
  start_short (call.Write name offset content) pairs d news ok = ok
  start_short (call.Get name) pairs d news ok = ok
  start_short (call.ReadAt name offset n) pairs d news ok = ok
  start_short (call.Stat name) pairs d news ok = ok
  start_short (call.Delete name) pairs d news ok = ok

  -- ---- of a job, by its look
  module _ (job : Job) (starts_short : (pairs : List (ℕ × ℕ)) (d : Directory) (news : List Version) → Closed d news → Fits (next_call g job (record { pairs = pairs; at = State.Start }) Told.Short).at d news)
      (starts : (p : Places) (news : List Version) → Tidy p news → (short : Bool) (pairs : List (ℕ × ℕ)) → (pass_of who p.directory ≡ None) × (news ≡ []) →
      Holds (wanting_by g tries who number job short (act_at g tries job pairs State.Start) (record { call = record { pairs = pairs; at = State.Start }; places = p }))) where
    step_holds : (p : Places) (news : List Version) (t : Tidy p news) (short : Bool) (pairs : List (ℕ × ℕ)) (at : State) → Fits at p.directory news →
        Holds (wanting_by g tries who number job short (act_at g tries job pairs at) (record { call = record { pairs = pairs; at = at }; places = p }))
    step_holds p news t short pairs State.Start ok = starts p news t short pairs ok
    step_holds p news t short pairs (State.Parts part parts after) ok = absurd ok
    step_holds p news t short pairs (State.Chunk seen target) ok = absurd ok
    step_holds p news t short pairs (State.Gather aim asking parts after) ok = gather_holds p news t job short pairs aim asking parts after ok
    step_holds p news t short pairs State.Drawing ok = drawing_holds p news t ok.0 ok.1 job short pairs
    step_holds p news t short pairs (State.Preparing stripe version server servers row later placed versions) ok = preparing_holds p news t job short pairs stripe version server servers row later placed versions ok
    step_holds p news t short pairs (State.Committing versions placed) ok = committing_holds p news t job short pairs versions placed ok
    step_holds p news t short pairs (State.Committed versions) ok = absurd ok
    step_holds p news t short pairs (State.Settling point place places) ok = absurd ok
    step_holds p news t short pairs (State.Confirming seen target) ok = confirming_holds p news t ok.0 ok.1 job short pairs seen target
    step_holds p news t short pairs (State.Installing seen target) ok = installing_holds p news t ok.0 job short pairs seen target
    step_holds p news t short pairs (State.Placing target epoch) ok = absurd ok
    step_holds p news t short pairs (State.Ending outcome) ok = ending_holds p news t ok job short pairs outcome
    step_holds p news t short pairs (State.Finished outcome) ok = inl (news, t, ok)

    short_fits : (pairs : List (ℕ × ℕ)) (at : State) (d : Directory) (news : List Version) → Fits at d news → Fits (next_call g job (record { pairs = pairs; at = at }) Told.Short).at d news
    short_fits pairs State.Start d news ok = starts_short pairs d news (closed_start d news ok)
    short_fits pairs (State.Parts part parts after) d news ok = absurd ok
    short_fits pairs (State.Chunk seen target) d news ok = absurd ok
    short_fits pairs (State.Gather aim asking parts after) d news ok = gather_fits aim parts after d news ok (stage_after g aim asking Told.Short)
    short_fits pairs State.Drawing d news ok = ok.0
    short_fits pairs (State.Preparing stripe version server servers row later placed versions) d news ok = ok.2
    short_fits pairs (State.Committing versions placed) d news ok = ok
    short_fits pairs (State.Committed versions) d news ok = absurd ok
    short_fits pairs (State.Settling point place places) d news ok = absurd ok
    short_fits pairs (State.Confirming seen target) d news ok = ok.0
    short_fits pairs (State.Installing seen target) d news ok = ok.0
    short_fits pairs (State.Placing target epoch) d news ok = absurd ok
    short_fits pairs (State.Ending outcome) d news ok = ok
    short_fits pairs (State.Finished outcome) d news ok = ok

    coded_fits : (wanting : Bool) (c : CallState) (d : Directory) (news : List Version) → Fits c.at d news → Fits (after_coding g tries who number job wanting c).at d news
    coded_fits wanting c d news ok = by (wanting && may_code c.at && is_in_pass (act_of_state g tries job c))
      where
        by : (b : Bool) → Fits (let after : CallState = if b then next_call g job c Told.Short else c in after).at d news
        by true = short_fits c.pairs c.at d news ok
        by false = ok

    one_step : (shortage : Shortage) (w : AtWork) → Holds w → Holds (wanting_step g tries who number job shortage w)
    one_step shortage w (inl (news, t, ok)) =
        let c : CallState = after_coding g tries who number job shortage.coding w.call in step_holds w.places news t shortage.step c.pairs c.at (coded_fits shortage.coding w.call w.places.directory news ok)
    one_step shortage w (inr over) =
        subst (λ (c : CallState). Holds (wanting_by g tries who number job shortage.step (act_of_state g tries job c) (record { call = c; places = w.places }))) (sym (coded_over g tries who number Own known job shortage.coding w.call.pairs w.call.at w.places.directory over))
        (inr (over_stays g tries who number Own known job shortage.step w.call.pairs w.call.at w.places over))

    all_steps : (shortages : List Shortage) (w : AtWork) → Holds w → Holds (wanting_steps g tries who number job shortages w)
    all_steps [] w ok = ok
    all_steps (shortage ∷ shortages) w ok = all_steps shortages (wanting_step g tries who number job shortage w) (one_step shortage w ok)

    -- ---- the end
    abbrev IsStep : Act → Type 0
    IsStep (Act.Finish outcome) = ⊥
    IsStep _ = ⊤

    closes : (d : Directory) (news : List Version) (pairs : List (ℕ × ℕ)) (at : State) → Fits at d news → act_at g tries job pairs at ≡ Act.Finish Outcome.NoMemory → Closed d news
    closes d news pairs State.Start ok e = closed_start d news ok
    closes d news pairs (State.Parts part parts after) ok e = absurd ok
    closes d news pairs (State.Chunk seen target) ok e = absurd ok
    closes d news pairs (State.Gather aim asking parts after) ok e = absurd (subst IsStep e tt)
    closes d news pairs State.Drawing ok e = absurd (subst IsStep e tt)
    closes d news pairs (State.Preparing stripe version server servers row later placed versions) ok e = absurd (subst IsStep e tt)
    closes d news pairs (State.Committing versions placed) ok e = absurd (subst IsStep e tt)
    closes d news pairs (State.Committed versions) ok e = absurd ok
    closes d news pairs (State.Settling point place places) ok e = absurd ok
    closes d news pairs (State.Confirming seen target) ok e = absurd (subst IsStep e tt)
    closes d news pairs (State.Installing seen target) ok e = absurd (subst IsStep e tt)
    closes d news pairs (State.Placing target epoch) ok e = absurd ok
    closes d news pairs (State.Ending outcome) ok e = absurd (subst IsStep e tt)
    closes d news pairs (State.Finished outcome) ok e = ok

    ends_closed : (w : AtWork) → Holds w → act_of_state g tries job w.call ≡ Act.Finish Outcome.NoMemory → (news : List Version) × Tidy w.places news × Closed w.places.directory news
    ends_closed w (inl (news, t, ok)) e = (news, t, closes w.places.directory news w.call.pairs w.call.at ok e)
    ends_closed w (inr over) e = absurd (over_replied g tries who number Own known job w.call.pairs w.call.at w.places.directory over e)

  -- ---- settled places
  module _ (stands : List ℕ) (s : Session) (q : Places) (news : List Version) (t : Tidy q news) (ended : Closed q.directory news) where
    passes_same : q.directory.passes ≡ first.directory.passes
    passes_same = sym (none_closed who q.directory.passes ended.0) ∙ t.passes

    kept_now : (v : ℕ) → MayBeHeld news v → IsKept q.directory v
    kept_now v (inl kept) = subst (λ versions. KeptAt versions v) (sym t.versions) (kept_left first.directory.versions news v kept)
    kept_now v (inr new) = subst (λ versions. KeptAt versions v) (sym t.versions) (kept_tail first.directory.versions news v ended.1 new.0 new.1)

    settled_then : IsSettled stands first s → IsSettled stands q s
    settled_then was = record {
      passes = subst (All (IsOfSnapshot (map (version_of stands) (snapshot_numbers s.snapshot)))) (sym passes_same) was.passes;
      held = All-weaker (HoldsSuch news) (λ (server : Server). All (IsKept q.directory) server.held) (λ server all. All-weaker (MayBeHeld news) (IsKept q.directory) kept_now server.held all) q.servers t.held;
      standing =
          subst (All IsAtRest) (sym t.versions)
          (all_joined IsAtRest first.directory.versions news was.standing (every_weaker (λ (x : Version). x.standing ≡ Standing.Superseded) IsAtRest (λ x e. inr (inl e)) news ended.1));
    }

    pinned_then : KeepsPinned stands first s → KeepsPinned stands q s
    pinned_then pinned n live = ap (list_any (pins_it (version_of stands n))) passes_same ∙ pinned n live

  begins_tidy : (stands : List ℕ) (s : Session) → IsSettled stands first s → Holds (record { call = first_state; places = first })
  begins_tidy stands s was =
      inl (
        [],
        record {
          passes = none_closed who first.directory.passes begin.no_pass;
          versions = sym (append-nil first.directory.versions);
          held =
              All-weaker (λ (server : Server). All (IsKept first.directory) server.held) (HoldsSuch [])
              (λ server all. All-weaker (IsKept first.directory) (MayBeHeld []) (λ v kept. inl kept) server.held all) first.servers was.held;
        },
        (begin.no_pass, refl),
      )

-- a call of which the places are seen as before, and of which all is closed
swept_then : (g : Shape) (max tries : ℕ) (stands : List ℕ) (p q : Places) (s : Session) (who : Actor) (number : ℕ) (begin : MayBegin p.directory who number) → 0 < stripe_length g → IsSeenAs g max stands p s →
    KeepsPinned stands p s → IsQuiet stands p s → IsSeenAs g max stands q s → (news : List Version) × Tidy g tries p who number begin q news × Closed g tries p who number begin q.directory news → AreSwept g max stands q s
swept_then g max tries stands p q s who number begin some h pinned quiet seen (news, t, closed) =
    all_garbage_is_swept g max stands q s some seen (pinned_then g tries p who number begin stands s q news t closed pinned)
    (settled_then g tries p who number begin stands s q news t closed (quiet_is_settled g max stands p s h pinned quiet))

pub wants_are_swept : WantsAreSwept
wants_are_swept = record { calls = calls; rebuilds = rebuilds }
  where
    calls : (g : Shape) (max tries : ℕ) (stands : List ℕ) (p : Places) (s : Session) (who : Actor) (number : ℕ) (asked : Call) (shortages : List Shortage) →
        0 < stripe_length g → IsSeenAs g max stands p s → KeepsPinned stands p s → IsQuiet stands p s → MayBegin p.directory who number → IsOfClient who (note_of asked) →
        act_of_state g tries (job_of asked) (wanting_steps g tries who number (job_of asked) shortages (record { call = first_state; places = p })).call ≡ Act.Finish Outcome.NoMemory →
        AreSwept g max stands (wanting_steps g tries who number (job_of asked) shortages (record { call = first_state; places = p })).places s
    calls g max tries stands p s who number asked shortages some h pinned quiet begin client over =
        let w : AtWork = wanting_steps g tries who number (job_of asked) shortages (record { call = first_state; places = p }) in
        swept_then g max tries stands p w.places s who number begin some h pinned quiet (wants_are_unseen.calls g max tries stands p s who number asked shortages some h begin client over)
        (ends_closed g tries p who number begin (job_of asked) (start_short g tries p who number begin asked) (λ q news t. start_holds g tries p who number begin q news t asked client) w
        (all_steps g tries p who number begin (job_of asked) (start_short g tries p who number begin asked) (λ q news t. start_holds g tries p who number begin q news t asked client) shortages
        (record { call = first_state; places = p }) (begins_tidy g tries p who number begin stands s (quiet_is_settled g max stands p s h pinned quiet))) over)

    rebuilds : (g : Shape) (max tries : ℕ) (stands : List ℕ) (p : Places) (s : Session) (who : Actor) (number : ℕ) (asked : RebuildCall) (shortages : List Shortage) →
        0 < stripe_length g → IsSeenAs g max stands p s → KeepsPinned stands p s → IsQuiet stands p s → MayBegin p.directory who number → IsOfRepairer who (note_of_rebuild asked) →
        act_of_state g tries (rebuild_job asked) (wanting_steps g tries who number (rebuild_job asked) shortages (record { call = first_state; places = p })).call ≡ Act.Finish Outcome.NoMemory →
        AreSwept g max stands (wanting_steps g tries who number (rebuild_job asked) shortages (record { call = first_state; places = p })).places s
    rebuilds g max tries stands p s who number asked shortages some h pinned quiet begin repairer over =
        let w : AtWork = wanting_steps g tries who number (rebuild_job asked) shortages (record { call = first_state; places = p }) in
        swept_then g max tries stands p w.places s who number begin some h pinned quiet (wants_are_unseen.rebuilds g max tries stands p s who number asked shortages some h begin repairer over)
        (ends_closed g tries p who number begin (rebuild_job asked) (λ pairs d news ok. ok) (λ q news t. rebuild_holds g tries p who number begin q news t asked repairer) w
        (all_steps g tries p who number begin (rebuild_job asked) (λ pairs d news ok. ok) (λ q news t. rebuild_holds g tries p who number begin q news t asked repairer) shortages
        (record { call = first_state; places = p }) (begins_tidy g tries p who number begin stands s (quiet_is_settled g max stands p s h pinned quiet))) over)
