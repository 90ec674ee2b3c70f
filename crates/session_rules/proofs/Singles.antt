-- The laws on stats and deletes.
use Rattle.std.proofs.Common.{◌≡◌, ◌⊎◌, ℕ, ◌<◌, Bool, true, false, ◌||◌, cond, List, [], ◌∷◌, ◌++◌, length, map, get_or, Option, None, Some, option_map, subst₂, flat_map, All, refl, sym, ap, subst, ◌∙◌, inl, inr, if◌then◌else◌, bytes_eq}
use Rattle.std.proofs.lemmas.Option.{same_Some, none-some}
use Rattle.std.proofs.lemmas.List.{append-nil}
use Rattle.std.proofs.lemmas.List.Elements.{All-weaker}
use Rattle.std.proofs.lemmas.Bool.{or_cases, or_left, or_right}
use Rattle.clay_grid.specs.Shape.{Shape, stripe_length}
use Rattle.store_map.specs.PlainMap.{Objects, bytes_of, length_of, delete, delete_found}
use Rattle.store_map.proofs.MapLaws.{IsDistinct-delete}
use Rattle.store_map.specs.declared.actor.Actor.{Actor}
use Rattle.store_map.specs.declared.call.Call.{Call}
use Rattle.store_map.specs.declared.call.Call.TheVariants as call
use Rattle.store_map.specs.declared.reply.Reply.{Reply}
use Rattle.store_map.specs.declared.reply.Reply.TheVariants as reply
use Rattle.store_core.specs.Lists.{is_among}
use Rattle.store_core.specs.Told.{Told}
use Rattle.store_core.specs.Note.{note_of, refusal}
use Rattle.store_core.specs.Act.{Act, DirectoryStep, Outcome}
use Rattle.store_core.specs.NextAct.{job_of}
use Rattle.store_core.specs.Directory.{Object, Standing, Event, Directory}
use Rattle.store_core.specs.Lookups.{find_object}
use Rattle.store_core.specs.Look.{append_point, without_object, remove_object}
use Rattle.store_core.specs.Looks.{look, look_by}
use Rattle.store_core.specs.Conditions.{MayBegin, IsOfClient}
use Rattle.store_core.specs.Server.{Server}
use Rattle.store_core.specs.Step.{Places}
use Rattle.store_core.specs.Sound.{IsSound}
use Rattle.run_laws.proofs.SoundSteps.{steps_keep_sound}
use Rattle.run_laws.specs.State.{first_state}
use Rattle.run_laws.specs.States.{open_call}
use Rattle.run_laws.specs.StateActs.{act_of_state}
use Rattle.run_laws.specs.CallAfter.{pairs_with}
use Rattle.run_laws.specs.LookAfter.{single_after_look}
use Rattle.session_rules.specs.State.{State as Session}
use Rattle.session_rules.specs.declared.session_answer.Answer.{Answer}
use Rattle.session_rules.specs.Calls.{serve_call, serve_by, is_refusal}
use Rattle.session_rules.specs.Alone.{AtWork, step, EndsAs}
use Rattle.session_rules.specs.Seen.{version_of, live_numbers, all_numbers, snapshot_numbers, StandsFor, IsSeenAs}
use Rattle.session_rules.specs.Outcomes.{replied_at, outcome_at}
use Rattle.session_rules.specs.ServedLaws.{IsServedAs, IsDeletedAs, StatsAreServed, DeletesAreServed}
use Rattle.session_rules.specs.Quiet.{IsKept, IsSettled}
use Rattle.session_rules.proofs.Counting.{among_append}
use Rattle.session_rules.proofs.Kept.{kept_superseded, rest_superseded}
use Rattle.session_rules.proofs.Stays.{Same, kept_seen, kept_quiet, kept_pinned}
use Rattle.run_laws.proofs.SoundHistory.{same_name}
use Rattle.session_rules.proofs.Placed.{placed_kept}
use Rattle.session_rules.proofs.Names.{under, under_objects, under_map, is_some_by, is_none_by}

pub options : {X P : Type 0} (found : Option X) → (found ≡ None → P) → ((x : X) → found ≡ Some x → P) → P
options None none some = none refl
options (Some x) none some = some x refl

-- ---- names without one
abbrev less_under : {X : Type 0} → List ℕ → List (List ℕ × X) → List (List ℕ × X)
less_under name [] = []
less_under name (pair ∷ pairs) = if bytes_eq name pair.0 then pairs else pair ∷ less_under name pairs

removed_under : {X : Type 0} (f : Object → X) (name : List ℕ) (objects : List Object) →
    map (λ object. let pair : List ℕ × X = (object.name, f object) in pair) (remove_object name objects) ≡ less_under name (map (λ object. let pair : List ℕ × X = (object.name, f object) in pair) objects)
removed_under f name [] = refl
removed_under {X = X} f name (other ∷ objects) = by (bytes_eq name other.name) (removed_under f name objects)
  where
    by : (b : Bool) →
        map (λ object. let pair : List ℕ × X = (object.name, f object) in pair) (remove_object name objects) ≡ less_under name (map (λ object. let pair : List ℕ × X = (object.name, f object) in pair) objects) →
        map (λ object. let pair : List ℕ × X = (object.name, f object) in pair) (if b then objects else other ∷ remove_object name objects)
        ≡ (if b then map (λ object. let pair : List ℕ × X = (object.name, f object) in pair) objects else (other.name, f other) ∷ less_under name (map (λ object. let pair : List ℕ × X = (object.name, f object) in pair) objects))
    by true rest = refl
    by false rest = ap (λ pairs. let pair : List ℕ × X = (other.name, f other) in pair ∷ pairs) rest

deleted_under : {X : Type 0} (f : List ℕ → X) (name : List ℕ) (objects : Objects) →
    map (λ object. let pair : List ℕ × X = (object.0, f object.1) in pair) (delete name objects) ≡ less_under name (map (λ object. let pair : List ℕ × X = (object.0, f object.1) in pair) objects)
deleted_under f name [] = refl
deleted_under {X = X} f name (other ∷ objects) = by (bytes_eq name other.0) (deleted_under f name objects)
  where
    by : (b : Bool) →
        map (λ object. let pair : List ℕ × X = (object.0, f object.1) in pair) (delete name objects) ≡ less_under name (map (λ object. let pair : List ℕ × X = (object.0, f object.1) in pair) objects) →
        map (λ object. let pair : List ℕ × X = (object.0, f object.1) in pair) (if b then objects else other ∷ delete name objects)
        ≡ (if b then map (λ object. let pair : List ℕ × X = (object.0, f object.1) in pair) objects else (other.0, f other.1) ∷ less_under name (map (λ object. let pair : List ℕ × X = (object.0, f object.1) in pair) objects))
    by true rest = refl
    by false rest = ap (λ pairs. let pair : List ℕ × X = (other.0, f other.1) in pair ∷ pairs) rest

among_deleted : (n : ℕ) (name : List ℕ) (objects : Objects) → is_among n (flat_map (λ object. object.1) (delete name objects)) ≡ true → is_among n (flat_map (λ object. object.1) objects) ≡ true
among_deleted n name [] e = e
among_deleted n name (other ∷ objects) e = by (bytes_eq name other.0) e (among_deleted n name objects)
  where
    whole : is_among n (other.1 ++ flat_map (λ object. object.1) objects) ≡ (is_among n other.1 || is_among n (flat_map (λ object. object.1) objects))
    whole = among_append n other.1 (flat_map (λ (object : List ℕ × List ℕ). object.1) objects)

    either : (is_among n other.1 ≡ true) ⊎ (is_among n (flat_map (λ object. object.1) (delete name objects)) ≡ true) →
        (is_among n (flat_map (λ object. object.1) (delete name objects)) ≡ true → is_among n (flat_map (λ object. object.1) objects) ≡ true) → is_among n (other.1 ++ flat_map (λ object. object.1) objects) ≡ true
    either (inl t) rest = whole ∙ or_left (is_among n other.1) (is_among n (flat_map (λ object. object.1) objects)) t
    either (inr t) rest = whole ∙ or_right (is_among n other.1) (is_among n (flat_map (λ object. object.1) objects)) (rest t)

    by : (b : Bool) → is_among n (flat_map (λ (object : List ℕ × List ℕ). object.1) (if b then objects else other ∷ delete name objects)) ≡ true →
        (is_among n (flat_map (λ object. object.1) (delete name objects)) ≡ true → is_among n (flat_map (λ object. object.1) objects) ≡ true) → is_among n (other.1 ++ flat_map (λ object. object.1) objects) ≡ true
    by true e rest = whole ∙ or_right (is_among n other.1) (is_among n (flat_map (λ object. object.1) objects)) e
    by false e rest = either (or_cases (is_among n other.1) (is_among n (flat_map (λ object. object.1) (delete name objects))) (sym (among_append n other.1 (flat_map (λ (object : List ℕ × List ℕ). object.1) (delete name objects))) ∙ e)) rest

-- the object that is found has the name
pub found_name : (name : List ℕ) (objects : List Object) (object : Object) → find_object name objects ≡ Some object → object.name ≡ name
found_name name [] object e = absurd (none-some object e)
found_name name (other ∷ objects) object e = by (bytes_eq name other.name) refl e (found_name name objects object)
  where
    by : (b : Bool) → bytes_eq name other.name ≡ b → cond b (Some other) (find_object name objects) ≡ Some object → (find_object name objects ≡ Some object → object.name ≡ name) → object.name ≡ name
    by true is e rest = ap (λ (o : Object). o.name) (sym (same_Some other object e)) ∙ sym (same_name name other.name is)
    by false is e rest = rest e

module _ (tries : ℕ) (stands : List ℕ) (p : Places) (s : Session) (who : Actor) (number : ℕ) (name : List ℕ) (h : IsSeenAs p.directory.shape p.directory.max stands p s)
    (begin : MayBegin p.directory who number) (some : 0 < stripe_length p.directory.shape) where
  abbrev g : Shape
  g = p.directory.shape

  abbrev max_bytes : ℕ
  max_bytes = p.directory.max

  abbrev point : ℕ
  point = length p.directory.points

  pub lengths_under : option_map (λ (object : Object). object.length) (find_object name p.directory.objects) ≡ option_map length (bytes_of name s.objects)
  lengths_under = sym (under_objects (λ (object : Object). object.length) name p.directory.objects) ∙ ap (under name) h.lengths ∙ under_map length name s.objects

  as_it_was : record s { stripes = s.stripes ++ [] } ≡ s
  as_it_was = ap (λ stripes. record s { stripes = stripes }) (append-nil s.stripes)

  -- a call whose look is answered
  module _ (c : Call) (client : IsOfClient who (note_of c)) where
    abbrev pub after_look : Directory × Told → AtWork
    after_look r = record { call = open_call g (record { pairs = pairs_with [] r.1; at = single_after_look r.1 }); places = record p { directory = r.0 } }

    abbrev look_from : Option Object → Directory × Told
    look_from f = look_by who number (note_of c) p.directory f (refusal max_bytes (note_of c) (option_map (λ (object : Object). object.length) f))

    ended : (left : Directory) (answer : Reply) → step g tries who number (job_of c) (record { call = first_state; places = p }) ≡ after_look (look who number (note_of c) p.directory) →
        look who number (note_of c) p.directory ≡ (left, Told.Answer point answer) → replied_at point answer ≡ Outcome.Answered point answer →
        EndsAs g tries who number (job_of c) p (outcome_at point (Answer.Replied answer)) (record p { directory = left })
    ended left answer first_step look_is no_bytes =
        let comes : step g tries who number (job_of c) (record { call = first_state; places = p }) ≡ after_look (left, Told.Answer point answer) = first_step ∙ ap after_look look_is in
        record { made = 1; over = ap (λ (w : AtWork). act_of_state g tries (job_of c) w.call) comes ∙ ap (λ outcome. Act.Finish outcome) (sym no_bytes); leaves = ap (λ (w : AtWork). w.places) comes }

    looked_sound : IsSound (look who number (note_of c) p.directory).0
    looked_sound = steps_keep_sound.step false who number (DirectoryStep.Look (note_of c)) p.directory some h.sound (begin, client)

    -- one that leaves everything but a point
    pub stays : (answer : Reply) → step g tries who number (job_of c) (record { call = first_state; places = p }) ≡ after_look (look who number (note_of c) p.directory) →
        look who number (note_of c) p.directory ≡ (append_point who number (note_of c) (Event.Answer answer) p.directory, Told.Answer point answer) →
        replied_at point answer ≡ Outcome.Answered point answer → IsServedAs g max_bytes tries who number c stands p (s, Answer.Replied answer)
    stays answer first_step look_is no_bytes = record {
      after = record p { directory = append_point who number (note_of c) (Event.Answer answer) p.directory };
      ends = ended (append_point who number (note_of c) (Event.Answer answer) p.directory) answer first_step look_is no_bytes;
      seen = kept_seen stands p s (record p { directory = append_point who number (note_of c) (Event.Answer answer) p.directory }) same refl h;
      quiet = kept_quiet stands p s (record p { directory = append_point who number (note_of c) (Event.Answer answer) p.directory }) same refl;
      pinned = kept_pinned stands p s (record p { directory = append_point who number (note_of c) (Event.Answer answer) p.directory }) same;
    }
      where
        same : Same p.directory (append_point who number (note_of c) (Event.Answer answer) p.directory)
        same = record { shape = refl; most = refl; objects = refl; versions = refl; passes = refl; sound = subst (λ (r : Directory × Told). IsSound r.0) look_is looked_sound }

  stat_served : IsOfClient who (note_of (call.Stat name)) → IsServedAs g max_bytes tries who number (call.Stat name) stands p (serve_call g max_bytes (call.Stat name) s)
  stat_served client = options (find_object name p.directory.objects) missing there
    where
      missing : find_object name p.directory.objects ≡ None → IsServedAs g max_bytes tries who number (call.Stat name) stands p (serve_call g max_bytes (call.Stat name) s)
      missing e =
          let none : bytes_of name s.objects ≡ None = is_none_by length (bytes_of name s.objects) (sym lengths_under ∙ ap (option_map (λ (object : Object). object.length)) e) in
          subst (λ served. IsServedAs g max_bytes tries who number (call.Stat name) stands p served) (sym (ap (λ f. serve_by (is_refusal (length_of f)) g (call.Stat name) s (s.objects, length_of f)) none))
          (stays (call.Stat name) client reply.NoSuch refl (ap (look_from (call.Stat name) client) e) refl)

      there : (object : Object) → find_object name p.directory.objects ≡ Some object → IsServedAs g max_bytes tries who number (call.Stat name) stands p (serve_call g max_bytes (call.Stat name) s)
      there object e =
          let bytes : (bytes : List ℕ) × (bytes_of name s.objects ≡ Some bytes) × (length bytes ≡ object.length) =
          is_some_by length (bytes_of name s.objects) object.length (sym lengths_under ∙ ap (option_map (λ (object : Object). object.length)) e) in
          let serves : serve_call g max_bytes (call.Stat name) s ≡ (s, Answer.Replied (reply.Length object.length)) =
          ap (λ f. serve_by (is_refusal (length_of f)) g (call.Stat name) s (s.objects, length_of f)) bytes.1
          ∙ ap (λ n. let r : Session × Answer = (record s { stripes = s.stripes ++ [] }, Answer.Replied (reply.Length n)) in r) bytes.2
          ∙ ap (λ state. let r : Session × Answer = (state, Answer.Replied (reply.Length object.length)) in r) as_it_was in
          subst (λ served. IsServedAs g max_bytes tries who number (call.Stat name) stands p served) (sym serves)
          (stays (call.Stat name) client (reply.Length object.length) refl (ap (look_from (call.Stat name) client) e) refl)

  -- a delete's directory and state
  abbrev left : Object → Directory
  left object = append_point who number (note_of (call.Delete name)) (Event.Answer reply.Done) (without_object object p.directory)

  abbrev now : Session
  now = record s { objects = delete name s.objects; numbers = delete name s.numbers }

  live_before : (n : ℕ) → is_among n (live_numbers now) ≡ true → is_among n (live_numbers s) ≡ true
  live_before n e = by (or_cases (is_among n (all_numbers (delete name s.numbers))) (is_among n (snapshot_numbers s.snapshot)) (sym (among_append n (all_numbers (delete name s.numbers)) (snapshot_numbers s.snapshot)) ∙ e))
    where
      by : (is_among n (all_numbers (delete name s.numbers)) ≡ true) ⊎ (is_among n (snapshot_numbers s.snapshot) ≡ true) → is_among n (live_numbers s) ≡ true
      by (inl t) = among_append n (all_numbers s.numbers) (snapshot_numbers s.snapshot) ∙ or_left (is_among n (all_numbers s.numbers)) (is_among n (snapshot_numbers s.snapshot)) (among_deleted n name s.numbers t)
      by (inr t) = among_append n (all_numbers s.numbers) (snapshot_numbers s.snapshot) ∙ or_right (is_among n (all_numbers s.numbers)) (is_among n (snapshot_numbers s.snapshot)) t

  delete_seen : (object : Object) → object.name ≡ name → IsSound (left object) → IsSeenAs g max_bytes stands (record p { directory = left object }) now
  delete_seen object its sound = record {
    shape = refl;
    most = refl;
    sound = sound;
    servers = h.servers;
    present = h.present;
    epochs = h.epochs;
    lengths =
        ap (λ n. map (λ (object : Object). let pair : List ℕ × ℕ = (object.name, object.length) in pair) (remove_object n p.directory.objects)) its
        ∙ removed_under (λ (object : Object). object.length) name p.directory.objects ∙ ap (less_under name) h.lengths ∙ sym (deleted_under length name s.objects);
    versions =
        ap (λ n. map (λ (object : Object). let pair : List ℕ × List ℕ = (object.name, object.versions) in pair) (remove_object n p.directory.objects)) its
        ∙ removed_under (λ (object : Object). object.versions) name p.directory.objects ∙ ap (less_under name) h.versions ∙ sym (deleted_under (map (version_of stands)) name s.numbers);
    count = h.count;
    apart = λ n m live also e. h.apart n m (live_before n live) (live_before m also) e;
    timely = h.timely;
    names = IsDistinct-delete name s.numbers h.names;
    stripes = λ n live.
        let was : StandsFor p (get_or s.stripes n []) (version_of stands n) = h.stripes n (live_before n live) in
        record { placed = placed_kept Standing.Superseded object.versions p.directory.versions (version_of stands n) ∙ was.placed; held = was.held };
  }

  delete_settled : (object : Object) → IsSettled stands p s → IsSettled stands (record p { directory = left object }) now
  delete_settled object was = record {
    passes = was.passes;
    held =
        All-weaker (λ (server : Server). All (IsKept p.directory) server.held) (λ (server : Server). All (IsKept (left object)) server.held)
        (λ server all. All-weaker (IsKept p.directory) (IsKept (left object)) (λ v kept. kept_superseded object.versions p.directory.versions v kept) server.held all) p.servers was.held;
    standing = rest_superseded object.versions p.directory.versions was.standing;
  }

  delete_served : IsOfClient who (note_of (call.Delete name)) → IsDeletedAs g max_bytes tries who number (call.Delete name) stands p s (serve_call g max_bytes (call.Delete name) s)
  unfolding stays
  delete_served client = options (find_object name p.directory.objects) missing there
    where
      missing : find_object name p.directory.objects ≡ None → IsDeletedAs g max_bytes tries who number (call.Delete name) stands p s (serve_call g max_bytes (call.Delete name) s)
      missing e =
          let none : bytes_of name s.objects ≡ None = is_none_by length (bytes_of name s.objects) (sym lengths_under ∙ ap (option_map (λ (object : Object). object.length)) e) in
          let stayed : IsServedAs g max_bytes tries who number (call.Delete name) stands p (s, Answer.Replied reply.NoSuch) =
          stays (call.Delete name) client reply.NoSuch refl (ap (look_from (call.Delete name) client) e) refl in
          subst (λ served. IsDeletedAs g max_bytes tries who number (call.Delete name) stands p s served)
          (sym (ap (λ f. let r : Objects × Reply = delete_found name s.objects f in serve_by (is_refusal r.1) g (call.Delete name) s r) none))
          (record {
            after = record p { directory = append_point who number (note_of (call.Delete name)) (Event.Answer reply.NoSuch) p.directory };
            ends = stayed.ends;
            seen = stayed.seen;
            settled = λ was. record { passes = was.passes; held = was.held; standing = was.standing };
            pinned = λ was n live. was n live;
          })

      there : (object : Object) → find_object name p.directory.objects ≡ Some object → IsDeletedAs g max_bytes tries who number (call.Delete name) stands p s (serve_call g max_bytes (call.Delete name) s)
      there object e =
          let bytes : (bytes : List ℕ) × (bytes_of name s.objects ≡ Some bytes) × (length bytes ≡ object.length) =
          is_some_by length (bytes_of name s.objects) object.length (sym lengths_under ∙ ap (option_map (λ (object : Object). object.length)) e) in
          let look_is : look who number (note_of (call.Delete name)) p.directory ≡ (left object, Told.Answer point reply.Done) = ap (look_from (call.Delete name) client) e in
          let serves : serve_call g max_bytes (call.Delete name) s ≡ (now, Answer.Replied reply.Done) =
          ap (λ f. let r : Objects × Reply = delete_found name s.objects f in serve_by (is_refusal r.1) g (call.Delete name) s r) bytes.1
          ∙ ap (λ stripes. let r : Session × Answer = (record now { stripes = stripes }, Answer.Replied reply.Done) in r) (append-nil s.stripes) in
          subst (λ served. IsDeletedAs g max_bytes tries who number (call.Delete name) stands p s served) (sym serves)
          (record {
            after = record p { directory = left object };
            ends = ended (call.Delete name) client (left object) reply.Done refl look_is refl;
            seen = delete_seen object (found_name name p.directory.objects object e) (subst (λ (r : Directory × Told). IsSound r.0) look_is (looked_sound (call.Delete name) client));
            settled = delete_settled object;
            pinned = λ was n live. was n live;
          })

pub stats_are_served : StatsAreServed
stats_are_served g max tries stands p s who number name some h begin client = by h.shape h.most some h
  where
    by : {g : Shape} {max : ℕ} → p.directory.shape ≡ g → p.directory.max ≡ max → 0 < stripe_length g → IsSeenAs g max stands p s →
        IsServedAs g max tries who number (call.Stat name) stands p (serve_call g max (call.Stat name) s)
    by same most some h =
        subst₂ (λ g max. 0 < stripe_length g → IsSeenAs g max stands p s → IsServedAs g max tries who number (call.Stat name) stands p (serve_call g max (call.Stat name) s)) same most
        (λ some h. stat_served tries stands p s who number name h begin some client) some h

pub deletes_are_served : DeletesAreServed
deletes_are_served g max tries stands p s who number name some h begin client = by h.shape h.most some h
  where
    by : {g : Shape} {max : ℕ} → p.directory.shape ≡ g → p.directory.max ≡ max → 0 < stripe_length g → IsSeenAs g max stands p s →
        IsDeletedAs g max tries who number (call.Delete name) stands p s (serve_call g max (call.Delete name) s)
    by same most some h =
        subst₂ (λ g max. 0 < stripe_length g → IsSeenAs g max stands p s → IsDeletedAs g max tries who number (call.Delete name) stands p s (serve_call g max (call.Delete name) s)) same most
        (λ some h. delete_served tries stands p s who number name h begin some client) some h
