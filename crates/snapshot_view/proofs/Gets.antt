-- The look of a get at an object that is there.
use Rattle.std.specs.Prelude.{⊤}
use Rattle.std.proofs.Common.{◌≡◌, ℕ, Bool, true, false, List, [], ◌∷◌, ◌++◌, length, map, Vec, All, Option, None, Some, option_map, Result, Ok, is_err, refl, sym, ap, subst, ◌∙◌, inr}
use Rattle.std.specs.declared.alloc.AllocError.{AllocError}
use Rattle.std.specs.declared.alloc.Global.{Global}
use Rattle.std.proofs.lemmas.Bool.{true≢false}
use Rattle.store_map.specs.declared.actor.Actor.{Actor}
use Rattle.store_map.specs.declared.actor.Actor.TheVariants as actor
use Rattle.store_map.specs.declared.actor.Point.{Point}
use Rattle.store_map.specs.declared.reply.Reply.{Reply}
use Rattle.store_core.specs.Note.{Note, Kind, refusal}
use Rattle.store_core.specs.Told.{Told, Seen}
use Rattle.store_core.specs.Act.{DirectoryStep}
use Rattle.store_core.specs.Conditions.{IsOfClient}
use Rattle.store_core.specs.Directory.{Object, Pass, Event, Directory}
use Rattle.store_core.specs.Lookups.{find_object}
use Rattle.store_core.specs.Look.{stripes_between, seen_at, pin_of, append_point, begin_pass}
use Rattle.store_core.specs.Looks.{look_by}
use Rattle.store_core.specs.AtDirectory.{at_directory}
use Rattle.store_core.specs.Agreement.{ActorToken}
use Rattle.store_core.specs.Tokens.{actor_of}
use Rattle.call_steps.specs.Callers.{IsClient}
use Rattle.call_steps.specs.TokenAfter.{token_after, MayMake}
use Rattle.call_steps.specs.declared.seen.Seen.{Seen as SeenStripe}
use Rattle.stripe_stamps.specs.Sealed.{Sealed}
use Rattle.stripe_dir.specs.Answers.{told_look, told_or_short}
use Rattle.stripe_stamps.specs.SeenStripes.{seen_in}
use Rattle.stripe_dir.specs.Shown.{IsShown}
use Rattle.stripe_dir.specs.declared.directory_answers.Look.{Look}
use Rattle.stripe_dir.specs.declared.directory_answers.Look.TheVariants as look
use Rattle.snapshot_view.specs.Snapshots.{KeptOf}
use Rattle.snapshot_view.specs.Tickets.{MayGet, IsInCall, pins_of, passes_in}
use Rattle.snapshot_view.specs.LookSteps.{get_of, look_one, no_look, IsSameButCalls, IsAsFound}

module _ (who : Actor) (number : ℕ) (name : List ℕ) (d : Directory) (object : Object) (found : find_object name d.objects ≡ Some object) where
  -- its stripes
  abbrev pub stripes_there : List Seen
  stripes_there = map (seen_at d object) (stripes_between d.shape 0 object.length)

  -- it goes on
  abbrev pub after_get : Directory
  after_get = begin_pass who number (get_of name) stripes_there None (append_point who number (get_of name) Event.Pinned d)

  pub get_goes_on : ◌≡◌ {A = Directory × Told} (at_directory false who number (DirectoryStep.Look (get_of name)) d) (after_get, Told.Pinned (length d.points) object.length stripes_there)
  get_goes_on = ap (λ (o : Option Object). look_by who number (get_of name) d o (refusal d.max (get_of name) (option_map (λ (x : Object). x.length) o))) found

-- a directory that differs in passes and points alone
pub same_but : (before after : Sealed) (d : Directory) → after.core ≡ d → after.book ≡ before.book → after.stamps ≡ before.stamps
    → d ≡ record (before.core) { passes = d.passes; points = d.points } → IsSameButCalls before after
same_but before after d core book stamps same =
    (λ i. record { core = (core ∙ same) i; book = book i; stamps = stamps i })
    ∙ (λ i. record before { core = record (before.core) { passes = (sym core i).passes; points = (sym core i).points } })

-- two one after the other
pub same_twice : (before now after : Sealed) → IsSameButCalls before now → IsSameButCalls now after → IsSameButCalls before after
same_twice before now after first second =
    second ∙ (λ i. record (first i) { core = record ((first i).core) { passes = after.core.passes; points = after.core.points } })

-- what was found later was so before
pub found_before : (before now : Sealed) (kept : KeptOf) → IsSameButCalls before now → IsAsFound now kept → IsAsFound before kept
found_before before now kept same h =
    let there : IsAsFound (record before { core = record (before.core) { passes = now.core.passes; points = now.core.points } }) kept = subst (λ s. IsAsFound s kept) same h in
    record { object = there.object; found = there.found; long = there.long; stripes = there.stripes; shown = λ k x less. let one = there.shown k x less in record { own = one.own; home = one.home; row = one.row } }

-- ---- what the look is answered
abbrev is_pin : Told → Bool
is_pin (Told.Pinned point long stripes) = true
is_pin told = false

abbrev told_long : Told → ℕ
told_long (Told.Pinned point long stripes) = long
told_long told = 0

abbrev told_stripes : Told → List Seen
told_stripes (Told.Pinned point long stripes) = stripes
told_stripes told = []

-- the ticket after it
pub get_called : (number : ℕ) (note : Note) (token : ActorToken) (point long : ℕ) (stripes : List Seen) → MayGet number token → IsInCall number (token_after token number (DirectoryStep.Look note) (Told.Pinned point long stripes))
get_called number note (ActorToken.Seated seat) point long stripes may = record { its_number = refl; undrawn = refl; live = refl }
get_called number note (ActorToken.InCall held) point long stripes may = absurd may

pub get_actor : (number : ℕ) (note : Note) (token : ActorToken) (point long : ℕ) (stripes : List Seen) → MayGet number token → actor_of (token_after token number (DirectoryStep.Look note) (Told.Pinned point long stripes)) ≡ actor_of token
get_actor number note (ActorToken.Seated seat) point long stripes may = refl
get_actor number note (ActorToken.InCall held) point long stripes may = absurd may

pub get_pins : (number : ℕ) (note : Note) (token : ActorToken) (point long : ℕ) (stripes : List Seen) → MayGet number token → pins_of (token_after token number (DirectoryStep.Look note) (Told.Pinned point long stripes)) ≡ map pin_of stripes
get_pins number note (ActorToken.Seated seat) point long stripes may = refl
get_pins number note (ActorToken.InCall held) point long stripes may = absurd may

-- and the pass that it holds
abbrev begun_pass : Actor → ℕ → Note → List Seen → Pass
begun_pass who number note seen = record { actor = who; number = number; note = note; pinned = map pin_of seen; drawn = []; base = None; reaped = None }

get_pass : (number : ℕ) (note : Note) (token : ActorToken) (point long : ℕ) (stripes : List Seen) → MayGet number token
    → passes_in (token_after token number (DirectoryStep.Look note) (Told.Pinned point long stripes) ∷ []) ≡ begun_pass (actor_of token) number note stripes ∷ []
get_pass number note (ActorToken.Seated seat) point long stripes may = refl
get_pass number note (ActorToken.InCall held) point long stripes may = absurd may

pub short_stays : (number : ℕ) (note : Note) (token : ActorToken) → MayGet number token → token_after token number (DirectoryStep.Look note) Told.Short ≡ token
short_stays number note (ActorToken.Seated seat) may = refl
short_stays number note (ActorToken.InCall held) may = absurd may

abbrev is_rebuild : Kind → Bool
is_rebuild Kind.Rebuild = true
is_rebuild kind = false

get_of_client : (name : List ℕ) (who : Actor) → IsClient who → IsOfClient who (get_of name)
get_of_client name (actor.Client i) client = inr (inr ((λ e. true≢false (sym (ap is_rebuild e))), refl))
get_of_client name who client = absurd client

pub may_look : (d : Directory) (number : ℕ) (name : List ℕ) (token : ActorToken) → MayGet number token → MayMake d token number (DirectoryStep.Look (get_of name))
may_look d number name (ActorToken.Seated seat) may = (may.0, get_of_client name seat.actor may.1)
may_look d number name (ActorToken.InCall held) may = absurd may

module _ (token : ActorToken) (number : ℕ) (name : List ℕ) (before after : Sealed) (result : Result (Look ⊤ ⊤) AllocError)
    (step : ◌≡◌ {A = Directory × Told} (after.core, told_or_short told_look result) (at_directory (is_err result) (actor_of token) number (DirectoryStep.Look (get_of name)) before.core)) where
  module _ (object : Object) (found : find_object name before.core.objects ≡ Some object) where
    abbrev there : List Seen
    there = stripes_there (actor_of token) number name before.core object found

    -- where memory wasn't wanting
    step_is : (answer : Look ⊤ ⊤) → result ≡ Ok answer → ◌≡◌ {A = Directory × Told} (after.core, told_look answer) (after_get (actor_of token) number name before.core object found, Told.Pinned (length before.core.points) object.length there)
    step_is answer e =
        subst (λ (r : Result (Look ⊤ ⊤) AllocError). ◌≡◌ {A = Directory × Told} (after.core, told_or_short told_look r) (at_directory (is_err r) (actor_of token) number (DirectoryStep.Look (get_of name)) before.core)) e step
        ∙ get_goes_on (actor_of token) number name before.core object found

    pub never_answered : (seat : ⊤) (point : Point) (reply : Reply) → result ≡ Ok (look.Answer seat point reply) → ⊥
    never_answered seat point reply e = true≢false (sym (ap (λ (r : Directory × Told). is_pin r.1) (step_is (look.Answer seat point reply) e)))

    pub never_ready : (pass : ⊤) (looked_at : Option Point) (long : ℕ) (stripes : Vec SeenStripe Global) → result ≡ Ok (look.Ready pass looked_at long stripes) → ⊥
    never_ready pass looked_at long stripes e = true≢false (sym (ap (λ (r : Directory × Told). is_pin r.1) (step_is (look.Ready pass looked_at long stripes) e)))

    module _ (pass : ⊤) (point : Point) (long : ℕ) (stripes : Vec SeenStripe Global) (is : result ≡ Ok (look.Pinned pass point long stripes)) where
      made : ◌≡◌ {A = Directory × Told} (after.core, Told.Pinned point.0 long (map seen_in stripes.items)) (after_get (actor_of token) number name before.core object found, Told.Pinned (length before.core.points) object.length there)
      made = step_is (look.Pinned pass point long stripes) is

      pub get_long : long ≡ object.length
      get_long = ap (λ (r : Directory × Told). told_long r.1) made

      pub get_stripes : map seen_in stripes.items ≡ there
      get_stripes = ap (λ (r : Directory × Told). told_stripes r.1) made

      pub get_same : after.book ≡ before.book → after.stamps ≡ before.stamps → IsSameButCalls before after
      get_same book stamps = same_but before after (after_get (actor_of token) number name before.core object found) (ap (λ (r : Directory × Told). r.0) made) book stamps refl

      pub get_begun : MayGet number token → after.core.passes ≡ passes_in (token_after token number (DirectoryStep.Look (get_of name)) (Told.Pinned point.0 long (map seen_in stripes.items)) ∷ []) ++ before.core.passes
      get_begun may =
          ap (λ (r : Directory × Told). r.0.passes) made
          ∙ ap (λ seen. begun_pass (actor_of token) number (get_of name) seen ∷ before.core.passes) (sym get_stripes)
          ∙ sym (ap (λ ps. ps ++ before.core.passes) (get_pass number (get_of name) token point.0 long (map seen_in stripes.items) may))

      pub get_found : All (IsShown before) stripes.items → IsAsFound before (record { name = name; size = long; stripes = stripes.items })
      get_found shown = record { object = object; found = found; long = get_long; stripes = get_stripes; shown = shown }

  -- the look in one piece
  pub get_look : (next : ActorToken) → next ≡ token_after token number (DirectoryStep.Look (get_of name)) (told_or_short told_look result) → is_err result ≡ false
      → record { directory = after.core; tokens = next ∷ [] } ≡ look_one number (no_look before.core) token name
  get_look next token_is ok =
      (λ i. record { directory = after.core; tokens = token_is i ∷ [] })
      ∙ ap (λ (r : Directory × Told). record { directory = r.0; tokens = token_after token number (DirectoryStep.Look (get_of name)) r.1 ∷ [] }) step
      ∙ ap (λ short. let r : Directory × Told = at_directory short (actor_of token) number (DirectoryStep.Look (get_of name)) before.core in
      record { directory = r.0; tokens = token_after token number (DirectoryStep.Look (get_of name)) r.1 ∷ [] }) ok

  -- where memory was wanting nothing changed
  pub get_short : (next : ActorToken) → next ≡ token_after token number (DirectoryStep.Look (get_of name)) (told_or_short told_look result) → is_err result ≡ true → MayGet number token
      → after.book ≡ before.book → after.stamps ≡ before.stamps → (after ≡ before) × (next ≡ token)
  get_short next token_is err may book stamps =
      let made : ◌≡◌ {A = Directory × Told} (after.core, told_or_short told_look result) (before.core, Told.Short) = step ∙ ap (λ short. at_directory short (actor_of token) number (DirectoryStep.Look (get_of name)) before.core) err in (
        (λ i. record { core = (made i).0; book = book i; stamps = stamps i }),
        token_is ∙ ap (λ (r : Directory × Told). token_after token number (DirectoryStep.Look (get_of name)) r.1) made ∙ short_stays number (get_of name) token may,
      )
