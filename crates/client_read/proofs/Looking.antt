-- The look of a call that reads.
use Rattle.std.specs.Prelude.{⊤}
use Rattle.std.proofs.Common.{◌≡◌, ◌≢◌, ℕ, Bool, true, false, List, [], map, Result, Ok, Err, IfOk, All, Option, option_map, refl, sym, ap, subst, ◌∙◌, inl, inr}
use Rattle.std.specs.declared.alloc.AllocError.{AllocError}
use Rattle.std.proofs.lemmas.Bool.{true≢false}
use Rattle.store_map.specs.declared.actor.Actor.{Actor}
use Rattle.store_map.specs.declared.actor.Actor.TheVariants as actor
use Rattle.store_map.specs.declared.call.Call.{Call}
use Rattle.store_map.specs.declared.call.Call.TheVariants as call
use Rattle.store_core.specs.Told.{Told, Seen}
use Rattle.store_core.specs.Note.{Note, Kind, note_of}
use Rattle.store_core.specs.NextAct.{job_of}
use Rattle.store_core.specs.Act.{Act, DirectoryStep}
use Rattle.store_core.specs.Conditions.{IsOfClient}
use Rattle.store_core.specs.Directory.{Directory}
use Rattle.store_core.specs.AtDirectory.{at_directory}
use Rattle.store_core.specs.Agreement.{ActorToken}
use Rattle.store_core.specs.Tokens.{actor_of}
use Rattle.run_laws.specs.AnswersByKind.{FitsKind}
use Rattle.run_laws.proofs.PlaceKinds.{places_answer_by_kind}
use Rattle.run_laws.specs.State.{State}
use Rattle.run_laws.specs.States.{open_state}
use Rattle.run_laws.specs.LookAfter.{start_after}
use Rattle.run_laws.specs.CallAfter.{pairs_with}
use Rattle.run_laws.specs.CallLaws.{next_call}
use Rattle.version_seal.specs.Entry.{BookOf, StampOf}
use Rattle.stripe_dir.specs.Answers.{told_or_short, told_look}
use Rattle.stripe_stamps.specs.SeenStripes.{seen_in}
use Rattle.stripe_stamps.specs.Sealed.{Sealed}
use Rattle.store_map.specs.declared.actor.Point.{Point}
use Rattle.call_steps.specs.TokenAfter.{token_after, MayMake}
use Rattle.call_steps.specs.CallOf.{CallOf, act_of, state_told, heard}
use Rattle.call_steps.specs.Steps.{at_directory_by, stepped_at_directory}
use Rattle.stripe_dir.specs.declared.directory_answers.Look.{Look}
use Rattle.stripe_dir.specs.declared.directory_answers.Look.TheVariants as look
use Rattle.stripe_dir.specs.Shown.{AreShown, stripes_seen}
use Rattle.stripe_stamps.specs.SeenStripes.{IsSeenIn}
use Rattle.gather_parts.specs.Gatherings.{GatheringsOf}
use Rattle.client_read.specs.Reads.{is_read}
use Rattle.call_steps.specs.Callers.{IsClient, IsWaiting}
use Rattle.client_read.specs.Stages.{IsLooked}
use Rattle.client_read.specs.Owed.{owed_after_look, owed_by, owed_after}
use Rattle.client_read.specs.Inside.{Keeps}
use Rattle.client_read.specs.declared.read_stage.ReadStage.{ReadStage}
use Rattle.client_read.proofs.Standings.{looks_first}

-- what a look tells
abbrev pub looked : Result (Look ⊤ ⊤) AllocError → Told
looked answer = told_or_short told_look answer

abbrev is_rebuild : Kind → Bool
is_rebuild Kind.Rebuild = true
is_rebuild kind = false

no_rebuild : (kind : Kind) → is_rebuild kind ≡ false → kind ≢ Kind.Rebuild
no_rebuild kind other e = true≢false (sym (ap is_rebuild e) ∙ other)

-- a client's call
pub of_client : (who : Actor) (read : Call) → is_read read ≡ true → IsClient who → IsOfClient who (note_of read)
of_client (actor.Client i) (call.Get name) is client = inr (inr (no_rebuild Kind.Get refl, refl))
of_client (actor.Client i) (call.ReadAt name offset count) is client = inr (inl refl)
of_client (actor.Client i) (call.Stat name) is client = inr (inr (no_rebuild Kind.Stat refl, refl))
of_client (actor.Client i) (call.Put name content) is client = absurd (true≢false (sym is))
of_client (actor.Client i) (call.Write name offset content) is client = absurd (true≢false (sym is))
of_client (actor.Client i) (call.Delete name) is client = absurd (true≢false (sym is))
of_client who read is client = absurd client

-- it may look
pub may_look : (d : Directory) (token : ActorToken) (number : ℕ) (read : Call) → is_read read ≡ true → IsClient (actor_of token) → IsWaiting number token
    → MayMake d token number (DirectoryStep.Look (note_of read))
may_look d (ActorToken.Seated seat) number read is client waits = (waits, of_client seat.actor read is client)
may_look d (ActorToken.InCall held) number read is client waits = absurd waits

-- its answer is one of its kind
pub look_fits : (short : Bool) (who : Actor) (number : ℕ) (note : Note) (d after : Directory) (told : Told)
    → (after, told) ≡ at_directory short who number (DirectoryStep.Look note) d → FitsKind note.kind told
look_fits short who number note d after told e =
    subst (λ (r : Directory × Told). FitsKind note.kind r.1) (sym e) (places_answer_by_kind.look short who number note d)

-- no call that reads is told that it is ready to write
never_ready : (read : Call) (base : Option ℕ) (length : ℕ) (stripes : List Seen) → is_read read ≡ true → FitsKind (note_of read).kind (Told.Ready base length stripes) → ⊥
never_ready (call.Get name) base length stripes is fits = fits
never_ready (call.ReadAt name offset count) base length stripes is fits = fits
never_ready (call.Stat name) base length stripes is fits = fits
never_ready (call.Put name content) base length stripes is fits = true≢false (sym is)
never_ready (call.Write name offset content) base length stripes is fits = true≢false (sym is)
never_ready (call.Delete name) base length stripes is fits = true≢false (sym is)

-- the ticket that a call has after its look
pub kept_looked : (answer : Result (Look ⊤ ⊤) AllocError) (next : ReadStage) (read : Call) (number : ℕ) (token : ActorToken) (p : GatheringsOf) → is_read read ≡ true
    → FitsKind (note_of read).kind (looked answer) → IsWaiting number token → IsLooked (looked answer) next
    → Keeps next number (note_of read) (token_after token number (DirectoryStep.Look (note_of read)) (looked answer)) p
kept_looked answer next read number (ActorToken.InCall held) p is fits waits goes = absurd waits
kept_looked (Ok (look.Answer gone point reply)) next read number (ActorToken.Seated seat) p is fits waits goes =
    subst (λ (s : ReadStage). Keeps s number (note_of read) (token_after (ActorToken.Seated seat) number (DirectoryStep.Look (note_of read)) (Told.Answer point.0 reply)) p) (sym goes) tt
kept_looked (Ok (look.Pinned gone point length stripes)) next read number (ActorToken.Seated seat) p is fits waits goes =
    subst (λ (s : ReadStage). Keeps s number (note_of read) (token_after (ActorToken.Seated seat) number (DirectoryStep.Look (note_of read)) (looked (Ok (look.Pinned gone point length stripes)))) p) (sym goes)
    (record { its = refl; its_number = refl })
kept_looked (Ok (look.Ready gone base length stripes)) next read number (ActorToken.Seated seat) p is fits waits goes = absurd (never_ready read (option_map (λ (point : Point). point.0) base) length (map seen_in stripes.items) is fits)
kept_looked (Err e) next read number (ActorToken.Seated seat) p is fits waits goes =
    subst (λ (s : ReadStage). Keeps s number (note_of read) (token_after (ActorToken.Seated seat) number (DirectoryStep.Look (note_of read)) Told.Short) p) (sym goes) tt

-- it is the same client's
pub client_looked : (answer : Result (Look ⊤ ⊤) AllocError) (number : ℕ) (note : Note) (token : ActorToken) → IsWaiting number token → IsClient (actor_of token)
    → IsClient (actor_of (token_after token number (DirectoryStep.Look note) (looked answer)))
client_looked answer number note (ActorToken.InCall held) waits client = absurd waits
client_looked (Ok (look.Answer gone point reply)) number note (ActorToken.Seated seat) waits client = client
client_looked (Ok (look.Pinned gone point length stripes)) number note (ActorToken.Seated seat) waits client = client
client_looked (Ok (look.Ready gone base length stripes)) number note (ActorToken.Seated seat) waits client = client
client_looked (Err e) number note (ActorToken.Seated seat) waits client = client

no_pairs : (answer : Result (Look ⊤ ⊤) AllocError) → [] ≡ pairs_with [] (looked answer)
no_pairs (Ok (look.Answer gone point reply)) = refl
no_pairs (Ok (look.Pinned gone point length stripes)) = refl
no_pairs (Ok (look.Ready gone base length stripes)) = refl
no_pairs (Err e) = refl

-- the call's step
module _ (c : CallOf) (read : Call) (is : is_read read ≡ true) (job : c.job ≡ job_of read) (state : c.state ≡ record { pairs = []; at = State.Start })
    (d after : Directory) (short : Bool) (answer : Result (Look ⊤ ⊤) AllocError)
    (e : (after, looked answer) ≡ at_directory short (actor_of c.token) c.number (DirectoryStep.Look (note_of read)) d) where
  first_act : act_of c ≡ Act.AtDirectory (DirectoryStep.Look (note_of read))
  first_act = (λ i. act_of (record c { job = job i; state = state i })) ∙ looks_first read c.tries is c.book.geometry

  pub look_step : (due : Bool) (token : ActorToken) (at : State) (book : BookOf) (tries : ℕ) (takes : List ℕ)
      → token ≡ token_after c.token c.number (DirectoryStep.Look (note_of read)) (looked answer)
      → at ≡ open_state c.book.geometry (start_after c.book.geometry (note_of read).kind (job_of read) (looked answer))
      → book ≡ c.book → tries ≡ c.tries → takes ≡ c.takes
      → (after, record c { book = book; tries = tries; token = token; state = record { pairs = []; at = at }; takes = takes; due = due; coding = false; step = short })
      ≡ stepped_at_directory short due c d
  look_step due token at book tries takes t s b n k =
      let step : DirectoryStep = DirectoryStep.Look (note_of read) in
      let told : Told = looked answer in
      let states : record { pairs = []; at = at } ≡ state_told c told =
      (λ i. record { pairs = no_pairs answer i; at = s i }) ∙ (λ i. next_call c.book.geometry (sym job i) (sym state i) told)
      in
      (λ i. (after, record c { book = b i; tries = n i; token = t i; state = states i; takes = k i; due = due; coding = false; step = short }))
      ∙ ap (λ (r : Directory × Told). (r.0, record (heard c (Act.AtDirectory step) r.1 short due) { token = token_after c.token c.number step r.1 })) e
      ∙ ap (λ act. at_directory_by act short due c d) (sym first_act)

  pub look_owed : (owed : List ℕ) (sealed : Sealed) → sealed.core ≡ d
      → owed_after_look c.book.geometry (note_of read) sealed.stamps (looked answer) owed ≡ owed_after short c sealed owed
  look_owed owed sealed same =
      let note : Note = note_of read in
      let from : List StampOf → Told → List ℕ = λ stamps told. owed_after_look c.book.geometry note stamps told owed in
      ap (λ (r : Directory × Told). from sealed.stamps r.1) e
      ∙ ap (λ (x : Directory). from sealed.stamps (at_directory short (actor_of c.token) c.number (DirectoryStep.Look note) x).1) (sym same)
      ∙ ap (λ act. owed_by act short c sealed owed) (sym first_act)

-- the stamps that a look shows are the directory's own
pub all_own : (s : Sealed) (answer : Result (Look ⊤ ⊤) AllocError) → AreShown s stripes_seen answer → IfOk answer (λ answer. All (IsSeenIn s.stamps) (stripes_seen answer))
all_own s (Ok answer) shown = λ k d below. (shown k d below).own
all_own s (Err e) shown = tt
