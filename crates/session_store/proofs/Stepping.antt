-- A call that runs alone makes a step more.
use Rattle.std.proofs.Common.{◌≡◌, ◌⊎◌, ℕ, ◌+◌, ◌-◌, ◌^◌, ◌<◌, ◌≤◌, Bool, true, false, ◌&&◌, if◌then◌else◌, List, [], ◌∷◌, ◌++◌, length, map, Vec, IfSome, refl, sym, ap, subst, ◌∙◌, inl, inr, arith}
use Rattle.std.specs.Global.{Global}
use Rattle.clay_grid.specs.Shape.{Shape}
use Rattle.store_map.specs.declared.actor.Actor.{Actor}
use Rattle.store_map.specs.declared.call.Call.{Call}
use Rattle.store_map.specs.declared.call.Call.TheVariants as call
use Rattle.store_core.specs.Act.{Act, DirectoryStep, ServerStep, Outcome}
use Rattle.store_core.specs.Agreement.{Seat, HeldPass, ActorToken, Agrees}
use Rattle.store_core.specs.AtDirectory.{at_directory}
use Rattle.store_core.specs.Calls.{Calls, IsOfCall}
use Rattle.store_core.specs.Conditions.{MayStep as MayStepThere}
use Rattle.store_core.specs.Directory.{Directory, new_directory}
use Rattle.store_core.specs.Lists.{change_at}
use Rattle.store_core.specs.Lookups.{same_actor}
use Rattle.store_core.specs.NextAct.{Job}
use Rattle.store_core.specs.Note.{Kind, Note, note_of}
use Rattle.store_core.specs.Server.{Server, at_server}
use Rattle.store_core.specs.Step.{Shortage, Places as CorePlaces}
use Rattle.store_core.specs.Told.{Seen, Told}
use Rattle.store_core.specs.Tokens.{actor_of, after_look, after_pass_step}
use Rattle.run_laws.proofs.OwnSteps.{agreement_goes_on, steps_may_be_made}
use Rattle.run_laws.proofs.Passes.{passes_move, passes_stay}
use Rattle.run_laws.proofs.Beside.{self_actor}
use Rattle.run_laws.proofs.ContentSteps.{steps_keep_bytes}
use Rattle.run_laws.proofs.MoreCalls.{steps_keep_drawn}
use Rattle.dir_parts.proofs.Entries.{slice_get-map, map-set}
use Rattle.run_laws.specs.State.{State, CallState}
use Rattle.run_laws.specs.StepLaws.{HasTarget}
use Rattle.run_laws.specs.Contents.{HasBytes}
use Rattle.run_laws.specs.MoreCalls.{AreDrawnBy}
use Rattle.run_laws.specs.StateActs.{start_act, act_at}
use Rattle.version_seal.specs.Entry.{BookOf}
use Rattle.chunk_server.specs.Core.{core_of}
use Rattle.chunk_server.specs.State.{ServerState}
use Rattle.stripe_stamps.specs.Sealed.{Sealed}
use Rattle.stripe_stamps.specs.Stamped.{HaveContents}
use Rattle.call_steps.specs.declared.need.Need.TheVariants as need
use Rattle.call_steps.specs.TokenAfter.{token_after, MayMake, IfInCall}
use Rattle.call_steps.specs.CallOf.{CallOf, act_of}
use Rattle.call_steps.specs.Steps.{need_of, coded as coded_call, at_directory_by, at_server_by, HoldsItsPass, IsDueInPass, MayMakeNext, IsUndueOncePlaced}
use Rattle.call_steps.proofs.Needs.{needs_tell_acts, ends_stay}
use Rattle.call_machine.specs.Calls.{MachineOf, KnowsOldOf}
use Rattle.call_machine.specs.Kinds.{Asked, asked_job, Machine, machine_of, IfRebuilds}
use Rattle.call_machine.specs.Owes.{OwesBy}
use Rattle.call_machine.specs.OwesLaws.{AreAmong, LookIsOwed}
use Rattle.call_machine.specs.Pinned.{pinned_at}
use Rattle.call_machine.proofs.Acts.{IsLater}
use Rattle.call_machine.proofs.Owing.{at_coder_owes, keeps_owing}
use Rattle.client_read.specs.Owed.{contents_of}
use Rattle.run_laws.specs.Answers.{Answers}
use Rattle.run_laws.specs.CallLeft.{pin_bound, call_left}
use Rattle.store_core.specs.Bounds.{touched_count}
use Rattle.store_core.specs.Read.{parts_of}
use Rattle.run_laws.specs.FitLaws.{Fits}
use Rattle.session_store.specs.AtWork.{IsOf, HasRun}
use Rattle.session_store.proofs.AloneRunning.{calls_run_alone}
use Rattle.session_store.specs.declared.places.SessionPlaces.{SessionPlaces}
use Rattle.session_store.specs.Places.{seen_in}
use Rattle.call_machine.proofs.Knowing.{first_calls_know}
use Rattle.session_store.specs.CallBytes.{IsKnownBy, KnowsBytes}
use Rattle.session_store.specs.Stepping.{IsCoded, MayStep, AtTheDirectory, AtAServer, HasStepped}
use Rattle.session_store.specs.Running.{MayRun, LookOwes, OthersAgree, RunsOn, IsLow, left_of}
use Rattle.run_laws.specs.PinLaws.{IsReading}
use Rattle.session_store.proofs.Lists.{got}
use Rattle.session_store.proofs.Taking.{took_from, taken_more, taken_here}
use Rattle.session_store.proofs.Running.{contents_kept}
use Rattle.session_store.proofs.Falling.{IsToldCoded, IsToldMore, coded_told, told_more, look_is, server_fits, directory_answers, is_over}
use Rattle.session_store.proofs.Later.{reads_later}
use Rattle.session_store.proofs.Looks.{looks_first, rebuilds_look_not, pins_ample, pins_of_reads}

-- no step changes the most bytes that an object may have
pub max_stays : (short : Bool) (who : Actor) (number : ℕ) (step : DirectoryStep) (d : Directory) → (at_directory short who number step d).0.max ≡ d.max
max_stays short who number step d = by step short
  where
    any : Note
    any = record { kind = Kind.Get; name = []; offset = 0; length = 0 }

    by : (step : DirectoryStep) (short : Bool) → (at_directory short who number step d).0.max ≡ d.max
    by (DirectoryStep.Look note) short = (passes_move short who number note (DirectoryStep.Look note) d (self_actor who) refl).max
    by (DirectoryStep.LookRepair note) short = (passes_move short who number note (DirectoryStep.LookRepair note) d (self_actor who) refl).max
    by DirectoryStep.Draw short = (passes_move short who number any DirectoryStep.Draw d (self_actor who) tt).max
    by (DirectoryStep.Commit placed) short = (passes_move short who number any (DirectoryStep.Commit placed) d (self_actor who) tt).max
    by DirectoryStep.End short = (passes_move short who number any DirectoryStep.End d (self_actor who) tt).max
    by DirectoryStep.Confirm short = (passes_move short who number any DirectoryStep.Confirm d (self_actor who) tt).max
    by (DirectoryStep.Repaired server epoch) short = (passes_move short who number any (DirectoryStep.Repaired server epoch) d (self_actor who) tt).max
    by DirectoryStep.NextGarbage true = (passes_stay who number DirectoryStep.NextGarbage d tt).max
    by DirectoryStep.NextGarbage false = (passes_stay who number DirectoryStep.NextGarbage d tt).max
    by (DirectoryStep.Swept version) true = refl
    by (DirectoryStep.Swept version) false = refl
    by (DirectoryStep.Reap other) true = (passes_stay who number (DirectoryStep.Reap other) d tt).max
    by (DirectoryStep.Reap other) false = (passes_stay who number (DirectoryStep.Reap other) d tt).max

-- ---- the coding
-- a client's call places no chunk
undue_by : (c : CallOf) → MayMakeNext c → HoldsItsPass c → (c.job.note.kind ≡ Kind.Rebuild → ⊥) → IsUndueOncePlaced c
undue_by c may holds other target epoch is = absurd (by c.token (may (DirectoryStep.Repaired target epoch) (new_directory c.book.geometry 0) acts refl) holds.its)
  where
    acts : act_of c ≡ Act.AtDirectory (DirectoryStep.Repaired target epoch)
    acts = ap (λ (at : State). act_at c.book.geometry c.tries c.job c.state.pairs at) is

    by : (token : ActorToken) → MayMake (new_directory c.book.geometry 0) token c.number (DirectoryStep.Repaired target epoch) → IfInCall token (λ held. (held.pass.note ≡ c.job.note) × (held.pass.number ≡ c.number)) → ⊥
    by (ActorToken.Seated seat) made its = made
    by (ActorToken.InCall held) made its = other (sym (ap (λ (n : Note). n.kind) its.0) ∙ made.1.0)

client_kind : (written : Call) → (note_of written).kind ≡ Kind.Rebuild → ⊥
client_kind (call.Put name content) e = absurd (cc (e))
client_kind (call.Write name offset content) e = absurd (cc (e))
client_kind (call.Get name) e = absurd (cc (e))
client_kind (call.ReadAt name offset count) e = absurd (cc (e))
client_kind (call.Stat name) e = absurd (cc (e))
client_kind (call.Delete name) e = absurd (cc (e))

undue : (c now : MachineOf) → IsCoded c now → c.call.job ≡ asked_job c.asked → (asked : Asked) → c.asked ≡ asked → IsUndueOncePlaced c.call
undue c now coded job (Asked.OfRepairer rebuild) is = subst (λ a. IfRebuilds (machine_of a) (IsUndueOncePlaced c.call)) is coded.undue
undue c now coded job (Asked.OfClient written) is =
    undue_by c.call coded.may coded.holds (λ kind. client_kind written (sym (ap (λ (j : Job). j.note.kind) job ∙ ap (λ a. (asked_job a).note.kind) is) ∙ kind))

module _ (g : Shape) (tries : ℕ) (who : Actor) (number : ℕ) (job : Job) (shortages : List Shortage) (before now : CorePlaces) where
  pub ready_runs : (c : CallOf) (coding due : Bool) → c.due ≡ due → IsDueInPass c → IsUndueOncePlaced c → HasRun g tries who number job shortages before c now
      → HasRun g tries who number job shortages before (if due then coded_call coding c else c) now
  ready_runs c coding true is in_pass undue run = (calls_run_alone.codings g tries who number job).run shortages before now c coding is in_pass undue run
  ready_runs c coding false is in_pass undue run = run

low_look : (number : ℕ) (seat : Seat) (note : Note) (answer : Told) → seat.unused ≤ number + 1 → IsLow number (after_look seat number note answer)
low_look number seat note (Told.Answer point reply) low = omega arith
low_look number seat note (Told.Pinned point length_now seen) low = refl
low_look number seat note (Told.Ready base length_now seen) low = refl
low_look number seat note (Told.PinnedStripe seen) low = refl
low_look number seat note answer low = low

low_pass : (number : ℕ) (held : HeldPass) (answer : Told) → held.pass.number ≡ number → IsLow number (after_pass_step held answer)
low_pass number held (Told.Versions versions) its = its
low_pass number held (Told.Done point) its = omega (arith, its)
low_pass number held (Told.Changed base newer) its = omega (arith, its)
low_pass number held Told.Ended its = omega (arith, its)
low_pass number held (Told.Superseded newer) its = omega (arith, its)
low_pass number held (Told.Reaped point) its = omega (arith, its)
low_pass number held answer its = its

-- no step uses a number past the call's
low_after : (number : ℕ) (token : ActorToken) (step : DirectoryStep) (answer : Told) → IsLow number token → IsLow number (token_after token number step answer)
low_after number (ActorToken.Seated seat) (DirectoryStep.Look note) answer low = low_look number seat note answer low
low_after number (ActorToken.Seated seat) (DirectoryStep.LookRepair note) answer low = low_look number seat note answer low
low_after number (ActorToken.Seated seat) DirectoryStep.Draw answer low = low
low_after number (ActorToken.Seated seat) (DirectoryStep.Commit placed) answer low = low
low_after number (ActorToken.Seated seat) DirectoryStep.End answer low = low
low_after number (ActorToken.Seated seat) DirectoryStep.Confirm answer low = low
low_after number (ActorToken.Seated seat) (DirectoryStep.Repaired server epoch) answer low = low
low_after number (ActorToken.Seated seat) DirectoryStep.NextGarbage answer low = low
low_after number (ActorToken.Seated seat) (DirectoryStep.Swept version) answer low = low
low_after number (ActorToken.Seated seat) (DirectoryStep.Reap actor) answer low = low
low_after number (ActorToken.InCall held) step answer low = low_pass number held answer low

-- who makes a call and its number tell whether it is known
known_again : (calls : Calls) (c after : MachineOf) (asked : Asked) → actor_of after.call.token ≡ actor_of c.call.token → after.call.number ≡ c.call.number → IsKnownBy calls c asked → IsKnownBy calls after asked
known_again calls c after (Asked.OfClient call) who number known = (λ i. calls (who i) (number i)) ∙ known
known_again calls c after (Asked.OfRepairer rebuild) who number known = tt

look_known : (calls : Calls) (c : MachineOf) (note : Note) → c.call.job ≡ asked_job c.asked → note ≡ c.call.job.note → (note.kind ≡ Kind.Rebuild → ⊥) → (asked : Asked) → c.asked ≡ asked → IsKnownBy calls c asked →
    IsOfCall calls (actor_of c.call.token) c.call.number (DirectoryStep.Look note)
look_known calls c note job same other (Asked.OfClient call) is known = (call, known, sym (same ∙ ap (λ (j : Job). j.note) job ∙ ap (λ a. (asked_job a).note) is))
look_known calls c note job same other (Asked.OfRepairer rebuild) is known = absurd (other (ap (λ (n : Note). n.kind) (same ∙ ap (λ (j : Job). j.note) job ∙ ap (λ a. (asked_job a).note) is)))

-- a step that an agreeing ticket may make
may_there : (d : Directory) (token : ActorToken) (number : ℕ) (step : DirectoryStep) → Agrees d token → MayMake d token number step → MayStepThere d (actor_of token) number step
may_there d (ActorToken.Seated seat) number step agrees may = steps_may_be_made.look seat number step d agrees may
may_there d (ActorToken.InCall held) number step agrees may = subst (λ n. MayStepThere d held.pass.actor n step) may.0 (steps_may_be_made.on_pass held step d agrees may.1)

module _ (first c prior after : MachineOf) (before p now : SessionPlaces) (made : ℕ) (r : RunsOn first before c p made) (first_job : first.call.job ≡ asked_job first.asked) (target : HasTarget before.book.geometry first.call.job)
    (coded : IsCoded c prior) (s : HasStepped prior p after now) (first_shape : first.call.book.geometry ≡ before.book.geometry) where
  abbrev g : Shape
  g = before.book.geometry

  abbrev max : ℕ
  max = before.directory.core.max

  abbrev tries : ℕ
  tries = first.call.tries

  abbrev who : Actor
  who = actor_of first.call.token

  abbrev number : ℕ
  number = first.call.number

  abbrev job : Job
  job = first.call.job

  job_of_c : c.call.job ≡ asked_job c.asked
  job_of_c = r.ran.run.its.its_job ∙ first_job ∙ ap asked_job (sym r.ran.asked)

  -- ---- after the coding
  prior_run : HasRun g tries who number job r.ran.shortages (seen_in before) prior.call (seen_in p)
  prior_run =
      subst (λ (x : CallOf). HasRun g tries who number job r.ran.shortages (seen_in before) x (seen_in p)) (sym coded.is_ready)
      (ready_runs g tries who number job r.ran.shortages (seen_in before) (seen_in p) c.call prior.call.coding c.call.due refl coded.in_pass (undue c prior coded job_of_c c.asked refl) r.ran.run)

  abbrev its : IsOf g tries who number job prior.call
  its = prior_run.its

  prior_told : IsToldCoded g max tries job target r.told prior.call
  prior_told =
      subst (IsToldCoded g max tries job target r.told) (sym coded.is_ready)
      (coded_told g max tries job target r.told c.call prior.call.coding (record { shape = r.ran.run.its.its_shape; tries_are = r.ran.run.its.its_tries; job_is = r.ran.run.its.its_job; state = r.state }) coded.in_pass)

  prior_asked : prior.asked ≡ first.asked
  prior_asked = coded.asked ∙ r.ran.asked

  prior_job : prior.call.job ≡ asked_job prior.asked
  prior_job = its.its_job ∙ first_job ∙ ap asked_job (sym prior_asked)

  token_by : (due : Bool) → (if due then coded_call prior.call.coding c.call else c.call).token ≡ c.call.token
  token_by true = refl
  token_by false = refl

  book_by : (due : Bool) → (if due then coded_call prior.call.coding c.call else c.call).book ≡ c.call.book
  book_by true = refl
  book_by false = refl

  takes_by : (due : Bool) → (if due then coded_call prior.call.coding c.call else c.call).takes ≡ c.call.takes
  takes_by true = refl
  takes_by false = refl

  prior_takes : prior.call.takes ≡ took_from g tries who number job (seen_in before) r.ran.shortages
  prior_takes = ap (λ (x : CallOf). x.takes) coded.is_ready ∙ takes_by c.call.due ∙ r.ran.takes

  prior_book : prior.call.book ≡ before.book
  prior_book = ap (λ (x : CallOf). x.book) coded.is_ready ∙ book_by c.call.due ∙ r.ran.book

  prior_bytes : (calls : Calls) → KnowsBytes calls first before → KnowsBytes calls prior p
  prior_bytes calls k =
      let kc : KnowsBytes calls c p = r.ran.bytes calls k in
      record {
        bytes = kc.bytes;
        drawn = kc.drawn;
        contents = kc.contents;
        known =
            subst (IsKnownBy calls prior) (sym coded.asked)
            (known_again calls c prior c.asked (its.its_actor ∙ sym r.ran.run.its.its_actor) (its.its_number ∙ sym r.ran.run.its.its_number) kc.known);
      }

  shape_there : p.directory.core.shape ≡ prior.call.book.geometry
  shape_there = sym s.stamped.code ∙ ap (λ (b : BookOf). b.geometry) (r.ran.same.places.book ∙ r.ran.same.book ∙ sym prior_book)

  prior_low : IsLow number prior.call.token
  prior_low = subst (IsLow number) (sym (ap (λ (x : CallOf). x.token) coded.is_ready ∙ token_by c.call.due)) r.ran.low

  -- it owes as before
  prior_owes : (owed : List (ℕ × List ℕ)) → LookOwes owed first before → OwesBy (AreAmong owed) prior
  prior_owes owed look = by c.call.due refl
    where
      by : (due : Bool) → c.call.due ≡ due → OwesBy (AreAmong owed) prior
      by true due =
          at_coder_owes (AreAmong owed) prior.call.coding c prior (r.ran.owes owed look) due coded.in_pass (coded.is_ready ∙ ap (λ (b : Bool). if b then coded_call prior.call.coding c.call else c.call) due) coded.asked
          (λ ample. coded.owed (ap (λ b. b && prior.call.coding) due ∙ ample))
      by false due =
          let same : prior.call ≡ c.call = coded.is_ready ∙ ap (λ (b : Bool). if b then coded_call prior.call.coding c.call else c.call) due in
          let owed_same : prior.owed ≡ c.owed = coded.owed (ap (λ b. b && prior.call.coding) due) in
          let o : OwesBy (AreAmong owed) c = r.ran.owes owed look in
          record {
            job = ap (λ (x : CallOf). x.job) same ∙ o.job ∙ ap asked_job (sym coded.asked);
            owes =
                subst (λ (x : CallOf). IfSome (pinned_at x.state.at) (λ place. (machine_of prior.asked ≡ Machine.Reads) × AreAmong owed place prior.owed)) (sym same)
                (subst (λ (a : Asked). IfSome (pinned_at c.call.state.at) (λ place. (machine_of a ≡ Machine.Reads) × AreAmong owed place prior.owed)) (sym coded.asked)
                (subst (λ (l : List ℕ). IfSome (pinned_at c.call.state.at) (λ place. (machine_of c.asked ≡ Machine.Reads) × AreAmong owed place l)) (sym owed_same) o.owes));
          }

  -- a call that reads and still has to look is where it was, after the coding too
  coded_start : IsReading job.note.kind → prior.call.state.at ≡ State.Start → p.directory ≡ before.directory
  coded_start reads start = by c.call.due prior.call.coding coded.is_ready
    where
      by : (due coding : Bool) → prior.call ≡ (if due then coded_call coding c.call else c.call) → p.directory ≡ before.directory
      by false coding is = r.looks reads (ap (λ (x : CallOf). x.state.at) (sym is) ∙ start)
      by true false is = r.looks reads (ap (λ (x : CallOf). x.state.at) (sym is) ∙ start)
      by true true is =
          absurd
          (subst IsLater (ap (λ (x : CallOf). x.state.at) (sym is) ∙ start)
          (reads_later c.call.book.geometry c.call.job.note.kind c.call.job c.call.state.pairs c.call.state.at (Act.Finish Outcome.NoMemory) Told.Short (subst (λ (j : Job). IsReading j.note.kind) (sym r.ran.run.its.its_job) reads) tt))

  fewer_left : (more : List Told) → call_left g max tries job more < call_left g max tries job prior_told.later → left_of max first more + (made + 1) ≤ left_of max first []
  fewer_left more fewer =
      let same : left_of max first more ≡ call_left g max tries job more = ap (λ (s : Shape). call_left s max tries job more) first_shape in
      let same_before : left_of max first r.told ≡ call_left g max tries job r.told = ap (λ (s : Shape). call_left s max tries job r.told) first_shape in
      let coded_fewer : call_left g max tries job prior_told.later ≤ call_left g max tries job r.told = prior_told.fewer in
      let so_far : left_of max first r.told + made ≤ left_of max first [] = r.left in
      let a : ℕ = call_left g max tries job more in
      let b : ℕ = call_left g max tries job prior_told.later in
      let d : ℕ = call_left g max tries job r.told in
      let whole : ℕ = left_of max first [] in
      let x : ℕ = left_of max first more in
      let y : ℕ = left_of max first r.told in
      omega (arith, same, same_before, coded_fewer, fewer, so_far)

  -- ---- at the directory
  module _ (t : AtTheDirectory prior p after now) (step : DirectoryStep) (acts : act_of prior.call ≡ Act.AtDirectory step) where
    abbrev short : Bool
    short = after.call.step

    abbrev answered : Directory × Told
    answered = at_directory short (actor_of prior.call.token) prior.call.number step p.directory.core

    leads : (now.directory.core, after.call) ≡ at_directory_by (Act.AtDirectory step) short after.call.due prior.call p.directory.core
    leads = subst (λ (act : Act). (now.directory.core, after.call) ≡ at_directory_by act short after.call.due prior.call p.directory.core) acts t.leads

    core_is : now.directory.core ≡ answered.0
    core_is = ap (λ (x : Directory × CallOf). x.0) leads

    may : MayStepThere p.directory.core (actor_of prior.call.token) prior.call.number step
    may = may_there p.directory.core prior.call.token prior.call.number step agrees_prior (coded_may step acts)
      where
        agrees_prior : Agrees p.directory.core prior.call.token
        agrees_prior = subst (Agrees p.directory.core) (sym (ap (λ (x : CallOf). x.token) coded.is_ready ∙ token_by c.call.due)) r.ran.agrees

        coded_may : (step : DirectoryStep) → act_of prior.call ≡ Act.AtDirectory step → MayMake p.directory.core prior.call.token prior.call.number step
        coded_may step acts = s.may step p.directory.core acts shape_there

    run_there : HasRun g tries who number job (r.ran.shortages ++ record { coding = prior.call.coding; step = short } ∷ []) (seen_in before) after.call (seen_in now)
    run_there =
        subst (λ (v : Vec ServerState Global). HasRun g tries who number job (r.ran.shortages ++ record { coding = prior.call.coding; step = short } ∷ []) (seen_in before) after.call (record { directory = now.directory.core; servers = map core_of v.items }))
        (sym t.servers)
        (((calls_run_alone.steps g tries who number job).directory (seen_in before) (seen_in p) prior.call after.call now.directory.core t.needs t.leads).run r.ran.shortages prior_run)

    others_there : OthersAgree first before.directory.core now.directory.core
    others_there token apart agrees =
        subst (λ d. Agrees d token) (sym core_is)
        (agreement_goes_on.others short (actor_of prior.call.token) prior.call.number step p.directory.core token (ap (λ a. same_actor a (actor_of token)) its.its_actor ∙ apart) (r.ran.others token apart agrees))

    -- a look is of the call
    its_call : (calls : Calls) → KnowsBytes calls prior p → (step : DirectoryStep) → act_of prior.call ≡ Act.AtDirectory step → IsOfCall calls (actor_of prior.call.token) prior.call.number step
    its_call calls k (DirectoryStep.Look note) acts =
        let note_is : note ≡ job.note = look_is g max tries job target prior_told.later prior.call prior_told.is note acts in
        look_known calls prior note prior_job (note_is ∙ ap (λ (j : Job). j.note) (sym its.its_job))
        (λ kind. rebuilds_look_not g tries job prior.call.state.pairs note (sym (ap (λ (n : Note). n.kind) note_is) ∙ kind) (looks_here note acts)) prior.asked refl k.known
      where
        looks_here : (note : Note) → act_of prior.call ≡ Act.AtDirectory (DirectoryStep.Look note) → start_act job.note.kind tries job prior.call.state.pairs ≡ Act.AtDirectory (DirectoryStep.Look note)
        looks_here note acts =
            let at_start : prior.call.state.at ≡ State.Start = looks_first prior.call.book.geometry prior.call.tries prior.call.job prior.call.state.pairs prior.call.state.at note acts in
            (λ i. start_act (sym its.its_job i).note.kind (sym its.its_tries i) (sym its.its_job i) prior.call.state.pairs)
            ∙ ap (act_at prior.call.book.geometry prior.call.tries prior.call.job prior.call.state.pairs) (sym at_start) ∙ acts
    its_call calls k (DirectoryStep.LookRepair note) acts = tt
    its_call calls k DirectoryStep.Draw acts = tt
    its_call calls k (DirectoryStep.Commit placed) acts = tt
    its_call calls k DirectoryStep.End acts = tt
    its_call calls k DirectoryStep.Confirm acts = tt
    its_call calls k (DirectoryStep.Repaired server epoch) acts = tt
    its_call calls k DirectoryStep.NextGarbage acts = tt
    its_call calls k (DirectoryStep.Swept version) acts = tt
    its_call calls k (DirectoryStep.Reap actor) acts = tt

    bytes_there : (calls : Calls) → KnowsBytes calls first before → KnowsBytes calls after now
    bytes_there calls k =
        let kp : KnowsBytes calls prior p = prior_bytes calls k in
        record {
          bytes = subst (HasBytes calls) (sym core_is) ((steps_keep_bytes calls).step short (actor_of prior.call.token) prior.call.number step p.directory.core s.wide s.whole.sound kp.bytes may (its_call calls kp step acts));
          drawn = subst (AreDrawnBy calls) (sym core_is) ((steps_keep_drawn calls).step short (actor_of prior.call.token) prior.call.number step p.directory.core kp.bytes kp.drawn may);
          contents =
              contents_kept calls prior p.directory now.directory s.wide s.whole s.stamped (ap (λ (b : BookOf). b.script) r.ran.same.places.book ∙ r.ran.same.places.free) kp.contents short prior_job s.holds
              (subst (Agrees p.directory.core) (sym (ap (λ (x : CallOf). x.token) coded.is_ready ∙ token_by c.call.due)) r.ran.agrees)
              (s.same.places.book ∙ s.same.book ∙ sym r.ran.same.places.book) t.stamps kp.known s.may shape_there step acts core_is;
          known = subst (IsKnownBy calls after) (sym s.asked) (known_again calls prior after prior.asked (run_there.its.its_actor ∙ sym its.its_actor) (run_there.its.its_number ∙ sym its.its_number) kp.known);
        }

    -- what its look owes is owed
    looked : (owed : List (ℕ × List ℕ)) → LookOwes owed first before → LookIsOwed (AreAmong owed) short prior p.directory
    looked owed look place length_now seen looks told = owes_here place length_now seen (subst (λ b. (at_directory b (actor_of prior.call.token) prior.call.number (DirectoryStep.Look prior.call.job.note) p.directory.core).1 ≡ Told.Pinned place length_now seen) ample told)
      where
        at_start : prior.call.state.at ≡ State.Start
        at_start = looks_first prior.call.book.geometry prior.call.tries prior.call.job prior.call.state.pairs prior.call.state.at prior.call.job.note looks

        starts : start_act prior.call.job.note.kind prior.call.tries prior.call.job prior.call.state.pairs ≡ Act.AtDirectory (DirectoryStep.Look prior.call.job.note)
        starts = ap (act_at prior.call.book.geometry prior.call.tries prior.call.job prior.call.state.pairs) (sym at_start) ∙ looks

        ample : short ≡ false
        ample = pins_ample short (actor_of prior.call.token) prior.call.number prior.call.job.note p.directory.core place length_now seen told

        reads : IsReading prior.call.job.note.kind
        reads =
            pins_of_reads short (actor_of prior.call.token) prior.call.number prior.call.job.note p.directory.core place length_now seen
            (λ kind. rebuilds_look_not prior.call.book.geometry prior.call.tries prior.call.job prior.call.state.pairs prior.call.job.note kind starts) told

        same : p.directory ≡ before.directory
        same = coded_start (subst (λ (j : Job). IsReading j.note.kind) its.its_job reads) at_start

        owes_here : (place length_now : ℕ) (seen : List Seen) → (at_directory false (actor_of prior.call.token) prior.call.number (DirectoryStep.Look prior.call.job.note) p.directory.core).1 ≡ Told.Pinned place length_now seen →
            AreAmong owed place (contents_of p.directory.stamps (parts_of prior.call.book.geometry prior.call.job.note length_now seen))
        owes_here place length_now seen told =
            subst (λ (d : Sealed). AreAmong owed place (contents_of d.stamps (parts_of prior.call.book.geometry prior.call.job.note length_now seen))) (sym same)
            (subst (λ (b : BookOf). AreAmong owed place (contents_of before.directory.stamps (parts_of b.geometry prior.call.job.note length_now seen))) (sym prior_book)
            (subst (λ (j : Job). AreAmong owed place (contents_of before.directory.stamps (parts_of g j.note length_now seen))) (sym its.its_job)
            (look place length_now seen
            (sym (λ i. (at_directory false (its.its_actor i) (its.its_number i) (DirectoryStep.Look (its.its_job i).note) (same i).core).1) ∙ told))))

    owes_there : (owed : List (ℕ × List ℕ)) → LookOwes owed first before → OwesBy (AreAmong owed) after
    owes_there owed look =
        (keeps_owing (AreAmong owed)).directory short after.call.due prior after p.directory (prior_owes owed look) t.needs (ap (λ (x : Directory × CallOf). x.1) t.leads) s.asked t.owed (looked owed look)

    told_there : IsToldMore g max tries job target prior_told.later after.call.state
    told_there =
        told_more g max tries job target prior_told.later prior.call prior_told.is (Act.AtDirectory step) answered.1 after.call.state acts fits.0 fits.1 (ap (λ (x : Directory × CallOf). x.1.state) leads)
      where
        fits : Fits job.note.kind (Act.AtDirectory step) answered.1 × Answers (pin_bound g max job.note) (touched_count g job.note) (Act.AtDirectory step) answered.1
        fits =
            directory_answers g max tries job target prior_told.later prior.call prior_told.is step short p.directory.core acts s.wide s.whole.sound shape_there r.ran.most
            (subst (Agrees p.directory.core) (sym (ap (λ (x : CallOf). x.token) coded.is_ready ∙ token_by c.call.due)) r.ran.agrees) s.holds s.may

    pub runs_there : RunsOn first before after now (made + 1)
    runs_there = record {
      ran = record {
        shortages = r.ran.shortages ++ record { coding = prior.call.coding; step = short } ∷ [];
        run = run_there;
        same = record { places = s.same.places; book = s.same.book ∙ r.ran.same.book };
        book = ap (λ (x : Directory × CallOf). x.1.book) leads ∙ prior_book;
        most = ap (λ (d : Directory). d.max) core_is ∙ max_stays short (actor_of prior.call.token) prior.call.number step p.directory.core ∙ r.ran.most;
        asked = s.asked ∙ prior_asked;
        uncoded = ap (λ (x : Directory × CallOf). x.1.coding) leads;
        low =
            subst (IsLow number) (sym (ap (λ (x : Directory × CallOf). x.1.token) leads))
            (subst (λ n. IsLow number (token_after prior.call.token n step answered.1)) (sym its.its_number) (low_after number prior.call.token step answered.1 prior_low));
        agrees = s.agrees;
        others = others_there;
        bytes = bytes_there;
        owes = owes_there;
        knows = s.knows;
        takes =
            taken_more g tries who number job r.ran.shortages (seen_in before) (seen_in p) prior.call short (Act.AtDirectory step) after.call.takes prior_run acts prior_takes
            (ap (λ (x : Directory × CallOf). x.1.takes) leads);
      };
      told = told_there.more;
      state = told_there.is;
      left = fewer_left told_there.more told_there.fewer;
      looks = λ reads start. absurd (subst IsLater start (later_there reads));
    }
      where
        fits_here : Fits job.note.kind (Act.AtDirectory step) answered.1
        fits_here =
            (directory_answers g max tries job target prior_told.later prior.call prior_told.is step short p.directory.core acts s.wide s.whole.sound shape_there r.ran.most
            (subst (Agrees p.directory.core) (sym (ap (λ (x : CallOf). x.token) coded.is_ready ∙ token_by c.call.due)) r.ran.agrees) s.holds s.may).0

        later_there : IsReading job.note.kind → IsLater after.call.state.at
        later_there reads =
            subst (λ (x : CallState). IsLater x.at) (sym (ap (λ (x : Directory × CallOf). x.1.state) leads))
            (reads_later prior.call.book.geometry prior.call.job.note.kind prior.call.job prior.call.state.pairs prior.call.state.at (Act.AtDirectory step) answered.1
            (subst (λ (j : Job). IsReading j.note.kind) (sym its.its_job) reads) (subst (λ (j : Job). Fits j.note.kind (Act.AtDirectory step) answered.1) (sym its.its_job) fits_here))

  -- ---- at a server
  module _ (t : AtAServer prior p after now) (step : ServerStep) (acts : act_of prior.call ≡ Act.AtServer t.server step) where
    abbrev short_here : Bool
    short_here = after.call.step

    abbrev answer_here : Server × Told
    answer_here = at_server short_here step (core_of t.before)

    leads_here : (core_of t.left, after.call) ≡ at_server_by (Act.AtServer t.server step) short_here after.call.due prior.call (core_of t.before)
    leads_here = subst (λ (act : Act). (core_of t.left, after.call) ≡ at_server_by act short_here after.call.due prior.call (core_of t.before)) acts t.leads

    changed : change_at t.server (λ _. core_of t.left) (map core_of p.servers.items) ≡ map core_of now.servers.items
    changed = sym (map-set core_of (λ _. core_of t.left) p.servers.items t.server t.before t.left t.less t.read refl) ∙ ap (map core_of) (sym t.items)

    run_here : HasRun g tries who number job (r.ran.shortages ++ record { coding = prior.call.coding; step = short_here } ∷ []) (seen_in before) after.call (seen_in now)
    run_here =
        subst (λ (d : Sealed). HasRun g tries who number job (r.ran.shortages ++ record { coding = prior.call.coding; step = short_here } ∷ []) (seen_in before) after.call (record { directory = d.core; servers = map core_of now.servers.items }))
        (sym t.directory)
        (subst (λ (l : List Server). HasRun g tries who number job (r.ran.shortages ++ record { coding = prior.call.coding; step = short_here } ∷ []) (seen_in before) after.call (record { directory = p.directory.core; servers = l })) changed
        (((calls_run_alone.steps g tries who number job).server (seen_in before) (seen_in p) prior.call after.call t.server (core_of t.before) (core_of t.left) t.needs
        (slice_get-map core_of p.servers.items t.server t.before (got p.servers.items t.server t.before t.less t.read)) t.leads).run r.ran.shortages prior_run))

    bytes_here : (calls : Calls) → KnowsBytes calls first before → KnowsBytes calls after now
    bytes_here calls k =
        let kp : KnowsBytes calls prior p = prior_bytes calls k in
        record {
          bytes = subst (λ (d : Sealed). HasBytes calls d.core) (sym t.directory) kp.bytes;
          drawn = subst (λ (d : Sealed). AreDrawnBy calls d.core) (sym t.directory) kp.drawn;
          contents = subst (HaveContents calls) (sym t.directory) kp.contents;
          known = subst (IsKnownBy calls after) (sym s.asked) (known_again calls prior after prior.asked (run_here.its.its_actor ∙ sym its.its_actor) (run_here.its.its_number ∙ sym its.its_number) kp.known);
        }

    fits_at_server : Fits job.note.kind (Act.AtServer t.server step) answer_here.1 × Answers (pin_bound g max job.note) (touched_count g job.note) (Act.AtServer t.server step) answer_here.1
    fits_at_server = server_fits g max tries job target prior_told.later prior.call prior_told.is t.server step short_here (core_of t.before) acts

    told_here : IsToldMore g max tries job target prior_told.later after.call.state
    told_here =
        told_more g max tries job target prior_told.later prior.call prior_told.is (Act.AtServer t.server step) answer_here.1 after.call.state acts fits_at_server.0 fits_at_server.1 (ap (λ (x : Server × CallOf). x.1.state) leads_here)

    pub runs_here : RunsOn first before after now (made + 1)
    runs_here = record {
      ran = record {
        shortages = r.ran.shortages ++ record { coding = prior.call.coding; step = short_here } ∷ [];
        run = run_here;
        same = record { places = s.same.places; book = s.same.book ∙ r.ran.same.book };
        book = ap (λ (x : Server × CallOf). x.1.book) leads_here ∙ prior_book;
        most = ap (λ (d : Sealed). d.core.max) t.directory ∙ r.ran.most;
        asked = s.asked ∙ prior_asked;
        uncoded = ap (λ (x : Server × CallOf). x.1.coding) leads_here;
        low = subst (IsLow number) (sym (ap (λ (x : Server × CallOf). x.1.token) leads_here)) prior_low;
        agrees = s.agrees;
        others = λ token apart agrees. subst (λ (d : Sealed). Agrees d.core token) (sym t.directory) (r.ran.others token apart agrees);
        bytes = bytes_here;
        owes = λ owed look. (keeps_owing (AreAmong owed)).server short_here after.call.due prior after t.server (core_of t.before) (prior_owes owed look) t.needs (ap (λ (x : Server × CallOf). x.1) t.leads) s.asked t.owed;
        knows = s.knows;
        takes =
            taken_more g tries who number job r.ran.shortages (seen_in before) (seen_in p) prior.call short_here (Act.AtServer t.server step) after.call.takes prior_run acts prior_takes
            (ap (λ (x : Server × CallOf). x.1.takes) leads_here
            ∙ taken_here short_here (actor_of prior.call.token) prior.call.number t.server step (core_of t.before) (seen_in p) prior.call.takes
            (slice_get-map core_of p.servers.items t.server t.before (got p.servers.items t.server t.before t.less t.read)));
      };
      told = told_here.more;
      state = told_here.is;
      left = fewer_left told_here.more told_here.fewer;
      looks = λ reads start. absurd (subst IsLater start (later_here reads));
    }
      where
        later_here : IsReading job.note.kind → IsLater after.call.state.at
        later_here reads =
            subst (λ (x : CallState). IsLater x.at) (sym (ap (λ (x : Server × CallOf). x.1.state) leads_here))
            (reads_later prior.call.book.geometry prior.call.job.note.kind prior.call.job prior.call.state.pairs prior.call.state.at (Act.AtServer t.server step) answer_here.1
            (subst (λ (j : Job). IsReading j.note.kind) (sym its.its_job) reads) (subst (λ (j : Job). Fits j.note.kind (Act.AtServer t.server step) answer_here.1) (sym its.its_job) fits_at_server.0))

  -- ---- at either
  pub runs_on : RunsOn first before after now (made + 1)
  runs_on = by s.step
    where
      by : AtTheDirectory prior p after now ⊎ AtAServer prior p after now → RunsOn first before after now (made + 1)
      by (inl t) = let acts = needs_tell_acts.directory prior.call t.needs in runs_there t acts.0 acts.1
      by (inr t) = let acts = needs_tell_acts.server prior.call t.server t.needs in runs_here t acts.0 acts.1

-- ---- before the first step
module _ (c : MachineOf) (p : SessionPlaces) (may : MayRun c p) where
  stamps_know : KnowsOldOf p.directory c
  stamps_know = subst (KnowsOldOf p.directory) (sym may.first) (first_calls_know p.directory p.book may.tries may.seat c.call.number c.asked)

  first_of : IsOf p.book.geometry c.call.tries (actor_of c.call.token) c.call.number c.call.job c.call
  first_of = record { its_shape = ap (λ (x : MachineOf). x.call.book.geometry) may.first; its_tries = refl; its_actor = refl; its_number = refl; its_job = refl }

  pub runs_none : RunsOn c p c p 0
  runs_none = record {
    ran = record {
      shortages = [];
      run =
          (calls_run_alone.begins p.book.geometry c.call.tries (actor_of c.call.token) c.call.number c.call.job (seen_in p) c.call first_of (ap (λ (x : MachineOf). x.call.state) may.first)
          (ap (λ (x : MachineOf). x.call.takes) may.first) (ap (λ (x : MachineOf). x.call.coding) may.first)).run;
      same = record { places = may.places; book = refl };
      book = ap (λ (x : MachineOf). x.call.book) may.first;
      most = refl;
      asked = refl;
      uncoded = ap (λ (x : MachineOf). x.call.coding) may.first;
      low = subst (λ (x : MachineOf). IsLow c.call.number x.call.token) (sym may.first) (let low : may.seat.unused ≤ c.call.number = may.unused in omega (arith, low));
      agrees = subst (λ (x : MachineOf). Agrees p.directory.core x.call.token) (sym may.first) may.agrees;
      others = λ token apart agrees. agrees;
      bytes = λ calls k. k;
      owes = λ owed look. subst (OwesBy (AreAmong owed)) (sym may.first) ((keeps_owing (AreAmong owed)).first p.book may.tries may.seat c.call.number c.asked);
      knows = stamps_know;
      takes = ap (λ (x : MachineOf). x.call.takes) may.first;
    };
    told = [];
    state = ap (λ (x : MachineOf). x.call.state) may.first;
    left = omega arith;
    looks = λ reads start. refl;
  }

-- ---- the next step may be made
pub may_step_next : (first c prior : MachineOf) (before p : SessionPlaces) (made : ℕ) → MayRun first before → RunsOn first before c p made → IsCoded c prior → MayStep prior p
may_step_next first c prior before p made may r coded = record {
  place = coded.place;
  places = r.ran.same.places;
  book = ap (λ (x : CallOf). x.book) coded.is_ready ∙ book_by c.call.due ∙ r.ran.book ∙ sym r.ran.same.book;
  agrees = subst (Agrees p.directory.core) (sym (ap (λ (x : CallOf). x.token) coded.is_ready ∙ token_by c.call.due)) r.ran.agrees;
  knows = coded.knows p.directory r.ran.knows;
  calls = may.calls;
  bytes = record {
    bytes = known.bytes;
    drawn = known.drawn;
    contents = known.contents;
    known = subst (IsKnownBy may.calls prior) (sym coded.asked) (known_again may.calls c prior c.asked (ap actor_of (ap (λ (x : CallOf). x.token) coded.is_ready ∙ token_by c.call.due)) (ap (λ (x : CallOf). x.number) coded.is_ready ∙ number_by c.call.due) known.known);
  };
}
  where
    known : KnowsBytes may.calls c p
    known = r.ran.bytes may.calls may.bytes

    token_by : (due : Bool) → (if due then coded_call prior.call.coding c.call else c.call).token ≡ c.call.token
    token_by true = refl
    token_by false = refl

    book_by : (due : Bool) → (if due then coded_call prior.call.coding c.call else c.call).book ≡ c.call.book
    book_by true = refl
    book_by false = refl

    number_by : (due : Bool) → (if due then coded_call prior.call.coding c.call else c.call).number ≡ c.call.number
    number_by true = refl
    number_by false = refl

pub runs_more : (first c prior after : MachineOf) (before p now : SessionPlaces) (made : ℕ) → MayRun first before → RunsOn first before c p made → IsCoded c prior → HasStepped prior p after now → RunsOn first before after now (made + 1)
runs_more first c prior after before p now made may r coded s =
    runs_on first c prior after before p now made r (ap (λ (x : MachineOf). x.call.job) may.first) may.target coded s (ap (λ (x : MachineOf). x.call.book.geometry) may.first)

-- ---- after as many steps as it may make it is over
pub over_at_end : (first c : MachineOf) (before p : SessionPlaces) (made : ℕ) → MayRun first before → RunsOn first before c p made → 2 ^ 64 - 1 ≤ made → need_of c.call ≡ need.Finished
over_at_end first c before p made may r all =
    let shape : first.call.book.geometry ≡ before.book.geometry = ap (λ (x : MachineOf). x.call.book.geometry) may.first in
    let same : left_of before.directory.core.max first r.told ≡ call_left before.book.geometry before.directory.core.max first.call.tries first.call.job r.told =
    ap (λ (s : Shape). call_left s before.directory.core.max first.call.tries first.call.job r.told) shape in
    let few : left_of before.directory.core.max first [] < 2 ^ 64 = may.few in
    let so_far : left_of before.directory.core.max first r.told + made ≤ left_of before.directory.core.max first [] = r.left in
    let a : ℕ = left_of before.directory.core.max first r.told in
    let b : ℕ = left_of before.directory.core.max first [] in
    let d : ℕ = call_left before.book.geometry before.directory.core.max first.call.tries first.call.job r.told in
    let none : call_left before.book.geometry before.directory.core.max first.call.tries first.call.job r.told ≤ 0 = omega (arith, same, few, so_far, all) in
    let over = is_over before.book.geometry before.directory.core.max first.call.tries first.call.job may.target r.told c.call
    (record { shape = r.ran.run.its.its_shape; tries_are = r.ran.run.its.its_tries; job_is = r.ran.run.its.its_job; state = r.state }) none in
    ends_stay.needs c.call over.0 over.1
