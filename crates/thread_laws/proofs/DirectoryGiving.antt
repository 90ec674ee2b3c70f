-- A call's step at the directory, as the turn that gives it back has it.
use Rattle.std.proofs.Common.{◌≡◌, ℕ, ◌<◌, List, [], ◌∷◌, ◌++◌, Option, None, Some, IfSome, refl, sym, ap, subst, ◌∙◌}
use Rattle.clay_grid.specs.Shape.{stripe_length}
use Rattle.store_core.specs.Act.{Act, DirectoryStep}
use Rattle.store_core.specs.Agreement.{ActorToken, Agrees}
use Rattle.store_core.specs.Calls.{IsOfCall}
use Rattle.store_core.specs.Conditions.{MayStep}
use Rattle.store_core.specs.Directory.{Directory}
use Rattle.store_core.specs.History.{call_of}
use Rattle.store_core.specs.Sound.{IsSound}
use Rattle.store_core.specs.Tokens.{actor_of}
use Rattle.store_core.specs.AtDirectory.{at_directory}
use Rattle.run_laws.specs.Contents.{HasBytes}
use Rattle.run_laws.proofs.ContentSteps.{steps_keep_bytes}
use Rattle.thread_laws.specs.MadeSteps.{MadeStep}
use Rattle.call_steps.specs.declared.need.Need.TheVariants as need
use Rattle.version_seal.specs.Entry.{BookOf, StampOf}
use Rattle.stripe_stamps.specs.Sealed.{Sealed}
use Rattle.call_steps.specs.TokenAfter.{MayMake}
use Rattle.call_steps.specs.CallOf.{CallOf, act_of}
use Rattle.call_steps.specs.Steps.{need_of, at_directory_by, stepped_at_directory, HoldsItsPass, MayMakeNext}
use Rattle.call_steps.proofs.Needs.{needs_tell_acts}
use Rattle.turn_lock.specs.History.{Among, entries_of, GoesOn}
use Rattle.thread_laws.specs.Numbers.{Counts, IsTurnOf}
use Rattle.thread_laws.specs.Entries.{next_moment}
use Rattle.thread_laws.specs.Noted.{Noted, made_in, token_by, tokens_after, token_in}
use Rattle.world_laws.specs.Tokens.{first_token}
use Rattle.thread_laws.specs.AtDirectory.{StandsAtDirectory}
use Rattle.thread_laws.specs.CallEntries.{made_by, directory_tells, directory_entry}
use Rattle.thread_laws.specs.HasMade.{HasMadeAtDirectory}
use Rattle.thread_laws.specs.Looks.{IsLookOfScript, IsOfItsCall}
use Rattle.thread_laws.proofs.Adding.{moment_above, moment_after}
use Rattle.thread_laws.proofs.PlaceOwn.{own_steps, one_more, prefix_more}
use Rattle.thread_laws.proofs.Hearing.{hears_directory}
use Rattle.thread_laws.proofs.Answering.{fits_directory}
use Rattle.thread_laws.proofs.CallSteps.{directory_step}
use Rattle.thread_laws.proofs.DirectoryAdding.{directories_stand_on}
use Rattle.run_laws.proofs.OwnSteps.{steps_may_be_made}

-- the ticket of an actor is the one that its entries lead to
pub token_seen : (of : Counts) (max number : ℕ) (token : ActorToken) (numbers : List ℕ) (d : Sealed) (seen log : List (ℕ × Noted)) → StandsAtDirectory of max d log → IsTurnOf of number (actor_of token)
    → Among number numbers → GoesOn numbers seen log → tokens_after (made_in (entries_of number seen)) (first_token (actor_of token)) ≡ token → token_in (actor_of token) (made_in log) ≡ token
token_seen of max number token numbers d seen log stands turn among goes is =
    ap (λ (l : List MadeStep). tokens_after l (first_token (actor_of token)))
    (own_steps (λ (n : Noted). n.made) of number (actor_of token) turn log stands.turns ∙ ap made_in (goes.1 number among)) ∙ is

-- it may be made, where the ticket agrees
may_step : (d : Directory) (token : ActorToken) (number : ℕ) (step : DirectoryStep) → Agrees d token → MayMake d token number step → MayStep d (actor_of token) number step
may_step d (ActorToken.Seated seat) number step agrees may = steps_may_be_made.look seat number step d agrees may
may_step d (ActorToken.InCall held) number step agrees may = subst (λ n. MayStep d held.pass.actor n step) may.0 (steps_may_be_made.on_pass held step d agrees may.1)

if_same : {A : Type 0} (P Q : A → Type 0) (o : Option A) → ((x : A) → P x → Q x) → IfSome o P → IfSome o Q
if_same P Q None f h = tt
if_same P Q (Some x) f h = f x h

both : {A : Type 0} (P Q R : A → Type 0) (o : Option A) → ((x : A) → P x → Q x → R x) → IfSome o P → IfSome o Q → IfSome o R
both P Q R None f p q = tt
both P Q R (Some x) f p q = f x p q

module _ (before after : CallOf) (d now : Sealed) (needed : need_of before ≡ need.Directory) (stepped : (now.core, after) ≡ stepped_at_directory after.step after.due before d.core)
    (log : List (ℕ × Noted)) (number last : ℕ) (drawn : List StampOf) where
  -- the bytes of the map stay
  bytes_stay : (book : BookOf) → 0 < stripe_length d.core.shape → IsSound d.core → Agrees d.core before.token → d.core.shape ≡ before.book.geometry → MayMakeNext before → before.book ≡ book → IsLookOfScript before
      → IfSome book.script (λ script. HasBytes (call_of script) d.core) → IfSome book.script (λ script. HasBytes (call_of script) now.core)
  bytes_stay book wide sound agrees shape may its looks bytes =
      let told = needs_tell_acts.directory before needed in
      let step : DirectoryStep = told.0 in
      let made : MayStep d.core (actor_of before.token) before.number step = may_step d.core before.token before.number step agrees (may step d.core told.1 shape) in
      let look : IfSome book.script (λ script. IsOfCall (call_of script) (actor_of before.token) before.number step) =
      subst (λ (b : BookOf). IfSome b.script (λ script. IsOfCall (call_of script) (actor_of before.token) before.number step)) its (subst (IsOfItsCall before) told.1 looks) in
      let leads : now.core ≡ (at_directory after.step (actor_of before.token) before.number step d.core).0 =
      ap (λ (p : Directory × CallOf). p.0) (subst (λ (a : Act). (now.core, after) ≡ at_directory_by a after.step after.due before d.core) told.1 stepped) in
      both (λ script. HasBytes (call_of script) d.core) (λ script. IsOfCall (call_of script) (actor_of before.token) before.number step) (λ script. HasBytes (call_of script) now.core) book.script
      (λ script has of_call. subst (HasBytes (call_of script)) (sym leads) ((steps_keep_bytes (call_of script)).step after.step (actor_of before.token) before.number step d.core wide sound has made of_call)) bytes look

  pub given_stands :
      (of : Counts) (max : ℕ) (numbers : List ℕ) (seen : List (ℕ × Noted)) → StandsAtDirectory of max d log → IsTurnOf of number (actor_of before.token) → Among number numbers → GoesOn numbers seen log
      → tokens_after (made_in (entries_of number seen)) (first_token (actor_of before.token)) ≡ before.token
      → 0 < stripe_length d.core.shape → IsSound d.core → d.core.shape ≡ before.book.geometry → Agrees d.core before.token → Agrees now.core after.token → MayMakeNext before → before.book ≡ d.book → IsLookOfScript before
      → now.book ≡ d.book → now.stamps ≡ d.stamps ++ drawn
      → StandsAtDirectory of max now (log ++ directory_entry number before after d drawn log last ∷ [])
  given_stands of max numbers seen stands turn among goes is wide sound shape agrees_before agrees may its looks book stamps =
      let step = directory_step before after d.core now.core after.step after.due (next_moment (made_in log) last) needed stepped in
      let entry : ℕ × Noted = directory_entry number before after d drawn log last in
      let token : token_in (actor_of before.token) (made_in log) ≡ before.token = token_seen of max number before.token numbers d seen log stands turn among goes is in
      let then : after.token ≡ token_by (act_of before) entry.1.made (token_in (actor_of before.token) (made_in log)) =
      ap (λ (c : CallOf). c.token) step.call ∙ ap (token_by (act_of before) entry.1.made) (sym token) in
      directories_stand_on of max d now log entry stands
      (record {
        here = step.here;
        answers = step.answers;
        above = moment_above (made_in log) last;
        turn = turn;
        leads = step.leads;
        book = book;
        stamps = stamps;
        agrees = λ caller. subst (Agrees now.core) then agrees;
        bytes = bytes_stay d.book wide sound agrees_before shape may its looks stands.bytes;
      })

  pub given_made : (max : ℕ) → 0 < stripe_length d.core.shape → IsSound d.core → d.core.shape ≡ before.book.geometry → d.core.max ≡ max → MayMakeNext before → Agrees d.core before.token → HoldsItsPass before → (numbers : List ℕ) (seen seen_now : List (ℕ × Noted)) → Among number numbers → GoesOn numbers seen log → seen_now ≡ log ++ directory_entry number before after d drawn log last ∷ []
      → HasMadeAtDirectory number last max seen seen_now before after
  given_made max wide sound shape most may agrees pass numbers seen seen_now among goes is =
      let step = directory_step before after d.core now.core after.step after.due (next_moment (made_in log) last) needed stepped in
      subst (λ (l : List (ℕ × Noted)). HasMadeAtDirectory number last max seen l before after) (sym is)
      (record {
        answer = directory_tells after.step (actor_of before.token) before.number (act_of before) d.core;
        moment = next_moment (made_in log) last;
        drawn = drawn;
        above = moment_after (made_in log) last;
        goes = prefix_more seen log (directory_entry number before after d drawn log last ∷ []) goes.0;
        more = one_more number numbers seen log (directory_entry number before after d drawn log last).1 among goes;
        call = step.call;
        hears = hears_directory before after d.core now.core needed stepped agrees pass;
        fits = fits_directory before d.core after.step max needed wide sound shape most agrees pass may;
      })

-- the ticket goes on with the entries
pub token_goes : (number last max : ℕ) (seen now : List (ℕ × Noted)) (before after : CallOf) → actor_of after.token ≡ actor_of before.token → HasMadeAtDirectory number last max seen now before after
    → tokens_after (made_in (entries_of number seen)) (first_token (actor_of before.token)) ≡ before.token → tokens_after (made_in (entries_of number now)) (first_token (actor_of after.token)) ≡ after.token
token_goes number last max seen now before after same made is =
    let m : MadeStep = made_by before after.step made.answer made.moment in
    ap (λ (l : List (ℕ × Noted)). tokens_after (made_in l) (first_token (actor_of after.token))) made.more
    ∙ (more (entries_of number seen) (first_token (actor_of after.token)) ∙ (ap (λ who. token_by m.act m (tokens_after (made_in (entries_of number seen)) (first_token who))) same
    ∙ (ap (token_by m.act m) is ∙ sym (ap (λ (c : CallOf). c.token) made.call))))
  where
    more : (log : List (ℕ × Noted)) (token : ActorToken)
        → tokens_after (made_in (log ++ (number, record { made = made_by before after.step made.answer made.moment; drawn = made.drawn }) ∷ [])) token
        ≡ token_by (act_of before) (made_by before after.step made.answer made.moment) (tokens_after (made_in log) token)
    more [] token = refl
    more (x ∷ log) token = more log (token_by x.1.made.act x.1.made token)
