-- A caller's step at the directory, as the turn that gives it back has it.
use Rattle.std.proofs.Common.{◌≡◌, ℕ, ◌<◌, List, [], ◌∷◌, ◌++◌, Option, None, Some, refl, sym, ap, subst, ◌∙◌}
use Rattle.clay_grid.specs.Shape.{stripe_length}
use Rattle.store_core.specs.Agreement.{Agrees}
use Rattle.store_core.specs.Directory.{Directory}
use Rattle.store_core.specs.Sound.{IsSound}
use Rattle.store_core.specs.Tokens.{actor_of}
use Rattle.version_seal.specs.Entry.{BookOf, StampOf}
use Rattle.stripe_stamps.specs.Sealed.{Sealed}
use Rattle.stripe_stamps.specs.Stamped.{HasStamps}
use Rattle.call_steps.specs.declared.need.Need.TheVariants as need
use Rattle.call_steps.specs.CallOf.{CallOf}
use Rattle.call_steps.specs.Steps.{need_of, HoldsItsPass, MayMakeNext}
use Rattle.call_machine.specs.Calls.{MachineOf, drawn_by}
use Rattle.world_laws.specs.Tokens.{first_token, token_of}
use Rattle.actors.specs.Callers.{CallerOf, Knows}
use Rattle.actors.specs.Steps.{MadeAtDirectory, MakesStep}
use Rattle.turn_lock.specs.History.{Among, GoesOn, entries_of}
use Rattle.thread_laws.specs.Entries.{next_moment}
use Rattle.thread_laws.specs.Looks.{IsLookOfScript}
use Rattle.thread_laws.specs.Noted.{Noted, IsCaller, made_in, tokens_after}
use Rattle.thread_laws.specs.Numbers.{Counts, IsTurnOf}
use Rattle.thread_laws.specs.AtDirectory.{StandsAtDirectory}
use Rattle.thread_laws.specs.CallEntries.{directory_entry}
use Rattle.thread_laws.proofs.DirectoryAdding.{stamps_more}
use Rattle.thread_laws.proofs.DirectoryGiving.{token_seen, given_stands, given_made}
use Rattle.thread_laws.proofs.Most.{keeps_most}
use Rattle.run_seats.specs.Before.{IsInCall, IsBeforeDirectory}
use Rattle.run_seats.specs.Seen.{seen_there}
use Rattle.run_seats.specs.Stepped.{entry_at_directory, HasSteppedAtDirectory}
use Rattle.run_seats.specs.declared.directory_box.DirectoryIdentity.{DirectoryIdentity}
use Rattle.run_seats.proofs.Fits.{fits_there}
use Rattle.run_seats.proofs.Knowing.{knows_seen}

-- the entry is under the number
pub number_is : (number : ℕ) (work : Option MachineOf) (left : MachineOf) (d : Sealed) (log : List (ℕ × Noted)) (last : ℕ) → (entry_at_directory number work left d log last).0 ≡ number
number_is number None left d log last = refl
number_is number (Some call) left d log last = refl

-- what is known of the directory and of the caller's call before the step
pub record IsThere (of : Counts) (number max : ℕ) (numbers : List ℕ) (seen log : List (ℕ × Noted)) (d : Sealed) (call : MachineOf) : Type 0 where
  pub stands : StandsAtDirectory of max d log
  pub wide : 0 < stripe_length d.core.shape
  pub sound : IsSound d.core
  pub stamps : HasStamps d
  pub turn : IsTurnOf of number (actor_of call.call.token)
  pub among : Among number numbers
  pub goes : GoesOn numbers seen log
  pub needs : need_of call.call ≡ need.Directory
  pub its : call.call.book ≡ d.book
  pub calls : IsCaller (actor_of call.call.token)
  pub token : tokens_after (made_in (entries_of number seen)) (first_token (actor_of call.call.token)) ≡ call.call.token
  pub may : MayMakeNext call.call
  pub pass : HoldsItsPass call.call
  pub looks : IsLookOfScript call.call

module _ (of : Counts) (number max : ℕ) (numbers : List ℕ) (seen log : List (ℕ × Noted)) (d : Sealed) (call : MachineOf) (there : IsThere of number max numbers seen log d call) where
  -- the directory agrees with the call's ticket
  pub agrees_there : Agrees d.core call.call.token
  agrees_there =
      subst (Agrees d.core) (token_seen of max number call.call.token numbers d seen log there.stands there.turn there.among there.goes there.token)
      (there.stands.agree (actor_of call.call.token) there.calls)

  shape_there : d.core.shape ≡ call.call.book.geometry
  shape_there = sym there.stamps.code ∙ ap (λ (b : BookOf). b.geometry) (sym there.its)

  module _ (last : ℕ) (a : CallerOf) (left : MachineOf) (was : a.work ≡ Some call) (now : Sealed) (made : MadeAtDirectory call left d now) where
    pub caller_stands : now.book ≡ d.book → StandsAtDirectory of max now (log ++ entry_at_directory number a.work left d log last ∷ [])
    caller_stands book =
        subst (λ (o : Option MachineOf). StandsAtDirectory of max now (log ++ entry_at_directory number o left d log last ∷ [])) (sym was)
        (given_stands call.call left.call d now there.needs made.made log number last (drawn_by left.call.step d call) of max numbers seen there.stands there.turn there.among there.goes there.token there.wide there.sound
        shape_there agrees_there made.agrees there.may there.its there.looks book made.stamps)

    pub caller_stepped : (seen_now : List (ℕ × Noted)) (after : CallerOf) → seen_now ≡ log ++ entry_at_directory number a.work left d log last ∷ []
        → (step : MakesStep (λ c x. MadeAtDirectory c x d now) left a after) → Knows now after → HasSteppedAtDirectory number last max seen seen_now a after
    caller_stepped seen_now after is step knows =
        let entry : ℕ × Noted = directory_entry number call.call left.call d (drawn_by left.call.step d call) log last in
        let is_call : seen_now ≡ log ++ entry ∷ [] = subst (λ (o : Option MachineOf). seen_now ≡ log ++ entry_at_directory number o left d log last ∷ []) was is in
        record {
          call = call;
          was = was;
          left = left;
          made =
              given_made call.call left.call d now there.needs made.made log number last (drawn_by left.call.step d call) max there.wide there.sound shape_there (keeps_most of max d log there.stands) there.may agrees_there
              there.pass numbers seen seen_now there.among there.goes is_call;
          asked = made.asked;
          there = record {
            of = of;
            directory = d;
            log = log;
            goes = there.goes.0;
            stands = there.stands;
            stamps = there.stamps;
            its = there.its;
            stepped = ap (λ (p : Directory × CallOf). p.1) made.made;
            owed = made.owed;
            moment = next_moment (made_in log) last;
            after = is_call;
          };
          concludes = step.concludes;
          knows =
              subst (λ (l : List (ℕ × Noted)). Knows (seen_there l a.book) after) (sym is_call)
              (knows_seen (log ++ entry ∷ []) a.book now after
              (made.stamps ∙ (ap (λ (l : List StampOf). l ++ drawn_by left.call.step d call) there.stands.stamps ∙ sym (stamps_more log entry))) knows);
        }

-- so it is of the directory that was taken
pub is_there : (clients repairers max number : ℕ) (fixed : Option DirectoryIdentity) (numbers : List ℕ) (seen log : List (ℕ × Noted)) (d : Sealed) (a : CallerOf) (h : IsBeforeDirectory fixed number seen a)
    → Some (record { opening = d.book; max = max; clients = clients; repairers = repairers }) ≡ fixed → StandsAtDirectory (record { clients = clients; repairers = repairers }) max d log → 0 < stripe_length d.core.shape
    → IsSound d.core → HasStamps d → Among number numbers → GoesOn numbers seen log → IsThere (record { clients = clients; repairers = repairers }) number max numbers seen log d h.call
is_there clients repairers max number fixed numbers seen log d a h took stands wide sound stamps among goes =
    let f = fits_there (record { opening = d.book; max = max; clients = clients; repairers = repairers }) fixed number seen a took h in
    record {
      stands = stands;
      wide = wide;
      sound = sound;
      stamps = stamps;
      turn = f.turn;
      among = among;
      goes = goes;
      needs = h.needs;
      its = h.work.its ∙ sym f.book;
      calls = h.calls;
      token = h.token;
      may = h.may;
      pass = h.pass;
      looks = h.looks;
    }

-- the ticket of its actor is the call's
pub token_is : (call : MachineOf) (a : CallerOf) → IsInCall call a → token_of a.actor.doing ≡ call.call.token
token_is call a h = ap (λ (x : CallerOf). token_of x.actor.doing) h.works
