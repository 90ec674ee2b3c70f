-- What others add, and how the places begin.
use Rattle.std.proofs.Common.{◌≡◌, ℕ, ◌<◌, true, List, [], length, Option, None, Some, unwrap_or, IfSome, refl, sym, ap, subst, ◌∙◌, inl, inr, ◌⊎◌}
use Rattle.std.proofs.lemmas.Bool.{cases_eq}
use Rattle.std.proofs.lemmas.List.Elements.{All-nil}
use Rattle.store_map.specs.declared.script.Script.{Script}
use Rattle.store_core.specs.ActPlace.{ActPlace}
use Rattle.store_core.specs.Directory.{new_directory}
use Rattle.store_core.specs.History.{call_of}
use Rattle.store_core.proofs.Places.{slice_get-change_at}
use Rattle.run_laws.proofs.OwnSteps.{agreement_goes_on}
use Rattle.run_laws.specs.Contents.{HasBytes}
use Rattle.run_laws.proofs.ContentSteps.{steps_keep_bytes}
use Rattle.thread_laws.specs.MadeSteps.{MadeStep, is_at}
use Rattle.turn_lock.specs.History.{entries_of, GoesOn}
use Rattle.thread_laws.specs.Entries.{steps_in}
use Rattle.thread_laws.specs.Noted.{Noted, made_in}
use Rattle.thread_laws.specs.Numbers.{IsTurnOf}
use Rattle.thread_laws.specs.Logs.{Logs, log_of, own_at, HasSeenOwn}
use Rattle.thread_laws.specs.Stepped.{with_log, with_notes}
use Rattle.thread_laws.specs.Others.{OthersAddNothing}
use Rattle.thread_laws.specs.Begin.{AllPlacesBegin}
use Rattle.thread_laws.proofs.Placing.{changed_get}

pub others_add_nothing : OthersAddNothing
others_add_nothing number numbers seen among =
    record { at_server = servers; at_directory = directories; at_end = λ logs there each. ends logs (there number among) (λ j. each j number among) }
  where
    servers : (server : ℕ) (now : List (ℕ × MadeStep)) → server < length seen.servers → GoesOn numbers (log_of seen server) now → (place : ActPlace) → own_at number (with_log server now seen) place ≡ own_at number seen place
    servers server now there goes ActPlace.Directory = refl
    servers server now there goes (ActPlace.Server j) = by (cases_eq j server)
      where
        by : (j ≡ server) ⊎ (j ≡ server → ⊥) → own_at number (with_log server now seen) (ActPlace.Server j) ≡ own_at number seen (ActPlace.Server j)
        by (inl same) =
            subst (λ k. own_at number (with_log server now seen) (ActPlace.Server k) ≡ own_at number seen (ActPlace.Server k)) (sym same)
            (ap (λ (o : Option (List (ℕ × MadeStep))). steps_in (entries_of number (unwrap_or o []))) (changed_get server now seen.servers there) ∙ ap steps_in (goes.1 number among))
        by (inr differ) = ap (λ (o : Option (List (ℕ × MadeStep))). steps_in (entries_of number (unwrap_or o []))) (slice_get-change_at server j (λ _. now) seen.servers differ)

    directories : (now : List (ℕ × Noted)) → GoesOn numbers seen.directory now → (place : ActPlace) → own_at number (with_notes now seen) place ≡ own_at number seen place
    directories now goes ActPlace.Directory = ap made_in (goes.1 number among)
    directories now goes (ActPlace.Server j) = refl

    ends : (logs : Logs) → entries_of number logs.directory ≡ entries_of number seen.directory → ((j : ℕ) → entries_of number (log_of logs j) ≡ entries_of number (log_of seen j)) → HasSeenOwn number seen logs
    ends logs there each ActPlace.Directory = ap made_in there
    ends logs there each (ActPlace.Server j) = ap steps_in (each j)

first_bytes : (script : Option Script) (g : _) (max : ℕ) → IfSome script (λ s. HasBytes (call_of s) (new_directory g max))
first_bytes None g max = tt
first_bytes (Some s) g max = (steps_keep_bytes (call_of s)).first g max

pub all_places_begin : AllPlacesBegin
all_places_begin of =
    record {
      server = λ number.
          record {
            ends = refl;
            answers = tt;
            here = All-nil (λ m. is_at (ActPlace.Server number) m ≡ true);
            rise = tt;
            turns = All-nil (λ (entry : ℕ × MadeStep). IsTurnOf of entry.0 entry.1.actor);
          };
      directory = λ book max.
          record {
            ends = refl;
            answers = tt;
            here = All-nil (λ m. is_at ActPlace.Directory m ≡ true);
            rise = tt;
            turns = All-nil (λ (entry : ℕ × Noted). IsTurnOf of entry.0 entry.1.made.actor);
            stamps = refl;
            agree = λ who caller. agreement_goes_on.first book.geometry max who;
            bytes = first_bytes book.script book.geometry max;
          };
    }
