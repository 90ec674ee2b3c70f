-- Steps of the sweeper and the operator, as the turns that give the places back have them.
use Rattle.std.proofs.Common.{◌≡◌, ℕ, ◌<◌, false, List, [], ◌∷◌, ◌++◌, Option, None, Some, IfSome, refl, sym, ap, subst, ◌∙◌, eq-eqb}
use Rattle.std.proofs.lemmas.List.{append-nil}
use mathlib.Core.List.{IsPrefix}
use Rattle.clay_grid.specs.Shape.{stripe_length}
use Rattle.store_map.specs.declared.actor.Actor.{Actor}
use Rattle.store_map.specs.declared.script.Script.{Script}
use Rattle.store_core.specs.Act.{Act, DirectoryStep, ServerStep}
use Rattle.store_core.specs.AtDirectory.{at_directory}
use Rattle.store_core.specs.Directory.{Directory}
use Rattle.store_core.specs.History.{call_of}
use Rattle.store_core.specs.Server.{Server, at_server}
use Rattle.store_core.specs.Sound.{IsSound}
use Rattle.run_laws.specs.Contents.{HasBytes}
use Rattle.run_laws.proofs.ContentSteps.{steps_keep_bytes}
use Rattle.thread_laws.specs.MadeSteps.{MadeStep}
use Rattle.stripe_stamps.specs.Sealed.{Sealed}
use Rattle.turn_lock.specs.History.{Among, GoesOn, entries_of}
use Rattle.thread_laws.specs.AtDirectory.{StandsAtDirectory}
use Rattle.thread_laws.specs.AtServer.{StandsAtServer}
use Rattle.thread_laws.specs.Entries.{steps_in, next_moment}
use Rattle.thread_laws.specs.Noted.{Noted, IsCaller, made_in}
use Rattle.thread_laws.specs.Numbers.{Counts, IsTurnOf}
use Rattle.thread_laws.proofs.Adding.{moment_above, moment_after}
use Rattle.thread_laws.proofs.DirectoryAdding.{directories_stand_on}
use Rattle.thread_laws.proofs.PlaceOwn.{one_more, prefix_more}
use Rattle.thread_laws.proofs.ServerAdding.{servers_stand_on}
use Rattle.thread_laws.specs.Plain.{HasAddedAtServer, HasAddedAtDirectory}
use Rattle.run_seats.specs.Plain.{plain_at_server, plain_at_directory}

-- ---- at a server
module _ (server number last : ℕ) (who : Actor) (step : ServerStep) (s now : Server) (stepped : now ≡ (at_server false step s).0) (log : List (ℕ × MadeStep)) where
  abbrev entry : ℕ × MadeStep
  entry = plain_at_server number who (Act.AtServer server step) s log last

  pub plain_stands : (of : Counts) → StandsAtServer of server s log → IsTurnOf of number who → StandsAtServer of server now (log ++ entry ∷ [])
  plain_stands of stands turn =
      subst (λ (x : Server). StandsAtServer of server x (log ++ entry ∷ [])) (sym stepped)
      (servers_stand_on of server s log entry stands (record { here = eq-eqb server server refl; answers = refl; above = moment_above (steps_in log) last; turn = turn }))

  abbrev pub plain_added : (numbers : List ℕ) (seen seen_now : List (ℕ × MadeStep)) → Among number numbers → GoesOn numbers seen log → seen_now ≡ log ++ entry ∷ []
      → HasAddedAtServer number last seen seen_now who (Act.AtServer server step)
  plain_added numbers seen seen_now among goes is =
      record {
        answer = (at_server false step s).1;
        moment = next_moment (steps_in log) last;
        above = moment_after (steps_in log) last;
        goes = subst (IsPrefix seen) (sym is) (prefix_more seen log (entry ∷ []) goes.0);
        more = ap (entries_of number) is ∙ one_more number numbers seen log entry.1 among goes;
      }

-- ---- at the directory
-- a step without a call
abbrev pub IsPlain : DirectoryStep → Type 0
IsPlain DirectoryStep.NextGarbage = Unit {0}
IsPlain (DirectoryStep.Swept version) = Unit {0}
IsPlain (DirectoryStep.Reap reaped) = Unit {0}
IsPlain step = ⊥

if_same : {A : Type 0} (P Q : A → Type 0) (o : Option A) → ((x : A) → P x → Q x) → IfSome o P → IfSome o Q
if_same P Q None f h = tt
if_same P Q (Some x) f h = f x h

-- keeps the bytes of the map
bytes_stay : (script : Script) (who : Actor) (step : DirectoryStep) (d : Directory) → IsPlain step → 0 < stripe_length d.shape → IsSound d → HasBytes (call_of script) d
    → HasBytes (call_of script) (at_directory false who 0 step d).0
bytes_stay script who DirectoryStep.NextGarbage d plain wide sound has = (steps_keep_bytes (call_of script)).step false who 0 DirectoryStep.NextGarbage d wide sound has tt tt
bytes_stay script who (DirectoryStep.Swept version) d plain wide sound has = (steps_keep_bytes (call_of script)).step false who 0 (DirectoryStep.Swept version) d wide sound has tt tt
bytes_stay script who (DirectoryStep.Reap reaped) d plain wide sound has = (steps_keep_bytes (call_of script)).step false who 0 (DirectoryStep.Reap reaped) d wide sound has tt tt
bytes_stay script who step d plain wide sound has = absurd plain

module _ (number last : ℕ) (who : Actor) (nobody : IsCaller who → ⊥) (step : DirectoryStep) (plain : IsPlain step) (d now : Sealed) (stepped : now.core ≡ (at_directory false who 0 step d.core).0)
    (log : List (ℕ × Noted)) where
  abbrev note : ℕ × Noted
  note = plain_at_directory number who (Act.AtDirectory step) d log last

  pub plain_stands_there : (of : Counts) (max : ℕ) → 0 < stripe_length d.core.shape → IsSound d.core → now.book ≡ d.book → now.stamps ≡ d.stamps → StandsAtDirectory of max d log → IsTurnOf of number who
      → StandsAtDirectory of max now (log ++ note ∷ [])
  plain_stands_there of max wide sound book stamps stands turn =
      directories_stand_on of max d now log note stands
      (record {
        here = refl;
        answers = refl;
        above = moment_above (made_in log) last;
        turn = turn;
        leads = stepped;
        book = book;
        stamps = stamps ∙ sym (append-nil d.stamps);
        agrees = λ caller. absurd (nobody caller);
        bytes =
            if_same (λ script. HasBytes (call_of script) d.core) (λ script. HasBytes (call_of script) now.core) d.book.script
            (λ script has. subst (HasBytes (call_of script)) (sym stepped) (bytes_stay script who step d.core plain wide sound has)) stands.bytes;
      })

  abbrev pub plain_added_there : (numbers : List ℕ) (seen seen_now : List (ℕ × Noted)) → Among number numbers → GoesOn numbers seen log → seen_now ≡ log ++ note ∷ []
      → HasAddedAtDirectory number last seen seen_now who (Act.AtDirectory step)
  plain_added_there numbers seen seen_now among goes is =
      record {
        answer = (at_directory false who 0 step d.core).1;
        moment = next_moment (made_in log) last;
        above = moment_after (made_in log) last;
        goes = subst (IsPrefix seen) (sym is) (prefix_more seen log (note ∷ []) goes.0);
        more = ap (entries_of number) is ∙ one_more number numbers seen log note.1 among goes;
      }
