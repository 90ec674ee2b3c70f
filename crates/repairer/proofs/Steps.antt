-- Steps of a rebuild.
use Rattle.std.proofs.Common.{◌≡◌, ℕ, Bool, false, List, refl, sym, ap, subst, ◌∙◌}
use Rattle.std.specs.Prelude.{⊤}
use Rattle.store_map.specs.declared.call.Rebuild.{Rebuild}
use Rattle.store_core.specs.Note.{Note}
use Rattle.store_core.specs.Told.{Told, Seen as CoreSeen}
use Rattle.store_core.specs.Act.{Act, DirectoryStep, ServerStep, Outcome}
use Rattle.store_core.specs.Directory.{Directory}
use Rattle.store_core.specs.AtDirectory.{at_directory}
use Rattle.store_core.specs.Server.{Server, at_server}
use Rattle.store_core.specs.Agreement.{ActorToken}
use Rattle.store_core.specs.Tokens.{actor_of}
use Rattle.run_laws.specs.State.{State}
use Rattle.run_laws.specs.States.{open_state}
use Rattle.run_laws.specs.GatherAfter.{ending_after, confirming_after}
use Rattle.version_seal.specs.Entry.{BookOf}
use Rattle.call_steps.specs.CallOf.{heard}
use Rattle.stripe_dir.specs.declared.directory_answers.Ended.{Ended}
use Rattle.stripe_dir.specs.declared.directory_answers.Ended.TheVariants as answer
use Rattle.stripe_dir.specs.Answers.{told_ended}
use Rattle.call_steps.specs.TokenAfter.{token_after, IsSeated}
use Rattle.call_steps.specs.Steps.{stepped_at_directory, stepped_at_server}
use Rattle.repairer.specs.Calls.{call_at}
use Rattle.repairer.specs.Parts.{MayStart, IsOfCall}

-- the pass is ended
pub ended : (book : BookOf) (rebuild : Rebuild) (number : ℕ) (token next : ActorToken) (takes : List ℕ) (due coding step : Bool) (outcome done : Outcome) (told : Told)
    (d after : Directory)
    → (after, told) ≡ at_directory false (actor_of token) number DirectoryStep.End d
    → next ≡ token_after token number DirectoryStep.End told
    → State.Finished done ≡ ending_after outcome told
    → (after, call_at book rebuild number next (State.Finished done) takes due false false)
    ≡ stepped_at_directory false due (call_at book rebuild number token (State.Ending outcome) takes due coding step) d
ended book rebuild number token next takes due coding step outcome done told d after made goes ends =
    (λ i. (after, call_at book rebuild number (goes i) (open_state book.geometry (ends i)) takes due false false))
    ∙ ap (λ (both : Directory × Told).
    (both.0, call_at book rebuild number (token_after token number DirectoryStep.End both.1) (open_state book.geometry (ending_after outcome both.1)) takes due false false)) made

-- its version is confirmed, or isn't
pub confirmed : (book : BookOf) (rebuild : Rebuild) (number : ℕ) (token next : ActorToken) (seen : CoreSeen) (takes : List ℕ) (due was coding step : Bool) (at : State) (told : Told)
    (d after : Directory)
    → (after, told) ≡ at_directory false (actor_of token) number DirectoryStep.Confirm d
    → next ≡ token_after token number DirectoryStep.Confirm told
    → at ≡ open_state book.geometry (confirming_after seen rebuild.server told)
    → (after, call_at book rebuild number next at takes due false false)
    ≡ stepped_at_directory false due (call_at book rebuild number token (State.Confirming seen rebuild.server) takes was coding step) d
confirmed book rebuild number token next seen takes due was coding step at told d after made goes stands =
    (λ i. (after, call_at book rebuild number (goes i) (stands i) takes due false false))
    ∙ ap (λ (both : Directory × Told). (
      both.0,
      call_at book rebuild number (token_after token number DirectoryStep.Confirm both.1) (open_state book.geometry (confirming_after seen rebuild.server both.1)) takes due false false,
    )) made

-- its chunk is placed
pub placed : (book : BookOf) (rebuild : Rebuild) (number : ℕ) (token : ActorToken) (seen : CoreSeen) (takes : List ℕ) (due was coding step : Bool) (version epoch : ℕ)
    (s after : Server)
    → (after, Told.Placed epoch) ≡ at_server false (ServerStep.Install version) s → version ≡ seen.version
    → (after, call_at book rebuild number token (State.Placing rebuild.server epoch) takes due false false)
    ≡ stepped_at_server false due (call_at book rebuild number token (State.Installing seen rebuild.server) takes was coding step) s
placed book rebuild number token seen takes due was coding step version epoch s after made is =
    ap (λ (both : Server × Told). (
      both.0,
      heard (call_at book rebuild number token (State.Installing seen rebuild.server) takes was coding step) (Act.AtServer rebuild.server (ServerStep.Install seen.version)) both.1 false due,
    ))
    (made ∙ ap (λ v. at_server false (ServerStep.Install v) s) is)

-- a rebuild that has seen its stripe has a pass
pub begun : (token next : ActorToken) (number : ℕ) (note : Note) (seen : CoreSeen) → MayStart token number note
    → next ≡ token_after token number (DirectoryStep.LookRepair note) (Told.PinnedStripe seen) → IsOfCall next number note
begun (ActorToken.Seated seat) next number note seen may e = subst (λ (t : ActorToken). IsOfCall t number note) (sym e) (refl, refl)
begun (ActorToken.InCall held) next number note seen may e = absurd may

-- and one whose pass has ended is in no call
pub end_seats : (token next : ActorToken) (number : ℕ) (note : Note) (step : DirectoryStep) (told : Ended ⊤) → IsOfCall token number note
    → next ≡ token_after token number step (told_ended told) → IsSeated next
end_seats (ActorToken.Seated seat) next number note step told its e = absurd its
end_seats (ActorToken.InCall held) next number note step (answer.Ended seat) its e = subst IsSeated (sym e) tt
end_seats (ActorToken.InCall held) next number note step (answer.Reaped seat at) its e = subst IsSeated (sym e) tt
