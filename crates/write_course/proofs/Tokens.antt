-- The ticket of a call that writes.
use Rattle.std.proofs.Common.{◌≡◌, ℕ, ◌+◌, Bool, true, false, cond, ltb, List, [], ◌∷◌, ◌++◌, Some, refl, sym, ap, subst, ◌∙◌}
use Rattle.std.specs.List.{range_with_len}
use Rattle.clay_grid.specs.Shape.{Shape, chunk_count}
use Rattle.store_map.specs.declared.placement.Placement.{Placement}
use Rattle.store_core.specs.Told.{Told}
use Rattle.store_core.specs.Note.{Note}
use Rattle.store_core.specs.Act.{DirectoryStep, Outcome as CoreOutcome}
use Rattle.store_core.specs.Placements.{skipped_from, skipped_count}
use Rattle.store_core.specs.Server.{Server}
use Rattle.store_core.specs.Agreement.{Seat, HeldPass, ActorToken}
use Rattle.store_core.specs.Tokens.{actor_of, after_look, after_pass_step}
use Rattle.run_laws.specs.State.{State}
use Rattle.run_laws.specs.States.{prepare_state, prepare_all_state, settle_state}
use Rattle.run_laws.specs.WriteAfter.{unless_few, prepare_rest_state, preparing_after}
use Rattle.call_steps.specs.TokenAfter.{token_after, IsSeated}
use Rattle.write_course.specs.Writings.{server_of, begins_version, is_committing}
use Rattle.write_course.specs.WritingSteps.{stepped}
use Rattle.call_steps.specs.Ends.{is_ending}
use Rattle.write_course.specs.Holding.{IsHolding, HasToken, IsGivenUp}

module _ (number : ℕ) (note : Note) (drawn : List ℕ) (token : ActorToken) where
  -- after the commit
  pub settle_has : (point : ℕ) (places : List (ℕ × ℕ)) → IsSeated token → HasToken number note drawn token (settle_state point places)
  settle_has point [] h = h
  settle_has point (place ∷ places) h = h

  -- before it
  servers_have : (versions : List ℕ) (stripe version : ℕ) (later : List ℕ) (placed : List (List Placement)) (next : List Placement → State) (servers : List ℕ) (row : List Placement)
      → IsHolding number note drawn token → ((whole : List Placement) → HasToken number note drawn token (next whole))
      → HasToken number note drawn token (prepare_state versions stripe version later placed next servers row)
  servers_have versions stripe version later placed next [] row h on = on row
  servers_have versions stripe version later placed next (server ∷ servers) row h on = h

  pub prepare_has : (g : Shape) (versions : List ℕ) (stripe : ℕ) (later : List ℕ) (placed : List (List Placement)) → IsHolding number note drawn token
      → HasToken number note drawn token (prepare_all_state g versions stripe later placed)
  prepare_has g versions stripe [] placed h = h
  prepare_has g versions stripe (version ∷ later) placed h =
      servers_have versions stripe version later placed (λ row. prepare_all_state g versions (stripe + 1) later (placed ++ row ∷ [])) (range_with_len 0 (chunk_count g)) [] h
      (λ row. prepare_has g versions (stripe + 1) later (placed ++ row ∷ []) h)

  few_has : (g : Shape) (stripe : ℕ) (row : List Placement) (otherwise : State) → IsHolding number note drawn token → HasToken number note drawn token otherwise
      → HasToken number note drawn token (unless_few g stripe row otherwise)
  few_has g stripe row otherwise h on = by (ltb g.parity_count (skipped_count row))
    where
      by : (b : Bool) → HasToken number note drawn token (cond b (State.Ending (CoreOutcome.Unavailable stripe (skipped_from 0 row))) otherwise)
      by true = (h, refl)
      by false = on

  preparing_has : (g : Shape) (stripe version : ℕ) (servers : List ℕ) (row : List Placement) (later : List ℕ) (placed : List (List Placement)) (versions : List ℕ) (told : Told)
      → IsHolding number note drawn token → HasToken number note drawn token (preparing_after g stripe version servers row later placed versions told)
  preparing_has g stripe version servers row later placed versions (Told.Prepared placement) h =
      few_has g stripe (row ++ placement ∷ []) (prepare_rest_state g stripe version servers (row ++ placement ∷ []) later placed versions) h
      (servers_have versions stripe version later placed (λ whole. prepare_all_state g versions (stripe + 1) later (placed ++ whole ∷ [])) servers (row ++ placement ∷ []) h
      (λ whole. prepare_has g versions (stripe + 1) later (placed ++ whole ∷ []) h))
  preparing_has g stripe version servers row later placed versions _ h = (h, refl)

  -- a step at a server
  pub stepped_has : (g : Shape) (short : Bool) (s : Server) (at : State) (server : ℕ) → HasToken number note drawn token at → server_of at ≡ Some server
      → HasToken number note drawn token (stepped g short s at).1
  stepped_has g short s (State.Preparing stripe version asked servers row later placed versions) server h e = preparing_has g stripe version servers row later placed versions _ h
  stepped_has g short s (State.Settling point place places) server h e = settle_has point places h
  stepped_has g short s _ server h e = absurd (cc)

  -- want of memory in a coding
  pub short_has : (at : State) → HasToken number note drawn token at → begins_version at ≡ true → HasToken number note drawn token (State.Ending CoreOutcome.NoMemory)
  short_has (State.Preparing stripe version asked servers row later placed versions) h e = (h, refl)
  short_has _ h e = absurd (cc)

  -- the commit
  pub holds_to_commit : (at : State) → HasToken number note drawn token at → is_committing at ≡ true → IsHolding number note drawn token
  holds_to_commit (State.Committing versions placed) h e = h
  holds_to_commit _ h e = absurd (cc)

  -- the end of the pass
  pub holds_to_end : (at : State) → HasToken number note drawn token at → is_ending at ≡ true → IsHolding number note drawn token × IsGivenUp at
  holds_to_end (State.Ending outcome) h e = (h.0, record { ending = outcome; is = refl; pointless = h.1 })
  holds_to_end _ h e = absurd (cc)

-- a ticket stays with its actor
looks_stay : (seat : Seat) (number : ℕ) (note : Note) (told : Told) → actor_of (after_look seat number note told) ≡ seat.actor
looks_stay seat number note (Told.Answer point answer) = refl
looks_stay seat number note (Told.Pinned point length_now seen) = refl
looks_stay seat number note (Told.Ready base length_now seen) = refl
looks_stay seat number note (Told.PinnedStripe seen) = refl
looks_stay seat number note _ = refl

passes_stay : (held : HeldPass) (told : Told) → actor_of (after_pass_step held told) ≡ held.pass.actor
passes_stay held (Told.Versions versions) = refl
passes_stay held (Told.Done point) = refl
passes_stay held (Told.Changed base newer) = refl
passes_stay held Told.Ended = refl
passes_stay held (Told.Superseded newer) = refl
passes_stay held (Told.Reaped point) = refl
passes_stay held _ = refl

pub token_stays : (token : ActorToken) (number : ℕ) (step : DirectoryStep) (told : Told) → actor_of (token_after token number step told) ≡ actor_of token
token_stays (ActorToken.Seated seat) number (DirectoryStep.Look note) told = looks_stay seat number note told
token_stays (ActorToken.Seated seat) number (DirectoryStep.LookRepair note) told = looks_stay seat number note told
token_stays (ActorToken.Seated seat) number _ told = refl
token_stays (ActorToken.InCall held) number step told = passes_stay held told

-- the seat after a pass
pub seated_by : (token now : ActorToken) (number : ℕ) (step : DirectoryStep) (held : HeldPass) (told : Told) → token ≡ ActorToken.InCall held → now ≡ token_after token number step told
    → IsSeated (after_pass_step held told) → IsSeated now
seated_by token now number step held told is after seated =
    subst IsSeated (sym (after ∙ ap (λ (t : ActorToken). token_after t number step told) is)) seated
