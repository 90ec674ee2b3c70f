-- What a write knows of its old bytes, with more stamps.
use Rattle.std.proofs.Common.{◌≡◌, ℕ, zero, suc, ◌<◌, nat_eq, true, List, [], ◌∷◌, ◌++◌, length, get_or, find, slice_get, Option, None, Some, option_map, All, refl, sym, ap, subst, ◌∙◌, arith, length-append}
use Rattle.std.specs.Option.{option_and_then}
use Rattle.store_core.specs.Agreement.{HeldPass, ActorToken}
use Rattle.store_core.specs.Directory.{Pin, Pass}
use Rattle.store_core.specs.Note.{Note, note_of}
use Rattle.run_laws.specs.State.{State}
use Rattle.run_laws.proofs.SoundLists.{at_all, found_at}
use Rattle.version_seal.specs.Entry.{StampOf, BookOf, old_bytes}
use Rattle.stripe_stamps.specs.Sealed.{base_stamp}
use Rattle.call_steps.specs.TokenAfter.{IfInCall}
use Rattle.client_patch.specs.Known.{AreOldBytes, UpToDraw, MoreStampsAreKnown}

known_more : (H K : Type 0) → (H → K) → (at : State) → UpToDraw at H → UpToDraw at K
known_more H K f (State.Gather aim asking parts after) h = f h
known_more H K f State.Drawing h = f h
known_more H K f State.Start h = tt
known_more H K f (State.Parts part parts after) h = tt
known_more H K f (State.Chunk seen target) h = tt
known_more H K f (State.Preparing stripe version server servers row later placed versions) h = tt
known_more H K f (State.Committing versions placed) h = tt
known_more H K f (State.Committed versions) h = tt
known_more H K f (State.Settling point place places) h = tt
known_more H K f (State.Confirming seen target) h = tt
known_more H K f (State.Installing seen target) h = tt
known_more H K f (State.Placing target epoch) h = tt
known_more H K f (State.Ending outcome) h = tt
known_more H K f (State.Finished outcome) h = tt

in_call_more : (P Q : HeldPass → Type 0) → ((held : HeldPass) → P held → Q held) → (token : ActorToken) → IfInCall token P → IfInCall token Q
in_call_more P Q f (ActorToken.Seated seat) h = tt
in_call_more P Q f (ActorToken.InCall held) h = f held h

slice_front : {X : Type 0} (xs ys : List X) (k : ℕ) → k < length xs → slice_get (xs ++ ys) k ≡ slice_get xs k
slice_front [] ys k less = absurd (omega (arith, less))
slice_front (x ∷ xs) ys zero less = refl
slice_front (x ∷ xs) ys (suc k) less = slice_front xs ys k (omega (arith, less))

base_stays : (stamps more : List StampOf) (pins : List Pin) → All (λ pin. pin.version < length stamps) pins → (stripe : ℕ) → base_stamp (stamps ++ more) pins stripe ≡ base_stamp stamps pins stripe
base_stays stamps more pins within stripe = by (find (λ (pin : Pin). nat_eq stripe pin.stripe) pins) refl
  where
    by : (found : Option Pin) → find (λ (pin : Pin). nat_eq stripe pin.stripe) pins ≡ found
        → option_and_then (λ version. slice_get (stamps ++ more) version) (option_map (λ (pin : Pin). pin.version) found) ≡ option_and_then (λ version. slice_get stamps version) (option_map (λ (pin : Pin). pin.version) found)
    by None e = refl
    by (Some pin) e =
        let place : (i : ℕ) × (slice_get pins i ≡ Some pin) × (nat_eq stripe pin.stripe ≡ true) = found_at (λ (pin : Pin). nat_eq stripe pin.stripe) pins pin e in
        slice_front stamps more pin.version (at_all (λ (pin : Pin). pin.version < length stamps) pins place.0 pin within place.1)

old_stay : (stamps more : List StampOf) (book : BookOf) (note : Note) (size : ℕ) (kept : List ℕ) (pass : Pass) → AreOldBytes stamps book note size kept pass → AreOldBytes (stamps ++ more) book note size kept pass
old_stay stamps more book note size kept pass old =
    record {
      pins = λ i x less.
          let here : (get_or pass.pinned i x).version < length stamps = old.pins i x less in
          subst (λ n. (get_or pass.pinned i x).version < n) (sym (length-append stamps more)) (omega (arith, here));
      bytes = λ place less. ap (old_bytes book.geometry) (base_stays stamps more pass.pinned old.pins _) ∙ old.bytes place less;
    }

pub more_stamps_are_known : MoreStampsAreKnown
more_stamps_are_known s now more p grown knows =
    let known : List StampOf → HeldPass → Type 0 = λ stamps held. AreOldBytes stamps p.call.book (note_of p.written) p.size p.kept held.pass in
    subst (λ stamps. UpToDraw p.call.state.at (IfInCall p.call.token (λ held. AreOldBytes stamps p.call.book (note_of p.written) p.size p.kept held.pass))) (sym grown)
    (known_more (IfInCall p.call.token (known s.stamps)) (IfInCall p.call.token (known (s.stamps ++ more)))
    (in_call_more (known s.stamps) (known (s.stamps ++ more)) (λ held. old_stay s.stamps more p.call.book (note_of p.written) p.size p.kept held.pass) p.call.token) p.call.state.at knows)
