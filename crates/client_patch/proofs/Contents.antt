-- The bytes of the version at work.
use Rattle.std.proofs.Common.{◌≡◌, ℕ, ◌+◌, true, List, Option, None, Some, IfSome, option_map, refl, ap, ◌∙◌}
use Rattle.std.specs.Option.{option_and_then}
use Rattle.std.specs.List.{slice_get}
use Rattle.store_map.specs.declared.call.Call.{Call}
use Rattle.run_laws.specs.State.{State}
use Rattle.version_seal.specs.Entry.{BookOf, StampOf}
use Rattle.write_course.specs.Writings.{WritingOf, begins_version, place_of, stamp_at_work}
use Rattle.client_patch.specs.Kept.{new_of}
use Rattle.client_patch.specs.Holds.{IsOfCall}

pub content_at_work : (book : BookOf) (written : Call) (size : ℕ) (kept : List ℕ) (w : WritingOf) (stripe : ℕ) → IsOfCall book written size kept w
    → option_map (λ place. w.first + place) (place_of w.state) ≡ Some stripe
    → IfSome (stamp_at_work w) (λ stamp. stamp.content ≡ new_of book.geometry written size kept stripe)
content_at_work book written size kept w stripe its is = by (place_of w.state) is
  where
    there : (place : ℕ) (found : Option StampOf) → slice_get w.stamps place ≡ found → w.first + place ≡ stripe → IfSome found (λ stamp. stamp.content ≡ new_of book.geometry written size kept stripe)
    there place None e at = tt
    there place (Some stamp) e at = its.contents place stamp e ∙ ap (new_of book.geometry written size kept) at

    by : (place : Option ℕ) → option_map (λ place. w.first + place) place ≡ Some stripe
        → IfSome (option_and_then (λ place. slice_get w.stamps place) place) (λ stamp. stamp.content ≡ new_of book.geometry written size kept stripe)
    by None e = absurd (cc)
    by (Some place) e =
        let at : w.first + place ≡ stripe = cc in
        there place (slice_get w.stamps place) refl at

-- a version that begins has a place
pub due_has_place : (first : ℕ) (at : State) → begins_version at ≡ true → ◌≡◌ {A = Option ℕ} None (option_map (λ place. first + place) (place_of at)) → ⊥
due_has_place first (State.Preparing stripe version asked servers row later placed versions) begins e = cc
due_has_place first _ begins e = cc
