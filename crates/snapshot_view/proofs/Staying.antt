-- What stays of a snapshot, whatever steps others make.
use Rattle.std.proofs.Common.{◌≡◌, ◌<◌, ℕ, Bool, true, false, ◌&&◌, nat_eq, List, length, get_or, slice_get, Option, None, Some, All, IfSome, IsTrue, refl, ap, subst, ◌∙◌}
use Rattle.std.specs.List.{list_any}
use Rattle.std.proofs.lemmas.Bool.{eq-eqb}
use Rattle.std.proofs.lemmas.List.Elements.{All-nil}
use Rattle.std.proofs.lemmas.List.Folds.{list_any_at}
use Rattle.std.proofs.lemmas.Option.{get_or_from_slice_get, slice_get_within}
use Rattle.store_map.specs.declared.actor.Actor.{Actor}
use Rattle.store_core.specs.Act.{DirectoryStep}
use Rattle.store_core.specs.Directory.{Pin, Pass, Directory}
use Rattle.store_core.specs.Lookups.{same_actor, is_live, is_pinned}
use Rattle.store_core.specs.AtDirectory.{at_directory}
use Rattle.store_core.specs.Agreement.{ActorToken, Agrees}
use Rattle.store_core.specs.Tokens.{actor_of}
use Rattle.run_laws.proofs.SoundLists.{found_at}
use Rattle.run_laws.proofs.BesideSteps.{others_agree}
use Rattle.stripe_dir.specs.Installed.{IsLiveIn}
use Rattle.snapshot_view.specs.Tickets.{AgreesWithAll, pins_of}
use Rattle.snapshot_view.specs.Laws.{SnapshotsStay}

others_stay : (short : Bool) (who : Actor) (number : ℕ) (step : DirectoryStep) (d : Directory) (tokens : List ActorToken)
    → All (λ token. same_actor who (actor_of token) ≡ false) tokens → AgreesWithAll d tokens → AgreesWithAll (at_directory short who number step d).0 tokens
others_stay short who number step d tokens apart agrees = record {
  each = λ k token less. others_agree short who number step d (get_or tokens k token) (apart k token less) (agrees.each k token less);
  apart = agrees.apart;
}

-- a version that a pass pins which isn't reaped
abbrev pins : Pass → ℕ → Bool
pins pass version = list_any (λ (pin : Pin). nat_eq version pin.version) pass.pinned

pins_its : (pass : Pass) (k : ℕ) (pin : Pin) → k < length pass.pinned → pins pass (get_or pass.pinned k pin).version ≡ true
pins_its pass k pin less = list_any_at (λ (other : Pin). nat_eq (get_or pass.pinned k pin).version other.version) pass.pinned k pin less (eq-eqb (get_or pass.pinned k pin).version (get_or pass.pinned k pin).version refl)

stays_pinned : (d : Directory) (token : ActorToken) → Agrees d token → IsLiveIn d (actor_of token) → All (λ pin. IsTrue (is_pinned d pin.version)) (pins_of token)
stays_pinned d (ActorToken.Seated seat) agrees live = All-nil (λ pin. IsTrue (is_pinned d pin.version))
stays_pinned d (ActorToken.InCall held) agrees live = λ k pin less.
    let version : ℕ = (get_or held.pass.pinned k pin).version in
    list_any_at (λ (pass : Pass). is_live pass.reaped && pins pass version) d.passes place.0 own (slice_get_within d.passes place.0 own place.1)
    (ap (λ (pass : Pass). is_live pass.reaped && pins pass version) (get_or_from_slice_get d.passes place.0 own own place.1)
    ∙ ap (λ reap. is_live reap && pins held.pass version) alive ∙ pins_its held.pass k pin less)
  where
    own : Pass
    own = record (held.pass) { reaped = agrees.reap }

    place : (i : ℕ) × (slice_get d.passes i ≡ Some own) × (same_actor held.pass.actor own.actor ≡ true)
    place = found_at (λ (pass : Pass). same_actor held.pass.actor pass.actor) d.passes own agrees.is_pass

    alive : agrees.reap ≡ None
    alive = subst (λ (found : Option Pass). IfSome found (λ pass. pass.reaped ≡ None)) agrees.is_pass live

pub snapshots_stay : SnapshotsStay
snapshots_stay = record { others = others_stay; pinned = stays_pinned }
