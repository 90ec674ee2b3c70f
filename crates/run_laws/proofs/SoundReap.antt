-- A reap keeps a directory sound.
use Rattle.std.proofs.Common.{◌≡◌, ℕ, false, length, get_or, map, Option, None, Some, All, Contains, refl, sym, ap, ◌∙◌, inl, arith}
use Rattle.std.proofs.lemmas.Bool.{true≢false}
use Rattle.std.proofs.lemmas.List.Elements.{All-map, All-contains, Contains-get_or}
use Rattle.store_map.specs.declared.actor.Actor.{Actor}
use Rattle.store_core.specs.Directory.{Standing, Pass, Event, Point, Directory}
use Rattle.store_core.specs.Lookups.{same_actor, pass_of}
use Rattle.store_core.specs.Look.{set_standing}
use Rattle.store_core.specs.AtDirectory.{reap_pass, reap}
use Rattle.store_core.specs.SoundPasses.{Stands, IsOfItsCall}
use Rattle.store_core.specs.Sound.{AreInOrder, IsSound}
use Rattle.run_laws.proofs.SoundAdds.{point_added}
use Rattle.run_laws.proofs.SoundClose.{IsHeld, held_pass, one_pass, drawn_apart, marked, marked_both, marked_sound, marked_left, given_up}
use Rattle.run_laws.proofs.SoundEnd.{live_pass}

module _ (d : Directory) (sound : IsSound d) (pass : Pass) (held : IsHeld d pass) (live : pass.reaped ≡ None) where
  -- the pass is marked with the new point
  abbrev reap_at : Pass → Pass
  reap_at = marked pass (length d.points)

  -- the directory with the pass marked as reaped
  abbrev marked_there : Directory
  marked_there = record d { passes = map reap_at d.passes }

  -- the new point
  abbrev reap_point : Point
  reap_point = record { actor = pass.actor; number = pass.number; note = pass.note; event = Event.Reaped }

  -- what the pass drew is given up
  without_drawn : IsSound (record marked_there { versions = set_standing Standing.Superseded pass.drawn d.versions })
  without_drawn =
      given_up marked_there (marked_sound pass (length d.points) d sound) pass.drawn
      (λ n c. All-contains (Stands d Standing.Drawn) pass.drawn n (live_pass d sound pass held live).drawn c)
      (λ other has lives n mine others.
      let left : Contains d.passes other × (same_actor pass.actor other.actor ≡ false) = marked_left pass (length d.points) d other has lives in
      drawn_apart d sound pass other held left.0 left.1 n mine others)

  -- the point comes after its actor's points
  own_point : (earlier : Point) → Contains d.points earlier → AreInOrder earlier reap_point
  own_point earlier has =
      let right : IsOfItsCall pass earlier =
      All-contains (IsOfItsCall pass) d.points earlier (All-contains (λ (p : Pass). All (IsOfItsCall p) d.points) d.passes pass sound.newest held.has) has in
      record { numbers = right.not_later; once = λ _ _ _. refl }

  -- and is of no later call than a pass's
  of_its_call : (other : Pass) → Contains d.passes other → IsOfItsCall (reap_at other) reap_point
  of_its_call other has =
      marked_both pass (length d.points) (λ p. IsOfItsCall p reap_point) other
      (λ same.
      let e : pass.number ≡ other.number = ap (λ (p : Pass). p.number) (one_pass d sound pass other held has same) in
      record { not_later = λ _. omega (arith, e); own = λ _ _. inl refl })
      (λ apart. record { not_later = λ same. absurd (true≢false (sym same ∙ apart)); own = λ _ _. inl refl })

  -- so of each pass then
  all_of_their_calls : (other : Pass) → Contains (map reap_at d.passes) other → IsOfItsCall other reap_point
  all_of_their_calls other has =
      All-contains (λ (p : Pass). IsOfItsCall p reap_point) (map reap_at d.passes) other
      (All-map (λ (p : Pass). IsOfItsCall p reap_point) reap_at d.passes (λ k p less. of_its_call (get_or d.passes k p) (Contains-get_or d.passes k p less))) has

  -- the reap keeps the directory sound
  reaped_sound : IsSound (reap_pass pass None d).0
  reaped_sound =
      point_added (record marked_there { versions = set_standing Standing.Superseded pass.drawn d.versions }) reap_point without_drawn refl tt refl own_point all_of_their_calls

-- where the actor has a pass or none
pub reap_sound : (who : Actor) (d : Directory) → IsSound d → IsSound (reap (pass_of who d) d).0
reap_sound who d sound = by (pass_of who d) refl
  where
    open_or_not : (pass : Pass) → pass_of who d ≡ Some pass → (reaped : Option ℕ) → pass.reaped ≡ reaped → IsSound (reap_pass pass reaped d).0
    open_or_not pass e None live = reaped_sound d sound pass (held_pass who d pass e) live
    open_or_not pass e (Some point) dead = sound

    by : (found : Option Pass) → pass_of who d ≡ found → IsSound (reap found d).0
    by None e = sound
    by (Some pass) e = open_or_not pass e pass.reaped refl
