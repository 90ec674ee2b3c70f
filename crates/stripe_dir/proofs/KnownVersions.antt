-- Versions that stand in an object or were drawn by a pass are no swept ones.
use Rattle.std.proofs.Common.{◌≡◌, ◌⊎◌, ℕ, ◌<◌, ◌≤◌, true, List, length, get_or, slice_get, Option, None, Some, IfSome, IsTrue, All, find, inl, inr, refl, ap, subst, ◌∙◌, arith}
use Rattle.std.proofs.lemmas.Option.{slice_get_cases}
use Rattle.store_map.specs.declared.actor.Actor.{Actor}
use Rattle.store_core.specs.Directory.{Standing, Version, Pass, Directory}
use Rattle.store_core.specs.Lookups.{same_actor, is_live}
use Rattle.store_core.specs.SoundPasses.{Stands, IsLive}
use Rattle.store_core.specs.Sound.{IsSound}
use Rattle.version_table.specs.Known.{is_unswept_standing, IsKnown}
use Rattle.version_table.proofs.Known.{known_standing}
use Rattle.stripe_dir.proofs.Ending.{found_has}

pub stands_known : (d : Directory) (standing : Standing) (v : ℕ) → is_unswept_standing standing ≡ true → Stands d standing v → IsKnown d.versions v
stands_known d standing v unswept stands = by (slice_get_cases d.versions v).1
  where
    by : ((x : Version) × (v < length d.versions) × (slice_get d.versions v ≡ Some x) × (get_or d.versions v x ≡ x)) ⊎ ((length d.versions ≤ v) × (slice_get d.versions v ≡ None)) → IsKnown d.versions v
    by (inr k) = absurd (let past : length d.versions ≤ v = k.0 in omega (arith, past, stands.1))
    by (inl k) =
        let is : k.0.standing ≡ standing = subst (λ (o : Option Version). IfSome o (λ x. x.standing ≡ standing)) k.2 stands.0 in
        known_standing d.versions v k.0 k.2 (ap is_unswept_standing is ∙ unswept)

pub all_known : (d : Directory) (standing : Standing) (versions : List ℕ) → is_unswept_standing standing ≡ true → All (Stands d standing) versions → All (IsKnown d.versions) versions
all_known d standing versions unswept all = λ k x less. stands_known d standing (get_or versions k x) unswept (all k x less)

-- what a pass drew that isn't reaped
pub drawn_known : (d : Directory) → IsSound d → (who : Actor) (p : Pass) → find (λ pass. same_actor who pass.actor) d.passes ≡ Some p → IsTrue (is_live p.reaped) → All (IsKnown d.versions) p.drawn
drawn_known d sound who p found live =
    let alive : IsLive d p = found_has (λ (q : Pass). IsTrue (is_live q.reaped) → IsLive d q) (λ (q : Pass). same_actor who q.actor) d.passes p sound.live found live in
    all_known d Standing.Drawn p.drawn refl alive.drawn
