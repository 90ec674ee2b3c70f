-- Versions that aren't swept stay so.
use Rattle.std.proofs.Common.{◌≡◌, ◌≢◌, ◌⊎◌, ℕ, true, List, [], ◌∷◌, slice_get, Option, None, Some, refl, ap, subst, ◌∙◌, inl, inr}
use Rattle.std.proofs.lemmas.Bool.{false≢true, cases_eq}
use Rattle.store_map.specs.declared.placement.Placement.{Placement}
use Rattle.store_core.specs.Lists.{change_at}
use Rattle.store_core.specs.Directory.{Version, Standing}
use Rattle.store_core.specs.Look.{set_standing}
use Rattle.store_core.specs.Commit.{place_all}
use Rattle.store_core.specs.Lookups.{holds_standing}
use Rattle.version_table.specs.Known.{is_unswept_standing, IsKnown}
use Rattle.version_table.proofs.Changes.{change_here, slice_get-change_at}

-- one that is there with such a standing
pub known_standing : (versions : List Version) (n : ℕ) (v : Version) → slice_get versions n ≡ Some v → is_unswept_standing v.standing ≡ true → IsKnown versions n
known_standing versions n v there unswept = ap (holds_standing is_unswept_standing) there ∙ unswept

pub still_known : (m n : ℕ) (f : Version → Version) (versions : List Version) → ((v : Version) → is_unswept_standing v.standing ≡ true → is_unswept_standing (f v).standing ≡ true)
    → IsKnown versions n → IsKnown (change_at m f versions) n
still_known m n f versions keeps known = by (cases_eq n m)
  where
    here : (o : Option Version) → slice_get versions n ≡ o → holds_standing is_unswept_standing o ≡ true → IsKnown (change_at n f versions) n
    here None there h = absurd (false≢true h)
    here (Some v) there h = ap (holds_standing is_unswept_standing) (change_here n f versions v there) ∙ keeps v h

    by : (n ≡ m) ⊎ (n ≢ m) → IsKnown (change_at m f versions) n
    by (inl same) = subst (λ (k : ℕ). IsKnown (change_at k f versions) n) same (here (slice_get versions n) refl known)
    by (inr apart) = ap (holds_standing is_unswept_standing) (slice_get-change_at m n f versions apart) ∙ known

pub known_set : (standing : Standing) → is_unswept_standing standing ≡ true → (numbers : List ℕ) (versions : List Version) (n : ℕ) → IsKnown versions n → IsKnown (set_standing standing numbers versions) n
known_set standing unswept [] versions n known = known
known_set standing unswept (number ∷ numbers) versions n known =
    known_set standing unswept numbers (change_at number (λ version. record version { standing = standing }) versions) n
    (still_known number n (λ (version : Version). record version { standing = standing }) versions (λ v h. unswept) known)

pub known_placed : (drawn : List (ℕ × List Placement)) (versions : List Version) (n : ℕ) → IsKnown versions n → IsKnown (place_all drawn versions) n
known_placed [] versions n known = known
known_placed (entry ∷ drawn) versions n known =
    known_placed drawn (change_at entry.0 (λ version. record version { placed = entry.1; standing = Standing.Current }) versions) n
    (still_known entry.0 n (λ (version : Version). record version { placed = entry.1; standing = Standing.Current }) versions (λ v h. refl) known)
