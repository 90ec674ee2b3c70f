-- That versions are of the stripes at which they stand, are pinned and were drawn, by the stripes of all versions.
use Rattle.std.specs.Prelude.{◌≡◌, ℕ, ◌+◌, ◌/◌, ◌<◌, List, length, get_or, map, All}
use Rattle.clay_grid.specs.Shape.{Shape, stripe_length}
use Rattle.store_core.specs.Directory.{Object, Version, Pass, Directory}
use Rattle.store_core.specs.Sound.{IsSound}

-- the version with this number, if there is one, is of this stripe
abbrev pub IsOfStripe : List ℕ → ℕ → ℕ → Type 0
IsOfStripe stripes version stripe = get_or stripes version stripe ≡ stripe

-- these are versions of the stripes from a first one on
abbrev pub AreFrom : List ℕ → ℕ → List ℕ → Type 0
AreFrom stripes first versions = (place : ℕ) → place < length versions → IsOfStripe stripes (get_or versions place 0) (first + place)

-- a pass pins versions of its pins' stripes, and drew versions of the stripes that its call touches
pub record IsOfItsStripes (stripes : List ℕ) (g : Shape) (pass : Pass) : Type 0 where
  pub pinned : All (λ pin. IsOfStripe stripes pin.version pin.stripe) pass.pinned
  pub drawn : AreFrom stripes (pass.note.offset / stripe_length g) pass.drawn

-- so it is of all objects and all passes
pub record AreOwn (stripes : List ℕ) (g : Shape) (stored : List Object) (begun : List Pass) : Type 0 where
  pub objects : All (λ object. AreFrom stripes 0 object.versions) stored
  pub passes : All (IsOfItsStripes stripes g) begun

-- the stripes of versions
abbrev pub stripes_in : List Version → List ℕ
stripes_in versions = map (λ version. version.stripe) versions

-- a directory that is sound, with versions of their own stripes
pub record IsWhole (d : Directory) : Type 0 where
  pub sound : IsSound d
  pub own : AreOwn (stripes_in d.versions) d.shape d.objects d.passes
