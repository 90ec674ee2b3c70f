-- Lists of answers, and elements of lists that were mapped or joined.
use Rattle.std.proofs.Common.{◌≡◌, ◌⊎◌, inl, inr, ℕ, suc, List, [], ◌∷◌, ◌++◌, map, Contains, Option, None, Some, option_map, refl, sym, ap, ◌∙◌}
use Rattle.std.proofs.lemmas.Option.{none-some, same_Some, slice_get-map}
use Rattle.std.specs.List.{slice_get}
use Rattle.store_core.specs.Told.{Told}
use Rattle.run_laws.specs.GatherLaws.{Tells}
use Rattle.run_laws.proofs.SoundLists.{contains_at, at_contains}

-- an answer that is told is among the answers
tells_at : (told : List Told) (this : Told) → Tells (λ answer. answer ≡ this) told → (k : ℕ) × (slice_get told k ≡ Some this)
tells_at [] this h = absurd h
tells_at (answer ∷ told) this (inl e) = (0, ap Some e)
tells_at (answer ∷ told) this (inr h) = let later : (k : ℕ) × (slice_get told k ≡ Some this) = tells_at told this h in (suc later.0, later.1)

pub told_in : (told : List Told) (this : Told) → Tells (λ answer. answer ≡ this) told → Contains told this
told_in told this h = let at : (k : ℕ) × (slice_get told k ≡ Some this) = tells_at told this h in contains_at told at.0 this at.1

-- with one more
pub tells_push : (P : Told → Type 0) (told : List Told) (last : Told) → Tells P (told ++ last ∷ []) → Tells P told ⊎ P last
tells_push P [] last (inl h) = inr h
tells_push P [] last (inr h) = absurd h
tells_push P (answer ∷ told) last (inl h) = inl (inl h)
tells_push P (answer ∷ told) last (inr h) = by (tells_push P told last h)
  where
    by : Tells P told ⊎ P last → Tells P (answer ∷ told) ⊎ P last
    by (inl k) = inl (inr k)
    by (inr k) = inr k

-- what stands in a list that was mapped is of an element
pub of_mapped : {X Y : Type 0} (f : X → Y) (xs : List X) (y : Y) → Contains (map f xs) y → (x : X) × Contains xs x × (f x ≡ y)
of_mapped {X} {Y} f xs y has = by (at_contains (map f xs) y has)
  where
    by : (k : ℕ) × (slice_get (map f xs) k ≡ Some y) → (x : X) × Contains xs x × (f x ≡ y)
    by at = found (slice_get xs at.0) refl (sym (slice_get-map f xs at.0) ∙ at.1)
      where
        found : (o : Option X) → slice_get xs at.0 ≡ o → option_map f o ≡ Some y → (x : X) × Contains xs x × (f x ≡ y)
        found None is e = absurd (none-some y e)
        found (Some x) is e = (x, contains_at xs at.0 x is, same_Some (f x) y e)
