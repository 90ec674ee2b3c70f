-- What a call knows by its tests, and what the clauses of its statuses say then.
use Rattle.std.proofs.Common.{◌≡◌, ℕ, ◌↔◌, Bool, true, false, nat_eq, Option, Some, sym, subst, ◌∙◌, true≢false, eq-eqb}
use Rattle.std.specs.Prelude.{MatchOption}
use Rattle.clay_grid.specs.Shape.{Shape, shape_of}
use Rattle.clay_grid.specs.Limits.{IsGeometry}
use Rattle.clay_aloof.specs.Shape.{AloofShape, aloof_of}
use Rattle.clay_aloof.specs.Limits.{IsAloof}

-- what holds of a value that is there
of_some : {A : Type 0} (P : A → Type 0) (N : Type 0) (o : Option A) (a : A) → o ≡ Some a → MatchOption o N P → P a
of_some P N o a is h = subst (λ r. MatchOption r N P) is h

-- the geometry that was made is that of the numbers
pub located : (k m w : ℕ) (o : Option Shape) (g : Shape) → o ≡ Some g
    → MatchOption o (IsGeometry (shape_of k m w) → ⊥) (λ g. (g ≡ shape_of k m w) × IsGeometry (shape_of k m w))
    → (g ≡ shape_of k m w) × IsGeometry (shape_of k m w)
located k m w o g is h = of_some (λ (g : Shape). (g ≡ shape_of k m w) × IsGeometry (shape_of k m w)) (IsGeometry (shape_of k m w) → ⊥) o g is h

pub located_aloof : (k m d w : ℕ) (o : Option AloofShape) (g : AloofShape) → o ≡ Some g
    → MatchOption o (IsAloof (aloof_of k m d w) → ⊥) (λ g. (g ≡ aloof_of k m d w) × IsAloof (aloof_of k m d w))
    → (g ≡ aloof_of k m d w) × IsAloof (aloof_of k m d w)
located_aloof k m d w o g is h = of_some (λ (g : AloofShape). (g ≡ aloof_of k m d w) × IsAloof (aloof_of k m d w)) (IsAloof (aloof_of k m d w) → ⊥) o g is h

-- a test of the geometry that doesn't fail, and one that does
pub fits : {A : Type 0} {test : Bool} {g s : A} (P : A → Type 0) → g ≡ s → (test ≡ true) ↔ P g → test ≡ true → P s
fits P same is passed = subst P same (is.0 passed)

pub unfit : {A : Type 0} {test : Bool} {g s : A} (P : A → Type 0) → g ≡ s → (test ≡ true) ↔ P g → test ≡ false → P s → ⊥
unfit P same is failed h = true≢false (sym (is.1 (subst P (sym same) h)) ∙ failed)

-- a status that isn't the one that a clause tells
pub not_this : {P : Type 0} (x y : ℕ) → nat_eq x y ≡ false → (P → ⊥) → (x ≡ y) ↔ P
not_this x y differ never = (λ e. absurd (true≢false (sym (eq-eqb x y e) ∙ differ)), λ p. absurd (never p))
