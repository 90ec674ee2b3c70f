-- What is known of an answer by cases, where the case is known.
use Rattle.std.proofs.Common.{◌≡◌, subst, Option, None, Some, MatchOption}

pub at_none : {A : Type 0} (answer : Option A) (N : Type 0) (P : A → Type 0) → answer ≡ None → MatchOption answer N P → N
at_none {A} answer N P is h = let Q : Option A → Type 0 = λ one. MatchOption one N P in subst Q is h

pub at_some : {A : Type 0} (answer : Option A) (x : A) (N : Type 0) (P : A → Type 0) → answer ≡ Some x → MatchOption answer N P → P x
at_some {A} answer x N P is h = let Q : Option A → Type 0 = λ one. MatchOption one N P in subst Q is h
