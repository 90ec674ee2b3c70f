-- An actor's list of steps, from its own steps at each place.
use Rattle.std.specs.Prelude.{◌≡◌, ℕ, ◌≤◌, ◌<◌, true, List, [], ◌∷◌, ◌++◌, filter, All}
use Rattle.std.specs.List.{range_with_len, flat_map}
use Rattle.store_core.specs.ActPlace.{ActPlace}
use Rattle.thread_laws.specs.MadeSteps.{MadeStep, is_at, MomentsRise}
use Rattle.thread_laws.specs.InOrder.{by_moment}

-- its steps at the directory and at so many servers, by moment
abbrev pub own_steps : ℕ → (ActPlace → List MadeStep) → List MadeStep
own_steps servers at = by_moment (at ActPlace.Directory ++ flat_map (λ j. at (ActPlace.Server j)) (range_with_len 0 servers))

-- each list is of its place, its moments rise, and there are no more servers
pub record AreOwn (servers : ℕ) (at : ActPlace → List MadeStep) : Type 0 where
  pub here : (place : ActPlace) → filter (is_at place) (at place) ≡ at place
  pub order : (place : ActPlace) → MomentsRise (at place)
  pub past : (j : ℕ) → servers ≤ j → at (ActPlace.Server j) ≡ []

-- the lists with one step more, at its place
pub record IsMore (m : MadeStep) (before after : ActPlace → List MadeStep) : Type 0 where
  pub lists : (place : ActPlace) → after place ≡ before place ++ filter (is_at place) (m ∷ [])
  pub there : ActPlace
  pub at : is_at there m ≡ true

-- the actor's list has just its steps at each place; a step that is made after all of them comes last
pub record KeepsList (servers : ℕ) (at : ActPlace → List MadeStep) : Type 0 where
  pub places : (place : ActPlace) → filter (is_at place) (own_steps servers at) ≡ at place
  pub more :
      (m : MadeStep) (after : ActPlace → List MadeStep) → IsMore m at after → AreOwn servers after → MomentsRise (own_steps servers at) →
      All (λ (x : MadeStep). x.moment < m.moment) (own_steps servers at) → own_steps servers after ≡ own_steps servers at ++ m ∷ []

abbrev pub ActorsKeepLists : Type 0
ActorsKeepLists = (servers : ℕ) (at : ActPlace → List MadeStep) → AreOwn servers at → KeepsList servers at
