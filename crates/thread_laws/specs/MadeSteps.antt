-- Steps that were made, each at one place by one actor, with its moment, a number that says when.
use Rattle.std.specs.Prelude.{ℕ, ◌≤◌, ◌<◌, Bool, true, false, nat_eq, List, [], ◌∷◌, All}
use Rattle.store_map.specs.declared.actor.Actor.{Actor}
use Rattle.store_core.specs.Told.{Told}
use Rattle.store_core.specs.Act.{Act}
use Rattle.store_core.specs.ActPlace.{ActPlace}
use Rattle.store_core.specs.Lookups.{same_actor}
use Rattle.store_core.specs.Step.{Shortage}

-- its actor, the number of that actor's call, where memory was wanting, the act, the answer, the moment
pub record MadeStep : Type 0 where
  pub actor : Actor
  pub number : ℕ
  pub shortage : Shortage
  pub act : Act
  pub answer : Told
  pub moment : ℕ

-- whether an act is done at this place
abbrev pub acts_at : ActPlace → Act → Bool
acts_at ActPlace.Directory (Act.AtDirectory step) = true
acts_at (ActPlace.Server server) (Act.AtServer other step) = nat_eq server other
acts_at _ _ = false

-- the steps of an actor, and those at a place
abbrev pub is_by : Actor → MadeStep → Bool
is_by who m = same_actor who m.actor

abbrev pub is_at : ActPlace → MadeStep → Bool
is_at place m = acts_at place m.act

-- moments rise strictly along the list
abbrev pub MomentsRise : List MadeStep → Type 0
MomentsRise [] = Unit {0}
MomentsRise (m ∷ more) = All (λ (later : MadeStep). m.moment < later.moment) more × MomentsRise more

-- moments don't fall along the list
abbrev pub MomentsDontFall : List MadeStep → Type 0
MomentsDontFall [] = Unit {0}
MomentsDontFall (m ∷ more) = All (λ (later : MadeStep). m.moment ≤ later.moment) more × MomentsDontFall more
