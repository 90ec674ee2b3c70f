-- An actor's own list, whatever kind of actor it is.
use Rattle.std.specs.Prelude.{◌≡◌, ℕ, ◌<◌, true, List}
use Rattle.store_core.specs.ActPlace.{ActPlace}
use Rattle.thread_laws.specs.MadeSteps.{MadeStep, is_at, MomentsRise}
use Rattle.thread_laws.specs.AtPlaces.{after_all, AllCome}
use Rattle.thread_laws.specs.OwnSteps.{own_steps, AreOwn, IsMore}
use Rattle.thread_laws.specs.Entries.{last_of}

-- its steps at each place are one list in rising moments, which may come from its first state on and leads to this one
pub record IsListed {S : Type 0} (next : MadeStep → S → S) (MayCome : MadeStep → S → Type 0) (first : S) (servers : ℕ) (at : ActPlace → List MadeStep) (now : S) : Type 0 where
  pub own : AreOwn servers at
  pub rise : MomentsRise (own_steps servers at)
  pub come : AllCome next MayCome (own_steps servers at) first
  pub leads : now ≡ after_all next (own_steps servers at) first

-- one step more, at the directory or at one of so many servers, made after all of the actor's
pub record IsOneMore (servers : ℕ) (at : ActPlace → List MadeStep) (m : MadeStep) (after : ActPlace → List MadeStep) : Type 0 where
  pub more : IsMore m at after
  pub within : (j : ℕ) → is_at (ActPlace.Server j) m ≡ true → j < servers
  pub above : last_of (own_steps servers at) < m.moment
