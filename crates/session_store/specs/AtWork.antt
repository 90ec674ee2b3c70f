-- A machine whose call runs alone, by the steps that it has made.
use Rattle.std.specs.Prelude.{◌≡◌, ℕ, Bool, true, false, List, replicate}
use Rattle.clay_grid.specs.Shape.{Shape, chunk_count}
use Rattle.store_map.specs.declared.actor.Actor.{Actor}
use Rattle.store_core.specs.NextAct.{Job}
use Rattle.store_core.specs.Step.{Shortage, Places}
use Rattle.store_core.specs.Tokens.{actor_of}
use Rattle.run_laws.specs.State.{first_state}
use Rattle.session_rules.specs.Alone.{AtWork, steps}
use Rattle.session_rules.specs.Takes.{takes_in}
use Rattle.session_rules.specs.Wants.{after_coding, wanting_steps}
use Rattle.call_steps.specs.CallOf.{CallOf}

-- a call before its first step, and a call that its machine shows, at these places
abbrev pub first_at : Places → AtWork
first_at p = record { call = first_state; places = p }

abbrev pub at_work : CallOf → Places → AtWork
at_work c p = record { call = c.state; places = p }

-- of a call with this number, by this actor, with so many tries
module _ (g : Shape) (tries : ℕ) (who : Actor) (number : ℕ) (job : Job) where
  -- the machine shows this call
  pub record IsOf (c : CallOf) : Type 0 where
    pub its_shape : c.book.geometry ≡ g
    pub its_tries : c.tries ≡ tries
    pub its_actor : actor_of c.token ≡ who
    pub its_number : c.number ≡ number
    pub its_job : c.job ≡ job

  -- where memory was wanting in the coding since its last step it has heard so
  abbrev pub with_coding : Bool → AtWork → AtWork
  with_coding wanting w = record w { call = after_coding g tries who number job wanting w.call }

  -- from these places its steps have come to those; in each memory was wanting so, and no coding was due before it if it was wanting in one since
  pub record HasRun (shortages : List Shortage) (before : Places) (c : CallOf) (now : Places) : Type 0 where
    pub its : IsOf c
    pub comes : with_coding c.coding (wanting_steps g tries who number job shortages (first_at before)) ≡ at_work c now
    pub fresh : c.due ≡ true → c.coding ≡ false

  -- with ample memory so many steps have, and what it has taken is what these took
  pub record HasRunAmply (made : ℕ) (before : Places) (c : CallOf) (now : Places) : Type 0 where
    pub its : IsOf c
    pub comes : steps g tries who number job made (first_at before) ≡ at_work c now
    pub takes : takes_in g tries who number job made (first_at before) (replicate (chunk_count g) 0) ≡ c.takes
