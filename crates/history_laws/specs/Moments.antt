-- Words on the moments of a trace.
use Rattle.std.specs.Prelude.{◌≡◌, ℕ, ◌-◌, ◌^◌, min, Bool, false, nat_eq, List, ◌∷◌, ◌++◌, length, filter, Option, None, Some}
use Rattle.store_map.specs.declared.actor.Actor.{Actor}
use Rattle.store_map.specs.declared.actor.Actor.TheVariants as actor
use Rattle.store_map.specs.declared.placement.Found.{Found}
use Rattle.store_map.specs.declared.placement.Found.TheVariants as found
use Rattle.store_map.specs.declared.placement.Placement.{Placement}
use Rattle.store_map.specs.declared.placement.Placement.TheVariants as placement
use Rattle.store_map.specs.declared.call_name.CallName.{CallName}
use Rattle.store_core.specs.Act.{Act, ServerStep}
use Rattle.store_core.specs.Shown.{client_name, repairer_name}
use Rattle.history_laws.specs.Trace.{Made}

-- at some moment a step was made of which this holds, by what was made before it
pub record Happened (trace : List Made) (Is : List Made → Made → Type 0) : Type 0 where
  pub before : List Made
  pub made : Made
  pub after : List Made
  pub split : trace ≡ before ++ made ∷ after
  pub is : Is before made

-- how an actor's call is named; the sweeper and the operator have none
abbrev pub name_of : Actor → ℕ → Option CallName
name_of (actor.Client i) number = Some (client_name i number)
name_of (actor.Repairer i) number = Some (repairer_name i number)
name_of who number = None

-- a step of a call
abbrev pub IsOf : CallName → Made → Type 0
IsOf call made = name_of made.who made.number ≡ Some call

-- a step that empties the server
abbrev pub wipes_it : ℕ → Act → Bool
wipes_it server (Act.AtServer other ServerStep.Wipe) = nat_eq server other
wipes_it server act = false

-- a step that makes the server away
abbrev pub downs_it : ℕ → Act → Bool
downs_it server (Act.AtServer other ServerStep.Down) = nat_eq server other
downs_it server act = false

-- a count of 64 bits stays at its last value
abbrev pub saturated : ℕ → ℕ
saturated count = min count (2 ^ 64 - 1)

-- how often a server was emptied, as it counts that
abbrev pub wipes : ℕ → List Made → ℕ
wipes server trace = saturated (length (filter (λ (made : Made). wipes_it server made.act) trace))

-- and made away
abbrev pub downs : ℕ → List Made → ℕ
downs server trace = saturated (length (filter (λ (made : Made). downs_it server made.act) trace))

-- what a server tells that has no chunk to give is its count at that moment
abbrev pub IsFoundThen : ℕ → List Made → Found → Type 0
IsFoundThen server before (found.Absent epoch) = epoch ≡ wipes server before
IsFoundThen server before (found.Away told) = told ≡ downs server before

-- so is what it tells that takes a chunk, or that is away
abbrev pub IsPlacedThen : ℕ → List Made → Placement → Type 0
IsPlacedThen server before (placement.At epoch) = epoch ≡ wipes server before
IsPlacedThen server before (placement.Skipped told) = told ≡ downs server before
