-- The steps of all actors in the order of their moments, and by actor where two moments are equal.
use Rattle.std.specs.Prelude.{nat_lt, List, [], ◌∷◌, ◌++◌, length, if◌then◌else◌}
use Rattle.std.specs.List.{range_with_len, flat_map}
use Rattle.store_map.specs.declared.script.Script.{Script}
use Rattle.store_map.specs.declared.actor.Actor.TheVariants as actor
use Rattle.store_map.specs.declared.actor.Token.{Token}
use Rattle.store_core.specs.Core.{first_core}
use Rattle.thread_laws.specs.MadeSteps.{MadeStep}
use Rattle.thread_laws.specs.Histories.{Histories, StandTwice, GoOn, IsInOrder}
use Rattle.thread_laws.specs.Merging.{EndAs, run_of_steps}

-- the list with one step more, before those with an equal or a later moment
abbrev pub put_in : MadeStep → List MadeStep → List MadeStep
put_in m [] = m ∷ []
put_in m (other ∷ more) = if nat_lt other.moment m.moment then other ∷ put_in m more else m ∷ other ∷ more

-- sorted by moment; of two with one moment the earlier of the list comes first
abbrev pub by_moment : List MadeStep → List MadeStep
by_moment [] = []
by_moment (m ∷ more) = put_in m (by_moment more)

-- clients, repairers, sweeper, operator
abbrev pub actor_by_actor : Script → Histories → List MadeStep
actor_by_actor script h =
    flat_map (λ i. h.of (actor.Client i)) (range_with_len 0 (length script.clients))
    ++ (flat_map (λ i. h.of (actor.Repairer i)) (range_with_len 0 (length script.repairers)) ++ (h.of actor.Sweeper ++ h.of actor.Operator))

abbrev pub in_order : Script → Histories → List MadeStep
in_order script h = by_moment (actor_by_actor script h)

-- the steps in the order of their moments, and by actor where two are equal, are a run of the core
abbrev pub MergesInOrder : Type 0
MergesInOrder =
    (script : Script) (lines : List Token) (h : Histories) → StandTwice h → GoOn script lines (first_core script) h.at h.of →
    IsInOrder h (in_order script h) × EndAs script (first_core script) h.at h.of (run_of_steps script (in_order script h))
