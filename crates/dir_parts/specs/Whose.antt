-- Passes, of which each actor has one at most.
use Rattle.std.specs.Prelude.{List, map, filter, find, not, AllPairs, IsFalse, Option, if◌then◌else◌}
use Rattle.store_map.specs.declared.actor.Actor.{Actor}
use Rattle.store_core.specs.Directory.{Pass}
use Rattle.store_core.specs.Lookups.{same_actor}
use Rattle.dir_parts.specs.OpenPass.{Open}

-- the actor's pass, if it has one
abbrev pub own_pass : Actor → List Pass → Option Pass
own_pass who passes = find (λ pass. same_actor who pass.actor) passes

-- the passes of others
abbrev pub without_own : Actor → List Pass → List Pass
without_own who passes = filter (λ pass. not (same_actor who pass.actor)) passes

-- the passes, the actor's own changed
abbrev pub change_own : Actor → (Pass → Pass) → List Pass → List Pass
change_own who change passes = map (λ pass. if same_actor who pass.actor then change pass else pass) passes

-- no two are of one actor
abbrev pub AreApart : List Pass → Type 0
AreApart passes = AllPairs (λ p q. IsFalse (same_actor p.actor q.actor)) passes

-- the same of calls in work, each with its room
abbrev pub own_call : Actor → List Open → Option Open
own_call who calls = find (λ o. same_actor who o.pass.actor) calls

abbrev pub without_own_call : Actor → List Open → List Open
without_own_call who calls = filter (λ o. not (same_actor who o.pass.actor)) calls

abbrev pub change_own_call : Actor → (Open → Open) → List Open → List Open
change_own_call who change calls = map (λ o. if same_actor who o.pass.actor then change o else o) calls

abbrev pub AreCallsApart : List Open → Type 0
AreCallsApart calls = AllPairs (λ p q. IsFalse (same_actor p.pass.actor q.pass.actor)) calls
