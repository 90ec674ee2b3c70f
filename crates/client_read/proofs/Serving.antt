-- The bytes that a call serves.
use Rattle.std.proofs.Common.{◌≡◌, ℕ, List, Vec, ap, ◌∙◌}
use Rattle.std.specs.declared.alloc.Global.{Global}
use Rattle.call_steps.specs.declared.outcomes.Outcome.{Outcome}
use Rattle.call_steps.specs.declared.outcomes.Outcome.TheVariants as outcome
use Rattle.gather_parts.specs.declared.parts_ends.Gathered.{Gathered}
use Rattle.gather_parts.specs.declared.parts_ends.Gathered.TheVariants as gathered
use Rattle.gather_parts.specs.Ends.{IfBytes}
use Rattle.client_read.specs.Ends.{IfServed, AreBytes}

own_bytes : (bytes : Vec ℕ Global) (ended : Gathered) (owed : List ℕ) → AreBytes bytes ended → IfBytes ended (λ own. own.items ≡ owed) → bytes.items ≡ owed
own_bytes bytes (gathered.Bytes own) owed same is = ap (λ (v : Vec ℕ Global). v.items) same ∙ is
own_bytes bytes (gathered.TooMany stripe missing) owed same is = absurd same
own_bytes bytes gathered.Short owed same is = absurd same

pub served_bytes : (ends : Outcome) (ended : Gathered) (owed : List ℕ) → IfServed ends (λ bytes. AreBytes bytes ended) → IfBytes ended (λ own. own.items ≡ owed)
    → IfServed ends (λ bytes. bytes.items ≡ owed)
served_bytes (outcome.Served point bytes) ended owed same is = own_bytes bytes ended owed same is
served_bytes ends ended owed same is = tt
