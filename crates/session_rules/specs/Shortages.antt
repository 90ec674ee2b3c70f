-- Requests at which memory may be wanting.
use Rattle.std.specs.Prelude.{◌≡◌, ◌⊎◌, ℕ, ◌+◌, ◌≤◌, ◌<◌, length, take, IsTrue}
use Rattle.clay_grid.specs.Shape.{Shape}
use Rattle.session_rules.specs.State.{State}
use Rattle.session_rules.specs.declared.request.Request.{Request}
use Rattle.session_rules.specs.declared.session_answer.Answer.{Answer}
use Rattle.session_rules.specs.Heals.{to_heal, heal_all, numbers_last}
use Rattle.session_rules.specs.Serve.{serve}

-- a heal that was cut off has made none of its chunks anew, or the first few and not all; none where its seat's numbers don't last for all; the seat has
-- used a number for each, and perhaps one for the chunk at which it was cut off
pub record IsCutHeal (g : Shape) (before after : State) : Type 0 where
  pub made : ℕ
  pub few : (made ≡ 0) ⊎ (made < length (to_heal g before))
  pub state : after ≡ record ((heal_all g (take made (to_heal g before)) before).0) { next = after.next }
  pub used : (before.next + made ≤ after.next) × (after.next ≤ before.next + made + 1) × (after.next ≤ before.next + length (to_heal g before))
  pub lasts : before.next < after.next → IsTrue (numbers_last g before)

-- what a request leaves at which memory was wanting: all as it was, but by a heal; a loss and the drop of a snapshot allocate nothing
abbrev pub Leaves : Shape → Request → State → State → Type 0
Leaves g Request.Heal before after = IsCutHeal g before after
Leaves g (Request.Lose server) before after = ⊥
Leaves g Request.SnapDrop before after = ⊥
Leaves g request before after = after ≡ before

-- a request is served, or it is answered that memory was wanting
abbrev pub IsServed : Shape → ℕ → Request → State → State × Answer → Type 0
IsServed g max request before served = (served ≡ serve g max request before) ⊎ ((served.1 ≡ Answer.NoMemory) × Leaves g request before served.0)
