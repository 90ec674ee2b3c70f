-- The position after an answer, as the store's definitions say it of the stage.
use Rattle.std.specs.Prelude.{◌≡◌, ⊤, ℕ, nat_lt, List, [], ◌∷◌, ◌++◌, length, Some, if◌then◌else◌}
use Rattle.clay_grid.specs.Shape.{Shape}
use Rattle.store_map.specs.declared.placement.Found.{Found}
use Rattle.store_core.specs.Told.{Lost, Told}
use Rattle.store_core.specs.GatheringParts.{chunks_in_range}
use Rattle.run_laws.specs.Stage.{Aim}
use Rattle.run_laws.specs.StageAfter.{next_stage, with_lost}
use Rattle.gathering.specs.Courses.{server_at}
use Rattle.gathering.specs.Servers.{AreServers}
use Rattle.gathering.specs.declared.ending.Ending.TheVariants as ending
use Rattle.gathering.specs.declared.position.Position.{Position}
use Rattle.gathering.specs.declared.position.Position.TheVariants as position
use Rattle.gathering.specs.Positions.{stage_of, IsPlaced}

-- the servers that the first stage asks
abbrev pub IsFirst : Shape → Aim → List ℕ → Type 0
IsFirst g (Aim.Range part) first = first ≡ chunks_in_range g part.start part.end
IsFirst g (Aim.Chunk seen target) first = first ≡ target ∷ []

-- wanted layers are fetched for a part alone, its target is asked for a chunk alone
abbrev pub FitsAim : Position → Aim → Type 0
FitsAim (position.Fetch at) (Aim.Chunk seen target) = ⊥
FitsAim (position.Target server) (Aim.Range part) = ⊥
FitsAim (position.Target server) (Aim.Chunk seen target) = server ≡ target
FitsAim p aim = ⊤

-- what a course keeps of its servers
pub record Knows (g : Shape) (aim : Aim) (first gone : List ℕ) (missing : List Lost) (p : Position) : Type 0 where
  pub is_first : IsFirst g aim first
  pub fits : FitsAim p aim
  pub servers : AreServers missing gone

-- after an answer that tells of no missing server
abbrev pub Hears : Shape → List ℕ → List ℕ → Position → Told → Position → Type 0
Hears g first gone p answer result =
    (aim : Aim) (missing : List Lost) → Knows g aim first gone missing p →
    stage_of g first gone missing result ≡ next_stage g aim (stage_of g first gone missing p) answer

-- after the server that was asked was found missing; the missing servers are then these
abbrev pub HearsMissing : Shape → List ℕ → List ℕ → Position → Found → Position → Type 0
HearsMissing g first gone p found result =
    (aim : Aim) (before : List ℕ) (server : ℕ) (missing : List Lost) →
    Knows g aim first before missing p → IsPlaced g (length first) (length before) p →
    gone ≡ before ++ server ∷ [] → server_at g aim (stage_of g first before missing p) ≡ Some server →
    stage_of g first gone (with_lost g aim missing server found) result
    ≡ next_stage g aim (stage_of g first before missing p) (Told.Missing found)

-- once more servers are missing than there are parity chunks, no more is asked
abbrev pub or_too_many : Shape → List ℕ → Position → Position
or_too_many g gone next = if nat_lt g.parity_count (length gone) then position.Ended ending.TooMany else next

-- a position of the same aim
abbrev pub KeepsAim : Position → Position → Type 0
KeepsAim p result = (aim : Aim) → FitsAim p aim → FitsAim result aim

-- a server is asked
abbrev pub IsAsking : Position → Type 0
IsAsking position.HasBytes = ⊥
IsAsking (position.Ended how) = ⊥
IsAsking p = ⊤

-- neither of the first questions, which one aim alone has
abbrev pub IsLate : Position → Type 0
IsLate (position.Fetch at) = ⊥
IsLate (position.Target server) = ⊥
IsLate p = ⊤

-- no question to a target
abbrev pub IsNoTarget : Position → Type 0
IsNoTarget (position.Target server) = ⊥
IsNoTarget p = ⊤
