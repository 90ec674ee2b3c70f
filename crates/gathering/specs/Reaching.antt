-- The position of what is to be done next, as the store's definitions say it of the servers left and the missing ones.
use Rattle.std.specs.Prelude.{◌≡◌, ℕ, List, length, take, drop}
use Rattle.clay_grid.specs.Shape.{Shape, chunk_count}
use Rattle.store_core.specs.Told.{Seen, Lost}
use Rattle.store_core.specs.Gathering.{Part}
use Rattle.store_core.specs.GatheringParts.{chunks_in_range}
use Rattle.run_laws.specs.Stages.{whole_stage, repair_stage, make_stage, look_stage, fetch_stage}
use Rattle.gathering.specs.CourseServers.{asked_from}
use Rattle.gathering.specs.Servers.{AreServers}
use Rattle.gathering.specs.declared.position.Position.{Position}
use Rattle.gathering.specs.Positions.{first_lost, stage_of}

-- all missing servers begin with these
abbrev pub BeginWith : List ℕ → List ℕ → Type 0
BeginWith gone all = take (length gone) all ≡ gone

-- whole chunks from a server on, so many, of those that aren't among these
abbrev pub GoesToWhole : Shape → List ℕ → ℕ → ℕ → Position → Type 0
GoesToWhole g gone from wanted p =
    (first all : List ℕ) (missing : List Lost) → BeginWith gone all →
    stage_of g first all missing p ≡ whole_stage g (asked_from gone (chunk_count g) from) wanted missing

-- the repair layers of the one missing chunk from a server on
abbrev pub GoesToRepair : Shape → List ℕ → ℕ → Position → Type 0
GoesToRepair g gone from p =
    (first : List ℕ) (missing : List Lost) → stage_of g first gone missing p ≡ repair_stage g (asked_from gone (chunk_count g) from) (first_lost missing)

-- what the missing chunks want
abbrev pub GoesToMake : Shape → List ℕ → Position → Type 0
GoesToMake g gone p =
    (seen : Seen) (first : List ℕ) (missing : List Lost) → AreServers missing gone → stage_of g first gone missing p ≡ make_stage g seen missing

-- looks from a server on
abbrev pub GoesToLook : Shape → List ℕ → List ℕ → ℕ → Position → Type 0
GoesToLook g first gone from p =
    (seen : Seen) (missing : List Lost) → AreServers missing gone →
    stage_of g first gone missing p ≡ look_stage g seen (asked_from first (chunk_count g) from) missing

-- the rest of the servers of the first stage, of a part that asks just these
abbrev pub GoesToFetch : Shape → List ℕ → ℕ → List ℕ → Position → Type 0
GoesToFetch g first at gone p =
    (part : Part) (missing : List Lost) → AreServers missing gone → first ≡ chunks_in_range g part.start part.end →
    stage_of g first gone missing p ≡ fetch_stage g part (drop at first) missing
