-- The answer to a call, a rebuild or a read that ended so.
use Rattle.std.specs.Prelude.{◌≡◌, ◌⊎◌, ℕ, List, map}
use Rattle.store_map.specs.declared.placement.Placement.{Placement}
use Rattle.store_map.specs.declared.placement.Placement.TheVariants as placement
use Rattle.store_map.specs.declared.placement.Found.{Found}
use Rattle.store_map.specs.declared.placement.Found.TheVariants as found
use Rattle.store_map.specs.declared.placement.LostChunk.{LostChunk}
use Rattle.store_map.specs.declared.reply.Reply.TheVariants as reply
use Rattle.session_rules.specs.declared.session_answer.Missing.{Missing}
use Rattle.session_rules.specs.declared.session_answer.Answer.{Answer}
use Rattle.snapshot_view.specs.declared.read_outcomes.SnapOutcome.{SnapOutcome}
use Rattle.snapshot_view.specs.declared.read_outcomes.SnapOutcome.TheVariants as read
use Rattle.call_steps.specs.declared.outcomes.Outcome.{Outcome}
use Rattle.call_steps.specs.declared.outcomes.Outcome.TheVariants as client
use Rattle.call_steps.specs.declared.outcomes.RepairOutcome.{RepairOutcome}
use Rattle.call_steps.specs.declared.outcomes.RepairOutcome.TheVariants as repair

-- the count that a placement tells, and that why a chunk isn't given tells
abbrev pub placed_epoch : Placement → ℕ
placed_epoch (placement.At epoch) = epoch
placed_epoch (placement.Skipped downs) = downs

abbrev pub found_epoch : Found → ℕ
found_epoch (found.Absent epoch) = epoch
found_epoch (found.Away downs) = downs

-- a server without its chunk
abbrev pub missing_in : LostChunk → Missing
missing_in lost = record { server = lost.server; placed = placed_epoch lost.placed; found = found_epoch lost.found }

-- of a stripe that is beyond repair, or that memory was wanting for the answer
abbrev pub IsUnavailable : ℕ → List LostChunk → Answer → Type 0
IsUnavailable stripe missing answer = (answer ≡ Answer.NoMemory) ⊎ (answer ≡ Answer.Unavailable stripe (map missing_in missing))

-- to a client's call
abbrev pub AnswersCall : Outcome → Answer → Type 0
AnswersCall (client.Answered point reply) answer = answer ≡ Answer.Replied reply
AnswersCall (client.Served point bytes) answer = answer ≡ Answer.Replied (reply.Bytes bytes.items)
AnswersCall (client.Unavailable stripe missing) answer = IsUnavailable stripe missing.items answer
AnswersCall client.NoMemory answer = answer ≡ Answer.NoMemory
AnswersCall _ answer = ⊥

-- to a rebuild
abbrev pub AnswersRebuild : RepairOutcome → Answer → Type 0
AnswersRebuild repair.Rebuilt answer = answer ≡ Answer.Rebuilt
AnswersRebuild repair.Here answer = answer ≡ Answer.Here
AnswersRebuild repair.NoSuch answer = answer ≡ Answer.Replied reply.NoSuch
AnswersRebuild (repair.Unavailable stripe missing) answer = IsUnavailable stripe missing.items answer
AnswersRebuild repair.NoMemory answer = answer ≡ Answer.NoMemory
AnswersRebuild _ answer = ⊥

-- to a read of a snapshot
abbrev pub AnswersRead : SnapOutcome → Answer → Type 0
AnswersRead (read.Bytes bytes) answer = answer ≡ Answer.Replied (reply.Bytes bytes.items)
AnswersRead read.NoSuch answer = answer ≡ Answer.Replied reply.NoSuch
AnswersRead read.OutRange answer = answer ≡ Answer.Replied reply.OutRange
AnswersRead (read.Unavailable stripe missing) answer = IsUnavailable stripe missing.items answer
AnswersRead read.NoMemory answer = answer ≡ Answer.NoMemory
