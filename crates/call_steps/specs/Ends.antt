-- States between a writing's steps and at a call's end.
use Rattle.std.specs.Prelude.{⊤, ℕ, Bool, true, false, Option, None, Some}
use Rattle.store_map.specs.declared.reply.Reply.{Reply}
use Rattle.store_map.specs.declared.reply.Reply.TheVariants as reply
use Rattle.store_core.specs.Act.{Outcome}
use Rattle.run_laws.specs.State.{State}

-- the end of the pass is next
abbrev pub is_ending : State → Bool
is_ending (State.Ending outcome) = true
is_ending at = false

-- the end of a pass was told
abbrev pub finished_of : State → State
finished_of (State.Ending outcome) = State.Finished outcome
finished_of at = at

-- a writing that stands between two steps
abbrev pub IsStanding : State → Type 0
IsStanding (State.Preparing stripe version server servers row later placed versions) = ⊤
IsStanding (State.Committing versions placed) = ⊤
IsStanding (State.Ending outcome) = ⊤
IsStanding (State.Settling point place places) = ⊤
IsStanding (State.Finished outcome) = ⊤
IsStanding at = ⊥

-- one that has ended
abbrev pub IsOver : State → Type 0
IsOver (State.Ending outcome) = ⊤
IsOver (State.Finished outcome) = ⊤
IsOver at = ⊥

-- the point of a call that was answered ok, or that settles
abbrev pub point_answered : Reply → ℕ → Option ℕ
point_answered reply.Done point = Some point
point_answered answer point = None

abbrev pub point_ended : Outcome → Option ℕ
point_ended (Outcome.Answered point answer) = point_answered answer point
point_ended outcome = None

abbrev pub point_of : State → Option ℕ
point_of (State.Settling point place places) = Some point
point_of (State.Finished outcome) = point_ended outcome
point_of at = None
