-- Where an actor is after an answer.
use Rattle.std.specs.Prelude.{ℕ, ⊤, ◌+◌, Bool, true, false, length, if◌then◌else◌}
use Rattle.store_map.specs.declared.call.Call.{Call}
use Rattle.store_map.specs.declared.call.Call.TheVariants as call
use Rattle.stripe_dir.specs.declared.directory_answers.Look.{Look}
use Rattle.stripe_dir.specs.declared.directory_answers.Look.TheVariants as look
use Rattle.stripe_dir.specs.declared.directory_answers.Drawn.{Drawn}
use Rattle.stripe_dir.specs.declared.directory_answers.Drawn.TheVariants as draw
use Rattle.stripe_dir.specs.declared.directory_answers.Committed.{Committed}
use Rattle.stripe_dir.specs.declared.directory_answers.Committed.TheVariants as commit
use Rattle.dir_walks.specs.declared.test_stage.WalkStage.{WalkStage}
use Rattle.dir_walks.specs.declared.test_stage.WalkStage.TheVariants as stage

-- a put or a write
abbrev pub writes : Call → Bool
writes (call.Put name content) = true
writes (call.Write name offset content) = true
writes its = false

abbrev pub stage_after_look : Call → Look ⊤ ⊤ → WalkStage
stage_after_look its (look.Answer seat point reply) = stage.Seated
stage_after_look its answer = if writes its then stage.Begun else stage.Reading

abbrev pub stage_after_draw : Drawn ⊤ ⊤ → WalkStage
stage_after_draw (draw.Versions pass stamps) = stage.Drawn
stage_after_draw (draw.Reaped seat at) = stage.Seated

abbrev pub drawn_by : Drawn ⊤ ⊤ → ℕ
drawn_by (draw.Versions pass stamps) = length stamps.items
drawn_by (draw.Reaped seat at) = 0

-- a write that was overtaken may use its number once more
abbrev pub unused_after_commit : ℕ → Committed ⊤ → ℕ
unused_after_commit number (commit.Changed seat looked_at newer) = number
unused_after_commit number answer = number + 1
