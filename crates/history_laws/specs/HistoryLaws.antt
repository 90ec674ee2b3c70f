-- What a run shows is a history.
use Rattle.std.specs.Prelude.{ℕ, ◌<◌, ◌^◌, List, [], ◌∷◌, ◌++◌, count_by}
use Rattle.clay_grid.specs.Limits.{IsGeometry}
use Rattle.store_map.specs.Naming.{IsValid}
use Rattle.store_map.specs.declared.actor.Token.{Token}
use Rattle.store_map.specs.declared.actor.Token.TheVariants as token
use Rattle.store_map.specs.declared.script.Script.{Script}
use Rattle.store_map.specs.declared.transcript.Transcript.{Transcript}
use Rattle.store_core.specs.Schedule.{run_core}
use Rattle.store_core.specs.Shown.{shown}
use Rattle.store_core.specs.Step.{Shortage}
use Rattle.hist_rules.specs.Counts.{is_wipe_of}
use Rattle.hist_rules.specs.CallOrder.{KeepsCallOrder}
use Rattle.hist_rules.specs.Finished.{Finished}
use Rattle.hist_rules.specs.MapReplies.{HasMapReplies}
use Rattle.hist_rules.specs.GivenUpOrLost.{GivenUp}

-- the script with another schedule
abbrev pub scheduled : Script → List Token → Script
scheduled script tokens = record script { schedule = tokens }

-- each server is emptied less often than 2^64 times, so that its epoch counts how often
abbrev pub HasFewWipes : List Token → Type 0
HasFewWipes tokens = (server : ℕ) → count_by (is_wipe_of server) tokens < 2 ^ 64

-- of every run of a valid script, whatever was wanting of memory, what is shown has a property
abbrev pub RunsShow : (Script → Transcript → Type 0) → Type 0
RunsShow Has =
    (script : Script) (shortages : List Shortage) → IsGeometry script.geometry → IsValid script → (tokens : List Token) → HasFewWipes tokens →
    Has (scheduled script tokens) (shown script (run_core script shortages tokens))

-- the map's replies, and its objects at the end
abbrev pub RunsReply : Type 0
RunsReply = RunsShow HasMapReplies

-- no more calls given up than the operator gave up
abbrev pub RunsGiveUp : Type 0
RunsGiveUp = RunsShow GivenUp

-- each caller's calls come one after another, each is answered once, and every line is of one of them
abbrev pub RunsKeepCallOrder : Type 0
RunsKeepCallOrder = RunsShow KeepsCallOrder

-- where the tokens end with a drain, each call that isn't under a step limit is answered, refused, or has its result
abbrev pub RunsFinish : Type 0
RunsFinish =
    (script : Script) (shortages : List Shortage) → IsGeometry script.geometry → IsValid script → (tokens : List Token) →
    Finished (scheduled script (tokens ++ token.Drain ∷ [])) (shown script (run_core script shortages (tokens ++ token.Drain ∷ [])))
