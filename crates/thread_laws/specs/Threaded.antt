-- A threaded run: its transcript is what the core shows after some order of steps, which has the operator's lines in the order of the script.
use Rattle.std.specs.Prelude.{◌≡◌, ◌<◌, Bool, true, false, List, [], length, filter, All}
use Rattle.store_map.specs.declared.script.Script.{Script}
use Rattle.store_map.specs.declared.actor.Actor.TheVariants as actor
use Rattle.store_map.specs.declared.actor.Token.{Token}
use Rattle.store_map.specs.declared.actor.Token.TheVariants as token
use Rattle.store_map.specs.declared.transcript.Transcript.{Transcript}
use Rattle.store_core.specs.Step.{Shortage}
use Rattle.store_core.specs.Core.{Core, first_core}
use Rattle.store_core.specs.Schedule.{run_core}
use Rattle.store_core.specs.Shown.{shown}
use Rattle.thread_laws.specs.AtPlaces.{after_all}
use Rattle.thread_laws.specs.Lines.{lines_next}
use Rattle.thread_laws.specs.Histories.{Histories, StandTwice, GoOn}
use Rattle.thread_laws.specs.Merging.{EndAs}

-- whether a token is a line of the operator
abbrev pub is_line : Token → Bool
is_line (token.Wipe server) = true
is_line (token.Down server) = true
is_line (token.Up server) = true
is_line (token.ReapClient i) = true
is_line (token.ReapRepairer i) = true
is_line _ = false

-- the operator's lines of a script
abbrev pub lines_of : Script → List Token
lines_of script = filter is_line script.schedule

-- one step of a client or a repairer of the script, of the sweeper or of the operator
abbrev pub IsStepOf : Script → Token → Type 0
IsStepOf script (token.Client i) = i < length script.clients
IsStepOf script (token.Repairer i) = i < length script.repairers
IsStepOf script token.Drain = ⊥
IsStepOf script token = Unit {0}

-- some list of steps, none a drain, with the operator's lines in their order, shows the transcript
pub record IsThreadedRun (script : Script) (transcript : Transcript) : Type 0 where
  pub tokens : List Token
  pub shortages : List Shortage
  pub steps : All (IsStepOf script) tokens
  pub lines : filter is_line tokens ≡ lines_of script
  pub shows : transcript ≡ shown script (run_core script shortages tokens)

-- where the operator has made all its lines, a core that ends as the lists say shows a threaded run
abbrev pub ShowsThreadedRuns : Type 0
ShowsThreadedRuns =
    (script : Script) (h : Histories) → StandTwice h → GoOn script (lines_of script) (first_core script) h.at h.of →
    after_all lines_next (h.of actor.Operator) (lines_of script) ≡ [] →
    (end : Core) → EndAs script (first_core script) h.at h.of end → IsThreadedRun script (shown script end)
