-- In every run a write is refused as contended only where it lost a race at each of its tries, and a rebuild as superseded only by a change.
use Rattle.std.specs.Prelude.{All, IfSome, IsTrue, ⊤}
use Rattle.store_map.specs.declared.call.Rebuild.{Rebuild}
use Rattle.store_map.specs.declared.script.Script.{Script}
use Rattle.store_map.specs.declared.cause.RepairResult.{RepairResult}
use Rattle.store_map.specs.declared.cause.RepairResult.TheVariants as result
use Rattle.store_map.specs.declared.transcript.Transcript.{Transcript}
use Rattle.hist_rules.specs.Calls.{rebuild_of}
use Rattle.hist_rules.specs.Named.{is_change_point}
use Rattle.hist_rules.specs.GivenUpOrLost.{LostRaces}
use Rattle.history_laws.specs.HistoryLaws.{RunsShow}

-- no write is refused as contended while it has tries left, or for changes that the history doesn't have
abbrev pub RunsLoseRaces : Type 0
RunsLoseRaces = RunsShow LostRaces

-- a rebuild that came too late names a change of its object
abbrev pub NamesChange : Script → Transcript → RepairResult → Rebuild → Type 0
NamesChange script t (result.Superseded newer) rebuild = IsTrue (is_change_point script t rebuild.name newer)
NamesChange script t _ rebuild = ⊤

-- no rebuild is called superseded for a change that the history doesn't have, or of another object
abbrev pub RunsNameChanges : Type 0
RunsNameChanges = RunsShow (λ script t. All (λ line. IfSome (rebuild_of script line.call) (NamesChange script t line.result)) t.repairs)
