-- What is computed of a script and a transcript: the verdict, and its printed line.
use Rattle.std.specs.Prelude.{◌≡◌, ℕ, List}
use Rattle.store_map.specs.declared.script.Script.{Script}
use Rattle.store_map.specs.declared.transcript.Transcript.{Transcript}
use Rattle.store_core.specs.Rows.{Row}
use Rattle.hist_rules.specs.declared.verdict.Verdict.{Verdict}
use Rattle.hist_rules.specs.IsHistory.{IsHistory}
use Rattle.hist_rules.specs.Verdict.{verdict_of}
use Rattle.hist_check.specs.VerdictText.{verdict_line}

-- a transcript that is none of the script's, with the fault that is found and its line
pub record Faulty : Type 0 where
  pub script : Script
  pub transcript : Transcript
  pub verdict : Verdict
  pub line : List ℕ

-- the rules say so
pub record IsFaulty (row : Faulty) : Type 0 where
  pub verdict : verdict_of row.script row.transcript ≡ row.verdict
  pub line : verdict_line row.verdict ≡ row.line

-- a worked row's transcript is a history of its script
abbrev pub ShowsHistory : Row → Type 0
ShowsHistory row = IsHistory row.script row.transcript
