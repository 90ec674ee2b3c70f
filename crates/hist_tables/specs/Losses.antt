-- What is counted of a script's schedule.
use Rattle.std.specs.Prelude.{◌≡◌, ℕ}
use Rattle.store_map.specs.declared.script.Script.{Script}
use Rattle.hist_rules.specs.Counts.{wipes, downs}
use Rattle.hist_tables.specs.OperatorCounts.{count_in}
use Rattle.hist_tables.specs.declared.operator_counts.OperatorCounts.{OperatorCounts}
use Rattle.hist_tables.specs.declared.chunks_missing.Losses.{Losses}

-- how often each server is emptied
abbrev pub AreWipes : Script → OperatorCounts → Type 0
AreWipes script counted = (server : ℕ) → count_in counted server ≡ wipes script server

-- how often each server is made away
abbrev pub AreDowns : Script → OperatorCounts → Type 0
AreDowns script counted = (server : ℕ) → count_in counted server ≡ downs script server

-- both
pub record AreLosses (script : Script) (losses : Losses) : Type 0 where
  pub wipes : AreWipes script losses.wipes
  pub downs : AreDowns script losses.downs
