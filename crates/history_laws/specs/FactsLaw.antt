-- What is computed of a call is what it stands for.
use Rattle.std.specs.Prelude.{◌≡◌, ℕ, ◌↔◌, List, length, Contains}
use Rattle.std.specs.Bool.{Decides}
use Rattle.store_map.specs.declared.script.Script.{Script}
use Rattle.store_map.specs.declared.call_name.CallName.{CallName}
use Rattle.store_core.specs.Told.{Told}
use Rattle.run_laws.specs.CauseLaws.{changes_of}
use Rattle.history_laws.specs.Trace.{Made}
use Rattle.history_laws.specs.Facts.{Facts, facts_of, is_unhindered, could_write, has_its_place}
use Rattle.history_laws.specs.Over.{answers_to, IsOver}
use Rattle.history_laws.specs.Unhindered.{LacksChunk, SkipsChunk, IsUnhindered, CouldWrite, TargetWasAway, HasItsPlace}

-- the facts of a call, each by itself; and together the premises of the law of answers
pub record AreFactsOf (script : Script) (trace : List Made) (call : CallName) (facts : Facts) : Type 0 where
  pub over : Decides facts.over (IsOver script trace call)
  pub ample : Decides facts.ample (¬ Contains (answers_to call trace) Told.Short)
  pub kept : Decides facts.kept ((point : ℕ) → ¬ Contains (answers_to call trace) (Told.Reaped point))
  pub lacking : (version server : ℕ) → Contains facts.lacking (version, server) ↔ LacksChunk trace call version server
  pub skipped : (version server : ℕ) → Contains facts.skipped (version, server) ↔ SkipsChunk trace call version server
  pub changes : facts.changes ≡ length (changes_of (answers_to call trace))
  pub found : Decides facts.found (¬ Contains (answers_to call trace) Told.NoSuch)
  pub current : Decides facts.current ((newer : ℕ) → ¬ Contains (answers_to call trace) (Told.Superseded newer))
  pub reached : Decides facts.reached (¬ TargetWasAway script trace call)
  pub free : Decides (is_unhindered script facts) (IsUnhindered script trace call)
  pub writes : Decides (could_write script facts) (CouldWrite script trace call)
  pub place : Decides (has_its_place facts) (HasItsPlace script trace call)

-- of every call and by every list of steps
abbrev pub FactsAreExact : Type 0
FactsAreExact = (script : Script) (trace : List Made) (call : CallName) → AreFactsOf script trace call (facts_of script trace call)
