-- A run to its end.
use Rattle.std.specs.Prelude.{◌≡◌, false}
use Rattle.store_map.specs.declared.script.Script.{Script}
use Rattle.store_core.specs.Core.{sweeper_has_step}
use Rattle.store_map.specs.declared.transcript.Transcript.{Transcript}
use Rattle.thread_laws.specs.Run.{IsRun, core_of}

-- a transcript that a threaded run of the script shows, at whose end the sweeper has nothing left to do
pub record IsRunToEnd (script : Script) (t : Transcript) : Type 0 where
  pub run : IsRun script t
  pub swept : sweeper_has_step (core_of script t run.run) ≡ false
