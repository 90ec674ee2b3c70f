-- What a threaded run of a script shows, as a whole.
use Rattle.std.specs.Prelude.{◌≡◌, List, [], All}
use Rattle.store_map.specs.declared.script.Script.{Script}
use Rattle.store_map.specs.declared.transcript.Transcript.{Transcript}
use Rattle.hist_rules.specs.Finished.{Finished}
use Rattle.store_core.specs.Core.{Core}
use Rattle.store_core.specs.Schedule.{run_core}
use Rattle.store_core.specs.Shown.{shown}
use Rattle.history_laws.specs.Steps.{run_trace}
use Rattle.history_laws.specs.Trace.{Made}
use Rattle.thread_laws.specs.Threaded.{IsThreadedRun}
use Rattle.history_laws.specs.Ample.{IsAmple}
use Rattle.history_laws.specs.Faithful.{IsFaithful}

-- the core that it ends with, and its steps, each with its answer
abbrev pub core_of : (script : Script) (t : Transcript) → IsThreadedRun script t → Core
core_of script t run = run_core script run.shortages run.tokens

abbrev pub steps_of : (script : Script) (t : Transcript) → IsThreadedRun script t → List Made
steps_of script t run = run_trace script run.shortages run.tokens

-- a transcript that a threaded run of the script shows
pub record IsRun (script : Script) (t : Transcript) : Type 0 where
  -- some order of single steps, the operator's lines as the script has them, and the steps in which memory was wanting, or before which
  pub run : IsThreadedRun script t
  -- nothing else is left open: where memory was wanting in no step that order alone determines the transcript
  pub ample : All IsAmple run.shortages → t ≡ shown script (run_core script [] run.tokens)
  -- one history, legal, in time, with the causes and ends of its calls, by the steps in that order
  pub faithful : IsFaithful script (steps_of script t run) t
  -- each call is answered or refused, or has its result, but a last one under a step limit
  pub finished : Finished script t
