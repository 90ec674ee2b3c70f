-- What a run of a script shows, as a whole.
use Rattle.std.specs.Prelude.{◌≡◌, List, [], ◌∷◌, ◌++◌, All}
use Rattle.store_map.specs.declared.actor.Token.{Token}
use Rattle.store_map.specs.declared.actor.Token.TheVariants as token
use Rattle.store_map.specs.declared.script.Script.{Script}
use Rattle.store_map.specs.declared.transcript.Transcript.{Transcript}
use Rattle.store_core.specs.Shown.{shown_of}
use Rattle.store_core.specs.Step.{Shortage}
use Rattle.hist_rules.specs.Finished.{Finished}
use Rattle.history_laws.specs.Steps.{run_trace}
use Rattle.history_laws.specs.Ample.{IsAmple}
use Rattle.history_laws.specs.Faithful.{IsFaithful}

-- a transcript that a run of the script shows
pub record IsPlayed (script : Script) (t : Transcript) : Type 0 where
  -- the steps in which memory was wanting, or before which: nothing else is left open, so without them the script alone determines the transcript
  pub shortages : List Shortage
  pub shows : t ≡ shown_of script shortages
  -- so where memory was wanting in no step it is the one transcript that the script has then
  pub ample : All IsAmple shortages → t ≡ shown_of script []
  -- one history, legal, in time, with the causes and ends of its calls, by the steps that the schedule makes
  pub faithful : IsFaithful script (run_trace script shortages script.schedule) t
  -- and where the schedule ends with a drain, each call but a last one under a step limit is answered, refused or has its result
  pub finished : (tokens : List Token) → script.schedule ≡ tokens ++ token.Drain ∷ [] → Finished script t
