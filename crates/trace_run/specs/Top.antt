-- What the program owes for its input.
use Rattle.std.specs.Prelude.{◌≡◌, ◌⊎◌, ℕ, List, ◌++◌}
use Rattle.store_map.specs.declared.script.Script.{Script}
use Rattle.script_text.specs.FirstFault.{Spelled}
use Rattle.transcript_text.specs.Text.{text_of}
use Rattle.store_map.specs.declared.transcript.Transcript.{Transcript}
use Rattle.call_steps.specs.declared.step_made.Step.{Step}
use Rattle.store_world.specs.Traced.{IsTracedRun}
use Rattle.trace_lines.specs.Lines.{lines_of}
use Rattle.clay_cli.specs.Play.{IsFaulty}
use Rattle.clay_cli.specs.declared.status.Status.{Status}
use Rattle.clay_cli.specs.declared.status.Status.TheVariants.{Done, ScriptRefused}
use Rattle.clay_cli.specs.declared.output.Output.{Output}

-- the lines of a run's steps, and behind them its transcript's text
pub record IsTextOf (script : Script) (text : List ℕ) : Type 0 where
  pub steps : List Step
  pub transcript : Transcript
  pub traced : IsTracedRun script steps transcript
  pub written : text ≡ lines_of steps ++ text_of transcript

-- the input spells a script, and the text is that of a run of it
pub record IsTraceFor (input text : List ℕ) : Type 0 where
  pub script : Script
  pub spelled : Spelled input script
  pub text_of_it : IsTextOf script text

-- the output for an input, with its status; the other statuses have none
abbrev pub Owes : List ℕ → Status → List ℕ → Type 0
Owes input Done output = IsTraceFor input output
Owes input ScriptRefused output = IsFaulty input output
Owes input _ output = ⊥

-- such an output, made whole
abbrev pub IsAnswer : List ℕ → Output → Type 0
IsAnswer input output = Owes input output.status output.bytes.items

-- the statuses of an output that was made of the input
abbrev pub IsOfInput : Status → Type 0
IsOfInput status = (status ≡ Done) ⊎ (status ≡ ScriptRefused)
