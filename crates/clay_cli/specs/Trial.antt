-- What `trial` prints.
use Rattle.std.specs.Prelude.{◌≡◌, ℕ, ◌*◌, ◌/◌, List, ◌++◌, codes, decimal}
use Rattle.clay_gen.specs.Script.{generated}
use Rattle.store_map.specs.declared.transcript.Transcript.{Transcript}
use Rattle.store_run.specs.Swept.{IsRunToEnd}

-- how many calls and rebuilds the script has, and that its run is legal
abbrev pub trial_lines : ℕ → List ℕ
trial_lines size =
    codes "calls " ++ (decimal (4 * size) ++ (codes "\nrebuilds " ++ (decimal (size / 4) ++ codes "\nlegal\n")))

-- the text is that of a trial whose transcript is one of a threaded run of the script: a finished history, which the checker finds legal
pub record IsTried (start size : ℕ) (text : List ℕ) : Type 0 where
  pub transcript : Transcript
  pub run : IsRunToEnd (generated start size) transcript
  pub written : text ≡ trial_lines size
