-- A call that goes on has a step left.
use Rattle.std.proofs.Common.{◌≡◌, ℕ, ◌<◌, List, true, false, arith}
use Rattle.clay_grid.specs.Shape.{Shape}
use Rattle.store_core.specs.Told.{Told}
use Rattle.store_core.specs.Act.{Act, DirectoryStep, ServerStep}
use Rattle.run_laws.specs.Answers.{Answers}
use Rattle.store_core.specs.Bounds.{touched_count}
use Rattle.run_laws.specs.CallLeft.{pin_bound, call_left}
use Rattle.store_core.specs.NextAct.{Job, next_act}
use Rattle.run_laws.specs.StepLaws.{HasTarget}
use Rattle.store_core.specs.Tell.{tell}
use Rattle.run_laws.proofs.ActAnswers.{IsGoing}
use Rattle.run_laws.proofs.Proper.{IsProper, HasTry, acts_proper}
use Rattle.run_laws.proofs.Steps.{steps_fall}

-- each step of a call has some answer
some_answer : (g : Shape) (job : Job) (room : Type 0) (pins touched : ℕ) (act : Act) → IsProper g job room act → IsGoing act
    → (answer : Told) × Answers pins touched act answer
some_answer g job room pins touched (Act.AtDirectory (DirectoryStep.Look note)) proper going = (Told.Short, tt)
some_answer g job room pins touched (Act.AtDirectory (DirectoryStep.LookRepair note)) proper going = (Told.Short, tt)
some_answer g job room pins touched (Act.AtDirectory DirectoryStep.Draw) proper going = (Told.Short, tt)
some_answer g job room pins touched (Act.AtDirectory (DirectoryStep.Commit placed)) proper going = (Told.Done 0, tt)
some_answer g job room pins touched (Act.AtDirectory DirectoryStep.End) proper going = (Told.Ended, tt)
some_answer g job room pins touched (Act.AtDirectory DirectoryStep.Confirm) proper going = (Told.Current, tt)
some_answer g job room pins touched (Act.AtDirectory (DirectoryStep.Repaired server epoch)) proper going = (Told.Ended, tt)
some_answer g job room pins touched (Act.AtDirectory DirectoryStep.NextGarbage) proper going = absurd proper
some_answer g job room pins touched (Act.AtDirectory (DirectoryStep.Swept version)) proper going = absurd proper
some_answer g job room pins touched (Act.AtDirectory (DirectoryStep.Reap actor)) proper going = absurd proper
some_answer g job room pins touched (Act.AtServer server (ServerStep.Prepare version)) proper going = (Told.Short, tt)
some_answer g job room pins touched (Act.AtServer server (ServerStep.Settle version)) proper going = (Told.Settled, tt)
some_answer g job room pins touched (Act.AtServer server (ServerStep.Has version)) proper going = (Told.Here, tt)
some_answer g job room pins touched (Act.AtServer server (ServerStep.Fetch version layers)) proper going = (Told.Short, tt)
some_answer g job room pins touched (Act.AtServer server (ServerStep.Install version)) proper going = (Told.Short, tt)
some_answer g job room pins touched (Act.AtServer server (ServerStep.Discard version)) proper going = let e : false ≡ true = proper.1 in cc
some_answer g job room pins touched (Act.AtServer server ServerStep.Wipe) proper going = let e : false ≡ true = proper.1 in cc
some_answer g job room pins touched (Act.AtServer server ServerStep.Down) proper going = let e : false ≡ true = proper.1 in cc
some_answer g job room pins touched (Act.AtServer server ServerStep.Up) proper going = let e : false ≡ true = proper.1 in cc
some_answer g job room pins touched (Act.Finish outcome) proper going = absurd going

-- so it has a step left, since that answer leaves fewer
pub has_step_left : (g : Shape) (most tries : ℕ) (job : Job) → HasTarget g job → (told : List Told) → IsGoing (next_act g tries job told)
    → 0 < call_left g most tries job told
has_step_left g most tries job target told going =
    let some : (answer : Told) × Answers (pin_bound g most job.note) (touched_count g job.note) (next_act g tries job told) answer =
    some_answer g job (HasTry job.note.kind tries told) (pin_bound g most job.note) (touched_count g job.note) (next_act g tries job told)
    (acts_proper g tries job target told) going in
    let fewer : call_left g most tries job (tell g job told some.0) < call_left g most tries job told =
    (steps_fall g most tries job).falls told some.0 target some.1 in
    omega (arith, fewer)
