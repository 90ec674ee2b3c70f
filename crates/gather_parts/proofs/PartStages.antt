-- A part's gathering never asks a target.
use Rattle.std.proofs.Common.{ℕ, zero, suc, nat_lt, Bool, true, false, cond, List, [], ◌∷◌, length}
use Rattle.clay_grid.specs.Shape.{Shape}
use Rattle.store_core.specs.Told.{Seen, Lost, Told}
use Rattle.store_core.specs.Gathering.{Part}
use Rattle.store_core.specs.GatheringParts.{chunks_in_range}
use Rattle.run_laws.specs.Stage.{Aim, Asking, Stage}
use Rattle.run_laws.specs.Stages.{unless_many, whole_stage, repair_stage, recover_stage, make_stage, look_stage, data_stage, fetch_stage, first_stage}
use Rattle.run_laws.specs.StageAfter.{with_lost, stage_after, next_stage}
use Rattle.gather_parts.specs.Inside.{IsPartStage, IsOfPart}

module _ (g : Shape) where
  unless_part : (missing : List Lost) (stage : Stage) → IsPartStage stage → IsPartStage (unless_many g missing stage)
  unless_part missing stage h = by (nat_lt g.parity_count (length missing))
    where
      by : (many : Bool) → IsPartStage (cond many (Stage.TooMany missing) stage)
      by true = tt
      by false = h

  whole_part : (servers : List ℕ) (wanted : ℕ) (missing : List Lost) → IsPartStage (whole_stage g servers wanted missing)
  whole_part servers zero missing = tt
  whole_part [] (suc wanted) missing = tt
  whole_part (server ∷ more) (suc wanted) missing = tt

  repair_part : (servers : List ℕ) (lost : Lost) → IsPartStage (repair_stage g servers lost)
  repair_part [] lost = tt
  repair_part (server ∷ more) lost = tt

  module _ (seen : Seen) where
    recover_part : (missing : List Lost) → IsPartStage (recover_stage g seen missing)
    recover_part missing = whole_part _ g.data_count missing

    make_part : (missing : List Lost) → IsPartStage (make_stage g seen missing)
    make_part [] = tt
    make_part (lost ∷ []) = repair_part _ lost
    make_part (lost ∷ other ∷ more) = recover_part (lost ∷ other ∷ more)

    look_part : (servers : List ℕ) (missing : List Lost) → IsPartStage (look_stage g seen servers missing)
    look_part [] missing = make_part missing
    look_part (server ∷ more) missing = tt

  module _ (part : Part) where
    data_part : (missing : List Lost) → IsPartStage (data_stage g part missing)
    data_part [] = tt
    data_part (lost ∷ more) = look_part part.seen _ (lost ∷ more)

    fetch_part : (servers : List ℕ) (missing : List Lost) → IsPartStage (fetch_stage g part servers missing)
    fetch_part [] missing = data_part missing
    fetch_part (server ∷ more) missing = tt

    after_part : (asking : Asking) (answer : Told) → IsPartStage (Stage.Asks asking) → IsPartStage (stage_after g (Aim.Range part) asking answer)
    after_part (Asking.Fetch server more missing) (Told.Given layers) h = fetch_part more missing
    after_part (Asking.Fetch server more missing) (Told.Missing found) h = unless_part _ _ (fetch_part more _)
    after_part (Asking.Fetch server more missing) answer h = tt
    after_part (Asking.Look server more missing) Told.Here h = look_part part.seen more missing
    after_part (Asking.Look server more missing) (Told.Missing found) h = unless_part _ _ (look_part part.seen more _)
    after_part (Asking.Look server more missing) answer h = tt
    after_part (Asking.Repair server more lost) (Told.Given layers) h = repair_part more lost
    after_part (Asking.Repair server more lost) (Told.Missing found) h = unless_part (with_lost g (Aim.Range part) (lost ∷ []) server found) _ (recover_part part.seen (with_lost g (Aim.Range part) (lost ∷ []) server found))
    after_part (Asking.Repair server more lost) answer h = tt
    after_part (Asking.Whole server more wanted missing) (Told.Given layers) h = whole_part more wanted missing
    after_part (Asking.Whole server more wanted missing) (Told.Missing found) h = unless_part _ _ (whole_part more (suc wanted) _)
    after_part (Asking.Whole server more wanted missing) answer h = tt
    after_part (Asking.Target server) answer h = absurd h

    next_part : (stage : Stage) (answer : Told) → IsPartStage stage → IsPartStage (next_stage g (Aim.Range part) stage answer)
    next_part (Stage.Asks asking) answer h = after_part asking answer h
    next_part Stage.HasBytes answer h = tt
    next_part (Stage.TooMany missing) answer h = tt
    next_part Stage.AtTarget answer h = absurd h
    next_part (Stage.TargetAway downs) answer h = absurd h
    next_part Stage.Short answer h = tt

-- so does that of any aim of a part
pub still_of_part : (g : Shape) (aim : Aim) (stage : Stage) (answer : Told) → IsOfPart aim stage → IsOfPart aim (next_stage g aim stage answer)
still_of_part g (Aim.Range part) stage answer h = next_part g part stage answer h
still_of_part g (Aim.Chunk seen target) stage answer h = absurd h

-- before its first answer
pub first_of_part : (g : Shape) (part : Part) → IsOfPart (Aim.Range part) (first_stage g (Aim.Range part))
first_of_part g part = fetch_part g part (chunks_in_range g part.start part.end) []
