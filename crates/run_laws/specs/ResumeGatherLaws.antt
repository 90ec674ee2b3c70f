-- What a gathering comes to from where it stands, by further answers.
use Rattle.std.specs.Prelude.{◌≡◌, List, [], ◌∷◌}
use Rattle.clay_grid.specs.Shape.{Shape}
use Rattle.store_core.specs.Told.{Told}
use Rattle.store_core.specs.Gathering.{Gathering}
use Rattle.store_core.specs.GatheringParts.{gather_part, gather_chunk}
use Rattle.run_laws.specs.Stage.{Aim, Stage}
use Rattle.run_laws.specs.Stages.{first_stage}
use Rattle.run_laws.specs.StageAfter.{stage_after, server_asked, step_asked}

-- the gathering of an aim, as the store's definitions say it
abbrev pub gather : Shape → Aim → List Told → Gathering
gather g (Aim.Range part) told = gather_part g part told
gather g (Aim.Chunk seen target) told = gather_chunk g seen target told

-- the answers go to the stage one after another, until it has ended; the others are left
abbrev pub comes_to : Shape → Aim → Stage → List Told → Gathering
comes_to g aim (Stage.Asks asking) [] = Gathering.Asks (server_asked g aim asking) (step_asked g aim asking)
comes_to g aim (Stage.Asks asking) (answer ∷ told) = comes_to g aim (stage_after g aim asking answer) told
comes_to g aim Stage.HasBytes told = Gathering.HasBytes told
comes_to g aim (Stage.TooMany missing) told = Gathering.TooMany missing told
comes_to g aim Stage.AtTarget told = Gathering.AtTarget told
comes_to g aim (Stage.TargetAway downs) told = Gathering.TargetAway downs told
comes_to g aim Stage.Short told = Gathering.Short told

-- a gathering goes on from its stage alone: for every list of answers it comes to what the definitions say of the whole list
abbrev pub GatheringsResume : Type 0
GatheringsResume = (g : Shape) (aim : Aim) (told : List Told) → comes_to g aim (first_stage g aim) told ≡ gather g aim told
