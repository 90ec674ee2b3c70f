-- What a gathering takes is what the definitions take.
use Rattle.std.proofs.Common.{◌≡◌, ℕ, List, Some, refl}
use Rattle.store_core.specs.Told.{Told}
use Rattle.store_core.specs.Act.{Act, ServerStep}
use Rattle.store_core.specs.Step.{take_from}
use Rattle.gathering.specs.Gathers.{taking}

pub takes_follow : (answer : Told) (server : ℕ) (step : ServerStep) (takes : List ℕ) → taking answer (Some server) takes ≡ take_from (Act.AtServer server step) answer takes
takes_follow (Told.Given layers) server step takes = refl
takes_follow answer server step takes = refl
