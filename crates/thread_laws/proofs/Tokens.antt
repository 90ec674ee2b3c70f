-- A ticket keeps its actor.
use Rattle.std.proofs.Common.{◌≡◌, ℕ}
use Rattle.store_core.specs.Told.{Told}
use Rattle.store_core.specs.Act.{DirectoryStep}
use Rattle.store_core.specs.Agreement.{ActorToken}
use Rattle.store_core.specs.Tokens.{actor_of}
use Rattle.call_steps.specs.TokenAfter.{token_after}
use Rattle.call_steps.proofs.Tokens.{tokens_stay}

pub token_stays : (token : ActorToken) (number : ℕ) (step : DirectoryStep) (answer : Told) → actor_of (token_after token number step answer) ≡ actor_of token
token_stays = tokens_stay.token
