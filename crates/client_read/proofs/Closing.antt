-- The end of a call's pass.
use Rattle.std.proofs.Common.{ℕ}
use Rattle.store_core.specs.Told.{Told}
use Rattle.store_core.specs.Note.{Note}
use Rattle.store_core.specs.Act.{DirectoryStep}
use Rattle.store_core.specs.Agreement.{ActorToken}
use Rattle.store_core.specs.Tokens.{actor_of}
use Rattle.call_steps.specs.TokenAfter.{token_after, IsSeated}
use Rattle.call_steps.specs.Callers.{IsClient}
use Rattle.client_read.specs.Inside.{IsHolding}

pub end_seated : (token : ActorToken) (number : ℕ) (note : Note) → IsHolding number note token → IsSeated (token_after token number DirectoryStep.End Told.Ended)
end_seated (ActorToken.Seated seat) number note holds = absurd holds
end_seated (ActorToken.InCall held) number note holds = tt

pub end_client : (token : ActorToken) (number : ℕ) (note : Note) → IsHolding number note token → IsClient (actor_of token)
    → IsClient (actor_of (token_after token number DirectoryStep.End Told.Ended))
end_client (ActorToken.Seated seat) number note holds client = absurd holds
end_client (ActorToken.InCall held) number note holds client = client
