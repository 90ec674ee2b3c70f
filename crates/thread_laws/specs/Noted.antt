-- Histories of the directory: its entries are steps with the stamps that they drew.
use Rattle.std.specs.Prelude.{⊤, ℕ, List, [], ◌∷◌, map, filter}
use Rattle.std.specs.List.{flat_map}
use Rattle.store_map.specs.declared.actor.Actor.{Actor}
use Rattle.store_map.specs.declared.actor.Actor.TheVariants as actor
use Rattle.store_core.specs.Act.{Act}
use Rattle.store_core.specs.Agreement.{ActorToken}
use Rattle.version_seal.specs.Entry.{StampOf}
use Rattle.thread_laws.specs.MadeSteps.{MadeStep, is_by}
use Rattle.call_steps.specs.TokenAfter.{token_after}
use Rattle.world_laws.specs.Tokens.{first_token}

-- a step, and the stamps that it drew
pub record Noted : Type 0 where
  pub made : MadeStep
  pub drawn : List StampOf

-- the steps of a history
abbrev pub made_in : List (ℕ × Noted) → List MadeStep
made_in log = map (λ (entry : ℕ × Noted). entry.1.made) log

-- the stamps that were drawn in it
abbrev pub stamps_in : List (ℕ × Noted) → List StampOf
stamps_in log = flat_map (λ (entry : ℕ × Noted). entry.1.drawn) log

-- an actor's ticket after its step; only steps at the directory change it
abbrev pub token_by : Act → MadeStep → ActorToken → ActorToken
token_by (Act.AtDirectory step) m token = token_after token m.number step m.answer
token_by act m token = token

-- after all its steps
abbrev pub tokens_after : List MadeStep → ActorToken → ActorToken
tokens_after [] token = token
tokens_after (m ∷ steps) token = tokens_after steps (token_by m.act m token)

-- the ticket that an actor has, by its steps at the directory among these
abbrev pub token_in : Actor → List MadeStep → ActorToken
token_in who steps = tokens_after (filter (is_by who) steps) (first_token who)

-- an actor with calls
abbrev pub IsCaller : Actor → Type 0
IsCaller (actor.Client i) = ⊤
IsCaller (actor.Repairer i) = ⊤
IsCaller who = ⊥
