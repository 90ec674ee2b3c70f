-- What a round is in a trace, actor by actor.
use Rattle.std.specs.Prelude.{◌≡◌, ℕ, ◌+◌, Bool, List, [], ◌∷◌, ◌++◌, length, map}
use Rattle.std.specs.List.{range_with_len}
use Rattle.store_map.specs.declared.actor.Token.{Token}
use Rattle.store_map.specs.declared.actor.Token.TheVariants as token
use Rattle.store_map.specs.declared.script.Script.{Script}
use Rattle.store_core.specs.Core.{sweeper_has_step}
use Rattle.store_core.specs.Run.{Run}
use Rattle.store_core.specs.Schedule.{round}
use Rattle.history_laws.specs.Trace.{Made, trace_of}
use Rattle.history_laws.specs.Steps.{sweep_token, round_steps}
use Rattle.world_laws.specs.World.{WorldOf}
use Rattle.world_laws.specs.Known.{core_of}
use Rattle.world_laws.specs.Telling.{PartTells, LeadsTelling}

-- a token for each of the first so many clients
abbrev pub client_tokens : ℕ → List Token
client_tokens count = map token.Client (range_with_len 0 count)

-- a token for each of the first so many repairers
abbrev pub repairer_tokens : ℕ → List Token
repairer_tokens count = map token.Repairer (range_with_len 0 count)

-- the steps of a round from a run on
abbrev pub round_made : Script → Run → List Made
round_made script run = trace_of script (round_steps script run) run

-- a round leads from one world to another and makes these steps
abbrev pub RoundTells : Script → WorldOf → WorldOf → List Made → Type 0
RoundTells script w after made = PartTells script (round script) (round_made script) w after made

-- the turns of the first so many actors, one more at a time, where `tokens` has theirs
pub record TurnsTell (script : Script) (tokens : ℕ → List Token) (its : ℕ → Token) (w : WorldOf) : Type 0 where
  pub none : LeadsTelling script (tokens 0) w w []
  pub next :
      (i : ℕ) (middle after : WorldOf) (made more : List Made) → LeadsTelling script (tokens i) w middle made →
      LeadsTelling script (its i ∷ []) middle after more → LeadsTelling script (tokens (i + 1)) w after (made ++ more)

-- the turns of all clients, of all repairers, and of the sweeper if it has one then, make the steps of a round, one after the other
pub record RoundsTell (script : Script) (w : WorldOf) : Type 0 where
  pub clients : TurnsTell script client_tokens token.Client w
  pub repairers : TurnsTell script repairer_tokens token.Repairer w
  pub whole :
      (middle late after : WorldOf) (made more last : List Made) (has : Bool) → LeadsTelling script (client_tokens (length script.clients)) w middle made →
      LeadsTelling script (repairer_tokens (length script.repairers)) middle late more → sweeper_has_step (core_of script late) ≡ has →
      LeadsTelling script (sweep_token has) late after last → RoundTells script w after (made ++ more ++ last)
