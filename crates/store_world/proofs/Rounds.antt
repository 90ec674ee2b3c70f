-- Turns and rounds of the world, whose steps a watch is told.
use Rattle.std.proofs.Common.{◌≡◌, ℕ, ◌+◌, Bool, true, false, List, [], ◌∷◌, ◌++◌, length, subst, ◌∙◌}
use Rattle.store_map.specs.declared.actor.Token.{Token}
use Rattle.store_map.specs.declared.actor.Token.TheVariants as token
use Rattle.store_map.specs.declared.script.Script.{Script}
use Rattle.store_core.specs.Core.{sweeper_has_step}
use Rattle.history_laws.specs.Trace.{Made}
use Rattle.history_laws.specs.Steps.{sweep_token}
use Rattle.call_steps.specs.declared.step_made.Step.{Step}
use Rattle.world_laws.specs.World.{WorldOf}
use Rattle.world_laws.specs.Known.{core_of}
use Rattle.world_laws.specs.Telling.{LeadsTelling}
use Rattle.world_laws.specs.RoundTells.{client_tokens, repairer_tokens, RoundTells, TurnsTell}
use Rattle.world_laws.proofs.TraceParts.{tokens_tell_on}
use Rattle.world_laws.proofs.TraceRounds.{rounds_tell}
use Rattle.store_world.specs.Stored.{StoredWorld, world_of}
use Rattle.store_world.specs.Telling.{LeadsTold}
use Rattle.store_world.specs.Watched.{Watched}
use Rattle.store_world.proofs.Watching.{watched_none, watched_token, watched_on}

module _ {S : Type 0} (heard : S → S → List Step → Type 0)
    (on : (before middle after : S) (steps more : List Step) → heard before middle steps → heard middle after more → heard before after (steps ++ more)) where
  -- one actor's turn more
  pub one_turn_more : (script : Script) (w : WorldOf) (tokens : ℕ → List Token) (its : ℕ → Token) → TurnsTell script tokens its w → (i : ℕ) (middle after : StoredWorld) (steps : List Step) (a b c : S)
      → middle.script ≡ script → LeadsTold (its i) middle after steps → heard b c steps → Watched (heard a b) (LeadsTelling script (tokens i) w (world_of middle))
      → Watched (heard a c) (LeadsTelling script (tokens (i + 1)) w (world_of after))
  one_turn_more script w tokens its turns i middle after steps a b c same told hears sofar =
      watched_on heard on (LeadsTelling script (tokens i) w (world_of middle)) (LeadsTelling script (its i ∷ []) (world_of middle) (world_of after)) (LeadsTelling script (tokens (i + 1)) w (world_of after)) a b c
      (turns.next i (world_of middle) (world_of after)) sofar (watched_token (heard b c) script (its i) middle after steps same told hears)

  -- the turns of all clients, of all repairers and of the sweeper if it has one
  module _ (script : Script) (w middle late after : WorldOf) (has : Bool) (a b c d : S) where
    round_told : Watched (heard a b) (LeadsTelling script (client_tokens (length script.clients)) w middle)
        → Watched (heard b c) (LeadsTelling script (repairer_tokens (length script.repairers)) middle late) → sweeper_has_step (core_of script late) ≡ has
        → Watched (heard c d) (LeadsTelling script (sweep_token has) late after) → Watched (heard a d) (RoundTells script w after)
    round_told clients repairers is_has sweeper =
        let Rest : List Made → Type 0 = λ (l : List Made). (last : List Made) → LeadsTelling script (sweep_token has) late after last → RoundTells script w after (l ++ last) in
        let callers : Watched (heard a c) Rest =
        watched_on heard on (LeadsTelling script (client_tokens (length script.clients)) w middle) (LeadsTelling script (repairer_tokens (length script.repairers)) middle late) Rest a b c
        (λ made more first second last third. (rounds_tell script w).whole middle late after made more last has first second is_has third) clients repairers in
        watched_on heard on Rest (LeadsTelling script (sweep_token has) late after) (RoundTells script w after) a c d (λ l last rest third. rest last third) callers sweeper

  module _ (before middle late : StoredWorld) (clients repairers : ℕ) (all_clients : clients ≡ length before.script.clients) (all_repairers : repairers ≡ length before.script.repairers)
      (same_middle : middle.script ≡ before.script) (same_late : late.script ≡ middle.script) (a b c : S)
      (first : Watched (heard a b) (LeadsTelling before.script (client_tokens clients) (world_of before) (world_of middle)))
      (second : Watched (heard b c) (LeadsTelling middle.script (repairer_tokens repairers) (world_of middle) (world_of late))) where
    -- the same of what is known of the worlds between
    round_by : (after : StoredWorld) (has : Bool) (d : S) → sweeper_has_step (core_of late.script (world_of late)) ≡ has
        → Watched (heard c d) (LeadsTelling before.script (sweep_token has) (world_of late) (world_of after)) → Watched (heard a d) (RoundTells before.script (world_of before) (world_of after))
    round_by after has d is_has third =
        round_told before.script (world_of before) (world_of middle) (world_of late) (world_of after) has a b c d
        (subst (λ (n : ℕ). Watched (heard a b) (LeadsTelling before.script (client_tokens n) (world_of before) (world_of middle))) all_clients first)
        (subst (λ (n : ℕ). Watched (heard b c) (LeadsTelling before.script (repairer_tokens n) (world_of middle) (world_of late))) all_repairers
        (subst (λ (s : Script). Watched (heard b c) (LeadsTelling s (repairer_tokens repairers) (world_of middle) (world_of late))) same_middle second))
        (subst (λ (s : Script). sweeper_has_step (core_of s (world_of late)) ≡ has) (same_late ∙ same_middle) is_has) third

    -- the sweeper has a turn, and makes it
    pub round_swept : (after : StoredWorld) (step : Step) (d : S) → sweeper_has_step (core_of late.script (world_of late)) ≡ true → LeadsTold token.Sweep late after (step ∷ [])
        → heard c d (step ∷ []) → Watched (heard a d) (RoundTells before.script (world_of before) (world_of after))
    round_swept after step d is_has told hears = round_by after true d is_has (watched_token (heard c d) before.script token.Sweep late after (step ∷ []) (same_late ∙ same_middle) told hears)

    -- it has none
    pub round_unswept : heard c c [] → sweeper_has_step (core_of late.script (world_of late)) ≡ false → Watched (heard a c) (RoundTells before.script (world_of before) (world_of late))
    round_unswept nothing is_has =
        round_by late false c is_has
        (watched_none (heard c c) (LeadsTelling before.script (sweep_token false) (world_of late) (world_of late)) nothing ((tokens_tell_on before.script).none (world_of late)))
