-- Rounds in a trace.
use Rattle.std.proofs.Common.{◌≡◌, ℕ, ◌+◌, Bool, List, [], ◌∷◌, ◌++◌, length, map, sym, ap, subst, ◌∙◌, arith}
use Rattle.std.proofs.lemmas.List.{map-append}
use Rattle.std.specs.List.{range_with_len}
use Rattle.clay_grid.proofs.Rising.{range_with_len_more}
use Rattle.store_map.specs.declared.actor.Token.{Token}
use Rattle.store_map.specs.declared.actor.Token.TheVariants as token
use Rattle.store_map.specs.declared.script.Script.{Script}
use Rattle.store_core.specs.Core.{Core, sweeper_has_step}
use Rattle.store_core.specs.Run.{Run}
use Rattle.store_core.specs.Schedule.{run_tokens}
use Rattle.store_core.specs.Step.{Shortage}
use Rattle.history_laws.specs.Trace.{Made}
use Rattle.history_laws.specs.Steps.{actors_round, sweep_token, round_steps}
use Rattle.world_laws.specs.World.{WorldOf}
use Rattle.world_laws.specs.Known.{core_of}
use Rattle.world_laws.specs.StandsFor.{StandsFor}
use Rattle.world_laws.specs.Leads.{IsAt}
use Rattle.world_laws.proofs.Ends.{sweeper_known}
use Rattle.world_laws.specs.Telling.{tokens_made, LeadsTelling}
use Rattle.world_laws.specs.RoundTells.{client_tokens, repairer_tokens, RoundTells, TurnsTell, RoundsTell}
use Rattle.world_laws.proofs.Lists.{round_as_tokens, round_run}
use Rattle.world_laws.proofs.TraceParts.{begins, first_at, both_lead, both_tell, tokens_tell_on, leads_on}

-- one actor's token more
tokens_more : (its : ℕ → Token) (i : ℕ) → map its (range_with_len 0 (i + 1)) ≡ map its (range_with_len 0 i) ++ its i ∷ []
tokens_more its i =
    let from_zero : 0 + i ≡ i = omega arith in
    ap (map its) (range_with_len_more 0 i) ∙ map-append its (range_with_len 0 i) ((0 + i) ∷ []) ∙ ap (λ n. map its (range_with_len 0 i) ++ its n ∷ []) from_zero

module _ (script : Script) (w : WorldOf) where
  turns_tell : (its : ℕ → Token) → TurnsTell script (λ count. map its (range_with_len 0 count)) its w
  turns_tell its =
      record {
        none = (tokens_tell_on script).none w;
        next = λ i middle after made more turns one.
            subst (λ (l : List Token). LeadsTelling script l w after (made ++ more)) (sym (tokens_more its i))
            (leads_on script (map its (range_with_len 0 i)) (its i ∷ []) w middle after made more turns one);
      }

  -- a round whose tokens are known of the world
  round_tells : (late after : WorldOf) (made last : List Made) (has : Bool) → LeadsTelling script (actors_round script) w late made → sweeper_has_step (core_of script late) ≡ has
      → LeadsTelling script (sweep_token has) late after last → RoundTells script w after (made ++ last)
  round_tells late after made last has actors is_has sweeper =
      let tokens : (core : Core) (rest : List Shortage) → StandsFor script w core → round_steps script (begins script core actors.shortages sweeper.shortages rest) ≡ actors_round script ++ sweep_token has =
      λ core rest stands.
      let now : Run = run_tokens script (actors_round script) (begins script core actors.shortages sweeper.shortages rest) in
      let at : IsAt script late (sweeper.shortages ++ rest) now = first_at script (run_tokens script (actors_round script)) w late actors.shortages sweeper.shortages rest core actors.leads stands in
      ap (λ b. actors_round script ++ sweep_token b) (sweeper_known script late now.core at.stands ∙ is_has) in
      record {
        shortages = actors.shortages ++ sweeper.shortages;
        leads = λ core rest stands.
            let start : Run = begins script core actors.shortages sweeper.shortages rest in
            subst (λ (r : Run). IsAt script after rest r) (ap (λ l. run_tokens script l start) (sym (tokens core rest stands)) ∙ round_run script start)
            (both_lead script (actors_round script) (sweep_token has) w late after made last actors sweeper core rest stands);
        tells = λ core rest stands.
            let start : Run = begins script core actors.shortages sweeper.shortages rest in
            round_as_tokens script start ∙ ap (λ l. tokens_made script l start) (tokens core rest stands)
            ∙ both_tell script (actors_round script) (sweep_token has) w late after made last actors sweeper core rest stands;
      }

  pub rounds_tell : RoundsTell script w
  rounds_tell =
      record {
        clients = turns_tell token.Client;
        repairers = turns_tell token.Repairer;
        whole = λ middle late after made more last has clients repairers is_has sweeper.
            round_tells late after (made ++ more) last has
            (leads_on script (client_tokens (length script.clients)) (repairer_tokens (length script.repairers)) w middle late made more clients repairers) is_has sweeper;
      }
