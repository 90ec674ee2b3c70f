-- Tokens that lead on and make their steps.
use Rattle.std.proofs.Common.{◌≡◌, List, [], ◌++◌, refl, sym, ap, subst, ◌∙◌, append_assoc}
use Rattle.store_map.specs.declared.actor.Token.{Token}
use Rattle.store_map.specs.declared.script.Script.{Script}
use Rattle.store_core.specs.Core.{Core}
use Rattle.store_core.specs.Run.{Run}
use Rattle.store_core.specs.Schedule.{run_tokens}
use Rattle.store_core.specs.Step.{Shortage}
use Rattle.history_laws.specs.Trace.{Made}
use Rattle.world_laws.specs.World.{WorldOf}
use Rattle.world_laws.specs.StandsFor.{StandsFor}
use Rattle.world_laws.specs.Leads.{IsAt, LeadsWorld}
use Rattle.world_laws.proofs.Parts.{parts_lead_worlds}
use Rattle.world_laws.specs.Telling.{tokens_made, Tells, TellsOf, LeadsTelling, TokensTellOn}
use Rattle.world_laws.proofs.Lists.{run_append, made_append}

module _ (script : Script) where
  -- what is told from where a run has come
  pub told_at : (told : Run → List Made) (w : WorldOf) (shortages more : List Shortage) (made : List Made) (run : Run) → Tells script told w shortages made
      → IsAt script w (shortages ++ more) run → told run ≡ made
  told_at told w shortages more made run tells at =
      ap (λ (ms : List Shortage). told (record { core = run.core; shortages = ms })) at.left ∙ tells run.core more at.stands

  -- with the shortages of two parts, those of the first and then the rest
  abbrev pub begins : Core → List Shortage → List Shortage → List Shortage → Run
  begins core shortages more rest = record { core = core; shortages = (shortages ++ more) ++ rest }

  regrouped : (core : Core) (shortages more rest : List Shortage) → begins core shortages more rest ≡ record { core = core; shortages = shortages ++ (more ++ rest) }
  regrouped core shortages more rest = ap (λ (ms : List Shortage). record { core = core; shortages = ms }) (append_assoc shortages more rest)

  -- where the first of two parts has come
  pub first_at : (first : Run → Run) (w middle : WorldOf) (shortages more rest : List Shortage) (core : Core) → LeadsWorld script first w shortages middle → StandsFor script w core
      → IsAt script middle (more ++ rest) (first (begins core shortages more rest))
  first_at first w middle shortages more rest core leads stands =
      subst (λ (r : Run). IsAt script middle (more ++ rest) (first r)) (sym (regrouped core shortages more rest)) (leads core (more ++ rest) stands)

  none : (w : WorldOf) → LeadsTelling script [] w w []
  none w = record { shortages = []; leads = λ core more stands. record { stands = stands; left = refl }; tells = λ core more stands. refl }

  module _ (tokens more : List Token) (w middle after : WorldOf) (made later : List Made) (one : LeadsTelling script tokens w middle made) (two : LeadsTelling script more middle after later) where
    pub both_lead : LeadsWorld script (run_tokens script (tokens ++ more)) w (one.shortages ++ two.shortages) after
    both_lead core rest stands =
        subst (λ (r : Run). IsAt script after rest r) (sym (run_append script tokens more (begins core one.shortages two.shortages rest)))
        (parts_lead_worlds script (run_tokens script tokens) (run_tokens script more) w middle after one.shortages two.shortages one.leads two.leads core rest stands)

    pub both_tell : TellsOf script (tokens ++ more) w (one.shortages ++ two.shortages) (made ++ later)
    both_tell core rest stands =
        let start : Run = begins core one.shortages two.shortages rest in
        let first : tokens_made script tokens start ≡ made =
        ap (tokens_made script tokens) (regrouped core one.shortages two.shortages rest) ∙ one.tells core (two.shortages ++ rest) stands in
        let second : tokens_made script more (run_tokens script tokens start) ≡ later =
        told_at (tokens_made script more) middle two.shortages rest later (run_tokens script tokens start) two.tells
        (first_at (run_tokens script tokens) w middle one.shortages two.shortages rest core one.leads stands) in
        made_append script tokens more start ∙ (λ k. first k ++ second k)

    pub leads_on : LeadsTelling script (tokens ++ more) w after (made ++ later)
    leads_on = record { shortages = one.shortages ++ two.shortages; leads = both_lead; tells = both_tell }

  pub tokens_tell_on : TokensTellOn script
  tokens_tell_on = record { none = none; then = leads_on }
