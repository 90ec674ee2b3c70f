-- Shortage that come later leave earlier steps alone.
use Rattle.std.proofs.Common.{◌≡◌, ℕ, ◌<◌, ◌≤◌, Bool, true, false, List, [], ◌∷◌, ◌++◌, length, Option, None, Some, refl, sym, ap, ◌∙◌, arith, true≢false, append_assoc, append-nil}
use Rattle.std.specs.List.{slice_get}
use Rattle.store_map.specs.declared.actor.Actor.{Actor}
use Rattle.store_map.specs.declared.actor.Actor.TheVariants as actor
use Rattle.store_map.specs.declared.actor.Token.{Token}
use Rattle.store_map.specs.declared.script.Script.{Script}
use Rattle.store_core.specs.Core.{Core}
use Rattle.store_core.specs.NextAct.{Job}
use Rattle.store_core.specs.CallStep.{job_step, step_if, step_of}
use Rattle.store_core.specs.Run.{Run, first_shortage, places_in, after_client, after_repairer}
use Rattle.store_core.specs.Schedule.{step_core, run_tokens}
use Rattle.store_core.specs.Step.{Shortage, Places}
use Rattle.store_core.specs.Work.{Work, Calling, client_work, repairer_work, has_step}
use Rattle.run_laws.specs.ShortageLaws.{may_turn, PartsLeadOn, StepsLead, TokensLead}
use Rattle.run_laws.proofs.Drains.{run_more}
use Rattle.run_laws.proofs.Groups.{has_job, none_past}

pub parts_lead_on : PartsLeadOn
parts_lead_on first second before middle after shortages more one other = λ rest.
    ap (λ ms. second (first (record { core = before; shortages = ms }))) (append_assoc shortages more rest) ∙ ap second (one (more ++ rest)) ∙ other rest

-- ---- a step of an actor, or none
abbrev Made : Option (Places × Calling) → Type 0
Made None = ⊥
Made (Some after) = Unit {0}

abbrev NotMade : Option (Places × Calling) → Type 0
NotMade None = Unit {0}
NotMade (Some after) = ⊥

module _ (script : Script) (shortages : Shortage) (who : Actor) (places : Places) where
  job_made : (work : Work) (calling : Calling) → has_step work calling ≡ true → (found : Option Job) → slice_get work.jobs (length calling.ended) ≡ found → Made (job_step script shortages who calling places found)
  job_made work calling steps None e =
      let past : length work.jobs ≤ length calling.ended = none_past work.jobs (length calling.ended) e in
      let left : length calling.ended < length work.jobs = has_job work calling steps in
      omega (arith, past, left)
  job_made work calling steps (Some job) e = tt

  if_made : (work : Work) (calling : Calling) (b : Bool) → has_step work calling ≡ b → b ≡ true → Made (step_if b script shortages who work calling places)
  if_made work calling true e turn = job_made work calling e (slice_get work.jobs (length calling.ended)) refl
  if_made work calling false e turn = absurd (true≢false (sym turn))

  if_not : (work : Work) (calling : Calling) (b : Bool) → b ≡ false → NotMade (step_if b script shortages who work calling places)
  if_not work calling true turn = absurd (true≢false turn)
  if_not work calling false turn = tt

  made : (work : Option Work) (calling : Option Calling) → may_turn work calling ≡ true → Made (step_of script shortages who work calling places)
  made (Some work) (Some calling) turn = if_made work calling (has_step work calling) refl turn
  made (Some work) None turn = absurd (true≢false (sym turn))
  made None calling turn = absurd (true≢false (sym turn))

  not_made : (work : Option Work) (calling : Option Calling) → may_turn work calling ≡ false → NotMade (step_of script shortages who work calling places)
  not_made (Some work) (Some calling) turn = if_not work calling (has_step work calling) turn
  not_made (Some work) None turn = tt
  not_made None calling turn = tt

client_leads : (core : Core) (i : ℕ) (shortages : Shortage) (more : List Shortage) (after : Option (Places × Calling)) → Made after
    → after_client i (record { core = core; shortages = shortages ∷ more }) after ≡ record { core = (after_client i (record { core = core; shortages = shortages ∷ [] }) after).core; shortages = more }
client_leads core i shortages more None h = absurd h
client_leads core i shortages more (Some after) h = refl

client_rests : (i : ℕ) (run : Run) (after : Option (Places × Calling)) → NotMade after → after_client i run after ≡ run
client_rests i run None h = refl
client_rests i run (Some after) h = absurd h

repairer_leads : (core : Core) (i : ℕ) (shortages : Shortage) (more : List Shortage) (after : Option (Places × Calling)) → Made after
    → after_repairer i (record { core = core; shortages = shortages ∷ more }) after ≡ record { core = (after_repairer i (record { core = core; shortages = shortages ∷ [] }) after).core; shortages = more }
repairer_leads core i shortages more None h = absurd h
repairer_leads core i shortages more (Some after) h = refl

repairer_rests : (i : ℕ) (run : Run) (after : Option (Places × Calling)) → NotMade after → after_repairer i run after ≡ run
repairer_rests i run None h = refl
repairer_rests i run (Some after) h = absurd h

-- ---- the laws
pub steps_lead : (script : Script) (core : Core) (shortages : Shortage) → StepsLead script core shortages
steps_lead script core shortages =
    record {
      client = λ i. record {
        step = λ turn more.
            client_leads core i shortages more (step_of script shortages (actor.Client i) (slice_get (client_work script) i) (slice_get core.clients i) (places_in core))
            (made script shortages (actor.Client i) (places_in core) (slice_get (client_work script) i) (slice_get core.clients i) turn);
        none = λ turn more.
            client_rests i (record { core = core; shortages = more }) (step_of script (first_shortage more) (actor.Client i) (slice_get (client_work script) i) (slice_get core.clients i) (places_in core))
            (not_made script (first_shortage more) (actor.Client i) (places_in core) (slice_get (client_work script) i) (slice_get core.clients i) turn);
      };
      repairer = λ i. record {
        step = λ turn more.
            repairer_leads core i shortages more (step_of script shortages (actor.Repairer i) (slice_get (repairer_work script) i) (slice_get core.repairers i) (places_in core))
            (made script shortages (actor.Repairer i) (places_in core) (slice_get (repairer_work script) i) (slice_get core.repairers i) turn);
        none = λ turn more.
            repairer_rests i (record { core = core; shortages = more }) (step_of script (first_shortage more) (actor.Repairer i) (slice_get (repairer_work script) i) (slice_get core.repairers i) (places_in core))
            (not_made script (first_shortage more) (actor.Repairer i) (places_in core) (slice_get (repairer_work script) i) (slice_get core.repairers i) turn);
      };
      sweeper = λ more. refl;
      operator = λ act more. refl;
    }

pub tokens_lead : (script : Script) (tokens : List Token) (before : Core) → TokensLead script tokens before
tokens_lead script tokens before =
    record {
      none = λ more. refl;
      token = λ token middle after shortages more one other rest.
          run_more script tokens token (record { core = before; shortages = (shortages ++ more) ++ rest })
          ∙ parts_lead_on (run_tokens script tokens) (step_core script token) before middle after shortages more one other rest;
      core = λ after shortages leads. ap (λ ms. (run_tokens script tokens (record { core = before; shortages = ms })).core) (sym (append-nil shortages)) ∙ ap (λ (r : Run). r.core) (leads []);
    }
