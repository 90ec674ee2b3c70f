-- Steps that a watch is told one after the other.
use Rattle.std.proofs.Common.{◌≡◌, List, [], ◌∷◌, ◌++◌, sym, subst}
use Rattle.std.specs.Prelude.{Result, OnOk}
use Rattle.store_map.specs.declared.actor.Token.{Token}
use Rattle.store_map.specs.declared.script.Script.{Script}
use Rattle.history_laws.specs.Trace.{Made}
use Rattle.call_steps.specs.declared.step_made.Step.{Step}
use Rattle.world_laws.specs.StepsTold.{AreSteps}
use Rattle.world_laws.specs.Telling.{LeadsTelling}
use Rattle.world_laws.specs.Traced.{GoesTelling}
use Rattle.world_laws.proofs.Traces.{traces_go_on}
use Rattle.store_world.specs.Stored.{StoredWorld, world_of}
use Rattle.store_world.specs.Telling.{LeadsTold}
use Rattle.store_world.specs.Watched.{Watched}
use Rattle.store_world.proofs.Results.{where_ok}

-- steps after steps
all_are : (steps : List Step) (made : List Made) (more : List Step) (later : List Made) → AreSteps steps made → AreSteps more later → AreSteps (steps ++ more) (made ++ later)
all_are [] [] more later one two = two
all_are [] (m ∷ made) more later one two = absurd one
all_are (step ∷ steps) [] more later one two = absurd one
all_are (step ∷ steps) (m ∷ made) more later one two = (one.0, all_are steps made more later one.1 two)

module _ (Heard : List Step → Type 0) where
  -- it was told nothing
  pub watched_none : (Tells : List Made → Type 0) → Heard [] → Tells [] → Watched Heard Tells
  watched_none Tells heard tells = record { steps = []; heard = heard; made = []; are = tt; tells = tells }

  -- what is true of the steps leads to something else that is
  pub watched_as : (Tells More : List Made → Type 0) → ((made : List Made) → Tells made → More made) → Watched Heard Tells → Watched Heard More
  watched_as Tells More leads was = record { steps = was.steps; heard = was.heard; made = was.made; are = was.are; tells = leads was.made was.tells }

  -- a token's steps
  pub watched_token : (script : Script) (t : Token) (before after : StoredWorld) (its : List Step) → before.script ≡ script → LeadsTold t before after its → Heard its
      → Watched Heard (LeadsTelling script (t ∷ []) (world_of before) (world_of after))
  watched_token script t before after its same told heard =
      record {
        steps = its;
        heard = heard;
        made = told.made;
        are = told.are;
        tells = subst (λ (s : Script). LeadsTelling s (t ∷ []) (world_of before) (world_of after) told.made) same told.leads;
      }

  -- the same at a run's end, for the token that is this one, where it could be told
  pub watched_step : {A E : Type 0} (given t : Token) (before after : StoredWorld) (its : List Step) (r : Result A E) → given ≡ t → LeadsTold t before after its → OnOk r (Heard its)
      → OnOk r (Watched Heard (GoesTelling before.script (given ∷ []) (world_of before) (world_of after)))
  watched_step given t before after its r is told heard =
      where_ok (Heard its) (Watched Heard (GoesTelling before.script (given ∷ []) (world_of before) (world_of after))) r
      (λ h. subst (λ (x : Token). Watched Heard (GoesTelling before.script (x ∷ []) (world_of before) (world_of after))) (sym is)
      (watched_as (LeadsTelling before.script (t ∷ []) (world_of before) (world_of after)) (GoesTelling before.script (t ∷ []) (world_of before) (world_of after))
      ((traces_go_on before.script).step (t ∷ []) (world_of before) (world_of after)) (watched_token before.script t before after its (λ k. before.script) told h)))
      heard

-- some and then others
module _ {S : Type 0} (heard : S → S → List Step → Type 0)
    (on : (before middle after : S) (steps more : List Step) → heard before middle steps → heard middle after more → heard before after (steps ++ more)) where
  pub watched_on : (A B C : List Made → Type 0) (before middle after : S) → ((made more : List Made) → A made → B more → C (made ++ more)) → Watched (heard before middle) A
      → Watched (heard middle after) B → Watched (heard before after) C
  watched_on A B C before middle after leads one two =
      record {
        steps = one.steps ++ two.steps;
        heard = on before middle after one.steps two.steps one.heard two.heard;
        made = one.made ++ two.made;
        are = all_are one.steps one.made two.steps two.made one.are two.are;
        tells = leads one.made two.made one.tells two.tells;
      }
