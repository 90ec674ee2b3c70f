-- An actor's turn in the world is its step in the core.
use Rattle.std.proofs.Common.{◌≡◌, ◌+◌, true, List, [], ◌∷◌, ◌++◌, length, Option, Some, sym, ap, subst, ◌∙◌}
use Rattle.std.specs.List.{slice_get}
use Rattle.store_map.specs.Limits.{tries_of}
use Rattle.store_map.specs.declared.script.Script.{Script}
use Rattle.store_map.specs.declared.actor.Actor.{Actor}
use Rattle.store_core.specs.Act.{Act}
use Rattle.store_core.specs.NextAct.{Job}
use Rattle.store_core.specs.Step.{Places, Shortage, actor_step}
use Rattle.store_core.specs.CallStep.{job_step, step_if, step_of}
use Rattle.store_core.specs.Work.{Ended, Work, Calling, has_step}
use Rattle.call_steps.specs.CallOf.{CallOf, act_of}
use Rattle.call_steps.specs.Stands.{Stands}
use Rattle.call_steps.specs.After.{StandsAfterBy, StandsAfter}
use Rattle.call_steps.proofs.Acts.{firsts_stand}
use Rattle.world_laws.specs.World.{DoingOf, ActorOf, steps_of}
use Rattle.world_laws.specs.StandsFor.{DoingStands, ActorStands}
use Rattle.world_laws.specs.ActorAfter.{IsCallBefore, actor_after_by, actor_after}

-- a call before its step: the job that it is of, and that its machine stands for the actor
pub record Ready (script : Script) (jobs : List Job) (calling : Calling) (c : CallOf) : Type 0 where
  pub job : Job
  pub is_next : slice_get jobs (length calling.ended) ≡ Some job
  pub stands : Stands script.geometry (tries_of script) job calling c

module _ (script : Script) where
  -- it is in work, or it begins
  ready_by : (jobs : List Job) (calling : Calling) (ended : List Ended) (doing : DoingOf) (c : CallOf) → calling.ended ≡ ended → DoingStands script jobs calling doing
      → IsCallBefore script jobs ended doing c → Ready script jobs calling c
  ready_by jobs calling ended (DoingOf.Between token) c e stands begins =
      let same : length calling.ended ≡ length ended = ap (λ (l : List Ended). length l) e in
      record {
        job = begins.job;
        is_next = ap (slice_get jobs) same ∙ begins.is_next;
        stands =
            firsts_stand script.geometry (tries_of script) begins.job calling c
            (record { shape = begins.first.shape; tries = begins.first.tries; job = begins.first.job; number = begins.first.number ∙ sym same; state = begins.first.state; takes = begins.first.takes })
            stands.between;
      }
  ready_by jobs calling ended (DoingOf.InCall call steps) c e stands is_call =
      record {
        job = stands.job;
        is_next = stands.is_next;
        stands = subst (λ (now : CallOf). Stands script.geometry (tries_of script) stands.job calling now) (sym is_call) stands.stands;
      }

  pub ready_for : (jobs : List Job) (calling : Calling) (a : ActorOf) (c : CallOf) → ActorStands script jobs calling a → IsCallBefore script jobs a.ended a.doing c → Ready script jobs calling c
  ready_for jobs calling a c stands before = ready_by jobs calling a.ended a.doing c stands.ended stands.doing before

  -- the steps that an actor has made
  made_by : (jobs : List Job) (calling : Calling) (doing : DoingOf) → DoingStands script jobs calling doing → calling.steps ≡ steps_of doing
  made_by jobs calling (DoingOf.Between token) stands = stands.none
  made_by jobs calling (DoingOf.InCall call steps) stands = stands.made

  -- ---- after its step the actor stands for the core's again
  module _ (jobs : List Job) (calling now : Calling) (a : ActorOf) (job : Job) (stands : ActorStands script jobs calling a) (is_next : slice_get jobs (length calling.ended) ≡ Some job) where
    goes_on : (c : CallOf) → Stands script.geometry (tries_of script) job now c → now.ended ≡ calling.ended → now.steps ≡ calling.steps + 1
        → ActorStands script jobs now (record a { doing = DoingOf.InCall c (steps_of a.doing + 1) })
    goes_on c again ended steps =
        record {
          ended = ended ∙ stands.ended;
          doing =
              record {
                job = job;
                is_next = ap (λ (l : List Ended). slice_get jobs (length l)) ended ∙ is_next;
                stands = again;
                made = steps ∙ ap (λ n. n + 1) (made_by jobs calling a.doing stands.doing);
              };
        }

    after_by : (act : Act) (c : CallOf) → StandsAfterBy act script.geometry (tries_of script) job calling now c → ActorStands script jobs now (actor_after_by act c a)
    after_by (Act.Finish outcome) c over =
        record {
          ended = ap (λ (v : Calling). v.ended) over ∙ ap (λ (l : List Ended). l ++ record { outcome = outcome; takes = c.takes } ∷ []) stands.ended;
          doing =
              record {
                between = record { told = ap (λ (v : Calling). v.told) over; takes = ap (λ (v : Calling). v.takes) over };
                none = ap (λ (v : Calling). v.steps) over;
              };
        }
    after_by (Act.AtDirectory step) c on = goes_on c on.stands on.ended on.steps
    after_by (Act.AtServer server step) c on = goes_on c on.stands on.ended on.steps

    pub after_stands : (c : CallOf) → StandsAfter script.geometry (tries_of script) job calling now c → ActorStands script jobs now (actor_after c a)
    after_stands c on = after_by (act_of c) c on

  -- ---- the step that an actor makes
  pub steps_made : (shortage : Shortage) (who : Actor) (places : Places) (works : Option Work) (callings : Option Calling) (work : Work) (calling : Calling) (job : Job) → works ≡ Some work
      → callings ≡ Some calling → has_step work calling ≡ true → slice_get work.jobs (length calling.ended) ≡ Some job
      → step_of script shortage who works callings places ≡ Some (actor_step script.geometry (tries_of script) shortage who job calling places)
  steps_made shortage who places works callings work calling job is_work is_calling has is_job =
      (λ k. step_of script shortage who (is_work k) (is_calling k) places)
      ∙ ap (λ b. step_if b script shortage who work calling places) has
      ∙ ap (job_step script shortage who calling places) is_job
