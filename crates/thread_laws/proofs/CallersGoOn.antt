-- A client or a repairer after its step.
use Rattle.std.proofs.Common.{◌≡◌, ℕ, suc, ◌+◌, ◌<◌, ◌≤◌, Bool, true, false, ◌&&◌, cond, List, [], ◌∷◌, ◌++◌, length, drop, Some, refl, sym, ap, subst, ◌∙◌, arith}
use Rattle.std.proofs.lemmas.List.{append-nil}
use Rattle.clay_grid.specs.Shape.{Shape, chunk_count}
use Rattle.store_map.specs.Limits.{size_of, tries_of}
use Rattle.store_map.specs.declared.actor.Actor.{Actor}
use Rattle.store_map.specs.declared.script.Script.{Script}
use Rattle.store_core.specs.Told.{Told}
use Rattle.store_core.specs.Act.{Act}
use Rattle.store_core.specs.ActPlace.{ActPlace, is_in_pass}
use Rattle.store_core.specs.Agreement.{ActorToken}
use Rattle.store_core.specs.NextAct.{Job, next_act}
use Rattle.store_core.specs.Step.{told_first, after_answer}
use Rattle.store_core.specs.Work.{Work, Calling, new_calling, has_step}
use Rattle.thread_laws.specs.MadeSteps.{MadeStep, acts_at}
use Rattle.thread_laws.specs.ByActors.{job_if, told_now, called_next, calling_next, IsAtAPlace, IsNextOf, IsNext}
use Rattle.store_core.specs.Bounds.{touched_count}
use Rattle.run_laws.specs.Answers.{Answers}
use Rattle.run_laws.specs.CallLeft.{pin_bound}
use Rattle.run_laws.specs.StepLaws.{HasTarget}
use Rattle.run_laws.proofs.Steps.{steps_fall}
use Rattle.run_laws.proofs.Groups.{drop_here}
use Rattle.call_steps.specs.CallOf.{CallOf, act_of, heard}
use Rattle.call_steps.specs.Steps.{coded}
use Rattle.call_steps.specs.After.{StandsAfterBy, StandsAfter}
use Rattle.call_steps.specs.Ready.{actor_coded}
use Rattle.call_steps.specs.Stands.{Stands}
use Rattle.call_steps.proofs.Acts.{acts_now}
use Rattle.call_steps.proofs.Codings.{acts_stand}
use Rattle.thread_laws.specs.CallEntries.{made_by}
use Rattle.thread_laws.specs.HasMade.{HearsAsActor, AnswersAsActor}
use Rattle.thread_laws.specs.Noted.{token_by, tokens_after}
use Rattle.world_laws.specs.Tokens.{first_token, token_of, IsNext as IsNextNumber}
use Rattle.thread_laws.proofs.DirectoryAdding.{tokens_more}
use Rattle.world_laws.specs.World.{ActorOf}
use Rattle.world_laws.specs.ActorAfter.{actor_after_by, actor_after}
use Rattle.world_laws.specs.StandsFor.{ActorStands}
use Rattle.world_laws.proofs.Actors.{same_turn}
use Rattle.world_laws.proofs.Turns.{Ready, ready_for, after_stands}
use Rattle.thread_laws.specs.Listed.{IsOneMore}
use Rattle.thread_laws.specs.Callers.{HeardLast, IsCalling}
use Rattle.thread_laws.specs.Measure.{left_of, left_at, bound_of, HasTargets}
use Rattle.thread_laws.specs.Stepped.{IsReady, CallsOn}
use Rattle.thread_laws.proofs.Falling.{first_left, Falls, answer_falls}
use Rattle.thread_laws.proofs.Listing.{listed_more}
use Rattle.world_laws.proofs.Numbered.{before_numbered, before_token, after_numbered, after_token}
use Rattle.thread_laws.proofs.Numbering.{step_numbered}

-- ---- a call that is ready
coded_by : (due coding : Bool) (c : CallOf) → c.coding ≡ false → (cond due (coded coding c) c).coding ≡ (due && coding)
coded_by true coding c ample = refl
coded_by false coding c ample = ample

pub token_coded : (due coding : Bool) (c : CallOf) → (cond due (coded coding c) c).token ≡ c.token
token_coded true coding c = refl
token_coded false coding c = refl

pub number_coded : (due coding : Bool) (c : CallOf) → (cond due (coded coding c) c).number ≡ c.number
number_coded true coding c = refl
number_coded false coding c = refl

-- the actor that was told of a coding has as many calls behind it
same_before : (act : Act) (g : Shape) (tries : ℕ) (job : Job) (told : List Told) (calling now : Calling) (c : CallOf) → StandsAfterBy act g tries job (record calling { told = told }) now c → StandsAfterBy act g tries job calling now c
same_before (Act.Finish outcome) g tries job told calling now c h = h
same_before (Act.AtDirectory step) g tries job told calling now c h = record { stands = h.stands; ended = h.ended; steps = h.steps }
same_before (Act.AtServer server step) g tries job told calling now c h = record { stands = h.stands; ended = h.ended; steps = h.steps }

heard_by : (act : Act) (a : ActorOf) (c : CallOf) → c.coding ≡ false → HeardLast (actor_after_by act c a).doing
heard_by (Act.Finish outcome) a c e = tt
heard_by (Act.AtDirectory step) a c e = e
heard_by (Act.AtServer server step) a c e = e

-- one step more leads a ticket on, if it is at the directory
token_more : (act : Act) (m : MadeStep) (steps : List MadeStep) (token : ActorToken) → m.act ≡ act → IsAtAPlace act
    → tokens_after (steps ++ cond {A = List MadeStep} (acts_at ActPlace.Directory act) (m ∷ []) []) token ≡ token_by act m (tokens_after steps token)
token_more (Act.AtDirectory step) m steps token e placed = tokens_more steps m token ∙ ap (λ act. token_by act m (tokens_after steps token)) e
token_more (Act.AtServer server step) m steps token e placed = ap (λ l. tokens_after l token) (append-nil steps)
token_more (Act.Finish outcome) m steps token e placed = absurd placed

trans_le : (a b s t bound : ℕ) → s + a ≤ t + b → t + b ≤ bound → s + a ≤ bound
trans_le a b s t bound e f = omega (arith, e, f)

module _ (script : Script) (who : Actor) (work : Work) (at after : ActPlace → List MadeStep) (a : ActorOf) (c now : CallOf) (answer : Told) (moment : ℕ) (acting : IsCalling script who work at a) (its : IsReady script who work a c) where
  abbrev m : MadeStep
  m = made_by c now.step answer moment

  abbrev g : Shape
  g = script.geometry

  abbrev tries : ℕ
  tries = tries_of script

  abbrev calling : Calling
  calling = acting.calling

  of_job : Ready script work.jobs calling its.first
  of_job = ready_for script work.jobs calling a its.first acting.stands its.turn.call

  abbrev told : Job → List Told
  told job = (actor_coded g job its.coding its.first calling).told

  has : has_step work calling ≡ true
  has = same_turn script work calling a acting.stands ∙ its.turn.may

  job_is : job_if (has_step work calling) work calling ≡ Some of_job.job
  job_is = ap (λ b. job_if b work calling) has ∙ of_job.is_next

  told_is : told_now script m of_job.job calling ≡ told of_job.job
  told_is =
      let coding : c.coding ≡ (its.first.due && its.coding) = ap (λ (x : CallOf). x.coding) its.is ∙ coded_by its.first.due its.coding its.first its.ample in
      let act : next_act g tries of_job.job calling.told ≡ act_of its.first = acts_now g tries of_job.job calling its.first of_job.stands in
      λ k. told_first (coding k) (is_in_pass (act k)) g of_job.job calling.told

  act_is : next_act g tries of_job.job (told of_job.job) ≡ m.act
  act_is = acts_stand.next g tries of_job.job calling its.first its.coding of_job.stands its.turn.due ∙ ap act_of (sym its.is)

  number_is : c.number ≡ length calling.ended
  number_is = ap (λ (x : CallOf). x.number) its.is ∙ (number_coded its.first.due its.coding its.first ∙ of_job.stands.number)

  is_next : IsAtAPlace m.act → IsNext script work m calling
  is_next placed =
      subst (λ job. IsNextOf script m calling job) (sym job_is) (ap (next_act g tries of_job.job) told_is ∙ act_is, number_is, placed)

  calling_is : calling_next script work m calling ≡ after_answer g tries of_job.job (told of_job.job) (act_of c) answer calling
  calling_is = ap (λ job. called_next script m job calling) job_is ∙ ap (λ l. after_answer g tries of_job.job l (act_of c) answer calling) told_is

  stands_after : HearsAsActor c answer now → ActorStands script work.jobs (calling_next script work m calling) (actor_after now a)
  stands_after hears =
      let coded_actor : Calling = actor_coded g of_job.job its.coding its.first calling in
      let ready_stands : Stands g tries of_job.job coded_actor c = subst (λ (x : CallOf). Stands g tries of_job.job coded_actor x) (sym its.is) (acts_stand.coded g tries of_job.job calling its.first its.coding of_job.stands its.turn.due) in
      let led = hears g tries of_job.job coded_actor ready_stands in
      let on : StandsAfter g tries of_job.job calling (after_answer g tries of_job.job (told of_job.job) (act_of c) answer calling) now =
      same_before (act_of now) g tries of_job.job (told of_job.job) calling (after_answer g tries of_job.job (told of_job.job) (act_of c) answer calling) now led in
      after_stands script work.jobs calling (calling_next script work m calling) a of_job.job acting.stands of_job.is_next now
      (subst (λ next. StandsAfter g tries of_job.job calling next now) (sym calling_is) on)

  -- the step leaves fewer steps
  falls : HasTargets script work → AnswersAsActor (size_of script) c answer
      → Falls g (size_of script) tries work.jobs (drop (suc (length calling.ended)) work.jobs) of_job.job calling (drop_here work.jobs (length calling.ended) of_job.job of_job.is_next) (calling_next script work m calling)
  falls targets fits =
      let job : Job = of_job.job in
      let target : HasTarget g job = targets (length calling.ended) job of_job.is_next in
      let coded_actor : Calling = actor_coded g job its.coding its.first calling in
      let ready_stands : Stands g tries job coded_actor c = subst (λ (x : CallOf). Stands g tries job coded_actor x) (sym its.is) (acts_stand.coded g tries job calling its.first its.coding of_job.stands its.turn.due) in
      let answers : Answers (pin_bound g (size_of script) job.note) (touched_count g job.note) (next_act g tries job (told job)) answer =
      subst (λ act. Answers (pin_bound g (size_of script) job.note) (touched_count g job.note) act answer) (sym act_is) (fits g tries job coded_actor ready_stands target) in
      subst (Falls g (size_of script) tries work.jobs (drop (suc (length calling.ended)) work.jobs) job calling (drop_here work.jobs (length calling.ended) job of_job.is_next)) (sym calling_is)
      (answer_falls g (size_of script) tries work.jobs (drop (suc (length calling.ended)) work.jobs) job calling (drop_here work.jobs (length calling.ended) job of_job.is_next) (told job)
      (first_left g (size_of script) tries job calling.told (its.first.due && its.coding) (is_in_pass (act_of its.first))) (act_of c) answer
      ((steps_fall g (size_of script) tries job).falls (told job) answer target answers))

  pub caller_goes_on : HasTargets script work → AnswersAsActor (size_of script) c answer → IsOneMore (chunk_count script.geometry) at m after → IsAtAPlace m.act → now ≡ record (heard c (act_of c) answer now.step now.due) { token = token_by (act_of c) m c.token } → HearsAsActor c answer now
      → CallsOn script who work at after (actor_after now a)
  caller_goes_on targets fits one placed is hears =
      let first_held : its.first.token ≡ token_of a.doing = before_token script work a.ended a.doing its.first its.turn.call in
      let held : c.token ≡ its.first.token = ap (λ (x : CallOf). x.token) its.is ∙ token_coded its.first.due its.coding its.first in
      let numbers : IsNextNumber a.ended its.first.number its.first.token = before_numbered script work a.ended a.doing its.first acting.numbered its.turn.call in
      let same_number : c.number ≡ its.first.number = ap (λ (x : CallOf). x.number) its.is ∙ number_coded its.first.due its.coding its.first in
      let ready_numbers : IsNextNumber a.ended c.number c.token = subst (λ n. IsNextNumber a.ended n c.token) (sym same_number) (subst (IsNextNumber a.ended its.first.number) (sym held) numbers) in
      let next_numbers : IsNextNumber a.ended now.number now.token =
      subst (λ (x : CallOf). IsNextNumber a.ended x.number x.token) (sym is) (step_numbered a.ended m c.token ready_numbers) in
      let fall = falls targets fits in
      let listed = listed_more (chunk_count script.geometry) at after m acting.listed.own one (calling_next script work) (IsNext script work) (new_calling (chunk_count script.geometry)) calling acting.listed (is_next placed) in
      record {
        acting = record {
          calling = calling_next script work m calling;
          listed = listed;
          stands = stands_after hears;
          token =
              ap (λ l. tokens_after l (first_token who)) (one.more.lists ActPlace.Directory)
              ∙ (token_more m.act m (at ActPlace.Directory) (first_token who) refl placed
              ∙ (ap (token_by m.act m) (acting.token ∙ sym (held ∙ first_held)) ∙ (sym (ap (λ (x : CallOf). x.token) is) ∙ sym (after_token a now (act_of now)))));
          numbered = after_numbered a now (act_of now) next_numbers;
          heard = heard_by (act_of now) a now (ap (λ (x : CallOf). x.coding) is);
          bounded = trans_le (left_of script work (calling_next script work m calling)) (left_of script work calling) (calling_next script work m calling).steps calling.steps (bound_of script work) fall.within acting.bounded;
        };
        falls = subst (λ (x : Calling). left_of script work x < left_at script work at) listed.leads (subst (λ (x : Calling). left_of script work (calling_next script work m calling) < left_of script work x) acting.listed.leads fall.less);
      }
