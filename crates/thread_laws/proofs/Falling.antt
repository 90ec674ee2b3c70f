-- Each step leaves an actor fewer steps.
use Rattle.std.proofs.Common.{◌≡◌, ℕ, ◌+◌, ◌<◌, ◌≤◌, Bool, true, false, List, [], ◌∷◌, length, drop, sum_by, refl, sym, ap, ◌∙◌, arith, length-append, drop-drop}
use Rattle.std.proofs.lemmas.List.Sums.{sum_by-cons}
use Rattle.clay_grid.specs.Shape.{Shape, chunk_count}
use Rattle.store_core.specs.Told.{Told}
use Rattle.store_core.specs.Act.{Act}
use Rattle.store_core.specs.Bounds.{step_bound}
use Rattle.store_core.specs.NextAct.{Job, next_act}
use Rattle.store_core.specs.Tell.{tell}
use Rattle.store_core.specs.Step.{told_first, take_from, ended_by, after_answer}
use Rattle.store_core.specs.Work.{Calling}
use Rattle.run_laws.specs.CallLeft.{call_left}
use Rattle.run_laws.proofs.Steps.{steps_fall}
use Rattle.thread_laws.specs.Measure.{left_ahead}

-- calls that have not begun have no more steps left than their bounds
pub begun_left : (g : Shape) (max tries : ℕ) (later : List Job) → left_ahead g max tries later [] ≤ sum_by (λ j. step_bound g max tries j.note) later
begun_left g max tries [] = omega arith
begun_left g max tries (job ∷ later) =
    let first : call_left g max tries job [] ≤ step_bound g max tries job.note = (steps_fall g max tries job).first in
    let all : sum_by (λ (j : Job). step_bound g max tries j.note) (job ∷ later) ≡ step_bound g max tries job.note + sum_by (λ (j : Job). step_bound g max tries j.note) later =
    sum_by-cons (λ (j : Job). step_bound g max tries j.note) job later in
    let bounds : ℕ = sum_by (λ (j : Job). step_bound g max tries j.note) later in
    let whole : ℕ = sum_by (λ (j : Job). step_bound g max tries j.note) (job ∷ later) in
    omega (arith, first, all)

-- want of memory that is told first leaves no more
pub first_left : (g : Shape) (max tries : ℕ) (job : Job) (told : List Told) (coding in_pass : Bool) → call_left g max tries job (told_first coding in_pass g job told) ≤ call_left g max tries job told
first_left g max tries job told true true = (steps_fall g max tries job).short told
first_left g max tries job told true false = omega arith
first_left g max tries job told false in_pass = omega arith

drop_next : {X : Type 0} (xs ys : List X) (n : ℕ) (x : X) → drop n xs ≡ x ∷ ys → drop (n + 1) xs ≡ ys
drop_next xs ys n x e = sym (drop-drop 1 n xs) ∙ ap (drop 1) e

module _ (g : Shape) (max tries : ℕ) (jobs later : List Job) (job : Job) (calling : Calling) (ahead : drop (length calling.ended) jobs ≡ job ∷ later) where
  -- the steps that an actor has left
  abbrev left : Calling → ℕ
  left now = left_ahead g max tries (drop (length now.ended) jobs) now.told

  -- fewer are left, and with those of its call in work no more
  pub record Falls (now : Calling) : Type 0 where
    pub less : left now < left calling
    pub within : now.steps + left now ≤ calling.steps + left calling

  left_is : left calling ≡ call_left g max tries job calling.told + sum_by (λ (j : Job). step_bound g max tries j.note) later
  left_is = ap (λ l. left_ahead g max tries l calling.told) ahead

  module _ (first : List Told) (fewer : call_left g max tries job first ≤ call_left g max tries job calling.told) (answer : Told)
      (less : call_left g max tries job (tell g job first answer) < call_left g max tries job first) (takes : List ℕ) where
    abbrev middle : Calling
    middle = record { ended = calling.ended; told = tell g job first answer; takes = takes; steps = calling.steps + 1 }

    by_act : (act : Act) → Falls (ended_by act (chunk_count g) middle)
    by_act (Act.Finish outcome) =
        let now : Calling = ended_by (Act.Finish outcome) (chunk_count g) middle in
        let dropped : drop (length now.ended) jobs ≡ later =
        ap (λ n. drop n jobs) (length-append calling.ended (record { outcome = outcome; takes = takes } ∷ [])) ∙ drop_next jobs later (length calling.ended) job ahead in
        let left_now : left now ≡ left_ahead g max tries later [] = ap (λ l. left_ahead g max tries l []) dropped in
        let few : left_ahead g max tries later [] ≤ sum_by (λ (j : Job). step_bound g max tries j.note) later = begun_left g max tries later in
        let is : left calling ≡ call_left g max tries job calling.told + sum_by (λ (j : Job). step_bound g max tries j.note) later = left_is in
        let a : ℕ = left now in
        let b : ℕ = left calling in
        let c : ℕ = sum_by (λ (j : Job). step_bound g max tries j.note) later in
        let none : now.steps ≡ 0 = refl in
        record { less = omega (arith, left_now, few, is, less, fewer); within = omega (arith, left_now, few, is, less, fewer) }
    by_act (Act.AtDirectory step) =
        let is : left calling ≡ call_left g max tries job calling.told + sum_by (λ (j : Job). step_bound g max tries j.note) later = left_is in
        let is_now : left middle ≡ call_left g max tries job (tell g job first answer) + sum_by (λ (j : Job). step_bound g max tries j.note) later = ap (λ l. left_ahead g max tries l (tell g job first answer)) ahead in
        let a : ℕ = left middle in
        let b : ℕ = left calling in
        let c : ℕ = sum_by (λ (j : Job). step_bound g max tries j.note) later in
        record { less = omega (arith, is, is_now, less, fewer); within = omega (arith, is, is_now, less, fewer) }
    by_act (Act.AtServer server step) =
        let is : left calling ≡ call_left g max tries job calling.told + sum_by (λ (j : Job). step_bound g max tries j.note) later = left_is in
        let is_now : left middle ≡ call_left g max tries job (tell g job first answer) + sum_by (λ (j : Job). step_bound g max tries j.note) later = ap (λ l. left_ahead g max tries l (tell g job first answer)) ahead in
        let a : ℕ = left middle in
        let b : ℕ = left calling in
        let c : ℕ = sum_by (λ (j : Job). step_bound g max tries j.note) later in
        record { less = omega (arith, is, is_now, less, fewer); within = omega (arith, is, is_now, less, fewer) }

  pub answer_falls : (first : List Told) → call_left g max tries job first ≤ call_left g max tries job calling.told → (act : Act) (answer : Told)
      → call_left g max tries job (tell g job first answer) < call_left g max tries job first → Falls (after_answer g tries job first act answer calling)
  answer_falls first fewer act answer less = by_act first fewer answer less (take_from act answer calling.takes) (next_act g tries job (tell g job first answer))
