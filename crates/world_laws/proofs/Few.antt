-- The steps of a call in work are few.
use Rattle.std.proofs.Common.{◌≡◌, ℕ, zero, suc, ◌+◌, ◌-◌, ◌*◌, ◌^◌, ◌<◌, ◌≤◌, Bool, true, false, ◌&&◌, not, nat_lt, List, [], ◌∷◌, length, drop, sum_by, Option, Some, IfSome, refl, sym, ap, subst, ◌∙◌, arith, true≢false}
use Rattle.std.proofs.lemmas.Option.{none-some, same_Some}
use Rattle.std.proofs.lemmas.Bool.{ltb-true}
use Rattle.std.proofs.lemmas.List.Sums.{sum_by-cons}
use Rattle.std.specs.List.{slice_get}
use Rattle.clay_grid.specs.Limits.{IsGeometry}
use Rattle.store_map.specs.Limits.{size_of, tries_of}
use Rattle.store_map.specs.Naming.{IsValid}
use Rattle.store_map.specs.declared.script.Script.{Script}
use Rattle.store_core.specs.Bounds.{step_bound}
use Rattle.store_core.specs.NextAct.{Job}
use Rattle.store_core.specs.Schedule.{run_core}
use Rattle.store_core.specs.Work.{Work, Calling, client_work, repairer_work, is_abandoned, has_step}
use Rattle.run_laws.specs.DrainLaws.{KeepsBound, KeepBounds}
use Rattle.run_laws.proofs.Drains.{drains_end}
use Rattle.run_laws.proofs.Runs.{CanRun}
use Rattle.run_laws.proofs.ScriptBounds.{client_steps_most, repairer_steps_most}
use Rattle.run_laws.proofs.Scripts.{can_run}
use Rattle.world_laws.specs.World.{DoingOf, ActorOf, WorldOf, steps_of}
use Rattle.world_laws.specs.StandsFor.{DoingStands, ActorStands, StandsFor}
use Rattle.world_laws.proofs.Actors.{Found, found, same_turn}
use Rattle.world_laws.proofs.Runs.{runs_reach}
use Rattle.world_laws.specs.Goes.{IsReached}
use Rattle.world_laws.specs.Few.{MakesFewSteps, MakeFewSteps, WorldsMakeFewSteps}

-- ---- the job of a call that is left
pub record IsLeft (jobs : List Job) (n : ℕ) : Type 0 where
  pub job : Job
  pub there : slice_get jobs n ≡ Some job

left_at : (jobs : List Job) (n : ℕ) → n < length jobs → IsLeft jobs n
left_at [] n less = absurd (omega arith)
left_at (job ∷ jobs) zero less = record { job = job; there = refl }
left_at (first ∷ jobs) (suc n) less = let rest : IsLeft jobs n = left_at jobs n (omega arith) in record { job = rest.job; there = rest.there }

pub has_left : (work : Work) (calling : Calling) → has_step work calling ≡ true → length calling.ended < length work.jobs
has_left work calling has = by (nat_lt 0 (length work.jobs - length calling.ended)) refl
  where
    by : (b : Bool) → nat_lt 0 (length work.jobs - length calling.ended) ≡ b → length calling.ended < length work.jobs
    by true e = let less : 0 < length work.jobs - length calling.ended = ltb-true 0 (length work.jobs - length calling.ended) e in omega (arith, less)
    by false e =
        let rest : Bool = not (is_abandoned work.leave (length work.jobs - length calling.ended) calling.steps) in
        absurd (true≢false (sym has ∙ ap (λ (b : Bool). b && rest) e))

-- its bound is no more than those of all that are left
one_of : (f : Job → ℕ) (jobs : List Job) (n : ℕ) (job : Job) → slice_get jobs n ≡ Some job → f job ≤ sum_by f (drop n jobs)
one_of f [] n job is = absurd (none-some job is)
one_of f (first ∷ jobs) zero job is = let e : f first ≡ f job = ap f (same_Some first job is) in
    let sum : sum_by f (first ∷ jobs) ≡ f first + sum_by f jobs = sum_by-cons f first jobs in
    let a : ℕ = f job in
    let b : ℕ = f first in
    let rest : ℕ = sum_by f jobs in
    let all : ℕ = sum_by f (first ∷ jobs) in
    let one : b ≡ a = e in
    let two : all ≡ b + rest = sum in
    let low : a ≤ all = omega (arith, one, two) in
    low
one_of f (first ∷ jobs) (suc n) job is = one_of f jobs n job is

-- ---- one actor
module _ (script : Script) where
  made_by : (jobs : List Job) (calling : Calling) (doing : DoingOf) → DoingStands script jobs calling doing → calling.steps ≡ steps_of doing
  made_by jobs calling (DoingOf.Between token) stands = stands.none
  made_by jobs calling (DoingOf.InCall call steps) stands = stands.made

  small : (steps bound sum most : ℕ) → steps < bound → bound ≤ sum → sum ≤ most → most ≤ 2199023255552 → steps + 1 < 2 ^ 64
  small steps bound sum most a b c d = omega (arith, a, b, c, d)

  few_by : (work : Work) (calling : Calling) (a : ActorOf) (most : ℕ) → ActorStands script work.jobs calling a → KeepsBound script work calling
      → sum_by (λ (job : Job). step_bound script.geometry (size_of script) (tries_of script) job.note) (drop (length calling.ended) work.jobs) ≤ most
      → most ≤ 2199023255552 → MakesFewSteps script work a
  few_by work calling a most stands bounded low few has =
      let may : has_step work calling ≡ true = same_turn script work calling a stands ∙ has in
      let left : IsLeft work.jobs (length calling.ended) = left_at work.jobs (length calling.ended) (has_left work calling may) in
      let bound : Job → ℕ = λ (job : Job). step_bound script.geometry (size_of script) (tries_of script) job.note in
      let less : calling.steps < bound left.job = subst (λ (o : Option Job). IfSome o (λ job. calling.steps < bound job)) left.there bounded in
      let one : bound left.job ≤ sum_by bound (drop (length calling.ended) work.jobs) = one_of bound work.jobs (length calling.ended) left.job left.there in
      subst (λ (n : ℕ). n + 1 < 2 ^ 64) (made_by work.jobs calling a.doing stands.doing)
      (small calling.steps (bound left.job) (sum_by bound (drop (length calling.ended) work.jobs)) most less one low few)

-- ---- all of them
there : {X Y : Type 0} (P : X → Y → Type 0) (o : Option X) (p : Option Y) (x : X) (y : Y) → IfSome o (λ a. IfSome p (P a)) → o ≡ Some x → p ≡ Some y → P x y
there P o p x y holds is_x is_y =
    let one : IfSome p (P x) = subst (λ (q : Option _). IfSome q (λ a. IfSome p (P a))) is_x holds in
    subst (λ (q : Option _). IfSome q (P x)) is_y one

module _ (script : Script) (w : WorldOf) (geometry : IsGeometry script.geometry) (valid : IsValid script) (reached : IsReached script w) where
  can : CanRun script
  can = can_run script geometry valid

  bounds : KeepBounds script (run_core script reached.by.shortages reached.tokens).clients (run_core script reached.by.shortages reached.tokens).repairers
  bounds = (drains_end script reached.by.shortages geometry valid).bounds reached.tokens

  stands : StandsFor script w (run_core script reached.by.shortages reached.tokens)
  stands = (runs_reach script).core reached.tokens w reached.by.shortages reached.by.reaches

  client : (i : ℕ) (work : Work) (a : ActorOf) → slice_get (client_work script) i ≡ Some work → slice_get w.clients i ≡ Some a → MakesFewSteps script work a
  client i work a is_work is_a =
      let at : Found script work (run_core script reached.by.shortages reached.tokens).clients a i =
      found script (client_work script) (run_core script reached.by.shortages reached.tokens).clients w.clients i work a stands.clients is_work is_a in
      few_by script work at.calling a 2199023255552 at.stands
      (there (KeepsBound script) (slice_get (client_work script) i) (slice_get (run_core script reached.by.shortages reached.tokens).clients i) work at.calling (bounds.clients i) is_work at.is_calling)
      (client_steps_most script geometry valid can.some i (length at.calling.ended) work is_work)
      (omega arith)

  repairer : (i : ℕ) (work : Work) (a : ActorOf) → slice_get (repairer_work script) i ≡ Some work → slice_get w.repairers i ≡ Some a → MakesFewSteps script work a
  repairer i work a is_work is_a =
      let at : Found script work (run_core script reached.by.shortages reached.tokens).repairers a i =
      found script (repairer_work script) (run_core script reached.by.shortages reached.tokens).repairers w.repairers i work a stands.repairers is_work is_a in
      few_by script work at.calling a 307200 at.stands
      (there (KeepsBound script) (slice_get (repairer_work script) i) (slice_get (run_core script reached.by.shortages reached.tokens).repairers i) work at.calling (bounds.repairers i) is_work at.is_calling)
      (repairer_steps_most script geometry valid i (length at.calling.ended) work is_work)
      (omega arith)

  pub make_few_steps : MakeFewSteps script w
  make_few_steps = record { clients = client; repairers = repairer }

pub worlds_make_few_steps : WorldsMakeFewSteps
worlds_make_few_steps script w geometry valid reached = make_few_steps script w geometry valid reached
