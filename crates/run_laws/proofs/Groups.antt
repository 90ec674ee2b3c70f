-- The actors of one kind: a step of one of them lowers their steps ahead and changes no other's pass.
use Rattle.std.proofs.Common.{◌≡◌, ℕ, zero, suc, ◌+◌, ◌-◌, ◌<◌, ◌≤◌, Bool, true, false, not, nat_lt, List, [], ◌∷◌, length, drop, sum_by, zip, Option, None, Some, refl, sym, ap, subst, ◌∙◌, inl, inr, ◌⊎◌, arith, zero-le}
use Rattle.std.proofs.lemmas.Bool.{and_parts, ltb-true, cases_eq, or_from}
use Rattle.std.proofs.lemmas.Option.{none-some, same_Some}
use Rattle.std.proofs.lemmas.List.Sums.{sum_by-cons}
use Rattle.std.specs.List.{slice_get}
use Rattle.clay_grid.specs.Shape.{stripe_length}
use Rattle.store_map.specs.Limits.{size_of, tries_of}
use Rattle.store_map.specs.declared.script.Script.{Script}
use Rattle.store_map.specs.declared.actor.Actor.{Actor}
use Rattle.store_core.specs.Lists.{change_at}
use Rattle.store_core.specs.NextAct.{Job}
use Rattle.store_core.specs.Directory.{Directory}
use Rattle.store_core.specs.Lookups.{same_actor}
use Rattle.store_core.specs.Step.{Shortage, Places, actor_step}
use Rattle.store_core.specs.CallStep.{job_step, step_if, step_of}
use Rattle.store_core.specs.Work.{Work, Calling, is_abandoned, has_step, any_has_step}
use Rattle.run_laws.specs.StepLaws.{HasTarget}
use Rattle.store_core.proofs.Places.{slice_get-change_at}
use Rattle.run_laws.proofs.Passes.{held}
use Rattle.run_laws.proofs.LiveVersions.{live_count, HasLive}
use Rattle.run_laws.proofs.ActAnswers.{FitPlaces}
use Rattle.run_laws.proofs.ActorSteps.{InWork, CallKept, steps_ahead, draws_ahead, ActorMoves, actor_moves}

-- ---- lists side by side
abbrev pub zip_sum : (Work → Calling → ℕ) → List Work → List Calling → ℕ
zip_sum f works callings = sum_by (λ both. f both.0 both.1) (zip works callings)

zip_more : (f : Work → Calling → ℕ) (work : Work) (works : List Work) (calling : Calling) (callings : List Calling) → zip_sum f (work ∷ works) (calling ∷ callings) ≡ f work calling + zip_sum f works callings
zip_more f work works calling callings = sum_by-cons (λ (both : Work × Calling). f both.0 both.1) (work, calling) (zip works callings)

-- a sum over actors of which one changed
pub sum_changed : (f : Work → Calling → ℕ) (works : List Work) (callings : List Calling) (i : ℕ) (work : Work) (old new : Calling) → slice_get works i ≡ Some work → slice_get callings i ≡ Some old
    → zip_sum f works (change_at i (λ _. new) callings) + f work old ≡ zip_sum f works callings + f work new
sum_changed f [] callings i work old new is_work is_old = absurd (none-some work is_work)
sum_changed f (first ∷ works) [] i work old new is_work is_old = absurd (none-some old is_old)
sum_changed f (first ∷ works) (calling ∷ callings) zero work old new is_work is_old =
    let same : first ≡ work = same_Some first work is_work in
    let same_old : calling ≡ old = same_Some calling old is_old in
    let before : zip_sum f (first ∷ works) (calling ∷ callings) ≡ f first calling + zip_sum f works callings = zip_more f first works calling callings in
    let after : zip_sum f (first ∷ works) (new ∷ callings) ≡ f first new + zip_sum f works callings = zip_more f first works new callings in
    let e : f first calling ≡ f work old = ap (λ w. f w calling) same ∙ ap (f work) same_old in
    let e_new : f first new ≡ f work new = ap (λ w. f w new) same in
    let a : ℕ = zip_sum f (first ∷ works) (calling ∷ callings) in
    let b : ℕ = zip_sum f (first ∷ works) (new ∷ callings) in
    let c : ℕ = zip_sum f works callings in
    omega (arith, before, after, e, e_new)
sum_changed f (first ∷ works) (calling ∷ callings) (suc i) work old new is_work is_old =
    let rest : zip_sum f works (change_at i (λ _. new) callings) + f work old ≡ zip_sum f works callings + f work new = sum_changed f works callings i work old new is_work is_old in
    let before : zip_sum f (first ∷ works) (calling ∷ callings) ≡ f first calling + zip_sum f works callings = zip_more f first works calling callings in
    let after : zip_sum f (first ∷ works) (calling ∷ change_at i (λ _. new) callings) ≡ f first calling + zip_sum f works (change_at i (λ _. new) callings) = zip_more f first works calling (change_at i (λ _. new) callings) in
    let a : ℕ = zip_sum f (first ∷ works) (calling ∷ callings) in
    let b : ℕ = zip_sum f (first ∷ works) (calling ∷ change_at i (λ _. new) callings) in
    let c : ℕ = zip_sum f works callings in
    let d : ℕ = zip_sum f works (change_at i (λ _. new) callings) in
    omega (arith, rest, before, after)

-- what holds of each actor
abbrev pub EachActor : (Work → Calling → Type 0) → List Work → List Calling → Type 0
EachActor P works callings = (i : ℕ) (work : Work) (calling : Calling) → slice_get works i ≡ Some work → slice_get callings i ≡ Some calling → P work calling

-- one sum is at most the other if each actor's number is
pub sum_below : (f most : Work → Calling → ℕ) (works : List Work) (callings : List Calling) → EachActor (λ work calling. f work calling ≤ most work calling) works callings
    → zip_sum f works callings ≤ zip_sum most works callings
sum_below f most [] callings h = omega arith
sum_below f most (work ∷ works) [] h = omega arith
sum_below f most (work ∷ works) (calling ∷ callings) h =
    let here : f work calling ≤ most work calling = h 0 work calling refl refl in
    let rest : zip_sum f works callings ≤ zip_sum most works callings = sum_below f most works callings (λ i w c e k. h (suc i) w c e k) in
    let low : zip_sum f (work ∷ works) (calling ∷ callings) ≡ f work calling + zip_sum f works callings = zip_more f work works calling callings in
    let high : zip_sum most (work ∷ works) (calling ∷ callings) ≡ most work calling + zip_sum most works callings = zip_more most work works calling callings in
    let a : ℕ = zip_sum f (work ∷ works) (calling ∷ callings) in
    let b : ℕ = zip_sum most (work ∷ works) (calling ∷ callings) in
    let c : ℕ = zip_sum f works callings in
    let d : ℕ = zip_sum most works callings in
    omega (arith, here, rest, low, high)

-- where no actor has a step none is found
pub none_has_step : (works : List Work) (callings : List Calling) → EachActor (λ work calling. has_step work calling ≡ false) works callings → any_has_step works callings ≡ false
none_has_step [] callings h = refl
none_has_step (work ∷ works) [] h = refl
none_has_step (work ∷ works) (calling ∷ callings) h =
    or_from (has_step work calling) (any_has_step works callings) (h 0 work calling refl refl) (none_has_step works callings (λ i w c e k. h (suc i) w c e k))

pub slice_changed : (i : ℕ) (old new : Calling) (callings : List Calling) → slice_get callings i ≡ Some old → slice_get (change_at i (λ _. new) callings) i ≡ Some new
slice_changed i old new [] e = absurd (none-some old e)
slice_changed zero old new (calling ∷ callings) e = refl
slice_changed (suc i) old new (calling ∷ callings) e = slice_changed i old new callings e

-- what is left from a place on
pub drop_here : {X : Type 0} (xs : List X) (n : ℕ) (x : X) → slice_get xs n ≡ Some x → drop n xs ≡ x ∷ drop (suc n) xs
drop_here [] n x e = absurd (none-some x e)
drop_here (first ∷ xs) zero x e = ap (λ y. y ∷ xs) (same_Some first x e)
drop_here (first ∷ xs) (suc n) x e = drop_here xs n x e

pub none_past : {X : Type 0} (xs : List X) (n : ℕ) → slice_get xs n ≡ None → length xs ≤ n
none_past [] n e = zero-le
none_past (x ∷ xs) zero e = absurd (none-some x (sym e))
none_past (x ∷ xs) (suc n) e = let h : length xs ≤ n = none_past xs n e in omega (arith, h)

-- an actor that has a step has a call left
pub has_job : (work : Work) (calling : Calling) → has_step work calling ≡ true → length calling.ended < length work.jobs
has_job work calling e =
    let left : ℕ = length work.jobs - length calling.ended in
    let some : 0 < left = ltb-true 0 left (and_parts (nat_lt 0 left) (not (is_abandoned work.leave left calling.steps)) e).0 in
    omega (arith, some)

-- ---- the group's sums
-- the steps ahead of one actor
abbrev pub steps_of : Script → Work → Calling → ℕ
steps_of script work calling = steps_ahead script.geometry (size_of script) (tries_of script) (drop (length calling.ended) work.jobs) calling.told

-- the draws ahead of one actor
abbrev pub draws_of : Script → Work → Calling → ℕ
draws_of script work calling = draws_ahead script.geometry (size_of script) (tries_of script) (drop (length calling.ended) work.jobs) calling.told

-- the steps ahead of all actors of a kind
abbrev pub group_steps : Script → List Work → List Calling → ℕ
group_steps script works callings = zip_sum (steps_of script) works callings

-- the draws ahead of all of them
abbrev pub group_draws : Script → List Work → List Calling → ℕ
group_draws script works callings = zip_sum (draws_of script) works callings

-- ---- the group's step
module _ (script : Script) (who_of : ℕ → Actor) (works : List Work) where
  -- each actor keeps its call's bound and its pass
  abbrev pub GroupKept : List Calling → Directory → Type 0
  GroupKept callings d =
      (i : ℕ) (work : Work) (calling : Calling) → slice_get works i ≡ Some work → slice_get callings i ≡ Some calling
      → CallKept script.geometry (size_of script) (tries_of script) (who_of i) (drop (length calling.ended) work.jobs) calling d

  -- actor i has no step
  abbrev pub IsIdle : List Calling → ℕ → Type 0
  IsIdle callings i = (work : Work) (calling : Calling) → slice_get works i ≡ Some work → slice_get callings i ≡ Some calling → has_step work calling ≡ false

  -- what a step of actor i does
  pub record GroupMoves (i : ℕ) (callings : List Calling) (before : Places) (after : Places × Calling) : Type 0 where
    pub kept : GroupKept (change_at i (λ _. after.1) callings) after.0.directory
    pub steps : group_steps script works (change_at i (λ _. after.1) callings) < group_steps script works callings
    pub draws : live_count after.0.directory.versions + group_draws script works (change_at i (λ _. after.1) callings) ≤ live_count before.directory.versions + group_draws script works callings
    pub count : live_count after.0.directory.versions + length before.directory.versions ≤ live_count before.directory.versions + length after.0.directory.versions
    pub others : (other : Actor) → same_actor other (who_of i) ≡ false → held other after.0.directory ≡ held other before.directory
    pub shape : after.0.directory.shape ≡ before.directory.shape
    pub max : after.0.directory.max ≡ before.directory.max
    pub servers : length after.0.servers ≡ length before.servers

  -- the step that is made, or none where the actor has none
  abbrev pub GroupStepped : ℕ → List Calling → Places → Option (Places × Calling) → Type 0
  GroupStepped i callings places None = IsIdle callings i
  GroupStepped i callings places (Some after) = GroupMoves i callings places after

  -- an actor whose pass stays keeps its call
  pub held_kept : (who : Actor) (jobs : List Job) (calling : Calling) (before after : Directory) → held who after ≡ held who before
      → CallKept script.geometry (size_of script) (tries_of script) who jobs calling before → CallKept script.geometry (size_of script) (tries_of script) who jobs calling after
  held_kept who [] calling before after same h = same ∙ h
  held_kept who (job ∷ later) calling before after same h =
      record { fresh = h.fresh; bound = h.bound; pinned = h.pinned; stands = record { pass = same ∙ h.stands.pass; going = h.stands.going } }

  -- actors are told apart by their numbers, and have jobs that can be done
  pub record IsGroup : Type 0 where
    pub self : (i : ℕ) → same_actor (who_of i) (who_of i) ≡ true
    pub apart : (i j : ℕ) → (i ≡ j → ⊥) → same_actor (who_of j) (who_of i) ≡ false
    pub targets : (i : ℕ) (work : Work) → slice_get works i ≡ Some work → (k : ℕ) (job : Job) → slice_get work.jobs k ≡ Some job → HasTarget script.geometry job

  module _ (group : IsGroup) (some : 0 < stripe_length script.geometry) (tried : 1 ≤ tries_of script) (callings : List Calling) (places : Places)
      (fit : FitPlaces script.geometry (size_of script) places) (has : HasLive places.directory) (kept : GroupKept callings places.directory) (i : ℕ) where
    all_moved : (work : Work) (calling : Calling) (after : Places × Calling) → slice_get works i ≡ Some work → slice_get callings i ≡ Some calling
        → ActorMoves script.geometry (size_of script) (tries_of script) (who_of i) work.jobs calling places after → GroupMoves i callings places after
    all_moved work calling after is_work is_calling moves =
        let steps_change : group_steps script works (change_at i (λ _. after.1) callings) + steps_of script work calling ≡ group_steps script works callings + steps_of script work after.1 =
        sum_changed (steps_of script) works callings i work calling after.1 is_work is_calling in
        let draws_change : group_draws script works (change_at i (λ _. after.1) callings) + draws_of script work calling ≡ group_draws script works callings + draws_of script work after.1 =
        sum_changed (draws_of script) works callings i work calling after.1 is_work is_calling in
        let steps : steps_of script work after.1 < steps_of script work calling = moves.steps in
        let draws : live_count after.0.directory.versions + draws_of script work after.1 ≤ live_count places.directory.versions + draws_of script work calling = moves.draws in
        let a : ℕ = group_steps script works (change_at i (λ _. after.1) callings) in
        let b : ℕ = group_steps script works callings in
        let c : ℕ = group_draws script works (change_at i (λ _. after.1) callings) in
        let d : ℕ = group_draws script works callings in
        let p : ℕ = steps_of script work calling in
        let q : ℕ = steps_of script work after.1 in
        let r : ℕ = draws_of script work calling in
        let s : ℕ = draws_of script work after.1 in
        record {
          kept = λ j other_work other_calling is_other_work is_other_calling.
              each j other_work other_calling is_other_work is_other_calling (cases_eq i j);
          steps = omega (arith, steps_change, steps);
          draws = omega (arith, draws_change, draws);
          count = moves.count;
          others = moves.others;
          shape = moves.shape;
          max = moves.max;
          servers = moves.servers;
        }
      where
        each : (j : ℕ) (other_work : Work) (other_calling : Calling) → slice_get works j ≡ Some other_work → slice_get (change_at i (λ _. after.1) callings) j ≡ Some other_calling
            → (i ≡ j) ⊎ (i ≡ j → ⊥)
            → CallKept script.geometry (size_of script) (tries_of script) (who_of j) (drop (length other_calling.ended) other_work.jobs) other_calling after.0.directory
        each j other_work other_calling is_other_work is_other_calling (inl same) =
            let is_new : slice_get (change_at i (λ _. after.1) callings) j ≡ Some after.1 =
            subst (λ n. slice_get (change_at i (λ _. after.1) callings) n ≡ Some after.1) same (slice_changed i calling after.1 callings is_calling) in
            let same_calling : after.1 ≡ other_calling = same_Some after.1 other_calling (sym is_new ∙ is_other_calling) in
            let same_work : work ≡ other_work = same_Some work other_work (sym (subst (λ n. slice_get works n ≡ Some work) same is_work) ∙ is_other_work) in
            subst (λ n. CallKept script.geometry (size_of script) (tries_of script) (who_of n) (drop (length other_calling.ended) other_work.jobs) other_calling after.0.directory) same
            (subst (λ (w : Work). CallKept script.geometry (size_of script) (tries_of script) (who_of i) (drop (length other_calling.ended) w.jobs) other_calling after.0.directory) same_work
            (subst (λ (c : Calling). CallKept script.geometry (size_of script) (tries_of script) (who_of i) (drop (length c.ended) work.jobs) c after.0.directory) same_calling moves.kept))
        each j other_work other_calling is_other_work is_other_calling (inr differ) =
            let is_old : slice_get callings j ≡ Some other_calling = sym (slice_get-change_at i j (λ _. after.1) callings (λ e. differ (sym e))) ∙ is_other_calling in
            held_kept (who_of j) (drop (length other_calling.ended) other_work.jobs) other_calling places.directory after.0.directory (moves.others (who_of j) (group.apart i j differ))
            (kept j other_work other_calling is_other_work is_old)

    with_job : (shortages : Shortage) (work : Work) (calling : Calling) → slice_get works i ≡ Some work → slice_get callings i ≡ Some calling → has_step work calling ≡ true
        → (found : Option Job) → slice_get work.jobs (length calling.ended) ≡ found → GroupStepped i callings places (job_step script shortages (who_of i) calling places found)
    with_job shortages work calling is_work is_calling steps None e =
        let past : length work.jobs ≤ length calling.ended = none_past work.jobs (length calling.ended) e in
        let some_left : length calling.ended < length work.jobs = has_job work calling steps in
        absurd (omega (arith, past, some_left))
    with_job shortages work calling is_work is_calling steps (Some job) e =
        let ahead : drop (length calling.ended) work.jobs ≡ job ∷ drop (suc (length calling.ended)) work.jobs = drop_here work.jobs (length calling.ended) job e in
        let in_work : InWork script.geometry (size_of script) (tries_of script) job (who_of i) calling places.directory =
        subst (λ l. CallKept script.geometry (size_of script) (tries_of script) (who_of i) l calling places.directory) ahead (kept i work calling is_work is_calling) in
        all_moved work calling (actor_step script.geometry (tries_of script) shortages (who_of i) job calling places) is_work is_calling
        (actor_moves script.geometry (size_of script) (tries_of script) some tried (who_of i) (group.self i) work.jobs (drop (suc (length calling.ended)) work.jobs) job
        (group.targets i work is_work (length calling.ended) job e) calling ahead places fit has in_work shortages)

    if_step : (shortages : Shortage) (work : Work) (calling : Calling) → slice_get works i ≡ Some work → slice_get callings i ≡ Some calling → (b : Bool) → has_step work calling ≡ b
        → GroupStepped i callings places (step_if b script shortages (who_of i) work calling places)
    if_step shortages work calling is_work is_calling true e = with_job shortages work calling is_work is_calling e (slice_get work.jobs (length calling.ended)) refl
    if_step shortages work calling is_work is_calling false e =
        λ other_work other_calling is_other_work is_other_calling.
        let same_work : work ≡ other_work = same_Some work other_work (sym is_work ∙ is_other_work) in
        let same_calling : calling ≡ other_calling = same_Some calling other_calling (sym is_calling ∙ is_other_calling) in
        subst (λ w. has_step w other_calling ≡ false) same_work (subst (λ c. has_step work c ≡ false) same_calling e)

    found_step : (shortages : Shortage) (found : Option Work) (found_calling : Option Calling) → slice_get works i ≡ found → slice_get callings i ≡ found_calling
        → GroupStepped i callings places (step_of script shortages (who_of i) found found_calling places)
    found_step shortages None found_calling e k = λ work calling is_work is_calling. absurd (none-some work (sym e ∙ is_work))
    found_step shortages (Some work) None e k = λ other calling is_work is_calling. absurd (none-some calling (sym k ∙ is_calling))
    found_step shortages (Some work) (Some calling) e k = if_step shortages work calling e k (has_step work calling) refl

    -- a step of actor i lowers the group's steps, or it has none
    pub group_step : (shortages : Shortage) → GroupStepped i callings places (step_of script shortages (who_of i) (slice_get works i) (slice_get callings i) places)
    group_step shortages = found_step shortages (slice_get works i) (slice_get callings i) refl refl
