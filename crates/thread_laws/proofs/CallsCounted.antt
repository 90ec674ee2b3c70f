-- What an actor's calls count is what its list took.
use Rattle.std.proofs.Common.{◌≡◌, ℕ, zero, suc, ◌+◌, ◌-◌, ◌^◌, ◌<◌, ◌≤◌, min, Bool, true, false, cond, nat_eq, replicate, List, [], ◌∷◌, ◌++◌, length, filter, get_or, Option, None, Some, refl, sym, ap, subst, ◌∙◌, arith, eqb-true, true≢false, eq-eqb}
use Rattle.std.proofs.lemmas.List.Sums.{sum_by-cons, sum_by_push}
use Rattle.std.specs.Prelude.{sum_by}
use Rattle.std.specs.List.{range_with_len}
use Rattle.clay_grid.specs.Shape.{chunk_count}
use Rattle.store_map.specs.Limits.{tries_of}
use Rattle.store_map.specs.declared.script.Script.{Script}
use Rattle.store_core.specs.Lists.{change_at}
use Rattle.store_core.specs.Told.{Told}
use Rattle.store_core.specs.Act.{Act}
use Rattle.store_core.specs.ActPlace.{ActPlace}
use Rattle.store_core.specs.NextAct.{Job, next_act}
use Rattle.store_core.specs.Tell.{tell}
use Rattle.store_core.specs.Server.{raised_by}
use Rattle.store_core.specs.Work.{Work, Ended, Calling, new_calling, has_step}
use Rattle.store_core.specs.Step.{take_from, ended_by}
use Rattle.store_core.proofs.Places.{length-change_at}
use Rattle.thread_laws.specs.MadeSteps.{MadeStep, acts_at, is_at}
use Rattle.thread_laws.specs.AtPlaces.{after_all, AllCome}
use Rattle.thread_laws.specs.ByActors.{job_if, told_now, called_next, calling_next, IsNextOf, IsNext}
use Rattle.thread_laws.specs.Histories.{ComeOfActor}
use Rattle.thread_laws.specs.Merging.{calling_after}
use Rattle.thread_laws.specs.Taken.{given_by, given, taken_at}
use Rattle.thread_laws.specs.CallTakes.{taken_by_calls}

-- ---- lists of numbers
number_here : (i : ℕ) (f : ℕ → ℕ) (xs : List ℕ) → i < length xs → get_or (change_at i f xs) i 0 ≡ f (get_or xs i 0)
number_here i f [] lt = absurd (omega (arith, lt))
number_here zero f (x ∷ xs) lt = refl
number_here (suc i) f (x ∷ xs) lt = number_here i f xs (omega (arith, lt))

number_there : (i j : ℕ) (f : ℕ → ℕ) (xs : List ℕ) → (i ≡ j → ⊥) → get_or (change_at i f xs) j 0 ≡ get_or xs j 0
number_there i j f [] differ = refl
number_there zero zero f (x ∷ xs) differ = absurd (differ refl)
number_there zero (suc j) f (x ∷ xs) differ = refl
number_there (suc i) zero f (x ∷ xs) differ = refl
number_there (suc i) (suc j) f (x ∷ xs) differ = number_there i j f xs (λ e. differ (ap suc e))

zeros : (n j : ℕ) → get_or (replicate {A = ℕ} n 0) j 0 ≡ 0
zeros zero j = refl
zeros (suc n) zero = refl
zeros (suc n) (suc j) = zeros n j

zeros_length : (n : ℕ) → length (replicate {A = ℕ} n 0) ≡ n
zeros_length zero = refl
zeros_length (suc n) = ap suc (zeros_length n)

plus_none : (total : ℕ) (b : Bool) → total ≡ total + cond b 0 0
plus_none total true = omega arith
plus_none total false = omega arith

plus_zero : (total : ℕ) → total ≡ total + 0
plus_zero total = omega arith

-- ---- a step of an actor
module _ (script : Script) (j : ℕ) where
  -- what a step took from the server
  abbrev here : MadeStep → ℕ
  here m = cond (is_at (ActPlace.Server j) m) (given m) 0

  taken_cons : (m : MadeStep) (steps : List MadeStep) → taken_at j (m ∷ steps) ≡ here m + taken_at j steps
  taken_cons m steps = by (is_at (ActPlace.Server j) m)
    where
      by : (b : Bool) → sum_by given (cond {A = List MadeStep} b (m ∷ filter (is_at (ActPlace.Server j)) steps) (filter (is_at (ActPlace.Server j)) steps)) ≡ cond b (given m) 0 + taken_at j steps
      by true = sum_by-cons given m (filter (is_at (ActPlace.Server j)) steps)
      by false = omega arith

  took_length : (act : Act) (answer : Told) (takes : List ℕ) → length (take_from act answer takes) ≡ length takes
  took_length (Act.AtServer server step) (Told.Given layers) takes = length-change_at server (raised_by layers) takes
  took_length (Act.AtServer server step) answer takes = refl
  took_length (Act.AtDirectory step) answer takes = refl
  took_length (Act.Finish outcome) answer takes = refl

  -- the count of the call in work
  took_counted : (act : Act) (answer : Told) (takes : List ℕ) (ended total : ℕ) → j < length takes → min (ended + get_or takes j 0) (2 ^ 64 - 1) ≡ min total (2 ^ 64 - 1)
      → min (ended + get_or (take_from act answer takes) j 0) (2 ^ 64 - 1) ≡ min (total + cond (acts_at (ActPlace.Server j) act) (given_by act answer) 0) (2 ^ 64 - 1)
  took_counted (Act.AtServer server step) (Told.Given layers) takes ended total lt e = by (nat_eq j server) refl
    where
      by : (b : Bool) → nat_eq j server ≡ b → min (ended + get_or (change_at server (raised_by layers) takes) j 0) (2 ^ 64 - 1) ≡ min (total + cond b layers 0) (2 ^ 64 - 1)
      by true q =
          let t : ℕ = get_or takes j 0 in
          let n : ℕ = get_or (change_at server (raised_by layers) takes) j 0 in
          let raised : n ≡ min (t + layers) (2 ^ 64 - 1) = subst (λ k. get_or (change_at k (raised_by layers) takes) j 0 ≡ raised_by layers (get_or takes j 0)) (eqb-true j server q) (number_here j (raised_by layers) takes lt) in
          let before : min (ended + t) (2 ^ 64 - 1) ≡ min total (2 ^ 64 - 1) = e in
          let all : min (ended + n) (2 ^ 64 - 1) ≡ min (total + layers) (2 ^ 64 - 1) = omega (arith, raised, before) in
          all
      by false q =
          ap (λ n. min (ended + n) (2 ^ 64 - 1)) (number_there server j (raised_by layers) takes (λ same. true≢false (sym (eq-eqb j server (sym same)) ∙ q)))
          ∙ e ∙ ap (λ n. min n (2 ^ 64 - 1)) (plus_zero total)
  took_counted (Act.AtServer server step) answer takes ended total lt e = e ∙ ap (λ n. min n (2 ^ 64 - 1)) (plus_none total (nat_eq j server))
  took_counted (Act.AtDirectory step) answer takes ended total lt e = e ∙ ap (λ n. min n (2 ^ 64 - 1)) (plus_zero total)
  took_counted (Act.Finish outcome) answer takes ended total lt e = e ∙ ap (λ n. min n (2 ^ 64 - 1)) (plus_zero total)

  -- a call that ends keeps its count
  ended_length : (act : Act) (n : ℕ) (calling : Calling) → length calling.takes ≡ n → length (ended_by act n calling).takes ≡ n
  ended_length (Act.AtDirectory step) n calling e = e
  ended_length (Act.AtServer server step) n calling e = e
  ended_length (Act.Finish outcome) n calling e = zeros_length n

  ended_counted : (act : Act) (n : ℕ) (calling : Calling) → taken_by_calls j (ended_by act n calling) ≡ taken_by_calls j calling
  ended_counted (Act.AtDirectory step) n calling = refl
  ended_counted (Act.AtServer server step) n calling = refl
  ended_counted (Act.Finish outcome) n calling =
      let count : Ended → ℕ = λ ended. get_or ended.takes j 0 in
      let last : Ended = record { outcome = outcome; takes = calling.takes } in
      let all : sum_by count (calling.ended ++ last ∷ []) ≡ sum_by count calling.ended + get_or calling.takes j 0 = sum_by_push count calling.ended last in
      let none : get_or (replicate {A = ℕ} n 0) j 0 ≡ 0 = zeros n j in
      omega (arith, all, none)

  call_length : (m : MadeStep) (calling : Calling) (found : Option Job) → length calling.takes ≡ chunk_count script.geometry → length (called_next script m found calling).takes ≡ chunk_count script.geometry
  call_length m calling None e = e
  call_length m calling (Some job) e = ended_length _ (chunk_count script.geometry) _ (took_length m.act m.answer calling.takes ∙ e)

  call_counted : (m : MadeStep) (calling : Calling) (found : Option Job) (total : ℕ) → IsNextOf script m calling found → j < length calling.takes → min (taken_by_calls j calling) (2 ^ 64 - 1) ≡ min total (2 ^ 64 - 1)
      → min (taken_by_calls j (called_next script m found calling)) (2 ^ 64 - 1) ≡ min (total + here m) (2 ^ 64 - 1)
  call_counted m calling None total next lt e = absurd next
  call_counted m calling (Some job) total next lt e =
      ap (λ n. min n (2 ^ 64 - 1)) (ended_counted (next_act script.geometry (tries_of script) job (tell script.geometry job (told_now script m job calling) m.answer)) (chunk_count script.geometry)
      (record { ended = calling.ended; told = tell script.geometry job (told_now script m job calling) m.answer; takes = take_from m.act m.answer calling.takes; steps = calling.steps + 1 }))
      ∙ took_counted m.act m.answer calling.takes (sum_by (λ (ended : Ended). get_or ended.takes j 0) calling.ended) total lt e

  -- along an actor's list
  list_counted : (work : Work) (steps : List MadeStep) (calling : Calling) (total : ℕ) → j < chunk_count script.geometry → length calling.takes ≡ chunk_count script.geometry
      → min (taken_by_calls j calling) (2 ^ 64 - 1) ≡ min total (2 ^ 64 - 1) → AllCome (calling_next script work) (IsNext script work) steps calling
      → min (taken_by_calls j (after_all (calling_next script work) steps calling)) (2 ^ 64 - 1) ≡ min (total + taken_at j steps) (2 ^ 64 - 1)
  list_counted work [] calling total lt sized e come = e ∙ ap (λ n. min n (2 ^ 64 - 1)) (plus_zero total)
  list_counted work (m ∷ steps) calling total lt sized e come =
      let found : Option Job = job_if (has_step work calling) work calling in
      let within : j < length calling.takes = subst (λ n. j < n) (sym sized) lt in
      let rest = list_counted work steps (calling_next script work m calling) (total + here m) lt (call_length m calling found sized) (call_counted m calling found total come.0 within e) come.1 in
      let parts : taken_at j (m ∷ steps) ≡ here m + taken_at j steps = taken_cons m steps in
      let h : ℕ = here m in
      let same : total + h + taken_at j steps ≡ total + taken_at j (m ∷ steps) = omega (arith, parts) in
      rest ∙ ap (λ n. min n (2 ^ 64 - 1)) same

  -- an actor that begins anew
  new_count : (n : ℕ) → taken_by_calls j (new_calling n) ≡ 0
  new_count n = let none : get_or (replicate {A = ℕ} n 0) j 0 ≡ 0 = zeros n j in omega (arith, none)

  pub actor_counted : (work : Option Work) (steps : List MadeStep) → j < chunk_count script.geometry → ComeOfActor script steps work (Some (new_calling (chunk_count script.geometry)))
      → min (taken_by_calls j (calling_after script steps work (new_calling (chunk_count script.geometry)))) (2 ^ 64 - 1) ≡ min (taken_at j steps) (2 ^ 64 - 1)
  actor_counted None steps lt come = ap (λ n. min n (2 ^ 64 - 1)) (new_count (chunk_count script.geometry) ∙ sym (ap (taken_at j) come))
  actor_counted (Some work) steps lt come =
      list_counted work steps (new_calling (chunk_count script.geometry)) 0 lt (zeros_length (chunk_count script.geometry))
      (ap (λ n. min n (2 ^ 64 - 1)) (new_count (chunk_count script.geometry))) come
      ∙ ap (λ n. min n (2 ^ 64 - 1)) (plus_left (taken_at j steps))
    where
      plus_left : (n : ℕ) → 0 + n ≡ n
      plus_left n = omega arith

-- ---- sums of counts
pub min_sums : (f g : ℕ → ℕ) (start count : ℕ) → ((i : ℕ) → start ≤ i → i < start + count → min (f i) (2 ^ 64 - 1) ≡ min (g i) (2 ^ 64 - 1))
    → min (sum_by f (range_with_len start count)) (2 ^ 64 - 1) ≡ min (sum_by g (range_with_len start count)) (2 ^ 64 - 1)
min_sums f g start zero same = refl
min_sums f g start (suc count) same =
    let first : min (f start) (2 ^ 64 - 1) ≡ min (g start) (2 ^ 64 - 1) = same start (omega arith) (omega arith) in
    let rest : min (sum_by f (range_with_len (start + 1) count)) (2 ^ 64 - 1) ≡ min (sum_by g (range_with_len (start + 1) count)) (2 ^ 64 - 1) =
    min_sums f g (start + 1) count (λ i low high. same i (omega (arith, low)) (omega (arith, high))) in
    let one : sum_by f (range_with_len start (suc count)) ≡ f start + sum_by f (range_with_len (start + 1) count) = sum_by-cons f start (range_with_len (start + 1) count) in
    let other : sum_by g (range_with_len start (suc count)) ≡ g start + sum_by g (range_with_len (start + 1) count) = sum_by-cons g start (range_with_len (start + 1) count) in
    omega (arith, first, rest, one, other)
