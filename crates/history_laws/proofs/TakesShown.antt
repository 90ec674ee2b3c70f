-- Of each call a transcript has the line of what it took, or none where it took nothing.
use Rattle.std.proofs.Common.{◌≡◌, ◌⊎◌, inl, inr, ℕ, zero, suc, ◌+◌, ◌<◌, Bool, true, false, ◌&&◌, ◌||◌, cond, nat_eq, nat_lt, List, [], ◌∷◌, ◌++◌, length, filter, replicate, get_or, Some, refl, sym, ap, subst, ◌∙◌, arith, true≢false}
use Rattle.std.proofs.lemmas.Bool.{cases_order, eq-eqb, ne_eqb, lt-ltb}
use Rattle.std.proofs.lemmas.List.{append-nil}
use Rattle.std.proofs.lemmas.List.Elements.{filter-append}
use Rattle.std.proofs.lemmas.Option.{none-some, same_Some, slice_get_within}
use Rattle.std.specs.List.{slice_get, list_any}
use Rattle.clay_grid.specs.Shape.{Shape, chunk_count}
use Rattle.store_map.specs.Limits.{tries_of}
use Rattle.store_map.specs.declared.actor.Actor.{Actor}
use Rattle.store_map.specs.declared.actor.Actor.TheVariants as actor
use Rattle.store_map.specs.declared.script.Script.{Script}
use Rattle.store_map.specs.declared.call_name.CallName.{CallName}
use Rattle.store_map.specs.declared.call_name.CallName.TheVariants as name
use Rattle.store_map.specs.declared.line.GLine.{GLine}
use Rattle.hist_rules.specs.Calls.{same_call}
use Rattle.store_core.specs.Core.{Core}
use Rattle.store_core.specs.NextAct.{Job}
use Rattle.store_core.specs.Shown.{shown, take_line, take_lines, lines_of_ended, lines_of_actors, client_name, repairer_name}
use Rattle.store_core.specs.Work.{Ended, Calling, client_work, repairer_work}
use Rattle.history_laws.proofs.NamedCalls.{inside, no_zeros}
use Rattle.history_laws.proofs.OrderEnds.{EndKnown}
use Rattle.history_laws.proofs.OrderLists.{indexed}
use Rattle.history_laws.specs.LineCauses.{told_to, job_of_call}
use Rattle.history_laws.specs.Trace.{Made}
use Rattle.history_laws.specs.TakesOfCalls.{taken_by, AreExactSince}
use Rattle.history_laws.specs.Over.{answers_to}
use Rattle.history_laws.specs.Takes.{lines_of_takes, first_takes}
use Rattle.history_laws.proofs.Overs.{CallPlace, client_place, repairer_place}
use Rattle.history_laws.proofs.TakesTraced.{TakesThen, TakesSoFar}

-- ---- numbered lines of which some are wanted
module _ {X Line : Type 0} (lines : ℕ → X → List Line) (mine : Line → Bool) where
  none_from : (a : ℕ) (xs : List X) → ((m : ℕ) (x : X) → slice_get xs m ≡ Some x → filter mine (lines (a + m) x) ≡ []) → filter mine (indexed lines a xs) ≡ []
  none_from a [] none = refl
  none_from a (x ∷ xs) none =
      filter-append mine (lines a x) (indexed lines (a + 1) xs)
      ∙ ap (λ l. l ++ filter mine (indexed lines (a + 1) xs)) (let same : a + 0 ≡ a = omega arith in subst (λ m. filter mine (lines m x) ≡ []) same (none 0 x refl))
      ∙ none_from (a + 1) xs (λ m y e. let one : a + suc m ≡ a + 1 + m = omega arith in subst (λ k. filter mine (lines k y) ≡ []) one (none (suc m) y e))

  -- where those of one number alone are
  there_from : (k a : ℕ) → ((j : ℕ) (x : X) → (j ≡ k → ⊥) → filter mine (lines j x) ≡ []) → (xs : List X) (m : ℕ) (x : X) → slice_get xs m ≡ Some x → a + m ≡ k → filter mine (indexed lines a xs) ≡ filter mine (lines k x)
  there_from k a apart [] m x e at = absurd (none-some x e)
  there_from k a apart (y ∷ xs) zero x e at =
      filter-append mine (lines a y) (indexed lines (a + 1) xs)
      ∙ ap (λ l. filter mine (lines a y) ++ l) (none_from (a + 1) xs (λ m z is. apart (a + 1 + m) z (λ same. absurd (omega (arith, same, at)))))
      ∙ append-nil (filter mine (lines a y))
      ∙ (let place : a ≡ k = omega (arith, at) in λ i. filter mine (lines (place i) (same_Some y x e i)))
  there_from k a apart (y ∷ xs) (suc m) x e at =
      filter-append mine (lines a y) (indexed lines (a + 1) xs)
      ∙ ap (λ l. l ++ filter mine (indexed lines (a + 1) xs)) (apart a y (λ same. absurd (omega (arith, same, at))))
      ∙ there_from k (a + 1) apart xs m x e (omega (arith, at))

-- ---- names
record Names (who : ℕ → ℕ → CallName) : Type 0 where
  itself : (i n : ℕ) → same_call (who i n) (who i n) ≡ true
  other : (i j m n : ℕ) → (j ≡ i → ⊥) → same_call (who i m) (who j n) ≡ false
  later : (i m n : ℕ) → (n ≡ m → ⊥) → same_call (who i m) (who i n) ≡ false

and_false : (a b : Bool) → b ≡ false → (a && b) ≡ false
and_false true b e = e
and_false false b e = refl

client_names : Names client_name
client_names =
    record {
      itself = λ i n. ap (λ b. b && nat_eq n n) (eq-eqb i i refl) ∙ eq-eqb n n refl;
      other = λ i j m n differ. ap (λ b. b && nat_eq m n) (ne_eqb i j (λ same. differ (sym same)));
      later = λ i m n differ. and_false (nat_eq i i) (nat_eq m n) (ne_eqb m n (λ same. differ (sym same)));
    }

repairer_names : Names repairer_name
repairer_names =
    record {
      itself = λ i n. ap (λ b. b && nat_eq n n) (eq-eqb i i refl) ∙ eq-eqb n n refl;
      other = λ i j m n differ. ap (λ b. b && nat_eq m n) (ne_eqb i j (λ same. differ (sym same)));
      later = λ i m n differ. and_false (nat_eq i i) (nat_eq m n) (ne_eqb m n (λ same. differ (sym same)));
    }

-- ---- the lines of a call
module _ (call : CallName) where
  abbrev mine : GLine → Bool
  mine line = same_call call line.call

  apart_line : (other : CallName) (takes : List ℕ) → same_call call other ≡ false → filter mine (take_line other takes) ≡ []
  apart_line other takes e = by (list_any (nat_lt 0) takes)
    where
      by : (b : Bool) → filter mine (cond {A = List GLine} b (record { call = other; takes = takes } ∷ []) []) ≡ []
      by true = ap (λ s. cond {A = List GLine} s (record { call = other; takes = takes } ∷ []) []) e
      by false = refl

  own_line : (takes : List ℕ) → same_call call call ≡ true → filter mine (take_line call takes) ≡ take_line call takes
  own_line takes e = by (list_any (nat_lt 0) takes)
    where
      by : (b : Bool) → filter mine (cond {A = List GLine} b (record { call = call; takes = takes } ∷ []) []) ≡ cond {A = List GLine} b (record { call = call; takes = takes } ∷ []) []
      by true = ap (λ s. cond {A = List GLine} s (record { call = call; takes = takes } ∷ []) []) e
      by false = refl

  -- of other calls
  apart_lines : (nm : ℕ → CallName) → ((n : ℕ) → same_call call (nm n) ≡ false) → (c : Calling) → filter mine (take_lines nm c) ≡ []
  apart_lines nm apart c =
      filter-append mine (lines_of_ended (λ n (e : Ended). take_line (nm n) e.takes) c) (take_line (nm (length c.ended)) c.takes)
      ∙ ap (λ l. l ++ filter mine (take_line (nm (length c.ended)) c.takes)) (none_from (λ n (e : Ended). take_line (nm n) e.takes) mine 0 c.ended (λ m e is. apart_line (nm (0 + m)) e.takes (apart (0 + m))))
      ∙ apart_line (nm (length c.ended)) c.takes (apart (length c.ended))

  strangers : (who : ℕ → ℕ → CallName) → ((j n : ℕ) → same_call call (who j n) ≡ false) → (callings : List Calling) → filter mine (lines_of_actors (λ j. take_lines (who j)) callings) ≡ []
  strangers who apart callings = none_from (λ j (c : Calling). take_lines (who j) c) mine 0 callings (λ m c is. apart_lines (who (0 + m)) (apart (0 + m)) c)

module _ (who : ℕ → ℕ → CallName) (names : Names who) (i number : ℕ) where
  abbrev own : CallName
  own = who i number

  abbrev is_own : GLine → Bool
  is_own line = same_call (who i number) line.call

  -- of one actor
  of_ended : (c : Calling) (k : ℕ) → k ≡ length c.ended → filter is_own (take_lines (who i) c) ≡ filter is_own (lines_of_ended (λ n (e : Ended). take_line (who i n) e.takes) c) ++ filter is_own (take_line (who i k) c.takes)
  of_ended c k same =
      filter-append is_own (lines_of_ended (λ n (e : Ended). take_line (who i n) e.takes) c) (take_line (who i (length c.ended)) c.takes)
      ∙ ap (λ n. filter is_own (lines_of_ended (λ n (e : Ended). take_line (who i n) e.takes) c) ++ filter is_own (take_line (who i n) c.takes)) (sym same)

  ended_line : (c : Calling) (e : Ended) → slice_get c.ended number ≡ Some e → filter is_own (take_lines (who i) c) ≡ take_line (who i number) e.takes
  ended_line c e is =
      of_ended c (length c.ended) refl
      ∙ ap (λ l. filter is_own (lines_of_ended (λ n (e : Ended). take_line (who i n) e.takes) c) ++ l) (apart_line own (who i (length c.ended)) c.takes (names.later i number (length c.ended) past))
      ∙ append-nil (filter is_own (lines_of_ended (λ n (e : Ended). take_line (who i n) e.takes) c))
      ∙ there_from (λ n (e : Ended). take_line (who i n) e.takes) is_own number 0 (λ j x differ. apart_line own (who i j) x.takes (names.later i number j differ)) c.ended number e is (omega arith)
      ∙ own_line own e.takes (names.itself i number)
    where
      past : length c.ended ≡ number → ⊥
      past same = let low : number < length c.ended = slice_get_within c.ended number e is in omega (arith, low, same)

  none_ended : (c : Calling) → ((number < length c.ended) → ⊥) → filter is_own (lines_of_ended (λ n (e : Ended). take_line (who i n) e.takes) c) ≡ []
  none_ended c high =
      none_from (λ n (e : Ended). take_line (who i n) e.takes) is_own 0 c.ended
      (λ m e is. apart_line own (who i (0 + m)) e.takes (names.later i number (0 + m) (λ same. high (let low : m < length c.ended = slice_get_within c.ended m e is in omega (arith, low, same)))))

  work_line : (c : Calling) → number ≡ length c.ended → filter is_own (take_lines (who i) c) ≡ take_line (who i number) c.takes
  work_line c same =
      of_ended c number same
      ∙ ap (λ l. l ++ filter is_own (take_line (who i number) c.takes)) (none_ended c (λ low. absurd (omega (arith, low, same))))
      ∙ own_line own c.takes (names.itself i number)

  no_line : (c : Calling) → length c.ended < number → filter is_own (take_lines (who i) c) ≡ []
  no_line c high =
      of_ended c (length c.ended) refl
      ∙ ap (λ l. l ++ filter is_own (take_line (who i (length c.ended)) c.takes)) (none_ended c (λ low. absurd (omega (arith, low, high))))
      ∙ apart_line own (who i (length c.ended)) c.takes (names.later i number (length c.ended) (λ same. absurd (omega (arith, high, same))))

  -- of all actors of a group
  group_lines : (callings : List Calling) (c : Calling) → slice_get callings i ≡ Some c → filter is_own (lines_of_actors (λ j. take_lines (who j)) callings) ≡ filter is_own (take_lines (who i) c)
  group_lines callings c is =
      there_from (λ j (x : Calling). take_lines (who j) x) is_own i 0 (λ j x differ. apart_lines own (who j) (λ n. names.other i j number n differ) x) callings i c is (omega arith)

  -- what the answers gave
  given_line : (g : Shape) (tries : ℕ) (trace : List Made) (teller : Actor) (jobs : List Job) (c : Calling) → TakesThen g tries trace teller jobs c → (job : Job) → slice_get jobs number ≡ Some job
      → (length c.ended < number → told_to teller number trace ≡ []) → filter is_own (take_lines (who i) c) ≡ take_line (who i number) (taken_by g tries job (told_to teller number trace))
  given_line g tries trace teller jobs c h job is_job none = by (cases_order number (length c.ended))
    where
      by : (number ≡ length c.ended) ⊎ ((number < length c.ended) ⊎ (length c.ended < number)) → filter is_own (take_lines (who i) c) ≡ take_line (who i number) (taken_by g tries job (told_to teller number trace))
      by (inl same) =
          work_line c same
          ∙ ap (take_line (who i number)) (subst (λ n. c.takes ≡ taken_by g tries job (told_to teller n trace)) (sym same) (h.in_work job (subst (λ n. slice_get jobs n ≡ Some job) same is_job)).taken)
      by (inr (inl low)) =
          let e : (x : Ended) × (slice_get c.ended number ≡ Some x) = inside c.ended number low in
          ended_line c e.0 e.1 ∙ ap (take_line (who i number)) (h.ended number job e.0 is_job e.1).taken
      by (inr (inr high)) =
          no_line c high
          ∙ sym (ap (λ answers. take_line (who i number) (taken_by g tries job answers)) (none high)
          ∙ ap (λ b. cond {A = List GLine} b (record { call = who i number; takes = replicate (chunk_count g) 0 } ∷ []) []) (no_zeros (chunk_count g)))

  -- and so much at a time as it was asked for
  exact_given : (g : Shape) (tries : ℕ) (trace : List Made) (teller : Actor) (jobs : List Job) (c : Calling) → TakesThen g tries trace teller jobs c → (job : Job) → slice_get jobs number ≡ Some job
      → (length c.ended < number → told_to teller number trace ≡ []) → AreExactSince g tries job [] (told_to teller number trace)
  exact_given g tries trace teller jobs c h job is_job none = by (cases_order number (length c.ended))
    where
      by : (number ≡ length c.ended) ⊎ ((number < length c.ended) ⊎ (length c.ended < number)) → AreExactSince g tries job [] (told_to teller number trace)
      by (inl same) = subst (λ n. AreExactSince g tries job [] (told_to teller n trace)) (sym same) (h.in_work job (subst (λ n. slice_get jobs n ≡ Some job) same is_job)).exact
      by (inr (inl low)) = let e : (x : Ended) × (slice_get c.ended number ≡ Some x) = inside c.ended number low in (h.ended number job e.0 is_job e.1).exact
      by (inr (inr high)) = subst (AreExactSince g tries job []) (sym (none high)) tt

-- ---- of a run
module _ (script : Script) (core : Core) (known : EndKnown script core) (trace : List Made) (has : TakesSoFar script trace core) where
  pub lines_given : (call : CallName) (job : Job) → job_of_call script call ≡ Some job → lines_of_takes (shown script core) call ≡ take_line call (taken_by script.geometry (tries_of script) job (answers_to call trace))
  lines_given (name.Client call) job is =
      let p : CallPlace (client_work script) core.clients call.client call.number job = client_place script core known trace has.causes call.client call.number job is in
      filter-append (mine (name.Client call)) (lines_of_actors (λ j. take_lines (client_name j)) core.clients) (lines_of_actors (λ j. take_lines (repairer_name j)) core.repairers)
      ∙ ap (λ l. filter (mine (name.Client call)) (lines_of_actors (λ j. take_lines (client_name j)) core.clients) ++ l) (strangers (name.Client call) repairer_name (λ j n. refl) core.repairers)
      ∙ append-nil (filter (mine (name.Client call)) (lines_of_actors (λ j. take_lines (client_name j)) core.clients))
      ∙ group_lines client_name client_names call.client call.number core.clients p.calling p.is_calling
      ∙ given_line client_name client_names call.client call.number script.geometry (tries_of script) trace (actor.Client call.client) p.work.jobs p.calling (has.clients call.client p.calling p.is_calling p.work p.is_work) job p.is_job
      ((has.causes.clients call.client p.calling p.is_calling p.work p.is_work).later call.number)
  lines_given (name.Repairer call) job is =
      let p : CallPlace (repairer_work script) core.repairers call.repairer call.number job = repairer_place script core known trace has.causes call.repairer call.number job is in
      filter-append (mine (name.Repairer call)) (lines_of_actors (λ j. take_lines (client_name j)) core.clients) (lines_of_actors (λ j. take_lines (repairer_name j)) core.repairers)
      ∙ ap (λ l. l ++ filter (mine (name.Repairer call)) (lines_of_actors (λ j. take_lines (repairer_name j)) core.repairers)) (strangers (name.Repairer call) client_name (λ j n. refl) core.clients)
      ∙ group_lines repairer_name repairer_names call.repairer call.number core.repairers p.calling p.is_calling
      ∙ given_line repairer_name repairer_names call.repairer call.number script.geometry (tries_of script) trace (actor.Repairer call.repairer) p.work.jobs p.calling (has.repairers call.repairer p.calling p.is_calling p.work p.is_work) job p.is_job
      ((has.causes.repairers call.repairer p.calling p.is_calling p.work p.is_work).later call.number)

  pub exact_answers : (call : CallName) (job : Job) → job_of_call script call ≡ Some job → AreExactSince script.geometry (tries_of script) job [] (answers_to call trace)
  exact_answers (name.Client call) job is =
      let p : CallPlace (client_work script) core.clients call.client call.number job = client_place script core known trace has.causes call.client call.number job is in
      exact_given client_name client_names call.client call.number script.geometry (tries_of script) trace (actor.Client call.client) p.work.jobs p.calling (has.clients call.client p.calling p.is_calling p.work p.is_work) job p.is_job
      ((has.causes.clients call.client p.calling p.is_calling p.work p.is_work).later call.number)
  exact_answers (name.Repairer call) job is =
      let p : CallPlace (repairer_work script) core.repairers call.repairer call.number job = repairer_place script core known trace has.causes call.repairer call.number job is in
      exact_given repairer_name repairer_names call.repairer call.number script.geometry (tries_of script) trace (actor.Repairer call.repairer) p.work.jobs p.calling (has.repairers call.repairer p.calling p.is_calling p.work p.is_work) job p.is_job
      ((has.causes.repairers call.repairer p.calling p.is_calling p.work p.is_work).later call.number)

-- ---- the takes of a line
none_of : (takes : List ℕ) → list_any (nat_lt 0) takes ≡ false → (server : ℕ) → get_or takes server 0 ≡ 0
none_of [] e server = refl
none_of (zero ∷ takes) e zero = refl
none_of (zero ∷ takes) e (suc server) = none_of takes e server
none_of (suc n ∷ takes) e server = absurd (true≢false (sym (ap (λ b. b || list_any (nat_lt 0) takes) (lt-ltb 0 (suc n) (omega arith))) ∙ e))

-- a line, or none where there is nothing, tells what was taken of each server
pub takes_told : (call : CallName) (takes : List ℕ) (server : ℕ) → get_or (first_takes (take_line call takes)) server 0 ≡ get_or takes server 0
takes_told call takes server = by (list_any (nat_lt 0) takes) refl
  where
    by : (b : Bool) → list_any (nat_lt 0) takes ≡ b → get_or (first_takes (cond {A = List GLine} b (record { call = call; takes = takes } ∷ []) [])) server 0 ≡ get_or takes server 0
    by true e = refl
    by false e = sym (none_of takes e server)
