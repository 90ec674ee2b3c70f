-- What a run shows has no more calls given up than the operator gave up.
use Rattle.std.proofs.Common.{◌≡◌, ℕ, ◌+◌, ◌<◌, ◌≤◌, Bool, true, false, ◌&&◌, cond, List, [], ◌∷◌, ◌++◌, length, map, filter, count_by, refl, sym, ap, ◌∙◌, arith}
use Rattle.std.proofs.lemmas.Bool.{eq-eqb}
use Rattle.std.proofs.lemmas.List.Sums.{sum_by-cons, sum_by-append, length-filter}
use Rattle.store_map.specs.declared.actor.Token.{Token}
use Rattle.store_map.specs.declared.script.Script.{Script}
use Rattle.store_map.specs.declared.call_name.CallName.{CallName}
use Rattle.store_map.specs.declared.call_name.CallName.TheVariants as name
use Rattle.store_map.specs.declared.line.XLine.{XLine}
use Rattle.store_map.specs.declared.line.RLine.{RLine}
use Rattle.store_map.specs.declared.transcript.Transcript.{Transcript}
use Rattle.store_core.specs.Core.{Core}
use Rattle.store_core.specs.Schedule.{run_core}
use Rattle.store_core.specs.Shown.{shown}
use Rattle.run_laws.proofs.Scripts.{can_run}
use Rattle.hist_rules.specs.Calls.{same_actor}
use Rattle.hist_rules.specs.Counts.{is_reap_of_client, is_reap_of_repairer, reaps}
use Rattle.hist_rules.specs.First.{AllAfter}
use Rattle.hist_rules.specs.GivenUp.{is_reaped_cause, is_reaped_result, reaped_calls}
use Rattle.history_laws.specs.HistoryLaws.{RunsGiveUp, scheduled}
use Rattle.history_laws.proofs.GivenUpRuns.{CallersGivenUp, callers_given_up, refused_test, repair_test}

-- ---- counts
count-cons : {X : Type 0} (p : X → Bool) (x : X) (xs : List X) → count_by p (x ∷ xs) ≡ cond (p x) 1 0 + count_by p xs
count-cons p x xs = sum_by-cons (λ y. cond (p y) 1 0) x xs

count-append : {X : Type 0} (p : X → Bool) (xs ys : List X) → count_by p (xs ++ ys) ≡ count_by p xs + count_by p ys
count-append p xs ys = sum_by-append (λ y. cond (p y) 1 0) xs ys

-- calls of lines that pass a test
count_lines : {Line : Type 0} (test : Line → Bool) (call : Line → CallName) (p : CallName → Bool) (lines : List Line) → count_by p (map call (filter test lines)) ≡ count_by (λ line. test line && p (call line)) lines
count_lines test call p [] = refl
count_lines {Line = Line} test call p (line ∷ lines) = by (test line) (count_lines test call p lines) ∙ sym (count-cons (λ l. test l && p (call l)) line lines)
  where
    by : (b : Bool) → count_by p (map call (filter test lines)) ≡ count_by (λ l. test l && p (call l)) lines
        → count_by p (map call (cond {A = List Line} b (line ∷ filter test lines) (filter test lines))) ≡ cond (b && p (call line)) 1 0 + count_by (λ l. test l && p (call l)) lines
    by true e = count-cons p (call line) (map call (filter test lines)) ∙ ap (λ n. cond (p (call line)) 1 0 + n) e
    by false e = (let none : 0 + count_by (λ l. test l && p (call l)) lines ≡ count_by (λ l. test l && p (call l)) lines = omega arith in e ∙ sym none)

-- ---- from the count of all to the count at each line
self : (call : CallName) → same_actor call call ≡ true
self (name.Client call) = eq-eqb call.client call.client refl
self (name.Repairer call) = eq-eqb call.repairer call.repairer refl

along : (bound : CallName → ℕ) (before calls : List CallName) → ((call : CallName) → count_by (same_actor call) before + count_by (same_actor call) calls ≤ bound call)
    → AllAfter (λ others call. count_by (same_actor call) others + 1 ≤ bound call) before calls
along bound before [] h = tt
along bound before (x ∷ calls) h = (
  (let all : count_by (same_actor x) before + count_by (same_actor x) (x ∷ calls) ≤ bound x = h x in
      let one : count_by (same_actor x) (x ∷ calls) ≡ 1 + count_by (same_actor x) calls = count-cons (same_actor x) x calls ∙ ap (λ b. cond b 1 0 + count_by (same_actor x) calls) (self x) in
      omega (arith, all, one)),
  along bound (x ∷ before) calls
      (λ call.
      let all : count_by (same_actor call) before + count_by (same_actor call) (x ∷ calls) ≤ bound call = h call in
      let now : count_by (same_actor call) (x ∷ calls) ≡ cond (same_actor call x) 1 0 + count_by (same_actor call) calls = count-cons (same_actor call) x calls in
      let then_ : count_by (same_actor call) (x ∷ before) ≡ cond (same_actor call x) 1 0 + count_by (same_actor call) before = count-cons (same_actor call) x before in
      sums (count_by (same_actor call) before) (count_by (same_actor call) calls) (cond (same_actor call x) 1 0) (bound call) (count_by (same_actor call) (x ∷ calls)) (count_by (same_actor call) (x ∷ before)) all now then_),
)
  where
    sums : (a b c most d e : ℕ) → a + d ≤ most → d ≡ c + b → e ≡ c + a → e + b ≤ most
    sums a b c most d e all now then_ = omega (arith, all, now, then_)

-- ---- the lines of a run
module _ (script : Script) (core : Core) where
  abbrev t : Transcript
  t = shown script core

  and_false : (b c : Bool) → c ≡ false → (b && c) ≡ false
  and_false true c e = e
  and_false false c e = refl

  none_of : {Line : Type 0} (test : Line → Bool) (p : Line → Bool) → ((line : Line) → p line ≡ false) → (lines : List Line) → count_by (λ line. test line && p line) lines ≡ 0
  none_of test p h [] = refl
  none_of test p h (line ∷ lines) = count-cons (λ l. test l && p l) line lines ∙ (λ i. cond (and_false (test line) (p line) (h line) i) 1 0 + none_of test p h lines i)

  module _ (tokens : List Token) (given : CallersGivenUp tokens core) where
    abbrev refused_part : List CallName
    refused_part = map (λ (line : XLine). name.Client line.call) (filter (λ (line : XLine). is_reaped_cause line.cause) t.refused)

    abbrev repairs_part : List CallName
    repairs_part = map (λ (line : RLine). name.Repairer line.call) (filter (λ (line : RLine). is_reaped_result line.result) t.repairs)

    both : (p : CallName → Bool) → count_by p (reaped_calls t) ≡ count_by p refused_part + count_by p repairs_part
    both p = count-append p refused_part repairs_part

    counted : (call : CallName) → count_by (same_actor call) (reaped_calls t) ≤ reaps (scheduled script tokens) call
    counted (name.Client call) =
        let one : count_by (same_actor (name.Client call)) refused_part ≡ length (filter (refused_test call.client) t.refused) =
        count_lines (λ (line : XLine). is_reaped_cause line.cause) (λ (line : XLine). name.Client line.call) (same_actor (name.Client call)) t.refused ∙ sym (length-filter (refused_test call.client) t.refused) in
        let two : count_by (same_actor (name.Client call)) repairs_part ≡ 0 =
        count_lines (λ (line : RLine). is_reaped_result line.result) (λ (line : RLine). name.Repairer line.call) (same_actor (name.Client call)) t.repairs
        ∙ none_of (λ (line : RLine). is_reaped_result line.result) (λ (line : RLine). same_actor (name.Client call) (name.Repairer line.call)) (λ line. refl) t.repairs in
        let most : length (filter (refused_test call.client) t.refused) ≤ length (filter (is_reap_of_client call.client) tokens) = given.clients call.client in
        let lines : length (filter (is_reap_of_client call.client) tokens) ≡ count_by (is_reap_of_client call.client) tokens = length-filter (is_reap_of_client call.client) tokens in
        omega (arith, one, two, most, lines, both (same_actor (name.Client call)))
    counted (name.Repairer call) =
        let one : count_by (same_actor (name.Repairer call)) repairs_part ≡ length (filter (repair_test call.repairer) t.repairs) =
        count_lines (λ (line : RLine). is_reaped_result line.result) (λ (line : RLine). name.Repairer line.call) (same_actor (name.Repairer call)) t.repairs ∙ sym (length-filter (repair_test call.repairer) t.repairs) in
        let two : count_by (same_actor (name.Repairer call)) refused_part ≡ 0 =
        count_lines (λ (line : XLine). is_reaped_cause line.cause) (λ (line : XLine). name.Client line.call) (same_actor (name.Repairer call)) t.refused
        ∙ none_of (λ (line : XLine). is_reaped_cause line.cause) (λ (line : XLine). same_actor (name.Repairer call) (name.Client line.call)) (λ line. refl) t.refused in
        let most : length (filter (repair_test call.repairer) t.repairs) ≤ length (filter (is_reap_of_repairer call.repairer) tokens) = given.repairers call.repairer in
        let lines : length (filter (is_reap_of_repairer call.repairer) tokens) ≡ count_by (is_reap_of_repairer call.repairer) tokens = length-filter (is_reap_of_repairer call.repairer) tokens in
        omega (arith, one, two, most, lines, both (same_actor (name.Repairer call)))

-- no more calls are given up than the operator gave up
pub runs_give_up : RunsGiveUp
runs_give_up script shortages geometry valid tokens few =
    let some : 0 < script.geometry.parity_count = (let two : 2 ≤ script.geometry.parity_count = geometry.limits.parity_chunks.0 in omega (arith, two)) in
    let core : Core = run_core script shortages tokens in
    along (reaps (scheduled script tokens)) [] (reaped_calls (shown script core))
    (λ call. let most : count_by (same_actor call) (reaped_calls (shown script core)) ≤ reaps (scheduled script tokens) call = counted script core tokens (callers_given_up script (can_run script geometry valid) some shortages tokens) call in
    omega (arith, most))
