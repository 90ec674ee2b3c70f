-- The answer to a rebuild that ended so is the session's.
use Rattle.std.proofs.Common.{◌≡◌, ◌⊎◌, ℕ, Bool, true, false, List, [], ◌∷◌, length, nat_lt, get_or, if◌then◌else◌, refl, sym, ap, subst, ◌∙◌, inl, inr}
use Rattle.std.specs.Prelude.{⊤}
use Rattle.clay_grid.specs.Shape.{Shape}
use Rattle.store_map.specs.declared.reply.Reply.TheVariants as reply
use Rattle.session_rules.specs.State.{Stripe, State, numbers_of}
use Rattle.session_rules.specs.Gathered.{holds, is_beyond_repair, named}
use Rattle.session_rules.specs.Rebuilds.{place_anew, rebuild_one, rebuild}
use Rattle.session_rules.specs.Shortages.{IsServed}
use Rattle.session_rules.specs.declared.session_answer.Answer.{Answer}
use Rattle.session_rules.specs.declared.request.Request.{Request}
use Rattle.session_rules.specs.AloneRebuilds.{rebuilt_as}
use Rattle.call_steps.specs.Outcomes.{repair_outcome_of}
use Rattle.call_steps.specs.declared.outcomes.RepairOutcome.{RepairOutcome}
use Rattle.call_steps.specs.declared.outcomes.RepairOutcome.TheVariants as repair
use Rattle.session_store.specs.Answers.{AnswersRebuild}
use Rattle.session_store.specs.Ends.{EndsRebuild}
use Rattle.session_store.proofs.Outcomes.{back_as, Says, unless_wanting}

-- ---- what a rebuild is answered
abbrev pub IsAfterRebuild : Answer → State → State → Type 0
IsAfterRebuild Answer.Rebuilt after s = ⊤
IsAfterRebuild Answer.Here after s = ⊤
IsAfterRebuild (Answer.Replied reply.NoSuch) after s = ⊤
IsAfterRebuild (Answer.Unavailable stripe missing) after s = after ≡ s
IsAfterRebuild Answer.NoMemory after s = ⊤
IsAfterRebuild answer after s = ⊥

rebuild_answer : (g : Shape) (stripe server : ℕ) (s : State) (numbers : List ℕ) → IsAfterRebuild (rebuild g stripe server s numbers).1 (rebuild g stripe server s numbers).0 s
rebuild_answer g stripe server s numbers = by (nat_lt stripe (length numbers))
  where
    beyond : (chunks : Stripe) (n : ℕ) (b : Bool) → (let r : State × Answer = if b then (s, Answer.Unavailable stripe (named g s.epochs chunks chunks (server ∷ []))) else (place_anew n server s, Answer.Rebuilt) in IsAfterRebuild r.1 r.0 s)
    beyond chunks n true = refl
    beyond chunks n false = tt

    one : (chunks : Stripe) (n : ℕ) (b : Bool) →
        (let r : State × Answer = if b then (s, Answer.Here) else (if is_beyond_repair g chunks then (s, Answer.Unavailable stripe (named g s.epochs chunks chunks (server ∷ []))) else (place_anew n server s, Answer.Rebuilt)) in IsAfterRebuild r.1 r.0 s)
    one chunks n true = tt
    one chunks n false = beyond chunks n (is_beyond_repair g chunks)

    by : (b : Bool) → (let r : State × Answer = if b then rebuild_one g stripe server s (get_or numbers stripe 0) (get_or s.stripes (get_or numbers stripe 0) []) else (s, Answer.Replied reply.NoSuch) in IsAfterRebuild r.1 r.0 s)
    by true = one (get_or s.stripes (get_or numbers stripe 0) []) (get_or numbers stripe 0) (holds (get_or s.stripes (get_or numbers stripe 0) []) server)
    by false = tt

rebuild_says : (a : Answer) (after s : State) → IsAfterRebuild a after s → Says reply.NoSuch (after ≡ s) (rebuilt_as a) a
rebuild_says Answer.Rebuilt after s its = refl
rebuild_says Answer.Here after s its = refl
rebuild_says (Answer.Replied reply.NoSuch) after s its = refl
rebuild_says (Answer.Replied other) after s its = absurd its
rebuild_says (Answer.Unavailable stripe missing) after s its = (its, ap (λ l. Answer.Unavailable stripe l) (sym (back_as missing)))
rebuild_says Answer.NoMemory after s its = refl
rebuild_says other after s its = absurd its

-- ---- the answer is what the outcome says, or memory was wanting for it and the state is left
answers_so : (outcome : RepairOutcome) (left : Type 0) (a answer : Answer) → Says reply.NoSuch left (repair_outcome_of outcome) a → AnswersRebuild outcome answer → (answer ≡ a) ⊎ ((answer ≡ Answer.NoMemory) × left)
answers_so repair.Rebuilt left a answer says answers = inl (answers ∙ sym says)
answers_so repair.Here left a answer says answers = inl (answers ∙ sym says)
answers_so repair.NoSuch left a answer says answers = inl (answers ∙ sym says)
answers_so (repair.Unavailable stripe missing) left a answer says answers = unless_wanting stripe missing.items left a answer says answers
answers_so repair.NoMemory left a answer says answers = inl (answers ∙ sym says)
answers_so outcome left a answer says answers = absurd answers

-- ---- so the answer is the session's
module _ (g : Shape) (max : ℕ) (s : State) (name : List ℕ) (stripe server : ℕ) (served : State × Answer) (allowed : IsServed g max (Request.Rebuild name stripe server) s served) (outcome : RepairOutcome) (told : repair_outcome_of outcome ≡ rebuilt_as served.1) where
  is_after : IsAfterRebuild served.1 served.0 s
  is_after = by allowed
    where
      by : IsServed g max (Request.Rebuild name stripe server) s served → IsAfterRebuild served.1 served.0 s
      by (inl e) = subst (λ (r : State × Answer). IsAfterRebuild r.1 r.0 s) (sym e) (rebuild_answer g stripe server s (numbers_of name s.numbers))
      by (inr (none, same)) = subst (λ a. IsAfterRebuild a served.0 s) (sym none) tt

  pub rebuild_served : (answer : Answer) → AnswersRebuild outcome answer → IsServed g max (Request.Rebuild name stripe server) s (served.0, answer)
  rebuild_served answer answers =
      by (answers_so outcome (served.0 ≡ s) served.1 answer (subst (λ o. Says reply.NoSuch (served.0 ≡ s) o served.1) (sym told) (rebuild_says served.1 served.0 s is_after)) answers)
    where
      by : (answer ≡ served.1) ⊎ ((answer ≡ Answer.NoMemory) × (served.0 ≡ s)) → IsServed g max (Request.Rebuild name stripe server) s (served.0, answer)
      by (inl is) = subst (λ a. IsServed g max (Request.Rebuild name stripe server) s (served.0, a)) (sym is) allowed
      by (inr wanting) = inr wanting

  -- and its end is one of a rebuild
  pub ends_rebuild : EndsRebuild (repair_outcome_of outcome)
  ends_rebuild = subst EndsRebuild (sym told) (by served.1)
    where
      by : (a : Answer) → EndsRebuild (rebuilt_as a)
      by (Answer.Replied reply.NoSuch) = tt
      by (Answer.Replied other) = tt
      by other = tt
