-- The answer to a call that ended so is the session's.
use Rattle.std.proofs.Common.{◌≡◌, ◌⊎◌, ℕ, Bool, true, false, List, [], ◌∷◌, length, map, find, Option, None, Some, option_map, unwrap_or, Vec, refl, sym, ap, subst, ◌∙◌, inl, inr}
use Rattle.std.specs.Global.{Global}
use Rattle.clay_grid.specs.Shape.{Shape}
use Rattle.store_map.specs.PlainMap.{apply, bytes_of}
use Rattle.store_map.specs.declared.actor.Point.{Point}
use Rattle.store_map.specs.declared.call.Call.{Call}
use Rattle.store_map.specs.declared.placement.LostChunk.{LostChunk}
use Rattle.store_map.specs.declared.reply.Reply.{Reply}
use Rattle.store_map.specs.declared.reply.Reply.TheVariants as reply
use Rattle.store_core.specs.Act.{Outcome}
use Rattle.store_core.specs.Told.{Lost, lost_in}
use Rattle.session_rules.specs.State.{State, numbers_of}
use Rattle.session_rules.specs.Gathered.{Range, is_unavailable, unavailable}
use Rattle.session_rules.specs.Calls.{name_in, gathered_by, is_refusal, unless_unavailable, serve_by, serve_call}
use Rattle.session_rules.specs.Placing.{after_call}
use Rattle.session_rules.specs.Shortages.{IsServed}
use Rattle.session_rules.specs.declared.session_answer.Answer.{Answer}
use Rattle.session_rules.specs.declared.session_answer.Missing.{Missing}
use Rattle.session_rules.specs.declared.request.Request.{Request}
use Rattle.session_rules.specs.Outcomes.{lost_as, outcome_at}
use Rattle.call_machine.specs.Ends.{IsEndOf}
use Rattle.call_machine.specs.Kinds.{client_machine}
use Rattle.call_steps.specs.Outcomes.{outcome_of}
use Rattle.call_steps.specs.declared.outcome.CallOutcome.{CallOutcome}
use Rattle.call_steps.specs.declared.outcome.CallOutcome.TheVariants as ended
use Rattle.call_steps.specs.declared.outcomes.Outcome.{Outcome as ClientOutcome}
use Rattle.call_steps.specs.declared.outcomes.Outcome.TheVariants as client
use Rattle.store_map.specs.declared.call.Call.TheVariants as call
use Rattle.session_store.specs.Answers.{placed_epoch, found_epoch, missing_in, AnswersCall}
use Rattle.session_store.specs.Ends.{EndsCall, IsOfClient}

-- ---- a client's call ends as one
pub ends_as_client : (written : Call) (outcome : CallOutcome) → IsEndOf (client_machine written) outcome → IsOfClient outcome
ends_as_client written (ended.Client outcome) its = tt
ends_as_client (call.Put name content) (ended.Rebuild outcome) its = its
ends_as_client (call.Write name offset content) (ended.Rebuild outcome) its = its
ends_as_client (call.Get name) (ended.Rebuild outcome) its = its
ends_as_client (call.ReadAt name offset count) (ended.Rebuild outcome) its = its
ends_as_client (call.Stat name) (ended.Rebuild outcome) its = its
ends_as_client (call.Delete name) (ended.Rebuild outcome) its = its

-- ---- servers without their chunks
abbrev pub back : Lost → Missing
back lost = record { server = lost.server; placed = placed_epoch lost.placed; found = found_epoch lost.found }

pub back_in : (lost : List LostChunk) → map back (map lost_in lost) ≡ map missing_in lost
back_in [] = refl
back_in (one ∷ lost) = ap (λ l. missing_in one ∷ l) (back_in lost)

pub back_as : (missing : List Missing) → map back (map lost_as missing) ≡ missing
back_as [] = refl
back_as (one ∷ missing) = ap (λ l. one ∷ l) (back_as missing)

-- ---- what an outcome says: the answer, by the map's reply, and what it leaves where bytes are unavailable
abbrev pub Says : Reply → Type 0 → Outcome → Answer → Type 0
Says r left (Outcome.Answered point answer) a = a ≡ Answer.Replied answer
Says r left (Outcome.Served point) a = (given : List ℕ) × (r ≡ reply.Bytes given) × (a ≡ Answer.Replied (reply.Bytes given))
Says r left (Outcome.Unavailable stripe missing) a = left × (a ≡ Answer.Unavailable stripe (map back missing))
Says r left Outcome.Rebuilt a = a ≡ Answer.Rebuilt
Says r left Outcome.Here a = a ≡ Answer.Here
Says r left Outcome.NoSuch a = a ≡ Answer.Replied reply.NoSuch
Says r left other a = a ≡ Answer.NoMemory

-- the answer is that, or memory was wanting for it and the state is left
pub unless_wanting : (stripe : ℕ) (lost : List LostChunk) (left : Type 0) (a answer : Answer) → left × (a ≡ Answer.Unavailable stripe (map back (map lost_in lost))) →
    (answer ≡ Answer.NoMemory) ⊎ (answer ≡ Answer.Unavailable stripe (map missing_in lost)) → (answer ≡ a) ⊎ ((answer ≡ Answer.NoMemory) × left)
unless_wanting stripe lost left a answer says (inl none) = inr (none, says.0)
unless_wanting stripe lost left a answer says (inr is) = inl (is ∙ ap (λ l. Answer.Unavailable stripe l) (sym (back_in lost)) ∙ sym says.1)

answers_so : (outcome : ClientOutcome) (r : Reply) (left : Type 0) (a answer : Answer) → Says r left (outcome_of outcome) a → AnswersCall outcome answer →
    ((p : Point) (bytes : Vec ℕ Global) (given : List ℕ) → outcome ≡ client.Served p bytes → r ≡ reply.Bytes given → given ≡ bytes.items) → (answer ≡ a) ⊎ ((answer ≡ Answer.NoMemory) × left)
answers_so (client.Answered p answered) r left a answer says answers same = inl (answers ∙ sym says)
answers_so (client.Served p bytes) r left a answer says answers same = inl (answers ∙ ap (λ b. Answer.Replied (reply.Bytes b)) (sym (same p bytes says.0 refl says.1)) ∙ sym says.2)
answers_so (client.Unavailable stripe missing) r left a answer says answers same = unless_wanting stripe missing.items left a answer says answers
answers_so client.NoMemory r left a answer says answers same = inl (answers ∙ sym says)
answers_so outcome r left a answer says answers same = absurd answers

-- ---- a call of the map is replied, or its bytes are unavailable, or memory was wanting
abbrev pub IsOfCall : Reply → Answer → State → State → Type 0
IsOfCall r (Answer.Replied answer) after s = answer ≡ r
IsOfCall r (Answer.Unavailable stripe missing) after s = after ≡ s
IsOfCall r Answer.NoMemory after s = after ≡ s
IsOfCall r answer after s = ⊥

call_answer : (g : Shape) (max : ℕ) (s : State) (c : Call) → IsOfCall (apply max c s.objects).1 (serve_call g max c s).1 (serve_call g max c s).0 s
call_answer g max s c = by (is_refusal (apply max c s.objects).1)
  where
    unless : (found : Option Range) →
        (let served : State × Answer = unless_unavailable (option_map (unavailable g s s.stripes (numbers_of (name_in c) s.numbers)) found) s (after_call g c (apply max c s.objects).0 s, Answer.Replied (apply max c s.objects).1) in
        IsOfCall (apply max c s.objects).1 served.1 served.0 s)
    unless None = refl
    unless (Some range) = refl

    by : (b : Bool) → IsOfCall (apply max c s.objects).1 (serve_by b g c s (apply max c s.objects)).1 (serve_by b g c s (apply max c s.objects)).0 s
    by true = refl
    by false = unless (find (is_unavailable g s s.stripes (numbers_of (name_in c) s.numbers)) (gathered_by g c (length (unwrap_or (bytes_of (name_in c) s.objects) []))))

call_says : (point : ℕ) (r : Reply) (a : Answer) (after s : State) → IsOfCall r a after s → Says r (after ≡ s) (outcome_at point a) a
call_says point r (Answer.Replied (reply.Bytes given)) after s its = (given, sym its, refl)
call_says point r (Answer.Replied other) after s its = refl
call_says point r (Answer.Unavailable stripe missing) after s its = (its, ap (λ l. Answer.Unavailable stripe l) (sym (back_as missing)))
call_says point r Answer.NoMemory after s its = refl
call_says point r other after s its = absurd its

-- ---- so the answer is the session's, or memory was wanting for it and the state is left
module _ (g : Shape) (max : ℕ) (s : State) (c : Call) (served : State × Answer) (allowed : IsServed g max (Request.OfMap c) s served) (outcome : ClientOutcome) (point : ℕ) (told : outcome_of outcome ≡ outcome_at point served.1) where
  is_of_call : IsOfCall (apply max c s.objects).1 served.1 served.0 s
  is_of_call = by allowed
    where
      by : IsServed g max (Request.OfMap c) s served → IsOfCall (apply max c s.objects).1 served.1 served.0 s
      by (inl e) = subst (λ (r : State × Answer). IsOfCall (apply max c s.objects).1 r.1 r.0 s) (sym e) (call_answer g max s c)
      by (inr (none, same)) = subst (λ a. IsOfCall (apply max c s.objects).1 a served.0 s) (sym none) same

  pub call_served : (answer : Answer) → AnswersCall outcome answer →
      ((p : Point) (bytes : Vec ℕ Global) (given : List ℕ) → outcome ≡ client.Served p bytes → (apply max c s.objects).1 ≡ reply.Bytes given → given ≡ bytes.items) →
      IsServed g max (Request.OfMap c) s (served.0, answer)
  call_served answer answers same =
      by (answers_so outcome (apply max c s.objects).1 (served.0 ≡ s) served.1 answer
      (subst (λ o. Says (apply max c s.objects).1 (served.0 ≡ s) o served.1) (sym told) (call_says point (apply max c s.objects).1 served.1 served.0 s is_of_call)) answers same)
    where
      by : (answer ≡ served.1) ⊎ ((answer ≡ Answer.NoMemory) × (served.0 ≡ s)) → IsServed g max (Request.OfMap c) s (served.0, answer)
      by (inl is) = subst (λ a. IsServed g max (Request.OfMap c) s (served.0, a)) (sym is) allowed
      by (inr wanting) = inr wanting

  -- and its end is one of a call
  pub ends_call : EndsCall (outcome_of outcome)
  ends_call = subst EndsCall (sym told) (by served.1)
    where
      by : (a : Answer) → EndsCall (outcome_at point a)
      by (Answer.Replied (reply.Bytes given)) = tt
      by (Answer.Replied other) = tt
      by (Answer.Unavailable stripe missing) = tt
      by other = tt
