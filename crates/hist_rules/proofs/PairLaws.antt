-- What holds of any two lines of a history.
use Rattle.std.proofs.Common.{◌≡◌, ◌≢◌, ℕ, zero, suc, ◌<◌, ◌≤◌, Bool, true, false, cond, nat_eq, List, [], ◌∷◌, get_or, slice_get, Option, None, Some, find, IfSome, All, refl, sym, ◌∙◌, true≢false, arith}
use Rattle.std.specs.Bool.{⊤}
use Rattle.std.specs.List.{AllPairs}
use Rattle.std.proofs.lemmas.Bool.{eqb-true, eq-eqb}
use Rattle.std.proofs.lemmas.List.{get_or_default}
use Rattle.std.proofs.lemmas.List.Elements.{All-nil, All-cons, All-head, All-tail}
use Rattle.store_map.specs.declared.script.Script.{Script}
use Rattle.store_map.specs.declared.call_name.CallName.{CallName}
use Rattle.store_map.specs.declared.line.HLine.{HLine}
use Rattle.store_map.specs.declared.transcript.Transcript.{Transcript}
use Rattle.hist_rules.specs.First.{AllAfter}
use Rattle.hist_rules.specs.Calls.{same_actor}
use Rattle.hist_rules.specs.Named.{answered_calls}
use Rattle.hist_rules.specs.OneOpenCall.{unanswered_calls}
use Rattle.hist_rules.specs.CallOrder.{IsLater, IsInOrder, IsNext, KeepsCallOrder}
use Rattle.hist_rules.specs.PairLaws.{OrdersPairs}

-- ---- from each line and those before it to any two
pairs_cons : {X : Type 0} (R : X → X → Type 0) (x : X) (xs : List X) → All (R x) xs → AllPairs R xs → AllPairs R (x ∷ xs)
pairs_cons R x xs first rest zero zero d below within = absurd (omega (arith, below))
pairs_cons R x xs first rest zero (suc j) d below within = first j d (omega (arith, within))
pairs_cons R x xs first rest (suc i) zero d below within = absurd (omega (arith, below))
pairs_cons R x xs first rest (suc i) (suc j) d below within = rest i j d (omega (arith, below)) (omega (arith, within))

pairs_nil : {X : Type 0} (R : X → X → Type 0) → AllPairs R []
pairs_nil R i j d below within = absurd (omega (arith, within))

-- R holds between each line and every one before it
abbrev Behind : {X : Type 0} → (X → X → Type 0) → List X → X → Type 0
Behind R before x = All (λ other. R other x) before

behind_pairs : {X : Type 0} (R : X → X → Type 0) (before xs : List X) → AllAfter (Behind R) before xs → All (Behind R before) xs × AllPairs R xs
behind_pairs R before [] h = (All-nil (Behind R before), pairs_nil R)
behind_pairs R before (x ∷ xs) h = by (behind_pairs R (x ∷ before) xs h.1)
  where
    by : All (Behind R (x ∷ before)) xs × AllPairs R xs → All (Behind R before) (x ∷ xs) × AllPairs R (x ∷ xs)
    by rest = (
      All-cons (Behind R before) x xs h.0 (λ k d l. All-tail (λ other. R other (get_or xs k d)) x before (rest.0 k d l)),
      pairs_cons R x xs (λ k d l. All-head (λ other. R other (get_or xs k d)) x before (rest.0 k d l)) rest.1,
    )

after_map : {X : Type 0} (P Q : List X → X → Type 0) → ((before : List X) (x : X) → P before x → Q before x) → (before xs : List X) → AllAfter P before xs → AllAfter Q before xs
after_map P Q there before [] h = tt
after_map P Q there before (x ∷ xs) h = (there before x h.0, after_map P Q there (x ∷ before) xs h.1)

-- ---- points
abbrev PointBelow : HLine → HLine → Type 0
PointBelow one other = one.point < other.point

-- the nearest line is above all the others
abbrev Falls : List HLine → Type 0
Falls [] = ⊤
Falls (line ∷ before) = Behind PointBelow before line

points_behind : (before : List HLine) (line : HLine) → Falls before → IfSome (slice_get before 0) (λ other. other.point < line.point) → Behind PointBelow before line
points_behind [] line falls h = All-nil (λ other. PointBelow other line)
points_behind (other ∷ before) line falls h = All-cons (λ other. PointBelow other line) other before h (λ k d l. omega (arith, h, falls k d l))

points_after : (before lines : List HLine) → Falls before → AllAfter IsLater before lines → AllAfter (Behind PointBelow) before lines
points_after before [] falls h = tt
points_after before (line ∷ lines) falls h =
    (points_behind before line falls h.0.point, points_after (line ∷ before) lines (points_behind before line falls h.0.point) h.1)

-- ---- numbers
abbrev NumberBelow : HLine → HLine → Type 0
NumberBelow one other = other.call.client ≡ one.call.client → one.call.number < other.call.number

-- the line that is found has the greatest number of its actor
abbrev Bounds : ℕ → List HLine → Option HLine → Type 0
Bounds client before None = All (λ other. client ≢ other.call.client) before
Bounds client before (Some found) = All (λ other. client ≡ other.call.client → other.call.number ≤ found.call.number) before

abbrev found_in : ℕ → List HLine → Option HLine
found_in client before = find (λ other. nat_eq client other.call.client) before

abbrev Greatest : List HLine → Type 0
Greatest before = (client : ℕ) → Bounds client before (found_in client before)

numbers_behind : (before : List HLine) (line : HLine) → Greatest before → IfSome (found_in line.call.client before) (λ other. other.call.number < line.call.number) → Behind NumberBelow before line
numbers_behind before line greatest h = by (found_in line.call.client before) (greatest line.call.client) h
  where
    by : (found : Option HLine) → Bounds line.call.client before found → IfSome found (λ other. other.call.number < line.call.number) → Behind NumberBelow before line
    by None bound less = λ k d l same. absurd (bound k d l same)
    by (Some found) bound less = λ k d l same. omega (arith, bound k d l same, less)

greatest_cons : (before : List HLine) (line : HLine) → Greatest before → Behind NumberBelow before line → Greatest (line ∷ before)
greatest_cons before line greatest behind client = by (nat_eq client line.call.client) refl
  where
    other_by : (found : Option HLine) → client ≢ line.call.client → Bounds client before found → Bounds client (line ∷ before) found
    other_by None e bound = All-cons (λ other. client ≢ other.call.client) line before e bound
    other_by (Some found) e bound =
        All-cons (λ other. client ≡ other.call.client → other.call.number ≤ found.call.number) line before (λ same. absurd (e same)) bound

    by : (b : Bool) → nat_eq client line.call.client ≡ b → Bounds client (line ∷ before) (cond {A = Option HLine} b (Some line) (found_in client before))
    by true e =
        All-cons (λ other. client ≡ other.call.client → other.call.number ≤ line.call.number) line before (λ _. omega arith)
        (λ k d l same. omega (arith, behind k d l (sym (eqb-true client line.call.client e) ∙ same)))
    by false e = other_by (found_in client before) (λ same. true≢false (sym (eq-eqb client line.call.client same) ∙ e)) (greatest client)

numbers_after : (before lines : List HLine) → Greatest before → AllAfter IsLater before lines → AllAfter (Behind NumberBelow) before lines
numbers_after before [] greatest h = tt
numbers_after before (line ∷ lines) greatest h = (
  numbers_behind before line greatest h.0.number,
  numbers_after (line ∷ before) lines (greatest_cons before line greatest (numbers_behind before line greatest h.0.number)) h.1,
)

-- ---- names
new_behind : (answered before : List CallName) (call : CallName) → IsInOrder answered before call → Behind (λ one other. other ≢ one) before call
new_behind answered before call h = λ k d l e. h.once (k, l, get_or_default before k call d l ∙ sym e)

pub orders_pairs : (script : Script) (t : Transcript) → KeepsCallOrder script t → OrdersPairs t
orders_pairs script t keeps =
    record {
      points = (behind_pairs PointBelow [] t.history (points_after [] t.history tt keeps.rising)).1;
      numbers = (behind_pairs NumberBelow [] t.history (numbers_after [] t.history (λ client. All-nil (λ other. client ≢ other.call.client)) keeps.rising)).1;
      once =
          (behind_pairs (λ one other. other ≢ one) [] (answered_calls t)
          (after_map (IsInOrder (answered_calls t)) (Behind (λ one other. other ≢ one)) (new_behind (answered_calls t)) [] (answered_calls t) keeps.answered)).1;
      alone =
          (behind_pairs (λ one other. same_actor other one ≡ false) [] (unanswered_calls t)
          (after_map (IsNext (answered_calls t)) (Behind (λ one other. same_actor other one ≡ false)) (λ before call h. h.alone) [] (unanswered_calls t) keeps.unanswered)).1;
    }
