-- The lines of a history are of calls of the script, with rising points and each client's calls in their order.
use Rattle.std.proofs.Common.{◌≡◌, ◌≢◌, ℕ, zero, suc, ◌+◌, ◌<◌, ◌≤◌, Bool, true, false, cond, nat_eq, find, IfSome, List, [], ◌∷◌, ◌++◌, length, get_or, Option, None, Some, All, AllPairs, IsTrue, inl, inr, refl, sym, subst, arith}
use Rattle.std.proofs.lemmas.Option.{none-some, same_Some}
use Rattle.std.proofs.lemmas.List.Elements.{All-nil, All-cons, All-head, All-tail, All-append, All-weaker}
use Rattle.std.proofs.lemmas.Bool.{eqb-true, eq-eqb}
use Rattle.std.proofs.lemmas.List.Kept.{AllPairs-cons}
use Rattle.std.specs.List.{slice_get}
use Rattle.store_map.specs.Limits.{size_of}
use Rattle.store_map.specs.PlainMap.{Objects}
use Rattle.store_map.specs.declared.actor.Actor.TheVariants as actor
use Rattle.store_map.specs.declared.reply.Reply.{Reply}
use Rattle.store_map.specs.declared.actor.Token.{Token}
use Rattle.store_map.specs.declared.script.ClientPart.{ClientPart}
use Rattle.store_map.specs.declared.script.Script.{Script}
use Rattle.store_map.specs.declared.call_name.ClientCall.{ClientCall}
use Rattle.store_map.specs.declared.call_name.CallName.TheVariants as name
use Rattle.store_map.specs.declared.shown.Shown.{Shown}
use Rattle.store_map.specs.declared.line.HLine.{HLine}
use Rattle.store_core.specs.Core.{Core}
use Rattle.store_core.specs.Directory.{Event, Point}
use Rattle.store_core.specs.History.{call_of, answered_in, applied, shown_at, client_call, line_of, history_from, history_of}
use Rattle.store_core.specs.Lookups.{same_actor}
use Rattle.store_core.specs.Schedule.{run_core}
use Rattle.store_core.specs.Step.{Shortage}
use Rattle.store_core.specs.Sound.{AreInOrder}
use Rattle.run_laws.proofs.Runs.{CanRun}
use Rattle.run_laws.proofs.RunsSound.{RunKeeps}
use Rattle.run_laws.proofs.SoundLists.{at_all}
use Rattle.hist_rules.specs.CallOrder.{IsLater}
use Rattle.hist_rules.specs.First.{AllAfter, AllAlong}
use Rattle.history_laws.proofs.Naming.{IsCall, found_below, named_client}
use Rattle.history_laws.proofs.Induction.{run_has}
use Rattle.history_laws.proofs.OrderLists.{after_pairs, none_before}
use Rattle.history_laws.proofs.Points.{IsOfScript}
use Rattle.history_laws.proofs.PointsOfCalls.{PointsOfScript, points_kept, no_points}

-- ---- each line is of a point
-- that is no reap
record OfPoint (place : ℕ) (points : List Point) (line : HLine) : Type 0 where
  at : ℕ
  point : Point
  found : slice_get points at ≡ Some point
  is_place : line.point ≡ place + at
  named : client_call point.actor point.number ≡ Some line.call
  unreaped : point.event ≢ Event.Reaped

shows : (event : Event) (answered : Bool) (mapped : Reply) (says : Shown) → shown_at event answered mapped ≡ Some says → event ≢ Event.Reaped
shows event answered mapped says e is = none-some says (subst (λ m. shown_at m answered mapped ≡ Some says) is e)

line_lines : (place : ℕ) (point : Point) (points : List Point) (answered : Bool) (mapped : Reply) (nm : Option ClientCall) (says : Option Shown) → client_call point.actor point.number ≡ nm → shown_at point.event answered mapped ≡ says
    → All (OfPoint place (point ∷ points)) (line_of place nm says)
line_lines place point points answered mapped None says e k = All-nil (OfPoint place (point ∷ points))
line_lines place point points answered mapped (Some call) None e k = All-nil (OfPoint place (point ∷ points))
line_lines place point points answered mapped (Some call) (Some says) e k =
    All-cons (OfPoint place (point ∷ points)) (record { point = place; call = call; reply = says }) []
    (record { at = 0; point = point; found = refl; is_place = (let none : place ≡ place + 0 = omega arith in none); named = e; unreaped = shows point.event answered mapped says k })
    (All-nil (OfPoint place (point ∷ points)))

later_line : (place : ℕ) (point : Point) (points : List Point) (line : HLine) → OfPoint (place + 1) points line → OfPoint place (point ∷ points) line
later_line place point points line of =
    record { at = suc of.at; point = of.point; found = of.found; is_place = (let e : line.point ≡ place + 1 + of.at = of.is_place in omega (arith, e)); named = of.named; unreaped = of.unreaped }

module _ (script : Script) (core : Core) where
  abbrev from : ℕ → Objects → List Point → List HLine
  from place objects points = history_from (size_of script) (call_of script) (answered_in core) place objects points

  all_of_points : (place : ℕ) (objects : Objects) (points : List Point) → All (OfPoint place points) (from place objects points)
  all_of_points place objects [] = All-nil (OfPoint place [])
  all_of_points place objects (point ∷ points) =
      let after : Objects × Reply = applied (size_of script) objects point.event (call_of script point.actor point.number) in
      let answered : Bool = answered_in core point.actor point.number in
      All-append (OfPoint place (point ∷ points)) (line_of place (client_call point.actor point.number) (shown_at point.event answered after.1)) (from (place + 1) after.0 points)
      (line_lines place point points answered after.1 (client_call point.actor point.number) (shown_at point.event answered after.1) refl refl)
      (All-weaker (OfPoint (place + 1) points) (OfPoint place (point ∷ points)) (λ line of. later_line place point points line of) (from (place + 1) after.0 points) (all_of_points (place + 1) after.0 points))

  -- ---- points rise
  abbrev Rises : HLine → HLine → Type 0
  Rises line later = line.point < later.point

  before_rest : (place : ℕ) (nm : Option ClientCall) (says : Option Shown) (points : List Point) (rest : List HLine) → All (OfPoint (place + 1) points) rest → AllPairs Rises rest → AllPairs Rises (line_of place nm says ++ rest)
  before_rest place None says points rest of rises = rises
  before_rest place (Some call) None points rest of rises = rises
  before_rest place (Some call) (Some says) points rest of rises =
      AllPairs-cons Rises (record { point = place; call = call; reply = says }) rest
      (All-weaker (OfPoint (place + 1) points) (Rises (record { point = place; call = call; reply = says })) (λ line is. let e : line.point ≡ place + 1 + is.at = is.is_place in omega (arith, e)) rest of) rises

  none_rise : AllPairs Rises []
  none_rise i j d less inside = absurd (omega (arith, inside))

  all_rise : (place : ℕ) (objects : Objects) (points : List Point) → AllPairs Rises (from place objects points)
  all_rise place objects [] = none_rise
  all_rise place objects (point ∷ points) =
      let after : Objects × Reply = applied (size_of script) objects point.event (call_of script point.actor point.number) in
      before_rest place (client_call point.actor point.number) (shown_at point.event (answered_in core point.actor point.number) after.1) points (from (place + 1) after.0 points)
      (all_of_points (place + 1) after.0 points) (all_rise (place + 1) after.0 points)

-- ---- calls
-- of two points of a list
element : {X : Type 0} (xs : List X) (i : ℕ) (d x : X) → slice_get xs i ≡ Some x → get_or xs i d ≡ x
element [] i d x e = absurd (none-some x e)
element (y ∷ xs) zero d x e = same_Some y x e
element (y ∷ xs) (suc i) d x e = element xs i d x e

within : {X : Type 0} (xs : List X) (i : ℕ) (x : X) → slice_get xs i ≡ Some x → i < length xs
within [] i x e = absurd (none-some x e)
within (y ∷ xs) zero x e = omega arith
within (y ∷ xs) (suc i) x e = let h : i < length xs = within xs i x e in omega (arith, h)

pair_at : {X : Type 0} (R : X → X → Type 0) (xs : List X) (i j : ℕ) (x y : X) → AllPairs R xs → i < j → slice_get xs i ≡ Some x → slice_get xs j ≡ Some y → R x y
pair_at R xs i j x y pairs less e k =
    subst (λ a. R a y) (element xs i x x e) (subst (R (get_or xs i x)) (element xs j x y k) (pairs i j x less (within xs j y k)))

-- of two lines of one caller the later one has the greater number
abbrev pub NumberRises : ClientCall → ClientCall → Type 0
NumberRises call later = nat_eq later.client call.client ≡ true → call.number < later.number

turned : (i j : ℕ) → nat_eq j i ≡ true → nat_eq i j ≡ true
turned i j e = eq-eqb i j (sym (eqb-true j i e))

in_order : (p q : Point) (call later : ClientCall) → AreInOrder p q → p.event ≢ Event.Reaped → q.event ≢ Event.Reaped → client_call p.actor p.number ≡ Some call → client_call q.actor q.number ≡ Some later → NumberRises call later
in_order p q call later order unreaped later_unreaped e k same =
    let first : (p.actor ≡ actor.Client call.client) × (p.number ≡ call.number) = named_client p.actor p.number call e in
    let second : (q.actor ≡ actor.Client later.client) × (q.number ≡ later.number) = named_client q.actor q.number later k in
    let one : IsTrue (same_actor p.actor q.actor) =
    subst (λ a. IsTrue (same_actor a q.actor)) (sym first.0) (subst (λ a. IsTrue (same_actor (actor.Client call.client) a)) (sym second.0) (turned call.client later.client same)) in
    let low : p.number ≤ q.number = order.numbers one in
    let differ : p.number ≢ q.number = λ is. later_unreaped (order.once one is unreaped) in
    omega (arith, low, differ, first.1, second.1)

-- a line that is of a point of the script is of a call of it
is_call : (script : Script) (point : Point) (call : ClientCall) → IsOfScript script point → point.event ≢ Event.Reaped → client_call point.actor point.number ≡ Some call → IsCall script (name.Client call)
is_call script point call (inl reaped) unreaped e = absurd (unreaped reaped)
is_call script point call (inr of) unreaped e =
    let named : (point.actor ≡ actor.Client call.client) × (point.number ≡ call.number) = named_client point.actor point.number call e in
    found_below (λ (p : ClientPart). p.calls) (slice_get script.clients call.client) call.number of.call
    (subst (λ n. call_of script (actor.Client call.client) n ≡ Some of.call) named.1 (subst (λ a. call_of script a point.number ≡ Some of.call) named.0 of.is_call))

-- the lines of a history are in order
pub record LinesInOrder (script : Script) (lines : List HLine) : Type 0 where
  pub calls : All (λ (line : HLine). IsCall script (name.Client line.call)) lines
  pub points : AllPairs (λ (line later : HLine). line.point < later.point) lines
  pub numbers : AllPairs (λ (line later : HLine). NumberRises line.call later.call) lines

pub lines_in_order : (script : Script) (can : CanRun script) (shortages : List Shortage) (tokens : List Token) → LinesInOrder script (history_of script (run_core script shortages tokens))
lines_in_order script can shortages tokens =
    let core : Core = run_core script shortages tokens in
    let end : RunKeeps script core × PointsOfScript script tokens core = run_has script can (PointsOfScript script) (points_kept script can) shortages (no_points script can) tokens in
    let points : List Point = core.directory.points in
    let lines : List HLine = history_of script core in
    let of : All (OfPoint 0 points) lines = all_of_points script core 0 [] points in
    let rise : AllPairs (Rises script core) lines = all_rise script core 0 [] points in
    record {
      calls = All-weaker (OfPoint 0 points) (λ (line : HLine). IsCall script (name.Client line.call)) (λ line is. is_call script is.point line.call (at_all (IsOfScript script) points is.at is.point end.1 is.found) is.unreaped is.named) lines of;
      points = rise;
      numbers = λ i j d less inside.
          let one : OfPoint 0 points (get_or lines i d) = of i d (omega (arith, less, inside)) in
          let two : OfPoint 0 points (get_or lines j d) = of j d inside in
          let up : (get_or lines i d).point < (get_or lines j d).point = rise i j d less inside in
          let a : (get_or lines i d).point ≡ 0 + one.at = one.is_place in
          let b : (get_or lines j d).point ≡ 0 + two.at = two.is_place in
          in_order one.point two.point (get_or lines i d).call (get_or lines j d).call (pair_at AreInOrder points one.at two.at one.point two.point end.0.sound.points (omega (arith, up, a, b)) one.found two.found) one.unreaped two.unreaped one.named two.named;
    }

-- ---- from any two lines to each line and those before it
find_all : {X : Type 0} (p : X → Bool) (Q : X → Type 0) (xs : List X) → All (λ x. p x ≡ true → Q x) xs → IfSome (find p xs) Q
find_all p Q [] h = tt
find_all {X = X} p Q (x ∷ xs) h = by (find_all p Q xs (All-tail (λ y. p y ≡ true → Q y) x xs h)) (p x) refl
  where
    by : IfSome (find p xs) Q → (b : Bool) → p x ≡ b → IfSome (cond {A = Option X} b (Some x) (find p xs)) Q
    by rest true e = All-head (λ y. p y ≡ true → Q y) x xs h e
    by rest false e = rest

first_all : {X : Type 0} (Q : X → Type 0) (xs : List X) → All Q xs → IfSome (slice_get xs 0) Q
first_all Q [] h = tt
first_all Q (x ∷ xs) h = All-head Q x xs h

rising : (before lines : List HLine) → AllAfter (λ others line. All (λ (other : HLine). other.point < line.point) others) before lines
    → AllAfter (λ others line. All (λ (other : HLine). NumberRises other.call line.call) others) before lines → AllAfter IsLater before lines
rising before [] points numbers = tt
rising before (line ∷ lines) points numbers = (
  record {
    point = first_all (λ (other : HLine). other.point < line.point) before points.0;
    number = find_all (λ (other : HLine). nat_eq line.call.client other.call.client) (λ (other : HLine). other.call.number < line.call.number) before numbers.0;
  },
  rising (line ∷ before) lines points.1 numbers.1,
)

-- the history of a run is in order
pub lines_rise : (script : Script) (can : CanRun script) (shortages : List Shortage) (tokens : List Token) → AllAlong IsLater (history_of script (run_core script shortages tokens))
lines_rise script can shortages tokens =
    let lines : List HLine = history_of script (run_core script shortages tokens) in
    let in_order : LinesInOrder script lines = lines_in_order script can shortages tokens in
    rising [] lines
    (after_pairs (λ (line later : HLine). line.point < later.point) [] lines (none_before (λ (line later : HLine). line.point < later.point) lines) in_order.points)
    (after_pairs (λ (line later : HLine). NumberRises line.call later.call) [] lines (none_before (λ (line later : HLine). NumberRises line.call later.call) lines) in_order.numbers)
