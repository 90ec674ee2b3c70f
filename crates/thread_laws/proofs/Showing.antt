-- The steps by moments show a threaded run.
use Rattle.std.proofs.Common.{◌≡◌, ℕ, suc, ◌<◌, ◌≤◌, Bool, true, false, cond, nat_lt, List, [], ◌∷◌, length, map, filter, Some, refl, sym, ap, ◌∙◌, ltb-true, ltb-false}
use Rattle.std.proofs.lemmas.List.Elements.{All-nil, All-cons}
use Rattle.std.proofs.lemmas.Option.{none-some, same_Some}
use Rattle.std.specs.Prelude.{All}
use Rattle.std.specs.List.{slice_get}
use Rattle.store_map.specs.declared.script.Script.{Script}
use Rattle.store_map.specs.declared.actor.Actor.{Actor}
use Rattle.store_map.specs.declared.actor.Actor.TheVariants as actor
use Rattle.store_map.specs.declared.actor.Token.{Token}
use Rattle.store_map.specs.declared.actor.Token.TheVariants as token
use Rattle.store_core.specs.Told.{Told}
use Rattle.store_core.specs.Act.{Act, DirectoryStep, ServerStep}
use Rattle.store_core.specs.Step.{Shortage}
use Rattle.store_core.specs.Core.{Core, first_core}
use Rattle.store_core.specs.Schedule.{run_core}
use Rattle.store_core.specs.Shown.{shown}
use Rattle.store_core.specs.ActPlace.{ActPlace}
use Rattle.thread_laws.specs.MadeSteps.{MadeStep, is_by}
use Rattle.thread_laws.specs.AtPlaces.{AllCome, after_all}
use Rattle.thread_laws.specs.Lines.{lines_next, IsNextLine, operator_act, line_of, token_of}
use Rattle.thread_laws.specs.Histories.{Histories, StandTwice, GoOn, IsInOrder}
use Rattle.thread_laws.specs.Merging.{EndAs}
use Rattle.thread_laws.specs.InOrder.{in_order}
use Rattle.thread_laws.specs.Threaded.{is_line, lines_of, IsStepOf, IsThreadedRun, ShowsThreadedRuns}
use Rattle.thread_laws.proofs.Steps.{made_by}
use Rattle.thread_laws.proofs.Orders.{one_self}
use Rattle.thread_laws.proofs.Merged.{merges}
use Rattle.thread_laws.proofs.Sorting.{sorted, no_client, no_repairer}

-- ---- two cores that end as the same lists say are one
same_list : {X : Type 0} (xs ys : List X) → ((j : ℕ) → slice_get xs j ≡ slice_get ys j) → xs ≡ ys
same_list [] [] h = refl
same_list [] (y ∷ ys) h = absurd (none-some y (h 0))
same_list (x ∷ xs) [] h = absurd (none-some x (sym (h 0)))
same_list (x ∷ xs) (y ∷ ys) h =
    let head : x ≡ y = same_Some x y (h 0) in
    let tail : xs ≡ ys = same_list xs ys (λ j. h (suc j)) in
    λ i. head i ∷ tail i

same_core : (script : Script) (core : Core) (at : ActPlace → List MadeStep) (of : Actor → List MadeStep) (one other : Core) → EndAs script core at of one → EndAs script core at of other → one ≡ other
same_core script core at of one other e f =
    let directory : one.directory ≡ other.directory = e.directory ∙ sym f.directory in
    let servers : one.servers ≡ other.servers = same_list one.servers other.servers (λ j. e.servers j ∙ sym (f.servers j)) in
    let clients : one.clients ≡ other.clients = same_list one.clients other.clients (λ j. e.clients j ∙ sym (f.clients j)) in
    let repairers : one.repairers ≡ other.repairers = same_list one.repairers other.repairers (λ j. e.repairers j ∙ sym (f.repairers j)) in
    let sweeper : one.sweeper ≡ other.sweeper = e.sweeper ∙ sym f.sweeper in
    λ i. record { directory = directory i; servers = servers i; clients = clients i; repairers = repairers i; sweeper = sweeper i }

-- ---- the operator's lines
line_is : (act : Act) → is_line (line_of act) ≡ true
line_is (Act.AtServer server ServerStep.Down) = refl
line_is (Act.AtServer server ServerStep.Up) = refl
line_is (Act.AtServer server step) = refl
line_is (Act.AtDirectory step) = by step
  where
    by : (step : DirectoryStep) → is_line (line_of (Act.AtDirectory step)) ≡ true
    by (DirectoryStep.Reap (actor.Client i)) = refl
    by (DirectoryStep.Reap (actor.Repairer i)) = refl
    by (DirectoryStep.Reap actor.Sweeper) = refl
    by (DirectoryStep.Reap actor.Operator) = refl
    by (DirectoryStep.Look note) = refl
    by (DirectoryStep.LookRepair note) = refl
    by DirectoryStep.Draw = refl
    by (DirectoryStep.Commit placed) = refl
    by DirectoryStep.End = refl
    by DirectoryStep.Confirm = refl
    by (DirectoryStep.Repaired server epoch) = refl
    by DirectoryStep.NextGarbage = refl
    by (DirectoryStep.Swept version) = refl
line_is (Act.Finish outcome) = refl

line_again : (line : Token) (act : Act) → operator_act line ≡ Some act → line_of act ≡ line
line_again (token.Wipe server) act e = sym (ap line_of (same_Some _ act e))
line_again (token.Down server) act e = sym (ap line_of (same_Some _ act e))
line_again (token.Up server) act e = sym (ap line_of (same_Some _ act e))
line_again (token.ReapClient i) act e = sym (ap line_of (same_Some _ act e))
line_again (token.ReapRepairer i) act e = sym (ap line_of (same_Some _ act e))
line_again (token.Client i) act e = absurd (none-some act e)
line_again (token.Repairer i) act e = absurd (none-some act e)
line_again token.Sweep act e = absurd (none-some act e)
line_again token.Drain act e = absurd (none-some act e)

all_lines : (steps : List MadeStep) (lines : List Token) → AllCome lines_next IsNextLine steps lines → after_all lines_next steps lines ≡ [] → map (λ (m : MadeStep). line_of m.act) steps ≡ lines
all_lines [] lines h e = sym e
all_lines (m ∷ steps) [] h e = absurd h.0
all_lines (m ∷ steps) (line ∷ lines) h e =
    let head : line_of m.act ≡ line = line_again line m.act h.0.0 in
    let tail : map (λ (x : MadeStep). line_of x.act) steps ≡ lines = all_lines steps lines h.1 e in
    λ i. head i ∷ tail i

kept_lines : (steps : List MadeStep) → filter is_line (map token_of steps) ≡ map (λ (m : MadeStep). line_of m.act) (filter (is_by actor.Operator) steps)
kept_lines [] = refl
kept_lines (m ∷ steps) = by m.actor m.number m.shortage m.answer m.moment m.act (kept_lines steps)
  where
    by : (who : Actor) (number : ℕ) (shortage : Shortage) (answer : Told) (moment : ℕ) (act : Act)
        → filter is_line (map token_of steps) ≡ map (λ (x : MadeStep). line_of x.act) (filter (is_by actor.Operator) steps)
        → filter is_line (map token_of (made_by who number shortage answer moment act ∷ steps)) ≡ map (λ (x : MadeStep). line_of x.act) (filter (is_by actor.Operator) (made_by who number shortage answer moment act ∷ steps))
    by (actor.Client i) number shortage answer moment act rest = rest
    by (actor.Repairer i) number shortage answer moment act rest = rest
    by actor.Sweeper number shortage answer moment act rest = rest
    by actor.Operator number shortage answer moment act rest =
        ap (λ b. cond {A = List Token} b (line_of act ∷ filter is_line (map token_of steps)) (filter is_line (map token_of steps))) (line_is act) ∙ ap (λ l. line_of act ∷ l) rest

-- ---- steps of the script's actors
below : (i n : ℕ) → (n ≤ i → ⊥) → i < n
below i n h = by (nat_lt i n) refl
  where
    by : (b : Bool) → nat_lt i n ≡ b → i < n
    by true e = ltb-true i n e
    by false e = absurd (h (ltb-false i n e))

tail_none : (b : Bool) (m : MadeStep) (ms : List MadeStep) → cond {A = List MadeStep} b (m ∷ ms) ms ≡ [] → ms ≡ []
tail_none true m ms e = absurd (cc (e))
tail_none false m ms e = e

head_none : (who : Actor) (m : MadeStep) (ms : List MadeStep) → who ≡ m.actor → filter (is_by who) (m ∷ ms) ≡ [] → ⊥
head_none who m ms e none =
    let some : filter (is_by who) (m ∷ ms) ≡ m ∷ filter (is_by who) ms =
    ap (λ b. cond {A = List MadeStep} b (m ∷ filter (is_by who) ms) (filter (is_by who) ms)) (ap (λ (a : Actor). Rattle.store_core.specs.Lookups.same_actor who a) (sym e) ∙ one_self who) in
    let no : m ∷ filter (is_by who) ms ≡ [] = sym some ∙ none in absurd (cc (no))

line_steps : (script : Script) (act : Act) → IsStepOf script (line_of act)
line_steps script (Act.AtServer server ServerStep.Down) = tt
line_steps script (Act.AtServer server ServerStep.Up) = tt
line_steps script (Act.AtServer server step) = tt
line_steps script (Act.AtDirectory step) = by step
  where
    by : (step : DirectoryStep) → IsStepOf script (line_of (Act.AtDirectory step))
    by (DirectoryStep.Reap (actor.Client i)) = tt
    by (DirectoryStep.Reap (actor.Repairer i)) = tt
    by (DirectoryStep.Reap actor.Sweeper) = tt
    by (DirectoryStep.Reap actor.Operator) = tt
    by (DirectoryStep.Look note) = tt
    by (DirectoryStep.LookRepair note) = tt
    by DirectoryStep.Draw = tt
    by (DirectoryStep.Commit placed) = tt
    by DirectoryStep.End = tt
    by DirectoryStep.Confirm = tt
    by (DirectoryStep.Repaired server epoch) = tt
    by DirectoryStep.NextGarbage = tt
    by (DirectoryStep.Swept version) = tt
line_steps script (Act.Finish outcome) = tt

all_steps : (script : Script) (steps : List MadeStep) → ((i : ℕ) → length script.clients ≤ i → filter (is_by (actor.Client i)) steps ≡ []) → ((i : ℕ) → length script.repairers ≤ i → filter (is_by (actor.Repairer i)) steps ≡ [])
    → All (IsStepOf script) (map token_of steps)
all_steps script [] c r = All-nil (IsStepOf script)
all_steps script (m ∷ steps) c r =
    All-cons (IsStepOf script) (token_of m) (map token_of steps) (by m.actor m.number m.shortage m.answer m.moment m.act c r)
    (all_steps script steps (λ i le. tail_none (is_by (actor.Client i) m) m (filter (is_by (actor.Client i)) steps) (c i le)) (λ i le. tail_none (is_by (actor.Repairer i) m) m (filter (is_by (actor.Repairer i)) steps) (r i le)))
  where
    by : (who : Actor) (number : ℕ) (shortage : Shortage) (answer : Told) (moment : ℕ) (act : Act)
        → ((i : ℕ) → length script.clients ≤ i → filter (is_by (actor.Client i)) (made_by who number shortage answer moment act ∷ steps) ≡ [])
        → ((i : ℕ) → length script.repairers ≤ i → filter (is_by (actor.Repairer i)) (made_by who number shortage answer moment act ∷ steps) ≡ [])
        → IsStepOf script (token_of (made_by who number shortage answer moment act))
    by (actor.Client i) number shortage answer moment act p q = below i (length script.clients) (λ le. head_none (actor.Client i) (made_by (actor.Client i) number shortage answer moment act) steps refl (p i le))
    by (actor.Repairer i) number shortage answer moment act p q = below i (length script.repairers) (λ le. head_none (actor.Repairer i) (made_by (actor.Repairer i) number shortage answer moment act) steps refl (q i le))
    by actor.Sweeper number shortage answer moment act p q = tt
    by actor.Operator number shortage answer moment act p q = line_steps script act

-- ---- the law
-- the run, and that the core is the one that it ends with
pub shows_core : (script : Script) (h : Histories) → StandTwice h → GoOn script (lines_of script) (first_core script) h.at h.of → after_all lines_next (h.of actor.Operator) (lines_of script) ≡ [] → (end : Core)
    → EndAs script (first_core script) h.at h.of end → (run : IsThreadedRun script (shown script end)) × (end ≡ run_core script run.shortages run.tokens)
shows_core script h twice go done end ends =
    let steps : List MadeStep = in_order script h in
    let order : IsInOrder h steps = sorted script h twice (lines_of script) go in
    let shortages : List Shortage = map (λ (m : MadeStep). m.shortage) steps in
    let same : end ≡ run_core script shortages (map token_of steps) = same_core script (first_core script) h.at h.of end _ ends (merges script (lines_of script) h steps twice go order) in (
      record {
        tokens = map token_of steps;
        shortages = shortages;
        steps =
            all_steps script steps (λ i le. order.of (actor.Client i) ∙ no_client script h twice (lines_of script) go i le)
            (λ i le. order.of (actor.Repairer i) ∙ no_repairer script h twice (lines_of script) go i le);
        lines =
            kept_lines steps ∙ ap (map (λ (m : MadeStep). line_of m.act)) (order.of actor.Operator) ∙ all_lines (h.of actor.Operator) (lines_of script) go.operator done;
        shows = ap (shown script) same;
      },
      same,
    )

pub shows : ShowsThreadedRuns
shows script h twice go done end ends = (shows_core script h twice go done end ends).0
