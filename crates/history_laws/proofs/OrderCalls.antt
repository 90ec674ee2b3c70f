-- The order of calls in what a run shows.
use Rattle.std.proofs.Common.{◌≡◌, ◌≢◌, ℕ, zero, suc, ◌<◌, ◌≤◌, Bool, true, false, cond, nat_eq, nat_lt, List, [], ◌∷◌, ◌++◌, length, map, filter, Contains, Option, None, Some, option_and_then, All, AllPairs, ◌⊎◌, inl, inr, refl, sym, ap, subst, ◌∙◌, arith, true≢false}
use Rattle.std.proofs.lemmas.Bool.{eqb-true, eq-eqb, lt-ltb}
use Rattle.std.proofs.lemmas.Option.{none-some, same_Some, slice_get_within}
use Rattle.std.proofs.lemmas.List.Elements.{All-nil, All-cons, All-head, All-tail, All-append, All-weaker, All-contains, Contains-append_left, Contains-append_right, Contains-append_cases}
use Rattle.std.proofs.lemmas.List.Kept.{AllPairs-filter}
use Rattle.std.specs.List.{slice_get, list_any}
use Rattle.clay_grid.specs.Shape.{chunk_count}
use Rattle.store_map.specs.declared.actor.Actor.TheVariants as actor
use Rattle.store_map.specs.declared.reply.Reply.{Reply}
use Rattle.store_map.specs.declared.script.ClientPart.{ClientPart}
use Rattle.store_map.specs.declared.script.Script.{Script}
use Rattle.store_map.specs.declared.call_name.ClientCall.{ClientCall}
use Rattle.store_map.specs.declared.call_name.RepairCall.{RepairCall}
use Rattle.store_map.specs.declared.call_name.CallName.{CallName}
use Rattle.store_map.specs.declared.call_name.CallName.TheVariants as name
use Rattle.store_map.specs.declared.cause.Cause.{Cause}
use Rattle.store_map.specs.declared.cause.RepairResult.{RepairResult}
use Rattle.store_map.specs.declared.shown.Shown.{Shown}
use Rattle.store_map.specs.declared.shown.Shown.TheVariants as shown_as
use Rattle.store_map.specs.declared.line.HLine.{HLine}
use Rattle.store_map.specs.declared.line.XLine.{XLine}
use Rattle.store_map.specs.declared.line.RLine.{RLine}
use Rattle.store_map.specs.declared.line.OLine.{OLine}
use Rattle.store_map.specs.declared.line.GLine.{GLine}
use Rattle.store_map.specs.declared.transcript.Transcript.{Transcript}
use Rattle.hist_rules.specs.Calls.{number_of, with_number, same_actor as same_caller}
use Rattle.hist_rules.specs.CallOrder.{Follows, IsInOrder, IsNext}
use Rattle.hist_rules.specs.First.{AllAfter, AllAlong}
use Rattle.hist_rules.specs.Named.{is_reply, listed_calls, answered_calls}
use Rattle.hist_rules.specs.OneOpenCall.{unanswered_calls}
use Rattle.store_core.specs.Core.{Core}
use Rattle.store_core.specs.Directory.{Event}
use Rattle.store_core.specs.History.{is_answer, answered_in, shown_at, call_of}
use Rattle.store_core.specs.Outcomes.{cause_of, result_of}
use Rattle.store_core.specs.RowLines.{client, repair}
use Rattle.store_core.specs.Shown.{shown, refused_line, repair_line, unanswered_line, take_line, take_lines, lines_of_ended, lines_of_actors, client_name, repairer_name}
use Rattle.store_core.specs.Work.{Ended, Work, Calling, client_work, repairer_work}
use Rattle.history_laws.proofs.HistoryOrder.{NumberRises}
use Rattle.history_laws.proofs.NamedCalls.{InWork, no_zeros, inside}
use Rattle.history_laws.proofs.Naming.{named_client}
use Rattle.history_laws.proofs.OrderLists.{no_pairs, one_pair, pairs_append, after_pairs, none_before, map_all, map_pairs, map_contains, all_indexed, in_indexed, pairs_indexed}
use Rattle.history_laws.proofs.OrderPoints.{EventFits, PointFits}
use Rattle.history_laws.proofs.OrderShown.{ShownPoint, all_shown}
use Rattle.history_laws.proofs.OrderEnds.{EndKnown, client_has, repairer_has, ended_of, ended_count, answered_at, is_client, answered_below, replied_calls, all_replied, refused_calls, repair_calls, ended_answered, IsRefused, IsResult, all_refused, all_results}
use Rattle.history_laws.proofs.Points.{IsOfCall, IsOfScript}
use Rattle.run_laws.proofs.SoundLists.{all_by, at_all, contains_at, in_filter}

abbrev caller : CallName → ℕ
caller (name.Client call) = call.client
caller (name.Repairer call) = call.repairer

-- elements of two lists that differ by something
cross : {X : Type 0} (P Q : X → Type 0) (R : X → X → Type 0) (xs ys : List X) → ((x y : X) → P x → Q y → R x y) → All P xs → All Q ys → All (λ x. All (R x) ys) xs
cross P Q R xs ys differ all_p all_q = All-weaker P (λ x. All (R x) ys) (λ x p. All-weaker Q (R x) (λ y q. differ x y p q) ys all_q) xs all_p

-- ---- no call has two lines of a kind
module _ {Line : Type 0} (call : Line → CallName) (nm : ℕ → ℕ → CallName) (caller_is : (i n : ℕ) → caller (nm i n) ≡ i) (number_is : (i n : ℕ) → number_of (nm i n) ≡ n)
    (line : ℕ → ℕ → Ended → List Line) (each : (i n : ℕ) (e : Ended) → All (λ l. call l ≡ nm i n) (line i n e)) (single : (i n : ℕ) (e : Ended) → AllPairs (λ l other. call other ≢ call l) (line i n e)) where
  abbrev Apart : Line → Line → Type 0
  Apart l other = call other ≢ call l

  own_apart : (i : ℕ) (es : List Ended) → AllPairs Apart (lines_of_ended (line i) (record { ended = es; told = []; takes = []; steps = 0 }))
  own_apart i es =
      pairs_indexed (line i) Apart es (λ n e is. single i n e)
      (λ j k e f less is_e is_f.
      cross (λ l. call l ≡ nm i j) (λ l. call l ≡ nm i k) Apart (line i j e) (line i k f)
      (λ l other here there same.
      let one : number_of (nm i k) ≡ number_of (nm i j) = ap number_of (sym there ∙ same ∙ here) in
      let left : number_of (nm i k) ≡ k = number_is i k in
      let right : number_of (nm i j) ≡ j = number_is i j in
      omega (arith, less, one, left, right)) (each i j e) (each i k f))

  of_caller : (i : ℕ) (c : Calling) → All (λ l. caller (call l) ≡ i) (lines_of_ended (line i) c)
  of_caller i c =
      all_indexed (line i) (λ l. caller (call l) ≡ i) c.ended
      (λ n e is. All-weaker (λ l. call l ≡ nm i n) (λ l. caller (call l) ≡ i) (λ l same. ap caller same ∙ caller_is i n) (line i n e) (each i n e))

  lines_apart : (callings : List Calling) → AllPairs Apart (lines_of_actors (λ i. lines_of_ended (line i)) callings)
  lines_apart callings =
      pairs_indexed (λ i. lines_of_ended (line i)) Apart callings (λ i c is. own_apart i c.ended)
      (λ i j c d less is_c is_d.
      cross (λ l. caller (call l) ≡ i) (λ l. caller (call l) ≡ j) Apart (lines_of_ended (line i) c) (lines_of_ended (line j) d)
      (λ l other here there same.
      let one : caller (call other) ≡ caller (call l) = ap caller same in
      omega (arith, less, one, here, there)) (of_caller i c) (of_caller j d))

abbrev is_commit : Event → Bool
is_commit Event.Done = true
is_commit event = false

abbrev Differ : CallName → CallName → Type 0
Differ one other = other ≢ one

module _ (script : Script) (core : Core) (known : EndKnown script core) where
  abbrev t : Transcript
  t = shown script core

  replied_apart : AllPairs Differ (replied_calls script core known)
  replied_apart =
      map_pairs (λ (line later : HLine). NumberRises line.call later.call) Differ (λ (line : HLine). name.Client line.call) (filter (λ line. is_reply line.reply) t.history)
      (λ line later rises same.
      let less : line.call.number < later.call.number = rises (eq-eqb later.call.client line.call.client (ap caller same)) in
      let equal : later.call.number ≡ line.call.number = ap number_of same in
      omega (arith, less, equal))
      (AllPairs-filter (λ (line later : HLine). NumberRises line.call later.call) (λ line. is_reply line.reply) t.history known.order.numbers)

  refused_each : (call : ClientCall) (found : Option Cause) → All (λ (l : XLine). name.Client l.call ≡ name.Client call) (refused_line call found)
  refused_each call None = All-nil (λ (l : XLine). name.Client l.call ≡ name.Client call)
  refused_each call (Some cause) = All-cons (λ (l : XLine). name.Client l.call ≡ name.Client call) (record { call = call; cause = cause }) [] refl (All-nil (λ (l : XLine). name.Client l.call ≡ name.Client call))

  refused_single : (call : ClientCall) (found : Option Cause) → AllPairs (λ (l other : XLine). name.Client other.call ≢ name.Client l.call) (refused_line call found)
  refused_single call None = no_pairs (λ (l other : XLine). name.Client other.call ≢ name.Client l.call)
  refused_single call (Some cause) = one_pair (λ (l other : XLine). name.Client other.call ≢ name.Client l.call) (record { call = call; cause = cause })

  refused_apart : AllPairs Differ (refused_calls script core known)
  refused_apart =
      map_pairs (λ (l other : XLine). name.Client other.call ≢ name.Client l.call) Differ (λ (line : XLine). name.Client line.call) t.refused (λ l other differ. differ)
      (lines_apart (λ (l : XLine). name.Client l.call) client_name (λ i n. refl) (λ i n. refl) (λ i n e. refused_line (client i n) (cause_of e.outcome))
      (λ i n e. refused_each (client i n) (cause_of e.outcome)) (λ i n e. refused_single (client i n) (cause_of e.outcome)) core.clients)

  repair_each : (call : RepairCall) (found : Option RepairResult) → All (λ (l : RLine). name.Repairer l.call ≡ name.Repairer call) (repair_line call found)
  repair_each call None = All-nil (λ (l : RLine). name.Repairer l.call ≡ name.Repairer call)
  repair_each call (Some result) = All-cons (λ (l : RLine). name.Repairer l.call ≡ name.Repairer call) (record { call = call; result = result }) [] refl (All-nil (λ (l : RLine). name.Repairer l.call ≡ name.Repairer call))

  repair_single : (call : RepairCall) (found : Option RepairResult) → AllPairs (λ (l other : RLine). name.Repairer other.call ≢ name.Repairer l.call) (repair_line call found)
  repair_single call None = no_pairs (λ (l other : RLine). name.Repairer other.call ≢ name.Repairer l.call)
  repair_single call (Some result) = one_pair (λ (l other : RLine). name.Repairer other.call ≢ name.Repairer l.call) (record { call = call; result = result })

  repairs_apart : AllPairs Differ (repair_calls script core known)
  repairs_apart =
      map_pairs (λ (l other : RLine). name.Repairer other.call ≢ name.Repairer l.call) Differ (λ (line : RLine). name.Repairer line.call) t.repairs (λ l other differ. differ)
      (lines_apart (λ (l : RLine). name.Repairer l.call) repairer_name (λ i n. refl) (λ i n. refl) (λ i n e. repair_line (repair i n) (result_of e.outcome))
      (λ i n e. repair_each (repair i n) (result_of e.outcome)) (λ i n e. repair_single (repair i n) (result_of e.outcome)) core.repairers)

  abbrev A : List CallName
  A = replied_calls script core known

  abbrev B : List CallName
  B = refused_calls script core known

  abbrev C : List CallName
  C = repair_calls script core known

  replied_clients : (call : CallName) → answered_at core call ≡ true → is_client call ≡ true
  replied_clients (name.Client call) e = refl
  replied_clients (name.Repairer call) e = absurd (true≢false (sym e))

  clients_first : All (λ call. is_client call ≡ true) (A ++ B)
  clients_first =
      All-append (λ call. is_client call ≡ true) A B
      (All-weaker (λ call. answered_at core call ≡ true) (λ call. is_client call ≡ true) replied_clients A (all_replied script core known))
      (All-weaker (IsRefused script core known) (λ call. is_client call ≡ true) (λ call h. h.1.0) B (all_refused script core known))

  -- no call is answered twice
  answers_apart : AllPairs Differ (answered_calls t)
  answers_apart =
      pairs_append Differ (A ++ B) C
      (pairs_append Differ A B replied_apart refused_apart
      (cross (λ call. answered_at core call ≡ true) (IsRefused script core known) Differ A B (λ x y p q same. true≢false (sym p ∙ ap (answered_at core) (sym same) ∙ q.0)) (all_replied script core known) (all_refused script core known)))
      repairs_apart
      (cross (λ call. is_client call ≡ true) (IsResult script core known) Differ (A ++ B) C (λ x y p q same. true≢false (sym p ∙ ap is_client (sym same) ∙ q.0)) clients_first (all_results script core known))

  -- each answered call has ended
  pub answers_below : All (λ call. number_of call < ended_count core call) (answered_calls t)
  answers_below =
      All-append (λ call. number_of call < ended_count core call) (A ++ B) C
      (All-append (λ call. number_of call < ended_count core call) A B
      (All-weaker (λ call. answered_at core call ≡ true) (λ call. number_of call < ended_count core call) (λ call e. answered_below core call e) A (all_replied script core known))
      (All-weaker (IsRefused script core known) (λ call. number_of call < ended_count core call) (λ call h. h.1.1) B (all_refused script core known)))
      (All-weaker (IsResult script core known) (λ call. number_of call < ended_count core call) (λ call h. h.1) C (all_results script core known))

  same_count : (call : CallName) (number : ℕ) → ended_count core (with_number call number) ≡ ended_count core call
  same_count (name.Client call) number = refl
  same_count (name.Repairer call) number = refl

  number_there : (call : CallName) (number : ℕ) → number_of (with_number call number) ≡ number
  number_there (name.Client call) number = refl
  number_there (name.Repairer call) number = refl

  -- all calls before one that comes no later than the first that hasn't ended
  follows : (call : CallName) → number_of call ≤ ended_count core call → Follows (answered_calls t) call
  follows call most number low =
      ended_answered script core known (with_number call number)
      (let same : ended_count core (with_number call number) ≡ ended_count core call = same_count call number in
      let is : number_of (with_number call number) ≡ number = number_there call number in
      omega (arith, most, low, same, is))

  in_order : (before calls : List CallName) → All (λ call. number_of call < ended_count core call) calls → AllAfter (λ others call. All (λ other. Differ other call) others) before calls
      → AllAfter (IsInOrder (answered_calls t)) before calls
  in_order before [] low apart = tt
  in_order before (call ∷ calls) low apart = (
    record {
      earlier = follows call (let here : number_of call < ended_count core call = All-head (λ c. number_of c < ended_count core c) call calls low in omega (arith, here));
      once = λ has. All-contains (λ other. Differ other call) before call apart.0 has refl;
    },
    in_order (call ∷ before) calls (All-tail (λ c. number_of c < ended_count core c) call calls low) apart.1,
  )

  pub answered : AllAlong (IsInOrder (answered_calls t)) (answered_calls t)
  answered = in_order [] (answered_calls t) answers_below (after_pairs Differ [] (answered_calls t) (none_before Differ (answered_calls t)) answers_apart)

  -- ---- calls without an answer
  abbrev IsOpen : CallName → Type 0
  IsOpen call = number_of call ≡ ended_count core call

  one_open : (call : ℕ → CallName) (c : Calling) (Q : OLine → Type 0) → Q (record { call = call (length c.ended) }) → All Q (unanswered_line call c)
  one_open call c Q q = by (nat_lt 0 c.steps)
    where
      by : (b : Bool) → All Q (cond {A = List OLine} b (record { call = call (length c.ended) } ∷ []) [])
      by true = All-cons Q (record { call = call (length c.ended) }) [] q (All-nil Q)
      by false = All-nil Q

  open_clients : All (λ (line : OLine). IsOpen line.call × (is_client line.call ≡ true)) (lines_of_actors (λ i. unanswered_line (client_name i)) core.clients)
  open_clients =
      all_indexed (λ i. unanswered_line (client_name i)) (λ (line : OLine). IsOpen line.call × (is_client line.call ≡ true)) core.clients
      (λ i c is. one_open (client_name i) c (λ (line : OLine). IsOpen line.call × (is_client line.call ≡ true)) (sym (ap ended_of is), refl))

  open_repairers : All (λ (line : OLine). IsOpen line.call × (is_client line.call ≡ false)) (lines_of_actors (λ i. unanswered_line (repairer_name i)) core.repairers)
  open_repairers =
      all_indexed (λ i. unanswered_line (repairer_name i)) (λ (line : OLine). IsOpen line.call × (is_client line.call ≡ false)) core.repairers
      (λ i c is. one_open (repairer_name i) c (λ (line : OLine). IsOpen line.call × (is_client line.call ≡ false)) (sym (ap ended_of is), refl))

  all_open : All IsOpen (unanswered_calls t)
  all_open =
      map_all IsOpen (λ (line : OLine). line.call) t.unanswered
      (All-append (λ (line : OLine). IsOpen line.call) (lines_of_actors (λ i. unanswered_line (client_name i)) core.clients) (lines_of_actors (λ i. unanswered_line (repairer_name i)) core.repairers)
      (All-weaker (λ (line : OLine). IsOpen line.call × (is_client line.call ≡ true)) (λ (line : OLine). IsOpen line.call) (λ line h. h.0) (lines_of_actors (λ i. unanswered_line (client_name i)) core.clients) open_clients)
      (All-weaker (λ (line : OLine). IsOpen line.call × (is_client line.call ≡ false)) (λ (line : OLine). IsOpen line.call) (λ line h. h.0) (lines_of_actors (λ i. unanswered_line (repairer_name i)) core.repairers) open_repairers))

  abbrev Alone : OLine → OLine → Type 0
  Alone line other = same_caller other.call line.call ≡ false

  open_single : (call : ℕ → CallName) (c : Calling) → AllPairs Alone (unanswered_line call c)
  open_single call c = by (nat_lt 0 c.steps)
    where
      by : (b : Bool) → AllPairs Alone (cond {A = List OLine} b (record { call = call (length c.ended) } ∷ []) [])
      by true = one_pair Alone (record { call = call (length c.ended) })
      by false = no_pairs Alone

  apart_callers : (i j : ℕ) → i < j → nat_eq j i ≡ false
  apart_callers i j less = by (nat_eq j i) refl
    where
      by : (b : Bool) → nat_eq j i ≡ b → b ≡ false
      by true e = let same : j ≡ i = eqb-true j i e in absurd (omega (arith, less, same))
      by false e = refl

  of_kind : (call : ℕ → ℕ → CallName) (callings : List Calling) → ((i j n m : ℕ) → i < j → same_caller (call j n) (call i m) ≡ false) → AllPairs Alone (lines_of_actors (λ i. unanswered_line (call i)) callings)
  of_kind call callings differ =
      pairs_indexed (λ i. unanswered_line (call i)) Alone callings (λ i c is. open_single (call i) c)
      (λ i j c d less is_c is_d.
      one_open (call i) c (λ (line : OLine). All (Alone line) (unanswered_line (call j) d))
      (one_open (call j) d (Alone (record { call = call i (length c.ended) })) (differ i j (length d.ended) (length c.ended) less)))

  kinds_apart : (one other : CallName) → is_client one ≡ true → is_client other ≡ false → same_caller other one ≡ false
  kinds_apart (name.Client one) (name.Repairer two) e k = refl
  kinds_apart (name.Client one) (name.Client two) e k = absurd (true≢false k)
  kinds_apart (name.Repairer call) other e k = absurd (true≢false (sym e))

  open_alone : AllPairs (λ one other. same_caller other one ≡ false) (unanswered_calls t)
  open_alone =
      map_pairs Alone (λ one other. same_caller other one ≡ false) (λ (line : OLine). line.call) t.unanswered (λ l other alone. alone)
      (pairs_append Alone (lines_of_actors (λ i. unanswered_line (client_name i)) core.clients) (lines_of_actors (λ i. unanswered_line (repairer_name i)) core.repairers)
      (of_kind client_name core.clients (λ i j n m less. apart_callers i j less)) (of_kind repairer_name core.repairers (λ i j n m less. apart_callers i j less))
      (cross (λ (line : OLine). IsOpen line.call × (is_client line.call ≡ true)) (λ (line : OLine). IsOpen line.call × (is_client line.call ≡ false)) Alone
      (lines_of_actors (λ i. unanswered_line (client_name i)) core.clients) (lines_of_actors (λ i. unanswered_line (repairer_name i)) core.repairers)
      (λ x y p q. kinds_apart x.call y.call p.1 q.1) open_clients open_repairers))

  next_calls : (before calls : List CallName) → All IsOpen calls → AllAfter (λ others call. All (λ other. same_caller call other ≡ false) others) before calls → AllAfter (IsNext (answered_calls t)) before calls
  next_calls before [] are alone = tt
  next_calls before (call ∷ calls) are alone =
      let here : number_of call ≡ ended_count core call = All-head IsOpen call calls are in (
        record {
          alone = alone.0;
          earlier = follows call (omega (arith, here));
          unanswered = λ has.
              let low : number_of call < ended_count core call = All-contains (λ c. number_of c < ended_count core c) (answered_calls t) call answers_below has in omega (arith, low, here);
        },
        next_calls (call ∷ before) calls (All-tail IsOpen call calls are) alone.1,
      )

  pub unanswered : AllAlong (IsNext (answered_calls t)) (unanswered_calls t)
  unanswered =
      next_calls [] (unanswered_calls t) all_open
      (after_pairs (λ one other. same_caller other one ≡ false) [] (unanswered_calls t) (none_before (λ one other. same_caller other one ≡ false) (unanswered_calls t)) open_alone)

  -- a call that was begun has its line
  begun_line : (call : ℕ → CallName) (c : Calling) → 0 < c.steps → Contains (unanswered_line call c) (record { call = call (length c.ended) })
  begun_line call c some = subst (λ b. Contains (cond {A = List OLine} b (record { call = call (length c.ended) } ∷ []) []) (record { call = call (length c.ended) })) (sym (lt-ltb 0 c.steps some)) (contains_at (record { call = call (length c.ended) } ∷ []) 0 (record { call = call (length c.ended) }) refl)

  client_begun : (i : ℕ) (c : Calling) → slice_get core.clients i ≡ Some c → 0 < c.steps → Contains (unanswered_calls t) (client_name i (length c.ended))
  client_begun i c is some =
      let line : OLine = record { call = client_name i (length c.ended) } in
      map_contains (λ (l : OLine). l.call) t.unanswered line
      (Contains-append_left (lines_of_actors (λ j. unanswered_line (client_name j)) core.clients) (lines_of_actors (λ j. unanswered_line (repairer_name j)) core.repairers) line
      (in_indexed (λ j. unanswered_line (client_name j)) core.clients i c line is (begun_line (client_name i) c some)))

  repairer_begun : (i : ℕ) (c : Calling) → slice_get core.repairers i ≡ Some c → 0 < c.steps → Contains (unanswered_calls t) (repairer_name i (length c.ended))
  repairer_begun i c is some =
      let line : OLine = record { call = repairer_name i (length c.ended) } in
      map_contains (λ (l : OLine). l.call) t.unanswered line
      (Contains-append_right (lines_of_actors (λ j. unanswered_line (client_name j)) core.clients) (lines_of_actors (λ j. unanswered_line (repairer_name j)) core.repairers) line
      (in_indexed (λ j. unanswered_line (repairer_name j)) core.repairers i c line is (begun_line (repairer_name i) c some)))

  -- ---- effects without a reply
  abbrev is_open_line : Shown → Bool
  is_open_line (shown_as.Reply given) = false
  is_open_line shown_as.Unfinished = true

  -- only a commit shows as open, and only where its call was not answered
  open_event : (event : Event) (answered_now : Bool) (mapped : Reply) → shown_at event answered_now mapped ≡ Some shown_as.Unfinished → (event ≡ Event.Done) × (answered_now ≡ false)
  open_event (Event.Answer given) answered_now mapped e = absurd (true≢false (sym (ap is_open_line (same_Some (shown_as.Reply given) shown_as.Unfinished e))))
  open_event Event.Pinned true mapped e = absurd (true≢false (sym (ap is_open_line (same_Some (shown_as.Reply mapped) shown_as.Unfinished e))))
  open_event Event.Pinned false mapped e = absurd (none-some shown_as.Unfinished e)
  open_event Event.Done true mapped e = absurd (true≢false (sym (ap is_open_line (same_Some _ shown_as.Unfinished e))))
  open_event Event.Done false mapped e = (refl, refl)
  open_event Event.Reaped answered_now mapped e = absurd (none-some shown_as.Unfinished e)

  -- the client of a point, which has committed and isn't answered
  open_call : (line : HLine) → ShownPoint script core core.directory.points line → line.reply ≡ shown_as.Unfinished → Contains (unanswered_calls t) (name.Client line.call)
  open_call line of is_open = by (at_all (IsOfScript script) core.directory.points of.at of.point known.points of.found)
    where
      says : shown_at of.point.event (answered_in core of.point.actor of.point.number) of.mapped ≡ Some shown_as.Unfinished
      says = of.says ∙ ap Some is_open

      event : (of.point.event ≡ Event.Done) × (answered_in core of.point.actor of.point.number ≡ false)
      event = open_event of.point.event (answered_in core of.point.actor of.point.number) of.mapped says

      unreaped : of.point.event ≡ Event.Reaped → ⊥
      unreaped reaped = true≢false (sym (ap is_commit event.0) ∙ ap is_commit reaped)

      committed : (i : ℕ) (c : Calling) → slice_get core.clients i ≡ Some c → of.point.actor ≡ actor.Client i → EventFits script i c of.point.number Event.Done → Contains (unanswered_calls t) (client_name i of.point.number)
      committed i c is_c mine (inl answered_now) =
          absurd
          (true≢false
          (sym answered_now
          ∙ sym (ap (λ o. is_answer (option_and_then (λ (x : Calling). slice_get x.ended of.point.number) o)) is_c) ∙ sym (ap (λ a. answered_in core a of.point.number) mine) ∙ event.1))
      committed i c is_c mine (inr h) = subst (λ n. Contains (unanswered_calls t) (client_name i n)) (sym h.is_number) (client_begun i c is_c h.begun)

      nobody : (i : ℕ) → slice_get core.clients i ≡ None → of.point.actor ≡ actor.Client i → IsOfCall script of.point → ⊥
      nobody i none mine call = gone (slice_get script.clients i) refl (subst (λ a. call_of script a of.point.number ≡ Some call.call) mine call.is_call)
        where
          gone : (part : Option ClientPart) → slice_get script.clients i ≡ part → option_and_then (λ (p : ClientPart). slice_get p.calls of.point.number) part ≡ Some call.call → ⊥
          gone None is_part e = none-some call.call e
          gone (Some part) is_part e =
              let low : i < length script.clients = slice_get_within script.clients i part is_part in
              let same : length core.clients ≡ length script.clients = known.kept.keeps.client_count in
              let there : (c : Calling) × (slice_get core.clients i ≡ Some c) = inside core.clients i (omega (arith, low, same)) in
              none-some there.0 (sym none ∙ there.1)

      open_client : (i : ℕ) → of.point.actor ≡ actor.Client i → IsOfCall script of.point → (found : Option Calling) → slice_get core.clients i ≡ found → Contains (unanswered_calls t) (client_name i of.point.number)
      open_client i mine call None is = absurd (nobody i is mine call)
      open_client i mine call (Some c) is =
          committed i c is mine (subst (EventFits script i c of.point.number) event.0 (at_all (PointFits script i c) core.directory.points of.at of.point (known.fits i c is) of.found mine))

      named : (of.point.actor ≡ actor.Client line.call.client) × (of.point.number ≡ line.call.number)
      named = named_client of.point.actor of.point.number line.call of.named

      by : (of.point.event ≡ Event.Reaped) ⊎ IsOfCall script of.point → Contains (unanswered_calls t) (name.Client line.call)
      by (inl reaped) = absurd (unreaped reaped)
      by (inr call) =
          subst (λ n. Contains (unanswered_calls t) (client_name line.call.client n)) named.1 (open_client line.call.client named.0 call (slice_get core.clients line.call.client) refl)

  pub effects : All (λ line. line.reply ≡ shown_as.Unfinished → Contains (unanswered_calls t) (name.Client line.call)) t.history
  effects = All-weaker (ShownPoint script core core.directory.points) (λ line. line.reply ≡ shown_as.Unfinished → Contains (unanswered_calls t) (name.Client line.call)) open_call t.history (all_shown script core)

  -- ---- takes
  abbrev H : List CallName
  H = map (λ (line : HLine). name.Client line.call) t.history

  -- an answered call has its line
  answered_listed : (call : CallName) → Contains (answered_calls t) call → Contains (listed_calls t) call
  answered_listed call has = Contains-append_left (H ++ B ++ C) (unanswered_calls t) call (by (Contains-append_cases (A ++ B) C call has))
    where
      replied : Contains A call → Contains H call
      replied has_a = All-contains (Contains H) A call (all_by (Contains H) A (λ other at. in_history other (replied_line other at))) has_a
        where
          in_history : (other : CallName) → (line : HLine) × (Contains t.history line × (name.Client line.call ≡ other)) → Contains H other
          in_history other found = subst (Contains H) found.1.1 (map_contains (λ (line : HLine). name.Client line.call) t.history found.0 found.1.0)

          replied_line : (other : CallName) → Contains A other → (line : HLine) × (Contains t.history line × (name.Client line.call ≡ other))
          replied_line other at =
              All-contains (λ call. (line : HLine) × (Contains t.history line × (name.Client line.call ≡ call))) A other
              (map_all (λ call. (line : HLine) × (Contains t.history line × (name.Client line.call ≡ call))) (λ (line : HLine). name.Client line.call) (filter (λ line. is_reply line.reply) t.history)
              (all_by (λ (line : HLine). (l : HLine) × (Contains t.history l × (name.Client l.call ≡ name.Client line.call))) (filter (λ line. is_reply line.reply) t.history)
              (λ line there. (line, ((in_filter (λ (l : HLine). is_reply l.reply) t.history line there).0, refl))))) at

      first : Contains A call ⊎ Contains B call → Contains (H ++ B) call
      first (inl a) = Contains-append_left H B call (replied a)
      first (inr b) = Contains-append_right H B call b

      by : Contains (A ++ B) call ⊎ Contains C call → Contains (H ++ B ++ C) call
      by (inl ab) = Contains-append_left (H ++ B) C call (first (Contains-append_cases A B call ab))
      by (inr c) = Contains-append_right (H ++ B) C call c

  open_listed : (call : CallName) → Contains (unanswered_calls t) call → Contains (listed_calls t) call
  open_listed call has = Contains-append_right (H ++ B ++ C) (unanswered_calls t) call has

  abbrev Listed : GLine → Type 0
  Listed line = Contains (listed_calls t) line.call

  one_take : (call : CallName) (takes : List ℕ) → (list_any (nat_lt 0) takes ≡ true → Contains (listed_calls t) call) → All Listed (take_line call takes)
  one_take call takes h = by (list_any (nat_lt 0) takes) h
    where
      by : (b : Bool) → (b ≡ true → Contains (listed_calls t) call) → All Listed (cond {A = List GLine} b (record { call = call; takes = takes } ∷ []) [])
      by true h = All-cons Listed (record { call = call; takes = takes }) [] (h refl) (All-nil Listed)
      by false h = All-nil Listed

  begun_takes : (n : ℕ) (w : Work) (c : Calling) → InWork n w c → list_any (nat_lt 0) c.takes ≡ true → 0 < c.steps
  begun_takes n w c in_work some = by c.steps refl
    where
      by : (steps : ℕ) → c.steps ≡ steps → 0 < c.steps
      by zero e = absurd (true≢false (sym some ∙ ap (λ (l : List ℕ). list_any (nat_lt 0) l) (in_work.fresh e) ∙ no_zeros n))
      by (suc k) e = omega (arith, e)

  client_takes : All Listed (lines_of_actors (λ i. take_lines (client_name i)) core.clients)
  client_takes =
      all_indexed (λ i. take_lines (client_name i)) Listed core.clients
      (λ i c is.
      let work : (w : Work) × (slice_get (client_work script) i ≡ Some w) = client_has script core known i c is in
      All-append Listed (lines_of_ended (λ number ended. take_line (client_name i number) ended.takes) c) (take_line (client_name i (length c.ended)) c.takes)
      (all_indexed (λ number ended. take_line (client_name i number) ended.takes) Listed c.ended
      (λ number e is_e.
      one_take (client_name i number) e.takes
      (λ some. answered_listed (client_name i number) (ended_answered script core known (client_name i number) (subst (λ o. number < ended_of o) (sym is) (slice_get_within c.ended number e is_e))))))
      (one_take (client_name i (length c.ended)) c.takes
      (λ some. open_listed (client_name i (length c.ended)) (client_begun i c is (begun_takes (chunk_count script.geometry) work.0 c (known.calls.clients i c is work.0 work.1) some)))))

  repairer_takes : All Listed (lines_of_actors (λ i. take_lines (repairer_name i)) core.repairers)
  repairer_takes =
      all_indexed (λ i. take_lines (repairer_name i)) Listed core.repairers
      (λ i c is.
      let work : (w : Work) × (slice_get (repairer_work script) i ≡ Some w) = repairer_has script core known i c is in
      All-append Listed (lines_of_ended (λ number ended. take_line (repairer_name i number) ended.takes) c) (take_line (repairer_name i (length c.ended)) c.takes)
      (all_indexed (λ number ended. take_line (repairer_name i number) ended.takes) Listed c.ended
      (λ number e is_e.
      one_take (repairer_name i number) e.takes
      (λ some. answered_listed (repairer_name i number) (ended_answered script core known (repairer_name i number) (subst (λ o. number < ended_of o) (sym is) (slice_get_within c.ended number e is_e))))))
      (one_take (repairer_name i (length c.ended)) c.takes
      (λ some. open_listed (repairer_name i (length c.ended)) (repairer_begun i c is (begun_takes (chunk_count script.geometry) work.0 c (known.calls.repairers i c is work.0 work.1) some)))))

  pub takes : All Listed t.takes
  takes = All-append Listed (lines_of_actors (λ i. take_lines (client_name i)) core.clients) (lines_of_actors (λ i. take_lines (repairer_name i)) core.repairers) client_takes repairer_takes
