-- The lines that a core shows of calls stand by actor and by number, clients first.
use Rattle.std.proofs.Common.{◌≡◌, ℕ, ◌<◌, true, nat_eq, nat_lt, ◌&&◌, ◌||◌, List, [], ◌∷◌, ◌++◌, length, Option, None, Some, All, AllPairs, refl, sym, subst}
use Rattle.std.proofs.lemmas.Bool.{cond_both, lt-ltb, eq-eqb, or_left, or_right, and_from}
use Rattle.std.proofs.lemmas.Option.{slice_get_within}
use Rattle.std.proofs.lemmas.List.Elements.{All-nil, All-cons, All-append, All-weaker}
use Rattle.std.specs.List.{list_any}
use Rattle.store_map.specs.declared.call_name.ClientCall.{ClientCall}
use Rattle.store_map.specs.declared.call_name.RepairCall.{RepairCall}
use Rattle.store_map.specs.declared.call_name.CallName.{CallName}
use Rattle.store_map.specs.declared.call_name.CallName.TheVariants as name
use Rattle.store_map.specs.declared.cause.Cause.{Cause}
use Rattle.store_map.specs.declared.cause.RepairResult.{RepairResult}
use Rattle.store_map.specs.declared.line.XLine.{XLine}
use Rattle.store_map.specs.declared.line.RLine.{RLine}
use Rattle.store_map.specs.declared.line.OLine.{OLine}
use Rattle.store_map.specs.declared.line.GLine.{GLine}
use Rattle.store_map.specs.declared.transcript.Transcript.{Transcript}
use Rattle.transcript_read.specs.Order.{is_earlier}
use Rattle.store_map.specs.declared.script.Script.{Script}
use Rattle.store_core.specs.Core.{Core}
use Rattle.store_core.specs.Outcomes.{cause_of, result_of}
use Rattle.store_core.specs.Shown.{shown, client_name, repairer_name, refused_line, repair_line, unanswered_line, take_line, take_lines, lines_of_ended, lines_of_actors}
use Rattle.store_core.specs.Work.{Ended, Calling}
use Rattle.history_laws.proofs.OrderLists.{no_pairs, one_pair, pairs_append, all_indexed, pairs_indexed}

-- ---- names
pub record NamesRise (nm : ℕ → ℕ → CallName) : Type 0 where
  pub actor : (i j m n : ℕ) → i < j → is_earlier (nm i m) (nm j n) ≡ true
  pub number : (i m n : ℕ) → m < n → is_earlier (nm i m) (nm i n) ≡ true

by_actor : (i j m n : ℕ) → i < j → (nat_lt i j || (nat_eq i j && nat_lt m n)) ≡ true
by_actor i j m n less = or_left (nat_lt i j) (nat_eq i j && nat_lt m n) (lt-ltb i j less)

by_number : (i m n : ℕ) → m < n → (nat_lt i i || (nat_eq i i && nat_lt m n)) ≡ true
by_number i m n less = or_right (nat_lt i i) (nat_eq i i && nat_lt m n) (and_from (nat_eq i i) (nat_lt m n) (eq-eqb i i refl) (lt-ltb m n less))

clients_rise : NamesRise client_name
clients_rise = record { actor = by_actor; number = by_number }

repairers_rise : NamesRise repairer_name
repairers_rise = record { actor = by_actor; number = by_number }

-- elements of two lists
pub cross : {X : Type 0} (P Q : X → Type 0) (R : X → X → Type 0) (xs ys : List X) → ((x y : X) → P x → Q y → R x y) → All P xs → All Q ys
    → All (λ x. All (R x) ys) xs
cross P Q R xs ys differ all_p all_q = All-weaker P (λ x. All (R x) ys) (λ x p. All-weaker Q (R x) (λ y q. differ x y p q) ys all_q) xs all_p

module _ {Line : Type 0} (call : Line → CallName) where
  abbrev pub Rises : Line → Line → Type 0
  Rises l other = is_earlier (call l) (call other) ≡ true

  -- lines of clients before those of repairers
  abbrev pub IsOf : (ℕ → ℕ → CallName) → Line → Type 0
  IsOf nm l = (i : ℕ) × (n : ℕ) × (call l ≡ nm i n)

  groups_rise : (xs ys : List Line) → All (IsOf client_name) xs → All (IsOf repairer_name) ys → AllPairs Rises xs → AllPairs Rises ys
      → AllPairs Rises (xs ++ ys)
  groups_rise xs ys clients repairers one two =
      pairs_append Rises xs ys one two
      (cross (IsOf client_name) (IsOf repairer_name) Rises xs ys
      (λ l other here there.
      subst (λ (c : CallName). is_earlier c (call other) ≡ true) (sym here.2)
      (subst (λ (c : CallName). is_earlier (client_name here.0 here.1) c ≡ true) (sym there.2) refl)) clients repairers)

  module _ (nm : ℕ → ℕ → CallName) (rise : NamesRise nm) where
    same_rise : (i m n : ℕ) (l other : Line) → m < n → call l ≡ nm i m → call other ≡ nm i n → Rises l other
    same_rise i m n l other less here there =
        subst (λ (c : CallName). is_earlier c (call other) ≡ true) (sym here)
        (subst (λ (c : CallName). is_earlier (nm i m) c ≡ true) (sym there) (rise.number i m n less))

    other_rise : (i j m n : ℕ) (l other : Line) → i < j → call l ≡ nm i m → call other ≡ nm j n → Rises l other
    other_rise i j m n l other less here there =
        subst (λ (c : CallName). is_earlier c (call other) ≡ true) (sym here)
        (subst (λ (c : CallName). is_earlier (nm i m) c ≡ true) (sym there) (rise.actor i j m n less))

    -- a line of one actor
    abbrev OfActor : ℕ → Line → Type 0
    OfActor i l = (n : ℕ) × (call l ≡ nm i n)

    -- a line of one of its calls below a number
    abbrev OfBelow : ℕ → ℕ → Line → Type 0
    OfBelow i most l = (n : ℕ) × (n < most) × (call l ≡ nm i n)

    module _ (line : ℕ → ℕ → Ended → List Line) (each : (i n : ℕ) (e : Ended) → All (λ l. call l ≡ nm i n) (line i n e))
        (single : (i n : ℕ) (e : Ended) → AllPairs Rises (line i n e)) where
      ended_rise : (i : ℕ) (c : Calling) → AllPairs Rises (lines_of_ended (line i) c)
      ended_rise i c =
          pairs_indexed (line i) Rises c.ended (λ n e is. single i n e)
          (λ j k e f less is_e is_f.
          cross (λ l. call l ≡ nm i j) (λ l. call l ≡ nm i k) Rises (line i j e) (line i k f)
          (λ l other here there. same_rise i j k l other less here there) (each i j e) (each i k f))

      ended_below : (i : ℕ) (c : Calling) → All (OfBelow i (length c.ended)) (lines_of_ended (line i) c)
      ended_below i c =
          all_indexed (line i) (OfBelow i (length c.ended)) c.ended
          (λ n e is. All-weaker (λ l. call l ≡ nm i n) (OfBelow i (length c.ended)) (λ l same. (n, slice_get_within c.ended n e is, same))
          (line i n e) (each i n e))

      ended_of : (i : ℕ) (c : Calling) → All (OfActor i) (lines_of_ended (line i) c)
      ended_of i c = All-weaker (OfBelow i (length c.ended)) (OfActor i) (λ l of. (of.0, of.2)) (lines_of_ended (line i) c) (ended_below i c)

    module _ (lines : ℕ → Calling → List Line) (own : (i : ℕ) (c : Calling) → AllPairs Rises (lines i c))
        (of : (i : ℕ) (c : Calling) → All (OfActor i) (lines i c)) where
      actors_rise : (callings : List Calling) → AllPairs Rises (lines_of_actors lines callings)
      actors_rise callings =
          pairs_indexed lines Rises callings (λ i c is. own i c)
          (λ i j c d less is_c is_d.
          cross (OfActor i) (OfActor j) Rises (lines i c) (lines j d)
          (λ l other here there. other_rise i j here.0 there.0 l other less here.1 there.1) (of i c) (of j d))

      actors_of : (callings : List Calling) → All (IsOf nm) (lines_of_actors lines callings)
      actors_of callings = all_indexed lines (IsOf nm) callings
          (λ i c is. All-weaker (OfActor i) (IsOf nm) (λ l o. (i, o.0, o.1)) (lines i c) (of i c))

-- ---- the lines of a call
abbrev pub x_call : XLine → CallName
x_call l = name.Client l.call

abbrev pub r_call : RLine → CallName
r_call l = name.Repairer l.call

abbrev pub o_call : OLine → CallName
o_call l = l.call

abbrev pub g_call : GLine → CallName
g_call l = l.call

each_refused : (call : ClientCall) (o : Option Cause) → All (λ (l : XLine). x_call l ≡ name.Client call) (refused_line call o)
each_refused call None = All-nil (λ (l : XLine). x_call l ≡ name.Client call)
each_refused call (Some cause) =
    All-cons (λ (l : XLine). x_call l ≡ name.Client call) (record { call = call; cause = cause }) [] refl (All-nil (λ (l : XLine). x_call l ≡ name.Client call))

one_refused : (R : XLine → XLine → Type 0) (call : ClientCall) (o : Option Cause) → AllPairs R (refused_line call o)
one_refused R call None = no_pairs R
one_refused R call (Some cause) = one_pair R (record { call = call; cause = cause })

each_repair : (call : RepairCall) (o : Option RepairResult) → All (λ (l : RLine). r_call l ≡ name.Repairer call) (repair_line call o)
each_repair call None = All-nil (λ (l : RLine). r_call l ≡ name.Repairer call)
each_repair call (Some result) =
    All-cons (λ (l : RLine). r_call l ≡ name.Repairer call) (record { call = call; result = result }) [] refl (All-nil (λ (l : RLine). r_call l ≡ name.Repairer call))

one_repair : (R : RLine → RLine → Type 0) (call : RepairCall) (o : Option RepairResult) → AllPairs R (repair_line call o)
one_repair R call None = no_pairs R
one_repair R call (Some result) = one_pair R (record { call = call; result = result })

each_take : (call : CallName) (takes : List ℕ) → All (λ (l : GLine). l.call ≡ call) (take_line call takes)
each_take call takes =
    cond_both {A = List GLine} (list_any (nat_lt 0) takes) (record { call = call; takes = takes } ∷ []) []
    (λ ls. All (λ (l : GLine). l.call ≡ call) ls)
    (λ _. All-cons (λ (l : GLine). l.call ≡ call) (record { call = call; takes = takes }) [] refl (All-nil (λ (l : GLine). l.call ≡ call)))
    (λ _. All-nil (λ (l : GLine). l.call ≡ call))

one_take : (R : GLine → GLine → Type 0) (call : CallName) (takes : List ℕ) → AllPairs R (take_line call takes)
one_take R call takes =
    cond_both {A = List GLine} (list_any (nat_lt 0) takes) (record { call = call; takes = takes } ∷ []) [] (AllPairs R)
    (λ _. one_pair R (record { call = call; takes = takes })) (λ _. no_pairs R)

each_open : (nm : ℕ → CallName) (c : Calling) → All (λ (l : OLine). l.call ≡ nm (length c.ended)) (unanswered_line nm c)
each_open nm c =
    cond_both {A = List OLine} (nat_lt 0 c.steps) (record { call = nm (length c.ended) } ∷ []) []
    (λ ls. All (λ (l : OLine). l.call ≡ nm (length c.ended)) ls)
    (λ _. All-cons (λ (l : OLine). l.call ≡ nm (length c.ended)) (record { call = nm (length c.ended) }) [] refl
    (All-nil (λ (l : OLine). l.call ≡ nm (length c.ended))))
    (λ _. All-nil (λ (l : OLine). l.call ≡ nm (length c.ended)))

one_open : (R : OLine → OLine → Type 0) (nm : ℕ → CallName) (c : Calling) → AllPairs R (unanswered_line nm c)
one_open R nm c = cond_both {A = List OLine} (nat_lt 0 c.steps) (record { call = nm (length c.ended) } ∷ []) [] (AllPairs R)
    (λ _. one_pair R (record { call = nm (length c.ended) })) (λ _. no_pairs R)

-- ---- the lists of a core
module _ (script : Script) (core : Core) where
  abbrev t : Transcript
  t = shown script core

  abbrev x_line : ℕ → ℕ → Ended → List XLine
  x_line i n e = refused_line (record { client = i; number = n }) (cause_of e.outcome)

  pub refused_rise : AllPairs (Rises x_call) t.refused
  refused_rise =
      actors_rise x_call client_name clients_rise (λ i. lines_of_ended (x_line i))
      (ended_rise x_call client_name clients_rise x_line (λ i n e. each_refused (record { client = i; number = n }) (cause_of e.outcome))
      (λ i n e. one_refused (Rises x_call) (record { client = i; number = n }) (cause_of e.outcome)))
      (ended_of x_call client_name clients_rise x_line (λ i n e. each_refused (record { client = i; number = n }) (cause_of e.outcome))
      (λ i n e. one_refused (Rises x_call) (record { client = i; number = n }) (cause_of e.outcome))) core.clients

  abbrev r_line : ℕ → ℕ → Ended → List RLine
  r_line i n e = repair_line (record { repairer = i; number = n }) (result_of e.outcome)

  pub repairs_rise : AllPairs (Rises r_call) t.repairs
  repairs_rise =
      actors_rise r_call repairer_name repairers_rise (λ i. lines_of_ended (r_line i))
      (ended_rise r_call repairer_name repairers_rise r_line (λ i n e. each_repair (record { repairer = i; number = n }) (result_of e.outcome))
      (λ i n e. one_repair (Rises r_call) (record { repairer = i; number = n }) (result_of e.outcome)))
      (ended_of r_call repairer_name repairers_rise r_line (λ i n e. each_repair (record { repairer = i; number = n }) (result_of e.outcome))
      (λ i n e. one_repair (Rises r_call) (record { repairer = i; number = n }) (result_of e.outcome))) core.repairers

  -- ---- the call that an actor has begun
  module _ (nm : ℕ → ℕ → CallName) (rise : NamesRise nm) (callings : List Calling) where
    abbrev opens : List OLine
    opens = lines_of_actors (λ i. unanswered_line (nm i)) callings

    open_of : (i : ℕ) (c : Calling) → All (OfActor o_call nm rise i) (unanswered_line (nm i) c)
    open_of i c = All-weaker (λ (l : OLine). l.call ≡ nm i (length c.ended)) (OfActor o_call nm rise i) (λ l same. (length c.ended, same))
        (unanswered_line (nm i) c) (each_open (nm i) c)

    opens_rise : AllPairs (Rises o_call) opens
    opens_rise = actors_rise o_call nm rise (λ i. unanswered_line (nm i)) (λ i c. one_open (Rises o_call) (nm i) c) open_of callings

    opens_of : All (IsOf o_call nm) opens
    opens_of = actors_of o_call nm rise (λ i. unanswered_line (nm i)) (λ i c. one_open (Rises o_call) (nm i) c) open_of callings

  pub unanswered_rise : AllPairs (Rises o_call) t.unanswered
  unanswered_rise =
      groups_rise o_call (opens client_name clients_rise core.clients) (opens repairer_name repairers_rise core.repairers)
      (opens_of client_name clients_rise core.clients) (opens_of repairer_name repairers_rise core.repairers)
      (opens_rise client_name clients_rise core.clients) (opens_rise repairer_name repairers_rise core.repairers)

  -- ---- what calls took
  module _ (nm : ℕ → ℕ → CallName) (rise : NamesRise nm) (callings : List Calling) where
    abbrev g_line : ℕ → ℕ → Ended → List GLine
    g_line i n e = take_line (nm i n) e.takes

    abbrev ended_takes : ℕ → Calling → List GLine
    ended_takes i c = lines_of_ended (g_line i) c

    abbrev last_take : ℕ → Calling → List GLine
    last_take i c = take_line (nm i (length c.ended)) c.takes

    takes_below : (i : ℕ) (c : Calling) → All (OfBelow g_call nm rise i (length c.ended)) (ended_takes i c)
    takes_below i c = ended_below g_call nm rise g_line (λ i n e. each_take (nm i n) e.takes) (λ i n e. one_take (Rises g_call) (nm i n) e.takes) i c

    own_takes : (i : ℕ) (c : Calling) → AllPairs (Rises g_call) (take_lines (nm i) c)
    own_takes i c =
        pairs_append (Rises g_call) (ended_takes i c) (last_take i c)
        (ended_rise g_call nm rise g_line (λ i n e. each_take (nm i n) e.takes) (λ i n e. one_take (Rises g_call) (nm i n) e.takes) i c)
        (one_take (Rises g_call) (nm i (length c.ended)) c.takes)
        (cross (OfBelow g_call nm rise i (length c.ended)) (λ (l : GLine). l.call ≡ nm i (length c.ended)) (Rises g_call) (ended_takes i c)
        (last_take i c)
        (λ l other here there. same_rise g_call nm rise i here.0 (length c.ended) l other here.1 here.2 there) (takes_below i c)
        (each_take (nm i (length c.ended)) c.takes))

    takes_of : (i : ℕ) (c : Calling) → All (OfActor g_call nm rise i) (take_lines (nm i) c)
    takes_of i c =
        All-append (OfActor g_call nm rise i) (ended_takes i c) (last_take i c)
        (All-weaker (OfBelow g_call nm rise i (length c.ended)) (OfActor g_call nm rise i) (λ l of. (of.0, of.2)) (ended_takes i c) (takes_below i c))
        (All-weaker (λ (l : GLine). l.call ≡ nm i (length c.ended)) (OfActor g_call nm rise i) (λ l same. (length c.ended, same)) (last_take i c)
        (each_take (nm i (length c.ended)) c.takes))

    abbrev all_takes : List GLine
    all_takes = lines_of_actors (λ i. take_lines (nm i)) callings

    group_takes : AllPairs (Rises g_call) all_takes
    group_takes = actors_rise g_call nm rise (λ i. take_lines (nm i)) own_takes takes_of callings

    group_of : All (IsOf g_call nm) all_takes
    group_of = actors_of g_call nm rise (λ i. take_lines (nm i)) own_takes takes_of callings

  pub takes_rise : AllPairs (Rises g_call) t.takes
  takes_rise =
      groups_rise g_call (all_takes client_name clients_rise core.clients) (all_takes repairer_name repairers_rise core.repairers)
      (group_of client_name clients_rise core.clients) (group_of repairer_name repairers_rise core.repairers)
      (group_takes client_name clients_rise core.clients) (group_takes repairer_name repairers_rise core.repairers)
