-- The actors leave what they have, one after the other.
use Rattle.std.proofs.Common.{◌≡◌, ℕ, ◌+◌, ◌<◌, ◌≤◌, true, false, List, [], ◌∷◌, ◌++◌, length, map, reverse, slice_get, Some, Vec, vec_capacity, refl, sym, ap, subst, ◌∙◌, arith}
use Rattle.std.specs.Global.{Global}
use Rattle.std.proofs.lemmas.List.{append-nil, append_assoc, length-map, length_push, map-append, reverse-append, reverse-reverse}
use Rattle.std.proofs.lemmas.Option.{none-some}
use Rattle.store_map.specs.declared.script.Script.{Script}
use Rattle.thread_laws.specs.MadeSteps.{MadeStep}
use Rattle.call_steps.specs.declared.caller_calls.CallerCalls.{CallerCalls}
use Rattle.sweeper.specs.Sweeps.{SweeperOf}
use Rattle.turn_lock.specs.TurnState.{TurnState}
use Rattle.thread_laws.specs.Noted.{Noted}
use Rattle.turn_lock.proofs.JoinedLists.{at_end, each_pushed, front}
use Rattle.turn_lock.specs.Piles.{items_of}
use Rattle.thread_laws.specs.Logs.{counts_of}
use Rattle.run_seats.specs.Seated.{IsSeated}
use Rattle.run_seats.specs.SeatedActors.{IsSeatedActor, number_of}
use Rattle.run_seats.specs.SeatedPlain.{IsOperator, IsSweeper}
use Rattle.run_seats.specs.declared.directory_box.DirectoryIdentity.{DirectoryIdentity}
use Rattle.run_seats.specs.declared.seated.Seated.{Seated}
use Rattle.run_seats.specs.declared.seated_actor.SeatedActor.{SeatedActor}
use Rattle.run_seats.specs.declared.seated_actor.SeatedActor.TheVariants as kind
use Rattle.run_seats.specs.declared.seated_operator.SeatedOperator.{SeatedOperator}
use Rattle.run_seats.specs.declared.seated_sweeper.SeatedSweeper.{SeatedSweeper}
use Rattle.run_seats.specs.declared.server_box.ServerIdentity.{ServerIdentity}
use Rattle.run_seats.specs.declared.store.Store.{Store}
use Rattle.store_run.specs.Dealt.{turns_of}
use Rattle.store_run.specs.Leaving.{AreAllOver, AreCallsBy, HasLeftOf, HasRoom, IsNextOf, Leaves, is_client}
use Rattle.store_run.specs.Left.{HasLeft, IsOver, LeavesCalls, LeavesSweeper, turns_in}
use Rattle.store_run.specs.declared.left_workers.Leaving.TheVariants as leaving
use Rattle.store_run.specs.declared.left_workers.Left.{Left}
use Rattle.store_run.proofs.WhoseNumber.{client_number, number_below, operator_behind, repairer_number, sweeper_at}

-- ---- who leaves what
of_client : (who : SeatedActor) (calls : CallerCalls) → Leaves who (leaving.Client calls)
    → (seated : Seated) × (who ≡ kind.Caller seated) × (is_client seated.actor ≡ true) × AreCallsBy seated.caller calls
of_client (kind.Caller seated) calls h = (seated, refl, h.0, h.1)
of_client (kind.Sweeper seated) calls h = absurd h
of_client (kind.Operator seated) calls h = absurd h

of_repairer : (who : SeatedActor) (calls : CallerCalls) → Leaves who (leaving.Repairer calls)
    → (seated : Seated) × (who ≡ kind.Caller seated) × (is_client seated.actor ≡ false) × AreCallsBy seated.caller calls
of_repairer (kind.Caller seated) calls h = (seated, refl, h.0, h.1)
of_repairer (kind.Sweeper seated) calls h = absurd h
of_repairer (kind.Operator seated) calls h = absurd h

of_sweeper : (who : SeatedActor) (sweeper : SweeperOf) → Leaves who (leaving.Sweeper sweeper) → (seated : SeatedSweeper) × (who ≡ kind.Sweeper seated) × (sweeper ≡ seated.sweeper)
of_sweeper (kind.Caller seated) sweeper h = absurd h
of_sweeper (kind.Sweeper seated) sweeper h = (seated, refl, h)
of_sweeper (kind.Operator seated) sweeper h = absurd h

of_operator : (who : SeatedActor) → Leaves who leaving.Operator → (seated : SeatedOperator) × (who ≡ kind.Operator seated)
of_operator (kind.Caller seated) h = absurd h
of_operator (kind.Sweeper seated) h = absurd h
of_operator (kind.Operator seated) h = (seated, refl)

-- the number of the next actor, by what it leaves
module _ (store : Store) (n : ℕ) (who : SeatedActor) (over : IsOver store n who) where
  pub next_below : n < turns_of store.script.now
  next_below = let below : number_of who < turns_of store.script.now = number_below store who over.seated_is in omega (arith, below, over.numbered)

  pub client_next : (calls : CallerCalls) → Leaves who (leaving.Client calls) → n < length store.script.now.clients
  client_next calls leaves =
      let its = of_client who calls leaves in
      let is : IsSeated store its.0 = subst (IsSeatedActor store) its.1 over.seated_is in
      let number : its.0.turns.number ≡ n = ap number_of (sym its.1) ∙ over.numbered in
      let below : its.0.turns.number < length store.script.now.clients = client_number store its.0 is its.2 in
      omega (arith, below, number)

  pub repairer_next : (calls : CallerCalls) → Leaves who (leaving.Repairer calls)
      → (length store.script.now.clients ≤ n) × (n < length store.script.now.clients + length store.script.now.repairers)
  repairer_next calls leaves =
      let its = of_repairer who calls leaves in
      let is : IsSeated store its.0 = subst (IsSeatedActor store) its.1 over.seated_is in
      let number : its.0.turns.number ≡ n = ap number_of (sym its.1) ∙ over.numbered in
      subst (λ (k : ℕ). (length store.script.now.clients ≤ k) × (k < length store.script.now.clients + length store.script.now.repairers)) number (repairer_number store its.0 is its.2)

  sweeper_next : (sweeper : SweeperOf) → Leaves who (leaving.Sweeper sweeper) → n ≡ length store.script.now.clients + length store.script.now.repairers
  sweeper_next sweeper leaves =
      let its = of_sweeper who sweeper leaves in
      let is : IsSweeper store its.0 = subst (IsSeatedActor store) its.1 over.seated_is in
      sym (ap number_of (sym its.1) ∙ over.numbered) ∙ sweeper_at (counts_of store.script.now) its.0.turns.number is.turn.whose

  operator_next : Leaves who leaving.Operator → length store.script.now.clients + length store.script.now.repairers < n
  operator_next leaves =
      let its = of_operator who leaves in
      let is : IsOperator store its.0 = subst (IsSeatedActor store) its.1 over.seated_is in
      let number : its.0.turns.number ≡ n = ap number_of (sym its.1) ∙ over.numbered in
      let behind : length store.script.now.clients + length store.script.now.repairers < its.0.turns.number = operator_behind (counts_of store.script.now) its.0.turns.number is.turn.whose in
      omega (arith, behind, number)

-- ---- before the first one
pub none_left : (script : Script) (left : Left) → HasRoom script left → left.clients.items ≡ [] → left.repairers.items ≡ [] → left.directory.items ≡ [] → left.rows.items ≡ []
    → HasLeftOf script [] left
none_left script left room no_client no_repairer no_turn no_row =
    record {
      room = room;
      directory = no_turn;
      rows = ap items_of no_row;
      client_count = (let none : length left.clients.items ≡ 0 = ap length no_client in omega (arith, none));
      clients = λ i calls e. absurd (none-some calls (ap (λ (l : List CallerCalls). slice_get l i) (sym no_client) ∙ e));
      repairer_count = (let none : length left.repairers.items ≡ 0 = ap length no_repairer in omega (arith, none));
      repairers = λ i calls e. absurd (none-some calls (ap (λ (l : List CallerCalls). slice_get l i) (sym no_repairer) ∙ e));
      sweeper = λ more. absurd (omega (arith, more));
    }

-- ---- there is room for one more
pub room_stays : (script : Script) (left now : Left) → HasRoom script left → vec_capacity now.clients ≡ vec_capacity left.clients → vec_capacity now.repairers ≡ vec_capacity left.repairers
    → vec_capacity now.directory ≡ vec_capacity left.directory → vec_capacity now.rows ≡ vec_capacity left.rows → HasRoom script now
room_stays script left now room clients repairers directory rows =
    record {
      clients = omega (arith, room.clients, clients);
      repairers = omega (arith, room.repairers, repairers);
      directory = omega (arith, room.directory, directory);
      rows = omega (arith, room.rows, rows);
    }

module _ (store : Store) (done : List SeatedActor) (who : SeatedActor) (left : Left) (next : IsNextOf store done who left) where
  pub room_for_turn : length left.directory.items < vec_capacity left.directory
  room_for_turn =
      let long : length left.directory.items ≡ length done = ap length next.left_is.directory ∙ length-map done (λ a. (turns_in a).directory) in
      let below : length done < turns_of store.script.now = next_below store (length done) who next.over in
      omega (arith, long, below, next.left_is.room.directory)

  pub room_for_row : length left.rows.items < vec_capacity left.rows
  room_for_row =
      let wide : length (items_of left.rows.items) ≡ length left.rows.items = length-map left.rows.items (λ (row : Vec (TurnState ServerIdentity MadeStep) Global). row.items) in
      let long : length (items_of left.rows.items) ≡ length done = ap length next.left_is.rows ∙ length-map done (λ a. (turns_in a).servers.items) in
      let below : length done < turns_of store.script.now = next_below store (length done) who next.over in
      omega (arith, wide, long, below, next.left_is.room.rows)

  pub room_for_client : (calls : CallerCalls) → Leaves who (leaving.Client calls) → length left.clients.items < vec_capacity left.clients
  room_for_client calls leaves =
      let below : length done < length store.script.now.clients = client_next store (length done) who next.over calls leaves in
      omega (arith, below, next.left_is.client_count, next.left_is.room.clients)

  pub room_for_repairer : (calls : CallerCalls) → Leaves who (leaving.Repairer calls) → length left.repairers.items < vec_capacity left.repairers
  room_for_repairer calls leaves =
      let between = repairer_next store (length done) who next.over calls leaves in
      let least : length store.script.now.clients ≤ length done = between.0 in
      let below : length done < length store.script.now.clients + length store.script.now.repairers = between.1 in
      omega (arith, least, below, next.left_is.repairer_count, next.left_is.room.repairers)

-- ---- one more
module _ (store : Store) (done : List SeatedActor) (who : SeatedActor) (left now : Left) (next : IsNextOf store done who left) (room : HasRoom store.script.now now)
    (turn : now.directory.items ≡ left.directory.items ++ (turns_in who).directory ∷ []) (row : now.rows.items ≡ left.rows.items ++ (turns_in who).servers ∷ []) where
  abbrev has : HasLeftOf store.script.now done left
  has = next.left_is

  long : length (done ++ who ∷ []) ≡ length done + 1
  long = length_push done who

  directory_on : now.directory.items ≡ map (λ a. (turns_in a).directory) (done ++ who ∷ [])
  directory_on =
      turn ∙ (ap (λ (l : List (TurnState DirectoryIdentity Noted)). l ++ (turns_in who).directory ∷ []) has.directory ∙ sym (map-append (λ (a : SeatedActor). (turns_in a).directory) done (who ∷ [])))

  rows_on : items_of now.rows.items ≡ map (λ a. (turns_in a).servers.items) (done ++ who ∷ [])
  rows_on =
      ap items_of row
      ∙ (map-append (λ (r : Vec (TurnState ServerIdentity MadeStep) Global). r.items) left.rows.items ((turns_in who).servers ∷ [])
      ∙ (ap (λ (l : List (List (TurnState ServerIdentity MadeStep))). l ++ (turns_in who).servers.items ∷ []) has.rows ∙ sym (map-append (λ (a : SeatedActor). (turns_in a).servers.items) done (who ∷ []))))

  still : (n : ℕ) (calls : CallerCalls) → LeavesCalls done n calls → LeavesCalls (done ++ who ∷ []) n calls
  still n calls l = record { seated = l.seated; there = front done (who ∷ []) n (kind.Caller l.seated) l.there; same = l.same; served = l.served }

  -- who leaves these calls stands at the end
  here : (calls : CallerCalls) (seated : Seated) → who ≡ kind.Caller seated → AreCallsBy seated.caller calls → (n : ℕ) → n ≡ length done → LeavesCalls (done ++ who ∷ []) n calls
  here calls seated is by n same =
      record {
        seated = seated;
        there = ap (λ (k : ℕ). slice_get (done ++ who ∷ []) k) same ∙ (at_end done who ∙ ap (λ (a : SeatedActor). Some a) is);
        same = by.same;
        served = by.served;
      }

  clients_stay : now.clients.items ≡ left.clients.items → (i : ℕ) (calls : CallerCalls) → slice_get now.clients.items i ≡ Some calls → LeavesCalls (done ++ who ∷ []) i calls
  clients_stay same i calls e = still i calls (has.clients i calls (ap (λ (l : List CallerCalls). slice_get l i) (sym same) ∙ e))

  repairers_stay : now.repairers.items ≡ left.repairers.items → (i : ℕ) (calls : CallerCalls) → slice_get now.repairers.items i ≡ Some calls
      → LeavesCalls (done ++ who ∷ []) (length store.script.now.clients + i) calls
  repairers_stay same i calls e =
      still (length store.script.now.clients + i) calls (has.repairers i calls (ap (λ (l : List CallerCalls). slice_get l i) (sym same) ∙ e))

  pub client_leaves : (calls : CallerCalls) → Leaves who (leaving.Client calls) → now.clients.items ≡ left.clients.items ++ calls ∷ [] → now.repairers.items ≡ left.repairers.items
      → HasLeftOf store.script.now (done ++ who ∷ []) now
  client_leaves calls leaves more same =
      record {
        room = room;
        directory = directory_on;
        rows = rows_on;
        client_count =
            (let one : length now.clients.items ≡ length left.clients.items + 1 = ap length more ∙ length_push left.clients.items calls in
            omega (arith, one, long, below, has.client_count));
        clients =
            subst (λ (l : List CallerCalls). (i : ℕ) (c : CallerCalls) → slice_get l i ≡ Some c → LeavesCalls (done ++ who ∷ []) i c) (sym more)
            (each_pushed (λ (i : ℕ) (c : CallerCalls). LeavesCalls (done ++ who ∷ []) i c) left.clients.items calls (λ i c e. still i c (has.clients i c e))
            (here calls its.0 its.1 its.3 (length left.clients.items) (omega (arith, has.client_count, below))));
        repairer_count = (let one : length now.repairers.items ≡ length left.repairers.items = ap length same in omega (arith, one, long, below, has.repairer_count));
        repairers = repairers_stay same;
        sweeper = λ behind. absurd (omega (arith, behind, long, below));
      }
    where
      its : (seated : Seated) × (who ≡ kind.Caller seated) × (is_client seated.actor ≡ true) × AreCallsBy seated.caller calls
      its = of_client who calls leaves

      below : length done < length store.script.now.clients
      below = client_next store (length done) who next.over calls leaves

  pub repairer_leaves : (calls : CallerCalls) → Leaves who (leaving.Repairer calls) → now.repairers.items ≡ left.repairers.items ++ calls ∷ [] → now.clients.items ≡ left.clients.items
      → HasLeftOf store.script.now (done ++ who ∷ []) now
  repairer_leaves calls leaves more same =
      record {
        room = room;
        directory = directory_on;
        rows = rows_on;
        client_count = (let one : length now.clients.items ≡ length left.clients.items = ap length same in omega (arith, one, long, least, has.client_count));
        clients = clients_stay same;
        repairer_count =
            (let one : length now.repairers.items ≡ length left.repairers.items + 1 = ap length more ∙ length_push left.repairers.items calls in
            omega (arith, one, long, least, below, has.repairer_count));
        repairers =
            subst (λ (l : List CallerCalls). (i : ℕ) (c : CallerCalls) → slice_get l i ≡ Some c → LeavesCalls (done ++ who ∷ []) (length store.script.now.clients + i) c) (sym more)
            (each_pushed (λ (i : ℕ) (c : CallerCalls). LeavesCalls (done ++ who ∷ []) (length store.script.now.clients + i) c) left.repairers.items calls
            (λ i c e. still (length store.script.now.clients + i) c (has.repairers i c e))
            (here calls its.0 its.1 its.3 (length store.script.now.clients + length left.repairers.items) (omega (arith, has.repairer_count, least, below))));
        sweeper = λ behind. absurd (omega (arith, behind, long, below));
      }
    where
      its : (seated : Seated) × (who ≡ kind.Caller seated) × (is_client seated.actor ≡ false) × AreCallsBy seated.caller calls
      its = of_repairer who calls leaves

      least : length store.script.now.clients ≤ length done
      least = (repairer_next store (length done) who next.over calls leaves).0

      below : length done < length store.script.now.clients + length store.script.now.repairers
      below = (repairer_next store (length done) who next.over calls leaves).1

  pub sweeper_leaves : (sweeper : SweeperOf) → Leaves who (leaving.Sweeper sweeper) → now.sweeper ≡ sweeper → now.clients.items ≡ left.clients.items → now.repairers.items ≡ left.repairers.items
      → HasLeftOf store.script.now (done ++ who ∷ []) now
  sweeper_leaves sweeper leaves put clients repairers =
      record {
        room = room;
        directory = directory_on;
        rows = rows_on;
        client_count = (let one : length now.clients.items ≡ length left.clients.items = ap length clients in omega (arith, one, long, at, has.client_count));
        clients = clients_stay clients;
        repairer_count = (let one : length now.repairers.items ≡ length left.repairers.items = ap length repairers in omega (arith, one, long, at, has.repairer_count));
        repairers = repairers_stay repairers;
        sweeper = λ behind. record {
          seated = its.0;
          there = ap (λ (k : ℕ). slice_get (done ++ who ∷ []) k) (sym at) ∙ (at_end done who ∙ ap (λ (a : SeatedActor). Some a) its.1);
          same = put ∙ its.2;
        };
      }
    where
      its : (seated : SeatedSweeper) × (who ≡ kind.Sweeper seated) × (sweeper ≡ seated.sweeper)
      its = of_sweeper who sweeper leaves

      at : length done ≡ length store.script.now.clients + length store.script.now.repairers
      at = sweeper_next store (length done) who next.over sweeper leaves

  pub operator_leaves : Leaves who leaving.Operator → now.sweeper ≡ left.sweeper → now.clients.items ≡ left.clients.items → now.repairers.items ≡ left.repairers.items
      → HasLeftOf store.script.now (done ++ who ∷ []) now
  operator_leaves leaves same clients repairers =
      record {
        room = room;
        directory = directory_on;
        rows = rows_on;
        client_count = (let one : length now.clients.items ≡ length left.clients.items = ap length clients in omega (arith, one, long, behind, has.client_count));
        clients = clients_stay clients;
        repairer_count = (let one : length now.repairers.items ≡ length left.repairers.items = ap length repairers in omega (arith, one, long, behind, has.repairer_count));
        repairers = repairers_stay repairers;
        sweeper = λ more.
            (let l : LeavesSweeper done (length store.script.now.clients + length store.script.now.repairers) left.sweeper = has.sweeper behind in
            record {
              seated = l.seated;
              there = front done (who ∷ []) (length store.script.now.clients + length store.script.now.repairers) (kind.Sweeper l.seated) l.there;
              same = same ∙ l.same;
            });
      }
    where
      behind : length store.script.now.clients + length store.script.now.repairers < length done
      behind = operator_next store (length done) who next.over leaves

-- ---- all actors, taken from the end of a reversed list
-- those that have left stand before those that are still there, the next of them at the end
pub record AreLeaving (script : Script) (all : List SeatedActor) (left : Left) (rest : List SeatedActor) : Type 0 where
  pub done : List SeatedActor
  pub whole : all ≡ done ++ reverse rest
  pub left_is : HasLeftOf script done left

pub leaving_begins : (script : Script) (all rest : List SeatedActor) (left : Left) → HasLeftOf script [] left → rest ≡ reverse all → AreLeaving script all left rest
leaving_begins script all rest left has is = record { done = []; whole = sym (ap reverse is ∙ reverse-reverse all); left_is = has }

module _ (store : Store) (all : List SeatedActor) (are : AreAllOver store all) where
  module _ (left : Left) (rest now : List SeatedActor) (who : SeatedActor) (at : AreLeaving store.script.now all left rest) (taken : rest ≡ now ++ who ∷ []) where
    turned : reverse rest ≡ who ∷ reverse now
    turned = ap reverse taken ∙ reverse-append now (who ∷ [])

    whole_on : all ≡ (at.done ++ who ∷ []) ++ reverse now
    whole_on = at.whole ∙ (ap (λ (l : List SeatedActor). at.done ++ l) turned ∙ sym (append_assoc at.done (who ∷ []) (reverse now)))

    there : slice_get all (length at.done) ≡ Some who
    there =
        ap (λ (l : List SeatedActor). slice_get l (length at.done)) whole_on
        ∙ front (at.done ++ who ∷ []) (reverse now) (length at.done) who (at_end at.done who)

    pub next_is : IsNextOf store at.done who left
    next_is = record { left_is = at.left_is; over = are.each (length at.done) who there }

    pub leaving_on : (after : Left) → HasLeftOf store.script.now (at.done ++ who ∷ []) after → AreLeaving store.script.now all after now
    leaving_on after has = record { done = at.done ++ who ∷ []; whole = whole_on; left_is = has }

  pub all_left : (left : Left) (rest : List SeatedActor) → AreLeaving store.script.now all left rest → rest ≡ [] → HasLeft store left
  all_left left rest at none =
      record {
        actors = all;
        count = are.count;
        each = are.each;
        directory = has.directory;
        rows = has.rows;
        client_count = omega (arith, has.client_count, are.count);
        clients = has.clients;
        repairer_count = omega (arith, has.repairer_count, are.count);
        repairers = has.repairers;
        sweeper = has.sweeper (omega (arith, are.count));
      }
    where
      whole : at.done ≡ all
      whole = sym (at.whole ∙ (ap (λ (l : List SeatedActor). at.done ++ reverse l) none ∙ append-nil at.done))

      has : HasLeftOf store.script.now all left
      has = subst (λ (l : List SeatedActor). HasLeftOf store.script.now l left) whole at.left_is
