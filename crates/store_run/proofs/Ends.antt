-- The places out of their locks, with what the actors leave, are the end of a run.
use Rattle.std.proofs.Common.{◌≡◌, ℕ, zero, suc, ◌+◌, ◌<◌, false, List, [], ◌∷◌, length, map, drop, slice_get, Option, Some, Vec, nat_lt, option_map, unwrap_or, refl, sym, ap, subst, ◌∙◌, arith}
use Rattle.std.proofs.lemmas.Bool.{ltb-false}
use Rattle.std.proofs.lemmas.List.{drop_all, length-map}
use Rattle.std.proofs.lemmas.Option.{none-some, slice_get_within}
use Rattle.std.specs.Global.{Global}
use Rattle.clay_grid.specs.Shape.{Shape, chunk_count}
use Rattle.store_map.specs.declared.actor.Actor.TheVariants as actor
use Rattle.store_map.specs.declared.actor.Token.{Token}
use Rattle.store_map.specs.declared.script.Script.{Script}
use Rattle.store_core.specs.Server.{Server}
use Rattle.store_core.specs.Work.{Calling, Ended as EndedWork, Work, client_work, repairer_work}
use Rattle.thread_laws.specs.MadeSteps.{MadeStep}
use Rattle.run_laws.proofs.Scripts.{Mapped, mapped}
use Rattle.version_seal.specs.Entry.{BookOf}
use Rattle.chunk_server.specs.Core.{core_of}
use Rattle.chunk_server.specs.State.{ServerState}
use Rattle.stripe_stamps.specs.Sealed.{Sealed}
use Rattle.sweeper.specs.Sweeps.{SweeperOf}
use Rattle.call_steps.specs.CallerCalls.{calling_at, ended_of}
use Rattle.world_laws.specs.Served.{outcome_in, served_in}
use Rattle.call_steps.specs.declared.caller_calls.CallerCalls.{CallerCalls}
use Rattle.call_steps.specs.declared.caller_calls.EndedCall.{EndedCall}
use Rattle.world_laws.specs.Known.{calling_by, calling_of}
use Rattle.world_laws.specs.World.{DoingOf}
use Rattle.actors.specs.Callers.{PartOf, who_of}
use Rattle.actors.specs.Inside.{served_of}
use Rattle.turn_lock.proofs.JoinedLists.{at_place}
use Rattle.turn_lock.specs.Out.{HasOwnAt}
use Rattle.turn_lock.specs.Piles.{items_of}
use Rattle.thread_laws.specs.AtServer.{StandsAtServer}
use Rattle.thread_laws.specs.Noted.{made_in}
use Rattle.thread_laws.specs.Numbers.{actor_at}
use Rattle.thread_laws.specs.Callers.{IsOperating, IsSweeping}
use Rattle.thread_laws.specs.PlaceEnded.{AllHaveEnded, CallerOf, HasEnded, PlacesStand}
use Rattle.thread_laws.specs.Logs.{HasSeenOwn, Logs, counts_of, log_of, own_at}
use Rattle.thread_laws.proofs.Turns.{client_turn, operator_turn}
use Rattle.thread_laws.specs.SeenOwed.{OwedBySeen}
use Rattle.run_seats.specs.Owing.{OwesBySteps}
use Rattle.run_seats.specs.Places.{IsStore, seen_by}
use Rattle.run_seats.specs.Seated.{IsSeated}
use Rattle.run_seats.specs.declared.seated.Seated.{Seated}
use Rattle.run_seats.specs.declared.seated_actor.SeatedActor.{SeatedActor}
use Rattle.run_seats.specs.declared.seated_actor.SeatedActor.TheVariants as kind
use Rattle.run_seats.specs.declared.seated_operator.SeatedOperator.{SeatedOperator}
use Rattle.run_seats.specs.declared.store.Store.{Store}
use Rattle.store_run.specs.Closed.{AreServersOut, IsDirectoryOut}
use Rattle.store_run.specs.Ended.{AreCallsOf, IsEnded}
use Rattle.store_run.specs.Left.{HasLeft, IsOver, LeavesCalls, turns_in}
use Rattle.store_run.specs.declared.left_workers.Left.{Left}
use Rattle.store_run.proofs.Chosen.{Chosen, chosen, same_images}
use Rattle.store_run.proofs.Closing.{has_turns}
use Rattle.store_run.proofs.Over.{client_ended, repairer_ended}
use Rattle.store_run.proofs.Seeing.{its_turn, sees_own}

-- ---- the calls that a caller leaves
abbrev caller_of : Seated → CallerOf
caller_of seated = record { seen = seen_by seated.turns; actor = seated.caller.actor }

-- a caller that leaves these calls
record IsLeftBy (actors : List SeatedActor) (from i : ℕ) (calls : CallerCalls) (caller : CallerOf) : Type 0 where
  pub leaves : LeavesCalls actors (from + i) calls
  pub is : caller ≡ caller_of leaves.seated

ended_by : (servers : ℕ) (ended : List EndedWork) (doing : DoingOf) → (calling_by servers ended doing).ended ≡ ended
ended_by servers ended (DoingOf.Between token) = refl
ended_by servers ended (DoingOf.InCall call steps) = refl

outcome_there : (servers : ℕ) (ended : List EndedCall) (n : ℕ) → outcome_in (slice_get ended n) ≡ option_map (λ (e : EndedWork). e.outcome) (slice_get (map (ended_of servers) ended) n)
outcome_there servers [] n = refl
outcome_there servers (e ∷ ended) zero = refl
outcome_there servers (e ∷ ended) (suc n) = outcome_there servers ended n

bytes_there : (ended : List EndedCall) (n : ℕ) (bytes : List ℕ) → served_in (slice_get ended n) ≡ Some bytes → slice_get (served_of ended) n ≡ Some (Some bytes)
bytes_there [] n bytes e = absurd (none-some bytes e)
bytes_there (x ∷ ended) zero bytes e = ap Some e
bytes_there (x ∷ ended) (suc n) bytes e = bytes_there ended n bytes e

-- ---- who is the last one
not_operator : (part : PartOf) (place : ℕ) → who_of part place ≡ actor.Operator → ⊥
not_operator (PartOf.OfClient part) place same = cc same
not_operator (PartOf.OfRepairer part) place same = cc same

no_line_left : (operator : SeatedOperator) → nat_lt operator.made (length operator.lines.items) ≡ false → drop operator.made operator.lines.items ≡ []
no_line_left operator over = drop_all operator.made operator.lines.items (ltb-false operator.made (length operator.lines.items) over)

module _ (store : Store) (store_is : IsStore store) (left : Left) (has : HasLeft store left) where
  abbrev script : Script
  script = store.script.now

  abbrev width : ℕ
  width = chunk_count store.script.now.geometry

  abbrev sweeper_at : ℕ
  sweeper_at = length store.script.now.clients + length store.script.now.repairers

  by_kind : (a : SeatedActor) → IsOver store (sweeper_at + 1) a → slice_get has.actors (sweeper_at + 1) ≡ Some a → (o : SeatedOperator) × (slice_get has.actors (sweeper_at + 1) ≡ Some (kind.Operator o))
  by_kind (kind.Operator operator) over there = (operator, there)
  by_kind (kind.Sweeper sweeper) over there =
      let same : actor.Sweeper ≡ actor.Operator = over.seated_is.turn.whose ∙ (ap (actor_at (counts_of script)) over.numbered ∙ sym (operator_turn (counts_of script)).whose) in
      absurd (cc same)
  by_kind (kind.Caller seated) over there =
      absurd
      (not_operator seated.caller.part seated.place
      (sym over.seated_is.whose ∙ (over.seated_is.turn.whose ∙ (ap (actor_at (counts_of script)) over.numbered ∙ sym (operator_turn (counts_of script)).whose))))

  operator_there : (o : SeatedOperator) × (slice_get has.actors (sweeper_at + 1) ≡ Some (kind.Operator o))
  operator_there =
      let one : (a : SeatedActor) × (slice_get has.actors (sweeper_at + 1) ≡ Some a) = at_place has.actors (sweeper_at + 1) (omega (arith, has.count)) in
      by_kind one.0 (has.each (sweeper_at + 1) one.0 one.1) one.1

  -- ---- the callers and their calls
  code : (seated : Seated) → IsSeated store seated → seated.caller.book.geometry ≡ store.script.now.geometry
  code seated is = ap (λ (b : BookOf). b.geometry) is.book ∙ store_is.code

  calls_are : (n : ℕ) (calls : CallerCalls) (of : LeavesCalls has.actors n calls) → calling_of script of.seated.caller.actor ≡ calling_at width calls
  calls_are n calls of =
      let over : IsOver store n (kind.Caller of.seated) = has.each n (kind.Caller of.seated) of.there in
      let geometry : of.seated.caller.book.geometry ≡ store.script.now.geometry = code of.seated over.seated_is in
      sym
      (subst (λ (g : Shape). calling_at (chunk_count g) calls ≡ calling_by (chunk_count g) of.seated.caller.actor.ended of.seated.caller.actor.doing) geometry of.same)

  callers_of : (from : ℕ) (calls : List CallerCalls) → ((i : ℕ) (c : CallerCalls) → slice_get calls i ≡ Some c → LeavesCalls has.actors (from + i) c) → Chosen (IsLeftBy has.actors from) calls
  callers_of from calls each = chosen (IsLeftBy has.actors from) calls (λ i c e. (caller_of (each i c e).seated, record { leaves = each i c e; is = refl }))

  are_calls : (from : ℕ) (calls : List CallerCalls) (callers : Chosen (IsLeftBy has.actors from) calls) → AreCallsOf script callers.list calls
  are_calls from calls callers =
      same_images (λ (c : CallerOf). calling_of script c.actor) (calling_at width) callers.list calls callers.count
      (λ i caller c e f.
      let by : IsLeftBy has.actors from i c caller = callers.each i c caller f e in
      ap (λ (a : CallerOf). calling_of script a.actor) by.is ∙ calls_are (from + i) c by.leaves)

  -- the callers of a kind, each at its number
  clients : Chosen (IsLeftBy has.actors 0) left.clients.items
  clients = callers_of 0 left.clients.items (λ i c e. let here : i ≡ 0 + i = omega arith in subst (λ (n : ℕ). LeavesCalls has.actors n c) here (has.clients i c e))

  repairers : Chosen (IsLeftBy has.actors (length store.script.now.clients)) left.repairers.items
  repairers = callers_of (length store.script.now.clients) left.repairers.items has.repairers

  module _ (directory : Sealed) (out : IsDirectoryOut store left.directory.items directory) (servers : Vec ServerState Global) (are : AreServersOut store (items_of left.rows.items) servers.items) where
    abbrev logs : Logs
    logs = record { directory = out.log; servers = are.logs }

    server_there : (j : ℕ) (log : List (ℕ × MadeStep)) → slice_get are.logs j ≡ Some log → HasOwnAt (items_of left.rows.items) j log
    server_there j log e =
        let within : j < length are.logs = slice_get_within are.logs j log e in
        let one : (s : ServerState) × (slice_get servers.items j ≡ Some s) = at_place servers.items j (omega (arith, within, are.logged, are.count)) in
        (are.each j one.0 log one.1 e).own

    saw : (n : ℕ) (a : SeatedActor) → slice_get has.actors n ≡ Some a → HasSeenOwn n (seen_by (turns_in a)) logs
    saw n a there =
        sees_own store left has n a there logs out.whole.own server_there
        (are.logged ∙ (store_is.count ∙ sym (has_turns store store_is left has n a there).count))

    -- ---- the places
    places : PlacesStand script directory (map core_of servers.items) logs
    places =
        record {
          book = ap (λ (b : BookOf). b.geometry) out.book ∙ store_is.code;
          directory = out.stands;
          width = length-map servers.items core_of ∙ (are.count ∙ store_is.count);
          logged = are.logged ∙ store_is.count;
          at_server = λ j s e.
              let one : Mapped core_of servers.items j s = mapped core_of servers.items j s e in
              let within : j < length servers.items = slice_get_within servers.items j one.source one.found in
              let log : (l : List (ℕ × MadeStep)) × (slice_get are.logs j ≡ Some l) = at_place are.logs j (omega (arith, within, are.logged, are.count)) in
              let there : log.0 ≡ log_of logs j = sym (ap (λ (o : Option (List (ℕ × MadeStep))). unwrap_or o []) log.1) in
              subst (λ (l : List (ℕ × MadeStep)). StandsAtServer (counts_of script) j s l) there
              (subst (λ (t : Server). StandsAtServer (counts_of script) j t log.0) one.is_image (are.each j one.source log.0 one.found log.1).stands);
        }

    numbers : (j : ℕ) (server : ServerState) → slice_get servers.items j ≡ Some server → server.number ≡ j
    numbers j server e =
        let within : j < length servers.items = slice_get_within servers.items j server e in
        let log : (l : List (ℕ × MadeStep)) × (slice_get are.logs j ≡ Some l) = at_place are.logs j (omega (arith, within, are.logged, are.count)) in
        (are.each j server log.0 e log.1).number_is

    -- ---- the actors
    client_over : (i : ℕ) (work : Work) (caller : CallerOf) → slice_get (client_work script) i ≡ Some work → slice_get clients.list i ≡ Some caller → HasEnded script logs i (actor.Client i) work caller
    client_over i work caller e f =
        let within : i < length clients.list = slice_get_within clients.list i caller f in
        let calls : (c : CallerCalls) × (slice_get left.clients.items i ≡ Some c) = at_place left.clients.items i (omega (arith, within, clients.count)) in
        let by : IsLeftBy has.actors 0 i calls.0 caller = clients.each i calls.0 caller calls.1 f in
        let there : slice_get has.actors i ≡ Some (kind.Caller by.leaves.seated) = (let here : 0 + i ≡ i = omega arith in subst (λ (n : ℕ). slice_get has.actors n ≡ Some (kind.Caller by.leaves.seated)) here by.leaves.there) in
        let over : IsOver store i (kind.Caller by.leaves.seated) = has.each i (kind.Caller by.leaves.seated) there in
        subst (HasEnded script logs i (actor.Client i) work) (sym by.is)
        (client_ended store by.leaves.seated over.seated_is over.over logs i work (omega (arith, within, clients.count, has.client_count)) over.numbered e (saw i (kind.Caller by.leaves.seated) there))

    repairer_over : (i : ℕ) (work : Work) (caller : CallerOf) → slice_get (repairer_work script) i ≡ Some work → slice_get repairers.list i ≡ Some caller
        → HasEnded script logs (length store.script.now.clients + i) (actor.Repairer i) work caller
    repairer_over i work caller e f =
        let within : i < length repairers.list = slice_get_within repairers.list i caller f in
        let calls : (c : CallerCalls) × (slice_get left.repairers.items i ≡ Some c) = at_place left.repairers.items i (omega (arith, within, repairers.count)) in
        let by : IsLeftBy has.actors (length store.script.now.clients) i calls.0 caller = repairers.each i calls.0 caller calls.1 f in
        let n : ℕ = length store.script.now.clients + i in
        let over : IsOver store n (kind.Caller by.leaves.seated) = has.each n (kind.Caller by.leaves.seated) by.leaves.there in
        subst (HasEnded script logs n (actor.Repairer i) work) (sym by.is)
        (repairer_ended store by.leaves.seated over.seated_is over.over logs i work (omega (arith, within, repairers.count, has.repairer_count)) over.numbered e
        (saw n (kind.Caller by.leaves.seated) by.leaves.there))

    sweeping : IsSweeping script (own_at sweeper_at (seen_by has.sweeper.seated.turns)) left.sweeper.at
    sweeping =
        let over : IsOver store sweeper_at (kind.Sweeper has.sweeper.seated) = has.each sweeper_at (kind.Sweeper has.sweeper.seated) has.sweeper.there in
        subst (λ (s : SweeperOf). IsSweeping script (own_at sweeper_at (seen_by has.sweeper.seated.turns)) s.at) (sym has.sweeper.same)
        (subst (λ (n : ℕ). IsSweeping script (own_at n (seen_by has.sweeper.seated.turns)) has.sweeper.seated.sweeper.at) over.numbered over.seated_is.sweeping)

    operating : IsOperating script (own_at (sweeper_at + 1) (seen_by operator_there.0.turns)) []
    operating =
        let operator : SeatedOperator = operator_there.0 in
        let over : IsOver store (sweeper_at + 1) (kind.Operator operator) = has.each (sweeper_at + 1) (kind.Operator operator) operator_there.1 in
        subst (λ (l : List Token). IsOperating script (own_at (sweeper_at + 1) (seen_by operator.turns)) l) (no_line_left operator over.over)
        (subst (λ (n : ℕ). IsOperating script (own_at n (seen_by operator.turns)) (drop operator.made operator.lines.items)) over.numbered over.seated_is.operating)

    all_ended : AllHaveEnded script logs (seen_by has.sweeper.seated.turns) (seen_by operator_there.0.turns) clients.list repairers.list left.sweeper.at
    all_ended =
        record {
          client_count = clients.count ∙ has.client_count;
          clients_ended = client_over;
          repairer_count = repairers.count ∙ has.repairer_count;
          repairers_ended = repairer_over;
          saw_swept = saw sweeper_at (kind.Sweeper has.sweeper.seated) has.sweeper.there;
          sweeping = sweeping;
          saw_operated = saw (sweeper_at + 1) (kind.Operator operator_there.0) operator_there.1;
          operating = operating;
        }

    -- ---- what the clients' calls were served
    owed : (i : ℕ) (calls : CallerCalls) → slice_get left.clients.items i ≡ Some calls → OwedBySeen script logs i calls
    owed i calls e =
        record {
          seen = of.seated.turns.directory.seen;
          goes = out.whole.begins i of.seated.turns.directory (its_turn store left has i (kind.Caller of.seated) of.there);
          owed = λ number place bytes o s.
              owes.ended number place bytes (ap (λ (l : List EndedWork). option_map (λ (w : EndedWork). w.outcome) (slice_get l number)) ends ∙ (sym (outcome_there width calls.ended.items number) ∙ o))
              (ap (λ (l : List (Option (List ℕ))). slice_get l number) (sym of.served) ∙ bytes_there calls.ended.items number bytes s);
        }
      where
        of : LeavesCalls has.actors i calls
        of = has.clients i calls e

        over : IsOver store i (kind.Caller of.seated)
        over = has.each i (kind.Caller of.seated) of.there

        less : i < length store.script.now.clients
        less = let within : i < length left.clients.items = slice_get_within left.clients.items i calls e in omega (arith, within, has.client_count)

        whose : of.seated.actor ≡ actor.Client i
        whose = over.seated_is.turn.whose ∙ (ap (actor_at (counts_of script)) over.numbered ∙ sym (client_turn (counts_of script) i less).whose)

        owes : OwesBySteps script (made_in of.seated.turns.directory.seen) i of.seated.caller
        owes = over.seated_is.owes i whose

        ends : of.seated.caller.actor.ended ≡ map (ended_of width) calls.ended.items
        ends = sym (ended_by width of.seated.caller.actor.ended of.seated.caller.actor.doing) ∙ ap (λ (c : Calling). c.ended) (calls_are i calls of)

    sweeper_servers : left.sweeper.servers ≡ chunk_count store.script.now.geometry
    sweeper_servers =
        let over : IsOver store sweeper_at (kind.Sweeper has.sweeper.seated) = has.each sweeper_at (kind.Sweeper has.sweeper.seated) has.sweeper.there in
        ap (λ (s : SweeperOf). s.servers) has.sweeper.same ∙ over.seated_is.servers

    pub is_ended : IsEnded store.script.now (record { directory = directory; servers = servers; sweeper = left.sweeper; clients = left.clients; repairers = left.repairers })
    is_ended =
        record {
          geometry = store_is.geometry;
          valid = store_is.valid;
          written = ap (λ (b : BookOf). b.script) out.book ∙ store_is.written;
          logs = logs;
          swept = seen_by has.sweeper.seated.turns;
          operated = seen_by operator_there.0.turns;
          clients = clients.list;
          repairers = repairers.list;
          places = places;
          numbers = numbers;
          all = all_ended;
          servers = sweeper_servers;
          calls = are_calls 0 left.clients.items clients;
          rebuilds = are_calls (length store.script.now.clients) left.repairers.items repairers;
          owed = owed;
        }
