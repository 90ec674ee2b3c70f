-- The small run ends as it should.
use Rattle.std.proofs.Common.{◌≡◌, ℕ, zero, suc, ◌<◌, ◌≤◌, true, false, cond, List, [], ◌∷◌, filter, unwrap_or, None, Some, refl, sym, ap, subst, ◌∙◌, arith, ne_eqb, eqb-true, true≢false}
use Rattle.std.proofs.lemmas.List.Elements.{All-nil, All-cons}
use Rattle.std.proofs.lemmas.Option.{none-some, same_Some}
use Rattle.std.specs.Prelude.{IsTrue, codes}
use Rattle.std.specs.List.{slice_get}
use Rattle.store_map.specs.Limits.{size_of}
use Rattle.store_map.specs.declared.actor.Actor.{Actor}
use Rattle.store_map.specs.declared.actor.Actor.TheVariants as actor
use Rattle.store_core.specs.ActPlace.{ActPlace}
use Rattle.store_core.specs.Agreement.{AgreesWithSeat, Agrees, AreBelow}
use Rattle.store_core.specs.Directory.{Event, Point}
use Rattle.store_core.specs.Note.{note_of}
use Rattle.store_map.specs.declared.call.Call.{Call}
use Rattle.store_map.specs.declared.call.Call.TheVariants as call
use Rattle.store_map.specs.declared.reply.Reply.TheVariants as reply
use Rattle.store_core.specs.Lookups.{same_actor}
use Rattle.store_core.specs.Server.{Server, new_server}
use Rattle.store_core.specs.Sweep.{Sweeper}
use Rattle.store_core.specs.Work.{Work, client_work}
use Rattle.thread_laws.specs.MadeSteps.{MadeStep, is_by, is_at, MomentsRise}
use Rattle.thread_laws.specs.AtPlaces.{server_next}
use Rattle.thread_laws.specs.ByActors.{sweeper_next, IsNextSweep}
use Rattle.thread_laws.specs.OwnSteps.{AreOwn}
use Rattle.thread_laws.specs.StatsExample.{two_stats, first_stat, second_stat, the_wipe}
use Rattle.thread_laws.specs.AtDirectory.{StandsAtDirectory}
use Rattle.thread_laws.specs.AtServer.{StandsAtServer}
use Rattle.thread_laws.specs.Noted.{Noted, tokens_after, token_in, IsCaller}
use Rattle.world_laws.specs.Tokens.{first_token}
use Rattle.thread_laws.specs.Numbers.{IsTurnOf}
use Rattle.thread_laws.specs.Logs.{log_of, own_at, counts_of}
use Rattle.thread_laws.specs.Callers.{IsCalling, IsOperating}
use Rattle.thread_laws.specs.PlaceEnded.{CallerOf, HasEnded}
use Rattle.thread_laws.specs.PlaceWorked.{stats_logs, stats_directory, stats_servers, stats_client, StatsHaveEnded}
use Rattle.thread_laws.proofs.Others.{all_places_begin}
use Rattle.thread_laws.proofs.Plain.{listed_first}

-- ---- the directory
abbrev steps : List MadeStep
steps = first_stat ∷ second_stat ∷ []

apart : (i j : ℕ) → (i ≡ j → ⊥) → IsTrue (same_actor (actor.Client i) (actor.Client j)) → ⊥
apart i j differ h = differ (eqb-true i j h)

-- its two points
asked : ℕ → Call → Point
asked i call = record { actor = actor.Client i; number = 0; note = note_of call; event = Event.Answer reply.NoSuch }

below : (who : Actor) (number : ℕ) → (IsTrue (same_actor (actor.Client 0) who) → 0 < number) → (IsTrue (same_actor (actor.Client 1) who) → 0 < number) → AreBelow who number stats_directory.core.points
unfolding asked
below who number first second =
    All-cons (λ (point : Point). IsTrue (same_actor point.actor who) → point.number < number) (asked 0 (call.Stat (codes "a"))) (asked 1 (call.Stat (codes "b")) ∷ []) first
    (All-cons (λ (point : Point). IsTrue (same_actor point.actor who) → point.number < number) (asked 1 (call.Stat (codes "b"))) [] second (All-nil (λ (point : Point). IsTrue (same_actor point.actor who) → point.number < number)))

no_step : (who : Actor) → is_by who first_stat ≡ false → is_by who second_stat ≡ false → filter (is_by who) steps ≡ []
no_step who e f =
    ap (λ b. cond {A = List MadeStep} b (first_stat ∷ filter (is_by who) (second_stat ∷ [])) (filter (is_by who) (second_stat ∷ []))) e
    ∙ ap (λ b. cond {A = List MadeStep} b (second_stat ∷ []) []) f

agree : (who : Actor) → IsCaller who → Agrees stats_directory.core (token_in who steps)
agree (actor.Client zero) caller =
    let seat : AgreesWithSeat stats_directory.core (record { actor = actor.Client 0; unused = 1; told = Some 0 }) =
    record { no_pass = refl; numbers = below (actor.Client 0) 1 (λ _. omega arith) (λ _. omega arith); told = let h : 0 < 2 = omega arith in h } in seat
agree (actor.Client (suc zero)) caller =
    let seat : AgreesWithSeat stats_directory.core (record { actor = actor.Client 1; unused = 1; told = Some 1 }) =
    record { no_pass = refl; numbers = below (actor.Client 1) 1 (λ _. omega arith) (λ _. omega arith); told = let h : 1 < 2 = omega arith in h } in seat
agree (actor.Client (suc (suc i))) caller =
    let who : Actor = actor.Client (suc (suc i)) in
    let none : filter (is_by who) steps ≡ [] = no_step who (ne_eqb (suc (suc i)) 0 (λ e. absurd (omega (arith, e)))) (ne_eqb (suc (suc i)) 1 (λ e. absurd (omega (arith, e)))) in
    subst (λ l. Agrees stats_directory.core (tokens_after l (first_token who))) (sym none)
    (record {
      no_pass = refl;
      numbers = below who 0 (λ h. absurd (apart 0 (suc (suc i)) (λ e. absurd (omega (arith, e))) h)) (λ h. absurd (apart 1 (suc (suc i)) (λ e. absurd (omega (arith, e))) h));
      told = tt;
    })
agree (actor.Repairer i) caller =
    let seat : AgreesWithSeat stats_directory.core (record { actor = actor.Repairer i; unused = 0; told = _ }) =
    record { no_pass = refl; numbers = below (actor.Repairer i) 0 (λ h. absurd (true≢false (sym h))) (λ h. absurd (true≢false (sym h))); told = tt } in seat
agree who caller = absurd caller

directory_stands : StandsAtDirectory (counts_of two_stats) (size_of two_stats) stats_directory stats_logs.directory
directory_stands =
    record {
      ends = refl;
      answers = (refl, (refl, tt));
      here = All-cons (λ m. is_at ActPlace.Directory m ≡ true) first_stat (second_stat ∷ []) refl (All-cons (λ m. is_at ActPlace.Directory m ≡ true) second_stat [] refl (All-nil (λ m. is_at ActPlace.Directory m ≡ true)));
      rise = (All-cons (λ (later : MadeStep). 1 < later.moment) second_stat [] (omega arith) (All-nil (λ (later : MadeStep). 1 < later.moment)), (All-nil (λ (later : MadeStep). 2 < later.moment), tt));
      turns =
          All-cons (λ (entry : ℕ × Noted). IsTurnOf (counts_of two_stats) entry.0 entry.1.made.actor) (0, record { made = first_stat; drawn = [] }) ((1, record { made = second_stat; drawn = [] }) ∷ []) (record { below = omega arith; whose = refl })
          (All-cons (λ (entry : ℕ × Noted). IsTurnOf (counts_of two_stats) entry.0 entry.1.made.actor) (1, record { made = second_stat; drawn = [] }) [] (record { below = omega arith; whose = refl })
          (All-nil (λ (entry : ℕ × Noted). IsTurnOf (counts_of two_stats) entry.0 entry.1.made.actor)));
      stamps = refl;
      agree = agree;
      bytes = tt;
    }

-- ---- the servers
emptied : StandsAtServer (counts_of two_stats) 1 (server_next the_wipe new_server) ((3, the_wipe) ∷ [])
emptied =
    record {
      ends = refl;
      answers = (refl, tt);
      here = All-cons (λ m. is_at (ActPlace.Server 1) m ≡ true) the_wipe [] refl (All-nil (λ m. is_at (ActPlace.Server 1) m ≡ true));
      rise = (All-nil (λ (later : MadeStep). 1 < later.moment), tt);
      turns =
          All-cons (λ (entry : ℕ × MadeStep). IsTurnOf (counts_of two_stats) entry.0 entry.1.actor) (3, the_wipe) [] (record { below = omega arith; whose = refl })
          (All-nil (λ (entry : ℕ × MadeStep). IsTurnOf (counts_of two_stats) entry.0 entry.1.actor));
    }

servers_stand : (j : ℕ) (s : Server) → slice_get stats_servers j ≡ Some s → StandsAtServer (counts_of two_stats) j s (log_of stats_logs j)
servers_stand zero s e = subst (λ (x : Server). StandsAtServer (counts_of two_stats) 0 x []) (same_Some new_server s e) ((all_places_begin (counts_of two_stats)).server 0)
servers_stand (suc zero) s e = subst (λ (x : Server). StandsAtServer (counts_of two_stats) 1 x ((3, the_wipe) ∷ [])) (same_Some (server_next the_wipe new_server) s e) emptied
servers_stand (suc (suc zero)) s e = subst (λ (x : Server). StandsAtServer (counts_of two_stats) 2 x []) (same_Some new_server s e) ((all_places_begin (counts_of two_stats)).server 2)
servers_stand (suc (suc (suc zero))) s e = subst (λ (x : Server). StandsAtServer (counts_of two_stats) 3 x []) (same_Some new_server s e) ((all_places_begin (counts_of two_stats)).server 3)
servers_stand (suc (suc (suc (suc j)))) s e = absurd (none-some s e)

-- ---- the actors
abbrev work_at : ℕ → Work
work_at i = unwrap_or (slice_get (client_work two_stats) i) (record { jobs = []; leave = None })

-- at the servers the clients have no steps
own_of : (i : ℕ) (m : MadeStep) → own_at i stats_logs ActPlace.Directory ≡ m ∷ [] → is_at ActPlace.Directory m ≡ true → ((j : ℕ) → own_at i stats_logs (ActPlace.Server j) ≡ []) → AreOwn 4 (own_at i stats_logs)
own_of i m is here none = record { here = each; order = rises; past = λ j _. none j }
  where
    each : (place : ActPlace) → filter (is_at place) (own_at i stats_logs place) ≡ own_at i stats_logs place
    each ActPlace.Directory = ap (filter (is_at ActPlace.Directory)) is ∙ (ap (λ b. cond {A = List MadeStep} b (m ∷ []) []) here ∙ sym is)
    each (ActPlace.Server j) = ap (filter (is_at (ActPlace.Server j))) (none j) ∙ sym (none j)

    rises : (place : ActPlace) → MomentsRise (own_at i stats_logs place)
    rises ActPlace.Directory = subst MomentsRise (sym is) (All-nil (λ (later : MadeStep). m.moment < later.moment), tt)
    rises (ActPlace.Server j) = subst MomentsRise (sym (none j)) tt

first_none : (j : ℕ) → own_at 0 stats_logs (ActPlace.Server j) ≡ []
first_none zero = refl
first_none (suc zero) = refl
first_none (suc (suc zero)) = refl
first_none (suc (suc (suc zero))) = refl
first_none (suc (suc (suc (suc j)))) = refl

second_none : (j : ℕ) → own_at 1 stats_logs (ActPlace.Server j) ≡ []
second_none zero = refl
second_none (suc zero) = refl
second_none (suc (suc zero)) = refl
second_none (suc (suc (suc zero))) = refl
second_none (suc (suc (suc (suc j)))) = refl

first_acting : IsCalling two_stats (actor.Client 0) (work_at 0) (own_at 0 stats_logs) (stats_client 0).actor
first_acting =
    record {
      calling = record { ended = (stats_client 0).actor.ended; told = []; takes = 0 ∷ 0 ∷ 0 ∷ 0 ∷ []; steps = 0 };
      listed =
          record {
            own = own_of 0 first_stat refl refl first_none;
            rise = (All-nil (λ (later : MadeStep). 1 < later.moment), tt);
            come = ((refl, refl, tt), tt);
            leads = refl;
          };
      stands = record { ended = refl; doing = record { between = record { told = refl; takes = refl }; none = refl } };
      token = refl;
      numbered = let h : 1 ≤ 1 = omega arith in h;
      heard = tt;
      bounded = let h : 0 ≤ 1 = omega arith in h;
    }

second_acting : IsCalling two_stats (actor.Client 1) (work_at 1) (own_at 1 stats_logs) (stats_client 1).actor
second_acting =
    record {
      calling = record { ended = (stats_client 1).actor.ended; told = []; takes = 0 ∷ 0 ∷ 0 ∷ 0 ∷ []; steps = 0 };
      listed =
          record {
            own = own_of 1 second_stat refl refl second_none;
            rise = (All-nil (λ (later : MadeStep). 2 < later.moment), tt);
            come = ((refl, refl, tt), tt);
            leads = refl;
          };
      stands = record { ended = refl; doing = record { between = record { told = refl; takes = refl }; none = refl } };
      token = refl;
      numbered = let h : 1 ≤ 1 = omega arith in h;
      heard = tt;
      bounded = let h : 0 ≤ 1 = omega arith in h;
    }

clients_ended : (i : ℕ) (work : Work) (caller : CallerOf) → slice_get (client_work two_stats) i ≡ Some work → slice_get (stats_client 0 ∷ stats_client 1 ∷ []) i ≡ Some caller
    → HasEnded two_stats stats_logs i (actor.Client i) work caller
clients_ended zero work caller e f =
    subst (λ (w : Work). HasEnded two_stats stats_logs 0 (actor.Client 0) w caller) (same_Some (work_at 0) work e)
    (subst (λ (s : CallerOf). HasEnded two_stats stats_logs 0 (actor.Client 0) (work_at 0) s) (same_Some (stats_client 0) caller f) (record { saw = λ place. refl; acting = first_acting; over = refl }))
clients_ended (suc zero) work caller e f =
    subst (λ (w : Work). HasEnded two_stats stats_logs 1 (actor.Client 1) w caller) (same_Some (work_at 1) work e)
    (subst (λ (s : CallerOf). HasEnded two_stats stats_logs 1 (actor.Client 1) (work_at 1) s) (same_Some (stats_client 1) caller f) (record { saw = λ place. refl; acting = second_acting; over = refl }))
clients_ended (suc (suc i)) work caller e f = absurd (none-some caller f)

-- the sweeper has made no step
swept_none : (place : ActPlace) → own_at 2 stats_logs place ≡ []
swept_none ActPlace.Directory = refl
swept_none (ActPlace.Server zero) = refl
swept_none (ActPlace.Server (suc zero)) = refl
swept_none (ActPlace.Server (suc (suc zero))) = refl
swept_none (ActPlace.Server (suc (suc (suc zero)))) = refl
swept_none (ActPlace.Server (suc (suc (suc (suc j))))) = refl

-- the operator
operated : IsOperating two_stats (own_at 3 stats_logs) []
operated =
    record {
      own = record { here = each; order = rises; past = past };
      rise = (All-nil (λ (later : MadeStep). 1 < later.moment), tt);
      come = ((refl, record { number = refl; shortage = refl; placed = tt }), tt);
      leads = refl;
    }
  where
    each : (place : ActPlace) → filter (is_at place) (own_at 3 stats_logs place) ≡ own_at 3 stats_logs place
    each ActPlace.Directory = refl
    each (ActPlace.Server zero) = refl
    each (ActPlace.Server (suc zero)) = refl
    each (ActPlace.Server (suc (suc zero))) = refl
    each (ActPlace.Server (suc (suc (suc zero)))) = refl
    each (ActPlace.Server (suc (suc (suc (suc j))))) = refl

    rises : (place : ActPlace) → MomentsRise (own_at 3 stats_logs place)
    rises ActPlace.Directory = tt
    rises (ActPlace.Server zero) = tt
    rises (ActPlace.Server (suc zero)) = (All-nil (λ (later : MadeStep). 1 < later.moment), tt)
    rises (ActPlace.Server (suc (suc zero))) = tt
    rises (ActPlace.Server (suc (suc (suc zero)))) = tt
    rises (ActPlace.Server (suc (suc (suc (suc j))))) = tt

    past : (j : ℕ) → 4 ≤ j → own_at 3 stats_logs (ActPlace.Server j) ≡ []
    past zero le = absurd (omega (arith, le))
    past (suc zero) le = absurd (omega (arith, le))
    past (suc (suc zero)) le = absurd (omega (arith, le))
    past (suc (suc (suc zero))) le = absurd (omega (arith, le))
    past (suc (suc (suc (suc j)))) le = refl

pub stats_have_ended : StatsHaveEnded
stats_have_ended =
    record {
      stand = record { book = refl; directory = directory_stands; width = refl; logged = refl; at_server = servers_stand };
      all =
          record {
            client_count = refl;
            clients_ended = clients_ended;
            repairer_count = refl;
            repairers_ended = λ i work caller e f. absurd (none-some caller f);
            saw_swept = λ place. refl;
            sweeping = listed_first (sweeper_next two_stats) (IsNextSweep two_stats) Sweeper.Idle 4 (own_at 2 stats_logs) swept_none;
            saw_operated = λ place. refl;
            operating = operated;
          };
    }
