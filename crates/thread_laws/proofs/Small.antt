-- Two small runs by moments.
use Rattle.std.proofs.Common.{◌≡◌, ℕ, zero, suc, ◌<◌, ◌≤◌, List, [], ◌∷◌, filter, cond, false, refl, sym, ap, ◌∙◌, ne_eqb, arith}
use Rattle.std.proofs.lemmas.List.Elements.{All-nil, All-cons}
use Rattle.std.specs.List.{slice_get}
use Rattle.store_map.specs.declared.actor.Actor.{Actor}
use Rattle.store_map.specs.declared.actor.Actor.TheVariants as actor
use Rattle.store_core.specs.Core.{first_core}
use Rattle.store_core.specs.Work.{client_work}
use Rattle.store_core.specs.ActPlace.{ActPlace}
use Rattle.thread_laws.specs.MadeSteps.{MadeStep, is_by, is_at, MomentsRise}
use Rattle.thread_laws.specs.AtPlaces.{AllCome, server_next, ServerAnswers}
use Rattle.thread_laws.specs.Histories.{ComeIfThere, ComeOfActor}
use Rattle.thread_laws.specs.StatsExample.{two_stats, first_stat, second_stat, the_wipe, stats_of, stats_at, StatsMerge}
use Rattle.thread_laws.specs.ShortExample.{short_put, short_of, ShortMerges}

-- ---- the first
here : (place : ActPlace) → filter (is_at place) (stats_at place) ≡ stats_at place
here ActPlace.Directory = refl
here (ActPlace.Server zero) = refl
here (ActPlace.Server (suc zero)) = refl
here (ActPlace.Server (suc (suc j))) = refl

own : (who : Actor) → filter (is_by who) (stats_of who) ≡ stats_of who
own (actor.Client zero) = refl
own (actor.Client (suc zero)) = refl
own (actor.Client (suc (suc i))) = refl
own (actor.Repairer i) = refl
own actor.Sweeper = refl
own actor.Operator = refl

-- a third client has made none of these
not_by : (i : ℕ) (m : MadeStep) (rest : List MadeStep) → is_by (actor.Client i) m ≡ false → filter (is_by (actor.Client i)) rest ≡ [] → filter (is_by (actor.Client i)) (m ∷ rest) ≡ []
not_by i m rest e h = ap (λ b. cond {A = List MadeStep} b (m ∷ filter (is_by (actor.Client i)) rest) (filter (is_by (actor.Client i)) rest)) e ∙ h

third_first : (i : ℕ) → is_by (actor.Client (suc (suc i))) first_stat ≡ false
third_first i = ne_eqb (suc (suc i)) 0 (λ e. absurd (omega (arith, e)))

third_second : (i : ℕ) → is_by (actor.Client (suc (suc i))) second_stat ≡ false
third_second i = ne_eqb (suc (suc i)) 1 (λ e. absurd (omega (arith, e)))

none_here : (i : ℕ) → filter (is_by (actor.Client (suc (suc i)))) (first_stat ∷ second_stat ∷ []) ≡ []
none_here i = not_by (suc (suc i)) first_stat (second_stat ∷ []) (third_first i) (not_by (suc (suc i)) second_stat [] (third_second i) refl)

none_in_order : (i : ℕ) → filter (is_by (actor.Client (suc (suc i)))) (first_stat ∷ the_wipe ∷ second_stat ∷ []) ≡ []
none_in_order i = not_by (suc (suc i)) first_stat (the_wipe ∷ second_stat ∷ []) (third_first i) (not_by (suc (suc i)) second_stat [] (third_second i) refl)

both : (place : ActPlace) (who : Actor) → filter (is_by who) (stats_at place) ≡ filter (is_at place) (stats_of who)
both ActPlace.Directory (actor.Client zero) = refl
both ActPlace.Directory (actor.Client (suc zero)) = refl
both ActPlace.Directory (actor.Client (suc (suc i))) = none_here i
both ActPlace.Directory (actor.Repairer i) = refl
both ActPlace.Directory actor.Sweeper = refl
both ActPlace.Directory actor.Operator = refl
both (ActPlace.Server zero) (actor.Client zero) = refl
both (ActPlace.Server zero) (actor.Client (suc zero)) = refl
both (ActPlace.Server zero) (actor.Client (suc (suc i))) = refl
both (ActPlace.Server zero) (actor.Repairer i) = refl
both (ActPlace.Server zero) actor.Sweeper = refl
both (ActPlace.Server zero) actor.Operator = refl
both (ActPlace.Server (suc zero)) (actor.Client zero) = refl
both (ActPlace.Server (suc zero)) (actor.Client (suc zero)) = refl
both (ActPlace.Server (suc zero)) (actor.Client (suc (suc i))) = refl
both (ActPlace.Server (suc zero)) (actor.Repairer i) = refl
both (ActPlace.Server (suc zero)) actor.Sweeper = refl
both (ActPlace.Server (suc zero)) actor.Operator = refl
both (ActPlace.Server (suc (suc j))) (actor.Client zero) = refl
both (ActPlace.Server (suc (suc j))) (actor.Client (suc zero)) = refl
both (ActPlace.Server (suc (suc j))) (actor.Client (suc (suc i))) = refl
both (ActPlace.Server (suc (suc j))) (actor.Repairer i) = refl
both (ActPlace.Server (suc (suc j))) actor.Sweeper = refl
both (ActPlace.Server (suc (suc j))) actor.Operator = sym (ap (λ b. cond {A = List MadeStep} b (the_wipe ∷ []) []) (ne_eqb (suc (suc j)) 1 (λ e. absurd (omega (arith, e)))))

rise_at : (place : ActPlace) → MomentsRise (stats_at place)
rise_at ActPlace.Directory = (All-cons (λ (later : MadeStep). 1 < later.moment) second_stat [] (omega arith) (All-nil (λ (later : MadeStep). 1 < later.moment)), (All-nil (λ (later : MadeStep). 2 < later.moment), tt))
rise_at (ActPlace.Server zero) = tt
rise_at (ActPlace.Server (suc zero)) = (All-nil (λ (later : MadeStep). 1 < later.moment), tt)
rise_at (ActPlace.Server (suc (suc j))) = tt

rise_of : (who : Actor) → MomentsRise (stats_of who)
rise_of (actor.Client zero) = (All-nil (λ (later : MadeStep). 1 < later.moment), tt)
rise_of (actor.Client (suc zero)) = (All-nil (λ (later : MadeStep). 2 < later.moment), tt)
rise_of (actor.Client (suc (suc i))) = tt
rise_of (actor.Repairer i) = tt
rise_of actor.Sweeper = tt
rise_of actor.Operator = (All-nil (λ (later : MadeStep). 1 < later.moment), tt)

servers_go : (j : ℕ) → ComeIfThere (AllCome server_next ServerAnswers) (stats_at (ActPlace.Server j)) (slice_get (first_core two_stats).servers j)
servers_go zero = tt
servers_go (suc zero) = (refl, tt)
servers_go (suc (suc zero)) = tt
servers_go (suc (suc (suc zero))) = tt
servers_go (suc (suc (suc (suc j)))) = refl

clients_go : (i : ℕ) → ComeOfActor two_stats (stats_of (actor.Client i)) (slice_get (client_work two_stats) i) (slice_get (first_core two_stats).clients i)
clients_go zero = ((refl, refl, tt), tt)
clients_go (suc zero) = ((refl, refl, tt), tt)
clients_go (suc (suc i)) = refl

in_its_order : (who : Actor) → filter (is_by who) (first_stat ∷ the_wipe ∷ second_stat ∷ []) ≡ stats_of who
in_its_order (actor.Client zero) = refl
in_its_order (actor.Client (suc zero)) = refl
in_its_order (actor.Client (suc (suc i))) = none_in_order i
in_its_order (actor.Repairer i) = refl
in_its_order actor.Sweeper = refl
in_its_order actor.Operator = refl

pub stats_merge : StatsMerge
stats_merge =
    record {
      twice = record { here = here; own = own; both = both; rise_at = rise_at; rise_of = rise_of };
      go =
          record {
            directory = (refl, (refl, tt));
            servers = servers_go;
            clients = clients_go;
            repairers = λ i. refl;
            sweeper = tt;
            operator = ((refl, record { number = refl; shortage = refl; placed = tt }), tt);
          };
      order = refl;
      ordered =
          record {
            order = (
              All-cons (λ (later : MadeStep). 1 ≤ later.moment) the_wipe (second_stat ∷ []) (omega arith) (All-cons (λ (later : MadeStep). 1 ≤ later.moment) second_stat [] (omega arith) (All-nil (λ (later : MadeStep). 1 ≤ later.moment))),
              (
                All-cons (λ (later : MadeStep). 1 ≤ later.moment) second_stat [] (omega arith) (All-nil (λ (later : MadeStep). 1 ≤ later.moment)),
                (All-nil (λ (later : MadeStep). 2 ≤ later.moment), tt),
              ),
            );
            of = in_its_order;
          };
      tokens = refl;
    }

-- ---- the second
short_servers : (j : ℕ) → ComeIfThere (AllCome server_next ServerAnswers) [] (slice_get (first_core short_put).servers j)
short_servers zero = tt
short_servers (suc zero) = tt
short_servers (suc (suc zero)) = tt
short_servers (suc (suc (suc zero))) = tt
short_servers (suc (suc (suc (suc j)))) = refl

short_clients : (i : ℕ) → ComeOfActor short_put (short_of (actor.Client i)) (slice_get (client_work short_put) i) (slice_get (first_core short_put).clients i)
short_clients zero = ((refl, refl, tt), ((refl, refl, tt), ((refl, refl, tt), tt)))
short_clients (suc zero) = ((refl, refl, tt), tt)
short_clients (suc (suc i)) = refl

pub short_merges : ShortMerges
short_merges =
    record {
      go =
          record {
            directory = (refl, (refl, (refl, (refl, tt))));
            servers = short_servers;
            clients = short_clients;
            repairers = λ i. refl;
            sweeper = tt;
            operator = tt;
          };
      order = refl;
      passes = refl;
    }
