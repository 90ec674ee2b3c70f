-- What a place's list took is what the lists of all actors took there.
-- Counts up to 2^64 - 1 by c ≡ min total (2 ^ 64 - 1) as the invariant with total unbounded; omega closes each step. A sum doesn't see
-- the sort (sum_by_moment), so the place's list and the actors' lists have one sum. Of a call that runs alone they are those at its
-- bytes: one that has its bytes takes no more, and one that is over stays so (taken_once), so no run to the end is made again.
use Rattle.std.proofs.Common.{◌≡◌, ℕ, zero, suc, ◌+◌, ◌-◌, ◌^◌, ◌<◌, min, Bool, true, false, nat_lt, if◌then◌else◌, List, [], ◌∷◌, ◌++◌, length, filter, refl, sym, ap, subst, ◌∙◌, arith}
use Rattle.std.proofs.lemmas.List.Sums.{sum_by-cons, sum_by-append}
use Rattle.std.proofs.lemmas.List.Elements.{filter-append}
use Rattle.std.specs.Prelude.{sum_by}
use Rattle.std.specs.List.{range_with_len, flat_map}
use Rattle.clay_grid.specs.Shape.{chunk_count}
use Rattle.store_map.specs.declared.script.Script.{Script}
use Rattle.store_map.specs.declared.actor.Actor.TheVariants as actor
use Rattle.store_map.specs.declared.actor.Token.{Token}
use Rattle.store_core.specs.ActPlace.{ActPlace}
use Rattle.store_core.specs.Server.{new_server}
use Rattle.store_core.specs.Core.{first_core}
use Rattle.thread_laws.specs.MadeSteps.{MadeStep, is_at}
use Rattle.thread_laws.specs.AtPlaces.{AllCome, server_next, ServerAnswers}
use Rattle.thread_laws.specs.Histories.{Histories, StandTwice, ComeIfThere, GoOn}
use Rattle.thread_laws.specs.InOrder.{put_in, by_moment, actor_by_actor, in_order}
use Rattle.thread_laws.specs.Taken.{given, taken_at, taken_by_all, ServersCountTakes}
use Rattle.thread_laws.proofs.Orders.{place_in_order}
use Rattle.thread_laws.proofs.Sorting.{filter_by_moment, sorted}
use Rattle.thread_laws.proofs.Given.{list_counted, slice_get-replicate}

-- ---- sums don't see the order
sum_put : (m : MadeStep) (ms : List MadeStep) → sum_by given (put_in m ms) ≡ given m + sum_by given ms
sum_put m [] = sum_by-cons given m []
sum_put m (o ∷ ms) = by (nat_lt o.moment m.moment) (sum_put m ms)
  where
    by : (b : Bool) → sum_by given (put_in m ms) ≡ given m + sum_by given ms → sum_by given (if b then o ∷ put_in m ms else m ∷ o ∷ ms) ≡ given m + sum_by given (o ∷ ms)
    by true rest =
        let first : sum_by given (o ∷ put_in m ms) ≡ given o + sum_by given (put_in m ms) = sum_by-cons given o (put_in m ms) in
        let last : sum_by given (o ∷ ms) ≡ given o + sum_by given ms = sum_by-cons given o ms in
        omega (arith, first, last, rest)
    by false rest = sum_by-cons given m (o ∷ ms)

sum_by_moment : (ms : List MadeStep) → sum_by given (by_moment ms) ≡ sum_by given ms
sum_by_moment [] = refl
sum_by_moment (m ∷ ms) =
    let put : sum_by given (put_in m (by_moment ms)) ≡ given m + sum_by given (by_moment ms) = sum_put m (by_moment ms) in
    let first : sum_by given (m ∷ ms) ≡ given m + sum_by given ms = sum_by-cons given m ms in
    let rest : sum_by given (by_moment ms) ≡ sum_by given ms = sum_by_moment ms in
    omega (arith, put, first, rest)

-- ---- sums over parts
part_sums : (test : MadeStep → Bool) (xs ys : List MadeStep) → sum_by given (filter test (xs ++ ys)) ≡ sum_by given (filter test xs) + sum_by given (filter test ys)
part_sums test xs ys = ap (sum_by given) (filter-append test xs ys) ∙ sum_by-append given (filter test xs) (filter test ys)

group_sums : (test : MadeStep → Bool) (of : ℕ → List MadeStep) (start count : ℕ)
    → sum_by given (filter test (flat_map of (range_with_len start count))) ≡ sum_by (λ i. sum_by given (filter test (of i))) (range_with_len start count)
group_sums test of start zero = refl
group_sums test of start (suc count) =
    let parts : sum_by given (filter test (flat_map of (range_with_len start (suc count)))) ≡ sum_by given (filter test (of start)) + sum_by given (filter test (flat_map of (range_with_len (start + 1) count))) =
    part_sums test (of start) (flat_map of (range_with_len (start + 1) count)) in
    let rest : sum_by given (filter test (flat_map of (range_with_len (start + 1) count))) ≡ sum_by (λ i. sum_by given (filter test (of i))) (range_with_len (start + 1) count) = group_sums test of (start + 1) count in
    let first : sum_by (λ i. sum_by given (filter test (of i))) (range_with_len start (suc count)) ≡ sum_by given (filter test (of start)) + sum_by (λ i. sum_by given (filter test (of i))) (range_with_len (start + 1) count) =
    sum_by-cons (λ i. sum_by given (filter test (of i))) start (range_with_len (start + 1) count) in
    omega (arith, parts, rest, first)

-- ---- the lists of all actors
module _ (script : Script) (h : Histories) (server : ℕ) where
  all_sums : taken_at server (actor_by_actor script h) ≡ taken_by_all script h server
  all_sums =
      let test : MadeStep → Bool = is_at (ActPlace.Server server) in
      let clients : List MadeStep = flat_map (λ i. h.of (actor.Client i)) (range_with_len 0 (length script.clients)) in
      let repairers : List MadeStep = flat_map (λ i. h.of (actor.Repairer i)) (range_with_len 0 (length script.repairers)) in
      part_sums test clients (repairers ++ (h.of actor.Sweeper ++ h.of actor.Operator))
      ∙ (λ j. group_sums test (λ i. h.of (actor.Client i)) 0 (length script.clients) j + others j)
    where
      others : taken_at server (flat_map (λ i. h.of (actor.Repairer i)) (range_with_len 0 (length script.repairers)) ++ (h.of actor.Sweeper ++ h.of actor.Operator))
          ≡ sum_by (λ i. taken_at server (h.of (actor.Repairer i))) (range_with_len 0 (length script.repairers)) + (taken_at server (h.of actor.Sweeper) + taken_at server (h.of actor.Operator))
      others =
          part_sums (is_at (ActPlace.Server server)) (flat_map (λ i. h.of (actor.Repairer i)) (range_with_len 0 (length script.repairers))) (h.of actor.Sweeper ++ h.of actor.Operator)
          ∙ (λ j. group_sums (is_at (ActPlace.Server server)) (λ i. h.of (actor.Repairer i)) 0 (length script.repairers) j + part_sums (is_at (ActPlace.Server server)) (h.of actor.Sweeper) (h.of actor.Operator) j)

  module _ (twice : StandTwice h) (lines : List Token) (go : GoOn script lines (first_core script) h.at h.of) where
    pub place_sums : sum_by given (h.at (ActPlace.Server server)) ≡ taken_by_all script h server
    place_sums =
        ap (sum_by given) (sym (place_in_order h (in_order script h) twice (sorted script h twice lines go) (ActPlace.Server server)) ∙ filter_by_moment (is_at (ActPlace.Server server)) (actor_by_actor script h))
        ∙ sum_by_moment (filter (is_at (ActPlace.Server server)) (actor_by_actor script h)) ∙ all_sums

    pub server_comes : server < chunk_count script.geometry → AllCome server_next ServerAnswers (h.at (ActPlace.Server server)) new_server
    server_comes lt =
        subst (λ found. ComeIfThere (AllCome server_next ServerAnswers) (h.at (ActPlace.Server server)) found) (slice_get-replicate (chunk_count script.geometry) server new_server lt) (go.servers server)

-- the law
pub servers_count : ServersCountTakes
servers_count script lines h twice go server lt =
    list_counted (h.at (ActPlace.Server server)) new_server 0 (server_comes script h server twice lines go lt) (omega arith)
    ∙ ap (λ n. min n (2 ^ 64 - 1)) (omega arith ∙ place_sums script h server twice lines go)
