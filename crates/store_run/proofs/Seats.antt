-- The seats of a script's callers, taken from the greatest number down.
use Rattle.std.proofs.Common.{◌≡◌, ℕ, ◌+◌, ◌-◌, ◌<◌, ◌≤◌, Bool, true, false, nat_lt, nat_eq, if◌then◌else◌, List, [], ◌∷◌, ◌++◌, length, length-append, map, take, take_at, take-take, get_or, get_or-take, sym, ap, subst, ◌∙◌, refl, arith, eq-eqb, ltb-true, ltb-false, le-ltb, ne_eqb}
use Rattle.std.proofs.lemmas.List.{get_or_append_left, get_or-append_right, get_or_push, length_push, length-take-le}
use Rattle.std.proofs.lemmas.List.FromFn.{get_or-map-range_with_len, length-map-range_with_len}
use Rattle.std.specs.List.{range_with_len}
use Rattle.store_map.specs.declared.actor.Actor.TheVariants as actor
use Rattle.store_core.specs.Agreement.{Seat}
use Rattle.stripe_dir.specs.Seats.{client_seat, first_seat, first_seats, repairer_seat}
use Rattle.actors.specs.Callers.{PartOf, who_of}
use Rattle.thread_laws.specs.Numbers.{Counts, IsTurnOf, actor_at}
use Rattle.thread_laws.proofs.Numbers.{clients_come_first, repairers_follow}

module _ (of : Counts) where
  abbrev seats : List Seat
  seats = first_seats of.clients of.repairers

  abbrev of_clients : List Seat
  of_clients = map client_seat (range_with_len 0 of.clients)

  abbrev of_repairers : List Seat
  of_repairers = map repairer_seat (range_with_len 0 of.repairers)

  client_count : length of_clients ≡ of.clients
  client_count = length-map-range_with_len client_seat 0 of.clients

  -- one of each client and repairer
  pub seat_count : length (first_seats of.clients of.repairers) ≡ of.clients + of.repairers
  seat_count = length-append of_clients of_repairers ∙ (λ i. client_count i + length-map-range_with_len repairer_seat 0 of.repairers i)

  -- each is that of its number's actor
  seat_at : (number : ℕ) (d : Seat) → number < of.clients + of.repairers → get_or seats number d ≡ first_seat (actor_at of number)
  seat_at number d less = by (nat_lt number of.clients) refl
    where
      by : (b : Bool) → nat_lt number of.clients ≡ b → get_or seats number d ≡ first_seat (actor_at of number)
      by true e =
          let front : number < of.clients = ltb-true number of.clients e in
          get_or_append_left of_clients of_repairers d number (subst (λ (n : ℕ). number < n) (sym client_count) front)
          ∙ (get_or-map-range_with_len client_seat 0 of.clients number number d front (omega arith) ∙ ap first_seat (sym (clients_come_first of number front)))
      by false e =
          let behind : of.clients ≤ number = ltb-false number of.clients e in
          let rest : number - of.clients < of.repairers = omega (arith, less, behind) in
          let same : of.clients + (number - of.clients) ≡ number = omega (arith, behind) in
          get_or-append_right of_clients of_repairers of.clients number d client_count behind
          ∙ (get_or-map-range_with_len repairer_seat 0 of.repairers (number - of.clients) (number - of.clients) d rest (omega arith)
          ∙ ap first_seat (sym (ap (actor_at of) (sym same) ∙ repairers_follow of (number - of.clients) rest)))

  -- ---- the last of those of the numbers up to this one was taken
  module _ (number : ℕ) (less : number < of.clients + of.repairers) (left : List Seat) (seat : Seat) (taken : take (number + 1) (first_seats of.clients of.repairers) ≡ left ++ seat ∷ []) where
    long : length left ≡ number
    long =
        let pushed : length (left ++ seat ∷ []) ≡ length left + 1 = length_push left seat in
        let whole : length (take (number + 1) seats) ≡ number + 1 = length-take-le (number + 1) seats (omega (arith, less, seat_count)) in
        let same : length (take (number + 1) seats) ≡ length (left ++ seat ∷ []) = ap length taken in
        omega (arith, pushed, whole, same)

    pub seats_left : left ≡ take number (first_seats of.clients of.repairers)
    seats_left = sym (take_at left (seat ∷ []) number long) ∙ (ap (take number) (sym taken) ∙ take-take number (number + 1) seats (omega arith))

    pub seat_taken : seat ≡ first_seat (actor_at of number)
    seat_taken =
        sym (get_or_push left seat seat number long)
        ∙ (ap (λ (l : List Seat). get_or l number seat) (sym taken)
        ∙ (get_or-take (number + 1) seats number seat (omega arith) ∙ seat_at number seat less))

  -- there is one
  pub seat_there : (number : ℕ) → number < of.clients + of.repairers → length (take (number + 1) (first_seats of.clients of.repairers)) ≡ number + 1
  seat_there number less = length-take-le (number + 1) seats (omega (arith, less, seat_count))

  -- ---- whose turns have their numbers
  pub client_turn : (place : ℕ) → place < of.clients → IsTurnOf of place (actor.Client place)
  client_turn place less = record { below = omega (arith, less); whose = sym (clients_come_first of place less) }

  pub repairer_turn : (place : ℕ) → place < of.repairers → IsTurnOf of (of.clients + place) (actor.Repairer place)
  repairer_turn place less = record { below = omega (arith, less); whose = sym (repairers_follow of place less) }

  -- no caller's number is as great as these
  others_at : (n : ℕ) → of.clients + of.repairers ≤ n → actor_at of n ≡ (if nat_eq n (of.clients + of.repairers) then actor.Sweeper else actor.Operator)
  others_at n above =
      let no_client : nat_lt n of.clients ≡ false = le-ltb n of.clients (omega (arith, above)) in
      let no_repairer : nat_lt n (of.clients + of.repairers) ≡ false = le-ltb n (of.clients + of.repairers) above in
      λ i. if no_client i then actor.Client n
      else (if no_repairer i then actor.Repairer (n - of.clients) else (if nat_eq n (of.clients + of.repairers) then actor.Sweeper else actor.Operator))

  pub sweeper_turn : IsTurnOf of (of.clients + of.repairers) actor.Sweeper
  sweeper_turn =
      record {
        below = omega arith;
        whose =
            sym
            (others_at (of.clients + of.repairers) (omega arith)
            ∙ ap (λ (b : Bool). if b then actor.Sweeper else actor.Operator) (eq-eqb (of.clients + of.repairers) (of.clients + of.repairers) refl));
      }

  pub operator_turn : IsTurnOf of (of.clients + of.repairers + 1) actor.Operator
  operator_turn =
      record {
        below = omega arith;
        whose =
            sym
            (others_at (of.clients + of.repairers + 1) (omega arith)
            ∙ ap (λ (b : Bool). if b then actor.Sweeper else actor.Operator) (ne_eqb (of.clients + of.repairers + 1) (of.clients + of.repairers) (λ same. omega (arith, same))));
      }

  -- ---- clients and repairers have the numbers below those of the sweeper and the operator
  is_no_other : (b : Bool) (place : ℕ) (part : PartOf) → who_of part place ≡ (if b then actor.Sweeper else actor.Operator) → ⊥
  is_no_other true place (PartOf.OfClient part) e = cc
  is_no_other true place (PartOf.OfRepairer part) e = cc
  is_no_other false place (PartOf.OfClient part) e = cc
  is_no_other false place (PartOf.OfRepairer part) e = cc

  is_no_caller : (b : Bool) (number : ℕ) (client : Bool) → (if b then actor.Sweeper else actor.Operator) ≡ (if client then actor.Client number else actor.Repairer (number - of.clients)) → ⊥
  is_no_caller true number true e = cc
  is_no_caller true number false e = cc
  is_no_caller false number true e = cc
  is_no_caller false number false e = cc

  pub caller_below : (number place : ℕ) (part : PartOf) → who_of part place ≡ actor_at of number → number < of.clients + of.repairers
  caller_below number place part whose = by (nat_lt number (of.clients + of.repairers)) refl
    where
      by : (b : Bool) → nat_lt number (of.clients + of.repairers) ≡ b → number < of.clients + of.repairers
      by true e = ltb-true number (of.clients + of.repairers) e
      by false e =
          let behind : of.clients + of.repairers ≤ number = ltb-false number (of.clients + of.repairers) e in
          let no_client : nat_lt number of.clients ≡ false = le-ltb number of.clients (omega (arith, behind)) in
          let other : actor_at of number ≡ (if nat_eq number (of.clients + of.repairers) then actor.Sweeper else actor.Operator) =
          (λ i. if no_client i then actor.Client number
          else (if e i then actor.Repairer (number - of.clients) else (if nat_eq number (of.clients + of.repairers) then actor.Sweeper else actor.Operator))) in
          absurd (is_no_other (nat_eq number (of.clients + of.repairers)) place part (whose ∙ other))

  pub others_above : (b : Bool) (number : ℕ) → (if b then actor.Sweeper else actor.Operator) ≡ actor_at of number → of.clients + of.repairers ≤ number
  others_above b number whose = by (nat_lt number (of.clients + of.repairers)) refl
    where
      by : (low : Bool) → nat_lt number (of.clients + of.repairers) ≡ low → of.clients + of.repairers ≤ number
      by false e = ltb-false number (of.clients + of.repairers) e
      by true e = absurd (is_no_caller b number (nat_lt number of.clients) (whose ∙ (λ i. if nat_lt number of.clients then actor.Client number
          else (if e i then actor.Repairer (number - of.clients) else (if nat_eq number (of.clients + of.repairers) then actor.Sweeper else actor.Operator)))))
