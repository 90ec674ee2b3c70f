-- An actor's turns before and after its step at one of the places.
use Rattle.std.proofs.Common.{◌≡◌, ℕ, zero, suc, ◌<◌, false, List, [], ◌∷◌, length, map, get_or, set, length-set, slice_get, Option, Some, unwrap_or, refl, sym, ap, subst, ◌∙◌, arith, eq-eqb, Bool, ◌||◌}
use Rattle.std.proofs.lemmas.List.{length-map}
use Rattle.std.proofs.lemmas.Option.{none-some, same_Some}
use Rattle.atomic_table.specs.Seated.{TableId}
use Rattle.clay_grid.specs.Shape.{chunk_count}
use Rattle.thread_laws.specs.MadeSteps.{MadeStep}
use Rattle.dir_parts.proofs.Entries.{map-set, slice_get-map}
use Rattle.turn_lock.specs.History.{Among}
use Rattle.turn_lock.specs.TurnState.{TurnState}
use Rattle.thread_laws.specs.Noted.{Noted}
use Rattle.turn_lock.specs.Dealt.{IsTurnAt}
use Rattle.thread_laws.specs.Logs.{log_of}
use Rattle.thread_laws.specs.Stepped.{with_log}
use Rattle.run_seats.specs.Places.{HasTurns, seen_by, server_of, directory_of}
use Rattle.run_seats.specs.Turns.{IsFree}
use Rattle.run_seats.specs.declared.server_box.ServerIdentity.{ServerIdentity}
use Rattle.run_seats.specs.declared.directory_box.DirectoryIdentity.{DirectoryIdentity}
use Rattle.run_seats.specs.declared.store.Store.{Store}
use Rattle.run_seats.specs.declared.seat_turns.Turns.{Turns}

-- what holds of each element with its place holds after a change that keeps it there
each_set : {X : Type 0} (P : ℕ → X → Type 0) (xs : List X) (i : ℕ) (x : X) → ((k : ℕ) (t : X) → slice_get xs k ≡ Some t → P k t) → P i x
    → (k : ℕ) (t : X) → slice_get (set xs i x) k ≡ Some t → P k t
each_set P [] i x all here k t e = absurd (none-some t e)
each_set P (y ∷ ys) zero x all here zero t e = subst (P zero) (same_Some x t e) here
each_set P (y ∷ ys) zero x all here (suc k) t e = all (suc k) t e
each_set P (y ∷ ys) (suc i) x all here zero t e = all zero t e
each_set P (y ∷ ys) (suc i) x all here (suc k) t e = each_set (λ (n : ℕ). P (suc n)) ys i x (λ n u f. all (suc n) u f) here k t e

-- the element at a place
pub got : {X : Type 0} (xs : List X) (i : ℕ) (x : X) → i < length xs → x ≡ get_or xs i x → slice_get xs i ≡ Some x
got [] i x less read = absurd (omega arith)
got (y ∷ ys) zero x less read = ap (λ z. Some z) (sym read)
got (y ∷ ys) (suc i) x less read = got ys i x (omega arith) read

module _ {F E : Type 0} where
  -- a turn that has seen more is of the same lock
  turn_stays : (lock : TableId) (identity : F) (n : ℕ) (turn after : TurnState F E) → IsTurnAt lock identity n turn → after ≡ record turn { seen = after.seen } → IsTurnAt lock identity n after
  turn_stays lock identity n turn after at same =
      record {
        own = ap (λ (t : TurnState F E). t.lock) same ∙ at.own;
        free = ap (λ (t : TurnState F E). t.holds) same ∙ at.free;
        numbers = ap (λ (t : TurnState F E). t.numbers) same ∙ at.numbers;
        fixed = ap (λ (t : TurnState F E). t.fixed) same ∙ at.fixed;
      }

-- a turn under one number is free under it
pub free_of : {F E : Type 0} (lock : TableId) (identity : F) (n number : ℕ) (turn : TurnState F E) → IsTurnAt lock identity n turn → number ≡ n → IsFree lock number turn
free_of lock identity n number turn at is =
    record {
      own = at.own;
      free = at.free;
      number = subst (λ (k : ℕ). Among k turn.numbers) (sym is) (subst (Among n) (sym at.numbers) (among_one n));
    }
  where
    among_one : (n : ℕ) → Among n (n ∷ [])
    among_one n = ap (λ (b : Bool). b || false) (eq-eqb n n refl)

-- ---- after a step at the directory
pub turns_there : (store : Store) (turns : Turns) (turn : TurnState DirectoryIdentity Noted) → HasTurns store turns → turn ≡ record turns.directory { seen = turn.seen } → HasTurns store (record turns { directory = turn })
turns_there store turns turn has same =
    record {
      directory = turn_stays store.directory (directory_of store) turns.number turns.directory turn has.directory same;
      count = has.count;
      servers = has.servers;
    }

-- ---- after a step at a server
module _ (turns now : Turns) (j : ℕ) (turn before : TurnState ServerIdentity MadeStep) (kept : now ≡ record turns { servers = now.servers }) (items : now.servers.items ≡ set turns.servers.items j turn)
    (less : j < length turns.servers.items) (read : before ≡ get_or turns.servers.items j before) where
  there : slice_get turns.servers.items j ≡ Some before
  there = got turns.servers.items j before less read

  -- what they have seen
  pub seen_here : seen_by now ≡ with_log j turn.seen (seen_by turns)
  seen_here =
      (λ i. record { directory = (kept i).directory.seen; servers = map (λ (t : TurnState ServerIdentity MadeStep). t.seen) now.servers.items })
      ∙ ap (λ (logs : List (List (ℕ × MadeStep))). record { directory = turns.directory.seen; servers = logs })
      (ap (map (λ (t : TurnState ServerIdentity MadeStep). t.seen)) items
      ∙ map-set (λ (t : TurnState ServerIdentity MadeStep). t.seen) (λ _. turn.seen) turns.servers.items j before turn less read refl)

  pub log_here : log_of (seen_by turns) j ≡ before.seen
  log_here = ap (λ (o : Option (List (ℕ × MadeStep))). unwrap_or o []) (slice_get-map (λ (t : TurnState ServerIdentity MadeStep). t.seen) turns.servers.items j before there)

  module _ (store : Store) (has : HasTurns store turns) (same : turn ≡ record before { seen = turn.seen }) where
    each_turn : (k : ℕ) (other : TurnState ServerIdentity MadeStep) → slice_get now.servers.items k ≡ Some other → (l : TableId) → slice_get store.servers.items k ≡ Some l → IsTurnAt l (server_of store k) turns.number other
    each_turn =
        subst
        (λ (xs : List (TurnState ServerIdentity MadeStep)). (k : ℕ) (other : TurnState ServerIdentity MadeStep) → slice_get xs k ≡ Some other → (l : TableId) → slice_get store.servers.items k ≡ Some l →
        IsTurnAt l (server_of store k) turns.number other)
        (sym items)
        (each_set (λ (k : ℕ) (other : TurnState ServerIdentity MadeStep). (l : TableId) → slice_get store.servers.items k ≡ Some l → IsTurnAt l (server_of store k) turns.number other) turns.servers.items j turn
        (λ k other e l f. has.servers k l other f e)
        (λ l f. turn_stays l (server_of store j) turns.number before turn (has.servers j l before f there) same))

    pub turns_here : HasTurns store now
    turns_here =
        record {
          directory = subst (λ (x : Turns). IsTurnAt store.directory (directory_of store) x.number x.directory) (sym kept) has.directory;
          count = ap (λ (xs : List (TurnState ServerIdentity MadeStep)). length xs) items ∙ (length-set turns.servers.items j turn ∙ has.count);
          servers = λ k l other f e. subst (λ (n : ℕ). IsTurnAt l (server_of store k) n other) (sym (ap (λ (x : Turns). x.number) kept)) (each_turn k other e l f);
        }

-- the history that the turn at a server has seen
pub log_at : (turns : Turns) (j : ℕ) (turn : TurnState ServerIdentity MadeStep) → slice_get turns.servers.items j ≡ Some turn → log_of (seen_by turns) j ≡ turn.seen
log_at turns j turn there = ap (λ (o : Option (List (ℕ × MadeStep))). unwrap_or o []) (slice_get-map (λ (t : TurnState ServerIdentity MadeStep). t.seen) turns.servers.items j turn there)

-- as many histories as there are servers
pub count_seen : (store : Store) (turns : Turns) → HasTurns store turns → length (seen_by turns).servers ≡ chunk_count store.script.now.geometry
count_seen store turns has = length-map turns.servers.items (λ (t : TurnState ServerIdentity MadeStep). t.seen) ∙ has.count
