-- Seats and tickets under later numbers, and with a later directory.
use Rattle.std.proofs.Common.{◌≡◌, ℕ, zero, suc, ◌+◌, ◌<◌, ◌≤◌, false, List, [], ◌∷◌, drop, length, map, Option, None, Some, All, sym, ap, ◌∙◌, arith}
use Rattle.std.specs.List.{range_with_len}
use Rattle.std.proofs.lemmas.List.Elements.{All-nil, All-cons, All-head, All-tail, All-weaker}
use Rattle.store_map.specs.declared.actor.Actor.{Actor}
use Rattle.store_map.specs.declared.actor.Actor.TheVariants as actor
use Rattle.store_core.specs.Agreement.{Seat, ActorToken, Agrees}
use Rattle.store_core.specs.Lookups.{same_actor}
use Rattle.store_core.specs.Tokens.{actor_of}
use Rattle.session_rules.specs.Snapshots.{most_objects}
use Rattle.store_core.specs.Directory.{Directory}
use Rattle.version_seal.specs.Entry.{BookOf}
use Rattle.snapshot_view.specs.Snapshots.{SnapshotOf}
use Rattle.snapshot_view.specs.Tickets.{MayGet}
use Rattle.session_store.specs.Kept.{HasSeat, AreOfReaders, HoldTickets}

pub seat_later : (d : Directory) (who : Actor) (n m : ℕ) (place : Option Seat) → n ≤ m → HasSeat d who n place → HasSeat d who m place
seat_later d who n m place less has =
    record { seat = has.seat; there = has.there; actor = has.actor; unused = (let low = has.unused in omega (arith, less, low)); agrees = has.agrees }

may_later : (n m : ℕ) → n ≤ m → (token : ActorToken) → MayGet n token → MayGet m token
may_later n m less (ActorToken.Seated seat) (low, client) = (omega (arith, less, low), client)
may_later n m less (ActorToken.InCall held) may = absurd may

pub tickets_later : (d : Directory) (n m : ℕ) (book : BookOf) → n ≤ m → (snapshot : Option SnapshotOf) (tickets : Option (List ActorToken)) → HoldTickets d n book snapshot tickets → HoldTickets d m book snapshot tickets
tickets_later d n m book less None None hold = absurd hold
tickets_later d n m book less None (Some tokens) (its, may) = (its, All-weaker (MayGet n) (MayGet m) (may_later n m less) tokens may)
tickets_later d n m book less (Some s) (Some tokens) hold = absurd hold
tickets_later d n m book less (Some s) None (its, may, same, low) =
    (its, All-weaker (MayGet n) (MayGet m) (may_later n m less) (drop (length s.objects) s.tokens) may, same, omega (arith, less, low))

-- ---- tickets of readers while others make steps
abbrev first_or : Actor → List Actor → Actor
first_or other [] = other
first_or other (who ∷ actors) = who

abbrev rest_of : List Actor → List Actor
rest_of [] = []
rest_of (who ∷ actors) = actors

module _ (d now : Directory) (maker : Actor) (no_reader : (n : ℕ) → 0 < n → same_actor maker (actor.Client n) ≡ false) (still : (token : ActorToken) → same_actor maker (actor_of token) ≡ false → same_actor actor.Sweeper (actor_of token) ≡ false → Agrees d token → Agrees now token) where
  each_still : (tokens : List ActorToken) (a k : ℕ) → 0 < a → map actor_of tokens ≡ map (λ reader. actor.Client reader) (range_with_len a k) → All (Agrees d) tokens → All (Agrees now) tokens
  each_still [] a k some its all = All-nil (Agrees now)
  each_still (token ∷ tokens) a zero some its all = absurd (cc (its))
  each_still (token ∷ tokens) a (suc k) some its all =
      let who : actor_of token ≡ actor.Client a = ap (first_or actor.Operator) its in
      All-cons (Agrees now) token tokens
      (still token (ap (same_actor maker) who ∙ no_reader a some) (ap (same_actor actor.Sweeper) who) (All-head (Agrees d) token tokens all))
      (each_still tokens (a + 1) k (omega arith) (ap rest_of its) (All-tail (Agrees d) token tokens all))

  readers_still : (tokens : List ActorToken) → AreOfReaders d tokens → AreOfReaders now tokens
  readers_still tokens of = record { actors = of.actors; agrees = record { each = each_still tokens 1 most_objects (omega arith) of.actors of.agrees.each; apart = of.agrees.apart } }

  pub tickets_still : (n m : ℕ) (book after : BookOf) → after ≡ book → n ≤ m → (snapshot : Option SnapshotOf) (tickets : Option (List ActorToken)) → HoldTickets d n book snapshot tickets → HoldTickets now m after snapshot tickets
  tickets_still n m book after same less None None hold = absurd hold
  tickets_still n m book after same less None (Some tokens) (its, may) = (readers_still tokens its, All-weaker (MayGet n) (MayGet m) (may_later n m less) tokens may)
  tickets_still n m book after same less (Some s) (Some tokens) hold = absurd hold
  tickets_still n m book after same less (Some s) None (its, may, its_book, low) =
      (readers_still s.tokens its, All-weaker (MayGet n) (MayGet m) (may_later n m less) (drop (length s.objects) s.tokens) may, its_book ∙ sym same, omega (arith, less, low))
