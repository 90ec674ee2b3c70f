-- Numbers that rise, and calls that come to be known.
use Rattle.std.proofs.Common.{◌≡◌, ℕ, ◌+◌, ◌≤◌, ◌<◌, Bool, true, false, nat_eq, cond, if◌then◌else◌, List, [], ◌∷◌, Option, None, Some, IfSome, IsTrue, refl, sym, ap, ◌∙◌, arith}
use Rattle.std.proofs.lemmas.Bool.{eq-eqb, eqb-true, ne_eqb}
use Rattle.std.proofs.lemmas.List.Elements.{All-weaker}
use Rattle.std.proofs.lemmas.Option.{none-some}
use Rattle.std.specs.List.{AllByRecursion}
use Rattle.clay_grid.specs.Shape.{Shape}
use Rattle.store_map.specs.declared.actor.Actor.{Actor}
use Rattle.store_map.specs.declared.actor.Actor.TheVariants as actor
use Rattle.store_map.specs.declared.call.Call.{Call}
use Rattle.store_core.specs.Agreement.{Agrees, AreBelow}
use Rattle.store_core.specs.Calls.{Calls}
use Rattle.store_core.specs.Directory.{Directory, Point}
use Rattle.store_core.specs.Lookups.{same_actor}
use Rattle.store_core.specs.Step.{Places}
use Rattle.run_laws.specs.MoreCalls.{AreAmong}
use Rattle.session_rules.specs.State.{Numbering, Snapshot, State}
use Rattle.session_rules.specs.Seats.{MayBeginFrom}
use Rattle.session_rules.specs.Readers.{tickets_of, kept_numbers}
use Rattle.session_rules.specs.Between.{Seats, IsBetween}
use Rattle.session_store.specs.Standing.{IsFresh}

-- ---- later numbers are unused too
pub below_later : (who : Actor) (n m : ℕ) (points : List Point) → n ≤ m → AreBelow who n points → AreBelow who m points
below_later who n m points less all =
    All-weaker (λ (point : Point). IsTrue (same_actor point.actor who) → point.number < n) (λ (point : Point). IsTrue (same_actor point.actor who) → point.number < m)
    (λ point below same. let fewer : point.number < n = below same in omega (arith, less, fewer)) points all

pub begin_later : (d : Directory) (who : Actor) (n m : ℕ) → n ≤ m → MayBeginFrom d who n → MayBeginFrom d who m
begin_later d who n m less may = record { no_pass = may.no_pass; numbers = below_later who n m d.points less may.numbers; told = tt }

tickets_later : (d : Directory) (stands : List ℕ) (number n m : ℕ) → n ≤ m → (readers : List ℕ) (numbers : Numbering) →
    AllByRecursion (Agrees d) (tickets_of stands number n readers numbers) → AllByRecursion (Agrees d) (tickets_of stands number m readers numbers)
tickets_later d stands number n m less [] numbers all = tt
tickets_later d stands number n m less (reader ∷ readers) [] (seat, all) =
    (begin_later d (actor.Client reader) n m less seat, tickets_later d stands number n m less readers [] all)
tickets_later d stands number n m less (reader ∷ readers) (object ∷ numbers) (pass, all) = (pass, tickets_later d stands number n m less readers numbers all)

used_later : (found : Option Snapshot) (number n m : ℕ) → n ≤ m → IfSome found (λ kept. number < n) → IfSome found (λ kept. number < m)
used_later None number n m less used = tt
used_later (Some kept) number n m less used = omega (arith, less, used)

-- between two requests any of the numbers may be passed over
pub passed_over : (calls : Calls) (g : Shape) (max : ℕ) (seats : Seats) (n m k : ℕ) (stands : List ℕ) (p : Places) (s : State) → seats.calls ≤ n → seats.rebuilds ≤ m → seats.looks ≤ k →
    IsBetween calls g max seats stands p s → IsBetween calls g max (record seats { calls = n; rebuilds = m; looks = k }) stands p s
passed_over calls g max seats n m k stands p s a b c h = record {
  seen = h.seen;
  pinned = h.pinned;
  quiet = h.quiet;
  its_map = h.its_map;
  client = begin_later p.directory (actor.Client seats.client) seats.calls n a h.client;
  repairer = begin_later p.directory (actor.Repairer seats.repairer) seats.rebuilds m b h.repairer;
  healer = h.healer;
  apart = h.apart;
  readers = h.readers;
  snapshot = record {
    number = h.snapshot.number;
    used = used_later s.snapshot h.snapshot.number seats.looks k c h.snapshot.used;
    few = h.snapshot.few;
    tickets = tickets_later p.directory stands h.snapshot.number seats.looks k c seats.readers (kept_numbers s.snapshot) h.snapshot.tickets;
    others = h.snapshot.others;
    bytes = h.snapshot.bytes;
  };
}

-- ---- clients' calls with a number come to be known
abbrev pub known_by : Calls → ℕ → (ℕ → Option Call) → Calls
known_by calls number found (actor.Client i) n = if nat_eq n number then found i else calls (actor.Client i) n
known_by calls number found who n = calls who n

pub known_now : (calls : Calls) (number : ℕ) (found : ℕ → Option Call) (i : ℕ) → known_by calls number found (actor.Client i) number ≡ found i
known_now calls number found i = ap (λ b. cond {A = Option Call} b (found i) (calls (actor.Client i) number)) (eq-eqb number number refl)

pub known_before : (calls : Calls) (number : ℕ) (found : ℕ → Option Call) → IsFresh calls number → AreAmong calls (known_by calls number found)
known_before calls number found fresh (actor.Client i) n call is = by (nat_eq n number) refl
  where
    by : (b : Bool) → nat_eq n number ≡ b → cond {A = Option Call} b (found i) (calls (actor.Client i) n) ≡ Some call
    by true e = let same : n ≡ number = eqb-true n number e in absurd (none-some call (sym (fresh i n (omega (arith, same))) ∙ is))
    by false e = is
known_before calls number found fresh (actor.Repairer i) n call is = is
known_before calls number found fresh actor.Sweeper n call is = is
known_before calls number found fresh actor.Operator n call is = is

pub known_fresh : (calls : Calls) (number : ℕ) (found : ℕ → Option Call) → IsFresh calls number → IsFresh (known_by calls number found) (number + 1)
known_fresh calls number found fresh i n later =
    ap (λ b. cond {A = Option Call} b (found i) (calls (actor.Client i) n)) (ne_eqb n number (λ same. omega (arith, later, same))) ∙ fresh i n (omega (arith, later))

pub fresh_later : (calls : Calls) (number : ℕ) → IsFresh calls number → IsFresh calls (number + 1)
fresh_later calls number fresh i n later = fresh i n (omega (arith, later))
