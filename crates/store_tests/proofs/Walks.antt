-- A put's steps, and those of operator and sweeper, keep what a walk keeps.
use Rattle.std.proofs.Common.{◌≡◌, ℕ, ◌+◌, ◌<◌, Bool, false, List, [], ◌∷◌, ◌++◌, length, get_or, set, None, refl, sym, ap, subst, ◌∙◌, arith, length-append}
use Rattle.std.proofs.lemmas.List.Elements.{All-set}
use Rattle.store_map.specs.declared.actor.Actor.{Actor}
use Rattle.store_map.specs.declared.actor.Actor.TheVariants as actor
use Rattle.store_map.specs.declared.call.Call.{Call}
use Rattle.store_core.specs.Told.{Told}
use Rattle.store_core.specs.Act.{Act, DirectoryStep}
use Rattle.store_core.specs.AtDirectory.{at_directory as directory_after}
use Rattle.store_core.specs.Agreement.{Seat, ActorToken, AgreesWithSeat, Agrees}
use Rattle.store_core.specs.Directory.{Directory}
use Rattle.store_core.specs.Lookups.{same_actor}
use Rattle.store_core.specs.Server.{Server}
use Rattle.store_core.specs.Tokens.{actor_of}
use Rattle.run_laws.proofs.OwnSteps.{agreement_goes_on}
use Rattle.version_seal.specs.Entry.{BookOf}
use Rattle.chunk_server.specs.Core.{core_of}
use Rattle.chunk_server.specs.State.{ServerState}
use Rattle.stripe_stamps.specs.Sealed.{Sealed, new_sealed}
use Rattle.stripe_dir.specs.Seats.{client_seat, first_seats}
use Rattle.call_steps.specs.CallOf.{CallOf, act_of}
use Rattle.call_steps.specs.Steps.{LeadsTo, LeadsToAtServer, coded, at_directory_by, at_server_by}
use Rattle.call_steps.proofs.Tokens.{tokens_stay}
use Rattle.call_steps.proofs.Agreement.{agreement_stays}
use Rattle.client_put.specs.Puts.{PutOf, first_put}
use Rattle.store_tests.specs.Walk.{IsWalk, AreOf, KeepsTicket, AgreesStill}

directory_book : (act : Act) (short due : Bool) (c : CallOf) (d : Directory) → (at_directory_by act short due c d).1.book ≡ c.book
directory_book (Act.AtDirectory step) short due c d = refl
directory_book (Act.AtServer server step) short due c d = refl
directory_book (Act.Finish outcome) short due c d = refl

server_book : (act : Act) (short due : Bool) (c : CallOf) (s : Server) → (at_server_by act short due c s).1.book ≡ c.book
server_book (Act.AtServer server step) short due c s = refl
server_book (Act.AtDirectory step) short due c s = refl
server_book (Act.Finish outcome) short due c s = refl

-- ---- the put's steps
pub ticket_kept : (call now : CallOf) (s after : ServerState) → LeadsToAtServer call (core_of s) now (core_of after) → KeepsTicket call now
ticket_kept call now s after step =
    record {
      book = ap (λ (r : Server × CallOf). r.1.book) step ∙ server_book (act_of call) now.step now.due call (core_of s);
      token = ap (λ (r : Server × CallOf). r.1.token) step ∙ tokens_stay.server call (core_of s) now.step now.due;
    }

module _ (book : BookOf) (sealed : Sealed) (call now : CallOf) where
  pub at_directory : (after : Sealed) → IsWalk book sealed call → LeadsTo call sealed.core now after.core → after.book ≡ sealed.book → Agrees after.core now.token → IsWalk book after now
  at_directory after is step same agrees =
      let apart : same_actor (actor_of call.token) (actor.Client 1) ≡ false = ap (λ (who : Actor). same_actor who (actor.Client 1)) is.first in
      record {
        free = is.free;
        directory = same ∙ is.directory;
        of_book = ap (λ (r : Directory × CallOf). r.1.book) step ∙ directory_book (act_of call) now.step now.due call sealed.core ∙ is.of_book;
        agrees = agrees;
        first = ap (λ (r : Directory × CallOf). actor_of r.1.token) step ∙ tokens_stay.directory call sealed.core now.step now.due ∙ is.first;
        waits =
            subst (λ (r : Directory × CallOf). Agrees r.0 (ActorToken.Seated (client_seat 1))) (sym step)
            (agreement_stays.others call sealed.core (ActorToken.Seated (client_seat 1)) now.step now.due apart is.waits);
      }

  pub still_walks : IsWalk book sealed call → KeepsTicket call now → IsWalk book sealed now
  still_walks is kept =
      record {
        free = is.free;
        directory = is.directory;
        of_book = kept.book ∙ is.of_book;
        agrees = subst (Agrees sealed.core) (sym kept.token) is.agrees;
        first = ap actor_of kept.token ∙ is.first;
        waits = is.waits;
      }

  pub at_coder : (coding : Bool) → IsWalk book sealed call → now ≡ coded coding call → IsWalk book sealed now
  at_coder coding is made = still_walks is (record { book = ap (λ (c : CallOf). c.book) made; token = ap (λ (c : CallOf). c.token) made })

-- ---- the servers
-- one of them is of the book
pub its_book : (book : BookOf) (servers : List ServerState) (i : ℕ) (s : ServerState) → AreOf book servers → i < length servers → s ≡ get_or servers i s → s.book ≡ book
its_book book servers i s all less read = ap (λ (t : ServerState). t.book) read ∙ all i s less

-- after a step of one of them
pub one_set : (book : BookOf) (servers : List ServerState) (i : ℕ) (s after : ServerState) → AreOf book servers → i < length servers → s ≡ get_or servers i s → after.book ≡ s.book → AreOf book (set servers i after)
one_set book servers i s after all less read same = All-set (λ (server : ServerState). server.book ≡ book) servers i after (same ∙ its_book book servers i s all less read) all

-- ---- steps of operator and sweeper
pub agrees_still : (who : Actor) → ((i : ℕ) → same_actor who (actor.Client i) ≡ false) → (step : DirectoryStep) (sealed after : Sealed) (told : Told)
    → (after.core, told) ≡ directory_after false who 0 step sealed.core → after.book ≡ sealed.book → AgreesStill sealed after
agrees_still who apart step sealed after told made book =
    record {
      book = book;
      agrees = λ i token its agrees.
          subst (λ (r : Directory × Told). Agrees r.0 token) (sym made) (agreement_goes_on.others false who 0 step sealed.core token (ap (same_actor who) its ∙ apart i) agrees);
    }

pub and_then : (a b c : Sealed) → AgreesStill a b → AgreesStill b c → AgreesStill a c
and_then a b c first second =
    record { book = second.book ∙ first.book; agrees = λ i token its agrees. second.agrees i token its (first.agrees i token its agrees) }

pub walks_after : (book : BookOf) (sealed after : Sealed) (call : CallOf) → IsWalk book sealed call → AgreesStill sealed after → IsWalk book after call
walks_after book sealed after call is still =
    record {
      free = is.free;
      directory = still.book ∙ is.directory;
      of_book = is.of_book;
      agrees = still.agrees 0 call.token is.first is.agrees;
      first = is.first;
      waits = still.agrees 1 (ActorToken.Seated (client_seat 1)) refl is.waits;
    }

-- ---- no step was made
last_two : (none : List Seat) (a b x y : Seat) → a ∷ b ∷ [] ≡ (none ++ x ∷ []) ++ y ∷ [] → (x ≡ a) × (y ≡ b)
last_two [] a b x y e = (sym (ap (λ (l : List Seat). get_or l 0 a) e), sym (ap (λ (l : List Seat). get_or l 1 a) e))
last_two (z ∷ zs) a b x y e =
    let long : length ((z ∷ zs ++ x ∷ []) ++ y ∷ []) ≡ length (z ∷ zs ++ x ∷ []) + 1 = length-append (z ∷ zs ++ x ∷ []) (y ∷ []) in
    let most : length (zs ++ x ∷ []) ≡ length zs + 1 = length-append zs (x ∷ []) in
    absurd (omega (arith, ap length e, long, most))

-- the seats of a directory of two clients
pub seats : (all one none : List Seat) (first second : Seat) → all ≡ first_seats 2 0 → all ≡ one ++ second ∷ [] → one ≡ none ++ first ∷ [] → (first ≡ client_seat 0) × (second ≡ client_seat 1)
seats all one none first second are last rest = last_two none (client_seat 0) (client_seat 1) first second (sym are ∙ last ∙ ap (λ (l : List Seat). l ++ second ∷ []) rest)

pub still_waits : (book : BookOf) (sealed : Sealed) (call : CallOf) (seat : Seat) → IsWalk book sealed call → seat ≡ client_seat 1 → AgreesWithSeat sealed.core seat
still_waits book sealed call seat is same = subst (AgreesWithSeat sealed.core) (sym same) is.waits

module _ (book directory_book put_book : BookOf) (sealed : Sealed) (put : PutOf) (first : Seat) (written : Call) where
  pub opened : book.script ≡ None → directory_book ≡ book → put_book ≡ book → sealed ≡ new_sealed directory_book 8 → first ≡ client_seat 0 → put ≡ first_put put_book first 0 written
      → IsWalk book sealed put.call
  opened free its put_its is seat made =
      record {
        free = free;
        directory = ap (λ (s : Sealed). s.book) is ∙ its;
        of_book = ap (λ (p : PutOf). p.call.book) made ∙ put_its;
        agrees = subst (Agrees sealed.core) (sym (ap (λ (p : PutOf). p.call.token) made)) (subst (AgreesWithSeat sealed.core) (sym seat) (agrees 0));
        first = ap (λ (p : PutOf). actor_of p.call.token) made ∙ ap (λ (s : Seat). s.actor) seat;
        waits = agrees 1;
      }
    where
      agrees : (i : ℕ) → AgreesWithSeat sealed.core (client_seat i)
      agrees i = subst (λ (d : Directory). AgreesWithSeat d (client_seat i)) (sym (ap (λ (s : Sealed). s.core) is)) (agreement_goes_on.first directory_book.geometry 8 (actor.Client i))
