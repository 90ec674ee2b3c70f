-- A turn of a call: its step among the servers, and what stays.
use Rattle.std.proofs.Common.{◌≡◌, ℕ, zero, suc, ◌<◌, Bool, true, false, if◌then◌else◌, List, [], ◌∷◌, length, map, get_or, set, slice_get, length-set, Some, refl, sym, ap, subst, ◌∙◌, arith}
use Rattle.std.proofs.lemmas.Option.{same_Some, none-some}
use Rattle.store_core.specs.Act.{Act}
use Rattle.store_core.specs.Told.{Told}
use Rattle.store_core.specs.Directory.{Directory}
use Rattle.store_core.specs.Server.{Server, raised_by}
use Rattle.store_core.specs.Step.{Places, take_from}
use Rattle.store_core.proofs.Places.{length-change_at}
use Rattle.version_seal.specs.Entry.{BookOf}
use Rattle.chunk_server.specs.State.{ServerState}
use Rattle.chunk_server.specs.Core.{core_of}
use Rattle.dir_parts.proofs.Entries.{map-set, slice_get-map}
use Rattle.call_steps.specs.declared.need.Need.{Need}
use Rattle.call_steps.specs.declared.need.Need.TheVariants as need
use Rattle.call_steps.specs.CallOf.{CallOf, act_of}
use Rattle.call_steps.specs.Steps.{coded, need_of, at_directory_by, at_server_by, stepped_at_server}
use Rattle.call_steps.specs.Ready.{ready}
use Rattle.actors.specs.Turns.{AreServers, IsMadeAt, IsMadeAtServer, IsSameCall}

-- ---- one server of some changes
-- what holds of each element with its place holds after a change that keeps it there
each_set : {X : Type 0} (P : ℕ → X → Type 0) (xs : List X) (i : ℕ) (x : X) → ((k : ℕ) (t : X) → slice_get xs k ≡ Some t → P k t) → P i x
    → (k : ℕ) (t : X) → slice_get (set xs i x) k ≡ Some t → P k t
each_set P [] i x all here k t e = absurd (none-some t e)
each_set P (y ∷ ys) zero x all here zero t e = subst (P zero) (same_Some x t e) here
each_set P (y ∷ ys) zero x all here (suc k) t e = all (suc k) t e
each_set P (y ∷ ys) (suc i) x all here zero t e = all zero t e
each_set P (y ∷ ys) (suc i) x all here (suc k) t e = each_set (λ (n : ℕ). P (suc n)) ys i x (λ n u f. all (suc n) u f) here k t e

pub others : (book : BookOf) (servers : List ServerState) (i : ℕ) (s : ServerState) → AreServers book servers → s.number ≡ i → s.book ≡ book → AreServers book (set servers i s)
others book servers i s are number its =
    record {
      count = length-set servers i s ∙ are.count;
      each = each_set (λ (k : ℕ) (t : ServerState). (t.number ≡ k) × (t.book ≡ book)) servers i s are.each (number, its);
    }

-- the element at a place
pub got : {X : Type 0} (xs : List X) (i : ℕ) (x : X) → i < length xs → x ≡ get_or xs i x → slice_get xs i ≡ Some x
got [] i x less read = absurd (omega arith)
got (y ∷ ys) zero x less read = ap (λ (z : _). Some z) (sym read)
got (y ∷ ys) (suc i) x less read = got ys i x (omega arith) read

module _ (c after : CallOf) (short due : Bool) (directory : Directory) (servers : List ServerState) (i : ℕ) (s now : ServerState) where
  pub served : i < length servers → s ≡ get_or servers i s → (core_of now, after) ≡ stepped_at_server short due c (core_of s)
      → IsMadeAtServer i short due c (record { directory = directory; servers = map core_of servers }) after (record { directory = directory; servers = map core_of (set servers i now) })
  served less read step =
      record {
        before = core_of s;
        there = slice_get-map core_of servers i s (got servers i s less read);
        directory = refl;
        servers = map-set core_of (λ _. (stepped_at_server short due c (core_of s)).0) servers i s now less read (ap (λ (p : Server × CallOf). p.0) step);
        call = ap (λ (p : Server × CallOf). p.1) step;
      }

  pub served_at : need.Server i ≡ need_of c → i < length servers → s ≡ get_or servers i s → (core_of now, after) ≡ stepped_at_server short due c (core_of s)
      → IsMadeAt (need_of c) short due c (record { directory = directory; servers = map core_of servers }) after (record { directory = directory; servers = map core_of (set servers i now) })
  served_at needs less read step =
      subst
      (λ (at : Need). IsMadeAt at short due c (record { directory = directory; servers = map core_of servers }) after (record { directory = directory; servers = map core_of (set servers i now) }))
      needs
      (served less read step)

-- ---- what stays of a call
took_length : (act : Act) (answer : Told) (takes : List ℕ) → length (take_from act answer takes) ≡ length takes
took_length (Act.AtServer server step) (Told.Given layers) takes = length-change_at server (raised_by layers) takes
took_length (Act.AtServer server step) answer takes = refl
took_length (Act.AtDirectory step) answer takes = refl
took_length (Act.Finish outcome) answer takes = refl

same : (c : CallOf) → IsSameCall c c
same c = record { book = refl; number = refl; servers = refl }

pub at_directory_same : (act : Act) (short due : Bool) (c : CallOf) (d : Directory) → IsSameCall c (at_directory_by act short due c d).1
at_directory_same (Act.AtDirectory step) short due c d = record { book = refl; number = refl; servers = refl }
at_directory_same (Act.AtServer server step) short due c d = same c
at_directory_same (Act.Finish outcome) short due c d = same c

pub at_server_same : (act : Act) (short due : Bool) (c : CallOf) (s : Server) → IsSameCall c (at_server_by act short due c s).1
at_server_same (Act.AtServer server step) short due c s = record { book = refl; number = refl; servers = took_length (Act.AtServer server step) _ c.takes }
at_server_same (Act.AtDirectory step) short due c s = same c
at_server_same (Act.Finish outcome) short due c s = same c

made_same : (at : Need) (short due : Bool) (c after : CallOf) (p q : Places) → IsMadeAt at short due c p after q → IsSameCall c after
made_same need.Directory short due c after p q made = subst (IsSameCall c) (sym made.call) (at_directory_same (act_of c) short due c p.directory)
made_same (need.Server server) short due c after p q made = subst (IsSameCall c) (sym made.call) (at_server_same (act_of c) short due c made.before)
made_same need.Coder short due c after p q made = absurd made
made_same need.Finished short due c after p q made = absurd made

coded_same : (c : CallOf) (coding due : Bool) → IsSameCall c (if due then coded coding c else c)
coded_same c coding true = record { book = refl; number = refl; servers = refl }
coded_same c coding false = same c

pub ready_same : (c now : CallOf) (coding : Bool) → now ≡ ready coding c → IsSameCall c now
ready_same c now coding is = subst (IsSameCall c) (sym is) (coded_same c coding c.due)

-- a turn's call is the same
pub turn_same : (c ready_now after : CallOf) (coding short due : Bool) (p q : Places) → ready_now ≡ ready coding c → IsMadeAt (need_of ready_now) short due ready_now p after q → IsSameCall c after
turn_same c ready_now after coding short due p q e made =
    let first : IsSameCall c ready_now = subst (IsSameCall c) (sym e) (coded_same c coding c.due) in
    let last : IsSameCall ready_now after = made_same (need_of ready_now) short due ready_now after p q made in
    record { book = last.book ∙ first.book; number = last.number ∙ first.number; servers = last.servers ∙ first.servers }
