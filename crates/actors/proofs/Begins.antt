-- How a caller's call begins.
use Rattle.std.proofs.Common.{◌≡◌, ℕ, zero, suc, ◌<◌, ◌≤◌, Bool, true, false, List, [], ◌∷◌, length, map, replicate, get_or, slice_get, Option, None, Some, IfSome, option_map, is_some, refl, sym, ap, subst, ◌∙◌, arith, lt-ltb, nat_lt, if◌then◌else◌, true≢false}
use Rattle.std.proofs.lemmas.List.{length-map, length-replicate}
use Rattle.std.proofs.lemmas.Option.{same_Some}
use Rattle.std.specs.Prelude.{option_and_then}
use Rattle.clay_grid.specs.Shape.{Shape, chunk_count}
use Rattle.store_map.specs.Limits.{tries_of}
use Rattle.store_map.specs.declared.actor.Actor.TheVariants as actor
use Rattle.store_map.specs.declared.call.Call.{Call}
use Rattle.store_map.specs.declared.call.Call.TheVariants as call
use Rattle.store_map.specs.declared.call.Rebuild.{Rebuild}
use Rattle.store_map.specs.declared.script.ClientPart.{ClientPart}
use Rattle.store_map.specs.declared.script.Script.{Script}
use Rattle.store_core.specs.Act.{Act, DirectoryStep, Outcome}
use Rattle.store_core.specs.Agreement.{Seat, ActorToken}
use Rattle.store_core.specs.History.{call_of}
use Rattle.store_core.specs.NextAct.{Job, job_of, rebuild_job}
use Rattle.store_core.specs.Note.{note_of}
use Rattle.store_core.specs.Work.{Ended}
use Rattle.version_seal.specs.Entry.{BookOf}
use Rattle.call_steps.specs.CallOf.{tries_by}
use Rattle.call_steps.specs.Steps.{need_by, need_of}
use Rattle.call_steps.specs.Stands.{IsFirst}
use Rattle.call_machine.specs.Kinds.{Asked, asked_job, Machine, client_machine, machine_of, IfPatches}
use Rattle.call_machine.specs.Calls.{MachineOf, first_call, tries_in, KnowsOldOf}
use Rattle.call_steps.specs.CallerCalls.{ended_of}
use Rattle.call_steps.specs.declared.caller_calls.EndedCall.{EndedCall}
use Rattle.world_laws.specs.ActorAfter.{Begins}
use Rattle.call_machine.specs.Going.{GoesOn}
use Rattle.actors.specs.Callers.{PartOf, CallerOf, IsPartOf, calls_of, work_of, who_of, asked_at}
use Rattle.actors.specs.Beginning.{MayBeAsked, MayTake, HasBegun, MayGoOn}
use Rattle.actors.specs.Steps.{BeginsCall}
use Rattle.actors.specs.Inside.{caller_by, IsInWork, AreOfServers}
use Rattle.call_machine.proofs.Machines.{if_patches, if_draws}
use Rattle.call_machine.proofs.Knowing.{first_calls_know}

-- ---- what may begin
-- the call of a number
call_at : {X : Type 0} (calls : List X) (i : ℕ) → i < length calls → (call : X) × (slice_get calls i ≡ Some call) × (call ≡ get_or calls i call)
call_at [] i less = absurd (omega arith)
call_at (x ∷ xs) zero less = (x, refl, refl)
call_at (x ∷ xs) (suc i) less = call_at xs i (omega arith)

of_script : (script : Option Script) (place number : ℕ) (part : ClientPart) (call : Call) → IfSome script (λ script. slice_get script.clients place ≡ Some part)
    → slice_get part.calls number ≡ Some call → IfSome script (λ script. call_of script (actor.Client place) number ≡ Some call)
of_script None place number part call is_part next = tt
of_script (Some script) place number part call is_part next = ap (λ (o : Option ClientPart). option_and_then (λ (p : ClientPart). slice_get p.calls number) o) is_part ∙ next

may_by : (book : BookOf) (tries number place : ℕ) (part : PartOf) (seat : Seat) → number < calls_of part → 0 < tries → AreOfServers book part → IsPartOf book place part
    → seat.actor ≡ who_of part place → seat.unused ≤ number → MayTake book tries place number part seat
may_by book tries number place (PartOf.OfClient part) seat less some below is_part whose unused =
    let found : (call : Call) × (slice_get part.calls number ≡ Some call) × (call ≡ get_or part.calls number call) = call_at part.calls number less in
    record {
      asked = Asked.OfClient found.0;
      next = ap (option_map Asked.OfClient) found.1;
      own = whose;
      unused = unused;
      may = (if_patches (client_machine found.0) some, if_draws (client_machine found.0) (of_script book.script place number part found.0 is_part found.1));
    }
may_by book tries number place (PartOf.OfRepairer part) seat less some below is_part whose unused =
    let found : (call : Rebuild) × (slice_get part.calls number ≡ Some call) × (call ≡ get_or part.calls number call) = call_at part.calls number less in
    record {
      asked = Asked.OfRepairer found.0;
      next = ap (option_map Asked.OfRepairer) found.1;
      own = whose;
      unused = unused;
      may = subst (λ (call : Rebuild). call.server < chunk_count book.geometry) (sym found.2) (below number found.0 less);
    }

pub may_take : (part : PartOf) (book : BookOf) (tries place number : ℕ) (ended : List EndedCall) (slot : Option Seat) (seat : Seat) (steps : ℕ) (a : CallerOf) → a ≡ caller_by part book tries ended slot None steps → slot ≡ Some seat
    → MayGoOn place a → 0 < tries → AreOfServers book part → number ≡ length ended → MayTake book tries place number part seat
may_take part book tries place number ended slot seat steps a view taken may some below count =
    let now : a ≡ caller_by part book tries ended (Some seat) None steps = view ∙ ap (λ (s : Option Seat). caller_by part book tries ended s None steps) taken in
    let m : MayGoOn place (caller_by part book tries ended (Some seat) None steps) = subst (MayGoOn place) now may in
    let same : length (map (ended_of (chunk_count book.geometry)) ended) ≡ number = length-map ended (ended_of (chunk_count book.geometry)) ∙ sym count in
    may_by book tries number place part seat (subst (λ (n : ℕ). n < calls_of part) same m.next) some below m.part m.whose (subst (λ (n : ℕ). seat.unused ≤ n) same m.numbered)

-- ---- a call before its first step
-- it isn't over
client_goes : (book : BookOf) (tries : ℕ) (seat : Seat) (number : ℕ) (c : Call) → IfPatches (client_machine c) (0 < tries) → GoesOn (need_of (first_call book tries seat number (Asked.OfClient c)).call)
client_goes book tries seat number (call.Get name) some = tt
client_goes book tries seat number (call.ReadAt name offset count) some = tt
client_goes book tries seat number (call.Stat name) some = tt
client_goes book tries seat number (call.Put name content) some = tt
client_goes book tries seat number (call.Delete name) some = tt
client_goes book tries seat number (call.Write name offset content) some =
    let tried : nat_lt 0 tries ≡ true = lt-ltb 0 tries some in
    subst (λ (b : Bool). GoesOn (need_by (if b then Act.AtDirectory (DirectoryStep.Look (note_of (call.Write name offset content))) else Act.Finish (Outcome.Contended [])) false)) (sym tried) tt

first_goes : (book : BookOf) (tries : ℕ) (seat : Seat) (place number : ℕ) (asked : Asked) → MayBeAsked book tries place number asked → GoesOn (need_of (first_call book tries seat number asked).call)
first_goes book tries seat place number (Asked.OfClient c) may = client_goes book tries seat number c may.0
first_goes book tries seat place number (Asked.OfRepairer rebuild) may = tt

tries_same : (m : Machine) (script : Script) (tries : ℕ) (book : BookOf) → book.script ≡ Some script → tries ≡ tries_of script → tries_in m tries book ≡ tries_of script
tries_same Machine.Patches script tries book is own = own
tries_same Machine.Puts script tries book is own = ap tries_by is
tries_same Machine.Reads script tries book is own = ap tries_by is
tries_same Machine.Rebuilds script tries book is own = ap tries_by is

-- the job of a call that is there
mapped_job : {X : Type 0} (job : X → Job) (as_asked : X → Asked) (calls : List X) (number : ℕ) (asked : Asked) → ((x : X) → asked_job (as_asked x) ≡ job x)
    → option_map as_asked (slice_get calls number) ≡ Some asked → slice_get (map job calls) number ≡ Some (asked_job asked)
mapped_job job as_asked [] number asked same next = absurd (true≢false (sym (ap is_some next)))
mapped_job job as_asked (x ∷ calls) zero asked same next = ap (λ (j : Job). Some j) (sym (same x)) ∙ ap (option_map asked_job) next
mapped_job job as_asked (x ∷ calls) (suc number) asked same next = mapped_job job as_asked calls number asked same next

pub job_at : (part : PartOf) (number : ℕ) (asked : Asked) → asked_at part number ≡ Some asked → slice_get (work_of part).jobs number ≡ Some (asked_job asked)
job_at (PartOf.OfClient part) number asked next = mapped_job job_of Asked.OfClient part.calls number asked (λ x. refl) next
job_at (PartOf.OfRepairer part) number asked next = mapped_job rebuild_job Asked.OfRepairer part.calls number asked (λ x. refl) next

-- ---- what has begun
module _ (part : PartOf) (book : BookOf) (tries : ℕ) (ended : List EndedCall) where
  abbrev kept_of : List Ended
  kept_of = map (ended_of (chunk_count book.geometry)) ended

  counted : length kept_of ≡ length ended
  counted = length-map ended (ended_of (chunk_count book.geometry))

  first_by : (script : Script) (asked : Asked) (seat : Seat) → book.script ≡ Some script → book.geometry ≡ script.geometry → tries ≡ tries_of script
      → IsFirst script.geometry (tries_of script) (asked_job asked) (length kept_of) (first_call book tries seat (length ended) asked).call
  first_by script asked seat its code tried =
      record {
        shape = code;
        tries = tries_same (machine_of asked) script tries book its tried;
        job = refl;
        number = sym counted;
        state = refl;
        takes = ap (λ (g : Shape). replicate (chunk_count g) 0) code;
      }

  begins_by : (script : Script) (seat : Seat) (now : MachineOf) → HasBegun book tries (length ended) part seat now → book.script ≡ Some script → book.geometry ≡ script.geometry → tries ≡ tries_of script
      → Begins script (work_of part).jobs kept_of (ActorToken.Seated seat) now.call
  begins_by script seat now begun its code tried =
      record {
        job = asked_job begun.asked;
        is_next = ap (slice_get (work_of part).jobs) counted ∙ job_at part (length ended) begun.asked begun.next;
        first =
            subst (λ (c : MachineOf). IsFirst script.geometry (tries_of script) (asked_job begun.asked) (length kept_of) c.call) (sym begun.first)
            (first_by script begun.asked seat its code tried);
        held = ap (λ (c : MachineOf). c.call.token) begun.first;
      }

  goes_by : (place : ℕ) (seat : Seat) (now : MachineOf) → MayTake book tries place (length ended) part seat → HasBegun book tries (length ended) part seat now → GoesOn (need_of now.call)
  goes_by place seat now may begun =
      subst (λ (c : MachineOf). GoesOn (need_of c.call)) (sym begun.first)
      (first_goes book tries seat place (length ended) begun.asked
      (subst (MayBeAsked book tries place (length ended)) (same_Some may.asked begun.asked (sym may.next ∙ begun.next)) may.may))

  -- a caller that waited is in its next call
  pub begins_next : (place steps : ℕ) (seat : Seat) (now : MachineOf) → MayTake book tries place (length ended) part seat → HasBegun book tries (length ended) part seat now
      → BeginsCall (caller_by part book tries ended (Some seat) None steps) (caller_by part book tries ended None (Some now) 0)
  begins_next place steps seat now may begun =
      record {
        call = now;
        its = record {
          before = λ script of. begins_by script seat now begun of.book of.code of.tries;
          token = sym (ap (λ (c : MachineOf). c.call.token) begun.first);
          asked = ap (asked_at part) counted ∙ begun.next ∙ ap (λ (c : MachineOf). Some c.asked) (sym begun.first);
          owed = ap (λ (c : MachineOf). c.owed) begun.first;
          ample = ap (λ (c : MachineOf). c.call.coding) begun.first;
        };
        goes = goes_by place seat now may begun;
        knows = λ d knows. subst (KnowsOldOf d) (sym begun.first) (first_calls_know d book tries seat (length ended) begun.asked);
        leaves = refl;
      }

  pub begins_here : (a : CallerOf) (slot after : Option Seat) (call : Option MachineOf) (place steps : ℕ) (seat : Seat) (now : MachineOf) → a ≡ caller_by part book tries ended slot None steps → slot ≡ Some seat
      → after ≡ None → call ≡ Some now → MayTake book tries place (length ended) part seat → HasBegun book tries (length ended) part seat now → BeginsCall a (caller_by part book tries ended after call 0)
  begins_here a slot after call place steps seat now view taken gone put may begun =
      subst (λ (c : CallerOf). BeginsCall c (caller_by part book tries ended after call 0)) (sym (view ∙ ap (λ (s : Option Seat). caller_by part book tries ended s None steps) taken))
      (subst (λ (s : Option Seat). BeginsCall (caller_by part book tries ended (Some seat) None steps) (caller_by part book tries ended s call 0)) (sym gone)
      (subst (λ (o : Option MachineOf). BeginsCall (caller_by part book tries ended (Some seat) None steps) (caller_by part book tries ended None o 0)) (sym put)
      (begins_next place steps seat now may begun)))

  -- a caller in a call stays in it
  pub begun_before : (slot : Option MachineOf) (seat : Option Seat) (steps : ℕ) → is_some slot ≡ true → IfSome slot (IsInWork book part (length ended))
      → BeginsCall (caller_by part book tries ended seat slot steps) (caller_by part book tries ended seat slot steps)
  begun_before None seat steps some kept = absurd (true≢false (sym some))
  begun_before (Some c) seat steps some kept =
      record {
        call = c;
        its = record { before = λ script of. refl; token = refl; asked = ap (asked_at part) counted ∙ kept.asked; owed = refl; ample = tt };
        goes = kept.goes;
        knows = λ d knows. knows;
        leaves = refl;
      }

  -- it is in work
  pub first_work : (seat : Seat) (now : MachineOf) (place : ℕ) → MayTake book tries place (length ended) part seat → HasBegun book tries (length ended) part seat now → IsInWork book part (length ended) now
  first_work seat now place may begun =
      record {
        asked = begun.next ∙ ap (λ (c : MachineOf). Some c.asked) (sym begun.first);
        its = ap (λ (c : MachineOf). c.call.book) begun.first;
        servers = ap (λ (c : MachineOf). length c.call.takes) begun.first ∙ length-replicate (chunk_count book.geometry) 0;
        goes = goes_by place seat now may begun;
      }

-- no call
pub none_of : (o : Option MachineOf) → is_some o ≡ false → o ≡ None
none_of None none = refl
none_of (Some c) none = absurd (true≢false none)

-- what is read under a number is what is asked there
pub read_asked : {X : Type 0} (as_asked : X → Asked) (calls : List X) (number : ℕ) (asked : Asked) (read : X) → option_map as_asked (slice_get calls number) ≡ Some asked → read ≡ get_or calls number read → asked ≡ as_asked read
read_asked as_asked [] number asked read next is = absurd (true≢false (sym (ap is_some next)))
read_asked as_asked (x ∷ calls) zero asked read next is = same_Some asked (as_asked x) (sym next) ∙ ap as_asked (sym is)
read_asked as_asked (x ∷ calls) (suc number) asked read next is = read_asked as_asked calls number asked read next is

pub is_there : {X : Type 0} (as_asked : X → Asked) (calls : List X) (number : ℕ) (asked : Asked) → option_map as_asked (slice_get calls number) ≡ Some asked → number < length calls
is_there as_asked [] number asked next = absurd (true≢false (sym (ap is_some next)))
is_there as_asked (x ∷ calls) zero asked next = omega arith
is_there as_asked (x ∷ calls) (suc number) asked next =
    let below : number < length calls = is_there as_asked calls number asked next in
    omega (arith, below)
