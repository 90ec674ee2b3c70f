-- A caller whose call is ready, makes its step, and has its whole turn.
use Rattle.std.proofs.Common.{◌≡◌, ℕ, ◌<◌, Bool, true, false, List, ◌++◌, length, map, get_or, set, Option, None, Some, IfSome, refl, sym, ap, subst, ◌∙◌, ◌&&◌, if◌then◌else◌}
use Rattle.std.proofs.lemmas.Option.{same_Some}
use Rattle.clay_grid.specs.Shape.{chunk_count}
use Rattle.store_map.specs.declared.script.Script.{Script}
use Rattle.store_core.specs.Act.{Act}
use Rattle.store_core.specs.Agreement.{Seat, Agrees}
use Rattle.store_core.specs.Directory.{Directory}
use Rattle.store_core.specs.Server.{Server}
use Rattle.store_core.specs.Tokens.{actor_of}
use Rattle.store_core.specs.Work.{has_step}
use Rattle.version_seal.specs.Entry.{BookOf}
use Rattle.chunk_server.specs.State.{ServerState}
use Rattle.stripe_stamps.specs.Sealed.{Sealed}
use Rattle.call_steps.specs.declared.need.Need.{Need}
use Rattle.call_steps.specs.declared.need.Need.TheVariants as need
use Rattle.call_steps.specs.CallOf.{CallOf, act_of}
use Rattle.call_steps.specs.Steps.{need_of, at_server_by, coded}
use Rattle.call_machine.specs.Kinds.{machine_of, IfPatches}
use Rattle.call_machine.specs.Going.{GoesOn}
use Rattle.call_machine.specs.Calls.{ArePadded, MachineOf, KnowsOldOf, drawn_by, owed_by}
use Rattle.call_machine.proofs.Machines.{if_patches}
use Rattle.call_steps.specs.CallerCalls.{ended_of}
use Rattle.call_steps.specs.declared.caller_calls.EndedCall.{EndedCall}
use Rattle.call_steps.specs.declared.step_made.Step.{Step}
use Rattle.world_laws.specs.StepsTold.{IsStep}
use Rattle.world_laws.specs.TurnMade.{turn_made}
use Rattle.world_laws.specs.World.{DoingOf}
use Rattle.world_laws.specs.Known.{calling_of}
use Rattle.world_laws.specs.ActorAfter.{actor_after_by}
use Rattle.world_laws.specs.Tokens.{token_of}
use Rattle.actors.specs.Turns.{IsMadeAt, IsSameCall, places_of}
use Rattle.actors.specs.Callers.{PartOf, CallerOf, IsOfScript, Knows, IsPaddedFor, work_of, who_of, asked_at}
use Rattle.actors.specs.Owing.{left_by}
use Rattle.actors.specs.Steps.{BeginsCall, IsCodedCall, IsCoded, IsReady, IsReadyIn, Concludes, MadeAtDirectory, MadeAtServer, MakesStep, in_work}
use Rattle.actors.specs.CallerTurns.{TellsCallerTurn}
use Rattle.actors.specs.Concluded.{IsConcluded}
use Rattle.actors.specs.Inside.{caller_by, doing_by, IsInWork}
use Rattle.actors.proofs.Owing.{owed_at_server, stamps_at_server}
use Rattle.actors.proofs.Turning.{at_directory_same, at_server_same, served_at}

-- ---- ready
module _ (part : PartOf) (book : BookOf) (tries : ℕ) (ended : List EndedCall) (seat : Option Seat) (steps : ℕ) (a : CallerOf) where
  abbrev with_call : Option MachineOf → CallerOf
  with_call slot = caller_by part book tries ended seat slot steps

  ready_with : (short : Bool) (begun now call : MachineOf) → BeginsCall a (with_call (Some call)) → IsCodedCall call now → short ≡ (call.call.due && now.call.coding) → IsReadyIn short a (with_call (Some now))
  ready_with short begun now call b coded is =
      let same : call ≡ b.call = same_Some call b.call (ap (λ (c : CallerOf). c.work) b.leaves) in
      record {
        ready = record {
          call = b.call;
          its = b.its;
          now = now;
          coded = subst (λ (c : MachineOf). IsCodedCall c now) same coded;
          leaves = ap (in_work now) b.leaves;
        };
        short_is = is ∙ ap (λ (c : MachineOf). c.call.due && now.call.coding) same;
      }

  pub ready_by : (short : Bool) (slot after : Option MachineOf) → BeginsCall a (with_call slot) → IsCoded short slot after → IsReadyIn short a (with_call after)
  ready_by short slot after b coded =
      subst (λ (o : Option MachineOf). IsReadyIn short a (with_call o)) (sym coded.is)
      (ready_with short coded.call coded.now coded.call (subst (λ (o : Option MachineOf). BeginsCall a (with_call o)) coded.was b) coded.coded coded.short_is)

  -- what it knows
  pub ready_knows : (short : Bool) (slot after : Option MachineOf) (d : Sealed) → BeginsCall a (with_call slot) → IsCoded short slot after → Knows d a → Knows d (with_call after)
  ready_knows short slot after d b coded knows =
      let was : with_call slot ≡ with_call (Some coded.call) = ap with_call coded.was in
      let same : b.call ≡ coded.call = same_Some b.call coded.call (sym (ap (λ (c : CallerOf). c.work) b.leaves) ∙ coded.was) in
      subst (λ (o : Option MachineOf). IfSome o (KnowsOldOf d)) (sym coded.is)
      (coded.coded.knows d (subst (KnowsOldOf d) same (b.knows d knows)))

-- what a caller knows, its call does
pub known_at : (d : Sealed) (slot : Option MachineOf) (call : MachineOf) (a : CallerOf) → slot ≡ a.work → slot ≡ Some call → Knows d a → KnowsOldOf d call
known_at d slot call a same was knows = subst (λ (o : Option MachineOf). IfSome o (KnowsOldOf d)) (sym same ∙ was) knows

-- a directory that is padded is so for each call
pub padded_for : (a : CallerOf) (d : Sealed) → ArePadded d → IsPaddedFor a d
padded_for a d padded = by a.work
  where
    by : (work : Option MachineOf) → IfSome work (λ c. IfPatches (machine_of c.asked) (ArePadded d))
    by None = tt
    by (Some c) = if_patches (machine_of c.asked) padded

-- a call that goes on counts what it takes from each server
pub counts_servers : (book : BookOf) (part : PartOf) (number : ℕ) (before after : Option MachineOf) (call last : MachineOf) → IfSome before (IsInWork book part number) → before ≡ Some call → after ≡ Some last
    → IsSameCall call.call last.call → IfSome after (λ (c : MachineOf). length c.call.takes ≡ chunk_count c.call.book.geometry)
counts_servers book part number before after call last kept was is same =
    let work : IsInWork book part number call = subst (λ (o : Option MachineOf). IfSome o (IsInWork book part number)) was kept in
    subst (λ (o : Option MachineOf). IfSome o (λ (c : MachineOf). length c.call.takes ≡ chunk_count c.call.book.geometry)) (sym is)
    (same.servers ∙ work.servers ∙ ap (λ (b : BookOf). chunk_count b.geometry) (sym (same.book ∙ work.its)))

pub in_work_at : (book : BookOf) (part : PartOf) (number : ℕ) (slot : Option MachineOf) (call : MachineOf) → IfSome slot (IsInWork book part number) → slot ≡ Some call → IsInWork book part number call
in_work_at book part number slot call kept was = subst (λ (o : Option MachineOf). IfSome o (IsInWork book part number)) was kept

-- the call in work before its coding goes on, and is in work after it
pub coded_goes : (a after : CallerOf) (slot : Option MachineOf) → BeginsCall a after → after.work ≡ slot → IfSome slot (λ (c : MachineOf). GoesOn (need_of c.call))
coded_goes a after slot b is =
    subst (λ (o : Option MachineOf). IfSome o (λ (c : MachineOf). GoesOn (need_of c.call))) (sym (ap (λ (c : CallerOf). c.work) b.leaves) ∙ is) b.goes

-- ---- what a step leaves of the same call
pub same_there : (c last : MachineOf) (d now : Sealed) → MadeAtDirectory c last d now → IsSameCall c.call last.call
same_there c last d now m =
    subst (IsSameCall c.call) (sym (ap (λ (p : Directory × CallOf). p.1) m.made)) (at_directory_same (act_of c.call) last.call.step last.call.due c.call d.core)

pub same_here : (c last : MachineOf) (s now : ServerState) → MadeAtServer c last s now → IsSameCall c.call last.call
same_here c last s now m =
    subst (IsSameCall c.call) (sym (ap (λ (p : Server × CallOf). p.1) m.made)) (at_server_same (act_of c.call) last.call.step last.call.due c.call _)

-- ---- a step, and what becomes of the caller
module _ (part : PartOf) (book : BookOf) (tries : ℕ) (ended last : List EndedCall) (before after : Option Seat) (steps made : ℕ) (now : MachineOf) (left : Option MachineOf) (same_book : now.call.book ≡ book)
    (done : IsConcluded now steps ended last left after made) where
  abbrev after_step : CallerOf
  after_step = caller_by part book tries last after left made

  pub concludes_by : (call : MachineOf) → Concludes (caller_by part book tries ended before (Some call) steps) now after_step
  concludes_by call =
      record {
        actor =
            ap (λ (b : BookOf). record { ended = map (ended_of (chunk_count b.geometry)) last; doing = doing_by after left made }) (sym same_book)
            ∙ done.actor (record { ended = map (ended_of (chunk_count book.geometry)) ended; doing = DoingOf.InCall call.call steps })
            (ap (λ (b : BookOf). map (ended_of (chunk_count b.geometry)) ended) (sym same_book)) refl;
        served = done.served;
        work = done.work;
        same = refl;
      }

  pub makes_by : (step : MachineOf → MachineOf → Type 0) (slot : Option MachineOf) (call : MachineOf) → slot ≡ Some call → step call now
      → MakesStep step now (caller_by part book tries ended before slot steps) after_step
  makes_by step slot call was stepped =
      subst (λ (o : Option MachineOf). MakesStep step now (caller_by part book tries ended before o steps) after_step) (sym was)
      (record { call = call; was = refl; step = stepped; concludes = concludes_by call })

  -- a call that goes on stays in work
  pub stays_in_work : (call : MachineOf) → IsInWork book part (length ended) call → IsSameCall call.call now.call → now.asked ≡ call.asked → IfSome left (IsInWork book part (length last))
  stays_in_work call work same asked = by left done.goes
    where
      by : (o : Option MachineOf) → IfSome o (λ (kept : MachineOf). (kept ≡ now) × GoesOn (need_of kept.call) × (last ≡ ended)) → IfSome o (IsInWork book part (length last))
      by None goes = tt
      by (Some kept) goes =
          record {
            asked =
                ap (λ (calls : List EndedCall). asked_at part (length calls)) goes.2
                ∙ work.asked ∙ ap (λ (x : _). Some x) (sym asked ∙ ap (λ (c : MachineOf). c.asked) (sym goes.0));
            its = ap (λ (c : MachineOf). c.call.book) goes.0 ∙ same.book ∙ work.its;
            servers = ap (λ (c : MachineOf). length c.call.takes) goes.0 ∙ same.servers ∙ work.servers;
            goes = goes.1;
          }

-- the next call knows what it keeps
left_knows : (d : Sealed) (act : Act) (next : MachineOf) → KnowsOldOf d next → IfSome (left_by act next) (KnowsOldOf d)
left_knows d (Act.Finish outcome) next knows = tt
left_knows d (Act.AtDirectory step) next knows = knows
left_knows d (Act.AtServer server step) next knows = knows

pub knows_after : (d : Sealed) (next : MachineOf) (left : Option MachineOf) → KnowsOldOf d next → left ≡ left_by (act_of next.call) next → IfSome left (KnowsOldOf d)
knows_after d next left knows is = subst (λ (o : Option MachineOf). IfSome o (KnowsOldOf d)) (sym is) (left_knows d (act_of next.call) next knows)

-- ---- a whole turn
-- the actor after its step is the same for one that had begun its call
after_in_work : (act : Act) (c : CallOf) (now : MachineOf) (a : CallerOf) → actor_after_by act c (in_work now a).actor ≡ actor_after_by act c a.actor
after_in_work (Act.Finish outcome) c now a = refl
after_in_work (Act.AtDirectory step) c now a = refl
after_in_work (Act.AtServer server step) c now a = refl

module _ (script : Script) (place : ℕ) (a after : CallerOf) (d changed : Sealed) (servers others : List ServerState) (now last : MachineOf) (short due : Bool)
    (r : IsReady a (in_work now a)) (is_now : r.now ≡ now)
    (made : IsMadeAt (need_of now.call) short due now.call (places_of d servers) last.call (places_of changed others)) (agrees : Agrees changed.core last.call.token)
    (asked : last.asked ≡ now.asked) (owed : last.owed ≡ owed_by short d now) (stamps : changed.stamps ≡ d.stamps ++ drawn_by short d now)
    (done : Concludes (in_work now a) last after) (whose : actor_of (token_of a.actor.doing) ≡ who_of a.part place) (of : IsOfScript script a)
    (may : has_step (work_of a.part) (calling_of script a.actor) ≡ true) (step : Step) (told : IsStep step (turn_made (who_of a.part place) r.now.call.coding short r.call.call (places_of d servers))) where
  pub turned_by : TellsCallerTurn script place a d servers after changed others step
  turned_by =
      record {
        turn = record {
          makes = record {
            call = r.call.call;
            has = record {
              may = may;
              call = r.its.before script of;
              due = r.coded.in_pass;
              whose = ap actor_of (sym r.its.token) ∙ whose;
            };
            pass = r.coded.pass;
            next = last.call;
            turn = record {
              coding = r.now.call.coding;
              short = short;
              due = due;
              made =
                  subst (λ (c : CallOf). IsMadeAt (need_of c) short due c (places_of d servers) last.call (places_of changed others))
                  (sym (ap (λ (c : MachineOf). c.call) is_now) ∙ r.coded.is_ready) made;
            };
            agrees = agrees;
            actor = done.actor ∙ after_in_work (act_of last.call) last.call now a;
          };
          owes = record {
            before = now;
            last = last;
            is_ready = sym (ap (λ (c : MachineOf). c.call) is_now) ∙ r.coded.is_ready;
            is_last = refl;
            its = r.its.asked ∙ ap (λ (x : _). Some x) (sym r.coded.asked ∙ ap (λ (c : MachineOf). c.asked) is_now);
            asked = asked;
            owed = λ e. ap (λ (c : MachineOf). c.owed) (sym is_now) ∙ r.coded.owed e ∙ r.its.owed;
            goes = owed;
            stamps = stamps;
            served = done.served;
            work = done.work;
          };
        };
        told = told;
      }

-- the ticket that a call has after its coding, and after a step at a server
pub ready_token : (coding due : Bool) (c : CallOf) → (if due then coded coding c else c).token ≡ c.token
ready_token coding true c = refl
ready_token coding false c = refl

server_token : (act : Act) (short due : Bool) (c : CallOf) (s : Server) → (at_server_by act short due c s).1.token ≡ c.token
server_token (Act.AtServer server step) short due c s = refl
server_token (Act.AtDirectory step) short due c s = refl
server_token (Act.Finish outcome) short due c s = refl

-- ---- the turn at the directory, and at a server
module _ (script : Script) (place : ℕ) (a mid after : CallerOf) (r : IsReady a mid) (whose : actor_of (token_of a.actor.doing) ≡ who_of a.part place) (of : IsOfScript script a)
    (may : has_step (work_of a.part) (calling_of script a.actor) ≡ true) where
  abbrev here : IsReady a (in_work r.now a)
  here = record { call = r.call; its = r.its; now = r.now; coded = r.coded; leaves = refl }

  -- the call that makes the step is the one that is ready
  its_call : {step : MachineOf → MachineOf → Type 0} (last : MachineOf) (m : MakesStep step last mid after) → m.call ≡ r.now
  its_call last m = same_Some m.call r.now (sym m.was ∙ ap (λ (c : CallerOf). c.work) r.leaves)

  needs_it : (needs : Need) → IfSome mid.work (λ (c : MachineOf). needs ≡ need_of c.call) → needs ≡ need_of r.now.call
  needs_it needs is = subst (λ (c : CallerOf). IfSome c.work (λ (x : MachineOf). needs ≡ need_of x.call)) r.leaves is

  ends_so : {step : MachineOf → MachineOf → Type 0} (last : MachineOf) (m : MakesStep step last mid after) → Concludes (in_work r.now a) last after
  ends_so last m = subst (λ (c : CallerOf). Concludes c last after) r.leaves m.concludes

  pub turned_there : (d changed : Sealed) (servers : List ServerState) (last : MachineOf) (m : MakesStep (λ (c last : MachineOf). MadeAtDirectory c last d changed) last mid after)
      → IfSome mid.work (λ (c : MachineOf). need.Directory ≡ need_of c.call) → (step : Step) → IsStep step (turn_made (who_of a.part place) r.now.call.coding last.call.step r.call.call (places_of d servers))
      → TellsCallerTurn script place a d servers after changed servers step
  turned_there d changed servers last m is tells told =
      let step : MadeAtDirectory r.now last d changed = subst (λ (c : MachineOf). MadeAtDirectory c last d changed) (its_call last m) m.step in
      turned_by script place a after d changed servers servers r.now last last.call.step last.call.due here refl
      (subst (λ (at : Need). IsMadeAt at last.call.step last.call.due r.now.call (places_of d servers) last.call (places_of changed servers)) (needs_it need.Directory is)
      (record { directory = ap (λ (p : Directory × CallOf). p.0) step.made; servers = refl; call = ap (λ (p : Directory × CallOf). p.1) step.made }))
      step.agrees step.asked step.owed step.stamps (ends_so last m) whose of may tells told

  pub turned_here : (d : Sealed) (servers : List ServerState) (i : ℕ) (s now : ServerState) (last : MachineOf) (m : MakesStep (λ (c last : MachineOf). MadeAtServer c last s now) last mid after)
      → IfSome mid.work (λ (c : MachineOf). need.Server i ≡ need_of c.call) → i < length servers → s ≡ get_or servers i s → Agrees d.core (token_of a.actor.doing)
      → (step : Step) → IsStep step (turn_made (who_of a.part place) r.now.call.coding last.call.step r.call.call (places_of d servers))
      → TellsCallerTurn script place a d servers after d (set servers i now) step
  turned_here d servers i s now last m is less read agrees tells told =
      let step : MadeAtServer r.now last s now = subst (λ (c : MachineOf). MadeAtServer c last s now) (its_call last m) m.step in
      let needs : need.Server i ≡ need_of r.now.call = needs_it (need.Server i) is in
      let token : last.call.token ≡ token_of a.actor.doing =
      ap (λ (p : Server × CallOf). p.1.token) step.made ∙ server_token (act_of r.now.call) last.call.step last.call.due r.now.call _
      ∙ ap (λ (c : CallOf). c.token) r.coded.is_ready ∙ ready_token r.now.call.coding r.call.call.due r.call.call ∙ sym r.its.token in
      turned_by script place a after d d servers (set servers i now) r.now last last.call.step last.call.due here refl
      (served_at r.now.call last.call last.call.step last.call.due d.core servers i s now needs less read step.made)
      (subst (Agrees d.core) (sym token) agrees) step.asked (step.owed ∙ owed_at_server last.call.step d r.now i (sym needs)) (stamps_at_server last.call.step d r.now i (sym needs)) (ends_so last m) whose of may tells told
