-- A seated caller with a step: its call is ready for it.
use Rattle.std.proofs.Common.{◌≡◌, ℕ, ◌+◌, ◌<◌, ◌^◌, inl, inr, Bool, true, false, List, length, map, Option, Some, IfSome, if◌then◌else◌, refl, sym, ap, subst, ◌∙◌}
use Rattle.std.proofs.lemmas.List.{length-map}
use Rattle.std.specs.List.{slice_get}
use Rattle.clay_grid.specs.Shape.{chunk_count}
use Rattle.store_map.specs.declared.script.ClientPart.{ClientPart}
use Rattle.store_map.specs.declared.script.RepairPart.{RepairPart}
use Rattle.store_map.specs.declared.script.Script.{Script}
use Rattle.store_core.specs.ActPlace.{ActPlace}
use Rattle.store_core.specs.NextAct.{Job, job_of, rebuild_job}
use Rattle.store_core.specs.Tokens.{actor_of}
use Rattle.store_core.specs.Work.{Ended, Work}
use Rattle.thread_laws.specs.MadeSteps.{MadeStep}
use Rattle.version_seal.specs.Entry.{BookOf}
use Rattle.dir_parts.proofs.Entries.{slice_get-map}
use Rattle.stripe_stamps.specs.Sealed.{Sealed}
use Rattle.call_steps.specs.declared.need.Need.TheVariants as need
use Rattle.call_steps.specs.CallOf.{CallOf}
use Rattle.call_steps.specs.Steps.{need_of, coded, HoldsItsPass, MayMakeNext}
use Rattle.call_machine.specs.Calls.{MachineOf}
use Rattle.world_laws.specs.World.{DoingOf, steps_of}
use Rattle.world_laws.specs.Known.{calling_by}
use Rattle.world_laws.specs.ActorAfter.{IsCallBefore}
use Rattle.world_laws.specs.Tokens.{first_token, token_of}
use Rattle.world_laws.proofs.Few.{has_left}
use Rattle.world_laws.proofs.Turns.{Ready, ready_for}
use Rattle.actors.specs.Beginning.{MayGoOn}
use Rattle.actors.specs.Callers.{PartOf, CallerOf, IsOfScript, Knows, StandsIn, calls_of, who_of, work_of}
use Rattle.actors.specs.Steps.{IsAmpleFirst, IsReady, in_work}
use Rattle.turn_lock.specs.TurnState.{TurnState}
use Rattle.thread_laws.specs.Looks.{IsLookOfScript}
use Rattle.thread_laws.specs.Noted.{IsCaller}
use Rattle.thread_laws.specs.Numbers.{IsTurnOf}
use Rattle.thread_laws.proofs.DirectoryAdding.{token_of_actor}
use Rattle.thread_laws.specs.Callers.{HeardLast}
use Rattle.thread_laws.specs.Calling.{KnowsItself}
use Rattle.thread_laws.specs.Logs.{counts_of, own_at}
use Rattle.thread_laws.specs.Room.{IsWorkOf, HasRoom}
use Rattle.thread_laws.specs.Stepped.{IsReady as IsReadyFor}
use Rattle.thread_laws.proofs.Calling.{calls_know_themselves}
use Rattle.thread_laws.proofs.Room.{actors_have_room}
use Rattle.run_seats.specs.Before.{IsInCall, IsBeforeServer, IsBeforeDirectory}
use Rattle.run_seats.specs.Places.{seen_by, server_of, directory_of}
use Rattle.run_seats.specs.Seated.{MayStep}
use Rattle.run_seats.specs.Seen.{seen_there}
use Rattle.run_seats.specs.declared.server_box.ServerIdentity.{ServerIdentity}
use Rattle.run_seats.specs.declared.seated.Seated.{Seated}
use Rattle.run_seats.specs.declared.store.Store.{Store}
use Rattle.run_seats.proofs.Looking.{looks_of_script}

if_some : {A : Type 0} (P : A → Type 0) (o : Option A) (x : A) → o ≡ Some x → P x → IfSome o P
if_some {A} P o x is h = subst (λ (o : Option A). IfSome o P) (sym is) h

-- ---- its part of the script
count_jobs : (part : PartOf) → length (work_of part).jobs ≡ calls_of part
count_jobs (PartOf.OfClient part) = length-map part.calls job_of
count_jobs (PartOf.OfRepairer part) = length-map part.calls rebuild_job

-- it is the work of a client or of a repairer
is_work : (script : Script) (place : ℕ) (part : PartOf) → StandsIn script place part → IsWorkOf script place (work_of part)
is_work script place (PartOf.OfClient part) stands =
    inl (slice_get-map (λ (p : ClientPart). record { jobs = map job_of p.calls; leave = p.leave }) script.clients place part stands)
is_work script place (PartOf.OfRepairer part) stands =
    inr (slice_get-map (λ (p : RepairPart). record { jobs = map rebuild_job p.calls; leave = p.leave }) script.repairers place part stands)

callers : (part : PartOf) (place : ℕ) → IsCaller (who_of part place)
callers (PartOf.OfClient part) place = tt
callers (PartOf.OfRepairer part) place = tt

ended_by : (servers : ℕ) (ended : List Ended) (doing : DoingOf) → (calling_by servers ended doing).ended ≡ ended
ended_by servers ended (DoingOf.Between token) = refl
ended_by servers ended (DoingOf.InCall call steps) = refl

-- ---- its call before the coding
ample_by : (script : Script) (jobs : List Job) (ended : List Ended) (doing : DoingOf) (c : MachineOf) → HeardLast doing → IsAmpleFirst doing c → IsCallBefore script jobs ended doing c.call → c.call.coding ≡ false
ample_by script jobs ended (DoingOf.Between token) c heard ample before = ample
ample_by script jobs ended (DoingOf.InCall call steps) c heard ample before = ap (λ (x : CallOf). x.coding) before ∙ heard

job_coded : (due coding : Bool) (c : CallOf) → (if due then coded coding c else c).job ≡ c.job
job_coded true coding c = refl
job_coded false coding c = refl

module _ (store : Store) (seated : Seated) (may : MayStep store seated) where
  abbrev script : Script
  script = store.script.now

  abbrev a : CallerOf
  a = seated.caller

  abbrev work : Work
  work = work_of seated.caller.part

  abbrev at : ActPlace → List MadeStep
  at = own_at seated.turns.number (seen_by seated.turns)

  pub of_script : IsOfScript store.script.now seated.caller
  of_script =
      record {
        book = ap (λ (b : BookOf). b.script) may.seated_is.book ∙ may.store_is.written;
        code = ap (λ (b : BookOf). b.geometry) may.seated_is.book ∙ may.store_is.code;
        tries = may.seated_is.tries;
      }

  whose : actor_of (token_of a.actor.doing) ≡ who_of a.part seated.place
  whose =
      ap actor_of (sym may.seated_is.calling.token)
      ∙ (token_of_actor (at ActPlace.Directory) (first_token seated.actor) ∙ may.seated_is.whose)

  -- its next call may begin
  pub may_go_on : MayGoOn seated.place seated.caller
  may_go_on =
      record {
        next =
            subst (λ (n : ℕ). n < calls_of a.part) (ap (λ (l : List Ended). length l) (ended_by (chunk_count script.geometry) a.actor.ended a.actor.doing))
            (subst (λ (n : ℕ). length (calling_by (chunk_count script.geometry) a.actor.ended a.actor.doing).ended < n) (count_jobs a.part)
            (has_left work (calling_by (chunk_count script.geometry) a.actor.ended a.actor.doing) may.has));
        part = if_some (λ (x : Script). StandsIn x seated.place a.part) a.book.script script of_script.book may.seated_is.part;
        whose = whose;
        numbered = may.seated_is.calling.numbered;
      }

  pub room : HasRoom store.script.now (work_of seated.caller.part)
  room = actors_have_room script seated.place work may.store_is.geometry may.store_is.valid (is_work script seated.place a.part may.seated_is.part)

  module _ (mid : CallerOf) (r : IsReady seated.caller mid) where
    -- ready for its step
    pub is_ready : IsReadyFor store.script.now seated.actor (work_of seated.caller.part) seated.caller.actor r.now.call
    is_ready =
        record {
          first = r.call.call;
          turn = record {
            may = may.has;
            call = r.its.before script of_script;
            due = r.coded.in_pass;
            whose = ap actor_of (sym r.its.token) ∙ (whose ∙ sym may.seated_is.whose);
          };
          ample = ample_by script work.jobs a.actor.ended a.actor.doing r.call may.seated_is.calling.heard r.its.ample (r.its.before script of_script);
          coding = r.now.call.coding;
          is = r.coded.is_ready;
        }

    -- and knows its ticket and its number
    pub knows_itself : KnowsItself seated.actor (own_at seated.turns.number (seen_by seated.turns)) seated.caller.actor r.now.call
    knows_itself = calls_know_themselves script seated.actor work at a.actor r.now.call may.seated_is.calling is_ready

    pub same_book : mid.book ≡ seated.caller.book
    same_book = ap (λ (x : CallerOf). x.book) r.leaves

    -- a fact of the call in work is one of the call that is ready
    pub of_ready : (P : CallerOf → MachineOf → Type 0) → IfSome mid.work (P mid) → P (in_work r.now seated.caller) r.now
    of_ready P h = subst (λ (x : CallerOf). IfSome x.work (P x)) r.leaves h

    module _ (its : IfSome mid.work (λ c. c.call.book ≡ mid.book)) where
      pub call_book : r.now.call.book ≡ seated.caller.book
      call_book = of_ready (λ x c. c.call.book ≡ x.book) its

      pub in_call : IsInCall r.now mid
      in_call =
          record {
            works = r.leaves ∙ sym (ap (in_work r.now) r.leaves);
            its = call_book ∙ sym same_book;
            few = subst (λ (x : CallerOf). steps_of x.actor.doing + 1 < 2 ^ 64) (sym r.leaves) (room.steps seated.actor at a.actor may.seated_is.calling);
          }

      its_turn : IsTurnOf (counts_of script) seated.turns.number (actor_of r.now.call.token)
      its_turn = subst (IsTurnOf (counts_of script) seated.turns.number) (sym knows_itself.whose) may.seated_is.turn

      its_calls : IsCaller (actor_of r.now.call.token)
      its_calls = subst IsCaller (sym (knows_itself.whose ∙ may.seated_is.whose)) (callers a.part seated.place)

      -- before a step at a server
      pub before_server : (j : ℕ) (turn : TurnState ServerIdentity MadeStep) → turn.fixed ≡ Some (server_of store j) → IfSome mid.work (λ c. need.Server j ≡ need_of c.call)
          → IsBeforeServer turn.fixed seated.turns.number mid
      before_server j turn fixed needs =
          record {
            identity = server_of store j;
            is = fixed;
            book = sym may.seated_is.book ∙ sym same_book;
            call = r.now;
            work = in_call;
            needs = sym (of_ready (λ x c. need.Server j ≡ need_of c.call) needs);
            turn = its_turn;
            calls = its_calls;
          }

      looks : IsLookOfScript r.now.call
      looks =
          let of_job : Ready script work.jobs may.seated_is.calling.calling r.call.call =
          ready_for script work.jobs may.seated_is.calling.calling a.actor r.call.call may.seated_is.calling.stands (r.its.before script of_script) in
          looks_of_script script seated.place (length a.actor.ended) a.part of_job.job r.now.call may.seated_is.part
          (subst (λ (l : List Ended). slice_get work.jobs (length l) ≡ Some of_job.job) may.seated_is.calling.stands.ended of_job.is_next)
          (ap (λ (x : CallOf). x.job) r.coded.is_ready ∙ (job_coded r.call.call.due r.now.call.coding r.call.call ∙ of_job.stands.job)) knows_itself.number
          (knows_itself.whose ∙ may.seated_is.whose) (ap (λ (b : BookOf). b.script) call_book ∙ of_script.book)

      -- and at the directory
      pub before_directory :
          IfSome mid.work (λ c. need.Directory ≡ need_of c.call) → IfSome mid.work (λ c. MayMakeNext c.call) → IfSome mid.work (λ c. HoldsItsPass c.call) → ((d : Sealed) → Knows d seated.caller → Knows d mid)
          → IsBeforeDirectory seated.turns.directory.fixed seated.turns.number seated.turns.directory.seen mid
      before_directory needs may_make pass knows =
          record {
            identity = directory_of store;
            is = may.seated_is.turns.directory.fixed;
            script = script;
            written = may.store_is.written;
            book = sym may.seated_is.book ∙ sym same_book;
            call = r.now;
            work = in_call;
            needs = sym (of_ready (λ x c. need.Directory ≡ need_of c.call) needs);
            turn = its_turn;
            calls = its_calls;
            token = knows_itself.token;
            may = of_ready (λ x c. MayMakeNext c.call) may_make;
            pass = of_ready (λ x c. HoldsItsPass c.call) pass;
            looks = looks;
            knows =
                subst (λ (b : BookOf). Knows (seen_there seated.turns.directory.seen b) mid) (sym same_book)
                (knows (seen_there seated.turns.directory.seen a.book) may.seated_is.knows);
          }
