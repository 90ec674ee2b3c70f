-- A step of a rebuild at the server that its gathering asks.
use Rattle.std.proofs.Common.{◌≡◌, ℕ, Bool, false, List, length, Option, None, Some, unwrap_or, if◌then◌else◌, refl, sym, ap, subst, ◌∙◌}
use Rattle.clay_grid.specs.Shape.{Shape}
use Rattle.store_map.specs.declared.call.Rebuild.{Rebuild}
use Rattle.store_core.specs.Told.{Told, Seen as CoreSeen}
use Rattle.store_core.specs.Act.{Outcome}
use Rattle.store_core.specs.Note.{note_of_rebuild}
use Rattle.store_core.specs.Server.{Server, raised_by, at_server}
use Rattle.store_core.specs.Agreement.{ActorToken}
use Rattle.store_core.proofs.Places.{length-change_at}
use Rattle.run_laws.specs.Stage.{Aim, Asking, Stage as CoreStage}
use Rattle.run_laws.specs.StageAfter.{stage_after, server_asked, step_asked}
use Rattle.run_laws.specs.States.{open_state}
use Rattle.version_seal.specs.Entry.{BookOf, StampOf}
use Rattle.call_steps.specs.declared.seen.Seen.{Seen}
use Rattle.gathering.specs.Aims.{ending_at}
use Rattle.gathering.specs.Courses.{IsAskingStage, has_bytes, server_at, server_of}
use Rattle.gathering.specs.Gathers.{GatherOf, taking, stepped_at, stepped, need_by}
use Rattle.gathering.proofs.Taking.{takes_follow}
use Rattle.call_steps.specs.CallOf.{CallOf}
use Rattle.call_steps.specs.Steps.{stepped_at_server}
use Rattle.repairer.specs.declared.stage.RepairStage.{RepairStage}
use Rattle.repairer.specs.declared.stage.RepairStage.TheVariants as stage
use Rattle.repairer.specs.Standing.{gathered_state, state_by}
use Rattle.repairer.specs.declared.repair_call.RepairCall.TheInside.{Inside}
use Rattle.repairer.specs.Calls.{call_at}
use Rattle.repairer.specs.Parts.{IsOfCall, IsGatherOf}
use Rattle.repairer.specs.Moments.{IsAsking}
use Rattle.repairer.specs.Kept.{GathersAt, ConfirmsAt, Keeps}

-- a gathering that has begun stands where its stage says
opened : (g : Shape) (seen : CoreSeen) (target : ℕ) (at : CoreStage) → gathered_state seen target at ≡ open_state g (gathered_state seen target at)
opened g seen target (CoreStage.Asks asking) = refl
opened g seen target CoreStage.HasBytes = refl
opened g seen target (CoreStage.TooMany missing) = refl
opened g seen target CoreStage.AtTarget = refl
opened g seen target (CoreStage.TargetAway downs) = refl
opened g seen target CoreStage.Short = refl

module _ (book : BookOf) (rebuild : Rebuild) (number : ℕ) (token : ActorToken) (seen : CoreSeen) where
  -- the call with its gathering at a stage
  abbrev pub gathering : CoreStage → List ℕ → Bool → Bool → Bool → CallOf
  gathering at takes due coding step = call_at book rebuild number token (gathered_state seen rebuild.server at) takes due coding step

  -- a gathering that asks
  abbrev asks : StampOf → List ℕ → Asking → GatherOf
  asks stamp gone asking =
      record {
        stamp = stamp;
        course = record { geometry = book.geometry; aim = Aim.Chunk seen rebuild.server; stage = CoreStage.Asks asking; gone = gone };
      }

  answered : (stamp : StampOf) (gone : List ℕ) (asking : Asking) (takes counts : List ℕ) (next : GatherOf) (short due coding step : Bool) (s after : Server)
      → (after, next, counts) ≡ stepped (asks stamp gone asking) short s takes
      → (after, gathering next.course.stage counts due false short) ≡ stepped_at_server short due (gathering (CoreStage.Asks asking) takes false coding step) s
  answered stamp gone asking takes counts next short due coding step s after e =
      ap (λ (all : Server × GatherOf × List ℕ). (all.0, gathering all.1.course.stage all.2 due false short)) e
      ∙ (let at : Aim = Aim.Chunk seen rebuild.server in
      let made : Server × Told = at_server short (step_asked book.geometry at asking) s in
      λ i. (
        made.0,
        call_at book rebuild number token (opened book.geometry seen rebuild.server (stage_after book.geometry at asking made.1) i)
            (takes_follow made.1 (server_asked book.geometry at asking) (step_asked book.geometry at asking) takes i)
            due false short,
      ))

  -- its step is that of the call
  pub asked : (w next : GatherOf) (takes counts : List ℕ) (short due coding step : Bool) (s after : Server)
      → w.course.geometry ≡ book.geometry → w.course.aim ≡ Aim.Chunk seen rebuild.server → IsAskingStage w.course.stage
      → (after, next, counts) ≡ stepped w short s takes
      → (after, gathering next.course.stage counts due false short) ≡ stepped_at_server short due (gathering w.course.stage takes false coding step) s
  asked w next takes counts short due coding step s after code aim asks_now e = by w.course.stage refl asks_now
    where
      by : (at : CoreStage) → w.course.stage ≡ at → IsAskingStage at
          → (after, gathering next.course.stage counts due false short) ≡ stepped_at_server short due (gathering w.course.stage takes false coding step) s
      by (CoreStage.Asks asking) is asks_now =
          let same : w ≡ asks w.stamp w.course.gone asking =
          λ i. record w { course = record (w.course) { geometry = code i; aim = aim i; stage = is i } }
          in
          answered w.stamp w.course.gone asking takes counts next short due coding step s after
          (e ∙ ap (λ (v : GatherOf). stepped v short s takes) same)
          ∙ ap (λ (at : CoreStage). stepped_at_server short due (gathering at takes false coding step) s) (sym is)
      by at is asks_now = absurd asks_now

taking_length : (answer : Told) (server : Option ℕ) (takes : List ℕ) → length (taking answer server takes) ≡ length takes
taking_length (Told.Given layers) (Some server) takes = length-change_at server (raised_by layers) takes
taking_length (Told.Given layers) None takes = refl
taking_length answer server takes = refl

-- what a step leaves of a gathering, and of the takes
pub record Follows (w next : GatherOf) (takes counts : List ℕ) : Type 0 where
  pub stamp : next.stamp ≡ w.stamp
  pub code : next.course.geometry ≡ w.course.geometry
  pub aim : next.course.aim ≡ w.course.aim
  pub servers : length counts ≡ length takes

pub follows : (w next : GatherOf) (takes counts : List ℕ) (short : Bool) (s after : Server) → IsAskingStage w.course.stage
    → (after, next, counts) ≡ stepped w short s takes → Follows w next takes counts
follows w next takes counts short s after asks e = by w.course.stage refl asks
  where
    by : (at : CoreStage) → w.course.stage ≡ at → IsAskingStage at → Follows w next takes counts
    by (CoreStage.Asks asking) is asks =
        let made : (after, next, counts) ≡ stepped_at w short s takes (CoreStage.Asks asking) = e ∙ ap (stepped_at w short s takes) is in
        record {
          stamp = ap (λ (all : Server × GatherOf × List ℕ). all.1.stamp) made;
          code = ap (λ (all : Server × GatherOf × List ℕ). all.1.course.geometry) made;
          aim = ap (λ (all : Server × GatherOf × List ℕ). all.1.course.aim) made;
          servers =
              ap (λ (all : Server × GatherOf × List ℕ). length all.2) made
              ∙ taking_length (at_server short (step_asked w.course.geometry w.course.aim asking) s).1 (server_of w.course) takes;
        }
    by at is asks = absurd asks

-- a call whose gathering hasn't ended without its bytes stands where that stands
pub goes_on : (seen : CoreSeen) (target epoch : ℕ) (outcome : Outcome) (at : CoreStage) (s : RepairStage) → ending_at at ≡ None
    → s ≡ (if has_bytes at then stage.Confirming else stage.Gathering) → state_by s seen target at epoch outcome ≡ gathered_state seen target at
goes_on seen target epoch outcome (CoreStage.Asks asking) s none e = ap (λ s. state_by s seen target (CoreStage.Asks asking) epoch outcome) e
goes_on seen target epoch outcome CoreStage.HasBytes s none e = ap (λ s. state_by s seen target CoreStage.HasBytes epoch outcome) e
goes_on seen target epoch outcome (CoreStage.TooMany missing) s none e = cc
goes_on seen target epoch outcome CoreStage.AtTarget s none e = cc
goes_on seen target epoch outcome (CoreStage.TargetAway downs) s none e = cc
goes_on seen target epoch outcome CoreStage.Short s none e = cc

-- the gathering that was there
pub of_gather : (book : BookOf) (target : ℕ) (looked : Option Seen) (w : GatherOf) (counts : Option (List ℕ)) (is : IsAsking book target looked (Some w) counts) → is.gather ≡ w
of_gather book target looked w counts is = ap (λ (o : Option GatherOf). unwrap_or o w) (sym is.is_gather)

pub of_takes : (book : BookOf) (target : ℕ) (looked : Option Seen) (made : Option GatherOf) (takes : List ℕ) (is : IsAsking book target looked made (Some takes)) → is.takes ≡ takes
of_takes book target looked made takes is = ap (λ (o : Option (List ℕ)). unwrap_or o takes) (sym is.is_takes)

-- what it keeps then
pub keeps_on : (a : Inside) (w : GatherOf) (takes : List ℕ) (s : RepairStage) → IsOfCall a.ticket a.number (note_of_rebuild a.rebuild.now)
    → (is : IsAsking a.opening a.rebuild.now.server a.looked.value (Some w) (Some takes)) (next : GatherOf) (counts : List ℕ) → Follows w next takes counts
    → ending_at next.course.stage ≡ None → s ≡ (if has_bytes next.course.stage then stage.Confirming else stage.Gathering)
    → a.gather ≡ Some next → a.takes ≡ Some counts → a.due ≡ has_bytes next.course.stage → Keeps s a
keeps_on a w takes s of_call is next counts goes none e gather_is takes_is due_is = by next.course.stage refl none e
  where
    its : IsGatherOf a.opening is.seen a.rebuild.now.server next
    its =
        let now : IsGatherOf a.opening is.seen a.rebuild.now.server w = subst (λ (v : GatherOf). IsGatherOf a.opening is.seen a.rebuild.now.server v) (of_gather a.opening a.rebuild.now.server a.looked.value w (Some takes) is) is.its in
        record { code = goes.code ∙ now.code; aim = goes.aim ∙ now.aim; stamp = goes.stamp ∙ now.stamp }

    by : (at : CoreStage) → next.course.stage ≡ at → ending_at at ≡ None → s ≡ (if has_bytes at then stage.Confirming else stage.Gathering) → Keeps s a
    by (CoreStage.Asks asking) at none e =
        subst (λ s. Keeps s a) (sym e) (
          of_call,
          subst (λ b. GathersAt b a) (sym (due_is ∙ ap has_bytes at))
              record {
                seen = is.seen;
                gather = next;
                takes = counts;
                is_seen = is.is_seen;
                is_gather = gather_is;
                is_takes = takes_is;
                pinned = is.pinned;
                its = its;
                asks = subst IsAskingStage (sym at) tt;
                servers = goes.servers ∙ ap (λ (l : List ℕ). length l) (sym (of_takes a.opening a.rebuild.now.server a.looked.value (Some w) takes is)) ∙ is.servers;
              },
        )
    by CoreStage.HasBytes at none e =
        subst (λ s. Keeps s a) (sym e) (
          of_call,
          subst (λ b. ConfirmsAt b a) (sym (due_is ∙ ap has_bytes at))
              record {
                seen = is.seen;
                gather = next;
                is_seen = is.is_seen;
                is_gather = gather_is;
                pinned = is.pinned;
                its = its;
                ready = λ i. need_by (server_at next.course.geometry next.course.aim (at i)) (has_bytes (at i));
              },
        )
    by (CoreStage.TooMany missing) at none e = cc
    by CoreStage.AtTarget at none e = cc
    by (CoreStage.TargetAway downs) at none e = cc
    by CoreStage.Short at none e = cc
