-- What a step at a server leaves of a rebuild whose gathering asks.
use Rattle.std.proofs.Common.{◌≡◌, ℕ, Bool, false, List, [], Option, Some, refl, sym, ap, subst, ◌∙◌}
use Rattle.clay_grid.specs.Shape.{Shape, chunk_count}
use Rattle.store_core.specs.NextAct.{Job, rebuild_job}
use Rattle.store_core.specs.Told.{Seen as CoreSeen}
use Rattle.store_core.specs.Note.{note_of_rebuild}
use Rattle.store_core.specs.Server.{Server}
use Rattle.run_laws.specs.Stage.{Aim, Stage as CoreStage}
use Rattle.run_laws.specs.StateActs.{act_at}
use Rattle.gathering.specs.Courses.{IsAskingStage}
use Rattle.call_steps.specs.declared.need.Need.TheVariants as need
use Rattle.gathering.specs.Gathers.{GatherOf, stepped, told_at, told_by}
use Rattle.call_steps.specs.CallOf.{CallOf, act_of, tries_by}
use Rattle.call_steps.specs.Hearing.{told_here_by, told_here}
use Rattle.call_steps.specs.Steps.{need_of, stepped_at_server}
use Rattle.repairer.specs.declared.stage.RepairStage.TheVariants as stage
use Rattle.repairer.specs.declared.repair_call.RepairCall.TheInside.{Inside}
use Rattle.repairer.specs.Standing.{seen_at, course_at, gathered_state, stage_of}
use Rattle.repairer.specs.Calls.{call_at}
use Rattle.repairer.specs.Inside.{takes_at, call_in}
use Rattle.repairer.specs.Parts.{IsOfCall, IsGatherOf}
use Rattle.repairer.specs.Moments.{IsAsking}
use Rattle.repairer.specs.Kept.{GathersAt, IsRepair}
use Rattle.repairer.proofs.Stages.{is_at, seen_by, keeps, not_due}
use Rattle.repairer.proofs.Asking.{gathering, asked, of_gather}

-- a call whose gathering asks, with that gathering and its takes
pub record IsAsked (a : Inside) (w : GatherOf) (takes : List ℕ) : Type 0 where
  pub at : a.stage ≡ stage.Gathering
  pub due : a.due ≡ false
  pub of_call : IsOfCall a.ticket a.number (note_of_rebuild a.rebuild.now)
  pub asking : IsAsking a.opening a.rebuild.now.server a.looked.value (Some w) (Some takes)
  pub code : w.course.geometry ≡ a.opening.geometry
  pub aim : w.course.aim ≡ Aim.Chunk (seen_at a.looked.value) a.rebuild.now.server
  pub asks : IsAskingStage w.course.stage

pub is_asked : (a : Inside) (c : CallOf) (w : GatherOf) (takes : List ℕ) (server : ℕ) → IsRepair a → call_in a ≡ c → stage_of c.state.at ≡ stage.Gathering
    → need_of c ≡ need.Server server → Some w ≡ a.gather → Some takes ≡ a.takes → IsAsked a w takes
is_asked a c w takes server is view e needs gather_is takes_is =
    let at : a.stage ≡ stage.Gathering = is_at a c stage.Gathering is view e in
    let due : a.due ≡ false = ap (λ (call : CallOf). call.due) view ∙ not_due (act_of c) c.due server needs in
    let kept = keeps a stage.Gathering is at in
    let was : IsAsking a.opening a.rebuild.now.server a.looked.value a.gather a.takes = subst (λ b. GathersAt b a) due kept.1 in
    let asking : IsAsking a.opening a.rebuild.now.server a.looked.value (Some w) (Some takes) =
    subst (λ (counts : Option (List ℕ)). IsAsking a.opening a.rebuild.now.server a.looked.value (Some w) counts) (sym takes_is)
    (subst (λ (gather : Option GatherOf). IsAsking a.opening a.rebuild.now.server a.looked.value gather a.takes) (sym gather_is) was)
    in
    let same : asking.gather ≡ w = of_gather a.opening a.rebuild.now.server a.looked.value w (Some takes) asking in
    let its : IsGatherOf a.opening asking.seen a.rebuild.now.server w = subst (λ (v : GatherOf). IsGatherOf a.opening asking.seen a.rebuild.now.server v) same asking.its in
    record {
      at = at;
      due = due;
      of_call = kept.0;
      asking = asking;
      code = its.code;
      aim = its.aim ∙ ap (λ o. Aim.Chunk (seen_at o) a.rebuild.now.server) (sym asking.is_seen);
      asks = subst (λ (v : GatherOf). IsAskingStage v.course.stage) same asking.asks;
    }

-- its step is that of its gathering
pub steps : (a : Inside) (c : CallOf) (w next : GatherOf) (takes counts : List ℕ) (short due : Bool) (s after : Server)
    → IsAsked a w takes → call_in a ≡ c → Some w ≡ a.gather → Some takes ≡ a.takes → (after, next, counts) ≡ stepped w short s takes
    → (after, gathering a.opening a.rebuild.now a.number a.ticket (seen_at a.looked.value) next.course.stage counts due false short) ≡ stepped_at_server short due c s
steps a c w next takes counts short due s after is view gather_is takes_is made =
    asked a.opening a.rebuild.now a.number a.ticket (seen_at a.looked.value) w next takes counts short due a.coding a.step s after is.code is.aim is.asks made
    ∙ ap (λ (call : CallOf). stepped_at_server short due call s)
    ((λ i.
    call_at a.opening a.rebuild.now a.number a.ticket
    (gathered_state (seen_at a.looked.value) a.rebuild.now.server (course_at a.opening.geometry (seen_at a.looked.value) a.rebuild.now.server (gather_is i)).stage)
    (takes_at (chunk_count a.opening.geometry) (takes_is i)) (sym is.due i) a.coding a.step)
    ∙ seen_by a c stage.Gathering view is.at)

-- and it is told what that is
asking_tells : (g : Shape) (seen : CoreSeen) (target tries : ℕ) (job : Job) (w : GatherOf) (short : Bool) (s : Server) (at : CoreStage) → IsAskingStage at
    → told_at (record w { course = record (w.course) { geometry = g; aim = Aim.Chunk seen target } }) short s at
    ≡ told_here_by (act_at g tries job [] (gathered_state seen target at)) short s
asking_tells g seen target tries job w short s (CoreStage.Asks asking) asks = refl
asking_tells g seen target tries job w short s at asks = absurd asks

pub tells : (a : Inside) (c : CallOf) (w : GatherOf) (takes : List ℕ) (short : Bool) (s : Server) → IsAsked a w takes → call_in a ≡ c → Some w ≡ a.gather
    → told_by w short s ≡ told_here short c s
tells a c w takes short s is view gather_is =
    let g : Shape = a.opening.geometry in
    let seen : CoreSeen = seen_at a.looked.value in
    let target : ℕ = a.rebuild.now.server in
    (λ i. told_by (record w { course = record (w.course) { geometry = is.code i; aim = is.aim i } }) short s)
    ∙ asking_tells g seen target (tries_by a.opening.script) (rebuild_job a.rebuild.now) w short s w.course.stage is.asks
    ∙ ap (λ o. told_here_by (act_at g (tries_by a.opening.script) (rebuild_job a.rebuild.now) [] (gathered_state seen target (course_at g seen target o).stage)) short s) gather_is
    ∙ ap (λ (call : CallOf). told_here short call s) (seen_by a c stage.Gathering view is.at)
