-- The stage of a rebuild, by what callers see of it.
use Rattle.std.proofs.Common.{◌≡◌, ℕ, Bool, true, false, Option, refl, sym, ap, subst, ◌∙◌}
use Rattle.store_core.specs.Act.{Act}
use Rattle.store_core.specs.Told.{Seen as CoreSeen}
use Rattle.run_laws.specs.Stage.{Stage as CoreStage}
use Rattle.call_steps.specs.declared.need.Need.TheVariants as need
use Rattle.gathering.specs.Courses.{IsAskingStage}
use Rattle.gathering.specs.Gathers.{GatherOf}
use Rattle.call_steps.specs.CallOf.{CallOf}
use Rattle.call_steps.specs.Steps.{need_by}
use Rattle.repairer.specs.declared.stage.RepairStage.{RepairStage}
use Rattle.repairer.specs.declared.stage.RepairStage.TheVariants as stage
use Rattle.repairer.specs.declared.repair_call.RepairCall.TheInside.{Inside}
use Rattle.repairer.specs.Standing.{seen_at, course_at, gathered_state, stage_of}
use Rattle.repairer.specs.Inside.{state_at, call_by, call_in}
use Rattle.repairer.specs.Kept.{GathersAt, Keeps, IsRepair}

-- a gathering that asks
asking : (seen : CoreSeen) (target : ℕ) (at : CoreStage) → IsAskingStage at → stage_of (gathered_state seen target at) ≡ stage.Gathering
asking seen target (CoreStage.Asks question) asks = refl
asking seen target at asks = absurd asks

gathering : (a : Inside) (due : Bool) → GathersAt due a → stage_of (state_at stage.Gathering a) ≡ stage.Gathering
gathering a true kept =
    ap (λ (gather : Option GatherOf). stage_of (gathered_state (seen_at a.looked.value) a.rebuild.now.server (course_at a.opening.geometry (seen_at a.looked.value) a.rebuild.now.server gather).stage)) kept.none
gathering a false kept =
    ap (λ (gather : Option GatherOf). stage_of (gathered_state (seen_at a.looked.value) a.rebuild.now.server (course_at a.opening.geometry (seen_at a.looked.value) a.rebuild.now.server gather).stage)) kept.is_gather
    ∙ asking (seen_at a.looked.value) a.rebuild.now.server kept.gather.course.stage kept.asks

-- callers see the stage
pub shown : (a : Inside) (at : RepairStage) → Keeps at a → stage_of (state_at at a) ≡ at
shown a stage.Start kept = refl
shown a stage.Gathering kept = gathering a a.due kept.1
shown a stage.Confirming kept = refl
shown a stage.Installing kept = refl
shown a stage.Placing kept = refl
shown a stage.Ending kept = refl
shown a stage.Finished kept = refl

-- the stage that callers see is its own
pub is_at : (a : Inside) (c : CallOf) (at : RepairStage) → IsRepair a → call_in a ≡ c → stage_of c.state.at ≡ at → a.stage ≡ at
is_at a c at is view e = sym (shown a a.stage is.kept) ∙ ap (λ (call : CallOf). stage_of call.state.at) view ∙ e

-- so callers see it at that stage
pub seen_by : (a : Inside) (c : CallOf) (at : RepairStage) → call_in a ≡ c → a.stage ≡ at → call_by at a ≡ c
seen_by a c at view e = sym (ap (λ s. call_by s a) e) ∙ view

-- what it keeps there
pub keeps : (a : Inside) (at : RepairStage) → IsRepair a → a.stage ≡ at → Keeps at a
keeps a at is e = subst (λ s. Keeps s a) e is.kept

-- a call that needs the coder has a coding due
pub is_due : (act : Act) (due : Bool) → need_by act due ≡ need.Coder → due ≡ true
is_due act true e = refl
is_due (Act.AtDirectory step) false e = cc
is_due (Act.AtServer server step) false e = cc
is_due (Act.Finish outcome) false e = cc

-- a call that needs the directory or a server has none
pub not_due : (act : Act) (due : Bool) (server : ℕ) → need_by act due ≡ need.Server server → due ≡ false
not_due act false server e = refl
not_due (Act.AtDirectory step) true server e = cc
not_due (Act.AtServer other step) true server e = cc
not_due (Act.Finish outcome) true server e = cc
