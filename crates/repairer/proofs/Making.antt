-- A rebuild's next step at the directory may be made, and nothing is coded once its chunk is placed.
use Rattle.std.proofs.Common.{◌≡◌, ◌<◌, ℕ, refl, sym, ap, subst, ◌∙◌}
use Rattle.clay_grid.specs.Shape.{chunk_count}
use Rattle.store_core.specs.Note.{Note, Kind, note_of_rebuild}
use Rattle.store_core.specs.Act.{Act, DirectoryStep}
use Rattle.store_core.specs.Directory.{Directory}
use Rattle.store_core.specs.Agreement.{ActorToken}
use Rattle.run_laws.specs.State.{State}
use Rattle.run_laws.specs.StateActs.{act_of_state}
use Rattle.call_steps.specs.TokenAfter.{MayMake}
use Rattle.call_steps.specs.CallOf.{CallOf, act_of}
use Rattle.call_steps.specs.Steps.{MayMakeNext, IsUndueOncePlaced}
use Rattle.call_steps.proofs.Making.{MayBy, makes, passes}
use Rattle.repairer.specs.declared.stage.RepairStage.{RepairStage}
use Rattle.repairer.specs.declared.stage.RepairStage.TheVariants as stage
use Rattle.repairer.specs.declared.repair_call.RepairCall.TheInside.{Inside}
use Rattle.repairer.specs.Standing.{stage_of}
use Rattle.repairer.specs.Inside.{call_by, call_in}
use Rattle.repairer.specs.Parts.{IsOfCall, MayStart}
use Rattle.repairer.specs.Kept.{Keeps, IsRepair}
use Rattle.repairer.proofs.Stages.{shown, is_at, keeps}

-- its look
starts : (d : Directory) (token : ActorToken) (number : ℕ) (note : Note) → MayStart token number note → MayMake d token number (DirectoryStep.LookRepair note)
starts d (ActorToken.Seated seat) number note may = may
starts d (ActorToken.InCall held) number note may = absurd may

-- a pass of a rebuild confirms, tells of its chunk, and ends
on_pass : (c : CallOf) (target : ℕ) → c.job.note.kind ≡ Kind.Rebuild → target < chunk_count c.book.geometry → IsOfCall c.token c.number c.job.note
    → (MayBy c (Act.AtDirectory DirectoryStep.Confirm)) × (MayBy c (Act.AtDirectory DirectoryStep.End)) × ((epoch : ℕ) → MayBy c (Act.AtDirectory (DirectoryStep.Repaired target epoch)))
on_pass c target kind below its = by c.token refl its
  where
    by : (token : ActorToken) → c.token ≡ token → IsOfCall token c.number c.job.note
        → (MayBy c (Act.AtDirectory DirectoryStep.Confirm)) × (MayBy c (Act.AtDirectory DirectoryStep.End)) × ((epoch : ℕ) → MayBy c (Act.AtDirectory (DirectoryStep.Repaired target epoch)))
    by (ActorToken.Seated seat) at its = absurd its
    by (ActorToken.InCall held) at its =
        let rebuilds : held.pass.note.kind ≡ Kind.Rebuild = ap (λ (note : Note). note.kind) its.1 ∙ kind in (
          passes c held DirectoryStep.Confirm at its.0 (λ d shape. rebuilds),
          passes c held DirectoryStep.End at its.0 (λ d shape. tt),
          λ epoch. passes c held (DirectoryStep.Repaired target epoch) at its.0 (λ d shape. (rebuilds, subst (λ g. target < chunk_count g) (sym shape) below)),
        )

-- where it gathers it asks a server, makes its chunk or ends its pass
gathers : (c : CallOf) (at : State) → c.state.at ≡ at → stage_of at ≡ stage.Gathering → MayBy c (act_of c)
gathers c (State.Gather aim asking parts after) is e = subst (λ at. MayBy c (act_of_state c.book.geometry c.tries c.job (record { pairs = c.state.pairs; at = at }))) (sym is) tt
gathers c at is e = absurd (cc)

by_stage : (a : Inside) → a.rebuild.now.server < chunk_count a.opening.geometry → (at : RepairStage) → Keeps at a → MayBy (call_by at a) (act_of (call_by at a))
by_stage a below stage.Start kept = λ d shape. starts d a.ticket a.number (note_of_rebuild a.rebuild.now) kept.may
by_stage a below stage.Gathering kept = gathers (call_by stage.Gathering a) ((call_by stage.Gathering a).state.at) refl (shown a stage.Gathering kept)
by_stage a below stage.Confirming kept = (on_pass (call_by stage.Confirming a) a.rebuild.now.server refl below kept.0).0
by_stage a below stage.Installing kept = tt
by_stage a below stage.Placing kept = (on_pass (call_by stage.Placing a) a.rebuild.now.server refl below kept.0).2 a.epoch
by_stage a below stage.Ending kept = (on_pass (call_by stage.Ending a) a.rebuild.now.server refl below kept.0).1
by_stage a below stage.Finished kept = tt

pub may : (a : Inside) (c : CallOf) → IsRepair a → call_in a ≡ c → MayMakeNext c
may a c is view = subst MayMakeNext view (makes (call_in a) (by_stage a is.below a.stage is.kept))

pub undue : (a : Inside) (c : CallOf) → IsRepair a → call_in a ≡ c → IsUndueOncePlaced c
undue a c is view = λ target epoch at.
    sym (ap (λ (call : CallOf). call.due) view) ∙ (keeps a stage.Placing is (is_at a c stage.Placing is view (ap stage_of at))).1
