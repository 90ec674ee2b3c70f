-- What a rebuild does next, by its stage.
use Rattle.std.proofs.Common.{◌≡◌, ℕ, true, false, [], Option, IfSome, is_some, refl, sym, ap, subst, ◌∙◌, true≢false}
use Rattle.std.specs.Prelude.{IsTrue}
use Rattle.clay_grid.specs.Shape.{Shape}
use Rattle.store_core.specs.NextAct.{Job, rebuild_job}
use Rattle.store_core.specs.Told.{Seen as CoreSeen}
use Rattle.run_laws.specs.Stage.{Aim, Stage as CoreStage}
use Rattle.run_laws.specs.State.{State}
use Rattle.run_laws.specs.StateActs.{act_at}
use Rattle.version_seal.specs.Sealed.{ChunkOf}
use Rattle.gathering.specs.Courses.{IsAskingStage}
use Rattle.gathering.specs.Gathers.{GatherOf, question_at}
use Rattle.call_steps.specs.declared.act.Act.{Act}
use Rattle.call_steps.specs.declared.act.Act.TheVariants as act
use Rattle.call_steps.specs.declared.act.DirectoryAct.TheVariants as there
use Rattle.call_steps.specs.declared.seen.Seen.{Seen}
use Rattle.call_steps.specs.CallOf.{CallOf, act_of, tries_by}
use Rattle.call_steps.specs.Acts.{act_by, act_now}
use Rattle.repairer.specs.declared.stage.RepairStage.{RepairStage}
use Rattle.repairer.specs.declared.stage.RepairStage.TheVariants as stage
use Rattle.repairer.specs.declared.repair_call.RepairCall.TheInside.{Inside}
use Rattle.repairer.specs.Standing.{seen_at, gathered_state, course_at, stage_of}
use Rattle.repairer.specs.Acting.{IsQuestion, AsksAs, install_act}
use Rattle.repairer.specs.Inside.{state_at, call_by, call_in}
use Rattle.repairer.specs.Moments.{IsAsking, IsMade}
use Rattle.repairer.specs.Kept.{GathersAt, Keeps, IsRepair}
use Rattle.repairer.proofs.Stages.{shown, seen_by, keeps}

-- while its gathering asks
asks_by : (g : Shape) (seen : CoreSeen) (target : ℕ) (tries : ℕ) (job : Job) (next : Act) (at : CoreStage) → IsAskingStage at
    → IsQuestion (question_at g (Aim.Chunk seen target) at) next → next ≡ act_by (act_at g tries job [] (gathered_state seen target at)) false
asks_by g seen target tries job next (CoreStage.Asks asking) asks is = is
asks_by g seen target tries job next at asks is = absurd asks

module _ (a : Inside) (c : CallOf) (is : IsRepair a) (view : call_in a ≡ c) where
  asking : a.stage ≡ stage.Gathering → a.due ≡ false → IsAsking a.opening a.rebuild.now.server a.looked.value a.gather a.takes
  asking at due = subst (λ b. GathersAt b a) due (keeps a stage.Gathering is at).1

  pub asks_there : a.stage ≡ stage.Gathering → a.due ≡ false → IsTrue (is_some a.gather)
  asks_there at due = ap is_some (asking at due).is_gather

  pub asks_stage : a.stage ≡ stage.Gathering → a.due ≡ false → IfSome a.gather (λ w. IsAskingStage w.course.stage)
  asks_stage at due = let h = asking at due in subst (λ o. IfSome o (λ (w : GatherOf). IsAskingStage w.course.stage)) (sym h.is_gather) h.asks

  pub gathers : (next : Act) → a.stage ≡ stage.Gathering → a.due ≡ false → IfSome a.gather (λ w. AsksAs w next) → next ≡ act_now c
  gathers next at due is_asked =
      let h = asking at due in
      let its : AsksAs h.gather next = subst (λ o. IfSome o (λ w. AsksAs w next)) h.is_gather is_asked in
      let seen : CoreSeen = seen_at a.looked.value in
      let aim : h.gather.course.aim ≡ Aim.Chunk seen a.rebuild.now.server = h.its.aim ∙ ap (λ o. Aim.Chunk (seen_at o) a.rebuild.now.server) (sym h.is_seen) in
      let own : IsQuestion (question_at a.opening.geometry (Aim.Chunk seen a.rebuild.now.server) h.gather.course.stage) next =
      subst (λ (x : Aim). IsQuestion (question_at a.opening.geometry x h.gather.course.stage) next) aim
      (subst (λ (g : Shape). IsQuestion (question_at g h.gather.course.aim h.gather.course.stage) next) h.its.code its) in
      asks_by a.opening.geometry seen a.rebuild.now.server (tries_by a.opening.script) (rebuild_job a.rebuild.now) next h.gather.course.stage h.asks own
      ∙ (λ i. act_by (act_at a.opening.geometry (tries_by a.opening.script) (rebuild_job a.rebuild.now) []
      (gathered_state seen a.rebuild.now.server (course_at a.opening.geometry seen a.rebuild.now.server (sym h.is_gather i)).stage)) (sym due i))
      ∙ ap act_now (seen_by a c stage.Gathering view at)

  -- once its chunk is made
  pub made_there : a.stage ≡ stage.Installing → IsTrue (is_some a.chunk)
  made_there at = let h : IsMade a.opening a.rebuild.now.server a.looked.value a.chunk = (keeps a stage.Installing is at).2 in ap is_some h.is_chunk

  pub installs : (next : Act) → a.stage ≡ stage.Installing → a.due ≡ false → IfSome a.chunk (λ made. next ≡ install_act a.rebuild.now.server made.stamp.version) → next ≡ act_now c
  installs next at due so =
      let h : IsMade a.opening a.rebuild.now.server a.looked.value a.chunk = (keeps a stage.Installing is at).2 in
      subst (λ o. IfSome o (λ (made : ChunkOf). next ≡ install_act a.rebuild.now.server made.stamp.version)) h.is_chunk so
      ∙ ap (install_act a.rebuild.now.server) (ap (λ stamp. stamp.version) h.its.stamp ∙ ap (λ (o : Option Seen). (seen_at o).version) (sym h.is_seen))
      ∙ ap (act_by (act_at a.opening.geometry (tries_by a.opening.script) (rebuild_job a.rebuild.now) [] (State.Installing (seen_at a.looked.value) a.rebuild.now.server))) (sym due)
      ∙ ap act_now (seen_by a c stage.Installing view at)

  -- at the directory, and at the end
  acts_at : (at : RepairStage) → a.stage ≡ at → a.due ≡ false → act_by (act_of (call_by at a)) false ≡ act_now c
  acts_at at here due = ap (act_by (act_of (call_by at a))) (sym due) ∙ ap act_now (seen_by a c at view here)

  pub looks : a.stage ≡ stage.Start → a.due ≡ false → act.Directory there.LookRepair ≡ act_now c
  looks at due = acts_at stage.Start at due

  pub confirms : a.stage ≡ stage.Confirming → a.due ≡ false → act.Directory there.Confirm ≡ act_now c
  confirms at due = acts_at stage.Confirming at due

  pub tells : a.stage ≡ stage.Placing → a.due ≡ false → act.Directory (there.Repaired a.rebuild.now.server a.epoch) ≡ act_now c
  tells at due = acts_at stage.Placing at due

  pub ends : a.stage ≡ stage.Ending → a.due ≡ false → act.Directory there.End ≡ act_now c
  ends at due = acts_at stage.Ending at due

  pub finished : a.stage ≡ stage.Finished → a.due ≡ false → act.Finished ≡ act_now c
  finished at due = acts_at stage.Finished at due

  -- a coding that is due
  gathering_codes : (at : State) → stage_of at ≡ stage.Gathering → act.Coding ≡ act_by (act_at a.opening.geometry (tries_by a.opening.script) (rebuild_job a.rebuild.now) [] at) true
  gathering_codes (State.Gather aim asking parts after) e = refl
  gathering_codes at e = absurd (cc)

  codes_at : (at : RepairStage) → Keeps at a → a.due ≡ true → act.Coding ≡ act_by (act_of (call_by at a)) true
  codes_at stage.Start kept due = absurd (true≢false (sym due ∙ kept.ready))
  codes_at stage.Gathering kept due = gathering_codes (state_at stage.Gathering a) (shown a stage.Gathering kept)
  codes_at stage.Confirming kept due = refl
  codes_at stage.Installing kept due = absurd (true≢false (sym due ∙ kept.1))
  codes_at stage.Placing kept due = absurd (true≢false (sym due ∙ kept.1))
  codes_at stage.Ending kept due = absurd (true≢false (sym due ∙ kept.1))
  codes_at stage.Finished kept due = absurd (true≢false (sym due ∙ kept.1))

  pub codes : a.due ≡ true → act.Coding ≡ act_now c
  codes due = codes_at a.stage is.kept due ∙ ap (act_by (act_of (call_in a))) (sym due) ∙ ap act_now view
