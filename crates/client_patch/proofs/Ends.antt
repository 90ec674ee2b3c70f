-- The end of a call's pass.
use Rattle.std.proofs.Common.{◌≡◌, ℕ, Bool, true, false, List, [], ◌∷◌, Option, None, Some, refl, sym, ap, subst, ◌∙◌}
use Rattle.clay_grid.specs.Shape.{Shape}
use Rattle.store_core.specs.Told.{Told}
use Rattle.store_core.specs.Note.{note_of}
use Rattle.store_core.specs.Act.{Act, DirectoryStep}
use Rattle.store_core.specs.AtDirectory.{at_directory}
use Rattle.store_core.specs.Directory.{Directory}
use Rattle.store_core.specs.Gathering.{Part}
use Rattle.store_core.specs.NextAct.{Job, job_of}
use Rattle.store_core.specs.Agreement.{ActorToken}
use Rattle.store_core.specs.Tokens.{actor_of}
use Rattle.run_laws.specs.Stage.{Stage as GatherStage}
use Rattle.run_laws.specs.State.{Sequel, State}
use Rattle.run_laws.specs.States.{stage_state, open_parts}
use Rattle.run_laws.specs.StateActs.{act_at}
use Rattle.run_laws.specs.CallLaws.{next_call}
use Rattle.call_steps.specs.declared.need.Need.TheVariants as need
use Rattle.call_steps.specs.Steps.{need_by, need_of, stepped_at_directory}
use Rattle.call_steps.specs.TokenAfter.{token_after, IsSeated}
use Rattle.gather_parts.specs.Wanted.{Wanted, parts_of}
use Rattle.gather_parts.specs.Gatherings.{GatherOf, GatheringsOf}
use Rattle.gather_parts.specs.declared.progress.Progress.TheVariants as progress
use Rattle.gather_parts.specs.Progress.{progress_at, progress_by, progress_of, is_due_at, is_due}
use Rattle.gather_parts.specs.States.{state_by as gathering_state, state_in}
use Rattle.write_course.specs.Laws.{call_at}
use Rattle.write_course.specs.Writings.{versions_of}
use Rattle.client_patch.specs.Patches.{PatchOf}
use Rattle.client_patch.specs.Stages.{state_by, due_by, after_end}
use Rattle.call_steps.specs.Ends.{finished_of, is_ending}
use Rattle.client_patch.specs.Inside.{pairs_in, patch_in, Keeps, IsPatch}
use Rattle.write_course.specs.Holding.{IsPassing}
use Rattle.client_patch.specs.Holds.{IsUngathered}
use Rattle.client_patch.specs.declared.patch.PatchCall.TheInside.{Inside}
use Rattle.client_patch.specs.declared.patch_stage.PatchStage.{PatchStage}
use Rattle.client_patch.specs.declared.patch_stage.PatchStage.TheVariants as stage
use Rattle.client_patch.proofs.Gathered.{EndsSo, ungathered_ends}
use Rattle.write_course.proofs.Tokens.{holds_to_end}
use Rattle.write_course.proofs.AtDirectory.{directory_step, ending_next, ending_act}

pub no_directory : (act : Act) → need_by act true ≡ need.Directory → ⊥
no_directory (Act.Finish outcome) e = cc
no_directory (Act.AtDirectory step) e = cc
no_directory (Act.AtServer server step) e = cc

-- gatherings of which the end is next have ended without their bytes
module _ (g : Shape) (tries : ℕ) (job : Job) (pairs : List (ℕ × ℕ)) (parts : List Part) where
  ungathered_by : (current : Option GatherOf) (left : List Wanted)
      → need_by (act_at g tries job pairs (gathering_state g parts Sequel.Draw current)) (is_due_at (progress_by g current left)) ≡ need.Directory
      → (left ≡ [] → parts ≡ []) → is_ending (gathering_state g parts Sequel.Draw current) ≡ true → IsUngathered (progress_by g current left)
  ungathered_by None (wanted ∷ left) e same h = absurd (no_directory (act_at g tries job pairs (open_parts g parts Sequel.Draw)) e)
  ungathered_by None [] e same h =
      let none : is_ending (open_parts g parts Sequel.Draw) ≡ false = ap (λ parts. is_ending (open_parts g parts Sequel.Draw)) (same refl) in
      absurd (cc)
  ungathered_by (Some w) left e same h = by w.course.stage e h
    where
      by : (stage : GatherStage) → need_by (act_at g tries job pairs (stage_state (open_parts g parts Sequel.Draw) w.course.aim parts Sequel.Draw stage)) (is_due_at (progress_at g w.course.aim stage)) ≡ need.Directory
          → is_ending (stage_state (open_parts g parts Sequel.Draw) w.course.aim parts Sequel.Draw stage) ≡ true → IsUngathered (progress_at g w.course.aim stage)
      by (GatherStage.Asks asking) e h = absurd (cc)
      by GatherStage.HasBytes e h = absurd (no_directory (act_at g tries job pairs (open_parts g parts Sequel.Draw)) e)
      by (GatherStage.TooMany missing) e h = tt
      by GatherStage.AtTarget e h = tt
      by (GatherStage.TargetAway downs) e h = tt
      by GatherStage.Short e h = tt

pub ungathered_at : (p : GatheringsOf) (tries : ℕ) (job : Job) (pairs : List (ℕ × ℕ)) → need_by (act_at p.book.geometry tries job pairs (state_in p Sequel.Draw)) (is_due p) ≡ need.Directory
    → is_ending (state_in p Sequel.Draw) ≡ true → IsUngathered (progress_of p)
ungathered_at p tries job pairs e h = ungathered_by p.book.geometry tries job pairs (parts_of p.left) p.current p.left e (ap parts_of) h

-- gatherings of which the draw is next are done
module _ (g : Shape) (tries : ℕ) (job : Job) (pairs : List (ℕ × ℕ)) (parts : List Part) where
  done_by : (current : Option GatherOf) (left : List Wanted)
      → need_by (act_at g tries job pairs (gathering_state g parts Sequel.Draw current)) (is_due_at (progress_by g current left)) ≡ need.Directory
      → gathering_state g parts Sequel.Draw current ≡ State.Drawing → progress_by g current left ≡ progress.Done
  done_by None (wanted ∷ left) e h = absurd (no_directory (act_at g tries job pairs (open_parts g parts Sequel.Draw)) e)
  done_by None [] e h = refl
  done_by (Some w) left e h = by w.course.stage e h
    where
      by : (stage : GatherStage) → need_by (act_at g tries job pairs (stage_state (open_parts g parts Sequel.Draw) w.course.aim parts Sequel.Draw stage)) (is_due_at (progress_at g w.course.aim stage)) ≡ need.Directory
          → stage_state (open_parts g parts Sequel.Draw) w.course.aim parts Sequel.Draw stage ≡ State.Drawing → progress_at g w.course.aim stage ≡ progress.Done
      by (GatherStage.Asks asking) e h = absurd (cc)
      by GatherStage.HasBytes e h = absurd (no_directory (act_at g tries job pairs (open_parts g parts Sequel.Draw)) e)
      by (GatherStage.TooMany missing) e h = absurd (cc)
      by GatherStage.AtTarget e h = absurd (cc)
      by (GatherStage.TargetAway downs) e h = absurd (cc)
      by GatherStage.Short e h = absurd (cc)

pub done_at : (p : GatheringsOf) (tries : ℕ) (job : Job) (pairs : List (ℕ × ℕ)) → need_by (act_at p.book.geometry tries job pairs (state_in p Sequel.Draw)) (is_due p) ≡ need.Directory
    → state_in p Sequel.Draw ≡ State.Drawing → progress_of p ≡ progress.Done
done_at p tries job pairs e h = done_by p.book.geometry tries job pairs (parts_of p.left) p.current p.left e h

module _ (a : Inside) (kept : IsPatch a) (old : PatchOf) (view : patch_in a ≡ old) (needs : need_of old.call ≡ need.Directory) (ending : is_ending old.call.state.at ≡ true) where
  ends_here : is_ending (state_by a.stage a.gatherings a.writing a.outcome) ≡ true
  ends_here = ap (λ (p : PatchOf). is_ending p.call.state.at) view ∙ ending

  needs_here : need_of (patch_in a).call ≡ need.Directory
  needs_here = ap (λ (p : PatchOf). need_of p.call) view ∙ needs

  not_ungathered : Keeps stage.Ungathered a → is_ending (finished_of (state_in a.gatherings Sequel.Draw)) ≡ true → ⊥
  not_ungathered k h =
      let ends : EndsSo (state_in a.gatherings Sequel.Draw) = ungathered_ends a.gatherings k.1 in
      let is : is_ending (finished_of (state_in a.gatherings Sequel.Draw)) ≡ false = ap (λ at. is_ending (finished_of at)) ends.is in
      cc

  not_given_up : Keeps stage.GivenUp a → is_ending (finished_of a.writing.state) ≡ true → ⊥
  not_given_up k h =
      let is : is_ending (finished_of a.writing.state) ≡ false = ap (λ at. is_ending (finished_of at)) k.1.is in
      cc

  -- the ticket that ends
  holding_by : (s : PatchStage) → Keeps s a → is_ending (state_by s a.gatherings a.writing a.outcome) ≡ true → IsPassing a.number (note_of a.call.now) a.ticket
  holding_by stage.Looking k h = absurd (cc)
  holding_by stage.Looked k h = record { drawn = []; holding = k.0 }
  holding_by stage.Gathering k h = record { drawn = []; holding = k.0 }
  holding_by stage.Ungathered k h = absurd (not_ungathered k h)
  holding_by stage.Writing k h = record { drawn = _; holding = (holds_to_end a.number (note_of a.call.now) (versions_of a.writing.stamps) a.ticket a.writing.state k.1 h).0 }
  holding_by stage.GivenUp k h = absurd (not_given_up k h)
  holding_by stage.Ending k h = k
  holding_by stage.Finished k h = absurd (cc)

  pub end_holding : IsPassing a.number (note_of a.call.now) a.ticket
  end_holding = holding_by a.stage kept.kept ends_here

  -- what is kept then
  kept_by : (s : PatchStage) → Keeps s a → is_ending (state_by s a.gatherings a.writing a.outcome) ≡ true
      → need_by (act_at a.opening.geometry a.tries (job_of a.call.now) (pairs_in a.changes.items) (state_by s a.gatherings a.writing a.outcome)) (due_by s a.gatherings a.writing) ≡ need.Directory
      → (next : PatchStage) (token : ActorToken) (coding step : Bool) → IsSeated token → Keeps (after_end s) (record a { stage = next; ticket = token; coding = coding; step = step })
  kept_by stage.Looking k h n next token coding step seated = absurd (cc)
  kept_by stage.Looked k h n next token coding step seated = absurd (no_directory (act_at a.opening.geometry a.tries (job_of a.call.now) (pairs_in a.changes.items) (state_in a.gatherings Sequel.Draw)) n)
  kept_by stage.Gathering k h n next token coding step seated = (
    seated,
    ungathered_at a.gatherings a.tries (job_of a.call.now) (pairs_in a.changes.items)
        (subst (λ book. need_by (act_at book.geometry a.tries (job_of a.call.now) (pairs_in a.changes.items) (state_in a.gatherings Sequel.Draw)) (is_due a.gatherings) ≡ need.Directory) (sym kept.book) n) h,
  )
  kept_by stage.Ungathered k h n next token coding step seated = absurd (not_ungathered k h)
  kept_by stage.Writing k h n next token coding step seated = (seated, (holds_to_end a.number (note_of a.call.now) (versions_of a.writing.stamps) a.ticket a.writing.state k.1 h).1)
  kept_by stage.GivenUp k h n next token coding step seated = absurd (not_given_up k h)
  kept_by stage.Ending k h n next token coding step seated = seated
  kept_by stage.Finished k h n next token coding step seated = absurd (cc)

  pub end_kept : (next : PatchStage) (token : ActorToken) (coding step : Bool) → IsSeated token → Keeps (after_end a.stage) (record a { stage = next; ticket = token; coding = coding; step = step })
  end_kept = kept_by a.stage kept.kept ends_here needs_here

  -- where it stands then
  state_then : (s : PatchStage) → Keeps s a → is_ending (state_by s a.gatherings a.writing a.outcome) ≡ true
      → need_by (act_at a.opening.geometry a.tries (job_of a.call.now) (pairs_in a.changes.items) (state_by s a.gatherings a.writing a.outcome)) (due_by s a.gatherings a.writing) ≡ need.Directory
      → state_by (after_end s) a.gatherings a.writing a.outcome ≡ finished_of (state_by s a.gatherings a.writing a.outcome)
  state_then stage.Looking k h n = absurd (cc)
  state_then stage.Looked k h n = absurd (no_directory (act_at a.opening.geometry a.tries (job_of a.call.now) (pairs_in a.changes.items) (state_in a.gatherings Sequel.Draw)) n)
  state_then stage.Gathering k h n = refl
  state_then stage.Ungathered k h n = absurd (not_ungathered k h)
  state_then stage.Writing k h n = refl
  state_then stage.GivenUp k h n = absurd (not_given_up k h)
  state_then stage.Ending k h n = refl
  state_then stage.Finished k h n = absurd (cc)

  due_then : (s : PatchStage) → false ≡ due_by (after_end s) a.gatherings a.writing
  due_then stage.Looking = refl
  due_then stage.Looked = refl
  due_then stage.Gathering = refl
  due_then stage.Ungathered = refl
  due_then stage.Writing = refl
  due_then stage.GivenUp = refl
  due_then stage.Ending = refl
  due_then stage.Finished = refl

  pub end_step : (next : PatchStage) → next ≡ after_end a.stage → (token : ActorToken) (before after : Directory)
      → (after, Told.Ended) ≡ at_directory false (actor_of a.ticket) a.number DirectoryStep.End before → token ≡ token_after a.ticket a.number DirectoryStep.End Told.Ended
      → (after, record ((patch_in a).call) { token = token; state = call_at (pairs_in a.changes.items) (state_by next a.gatherings a.writing a.outcome); due = due_by next a.gatherings a.writing; coding = false; step = false })
      ≡ stepped_at_directory false (due_by next a.gatherings a.writing) old.call before
  end_step next is token before after made token_is =
      let state : call_at (pairs_in a.changes.items) (state_by next a.gatherings a.writing a.outcome) ≡ next_call a.opening.geometry (job_of a.call.now) ((patch_in a).call.state) Told.Ended
      = ap (λ s. call_at (pairs_in a.changes.items) (state_by s a.gatherings a.writing a.outcome)) is
      ∙ ap (call_at (pairs_in a.changes.items)) (state_then a.stage kept.kept ends_here needs_here)
      ∙ ending_next a.opening.geometry (job_of a.call.now) (pairs_in a.changes.items) (state_by a.stage a.gatherings a.writing a.outcome) ends_here in
      directory_step (patch_in a).call DirectoryStep.End false (due_by next a.gatherings a.writing) before after Told.Ended token (call_at (pairs_in a.changes.items) (state_by next a.gatherings a.writing a.outcome))
      (ending_act a.opening.geometry a.tries (job_of a.call.now) (pairs_in a.changes.items) (state_by a.stage a.gatherings a.writing a.outcome) ends_here) made token_is state
      ∙ ap (λ (p : PatchOf). stepped_at_directory false (due_by next a.gatherings a.writing) p.call before) view
