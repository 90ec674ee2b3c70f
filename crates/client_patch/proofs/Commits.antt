-- The commit of a write.
use Rattle.call_steps.specs.declared.answer.DirectoryAnswer.{DirectoryAnswer}
use Rattle.call_steps.specs.Answers.{directory_answer}
use Rattle.call_steps.specs.Hearing.{told_there}
use Rattle.call_steps.proofs.Telling.{there, by_act_there}
use Rattle.std.proofs.Common.{◌≡◌, ℕ, ◌<◌, true, false, List, [], Some, length, All, vec_capacity, refl, sym, ap, subst, ◌∙◌}
use Rattle.std.proofs.lemmas.Bool.{true≢false}
use Rattle.std.proofs.lemmas.List.{length-map}
use Rattle.clay_grid.specs.Shape.{chunk_count}
use Rattle.store_map.specs.declared.placement.Placement.{Placement}
use Rattle.store_core.specs.Told.{Told}
use Rattle.store_core.specs.Note.{note_of}
use Rattle.store_core.specs.Lists.{places_of}
use Rattle.store_core.specs.Act.{DirectoryStep}
use Rattle.store_core.specs.AtDirectory.{at_directory}
use Rattle.store_core.specs.Directory.{Directory}
use Rattle.store_core.specs.PassSteps.{touched}
use Rattle.store_core.specs.Placements.{IsRow}
use Rattle.store_core.specs.NextAct.{job_of}
use Rattle.store_core.specs.Agreement.{ActorToken, Agrees}
use Rattle.store_core.specs.Tokens.{actor_of}
use Rattle.run_laws.specs.State.{Sequel, State}
use Rattle.run_laws.specs.States.{settle_state}
use Rattle.run_laws.specs.StateActs.{act_of_state}
use Rattle.run_laws.specs.CallLaws.{next_call}
use Rattle.version_seal.specs.Entry.{BookOf}
use Rattle.call_steps.specs.Steps.{stepped_at_directory}
use Rattle.call_steps.specs.TokenAfter.{token_after, MayMake, IsSeated}
use Rattle.gather_parts.specs.States.{state_in}
use Rattle.write_course.specs.Laws.{call_at}
use Rattle.write_course.specs.Writings.{WritingOf, versions_of, is_committing}
use Rattle.client_patch.specs.Patches.{PatchOf, is_write}
use Rattle.client_patch.specs.Stages.{state_by, due_by}
use Rattle.call_steps.specs.Ends.{finished_of}
use Rattle.client_patch.specs.Inside.{pairs_in, patch_in, Keeps, IsPatch}
use Rattle.write_course.specs.Holding.{IsHolding}
use Rattle.client_patch.specs.Holds.{HasRoom}
use Rattle.client_patch.specs.declared.patch.PatchCall.TheInside.{Inside}
use Rattle.client_patch.specs.declared.patch_stage.PatchStage.{PatchStage}
use Rattle.client_patch.specs.declared.patch_stage.PatchStage.TheVariants as stage
use Rattle.client_patch.proofs.OfWrites.{to_write}
use Rattle.client_patch.proofs.Gathered.{EndsSo, ungathered_ends, gathering_gives}
use Rattle.client_patch.proofs.Puts.{overtaken_writes}
use Rattle.write_course.proofs.Tokens.{settle_has, holds_to_commit, seated_by}
use Rattle.client_patch.proofs.Rooms.{settle_room}
use Rattle.write_course.proofs.AtDirectory.{directory_step, may_commit}

module _ (a : Inside) (kept : IsPatch a) (old : PatchOf) (view : patch_in a ≡ old) (committing : is_committing old.call.state.at ≡ true) where
  commits_here : is_committing (state_by a.stage a.gatherings a.writing a.outcome) ≡ true
  commits_here = ap (λ (p : PatchOf). is_committing p.call.state.at) view ∙ committing

  gathers_first : is_committing (state_in a.gatherings Sequel.Draw) ≡ false
  gathers_first = gathering_gives is_committing false (λ aim asking parts after. refl) refl (λ outcome. refl) a.gatherings

  commits_by : (s : PatchStage) → Keeps s a → is_committing (state_by s a.gatherings a.writing a.outcome) ≡ true → s ≡ stage.Writing
  commits_by stage.Looking k h = absurd (cc)
  commits_by stage.Looked k h = absurd (true≢false (sym h ∙ gathers_first))
  commits_by stage.Gathering k h = absurd (true≢false (sym h ∙ gathers_first))
  commits_by stage.Ungathered k h =
      let ends : EndsSo (state_in a.gatherings Sequel.Draw) = ungathered_ends a.gatherings k.1 in
      let is : is_committing (finished_of (state_in a.gatherings Sequel.Draw)) ≡ false = ap (λ at. is_committing (finished_of at)) ends.is in
      absurd (cc)
  commits_by stage.Writing k h = refl
  commits_by stage.GivenUp k h =
      let is : is_committing (finished_of a.writing.state) ≡ false = ap (λ at. is_committing (finished_of at)) k.1.is in
      absurd (cc)
  commits_by stage.Ending k h = absurd (cc)
  commits_by stage.Finished k h = absurd (cc)

  pub commit_is : a.stage ≡ stage.Writing
  commit_is = commits_by a.stage kept.kept commits_here

  pub commit_keeps : Keeps stage.Writing a
  commit_keeps = subst (λ s. Keeps s a) commit_is kept.kept

  pub writing_commits : is_committing a.writing.state ≡ true
  writing_commits = ap (λ s. is_committing (state_by s a.gatherings a.writing a.outcome)) (sym commit_is) ∙ commits_here

  pub commit_holding : IsHolding a.number (note_of a.call.now) (versions_of a.writing.stamps) a.ticket
  commit_holding = holds_to_commit a.number (note_of a.call.now) (versions_of a.writing.stamps) a.ticket a.writing.state commit_keeps.1 writing_commits

  pub commit_may : (d : Directory) (placed : List (List Placement)) → d.shape ≡ a.opening.geometry → length placed ≡ length a.writing.stamps → All (IsRow a.writing.book.geometry) placed
      → MayMake d a.ticket a.number (DirectoryStep.Commit placed)
  commit_may d placed shape count whole =
      let versions : length (versions_of a.writing.stamps) ≡ length a.writing.stamps = length-map a.writing.stamps (λ stamp. stamp.version) in
      may_commit d a.number (note_of a.call.now) (versions_of a.writing.stamps) a.ticket placed commit_holding (to_write a.call.now commit_holding commit_keeps.3)
      (versions ∙ commit_keeps.0.count ∙ ap (λ g. length (touched (record d { shape = g }) (note_of a.call.now))) (sym shape))
      (count ∙ sym versions)
      (subst (λ g. All (IsRow g) placed) (ap (λ (book : BookOf). book.geometry) commit_keeps.0.book_is ∙ sym shape) whole)

  -- a commit that finds the object changed is a write's
  pub told_change : (d after : Directory) (placed : List (List Placement)) (base newer : ℕ) → Agrees d a.ticket
      → (after, Told.Changed base newer) ≡ at_directory false (actor_of a.ticket) a.number (DirectoryStep.Commit placed) d → is_write a.call.now ≡ true
  told_change d after placed base newer agrees made =
      overtaken_writes a.call.now a.number (versions_of a.writing.stamps) a.ticket d after placed base newer commit_keeps.3 commit_holding agrees made

  pub commit_room : is_write a.call.now ≡ true → length a.changes.items < vec_capacity a.changes
  commit_room write = room_of a.writing.state writing_commits (commit_keeps.2 write)
    where
      room_of : (at : State) → is_committing at ≡ true → HasRoom at (length a.changes.items) (vec_capacity a.changes) → length a.changes.items < vec_capacity a.changes
      room_of (State.Committing versions placed) e h = h
      room_of _ e h = absurd (cc)

  -- what it is told
  pub commit_tells : (placed : List (List Placement)) → a.writing.state ≡ State.Committing (versions_of a.writing.stamps) placed
      → (d after : Directory) (told : Told) (answer : DirectoryAnswer)
      → (after, told) ≡ at_directory false (actor_of a.ticket) a.number (DirectoryStep.Commit placed) d → directory_answer told ≡ Some answer
      → directory_answer (told_there false old.call d) ≡ Some answer
  commit_tells placed committed d after told answer made tells =
      let at : state_by a.stage a.gatherings a.writing a.outcome ≡ State.Committing (versions_of a.writing.stamps) placed
      = ap (λ s. state_by s a.gatherings a.writing a.outcome) commit_is ∙ committed in
      there (patch_in a).call old.call d false told answer (ap (λ (p : PatchOf). p.call) view)
      (by_act_there (patch_in a).call d after false (DirectoryStep.Commit placed) told
      (ap (λ at. act_of_state a.opening.geometry a.tries (job_of a.call.now) (call_at (pairs_in a.changes.items) at)) at) made) tells

  module _ (point : ℕ) (placed : List (List Placement)) (committed : a.writing.state ≡ State.Committing (versions_of a.writing.stamps) placed) (w : WritingOf)
      (w_is : w ≡ record (a.writing) { state = settle_state point (places_of (chunk_count a.writing.book.geometry) (versions_of a.writing.stamps)) })
      (token : ActorToken) (token_is : token ≡ token_after a.ticket a.number (DirectoryStep.Commit placed) (Told.Done point)) where
    seated : IsSeated token
    seated = seated_by a.ticket token a.number (DirectoryStep.Commit placed) commit_holding.held (Told.Done point) commit_holding.is token_is tt

    pub done_kept : (now : Inside) → now ≡ record a { ticket = token; writing = w; changes = now.changes; coding = false; step = false } → Keeps a.stage now
    done_kept now same =
        subst (λ s. Keeps s now) (sym commit_is) (subst (Keeps stage.Writing) (sym same)
        (subst (λ (w : WritingOf). Keeps stage.Writing (record a { ticket = token; writing = w; changes = now.changes; coding = false; step = false })) (sym w_is) (
          record { book_is = commit_keeps.0.book_is; first = commit_keeps.0.first; count = commit_keeps.0.count; contents = commit_keeps.0.contents },
          settle_has a.number (note_of a.call.now) (versions_of a.writing.stamps) token point (places_of (chunk_count a.writing.book.geometry) (versions_of a.writing.stamps)) seated,
          λ write. settle_room point (places_of (chunk_count a.writing.book.geometry) (versions_of a.writing.stamps)) (length now.changes.items) (vec_capacity now.changes),
          commit_keeps.3,
        )))

    pub done_step : (before after : Directory) (pairs : List (ℕ × ℕ)) → pairs ≡ []
        → (after, Told.Done point) ≡ at_directory false (actor_of a.ticket) a.number (DirectoryStep.Commit placed) before
        → (after, record ((patch_in a).call) { token = token; state = call_at pairs (state_by a.stage a.gatherings w a.outcome); due = due_by a.stage a.gatherings w; coding = false; step = false })
        ≡ stepped_at_directory false (due_by a.stage a.gatherings w) old.call before
    done_step before after pairs none made =
        let at : state_by a.stage a.gatherings a.writing a.outcome ≡ State.Committing (versions_of a.writing.stamps) placed
        = ap (λ s. state_by s a.gatherings a.writing a.outcome) commit_is ∙ committed in
        let code : a.writing.book.geometry ≡ a.opening.geometry = ap (λ (book : BookOf). book.geometry) commit_keeps.0.book_is in
        let now : state_by a.stage a.gatherings w a.outcome ≡ settle_state point (places_of (chunk_count a.opening.geometry) (versions_of a.writing.stamps))
        = ap (λ s. state_by s a.gatherings w a.outcome) commit_is ∙ ap (λ (w : WritingOf). w.state) w_is
        ∙ ap (λ g. settle_state point (places_of (chunk_count g) (versions_of a.writing.stamps))) code in
        let state : call_at pairs (state_by a.stage a.gatherings w a.outcome) ≡ next_call a.opening.geometry (job_of a.call.now) ((patch_in a).call.state) (Told.Done point)
        = (λ i. call_at (none i) (now i)) ∙ ap (λ at. next_call a.opening.geometry (job_of a.call.now) (call_at (pairs_in a.changes.items) at) (Told.Done point)) (sym at) in
        directory_step (patch_in a).call (DirectoryStep.Commit placed) false (due_by a.stage a.gatherings w) before after (Told.Done point) token (call_at pairs (state_by a.stage a.gatherings w a.outcome))
        (ap (λ at. act_of_state a.opening.geometry a.tries (job_of a.call.now) (call_at (pairs_in a.changes.items) at)) at) made token_is state
        ∙ ap (λ (p : PatchOf). stepped_at_directory false (due_by a.stage a.gatherings w) p.call before) view
