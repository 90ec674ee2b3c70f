-- The draw of a put or a write.
use Rattle.call_steps.specs.declared.answer.DirectoryAnswer.{DirectoryAnswer}
use Rattle.call_steps.specs.Answers.{directory_answer}
use Rattle.call_steps.specs.Hearing.{told_there}
use Rattle.call_steps.proofs.Telling.{there, by_act_there}
use Rattle.std.proofs.Common.{◌≡◌, ◌⊎◌, ℕ, zero, suc, ◌+◌, ◌-◌, ◌*◌, ◌/◌, ◌^◌, ◌<◌, ◌≤◌, Bool, true, List, [], length, Some, vec_capacity, refl, ap, subst, sym, ◌∙◌, inl, inr, arith}
use Rattle.std.specs.List.{slice_get}
use Rattle.std.proofs.lemmas.List.FromFn.{length-range_with_len}
use Rattle.std.proofs.Math.Nat.{div-le_of_le-mul}
use Rattle.clay_grid.specs.Shape.{Shape, row_count, layer_count, chunk_length, stripe_length}
use Rattle.clay_grid.specs.Limits.{IsGeometry}
use Rattle.store_map.specs.Limits.{stripes_met}
use Rattle.store_map.specs.declared.call.Call.{Call}
use Rattle.store_core.specs.Told.{Told}
use Rattle.store_core.specs.Note.{Note, note_of}
use Rattle.store_core.specs.Act.{Act, DirectoryStep}
use Rattle.store_core.specs.Agreement.{HeldPass, ActorToken}
use Rattle.store_core.specs.AtDirectory.{at_directory}
use Rattle.store_core.specs.Content.{written_by, lay_over}
use Rattle.store_core.specs.Directory.{Directory}
use Rattle.store_core.specs.Look.{stripes_between}
use Rattle.store_core.specs.NextAct.{job_of}
use Rattle.store_core.specs.Tokens.{actor_of}
use Rattle.run_laws.specs.State.{Sequel, State}
use Rattle.run_laws.specs.States.{prepare_all_state}
use Rattle.run_laws.specs.StateActs.{act_at, act_of_state}
use Rattle.call_steps.specs.declared.need.Need.TheVariants as need
use Rattle.version_seal.specs.Entry.{BookOf, StampOf, RequestOf, call_written, content_over}
use Rattle.stripe_stamps.specs.Sealed.{Sealed, base_stamp, drawn_stamp}
use Rattle.call_steps.specs.CallOf.{act_of}
use Rattle.call_steps.specs.Steps.{need_by, need_of}
use Rattle.call_steps.specs.TokenAfter.{token_after, IfInCall}
use Rattle.stripe_dir.specs.AnswerStamps.{AreDrawnFor}
use Rattle.gather_parts.specs.Gatherings.{owed}
use Rattle.gather_parts.specs.States.{state_in}
use Rattle.write_course.specs.Laws.{call_at}
use Rattle.write_course.specs.Writings.{WritingOf, versions_of}
use Rattle.client_patch.specs.Kept.{new_of}
use Rattle.client_patch.specs.Known.{AreOldBytes, UpToDraw, KnowsOld}
use Rattle.write_course.specs.Draws.{request_of, stamps_drawn}
use Rattle.write_course.proofs.AtDirectory.{written_is, at_range, drawn_stamps}
use Rattle.client_patch.specs.Patches.{PatchOf, is_put, is_write}
use Rattle.client_patch.specs.Stages.{state_by, due_by}
use Rattle.call_steps.specs.Ends.{finished_of}
use Rattle.client_patch.specs.Inside.{pairs_in, patch_in, Keeps, IsPatch}
use Rattle.write_course.specs.Holding.{IsHolding, HasToken}
use Rattle.client_patch.specs.Holds.{IsOfCall, PinsNothing, GathersNothing}
use Rattle.client_patch.specs.declared.patch.PatchCall.TheInside.{Inside}
use Rattle.client_patch.specs.declared.patch_stage.PatchStage.{PatchStage}
use Rattle.client_patch.specs.declared.patch_stage.PatchStage.TheVariants as stage
use Rattle.client_patch.proofs.OfWrites.{put_or_write}
use Rattle.client_patch.proofs.Puts.{old_of_nothing}
use Rattle.client_patch.proofs.Gathered.{EndsSo, ungathered_ends}
use Rattle.gather_parts.proofs.Ended.{done_owed}
use Rattle.write_course.proofs.Tokens.{prepare_has}
use Rattle.client_patch.proofs.Rooms.{room_at}
use Rattle.client_patch.proofs.Ends.{no_directory, done_at}

-- what is drawn is the call's
drawn_of_call : (s : Sealed) (book : BookOf) (written : Call) (size : ℕ) (kept : List ℕ) (held : HeldPass) (request : RequestOf) (w : WritingOf)
    → s.book ≡ book → s.book.geometry ≡ s.core.shape → held.pass.note ≡ note_of written
    → call_written s.book.script held.pass.actor held.pass.number (Some request) ≡ Some written → AreDrawnFor s held (Some request) w.stamps → AreOldBytes s.stamps book (note_of written) size kept held.pass
    → w.book ≡ book → w.first ≡ (note_of written).offset / stripe_length book.geometry → IsOfCall book written size kept w
drawn_of_call s book written size kept held request w its code note says drawn old w_book first =
    let shape : s.core.shape ≡ book.geometry = sym code ∙ ap (λ (book : BookOf). book.geometry) its in
    let from : held.pass.note.offset / stripe_length s.core.shape ≡ (note_of written).offset / stripe_length book.geometry = (λ i. (note i).offset / stripe_length (shape i)) in
    record {
      book_is = w_book;
      first = first;
      count = drawn.count ∙ (λ i. length (stripes_between (shape i) ((note i).offset) ((note i).offset + (note i).length)));
      contents = λ place stamp here.
          let at : (stamp ≡ drawn_stamp s.book s.stamps held.pass (held.pass.note.offset / stripe_length s.core.shape) (Some request) (0 + place)) × (place < stripes_met (stripe_length s.core.shape) held.pass.note.offset held.pass.note.length)
          = at_range (drawn_stamp s.book s.stamps held.pass (held.pass.note.offset / stripe_length s.core.shape) (Some request)) 0 (stripes_met (stripe_length s.core.shape) held.pass.note.offset held.pass.note.length) place stamp
          (ap (λ (stamps : List StampOf). slice_get stamps place) (sym drawn.drawn) ∙ here) in
          let less : place < stripes_met (stripe_length book.geometry) (note_of written).offset (note_of written).length
          = subst (λ n. place < n) (λ i. stripes_met (stripe_length (shape i)) ((note i).offset) ((note i).length)) at.1 in
          let none : 0 + place ≡ place = omega arith in
          let stripe : held.pass.note.offset / stripe_length s.core.shape + (0 + place) ≡ (note_of written).offset / stripe_length book.geometry + place = (λ i. from i + none i) in
          ap (λ (stamp : StampOf). stamp.content) at.0
          ∙ (λ i. content_over ((its i).geometry) (stripe i) (says i) (base_stamp s.stamps held.pass.pinned (stripe i)))
          ∙ ap (λ old. lay_over book.geometry ((note_of written).offset / stripe_length book.geometry + place) old (written_by (Some written)).0 (written_by (Some written)).1) (old.bytes place less)
          ∙ ap (new_of book.geometry written size kept) (ap (λ n. n + place) (sym first));
    }

-- a stripe has two bytes at least
two_by : (d x : ℕ) → 2 ≤ d → 0 < x → 2 ≤ d * x
two_by d zero some there = absurd (omega (arith, there))
two_by d (suc x) some there = let one : d * suc x ≡ d + d * x = omega arith in omega (arith, some, one)

some_by : (l w : ℕ) → 0 < l → 0 < w → 0 < l * w
some_by l zero a b = absurd (omega (arith, b))
some_by l (suc w) a b = let one : l * suc w ≡ l + l * w = omega arith in omega (arith, a, one)

pub two_bytes : (g : Shape) → IsGeometry g → 2 ≤ stripe_length g
two_bytes g is =
    let layers : 0 < layer_count g = (let rows : 2 ≤ row_count g = is.limits.parity_chunks.0 in let more : row_count g ≤ layer_count g = is.some_layers in omega (arith, rows, more)) in
    two_by g.data_count (chunk_length g) is.limits.data_chunks (some_by (layer_count g) g.width layers is.limits.width.0)

pub some_bytes : (g : Shape) → IsGeometry g → 0 < stripe_length g
some_bytes g is = omega (arith, two_bytes g is)

-- as many as there are numbers
few_numbers : (s start count : ℕ) → 2 ≤ s → start + count < 2 ^ 33 - 1 → start / s + stripes_met s start count ≤ 2 ^ 32
few_numbers s start zero some few =
    let first : start / s ≤ 4294967295 = div-le_of_le-mul s {m = start} {n = 4294967295} (omega (arith, some, few)) in
    omega (arith, first)
few_numbers s start (suc n) some few =
    let first : start / s ≤ 4294967295 = div-le_of_le-mul s {m = start} {n = 4294967295} (omega (arith, some, few)) in
    let last : (start + n) / s ≤ 4294967295 = div-le_of_le-mul s {m = start + n} {n = 4294967295} (omega (arith, some, few)) in
    omega (arith, first, last)

module _ (a : Inside) (kept : IsPatch a) (old : PatchOf) (view : patch_in a ≡ old) (drawing : old.call.state.at ≡ State.Drawing) (needs : need_of old.call ≡ need.Directory) where
  at_draw : state_by a.stage a.gatherings a.writing a.outcome ≡ State.Drawing
  at_draw = ap (λ (p : PatchOf). p.call.state.at) view ∙ drawing

  needs_here : need_of (patch_in a).call ≡ need.Directory
  needs_here = ap (λ (p : PatchOf). need_of p.call) view ∙ needs

  draws_by : (s : PatchStage) → Keeps s a → state_by s a.gatherings a.writing a.outcome ≡ State.Drawing
      → need_by (act_at a.opening.geometry a.tries (job_of a.call.now) (pairs_in a.changes.items) (state_by s a.gatherings a.writing a.outcome)) (due_by s a.gatherings a.writing) ≡ need.Directory → s ≡ stage.Gathering
  draws_by stage.Looking k e n = absurd (cc)
  draws_by stage.Looked k e n = absurd (no_directory (act_at a.opening.geometry a.tries (job_of a.call.now) (pairs_in a.changes.items) (state_in a.gatherings Sequel.Draw)) n)
  draws_by stage.Gathering k e n = refl
  draws_by stage.Ungathered k e n =
      let ends : EndsSo (state_in a.gatherings Sequel.Draw) = ungathered_ends a.gatherings k.1 in
      let is : finished_of (state_in a.gatherings Sequel.Draw) ≡ State.Finished (ends.outcome) = ap finished_of ends.is in
      absurd (cc)
  draws_by stage.Writing k e n = absurd (subst (HasToken a.number (note_of a.call.now) (versions_of a.writing.stamps) a.ticket) e k.1)
  draws_by stage.GivenUp k e n =
      let is : finished_of a.writing.state ≡ State.Finished (k.1.ending) = ap finished_of k.1.is in
      absurd (cc)
  draws_by stage.Ending k e n = absurd (cc)
  draws_by stage.Finished k e n = absurd (cc)

  draw_is : a.stage ≡ stage.Gathering
  draw_is = draws_by a.stage kept.kept at_draw needs_here

  draw_keeps : Keeps stage.Gathering a
  draw_keeps = subst (λ s. Keeps s a) draw_is kept.kept

  pub holding : IsHolding a.number (note_of a.call.now) [] a.ticket
  holding = draw_keeps.0

  -- all old bytes have come
  pub has_bytes : owed a.gatherings ≡ a.gatherings.bytes
  has_bytes =
      done_owed a.gatherings
      (done_at a.gatherings a.tries (job_of a.call.now) (pairs_in a.changes.items)
      ((λ i. need_by (act_at (kept.book i).geometry a.tries (job_of a.call.now) (pairs_in a.changes.items) (state_by (sym draw_is i) a.gatherings a.writing a.outcome)) (due_by (sym draw_is i) a.gatherings a.writing)) ∙ needs_here)
      (ap (λ s. state_by s a.gatherings a.writing a.outcome) (sym draw_is) ∙ at_draw))

  write_known : (d : Sealed) → KnowsOld d old → AreOldBytes d.stamps a.opening (note_of a.call.now) a.size a.gatherings.bytes holding.held.pass
  write_known d knows =
      let here : KnowsOld d (patch_in a) = subst (KnowsOld d) (sym view) knows in
      let token : IfInCall a.ticket (λ held. AreOldBytes d.stamps a.opening (note_of a.call.now) a.size (owed a.gatherings) held.pass)
      = subst (λ at. UpToDraw at (IfInCall a.ticket (λ held. AreOldBytes d.stamps a.opening (note_of a.call.now) a.size (owed a.gatherings) held.pass))) at_draw here in
      subst (λ bytes. AreOldBytes d.stamps a.opening (note_of a.call.now) a.size bytes holding.held.pass) has_bytes
      (subst (λ t. IfInCall t (λ held. AreOldBytes d.stamps a.opening (note_of a.call.now) a.size (owed a.gatherings) held.pass)) holding.is token)

  known : (d : Sealed) → (is_write a.call.now ≡ true → KnowsOld d old) → AreOldBytes d.stamps a.opening (note_of a.call.now) a.size a.gatherings.bytes holding.held.pass
  known d knows = by (put_or_write a.call.now draw_keeps.2)
    where
      by : (is_put a.call.now ≡ true) ⊎ (is_write a.call.now ≡ true) → AreOldBytes d.stamps a.opening (note_of a.call.now) a.size a.gatherings.bytes holding.held.pass
      by (inr write) = write_known d (knows write)
      by (inl put) =
          let nothing : PinsNothing a.ticket × GathersNothing a.gatherings = draw_keeps.3 put in
          old_of_nothing d.stamps a.opening (note_of a.call.now) a.size a.gatherings.bytes holding.held.pass (subst PinsNothing holding.is nothing.0) nothing.1.no_bytes

  pub draws : act_of ((patch_in a).call) ≡ Act.AtDirectory DirectoryStep.Draw
  draws = ap (λ at. act_of_state a.opening.geometry a.tries (job_of a.call.now) (call_at (pairs_in a.changes.items) at)) at_draw

  -- what it is told
  pub draw_tells : (d after : Directory) (short : Bool) (told : Told) (answer : DirectoryAnswer)
      → (after, told) ≡ at_directory short (actor_of a.ticket) a.number DirectoryStep.Draw d → directory_answer told ≡ Some answer
      → directory_answer (told_there short old.call d) ≡ Some answer
  draw_tells d after short told answer made tells =
      there (patch_in a).call old.call d short told answer (ap (λ (p : PatchOf). p.call) view)
      (by_act_there (patch_in a).call d after short DirectoryStep.Draw told draws made) tells

  -- the stamps
  pub draw_stamps : (s : Sealed) (short : Bool) (after : Directory) (versions : List ℕ) (stamps : List StampOf) (request : RequestOf)
      → (after, Told.Versions versions) ≡ at_directory short (actor_of a.ticket) a.number DirectoryStep.Draw s.core
      → request ≡ request_of (patch_in a).call a.call.now → AreDrawnFor s holding.held (Some request) stamps → stamps ≡ stamps_drawn short s old.call old.written
  draw_stamps s short after versions stamps request made request_is drawn =
      drawn_stamps s (patch_in a).call a.call.now holding.held short after versions stamps request draws holding.is made request_is drawn
      ∙ ap (λ (p : PatchOf). stamps_drawn short s p.call p.written) view

  -- how many
  pub draw_count : (s : Sealed) (stamps : List StampOf) (request : RequestOf) → s.book ≡ a.opening → s.book.geometry ≡ s.core.shape → AreDrawnFor s holding.held (Some request) stamps
      → IsGeometry a.opening.geometry → (note_of a.call.now).offset + (note_of a.call.now).length < 2 ^ 33 - 1
      → (note_of a.call.now).offset / stripe_length a.opening.geometry + length stamps ≤ 2 ^ 32
  draw_count s stamps request its code drawn is few =
      let g : Shape = a.opening.geometry in
      let shape : s.core.shape ≡ a.opening.geometry = sym code ∙ ap (λ (book : BookOf). book.geometry) its in
      let note : Note = note_of a.call.now in
      let bytes : (note_of a.call.now).offset + (note_of a.call.now).length - (note_of a.call.now).offset ≡ (note_of a.call.now).length = omega arith in
      let count : length stamps ≡ stripes_met (stripe_length a.opening.geometry) (note_of a.call.now).offset (note_of a.call.now).length
      = drawn.count ∙ (λ i. length (stripes_between (shape i) ((holding.its i).offset) ((holding.its i).offset + (holding.its i).length)))
      ∙ length-range_with_len (note.offset / stripe_length g) (stripes_met (stripe_length g) note.offset (note.offset + note.length - note.offset))
      ∙ ap (stripes_met (stripe_length a.opening.geometry) (note_of a.call.now).offset) bytes in
      subst (λ n. (note_of a.call.now).offset / stripe_length a.opening.geometry + n ≤ 2 ^ 32) (sym count)
      (few_numbers (stripe_length a.opening.geometry) (note_of a.call.now).offset (note_of a.call.now).length (two_bytes a.opening.geometry is) few)

  -- what is kept
  pub draw_kept : (s : Sealed) (stamps : List StampOf) (request : RequestOf) (token : ActorToken) (w : WritingOf) (coding step : Bool)
      → s.book ≡ a.opening → s.book.geometry ≡ s.core.shape → request ≡ request_of (patch_in a).call a.call.now → AreDrawnFor s holding.held (Some request) stamps → (is_write a.call.now ≡ true → KnowsOld s old)
      → w.stamps ≡ stamps → w.book ≡ a.opening → w.first ≡ (note_of a.call.now).offset / stripe_length a.opening.geometry
      → w.state ≡ prepare_all_state a.opening.geometry (versions_of w.stamps) w.first (versions_of w.stamps) []
      → token ≡ token_after a.ticket a.number DirectoryStep.Draw (Told.Versions (versions_of w.stamps))
      → Keeps stage.Writing (record a { stage = stage.Writing; ticket = token; writing = w; coding = coding; step = step })
  draw_kept s stamps request token w coding step its code request_is drawn knows w_stamps w_book first state_is token_is =
      let held : HeldPass = holding.held in
      let who : holding.held.pass.actor ≡ a.actor = ap actor_of (sym holding.is) ∙ kept.actor_is in
      let says : call_written s.book.script holding.held.pass.actor holding.held.pass.number (Some request) ≡ Some a.call.now
      = (λ i. call_written ((its i).script) (who i) (holding.its_number i) (Some request))
      ∙ written_is a.opening.script a.actor a.number a.call.now request kept.script (ap (λ (r : RequestOf). r.call) request_is) in
      let after : token ≡ ActorToken.InCall (record held { pass = record (held.pass) { drawn = versions_of w.stamps } })
      = token_is ∙ ap (λ (token : ActorToken). token_after token a.number DirectoryStep.Draw (Told.Versions (versions_of w.stamps))) holding.is in (
        drawn_of_call s a.opening a.call.now a.size a.gatherings.bytes held request w its code holding.its says (subst (AreDrawnFor s held (Some request)) (sym w_stamps) drawn) (known s knows) w_book first,
        subst (HasToken a.number (note_of a.call.now) (versions_of w.stamps) token) (sym state_is)
            (prepare_has a.number (note_of a.call.now) (versions_of w.stamps) token a.opening.geometry (versions_of w.stamps) w.first (versions_of w.stamps) []
            (record { held = _; is = after; its = holding.its; its_number = holding.its_number; its_drawn = refl })),
        λ write. room_at w.state (length a.changes.items) (vec_capacity a.changes) (draw_keeps.1 write),
        draw_keeps.2,
      )
