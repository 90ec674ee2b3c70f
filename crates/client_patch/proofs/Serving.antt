-- A call that needs a server, by its fields.
use Rattle.std.proofs.Common.{◌≡◌, ℕ, Bool, true, false, List, length, vec_capacity, ap, subst, sym, ◌∙◌}
use Rattle.store_core.specs.Note.{note_of}
use Rattle.store_core.specs.NextAct.{job_of}
use Rattle.store_core.specs.Server.{Server}
use Rattle.run_laws.specs.State.{Sequel, State}
use Rattle.run_laws.specs.StateActs.{act_at}
use Rattle.version_seal.specs.Entry.{BookOf, StampOf}
use Rattle.stripe_stamps.specs.Sealed.{Sealed}
use Rattle.call_steps.specs.declared.need.Need.TheVariants as need
use Rattle.call_steps.specs.TokenAfter.{IfInCall}
use Rattle.call_steps.specs.Steps.{need_by, need_of, stepped_at_server}
use Rattle.gather_parts.specs.Gatherings.{GatheringsOf, owed}
use Rattle.gather_parts.specs.States.{state_in}
use Rattle.write_course.specs.Writings.{WritingOf, versions_of}
use Rattle.call_steps.specs.Hearing.{told_here}
use Rattle.write_course.specs.WritingSteps.{stepped, told_at}
use Rattle.client_patch.specs.Patches.{PatchOf, is_write}
use Rattle.client_patch.specs.Known.{AreOldBytes, UpToDraw, KnowsOld}
use Rattle.client_patch.specs.Stages.{state_by, due_by}
use Rattle.client_patch.specs.Inside.{pairs_in, patch_in, Keeps, IsPatch}
use Rattle.write_course.specs.Holding.{HasToken}
use Rattle.client_patch.specs.Holds.{HasRoom}
use Rattle.client_patch.specs.declared.patch.PatchCall.TheInside.{Inside}
use Rattle.client_patch.specs.declared.patch_stage.PatchStage.TheVariants as stage
use Rattle.client_patch.proofs.Gathered.{asks_up_to_draw, known_at}
use Rattle.write_course.proofs.Tokens.{stepped_has}
use Rattle.client_patch.proofs.Rooms.{same_call, stepped_room, known_drawn}
use Rattle.write_course.proofs.AtServers.{Asks, server_step, server_tells, asks}
use Rattle.client_patch.proofs.Servers.{writes_at_server}

module _ (a : Inside) (kept : IsPatch a) (old : PatchOf) (view : patch_in a ≡ old) (server : ℕ) (needs : need_of old.call ≡ need.Server server) where
  needs_here : need_of (patch_in a).call ≡ need.Server server
  needs_here = ap (λ (p : PatchOf). need_of p.call) view ∙ needs

  -- what is known while it gathers
  pub gathering_knows : a.stage ≡ stage.Gathering → (p : GatheringsOf) → owed p ≡ owed a.gatherings → (coding step : Bool) (d : Sealed) → KnowsOld d old
      → KnowsOld d (patch_in (record a { gatherings = p; coding = coding; step = step }))
  gathering_knows is p same coding step d knows =
      let before : KnowsOld d (patch_in a) = subst (KnowsOld d) (sym view) knows in
      let known : List ℕ → Type 0 = λ bytes. IfInCall a.ticket (λ held. AreOldBytes d.stamps a.opening (note_of a.call.now) a.size bytes held.pass) in
      let asked : need_by (act_at a.gatherings.book.geometry a.tries (job_of a.call.now) (pairs_in a.changes.items) (state_in a.gatherings Sequel.Draw)) (due_by stage.Gathering a.gatherings a.writing) ≡ need.Server server
      = (λ i. need_by (act_at (kept.book i).geometry a.tries (job_of a.call.now) (pairs_in a.changes.items) (state_by (sym is i) a.gatherings a.writing a.outcome)) (due_by (sym is i) a.gatherings a.writing)) ∙ needs_here in
      let held : known (owed a.gatherings)
      = asks_up_to_draw (known (owed a.gatherings)) a.gatherings a.tries (job_of a.call.now) (pairs_in a.changes.items) server asked
      (subst (λ s. UpToDraw (state_by s a.gatherings a.writing a.outcome) (known (owed a.gatherings))) is before) in
      known_at (known (owed p)) (state_by a.stage p a.writing a.outcome) (subst known (sym same) held)

  module _ (other : a.stage ≡ stage.Gathering → ⊥) where
    writing_is : a.stage ≡ stage.Writing
    writing_is = writes_at_server a.opening.geometry a.tries (job_of a.call.now) (pairs_in a.changes.items) a a.stage server kept.kept other needs_here

    keeps : Keeps stage.Writing a
    keeps = subst (λ s. Keeps s a) writing_is kept.kept

    asked : Asks a.writing.state a.writing.due server
    asked =
        asks a.opening.geometry a.tries (job_of a.call.now) (pairs_in a.changes.items) a.number (note_of a.call.now) (versions_of a.writing.stamps) a.ticket a.writing.state a.writing.due server (keeps.1)
        (ap (λ s. need_by (act_at a.opening.geometry a.tries (job_of a.call.now) (pairs_in a.changes.items) (state_by s a.gatherings a.writing a.outcome)) (due_by s a.gatherings a.writing)) (sym writing_is) ∙ needs_here)

    -- what it is told
    pub served_tells : (short : Bool) (before : Server) {told_short : Bool} → short ≡ told_short → told_at told_short before a.writing.state ≡ told_here short old.call before
    served_tells short before is =
        ap (λ b. told_at b before a.writing.state) (sym is)
        ∙ server_tells (patch_in a).call (pairs_in a.changes.items) a.writing.state server
        (ap (λ s. record { pairs = pairs_in a.changes.items; at = state_by s a.gatherings a.writing a.outcome }) writing_is) asked.asked short before
        ∙ ap (λ (p : PatchOf). told_here short p.call before) view

    module _ (now : WritingOf) (short : Bool) (before after : Server) (step : (after, now.state) ≡ stepped a.writing.book.geometry short before a.writing.state) (same : now ≡ record a.writing { state = now.state; due = now.due }) where
      stamps : a.writing.stamps ≡ now.stamps
      stamps = sym (ap (λ (w : WritingOf). w.stamps) same)

      has_token : HasToken a.number (note_of a.call.now) (versions_of now.stamps) a.ticket now.state
      has_token =
          subst (λ (stamps : List StampOf). HasToken a.number (note_of a.call.now) (versions_of stamps) a.ticket now.state) stamps
          (subst (λ (made : Server × State). HasToken a.number (note_of a.call.now) (versions_of a.writing.stamps) a.ticket made.1) (sym step)
          (stepped_has a.number (note_of a.call.now) (versions_of a.writing.stamps) a.ticket a.writing.book.geometry short before a.writing.state server keeps.1 asked.asked))

      has_room : is_write a.call.now ≡ true → HasRoom now.state (length a.changes.items) (vec_capacity a.changes)
      has_room write =
          subst (λ (made : Server × State). HasRoom made.1 (length a.changes.items) (vec_capacity a.changes)) (sym step)
          (stepped_room a.writing.book.geometry short before a.writing.state server (length a.changes.items) (vec_capacity a.changes) asked.asked (keeps.2 write))

      -- what is kept after the step
      pub served_kept : (coding step : Bool) → Keeps a.stage (record a { writing = now; coding = coding; step = step })
      served_kept coding step =
          subst (λ s. Keeps s (record a { writing = now; coding = coding; step = step })) (sym writing_is)
          (same_call a.opening a.call.now a.size a.gatherings.bytes a.writing now same keeps.0, has_token, has_room, keeps.3)

      -- what is known
      pub served_knows : (coding step : Bool) (d : Sealed) → KnowsOld d (patch_in (record a { writing = now; coding = coding; step = step }))
      served_knows coding step d =
          subst (λ s. UpToDraw (state_by s a.gatherings now a.outcome) (IfInCall a.ticket (λ held. AreOldBytes d.stamps a.opening (note_of a.call.now) a.size (owed a.gatherings) held.pass))) (sym writing_is)
          (known_drawn a.number (note_of a.call.now) (versions_of now.stamps) a.ticket _ now.state has_token)

      -- the step
      pub served_step : (after, (patch_in (record a { writing = now; coding = false; step = short })).call) ≡ stepped_at_server short (due_by a.stage a.gatherings now) old.call before
      served_step =
          let here : (after, now.state) ≡ stepped a.opening.geometry short before a.writing.state
          = step ∙ ap (λ (book : BookOf). stepped book.geometry short before a.writing.state) keeps.0.book_is in
          ap (λ s. (after, record ((patch_in a).call) { state = record { pairs = pairs_in a.changes.items; at = state_by s a.gatherings now a.outcome }; due = due_by s a.gatherings now; coding = false; step = short })) writing_is
          ∙ server_step (patch_in a).call (pairs_in a.changes.items) a.writing.state server
          (ap (λ s. record { pairs = pairs_in a.changes.items; at = state_by s a.gatherings a.writing a.outcome }) writing_is) asked.asked short now.due before after now.state here
          ∙ ap (λ s. stepped_at_server short (due_by s a.gatherings now) (patch_in a).call before) (sym writing_is)
          ∙ ap (λ (p : PatchOf). stepped_at_server short (due_by a.stage a.gatherings now) p.call before) view
