-- The next step at the directory of a call may be made.
use Rattle.std.proofs.Common.{◌≡◌, ◌≢◌, ℕ, nat_lt, Bool, true, false, cond, [], length, inl, inr, refl, sym, ap, subst, ◌∙◌}
use Rattle.std.proofs.lemmas.Bool.{true≢false}
use Rattle.std.proofs.lemmas.List.{length-map}
use Rattle.store_map.specs.declared.actor.Actor.{Actor}
use Rattle.store_map.specs.declared.actor.Actor.TheVariants as actor
use Rattle.store_map.specs.declared.call.Call.{Call}
use Rattle.store_map.specs.declared.call.Call.TheVariants as call
use Rattle.store_core.specs.Note.{Kind, note_of}
use Rattle.store_core.specs.Act.{Act, DirectoryStep, Outcome}
use Rattle.store_core.specs.Conditions.{IsOfClient}
use Rattle.store_core.specs.Directory.{Directory}
use Rattle.store_core.specs.NextAct.{job_of}
use Rattle.store_core.specs.PassSteps.{touched}
use Rattle.store_core.specs.Agreement.{ActorToken}
use Rattle.store_core.specs.Tokens.{actor_of}
use Rattle.run_laws.specs.State.{Sequel}
use Rattle.run_laws.specs.StateActs.{act_at}
use Rattle.version_seal.specs.Entry.{BookOf}
use Rattle.call_steps.specs.Callers.{IsClient, IsWaiting}
use Rattle.call_steps.specs.CallOf.{CallOf, act_of}
use Rattle.call_steps.specs.TokenAfter.{MayMake}
use Rattle.call_steps.specs.Ends.{finished_of}
use Rattle.call_steps.specs.Steps.{MayMakeNext}
use Rattle.call_steps.proofs.Making.{MayBy, makes, passes}
use Rattle.gather_parts.specs.States.{state_in}
use Rattle.gather_parts.proofs.Doing.{gathering_does}
use Rattle.write_course.specs.Writings.{versions_of}
use Rattle.write_course.specs.Holding.{IsHolding, AreWholeAt, HasWholeRows}
use Rattle.write_course.proofs.AtDirectory.{writing_may}
use Rattle.client_patch.specs.Patches.{PatchOf, is_drawing, is_change}
use Rattle.client_patch.specs.Stages.{state_by, due_by}
use Rattle.client_patch.specs.Inside.{pairs_in, patch_in, Keeps, IsPatch}
use Rattle.client_patch.specs.declared.patch.PatchCall.TheInside.{Inside}
use Rattle.client_patch.specs.declared.patch_stage.PatchStage.{PatchStage}
use Rattle.client_patch.specs.declared.patch_stage.PatchStage.TheVariants as stage
use Rattle.client_patch.proofs.OfWrites.{to_write, writes_draw}
use Rattle.client_patch.proofs.Gathered.{EndsSo, ungathered_ends}

abbrev is_rebuild : Kind → Bool
is_rebuild Kind.Rebuild = true
is_rebuild kind = false

no_rebuild : (kind : Kind) → is_rebuild kind ≡ false → kind ≢ Kind.Rebuild
no_rebuild kind other e = true≢false (sym (ap is_rebuild e) ∙ other)

-- a client's call
of_client : (who : Actor) (written : Call) → is_change written ≡ true → IsClient who → IsOfClient who (note_of written)
of_client (actor.Client i) (call.Write name offset content) is client = inl refl
of_client (actor.Client i) (call.Put name content) is client = inr (inr (no_rebuild Kind.Put refl, refl))
of_client (actor.Client i) (call.Delete name) is client = inr (inr (no_rebuild Kind.Delete refl, refl))
of_client (actor.Client i) (call.Get name) is client = absurd (true≢false (sym is))
of_client (actor.Client i) (call.ReadAt name offset count) is client = absurd (true≢false (sym is))
of_client (actor.Client i) (call.Stat name) is client = absurd (true≢false (sym is))
of_client who written is client = absurd client

-- its look
may_look : (d : Directory) (token : ActorToken) (number : ℕ) (written : Call) → is_change written ≡ true → IsClient (actor_of token) → IsWaiting number token
    → MayMake d token number (DirectoryStep.Look (note_of written))
may_look d (ActorToken.Seated seat) number written is client waits = (waits, of_client seat.actor written is client)
may_look d (ActorToken.InCall held) number written is client waits = absurd waits

module _ (a : Inside) (is : IsPatch a) (whole : HasWholeRows a.writing) where
  -- the call as it would stand at a stage
  abbrev at_stage : PatchStage → CallOf
  at_stage now =
      record ((patch_in a).call) { state = record { pairs = pairs_in a.changes.items; at = state_by now a.gatherings a.writing a.outcome }; due = due_by now a.gatherings a.writing }

  looks : IsWaiting a.number a.ticket → (written : Call) → a.call.now ≡ written → is_change written ≡ true → MayBy (at_stage stage.Looking) (act_at a.opening.geometry a.tries (job_of written) (pairs_in a.changes.items) (state_by stage.Looking a.gatherings a.writing a.outcome))
  looks waits (call.Write name offset content) e patch = by (nat_lt (length (pairs_in a.changes.items)) a.tries)
    where
      by : (b : Bool) → MayBy (at_stage stage.Looking) (cond b (Act.AtDirectory (DirectoryStep.Look (note_of (call.Write name offset content)))) (Act.Finish (Outcome.Contended (pairs_in a.changes.items))))
      by true = λ d shape. may_look d a.ticket a.number (call.Write name offset content) refl (subst IsClient (sym is.actor_is) is.client) waits
      by false = tt
  looks waits (call.Put name content) e patch = λ d shape. may_look d a.ticket a.number (call.Put name content) refl (subst IsClient (sym is.actor_is) is.client) waits
  looks waits (call.Delete name) e patch = λ d shape. may_look d a.ticket a.number (call.Delete name) refl (subst IsClient (sym is.actor_is) is.client) waits
  looks waits (call.Get name) e patch = absurd (true≢false (sym patch))
  looks waits (call.ReadAt name offset count) e patch = absurd (true≢false (sym patch))
  looks waits (call.Stat name) e patch = absurd (true≢false (sym patch))

  gathers : (now : PatchStage) → (at_stage now).state.at ≡ state_in a.gatherings Sequel.Draw → IsHolding a.number (note_of a.call.now) [] a.ticket → is_drawing a.call.now ≡ true → MayBy (at_stage now) (act_of (at_stage now))
  gathers now e h draws =
      subst (λ at. MayBy (at_stage now) (act_at a.opening.geometry a.tries (job_of a.call.now) (pairs_in a.changes.items) at)) (sym e)
      (subst (λ (book : BookOf). MayBy (at_stage now) (act_at book.geometry a.tries (job_of a.call.now) (pairs_in a.changes.items) (state_in a.gatherings Sequel.Draw))) is.book
      (gathering_does (MayBy (at_stage now)) (λ server step. tt) (passes (at_stage now) h.held DirectoryStep.End h.is h.its_number (λ d shape. tt))
      a.gatherings a.tries (job_of a.call.now) (pairs_in a.changes.items) Sequel.Draw
      (passes (at_stage now) h.held DirectoryStep.Draw h.is h.its_number (λ d shape. (to_write a.call.now h draws, h.its_drawn)))))

  by_stage : (now : PatchStage) → Keeps now a → MayBy (at_stage now) (act_of (at_stage now))
  by_stage stage.Looking kept = looks kept.0 a.call.now refl is.change
  by_stage stage.Looked kept = gathers stage.Looked refl kept.0 (writes_draw a.call.now kept.2)
  by_stage stage.Gathering kept = gathers stage.Gathering refl kept.0 kept.2
  by_stage stage.Ungathered kept =
      let ends : EndsSo (state_in a.gatherings Sequel.Draw) = ungathered_ends a.gatherings kept.1 in
      subst (λ at. MayBy (at_stage stage.Ungathered) (act_at a.opening.geometry a.tries (job_of a.call.now) (pairs_in a.changes.items) (finished_of at))) (sym ends.is) tt
  by_stage stage.Writing kept =
      let versions : length (versions_of a.writing.stamps) ≡ length a.writing.stamps = length-map a.writing.stamps (λ stamp. stamp.version) in
      writing_may (at_stage stage.Writing) (note_of a.call.now) (versions_of a.writing.stamps) a.writing.state refl kept.1 (λ h. to_write a.call.now h kept.3)
      (λ d shape. versions ∙ kept.0.count ∙ ap (λ g. length (touched (record d { shape = g }) (note_of a.call.now))) (sym shape))
      (subst (λ (book : BookOf). AreWholeAt book.geometry (length (versions_of a.writing.stamps)) a.writing.state) kept.0.book_is
      (subst (λ n. AreWholeAt a.writing.book.geometry n a.writing.state) (sym versions) whole))
  by_stage stage.GivenUp kept =
      subst (λ at. MayBy (at_stage stage.GivenUp) (act_at a.opening.geometry a.tries (job_of a.call.now) (pairs_in a.changes.items) (finished_of at))) (sym kept.1.is) tt
  by_stage stage.Ending kept = passes (at_stage stage.Ending) kept.holding.held DirectoryStep.End kept.holding.is kept.holding.its_number (λ d shape. tt)
  by_stage stage.Finished kept = tt

pub may : (a : Inside) (p : PatchOf) → IsPatch a → patch_in a ≡ p → HasWholeRows a.writing → MayMakeNext p.call
may a p is view whole = subst (λ (p : PatchOf). MayMakeNext p.call) view (makes (patch_in a).call (by_stage a is whole a.stage is.kept))
