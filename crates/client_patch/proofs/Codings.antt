-- What a call does between two steps.
use Rattle.std.proofs.Common.{◌≡◌, ℕ, Bool, true, false, List, length, OnOk, OnErr, Result, Ok, Err, vec_capacity, is_err, refl, ap, subst, sym, ◌∙◌}
use Rattle.clay_grid.specs.Shape.{Shape}
use Rattle.store_core.specs.Note.{note_of}
use Rattle.store_core.specs.Act.{Act, Outcome as CoreOutcome}
use Rattle.store_core.specs.NextAct.{Job, job_of}
use Rattle.store_core.specs.Told.{Told}
use Rattle.run_laws.specs.State.{Sequel, State}
use Rattle.run_laws.specs.StateActs.{act_at}
use Rattle.run_laws.specs.CallLaws.{next_call}
use Rattle.call_steps.specs.declared.need.Need.TheVariants as need
use Rattle.stripe_stamps.specs.Sealed.{Sealed}
use Rattle.call_steps.specs.CallOf.{CallOf}
use Rattle.call_steps.specs.TokenAfter.{IfInCall}
use Rattle.call_steps.specs.Steps.{need_by, need_of, coded}
use Rattle.call_steps.specs.declared.outcomes.Change.{Change}
use Rattle.gather_parts.specs.Wanted.{parts_of}
use Rattle.gather_parts.specs.Gatherings.{GatheringsOf, owed}
use Rattle.gather_parts.specs.Progress.{is_due}
use Rattle.gather_parts.specs.States.{state_by as gathering_state, state_in}
use Rattle.gather_parts.proofs.Handing.{open_short}
use Rattle.write_course.proofs.OfTheCall.{steps_are_of_the_call}
use Rattle.write_course.specs.Writings.{WritingOf, versions_of, begins_version}
use Rattle.client_patch.specs.Patches.{PatchOf}
use Rattle.client_patch.specs.Known.{AreOldBytes, UpToDraw, KnowsOld}
use Rattle.client_patch.specs.Stages.{state_by, due_by}
use Rattle.call_steps.specs.Ends.{finished_of}
use Rattle.client_patch.specs.LookAfter.{IsFresh, IsBegun}
use Rattle.client_patch.specs.Inside.{pairs_in, patch_in, Keeps, IsPatch}
use Rattle.client_patch.specs.Holds.{HasRoom}
use Rattle.client_patch.specs.declared.patch.PatchCall.TheInside.{Inside}
use Rattle.client_patch.specs.declared.patch_stage.PatchStage.{PatchStage}
use Rattle.client_patch.specs.declared.patch_stage.PatchStage.TheVariants as stage
use Rattle.write_course.proofs.Tokens.{short_has}
use Rattle.write_course.proofs.AtServers.{codes}

-- want of memory right after the look
fresh_short : (g : Shape) (tries : ℕ) (job : Job) (pairs : List (ℕ × ℕ)) (p : GatheringsOf) → p.book.geometry ≡ g → IsFresh p
    → next_call g job (record { pairs = pairs; at = state_in p Sequel.Draw }) Told.Short ≡ record { pairs = pairs; at = State.Ending CoreOutcome.NoMemory }
fresh_short g tries job pairs p code fresh =
    ap (λ at. next_call g job (record { pairs = pairs; at = at }) Told.Short)
    (λ i. gathering_state (code i) (parts_of p.left) Sequel.Draw (fresh i))
    ∙ open_short g tries job pairs Sequel.Draw (parts_of p.left)

module _ (a : Inside) (kept : IsPatch a) (is : a.stage ≡ stage.Looked) where
  fresh : IsFresh a.gatherings
  fresh = (subst (λ s. Keeps s a) is kept.kept).1

  abbrev c : CallOf
  c = (patch_in a).call

  at_look : record { pairs = pairs_in a.changes.items; at = state_in a.gatherings Sequel.Draw } ≡ c.state
  at_look = ap (λ s. record { pairs = pairs_in a.changes.items; at = state_by s a.gatherings a.writing a.outcome }) (sym is)

  wanting : next_call a.opening.geometry (job_of a.call.now) c.state Told.Short ≡ record { pairs = pairs_in a.changes.items; at = State.Ending CoreOutcome.NoMemory }
  wanting =
      ap (λ s. next_call a.opening.geometry (job_of a.call.now) s Told.Short) (sym at_look)
      ∙ fresh_short a.opening.geometry a.tries (job_of a.call.now) (pairs_in a.changes.items) a.gatherings (ap (λ book. book.geometry) kept.book) fresh

  -- it gathers after its coding, or ends its pass
  module _ (changes : List Change) (now : GatheringsOf) (same : changes ≡ a.changes.items) (takes : now.takes ≡ a.gatherings.takes) where
    pub begun_coded : IsBegun a.gatherings now
        → record c { state = record { pairs = pairs_in changes; at = state_in now Sequel.Draw }; takes = now.takes; due = is_due now; coding = false } ≡ coded false c
    begun_coded begun = λ i. record c { state = ((λ j. record { pairs = pairs_in (same j); at = begun.state j }) ∙ at_look) i; takes = takes i; due = begun.due i; coding = false }

    pub short_coded : record c { state = record { pairs = pairs_in changes; at = State.Ending CoreOutcome.NoMemory }; takes = now.takes; due = false; coding = true } ≡ coded true c
    short_coded = λ i. record c { state = ((λ j. record { pairs = pairs_in (same j); at = State.Ending CoreOutcome.NoMemory }) ∙ sym wanting) i; takes = takes i; due = false; coding = true }

no_end : (act : Act) → need_by act false ≡ need.Coder → ⊥
no_end (Act.Finish outcome) e = cc
no_end (Act.AtDirectory step) e = cc
no_end (Act.AtServer server step) e = cc

module _ (a : Inside) (kept : IsPatch a) (old : PatchOf) (view : patch_in a ≡ old) (needs : need_of old.call ≡ need.Coder)
    (not_looked : a.stage ≡ stage.Looked → ⊥) (not_gathering : a.stage ≡ stage.Gathering → ⊥) where
  needs_here : need_of (patch_in a).call ≡ need.Coder
  needs_here = ap (λ (p : PatchOf). need_of p.call) view ∙ needs

  -- a call that needs the coder then writes
  writes_by : (s : PatchStage) → (s ≡ stage.Looked → ⊥) → (s ≡ stage.Gathering → ⊥)
      → need_by (act_at a.opening.geometry a.tries (job_of a.call.now) (pairs_in a.changes.items) (state_by s a.gatherings a.writing a.outcome)) (due_by s a.gatherings a.writing) ≡ need.Coder → s ≡ stage.Writing
  writes_by stage.Looked l g e = absurd (l refl)
  writes_by stage.Gathering l g e = absurd (g refl)
  writes_by stage.Writing l g e = refl
  writes_by stage.Looking l g e = absurd (no_end (act_at a.opening.geometry a.tries (job_of a.call.now) (pairs_in a.changes.items) State.Start) e)
  writes_by stage.Ungathered l g e = absurd (no_end (act_at a.opening.geometry a.tries (job_of a.call.now) (pairs_in a.changes.items) (finished_of (state_in a.gatherings Sequel.Draw))) e)
  writes_by stage.GivenUp l g e = absurd (no_end (act_at a.opening.geometry a.tries (job_of a.call.now) (pairs_in a.changes.items) (finished_of a.writing.state)) e)
  writes_by stage.Ending l g e = absurd (cc)
  writes_by stage.Finished l g e = absurd (cc)

  pub coding_is : a.stage ≡ stage.Writing
  coding_is = writes_by a.stage not_looked not_gathering needs_here

  pub coding_keeps : Keeps stage.Writing a
  coding_keeps = subst (λ s. Keeps s a) coding_is kept.kept

  pub coding_due : a.writing.due ≡ true
  coding_due =
      codes a.opening.geometry a.tries (job_of a.call.now) (pairs_in a.changes.items) a.number (note_of a.call.now) (versions_of a.writing.stamps) a.ticket a.writing.state a.writing.due coding_keeps.1
      (ap (λ s. need_by (act_at a.opening.geometry a.tries (job_of a.call.now) (pairs_in a.changes.items) (state_by s a.gatherings a.writing a.outcome)) (due_by s a.gatherings a.writing)) (sym coding_is) ∙ needs_here)

  -- its chunks are made
  pub encoded_keeps : (now : WritingOf) (coding : Bool) → now ≡ record (a.writing) { due = false } → Keeps a.stage (record a { writing = now; coding = coding })
  encoded_keeps now coding same =
      subst (λ s. Keeps s (record a { writing = now; coding = coding })) (sym coding_is)
      (subst (λ (w : WritingOf). Keeps stage.Writing (record a { writing = w; coding = coding })) (sym same)
      (record { book_is = coding_keeps.0.book_is; first = coding_keeps.0.first; count = coding_keeps.0.count; contents = coding_keeps.0.contents }, coding_keeps.1, coding_keeps.2, coding_keeps.3))

  module _ (begins : begins_version a.writing.state ≡ true) (now : WritingOf) (coding : Bool) (same : now ≡ record (a.writing) { state = State.Ending CoreOutcome.NoMemory; due = false }) where
    -- memory was wanting
    pub wanting_keeps : Keeps a.stage (record a { writing = now; coding = coding })
    wanting_keeps =
        subst (λ s. Keeps s (record a { writing = now; coding = coding })) (sym coding_is)
        (subst (λ (w : WritingOf). Keeps stage.Writing (record a { writing = w; coding = coding })) (sym same) (
          record { book_is = coding_keeps.0.book_is; first = coding_keeps.0.first; count = coding_keeps.0.count; contents = coding_keeps.0.contents },
          short_has a.number (note_of a.call.now) (versions_of a.writing.stamps) a.ticket a.writing.state coding_keeps.1 begins,
          λ write. room_before a.writing.state begins (coding_keeps.2 write),
          coding_keeps.3,
        ))
      where
        room_before : (at : State) → begins_version at ≡ true → HasRoom at (length a.changes.items) (vec_capacity a.changes)
            → HasRoom (State.Ending CoreOutcome.NoMemory) (length a.changes.items) (vec_capacity a.changes)
        room_before (State.Preparing stripe version asked servers row later placed versions) e h = h
        room_before _ e h = absurd (cc)

    pub wanting_knows : (d : Sealed) → KnowsOld d (patch_in (record a { writing = now; coding = coding }))
    wanting_knows d =
        let known : Type 0 = IfInCall a.ticket (λ held. AreOldBytes d.stamps a.opening (note_of a.call.now) a.size (owed a.gatherings) held.pass) in
        let at : state_by a.stage a.gatherings now a.outcome ≡ State.Ending CoreOutcome.NoMemory = (λ i. state_by (coding_is i) a.gatherings (same i) a.outcome) in
        subst (λ at. UpToDraw at known) (sym at) tt

    pub wanting_coded : coding ≡ true → (patch_in (record a { writing = now; coding = coding })).call ≡ coded coding old.call
    wanting_coded is =
        let c : CallOf = (patch_in a).call in
        let short : next_call a.opening.geometry (job_of a.call.now) (record { pairs = pairs_in a.changes.items; at = a.writing.state }) Told.Short ≡ record { pairs = pairs_in a.changes.items; at = State.Ending CoreOutcome.NoMemory }
        = (steps_are_of_the_call.short a.opening.geometry a.tries (job_of a.call.now) (pairs_in a.changes.items) a.writing.state begins).after in
        let states : record { pairs = pairs_in a.changes.items; at = state_by a.stage a.gatherings now a.outcome } ≡ next_call a.opening.geometry (job_of a.call.now) c.state Told.Short
        = (λ i. record { pairs = pairs_in a.changes.items; at = state_by (coding_is i) a.gatherings (same i) a.outcome }) ∙ sym short
        ∙ ap (λ s. next_call a.opening.geometry (job_of a.call.now) (record { pairs = pairs_in a.changes.items; at = state_by s a.gatherings a.writing a.outcome }) Told.Short) (sym coding_is) in
        let dues : due_by a.stage a.gatherings now ≡ false = (λ i. due_by (coding_is i) a.gatherings (same i)) in
        (λ i. record ((patch_in a).call) { state = states i; due = dues i; coding = is i })
        ∙ ap (λ b. coded b (patch_in a).call) (sym is)
        ∙ ap (λ (p : PatchOf). coded coding p.call) view

-- what is so of an answer
pub on_err : {A E : Type 0} (r : Result A E) (P : Type 0) → OnErr r P → is_err r ≡ true → P
on_err (Ok x) P h e = absurd (cc)
on_err (Err x) P h e = h

pub on_ok : {A E : Type 0} (r : Result A E) (P : Type 0) → OnOk r P → is_err r ≡ false → P
on_ok (Ok x) P h e = h
on_ok (Err x) P h e = absurd (cc)
