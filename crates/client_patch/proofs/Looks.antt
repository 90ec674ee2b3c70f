-- The look of a call.
use Rattle.std.specs.Prelude.{⊤}
use Rattle.std.proofs.Common.{◌≡◌, ℕ, nat_lt, Bool, true, false, cond, List, [], ◌∷◌, length, map, Option, None, Some, option_map, Result, Ok, Err, refl, sym, ap, subst, ◌∙◌}
use Rattle.std.specs.declared.alloc.AllocError.{AllocError}
use Rattle.clay_grid.specs.Shape.{Shape}
use Rattle.store_map.specs.declared.actor.Actor.{Actor}
use Rattle.store_map.specs.declared.call.Call.{Call}
use Rattle.store_map.specs.declared.call.Call.TheVariants as call
use Rattle.store_map.specs.declared.reply.Reply.{Reply}
use Rattle.store_core.specs.Told.{Told, Seen}
use Rattle.store_core.specs.Note.{note_of, refusal}
use Rattle.store_core.specs.NextAct.{job_of}
use Rattle.store_core.specs.Act.{Act, DirectoryStep, Outcome as CoreOutcome}
use Rattle.store_core.specs.Agreement.{ActorToken}
use Rattle.store_core.specs.AtDirectory.{at_directory}
use Rattle.store_core.specs.Directory.{Object, Directory}
use Rattle.store_core.specs.Look.{pin_of}
use Rattle.store_core.specs.Looks.{look_by}
use Rattle.store_core.specs.Lookups.{find_object}
use Rattle.store_core.specs.Tokens.{actor_of}
use Rattle.run_laws.specs.State.{Sequel, State}
use Rattle.run_laws.specs.States.{open_state}
use Rattle.run_laws.specs.StateActs.{act_at}
use Rattle.run_laws.specs.CallAfter.{pairs_with}
use Rattle.run_laws.specs.CallLaws.{next_call}
use Rattle.run_laws.specs.LookAfter.{start_after}
use Rattle.version_seal.specs.Entry.{BookOf}
use Rattle.stripe_dir.specs.Answers.{told_or_short, told_look}
use Rattle.stripe_stamps.specs.SeenStripes.{seen_in}
use Rattle.call_steps.specs.declared.seen.Seen.{Seen as AnswerSeen}
use Rattle.call_steps.specs.declared.need.Need.TheVariants as need
use Rattle.call_steps.specs.CallOf.{act_of}
use Rattle.call_steps.specs.Steps.{need_by, need_of, stepped_at_directory}
use Rattle.call_steps.specs.TokenAfter.{token_after, IsSeated}
use Rattle.stripe_dir.specs.declared.directory_answers.Look.{Look}
use Rattle.stripe_dir.specs.declared.directory_answers.Look.TheVariants as look_answer
use Rattle.gather_parts.specs.Wanted.{Wanted, wanted_of}
use Rattle.gather_parts.specs.Gatherings.{GatheringsOf, begun}
use Rattle.gather_parts.specs.States.{state_in}
use Rattle.write_course.specs.Laws.{call_at}
use Rattle.write_course.specs.Writings.{versions_of}
use Rattle.client_patch.specs.Patches.{PatchOf, is_write, is_put, is_drawing, is_change}
use Rattle.client_patch.specs.Stages.{state_by, due_by}
use Rattle.call_steps.specs.Ends.{finished_of}
use Rattle.call_steps.specs.Callers.{IsWaiting}
use Rattle.client_patch.specs.LookAfter.{looked_stripes, IsFresh, IsPatchLook, to_draw, IsLooked, IfReady}
use Rattle.client_patch.specs.Inside.{pairs_in, patch_in, Keeps, IsPatch}
use Rattle.write_course.specs.Holding.{IsHolding, HasToken}
use Rattle.client_patch.specs.Holds.{PinsNothing}
use Rattle.client_patch.specs.declared.patch.PatchCall.TheInside.{Inside}
use Rattle.client_patch.specs.declared.patch_stage.PatchStage.{PatchStage}
use Rattle.client_patch.specs.declared.patch_stage.PatchStage.TheVariants as stage
use Rattle.write_course.proofs.AtDirectory.{directory_step}
use Rattle.client_patch.proofs.OfWrites.{not_both}
use Rattle.client_patch.proofs.Gathered.{EndsSo, ungathered_ends}

-- what a look tells
abbrev pub looked : Result (Look ⊤ ⊤) AllocError → Told
looked answer = told_or_short told_look answer

-- it is answered, or a write goes on
pub patch_looks : (short : Bool) (who : Actor) (number : ℕ) (written : Call) (d : Directory) → is_change written ≡ true
    → IsPatchLook written (at_directory short who number (DirectoryStep.Look (note_of written)) d).1
patch_looks true who number written d e = tt
patch_looks false who number (call.Write name offset content) d e = by (refusal d.max (note_of (call.Write name offset content)) (option_map (λ (object : Object). object.length) (find_object name d.objects)))
  where
    by : (refused : Option Reply) → IsPatchLook (call.Write name offset content) (look_by who number (note_of (call.Write name offset content)) d (find_object name d.objects) refused).1
    by (Some reply) = tt
    by None = (refl, λ put. absurd (cc))
patch_looks false who number (call.Put name content) d e = by (refusal d.max (note_of (call.Put name content)) (option_map (λ (object : Object). object.length) (find_object name d.objects)))
  where
    by : (refused : Option Reply) → IsPatchLook (call.Put name content) (look_by who number (note_of (call.Put name content)) d (find_object name d.objects) refused).1
    by (Some reply) = tt
    by None = (refl, λ put. refl)
patch_looks false who number (call.Delete name) d e = by (refusal d.max (note_of (call.Delete name)) (option_map (λ (object : Object). object.length) (find_object name d.objects)))
  where
    by : (refused : Option Reply) → IsPatchLook (call.Delete name) (look_by who number (note_of (call.Delete name)) d (find_object name d.objects) refused).1
    by (Some reply) = tt
    by None = tt
patch_looks false who number _ d e = absurd (cc)

-- a put has nothing to gather
pub nothing_wanted : (written : Call) (answer : Result (Look ⊤ ⊤) AllocError) → IsPatchLook written (looked answer) → (g : Shape) (size : ℕ) → is_put written ≡ true
    → map (wanted_of g 0 size) (looked_stripes answer) ≡ []
nothing_wanted written (Err e) fits g size put = refl
nothing_wanted written (Ok (look_answer.Answer gone point reply)) fits g size put = refl
nothing_wanted written (Ok (look_answer.Pinned gone point length stripes)) fits g size put = absurd fits
nothing_wanted written (Ok (look_answer.Ready gone base length stripes)) fits g size put = by stripes.items (fits.1 put)
  where
    by : (stripes : List AnswerSeen) → map seen_in stripes ≡ [] → map (wanted_of g 0 size) stripes ≡ []
    by [] e = refl
    by (seen ∷ stripes) e = absurd (cc)

pub if_ready : {P Q : Type 0} (told : Told) → (P → Q) → IfReady told P → IfReady told Q
if_ready (Told.Ready base size stripes) f h = f h
if_ready _ f h = tt

-- ---- what is kept
module _ (a : Inside) (kept : IsPatch a) (old : PatchOf) (view : patch_in a ≡ old) (first : old.call.state.at ≡ State.Start) (seated : IsSeated old.call.token) where
  at_start : state_by a.stage a.gatherings a.writing a.outcome ≡ State.Start
  at_start = ap (λ (p : PatchOf). p.call.state.at) view ∙ first

  seated_here : IsSeated a.ticket
  seated_here = subst (λ (p : PatchOf). IsSeated p.call.token) (sym view) seated

  no_pass : (drawn : List ℕ) → IsHolding a.number (note_of a.call.now) drawn a.ticket → ⊥
  no_pass drawn h = subst IsSeated h.is seated_here

  waits_by : (s : PatchStage) → Keeps s a → state_by s a.gatherings a.writing a.outcome ≡ State.Start → IsWaiting a.number a.ticket
  waits_by stage.Looking k e = k.0
  waits_by stage.Looked k e = absurd (no_pass [] k.0)
  waits_by stage.Gathering k e = absurd (no_pass [] k.0)
  waits_by stage.Ungathered k e =
      let ends : EndsSo (state_in a.gatherings Sequel.Draw) = ungathered_ends a.gatherings k.1 in
      let is : finished_of (state_in a.gatherings Sequel.Draw) ≡ State.Finished (ends.outcome) = ap finished_of ends.is in
      absurd (cc)
  waits_by stage.Writing k e = absurd (subst (HasToken a.number (note_of a.call.now) (versions_of a.writing.stamps) a.ticket) e k.1)
  waits_by stage.GivenUp k e =
      let is : finished_of a.writing.state ≡ State.Finished (k.1.ending) = ap finished_of k.1.is in
      absurd (cc)
  waits_by stage.Ending k e = absurd (cc)
  waits_by stage.Finished k e = absurd (cc)

  pub waits : IsWaiting a.number a.ticket
  waits = waits_by a.stage kept.kept at_start

-- a put draws next, a write gathers
goes_on : (written : Call) (now : Inside) (stripes : List Seen) (left : List Wanted) → IsPatchLook written (Told.Ready None 0 stripes) → now.call.now ≡ written → (is_put written ≡ true → left ≡ [])
    → (h : IsHolding now.number (note_of now.call.now) [] now.ticket) → h.held.pass.pinned ≡ map pin_of stripes → IsFresh now.gatherings → now.gatherings.left ≡ left → now.gatherings.bytes ≡ []
    → Keeps (to_draw written) now
goes_on (call.Write name offset content) now stripes left fits is none h pins fresh rest bytes = (h, fresh, ap is_write is)
goes_on (call.Put name content) now stripes left fits is none h pins fresh rest bytes = (
  h,
  λ write. absurd (not_both now.call.now (ap is_put is) write),
  ap is_drawing is,
  λ put. (
    subst PinsNothing (sym h.is) (pins ∙ ap (map pin_of) (fits.1 refl)),
    record { idle = fresh; none_left = rest ∙ none refl; no_bytes = bytes },
  ),
)
goes_on _ now stripes left fits is none h pins fresh rest bytes = absurd (cc)

-- by the answer
pub look_kept : (told : Told) (a now : Inside) (left : List Wanted) → IsPatchLook a.call.now told → IsLooked a.call.now told now.stage → IsWaiting a.number a.ticket
    → now.ticket ≡ token_after a.ticket a.number (DirectoryStep.Look (note_of a.call.now)) told → now.number ≡ a.number → now.call.now ≡ a.call.now → IfReady told (now.gatherings ≡ begun a.gatherings left)
    → (is_put a.call.now ≡ true → left ≡ []) → Keeps now.stage now
look_kept (Told.Answer point answer) a now left fits goes waiting token number written begins none = by a.ticket waiting token
  where
    by : (t : ActorToken) → IsWaiting a.number t → now.ticket ≡ token_after t a.number (DirectoryStep.Look (note_of a.call.now)) (Told.Answer point answer) → Keeps now.stage now
    by (ActorToken.Seated seat) w e = subst (λ s. Keeps s now) (sym goes) (subst IsSeated (sym e) tt)
    by (ActorToken.InCall held) w e = absurd w
look_kept Told.Short a now left fits goes waiting token number written begins none = by a.ticket waiting token
  where
    by : (t : ActorToken) → IsWaiting a.number t → now.ticket ≡ token_after t a.number (DirectoryStep.Look (note_of a.call.now)) Told.Short → Keeps now.stage now
    by (ActorToken.Seated seat) w e = subst (λ s. Keeps s now) (sym goes) (subst IsSeated (sym e) tt)
    by (ActorToken.InCall held) w e = absurd w
look_kept (Told.Ready base size stripes) a now left fits goes waiting token number written begins none = by a.ticket waiting token
  where
    by : (t : ActorToken) → IsWaiting a.number t → now.ticket ≡ token_after t a.number (DirectoryStep.Look (note_of a.call.now)) (Told.Ready base size stripes) → Keeps now.stage now
    by (ActorToken.Seated seat) w e =
        subst (λ s. Keeps s now) (sym goes)
        (goes_on a.call.now now stripes left fits written none
        (record { held = _; is = e; its = ap note_of (sym written); its_number = sym number; its_drawn = refl })
        refl (ap (λ (p : GatheringsOf). p.current) begins)
        (ap (λ (p : GatheringsOf). p.left) begins) (ap (λ (p : GatheringsOf). p.bytes) begins))
    by (ActorToken.InCall held) w e = absurd w
look_kept _ a now left fits goes waiting token number written begins none = absurd fits

-- ---- the step
no_pairs : (written : Call) (pairs : List (ℕ × ℕ)) (told : Told) → IsPatchLook written told → pairs ≡ pairs_with pairs told
no_pairs written pairs (Told.Answer point answer) h = refl
no_pairs written pairs (Told.Ready base size stripes) h = refl
no_pairs written pairs Told.Short h = refl
no_pairs written pairs _ h = absurd h

directory_undue : (act : Act) (due : Bool) → need_by act due ≡ need.Directory → need_by act false ≡ need.Directory
directory_undue act false e = e
directory_undue (Act.Finish outcome) true e = absurd (cc)
directory_undue (Act.AtDirectory step) true e = refl
directory_undue (Act.AtServer server step) true e = absurd (cc)

looks_first : (g : Shape) (tries : ℕ) (written : Call) (pairs : List (ℕ × ℕ)) → is_change written ≡ true → need_by (act_at g tries (job_of written) pairs State.Start) false ≡ need.Directory
    → act_at g tries (job_of written) pairs State.Start ≡ Act.AtDirectory (DirectoryStep.Look (note_of written))
looks_first g tries (call.Write name offset content) pairs is e = by (nat_lt (length pairs) tries) e
  where
    by : (b : Bool) → need_by (cond b (Act.AtDirectory (DirectoryStep.Look (note_of (call.Write name offset content)))) (Act.Finish (CoreOutcome.Contended pairs))) false ≡ need.Directory
        → cond b (Act.AtDirectory (DirectoryStep.Look (note_of (call.Write name offset content)))) (Act.Finish (CoreOutcome.Contended pairs)) ≡ Act.AtDirectory (DirectoryStep.Look (note_of (call.Write name offset content)))
    by true e = refl
    by false e = absurd (cc)
looks_first g tries (call.Put name content) pairs is e = refl
looks_first g tries (call.Delete name) pairs is e = refl
looks_first g tries _ pairs is e = absurd (cc)

module _ (a : Inside) (kept : IsPatch a) (old : PatchOf) (view : patch_in a ≡ old) (first : old.call.state.at ≡ State.Start) (needs : need_of old.call ≡ need.Directory) where
  start_here : (patch_in a).call.state.at ≡ State.Start
  start_here = ap (λ (p : PatchOf). p.call.state.at) view ∙ first

  pub looks_here : act_of (patch_in a).call ≡ Act.AtDirectory (DirectoryStep.Look (note_of a.call.now))
  looks_here =
      ap (λ at. act_at a.opening.geometry a.tries (job_of a.call.now) (pairs_in a.changes.items) at) start_here
      ∙ looks_first a.opening.geometry a.tries a.call.now (pairs_in a.changes.items) kept.change
      (directory_undue (act_at a.opening.geometry a.tries (job_of a.call.now) (pairs_in a.changes.items) State.Start) (due_by a.stage a.gatherings a.writing)
      (ap (λ at. need_by (act_at a.opening.geometry a.tries (job_of a.call.now) (pairs_in a.changes.items) at) (due_by a.stage a.gatherings a.writing)) (sym start_here)
      ∙ ap (λ (p : PatchOf). need_of p.call) view ∙ needs))

  pub look_step : (told : Told) → IsPatchLook a.call.now told → (short due : Bool) (before after : Directory) → (after, told) ≡ at_directory short (actor_of a.ticket) a.number (DirectoryStep.Look (note_of a.call.now)) before
      → (token : ActorToken) → token ≡ token_after a.ticket a.number (DirectoryStep.Look (note_of a.call.now)) told
      → (at : State) → at ≡ open_state a.gatherings.book.geometry (start_after a.gatherings.book.geometry (note_of a.call.now).kind (job_of a.call.now) told)
      → (takes : List ℕ) → takes ≡ a.gatherings.takes
      → (after, record ((patch_in a).call) { token = token; state = call_at (pairs_in a.changes.items) at; takes = takes; due = due; coding = false; step = short }) ≡ stepped_at_directory short due old.call before
  look_step told fits short due before after made token token_is at at_is takes takes_is =
      let states : call_at (pairs_in a.changes.items) at ≡ next_call a.opening.geometry (job_of a.call.now) ((patch_in a).call.state) told
      = (λ i. record {
        pairs = no_pairs a.call.now (pairs_in a.changes.items) told fits i;
        at = (at_is ∙ ap (λ (book : BookOf). open_state book.geometry (start_after book.geometry (note_of a.call.now).kind (job_of a.call.now) told)) kept.book) i;
      })
      ∙ ap (λ at. next_call a.opening.geometry (job_of a.call.now) (call_at (pairs_in a.changes.items) at) told) (sym start_here) in
      (λ i. (after, record ((patch_in a).call) { token = token; state = call_at (pairs_in a.changes.items) at; takes = takes_is i; due = due; coding = false; step = short }))
      ∙ directory_step (patch_in a).call (DirectoryStep.Look (note_of a.call.now)) short due before after told token (call_at (pairs_in a.changes.items) at) looks_here made token_is states
      ∙ ap (λ (p : PatchOf). stepped_at_directory short due p.call before) view
