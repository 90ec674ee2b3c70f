-- What a call does next, by its stage.
use Rattle.std.specs.Prelude.{IsTrue}
use Rattle.std.proofs.Common.{◌≡◌, ◌<◌, ◌≤◌, ◌⊎◌, ℕ, nat_lt, Bool, true, false, cond, List, [], length, inl, inr, refl, sym, ap, subst, ◌∙◌, arith, true≢false}
use Rattle.std.proofs.lemmas.Bool.{ltb-true, ltb-false}
use Rattle.std.proofs.lemmas.List.{length-map}
use Rattle.clay_grid.specs.Shape.{Shape}
use Rattle.store_map.specs.declared.call.Call.{Call}
use Rattle.store_map.specs.declared.call.Call.TheVariants as call
use Rattle.store_core.specs.Note.{note_of}
use Rattle.store_core.specs.Act.{Act as CoreAct, DirectoryStep, Outcome}
use Rattle.store_core.specs.ActPlace.{is_in_pass}
use Rattle.store_core.specs.NextAct.{job_of}
use Rattle.run_laws.specs.State.{Sequel, State}
use Rattle.run_laws.specs.StateActs.{act_at}
use Rattle.call_steps.specs.declared.act.Act.{Act}
use Rattle.call_steps.specs.declared.act.Act.TheVariants as act
use Rattle.call_steps.specs.declared.act.DirectoryAct.TheVariants as there
use Rattle.call_steps.specs.declared.outcomes.Change.{Change}
use Rattle.call_steps.specs.Acts.{act_by, act_now}
use Rattle.call_steps.specs.CallOf.{CallOf, act_of}
use Rattle.call_steps.specs.Ends.{finished_of}
use Rattle.gather_parts.specs.States.{state_in}
use Rattle.gather_parts.proofs.Handing.{stands_in_pass}
use Rattle.client_patch.specs.Patches.{PatchOf, is_change, is_write}
use Rattle.client_patch.specs.Stages.{state_by, due_by}
use Rattle.client_patch.specs.Inside.{pairs_in, patch_in, Keeps, IsPatch}
use Rattle.client_patch.specs.declared.patch.PatchCall.TheInside.{Inside}
use Rattle.client_patch.specs.declared.patch_stage.PatchStage.{PatchStage}
use Rattle.client_patch.specs.declared.patch_stage.PatchStage.TheVariants as stage
use Rattle.client_patch.proofs.Gathered.{EndsSo, ungathered_ends}
use Rattle.client_patch.proofs.Standings.{gathers}

-- a look, while a try is left
looks_by : (g : Shape) (tries : ℕ) (pairs : List (ℕ × ℕ)) (written : Call) → is_change written ≡ true → nat_lt (length pairs) tries ≡ true
    → act_at g tries (job_of written) pairs State.Start ≡ CoreAct.AtDirectory (DirectoryStep.Look (note_of written))
looks_by g tries pairs (call.Write name offset content) is left =
    ap (λ b. cond b (CoreAct.AtDirectory (DirectoryStep.Look (note_of (call.Write name offset content)))) (CoreAct.Finish (Outcome.Contended pairs))) left
looks_by g tries pairs (call.Put name content) is left = refl
looks_by g tries pairs (call.Delete name) is left = refl
looks_by g tries pairs (call.Get name) is left = absurd (true≢false (sym is))
looks_by g tries pairs (call.ReadAt name offset count) is left = absurd (true≢false (sym is))
looks_by g tries pairs (call.Stat name) is left = absurd (true≢false (sym is))

-- of a write the end, once none is
tried_by : (g : Shape) (tries : ℕ) (pairs : List (ℕ × ℕ)) (written : Call) → is_write written ≡ true → nat_lt (length pairs) tries ≡ false
    → act_at g tries (job_of written) pairs State.Start ≡ CoreAct.Finish (Outcome.Contended pairs)
tried_by g tries pairs (call.Write name offset content) is none =
    ap (λ b. cond b (CoreAct.AtDirectory (DirectoryStep.Look (note_of (call.Write name offset content)))) (CoreAct.Finish (Outcome.Contended pairs))) none
tried_by g tries pairs (call.Put name content) is none = absurd (true≢false (sym is))
tried_by g tries pairs (call.Delete name) is none = absurd (true≢false (sym is))
tried_by g tries pairs (call.Get name) is none = absurd (true≢false (sym is))
tried_by g tries pairs (call.ReadAt name offset count) is none = absurd (true≢false (sym is))
tried_by g tries pairs (call.Stat name) is none = absurd (true≢false (sym is))

-- a coding before a step on the pass
codes_by : (core : CoreAct) → IsTrue (is_in_pass core) → act.Coding ≡ act_by core true
codes_by (CoreAct.AtDirectory step) passes = refl
codes_by (CoreAct.AtServer server step) passes = refl
codes_by (CoreAct.Finish outcome) passes = absurd (true≢false (sym passes))

module _ (a : Inside) (p : PatchOf) (is : IsPatch a) (view : patch_in a ≡ p) where
  abbrev pub act_in : PatchStage → CoreAct
  act_in now = act_at a.opening.geometry a.tries (job_of a.call.now) (pairs_in a.changes.items) (state_by now a.gatherings a.writing a.outcome)

  pub seen_at : (now : PatchStage) → a.stage ≡ now → act_by (act_in now) (due_by now a.gatherings a.writing) ≡ act_now p.call
  seen_at now at = ap (λ s. act_by (act_in s) (due_by s a.gatherings a.writing)) (sym at) ∙ ap (λ (x : PatchOf). act_now x.call) view

  keeps : (now : PatchStage) → a.stage ≡ now → Keeps now a
  keeps now at = subst (λ s. Keeps s a) at is.kept

  pairs_count : length (pairs_in a.changes.items) ≡ length a.changes.items
  pairs_count = length-map a.changes.items (λ change. (change.looked_at.0, change.newer.0))

  pub looks : a.stage ≡ stage.Looking → length a.changes.items < a.tries → act.Directory there.Look ≡ act_now p.call
  looks at left = by (nat_lt (length (pairs_in a.changes.items)) a.tries) refl
    where
      by : (b : Bool) → nat_lt (length (pairs_in a.changes.items)) a.tries ≡ b → act.Directory there.Look ≡ act_now p.call
      by true e = ap (λ x. act_by x false) (sym (looks_by a.opening.geometry a.tries (pairs_in a.changes.items) a.call.now is.change e)) ∙ seen_at stage.Looking at
      by false e = absurd (omega (arith, ltb-false (length (pairs_in a.changes.items)) a.tries e, pairs_count, left))

  pub tried : a.stage ≡ stage.Looking → a.tries ≤ length a.changes.items → act.Finished ≡ act_now p.call
  tried at none = or (keeps stage.Looking at).1
    where
      by : is_write a.call.now ≡ true → (b : Bool) → nat_lt (length (pairs_in a.changes.items)) a.tries ≡ b → act.Finished ≡ act_now p.call
      by write true e = absurd (omega (arith, ltb-true (length (pairs_in a.changes.items)) a.tries e, pairs_count, none))
      by write false e =
          ap (λ x. act_by x false) (sym (tried_by a.opening.geometry a.tries (pairs_in a.changes.items) a.call.now write e)) ∙ seen_at stage.Looking at

      or : (is_write a.call.now ≡ true) ⊎ (a.changes.items ≡ []) → act.Finished ≡ act_now p.call
      or (inl write) = by write (nat_lt (length (pairs_in a.changes.items)) a.tries) refl
      or (inr empty) = let count : length a.changes.items ≡ 0 = ap length empty in absurd (omega (arith, count, none, is.tries))

  pub codes : a.stage ≡ stage.Looked → act.Coding ≡ act_now p.call
  codes at =
      codes_by (act_of (patch_in a).call)
      (stands_in_pass (patch_in a).call a.gatherings Sequel.Draw (gathers a is (ap (λ s. state_by s a.gatherings a.writing a.outcome) at)))
      ∙ ap (λ s. act_by (act_in a.stage) (due_by s a.gatherings a.writing)) (sym at)
      ∙ ap (λ (x : PatchOf). act_now x.call) view

  pub ends : a.stage ≡ stage.Ending → act.Directory there.End ≡ act_now p.call
  ends at = seen_at stage.Ending at

  pub ungathered : a.stage ≡ stage.Ungathered → act.Finished ≡ act_now p.call
  ungathered at =
      let ends : EndsSo (state_in a.gatherings Sequel.Draw) = ungathered_ends a.gatherings (keeps stage.Ungathered at).1 in
      ap (λ s. act_by (act_at a.opening.geometry a.tries (job_of a.call.now) (pairs_in a.changes.items) (finished_of s)) false) (sym ends.is)
      ∙ seen_at stage.Ungathered at

  pub given_up : a.stage ≡ stage.GivenUp → act.Finished ≡ act_now p.call
  given_up at =
      ap (λ s. act_by (act_at a.opening.geometry a.tries (job_of a.call.now) (pairs_in a.changes.items) (finished_of s)) false) (sym (keeps stage.GivenUp at).1.is)
      ∙ seen_at stage.GivenUp at

  pub finished : a.stage ≡ stage.Finished → act.Finished ≡ act_now p.call
  finished at = seen_at stage.Finished at
