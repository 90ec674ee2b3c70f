-- The point of a call.
use Rattle.std.proofs.Common.{◌≡◌, None, refl, sym, ap, ◌∙◌}
use Rattle.run_laws.specs.State.{Sequel}
use Rattle.gather_parts.specs.States.{state_in}
use Rattle.call_steps.specs.Ends.{point_of, finished_of}
use Rattle.client_patch.specs.Stages.{state_by}
use Rattle.client_patch.specs.Inside.{Keeps}
use Rattle.client_patch.specs.declared.patch.PatchCall.TheInside.{Inside}
use Rattle.client_patch.specs.declared.patch_stage.PatchStage.{PatchStage}
use Rattle.client_patch.specs.declared.patch_stage.PatchStage.TheVariants as stage
use Rattle.client_patch.proofs.Gathered.{EndsSo, ungathered_ends, gathering_pointless}

pub no_point : (a : Inside) (s : PatchStage) → Keeps s a → (s ≡ stage.Writing → ⊥) → (s ≡ stage.Finished → ⊥) → None ≡ point_of (state_by s a.gatherings a.writing a.outcome)
no_point a stage.Looking k w f = refl
no_point a stage.Looked k w f = gathering_pointless a.gatherings
no_point a stage.Gathering k w f = gathering_pointless a.gatherings
no_point a stage.Ungathered k w f =
    let ends : EndsSo (state_in a.gatherings Sequel.Draw) = ungathered_ends a.gatherings k.1 in
    sym (ap (λ at. point_of (finished_of at)) ends.is ∙ ends.pointless)
no_point a stage.Writing k w f = absurd (w refl)
no_point a stage.GivenUp k w f = sym (ap (λ at. point_of (finished_of at)) k.1.is ∙ k.1.pointless)
no_point a stage.Ending k w f = refl
no_point a stage.Finished k w f = absurd (f refl)
