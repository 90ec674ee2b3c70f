-- A call's steps at servers.
use Rattle.std.proofs.Common.{◌≡◌, ℕ, Bool, true, false, cond, nat_lt, List, length, refl, ap}
use Rattle.clay_grid.specs.Shape.{Shape}
use Rattle.store_core.specs.Note.{Kind}
use Rattle.store_core.specs.Act.{Act, DirectoryStep, Outcome as CoreOutcome}
use Rattle.store_core.specs.NextAct.{Job}
use Rattle.run_laws.specs.State.{Sequel}
use Rattle.run_laws.specs.StateActs.{start_act, act_at}
use Rattle.call_steps.specs.declared.need.Need.TheVariants as need
use Rattle.call_steps.specs.Steps.{need_by}
use Rattle.gather_parts.specs.States.{state_in}
use Rattle.client_patch.specs.Stages.{state_by, due_by}
use Rattle.call_steps.specs.Ends.{finished_of}
use Rattle.client_patch.specs.Inside.{Keeps}
use Rattle.client_patch.specs.declared.patch.PatchCall.TheInside.{Inside}
use Rattle.client_patch.specs.declared.patch_stage.PatchStage.{PatchStage}
use Rattle.client_patch.specs.declared.patch_stage.PatchStage.TheVariants as stage
use Rattle.client_patch.proofs.Gathered.{EndsSo, ungathered_ends}

-- a look needs no server, nor the coder
module _ (tries : ℕ) (job : Job) (pairs : List (ℕ × ℕ)) where
  start_needs : (kind : Kind) (server : ℕ) → need_by (start_act kind tries job pairs) false ≡ need.Server server → ⊥
  start_needs Kind.Write server e = by (nat_lt (length pairs) tries) e
    where
      by : (b : Bool) → need_by (cond b (Act.AtDirectory (DirectoryStep.Look job.note)) (Act.Finish (CoreOutcome.Contended pairs))) false ≡ need.Server server → ⊥
      by true e = cc
      by false e = cc
  start_needs Kind.Rebuild server e = cc
  start_needs _ server e = cc

  pub start_undue : (kind : Kind) → need_by (start_act kind tries job pairs) false ≡ need.Coder → ⊥
  start_undue Kind.Write e = by (nat_lt (length pairs) tries) e
    where
      by : (b : Bool) → need_by (cond b (Act.AtDirectory (DirectoryStep.Look job.note)) (Act.Finish (CoreOutcome.Contended pairs))) false ≡ need.Coder → ⊥
      by true e = cc
      by false e = cc
  start_undue Kind.Rebuild e = cc
  start_undue _ e = cc

no_server : (act : Act) (server : ℕ) → need_by act true ≡ need.Server server → ⊥
no_server (Act.Finish outcome) server e = cc
no_server (Act.AtDirectory step) server e = cc
no_server (Act.AtServer other step) server e = cc

module _ (g : Shape) (tries : ℕ) (job : Job) (pairs : List (ℕ × ℕ)) where
  module _ (a : Inside) where
    -- a call that needs a server and doesn't gather writes
    pub writes_at_server : (s : PatchStage) (server : ℕ) → Keeps s a → (s ≡ stage.Gathering → ⊥)
        → need_by (act_at g tries job pairs (state_by s a.gatherings a.writing a.outcome)) (due_by s a.gatherings a.writing) ≡ need.Server server → s ≡ stage.Writing
    writes_at_server stage.Looking server k other e = absurd (start_needs tries job pairs job.note.kind server e)
    writes_at_server stage.Looked server k other e = absurd (no_server (act_at g tries job pairs (state_in a.gatherings Sequel.Draw)) server e)
    writes_at_server stage.Gathering server k other e = absurd (other refl)
    writes_at_server stage.Ungathered server k other e =
        let ends : EndsSo (state_in a.gatherings Sequel.Draw) = ungathered_ends a.gatherings k.1 in
        let over : need_by (act_at g tries job pairs (finished_of (state_in a.gatherings Sequel.Draw))) false ≡ need.Finished = ap (λ at. need_by (act_at g tries job pairs (finished_of at)) false) ends.is in
        absurd (cc)
    writes_at_server stage.Writing server k other e = refl
    writes_at_server stage.GivenUp server k other e =
        let over : need_by (act_at g tries job pairs (finished_of a.writing.state)) false ≡ need.Finished = ap (λ at. need_by (act_at g tries job pairs (finished_of at)) false) k.1.is in
        absurd (cc)
    writes_at_server stage.Ending server k other e = absurd (cc)
    writes_at_server stage.Finished server k other e = absurd (cc)
