-- What a call does next that stands in a writing.
use Rattle.std.proofs.Common.{◌≡◌, ℕ, Bool, true, false, List, None, Some, refl, ap, subst, sym, ◌∙◌, true≢false}
use Rattle.std.proofs.lemmas.Option.{none-some, same_Some}
use Rattle.clay_grid.specs.Shape.{Shape}
use Rattle.store_core.specs.NextAct.{Job}
use Rattle.run_laws.specs.State.{State}
use Rattle.run_laws.specs.StateActs.{act_at}
use Rattle.call_steps.specs.declared.act.Act.TheVariants as act
use Rattle.call_steps.specs.declared.act.DirectoryAct.TheVariants as there
use Rattle.call_steps.specs.declared.act.ServerAct.{ServerAct}
use Rattle.call_steps.specs.Acts.{act_by}
use Rattle.call_steps.specs.Ends.{IsStanding}
use Rattle.write_course.specs.Writings.{WritingOf, is_preparing, is_settling, question_of}
use Rattle.write_course.specs.WritingSteps.{IsDoing}
use Rattle.write_course.specs.declared.writing_stage.WritingStage.{WritingStage}
use Rattle.write_course.specs.declared.writing_stage.WritingStage.TheVariants as doing

-- a server is asked where a chunk is prepared or settled
prepares_not : (at : State) → is_preparing at ≡ true → None ≡ question_of at → ⊥
prepares_not (State.Preparing stripe version server servers row later placed versions) is none = none-some _ none
prepares_not at is none = true≢false (sym is)

settles_not : (at : State) → is_settling at ≡ true → None ≡ question_of at → ⊥
settles_not (State.Settling point place places) is none = none-some _ none
settles_not at is none = true≢false (sym is)

module _ (g : Shape) (tries : ℕ) (job : Job) (pairs : List (ℕ × ℕ)) where
  -- a server keeps a chunk, or settles it
  pub asking_acts : (at : State) (due : Bool) (server : ℕ) (step : ServerAct) → due ≡ false → Some (server, step) ≡ question_of at
      → act.Server server step ≡ act_by (act_at g tries job pairs at) due
  asking_acts (State.Preparing stripe version asked servers row later placed versions) due server step undue asks =
      ap (λ (q : ℕ × ServerAct). act.Server q.0 q.1) (same_Some (server, step) _ asks) ∙ ap (act_by (act_at g tries job pairs (State.Preparing stripe version asked servers row later placed versions))) (sym undue)
  asking_acts (State.Settling point place places) due server step undue asks =
      ap (λ (q : ℕ × ServerAct). act.Server q.0 q.1) (same_Some (server, step) _ asks) ∙ ap (act_by (act_at g tries job pairs (State.Settling point place places))) (sym undue)
  asking_acts at due server step undue asks = absurd (none-some (server, step) (sym asks))

  -- the call is over, or commits
  pub done_acts : (w : WritingOf) (due : Bool) → due ≡ false → IsDoing doing.Done w → act.Finished ≡ act_by (act_at g tries job pairs w.state) due
  done_acts w due undue is = (λ i. act_by (act_at g tries job pairs (sym is.1 i)) (sym undue i))

  pub commit_acts : (w : WritingOf) (due : Bool) → due ≡ false → IsDoing doing.Committing w
      → act.Directory there.Commit ≡ act_by (act_at g tries job pairs w.state) due
  commit_acts w due undue is = (λ i. act_by (act_at g tries job pairs (sym is.1 i)) (sym undue i))

  -- or ends its pass
  ends_at : (at other : State) (due : Bool) → due ≡ false → at ≡ other → act.Directory there.End ≡ act_by (act_at g tries job pairs other) false
      → act.Directory there.End ≡ act_by (act_at g tries job pairs at) due
  ends_at at other due undue is ends = ends ∙ (λ i. act_by (act_at g tries job pairs (sym is i)) (sym undue i))

  pub end_acts : (w : WritingOf) (due : Bool) (d : WritingStage) → due ≡ false → IsDoing d w → (d ≡ doing.Done → ⊥) → (d ≡ doing.Committing → ⊥)
      → IsStanding w.state → None ≡ question_of w.state → act.Directory there.End ≡ act_by (act_at g tries job pairs w.state) due
  end_acts w due doing.Preparing undue is undone uncommitted stands none = absurd (prepares_not w.state is none)
  end_acts w due doing.Settling undue is undone uncommitted stands none = absurd (settles_not w.state is none)
  end_acts w due doing.Committing undue is undone uncommitted stands none = absurd (uncommitted refl)
  end_acts w due doing.Committed undue is undone uncommitted stands none = absurd (subst IsStanding is stands)
  end_acts w due doing.Done undue is undone uncommitted stands none = absurd (undone refl)
  end_acts w due doing.TooManyAway undue is undone uncommitted stands none = ends_at w.state _ due undue is.2 refl
  end_acts w due doing.Short undue is undone uncommitted stands none = ends_at w.state _ due undue is refl
