-- A pass that a rebuild holds is its own.
use Rattle.std.proofs.Common.{◌≡◌, ℕ, Bool, true, false, List, refl, sym, ap, subst, true≢false}
use Rattle.std.specs.Prelude.{⊤}
use Rattle.clay_grid.specs.Shape.{Shape}
use Rattle.store_core.specs.Note.{Note, note_of_rebuild}
use Rattle.store_core.specs.NextAct.{Job}
use Rattle.store_core.specs.Agreement.{ActorToken}
use Rattle.run_laws.specs.State.{State}
use Rattle.run_laws.specs.StateActs.{act_at}
use Rattle.call_steps.specs.declared.need.Need.{Need}
use Rattle.call_steps.specs.declared.need.Need.TheVariants as need
use Rattle.call_steps.specs.TokenAfter.{IsSeated, IfInCall}
use Rattle.call_steps.specs.CallOf.{CallOf}
use Rattle.call_steps.specs.Steps.{need_by, HoldsItsPass}
use Rattle.repairer.specs.declared.stage.RepairStage.{RepairStage}
use Rattle.repairer.specs.declared.stage.RepairStage.TheVariants as stage
use Rattle.repairer.specs.declared.repair_call.RepairCall.TheInside.{Inside}
use Rattle.repairer.specs.Standing.{stage_of}
use Rattle.repairer.specs.Inside.{call_by, call_in}
use Rattle.repairer.specs.Parts.{IsOfCall, MayStart}
use Rattle.repairer.specs.Kept.{Keeps, IsRepair}
use Rattle.repairer.proofs.Stages.{shown}

-- a stage in its pass
abbrev IsIn : RepairStage → Type 0
IsIn stage.Start = ⊥
IsIn stage.Finished = ⊥
IsIn at = ⊤

abbrev is_finished : Need → Bool
is_finished need.Finished = true
is_finished other = false

-- there it isn't over
goes : (g : Shape) (tries : ℕ) (job : Job) (pairs : List (ℕ × ℕ)) (at : State) → IsIn (stage_of at) → need_by (act_at g tries job pairs at) false ≡ need.Finished → ⊥
goes g tries job pairs (State.Gather aim asking parts after) is e = true≢false (sym (ap is_finished e))
goes g tries job pairs (State.Confirming seen target) is e = true≢false (sym (ap is_finished e))
goes g tries job pairs (State.Installing seen target) is e = true≢false (sym (ap is_finished e))
goes g tries job pairs (State.Placing target epoch) is e = true≢false (sym (ap is_finished e))
goes g tries job pairs (State.Ending outcome) is e = true≢false (sym (ap is_finished e))
goes g tries job pairs at is e = absurd is

in_pass : (c : CallOf) → IsOfCall c.token c.number c.job.note → IsIn (stage_of c.state.at) → HoldsItsPass c
in_pass c its is = by c.token refl its
  where
    by : (token : ActorToken) → c.token ≡ token → IsOfCall token c.number c.job.note → HoldsItsPass c
    by (ActorToken.Seated seat) at its = absurd its
    by (ActorToken.InCall held) at its =
        record {
          its = subst (λ (t : ActorToken). IfInCall t (λ held. (held.pass.note ≡ c.job.note) × (held.pass.number ≡ c.number))) (sym at) (its.1, its.0);
          none = λ e. absurd (goes c.book.geometry c.tries c.job c.state.pairs c.state.at is e);
        }

-- a call of an actor that is in no call
seated : (c : CallOf) → IsSeated c.token → HoldsItsPass c
seated c is = by c.token refl is
  where
    by : (token : ActorToken) → c.token ≡ token → IsSeated token → HoldsItsPass c
    by (ActorToken.Seated seat) at is =
        record {
          its = subst (λ (t : ActorToken). IfInCall t (λ held. (held.pass.note ≡ c.job.note) × (held.pass.number ≡ c.number))) (sym at) tt;
          none = λ _. subst IsSeated (sym at) tt;
        }
    by (ActorToken.InCall held) at is = absurd is

starts : (token : ActorToken) (number : ℕ) (note : Note) → MayStart token number note → IsSeated token
starts (ActorToken.Seated seat) number note may = tt
starts (ActorToken.InCall held) number note may = absurd may

by_stage : (a : Inside) (at : RepairStage) → Keeps at a → HoldsItsPass (call_by at a)
by_stage a stage.Start kept = seated (call_by stage.Start a) (starts a.ticket a.number (note_of_rebuild a.rebuild.now) kept.may)
by_stage a stage.Gathering kept = in_pass (call_by stage.Gathering a) kept.0 (subst IsIn (sym (shown a stage.Gathering kept)) tt)
by_stage a stage.Confirming kept = in_pass (call_by stage.Confirming a) kept.0 tt
by_stage a stage.Installing kept = in_pass (call_by stage.Installing a) kept.0 tt
by_stage a stage.Placing kept = in_pass (call_by stage.Placing a) kept.0 tt
by_stage a stage.Ending kept = in_pass (call_by stage.Ending a) kept.0 tt
by_stage a stage.Finished kept = seated (call_by stage.Finished a) kept.0

pub holds : (a : Inside) (c : CallOf) → IsRepair a → call_in a ≡ c → HoldsItsPass c
holds a c is view = subst HoldsItsPass view (by_stage a a.stage is.kept)
