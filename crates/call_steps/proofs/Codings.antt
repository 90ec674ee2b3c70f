-- A machine after the coding before its next step.
use Rattle.std.proofs.Common.{◌≡◌, ℕ, Bool, true, false, List, [], ◌∷◌, length, nat_lt, cond, ◌&&◌, IsTrue, refl, sym, ap, subst, ◌∙◌, true≢false}
use Rattle.clay_grid.specs.Shape.{Shape}
use Rattle.store_core.specs.Told.{Told}
use Rattle.store_core.specs.Note.{Kind}
use Rattle.store_core.specs.Act.{Act, DirectoryStep, Outcome}
use Rattle.store_core.specs.ActPlace.{is_in_pass}
use Rattle.store_core.specs.Gathering.{Part}
use Rattle.store_core.specs.NextAct.{Job}
use Rattle.store_core.specs.Step.{told_first}
use Rattle.store_core.specs.Work.{Calling}
use Rattle.run_laws.specs.Stage.{Aim, Asking, Stage}
use Rattle.run_laws.specs.Stages.{first_stage}
use Rattle.run_laws.specs.StageAfter.{stage_after}
use Rattle.run_laws.specs.State.{Sequel, State}
use Rattle.run_laws.specs.States.{parts_state, stage_state, open_call}
use Rattle.run_laws.specs.GatherAfter.{sequel_after, first_after, parts_after}
use Rattle.run_laws.specs.CallLaws.{next_call_from}
use Rattle.run_laws.specs.StateActs.{start_act, act_at, act_of_state}
use Rattle.call_steps.specs.CallOf.{CallOf, act_of}
use Rattle.call_steps.specs.Steps.{coded, IsDueInPass}
use Rattle.call_steps.specs.Stands.{Stands}
use Rattle.call_steps.specs.Ready.{ready, actor_coded}
use Rattle.call_steps.specs.StandLaws.{ActsStand}
use Rattle.call_steps.proofs.Acts.{acts_now}
use Rattle.call_steps.proofs.Hears.{state_heard}

-- ---- it stands for the actor that was told of the coding first
module _ (g : Shape) (tries : ℕ) (job : Job) (actor : Calling) (c : CallOf) (stands : Stands g tries job actor c) where
  -- the actor that is told so
  abbrev pub told_so : Bool → Bool → Calling
  told_so wanting has_pass = record actor { told = told_first wanting has_pass g job actor.told }

  -- memory was wanting in a coding on the pass
  stands_short : Stands g tries job (told_so true true) (coded true c)
  stands_short =
      record { shape = stands.shape; tries = stands.tries; job = stands.job; number = stands.number; state = state_heard g tries job actor actor.told c stands Told.Short tt; takes = stands.takes }

  -- it was not
  stands_coded : (has_pass : Bool) → Stands g tries job (told_so false has_pass) (coded false c)
  stands_coded has_pass = record { shape = stands.shape; tries = stands.tries; job = stands.job; number = stands.number; state = stands.state; takes = stands.takes }

  -- by whether a coding was due
  by_due : (due coding has_pass : Bool) → (due ≡ true → has_pass ≡ true) → Stands g tries job (told_so (due && coding) has_pass) (cond due (coded coding c) c)
  by_due false coding has_pass in_pass = stands
  by_due true false has_pass in_pass = stands_coded has_pass
  by_due true true has_pass in_pass = subst (λ (has : Bool). Stands g tries job (told_so true has) (coded true c)) (sym (in_pass refl)) stands_short

  pub stands_ready : (coding : Bool) → IsDueInPass c → Stands g tries job (actor_coded g job coding c actor) (ready coding c)
  stands_ready coding in_pass = by_due c.due coding (is_in_pass (act_of c)) in_pass

-- ---- want of memory in a coding leads to the end of the pass
start_no_pass : (kind : Kind) (tries : ℕ) (job : Job) (pairs : List (ℕ × ℕ)) → IsTrue (is_in_pass (start_act kind tries job pairs)) → ⊥
start_no_pass Kind.Write tries job pairs h = by (nat_lt (length pairs) tries) h
  where
    by : (b : Bool) → IsTrue (is_in_pass (cond b (Act.AtDirectory (DirectoryStep.Look job.note)) (Act.Finish (Outcome.Contended pairs)))) → ⊥
    by true h = true≢false (sym h)
    by false h = true≢false (sym h)
start_no_pass Kind.Put tries job pairs h = true≢false (sym h)
start_no_pass Kind.Get tries job pairs h = true≢false (sym h)
start_no_pass Kind.ReadAt tries job pairs h = true≢false (sym h)
start_no_pass Kind.Stat tries job pairs h = true≢false (sym h)
start_no_pass Kind.Delete tries job pairs h = true≢false (sym h)
start_no_pass Kind.Rebuild tries job pairs h = true≢false (sym h)

module _ (g : Shape) (job : Job) where
  -- a gathering
  asked_short : (aim : Aim) (asking : Asking) → stage_after g aim asking Told.Short ≡ Stage.Short
  asked_short aim (Asking.Fetch server more missing) = refl
  asked_short aim (Asking.Look server more missing) = refl
  asked_short aim (Asking.Repair server more lost) = refl
  asked_short aim (Asking.Whole server more wanted missing) = refl
  asked_short aim (Asking.Target server) = refl

  gather_short : (bytes : State) (aim : Aim) (asking : Asking) (parts : List Part) (after : Sequel)
      → stage_state bytes aim parts after (stage_after g aim asking Told.Short) ≡ State.Ending Outcome.NoMemory
  gather_short bytes aim asking parts after = ap (stage_state bytes aim parts after) (asked_short aim asking)

  first_short : (bytes : State) (aim : Aim) (parts : List Part) (after : Sequel) (stage : Stage) → bytes ≡ State.Ending Outcome.NoMemory
      → first_after g bytes aim parts after stage Told.Short ≡ State.Ending Outcome.NoMemory
  first_short bytes aim parts after (Stage.Asks asking) e = gather_short (parts_state parts after) aim asking parts after
  first_short bytes aim parts after Stage.HasBytes e = e
  first_short bytes aim parts after (Stage.TooMany missing) e = refl
  first_short bytes aim parts after Stage.AtTarget e = refl
  first_short bytes aim parts after (Stage.TargetAway downs) e = refl
  first_short bytes aim parts after Stage.Short e = refl

  -- parts that are gathered next
  sequel_short : (after : Sequel) → sequel_after g job.note after Told.Short ≡ State.Ending Outcome.NoMemory
  sequel_short (Sequel.Serve point) = refl
  sequel_short Sequel.Draw = refl
  sequel_short (Sequel.Confirm seen target) = refl

  parts_short : (parts : List Part) (after : Sequel) → parts_after g job.note parts after Told.Short ≡ State.Ending Outcome.NoMemory
  parts_short [] after = sequel_short after
  parts_short (part ∷ parts) after =
      first_short (parts_after g job.note parts after Told.Short) (Aim.Range part) parts after (first_stage g (Aim.Range part)) (parts_short parts after)

  -- the act of a call that ends its pass
  ended_next : (tries : ℕ) (pairs : List (ℕ × ℕ)) (at : State) → at ≡ State.Ending Outcome.NoMemory
      → act_of_state g tries job (open_call g (record { pairs = pairs; at = at })) ≡ Act.AtDirectory DirectoryStep.End
  ended_next tries pairs at e = ap (λ (s : State). act_of_state g tries job (open_call g (record { pairs = pairs; at = s }))) e

  -- at each state with a pass
  short_ends : (kind : Kind) (tries : ℕ) (pairs : List (ℕ × ℕ)) (at : State) → IsTrue (is_in_pass (act_at g tries job pairs at))
      → act_of_state g tries job (next_call_from g kind job pairs at Told.Short) ≡ Act.AtDirectory DirectoryStep.End
  short_ends kind tries pairs State.Start h = absurd (start_no_pass job.note.kind tries job pairs h)
  short_ends kind tries pairs (State.Parts part parts after) h =
      ended_next tries pairs (parts_after g job.note (part ∷ parts) after Told.Short) (parts_short (part ∷ parts) after)
  short_ends kind tries pairs (State.Gather aim asking parts after) h =
      ended_next tries pairs (stage_state (parts_state parts after) aim parts after (stage_after g aim asking Told.Short)) (gather_short (parts_state parts after) aim asking parts after)
  short_ends kind tries pairs (State.Chunk seen target) h = refl
  short_ends kind tries pairs State.Drawing h = refl
  short_ends kind tries pairs (State.Preparing stripe version server servers row later placed versions) h = refl
  short_ends kind tries pairs (State.Committing versions placed) h = refl
  short_ends kind tries pairs (State.Committed versions) h = absurd (true≢false (sym h))
  short_ends kind tries pairs (State.Settling point place places) h = absurd (true≢false (sym h))
  short_ends kind tries pairs (State.Confirming seen target) h = refl
  short_ends kind tries pairs (State.Installing seen target) h = refl
  short_ends kind tries pairs (State.Placing target epoch) h = refl
  short_ends kind tries pairs (State.Ending outcome) h = refl
  short_ends kind tries pairs (State.Finished outcome) h = absurd (true≢false (sym h))

-- so it is of a machine
wanting_ends : (c : CallOf) → c.due ≡ true → IsDueInPass c → act_of (ready true c) ≡ Act.AtDirectory DirectoryStep.End
wanting_ends c due in_pass =
    ap (λ (b : Bool). act_of (cond b (coded true c) c)) due
    ∙ short_ends c.book.geometry c.job c.job.note.kind c.tries c.state.pairs c.state.at (in_pass due)

-- all laws on acts
pub acts_stand : ActsStand
acts_stand =
    record {
      now = acts_now;
      coded = λ g tries job actor c coding stands in_pass. stands_ready g tries job actor c stands coding in_pass;
      next = λ g tries job actor c coding stands in_pass.
          acts_now g tries job (actor_coded g job coding c actor) (ready coding c) (stands_ready g tries job actor c stands coding in_pass);
      wanting = wanting_ends;
    }
