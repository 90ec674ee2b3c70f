-- Where a call stands, by what it does next.
use Rattle.std.proofs.Common.{◌≡◌, ℕ, Bool, true, false, [], refl, sym, ap, subst, ◌∙◌}
use Rattle.std.specs.Prelude.{IsTrue}
use Rattle.std.proofs.lemmas.Bool.{true≢false}
use Rattle.store_map.specs.declared.actor.Point.{Point}
use Rattle.store_map.specs.declared.call.Call.{Call}
use Rattle.store_map.specs.declared.call.Call.TheVariants as call
use Rattle.store_core.specs.Note.{Note, note_of}
use Rattle.store_core.specs.NextAct.{Job, job_of}
use Rattle.store_core.specs.Act.{Act, DirectoryStep, Outcome as CoreOutcome}
use Rattle.store_core.specs.ActPlace.{is_in_pass}
use Rattle.store_core.specs.Agreement.{ActorToken}
use Rattle.run_laws.specs.State.{Sequel, State}
use Rattle.run_laws.specs.StateActs.{act_at}
use Rattle.call_steps.specs.declared.need.Need.{Need}
use Rattle.call_steps.specs.declared.need.Need.TheVariants as need
use Rattle.call_steps.specs.CallOf.{CallOf, act_of, tries_by}
use Rattle.call_steps.specs.TokenAfter.{IfInCall, IsSeated}
use Rattle.call_steps.specs.Steps.{need_by, HoldsItsPass}
use Rattle.call_steps.specs.declared.outcomes.Outcome.{Outcome}
use Rattle.gather_parts.specs.declared.progress.Progress.{Progress}
use Rattle.gather_parts.specs.declared.progress.Progress.TheVariants as progress
use Rattle.gather_parts.specs.Gatherings.{GatheringsOf}
use Rattle.gather_parts.specs.Progress.{progress_of, is_due, need_at, IsOver}
use Rattle.gather_parts.specs.States.{state_in, StandsIn}
use Rattle.gather_parts.proofs.Handing.{state_needs, state_in_pass}
use Rattle.gather_parts.proofs.Ended.{over_closes}
use Rattle.client_read.specs.Reads.{is_read}
use Rattle.client_read.specs.Stages.{state_by, due_by, after_end}
use Rattle.call_steps.specs.Ends.{finished_of, is_ending}
use Rattle.call_steps.specs.Callers.{IsWaiting}
use Rattle.client_read.specs.Inside.{IsHolding, Keeps, read_in, IsRead}
use Rattle.client_read.specs.declared.read_call.ReadCall.TheInside.{Inside}
use Rattle.client_read.specs.declared.read_stage.ReadStage.{ReadStage}
use Rattle.client_read.specs.declared.read_stage.ReadStage.TheVariants as stage

-- what a call that reads does first
pub looks_first : (read : Call) (tries : ℕ) → is_read read ≡ true → (g : _) → act_at g tries (job_of read) [] State.Start ≡ Act.AtDirectory (DirectoryStep.Look (note_of read))
looks_first (call.Get name) tries is g = refl
looks_first (call.ReadAt name offset count) tries is g = refl
looks_first (call.Stat name) tries is g = refl
looks_first (call.Put name content) tries is g = absurd (true≢false (sym is))
looks_first (call.Write name offset content) tries is g = absurd (true≢false (sym is))
looks_first (call.Delete name) tries is g = absurd (true≢false (sym is))

abbrev is_finished_need : Need → Bool
is_finished_need need.Finished = true
is_finished_need needed = false

abbrev pub is_server_need : Need → Bool
is_server_need (need.Server server) = true
is_server_need needed = false

abbrev pub is_coder_need : Need → Bool
is_coder_need need.Coder = true
is_coder_need needed = false

abbrev is_directory_need : Need → Bool
is_directory_need need.Directory = true
is_directory_need needed = false

-- a call in its pass isn't over
not_over : (act : Act) → is_in_pass act ≡ true → need_by act false ≡ need.Finished → ⊥
not_over (Act.Finish outcome) inside e = true≢false (sym inside)
not_over (Act.AtDirectory step) inside e = true≢false (sym (ap is_finished_need e))
not_over (Act.AtServer server step) inside e = true≢false (sym (ap is_finished_need e))

-- while it gathers it is in its pass
pub gathering_in_pass : (p : GatheringsOf) (job : Job) (point : ℕ) → is_in_pass (act_at p.book.geometry (tries_by p.book.script) job [] (state_in p (Sequel.Serve point))) ≡ true
gathering_in_pass p job point = state_in_pass p (Sequel.Serve point) p.current p.left (tries_by p.book.script) job []

pub gathering_holds : (c : CallOf) (number : ℕ) (note : Note) (token : ActorToken) → c.token ≡ token → c.job.note ≡ note → c.number ≡ number → IsTrue (is_in_pass (act_of c))
    → IsHolding number note token → HoldsItsPass c
gathering_holds c number note (ActorToken.Seated seat) t j n inside h = absurd h
gathering_holds c number note (ActorToken.InCall held) t j n inside h =
    record {
      its = subst (λ x. IfInCall x (λ held. (held.pass.note ≡ c.job.note) × (held.pass.number ≡ c.number))) (sym t) (h.its ∙ sym j, h.its_number ∙ sym n);
      none = λ e. absurd (not_over (act_of c) inside e);
    }

-- gatherings that need the directory are over
over_by : (now : Progress) → need_at now ≡ need.Directory → IsOver now
over_by (progress.Asks server) e = absurd (true≢false (sym (ap is_directory_need e)))
over_by progress.Due e = absurd (true≢false (sym (ap is_directory_need e)))
over_by progress.Done e = tt
over_by progress.TooMany e = tt
over_by progress.Short e = tt

pub gathering_over : (p : GatheringsOf) (job : Job) (point : ℕ) → need_by (act_at p.book.geometry (tries_by p.book.script) job [] (state_in p (Sequel.Serve point))) (is_due p) ≡ need.Directory → IsOver (progress_of p)
gathering_over p job point e = over_by (progress_of p) (sym (state_needs p (tries_by p.book.script) job [] (Sequel.Serve point)) ∙ e)

pub closed_finished : (p : GatheringsOf) (point : ℕ) → IsOver (progress_of p) → (outcome : CoreOutcome) × (finished_of (state_in p (Sequel.Serve point)) ≡ State.Finished outcome)
closed_finished p point over = let closes = over_closes p point over in (closes.0, ap finished_of closes.1)

abbrev is_start : State → Bool
is_start State.Start = true
is_start at = false

-- a call that stands before its look
pub before_look : (now : ReadStage) (p : GatheringsOf) (point : Point) (outcome : Outcome) (read : Call) (number : ℕ) (token : ActorToken) → is_read read ≡ true
    → Keeps now number (note_of read) token p → state_by now p point outcome ≡ State.Start → now ≡ stage.Looking
before_look stage.Looking p point outcome read number token is kept e = refl
before_look stage.Gathering p point outcome read number token is kept e =
    absurd (true≢false (sym (gathering_in_pass p (job_of read) point.0)
    ∙ ap (λ at. is_in_pass (act_at p.book.geometry (tries_by p.book.script) (job_of read) [] at)) e
    ∙ ap is_in_pass (looks_first read (tries_by p.book.script) is p.book.geometry)))
before_look stage.Ending p point outcome read number token is kept e = absurd (true≢false (sym (ap is_start e)))
before_look stage.Ended p point outcome read number token is kept e = absurd (true≢false (sym (ap is_start e) ∙ ap is_start (closed_finished p point.0 kept.1).1))
before_look stage.Finished p point outcome read number token is kept e = absurd (true≢false (sym (ap is_start e)))

-- while it gathers it stands in its gatherings
pub gathering_stands : (a : Inside) → a.stage ≡ stage.Gathering → StandsIn (read_in a).call a.gatherings (Sequel.Serve a.point.0)
gathering_stands a is = record { book = refl; state = ap (λ now. state_by now a.gatherings a.point a.outcome) is; takes = refl }

pub waits_first : (a : Inside) → IsRead a → state_by a.stage a.gatherings a.point a.outcome ≡ State.Start → IsWaiting a.number a.ticket
waits_first a i first =
    subst (λ now. Keeps now a.number (note_of a.call.now) a.ticket a.gatherings) (before_look a.stage a.gatherings a.point a.outcome a.call.now a.number a.ticket i.read i.kept first) i.kept

-- a call that is over
never_finished : (now : Progress) → need_at now ≡ need.Finished → ⊥
never_finished (progress.Asks server) e = true≢false (sym (ap is_finished_need e))
never_finished progress.Due e = true≢false (sym (ap is_finished_need e))
never_finished progress.Done e = true≢false (sym (ap is_finished_need e))
never_finished progress.TooMany e = true≢false (sym (ap is_finished_need e))
never_finished progress.Short e = true≢false (sym (ap is_finished_need e))

module _ (read : Call) (number : ℕ) (token : ActorToken) (p : GatheringsOf) (point : Point) (outcome : Outcome) (is : is_read read ≡ true) where
  abbrev need_at_stage : ReadStage → Need
  need_at_stage now = need_by (act_at p.book.geometry (tries_by p.book.script) (job_of read) [] (state_by now p point outcome)) (due_by now p)

  -- needs of a server or the coder are those of its gatherings
  pub needs_gathering : (test : Need → Bool) → test need.Directory ≡ false → test need.Finished ≡ false → (now : ReadStage) → Keeps now number (note_of read) token p
      → test (need_at_stage now) ≡ true → now ≡ stage.Gathering
  needs_gathering test first last stage.Looking kept e =
      absurd (true≢false (sym e ∙ ap test (ap (λ act. need_by act false) (looks_first read (tries_by p.book.script) is p.book.geometry)) ∙ first))
  needs_gathering test first last stage.Gathering kept e = refl
  needs_gathering test first last stage.Ending kept e = absurd (true≢false (sym e ∙ first))
  needs_gathering test first last stage.Ended kept e =
      absurd (true≢false (sym e ∙ ap (λ at. test (need_by (act_at p.book.geometry (tries_by p.book.script) (job_of read) [] at) false)) (closed_finished p point.0 kept.1).1 ∙ last))
  needs_gathering test first last stage.Finished kept e = absurd (true≢false (sym e ∙ last))

  -- where its pass ends next it stands before that end
  pub ends_holding : (now : ReadStage) → Keeps now number (note_of read) token p → is_ending (state_by now p point outcome) ≡ true → IsHolding number (note_of read) token
  ends_holding stage.Looking kept e = absurd (true≢false (sym e))
  ends_holding stage.Gathering kept e = kept
  ends_holding stage.Ending kept e = kept
  ends_holding stage.Ended kept e = absurd (true≢false (sym e ∙ ap is_ending (closed_finished p point.0 kept.1).1))
  ends_holding stage.Finished kept e = absurd (true≢false (sym e))

  -- and behind it then
  pub ended_keeps : (next : ActorToken) (now : ReadStage) → Keeps now number (note_of read) token p → is_ending (state_by now p point outcome) ≡ true
      → need_at_stage now ≡ need.Directory → IsSeated next → Keeps (after_end now) number (note_of read) next p
  ended_keeps next stage.Looking kept e needs seated = absurd (true≢false (sym e))
  ended_keeps next stage.Gathering kept e needs seated = (seated, gathering_over p (job_of read) point.0 needs)
  ended_keeps next stage.Ending kept e needs seated = seated
  ended_keeps next stage.Ended kept e needs seated = absurd (true≢false (sym e ∙ ap is_ending (closed_finished p point.0 kept.1).1))
  ended_keeps next stage.Finished kept e needs seated = absurd (true≢false (sym e))

  pub ended_state : (now : ReadStage) → Keeps now number (note_of read) token p → is_ending (state_by now p point outcome) ≡ true
      → state_by (after_end now) p point outcome ≡ finished_of (state_by now p point outcome)
  ended_state stage.Looking kept e = absurd (true≢false (sym e))
  ended_state stage.Gathering kept e = refl
  ended_state stage.Ending kept e = refl
  ended_state stage.Ended kept e = absurd (true≢false (sym e ∙ ap is_ending (closed_finished p point.0 kept.1).1))
  ended_state stage.Finished kept e = absurd (true≢false (sym e))

  pub over_seated : (now : ReadStage) → Keeps now number (note_of read) token p → need_at_stage now ≡ need.Finished → IsSeated token
  over_seated stage.Looking kept e = absurd (true≢false (sym (ap is_finished_need (sym (ap (λ act. need_by act false) (looks_first read (tries_by p.book.script) is p.book.geometry)) ∙ e))))
  over_seated stage.Gathering kept e = absurd (never_finished (progress_of p) (sym (state_needs p (tries_by p.book.script) (job_of read) [] (Sequel.Serve point.0)) ∙ e))
  over_seated stage.Ending kept e = absurd (true≢false (sym (ap is_finished_need e)))
  over_seated stage.Ended kept e = kept.0
  over_seated stage.Finished kept e = kept

  pub over_ended : (now : ReadStage) → Keeps now number (note_of read) token p → need_at_stage now ≡ need.Finished → (now ≡ stage.Finished → ⊥) → now ≡ stage.Ended
  over_ended stage.Looking kept e other = absurd (true≢false (sym (ap is_finished_need (sym (ap (λ act. need_by act false) (looks_first read (tries_by p.book.script) is p.book.geometry)) ∙ e))))
  over_ended stage.Gathering kept e other = absurd (never_finished (progress_of p) (sym (state_needs p (tries_by p.book.script) (job_of read) [] (Sequel.Serve point.0)) ∙ e))
  over_ended stage.Ending kept e other = absurd (true≢false (sym (ap is_finished_need e)))
  over_ended stage.Ended kept e other = refl
  over_ended stage.Finished kept e other = absurd (other refl)
