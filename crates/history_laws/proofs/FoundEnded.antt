-- What a call was told of missing chunks once its pass has ended: it is known without the store, and stays so.
use Rattle.std.proofs.Common.{◌≡◌, ℕ, ◌+◌, ◌<◌, ◌≤◌, Bool, true, false, List, length, Option, None, Some, IfSome, All, ◌⊎◌, inl, inr, refl, sym, ap, subst, ◌∙◌, arith, true≢false}
use mathlib.Core.Bool.{beq}
use Rattle.std.proofs.lemmas.Bool.{and_parts, leb-true}
use Rattle.std.specs.List.{slice_get}
use Rattle.clay_grid.specs.Shape.{Shape}
use Rattle.store_map.specs.Limits.{size_of, tries_of}
use Rattle.store_map.specs.declared.actor.Actor.{Actor}
use Rattle.store_map.specs.declared.placement.Found.{Found}
use Rattle.store_map.specs.declared.placement.Placement.{Placement}
use Rattle.store_map.specs.declared.script.Script.{Script}
use Rattle.store_core.specs.Act.{Act, DirectoryStep, ServerStep, Outcome}
use Rattle.store_core.specs.ActPlace.{is_in_pass}
use Rattle.store_core.specs.AtDirectory.{on_pass, unless_reaped, at_directory}
use Rattle.store_core.specs.Directory.{Standing, Version, Pin, Pass, Directory}
use Rattle.store_core.specs.Lookups.{pass_of}
use Rattle.store_core.specs.NextAct.{Job, next_act}
use Rattle.store_core.specs.Note.{Kind}
use Rattle.store_core.specs.PassSteps.{end_pass, repaired}
use Rattle.store_core.specs.Sound.{IsSound}
use Rattle.store_core.specs.SoundPasses.{Stands, IsLive}
use Rattle.store_core.specs.Step.{Shortage, Places, at_places, told_first}
use Rattle.store_core.specs.Tell.{tell}
use Rattle.store_core.specs.Told.{Told, Seen}
use Rattle.run_laws.specs.Answers.{DirectoryAnswers, ServerAnswers, Answers}
use Rattle.store_core.specs.Bounds.{touched_count}
use Rattle.store_core.specs.Work.{Calling}
use Rattle.run_laws.specs.CallLeft.{pin_bound}
use Rattle.run_laws.specs.CauseLaws.{IsCaused}
use Rattle.run_laws.specs.GatherLaws.{Tells}
use Rattle.run_laws.proofs.Causes.{causes}
use Rattle.run_laws.proofs.ActorSteps.{same_bools}
use Rattle.run_laws.proofs.CallMoves.{call_moves}
use Rattle.run_laws.proofs.LiveVersions.{is_live_standing}
use Rattle.run_laws.proofs.Phases.{phase_of, has_pass, pass_after, rank, rank_moves}
use Rattle.run_laws.proofs.Proper.{IsProper, HasTry, acts_proper}
use Rattle.run_laws.proofs.SoundLists.{at_all}
use Rattle.history_laws.proofs.AtWork.{AtWork, first, act, after, stands, answered}
use Rattle.history_laws.proofs.GivenUpRuns.{told_either}
use Rattle.history_laws.proofs.FoundActs.{OutcomeLacks, ActLacks, act_lacks}
use Rattle.history_laws.proofs.LossesActs.{Heard, Missed, SeenBy, There, TookAt}
use Rattle.history_laws.proofs.LossesCalls.{first_heard}
use Rattle.history_laws.proofs.LossesHeard.{HeardBy, Says, heard_more}
use Rattle.history_laws.proofs.LossesState.{TellsPlaced, LostSo, GoneAt, PinsIt, Pinned, live_pass}
use Rattle.history_laws.proofs.LossesWeaker.{heard_less}
use Rattle.history_laws.proofs.VersionMoves.{row_at}

-- the answer that ends a pass
abbrev pub IsEnded : Told → Type 0
IsEnded answer = answer ≡ Told.Ended

-- a call that is over, but for its settles
abbrev pub IsOver : Act → Type 0
IsOver (Act.AtServer server (ServerStep.Settle version)) = Unit {0}
IsOver (Act.Finish outcome) = Unit {0}
IsOver other = ⊥

-- ---- what is known without the store
module _ (most downs : ℕ → ℕ) where
  abbrev pub SureLost : Seen → ℕ → Found → Type 0
  SureLost seen server found = LostSo most downs server (row_at seen.placed server) found

  abbrev pub SureSeen : Seen → Type 0
  SureSeen seen = (j : ℕ) → TellsPlaced most downs j (row_at seen.placed j)

  abbrev pub SureThere : ℕ → Type 0
  SureThere version = Unit {0}

  abbrev pub SureTook : ℕ → ℕ → Placement → Type 0
  SureTook server version row = TellsPlaced most downs server row

  abbrev pub Sure : Shape → Job → List Told → Type 0
  Sure g job told = HeardBy g job.target SureLost SureSeen SureThere SureTook job.note.kind job.note told

  -- what was told after the pass had ended is sure, and the call has only settles left
  abbrev pub CallSure : Shape → ℕ → Job → List Told → Type 0
  CallSure g tries job told = Tells IsEnded told → IsOver (next_act g tries job told) × Sure g job told

  -- of a call that has ended
  abbrev pub OutcomeSure : Shape → Outcome → Type 0
  OutcomeSure g (Outcome.Unavailable stripe missing) = (length missing ≡ g.parity_count + 1) × OutcomeLacks g SureLost SureSeen SureThere SureTook (Outcome.Unavailable stripe missing)
  OutcomeSure g outcome = Unit {0}

  -- while the call's pins aren't the sweeper's
  pub sure_of : (g : Shape) (who : Actor) (job : Job) (places : Places) (told : List Told) → ((n : ℕ) → Pinned who job.note.kind places.directory n → GoneAt most downs places.directory.versions n → ⊥)
      → Heard most downs g who job places told → Sure g job told
  sure_of g who job places told none h =
      heard_less g job.target (Missed most downs places) SureLost (SeenBy most downs who job.note.kind places) SureSeen (There most downs places) SureThere (TookAt most downs places) SureTook
      (λ seen w server found k. by seen w server found k) (λ seen w. w.0.tells) (λ version k. tt) (λ server version row k. k.tells) job.note.kind job.note told h
    where
      by : (seen : Seen) → SeenBy most downs who job.note.kind places seen → (server : ℕ) (found : Found) → Missed most downs places seen server found → SureLost seen server found
      by seen w server found (inl gone) = absurd (none seen.version w.1 gone)
      by seen w server found (inr lost) = lost

-- ---- a pass that ends
abbrev pub EndsPass : Told → Type 0
EndsPass Told.Ended = Unit {0}
EndsPass answer = ⊥

abbrev IsEnding : DirectoryStep → Type 0
IsEnding DirectoryStep.End = Unit {0}
IsEnding (DirectoryStep.Repaired server epoch) = Unit {0}
IsEnding step = ⊥

ending_step : (pins touched : ℕ) (step : DirectoryStep) → DirectoryAnswers pins touched step Told.Ended → IsEnding step
ending_step pins touched DirectoryStep.End h = tt
ending_step pins touched (DirectoryStep.Repaired server epoch) h = tt
ending_step pins touched step h = absurd h

record LivePass (who : Actor) (d : Directory) : Type 0 where
  pass : Pass
  found : pass_of who d ≡ Some pass
  live : pass.reaped ≡ None

module _ (who : Actor) (d : Directory) where
  live_step : (step : Pass → Directory → Directory × Told) (found : Option Pass) → pass_of who d ≡ found → EndsPass (on_pass step found d).1 → LivePass who d
  live_step step None e h = absurd h
  live_step step (Some pass) e h = by pass.reaped refl h
    where
      by : (reaped : Option ℕ) → pass.reaped ≡ reaped → EndsPass (unless_reaped step pass reaped d).1 → LivePass who d
      by None none k = record { pass = pass; found = e; live = none }
      by (Some point) some k = absurd k

  live_there : (short : Bool) (number : ℕ) (step : DirectoryStep) → IsEnding step → EndsPass (at_directory short who number step d).1 → LivePass who d
  live_there true number DirectoryStep.End is h = live_step end_pass (pass_of who d) refl h
  live_there false number DirectoryStep.End is h = live_step end_pass (pass_of who d) refl h
  live_there true number (DirectoryStep.Repaired server epoch) is h = live_step (repaired server epoch) (pass_of who d) refl h
  live_there false number (DirectoryStep.Repaired server epoch) is h = live_step (repaired server epoch) (pass_of who d) refl h
  live_there short number step is h = absurd is

  -- the pins of a live pass aren't the sweeper's
  none_gone : (most downs : ℕ → ℕ) → IsSound d → LivePass who d → (kind : Kind) (n : ℕ) → Pinned who kind d n → GoneAt most downs d.versions n → ⊥
  none_gone most downs sound live kind n pinned gone = either (all_pins pins.place pins.pin pins.found)
    where
      is_live_now : IsLive d live.pass
      is_live_now = live_pass d sound who live.pass live.found live.live

      pins : PinsIt kind n live.pass.pinned
      pins = subst (λ (o : Option Pass). IfSome o (λ pass. PinsIt kind n pass.pinned)) live.found pinned

      all_at : (all : List Pin) → All (λ (pin : Pin). Stands d Standing.Current pin.version ⊎ Stands d Standing.Superseded pin.version) all → (k : ℕ) (pin : Pin) → slice_get all k ≡ Some pin
          → Stands d Standing.Current pin.version ⊎ Stands d Standing.Superseded pin.version
      all_at all h k pin e = at_all (λ (pin : Pin). Stands d Standing.Current pin.version ⊎ Stands d Standing.Superseded pin.version) all k pin h e

      all_pins : (k : ℕ) (pin : Pin) → slice_get live.pass.pinned k ≡ Some pin → Stands d Standing.Current pin.version ⊎ Stands d Standing.Superseded pin.version
      all_pins k pin e = all_at live.pass.pinned is_live_now.pins k pin e

      not_gone : (standing : Standing) → is_live_standing standing ≡ true → Stands d standing pins.pin.version → ⊥
      not_gone standing on stands =
          let at_n : slice_get d.versions pins.pin.version ≡ Some gone.version = ap (slice_get d.versions) pins.is ∙ gone.found in
          let is : gone.version.standing ≡ standing = subst (λ (o : Option Version). IfSome o (λ v. v.standing ≡ standing)) at_n stands.0 in
          true≢false (sym on ∙ ap is_live_standing (sym is) ∙ gone.gone)

      either : Stands d Standing.Current pins.pin.version ⊎ Stands d Standing.Superseded pins.pin.version → ⊥
      either (inl stands) = not_gone Standing.Current refl stands
      either (inr stands) = not_gone Standing.Superseded refl stands

-- ---- after that a call has only settles left
over_of : (g : Shape) (job : Job) (room : Type 0) (a : Act) → IsProper g job room a → has_pass (phase_of a) ≡ false → rank (phase_of a) ≤ 0 → IsOver a
over_of g job room (Act.AtDirectory (DirectoryStep.Look note)) fits none low = absurd (omega (arith, low))
over_of g job room (Act.AtDirectory (DirectoryStep.LookRepair note)) fits none low = absurd (omega (arith, low))
over_of g job room (Act.AtDirectory DirectoryStep.Draw) fits none low = absurd (true≢false none)
over_of g job room (Act.AtDirectory (DirectoryStep.Commit placed)) fits none low = absurd (true≢false none)
over_of g job room (Act.AtDirectory DirectoryStep.End) fits none low = absurd (true≢false none)
over_of g job room (Act.AtDirectory DirectoryStep.Confirm) fits none low = absurd (true≢false none)
over_of g job room (Act.AtDirectory (DirectoryStep.Repaired server epoch)) fits none low = absurd (true≢false none)
over_of g job room (Act.AtDirectory step) fits none low = absurd fits
over_of g job room (Act.AtServer server (ServerStep.Settle version)) fits none low = tt
over_of g job room (Act.AtServer server (ServerStep.Prepare version)) fits none low = absurd (true≢false none)
over_of g job room (Act.AtServer server (ServerStep.Has version)) fits none low = absurd (true≢false none)
over_of g job room (Act.AtServer server (ServerStep.Fetch version layers)) fits none low = absurd (true≢false none)
over_of g job room (Act.AtServer server (ServerStep.Install version)) fits none low = absurd (true≢false none)
over_of g job room (Act.AtServer server step) fits none low = absurd (true≢false (sym fits.1))
over_of g job room (Act.Finish outcome) fits none low = tt

over_apart : (a : Act) → IsOver a → is_in_pass a ≡ false
over_apart (Act.AtServer server (ServerStep.Settle version)) h = refl
over_apart (Act.Finish outcome) h = refl
over_apart a h = absurd h

-- ---- one step
pub no_ended : (answer : Told) → (EndsPass answer → ⊥) → IsEnded answer → ⊥
no_ended answer other e = other (subst EndsPass (sym e) tt)

settled_only : (version : ℕ) (answer : Told) → ServerAnswers (ServerStep.Settle version) answer → answer ≡ Told.Settled
settled_only version Told.Settled h = refl
settled_only version answer h = absurd h

ends_not_there : (step : ServerStep) → ServerAnswers step Told.Ended → ⊥
ends_not_there (ServerStep.Has version) h = h
ends_not_there step h = h

module _ (most downs : ℕ → ℕ) (script : Script) (who : Actor) (job : Job) (calling : Calling) (places : Places) (at : AtWork script who job calling places) (some : 0 < script.geometry.parity_count) (shortages : Shortage)
    (heard : Heard most downs script.geometry who job places calling.told) where
  abbrev g : Shape
  g = script.geometry

  abbrev tries : ℕ
  tries = tries_of script

  abbrev told : List Told
  told = first script who job calling places at shortages.coding shortages.step

  abbrev acted : Act
  acted = act script who job calling places at shortages.coding shortages.step

  abbrev made : Places × Told
  made = after script who job calling places at shortages.coding shortages.step

  abbrev now : List Told
  now = tell g job told made.1

  abbrev Later : Type 0
  Later = IsOver (next_act g tries job now) × Sure most downs g job now

  abbrev SaysSure : Act → Told → Type 0
  SaysSure a answer = Says g job.target (SureLost most downs) (SureSeen most downs) (SureThere most downs) (SureTook most downs) a answer

  -- how the phase moves
  pass_moves : has_pass (phase_of (next_act g tries job now)) ≡ pass_after made.1 (has_pass (phase_of acted))
  pass_moves =
      same_bools (has_pass (phase_of (next_act g tries job now))) (pass_after made.1 (has_pass (phase_of acted)))
      (and_parts (beq (has_pass (phase_of (next_act g tries job now))) (pass_after made.1 (has_pass (phase_of acted)))) (rank_moves made.1 (rank (phase_of acted)) (rank (phase_of (next_act g tries job now))))
      (call_moves g tries job at.target told made.1 (answered script who job calling places at shortages.coding shortages.step).fits)).0

  ranks_move : rank_moves made.1 (rank (phase_of acted)) (rank (phase_of (next_act g tries job now))) ≡ true
  ranks_move =
      (and_parts (beq (has_pass (phase_of (next_act g tries job now))) (pass_after made.1 (has_pass (phase_of acted)))) (rank_moves made.1 (rank (phase_of acted)) (rank (phase_of (next_act g tries job now))))
      (call_moves g tries job at.target told made.1 (answered script who job calling places at shortages.coding shortages.step).fits)).1

  over_now : has_pass (phase_of (next_act g tries job now)) ≡ false → rank (phase_of (next_act g tries job now)) ≤ 0 → IsOver (next_act g tries job now)
  over_now none low = over_of g job (HasTry job.note.kind tries now) (next_act g tries job now) (acts_proper g tries job at.target now) none low

  -- the answer ends the pass
  ends_now : (a : Act) → acted ≡ a → Answers (pin_bound g (size_of script) job.note) (touched_count g job.note) a (at_places shortages.step who (length calling.ended) a places).1
      → (at_places shortages.step who (length calling.ended) a places).1 ≡ Told.Ended → Later
  ends_now (Act.Finish outcome) is answers e = absurd answers
  ends_now (Act.AtServer server step) is answers e = absurd (ends_not_there step (subst (ServerAnswers step) e answers))
  ends_now (Act.AtDirectory step) is answers e = by step is refl (ending_step (pin_bound g (size_of script) job.note) (touched_count g job.note) step (subst (DirectoryAnswers (pin_bound g (size_of script) job.note) (touched_count g job.note) step) e answers))
    where
      is_answer : made.1 ≡ Told.Ended
      is_answer = ap (λ (a : Act). (at_places shortages.step who (length calling.ended) a places).1) is ∙ e

      live : IsEnding step → LivePass who places.directory
      live ending = live_there who places.directory shortages.step (length calling.ended) step ending (subst EndsPass (sym e) tt)

      before_sure : IsEnding step → Sure most downs g job told
      before_sure ending =
          sure_of most downs g who job places told (none_gone who places.directory most downs at.sound (live ending) job.note.kind)
          (first_heard most downs g who job places tries calling.told shortages.coding (is_in_pass (next_act g tries job calling.told)) heard)

      sure_now : IsEnding step → SaysSure (Act.AtDirectory step) Told.Ended → Sure most downs g job now
      sure_now ending says =
          heard_more g tries job (SureLost most downs) (SureSeen most downs) (SureThere most downs) (SureTook most downs) told made.1
          (subst (SaysSure (next_act g tries job told)) (sym is_answer) (subst (λ (a : Act). SaysSure a Told.Ended) (sym is) says)) (before_sure ending)

      over : rank (phase_of acted) ≡ 0 → IsOver (next_act g tries job now)
      over none =
          over_now (pass_moves ∙ ap (λ (a : Told). pass_after a (has_pass (phase_of acted))) is_answer)
          (let low : rank (phase_of (next_act g tries job now)) ≤ rank (phase_of acted) =
          leb-true (rank (phase_of (next_act g tries job now))) (rank (phase_of acted)) (subst (λ (a : Told). rank_moves a (rank (phase_of acted)) (rank (phase_of (next_act g tries job now))) ≡ true) is_answer ranks_move) in
          omega (arith, low, none))

      by : (x : DirectoryStep) → acted ≡ Act.AtDirectory x → x ≡ step → IsEnding x → Later
      by DirectoryStep.End k same ending = (
        over (ap (λ (a : Act). rank (phase_of a)) k),
        sure_now (subst IsEnding same tt) (subst (λ (y : DirectoryStep). SaysSure (Act.AtDirectory y) Told.Ended) same (record { said = tt; placing = tt; asking = tt; installing = tt; looking = tt })),
      )
      by (DirectoryStep.Repaired server epoch) k same ending = (
        over (ap (λ (a : Act). rank (phase_of a)) k),
        sure_now (subst IsEnding same tt) (subst (λ (y : DirectoryStep). SaysSure (Act.AtDirectory y) Told.Ended) same (record { said = tt; placing = tt; asking = tt; installing = tt; looking = tt })),
      )
      by x k same ending = absurd ending

  -- the pass had ended before
  was_over : (a : Act) → acted ≡ a → IsOver a → Sure most downs g job told → Answers (pin_bound g (size_of script) job.note) (touched_count g job.note) a (at_places shortages.step who (length calling.ended) a places).1 → Later
  was_over (Act.Finish outcome) is over sure answers = absurd answers
  was_over (Act.AtServer server (ServerStep.Settle version)) is over sure answers = (
    over_now (pass_moves ∙ ap (λ (a : Told). pass_after a (has_pass (phase_of acted))) is_answer ∙ ap (λ (a : Act). has_pass (phase_of a)) is)
        (let low : rank (phase_of (next_act g tries job now)) ≤ rank (phase_of acted) =
        leb-true (rank (phase_of (next_act g tries job now))) (rank (phase_of acted)) (subst (λ (a : Told). rank_moves a (rank (phase_of acted)) (rank (phase_of (next_act g tries job now))) ≡ true) is_answer ranks_move) in
        let none : rank (phase_of acted) ≡ 0 = ap (λ (a : Act). rank (phase_of a)) is in
        omega (arith, low, none)),
    heard_more g tries job (SureLost most downs) (SureSeen most downs) (SureThere most downs) (SureTook most downs) told made.1
        (subst (SaysSure (next_act g tries job told)) (sym is_answer) (subst (λ (a : Act). SaysSure a Told.Settled) (sym is) (record { said = tt; placing = tt; asking = tt; installing = tt; looking = tt }))) sure,
  )
    where
      is_answer : made.1 ≡ Told.Settled
      is_answer =
          ap (λ (a : Act). (at_places shortages.step who (length calling.ended) a places).1) is
          ∙ settled_only version (at_places shortages.step who (length calling.ended) (Act.AtServer server (ServerStep.Settle version)) places).1 answers
  was_over a is over sure answers = absurd over

  module _ (before : CallSure most downs script.geometry (tries_of script) job calling.told) where
    first_same : (coding has : Bool) → is_in_pass (next_act g tries job calling.told) ≡ has → Tells IsEnded (told_first coding has g job calling.told)
        → (told_first coding has g job calling.told ≡ calling.told) × Tells IsEnded calling.told
    first_same true true e h = by (told_either IsEnded (λ k. no_ended Told.Gathered (λ x. x) k) g some job calling.told Told.Short h)
      where
        by : Tells IsEnded calling.told ⊎ IsEnded Told.Short → (tell g job calling.told Told.Short ≡ calling.told) × Tells IsEnded calling.told
        by (inl k) = absurd (true≢false (sym e ∙ over_apart (next_act g tries job calling.told) (before k).0))
        by (inr k) = absurd (no_ended Told.Short (λ x. x) k)
    first_same true false e h = (refl, h)
    first_same false has e h = (refl, h)

    -- one answer more
    pub step_ended : CallSure most downs g tries job now
    step_ended h = by (told_either IsEnded (λ k. no_ended Told.Gathered (λ x. x) k) g some job told made.1 h)
      where
        answers : Answers (pin_bound g (size_of script) job.note) (touched_count g job.note) acted made.1
        answers = (answered script who job calling places at shortages.coding shortages.step).answers

        by : Tells IsEnded told ⊎ IsEnded made.1 → Later
        by (inr k) = ends_now acted refl answers k
        by (inl k) =
            let same : (told ≡ calling.told) × Tells IsEnded calling.told = first_same shortages.coding (is_in_pass (next_act g tries job calling.told)) refl k in
            let both : IsOver (next_act g tries job calling.told) × Sure most downs g job calling.told = before same.1 in
            was_over acted refl (subst (λ (l : List Told). IsOver (next_act g tries job l)) (sym same.0) both.0) (subst (Sure most downs g job) (sym same.0) both.1) answers

    -- and where the call ends by it
    pub outcome_sure : (outcome : Outcome) → next_act g tries job now ≡ Act.Finish outcome → OutcomeSure most downs g outcome
    outcome_sure (Outcome.Unavailable stripe missing) e =
        let caused : IsCaused g tries now (Act.Finish (Outcome.Unavailable stripe missing)) = subst (IsCaused g tries now) e (causes g tries job now some) in
        let lacks : ActLacks g (SureLost most downs) (SureSeen most downs) (SureThere most downs) (SureTook most downs) (next_act g tries job now) =
        act_lacks g (SureLost most downs) (SureSeen most downs) (SureThere most downs) (SureTook most downs) job.target job.note.kind at.target tries job.note now (step_ended caused.1).1 in
        (caused.0, subst (ActLacks g (SureLost most downs) (SureSeen most downs) (SureThere most downs) (SureTook most downs)) e lacks)
    outcome_sure outcome e = tt
