-- A step of a call keeps that what is held may be held: it places what it drew or looked at, and where that isn't live any more the call was given up.
use Rattle.std.proofs.Common.{◌≡◌, ◌⊎◌, inl, inr, ℕ, zero, suc, ◌<◌, Bool, true, false, List, [], ◌∷◌, ◌++◌, length, Option, None, Some, IfSome, Contains, refl, sym, ap, subst, ◌∙◌, arith}
use Rattle.std.proofs.lemmas.List.Elements.{All-contains}
use Rattle.std.proofs.lemmas.Option.{none-some, same_Some}
use Rattle.std.specs.List.{slice_get}
use Rattle.clay_grid.specs.Shape.{Shape}
use Rattle.store_map.specs.Limits.{size_of, tries_of}
use Rattle.store_map.specs.declared.actor.Actor.{Actor}
use Rattle.store_map.specs.declared.script.Script.{Script}
use Rattle.store_core.specs.Act.{Act, DirectoryStep, ServerStep}
use Rattle.store_core.specs.Bounds.{touched_count}
use Rattle.store_core.specs.Directory.{Standing, Version, Pin, Pass, Directory}
use Rattle.store_core.specs.Lookups.{pass_of}
use Rattle.store_core.specs.NextAct.{Job, next_act}
use Rattle.store_core.specs.PlaceLaws.{new_versions}
use Rattle.store_core.specs.Server.{Server}
use Rattle.store_core.specs.SoundPasses.{Stands, HasVersions}
use Rattle.store_core.specs.Step.{Shortage, Places, at_places, at_server_there, told_first}
use Rattle.store_core.specs.Sweep.{Sweeper}
use Rattle.store_core.specs.Told.{Told}
use Rattle.store_core.specs.Work.{Calling}
use Rattle.run_laws.specs.Answers.{ServerAnswers, Answers}
use Rattle.run_laws.specs.CallLeft.{pin_bound}
use Rattle.run_laws.specs.GatherLaws.{Tells}
use Rattle.run_laws.proofs.ActAnswers.{note_if}
use Rattle.run_laws.proofs.LiveVersions.{is_live_standing}
use Rattle.run_laws.proofs.MaySteps.{HasPass, one_held}
use Rattle.run_laws.proofs.Phases.{phase_of, has_pass, rank}
use Rattle.run_laws.proofs.PlaceMoves.{call_step}
use Rattle.run_laws.proofs.Proper.{IsProper, HasTry}
use Rattle.run_laws.proofs.Readies.{drawn_count, PassReady}
use Rattle.run_laws.proofs.ToldVersions.{versions_told}
use Rattle.run_laws.proofs.Passes.{IsCallStep}
use Rattle.run_laws.proofs.SoundClose.{held_pass}
use Rattle.run_laws.proofs.SoundLists.{is_in, at_all}
use Rattle.history_laws.proofs.AtWork.{AtWork, first, act, after, stands, proper, answered}
use Rattle.history_laws.proofs.GivenUpRuns.{told_either}
use Rattle.history_laws.proofs.LossesState.{PinsIt, live_pass}
use Rattle.history_laws.specs.Held.{WasGivenUp, Draws, LooksAt, IsStray}
use Rattle.history_laws.specs.Moments.{Happened}
use Rattle.history_laws.specs.Trace.{Made, call_made}
use Rattle.history_laws.proofs.Counts.{AllCounted}
use Rattle.history_laws.proofs.HeldActs.{ActSays, act_says}
use Rattle.history_laws.proofs.HeldRuns.{HeldThen}
use Rattle.history_laws.proofs.HeldStandings.{IsNoSweep}
use Rattle.history_laws.proofs.HeldSteps.{AddedWell, directory_held, server_held}
use Rattle.history_laws.proofs.LossTold.{OwnLooks, Lost, Looked, Any, Took, HeardThen, RowsThen}
use Rattle.history_laws.proofs.LossSteps.{told_heard, first_ready}
use Rattle.history_laws.proofs.Past.{weaker}
use Rattle.history_laws.proofs.Within.{Own}

-- a step that told of these versions
abbrev pub TellsVersions : Actor → ℕ → List ℕ → List Made → Made → Type 0
TellsVersions who number versions before made = Own who number made × (made.answer ≡ Told.Versions versions)

abbrev IsVersions : Told → Type 0
IsVersions (Told.Versions versions) = Unit {0}
IsVersions answer = ⊥

-- what is kept of an actor
pub record HeldActor (trace : List Made) (d : Directory) (who : Actor) (jobs : List Job) (c : Calling) : Type 0 where
  pub drew : (versions : List ℕ) → Tells (λ answer. answer ≡ Told.Versions versions) c.told → Happened trace (TellsVersions who (length c.ended) versions)
  pub given_up : (job : Job) → slice_get jobs (length c.ended) ≡ Some job → (p : Pass) → pass_of who d ≡ Some p → (point : ℕ) → p.reaped ≡ Some point → WasGivenUp d.points who (length c.ended)

-- versions that are among what was told were told
told_of : (versions : List ℕ) (told : List Told) (more : List Told) → versions_told told ≡ Told.Versions versions ∷ more → Tells (λ answer. answer ≡ Told.Versions versions) told
told_of versions [] more e = absurd (empty_apart e)
  where
    empty_apart : [] ≡ Told.Versions versions ∷ more → ⊥
    empty_apart k = absurd (let size : 0 ≡ suc (length more) = ap (λ (l : List Told). length l) k in omega (arith, size))
told_of versions (Told.Versions other ∷ told) more e = inl (ap (first_of (Told.Versions other)) e)
  where
    first_of : Told → List Told → Told
    first_of d [] = d
    first_of d (x ∷ xs) = x
told_of versions (Told.Answer point given ∷ told) more e = inr (told_of versions told more e)
told_of versions (Told.Pinned point length_now stripes ∷ told) more e = inr (told_of versions told more e)
told_of versions (Told.Ready base length_now stripes ∷ told) more e = inr (told_of versions told more e)
told_of versions (Told.NoSuch ∷ told) more e = inr (told_of versions told more e)
told_of versions (Told.PinnedStripe seen ∷ told) more e = inr (told_of versions told more e)
told_of versions (Told.Done point ∷ told) more e = inr (told_of versions told more e)
told_of versions (Told.Changed base newer ∷ told) more e = inr (told_of versions told more e)
told_of versions (Told.Ended ∷ told) more e = inr (told_of versions told more e)
told_of versions (Told.Current ∷ told) more e = inr (told_of versions told more e)
told_of versions (Told.Superseded newer ∷ told) more e = inr (told_of versions told more e)
told_of versions (Told.Reaped point ∷ told) more e = inr (told_of versions told more e)
told_of versions (Told.Taken version ∷ told) more e = inr (told_of versions told more e)
told_of versions (Told.GivenUp point ∷ told) more e = inr (told_of versions told more e)
told_of versions (Told.Prepared row ∷ told) more e = inr (told_of versions told more e)
told_of versions (Told.Settled ∷ told) more e = inr (told_of versions told more e)
told_of versions (Told.Here ∷ told) more e = inr (told_of versions told more e)
told_of versions (Told.Missing reason ∷ told) more e = inr (told_of versions told more e)
told_of versions (Told.Given layers ∷ told) more e = inr (told_of versions told more e)
told_of versions (Told.Placed epoch ∷ told) more e = inr (told_of versions told more e)
told_of versions (Told.AlreadyThere ∷ told) more e = inr (told_of versions told more e)
told_of versions (Told.Away downs ∷ told) more e = inr (told_of versions told more e)
told_of versions (Told.Made ∷ told) more e = inr (told_of versions told more e)
told_of versions (Told.NotMade ∷ told) more e = inr (told_of versions told more e)
told_of versions (Told.Short ∷ told) more e = inr (told_of versions told more e)
told_of versions (Told.Gathered ∷ told) more e = inr (told_of versions told more e)

-- a standing of a live pass's version
live_one : (d : Directory) (standing : Standing) (v : ℕ) (version : Version) → slice_get d.versions v ≡ Some version → Stands d standing v → is_live_standing standing ≡ true → is_live_standing version.standing ≡ true
live_one d standing v version e h live = ap is_live_standing (subst (λ (o : Option Version). IfSome o (λ x. x.standing ≡ standing)) e h.0) ∙ live

module _ (script : Script) (some : 0 < script.geometry.parity_count) (who : Actor) (jobs : List Job) (job : Job) (calling : Calling) (is_job : slice_get jobs (length calling.ended) ≡ Some job)
    (places : Places) (at : AtWork script who job calling places) (shortages : Shortage) (trace : List Made) (counts : AllCounted trace places.servers) (rows : RowsThen trace places.directory.versions)
    (heard : HeardThen script.geometry trace places.directory who (length calling.ended) job calling.told) (kept : HeldActor trace places.directory who jobs calling) where
  abbrev g : Shape
  g = script.geometry

  abbrev d : Directory
  d = places.directory

  abbrev number : ℕ
  number = length calling.ended

  abbrev told : List Told
  told = first script who job calling places at shortages.coding shortages.step

  -- what was drawn before
  pub first_drew : (versions : List ℕ) → (coding has : Bool) → Tells (λ answer. answer ≡ Told.Versions versions) (told_first coding has g job calling.told) → Happened trace (TellsVersions who number versions)
  first_drew versions true true h = by (told_either (λ answer. answer ≡ Told.Versions versions) (λ e. subst IsVersions (sym e) tt) g some job calling.told Told.Short h)
    where
      by : Tells (λ answer. answer ≡ Told.Versions versions) calling.told ⊎ (Told.Short ≡ Told.Versions versions) → Happened trace (TellsVersions who number versions)
      by (inl k) = kept.drew versions k
      by (inr k) = absurd (subst IsVersions (sym k) tt)
  first_drew versions true false h = kept.drew versions h
  first_drew versions false has h = kept.drew versions h

  says : ActSays (Looked trace d who number job.note.kind) told (next_act g (tries_of script) job told)
  says =
      act_says (Looked trace d who number job.note.kind) g job.target (Lost trace who number) Any (Took trace who number) job.note.kind (tries_of script) job.note told
      (told_heard script who job calling places at shortages trace counts rows heard)

  -- a step that is made on a pass has it
  its_pass : has_pass (phase_of (next_act g (tries_of script) job told)) ≡ true → HasPass who job.note d
  its_pass e = one_held who job.note d (pass_of who d) refl ((stands script who job calling places at shortages.coding shortages.step).pass ∙ ap (λ b. note_if b job.note) e)

  -- ---- what is added
  reaped_or : (p : Pass) → (pass_of who d ≡ Some p) → (P : Type 0) → (p.reaped ≡ None → P) → (WasGivenUp d.points who number → P) → P
  reaped_or p found P live gone = by p.reaped refl
    where
      by : (reaped : Option ℕ) → p.reaped ≡ reaped → P
      by None e = live e
      by (Some point) e = gone (kept.given_up job is_job p found point e)

  module _ (server : ℕ) (version : ℕ) where
    prepared_well : next_act g (tries_of script) job told ≡ Act.AtServer server (ServerStep.Prepare version)
        → (entry : Version) × (slice_get d.versions version ≡ Some entry) × ((is_live_standing entry.standing ≡ true) ⊎ IsStray trace d.points version)
    prepared_well e = by (subst (ActSays (Looked trace d who number job.note.kind) told) e says) (its_pass (ap (λ a. has_pass (phase_of a)) e))
      where
        there_is : (versions : List Version) (n : ℕ) → n < length versions → (x : Version) × (slice_get versions n ≡ Some x)
        there_is [] n low = absurd (omega (arith, low))
        there_is (v ∷ versions) zero low = (v, refl)
        there_is (v ∷ versions) (suc n) low = there_is versions n (omega (arith, low))

        by : ActSays (Looked trace d who number job.note.kind) told (Act.AtServer server (ServerStep.Prepare version)) → HasPass who job.note d
            → (entry : Version) × (slice_get d.versions version ≡ Some entry) × ((is_live_standing entry.standing ≡ true) ⊎ IsStray trace d.points version)
        by (drawn, only, among) has =
            (entry.0, entry.1, reaped_or has.pass has.found ((is_live_standing entry.0.standing ≡ true) ⊎ IsStray trace d.points version) live gone)
          where
            right : PassReady (drawn_count g job.note) (length calling.ended) (rank (phase_of (next_act g (tries_of script) job told))) (versions_told told) has.pass.number has.pass.drawn
            right =
                subst
                (λ (o : Option Pass). IfSome o (λ p. PassReady (drawn_count g job.note) (length calling.ended) (rank (phase_of (next_act g (tries_of script) job told))) (versions_told told) p.number p.drawn))
                has.found (first_ready script who job calling places at shortages trace counts rows heard).pass

            drawn_is : has.pass.drawn ≡ drawn
            drawn_is = (right.all_drawn drawn only).0

            contains : Contains has.pass.drawn version
            contains = subst (λ (l : List ℕ). Contains l version) (sym drawn_is) (is_in version drawn among)

            versions_of : HasVersions d has.pass
            versions_of = All-contains (HasVersions d) d.passes has.pass at.sound.versions (held_pass who d has.pass has.found).has

            entry : (x : Version) × (slice_get d.versions version ≡ Some x)
            entry = there_is d.versions version (All-contains (λ n. n < length d.versions) has.pass.drawn version versions_of.drawn contains)

            live : has.pass.reaped ≡ None → (is_live_standing entry.0.standing ≡ true) ⊎ IsStray trace d.points version
            live none =
                inl (live_one d Standing.Drawn version entry.0 entry.1 (All-contains (Stands d Standing.Drawn) has.pass.drawn version (live_pass d at.sound who has.pass has.found none).drawn contains) refl)

            gone : WasGivenUp d.points who number → (is_live_standing entry.0.standing ≡ true) ⊎ IsStray trace d.points version
            gone given =
                inr (
                  who,
                  number,
                  given,
                  inl (weaker (TellsVersions who number drawn) (Draws who number version)
                      (λ before m k. (k.0.0, k.0.1, subst (λ (a : Told). Contains (new_versions a) version) (sym k.1) (is_in version drawn among))) trace
                      (first_drew drawn shortages.coding _ (told_of drawn told [] only))),
                )

    installed_well : next_act g (tries_of script) job told ≡ Act.AtServer server (ServerStep.Install version)
        → (entry : Version) × (slice_get d.versions version ≡ Some entry) × ((is_live_standing entry.standing ≡ true) ⊎ IsStray trace d.points version)
    installed_well e = by (subst (ActSays (Looked trace d who number job.note.kind) told) e says) (its_pass (ap (λ a. has_pass (phase_of a)) e))
      where
        there_is : (versions : List Version) (n : ℕ) → n < length versions → (x : Version) × (slice_get versions n ≡ Some x)
        there_is [] n low = absurd (omega (arith, low))
        there_is (v ∷ versions) zero low = (v, refl)
        there_is (v ∷ versions) (suc n) low = there_is versions n (omega (arith, low))

        by : ActSays (Looked trace d who number job.note.kind) told (Act.AtServer server (ServerStep.Install version)) → HasPass who job.note d
            → (entry : Version) × (slice_get d.versions version ≡ Some entry) × ((is_live_standing entry.standing ≡ true) ⊎ IsStray trace d.points version)
        by (seen, w, same) has =
            (entry.0, entry.1, reaped_or has.pass has.found ((is_live_standing entry.0.standing ≡ true) ⊎ IsStray trace d.points version) live gone)
          where
            pins : PinsIt job.note.kind seen.version has.pass.pinned
            pins = subst (λ (o : Option Pass). IfSome o (λ pass. PinsIt job.note.kind seen.version pass.pinned)) has.found w.1

            of_it : pins.pin.version ≡ version
            of_it = pins.is ∙ same

            versions_of : HasVersions d has.pass
            versions_of = All-contains (HasVersions d) d.passes has.pass at.sound.versions (held_pass who d has.pass has.found).has

            entry : (x : Version) × (slice_get d.versions version ≡ Some x)
            entry = there_is d.versions version (subst (λ n. n < length d.versions) of_it (at_all (λ (pin : Pin). pin.version < length d.versions) has.pass.pinned pins.place pins.pin versions_of.pinned pins.found))

            live : has.pass.reaped ≡ None → (is_live_standing entry.0.standing ≡ true) ⊎ IsStray trace d.points version
            live none =
                two (at_all (λ (pin : Pin). Stands d Standing.Current pin.version ⊎ Stands d Standing.Superseded pin.version) has.pass.pinned pins.place pins.pin (live_pass d at.sound who has.pass has.found none).pins pins.found)
              where
                two : Stands d Standing.Current pins.pin.version ⊎ Stands d Standing.Superseded pins.pin.version → (is_live_standing entry.0.standing ≡ true) ⊎ IsStray trace d.points version
                two (inl k) = inl (live_one d Standing.Current version entry.0 entry.1 (subst (Stands d Standing.Current) of_it k) refl)
                two (inr k) = inl (live_one d Standing.Superseded version entry.0 entry.1 (subst (Stands d Standing.Superseded) of_it k) refl)

            gone : WasGivenUp d.points who number → (is_live_standing entry.0.standing ≡ true) ⊎ IsStray trace d.points version
            gone given = inr (who, number, given, inr (weaker (OwnLooks who number seen) (LooksAt who number version) (λ before m k. (k.0.0, k.0.1, (seen, k.1, same))) trace w.0))

  added_well : (server : ℕ) (step : ServerStep) → next_act g (tries_of script) job told ≡ Act.AtServer server step → AddedWell trace d step
  added_well server (ServerStep.Prepare version) e v is = subst (λ n. (entry : Version) × (slice_get d.versions n ≡ Some entry) × ((is_live_standing entry.standing ≡ true) ⊎ IsStray trace d.points n)) (same_Some version v is) (prepared_well server version e)
  added_well server (ServerStep.Install version) e v is = subst (λ n. (entry : Version) × (slice_get d.versions n ≡ Some entry) × ((is_live_standing entry.standing ≡ true) ⊎ IsStray trace d.points n)) (same_Some version v is) (installed_well server version e)
  added_well server (ServerStep.Settle version) e v is = absurd (none-some v is)
  added_well server (ServerStep.Has version) e v is = absurd (none-some v is)
  added_well server (ServerStep.Fetch version layers) e v is = absurd (none-some v is)
  added_well server (ServerStep.Discard version) e v is = absurd (none-some v is)
  added_well server ServerStep.Wipe e v is = absurd (none-some v is)
  added_well server ServerStep.Down e v is = absurd (none-some v is)
  added_well server ServerStep.Up e v is = absurd (none-some v is)

  no_sweep : (step : DirectoryStep) → IsCallStep job.note step → IsNoSweep step
  no_sweep (DirectoryStep.Swept version) h = h
  no_sweep (DirectoryStep.Look note) h = tt
  no_sweep (DirectoryStep.LookRepair note) h = tt
  no_sweep step h = tt

  abbrev step_made : Made
  step_made = call_made script shortages who calling places job

  -- the step
  pub call_held : (sweeper : Sweeper) → HeldThen trace d places.servers sweeper
      → HeldThen (trace ++ call_made script shortages who calling places job ∷ []) (after script who job calling places at shortages.coding shortages.step).0.directory (after script who job calling places at shortages.coding shortages.step).0.servers sweeper
  call_held sweeper h = by (act script who job calling places at shortages.coding shortages.step) refl (proper script who job calling places at shortages.coding shortages.step) (answered script who job calling places at shortages.coding shortages.step).answers
    where
      at_server_by : (server : ℕ) (step : ServerStep) → next_act g (tries_of script) job told ≡ Act.AtServer server step → (f : Option Server) → slice_get places.servers server ≡ f
          → ServerAnswers step (at_server_there shortages.step server step places f).1
          → HeldThen (trace ++ call_made script shortages who calling places job ∷ []) (at_server_there shortages.step server step places f).0.directory (at_server_there shortages.step server step places f).0.servers sweeper
      at_server_by server step e None there answers = absurd (no_answer step answers)
        where
          no_answer : (x : ServerStep) → ServerAnswers x Told.NotMade → ⊥
          no_answer (ServerStep.Prepare version) k = k
          no_answer x k = k
      at_server_by server step e (Some s) there answers = server_held trace step_made shortages.step server step d sweeper (added_well server step e) places.servers s there h

      by : (a : Act) → next_act g (tries_of script) job told ≡ a → IsProper g job (HasTry job.note.kind (tries_of script) told) a → Answers (pin_bound g (size_of script) job.note) (touched_count g job.note) a (at_places shortages.step who (length calling.ended) a places).1
          → HeldThen (trace ++ call_made script shortages who calling places job ∷ []) (at_places shortages.step who (length calling.ended) a places).0.directory (at_places shortages.step who (length calling.ended) a places).0.servers sweeper
      by (Act.AtDirectory step) e is_proper answers =
          directory_held trace step_made shortages.step who (length calling.ended) step d places.servers sweeper at.sound (no_sweep step (call_step job (HasTry job.note.kind (tries_of script) told) step is_proper)) h
      by (Act.AtServer server step) e is_proper answers = at_server_by server step e (slice_get places.servers server) refl answers
      by (Act.Finish outcome) e is_proper answers = absurd answers
