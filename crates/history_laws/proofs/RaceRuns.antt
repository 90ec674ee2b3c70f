-- In every run the races that a call was told are changes of its object, one after the other.
use Rattle.std.proofs.Common.{◌≡◌, ℕ, ◌+◌, ◌<◌, ◌≤◌, Bool, true, false, not, cond, nat_eq, nat_lt, List, [], ◌∷◌, ◌++◌, length, Option, None, Some, option_map, unwrap_or, ◌⊎◌, inl, inr, refl, sym, ap, subst, ◌∙◌, arith, true≢false}
use Rattle.std.proofs.lemmas.Bool.{cond_both, eq-eqb}
use Rattle.std.proofs.lemmas.Option.{none-some, same_Some}
use Rattle.std.proofs.lemmas.List.Elements.{All-contains}
use Rattle.std.specs.List.{slice_get}
use Rattle.clay_grid.specs.Shape.{Shape, chunk_count}
use Rattle.store_map.specs.Limits.{size_of, tries_of}
use Rattle.store_map.specs.declared.actor.Actor.{Actor}
use Rattle.store_map.specs.declared.actor.Actor.TheVariants as actor
use Rattle.store_map.specs.declared.actor.Token.{Token}
use Rattle.store_map.specs.declared.script.Script.{Script}
use Rattle.store_core.specs.Act.{Act, DirectoryStep, ServerStep, Outcome}
use Rattle.store_core.specs.AtDirectory.{reap, reap_pass}
use Rattle.store_core.specs.Bounds.{touched_count}
use Rattle.store_core.specs.Commit.{is_overtaken}
use Rattle.store_core.specs.Core.{Core, first_core}
use Rattle.store_core.specs.Directory.{Object, Pass, Point, Directory}
use Rattle.store_core.specs.Lengths.{length_in}
use Rattle.store_core.specs.Lookups.{same_actor, find_object, pass_of, last_change, first_garbage}
use Rattle.store_core.specs.NextAct.{Job, next_act}
use Rattle.store_core.specs.Note.{Note, Kind}
use Rattle.store_core.specs.Run.{places_in}
use Rattle.store_core.specs.Server.{Server}
use Rattle.store_core.specs.Sound.{IsSound, lengths_of}
use Rattle.store_core.specs.SoundPasses.{HasBase, IsRight}
use Rattle.store_core.specs.Step.{Shortage, Places, at_places, at_server_there, told_first, take_from, ended_by, actor_step}
use Rattle.store_core.specs.Sweep.{Sweeper, next_sweep}
use Rattle.store_core.specs.Tell.{tell}
use Rattle.store_core.specs.Told.{Told}
use Rattle.store_core.specs.Work.{Ended, Work, Calling, client_work, repairer_work, new_calling}
use Rattle.run_laws.specs.Answers.{ServerAnswers, Answers}
use Rattle.run_laws.specs.CallLeft.{pin_bound}
use Rattle.run_laws.specs.CauseLaws.{changes_of, IsCaused}
use Rattle.run_laws.specs.GatherLaws.{Tells}
use Rattle.run_laws.proofs.Causes.{causes}
use Rattle.run_laws.proofs.Ends.{answers_end_calls}
use Rattle.run_laws.proofs.StepOutcomes.{outcomes_in_steps}
use Rattle.store_core.specs.Lists.{change_at}
use Rattle.store_core.specs.Schedule.{run_core}
use Rattle.run_laws.proofs.ActAnswers.{note_if}
use Rattle.run_laws.proofs.ActorSteps.{InWork, is_looking}
use Rattle.run_laws.proofs.Groups.{slice_changed}
use Rattle.run_laws.proofs.MaySteps.{none_held}
use Rattle.run_laws.proofs.Phases.{phase_of, has_pass}
use Rattle.run_laws.proofs.Runs.{CanRun}
use Rattle.run_laws.proofs.RunsSound.{RunKeeps}
use Rattle.run_laws.proofs.Scripts.{replicated}
use Rattle.history_laws.proofs.ActorLines.{each_changed}
use Rattle.history_laws.proofs.Induction.{KeptBySteps, run_has, client_after, repairer_after, operator_after, sweeper_after}
use Rattle.history_laws.proofs.ReapedPasses.{sweeps_apart}
use Rattle.run_laws.proofs.CallActs.{ActOfKind}
use Rattle.run_laws.proofs.OwnPasses.{found_in, one_changed, mapped_found, step_moves}
use Rattle.run_laws.proofs.PlaceMoves.{call_step}
use Rattle.run_laws.proofs.Proper.{IsProper, HasTry}
use Rattle.run_laws.proofs.SoundHistory.{Last, last_of}
use Rattle.run_laws.proofs.SoundObjects.{length_found}
use Rattle.run_laws.proofs.SoundLists.{found_in as found_there}
use Rattle.history_laws.proofs.AnsweredPoints.{act_grows, pushed}
use Rattle.history_laws.proofs.AtWork.{AtWork, client_at, repairer_at, pass_number, pass_note, first, act, after, proper, answered, of_kind}
use Rattle.history_laws.proofs.GivenUpRuns.{told_either}
use Rattle.history_laws.proofs.Changes.{IsChange, LastFrom, last_is, last_late, Grows, change_grows, Races, races_grow, Follows, races_push, last_follows}
use Rattle.history_laws.proofs.RaceSteps.{ChangedBy, SupersededBy, RaceTold, FromOld, FromLook, PassFrom, Moves, step_tells}
use Rattle.history_laws.proofs.ToldChanges.{changes_after, changes_told}

-- ---- what is kept of an actor
-- what a pass stands on: a write's base is a change, no earlier than what its call was told; a rebuild's object was changed
pub record PassKept (points : List Point) (pairs : List (ℕ × ℕ)) (pass : Pass) : Type 0 where
  pub base : pass.note.kind ≡ Kind.Write → (b : ℕ) → pass.base ≡ Some b → IsChange points pass.note.name b × Follows pairs b
  pub rebuilds : pass.note.kind ≡ Kind.Rebuild → (n : ℕ) × IsChange points pass.note.name n

-- what an outcome names are changes
abbrev pub OutcomeKept : List Point → Note → Outcome → Type 0
OutcomeKept points note (Outcome.Contended pairs) = Races points note.name pairs
OutcomeKept points note (Outcome.Superseded newer) = IsChange points note.name newer
OutcomeKept points note outcome = Unit {0}

abbrev IsSuperseded : Told → Type 0
IsSuperseded (Told.Superseded newer) = Unit {0}
IsSuperseded answer = ⊥

pub record RaceKept (who : Actor) (jobs : List Job) (d : Directory) (c : Calling) : Type 0 where
  pub told : (job : Job) → slice_get jobs (length c.ended) ≡ Some job → job.note.kind ≡ Kind.Write → Races d.points job.note.name (changes_of c.told)
  pub none : Tells IsSuperseded c.told → ⊥
  pub pass : (job : Job) → slice_get jobs (length c.ended) ≡ Some job → (p : Pass) → pass_of who d ≡ Some p → PassKept d.points (changes_of c.told) p
  pub ended : (number : ℕ) (job : Job) (e : Ended) → slice_get jobs number ≡ Some job → slice_get c.ended number ≡ Some e → OutcomeKept d.points job.note e.outcome

outcome_grows : (before after : List Point) → Grows before after → (note : Note) (outcome : Outcome) → OutcomeKept before note outcome → OutcomeKept after note outcome
outcome_grows before now grows note (Outcome.Contended pairs) h = races_grow before now grows note.name pairs h
outcome_grows before after grows note (Outcome.Superseded newer) h = change_grows before after grows note.name newer h
outcome_grows before after grows note outcome h = tt

pass_grows : (before after : List Point) → Grows before after → (pairs : List (ℕ × ℕ)) (p now : Pass) → now.base ≡ p.base → now.note ≡ p.note → PassKept before pairs p → PassKept after pairs now
pass_grows before after grows pairs p now base note h =
    record {
      base = λ writes b is.
          let old : IsChange before p.note.name b × Follows pairs b = h.base (ap (λ (n : Note). n.kind) (sym note) ∙ writes) b (sym base ∙ is) in
          (subst (λ (n : Note). IsChange after n.name b) (sym note) (change_grows before after grows p.note.name b old.0), old.1);
      rebuilds = λ rebuilds.
          let old : (n : ℕ) × IsChange before p.note.name n = h.rebuilds (ap (λ (n : Note). n.kind) (sym note) ∙ rebuilds) in
          (old.0, subst (λ (n : Note). IsChange after n.name old.0) (sym note) (change_grows before after grows p.note.name old.0 old.1));
    }

-- ---- a step of another
-- the actor's pass after it was there before, but for a reap
abbrev pub PassStands : Actor → Directory → Directory → Type 0
PassStands who before after = (now : Pass) → pass_of who after ≡ Some now → (p : Pass) × ((pass_of who before ≡ Some p) × ((now.base ≡ p.base) × (now.note ≡ p.note)))

pub stays : (who : Actor) (jobs : List Job) (before after : Directory) (c : Calling) → Grows before.points after.points → PassStands who before after → RaceKept who jobs before c → RaceKept who jobs after c
stays who jobs before after c grows stands h =
    record {
      told = λ job is writes. races_grow before.points after.points grows job.note.name (changes_of c.told) (h.told job is writes);
      none = h.none;
      pass = λ job is now found.
          let old : (p : Pass) × ((pass_of who before ≡ Some p) × ((now.base ≡ p.base) × (now.note ≡ p.note))) = stands now found in
          pass_grows before.points after.points grows (changes_of c.told) old.0 now old.1.1.0 old.1.1.1 (h.pass job is old.0 old.1.0);
      ended = λ number job e is_job is. outcome_grows before.points after.points grows job.note e.outcome (h.ended number job e is_job is);
    }

pub same_stands : (who : Actor) (before after : Directory) → pass_of who after ≡ pass_of who before → PassStands who before after
same_stands who before after e now found = (now, (sym e ∙ found, (refl, refl)))

-- a reap leaves base and note
pub reap_stands : (who : Actor) (d : Directory) (found : Option Pass) → PassStands who d (reap found d).0
reap_stands who d None now e = (now, (e, (refl, refl)))
reap_stands who d (Some pass) now e = by pass.reaped e
  where
    change : Pass → Pass
    change other = record other { reaped = Some (length d.points) }

    marked : (p : Pass) (b : Bool) → (cond {A = Pass} b (record p { reaped = Some (length d.points) }) p).actor ≡ p.actor
    marked p true = refl
    marked p false = refl

    kept_parts : (p : Pass) (b : Bool) → ((cond {A = Pass} b (record p { reaped = Some (length d.points) }) p).base ≡ p.base) × ((cond {A = Pass} b (record p { reaped = Some (length d.points) }) p).note ≡ p.note)
    kept_parts p true = (refl, refl)
    kept_parts p false = (refl, refl)

    from : (found : Option Pass) → pass_of who d ≡ found → option_map (one_changed pass.actor (λ other. record other { reaped = Some (length d.points) })) found ≡ Some now
        → (p : Pass) × ((pass_of who d ≡ Some p) × ((now.base ≡ p.base) × (now.note ≡ p.note)))
    from None is k = absurd (none-some now k)
    from (Some p) is k =
        let same : one_changed pass.actor (λ other. record other { reaped = Some (length d.points) }) p ≡ now = same_Some (one_changed pass.actor (λ other. record other { reaped = Some (length d.points) }) p) now k in
        let parts : ((one_changed pass.actor (λ other. record other { reaped = Some (length d.points) }) p).base ≡ p.base) × ((one_changed pass.actor (λ other. record other { reaped = Some (length d.points) }) p).note ≡ p.note) = kept_parts p (same_actor pass.actor p.actor) in
        (p, (is, (ap (λ (x : Pass). x.base) (sym same) ∙ parts.0, ap (λ (x : Pass). x.note) (sym same) ∙ parts.1)))

    by : (reaped : Option ℕ) → pass_of who (reap_pass pass reaped d).0 ≡ Some now → (p : Pass) × ((pass_of who d ≡ Some p) × ((now.base ≡ p.base) × (now.note ≡ p.note)))
    by (Some point) k = (now, (k, (refl, refl)))
    by None k =
        from (pass_of who d) refl
        (sym (mapped_found who (one_changed pass.actor (λ other. record other { reaped = Some (length d.points) })) (λ p. marked p (same_actor pass.actor p.actor)) d.passes) ∙ k)

-- ---- the actor's own step
-- an object that is there was changed
object_changed : (d : Directory) → IsSound d → (name : List ℕ) (object : Object) → find_object name d.objects ≡ Some object → (n : ℕ) × (last_change name d.points ≡ Some n)
object_changed d sound name object found = by (last_of d.max name 0 None [] d.points (lengths_of d) sound.history)
  where
    length_is : length_in name (lengths_of d) ≡ Some object.length
    length_is = sym (length_found name d.objects) ∙ ap (option_map (λ (o : Object). o.length)) found

    by : Last d.max name 0 None [] d.points (lengths_of d) → (n : ℕ) × (last_change name d.points ≡ Some n)
    by (inl none) = absurd (none-some object.length (sym none.1 ∙ length_is))
    by (inr h) = (0 + h.place, h.last)

-- a write's base that isn't the last change is earlier
earlier : (base last : ℕ) → base ≤ last → is_overtaken Kind.Write (Some base) (Some last) ≡ true → base < last
earlier base last low overtaken = by (nat_eq base last) refl overtaken
  where
    by : (b : Bool) → nat_eq base last ≡ b → not b ≡ true → base < last
    by true e over = absurd (true≢false (sym over))
    by false e over = strict (λ same. true≢false (sym (eq-eqb base last same) ∙ e))
      where
        strict : (base ≡ last → ⊥) → base < last
        strict differ = omega (arith, low, differ)

module _ (script : Script) (some : 0 < script.geometry.parity_count) (who : Actor) (jobs : List Job) (job : Job) (calling : Calling) (is_job : slice_get jobs (length calling.ended) ≡ Some job)
    (places : Places) (at : AtWork script who job calling places) (shortages : Shortage) (kept : RaceKept who jobs places.directory calling) where
  abbrev g : Shape
  g = script.geometry

  abbrev d : Directory
  d = places.directory

  abbrev told : List Told
  told = first script who job calling places at shortages.coding shortages.step

  abbrev doing : Act
  doing = act script who job calling places at shortages.coding shortages.step

  abbrev made : Places × Told
  made = after script who job calling places at shortages.coding shortages.step

  abbrev points : List Point
  points = made.0.directory.points

  abbrev now : List Told
  now = tell g job told made.1

  abbrev taken : List ℕ
  taken = take_from (act script who job calling places at shortages.coding shortages.step) made.1 calling.takes

  abbrev middle : Calling
  middle = record { ended = calling.ended; told = now; takes = taken; steps = calling.steps + 1 }

  grows : Grows d.points points
  grows = act_grows shortages.step who (length calling.ended) (act script who job calling places at shortages.coding shortages.step) places

  -- want of memory before the act changes nothing here
  first_changes : job.note.kind ≡ Kind.Write → (coding has : Bool) → changes_of (told_first coding has g job calling.told) ≡ changes_of calling.told
  first_changes writes true true = changes_told g job writes calling.told Told.Short
  first_changes writes true false = refl
  first_changes writes false has = refl

  first_none : (coding has : Bool) → Tells IsSuperseded (told_first coding has g job calling.told) → ⊥
  first_none true true h = by (told_either IsSuperseded (λ k. k) g some job calling.told Told.Short h)
    where
      by : Tells IsSuperseded calling.told ⊎ IsSuperseded Told.Short → ⊥
      by (inl k) = kept.none k
      by (inr k) = k
  first_none true false h = kept.none h
  first_none false has h = kept.none h

  -- ---- what the step tells
  server_tells : (step : ServerStep) (answer : Told) → ServerAnswers step answer → RaceTold who job.note d d.passes answer
  server_tells (ServerStep.Prepare version) (Told.Changed base newer) h = absurd h
  server_tells step (Told.Changed base newer) h = absurd h
  server_tells (ServerStep.Prepare version) (Told.Superseded newer) h = absurd h
  server_tells step (Told.Superseded newer) h = absurd h
  server_tells step answer h = tt

  old_passes : PassFrom who job.note d d.passes
  old_passes p found = inl (record { pass = p; found = found; same_base = refl; same_note = refl })

  server_moves : (n : ℕ) (step : ServerStep) (found : Option Server) → ServerAnswers step (at_server_there shortages.step n step places found).1
      → Moves who job.note d ((at_server_there shortages.step n step places found).0.directory, (at_server_there shortages.step n step places found).1)
  server_moves n step None h = (server_tells step _ h, old_passes)
  server_moves n step (Some s) h = (server_tells step _ h, old_passes)

  act_moves : (pins touched : ℕ) (a : Act) → IsProper g job (HasTry job.note.kind (tries_of script) told) a → ActOfKind g job.note.kind a → Answers pins touched a (at_places shortages.step who (length calling.ended) a places).1
      → Moves who job.note d ((at_places shortages.step who (length calling.ended) a places).0.directory, (at_places shortages.step who (length calling.ended) a places).1)
  act_moves pins touched (Act.AtDirectory step) is_proper kind h =
      step_tells g who job.note d (length calling.ended) at.self shortages.step step (call_step job (HasTry job.note.kind (tries_of script) told) step is_proper) kind
  act_moves pins touched (Act.AtServer n step) is_proper kind h = server_moves n step (slice_get places.servers n) h
  act_moves pins touched (Act.Finish outcome) is_proper kind h = absurd h

  moved : Moves who job.note d (made.0.directory, made.1)
  moved =
      act_moves (pin_bound g (size_of script) job.note) (touched_count g job.note) (act script who job calling places at shortages.coding shortages.step)
      (proper script who job calling places at shortages.coding shortages.step) (of_kind script who job calling places at shortages.coding shortages.step)
      (answered script who job calling places at shortages.coding shortages.step).answers

  -- a write's pass has a base
  based : job.note.kind ≡ Kind.Write → (p : Pass) → pass_of who d ≡ Some p → HasBase d p
  based writes p found =
      subst (IsRight d p) (ap (λ (n : Note). n.kind) (pass_note script who job calling places at p found) ∙ writes)
      (All-contains (λ (x : Pass). IsRight d x x.note.kind) d.passes p at.sound.calls (found_there (λ (x : Pass). same_actor who x.actor) d.passes p found).0)

  abbrev pairs : List (ℕ × ℕ)
  pairs = changes_of calling.told

  told_pairs : job.note.kind ≡ Kind.Write → changes_of told ≡ pairs
  told_pairs writes = first_changes writes shortages.coding _

  now_pairs : job.note.kind ≡ Kind.Write → changes_of now ≡ changes_after made.1 pairs
  now_pairs writes = changes_told g job writes told made.1 ∙ ap (changes_after made.1) (told_pairs writes)

  old_races : job.note.kind ≡ Kind.Write → Races d.points job.note.name pairs
  old_races writes = kept.told job is_job writes

  -- one race more
  more_races : job.note.kind ≡ Kind.Write → (base newer : ℕ) → ChangedBy who job.note d base newer → Races d.points job.note.name (pairs ++ (base, newer) ∷ [])
  more_races writes base newer by =
      let noted : by.pass.note ≡ job.note = pass_note script who job calling places at by.pass by.found in
      let has : HasBase d by.pass = based writes by.pass by.found in
      let old : IsChange d.points by.pass.note.name has.base × Follows pairs has.base = (kept.pass job is_job by.pass by.found).base (ap (λ (n : Note). n.kind) noted ∙ writes) has.base has.is_base in
      let late : LastFrom (last_change by.pass.note.name d.points) has.base = last_late by.pass.note.name d.points has.base old.0 in
      let base_is : base ≡ has.base = by.base_is ∙ ap (λ o. unwrap_or o 0) has.is_base in
      let newer_is : newer ≡ late.last = by.newer_is ∙ ap (λ o. unwrap_or o 0) late.is_last in
      let over : is_overtaken Kind.Write (Some has.base) (Some late.last) ≡ true =
      sym (λ i. is_overtaken (kind_is by noted i) (has.is_base i) (late.is_last i)) ∙ by.overtaken in
      let less : has.base < late.last = earlier has.base late.last late.late over in
      subst (λ n. Races d.points n.name (pairs ++ (base, newer) ∷ [])) noted
      (subst (λ b. Races d.points by.pass.note.name (pairs ++ (b, newer) ∷ [])) (sym base_is)
      (subst (λ n. Races d.points by.pass.note.name (pairs ++ (has.base, n) ∷ [])) (sym newer_is)
      (races_push d.points by.pass.note.name pairs has.base late.last (subst (λ (n : Note). Races d.points n.name pairs) (sym noted) (old_races writes)) old.1 less old.0
      (last_is by.pass.note.name d.points late.last late.is_last))))
    where
      kind_is : (by : ChangedBy who job.note d base newer) → by.pass.note ≡ job.note → by.pass.note.kind ≡ Kind.Write
      kind_is by noted = ap (λ (n : Note). n.kind) noted ∙ writes

  told_races : job.note.kind ≡ Kind.Write → (answer : Told) → RaceTold who job.note d made.0.directory.passes answer → Races d.points job.note.name (changes_after answer pairs)
  told_races writes (Told.Changed base newer) h = more_races writes base newer h.0
  told_races writes (Told.Done point) h = tt
  told_races writes answer h = old_races writes

  now_races : job.note.kind ≡ Kind.Write → Races points job.note.name (changes_of now)
  now_races writes = subst (Races points job.note.name) (sym (now_pairs writes)) (races_grow d.points points grows job.note.name (changes_after made.1 pairs) (told_races writes made.1 moved.0))

  -- ---- the pass that is left
  -- what its base follows
  abbrev PassNow : List (ℕ × ℕ) → Pass → Type 0
  PassNow pairs_now p = PassKept points pairs_now p

  looked : (p : Pass) → FromLook who job.note d p → (pairs_now : List (ℕ × ℕ)) → (job.note.kind ≡ Kind.Write → (b : ℕ) → Follows pairs b → Follows pairs_now b) → PassKept points pairs_now p
  looked p from pairs_now weaker =
      record {
        base = λ writes b is.
            let kind : job.note.kind ≡ Kind.Write = ap (λ (n : Note). n.kind) (sym from.noted) ∙ writes in
            let last : last_change job.note.name d.points ≡ Some b = from.base b is in (
              subst (λ (n : Note). IsChange points n.name b) (sym from.noted) (change_grows d.points points grows job.note.name b (last_is job.note.name d.points b last)),
              weaker kind b (last_follows d.points job.note.name pairs (old_races kind) b last),
            );
        rebuilds = λ rebuilds.
            let kind : job.note.kind ≡ Kind.Rebuild = ap (λ (n : Note). n.kind) (sym from.noted) ∙ rebuilds in
            let there : (object : Object) × (find_object job.note.name d.objects ≡ Some object) = from.there kind in
            let last : (n : ℕ) × (last_change job.note.name d.points ≡ Some n) = object_changed d at.sound job.note.name there.0 there.1 in
            (last.0, subst (λ (n : Note). IsChange points n.name last.0) (sym from.noted) (change_grows d.points points grows job.note.name last.0 (last_is job.note.name d.points last.0 last.1)));
      }

  weaker_pass : (pairs_now : List (ℕ × ℕ)) → (job.note.kind ≡ Kind.Write → (b : ℕ) → Follows pairs b → Follows pairs_now b) → (p : Pass) → p.note ≡ job.note → PassKept points pairs p → PassKept points pairs_now p
  weaker_pass pairs_now weaker p noted h =
      record { base = λ writes b is. ((h.base writes b is).0, weaker (ap (λ (n : Note). n.kind) (sym noted) ∙ writes) b (h.base writes b is).1); rebuilds = h.rebuilds }

  left : (pairs_now : List (ℕ × ℕ)) → (job.note.kind ≡ Kind.Write → (b : ℕ) → Follows pairs b → Follows pairs_now b) → (p : Pass) → FromOld who job.note d p ⊎ FromLook who job.note d p → PassKept points pairs_now p
  left pairs_now weaker p (inl old) =
      weaker_pass pairs_now weaker p (old.same_note ∙ pass_note script who job calling places at old.pass old.found)
      (pass_grows d.points points grows pairs old.pass p old.same_base old.same_note (kept.pass job is_job old.pass old.found))
  left pairs_now weaker p (inr look) = looked p look pairs_now weaker

  -- by the answer: after a change there is no pass
  answer_pass : (answer : Told) → RaceTold who job.note d made.0.directory.passes answer → (job.note.kind ≡ Kind.Write → changes_of now ≡ changes_after answer pairs)
      → (p : Pass) → found_in who made.0.directory.passes ≡ Some p → PassKept points (changes_of now) p
  answer_pass (Told.Changed base newer) h e p found = absurd (none-some p (sym h.1 ∙ found))
  answer_pass (Told.Done point) h e p found = left (changes_of now) (λ writes b k. subst (λ l. Follows l b) (sym (e writes)) tt) p (moved.1 p found)
  answer_pass answer h e p found = left (changes_of now) (λ writes b k. subst (λ l. Follows l b) (sym (e writes)) k) p (moved.1 p found)

  now_pass : (p : Pass) → pass_of who made.0.directory ≡ Some p → PassKept points (changes_of now) p
  now_pass p found = answer_pass made.1 moved.0 now_pairs p found

  -- ---- the outcome
  late_change : (newer : ℕ) → SupersededBy who job.note d newer → job.note.kind ≡ Kind.Rebuild → IsChange points job.note.name newer
  late_change newer by rebuilds =
      let noted : by.pass.note ≡ job.note = pass_note script who job calling places at by.pass by.found in
      let old : (n : ℕ) × IsChange d.points by.pass.note.name n = (kept.pass job is_job by.pass by.found).rebuilds (ap (λ (n : Note). n.kind) noted ∙ rebuilds) in
      let late : LastFrom (last_change by.pass.note.name d.points) old.0 = last_late by.pass.note.name d.points old.0 old.1 in
      let newer_is : newer ≡ late.last = by.newer_is ∙ ap (λ o. unwrap_or o 0) late.is_last in
      subst (λ (n : Note). IsChange points n.name newer) noted
      (change_grows d.points points grows by.pass.note.name newer
      (subst (IsChange d.points by.pass.note.name) (sym newer_is) (last_is by.pass.note.name d.points late.last late.is_last)))

  told_superseded : (newer : ℕ) (list : List Told) → Tells (λ answer. answer ≡ Told.Superseded newer) list → Tells IsSuperseded list
  told_superseded newer [] h = absurd h
  told_superseded newer (answer ∷ list) (inl e) = inl (subst IsSuperseded (sym e) tt)
  told_superseded newer (answer ∷ list) (inr h) = inr (told_superseded newer list h)

  superseded_now : (newer : ℕ) → Tells (λ answer. answer ≡ Told.Superseded newer) now → made.1 ≡ Told.Superseded newer
  superseded_now newer h = by (told_either (λ answer. answer ≡ Told.Superseded newer) not_gathered g some job told made.1 h)
    where
      not_gathered : Told.Gathered ≡ Told.Superseded newer → ⊥
      not_gathered e = subst IsSuperseded (sym e) tt

      by : Tells (λ answer. answer ≡ Told.Superseded newer) told ⊎ (made.1 ≡ Told.Superseded newer) → made.1 ≡ Told.Superseded newer
      by (inl k) = absurd (first_none shortages.coding _ (told_superseded newer told k))
      by (inr k) = k

  outcome_now : (outcome : Outcome) → next_act g (tries_of script) job now ≡ Act.Finish outcome → OutcomeKept points job.note outcome
  outcome_now (Outcome.Contended lost) e =
      let writes : job.note.kind ≡ Kind.Write = (outcomes_in_steps g (size_of script) (tries_of script) job).kinds now (Outcome.Contended lost) e in
      let caused : IsCaused g (tries_of script) now (Act.Finish (Outcome.Contended lost)) = subst (IsCaused g (tries_of script) now) e (causes g (tries_of script) job now some) in
      subst (Races points job.note.name) (sym caused.0) (now_races writes)
  outcome_now (Outcome.Superseded newer) e =
      let rebuilds : job.note.kind ≡ Kind.Rebuild = (outcomes_in_steps g (size_of script) (tries_of script) job).kinds now (Outcome.Superseded newer) e in
      let caused : IsCaused g (tries_of script) now (Act.Finish (Outcome.Superseded newer)) = subst (IsCaused g (tries_of script) now) e (causes g (tries_of script) job now some) in
      late_change newer (subst (RaceTold who job.note d made.0.directory.passes) (superseded_now newer caused) moved.0) rebuilds
  outcome_now outcome e = tt

  -- a call that is told so ends
  abbrev EndsIt : Act → Type 0
  EndsIt (Act.Finish outcome) = Unit {0}
  EndsIt _ = ⊥

  superseded_ends : (pins touched : ℕ) (a : Act) → next_act g (tries_of script) job told ≡ a → (answer : Told) → IsSuperseded answer → Answers pins touched a answer → EndsIt (next_act g (tries_of script) job (tell g job told answer))
  superseded_ends pins touched (Act.AtDirectory DirectoryStep.Confirm) e (Told.Superseded newer) is h = subst EndsIt (sym ((answers_end_calls g (tries_of script) job).superseded told newer e)) tt
  superseded_ends pins touched (Act.AtDirectory step) e (Told.Superseded newer) is h = absurd h
  superseded_ends pins touched (Act.AtServer server (ServerStep.Prepare version)) e (Told.Superseded newer) is h = absurd h
  superseded_ends pins touched (Act.AtServer server step) e (Told.Superseded newer) is h = absurd h
  superseded_ends pins touched (Act.Finish outcome) e (Told.Superseded newer) is h = absurd h
  superseded_ends pins touched a e answer is h = absurd is

  none_now : (EndsIt (next_act g (tries_of script) job now) → ⊥) → Tells IsSuperseded now → ⊥
  none_now on h = by (told_either IsSuperseded (λ k. k) g some job told made.1 h)
    where
      by : Tells IsSuperseded told ⊎ IsSuperseded made.1 → ⊥
      by (inl k) = first_none shortages.coding _ k
      by (inr k) =
          on (superseded_ends (pin_bound g (size_of script) job.note) (touched_count g job.note) (act script who job calling places at shortages.coding shortages.step) refl made.1 k
          (answered script who job calling places at shortages.coding shortages.step).answers)

  old_ended : (number : ℕ) (j : Job) (e : Ended) → slice_get jobs number ≡ Some j → slice_get calling.ended number ≡ Some e → OutcomeKept points j.note e.outcome
  old_ended number j e is_j is = outcome_grows d.points points grows j.note e.outcome (kept.ended number j e is_j is)

  same_job : (j : Job) → slice_get jobs (length calling.ended) ≡ Some j → job ≡ j
  same_job j is = same_Some job j (sym is_job ∙ is)

  goes_on : (EndsIt (next_act g (tries_of script) job now) → ⊥) → RaceKept who jobs made.0.directory middle
  goes_on on =
      record {
        told = λ j is writes.
            let same : job ≡ j = same_job j is in subst (λ (x : Job). Races points x.note.name (changes_of now)) same (now_races (ap (λ (x : Job). x.note.kind) same ∙ writes));
        none = none_now on;
        pass = λ j is p found. now_pass p found;
        ended = old_ended;
      }

  -- the next call has no pass yet
  no_pass : (j : Job) (c : Calling) → c.told ≡ [] → InWork g (size_of script) (tries_of script) j who c made.0.directory → 1 ≤ tries_of script → (p : Pass) → pass_of who made.0.directory ≡ Some p → ⊥
  no_pass j c fresh in_work tried p found =
      none-some p (sym (none_held (pass_of who made.0.directory) (in_work.stands.pass ∙ ap (λ l. note_if (has_pass (phase_of (next_act g (tries_of script) j l))) j.note) fresh ∙ ap (λ ph. note_if (has_pass ph) j.note) (is_looking j.note.kind g (tries_of script) j tried))) ∙ found)

  module _ (tried : 1 ≤ tries_of script) where
    by_act : (a : Act) → next_act g (tries_of script) job now ≡ a
        → ((j : Job) → slice_get jobs (length (ended_by a (chunk_count g) middle).ended) ≡ Some j → InWork g (size_of script) (tries_of script) j who (ended_by a (chunk_count g) middle) made.0.directory)
        → RaceKept who jobs made.0.directory (ended_by a (chunk_count g) middle)
    by_act (Act.Finish outcome) e in_work =
        record {
          told = λ j is writes. tt;
          none = λ h. h;
          pass = λ j is p found. absurd (no_pass j (ended_by (Act.Finish outcome) (chunk_count g) middle) refl (in_work j is) tried p found);
          ended = λ number j x is_j is. two number j x is_j (pushed calling.ended (record { outcome = outcome; takes = taken }) number x is);
        }
      where
        two : (number : ℕ) (j : Job) (x : Ended) → slice_get jobs number ≡ Some j
            → (slice_get calling.ended number ≡ Some x) ⊎ ((number ≡ length calling.ended) × (record { outcome = outcome; takes = take_from (act script who job calling places at shortages.coding shortages.step) (after script who job calling places at shortages.coding shortages.step).1 calling.takes } ≡ x))
            → OutcomeKept points j.note x.outcome
        two number j x is_j (inl is) = old_ended number j x is_j is
        two number j x is_j (inr h) =
            let same : job ≡ j = same_job j (subst (λ n. slice_get jobs n ≡ Some j) h.0 is_j) in
            subst (λ (y : Job). OutcomeKept points y.note x.outcome) same (subst (λ (y : Ended). OutcomeKept points job.note y.outcome) h.1 (outcome_now outcome e))
    by_act (Act.AtDirectory step) e in_work = goes_on (λ h. subst EndsIt e h)
    by_act (Act.AtServer server step) e in_work = goes_on (λ h. subst EndsIt e h)

    own_step : ((j : Job) → slice_get jobs (length (actor_step g (tries_of script) shortages who job calling places).1.ended) ≡ Some j
        → InWork g (size_of script) (tries_of script) j who (actor_step g (tries_of script) shortages who job calling places).1 made.0.directory)
        → RaceKept who jobs (actor_step g (tries_of script) shortages who job calling places).0.directory (actor_step g (tries_of script) shortages who job calling places).1
    own_step in_work = by_act (next_act g (tries_of script) job now) refl in_work

-- ---- another's step
module _ (script : Script) (who : Actor) (job : Job) (calling : Calling) (places : Places) (at : AtWork script who job calling places) (shortages : Shortage) where
  other_pass : (other : Actor) → same_actor other who ≡ false → pass_of other (actor_step script.geometry (tries_of script) shortages who job calling places).0.directory ≡ pass_of other places.directory
  other_pass other apart = by (act script who job calling places at shortages.coding shortages.step) (proper script who job calling places at shortages.coding shortages.step)
    where
      server : (n : ℕ) (step : ServerStep) (found : Option Server) → pass_of other (at_server_there shortages.step n step places found).0.directory ≡ pass_of other places.directory
      server n step None = refl
      server n step (Some s) = refl

      by : (a : Act) → IsProper script.geometry job (HasTry job.note.kind (tries_of script) (first script who job calling places at shortages.coding shortages.step)) a
          → pass_of other (at_places shortages.step who (length calling.ended) a places).0.directory ≡ pass_of other places.directory
      by (Act.AtDirectory step) is_proper =
          (step_moves shortages.step who (length calling.ended) job.note step places.directory at.self
          (call_step job (HasTry job.note.kind (tries_of script) (first script who job calling places at shortages.coding shortages.step)) step is_proper) (pass_number script who job calling places at)).others other apart
      by (Act.AtServer n step) is_proper = server n step (slice_get places.servers n)
      by (Act.Finish outcome) is_proper = refl

  beside : (other : Actor) → same_actor other who ≡ false → (jobs : List Job) (c : Calling) → RaceKept other jobs places.directory c → RaceKept other jobs (actor_step script.geometry (tries_of script) shortages who job calling places).0.directory c
  beside other apart jobs c h =
      stays other jobs places.directory (actor_step script.geometry (tries_of script) shortages who job calling places).0.directory c
      (act_grows shortages.step who (length calling.ended) (act script who job calling places at shortages.coding shortages.step) places)
      (same_stands other places.directory (actor_step script.geometry (tries_of script) shortages who job calling places).0.directory (other_pass other apart)) h

-- ---- all actors
pub record AllRaces (script : Script) (core : Core) : Type 0 where
  pub clients : (i : ℕ) (c : Calling) → slice_get core.clients i ≡ Some c → (work : Work) → slice_get (client_work script) i ≡ Some work → RaceKept (actor.Client i) work.jobs core.directory c
  pub repairers : (i : ℕ) (c : Calling) → slice_get core.repairers i ≡ Some c → (work : Work) → slice_get (repairer_work script) i ≡ Some work → RaceKept (actor.Repairer i) work.jobs core.directory c

-- where the core is one of a run
abbrev RacesIn : Script → List Token → Core → Type 0
RacesIn script past core = RunKeeps script core → AllRaces script core

module _ (script : Script) (can : CanRun script) (some : 0 < script.geometry.parity_count) where
  -- a step of the sweeper or the operator
  others : (core : Core) (who : Actor) (number : ℕ) (a : Act) → ((actor : Actor) → PassStands actor core.directory (at_places false who number a (places_in core)).0.directory) → AllRaces script core
      → (after_core : Core) → after_core.directory ≡ (at_places false who number a (places_in core)).0.directory → after_core.clients ≡ core.clients → after_core.repairers ≡ core.repairers → AllRaces script after_core
  others core who number a stands has after_core same clients repairers =
      record {
        clients = λ i c e work is.
            subst (λ (x : Directory). RaceKept (actor.Client i) work.jobs x c) (sym same)
            (stays (actor.Client i) work.jobs core.directory (at_places false who number a (places_in core)).0.directory c (act_grows false who number a (places_in core)) (stands (actor.Client i))
            (has.clients i c (ap (λ (l : List Calling). slice_get l i) (sym clients) ∙ e) work is));
        repairers = λ i c e work is.
            subst (λ (x : Directory). RaceKept (actor.Repairer i) work.jobs x c) (sym same)
            (stays (actor.Repairer i) work.jobs core.directory (at_places false who number a (places_in core)).0.directory c (act_grows false who number a (places_in core)) (stands (actor.Repairer i))
            (has.repairers i c (ap (λ (l : List Calling). slice_get l i) (sym repairers) ∙ e) work is));
      }

  server_stands : (who other : Actor) (n : ℕ) (step : ServerStep) (core : Core) (found : Option Server) → PassStands other core.directory (at_server_there false n step (places_in core) found).0.directory
  server_stands who other n step core None = same_stands other core.directory core.directory refl
  server_stands who other n step core (Some s) = same_stands other core.directory core.directory refl

  sweeper_stands : (core : Core) (other : Actor) (sweeper : Sweeper) → PassStands other core.directory (at_places false actor.Sweeper 0 (next_sweep (chunk_count script.geometry) sweeper) (places_in core)).0.directory
  sweeper_stands core other Sweeper.Idle =
      same_stands other core.directory (at_places false actor.Sweeper 0 (Act.AtDirectory DirectoryStep.NextGarbage) (places_in core)).0.directory (sweeps_apart other (first_garbage core.directory) core.directory)
  sweeper_stands core other (Sweeper.Sweeping version server) =
      cond_both {A = Act} (nat_lt server (chunk_count script.geometry)) (Act.AtServer server (ServerStep.Discard version)) (Act.AtDirectory (DirectoryStep.Swept version))
      (λ a. PassStands other core.directory (at_places false actor.Sweeper 0 a (places_in core)).0.directory)
      (λ _. server_stands actor.Sweeper other server (ServerStep.Discard version) core (slice_get core.servers server))
      (λ _. same_stands other core.directory (at_places false actor.Sweeper 0 (Act.AtDirectory (DirectoryStep.Swept version)) (places_in core)).0.directory refl)

  races_kept : KeptBySteps script can (RacesIn script)
  races_kept =
      record {
        quiet = λ past next core is_quiet has. has;
        client = λ past core kept has_if i work calling job is_work is_calling is_job shortages kept_after.
            let at : AtWork script (actor.Client i) job calling (places_in core) = client_at script can core kept i work calling job is_work is_calling is_job in
            let next : Places × Calling = actor_step script.geometry (tries_of script) shortages (actor.Client i) job calling (places_in core) in
            let has : AllRaces script core = has_if kept in
            let is_next : slice_get (change_at i (λ _. next.1) core.clients) i ≡ Some next.1 = slice_changed i calling next.1 core.clients is_calling in
            record {
              clients =
                  each_changed (λ j c. (w : Work) → slice_get (client_work script) j ≡ Some w → RaceKept (actor.Client j) w.jobs next.0.directory c) i calling next.1 core.clients is_calling
                  (λ w is.
                  let same : work ≡ w = same_Some work w (sym is_work ∙ is) in
                  subst (λ (x : Work). RaceKept (actor.Client i) x.jobs next.0.directory next.1) same
                  (own_step script some (actor.Client i) work.jobs job calling is_job (places_in core) at shortages (has.clients i calling is_calling work is_work) can.tried
                  (λ j is_j. (client_at script can (client_after i core next) kept_after i work next.1 j is_work is_next is_j).in_work)))
                  (λ j differ c e w is. beside script (actor.Client i) job calling (places_in core) at shortages (actor.Client j) (can.clients.apart i j differ) w.jobs c (has.clients j c e w is));
              repairers = λ j c e w is. beside script (actor.Client i) job calling (places_in core) at shortages (actor.Repairer j) refl w.jobs c (has.repairers j c e w is);
            };
        repairer = λ past core kept has_if i work calling job is_work is_calling is_job shortages kept_after.
            let at : AtWork script (actor.Repairer i) job calling (places_in core) = repairer_at script can core kept i work calling job is_work is_calling is_job in
            let next : Places × Calling = actor_step script.geometry (tries_of script) shortages (actor.Repairer i) job calling (places_in core) in
            let has : AllRaces script core = has_if kept in
            let is_next : slice_get (change_at i (λ _. next.1) core.repairers) i ≡ Some next.1 = slice_changed i calling next.1 core.repairers is_calling in
            record {
              clients = λ j c e w is. beside script (actor.Repairer i) job calling (places_in core) at shortages (actor.Client j) refl w.jobs c (has.clients j c e w is);
              repairers =
                  each_changed (λ j c. (w : Work) → slice_get (repairer_work script) j ≡ Some w → RaceKept (actor.Repairer j) w.jobs next.0.directory c) i calling next.1 core.repairers is_calling
                  (λ w is.
                  let same : work ≡ w = same_Some work w (sym is_work ∙ is) in
                  subst (λ (x : Work). RaceKept (actor.Repairer i) x.jobs next.0.directory next.1) same
                  (own_step script some (actor.Repairer i) work.jobs job calling is_job (places_in core) at shortages (has.repairers i calling is_calling work is_work) can.tried
                  (λ j is_j. (repairer_at script can (repairer_after i core next) kept_after i work next.1 j is_work is_next is_j).in_work)))
                  (λ j differ c e w is. beside script (actor.Repairer i) job calling (places_in core) at shortages (actor.Repairer j) (can.repairers.apart i j differ) w.jobs c (has.repairers j c e w is));
            };
        sweeper = λ past core kept has kept_after.
            others core actor.Sweeper 0 (next_sweep (chunk_count script.geometry) core.sweeper) (λ other. sweeper_stands core other core.sweeper) (has kept) (sweeper_after script core) refl refl refl;
        wipe = λ past core kept has server kept_after.
            others core actor.Operator 0 (Act.AtServer server ServerStep.Wipe) (λ other. server_stands actor.Operator other server ServerStep.Wipe core (slice_get core.servers server)) (has kept)
            (operator_after (Act.AtServer server ServerStep.Wipe) core) refl refl refl;
        down = λ past core kept has server kept_after.
            others core actor.Operator 0 (Act.AtServer server ServerStep.Down) (λ other. server_stands actor.Operator other server ServerStep.Down core (slice_get core.servers server)) (has kept)
            (operator_after (Act.AtServer server ServerStep.Down) core) refl refl refl;
        up = λ past core kept has server kept_after.
            others core actor.Operator 0 (Act.AtServer server ServerStep.Up) (λ other. server_stands actor.Operator other server ServerStep.Up core (slice_get core.servers server)) (has kept)
            (operator_after (Act.AtServer server ServerStep.Up) core) refl refl refl;
        reap_client = λ past core kept has i kept_after.
            others core actor.Operator 0 (Act.AtDirectory (DirectoryStep.Reap (actor.Client i))) (λ other. reap_stands other core.directory (pass_of (actor.Client i) core.directory)) (has kept)
            (operator_after (Act.AtDirectory (DirectoryStep.Reap (actor.Client i))) core) refl refl refl;
        reap_repairer = λ past core kept has i kept_after.
            others core actor.Operator 0 (Act.AtDirectory (DirectoryStep.Reap (actor.Repairer i))) (λ other. reap_stands other core.directory (pass_of (actor.Repairer i) core.directory)) (has kept)
            (operator_after (Act.AtDirectory (DirectoryStep.Reap (actor.Repairer i))) core) refl refl refl;
      }

  fresh_races : (who : Actor) (jobs : List Job) (c : Calling) → new_calling (chunk_count script.geometry) ≡ c → RaceKept who jobs (first_core script).directory c
  fresh_races who jobs c e =
      subst (RaceKept who jobs (first_core script).directory) e
      (record { told = λ j is writes. tt; none = λ h. h; pass = λ j is p found. absurd (none-some p found); ended = λ number j x is_j is. absurd (none-some x is) })

  no_races : RacesIn script [] (first_core script)
  no_races kept =
      record {
        clients = λ i c e work is. fresh_races (actor.Client i) work.jobs c (replicated (length script.clients) i (new_calling (chunk_count script.geometry)) c e);
        repairers = λ i c e work is. fresh_races (actor.Repairer i) work.jobs c (replicated (length script.repairers) i (new_calling (chunk_count script.geometry)) c e);
      }

  -- so at the end of every run
  pub all_races : (shortages : List Shortage) (tokens : List Token) → AllRaces script (run_core script shortages tokens)
  all_races shortages tokens =
      let end : RunKeeps script (run_core script shortages tokens) × RacesIn script tokens (run_core script shortages tokens) = run_has script can (RacesIn script) races_kept shortages no_races tokens in
      end.1 end.0
