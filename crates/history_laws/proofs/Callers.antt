-- A step of a call: what its pass stands on in time, and what it was told of reaps and changes.
use Rattle.std.proofs.Common.{◌≡◌, ◌⊎◌, inl, inr, ℕ, zero, suc, ◌+◌, ◌<◌, ◌≤◌, Bool, true, false, not, ◌&&◌, nat_eq, List, [], ◌∷◌, ◌++◌, length, Option, None, Some, unwrap_or, All, refl, sym, ap, subst, ◌∙◌, arith, true≢false}
use Rattle.std.proofs.lemmas.Bool.{eq-eqb}
use Rattle.std.proofs.lemmas.List.Elements.{All-nil, All-cons, All-head, All-tail, All-append, All-contains}
use Rattle.std.proofs.lemmas.Option.{none-some, same_Some, slice_get_within}
use Rattle.std.specs.List.{slice_get, list_all}
use Rattle.clay_grid.specs.Shape.{Shape, chunk_count}
use Rattle.store_map.specs.Limits.{size_of, tries_of}
use Rattle.store_map.specs.declared.actor.Actor.{Actor}
use Rattle.store_map.specs.declared.script.Script.{Script}
use Rattle.store_core.specs.Act.{Act, DirectoryStep, ServerStep, Outcome}
use Rattle.store_core.specs.Agreement.{IsTold, IsInObject, WasChanged, KeepsOrder, AgreesWithPass}
use Rattle.store_core.specs.Bounds.{touched_count}
use Rattle.store_core.specs.Commit.{is_overtaken}
use Rattle.store_core.specs.Directory.{Object, Pin, Pass, Directory}
use Rattle.store_core.specs.Lookups.{same_actor, find_object, pass_of, last_change, is_current}
use Rattle.store_core.specs.NextAct.{Job, next_act}
use Rattle.store_core.specs.Note.{Note, Kind}
use Rattle.store_core.specs.Server.{Server}
use Rattle.store_core.specs.SoundPasses.{HasBase, IsRight}
use Rattle.store_core.specs.Step.{Shortage, Places, at_places, at_server_there, told_first, take_from, ended_by, actor_step}
use Rattle.store_core.specs.Tell.{tell}
use Rattle.store_core.specs.Told.{Told}
use Rattle.store_core.specs.Work.{Ended, Calling}
use Rattle.run_laws.specs.Answers.{ServerAnswers, Answers}
use Rattle.run_laws.specs.CallLeft.{pin_bound}
use Rattle.run_laws.specs.CauseLaws.{changes_of, IsCaused}
use Rattle.run_laws.specs.GatherLaws.{Tells}
use Rattle.run_laws.proofs.Causes.{causes}
use Rattle.run_laws.proofs.Ends.{answers_end_calls}
use Rattle.run_laws.proofs.StepOutcomes.{outcomes_in_steps}
use Rattle.run_laws.proofs.ActAnswers.{note_if}
use Rattle.run_laws.proofs.ActorSteps.{InWork, is_looking}
use Rattle.run_laws.proofs.CallActs.{ActOfKind}
use Rattle.run_laws.proofs.MaySteps.{none_held}
use Rattle.run_laws.proofs.Phases.{phase_of, has_pass}
use Rattle.run_laws.proofs.PlaceMoves.{call_step}
use Rattle.run_laws.proofs.Proper.{ProperStep, IsProper, HasTry}
use Rattle.run_laws.proofs.OwnSteps.{steps_may_be_made}
use Rattle.run_laws.proofs.Passes.{pass_is}
use Rattle.run_laws.proofs.SoundLists.{found_in as found_there}
use Rattle.history_laws.proofs.AnsweredPoints.{pushed}
use Rattle.history_laws.proofs.AtWork.{AtWork, pass_note, first, act, after, proper, answered, of_kind}
use Rattle.history_laws.proofs.GivenUpRuns.{told_either}
use Rattle.history_laws.proofs.Changes.{IsChange, last_is, last_late, LastFrom}
use Rattle.history_laws.proofs.ToldChanges.{changes_after, changes_told}
use Rattle.history_laws.specs.Trace.{Made, call_made}
use Rattle.history_laws.specs.Moments.{Happened}
use Rattle.history_laws.specs.PointsInTime.{AnyStep}
use Rattle.history_laws.proofs.Past.{last, on}
use Rattle.history_laws.proofs.StepPasses.{DrawsOnly, ChangedBy, SupersededBy, ReapedBy, PassTold, FromOld, FromLook, FromRepair, PassFrom, Moves, step_tells}
use Rattle.history_laws.proofs.Within.{Own, PointWithin, ReapOf, latest, late_enough, PassThen, act_appends, stays_then}

-- a point that came within a call, which made a step after it
abbrev pub ComesOwn : List Made → Actor → ℕ → (Made → Type 0) → ℕ → Type 0
ComesOwn trace who number By point = Happened trace (λ before made. Own who number made × PointWithin before who number By point)

abbrev pub LostOwn : List Made → Actor → ℕ → ℕ × ℕ → Type 0
LostOwn trace who number pair = ComesOwn trace who number AnyStep pair.1

-- what an outcome names came within its call
abbrev pub EndedThen : List Made → Actor → ℕ → Outcome → Type 0
EndedThen trace who number (Outcome.Contended pairs) = All (LostOwn trace who number) pairs
EndedThen trace who number (Outcome.Superseded newer) = ComesOwn trace who number AnyStep newer
EndedThen trace who number (Outcome.Reaped point) = ComesOwn trace who number (ReapOf who) point
EndedThen trace who number outcome = Unit {0}

-- a kind that is no rebuild
abbrev NotRebuild : Kind → Type 0
NotRebuild Kind.Rebuild = ⊥
NotRebuild kind = Unit {0}

-- an answer that ends a call so
abbrev pub IsEnding : Told → Type 0
IsEnding (Told.Superseded newer) = Unit {0}
IsEnding (Told.Reaped point) = Unit {0}
IsEnding answer = ⊥

-- what is kept of an actor
pub record ActorThen (trace : List Made) (d : Directory) (who : Actor) (jobs : List Job) (c : Calling) : Type 0 where
  pub pass : (job : Job) → slice_get jobs (length c.ended) ≡ Some job → (p : Pass) → pass_of who d ≡ Some p → PassThen trace d who (length c.ended) p
  pub lost : (job : Job) → slice_get jobs (length c.ended) ≡ Some job → job.note.kind ≡ Kind.Write → All (LostOwn trace who (length c.ended)) (changes_of c.told)
  pub none : Tells IsEnding c.told → ⊥
  pub ended : (number : ℕ) (e : Ended) → slice_get c.ended number ≡ Some e → EndedThen trace who number e.outcome

-- ---- when more is made
weaker_all : {X : Type 0} (P R : X → Type 0) → ((x : X) → P x → R x) → (xs : List X) → All P xs → All R xs
weaker_all P R f [] h = All-nil R
weaker_all P R f (x ∷ xs) h = All-cons R x xs (f x (All-head P x xs h)) (weaker_all P R f xs (All-tail P x xs h))

comes_on : (trace more : List Made) (who : Actor) (number : ℕ) (By : Made → Type 0) (point : ℕ) → ComesOwn trace who number By point → ComesOwn (trace ++ more) who number By point
comes_on trace more who number By point h = on (λ before made. Own who number made × PointWithin before who number By point) trace more h

lost_on : (trace more : List Made) (who : Actor) (number : ℕ) (pairs : List (ℕ × ℕ)) → All (LostOwn trace who number) pairs → All (LostOwn (trace ++ more) who number) pairs
lost_on trace more who number pairs h = weaker_all (LostOwn trace who number) (LostOwn (trace ++ more) who number) (λ pair k. comes_on trace more who number AnyStep pair.1 k) pairs h

pub ended_on : (trace more : List Made) (who : Actor) (number : ℕ) (outcome : Outcome) → EndedThen trace who number outcome → EndedThen (trace ++ more) who number outcome
ended_on trace more who number (Outcome.Contended pairs) h = lost_on trace more who number pairs h
ended_on trace more who number (Outcome.Superseded newer) h = comes_on trace more who number AnyStep newer h
ended_on trace more who number (Outcome.Reaped point) h = comes_on trace more who number (ReapOf who) point h
ended_on trace more who number outcome h = tt

-- another's step
pub stays : (trace : List Made) (made : Made) (before after : Directory) (who : Actor) (jobs : List Job) (c : Calling)
    → ((now : Pass) → pass_of who after ≡ Some now → (p : Pass) × (pass_of who before ≡ Some p) × ((number : ℕ) → PassThen trace before who number p → PassThen (trace ++ made ∷ []) after who number now))
    → ActorThen trace before who jobs c → ActorThen (trace ++ made ∷ []) after who jobs c
stays trace made before after who jobs c stand h =
    record {
      pass = λ job is now found.
          let old : (p : Pass) × (pass_of who before ≡ Some p) × ((number : ℕ) → PassThen trace before who number p → PassThen (trace ++ made ∷ []) after who number now) = stand now found in
          old.2 (length c.ended) (h.pass job is old.0 old.1);
      lost = λ job is writes. lost_on trace (made ∷ []) who (length c.ended) (changes_of c.told) (h.lost job is writes);
      none = h.none;
      ended = λ number e is. ended_on trace (made ∷ []) who number e.outcome (h.ended number e is);
    }

-- ---- a look
told_latest : (d : Directory) → IsTold d (latest (length d.points))
told_latest d = by (length d.points) (omega arith)
  where
    by : (n : ℕ) → n ≤ length d.points → IsTold d (latest n)
    by zero h = tt
    by (suc n) h = omega (arith, h)

-- a write's base that isn't the last change is earlier
earlier : (base last : ℕ) → base ≤ last → is_overtaken Kind.Write (Some base) (Some last) ≡ true → base < last
earlier base last low overtaken = by (nat_eq base last) refl overtaken
  where
    by : (b : Bool) → nat_eq base last ≡ b → not b ≡ true → base < last
    by true e over = absurd (true≢false (sym over))
    by false e over = strict (λ same. true≢false (sym (eq-eqb base last same) ∙ e))
      where
        strict : (base ≡ last → ⊥) → base < last
        strict differ = omega (arith, low, differ)

-- one of some fails
one_lost : (test : Pin → Bool) (P : Pin → Type 0) (pins : List Pin) → list_all test pins ≡ false → All P pins → (pin : Pin) × P pin × (test pin ≡ false)
one_lost test P [] e h = absurd (true≢false e)
one_lost test P (pin ∷ pins) e h = by (one_lost test P pins) (test pin) refl e
  where
    by : (list_all test pins ≡ false → All P pins → (pin : Pin) × P pin × (test pin ≡ false)) → (b : Bool) → test pin ≡ b → list_all test (pin ∷ pins) ≡ false → (pin : Pin) × P pin × (test pin ≡ false)
    by rest false is k = (pin, All-head P pin pins h, is)
    by rest true is k = rest (sym (and_true is) ∙ k) (All-tail P pin pins h)
      where
        and_true : test pin ≡ true → list_all test (pin ∷ pins) ≡ list_all test pins
        and_true is = ap (λ b. b && list_all test pins) is

module _ (script : Script) (some : 0 < script.geometry.parity_count) (who : Actor) (jobs : List Job) (job : Job) (calling : Calling) (is_job : slice_get jobs (length calling.ended) ≡ Some job)
    (places : Places) (at : AtWork script who job calling places) (shortages : Shortage) (trace : List Made) (kept : ActorThen trace places.directory who jobs calling) where
  abbrev g : Shape
  g = script.geometry

  abbrev d : Directory
  d = places.directory

  abbrev told : List Told
  told = first script who job calling places at shortages.coding shortages.step

  abbrev done : Places × Told
  done = after script who job calling places at shortages.coding shortages.step

  abbrev now : List Told
  now = tell g job told done.1

  abbrev number : ℕ
  number = length calling.ended

  abbrev step_made : Made
  step_made = call_made script shortages who calling places job

  abbrev more : List Made
  more = trace ++ call_made script shortages who calling places job ∷ []

  abbrev middle : Calling
  middle = record { ended = calling.ended; told = now; takes = take_from (act script who job calling places at shortages.coding shortages.step) done.1 calling.takes; steps = calling.steps + 1 }

  -- ---- what the step tells
  server_tells : (step : ServerStep) (answer : Told) → ServerAnswers step answer → PassTold who job.note d answer
  server_tells (ServerStep.Prepare version) (Told.Changed base newer) h = absurd h
  server_tells step (Told.Changed base newer) h = absurd h
  server_tells (ServerStep.Prepare version) (Told.Superseded newer) h = absurd h
  server_tells step (Told.Superseded newer) h = absurd h
  server_tells (ServerStep.Prepare version) (Told.Reaped point) h = absurd h
  server_tells step (Told.Reaped point) h = absurd h
  server_tells step answer h = tt

  old_passes : PassFrom who job.note d d
  old_passes p found = inl (record { pass = p; found = found; same_base = refl; same_note = refl; same_reaped = refl; rebuilds = λ e. refl })

  server_moves : (n : ℕ) (step : ServerStep) (found : Option Server) → ServerAnswers step (at_server_there shortages.step n step places found).1
      → Moves who job.note d ((at_server_there shortages.step n step places found).0.directory, (at_server_there shortages.step n step places found).1)
  server_moves n step None h = (server_tells step _ h, old_passes)
  server_moves n step (Some s) h = (server_tells step _ h, old_passes)

  draws : (room : Type 0) (step : DirectoryStep) → ProperStep job room step → DrawsOnly job.note.kind step
  draws room DirectoryStep.Draw h = h
  draws room (DirectoryStep.Look note) h = tt
  draws room step h = tt

  act_moves : (pins touched : ℕ) (a : Act) → IsProper g job (HasTry job.note.kind (tries_of script) told) a → ActOfKind g job.note.kind a → Answers pins touched a (at_places shortages.step who number a places).1
      → Moves who job.note d ((at_places shortages.step who number a places).0.directory, (at_places shortages.step who number a places).1)
  act_moves pins touched (Act.AtDirectory step) is_proper kind h =
      step_tells g who job.note d number at.self (pass_note script who job calling places at) shortages.step step (call_step job (HasTry job.note.kind (tries_of script) told) step is_proper) kind
      (draws (HasTry job.note.kind (tries_of script) told) step is_proper)
  act_moves pins touched (Act.AtServer n step) is_proper kind h = server_moves n step (slice_get places.servers n) h
  act_moves pins touched (Act.Finish outcome) is_proper kind h = absurd h

  pub moved : Moves who job.note d (done.0.directory, done.1)
  moved =
      act_moves (pin_bound g (size_of script) job.note) (touched_count g job.note) (act script who job calling places at shortages.coding shortages.step)
      (proper script who job calling places at shortages.coding shortages.step) (of_kind script who job calling places at shortages.coding shortages.step)
      (answered script who job calling places at shortages.coding shortages.step).answers

  -- ---- the pass that is left
  old_pass : (p : Pass) → pass_of who d ≡ Some p → PassThen trace d who number p
  old_pass p found = kept.pass job is_job p found

  looked : (p : Pass) → pass_of who done.0.directory ≡ Some p → FromLook who job.note d done.0.directory p → PassThen more done.0.directory who number p
  looked p found from =
      record {
        begun = last (λ _ first. Own who number first) trace step_made (refl, refl);
        since = length done.0.directory.points;
        low = omega arith;
        later = λ n low high. absurd (omega (arith, low, high));
        reaped = λ point is. absurd (none-some point (sym from.fresh ∙ is));
        writes = λ w b is.
            let kind : job.note.kind ≡ Kind.Write = ap (λ (n : Note). n.kind) (sym from.noted) ∙ w in
            let base : (last_change job.note.name d.points ≡ Some b) × (done.0.directory.points ≡ d.points) = from.base kind b is in
            let last_now : last_change p.note.name done.0.directory.points ≡ Some b = (λ i. last_change (from.noted i).name (base.1 i)) ∙ base.0 in
            (last_is p.note.name done.0.directory.points b last_now, λ n change less. absurd (none_later p.note.name b last_now n change less));
        rebuilds = λ r.
            let kind : job.note.kind ≡ Kind.Rebuild = ap (λ (n : Note). n.kind) (sym from.noted) ∙ r in
            (p, refl, sym (pass_is who done.0.directory p found), repairs kind r (from.repair kind));
      }
    where
      none_later : (name : List ℕ) (b : ℕ) → last_change name done.0.directory.points ≡ Some b → (n : ℕ) → IsChange done.0.directory.points name n → b < n → ⊥
      none_later name b is n change less =
          let late : LastFrom (last_change name done.0.directory.points) n = last_late name done.0.directory.points n change in
          let same : b ≡ late.last = same_Some b late.last (sym is ∙ late.is_last) in
          let high : n ≤ late.last = late.late in
          omega (arith, less, same, high)

      repairs : job.note.kind ≡ Kind.Rebuild → p.note.kind ≡ Kind.Rebuild → FromRepair who job.note d done.0.directory p
          → AgreesWithPass done.0.directory (record { pass = p; told = latest (length done.0.directory.points) })
      repairs kind r h =
          record {
            reap = None;
            is_pass =
                subst (λ a. pass_of a done.0.directory ≡ Some (record p { reaped = None })) (pass_is who done.0.directory p found)
                (found ∙ ap (λ o. Some (record p { reaped = o })) from.fresh);
            live = from.fresh;
            told = told_latest done.0.directory;
            order = subst (λ k. KeepsOrder k done.0.directory p (latest (length done.0.directory.points))) (sym r) all_in;
          }
        where
          Q : Pin → Type 0
          Q pin = IsInObject done.0.directory.objects p.note.name pin.version ⊎ WasChanged done.0.directory.points p.note.name (latest (length done.0.directory.points))

          in_object : IsInObject done.0.directory.objects p.note.name h.pin.version
          in_object =
              (h.object, (λ i. found_by (h.objects i) (from.noted i).name) ∙ h.found, h.of_object)
            where
              found_by : List Object → List ℕ → Option Object
              found_by objects name = find_object name objects

          all_in : All (λ (pin : Pin). IsInObject done.0.directory.objects p.note.name pin.version ⊎ WasChanged done.0.directory.points p.note.name (latest (length done.0.directory.points))) p.pinned
          all_in = subst (All Q) (sym h.pinned) (All-cons Q h.pin [] (inl in_object) (All-nil Q))

  left : (p : Pass) → pass_of who done.0.directory ≡ Some p → FromOld who job.note d done.0.directory p ⊎ FromLook who job.note d done.0.directory p → PassThen more done.0.directory who number p
  left p found (inr from) = looked p found from
  left p found (inl from) =
      stays_then trace step_made d done.0.directory who number
      (act_appends shortages.step who number (act script who job calling places at shortages.coding shortages.step) places step_made refl)
      from.pass p
      (λ r held told mine agrees. subst (λ (x : Directory). AgreesWithPass x (record { pass = held; told = told })) (sym (from.rebuilds (kind_of from r))) agrees)
      from.same_base from.same_note (same_or from p found) (λ point is. inl (sym from.same_reaped ∙ is)) (old_pass from.pass from.found)
    where
      kind_of : (from : FromOld who job.note d done.0.directory p) → from.pass.note.kind ≡ Kind.Rebuild → job.note.kind ≡ Kind.Rebuild
      kind_of from r = ap (λ (n : Note). n.kind) (sym (pass_note script who job calling places at from.pass from.found)) ∙ r

      same_or : (from : FromOld who job.note d done.0.directory p) (p : Pass) → pass_of who done.0.directory ≡ Some p → (p ≡ record (from.pass) { reaped = p.reaped }) ⊎ (from.pass.note.kind ≡ Kind.Rebuild → ⊥)
      same_or from p found = by from.pass.note.kind refl
        where
          same : from.pass.note.kind ≡ Kind.Rebuild → p ≡ record (from.pass) { reaped = p.reaped }
          same r =
              let is : p ≡ from.pass = same_Some p from.pass (sym found ∙ ap (pass_of who) (from.rebuilds (ap (λ (n : Note). n.kind) (sym (pass_note script who job calling places at from.pass from.found)) ∙ r)) ∙ from.found) in
              is ∙ (λ i. record (from.pass) { reaped = ap (λ (x : Pass). x.reaped) (sym is) i })

          by : (k : Kind) → from.pass.note.kind ≡ k → (p ≡ record (from.pass) { reaped = p.reaped }) ⊎ (from.pass.note.kind ≡ Kind.Rebuild → ⊥)
          by Kind.Rebuild e = inl (same e)
          by Kind.Put e = inr (λ r. subst NotRebuild (sym e ∙ r) tt)
          by Kind.Write e = inr (λ r. subst NotRebuild (sym e ∙ r) tt)
          by Kind.Get e = inr (λ r. subst NotRebuild (sym e ∙ r) tt)
          by Kind.ReadAt e = inr (λ r. subst NotRebuild (sym e ∙ r) tt)
          by Kind.Stat e = inr (λ r. subst NotRebuild (sym e ∙ r) tt)
          by Kind.Delete e = inr (λ r. subst NotRebuild (sym e ∙ r) tt)

  now_pass : (p : Pass) → pass_of who done.0.directory ≡ Some p → PassThen more done.0.directory who number p
  now_pass p found = left p found (moved.1 p found)

  -- ---- what was told
  first_none : (coding has : Bool) → Tells IsEnding (told_first coding has g job calling.told) → ⊥
  first_none true true h = by (told_either IsEnding (λ k. k) g some job calling.told Told.Short h)
    where
      by : Tells IsEnding calling.told ⊎ IsEnding Told.Short → ⊥
      by (inl k) = kept.none k
      by (inr k) = k
  first_none true false h = kept.none h
  first_none false has h = kept.none h

  first_changes : job.note.kind ≡ Kind.Write → (coding has : Bool) → changes_of (told_first coding has g job calling.told) ≡ changes_of calling.told
  first_changes writes true true = changes_told g job writes calling.told Told.Short
  first_changes writes true false = refl
  first_changes writes false has = refl

  now_pairs : job.note.kind ≡ Kind.Write → changes_of now ≡ changes_after done.1 (changes_of calling.told)
  now_pairs writes = changes_told g job writes told done.1 ∙ ap (changes_after done.1) (first_changes writes shortages.coding _)

  -- what comes within the call, after this step
  comes_now : (By : Made → Type 0) (point : ℕ) → PointWithin trace who number By point → ComesOwn more who number By point
  comes_now By point within = last (λ before made. Own who number made × PointWithin before who number By point) trace step_made ((refl, refl), within)

  -- a write's pass has a base
  based : job.note.kind ≡ Kind.Write → (p : Pass) → pass_of who d ≡ Some p → HasBase d p
  based writes p found =
      subst (IsRight d p) (ap (λ (n : Note). n.kind) (pass_note script who job calling places at p found) ∙ writes)
      (All-contains (λ (x : Pass). IsRight d x x.note.kind) d.passes p at.sound.calls (found_there (λ (x : Pass). same_actor who x.actor) d.passes p found).0)

  one_more : job.note.kind ≡ Kind.Write → (base newer : ℕ) → ChangedBy who job.note d base newer → LostOwn more who number (base, newer)
  one_more writes base newer by =
      let kind : by.pass.note.kind ≡ Kind.Write = ap (λ (n : Note). n.kind) (pass_note script who job calling places at by.pass by.found) ∙ writes in
      let has : HasBase d by.pass = based writes by.pass by.found in
      let then : PassThen trace d who number by.pass = old_pass by.pass by.found in
      let parts : IsChange d.points by.pass.note.name has.base × ((n : ℕ) → IsChange d.points by.pass.note.name n → has.base < n → then.since ≤ n) = then.writes kind has.base has.is_base in
      let late : LastFrom (last_change by.pass.note.name d.points) has.base = last_late by.pass.note.name d.points has.base parts.0 in
      let newer_is : newer ≡ late.last = by.newer_is ∙ ap (λ o. unwrap_or o 0) late.is_last in
      let over : is_overtaken Kind.Write (Some has.base) (Some late.last) ≡ true = sym (λ i. is_overtaken (kind i) (has.is_base i) (late.is_last i)) ∙ by.overtaken in
      let less : has.base < late.last = earlier has.base late.last late.late over in
      let change : IsChange d.points by.pass.note.name late.last = last_is by.pass.note.name d.points late.last late.is_last in
      let within : PointWithin trace who number AnyStep late.last = then.later late.last (parts.1 late.last change less) (slice_get_within d.points late.last change.point change.found) in
      subst (λ n. ComesOwn more who number AnyStep n) (sym newer_is) (comes_now AnyStep late.last within)

  told_lost : job.note.kind ≡ Kind.Write → (answer : Told) → PassTold who job.note d answer → All (LostOwn more who number) (changes_after answer (changes_of calling.told))
  told_lost writes (Told.Changed base newer) h =
      All-append (LostOwn more who number) (changes_of calling.told) ((base, newer) ∷ []) (lost_on trace (step_made ∷ []) who number (changes_of calling.told) (kept.lost job is_job writes))
      (All-cons (LostOwn more who number) (base, newer) [] (one_more writes base newer h) (All-nil (LostOwn more who number)))
  told_lost writes (Told.Done point) h = All-nil (LostOwn more who number)
  told_lost writes answer h = lost_on trace (step_made ∷ []) who number (changes_of calling.told) (kept.lost job is_job writes)

  now_lost : job.note.kind ≡ Kind.Write → All (LostOwn more who number) (changes_of now)
  now_lost writes = subst (All (LostOwn more who number)) (sym (now_pairs writes)) (told_lost writes done.1 moved.0)

  -- ---- the outcome
  ending_told : (answer : Told) → IsEnding answer → (list : List Told) → Tells (λ a. a ≡ answer) list → Tells IsEnding list
  ending_told answer is [] h = absurd h
  ending_told answer is (one ∷ list) (inl e) = inl (subst IsEnding (sym e) is)
  ending_told answer is (one ∷ list) (inr h) = inr (ending_told answer is list h)

  told_now : (answer : Told) → IsEnding answer → Tells (λ a. a ≡ answer) now → done.1 ≡ answer
  told_now answer is h = by (told_either (λ a. a ≡ answer) (λ e. subst IsEnding (sym e) is) g some job told done.1 h)
    where
      by : Tells (λ a. a ≡ answer) told ⊎ (done.1 ≡ answer) → done.1 ≡ answer
      by (inl k) = absurd (first_none shortages.coding _ (ending_told answer is told k))
      by (inr k) = k

  superseded_so : (newer : ℕ) → job.note.kind ≡ Kind.Rebuild → SupersededBy who job.note d newer → ComesOwn more who number AnyStep newer
  superseded_so newer rebuilds by =
      let kind : by.pass.note.kind ≡ Kind.Rebuild = ap (λ (n : Note). n.kind) (pass_note script who job calling places at by.pass by.found) ∙ rebuilds in
      let then : PassThen trace d who number by.pass = old_pass by.pass by.found in
      let old : (held : Pass) × (by.pass ≡ record held { reaped = by.pass.reaped }) × (held.actor ≡ who) × AgreesWithPass d (record { pass = held; told = latest then.since }) = then.rebuilds kind in
      let held : Pass = old.0 in
      let same : by.pass ≡ held = old.1 ∙ (λ i. record held { reaped = (by.live ∙ sym old.3.live) i }) in
      let held_kind : held.note.kind ≡ Kind.Rebuild = ap (λ (p : Pass). p.note.kind) (sym same) ∙ kind in
      let is_pass : pass_of held.actor d ≡ Some held = (λ i. pass_of (old.2 i) d) ∙ by.found ∙ ap Some same in
      let lost : All (λ (pin : Pin). is_current d pin.version ≡ false → WasChanged d.points held.note.name (latest then.since)) held.pinned =
      steps_may_be_made.lost (record { pass = held; told = latest then.since }) d at.sound old.3 held_kind is_pass in
      let one : (pin : Pin) × (is_current d pin.version ≡ false → WasChanged d.points held.note.name (latest then.since)) × (is_current d pin.version ≡ false) =
      one_lost (λ pin. is_current d pin.version) (λ (pin : Pin). is_current d pin.version ≡ false → WasChanged d.points held.note.name (latest then.since)) held.pinned
      (subst (λ (p : Pass). list_all (λ (pin : Pin). is_current d pin.version) p.pinned ≡ false) same by.lost) lost in
      let changed : WasChanged d.points held.note.name (latest then.since) = one.1 one.2 in
      let point : ℕ = changed.0 in
      let newer_is : newer ≡ point = by.newer_is ∙ ap (λ (p : Pass). unwrap_or (last_change p.note.name d.points) 0) same ∙ ap (λ o. unwrap_or o 0) changed.1 in
      let change : IsChange d.points held.note.name point = last_is held.note.name d.points point changed.1 in
      let within : PointWithin trace who number AnyStep point = then.later point (late_enough then.since point changed.2) (slice_get_within d.points point change.point change.found) in
      subst (λ n. ComesOwn more who number AnyStep n) (sym newer_is) (comes_now AnyStep point within)

  reaped_so : (point : ℕ) → ReapedBy who job.note d point → ComesOwn more who number (ReapOf who) point
  reaped_so point by = comes_now (ReapOf who) point ((old_pass by.pass by.found).reaped point by.reaped)

  outcome_now : (outcome : Outcome) → next_act g (tries_of script) job now ≡ Act.Finish outcome → EndedThen more who number outcome
  outcome_now (Outcome.Contended pairs) e =
      let writes : job.note.kind ≡ Kind.Write = (outcomes_in_steps g (size_of script) (tries_of script) job).kinds now (Outcome.Contended pairs) e in
      let caused : IsCaused g (tries_of script) now (Act.Finish (Outcome.Contended pairs)) = subst (IsCaused g (tries_of script) now) e (causes g (tries_of script) job now some) in
      subst (All (LostOwn more who number)) (sym caused.0) (now_lost writes)
  outcome_now (Outcome.Superseded newer) e =
      let rebuilds : job.note.kind ≡ Kind.Rebuild = (outcomes_in_steps g (size_of script) (tries_of script) job).kinds now (Outcome.Superseded newer) e in
      let caused : IsCaused g (tries_of script) now (Act.Finish (Outcome.Superseded newer)) = subst (IsCaused g (tries_of script) now) e (causes g (tries_of script) job now some) in
      superseded_so newer rebuilds (subst (PassTold who job.note d) (told_now (Told.Superseded newer) tt caused) moved.0)
  outcome_now (Outcome.Reaped point) e =
      let caused : IsCaused g (tries_of script) now (Act.Finish (Outcome.Reaped point)) = subst (IsCaused g (tries_of script) now) e (causes g (tries_of script) job now some) in
      reaped_so point (subst (PassTold who job.note d) (told_now (Told.Reaped point) tt caused) moved.0)
  outcome_now outcome e = tt

  -- ---- a call that is told so ends
  abbrev EndsIt : Act → Type 0
  EndsIt (Act.Finish outcome) = Unit {0}
  EndsIt _ = ⊥

  abbrev Ends : Told → Type 0
  Ends answer = EndsIt (next_act g (tries_of script) job (tell g job told answer))

  ends_so : (pins touched : ℕ) (a : Act) → next_act g (tries_of script) job told ≡ a → (answer : Told) → IsEnding answer → Answers pins touched a answer → Ends answer
  ends_so pins touched (Act.AtDirectory DirectoryStep.Confirm) e (Told.Superseded newer) is h = subst EndsIt (sym ((answers_end_calls g (tries_of script) job).superseded told newer e)) tt
  ends_so pins touched (Act.AtDirectory step) e (Told.Superseded newer) is h = absurd h
  ends_so pins touched (Act.AtServer server (ServerStep.Prepare version)) e (Told.Superseded newer) is h = absurd h
  ends_so pins touched (Act.AtServer server step) e (Told.Superseded newer) is h = absurd h
  ends_so pins touched (Act.Finish outcome) e (Told.Superseded newer) is h = absurd h
  ends_so pins touched (Act.AtDirectory DirectoryStep.Draw) e (Told.Reaped point) is h = subst EndsIt (sym ((answers_end_calls g (tries_of script) job).reaped told DirectoryStep.Draw point e refl)) tt
  ends_so pins touched (Act.AtDirectory (DirectoryStep.Commit placed)) e (Told.Reaped point) is h = subst EndsIt (sym ((answers_end_calls g (tries_of script) job).reaped told (DirectoryStep.Commit placed) point e refl)) tt
  ends_so pins touched (Act.AtDirectory DirectoryStep.End) e (Told.Reaped point) is h = subst EndsIt (sym ((answers_end_calls g (tries_of script) job).reaped told DirectoryStep.End point e refl)) tt
  ends_so pins touched (Act.AtDirectory DirectoryStep.Confirm) e (Told.Reaped point) is h = subst EndsIt (sym ((answers_end_calls g (tries_of script) job).reaped told DirectoryStep.Confirm point e refl)) tt
  ends_so pins touched (Act.AtDirectory (DirectoryStep.Repaired server epoch)) e (Told.Reaped point) is h =
      subst EndsIt (sym ((answers_end_calls g (tries_of script) job).reaped told (DirectoryStep.Repaired server epoch) point e refl)) tt
  ends_so pins touched (Act.AtDirectory step) e (Told.Reaped point) is h = absurd h
  ends_so pins touched (Act.AtServer server (ServerStep.Prepare version)) e (Told.Reaped point) is h = absurd h
  ends_so pins touched (Act.AtServer server step) e (Told.Reaped point) is h = absurd h
  ends_so pins touched (Act.Finish outcome) e (Told.Reaped point) is h = absurd h
  ends_so pins touched a e answer is h = absurd is

  none_now : (EndsIt (next_act g (tries_of script) job now) → ⊥) → Tells IsEnding now → ⊥
  none_now on h = by (told_either IsEnding (λ k. k) g some job told done.1 h)
    where
      by : Tells IsEnding told ⊎ IsEnding done.1 → ⊥
      by (inl k) = first_none shortages.coding _ k
      by (inr k) =
          on (ends_so (pin_bound g (size_of script) job.note) (touched_count g job.note) (act script who job calling places at shortages.coding shortages.step) refl done.1 k
          (answered script who job calling places at shortages.coding shortages.step).answers)

  old_ended : (k : ℕ) (e : Ended) → slice_get calling.ended k ≡ Some e → EndedThen more who k e.outcome
  old_ended k e is = ended_on trace (step_made ∷ []) who k e.outcome (kept.ended k e is)

  same_job : (j : Job) → slice_get jobs (length calling.ended) ≡ Some j → job ≡ j
  same_job j is = same_Some job j (sym is_job ∙ is)

  goes_on : (EndsIt (next_act g (tries_of script) job now) → ⊥) → ActorThen more done.0.directory who jobs middle
  goes_on on_it =
      record {
        pass = λ j is p found. now_pass p found;
        lost = λ j is writes. now_lost (ap (λ (x : Job). x.note.kind) (same_job j is) ∙ writes);
        none = none_now on_it;
        ended = old_ended;
      }

  -- the next call has no pass yet
  pub no_pass : (j : Job) (c : Calling) → c.told ≡ [] → InWork g (size_of script) (tries_of script) j who c done.0.directory → 1 ≤ tries_of script → (p : Pass) → pass_of who done.0.directory ≡ Some p → ⊥
  no_pass j c fresh in_work tried p found =
      none-some p (sym (none_held (pass_of who done.0.directory) (in_work.stands.pass ∙ ap (λ l. note_if (has_pass (phase_of (next_act g (tries_of script) j l))) j.note) fresh ∙ ap (λ ph. note_if (has_pass ph) j.note) (is_looking j.note.kind g (tries_of script) j tried))) ∙ found)

  module _ (tried : 1 ≤ tries_of script) where
    by_act : (a : Act) → next_act g (tries_of script) job now ≡ a
        → ((j : Job) → slice_get jobs (length (ended_by a (chunk_count g) middle).ended) ≡ Some j → InWork g (size_of script) (tries_of script) j who (ended_by a (chunk_count g) middle) done.0.directory)
        → ActorThen more done.0.directory who jobs (ended_by a (chunk_count g) middle)
    by_act (Act.Finish outcome) e in_work =
        record {
          pass = λ j is p found. absurd (no_pass j (ended_by (Act.Finish outcome) (chunk_count g) middle) refl (in_work j is) tried p found);
          lost = λ j is writes. All-nil (LostOwn more who _);
          none = λ h. h;
          ended = λ k x is. two k x (pushed calling.ended (record { outcome = outcome; takes = middle.takes }) k x is);
        }
      where
        two : (k : ℕ) (x : Ended)
            → (slice_get calling.ended k ≡ Some x) ⊎ ((k ≡ length calling.ended) × (record { outcome = outcome; takes = take_from (act script who job calling places at shortages.coding shortages.step) (after script who job calling places at shortages.coding shortages.step).1 calling.takes } ≡ x))
            → EndedThen more who k x.outcome
        two k x (inl is) = old_ended k x is
        two k x (inr h) = subst (λ n. EndedThen more who n x.outcome) (sym h.0) (subst (λ (y : Ended). EndedThen more who number y.outcome) h.1 (outcome_now outcome e))
    by_act (Act.AtDirectory step) e in_work = goes_on (λ h. subst EndsIt e h)
    by_act (Act.AtServer server step) e in_work = goes_on (λ h. subst EndsIt e h)

    pub own_step : ((j : Job) → slice_get jobs (length (actor_step g (tries_of script) shortages who job calling places).1.ended) ≡ Some j
        → InWork g (size_of script) (tries_of script) j who (actor_step g (tries_of script) shortages who job calling places).1 done.0.directory)
        → ActorThen (trace ++ call_made script shortages who calling places job ∷ []) (actor_step g (tries_of script) shortages who job calling places).0.directory who jobs (actor_step g (tries_of script) shortages who job calling places).1
    own_step in_work = by_act (next_act g (tries_of script) job now) refl in_work
