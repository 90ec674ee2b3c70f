-- What each step at the directory makes of its actor's pass and of the points.
use Rattle.std.proofs.Common.{◌≡◌, ℕ, Bool, true, false, cond, not, nat_lt, List, [], ◌∷◌, ◌++◌, length, map, filter, find, Option, None, Some, option_map, unwrap_or, IfSome, All, refl, sym, ap, subst, ◌∙◌, true≢false}
use Rattle.std.proofs.lemmas.Bool.{cond_both, cond-true, cond-false}
use Rattle.std.proofs.lemmas.List.Elements.{All-push}
use Rattle.std.specs.List.{list_all, range_with_len}
use Rattle.std.proofs.lemmas.List.FromFn.{length-range_with_len}
use Rattle.store_map.specs.declared.placement.Placement.{Placement}
use Rattle.store_map.specs.declared.actor.Actor.{Actor}
use Rattle.store_map.specs.declared.reply.Reply.{Reply}
use Rattle.store_core.specs.Told.{Told}
use Rattle.store_core.specs.Note.{Note, Kind, refusal}
use Rattle.store_core.specs.Act.{DirectoryStep, takes_memory}
use Rattle.store_core.specs.Directory.{Object, Pass, Event, Point, Directory}
use Rattle.store_core.specs.Lookups.{same_actor, find_object, pass_of, last_change, first_garbage, is_current}
use Rattle.store_core.specs.Look.{begin_pass, seen_at}
use Rattle.store_core.specs.Looks.{accept, look_by, look_repair_by}
use Rattle.store_core.specs.PassSteps.{close_pass, give_up_drawn, draw, end_pass, confirm, repaired, touched}
use Rattle.store_core.specs.Commit.{commit, commit_object, is_overtaken}
use Rattle.store_core.specs.AtDirectory.{unless_reaped, on_pass, take_garbage, reap_pass, reap, made_at_directory, unless_short, at_directory}
use Rattle.run_laws.proofs.Passes.{same_is, pass_is, closed_own, closed_other, IsCallStep, IsOthersStep}

-- the pass of an actor among some
abbrev pub found_in : Actor → List Pass → Option Pass
found_in who passes = find (λ pass. same_actor who pass.actor) passes

-- ---- what a step of a call does
-- a pass of this call that has drawn nothing
abbrev pub IsBegun : Actor → ℕ → Directory → Type 0
IsBegun who number d = IfSome (pass_of who d) (λ pass. (pass.number ≡ number) × (pass.drawn ≡ []))

-- a pass that has drawn a version for each stripe that it touches
pub record HasDrawn (who : Actor) (before after : Directory) (versions : List ℕ) : Type 0 where
  pub pass : Pass
  pub was : pass_of who before ≡ Some pass
  pub is : pass_of who after ≡ Some (record pass { drawn = versions })
  pub count : length versions ≡ length (touched before pass.note)

-- the actor's pass after an answer
abbrev pub OwnPass : Actor → ℕ → Directory → Directory → Told → Type 0
OwnPass who number before after (Told.Pinned point length_now stripes) = IsBegun who number after
OwnPass who number before after (Told.Ready base length_now stripes) = IsBegun who number after
OwnPass who number before after (Told.PinnedStripe seen) = IsBegun who number after
OwnPass who number before after (Told.Versions versions) = HasDrawn who before after versions
OwnPass who number before after (Told.Done point) = pass_of who after ≡ None
OwnPass who number before after (Told.Changed base newer) = pass_of who after ≡ None
OwnPass who number before after Told.Ended = pass_of who after ≡ None
OwnPass who number before after (Told.Superseded newer) = pass_of who after ≡ None
OwnPass who number before after (Told.Reaped point) = pass_of who after ≡ None
OwnPass who number before after answer = pass_of who after ≡ pass_of who before

-- one point more, of this call
pub record OnePoint (who : Actor) (number : ℕ) (before after : Directory) : Type 0 where
  pub point : Point
  pub added : after.points ≡ before.points ++ point ∷ []
  pub mine : point.actor ≡ who
  pub of_call : point.number ≡ number

-- the points after an answer
abbrev pub PointsMove : Actor → ℕ → Directory → Directory → Told → Type 0
PointsMove who number before after (Told.Answer point reply) = OnePoint who number before after
PointsMove who number before after (Told.Pinned point length_now stripes) = OnePoint who number before after
PointsMove who number before after (Told.Done point) = OnePoint who number before after
PointsMove who number before after answer = after.points ≡ before.points

-- what an answer says of the actor's pass, the others' passes and the points
pub record StepMoves (who : Actor) (number : ℕ) (before after : Directory) (answer : Told) : Type 0 where
  pub own : OwnPass who number before after answer
  pub others : (other : Actor) → same_actor other who ≡ false → pass_of other after ≡ pass_of other before
  pub points : PointsMove who number before after answer

-- ---- passes that are changed
-- what is found after a change that keeps actors
pub mapped_found : (who : Actor) (change : Pass → Pass) → ((pass : Pass) → (change pass).actor ≡ pass.actor) → (passes : List Pass) → found_in who (map change passes) ≡ option_map change (found_in who passes)
mapped_found who change keeps [] = refl
mapped_found who change keeps (pass ∷ passes) =
    ap (λ a. cond {A = Option Pass} (same_actor who a) (Some (change pass)) (found_in who (map change passes))) (keeps pass) ∙ by (mapped_found who change keeps passes) (same_actor who pass.actor)
  where
    by : found_in who (map change passes) ≡ option_map change (found_in who passes) → (b : Bool)
        → cond {A = Option Pass} b (Some (change pass)) (found_in who (map change passes)) ≡ option_map change (cond {A = Option Pass} b (Some pass) (found_in who passes))
    by rest true = refl
    by rest false = rest

-- a change of one actor's passes
abbrev pub one_changed : Actor → (Pass → Pass) → Pass → Pass
one_changed who change other = cond {A = Pass} (same_actor who other.actor) (change other) other

module _ (who : Actor) (change : Pass → Pass) (keeps : (pass : Pass) → (change pass).actor ≡ pass.actor) where
  -- the actors stay
  pub keeps_actor : (pass : Pass) → (one_changed who change pass).actor ≡ pass.actor
  keeps_actor pass = cond_both {A = Pass} (same_actor who pass.actor) (change pass) pass (λ p. p.actor ≡ pass.actor) (λ _. keeps pass) (λ _. refl)

  -- the actor's own pass is changed
  pub changed_own : (passes : List Pass) (pass : Pass) → found_in who passes ≡ Some pass → same_actor who pass.actor ≡ true → found_in who (map (one_changed who change) passes) ≡ Some (change pass)
  changed_own passes pass found mine =
      mapped_found who (one_changed who change) keeps_actor passes ∙ ap (option_map (one_changed who change)) found ∙ ap (λ p. Some p) (cond-true {A = Pass} (same_actor who pass.actor) (change pass) pass mine)

  -- another's is not
  pub changed_other : (other : Actor) → same_actor other who ≡ false → (passes : List Pass) → found_in other (map (one_changed who change) passes) ≡ found_in other passes
  changed_other other apart [] = refl
  changed_other other apart (pass ∷ passes) =
      ap (λ a. cond {A = Option Pass} (same_actor other a) (Some (one_changed who change pass)) (found_in other (map (one_changed who change) passes))) (keeps_actor pass)
      ∙ by (changed_other other apart passes) (same_actor other pass.actor) refl
    where
      same : same_actor other pass.actor ≡ true → one_changed who change pass ≡ pass
      same here = cond_both {A = Pass} (same_actor who pass.actor) (change pass) pass (λ p. p ≡ pass) (λ e. absurd (true≢false (sym here ∙ ap (same_actor other) (sym (same_is who pass.actor e)) ∙ apart))) (λ _. refl)

      by : found_in other (map (one_changed who change) passes) ≡ found_in other passes → (b : Bool) → same_actor other pass.actor ≡ b
          → cond {A = Option Pass} b (Some (one_changed who change pass)) (found_in other (map (one_changed who change) passes)) ≡ cond {A = Option Pass} b (Some pass) (found_in other passes)
      by rest true e = ap (λ p. Some p) (same e)
      by rest false e = rest

-- what is found passes the test
pub found_mine : (who : Actor) (passes : List Pass) (pass : Pass) → found_in who passes ≡ Some pass → same_actor who pass.actor ≡ true
found_mine who passes pass e = subst (λ (o : Option Pass). IfSome o (λ p. same_actor who p.actor ≡ true)) e (by passes)
  where
    by : (passes : List Pass) → IfSome (found_in who passes) (λ p. same_actor who p.actor ≡ true)
    by [] = tt
    by (p ∷ passes) = cond_both {A = Option Pass} (same_actor who p.actor) (Some p) (found_in who passes) (λ o. IfSome o (λ q. same_actor who q.actor ≡ true)) (λ h. h) (λ _. by passes)

-- ---- a call's steps
module _ (who : Actor) (number : ℕ) (self : same_actor who who ≡ true) (note : Note) (d : Directory) (of_this : (pass : Pass) → pass_of who d ≡ Some pass → pass.number ≡ number) where
  -- what a result does
  abbrev Stepped : Directory × Told → Type 0
  Stepped result = StepMoves who number d result.0 result.1

  -- the passes of others stay
  abbrev Others : List Pass → Type 0
  Others passes = (other : Actor) → same_actor other who ≡ false → found_in other passes ≡ pass_of other d

  -- a pass begins
  begun_own : (pass : Pass) → pass.actor ≡ who → pass.number ≡ number → pass.drawn ≡ [] → IfSome (found_in who (pass ∷ d.passes)) (λ p. (p.number ≡ number) × (p.drawn ≡ []))
  begun_own pass mine of_call none =
      subst (λ (o : Option Pass). IfSome o (λ p. (p.number ≡ number) × (p.drawn ≡ [])))
      (sym (cond-true {A = Option Pass} (same_actor who pass.actor) (Some pass) (found_in who d.passes) (ap (same_actor who) mine ∙ self))) (of_call, none)

  -- and leaves the others' alone
  begun_others : (pass : Pass) → pass.actor ≡ who → Others (pass ∷ d.passes)
  begun_others pass mine other apart = cond-false {A = Option Pass} (same_actor other pass.actor) (Some pass) (found_in other d.passes) (ap (same_actor other) mine ∙ apart)

  -- the passes without one
  abbrev closing : Pass → List Pass
  closing pass = filter (λ other. not (same_actor pass.actor other.actor)) d.passes

  -- a pass is closed
  closed_mine : (pass : Pass) → who ≡ pass.actor → found_in who (closing pass) ≡ None
  closed_mine pass mine = ap (λ a. found_in who (filter (λ (other : Pass). not (same_actor a other.actor)) d.passes)) (sym mine) ∙ closed_own who d.passes

  -- and the others' stay
  closed_others : (pass : Pass) → who ≡ pass.actor → Others (closing pass)
  closed_others pass mine other apart = ap (λ a. found_in other (filter (λ (p : Pass). not (same_actor a p.actor)) d.passes)) (sym mine) ∙ closed_other who other d.passes apart

  -- ---- looks
  -- a look that is accepted
  accept_steps : (kind : Kind) (object : Object) → Stepped (accept who number note d kind object)
  accept_steps Kind.Put object = record { own = begun_own _ refl refl refl; others = begun_others _ refl; points = refl }
  accept_steps Kind.Write object = record { own = begun_own _ refl refl refl; others = begun_others _ refl; points = refl }
  accept_steps Kind.Stat object = record { own = refl; others = λ other apart. refl; points = record { point = _; added = refl; mine = refl; of_call = refl } }
  accept_steps Kind.Delete object = record { own = refl; others = λ other apart. refl; points = record { point = _; added = refl; mine = refl; of_call = refl } }
  accept_steps _ object =
      record { own = begun_own _ refl refl refl; others = begun_others _ refl; points = record { point = _; added = refl; mine = refl; of_call = refl } }

  -- any look of a client
  look_steps : (found : Option Object) (refused : Option Reply) → Stepped (look_by who number note d found refused)
  look_steps found (Some reply) = record { own = refl; others = λ other apart. refl; points = record { point = _; added = refl; mine = refl; of_call = refl } }
  look_steps found None = accept_steps note.kind _

  -- a repairer's look
  repair_steps : (found : Option Object) → Stepped (look_repair_by who number note d found)
  repair_steps None = record { own = refl; others = λ other apart. refl; points = refl }
  repair_steps (Some object) =
      cond_both {A = Directory × Told} (nat_lt note.offset (length object.versions))
      (begin_pass who number note (seen_at d object note.offset ∷ []) None d, Told.PinnedStripe (seen_at d object note.offset)) (d, Told.NoSuch) Stepped
      (λ _. record { own = begun_own _ refl refl refl; others = begun_others _ refl; points = refl })
      (λ _. record { own = refl; others = λ other apart. refl; points = refl })

  -- ---- steps on a pass
  -- a step on the pass that was found
  StepsOn : (Pass → Directory → Directory × Told) → Type 0
  StepsOn step = (pass : Pass) → pass_of who d ≡ Some pass → Stepped (step pass d)

  -- on a pass that may be reaped
  unless_steps : (step : Pass → Directory → Directory × Told) → StepsOn step → (pass : Pass) → pass_of who d ≡ Some pass → (reaped : Option ℕ) → Stepped (unless_reaped step pass reaped d)
  unfolding StepsOn
  unless_steps step steps pass e None = steps pass e
  unless_steps step steps pass e (Some point) =
      record { own = closed_mine pass (pass_is who d pass e); others = closed_others pass (pass_is who d pass e); points = refl }

  -- on a pass, if there is one
  on_steps : (step : Pass → Directory → Directory × Told) → StepsOn step → (found : Option Pass) → pass_of who d ≡ found → Stepped (on_pass step found d)
  on_steps step steps None e = record { own = refl; others = λ other apart. refl; points = refl }
  on_steps step steps (Some pass) e = unless_steps step steps pass e pass.reaped

  -- a draw
  draw_steps : StepsOn draw
  unfolding StepsOn
  draw_steps pass e =
      record {
        own = record { pass = pass; was = e; is = there; count = length-range_with_len (length d.versions) (length (touched d pass.note)) };
        others = λ other apart. ap (λ a. found_in other (map (one_changed a change) d.passes)) (sym mine) ∙ changed_other who change (λ p. refl) other apart d.passes;
        points = refl;
      }
    where
      drawn : List ℕ
      drawn = range_with_len (length d.versions) (length (touched d pass.note))

      change : Pass → Pass
      change other = record other { drawn = drawn }

      mine : who ≡ pass.actor
      mine = pass_is who d pass e

      there : found_in who (map (one_changed pass.actor change) d.passes) ≡ Some (change pass)
      there = ap (λ a. found_in who (map (one_changed a change) d.passes)) (sym mine) ∙ changed_own who change (λ p. refl) d.passes pass e (found_mine who d.passes pass e)

  -- the end of a pass
  end_steps : StepsOn end_pass
  unfolding StepsOn
  end_steps pass e = record { own = closed_mine pass (pass_is who d pass e); others = closed_others pass (pass_is who d pass e); points = refl }

  -- a confirm
  confirm_steps : StepsOn confirm
  unfolding StepsOn
  confirm_steps pass e =
      cond_both {A = Directory × Told} (list_all (λ pin. is_current d pin.version) pass.pinned)
      (d, Told.Current) (close_pass pass d, Told.Superseded (unwrap_or (last_change pass.note.name d.points) 0)) Stepped
      (λ _. record { own = refl; others = λ other apart. refl; points = refl })
      (λ _. record { own = closed_mine pass (pass_is who d pass e); others = closed_others pass (pass_is who d pass e); points = refl })

  -- a repair
  repaired_steps : (server epoch : ℕ) → StepsOn (repaired server epoch)
  unfolding StepsOn
  repaired_steps server epoch pass e = record { own = closed_mine pass (pass_is who d pass e); others = closed_others pass (pass_is who d pass e); points = refl }

  -- a commit
  commit_steps : (placed : List (List Placement)) → StepsOn (commit placed)
  unfolding StepsOn
  commit_steps placed pass e =
      cond_both {A = Directory × Told} (is_overtaken pass.note.kind pass.base (last_change pass.note.name d.points))
      (close_pass pass (give_up_drawn pass d), Told.Changed (unwrap_or pass.base 0) (unwrap_or (last_change pass.note.name d.points) 0))
      (commit_object placed pass (unwrap_or (find_object pass.note.name d.objects) (record { name = pass.note.name; length = 0; versions = [] })) d) Stepped
      (λ _. record { own = closed_mine pass (pass_is who d pass e); others = closed_others pass (pass_is who d pass e); points = refl })
      (λ _. record {
        own = closed_mine pass (pass_is who d pass e);
        others = closed_others pass (pass_is who d pass e);
        points = record { point = _; added = refl; mine = sym (pass_is who d pass e); of_call = of_this pass e };
      })

-- the steps of a call
made_steps : (who : Actor) (number : ℕ) (note : Note) (step : DirectoryStep) (d : Directory) → same_actor who who ≡ true → IsCallStep note step
    → ((pass : Pass) → pass_of who d ≡ Some pass → pass.number ≡ number) → StepMoves who number d (made_at_directory who number step d).0 (made_at_directory who number step d).1
made_steps who number note (DirectoryStep.Look other) d self mine of_this =
    look_steps who number self other d of_this (find_object other.name d.objects) (refusal d.max other (option_map (λ object. object.length) (find_object other.name d.objects)))
made_steps who number note (DirectoryStep.LookRepair other) d self mine of_this = repair_steps who number self other d of_this (find_object other.name d.objects)
made_steps who number note DirectoryStep.Draw d self mine of_this = on_steps who number self note d of_this draw (draw_steps who number self note d of_this) (pass_of who d) refl
made_steps who number note (DirectoryStep.Commit placed) d self mine of_this =
    on_steps who number self note d of_this (commit placed) (commit_steps who number self note d of_this placed) (pass_of who d) refl
made_steps who number note DirectoryStep.End d self mine of_this = on_steps who number self note d of_this end_pass (end_steps who number self note d of_this) (pass_of who d) refl
made_steps who number note DirectoryStep.Confirm d self mine of_this = on_steps who number self note d of_this confirm (confirm_steps who number self note d of_this) (pass_of who d) refl
made_steps who number note (DirectoryStep.Repaired server epoch) d self mine of_this =
    on_steps who number self note d of_this (repaired server epoch) (repaired_steps who number self note d of_this server epoch) (pass_of who d) refl
made_steps who number note DirectoryStep.NextGarbage d self mine of_this = absurd mine
made_steps who number note (DirectoryStep.Swept version) d self mine of_this = absurd mine
made_steps who number note (DirectoryStep.Reap other) d self mine of_this = absurd mine

-- whether memory is wanting or not
unless_short_steps : (short takes : Bool) (who : Actor) (number : ℕ) (note : Note) (step : DirectoryStep) (d : Directory) → same_actor who who ≡ true → IsCallStep note step
    → ((pass : Pass) → pass_of who d ≡ Some pass → pass.number ≡ number) → StepMoves who number d (unless_short short takes who number step d).0 (unless_short short takes who number step d).1
unless_short_steps true true who number note step d self mine of_this = record { own = refl; others = λ other apart. refl; points = refl }
unless_short_steps true false who number note step d self mine of_this = made_steps who number note step d self mine of_this
unless_short_steps false true who number note step d self mine of_this = made_steps who number note step d self mine of_this
unless_short_steps false false who number note step d self mine of_this = made_steps who number note step d self mine of_this

-- each step of a call moves its own pass and the points as its answer says, and no other's pass
pub step_moves : (short : Bool) (who : Actor) (number : ℕ) (note : Note) (step : DirectoryStep) (d : Directory) → same_actor who who ≡ true → IsCallStep note step
    → ((pass : Pass) → pass_of who d ≡ Some pass → pass.number ≡ number)
    → StepMoves who number d (at_directory short who number step d).0 (at_directory short who number step d).1
step_moves short who number note step d self mine of_this = unless_short_steps short (takes_memory step) who number note step d self mine of_this

-- ---- a reap and the sweeper's steps
-- the point of a reaped pass
abbrev pub reap_of : Pass → Point
reap_of pass = record { actor = pass.actor; number = pass.number; note = pass.note; event = Event.Reaped }

-- each pass keeps its number and what it drew; the only new point is a pass's reap
pub record PassesStand (before after : Directory) : Type 1 where
  pub passes : (who : Actor) (P : ℕ → List ℕ → Type 0) → IfSome (pass_of who before) (λ pass. P pass.number pass.drawn) → IfSome (pass_of who after) (λ pass. P pass.number pass.drawn)
  pub points : (P : Point → Type 0) → ((who : Actor) (pass : Pass) → pass_of who before ≡ Some pass → P (reap_of pass)) → All P before.points → All P after.points

-- the same passes and points
unchanged : (before after : Directory) → after.passes ≡ before.passes → after.points ≡ before.points → PassesStand before after
unchanged before after same points =
    record {
      passes = λ who P h. subst (λ (l : List Pass). IfSome (found_in who l) (λ pass. P pass.number pass.drawn)) (sym same) h;
      points = λ P new all. subst (All P) (sym points) all;
    }

-- a pass is marked with its reap
marked_stands : (who : Actor) (pass : Pass) (d : Directory) → pass_of who d ≡ Some pass → (reaped : Option ℕ) → PassesStand d (reap_pass pass reaped d).0
marked_stands who pass d found (Some point) = unchanged d _ refl refl
marked_stands who pass d found None =
    record {
      passes = λ other P h.
          subst (λ (o : Option Pass). IfSome o (λ p. P p.number p.drawn)) (sym (mapped_found other (one_changed pass.actor change) (keeps_actor pass.actor change (λ p. refl)) d.passes))
          (still P (pass_of other d) h);
      points = λ P new all. All-push P d.points (reap_of pass) all (new who pass found);
    }
  where
    change : Pass → Pass
    change other = record other { reaped = Some (length d.points) }

    still : (P : ℕ → List ℕ → Type 0) (found : Option Pass) → IfSome found (λ p. P p.number p.drawn) → IfSome (option_map (one_changed pass.actor change) found) (λ p. P p.number p.drawn)
    still P None h = tt
    still P (Some p) h = cond_both {A = Pass} (same_actor pass.actor p.actor) (change p) p (λ q. P q.number q.drawn) (λ _. h) (λ _. h)

-- where nothing was done
pub nothing_done : (d : Directory) → PassesStand d d
nothing_done d = unchanged d d refl refl

-- a reap
reap_stands : (who : Actor) (d : Directory) (found : Option Pass) → pass_of who d ≡ found → PassesStand d (reap found d).0
reap_stands who d None e = unchanged d _ refl refl
reap_stands who d (Some pass) e = marked_stands who pass d e pass.reaped

-- the sweeper takes a version
take_stands : (found : Option ℕ) (d : Directory) → PassesStand d (take_garbage found d).0
take_stands None d = unchanged d _ refl refl
take_stands (Some version) d = unchanged d _ refl refl

-- the steps of the sweeper and the operator leave each call what it has
pub passes_stand : (who : Actor) (number : ℕ) (step : DirectoryStep) (d : Directory) → IsOthersStep step → PassesStand d (at_directory false who number step d).0
passes_stand who number DirectoryStep.NextGarbage d h = take_stands (first_garbage d) d
passes_stand who number (DirectoryStep.Swept version) d h = unchanged d _ refl refl
passes_stand who number (DirectoryStep.Reap other) d h = reap_stands other d (pass_of other d) refl
passes_stand who number step d h = absurd h
