-- Which actor has a pass, and for which call, after each step at the directory.
use Rattle.std.proofs.Common.{◌≡◌, ℕ, Bool, true, false, cond, not, nat_lt, List, [], ◌∷◌, length, map, filter, find, Option, None, Some, option_map, unwrap_or, IfSome, All, refl, sym, ap, subst, ◌∙◌, true≢false}
use Rattle.std.proofs.lemmas.Bool.{cond_both, eqb-true}
use Rattle.std.proofs.lemmas.List.Elements.{All-head, All-tail}
use Rattle.std.specs.List.{list_all, range_with_len}
use Rattle.store_map.specs.declared.actor.Actor.{Actor}
use Rattle.store_map.specs.declared.actor.Actor.TheVariants as actor
use Rattle.store_map.specs.declared.reply.Reply.{Reply}
use Rattle.store_map.specs.declared.placement.Placement.{Placement}
use Rattle.store_core.specs.Told.{Told}
use Rattle.store_core.specs.Note.{Note, Kind, refusal}
use Rattle.store_core.specs.Act.{DirectoryStep, takes_memory}
use Rattle.store_core.specs.Directory.{Object, Pass, Directory}
use Rattle.store_core.specs.Lookups.{same_actor, find_object, pass_of, last_change, first_garbage, is_current}
use Rattle.store_core.specs.Look.{begin_pass, seen_at}
use Rattle.store_core.specs.Looks.{accept, look_by, look_repair_by}
use Rattle.store_core.specs.PassSteps.{close_pass, give_up_drawn, draw, end_pass, confirm, repaired, touched}
use Rattle.store_core.specs.Commit.{commit, commit_object, is_overtaken}
use Rattle.store_core.specs.AtDirectory.{unless_reaped, on_pass, take_garbage, reap_pass, reap, made_at_directory, unless_short, at_directory}

-- the note of the actor's pass, if it has one
abbrev pub held : Actor → Directory → Option Note
held who d = option_map (λ pass. pass.note) (pass_of who d)

abbrev held_in : Actor → List Pass → Option Note
held_in who passes = option_map (λ pass. pass.note) (find (λ pass. same_actor who pass.actor) passes)

-- after an answer to a step of a call with this note
abbrev pub held_after : Told → Note → Option Note → Option Note
held_after (Told.Pinned point length_now stripes) note before = Some note
held_after (Told.Ready base length_now stripes) note before = Some note
held_after (Told.PinnedStripe seen) note before = Some note
held_after (Told.Done point) note before = None
held_after (Told.Changed base newer) note before = None
held_after Told.Ended note before = None
held_after (Told.Superseded newer) note before = None
held_after (Told.Reaped point) note before = None
held_after answer note before = before

-- ---- actors
-- the same actor
pub same_is : (a b : Actor) → same_actor a b ≡ true → a ≡ b
same_is (actor.Client i) (actor.Client j) e = ap actor.Client (eqb-true i j e)
same_is (actor.Repairer i) (actor.Repairer j) e = ap actor.Repairer (eqb-true i j e)
same_is actor.Sweeper actor.Sweeper e = refl
same_is actor.Operator actor.Operator e = refl
same_is a b e = absurd (true≢false (sym e))

-- ---- lists of passes
-- a pass that is closed is gone
pub closed_own : (who : Actor) (passes : List Pass) → find (λ pass. same_actor who pass.actor) (filter (λ pass. not (same_actor who pass.actor)) passes) ≡ None
closed_own who [] = refl
closed_own who (pass ∷ passes) = by (closed_own who passes) (same_actor who pass.actor) refl
  where
    by : find (λ (other : Pass). same_actor who other.actor) (filter (λ (other : Pass). not (same_actor who other.actor)) passes) ≡ None → (b : Bool) → same_actor who pass.actor ≡ b → find (λ (other : Pass). same_actor who other.actor) (cond {A = List Pass} (not b) (pass ∷ filter (λ (other : Pass). not (same_actor who other.actor)) passes) (filter (λ (other : Pass). not (same_actor who other.actor)) passes)) ≡ None
    by rest true e = rest
    by rest false e =
        ap (λ c. cond {A = Option Pass} c (Some pass) (find (λ (other : Pass). same_actor who other.actor) (filter (λ (other : Pass). not (same_actor who other.actor)) passes))) e ∙ rest

-- and the others' stay
pub closed_other : (who other : Actor) (passes : List Pass) → same_actor other who ≡ false
    → find (λ pass. same_actor other pass.actor) (filter (λ pass. not (same_actor who pass.actor)) passes) ≡ find (λ pass. same_actor other pass.actor) passes
closed_other who other [] apart = refl
closed_other who other (pass ∷ passes) apart = by (closed_other who other passes apart) (same_actor who pass.actor) refl
  where
    by : find (λ (p : Pass). same_actor other p.actor) (filter (λ (p : Pass). not (same_actor who p.actor)) passes) ≡ find (λ (p : Pass). same_actor other p.actor) passes
        → (b : Bool) → same_actor who pass.actor ≡ b
        → find (λ (p : Pass). same_actor other p.actor) (cond {A = List Pass} (not b) (pass ∷ filter (λ (p : Pass). not (same_actor who p.actor)) passes) (filter (λ (p : Pass). not (same_actor who p.actor)) passes))
        ≡ cond {A = Option Pass} (same_actor other pass.actor) (Some pass) (find (λ (p : Pass). same_actor other p.actor) passes)
    by rest true e =
        rest
        ∙ sym (ap (λ c. cond {A = Option Pass} c (Some pass) (find (λ (p : Pass). same_actor other p.actor) passes)) (ap (same_actor other) (sym (same_is who pass.actor e)) ∙ apart))
    by rest false e = ap (λ found. cond {A = Option Pass} (same_actor other pass.actor) (Some pass) found) rest

-- a change of a pass that leaves its actor and its note
pub record KeepsNote (change : Pass → Pass) : Type 0 where
  pub who : (pass : Pass) → (change pass).actor ≡ pass.actor
  pub note : (pass : Pass) → (change pass).note ≡ pass.note

-- a change of passes that keeps actors and notes
changed_held : (who : Actor) (change : Pass → Pass) → KeepsNote change → (passes : List Pass) → held_in who (map change passes) ≡ held_in who passes
changed_held who change keeps [] = refl
changed_held who change keeps (pass ∷ passes) =
    ap (λ a. option_map (λ (p : Pass). p.note) (cond {A = Option Pass} (same_actor who a) (Some (change pass)) (find (λ (p : Pass). same_actor who p.actor) (map change passes)))) (keeps.who pass)
    ∙ by (changed_held who change keeps passes) (same_actor who pass.actor)
  where
    by : held_in who (map change passes) ≡ held_in who passes → (b : Bool)
        → option_map (λ (p : Pass). p.note) (cond {A = Option Pass} b (Some (change pass)) (find (λ (p : Pass). same_actor who p.actor) (map change passes)))
        ≡ option_map (λ (p : Pass). p.note) (cond {A = Option Pass} b (Some pass) (find (λ (p : Pass). same_actor who p.actor) passes))
    by rest true = ap (λ n. Some n) (keeps.note pass)
    by rest false = rest

chosen_keeps : (who : Actor) (change : Pass → Pass) → KeepsNote change → KeepsNote (λ other. cond {A = Pass} (same_actor who other.actor) (change other) other)
chosen_keeps who change keeps =
    record {
      who = λ pass. cond_both {A = Pass} (same_actor who pass.actor) (change pass) pass (λ p. p.actor ≡ pass.actor) (λ _. keeps.who pass) (λ _. refl);
      note = λ pass. cond_both {A = Pass} (same_actor who pass.actor) (change pass) pass (λ p. p.note ≡ pass.note) (λ _. keeps.note pass) (λ _. refl);
    }

-- what is found passes the test, and has what all have
found_passes : {X : Type 0} (test : X → Bool) (xs : List X) → IfSome (find test xs) (λ x. test x ≡ true)
found_passes test [] = tt
found_passes test (x ∷ xs) = cond_both {A = Option _} (test x) (Some x) (find test xs) (λ found. IfSome found (λ y. test y ≡ true)) (λ e. e) (λ _. found_passes test xs)

-- what is found has what all have
pub found_has : {X : Type 0} (P : X → Type 0) (test : X → Bool) (xs : List X) → All P xs → IfSome (find test xs) P
found_has P test [] all = tt
found_has P test (x ∷ xs) all =
    cond_both {A = Option _} (test x) (Some x) (find test xs) (λ found. IfSome found P) (λ _. All-head P x xs all) (λ _. found_has P test xs (All-tail P x xs all))

-- an actor's pass is the actor's
pub pass_is : (who : Actor) (d : Directory) (pass : Pass) → pass_of who d ≡ Some pass → who ≡ pass.actor
pass_is who d pass e =
    let found : IfSome (pass_of who d) (λ (p : Pass). same_actor who p.actor ≡ true) = found_passes (λ (p : Pass). same_actor who p.actor) d.passes in
    same_is who pass.actor (subst (λ (o : Option Pass). IfSome o (λ p. same_actor who p.actor ≡ true)) e found)

-- ---- one step
pub record PassMoves (who : Actor) (note : Note) (before after : Directory) (answer : Told) : Type 0 where
  pub own : held who after ≡ held_after answer note (held who before)
  pub others : (other : Actor) → same_actor other who ≡ false → held other after ≡ held other before
  pub shape : after.shape ≡ before.shape
  pub max : after.max ≡ before.max

module _ (who : Actor) (note : Note) (d : Directory) where
  abbrev Stepped : Directory × Told → Type 0
  Stepped result = PassMoves who note d result.0 result.1

  -- only the passes count
  begun : (after : Directory) (pass : Pass) (answer : Told) → same_actor who who ≡ true → after.passes ≡ pass ∷ d.passes → pass.actor ≡ who → pass.note ≡ note
      → after.shape ≡ d.shape → after.max ≡ d.max → held_after answer note (held who d) ≡ Some note → PassMoves who note d after answer
  begun after pass answer self more mine noted shape max told =
      record {
        own =
            ap (held_in who) more ∙ ap (λ a. option_map (λ (p : Pass). p.note) (cond {A = Option Pass} (same_actor who a) (Some pass) (pass_of who d))) mine
            ∙ ap (λ b. option_map (λ (p : Pass). p.note) (cond {A = Option Pass} b (Some pass) (pass_of who d))) self ∙ ap (λ n. Some n) noted ∙ sym told;
        others = λ other apart.
            ap (held_in other) more ∙ ap (λ a. option_map (λ (p : Pass). p.note) (cond {A = Option Pass} (same_actor other a) (Some pass) (pass_of other d))) mine
            ∙ ap (λ b. option_map (λ (p : Pass). p.note) (cond {A = Option Pass} b (Some pass) (pass_of other d))) apart;
        shape = shape;
        max = max;
      }

  kept : (after : Directory) (answer : Told) → after.passes ≡ d.passes → after.shape ≡ d.shape → after.max ≡ d.max → held_after answer note (held who d) ≡ held who d → PassMoves who note d after answer
  kept after answer same shape max told =
      record { own = ap (held_in who) same ∙ sym told; others = λ other apart. ap (held_in other) same; shape = shape; max = max }

  closed : (after : Directory) (answer : Told) → after.passes ≡ filter (λ pass. not (same_actor who pass.actor)) d.passes → after.shape ≡ d.shape → after.max ≡ d.max
      → held_after answer note (held who d) ≡ None → PassMoves who note d after answer
  closed after answer gone shape max told =
      record {
        own = ap (held_in who) gone ∙ ap (option_map (λ (p : Pass). p.note)) (closed_own who d.passes) ∙ sym told;
        others = λ other apart. ap (held_in other) gone ∙ ap (option_map (λ (p : Pass). p.note)) (closed_other who other d.passes apart);
        shape = shape;
        max = max;
      }

  changed : (change : Pass → Pass) → KeepsNote change → (after : Directory) (answer : Told) → after.passes ≡ map change d.passes → after.shape ≡ d.shape → after.max ≡ d.max
      → held_after answer note (held who d) ≡ held who d → PassMoves who note d after answer
  changed change keeps after answer moved shape max told =
      record {
        own = ap (held_in who) moved ∙ changed_held who change keeps d.passes ∙ sym told;
        others = λ other apart. ap (held_in other) moved ∙ changed_held other change keeps d.passes;
        shape = shape;
        max = max;
      }

  -- ---- looks
  module _ (number : ℕ) (self : same_actor who who ≡ true) where
    accept_moves : (kind : Kind) (object : Object) → Stepped (accept who number note d kind object)
    accept_moves Kind.Put object = begun _ _ _ self refl refl refl refl refl refl
    accept_moves Kind.Write object = begun _ _ _ self refl refl refl refl refl refl
    accept_moves Kind.Stat object = kept _ _ refl refl refl refl
    accept_moves Kind.Delete object = kept _ _ refl refl refl refl
    accept_moves _ object = begun _ _ _ self refl refl refl refl refl refl

    look_moves : (found : Option Object) (refused : Option Reply) → Stepped (look_by who number note d found refused)
    look_moves found (Some reply) = kept _ _ refl refl refl refl
    look_moves found None = accept_moves note.kind _

    repair_moves : (found : Option Object) → Stepped (look_repair_by who number note d found)
    repair_moves None = kept _ _ refl refl refl refl
    repair_moves (Some object) =
        cond_both {A = Directory × Told} (nat_lt note.offset (length object.versions))
        (begin_pass who number note (seen_at d object note.offset ∷ []) None d, Told.PinnedStripe (seen_at d object note.offset)) (d, Told.NoSuch) Stepped
        (λ _. begun _ _ _ self refl refl refl refl refl refl) (λ _. kept _ _ refl refl refl refl)

  -- ---- steps on a pass
  closed_pass : (pass : Pass) → who ≡ pass.actor → (after : Directory) (answer : Told) → after.passes ≡ filter (λ other. not (same_actor pass.actor other.actor)) d.passes
      → after.shape ≡ d.shape → after.max ≡ d.max → held_after answer note (held who d) ≡ None → PassMoves who note d after answer
  closed_pass pass mine after answer gone shape max told =
      closed after answer (gone ∙ ap (λ a. filter (λ (other : Pass). not (same_actor a other.actor)) d.passes) (sym mine)) shape max told

  MovesOn : (Pass → Directory → Directory × Told) → Type 0
  MovesOn step = (pass : Pass) → who ≡ pass.actor → Stepped (step pass d)

  unless_moves : (step : Pass → Directory → Directory × Told) → MovesOn step → (pass : Pass) → who ≡ pass.actor → (reaped : Option ℕ) → Stepped (unless_reaped step pass reaped d)
  unfolding MovesOn
  unless_moves step moves pass mine None = moves pass mine
  unless_moves step moves pass mine (Some point) = closed_pass pass mine _ _ refl refl refl refl

  on_moves : (step : Pass → Directory → Directory × Told) → MovesOn step → (found : Option Pass) → pass_of who d ≡ found → Stepped (on_pass step found d)
  on_moves step moves None e = kept _ _ refl refl refl refl
  on_moves step moves (Some pass) e = unless_moves step moves pass (pass_is who d pass e) pass.reaped

  draw_moves : MovesOn draw
  unfolding MovesOn
  draw_moves pass mine =
      changed (λ other. cond {A = Pass} (same_actor pass.actor other.actor) (record other { drawn = drawn }) other)
      (chosen_keeps pass.actor (λ other. record other { drawn = drawn }) (record { who = λ p. refl; note = λ p. refl })) _ _ refl refl refl refl
    where
      drawn : List ℕ
      drawn = range_with_len (length d.versions) (length (touched d pass.note))

  end_moves : MovesOn end_pass
  unfolding MovesOn
  end_moves pass mine = closed_pass pass mine _ _ refl refl refl refl

  confirm_moves : MovesOn confirm
  unfolding MovesOn
  confirm_moves pass mine =
      cond_both {A = Directory × Told} (list_all (λ pin. is_current d pin.version) pass.pinned)
      (d, Told.Current) (close_pass pass d, Told.Superseded (unwrap_or (last_change pass.note.name d.points) 0)) Stepped
      (λ _. kept _ _ refl refl refl refl) (λ _. closed_pass pass mine _ _ refl refl refl refl)

  repaired_moves : (server epoch : ℕ) → MovesOn (repaired server epoch)
  unfolding MovesOn
  repaired_moves server epoch pass mine = closed_pass pass mine _ _ refl refl refl refl

  commit_moves : (placed : List (List Placement)) → MovesOn (commit placed)
  unfolding MovesOn
  commit_moves placed pass mine =
      cond_both {A = Directory × Told} (is_overtaken pass.note.kind pass.base (last_change pass.note.name d.points))
      (close_pass pass (give_up_drawn pass d), Told.Changed (unwrap_or pass.base 0) (unwrap_or (last_change pass.note.name d.points) 0))
      (commit_object placed pass (unwrap_or (find_object pass.note.name d.objects) (record { name = pass.note.name; length = 0; versions = [] })) d) Stepped
      (λ _. closed_pass pass mine _ _ refl refl refl refl) (λ _. closed_pass pass mine _ _ refl refl refl refl)

-- the steps of a call
abbrev pub IsCallStep : Note → DirectoryStep → Type 0
IsCallStep note (DirectoryStep.Look other) = other ≡ note
IsCallStep note (DirectoryStep.LookRepair other) = other ≡ note
IsCallStep note DirectoryStep.NextGarbage = ⊥
IsCallStep note (DirectoryStep.Swept version) = ⊥
IsCallStep note (DirectoryStep.Reap who) = ⊥
IsCallStep note _ = Unit {0}

made_moves : (who : Actor) (number : ℕ) (note : Note) (step : DirectoryStep) (d : Directory) → same_actor who who ≡ true → IsCallStep note step → Stepped who note d (made_at_directory who number step d)
made_moves who number note (DirectoryStep.Look other) d self mine =
    subst (λ n. Stepped who n d (made_at_directory who number (DirectoryStep.Look other) d)) mine
    (look_moves who other d number self (find_object other.name d.objects) (refusal d.max other (option_map (λ object. object.length) (find_object other.name d.objects))))
made_moves who number note (DirectoryStep.LookRepair other) d self mine =
    subst (λ n. Stepped who n d (made_at_directory who number (DirectoryStep.LookRepair other) d)) mine (repair_moves who other d number self (find_object other.name d.objects))
made_moves who number note DirectoryStep.Draw d self mine = on_moves who note d draw (draw_moves who note d) (pass_of who d) refl
made_moves who number note (DirectoryStep.Commit placed) d self mine = on_moves who note d (commit placed) (commit_moves who note d placed) (pass_of who d) refl
made_moves who number note DirectoryStep.End d self mine = on_moves who note d end_pass (end_moves who note d) (pass_of who d) refl
made_moves who number note DirectoryStep.Confirm d self mine = on_moves who note d confirm (confirm_moves who note d) (pass_of who d) refl
made_moves who number note (DirectoryStep.Repaired server epoch) d self mine =
    on_moves who note d (repaired server epoch) (repaired_moves who note d server epoch) (pass_of who d) refl
made_moves who number note DirectoryStep.NextGarbage d self mine = absurd mine
made_moves who number note (DirectoryStep.Swept version) d self mine = absurd mine
made_moves who number note (DirectoryStep.Reap other) d self mine = absurd mine

unless_short_moves : (short takes : Bool) (who : Actor) (number : ℕ) (note : Note) (step : DirectoryStep) (d : Directory) → same_actor who who ≡ true → IsCallStep note step
    → Stepped who note d (unless_short short takes who number step d)
unless_short_moves true true who number note step d self mine = kept who note d _ _ refl refl refl refl
unless_short_moves true false who number note step d self mine = made_moves who number note step d self mine
unless_short_moves false true who number note step d self mine = made_moves who number note step d self mine
unless_short_moves false false who number note step d self mine = made_moves who number note step d self mine

-- each step of a call at the directory moves its own pass as its answer says, and no other's
pub passes_move : (short : Bool) (who : Actor) (number : ℕ) (note : Note) (step : DirectoryStep) (d : Directory) → same_actor who who ≡ true → IsCallStep note step
    → PassMoves who note d (at_directory short who number step d).0 (at_directory short who number step d).1
passes_move short who number note step d self mine = unless_short_moves short (takes_memory step) who number note step d self mine

-- ---- a reap and the sweeper's steps
pub record PassesStay (before after : Directory) : Type 0 where
  pub held : (who : Actor) → held who after ≡ held who before
  pub shape : after.shape ≡ before.shape
  pub max : after.max ≡ before.max

reap_stays : (pass : Pass) (reaped : Option ℕ) (d : Directory) → PassesStay d (reap_pass pass reaped d).0
reap_stays pass (Some point) d = record { held = λ who. refl; shape = refl; max = refl }
reap_stays pass None d =
    record {
      held = λ who.
          changed_held who (λ other. cond {A = Pass} (same_actor pass.actor other.actor) (record other { reaped = Some (length d.points) }) other)
          (chosen_keeps pass.actor (λ other. record other { reaped = Some (length d.points) }) (record { who = λ p. refl; note = λ p. refl })) d.passes;
      shape = refl;
      max = refl;
    }

reap_any_stays : (found : Option Pass) (d : Directory) → PassesStay d (reap found d).0
reap_any_stays None d = record { held = λ who. refl; shape = refl; max = refl }
reap_any_stays (Some pass) d = reap_stays pass pass.reaped d

take_stays : (found : Option ℕ) (d : Directory) → PassesStay d (take_garbage found d).0
take_stays None d = record { held = λ who. refl; shape = refl; max = refl }
take_stays (Some version) d = record { held = λ who. refl; shape = refl; max = refl }

-- the steps of the sweeper and the operator
abbrev pub IsOthersStep : DirectoryStep → Type 0
IsOthersStep DirectoryStep.NextGarbage = Unit {0}
IsOthersStep (DirectoryStep.Swept version) = Unit {0}
IsOthersStep (DirectoryStep.Reap who) = Unit {0}
IsOthersStep _ = ⊥

-- they leave each actor its pass
pub passes_stay : (who : Actor) (number : ℕ) (step : DirectoryStep) (d : Directory) → IsOthersStep step → PassesStay d (at_directory false who number step d).0
passes_stay who number DirectoryStep.NextGarbage d h = take_stays (first_garbage d) d
passes_stay who number (DirectoryStep.Swept version) d h = record { held = λ other. refl; shape = refl; max = refl }
passes_stay who number (DirectoryStep.Reap other) d h = reap_any_stays (pass_of other d) d
passes_stay who number step d h = absurd h
