-- What a step at the directory tells of changes, and the pass that it leaves.
use Rattle.std.proofs.Common.{◌≡◌, ℕ, Bool, true, false, not, nat_lt, List, [], ◌∷◌, length, filter, map, Option, None, Some, option_map, unwrap_or, ◌⊎◌, inl, inr, refl, sym, ap, subst, ◌∙◌}
use Rattle.std.proofs.lemmas.Bool.{cond_both, cond-true}
use Rattle.std.proofs.lemmas.Option.{none-some, same_Some}
use Rattle.std.specs.List.{list_all, range_with_len}
use Rattle.clay_grid.specs.Shape.{Shape}
use Rattle.store_map.specs.declared.actor.Actor.{Actor}
use Rattle.store_map.specs.declared.placement.Placement.{Placement}
use Rattle.store_map.specs.declared.reply.Reply.{Reply}
use Rattle.store_core.specs.Act.{DirectoryStep, takes_memory}
use Rattle.store_core.specs.AtDirectory.{unless_reaped, on_pass, made_at_directory, unless_short, at_directory}
use Rattle.store_core.specs.Commit.{commit, commit_object, is_overtaken}
use Rattle.store_core.specs.Directory.{Object, Pass, Directory}
use Rattle.store_core.specs.Look.{begin_pass, seen_at}
use Rattle.store_core.specs.Looks.{accept, look_by, look_repair_by}
use Rattle.store_core.specs.Lookups.{same_actor, find_object, pass_of, last_change, is_current}
use Rattle.store_core.specs.Note.{Note, Kind, refusal}
use Rattle.store_core.specs.PassSteps.{close_pass, give_up_drawn, draw, end_pass, confirm, repaired, touched}
use Rattle.store_core.specs.Told.{Told}
use Rattle.run_laws.proofs.CallActs.{IsOfClients, StepOfKind}
use Rattle.run_laws.proofs.OwnPasses.{found_in, one_changed, changed_own, found_mine}
use Rattle.run_laws.proofs.Passes.{pass_is, closed_own, IsCallStep}

module _ (who : Actor) (note : Note) (d : Directory) where
  -- a commit that was overtaken tells the pass's base and the last change
  pub record ChangedBy (base newer : ℕ) : Type 0 where
    pub pass : Pass
    pub found : pass_of who d ≡ Some pass
    pub base_is : base ≡ unwrap_or pass.base 0
    pub newer_is : newer ≡ unwrap_or (last_change pass.note.name d.points) 0
    pub overtaken : is_overtaken pass.note.kind pass.base (last_change pass.note.name d.points) ≡ true

  -- a pass whose version isn't current is told of the last change
  pub record SupersededBy (newer : ℕ) : Type 0 where
    pub pass : Pass
    pub found : pass_of who d ≡ Some pass
    pub newer_is : newer ≡ unwrap_or (last_change pass.note.name d.points) 0

  -- after a change there is no pass
  abbrev pub RaceTold : List Pass → Told → Type 0
  RaceTold passes (Told.Changed base newer) = ChangedBy base newer × (found_in who passes ≡ None)
  RaceTold passes (Told.Superseded newer) = SupersededBy newer
  RaceTold passes answer = Unit {0}

  -- the pass was there, or begins at this look
  pub record FromOld (now : Pass) : Type 0 where
    pub pass : Pass
    pub found : pass_of who d ≡ Some pass
    pub same_base : now.base ≡ pass.base
    pub same_note : now.note ≡ pass.note

  pub record FromLook (now : Pass) : Type 0 where
    pub noted : now.note ≡ note
    pub base : (b : ℕ) → now.base ≡ Some b → last_change note.name d.points ≡ Some b
    pub there : note.kind ≡ Kind.Rebuild → (object : Object) × (find_object note.name d.objects ≡ Some object)

  abbrev pub PassFrom : List Pass → Type 0
  PassFrom passes = (now : Pass) → found_in who passes ≡ Some now → FromOld now ⊎ FromLook now

  abbrev pub Moves : Directory × Told → Type 0
  Moves after = RaceTold after.0.passes after.1 × PassFrom after.0.passes

  same_passes : PassFrom d.passes
  same_passes now found = inl (record { pass = now; found = found; same_base = refl; same_note = refl })

  module _ (number : ℕ) (self : same_actor who who ≡ true) where
    begun : (pass : Pass) → pass.actor ≡ who → FromLook pass → PassFrom (pass ∷ d.passes)
    begun pass mine from now found =
        inr (subst FromLook (same_Some pass now (sym there ∙ found)) from)
      where
        there : found_in who (pass ∷ d.passes) ≡ Some pass
        there = cond-true {A = Option Pass} (same_actor who pass.actor) (Some pass) (found_in who d.passes) (ap (same_actor who) mine ∙ self)

    abbrev closing : Pass → List Pass
    closing pass = filter (λ other. not (same_actor pass.actor other.actor)) d.passes

    gone : (pass : Pass) → pass_of who d ≡ Some pass → found_in who (closing pass) ≡ None
    gone pass found = ap (λ a. found_in who (filter (λ (other : Pass). not (same_actor a other.actor)) d.passes)) (sym (pass_is who d pass found)) ∙ closed_own who d.passes

    closed : (pass : Pass) → pass_of who d ≡ Some pass → PassFrom (closing pass)
    closed pass found now found_now = absurd (none-some now (sym (gone pass found) ∙ found_now))

    from_look : IsOfClients note.kind → (pass : Pass) → pass.note ≡ note → ((b : ℕ) → pass.base ≡ Some b → last_change note.name d.points ≡ Some b) → FromLook pass
    from_look clients pass noted base = record { noted = noted; base = base; there = λ e. absurd (subst IsOfClients e clients) }

    accept_moves : IsOfClients note.kind → (kind : Kind) (object : Object) → Moves (accept who number note d kind object)
    accept_moves clients Kind.Put object = (tt, begun _ refl (from_look clients _ refl (λ b e. absurd (none-some b e))))
    accept_moves clients Kind.Write object = (tt, begun _ refl (from_look clients _ refl (λ b e. e)))
    accept_moves clients Kind.Stat object = (tt, same_passes)
    accept_moves clients Kind.Delete object = (tt, same_passes)
    accept_moves clients Kind.Get object = (tt, begun _ refl (from_look clients _ refl (λ b e. absurd (none-some b e))))
    accept_moves clients Kind.ReadAt object = (tt, begun _ refl (from_look clients _ refl (λ b e. absurd (none-some b e))))
    accept_moves clients Kind.Rebuild object = (tt, begun _ refl (from_look clients _ refl (λ b e. absurd (none-some b e))))

    look_moves : IsOfClients note.kind → (found : Option Object) (refused : Option Reply) → Moves (look_by who number note d found refused)
    look_moves clients found (Some given) = (tt, same_passes)
    look_moves clients found None = accept_moves clients note.kind _

    repair_moves : (found : Option Object) → find_object note.name d.objects ≡ found → Moves (look_repair_by who number note d found)
    repair_moves None e = (tt, same_passes)
    repair_moves (Some object) e =
        cond_both {A = Directory × Told} (nat_lt note.offset (length object.versions))
        (begin_pass who number note (seen_at d object note.offset ∷ []) None d, Told.PinnedStripe (seen_at d object note.offset)) (d, Told.NoSuch) Moves
        (λ _. (tt, begun _ refl (record { noted = refl; base = λ b e. absurd (none-some b e); there = λ _. (object, e) }))) (λ _. (tt, same_passes))

    unless_moves : (step : Pass → Directory → Directory × Told) (pass : Pass) → pass_of who d ≡ Some pass → (reaped : Option ℕ) → Moves (step pass d) → Moves (unless_reaped step pass reaped d)
    unless_moves step pass found None h = h
    unless_moves step pass found (Some point) h = (tt, closed pass found)

    on_moves : (step : Pass → Directory → Directory × Told) → ((pass : Pass) → pass_of who d ≡ Some pass → Moves (step pass d)) → (found : Option Pass) → pass_of who d ≡ found → Moves (on_pass step found d)
    on_moves step h None e = (tt, same_passes)
    on_moves step h (Some pass) e = unless_moves step pass e pass.reaped (h pass e)

    draw_moves : (pass : Pass) → pass_of who d ≡ Some pass → Moves (draw pass d)
    draw_moves pass found = (tt, from)
      where
        drawn : List ℕ
        drawn = range_with_len (length d.versions) (length (touched d pass.note))

        from : PassFrom (draw pass d).0.passes
        from now is =
            inl (subst FromOld (same_Some (record pass { drawn = range_with_len (length d.versions) (length (touched d pass.note)) }) now (sym there ∙ is)) (record { pass = pass; found = found; same_base = refl; same_note = refl }))
          where
            there : found_in who (map (one_changed pass.actor (λ other. record other { drawn = range_with_len (length d.versions) (length (touched d pass.note)) })) d.passes) ≡ Some (record pass { drawn = range_with_len (length d.versions) (length (touched d pass.note)) })
            there =
                ap (λ a. found_in who (map (one_changed a (λ other. record other { drawn = range_with_len (length d.versions) (length (touched d pass.note)) })) d.passes)) (sym (pass_is who d pass found))
                ∙ changed_own who (λ other. record other { drawn = range_with_len (length d.versions) (length (touched d pass.note)) }) (λ p. refl) d.passes pass found (found_mine who d.passes pass found)

    confirm_moves : (pass : Pass) → pass_of who d ≡ Some pass → Moves (confirm pass d)
    confirm_moves pass found =
        cond_both {A = Directory × Told} (list_all (λ pin. is_current d pin.version) pass.pinned)
        (d, Told.Current) (close_pass pass d, Told.Superseded (unwrap_or (last_change pass.note.name d.points) 0)) Moves
        (λ _. (tt, same_passes)) (λ _. (record { pass = pass; found = found; newer_is = refl }, closed pass found))

    commit_moves : (placed : List (List Placement)) (pass : Pass) → pass_of who d ≡ Some pass → Moves (commit placed pass d)
    commit_moves placed pass found =
        cond_both {A = Directory × Told} (is_overtaken pass.note.kind pass.base (last_change pass.note.name d.points))
        (close_pass pass (give_up_drawn pass d), Told.Changed (unwrap_or pass.base 0) (unwrap_or (last_change pass.note.name d.points) 0))
        (commit_object placed pass (unwrap_or (find_object pass.note.name d.objects) (record { name = pass.note.name; length = 0; versions = [] })) d) Moves
        (λ e. ((record { pass = pass; found = found; base_is = refl; newer_is = refl; overtaken = e }, gone pass found), closed pass found))
        (λ _. (tt, closed pass found))

module _ (g : Shape) (who : Actor) (note : Note) (d : Directory) (number : ℕ) (self : same_actor who who ≡ true) where
  made_moves : (step : DirectoryStep) → IsCallStep note step → StepOfKind g note.kind step → Moves who note d (made_at_directory who number step d)
  made_moves (DirectoryStep.Look other) mine kind =
      subst (λ (n : Note). Moves who note d (made_at_directory who number (DirectoryStep.Look n) d)) (sym mine)
      (look_moves who note d number self kind (find_object note.name d.objects) (refusal d.max note (option_map (λ object. object.length) (find_object note.name d.objects))))
  made_moves (DirectoryStep.LookRepair other) mine kind =
      subst (λ (n : Note). Moves who note d (made_at_directory who number (DirectoryStep.LookRepair n) d)) (sym mine) (repair_moves who note d number self (find_object note.name d.objects) refl)
  made_moves DirectoryStep.Draw mine kind = on_moves who note d number self draw (draw_moves who note d number self) (pass_of who d) refl
  made_moves (DirectoryStep.Commit placed) mine kind = on_moves who note d number self (commit placed) (commit_moves who note d number self placed) (pass_of who d) refl
  made_moves DirectoryStep.End mine kind = on_moves who note d number self end_pass (λ pass found. (tt, closed who note d number self pass found)) (pass_of who d) refl
  made_moves DirectoryStep.Confirm mine kind = on_moves who note d number self confirm (confirm_moves who note d number self) (pass_of who d) refl
  made_moves (DirectoryStep.Repaired server epoch) mine kind = on_moves who note d number self (repaired server epoch) (λ pass found. (tt, closed who note d number self pass found)) (pass_of who d) refl
  made_moves step mine kind = absurd mine

  -- each step of a call at the directory
  pub step_tells : (short : Bool) (step : DirectoryStep) → IsCallStep note step → StepOfKind g note.kind step → Moves who note d (at_directory short who number step d)
  step_tells short step mine kind = by short (takes_memory step)
    where
      by : (short takes : Bool) → Moves who note d (unless_short short takes who number step d)
      by true true = (tt, same_passes who note d)
      by true false = made_moves step mine kind
      by false true = made_moves step mine kind
      by false false = made_moves step mine kind
