-- What a step of a call at the directory tells of reaps and changes, and the pass that it leaves.
use Rattle.std.proofs.Common.{◌≡◌, ℕ, Bool, true, false, not, nat_lt, List, [], ◌∷◌, length, filter, map, Option, None, Some, option_map, unwrap_or, get_or, IsTrue, ◌⊎◌, inl, inr, refl, sym, ap, subst, ◌∙◌}
use Rattle.std.proofs.lemmas.Bool.{cond_both, cond-true, ltb-true}
use Rattle.std.proofs.lemmas.Option.{none-some, same_Some}
use Rattle.std.proofs.lemmas.List.Elements.{Contains-get_or}
use Rattle.std.specs.List.{list_all, range_with_len}
use Rattle.clay_grid.specs.Shape.{Shape}
use Rattle.store_map.specs.declared.actor.Actor.{Actor}
use Rattle.store_map.specs.declared.placement.Placement.{Placement}
use Rattle.store_map.specs.declared.reply.Reply.{Reply}
use Rattle.store_core.specs.Act.{DirectoryStep, takes_memory}
use Rattle.store_core.specs.AtDirectory.{unless_reaped, on_pass, made_at_directory, unless_short, at_directory}
use Rattle.store_core.specs.Commit.{commit, commit_object, is_overtaken}
use Rattle.store_core.specs.Directory.{Object, Pin, Pass, Directory}
use Rattle.store_core.specs.Lists.{is_among}
use Rattle.store_core.specs.Look.{begin_pass, seen_at}
use Rattle.store_core.specs.Looks.{accept, look_by, look_repair_by}
use Rattle.store_core.specs.Lookups.{same_actor, find_object, pass_of, last_change, is_current}
use Rattle.store_core.specs.Note.{Note, Kind, refusal}
use Rattle.store_core.specs.PassSteps.{close_pass, give_up_drawn, draw, end_pass, confirm, repaired, touched}
use Rattle.store_core.specs.Told.{Told}
use Rattle.run_laws.proofs.CallActs.{IsOfClients, StepOfKind}
use Rattle.run_laws.proofs.OwnPasses.{found_in, one_changed, changed_own, found_mine}
use Rattle.run_laws.proofs.Proper.{IsWriting}
use Rattle.run_laws.proofs.Passes.{pass_is, closed_own, IsCallStep}
use Rattle.run_laws.proofs.SoundLists.{among}

-- a rebuild draws nothing
not_rebuild : (kind : Kind) → IsWriting kind → kind ≡ Kind.Rebuild → ⊥
not_rebuild Kind.Rebuild writes e = writes
not_rebuild kind writes e = subst IsWriting e writes

-- the steps that draw are those of puts and writes
abbrev pub DrawsOnly : Kind → DirectoryStep → Type 0
DrawsOnly kind DirectoryStep.Draw = IsWriting kind
DrawsOnly kind step = Unit {0}

module _ (who : Actor) (note : Note) (d : Directory) where
  -- a commit that was overtaken tells the pass's base and the last change
  pub record ChangedBy (base newer : ℕ) : Type 0 where
    pub pass : Pass
    pub found : pass_of who d ≡ Some pass
    pub base_is : base ≡ unwrap_or pass.base 0
    pub newer_is : newer ≡ unwrap_or (last_change pass.note.name d.points) 0
    pub overtaken : is_overtaken pass.note.kind pass.base (last_change pass.note.name d.points) ≡ true

  -- a pass whose version isn't current is told of the last change
  pub record SupersededBy (newer : ℕ) : Type 0 where
    pub pass : Pass
    pub found : pass_of who d ≡ Some pass
    pub live : pass.reaped ≡ None
    pub newer_is : newer ≡ unwrap_or (last_change pass.note.name d.points) 0
    pub lost : list_all (λ (pin : Pin). is_current d pin.version) pass.pinned ≡ false

  -- a pass that was reaped is told of its reap
  pub record ReapedBy (point : ℕ) : Type 0 where
    pub pass : Pass
    pub found : pass_of who d ≡ Some pass
    pub reaped : pass.reaped ≡ Some point

  abbrev pub PassTold : Told → Type 0
  PassTold (Told.Changed base newer) = ChangedBy base newer
  PassTold (Told.Superseded newer) = SupersededBy newer
  PassTold (Told.Reaped point) = ReapedBy point
  PassTold answer = Unit {0}

  -- the pass was there
  pub record FromOld (after : Directory) (now : Pass) : Type 0 where
    pub pass : Pass
    pub found : pass_of who d ≡ Some pass
    pub same_base : now.base ≡ pass.base
    pub same_note : now.note ≡ pass.note
    pub same_reaped : now.reaped ≡ pass.reaped
    pub rebuilds : note.kind ≡ Kind.Rebuild → after ≡ d

  -- or it begins at this look; a rebuild's pins a version of its object
  pub record FromRepair (after : Directory) (now : Pass) : Type 0 where
    pub object : Object
    pub found : find_object note.name d.objects ≡ Some object
    pub version : ℕ
    pub pin : Pin
    pub pinned : now.pinned ≡ pin ∷ []
    pub of_object : IsTrue (is_among pin.version object.versions)
    pub objects : after.objects ≡ d.objects
    pub points : after.points ≡ d.points
    pub is_pass : pass_of who after ≡ Some now

  pub record FromLook (after : Directory) (now : Pass) : Type 0 where
    pub noted : now.note ≡ note
    pub fresh : now.reaped ≡ None
    pub base : note.kind ≡ Kind.Write → (b : ℕ) → now.base ≡ Some b → (last_change note.name d.points ≡ Some b) × (after.points ≡ d.points)
    pub repair : note.kind ≡ Kind.Rebuild → FromRepair after now

  abbrev pub PassFrom : Directory → Type 0
  PassFrom after = (now : Pass) → pass_of who after ≡ Some now → FromOld after now ⊎ FromLook after now

  abbrev pub Moves : Directory × Told → Type 0
  Moves after = PassTold after.1 × PassFrom after.0

  nothing_done : (answer : Told) → PassTold answer → Moves (d, answer)
  nothing_done answer told = (told, λ now found. inl (record { pass = now; found = found; same_base = refl; same_note = refl; same_reaped = refl; rebuilds = λ e. refl }))

  same_passes : (after : Directory) → after.passes ≡ d.passes → (note.kind ≡ Kind.Rebuild → after ≡ d) → PassFrom after
  same_passes after same rebuilds now found =
      inl (record { pass = now; found = ap (found_in who) (sym same) ∙ found; same_base = refl; same_note = refl; same_reaped = refl; rebuilds = rebuilds })

  module _ (number : ℕ) (self : same_actor who who ≡ true) (of_this : (pass : Pass) → pass_of who d ≡ Some pass → pass.note ≡ note) where
    begun : (pass : Pass) (after : Directory) → pass.actor ≡ who → after.passes ≡ pass ∷ d.passes → (pass_of who after ≡ Some pass → FromLook after pass) → PassFrom after
    begun pass after mine passes from now found =
        inr (subst (FromLook after) (same_Some pass now (sym there ∙ found)) (from there))
      where
        there : pass_of who after ≡ Some pass
        there = ap (found_in who) passes ∙ cond-true {A = Option Pass} (same_actor who pass.actor) (Some pass) (found_in who d.passes) (ap (same_actor who) mine ∙ self)

    abbrev closing : Pass → List Pass
    closing pass = filter (λ other. not (same_actor pass.actor other.actor)) d.passes

    gone : (pass : Pass) → pass_of who d ≡ Some pass → found_in who (closing pass) ≡ None
    gone pass found = ap (λ a. found_in who (filter (λ (other : Pass). not (same_actor a other.actor)) d.passes)) (sym (pass_is who d pass found)) ∙ closed_own who d.passes

    closed : (pass : Pass) (after : Directory) → pass_of who d ≡ Some pass → after.passes ≡ closing pass → PassFrom after
    closed pass after found passes now found_now = absurd (none-some now (sym (ap (found_in who) passes ∙ gone pass found) ∙ found_now))

    -- a look of a client
    client_look : IsOfClients note.kind → (pass : Pass) (after : Directory) → pass.note ≡ note → pass.reaped ≡ None
        → (note.kind ≡ Kind.Write → (b : ℕ) → pass.base ≡ Some b → (last_change note.name d.points ≡ Some b) × (after.points ≡ d.points)) → FromLook after pass
    client_look clients pass after noted fresh base = record { noted = noted; fresh = fresh; base = base; repair = λ e. absurd (subst IsOfClients e clients) }

    accept_moves : IsOfClients note.kind → (kind : Kind) → note.kind ≡ kind → (object : Object) → Moves (accept who number note d kind object)
    accept_moves clients Kind.Put is object = (tt, begun _ _ refl refl (λ there. client_look clients _ _ refl refl (λ e b k. absurd (none-some b k))))
    accept_moves clients Kind.Write is object = (tt, begun _ _ refl refl (λ there. client_look clients _ _ refl refl (λ e b k. (k, refl))))
    accept_moves clients Kind.Stat is object = (tt, same_passes _ refl (λ e. absurd (subst IsOfClients e clients)))
    accept_moves clients Kind.Delete is object = (tt, same_passes _ refl (λ e. absurd (subst IsOfClients e clients)))
    accept_moves clients Kind.Get is object = (tt, begun _ _ refl refl (λ there. client_look clients _ _ refl refl (λ e b k. absurd (none-some b k))))
    accept_moves clients Kind.ReadAt is object = (tt, begun _ _ refl refl (λ there. client_look clients _ _ refl refl (λ e b k. absurd (none-some b k))))
    accept_moves clients Kind.Rebuild is object = absurd (subst IsOfClients is clients)

    look_moves : IsOfClients note.kind → (found : Option Object) (refused : Option Reply) → Moves (look_by who number note d found refused)
    look_moves clients found (Some given) = (tt, same_passes _ refl (λ e. absurd (subst IsOfClients e clients)))
    look_moves clients found None = accept_moves clients note.kind refl _

    repair_moves : (found : Option Object) → find_object note.name d.objects ≡ found → Moves (look_repair_by who number note d found)
    repair_moves None e = nothing_done Told.NoSuch tt
    repair_moves (Some object) e =
        cond_both {A = Directory × Told} (nat_lt note.offset (length object.versions))
        (begin_pass who number note (seen_at d object note.offset ∷ []) None d, Told.PinnedStripe (seen_at d object note.offset)) (d, Told.NoSuch) Moves
        (λ low. (
          tt,
          begun _ _ refl refl
              (λ there. record {
                noted = refl;
                fresh = refl;
                base = λ w b k. absurd (none-some b k);
                repair = λ r. record {
                  object = object;
                  found = e;
                  version = get_or object.versions note.offset 0;
                  pin = record { stripe = note.offset; version = get_or object.versions note.offset 0 };
                  pinned = refl;
                  of_object = among (get_or object.versions note.offset 0) object.versions (Contains-get_or object.versions note.offset 0 (ltb-true note.offset (length object.versions) low));
                  objects = refl;
                  points = refl;
                  is_pass = there;
                };
              }),
        ))
        (λ _. nothing_done Told.NoSuch tt)

    unless_moves : (step : Pass → Directory → Directory × Told) (pass : Pass) → pass_of who d ≡ Some pass → (reaped : Option ℕ) → pass.reaped ≡ reaped → (pass.reaped ≡ None → Moves (step pass d)) → Moves (unless_reaped step pass reaped d)
    unless_moves step pass found None e h = h e
    unless_moves step pass found (Some point) e h = (record { pass = pass; found = found; reaped = e }, closed pass _ found refl)

    on_moves : (step : Pass → Directory → Directory × Told) → ((pass : Pass) → pass_of who d ≡ Some pass → pass.reaped ≡ None → Moves (step pass d)) → (found : Option Pass) → pass_of who d ≡ found → Moves (on_pass step found d)
    on_moves step h None e = nothing_done Told.NotMade tt
    on_moves step h (Some pass) e = unless_moves step pass e pass.reaped refl (h pass e)

    draw_moves : IsWriting note.kind → (pass : Pass) → pass_of who d ≡ Some pass → pass.reaped ≡ None → Moves (draw pass d)
    draw_moves writes pass found live = (tt, from)
      where
        from : PassFrom (draw pass d).0
        from now is =
            inl (subst (FromOld (draw pass d).0) (same_Some (record pass { drawn = range_with_len (length d.versions) (length (touched d pass.note)) }) now (sym there ∙ is))
            (record { pass = pass; found = found; same_base = refl; same_note = refl; same_reaped = refl; rebuilds = λ e. absurd (not_rebuild note.kind writes e) }))
          where
            there : found_in who (map (one_changed pass.actor (λ other. record other { drawn = range_with_len (length d.versions) (length (touched d pass.note)) })) d.passes) ≡ Some (record pass { drawn = range_with_len (length d.versions) (length (touched d pass.note)) })
            there =
                ap (λ a. found_in who (map (one_changed a (λ other. record other { drawn = range_with_len (length d.versions) (length (touched d pass.note)) })) d.passes)) (sym (pass_is who d pass found))
                ∙ changed_own who (λ other. record other { drawn = range_with_len (length d.versions) (length (touched d pass.note)) }) (λ p. refl) d.passes pass found (found_mine who d.passes pass found)

    confirm_moves : (pass : Pass) → pass_of who d ≡ Some pass → pass.reaped ≡ None → Moves (confirm pass d)
    confirm_moves pass found live =
        cond_both {A = Directory × Told} (list_all (λ pin. is_current d pin.version) pass.pinned)
        (d, Told.Current) (close_pass pass d, Told.Superseded (unwrap_or (last_change pass.note.name d.points) 0)) Moves
        (λ _. nothing_done Told.Current tt) (λ lost. (record { pass = pass; found = found; live = live; newer_is = refl; lost = lost }, closed pass _ found refl))

    commit_moves : (placed : List (List Placement)) (pass : Pass) → pass_of who d ≡ Some pass → pass.reaped ≡ None → Moves (commit placed pass d)
    commit_moves placed pass found live =
        cond_both {A = Directory × Told} (is_overtaken pass.note.kind pass.base (last_change pass.note.name d.points))
        (close_pass pass (give_up_drawn pass d), Told.Changed (unwrap_or pass.base 0) (unwrap_or (last_change pass.note.name d.points) 0))
        (commit_object placed pass (unwrap_or (find_object pass.note.name d.objects) (record { name = pass.note.name; length = 0; versions = [] })) d) Moves
        (λ e. (record { pass = pass; found = found; base_is = refl; newer_is = refl; overtaken = e }, closed pass _ found refl))
        (λ _. (tt, closed pass _ found refl))

module _ (g : Shape) (who : Actor) (note : Note) (d : Directory) (number : ℕ) (self : same_actor who who ≡ true) (of_this : (pass : Pass) → pass_of who d ≡ Some pass → pass.note ≡ note) where
  made_moves : (step : DirectoryStep) → IsCallStep note step → StepOfKind g note.kind step → DrawsOnly note.kind step → Moves who note d (made_at_directory who number step d)
  made_moves (DirectoryStep.Look other) mine kind draws =
      subst (λ (n : Note). Moves who note d (made_at_directory who number (DirectoryStep.Look n) d)) (sym mine)
      (look_moves who note d number self of_this kind (find_object note.name d.objects) (refusal d.max note (option_map (λ object. object.length) (find_object note.name d.objects))))
  made_moves (DirectoryStep.LookRepair other) mine kind draws =
      subst (λ (n : Note). Moves who note d (made_at_directory who number (DirectoryStep.LookRepair n) d)) (sym mine) (repair_moves who note d number self of_this (find_object note.name d.objects) refl)
  made_moves DirectoryStep.Draw mine kind draws = on_moves who note d number self of_this draw (draw_moves who note d number self of_this draws) (pass_of who d) refl
  made_moves (DirectoryStep.Commit placed) mine kind draws = on_moves who note d number self of_this (commit placed) (commit_moves who note d number self of_this placed) (pass_of who d) refl
  made_moves DirectoryStep.End mine kind draws = on_moves who note d number self of_this end_pass (λ pass found live. (tt, closed who note d number self of_this pass _ found refl)) (pass_of who d) refl
  made_moves DirectoryStep.Confirm mine kind draws = on_moves who note d number self of_this confirm (confirm_moves who note d number self of_this) (pass_of who d) refl
  made_moves (DirectoryStep.Repaired server epoch) mine kind draws =
      on_moves who note d number self of_this (repaired server epoch) (λ pass found live. (tt, closed who note d number self of_this pass _ found refl)) (pass_of who d) refl
  made_moves step mine kind draws = absurd mine

  -- each step of a call at the directory
  pub step_tells : (short : Bool) (step : DirectoryStep) → IsCallStep note step → StepOfKind g note.kind step → DrawsOnly note.kind step → Moves who note d (at_directory short who number step d)
  step_tells short step mine kind draws = by short (takes_memory step)
    where
      by : (short takes : Bool) → Moves who note d (unless_short short takes who number step d)
      by true true = nothing_done who note d Told.Short tt
      by true false = made_moves step mine kind draws
      by false true = made_moves step mine kind draws
      by false false = made_moves step mine kind draws
