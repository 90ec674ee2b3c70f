-- The point that an answer tells: it stands at that place, is of the call, and its event is the answer's.
use Rattle.std.proofs.Common.{◌≡◌, ℕ, Bool, true, false, nat_lt, List, [], ◌∷◌, ◌++◌, length, Option, None, Some, option_map, unwrap_or, refl, sym, subst}
use Rattle.std.proofs.lemmas.Bool.{cond_both}
use Rattle.std.specs.List.{list_all}
use Rattle.store_map.specs.declared.actor.Actor.{Actor}
use Rattle.store_map.specs.declared.placement.Placement.{Placement}
use Rattle.store_map.specs.declared.reply.Reply.{Reply}
use Rattle.store_core.specs.Act.{DirectoryStep, takes_memory}
use Rattle.store_core.specs.AtDirectory.{unless_reaped, on_pass, made_at_directory, unless_short, at_directory}
use Rattle.store_core.specs.Commit.{commit, commit_object, is_overtaken}
use Rattle.store_core.specs.Directory.{Object, Pass, Event, Point, Directory}
use Rattle.store_core.specs.Look.{begin_pass, seen_at}
use Rattle.store_core.specs.Looks.{accept, look_by, look_repair_by}
use Rattle.store_core.specs.Lookups.{find_object, pass_of, last_change, is_current}
use Rattle.store_core.specs.Note.{Note, Kind, refusal}
use Rattle.store_core.specs.PassSteps.{close_pass, give_up_drawn, draw, end_pass, confirm, repaired}
use Rattle.store_core.specs.Told.{Told}
use Rattle.run_laws.proofs.Passes.{pass_is, IsCallStep}

-- one point more, with this event
pub record Adds (who : Actor) (number : ℕ) (note : Note) (event : Event) (place : ℕ) (before after : List Point) : Type 0 where
  pub is_place : place ≡ length before
  pub added : after ≡ before ++ record { actor = who; number = number; note = note; event = event } ∷ []

-- by the answer; any other leaves the points
abbrev pub PointTold : Actor → ℕ → Note → List Point → List Point → Told → Type 0
PointTold who number note before after (Told.Answer point given) = Adds who number note (Event.Answer given) point before after
PointTold who number note before after (Told.Pinned point length_now stripes) = Adds who number note Event.Pinned point before after
PointTold who number note before after (Told.Done point) = Adds who number note Event.Done point before after
PointTold who number note before after answer = after ≡ before

module _ (who : Actor) (number : ℕ) (note : Note) (d : Directory) (of_this : (pass : Pass) → pass_of who d ≡ Some pass → (pass.number ≡ number) × (pass.note ≡ note)) where
  abbrev Tells : Directory × Told → Type 0
  Tells after = PointTold who number note d.points after.0.points after.1

  accept_told : (kind : Kind) (object : Object) → Tells (accept who number note d kind object)
  accept_told Kind.Put object = refl
  accept_told Kind.Write object = refl
  accept_told Kind.Stat object = record { is_place = refl; added = refl }
  accept_told Kind.Delete object = record { is_place = refl; added = refl }
  accept_told _ object = record { is_place = refl; added = refl }

  look_told : (found : Option Object) (refused : Option Reply) → Tells (look_by who number note d found refused)
  look_told found (Some given) = record { is_place = refl; added = refl }
  look_told found None = accept_told note.kind _

  repair_told : (found : Option Object) → Tells (look_repair_by who number note d found)
  repair_told None = refl
  repair_told (Some object) =
      cond_both {A = Directory × Told} (nat_lt note.offset (length object.versions))
      (begin_pass who number note (seen_at d object note.offset ∷ []) None d, Told.PinnedStripe (seen_at d object note.offset)) (d, Told.NoSuch) Tells (λ _. refl) (λ _. refl)

  unless_told : (step : Pass → Directory → Directory × Told) (pass : Pass) (reaped : Option ℕ) → Tells (step pass d) → Tells (unless_reaped step pass reaped d)
  unless_told step pass None h = h
  unless_told step pass (Some point) h = refl

  on_told : (step : Pass → Directory → Directory × Told) → ((pass : Pass) → pass_of who d ≡ Some pass → Tells (step pass d)) → (found : Option Pass) → pass_of who d ≡ found → Tells (on_pass step found d)
  on_told step h None e = refl
  on_told step h (Some pass) e = unless_told step pass pass.reaped (h pass e)

  confirm_told : (pass : Pass) → Tells (confirm pass d)
  confirm_told pass =
      cond_both {A = Directory × Told} (list_all (λ pin. is_current d pin.version) pass.pinned)
      (d, Told.Current) (close_pass pass d, Told.Superseded (unwrap_or (last_change pass.note.name d.points) 0)) Tells (λ _. refl) (λ _. refl)

  commit_told : (placed : List (List Placement)) (pass : Pass) → pass_of who d ≡ Some pass → Tells (commit placed pass d)
  commit_told placed pass found =
      cond_both {A = Directory × Told} (is_overtaken pass.note.kind pass.base (last_change pass.note.name d.points))
      (close_pass pass (give_up_drawn pass d), Told.Changed (unwrap_or pass.base 0) (unwrap_or (last_change pass.note.name d.points) 0))
      (commit_object placed pass (unwrap_or (find_object pass.note.name d.objects) (record { name = pass.note.name; length = 0; versions = [] })) d) Tells
      (λ _. refl)
      (λ _. record { is_place = refl; added = point_is })
    where
      mine : pass.actor ≡ who
      mine = sym (pass_is who d pass found)

      same : (pass.number ≡ number) × (pass.note ≡ note)
      same = of_this pass found

      point_is : d.points ++ record { actor = pass.actor; number = pass.number; note = pass.note; event = Event.Done } ∷ [] ≡ d.points ++ record { actor = who; number = number; note = note; event = Event.Done } ∷ []
      point_is = λ i. d.points ++ record { actor = mine i; number = same.0 i; note = same.1 i; event = Event.Done } ∷ []

module _ (who : Actor) (number : ℕ) (note : Note) (d : Directory) (of_this : (pass : Pass) → pass_of who d ≡ Some pass → (pass.number ≡ number) × (pass.note ≡ note)) where
  made_told : (step : DirectoryStep) → IsCallStep note step → Tells who number note d of_this (made_at_directory who number step d)
  made_told (DirectoryStep.Look other) mine =
      subst (λ (n : Note). Tells who number note d of_this (made_at_directory who number (DirectoryStep.Look n) d)) (sym mine)
      (look_told who number note d of_this (find_object note.name d.objects) (refusal d.max note (option_map (λ object. object.length) (find_object note.name d.objects))))
  made_told (DirectoryStep.LookRepair other) mine =
      subst (λ (n : Note). Tells who number note d of_this (made_at_directory who number (DirectoryStep.LookRepair n) d)) (sym mine) (repair_told who number note d of_this (find_object note.name d.objects))
  made_told DirectoryStep.Draw mine = on_told who number note d of_this draw (λ pass e. refl) (pass_of who d) refl
  made_told (DirectoryStep.Commit placed) mine = on_told who number note d of_this (commit placed) (commit_told who number note d of_this placed) (pass_of who d) refl
  made_told DirectoryStep.End mine = on_told who number note d of_this end_pass (λ pass e. refl) (pass_of who d) refl
  made_told DirectoryStep.Confirm mine = on_told who number note d of_this confirm (λ pass e. confirm_told who number note d of_this pass) (pass_of who d) refl
  made_told (DirectoryStep.Repaired server epoch) mine = on_told who number note d of_this (repaired server epoch) (λ pass e. refl) (pass_of who d) refl
  made_told step mine = absurd mine

  short_told : (short takes : Bool) (step : DirectoryStep) → IsCallStep note step → Tells who number note d of_this (unless_short short takes who number step d)
  short_told true true step mine = refl
  short_told true false step mine = made_told step mine
  short_told false true step mine = made_told step mine
  short_told false false step mine = made_told step mine

  -- each step of a call tells its new point, with its event
  pub points_told : (short : Bool) (step : DirectoryStep) → IsCallStep note step → PointTold who number note d.points (at_directory short who number step d).0.points (at_directory short who number step d).1
  points_told short step mine = short_told short (takes_memory step) step mine
